use Rattle.mig_classes.proofs.Classed.{class-equivalence, class-equated, class-least}
use Rattle.mig_classes.proofs.LeastAtoms.{class-member, class-first}
use Rattle.mig_classes.proofs.laws.classes_are_the_least_equivalence.Goals as goal

pub returns : goal.returns
returns c = record {
  equivalence = class-equivalence;
  equated = class-equated;
  every = λ ls a b same q h k. class-least same q ls h a b k;
  member = class-member;
  first = class-first;
}
