use Rattle.std.proofs.Common.{◌≡◌, drop}
use Rattle.std.specs.List.{list_all}
use Rattle.mig_schema.specs.declared.programs.Joined.{Joined}
use Rattle.mig_schema.specs.declared.programs.Op.TheVariants.{Eq}
use Rattle.mig_classes.specs.Given.{given}
use Rattle.mig_folding.specs.Folding.{column_of}
use Rattle.mig_folding.proofs.hosting.Hosting.join_given.Given as goal

abbrev pub invariant-loop-joined : goal.invariant-loop-joined
invariant-loop-joined l = list_all (λ (m : Joined). given l.self.scope.now l.self.groups.now.lits.now Eq (column_of l.join l.named m.left) (column_of l.join l.named m.right)) l.join.more ≡ list_all (λ (m : Joined). given l.self.scope.now l.self.groups.now.lits.now Eq (column_of l.join l.named m.left) (column_of l.join l.named m.right)) (drop l.joined-index l.join.more)
