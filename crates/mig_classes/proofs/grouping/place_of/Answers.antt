use Rattle.std.proofs.Common.{rules, pos}
use Rattle.std.proofs.lemmas.Fn.{always_returns_same}
use Rattle.mig_algebra.specs.declared.atoms.Atom.TheVariants.{Int}
use Rattle.mig_algebra.specs.Atoms.{atom_order}
use Rattle.mig_algebra.proofs.OrderLaws.{atom_tie}
use Rattle.mig_classes.specs.Forests.{atom_of}
use Rattle.mig_classes.proofs.Rising.{not-missed}
use Rattle.mig_classes.proofs.grouping.place_of.Goals as goal

pub returns-in-Ok-clause-is : goal.returns-in-Ok-clause-is
returns-in-Ok-clause-is c =
    atom_tie (atom_of c.args.atoms.now c.in-Ok.at) c.args.atom.now
    (c.in-Ok.ensures.position (λ y. atom_order y c.args.atom.now) (always_returns_same _ _ _ (λ a r f k. search rules)) (Int (pos 0)))

pub returns-in-Err-clause-within : goal.returns-in-Err-clause-within
returns-in-Err-clause-within c = λ i.
    not-missed c.args.atoms.now c.args.atom.now c.in-Err.passed c.requires i
    (c.in-Err.ensures.position (λ y. atom_order y c.args.atom.now) (always_returns_same _ _ _ (λ a r f k. search rules)))

pub returns-in-Err-clause-is : goal.returns-in-Err-clause-is
returns-in-Err-clause-is c = λ i.
    not-missed c.args.atoms.now c.args.atom.now c.in-Err.passed c.requires i
    (c.in-Err.ensures.position (λ y. atom_order y c.args.atom.now) (always_returns_same _ _ _ (λ a r f k. search rules)))
