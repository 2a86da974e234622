use Rattle.std.proofs.Common.{◌∙◌, List, ◌++◌, ap, ap₂}
use Rattle.mig_algebra.specs.declared.literals.Lit.{Lit}
use Rattle.mig_algebra.specs.Rename.{lits_with}
use Rattle.mig_classes.specs.Classes.{least}
use Rattle.mig_literals.specs.Same.{kept, unequated}
use Rattle.mig_literals.proofs.SameClasses.{classes-same}
use Rattle.mig_literals.proofs.settling.settled_lits.Goals as goal

pub returns : goal.returns
returns c =
    c.from_vec.ensures ∙ c.in_ok-append.ensures.items
    ∙ ap₂ (λ (xs ys : List Lit). xs ++ ys) (c.in_ok-all.ensures ∙ classes-same c.args.term.now.lits)
    (c.in_ok-renamed.ensures
    ∙ ap₂ (λ (ls xs : List Lit). lits_with (least ls) kept xs) c.requires (c.as_slice-2.ensures.value ∙ c.in_ok-others.ensures ∙ ap unequated c.as_slice.ensures))
