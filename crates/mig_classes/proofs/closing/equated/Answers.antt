use Rattle.std.proofs.Common.{◌∙◌, List, [], ◌∷◌, ◌++◌, take, sym, ap}
use Rattle.mig_algebra.specs.declared.atoms.Atom.{Atom}
use Rattle.mig_algebra.specs.declared.literals.Lit.{Lit}
use Rattle.mig_classes.specs.Classes.{equated}
use Rattle.mig_classes.proofs.Grouped.{equated-more}
use Rattle.mig_classes.proofs.closing.equated.Goals as goal

pub loop-lit-preserved : goal.loop-lit-preserved
loop-lit-preserved c =
    c.in_ok-push_sides.ensures ∙ ap (λ (xs : List Atom). xs ++ equated (c.lit-item.result ∷ [])) c.loop-lit.invariant
    ∙ sym (equated-more c.args.lits.now c.loop-lit.lit-index c.lit-item.result c.loop-lit-test.true
    ∙ ap (λ (x : Lit). equated (take c.loop-lit.lit-index c.args.lits.now) ++ equated (x ∷ [])) (sym c.lit-item.is))
