use Rattle.std.proofs.Common.{List, ap, ap₂, sym, ◌∙◌}
use Rattle.mig_algebra.specs.declared.atoms.Var.{Var}
use Rattle.mig_algebra.specs.declared.literals.Lit.{Lit}
use Rattle.mig_classes.specs.Given.{is_given}
use Rattle.mig_steps.specs.Seeing.{seen}
use Rattle.mig_literals.specs.Implied.{goes}
use Rattle.mig_literals.proofs.implying.goes.Goals as goal

pub returns-in_ok-given-in-Cmp : goal.returns-in_ok-given-in-Cmp
returns-in_ok-given-in-Cmp c =
    let s = seen c.args.spot.now in
    c.in_ok-given-in-Cmp.ensures
    ∙ ap₂ (λ (vs : List Var) (ls : List Lit). is_given vs ls c.args.lit.now) c.as_slice.ensures c.as_slice-in-Cmp.ensures
    ∙ ap (is_given s.scope s.around) c.in-Cmp.is
    ∙ sym (ap (goes s) c.in-Cmp.is)
