use Rattle.std.proofs.Common.{◌∙◌, sym, ap, List}
use Rattle.std.specs.List.{list_all}
use Rattle.mig_algebra.specs.declared.terms.Term.{Term}
use Rattle.mig_algebra.specs.Scope.{term_scoped}
use Rattle.mig_algebra.proofs.scoping.is_scoped.Goals as goal

pub returns : goal.returns
returns c =
    let e = c.terms_scoped.ensures ∙ ap (λ (ts : List Term). list_all term_scoped ts) c.as_slice.ensures in
    (λ h. record { terms = sym e ∙ h }, λ r. e ∙ r.terms)
