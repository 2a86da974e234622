use Rattle.std.proofs.Common.{List, Some, sym, ap, ap₂, ◌∙◌}
use Rattle.std.specs.Option.{option_map}
use Rattle.mig_algebra.specs.declared.atoms.Var.{Var}
use Rattle.mig_algebra.specs.declared.literals.Lit.{Lit}
use Rattle.mig_folding.specs.Folding.{foldin_of}
use Rattle.mig_folding.specs.Foldins.{one_body}
use Rattle.mig_folding.proofs.viewing_bodies.foldin_views.Goals as goal

pub returns-in_ok-spread_one-in-Some : goal.returns-in_ok-spread_one-in-Some
returns-in_ok-spread_one-in-Some c =
    ap Some c.in_ok-spread_one-in-Some.ensures
    ∙ ap (option_map (one_body c.args.held))
    (sym c.in-Some.is ∙ c.in_ok-made.ensures
    ∙ ap₂ (λ (vs : List Var) (ls : List Lit). foldin_of c.args.source.now c.args.target.now c.args.numbers.now vs ls c.args.inner.now) c.as_slice-scope.ensures c.as_slice-around.ensures)
