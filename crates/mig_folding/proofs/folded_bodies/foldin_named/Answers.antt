-- The fold's own variables are the body's, and begin behind those in scope around it.
use Rattle.std.proofs.Common.{List, ℕ, ap₂, ◌∙◌}
use Rattle.mig_algebra.specs.declared.atoms.Var.{Var}
use Rattle.mig_folding.specs.Folding.{folded_body}
use Rattle.mig_folding.proofs.folded_bodies.foldin_named.Goals as goal

pub returns : goal.returns
returns c =
    c.in_ok-made.ensures
    ∙ ap₂ (λ (n : ℕ) (vs : List Var). folded_body (record { base = n; vars = vs; named = c.args.named.now.numbers.now; source = c.args.named.now.source.now; target = c.args.target.now }) c.args.inner.now) c.in_ok-base.ensures c.as_slice-vars.ensures
