-- The fold's own variables are the term's.
use Rattle.std.proofs.Common.{List, ap, ◌∙◌}
use Rattle.mig_algebra.specs.declared.atoms.Var.{Var}
use Rattle.mig_folding.specs.Folding.{folded}
use Rattle.mig_folding.proofs.folded_terms.fold_named.Goals as goal

pub returns : goal.returns
returns c =
    c.in_ok-made.ensures
    ∙ ap (λ (vs : List Var). folded (record { base = 0; vars = vs; named = c.args.named.now.numbers.now; source = c.args.named.now.source.now; target = c.args.target.now }) c.args.term.now) c.as_slice-vars.ensures
