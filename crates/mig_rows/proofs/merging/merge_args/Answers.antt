use Rattle.std.proofs.Common.{◌≡◌, ℕ, ◌+◌, length, List, [], ap, ap₂, ◌∙◌}
use Rattle.mig_algebra.specs.declared.atoms.Var.{Var}
use Rattle.mig_listing.specs.Chosen.{chosen}
use Rattle.mig_rows.specs.Merged.{may_merge}
use Rattle.mig_rows.proofs.merging.merge_args.Goals as goal

pub returns : goal.returns
returns c =
    let invs = c.args.invariants.now in
    let all : c.in_ok-all.all.items ≡ chosen (may_merge invs c.as_slice-vars.result.now) c.in-Some.count 3 c.new-none.result = c.in_ok-all.ensures in
    c.from_vec.ensures ∙ all
    ∙ ap₂ (λ (n : ℕ) (b : List ℕ). chosen (may_merge invs c.as_slice-vars.result.now) n 3 b) c.in-Some.ensures.1 c.new-none.ensures
    ∙ ap (λ (vs : List Var). chosen (may_merge invs vs) (length invs + length vs) 3 []) c.as_slice-vars.ensures
