use Rattle.std.proofs.Common.{◌≡◌, ℕ, ◌+◌, length, List, [], ap, ap₂, ◌∙◌}
use Rattle.mig_algebra.specs.declared.atoms.Var.{Var}
use Rattle.mig_listing.specs.Chosen.{chosen}
use Rattle.mig_rows.specs.Inside.{may_be_inside}
use Rattle.mig_rows.proofs.insides.inside_in.Goals as goal

pub returns : goal.returns
returns c =
    let invs = c.args.invariants.now in
    let scope = c.args.scope.now in
    let all : c.in_ok-all.all.items ≡ chosen (may_be_inside invs scope c.as_slice-vars.result.now) c.in-Some-checked_add.count 3 c.new-none.result = c.in_ok-all.ensures in
    let count = c.in-Some-checked_add.ensures.1 ∙ ap (λ (n : ℕ). length invs + n) c.in-Some.ensures.1 in
    c.from_vec.ensures ∙ all
    ∙ ap₂ (λ (n : ℕ) (b : List ℕ). chosen (may_be_inside invs scope c.as_slice-vars.result.now) n 3 b) count c.new-none.ensures
    ∙ ap (λ (vs : List Var). chosen (may_be_inside invs scope vs) (length invs + (length scope + length vs)) 3 []) c.as_slice-vars.ensures
