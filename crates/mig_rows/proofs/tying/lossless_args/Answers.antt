use Rattle.std.proofs.Common.{◌≡◌, ℕ, ◌+◌, length, List, [], ap, ap₂, ◌∙◌}
use Rattle.mig_algebra.specs.declared.atoms.Var.{Var}
use Rattle.mig_listing.specs.Chosen.{chosen}
use Rattle.mig_rows.specs.Lossless.{may_lose}
use Rattle.mig_rows.proofs.tying.lossless_args.Goals as goal

pub returns : goal.returns
returns c =
    let invs = c.args.invariants.now in
    let all : c.in_ok-all.all.items ≡ chosen (may_lose invs c.as_slice-vars.result.now) c.in-Some.count 4 c.new-none.result = c.in_ok-all.ensures in
    c.from_vec.ensures ∙ all
    ∙ ap₂ (λ (n : ℕ) (b : List ℕ). chosen (may_lose invs c.as_slice-vars.result.now) n 4 b) c.in-Some.ensures.1 c.new-none.ensures
    ∙ ap (λ (vs : List Var). chosen (may_lose invs vs) (length invs + length vs) 4 []) c.as_slice-vars.ensures
