use Rattle.std.proofs.Common.{◌≡◌, ℕ, ◌+◌, List, ◌++◌, map, sym, ap, ◌∙◌, arith, append_assoc}
use Rattle.std.specs.List.{flat_map, range_with_len}
use Rattle.std.proofs.lemmas.List.{map-append}
use Rattle.mig_listing.specs.Choices.{choices}
use Rattle.mig_sketch.specs.Options.{delete_from}
use Rattle.mig_sketch.proofs.Ranges.{flat_map-range}
use Rattle.mig_sketch.proofs.deletes.add_all_deletes.Goals as goal

pub loop-smaller-preserved : goal.loop-smaller-preserved
loop-smaller-preserved c =
    let tables = c.args.tables.now in
    let n = c.loop-smaller.smaller in
    let write = delete_from c.args.tree.now c.args.cond.now in
    let size : 1 + n ≡ n + 1 = omega arith in
    let here : c.as_slice.result.now ≡ choices (n + 1) tables = c.as_slice.ensures.value ∙ c.in_ok-sets.ensures in
    c.in_ok-add_deletes.ensures
    ∙ ap (λ (sets : List (List ℕ)). c.loop-smaller.options ++ map (delete_from c.args.tree.now c.args.cond.now) sets) here
    ∙ ap (λ options. options ++ map (delete_from c.args.tree.now c.args.cond.now) (choices (n + 1) tables)) c.loop-smaller.invariant
    ∙ append_assoc c.args.options.now (map (delete_from c.args.tree.now c.args.cond.now) (flat_map (λ k. choices k tables) (range_with_len 1 n))) (map (delete_from c.args.tree.now c.args.cond.now) (choices (n + 1) tables))
    ∙ ap (λ options. c.args.options.now ++ options)
    (sym (map-append (delete_from c.args.tree.now c.args.cond.now) (flat_map (λ k. choices k tables) (range_with_len 1 n)) (choices (n + 1) tables))
    ∙ ap (map (delete_from c.args.tree.now c.args.cond.now)) (ap (λ (k : ℕ). flat_map (λ m. choices m tables) (range_with_len 1 n) ++ choices k tables) (sym size) ∙ sym (flat_map-range (λ k. choices k tables) 1 n)))
