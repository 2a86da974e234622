use Rattle.std.proofs.Common.{◌≡◌, map, refl, sym, ap, ◌∙◌, subst}
use Rattle.std.specs.Prelude.{◌==◌}
use Rattle.std.proofs.lemmas.List.{take_all}
use Rattle.std.proofs.lemmas.List.Filters.{dedup_is}
use Rattle.std.proofs.lemmas.List.Kept.{Contains-dedup_nat, Contains-from_dedup}
use Rattle.std.proofs.lemmas.List.Sorted.{Contains-permutation, IsPermutation-sym}
use Rattle.std.proofs.lemmas.Map.Keys.{IsStrictlyIncreasing-dedup}
use Rattle.mig_meaning.specs.Lists.{AllDifferent, has}
use Rattle.mig_meaning.specs.Rows.{JoinRow, row_in}
use Rattle.mig_meaning.proofs.Maps.{any-map}
use Rattle.mig_calls.proofs.ChangeLemmas.{same-bool, has-contains, contains-has, increasing-different}
use Rattle.mig_calls.proofs.changing.ids_in.Goals as goal

pub returns-clause-different : goal.returns-clause-different
returns-clause-different c =
    let is = dedup_is _ _ _ c.dedup.ensures.filtered in
    subst AllDifferent (sym is) (increasing-different _ (IsStrictlyIncreasing-dedup _ c.sort_unstable.ensures.sorted))

pub returns-clause-members : goal.returns-clause-members
returns-clause-members c =
    let is = dedup_is _ _ _ c.dedup.ensures.filtered in
    let moved = c.sort_unstable.ensures.permutation in
    let id_of = λ (e : JoinRow). (row_in c.args.tables.now e c.args.t).id in
    let all : c.loop-row.ids.items ≡ map id_of c.args.met.now = c.loop-row.invariant ∙ ap (map id_of) (take_all c.loop-row.row-index c.args.met.now c.loop-row-test.false) in
    λ id.
    ap (λ ids. has ids id) is
    ∙ (same-bool _ (has c.loop-row.ids.items id)
    (λ h. contains-has _ id (Contains-permutation _ _ id (IsPermutation-sym _ _ moved) (Contains-from_dedup _ _ id (has-contains _ id h))))
    (λ h. contains-has _ id (Contains-dedup_nat _ id (Contains-permutation _ _ id moved (has-contains _ id h))))
    ∙ (ap (λ ids. has ids id) all ∙ any-map (λ l. l == id) id_of (λ e. id_of e == id) (λ e. refl) c.args.met.now))
