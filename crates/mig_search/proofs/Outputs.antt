-- The views among the candidates have outputs, and no more than there are pairs of columns of one kind.
use Rattle.std.proofs.Common.{◌≡◌, ℕ, zero, suc, ◌≤◌, true, false, Bool, ◌&&◌, List, [], ◌∷◌, ◌++◌, take, length, refl, sym, subst, inl, inr, arith, length-append}
use Rattle.std.specs.Prelude.{filter}
use Rattle.std.specs.List.{flat_map, list_any, zip}
use Rattle.std.proofs.lemmas.Bool.{and_parts, both_ways, cases_Bool, or_cases}
use Rattle.std.proofs.lemmas.List.{length-map}
use Rattle.mig_schema.specs.declared.faults.Side.{Side}
use Rattle.mig_schema.specs.declared.faults.Side.TheVariants.{Old, New}
use Rattle.mig_schema.specs.declared.jobs.Job.{Job}
use Rattle.mig_schema.specs.declared.programs.Join.{Join}
use Rattle.mig_schema.specs.declared.programs.Joined.{Joined}
use Rattle.mig_schema.specs.declared.programs.Program.{Program}
use Rattle.mig_schema.specs.declared.tables.ColId.{ColId}
use Rattle.mig_schema.specs.declared.tables.Schema.{Schema}
use Rattle.mig_schema.specs.Columns.{kind_of, same_col, same_kind}
use Rattle.mig_schema.specs.Joins.{is_among, tables_of}
use Rattle.mig_listing.specs.Listing.{IsIn}
use Rattle.mig_listing.proofs.Members.{in_append, in_filter, in_flat_map, in_map}
use Rattle.mig_meaning.specs.declared.relating.Invariant.{Invariant}
use Rattle.mig_meaning.specs.declared.relating.Invariant.TheVariants.{Unique, Apart, Within}
use Rattle.mig_invariant.specs.declared.corresp.ColPair.{ColPair}
use Rattle.mig_invariant.specs.declared.corresp.Corr.{Corr}
use Rattle.mig_invariant.specs.Candidates.{are_equated, aparts, aparts_from, candidates, differs, equalities_of, facts, is_key_or_equated, is_of_earlier, joined_columns, joins_of, listed, once, outputs, outputs_from, uniques, views, views_with, withins, withins_from}
use Rattle.mig_invariant.specs.Columns.{all_columns, is_key}
use Rattle.mig_invariant.specs.Images.{images_among, is_pair}
use Rattle.mig_corresp.specs.Pairs.{pairs, pairs_among}
use Rattle.mig_corresp.proofs.Distinct.{same_column}
use Rattle.mig_prover.specs.Proving.{KeepsKinds}
use Rattle.mig_search.specs.Finds.{HasOutputs}

-- ---- how many

-- what passes one test in a part of a list is no more than what passes a weaker one in all of it
part_few : {A : Type 0} (p w q : A → Bool) (xs : List A) → ((x : A) → p x ≡ true → q x ≡ true) → length (filter p (filter w xs)) ≤ length (filter q xs)
part_few p w q [] h = omega arith
part_few p w q (x ∷ xs) h =
    let le = part_few p w q xs h in
    elim (cases_Bool (w x)) [
      | inr f ↦ elim (cases_Bool (q x)) [ inl t ↦ rw f (rw t (omega (arith, le))) | inr g ↦ rw f (rw g le) ]
      | inl t ↦ elim (cases_Bool (p x)) [
        | inl u ↦ let v = h x u in rw t (rw u (rw v (omega (arith, le))))
        | inr f ↦ elim (cases_Bool (q x)) [ inl v ↦ rw t (rw f (rw v (omega (arith, le)))) | inr g ↦ rw t (rw f (rw g le)) ]
      ]
    ]

flat_few : {A B : Type 0} (f g : A → List B) (w : A → Bool) (xs : List A) → ((x : A) → length (f x) ≤ length (g x)) → length (flat_map f (filter w xs)) ≤ length (flat_map g xs)
flat_few f g w [] h = omega arith
flat_few f g w (x ∷ xs) h =
    let le = flat_few f g w xs h in
    let here = h x in
    elim (cases_Bool (w x)) [
      | inl t ↦ rw t (omega (arith, le, here, length-append (f x) (flat_map f (filter w xs)), length-append (g x) (flat_map g xs)))
      | inr f' ↦ rw f' (omega (arith, le, length-append (g x) (flat_map g xs)))
    ]

-- an old column and its image are of one kind
pair_kind : (job : Job) (c d : ColId) (ps : List ColPair) → ((q : ColPair) → IsIn q ps → same_kind (kind_of job.source q.source) (kind_of job.target q.target) ≡ true) → list_any (λ (p : ColPair). same_col p.source c && same_col p.target d) ps ≡ true → same_kind (kind_of job.source c) (kind_of job.target d) ≡ true
pair_kind job c d [] each h = absurd (both_ways false refl h)
pair_kind job c d (p ∷ ps) each h = elim (or_cases (same_col p.source c && same_col p.target d) (list_any (λ (p : ColPair). same_col p.source c && same_col p.target d) ps) h) [
  | inl here ↦
      let parts = and_parts (same_col p.source c) (same_col p.target d) here in
      subst (λ x. same_kind (kind_of job.source x) (kind_of job.target d) ≡ true) (same_column p.source c parts.0)
      (subst (λ y. same_kind (kind_of job.source p.source) (kind_of job.target y) ≡ true) (same_column p.target d parts.1) (each p (inl refl)))
  | inr more ↦ pair_kind job c d ps (λ q i. each q (inr i)) more
]

-- a view has no more outputs than there are pairs
outputs_few : (job : Job) (corr : Corr) (old new : Join) → KeepsKinds job corr → length (outputs (all_columns job.source) (all_columns job.target) corr old new) ≤ length (pairs job)
outputs_few job corr old new kinds =
    let targets : List ColId = all_columns job.target in
    let among : List ColId = joined_columns targets new in
    flat_few (outputs_from among corr) (pairs_among job targets) (λ (c : ColId). is_among c.table (tables_of old)) (all_columns job.source)
    (λ c.
    let le = part_few (is_pair corr c) (λ (d : ColId). is_among d.table (tables_of new)) (λ (d : ColId). same_kind (kind_of job.source c) (kind_of job.target d)) targets (λ d h. pair_kind job c d corr.pairs kinds.each h) in
    let paired : ColId → ColPair = λ d. record { source = c; target = d } in
    omega (arith, le, length-map (images_among among corr c) paired, length-map (filter (λ (d : ColId). same_kind (kind_of job.source c) (kind_of job.target d)) targets) paired))

-- ---- candidates

once_in : (xs : List Invariant) (z : Invariant) → IsIn z (once xs) → IsIn z xs
once_in [] z i = absurd i
once_in (x ∷ xs) z i = elim i [ inl e ↦ inl e | inr j ↦ inr (once_in xs z (in_filter (differs x) (once xs) z j).0) ]

from_take : {A : Type 0} (n : ℕ) (xs : List A) (x : A) → IsIn x (take n xs) → IsIn x xs
from_take zero xs x i = absurd i
from_take (suc n) [] x i = absurd i
from_take (suc n) (y ∷ xs) x i = elim i [ inl e ↦ inl e | inr j ↦ inr (from_take n xs x j) ]

with_outputs : (job : Job) (old new : Join) (ps : List ColPair) → length ps ≤ length (pairs job) → (z : Invariant) → IsIn z (views_with old new ps) → HasOutputs job z
with_outputs job old new [] few z i = absurd i
with_outputs job old new (p ∷ ps) few z i =
    let sources = length-map (p ∷ ps) (λ (q : ColPair). q.source) in
    let targets = length-map (p ∷ ps) (λ (q : ColPair). q.target) in
    elim i [
      | inl e ↦ subst (HasOutputs job) (sym e) (omega arith, omega (arith, few, sources), omega arith, omega (arith, few, targets))
      | inr none ↦ absurd none
    ]

views_outputs : (job : Job) (corr : Corr) → KeepsKinds job corr → (olds news : List Join) (z : Invariant) → IsIn z (views (all_columns job.source) (all_columns job.target) corr olds news) → HasOutputs job z
views_outputs job corr kinds olds news z i =
    let sources = all_columns job.source in
    let targets = all_columns job.target in
    let f = in_flat_map (λ (j : Join × Join). views_with j.0 j.1 (outputs sources targets corr j.0 j.1)) (zip olds news) z i in
    with_outputs job f.0.0 f.0.1 (outputs sources targets corr f.0.0 f.0.1) (outputs_few job corr f.0.0 f.0.1 kinds) z f.2

uniques_outputs : (job : Job) (side : Side) (s : Schema) (columns : List ColId) (ms : List Joined) (z : Invariant) → IsIn z (uniques side s columns ms) → HasOutputs job z
uniques_outputs job side s columns ms z i = let m = in_map (λ (c : ColId). Unique side c) (filter (is_key_or_equated s ms) columns) z i in subst (HasOutputs job) (sym m.2) tt

aparts_outputs : (job : Job) (side : Side) (columns among : List ColId) (z : Invariant) → IsIn z (flat_map (aparts_from side columns) among) → HasOutputs job z
aparts_outputs job side columns among z i =
    let f = in_flat_map (aparts_from side columns) among z i in
    let m = in_map (λ (d : ColId). Apart side f.0 d) (filter (is_of_earlier f.0) columns) z f.2 in
    subst (HasOutputs job) (sym m.2) tt

withins_outputs : (job : Job) (side : Side) (ms : List Joined) (columns : List ColId) (z : Invariant) → IsIn z (withins side ms columns) → HasOutputs job z
withins_outputs job side ms columns z i =
    let f = in_flat_map (withins_from side ms columns) columns z i in
    let m = in_map (λ (d : ColId). Within side f.0 d) (filter (are_equated ms f.0) columns) z f.2 in
    subst (HasOutputs job) (sym m.2) tt

-- what holds of each item of two lists holds of each item of both
in_both : (job : Job) (xs ys : List Invariant) → ((z : Invariant) → IsIn z xs → HasOutputs job z) → ((z : Invariant) → IsIn z ys → HasOutputs job z) → (z : Invariant) → IsIn z (xs ++ ys) → HasOutputs job z
in_both job xs ys f g z i = elim (in_append xs ys z i) [ inl j ↦ f z j | inr j ↦ g z j ]

facts_outputs : (job : Job) (sources targets : List ColId) (olds news : List Joined) (z : Invariant) → IsIn z (facts job sources targets olds news) → HasOutputs job z
facts_outputs job sources targets olds news =
    let a = uniques Old job.source sources olds in
    let b = uniques New job.target targets news in
    let c = aparts Old job.source sources in
    let d = aparts New job.target targets in
    let e = withins Old olds sources in
    let f = withins New news targets in
    in_both job ((((a ++ b) ++ c) ++ d) ++ e) f
    (in_both job (((a ++ b) ++ c) ++ d) e
    (in_both job ((a ++ b) ++ c) d
    (in_both job (a ++ b) c
    (in_both job a b (uniques_outputs job Old job.source sources olds) (uniques_outputs job New job.target targets news))
    (aparts_outputs job Old (filter (is_key job.source) sources) (filter (is_key job.source) sources)))
    (aparts_outputs job New (filter (is_key job.target) targets) (filter (is_key job.target) targets)))
    (withins_outputs job Old olds sources))
    (withins_outputs job New news targets)

pub listed_outputs : (job : Job) (corr : Corr) (p : Program) → KeepsKinds job corr → (z : Invariant) → IsIn z (candidates job corr p) → HasOutputs job z
listed_outputs job corr p kinds z i =
    let sources = all_columns job.source in
    let targets = all_columns job.target in
    let olds = joins_of job.program in
    let news = joins_of p in
    let all = listed job corr sources targets olds news in
    in_both job (views sources targets corr olds news) (facts job sources targets (equalities_of olds) (equalities_of news))
    (views_outputs job corr kinds olds news) (facts_outputs job sources targets (equalities_of olds) (equalities_of news))
    z (once_in all z (from_take 4096 (once all) z i))
