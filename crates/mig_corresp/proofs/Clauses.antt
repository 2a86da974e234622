-- Values meet the clauses of a job exactly where what they take is a correspondence.
use Rattle.std.proofs.Common.{◌≡◌, ◌≤◌, ℕ, Bool, true, List, [], ◌∷◌, ◌++◌, map, length, refl, ap, sym, ◌∙◌, subst, inl, inr, arith}
use Rattle.std.specs.Prelude.{filter}
use Rattle.std.specs.List.{flat_map, list_any, count_by}
use Rattle.mig_schema.specs.declared.jobs.Job.{Job}
use Rattle.mig_schema.specs.declared.tables.ColId.{ColId}
use Rattle.mig_listing.specs.Listing.{IsIn}
use Rattle.mig_listing.proofs.Members.{in_append, in_append_left, in_append_right, in_flat_map, from_flat_map, in_map, from_map, in_filter, from_filter}
use Rattle.mig_sat.specs.declared.clauses.SatLit.{SatLit}
use Rattle.mig_sat.specs.Models.{value_of}
use Rattle.mig_invariant.specs.declared.corresp.ColPair.{ColPair}
use Rattle.mig_invariant.specs.declared.corresp.Corr.{Corr}
use Rattle.mig_invariant.specs.Columns.{all_columns}
use Rattle.mig_corresp.specs.Pairs.{pairs}
use Rattle.mig_corresp.specs.Used.{must_go, must_come}
use Rattle.mig_corresp.specs.Correspondences.{IsCorr, goes_from, comes_to, HasSome}
use Rattle.mig_corresp.specs.Coding.{places, triples, one_of, few_images, some_image, some_origin, clauses_over, picked}
use Rattle.mig_corresp.proofs.Couples.{SomeHolds, EachHolds, one_to, one_from, triples_to, triples_from}
use Rattle.mig_corresp.proofs.Picking.{some_picked, count_picked}
use Rattle.mig_corresp.proofs.Vectors.{taken, taken_ordered, has_some, some_has}

-- one place of those that pass is true exactly where a pair that passes is taken
one_taken : (test : ColPair → Bool) (ps : List ColPair) (m : List Bool) → length m ≡ length ps → SomeHolds m (one_of (places test 0 ps)) → HasSome (picked ps m) test
one_taken test ps m e h = has_some test (picked ps m) (sym (some_picked test ps m e) ∙ one_to m (places test 0 ps) h)

one_holds : (test : ColPair → Bool) (ps : List ColPair) (m : List Bool) → length m ≡ length ps → HasSome (picked ps m) test → SomeHolds m (one_of (places test 0 ps))
one_holds test ps m e h = one_from m (places test 0 ps) (some_picked test ps m e ∙ some_has test (picked ps m) h)

-- the three lists of clauses
abbrev few : Job → List ColPair → List (List SatLit)
few job ps = flat_map (few_images ps) (all_columns job.source)

abbrev left : Job → List ColPair → List (List SatLit)
left job ps = map (some_image ps) (filter (must_go job) (all_columns job.source))

abbrev right : Job → List ColPair → List (List SatLit)
right job ps = map (some_origin ps) (filter (must_come job) (all_columns job.target))

in_few : (job : Job) (ps : List ColPair) (c : List SatLit) → IsIn c (few job ps) → IsIn c (clauses_over job ps)
in_few job ps c i = in_append_left (few job ps ++ left job ps) (right job ps) c (in_append_left (few job ps) (left job ps) c i)

in_left : (job : Job) (ps : List ColPair) (c : List SatLit) → IsIn c (left job ps) → IsIn c (clauses_over job ps)
in_left job ps c i = in_append_left (few job ps ++ left job ps) (right job ps) c (in_append_right (few job ps) (left job ps) c i)

in_right : (job : Job) (ps : List ColPair) (c : List SatLit) → IsIn c (right job ps) → IsIn c (clauses_over job ps)
in_right job ps c i = in_append_right (few job ps ++ left job ps) (right job ps) c i

pub clauses_to : (job : Job) (m : List Bool) → length m ≡ length (pairs job) → EachHolds m (clauses_over job (pairs job)) → IsCorr job (taken job m)
clauses_to job m e h = record {
  ordered = taken_ordered job m e;
  two = λ c i.
      let le = triples_to m (places (goes_from c) 0 (pairs job)) (λ k j. h k (in_few job (pairs job) k (from_flat_map (few_images (pairs job)) (all_columns job.source) c k i j))) in
      subst (λ n. n ≤ 2) (count_picked (goes_from c) (pairs job) m e) le;
  used = λ c i t. one_taken (goes_from c) (pairs job) m e (h (some_image (pairs job) c) (in_left job (pairs job) (some_image (pairs job) c) (from_map (some_image (pairs job)) (filter (must_go job) (all_columns job.source)) c (from_filter (must_go job) (all_columns job.source) c i t))));
  onto = λ d i t. one_taken (comes_to d) (pairs job) m e (h (some_origin (pairs job) d) (in_right job (pairs job) (some_origin (pairs job) d) (from_map (some_origin (pairs job)) (filter (must_come job) (all_columns job.target)) d (from_filter (must_come job) (all_columns job.target) d i t))));
}

few_from : (job : Job) (m : List Bool) (ps : List ColPair) → length m ≡ length ps → ((c : ColId) → IsIn c (all_columns job.source) → count_by (goes_from c) (picked ps m) ≤ 2) → EachHolds m (few job ps)
few_from job m ps e two k i =
    let at = in_flat_map (few_images ps) (all_columns job.source) k i in
    let le : count_by (value_of m) (places (goes_from at.0) 0 ps) ≤ 2 = subst (λ n. n ≤ 2) (sym (count_picked (goes_from at.0) ps m e)) (two at.0 at.1) in
    triples_from m (places (goes_from at.0) 0 ps) le k at.2

left_from : (job : Job) (m : List Bool) (ps : List ColPair) → length m ≡ length ps → ((c : ColId) → IsIn c (all_columns job.source) → must_go job c ≡ true → HasSome (picked ps m) (goes_from c)) → EachHolds m (left job ps)
left_from job m ps e used k i =
    let at = in_map (some_image ps) (filter (must_go job) (all_columns job.source)) k i in
    let c = in_filter (must_go job) (all_columns job.source) at.0 at.1 in
    subst (SomeHolds m) (sym at.2) (one_holds (goes_from at.0) ps m e (used at.0 c.0 c.1))

right_from : (job : Job) (m : List Bool) (ps : List ColPair) → length m ≡ length ps → ((d : ColId) → IsIn d (all_columns job.target) → must_come job d ≡ true → HasSome (picked ps m) (comes_to d)) → EachHolds m (right job ps)
right_from job m ps e onto k i =
    let at = in_map (some_origin ps) (filter (must_come job) (all_columns job.target)) k i in
    let d = in_filter (must_come job) (all_columns job.target) at.0 at.1 in
    subst (SomeHolds m) (sym at.2) (one_holds (comes_to at.0) ps m e (onto at.0 d.0 d.1))

pub clauses_from : (job : Job) (m : List Bool) (corr : Corr) → length m ≡ length (pairs job) → picked (pairs job) m ≡ corr.pairs → IsCorr job corr → EachHolds m (clauses_over job (pairs job))
clauses_from job m corr e takes is k i = elim (in_append (few job (pairs job) ++ left job (pairs job)) (right job (pairs job)) k i) [
  | inl j ↦ elim (in_append (few job (pairs job)) (left job (pairs job)) k j) [
    | inl a ↦ few_from job m (pairs job) e (λ c n. subst (λ ps. count_by (goes_from c) ps ≤ 2) (sym takes) (is.two c n)) k a
    | inr b ↦ left_from job m (pairs job) e (λ c n t. subst (λ ps. HasSome ps (goes_from c)) (sym takes) (is.used c n t)) k b
  ]
  | inr j ↦ right_from job m (pairs job) e (λ d n t. subst (λ ps. HasSome ps (comes_to d)) (sym takes) (is.onto d n t)) k j
]
