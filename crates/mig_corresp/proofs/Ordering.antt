-- The order of correspondences is an order, and of two different ones one comes first.
use Rattle.std.proofs.Common.{◌≡◌, ◌⊎◌, ℕ, ℤ, ◌<◌, Bool, true, false, List, [], ◌∷◌, ◌++◌, map, length, refl, ap, sym, ◌∙◌, inl, inr, arith, suc, zero}
use Rattle.std.specs.Prelude.{◌<ℤ◌, pos, negsuc}
use Rattle.std.proofs.lemmas.Bool.{cases_order}
use Rattle.std.proofs.lemmas.Int.{ints}
use Rattle.std.proofs.lemmas.List.{length-map}
use Rattle.mig_schema.specs.declared.jobs.Job.{Job}
use Rattle.mig_listing.specs.Listing.{IsListOf}
use Rattle.mig_listing.specs.Fronts.{IsFront}
use Rattle.mig_listing.specs.Orders.{IsOrder, IsTotalOn, TrueFirst, Lex}
use Rattle.mig_listing.proofs.Orders.{Lex-order, Lex-cases, FirstBy-order, FirstBy-total, true_first_order, true_first_total}
use Rattle.mig_listing.proofs.Unique as unique
use Rattle.mig_listing.proofs.Fronts.{front_is_first}
use Rattle.mig_sat.specs.Models.{IsBefore, value_of}
use Rattle.mig_invariant.specs.declared.corresp.Corr.{Corr}
use Rattle.mig_corresp.specs.Pairs.{pairs}
use Rattle.mig_corresp.specs.Weights.{weight_of}
use Rattle.mig_corresp.specs.Correspondences.{has, IsCorr, RanksBefore, vector_of}
use Rattle.mig_corresp.proofs.Vectors.{one_vector}

abbrev Falls : ℤ → ℤ → Type 0
Falls x y = y <ℤ x

falling_order : IsOrder Falls
falling_order = record { never = λ x h. omega (arith, ints, h); on = λ x y z h k. omega (arith, ints, h, k) }

falling_total : (a b : ℤ) → (a ≡ b) ⊎ (Falls a b ⊎ Falls b a)
falling_total (pos m) (pos n) = elim (cases_order m n) [
  | inl e ↦ inl (ap pos e)
  | inr o ↦ elim o [ inl h ↦ inr (inr (omega (arith, ints, h))) | inr h ↦ inr (inl (omega (arith, ints, h))) ]
]
falling_total (pos m) (negsuc n) = inr (inl (omega (arith, ints)))
falling_total (negsuc m) (pos n) = inr (inr (omega (arith, ints)))
falling_total (negsuc m) (negsuc n) = elim (cases_order m n) [
  | inl e ↦ inl (ap negsuc e)
  | inr o ↦ elim o [ inl h ↦ inr (inl (omega (arith, ints, h))) | inr h ↦ inr (inr (omega (arith, ints, h))) ]
]

abbrev Earlier : Job → Corr → Corr → Type 0
Earlier job a b = Lex TrueFirst (vector_of job a) (vector_of job b)

abbrev weight : Job → Corr → ℤ
weight job c = weight_of job c.pairs

earlier_order : (job : Job) → IsOrder (Earlier job)
earlier_order job = let o = Lex-order true_first_order in record { never = λ a h. o.never (vector_of job a) h; on = λ a b c h k. o.on (vector_of job a) (vector_of job b) (vector_of job c) h k }

pub rank_order : (job : Job) → IsOrder (RanksBefore job)
rank_order job = FirstBy-order (weight job) {R = Falls} {S = Earlier job} falling_order (earlier_order job)

vectors_alike : (job : Job) (a b : Corr) → length (vector_of job a) ≡ length (vector_of job b)
vectors_alike job a b = length-map (pairs job) (has a) ∙ sym (length-map (pairs job) (has b))

earlier_total : (job : Job) → IsTotalOn (IsCorr job) (Earlier job)
earlier_total job = λ a b is js. elim (Lex-cases {R = TrueFirst} true_first_total (vector_of job a) (vector_of job b) (vectors_alike job a b)) [
  | inl same ↦ inl (one_vector job a b is js same)
  | inr order ↦ inr order
]

pub rank_total : (job : Job) → IsTotalOn (IsCorr job) (RanksBefore job)
rank_total job = FirstBy-total (weight job) (IsCorr job) {R = Falls} {S = Earlier job} falling_total (earlier_total job)

same_below : (x y : Bool) (o m : List Bool) (p v : ℕ) → x ≡ y → ((w : ℕ) → w < p → value_of o w ≡ value_of m w) → v < suc p → value_of (x ∷ o) v ≡ value_of (y ∷ m) v
same_below x y o m p zero e h lt = e
same_below x y o m p (suc v) e h lt = h v (omega (arith, lt))

-- what is earlier comes before for the solver too
pub lex_before : (o m : List Bool) → Lex TrueFirst o m → IsBefore o m
lex_before [] m h = absurd h
lex_before (x ∷ o) [] h = absurd h
lex_before (x ∷ o) (y ∷ m) h = elim h [
  | inl r ↦ record { place = 0; here = r.0; there = r.1; same = λ v lt. absurd (omega (arith, lt)) }
  | inr t ↦
      let b = lex_before o m t.1 in
      record { place = suc b.place; here = b.here; there = b.there; same = λ v lt. same_below x y o m b.place v t.0 b.same lt }
]

pub one_ranking : (job : Job) (xs ys : List Corr) → IsListOf (IsCorr job) (RanksBefore job) xs → IsListOf (IsCorr job) (RanksBefore job) ys → xs ≡ ys
one_ranking job xs ys h k = unique.one_listing {P = IsCorr job} {R = RanksBefore job} (rank_order job) xs ys h k

pub ranked_in_turn : (job : Job) (all given : List Corr) → IsListOf (IsCorr job) (RanksBefore job) all → IsFront (IsCorr job) (RanksBefore job) given → (rest : List Corr) × (all ≡ given ++ rest)
ranked_in_turn job all given h f = front_is_first {P = IsCorr job} {R = RanksBefore job} (rank_order job) given all f h
