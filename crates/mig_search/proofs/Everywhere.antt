-- Each completion of a plan that was looked through whole has an entry, or is passed over.
use Rattle.std.proofs.Common.{◌≡◌, ◌⊎◌, ℕ, true, List, [], ◌∷◌, refl, sym, subst, inl, inr, arith}
use Rattle.std.proofs.lemmas.Bool.{cases_Bool, both_ways, cases_eq, cases_lt}
use Rattle.mig_schema.specs.declared.jobs.Job.{Job}
use Rattle.mig_meaning.specs.declared.calling.Calls.{Calls}
use Rattle.mig_listing.specs.Listing.{IsIn}
use Rattle.mig_listing.specs.Orders.{Less, Lex}
use Rattle.mig_invariant.specs.declared.corresp.Corr.{Corr}
use Rattle.mig_sketch.specs.declared.plans.Hole.{Hole}
use Rattle.mig_sketch.specs.declared.plans.Plan.{Plan}
use Rattle.mig_sketch.specs.Choices.{IsChoice}
use Rattle.mig_sketch.specs.Choices.{sizes_of}
use Rattle.mig_search.specs.declared.outcomes.Tried.{Tried}
use Rattle.mig_search.specs.declared.outcomes.Tried.TheVariants.{Refuted, Unproved, NoOption, Wide}
use Rattle.mig_search.specs.Blaming.{is_called, agrees}
use Rattle.mig_search.specs.Looking.{Looked, picks_of, IsPassedOver, AreAllLooked}

-- whether one list stands before another
decide_lex : (xs ys : List ℕ) → Lex Less xs ys ⊎ (Lex Less xs ys → ⊥)
decide_lex [] ys = inr (λ h. h)
decide_lex (a ∷ xs) [] = inr (λ h. h)
decide_lex (a ∷ xs) (b ∷ ys) = elim (cases_lt a b) [
  | inl lt ↦ inl (inl lt)
  | inr ge ↦ elim (cases_eq a b) [
    | inl e ↦ elim (decide_lex xs ys) [
      | inl more ↦ inl (inr (e, more))
      | inr none ↦ inr (λ h. elim h [ inl lt ↦ omega (arith, lt, ge) | inr t ↦ none t.1 ])
    ]
    | inr ne ↦ inr (λ h. elim h [ inl lt ↦ omega (arith, lt, ge) | inr t ↦ ne t.0 ])
  ]
]

-- it is refuted by a list on whose functions both agree
IsAlike : List Hole → Tried → List ℕ → List ℕ → Type 0
IsAlike hs entry xs ys = (calls : Calls) × (entry ≡ Refuted calls) × (agrees hs (is_called calls.calls) xs ys ≡ true)

decide_alike : (hs : List Hole) (entry : Tried) (xs ys : List ℕ) → IsAlike hs entry xs ys ⊎ (IsAlike hs entry xs ys → ⊥)
unfolding IsAlike
decide_alike hs (Refuted calls) xs ys = elim (cases_Bool (agrees hs (is_called calls.calls) xs ys)) [
  | inl t ↦ inl (calls, refl, t)
  | inr f ↦ inr (λ h. let e : calls ≡ h.0 = cc (h.1) in both_ways (agrees hs (is_called calls.calls) xs ys) f (subst (λ (x : Calls). agrees hs (is_called x.calls) xs ys ≡ true) (sym e) h.2))
]
decide_alike hs (Unproved q) xs ys = inr (λ h. let e : Unproved q ≡ Refuted h.0 = h.1 in cc (e))
decide_alike hs (NoOption q) xs ys = inr (λ h. let e : NoOption q ≡ Refuted h.0 = h.1 in cc (e))
decide_alike hs (Wide q) xs ys = inr (λ h. let e : Wide q ≡ Refuted h.0 = h.1 in cc (e))

-- whether a completion is passed over
pub decide_passed : (hs : List Hole) (seen : List Looked) (picks : List ℕ) → IsPassedOver hs seen picks ⊎ (IsPassedOver hs seen picks → ⊥)
unfolding IsAlike
decide_passed hs [] picks = inr (λ p. p.seen_before)
decide_passed hs (l ∷ seen) picks =
    let here : IsPassedOver hs (l ∷ seen) picks ⊎ ((Lex Less l.picks picks × IsAlike hs l.entry l.picks picks) → ⊥) = elim (decide_lex l.picks picks) [
      | inl earlier ↦ elim (decide_alike hs l.entry l.picks picks) [
        | inl a ↦ inl (record { by = l; seen_before = inl refl; earlier = earlier; calls = a.0; refuted = a.1; agree = a.2 })
        | inr none ↦ inr (λ t. none t.1)
      ]
      | inr none ↦ inr (λ t. none t.0)
    ] in
    elim here [
      | inl p ↦ inl p
      | inr not_here ↦ elim (decide_passed hs seen picks) [
        | inl p ↦ inl (record { by = p.by; seen_before = inr p.seen_before; earlier = p.earlier; calls = p.calls; refuted = p.refuted; agree = p.agree })
        | inr not_more ↦ inr (λ p. elim p.seen_before [
          | inl e ↦ not_here (subst (λ (x : Looked). Lex Less x.picks picks × IsAlike hs x.entry x.picks picks) e (p.earlier, (p.calls, p.refuted, p.agree)))
          | inr i ↦ not_more (record { by = p.by; seen_before = i; earlier = p.earlier; calls = p.calls; refuted = p.refuted; agree = p.agree })
        ])
      ]
    ]

-- so each completion was looked at or is passed over
pub each_completion : (job : Job) (corr : Corr) (tests : ℕ) (plan : Plan) (seen : List Looked) (picks : List ℕ) → AreAllLooked job corr tests plan seen → IsChoice (sizes_of plan.holes) picks → IsIn picks (picks_of seen) ⊎ IsPassedOver plan.holes seen picks
each_completion job corr tests plan seen picks a c = elim (decide_passed plan.holes seen picks) [
  | inl p ↦ inr p
  | inr none ↦ inl (a.all.has picks (record { choice = c; open_yet = none }))
]
