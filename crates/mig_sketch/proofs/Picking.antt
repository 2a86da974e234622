-- What is picked at the holes of a function: one option of each of its places.
use Rattle.std.proofs.Common.{◌≡◌, ℕ, ◌+◌, ◌<◌, zero, suc, cond, List, [], ◌∷◌, ◌++◌, refl, sym, ap, ◌∙◌, subst, inl, inr, arith}
use Rattle.std.specs.Prelude.{Some, slice_get, slice_index_or}
use Rattle.std.specs.List.{AllZip}
use Rattle.std.proofs.lemmas.Bool.{eq-eqb, ne_eqb}
use Rattle.std.proofs.lemmas.Option.{same_Some, none-some}
use Rattle.mig_base.specs.Lists.{numbered}
use Rattle.mig_listing.specs.Listing.{IsIn}
use Rattle.mig_schema.specs.declared.jobs.Job.{Job}
use Rattle.mig_schema.specs.declared.programs.Function.{Function}
use Rattle.mig_invariant.specs.declared.corresp.Corr.{Corr}
use Rattle.mig_sketch.specs.declared.plans.Hole.{Hole}
use Rattle.mig_sketch.specs.declared.plans.Part.{Part}
use Rattle.mig_sketch.specs.Choices.{IsChoice, sizes_of}
use Rattle.mig_sketch.specs.Filling.{no_part, picked_parts}
use Rattle.mig_sketch.specs.Labels.{free_labels}
use Rattle.mig_sketch.specs.Made.{Place, OptionsAt, AreHoles, parts_of, place_at, places_in, places_from}
use Rattle.mig_sketch.proofs.Tests.{read_in}

-- ---- places

numbered_place : (f : ℕ) (free : List ℕ) (n : ℕ) (ps : List Part) (p : Place) → IsIn p (numbered (place_at f free) n ps) → p.function ≡ f
numbered_place f free n [] p i = absurd i
numbered_place f free n (x ∷ xs) p i = elim i [ inl e ↦ ap (λ (q : Place). q.function) e | inr j ↦ numbered_place f free (n + 1) xs p j ]

-- the places of function f
own_place : (f : ℕ) (x : Function) (p : Place) → IsIn p (places_in f x.body) → p.function ≡ f
own_place f x p i = numbered_place f (free_labels x.body) 0 (parts_of x.body) p i

module _ (job : Job) (corr : Corr) where
  -- a part is an option of a place
  pub record IsPicked (p : Place) (x : Part) : Type 0 where
    pub options : List Part
    pub are : OptionsAt job corr p options
    pub one : IsIn x options

  module _ (f : ℕ) where
    -- what is picked at a hole of f
    own_hole : (h : Hole) (hs : List Hole) (k : ℕ) (ks : List ℕ) → h.function ≡ f → picked_parts f (h ∷ hs) (k ∷ ks) ≡ slice_index_or h.options k no_part ∷ picked_parts f hs ks
    own_hole h hs k ks e = ap (λ b. cond b (slice_index_or h.options k no_part ∷ picked_parts f hs ks) (picked_parts f hs ks)) (eq-eqb h.function f e)

    other_hole : (h : Hole) (hs : List Hole) (k : ℕ) (ks : List ℕ) → (h.function ≡ f → ⊥) → picked_parts f (h ∷ hs) (k ∷ ks) ≡ picked_parts f hs ks
    other_hole h hs k ks e = ap (λ b. cond b (slice_index_or h.options k no_part ∷ picked_parts f hs ks) (picked_parts f hs ks)) (ne_eqb h.function f e)

    -- at places of f, where nothing is picked behind them
    picked_own : (ps qs : List Place) (hs : List Hole) (ks : List ℕ) → AreHoles job corr (ps ++ qs) hs → IsChoice (sizes_of hs) ks → ((p : Place) → IsIn p ps → p.function ≡ f)
        → ((gs : List Hole) (js : List ℕ) → AreHoles job corr qs gs → IsChoice (sizes_of gs) js → picked_parts f gs js ≡ [])
        → AllZip IsPicked ps (picked_parts f hs ks)
    picked_own [] qs hs ks a c own none = subst (AllZip IsPicked []) (sym (none hs ks a c)) tt
    picked_own (p ∷ ps) qs [] ks a c own none = absurd a
    picked_own (p ∷ ps) qs (h ∷ hs) [] a c own none = absurd c
    picked_own (p ∷ ps) qs (h ∷ hs) (k ∷ ks) a c own none =
        subst (AllZip IsPicked (p ∷ ps)) (sym (own_hole h hs k ks (a.0.function ∙ own p (inl refl))))
        (record { options = h.options; are = a.0.options; one = read_in h.options k no_part c.0 }, picked_own ps qs hs ks a.1 c.1 (λ q i. own q (inr i)) none)

    -- at places of other functions nothing is picked
    picked_others : (Q : List Part → Type 0) (ps qs : List Place) (hs : List Hole) (ks : List ℕ) → AreHoles job corr (ps ++ qs) hs → IsChoice (sizes_of hs) ks → ((p : Place) → IsIn p ps → p.function ≡ f → ⊥)
        → ((gs : List Hole) (js : List ℕ) → AreHoles job corr qs gs → IsChoice (sizes_of gs) js → Q (picked_parts f gs js))
        → Q (picked_parts f hs ks)
    picked_others Q [] qs hs ks a c others rest = rest hs ks a c
    picked_others Q (p ∷ ps) qs [] ks a c others rest = absurd a
    picked_others Q (p ∷ ps) qs (h ∷ hs) [] a c others rest = absurd c
    picked_others Q (p ∷ ps) qs (h ∷ hs) (k ∷ ks) a c others rest =
        subst Q (sym (other_hole h hs k ks (λ e. others p (inl refl) (sym a.0.function ∙ e))))
        (picked_others Q ps qs hs ks a.1 c.1 (λ q i. others q (inr i)) rest)

    -- nor at those of later functions
    picked_later : (n : ℕ) (xs : List Function) (hs : List Hole) (ks : List ℕ) → f < n → AreHoles job corr (places_from n xs) hs → IsChoice (sizes_of hs) ks → picked_parts f hs ks ≡ []
    picked_later n [] [] ks lt a c = refl
    picked_later n [] (h ∷ hs) ks lt a c = absurd a
    picked_later n (x ∷ xs) hs ks lt a c = picked_others (λ ps. ps ≡ []) (places_in n x.body) (places_from (n + 1) xs) hs ks a c
        (λ p i e. let own = own_place n x p i in absurd (omega (arith, own, e, lt)))
        (λ gs js b d. picked_later (n + 1) xs gs js (omega (arith, lt)) b d)

    -- so one option of each place of f is picked
    pub picked_at : (n i : ℕ) (xs : List Function) (x : Function) (hs : List Hole) (ks : List ℕ) → f ≡ n + i → slice_get xs i ≡ Some x → AreHoles job corr (places_from n xs) hs → IsChoice (sizes_of hs) ks → AllZip IsPicked (places_in f x.body) (picked_parts f hs ks)
    picked_at n i [] x hs ks e at a c = absurd (none-some x at)
    picked_at n zero (y ∷ ys) x hs ks e at a c =
        let same : n ≡ f = omega (arith, e) in
        subst (λ (z : Function). AllZip IsPicked (places_in f z.body) (picked_parts f hs ks)) (same_Some y x at)
        (picked_own (places_in f y.body) (places_from (n + 1) ys) hs ks (subst (λ m. AreHoles job corr (places_in m y.body ++ places_from (n + 1) ys) hs) same a) c (own_place f y)
        (λ gs js b d. picked_later (n + 1) ys gs js (omega (arith, e)) b d))
    picked_at n (suc i) (y ∷ ys) x hs ks e at a c = picked_others (λ ps. AllZip IsPicked (places_in f x.body) ps) (places_in n y.body) (places_from (n + 1) ys) hs ks a c
        (λ p j own. let here = own_place n y p j in absurd (omega (arith, here, own, e)))
        (λ gs js b d. picked_at (n + 1) i ys x gs js (omega (arith, e)) at b d)
