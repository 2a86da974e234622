-- The functions that a failing list blames, by their names and as a test.
use Rattle.std.proofs.Common.{◌≡◌, ℕ, ◌+◌, Bool, true, false, cond, List, [], ◌∷◌, eqb, refl, ap, sym, ◌∙◌, subst, inl, inr}
use Rattle.std.proofs.lemmas.Bool.{both_ways, or_cases, or_left, or_right, eqb-true, eq-eqb}
use Rattle.mig_schema.specs.Joins.{is_among}
use Rattle.mig_listing.specs.Listing.{IsIn, IsListOf}
use Rattle.mig_listing.specs.Orders.{Less}
use Rattle.mig_meaning.specs.declared.calling.Invocation.{Invocation}
use Rattle.mig_failing.specs.Blaming.{IsBlamed}
use Rattle.mig_sketch.specs.declared.plans.Hole.{Hole}
use Rattle.mig_search.specs.Blaming.{is_called}
use Rattle.mig_search.specs.Blocking.{picks_at}

among_in : (f : ℕ) (ns : List ℕ) → is_among f ns ≡ true → IsIn f ns
among_in f [] h = absurd (both_ways false refl h)
among_in f (n ∷ ns) h = elim (or_cases (eqb n f) (is_among f ns) h) [
  | inl e ↦ inl (sym (eqb-true n f e))
  | inr more ↦ inr (among_in f ns more)
]

in_among : (f : ℕ) (ns : List ℕ) → IsIn f ns → is_among f ns ≡ true
in_among f [] i = absurd i
in_among f (n ∷ ns) i = elim i [
  | inl e ↦ or_left (eqb n f) (is_among f ns) (eq-eqb n f (sym e))
  | inr more ↦ or_right (eqb n f) (is_among f ns) (in_among f ns more)
]

-- one call of these is of the function
called_blamed : (calls : List Invocation) (f : ℕ) → is_called calls f ≡ true → IsBlamed calls f
called_blamed [] f h = absurd (both_ways false refl h)
called_blamed (c ∷ calls) f h = elim (or_cases (eqb c.function f) (is_called calls f) h) [
  | inl e ↦ record { by = c; stands = inl refl; is = sym (eqb-true c.function f e) }
  | inr more ↦ let b = called_blamed calls f more in record { by = b.by; stands = inr b.stands; is = b.is }
]

pub called_in : (calls : List Invocation) (c : Invocation) (f : ℕ) → IsIn c calls → f ≡ c.function → is_called calls f ≡ true
called_in [] c f i e = absurd i
called_in (d ∷ calls) c f i e = elim i [
  | inl same ↦ or_left (eqb d.function f) (is_called calls f) (eq-eqb d.function f (ap (λ (x : Invocation). x.function) (sym same) ∙ sym e))
  | inr more ↦ or_right (eqb d.function f) (is_called calls f) (called_in calls c f more e)
]

same_truth : (a b : Bool) → (a ≡ true → b ≡ true) → (b ≡ true → a ≡ true) → a ≡ b
same_truth true b to back = sym (to refl)
same_truth false true to back = back refl
same_truth false false to back = refl

-- the functions that are blamed are those that are called
pub blamed_called : (calls : List Invocation) (ns : List ℕ) → IsListOf (IsBlamed calls) Less ns → (f : ℕ) → is_among f ns ≡ is_called calls f
blamed_called calls ns l f = same_truth (is_among f ns) (is_called calls f)
    (λ t. let b = l.holds f (among_in f ns t) in called_in calls b.by f b.stands b.is)
    (λ t. in_among f ns (l.has f (called_blamed calls f t)))

cond_same : {A : Type 0} (a b : Bool) (x y z w : A) → a ≡ b → x ≡ z → y ≡ w → cond a x y ≡ cond b z w
cond_same true b x y z w e f g = subst (λ t. x ≡ cond t z w) e f
cond_same false b x y z w e f g = subst (λ t. y ≡ cond t z w) e g

-- equal tests, equal picks
pub picks_same : (n : ℕ) (hs : List Hole) (f g : ℕ → Bool) (ps : List ℕ) → ((x : ℕ) → f x ≡ g x) → picks_at n hs f ps ≡ picks_at n hs g ps
picks_same n [] f g ps h = refl
picks_same n (x ∷ hs) f g [] h = refl
picks_same n (x ∷ hs) f g (p ∷ ps) h =
    let more = picks_same (n + 1) hs f g ps h in
    cond_same (f x.function) (g x.function) (record { hole = n; option = p } ∷ picks_at (n + 1) hs f ps) (picks_at (n + 1) hs f ps) (record { hole = n; option = p } ∷ picks_at (n + 1) hs g ps) (picks_at (n + 1) hs g ps) (h x.function) (ap (λ t. record { hole = n; option = p } ∷ t) more) more
