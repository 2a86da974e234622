-- The functions of some calls, collected.
use Rattle.std.proofs.Common.{◌≡◌, ◌⊎◌, ℕ, nat_lt, true, List, [], ◌∷◌, ◌++◌, filter, refl, ap, sym, ◌∙◌, subst, inl, inr, arith}
use Rattle.std.proofs.lemmas.Bool.{lt-ltb, ltb-true}
use Rattle.mig_listing.specs.Listing.{IsListOf}
use Rattle.mig_listing.specs.Orders.{Less}
use Rattle.mig_listing.proofs.Listings.{listed_append, listed_as, listed_filter, listed_one}
use Rattle.mig_listing.proofs.Members.{in_append, in_append_left, in_append_right}
use Rattle.mig_listing.proofs.Orders.{less_total}
use Rattle.mig_meaning.specs.declared.calling.Invocation.{Invocation}
use Rattle.mig_failing.specs.Blaming.{IsBlamed, with_number}

pub none_blamed : IsListOf (IsBlamed []) Less []
none_blamed = record { rises = tt; holds = λ f i. absurd i; has = λ f h. absurd h.stands }

-- one more number, in its place
put_in : {P : ℕ → Type 0} (ns : List ℕ) (n : ℕ) → IsListOf P Less ns → IsListOf (λ m. (P m × (nat_lt m n ≡ true)) ⊎ ((m ≡ n) ⊎ (P m × (nat_lt n m ≡ true)))) Less (with_number ns n)
put_in {P} ns n l =
    listed_append {P = λ m. P m × (nat_lt m n ≡ true)} {Q = λ m. (m ≡ n) ⊎ (P m × (nat_lt n m ≡ true))} {R = Less} (filter (λ m. nat_lt m n) ns) (n ∷ filter (λ m. nat_lt n m) ns)
    (listed_filter {P = P} {R = Less} (λ m. nat_lt m n) ns l)
    (listed_append {P = λ m. m ≡ n} {Q = λ m. P m × (nat_lt n m ≡ true)} {R = Less} (n ∷ []) (filter (λ m. nat_lt n m) ns)
    (listed_one {R = Less} n)
    (listed_filter {P = P} {R = Less} (λ m. nat_lt n m) ns l)
    (λ x y e q. subst (λ z. Less z y) (sym e) (ltb-true n y q.1)))
    (λ x y p h. let lt = ltb-true x n p.1 in elim h [ inl e ↦ subst (Less x) (sym e) lt | inr q ↦ let gt = ltb-true n y q.1 in omega (arith, lt, gt) ])

pub one_more_blamed : (calls : List Invocation) (i : Invocation) (ns : List ℕ) → IsListOf (IsBlamed calls) Less ns → IsListOf (IsBlamed (calls ++ i ∷ [])) Less (with_number ns i.function)
one_more_blamed calls i ns l = listed_as {P = λ m. (IsBlamed calls m × (nat_lt m i.function ≡ true)) ⊎ ((m ≡ i.function) ⊎ (IsBlamed calls m × (nat_lt i.function m ≡ true)))} {Q = IsBlamed (calls ++ i ∷ [])} {R = Less} (with_number ns i.function) (put_in {P = IsBlamed calls} ns i.function l)
    (λ f h. elim h [
      | inl p ↦ still f p.0
      | inr k ↦ elim k [ inl e ↦ record { by = i; stands = in_append_right calls (i ∷ []) i (inl refl); is = e } | inr q ↦ still f q.0 ]
    ])
    (λ f h. elim (in_append calls (i ∷ []) h.by h.stands) [
      | inl there ↦ placed f (record { by = h.by; stands = there; is = h.is })
      | inr here ↦ elim here [ inl e ↦ inr (inl (h.is ∙ ap (λ (x : Invocation). x.function) e)) | inr none ↦ absurd none ]
    ])
  where
    still : (f : ℕ) → IsBlamed calls f → IsBlamed (calls ++ i ∷ []) f
    still f b = record { by = b.by; stands = in_append_left calls (i ∷ []) b.by b.stands; is = b.is }

    placed : (f : ℕ) → IsBlamed calls f → (IsBlamed calls f × (nat_lt f i.function ≡ true)) ⊎ ((f ≡ i.function) ⊎ (IsBlamed calls f × (nat_lt i.function f ≡ true)))
    placed f b = elim (less_total f i.function) [
      | inl e ↦ inr (inl e)
      | inr r ↦ elim r [ inl lt ↦ inl (b, lt-ltb f i.function lt) | inr lt ↦ inr (inr (b, lt-ltb i.function f lt)) ]
    ]
