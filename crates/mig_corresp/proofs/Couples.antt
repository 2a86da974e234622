-- Clauses of which each has a true literal: one of some variables is true, at most two of some are.
use Rattle.std.proofs.Common.{◌≡◌, ◌⊎◌, ℕ, ◌+◌, ◌<◌, ◌≤◌, Bool, true, false, ◌||◌, List, [], ◌∷◌, ◌++◌, map, length, get_or, refl, ap, sym, ◌∙◌, subst, inl, inr, arith, suc, zero, All, Any}
use Rattle.std.specs.List.{list_any, count_by}
use Rattle.std.proofs.lemmas.Bool.{cases_Bool, false≢true, or_cases, or_left, or_right}
use Rattle.mig_listing.specs.Listing.{IsIn}
use Rattle.mig_listing.proofs.Members.{in_append, in_append_left, in_append_right, in_map}
use Rattle.mig_sat.specs.declared.clauses.SatLit.{SatLit}
use Rattle.mig_sat.specs.Models.{HoldsLit, value_of}
use Rattle.mig_corresp.specs.Coding.{one_of, thirds, couples, triples}
use Rattle.mig_corresp.proofs.Picking.{count_true, count_false}

-- some literal of the list is true
abbrev pub SomeHolds : List Bool → List SatLit → Type 0
SomeHolds m [] = ⊥
SomeHolds m (l ∷ ls) = HoldsLit m l ⊎ SomeHolds m ls

to_some : (m : List Bool) (ls : List SatLit) (k : ℕ) (x : SatLit) → k < length ls → get_or ls k x ≡ x → HoldsLit m x → SomeHolds m ls
to_some m [] k x lt is h = absurd (omega (arith, lt))
to_some m (l ∷ ls) zero x lt is h = inl (subst (HoldsLit m) (sym is) h)
to_some m (l ∷ ls) (suc k) x lt is h = inr (to_some m ls k x (omega (arith, lt)) is h)

pub some_of : (m : List Bool) (ls : List SatLit) → Any (HoldsLit m) ls → SomeHolds m ls
some_of m ls h = to_some m ls h.0 h.1 h.2 h.3 h.4

pub any_of : (m : List Bool) (ls : List SatLit) → SomeHolds m ls → Any (HoldsLit m) ls
any_of m [] h = absurd h
any_of m (l ∷ ls) h = elim h [
  | inl here ↦ (0, l, omega arith, refl, here)
  | inr later ↦ let a = any_of m ls later in (suc a.0, a.1, omega (arith, a.2), a.3, a.4)
]

-- each of the clauses has one
abbrev pub EachHolds : List Bool → List (List SatLit) → Type 0
EachHolds m cs = (c : List SatLit) → IsIn c cs → SomeHolds m c

place_of : {A : Type 0} (x : A) (xs : List A) → IsIn x xs → (k : ℕ) × (k < length xs) × ((d : A) → get_or xs k d ≡ x)
place_of x [] i = absurd i
place_of x (y ∷ xs) i = elim i [
  | inl e ↦ (0, omega arith, λ d. sym e)
  | inr j ↦ let rest = place_of x xs j in (suc rest.0, omega (arith, rest.1), rest.2)
]

at_place : {A : Type 0} (xs : List A) (k : ℕ) (d : A) → k < length xs → IsIn (get_or xs k d) xs
at_place [] k d lt = absurd (omega (arith, lt))
at_place (x ∷ xs) zero d lt = inl refl
at_place (x ∷ xs) (suc k) d lt = inr (at_place xs k d (omega (arith, lt)))

pub each_of : (m : List Bool) (cs : List (List SatLit)) → All (Any (HoldsLit m)) cs → EachHolds m cs
each_of m cs all c i = let at = place_of c cs i in some_of m c (subst (Any (HoldsLit m)) (at.2 []) (all at.0 [] at.1))

pub all_of : (m : List Bool) (cs : List (List SatLit)) → EachHolds m cs → All (Any (HoldsLit m)) cs
all_of m cs each k d lt = any_of m (get_or cs k d) (each (get_or cs k d) (at_place cs k d lt))

-- one of these is true
pub one_to : (m : List Bool) (ns : List ℕ) → SomeHolds m (one_of ns) → list_any (value_of m) ns ≡ true
one_to m [] h = absurd h
one_to m (n ∷ ns) h = elim h [
  | inl here ↦ or_left (value_of m n) (list_any (value_of m) ns) here
  | inr later ↦ or_right (value_of m n) (list_any (value_of m) ns) (one_to m ns later)
]

pub one_from : (m : List Bool) (ns : List ℕ) → list_any (value_of m) ns ≡ true → SomeHolds m (one_of ns)
one_from m [] e = absurd (false≢true e)
one_from m (n ∷ ns) e = elim (or_cases (value_of m n) (list_any (value_of m) ns) e) [ inl h ↦ inl h | inr h ↦ inr (one_from m ns h) ]

count_some : (m : List Bool) (n : ℕ) (ns : List ℕ) → count_by (value_of m) ns ≤ count_by (value_of m) (n ∷ ns)
count_some m n ns = elim (cases_Bool (value_of m n)) [
  | inl t ↦ let e = count_true (value_of m) n ns t in omega (arith, e)
  | inr f ↦ let e = count_false (value_of m) n ns f in omega (arith, e)
]

-- where none counts, each is false
none_counts : (m : List Bool) (ns : List ℕ) (n : ℕ) → IsIn n ns → count_by (value_of m) ns ≤ 0 → value_of m n ≡ false
none_counts m [] n i le = absurd i
none_counts m (k ∷ ns) n i le = elim (cases_Bool (value_of m k)) [
  | inl t ↦ let e = count_true (value_of m) k ns t in absurd (omega (arith, e, le))
  | inr f ↦ let more = count_some m k ns in elim i [ inl e ↦ ap (value_of m) e ∙ f | inr j ↦ none_counts m ns n j (omega (arith, more, le)) ]
]

-- two variables and each of the others
third_false : (m : List Bool) (a b n : ℕ) → SomeHolds m (record { var = a; positive = false } ∷ record { var = b; positive = false } ∷ record { var = n; positive = false } ∷ []) → value_of m a ≡ true → value_of m b ≡ true → value_of m n ≡ false
third_false m a b n h ta tb = elim h [
  | inl x ↦ absurd (false≢true (sym x ∙ ta))
  | inr r ↦ elim r [
    | inl y ↦ absurd (false≢true (sym y ∙ tb))
    | inr s ↦ elim s [ inl z ↦ z | inr none ↦ absurd none ]
  ]
]

thirds_to : (m : List Bool) (a b : ℕ) (ns : List ℕ) → EachHolds m (thirds a b ns) → value_of m a ≡ true → value_of m b ≡ true → count_by (value_of m) ns ≤ 0
thirds_to m a b [] h ta tb = omega arith
thirds_to m a b (n ∷ ns) h ta tb =
    let e = count_false (value_of m) n ns (third_false m a b n (h (record { var = a; positive = false } ∷ record { var = b; positive = false } ∷ record { var = n; positive = false } ∷ []) (inl refl)) ta tb) in
    let rest = thirds_to m a b ns (λ c i. h c (inr i)) ta tb in
    omega (arith, e, rest)

couples_to : (m : List Bool) (a : ℕ) (ns : List ℕ) → EachHolds m (couples a ns) → value_of m a ≡ true → count_by (value_of m) ns ≤ 1
couples_to m a [] h ta = omega arith
couples_to m a (b ∷ ns) h ta = elim (cases_Bool (value_of m b)) [
  | inl tb ↦
      let none = thirds_to m a b ns (λ c i. h c (in_append_left (thirds a b ns) (couples a ns) c i)) ta tb in
      let e = count_true (value_of m) b ns tb in
      omega (arith, e, none)
  | inr fb ↦
      let rest = couples_to m a ns (λ c i. h c (in_append_right (thirds a b ns) (couples a ns) c i)) ta in
      let e = count_false (value_of m) b ns fb in
      omega (arith, e, rest)
]

-- at most two of these are true
pub triples_to : (m : List Bool) (ns : List ℕ) → EachHolds m (triples ns) → count_by (value_of m) ns ≤ 2
triples_to m [] h = omega arith
triples_to m (a ∷ ns) h = elim (cases_Bool (value_of m a)) [
  | inl ta ↦
      let one = couples_to m a ns (λ c i. h c (in_append_left (couples a ns) (triples ns) c i)) ta in
      let e = count_true (value_of m) a ns ta in
      omega (arith, e, one)
  | inr fa ↦
      let rest = triples_to m ns (λ c i. h c (in_append_right (couples a ns) (triples ns) c i)) in
      let e = count_false (value_of m) a ns fa in
      omega (arith, e, rest)
]

thirds_from : (m : List Bool) (a b : ℕ) (ns : List ℕ) → (value_of m a ≡ true → value_of m b ≡ true → count_by (value_of m) ns ≤ 0) → EachHolds m (thirds a b ns)
thirds_from m a b ns h c i =
    let at = in_map (λ (n : ℕ). record { var = a; positive = false } ∷ record { var = b; positive = false } ∷ record { var = n; positive = false } ∷ []) ns c i in
    let holds : SomeHolds m (record { var = a; positive = false } ∷ record { var = b; positive = false } ∷ record { var = at.0; positive = false } ∷ []) =
    elim (cases_Bool (value_of m a)) [
      | inl ta ↦ elim (cases_Bool (value_of m b)) [
        | inl tb ↦ inr (inr (inl (none_counts m ns at.0 at.1 (h ta tb))))
        | inr fb ↦ inr (inl fb)
      ]
      | inr fa ↦ inl fa
    ] in
    subst (SomeHolds m) (sym at.2) holds

couples_from : (m : List Bool) (a : ℕ) (ns : List ℕ) → (value_of m a ≡ true → count_by (value_of m) ns ≤ 1) → EachHolds m (couples a ns)
couples_from m a [] h c i = absurd i
couples_from m a (b ∷ ns) h c i = elim (in_append (thirds a b ns) (couples a ns) c i) [
  | inl j ↦ thirds_from m a b ns (λ ta tb. let e = count_true (value_of m) b ns tb in let le = h ta in omega (arith, e, le)) c j
  | inr j ↦ couples_from m a ns (λ ta. let more = count_some m b ns in let le = h ta in omega (arith, more, le)) c j
]

pub triples_from : (m : List Bool) (ns : List ℕ) → count_by (value_of m) ns ≤ 2 → EachHolds m (triples ns)
triples_from m [] le c i = absurd i
triples_from m (a ∷ ns) le c i = elim (in_append (couples a ns) (triples ns) c i) [
  | inl j ↦ couples_from m a ns (λ ta. let e = count_true (value_of m) a ns ta in omega (arith, e, le)) c j
  | inr j ↦ let more = count_some m a ns in triples_from m ns (omega (arith, more, le)) c j
]
