-- The lists that are gone through are all test lists, in order.
use Rattle.std.proofs.Common.{◌≡◌, ◌⊎◌, ℕ, ◌+◌, ◌<◌, Bool, true, false, not, List, [], ◌∷◌, ◌++◌, length, get_or, refl, ap, sym, ◌∙◌, subst, inl, inr, arith, suc, zero}
use Rattle.std.proofs.lemmas.Bool.{cases_Bool, both_ways}
use Rattle.std.proofs.lemmas.List.{append_assoc, length-append}
use Rattle.mig_schema.specs.declared.programs.Function.{Function}
use Rattle.mig_schema.specs.declared.programs.Program.{Program}
use Rattle.mig_listing.specs.Choices.{numbers}
use Rattle.mig_listing.specs.Listing.{IsIn, Rises, IsListOf}
use Rattle.mig_listing.specs.Orders.{Less, Lex}
use Rattle.mig_listing.proofs.Choices.{listed_numbers}
use Rattle.mig_listing.proofs.Listings.{listed_as, listed_append, listed_flat_map, listed_map}
use Rattle.mig_listing.proofs.Orders.{Lex-append, Lex-same_front}
use Rattle.mig_meaning.specs.Run.{no_function}
use Rattle.mig_store.specs.Runs.{is_query}
use Rattle.mig_failing.specs.Made.{alike, test_call, calls_by, calls_from, test_calls, below, all_lists}
use Rattle.mig_failing.specs.Tests.{TestCall, IsTestCall, IsTestList, CallBefore, TestBefore}

-- ---- calls

-- a call of function f
abbrev IsCallOf : ℕ → TestCall → Type 0
IsCallOf f c = (v : ℕ) × (v < 3) × (c ≡ test_call f v)

-- a call of one of these functions, numbered from n on
abbrev IsFrom : Bool → ℕ → List Function → TestCall → Type 0
IsFrom query n fs c = (k : ℕ) × (c.function ≡ n + k) × (k < length fs) × (is_query (get_or fs k no_function).body ≡ query) × (c.variant < 3)

alike_true : (a b : Bool) → alike a b ≡ true → a ≡ b
alike_true true true h = refl
alike_true true false h = absurd (both_ways false refl h)
alike_true false true h = absurd (both_ways false refl h)
alike_true false false h = refl

alike_itself : (a b : Bool) → a ≡ b → alike a b ≡ true
alike_itself true b e = sym e
alike_itself false b e = ap not (sym e)

listed_by : (f : ℕ) → IsListOf (IsCallOf f) CallBefore (calls_by f)
listed_by f = listed_map {P = λ v. v < 3} {R = Less} {S = CallBefore} (test_call f) (numbers 3) (listed_numbers 3) (λ a b lt. inr (refl, lt))

-- one later function
later : (query : Bool) (n : ℕ) (f : Function) (fs : List Function) (c : TestCall) → IsFrom query (n + 1) fs c → IsFrom query n (f ∷ fs) c
later query n f fs c h = (suc h.0, h.1 ∙ (let e : n + 1 + h.0 ≡ n + suc h.0 = omega arith in e), omega (arith, h.2), h.3, h.4)

first_or_later : (query : Bool) (n : ℕ) (f : Function) (fs : List Function) (c : TestCall) → IsFrom query n (f ∷ fs) c → ((is_query f.body ≡ query) × IsCallOf n c) ⊎ IsFrom query (n + 1) fs c
first_or_later query n f fs c (zero, at, l, same, v) = let e : c.function ≡ n = omega (arith, at) in inl (same, (c.variant, v, ap (λ m. test_call m c.variant) e))
first_or_later query n f fs c (suc k, at, l, same, v) = inr (k, at ∙ (let e : n + suc k ≡ n + 1 + k = omega arith in e), omega (arith, l), same, v)

listed_from : (query : Bool) (n : ℕ) (fs : List Function) → IsListOf (IsFrom query n fs) CallBefore (calls_from query n fs)
listed_from query n [] = record { rises = tt; holds = λ c i. absurd i; has = λ c h. absurd (omega (arith, h.2)) }
listed_from query n (f ∷ fs) = elim (cases_Bool (alike (is_query f.body) query)) [
  | inl t ↦ rw t (listed_as {P = λ c. IsCallOf n c ⊎ IsFrom query (n + 1) fs c} {Q = IsFrom query n (f ∷ fs)} {R = CallBefore} (calls_by n ++ calls_from query (n + 1) fs)
      (listed_append {P = IsCallOf n} {Q = IsFrom query (n + 1) fs} {R = CallBefore} (calls_by n) (calls_from query (n + 1) fs) (listed_by n) (listed_from query (n + 1) fs)
      (λ c d p q. let e = ap (λ (x : TestCall). x.function) p.2 in inl (omega (arith, e, q.1))))
      (λ c h. elim h [ inl p ↦ (0, ap (λ (x : TestCall). x.function) p.2 ∙ (let e : n ≡ n + 0 = omega arith in e), omega arith, alike_true (is_query f.body) query t, subst (λ (x : TestCall). x.variant < 3) (sym p.2) p.1) | inr q ↦ later query n f fs c q ])
      (λ c h. elim (first_or_later query n f fs c h) [ inl p ↦ inl p.1 | inr q ↦ inr q ]))
  | inr o ↦ rw o (listed_as {P = IsFrom query (n + 1) fs} {Q = IsFrom query n (f ∷ fs)} {R = CallBefore} (calls_from query (n + 1) fs) (listed_from query (n + 1) fs)
      (λ c h. later query n f fs c h)
      (λ c h. elim (first_or_later query n f fs c h) [ inl p ↦ absurd (both_ways (alike (is_query f.body) query) o (alike_itself (is_query f.body) query p.0)) | inr q ↦ q ]))
]

pub listed_calls : (p : Program) (query : Bool) → IsListOf (IsTestCall p query) CallBefore (test_calls p query)
listed_calls p query = listed_as {P = IsFrom query 0 p.functions} {Q = IsTestCall p query} (test_calls p query) (listed_from query 0 p.functions)
    (λ c h. let e : h.0 ≡ c.function = omega (arith, h.1) in record {
      function = subst (λ k. k < length p.functions) e h.2;
      sort = subst (λ k. is_query (get_or p.functions k no_function).body ≡ query) e h.3;
      variant = h.4;
    })
    (λ c h. (c.function, (let e : c.function ≡ 0 + c.function = omega arith in e), h.function, h.sort, h.variant))

-- ---- lists

-- it begins so, and goes on with n updates and a query
abbrev IsUnder : Program → ℕ → List TestCall → List TestCall → Type 0
IsUnder p zero before l = (q : TestCall) × IsTestCall p true q × (l ≡ before ++ q ∷ [])
IsUnder p (suc n) before l = (c : TestCall) × IsTestCall p false c × IsUnder p n (before ++ c ∷ []) l

-- what it goes on with
record GoesOn (p : Program) (n : ℕ) (before l : List TestCall) : Type 0 where
  pub updates : List TestCall
  pub query : TestCall
  pub are : l ≡ before ++ (updates ++ query ∷ [])
  pub many : length updates ≡ n
  pub each : (c : TestCall) → IsIn c updates → IsTestCall p false c
  pub last : IsTestCall p true query

under_goes : (p : Program) (n : ℕ) (before l : List TestCall) → IsUnder p n before l → GoesOn p n before l
under_goes p zero before l h = record { updates = []; query = h.0; are = h.2; many = refl; each = λ c i. absurd i; last = h.1 }
under_goes p (suc n) before l h = let g = under_goes p n (before ++ h.0 ∷ []) l h.2 in record {
  updates = h.0 ∷ g.updates;
  query = g.query;
  are = g.are ∙ append_assoc before (h.0 ∷ []) (g.updates ++ g.query ∷ []);
  many = ap suc g.many;
  each = λ c i. elim i [ inl e ↦ subst (IsTestCall p false) (sym e) h.1 | inr j ↦ g.each c j ];
  last = g.last;
}

goes_under : (p : Program) (before us : List TestCall) (q : TestCall) → ((c : TestCall) → IsIn c us → IsTestCall p false c) → IsTestCall p true q → IsUnder p (length us) before (before ++ (us ++ q ∷ []))
goes_under p before [] q each last = (q, last, refl)
goes_under p before (u ∷ us) q each last = (u, each u (inl refl), subst (IsUnder p (length us) (before ++ u ∷ [])) (append_assoc before (u ∷ []) (us ++ q ∷ [])) (goes_under p (before ++ u ∷ []) us q (λ c i. each c (inr i)) last))

-- the lists of a program that begin so
abbrev under : Program → ℕ → List TestCall → List (List TestCall)
under p n before = below (test_calls p false) (test_calls p true) n before

listed_below : (p : Program) (n : ℕ) (before : List TestCall) → IsListOf (IsUnder p n before) (Lex CallBefore) (under p n before)
listed_below p zero before = listed_map {P = IsTestCall p true} {R = CallBefore} {S = Lex CallBefore} (λ c. before ++ c ∷ []) (test_calls p true) (listed_calls p true) (λ a b lt. Lex-same_front CallBefore before (a ∷ []) (b ∷ []) (inl lt))
listed_below p (suc n) before = listed_flat_map {P = IsTestCall p false} {R = CallBefore} {Q = λ c. IsUnder p n (before ++ c ∷ [])} {S = Lex CallBefore} (λ c. under p n (before ++ c ∷ [])) (test_calls p false) (listed_calls p false) (λ c h. listed_below p n (before ++ c ∷ []))
    (λ a b u v ha hb lt hu hv.
    let gu = under_goes p n (before ++ a ∷ []) u hu in
    let gv = under_goes p n (before ++ b ∷ []) v hv in
    subst (λ x. Lex CallBefore x v) (sym gu.are) (subst (λ y. Lex CallBefore ((before ++ a ∷ []) ++ (gu.updates ++ gu.query ∷ [])) y) (sym gv.are)
    (Lex-append CallBefore (before ++ a ∷ []) (before ++ b ∷ []) (gu.updates ++ gu.query ∷ []) (gv.updates ++ gv.query ∷ []) (Lex-same_front CallBefore before (a ∷ []) (b ∷ []) (inl lt)))))

rises_as : {A : Type 0} (R S : A → A → Type 0) (xs : List A) → Rises R xs → ((x y : A) → IsIn x xs → IsIn y xs → R x y → S x y) → Rises S xs
rises_as R S [] r h = tt
rises_as R S (x ∷ xs) r h = ((λ y i. h x y (inl refl) (inr i) (r.0 y i)), rises_as R S xs r.1 (λ a b i j. h a b (inr i) (inr j)))

under_length : (p : Program) (n : ℕ) (l : List TestCall) → IsUnder p n [] l → length l ≡ n + 1
under_length p n l h = let g = under_goes p n [] l h in let e : length l ≡ length (g.updates ++ g.query ∷ []) = ap length g.are in omega (arith, e, g.many, length-append g.updates (g.query ∷ []))

listed_under : (p : Program) (n : ℕ) → IsListOf (IsUnder p n []) TestBefore (under p n [])
listed_under p n = let l = listed_below p n [] in record {
  rises = rises_as (Lex CallBefore) TestBefore (under p n []) l.rises (λ x y i j r. inr (under_length p n x (l.holds x i) ∙ sym (under_length p n y (l.holds y j)), r));
  holds = l.holds;
  has = l.has;
}

pub tests_listed : (p : Program) → IsListOf (IsTestList p) TestBefore (all_lists (test_calls p false) (test_calls p true))
tests_listed p = listed_as {P = λ l. (n : ℕ) × (n < 4) × IsUnder p n [] l} {Q = IsTestList p} (all_lists (test_calls p false) (test_calls p true))
    (listed_flat_map {P = λ n. n < 4} {R = Less} {Q = λ n. IsUnder p n []} {S = TestBefore} (λ n. under p n []) (numbers 4) (listed_numbers 4) (λ n h. listed_under p n)
    (λ a b u v ha hb lt hu hv. inl (omega (arith, lt, under_length p a u hu, under_length p b v hv))))
    (λ l h. let g = under_goes p h.0 [] l h.2 in record { updates = g.updates; query = g.query; are = g.are; few = omega (arith, g.many, h.1); each = g.each; last = g.last })
    (λ l t. (length t.updates, t.few, subst (IsUnder p (length t.updates) []) (sym t.are) (goes_under p [] t.updates t.query t.each t.last)))
