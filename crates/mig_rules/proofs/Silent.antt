-- A rule that gives nothing with what is tried gives nothing at all; then no step of it follows there.
use Rattle.std.proofs.Common.{◌≡◌, ◌⊎◌, ℕ, zero, suc, ◌+◌, ◌<◌, Bool, true, false, List, [], ◌∷◌, ◌++◌, length, take, drop, set, replicate, length-set, Option, Some, None, refl, sym, ap, ◌∙◌, subst, inl, inr, arith}
use Rattle.std.specs.Prelude.{slice_get, slice_index_or, ◌==◌, cond}
use Rattle.std.specs.List.{list_all}
use Rattle.std.specs.Option.{option_and_then}
use Rattle.std.proofs.lemmas.Bool.{and_parts, cases_eq, cases_Bool, eqb-true}
use Rattle.std.proofs.lemmas.List.{get_or-set_same, get_or-set_other, length-replicate}
use Rattle.mig_meaning.specs.declared.relating.Invariant.{Invariant}
use Rattle.mig_algebra.specs.declared.terms.Term.{Term}
use Rattle.mig_algebra.specs.declared.terms.Expr.{Expr}
use Rattle.mig_algebra.specs.Proper.{Sides}
use Rattle.mig_listing.specs.Listing.{IsIn}
use Rattle.mig_steps.specs.declared.steps.Rule.{Rule}
use Rattle.mig_listing.specs.Finding.{or_else, first_some}
use Rattle.mig_listing.proofs.Found.{none-by}
use Rattle.mig_rules.specs.First.{number_of, all_rules, tried, behind, first_at, first_in, first_of}
use Rattle.mig_rules.specs.Follow.{by_rule}
use Rattle.mig_rules.specs.Offered.{paths_for, args_for}
use Rattle.mig_rules.specs.Quiet.{IsQuiet, AreQuiet, is_none, silent_at, silent_in, after_step, marked}
use Rattle.mig_rules.proofs.FirstStep.{at-number, same-term}
use Rattle.mig_rules.proofs.RulesOffered.{rule-offers, rule-looks}
use Rattle.mig_steps.proofs.Options.{get-within}

all-in : {A : Type 0} (t : A → Bool) (xs : List A) (x : A) → list_all t xs ≡ true → IsIn x xs → t x ≡ true
all-in t [] x h i = absurd i
all-in t (y ∷ ys) x h i =
    let k = and_parts (t y) (list_all t ys) h in
    elim i [ inl e ↦ ap t e ∙ k.0 | inr j ↦ all-in t ys x k.1 j ]

-- a rule that looks at one term, and is silent at it, gives nothing there
pub silent-nothing : (p : Sides) (invs : List Invariant) (r : Rule) (t : Term) → number_of r < 16 → silent_in p invs r t ≡ true → (n : ℕ) (path args : List ℕ) (later : List Term) → by_rule p invs r n path args t later ≡ None
silent-nothing p invs r t l h n path args later = (rule-looks p invs r l).by n path args t later (none-by (by_rule p invs r 0 path args t []) (λ us g.
    let at : silent_at p invs r t path ≡ true = all-in (silent_at p invs r t) (paths_for r t) path h ((rule-offers p invs r).path_in 0 path args t [] us g) in
    let one : is_none (by_rule p invs r 0 path args t []) ≡ true = all-in (λ bs. is_none (by_rule p invs r 0 path bs t [])) (args_for invs r 0 path t []) args at ((rule-offers p invs r).args_in 0 path args t [] us g) in
    let bad : is_none (Some us) ≡ true = ap is_none (sym g) ∙ one in
    cc))

-- one rule more
pub quiet-more : (p : Sides) (invs : List Invariant) (r : Rule) (q : ℕ) (t : Term) → number_of r ≡ q → number_of r < 16 → silent_in p invs r t ≡ true → ((s : Rule) → number_of s ≡ number_of r → s ≡ r) → IsQuiet p invs q t → IsQuiet p invs (q + 1) t
quiet-more p invs r q t e l16 h once k = record {
  by = λ s l n path args later. elim (cases_eq (number_of s) (number_of r)) [
    | inl same ↦ ap (λ x. by_rule p invs x n path args t later) (once s same) ∙ silent-nothing p invs r t l16 h n path args later
    | inr other ↦ k.by s (omega (arith, e, l, other)) n path args later
  ];
}

none-some : {K V : Type 0} (f : K → Option V) (ks : List K) → ((k : K) → f k ≡ None) → first_some f ks ≡ None
none-some f [] h = refl
none-some f (k ∷ ks) h = ap (λ o. or_else o (first_some f ks)) (h k) ∙ none-some f ks h

-- no step of a rule follows at a term where it gives nothing
pub nothing-first : (p : Sides) (invs : List Invariant) (e : Expr) (r : Rule) (n : ℕ) → ((t : Term) → slice_get e.terms n ≡ Some t → (path args : List ℕ) → by_rule p invs r n path args t (behind e n) ≡ None) → first_of p invs e r n ≡ None
nothing-first p invs e r n h = go (slice_get e.terms n) refl
  where
    go : (o : Option Term) → slice_get e.terms n ≡ o → option_and_then (first_in p invs e r n) o ≡ None
    go None g = refl
    go (Some t) g = none-some (first_at p invs e r n t) (paths_for r t) (λ path. none-some (tried p invs e r n path) (args_for invs r n path t (behind e n)) (λ args.
        none-by (tried p invs e r n path args) (λ s k.
        let given = same-term p invs e r n path args s t g k in
        let none : by_rule p invs r n path args t (behind e n) ≡ None = h t g path args in
        let bad : None ≡ Some given.0 = sym none ∙ given.1 in
        cc)))

-- ---- many terms

-- a greater number for one of them
pub quiet-raised : (p : Sides) (invs : List Invariant) (qs : List ℕ) (ts : List Term) (n q : ℕ) (t : Term) → AreQuiet p invs qs ts → slice_get ts n ≡ Some t → IsQuiet p invs q t → AreQuiet p invs (set qs n q) ts
quiet-raised p invs qs ts n q t all own one = record { count = length-set qs n q ∙ all.count; each = at }
  where
    within : n < length qs
    within = omega (arith, get-within ts n t own, all.count)

    at : (m : ℕ) (u : Term) → slice_get ts m ≡ Some u → IsQuiet p invs (slice_index_or (set qs n q) m 0) u
    at m u g = elim (cases_eq m n) [
      | inl e ↦
          let same : t ≡ u = cc (ap (slice_get ts) e) in
          subst (λ k. IsQuiet p invs k u) (sym (ap (λ i. slice_index_or (set qs n q) i 0) e ∙ get_or-set_same qs n q 0 within)) (subst (IsQuiet p invs q) same one)
      | inr ne ↦ subst (λ k. IsQuiet p invs k u) (sym (get_or-set_other qs n m q 0 ne)) (all.each m u g)
    ]

-- a rule below a term's number gives nothing there
pub quiet-first : (p : Sides) (invs : List Invariant) (e : Expr) (qs : List ℕ) (r : Rule) (n : ℕ) → AreQuiet p invs qs e.terms → number_of r < slice_index_or qs n 0 → first_of p invs e r n ≡ None
quiet-first p invs e qs r n all l = nothing-first p invs e r n (λ t g path args. (all.each n t g).by r l n path args (behind e n))

-- a rule that is silent at a term
pub silent-first : (p : Sides) (invs : List Invariant) (e : Expr) (r : Rule) (n : ℕ) (t : Term) → slice_get e.terms n ≡ Some t → number_of r < 16 → silent_in p invs r t ≡ true → first_of p invs e r n ≡ None
silent-first p invs e r n t own l h = nothing-first p invs e r n (λ u g path args. let same : t ≡ u = cc in ap (λ x. by_rule p invs r n path args x (behind e n)) (sym same) ∙ silent-nothing p invs r t l h n path args (behind e n))

-- no number is known
pub none-quiet : (p : Sides) (invs : List Invariant) (ts : List Term) (qs : List ℕ) → length qs ≡ length ts → ((n : ℕ) → slice_index_or qs n 0 ≡ 0) → AreQuiet p invs qs ts
none-quiet p invs ts qs c z = record { count = c; each = λ n t g. record { by = λ r l m path args later. absurd (omega (arith, l, z n)) } }

-- a rule is told by its number
pub one-number : (r s : Rule) → number_of s ≡ number_of r → s ≡ r
one-number r s h = let k : Some s ≡ Some r = sym (at-number s) ∙ ap (slice_get all_rules) h ∙ at-number r in cc

pub quiet-next : (p : Sides) (invs : List Invariant) (qs : List ℕ) (ts : List Term) (r : Rule) (n q : ℕ) (t : Term) → AreQuiet p invs qs ts → slice_get ts n ≡ Some t → slice_index_or qs n 0 ≡ number_of r → q ≡ number_of r + 1 → number_of r < 16 → silent_in p invs r t ≡ true → AreQuiet p invs (set qs n q) ts
quiet-next p invs qs ts r n q t all own is next l h =
    quiet-raised p invs qs ts n q t all own
    (subst (λ k. IsQuiet p invs k t) (sym next) (quiet-more p invs r (number_of r) t refl l h (λ s same. one-number r s same) (subst (λ k. IsQuiet p invs k t) is (all.each n t own))))

-- a term is marked where a rule is silent
pub quiet-marked : (p : Sides) (invs : List Invariant) (qs : List ℕ) (ts : List Term) (r : Rule) (n q : ℕ) (t : Term) → AreQuiet p invs qs ts → slice_get ts n ≡ Some t → q ≡ number_of r → number_of r < 16 → silent_in p invs r t ≡ true → AreQuiet p invs (marked n q qs) ts
quiet-marked p invs qs ts r n q t all own is l h = go (cases_Bool (slice_index_or qs n 0 == q))
  where
    go : ((slice_index_or qs n 0 == q) ≡ true) ⊎ ((slice_index_or qs n 0 == q) ≡ false) → AreQuiet p invs (marked n q qs) ts
    go (inl e) = subst (λ b. AreQuiet p invs (cond b (set qs n (q + 1)) qs) ts) (sym e) (quiet-next p invs qs ts r n (q + 1) t all own (eqb-true (slice_index_or qs n 0) q e ∙ is) (ap (λ k. k + 1) is) l h)
    go (inr e) = subst (λ b. AreQuiet p invs (cond b (set qs n (q + 1)) qs) ts) (sym e) all

-- ---- after a step

-- the numbers of two lists, one after the other
quiet-append : (p : Sides) (invs : List Invariant) (ps qs : List ℕ) (ts us : List Term) → AreQuiet p invs ps ts → AreQuiet p invs qs us → AreQuiet p invs (ps ++ qs) (ts ++ us)
quiet-append p invs [] qs [] us a b = b
quiet-append p invs [] qs (t ∷ ts) us a b = absurd (omega (arith, a.count))
quiet-append p invs (x ∷ ps) qs [] us a b = absurd (omega (arith, a.count))
quiet-append p invs (x ∷ ps) qs (t ∷ ts) us a b =
    let rest = quiet-append p invs ps qs ts us (record { count = omega (arith, a.count); each = λ n u g. a.each (suc n) u g }) b in
    record { count = omega (arith, rest.count); each = λ n u g. at n u g rest }
  where
    at : (n : ℕ) (u : Term) → slice_get (t ∷ (ts ++ us)) n ≡ Some u → AreQuiet p invs (ps ++ qs) (ts ++ us) → IsQuiet p invs (slice_index_or (x ∷ (ps ++ qs)) n 0) u
    at zero u g rest = a.each zero u g
    at (suc n) u g rest = rest.each n u g

-- of new terms nothing is known
pub quiet-new : (p : Sides) (invs : List Invariant) (us : List Term) → AreQuiet p invs (replicate (length us) 0) us
quiet-new p invs us = none-quiet p invs us (replicate (length us) 0) (length-replicate (length us) 0) (zero-at (length us))
  where
    zero-at : (m n : ℕ) → slice_index_or (replicate {A = ℕ} m 0) n 0 ≡ 0
    zero-at zero n = refl
    zero-at (suc m) zero = refl
    zero-at (suc m) (suc n) = zero-at m n

quiet-take : (p : Sides) (invs : List Invariant) (n : ℕ) (qs : List ℕ) (ts : List Term) → AreQuiet p invs qs ts → AreQuiet p invs (take n qs) (take n ts)
quiet-take p invs zero qs ts a = record { count = refl; each = λ m t g. cc }
quiet-take p invs (suc n) [] [] a = a
quiet-take p invs (suc n) [] (t ∷ ts) a = absurd (omega (arith, a.count))
quiet-take p invs (suc n) (q ∷ qs) [] a = absurd (omega (arith, a.count))
quiet-take p invs (suc n) (q ∷ qs) (t ∷ ts) a =
    quiet-append p invs (q ∷ []) (take n qs) (t ∷ []) (take n ts)
    (record { count = refl; each = λ m u g. own m u g })
    (quiet-take p invs n qs ts (record { count = omega (arith, a.count); each = λ m u g. a.each (suc m) u g }))
  where
    own : (m : ℕ) (u : Term) → slice_get (t ∷ []) m ≡ Some u → IsQuiet p invs (slice_index_or (q ∷ []) m 0) u
    own zero u g = a.each zero u g
    own (suc m) u g = cc

quiet-drop : (p : Sides) (invs : List Invariant) (n : ℕ) (qs : List ℕ) (ts : List Term) → AreQuiet p invs qs ts → AreQuiet p invs (drop n qs) (drop n ts)
quiet-drop p invs zero qs ts a = a
quiet-drop p invs (suc n) [] [] a = a
quiet-drop p invs (suc n) [] (t ∷ ts) a = absurd (omega (arith, a.count))
quiet-drop p invs (suc n) (q ∷ qs) [] a = absurd (omega (arith, a.count))
quiet-drop p invs (suc n) (q ∷ qs) (t ∷ ts) a = quiet-drop p invs n qs ts (record { count = omega (arith, a.count); each = λ m u g. a.each (suc m) u g })

-- the terms that stay keep their numbers, the new ones begin with 0
pub quiet-after : (p : Sides) (invs : List Invariant) (qs : List ℕ) (ts us : List Term) (n k : ℕ) → AreQuiet p invs qs ts → AreQuiet p invs (after_step n (length us) k qs) (take n ts ++ (us ++ drop k ts))
quiet-after p invs qs ts us n k a =
    quiet-append p invs (take n qs) (replicate (length us) 0 ++ drop k qs) (take n ts) (us ++ drop k ts) (quiet-take p invs n qs ts a)
    (quiet-append p invs (replicate (length us) 0) (drop k qs) us (drop k ts) (quiet-new p invs us) (quiet-drop p invs k qs ts a))
