-- Bags by sums: two expressions whose sums of every weight are equal have equal bags.
use Rattle.std.proofs.Common.{◌≡◌, ℕ, ◌<◌, true, false, List, [], ◌∷◌, ◌++◌, refl, sym, ap, ◌∙◌, arith, subst, inl, inr, ◌⊎◌}
use Rattle.std.proofs.lemmas.Bool.{cases_Bool}
use Rattle.mig_schema.specs.declared.values.Value.{Value}
use Rattle.mig_meaning.specs.Lists.{total, bit, Each}
use Rattle.mig_meaning.specs.Bags.{row_eq, SameBag}
use Rattle.mig_meaning.proofs.Bags.{row_eq-true, row_eq-refl, total-append, total-map}
use Rattle.mig_algebra.specs.declared.atoms.Var.{Var}
use Rattle.mig_algebra.specs.declared.atoms.Atom.{Atom}
use Rattle.mig_algebra.specs.declared.literals.Lit.{Lit}
use Rattle.mig_algebra.specs.declared.terms.Term.{Term}
use Rattle.mig_algebra.specs.Meaning.{Setting, Env, choices, lits_true, head_of, term_bag, terms_bag}
use Rattle.mig_algebra.proofs.Sums.{when, total-same, total-each, total-zero, total-flat_map, total-filter}
use Rattle.mig_algebra.proofs.Lists.{each-middle, each-drop_middle}

-- the sum of the weights of a term's rows
abbrev pub weigh : Setting → (List Value → ℕ) → List Var → List Lit → List Atom → ℕ
weigh s w vars lits head = total (λ c. when (lits_true s c lits) (w (head_of s head c))) (choices s vars)

-- the same of a term as one value
abbrev pub weight : Setting → (List Value → ℕ) → Term → ℕ
weight s w t = weigh s w t.vars t.lits t.head

-- the weights of a term's bag
pub total-term_bag : (s : Setting) (w : List Value → ℕ) (t : Term) → total w (term_bag s t) ≡ weight s w t
total-term_bag s w t =
    total-map w (head_of s t.head) _ ∙ total-filter (λ c. w (head_of s t.head c)) (λ c. lits_true s c t.lits) (choices s t.vars)

-- the weights of the bag of a sum of terms
pub total-terms_bag : (s : Setting) (w : List Value → ℕ) (ts : List Term) → total w (terms_bag s ts) ≡ total (weight s w) ts
total-terms_bag s w ts = total-flat_map w (term_bag s) ts ∙ total-same _ (weight s w) (total-term_bag s w) ts

-- equal sums of every weight give equal bags
pub same-bag : (s : Setting) (ts us : List Term) → ((w : List Value → ℕ) → total (weight s w) ts ≡ total (weight s w) us) → SameBag (terms_bag s ts) (terms_bag s us)
same-bag s ts us h = record {
  by = λ r. total-terms_bag s (λ q. bit (row_eq r q)) ts ∙ h (λ q. bit (row_eq r q)) ∙ sym (total-terms_bag s (λ q. bit (row_eq r q)) us);
}

-- literals that are true at the same choices
pub weigh-same : (s : Setting) (w : List Value → ℕ) (vars : List Var) (a b : List Lit) (head : List Atom) → Each (λ c. lits_true s c a ≡ lits_true s c b) (choices s vars) → weigh s w vars a head ≡ weigh s w vars b head
weigh-same s w vars a b head e = total-each _ _ (choices s vars) (go (choices s vars) e)
  where
    go : (cs : List Env) → Each (λ c. lits_true s c a ≡ lits_true s c b) cs → Each (λ c. when (lits_true s c a) (w (head_of s head c)) ≡ when (lits_true s c b) (w (head_of s head c))) cs
    go [] h = tt
    go (c ∷ cs) h = (ap (λ x. when x (w (head_of s head c))) h.0, go cs h.1)

-- a term whose literals are nowhere true
pub weigh-dead : (s : Setting) (w : List Value → ℕ) (vars : List Var) (a : List Lit) (head : List Atom) → ((c : Env) → lits_true s c a ≡ false) → weigh s w vars a head ≡ 0
weigh-dead s w vars a head h =
    total-same _ (λ c. 0) (λ c. ap (λ x. when x (w (head_of s head c))) (h c)) (choices s vars) ∙ total-zero (choices s vars)

-- ---- from equal bags to equal sums

module _ {X Y : Type 0} (a : X → List Value) (b : Y → List Value) (f : X → ℕ) (g : Y → ℕ) where
  -- an element whose row is r
  found : (r : List Value) (ys : List Y) → 0 < total (λ y. bit (row_eq r (b y))) ys → (us : List Y) × (y : Y) × (vs : List Y) × (ys ≡ us ++ (y ∷ vs)) × (r ≡ b y)
  found r [] h = absurd (omega arith)
  found r (y ∷ ys) h = go (found r ys) (cases_Bool (row_eq r (b y)))
    where
      go : (0 < total (λ y. bit (row_eq r (b y))) ys → (us : List Y) × (z : Y) × (vs : List Y) × (ys ≡ us ++ (z ∷ vs)) × (r ≡ b z)) → (row_eq r (b y) ≡ true) ⊎ (row_eq r (b y) ≡ false) → (us : List Y) × (z : Y) × (vs : List Y) × (y ∷ ys ≡ us ++ (z ∷ vs)) × (r ≡ b z)
      go ih (inl t) = ([], y, ys, refl, row_eq-true r (b y) t)
      go ih (inr n) =
          let k = ih (omega (arith, ap bit n)) in
          (y ∷ k.0, k.1, k.2, ap (λ l. y ∷ l) k.3, k.4)

  -- each row occurs as often on both sides
  abbrev pub SameCounts : List X → List Y → Type 0
  SameCounts xs ys = (r : List Value) → total (λ x. bit (row_eq r (a x))) xs ≡ total (λ y. bit (row_eq r (b y))) ys

  -- f and g agree at elements with equal rows, and each row occurs as often
  pub total-related : (P : X → Type 0) (Q : Y → Type 0) → ((x : X) (y : Y) → P x → Q y → a x ≡ b y → f x ≡ g y) → (xs : List X) (ys : List Y) → Each P xs → Each Q ys → SameCounts xs ys → total f xs ≡ total g ys
  total-related P Q h [] [] p q c = refl
  total-related P Q h [] (y ∷ ys) p q c = absurd (omega (arith, c (b y), ap bit (row_eq-refl (b y))))
  total-related P Q h (x ∷ xs) ys p q c =
      let some : 0 < total (λ y. bit (row_eq (a x) (b y))) ys = omega (arith, c (a x), ap bit (row_eq-refl (a x))) in
      let k = found (a x) ys some in
      let q' = subst (Each Q) k.3 q in
      let rest : SameCounts xs (k.0 ++ k.2) = λ r.
      let moved = ap (total (λ y. bit (row_eq r (b y)))) k.3 ∙ total-append (λ y. bit (row_eq r (b y))) k.0 (k.1 ∷ k.2) in
      let same = ap (λ q. bit (row_eq r q)) k.4 in
      omega (arith, c r, moved, same, total-append (λ y. bit (row_eq r (b y))) k.0 k.2) in
      let ih = total-related P Q h xs (k.0 ++ k.2) p.1 (each-drop_middle Q k.0 k.1 k.2 q') rest in
      omega (arith, ih, h x k.1 p.0 (each-middle Q k.0 k.1 k.2 q') k.4, ap (total g) k.3, total-append g k.0 (k.1 ∷ k.2), total-append g k.0 k.2)
