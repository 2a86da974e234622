-- Numbers that name a host's variables, as slots.
use Rattle.std.proofs.Common.{◌≡◌, ◌≢◌, ℕ, zero, suc, ◌+◌, ◌-◌, ◌<◌, ◌≤◌, Bool, true, false, cond, not, ◌&&◌, ◌||◌, List, [], ◌∷◌, map, length, Option, Some, None, refl, sym, ap, ap₂, ◌∙◌, arith, inl, inr, ⊎_elim, ◌⊎◌}
use Rattle.std.specs.Prelude.{◌==◌, nat_lt, slice_get, slice_index_or}
use Rattle.std.proofs.lemmas.Bool.{cases_lt, and_parts, or_cases, or_parts, eqb-true, eqb-false, eq-eqb, ne_eqb, lt-ltb, not-true}
use Rattle.mig_schema.specs.declared.faults.Side.{Side}
use Rattle.mig_schema.specs.declared.faults.Side.TheVariants.{Old, New}
use Rattle.mig_meaning.specs.Lists.{place, has, In, Each, AllDifferent}
use Rattle.mig_algebra.specs.declared.atoms.Var.{Var}
use Rattle.mig_algebra.specs.Obligations.{var_of}
use Rattle.mig_algebra.specs.Proper.{same_side}
use Rattle.mig_algebra.specs.Tidied.{slots, numbers_of, vars_of}
use Rattle.mig_algebra.proofs.Slots.{Apart}
use Rattle.mig_folding.specs.Folding.{Numbered, is_of_table, are_named}

-- ---- places in lists without repetition

pub has-get : (ns : List ℕ) (i : ℕ) → i < length ns → has ns (slice_index_or ns i 0) ≡ true
has-get [] i l = absurd (omega (arith, l))
has-get (n ∷ ns) zero l = ap (λ b. b || has ns n) (eq-eqb n n refl)
has-get (n ∷ ns) (suc i) l = ap (λ b. (n == slice_index_or ns i 0) || b) (has-get ns i (omega (arith, l))) ∙ any (n == slice_index_or ns i 0)
  where
    any : (b : Bool) → (b || true) ≡ true
    any true = refl
    any false = refl

pub place-get : (ns : List ℕ) → AllDifferent ns → (i : ℕ) → i < length ns → place ns (slice_index_or ns i 0) ≡ i
place-get [] d i l = absurd (omega (arith, l))
place-get (n ∷ ns) d zero l = ap (λ b. cond b 0 (place ns n + 1)) (eq-eqb n n refl)
place-get (n ∷ ns) d (suc i) l =
    let ih = place-get ns d.1 i (omega (arith, l)) in
    ap (λ b. cond b 0 (place ns (slice_index_or ns i 0) + 1)) (ne_eqb n (slice_index_or ns i 0) apart) ∙ omega (arith, ih)
  where
    apart : n ≢ slice_index_or ns i 0
    apart e = let bad : true ≡ false = sym (has-get ns i (omega (arith, l))) ∙ ap (has ns) (sym e) ∙ d.0 in cc

-- ---- named slots

-- slots with these numbers for old tables
abbrev pub zipped : List ℕ → List ℕ → List Numbered
zipped (x ∷ xs) (t ∷ ts) = record { number = x; var = var_of Old 0 t } ∷ zipped xs ts
zipped _ _ = []

of-table : (t : ℕ) (side : Side) (table stage : ℕ) → (same_side side Old && (table == t && stage == 0)) ≡ true → ◌≡◌ {A = Var} (record { side = side; table = table; stage = stage }) (var_of Old 0 t)
of-table t Old table stage h =
    let k = and_parts (table == t) (stage == 0) h in
    ap₂ (λ a b. record { side = Old; table = a; stage = b }) (eqb-true table t k.0) (eqb-true stage 0 k.1)
of-table t New table stage h = cc

of-some : (t : ℕ) (o : Option Var) → is_of_table t o ≡ true → o ≡ Some (var_of Old 0 t)
of-some t None h = cc
of-some t (Some v) h = ap Some (of-table t v.side v.table v.stage h)

in-slots : (n : ℕ) (vars : List Var) (x : ℕ) (v : Var) → n ≤ x → slice_get vars (x - n) ≡ Some v → In (record { number = x; var = v }) (slots n vars)
in-slots n [] x v l h = cc
in-slots n (w ∷ ws) x v l h = go (in-slots (n + 1) ws x v) (cases_lt n x)
  where
    go : (n + 1 ≤ x → slice_get ws (x - (n + 1)) ≡ Some v → In (record { number = x; var = v }) (slots (n + 1) ws)) → (n < x) ⊎ (x ≤ n) → In (record { number = x; var = v }) (slots n (w ∷ ws))
    go ih (inl m) =
        let k : x - n ≡ suc (x - (n + 1)) = omega (arith, m) in
        inr (ih (omega (arith, m)) (ap (slice_get (w ∷ ws)) (sym k) ∙ h))
    go ih (inr m) =
        let k : x - n ≡ 0 = omega (arith, m) in
        let e : x ≡ n = omega (arith, l, m) in
        let same : Some w ≡ Some v = ap (slice_get (w ∷ ws)) (sym k) ∙ h in
        let is : w ≡ v = cc in
        inl (ap₂ (λ a b. record { number = a; var = b }) e (sym is))

pub from-base : (v n : ℕ) → not (nat_lt v n) ≡ true → n ≤ v
from-base v n h = ⊎_elim before (λ l. l) (cases_lt v n)
  where
    before : v < n → n ≤ v
    before l = let bad : true ≡ false = sym h ∙ ap not (lt-ltb v n l) in cc

-- what each number of those that name variables is, and the rest
pub record Parts (base : ℕ) (vars : List Var) (x : ℕ) (xs : List ℕ) (t : ℕ) (ts : List ℕ) : Type 0 where
  pub once : has xs x ≡ false
  pub from : base ≤ x
  pub is : slice_get vars (x - base) ≡ Some (var_of Old 0 t)
  pub rest : are_named base vars xs ts ≡ true

pub parts : (base : ℕ) (vars : List Var) (x : ℕ) (xs : List ℕ) (t : ℕ) (ts : List ℕ) → are_named base vars (x ∷ xs) (t ∷ ts) ≡ true → Parts base vars x xs t ts
parts base vars x xs t ts h =
    let a = and_parts (not (has xs x)) (not (nat_lt x base) && (is_of_table t (slice_get vars (x - base)) && are_named base vars xs ts)) h in
    let b = and_parts (not (nat_lt x base)) (is_of_table t (slice_get vars (x - base)) && are_named base vars xs ts) a.1 in
    let c = and_parts (is_of_table t (slice_get vars (x - base))) (are_named base vars xs ts) b.1 in
    record { once = not-true (has xs x) a.0; from = from-base x base b.0; is = of-some t (slice_get vars (x - base)) c.0; rest = c.1 }

module _ (base : ℕ) (vars : List Var) where
  pub zipped-numbers : (xs ts : List ℕ) → are_named base vars xs ts ≡ true → numbers_of (zipped xs ts) ≡ xs
  zipped-numbers [] [] h = refl
  zipped-numbers [] (t ∷ ts) h = cc
  zipped-numbers (x ∷ xs) [] h = cc
  zipped-numbers (x ∷ xs) (t ∷ ts) h = ap (λ l. x ∷ l) (zipped-numbers xs ts (parts base vars x xs t ts h).rest)

  pub zipped-vars : (xs ts : List ℕ) → are_named base vars xs ts ≡ true → vars_of (zipped xs ts) ≡ map (var_of Old 0) ts
  zipped-vars [] [] h = refl
  zipped-vars [] (t ∷ ts) h = cc
  zipped-vars (x ∷ xs) [] h = cc
  zipped-vars (x ∷ xs) (t ∷ ts) h = ap (λ l. var_of Old 0 t ∷ l) (zipped-vars xs ts (parts base vars x xs t ts h).rest)

  pub zipped-in : (xs ts : List ℕ) → are_named base vars xs ts ≡ true → Each (λ q. In q (slots base vars)) (zipped xs ts)
  zipped-in [] [] h = tt
  zipped-in [] (t ∷ ts) h = cc
  zipped-in (x ∷ xs) [] h = cc
  zipped-in (x ∷ xs) (t ∷ ts) h =
      let p = parts base vars x xs t ts h in
      (in-slots base vars x (var_of Old 0 t) p.from p.is, zipped-in xs ts p.rest)

  pub different : (xs ts : List ℕ) → are_named base vars xs ts ≡ true → AllDifferent xs
  different [] ts h = tt
  different (x ∷ xs) [] h = cc
  different (x ∷ xs) (t ∷ ts) h = let p = parts base vars x xs t ts h in (p.once, different xs ts p.rest)

elsewhere : (xs ts : List ℕ) (x : ℕ) → has xs x ≡ false → Each (λ q. q.number ≢ x) (zipped xs ts)
elsewhere [] ts x h = tt
elsewhere (y ∷ ys) [] x h = tt
elsewhere (y ∷ ys) (t ∷ ts) x h = let o = or_parts (y == x) (has ys x) h in (eqb-false y x o.0, elsewhere ys ts x o.1)

pub zipped-apart : (xs ts : List ℕ) → AllDifferent xs → Apart (zipped xs ts)
zipped-apart [] ts d = tt
zipped-apart (x ∷ xs) [] d = tt
zipped-apart (x ∷ xs) (t ∷ ts) d = (elsewhere xs ts x d.0, zipped-apart xs ts d.1)

-- ---- members

in-has : (q : Numbered) (ps : List Numbered) (v : ℕ) → In q ps → (q.number == v) ≡ true → has (numbers_of ps) v ≡ true
in-has q [] v i t = absurd i
in-has q (p ∷ ps) v (inl e) t = ap (λ z. (z.number == v) || has (numbers_of ps) v) (sym e) ∙ ap (λ b. b || has (numbers_of ps) v) t
in-has q (p ∷ ps) v (inr i) t = ap (λ b. (p.number == v) || b) (in-has q ps v i t) ∙ any (p.number == v)
  where
    any : (b : Bool) → (b || true) ≡ true
    any true = refl
    any false = refl

pub named-has : (named ps : List Numbered) (v : ℕ) → Each (λ q. In q ps) named → has (numbers_of named) v ≡ true → has (numbers_of ps) v ≡ true
named-has [] ps v a h = cc
named-has (q ∷ qs) ps v a h = ⊎_elim (in-has q ps v a.0) (named-has qs ps v a.1) (or_cases (q.number == v) (has (numbers_of qs) v) h)
