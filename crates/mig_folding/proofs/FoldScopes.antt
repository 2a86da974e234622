-- The variables in scope before and after a fold.
use Rattle.std.proofs.Common.{◌≡◌, ◌≢◌, ℕ, zero, suc, ◌+◌, ◌-◌, ◌<◌, ◌≤◌, Bool, true, false, cond, not, ◌&&◌, ◌||◌, List, [], ◌∷◌, ◌++◌, map, length, Some, refl, sym, ap, ap₂, ◌∙◌, arith, inl, inr, ⊎_elim, ◌⊎◌, subst, append_assoc, append-nil, length-append}
use Rattle.std.specs.Prelude.{◌==◌, nat_lt, filter, slice_get, slice_index_or}
use Rattle.std.proofs.lemmas.Bool.{cases_lt, eq-eqb, ne_eqb, lt-ltb, le-ltb}
use Rattle.std.proofs.lemmas.Bool.Decides.{eqb_tells}
use Rattle.std.proofs.lemmas.List.{length-map}
use Rattle.mig_schema.specs.declared.faults.Side.TheVariants.{Old, New}
use Rattle.mig_meaning.specs.Lists.{place, has}
use Rattle.mig_algebra.specs.declared.atoms.Var.{Var}
use Rattle.mig_algebra.specs.Obligations.{var_of}
use Rattle.mig_algebra.specs.Tidied.{slots, numbers_of, vars_of}
use Rattle.mig_algebra.proofs.Slots.{has-slots, place-in}
use Rattle.mig_algebra.proofs.NamedRows.{has-unnamed}
use Rattle.mig_folding.proofs.Shifted.{get-coming}
use Rattle.mig_folding.specs.Folding.{Numbered, Fold, are_named, old_tables, new_tables, staying, moved, first_added, folded_vars}
use Rattle.mig_folding.proofs.Picked.{zipped, zipped-numbers, Parts, parts}

get-before : {X : Type 0} (xs ys zs : List X) (i : ℕ) → i < length xs → slice_get (xs ++ ys) i ≡ slice_get (xs ++ zs) i
get-before [] ys zs i h = absurd (omega arith)
get-before (x ∷ xs) ys zs zero h = refl
get-before (x ∷ xs) ys zs (suc i) h = get-before xs ys zs i (omega (arith, h))

-- ---- named variables

-- the variable of a number that is named
pub named-var : (base : ℕ) (vars : List Var) (xs ts : List ℕ) (v : ℕ) → are_named base vars xs ts ≡ true → has xs v ≡ true → (base ≤ v) × (slice_get vars (v - base) ≡ Some (var_of Old 0 (slice_index_or ts (place xs v) 0)))
named-var base vars [] ts v h k = cc
named-var base vars (x ∷ xs) [] v h k = cc
named-var base vars (x ∷ xs) (t ∷ ts) v h k = let q = parts base vars x xs t ts h in go q (eqb_tells x v) (named-var base vars xs ts v q.rest)
  where
    go : Parts base vars x xs t ts → ((x == v) ≡ true) × (x ≡ v) ⊎ ((x == v) ≡ false) × (x ≢ v) → (has xs v ≡ true → (base ≤ v) × (slice_get vars (v - base) ≡ Some (var_of Old 0 (slice_index_or ts (place xs v) 0)))) → (base ≤ v) × (slice_get vars (v - base) ≡ Some (var_of Old 0 (slice_index_or (t ∷ ts) (cond (x == v) 0 (place xs v + 1)) 0)))
    go p (inl e) ih =
        (subst (λ n. base ≤ n) e.1 p.from, ap (λ n. slice_get vars (n - base)) (sym e.1) ∙ p.is ∙ ap (λ b. Some (var_of Old 0 (slice_index_or (t ∷ ts) (cond b 0 (place xs v + 1)) 0))) (sym e.0))
    go p (inr e) ih =
        let i = ih (ap (λ b. b || has xs v) (sym e.0) ∙ k) in
        let n : suc (place xs v) ≡ place xs v + 1 = omega arith in
        (i.0, i.1 ∙ ap (λ m. Some (var_of Old 0 (slice_index_or (t ∷ ts) m 0))) n ∙ ap (λ b. Some (var_of Old 0 (slice_index_or (t ∷ ts) (cond b 0 (place xs v + 1)) 0))) (sym e.0))

-- ---- variables that stay

abbrev pub stay : List ℕ → ℕ → List Var → List Numbered
stay xs n vars = filter (λ q. not (has xs q.number)) (slots n vars)

-- such a variable by its place among those that stay
pub stay-get : (xs : List ℕ) (n : ℕ) (vars : List Var) (v : ℕ) → n ≤ v → v < n + length vars → has xs v ≡ false → slice_get vars (v - n) ≡ slice_get (vars_of (stay xs n vars)) (place (numbers_of (stay xs n vars)) v)
stay-get xs n [] v l m h = absurd (omega (arith, l, m))
stay-get xs n (w ∷ ws) v l m h = go (stay xs (n + 1) ws) (eqb_tells n v) (stay-get xs (n + 1) ws v)
  where
    go : (rest : List Numbered) → ((n == v) ≡ true) × (n ≡ v) ⊎ ((n == v) ≡ false) × (n ≢ v) → (n + 1 ≤ v → v < (n + 1) + length ws → has xs v ≡ false → slice_get ws (v - (n + 1)) ≡ slice_get (vars_of rest) (place (numbers_of rest) v)) → slice_get (w ∷ ws) (v - n) ≡ slice_get (vars_of (cond (not (has xs n)) (record { number = n; var = w } ∷ rest) rest)) (place (numbers_of (cond (not (has xs n)) (record { number = n; var = w } ∷ rest) rest)) v)
    go rest (inl e) ih =
        let k : v - n ≡ 0 = omega (arith, e.1) in
        ap (slice_get (w ∷ ws)) k
        ∙ sym (ap (λ b. slice_get (vars_of (cond (not b) (record { number = n; var = w } ∷ rest) rest)) (place (numbers_of (cond (not b) (record { number = n; var = w } ∷ rest) rest)) v)) (ap (has xs) e.1 ∙ h)
        ∙ ap (λ b. slice_get (w ∷ vars_of rest) (cond b 0 (place (numbers_of rest) v + 1))) e.0)
    go rest (inr e) ih =
        let k : v - n ≡ suc (v - (n + 1)) = omega (arith, l, e.1) in
        ap (slice_get (w ∷ ws)) k ∙ ih (omega (arith, l, e.1)) (omega (arith, m)) h ∙ either (has xs n)
      where
        either : (b : Bool) → slice_get (vars_of rest) (place (numbers_of rest) v) ≡ slice_get (vars_of (cond (not b) (record { number = n; var = w } ∷ rest) rest)) (place (numbers_of (cond (not b) (record { number = n; var = w } ∷ rest) rest)) v)
        either true = refl
        either false =
            let j : suc (place (numbers_of rest) v) ≡ place (numbers_of rest) v + 1 = omega arith in
            ap (slice_get (w ∷ vars_of rest)) j ∙ ap (λ b. slice_get (w ∷ vars_of rest) (cond b 0 (place (numbers_of rest) v + 1))) (sym e.0)

get-place : (ns : List ℕ) (v : ℕ) → has ns v ≡ true → slice_index_or ns (place ns v) 0 ≡ v
get-place [] v h = cc
get-place (n ∷ ns) v h = go (eqb_tells n v) (get-place ns v)
  where
    go : ((n == v) ≡ true) × (n ≡ v) ⊎ ((n == v) ≡ false) × (n ≢ v) → (has ns v ≡ true → slice_index_or ns (place ns v) 0 ≡ v) → slice_index_or (n ∷ ns) (cond (n == v) 0 (place ns v + 1)) 0 ≡ v
    go (inl e) ih = ap (λ b. slice_index_or (n ∷ ns) (cond b 0 (place ns v + 1)) 0) e.0 ∙ e.1
    go (inr e) ih =
        let j : place ns v + 1 ≡ suc (place ns v) = omega arith in
        ap (λ b. slice_index_or (n ∷ ns) (cond b 0 (place ns v + 1)) 0) e.0 ∙ ap (λ m. slice_index_or (n ∷ ns) m 0) j ∙ ih (ap (λ b. b || has ns v) (sym e.0) ∙ h)

-- ---- a fold's scope

module _ (f : Fold) (sc : List Var) (len : length sc ≡ f.base) (named : are_named f.base f.vars f.named (old_tables f) ≡ true) where
  abbrev come : List Var
  come = map (var_of New 0) (new_tables f)

  -- a variable that stays has its number among those
  stays-there : (v : ℕ) → f.base ≤ v → v < f.base + length f.vars → has f.named v ≡ false → has (numbers_of (staying f)) v ≡ true
  stays-there v l m h =
      subst (λ ys. has (numbers_of (filter (λ q. not (has ys q.number)) (slots f.base f.vars))) v ≡ (has (numbers_of (slots f.base f.vars)) v && not (has ys v))) (zipped-numbers f.base f.vars f.named (old_tables f) named) (has-unnamed (zipped f.named (old_tables f)) (slots f.base f.vars) v)
      ∙ ap₂ (λ a b. a && not b) (has-slots f.base f.vars v ∙ ap₂ (λ a b. not a && b) (le-ltb v f.base l) (lt-ltb v (f.base + length f.vars) m)) h

  stays-place : (v : ℕ) → f.base ≤ v → v < f.base + length f.vars → has f.named v ≡ false → place (numbers_of (staying f)) v < length (staying f)
  stays-place v l m h = let p = place-in (numbers_of (staying f)) v (stays-there v l m h) in let n = length-map (staying f) (λ q. q.number) in omega (arith, p, n)

  pub long : length (sc ++ vars_of (staying f)) ≡ first_added f
  long = length-append sc (vars_of (staying f)) ∙ ap₂ (λ a b. a + b) len (length-map (staying f) (λ q. q.var))

  whole : length (sc ++ folded_vars f) ≡ first_added f + length (new_tables f)
  whole = ap length (sym (append_assoc sc (vars_of (staying f)) come)) ∙ length-append (sc ++ vars_of (staying f)) come ∙ ap₂ (λ a b. a + b) long (length-map (new_tables f) (var_of New 0))

  -- where its number leads, by three cases
  module _ (X : ℕ → Type 0) (v : ℕ) where
    pub by-number : (v < f.base → X v) → (f.base ≤ v → v < f.base + length f.vars → X (f.base + place (numbers_of (staying f)) v)) → (f.base ≤ v → f.base + length f.vars ≤ v → X (v - (f.base + length f.vars) + (first_added f + length (new_tables f)))) → X (moved f v)
    by-number a b c = ⊎_elim first (λ l. ⊎_elim (second l) (third l) (cases_lt v (f.base + length f.vars))) (cases_lt v f.base)
      where
        at : (b c : Bool) → ℕ
        at b c = cond b v (cond c (f.base + place (numbers_of (staying f)) v) (v - (f.base + length f.vars) + (first_added f + length (new_tables f))))

        to : (b c : Bool) → nat_lt v f.base ≡ b → nat_lt v (f.base + length f.vars) ≡ c → X (at b c) → X (moved f v)
        to b c p q x = subst X (sym (ap₂ at p q)) x

        first : v < f.base → X (moved f v)
        first l = to true (nat_lt v (f.base + length f.vars)) (lt-ltb v f.base l) refl (a l)

        second : f.base ≤ v → v < f.base + length f.vars → X (moved f v)
        second l m = to false true (le-ltb v f.base l) (lt-ltb v (f.base + length f.vars) m) (b l m)

        third : f.base ≤ v → f.base + length f.vars ≤ v → X (moved f v)
        third l m = to false false (le-ltb v f.base l) (le-ltb v (f.base + length f.vars) m) (c l m)

  -- a variable that is not named
  pub get-moved : (d : List Var) (v : ℕ) → has f.named v ≡ false → slice_get ((sc ++ f.vars) ++ d) v ≡ slice_get ((sc ++ folded_vars f) ++ d) (moved f v)
  get-moved d v h = by-number (λ w. slice_get ((sc ++ f.vars) ++ d) v ≡ slice_get ((sc ++ folded_vars f) ++ d) w) v first second third
    where
      first : v < f.base → slice_get ((sc ++ f.vars) ++ d) v ≡ slice_get ((sc ++ folded_vars f) ++ d) v
      first l =
          ap (λ r. slice_get r v) (append_assoc sc f.vars d) ∙ get-before sc (f.vars ++ d) (folded_vars f ++ d) v (omega (arith, l, len))
          ∙ ap (λ r. slice_get r v) (sym (append_assoc sc (folded_vars f) d))

      second : f.base ≤ v → v < f.base + length f.vars → slice_get ((sc ++ f.vars) ++ d) v ≡ slice_get ((sc ++ folded_vars f) ++ d) (f.base + place (numbers_of (staying f)) v)
      second l m =
          let e : v ≡ f.base + (v - f.base) = omega (arith, l) in
          let p = stays-place v l m h in
          let n = length-map (staying f) (λ q. q.var) in
          ap₂ slice_get (append_assoc sc f.vars d) e ∙ get-coming sc (f.vars ++ d) f.base (v - f.base) len
          ∙ get-before f.vars d [] (v - f.base) (omega (arith, l, m)) ∙ ap (λ r. slice_get r (v - f.base)) (append-nil f.vars)
          ∙ stay-get f.named f.base f.vars v l m h
          ∙ ap (λ r. slice_get r (place (numbers_of (staying f)) v)) (sym (append-nil (vars_of (staying f))))
          ∙ get-before (vars_of (staying f)) [] (come ++ d) (place (numbers_of (staying f)) v) (omega (arith, p, n))
          ∙ ap (λ r. slice_get r (place (numbers_of (staying f)) v)) (sym (append_assoc (vars_of (staying f)) come d))
          ∙ sym (get-coming sc (folded_vars f ++ d) f.base (place (numbers_of (staying f)) v) len)
          ∙ ap (λ r. slice_get r (f.base + place (numbers_of (staying f)) v)) (sym (append_assoc sc (folded_vars f) d))

      third : f.base ≤ v → f.base + length f.vars ≤ v → slice_get ((sc ++ f.vars) ++ d) v ≡ slice_get ((sc ++ folded_vars f) ++ d) (v - (f.base + length f.vars) + (first_added f + length (new_tables f)))
      third l m =
          let e : v ≡ (f.base + length f.vars) + (v - (f.base + length f.vars)) = omega (arith, m) in
          let e' : (first_added f + length (new_tables f)) + (v - (f.base + length f.vars)) ≡ v - (f.base + length f.vars) + (first_added f + length (new_tables f)) = omega arith in
          ap (slice_get ((sc ++ f.vars) ++ d)) e ∙ get-coming (sc ++ f.vars) d (f.base + length f.vars) (v - (f.base + length f.vars)) (length-append sc f.vars ∙ ap (λ n. n + length f.vars) len)
          ∙ sym (get-coming (sc ++ folded_vars f) d (first_added f + length (new_tables f)) (v - (f.base + length f.vars)) whole)
          ∙ ap (slice_get ((sc ++ folded_vars f) ++ d)) e'

  -- a variable that is added
  pub get-added : (d : List Var) (i : ℕ) → i < length (new_tables f) → slice_get ((sc ++ folded_vars f) ++ d) (first_added f + i) ≡ slice_get (map (var_of New 0) (new_tables f)) i
  get-added d i l =
      let n = length-map (new_tables f) (var_of New 0) in
      ap (λ r. slice_get r (first_added f + i)) (ap (λ r. r ++ d) (sym (append_assoc sc (vars_of (staying f)) come)) ∙ append_assoc (sc ++ vars_of (staying f)) come d)
      ∙ get-coming (sc ++ vars_of (staying f)) (come ++ d) (first_added f) i long
      ∙ get-before come d [] i (omega (arith, l, n)) ∙ ap (λ r. slice_get r i) (append-nil come)

  -- a variable that is named
  pub get-named : (d : List Var) (v : ℕ) → has f.named v ≡ true → slice_get ((sc ++ f.vars) ++ d) v ≡ Some (var_of Old 0 (slice_index_or (old_tables f) (place f.named v) 0))
  get-named d v h =
      let k = named-var f.base f.vars f.named (old_tables f) v named h in
      let e : v ≡ f.base + (v - f.base) = omega (arith, k.0) in
      ap₂ slice_get (append_assoc sc f.vars d) e ∙ get-coming sc (f.vars ++ d) f.base (v - f.base) len ∙ more f.vars (v - f.base) k.1
    where
      more : (xs : List Var) (i : ℕ) {x : Var} → slice_get xs i ≡ Some x → slice_get (xs ++ d) i ≡ Some x
      more [] i e = cc
      more (x ∷ xs) zero e = e
      more (x ∷ xs) (suc i) e = more xs i e

  -- ---- numbers stay apart

  abbrev back : ℕ → ℕ
  back w = cond (nat_lt w f.base) w (cond (nat_lt w (first_added f)) (slice_index_or (numbers_of (staying f)) (w - f.base) 0) (w - (first_added f + length (new_tables f)) + (f.base + length f.vars)))

  back-moved : (v : ℕ) → has f.named v ≡ false → back (moved f v) ≡ v
  back-moved v h = by-number (λ w. back w ≡ v) v first second third
    where
      case : (w : ℕ) (b c : Bool) → nat_lt w f.base ≡ b → nat_lt w (first_added f) ≡ c → back w ≡ cond b w (cond c (slice_index_or (numbers_of (staying f)) (w - f.base) 0) (w - (first_added f + length (new_tables f)) + (f.base + length f.vars)))
      case w b c p q = ap₂ (λ s t. cond s w (cond t (slice_index_or (numbers_of (staying f)) (w - f.base) 0) (w - (first_added f + length (new_tables f)) + (f.base + length f.vars)))) p q

      first : v < f.base → back v ≡ v
      first l = case v true (nat_lt v (first_added f)) (lt-ltb v f.base l) refl

      second : f.base ≤ v → v < f.base + length f.vars → back (f.base + place (numbers_of (staying f)) v) ≡ v
      second l m =
          let p = stays-place v l m h in
          let w = f.base + place (numbers_of (staying f)) v in
          let e : w - f.base ≡ place (numbers_of (staying f)) v = omega arith in
          case w false true (le-ltb w f.base (omega arith)) (lt-ltb w (first_added f) (omega (arith, p)))
          ∙ ap (λ i. slice_index_or (numbers_of (staying f)) i 0) e ∙ get-place (numbers_of (staying f)) v (stays-there v l m h)

      third : f.base ≤ v → f.base + length f.vars ≤ v → back (v - (f.base + length f.vars) + (first_added f + length (new_tables f))) ≡ v
      third l m =
          let w = v - (f.base + length f.vars) + (first_added f + length (new_tables f)) in
          case w false false (le-ltb w f.base (omega arith)) (le-ltb w (first_added f) (omega arith)) ∙ omega (arith, m)

  pub moved-apart : (a b : ℕ) → has f.named a ≡ false → has f.named b ≡ false → (a == b) ≡ (moved f a == moved f b)
  moved-apart a b h k = go (eqb_tells a b)
    where
      go : ((a == b) ≡ true) × (a ≡ b) ⊎ ((a == b) ≡ false) × (a ≢ b) → (a == b) ≡ (moved f a == moved f b)
      go (inl e) = e.0 ∙ sym (eq-eqb (moved f a) (moved f b) (ap (moved f) e.1))
      go (inr e) = e.0 ∙ sym (ne_eqb (moved f a) (moved f b) (λ q. e.1 (sym (back-moved a h) ∙ ap back q ∙ back-moved b k)))
