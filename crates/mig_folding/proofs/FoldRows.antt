-- The rows of a host's choice before and after a fold.
use Rattle.std.proofs.Common.{◌≡◌, ℕ, ◌+◌, ◌-◌, ◌<◌, ◌≤◌, Bool, true, false, cond, not, ◌&&◌, List, ◌++◌, map, length, refl, sym, ap, ap₂, ◌∙◌, arith, ⊎_elim, append_assoc, length-append}
use Rattle.std.specs.Prelude.{nat_lt}
use Rattle.std.proofs.lemmas.Bool.{cases_lt, and_parts, lt-ltb, le-ltb, ltb-true}
use Rattle.std.proofs.lemmas.List.{length-map, get_or_append_left, get_or-append_right, get_or-append-add}
use Rattle.mig_schema.specs.declared.faults.Side.TheVariants.{Old}
use Rattle.mig_schema.specs.Joins.{tables_of}
use Rattle.mig_meaning.specs.declared.relating.View.{View}
use Rattle.mig_meaning.specs.Lists.{place, has, In, Each, AllDifferent}
use Rattle.mig_meaning.specs.Rows.{no_row, value_at, column_in}
use Rattle.mig_algebra.specs.declared.atoms.Var.{Var}
use Rattle.mig_algebra.specs.Meaning.{Env, row_at}
use Rattle.mig_algebra.specs.Obligations.{var_of}
use Rattle.mig_algebra.specs.Tidied.{slots, numbers_of, vars_of}
use Rattle.mig_algebra.proofs.Slots.{count-slots, has-slots, place-in}
use Rattle.mig_algebra.proofs.Named.{put_back, unnamed}
use Rattle.mig_algebra.proofs.NamedRows.{has-unnamed, named-row, unnamed-row}
use Rattle.mig_algebra.proofs.Exchanged.{row-coming}
use Rattle.mig_folding.specs.Folding.{Numbered, Fold, moved, first_added, old_column}
use Rattle.mig_folding.proofs.Picked.{place-get, from-base, named-has}

module _ (e : Env) (vars : List Var) (named : List Numbered) (source target : View) where
  -- the fold of these slots
  abbrev pub fold_at : Fold
  fold_at = record { base = length e; vars = vars; named = numbers_of named; source = source; target = target }

  -- the variables that stay
  abbrev pub others : List Numbered
  others = unnamed named (slots (length e) vars)

  -- the rows of the host's own variables, by those of the variables that stay and of the named ones
  abbrev pub own_rows : Env → Env → Env
  own_rows c x = put_back (numbers_of (others ++ named)) (numbers_of (slots (length e) vars)) (c ++ x)

  own-length : (c x : Env) → length (own_rows c x) ≡ length vars
  own-length c x = length-map (numbers_of (slots (length e) vars)) _ ∙ count-slots (length e) vars

  inside : (c x k : Env) (v : ℕ) → length e ≤ v → v < length e + length vars → row_at ((e ++ own_rows c x) ++ k) v ≡ row_at (own_rows c x) (v - length e)
  inside c x k v l m =
      let n = own-length c x in
      ap (λ r. row_at r v) (append_assoc e (own_rows c x) k)
      ∙ get_or-append_right e (own_rows c x ++ k) (length e) v no_row refl l
      ∙ get_or_append_left (own_rows c x) k no_row (v - length e) (omega (arith, l, m, n))

  long : (c y : Env) → length c ≡ length others → length (e ++ c) ≡ first_added fold_at
  long c y lc = length-append e c ∙ ap (λ n. length e + n) lc

  -- a row that is added
  pub added-at : (c y k : Env) (t : ℕ) → length c ≡ length others → t < length y → row_at ((e ++ (c ++ y)) ++ k) (first_added fold_at + t) ≡ row_at y t
  added-at c y k t lc l =
      ap (λ r. row_at (r ++ k) (first_added fold_at + t)) (sym (append_assoc e c y))
      ∙ row-coming (e ++ c) y k (first_added fold_at) t (long c y lc) l

  module _ (within : Each (λ q. In q (slots (length e) vars)) named) where
    bounds : (v : ℕ) → has (numbers_of named) v ≡ true → (length e ≤ v) × (v < length e + length vars)
    bounds v h =
        let k = and_parts (not (nat_lt v (length e))) (nat_lt v (length e + length vars)) (sym (has-slots (length e) vars v) ∙ named-has named (slots (length e) vars) v within h) in
        (from-base v (length e) k.0, ltb-true v (length e + length vars) k.1)

    -- the row of a named variable
    pub named-at : (c x k : Env) (v : ℕ) → length c ≡ length others → has (numbers_of named) v ≡ true → row_at ((e ++ own_rows c x) ++ k) v ≡ row_at x (place (numbers_of named) v)
    named-at c x k v lc h =
        let b = bounds v h in
        inside c x k v b.0 b.1
        ∙ named-row named (length e) vars c x v b.0 (named-has named (slots (length e) vars) v within h) h (lc ∙ sym (length-map others _))

    -- the row of any other
    pub other-at : (c x y k : Env) (v : ℕ) → length c ≡ length others → length y ≡ length (tables_of target.join) → has (numbers_of named) v ≡ false → row_at ((e ++ own_rows c x) ++ k) v ≡ row_at ((e ++ (c ++ y)) ++ k) (moved fold_at v)
    other-at c x y k v lc ly h = ⊎_elim before (λ l. ⊎_elim (own l) (behind l) (cases_lt v (length e + length vars))) (cases_lt v (length e))
      where
        n : ℕ
        n = length e + length vars

        last : ℕ
        last = v - n + (first_added fold_at + length (tables_of target.join))

        mid : ℕ
        mid = length e + place (numbers_of others) v

        to : (b c' : Bool) → nat_lt v (length e) ≡ b → nat_lt v n ≡ c' → row_at ((e ++ (c ++ y)) ++ k) (cond b v (cond c' mid last)) ≡ row_at ((e ++ (c ++ y)) ++ k) (moved fold_at v)
        to b c' p q = ap₂ (λ s t. row_at ((e ++ (c ++ y)) ++ k) (cond s v (cond t mid last))) (sym p) (sym q)

        before : v < length e → row_at ((e ++ own_rows c x) ++ k) v ≡ row_at ((e ++ (c ++ y)) ++ k) (moved fold_at v)
        before l =
            ap (λ r. row_at r v) (append_assoc e (own_rows c x) k) ∙ get_or_append_left e (own_rows c x ++ k) no_row v l
            ∙ sym (get_or_append_left e ((c ++ y) ++ k) no_row v l) ∙ ap (λ r. row_at r v) (sym (append_assoc e (c ++ y) k))
            ∙ to true (nat_lt v n) (lt-ltb v (length e) l) refl

        own : length e ≤ v → v < n → row_at ((e ++ own_rows c x) ++ k) v ≡ row_at ((e ++ (c ++ y)) ++ k) (moved fold_at v)
        own l m =
            let there : has (numbers_of (slots (length e) vars)) v ≡ true = has-slots (length e) vars v ∙ ap₂ (λ a b. not a && b) (le-ltb v (length e) l) (lt-ltb v n m) in
            let stays : has (numbers_of others) v ≡ true = has-unnamed named (slots (length e) vars) v ∙ ap₂ (λ a b. a && not b) there h in
            let p = place-in (numbers_of others) v stays in
            let cl : length c ≡ length (numbers_of others) = lc ∙ sym (length-map others _) in
            inside c x k v l m
            ∙ unnamed-row named (length e) vars c x v l there h cl
            ∙ sym (get_or_append_left c (y ++ k) no_row (place (numbers_of others) v) (omega (arith, p, cl)))
            ∙ sym (get_or-append-add e (c ++ (y ++ k)) (place (numbers_of others) v) no_row)
            ∙ ap (λ r. row_at r mid) (ap (λ r. e ++ r) (sym (append_assoc c y k)) ∙ sym (append_assoc e (c ++ y) k))
            ∙ to false true (le-ltb v (length e) l) (lt-ltb v n m)

        behind : length e ≤ v → n ≤ v → row_at ((e ++ own_rows c x) ++ k) v ≡ row_at ((e ++ (c ++ y)) ++ k) (moved fold_at v)
        behind l m =
            let old : length (e ++ own_rows c x) ≡ n = length-append e (own_rows c x) ∙ ap (λ a. length e + a) (own-length c x) in
            let new : length (e ++ (c ++ y)) ≡ first_added fold_at + length (tables_of target.join) = ap length (sym (append_assoc e c y)) ∙ length-append (e ++ c) y ∙ ap₂ (λ a b. a + b) (long c y lc) ly in
            let same : v - n ≡ last - (first_added fold_at + length (tables_of target.join)) = omega arith in
            get_or-append_right (e ++ own_rows c x) k n v no_row old m
            ∙ ap (row_at k) same
            ∙ sym (get_or-append_right (e ++ (c ++ y)) k (first_added fold_at + length (tables_of target.join)) last no_row new (omega arith))
            ∙ to false false (le-ltb v (length e) l) (le-ltb v n m)

    module _ (vs : vars_of named ≡ map (var_of Old 0) (tables_of source.join)) (once : AllDifferent (tables_of source.join)) where
      pub as-many : length (numbers_of named) ≡ length (tables_of source.join)
      as-many = length-map named _ ∙ sym (length-map named (λ p. p.var)) ∙ ap length vs ∙ length-map (tables_of source.join) (var_of Old 0)

      -- a column of a named variable is that of the old view's join
      pub column-at : (c x k : Env) (v col : ℕ) → length c ≡ length others → has (numbers_of named) v ≡ true → value_at (row_at ((e ++ own_rows c x) ++ k) v) col ≡ column_in (tables_of source.join) x (old_column fold_at v col)
      column-at c x k v col lc h =
          let p = place-in (numbers_of named) v h in
          ap (λ r. value_at r col)
          (named-at c x k v lc h ∙ ap (row_at x) (sym (place-get (tables_of source.join) once (place (numbers_of named) v) (omega (arith, p, as-many)))))
