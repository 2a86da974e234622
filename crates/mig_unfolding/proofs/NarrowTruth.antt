-- A body is true exactly where it is once its variables that an `Other` keeps apart from the row just inserted are narrowed, and the `Other`s are gone.
use Rattle.std.proofs.Common.{◌≡◌, ◌≢◌, ℕ, zero, suc, ◌+◌, ◌-◌, ◌<◌, ◌≤◌, Bool, true, false, cond, not, ◌&&◌, ◌||◌, List, [], ◌∷◌, ◌++◌, map, length, Option, Some, None, refl, sym, ap, ap₂, ◌∙◌, arith, inl, inr, ◌⊎◌, ⊎_elim, subst, length-append}
use Rattle.std.specs.Prelude.{◌==◌, nat_lt, slice_get}
use Rattle.std.specs.List.{list_any}
use Rattle.std.proofs.lemmas.Bool.{cases_Bool, cases_lt, and_parts, eqb-true, eq-eqb, ne_eqb, ltb-true}
use Rattle.std.proofs.lemmas.Bool.{or_cases}
use Rattle.std.proofs.lemmas.List.{length-map, map-append}
use Rattle.std.proofs.lemmas.List.Folds.{list_any-append}
use Rattle.mig_meaning.specs.declared.states.Placed.{Placed}
use Rattle.mig_meaning.specs.Lists.{Each, total}
use Rattle.mig_meaning.proofs.Bags.{total-append}
use Rattle.mig_algebra.proofs.Sums.{when, total-same, total-each, total-none}
use Rattle.mig_algebra.proofs.Hosts.{at_row, choice-lengths}
use Rattle.mig_algebra.proofs.Inserted.{row_sum}
use Rattle.mig_unfolding.proofs.Deletes.{row-of-own}
use Rattle.mig_meaning.proofs.Within.{each-weaker, each-of}
use Rattle.mig_algebra.specs.declared.atoms.Var.{Var}
use Rattle.mig_algebra.specs.declared.literals.Lit.{Lit, Cmp, Other, Any', Row_of-Lit, end_of-Lit, more_of-Lit, items-the_row-Lit}
use Rattle.mig_algebra.specs.Meaning.{Setting, Env, row_at, comes_out, choices, lit_true, row_true, lits_true}
use Rattle.mig_algebra.specs.Proper.{same_side}
use Rattle.mig_algebra.proofs.Lists.{each-middle, each-both}
use Rattle.mig_algebra.proofs.Some.{any-same, any-each}
use Rattle.mig_algebra.proofs.SomeChoice.{any-product}
use Rattle.mig_algebra.proofs.Products.{Picks, product_picks, picks-length, total-product}
use Rattle.mig_algebra.proofs.Bodies.{any_true, row_as_list}
use Rattle.mig_algebra.proofs.Without.{row-before, row-after}
use Rattle.mig_unfolding.specs.Hosts.{var_before}
use Rattle.mig_unfolding.specs.Narrowed.{parts, parts_two, names, is_same, is_older, narrowed, narrow_lit, narrow_row, narrow_list, lit_narrows, row_narrows, list_narrows}
use Rattle.mig_unfolding.proofs.CaseFits.{get-front, get-behind}

-- ---- literals that are not true

two-false : (s : Setting) (e : Env) (v w : ℕ) → (row_at e v).id ≡ (row_at e w).id → (l : Lit) → parts_two v w l ≡ true → lit_true s e l ≡ false
two-false s e v w same (Cmp op a b) h = cc
two-false s e v w same (Other a b) h = go (or_cases (a == v && b == w) (a == w && b == v) h)
  where
    go : ((a == v && b == w) ≡ true) ⊎ ((a == w && b == v) ≡ true) → lit_true s e (Other a b) ≡ false
    go (inl t) =
        let k = and_parts (a == v) (b == w) t in
        ap not (eq-eqb (row_at e a).id (row_at e b).id (ap (λ i. (row_at e i).id) (eqb-true a v k.0) ∙ same ∙ ap (λ i. (row_at e i).id) (sym (eqb-true b w k.1))))
    go (inr t) =
        let k = and_parts (a == w) (b == v) t in
        ap not (eq-eqb (row_at e a).id (row_at e b).id (ap (λ i. (row_at e i).id) (eqb-true a w k.0) ∙ sym same ∙ ap (λ i. (row_at e i).id) (sym (eqb-true b v k.1))))
two-false s e v w same (Any' held vars n lits) h = cc

named-false : (s : Setting) (e : Env) (v w : ℕ) → (row_at e v).id ≡ (row_at e w).id → (ls : List Lit) → list_any (parts_two v w) ls ≡ true → lits_true s e ls ≡ false
named-false s e v w same [] h = cc
named-false s e v w same (l ∷ ls) h = go (or_cases (parts_two v w l) (list_any (parts_two v w) ls) h) (named-false s e v w same ls)
  where
    last : (b : Bool) → (b && false) ≡ false
    last true = refl
    last false = refl

    go : (parts_two v w l ≡ true) ⊎ (list_any (parts_two v w) ls ≡ true) → (list_any (parts_two v w) ls ≡ true → lits_true s e ls ≡ false) → (lit_true s e l && lits_true s e ls) ≡ false
    go (inl t) ih = ap (λ b. b && lits_true s e ls) (two-false s e v w same l t)
    go (inr t) ih = ap (λ b. lit_true s e l && b) (ih t) ∙ last (lit_true s e l)

module _ (s : Setting) (u : Var) (p : Placed) (v : ℕ) (rows : (x : Var) → is_same u x ≡ true → s.rows x ≡ s.rows (var_before x) ++ (p ∷ [])) (old : (x : Var) → is_older u (Some x) ≡ true → Each (λ (q : Placed). q.id ≢ p.id) (s.rows x)) where
  -- ---- choices

  none-any : {X : Type 0} (f : X → Bool) (xs : List X) → ((x : X) → f x ≡ false) → list_any f xs ≡ false
  none-any f [] h = refl
  none-any f (x ∷ xs) h = ap₂ (λ a b. a || b) (h x) (none-any f xs h)

  -- where a test fails at each choice in which a variable that is kept apart has the row p
  narrow-any : (lits : List Lit) (f : Env → Bool) (n : ℕ) (vars : List Var) → ((w : ℕ) (c : Env) → names v (n + w) lits ≡ true → row_at c w ≡ p → f c ≡ false) → list_any f (choices s vars) ≡ list_any f (choices s (narrowed u v n lits vars))
  narrow-any lits f n [] h = refl
  narrow-any lits f n (x ∷ xs) h =
      any-product f (s.rows x) (map s.rows xs)
      ∙ any-same (λ q. list_any (λ c. f (q ∷ c)) (choices s xs)) rest (λ q. narrow-any lits (λ c. f (q ∷ c)) (n + 1) xs (λ w c k e. let m : (n + 1) + w ≡ n + suc w = omega arith in h (suc w) (q ∷ c) (ap (λ i. names v i lits) (sym m) ∙ k) e)) (s.rows x)
      ∙ first (cases_Bool (names v n lits && is_same u x))
      ∙ sym (any-product f (s.rows (cond (names v n lits && is_same u x) (var_before x) x)) (map s.rows (narrowed u v (n + 1) lits xs)))
    where
      rest : Placed → Bool
      rest q = list_any (λ c. f (q ∷ c)) (choices s (narrowed u v (n + 1) lits xs))

      or_none : (b : Bool) → (b || (false || false)) ≡ b
      or_none true = refl
      or_none false = refl

      first : ((names v n lits && is_same u x) ≡ true) ⊎ ((names v n lits && is_same u x) ≡ false) → list_any rest (s.rows x) ≡ list_any rest (s.rows (cond (names v n lits && is_same u x) (var_before x) x))
      first (inl t) =
          let k = and_parts (names v n lits) (is_same u x) t in
          let z : n ≡ n + 0 = omega arith in
          ap (list_any rest) (rows x k.1)
          ∙ list_any-append rest (s.rows (var_before x)) (p ∷ [])
          ∙ ap (λ b. list_any rest (s.rows (var_before x)) || (b || false)) (none-any (λ c. f (p ∷ c)) (choices s (narrowed u v (n + 1) lits xs)) (λ c. h 0 (p ∷ c) (ap (λ i. names v i lits) (sym z) ∙ k.0) refl))
          ∙ or_none (list_any rest (s.rows (var_before x)))
          ∙ ap (λ b. list_any rest (s.rows (cond b (var_before x) x))) (sym t)
      first (inr t) = ap (λ b. list_any rest (s.rows (cond b (var_before x) x))) (sym t)

  -- ---- rows of earlier stages

  -- a choice e for the variables in scope, in which v has the row p, and each variable as v of an earlier stage another row
  pub record Fresh (sc : List Var) (e : Env) : Type 0 where
    pub long : length e ≡ length sc
    pub inside : v < length e
    pub own : row_at e v ≡ p
    pub apart : (w : ℕ) (x : Var) → slice_get sc w ≡ Some x → is_older u (Some x) ≡ true → (row_at e w).id ≢ p.id

  pub picks-old : (vs : List Var) (c : Env) → Picks (map s.rows vs) c → (w : ℕ) (x : Var) → slice_get vs w ≡ Some x → is_older u (Some x) ≡ true → (row_at c w).id ≢ p.id
  picks-old [] [] pk w x h o = cc
  picks-old [] (q ∷ c) pk w x h o = absurd pk
  picks-old (y ∷ ys) [] pk w x h o = absurd pk
  picks-old (y ∷ ys) (q ∷ c) pk zero x h o =
      let e : y ≡ x = cc in
      each-middle (λ (r : Placed). r.id ≢ p.id) pk.0.0 q pk.0.1 (subst (Each (λ (r : Placed). r.id ≢ p.id)) pk.0.2 (old y (ap (λ z. is_older u (Some z)) e ∙ o)))
  picks-old (y ∷ ys) (q ∷ c) pk (suc w) x h o = picks-old ys c pk.1 w x h o

  fresh-more : (sc vs : List Var) (e c : Env) → Fresh sc e → Picks (map s.rows vs) c → Fresh (sc ++ vs) (e ++ c)
  fresh-more sc vs e c fr pk = record {
    long = length-append e c ∙ ap₂ (λ a b. a + b) fr.long (picks-length (map s.rows vs) c pk ∙ length-map vs s.rows) ∙ sym (length-append sc vs);
    inside = omega (arith, fr.inside, length-append e c);
    own = row-before e c v fr.inside ∙ fr.own;
    apart = λ w x h o. ⊎_elim (front w x h o) (behind w x h o) (cases_lt w (length sc));
  }
    where
      front : (w : ℕ) (x : Var) → slice_get (sc ++ vs) w ≡ Some x → is_older u (Some x) ≡ true → w < length sc → (row_at (e ++ c) w).id ≢ p.id
      front w x h o l = λ q. fr.apart w x (sym (get-front sc vs w l) ∙ h) o (ap (λ (r : Placed). r.id) (sym (row-before e c w (omega (arith, l, fr.long)))) ∙ q)

      behind : (w : ℕ) (x : Var) → slice_get (sc ++ vs) w ≡ Some x → is_older u (Some x) ≡ true → length sc ≤ w → (row_at (e ++ c) w).id ≢ p.id
      behind w x h o l =
          let k : length sc + (w - length sc) ≡ w = omega (arith, l) in
          let g : w - length e ≡ w - length sc = ap (λ n. w - n) fr.long in
          λ q. picks-old vs c pk (w - length sc) x (sym (get-behind sc vs (w - length sc)) ∙ ap (slice_get (sc ++ vs)) k ∙ h) o (ap (λ n. (row_at c n).id) (sym g) ∙ ap (λ (r : Placed). r.id) (sym (row-after e c w (omega (arith, l, fr.long)))) ∙ q)

  -- ---- literals

  older-some : (o : Option Var) → is_older u o ≡ true → (x : Var) × (o ≡ Some x)
  older-some None h = cc
  older-some (Some x) h = (x, refl)

  -- an `Other` of v and of a variable of an earlier stage is true
  parted-true : (all sc : List Var) (e : Env) → Fresh sc e → (l : Lit) → parts v l ≡ true → lit_narrows u v all sc l ≡ true → lit_true s e l ≡ true
  parted-true all sc e fr (Cmp op a b) h n = cc
  parted-true all sc e fr (Other a b) h n = go (cases_Bool (a == v)) (cases_Bool (b == v))
    where
      differs : (w : ℕ) → is_older u (slice_get sc w) ≡ true → (row_at e w).id ≢ p.id
      differs w o = let k = older-some (slice_get sc w) o in fr.apart w k.0 k.1 (ap (is_older u) (sym k.1) ∙ o)

      at : (i : ℕ) → (i == v) ≡ true → (row_at e i).id ≡ p.id
      at i t = ap (λ j. (row_at e j).id) (eqb-true i v t) ∙ ap (λ (r : Placed). r.id) fr.own

      go : ((a == v) ≡ true) ⊎ ((a == v) ≡ false) → ((b == v) ≡ true) ⊎ ((b == v) ≡ false) → lit_true s e (Other a b) ≡ true
      go (inl t) r =
          let o : is_older u (slice_get sc b) ≡ true = ap (λ z. cond z (is_older u (slice_get sc b)) (cond (b == v) (is_older u (slice_get sc a)) true)) (sym t) ∙ n in
          ap not (ne_eqb (row_at e a).id (row_at e b).id (λ q. differs b o (sym q ∙ at a t)))
      go (inr t) (inl r) =
          let o : is_older u (slice_get sc a) ≡ true = ap₂ (λ z y. cond z (is_older u (slice_get sc b)) (cond y (is_older u (slice_get sc a)) true)) (sym t) (sym r) ∙ n in
          ap not (ne_eqb (row_at e a).id (row_at e b).id (λ q. differs a o (q ∙ at b r)))
      go (inr t) (inr r) = let bad : false ≡ true = ap₂ (λ z y. z || y) (sym t) (sym r) ∙ h in cc
  parted-true all sc e fr (Any' held vars m row) h n = cc

  pub narrowed-long : (n : ℕ) (lits : List Lit) (vars : List Var) → length (narrowed u v n lits vars) ≡ length vars
  narrowed-long n lits [] = refl
  narrowed-long n lits (x ∷ xs) = ap suc (narrowed-long (n + 1) lits xs)

  nothing-and : (b : Bool) → (b && false) ≡ false
  nothing-and true = refl
  nothing-and false = refl

  older-not-same : (x : Var) → is_older u (Some x) ≡ true → is_same u x ≡ false
  older-not-same x o =
      let a = and_parts (same_side x.side u.side) (x.table == u.table && nat_lt x.stage u.stage) o in
      let b = and_parts (x.table == u.table) (nat_lt x.stage u.stage) a.1 in
      let l = ltb-true x.stage u.stage b.1 in
      ap (λ z. same_side x.side u.side && (x.table == u.table && z)) (ne_eqb x.stage u.stage (λ q. absurd (omega (arith, l, q))))
      ∙ ap (λ z. same_side x.side u.side && z) (nothing-and (x.table == u.table)) ∙ nothing-and (same_side x.side u.side)

  -- a variable of an earlier stage is not narrowed
  older-kept : (n : ℕ) (lits : List Lit) (vars : List Var) (w : ℕ) (x : Var) → slice_get vars w ≡ Some x → is_older u (Some x) ≡ true → slice_get (narrowed u v n lits vars) w ≡ Some x
  older-kept n lits [] w x h o = cc
  older-kept n lits (y ∷ ys) zero x h o =
      let e : y ≡ x = cc in
      ap (λ b. Some (cond (names v n lits && b) (var_before y) y)) (older-not-same y (ap (λ z. is_older u (Some z)) e ∙ o))
      ∙ ap (λ b. Some (cond b (var_before y) y)) (nothing-and (names v n lits)) ∙ ap Some e
  older-kept n lits (y ∷ ys) (suc w) x h o = older-kept (n + 1) lits ys w x h o

  narrowed-own : (lits : List Lit) (ws : List Var) → narrowed u v v lits (u ∷ ws) ≡ u ∷ narrowed u v (v + 1) lits ws
  narrowed-own lits ws = ap (λ b. cond ((not b && list_any (parts_two v v) lits) && is_same u u) (var_before u) u ∷ narrowed u v (v + 1) lits ws) (eq-eqb v v refl)

  -- v itself is not
  pub narrowed-split : (n : ℕ) (lits : List Lit) (vs ws : List Var) → n + length vs ≡ v → narrowed u v n lits (vs ++ (u ∷ ws)) ≡ narrowed u v n lits vs ++ (u ∷ narrowed u v (v + 1) lits ws)
  narrowed-split n lits [] ws h = let e : n ≡ v = omega (arith, h) in ap (λ m. narrowed u v m lits (u ∷ ws)) e ∙ narrowed-own lits ws
  narrowed-split n lits (x ∷ xs) ws h = ap (λ l. cond (names v n lits && is_same u x) (var_before x) x ∷ l) (narrowed-split (n + 1) lits xs ws (omega (arith, h)))

  -- what is so of narrowed variables is so of the variables
  pub fresh-plain : (sc vars : List Var) (lits : List Lit) (e : Env) → Fresh (sc ++ narrowed u v (length sc) lits vars) e → Fresh (sc ++ vars) e
  fresh-plain sc vars lits e fr = record {
    long = fr.long ∙ length-append sc new ∙ ap (λ n. length sc + n) (narrowed-long (length sc) lits vars) ∙ sym (length-append sc vars);
    inside = fr.inside;
    own = fr.own;
    apart = λ w x h o. ⊎_elim (front w x h o) (behind w x h o) (cases_lt w (length sc));
  }
    where
      new : List Var
      new = narrowed u v (length sc) lits vars

      front : (w : ℕ) (x : Var) → slice_get (sc ++ vars) w ≡ Some x → is_older u (Some x) ≡ true → w < length sc → (row_at e w).id ≢ p.id
      front w x h o l = fr.apart w x (get-front sc new w l ∙ sym (get-front sc vars w l) ∙ h) o

      behind : (w : ℕ) (x : Var) → slice_get (sc ++ vars) w ≡ Some x → is_older u (Some x) ≡ true → length sc ≤ w → (row_at e w).id ≢ p.id
      behind w x h o l =
          let k : length sc + (w - length sc) ≡ w = omega (arith, l) in
          fr.apart w x (ap (slice_get (sc ++ new)) (sym k) ∙ get-behind sc new (w - length sc) ∙ older-kept (length sc) lits vars (w - length sc) x (sym (get-behind sc vars (w - length sc)) ∙ ap (slice_get (sc ++ vars)) k ∙ h) o) o

  kept-apart-false : (sc : List Var) (e : Env) → Fresh sc e → {m : _} (row : Row_of-Lit m) (w : ℕ) (c : Env) → names v (length sc + w) (items-the_row-Lit _ row) ≡ true → row_at c w ≡ p → row_true s (e ++ c) row ≡ false
  kept-apart-false sc e fr row w c h q =
      let k = and_parts (not (v == length sc + w)) (list_any (parts_two v (length sc + w)) (items-the_row-Lit _ row)) h in
      let g : length sc + w - length e ≡ w = omega (arith, fr.long) in
      row_as_list s (e ++ c) row
      ∙ named-false s (e ++ c) v (length sc + w)
      (ap (λ (r : Placed). r.id) (row-before e c v fr.inside ∙ fr.own ∙ sym q ∙ ap (row_at c) (sym g) ∙ sym (row-after e c (length sc + w) (omega (arith, fr.long)))))
      (items-the_row-Lit _ row) k.1

  step : (all seen : List Var) (e : Env) → Fresh seen e → (l : Lit) (b : Bool) (n : List Lit) → lit_narrows u v all seen l ≡ true → (parts v l ≡ false → lit_true s e l ≡ lit_true s e (narrow_lit u v (length all) l)) → b ≡ lits_true s e n → (lit_true s e l && b) ≡ lits_true s e (cond (parts v l) n (narrow_lit u v (length all) l ∷ n))
  step all seen e fr l b n k one ih = go (cases_Bool (parts v l))
    where
      go : (parts v l ≡ true) ⊎ (parts v l ≡ false) → (lit_true s e l && b) ≡ lits_true s e (cond (parts v l) n (narrow_lit u v (length all) l ∷ n))
      go (inl t) = ap (λ z. z && b) (parted-true all seen e fr l t k) ∙ ih ∙ ap (λ z. lits_true s e (cond z n (narrow_lit u v (length all) l ∷ n))) (sym t)
      go (inr t) = ap₂ (λ z y. z && y) (one t) ih ∙ ap (λ z. lits_true s e (cond z n (narrow_lit u v (length all) l ∷ n))) (sym t)

  mutual
    -- a literal that is no `Other` of v
    pub narrow-true : (all seen : List Var) (e : Env) → Fresh all e → Fresh seen e → (l : Lit) → lit_narrows u v all seen l ≡ true → parts v l ≡ false → lit_true s e l ≡ lit_true s e (narrow_lit u v (length all) l)
    narrow-true all seen e fa fs (Cmp op a b) k t = refl
    narrow-true all seen e fa fs (Other a b) k t = refl
    narrow-true all seen e fa fs (Any' held vars m row) k t =
        ap (comes_out held)
        (narrow-any (items-the_row-Lit _ row) (λ c. row_true s (e ++ c) row) (length all) vars (λ w c h q. kept-apart-false all e fa row w c h q)
        ∙ any-each (λ c. row_true s (e ++ c) row) (λ c. lits_true s (e ++ c) (narrow_row u v (length all + length vars) row)) (choices s (narrowed u v (length all) (items-the_row-Lit _ row) vars))
        (each-weaker (Picks (map s.rows (narrowed u v (length all) (items-the_row-Lit _ row) vars))) (λ c. row_true s (e ++ c) row ≡ lits_true s (e ++ c) (narrow_row u v (length all + length vars) row))
        (λ c pk. let more = fresh-more all (narrowed u v (length all) (items-the_row-Lit _ row) vars) e c fa pk in
        narrow-row-true (all ++ vars) (all ++ narrowed u v (length all) (items-the_row-Lit _ row) vars) (e ++ c) (fresh-plain all vars (items-the_row-Lit _ row) (e ++ c) more) more row k
        ∙ ap (λ n. lits_true s (e ++ c) (narrow_row u v n row)) (length-append all vars))
        (choices s (narrowed u v (length all) (items-the_row-Lit _ row) vars)) (product_picks (map s.rows (narrowed u v (length all) (items-the_row-Lit _ row) vars)))))
        ∙ sym (any_true s e held (narrowed u v (length all) (items-the_row-Lit _ row) vars) (narrow_row u v (length all + length vars) row))

    -- a row of literals, without the `Other`s of v
    pub narrow-row-true : (all seen : List Var) (e : Env) → Fresh all e → Fresh seen e → {m : _} (row : Row_of-Lit m) → row_narrows u v all seen row ≡ true → row_true s e row ≡ lits_true s e (narrow_row u v (length all) row)
    narrow-row-true all seen e fa fs end_of-Lit k = refl
    narrow-row-true all seen e fa fs (more_of-Lit l rest) k =
        let j = and_parts (lit_narrows u v all seen l) (row_narrows u v all seen rest) k in
        step all seen e fs l (row_true s e rest) (narrow_row u v (length all) rest) j.0 (narrow-true all seen e fa fs l j.0) (narrow-row-true all seen e fa fs rest j.1)

  -- the same of a list
  pub narrow-list-true : (all seen : List Var) (e : Env) → Fresh all e → Fresh seen e → (ls : List Lit) → list_narrows u v all seen ls ≡ true → lits_true s e ls ≡ lits_true s e (narrow_list u v (length all) ls)
  narrow-list-true all seen e fa fs [] k = refl
  narrow-list-true all seen e fa fs (l ∷ ls) k =
      let j = and_parts (lit_narrows u v all seen l) (list_narrows u v all seen ls) k in
      step all seen e fs l (lits_true s e ls) (narrow_list u v (length all) ls) j.0 (narrow-true all seen e fa fs l j.0) (narrow-list-true all seen e fa fs ls j.1)

  -- sums over a host's own variables, which are nothing where a variable that is kept apart has the row p
  pub narrow-sum : (lits : List Lit) (f : Env → ℕ) (n : ℕ) (vars : List Var) → ((w : ℕ) (c : Env) → w < length vars → length c ≡ length vars → names v (n + w) lits ≡ true → row_at c w ≡ p → f c ≡ 0) → total f (choices s vars) ≡ total f (choices s (narrowed u v n lits vars))
  narrow-sum lits f n [] h = refl
  narrow-sum lits f n (x ∷ xs) h =
      total-product f (s.rows x) (map s.rows xs)
      ∙ total-same (λ q. total (λ c. f (q ∷ c)) (choices s xs)) rest (λ q. narrow-sum lits (λ c. f (q ∷ c)) (n + 1) xs (λ w c l g k e. let m : (n + 1) + w ≡ n + suc w = omega arith in h (suc w) (q ∷ c) (omega (arith, l)) (ap suc g) (ap (λ i. names v i lits) (sym m) ∙ k) e)) (s.rows x)
      ∙ first (cases_Bool (names v n lits && is_same u x))
      ∙ sym (total-product f (s.rows (cond (names v n lits && is_same u x) (var_before x) x)) (map s.rows (narrowed u v (n + 1) lits xs)))
    where
      rest : Placed → ℕ
      rest q = total (λ c. f (q ∷ c)) (choices s (narrowed u v (n + 1) lits xs))

      plus_none : (b : ℕ) → b + (0 + 0) ≡ b
      plus_none b = omega arith

      first : ((names v n lits && is_same u x) ≡ true) ⊎ ((names v n lits && is_same u x) ≡ false) → total rest (s.rows x) ≡ total rest (s.rows (cond (names v n lits && is_same u x) (var_before x) x))
      first (inl t) =
          let k = and_parts (names v n lits) (is_same u x) t in
          let z : n ≡ n + 0 = omega arith in
          ap (total rest) (rows x k.1)
          ∙ total-append rest (s.rows (var_before x)) (p ∷ [])
          ∙ ap (λ b. total rest (s.rows (var_before x)) + (b + 0)) (total-none (λ c. f (p ∷ c)) (choices s (narrowed u v (n + 1) lits xs)) (each-weaker (λ c. length c ≡ length (narrowed u v (n + 1) lits xs)) (λ c. f (p ∷ c) ≡ 0) (λ c g. h 0 (p ∷ c) (omega arith) (ap suc (g ∙ narrowed-long (n + 1) lits xs)) (ap (λ i. names v i lits) (sym z) ∙ k.0) refl) (choices s (narrowed u v (n + 1) lits xs)) (choice-lengths s (narrowed u v (n + 1) lits xs))))
          ∙ plus_none (total rest (s.rows (var_before x)))
          ∙ ap (λ b. total rest (s.rows (cond b (var_before x) x))) (sym t)
      first (inr t) = ap (λ b. total rest (s.rows (cond b (var_before x) x))) (sym t)

  -- ---- a host with the row p at its variable v

  picks-append : (xss yss : List (List Placed)) (c d : Env) → Picks xss c → Picks yss d → Picks (xss ++ yss) (c ++ d)
  picks-append [] yss [] d a b = b
  picks-append [] yss (q ∷ c) d a b = absurd a
  picks-append (xs ∷ xss) yss [] d a b = absurd a
  picks-append (xs ∷ xss) yss (q ∷ c) d a b = (a.0, picks-append xss yss c d a.1 b)

  -- each variable as v of an earlier stage has another row than p
  abbrev pub Apart : List Var → Env → Type 0
  Apart sc e = (w : ℕ) (x : Var) → slice_get sc w ≡ Some x → is_older u (Some x) ≡ true → (row_at e w).id ≢ p.id

  apart-more : (sc vs : List Var) (e c : Env) → length e ≡ length sc → Apart sc e → Picks (map s.rows vs) c → Apart (sc ++ vs) (e ++ c)
  apart-more sc vs e c long apart pk w x h o = ⊎_elim front behind (cases_lt w (length sc))
    where
      front : w < length sc → (row_at (e ++ c) w).id ≢ p.id
      front l = λ q. apart w x (sym (get-front sc vs w l) ∙ h) o (ap (λ (r : Placed). r.id) (sym (row-before e c w (omega (arith, l, long)))) ∙ q)

      behind : length sc ≤ w → (row_at (e ++ c) w).id ≢ p.id
      behind l =
          let k : length sc + (w - length sc) ≡ w = omega (arith, l) in
          let g : w - length e ≡ w - length sc = ap (λ n. w - n) long in
          λ q. picks-old vs c pk (w - length sc) x (sym (get-behind sc vs (w - length sc)) ∙ ap (slice_get (sc ++ vs)) k ∙ h) o (ap (λ n. (row_at c n).id) (sym g) ∙ ap (λ (r : Placed). r.id) (sym (row-after e c w (omega (arith, l, long)))) ∙ q)

  -- the row of v: what the host counts there is what it counts narrowed, without the `Other`s of v
  pub row-narrowed : (sc : List Var) (e : Env) (k : Env → ℕ) (vs ws : List Var) (lits : List Lit) → length e ≡ length sc → length e + length vs ≡ v → Apart sc e → s.rows u ≡ s.rows (var_before u) ++ (p ∷ []) → list_narrows u v (sc ++ (vs ++ (u ∷ ws))) (sc ++ narrowed u v (length sc) lits (vs ++ (u ∷ ws))) lits ≡ true → row_sum s e k vs ws lits p ≡ row_sum s e k (narrowed u v (length e) lits vs) (narrowed u v (v + 1) lits ws) (narrow_list u v (length e + (length vs + suc (length ws))) lits) p
  row-narrowed sc e k vs ws lits long at apart own ok =
      narrow-sum lits (λ c. total (λ d. at_row s e k lits c d p) (choices s ws)) (length e) vs outer-zero
      ∙ total-each _ _ (choices s vs') (each-both (λ c. length c ≡ length vs') (Picks (map s.rows vs')) (λ c. total (λ d. at_row s e k lits c d p) (choices s ws) ≡ total (λ d. at_row s e k lits' c d p) (choices s ws')) inner (choices s vs') (choice-lengths s vs') (product_picks (map s.rows vs')))
    where
      vs' : List Var
      vs' = narrowed u v (length e) lits vs

      ws' : List Var
      ws' = narrowed u v (v + 1) lits ws

      lits' : List Lit
      lits' = narrow_list u v (length e + (length vs + suc (length ws))) lits

      of-v : (c d : Env) → length c ≡ length vs → row_at (e ++ (c ++ (p ∷ d))) v ≡ p
      of-v c d l = ap (row_at (e ++ (c ++ (p ∷ d)))) (sym at) ∙ row-of-own e c d p (length vs) l

      nothing : (c d : Env) (w : ℕ) → length c ≡ length vs → names v w lits ≡ true → row_at (e ++ (c ++ (p ∷ d))) w ≡ p → at_row s e k lits c d p ≡ 0
      nothing c d w l n r =
          ap (λ b. when b (k (e ++ (c ++ (p ∷ d))))) (named-false s (e ++ (c ++ (p ∷ d))) v w (ap (λ (q : Placed). q.id) (of-v c d l ∙ sym r)) lits (and_parts (not (v == w)) (list_any (parts_two v w) lits) n).1)

      outer-zero : (w : ℕ) (c : Env) → w < length vs → length c ≡ length vs → names v (length e + w) lits ≡ true → row_at c w ≡ p → total (λ d. at_row s e k lits c d p) (choices s ws) ≡ 0
      outer-zero w c l g n r =
          let m : length e + w - length e ≡ w = omega arith in
          total-none (λ d. at_row s e k lits c d p) (choices s ws) (each-of (λ d. at_row s e k lits c d p ≡ 0) (λ d. nothing c d (length e + w) g n (row-after e (c ++ (p ∷ d)) (length e + w) (omega arith) ∙ ap (row_at (c ++ (p ∷ d))) m ∙ row-before c (p ∷ d) w (omega (arith, l, g)) ∙ r)) (choices s ws))

      inner-zero : (c : Env) → length c ≡ length vs → (w : ℕ) (d : Env) → w < length ws → length d ≡ length ws → names v (v + 1 + w) lits ≡ true → row_at d w ≡ p → at_row s e k lits c d p ≡ 0
      inner-zero c g w d l m n r =
          let a : v + 1 + w - length e ≡ length c + suc w = omega (arith, at, g) in
          let b : length c + suc w - length c ≡ suc w = omega arith in
          nothing c d (v + 1 + w) g n (row-after e (c ++ (p ∷ d)) (v + 1 + w) (omega (arith, at)) ∙ ap (row_at (c ++ (p ∷ d))) a ∙ row-after c (p ∷ d) (length c + suc w) (omega arith) ∙ ap (row_at (p ∷ d)) b ∙ r)

      inner : (c : Env) → length c ≡ length vs' → Picks (map s.rows vs') c → total (λ d. at_row s e k lits c d p) (choices s ws) ≡ total (λ d. at_row s e k lits' c d p) (choices s ws')
      inner c g pk =
          let l : length c ≡ length vs = g ∙ narrowed-long (length e) lits vs in
          narrow-sum lits (λ d. at_row s e k lits c d p) (v + 1) ws (inner-zero c l)
          ∙ total-each _ _ (choices s ws') (each-weaker (Picks (map s.rows ws')) (λ d. at_row s e k lits c d p ≡ at_row s e k lits' c d p) (λ d pd. cell c d l pk pd) (choices s ws') (product_picks (map s.rows ws')))
        where
          cell : (c d : Env) → length c ≡ length vs → Picks (map s.rows vs') c → Picks (map s.rows ws') d → at_row s e k lits c d p ≡ at_row s e k lits' c d p
          cell c d l pk pd =
              let picks : Picks (map s.rows (vs' ++ (u ∷ ws'))) (c ++ (p ∷ d)) = subst (λ z. Picks z (c ++ (p ∷ d))) (sym (map-append s.rows vs' (u ∷ ws'))) (picks-append (map s.rows vs') (s.rows u ∷ map s.rows ws') c (p ∷ d) pk ((s.rows (var_before u), [], own), pd)) in
              let size : length (sc ++ (vs' ++ (u ∷ ws'))) ≡ length e + (length vs + suc (length ws)) =
              omega (arith, long, length-append sc (vs' ++ (u ∷ ws')), length-append vs' (u ∷ ws'), narrowed-long (length e) lits vs, narrowed-long (v + 1) lits ws) in
              let many : length (e ++ (c ++ (p ∷ d))) ≡ length e + (length c + suc (length d)) = omega (arith, length-append e (c ++ (p ∷ d)), length-append c (p ∷ d)) in
              let dlen : length d ≡ length ws = picks-length (map s.rows ws') d pd ∙ length-map ws' s.rows ∙ narrowed-long (v + 1) lits ws in
              let fr : Fresh (sc ++ (vs' ++ (u ∷ ws'))) (e ++ (c ++ (p ∷ d))) = record {
                long = omega (arith, many, size, l, dlen);
                inside = omega (arith, many, at, l);
                own = of-v c d l;
                apart = apart-more sc (vs' ++ (u ∷ ws')) e (c ++ (p ∷ d)) long apart picks;
              } in
              let made : Fresh (sc ++ narrowed u v (length sc) lits (vs ++ (u ∷ ws))) (e ++ (c ++ (p ∷ d))) =
              subst (λ z. Fresh (sc ++ z) (e ++ (c ++ (p ∷ d)))) (sym (ap (λ n. narrowed u v n lits (vs ++ (u ∷ ws))) (sym long) ∙ narrowed-split (length e) lits vs ws at)) fr in
              let all : length (sc ++ (vs ++ (u ∷ ws))) ≡ length e + (length vs + suc (length ws)) = omega (arith, long, length-append sc (vs ++ (u ∷ ws)), length-append vs (u ∷ ws)) in
              ap (λ b. when b (k (e ++ (c ++ (p ∷ d))))) (narrow-list-true (sc ++ (vs ++ (u ∷ ws))) (sc ++ narrowed u v (length sc) lits (vs ++ (u ∷ ws))) (e ++ (c ++ (p ∷ d))) (fresh-plain sc (vs ++ (u ∷ ws)) lits (e ++ (c ++ (p ∷ d))) made) made lits ok ∙ ap (λ n. lits_true s (e ++ (c ++ (p ∷ d))) (narrow_list u v n lits)) all)
