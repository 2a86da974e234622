-- From rows that cover a joined table's to rows that cover an earlier one's.
use Rattle.std.proofs.Common.{◌≡◌, ◌≢◌, ℕ, zero, suc, ◌-◌, ◌<◌, ◌≤◌, ◌⊎◌, inl, inr, Bool, true, false, List, [], ◌∷◌, ◌++◌, map, take, drop, get_or, length, refl, sym, ap, ap₂, ◌∙◌, subst, append_assoc, arith}
use Rattle.std.specs.Prelude.{filter, ◌==◌}
use Rattle.std.specs.List.{list_any}
use Rattle.std.proofs.lemmas.Bool.{and_parts, cases_eq, eqb-true, eq-eqb, ne_eqb, or_cases, or_left, or_right}
use Rattle.std.proofs.lemmas.List.{append-nil, take_all}
use Rattle.mig_schema.specs.declared.programs.Cmp.{Cmp}
use Rattle.mig_schema.specs.declared.programs.Join.{Join}
use Rattle.mig_schema.specs.declared.programs.Joined.{Joined}
use Rattle.mig_schema.specs.declared.values.Value.{Value}
use Rattle.mig_schema.specs.Joins.{tables_of, is_among}
use Rattle.mig_meaning.specs.declared.states.Placed.{Placed}
use Rattle.mig_meaning.specs.declared.states.State.{State}
use Rattle.mig_meaning.specs.Conditions.{Given}
use Rattle.mig_meaning.specs.Lists.{Each, In, product}
use Rattle.mig_meaning.specs.Rows.{JoinRow, column_in, meets, row_in, rows_of, value_at}
use Rattle.mig_meaning.specs.Values.{of_kind, value_eq}
use Rattle.mig_meaning.proofs.Bags.{value_eq-refl, value_eq-true}
use Rattle.mig_meaning.proofs.StateLaw.{each-in}
use Rattle.mig_meaning.proofs.Within.{each-flat_map, each-map}
use Rattle.mig_storage.specs.Layout.{Layout, kind_at, kinds_at, of_kinds}
use Rattle.mig_calls.specs.Fits.{AllJoinedFit, IsColumn, JoinedFits}
use Rattle.mig_calls.specs.Joining.{IsCover}
use Rattle.mig_calls.specs.Leading.{IsCoverAt, is_met_by, is_one_of, has_one_of}
use Rattle.mig_calls.proofs.ChoiceLemmas.{of_kinds-at, row-later}
use Rattle.mig_calls.proofs.EffectLemmas.{filter-agree}
use Rattle.mig_meaning.proofs.Lists.{each-by, in-passing}

-- ---- the ends of a list
pub first-of : {X : Type 0} (x : X) (xs : List X) → 1 ≤ length xs → x ≡ get_or xs 0 x → x ∷ take (length xs - 1) (drop 1 xs) ≡ xs
first-of x [] le is = absurd (omega (arith, le))
first-of x (y ∷ ys) le is =
    let n : length ys ≤ length (y ∷ ys) - 1 = omega arith in
    ap₂ (λ z zs. z ∷ zs) is (take_all (length (y ∷ ys) - 1) ys n)

cut : {X : Type 0} (d : X) (xs : List X) (k : ℕ) → suc k ≡ length xs → take k xs ++ get_or xs k d ∷ [] ≡ xs
cut d [] k e = absurd (omega (arith, e))
cut d (y ∷ []) zero e = refl
cut d (y ∷ z ∷ ys) zero e = absurd (omega (arith, e))
cut d (y ∷ ys) (suc k) e = ap (λ zs. y ∷ zs) (cut d ys k (omega (arith, e)))

pub last-of : {X : Type 0} (d : X) (xs : List X) → 1 ≤ length xs → take (length xs - 1) xs ++ get_or xs (length xs - 1) d ∷ [] ≡ xs
last-of d xs le = cut d xs (length xs - 1) (omega (arith, le))

-- what stands where a number is out of range
abbrev pub no_joined : Joined
no_joined = record { table = 0; left = record { table = 0; column = 0 }; right = record { table = 0; column = 0 } }

-- ---- tables of a shorter join
among-front : (t u : ℕ) (ts : List ℕ) → is_among t (ts ++ u ∷ []) ≡ true → (u ≡ t) ⊎ (is_among t ts ≡ true)
among-front t u [] h = go (or_cases (u == t) false h)
  where
    go : ((u == t) ≡ true) ⊎ (false ≡ true) → (u ≡ t) ⊎ (false ≡ true)
    go (inl e) = inl (eqb-true u t e)
    go (inr k) = inr k
among-front t u (x ∷ ts) h = go (or_cases (x == t) (is_among t (ts ++ u ∷ [])) h) (λ k. among-front t u ts k)
  where
    later : (u ≡ t) ⊎ (is_among t ts ≡ true) → (u ≡ t) ⊎ (is_among t (x ∷ ts) ≡ true)
    later (inl e) = inl e
    later (inr k) = inr (or_right (x == t) (is_among t ts) k)

    go : ((x == t) ≡ true) ⊎ (is_among t (ts ++ u ∷ []) ≡ true) → (is_among t (ts ++ u ∷ []) ≡ true → (u ≡ t) ⊎ (is_among t ts ≡ true)) → (u ≡ t) ⊎ (is_among t (x ∷ ts) ≡ true)
    go (inl e) ih = inr (or_left (x == t) (is_among t ts) e)
    go (inr k) ih = later (ih k)

abbrev tables : List Joined → List ℕ
tables ms = map (λ (m : Joined). m.table) ms

tables-last : (ms : List Joined) (m : Joined) → tables (ms ++ m ∷ []) ≡ tables ms ++ m.table ∷ []
tables-last [] m = refl
tables-last (x ∷ ms) m = ap (λ ts. x.table ∷ ts) (tables-last ms m)

pub among-earlier : (t first : ℕ) (ms : List Joined) (m : Joined) → is_among t (first ∷ tables (ms ++ m ∷ [])) ≡ true → m.table ≢ t → is_among t (first ∷ tables ms) ≡ true
among-earlier t first ms m h n = go (among-front t m.table (first ∷ tables ms) (ap (λ ts. is_among t (first ∷ ts)) (sym (tables-last ms m)) ∙ h))
  where
    go : (m.table ≡ t) ⊎ (is_among t (first ∷ tables ms) ≡ true) → is_among t (first ∷ tables ms) ≡ true
    go (inl e) = absurd (n e)
    go (inr k) = k

pub among-none : (t first : ℕ) (ms : List Joined) → length ms < 1 → is_among t (first ∷ tables ms) ≡ true → t ≡ first
among-none t first (m ∷ ms) l h = absurd (omega (arith, l))
among-none t first [] l h = go (or_cases (first == t) false h)
  where
    go : ((first == t) ≡ true) ⊎ (false ≡ true) → t ≡ first
    go (inl e) = sym (eqb-true first t e)
    go (inr k) = cc

pub fits-earlier : (layout : Layout) (earlier : List ℕ) (ms : List Joined) (m : Joined) → AllJoinedFit layout earlier (ms ++ m ∷ []) → AllJoinedFit layout earlier ms
fits-earlier layout earlier [] m f = tt
fits-earlier layout earlier (x ∷ ms) m f = (f.0, fits-earlier layout (earlier ++ x.table ∷ []) ms m f.1)

fits-behind : (layout : Layout) (earlier ts : List ℕ) (ms : List Joined) (m : Joined) → ts ≡ earlier ++ tables ms → AllJoinedFit layout earlier (ms ++ m ∷ []) → JoinedFits layout ts m
fits-behind layout earlier ts [] m e f = subst (λ us. JoinedFits layout us m) (sym (e ∙ append-nil earlier)) f.0
fits-behind layout earlier ts (x ∷ ms) m e f = fits-behind layout (earlier ++ x.table ∷ []) ts ms m (e ∙ sym (append_assoc earlier (x.table ∷ []) (tables ms))) f.1

pub fits-last : (layout : Layout) (first : ℕ) (ms : List Joined) (m : Joined) → AllJoinedFit layout (first ∷ []) (ms ++ m ∷ []) → JoinedFits layout (first ∷ tables ms) m
fits-last layout first ms m f = fits-behind layout (first ∷ []) (first ∷ tables ms) ms m refl f

in-table : (m : Joined) (ms : List Joined) → In m ms → is_among m.table (tables ms) ≡ true
in-table m [] h = absurd h
in-table m (x ∷ ms) (inl e) = or_left (x.table == m.table) (is_among m.table (tables ms)) (eq-eqb x.table m.table (ap (λ (y : Joined). y.table) (sym e)))
in-table m (x ∷ ms) (inr h) = or_right (x.table == m.table) (is_among m.table (tables ms)) (in-table m ms h)

-- ---- rows of a join row
abbrev RowsIn : State → List ℕ → JoinRow → Type 0
RowsIn s ts e = (t : ℕ) → is_among t ts ≡ true → In (row_in ts e t) (rows_of s t)

product-rows : (s : State) (ts : List ℕ) → Each (RowsIn s ts) (product (map (rows_of s) ts))
product-rows s [] = ((λ t h. cc), tt)
product-rows s (u ∷ ts) =
    each-flat_map (RowsIn s (u ∷ ts)) (λ (p : Placed). In p (rows_of s u)) (λ x. map (λ c. x ∷ c) (product (map (rows_of s) ts)))
    (λ x k. each-map (RowsIn s (u ∷ ts)) (RowsIn s ts) (λ c. x ∷ c) (λ c r t h. one x c k r t h (cases_eq u t)) (product (map (rows_of s) ts)) (product-rows s ts))
    (rows_of s u) (each-by (λ (p : Placed). In p (rows_of s u)) (rows_of s u) (λ p h. h))
  where
    one : (x : Placed) (c : JoinRow) → In x (rows_of s u) → RowsIn s ts c → (t : ℕ) → is_among t (u ∷ ts) ≡ true → (u ≡ t) ⊎ (u ≢ t) → In (row_in (u ∷ ts) (x ∷ c) t) (rows_of s t)
    one x c k r t h (inl e) = rw (eq-eqb u t e) (subst (λ m. In x (rows_of s m)) e k)
    one x c k r t h (inr n) = subst (λ (q : Placed). In q (rows_of s t)) (sym (row-later u t ts x c n)) (r t (rw (ne_eqb u t n) at h))

meets-in : (ts : List ℕ) (ms : List Joined) (e : JoinRow) (m : Joined) → In m ms → meets ts ms e ≡ true → value_eq (column_in ts e m.left) (column_in ts e m.right) ≡ true
meets-in ts [] e m h k = absurd h
meets-in ts (x ∷ ms) e m (inl q) k = subst (λ (y : Joined). value_eq (column_in ts e y.left) (column_in ts e y.right) ≡ true) (sym q) (and_parts (value_eq (column_in ts e x.left) (column_in ts e x.right)) (meets ts ms e) k).0
meets-in ts (x ∷ ms) e m (inr h) k = meets-in ts ms e m h (and_parts (value_eq (column_in ts e x.left) (column_in ts e x.right)) (meets ts ms e) k).1

any-in : (test : Placed → Bool) (q : Placed) (rows : List Placed) → In q rows → test q ≡ true → list_any test rows ≡ true
any-in test q [] h t = absurd h
any-in test q (p ∷ rows) (inl e) t = or_left (test p) (list_any test rows) (ap test (sym e) ∙ t)
any-in test q (p ∷ rows) (inr h) t = or_right (test p) (list_any test rows) (any-in test q rows h t)

-- ---- covers
pub earlier-covers : (g : Given) (s : State) (join : Join) (cases : List (List Cmp)) (m : Joined) (t : ℕ) (rows found : List Placed) → In m join.more → m.right.table ≡ m.table → m.table ≡ t → found ≡ filter (is_met_by m rows) (rows_of s m.left.table) → IsCoverAt g s join cases t rows → IsCoverAt g s join cases m.left.table found
earlier-covers g s join cases m t rows found part own at e cover = record {
  test = is_met_by m rows;
  part = e;
  covers = λ d k h c.
      let q = row_in (tables_of join) d m.table in
      let there : In (row_in (tables_of join) d m.table) (rows_of s m.table) = each-in (RowsIn s (tables_of join)) d (product (map (rows_of s) (tables_of join))) (product-rows s (tables_of join)) k m.table (or_right (join.first == m.table) (is_among m.table (tables join.more)) (in-table m join.more part)) in
      let passes : cover.test (row_in (tables_of join) d m.table) ≡ true = ap (λ u. cover.test (row_in (tables_of join) d u)) at ∙ cover.covers d k h c in
      let among : In (row_in (tables_of join) d m.table) rows = subst (In (row_in (tables_of join) d m.table)) (ap (λ u. filter cover.test (rows_of s u)) at ∙ sym cover.part) (in-passing cover.test q (rows_of s m.table) there passes) in
      any-in (λ (p : Placed). value_eq (value_at (row_in (tables_of join) d m.left.table) m.left.column) (value_at p m.right.column)) q rows among
      (ap (λ u. value_eq (column_in (tables_of join) d m.left) (value_at (row_in (tables_of join) d u) m.right.column)) (sym own) ∙ meets-in (tables_of join) join.more d m part h);
}

pub cover-first : (g : Given) (s : State) (join : Join) (cases : List (List Cmp)) (rows : List Placed) → IsCoverAt g s join cases join.first rows → IsCover g s join cases rows
cover-first g s join cases rows cover = record {
  test = cover.test;
  part = cover.part;
  covers = λ p d k m h. sym (ap cover.test (own p d)) ∙ cover.covers (p ∷ d) k m h;
}
  where
    own : (p : Placed) (d : JoinRow) → row_in (tables_of join) (p ∷ d) join.first ≡ p
    own p d = rw (eq-eqb join.first join.first refl) refl

-- ---- values that are asked for
pub met-is-one : (m : Joined) (rows : List Placed) (vs : List Value) (all : List Placed) → ((v : Value) → is_one_of vs v ≡ list_any (λ (q : Placed). value_eq v (value_at q m.right.column)) rows) → filter (has_one_of vs m.left.column) all ≡ filter (is_met_by m rows) all
met-is-one m rows vs all h = filter-agree (has_one_of vs m.left.column) (is_met_by m rows) (λ p. h (value_at p m.left.column)) all

found-value : (n : ℕ) (rows : List Placed) (v : Value) → list_any (λ (q : Placed). value_eq v (value_at q n)) rows ≡ true → (q : Placed) × In q rows × (v ≡ value_at q n)
found-value n [] v h = cc
found-value n (p ∷ rows) v h = go (or_cases (value_eq v (value_at p n)) (list_any (λ (q : Placed). value_eq v (value_at q n)) rows) h) (λ k. found-value n rows v k)
  where
    go : (value_eq v (value_at p n) ≡ true) ⊎ (list_any (λ (q : Placed). value_eq v (value_at q n)) rows ≡ true) → (list_any (λ (q : Placed). value_eq v (value_at q n)) rows ≡ true → (q : Placed) × In q rows × (v ≡ value_at q n)) → (q : Placed) × In q (p ∷ rows) × (v ≡ value_at q n)
    go (inl e) ih = (p, inl refl, value_eq-true v (value_at p n) e)
    go (inr k) ih = let r = ih k in (r.0, inr r.1, r.2)

one-in : (v : Value) (vs : List Value) → In v vs → is_one_of vs v ≡ true
one-in v [] h = absurd h
one-in v (w ∷ vs) (inl e) = or_left (value_eq v w) (is_one_of vs v) (ap (value_eq v) (sym e) ∙ value_eq-refl v)
one-in v (w ∷ vs) (inr h) = or_right (value_eq v w) (is_one_of vs v) (one-in v vs h)

-- they are of the earlier column's kind
pub asked-kinds : (layout : Layout) (m : Joined) (rows : List Placed) (vs : List Value) → IsColumn layout m.right → kind_at layout m.left.table m.left.column ≡ kind_at layout m.right.table m.right.column → Each (λ (p : Placed). of_kinds (kinds_at layout m.right.table) p.row.values ≡ true) rows → ((v : Value) → is_one_of vs v ≡ list_any (λ (q : Placed). value_eq v (value_at q m.right.column)) rows) → Each (λ v. of_kind (kind_at layout m.left.table m.left.column) v ≡ true) vs
asked-kinds layout m rows vs right same kinds h = each-by (λ v. of_kind (kind_at layout m.left.table m.left.column) v ≡ true) vs one
  where
    one : (v : Value) → In v vs → of_kind (kind_at layout m.left.table m.left.column) v ≡ true
    one v i =
        let r = found-value m.right.column rows v (sym (h v) ∙ one-in v vs i) in
        ap (λ k. of_kind k v) same
        ∙ (ap (of_kind (kind_at layout m.right.table m.right.column)) r.2
        ∙ of_kinds-at (kinds_at layout m.right.table) r.0.row.values m.right.column (each-in (λ (p : Placed). of_kinds (kinds_at layout m.right.table) p.row.values ≡ true) r.0 rows kinds r.1) right.within)
