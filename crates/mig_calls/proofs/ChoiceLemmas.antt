-- Choices whose rows have the kinds of their tables.
use Rattle.std.proofs.Common.{◌≡◌, ◌≢◌, ℕ, zero, suc, ◌<◌, ◌⊎◌, inl, inr, true, List, [], ◌∷◌, ◌++◌, map, get_or, length, sym, ap, ◌∙◌, subst, arith}
use Rattle.std.proofs.lemmas.Bool.{and_parts, eq-eqb, ne_eqb, cases_eq}
use Rattle.mig_schema.specs.declared.tables.ColId.{ColId}
use Rattle.mig_schema.specs.declared.tables.Kind.{Kind}
use Rattle.mig_schema.specs.declared.tables.Kind.TheVariants as kind
use Rattle.mig_schema.specs.declared.programs.Joined.{Joined}
use Rattle.mig_schema.specs.declared.values.Value.{Value}
use Rattle.mig_schema.specs.Joins.{is_among}
use Rattle.mig_meaning.specs.declared.states.Placed.{Placed}
use Rattle.mig_meaning.specs.Lists.{Each, place}
use Rattle.mig_meaning.specs.Rows.{JoinRow, column_in, no_row, row_in, value_at}
use Rattle.mig_meaning.specs.Values.{no_value, of_kind}
use Rattle.mig_storage.specs.Layout.{Layout, kinds_at, kind_at, of_kinds}
use Rattle.mig_calls.specs.Fits.{JoinedFits, ChoiceFits}

pub each-item : {X : Type 0} (P : X → Type 0) (xs : List X) (i : ℕ) (x : X) → Each P xs → i < length xs → x ≡ get_or xs i x → P x
each-item P [] i x a h e = absurd (omega (arith, h))
each-item P (y ∷ xs) zero x a h e = subst P (sym e) a.0
each-item P (y ∷ xs) (suc i) x a h e = each-item P xs i x a.1 (omega (arith, h)) e

pub of_kinds-at : (ks : List Kind) (vs : List Value) (n : ℕ) → of_kinds ks vs ≡ true → n < length ks → of_kind (get_or ks n kind.Int) (get_or vs n no_value) ≡ true
of_kinds-at [] vs n h l = absurd (omega (arith, l))
of_kinds-at (k ∷ ks) [] n h l = cc
of_kinds-at (k ∷ ks) (v ∷ vs) zero h l = (and_parts (of_kind k v) (of_kinds ks vs) h).0
of_kinds-at (k ∷ ks) (v ∷ vs) (suc n) h l = of_kinds-at ks vs n (and_parts (of_kind k v) (of_kinds ks vs) h).1 (omega (arith, l))

-- the row of another table stands behind the first one
pub row-later : (t u : ℕ) (ts : List ℕ) (p : Placed) (e : JoinRow) → t ≢ u → row_in (t ∷ ts) (p ∷ e) u ≡ row_in ts e u
row-later t u ts p e n =
    let at : place (t ∷ ts) u ≡ suc (place ts u) = rw (ne_eqb t u n) (omega arith) in
    ap (λ k. get_or (p ∷ e) k no_row) at

pub choice-kind : (layout : Layout) (ts : List ℕ) (e : JoinRow) (x : ColId) → ChoiceFits layout ts e → is_among x.table ts ≡ true → x.column < length (kinds_at layout x.table) → of_kind (kind_at layout x.table x.column) (column_in ts e x) ≡ true
choice-kind layout [] e x f h l = cc
choice-kind layout (t ∷ ts) [] x f h l = absurd f
choice-kind layout (t ∷ ts) (p ∷ e) x f h l = go (cases_eq t x.table) (λ k. choice-kind layout ts e x f.1 k l)
  where
    go : (t ≡ x.table) ⊎ (t ≢ x.table) → (is_among x.table ts ≡ true → of_kind (kind_at layout x.table x.column) (column_in ts e x) ≡ true) → of_kind (kind_at layout x.table x.column) (column_in (t ∷ ts) (p ∷ e) x) ≡ true
    go (inl q) ih = rw (eq-eqb t x.table q) (of_kinds-at (kinds_at layout x.table) p.row.values x.column (ap (λ n. of_kinds (kinds_at layout n) p.row.values) (sym q) ∙ f.0) l)
    go (inr n) ih = ap (λ (r : Placed). of_kind (kind_at layout x.table x.column) (value_at r x.column)) (row-later t x.table ts p e n) ∙ ih (rw (ne_eqb t x.table n) at h)

-- the value that a further table is asked for is of its column's kind
pub partner-kind : (layout : Layout) (earlier : List ℕ) (m : Joined) (c : JoinRow) (v : Value) → JoinedFits layout earlier m → ChoiceFits layout earlier c → v ≡ column_in earlier c m.left → of_kind (kind_at layout m.table m.right.column) v ≡ true
partner-kind layout earlier m c v fits choice e =
    ap (λ t. of_kind (kind_at layout t m.right.column) v) (sym fits.own_right)
    ∙ (ap (λ k. of_kind k v) (sym fits.kinds) ∙ (ap (of_kind (kind_at layout m.left.table m.left.column)) e ∙ choice-kind layout earlier c m.left choice fits.earlier_left fits.left.within))

choice-longer : (layout : Layout) (ts : List ℕ) (c : JoinRow) (t : ℕ) (p : Placed) → ChoiceFits layout ts c → of_kinds (kinds_at layout t) p.row.values ≡ true → ChoiceFits layout (ts ++ t ∷ []) (c ++ p ∷ [])
choice-longer layout [] [] t p f k = (k, tt)
choice-longer layout [] (q ∷ c) t p f k = absurd f
choice-longer layout (u ∷ ts) [] t p f k = absurd f
choice-longer layout (u ∷ ts) (q ∷ c) t p f k = (f.0, choice-longer layout ts c t p f.1 k)

pub choices-longer : (layout : Layout) (ts : List ℕ) (c : JoinRow) (t : ℕ) (rows : List Placed) → ChoiceFits layout ts c → Each (λ (p : Placed). of_kinds (kinds_at layout t) p.row.values ≡ true) rows → Each (ChoiceFits layout (ts ++ t ∷ [])) (map (λ (p : Placed). c ++ p ∷ []) rows)
choices-longer layout ts c t [] f a = tt
choices-longer layout ts c t (p ∷ rows) f a = (choice-longer layout ts c t p f a.0, choices-longer layout ts c t rows f a.1)

pub singles-fit : (layout : Layout) (t : ℕ) (rows : List Placed) → Each (λ (p : Placed). of_kinds (kinds_at layout t) p.row.values ≡ true) rows → Each (ChoiceFits layout (t ∷ [])) (map (λ (p : Placed). p ∷ []) rows)
singles-fit layout t [] a = tt
singles-fit layout t (p ∷ rows) a = ((a.0, tt), singles-fit layout t rows a.1)
