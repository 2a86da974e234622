-- What the typing rules say of the tables, columns and comparisons of a statement, a query or a view, one by one.
use Rattle.std.proofs.Common.{◌≡◌, ℕ, Bool, true, false, not, ◌&&◌, ◌||◌, List, [], ◌∷◌, ◌++◌, map, refl, sym, ap, ◌∙◌, append_assoc}
use Rattle.std.specs.Prelude.{◌==◌}
use Rattle.std.specs.List.{list_any, list_all, flat_map}
use Rattle.std.proofs.lemmas.Bool.{and_parts, or_parts, not-false, eq-eqb, eqb-true}
use Rattle.std.proofs.lemmas.List.Folds.{list_any-append}
use Rattle.mig_schema.specs.declared.tables.ColId.{ColId}
use Rattle.mig_schema.specs.declared.tables.Schema.{Schema}
use Rattle.mig_schema.specs.declared.programs.Joined.{Joined}
use Rattle.mig_schema.specs.declared.programs.Assign.{Assign}
use Rattle.mig_schema.specs.declared.programs.Cmp.{Cmp}
use Rattle.mig_schema.specs.declared.programs.Scalar.{Scalar}
use Rattle.mig_schema.specs.declared.programs.Function.{Function}
use Rattle.mig_schema.specs.declared.tables.Kind.TheVariants as kind
use Rattle.mig_schema.specs.Columns.{has_table, has_column, kind_of, same_kind}
use Rattle.mig_schema.specs.Joins.{tables_of, is_among, joins_on, all_join_on}
use Rattle.mig_schema.specs.Typed.{Piece, used_columns, named_columns, named_tables, item_columns, item_scalars, scalars_of, item_kind, is_order, names_no_param, unknown_table, unknown_column, on_shape, not_joined, unknown_parameter, kind_differs, order_kind}
use Rattle.mig_meaning.specs.Lists.{Each}
use Rattle.mig_meaning.specs.States.{label_fits}
use Rattle.mig_algebra.proofs.Lists.{each-left, each-right, each-both, each-all}

-- ---- lists

-- where no element fails
pub none-fails : {X : Type 0} (t : X → Bool) (xs : List X) → list_any (λ x. not (t x)) xs ≡ false → Each (λ x. t x ≡ true) xs
none-fails t [] h = tt
none-fails t (x ∷ xs) h = let k = or_parts (not (t x)) (list_any (λ x. not (t x)) xs) h in (not-false (t x) k.0, none-fails t xs k.1)

-- where no element passes
pub none-passing : {X : Type 0} (t : X → Bool) (xs : List X) → list_any t xs ≡ false → Each (λ x. t x ≡ false) xs
none-passing t [] h = tt
none-passing t (x ∷ xs) h = let k = or_parts (t x) (list_any t xs) h in (k.0, none-passing t xs k.1)

-- what holds of each image
pub each-image : {X Y : Type 0} (P : Y → Type 0) (f : X → Y) (xs : List X) → Each P (map f xs) → Each (λ x. P (f x)) xs
each-image P f [] a = tt
each-image P f (x ∷ xs) a = (a.0, each-image P f xs a.1)

-- what holds of each element of lists end to end
pub each-list : {X Y : Type 0} (P : Y → Type 0) (f : X → List Y) (xs : List X) → Each P (flat_map f xs) → Each (λ x. Each P (f x)) xs
each-list P f [] a = tt
each-list P f (x ∷ xs) a = (each-left P (f x) (flat_map f xs) a, each-list P f xs (each-right P (f x) (flat_map f xs) a))

-- a table is among a list's first part
among-left : (t : ℕ) (xs ys : List ℕ) → is_among t xs ≡ true → is_among t (xs ++ ys) ≡ true
among-left t xs ys h = list_any-append (λ u. u == t) xs ys ∙ ap (λ b. b || is_among t ys) h

-- the element between two parts is among them
among-middle : (t : ℕ) (xs ys : List ℕ) → is_among t (xs ++ (t ∷ ys)) ≡ true
among-middle t xs ys = list_any-append (λ u. u == t) xs (t ∷ ys) ∙ ap (λ b. is_among t xs || (b || is_among t ys)) (eq-eqb t t refl) ∙ go (is_among t xs)
  where
    go : (b : Bool) → (b || true) ≡ true
    go true = refl
    go false = refl

-- ---- a piece

-- a column of these tables, in range
abbrev pub IsJoined : Schema → List ℕ → ColId → Type 0
IsJoined s ts c = (is_among c.table ts ≡ true) × (has_column s c ≡ true)

-- an equality between two such columns, of one kind
pub record JoinFits (s : Schema) (ts : List ℕ) (m : Joined) : Type 0 where
  pub left : IsJoined s ts m.left
  pub right : IsJoined s ts m.right
  pub kinds : same_kind (kind_of s m.left) (kind_of s m.right) ≡ true

-- the equalities of a join of the right shape
pub equalities-fit : (s : Schema) (earlier : List ℕ) (ms : List Joined) (ts : List ℕ) → ts ≡ earlier ++ map (λ (m : Joined). m.table) ms → all_join_on s earlier ms ≡ true → Each (λ (m : Joined). Each (λ c. has_column s c ≡ true) (m.left ∷ m.right ∷ [])) ms → Each (JoinFits s ts) ms
equalities-fit s earlier [] ts e h r = tt
equalities-fit s earlier (m ∷ ms) ts e h r =
    let k = and_parts (joins_on s earlier m) (all_join_on s (earlier ++ m.table ∷ []) ms) h in
    let a = and_parts (is_among m.left.table earlier) (m.right.table == m.table && same_kind (kind_of s m.left) (kind_of s m.right)) k.0 in
    let b = and_parts (m.right.table == m.table) (same_kind (kind_of s m.left) (kind_of s m.right)) a.1 in (
      record {
        left = (ap (is_among m.left.table) e ∙ among-left m.left.table earlier _ a.0, r.0.0);
        right = (ap (is_among m.right.table) e ∙ ap (λ t. is_among t (earlier ++ map (λ (n : Joined). n.table) (m ∷ ms))) (eqb-true m.right.table m.table b.0) ∙ among-middle m.table earlier (map (λ (n : Joined). n.table) ms), r.0.1.0);
        kinds = b.1;
      },
      equalities-fit s (earlier ++ m.table ∷ []) ms ts (e ∙ sym (append_assoc earlier (m.table ∷ []) (map (λ (n : Joined). n.table) ms))) k.1 r.1,
    )

module _ (s : Schema) (p : Piece) (tables : unknown_table s p ≡ false) (columns : unknown_column s p ≡ false) (shape : on_shape s p ≡ false) (joined : not_joined p ≡ false) where
  -- the joined tables are in range
  pub join-tables : Each (λ t. has_table s t ≡ true) (tables_of p.join)
  join-tables = each-left (λ t. has_table s t ≡ true) (tables_of p.join) p.listed (each-left (λ t. has_table s t ≡ true) (tables_of p.join ++ p.listed) (map (λ (c : ColId). c.table) (named_columns p)) (none-fails (has_table s) (named_tables p) tables))

  in-range : Each (λ c. has_column s c ≡ true) (named_columns p)
  in-range = none-fails (has_column s) (named_columns p) columns

  -- the used columns are columns of the joined tables
  used-joined : Each (IsJoined s (tables_of p.join)) (used_columns p)
  used-joined =
      each-both (λ (c : ColId). is_among c.table (tables_of p.join) ≡ true) (λ c. has_column s c ≡ true) (IsJoined s (tables_of p.join)) (λ c a b. (a, b)) (used_columns p)
      (each-image (λ t. is_among t (tables_of p.join) ≡ true) (λ (c : ColId). c.table) (used_columns p)
      (each-right (λ t. is_among t (tables_of p.join) ≡ true) p.listed _ (none-fails (λ t. is_among t (tables_of p.join)) _ joined)))
      (each-right (λ c. has_column s c ≡ true) (flat_map (λ (m : Joined). m.left ∷ m.right ∷ []) p.join.more) (used_columns p) in-range)

  -- the selected ones among them
  pub selected-joined : Each (IsJoined s (tables_of p.join)) p.selected
  selected-joined =
      each-left (IsJoined s (tables_of p.join)) p.selected (map (λ (a : Assign). a.column) p.written)
      (each-left (IsJoined s (tables_of p.join)) (p.selected ++ map (λ (a : Assign). a.column) p.written) (flat_map (λ (c : Cmp). item_columns c.left ++ item_columns c.right) p.compared) used-joined)

  -- the compared ones, comparison by comparison
  pub compared-joined : Each (λ (c : Cmp). Each (IsJoined s (tables_of p.join)) (item_columns c.left ++ item_columns c.right)) p.compared
  compared-joined =
      each-list (IsJoined s (tables_of p.join)) (λ (c : Cmp). item_columns c.left ++ item_columns c.right) p.compared
      (each-right (IsJoined s (tables_of p.join)) (p.selected ++ map (λ (a : Assign). a.column) p.written) (flat_map (λ (c : Cmp). item_columns c.left ++ item_columns c.right) p.compared) used-joined)

  -- the equalities of the join
  pub join-fits : Each (JoinFits s (tables_of p.join)) p.join.more
  join-fits =
      equalities-fit s (p.join.first ∷ []) p.join.more (tables_of p.join) refl (not-false (all_join_on s (p.join.first ∷ []) p.join.more) shape)
      (each-list (λ c. has_column s c ≡ true) (λ (m : Joined). m.left ∷ m.right ∷ []) p.join.more (each-left (λ c. has_column s c ≡ true) (flat_map (λ (m : Joined). m.left ∷ m.right ∷ []) p.join.more) (used_columns p) in-range))

-- ---- comparisons

-- a comparison of columns of these tables and scalars in range, of one kind, that orders ints alone
pub record CmpFits (s : Schema) (ts : List ℕ) (f : Function) (c : Cmp) : Type 0 where
  pub columns : Each (IsJoined s ts) (item_columns c.left ++ item_columns c.right)
  pub params : Each (λ x. names_no_param f x ≡ false) (item_scalars c.left ++ item_scalars c.right)
  pub labels : Each (λ x. label_fits x ≡ true) (item_scalars c.left ++ item_scalars c.right)
  pub kinds : same_kind (item_kind s f c.left) (item_kind s f c.right) ≡ true
  pub order : (is_order c.op && not (same_kind (item_kind s f c.left) kind.Int && same_kind (item_kind s f c.right) kind.Int)) ≡ false

module _ (s : Schema) (f : Function) (p : Piece) (columns : Each (λ (c : Cmp). Each (IsJoined s (tables_of p.join)) (item_columns c.left ++ item_columns c.right)) p.compared) (params : unknown_parameter f p ≡ false) (labels : list_all label_fits (scalars_of p) ≡ true) (kinds : kind_differs s f p ≡ false) (orders : order_kind s f p ≡ false) where
  of-scalars : (P : Scalar → Type 0) → Each P (scalars_of p) → Each (λ (c : Cmp). Each P (item_scalars c.left ++ item_scalars c.right)) p.compared
  of-scalars P a = each-list P (λ (c : Cmp). item_scalars c.left ++ item_scalars c.right) p.compared (each-right P (map (λ a. a.value) p.written) _ a)

  fit : (cs : List Cmp) → Each (λ (c : Cmp). Each (IsJoined s (tables_of p.join)) (item_columns c.left ++ item_columns c.right)) cs → Each (λ (c : Cmp). Each (λ x. names_no_param f x ≡ false) (item_scalars c.left ++ item_scalars c.right)) cs → Each (λ (c : Cmp). Each (λ x. label_fits x ≡ true) (item_scalars c.left ++ item_scalars c.right)) cs → Each (λ (c : Cmp). same_kind (item_kind s f c.left) (item_kind s f c.right) ≡ true) cs → Each (λ (c : Cmp). (is_order c.op && not (same_kind (item_kind s f c.left) kind.Int && same_kind (item_kind s f c.right) kind.Int)) ≡ false) cs → Each (CmpFits s (tables_of p.join) f) cs
  fit [] a b l k o = tt
  fit (c ∷ cs) a b l k o = (record { columns = a.0; params = b.0; labels = l.0; kinds = k.0; order = o.0 }, fit cs a.1 b.1 l.1 k.1 o.1)

  -- the comparisons of a typed piece
  pub cmps-fit : Each (CmpFits s (tables_of p.join) f) p.compared
  cmps-fit =
      fit p.compared columns
      (of-scalars (λ x. names_no_param f x ≡ false) (none-passing (names_no_param f) (scalars_of p) params))
      (of-scalars (λ x. label_fits x ≡ true) (each-all label_fits (scalars_of p) labels))
      (none-fails (λ (c : Cmp). same_kind (item_kind s f c.left) (item_kind s f c.right)) p.compared (or_parts _ _ kinds).1)
      (none-passing _ p.compared orders)
