-- The expressions of an invariant and of a query are proper where the invariant fits the schemas, and the query is typed.
use Rattle.std.proofs.Common.{◌≡◌, ℕ, suc, ◌+◌, ◌<◌, Bool, true, false, cond, not, ◌&&◌, ◌||◌, List, [], ◌∷◌, map, length, refl, sym, ap, ap₂, ◌∙◌, arith, inl, inr, ◌⊎◌, Some, None, append-nil}
use Rattle.std.specs.Prelude.{◌==◌, nat_lt, slice_get}
use Rattle.std.specs.List.{list_all}
use Rattle.std.proofs.lemmas.Bool.{cases_Bool, and_parts, and_from, eqb-true, ltb-true, not-false}
use Rattle.std.proofs.lemmas.Option.{slice_get-get_or}
use Rattle.mig_schema.specs.declared.tables.ColId.{ColId}
use Rattle.mig_schema.specs.declared.tables.Kind.{Kind}
use Rattle.mig_schema.specs.declared.tables.Kind.TheVariants as kind
use Rattle.mig_schema.specs.declared.faults.Side.{Side}
use Rattle.mig_schema.specs.declared.programs.Joined.{Joined}
use Rattle.mig_schema.specs.declared.programs.Op.TheVariants.{Eq}
use Rattle.mig_schema.specs.declared.programs.Cmp.{Cmp}
use Rattle.mig_schema.specs.declared.programs.Scalar.{Scalar}
use Rattle.mig_schema.specs.declared.programs.Scalar.TheVariants as scalar
use Rattle.mig_schema.specs.declared.programs.Item.{Item}
use Rattle.mig_schema.specs.declared.programs.Item.TheVariants as item
use Rattle.mig_schema.specs.declared.programs.Function.{Function}
use Rattle.mig_schema.specs.Columns.{no_column, columns_of, has_table, has_column, kind_of, same_kind}
use Rattle.mig_schema.specs.Joins.{is_among}
use Rattle.mig_schema.specs.Typed.{item_columns, item_scalars, item_kind, scalar_kind, is_order, names_no_param}
use Rattle.mig_meaning.specs.Lists.{place, Each}
use Rattle.mig_meaning.specs.States.{label_fits}
use Rattle.mig_algebra.specs.declared.atoms.Var.{Var}
use Rattle.mig_algebra.specs.Atoms.{oriented}
use Rattle.mig_algebra.specs.Obligations.{var_of, col_atom, scalar_atom, item_atom, join_lits, case_lits, not_case}
use Rattle.mig_algebra.specs.Proper.{Sides, schema_of, last_stage, var_fits, column_kind, argument_kind, atom_kind, cmp_fits, lit_fits, lit_oriented}
use Rattle.mig_algebra.proofs.Lists.{each-left, each-right}
use Rattle.mig_algebra.proofs.OrientedFits.{oriented-fits, oriented-oriented}
use Rattle.mig_algebra.proofs.SortedFits.{any_fits, any_oriented}
use Rattle.mig_algebra.proofs.Ranges.{IsJoined, JoinFits, CmpFits}

-- ---- variables

-- a joined table's variable stands at its place
at-place : (f : ℕ → Var) (ts : List ℕ) (t : ℕ) → is_among t ts ≡ true → slice_get (map f ts) (place ts t) ≡ Some (f t)
at-place f [] t h = cc
at-place f (u ∷ us) t h = go (at-place f us t) (cases_Bool (u == t))
  where
    go : (is_among t us ≡ true → slice_get (map f us) (place us t) ≡ Some (f t)) → (u == t) ≡ true ⊎ (u == t) ≡ false → slice_get (f u ∷ map f us) (cond (u == t) 0 (place us t + 1)) ≡ Some (f t)
    go ih (inl e) = ap (λ b. slice_get (f u ∷ map f us) (cond b 0 (place us t + 1))) e ∙ ap (λ v. Some (f v)) (eqb-true u t e)
    go ih (inr e) =
        let n : place us t + 1 ≡ suc (place us t) = omega arith in
        ap (λ b. slice_get (f u ∷ map f us) (cond b 0 (place us t + 1))) e ∙ ap (slice_get (f u ∷ map f us)) n
        ∙ ih (ap (λ b. b || is_among t us) (sym e) ∙ h)

-- a kind is itself
pub kinds-same : (k : Kind) → same_kind k k ≡ true
kinds-same kind.Int = refl
kinds-same kind.Text = refl
kinds-same kind.Key = refl

module _ (p : Sides) (side : Side) (n : ℕ) where
  -- the kind of a column of a variable of a table that has it
  pub column-kind : (c : ColId) → has_column (schema_of p side) c ≡ true → column_kind p (Some (var_of side n c.table)) c.column ≡ Some (kind_of (schema_of p side) c)
  column-kind c h =
      let k = and_parts (has_table (schema_of p side) c.table) (nat_lt c.column (length (columns_of (schema_of p side) c.table))) h in
      let e = slice_get-get_or (columns_of (schema_of p side) c.table) c.column no_column (ltb-true c.column (length (columns_of (schema_of p side) c.table)) k.1) in
      rw e refl

  -- the kind of a joined column
  pub joined-kind : (ts : List ℕ) (c : ColId) → IsJoined (schema_of p side) ts c → atom_kind p (map (var_of side n) ts) (col_atom ts c) ≡ Some (kind_of (schema_of p side) c)
  joined-kind ts c h = ap (λ v. column_kind p v c.column) (at-place (var_of side n) ts c.table h.0) ∙ column-kind c h.1

  -- the variables of joined tables
  pub vars-in-range : nat_lt n (last_stage p side + 1) ≡ true → (ts : List ℕ) → Each (λ t. has_table (schema_of p side) t ≡ true) ts → list_all (var_fits p) (map (var_of side n) ts) ≡ true
  vars-in-range l [] a = refl
  vars-in-range l (t ∷ ts) a = and_from (var_fits p (var_of side n t)) _ (and_from (has_table (schema_of p side) t) _ a.0 l) (vars-in-range l ts a.1)

  -- a head of joined columns
  pub head-kinds : (ts : List ℕ) (cs : List ColId) → Each (IsJoined (schema_of p side) ts) cs → map (atom_kind p (map (var_of side n) ts)) (map (col_atom ts) cs) ≡ map Some (map (kind_of (schema_of p side)) cs)
  head-kinds ts [] a = refl
  head-kinds ts (c ∷ cs) a = ap₂ (λ k ks. k ∷ ks) (joined-kind ts c a.0) (head-kinds ts cs a.1)

  -- the equalities of a join
  pub join-lits-fit : (ts : List ℕ) (ms : List Joined) → Each (JoinFits (schema_of p side) ts) ms → list_all (lit_fits p (map (var_of side n) ts)) (join_lits ts ms) ≡ true
  join-lits-fit ts [] a = refl
  join-lits-fit ts (m ∷ ms) a =
      and_from (lit_fits p (map (var_of side n) ts) (oriented Eq (col_atom ts m.left) (col_atom ts m.right))) _
      (oriented-fits p (map (var_of side n) ts) Eq (col_atom ts m.left) (col_atom ts m.right)
      ∙ ap₂ (cmp_fits Eq) (joined-kind ts m.left a.0.left) (joined-kind ts m.right a.0.right) ∙ and_from _ true a.0.kinds refl) (join-lits-fit ts ms a.1)

pub join-lits-oriented : (ts : List ℕ) (ms : List Joined) → list_all lit_oriented (join_lits ts ms) ≡ true
join-lits-oriented ts [] = refl
join-lits-oriented ts (m ∷ ms) = and_from _ _ (oriented-oriented Eq (col_atom ts m.left) (col_atom ts m.right)) (join-lits-oriented ts ms)

-- ---- comparisons

pub case-lits-oriented : (ts : List ℕ) (cs : List Cmp) → list_all lit_oriented (case_lits ts cs) ≡ true
case-lits-oriented ts [] = refl
case-lits-oriented ts (c ∷ cs) = and_from _ _ (oriented-oriented c.op (item_atom ts c.left) (item_atom ts c.right)) (case-lits-oriented ts cs)

pub not-cases-oriented : (ts : List ℕ) (css : List (List Cmp)) → list_all lit_oriented (map (not_case ts) css) ≡ true
not-cases-oriented ts [] = refl
not-cases-oriented ts (cs ∷ css) = and_from _ _ (any_oriented false [] (case_lits ts cs) ∙ case-lits-oriented ts cs) (not-cases-oriented ts css)

module _ (p : Sides) (side : Side) (n : ℕ) (f : Function) (source : f.params ≡ p.source_fn.params) (target : f.params ≡ p.target_fn.params) where
  -- the kind of a parameter of both functions
  param-kind : (i : ℕ) → i < length f.params → argument_kind (slice_get p.source_fn.params i) (slice_get p.target_fn.params i) ≡ Some (scalar_kind f (scalar.Param i))
  param-kind i l =
      let e = slice_get-get_or f.params i (record { name = []; kind = kind.Int }) l in
      ap₂ argument_kind (ap (λ ps. slice_get ps i) (sym source) ∙ e) (ap (λ ps. slice_get ps i) (sym target) ∙ e)
      ∙ ap (λ b. cond b (Some (scalar_kind f (scalar.Param i))) None) (kinds-same (scalar_kind f (scalar.Param i)))

  -- the kind of a scalar
  pub scalar-kind : (sc : List Var) (x : Scalar) → names_no_param f x ≡ false → label_fits x ≡ true → atom_kind p sc (scalar_atom x) ≡ Some (scalar_kind f x)
  scalar-kind sc (scalar.Param i) h l = param-kind i (ltb-true i (length f.params) (not-false (nat_lt i (length f.params)) h))
  scalar-kind sc (scalar.Int i) h l = refl
  scalar-kind sc (scalar.Text t) h l = refl
  scalar-kind sc (scalar.Fresh k) h l = ap (λ b. cond b (Some kind.Key) None) l

  -- the kind of a side of a comparison
  item-kind : (ts : List ℕ) (x : Item) → Each (IsJoined (schema_of p side) ts) (item_columns x) → Each (λ y. names_no_param f y ≡ false) (item_scalars x) → Each (λ y. label_fits y ≡ true) (item_scalars x) → atom_kind p (map (var_of side n) ts) (item_atom ts x) ≡ Some (item_kind (schema_of p side) f x)
  item-kind ts (item.Col c) a b l = joined-kind p side n ts c a.0
  item-kind ts (item.Scalar x) a b l = scalar-kind (map (var_of side n) ts) x b.0 l.0

  cmp-fits : (ts : List ℕ) (c : Cmp) → CmpFits (schema_of p side) ts f c → lit_fits p (map (var_of side n) ts) (oriented c.op (item_atom ts c.left) (item_atom ts c.right)) ≡ true
  cmp-fits ts c h =
      oriented-fits p (map (var_of side n) ts) c.op (item_atom ts c.left) (item_atom ts c.right)
      ∙ ap₂ (cmp_fits c.op)
      (item-kind ts c.left (each-left _ (item_columns c.left) (item_columns c.right) h.columns) (each-left _ (item_scalars c.left) (item_scalars c.right) h.params) (each-left _ (item_scalars c.left) (item_scalars c.right) h.labels))
      (item-kind ts c.right (each-right _ (item_columns c.left) (item_columns c.right) h.columns) (each-right _ (item_scalars c.left) (item_scalars c.right) h.params) (each-right _ (item_scalars c.left) (item_scalars c.right) h.labels))
      ∙ and_from _ _ h.kinds (go (is_order c.op) (same_kind (item_kind (schema_of p side) f c.left) kind.Int) (same_kind (item_kind (schema_of p side) f c.right) kind.Int) h.order)
    where
      go : (o a b : Bool) → (o && not (a && b)) ≡ false → (not o || a) ≡ true
      go false a b e = refl
      go true true b e = refl
      go true false b e = cc

  pub case-lits-fit : (ts : List ℕ) (cs : List Cmp) → Each (CmpFits (schema_of p side) ts f) cs → list_all (lit_fits p (map (var_of side n) ts)) (case_lits ts cs) ≡ true
  case-lits-fit ts [] a = refl
  case-lits-fit ts (c ∷ cs) a = and_from _ _ (cmp-fits ts c a.0) (case-lits-fit ts cs a.1)

  pub not-cases-fit : (ts : List ℕ) (css : List (List Cmp)) → Each (Each (CmpFits (schema_of p side) ts f)) css → list_all (lit_fits p (map (var_of side n) ts)) (map (not_case ts) css) ≡ true
  not-cases-fit ts [] a = refl
  not-cases-fit ts (cs ∷ css) a =
      and_from _ _
      (any_fits p (map (var_of side n) ts) false [] (case_lits ts cs)
      ∙ ap (λ sc. list_all (lit_fits p sc) (case_lits ts cs)) (append-nil (map (var_of side n) ts)) ∙ case-lits-fit ts cs a.0) (not-cases-fit ts css a.1)
