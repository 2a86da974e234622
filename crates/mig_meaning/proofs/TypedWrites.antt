-- Typed statements write values of their columns' kinds.
use Rattle.std.proofs.Common.{◌≡◌, ℕ, zero, suc, ◌+◌, ◌<◌, Bool, true, false, cond, not, ◌&&◌, List, [], ◌∷◌, ◌++◌, map, length, refl, sym, ap, ap₂, ◌∙◌, arith, inl, inr, ◌⊎◌, subst, get_or}
use Rattle.std.specs.Prelude.{◌==◌, nat_lt, count_by}
use Rattle.std.specs.List.{list_any, list_all, flat_map, AllByRecursion}
use Rattle.std.proofs.lemmas.Bool.{cases_Bool, and_parts, and_from, or_parts, not-false, eqb-true, ltb-true}
use Rattle.std.proofs.lemmas.List.Recursion.{is_count_by}
use Rattle.mig_schema.specs.declared.tables.ColId.{ColId}
use Rattle.mig_schema.specs.declared.tables.Column.{Column}
use Rattle.mig_schema.specs.declared.tables.Kind.{Kind}
use Rattle.mig_schema.specs.declared.tables.Kind.TheVariants as kind
use Rattle.mig_schema.specs.declared.tables.Schema.{Schema}
use Rattle.mig_schema.specs.declared.programs.Param.{Param}
use Rattle.mig_schema.specs.declared.programs.Join.{Join}
use Rattle.mig_schema.specs.declared.programs.Joined.{Joined}
use Rattle.mig_schema.specs.declared.programs.Assign.{Assign}
use Rattle.mig_schema.specs.declared.programs.Scalar.{Scalar}
use Rattle.mig_schema.specs.declared.programs.Scalar.TheVariants as scalar
use Rattle.mig_schema.specs.declared.programs.Stmt.{Stmt}
use Rattle.mig_schema.specs.declared.programs.Stmt.TheVariants.{Insert, Delete, Set}
use Rattle.mig_schema.specs.declared.programs.Body.{Body}
use Rattle.mig_schema.specs.declared.programs.Body.TheVariants as body
use Rattle.mig_schema.specs.declared.programs.Function.{Function}
use Rattle.mig_schema.specs.declared.values.Value.{Value}
use Rattle.mig_schema.specs.declared.values.Value.TheVariants as value
use Rattle.mig_base.specs.Lists.{numbered}
use Rattle.mig_schema.specs.Columns.{no_column, columns_of, columns_in, kind_of, same_col, same_kind}
use Rattle.mig_schema.specs.Joins.{tables_of, leader, join_columns, joins_on, all_join_on, is_among}
use Rattle.mig_schema.specs.Typed.{Piece, piece_of, pieces_of, scalars_of, scalar_kind, names_no_param, values_for, IsTypedPiece, IsTypedFunction}
use Rattle.mig_meaning.specs.declared.states.State.{State}
use Rattle.mig_meaning.specs.Lists.{In, Each}
use Rattle.mig_meaning.specs.Values.{no_value, of_kind}
use Rattle.mig_meaning.specs.Conditions.{Given, scalar_value}
use Rattle.mig_meaning.specs.Effect.{class_value, after}
use Rattle.mig_meaning.specs.Calls.{fit, IsGivenTo}
use Rattle.mig_meaning.specs.States.{row_fits, label_fits, labels_fit, IsState}
use Rattle.mig_meaning.proofs.Lists.{by-recursion, each-none, each-true, each-front, each-back, each-unmapped}
use Rattle.mig_meaning.proofs.Writing.{SetFits, WritesKinds, BodyWritesKinds}
use Rattle.mig_meaning.proofs.StateLaw.{after-state}

-- ---- lists
each-piece : {X Y : Type 0} (P : Y → Type 0) (f : X → List Y) (x : X) (xs : List X) → Each P (flat_map f xs) → In x xs → Each P (f x)
each-piece P f x [] a h = absurd h
each-piece P f x (y ∷ ys) a (inl e) = subst (λ z. Each P (f z)) (sym e) (each-front P (f y) (flat_map f ys) a)
each-piece P f x (y ∷ ys) a (inr h) = each-piece P f x ys (each-back P (f y) (flat_map f ys) a) h

each-numbered-at : {X Y : Type 0} (P : Y → Type 0) (f : ℕ → Y) (n : ℕ) (xs : List X) → Each P (numbered (λ m (x : X). f m) n xs) → (j : ℕ) → j < length xs → P (f (n + j))
each-numbered-at P f n [] a j l = absurd (omega arith)
each-numbered-at P f n (x ∷ xs) a zero l = let e : n ≡ n + 0 = omega arith in subst (λ m. P (f m)) e a.0
each-numbered-at P f n (x ∷ xs) a (suc j) l = let e : (n + 1) + j ≡ n + suc j = omega arith in subst (λ m. P (f m)) e (each-numbered-at P f (n + 1) xs a.1 j (omega (arith, l)))

-- ---- scalars
no_param : Param
no_param = record { name = []; kind = kind.Int }

same-kinds : (j k : Kind) → same_kind j k ≡ true → j ≡ k
same-kinds kind.Int kind.Int h = refl
same-kinds kind.Text kind.Text h = refl
same-kinds kind.Key kind.Key h = refl
same-kinds kind.Int kind.Text h = cc
same-kinds kind.Int kind.Key h = cc
same-kinds kind.Text kind.Int h = cc
same-kinds kind.Text kind.Key h = cc
same-kinds kind.Key kind.Int h = cc
same-kinds kind.Key kind.Text h = cc

fit-at : (ps : List Param) (vs : List Value) (p : ℕ) (d : Param) → fit ps vs ≡ true → p < length ps → of_kind (get_or ps p d).kind (get_or vs p no_value) ≡ true
fit-at [] vs p d h l = absurd (omega arith)
fit-at (q ∷ ps) [] p d h l = cc
fit-at (q ∷ ps) (v ∷ vs) zero d h l = (and_parts (of_kind q.kind v) (fit ps vs) h).0
fit-at (q ∷ ps) (v ∷ vs) (suc p) d h l = fit-at ps vs p d (and_parts (of_kind q.kind v) (fit ps vs) h).1 (omega (arith, l))

key-at : (ks : List ℕ) (n : ℕ) → n < length ks → of_kind kind.Key (get_or (map value.Key ks) n no_value) ≡ true
key-at [] n l = absurd (omega arith)
key-at (k ∷ ks) zero l = refl
key-at (k ∷ ks) (suc n) l = key-at ks n (omega (arith, l))

-- a scalar has its kind
scalar-kind : (f : Function) (g : Given) → IsGivenTo f g → (x : Scalar) → names_no_param f x ≡ false → label_fits x ≡ true → of_kind (scalar_kind f x) (scalar_value g x) ≡ true
scalar-kind f g gi (scalar.Param p) named fits = fit-at f.params g.args p (record { name = []; kind = kind.Int }) gi.args (ltb-true p (length f.params) (not-false (nat_lt p (length f.params)) named))
scalar-kind f g gi (scalar.Int i) named fits = refl
scalar-kind f g gi (scalar.Text t) named fits = refl
scalar-kind f g gi (scalar.Fresh n) named fits = let l : n < 16 = ltb-true n 16 fits in key-at g.keys n (omega (arith, l, gi.sixteen))

-- ---- classes
same_col-kind : (schema : Schema) (a b : ColId) → same_col a b ≡ true → kind_of schema a ≡ kind_of schema b
same_col-kind schema a b h =
    let k = and_parts (a.table == b.table) (a.column == b.column) h in
    ap₂ (λ t n. (get_or (columns_of schema t) n no_column).kind) (eqb-true a.table b.table k.0) (eqb-true a.column b.column k.1)

leader-kind : (schema : Schema) (ms : List Joined) → Each (λ (m : Joined). kind_of schema m.left ≡ kind_of schema m.right) ms → (c : ColId) → kind_of schema (leader ms c) ≡ kind_of schema c
leader-kind schema [] e c = refl
leader-kind schema (m ∷ ms) e c = go (leader-kind schema ms e.1) (cases_Bool (same_col (leader ms c) (leader ms m.right)))
  where
    go : ((d : ColId) → kind_of schema (leader ms d) ≡ kind_of schema d) → (same_col (leader ms c) (leader ms m.right) ≡ true) ⊎ (same_col (leader ms c) (leader ms m.right) ≡ false) → kind_of schema (cond (same_col (leader ms c) (leader ms m.right)) (leader ms m.left) (leader ms c)) ≡ kind_of schema c
    go ih (inl t) = ap (λ b. kind_of schema (cond b (leader ms m.left) (leader ms c))) t ∙ ih m.left ∙ e.0 ∙ sym (ih m.right) ∙ sym (same_col-kind schema (leader ms c) (leader ms m.right) t) ∙ ih c
    go ih (inr n) = ap (λ b. kind_of schema (cond b (leader ms m.left) (leader ms c))) n ∙ ih c

-- the equalities of a join of the right shape are of one kind each
join-kinds : (schema : Schema) (earlier : List ℕ) (ms : List Joined) → all_join_on schema earlier ms ≡ true → Each (λ (m : Joined). kind_of schema m.left ≡ kind_of schema m.right) ms
join-kinds schema earlier [] h = tt
join-kinds schema earlier (m ∷ ms) h =
    let k = and_parts (joins_on schema earlier m) (all_join_on schema (earlier ++ m.table ∷ []) ms) h in
    let a = and_parts (is_among m.left.table earlier) (m.right.table == m.table && same_kind (kind_of schema m.left) (kind_of schema m.right)) k.0 in
    (same-kinds (kind_of schema m.left) (kind_of schema m.right) (and_parts (m.right.table == m.table) (same_kind (kind_of schema m.left) (kind_of schema m.right)) a.1).1, join-kinds schema (earlier ++ m.table ∷ []) ms k.1)

-- how many pass a test, by recursion
abbrev counted : {X : Type 0} → (X → Bool) → List X → ℕ
counted q [] = 0
counted q (x ∷ xs) = cond (q x) (1 + counted q xs) (counted q xs)

-- the value of a class that has one is of the class's kind
class-kind : (schema : Schema) (g : Given) (ms : List Joined) → Each (λ (m : Joined). kind_of schema m.left ≡ kind_of schema m.right) ms → (vs : List Assign) → Each (λ (a : Assign). of_kind (kind_of schema a.column) (scalar_value g a.value) ≡ true) vs → (c : ColId) → 0 < counted (λ (a : Assign). same_col (leader ms a.column) (leader ms c)) vs → of_kind (kind_of schema c) (class_value g ms vs c) ≡ true
class-kind schema g ms e [] w c h = absurd (omega (arith, h))
class-kind schema g ms e (a ∷ vs) w c h = go (class-kind schema g ms e vs w.1 c) (cases_Bool (same_col (leader ms a.column) (leader ms c)))
  where
    go : (0 < counted (λ (b : Assign). same_col (leader ms b.column) (leader ms c)) vs → of_kind (kind_of schema c) (class_value g ms vs c) ≡ true) → (same_col (leader ms a.column) (leader ms c) ≡ true) ⊎ (same_col (leader ms a.column) (leader ms c) ≡ false) → of_kind (kind_of schema c) (cond (same_col (leader ms a.column) (leader ms c)) (scalar_value g a.value) (class_value g ms vs c)) ≡ true
    go ih (inl t) =
        ap (λ b. of_kind (kind_of schema c) (cond b (scalar_value g a.value) (class_value g ms vs c))) t
        ∙ ap (λ k. of_kind k (scalar_value g a.value)) (sym (leader-kind schema ms e c) ∙ sym (same_col-kind schema (leader ms a.column) (leader ms c) t) ∙ leader-kind schema ms e a.column)
        ∙ w.0
    go ih (inr n) =
        ap (λ b. of_kind (kind_of schema c) (cond b (scalar_value g a.value) (class_value g ms vs c))) n
        ∙ ih (subst (λ b. 0 < cond b (1 + counted (λ (b : Assign). same_col (leader ms b.column) (leader ms c)) vs) (counted (λ (b : Assign). same_col (leader ms b.column) (leader ms c)) vs)) n h)

-- ---- rows
fits-numbered : (F : ℕ → Value) (n : ℕ) (cs : List Column) → ((j : ℕ) → j < length cs → of_kind (get_or cs j no_column).kind (F (n + j)) ≡ true) → row_fits cs (numbered (λ m (c : Column). F m) n cs) ≡ true
fits-numbered F n [] h = refl
fits-numbered F n (c ∷ cs) h =
    let z : n + 0 ≡ n = omega arith in
    and_from _ _ (ap (λ m. of_kind c.kind (F m)) (sym z) ∙ h 0 (omega arith))
    (fits-numbered F (n + 1) cs (λ j l. let e : (n + 1) + j ≡ n + suc j = omega arith in ap (λ m. of_kind (get_or cs j no_column).kind (F m)) e ∙ h (suc j) (omega (arith, l))))

set-fits : (c : ℕ) (v : Value) (n : ℕ) (cs : List Column) → ((j : ℕ) → n + j ≡ c → of_kind (get_or cs j no_column).kind v ≡ true) → SetFits c v n cs
set-fits c v n [] h = tt
set-fits c v n (d ∷ cs) h = (λ e. h 0 (omega (arith, e)), set-fits c v (n + 1) cs (λ j e. h (suc j) (omega (arith, e))))

-- ---- statements
module _ (schema : Schema) (f : Function) (g : Given) (gi : IsGivenTo f g) where
  -- the values that a piece writes are of their columns' kinds
  written-kinds : (p : Piece) → IsTypedPiece schema f p → list_all label_fits (scalars_of p) ≡ true → Each (λ (a : Assign). of_kind (kind_of schema a.column) (scalar_value g a.value) ≡ true) p.written
  written-kinds p typed fits =
      go p.written
      (each-unmapped (λ x. names_no_param f x ≡ false) (λ (a : Assign). a.value) p.written (each-front _ (map (λ (a : Assign). a.value) p.written) _ (each-none (names_no_param f) (scalars_of p) typed.params)))
      (each-unmapped (λ x. label_fits x ≡ true) (λ (a : Assign). a.value) p.written (each-front _ (map (λ (a : Assign). a.value) p.written) _ (each-true label_fits (scalars_of p) fits)))
      (each-none (λ (a : Assign). not (same_kind (kind_of schema a.column) (scalar_kind f a.value))) p.written (or_parts _ _ typed.kinds).0)
    where
      go : (vs : List Assign) → Each (λ (a : Assign). names_no_param f a.value ≡ false) vs → Each (λ (a : Assign). label_fits a.value ≡ true) vs → Each (λ (a : Assign). not (same_kind (kind_of schema a.column) (scalar_kind f a.value)) ≡ false) vs → Each (λ (a : Assign). of_kind (kind_of schema a.column) (scalar_value g a.value) ≡ true) vs
      go [] x y z = tt
      go (a ∷ vs) x y z =
          (ap (λ k. of_kind k (scalar_value g a.value)) (same-kinds (kind_of schema a.column) (scalar_kind f a.value) (not-false (same_kind (kind_of schema a.column) (scalar_kind f a.value)) z.0)) ∙ scalar-kind f g gi a.value x.0 y.0, go vs x.1 y.1 z.1)

  -- a column of a joined table has a value in an insert
  has-value : (join : Join) (values : List Assign) → IsTypedPiece schema f (piece_of (Insert join values)) → (t j : ℕ) → In t (tables_of join) → j < length (columns_of schema t) → 0 < counted (λ (a : Assign). same_col (leader join.more a.column) (leader join.more (record { table = t; column = j }))) values
  has-value join values typed t j h l =
      let none = each-none (λ c. not (values_for (piece_of (Insert join values)) c == 1)) (join_columns schema join) typed.cover in
      let here = each-piece (λ c. not (values_for (piece_of (Insert join values)) c == 1) ≡ false) (columns_in schema) t (tables_of join) none h in
      let at = each-numbered-at (λ c. not (values_for (piece_of (Insert join values)) c == 1) ≡ false) (λ n. record { table = t; column = n }) 0 (columns_of schema t) here j l in
      let e : 0 + j ≡ j = omega arith in
      let one = eqb-true (count_by (λ (a : Assign). same_col (leader join.more a.column) (leader join.more (record { table = t; column = j }))) values) 1 (not-false _ (subst (λ m. not (values_for (piece_of (Insert join values)) (record { table = t; column = m }) == 1) ≡ false) e at)) in
      let same = is_count_by (counted (λ (a : Assign). same_col (leader join.more a.column) (leader join.more (record { table = t; column = j })))) (λ (a : Assign). same_col (leader join.more a.column) (leader join.more (record { table = t; column = j }))) refl (λ x xs. refl) values in
      omega (arith, one, same)

  -- a typed statement writes its columns' kinds
  typed-writes : (t : Stmt) → IsTypedPiece schema f (piece_of t) → list_all label_fits (scalars_of (piece_of t)) ≡ true → WritesKinds schema g t
  typed-writes (Insert join values) typed fits = λ t h.
      fits-numbered (λ n. class_value g join.more values (record { table = t; column = n })) 0 (columns_of schema t)
      (λ j l.
      let e : 0 + j ≡ j = omega arith in
      ap (λ m. of_kind (get_or (columns_of schema t) j no_column).kind (class_value g join.more values (record { table = t; column = m }))) e
      ∙ class-kind schema g join.more (join-kinds schema (join.first ∷ []) join.more (not-false _ typed.shape)) values (written-kinds (piece_of (Insert join values)) typed fits) (record { table = t; column = j }) (has-value join values typed t j h l))
  typed-writes (Delete listed join test) typed fits = tt
  typed-writes (Set column x join test) typed fits =
      set-fits column.column (scalar_value g x) 0 (columns_of schema column.table)
      (λ j e. let k : j ≡ column.column = omega (arith, e) in ap (λ m. of_kind (get_or (columns_of schema column.table) m no_column).kind (scalar_value g x)) k ∙ (written-kinds (piece_of (Set column x join test)) typed fits).0)

  all-write : (ts : List Stmt) → Each (IsTypedPiece schema f) (map piece_of ts) → Each (λ (p : Piece). list_all label_fits (scalars_of p) ≡ true) (map piece_of ts) → Each (WritesKinds schema g) ts
  all-write [] typed fits = tt
  all-write (t ∷ ts) typed fits = (typed-writes t typed.0 fits.0, all-write ts typed.1 fits.1)

  body-writes : (b : Body) → Each (IsTypedPiece schema f) (pieces_of b) → Each (λ (p : Piece). list_all label_fits (scalars_of p) ≡ true) (pieces_of b) → BodyWritesKinds schema g b
  body-writes (body.Update stmts) typed fits = all-write stmts typed fits
  body-writes (body.Query q) typed fits = tt

-- a typed function leads from a state to a state
pub state-law : (schema : Schema) (f : Function) (g : Given) (s : State) → IsTypedFunction schema f → labels_fit f ≡ true → IsGivenTo f g → IsState schema s → IsState schema (after schema g f.body s)
state-law schema f g s typed fits gi st =
    after-state schema g f.body s
    (body-writes schema f g gi f.body (by-recursion (IsTypedPiece schema f) (pieces_of f.body) typed.pieces) (each-true (λ (p : Piece). list_all label_fits (scalars_of p)) (pieces_of f.body) fits))
    st
