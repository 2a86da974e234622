-- The hosts that unfolding an insert gives are proper where the host is: the class of each column has one value, of the column's kind.
use Rattle.std.proofs.Common.{◌≡◌, ℕ, zero, suc, ◌+◌, ◌<◌, ◌≤◌, true, false, cond, not, List, [], ◌∷◌, ◌++◌, map, length, take, drop, Some, None, refl, sym, ap, ap₂, ◌∙◌, arith, inl, inr, ◌⊎◌, subst, ⊎_elim, append_assoc, length-append}
use Rattle.std.specs.Prelude.{◌==◌, slice_get}
use Rattle.std.specs.List.{list_any, count_by, flat_map}
use Rattle.std.proofs.lemmas.Bool.{cases_Bool, cases_lt, and_parts, and_from, or_parts, eqb-true, lt-ltb}
use Rattle.std.proofs.lemmas.List.Recursion.{is_count_by}
use Rattle.mig_schema.specs.declared.faults.Side.TheVariants.{Old}
use Rattle.mig_schema.specs.declared.tables.ColId.{ColId}
use Rattle.mig_schema.specs.declared.tables.Kind.{Kind}
use Rattle.mig_schema.specs.declared.tables.Schema.{Schema}
use Rattle.mig_schema.specs.declared.programs.Join.{Join}
use Rattle.mig_schema.specs.declared.programs.Joined.{Joined}
use Rattle.mig_schema.specs.declared.programs.Assign.{Assign}
use Rattle.mig_schema.specs.declared.programs.Function.{Function}
use Rattle.mig_schema.specs.declared.programs.Stmt.TheVariants.{Insert}
use Rattle.mig_base.specs.Lists.{numbered}
use Rattle.mig_schema.specs.Columns.{columns_of, columns_in, has_table, has_column, kind_of, same_col, same_kind}
use Rattle.mig_schema.specs.Joins.{tables_of, leader, in_one_class, is_among}
use Rattle.mig_schema.specs.Typed.{piece_of, scalars_of, scalar_kind, names_no_param}
use Rattle.mig_meaning.specs.Lists.{Each}
use Rattle.mig_meaning.specs.States.{label_fits}
use Rattle.mig_algebra.specs.declared.atoms.Var.{Var}
use Rattle.mig_algebra.specs.declared.atoms.Atom.{Atom}
use Rattle.mig_algebra.specs.declared.terms.Term.{Term}
use Rattle.mig_algebra.specs.Obligations.{scalar_atom}
use Rattle.mig_algebra.specs.Proper.{Sides, schema_of, var_fits, column_kind, atom_kind}
use Rattle.mig_algebra.specs.Rename.{without, below, is_not}
use Rattle.mig_algebra.proofs.Lists.{each-left, each-drop_middle, each-all, all-each}
use Rattle.mig_algebra.proofs.Ranges.{JoinFits, none-fails, none-passing, each-image, each-list, join-fits}
use Rattle.mig_algebra.proofs.Without.{any_atom, all-any_atom}
use Rattle.mig_algebra.proofs.RenamedFits.{Fits, lits_with-fit, lits_with-oriented, head_with-kinds}
use Rattle.mig_algebra.proofs.ObligedFits.{column-kind, scalar-kind}
use Rattle.mig_steps.specs.Variables.{is_unnamed}
use Rattle.mig_steps.proofs.SameKinds.{same-kind}
use Rattle.mig_unfolding.specs.Hosts.{host_without}
use Rattle.mig_unfolding.specs.Unfolding.{class_atom, insert_hosts}
use Rattle.mig_unfolding.proofs.Alike.{parts-at}
use Rattle.mig_unfolding.proofs.JoinedTables.{among-each}
use Rattle.mig_unfolding.proofs.HostsProper.{before-proper}
use Rattle.mig_unfolding.proofs.NarrowLists.{narrowed-get}
use Rattle.mig_unfolding.proofs.NarrowNames.{narrow-list-unnamed}
use Rattle.mig_unfolding.proofs.NarrowProper.{narrowed-proper}
use Rattle.mig_unfolding.proofs.ProperHosts.{IsProperHost, TypedFor}
use Rattle.mig_unfolding.specs.Narrowed.{narrowed_host}
use Rattle.mig_unfolding.proofs.WithoutFits.{fits-without}

-- ---- columns of one class have one kind

same_col-true : (a b : ColId) → same_col a b ≡ true → a ≡ b
same_col-true a b h =
    let k = and_parts (a.table == b.table) (a.column == b.column) h in
    ap₂ (λ t c. record { table = t; column = c }) (eqb-true a.table b.table k.0) (eqb-true a.column b.column k.1)

module _ (s : Schema) (ts : List ℕ) where
  leader-kind : (ms : List Joined) → Each (JoinFits s ts) ms → (c : ColId) → kind_of s (leader ms c) ≡ kind_of s c
  leader-kind [] e c = refl
  leader-kind (m ∷ ms) e c = go (leader-kind ms e.1) (same-kind (kind_of s m.left) (kind_of s m.right) e.0.kinds) (cases_Bool (same_col (leader ms c) (leader ms m.right)))
    where
      go : ((d : ColId) → kind_of s (leader ms d) ≡ kind_of s d) → kind_of s m.left ≡ kind_of s m.right → (same_col (leader ms c) (leader ms m.right) ≡ true) ⊎ (same_col (leader ms c) (leader ms m.right) ≡ false) → kind_of s (cond (same_col (leader ms c) (leader ms m.right)) (leader ms m.left) (leader ms c)) ≡ kind_of s c
      go ih q (inl t) =
          ap (λ b. kind_of s (cond b (leader ms m.left) (leader ms c))) t ∙ ih m.left ∙ q ∙ sym (ih m.right)
          ∙ ap (kind_of s) (sym (same_col-true (leader ms c) (leader ms m.right) t)) ∙ ih c
      go ih q (inr n) = ap (λ b. kind_of s (cond b (leader ms m.left) (leader ms c))) n ∙ ih c

  class-kind : (ms : List Joined) → Each (JoinFits s ts) ms → (a b : ColId) → same_col (leader ms a) (leader ms b) ≡ true → kind_of s a ≡ kind_of s b
  class-kind ms e a b h = sym (leader-kind ms e a) ∙ ap (kind_of s) (same_col-true (leader ms a) (leader ms b) h) ∙ leader-kind ms e b

-- ---- what an insert writes

-- how many assignments are to columns of a column's class
abbrev assigned : List Joined → ColId → List Assign → ℕ
assigned ms c [] = 0
assigned ms c (a ∷ rest) = cond (same_col (leader ms a.column) (leader ms c)) (1 + assigned ms c rest) (assigned ms c rest)

-- the value of a column's class has the column's kind
class_atom-kind : (p : Sides) (s : Schema) (f : Function) (sc : List Var) → f.params ≡ p.source_fn.params → f.params ≡ p.target_fn.params → (ts : List ℕ) (ms : List Joined) → Each (JoinFits s ts) ms → (c : ColId) (vs : List Assign) → Each (λ (a : Assign). same_kind (kind_of s a.column) (scalar_kind f a.value) ≡ true) vs → Each (λ (a : Assign). names_no_param f a.value ≡ false) vs → Each (λ (a : Assign). label_fits a.value ≡ true) vs → 0 < assigned ms c vs → atom_kind p sc (class_atom ms vs c) ≡ Some (kind_of s c)
class_atom-kind p s f sc source target ts ms e c [] a b l h = absurd (omega arith)
class_atom-kind p s f sc source target ts ms e c (x ∷ xs) a b l h = go (cases_Bool (same_col (leader ms x.column) (leader ms c))) (class_atom-kind p s f sc source target ts ms e c xs a.1 b.1 l.1)
  where
    go : (same_col (leader ms x.column) (leader ms c) ≡ true) ⊎ (same_col (leader ms x.column) (leader ms c) ≡ false) → (0 < assigned ms c xs → atom_kind p sc (class_atom ms xs c) ≡ Some (kind_of s c)) → atom_kind p sc (cond (same_col (leader ms x.column) (leader ms c)) (scalar_atom x.value) (class_atom ms xs c)) ≡ Some (kind_of s c)
    go (inl t) ih =
        ap (λ q. atom_kind p sc (cond q (scalar_atom x.value) (class_atom ms xs c))) t
        ∙ scalar-kind p Old 0 f source target sc x.value b.0 l.0
        ∙ ap Some (sym (same-kind (kind_of s x.column) (scalar_kind f x.value) a.0))
        ∙ ap Some (class-kind s ts ms e x.column c t)
    go (inr t) ih =
        ap (λ q. atom_kind p sc (cond q (scalar_atom x.value) (class_atom ms xs c))) t
        ∙ ih (subst (λ q. 0 < cond q (1 + assigned ms c xs) (assigned ms c xs)) t h)

-- ---- each column is assigned

numbered-each : {X Y : Type 0} (P : Y → Type 0) (f : ℕ → Y) (n : ℕ) (xs : List X) (i : ℕ) → Each P (numbered (λ m (x : X). f m) n xs) → i < length xs → P (f (n + i))
numbered-each P f n [] i a h = absurd (omega arith)
numbered-each P f n (x ∷ xs) zero a h = let e : n ≡ n + zero = omega arith in subst (λ m. P (f m)) e a.0
numbered-each P f n (x ∷ xs) (suc i) a h = let e : (n + 1) + i ≡ n + suc i = omega arith in subst (λ m. P (f m)) e (numbered-each P f (n + 1) xs i a.1 (omega (arith, h)))

-- an insert assigns the class of each column of a joined table
covered : (s : Schema) (join : Join) (vs : List Assign) (t c : ℕ) → is_among t (tables_of join) ≡ true → list_any (λ k. not (count_by (λ (a : Assign). in_one_class join a.column k) vs == 1)) (flat_map (columns_in s) (tables_of join)) ≡ false → c < length (columns_of s t) → 0 < assigned join.more (record { table = t; column = c }) vs
covered s join vs t c among h l =
    let k : ColId = record { table = t; column = c } in
    let each = among-each (λ u. Each (λ (d : ColId). (count_by (λ (a : Assign). in_one_class join a.column d) vs == 1) ≡ true) (columns_in s u)) t (tables_of join) among
    (each-list (λ (d : ColId). (count_by (λ (a : Assign). in_one_class join a.column d) vs == 1) ≡ true) (columns_in s) (tables_of join)
    (none-fails (λ (d : ColId). count_by (λ (a : Assign). in_one_class join a.column d) vs == 1) (flat_map (columns_in s) (tables_of join)) h)) in
    let one = numbered-each (λ (d : ColId). (count_by (λ (a : Assign). in_one_class join a.column d) vs == 1) ≡ true) (λ n. record { table = t; column = n }) 0 (columns_of s t) c each l in
    let z : 0 + c ≡ c = omega arith in
    let got : count_by (λ (a : Assign). in_one_class join a.column k) vs ≡ 1 =
    eqb-true _ 1 (subst (λ n. (count_by (λ (a : Assign). in_one_class join a.column (record { table = t; column = n })) vs == 1) ≡ true) z one) in
    omega (arith, got, counted k)
  where
    counted : (k : ColId) → count_by (λ (a : Assign). in_one_class join a.column k) vs ≡ assigned join.more k vs
    counted k = sym (is_count_by (assigned join.more k) (λ (a : Assign). in_one_class join a.column k) refl (λ a rest. refl) vs)

get-past : {X : Type 0} (xs : List X) (i : ℕ) → length xs ≤ i → slice_get xs i ≡ None
get-past [] i h = refl
get-past (x ∷ xs) zero h = absurd (omega arith)
get-past (x ∷ xs) (suc i) h = get-past xs i (omega (arith, h))

-- a column that has a kind is in range
kind-in-range : (p : Sides) (u : Var) (c : ℕ) (k : Kind) → column_kind p (Some u) c ≡ Some k → c < length (columns_of (schema_of p u.side) u.table)
kind-in-range p u c k e = ⊎_elim (λ l. l) (λ l. absurd (none l)) (cases_lt c (length (columns_of (schema_of p u.side) u.table)))
  where
    gone : length (columns_of (schema_of p u.side) u.table) ≤ c → column_kind p (Some u) c ≡ None
    gone l = let g = get-past (columns_of (schema_of p u.side) u.table) c l in rw g refl

    none : length (columns_of (schema_of p u.side) u.table) ≤ c → ⊥
    none l = let bad : None ≡ Some k = sym (gone l) ∙ e in cc

-- ---- hosts

module _ (p : Sides) (f : Function) (u : Var) (table : has_table (schema_of p u.side) u.table ≡ true) (join : Join) (vs : List Assign) (for : TypedFor p f u.side (Insert join vs)) (among : is_among u.table (tables_of join) ≡ true) where
  -- the kinds of what an insert writes
  insert-kinds : (sc : List Var) (c : ℕ) (k : Kind) → column_kind p (Some u) c ≡ Some k → atom_kind p sc (class_atom join.more vs (record { table = u.table; column = c })) ≡ Some k
  insert-kinds sc c k e =
      let l = kind-in-range p u c k e in
      let s = schema_of p u.side in
      let piece = piece_of (Insert join vs) in
      let range : has_column s (record { table = u.table; column = c }) ≡ true = and_from (has_table s u.table) _ table (lt-ltb c (length (columns_of s u.table)) l) in
      let own = column-kind p u.side u.stage (record { table = u.table; column = c }) range in
      class_atom-kind p s f sc for.source for.target (tables_of join) join.more (join-fits s piece for.typed.tables for.typed.columns for.typed.shape for.typed.joined) (record { table = u.table; column = c }) vs
      (none-fails (λ (a : Assign). same_kind (kind_of s a.column) (scalar_kind f a.value)) vs (or_parts _ _ for.typed.kinds).0)
      (each-image (λ x. names_no_param f x ≡ false) (λ (a : Assign). a.value) vs (each-left (λ x. names_no_param f x ≡ false) (map (λ (a : Assign). a.value) vs) _ (none-passing (names_no_param f) (scalars_of piece) for.typed.params)))
      (each-image (λ x. label_fits x ≡ true) (λ (a : Assign). a.value) vs (each-left (λ x. label_fits x ≡ true) (map (λ (a : Assign). a.value) vs) _ (each-all label_fits (scalars_of piece) for.labels)))
      (covered s join vs u.table c among for.typed.cover l)
      ∙ sym own ∙ e

  -- the host without the variable
  without-proper : (sc : List Var) (ks : List Kind) (t : Term) (i : ℕ) → slice_get t.vars i ≡ Some u → is_unnamed (length sc + i) t ≡ true → IsProperHost p sc ks t → IsProperHost p sc ks (host_without (length sc + i) i (λ c. class_atom join.more vs (record { table = u.table; column = c })) t)
  without-proper sc ks t i own unnamed h = record {
    vars = all-each (var_fits p) (front ++ back) (each-drop_middle (λ x. var_fits p x ≡ true) front u back (subst (Each (λ x. var_fits p x ≡ true)) parts.0 (each-all (var_fits p) t.vars h.vars)));
    fits = lits_with-fit p any_atom (is_not v) (without v to) (below v) (sc ++ t.vars) (sc ++ (front ++ back)) fits t.lits unnamed h.fits;
    oriented = lits_with-oriented (without v to) (below v) t.lits;
    head = head_with-kinds p any_atom (is_not v) (without v to) (below v) (sc ++ t.vars) (sc ++ (front ++ back)) fits t.head ks (all-any_atom t.head) h.head;
  }
    where
      v : ℕ
      v = length sc + i

      to : ℕ → Atom
      to c = class_atom join.more vs (record { table = u.table; column = c })

      front : List Var
      front = take i t.vars

      back : List Var
      back = drop (i + 1) t.vars

      parts : (t.vars ≡ front ++ (u ∷ back)) × (length front ≡ i)
      parts = parts-at t.vars i u own

      fits : Fits p (sc ++ t.vars) (sc ++ (front ++ back)) any_atom (is_not v) (without v to) (below v)
      fits =
          subst (λ l. Fits p l (sc ++ (front ++ back)) any_atom (is_not v) (without v to) (below v)) (append_assoc sc front (u ∷ back) ∙ ap (λ l. sc ++ l) (sym parts.0))
          (subst (λ l. Fits p ((sc ++ front) ++ (u ∷ back)) l any_atom (is_not v) (without v to) (below v)) (append_assoc sc front back)
          (fits-without p (sc ++ front) u back v to (length-append sc front ∙ ap (λ n. length sc + n) parts.1) insert-kinds))

  pub insert-proper : (sc : List Var) (ks : List Kind) (t : Term) (i : ℕ) → slice_get t.vars i ≡ Some u → IsProperHost p sc ks t → Each (IsProperHost p sc ks) (insert_hosts (length sc) i u join vs t)
  insert-proper sc ks t i own h =
      let v = length sc + i in
      let new = narrowed_host u v (length sc) t in (
        before-proper p sc ks t i h,
        (without-proper sc ks new i (narrowed-get u v (length sc) i t.lits t.vars own refl) (narrow-list-unnamed u v (length sc + length t.vars) t.lits) (narrowed-proper p u v (length sc) sc ks t h), tt),
      )
