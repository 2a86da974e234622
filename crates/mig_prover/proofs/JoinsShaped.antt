-- The joins of a typed program are shaped, and the columns of each of their equalities are of one kind, in two tables.
use Rattle.std.proofs.Common.{◌≡◌, ℕ, zero, suc, ◌+◌, ◌<◌, ◌≤◌, Bool, true, false, List, [], ◌∷◌, ◌++◌, length, map, refl, sym, ap, ◌∙◌, subst, inl, inr, arith}
use Rattle.std.specs.Prelude.{◌==◌, nat_lt, ◌&&◌, ◌||◌, not}
use Rattle.std.specs.List.{list_any, flat_map, AllByRecursion, range_with_len}
use Rattle.std.proofs.lemmas.Bool.{and_from, and_parts, or_parts, both_ways, lt-ltb, eqb-true, eq-eqb}
use Rattle.std.proofs.lemmas.List.{append_assoc}
use Rattle.mig_base.specs.Lists.{numbered}
use Rattle.mig_schema.specs.declared.tables.ColId.{ColId}
use Rattle.mig_schema.specs.declared.tables.Column.{Column}
use Rattle.mig_schema.specs.declared.tables.Schema.{Schema}
use Rattle.mig_schema.specs.declared.programs.Join.{Join}
use Rattle.mig_schema.specs.declared.programs.Joined.{Joined}
use Rattle.mig_schema.specs.declared.programs.Stmt.{Stmt}
use Rattle.mig_schema.specs.declared.programs.Stmt.TheVariants.{Insert, Delete, Set}
use Rattle.mig_schema.specs.declared.programs.Body.{Body}
use Rattle.mig_schema.specs.declared.programs.Body.TheVariants as body
use Rattle.mig_schema.specs.declared.programs.Function.{Function}
use Rattle.mig_schema.specs.declared.programs.Program.{Program}
use Rattle.mig_schema.specs.Columns.{columns_of, columns_in, has_table, has_column, kind_of, same_kind}
use Rattle.mig_schema.specs.Joins.{tables_of, is_among, joins_on, all_join_on}
use Rattle.mig_schema.specs.Typed.{Piece, piece_of, query_piece, pieces_of, named_tables, named_columns, used_columns, stands_twice, IsTypedPiece, IsTypedFunction, IsTypedProgram}
use Rattle.mig_obligations.specs.Shaped.{join_shaped}
use Rattle.mig_listing.specs.Listing.{IsIn}
use Rattle.mig_listing.proofs.Members.{in_append_left, in_append_right, in_flat_map, from_flat_map, in_map, from_map}
use Rattle.mig_invariant.specs.Columns.{all_columns}
use Rattle.mig_invariant.specs.Candidates.{join_of, joins_in, joins_of}
use Rattle.mig_prover.proofs.Sound.{all-true}

-- ---- tests of lists

-- what no item passes, none passes
pub none-passes : {A : Type 0} (t : A → Bool) (xs : List A) (x : A) → list_any t xs ≡ false → IsIn x xs → t x ≡ false
none-passes t [] x h i = absurd i
none-passes t (y ∷ xs) x h i =
    let k = or_parts (t y) (list_any t xs) h in
    elim i [ inl e ↦ ap t e ∙ k.0 | inr j ↦ none-passes t xs x k.1 j ]

-- of an item and those behind it, one passes
passes-by : {A : Type 0} (t : A → Bool) (y : A) (xs : List A) (b : Bool) → t y ≡ b → (t y || list_any t xs) ≡ true → (list_any t xs ≡ true → (x : A) × IsIn x xs × (t x ≡ true)) → (x : A) × IsIn x (y ∷ xs) × (t x ≡ true)
passes-by t y xs true e h more = (y, inl refl, e)
passes-by t y xs false e h more = let r = more (sym (ap (λ c. c || list_any t xs) e) ∙ h) in (r.0, inr r.1, r.2)

-- one of those that pass
pub one-passes : {A : Type 0} (t : A → Bool) (xs : List A) → list_any t xs ≡ true → (x : A) × IsIn x xs × (t x ≡ true)
one-passes t [] h = absurd (both_ways false refl h)
one-passes t (y ∷ xs) h = passes-by t y xs (t y) refl h (λ k. one-passes t xs k)

pub at-member : {A : Type 0} (P : A → Type 0) (xs : List A) (x : A) → AllByRecursion P xs → IsIn x xs → P x
at-member P [] x a i = absurd i
at-member P (y ∷ xs) x a i = elim i [ inl e ↦ subst P (sym e) a.0 | inr j ↦ at-member P xs x a.1 j ]

pub not-true : (b : Bool) → not b ≡ false → b ≡ true
not-true true h = refl
not-true false h = absurd (both_ways true h refl)

pub not-false : (b : Bool) → b ≡ false → not b ≡ true
not-false b h = ap not h

-- ---- columns of a schema

in-columns : (t n : ℕ) (xs : List Column) (d : ColId) → IsIn d (numbered (λ k (c : Column). record { table = t; column = k }) n xs) → (d.table ≡ t) × (n ≤ d.column) × (d.column < n + length xs)
in-columns t n [] d i = absurd i
in-columns t n (x ∷ xs) d i = elim i [
  | inl e ↦ let k : d.column ≡ n = ap (λ (c : ColId). c.column) e in (ap (λ (c : ColId). c.table) e, omega (arith, k), omega (arith, k))
  | inr j ↦ let rest = in-columns t (n + 1) xs d j in (rest.0, omega (arith, rest.1), omega (arith, rest.2))
]

in-numbers : (a n x : ℕ) → IsIn x (range_with_len a n) → x < a + n
in-numbers a zero x i = absurd i
in-numbers a (suc n) x i = elim i [ inl e ↦ omega (arith, e) | inr j ↦ let rest = in-numbers (a + 1) n x j in omega (arith, rest) ]

pub column-of-all : (s : Schema) (d : ColId) → IsIn d (all_columns s) → has_column s d ≡ true
column-of-all s d i =
    let h = in_flat_map (columns_in s) (range_with_len 0 (length s.tables)) d i in
    let lt = in-numbers 0 (length s.tables) h.0 h.1 in
    let c = in-columns h.0 0 (columns_of s h.0) d h.2 in
    let inside = subst (λ n. d.column < length (columns_of s n)) (sym c.0) (omega (arith, c.2)) in
    and_from (has_table s d.table) (nat_lt d.column (length (columns_of s d.table))) (ap (has_table s) c.0 ∙ lt-ltb h.0 (length s.tables) (omega (arith, lt))) (lt-ltb d.column (length (columns_of s d.table)) inside)

-- ---- joins

-- the join of a typed statement or query is shaped
piece-shaped : (s : Schema) (f : Function) (p : Piece) → IsTypedPiece s f p → join_shaped s p.join ≡ true
piece-shaped s f p t =
    and_from _ _ (all-true (has_table s) (tables_of p.join) table)
    (and_from _ _ (all-true (λ (m : Joined). has_column s m.left && has_column s m.right) p.join.more columns)
    (and_from _ _ (not-false (stands_twice (tables_of p.join)) (or_parts (stands_twice (tables_of p.join)) (stands_twice p.listed) t.once).0)
    (not-true (all_join_on s (p.join.first ∷ []) p.join.more) t.shape)))
  where
    table : (n : ℕ) → IsIn n (tables_of p.join) → has_table s n ≡ true
    table n i = not-true (has_table s n) (none-passes (λ t. not (has_table s t)) (named_tables p) n t.tables (in_append_left (tables_of p.join ++ p.listed) (map (λ (c : ColId). c.table) (named_columns p)) n (in_append_left (tables_of p.join) p.listed n i)))

    column : (d : ColId) → IsIn d (named_columns p) → has_column s d ≡ true
    column d i = not-true (has_column s d) (none-passes (λ c. not (has_column s c)) (named_columns p) d t.columns i)

    columns : (m : Joined) → IsIn m p.join.more → (has_column s m.left && has_column s m.right) ≡ true
    columns m i =
        let here = λ (d : ColId) (k : IsIn d (m.left ∷ m.right ∷ [])). column d (in_append_left (flat_map (λ (n : Joined). n.left ∷ n.right ∷ []) p.join.more) (used_columns p) d (from_flat_map (λ (n : Joined). n.left ∷ n.right ∷ []) p.join.more m d i k)) in
        and_from (has_column s m.left) (has_column s m.right) (here m.left (inl refl)) (here m.right (inr (inl refl)))

piece-join : (x : Stmt) → (piece_of x).join ≡ join_of x
piece-join (Insert j v) = refl
piece-join (Delete t j c) = refl
piece-join (Set c v j k) = refl

body-shaped : (s : Schema) (f : Function) (b : Body) → AllByRecursion (IsTypedPiece s f) (pieces_of b) → (j : Join) → IsIn j (joins_in b) → join_shaped s j ≡ true
body-shaped s f (body.Update stmts) t j i =
    let k = in_map join_of stmts j i in
    let typed = at-member (IsTypedPiece s f) (map piece_of stmts) (piece_of k.0) t (from_map piece_of stmts k.0 k.1) in
    ap (join_shaped s) (k.2 ∙ sym (piece-join k.0)) ∙ piece-shaped s f (piece_of k.0) typed
body-shaped s f (body.Query q) t j i = elim i [ inl e ↦ ap (join_shaped s) e ∙ piece-shaped s f (query_piece q) t.0 | inr none ↦ absurd none ]

-- each join of a typed program is shaped
pub joins-shaped : (s : Schema) (p : Program) → IsTypedProgram s p → (j : Join) → IsIn j (joins_of p) → join_shaped s j ≡ true
joins-shaped s p t j i =
    let k = in_flat_map (λ (f : Function). joins_in f.body) p.functions j i in
    body-shaped s k.0 k.0.body (at-member (IsTypedFunction s) p.functions k.0 t.functions k.1).pieces j k.2

-- ---- the equalities of a shaped join

turned : (a b : ℕ) (t : Bool) → (a == b) ≡ t → (b == a) ≡ false → (a == b) ≡ false
turned a b false q e = q
turned a b true q e = absurd (both_ways (b == a) e (eq-eqb b a (sym (eqb-true a b q))))

apart-by : (x : ℕ) (xs ys : List ℕ) (a b : ℕ) (t : Bool) → (x == a) ≡ t → is_among x (xs ++ b ∷ ys) ≡ false → is_among a (x ∷ xs) ≡ true → (is_among a xs ≡ true → (a == b) ≡ false) → (a == b) ≡ false
apart-by x xs ys a b true e h k more = turned a b (a == b) refl (none-passes (λ u. u == a) (xs ++ b ∷ ys) b (ap (λ n. is_among n (xs ++ b ∷ ys)) (sym (eqb-true x a e)) ∙ h) (in_append_right xs (b ∷ ys) b (inl refl)))
apart-by x xs ys a b false e h k more = more (sym (ap (λ c. c || is_among a xs) e) ∙ k)

-- a table of the first part is not one that follows, where none stands twice
twice-apart : (xs ys : List ℕ) (a b : ℕ) → stands_twice (xs ++ b ∷ ys) ≡ false → is_among a xs ≡ true → (a == b) ≡ false
twice-apart [] ys a b h k = absurd (both_ways false refl k)
twice-apart (x ∷ xs) ys a b h k =
    let parts = or_parts (is_among x (xs ++ b ∷ ys)) (stands_twice (xs ++ b ∷ ys)) h in
    apart-by x xs ys a b (x == a) refl parts.0 k (λ m. twice-apart xs ys a b parts.1 m)

-- two columns of one kind in two tables
pub record ArePaired (s : Schema) (c d : ColId) : Type 0 where
  pub kinds : same_kind (kind_of s c) (kind_of s d) ≡ true
  pub tables : (c.table == d.table) ≡ false

equality-paired : (s : Schema) (earlier : List ℕ) (ms : List Joined) → all_join_on s earlier ms ≡ true → stands_twice (earlier ++ map (λ (m : Joined). m.table) ms) ≡ false → (m : Joined) → IsIn m ms → ArePaired s m.left m.right
equality-paired s earlier [] h t m i = absurd i
equality-paired s earlier (n ∷ ms) h t m i =
    let k = and_parts (joins_on s earlier n) (all_join_on s (earlier ++ n.table ∷ []) ms) h in
    let a = and_parts (is_among n.left.table earlier) (n.right.table == n.table && same_kind (kind_of s n.left) (kind_of s n.right)) k.0 in
    let b = and_parts (n.right.table == n.table) (same_kind (kind_of s n.left) (kind_of s n.right)) a.1 in
    elim i [
      | inl e ↦ subst (λ (x : Joined). ArePaired s x.left x.right) (sym e) (record {
        kinds = b.1;
        tables = ap (λ t. n.left.table == t) (eqb-true n.right.table n.table b.0) ∙ twice-apart earlier (map (λ (m : Joined). m.table) ms) n.left.table n.table t a.0;
      })
      | inr j ↦ equality-paired s (earlier ++ n.table ∷ []) ms k.1 (ap stands_twice (append_assoc earlier (n.table ∷ []) (map (λ (m : Joined). m.table) ms)) ∙ t) m j
    ]

pub join-paired : (s : Schema) (j : Join) → join_shaped s j ≡ true → (m : Joined) → IsIn m j.more → ArePaired s m.left m.right
join-paired s j h m i =
    let a = and_parts _ _ h in
    let b = and_parts _ _ a.1 in
    let c = and_parts (not (stands_twice (tables_of j))) (all_join_on s (j.first ∷ []) j.more) b.1 in
    equality-paired s (j.first ∷ []) j.more c.1 (no (stands_twice (tables_of j)) c.0) m i
  where
    no : (b : Bool) → not b ≡ true → b ≡ false
    no true e = absurd (both_ways false refl e)
    no false e = refl
