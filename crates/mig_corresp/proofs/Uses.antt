-- What a statement or a query uses, part by part.
use Rattle.std.proofs.Common.{◌≡◌, ℕ, Bool, true, false, ◌||◌, List, [], ◌∷◌, refl, ap, sym, ◌∙◌}
use Rattle.std.specs.Prelude.{◌&&◌}
use Rattle.std.specs.List.{list_any, flat_map}
use Rattle.mig_schema.specs.declared.tables.ColId.{ColId}
use Rattle.mig_schema.specs.declared.programs.Join.{Join}
use Rattle.mig_schema.specs.declared.programs.Joined.{Joined}
use Rattle.mig_schema.specs.declared.programs.Assign.{Assign}
use Rattle.mig_schema.specs.declared.programs.Scalar.{Scalar}
use Rattle.mig_schema.specs.declared.programs.Cond.{Cond}
use Rattle.mig_schema.specs.declared.programs.Cmp.{Cmp}
use Rattle.mig_schema.specs.declared.programs.Query.{Query}
use Rattle.mig_schema.specs.declared.programs.Stmt.TheVariants.{Insert, Delete, Set}
use Rattle.mig_schema.specs.Columns.{same_col}
use Rattle.mig_schema.specs.Joins.{tables_of, is_among}
use Rattle.mig_schema.specs.Typed.{Piece, item_columns, all_cmps, piece_of, query_piece, used_columns, named_columns}
use Rattle.mig_typing.proofs.Parts.{used, named}
use Rattle.mig_corresp.specs.Used.{is_used_by}

or-false : (b : Bool) → (b || false) ≡ b
or-false true = refl
or-false false = refl

or_assoc : (a b c : Bool) → ((a || b) || c) ≡ (a || (b || c))
or_assoc true b c = refl
or_assoc false b c = refl

-- what the equalities, the values and the comparisons have
abbrev pub equated : ColId → List Joined → Bool
equated c more = list_any (λ (m : Joined). same_col c m.left || same_col c m.right) more

abbrev pub assigned : ColId → List Assign → Bool
assigned c values = list_any (λ (a : Assign). same_col c a.column) values

abbrev pub names_column : ColId → Cmp → Bool
names_column c k = list_any (same_col c) (item_columns k.left) || list_any (same_col c) (item_columns k.right)

abbrev pub compared : ColId → List Cmp → Bool
compared c cmps = list_any (names_column c) cmps

-- what a piece names
names : (c : ColId) (p : Piece) → list_any (same_col c) (named_columns p) ≡ (equated c p.join.more || ((list_any (same_col c) p.selected || assigned c p.written) || compared c p.compared))
names c p = named (same_col c) p ∙ ap (λ b. equated c p.join.more || b) (used (same_col c) p)

pub insert_uses : (c : ColId) (join : Join) (values : List Assign) → is_used_by c (piece_of (Insert join values)) ≡ (equated c join.more || (assigned c values || is_among c.table (tables_of join)))
insert_uses c join values =
    ap (λ b. b || is_among c.table (tables_of join)) (names c (piece_of (Insert join values)) ∙ ap (λ b. equated c join.more || b) (or-false (assigned c values)))
    ∙ or_assoc (equated c join.more) (assigned c values) (is_among c.table (tables_of join))

pub delete_uses : (c : ColId) (tables : List ℕ) (join : Join) (test : Cond) → is_used_by c (piece_of (Delete tables join test)) ≡ (equated c join.more || compared c (all_cmps test))
delete_uses c tables join test = or-false (list_any (same_col c) (named_columns (piece_of (Delete tables join test)))) ∙ names c (piece_of (Delete tables join test))

pub set_uses : (c written : ColId) (value : Scalar) (join : Join) (test : Cond) → is_used_by c (piece_of (Set written value join test)) ≡ (equated c join.more || (same_col c written || compared c (all_cmps test)))
set_uses c written value join test =
    or-false (list_any (same_col c) (named_columns (piece_of (Set written value join test)))) ∙ names c (piece_of (Set written value join test))
    ∙ ap (λ b. equated c join.more || (b || compared c (all_cmps test))) (or-false (same_col c written))

pub query_uses : (c : ColId) (q : Query) → is_used_by c (query_piece q) ≡ (equated c q.join.more || (list_any (same_col c) q.columns || compared c (all_cmps q.cond)))
query_uses c q =
    or-false (list_any (same_col c) (named_columns (query_piece q))) ∙ names c (query_piece q)
    ∙ ap (λ b. equated c q.join.more || (b || compared c (all_cmps q.cond))) (or-false (list_any (same_col c) q.columns))
