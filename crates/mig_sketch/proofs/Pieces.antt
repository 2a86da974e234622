-- A piece over a listed join is typed where its columns stand in the join, and its scalars and kinds are right.
use Rattle.std.proofs.Common.{◌≡◌, ℕ, true, false, not, List, [], ◌∷◌, ◌++◌, map, ap, ◌∙◌, inl, inr}
use Rattle.std.specs.Prelude.{nat_lt, length}
use Rattle.std.specs.List.{flat_map}
use Rattle.std.proofs.lemmas.Bool.{and_parts}
use Rattle.mig_listing.specs.Listing.{IsIn}
use Rattle.mig_listing.proofs.Members.{in_append, in_flat_map, in_map}
use Rattle.mig_schema.specs.Columns.{columns_of, has_table, has_column}
use Rattle.mig_schema.specs.Joins.{tables_of, is_among}
use Rattle.mig_schema.specs.Typed.{Piece, IsTypedPiece, used_columns, named_columns, named_tables, unknown_parameter, kind_differs, order_kind, insert_cover, stands_twice}
use Rattle.mig_schema.specs.declared.programs.Function.{Function}
use Rattle.mig_schema.specs.declared.programs.Joined.{Joined}
use Rattle.mig_schema.specs.declared.tables.ColId.{ColId}
use Rattle.mig_schema.specs.declared.tables.Schema.{Schema}
use Rattle.mig_trees.specs.Listed.{IsListedJoin}
use Rattle.mig_trees.proofs.Reach.{among_to}
use Rattle.mig_sketch.proofs.Tests.{none_from, not_true, or_false}

module _ (s : Schema) (f : Function) (need : List (List ColId)) (p : Piece) (listed : IsListedJoin s need p.join)
    (used : (d : ColId) → IsIn d (used_columns p) → (has_column s d ≡ true) × (is_among d.table (tables_of p.join) ≡ true))
    (lists : (t : ℕ) → IsIn t p.listed → is_among t (tables_of p.join) ≡ true) (once : stands_twice p.listed ≡ false) where
  named : (d : ColId) → IsIn d (named_columns p) → has_column s d ≡ true
  named d i = elim (in_append (flat_map (λ (m : Joined). m.left ∷ m.right ∷ []) p.join.more) (used_columns p) d i) [
    | inl j ↦
        let of = in_flat_map (λ (m : Joined). m.left ∷ m.right ∷ []) p.join.more d j in
        let ends = listed.ends of.0 of.1 in
        elim of.2 [
          | inl e ↦ ap (has_column s) e ∙ ends.0
          | inr k ↦ elim k [ inl e ↦ ap (has_column s) e ∙ ends.1 | inr z ↦ absurd z ]
        ]
    | inr j ↦ (used d j).0
  ]

  tabled : (t : ℕ) → IsIn t (named_tables p) → has_table s t ≡ true
  tabled t i = elim (in_append (tables_of p.join ++ p.listed) (map (λ (c : ColId). c.table) (named_columns p)) t i) [
    | inl j ↦ elim (in_append (tables_of p.join) p.listed t j) [
      | inl k ↦ listed.known t k
      | inr k ↦ listed.known t (among_to t (tables_of p.join) (lists t k))
    ]
    | inr j ↦
        let of = in_map (λ (c : ColId). c.table) (named_columns p) t j in
        ap (has_table s) of.2 ∙ (and_parts (has_table s (of.0).table) (nat_lt (of.0).column (length (columns_of s (of.0).table))) (named of.0 of.1)).0
  ]

  joined : (t : ℕ) → IsIn t (p.listed ++ map (λ (c : ColId). c.table) (used_columns p)) → is_among t (tables_of p.join) ≡ true
  joined t i = elim (in_append p.listed (map (λ (c : ColId). c.table) (used_columns p)) t i) [
    | inl j ↦ lists t j
    | inr j ↦ let of = in_map (λ (c : ColId). c.table) (used_columns p) t j in ap (λ u. is_among u (tables_of p.join)) of.2 ∙ (used of.0 of.1).1
  ]

  pub piece_typed : unknown_parameter f p ≡ false → kind_differs s f p ≡ false → order_kind s f p ≡ false → insert_cover s p ≡ false → IsTypedPiece s f p
  piece_typed params kinds orders cover = record {
    tables = none_from (λ t. not (has_table s t)) (named_tables p) (λ t i. not_true (has_table s t) (tabled t i));
    columns = none_from (λ c. not (has_column s c)) (named_columns p) (λ c i. not_true (has_column s c) (named c i));
    once = or_false (stands_twice (tables_of p.join)) (stands_twice p.listed) listed.once once;
    shape = ap not listed.shaped;
    params = params;
    joined = none_from (λ t. not (is_among t (tables_of p.join))) (p.listed ++ map (λ (c : ColId). c.table) (used_columns p)) (λ t i. not_true (is_among t (tables_of p.join)) (joined t i));
    kinds = kinds;
    orders = orders;
    cover = cover;
  }
