-- The tables that a typed delete lists, and the one whose column a typed set writes, are joined.
use Rattle.std.proofs.Common.{◌≡◌, true, false, ◌||◌, List, [], ◌∷◌, ◌++◌, map, ℕ, sym, ap, ◌∙◌, inl, inr, ◌⊎◌, subst}
use Rattle.std.specs.Prelude.{◌==◌}
use Rattle.std.proofs.lemmas.Bool.{cases_Bool, eqb-true}
use Rattle.mig_schema.specs.declared.tables.ColId.{ColId}
use Rattle.mig_schema.specs.declared.tables.Schema.{Schema}
use Rattle.mig_schema.specs.declared.programs.Cond.{Cond}
use Rattle.mig_schema.specs.declared.programs.Function.{Function}
use Rattle.mig_schema.specs.declared.programs.Join.{Join}
use Rattle.mig_schema.specs.declared.programs.Scalar.{Scalar}
use Rattle.mig_schema.specs.declared.programs.Stmt.TheVariants.{Delete, Set}
use Rattle.mig_schema.specs.Joins.{tables_of, is_among}
use Rattle.mig_schema.specs.Typed.{piece_of, used_columns, IsTypedPiece}
use Rattle.mig_meaning.specs.Lists.{Each}
use Rattle.mig_algebra.proofs.Lists.{each-left}
use Rattle.mig_algebra.proofs.Ranges.{none-fails}

pub among-each : (P : ℕ → Type 0) (t : ℕ) (xs : List ℕ) → is_among t xs ≡ true → Each P xs → P t
among-each P t [] h k = cc
among-each P t (x ∷ xs) h k = go (cases_Bool (x == t)) (among-each P t xs)
  where
    go : ((x == t) ≡ true) ⊎ ((x == t) ≡ false) → (is_among t xs ≡ true → Each P xs → P t) → P t
    go (inl e) ih = subst P (eqb-true x t e) k.0
    go (inr e) ih = ih (ap (λ b. b || is_among t xs) (sym e) ∙ h) k.1

-- a table that a typed delete lists is joined
pub listed-joined : (schema : Schema) (f : Function) (listed : List ℕ) (join : Join) (test : Cond) (t : ℕ) → IsTypedPiece schema f (piece_of (Delete listed join test)) → is_among t listed ≡ true → is_among t (tables_of join) ≡ true
listed-joined schema f listed join test t typed h =
    among-each (λ x. is_among x (tables_of join) ≡ true) t listed h
    (each-left (λ x. is_among x (tables_of join) ≡ true) listed (map (λ (c : ColId). c.table) (used_columns (piece_of (Delete listed join test)))) (none-fails (λ x. is_among x (tables_of join)) (listed ++ map (λ (c : ColId). c.table) (used_columns (piece_of (Delete listed join test)))) typed.joined))

-- the table of the column that a typed set writes is joined
pub set-joined : (schema : Schema) (f : Function) (c : ColId) (x : Scalar) (join : Join) (test : Cond) → IsTypedPiece schema f (piece_of (Set c x join test)) → is_among c.table (tables_of join) ≡ true
set-joined schema f c x join test typed = (none-fails (λ z. is_among z (tables_of join)) (map (λ (d : ColId). d.table) (used_columns (piece_of (Set c x join test)))) typed.joined).0
