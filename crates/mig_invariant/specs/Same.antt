-- Equality of invariants, as a test.
use Rattle.std.specs.Prelude.{◌==◌, Bool, true, false, ◌&&◌, List, [], ◌∷◌}
use Rattle.mig_schema.specs.declared.faults.Side.{Side}
use Rattle.mig_schema.specs.declared.faults.Side.TheVariants.{Old, New}
use Rattle.mig_schema.specs.declared.programs.Join.{Join}
use Rattle.mig_schema.specs.declared.programs.Joined.{Joined}
use Rattle.mig_schema.specs.Columns.{same_col}
use Rattle.mig_meaning.specs.declared.relating.View.{View}
use Rattle.mig_meaning.specs.declared.relating.Invariant.{Invariant}
use Rattle.mig_meaning.specs.declared.relating.Invariant.TheVariants.{Views, Unique, Apart, Within}

abbrev pub same_list : {A : Type 0} → (A → A → Bool) → List A → List A → Bool
same_list same [] [] = true
same_list same (x ∷ xs) (y ∷ ys) = same x y && same_list same xs ys
same_list same _ _ = false

abbrev pub same_side : Side → Side → Bool
same_side Old Old = true
same_side New New = true
same_side _ _ = false

abbrev pub same_joined : Joined → Joined → Bool
same_joined a b = a.table == b.table && (same_col a.left b.left && same_col a.right b.right)

abbrev pub same_join : Join → Join → Bool
same_join a b = a.first == b.first && same_list same_joined a.more b.more

abbrev pub same_view : View → View → Bool
same_view a b = same_join a.join b.join && same_list same_col a.outs b.outs

abbrev pub same_invariant : Invariant → Invariant → Bool
same_invariant (Views a b) (Views c d) = same_view a c && same_view b d
same_invariant (Unique s c) (Unique t d) = same_side s t && same_col c d
same_invariant (Apart s a b) (Apart t c d) = same_side s t && (same_col a c && same_col b d)
same_invariant (Within s a b) (Within t c d) = same_side s t && (same_col a c && same_col b d)
same_invariant _ _ = false
