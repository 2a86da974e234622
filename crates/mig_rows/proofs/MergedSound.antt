-- Two variables of a term whose column is unique and equal may become one; what is tried for the rule has all that it allows.
use Rattle.std.proofs.Common.{◌≡◌, ◌≢◌, ℕ, ◌+◌, true, ◌&&◌, List, [], ◌∷◌, Some, length, refl, sym, subst, ap, ◌∙◌, arith}
use Rattle.std.specs.Prelude.{nat_lt, slice_get}
use Rattle.std.proofs.lemmas.Bool.{and_parts, and_from, ltb-true}
use Rattle.std.proofs.lemmas.Option.{same_Some}
use Rattle.mig_schema.specs.declared.faults.Side.{Side}
use Rattle.mig_schema.specs.declared.tables.ColId.{ColId}
use Rattle.mig_meaning.specs.declared.relating.Invariant.{Invariant}
use Rattle.mig_meaning.specs.declared.relating.Invariant.TheVariants.{Views, Unique, Apart, Within}
use Rattle.mig_meaning.specs.Lists.{Each}
use Rattle.mig_algebra.specs.declared.atoms.Var.{Var}
use Rattle.mig_algebra.specs.declared.atoms.Atom.TheVariants.{Col}
use Rattle.mig_algebra.specs.declared.terms.Term.{Term}
use Rattle.mig_algebra.specs.Proper.{Sides, IsProperTerm}
use Rattle.mig_classes.specs.Classes.{one_class}
use Rattle.mig_listing.specs.Listing.{IsIn}
use Rattle.mig_listing.proofs.ChosenAll.{chosen-rises, chosen-has}
use Rattle.mig_replacing.specs.Replaced.{SameAmong}
use Rattle.mig_obligations.specs.Settings.{setting_of}
use Rattle.mig_steps.specs.Offering.{OffersAlone}
use Rattle.mig_steps.specs.Paths.{own_path}
use Rattle.mig_steps.specs.Sound.{IsSoundOnTerms}
use Rattle.mig_steps.specs.Ways.{on_term}
use Rattle.mig_steps.proofs.OfferedPaths.{own-with}
use Rattle.mig_steps.proofs.Options.{and-then, cond-then, get-within}
use Rattle.mig_rows.specs.Merged.{are_one, merged_by, merged, tells, may_merge, merge_args}
use Rattle.mig_rows.specs.Ranging.{ranges_over, is_row, are_rows, is_start}
use Rattle.mig_rows.specs.Writing.{term_into}
use Rattle.mig_rows.proofs.Held.{distinct-held}
use Rattle.mig_rows.proofs.IntoFits.{merge-proper}
use Rattle.mig_rows.proofs.MergeKeeps.{merge-keeps}
use Rattle.mig_rows.proofs.RowsBefore.{ranges, one-var, row-found, rows-parts, row-within, row-start}

-- what the rule asks of an invariant, and what it gives
pub record Merges (x y : ℕ) (t : Term) (us : List Term) (i : Invariant) : Type 0 where
  pub side : Side
  pub column : ColId
  pub is : i ≡ Unique side column
  pub less : nat_lt x y ≡ true
  pub first : is_row side column.table (slice_get t.vars x) ≡ true
  pub second : is_row side column.table (slice_get t.vars y) ≡ true
  pub class : one_class t.lits (Col x column.column) (Col y column.column) ≡ true
  pub made : term_into y x t ∷ [] ≡ us

merges-of : (x y : ℕ) (t : Term) (us : List Term) (i : Invariant) → merged_by x y t i ≡ Some us → Merges x y t us i
merges-of x y t us (Views source target) g = cc
merges-of x y t us (Apart side c d) g = cc
merges-of x y t us (Within side c d) g = cc
merges-of x y t us (Unique side c) g =
    let k = cond-then (are_one side c x y t) (Some (term_into y x t ∷ [])) us g in
    let a = and_parts (nat_lt x y) (are_rows side c c x y t.vars && one_class t.lits (Col x c.column) (Col y c.column)) k.0 in
    let b = and_parts (are_rows side c c x y t.vars) (one_class t.lits (Col x c.column) (Col y c.column)) a.1 in
    let r = rows-parts side c c x y t.vars b.0 in
    record { side = side; column = c; is = refl; less = a.0; first = r.0; second = r.1; class = b.1; made = same_Some (term_into y x t ∷ []) us k.1 }

-- by arguments
pub record MergesBy (invs : List Invariant) (args : List ℕ) (t : Term) (us : List Term) : Type 0 where
  pub x : ℕ
  pub y : ℕ
  pub k : ℕ
  pub invariant : Invariant
  pub args-are : args ≡ x ∷ (y ∷ (k ∷ []))
  pub there : slice_get invs k ≡ Some invariant
  pub merges : Merges x y t us invariant

merges-by : (invs : List Invariant) (args : List ℕ) (t : Term) (us : List Term) → merged invs args t ≡ Some us → MergesBy invs args t us
merges-by invs [] t us g = cc
merges-by invs (x ∷ []) t us g = cc
merges-by invs (x ∷ (y ∷ [])) t us g = cc
merges-by invs (x ∷ (y ∷ (k ∷ []))) t us g =
    let a = and-then (merged_by x y t) (slice_get invs k) us g in
    record { x = x; y = y; k = k; invariant = a.0; args-are = refl; there = a.1; merges = merges-of x y t us a.0 a.2 }
merges-by invs (x ∷ (y ∷ (k ∷ (m ∷ args)))) t us g = cc

-- ---- the rule

-- both variables are there, and range over one table
pub record OneTable (t : Term) (x y : ℕ) (side : Side) (table : ℕ) : Type 0 where
  pub var : Var
  pub kept : slice_get t.vars x ≡ Some var
  pub gone : slice_get t.vars y ≡ Some var
  pub over : ranges_over side table var ≡ true

one-table : (t : Term) (x y : ℕ) (side : Side) (table : ℕ) → is_row side table (slice_get t.vars x) ≡ true → is_row side table (slice_get t.vars y) ≡ true → OneTable t x y side table
one-table t x y side table first second =
    let a = row-found side table (slice_get t.vars x) first in
    let b = row-found side table (slice_get t.vars y) second in
    record { var = a.0; kept = a.1; gone = b.1 ∙ ap Some (one-var side table a.0 b.0 a.2 b.2); over = a.2 }

two : (x y : ℕ) → nat_lt x y ≡ true → x ≢ y
two x y h = λ q. absurd (omega (arith, q, ltb-true x y h))

pub merged-sound : (p : Sides) (invs : List Invariant) → IsSoundOnTerms p invs (merged invs)
merged-sound p invs = record {
  proper = λ kinds t args us h g.
      let b = merges-by invs args t us g in
      let q = b.merges in
      let o = one-table t b.x b.y q.side q.column.table q.first q.second in
      subst (Each (IsProperTerm p kinds)) q.made (merge-proper p kinds t b.y b.x o.var o.gone o.kept (two b.x b.y q.less) (ranges q.side q.column.table o.var o.over).2 h, tt);
  bag = λ m at kinds t args us h g.
      let b = merges-by invs args t us g in
      let q = b.merges in
      let o = one-table t b.x b.y q.side q.column.table q.first q.second in
      subst (SameAmong (setting_of p m) (t ∷ [])) q.made
      (merge-keeps (setting_of p m) t b.y b.x q.column.column o.var o.gone o.kept (two b.x b.y q.less)
      (distinct-held p invs m at b.k q.side q.column (b.there ∙ ap Some q.is) o.var o.over) q.class);
}

-- ---- what is tried

pub merged-offered : (invs : List Invariant) → OffersAlone (on_term (merged invs)) own_path (λ path t. merge_args invs t)
merged-offered invs = own-with (merged invs) (merge_args invs) (λ t. chosen-rises (may_merge invs t.vars) (length invs + length t.vars) 3 []) has
  where
    may : (t : Term) (x y : ℕ) (us : List Term) (i : Invariant) → Merges x y t us i → tells t.vars x y (Some i) ≡ true
    may t x y us i q = ap (λ (j : Invariant). tells t.vars x y (Some j)) q.is ∙ and_from (is_row q.side q.column.table (slice_get t.vars x)) (is_row q.side q.column.table (slice_get t.vars y)) q.first q.second

    has : (t : Term) (bs : List ℕ) (us : List Term) → merged invs bs t ≡ Some us → IsIn bs (merge_args invs t)
    has t bs us g =
        let b = merges-by invs bs t us g in
        let q = b.merges in
        let vx = row-within q.side q.column.table t.vars b.x q.first in
        let vy = row-within q.side q.column.table t.vars b.y q.second in
        let n = get-within invs b.k b.invariant b.there in
        subst (λ l. IsIn l (merge_args invs t)) (sym b.args-are)
        (chosen-has (may_merge invs t.vars) (length invs + length t.vars) 3 [] (b.x ∷ (b.y ∷ (b.k ∷ []))) refl
        (omega (arith, vx), row-start q.side q.column.table (slice_get t.vars b.x) q.first, (omega (arith, vy), and_from (nat_lt b.x b.y) (is_start (slice_get t.vars b.y)) q.less (row-start q.side q.column.table (slice_get t.vars b.y) q.second), (omega (arith, n), ap (tells t.vars b.x b.y) b.there ∙ may t b.x b.y us b.invariant q, tt))))
