-- Scalars and conditions of a text are spelled.
use Rattle.std.proofs.Common.{◌≡◌, ℕ, ℤ, pos, negsuc, ◌<◌, Bool, true, false, ◌&&◌, ◌||◌, List, [], ◌∷◌, map, length, Option, None, refl, arith}
use Rattle.std.specs.Prelude.{nat_lt}
use Rattle.std.specs.List.{list_all, AllByRecursion}
use Rattle.std.proofs.lemmas.Bool.{and_from, lt-ltb}
use Rattle.mig_schema.specs.declared.limits.Limit.{Limit}
use Rattle.mig_schema.specs.declared.limits.Limit.TheVariants as limit
use Rattle.mig_schema.specs.declared.tables.Table.{Table}
use Rattle.mig_schema.specs.declared.programs.Cmp.{Cmp}
use Rattle.mig_schema.specs.declared.programs.Param.{Param}
use Rattle.mig_schema.specs.Within.{FitsInt}
use Rattle.mig_tokens.specs.Forms.{Before}
use Rattle.mig_tokens.specs.Limits.{full}
use Rattle.mig_grammar.specs.declared.tree.CmpTree.{CmpTree}
use Rattle.mig_grammar.specs.declared.tree.ItemTree.{ItemTree}
use Rattle.mig_grammar.specs.declared.tree.ItemTree.TheVariants as item_tree
use Rattle.mig_grammar.specs.declared.tree.ScalarTree.{ScalarTree}
use Rattle.mig_grammar.specs.declared.tree.ScalarTree.TheVariants as scalar_tree
use Rattle.mig_grammar.specs.declared.tree.ValueTree.{ValueTree}
use Rattle.mig_grammar.specs.declared.tree.ValueTree.TheVariants as value_tree
use Rattle.mig_grammar.specs.Shapes.{IsCase}
use Rattle.mig_grammar.specs.Spelling.{one_each, scalar_marked, value_tokens, item_marked, cmp_tokens, and_tokens, case_tokens, or_tokens, where_tokens}
use Rattle.mig_syntax.specs.Naming.{scalar_of, value_of, item_of, cmp_of, cond_of}
use Rattle.mig_syntax.proofs.WithinJoins.{scalar_within, value_within}
use Rattle.mig_spelling.specs.Spellable.{has_items, fits_i64, scalar_spelled, item_spelled, cond_spelled}
use Rattle.mig_spelling.proofs.Tokens.{AreSound, none-marked, front, back, led-good}

-- ---- scalars

lt-test : (m n : ℕ) → m < n → nat_lt m n ≡ true
lt-test m n h = lt-ltb m n h

int-spelled : (i : ℤ) → FitsInt i → fits_i64 i ≡ true
int-spelled (pos n) h = lt-test n _ h
int-spelled (negsuc n) h = lt-test n _ h

pub scalar-spelled : (params : List Param) (mark : Option Limit) (x : ScalarTree) → AreSound (scalar_marked mark x) → scalar_spelled (scalar_of params x) ≡ true
scalar-spelled params mark (scalar_tree.Name v) u = refl
scalar-spelled params mark (scalar_tree.Int v) u = int-spelled _ (scalar_within params mark (scalar_tree.Int v) (none-marked (scalar_marked mark (scalar_tree.Int v)) u))
scalar-spelled params mark (scalar_tree.Text v) u = u.0.0

pub value-spelled : (params : List Param) (x : ValueTree) → AreSound (value_tokens x) → scalar_spelled (value_of params x) ≡ true
value-spelled params (value_tree.Scalar x) u = scalar-spelled params None x u
value-spelled params (value_tree.Fresh v) u =
    let few = value_within params (value_tree.Fresh v) (none-marked (value_tokens (value_tree.Fresh v)) u) in
    lt-test _ 16 (omega (arith, few))

-- ---- conditions

module _ (tables : List Table) (params : List Param) where
  item-spelled : (mark : Option Limit) (x : ItemTree) → AreSound (item_marked mark x) → item_spelled (item_of tables params x) ≡ true
  item-spelled mark (item_tree.Col c) u = refl
  item-spelled mark (item_tree.Scalar x) u = scalar-spelled params mark x u

  abbrev SidesSpelled : CmpTree → Type 0
  SidesSpelled c = (item_spelled (item_of tables params c.left) && item_spelled (item_of tables params c.right)) ≡ true

  cmp-spelled : (s : Before) (c : CmpTree) → AreSound (cmp_tokens s c) → SidesSpelled c
  cmp-spelled s c u =
      let left = item_marked (full limit.Comparisons s.1) c.left in
      let after = back left _ u in
      and_from (item_spelled (item_of tables params c.left)) (item_spelled (item_of tables params c.right)) (item-spelled (full limit.Comparisons s.1) c.left (front left _ u)) (item-spelled None c.right after.1)

  and-spelled : (s : Before) (c : CmpTree) → AreSound (and_tokens s c) → SidesSpelled c
  and-spelled s c u = cmp-spelled s c u.1

  abbrev sides_spelled : Cmp → Bool
  sides_spelled c = item_spelled c.left && item_spelled c.right

  all-sides : (cs : List CmpTree) → AllByRecursion SidesSpelled cs → list_all sides_spelled (map (cmp_of tables params) cs) ≡ true
  all-sides [] h = refl
  all-sides (c ∷ cs) h = and_from (sides_spelled (cmp_of tables params c)) (list_all sides_spelled (map (cmp_of tables params) cs)) h.0 (all-sides cs h.1)

  abbrev CaseSpelled : List CmpTree → Type 0
  CaseSpelled cs = list_all sides_spelled (map (cmp_of tables params) cs) ≡ true

  case-spelled : (s : Before) (cs : List CmpTree) → AreSound (case_tokens s cs) → CaseSpelled cs
  case-spelled s cs u = all-sides cs (led-good one_each cmp_tokens and_tokens SidesSpelled cmp-spelled and-spelled (0, s.1) cs u)

  or-spelled : (s : Before) (cs : List CmpTree) → AreSound (or_tokens s cs) → CaseSpelled cs
  or-spelled s cs u = case-spelled s cs u.1

  abbrev case_spelled : List Cmp → Bool
  case_spelled case = has_items case && list_all sides_spelled case

  one-case : (cs : List CmpTree) → IsCase cs → CaseSpelled cs → case_spelled (map (cmp_of tables params) cs) ≡ true
  one-case [] f h = absurd f
  one-case (c ∷ cs) f h = h

  all-cases : (cases : List (List CmpTree)) → AllByRecursion IsCase cases → AllByRecursion CaseSpelled cases → list_all case_spelled (map (λ (d : List CmpTree). map (cmp_of tables params) d) cases) ≡ true
  all-cases [] f h = refl
  all-cases (c ∷ cases) f h = and_from (case_spelled (map (cmp_of tables params) c)) (list_all case_spelled (map (λ (d : List CmpTree). map (cmp_of tables params) d) cases)) (one-case c f.0 h.0) (all-cases cases f.1 h.1)

  -- a condition
  pub cond-spelled : (cases : List (List CmpTree)) → AllByRecursion IsCase cases → AreSound (where_tokens cases) → cond_spelled (cond_of tables params cases) ≡ true
  cond-spelled [] f u = refl
  cond-spelled (c ∷ cs) f u = either-true _ _ (all-cases (c ∷ cs) f (led-good (λ (d : List CmpTree). length d) case_tokens or_tokens CaseSpelled case-spelled or-spelled (0, 16) (c ∷ cs) u.1))
    where
      either-true : (a b : Bool) → b ≡ true → (a || b) ≡ true
      either-true true b h = refl
      either-true false b h = h
