-- Joins, scalars and conditions whose tokens pass no limit are within the limits.
use Rattle.std.proofs.Common.{◌≡◌, ℕ, ◌+◌, ◌≤◌, nat_le, if◌then◌else◌, not, ◌&&◌, ◌||◌, ◌==◌, Bool, true, false, pos, zero, suc, List, [], ◌∷◌, ◌++◌, map, length, Option, None, refl, ◌∙◌, arith, leb-true}
use Rattle.std.specs.List.{AllByRecursion, sum_by}
use Rattle.mig_schema.specs.declared.programs.Cmp.{Cmp}
use Rattle.mig_schema.specs.declared.programs.Param.{Param}
use Rattle.mig_schema.specs.declared.programs.Joined.{Joined}
use Rattle.mig_schema.specs.declared.tables.Table.{Table}
use Rattle.mig_schema.specs.Joins.{tables_of}
use Rattle.mig_schema.specs.Typed.{all_cmps, item_scalars}
use Rattle.mig_schema.specs.declared.limits.Limit.{Limit}
use Rattle.mig_schema.specs.declared.limits.Limit.TheVariants as limit
use Rattle.mig_tokens.specs.Forms.{Before, no_room}
use Rattle.mig_tokens.specs.Limits.{full, text_mark}
use Rattle.mig_tokens.specs.Numbers.{magnitude, most_of, is_negative, label_of, signed, int_of}
use Rattle.mig_grammar.specs.declared.tree.CmpTree.{CmpTree}
use Rattle.mig_grammar.specs.declared.tree.ItemTree.{ItemTree}
use Rattle.mig_grammar.specs.declared.tree.ItemTree.TheVariants as item_tree
use Rattle.mig_grammar.specs.declared.tree.JoinTree.{JoinTree}
use Rattle.mig_grammar.specs.declared.tree.JoinedTree.{JoinedTree}
use Rattle.mig_grammar.specs.declared.tree.ScalarTree.{ScalarTree}
use Rattle.mig_grammar.specs.declared.tree.ScalarTree.TheVariants as scalar_tree
use Rattle.mig_grammar.specs.declared.tree.ValueTree.{ValueTree}
use Rattle.mig_grammar.specs.declared.tree.ValueTree.TheVariants as value_tree
use Rattle.mig_grammar.specs.Spelling.{joined_tokens, join_tokens, scalar_marked, value_tokens, item_marked, cmp_tokens, and_tokens, one_each, case_tokens, or_tokens, where_tokens}
use Rattle.mig_syntax.specs.Naming.{scalar_of, value_of, item_of, cmp_of, cond_of, joined_of, join_of}
use Rattle.mig_schema.specs.Within.{FitsInt, FitsScalar}
use Rattle.mig_syntax.proofs.Alls.{all_joined, all_mapped, all_flat, length_mapped, length_cases, length_counted}
use Rattle.mig_syntax.proofs.Unmarked.{AreUnmarked, front, back, is_below, has_room, at_most, first_none, second_none, led_good, led_room, count_below}

-- ---- joins

few_tables : (tables : List Table) (j : JoinTree) → AreUnmarked (join_tokens j) → 1 + length j.more ≤ 4
few_tables tables j u = count_below no_room joined_tokens 4 (λ (s : Before) (x : JoinedTree) (v : AreUnmarked (joined_tokens s x)). is_below limit.Joined 4 s.0 v.0) (1, 0) j.more (omega arith) u.1

pub join_within : (tables : List Table) (j : JoinTree) → AreUnmarked (join_tokens j) → length (tables_of (join_of tables j)) ≤ 4
join_within tables j u =
    let few : 1 + length j.more ≤ 4 = few_tables tables j u in
    let same : length (map (λ (m : Joined). m.table) (map (joined_of tables) j.more)) ≡ length j.more = length_mapped (λ (m : Joined). m.table) (map (joined_of tables) j.more) ∙ length_mapped (joined_of tables) j.more in
    omega arith

-- ---- scalars

small : (neg : Bool) (n : ℕ) → n ≤ (if neg then 9223372036854775808 else 9223372036854775807) → FitsInt (signed neg n)
small true zero le = omega arith
small true (suc n) le = omega arith
small false n le = omega arith

chosen : (b : Bool) (neg : Bool) (n : ℕ) → (b ≡ true → n ≤ (if neg then 9223372036854775808 else 9223372036854775807)) → FitsInt (if b then signed neg n else pos 0)
chosen true neg n le = small neg n (le refl)
chosen false neg n le = omega arith

int_within : (w : List ℕ) → FitsInt (int_of w)
int_within w = chosen (nat_le (magnitude w) (most_of w)) (is_negative w) (magnitude w) (λ e. leb-true (magnitude w) (most_of w) e)

labelled : (a b : Bool) (n : ℕ) → (a ≡ true → n ≤ 15) → (if a && b then n else 0) ≤ 15
labelled true true n le = le refl
labelled true false n le = omega arith
labelled false b n le = omega arith

label_within : (w : List ℕ) → label_of w ≤ 15
label_within w = labelled (nat_le (magnitude w) 15) (not (is_negative w) || (magnitude w == 0)) (magnitude w) (λ e. leb-true (magnitude w) 15 e)

pub scalar_within : (params : List Param) (mark : Option Limit) (x : ScalarTree) → AreUnmarked (scalar_marked mark x) → FitsScalar (scalar_of params x)
scalar_within params mark (scalar_tree.Name v) u = tt
scalar_within params mark (scalar_tree.Int v) u = int_within v
scalar_within params mark (scalar_tree.Text v) u = at_most limit.Text 1024 (length v) (second_none mark (text_mark v) u.0)

pub value_within : (params : List Param) (x : ValueTree) → AreUnmarked (value_tokens x) → FitsScalar (value_of params x)
value_within params (value_tree.Scalar x) u = scalar_within params None x u
value_within params (value_tree.Fresh v) u = label_within v

-- ---- comparisons

module _ (tables : List Table) (params : List Param) where
  item_within : (mark : Option Limit) (x : ItemTree) → AreUnmarked (item_marked mark x) → AllByRecursion FitsScalar (item_scalars (item_of tables params x))
  item_within mark (item_tree.Col c) u = tt
  item_within mark (item_tree.Scalar x) u = (scalar_within params mark x u, tt)

  -- both sides of a comparison are within the limits
  abbrev pub SidesFit : Cmp → Type 0
  SidesFit c = AllByRecursion FitsScalar (item_scalars c.left ++ item_scalars c.right)

  abbrev TreeFits : CmpTree → Type 0
  TreeFits c = SidesFit (cmp_of tables params c)

  cmp_within : (s : Before) (c : CmpTree) → AreUnmarked (cmp_tokens s c) → TreeFits c
  cmp_within s c u =
      let left = item_marked (full limit.Comparisons s.1) c.left in
      let after = back left _ u in
      all_joined FitsScalar (item_scalars (item_of tables params c.left)) (item_scalars (item_of tables params c.right))
      (item_within (full limit.Comparisons s.1) c.left (front left _ u))
      (item_within None c.right after.1)

  and_within : (s : Before) (c : CmpTree) → AreUnmarked (and_tokens s c) → TreeFits c
  and_within s c u = cmp_within s c u.1

  item_room : (mark : Option Limit) (x : ItemTree) → AreUnmarked (item_marked mark x) → mark ≡ None
  item_room mark (item_tree.Col c) u = first_none mark _ u.0
  item_room mark (item_tree.Scalar x) u = first_none mark _ u.0

  cmp_room : (s : Before) (c : CmpTree) → AreUnmarked (cmp_tokens s c) → one_each c ≤ s.1
  cmp_room s c u = has_room limit.Comparisons s.1 (item_room (full limit.Comparisons s.1) c.left (front (item_marked (full limit.Comparisons s.1) c.left) _ u))

  and_room : (s : Before) (c : CmpTree) → AreUnmarked (and_tokens s c) → one_each c ≤ s.1
  and_room s c u = cmp_room s c u.1

  -- ---- cases

  case_within : (s : Before) (cs : List CmpTree) → AreUnmarked (case_tokens s cs) → AllByRecursion TreeFits cs
  case_within s cs u = led_good one_each cmp_tokens and_tokens TreeFits cmp_within and_within (0, s.1) cs u

  or_within : (s : Before) (cs : List CmpTree) → AreUnmarked (or_tokens s cs) → AllByRecursion TreeFits cs
  or_within s cs u = case_within s cs u.1

  case_room : (s : Before) (cs : List CmpTree) → AreUnmarked (case_tokens s cs) → length cs ≤ s.1
  case_room s cs u =
      let all : sum_by one_each cs ≤ s.1 = led_room one_each cmp_tokens and_tokens cmp_room and_room (0, s.1) cs u in
      let same : sum_by (λ (c : CmpTree). 1) cs ≡ length cs = length_counted cs in
      omega arith

  or_room : (s : Before) (cs : List CmpTree) → AreUnmarked (or_tokens s cs) → length cs ≤ s.1
  or_room s cs u = case_room s cs u.1

  -- ---- conditions

  pub cond_few : (cases : List (List CmpTree)) → AreUnmarked (where_tokens cases) → length (all_cmps (cond_of tables params cases)) ≤ 16
  cond_few [] u = omega arith
  cond_few (c ∷ cs) u =
      let all : sum_by (λ (d : List CmpTree). length d) (c ∷ cs) ≤ 16 = led_room (λ (d : List CmpTree). length d) case_tokens or_tokens case_room or_room (0, 16) (c ∷ cs) u.1 in
      let same = length_cases (cmp_of tables params) (c ∷ cs) in
      omega arith

  pub cond_within : (cases : List (List CmpTree)) → AreUnmarked (where_tokens cases) → AllByRecursion SidesFit (all_cmps (cond_of tables params cases))
  cond_within [] u = tt
  cond_within (c ∷ cs) u =
      all_flat (AllByRecursion SidesFit) SidesFit (λ (d : List Cmp). d) (λ d h. h) (map (λ (d : List CmpTree). map (cmp_of tables params) d) (c ∷ cs))
      (all_mapped (AllByRecursion TreeFits) (AllByRecursion SidesFit) (λ (d : List CmpTree). map (cmp_of tables params) d) (λ d h. all_mapped TreeFits SidesFit (cmp_of tables params) (λ e k. k) d h) (c ∷ cs)
      (led_good (λ (d : List CmpTree). length d) case_tokens or_tokens (AllByRecursion TreeFits) case_within or_within (0, 16) (c ∷ cs) u.1))
