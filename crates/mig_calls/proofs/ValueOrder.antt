-- The order of values is total, and ties equal ones alone.
use Rattle.std.proofs.Common.{◌≡◌, List, [], ◌∷◌, false, refl, sym, ap, ◌∙◌}
use Rattle.std.specs.Cmp.{IsTotalOrder, unsigned_tied}
use Rattle.std.specs.List.{AllByRecursion}
use Rattle.std.specs.List.Sorted.{IsStrictlySortedBy}
use Rattle.std.specs.Ordering.{eq_by_cmp, is_eq, ordering_reverse}
use Rattle.std.specs.declared.cmp.Ordering.TheVariants.{Less, Equal}
use Rattle.std.proofs.lemmas.Bool.{or_from}
use Rattle.std.proofs.lemmas.Cmp.{int_cmp_total, nat_cmp_total, nat_list_cmp_total}
use Rattle.std.proofs.lemmas.Map.Keys.{sorted_head, sorted_tail}
use Rattle.std.proofs.lemmas.Map.Text.{is_eq-slice_cmp}
use Rattle.mig_schema.specs.declared.values.Value.{Value}
use Rattle.mig_schema.specs.declared.values.Value.TheVariants.{Int, Text, Key}
use Rattle.mig_meaning.specs.Values.{value_eq}
use Rattle.mig_calls.specs.Leading.{AreUnequal, is_one_of}
use Rattle.mig_calls.specs.Order.{value_order}

pub value_total : IsTotalOrder value_order
value_total = record { antisymm = antisymm; trans = trans; congr = congr }
  where
    antisymm : (v w : Value) → value_order v w ≡ ordering_reverse (value_order w v)
    antisymm (Int i) (Int j) = int_cmp_total.antisymm i j
    antisymm (Text t) (Text u) = nat_list_cmp_total.antisymm t u
    antisymm (Key k) (Key l) = nat_cmp_total.antisymm k l
    antisymm (Int i) (Text u) = refl
    antisymm (Int i) (Key l) = refl
    antisymm (Text t) (Int j) = refl
    antisymm (Text t) (Key l) = refl
    antisymm (Key k) (Int j) = refl
    antisymm (Key k) (Text u) = refl

    trans : (v w x : Value) → value_order v w ≡ Less → value_order w x ≡ Less → value_order v x ≡ Less
    trans (Int i) (Int j) (Int k) a b = int_cmp_total.trans i j k a b
    trans (Text s) (Text t) (Text u) a b = nat_list_cmp_total.trans s t u a b
    trans (Key k) (Key l) (Key m) a b = nat_cmp_total.trans k l m a b
    trans (Int i) w (Text u) a b = refl
    trans (Int i) w (Key m) a b = refl
    trans (Text s) w (Key m) a b = refl
    trans (Int i) (Text t) (Int k) a b = cc b
    trans (Int i) (Key l) (Int k) a b = cc b
    trans (Text s) (Int j) x a b = cc a
    trans (Text s) (Text t) (Int k) a b = cc b
    trans (Text s) (Key l) (Int k) a b = cc b
    trans (Text s) (Key l) (Text u) a b = cc b
    trans (Key k) (Int j) x a b = cc a
    trans (Key k) (Text t) x a b = cc a
    trans (Key k) (Key l) (Int i) a b = cc b
    trans (Key k) (Key l) (Text u) a b = cc b

    congr : (v w x : Value) → value_order v w ≡ Equal → value_order v x ≡ value_order w x
    congr (Int i) (Int j) (Int k) a = int_cmp_total.congr i j k a
    congr (Int i) (Int j) (Text u) a = refl
    congr (Int i) (Int j) (Key m) a = refl
    congr (Text s) (Text t) (Int k) a = refl
    congr (Text s) (Text t) (Text u) a = nat_list_cmp_total.congr s t u a
    congr (Text s) (Text t) (Key m) a = refl
    congr (Key k) (Key l) (Int i) a = refl
    congr (Key k) (Key l) (Text u) a = refl
    congr (Key k) (Key l) (Key m) a = nat_cmp_total.congr k l m a
    congr (Int i) (Text t) x a = cc a
    congr (Int i) (Key l) x a = cc a
    congr (Text s) (Int j) x a = cc a
    congr (Text s) (Key l) x a = cc a
    congr (Key k) (Int j) x a = cc a
    congr (Key k) (Text t) x a = cc a

pub value-ties : (v w : Value) → value_eq v w ≡ eq_by_cmp value_order v w
value-ties (Int i) (Int j) = refl
value-ties (Text t) (Text u) = sym (is_eq-slice_cmp t u)
value-ties (Key k) (Key l) = sym (unsigned_tied k l)
value-ties (Int i) (Text u) = refl
value-ties (Int i) (Key l) = refl
value-ties (Text t) (Int j) = refl
value-ties (Text t) (Key l) = refl
value-ties (Key k) (Int j) = refl
value-ties (Key k) (Text u) = refl

none-below : (v : Value) (vs : List Value) → AllByRecursion (λ w. value_order v w ≡ Less) vs → is_one_of vs v ≡ false
none-below v [] a = refl
none-below v (w ∷ vs) a = or_from (value_eq v w) (is_one_of vs v) (value-ties v w ∙ ap is_eq a.0) (none-below v vs a.1)

pub sorted-unequal : (vs : List Value) → IsStrictlySortedBy value_order vs → AreUnequal vs
sorted-unequal [] h = tt
sorted-unequal (v ∷ vs) h = (none-below v vs (sorted_head value_order v vs h), sorted-unequal vs (sorted_tail value_order v vs h))
