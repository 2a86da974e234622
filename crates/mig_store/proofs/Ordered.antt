-- The order of rows is total, and ties equal ones alone.
use Rattle.std.proofs.Common.{◌≡◌, ◌∙◌, List, ap}
use Rattle.std.specs.Cmp.{IsTotalOrder}
use Rattle.std.specs.Ordering.{is_eq}
use Rattle.std.specs.declared.cmp.Ordering.TheVariants.{Equal}
use Rattle.std.proofs.lemmas.Cmp.{lists_total}
use Rattle.mig_schema.specs.declared.values.Value.{Value}
use Rattle.mig_meaning.proofs.Bags.{value_eq-true}
use Rattle.mig_algebra.proofs.OrderLaws.{list-tie}
use Rattle.mig_calls.specs.Order.{value_order}
use Rattle.mig_calls.proofs.ValueOrder.{value-ties, value_total}
use Rattle.mig_store.specs.Order.{row_order}

value_tie : (v w : Value) → value_order v w ≡ Equal → v ≡ w
value_tie v w h = value_eq-true v w (value-ties v w ∙ ap is_eq h)

pub row_total : IsTotalOrder row_order
row_total = lists_total value_total

pub row_tie : (r q : List Value) → row_order r q ≡ Equal → r ≡ q
row_tie = list-tie value_order value_tie
