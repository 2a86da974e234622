use Rattle.std.proofs.Common.{sym, subst}
use Rattle.mig_storage.proofs.SlotLemmas.{state-empty}
use Rattle.mig_storage.specs.Order.{IsOrdered}
use Rattle.mig_storage.specs.Slots.{undone}
use Rattle.mig_storage.proofs.OrderLemmas.{ordered-empty}
use Rattle.mig_storage.proofs.journal.Journal.of_tables.Goals as goal

pub returns-clause-current : goal.returns-clause-current
returns-clause-current c = rw c.in_ok-of_tables.ensures (state-empty c.args.schema.now)

pub returns-clause-start : goal.returns-clause-start
returns-clause-start c = rw (c.new.ensures.items, c.in_ok-of_tables.ensures) (state-empty c.args.schema.now)

pub invariant_of-result : goal.invariant_of-result
invariant_of-result c =
    let order : IsOrdered c.in_ok-of_tables.field-0 = subst IsOrdered (sym c.in_ok-of_tables.ensures) (ordered-empty c.args.schema.now) in
    record {
      current = order;
      start = subst (λ us. IsOrdered (undone us c.in_ok-of_tables.field-0)) (sym c.new.ensures.items) order;
    }
