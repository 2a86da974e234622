use Rattle.std.proofs.Common.{◌≡◌, [], sym, ap, ◌∙◌, subst, rules}
use Rattle.mig_storage.specs.Order.{IsOrdered}
use Rattle.mig_storage.specs.Slots.{state_on, undone}
use Rattle.mig_storage.proofs.SlotLemmas.{undone-push}
use Rattle.mig_storage.proofs.journal.Journal.take_back.Goals as goal

pub loop-entry-preserved : goal.loop-entry-preserved
loop-entry-preserved c =
    let shelf = c.loop-entry.self-inside.shelf in
    let back : undone c.loop-entry.self-inside.changes.items shelf ≡ undone c.pop.new.self.items c.take_back.new.self =
    rw (c.in-Some.ensures.items, c.take_back.ensures) (undone-push c.pop.new.self.items c.in-Some.entry shelf) in
    record {
      told = ap state_on (sym back) ∙ c.loop-entry.invariant.told;
      order = subst IsOrdered back c.loop-entry.invariant.order;
    }

pub invariant_of-self : goal.invariant_of-self
invariant_of-self c =
    let before : c.loop-entry.self-inside.changes.items ≡ [] = search rules in
    let after : c.pop.new.self.items ≡ [] = search rules in
    let order : IsOrdered c.loop-entry.self-inside.shelf = subst (λ us. IsOrdered (undone us c.loop-entry.self-inside.shelf)) before c.loop-entry.invariant.order in
    record {
      current = order;
      start = subst (λ us. IsOrdered (undone us c.loop-entry.self-inside.shelf)) (sym after) order;
    }
