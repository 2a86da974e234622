use Rattle.std.proofs.Common.{◌≡◌, None, sym, ap, ◌∙◌, subst}
use Rattle.mig_meaning.specs.Rows.{rows_of}
use Rattle.mig_meaning.specs.States.{Rising}
use Rattle.mig_storage.specs.Changes.{removed}
use Rattle.mig_storage.specs.Places.{IsPlaceOf}
use Rattle.mig_storage.specs.Slots.{Held, held, slots_at, state_on, undone}
use Rattle.mig_storage.proofs.SlotLemmas.{state-removed}
use Rattle.mig_storage.specs.Order.{IsOrdered}
use Rattle.mig_storage.proofs.OrderLemmas.{ordered-row_at}
use Rattle.mig_storage.proofs.journal.Journal.remove.Goals as goal

pub returns-clause-ok : goal.returns-clause-ok
returns-clause-ok c =
    let shelf = c.self.inside.shelf in
    let is : c.args.self.now ≡ held c.self.inside.shelf c.self.inside.changes.items = sym c.self.view_is in
    let rising : Rising (rows_of (state_on shelf) c.args.table) = subst (λ (h : Held). Rising (rows_of h.current c.args.table)) is c.requires.rising in
    let found : IsPlaceOf (slots_at shelf c.args.table) c.args.id c.in-Some.place c.in-Some._row.now = rw c.slots.ensures at c.in-Some.ensures.found in
    rw c.in_ok-replace.ensures.ok (state-removed shelf c.args.table c.args.id c.in-Some.place c.in-Some._row.now found rising ∙ ap (λ (h : Held). removed c.args.table c.args.id h.current) (sym is))

pub invariant_of-self-2 : goal.invariant_of-self-2
invariant_of-self-2 c = record {
  current = subst IsOrdered (sym c.in_ok-replace.ensures.ok) (ordered-row_at c.self.inside.shelf c.args.table c.in-Some.place None c.self.invariant.current);
  start = subst IsOrdered (sym (c.in_ok-replace.ensures.start ∙ ap (λ us. undone us c.self.inside.shelf) c.reserve.ensures.items)) c.self.invariant.start;
}
