use Rattle.std.proofs.Common.{◌≡◌, ◌<◌, ◌++◌, ◌∷◌, [], length, sym, ap, ◌∙◌, subst, arith, rules}
use Rattle.std.proofs.lemmas.List.{length-map}
use Rattle.mig_meaning.specs.Effect.{with_row}
use Rattle.mig_storage.specs.declared.undo.Undo.TheVariants.{Added}
use Rattle.mig_storage.specs.Slots.{Held, held, rows_in, state_on, undone, with_new}
use Rattle.mig_storage.proofs.SlotLemmas.{undone-push, undo-new, state-new}
use Rattle.mig_storage.specs.Order.{IsOrdered}
use Rattle.mig_storage.proofs.OrderLemmas.{ordered-new}
use Rattle.mig_storage.proofs.journal.Journal.add.Goals as goal

pub returns-clause-ok : goal.returns-clause-ok
returns-clause-ok c =
    let is : c.args.self.now ≡ held c.self.inside.shelf c.self.inside.changes.items = sym c.self.view_is in
    rw c.in_ok-add.ensures.ok (state-new c.self.inside.shelf c.args.table c.args.row ∙ ap (λ (h : Held). with_row h.current c.args.table c.args.row.values) (sym is))

pub returns-clause-start : goal.returns-clause-start
returns-clause-start c =
    let shelf = c.self.inside.shelf in
    let is : c.args.self.now ≡ held c.self.inside.shelf c.self.inside.changes.items = sym c.self.view_is in
    let within : c.args.table < length c.self.inside.shelf.tables = omega (arith, c.requires.table, ap (λ (h : Held). length h.current.tables) is, length-map c.self.inside.shelf.tables rows_in) in
    let entries : c.push.new.self.items ≡ c.self.inside.changes.items ++ Added c.args.table ∷ [] = search rules in
    rw (entries, c.in_ok-add.ensures.ok)
    (ap state_on (undone-push c.self.inside.changes.items (Added c.args.table) (with_new shelf c.args.table c.args.row) ∙ ap (undone c.self.inside.changes.items) (undo-new shelf c.args.table c.args.row within))
    ∙ ap (λ (h : Held). h.start) (sym is))

pub invariant_of-self-2 : goal.invariant_of-self-2
invariant_of-self-2 c =
    let shelf = c.self.inside.shelf in
    let is : c.args.self.now ≡ held c.self.inside.shelf c.self.inside.changes.items = sym c.self.view_is in
    let within : c.args.table < length c.self.inside.shelf.tables = omega (arith, c.requires.table, ap (λ (h : Held). length h.current.tables) is, length-map c.self.inside.shelf.tables rows_in) in
    let entries : c.push.new.self.items ≡ c.self.inside.changes.items ++ Added c.args.table ∷ [] = search rules in
    let back : undone c.push.new.self.items c.add.new.self ≡ undone c.self.inside.changes.items shelf =
    rw (entries, c.in_ok-add.ensures.ok) (undone-push c.self.inside.changes.items (Added c.args.table) (with_new shelf c.args.table c.args.row) ∙ ap (undone c.self.inside.changes.items) (undo-new shelf c.args.table c.args.row within)) in
    record {
      current = subst IsOrdered (sym c.in_ok-add.ensures.ok) (ordered-new shelf c.args.table c.args.row c.self.invariant.current);
      start = subst IsOrdered (sym back) c.self.invariant.start;
    }
