use Rattle.std.proofs.Common.{◌≡◌, ◌++◌, ◌∷◌, [], sym, ap, ◌∙◌, rules}
use Rattle.mig_storage.specs.declared.undo.Undo.TheVariants.{Changed}
use Rattle.mig_storage.specs.Slots.{undone, slots_at, with_slots, with_row_at}
use Rattle.mig_storage.proofs.SlotLemmas.{undone-push, undo-changed}
use Rattle.mig_storage.proofs.journal.replace.Goals as goal

pub returns-in-Some-clause-start : goal.returns-in-Some-clause-start
returns-in-Some-clause-start c =
    let shelf = c.args.shelf.now in
    let note = Changed c.args.table c.args.place c.in-Some.old in
    let entries : c.push.new.self.items ≡ c.args.changes.now.items ++ note ∷ [] = search rules in
    rw (entries, c.in_ok-old.ensures.ok)
    (undone-push c.args.changes.now.items note (with_slots shelf c.args.table (with_row_at c.args.place c.args.row (slots_at shelf c.args.table)))
    ∙ ap (undone c.args.changes.now.items) (undo-changed shelf c.args.table c.args.place c.in-Some.old c.args.row c.requires.table c.requires.place (sym c.in_ok-old.ensures.row ∙ c.in-Some.is)))
