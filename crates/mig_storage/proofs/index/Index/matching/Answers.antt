use Rattle.std.proofs.Common.{◌≡◌, ◌++◌, [], length, sym, ap, ◌∙◌, rules}
use Rattle.std.specs.Prelude.{filter}
use Rattle.std.proofs.lemmas.List.{append-nil}
use Rattle.mig_storage.specs.Index.{code_of}
use Rattle.mig_storage.proofs.IndexLemmas.{rows_at}
use Rattle.mig_storage.proofs.EntryLemmas.{within}
use Rattle.mig_storage.proofs.AskedLemmas.{asked}
use Rattle.mig_storage.proofs.index.Index.matching.Goals as goal

pub returns : goal.returns
returns c =
    let index = c.args.self.now in
    let slots = c.args.slots.now in
    let value = c.args.value.now in
    let over : c.loop-entry.entry-iterator ≡ [] = search rules in
    let entries : c.into_iter-entry-iterator.result ≡ filter (within (length c.args.slots.now) (code_of c.args.value.now)) c.args.self.now.places.keys = search rules in
    sym (append-nil c.loop-entry.rows)
    ∙ (ap (λ es. c.loop-entry.rows ++ rows_at c.args.self.now.column c.args.value.now c.args.slots.now es) (sym over)
    ∙ (c.loop-entry.invariant
    ∙ (ap (rows_at c.args.self.now.column c.args.value.now c.args.slots.now) entries
    ∙ asked slots index value c.requires c.range-entry-items.ensures.ordered)))
