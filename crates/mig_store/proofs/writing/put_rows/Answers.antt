use Rattle.std.proofs.Common.{Bor, List, ◌∙◌, ◌++◌, ap, map, sym, take}
use Rattle.std.specs.List.{flat_map}
use Rattle.std.proofs.lemmas.List.{append-nil, take_all}
use Rattle.mig_meaning.specs.declared.states.Row.{Row}
use Rattle.mig_store.specs.Reading.{Record}
use Rattle.mig_store.specs.Writing.{record_text, row_record}
use Rattle.mig_store.proofs.Written.{in_words, row-more}
use Rattle.mig_store.proofs.writing.put_rows.Goals as goal

pub loop-row-init : goal.loop-row-init
loop-row-init g c = λ text h. in_words g.W.Write.contents _ text _ (sym (append-nil text)) h

pub loop-row-preserved : goal.loop-row-preserved
loop-row-preserved g c = λ text h.
    let same = c.in_ok-record.ensures ∙ ap row_record c.as_slice.ensures in
    let more = row-more (λ (r : Bor Row). row_record r.now.values) text c.args.rows.now c.loop-row.row-index c.row-item.result c.loop-row-test.true c.row-item.is in
    let before = text ++ flat_map record_text (map (λ (r : Bor Row). row_record r.now.values) (take c.loop-row.row-index c.args.rows.now)) in
    in_words g.W.Write.contents _ _ _ (ap (λ (r : Record). before ++ record_text r) same ∙ more) (c.in_ok-put_record.ensures _ (c.loop-row.invariant text h))

pub returns : goal.returns
returns g c = λ text h.
    in_words g.W.Write.contents _ _ _ (ap (λ (rows : List (Bor Row)). text ++ flat_map record_text (map (λ r. row_record r.now.values) rows)) (take_all c.loop-row.row-index c.args.rows.now c.loop-row-test.false)) (c.loop-row.invariant text h)
