use Rattle.std.proofs.Common.{Bor, List, ℕ, ◌∙◌, ◌++◌, ap, append_assoc, map, subst, sym}
use Rattle.std.specs.Prelude.{OnOk}
use Rattle.std.specs.List.{flat_map}
use Rattle.csv.specs.Records.{fields_of}
use Rattle.mig_meaning.specs.declared.states.Row.{Row}
use Rattle.mig_meaning.specs.Told.{rows_told}
use Rattle.mig_algebra.specs.Sorted.{sorted}
use Rattle.mig_store.specs.Told.{answered_told}
use Rattle.mig_store.specs.Order.{row_order}
use Rattle.mig_store.specs.Reading.{Record}
use Rattle.mig_store.specs.Writing.{heading, record_text, row_record}
use Rattle.mig_store.specs.Written.{HasWritten}
use Rattle.mig_store.proofs.Written.{map-both}
use Rattle.mig_store.proofs.writing.put_answer.Goals as goal

pub returns : goal.returns
returns g c = λ text h.
    let rows = c.in_ok-rows.rows.items in
    let first = fields_of c.in_ok-heading.heading in
    let sorts = c.in_ok-rows.ensures ∙ ap (λ (rs : List Row). sorted row_order (rows_told rs)) c.as_slice.ensures in
    let each = ap (λ (rs : List (Bor Row)). map (λ (r : Bor Row). row_record r.now.values) rs) c.as_slice-2.ensures.value ∙ sym (map-both row_record (λ (r : Bor Row). r.now.values) rows) ∙ ap (map row_record) sorts in
    let behind = flat_map record_text (map (λ (r : Bor Row). row_record r.now.values) c.as_slice-2.result.now) in
    let same = append_assoc text (record_text first) behind
    ∙ ap (λ (r : Record). text ++ (record_text r ++ behind)) c.in_ok-heading.ensures
    ∙ ap (λ (rs : List Record). text ++ (record_text (heading c.args.program.now (answered_told c.args.answered.now)) ++ flat_map record_text rs)) each in
    subst (λ (t : List ℕ). OnOk c.put_rows.result (HasWritten g.W.Write.contents c.put_rows.new.writer t)) same
    (c.put_rows.ensures (text ++ record_text first) (c.in_ok-put_record.ensures text h))
