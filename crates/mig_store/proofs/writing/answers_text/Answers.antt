use Rattle.std.proofs.Common.{List, [], ◌∙◌, ap, refl, sym, true}
use Rattle.std.specs.List.{flat_map}
use Rattle.std.proofs.lemmas.List.Folds.{flat_map-map}
use Rattle.csv.specs.Writing.{with_flexible}
use Rattle.mig_store.specs.declared.answers.Answered.{Answered}
use Rattle.mig_store.specs.Told.{answered_told}
use Rattle.mig_store.specs.Writing.{answer_text}
use Rattle.mig_store.proofs.Written.{kept}
use Rattle.mig_store.proofs.writing.answers_text.Goals as goal

pub returns-in-Ok : goal.returns-in-Ok
returns-in-Ok c =
    let p = c.args.program.now in
    let from = c.from_writer-writer.ensures in
    let written = c.in_ok-put_answers.ensures [] (record {
      setup = from.cfg ∙ c.flexible.ensures ∙ ap (λ b. with_flexible b true) c.new.ensures;
      fields = from.fields;
      wrote = from.wrote;
      told = rw (from.wtr, from.empty, c.new-2.ensures.items) refl;
    }) in
    c.from_vec.ensures ∙ kept _ _ _ written.told c.in-Ok.ensures.ok
    ∙ ap (λ (xs : List Answered). flat_map (λ a. answer_text p (answered_told a)) xs) c.as_slice.ensures
    ∙ sym (flat_map-map (answer_text p) answered_told c.args.answers.now.list)
