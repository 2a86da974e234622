use Rattle.std.proofs.Common.{inr, refl, sym, ◌∙◌}
use Rattle.mig_words.specs.Drafts as spec
use Rattle.mig_words.proofs.drafts.Draft.take_file.Goals.{then-is_dashed-via-then-is_dashed, then-is_dashed-via-else-is_dashed+then-is_some}
use Rattle.mig_words.proofs.drafts.Draft.take_file.Goals as goal

pub returns-then-is_dashed-clause-refused : goal.returns-then-is_dashed-clause-refused
returns-then-is_dashed-clause-refused c =
    elim c.then-is_dashed.branch [
      | then-is_dashed-via-then-is_dashed w ↦ inr (spec.dashed c.requires.free c.requires.other (sym c.is_dashed.ensures ∙ w.if-is_dashed.true) refl)
      | then-is_dashed-via-else-is_dashed+then-is_some w ↦ inr (spec.second c.requires.free c.requires.other (sym w.is_some.ensures ∙ w.if-is_some.true) refl)
    ]
