-- Answers that are equal as bags have equal texts.
use Rattle.std.specs.Prelude.{◌≡◌, List, [], ◌∷◌}
use Rattle.mig_schema.specs.declared.programs.Program.{Program}
use Rattle.mig_meaning.specs.Bags.{SameBag}
use Rattle.mig_store.specs.Runs.{Told}
use Rattle.mig_store.specs.Writing.{answers_text}

-- answers of the same calls, each with equal bags of rows
abbrev pub SameAnswers : List Told → List Told → Type 0
SameAnswers [] [] = Unit {0}
SameAnswers (a ∷ left) (b ∷ right) = (a.call ≡ b.call) × (a.function ≡ b.function) × SameBag a.rows b.rows × SameAnswers left right
SameAnswers _ _ = ⊥

pub record TextLaw : Type 0 where
  pub by : (p : Program) (left right : List Told) → SameAnswers left right → answers_text p left ≡ answers_text p right
