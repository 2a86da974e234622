use Rattle.std.proofs.Common.{◌≡◌, ◌⊎◌, inr, Result, Ok, Err, IfErr}
use Rattle.mig_words.specs.declared.command.WordFault.{WordFault}
use Rattle.mig_words.specs.declared.command.WordFault.TheVariants.{Memory}
use Rattle.mig_words.proofs.drafts.Draft.take.Goals as goal

-- a fault that is told is told so too where memory may run out
or-memory : (Told : WordFault → Type 0) (r : Result (Unit {0}) WordFault) → IfErr r Told → IfErr r (λ e. (e ≡ Memory) ⊎ Told e)
or-memory Told (Ok u) h = tt
or-memory Told (Err e) h = inr h

pub returns-in-Some-default-clause-refused : goal.returns-in-Some-default-clause-refused
returns-in-Some-default-clause-refused c = or-memory _ c.take_number.result c.take_number.ensures.refused

pub returns-in-None-Some-clause-refused : goal.returns-in-None-Some-clause-refused
returns-in-None-Some-clause-refused c = or-memory _ c.take_option.result c.take_option.ensures.refused
