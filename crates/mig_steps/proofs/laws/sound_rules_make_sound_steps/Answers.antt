use Rattle.mig_steps.proofs.WaysSound.{on_term-sound, at_literal-sound, alone-sound, on_terms-sound}
use Rattle.mig_steps.proofs.laws.sound_rules_make_sound_steps.Goals as goal

pub returns : goal.returns
returns c = record { terms = on_term-sound; literals = at_literal-sound; one = alone-sound; tails = on_terms-sound }
