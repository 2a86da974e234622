use Rattle.mig_steps.proofs.Moments.{keys-fresh, sound-at}
use Rattle.mig_steps.proofs.laws.moments_have_fresh_keys.Goals as goal

pub returns : goal.returns
returns c = record { keys = λ p invs m at. keys-fresh p invs m at; sound = λ p invs m at kinds t h. sound-at p invs m at kinds t h }
