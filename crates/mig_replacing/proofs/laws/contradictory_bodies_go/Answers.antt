use Rattle.mig_replacing.proofs.Never.{never-body, never-term}
use Rattle.mig_replacing.proofs.laws.contradictory_bodies_go.Goals as goal

pub returns : goal.returns
returns c = record { body = λ s t path place held body sound is its never. never-body s t path place held body sound is its never; term = never-term }
