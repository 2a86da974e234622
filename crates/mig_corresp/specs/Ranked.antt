-- What a ranker is for those who ask it: a job, and the correspondences given so far.
use Rattle.std.specs.Prelude.{List}
use Rattle.mig_schema.specs.declared.jobs.Job.{Job}
use Rattle.mig_invariant.specs.declared.corresp.Corr.{Corr}

pub record Ranked : Type 0 where
  pub job : Job
  pub given : List Corr
