-- What a ranker keeps: the clauses of its job and of what it gave.
use Rattle.std.specs.Prelude.{◌≡◌, length, map}
use Rattle.mig_listing.specs.Fronts.{IsFront}
use Rattle.mig_maxsat.specs.Heaviest.{IsSound}
use Rattle.mig_corresp.specs.declared.ranker.Ranker.TheInside.{Inside}
use Rattle.mig_corresp.specs.Ranked.{Ranked}
use Rattle.mig_corresp.specs.Pairs.{pairs}
use Rattle.mig_corresp.specs.Weights.{pair_weight}
use Rattle.mig_corresp.specs.Correspondences.{IsCorr, RanksBefore}
use Rattle.mig_corresp.specs.Coding.{clauses_without}

-- a ranker as its contracts see it
abbrev pub ranked_of : Inside → Ranked
ranked_of a = record { job = a.job; given = a.given.items }

-- the clauses are those of the job without what was given, which is a front of all correspondences
pub record IsRanking (a : Inside) : Type 0 where
  pub listed : a.pairs ≡ pairs a.job
  pub vars : a.problem.hard.vars ≡ length (pairs a.job)
  pub clauses : a.problem.hard.clauses ≡ clauses_without a.job a.given.items
  pub weights : a.problem.weights ≡ map (pair_weight a.job) (pairs a.job)
  pub sound : IsSound a.problem
  pub front : IsFront (IsCorr a.job) (RanksBefore a.job) a.given.items
