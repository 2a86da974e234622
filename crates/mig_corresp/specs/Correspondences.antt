-- Correspondences of a job, and which of two comes first.
use Rattle.std.specs.Prelude.{◌≡◌, ◌≤◌, ◌<ℤ◌, Bool, true, List, map, filter}
use Rattle.std.specs.List.{count_by}
use Rattle.mig_schema.specs.declared.tables.ColId.{ColId}
use Rattle.mig_schema.specs.declared.jobs.Job.{Job}
use Rattle.mig_schema.specs.Columns.{same_col}
use Rattle.mig_listing.specs.Listing.{IsIn}
use Rattle.mig_listing.specs.Orders.{TrueFirst, Lex, FirstBy}
use Rattle.mig_invariant.specs.declared.corresp.ColPair.{ColPair}
use Rattle.mig_invariant.specs.declared.corresp.Corr.{Corr}
use Rattle.mig_invariant.specs.Columns.{all_columns}
use Rattle.mig_invariant.specs.Images.{is_pair}
use Rattle.mig_corresp.specs.Pairs.{pairs}
use Rattle.mig_corresp.specs.Used.{must_go, must_come}
use Rattle.mig_corresp.specs.Weights.{weight_of}

-- whether the correspondence has the pair
abbrev pub has : Corr → ColPair → Bool
has corr p = is_pair corr p.source p.target

-- whether the pair has this column left, and whether it has it right
abbrev pub goes_from : ColId → ColPair → Bool
goes_from c p = same_col p.source c

abbrev pub comes_to : ColId → ColPair → Bool
comes_to d p = same_col p.target d

-- some of these pairs passes the test
abbrev pub HasSome : List ColPair → (ColPair → Bool) → Type 0
HasSome ps test = (p : ColPair) × IsIn p ps × (test p ≡ true)

-- a set of pairs, in their order: each old column has at most two images, each used one that is no key has one, and each new one that is no key is one
pub record IsCorr (job : Job) (corr : Corr) : Type 0 where
  pub ordered : corr.pairs ≡ filter (has corr) (pairs job)
  pub two : (c : ColId) → IsIn c (all_columns job.source) → count_by (goes_from c) corr.pairs ≤ 2
  pub used : (c : ColId) → IsIn c (all_columns job.source) → must_go job c ≡ true → HasSome corr.pairs (goes_from c)
  pub onto : (d : ColId) → IsIn d (all_columns job.target) → must_come job d ≡ true → HasSome corr.pairs (comes_to d)

-- for each pair whether the correspondence has it
abbrev pub vector_of : Job → Corr → List Bool
vector_of job corr = map (has corr) (pairs job)

-- the heavier first, then by the vectors, true first
abbrev pub RanksBefore : Job → Corr → Corr → Type 0
RanksBefore job = FirstBy (λ (c : Corr). weight_of job c.pairs) (λ x y. y <ℤ x) (λ (a b : Corr). Lex TrueFirst (vector_of job a) (vector_of job b))
