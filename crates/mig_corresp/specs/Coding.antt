-- Correspondences as clauses: variable v is true where the v-th pair is taken.
use Rattle.std.specs.Prelude.{ℕ, ◌+◌, Bool, true, false, not, cond, List, [], ◌∷◌, ◌++◌, map, filter}
use Rattle.std.specs.List.{flat_map}
use Rattle.mig_schema.specs.declared.tables.ColId.{ColId}
use Rattle.mig_schema.specs.declared.jobs.Job.{Job}
use Rattle.mig_base.specs.Lists.{numbered}
use Rattle.mig_sat.specs.declared.clauses.SatLit.{SatLit}
use Rattle.mig_invariant.specs.declared.corresp.ColPair.{ColPair}
use Rattle.mig_invariant.specs.declared.corresp.Corr.{Corr}
use Rattle.mig_invariant.specs.Columns.{all_columns}
use Rattle.mig_corresp.specs.Pairs.{pairs}
use Rattle.mig_corresp.specs.Used.{must_go, must_come}
use Rattle.mig_corresp.specs.Correspondences.{goes_from, comes_to, vector_of}

abbrev pub positive : ℕ → SatLit
positive v = record { var = v; positive = true }

abbrev pub negative : ℕ → SatLit
negative v = record { var = v; positive = false }

-- the numbers of the pairs that pass the test, from n on
abbrev pub places : (ColPair → Bool) → ℕ → List ColPair → List ℕ
places test n [] = []
places test n (p ∷ ps) = cond (test p) (n ∷ places test (n + 1) ps) (places test (n + 1) ps)

-- one of these is true
abbrev pub one_of : List ℕ → List SatLit
one_of ns = map positive ns

-- of two variables and each of the others one is false
abbrev pub thirds : (a b : ℕ) → List ℕ → List (List SatLit)
thirds a b ns = map (λ n. negative a ∷ negative b ∷ negative n ∷ []) ns

-- of one variable and each two of the others one is false
abbrev pub couples : ℕ → List ℕ → List (List SatLit)
couples a [] = []
couples a (b ∷ ns) = thirds a b ns ++ couples a ns

-- of each three one is false
abbrev pub triples : List ℕ → List (List SatLit)
triples [] = []
triples (a ∷ ns) = couples a ns ++ triples ns

-- at most two pairs of these with the column left are taken
abbrev pub few_images : List ColPair → ColId → List (List SatLit)
few_images ps c = triples (places (goes_from c) 0 ps)

-- one of these with the column left is taken, and one with the column right
abbrev pub some_image : List ColPair → ColId → List SatLit
some_image ps c = one_of (places (goes_from c) 0 ps)

abbrev pub some_origin : List ColPair → ColId → List SatLit
some_origin ps d = one_of (places (comes_to d) 0 ps)

-- what a correspondence of these pairs must meet
abbrev pub clauses_over : Job → List ColPair → List (List SatLit)
clauses_over job ps = (flat_map (few_images ps) (all_columns job.source)
    ++ map (some_image ps) (filter (must_go job) (all_columns job.source)))
    ++ map (some_origin ps) (filter (must_come job) (all_columns job.target))

-- some variable has another value
abbrev pub differing : List Bool → List SatLit
differing m = numbered (λ v (b : Bool). record { var = v; positive = not b }) 0 m

-- the pairs that are taken
abbrev pub picked : List ColPair → List Bool → List ColPair
picked [] m = []
picked (p ∷ ps) [] = []
picked (p ∷ ps) (b ∷ m) = cond b (p ∷ picked ps m) (picked ps m)

-- and one clause for each correspondence that is forbidden
abbrev pub clauses_without : Job → List Corr → List (List SatLit)
clauses_without job given = clauses_over job (pairs job) ++ map (λ (c : Corr). differing (vector_of job c)) given
