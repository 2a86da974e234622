-- When an obligation is closed, and which candidates and queries of a program are.
use Rattle.std.specs.Prelude.{◌≡◌, ℕ, ◌<◌, Bool, MatchBool, List, length, slice_get, Some}
use Rattle.mig_schema.specs.declared.programs.Body.{Body}
use Rattle.mig_schema.specs.declared.programs.Body.TheVariants.{Update, Query}
use Rattle.mig_schema.specs.declared.programs.Function.{Function}
use Rattle.mig_schema.specs.declared.programs.Program.{Program}
use Rattle.mig_schema.specs.declared.jobs.Job.{Job}
use Rattle.mig_meaning.specs.declared.relating.Invariant.{Invariant}
use Rattle.mig_algebra.specs.Proper.{Sides}
use Rattle.mig_algebra.specs.Tidied.{tidied}
use Rattle.mig_obligations.specs.declared.proving.Obligation.{Obligation}
use Rattle.mig_obligations.specs.Obligations.{holds_obligation, answers_obligation}
use Rattle.mig_certificate.specs.Valid.{sides}
use Rattle.mig_prover.specs.declared.trails.Trail.{Trail}
use Rattle.mig_prover.specs.Simplified.{IsTrail}

-- a test answers whether something holds
abbrev pub Tells : Bool → Type 0 → Type 0
Tells b P = MatchBool b P (P → ⊥)

-- both sides are simplified under these facts, and their ends are one when tidied
pub record IsClosed (p : Sides) (facts : List Invariant) (o : Obligation) : Type 0 where
  pub source : Trail
  pub target : Trail
  pub old : IsTrail p facts o.source source
  pub new : IsTrail p facts o.target target
  pub one : tidied source.end ≡ tidied target.end

-- after two updates an invariant's obligation is closed; where there is a query, the invariant has none
abbrev pub IsClosedAfter : Sides → (facts : List Invariant) → Invariant → (old new : Body) → Type 0
IsClosedAfter p facts i (Update a) (Update b) = IsClosed p facts (holds_obligation (length a) (length b) i)
IsClosedAfter p facts i (Update a) (Query r) = Unit {0}
IsClosedAfter p facts i (Query q) (Update b) = Unit {0}
IsClosedAfter p facts i (Query q) (Query r) = Unit {0}

-- the obligation of two queries is closed
abbrev pub IsAnsweredBy : Sides → (facts : List Invariant) → (old new : Body) → Type 0
IsAnsweredBy p facts (Update a) (Update b) = Unit {0}
IsAnsweredBy p facts (Update a) (Query r) = Unit {0}
IsAnsweredBy p facts (Query q) (Update b) = Unit {0}
IsAnsweredBy p facts (Query q) (Query r) = IsClosed p facts (answers_obligation q r)

-- what holds of the functions of number n, where both programs have one
abbrev pub AtPair : Job → Program → ℕ → (Function → Function → Type 0) → Type 0
AtPair job program n P =
    (f g : Function) → slice_get job.program.functions n ≡ Some f → slice_get program.functions n ≡ Some g → P f g

-- an invariant's obligation after the functions of number n is closed under these facts
abbrev pub IsClosedAt : Job → Program → (facts : List Invariant) → Invariant → ℕ → Type 0
IsClosedAt job program facts i n = AtPair job program n (λ f g. IsClosedAfter (sides job.source job.target f g) facts i f.body g.body)

-- all obligations of the invariant are closed under these facts
abbrev pub AreClosed : Job → Program → (facts : List Invariant) → Invariant → Type 0
AreClosed job program facts i = (n : ℕ) → n < length job.program.functions → IsClosedAt job program facts i n

-- the obligation of the functions of number n, if they are queries, is closed under these facts
abbrev pub IsAnswered : Job → Program → (facts : List Invariant) → ℕ → Type 0
IsAnswered job program facts n = AtPair job program n (λ f g. IsAnsweredBy (sides job.source job.target f g) facts f.body g.body)
