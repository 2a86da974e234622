-- What is to be shown of a pair of functions, and when it is met.
use Rattle.std.specs.Prelude.{ℕ, ◌<◌, List, [], ◌∷◌, map, length}
use Rattle.mig_schema.specs.declared.faults.Side.TheVariants.{Old, New}
use Rattle.mig_schema.specs.declared.tables.Schema.{Schema}
use Rattle.mig_schema.specs.declared.programs.Body.{Body}
use Rattle.mig_schema.specs.declared.programs.Body.TheVariants as body
use Rattle.mig_schema.specs.declared.programs.Query.{Query}
use Rattle.mig_schema.specs.declared.programs.Program.{Program}
use Rattle.mig_meaning.specs.declared.relating.Invariant.{Invariant}
use Rattle.mig_meaning.specs.Lists.{Each}
use Rattle.mig_meaning.specs.Bags.{SameBag}
use Rattle.mig_meaning.specs.Run.{function_at}
use Rattle.mig_meaning.specs.Equivalent.{AnswersAlike, IsEquivalent}
use Rattle.mig_meaning.specs.Meeting.{AreTyped}
use Rattle.mig_algebra.specs.Meaning.{bag}
use Rattle.mig_algebra.specs.Obligations.{holds_terms, answer_terms}
use Rattle.mig_algebra.specs.Proper.{Sides, IsProper}
use Rattle.mig_obligations.specs.declared.proving.Obligation.{Obligation}
use Rattle.mig_obligations.specs.Settings.{Moment, setting_of, IsMoment}

-- that an invariant holds after functions of n and n' statements
abbrev pub holds_obligation : (n n' : ℕ) → Invariant → Obligation
holds_obligation n n' i = record { source = record { terms = holds_terms Old n i }; target = record { terms = holds_terms New n' i } }

-- that two queries answer alike
abbrev pub answers_obligation : Query → Query → Obligation
answers_obligation q r = record { source = record { terms = answer_terms Old q }; target = record { terms = answer_terms New r } }

-- the obligations of a pair: of two updates one for each invariant, in order, of two queries one
abbrev pub obligations : List Invariant → Body → Body → List Obligation
obligations invs (body.Update a) (body.Update b) = map (holds_obligation (length a) (length b)) invs
obligations invs (body.Query q) (body.Query r) = answers_obligation q r ∷ []
obligations invs _ _ = []

-- both expressions are proper
pub record AreProper (p : Sides) (o : Obligation) : Type 0 where
  pub source : IsProper p o.source
  pub target : IsProper p o.target

-- both expressions have equal bags wherever the facts hold
pub record IsMet (p : Sides) (invs : List Invariant) (o : Obligation) : Type 0 where
  pub by : (m : Moment) → IsMoment p invs m → SameBag (bag (setting_of p m) o.source) (bag (setting_of p m) o.target)

-- the functions of one number of two programs
abbrev pub pair_at : Schema → Schema → Program → Program → ℕ → Sides
pair_at schema schema' p p' n = record { source = schema; target = schema'; source_fn = function_at p n; target_fn = function_at p' n }

-- all obligations of all pairs are met
pub record AllMet (schema schema' : Schema) (p p' : Program) (invs : List Invariant) : Type 0 where
  pub by : (n : ℕ) → n < length p.functions → Each (IsMet (pair_at schema schema' p p' n) invs) (obligations invs (function_at p n).body (function_at p' n).body)

-- typed programs all of whose obligations are met answer alike by one supply of keys
pub record MetLaw : Type 0 where
  pub by : (schema schema' : Schema) (p p' : Program) (invs : List Invariant) → AreTyped schema schema' p p' → AllMet schema schema' p p' invs → AnswersAlike schema schema' p p' invs

-- and they are equivalent
pub record MetEquivalenceLaw : Type 0 where
  pub by : (schema schema' : Schema) (p p' : Program) (invs : List Invariant) → AreTyped schema schema' p p' → AllMet schema schema' p p' invs → IsEquivalent schema schema' p p' invs
