-- What a yes says: the new program does what the old one did.
use Rattle.std.specs.Prelude.{◌≡◌, true}
use Rattle.std.specs.List.{list_all}
use Rattle.mig_schema.specs.declared.programs.Program.{Program}
use Rattle.mig_schema.specs.declared.jobs.Job.{Job}
use Rattle.mig_schema.specs.Typed.{IsTypedProgram}
use Rattle.mig_meaning.specs.States.{labels_fit}
use Rattle.mig_meaning.specs.Meeting.{takes_no_keys}
use Rattle.mig_meaning.specs.Equivalent.{AnswersAlike, IsEquivalent}
use Rattle.mig_certificate.specs.declared.proofs.Certificate.{Certificate}
use Rattle.mig_checker.specs.declared.verdicts.Verdict.{Verdict}
use Rattle.mig_checker.specs.declared.verdicts.Verdict.TheVariants.{Accepted, Rejected}

-- both programs are typed, each over its schema, labels go up to 15, and no parameter is of kind key
pub record AreTypedPrograms (j : Job) (p : Program) : Type 0 where
  pub source : IsTypedProgram j.source j.program
  pub target : IsTypedProgram j.target p
  pub source_labels : list_all labels_fit j.program.functions ≡ true
  pub target_labels : list_all labels_fit p.functions ≡ true
  pub no_keys : list_all takes_no_keys j.program.functions ≡ true

-- for every list of well-formed calls each query answers alike, and each invariant holds after each call: by one supply of keys, and by any two
pub record DoesTheSame (j : Job) (p : Program) (c : Certificate) : Type 0 where
  pub alike : AnswersAlike j.source j.target j.program p c.invariants.list
  pub equivalent : IsEquivalent j.source j.target j.program p c.invariants.list

-- typed programs whose certificate is accepted do the same
abbrev pub AcceptedMeans : Job → Program → Certificate → Verdict → Type 0
AcceptedMeans j p c Accepted = AreTypedPrograms j p → DoesTheSame j p c
AcceptedMeans j p c (Rejected pair obligation step why) = Unit {0}
