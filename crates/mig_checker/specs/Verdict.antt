-- The verdict on a certificate: that it is valid, or where it is first broken and why.
use Rattle.std.specs.Prelude.{◌≡◌, ℕ, ◌+◌, length, slice_get}
use Rattle.std.specs.Option.{option_map_or}
use Rattle.mig_schema.specs.declared.programs.Function.{Function}
use Rattle.mig_schema.specs.declared.programs.Program.{Program}
use Rattle.mig_schema.specs.declared.jobs.Job.{Job}
use Rattle.mig_typing.specs.First.{IsFirstBroken}
use Rattle.mig_obligations.specs.Obligations.{obligations}
use Rattle.mig_certificate.specs.declared.proofs.Entry.{Entry}
use Rattle.mig_certificate.specs.declared.proofs.PairProof.{PairProof}
use Rattle.mig_certificate.specs.declared.proofs.Certificate.{Certificate}
use Rattle.mig_certificate.specs.Valid.{IsValid}
use Rattle.mig_certificate.specs.BrokenPlace.{Place, FunctionDiffers, InvariantUnshaped, PairMissing, EntryMissing, StepFails, EndsDiffer, EntryExtra, PairExtra, numbers, broken}
use Rattle.mig_checker.specs.declared.verdicts.Verdict.{Verdict}
use Rattle.mig_checker.specs.declared.verdicts.Verdict.TheVariants.{Accepted, Rejected}
use Rattle.mig_checker.specs.declared.verdicts.Why.TheVariants as why

-- how many steps both blocks of entry k of pair i have
abbrev pub step_count : Certificate → (i k : ℕ) → ℕ
step_count c i k = option_map_or (λ (x : PairProof). option_map_or (λ (e : Entry). length e.source + length e.target) (slice_get x.entries k) 0) (slice_get c.pairs i) 0

-- how many obligations pair i has
abbrev pub obligation_count : Job → Program → Certificate → (i : ℕ) → ℕ
obligation_count j p c i =
    option_map_or (λ (f : Function). option_map_or (λ (g : Function). length (obligations c.invariants.list f.body g.body)) (slice_get p.functions i) 0) (slice_get j.program.functions i) 0

-- the verdict at a place: the numbers of the pair, of the obligation and of the step, and why
abbrev pub verdict_at : Job → Program → Certificate → Place → Verdict
verdict_at j p c (FunctionDiffers n) = Rejected n 0 0 why.Shape
verdict_at j p c (InvariantUnshaped k) = Rejected (length j.program.functions) k 0 why.Shape
verdict_at j p c (PairMissing i) = Rejected i 0 0 why.Missing
verdict_at j p c (EntryMissing i k) = Rejected i k 0 why.Missing
verdict_at j p c (StepFails i k s) = Rejected i k s why.NoFollow
verdict_at j p c (EndsDiffer i k) = Rejected i k (step_count c i k) why.EndsDiffer
verdict_at j p c (EntryExtra i) = Rejected i (obligation_count j p c i) 0 why.Extra
verdict_at j p c PairExtra = Rejected (length j.program.functions) 0 0 why.Extra

-- A certificate that is accepted is valid. One that is rejected is broken, first of all at the place of which the verdict is.
abbrev pub IsVerdict : Job → Program → Certificate → Verdict → Type 0
IsVerdict j p c Accepted = IsValid j p c
IsVerdict j p c (Rejected pair obligation step why) = (place : Place) × (IsFirstBroken numbers (broken j p c) place × (verdict_at j p c place ≡ Rejected pair obligation step why))
