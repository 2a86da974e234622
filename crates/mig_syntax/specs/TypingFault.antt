-- The typing rules of a whole job, and what a check of rules answers.
use Rattle.std.specs.Prelude.{◌≡◌, ◌⊎◌, Result, Ok, Err}
use Rattle.mig_schema.specs.declared.faults.Side.TheVariants.{Old, New}
use Rattle.mig_schema.specs.declared.faults.TypeFault.{TypeFault}
use Rattle.mig_schema.specs.declared.faults.TypeFault.TheVariants.{Memory}
use Rattle.mig_schema.specs.declared.jobs.Job.{Job}
use Rattle.mig_schema.specs.Typed.{IsTypedSchema, IsTypedProgram}
use Rattle.mig_typing.specs.First.{IsFirstBroken}
use Rattle.mig_typing.specs.Broken.{numbers, schema_breaks, program_breaks, hints_break}

-- The first typing rule that a job breaks. The schemas come before the program, and the program before the hints.
pub data IsTypingFault (j : Job) (f : TypeFault) : Type 0 where
  InOld : IsFirstBroken numbers (schema_breaks j.source Old) f → IsTypingFault j f
  InNew : IsTypedSchema j.source → IsFirstBroken numbers (schema_breaks j.target New) f → IsTypingFault j f
  InProgram : IsTypedSchema j.source → IsTypedSchema j.target → IsFirstBroken numbers (program_breaks j.source j.program) f → IsTypingFault j f
  InHints : IsTypedSchema j.source → IsTypedSchema j.target → IsTypedProgram j.source j.program → IsFirstBroken numbers (hints_break j) f → IsTypingFault j f

-- What a check answers: Ok where no rule is broken, else the one first fault, or that memory ran out.
abbrev pub IsChecked : {A : Type 0} (Typed : Type 0) (IsFault : TypeFault → Type 0) → Result A TypeFault → Type 0
IsChecked Typed IsFault (Ok x) = Typed × ((g : TypeFault) → IsFault g → ⊥)
IsChecked Typed IsFault (Err e) = (e ≡ Memory) ⊎ (IsFault e × (((g : TypeFault) → IsFault g → e ≡ g) × (Typed → ⊥)))
