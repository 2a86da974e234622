-- Which program and which certificate the bytes of an answer are, over a job.
use Rattle.std.specs.Prelude.{◌≡◌, ℕ, ◌+◌, Bool, true, ◌&&◌, ◌==◌, if◌then◌else◌, List, [], ◌∷◌, ◌++◌, codes, take, drop}
use Rattle.mig_schema.specs.declared.jobs.Job.{Job}
use Rattle.mig_schema.specs.declared.programs.Program.{Program}
use Rattle.mig_printing.specs.Printing.{program_text}
use Rattle.mig_syntax.specs.Program.{IsTypedProgramText}
use Rattle.mig_certificate.specs.declared.proofs.Certificate.{Certificate}
use Rattle.mig_reading.specs.declared.tree.CertificateTree.{CertificateTree}
use Rattle.mig_reading.specs.Named.{certificate_of}
use Rattle.mig_reading.specs.Texts.{IsCertificateText}

-- the two lines with which an answer begins
abbrev pub opening : List ℕ
opening = codes "answer 1\nprogram\n"

-- how many bytes stand before the first line that begins with an i; a line begins here, or doesn't
abbrev pub program_len : Bool → List ℕ → ℕ
program_len begins [] = 0
program_len begins (b ∷ bs) = if begins && (b == 105) then 0 else program_len (b == 10) bs + 1

-- The lines of the program. None of a program begins with an i, and the line behind them is `invariants`.
abbrev pub program_lines : List ℕ → List ℕ
program_lines bytes = take (program_len true bytes) bytes

-- the lines behind those of the program
abbrev pub certificate_lines : List ℕ → List ℕ
certificate_lines bytes = drop (program_len true bytes) bytes

-- the lines from `invariants` on are this certificate, whose names stand over the schemas of the job
pub record IsNumbered (j : Job) (lines : List ℕ) (c : Certificate) : Type 0 where
  pub tree : CertificateTree
  pub text : IsCertificateText lines tree
  pub named : certificate_of j tree ≡ c

-- The lines behind the opening are this program, typed over the new schema and in its one spelling, and this certificate.
pub record AreLines (j : Job) (lines : List ℕ) (p : Program) (c : Certificate) : Type 0 where
  pub spelling : program_lines lines ≡ program_text j.target p
  pub program : IsTypedProgramText j.target (program_lines lines) p
  pub certificate : IsNumbered j (certificate_lines lines) c

-- the bytes of an answer are this program and this certificate
pub record IsAnswer (j : Job) (bytes : List ℕ) (p : Program) (c : Certificate) : Type 0 where
  pub lines : List ℕ
  pub is : bytes ≡ opening ++ lines
  pub parts : AreLines j lines p c
