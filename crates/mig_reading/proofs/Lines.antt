-- The lines of an answer, cut where its program ends.
use Rattle.std.proofs.Common.{◌≡◌, ℕ, List, true, take, drop, Result, Ok, Err, ◌⊎◌, inl, inr, sym, ap, ◌∙◌, subst}
use Rattle.mig_schema.specs.declared.jobs.Job.{Job}
use Rattle.mig_schema.specs.declared.programs.Program.{Program}
use Rattle.mig_printing.specs.Printing.{program_text}
use Rattle.mig_syntax.specs.declared.fault.TextFault.{TextFault}
use Rattle.mig_syntax.specs.declared.fault.TextFault.TheVariants as fault
use Rattle.mig_syntax.specs.Program.{IsTypedProgramText}
use Rattle.mig_certificate.specs.declared.proofs.Certificate.{Certificate}
use Rattle.mig_reading.specs.IsAnswer.{program_len, AreLines, IsNumbered}

-- what both parts are
pub record Parts (j : Job) (front back : List ℕ) (p : Program) (c : Certificate) : Type 0 where
  pub spelling : front ≡ program_text j.target p
  pub program : IsTypedProgramText j.target front p
  pub certificate : IsNumbered j back c

pub parted : (j : Job) (lines : List ℕ) (n : ℕ) (front back : List ℕ) (p : Program) (c : Certificate) → front ≡ take n lines → back ≡ drop n lines → n ≡ program_len true lines → AreLines j lines p c → Parts j front back p c
parted j lines n front back p c f b l h =
    let front-is = f ∙ ap (λ k. take k lines) l in
    let back-is = b ∙ ap (λ k. drop k lines) l in
    record {
      spelling = front-is ∙ h.spelling;
      program = subst (λ (xs : List ℕ). IsTypedProgramText j.target xs p) (sym front-is) h.program;
      certificate = subst (λ (xs : List ℕ). IsNumbered j xs c) (sym back-is) h.certificate;
    }

abbrev Is : {A : Type 0} → (x y : Result A TextFault) → Type 0
Is x y = x ≡ y

-- what is answered is the one that there is
pub is_one : {A : Type 0} (x y : A) → Is (Ok x) (Ok y) ⊎ Is (Ok x) (Err fault.Memory) → x ≡ y
is_one x y (inl e) = cc
is_one x y (inr e) = absurd cc

-- what is refused in place of one is want of memory
pub is_memory : {A : Type 0} (e : TextFault) (y : A) → Is (Err e) (Ok y) ⊎ Is {A = A} (Err e) (Err fault.Memory) → e ≡ fault.Memory
is_memory e y (inl f) = absurd cc
is_memory e y (inr f) = cc
