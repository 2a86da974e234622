-- The verdict that is answered, where one is.
use Rattle.std.proofs.Common.{◌≡◌, ◌∙◌, ℕ, ◌≤◌, length, subst, arith, Option, None}
use Rattle.std.specs.Prelude.{Result, IfOk}
use Rattle.std.proofs.lemmas.Bool.{le-ltb}
use Rattle.std.proofs.lemmas.Result.{IfOk-weaker}
use Rattle.mig_schema.specs.declared.programs.Program.{Program}
use Rattle.mig_schema.specs.declared.jobs.Job.{Job}
use Rattle.mig_typing.specs.First.{IsFirstBroken}
use Rattle.mig_certificate.specs.declared.proofs.Certificate.{Certificate}
use Rattle.mig_certificate.specs.Valid.{IsValid}
use Rattle.mig_certificate.specs.BrokenPlace.{Place, numbers, broken}
use Rattle.mig_checker.specs.declared.places.InPair.{InPair}
use Rattle.mig_checker.specs.declared.verdicts.Verdict.{Verdict}
use Rattle.mig_checker.specs.Verdict.{verdict_at, IsVerdict}
use Rattle.mig_checker.proofs.Assembled.{Functions, Unshaped, Pairs, all-clear, at-first}
use Rattle.mig_checker.proofs.OneVerdict.{one-verdict}

module _ (j : Job) (p : Program) (c : Certificate) where
  -- an answer at the first broken place is the verdict
  pub answered-at : {E : Type 0} (o : Place) (r : Result Verdict E) (v : Verdict) → IfOk r (λ w. w ≡ v) → v ≡ verdict_at j p c o → IsFirstBroken numbers (broken j p c) o → IfOk r (IsVerdict j p c)
  answered-at o r v h e f = IfOk-weaker r (λ w. w ≡ v) (IsVerdict j p c) (λ w d. at-first j p c o w f (d ∙ e)) h

  -- and no other is
  pub answered-one : {E : Type 0} (r : Result Verdict E) → IfOk r (IsVerdict j p c) → (v : Verdict) → IsVerdict j p c v → IfOk r (λ w. w ≡ v)
  answered-one r h v k = IfOk-weaker r (IsVerdict j p c) (λ w. w ≡ v) (λ w i. one-verdict j p c w v i k) h

  -- where no part is broken, and there is no pair too many, the certificate is valid
  pub nothing-broken : Functions j p c None → Unshaped j p c None → (r : Option (ℕ × InPair)) → Pairs j p c r → r ≡ None → (n m : ℕ) → n ≡ length j.program.functions → m ≡ length c.pairs → m ≤ n → IsValid j p c
  nothing-broken f u r w e n m d b l = all-clear j p c f u (subst (Pairs j p c) e w) (le-ltb (length j.program.functions) (length c.pairs) (omega arith))
