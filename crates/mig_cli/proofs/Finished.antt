-- What is right and done was put whole, and is no refusal.
use Rattle.std.proofs.Common.{◌≡◌, ◌≢◌, ℕ, List, Some, inl, inr, sym, ap, ◌∙◌}
use Rattle.mig_syntax.specs.declared.fault.TextFault.{TextFault}
use Rattle.mig_syntax.specs.declared.fault.TextFault.TheVariants as fault
use Rattle.mig_messages.specs.declared.status.Status.TheVariants as status
use Rattle.mig_messages.specs.Statuses.{fault_status, number}
use Rattle.mig_messages.proofs.Numbers.{number-one}
use Rattle.mig_cli.specs.declared.planning.Plan.{Plan}
use Rattle.mig_cli.specs.World.{Holdings, World}
use Rattle.mig_cli.specs.Jobs as jobs
use Rattle.mig_cli.specs.Desk as spec

-- no fault of a text leads to what is done
pub never-done : (e : TextFault) → fault_status e ≢ status.Done
never-done fault.Memory h = cc
never-done (fault.At row column) h = cc
never-done (fault.Limit which row) h = cc
never-done (fault.Typing f) h = cc

-- the status of a plan that is another one
pub status-as : (plan planned : Plan) → plan ≡ planned → plan.status ≡ status.Done → planned.status ≡ status.Done
status-as plan planned is done = ap (λ (p : Plan). p.status) (sym is) ∙ done

-- no refusal of a job is done
pub refused-not_done : (told : Holdings) (file : List ℕ) (plan : Plan) → jobs.IsRefusedJob told file plan → plan.status ≢ status.Done
refused-not_done told file plan (jobs.long longer is) done = let odd : status.Limit ≡ status.Done = status-as plan _ is done in cc
refused-not_done told file plan (jobs.faulty bytes e gave first is) done = never-done e (status-as plan _ is done)

-- what a file gave that tells what it holds is what it holds
pub gave-held : (told : Holdings) (file : List ℕ) (most : ℕ) (bytes held : List ℕ) → told file ≡ Some held → jobs.Gave told file most bytes → bytes ≡ held
gave-held told file most bytes held is gave = gave.holds held is

-- what is right and done was put whole
pub right-put : (words : List (List ℕ)) (before after : World) (result : ℕ) → spec.Right words before after result → result ≡ number status.Done → spec.Put words before after result
right-put words before after result right zero =
    elim right [
      | inl six ↦ absurd (let odd : status.File ≡ status.Done = number-one status.File status.Done (sym six ∙ zero) in cc)
      | inr more ↦ elim more [
        | inl seven ↦ absurd (let odd : status.Sink ≡ status.Done = number-one status.Sink status.Done (sym seven ∙ zero) in cc)
        | inr most ↦ elim most [
          | inl eight ↦ absurd (let odd : status.Memory ≡ status.Done = number-one status.Memory status.Done (sym eight ∙ zero) in cc)
          | inr last ↦ elim last [
            | inl nine ↦ absurd (let odd : status.Store ≡ status.Done = number-one status.Store status.Done (sym nine ∙ zero) in cc)
            | inr put ↦ put
          ]
        ]
      ]
    ]

-- the status of what is right and done
pub put-done : (words : List (List ℕ)) (before after : World) (result : ℕ) (put : spec.Put words before after result) → result ≡ number status.Done → put.0.status ≡ status.Done
put-done words before after result put zero = number-one put.0.status status.Done (sym put.1 ∙ zero)
