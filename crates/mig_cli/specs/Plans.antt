-- What is to be put: a status, and the texts for `out` and for `err`.
use Rattle.std.specs.Prelude.{List, ℕ, []}
use Rattle.mig_messages.specs.declared.status.Status.{Status}
use Rattle.mig_messages.specs.declared.status.Status.TheVariants.{Done}
use Rattle.mig_cli.specs.declared.planning.Plan.{Plan}

-- this line for `err`, and nothing for `out`
abbrev pub refusal : Status → List ℕ → Plan
refusal status line = record { status = status; text = []; report = line }

-- this answer for `out`, with a report for `err`
abbrev pub answered : List ℕ → List ℕ → Plan
answered text report = record { status = Done; text = text; report = report }
