use Rattle.std.proofs.Common.{Ok, Err, inl, inr, ap, ◌∙◌}
use Rattle.mig_reading.proofs.Lines.{parted, is_one, is_memory}
use Rattle.mig_reading.proofs.answers.lines_of.Goals as goal

pub returns-in-Ok-numbered_in-clause-only : goal.returns-in-Ok-numbered_in-clause-only
returns-in-Ok-numbered_in-clause-only c p c' h =
    let k = parted c.args.job.now c.args.lines.now c.program_len.result c.split_at.result.0.now c.split_at.result.1.now p c' c.split_at.ensures.front c.split_at.ensures.back c.program_len.ensures.value h in
    let program-is = is_one c.in-Ok.program p (c.in-Ok.ensures.only p k.spelling k.program) in
    let certificate-is = is_one c.in-Ok-numbered_in.certificate c' (c.in-Ok-numbered_in.ensures.only c' k.certificate) in
    inl (ap (λ x. Ok (x, c.in-Ok-numbered_in.certificate)) program-is ∙ ap (λ x. Ok (p, x)) certificate-is)

pub returns-in-Err-numbered_in-clause-only : goal.returns-in-Err-numbered_in-clause-only
returns-in-Err-numbered_in-clause-only c p c' h =
    let k = parted c.args.job.now c.args.lines.now c.program_len.result c.split_at.result.0.now c.split_at.result.1.now p c' c.split_at.ensures.front c.split_at.ensures.back c.program_len.ensures.value h in
    let e-is = is_memory c.in-Err-numbered_in.e c' (c.in-Err-numbered_in.ensures.only c' k.certificate) in
    inr (ap (λ x. Err x) e-is)
