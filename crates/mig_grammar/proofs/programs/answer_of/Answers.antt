use Rattle.std.proofs.Common.{inl, inr}
use Rattle.mig_grammar.specs.Spelling.{program_tokens}
use Rattle.mig_grammar.specs.Shapes.{AreFunctions}
use Rattle.mig_tokens.proofs.PlacedAnswer.{memory, took, failed}
use Rattle.mig_grammar.proofs.Answered.{program_took, program_failed}
use Rattle.mig_grammar.proofs.programs.answer_of.Goals as goal

pub returns-in-Ok : goal.returns-in-Ok
returns-in-Ok c =
    took program_tokens AreFunctions c.args.bytes.now c.in_ok-found.found.items c.in_ok-found.ensures c.in-Ok.functions
    (program_took c.args.bytes.now c.in_ok-found.found.items c.in_ok-found.ensures c.in-Ok.functions c.in-Ok.field-0-1.now (rw c.as_slice-all.ensures.value at c.in-Ok.ensures))

pub returns : goal.returns
returns c =
    elim c.placed.ensures [
      | inl e ↦ rw e (memory program_tokens AreFunctions c.args.bytes.now c.in_ok-found.found.items c.in_ok-found.ensures)
      | inr e ↦ rw (e, c.as_slice-all.ensures.value) (failed program_tokens AreFunctions c.args.bytes.now c.in_ok-found.found.items c.in_ok-found.ensures c.in-Err.e
          (program_failed c.args.bytes.now c.in_ok-found.found.items c.in_ok-found.ensures c.in-Err.e (rw c.as_slice-all.ensures.value at c.in-Err.ensures)))
    ]
