use Rattle.std.proofs.Common.{List, ℕ, sym, subst}
use Rattle.mig_syntax.specs.Program.{IsTypedProgramText}
use Rattle.mig_syntax.proofs.PrintedBack.{printed_typed}
use Rattle.mig_syntax.proofs.WithinTexts.{program_text}
use Rattle.mig_syntax.proofs.programs.read_program.Goals as goal

pub returns-clause-printed : goal.returns-clause-printed
returns-clause-printed c p h is = c.answer_of.ensures.only p (subst (λ (bytes : List ℕ). IsTypedProgramText c.args.schema.now bytes p) (sym is) (printed_typed c.args.schema.now p h))

pub returns-clause-within : goal.returns-clause-within
returns-clause-within c = program_text c.args.schema.now c.args.bytes.now
