use Rattle.std.proofs.Common.{◌≡◌, rules}
use Rattle.mig_schema.specs.Typed.{IsTypedProgram}
use Rattle.mig_typing.specs.Broken.{program_breaks}
use Rattle.mig_grammar.specs.Spelling.{program_tokens}
use Rattle.mig_grammar.specs.Shapes.{AreFunctions}
use Rattle.mig_syntax.specs.Naming.{program_of}
use Rattle.mig_syntax.specs.Program.{IsProgramFault}
use Rattle.mig_syntax.proofs.Answered.{unread, took, failed}
use Rattle.mig_syntax.proofs.Checked.{checked}
use Rattle.mig_syntax.proofs.programs.answer_of.Goals as goal

pub returns-in_err-functions : goal.returns-in_err-functions
returns-in_err-functions c =
    let e = c.in_err-functions.ensures in
    unread program_tokens AreFunctions (program_of c.args.schema.now.tables) (IsTypedProgram c.args.schema.now) (IsProgramFault c.args.schema.now) c.args.bytes.now c.in_err-functions.field-0.0 c.from_residual.result
    (record { found = e.found; only = e.only; wrong = e.wrong; only_wrong = e.only_wrong; past = e.past; only_past = e.only_past })
    (search rules)

pub returns-in_err-check_program : goal.returns-in_err-check_program
returns-in_err-check_program c =
    let e = c.in_ok-functions.ensures in
    let is : c.in_ok-program.program ≡ program_of c.args.schema.now.tables c.in_ok-functions.functions = cc c.in_ok-program.ensures in
    failed program_tokens AreFunctions (program_of c.args.schema.now.tables) (IsTypedProgram c.args.schema.now) (IsProgramFault c.args.schema.now) c.args.bytes.now c.in_ok-functions.functions
    (record { found = e.found; only = e.only; wrong = e.wrong; only_wrong = e.only_wrong; past = e.past; only_past = e.only_past })
    c.in_ok-program.program is c.in_err-check_program.field-0.0 c.from_residual-in_err-check_program.result
    (checked (IsTypedProgram c.args.schema.now c.in_ok-program.program) (program_breaks c.args.schema.now c.in_ok-program.program) _ c.in_err-check_program.ensures.typed c.in_err-check_program.ensures.first)
    (search rules)

pub returns : goal.returns
returns c =
    let e = c.in_ok-functions.ensures in
    let is : c.in_ok-program.program ≡ program_of c.args.schema.now.tables c.in_ok-functions.functions = cc c.in_ok-program.ensures in
    took program_tokens AreFunctions (program_of c.args.schema.now.tables) (IsTypedProgram c.args.schema.now) (IsProgramFault c.args.schema.now) c.args.bytes.now c.in_ok-functions.functions
    (record { found = e.found; only = e.only; wrong = e.wrong; only_wrong = e.only_wrong; past = e.past; only_past = e.only_past })
    c.in_ok-program.program is tt
    (checked (IsTypedProgram c.args.schema.now c.in_ok-program.program) (program_breaks c.args.schema.now c.in_ok-program.program) _ c.in_ok-check_program.ensures.typed c.in_ok-check_program.ensures.first)
