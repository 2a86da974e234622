-- Faults of reading and of typing, as faults of a text.
use Rattle.mig_schema.specs.declared.faults.TypeFault.{TypeFault}
use Rattle.mig_schema.specs.declared.faults.TypeFault.TheVariants as typing
use Rattle.mig_tokens.specs.declared.fault.Misread.{Misread}
use Rattle.mig_tokens.specs.declared.fault.Misread.TheVariants as misread
use Rattle.mig_syntax.specs.declared.fault.TextFault.{TextFault}
use Rattle.mig_syntax.specs.declared.fault.TextFault.TheVariants as fault

abbrev pub text_fault : Misread → TextFault
text_fault misread.Memory = fault.Memory
text_fault (misread.At line column) = fault.At line column
text_fault (misread.Limit which line) = fault.Limit which line

-- want of memory stays what it is
abbrev pub type_fault : TypeFault → TextFault
type_fault typing.Memory = fault.Memory
type_fault (typing.Schema side rule a b) = fault.Typing (typing.Schema side rule a b)
type_fault (typing.Program rule function statement) = fault.Typing (typing.Program rule function statement)
type_fault (typing.Hint rule hint) = fault.Typing (typing.Hint rule hint)
