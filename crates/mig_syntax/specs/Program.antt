-- Which programs over a schema the bytes of a text are.
use Rattle.std.specs.Prelude.{ℕ, List, Result}
use Rattle.mig_schema.specs.declared.faults.TypeFault.{TypeFault}
use Rattle.mig_schema.specs.declared.programs.Program.{Program}
use Rattle.mig_schema.specs.declared.tables.Schema.{Schema}
use Rattle.mig_schema.specs.Typed.{IsTypedProgram}
use Rattle.mig_typing.specs.First.{IsFirstBroken}
use Rattle.mig_typing.specs.Broken.{numbers, program_breaks}
use Rattle.mig_grammar.specs.Spelling.{program_tokens}
use Rattle.mig_grammar.specs.Shapes.{AreFunctions}
use Rattle.mig_syntax.specs.declared.fault.TextFault.{TextFault}
use Rattle.mig_syntax.specs.Named.{IsNamedText, IsTypedText, IsMistypedText, IsTypedAnswer}
use Rattle.mig_syntax.specs.Naming.{program_of}

-- this is the first typing rule that the program breaks over the schema
abbrev pub IsProgramFault : Schema → Program → TypeFault → Type 0
IsProgramFault s p f = IsFirstBroken numbers (program_breaks s p) f

-- the bytes spell the names and numbers of this program over the schema, within the limits of the grammar
abbrev pub IsProgramText : Schema → List ℕ → Program → Type 0
IsProgramText s = IsNamedText program_tokens AreFunctions (program_of s.tables)

-- the bytes spell this program, which is typed
abbrev pub IsTypedProgramText : Schema → List ℕ → Program → Type 0
IsTypedProgramText s = IsTypedText program_tokens AreFunctions (program_of s.tables) (IsTypedProgram s)

-- the bytes spell a program whose first broken typing rule is this one
abbrev pub IsMistypedProgramText : Schema → List ℕ → TypeFault → Type 0
IsMistypedProgramText s = IsMistypedText program_tokens AreFunctions (program_of s.tables) (IsProgramFault s)

-- what is answered for the bytes
abbrev pub IsProgramAnswer : Schema → List ℕ → Result Program TextFault → Type 0
IsProgramAnswer s = IsTypedAnswer program_tokens AreFunctions (program_of s.tables) (IsTypedProgram s) (IsProgramFault s)
