-- Which bytes spell jobs, and which spell programs alone.
use Rattle.std.specs.Prelude.{ℕ, List}
use Rattle.mig_tokens.specs.Texts.{IsTextOf}
use Rattle.mig_grammar.specs.declared.tree.FunctionTree.{FunctionTree}
use Rattle.mig_grammar.specs.declared.tree.JobTree.{JobTree}
use Rattle.mig_grammar.specs.Spelling.{job_tokens, program_tokens}
use Rattle.mig_grammar.specs.Shapes.{IsJobTree, AreFunctions}

abbrev pub IsTreeText : List ℕ → JobTree → Type 0
IsTreeText = IsTextOf job_tokens IsJobTree

abbrev pub IsFunctionsText : List ℕ → List FunctionTree → Type 0
IsFunctionsText = IsTextOf program_tokens AreFunctions
