-- Reading of whole texts.
use Rattle.std.specs.Prelude.{List, codes, Option, Some, None}
use Rattle.mig_tokens.specs.declared.token.Token.{Token}
use Rattle.mig_schema.specs.declared.limits.Limit.TheVariants as limit
use Rattle.mig_tokens.specs.Reading.{Read, Took, ◌>>=◌, give, choice_at, many_at}
use Rattle.mig_tokens.specs.Forms.{Before, start, no_room}
use Rattle.mig_tokens.specs.Limits.{over}
use Rattle.mig_tokens.specs.Pieces.{begins_word, word_at, sign_at, end_at, next}
use Rattle.mig_grammar.specs.declared.tree.FunctionTree.{FunctionTree}
use Rattle.mig_grammar.specs.declared.tree.HintTree.{HintTree}
use Rattle.mig_grammar.specs.declared.tree.JobTree.{JobTree}
use Rattle.mig_grammar.specs.ReadingTokens.{weight_at}
use Rattle.mig_grammar.specs.ReadingSchemas.{col_at, schema_at}
use Rattle.mig_grammar.specs.ReadingFunctions.{functions_at}

-- hint
unfoldable pub hint_at : Before → List Token → Read HintTree
hint_at s ts = do
  w ← word_at (codes "hint") (over limit.Hints 256 s.0) ts
  a ← col_at None w.1
  o ← sign_at (codes "->") a.1
  b ← col_at None o.1
  n ← weight_at b.1
  e ← sign_at (codes ";") n.1
  Took (record { source = a.0; target = b.0; weight = n.0 }) e.1

-- "hints" hint*
unfoldable pub some_hints_at : List Token → Read (Option (List HintTree))
some_hints_at ts = do
  w ← word_at (codes "hints") None ts
  hs ← many_at (begins_word (codes "hint")) hint_at (next no_room) start w.1
  Took (Some hs.0) hs.1

-- [ "hints" hint* ]
abbrev pub hints_at : List Token → Read (Option (List HintTree))
hints_at = choice_at (begins_word (codes "hints")) some_hints_at (give None)

-- job
unfoldable pub job_at : List Token → Read JobTree
job_at ts = do
  o ← word_at (codes "old") None ts
  a ← schema_at o.1
  n ← word_at (codes "new") None a.1
  b ← schema_at n.1
  p ← word_at (codes "program") None b.1
  fs ← functions_at p.1
  hs ← hints_at fs.1
  e ← end_at hs.1
  Took (record { source = a.0; target = b.0; functions = fs.0; hints = hs.0 }) e.1

-- a program alone
unfoldable pub program_at : List Token → Read (List FunctionTree)
program_at ts = do
  fs ← functions_at ts
  e ← end_at fs.1
  Took fs.0 e.1
