-- Reading of schemas.
use Rattle.std.specs.Prelude.{List, codes, Option, None}
use Rattle.mig_schema.specs.declared.tables.Column.{Column}
use Rattle.mig_schema.specs.declared.tables.Table.{Table}
use Rattle.mig_tokens.specs.declared.token.Token.{Token}
use Rattle.mig_schema.specs.declared.limits.Limit.{Limit}
use Rattle.mig_schema.specs.declared.limits.Limit.TheVariants as limit
use Rattle.mig_tokens.specs.Reading.{Read, Took, ◌>>=◌, many_at}
use Rattle.mig_tokens.specs.Forms.{Before, start, no_room}
use Rattle.mig_tokens.specs.Limits.{over}
use Rattle.mig_tokens.specs.Pieces.{begins_word, word_at, sign_at, name_at, next, listed_at}
use Rattle.mig_grammar.specs.declared.tree.ColName.{ColName}
use Rattle.mig_grammar.specs.declared.tree.LinkTree.{LinkTree}
use Rattle.mig_grammar.specs.declared.tree.SchemaTree.{SchemaTree}
use Rattle.mig_grammar.specs.Spelling.{key_of, keys_of}
use Rattle.mig_grammar.specs.ReadingTokens.{kind_at}

-- column
unfoldable pub column_at : Before → List Token → Read Column
column_at s ts = do
  n ← name_at (over limit.Columns 12 s.0) ts
  o ← sign_at (codes ":") n.1
  c ← kind_at s.1 o.1
  Took (record { name = n.0; kind = c.0 }) c.1

-- table
unfoldable pub table_at : Before → List Token → Read Table
table_at s ts = do
  w ← word_at (codes "table") (over limit.Tables 16 s.0) ts
  n ← name_at None w.1
  o ← sign_at (codes "{") n.1
  cs ← listed_at key_of column_at (0, s.1) o.1
  e ← sign_at (codes "}") cs.1
  Took (record { name = n.0; columns = cs.0 }) e.1

-- col, which may pass a limit at its first name
unfoldable pub col_at : Option Limit → List Token → Read ColName
col_at mark ts = do
  t ← name_at mark ts
  s ← sign_at (codes ".") t.1
  c ← name_at None s.1
  Took (record { table = t.0; column = c.0 }) c.1

-- link
unfoldable pub link_at : Before → List Token → Read LinkTree
link_at s ts = do
  w ← word_at (codes "link") (over limit.Links 32 s.0) ts
  a ← col_at None w.1
  o ← sign_at (codes "=") a.1
  b ← col_at None o.1
  e ← sign_at (codes ";") b.1
  Took (record { left = a.0; right = b.0 }) e.1

-- schema
unfoldable pub schema_at : List Token → Read SchemaTree
schema_at ts = do
  a ← many_at (begins_word (codes "table")) table_at (next keys_of) (0, 24) ts
  b ← many_at (begins_word (codes "link")) link_at (next no_room) start a.1
  Took (record { tables = a.0; links = b.0 }) b.1
