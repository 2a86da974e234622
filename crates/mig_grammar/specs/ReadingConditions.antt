-- Reading of values, conditions and joins.
use Rattle.std.specs.Prelude.{ℕ, List, [], length, codes, Option, None}
use Rattle.mig_tokens.specs.declared.token.Token.{Token}
use Rattle.mig_schema.specs.declared.limits.Limit.{Limit}
use Rattle.mig_schema.specs.declared.limits.Limit.TheVariants as limit
use Rattle.mig_tokens.specs.Reading.{Read, Took, ◌>>=◌, give, choice_at, many_at, led_at}
use Rattle.mig_tokens.specs.Forms.{Before, no_room}
use Rattle.mig_tokens.specs.Limits.{over, full}
use Rattle.mig_tokens.specs.Pieces.{begins_word, begins_sign, word_at, sign_at, name_at, next}
use Rattle.mig_grammar.specs.declared.tree.ScalarTree.{ScalarTree}
use Rattle.mig_grammar.specs.declared.tree.ScalarTree.TheVariants as scalar
use Rattle.mig_grammar.specs.declared.tree.ValueTree.{ValueTree}
use Rattle.mig_grammar.specs.declared.tree.ValueTree.TheVariants as value
use Rattle.mig_grammar.specs.declared.tree.ItemTree.{ItemTree}
use Rattle.mig_grammar.specs.declared.tree.ItemTree.TheVariants as item
use Rattle.mig_grammar.specs.declared.tree.CmpTree.{CmpTree}
use Rattle.mig_grammar.specs.declared.tree.JoinedTree.{JoinedTree}
use Rattle.mig_grammar.specs.declared.tree.JoinTree.{JoinTree}
use Rattle.mig_grammar.specs.declared.tree.RowsTree.{RowsTree}
use Rattle.mig_grammar.specs.Spelling.{one_each}
use Rattle.mig_grammar.specs.ReadingTokens.{scalar_at, op_at, label_at}
use Rattle.mig_grammar.specs.ReadingSchemas.{col_at}

-- ---- scalars and conditions

-- a fresh key
unfoldable pub fresh_at : List Token → Read ValueTree
fresh_at ts = do
  w ← word_at (codes "fresh") None ts
  n ← label_at w.1
  Took (value.Fresh n.0) n.1

-- a scalar as a value
unfoldable pub scalar_value_at : List Token → Read ValueTree
scalar_value_at ts = do
  x ← scalar_at None ts
  Took (value.Scalar x.0) x.1

-- value
abbrev pub value_at : List Token → Read ValueTree
value_at = choice_at (begins_word (codes "fresh")) fresh_at scalar_value_at

-- what stands behind the first name of a column
unfoldable pub col_behind_at : List ℕ → List Token → Read ItemTree
col_behind_at n ts = do
  s ← sign_at (codes ".") ts
  c ← name_at None s.1
  Took (item.Col (record { table = n; column = c.0 })) c.1

-- what stands behind the first token of an item
abbrev pub item_behind_at : ScalarTree → List Token → Read ItemTree
item_behind_at (scalar.Name n) = choice_at (begins_sign (codes ".")) (col_behind_at n) (give (item.Scalar (scalar.Name n)))
item_behind_at (scalar.Int v) = give (item.Scalar (scalar.Int v))
item_behind_at (scalar.Text v) = give (item.Scalar (scalar.Text v))

-- item
unfoldable pub item_at : Option Limit → List Token → Read ItemTree
item_at mark ts = do
  x ← scalar_at mark ts
  item_behind_at x.0 x.1

-- item op item
unfoldable pub cmp_at : Before → List Token → Read CmpTree
cmp_at s ts = do
  a ← item_at (full limit.Comparisons s.1) ts
  o ← op_at a.1
  b ← item_at None o.1
  Took (record { left = a.0; op = o.0; right = b.0 }) b.1

-- the same behind "and"
unfoldable pub and_at : Before → List Token → Read CmpTree
and_at s ts = do
  w ← word_at (codes "and") None ts
  cmp_at s w.1

-- case
unfoldable pub case_at : Before → List Token → Read (List CmpTree)
case_at s ts = led_at cmp_at (begins_word (codes "and")) and_at (next one_each) (0, s.1) ts

-- a case behind "or"
unfoldable pub or_at : Before → List Token → Read (List CmpTree)
or_at s ts = do
  w ← word_at (codes "or") (over limit.Cases 16 s.0) ts
  case_at s w.1

-- where
unfoldable pub cases_at : List Token → Read (List (List CmpTree))
cases_at ts = do
  w ← word_at (codes "where") None ts
  led_at case_at (begins_word (codes "or")) or_at (next length) (0, 16) w.1

-- [ where ]
abbrev pub where_at : List Token → Read (List (List CmpTree))
where_at = choice_at (begins_word (codes "where")) cases_at (give [])

-- ---- joins

-- a further table
unfoldable pub joined_at : Before → List Token → Read JoinedTree
joined_at s ts = do
  w ← word_at (codes "join") (over limit.Joined 4 s.0) ts
  n ← name_at None w.1
  o ← word_at (codes "on") None n.1
  a ← col_at None o.1
  e ← sign_at (codes "=") a.1
  b ← col_at None e.1
  Took (record { table = n.0; left = a.0; right = b.0 }) b.1

-- join
unfoldable pub join_at : List Token → Read JoinTree
join_at ts = do
  n ← name_at None ts
  m ← many_at (begins_word (codes "join")) joined_at (next no_room) (1, 0) n.1
  Took (record { first = n.0; more = m.0 }) m.1

-- join [ where ] ";"
unfoldable pub rows_at : List Token → Read RowsTree
rows_at ts = do
  j ← join_at ts
  c ← where_at j.1
  e ← sign_at (codes ";") c.1
  Took (record { join = j.0; cases = c.0 }) e.1
