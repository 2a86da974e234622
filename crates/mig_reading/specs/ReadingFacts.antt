-- Reading of invariants.
use Rattle.std.specs.Prelude.{Bool, true, cond, List, codes, None}
use Rattle.mig_schema.specs.declared.limits.Limit.TheVariants as limit
use Rattle.mig_tokens.specs.declared.token.Token.{Token}
use Rattle.mig_tokens.specs.Reading.{Read, Took, ◌>>=◌, choice_at, many_at, led_at}
use Rattle.mig_tokens.specs.Forms.{Before, start, no_room}
use Rattle.mig_tokens.specs.Limits.{over}
use Rattle.mig_tokens.specs.Pieces.{begins_word, begins_sign, word_at, sign_at, name_at, next}
use Rattle.mig_grammar.specs.declared.tree.ColName.{ColName}
use Rattle.mig_grammar.specs.declared.tree.JoinedTree.{JoinedTree}
use Rattle.mig_grammar.specs.ReadingSchemas.{col_at}
use Rattle.mig_reading.specs.declared.tree.ViewTree.{ViewTree}
use Rattle.mig_reading.specs.declared.tree.FactTree.{FactTree}
use Rattle.mig_reading.specs.declared.tree.FactTree.TheVariants.{Views, Unique, Columns}
use Rattle.mig_reading.specs.ReadingWords.{side_at, relation_at}

-- an output
unfoldable pub out_at : Before → List Token → Read ColName
out_at s ts = col_at (over limit.Outs 256 s.0) ts

-- an output behind a comma and a space
unfoldable pub more_out_at : Before → List Token → Read ColName
more_out_at s ts = do
  c ← sign_at (codes ",") ts
  p ← sign_at (codes " ") c.1
  out_at s p.1

-- outputs
abbrev pub outs_at : List Token → Read (List ColName)
outs_at = led_at out_at (begins_sign (codes ",")) more_out_at (next no_room) start

-- a further table of a join, and the space behind it
unfoldable pub joined_at : Before → List Token → Read JoinedTree
joined_at s ts = do
  w ← word_at (codes "join") (over limit.Joined 4 s.0) ts
  p ← sign_at (codes " ") w.1
  n ← name_at None p.1
  q ← sign_at (codes " ") n.1
  o ← word_at (codes "on") None q.1
  r ← sign_at (codes " ") o.1
  a ← col_at None r.1
  u ← sign_at (codes " ") a.1
  e ← sign_at (codes "=") u.1
  v ← sign_at (codes " ") e.1
  b ← col_at None v.1
  x ← sign_at (codes " ") b.1
  Took (record { table = n.0; left = a.0; right = b.0 }) x.1

-- a view
unfoldable pub view_at : List Token → Read ViewTree
view_at ts = do
  n ← name_at None ts
  p ← sign_at (codes " ") n.1
  m ← many_at (begins_word (codes "join")) joined_at (next no_room) (1, 0) p.1
  b ← sign_at (codes "{") m.1
  q ← sign_at (codes " ") b.1
  o ← outs_at q.1
  r ← sign_at (codes " ") o.1
  e ← sign_at (codes "}") r.1
  Took (record { join = record { first = n.0; more = m.0 }; outs = o.0 }) e.1

-- two views
unfoldable pub views_at : Before → List Token → Read FactTree
views_at s ts = do
  w ← word_at (codes "view") (over limit.Invariants 4096 s.0) ts
  p ← sign_at (codes " ") w.1
  a ← view_at p.1
  q ← sign_at (codes " ") a.1
  i ← word_at (codes "is") None q.1
  r ← sign_at (codes " ") i.1
  b ← view_at r.1
  c ← sign_at (codes ";") b.1
  f ← sign_at (codes "\n") c.1
  Took (Views a.0 b.0) f.1

-- a column whose values are unique
unfoldable pub unique_at : Before → List Token → Read FactTree
unique_at s ts = do
  w ← word_at (codes "unique") (over limit.Invariants 4096 s.0) ts
  p ← sign_at (codes " ") w.1
  d ← side_at p.1
  q ← sign_at (codes " ") d.1
  a ← col_at None q.1
  c ← sign_at (codes ";") a.1
  f ← sign_at (codes "\n") c.1
  Took (Unique d.0 a.0) f.1

-- two columns that are related
unfoldable pub columns_at : Before → List Token → Read FactTree
columns_at s ts = do
  w ← relation_at (over limit.Invariants 4096 s.0) ts
  p ← sign_at (codes " ") w.1
  d ← side_at p.1
  q ← sign_at (codes " ") d.1
  a ← col_at None q.1
  r ← sign_at (codes " ") a.1
  b ← col_at None r.1
  c ← sign_at (codes ";") b.1
  f ← sign_at (codes "\n") c.1
  Took (Columns w.0 d.0 a.0 b.0) f.1

-- an invariant
abbrev pub fact_at : Before → List Token → Read FactTree
fact_at s = choice_at (begins_word (codes "view")) (views_at s) (choice_at (begins_word (codes "unique")) (unique_at s) (columns_at s))

-- whether the piece begins an invariant
abbrev pub begins_fact : Token → Bool
begins_fact t = cond (begins_word (codes "view") t) true (cond (begins_word (codes "unique") t) true (cond (begins_word (codes "apart") t) true (begins_word (codes "within") t)))

-- invariants
unfoldable pub facts_at : List Token → Read (List FactTree)
facts_at ts = many_at begins_fact fact_at (next no_room) start ts
