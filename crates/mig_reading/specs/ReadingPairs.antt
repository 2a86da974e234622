-- Reading of steps, of what they show, and of whole certificates.
use Rattle.std.specs.Prelude.{ℕ, Bool, true, cond, List, [], codes, None}
use Rattle.mig_schema.specs.declared.limits.Limit.TheVariants as limit
use Rattle.mig_tokens.specs.declared.token.Token.{Token}
use Rattle.mig_tokens.specs.Reading.{Read, Took, ◌>>=◌, choice_at, many_at, led_at}
use Rattle.mig_tokens.specs.Forms.{Before, start, no_room}
use Rattle.mig_tokens.specs.Limits.{over}
use Rattle.mig_tokens.specs.Pieces.{begins_word, begins_sign, word_at, sign_at, name_at, end_at, next}
use Rattle.mig_steps.specs.declared.steps.Step.{Step}
use Rattle.mig_certificate.specs.declared.proofs.Claim.{Claim}
use Rattle.mig_certificate.specs.declared.proofs.Claim.TheVariants.{Holds, Answers}
use Rattle.mig_certificate.specs.declared.proofs.Entry.{Entry}
use Rattle.mig_certificate.specs.declared.proofs.PairProof.{PairProof}
use Rattle.mig_reading.specs.declared.tree.FactTree.{FactTree}
use Rattle.mig_reading.specs.declared.tree.CertificateTree.{CertificateTree}
use Rattle.mig_reading.specs.ReadingWords.{number_at, rule_at, begins_rule}
use Rattle.mig_reading.specs.ReadingFacts.{facts_at}

-- ---- steps

-- a number of a path
unfoldable pub part_at : Before → List Token → Read ℕ
part_at s ts = number_at (over limit.Path 16 s.0) ts

-- a number of a path behind a dot
unfoldable pub more_part_at : Before → List Token → Read ℕ
more_part_at s ts = do
  d ← sign_at (codes ".") ts
  part_at s d.1

-- the numbers of a path
abbrev pub parts_at : List Token → Read (List ℕ)
parts_at = led_at part_at (begins_sign (codes ".")) more_part_at (next no_room) start

-- the sign of an empty path
unfoldable pub no_parts_at : List Token → Read (List ℕ)
no_parts_at ts = do
  m ← sign_at (codes "-") ts
  Took [] m.1

-- a path
abbrev pub path_at : List Token → Read (List ℕ)
path_at = choice_at (begins_sign (codes "-")) no_parts_at parts_at

-- an argument behind a space
unfoldable pub arg_at : Before → List Token → Read ℕ
arg_at s ts = do
  p ← sign_at (codes " ") ts
  number_at (over limit.Args 16 s.0) p.1

-- a step
unfoldable pub step_at : Before → List Token → Read Step
step_at s ts = do
  r ← rule_at (over limit.Steps 4000 s.0) ts
  p ← sign_at (codes " ") r.1
  t ← number_at None p.1
  q ← sign_at (codes " ") t.1
  a ← path_at q.1
  b ← many_at (begins_sign (codes " ")) arg_at (next no_room) start a.1
  f ← sign_at (codes "\n") b.1
  Took (record { rule = r.0; term = t.0; path = a.0; args = b.0 }) f.1

-- steps
abbrev pub steps_at : List Token → Read (List Step)
steps_at = many_at begins_rule step_at (next no_room) start

-- ---- entries

-- that an invariant holds
unfoldable pub holds_at : List Token → Read Claim
holds_at ts = do
  w ← word_at (codes "holds") None ts
  p ← sign_at (codes " ") w.1
  n ← number_at None p.1
  Took (Holds n.0) n.1

-- that two queries answer alike
unfoldable pub answers_at : List Token → Read Claim
answers_at ts = do
  w ← word_at (codes "answers") None ts
  Took Answers w.1

-- a claim
abbrev pub claim_at : List Token → Read Claim
claim_at = choice_at (begins_word (codes "holds")) holds_at answers_at

-- an entry
unfoldable pub entry_at : Before → List Token → Read Entry
entry_at s ts = do
  c ← claim_at ts
  f ← sign_at (codes "\n") c.1
  o ← word_at (codes "old") None f.1
  g ← sign_at (codes "\n") o.1
  a ← steps_at g.1
  n ← word_at (codes "new") None a.1
  h ← sign_at (codes "\n") n.1
  b ← steps_at h.1
  Took (record { claim = c.0; source = a.0; target = b.0 }) b.1

-- whether the piece begins an entry
abbrev pub begins_entry : Token → Bool
begins_entry t = cond (begins_word (codes "holds") t) true (begins_word (codes "answers") t)

-- what is shown of two functions
unfoldable pub pair_at : Before → List Token → Read PairProof
pair_at s ts = do
  w ← word_at (codes "pair") None ts
  p ← sign_at (codes " ") w.1
  n ← name_at None p.1
  f ← sign_at (codes "\n") n.1
  e ← many_at begins_entry entry_at (next no_room) start f.1
  Took (record { name = n.0; entries = e.0 }) e.1

-- pairs
unfoldable pub pairs_at : List Token → Read (List PairProof)
pairs_at ts = many_at (begins_word (codes "pair")) pair_at (next no_room) start ts

-- ---- the whole

-- pairs, the last line, and the end of the text
unfoldable pub last_lines_at : List FactTree → List Token → Read CertificateTree
last_lines_at facts ts = do
  b ← pairs_at ts
  e ← word_at (codes "end") None b.1
  h ← sign_at (codes "\n") e.1
  z ← end_at h.1
  Took (record { invariants = facts; pairs = b.0 }) z.1

-- the lines behind the invariants, and the end of the text
unfoldable pub later_lines_at : List FactTree → List Token → Read CertificateTree
later_lines_at facts ts = do
  c ← word_at (codes "certificate") None ts
  g ← sign_at (codes "\n") c.1
  last_lines_at facts g.1

-- a certificate, up to the end of the text
unfoldable pub certificate_at : List Token → Read CertificateTree
certificate_at ts = do
  i ← word_at (codes "invariants") None ts
  f ← sign_at (codes "\n") i.1
  a ← facts_at f.1
  later_lines_at a.0 a.1
