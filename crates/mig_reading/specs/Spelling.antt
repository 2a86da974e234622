-- The grammar of certificates. Each function spells one of its lines in pieces, and gives each piece the limit that it passes.
use Rattle.std.specs.Prelude.{ℕ, List, [], ◌∷◌, ◌++◌, codes, decimal, Option, None}
use Rattle.mig_schema.specs.declared.limits.Limit.{Limit}
use Rattle.mig_schema.specs.declared.limits.Limit.TheVariants as limit
use Rattle.mig_tokens.specs.declared.token.Token.TheVariants.{Word, Int, End}
use Rattle.mig_tokens.specs.Marked.{Marked}
use Rattle.mig_tokens.specs.Limits.{over}
use Rattle.mig_tokens.specs.Forms.{word, sign, name, Before, start, no_room, numbered, led}
use Rattle.mig_grammar.specs.declared.tree.ColName.{ColName}
use Rattle.mig_grammar.specs.declared.tree.JoinedTree.{JoinedTree}
use Rattle.mig_grammar.specs.Spelling.{col_marked, col_tokens}
use Rattle.mig_steps.specs.declared.steps.Step.{Step}
use Rattle.mig_answer.specs.AnswerText.{side_text, rule_text}
use Rattle.mig_certificate.specs.declared.proofs.Claim.{Claim}
use Rattle.mig_certificate.specs.declared.proofs.Claim.TheVariants.{Holds, Answers}
use Rattle.mig_certificate.specs.declared.proofs.Entry.{Entry}
use Rattle.mig_certificate.specs.declared.proofs.PairProof.{PairProof}
use Rattle.mig_reading.specs.declared.tree.ViewTree.{ViewTree}
use Rattle.mig_reading.specs.declared.tree.Relation.{Relation}
use Rattle.mig_reading.specs.declared.tree.Relation.TheVariants.{Apart, Within}
use Rattle.mig_reading.specs.declared.tree.FactTree.{FactTree}
use Rattle.mig_reading.specs.declared.tree.FactTree.TheVariants.{Views, Unique, Columns}
use Rattle.mig_reading.specs.declared.tree.CertificateTree.{CertificateTree}

-- ---- layout and numbers

abbrev pub space : Marked
space = sign (codes " ")

-- the end of a line
abbrev pub feed : Marked
feed = sign (codes "\n")

-- a number, which may pass a limit
abbrev pub number_marked : Option Limit → ℕ → Marked
number_marked mark n = (Int (decimal n), mark)

-- ---- invariants

-- an output of a view
abbrev pub out_tokens : Before → ColName → List Marked
out_tokens s c = col_marked (over limit.Outs 256 s.0) c

-- an output behind a comma and a space
abbrev pub more_out_tokens : Before → ColName → List Marked
more_out_tokens s c = sign (codes ",") ∷ space ∷ out_tokens s c

-- the outputs of a view
abbrev pub outs_tokens : List ColName → List Marked
outs_tokens cs = led no_room out_tokens more_out_tokens start cs

-- a further table of a join, and the space behind it
abbrev pub joined_tokens : Before → JoinedTree → List Marked
joined_tokens s j =
    (Word (codes "join"), over limit.Joined 4 s.0) ∷ space ∷ name j.table ∷ space ∷ word (codes "on") ∷ space
    ∷ (col_tokens j.left ++ space ∷ sign (codes "=") ∷ space ∷ (col_tokens j.right ++ space ∷ []))

-- JOIN { T.c, U.d }
abbrev pub view_tokens : ViewTree → List Marked
view_tokens v = name v.join.first ∷ space ∷ (numbered no_room joined_tokens (1, 0) v.join.more ++ sign (codes "{") ∷ space ∷ (outs_tokens v.outs ++ space ∷ sign (codes "}") ∷ []))

-- the word of a relation of two columns
abbrev pub relation_text : Relation → List ℕ
relation_text Apart = codes "apart"
relation_text Within = codes "within"

-- view JOIN { T.c, U.d } is JOIN { V.e, W.f };
-- unique SIDE T.c;
-- apart SIDE T.c U.d; and within SIDE T.c U.d;
abbrev pub fact_tokens : Before → FactTree → List Marked
fact_tokens s (Views source target) = (Word (codes "view"), over limit.Invariants 4096 s.0) ∷ space ∷ (view_tokens source ++ space ∷ word (codes "is") ∷ space ∷ (view_tokens target ++ sign (codes ";") ∷ feed ∷ []))
fact_tokens s (Unique side column) = (Word (codes "unique"), over limit.Invariants 4096 s.0) ∷ space ∷ word (side_text side) ∷ space ∷ (col_tokens column ++ sign (codes ";") ∷ feed ∷ [])
fact_tokens s (Columns relation side left right) =
    (Word (relation_text relation), over limit.Invariants 4096 s.0) ∷ space ∷ word (side_text side) ∷ space ∷ (col_tokens left ++ space ∷ (col_tokens right ++ sign (codes ";") ∷ feed ∷ []))

-- ---- steps

-- a number of a path
abbrev pub part_tokens : Before → ℕ → List Marked
part_tokens s n = number_marked (over limit.Path 16 s.0) n ∷ []

-- a number of a path behind a dot
abbrev pub more_part_tokens : Before → ℕ → List Marked
more_part_tokens s n = sign (codes ".") ∷ part_tokens s n

-- numbers with dots between them; a minus sign where there is none
abbrev pub path_tokens : List ℕ → List Marked
path_tokens [] = sign (codes "-") ∷ []
path_tokens (n ∷ ns) = led no_room part_tokens more_part_tokens start (n ∷ ns)

-- an argument behind a space
abbrev pub arg_tokens : Before → ℕ → List Marked
arg_tokens s n = space ∷ number_marked (over limit.Args 16 s.0) n ∷ []

-- the line of a step: its rule, its term, its path and its arguments
abbrev pub step_tokens : Before → Step → List Marked
step_tokens s x =
    (Word (rule_text x.rule), over limit.Steps 4000 s.0) ∷ space ∷ number_marked None x.term ∷ space
    ∷ (path_tokens x.path ++ (numbered no_room arg_tokens start x.args ++ feed ∷ []))

-- ---- pairs

-- what an entry shows
abbrev pub claim_tokens : Claim → List Marked
claim_tokens (Holds k) = word (codes "holds") ∷ space ∷ number_marked None k ∷ []
claim_tokens Answers = word (codes "answers") ∷ []

-- a claim, and the steps of both sides
abbrev pub entry_tokens : Before → Entry → List Marked
entry_tokens s e =
    claim_tokens e.claim ++ feed ∷ word (codes "old") ∷ feed ∷ (numbered no_room step_tokens start e.source ++ word (codes "new") ∷ feed ∷ numbered no_room step_tokens start e.target)

-- what is shown of two functions
abbrev pub pair_tokens : Before → PairProof → List Marked
pair_tokens s p = word (codes "pair") ∷ space ∷ name p.name ∷ feed ∷ numbered no_room entry_tokens start p.entries

-- ---- the whole

-- the lines from `invariants` to `end`, and the end of the text
abbrev pub certificate_tokens : CertificateTree → List Marked
certificate_tokens c =
    word (codes "invariants") ∷ feed ∷ (numbered no_room fact_tokens start c.invariants
    ++ word (codes "certificate") ∷ feed ∷ (numbered no_room pair_tokens start c.pairs
    ++ word (codes "end") ∷ feed ∷ (End, None) ∷ []))
