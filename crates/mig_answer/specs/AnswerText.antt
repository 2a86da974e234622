-- The text of an answer: the new program, the invariants, and what was shown of each pair of functions by which steps.
use Rattle.std.specs.Prelude.{ℕ, List, [], ◌∷◌, ◌++◌, codes, decimal}
use Rattle.std.specs.List.{flat_map, join_by}
use Rattle.mig_schema.specs.declared.faults.Side.{Side}
use Rattle.mig_schema.specs.declared.faults.Side.TheVariants.{Old, New}
use Rattle.mig_schema.specs.declared.jobs.Job.{Job}
use Rattle.mig_schema.specs.declared.programs.Program.{Program}
use Rattle.mig_schema.specs.declared.tables.ColId.{ColId}
use Rattle.mig_schema.specs.declared.tables.Schema.{Schema}
use Rattle.mig_meaning.specs.declared.relating.Invariant.{Invariant}
use Rattle.mig_meaning.specs.declared.relating.Invariant.TheVariants.{Views, Unique, Apart, Within}
use Rattle.mig_meaning.specs.declared.relating.View.{View}
use Rattle.mig_steps.specs.declared.steps.Rule.{Rule}
use Rattle.mig_steps.specs.declared.steps.Rule.TheVariants as rule
use Rattle.mig_steps.specs.declared.steps.Step.{Step}
use Rattle.mig_printing.specs.Printing.{col_text, cols_text, join_text, program_text}
use Rattle.mig_certificate.specs.declared.proofs.Certificate.{Certificate}
use Rattle.mig_certificate.specs.declared.proofs.Claim.{Claim}
use Rattle.mig_certificate.specs.declared.proofs.Claim.TheVariants.{Holds, Answers}
use Rattle.mig_certificate.specs.declared.proofs.Entry.{Entry}
use Rattle.mig_certificate.specs.declared.proofs.PairProof.{PairProof}

-- a line
unfoldable pub line : List ℕ → List ℕ
line text = text ++ codes "\n"

-- the schema of a side of a job
abbrev pub schema_of : Job → Side → Schema
schema_of j Old = j.source
schema_of j New = j.target

-- the word of a side
abbrev pub side_text : Side → List ℕ
side_text Old = codes "old"
side_text New = codes "new"

-- JOIN { T.c, U.d }
abbrev pub view_text : Schema → View → List ℕ
view_text s v = join_text s v.join ++ (codes " { " ++ (cols_text s v.outs ++ codes " }"))

-- SIDE T.c U.d
abbrev pub columns_text : Job → Side → (left right : ColId) → List ℕ
columns_text j side left right = side_text side ++ (codes " " ++ (col_text (schema_of j side) left ++ (codes " " ++ col_text (schema_of j side) right)))

-- what an invariant says, without the end of its line
abbrev pub fact_text : Job → Invariant → List ℕ
fact_text j (Views source target) = codes "view " ++ (view_text j.source source ++ (codes " is " ++ view_text j.target target))
fact_text j (Unique side column) = codes "unique " ++ (side_text side ++ (codes " " ++ col_text (schema_of j side) column))
fact_text j (Apart side left right) = codes "apart " ++ columns_text j side left right
fact_text j (Within side left right) = codes "within " ++ columns_text j side left right

-- the line of an invariant
abbrev pub invariant_text : Job → Invariant → List ℕ
invariant_text j i = fact_text j i ++ codes ";\n"

-- the name of a rule
abbrev pub rule_text : Rule → List ℕ
rule_text rule.Stage = codes "stage"
rule_text rule.StageIn = codes "stagein"
rule_text rule.Dead = codes "dead"
rule_text rule.Same = codes "same"
rule_text rule.Implied = codes "implied"
rule_text rule.Lift = codes "lift"
rule_text rule.Split = codes "split"
rule_text rule.Found = codes "found"
rule_text rule.Alone = codes "alone"
rule_text rule.Inside = codes "inside"
rule_text rule.Never = codes "never"
rule_text rule.Merge = codes "merge"
rule_text rule.Apart = codes "apart"
rule_text rule.Lossless = codes "lossless"
rule_text rule.Fold = codes "fold"
rule_text rule.FoldIn = codes "foldin"
rule_text rule.Rejoin = codes "rejoin"

-- numbers with dots between them; a minus sign where there is none
abbrev pub path_text : List ℕ → List ℕ
path_text [] = codes "-"
path_text (n ∷ ns) = join_by decimal (codes ".") (n ∷ ns)

-- the term and the path of a step, each behind a space
abbrev pub place_text : Step → List ℕ
place_text s = codes " " ++ (decimal s.term ++ (codes " " ++ path_text s.path))

-- the line of a step: its rule, its place, and each argument behind a space
abbrev pub step_text : Step → List ℕ
step_text s = rule_text s.rule ++ (place_text s ++ (flat_map (λ n. codes " " ++ decimal n) s.args ++ codes "\n"))

-- the line of a claim
abbrev pub claim_text : Claim → List ℕ
claim_text (Holds k) = codes "holds " ++ (decimal k ++ codes "\n")
claim_text Answers = line (codes "answers")

-- a claim, and the steps of both sides
abbrev pub entry_text : Entry → List ℕ
entry_text e = claim_text e.claim ++ (line (codes "old") ++ (flat_map step_text e.source ++ (line (codes "new") ++ flat_map step_text e.target)))

-- what is shown of a pair of functions
abbrev pub pair_text : PairProof → List ℕ
pair_text p = codes "pair " ++ (p.name ++ (codes "\n" ++ flat_map entry_text p.entries))

-- a part of an answer, behind a line that names it
unfoldable pub part : (name lines : List ℕ) → List ℕ
part name lines = line name ++ lines

-- an answer: the program stands over the new schema
abbrev pub answer_text : Job → Program → Certificate → List ℕ
answer_text j p c =
    line (codes "answer 1")
    ++ (part (codes "program") (program_text j.target p)
    ++ (part (codes "invariants") (flat_map (invariant_text j) c.invariants.list)
    ++ (part (codes "certificate") (flat_map pair_text c.pairs)
    ++ line (codes "end"))))
