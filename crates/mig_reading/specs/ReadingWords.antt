-- Reading of single pieces. This and the other files of reading are a private middle between the code and the spelling, which alone says what a certificate is.
use Rattle.std.specs.Prelude.{ℕ, Bool, true, false, ◌&&◌, nat_le, cond, List, codes, decimal, Option, Some, None}
use Rattle.std.specs.Str.{bytes_eq}
use Rattle.mig_base.specs.Digits.{digits_from}
use Rattle.mig_schema.specs.declared.faults.Side.{Side}
use Rattle.mig_schema.specs.declared.faults.Side.TheVariants.{Old, New}
use Rattle.mig_schema.specs.declared.limits.Limit.{Limit}
use Rattle.mig_tokens.specs.declared.token.Token.{Token}
use Rattle.mig_tokens.specs.declared.token.Token.TheVariants.{Word, Int}
use Rattle.mig_tokens.specs.Reading.{Read, token_at}
use Rattle.mig_steps.specs.declared.steps.Rule.{Rule}
use Rattle.mig_steps.specs.declared.steps.Rule.TheVariants as rule
use Rattle.mig_reading.specs.declared.tree.Relation.{Relation}
use Rattle.mig_reading.specs.declared.tree.Relation.TheVariants.{Apart, Within}

-- the number that digits spell, where they are its decimal digits and it is below 2^32
abbrev pub number_in : List ℕ → Option ℕ
number_in v = cond (nat_le (digits_from 0 v) 4294967295 && bytes_eq (decimal (digits_from 0 v)) v) (Some (digits_from 0 v)) None

-- a number
abbrev pub reads_number : Token → Option ℕ
reads_number (Int v) = number_in v
reads_number _ = None

-- the side of this word
abbrev pub side_of : List ℕ → Option Side
side_of v = cond (bytes_eq v (codes "old")) (Some Old) (cond (bytes_eq v (codes "new")) (Some New) None)

-- a side
abbrev pub reads_side : Token → Option Side
reads_side (Word v) = side_of v
reads_side _ = None

-- the relation of this word
abbrev pub relation_of : List ℕ → Option Relation
relation_of v = cond (bytes_eq v (codes "apart")) (Some Apart) (cond (bytes_eq v (codes "within")) (Some Within) None)

-- a relation of two columns
abbrev pub reads_relation : Token → Option Relation
reads_relation (Word v) = relation_of v
reads_relation _ = None

-- the rule of this word, one of the last nine
abbrev pub later_rule_of : List ℕ → Option Rule
later_rule_of v =
    cond (bytes_eq v (codes "alone")) (Some rule.Alone) (cond (bytes_eq v (codes "inside")) (Some rule.Inside) (cond (bytes_eq v (codes "never")) (Some rule.Never)
    (cond (bytes_eq v (codes "merge")) (Some rule.Merge) (cond (bytes_eq v (codes "apart")) (Some rule.Apart) (cond (bytes_eq v (codes "lossless")) (Some rule.Lossless)
    (cond (bytes_eq v (codes "fold")) (Some rule.Fold) (cond (bytes_eq v (codes "foldin")) (Some rule.FoldIn) (cond (bytes_eq v (codes "rejoin")) (Some rule.Rejoin) None))))))))

-- the rule of this word
abbrev pub rule_of : List ℕ → Option Rule
rule_of v =
    cond (bytes_eq v (codes "stage")) (Some rule.Stage) (cond (bytes_eq v (codes "stagein")) (Some rule.StageIn) (cond (bytes_eq v (codes "dead")) (Some rule.Dead)
    (cond (bytes_eq v (codes "same")) (Some rule.Same) (cond (bytes_eq v (codes "implied")) (Some rule.Implied) (cond (bytes_eq v (codes "lift")) (Some rule.Lift)
    (cond (bytes_eq v (codes "split")) (Some rule.Split) (cond (bytes_eq v (codes "found")) (Some rule.Found) (later_rule_of v))))))))

-- a rule
abbrev pub reads_rule : Token → Option Rule
reads_rule (Word v) = rule_of v
reads_rule _ = None

-- whether there is something
abbrev pub is_some : {A : Type 0} → Option A → Bool
is_some None = false
is_some (Some x) = true

-- whether the piece begins a step
abbrev pub begins_rule : Token → Bool
begins_rule t = is_some (reads_rule t)

-- a number, which may pass a limit
unfoldable pub number_at : Option Limit → List Token → Read ℕ
number_at mark ts = token_at reads_number (λ n. mark) ts

-- a side
unfoldable pub side_at : List Token → Read Side
side_at ts = token_at reads_side (λ s. None) ts

-- a relation of two columns, which may pass a limit
unfoldable pub relation_at : Option Limit → List Token → Read Relation
relation_at mark ts = token_at reads_relation (λ r. mark) ts

-- a rule, which may pass a limit
unfoldable pub rule_at : Option Limit → List Token → Read Rule
rule_at mark ts = token_at reads_rule (λ r. mark) ts
