-- Reading of single tokens. This and the other files of reading are a private middle between the code and the spelling, which alone says what a job is.
use Rattle.std.specs.Prelude.{ℕ, Bool, true, cond, List, codes, Option, Some, None}
use Rattle.std.specs.Str.{bytes_eq}
use Rattle.mig_schema.specs.declared.tables.Kind.{Kind}
use Rattle.mig_schema.specs.declared.tables.Kind.TheVariants as kind
use Rattle.mig_schema.specs.declared.programs.Op.{Op}
use Rattle.mig_schema.specs.declared.programs.Op.TheVariants as op
use Rattle.mig_tokens.specs.declared.token.Token.{Token}
use Rattle.mig_tokens.specs.declared.token.Token.TheVariants.{Word, Int, Text, Sign}
use Rattle.mig_schema.specs.declared.limits.Limit.{Limit}
use Rattle.mig_tokens.specs.Reading.{Read, token_at}
use Rattle.mig_tokens.specs.Words.{is_reserved}
use Rattle.mig_tokens.specs.Limits.{first_of}
use Rattle.mig_tokens.specs.Pieces.{reads_int, begins_word}
use Rattle.mig_grammar.specs.declared.tree.ScalarTree.{ScalarTree}
use Rattle.mig_grammar.specs.declared.tree.ScalarTree.TheVariants as scalar
use Rattle.mig_grammar.specs.declared.functions.Head.{Head}
use Rattle.mig_grammar.specs.declared.functions.Head.TheVariants as head
use Rattle.mig_grammar.specs.Spelling.{scalar_mark, label_mark, weight_mark, kind_mark}

-- a scalar
abbrev pub reads_scalar : Token → Option ScalarTree
reads_scalar (Word v) = cond (is_reserved v) None (Some (scalar.Name v))
reads_scalar (Int v) = Some (scalar.Int v)
reads_scalar (Text v) = Some (scalar.Text v)
reads_scalar _ = None

-- the operator of this sign
abbrev pub op_of : List ℕ → Option Op
op_of v =
    cond (bytes_eq v (codes "=")) (Some op.Eq) (cond (bytes_eq v (codes "<>")) (Some op.Ne) (cond (bytes_eq v (codes "<")) (Some op.Lt)
    (cond (bytes_eq v (codes "<=")) (Some op.Le) (cond (bytes_eq v (codes ">")) (Some op.Gt) (cond (bytes_eq v (codes ">=")) (Some op.Ge) None)))))

-- an operator
abbrev pub reads_op : Token → Option Op
reads_op (Sign v) = op_of v
reads_op _ = None

-- the kind of a parameter
abbrev pub param_kind_of : List ℕ → Option Kind
param_kind_of v = cond (bytes_eq v (codes "int")) (Some kind.Int) (cond (bytes_eq v (codes "text")) (Some kind.Text) None)

-- the kind of a column
abbrev pub kind_of : List ℕ → Option Kind
kind_of v = cond (bytes_eq v (codes "key")) (Some kind.Key) (param_kind_of v)

-- a word that is a column's kind
abbrev pub reads_kind : Token → Option Kind
reads_kind (Word v) = kind_of v
reads_kind _ = None

-- a word that is a parameter's kind
abbrev pub reads_param_kind : Token → Option Kind
reads_param_kind (Word v) = param_kind_of v
reads_param_kind _ = None

-- the sort of a function that begins with this word
abbrev pub head_of : List ℕ → Option Head
head_of v = cond (bytes_eq v (codes "update")) (Some head.Update) (cond (bytes_eq v (codes "query")) (Some head.Query) None)

-- a word that begins a function
abbrev pub reads_head : Token → Option Head
reads_head (Word v) = head_of v
reads_head _ = None

-- whether the token begins a function
abbrev pub begins_function : Token → Bool
begins_function t = cond (begins_word (codes "update") t) true (begins_word (codes "query") t)

-- a scalar: a count's limit comes before its own
unfoldable pub scalar_at : Option Limit → List Token → Read ScalarTree
scalar_at mark ts = token_at reads_scalar (λ x. first_of mark (scalar_mark x)) ts

-- an operator
unfoldable pub op_at : List Token → Read Op
op_at ts = token_at reads_op (λ o. None) ts

-- the label of a fresh key
unfoldable pub label_at : List Token → Read (List ℕ)
label_at ts = token_at reads_int label_mark ts

-- the weight of a hint
unfoldable pub weight_at : List Token → Read (List ℕ)
weight_at ts = token_at reads_int weight_mark ts

-- the kind of a column, with room for so many keys
unfoldable pub kind_at : ℕ → List Token → Read Kind
kind_at room ts = token_at reads_kind (kind_mark room) ts

-- the kind of a parameter
unfoldable pub param_kind_at : List Token → Read Kind
param_kind_at ts = token_at reads_param_kind (λ k. None) ts

-- the first word of a function
unfoldable pub head_at : Option Limit → List Token → Read Head
head_at mark ts = token_at reads_head (λ h. mark) ts
