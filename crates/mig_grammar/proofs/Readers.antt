-- Each kind of token that only jobs have, read as a value.
use Rattle.std.proofs.Common.{◌≡◌, ℕ, true, cond, List, Option, Some, None, codes, ◌⊎◌, inl, inr, refl, sym, ap, ◌∙◌, subst}
use Rattle.std.specs.Str.{bytes_eq}
use Rattle.mig_schema.specs.declared.tables.Kind.{Kind}
use Rattle.mig_schema.specs.declared.tables.Kind.TheVariants as kind
use Rattle.mig_schema.specs.declared.programs.Op.{Op}
use Rattle.mig_schema.specs.declared.programs.Op.TheVariants as op
use Rattle.mig_tokens.specs.declared.token.Token.{Token}
use Rattle.mig_tokens.specs.declared.token.Token.TheVariants.{Word, Int, Text, Sign, Bad, End}
use Rattle.mig_tokens.specs.Words.{is_reserved}
use Rattle.mig_grammar.specs.declared.tree.ScalarTree.{ScalarTree}
use Rattle.mig_grammar.specs.declared.tree.ScalarTree.TheVariants as scalar
use Rattle.mig_grammar.specs.declared.functions.Head.{Head}
use Rattle.mig_grammar.specs.declared.functions.Head.TheVariants as head
use Rattle.mig_grammar.specs.Spelling.{kind_word, op_sign, scalar_token}
use Rattle.mig_grammar.specs.Shapes.{IsScalar, is_param_kind}
use Rattle.mig_grammar.specs.ReadingTokens.{reads_scalar, reads_op, op_of, reads_kind, reads_param_kind, reads_head, kind_of, param_kind_of, head_of}
use Rattle.mig_tokens.proofs.Steps.{Reader}
use Rattle.mig_tokens.proofs.TokenParts.{guard_not, if_word}

param_kind_is : (v : List ℕ) (k : Kind) → param_kind_of v ≡ Some k → (v ≡ kind_word k) × (is_param_kind k ≡ true)
param_kind_is v k e = by_int (if_word v (codes "int") kind.Int k (cond (bytes_eq v (codes "text")) (Some kind.Text) None) e)
  where
    by_text : ((v ≡ codes "text") × (kind.Text ≡ k)) ⊎ (None ≡ Some k) → (v ≡ kind_word k) × (is_param_kind k ≡ true)
    by_text (inl h) = (h.0 ∙ ap kind_word h.1, ap is_param_kind (sym h.1))
    by_text (inr n) = absurd cc

    by_int : ((v ≡ codes "int") × (kind.Int ≡ k)) ⊎ (cond (bytes_eq v (codes "text")) (Some kind.Text) None ≡ Some k) → (v ≡ kind_word k) × (is_param_kind k ≡ true)
    by_int (inl h) = (h.0 ∙ ap kind_word h.1, ap is_param_kind (sym h.1))
    by_int (inr r) = by_text (if_word v (codes "text") kind.Text k None r)

pub param_kind_reader : Reader reads_param_kind (λ k. Word (kind_word k)) (λ k. is_param_kind k ≡ true)
param_kind_reader = record { to = to; from = from; example = kind.Int; fits = refl }
  where
    to : (t : Token) (x : Kind) → reads_param_kind t ≡ Some x → (t ≡ Word (kind_word x)) × (is_param_kind x ≡ true)
    to (Word v) x e = let h = param_kind_is v x e in (ap Word h.0, h.1)
    to (Int v) x e = absurd cc
    to (Text v) x e = absurd cc
    to (Sign v) x e = absurd cc
    to Bad x e = absurd cc
    to End x e = absurd cc

    from : (k : Kind) → is_param_kind k ≡ true → reads_param_kind (Word (kind_word k)) ≡ Some k
    from kind.Int h = refl
    from kind.Text h = refl
    from kind.Key h = absurd cc

kind_is : (v : List ℕ) (k : Kind) → kind_of v ≡ Some k → v ≡ kind_word k
kind_is v k e = by_key (if_word v (codes "key") kind.Key k (param_kind_of v) e)
  where
    by_key : ((v ≡ codes "key") × (kind.Key ≡ k)) ⊎ (param_kind_of v ≡ Some k) → v ≡ kind_word k
    by_key (inl h) = h.0 ∙ ap kind_word h.1
    by_key (inr r) = (param_kind_is v k r).0

pub kind_reader : Reader reads_kind (λ k. Word (kind_word k)) (λ k. Unit {0})
kind_reader = record { to = to; from = from; example = kind.Int; fits = tt }
  where
    to : (t : Token) (x : Kind) → reads_kind t ≡ Some x → (t ≡ Word (kind_word x)) × Unit {0}
    to (Word v) x e = (ap Word (kind_is v x e), tt)
    to (Int v) x e = absurd cc
    to (Text v) x e = absurd cc
    to (Sign v) x e = absurd cc
    to Bad x e = absurd cc
    to End x e = absurd cc

    from : (k : Kind) → Unit {0} → reads_kind (Word (kind_word k)) ≡ Some k
    from kind.Int h = refl
    from kind.Text h = refl
    from kind.Key h = refl

-- the word that begins a function of this sort
abbrev pub head_word : Head → List ℕ
head_word head.Update = codes "update"
head_word head.Query = codes "query"

head_is : (v : List ℕ) (h : Head) → head_of v ≡ Some h → v ≡ head_word h
head_is v h e = by_update (if_word v (codes "update") head.Update h (cond (bytes_eq v (codes "query")) (Some head.Query) None) e)
  where
    by_query : ((v ≡ codes "query") × (head.Query ≡ h)) ⊎ (None ≡ Some h) → v ≡ head_word h
    by_query (inl k) = k.0 ∙ ap head_word k.1
    by_query (inr n) = absurd cc

    by_update : ((v ≡ codes "update") × (head.Update ≡ h)) ⊎ (cond (bytes_eq v (codes "query")) (Some head.Query) None ≡ Some h) → v ≡ head_word h
    by_update (inl k) = k.0 ∙ ap head_word k.1
    by_update (inr r) = by_query (if_word v (codes "query") head.Query h None r)

pub head_reader : Reader reads_head (λ h. Word (head_word h)) (λ h. Unit {0})
head_reader = record { to = to; from = from; example = head.Update; fits = tt }
  where
    to : (t : Token) (x : Head) → reads_head t ≡ Some x → (t ≡ Word (head_word x)) × Unit {0}
    to (Word v) x e = (ap Word (head_is v x e), tt)
    to (Int v) x e = absurd cc
    to (Text v) x e = absurd cc
    to (Sign v) x e = absurd cc
    to Bad x e = absurd cc
    to End x e = absurd cc

    from : (h : Head) → Unit {0} → reads_head (Word (head_word h)) ≡ Some h
    from head.Update k = refl
    from head.Query k = refl

pub scalar_reader : Reader reads_scalar scalar_token IsScalar
scalar_reader = record { to = to; from = from; example = scalar.Int (codes "1"); fits = tt }
  where
    to : (t : Token) (x : ScalarTree) → reads_scalar t ≡ Some x → (t ≡ scalar_token x) × IsScalar x
    to (Word v) x e =
        let g = guard_not (is_reserved v) (scalar.Name v) x e in
        (ap scalar_token g.1, subst IsScalar g.1 g.0)
    to (Int v) x e = let is : scalar.Int v ≡ x = cc in (ap scalar_token is, subst IsScalar is tt)
    to (Text v) x e = let is : scalar.Text v ≡ x = cc in (ap scalar_token is, subst IsScalar is tt)
    to (Sign v) x e = absurd cc
    to Bad x e = absurd cc
    to End x e = absurd cc

    from : (x : ScalarTree) → IsScalar x → reads_scalar (scalar_token x) ≡ Some x
    from (scalar.Name v) h = ap (λ b. cond b None (Some (scalar.Name v))) h
    from (scalar.Int v) h = refl
    from (scalar.Text v) h = refl

op_is : (v : List ℕ) (o : Op) → op_of v ≡ Some o → v ≡ op_sign o
op_is v o e =
    pick (codes "=") op.Eq _ (λ r. pick (codes "<>") op.Ne _ (λ r. pick (codes "<") op.Lt _ (λ r. pick (codes "<=") op.Le _ (λ r. pick (codes ">") op.Gt _ (λ r. pick (codes ">=") op.Ge _ none refl r) refl r) refl r) refl r) refl r) refl e
  where
    none : None ≡ Some o → v ≡ op_sign o
    none f = absurd cc

    pick : (w : List ℕ) (p : Op) (other : Option Op) → (other ≡ Some o → v ≡ op_sign o) → w ≡ op_sign p → cond (bytes_eq v w) (Some p) other ≡ Some o → v ≡ op_sign o
    pick w p other more is f = by_test (if_word v w p o other f)
      where
        by_test : ((v ≡ w) × (p ≡ o)) ⊎ (other ≡ Some o) → v ≡ op_sign o
        by_test (inl h) = h.0 ∙ is ∙ ap op_sign h.1
        by_test (inr r) = more r

pub op_reader : Reader reads_op (λ o. Sign (op_sign o)) (λ o. Unit {0})
op_reader = record { to = to; from = from; example = op.Eq; fits = tt }
  where
    to : (t : Token) (x : Op) → reads_op t ≡ Some x → (t ≡ Sign (op_sign x)) × Unit {0}
    to (Sign v) x e = (ap Sign (op_is v x e), tt)
    to (Word v) x e = absurd cc
    to (Int v) x e = absurd cc
    to (Text v) x e = absurd cc
    to Bad x e = absurd cc
    to End x e = absurd cc

    from : (o : Op) → Unit {0} → reads_op (Sign (op_sign o)) ≡ Some o
    from op.Eq h = refl
    from op.Ne h = refl
    from op.Lt h = refl
    from op.Le h = refl
    from op.Gt h = refl
    from op.Ge h = refl
