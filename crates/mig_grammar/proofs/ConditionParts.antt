-- The laws of comparisons and conditions.
use Rattle.std.proofs.Common.{◌≡◌, true, false, List, [], ◌∷◌, ◌++◌, length, Option, None, codes, ◌⊎◌, inl, inr, refl, sym, ap, ◌∙◌}
use Rattle.std.specs.List.{AllByRecursion}
use Rattle.std.proofs.lemmas.List.{append-nil}
use Rattle.mig_schema.specs.declared.programs.Op.{Op}
use Rattle.mig_schema.specs.declared.programs.Op.TheVariants as op
use Rattle.mig_tokens.specs.declared.token.Token.{Token}
use Rattle.mig_tokens.specs.declared.token.Token.TheVariants.{Word, Sign}
use Rattle.mig_schema.specs.declared.limits.Limit.TheVariants as limit
use Rattle.mig_tokens.specs.Marked.{Marked, bare, head, first_is}
use Rattle.mig_tokens.specs.Forms.{Before, sign, word, led, AllOfSome}
use Rattle.mig_tokens.specs.Limits.{over, full}
use Rattle.mig_tokens.specs.Pieces.{reads_word, begins_word, begins_sign, word_at}
use Rattle.mig_grammar.specs.declared.tree.ItemTree.{ItemTree}
use Rattle.mig_grammar.specs.declared.tree.CmpTree.{CmpTree}
use Rattle.mig_grammar.specs.Spelling.{op_sign, item_marked, cmp_tokens, and_tokens, one_each, case_tokens, or_tokens, where_tokens}
use Rattle.mig_grammar.specs.Shapes.{IsItem, IsCmp, IsCase}
use Rattle.mig_grammar.specs.ReadingConditions.{cmp_at, and_at, case_at, or_at, cases_at, where_at}
use Rattle.mig_grammar.specs.ReadingTokens.{reads_op, op_at}
use Rattle.mig_tokens.proofs.Steps.{Part, refit, made, valued, fixed, whole}
use Rattle.mig_tokens.proofs.ListParts.{led_part}
use Rattle.mig_tokens.proofs.Choice.{either, respell}
use Rattle.mig_tokens.proofs.TokenParts.{word_reader}
use Rattle.mig_tokens.proofs.Firsts.{NotAt, AtSign, other_word, word_no_sign, sign_no_word, other_sign}
use Rattle.mig_grammar.proofs.Readers.{op_reader}
use Rattle.mig_grammar.proofs.ValueParts.{NotDot, item_part}

-- ---- comparisons

abbrev cmp_of : ItemTree → Op → ItemTree → CmpTree
cmp_of a o b = record { left = a; op = o; right = b }

op_no_dot : (o : Op) → begins_sign (codes ".") (Sign (op_sign o)) ≡ false
op_no_dot op.Eq = refl
op_no_dot op.Ne = refl
op_no_dot op.Lt = refl
op_no_dot op.Le = refl
op_no_dot op.Gt = refl
op_no_dot op.Ge = refl

abbrev chained_cmp : Before → CmpTree → List Marked
chained_cmp s c = item_marked (full limit.Comparisons s.1) c.left ++ (Sign (op_sign c.op), None) ∷ (item_marked None c.right ++ [])

cmp_part : (s : Before) → Part (cmp_at s) (cmp_tokens s) IsCmp NotDot
unfolding cmp_at op_at
cmp_part s =
    let chain = whole (λ (c : CmpTree). c.left) (λ c. Unit {0}) (item_part (full limit.Comparisons s.1))
    (λ a. valued (λ (c : CmpTree). c.op) (λ c. (c.left ≡ a) × Unit {0}) reads_op (λ o. Sign (op_sign o)) (λ o. Unit {0}) (λ o. None) op_reader
    (λ o. whole (λ (c : CmpTree). c.right) (λ c. (c.op ≡ o) × ((c.left ≡ a) × Unit {0})) (item_part None)
    (λ b. made (cmp_of a o b) (λ (c : CmpTree). (c.right ≡ b) × ((c.op ≡ o) × ((c.left ≡ a) × Unit {0}))) NotDot (refl, (refl, (refl, tt)))
    (λ c e. ap (λ x. cmp_of x c.op c.right) e.1.1.0 ∙ ap (λ x. cmp_of a x c.right) e.1.0 ∙ ap (λ x. cmp_of a o x) e.0))
    (λ c rest g n. n)))
    (λ c rest g n. op_no_dot c.op) in
    respell (cmp_tokens s) (λ c h. ap (λ m. item_marked (full limit.Comparisons s.1) c.left ++ sign (op_sign c.op) ∷ m) (append-nil (item_marked None c.right)))
    (refit (cmp_at s) (chained_cmp s) (λ c. Unit {0} × (IsItem c.left × (Unit {0} × (IsItem c.right × Unit {0})))) IsCmp NotDot
    (λ c h. record { left = h.1.0; right = h.1.1.1.0 }) (λ c h. (tt, (h.left, (tt, (h.right, tt))))) chain)

and_part : (s : Before) → Part (and_at s) (and_tokens s) IsCmp NotDot
unfolding and_at word_at
and_part s =
    let chain = fixed (λ (c : CmpTree). Unit {0}) (reads_word (codes "and")) (Word (codes "and")) None (word_reader (codes "and"))
    (refit (cmp_at s) (cmp_tokens s) IsCmp (λ c. Unit {0} × IsCmp c) NotDot (λ c h. (tt, h)) (λ c h. h.1) (cmp_part s)) in
    refit (and_at s) (and_tokens s) (λ c. Unit {0} × IsCmp c) IsCmp NotDot (λ c h. h.1) (λ c h. (tt, h)) chain

-- ---- cases

-- neither a dot nor an `and` is next
abbrev CaseEnd : Option Token → Type 0
CaseEnd o = NotDot o × NotAt (begins_word (codes "and")) o

case_part : (s : Before) → Part (case_at s) (case_tokens s) IsCase CaseEnd
unfolding case_at
case_part s = led_part (begins_word (codes "and")) one_each cmp_at and_at cmp_tokens and_tokens IsCmp NotDot CaseEnd cmp_part and_part (λ k c rest f. refl) (word_no_sign (codes "and") (codes ".")) (λ o h. h.0) (λ o h. h.1) (0, s.1)

or_part : (s : Before) → Part (or_at s) (or_tokens s) IsCase CaseEnd
unfolding or_at word_at
or_part s =
    let chain = fixed (λ (c : List CmpTree). Unit {0}) (reads_word (codes "or")) (Word (codes "or")) (over limit.Cases 16 s.0) (word_reader (codes "or"))
    (refit (case_at s) (case_tokens s) IsCase (λ c. Unit {0} × IsCase c) CaseEnd (λ c h. (tt, h)) (λ c h. h.1) (case_part s)) in
    refit (or_at s) (or_tokens s) (λ c. Unit {0} × IsCase c) IsCase CaseEnd (λ c h. h.1) (λ c h. (tt, h)) chain

-- a semicolon is next
abbrev pub AtEnd : Option Token → Type 0
AtEnd = AtSign (codes ";")

abbrev led_cases : List (List CmpTree) → List Marked
led_cases cs = led length case_tokens or_tokens (0, 16) cs

abbrev some_cases : List (List CmpTree) → List Marked
some_cases cs = word (codes "where") ∷ led_cases cs

cases_part : Part cases_at some_cases (AllOfSome IsCase) AtEnd
unfolding cases_at word_at
cases_part =
    let led = led_part (begins_word (codes "or")) length case_at or_at case_tokens or_tokens IsCase CaseEnd AtEnd case_part or_part (λ k c rest f. refl)
    (λ o h. (word_no_sign (codes "or") (codes ".") o h, other_word (codes "or") (codes "and") refl o h)) (λ o h. (other_sign (codes ";") (codes ".") refl o h, sign_no_word (codes ";") (codes "and") o h)) (sign_no_word (codes ";") (codes "or")) (0, 16) in
    let chain = fixed (λ (cs : List (List CmpTree)). Unit {0}) (reads_word (codes "where")) (Word (codes "where")) None (word_reader (codes "where"))
    (refit _ led_cases (AllOfSome IsCase) (λ cs. Unit {0} × AllOfSome IsCase cs) AtEnd (λ cs h. (tt, h)) (λ cs h. h.1) led) in
    refit cases_at some_cases (λ cs. Unit {0} × AllOfSome IsCase cs) (AllOfSome IsCase) AtEnd (λ cs h. h.1) (λ cs h. (tt, h)) chain

abbrev NoCase : List (List CmpTree) → Type 0
NoCase cs = (cs ≡ []) × Unit {0}

some_spelt : (cs : List (List CmpTree)) → AllOfSome IsCase cs → some_cases cs ≡ where_tokens cs
some_spelt [] h = absurd h
some_spelt (c ∷ cs) h = refl

to_cases : (cs : List (List CmpTree)) → AllOfSome IsCase cs ⊎ NoCase cs → AllByRecursion IsCase cs
to_cases [] h = tt
to_cases (c ∷ cs) (inl h) = h
to_cases (c ∷ cs) (inr h) = absurd (let e : c ∷ cs ≡ [] = h.0 in cc)

from_cases : (cs : List (List CmpTree)) → AllByRecursion IsCase cs → AllOfSome IsCase cs ⊎ NoCase cs
from_cases [] h = inr (refl, tt)
from_cases (c ∷ cs) h = inl h

begins_where : (cs : List (List CmpTree)) (rest : List Token) → AllOfSome IsCase cs → AtEnd (head rest) → first_is (begins_word (codes "where")) (bare (where_tokens cs) ++ rest) ≡ true
begins_where [] rest h n = absurd h
begins_where (c ∷ cs) rest h n = refl

no_where : (cs : List (List CmpTree)) (rest : List Token) → NoCase cs → AtEnd (head rest) → first_is (begins_word (codes "where")) (bare (where_tokens cs) ++ rest) ≡ false
no_where [] rest h n = sign_no_word (codes ";") (codes "where") (head rest) n
no_where (c ∷ cs) rest h n = absurd (let e : c ∷ cs ≡ [] = h.0 in cc)

pub where_part : Part where_at where_tokens (AllByRecursion IsCase) AtEnd
where_part = either (begins_word (codes "where")) (respell where_tokens some_spelt cases_part)
    (respell where_tokens (λ cs h. ap where_tokens (sym h.0)) (made [] (λ cs. cs ≡ []) AtEnd refl (λ cs e. e))) to_cases from_cases begins_where no_where

-- behind a join stands a `where` or the end
pub where_no_join : (cs : List (List CmpTree)) (rest : List Token) → NotAt (begins_word (codes "join")) (head (bare (where_tokens cs ++ sign (codes ";") ∷ []) ++ rest))
where_no_join [] rest = refl
where_no_join (c ∷ cs) rest = refl
