-- The laws of values, and of the items of a comparison.
use Rattle.std.proofs.Common.{◌≡◌, ℕ, Bool, true, false, List, [], ◌∷◌, ◌++◌, Option, None, codes, ◌⊎◌, inl, inr, refl, sym, ap, ◌∙◌}
use Rattle.mig_tokens.specs.declared.token.Token.{Token}
use Rattle.mig_tokens.specs.declared.token.Token.TheVariants.{Word, Int, Sign}
use Rattle.mig_schema.specs.declared.limits.Limit.{Limit}
use Rattle.mig_tokens.specs.Marked.{Marked, bare, head, first_is}
use Rattle.mig_tokens.specs.Forms.{name, sign, word}
use Rattle.mig_tokens.specs.Limits.{first_of, name_mark}
use Rattle.mig_tokens.specs.Words.{IsName}
use Rattle.mig_tokens.specs.Reading.{give}
use Rattle.mig_tokens.specs.Pieces.{reads_word, reads_sign, reads_name, reads_int, begins_word, begins_sign, word_at, sign_at, name_at}
use Rattle.mig_grammar.specs.declared.tree.ScalarTree.{ScalarTree}
use Rattle.mig_grammar.specs.declared.tree.ScalarTree.TheVariants as scalar
use Rattle.mig_grammar.specs.declared.tree.ValueTree.{ValueTree}
use Rattle.mig_grammar.specs.declared.tree.ValueTree.TheVariants as value
use Rattle.mig_grammar.specs.declared.tree.ItemTree.{ItemTree}
use Rattle.mig_grammar.specs.declared.tree.ItemTree.TheVariants as item
use Rattle.mig_grammar.specs.Spelling.{label_mark, scalar_mark, scalar_token, value_tokens, item_marked}
use Rattle.mig_grammar.specs.Shapes.{IsScalar, IsValue, IsItem}
use Rattle.mig_grammar.specs.ReadingConditions.{fresh_at, scalar_value_at, value_at, col_behind_at, item_behind_at, item_at}
use Rattle.mig_grammar.specs.ReadingTokens.{reads_scalar, label_at, scalar_at}
use Rattle.mig_tokens.proofs.Laws.{Any}
use Rattle.mig_tokens.proofs.Steps.{Part, refit, made, valued, fixed}
use Rattle.mig_tokens.proofs.Choice.{either, respell}
use Rattle.mig_tokens.proofs.TokenParts.{word_reader, sign_reader, name_reader, int_reader}
use Rattle.mig_tokens.proofs.Firsts.{NotAt, name_no_word}
use Rattle.mig_grammar.proofs.Readers.{scalar_reader}

-- ---- values

abbrev is_fresh : ValueTree → Bool
is_fresh (value.Scalar x) = false
is_fresh (value.Fresh v) = true

abbrev label_in : ValueTree → List ℕ
label_in (value.Scalar x) = []
label_in (value.Fresh v) = v

abbrev scalar_in : ValueTree → ScalarTree
scalar_in (value.Scalar x) = x
scalar_in (value.Fresh v) = scalar.Int v

abbrev IsFresh : ValueTree → Type 0
IsFresh y = (is_fresh y ≡ true) × (Unit {0} × Unit {0})

abbrev IsPlainValue : ValueTree → Type 0
IsPlainValue y = (is_fresh y ≡ false) × (IsScalar (scalar_in y) × Unit {0})

fresh_is : (v : List ℕ) (y : ValueTree) → (label_in y ≡ v) × (is_fresh y ≡ true) → y ≡ value.Fresh v
fresh_is v (value.Scalar x) e = absurd cc
fresh_is v (value.Fresh w) e = ap value.Fresh e.0

scalar_is : (x : ScalarTree) (y : ValueTree) → (scalar_in y ≡ x) × (is_fresh y ≡ false) → y ≡ value.Scalar x
scalar_is x (value.Scalar z) e = ap value.Scalar e.0
scalar_is x (value.Fresh w) e = absurd cc

fresh_spelt : (y : ValueTree) → IsFresh y → word (codes "fresh") ∷ (Int (label_in y), label_mark (label_in y)) ∷ [] ≡ value_tokens y
fresh_spelt (value.Scalar x) h = absurd cc
fresh_spelt (value.Fresh v) h = refl

scalar_spelt : (y : ValueTree) → IsPlainValue y → (scalar_token (scalar_in y), first_of None (scalar_mark (scalar_in y))) ∷ [] ≡ value_tokens y
scalar_spelt (value.Scalar x) h = refl
scalar_spelt (value.Fresh v) h = absurd cc

fresh_part : Part fresh_at value_tokens IsFresh Any
unfolding fresh_at word_at label_at
fresh_part =
    let chain = fixed (λ (y : ValueTree). is_fresh y ≡ true) (reads_word (codes "fresh")) (Word (codes "fresh")) None (word_reader (codes "fresh"))
    (valued label_in (λ y. is_fresh y ≡ true) reads_int (λ v. Int v) (λ v. Unit {0}) label_mark int_reader
    (λ v. made (value.Fresh v) (λ (y : ValueTree). (label_in y ≡ v) × (is_fresh y ≡ true)) Any (refl, refl) (fresh_is v))) in
    respell value_tokens fresh_spelt chain

scalar_value_part : Part scalar_value_at value_tokens IsPlainValue Any
unfolding scalar_value_at scalar_at
scalar_value_part =
    let chain = valued scalar_in (λ y. is_fresh y ≡ false) reads_scalar scalar_token IsScalar (λ x. first_of None (scalar_mark x)) scalar_reader
    (λ x. made (value.Scalar x) (λ (y : ValueTree). (scalar_in y ≡ x) × (is_fresh y ≡ false)) Any (refl, refl) (scalar_is x)) in
    respell value_tokens scalar_spelt chain

to_value : (y : ValueTree) → IsFresh y ⊎ IsPlainValue y → IsValue y
to_value (value.Scalar x) (inl h) = absurd (let e : false ≡ true = h.0 in cc)
to_value (value.Scalar x) (inr h) = h.1.0
to_value (value.Fresh v) h = tt

from_value : (y : ValueTree) → IsValue y → IsFresh y ⊎ IsPlainValue y
from_value (value.Scalar x) h = inr (refl, (h, tt))
from_value (value.Fresh v) h = inl (refl, (tt, tt))

begins_fresh : (y : ValueTree) (rest : List Token) → IsFresh y → Any (head rest) → first_is (begins_word (codes "fresh")) (bare (value_tokens y) ++ rest) ≡ true
begins_fresh (value.Scalar x) rest h n = absurd cc
begins_fresh (value.Fresh v) rest h n = refl

begins_plain : (y : ValueTree) (rest : List Token) → IsPlainValue y → Any (head rest) → first_is (begins_word (codes "fresh")) (bare (value_tokens y) ++ rest) ≡ false
begins_plain (value.Scalar (scalar.Name v)) rest h n = name_no_word (codes "fresh") v refl h.1.0
begins_plain (value.Scalar (scalar.Int v)) rest h n = refl
begins_plain (value.Scalar (scalar.Text v)) rest h n = refl
begins_plain (value.Fresh v) rest h n = absurd cc

pub value_part : Part value_at value_tokens IsValue Any
value_part = either (begins_word (codes "fresh")) fresh_part scalar_value_part to_value from_value begins_fresh begins_plain

-- ---- items

abbrev pub NotDot : Option Token → Type 0
NotDot = NotAt (begins_sign (codes "."))

-- the scalar that the first token of an item is
abbrev first_scalar : ItemTree → ScalarTree
first_scalar (item.Col c) = scalar.Name c.table
first_scalar (item.Scalar x) = x

abbrev second_name : ItemTree → List ℕ
second_name (item.Col c) = c.column
second_name (item.Scalar x) = []

abbrev behind_tokens : ItemTree → List Marked
behind_tokens (item.Col c) = sign (codes ".") ∷ name c.column ∷ []
behind_tokens (item.Scalar x) = []

abbrev Behind : ItemTree → Type 0
Behind (item.Col c) = IsName c.column
Behind (item.Scalar x) = Unit {0}

-- what stands behind this first token
abbrev Led : ScalarTree → ItemTree → Type 0
Led x y = ((first_scalar y ≡ x) × Unit {0}) × Behind y

abbrev col_item : List ℕ → List ℕ → ItemTree
col_item t c = item.Col (record { table = t; column = c })

-- a column of this table
abbrev ColOf : List ℕ → ItemTree → Type 0
ColOf n (item.Col c) = c.table ≡ n
ColOf n (item.Scalar x) = ⊥

col_is : (n m : List ℕ) (y : ItemTree) → (second_name y ≡ m) × ColOf n y → y ≡ col_item n m
col_is n m (item.Col c) e = ap (λ (t : List ℕ). col_item t c.column) e.1 ∙ ap (λ (k : List ℕ). col_item n k) e.0
col_is n m (item.Scalar x) e = absurd e.1

abbrev IsDotted : List ℕ → ItemTree → Type 0
IsDotted n y = ColOf n y × (IsName (second_name y) × Unit {0})

dotted_spelt : (n : List ℕ) (y : ItemTree) → IsDotted n y → sign (codes ".") ∷ (Word (second_name y), first_of None (name_mark (second_name y))) ∷ [] ≡ behind_tokens y
dotted_spelt n (item.Col c) h = refl
dotted_spelt n (item.Scalar x) h = absurd h.0

dotted_part : (n : List ℕ) → Part (col_behind_at n) behind_tokens (IsDotted n) NotDot
unfolding col_behind_at sign_at name_at
dotted_part n =
    let chain = fixed (ColOf n) (reads_sign (codes ".")) (Sign (codes ".")) None (sign_reader (codes "."))
    (valued second_name (ColOf n) reads_name (λ v. Word v) IsName (λ v. first_of None (name_mark v)) name_reader
    (λ m. made (col_item n m) (λ (y : ItemTree). (second_name y ≡ m) × ColOf n y) NotDot (refl, refl) (col_is n m))) in
    respell behind_tokens (dotted_spelt n) chain

-- this scalar alone
abbrev IsAlone : ScalarTree → ItemTree → Type 0
IsAlone x y = (y ≡ item.Scalar x) × Unit {0}

alone_part : (x : ScalarTree) → Part (give (item.Scalar x)) behind_tokens (IsAlone x) NotDot
alone_part x = respell behind_tokens (λ y h. ap behind_tokens (sym h.0)) (made (item.Scalar x) (λ y. y ≡ item.Scalar x) NotDot refl (λ y e. e))

to_named : (n : List ℕ) (y : ItemTree) → IsDotted n y ⊎ IsAlone (scalar.Name n) y → Led (scalar.Name n) y
to_named n (item.Col c) (inl h) = ((ap scalar.Name h.0, tt), h.1.0)
to_named n (item.Scalar x) (inl h) = absurd h.0
to_named n (item.Col c) (inr h) = absurd (let e : item.Col c ≡ item.Scalar (scalar.Name n) = h.0 in cc)
to_named n (item.Scalar x) (inr h) = let e : item.Scalar x ≡ item.Scalar (scalar.Name n) = h.0 in ((ap first_scalar e, tt), tt)

from_named : (n : List ℕ) (y : ItemTree) → Led (scalar.Name n) y → IsDotted n y ⊎ IsAlone (scalar.Name n) y
from_named n (item.Col c) h = let e : scalar.Name c.table ≡ scalar.Name n = h.0.0 in let same : c.table ≡ n = cc in inl (same, (h.1, tt))
from_named n (item.Scalar x) h = inr (ap item.Scalar h.0.0, tt)

dot_first : (n : List ℕ) (y : ItemTree) (rest : List Token) → IsDotted n y → NotDot (head rest) → first_is (begins_sign (codes ".")) (bare (behind_tokens y) ++ rest) ≡ true
dot_first n (item.Col c) rest h e = refl
dot_first n (item.Scalar x) rest h e = absurd h.0

no_dot : (n : List ℕ) (y : ItemTree) (rest : List Token) → IsAlone (scalar.Name n) y → NotDot (head rest) → first_is (begins_sign (codes ".")) (bare (behind_tokens y) ++ rest) ≡ false
no_dot n (item.Col c) rest h e = absurd (let f : item.Col c ≡ item.Scalar (scalar.Name n) = h.0 in cc)
no_dot n (item.Scalar x) rest h e = e

to_alone : (x : ScalarTree) (y : ItemTree) → IsAlone x y → Led x y
to_alone x (item.Col c) h = absurd (let e : item.Col c ≡ item.Scalar x = h.0 in cc)
to_alone x (item.Scalar z) h = let e : item.Scalar z ≡ item.Scalar x = h.0 in ((ap first_scalar e, tt), tt)

from_int : (v : List ℕ) (y : ItemTree) → Led (scalar.Int v) y → IsAlone (scalar.Int v) y
from_int v (item.Col c) h = absurd (let e : scalar.Name c.table ≡ scalar.Int v = h.0.0 in cc)
from_int v (item.Scalar x) h = (ap item.Scalar h.0.0, tt)

from_text : (v : List ℕ) (y : ItemTree) → Led (scalar.Text v) y → IsAlone (scalar.Text v) y
from_text v (item.Col c) h = absurd (let e : scalar.Name c.table ≡ scalar.Text v = h.0.0 in cc)
from_text v (item.Scalar x) h = (ap item.Scalar h.0.0, tt)

behind_part : (x : ScalarTree) → Part (item_behind_at x) behind_tokens (Led x) NotDot
behind_part (scalar.Name n) = either (begins_sign (codes ".")) (dotted_part n) (alone_part (scalar.Name n)) (to_named n) (from_named n) (dot_first n) (no_dot n)
behind_part (scalar.Int v) = refit (give (item.Scalar (scalar.Int v))) behind_tokens (IsAlone (scalar.Int v)) (Led (scalar.Int v)) NotDot (to_alone (scalar.Int v)) (from_int v) (alone_part (scalar.Int v))
behind_part (scalar.Text v) = refit (give (item.Scalar (scalar.Text v))) behind_tokens (IsAlone (scalar.Text v)) (Led (scalar.Text v)) NotDot (to_alone (scalar.Text v)) (from_text v) (alone_part (scalar.Text v))

abbrev chained_item : Option Limit → ItemTree → List Marked
chained_item mark y = (scalar_token (first_scalar y), first_of mark (scalar_mark (first_scalar y))) ∷ behind_tokens y

abbrev IsChained : ItemTree → Type 0
IsChained y = Unit {0} × (IsScalar (first_scalar y) × Behind y)

item_spelt : (mark : Option Limit) (y : ItemTree) → IsItem y → chained_item mark y ≡ item_marked mark y
item_spelt mark (item.Col c) h = refl
item_spelt mark (item.Scalar x) h = refl

to_item : (y : ItemTree) → IsChained y → IsItem y
to_item (item.Col c) h = record { table = h.1.0; column = h.1.1 }
to_item (item.Scalar x) h = h.1.0

from_item : (y : ItemTree) → IsItem y → IsChained y
from_item (item.Col c) h = (tt, (h.table, h.column))
from_item (item.Scalar x) h = (tt, (h, tt))

pub item_part : (mark : Option Limit) → Part (item_at mark) (item_marked mark) IsItem NotDot
unfolding item_at scalar_at
item_part mark =
    let chain = valued first_scalar (λ (y : ItemTree). Unit {0}) reads_scalar scalar_token IsScalar (λ x. first_of mark (scalar_mark x)) scalar_reader behind_part in
    respell (item_marked mark) (item_spelt mark) (refit (item_at mark) (chained_item mark) IsChained IsItem NotDot to_item from_item chain)
