-- The laws of invariants.
use Rattle.std.proofs.Common.{◌≡◌, Bool, true, false, List, [], ◌∷◌, ◌++◌, Option, None, codes, ◌⊎◌, inl, inr, refl, ap, ◌∙◌}
use Rattle.std.specs.List.{AllByRecursion}
use Rattle.mig_schema.specs.declared.faults.Side.{Side}
use Rattle.mig_schema.specs.declared.faults.Side.TheVariants.{Old}
use Rattle.mig_schema.specs.declared.limits.Limit.TheVariants as limit
use Rattle.mig_tokens.specs.declared.token.Token.{Token}
use Rattle.mig_tokens.specs.declared.token.Token.TheVariants.{Word}
use Rattle.mig_tokens.specs.Marked.{Marked, bare, head, first_is}
use Rattle.mig_tokens.specs.Forms.{Before, start, no_room, word, sign, numbered}
use Rattle.mig_tokens.specs.Limits.{over}
use Rattle.mig_tokens.specs.Reading.{choice_at}
use Rattle.mig_tokens.specs.Pieces.{begins_word, word_at, sign_at}
use Rattle.mig_grammar.specs.declared.tree.ColName.{ColName}
use Rattle.mig_grammar.specs.Spelling.{col_tokens}
use Rattle.mig_grammar.specs.Shapes.{IsCol}
use Rattle.mig_answer.specs.AnswerText.{side_text}
use Rattle.mig_tokens.proofs.Laws.{Any}
use Rattle.mig_tokens.proofs.Steps.{Part, made, valued, whole}
use Rattle.mig_tokens.proofs.ListParts.{many_part}
use Rattle.mig_tokens.proofs.Choice.{either, respell}
use Rattle.mig_tokens.proofs.Firsts.{NotAt}
use Rattle.mig_grammar.proofs.SchemaParts.{col_part}
use Rattle.mig_reading.specs.declared.tree.ViewTree.{ViewTree}
use Rattle.mig_reading.specs.declared.tree.Relation.{Relation}
use Rattle.mig_reading.specs.declared.tree.Relation.TheVariants.{Apart, Within}
use Rattle.mig_reading.specs.declared.tree.FactTree.{FactTree}
use Rattle.mig_reading.specs.declared.tree.FactTree.TheVariants.{Views, Unique, Columns}
use Rattle.mig_reading.specs.Spelling.{space, feed, view_tokens, relation_text, fact_tokens}
use Rattle.mig_reading.specs.Shapes.{IsView, IsFact}
use Rattle.mig_reading.specs.ReadingWords.{reads_side, reads_relation, side_at, relation_at}
use Rattle.mig_reading.specs.ReadingFacts.{views_at, unique_at, columns_at, fact_at, begins_fact, facts_at}
use Rattle.mig_reading.proofs.Readers.{side_reader, relation_reader, sign_step, word_step}
use Rattle.mig_reading.proofs.ViewParts.{view_part}

-- ---- the parts of an invariant

abbrev no_view : ViewTree
no_view = record { join = record { first = []; more = [] }; outs = [] }

abbrev no_col : ColName
no_col = record { table = []; column = [] }

abbrev is_views : FactTree → Bool
is_views (Views source target) = true
is_views (Unique side column) = false
is_views (Columns relation side left right) = false

abbrev is_unique : FactTree → Bool
is_unique (Views source target) = false
is_unique (Unique side column) = true
is_unique (Columns relation side left right) = false

abbrev is_columns : FactTree → Bool
is_columns (Views source target) = false
is_columns (Unique side column) = false
is_columns (Columns relation side left right) = true

abbrev source_in : FactTree → ViewTree
source_in (Views source target) = source
source_in (Unique side column) = no_view
source_in (Columns relation side left right) = no_view

abbrev target_in : FactTree → ViewTree
target_in (Views source target) = target
target_in (Unique side column) = no_view
target_in (Columns relation side left right) = no_view

abbrev side_in : FactTree → Side
side_in (Views source target) = Old
side_in (Unique side column) = side
side_in (Columns relation side left right) = side

abbrev column_in : FactTree → ColName
column_in (Views source target) = no_col
column_in (Unique side column) = column
column_in (Columns relation side left right) = no_col

abbrev relation_in : FactTree → Relation
relation_in (Views source target) = Apart
relation_in (Unique side column) = Apart
relation_in (Columns relation side left right) = relation

abbrev left_in : FactTree → ColName
left_in (Views source target) = no_col
left_in (Unique side column) = no_col
left_in (Columns relation side left right) = left

abbrev right_in : FactTree → ColName
right_in (Views source target) = no_col
right_in (Unique side column) = no_col
right_in (Columns relation side left right) = right

views_is : (a b : ViewTree) (y : FactTree) → (target_in y ≡ b) × ((source_in y ≡ a) × (is_views y ≡ true)) → y ≡ Views a b
views_is a b (Views source target) e = ap (λ x. Views x target) e.1.0 ∙ ap (λ x. Views a x) e.0
views_is a b (Unique side column) e = absurd (let f : false ≡ true = e.1.1 in cc)
views_is a b (Columns relation side left right) e = absurd (let f : false ≡ true = e.1.1 in cc)

unique_is : (d : Side) (a : ColName) (y : FactTree) → (column_in y ≡ a) × ((side_in y ≡ d) × (is_unique y ≡ true)) → y ≡ Unique d a
unique_is d a (Views source target) e = absurd (let f : false ≡ true = e.1.1 in cc)
unique_is d a (Unique side column) e = ap (λ x. Unique x column) e.1.0 ∙ ap (λ x. Unique d x) e.0
unique_is d a (Columns relation side left right) e = absurd (let f : false ≡ true = e.1.1 in cc)

columns_is : (r : Relation) (d : Side) (a b : ColName) (y : FactTree) → (right_in y ≡ b) × ((left_in y ≡ a) × ((side_in y ≡ d) × ((relation_in y ≡ r) × (is_columns y ≡ true)))) → y ≡ Columns r d a b
columns_is r d a b (Views source target) e = absurd (let f : false ≡ true = e.1.1.1.1 in cc)
columns_is r d a b (Unique side column) e = absurd (let f : false ≡ true = e.1.1.1.1 in cc)
columns_is r d a b (Columns relation side left right) e = ap (λ x. Columns x side left right) e.1.1.1.0 ∙ ap (λ x. Columns r x left right) e.1.1.0 ∙ ap (λ x. Columns r d x right) e.1.0 ∙ ap (λ x. Columns r d a x) e.0

-- ---- each kind of invariant

abbrev views_tokens : Before → FactTree → List Marked
views_tokens s y = (Word (codes "view"), over limit.Invariants 4096 s.0) ∷ space ∷ (view_tokens (source_in y) ++ space ∷ word (codes "is") ∷ space ∷ (view_tokens (target_in y) ++ sign (codes ";") ∷ feed ∷ []))

abbrev unique_tokens : Before → FactTree → List Marked
unique_tokens s y = (Word (codes "unique"), over limit.Invariants 4096 s.0) ∷ space ∷ word (side_text (side_in y)) ∷ space ∷ (col_tokens (column_in y) ++ sign (codes ";") ∷ feed ∷ [])

abbrev columns_tokens : Before → FactTree → List Marked
columns_tokens s y =
    (Word (relation_text (relation_in y)), over limit.Invariants 4096 s.0) ∷ space ∷ word (side_text (side_in y)) ∷ space
    ∷ (col_tokens (left_in y) ++ space ∷ (col_tokens (right_in y) ++ sign (codes ";") ∷ feed ∷ []))

abbrev AreViews : FactTree → Type 0
AreViews y = (is_views y ≡ true) × (IsView (source_in y) × (IsView (target_in y) × Unit {0}))

abbrev IsUnique : FactTree → Type 0
IsUnique y = (is_unique y ≡ true) × (Unit {0} × (IsCol (column_in y) × Unit {0}))

abbrev AreColumns : FactTree → Type 0
AreColumns y = (is_columns y ≡ true) × (Unit {0} × (Unit {0} × (IsCol (left_in y) × (IsCol (right_in y) × Unit {0}))))

views_spelt : (s : Before) (y : FactTree) → AreViews y → views_tokens s y ≡ fact_tokens s y
views_spelt s (Views source target) h = refl
views_spelt s (Unique side column) h = absurd (let f : false ≡ true = h.0 in cc)
views_spelt s (Columns relation side left right) h = absurd (let f : false ≡ true = h.0 in cc)

unique_spelt : (s : Before) (y : FactTree) → IsUnique y → unique_tokens s y ≡ fact_tokens s y
unique_spelt s (Views source target) h = absurd (let f : false ≡ true = h.0 in cc)
unique_spelt s (Unique side column) h = refl
unique_spelt s (Columns relation side left right) h = absurd (let f : false ≡ true = h.0 in cc)

columns_spelt : (s : Before) (y : FactTree) → AreColumns y → columns_tokens s y ≡ fact_tokens s y
columns_spelt s (Views source target) h = absurd (let f : false ≡ true = h.0 in cc)
columns_spelt s (Unique side column) h = absurd (let f : false ≡ true = h.0 in cc)
columns_spelt s (Columns relation side left right) h = refl

views_part : (s : Before) → Part (views_at s) (fact_tokens s) AreViews Any
unfolding views_at word_at sign_at
views_part s =
    let chain = word_step (codes "view") (over limit.Invariants 4096 s.0) (λ (y : FactTree). is_views y ≡ true)
    (sign_step (codes " ") (λ (y : FactTree). is_views y ≡ true)
    (whole source_in (λ (y : FactTree). is_views y ≡ true) view_part
    (λ a. sign_step (codes " ") (λ (y : FactTree). (source_in y ≡ a) × (is_views y ≡ true))
    (word_step (codes "is") None (λ (y : FactTree). (source_in y ≡ a) × (is_views y ≡ true))
    (sign_step (codes " ") (λ (y : FactTree). (source_in y ≡ a) × (is_views y ≡ true))
    (whole target_in (λ (y : FactTree). (source_in y ≡ a) × (is_views y ≡ true)) view_part
    (λ b. sign_step (codes ";") (λ (y : FactTree). (target_in y ≡ b) × ((source_in y ≡ a) × (is_views y ≡ true)))
    (sign_step (codes "\n") (λ (y : FactTree). (target_in y ≡ b) × ((source_in y ≡ a) × (is_views y ≡ true)))
    (made (Views a b) (λ (y : FactTree). (target_in y ≡ b) × ((source_in y ≡ a) × (is_views y ≡ true))) Any (refl, (refl, refl)) (views_is a b))))
    (λ y rest g n. tt)))))
    (λ y rest g n. tt))) in
    respell (fact_tokens s) (views_spelt s) chain

unique_part : (s : Before) → Part (unique_at s) (fact_tokens s) IsUnique Any
unfolding unique_at word_at sign_at side_at
unique_part s =
    let chain = word_step (codes "unique") (over limit.Invariants 4096 s.0) (λ (y : FactTree). is_unique y ≡ true)
    (sign_step (codes " ") (λ (y : FactTree). is_unique y ≡ true)
    (valued side_in (λ (y : FactTree). is_unique y ≡ true) reads_side (λ d. Word (side_text d)) (λ d. Unit {0}) (λ d. None) side_reader
    (λ d. sign_step (codes " ") (λ (y : FactTree). (side_in y ≡ d) × (is_unique y ≡ true))
    (whole column_in (λ (y : FactTree). (side_in y ≡ d) × (is_unique y ≡ true)) (col_part None)
    (λ a. sign_step (codes ";") (λ (y : FactTree). (column_in y ≡ a) × ((side_in y ≡ d) × (is_unique y ≡ true)))
    (sign_step (codes "\n") (λ (y : FactTree). (column_in y ≡ a) × ((side_in y ≡ d) × (is_unique y ≡ true)))
    (made (Unique d a) (λ (y : FactTree). (column_in y ≡ a) × ((side_in y ≡ d) × (is_unique y ≡ true))) Any (refl, (refl, refl)) (unique_is d a))))
    (λ y rest g n. tt))))) in
    respell (fact_tokens s) (unique_spelt s) chain

columns_part : (s : Before) → Part (columns_at s) (fact_tokens s) AreColumns Any
unfolding columns_at sign_at side_at relation_at
columns_part s =
    let chain = valued relation_in (λ (y : FactTree). is_columns y ≡ true) reads_relation (λ r. Word (relation_text r)) (λ r. Unit {0}) (λ r. over limit.Invariants 4096 s.0) relation_reader
    (λ r. sign_step (codes " ") (λ (y : FactTree). (relation_in y ≡ r) × (is_columns y ≡ true))
    (valued side_in (λ (y : FactTree). (relation_in y ≡ r) × (is_columns y ≡ true)) reads_side (λ d. Word (side_text d)) (λ d. Unit {0}) (λ d. None) side_reader
    (λ d. sign_step (codes " ") (λ (y : FactTree). (side_in y ≡ d) × ((relation_in y ≡ r) × (is_columns y ≡ true)))
    (whole left_in (λ (y : FactTree). (side_in y ≡ d) × ((relation_in y ≡ r) × (is_columns y ≡ true))) (col_part None)
    (λ a. sign_step (codes " ") (λ (y : FactTree). (left_in y ≡ a) × ((side_in y ≡ d) × ((relation_in y ≡ r) × (is_columns y ≡ true))))
    (whole right_in (λ (y : FactTree). (left_in y ≡ a) × ((side_in y ≡ d) × ((relation_in y ≡ r) × (is_columns y ≡ true)))) (col_part None)
    (λ b. sign_step (codes ";") (λ (y : FactTree). (right_in y ≡ b) × ((left_in y ≡ a) × ((side_in y ≡ d) × ((relation_in y ≡ r) × (is_columns y ≡ true)))))
    (sign_step (codes "\n") (λ (y : FactTree). (right_in y ≡ b) × ((left_in y ≡ a) × ((side_in y ≡ d) × ((relation_in y ≡ r) × (is_columns y ≡ true)))))
    (made (Columns r d a b) (λ (y : FactTree). (right_in y ≡ b) × ((left_in y ≡ a) × ((side_in y ≡ d) × ((relation_in y ≡ r) × (is_columns y ≡ true))))) Any (refl, (refl, (refl, (refl, refl)))) (columns_is r d a b))))
    (λ y rest g n. tt)))
    (λ y rest g n. tt))))) in
    respell (fact_tokens s) (columns_spelt s) chain

-- ---- all kinds

-- no views
abbrev IsOther : FactTree → Type 0
IsOther y = (is_views y ≡ false) × IsFact y

to_other : (y : FactTree) → IsUnique y ⊎ AreColumns y → IsOther y
to_other (Views source target) (inl h) = absurd (let f : false ≡ true = h.0 in cc)
to_other (Views source target) (inr h) = absurd (let f : false ≡ true = h.0 in cc)
to_other (Unique side column) (inl h) = (refl, h.1.1.0)
to_other (Unique side column) (inr h) = absurd (let f : false ≡ true = h.0 in cc)
to_other (Columns relation side left right) (inl h) = absurd (let f : false ≡ true = h.0 in cc)
to_other (Columns relation side left right) (inr h) = (refl, (h.1.1.1.0, h.1.1.1.1.0))

from_other : (y : FactTree) → IsOther y → IsUnique y ⊎ AreColumns y
from_other (Views source target) h = absurd (let f : true ≡ false = h.0 in cc)
from_other (Unique side column) h = inl (refl, (tt, (h.1, tt)))
from_other (Columns relation side left right) h = inr (refl, (tt, (tt, (h.1.0, (h.1.1, tt)))))

begins_unique : (s : Before) (y : FactTree) (rest : List Token) → IsUnique y → Any (head rest) → first_is (begins_word (codes "unique")) (bare (fact_tokens s y) ++ rest) ≡ true
begins_unique s (Views source target) rest h n = absurd (let f : false ≡ true = h.0 in cc)
begins_unique s (Unique side column) rest h n = refl
begins_unique s (Columns relation side left right) rest h n = absurd (let f : false ≡ true = h.0 in cc)

begins_columns : (s : Before) (y : FactTree) (rest : List Token) → AreColumns y → Any (head rest) → first_is (begins_word (codes "unique")) (bare (fact_tokens s y) ++ rest) ≡ false
begins_columns s (Views source target) rest h n = absurd (let f : false ≡ true = h.0 in cc)
begins_columns s (Unique side column) rest h n = absurd (let f : false ≡ true = h.0 in cc)
begins_columns s (Columns Apart side left right) rest h n = refl
begins_columns s (Columns Within side left right) rest h n = refl

other_part : (s : Before) → Part (choice_at (begins_word (codes "unique")) (unique_at s) (columns_at s)) (fact_tokens s) IsOther Any
other_part s = either (begins_word (codes "unique")) (unique_part s) (columns_part s) to_other from_other (begins_unique s) (begins_columns s)

to_fact : (y : FactTree) → AreViews y ⊎ IsOther y → IsFact y
to_fact (Views source target) (inl h) = (h.1.0, h.1.1.0)
to_fact (Views source target) (inr h) = h.1
to_fact (Unique side column) (inl h) = absurd (let f : false ≡ true = h.0 in cc)
to_fact (Unique side column) (inr h) = h.1
to_fact (Columns relation side left right) (inl h) = absurd (let f : false ≡ true = h.0 in cc)
to_fact (Columns relation side left right) (inr h) = h.1

from_fact : (y : FactTree) → IsFact y → AreViews y ⊎ IsOther y
from_fact (Views source target) h = inl (refl, (h.0, (h.1, tt)))
from_fact (Unique side column) h = inr (refl, h)
from_fact (Columns relation side left right) h = inr (refl, h)

begins_views : (s : Before) (y : FactTree) (rest : List Token) → AreViews y → Any (head rest) → first_is (begins_word (codes "view")) (bare (fact_tokens s y) ++ rest) ≡ true
begins_views s (Views source target) rest h n = refl
begins_views s (Unique side column) rest h n = absurd (let f : false ≡ true = h.0 in cc)
begins_views s (Columns relation side left right) rest h n = absurd (let f : false ≡ true = h.0 in cc)

begins_other : (s : Before) (y : FactTree) (rest : List Token) → IsOther y → Any (head rest) → first_is (begins_word (codes "view")) (bare (fact_tokens s y) ++ rest) ≡ false
begins_other s (Views source target) rest h n = absurd (let f : true ≡ false = h.0 in cc)
begins_other s (Unique side column) rest h n = refl
begins_other s (Columns Apart side left right) rest h n = refl
begins_other s (Columns Within side left right) rest h n = refl

fact_part : (s : Before) → Part (fact_at s) (fact_tokens s) IsFact Any
fact_part s = either (begins_word (codes "view")) (views_part s) (other_part s) to_fact from_fact (begins_views s) (begins_other s)

fact_begins : (s : Before) (y : FactTree) (rest : List Token) → IsFact y → first_is begins_fact (bare (fact_tokens s y) ++ rest) ≡ true
fact_begins s (Views source target) rest h = refl
fact_begins s (Unique side column) rest h = refl
fact_begins s (Columns Apart side left right) rest h = refl
fact_begins s (Columns Within side left right) rest h = refl

-- no further invariant is next
abbrev pub NoFact : Option Token → Type 0
NoFact = NotAt begins_fact

pub facts_part : Part facts_at (numbered no_room fact_tokens start) (AllByRecursion IsFact) NoFact
unfolding facts_at
facts_part = many_part begins_fact no_room fact_at fact_tokens IsFact Any NoFact fact_part fact_begins (λ o h. tt) (λ o h. tt) (λ o h. h) start
