-- The laws of statements.
use Rattle.std.proofs.Common.{◌≡◌, ℕ, Bool, true, false, List, [], ◌∷◌, ◌++◌, Option, None, codes, ◌⊎◌, inl, inr, refl, ap, ◌∙◌}
use Rattle.std.proofs.lemmas.List.{append-nil}
use Rattle.mig_tokens.specs.declared.token.Token.{Token}
use Rattle.mig_tokens.specs.declared.token.Token.TheVariants.{Word, Sign}
use Rattle.mig_schema.specs.declared.limits.Limit.TheVariants as limit
use Rattle.mig_tokens.specs.Marked.{Marked, bare, head, first_is}
use Rattle.mig_tokens.specs.Forms.{Before, start, no_room, sign, word, listed, led, AllOfSome}
use Rattle.mig_tokens.specs.Limits.{over, first_of}
use Rattle.mig_tokens.specs.Words.{IsName}
use Rattle.mig_tokens.specs.Reading.{choice_at}
use Rattle.mig_tokens.specs.Pieces.{reads_word, reads_sign, begins_word, word_at, sign_at}
use Rattle.mig_grammar.specs.declared.tree.ColName.{ColName}
use Rattle.mig_grammar.specs.declared.tree.ScalarTree.{ScalarTree}
use Rattle.mig_grammar.specs.declared.tree.ScalarTree.TheVariants as scalar
use Rattle.mig_grammar.specs.declared.tree.JoinTree.{JoinTree}
use Rattle.mig_grammar.specs.declared.tree.RowsTree.{RowsTree}
use Rattle.mig_grammar.specs.declared.tree.AssignTree.{AssignTree}
use Rattle.mig_grammar.specs.declared.tree.StmtTree.{StmtTree}
use Rattle.mig_grammar.specs.declared.tree.StmtTree.TheVariants as stmt
use Rattle.mig_grammar.specs.Spelling.{scalar_mark, scalar_token, scalar_marked, col_tokens, join_tokens, rows_tokens, assign_tokens, deleted_tokens, stmt_tokens}
use Rattle.mig_grammar.specs.Shapes.{IsCol, IsScalar, IsJoin, IsRows, IsAssign, IsStmt}
use Rattle.mig_grammar.specs.ReadingFunctions.{begins_stmt, insert_at, delete_at, set_at, stmt_at, stmts_at}
use Rattle.mig_grammar.specs.ReadingTokens.{reads_scalar, scalar_at}
use Rattle.mig_tokens.proofs.Laws.{Any}
use Rattle.mig_tokens.proofs.Steps.{Part, made, valued, fixed, whole}
use Rattle.mig_tokens.proofs.ListParts.{led_part}
use Rattle.mig_tokens.proofs.Choice.{either, respell}
use Rattle.mig_tokens.proofs.TokenParts.{word_reader, sign_reader}
use Rattle.mig_tokens.proofs.Firsts.{NotAt}
use Rattle.mig_grammar.proofs.Readers.{scalar_reader}
use Rattle.mig_grammar.proofs.SchemaParts.{col_part}
use Rattle.mig_grammar.proofs.JoinParts.{join_part, rows_part}
use Rattle.mig_grammar.proofs.AssignParts.{assigns_part, deleteds_part}

abbrev no_join : JoinTree
no_join = record { first = []; more = [] }

abbrev no_rows : RowsTree
no_rows = record { join = no_join; cases = [] }

abbrev is_insert : StmtTree → Bool
is_insert (stmt.Insert join values) = true
is_insert (stmt.Delete tables rows) = false
is_insert (stmt.Set column x rows) = false

abbrev is_delete : StmtTree → Bool
is_delete (stmt.Insert join values) = false
is_delete (stmt.Delete tables rows) = true
is_delete (stmt.Set column x rows) = false

abbrev is_set : StmtTree → Bool
is_set (stmt.Insert join values) = false
is_set (stmt.Delete tables rows) = false
is_set (stmt.Set column x rows) = true

abbrev join_in : StmtTree → JoinTree
join_in (stmt.Insert join values) = join
join_in _ = no_join

abbrev values_in : StmtTree → List AssignTree
values_in (stmt.Insert join values) = values
values_in _ = []

abbrev tables_in : StmtTree → List (List ℕ)
tables_in (stmt.Delete tables rows) = tables
tables_in _ = []

abbrev rows_in : StmtTree → RowsTree
rows_in (stmt.Insert join values) = no_rows
rows_in (stmt.Delete tables rows) = rows
rows_in (stmt.Set column x rows) = rows

abbrev column_in : StmtTree → ColName
column_in (stmt.Set column x rows) = column
column_in _ = record { table = []; column = [] }

abbrev scalar_in : StmtTree → ScalarTree
scalar_in (stmt.Set column x rows) = x
scalar_in _ = scalar.Int []

insert_is : (j : JoinTree) (vs : List AssignTree) (y : StmtTree) → (values_in y ≡ vs) × ((join_in y ≡ j) × (is_insert y ≡ true)) → y ≡ stmt.Insert j vs
insert_is j vs (stmt.Insert join values) e = ap (λ x. stmt.Insert x values) e.1.0 ∙ ap (λ x. stmt.Insert j x) e.0
insert_is j vs (stmt.Delete tables rows) e = absurd (let f : false ≡ true = e.1.1 in cc)
insert_is j vs (stmt.Set column x rows) e = absurd (let f : false ≡ true = e.1.1 in cc)

delete_is : (ns : List (List ℕ)) (r : RowsTree) (y : StmtTree) → (rows_in y ≡ r) × ((tables_in y ≡ ns) × (is_delete y ≡ true)) → y ≡ stmt.Delete ns r
delete_is ns r (stmt.Insert join values) e = absurd (let f : false ≡ true = e.1.1 in cc)
delete_is ns r (stmt.Delete tables rows) e = ap (λ x. stmt.Delete x rows) e.1.0 ∙ ap (λ x. stmt.Delete ns x) e.0
delete_is ns r (stmt.Set column x rows) e = absurd (let f : false ≡ true = e.1.1 in cc)

set_is : (c : ColName) (x : ScalarTree) (r : RowsTree) (y : StmtTree) → (rows_in y ≡ r) × ((scalar_in y ≡ x) × ((column_in y ≡ c) × (is_set y ≡ true))) → y ≡ stmt.Set c x r
set_is c x r (stmt.Insert join values) e = absurd (let f : false ≡ true = e.1.1.1 in cc)
set_is c x r (stmt.Delete tables rows) e = absurd (let f : false ≡ true = e.1.1.1 in cc)
set_is c x r (stmt.Set column z rows) e = ap (λ (k : ColName). stmt.Set k z rows) e.1.1.0 ∙ ap (λ (k : ScalarTree). stmt.Set c k rows) e.1.0 ∙ ap (λ (k : RowsTree). stmt.Set c x k) e.0

abbrev insert_tokens : Before → StmtTree → List Marked
insert_tokens s y = (Word (codes "insert"), over limit.Statements 4 s.0) ∷ word (codes "into") ∷ (join_tokens (join_in y) ++ sign (codes "{") ∷ (listed no_room assign_tokens start (values_in y) ++ sign (codes "}") ∷ sign (codes ";") ∷ []))

abbrev delete_tokens : Before → StmtTree → List Marked
delete_tokens s y = (Word (codes "delete"), over limit.Statements 4 s.0) ∷ (listed no_room deleted_tokens start (tables_in y) ++ word (codes "from") ∷ (rows_tokens (rows_in y) ++ []))

abbrev set_tokens : Before → StmtTree → List Marked
set_tokens s y = (Word (codes "set"), over limit.Statements 4 s.0) ∷ (col_tokens (column_in y) ++ sign (codes "=") ∷ (scalar_token (scalar_in y), first_of None (scalar_mark (scalar_in y))) ∷ word (codes "in") ∷ (rows_tokens (rows_in y) ++ []))

abbrev IsInsert : StmtTree → Type 0
IsInsert y = (is_insert y ≡ true) × (IsJoin (join_in y) × (AllOfSome IsAssign (values_in y) × Unit {0}))

abbrev IsDelete : StmtTree → Type 0
IsDelete y = (is_delete y ≡ true) × (AllOfSome IsName (tables_in y) × (IsRows (rows_in y) × Unit {0}))

abbrev IsSet : StmtTree → Type 0
IsSet y = (is_set y ≡ true) × (IsCol (column_in y) × (IsScalar (scalar_in y) × (IsRows (rows_in y) × Unit {0})))

insert_spelt : (s : Before) (y : StmtTree) → IsInsert y → insert_tokens s y ≡ stmt_tokens s y
insert_spelt s (stmt.Insert join values) h = refl
insert_spelt s (stmt.Delete tables rows) h = absurd (let f : false ≡ true = h.0 in cc)
insert_spelt s (stmt.Set column x rows) h = absurd (let f : false ≡ true = h.0 in cc)

delete_spelt : (s : Before) (y : StmtTree) → IsDelete y → delete_tokens s y ≡ stmt_tokens s y
delete_spelt s (stmt.Insert join values) h = absurd (let f : false ≡ true = h.0 in cc)
delete_spelt s (stmt.Delete tables rows) h = ap (λ m. (Word (codes "delete"), over limit.Statements 4 s.0) ∷ (listed no_room deleted_tokens start tables ++ word (codes "from") ∷ m)) (append-nil (rows_tokens rows))
delete_spelt s (stmt.Set column x rows) h = absurd (let f : false ≡ true = h.0 in cc)

set_spelt : (s : Before) (y : StmtTree) → IsSet y → set_tokens s y ≡ stmt_tokens s y
set_spelt s (stmt.Insert join values) h = absurd (let f : false ≡ true = h.0 in cc)
set_spelt s (stmt.Delete tables rows) h = absurd (let f : false ≡ true = h.0 in cc)
set_spelt s (stmt.Set column x rows) h = ap (λ m. (Word (codes "set"), over limit.Statements 4 s.0) ∷ (col_tokens column ++ sign (codes "=") ∷ (scalar_marked None x ++ word (codes "in") ∷ m))) (append-nil (rows_tokens rows))

insert_part : (s : Before) → Part (insert_at s) (stmt_tokens s) IsInsert Any
unfolding insert_at word_at sign_at
insert_part s =
    let chain = fixed (λ (y : StmtTree). is_insert y ≡ true) (reads_word (codes "insert")) (Word (codes "insert")) (over limit.Statements 4 s.0) (word_reader (codes "insert"))
    (fixed (λ (y : StmtTree). is_insert y ≡ true) (reads_word (codes "into")) (Word (codes "into")) None (word_reader (codes "into"))
    (whole join_in (λ (y : StmtTree). is_insert y ≡ true) join_part
    (λ j. fixed (λ (y : StmtTree). (join_in y ≡ j) × (is_insert y ≡ true)) (reads_sign (codes "{")) (Sign (codes "{")) None (sign_reader (codes "{"))
    (whole values_in (λ (y : StmtTree). (join_in y ≡ j) × (is_insert y ≡ true)) assigns_part
    (λ vs. fixed (λ (y : StmtTree). (values_in y ≡ vs) × ((join_in y ≡ j) × (is_insert y ≡ true))) (reads_sign (codes "}")) (Sign (codes "}")) None (sign_reader (codes "}"))
    (fixed (λ (y : StmtTree). (values_in y ≡ vs) × ((join_in y ≡ j) × (is_insert y ≡ true))) (reads_sign (codes ";")) (Sign (codes ";")) None (sign_reader (codes ";"))
    (made (stmt.Insert j vs) (λ (y : StmtTree). (values_in y ≡ vs) × ((join_in y ≡ j) × (is_insert y ≡ true))) Any (refl, (refl, refl)) (insert_is j vs))))
    (λ y rest g n. refl)))
    (λ y rest g n. refl))) in
    respell (stmt_tokens s) (insert_spelt s) chain

delete_part : (s : Before) → Part (delete_at s) (stmt_tokens s) IsDelete Any
unfolding delete_at word_at
delete_part s =
    let chain = fixed (λ (y : StmtTree). is_delete y ≡ true) (reads_word (codes "delete")) (Word (codes "delete")) (over limit.Statements 4 s.0) (word_reader (codes "delete"))
    (whole tables_in (λ (y : StmtTree). is_delete y ≡ true) deleteds_part
    (λ ns. fixed (λ (y : StmtTree). (tables_in y ≡ ns) × (is_delete y ≡ true)) (reads_word (codes "from")) (Word (codes "from")) None (word_reader (codes "from"))
    (whole rows_in (λ (y : StmtTree). (tables_in y ≡ ns) × (is_delete y ≡ true)) rows_part
    (λ r. made (stmt.Delete ns r) (λ (y : StmtTree). (rows_in y ≡ r) × ((tables_in y ≡ ns) × (is_delete y ≡ true))) Any (refl, (refl, refl)) (delete_is ns r))
    (λ y rest g n. tt)))
    (λ y rest g n. refl)) in
    respell (stmt_tokens s) (delete_spelt s) chain

set_part : (s : Before) → Part (set_at s) (stmt_tokens s) IsSet Any
unfolding set_at word_at sign_at scalar_at
set_part s =
    let chain = fixed (λ (y : StmtTree). is_set y ≡ true) (reads_word (codes "set")) (Word (codes "set")) (over limit.Statements 4 s.0) (word_reader (codes "set"))
    (whole column_in (λ (y : StmtTree). is_set y ≡ true) (col_part None)
    (λ c. fixed (λ (y : StmtTree). (column_in y ≡ c) × (is_set y ≡ true)) (reads_sign (codes "=")) (Sign (codes "=")) None (sign_reader (codes "="))
    (valued scalar_in (λ (y : StmtTree). (column_in y ≡ c) × (is_set y ≡ true)) reads_scalar scalar_token IsScalar (λ x. first_of None (scalar_mark x)) scalar_reader
    (λ x. fixed (λ (y : StmtTree). (scalar_in y ≡ x) × ((column_in y ≡ c) × (is_set y ≡ true))) (reads_word (codes "in")) (Word (codes "in")) None (word_reader (codes "in"))
    (whole rows_in (λ (y : StmtTree). (scalar_in y ≡ x) × ((column_in y ≡ c) × (is_set y ≡ true))) rows_part
    (λ r. made (stmt.Set c x r) (λ (y : StmtTree). (rows_in y ≡ r) × ((scalar_in y ≡ x) × ((column_in y ≡ c) × (is_set y ≡ true)))) Any (refl, (refl, (refl, refl))) (set_is c x r))
    (λ y rest g n. tt)))))
    (λ y rest g n. tt)) in
    respell (stmt_tokens s) (set_spelt s) chain

-- a delete or a set
abbrev IsOther : StmtTree → Type 0
IsOther y = (is_insert y ≡ false) × IsStmt y

to_other : (y : StmtTree) → IsDelete y ⊎ IsSet y → IsOther y
to_other (stmt.Insert join values) (inl h) = absurd (let f : false ≡ true = h.0 in cc)
to_other (stmt.Insert join values) (inr h) = absurd (let f : false ≡ true = h.0 in cc)
to_other (stmt.Delete tables rows) (inl h) = (refl, (h.1.0, h.1.1.0))
to_other (stmt.Delete tables rows) (inr h) = absurd (let f : false ≡ true = h.0 in cc)
to_other (stmt.Set column x rows) (inl h) = absurd (let f : false ≡ true = h.0 in cc)
to_other (stmt.Set column x rows) (inr h) = (refl, (h.1.0, (h.1.1.0, h.1.1.1.0)))

from_other : (y : StmtTree) → IsOther y → IsDelete y ⊎ IsSet y
from_other (stmt.Insert join values) h = absurd (let f : true ≡ false = h.0 in cc)
from_other (stmt.Delete tables rows) h = inl (refl, (h.1.0, (h.1.1, tt)))
from_other (stmt.Set column x rows) h = inr (refl, (h.1.0, (h.1.1.0, (h.1.1.1, tt))))

begins_delete : (s : Before) (y : StmtTree) (rest : List Token) → IsDelete y → Any (head rest) → first_is (begins_word (codes "delete")) (bare (stmt_tokens s y) ++ rest) ≡ true
begins_delete s (stmt.Insert join values) rest h n = absurd (let f : false ≡ true = h.0 in cc)
begins_delete s (stmt.Delete tables rows) rest h n = refl
begins_delete s (stmt.Set column x rows) rest h n = absurd (let f : false ≡ true = h.0 in cc)

begins_set : (s : Before) (y : StmtTree) (rest : List Token) → IsSet y → Any (head rest) → first_is (begins_word (codes "delete")) (bare (stmt_tokens s y) ++ rest) ≡ false
begins_set s (stmt.Insert join values) rest h n = absurd (let f : false ≡ true = h.0 in cc)
begins_set s (stmt.Delete tables rows) rest h n = absurd (let f : false ≡ true = h.0 in cc)
begins_set s (stmt.Set column x rows) rest h n = refl

to_stmt : (y : StmtTree) → IsInsert y ⊎ IsOther y → IsStmt y
to_stmt (stmt.Insert join values) (inl h) = (h.1.0, h.1.1.0)
to_stmt (stmt.Insert join values) (inr h) = h.1
to_stmt (stmt.Delete tables rows) (inl h) = absurd (let f : false ≡ true = h.0 in cc)
to_stmt (stmt.Delete tables rows) (inr h) = h.1
to_stmt (stmt.Set column x rows) (inl h) = absurd (let f : false ≡ true = h.0 in cc)
to_stmt (stmt.Set column x rows) (inr h) = h.1

from_stmt : (y : StmtTree) → IsStmt y → IsInsert y ⊎ IsOther y
from_stmt (stmt.Insert join values) h = inl (refl, (h.0, (h.1, tt)))
from_stmt (stmt.Delete tables rows) h = inr (refl, h)
from_stmt (stmt.Set column x rows) h = inr (refl, h)

begins_insert : (s : Before) (y : StmtTree) (rest : List Token) → IsInsert y → Any (head rest) → first_is (begins_word (codes "insert")) (bare (stmt_tokens s y) ++ rest) ≡ true
begins_insert s (stmt.Insert join values) rest h n = refl
begins_insert s (stmt.Delete tables rows) rest h n = absurd (let f : false ≡ true = h.0 in cc)
begins_insert s (stmt.Set column x rows) rest h n = absurd (let f : false ≡ true = h.0 in cc)

begins_other : (s : Before) (y : StmtTree) (rest : List Token) → IsOther y → Any (head rest) → first_is (begins_word (codes "insert")) (bare (stmt_tokens s y) ++ rest) ≡ false
begins_other s (stmt.Insert join values) rest h n = absurd (let f : true ≡ false = h.0 in cc)
begins_other s (stmt.Delete tables rows) rest h n = refl
begins_other s (stmt.Set column x rows) rest h n = refl

other_part : (s : Before) → Part (choice_at (begins_word (codes "delete")) (delete_at s) (set_at s)) (stmt_tokens s) IsOther Any
other_part s = either (begins_word (codes "delete")) (delete_part s) (set_part s) to_other from_other (begins_delete s) (begins_set s)

stmt_part : (s : Before) → Part (stmt_at s) (stmt_tokens s) IsStmt Any
stmt_part s = either (begins_word (codes "insert")) (insert_part s) (other_part s) to_stmt from_stmt (begins_insert s) (begins_other s)

stmt_begins : (s : Before) (y : StmtTree) (rest : List Token) → IsStmt y → first_is begins_stmt (bare (stmt_tokens s y) ++ rest) ≡ true
stmt_begins s (stmt.Insert join values) rest h = refl
stmt_begins s (stmt.Delete tables rows) rest h = refl
stmt_begins s (stmt.Set column x rows) rest h = refl

-- no further statement is next
abbrev pub NoStmt : Option Token → Type 0
NoStmt = NotAt begins_stmt

pub stmts_part : Part stmts_at (led no_room stmt_tokens stmt_tokens start) (AllOfSome IsStmt) NoStmt
stmts_part = led_part begins_stmt no_room stmt_at stmt_at stmt_tokens stmt_tokens IsStmt Any NoStmt stmt_part stmt_part stmt_begins (λ o h. tt) (λ o h. tt) (λ o h. h) start
