-- The laws of joins, and of the rows that a statement works on.
use Rattle.std.proofs.Common.{◌≡◌, ℕ, List, [], ◌∷◌, ◌++◌, Option, None, codes, refl, ap, ◌∙◌}
use Rattle.std.specs.List.{AllByRecursion}
use Rattle.std.proofs.lemmas.List.{append-nil}
use Rattle.mig_tokens.specs.declared.token.Token.{Token}
use Rattle.mig_tokens.specs.declared.token.Token.TheVariants.{Word, Sign}
use Rattle.mig_schema.specs.declared.limits.Limit.TheVariants as limit
use Rattle.mig_tokens.specs.Marked.{Marked}
use Rattle.mig_tokens.specs.Forms.{Before, no_room, name, sign, word, numbered}
use Rattle.mig_tokens.specs.Limits.{over, first_of, name_mark}
use Rattle.mig_tokens.specs.Words.{IsName}
use Rattle.mig_tokens.specs.Reading.{many_at}
use Rattle.mig_tokens.specs.Pieces.{reads_word, reads_sign, reads_name, begins_word, next, word_at, sign_at, name_at}
use Rattle.mig_grammar.specs.declared.tree.ColName.{ColName}
use Rattle.mig_grammar.specs.declared.tree.CmpTree.{CmpTree}
use Rattle.mig_grammar.specs.declared.tree.JoinedTree.{JoinedTree}
use Rattle.mig_grammar.specs.declared.tree.JoinTree.{JoinTree}
use Rattle.mig_grammar.specs.declared.tree.RowsTree.{RowsTree}
use Rattle.mig_grammar.specs.Spelling.{col_tokens, joined_tokens, join_tokens, rows_tokens}
use Rattle.mig_grammar.specs.Shapes.{IsCol, IsCase, IsJoined, IsJoin, IsRows}
use Rattle.mig_grammar.specs.ReadingConditions.{joined_at, join_at, rows_at}
use Rattle.mig_tokens.proofs.Laws.{Any}
use Rattle.mig_tokens.proofs.Steps.{Part, refit, made, valued, fixed, whole}
use Rattle.mig_tokens.proofs.ListParts.{many_part}
use Rattle.mig_tokens.proofs.Choice.{respell}
use Rattle.mig_tokens.proofs.TokenParts.{word_reader, sign_reader, name_reader}
use Rattle.mig_tokens.proofs.Firsts.{NotAt}
use Rattle.mig_grammar.proofs.SchemaParts.{col_part}
use Rattle.mig_grammar.proofs.ConditionParts.{where_part, where_no_join}

abbrev joined_of : List ℕ → ColName → ColName → JoinedTree
joined_of n a b = record { table = n; left = a; right = b }

abbrev chained_joined : Before → JoinedTree → List Marked
chained_joined s j = (Word (codes "join"), over limit.Joined 4 s.0) ∷ name j.table ∷ word (codes "on") ∷ (col_tokens j.left ++ sign (codes "=") ∷ (col_tokens j.right ++ []))

joined_part : (s : Before) → Part (joined_at s) (joined_tokens s) IsJoined Any
unfolding joined_at word_at sign_at name_at
joined_part s =
    let chain = fixed (λ (j : JoinedTree). Unit {0}) (reads_word (codes "join")) (Word (codes "join")) (over limit.Joined 4 s.0) (word_reader (codes "join"))
    (valued (λ (j : JoinedTree). j.table) (λ j. Unit {0}) reads_name (λ v. Word v) IsName (λ v. first_of None (name_mark v)) name_reader
    (λ n. fixed (λ (j : JoinedTree). (j.table ≡ n) × Unit {0}) (reads_word (codes "on")) (Word (codes "on")) None (word_reader (codes "on"))
    (whole (λ (j : JoinedTree). j.left) (λ j. (j.table ≡ n) × Unit {0}) (col_part None)
    (λ a. fixed (λ (j : JoinedTree). (j.left ≡ a) × ((j.table ≡ n) × Unit {0})) (reads_sign (codes "=")) (Sign (codes "=")) None (sign_reader (codes "="))
    (whole (λ (j : JoinedTree). j.right) (λ j. (j.left ≡ a) × ((j.table ≡ n) × Unit {0})) (col_part None)
    (λ b. made (joined_of n a b) (λ (j : JoinedTree). (j.right ≡ b) × ((j.left ≡ a) × ((j.table ≡ n) × Unit {0}))) Any (refl, (refl, (refl, tt)))
    (λ j e. ap (λ x. joined_of x j.left j.right) e.1.1.0 ∙ ap (λ x. joined_of n x j.right) e.1.0 ∙ ap (λ x. joined_of n a x) e.0))
    (λ j rest g n. tt)))
    (λ j rest g n. tt)))) in
    respell (joined_tokens s) (λ j h. refl)
    (refit (joined_at s) (chained_joined s) (λ j. Unit {0} × (IsName j.table × (IsCol j.left × (IsCol j.right × Unit {0})))) IsJoined Any
    (λ j h. record { table = h.1.0; left = h.1.1.0; right = h.1.1.1.0 }) (λ j h. (tt, (h.table, (h.left, (h.right, tt))))) chain)

-- no further table is next
abbrev pub NoJoin : Option Token → Type 0
NoJoin = NotAt (begins_word (codes "join"))

more_part : Part (many_at (begins_word (codes "join")) joined_at (next no_room) (1, 0)) (numbered no_room joined_tokens (1, 0)) (AllByRecursion IsJoined) NoJoin
more_part = many_part (begins_word (codes "join")) no_room joined_at joined_tokens IsJoined Any NoJoin joined_part (λ s j rest h. refl) (λ o h. tt) (λ o h. tt) (λ o h. h) (1, 0)

abbrev join_of : List ℕ → List JoinedTree → JoinTree
join_of n m = record { first = n; more = m }

abbrev chained_join : JoinTree → List Marked
chained_join j = name j.first ∷ (numbered no_room joined_tokens (1, 0) j.more ++ [])

pub join_part : Part join_at join_tokens IsJoin NoJoin
unfolding join_at name_at
join_part =
    let chain = valued (λ (j : JoinTree). j.first) (λ j. Unit {0}) reads_name (λ v. Word v) IsName (λ v. first_of None (name_mark v)) name_reader
    (λ n. whole (λ (j : JoinTree). j.more) (λ j. (j.first ≡ n) × Unit {0}) more_part
    (λ m. made (join_of n m) (λ (j : JoinTree). (j.more ≡ m) × ((j.first ≡ n) × Unit {0})) NoJoin (refl, (refl, tt)) (λ j e. ap (λ x. join_of x j.more) e.1.0 ∙ ap (λ x. join_of n x) e.0))
    (λ j rest g n. n)) in
    respell join_tokens (λ j h. ap (λ m. name j.first ∷ m) (append-nil (numbered no_room joined_tokens (1, 0) j.more)))
    (refit join_at chained_join (λ j. Unit {0} × (IsName j.first × (AllByRecursion IsJoined j.more × Unit {0}))) IsJoin NoJoin
    (λ j h. record { first = h.1.0; more = h.1.1.0 }) (λ j h. (tt, (h.first, (h.more, tt)))) chain)

abbrev rows_of : JoinTree → List (List CmpTree) → RowsTree
rows_of j cs = record { join = j; cases = cs }

pub rows_part : Part rows_at rows_tokens IsRows Any
unfolding rows_at sign_at
rows_part =
    let chain = whole (λ (r : RowsTree). r.join) (λ r. Unit {0}) join_part
    (λ j. whole (λ (r : RowsTree). r.cases) (λ r. (r.join ≡ j) × Unit {0}) where_part
    (λ cs. fixed (λ (r : RowsTree). (r.cases ≡ cs) × ((r.join ≡ j) × Unit {0})) (reads_sign (codes ";")) (Sign (codes ";")) None (sign_reader (codes ";"))
    (made (rows_of j cs) (λ (r : RowsTree). (r.cases ≡ cs) × ((r.join ≡ j) × Unit {0})) Any (refl, (refl, tt)) (λ r e. ap (λ x. rows_of x r.cases) e.1.0 ∙ ap (λ x. rows_of j x) e.0)))
    (λ r rest g n. refl))
    (λ r rest g n. where_no_join r.cases rest) in
    refit rows_at rows_tokens (λ r. Unit {0} × (IsJoin r.join × (AllByRecursion IsCase r.cases × Unit {0}))) IsRows Any
    (λ r h. record { join = h.1.0; cases = h.1.1.0 }) (λ r h. (tt, (h.join, (h.cases, tt)))) chain
