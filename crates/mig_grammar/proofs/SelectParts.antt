-- The laws of what a query selects.
use Rattle.std.proofs.Common.{◌≡◌, List, [], ◌∷◌, ◌++◌, None, codes, refl, ap, ◌∙◌}
use Rattle.std.proofs.lemmas.List.{append-nil}
use Rattle.mig_tokens.specs.declared.token.Token.TheVariants.{Word}
use Rattle.mig_schema.specs.declared.limits.Limit.TheVariants as limit
use Rattle.mig_tokens.specs.Marked.{Marked}
use Rattle.mig_tokens.specs.Forms.{Before, start, no_room, word, listed, AllOfSome}
use Rattle.mig_tokens.specs.Limits.{over}
use Rattle.mig_tokens.specs.Pieces.{reads_word, word_at, listed_at}
use Rattle.mig_grammar.specs.declared.tree.ColName.{ColName}
use Rattle.mig_grammar.specs.declared.tree.RowsTree.{RowsTree}
use Rattle.mig_grammar.specs.declared.tree.SelectTree.{SelectTree}
use Rattle.mig_grammar.specs.Spelling.{rows_tokens, selected_tokens, select_tokens}
use Rattle.mig_grammar.specs.Shapes.{IsCol, IsRows, IsSelect}
use Rattle.mig_grammar.specs.ReadingFunctions.{selected_at, select_at}
use Rattle.mig_tokens.proofs.Laws.{Any}
use Rattle.mig_tokens.proofs.Steps.{Part, refit, made, fixed, whole}
use Rattle.mig_tokens.proofs.CommaParts.{listed_part}
use Rattle.mig_tokens.proofs.Choice.{respell}
use Rattle.mig_tokens.proofs.TokenParts.{word_reader}
use Rattle.mig_grammar.proofs.SchemaParts.{col_part}
use Rattle.mig_grammar.proofs.JoinParts.{rows_part}
use Rattle.mig_grammar.proofs.AssignParts.{NoComma}

selected_part : (s : Before) → Part (selected_at s) (selected_tokens s) IsCol Any
unfolding selected_at
selected_part s = col_part (over limit.Selected 16 s.0)

selecteds_part : Part (listed_at no_room selected_at start) (listed no_room selected_tokens start) (AllOfSome IsCol) NoComma
selecteds_part = listed_part selected_at selected_tokens IsCol Any selected_part no_room NoComma (λ o h. tt) (λ o h. tt) (λ o h. h) start

abbrev select_of : List ColName → RowsTree → SelectTree
select_of cs r = record { columns = cs; rows = r }

abbrev chained_select : SelectTree → List Marked
chained_select q = word (codes "select") ∷ (listed no_room selected_tokens start q.columns ++ word (codes "from") ∷ (rows_tokens q.rows ++ []))

pub select_part : Part select_at select_tokens IsSelect Any
unfolding select_at word_at
select_part =
    let chain = fixed (λ (q : SelectTree). Unit {0}) (reads_word (codes "select")) (Word (codes "select")) None (word_reader (codes "select"))
    (whole (λ (q : SelectTree). q.columns) (λ q. Unit {0}) selecteds_part
    (λ cs. fixed (λ (q : SelectTree). (q.columns ≡ cs) × Unit {0}) (reads_word (codes "from")) (Word (codes "from")) None (word_reader (codes "from"))
    (whole (λ (q : SelectTree). q.rows) (λ q. (q.columns ≡ cs) × Unit {0}) rows_part
    (λ r. made (select_of cs r) (λ (q : SelectTree). (q.rows ≡ r) × ((q.columns ≡ cs) × Unit {0})) Any (refl, (refl, tt)) (λ q e. ap (λ x. select_of x q.rows) e.1.0 ∙ ap (λ x. select_of cs x) e.0))
    (λ q rest g n. tt)))
    (λ q rest g n. refl)) in
    respell select_tokens (λ q h. ap (λ m. word (codes "select") ∷ (listed no_room selected_tokens start q.columns ++ word (codes "from") ∷ m)) (append-nil (rows_tokens q.rows)))
    (refit select_at chained_select (λ q. Unit {0} × (AllOfSome IsCol q.columns × (IsRows q.rows × Unit {0}))) IsSelect Any
    (λ q h. record { columns = h.1.0; rows = h.1.1.0 }) (λ q h. (tt, (h.columns, (h.rows, tt)))) chain)
