-- The laws of assignments, and of the tables of a delete.
use Rattle.std.proofs.Common.{◌≡◌, List, [], ◌∷◌, ◌++◌, Option, None, codes, refl, ap, ◌∙◌}
use Rattle.std.proofs.lemmas.List.{append-nil}
use Rattle.mig_tokens.specs.declared.token.Token.{Token}
use Rattle.mig_tokens.specs.declared.token.Token.TheVariants.{Word, Sign}
use Rattle.mig_tokens.specs.Marked.{Marked}
use Rattle.mig_tokens.specs.Forms.{Before, start, no_room, sign, listed, AllOfSome}
use Rattle.mig_tokens.specs.Limits.{first_of, name_mark}
use Rattle.mig_tokens.specs.Words.{IsName}
use Rattle.mig_tokens.specs.Pieces.{reads_sign, reads_name, begins_sign, sign_at, name_at, listed_at}
use Rattle.mig_grammar.specs.declared.tree.ColName.{ColName}
use Rattle.mig_grammar.specs.declared.tree.ValueTree.{ValueTree}
use Rattle.mig_grammar.specs.declared.tree.AssignTree.{AssignTree}
use Rattle.mig_grammar.specs.Spelling.{col_tokens, value_tokens, assign_tokens, deleted_tokens}
use Rattle.mig_grammar.specs.Shapes.{IsCol, IsValue, IsAssign}
use Rattle.mig_grammar.specs.ReadingFunctions.{assign_at, deleted_at}
use Rattle.mig_tokens.proofs.Laws.{Any}
use Rattle.mig_tokens.proofs.Steps.{Part, refit, made, fixed, whole, one_token}
use Rattle.mig_tokens.proofs.CommaParts.{listed_part}
use Rattle.mig_tokens.proofs.Choice.{respell}
use Rattle.mig_tokens.proofs.TokenParts.{sign_reader, name_reader}
use Rattle.mig_tokens.proofs.Firsts.{NotAt}
use Rattle.mig_grammar.proofs.SchemaParts.{col_part}
use Rattle.mig_grammar.proofs.ValueParts.{value_part}

abbrev pub NoComma : Option Token → Type 0
NoComma = NotAt (begins_sign (codes ","))

abbrev assign_of : ColName → ValueTree → AssignTree
assign_of c v = record { column = c; value = v }

abbrev chained_assign : Before → AssignTree → List Marked
chained_assign s a = col_tokens a.column ++ sign (codes "=") ∷ (value_tokens a.value ++ [])

assign_part : (s : Before) → Part (assign_at s) (assign_tokens s) IsAssign Any
unfolding assign_at sign_at
assign_part s =
    let chain = whole (λ (a : AssignTree). a.column) (λ a. Unit {0}) (col_part None)
    (λ c. fixed (λ (a : AssignTree). (a.column ≡ c) × Unit {0}) (reads_sign (codes "=")) (Sign (codes "=")) None (sign_reader (codes "="))
    (whole (λ (a : AssignTree). a.value) (λ a. (a.column ≡ c) × Unit {0}) value_part
    (λ v. made (assign_of c v) (λ (a : AssignTree). (a.value ≡ v) × ((a.column ≡ c) × Unit {0})) Any (refl, (refl, tt)) (λ a e. ap (λ x. assign_of x a.value) e.1.0 ∙ ap (λ x. assign_of c x) e.0))
    (λ a rest g n. tt)))
    (λ a rest g n. tt) in
    respell (assign_tokens s) (λ a h. ap (λ m. col_tokens a.column ++ sign (codes "=") ∷ m) (append-nil (value_tokens a.value)))
    (refit (assign_at s) (chained_assign s) (λ a. Unit {0} × (IsCol a.column × (IsValue a.value × Unit {0}))) IsAssign Any
    (λ a h. record { column = h.1.0; value = h.1.1.0 }) (λ a h. (tt, (h.column, (h.value, tt)))) chain)

pub assigns_part : Part (listed_at no_room assign_at start) (listed no_room assign_tokens start) (AllOfSome IsAssign) NoComma
assigns_part = listed_part assign_at assign_tokens IsAssign Any assign_part no_room NoComma (λ o h. tt) (λ o h. tt) (λ o h. h) start

deleted_part : (s : Before) → Part (deleted_at s) (deleted_tokens s) IsName Any
unfolding deleted_at name_at
deleted_part s = one_token reads_name (λ v. Word v) IsName (λ v. first_of None (name_mark v)) name_reader

pub deleteds_part : Part (listed_at no_room deleted_at start) (listed no_room deleted_tokens start) (AllOfSome IsName) NoComma
deleteds_part = listed_part deleted_at deleted_tokens IsName Any deleted_part no_room NoComma (λ o h. tt) (λ o h. tt) (λ o h. h) start
