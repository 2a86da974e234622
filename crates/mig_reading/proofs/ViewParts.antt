-- The laws of views.
use Rattle.std.proofs.Common.{◌≡◌, ℕ, List, Option, None, codes, refl, ap, ◌∙◌}
use Rattle.std.specs.List.{AllByRecursion}
use Rattle.mig_schema.specs.declared.limits.Limit.TheVariants as limit
use Rattle.mig_tokens.specs.declared.token.Token.{Token}
use Rattle.mig_tokens.specs.declared.token.Token.TheVariants.{Word}
use Rattle.mig_tokens.specs.Forms.{Before, start, no_room, numbered, AllOfSome}
use Rattle.mig_tokens.specs.Limits.{over, first_of, name_mark}
use Rattle.mig_tokens.specs.Words.{IsName}
use Rattle.mig_tokens.specs.Reading.{many_at}
use Rattle.mig_tokens.specs.Pieces.{reads_name, begins_word, begins_sign, next, word_at, sign_at, name_at}
use Rattle.mig_grammar.specs.declared.tree.ColName.{ColName}
use Rattle.mig_grammar.specs.declared.tree.JoinedTree.{JoinedTree}
use Rattle.mig_grammar.specs.Shapes.{IsCol, IsJoined}
use Rattle.mig_tokens.proofs.Laws.{Any}
use Rattle.mig_tokens.proofs.Steps.{Part, refit, made, valued, whole}
use Rattle.mig_tokens.proofs.ListParts.{many_part, led_part}
use Rattle.mig_tokens.proofs.TokenParts.{name_reader}
use Rattle.mig_tokens.proofs.Firsts.{NotAt}
use Rattle.mig_grammar.proofs.SchemaParts.{col_part}
use Rattle.mig_reading.specs.declared.tree.ViewTree.{ViewTree}
use Rattle.mig_reading.specs.Spelling.{out_tokens, more_out_tokens, outs_tokens, joined_tokens, view_tokens}
use Rattle.mig_reading.specs.Shapes.{IsView}
use Rattle.mig_reading.specs.ReadingFacts.{out_at, more_out_at, outs_at, joined_at, view_at}
use Rattle.mig_reading.proofs.Readers.{sign_step, word_step}

-- ---- outputs

out_part : (s : Before) → Part (out_at s) (out_tokens s) IsCol Any
unfolding out_at
out_part s = col_part (over limit.Outs 256 s.0)

more_out_part : (s : Before) → Part (more_out_at s) (more_out_tokens s) IsCol Any
unfolding more_out_at sign_at
more_out_part s =
    let chain = sign_step (codes ",") (λ (c : ColName). Unit {0})
    (sign_step (codes " ") (λ (c : ColName). Unit {0})
    (refit (out_at s) (out_tokens s) IsCol (λ c. Unit {0} × IsCol c) Any (λ c h. (tt, h)) (λ c h. h.1) (out_part s))) in
    refit (more_out_at s) (more_out_tokens s) (λ c. Unit {0} × IsCol c) IsCol Any (λ c h. h.1) (λ c h. (tt, h)) chain

-- no comma is next
abbrev NoComma : Option Token → Type 0
NoComma = NotAt (begins_sign (codes ","))

outs_part : Part outs_at outs_tokens (AllOfSome IsCol) NoComma
outs_part = led_part (begins_sign (codes ",")) no_room out_at more_out_at out_tokens more_out_tokens IsCol Any NoComma out_part more_out_part (λ k c rest f. refl) (λ o h. tt) (λ o h. tt) (λ o h. h) start

-- ---- joins

abbrev joined_of : List ℕ → ColName → ColName → JoinedTree
joined_of n a b = record { table = n; left = a; right = b }

joined_part : (s : Before) → Part (joined_at s) (joined_tokens s) IsJoined Any
unfolding joined_at word_at sign_at name_at
joined_part s =
    let chain = word_step (codes "join") (over limit.Joined 4 s.0) (λ (j : JoinedTree). Unit {0})
    (sign_step (codes " ") (λ (j : JoinedTree). Unit {0})
    (valued (λ (j : JoinedTree). j.table) (λ j. Unit {0}) reads_name (λ v. Word v) IsName (λ v. first_of None (name_mark v)) name_reader
    (λ n. sign_step (codes " ") (λ (j : JoinedTree). (j.table ≡ n) × Unit {0})
    (word_step (codes "on") None (λ (j : JoinedTree). (j.table ≡ n) × Unit {0})
    (sign_step (codes " ") (λ (j : JoinedTree). (j.table ≡ n) × Unit {0})
    (whole (λ (j : JoinedTree). j.left) (λ j. (j.table ≡ n) × Unit {0}) (col_part None)
    (λ a. sign_step (codes " ") (λ (j : JoinedTree). (j.left ≡ a) × ((j.table ≡ n) × Unit {0}))
    (sign_step (codes "=") (λ (j : JoinedTree). (j.left ≡ a) × ((j.table ≡ n) × Unit {0}))
    (sign_step (codes " ") (λ (j : JoinedTree). (j.left ≡ a) × ((j.table ≡ n) × Unit {0}))
    (whole (λ (j : JoinedTree). j.right) (λ j. (j.left ≡ a) × ((j.table ≡ n) × Unit {0})) (col_part None)
    (λ b. sign_step (codes " ") (λ (j : JoinedTree). (j.right ≡ b) × ((j.left ≡ a) × ((j.table ≡ n) × Unit {0})))
    (made (joined_of n a b) (λ (j : JoinedTree). (j.right ≡ b) × ((j.left ≡ a) × ((j.table ≡ n) × Unit {0}))) Any (refl, (refl, (refl, tt)))
    (λ j e. ap (λ x. joined_of x j.left j.right) e.1.1.0 ∙ ap (λ x. joined_of n x j.right) e.1.0 ∙ ap (λ x. joined_of n a x) e.0)))
    (λ j rest g n. tt)))))
    (λ j rest g n. tt))))))) in
    refit (joined_at s) (joined_tokens s) (λ j. Unit {0} × (IsName j.table × (IsCol j.left × (IsCol j.right × Unit {0})))) IsJoined Any
    (λ j h. record { table = h.1.0; left = h.1.1.0; right = h.1.1.1.0 }) (λ j h. (tt, (h.table, (h.left, (h.right, tt))))) chain

-- no further table is next
abbrev NoJoin : Option Token → Type 0
NoJoin = NotAt (begins_word (codes "join"))

joins_part : Part (many_at (begins_word (codes "join")) joined_at (next no_room) (1, 0)) (numbered no_room joined_tokens (1, 0)) (AllByRecursion IsJoined) NoJoin
joins_part = many_part (begins_word (codes "join")) no_room joined_at joined_tokens IsJoined Any NoJoin joined_part (λ s j rest h. refl) (λ o h. tt) (λ o h. tt) (λ o h. h) (1, 0)

-- ---- views

abbrev view_of : List ℕ → List JoinedTree → List ColName → ViewTree
view_of n m o = record { join = record { first = n; more = m }; outs = o }

pub view_part : Part view_at view_tokens IsView Any
unfolding view_at sign_at name_at
view_part =
    let chain = valued (λ (v : ViewTree). v.join.first) (λ v. Unit {0}) reads_name (λ w. Word w) IsName (λ w. first_of None (name_mark w)) name_reader
    (λ n. sign_step (codes " ") (λ (v : ViewTree). (v.join.first ≡ n) × Unit {0})
    (whole (λ (v : ViewTree). v.join.more) (λ v. (v.join.first ≡ n) × Unit {0}) joins_part
    (λ m. sign_step (codes "{") (λ (v : ViewTree). (v.join.more ≡ m) × ((v.join.first ≡ n) × Unit {0}))
    (sign_step (codes " ") (λ (v : ViewTree). (v.join.more ≡ m) × ((v.join.first ≡ n) × Unit {0}))
    (whole (λ (v : ViewTree). v.outs) (λ v. (v.join.more ≡ m) × ((v.join.first ≡ n) × Unit {0})) outs_part
    (λ o. sign_step (codes " ") (λ (v : ViewTree). (v.outs ≡ o) × ((v.join.more ≡ m) × ((v.join.first ≡ n) × Unit {0})))
    (sign_step (codes "}") (λ (v : ViewTree). (v.outs ≡ o) × ((v.join.more ≡ m) × ((v.join.first ≡ n) × Unit {0})))
    (made (view_of n m o) (λ (v : ViewTree). (v.outs ≡ o) × ((v.join.more ≡ m) × ((v.join.first ≡ n) × Unit {0}))) Any (refl, (refl, (refl, tt)))
    (λ v e. ap (λ x. view_of x v.join.more v.outs) e.1.1.0 ∙ ap (λ x. view_of n x v.outs) e.1.0 ∙ ap (λ x. view_of n m x) e.0))))
    (λ v rest g n. refl))))
    (λ v rest g n. refl))) in
    refit view_at view_tokens (λ v. Unit {0} × (IsName v.join.first × (AllByRecursion IsJoined v.join.more × (AllOfSome IsCol v.outs × Unit {0})))) IsView Any
    (λ v h. record { join = record { first = h.1.0; more = h.1.1.0 }; outs = h.1.1.1.0 }) (λ v h. (tt, (h.join.first, (h.join.more, (h.outs, tt))))) chain
