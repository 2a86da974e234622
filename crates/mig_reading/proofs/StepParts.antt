-- The laws of steps.
use Rattle.std.proofs.Common.{◌≡◌, ℕ, true, false, List, [], ◌∷◌, ◌++◌, Option, None, codes, decimal, ◌⊎◌, inl, inr, refl, sym, ap, ◌∙◌}
use Rattle.std.specs.List.{AllByRecursion}
use Rattle.mig_schema.specs.declared.limits.Limit.TheVariants as limit
use Rattle.mig_tokens.specs.declared.token.Token.{Token}
use Rattle.mig_tokens.specs.declared.token.Token.TheVariants.{Word, Int}
use Rattle.mig_tokens.specs.Marked.{Marked, bare, head, first_is}
use Rattle.mig_tokens.specs.Forms.{Before, start, no_room, numbered, led, AllOfSome}
use Rattle.mig_tokens.specs.Limits.{over}
use Rattle.mig_tokens.specs.Reading.{many_at}
use Rattle.mig_tokens.specs.Pieces.{begins_sign, next, sign_at}
use Rattle.mig_steps.specs.declared.steps.Rule.{Rule}
use Rattle.mig_steps.specs.declared.steps.Step.{Step}
use Rattle.mig_answer.specs.AnswerText.{rule_text}
use Rattle.mig_tokens.proofs.Laws.{Any}
use Rattle.mig_tokens.proofs.Steps.{Part, refit, made, valued, whole}
use Rattle.mig_tokens.proofs.ListParts.{many_part, led_part}
use Rattle.mig_tokens.proofs.Choice.{either, respell}
use Rattle.mig_tokens.proofs.Firsts.{NotAt}
use Rattle.mig_reading.specs.Spelling.{feed, part_tokens, more_part_tokens, path_tokens, number_marked, arg_tokens, step_tokens}
use Rattle.mig_reading.specs.Shapes.{IsNumber, IsStep}
use Rattle.mig_reading.specs.ReadingWords.{is_some, reads_number, reads_rule, begins_rule, number_at, rule_at}
use Rattle.mig_reading.specs.ReadingPairs.{part_at, more_part_at, parts_at, no_parts_at, path_at, arg_at, step_at, steps_at}
use Rattle.mig_reading.proofs.Readers.{number_reader, rule_reader, number_part, sign_step}

-- ---- paths

-- no dot is next
abbrev NoDot : Option Token → Type 0
NoDot = NotAt (begins_sign (codes "."))

part_part : (s : Before) → Part (part_at s) (part_tokens s) IsNumber Any
unfolding part_at
part_part s = number_part (over limit.Path 16 s.0)

more_part_part : (s : Before) → Part (more_part_at s) (more_part_tokens s) IsNumber Any
unfolding more_part_at sign_at
more_part_part s =
    let chain = sign_step (codes ".") (λ (n : ℕ). Unit {0})
    (refit (part_at s) (part_tokens s) IsNumber (λ n. Unit {0} × IsNumber n) Any (λ n h. (tt, h)) (λ n h. h.1) (part_part s)) in
    refit (more_part_at s) (more_part_tokens s) (λ n. Unit {0} × IsNumber n) IsNumber Any (λ n h. h.1) (λ n h. (tt, h)) chain

abbrev led_parts : List ℕ → List Marked
led_parts ns = led no_room part_tokens more_part_tokens start ns

led_parts_part : Part parts_at led_parts (AllOfSome IsNumber) NoDot
led_parts_part = led_part (begins_sign (codes ".")) no_room part_at more_part_at part_tokens more_part_tokens IsNumber Any NoDot part_part more_part_part (λ k n rest f. refl) (λ o h. tt) (λ o h. tt) (λ o h. h) start

some_spelt : (ns : List ℕ) → AllOfSome IsNumber ns → led_parts ns ≡ path_tokens ns
some_spelt [] h = absurd h
some_spelt (n ∷ ns) h = refl

abbrev NoPart : List ℕ → Type 0
NoPart ns = (ns ≡ []) × Unit {0}

none_part : Part no_parts_at path_tokens NoPart NoDot
unfolding no_parts_at sign_at
none_part =
    let chain = sign_step (codes "-") (λ (ns : List ℕ). ns ≡ []) (made [] (λ (ns : List ℕ). ns ≡ []) NoDot refl (λ ns e. e)) in
    respell path_tokens (λ ns h. sym (ap path_tokens h.0)) chain

to_path : (ns : List ℕ) → NoPart ns ⊎ AllOfSome IsNumber ns → AllByRecursion IsNumber ns
to_path [] h = tt
to_path (n ∷ ns) (inl h) = absurd (let e : n ∷ ns ≡ [] = h.0 in cc)
to_path (n ∷ ns) (inr h) = h

from_path : (ns : List ℕ) → AllByRecursion IsNumber ns → NoPart ns ⊎ AllOfSome IsNumber ns
from_path [] h = inl (refl, tt)
from_path (n ∷ ns) h = inr h

begins_none : (ns : List ℕ) (rest : List Token) → NoPart ns → NoDot (head rest) → first_is (begins_sign (codes "-")) (bare (path_tokens ns) ++ rest) ≡ true
begins_none [] rest h n = refl
begins_none (m ∷ ns) rest h n = absurd (let e : m ∷ ns ≡ [] = h.0 in cc)

begins_some : (ns : List ℕ) (rest : List Token) → AllOfSome IsNumber ns → NoDot (head rest) → first_is (begins_sign (codes "-")) (bare (path_tokens ns) ++ rest) ≡ false
begins_some [] rest h n = absurd h
begins_some (m ∷ ns) rest h n = refl

path_part : Part path_at path_tokens (AllByRecursion IsNumber) NoDot
path_part = either (begins_sign (codes "-")) none_part (respell path_tokens some_spelt led_parts_part) to_path from_path begins_none begins_some

-- ---- arguments

-- no space is next
abbrev NoSpace : Option Token → Type 0
NoSpace = NotAt (begins_sign (codes " "))

arg_part : (s : Before) → Part (arg_at s) (arg_tokens s) IsNumber Any
unfolding arg_at sign_at
arg_part s =
    let m = over limit.Args 16 s.0 in
    let chain = sign_step (codes " ") (λ (n : ℕ). Unit {0})
    (refit (number_at m) (λ n. number_marked m n ∷ []) IsNumber (λ n. Unit {0} × IsNumber n) Any (λ n h. (tt, h)) (λ n h. h.1) (number_part m)) in
    refit (arg_at s) (arg_tokens s) (λ n. Unit {0} × IsNumber n) IsNumber Any (λ n h. h.1) (λ n h. (tt, h)) chain

args_part : Part (many_at (begins_sign (codes " ")) arg_at (next no_room) start) (numbered no_room arg_tokens start) (AllByRecursion IsNumber) NoSpace
args_part = many_part (begins_sign (codes " ")) no_room arg_at arg_tokens IsNumber Any NoSpace arg_part (λ s n rest h. refl) (λ o h. tt) (λ o h. tt) (λ o h. h) start

-- behind a path stands a space or the end of the line
no_dot : (ns : List ℕ) (rest : List Token) → NoDot (head (bare (numbered no_room arg_tokens start ns ++ feed ∷ []) ++ rest))
no_dot [] rest = refl
no_dot (n ∷ ns) rest = refl

-- ---- steps

abbrev step_of : Rule → ℕ → List ℕ → List ℕ → Step
step_of r t p a = record { rule = r; term = t; path = p; args = a }

step_part : (s : Before) → Part (step_at s) (step_tokens s) IsStep Any
unfolding step_at sign_at number_at rule_at
step_part s =
    let chain = valued (λ (x : Step). x.rule) (λ x. Unit {0}) reads_rule (λ r. Word (rule_text r)) (λ r. Unit {0}) (λ r. over limit.Steps 4000 s.0) rule_reader
    (λ r. sign_step (codes " ") (λ (x : Step). (x.rule ≡ r) × Unit {0})
    (valued (λ (x : Step). x.term) (λ x. (x.rule ≡ r) × Unit {0}) reads_number (λ n. Int (decimal n)) IsNumber (λ n. None) number_reader
    (λ t. sign_step (codes " ") (λ (x : Step). (x.term ≡ t) × ((x.rule ≡ r) × Unit {0}))
    (whole (λ (x : Step). x.path) (λ x. (x.term ≡ t) × ((x.rule ≡ r) × Unit {0})) path_part
    (λ p. whole (λ (x : Step). x.args) (λ x. (x.path ≡ p) × ((x.term ≡ t) × ((x.rule ≡ r) × Unit {0}))) args_part
    (λ a. sign_step (codes "\n") (λ (x : Step). (x.args ≡ a) × ((x.path ≡ p) × ((x.term ≡ t) × ((x.rule ≡ r) × Unit {0}))))
    (made (step_of r t p a) (λ (x : Step). (x.args ≡ a) × ((x.path ≡ p) × ((x.term ≡ t) × ((x.rule ≡ r) × Unit {0})))) Any (refl, (refl, (refl, (refl, tt))))
    (λ x e. ap (λ z. step_of z x.term x.path x.args) e.1.1.1.0 ∙ ap (λ z. step_of r z x.path x.args) e.1.1.0 ∙ ap (λ z. step_of r t z x.args) e.1.0 ∙ ap (λ z. step_of r t p z) e.0)))
    (λ x rest g n. refl))
    (λ x rest g n. no_dot x.args rest))))) in
    refit (step_at s) (step_tokens s) (λ x. Unit {0} × (Unit {0} × (IsNumber x.term × (AllByRecursion IsNumber x.path × (AllByRecursion IsNumber x.args × Unit {0}))))) IsStep Any
    (λ x h. record { term = h.1.1.0; path = h.1.1.1.0; args = h.1.1.1.1.0 }) (λ x h. (tt, (tt, (h.term, (h.path, (h.args, tt)))))) chain

-- no step is next
abbrev pub NoStep : Option Token → Type 0
NoStep = NotAt begins_rule

pub steps_part : Part steps_at (numbered no_room step_tokens start) (AllByRecursion IsStep) NoStep
steps_part = many_part begins_rule no_room step_at step_tokens IsStep Any NoStep step_part (λ s x rest h. ap is_some (rule_reader.from x.rule tt)) (λ o h. tt) (λ o h. tt) (λ o h. h) start
