-- The laws of hints, of whole jobs, and of programs alone.
use Rattle.std.proofs.Common.{◌≡◌, ℕ, Bool, true, false, List, [], ◌∷◌, ◌++◌, Option, Some, None, codes, ◌⊎◌, inl, inr, refl, sym, ap, ◌∙◌, subst}
use Rattle.std.specs.List.{AllByRecursion}
use Rattle.std.proofs.lemmas.List.{append-nil}
use Rattle.mig_tokens.specs.declared.token.Token.{Token}
use Rattle.mig_tokens.specs.declared.token.Token.TheVariants.{Word, Int, Sign, End}
use Rattle.mig_schema.specs.declared.limits.Limit.TheVariants as limit
use Rattle.mig_tokens.specs.Marked.{bare, head, first_is}
use Rattle.mig_tokens.specs.Forms.{Before, start, no_room, word, numbered}
use Rattle.mig_tokens.specs.Limits.{over}
use Rattle.mig_tokens.specs.Reading.{give, many_at}
use Rattle.mig_tokens.specs.Pieces.{reads_word, reads_sign, reads_int, reads_end, begins_word, next, word_at, sign_at, end_at}
use Rattle.mig_grammar.specs.declared.tree.ColName.{ColName}
use Rattle.mig_grammar.specs.declared.tree.SchemaTree.{SchemaTree}
use Rattle.mig_grammar.specs.declared.tree.FunctionTree.{FunctionTree}
use Rattle.mig_grammar.specs.declared.tree.HintTree.{HintTree}
use Rattle.mig_grammar.specs.declared.tree.JobTree.{JobTree}
use Rattle.mig_grammar.specs.Spelling.{weight_mark, hint_tokens, hints_tokens, job_tokens, program_tokens}
use Rattle.mig_grammar.specs.Shapes.{IsCol, IsSchema, IsFunction, IsHint, IsHints, IsJobTree}
use Rattle.mig_grammar.specs.ReadingJobs.{hint_at, some_hints_at, hints_at, job_at, program_at}
use Rattle.mig_grammar.specs.ReadingTokens.{begins_function, weight_at}
use Rattle.mig_tokens.proofs.Laws.{Any}
use Rattle.mig_tokens.proofs.Steps.{Part, refit, made, valued, fixed, whole}
use Rattle.mig_tokens.proofs.ListParts.{many_part}
use Rattle.mig_tokens.proofs.Choice.{either, respell}
use Rattle.mig_tokens.proofs.TokenParts.{word_reader, sign_reader, int_reader, end_reader}
use Rattle.mig_tokens.proofs.Firsts.{NotAt}
use Rattle.mig_grammar.proofs.SchemaParts.{schema_part, col_part}
use Rattle.mig_grammar.proofs.FunctionParts.{functions_part}

-- ---- hints

abbrev hint_of : ColName → ColName → List ℕ → HintTree
hint_of a b w = record { source = a; target = b; weight = w }

hint_part : (s : Before) → Part (hint_at s) (hint_tokens s) IsHint Any
unfolding hint_at word_at sign_at weight_at
hint_part s =
    let chain = fixed (λ (h : HintTree). Unit {0}) (reads_word (codes "hint")) (Word (codes "hint")) (over limit.Hints 256 s.0) (word_reader (codes "hint"))
    (whole (λ (h : HintTree). h.source) (λ h. Unit {0}) (col_part None)
    (λ a. fixed (λ (h : HintTree). (h.source ≡ a) × Unit {0}) (reads_sign (codes "->")) (Sign (codes "->")) None (sign_reader (codes "->"))
    (whole (λ (h : HintTree). h.target) (λ h. (h.source ≡ a) × Unit {0}) (col_part None)
    (λ b. valued (λ (h : HintTree). h.weight) (λ h. (h.target ≡ b) × ((h.source ≡ a) × Unit {0})) reads_int (λ v. Int v) (λ v. Unit {0}) weight_mark int_reader
    (λ w. fixed (λ (h : HintTree). (h.weight ≡ w) × ((h.target ≡ b) × ((h.source ≡ a) × Unit {0}))) (reads_sign (codes ";")) (Sign (codes ";")) None (sign_reader (codes ";"))
    (made (hint_of a b w) (λ (h : HintTree). (h.weight ≡ w) × ((h.target ≡ b) × ((h.source ≡ a) × Unit {0}))) Any (refl, (refl, (refl, tt)))
    (λ h e. ap (λ x. hint_of x h.target h.weight) e.1.1.0 ∙ ap (λ x. hint_of a x h.weight) e.1.0 ∙ ap (λ x. hint_of a b x) e.0))))
    (λ h rest g n. tt)))
    (λ h rest g n. tt)) in
    refit (hint_at s) (hint_tokens s) (λ h. Unit {0} × (IsCol h.source × (IsCol h.target × (Unit {0} × Unit {0})))) IsHint Any
    (λ y h. record { source = h.1.0; target = h.1.1.0 }) (λ y h. (tt, (h.source, (h.target, (tt, tt))))) chain

-- the end of the text is next
abbrev AtEnd : Option Token → Type 0
AtEnd o = o ≡ Some End

ended : (w : List ℕ) (o : Option Token) → AtEnd o → NotAt (begins_word w) o
ended w o e = subst (λ (p : Option Token). NotAt (begins_word w) p) (sym e) refl

more_hints_part : Part (many_at (begins_word (codes "hint")) hint_at (next no_room) start) (numbered no_room hint_tokens start) (AllByRecursion IsHint) AtEnd
more_hints_part = many_part (begins_word (codes "hint")) no_room hint_at hint_tokens IsHint Any AtEnd hint_part (λ s h rest f. refl) (λ o h. tt) (λ o h. tt) (ended (codes "hint")) start

abbrev has_hints : Option (List HintTree) → Bool
has_hints None = false
has_hints (Some hs) = true

abbrev hints_in : Option (List HintTree) → List HintTree
hints_in None = []
hints_in (Some hs) = hs

some_is : (hs : List HintTree) (y : Option (List HintTree)) → (hints_in y ≡ hs) × (has_hints y ≡ true) → y ≡ Some hs
some_is hs None e = absurd (let f : false ≡ true = e.1 in cc)
some_is hs (Some gs) e = ap (λ (x : List HintTree). Some x) e.0

abbrev AreSome : Option (List HintTree) → Type 0
AreSome y = (has_hints y ≡ true) × (AllByRecursion IsHint (hints_in y) × Unit {0})

some_spelt : (y : Option (List HintTree)) → AreSome y → word (codes "hints") ∷ (numbered no_room hint_tokens start (hints_in y) ++ []) ≡ hints_tokens y
some_spelt None h = absurd (let f : false ≡ true = h.0 in cc)
some_spelt (Some hs) h = ap (λ m. word (codes "hints") ∷ m) (append-nil (numbered no_room hint_tokens start hs))

some_part : Part some_hints_at hints_tokens AreSome AtEnd
unfolding some_hints_at word_at
some_part =
    let chain = fixed (λ (y : Option (List HintTree)). has_hints y ≡ true) (reads_word (codes "hints")) (Word (codes "hints")) None (word_reader (codes "hints"))
    (whole hints_in (λ (y : Option (List HintTree)). has_hints y ≡ true) more_hints_part
    (λ hs. made (Some hs) (λ (y : Option (List HintTree)). (hints_in y ≡ hs) × (has_hints y ≡ true)) AtEnd (refl, refl) (some_is hs))
    (λ y rest g n. n)) in
    respell hints_tokens some_spelt chain

abbrev AreNone : Option (List HintTree) → Type 0
AreNone y = (y ≡ None) × Unit {0}

none_part : Part (give None) hints_tokens AreNone AtEnd
none_part = respell hints_tokens (λ y h. ap hints_tokens (sym h.0)) (made None (λ (y : Option (List HintTree)). y ≡ None) AtEnd refl (λ y e. e))

to_hints : (y : Option (List HintTree)) → AreSome y ⊎ AreNone y → IsHints y
to_hints None h = tt
to_hints (Some hs) (inl h) = h.1.0
to_hints (Some hs) (inr h) = absurd (let f : Some hs ≡ None = h.0 in cc)

from_hints : (y : Option (List HintTree)) → IsHints y → AreSome y ⊎ AreNone y
from_hints None h = inr (refl, tt)
from_hints (Some hs) h = inl (refl, (h, tt))

begins_hints : (y : Option (List HintTree)) (rest : List Token) → AreSome y → AtEnd (head rest) → first_is (begins_word (codes "hints")) (bare (hints_tokens y) ++ rest) ≡ true
begins_hints None rest h n = absurd (let f : false ≡ true = h.0 in cc)
begins_hints (Some hs) rest h n = refl

no_hints : (y : Option (List HintTree)) (rest : List Token) → AreNone y → AtEnd (head rest) → first_is (begins_word (codes "hints")) (bare (hints_tokens y) ++ rest) ≡ false
no_hints None rest h n = ended (codes "hints") (head rest) n
no_hints (Some hs) rest h n = absurd (let f : Some hs ≡ None = h.0 in cc)

hints_part : Part hints_at hints_tokens IsHints AtEnd
hints_part = either (begins_word (codes "hints")) some_part none_part to_hints from_hints begins_hints no_hints

-- behind the functions stand hints or the end
no_function : (y : Option (List HintTree)) (rest : List Token) → NotAt begins_function (head (bare (hints_tokens y ++ (End, None) ∷ []) ++ rest))
no_function None rest = refl
no_function (Some hs) rest = refl

-- ---- jobs

abbrev job_of : SchemaTree → SchemaTree → List FunctionTree → Option (List HintTree) → JobTree
job_of a b fs hs = record { source = a; target = b; functions = fs; hints = hs }

pub job_part : Part job_at job_tokens IsJobTree Any
unfolding job_at word_at end_at
job_part =
    let chain = fixed (λ (j : JobTree). Unit {0}) (reads_word (codes "old")) (Word (codes "old")) None (word_reader (codes "old"))
    (whole (λ (j : JobTree). j.source) (λ j. Unit {0}) schema_part
    (λ a. fixed (λ (j : JobTree). (j.source ≡ a) × Unit {0}) (reads_word (codes "new")) (Word (codes "new")) None (word_reader (codes "new"))
    (whole (λ (j : JobTree). j.target) (λ j. (j.source ≡ a) × Unit {0}) schema_part
    (λ b. fixed (λ (j : JobTree). (j.target ≡ b) × ((j.source ≡ a) × Unit {0})) (reads_word (codes "program")) (Word (codes "program")) None (word_reader (codes "program"))
    (whole (λ (j : JobTree). j.functions) (λ j. (j.target ≡ b) × ((j.source ≡ a) × Unit {0})) functions_part
    (λ fs. whole (λ (j : JobTree). j.hints) (λ j. (j.functions ≡ fs) × ((j.target ≡ b) × ((j.source ≡ a) × Unit {0}))) hints_part
    (λ hs. fixed (λ (j : JobTree). (j.hints ≡ hs) × ((j.functions ≡ fs) × ((j.target ≡ b) × ((j.source ≡ a) × Unit {0})))) reads_end End None end_reader
    (made (job_of a b fs hs) (λ (j : JobTree). (j.hints ≡ hs) × ((j.functions ≡ fs) × ((j.target ≡ b) × ((j.source ≡ a) × Unit {0})))) Any (refl, (refl, (refl, (refl, tt))))
    (λ j e. ap (λ x. job_of x j.target j.functions j.hints) e.1.1.1.0 ∙ ap (λ x. job_of a x j.functions j.hints) e.1.1.0 ∙ ap (λ x. job_of a b x j.hints) e.1.0 ∙ ap (λ x. job_of a b fs x) e.0)))
    (λ j rest g n. refl))
    (λ j rest g n. no_function j.hints rest)))
    (λ j rest g n. (refl, refl))))
    (λ j rest g n. (refl, refl))) in
    refit job_at job_tokens (λ j. Unit {0} × (IsSchema j.source × (IsSchema j.target × (AllByRecursion IsFunction j.functions × (IsHints j.hints × Unit {0}))))) IsJobTree Any
    (λ j h. record { source = h.1.0; target = h.1.1.0; functions = h.1.1.1.0; hints = h.1.1.1.1.0 }) (λ j h. (tt, (h.source, (h.target, (h.functions, (h.hints, tt)))))) chain

-- ---- programs

pub program_part : Part program_at program_tokens (AllByRecursion IsFunction) Any
unfolding program_at end_at
program_part =
    let chain = whole (λ (fs : List FunctionTree). fs) (λ fs. Unit {0}) functions_part
    (λ fs. fixed (λ (gs : List FunctionTree). (gs ≡ fs) × Unit {0}) reads_end End None end_reader
    (made fs (λ (gs : List FunctionTree). (gs ≡ fs) × Unit {0}) Any (refl, tt) (λ gs e. e.0)))
    (λ fs rest g n. refl) in
    refit program_at program_tokens (λ fs. Unit {0} × (AllByRecursion IsFunction fs × Unit {0})) (AllByRecursion IsFunction) Any (λ fs h. h.1.0) (λ fs h. (tt, (h, tt))) chain
