-- The laws of what is shown of pairs, and of whole certificates.
use Rattle.std.proofs.Common.{◌≡◌, ℕ, Bool, true, false, cond, List, [], ◌∷◌, ◌++◌, Option, Some, None, codes, decimal, ◌⊎◌, inl, inr, refl, sym, ap, ◌∙◌, subst}
use Rattle.std.specs.List.{AllByRecursion}
use Rattle.std.proofs.lemmas.List.{append-nil}
use Rattle.std.proofs.lemmas.Slice.Eq.{bytes_eq-Decides}
use Rattle.mig_tokens.specs.declared.token.Token.{Token}
use Rattle.mig_tokens.specs.declared.token.Token.TheVariants.{Word, Int, Text, Sign, Bad, End}
use Rattle.mig_tokens.specs.Marked.{Marked, bare, head, is_at, first_is}
use Rattle.mig_tokens.specs.Forms.{Before, start, no_room, word, name, numbered}
use Rattle.mig_tokens.specs.Limits.{first_of, name_mark}
use Rattle.mig_tokens.specs.Words.{IsName}
use Rattle.mig_tokens.specs.Reading.{many_at}
use Rattle.mig_tokens.specs.Pieces.{reads_name, reads_end, begins_word, next, word_at, sign_at, name_at, end_at}
use Rattle.mig_steps.specs.declared.steps.Step.{Step}
use Rattle.mig_certificate.specs.declared.proofs.Claim.{Claim}
use Rattle.mig_certificate.specs.declared.proofs.Claim.TheVariants.{Holds, Answers}
use Rattle.mig_certificate.specs.declared.proofs.Entry.{Entry}
use Rattle.mig_certificate.specs.declared.proofs.PairProof.{PairProof}
use Rattle.mig_tokens.proofs.Laws.{Any}
use Rattle.mig_tokens.proofs.Steps.{Part, refit, made, valued, fixed, whole}
use Rattle.mig_tokens.proofs.ListParts.{many_part}
use Rattle.mig_tokens.proofs.Choice.{either, respell}
use Rattle.mig_tokens.proofs.TokenParts.{name_reader, end_reader}
use Rattle.mig_tokens.proofs.Firsts.{NotAt, AtWord, other_word}
use Rattle.mig_reading.specs.declared.tree.FactTree.{FactTree}
use Rattle.mig_reading.specs.declared.tree.CertificateTree.{CertificateTree}
use Rattle.mig_reading.specs.Spelling.{space, feed, number_marked, step_tokens, claim_tokens, entry_tokens, pair_tokens, certificate_tokens}
use Rattle.mig_reading.specs.Shapes.{IsNumber, IsFact, IsStep, IsClaim, IsEntry, IsPair, IsCertificate}
use Rattle.mig_reading.specs.ReadingWords.{reads_number, number_at}
use Rattle.mig_reading.specs.ReadingPairs.{holds_at, answers_at, claim_at, begins_entry, entry_at, pair_at, pairs_at, last_lines_at, later_lines_at, certificate_at}
use Rattle.mig_reading.proofs.Readers.{number_reader, sign_step, word_step}
use Rattle.mig_reading.proofs.FactParts.{facts_part}
use Rattle.mig_reading.proofs.StepParts.{NoStep, steps_part}

-- ---- claims

abbrev is_holds : Claim → Bool
is_holds (Holds k) = true
is_holds Answers = false

abbrev number_in : Claim → ℕ
number_in (Holds k) = k
number_in Answers = 0

holds_is : (k : ℕ) (y : Claim) → (number_in y ≡ k) × (is_holds y ≡ true) → y ≡ Holds k
holds_is k (Holds l) e = ap Holds e.0
holds_is k Answers e = absurd (let f : false ≡ true = e.1 in cc)

answers_is : (y : Claim) → is_holds y ≡ false → y ≡ Answers
answers_is (Holds k) e = absurd (let f : true ≡ false = e in cc)
answers_is Answers e = refl

abbrev holds_tokens : Claim → List Marked
holds_tokens y = word (codes "holds") ∷ space ∷ number_marked None (number_in y) ∷ []

abbrev AreHeld : Claim → Type 0
AreHeld y = (is_holds y ≡ true) × (IsNumber (number_in y) × Unit {0})

abbrev AreAnswers : Claim → Type 0
AreAnswers y = (is_holds y ≡ false) × Unit {0}

holds_spelt : (y : Claim) → AreHeld y → holds_tokens y ≡ claim_tokens y
holds_spelt (Holds k) h = refl
holds_spelt Answers h = absurd (let f : false ≡ true = h.0 in cc)

answers_spelt : (y : Claim) → AreAnswers y → word (codes "answers") ∷ [] ≡ claim_tokens y
answers_spelt (Holds k) h = absurd (let f : true ≡ false = h.0 in cc)
answers_spelt Answers h = refl

holds_part : Part holds_at claim_tokens AreHeld Any
unfolding holds_at word_at sign_at number_at
holds_part =
    let chain = word_step (codes "holds") None (λ (y : Claim). is_holds y ≡ true)
    (sign_step (codes " ") (λ (y : Claim). is_holds y ≡ true)
    (valued number_in (λ (y : Claim). is_holds y ≡ true) reads_number (λ n. Int (decimal n)) IsNumber (λ n. None) number_reader
    (λ k. made (Holds k) (λ (y : Claim). (number_in y ≡ k) × (is_holds y ≡ true)) Any (refl, refl) (holds_is k)))) in
    respell claim_tokens holds_spelt chain

answers_part : Part answers_at claim_tokens AreAnswers Any
unfolding answers_at word_at
answers_part =
    let chain = word_step (codes "answers") None (λ (y : Claim). is_holds y ≡ false) (made Answers (λ (y : Claim). is_holds y ≡ false) Any refl answers_is) in
    respell claim_tokens answers_spelt chain

to_claim : (y : Claim) → AreHeld y ⊎ AreAnswers y → IsClaim y
to_claim (Holds k) (inl h) = h.1.0
to_claim (Holds k) (inr h) = absurd (let f : true ≡ false = h.0 in cc)
to_claim Answers h = tt

from_claim : (y : Claim) → IsClaim y → AreHeld y ⊎ AreAnswers y
from_claim (Holds k) h = inl (refl, (h, tt))
from_claim Answers h = inr (refl, tt)

begins_holds : (y : Claim) (rest : List Token) → AreHeld y → Any (head rest) → first_is (begins_word (codes "holds")) (bare (claim_tokens y) ++ rest) ≡ true
begins_holds (Holds k) rest h n = refl
begins_holds Answers rest h n = absurd (let f : false ≡ true = h.0 in cc)

begins_answers : (y : Claim) (rest : List Token) → AreAnswers y → Any (head rest) → first_is (begins_word (codes "holds")) (bare (claim_tokens y) ++ rest) ≡ false
begins_answers (Holds k) rest h n = absurd (let f : true ≡ false = h.0 in cc)
begins_answers Answers rest h n = refl

claim_part : Part claim_at claim_tokens IsClaim Any
claim_part = either (begins_word (codes "holds")) holds_part answers_part to_claim from_claim begins_holds begins_answers

-- ---- entries

abbrev entry_of : Claim → List Step → List Step → Entry
entry_of c a b = record { claim = c; source = a; target = b }

abbrev chained_entry : Entry → List Marked
chained_entry e =
    claim_tokens e.claim ++ feed ∷ word (codes "old") ∷ feed ∷ (numbered no_room step_tokens start e.source ++ word (codes "new") ∷ feed ∷ (numbered no_room step_tokens start e.target ++ []))

entry_spelt : (s : Before) (e : Entry) → chained_entry e ≡ entry_tokens s e
entry_spelt s e =
    ap (λ m. claim_tokens e.claim ++ feed ∷ word (codes "old") ∷ feed ∷ (numbered no_room step_tokens start e.source ++ word (codes "new") ∷ feed ∷ m)) (append-nil (numbered no_room step_tokens start e.target))

entry_part : (s : Before) → Part (entry_at s) (entry_tokens s) IsEntry NoStep
unfolding entry_at word_at sign_at
entry_part s =
    let chain = whole (λ (e : Entry). e.claim) (λ e. Unit {0}) claim_part
    (λ c. sign_step (codes "\n") (λ (e : Entry). (e.claim ≡ c) × Unit {0})
    (word_step (codes "old") None (λ (e : Entry). (e.claim ≡ c) × Unit {0})
    (sign_step (codes "\n") (λ (e : Entry). (e.claim ≡ c) × Unit {0})
    (whole (λ (e : Entry). e.source) (λ e. (e.claim ≡ c) × Unit {0}) steps_part
    (λ a. word_step (codes "new") None (λ (e : Entry). (e.source ≡ a) × ((e.claim ≡ c) × Unit {0}))
    (sign_step (codes "\n") (λ (e : Entry). (e.source ≡ a) × ((e.claim ≡ c) × Unit {0}))
    (whole (λ (e : Entry). e.target) (λ e. (e.source ≡ a) × ((e.claim ≡ c) × Unit {0})) steps_part
    (λ b. made (entry_of c a b) (λ (e : Entry). (e.target ≡ b) × ((e.source ≡ a) × ((e.claim ≡ c) × Unit {0}))) NoStep (refl, (refl, (refl, tt)))
    (λ e i. ap (λ x. entry_of x e.source e.target) i.1.1.0 ∙ ap (λ x. entry_of c x e.target) i.1.0 ∙ ap (λ x. entry_of c a x) i.0))
    (λ e rest g n. n))))
    (λ e rest g n. refl)))))
    (λ e rest g n. tt) in
    respell (entry_tokens s) (λ e h. entry_spelt s e)
    (refit (entry_at s) chained_entry (λ e. Unit {0} × (IsClaim e.claim × (AllByRecursion IsStep e.source × (AllByRecursion IsStep e.target × Unit {0})))) IsEntry NoStep
    (λ e h. record { claim = h.1.0; source = h.1.1.0; target = h.1.1.1.0 }) (λ e h. (tt, (h.claim, (h.source, (h.target, tt))))) chain)

-- neither an entry nor a step is next
abbrev PairEnd : Option Token → Type 0
PairEnd o = NotAt begins_entry o × NoStep o

claim_begins : (c : Claim) (more : List Marked) (rest : List Token) → first_is begins_entry (bare (claim_tokens c ++ more) ++ rest) ≡ true
claim_begins (Holds k) more rest = refl
claim_begins Answers more rest = refl

word_is : (w : List ℕ) (o : Option Token) → AtWord w o → o ≡ Some (Word w)
word_is w None h = absurd cc
word_is w (Some (Word v)) h = ap (λ u. Some (Word u)) ((bytes_eq-Decides v w).0 h)
word_is w (Some (Int v)) h = absurd cc
word_is w (Some (Text v)) h = absurd cc
word_is w (Some (Sign v)) h = absurd cc
word_is w (Some Bad) h = absurd cc
word_is w (Some End) h = absurd cc

or_second : (x y : Bool) → cond x true y ≡ true → (x ≡ true) ⊎ (y ≡ true)
or_second true y e = inl refl
or_second false y e = inr e

-- an entry is no step
no_step : (o : Option Token) → is_at begins_entry o ≡ true → NoStep o
no_step None h = refl
no_step (Some t) h = by_word (or_second (begins_word (codes "holds") t) (begins_word (codes "answers") t) h)
  where
    by_word : (begins_word (codes "holds") t ≡ true) ⊎ (begins_word (codes "answers") t ≡ true) → NoStep (Some t)
    by_word (inl e) = subst NoStep (sym (word_is (codes "holds") (Some t) e)) refl
    by_word (inr e) = subst NoStep (sym (word_is (codes "answers") (Some t) e)) refl

entries_part : Part (many_at begins_entry entry_at (next no_room) start) (numbered no_room entry_tokens start) (AllByRecursion IsEntry) PairEnd
entries_part = many_part begins_entry no_room entry_at entry_tokens IsEntry NoStep PairEnd entry_part (λ s e rest h. claim_begins e.claim _ rest) no_step (λ o h. h.1) (λ o h. h.0) start

-- ---- pairs

abbrev pair_of : List ℕ → List Entry → PairProof
pair_of n es = record { name = n; entries = es }

abbrev chained_pair : PairProof → List Marked
chained_pair p = word (codes "pair") ∷ space ∷ name p.name ∷ feed ∷ (numbered no_room entry_tokens start p.entries ++ [])

pair_part : (s : Before) → Part (pair_at s) (pair_tokens s) IsPair PairEnd
unfolding pair_at word_at sign_at name_at
pair_part s =
    let chain = word_step (codes "pair") None (λ (p : PairProof). Unit {0})
    (sign_step (codes " ") (λ (p : PairProof). Unit {0})
    (valued (λ (p : PairProof). p.name) (λ p. Unit {0}) reads_name (λ v. Word v) IsName (λ v. first_of None (name_mark v)) name_reader
    (λ n. sign_step (codes "\n") (λ (p : PairProof). (p.name ≡ n) × Unit {0})
    (whole (λ (p : PairProof). p.entries) (λ p. (p.name ≡ n) × Unit {0}) entries_part
    (λ es. made (pair_of n es) (λ (p : PairProof). (p.entries ≡ es) × ((p.name ≡ n) × Unit {0})) PairEnd (refl, (refl, tt))
    (λ p e. ap (λ x. pair_of x p.entries) e.1.0 ∙ ap (λ x. pair_of n x) e.0))
    (λ p rest g n. n))))) in
    respell (pair_tokens s) (λ p h. ap (λ m. word (codes "pair") ∷ space ∷ name p.name ∷ feed ∷ m) (append-nil (numbered no_room entry_tokens start p.entries)))
    (refit (pair_at s) chained_pair (λ p. Unit {0} × (IsName p.name × (AllByRecursion IsEntry p.entries × Unit {0}))) IsPair PairEnd
    (λ p h. record { name = h.1.0; entries = h.1.1.0 }) (λ p h. (tt, (h.name, (h.entries, tt)))) chain)

-- the last line is next
abbrev AtLast : Option Token → Type 0
AtLast = AtWord (codes "end")

pair_ends : (o : Option Token) → AtWord (codes "pair") o → PairEnd o
pair_ends o h = subst PairEnd (sym (word_is (codes "pair") o h)) (refl, refl)

last_ends : (o : Option Token) → AtLast o → PairEnd o
last_ends o h = subst PairEnd (sym (word_is (codes "end") o h)) (refl, refl)

pairs_part : Part pairs_at (numbered no_room pair_tokens start) (AllByRecursion IsPair) AtLast
unfolding pairs_at
pairs_part = many_part (begins_word (codes "pair")) no_room pair_at pair_tokens IsPair PairEnd AtLast pair_part (λ s p rest h. refl) pair_ends last_ends (other_word (codes "end") (codes "pair") refl) start

-- ---- certificates

abbrev certificate_of : List FactTree → List PairProof → CertificateTree
certificate_of a b = record { invariants = a; pairs = b }

pub certificate_part : Part certificate_at certificate_tokens IsCertificate Any
unfolding certificate_at later_lines_at last_lines_at word_at sign_at end_at
certificate_part =
    let chain = word_step (codes "invariants") None (λ (c : CertificateTree). Unit {0})
    (sign_step (codes "\n") (λ (c : CertificateTree). Unit {0})
    (whole (λ (c : CertificateTree). c.invariants) (λ c. Unit {0}) facts_part
    (λ a. word_step (codes "certificate") None (λ (c : CertificateTree). (c.invariants ≡ a) × Unit {0})
    (sign_step (codes "\n") (λ (c : CertificateTree). (c.invariants ≡ a) × Unit {0})
    (whole (λ (c : CertificateTree). c.pairs) (λ c. (c.invariants ≡ a) × Unit {0}) pairs_part
    (λ b. word_step (codes "end") None (λ (c : CertificateTree). (c.pairs ≡ b) × ((c.invariants ≡ a) × Unit {0}))
    (sign_step (codes "\n") (λ (c : CertificateTree). (c.pairs ≡ b) × ((c.invariants ≡ a) × Unit {0}))
    (fixed (λ (c : CertificateTree). (c.pairs ≡ b) × ((c.invariants ≡ a) × Unit {0})) reads_end End None end_reader
    (made (certificate_of a b) (λ (c : CertificateTree). (c.pairs ≡ b) × ((c.invariants ≡ a) × Unit {0})) Any (refl, (refl, tt))
    (λ c e. ap (λ x. certificate_of x c.pairs) e.1.0 ∙ ap (λ x. certificate_of a x) e.0)))))
    (λ c rest g n. refl))))
    (λ c rest g n. refl))) in
    refit certificate_at certificate_tokens (λ c. Unit {0} × (AllByRecursion IsFact c.invariants × (AllByRecursion IsPair c.pairs × Unit {0}))) IsCertificate Any
    (λ c h. record { invariants = h.1.0; pairs = h.1.1.0 }) (λ c h. (tt, (h.invariants, (h.pairs, tt)))) chain
