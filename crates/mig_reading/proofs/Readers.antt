-- Each kind of piece that only certificates have, read as a value.
use Rattle.std.proofs.Common.{◌≡◌, ℕ, ◌≤◌, Bool, true, false, ◌&&◌, nat_le, cond, List, [], ◌∷◌, Option, Some, None, codes, decimal, ◌⊎◌, inl, inr, refl, sym, ap, ◌∙◌, arith}
use Rattle.std.specs.Str.{bytes_eq}
use Rattle.std.proofs.lemmas.Bool.{leb-true, le-leb}
use Rattle.std.proofs.lemmas.Slice.Eq.{bytes_eq-Decides}
use Rattle.mig_base.specs.Digits.{digits_from}
use Rattle.mig_schema.specs.declared.faults.Side.{Side}
use Rattle.mig_schema.specs.declared.faults.Side.TheVariants.{Old, New}
use Rattle.mig_tokens.specs.declared.token.Token.{Token}
use Rattle.mig_tokens.specs.declared.token.Token.TheVariants.{Word, Int, Text, Sign, Bad, End}
use Rattle.mig_steps.specs.declared.steps.Rule.{Rule}
use Rattle.mig_steps.specs.declared.steps.Rule.TheVariants as rule
use Rattle.mig_answer.specs.AnswerText.{side_text, rule_text}
use Rattle.mig_schema.specs.declared.limits.Limit.{Limit}
use Rattle.mig_tokens.specs.Marked.{Marked}
use Rattle.mig_tokens.specs.Reading.{Read, token_at, bind_at}
use Rattle.mig_tokens.specs.Pieces.{reads_word, reads_sign}
use Rattle.mig_tokens.proofs.Laws.{Any}
use Rattle.mig_tokens.proofs.Steps.{Reader, Part, fixed, one_token}
use Rattle.mig_tokens.proofs.TokenParts.{guard, if_word, word_reader, sign_reader}
use Rattle.mig_syntax.proofs.LexingBytes.{decimal_spells}
use Rattle.mig_reading.specs.declared.tree.Relation.{Relation}
use Rattle.mig_reading.specs.declared.tree.Relation.TheVariants.{Apart, Within}
use Rattle.mig_reading.specs.Spelling.{relation_text, number_marked}
use Rattle.mig_reading.specs.Shapes.{IsNumber}
use Rattle.mig_reading.specs.ReadingWords.{number_in, reads_number, side_of, reads_side, relation_of, reads_relation, later_rule_of, rule_of, reads_rule, number_at}

-- ---- numbers

both_true : (x y : Bool) → (x && y) ≡ true → (x ≡ true) × (y ≡ true)
both_true true y e = (refl, e)
both_true false y e = absurd cc

number_is : (v : List ℕ) (n : ℕ) → number_in v ≡ Some n → (v ≡ decimal n) × IsNumber n
number_is v n e =
    let d = digits_from 0 v in
    let g = guard (nat_le d 4294967295 && bytes_eq (decimal d) v) d n e in
    let k = both_true (nat_le d 4294967295) (bytes_eq (decimal d) v) g.0 in
    let small : d ≤ 4294967295 = leb-true d 4294967295 k.0 in
    let is : d ≡ n = g.1 in
    (sym ((bytes_eq-Decides (decimal d) v).0 k.1) ∙ ap decimal is, omega (arith, small, is))

number_of : (n : ℕ) → IsNumber n → number_in (decimal n) ≡ Some n
number_of n h =
    let is : digits_from 0 (decimal n) ≡ n = (decimal_spells n (omega arith)).number in
    let small : nat_le n 4294967295 ≡ true = le-leb n 4294967295 (omega arith) in
    ap (λ d. cond (nat_le d 4294967295 && bytes_eq (decimal d) (decimal n)) (Some d) None) is
    ∙ ap (λ b. cond (b && bytes_eq (decimal n) (decimal n)) (Some n) None) small
    ∙ ap (λ b. cond b (Some n) None) ((bytes_eq-Decides (decimal n) (decimal n)).1 refl)

pub number_reader : Reader reads_number (λ n. Int (decimal n)) IsNumber
number_reader = record { to = to; from = number_of; example = 0; fits = omega arith }
  where
    to : (t : Token) (x : ℕ) → reads_number t ≡ Some x → (t ≡ Int (decimal x)) × IsNumber x
    to (Int v) x e = let k = number_is v x e in (ap Int k.0, k.1)
    to (Word v) x e = absurd cc
    to (Text v) x e = absurd cc
    to (Sign v) x e = absurd cc
    to Bad x e = absurd cc
    to End x e = absurd cc

-- ---- words

module _ {A : Type 0} (text : A → List ℕ) (v : List ℕ) (x : A) where
  none : None ≡ Some x → v ≡ text x
  none f = absurd cc

  pick : (w : List ℕ) (y : A) (other : Option A) → (other ≡ Some x → v ≡ text x) → w ≡ text y → cond (bytes_eq v w) (Some y) other ≡ Some x → v ≡ text x
  pick w y other more is f = by_test (if_word v w y x other f)
    where
      by_test : ((v ≡ w) × (y ≡ x)) ⊎ (other ≡ Some x) → v ≡ text x
      by_test (inl h) = h.0 ∙ is ∙ ap text h.1
      by_test (inr r) = more r

side_is : (v : List ℕ) (x : Side) → side_of v ≡ Some x → v ≡ side_text x
side_is v x e = pick side_text v x (codes "old") Old _ (λ r. pick side_text v x (codes "new") New _ (none side_text v x) refl r) refl e

pub side_reader : Reader reads_side (λ s. Word (side_text s)) (λ s. Unit {0})
side_reader = record { to = to; from = from; example = Old; fits = tt }
  where
    to : (t : Token) (x : Side) → reads_side t ≡ Some x → (t ≡ Word (side_text x)) × Unit {0}
    to (Word v) x e = (ap Word (side_is v x e), tt)
    to (Int v) x e = absurd cc
    to (Text v) x e = absurd cc
    to (Sign v) x e = absurd cc
    to Bad x e = absurd cc
    to End x e = absurd cc

    from : (s : Side) → Unit {0} → reads_side (Word (side_text s)) ≡ Some s
    from Old h = refl
    from New h = refl

relation_is : (v : List ℕ) (x : Relation) → relation_of v ≡ Some x → v ≡ relation_text x
relation_is v x e = pick relation_text v x (codes "apart") Apart _ (λ r. pick relation_text v x (codes "within") Within _ (none relation_text v x) refl r) refl e

pub relation_reader : Reader reads_relation (λ r. Word (relation_text r)) (λ r. Unit {0})
relation_reader = record { to = to; from = from; example = Apart; fits = tt }
  where
    to : (t : Token) (x : Relation) → reads_relation t ≡ Some x → (t ≡ Word (relation_text x)) × Unit {0}
    to (Word v) x e = (ap Word (relation_is v x e), tt)
    to (Int v) x e = absurd cc
    to (Text v) x e = absurd cc
    to (Sign v) x e = absurd cc
    to Bad x e = absurd cc
    to End x e = absurd cc

    from : (r : Relation) → Unit {0} → reads_relation (Word (relation_text r)) ≡ Some r
    from Apart h = refl
    from Within h = refl

later_is : (v : List ℕ) (x : Rule) → later_rule_of v ≡ Some x → v ≡ rule_text x
later_is v x e =
    step (codes "alone") rule.Alone _ (λ r. step (codes "inside") rule.Inside _ (λ r. step (codes "never") rule.Never _ (λ r. step (codes "merge") rule.Merge _
    (λ r. step (codes "apart") rule.Apart _ (λ r. step (codes "lossless") rule.Lossless _ (λ r. step (codes "fold") rule.Fold _ (λ r. step (codes "foldin") rule.FoldIn _
    (λ r. step (codes "rejoin") rule.Rejoin _ (none rule_text v x) refl r) refl r) refl r) refl r) refl r) refl r) refl r) refl r) refl e
  where
    step : (w : List ℕ) (y : Rule) (other : Option Rule) → (other ≡ Some x → v ≡ rule_text x) → w ≡ rule_text y → cond (bytes_eq v w) (Some y) other ≡ Some x → v ≡ rule_text x
    step = pick rule_text v x

rule_is : (v : List ℕ) (x : Rule) → rule_of v ≡ Some x → v ≡ rule_text x
rule_is v x e =
    step (codes "stage") rule.Stage _ (λ r. step (codes "stagein") rule.StageIn _ (λ r. step (codes "dead") rule.Dead _ (λ r. step (codes "same") rule.Same _
    (λ r. step (codes "implied") rule.Implied _ (λ r. step (codes "lift") rule.Lift _ (λ r. step (codes "split") rule.Split _ (λ r. step (codes "found") rule.Found _
    (later_is v x) refl r) refl r) refl r) refl r) refl r) refl r) refl r) refl e
  where
    step : (w : List ℕ) (y : Rule) (other : Option Rule) → (other ≡ Some x → v ≡ rule_text x) → w ≡ rule_text y → cond (bytes_eq v w) (Some y) other ≡ Some x → v ≡ rule_text x
    step = pick rule_text v x

pub rule_reader : Reader reads_rule (λ r. Word (rule_text r)) (λ r. Unit {0})
rule_reader = record { to = to; from = from; example = rule.Stage; fits = tt }
  where
    to : (t : Token) (x : Rule) → reads_rule t ≡ Some x → (t ≡ Word (rule_text x)) × Unit {0}
    to (Word v) x e = (ap Word (rule_is v x e), tt)
    to (Int v) x e = absurd cc
    to (Text v) x e = absurd cc
    to (Sign v) x e = absurd cc
    to Bad x e = absurd cc
    to End x e = absurd cc

    from : (r : Rule) → Unit {0} → reads_rule (Word (rule_text r)) ≡ Some r
    from rule.Stage h = refl
    from rule.StageIn h = refl
    from rule.Dead h = refl
    from rule.Same h = refl
    from rule.Implied h = refl
    from rule.Lift h = refl
    from rule.Split h = refl
    from rule.Found h = refl
    from rule.Alone h = refl
    from rule.Inside h = refl
    from rule.Never h = refl
    from rule.Merge h = refl
    from rule.Apart h = refl
    from rule.Lossless h = refl
    from rule.Fold h = refl
    from rule.FoldIn h = refl
    from rule.Rejoin h = refl

-- ---- pieces that say nothing

-- a sign, and then what stands behind it
pub sign_step : {B : Type 0} {G : B → Type 0} {N : Option Token → Type 0} {q : List Token → Read B} {tail : B → List Marked} (w : List ℕ) (E : B → Type 0)
    → Part q tail (λ y. E y × G y) N
    → Part (bind_at (token_at (reads_sign w) (λ u. None)) (λ u. q)) (λ y. (Sign w, None) ∷ tail y) (λ y. E y × G y) N
sign_step w E = fixed E (reads_sign w) (Sign w) None (sign_reader w)

-- a word, and then what stands behind it
pub word_step : {B : Type 0} {G : B → Type 0} {N : Option Token → Type 0} {q : List Token → Read B} {tail : B → List Marked} (w : List ℕ) (m : Option Limit) (E : B → Type 0)
    → Part q tail (λ y. E y × G y) N
    → Part (bind_at (token_at (reads_word w) (λ u. m)) (λ u. q)) (λ y. (Word w, m) ∷ tail y) (λ y. E y × G y) N
word_step w m E = fixed E (reads_word w) (Word w) m (word_reader w)

-- a number alone
pub number_part : (m : Option Limit) → Part (number_at m) (λ n. number_marked m n ∷ []) IsNumber Any
unfolding number_at
number_part m = one_token reads_number (λ n. Int (decimal n)) IsNumber (λ n. m) number_reader
