-- The tokens of bytes, one after the other.
use Rattle.std.proofs.Common.{◌≡◌, ℕ, List, [], ◌∷◌, ◌++◌, refl, sym, ap, ◌∙◌, subst, append_assoc}
use Rattle.mig_tokens.specs.declared.token.Token.{Token}
use Rattle.mig_tokens.specs.Bytes.{after_gap}
use Rattle.mig_tokens.specs.Tokens.{Lexes, first_token}

-- the same where no gap is first
abbrev pub LexesFrom : List ℕ → List Token → Type 0
LexesFrom rest [] = rest ≡ []
LexesFrom rest (t ∷ ts) = (b : ℕ) × (bs : List ℕ) × (rest ≡ b ∷ bs) × ((first_token b bs).0 ≡ t) × Lexes (first_token b bs).1 ts

pub from_gap : (bytes : List ℕ) (ts : List Token) → LexesFrom (after_gap bytes) ts → Lexes bytes ts
from_gap bytes [] h = h
from_gap bytes (t ∷ ts) h = h

pub to_gap : (bytes : List ℕ) (ts : List Token) → Lexes bytes ts → LexesFrom (after_gap bytes) ts
to_gap bytes [] h = h
to_gap bytes (t ∷ ts) h = h

-- what is left stands for the tokens that are still to come
abbrev pub Completes : List ℕ → List Token → List ℕ → Type 0
Completes bytes tokens rest = (ts : List Token) → LexesFrom rest ts → Lexes bytes (tokens ++ ts)

pub completes_more : (bytes : List ℕ) (tokens : List Token) (rest after : List ℕ) (b : ℕ) (bs : List ℕ) (t : Token)
    → Completes bytes tokens rest → rest ≡ b ∷ bs → (t, after) ≡ first_token b bs → Completes bytes (tokens ++ t ∷ []) (after_gap after)
completes_more bytes tokens rest after b bs t h is found ts from =
    let token-is : (first_token b bs).0 ≡ t = ap (λ (p : Token × List ℕ). p.0) (sym found) in
    let after-is : after ≡ (first_token b bs).1 = ap (λ (p : Token × List ℕ). p.1) found in
    rw append_assoc (h (t ∷ ts) (b, bs, is, token-is, subst (λ (r : List ℕ). Lexes r ts) after-is (from_gap after ts from)))

-- bytes have one list of tokens
pub one_list : (bytes : List ℕ) (xs ys : List Token) → Lexes bytes xs → Lexes bytes ys → xs ≡ ys
one_list bytes [] [] g h = refl
one_list bytes [] (y ∷ ys) g h = absurd (elim-nil (sym g ∙ h.2))
  where
    elim-nil : {b : ℕ} {bs : List ℕ} → [] ≡ b ∷ bs → ⊥
    elim-nil e = cc
one_list bytes (x ∷ xs) [] g h = absurd (elim-cons (sym h ∙ g.2))
  where
    elim-cons : {b : ℕ} {bs : List ℕ} → [] ≡ b ∷ bs → ⊥
    elim-cons e = cc
one_list bytes (x ∷ xs) (y ∷ ys) g h =
    let same : g.0 ∷ g.1 ≡ h.0 ∷ h.1 = sym g.2 ∙ h.2 in
    let b-is : g.0 ≡ h.0 = cc in
    let bs-is : g.1 ≡ h.1 = cc in
    let found : first_token g.0 g.1 ≡ first_token h.0 h.1 = cc in
    let head : x ≡ y = sym g.3 ∙ ap (λ (p : Token × List ℕ). p.0) found ∙ h.3 in
    let tail : xs ≡ ys = one_list (first_token h.0 h.1).1 xs ys (subst (λ (r : List ℕ). Lexes r xs) (ap (λ (p : Token × List ℕ). p.1) found) g.4) h.4 in
    cc
