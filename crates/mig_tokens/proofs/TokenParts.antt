-- Each kind of token that is read as a value.
use Rattle.std.proofs.Common.{◌≡◌, ℕ, Bool, true, false, cond, List, Option, Some, None, codes, ◌⊎◌, inl, inr, refl, ap, subst}
use Rattle.std.specs.Str.{bytes_eq}
use Rattle.std.proofs.lemmas.Slice.Eq.{bytes_eq-Decides}
use Rattle.mig_tokens.specs.declared.token.Token.{Token}
use Rattle.mig_tokens.specs.declared.token.Token.TheVariants.{Word, Int, Text, Sign, Bad, End}
use Rattle.mig_tokens.specs.Words.{is_reserved, IsName}
use Rattle.mig_tokens.specs.Pieces.{reads_word, reads_sign, reads_name, reads_int, reads_end}
use Rattle.mig_tokens.proofs.Steps.{Reader}

pub guard : {A : Type 0} (b : Bool) (x y : A) → cond b (Some x) None ≡ Some y → (b ≡ true) × (x ≡ y)
guard true x y e = (refl, cc)
guard false x y e = absurd cc

pub guard_not : {A : Type 0} (b : Bool) (x y : A) → cond b None (Some x) ≡ Some y → (b ≡ false) × (x ≡ y)
guard_not true x y e = absurd cc
guard_not false x y e = (refl, cc)

-- this word, or what is read otherwise
pub if_word : {A : Type 0} (v w : List ℕ) (x y : A) (other : Option A) → cond (bytes_eq v w) (Some x) other ≡ Some y → ((v ≡ w) × (x ≡ y)) ⊎ (other ≡ Some y)
if_word {A} v w x y other e = by_test (bytes_eq v w) refl e
  where
    by_test : (b : Bool) → bytes_eq v w ≡ b → cond b (Some x) other ≡ Some y → ((v ≡ w) × (x ≡ y)) ⊎ (other ≡ Some y)
    by_test true h e = inl ((bytes_eq-Decides v w).0 h, cc)
    by_test false h e = inr e

pub word_reader : (w : List ℕ) → Reader (reads_word w) (λ u. Word w) (λ u. Unit {0})
word_reader w = record { to = to; from = λ u f. ap (λ b. cond b (Some tt) None) ((bytes_eq-Decides w w).1 refl); example = tt; fits = tt }
  where
    to : (t : Token) (x : Unit {0}) → reads_word w t ≡ Some x → (t ≡ Word w) × Unit {0}
    to (Word v) x e = (ap Word ((bytes_eq-Decides v w).0 (guard (bytes_eq v w) tt x e).0), tt)
    to (Int v) x e = absurd cc
    to (Text v) x e = absurd cc
    to (Sign v) x e = absurd cc
    to Bad x e = absurd cc
    to End x e = absurd cc

pub sign_reader : (w : List ℕ) → Reader (reads_sign w) (λ u. Sign w) (λ u. Unit {0})
sign_reader w = record { to = to; from = λ u f. ap (λ b. cond b (Some tt) None) ((bytes_eq-Decides w w).1 refl); example = tt; fits = tt }
  where
    to : (t : Token) (x : Unit {0}) → reads_sign w t ≡ Some x → (t ≡ Sign w) × Unit {0}
    to (Sign v) x e = (ap Sign ((bytes_eq-Decides v w).0 (guard (bytes_eq v w) tt x e).0), tt)
    to (Int v) x e = absurd cc
    to (Text v) x e = absurd cc
    to (Word v) x e = absurd cc
    to Bad x e = absurd cc
    to End x e = absurd cc

pub end_reader : Reader reads_end (λ u. End) (λ u. Unit {0})
end_reader = record { to = to; from = λ u f. refl; example = tt; fits = tt }
  where
    to : (t : Token) (x : Unit {0}) → reads_end t ≡ Some x → (t ≡ End) × Unit {0}
    to (Sign v) x e = absurd cc
    to (Int v) x e = absurd cc
    to (Text v) x e = absurd cc
    to (Word v) x e = absurd cc
    to Bad x e = absurd cc
    to End x e = (refl, tt)

pub name_reader : Reader reads_name (λ v. Word v) IsName
name_reader = record { to = to; from = λ v h. ap (λ b. cond b None (Some v)) h; example = codes "a"; fits = refl }
  where
    to : (t : Token) (x : List ℕ) → reads_name t ≡ Some x → (t ≡ Word x) × IsName x
    to (Word v) x e =
        let g = guard_not (is_reserved v) v x e in
        (ap Word g.1, subst (λ (w : List ℕ). is_reserved w ≡ false) g.1 g.0)
    to (Int v) x e = absurd cc
    to (Text v) x e = absurd cc
    to (Sign v) x e = absurd cc
    to Bad x e = absurd cc
    to End x e = absurd cc

pub int_reader : Reader reads_int (λ v. Int v) (λ v. Unit {0})
int_reader = record { to = to; from = λ v h. refl; example = codes "1"; fits = tt }
  where
    to : (t : Token) (x : List ℕ) → reads_int t ≡ Some x → (t ≡ Int x) × Unit {0}
    to (Int v) x e = let is : v ≡ x = cc in (ap Int is, tt)
    to (Text v) x e = absurd cc
    to (Word v) x e = absurd cc
    to (Sign v) x e = absurd cc
    to Bad x e = absurd cc
    to End x e = absurd cc
