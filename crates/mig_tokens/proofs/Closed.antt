-- The end stands last and once, in a text and in a spelling.
use Rattle.std.proofs.Common.{◌≡◌, ℕ, ◌+◌, ◌-◌, Bool, true, false, ◌&&◌, cond, List, [], ◌∷◌, ◌++◌, Option, Some, None, eqb, ltb, refl, sym, ap, ◌∙◌, subst}
use Rattle.std.specs.Str.{is_utf8}
use Rattle.mig_tokens.specs.declared.token.Token.{Token}
use Rattle.mig_tokens.specs.declared.token.Token.TheVariants.{End}
use Rattle.mig_base.specs.Digits.{is_digit}
use Rattle.mig_tokens.specs.Bytes.{is_letter, first_is, sign_len}
use Rattle.mig_tokens.specs.Marked.{Marked, bare}
use Rattle.mig_tokens.specs.Tokens.{Lexes, text_at, text_token, first_token}
use Rattle.mig_tokens.specs.Forms.{Before, numbered, behind_comma, led, listed}
use Rattle.mig_tokens.specs.Texts.{Lexed}
use Rattle.mig_tokens.proofs.Laws.{bare-append}
use Rattle.mig_tokens.proofs.Whole.{Closed}

abbrev is_plain : Token → Bool
is_plain End = false
is_plain _ = true

-- no end among them
abbrev pub Plain : List Token → Type 0
Plain [] = Unit {0}
Plain (t ∷ ts) = (is_plain t ≡ true) × Plain ts

plain-append : (a b : List Token) → Plain a → Plain b → Plain (a ++ b)
plain-append [] b h k = k
plain-append (t ∷ a) b h k = (h.0, plain-append a b h.1 k)

-- the end behind tokens that are plain is the last
pub last_end : (body a b : List Token) → Plain body → body ++ End ∷ [] ≡ a ++ End ∷ b → b ≡ []
last_end [] [] b h e = cc
last_end [] (t ∷ []) b h e = absurd cc
last_end [] (t ∷ u ∷ a) b h e = absurd cc
last_end (t ∷ body) [] b h e =
    let is : t ≡ End = cc in
    let plain : is_plain End ≡ true = ap is_plain (sym is) ∙ h.0 in
    absurd cc
last_end (t ∷ body) (u ∷ a) b h e =
    let rest : body ++ End ∷ [] ≡ a ++ End ∷ b = cc in
    last_end body a b h.1 rest

plain_cond : (c : Bool) (x y : Token × List ℕ) → is_plain x.0 ≡ true → is_plain y.0 ≡ true → is_plain (cond c x y).0 ≡ true
plain_cond true x y h k = h
plain_cond false x y h k = k

plain_text : (found : Option (List ℕ × List ℕ)) → is_plain (text_token found).0 ≡ true
plain_text None = refl
plain_text (Some x) = plain_cond (is_utf8 x.0) _ _ refl refl

plain_token : (b : ℕ) (bs : List ℕ) → is_plain (first_token b bs).0 ≡ true
plain_token b bs =
    plain_cond (is_letter b) _ _ refl (plain_cond (is_digit b) _ _ refl (plain_cond ((eqb b 45) && first_is is_digit bs) _ _ refl
    (plain_cond (eqb b 34) _ _ (plain_text (text_at bs)) (plain_cond (ltb 0 (sign_len b bs)) _ _ refl refl))))

plain_body : (bytes : List ℕ) (ts : List Token) → Lexes bytes ts → Plain ts
plain_body bytes [] h = tt
plain_body bytes (t ∷ ts) h = (ap is_plain (sym h.3) ∙ plain_token h.0 h.1, plain_body (first_token h.0 h.1).1 ts h.4)

pub closed : (bytes : List ℕ) (ts : List Token) → Lexed bytes ts → Closed ts
closed bytes ts l = record { body = l.body; is = l.is; once = λ a b e. last_end l.body a b (plain_body bytes l.body l.lexes) (sym l.is ∙ e) }

-- ---- spellings

-- no end among these
abbrev pub Inner : List Marked → Type 0
Inner ms = Plain (bare ms)

pub both : (a b : List Marked) → Inner a → Inner b → Inner (a ++ b)
both a b h k = subst Plain (sym (bare-append a b)) (plain-append (bare a) (bare b) h k)

pub plain_numbered : {A : Type 0} (takes : A → ℕ) (spell : Before → A → List Marked) → ((s : Before) (x : A) → Inner (spell s x)) → (s : Before) (xs : List A) → Inner (numbered takes spell s xs)
plain_numbered takes spell h s [] = tt
plain_numbered takes spell h s (x ∷ xs) = both (spell s x) _ (h s x) (plain_numbered takes spell h (s.0 + 1, s.1 - takes x) xs)

pub plain_led : {A : Type 0} (takes : A → ℕ) (first other : Before → A → List Marked) → ((s : Before) (x : A) → Inner (first s x)) → ((s : Before) (x : A) → Inner (other s x)) → (s : Before) (xs : List A) → Inner (led takes first other s xs)
plain_led takes first other h g s [] = tt
plain_led takes first other h g s (x ∷ xs) = both (first s x) _ (h s x) (plain_numbered takes other g (s.0 + 1, s.1 - takes x) xs)

pub plain_listed : {A : Type 0} (takes : A → ℕ) (spell : Before → A → List Marked) → ((s : Before) (x : A) → Inner (spell s x)) → (s : Before) (xs : List A) → Inner (listed takes spell s xs)
plain_listed takes spell h s xs = plain_led takes spell (behind_comma spell) h (λ k x. (refl, h k x)) s xs
