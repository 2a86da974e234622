-- The answer with lines and columns, by the answer in tokens.
use Rattle.std.proofs.Common.{◌≡◌, ℕ, ◌+◌, ◌-◌, List, ◌∷◌, length, Ok, Err, inl, inr, refl, sym, ap, ◌∙◌, subst, arith}
use Rattle.std.proofs.lemmas.List.{length-append}
use Rattle.mig_tokens.specs.declared.token.Token.{Token}
use Rattle.mig_schema.specs.declared.limits.Limit.{Limit}
use Rattle.mig_tokens.specs.declared.fault.ReadError.{ReadError}
use Rattle.mig_tokens.specs.declared.fault.ReadError.TheVariants as error
use Rattle.mig_tokens.specs.declared.fault.Misread.TheVariants as fault
use Rattle.mig_tokens.specs.Marked.{Marked}
use Rattle.mig_tokens.specs.Place.{place}
use Rattle.mig_tokens.specs.Texts.{Lexed, IsWrongIn, IsPastIn, IsAnswerIn}
use Rattle.mig_tokens.specs.Refused.{StandsWrong, StandsPast, IsPlacedAnswer, placed}
use Rattle.mig_tokens.proofs.Answer.{one_text}

module _ {A : Type 0} (spell : A → List Marked) (Fits : A → Type 0) (bytes : List ℕ) (ts : List Token) (lexed : Lexed bytes ts) where
  -- so many tokens stand before the place
  before_is : (xs : List Token) (before left : ℕ) → Lexed bytes xs → before + left ≡ length xs → length ts - left ≡ before
  before_is xs before left l sum =
      let same : length xs ≡ length ts = ap length (one_text bytes xs ts l lexed) in
      omega arith

  wrong_place : (left : ℕ) → IsWrongIn spell Fits bytes left → StandsWrong spell Fits bytes (place (length ts - left) bytes).0 (place (length ts - left) bytes).1
  wrong_place left w = record {
    tokens = w.tokens;
    lexed = w.lexed;
    before = w.before;
    wrong = w.wrong;
    at = ap (λ n. place n bytes) (before_is w.tokens w.before left w.lexed w.count);
  }

  past_place : (which : Limit) (left : ℕ) → IsPastIn spell Fits which bytes left → StandsPast spell Fits which bytes (place (length ts - left) bytes).0
  past_place which left w = record {
    tokens = w.tokens;
    lexed = w.lexed;
    before = w.before;
    past = w.past;
    at = ap (λ n. (place n bytes).0) (before_is w.tokens w.before left w.lexed w.count);
  }

  -- a first wrong token has a number of tokens that are left
  left_wrong : (line column : ℕ) → StandsWrong spell Fits bytes line column → (left : ℕ) × IsWrongIn spell Fits bytes left × ((line, column) ≡ place (length ts - left) bytes)
  left_wrong line column w =
      let k = w.wrong in
      let left = length (k.token ∷ k.after) in
      let sum : w.before + left ≡ length w.tokens = omega (arith, ap length k.is, k.count, length-append k.before (k.token ∷ k.after)) in
      (left, record { tokens = w.tokens; lexed = w.lexed; before = w.before; count = sum; wrong = w.wrong }, w.at ∙ ap (λ n. place n bytes) (sym (before_is w.tokens w.before left w.lexed sum)))

  left_past : (which : Limit) (line : ℕ) → StandsPast spell Fits which bytes line → (left : ℕ) × IsPastIn spell Fits which bytes left × (line ≡ (place (length ts - left) bytes).0)
  left_past which line w =
      let k = w.past in
      let left = length (k.token ∷ k.after) in
      let sum : w.before + left ≡ length w.tokens = omega (arith, ap length k.is, k.count, length-append k.before (k.token ∷ k.after)) in
      (left, record { tokens = w.tokens; lexed = w.lexed; before = w.before; count = sum; past = w.past }, w.at ∙ ap (λ n. (place n bytes).0) (sym (before_is w.tokens w.before left w.lexed sum)))

  pub memory : IsPlacedAnswer spell Fits bytes (Err fault.Memory)
  memory = record {
    found = tt;
    only = λ x h. inr refl;
    wrong = λ l c e. absurd cc;
    only_wrong = λ l c h. inr refl;
    past = λ w l e. absurd cc;
    only_past = λ w l h. inr refl;
  }

  pub took : (x : A) → IsAnswerIn spell Fits bytes (Ok x) → IsPlacedAnswer spell Fits bytes (Ok x)
  took x a = record {
    found = a.found;
    only = λ y h. elim (a.only y h) [ inl e ↦ let same : x ≡ y = cc in inl (ap (λ (z : A). Ok z) same) | inr e ↦ absurd cc ];
    wrong = λ l c e. absurd cc;
    only_wrong = λ l c h. let k = left_wrong l c h in elim (a.only_wrong k.0 k.1) [ inl e ↦ absurd cc | inr e ↦ absurd cc ];
    past = λ w l e. absurd cc;
    only_past = λ w l h. let k = left_past w l h in elim (a.only_past w k.0 k.1) [ inl e ↦ absurd cc | inr e ↦ absurd cc ];
  }

  pub failed : (e : ReadError) → IsAnswerIn spell Fits bytes (Err e) → IsPlacedAnswer spell Fits bytes (Err (placed bytes (length ts) e))
  failed error.Memory a = memory
  failed (error.At left) a = record {
    found = tt;
    only = λ y h. elim (a.only y h) [ inl e ↦ absurd cc | inr e ↦ absurd cc ];
    wrong = λ l c e.
        let line : (place (length ts - left) bytes).0 ≡ l = cc in
        let column : (place (length ts - left) bytes).1 ≡ c = cc in
        subst (λ (n : ℕ). StandsWrong spell Fits bytes l n) column (subst (λ (n : ℕ). StandsWrong spell Fits bytes n (place (length ts - left) bytes).1) line (wrong_place left (a.wrong left refl)));
    only_wrong = λ l c h.
        let k = left_wrong l c h in
        elim (a.only_wrong k.0 k.1) [
          | inl e ↦ let same : left ≡ k.0 = cc in
              let at : place (length ts - left) bytes ≡ (l, c) = ap (λ n. place (length ts - n) bytes) same ∙ sym k.2 in
              inl (ap (λ (p : ℕ × ℕ). Err (fault.At p.0 p.1)) at)
          | inr e ↦ absurd cc
        ];
    past = λ w l e. absurd cc;
    only_past = λ w l h. let k = left_past w l h in elim (a.only_past w k.0 k.1) [ inl e ↦ absurd cc | inr e ↦ absurd cc ];
  }
  failed (error.Limit which left) a = record {
    found = tt;
    only = λ y h. elim (a.only y h) [ inl e ↦ absurd cc | inr e ↦ absurd cc ];
    wrong = λ l c e. absurd cc;
    only_wrong = λ l c h. let k = left_wrong l c h in elim (a.only_wrong k.0 k.1) [ inl e ↦ absurd cc | inr e ↦ absurd cc ];
    past = λ w l e.
        let same : which ≡ w = cc in
        let line : (place (length ts - left) bytes).0 ≡ l = cc in
        subst (λ (n : ℕ). StandsPast spell Fits w bytes n) line (subst (λ (v : Limit). StandsPast spell Fits v bytes (place (length ts - left) bytes).0) same (past_place which left (a.past which left refl)));
    only_past = λ w l h.
        let k = left_past w l h in
        elim (a.only_past w k.0 k.1) [
          | inl e ↦ let same : left ≡ k.0 = cc in
              let limit : which ≡ w = cc in
              let line : (place (length ts - left) bytes).0 ≡ l = ap (λ n. (place (length ts - n) bytes).0) same ∙ sym k.2 in
              inl (ap (λ (v : Limit). Err (fault.Limit v (place (length ts - left) bytes).0)) limit ∙ ap (λ n. Err (fault.Limit w n)) line)
          | inr e ↦ absurd cc
        ];
  }
