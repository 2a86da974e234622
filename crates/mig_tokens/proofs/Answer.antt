-- The answer for a text, by what reading gave.
use Rattle.std.proofs.Common.{◌≡◌, ℕ, List, [], ◌∷◌, ◌++◌, None, Ok, Err, inl, inr, refl, sym, ap, ◌∙◌, arith}
use Rattle.mig_tokens.specs.declared.token.Token.{Token}
use Rattle.mig_tokens.specs.declared.token.Token.TheVariants.{End}
use Rattle.mig_schema.specs.declared.limits.Limit.{Limit}
use Rattle.mig_tokens.specs.declared.fault.ReadError.{ReadError}
use Rattle.mig_tokens.specs.declared.fault.ReadError.TheVariants as error
use Rattle.mig_tokens.specs.Marked.{Marked, bare}
use Rattle.mig_tokens.specs.Reading.{Read, Took, Wrong, Past}
use Rattle.mig_tokens.specs.Given.{Fails}
use Rattle.mig_tokens.specs.Texts.{Lexed, IsTextOf, IsWrongIn, IsPastIn, IsAnswerIn}
use Rattle.mig_tokens.proofs.Laws.{Law, Any}
use Rattle.mig_tokens.proofs.LexLemmas.{one_list}
use Rattle.mig_tokens.proofs.Closed.{closed}
use Rattle.mig_tokens.proofs.Steps.{Spelt}
use Rattle.mig_tokens.proofs.Whole.{found, is_text, wrong, is_wrong, past, is_past}

pub one_text : (bytes : List ℕ) (xs ys : List Token) → Lexed bytes xs → Lexed bytes ys → xs ≡ ys
one_text bytes xs ys a b = a.is ∙ ap (λ ts. ts ++ End ∷ []) (one_list bytes a.body b.body a.lexes b.lexes) ∙ sym b.is

module _ {A : Type 0} (R : List Token → Read A) (spell : A → List Marked) (Fits : A → Type 0) (law : Law R (Spelt spell Fits) Any)
    (last : (x : A) → Fits x → (body : List Marked) × (spell x ≡ body ++ (End, None) ∷ []))
    (once : (x : A) (a b : List Token) → Fits x → bare (spell x) ≡ a ++ End ∷ b → b ≡ [])
    (bytes : List ℕ) (ts : List Token) (lexed : Lexed bytes ts) where
  memory : IsAnswerIn spell Fits bytes (Err error.Memory)
  memory = record {
    found = tt;
    only = λ x h. inr refl;
    wrong = λ l e. absurd cc;
    only_wrong = λ l h. inr refl;
    past = λ w l e. absurd cc;
    only_past = λ w l h. inr refl;
  }

  text_found : (x : A) (rest : List Token) → R ts ≡ Took x rest → IsTextOf spell Fits bytes x
  text_found x rest e = record { tokens = ts; lexed = lexed; text = found R spell Fits law last once ts x rest (closed bytes ts lexed) e }

  text_read : (x : A) → IsTextOf spell Fits bytes x → R ts ≡ Took x []
  text_read x h = ap R (one_text bytes ts h.tokens lexed h.lexed) ∙ is_text R spell Fits law last once h.tokens x h.text

  wrong_found : (left : ℕ) → R ts ≡ Wrong left → IsWrongIn spell Fits bytes left
  wrong_found left e =
      let w = wrong R spell Fits law last once ts left (closed bytes ts lexed) e in
      record { tokens = ts; lexed = lexed; before = w.0; count = w.1; wrong = w.2 }

  past_found : (which : Limit) (left : ℕ) → R ts ≡ Past which left → IsPastIn spell Fits which bytes left
  past_found which left e =
      let w = past R spell Fits law last once ts which left e in
      record { tokens = ts; lexed = lexed; before = w.0; count = w.1; past = w.2 }

  wrong_read : (left : ℕ) → IsWrongIn spell Fits bytes left → R ts ≡ Wrong left
  wrong_read left h =
      let same = one_text bytes ts h.tokens lexed h.lexed in
      let w = is_wrong R spell Fits law last once h.tokens h.before (closed bytes h.tokens h.lexed) h.wrong in
      let left-is : w.0 ≡ left = omega (arith, w.1, h.count) in
      ap R same ∙ w.2 ∙ ap Wrong left-is

  past_read : (which : Limit) (left : ℕ) → IsPastIn spell Fits which bytes left → R ts ≡ Past which left
  past_read which left h =
      let same = one_text bytes ts h.tokens lexed h.lexed in
      let w = is_past R spell Fits law last once h.tokens which h.before h.past in
      let left-is : w.0 ≡ left = omega (arith, w.1, h.count) in
      ap R same ∙ w.2 ∙ ap (Past which) left-is

  pub took : (s : A) (rest : List Token) → R ts ≡ Took s rest → IsAnswerIn spell Fits bytes (Ok s)
  took s rest e = record {
    found = text_found s rest e;
    only = λ x h. let k = text_read x h in let same : s ≡ x = cc in inl (ap Ok same);
    wrong = λ l f. absurd cc;
    only_wrong = λ l h. let k = wrong_read l h in absurd cc;
    past = λ w l f. absurd cc;
    only_past = λ w l h. let k = past_read w l h in absurd cc;
  }

  pub failed : (e : ReadError) → Fails e (R ts) → IsAnswerIn spell Fits bytes (Err e)
  failed error.Memory e = memory
  failed (error.At left) e = record {
    found = tt;
    only = λ x h. let k = text_read x h in absurd cc;
    wrong = λ l f. let same : left ≡ l = cc in wrong_found l (e ∙ ap Wrong same);
    only_wrong = λ l h. let k = wrong_read l h in let same : left ≡ l = cc in inl (ap (λ x. Err (error.At x)) same);
    past = λ w l f. absurd cc;
    only_past = λ w l h. let k = past_read w l h in absurd cc;
  }
  failed (error.Limit which left) e = record {
    found = tt;
    only = λ x h. let k = text_read x h in absurd cc;
    wrong = λ l f. absurd cc;
    only_wrong = λ l h. let k = wrong_read l h in absurd cc;
    past = λ w l f. let same : which ≡ w = cc in let left-is : left ≡ l = cc in past_found w l (e ∙ ap (λ x. Past x left) same ∙ ap (Past w) left-is);
    only_past = λ w l h. let k = past_read w l h in let same : which ≡ w = cc in let left-is : left ≡ l = cc in inl (ap (λ x. Err (error.Limit x left)) same ∙ ap (λ x. Err (error.Limit w x)) left-is);
  }
