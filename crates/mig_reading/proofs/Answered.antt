-- The answer for the bytes of a certificate, by what reading gave.
use Rattle.std.proofs.Common.{◌≡◌, ℕ, List, [], Ok, Err, inl, inr, refl, ap, ◌∙◌, arith}
use Rattle.mig_schema.specs.declared.limits.Limit.{Limit}
use Rattle.mig_tokens.specs.declared.token.Token.{Token}
use Rattle.mig_tokens.specs.declared.fault.ReadError.{ReadError}
use Rattle.mig_tokens.specs.declared.fault.ReadError.TheVariants as error
use Rattle.mig_tokens.specs.Reading.{Took, Wrong, Past}
use Rattle.mig_tokens.specs.Given.{Fails}
use Rattle.mig_tokens.proofs.Whole as whole
use Rattle.mig_reading.specs.declared.tree.CertificateTree.{CertificateTree}
use Rattle.mig_reading.specs.Pieces.{pieces_to_end}
use Rattle.mig_reading.specs.Spelling.{certificate_tokens}
use Rattle.mig_reading.specs.Shapes.{IsCertificate}
use Rattle.mig_reading.specs.ReadingPairs.{certificate_at}
use Rattle.mig_reading.specs.Texts.{IsCertificateText, IsWrongPiece, IsPastPiece, IsPieceAnswer}
use Rattle.mig_reading.proofs.Ends.{closed, ends, once}
use Rattle.mig_reading.proofs.PairParts.{certificate_part}

module _ (bytes : List ℕ) where
  abbrev ts : List Token
  ts = pieces_to_end bytes

  pub memory : IsPieceAnswer bytes (Err error.Memory)
  memory = record {
    found = tt;
    only = λ x h. inr refl;
    wrong = λ l e. absurd cc;
    only_wrong = λ l h. inr refl;
    past = λ w l e. absurd cc;
    only_past = λ w l h. inr refl;
  }

  text_found : (x : CertificateTree) (rest : List Token) → certificate_at ts ≡ Took x rest → IsCertificateText bytes x
  text_found x rest e = whole.found certificate_at certificate_tokens IsCertificate certificate_part.law (λ c f. ends c) (λ c a b f g. once c a b g) ts x rest (closed bytes) e

  text_read : (x : CertificateTree) → IsCertificateText bytes x → certificate_at ts ≡ Took x []
  text_read x h = whole.is_text certificate_at certificate_tokens IsCertificate certificate_part.law (λ c f. ends c) (λ c a b f g. once c a b g) ts x h

  wrong_found : (left : ℕ) → certificate_at ts ≡ Wrong left → IsWrongPiece bytes left
  wrong_found left e =
      let w = whole.wrong certificate_at certificate_tokens IsCertificate certificate_part.law (λ c f. ends c) (λ c a b f g. once c a b g) ts left (closed bytes) e in
      record { before = w.0; count = w.1; wrong = w.2 }

  past_found : (which : Limit) (left : ℕ) → certificate_at ts ≡ Past which left → IsPastPiece which bytes left
  past_found which left e =
      let w = whole.past certificate_at certificate_tokens IsCertificate certificate_part.law (λ c f. ends c) (λ c a b f g. once c a b g) ts which left e in
      record { before = w.0; count = w.1; past = w.2 }

  wrong_read : (left : ℕ) → IsWrongPiece bytes left → certificate_at ts ≡ Wrong left
  wrong_read left h =
      let w = whole.is_wrong certificate_at certificate_tokens IsCertificate certificate_part.law (λ c f. ends c) (λ c a b f g. once c a b g) ts h.before (closed bytes) h.wrong in
      let left-is : w.0 ≡ left = omega (arith, w.1, h.count) in
      w.2 ∙ ap Wrong left-is

  past_read : (which : Limit) (left : ℕ) → IsPastPiece which bytes left → certificate_at ts ≡ Past which left
  past_read which left h =
      let w = whole.is_past certificate_at certificate_tokens IsCertificate certificate_part.law (λ c f. ends c) (λ c a b f g. once c a b g) ts which h.before h.past in
      let left-is : w.0 ≡ left = omega (arith, w.1, h.count) in
      w.2 ∙ ap (Past which) left-is

  pub took : (s : CertificateTree) (rest : List Token) → certificate_at ts ≡ Took s rest → IsPieceAnswer bytes (Ok s)
  took s rest e = record {
    found = text_found s rest e;
    only = λ x h. let k = text_read x h in let same : s ≡ x = cc in inl (ap Ok same);
    wrong = λ l f. absurd cc;
    only_wrong = λ l h. let k = wrong_read l h in absurd cc;
    past = λ w l f. absurd cc;
    only_past = λ w l h. let k = past_read w l h in absurd cc;
  }

  pub failed : (e : ReadError) → Fails e (certificate_at ts) → IsPieceAnswer bytes (Err e)
  failed error.Memory e = memory
  failed (error.At left) e = record {
    found = tt;
    only = λ x h. let k = text_read x h in absurd cc;
    wrong = λ l f. let same : left ≡ l = cc in wrong_found l (e ∙ ap Wrong same);
    only_wrong = λ l h. let k = wrong_read l h in let same : left ≡ l = cc in inl (ap (λ x. Err (error.At x)) same);
    past = λ w l f. absurd cc;
    only_past = λ w l h. let k = past_read w l h in absurd cc;
  }
  failed (error.Limit which left) e = record {
    found = tt;
    only = λ x h. let k = text_read x h in absurd cc;
    wrong = λ l f. absurd cc;
    only_wrong = λ l h. let k = wrong_read l h in absurd cc;
    past = λ w l f. let same : which ≡ w = cc in let left-is : left ≡ l = cc in past_found w l (e ∙ ap (λ x. Past x left) same ∙ ap (Past w) left-is);
    only_past = λ w l h. let k = past_read w l h in let same : which ≡ w = cc in let left-is : left ≡ l = cc in inl (ap (λ x. Err (error.Limit x left)) same ∙ ap (λ x. Err (error.Limit w x)) left-is);
  }
