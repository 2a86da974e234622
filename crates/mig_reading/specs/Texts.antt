-- Which bytes are the certificate of an answer, and what is answered for them.
use Rattle.std.specs.Prelude.{◌≡◌, ◌⊎◌, ℕ, ◌+◌, List, length, Result, Ok, Err, IfOk}
use Rattle.mig_schema.specs.declared.limits.Limit.{Limit}
use Rattle.mig_tokens.specs.declared.fault.ReadError.{ReadError}
use Rattle.mig_tokens.specs.declared.fault.ReadError.TheVariants as error
use Rattle.mig_tokens.specs.Places.{IsText, WrongAfter, PastAfter}
use Rattle.mig_reading.specs.declared.tree.CertificateTree.{CertificateTree}
use Rattle.mig_reading.specs.Pieces.{pieces_to_end}
use Rattle.mig_reading.specs.Spelling.{certificate_tokens}
use Rattle.mig_reading.specs.Shapes.{IsCertificate}

-- the bytes spell this certificate within the limits
abbrev pub IsCertificateText : List ℕ → CertificateTree → Type 0
IsCertificateText bytes c = IsText certificate_tokens IsCertificate (pieces_to_end bytes) c

-- the first wrong piece stands where so many are left
pub record IsWrongPiece (bytes : List ℕ) (left : ℕ) : Type 0 where
  pub before : ℕ
  pub count : before + left ≡ length (pieces_to_end bytes)
  pub wrong : WrongAfter certificate_tokens IsCertificate (pieces_to_end bytes) before

-- the first piece that passes a limit stands where so many are left
pub record IsPastPiece (which : Limit) (bytes : List ℕ) (left : ℕ) : Type 0 where
  pub before : ℕ
  pub count : before + left ≡ length (pieces_to_end bytes)
  pub past : PastAfter certificate_tokens IsCertificate which (pieces_to_end bytes) before

-- what is answered for the bytes
pub record IsPieceAnswer (bytes : List ℕ) (result : Result CertificateTree ReadError) : Type 0 where
  -- a certificate is answered exactly where the bytes spell it
  pub found : IfOk result (λ c. IsCertificateText bytes c)
  pub only : (c : CertificateTree) → IsCertificateText bytes c → (result ≡ Ok c) ⊎ (result ≡ Err error.Memory)
  -- a place, exactly where the first wrong piece stands there
  pub wrong : (left : ℕ) → result ≡ Err (error.At left) → IsWrongPiece bytes left
  pub only_wrong : (left : ℕ) → IsWrongPiece bytes left → (result ≡ Err (error.At left)) ⊎ (result ≡ Err error.Memory)
  -- a limit and a place, exactly where the first piece that passes a limit stands there
  pub past : (which : Limit) (left : ℕ) → result ≡ Err (error.Limit which left) → IsPastPiece which bytes left
  pub only_past : (which : Limit) (left : ℕ) → IsPastPiece which bytes left → (result ≡ Err (error.Limit which left)) ⊎ (result ≡ Err error.Memory)
