-- Where a text is refused, by line and column.
use Rattle.std.specs.Prelude.{◌≡◌, ℕ, ◌-◌, List, Result, Ok, Err, IfOk, ◌⊎◌}
use Rattle.mig_tokens.specs.declared.token.Token.{Token}
use Rattle.mig_schema.specs.declared.limits.Limit.{Limit}
use Rattle.mig_tokens.specs.declared.fault.ReadError.{ReadError}
use Rattle.mig_tokens.specs.declared.fault.ReadError.TheVariants as error
use Rattle.mig_tokens.specs.declared.fault.Misread.{Misread}
use Rattle.mig_tokens.specs.declared.fault.Misread.TheVariants as fault
use Rattle.mig_tokens.specs.Marked.{Marked}
use Rattle.mig_tokens.specs.Places.{WrongAfter, PastAfter}
use Rattle.mig_tokens.specs.Place.{place}
use Rattle.mig_tokens.specs.Texts.{Lexed, IsTextOf}

module _ {A : Type 0} (spell : A → List Marked) (Fits : A → Type 0) where
  -- The first wrong token stands at this line and column: the tokens before it begin a sentence and pass no limit, and no sentence has them and it.
  pub record StandsWrong (bytes : List ℕ) (line column : ℕ) : Type 0 where
    pub tokens : List Token
    pub lexed : Lexed bytes tokens
    pub before : ℕ
    pub wrong : WrongAfter spell Fits tokens before
    pub at : (line, column) ≡ place before bytes

  -- the first token that passes a limit stands in this line, and some sentence goes on with it
  pub record StandsPast (which : Limit) (bytes : List ℕ) (line : ℕ) : Type 0 where
    pub tokens : List Token
    pub lexed : Lexed bytes tokens
    pub before : ℕ
    pub past : PastAfter spell Fits which tokens before
    pub at : line ≡ (place before bytes).0

  -- what is answered for the bytes
  pub record IsPlacedAnswer (bytes : List ℕ) (result : Result A Misread) : Type 0 where
    -- a value is answered exactly where the bytes spell it
    pub found : IfOk result (λ x. IsTextOf spell Fits bytes x)
    pub only : (x : A) → IsTextOf spell Fits bytes x → (result ≡ Ok x) ⊎ (result ≡ Err fault.Memory)
    -- a place, exactly where the first wrong token stands there
    pub wrong : (line column : ℕ) → result ≡ Err (fault.At line column) → StandsWrong bytes line column
    pub only_wrong : (line column : ℕ) → StandsWrong bytes line column → (result ≡ Err (fault.At line column)) ⊎ (result ≡ Err fault.Memory)
    -- a limit and a line, exactly where the first token that passes a limit stands there
    pub past : (which : Limit) (line : ℕ) → result ≡ Err (fault.Limit which line) → StandsPast which bytes line
    pub only_past : (which : Limit) (line : ℕ) → StandsPast which bytes line → (result ≡ Err (fault.Limit which line)) ⊎ (result ≡ Err fault.Memory)

-- a fault in a text of so many tokens, their end included, with its line and column
abbrev pub placed : List ℕ → (total : ℕ) → ReadError → Misread
placed bytes total error.Memory = fault.Memory
placed bytes total (error.At left) = fault.At (place (total - left) bytes).0 (place (total - left) bytes).1
placed bytes total (error.Limit which left) = fault.Limit which (place (total - left) bytes).0
