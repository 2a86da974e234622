-- What the bytes of a text are.
use Rattle.std.specs.Prelude.{◌≡◌, ℕ, ◌+◌, List, [], ◌∷◌, ◌++◌, length, Result, Ok, Err, IfOk, ◌⊎◌}
use Rattle.mig_tokens.specs.declared.token.Token.{Token}
use Rattle.mig_tokens.specs.declared.token.Token.TheVariants.{End}
use Rattle.mig_schema.specs.declared.limits.Limit.{Limit}
use Rattle.mig_tokens.specs.declared.fault.ReadError.{ReadError}
use Rattle.mig_tokens.specs.declared.fault.ReadError.TheVariants as error
use Rattle.mig_tokens.specs.Marked.{Marked}
use Rattle.mig_tokens.specs.Tokens.{Lexes}
use Rattle.mig_tokens.specs.Places.{IsText, WrongAfter, PastAfter}

-- the tokens of the bytes, and their end
pub record Lexed (bytes : List ℕ) (ts : List Token) : Type 0 where
  pub body : List Token
  pub lexes : Lexes bytes body
  pub is : ts ≡ body ++ End ∷ []

-- ---- of any grammar: spell gives the tokens of what fits

module _ {A : Type 0} (spell : A → List Marked) (Fits : A → Type 0) where
  -- the bytes spell this value within the limits
  pub record IsTextOf (bytes : List ℕ) (x : A) : Type 0 where
    pub tokens : List Token
    pub lexed : Lexed bytes tokens
    pub text : IsText spell Fits tokens x

  -- the first wrong token stands where so many are left
  pub record IsWrongIn (bytes : List ℕ) (left : ℕ) : Type 0 where
    pub tokens : List Token
    pub lexed : Lexed bytes tokens
    pub before : ℕ
    pub count : before + left ≡ length tokens
    pub wrong : WrongAfter spell Fits tokens before

  -- the first token that passes a limit stands where so many are left
  pub record IsPastIn (which : Limit) (bytes : List ℕ) (left : ℕ) : Type 0 where
    pub tokens : List Token
    pub lexed : Lexed bytes tokens
    pub before : ℕ
    pub count : before + left ≡ length tokens
    pub past : PastAfter spell Fits which tokens before

  -- what is answered for the bytes
  pub record IsAnswerIn (bytes : List ℕ) (result : Result A ReadError) : Type 0 where
    -- a value is answered exactly where the bytes spell it
    pub found : IfOk result (λ x. IsTextOf bytes x)
    pub only : (x : A) → IsTextOf bytes x → (result ≡ Ok x) ⊎ (result ≡ Err error.Memory)
    -- a place, exactly where the first wrong token stands there
    pub wrong : (left : ℕ) → result ≡ Err (error.At left) → IsWrongIn bytes left
    pub only_wrong : (left : ℕ) → IsWrongIn bytes left → (result ≡ Err (error.At left)) ⊎ (result ≡ Err error.Memory)
    -- a limit and a place, exactly where the first token that passes a limit stands there
    pub past : (which : Limit) (left : ℕ) → result ≡ Err (error.Limit which left) → IsPastIn which bytes left
    pub only_past : (which : Limit) (left : ℕ) → IsPastIn which bytes left → (result ≡ Err (error.Limit which left)) ⊎ (result ≡ Err error.Memory)
