-- Where a text leaves a grammar, and where it passes a limit. A grammar is given by the marked tokens that spell each value, and by the values that it has.
use Rattle.std.specs.Prelude.{◌≡◌, ℕ, List, [], ◌∷◌, ◌++◌, length, Some}
use Rattle.mig_tokens.specs.declared.token.Token.{Token}
use Rattle.mig_schema.specs.declared.limits.Limit.{Limit}
use Rattle.mig_tokens.specs.Marked.{Marked, clean, bare}

-- some sentence begins with these tokens, and passes these limits at them
pub record Begins {A : Type 0} (spell : A → List Marked) (Fits : A → Type 0) (ms : List Marked) : Type 0 where
  pub sentence : A
  pub more : List Marked
  pub fits : Fits sentence
  pub is : spell sentence ≡ ms ++ more

-- the text is a sentence, and passes no limit
pub record IsText {A : Type 0} (spell : A → List Marked) (Fits : A → Type 0) (ts : List Token) (x : A) : Type 0 where
  pub fits : Fits x
  pub is : spell x ≡ clean ts

-- The token after these n is the first wrong one: the tokens before it begin a sentence and pass no limit, and no sentence begins with them and it.
pub record WrongAfter {A : Type 0} (spell : A → List Marked) (Fits : A → Type 0) (ts : List Token) (n : ℕ) : Type 0 where
  pub before : List Token
  pub token : Token
  pub after : List Token
  pub is : ts ≡ before ++ token ∷ after
  pub count : n ≡ length before
  pub begins : Begins spell Fits (clean before)
  pub no_more : (ms : List Marked) → bare ms ≡ before ++ token ∷ [] → Begins spell Fits ms → ⊥

-- The token after these n is the first that passes a limit: some sentence begins with these tokens, and passes its first limit at it.
pub record PastAfter {A : Type 0} (spell : A → List Marked) (Fits : A → Type 0) (which : Limit) (ts : List Token) (n : ℕ) : Type 0 where
  pub before : List Token
  pub token : Token
  pub after : List Token
  pub is : ts ≡ before ++ token ∷ after
  pub count : n ≡ length before
  pub begins : Begins spell Fits (clean before ++ (token, Some which) ∷ [])
