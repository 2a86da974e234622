-- Texts whose trees of names are named, and then tested by rules: jobs, and programs over a schema.
use Rattle.std.specs.Prelude.{◌≡◌, ◌⊎◌, ℕ, List, Result, Ok, Err, IfOk}
use Rattle.mig_schema.specs.declared.faults.TypeFault.{TypeFault}
use Rattle.mig_schema.specs.declared.limits.Limit.{Limit}
use Rattle.mig_tokens.specs.Marked.{Marked}
use Rattle.mig_tokens.specs.Refused.{StandsWrong, StandsPast}
use Rattle.mig_tokens.specs.Texts.{IsTextOf}
use Rattle.mig_syntax.specs.declared.fault.TextFault.{TextFault}
use Rattle.mig_syntax.specs.declared.fault.TextFault.TheVariants as fault

-- spell gives the tokens of the trees that fit, name the value that a tree says
module _ {A B : Type 0} (spell : A → List Marked) (Fits : A → Type 0) (name : A → B) where
  -- the bytes spell the names and numbers of this value within the limits of the grammar
  pub record IsNamedText (bytes : List ℕ) (x : B) : Type 0 where
    pub tree : A
    pub text : IsTextOf spell Fits bytes tree
    pub named : name tree ≡ x

  module _ (Typed : B → Type 0) where
    -- the bytes spell this value, which breaks no typing rule
    pub record IsTypedText (bytes : List ℕ) (x : B) : Type 0 where
      pub text : IsNamedText bytes x
      pub typed : Typed x

  module _ (IsFault : B → TypeFault → Type 0) where
    -- the bytes spell a value whose first broken typing rule is this one
    pub record IsMistypedText (bytes : List ℕ) (f : TypeFault) : Type 0 where
      pub value : B
      pub text : IsNamedText bytes value
      pub first : IsFault value f

  module _ (Typed : B → Type 0) (IsFault : B → TypeFault → Type 0) where
    -- what is answered for the bytes
    pub record IsTypedAnswer (bytes : List ℕ) (result : Result B TextFault) : Type 0 where
      -- a value is answered exactly where the bytes spell it, and it is typed
      pub found : IfOk result (λ x. IsTypedText Typed bytes x)
      pub only : (x : B) → IsTypedText Typed bytes x → (result ≡ Ok x) ⊎ (result ≡ Err fault.Memory)
      -- a place, exactly where the first wrong token stands there
      pub wrong : (line column : ℕ) → result ≡ Err (fault.At line column) → StandsWrong spell Fits bytes line column
      pub only_wrong : (line column : ℕ) → StandsWrong spell Fits bytes line column → (result ≡ Err (fault.At line column)) ⊎ (result ≡ Err fault.Memory)
      -- a limit and a line, exactly where the first token that passes a limit stands there
      pub past : (which : Limit) (line : ℕ) → result ≡ Err (fault.Limit which line) → StandsPast spell Fits which bytes line
      pub only_past : (which : Limit) (line : ℕ) → StandsPast spell Fits which bytes line → (result ≡ Err (fault.Limit which line)) ⊎ (result ≡ Err fault.Memory)
      -- a typing fault, exactly where that is the first broken rule
      pub typing : (f : TypeFault) → result ≡ Err (fault.Typing f) → IsMistypedText IsFault bytes f
      pub only_typing : (f : TypeFault) → IsMistypedText IsFault bytes f → (result ≡ Err (fault.Typing f)) ⊎ (result ≡ Err fault.Memory)
