-- Reading: what stands at the front of a list of tokens, and the tokens after it; or how many tokens are left from the first wrong one on, or from the first past a limit on.
use Rattle.std.specs.Prelude.{ℕ, zero, suc, Bool, cond, List, [], ◌∷◌, ◌++◌, length, Option, Some, None}
use Rattle.mig_tokens.specs.declared.token.Token.{Token}
use Rattle.mig_schema.specs.declared.limits.Limit.{Limit}
use Rattle.mig_tokens.specs.Marked.{first_is}

-- what reading gives
pub data Read (A : Type 0) : Type 0 where
  Took : A → List Token → Read A
  Wrong : (left : ℕ) → Read A
  Past : Limit → (left : ℕ) → Read A

-- reading goes on behind what was read; a fault is kept
infixl 10 ◌>>=◌
abbrev pub ◌>>=◌ : {A B : Type 0} → Read A → (A × List Token → Read B) → Read B
(Took x rest) >>= f = f (x, rest)
(Wrong left) >>= f = Wrong left
(Past w left) >>= f = Past w left

-- a value that a token was read as; it may pass a limit
abbrev pub judged : {A : Type 0} → A → Option Limit → Token → List Token → Read A
judged x None t ts = Took x ts
judged x (Some w) t ts = Past w (length (t ∷ ts))

-- a token that was read as a value, or wasn't
abbrev pub tried : {A : Type 0} → (A → Option Limit) → Option A → Token → List Token → Read A
tried mark None t ts = Wrong (length (t ∷ ts))
tried mark (Some x) t ts = judged x (mark x) t ts

-- one token
unfoldable pub token_at : {A : Type 0} → (Token → Option A) → (A → Option Limit) → List Token → Read A
token_at reads mark [] = Wrong 0
token_at reads mark (t ∷ ts) = tried mark (reads t) t ts

-- nothing
abbrev pub give : {A : Type 0} → A → List Token → Read A
give x ts = Took x ts

-- one part, and the next, which may depend on it
abbrev pub bind_at : {A B : Type 0} → (List Token → Read A) → (A → List Token → Read B) → List Token → Read B
bind_at p q ts = p ts >>= λ x. q x.0 x.1

-- one part or the other, by the first token
unfoldable pub choice_at : {A : Type 0} → (Token → Bool) → (List Token → Read A) → (List Token → Read A) → List Token → Read A
choice_at begins p q ts = cond (first_is begins ts) (p ts) (q ts)

-- items as long as one begins, at most n; s is what the items before them left
unfoldable pub most_at : {A S : Type 0} → (Token → Bool) → (S → List Token → Read A) → (S → A → S) → ℕ → S → List Token → Read (List A)
most_at begins reads next zero s ts = Took [] ts
most_at begins reads next (suc n) s ts = choice_at begins (bind_at (reads s) (λ x. bind_at (most_at begins reads next n (next s x)) (λ xs. give (x ∷ xs)))) (give []) ts

-- items as long as one begins; there are no more items than tokens
abbrev pub many_at : {A S : Type 0} → (Token → Bool) → (S → List Token → Read A) → (S → A → S) → S → List Token → Read (List A)
many_at begins reads next s ts = most_at begins reads next (length ts) s ts

-- a first item, and others as long as one begins
unfoldable pub led_at : {A S : Type 0} → (S → List Token → Read A) → (Token → Bool) → (S → List Token → Read A) → (S → A → S) → S → List Token → Read (List A)
led_at first begins other next s ts = do
  x ← first s ts
  xs ← many_at begins other next (next s x.0) x.1
  Took (x.0 ∷ xs.0) xs.1

-- what was read before, and what is still read
abbrev pub with_front : {A : Type 0} → List A → Read (List A) → Read (List A)
with_front front read = read >>= λ xs. Took (front ++ xs.0) xs.1
