-- What loops over functions, obligations and pairs find first.
use Rattle.std.proofs.Common.{◌≡◌, ℕ, ◌+◌, ◌<◌, ◌≤◌, false, List, ◌∷◌, length, ap, ◌∙◌, sym, subst, Some, None}
use Rattle.std.specs.Prelude.{Bool, slice_get}
use Rattle.std.proofs.lemmas.Option.{slice_get_past}
use Rattle.mig_schema.specs.declared.tables.Schema.{Schema}
use Rattle.mig_schema.specs.declared.programs.Function.{Function}
use Rattle.mig_typing.specs.First.{IsFirst}
use Rattle.mig_typing.proofs.Firsts.{nest, at_most, everywhere}
use Rattle.mig_certificate.specs.BrokenPlace.{differ}

-- past both ends no functions differ
pub past-both : (s s' : Schema) (fs gs : List Function) (n : ℕ) → length fs ≤ n → length gs ≤ n → differ s s' (slice_get fs n) (slice_get gs n) ≡ false
past-both s s' fs gs n l m = ap (λ o. differ s s' o (slice_get gs n)) (slice_get_past fs n l) ∙ ap (differ s s' None) (slice_get_past gs n m)

-- places with a number in front, of which the loop has tried those below k
module _ {P : Type 0} (numbers : P → List ℕ) (broken : ℕ → P → Bool) (k : ℕ) (below : (j : ℕ) (q : P) → j < k → broken j q ≡ false) where
  -- the first place with number k is the first of all
  pub found-at : (q : P) → IsFirst numbers (broken k) (Some q) → IsFirst (λ (o : ℕ × P). o.0 ∷ numbers o.1) (λ o. broken o.0 o.1) (Some (k, q))
  found-at q f =
      nest (λ (o : ℕ × P). o.0) (λ o. numbers o.1) (λ o. broken o.0 o.1) (k, q) f.here (λ o l. below o.0 o.1 l)
      (λ o e l. subst (λ j. broken j o.1 ≡ false) (sym e) (f.before o.1 l))

  -- none with number k: none below k + 1
  pub none-up-to : IsFirst numbers (broken k) None → (j : ℕ) (q : P) → j < k + 1 → broken j q ≡ false
  none-up-to f j q l = at_most (λ j. broken j q) k (λ j m. below j q m) (f q) j l

  -- none from k on: none at all
  pub none-found : ((j : ℕ) (q : P) → k ≤ j → broken j q ≡ false) → IsFirst (λ (o : ℕ × P). o.0 ∷ numbers o.1) (λ o. broken o.0 o.1) None
  none-found past o = everywhere (λ j. broken j o.1) k (λ j l. below j o.1 l) (λ j l. past j o.1 l) o.0
