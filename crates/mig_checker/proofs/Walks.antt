-- Steps that follow in turn, and the first that doesn't.
use Rattle.std.proofs.Common.{◌≡◌, ℕ, zero, suc, ◌+◌, ◌<◌, true, false, List, [], ◌∷◌, take, refl, ap, ◌∙◌, arith, subst, Option, Some, None}
use Rattle.std.specs.Prelude.{slice_get}
use Rattle.std.specs.Option.{option_map_or, option_and_then}
use Rattle.mig_meaning.specs.declared.relating.Invariant.{Invariant}
use Rattle.mig_algebra.specs.declared.terms.Expr.{Expr}
use Rattle.mig_algebra.specs.Proper.{Sides}
use Rattle.mig_steps.specs.declared.steps.Step.{Step}
use Rattle.mig_rules.specs.Follow.{follow}
use Rattle.mig_obligations.specs.Replay.{replay}
use Rattle.mig_typing.specs.First.{IsFirstBroken}
use Rattle.mig_typing.proofs.Firsts.{first_number}
use Rattle.mig_certificate.specs.BrokenPlace.{is_none, step_fails}
use Rattle.mig_checker.specs.declared.walking.Walk.{Walk}
use Rattle.mig_checker.specs.declared.walking.Walk.TheVariants.{End, Stuck}
use Rattle.mig_checker.specs.Inside.{IsWalk}

some-is : {A : Type 0} (x y : A) → Some x ≡ Some y → x ≡ y
some-is x y e = cc

module _ (p : Sides) (invs : List Invariant) where
  -- one more step
  one-more : (ts : List Step) (s : ℕ) (e a b : Expr) (t : Step) → replay (follow p invs) (take s ts) e ≡ Some a → slice_get ts s ≡ Some t → follow p invs t a ≡ Some b → replay (follow p invs) (take (suc s) ts) e ≡ Some b
  one-more [] s e a b t h g f = absurd cc
  one-more (u ∷ ts) zero e a b t h g f =
      ap (λ x. option_and_then (λ y. Some y) (follow p invs x e)) (some-is u t g) ∙ ap (λ x. option_and_then (λ y. Some y) (follow p invs t x)) (some-is e a h) ∙ ap (option_and_then (λ y. Some y)) f
  one-more (u ∷ ts) (suc s) e a b t h g f = go (follow p invs u e) refl h (λ c k. one-more ts s c a b t k g f)
    where
      go : (o : Option Expr) → follow p invs u e ≡ o → option_and_then (replay (follow p invs) (take s ts)) o ≡ Some a → ((c : Expr) → replay (follow p invs) (take s ts) c ≡ Some a → replay (follow p invs) (take (suc s) ts) c ≡ Some b)
          → option_and_then (replay (follow p invs) (take (suc s) ts)) (follow p invs u e) ≡ Some b
      go None q k again = absurd cc
      go (Some c) q k again = ap (option_and_then (replay (follow p invs) (take (suc s) ts))) q ∙ again c k

  pub step-more : (ts : List Step) (s : ℕ) (e a b : Expr) (t : Step) → replay (follow p invs) (take s ts) e ≡ Some a → slice_get ts s ≡ Some t → follow p invs t a ≡ Some b → replay (follow p invs) (take (s + 1) ts) e ≡ Some b
  step-more ts s e a b t h g f = let z : s + 1 ≡ suc s = omega arith in ap (λ n. replay (follow p invs) (take n ts) e) z ∙ one-more ts s e a b t h g f

  -- none of the steps before one that is reached fails
  pub none-before : (ts : List Step) (s : ℕ) (e a : Expr) → replay (follow p invs) (take s ts) e ≡ Some a → (j : ℕ) → j < s → step_fails p invs ts e j ≡ false
  none-before [] s e a h j l = refl
  none-before (u ∷ ts) zero e a h j l = absurd (omega arith)
  none-before (u ∷ ts) (suc s) e a h j l = go (follow p invs u e) refl h (λ c k i m. none-before ts s c a k i m) j l
    where
      go : (o : Option Expr) → follow p invs u e ≡ o → option_and_then (replay (follow p invs) (take s ts)) o ≡ Some a → ((c : Expr) → replay (follow p invs) (take s ts) c ≡ Some a → (i : ℕ) → i < s → step_fails p invs ts c i ≡ false)
          → (i : ℕ) → i < suc s → step_fails p invs (u ∷ ts) e i ≡ false
      go None q k again i l = absurd cc
      go (Some c) q k again zero l = ap is_none q
      go (Some c) q k again (suc i) l =
          ap (λ x. option_map_or (λ t'. option_map_or (λ e'. is_none (follow p invs t' e')) (option_and_then (replay (follow p invs) (take i ts)) x) false) (slice_get ts i) false) q ∙ again c k i (omega (arith, l))

  -- a step that is reached and doesn't follow is the first that fails
  pub stuck-at : (ts : List Step) (s : ℕ) (e a : Expr) (t : Step) → replay (follow p invs) (take s ts) e ≡ Some a → slice_get ts s ≡ Some t → follow p invs t a ≡ None → IsFirstBroken (λ n. n ∷ []) (step_fails p invs ts e) s
  stuck-at ts s e a t h g f =
      first_number (step_fails p invs ts e) s
      (ap (λ o. option_map_or (λ t'. option_map_or (λ e'. is_none (follow p invs t' e')) (replay (follow p invs) (take s ts) e) false) o false) g
      ∙ ap (λ o. option_map_or (λ e'. is_none (follow p invs t e')) o false) h
      ∙ ap is_none f)
      (none-before ts s e a h)

  -- where all steps follow, none fails
  pub none-fails : (ts : List Step) (e a : Expr) → replay (follow p invs) ts e ≡ Some a → (j : ℕ) → step_fails p invs ts e j ≡ false
  none-fails [] e a h j = refl
  none-fails (u ∷ ts) e a h j = go (follow p invs u e) refl h (λ c k i. none-fails ts c a k i) j
    where
      go : (o : Option Expr) → follow p invs u e ≡ o → option_and_then (replay (follow p invs) ts) o ≡ Some a → ((c : Expr) → replay (follow p invs) ts c ≡ Some a → (i : ℕ) → step_fails p invs ts c i ≡ false)
          → (i : ℕ) → step_fails p invs (u ∷ ts) e i ≡ false
      go None q k again i = absurd cc
      go (Some c) q k again zero = ap is_none q
      go (Some c) q k again (suc i) =
          ap (λ x. option_map_or (λ t'. option_map_or (λ e'. is_none (follow p invs t' e')) (option_and_then (replay (follow p invs) (take i ts)) x) false) (slice_get ts i) false) q ∙ again c k i

  -- past a step that fails nothing is reached
  pub stuck-ends : (ts : List Step) (e : Expr) (s : ℕ) → step_fails p invs ts e s ≡ true → replay (follow p invs) ts e ≡ None
  stuck-ends ts e s h = go (replay (follow p invs) ts e) refl
    where
      go : (o : Option Expr) → replay (follow p invs) ts e ≡ o → replay (follow p invs) ts e ≡ None
      go None q = q
      go (Some a) q = let k = none-fails ts e a q s in absurd cc

  -- what a walk says where it comes to an end
  pub walk-end : (ts us : List Step) (e a : Expr) (w : Walk) → IsWalk p invs ts e w → ts ≡ us → w ≡ End a → replay (follow p invs) us e ≡ Some a
  walk-end ts us e a w h q k = subst (λ vs. IsWalk p invs vs e (End a)) q (subst (IsWalk p invs ts e) k h)

  -- and where it is stuck
  pub walk-stuck : (ts us : List Step) (e : Expr) (s : ℕ) (w : Walk) → IsWalk p invs ts e w → ts ≡ us → w ≡ Stuck s → IsFirstBroken (λ n. n ∷ []) (step_fails p invs us e) s
  walk-stuck ts us e s w h q k = subst (λ vs. IsWalk p invs vs e (Stuck s)) q (subst (IsWalk p invs ts e) k h)
