-- A variable of a body whose column is equal to that of a variable outside the body, by the literals of the body and around it: the other is written for it.
use Rattle.std.proofs.Common.{◌≡◌, ℕ, ◌+◌, Bool, true, ◌&&◌, List, [], ◌∷◌, ◌++◌, take, drop, length, Some, refl, sym, ap, ap₂, ◌∙◌, arith}
use Rattle.std.specs.Prelude.{slice_get}
use Rattle.mig_algebra.specs.declared.atoms.Var.{Var}
use Rattle.mig_algebra.specs.declared.atoms.Atom.TheVariants.{Col}
use Rattle.mig_algebra.specs.declared.literals.Inner.{Inner}
use Rattle.mig_algebra.specs.declared.literals.Lit.TheVariants.{Any}
use Rattle.mig_algebra.specs.declared.terms.Term.{Term}
use Rattle.mig_algebra.specs.Meaning.{Setting, Env}
use Rattle.mig_algebra.proofs.Truth.{lits-append}
use Rattle.mig_algebra.proofs.Hosts.{host_sum}
use Rattle.mig_classes.specs.Classes.{one_class}
use Rattle.mig_classes.proofs.Classed.{one_class-value}
use Rattle.mig_classes.proofs.WrittenProper.{parts-at}
use Rattle.mig_replacing.specs.Places.{Place, place_at}
use Rattle.mig_replacing.specs.Reaching.{Reaches}
use Rattle.mig_replacing.specs.Replaced.{spread, replaced, SameAmong}
use Rattle.mig_replacing.specs.Given.{plain, plain_around, IsSound}
use Rattle.mig_replacing.proofs.Around.{plain-true, around-further}
use Rattle.mig_replacing.proofs.Hosted.{body-hosted}
use Rattle.mig_rows.specs.Writing.{body_into}
use Rattle.mig_rows.proofs.Distinct.{Distinct}
use Rattle.mig_steps.proofs.Options.{get-within}
use Rattle.mig_rows.proofs.Numbered.{get-front}
use Rattle.mig_rows.proofs.OneRow.{host-into}

module _ (s : Setting) (t : Term) (path : List ℕ) (place : Place) (held : Bool) (body : Inner) (sound : IsSound s t) (is : place_at t path ≡ Some place) (its : place.lit ≡ Any held body) (i j x col : ℕ) (v : Var) (at : length place.scope + j ≡ i) (own : slice_get body.vars j ≡ Some v) (there : slice_get place.scope x ≡ Some v) (distinct : Distinct col (s.rows v)) (class : one_class (plain_around place ++ plain body.lits) (Col i col) (Col x col) ≡ true) where
  -- at each choice that reaches the body
  alone-sum : (e : Env) → Reaches s place e → host_sum s e (λ _. 1) (body_into i j x body).vars (body_into i j x body).lits ≡ host_sum s e (λ _. 1) body.vars body.lits
  alone-sum e r =
      let k = parts-at body.vars j v own in
      let inside = get-within place.scope x v there in
      sym (ap (λ vars. host_sum s e (λ _. 1) vars body.lits) k.0
      ∙ host-into s place.scope e r.choice (take j body.vars) v (drop (j + 1) body.vars) body.lits i x col (ap (λ n. length place.scope + n) k.1 ∙ at) (λ q. absurd (omega (arith, q, inside, at))) (get-front place.scope (take j body.vars ++ (v ∷ drop (j + 1) body.vars)) x inside ∙ there) distinct
      (λ c h u. one_class-value s (e ++ c) (plain_around place ++ plain body.lits) (Col i col) (Col x col)
      (lits-append s (e ++ c) (plain_around place) (plain body.lits) ∙ ap₂ (λ a b. a && b) (around-further s t path place sound is e c r) (plain-true s (e ++ c) body.lits u)) class)
      (λ _. 1) (λ _. 1) (λ a b q. refl))

  -- the bag
  pub alone-keeps : SameAmong s (t ∷ []) (replaced t path (spread held (body_into i j x body ∷ [])))
  alone-keeps = body-hosted s t path place held body (body_into i j x body) is its alone-sum
