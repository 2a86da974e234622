-- A variable of a body that one equality alone names goes with it, where some row meets it: the bag stays.
use Rattle.std.proofs.Common.{◌≡◌, ◌≢◌, ℕ, ◌+◌, Bool, true, false, ◌&&◌, ◌||◌, List, [], ◌∷◌, ◌++◌, take, drop, length, Some, refl, sym, ap, ap₂, ◌∙◌}
use Rattle.std.specs.Prelude.{slice_get}
use Rattle.std.specs.List.{list_any}
use Rattle.mig_algebra.specs.declared.atoms.Var.{Var}
use Rattle.mig_algebra.specs.declared.atoms.Atom.TheVariants.{Col}
use Rattle.mig_algebra.specs.declared.literals.Inner.{Inner}
use Rattle.mig_algebra.specs.declared.literals.Lit.{Lit}
use Rattle.mig_algebra.specs.declared.literals.Lit.TheVariants.{Any}
use Rattle.mig_algebra.specs.declared.terms.Term.{Term}
use Rattle.mig_algebra.specs.Meaning.{Setting, Env, choices, lits_true}
use Rattle.mig_algebra.proofs.Truth.{lits-append}
use Rattle.mig_classes.proofs.Classed.{one_class-value}
use Rattle.mig_classes.proofs.WrittenProper.{parts-at}
use Rattle.mig_replacing.specs.Places.{Place, others, place_at}
use Rattle.mig_replacing.specs.Reaching.{Reaches, is_met}
use Rattle.mig_replacing.specs.Replaced.{spread, replaced, SameAmong}
use Rattle.mig_replacing.specs.Given.{plain, plain_around, IsSound}
use Rattle.mig_replacing.proofs.Around.{plain-true, around-further}
use Rattle.mig_replacing.proofs.Replacing.{body-replaced}
use Rattle.mig_rows.specs.Inside.{body_left}
use Rattle.mig_rows.specs.Naming.{first_naming}
use Rattle.mig_rows.proofs.NamedOnce.{Once, HasPartners}
use Rattle.mig_rows.proofs.Partner.{met-partner}

module _ (s : Setting) (t : Term) (path : List ℕ) (place : Place) (held : Bool) (body : Inner) (sound : IsSound s t) (is : place_at t path ≡ Some place) (its : place.lit ≡ Any held body) (i j m y n : ℕ) (v u : Var) (at : length place.scope + j ≡ i) (own : slice_get body.vars j ≡ Some v) (there : slice_get (place.scope ++ body.vars) y ≡ Some u) (ne : y ≢ i) (once : Once (plain_around place) i m y n body.lits) (partners : HasPartners s u v n m) where
  abbrev rest : List Lit
  rest = others body.lits (first_naming i body.lits)

  inside-met : (e : Env) → Reaches s place e → is_met s e (body_left i j body) ≡ is_met s e body
  inside-met e r =
      let k = parts-at body.vars j v own in
      sym (ap (λ vars. list_any (λ c. lits_true s (e ++ c) body.lits) (choices s vars)) k.0
      ∙ met-partner s place.scope e r.choice (take j body.vars) v (drop (j + 1) body.vars) body.lits i (first_naming i body.lits) y m n u once.pair.atom (ap (λ q. length place.scope + q) k.1 ∙ at) once.in' once.left once.pair.free (once.pair.says s) ne (ap (λ l. slice_get (place.scope ++ l) y) (sym k.0) ∙ there) partners
      (λ c h q. one_class-value s (e ++ c) (plain_around place ++ plain rest) once.pair.atom (Col y n)
      (lits-append s (e ++ c) (plain_around place) (plain rest) ∙ ap₂ (λ a b. a && b) (around-further s t path place sound is e c r) (plain-true s (e ++ c) rest q)) once.pair.class))

  pub inside-keeps : SameAmong s (t ∷ []) (replaced t path (spread held (body_left i j body ∷ [])))
  inside-keeps = body-replaced s t path place held body (body_left i j body ∷ []) is its (record { by = λ e r. one (is_met s e (body_left i j body)) ∙ inside-met e r })
    where
      one : (b : Bool) → (b || false) ≡ b
      one true = refl
      one false = refl
