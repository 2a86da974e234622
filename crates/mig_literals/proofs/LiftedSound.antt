-- A held body without variables may become its literals.
use Rattle.std.proofs.Common.{◌≡◌, ℕ, ◌+◌, ◌≤◌, Bool, true, false, ◌||◌, List, [], ◌∷◌, ◌++◌, Some, refl, sym, subst, ap, ◌∙◌, arith}
use Rattle.std.specs.List.{list_any}
use Rattle.std.proofs.lemmas.Bool.{and_parts}
use Rattle.std.proofs.lemmas.List.{append-nil}
use Rattle.std.proofs.lemmas.Option.{same_Some}
use mathlib.Core.Former.{list_count, this}
use Rattle.mig_meaning.specs.declared.relating.Invariant.{Invariant}
use Rattle.mig_meaning.specs.Lists.{Each, total, bit}
use Rattle.mig_algebra.specs.declared.atoms.Var.{Var}
use Rattle.mig_algebra.specs.declared.literals.Lit.{Lit, Cmp, Other, Any', Row_of-Lit, items-the_row-Lit}
use Rattle.mig_algebra.specs.Meaning.{Setting, Env, lit_true, row_true, lits_true}
use Rattle.mig_algebra.specs.Proper.{Sides, lit_fits, row_fits, lit_oriented}
use Rattle.mig_algebra.proofs.Bodies.{row_as_list}
use Rattle.mig_replacing.specs.Replaced.{FitIn}
use Rattle.mig_replacing.proofs.Replacing.{literal-replaced}
use Rattle.mig_obligations.specs.Settings.{setting_of}
use Rattle.mig_literals.specs.Lifted.{lifted_lit, lifted}
use Rattle.mig_steps.specs.Spots.{Seen}
use Rattle.mig_steps.specs.Bodies.{is_body}
use Rattle.mig_steps.specs.Sound.{IsSoundAtLiterals}
use Rattle.mig_steps.proofs.FitBodies.{row-fit, fits-at}
use Rattle.mig_steps.proofs.SpotPlaces.{place-of}

-- a body without variables is true where its literals are
own-true : (s : Setting) (e : Env) (n : List (Unit {0})) (row : Row_of-Lit (list_count this n 0)) → lit_true s e (Any' true [] n row) ≡ lits_true s e (items-the_row-Lit _ row)
own-true s e n row = or-none (row_true s (e ++ []) row) ∙ ap (λ c. row_true s c row) (append-nil e) ∙ row_as_list s e row
  where
    or-none : (b : Bool) → (b || false) ≡ b
    or-none true = refl
    or-none false = refl

lift-true : (s : Setting) (e : Env) (l : Lit) (alts : List (List Lit)) → lifted_lit l ≡ Some alts → (list_any (lits_true s e) alts ≡ lit_true s e l) × (total (λ a. bit (lits_true s e a)) alts ≤ 1)
lift-true s e (Any' true [] n row) alts g =
    subst (λ a. (list_any (lits_true s e) a ≡ lit_true s e (Any' true [] n row)) × (total (λ ls. bit (lits_true s e ls)) a ≤ 1)) (same_Some (items-the_row-Lit _ row ∷ []) alts g)
    (or-none (lits_true s e (items-the_row-Lit _ row)) ∙ sym (own-true s e n row), bit-most (lits_true s e (items-the_row-Lit _ row)))
  where
    or-none : (b : Bool) → (b || false) ≡ b
    or-none true = refl
    or-none false = refl

    bit-most : (b : Bool) → bit b + 0 ≤ 1
    bit-most true = omega arith
    bit-most false = omega arith
lift-true s e (Any' true (v ∷ vars) n row) alts g = cc
lift-true s e (Any' false vars n row) alts g = cc
lift-true s e (Cmp op a b) alts g = cc
lift-true s e (Other a b) alts g = cc

lift-fits : (p : Sides) (scope : List Var) (l : Lit) (alts : List (List Lit)) → lifted_lit l ≡ Some alts → lit_fits p scope l ≡ true → lit_oriented l ≡ true → Each (FitIn p scope) alts
lift-fits p scope (Any' true [] n row) alts g f o =
    subst (Each (FitIn p scope)) (same_Some (items-the_row-Lit _ row ∷ []) alts g)
    (row-fit p scope row (ap (λ sc. row_fits p sc row) (sym (append-nil scope)) ∙ (and_parts true (row_fits p (scope ++ []) row) f).1) o, tt)
lift-fits p scope (Any' true (v ∷ vars) n row) alts g f o = cc
lift-fits p scope (Any' false vars n row) alts g f o = cc
lift-fits p scope (Cmp op a b) alts g f o = cc
lift-fits p scope (Other a b) alts g f o = cc

by-lit : (args : List ℕ) (s : Seen) (alts : List (List Lit)) → lifted args s ≡ Some alts → lifted_lit s.lit ≡ Some alts
by-lit [] s alts g = g
by-lit (a ∷ args) s alts g = cc

pub lifted-sound : (p : Sides) (invs : List Invariant) → IsSoundAtLiterals p invs lifted
lifted-sound p invs = record {
  fits = λ kinds t path args s alts h is g.
      let there = place-of t path s is in
      let f = fits-at p kinds t path there.0 h there.1 in
      subst (λ sc. Each (FitIn p sc) alts) there.2.scope (lift-fits p there.0.scope there.0.lit alts (ap lifted_lit there.2.lit ∙ by-lit args s alts g) f.0 f.1);
  bag = λ m at kinds t path args s alts h is g.
      let there = place-of t path s is in
      let its : lifted_lit there.0.lit ≡ Some alts = ap lifted_lit there.2.lit ∙ by-lit args s alts g in
      literal-replaced (setting_of p m) t path there.0 alts there.1
      (record { by = λ e r. (lift-true (setting_of p m) e there.0.lit alts its).0 })
      (λ i e. record { by = λ c r. (lift-true (setting_of p m) c there.0.lit alts its).1 });
}

-- the rule gives something at a body alone
pub lifted-body : (bs : List ℕ) (s : Seen) (alts : List (List Lit)) → lifted bs s ≡ Some alts → is_body s.lit ≡ true
lifted-body [] s alts h = go s.lit h
  where
    go : (l : Lit) → lifted_lit l ≡ Some alts → is_body l ≡ true
    go (Any' held vars n row) k = refl
    go (Cmp op a b) k = cc
    go (Other a b) k = cc
lifted-body (a ∷ bs) s alts h = cc
