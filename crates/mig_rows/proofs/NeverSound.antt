-- A body that no rows meet may be decided.
use Rattle.std.proofs.Common.{◌≡◌, ℕ, Bool, true, false, ◌&&◌, ◌||◌, List, [], ◌∷◌, ◌++◌, Some, length, refl, sym, subst, ap, ap₂, ◌∙◌, inl, inr}
use Rattle.std.specs.List.{list_all, list_any}
use Rattle.std.proofs.lemmas.Bool.{false_from_ne_true}
use Rattle.std.proofs.lemmas.List.Folds.{list_all-append}
use Rattle.std.proofs.lemmas.Option.{same_Some}
use Rattle.mig_schema.specs.declared.tables.Kind.{Kind}
use Rattle.mig_meaning.specs.declared.relating.Invariant.{Invariant}
use Rattle.mig_meaning.specs.Lists.{Each, In}
use Rattle.mig_algebra.specs.declared.atoms.Var.{Var}
use Rattle.mig_algebra.specs.declared.literals.Inner.{Inner}
use Rattle.mig_algebra.specs.declared.literals.Lit.{Lit, Cmp, Other, Any', items-the_row-Lit}
use Rattle.mig_algebra.specs.declared.literals.Lit.TheVariants.{Any}
use Rattle.mig_algebra.specs.declared.terms.Term.{Term}
use Rattle.mig_algebra.specs.Meaning.{Setting, Env, choices, lits_true}
use Rattle.mig_algebra.specs.Proper.{Sides, IsProperTerm}
use Rattle.mig_algebra.proofs.OrderLaws.{by_list}
use Rattle.mig_algebra.proofs.Truth.{lits-append}
use Rattle.mig_classes.specs.Keys.{labels_within}
use Rattle.mig_replacing.specs.Places.{Place, place_at}
use Rattle.mig_replacing.specs.Reaching.{Reaches}
use Rattle.mig_replacing.specs.Given.{plain, plain_around, IsSound}
use Rattle.mig_replacing.specs.Replaced.{spread, replaced, SameAmong, FitIn}
use Rattle.mig_replacing.proofs.Around.{any-labels, all-plain, plain-true, lit-labels, around-labels, around-further}
use Rattle.mig_replacing.proofs.Reached.{choice-more}
use Rattle.mig_replacing.proofs.Replacing.{body-replaced}
use Rattle.mig_obligations.specs.Settings.{Moment, setting_of, IsMoment}
use Rattle.mig_steps.specs.Bodies.{is_body}
use Rattle.mig_steps.specs.Sound.{IsSoundAtLiterals}
use Rattle.mig_steps.specs.Spots.{Seen}
use Rattle.mig_steps.proofs.Moments.{sound-at}
use Rattle.mig_steps.proofs.Options.{cond-then}
use Rattle.mig_steps.proofs.SpotPlaces.{IsPlaceOf, place-of}
use Rattle.mig_rows.specs.Never.{is_never, never_lit, never}
use Rattle.mig_rows.proofs.NeverTrue.{never-true}

-- a test that no item passes
none-passing : {X : Type 0} (p : X → Bool) (xs : List X) → ((x : X) → In x xs → p x ≡ false) → list_any p xs ≡ false
none-passing p [] h = refl
none-passing p (x ∷ xs) h = ap₂ (λ a b. a || b) (h x (inl refl)) (none-passing p xs (λ y i. h y (inr i)))

-- ---- a body

module _ (p : Sides) (invs : List Invariant) (m : Moment) (at : IsMoment p invs m) (t : Term) (path : List ℕ) (place : Place) (held : Bool) (body : Inner) (sound : IsSound (setting_of p m) t) (is : place_at t path ≡ Some place) (its : place.lit ≡ Any held body) (never : is_never invs (place.scope ++ body.vars) (plain_around place ++ plain body.lits) ≡ true) where
  abbrev s : Setting
  s = setting_of p m

  labels : list_all (labels_within (length s.given.keys)) (plain_around place ++ plain body.lits) ≡ true
  labels =
      list_all-append (labels_within (length s.given.keys)) (plain_around place) (plain body.lits)
      ∙ ap₂ (λ x y. x && y) (around-labels s t path place sound is)
      (all-plain (labels_within (length s.given.keys)) body.lits (sym (any-labels (length s.given.keys) held body) ∙ ap (labels_within (length s.given.keys)) (sym its) ∙ lit-labels s t path place sound is))

  -- its literals are true at no choice
  unmet : (e : Env) → Reaches s place e → (c : Env) → In c (choices s body.vars) → lits_true s (e ++ c) body.lits ≡ false
  unmet e r c i = false_from_ne_true (lits_true s (e ++ c) body.lits) (λ u.
      never-true p invs m at (place.scope ++ body.vars) (e ++ c) (choice-more s place.scope body.vars e c r.choice i) (plain_around place ++ plain body.lits)
      (lits-append s (e ++ c) (plain_around place) (plain body.lits) ∙ ap₂ (λ x y. x && y) (around-further s t path place sound is e c r) (plain-true s (e ++ c) body.lits u))
      labels never)

  pub never-keeps : SameAmong s (t ∷ []) (replaced t path (spread held []))
  never-keeps = body-replaced s t path place held body [] is its (record { by = λ e r. sym (none-passing (λ c. lits_true s (e ++ c) body.lits) (choices s body.vars) (unmet e r)) })

-- ---- the rule

by-lit : (invs : List Invariant) (args : List ℕ) (s : Seen) (alts : List (List Lit)) → never invs args s ≡ Some alts → never_lit invs s s.lit ≡ Some alts
by-lit invs [] s alts g = g
by-lit invs (a ∷ args) s alts g = cc

pub never-sound : (p : Sides) (invs : List Invariant) → IsSoundAtLiterals p invs (never invs)
never-sound p invs = record {
  fits = λ kinds t path args s alts h is g. fits s s.lit alts (by-lit invs args s alts g);
  bag = λ m at kinds t path args s alts h is g. let there = place-of t path s is in bag m at kinds t path s there.0 alts h there.1 there.2 s.lit refl (by-lit invs args s alts g);
}
  where
    decided-fits : (scope : List Var) (held : Bool) → Each (FitIn p scope) (spread held [])
    decided-fits scope true = tt
    decided-fits scope false = (record { fits = refl; oriented = refl }, tt)

    fits : (s : Seen) (l : Lit) (alts : List (List Lit)) → never_lit invs s l ≡ Some alts → Each (FitIn p s.scope) alts
    fits s (Cmp op a b) alts g = cc
    fits s (Other a b) alts g = cc
    fits s (Any' held vars n row) alts g =
        let k = cond-then (is_never invs (s.scope ++ vars) (s.around ++ plain (items-the_row-Lit _ row))) (Some (spread held [])) alts g in
        subst (Each (FitIn p s.scope)) (same_Some (spread held []) alts k.1) (decided-fits s.scope held)

    bag : (m : Moment) → IsMoment p invs m → (kinds : List Kind) (t : Term) (path : List ℕ) (s : Seen) (place : Place) (alts : List (List Lit)) → IsProperTerm p kinds t → place_at t path ≡ Some place → IsPlaceOf s place → (l : Lit) → s.lit ≡ l → never_lit invs s l ≡ Some alts → SameAmong (setting_of p m) (t ∷ []) (replaced t path alts)
    bag m at kinds t path s place alts h is of (Cmp op a b) e g = cc
    bag m at kinds t path s place alts h is of (Other a b) e g = cc
    bag m at kinds t path s place alts h is of (Any' held vars n row) e g =
        let k = cond-then (is_never invs (s.scope ++ vars) (s.around ++ plain (items-the_row-Lit _ row))) (Some (spread held [])) alts g in
        subst (λ a. SameAmong (setting_of p m) (t ∷ []) (replaced t path a)) (same_Some (spread held []) alts k.1)
        (never-keeps p invs m at t path place held (record { vars = vars; lits = items-the_row-Lit _ row }) (sound-at p invs m at kinds t h) is
        (of.lit ∙ e ∙ sym (by_list held vars n row))
        (ap₂ (λ (sc : List Var) (ls : List Lit). is_never invs (sc ++ vars) (ls ++ plain (items-the_row-Lit _ row))) of.scope of.around ∙ k.0))

-- the rule gives something at a body alone
pub never-is_body : (invs : List Invariant) (bs : List ℕ) (s : Seen) (alts : List (List Lit)) → never invs bs s ≡ Some alts → is_body s.lit ≡ true
never-is_body invs [] s alts h = go s.lit h
  where
    go : (l : Lit) → never_lit invs s l ≡ Some alts → is_body l ≡ true
    go (Any' held vars n row) k = refl
    go (Cmp op a b) k = cc
    go (Other a b) k = cc
never-is_body invs (a ∷ bs) s alts h = cc
