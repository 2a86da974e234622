-- A body that contradicts itself, or what stands around it, is never met; a term that contradicts itself has no rows.
use Rattle.std.proofs.Common.{◌≡◌, ℕ, Bool, true, false, ◌&&◌, ◌||◌, List, [], ◌∷◌, ◌++◌, Some, refl, sym, ap, ap₂, ◌∙◌, arith, length, inl, inr}
use Rattle.std.specs.List.{list_all, list_any}
use Rattle.std.proofs.lemmas.Bool.{false_from_ne_true, both_ways}
use Rattle.std.proofs.lemmas.List.Folds.{list_all-append}
use Rattle.mig_schema.specs.declared.values.Value.{Value}
use Rattle.mig_meaning.specs.Lists.{total, In}
use Rattle.mig_algebra.specs.declared.literals.Inner.{Inner}
use Rattle.mig_algebra.specs.declared.literals.Lit.TheVariants.{Any}
use Rattle.mig_algebra.specs.declared.terms.Term.{Term}
use Rattle.mig_algebra.specs.Meaning.{Setting, Env, choices, lits_true, head_of}
use Rattle.mig_algebra.proofs.Sums.{when, total-none}
use Rattle.mig_algebra.proofs.Truth.{lits-append}
use Rattle.mig_algebra.proofs.Weights.{weight}
use Rattle.mig_classes.specs.Given.{contradictory}
use Rattle.mig_classes.specs.Keys.{labels_within}
use Rattle.mig_classes.proofs.Contradicted.{contradictory-false}
use Rattle.mig_replacing.specs.Places.{Place, place_at}
use Rattle.mig_replacing.specs.Reaching.{Reaches}
use Rattle.mig_replacing.specs.Replaced.{spread, replaced, SameAmong}
use Rattle.mig_replacing.specs.Given.{plain, plain_around, IsSound}
use Rattle.mig_replacing.proofs.Around.{any-labels, all-plain, plain-true, lit-labels, around-labels, around-further}
use Rattle.mig_replacing.proofs.Reached.{each-from, choice-more}
use Rattle.mig_replacing.proofs.Replacing.{body-replaced, same-among}

-- a test that no item passes
none-passing : {X : Type 0} (p : X → Bool) (xs : List X) → ((x : X) → In x xs → p x ≡ false) → list_any p xs ≡ false
none-passing p [] h = refl
none-passing p (x ∷ xs) h = ap₂ (λ a b. a || b) (h x (inl refl)) (none-passing p xs (λ y i. h y (inr i)))

-- ---- bodies

module _ (s : Setting) (t : Term) (path : List ℕ) (place : Place) (held : Bool) (body : Inner) (sound : IsSound s t) (is : place_at t path ≡ Some place) (its : place.lit ≡ Any held body) (never : contradictory (place.scope ++ body.vars) (plain_around place ++ plain body.lits) ≡ true) where
  labels : list_all (labels_within (length s.given.keys)) (plain_around place ++ plain body.lits) ≡ true
  labels =
      list_all-append (labels_within (length s.given.keys)) (plain_around place) (plain body.lits)
      ∙ ap₂ (λ x y. x && y) (around-labels s t path place sound is)
      (all-plain (labels_within (length s.given.keys)) body.lits (sym (any-labels (length s.given.keys) held body) ∙ ap (labels_within (length s.given.keys)) (sym its) ∙ lit-labels s t path place sound is))

  -- its literals are true at no choice
  never-true : (e : Env) → Reaches s place e → (c : Env) → In c (choices s body.vars) → lits_true s (e ++ c) body.lits ≡ false
  never-true e r c i = false_from_ne_true (lits_true s (e ++ c) body.lits) (λ u.
      let around : lits_true s (e ++ c) (plain_around place) ≡ true = around-further s t path place sound is e c r in
      let both : lits_true s (e ++ c) (plain_around place ++ plain body.lits) ≡ true =
      lits-append s (e ++ c) (plain_around place) (plain body.lits) ∙ ap₂ (λ x y. x && y) around (plain-true s (e ++ c) body.lits u) in
      both_ways (lits_true s (e ++ c) (plain_around place ++ plain body.lits))
      (contradictory-false s (place.scope ++ body.vars) (e ++ c) (plain_around place ++ plain body.lits) sound.keys (choice-more s place.scope body.vars e c r.choice i) labels never) both)

  pub never-body : SameAmong s (t ∷ []) (replaced t path (spread held []))
  never-body =
      body-replaced s t path place held body [] is its (record { by = λ e r. sym (none-passing (λ c. lits_true s (e ++ c) body.lits) (choices s body.vars) (never-true e r)) })

-- ---- terms

-- a term that contradicts itself
pub never-term : (s : Setting) (t : Term) → IsSound s t → contradictory t.vars (plain t.lits) ≡ true → SameAmong s (t ∷ []) []
never-term s t sound never = same-among s (t ∷ []) [] (λ w. none w)
  where
    false-at : (c : Env) → In c (choices s t.vars) → lits_true s c t.lits ≡ false
    false-at c i = false_from_ne_true (lits_true s c t.lits) (λ u.
        both_ways (lits_true s c (plain t.lits))
        (contradictory-false s t.vars c (plain t.lits) sound.keys i (all-plain (labels_within (length s.given.keys)) t.lits sound.labels) never)
        (plain-true s c t.lits u))

    none : (w : List Value → ℕ) → 0 ≡ total (weight s w) (t ∷ [])
    none w =
        let zero-sum : weight s w t ≡ 0 = total-none (λ c. when (lits_true s c t.lits) (w (head_of s t.head c))) (choices s t.vars) (each-from _ (choices s t.vars) (λ c i. ap (λ b. when b (w (head_of s t.head c))) (false-at c i))) in
        omega (arith, zero-sum)
