-- A comparison that what stands around it gives may go, and so may a literal that stands twice in a list.
use Rattle.std.proofs.Common.{◌≡◌, ℕ, true, List, [], ◌∷◌, take, Some, sym, ap, ◌∙◌, arith, length}
use Rattle.std.proofs.lemmas.List.{take_all}
use Rattle.mig_meaning.specs.Lists.{In}
use Rattle.mig_algebra.specs.declared.terms.Term.{Term}
use Rattle.mig_algebra.specs.Meaning.{Setting, Env, lit_true}
use Rattle.mig_classes.specs.Given.{is_given}
use Rattle.mig_classes.proofs.Giving.{all-in, given-true}
use Rattle.mig_replacing.specs.Places.{Place, place_at}
use Rattle.mig_replacing.specs.Reaching.{stands_true, Reaches}
use Rattle.mig_replacing.specs.Replaced.{replaced, SameAmong}
use Rattle.mig_replacing.specs.Given.{plain_around, IsSound}
use Rattle.mig_replacing.proofs.Around.{lit-labels, around-labels, around-true}
use Rattle.mig_replacing.proofs.Reached.{choice-length}
use Rattle.mig_replacing.proofs.Replacing.{literal-replaced}

-- a literal that is true at each choice that reaches it goes
pub true-goes : (s : Setting) (t : Term) (path : List ℕ) (place : Place) → place_at t path ≡ Some place → ((e : Env) → Reaches s place e → lit_true s e place.lit ≡ true) → SameAmong s (t ∷ []) (replaced t path ([] ∷ []))
true-goes s t path place is h =
    literal-replaced s t path place ([] ∷ []) is
    (record { by = λ e r. sym (h e r) })
    (λ i e. record { by = λ c r. omega arith })

-- a comparison that is given
pub given-goes : (s : Setting) (t : Term) (path : List ℕ) (place : Place) → IsSound s t → place_at t path ≡ Some place → is_given place.scope (plain_around place) place.lit ≡ true → SameAmong s (t ∷ []) (replaced t path ([] ∷ []))
given-goes s t path place sound is g =
    true-goes s t path place is (λ e r.
    given-true s e (plain_around place) (around-true s t path place sound is e r) place.scope sound.keys r.choice (around-labels s t path place sound is) place.lit (lit-labels s t path place sound is) g)

-- a literal that stands twice in its list
pub repeated-goes : (s : Setting) (t : Term) (path : List ℕ) (place : Place) → place_at t path ≡ Some place → In (record { count = length place.scope; lit = place.lit }) place.around → SameAmong s (t ∷ []) (replaced t path ([] ∷ []))
repeated-goes s t path place is i =
    true-goes s t path place is (λ e r.
    let whole : take (length place.scope) e ≡ e = take_all (length place.scope) e (omega (arith, choice-length s place.scope e r.choice)) in
    ap (λ f. lit_true s f place.lit) (sym whole)
    ∙ all-in (stands_true s e) (record { count = length place.scope; lit = place.lit }) place.around r.around i)
