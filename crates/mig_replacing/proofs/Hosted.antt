-- A body whose rows come to as many as those of another, at each choice that reaches it: the other may take its place.
use Rattle.std.proofs.Common.{◌≡◌, ℕ, zero, suc, ◌+◌, Bool, true, false, ◌||◌, List, [], ◌∷◌, ◌++◌, Some, refl, sym, ap, ap₂, ◌∙◌, arith}
use Rattle.std.specs.List.{list_any}
use Rattle.mig_meaning.specs.Lists.{total}
use Rattle.mig_algebra.specs.declared.literals.Inner.{Inner}
use Rattle.mig_algebra.specs.declared.literals.Lit.TheVariants.{Any}
use Rattle.mig_algebra.specs.declared.terms.Term.{Term}
use Rattle.mig_algebra.specs.Meaning.{Setting, Env, choices, lits_true}
use Rattle.mig_algebra.proofs.Hosts.{host_sum, met-by_sum}
use Rattle.mig_algebra.proofs.Some.{positive, any_is_positive}
use Rattle.mig_replacing.specs.Places.{Place, place_at}
use Rattle.mig_replacing.specs.Reaching.{Reaches, is_met}
use Rattle.mig_replacing.specs.Replaced.{spread, replaced, SameAmong, met_count, CountLaw}
use Rattle.mig_replacing.proofs.Replacing.{body-replaced}

-- so a variable that goes from a host, and two variables that are made one, may do so in a body
pub body-hosted : (s : Setting) (t : Term) (path : List ℕ) (place : Place) (held : Bool) (body other : Inner) → place_at t path ≡ Some place → place.lit ≡ Any held body → ((e : Env) → Reaches s place e → host_sum s e (λ _. 1) other.vars other.lits ≡ host_sum s e (λ _. 1) body.vars body.lits) → SameAmong s (t ∷ []) (replaced t path (spread held (other ∷ [])))
body-hosted s t path place held body other is its h = body-replaced s t path place held body (other ∷ []) is its (record { by = same })
  where
    one : (b : Bool) → (b || false) ≡ b
    one true = refl
    one false = refl

    same : (e : Env) → Reaches s place e → list_any (is_met s e) (other ∷ []) ≡ is_met s e body
    same e r = one (is_met s e other) ∙ met-by_sum s e other.vars other.lits ∙ ap positive (h e r) ∙ sym (met-by_sum s e body.vars body.lits)

-- ---- several bodies

either-positive : (m n : ℕ) → (positive m || positive n) ≡ positive (m + n)
either-positive zero n = let e : n ≡ 0 + n = omega arith in ap positive e
either-positive (suc m) n = let e : suc (m + n) ≡ suc m + n = omega arith in ap positive e

-- a body is met where some choice meets it
met-counted : (s : Setting) (e : Env) (b : Inner) → is_met s e b ≡ positive (met_count s e b)
met-counted s e b = any_is_positive (λ c. lits_true s (e ++ c) b.lits) (choices s b.vars)

-- one of several where some choice meets one
any-met : (s : Setting) (e : Env) (bodies : List Inner) → list_any (is_met s e) bodies ≡ positive (total (met_count s e) bodies)
any-met s e [] = refl
any-met s e (b ∷ bs) = ap₂ (λ x y. x || y) (met-counted s e b) (any-met s e bs) ∙ either-positive (met_count s e b) (total (met_count s e) bs)

-- bodies that are met by as many choices together as a body may take its place
pub bodies-counted : CountLaw
bodies-counted = record {
  by = λ s t path place held body bodies is its h.
      body-replaced s t path place held body bodies is its (record { by = λ e r. any-met s e bodies ∙ ap positive (h e r) ∙ sym (met-counted s e body) });
}
