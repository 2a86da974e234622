-- Whether the literal at a path fits where it stands.
use Rattle.std.proofs.Common.{◌≡◌, ℕ, true, List, [], ◌∷◌, ◌++◌, length, Option, Some, None, refl, subst}
use Rattle.std.specs.Prelude.{slice_get}
use Rattle.std.specs.List.{list_all}
use Rattle.std.proofs.lemmas.Bool.{and_parts, and_from}
use Rattle.mig_schema.specs.declared.tables.Kind.{Kind}
use Rattle.mig_algebra.specs.declared.atoms.Var.{Var}
use Rattle.mig_algebra.specs.declared.literals.Lit.{Lit, Cmp, Other, Any', Row_of-Lit, end_of-Lit, more_of-Lit, items-the_row-Lit}
use Rattle.mig_algebra.specs.declared.terms.Term.{Term}
use Rattle.mig_algebra.specs.Proper.{Sides, var_fits, lit_fits, row_fits, lit_oriented, row_oriented, IsProperTerm}
use Rattle.mig_replacing.specs.Places.{Standing, Place, others, standing, place_within, place_at}
use Rattle.mig_replacing.specs.Replaced.{FitIn}
use Rattle.mig_steps.proofs.Options.{all-get}

-- a row that fits, as a list
pub row-fit : (p : Sides) (scope : List Var) {m : _} (row : Row_of-Lit m) → row_fits p scope row ≡ true → row_oriented row ≡ true → FitIn p scope (items-the_row-Lit m row)
row-fit p scope end_of-Lit h k = record { fits = refl; oriented = refl }
row-fit p scope (more_of-Lit l rest) h k =
    let a = and_parts (lit_fits p scope l) (row_fits p scope rest) h in
    let b = and_parts (lit_oriented l) (row_oriented rest) k in
    let more = row-fit p scope rest a.1 b.1 in
    record { fits = and_from (lit_fits p scope l) _ a.0 more.fits; oriented = and_from (lit_oriented l) _ b.0 more.oriented }

-- the literal at a path fits where it stands
abbrev pub FitsThere : Sides → Place → Type 0
FitsThere p place = (lit_fits p place.scope place.lit ≡ true) × (lit_oriented place.lit ≡ true)

fits-within : (p : Sides) (path : List ℕ) (scope : List Var) (around : List Standing) (o : Option Lit) (place : Place) → place_within scope around o path ≡ Some place → ((l : Lit) → o ≡ Some l → (lit_fits p scope l ≡ true) × (lit_oriented l ≡ true)) → FitsThere p place
fits-within p [] scope around None place is f = cc
fits-within p [] scope around (Some l) place is f = let e : ◌≡◌ {A = Place} (record { scope = scope; around = around; lit = l }) place = cc in subst (FitsThere p) e (f l refl)
fits-within p (j ∷ path) scope around None place is f = cc
fits-within p (j ∷ path) scope around (Some (Cmp op a b)) place is f = cc
fits-within p (j ∷ path) scope around (Some (Other a b)) place is f = cc
fits-within p (j ∷ path) scope around (Some (Any' held vars n row)) place is f =
    let its = f (Any' held vars n row) refl in
    let k = and_parts (list_all (var_fits p) vars) (row_fits p (scope ++ vars) row) its.0 in
    let all = row-fit p (scope ++ vars) row k.1 its.1 in
    let lits = items-the_row-Lit _ row in
    fits-within p path (scope ++ vars) (around ++ standing (length (scope ++ vars)) (others lits j)) (slice_get lits j) place is
    (λ l g. (all-get (lit_fits p (scope ++ vars)) lits j l all.fits g, all-get lit_oriented lits j l all.oriented g))

pub fits-at : (p : Sides) (kinds : List Kind) (t : Term) (path : List ℕ) (place : Place) → IsProperTerm p kinds t → place_at t path ≡ Some place → FitsThere p place
fits-at p kinds t [] place h is = cc
fits-at p kinds t (j ∷ path) place h is =
    fits-within p path t.vars (standing (length t.vars) (others t.lits j)) (slice_get t.lits j) place is
    (λ l g. (all-get (lit_fits p t.vars) t.lits j l h.fits g, all-get lit_oriented t.lits j l h.oriented g))
