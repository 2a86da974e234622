-- Literals that what stands around them gives, or repeats.
use Rattle.std.specs.Prelude.{◌≡◌, ◌≤◌, nat_lt, ℕ, ◌+◌, Bool, true, ◌&&◌, List, [], ◌∷◌, ◌++◌, length, map, Some}
use Rattle.std.specs.List.{list_all}
use Rattle.mig_schema.specs.declared.tables.Kind.{Kind}
use Rattle.mig_meaning.specs.Lists.{In}
use Rattle.mig_algebra.specs.declared.literals.Inner.{Inner}
use Rattle.mig_algebra.specs.declared.literals.Lit.{Lit, Cmp, Other, Any', Row_of-Lit, end_of-Lit, more_of-Lit}
use Rattle.mig_algebra.specs.declared.literals.Lit.TheVariants.{Any}
use Rattle.mig_algebra.specs.declared.terms.Term.{Term}
use Rattle.mig_algebra.specs.Meaning.{Setting}
use Rattle.mig_algebra.specs.Proper.{Sides, IsProperTerm}
use Rattle.mig_algebra.specs.Scope.{atom_scoped}
use Rattle.mig_classes.specs.Given.{is_given, contradictory}
use Rattle.mig_classes.specs.Keys.{KeysAreFresh, labels_within}
use Rattle.mig_replacing.specs.Places.{Standing, Place, place_at}
use Rattle.mig_replacing.specs.Replaced.{replaced, spread, SameAmong}

-- the comparisons of a list, and what says in it that rows differ
abbrev pub plain : List Lit → List Lit
plain [] = []
plain (Cmp op a b ∷ ls) = Cmp op a b ∷ plain ls
plain (Other a b ∷ ls) = Other a b ∷ plain ls
plain (Any' held vars n row ∷ ls) = plain ls

-- such literals among those around a place
abbrev pub plain_around : Place → List Lit
plain_around p = plain (map (λ (l : Standing). l.lit) p.around)

-- whether a literal names none but the variables in scope, of which there are n around it
abbrev mutual
  pub lit_within : ℕ → Lit → Bool
  lit_within n (Cmp op a b) = atom_scoped n a && atom_scoped n b
  lit_within n (Other a b) = nat_lt a n && nat_lt b n
  lit_within n (Any' held vars m row) = row_within (n + length vars) row

  pub row_within : ℕ → {m : _} → Row_of-Lit m → Bool
  row_within n end_of-Lit = true
  row_within n (more_of-Lit l rest) = lit_within n l && row_within n rest

-- what is asked of a term where laws speak of its classes: keys are fresh, each label has a key, and its literals name none but variables in scope
pub record IsSound (s : Setting) (t : Term) : Type 0 where
  pub keys : KeysAreFresh s
  pub labels : list_all (labels_within (length s.given.keys)) t.lits ≡ true
  pub scope : list_all (lit_within (length t.vars)) t.lits ≡ true

-- a proper term is so, where keys are fresh and there are a call's sixteen, or more
pub record SoundLaw : Type 0 where
  pub by : (s : Setting) (p : Sides) (kinds : List Kind) (t : Term) → KeysAreFresh s → 16 ≤ length s.given.keys
      → IsProperTerm p kinds t → IsSound s t

-- a comparison that the plain literals around it give may go, and so may a literal that repeats another of its list
pub record GivenLaw : Type 0 where
  pub given : (s : Setting) (t : Term) (path : List ℕ) (p : Place) → IsSound s t → place_at t path ≡ Some p
      → is_given p.scope (plain_around p) p.lit ≡ true
      → SameAmong s (t ∷ []) (replaced t path ([] ∷ []))
  pub repeated : (s : Setting) (t : Term) (path : List ℕ) (p : Place) → place_at t path ≡ Some p
      → In (record { count = length p.scope; lit = p.lit }) p.around
      → SameAmong s (t ∷ []) (replaced t path ([] ∷ []))

-- A body that contradicts itself, or what stands around it, is never met. Where it is held there is no alternative, else one without literals.
pub record NeverLaw : Type 0 where
  pub body : (s : Setting) (t : Term) (path : List ℕ) (p : Place) (held : Bool) (body : Inner) → IsSound s t → place_at t path ≡ Some p
      → p.lit ≡ Any held body
      → contradictory (p.scope ++ body.vars) (plain_around p ++ plain body.lits) ≡ true
      → SameAmong s (t ∷ []) (replaced t path (spread held []))
  pub term : (s : Setting) (t : Term) → IsSound s t → contradictory t.vars (plain t.lits) ≡ true → SameAmong s (t ∷ []) []
