-- A proper term names none but variables in scope and labels below sixteen.
use Rattle.std.proofs.Common.{◌≡◌, ℕ, zero, suc, ◌<◌, ◌≤◌, Bool, true, false, cond, List, [], ◌∷◌, ◌++◌, length, Option, Some, None, refl, arith, inl, inr, ◌⊎◌, subst, length-append}
use Rattle.std.specs.Prelude.{nat_lt, slice_get}
use Rattle.std.specs.List.{list_all}
use Rattle.std.proofs.lemmas.Bool.{and_parts, and_from, cases_Bool, ltb-true, lt-ltb}
use Rattle.mig_schema.specs.declared.tables.Kind.{Kind}
use Rattle.mig_schema.specs.declared.tables.Kind.TheVariants as kind
use Rattle.mig_schema.specs.declared.programs.Op.{Op}
use Rattle.mig_algebra.specs.declared.atoms.Var.{Var}
use Rattle.mig_algebra.specs.declared.atoms.Atom.{Atom}
use Rattle.mig_algebra.specs.declared.atoms.Atom.TheVariants.{Int, Text, Param, Fresh, Col}
use Rattle.mig_algebra.specs.declared.literals.Lit.{Lit, Cmp, Other, Any', Row_of-Lit, end_of-Lit, more_of-Lit}
use Rattle.mig_algebra.specs.declared.terms.Term.{Term}
use Rattle.mig_algebra.specs.Meaning.{Setting}
use Rattle.mig_algebra.specs.Proper.{Sides, var_fits, column_kind, atom_kind, cmp_fits, other_fits, lit_fits, row_fits, IsProperTerm}
use Rattle.mig_algebra.specs.Rename.{lit_all, row_all}
use Rattle.mig_algebra.specs.Scope.{atom_scoped}
use Rattle.mig_classes.specs.Keys.{KeysAreFresh, label_within, labels_within}
use Rattle.mig_replacing.specs.Given.{lit_within, row_within, IsSound}

-- ---- what is there

abbrev IsThere : {X : Type 0} → Option X → Type 0
IsThere None = ⊥
IsThere (Some x) = Unit {0}

-- both sides of a comparison that fits have a kind
kinds-there : (op : Op) (x y : Option Kind) → cmp_fits op x y ≡ true → IsThere x × IsThere y
kinds-there op None y h = cc
kinds-there op (Some a) None h = cc
kinds-there op (Some a) (Some b) h = (tt, tt)

-- both variables that are parted are there
others-there : (a b : ℕ) (x y : Option Var) → other_fits a b x y ≡ true → IsThere x × IsThere y
others-there a b None y h = cc
others-there a b (Some v) None h = cc
others-there a b (Some v) (Some w) h = (tt, tt)

-- an item that is there has a number below the length
there-within : {X : Type 0} (xs : List X) (i : ℕ) → IsThere (slice_get xs i) → i < length xs
there-within [] i h = absurd h
there-within (x ∷ xs) zero h = omega arith
there-within (x ∷ xs) (suc i) h = omega (arith, there-within xs i h)

pub scope-there : {X : Type 0} (xs : List X) (i : ℕ) → IsThere (slice_get xs i) → nat_lt i (length xs) ≡ true
scope-there xs i h = lt-ltb i (length xs) (there-within xs i h)

-- ---- atoms with a kind

column-there : (p : Sides) (o : Option Var) (c : ℕ) → IsThere (column_kind p o c) → IsThere o
column-there p None c h = absurd h
column-there p (Some v) c h = tt

-- name none but variables in scope
atom-scope : (p : Sides) (scope : List Var) (a : Atom) → IsThere (atom_kind p scope a) → atom_scoped (length scope) a ≡ true
atom-scope p scope (Int i) h = refl
atom-scope p scope (Text t) h = refl
atom-scope p scope (Param n) h = refl
atom-scope p scope (Fresh n) h = refl
atom-scope p scope (Col v c) h = scope-there scope v (column-there p (slice_get scope v) c h)

-- and labels below sixteen
label-there : (n m : ℕ) → 16 ≤ m → IsThere (cond (nat_lt n 16) (Some kind.Key) None) → nat_lt n m ≡ true
label-there n m k h = go (cases_Bool (nat_lt n 16))
  where
    go : (nat_lt n 16 ≡ true) ⊎ (nat_lt n 16 ≡ false) → nat_lt n m ≡ true
    go (inl t) = lt-ltb n m (omega (arith, ltb-true n 16 t, k))
    go (inr f) = absurd (subst (λ b. IsThere (cond b (Some kind.Key) None)) f h)

atom-label : (p : Sides) (scope : List Var) (m : ℕ) → 16 ≤ m → (a : Atom) → IsThere (atom_kind p scope a) → label_within m a ≡ true
atom-label p scope m k (Int i) h = refl
atom-label p scope m k (Text t) h = refl
atom-label p scope m k (Param n) h = refl
atom-label p scope m k (Fresh n) h = label-there n m k h
atom-label p scope m k (Col v c) h = refl

-- ---- literals that fit

mutual
  lit-scope : (p : Sides) (scope : List Var) (l : Lit) → lit_fits p scope l ≡ true → lit_within (length scope) l ≡ true
  lit-scope p scope (Cmp op a b) h =
      let k = kinds-there op (atom_kind p scope a) (atom_kind p scope b) h in
      and_from (atom_scoped (length scope) a) (atom_scoped (length scope) b) (atom-scope p scope a k.0) (atom-scope p scope b k.1)
  lit-scope p scope (Other a b) h =
      let k = others-there a b (slice_get scope a) (slice_get scope b) h in
      and_from (nat_lt a (length scope)) (nat_lt b (length scope)) (scope-there scope a k.0) (scope-there scope b k.1)
  lit-scope p scope (Any' held vars n row) h =
      subst (λ m. row_within m row ≡ true) (length-append scope vars) (row-scope p (scope ++ vars) row (and_parts (list_all (var_fits p) vars) (row_fits p (scope ++ vars) row) h).1)

  row-scope : (p : Sides) (scope : List Var) {m : _} (row : Row_of-Lit m) → row_fits p scope row ≡ true → row_within (length scope) row ≡ true
  row-scope p scope end_of-Lit h = refl
  row-scope p scope (more_of-Lit l rest) h =
      let k = and_parts (lit_fits p scope l) (row_fits p scope rest) h in
      and_from (lit_within (length scope) l) (row_within (length scope) rest) (lit-scope p scope l k.0) (row-scope p scope rest k.1)

mutual
  lit-label : (p : Sides) (m : ℕ) → 16 ≤ m → (scope : List Var) (l : Lit) → lit_fits p scope l ≡ true → lit_all (label_within m) (λ v. true) l ≡ true
  lit-label p m e scope (Cmp op a b) h =
      let k = kinds-there op (atom_kind p scope a) (atom_kind p scope b) h in
      and_from (label_within m a) (label_within m b) (atom-label p scope m e a k.0) (atom-label p scope m e b k.1)
  lit-label p m e scope (Other a b) h = refl
  lit-label p m e scope (Any' held vars n row) h = row-label p m e (scope ++ vars) row (and_parts (list_all (var_fits p) vars) (row_fits p (scope ++ vars) row) h).1

  row-label : (p : Sides) (m : ℕ) → 16 ≤ m → (scope : List Var) {n : _} (row : Row_of-Lit n) → row_fits p scope row ≡ true → row_all (label_within m) (λ v. true) row ≡ true
  row-label p m e scope end_of-Lit h = refl
  row-label p m e scope (more_of-Lit l rest) h =
      let k = and_parts (lit_fits p scope l) (row_fits p scope rest) h in
      and_from (lit_all (label_within m) (λ v. true) l) (row_all (label_within m) (λ v. true) rest) (lit-label p m e scope l k.0) (row-label p m e scope rest k.1)

-- ---- terms

-- a test that passes where another one does
all-weaker : (p q : Lit → Bool) → ((l : Lit) → p l ≡ true → q l ≡ true) → (ls : List Lit) → list_all p ls ≡ true → list_all q ls ≡ true
all-weaker p q w [] h = refl
all-weaker p q w (l ∷ ls) h = let k = and_parts (p l) (list_all p ls) h in and_from (q l) (list_all q ls) (w l k.0) (all-weaker p q w ls k.1)

pub proper-sound : (s : Setting) (p : Sides) (kinds : List Kind) (t : Term) → KeysAreFresh s → 16 ≤ length s.given.keys → IsProperTerm p kinds t → IsSound s t
proper-sound s p kinds t keys many h = record {
  keys = keys;
  labels = all-weaker (lit_fits p t.vars) (labels_within (length s.given.keys)) (lit-label p (length s.given.keys) many t.vars) t.lits h.fits;
  scope = all-weaker (lit_fits p t.vars) (lit_within (length t.vars)) (lit-scope p t.vars) t.lits h.fits;
}
