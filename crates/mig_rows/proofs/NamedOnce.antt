-- What it is for one equality alone to name a variable.
use Rattle.std.proofs.Common.{◌≡◌, ℕ, ◌<◌, Bool, true, false, ◌&&◌, ◌||◌, List, ◌++◌, length, refl, ap, ◌∙◌, inl, inr, ◌⊎◌}
use Rattle.std.specs.Prelude.{nat_lt}
use Rattle.std.specs.List.{list_all}
use Rattle.std.proofs.lemmas.Bool.{and_parts, ltb-true}
use Rattle.mig_schema.specs.declared.programs.Op.TheVariants.{Eq, Ne, Lt, Le, Gt, Ge}
use Rattle.mig_meaning.specs.declared.states.Placed.{Placed}
use Rattle.mig_meaning.specs.Lists.{In}
use Rattle.mig_meaning.specs.Rows.{value_at}
use Rattle.mig_meaning.specs.Values.{value_eq}
use Rattle.mig_algebra.specs.declared.atoms.Var.{Var}
use Rattle.mig_algebra.specs.declared.atoms.Atom.{Atom}
use Rattle.mig_algebra.specs.declared.atoms.Atom.TheVariants.{Col}
use Rattle.mig_algebra.specs.declared.literals.Lit.{Lit, Cmp, Other, Any'}
use Rattle.mig_algebra.specs.Meaning.{Setting, Env, value_of, lit_true}
use Rattle.mig_algebra.proofs.Truth.{value_eq-swap}
use Rattle.mig_classes.specs.Classes.{atom_eq, one_class}
use Rattle.mig_classes.proofs.Classed.{atom_eq-true}
use Rattle.mig_replacing.specs.Places.{others}
use Rattle.mig_replacing.specs.Replaced.{lit_at}
use Rattle.mig_replacing.specs.Given.{plain}
use Rattle.mig_rows.specs.Writing.{avoids, leaves}
use Rattle.mig_rows.specs.Naming.{first_naming, is_pair, pairs, names_once}

-- an atom that is equated with the column
pub record Pairs (ls : List Lit) (i m y n : ℕ) (l : Lit) : Type 0 where
  pub atom : Atom
  pub free : avoids i atom ≡ true
  pub says : (s : Setting) (f : Env) → lit_true s f l ≡ value_eq (value_of s f (Col i m)) (value_of s f atom)
  pub class : one_class ls atom (Col y n) ≡ true

pair-parts : (ls : List Lit) (i m y n : ℕ) (a b : Atom) → is_pair ls i m y n a b ≡ true → (a ≡ Col i m) × (avoids i b ≡ true) × (one_class ls b (Col y n) ≡ true)
pair-parts ls i m y n a b h =
    let k = and_parts (atom_eq a (Col i m)) (avoids i b && one_class ls b (Col y n)) h in
    let l = and_parts (avoids i b) (one_class ls b (Col y n)) k.1 in
    (atom_eq-true a (Col i m) k.0, l.0, l.1)

either : (a b : Bool) → (a || b) ≡ true → (a ≡ true) ⊎ (b ≡ true)
either true b h = inl refl
either false b h = inr h

pub pair-found : (ls : List Lit) (i m y n : ℕ) (l : Lit) → pairs ls i m y n l ≡ true → Pairs ls i m y n l
pair-found ls i m y n (Cmp Eq a b) h = go (either (is_pair ls i m y n a b) (is_pair ls i m y n b a) h)
  where
    go : (is_pair ls i m y n a b ≡ true) ⊎ (is_pair ls i m y n b a ≡ true) → Pairs ls i m y n (Cmp Eq a b)
    go (inl t) =
        let k = pair-parts ls i m y n a b t in
        record { atom = b; free = k.1; says = λ s f. ap (λ x. value_eq (value_of s f x) (value_of s f b)) k.0; class = k.2 }
    go (inr t) =
        let k = pair-parts ls i m y n b a t in
        record { atom = a; free = k.1; says = λ s f. value_eq-swap (value_of s f a) (value_of s f b) ∙ ap (λ x. value_eq (value_of s f x) (value_of s f a)) k.0; class = k.2 }
pair-found ls i m y n (Cmp Ne a b) h = cc
pair-found ls i m y n (Cmp Lt a b) h = cc
pair-found ls i m y n (Cmp Le a b) h = cc
pair-found ls i m y n (Cmp Gt a b) h = cc
pair-found ls i m y n (Cmp Ge a b) h = cc
pair-found ls i m y n (Other a b) h = cc
pair-found ls i m y n (Any' held vars k row) h = cc

-- what it is to be named once
pub record Once (around : List Lit) (i m y n : ℕ) (lits : List Lit) : Type 0 where
  pub in' : first_naming i lits < length lits
  pub left : list_all (leaves i) (others lits (first_naming i lits)) ≡ true
  pub pair : Pairs (around ++ plain (others lits (first_naming i lits))) i m y n (lit_at lits (first_naming i lits))

pub named-once : (around : List Lit) (i m y n : ℕ) (lits : List Lit) → names_once around i m y n lits ≡ true → Once around i m y n lits
named-once around i m y n lits h =
    let j = first_naming i lits in
    let a = and_parts (nat_lt j (length lits)) (list_all (leaves i) (others lits j) && pairs (around ++ plain (others lits j)) i m y n (lit_at lits j)) h in
    let b = and_parts (list_all (leaves i) (others lits j)) (pairs (around ++ plain (others lits j)) i m y n (lit_at lits j)) a.1 in
    record { in' = ltb-true j (length lits) a.0; left = b.0; pair = pair-found (around ++ plain (others lits j)) i m y n (lit_at lits j) b.1 }

-- each row of u's table has a row of v's with its value
abbrev pub HasPartners : Setting → Var → Var → (n m : ℕ) → Type 0
HasPartners s u v n m = (r : Placed) → In r (s.rows u) → (q : Placed) × In q (s.rows v) × (value_eq (value_at r n) (value_at q m) ≡ true)
