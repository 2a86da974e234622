-- What classes, and the comparisons that a list gives, are.
use Rattle.std.specs.Prelude.{◌≡◌, Bool, true, false, List, length, not}
use Rattle.std.specs.Cmp.{IsEquivalence}
use Rattle.std.specs.List.{list_all}
use Rattle.mig_schema.specs.declared.programs.Op.TheVariants.{Eq}
use Rattle.mig_algebra.specs.declared.atoms.Var.{Var}
use Rattle.mig_algebra.specs.declared.atoms.Atom.{Atom}
use Rattle.mig_algebra.specs.declared.literals.Lit.{Lit}
use Rattle.mig_algebra.specs.Atoms.{atom_lt}
use Rattle.mig_algebra.specs.Meaning.{Setting, Env, choices, value_of, lit_true, lits_true}
use Rattle.mig_meaning.specs.Lists.{In}
use Rattle.mig_classes.specs.Classes.{least, one_class, all_equated}
use Rattle.mig_classes.specs.Given.{given, is_given, has_complement, complement, contradictory}
use Rattle.mig_classes.specs.Keys.{KeysAreFresh, labels_within}

-- To be in one class is the least equivalence that holds of both sides of each equality: two atoms are in one class exactly where every such equivalence holds of them. The least atom of a class is in it, and no atom of the class is before it.
pub record ClassLaw : Type 0 where
  pub equivalence : (ls : List Lit) → IsEquivalence (one_class ls)
  pub equated : (ls : List Lit) → all_equated (one_class ls) ls
  pub every : (ls : List Lit) (a b : Atom) (same : Atom → Atom → Bool) → IsEquivalence same → all_equated same ls → one_class ls a b ≡ true → same a b ≡ true
  pub member : (ls : List Lit) (a : Atom) → one_class ls a (least ls a) ≡ true
  pub first : (ls : List Lit) (a b : Atom) → one_class ls a b ≡ true → atom_lt b (least ls a) ≡ false

-- where a list is true, the atoms of a class have one value
pub record ValueLaw : Type 0 where
  pub by : (s : Setting) (e : Env) (ls : List Lit) (a b : Atom) → lits_true s e ls ≡ true → one_class ls a b ≡ true → value_of s e a ≡ value_of s e b

-- At a choice of rows for the variables in scope at which a list is true, so is each comparison that it gives, where keys are fresh and each label has a key.
pub record GivenLaw : Type 0 where
  pub by : (s : Setting) (scope : List Var) (e : Env) (ls : List Lit) (l : Lit) → KeysAreFresh s → In e (choices s scope)
      → list_all (labels_within (length s.given.keys)) ls ≡ true → labels_within (length s.given.keys) l ≡ true
      → is_given scope ls l ≡ true → lits_true s e ls ≡ true → lit_true s e l ≡ true

-- An equality that a list gives holds wherever the list is true: of the rows and the keys nothing is asked.
pub record EqualLaw : Type 0 where
  pub by : (s : Setting) (e : Env) (ls : List Lit) (scope : List Var) (a b : Atom) → lits_true s e ls ≡ true → given scope ls Eq a b ≡ true → value_of s e a ≡ value_of s e b

-- A contradictory list is true at no choice of rows, where keys are fresh and each label has a key.
pub record ContradictionLaw : Type 0 where
  pub by : (s : Setting) (scope : List Var) (e : Env) (ls : List Lit) → KeysAreFresh s → In e (choices s scope)
      → list_all (labels_within (length s.given.keys)) ls ≡ true → contradictory scope ls ≡ true → lits_true s e ls ≡ false

-- the complement of a literal is true exactly where the literal is not
pub record ComplementLaw : Type 0 where
  pub by : (s : Setting) (e : Env) (l : Lit) → has_complement l ≡ true → lit_true s e (complement l) ≡ not (lit_true s e l)
