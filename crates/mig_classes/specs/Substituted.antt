-- A term without one of its variables, for each column of which an atom is written.
use Rattle.std.specs.Prelude.{◌≡◌, ℕ, ◌+◌, ◌<◌, ◌==◌, nat_lt, Bool, true, not, ◌&&◌, ◌||◌, List, ◌++◌, ◌∷◌, length, map, take, drop, slice_get, Some}
use Rattle.std.specs.List.{list_all}
use Rattle.mig_schema.specs.declared.tables.Column.{Column}
use Rattle.mig_schema.specs.Columns.{columns_of}
use Rattle.mig_meaning.specs.declared.states.Placed.{Placed}
use Rattle.mig_meaning.specs.Rows.{value_at}
use Rattle.mig_algebra.specs.declared.atoms.Var.{Var}
use Rattle.mig_algebra.specs.declared.atoms.Atom.{Atom}
use Rattle.mig_algebra.specs.declared.atoms.Atom.TheVariants.{Int, Text, Param, Fresh, Col}
use Rattle.mig_algebra.specs.declared.terms.Term.{Term}
use Rattle.mig_algebra.specs.Meaning.{Setting, Env, value_of, lits_true, head_of}
use Rattle.mig_algebra.specs.Proper.{Sides, schema_of, atom_kind}
use Rattle.mig_classes.specs.Forests.{atom_of}
use Rattle.mig_algebra.specs.Rename.{lit_all, lits_with, renumbered, below, without, is_not}

-- An atom where variable i is taken away. The atoms for its columns are in the numbers from before.
abbrev pub written : ℕ → List Atom → Atom → Atom
written i atoms a = without i (λ c. renumbered (below i) (atom_of atoms c)) a

-- the term without variable i
abbrev pub substituted : ℕ → List Atom → Term → Term
substituted i atoms t = record {
  vars = take i t.vars ++ drop (i + 1) t.vars;
  lits = lits_with (written i atoms) (below i) t.lits;
  head = map (written i atoms) t.head;
}

-- ---- what is asked

-- whether an atom is no column of variable i, or one of its first n
abbrev pub column_within : (i n : ℕ) → Atom → Bool
column_within i n (Col v c) = not (v == i) || nat_lt c n
column_within i n (Int k) = true
column_within i n (Text t) = true
column_within i n (Param p) = true
column_within i n (Fresh k) = true

-- whether an atom is no column, or one of the first n variables without variable i
abbrev pub is_of_others : (i n : ℕ) → Atom → Bool
is_of_others i n (Col v c) = nat_lt v n && not (v == i)
is_of_others i n (Int k) = true
is_of_others i n (Text t) = true
is_of_others i n (Param p) = true
is_of_others i n (Fresh k) = true

-- the variable is the term's own, no `Other` names it, each of its columns that the term names has an atom, and the atoms name none but the term's other variables
pub record MayGo (i : ℕ) (atoms : List Atom) (t : Term) : Type 0 where
  pub own : i < length t.vars
  pub lits : list_all (lit_all (column_within i (length atoms)) (is_not i)) t.lits ≡ true
  pub head : list_all (column_within i (length atoms)) t.head ≡ true
  pub others : list_all (is_of_others i (length t.vars)) atoms ≡ true

-- ---- what holds

-- At each choice of the other rows, before and behind, and each row for the variable whose columns have the atoms' values there, both terms' literals are equally true, and their heads have the same values.
pub record MeansAsBefore (i : ℕ) (atoms : List Atom) (t u : Term) : Type 0 where
  pub lits : (s : Setting) (before behind : Env) (row : Placed) → length before ≡ i → length before + length behind + 1 ≡ length t.vars
      → ((c : ℕ) → c < length atoms → value_at row c ≡ value_of s (before ++ (row ∷ behind)) (atom_of atoms c))
      → lits_true s (before ++ behind) u.lits ≡ lits_true s (before ++ (row ∷ behind)) t.lits
  pub head : (s : Setting) (before behind : Env) (row : Placed) → length before ≡ i → length before + length behind + 1 ≡ length t.vars
      → ((c : ℕ) → c < length atoms → value_at row c ≡ value_of s (before ++ (row ∷ behind)) (atom_of atoms c))
      → head_of s u.head (before ++ behind) ≡ head_of s t.head (before ++ (row ∷ behind))

-- one atom for each column of the variable's table, of its kind
pub record FitsColumns (p : Sides) (i : ℕ) (atoms : List Atom) (t : Term) : Type 0 where
  pub variable : Var
  pub is : slice_get t.vars i ≡ Some variable
  pub kinds : map (atom_kind p t.vars) atoms ≡ map (λ (c : Column). Some c.kind) (columns_of (schema_of p variable.side) variable.table)
