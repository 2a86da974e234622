-- Numbers that lead to the least number of their class: each has a parent that is not greater, and a root is its own.
use Rattle.std.specs.Prelude.{◌≡◌, ℕ, ◌<◌, ◌≤◌, pos, List, length, slice_index_or}
use Rattle.std.specs.declared.cmp.Ordering.TheVariants.{Less}
use Rattle.mig_algebra.specs.declared.atoms.Atom.{Atom}
use Rattle.mig_algebra.specs.declared.atoms.Atom.TheVariants.{Int}
use Rattle.mig_algebra.specs.Atoms.{atom_order}

-- the atom of a number; an int past the end
abbrev pub atom_of : List Atom → ℕ → Atom
atom_of atoms k = slice_index_or atoms k (Int (pos 0))

-- the parent of a number
abbrev pub parent : List ℕ → ℕ → ℕ
parent ps i = slice_index_or ps i 0

-- no parent is greater
pub record IsForest (ps : List ℕ) : Type 0 where
  pub below : (i : ℕ) → i < length ps → parent ps i ≤ i

-- numbers stand for atoms, by `own`, and each number's class has the least atom `least` of it: a parent is in the same class, and a root stands for its least atom
pub record LeadsTo (own least : ℕ → Atom) (ps : List ℕ) : Type 0 where
  pub same : (i : ℕ) → i < length ps → least (parent ps i) ≡ least i
  pub roots : (i : ℕ) → i < length ps → parent ps i ≡ i → least i ≡ own i

-- lesser numbers stand for lesser atoms
pub record RisesTo (n : ℕ) (own : ℕ → Atom) : Type 0 where
  pub by : (i j : ℕ) → i < j → j < n → atom_order (own i) (own j) ≡ Less
