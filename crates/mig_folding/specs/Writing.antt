-- What the code writes, by the numbers that it counts once.
use Rattle.std.specs.Prelude.{◌≡◌, ℕ, ◌+◌, ◌-◌, nat_lt, cond, not, List, [], ◌++◌, length, filter}
use Rattle.mig_schema.specs.Joins.{tables_of}
use Rattle.mig_meaning.specs.Lists.{place, has}
use Rattle.mig_algebra.specs.declared.atoms.Var.{Var}
use Rattle.mig_algebra.specs.declared.atoms.Atom.{Atom}
use Rattle.mig_algebra.specs.declared.atoms.Atom.TheVariants.{Int, Text, Param, Fresh, Col}
use Rattle.mig_algebra.specs.declared.literals.Lit.{Lit}
use Rattle.mig_algebra.specs.Obligations.{col_atom, join_lits}
use Rattle.mig_algebra.specs.Rename.{lits_with, renumbered}
use Rattle.mig_algebra.specs.Tidied.{slots, numbers_of}
use Rattle.mig_folding.specs.declared.hosting.Hosting.{Hosting}
use Rattle.mig_folding.specs.declared.images.Named.{Named}
use Rattle.mig_folding.specs.declared.writing.Folding.{Folding}
use Rattle.mig_folding.specs.Folding as spec
use Rattle.mig_folding.specs.Naming.{Host}

-- variables that stay, by their numbers
abbrev pub stay : List ℕ → ℕ → List Var → List spec.Numbered
stay xs n vars = filter (λ q. not (has xs q.number)) (slots n vars)

-- the number of a variable that is not named, where those that stay have these numbers, and the first added one this
abbrev pub moved_at : spec.Fold → List ℕ → ℕ → ℕ → ℕ
moved_at f kept first v =
    cond (nat_lt v f.base) v
    (cond (nat_lt v (f.base + length f.vars)) (f.base + place kept v)
    (v - (f.base + length f.vars) + (first + length (tables_of f.target.join))))

-- what is written for a column of a named variable
abbrev pub image_at : spec.Fold → ℕ → (v c : ℕ) → Atom
image_at f first v c = renumbered (λ k. first + k) (col_atom (tables_of f.target.join) (spec.image_of f.source.join f.source.outs f.target.outs (spec.old_column f v c)))

-- for an atom
abbrev pub folded_at : spec.Fold → List ℕ → ℕ → Atom → Atom
folded_at f kept first (Col v c) = cond (has f.named v) (image_at f first v c) (Col (moved_at f kept first v) c)
folded_at f kept first (Int i) = Int i
folded_at f kept first (Text t) = Text t
folded_at f kept first (Param p) = Param p
folded_at f kept first (Fresh k) = Fresh k

-- the literals that stay, and the new view's equalities
abbrev pub lits_at : spec.Fold → List ℕ → ℕ → List Lit → List Lit
lits_at f kept first lits =
    lits_with (folded_at f kept first) (moved_at f kept first) (spec.outer_lits f lits)
    ++ lits_with (renumbered (λ k. first + k)) (λ k. first + k) (join_lits (tables_of f.target.join) f.target.join.more)

-- ---- the same of what the code holds

-- a fold of named variables of no host, by an old view
abbrev pub named_now : Named → spec.Fold
named_now w = record { base = 0; vars = []; named = w.numbers.now; source = w.source.now; target = w.source.now }

-- the fold that the code is given
abbrev pub fold_now : Folding → spec.Fold
fold_now w = record { base = w.base; vars = w.vars.now; named = w.named.now.numbers.now; source = w.named.now.source.now; target = w.target.now }

abbrev pub moved_by : Folding → ℕ → ℕ
moved_by w v = moved_at (fold_now w) w.kept.now w.first v

abbrev pub image_by : Folding → (v c : ℕ) → Atom
image_by w v c = image_at (fold_now w) w.first v c

abbrev pub folded_by : Folding → Atom → Atom
folded_by w a = folded_at (fold_now w) w.kept.now w.first a

abbrev pub lits_by : Folding → List Lit → List Lit
lits_by w lits = lits_at (fold_now w) w.kept.now w.first lits

-- whether it has the numbers of the variables that stay, and the first one behind them
pub record IsCounted (w : Folding) : Type 0 where
  pub kept : w.kept.now ≡ numbers_of (stay w.named.now.numbers.now w.base w.vars.now)
  pub first : w.first ≡ w.base + length w.kept.now

-- the host that the code is given
abbrev pub host_now : Hosting → Host
host_now w = record { base = w.base; vars = w.vars.now; scope = w.scope.now; known = w.groups.now.lits.now }
