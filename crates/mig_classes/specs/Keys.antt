-- What is known of keys where literals are asked.
use Rattle.std.specs.Prelude.{◌≡◌, ℕ, nat_lt, Bool, true}
use Rattle.mig_meaning.specs.Lists.{AllDifferent, Each}
use Rattle.mig_meaning.specs.Keys.{EachIn, IsNoKey}
use Rattle.mig_algebra.specs.declared.atoms.Var.{Var}
use Rattle.mig_algebra.specs.declared.atoms.Atom.{Atom}
use Rattle.mig_algebra.specs.declared.atoms.Atom.TheVariants.{Int, Text, Param, Fresh, Col}
use Rattle.mig_algebra.specs.declared.literals.Lit.{Lit}
use Rattle.mig_algebra.specs.Rename.{lit_all}
use Rattle.mig_algebra.specs.Meaning.{Setting}

-- the call's keys differ, and no row from before the call has one of them
pub record KeysAreFresh (s : Setting) : Type 0 where
  pub different : AllDifferent s.given.keys
  pub before : (v : Var) → v.stage ≡ 0 → Each (EachIn (IsNoKey s.given.keys)) (s.rows v)

-- whether an atom is no label, or one of these many
abbrev pub label_within : ℕ → Atom → Bool
label_within n (Int i) = true
label_within n (Text t) = true
label_within n (Param p) = true
label_within n (Fresh k) = nat_lt k n
label_within n (Col v c) = true

-- whether each label of a literal has a key
abbrev pub labels_within : ℕ → Lit → Bool
labels_within n l = lit_all (label_within n) (λ v. true) l
