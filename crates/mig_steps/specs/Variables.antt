-- A list without one of its items, whether an `Other` names a variable, and whether a join has one table.
use Rattle.std.specs.Prelude.{ℕ, ◌+◌, Bool, true, false, List, [], ◌∷◌, ◌++◌, take, drop}
use Rattle.std.specs.List.{list_all}
use Rattle.mig_schema.specs.declared.programs.Joined.{Joined}
use Rattle.mig_algebra.specs.declared.terms.Term.{Term}
use Rattle.mig_algebra.specs.Rename.{lit_all, is_not}

-- a list without its item of number i
abbrev pub leaving_out : {A : Type 0} → ℕ → List A → List A
leaving_out i xs = take i xs ++ drop (i + 1) xs

-- whether no `Other` of a term names variable v
abbrev pub is_unnamed : ℕ → Term → Bool
is_unnamed v t = list_all (lit_all (λ a. true) (is_not v)) t.lits

-- whether a join has no further table
abbrev pub is_alone : List Joined → Bool
is_alone [] = true
is_alone (m ∷ ms) = false
