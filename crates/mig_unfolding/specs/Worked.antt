-- Worked: what unfolding gives for small hosts, and where it gives nothing.
use Rattle.std.specs.Prelude.{◌≡◌, ℕ, true, false, List, [], ◌∷◌, Some, None, refl}
use denote.Hole.Carrier.{hidden}
use Rattle.mig_schema.specs.declared.faults.Side.TheVariants.{Old}
use Rattle.mig_schema.specs.declared.programs.Assign.{Assign}
use Rattle.mig_schema.specs.declared.programs.Item.TheVariants as item
use Rattle.mig_schema.specs.declared.programs.Join.{Join}
use Rattle.mig_schema.specs.declared.programs.Op.TheVariants.{Eq, Lt}
use Rattle.mig_schema.specs.declared.programs.Scalar.{Scalar}
use Rattle.mig_schema.specs.declared.programs.Scalar.TheVariants as scalar
use Rattle.mig_schema.specs.declared.programs.Stmt.{Stmt}
use Rattle.mig_schema.specs.declared.programs.Stmt.TheVariants.{Insert, Delete, Set}
use Rattle.mig_schema.specs.declared.tables.ColId.{ColId}
use Rattle.mig_algebra.specs.declared.atoms.Var.{Var}
use Rattle.mig_algebra.specs.declared.atoms.Atom.{Atom}
use Rattle.mig_algebra.specs.declared.atoms.Atom.TheVariants.{Param, Col}
use Rattle.mig_algebra.specs.declared.literals.Lit.{Lit, Cmp, Other}
use Rattle.mig_algebra.specs.declared.literals.Lit.TheBlock.{hidden-the_row-Lit-0}
use Rattle.mig_algebra.specs.declared.literals.Lit.TheVariants.{Any}
use Rattle.mig_algebra.specs.declared.terms.Term.{Term}
use Rattle.mig_unfolding.specs.Unfolding.{unfolded}

-- ---- users of number and nick, table 0, and bans of number and day, table 1

abbrev col : ℕ → ℕ → ColId
col t c = record { table = t; column = c }

-- a row of a table after so many statements
abbrev at : (table stage : ℕ) → Var
at t j = record { side = Old; table = t; stage = j }

abbrev term : List Var → List Lit → List Atom → Term
term vars lits head = record { vars = vars; lits = lits; head = head }

abbrev gives : Scalar → ColId → Assign
gives x c = record { column = c; value = x }

abbrev users : Join
users = record { first = 0; more = [] }

-- users with their bans
abbrev banned : Join
banned = record { first = 0; more = record { table = 1; left = col 0 0; right = col 1 0 } ∷ [] }

-- ---- by an insert

abbrev adds : Stmt
adds = Insert users (gives (scalar.Param 0) (col 0 0) ∷ (gives (scalar.Param 1) (col 0 1) ∷ []))

added : unfolded adds [] 0 (at 0 1) (term (at 0 1 ∷ []) [] (Col 0 0 ∷ (Col 0 1 ∷ [])))
    ≡ Some (term (at 0 0 ∷ []) [] (Col 0 0 ∷ (Col 0 1 ∷ [])) ∷ (term [] [] (Param 0 ∷ (Param 1 ∷ [])) ∷ []))
added = refl

-- one value for both columns of a class
adds_both : unfolded (Insert banned (gives (scalar.Param 0) (col 0 0) ∷ (gives (scalar.Param 1) (col 0 1) ∷ (gives (scalar.Param 2) (col 1 1) ∷ [])))) [] 0 (at 1 1) (term (at 1 1 ∷ []) [] (Col 0 0 ∷ (Col 0 1 ∷ [])))
    ≡ Some (term (at 1 0 ∷ []) [] (Col 0 0 ∷ (Col 0 1 ∷ [])) ∷ (term [] [] (Param 0 ∷ (Param 2 ∷ [])) ∷ []))
adds_both = refl

-- another row is one from before
abbrev two : List Lit → Term
two lits = term (at 0 1 ∷ (at 0 1 ∷ [])) lits (Col 0 0 ∷ (Col 1 0 ∷ []))

other_added : unfolded adds [] 0 (at 0 1) (two (Other 0 1 ∷ []))
    ≡ Some (term (at 0 0 ∷ (at 0 1 ∷ [])) (Other 0 1 ∷ []) (Col 0 0 ∷ (Col 1 0 ∷ [])) ∷ (term (at 0 0 ∷ []) [] (Param 0 ∷ (Col 0 0 ∷ [])) ∷ []))
other_added = refl

-- nothing, where what keeps them apart stands deeper than both
deeper : unfolded adds [] 0 (at 0 1) (two (Any true (record { vars = []; lits = Other 0 1 ∷ [] }) ∷ [])) ≡ None
unfolding hidden-the_row-Lit-0 hidden
deeper = refl

-- or the other variable is bound outside, at the same stage
outside : unfolded adds (at 0 1 ∷ []) 0 (at 0 1) (term (at 0 1 ∷ []) (Other 0 1 ∷ []) []) ≡ None
outside = refl

-- but not where that one is of an earlier stage
before : unfolded adds (at 0 0 ∷ []) 0 (at 0 1) (term (at 0 1 ∷ []) (Other 0 1 ∷ []) []) ≡ Some (term (at 0 0 ∷ []) (Other 0 1 ∷ []) [] ∷ (term [] [] [] ∷ []))
before = refl

-- ---- by a delete

abbrev deletes : Stmt
deletes = Delete (0 ∷ []) banned (record { cases = (record { op = Lt; left = item.Col (col 1 1); right = item.Scalar (scalar.Param 0) } ∷ []) ∷ [] })

deleted : unfolded deletes [] 0 (at 0 1) (term (at 0 1 ∷ []) [] (Col 0 0 ∷ []))
    ≡ Some (term (at 0 0 ∷ []) (Any false (record { vars = at 1 0 ∷ []; lits = Cmp Eq (Col 0 0) (Col 1 0) ∷ (Cmp Lt (Col 1 1) (Param 0) ∷ []) }) ∷ []) (Col 0 0 ∷ []) ∷ [])
deleted = refl

-- a table that is joined and not listed keeps its rows
kept : unfolded deletes [] 0 (at 1 1) (term (at 1 1 ∷ []) [] []) ≡ Some (term (at 1 0 ∷ []) [] [] ∷ [])
kept = refl

-- ---- by a set

abbrev sets : Stmt
sets = Set (col 0 1) (scalar.Param 1) users (record { cases = (record { op = Eq; left = item.Col (col 0 0); right = item.Scalar (scalar.Param 0) } ∷ []) ∷ [] })

abbrev chosen : Lit
chosen = Any true (record { vars = []; lits = Cmp Eq (Param 0) (Col 0 0) ∷ [] })

abbrev others : Lit
others = Any false (record { vars = []; lits = Cmp Eq (Param 0) (Col 0 0) ∷ [] })

set : unfolded sets [] 0 (at 0 1) (term (at 0 1 ∷ []) [] (Col 0 1 ∷ []))
    ≡ Some (term (at 0 0 ∷ []) (chosen ∷ []) (Param 1 ∷ []) ∷ (term (at 0 0 ∷ []) (others ∷ []) (Col 0 1 ∷ []) ∷ []))
set = refl

-- a column that is named nowhere may be any
unseen : unfolded sets [] 0 (at 0 1) (term (at 0 1 ∷ []) [] (Col 0 0 ∷ [])) ≡ Some (term (at 0 0 ∷ []) [] (Col 0 0 ∷ []) ∷ [])
unseen = refl
