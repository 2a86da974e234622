-- Worked: bodies that variables outside them meet, held and not, by comparisons, by an `Other`, and by a body that stands further out; and where the rule gives nothing.
use Rattle.std.specs.Prelude.{◌≡◌, ℕ, Bool, true, false, List, [], ◌∷◌, Some, None, refl}
use denote.Hole.Carrier.{hidden}
use Rattle.mig_schema.specs.declared.faults.Side.{Side}
use Rattle.mig_schema.specs.declared.faults.Side.TheVariants.{Old, New}
use Rattle.mig_schema.specs.declared.programs.Op.TheVariants.{Eq}
use Rattle.mig_algebra.specs.declared.atoms.Var.{Var}
use Rattle.mig_algebra.specs.declared.atoms.Atom.TheVariants.{Param, Col}
use Rattle.mig_algebra.specs.declared.literals.Lit.{Lit, Cmp, Other}
use Rattle.mig_algebra.specs.declared.literals.Lit.TheBlock.{hidden-the_row-Lit-0}
use Rattle.mig_algebra.specs.declared.literals.Lit.TheVariants.{Any}
use Rattle.mig_algebra.specs.declared.terms.Term.{Term}
use Rattle.mig_steps.specs.Ways.{at_literal}
use Rattle.mig_folding.specs.Found.{found, found_args}

abbrev var : Side → (t j : ℕ) → Var
var side t j = record { side = side; table = t; stage = j }

abbrev of : (t : ℕ) → Var
of t = var Old t 0

abbrev term : List Var → List Lit → Term
term vars lits = record { vars = vars; lits = lits; head = Col 0 0 ∷ [] }

abbrev any : Bool → List Var → List Lit → Lit
any held vars lits = Any held (record { vars = vars; lits = lits })

-- ---- a row whose column 1 is a parameter, and a body that asks for one

abbrev asks : Bool → Var → (param : ℕ) → Term
asks held v n = term (of 0 ∷ []) (Cmp Eq (Param 0) (Col 0 1) ∷ (any held (v ∷ []) (Cmp Eq (Param n) (Col 1 1) ∷ []) ∷ []))

-- held, it goes; not held, the term does
goes : at_literal found (1 ∷ []) (0 ∷ []) (asks true (of 0) 0) ≡ Some (term (of 0 ∷ []) (Cmp Eq (Param 0) (Col 0 1) ∷ []) ∷ [])
unfolding hidden-the_row-Lit-0 hidden
goes = refl

denied : at_literal found (1 ∷ []) (0 ∷ []) (asks false (of 0) 0) ≡ Some []
unfolding hidden-the_row-Lit-0 hidden
denied = refl

tried : found_args (1 ∷ []) (asks true (of 0) 0) ≡ (0 ∷ []) ∷ []
unfolding hidden-the_row-Lit-0 hidden
tried = refl

-- what the body asks is not given
not_given : at_literal found (1 ∷ []) (0 ∷ []) (asks true (of 0) 1) ≡ None
unfolding hidden-the_row-Lit-0 hidden
not_given = refl

-- a row of a later stage, of another table, and of the other side
later : at_literal found (1 ∷ []) (0 ∷ []) (asks true (var Old 0 1) 0) ≡ None
unfolding hidden-the_row-Lit-0 hidden
later = refl

of_another : at_literal found (1 ∷ []) (0 ∷ []) (asks true (of 1) 0) ≡ None
unfolding hidden-the_row-Lit-0 hidden
of_another = refl

of_the_new : at_literal found (1 ∷ []) (0 ∷ []) (asks true (var New 0 0) 0) ≡ None
unfolding hidden-the_row-Lit-0 hidden
of_the_new = refl

not_tried : found_args (1 ∷ []) (asks true (var Old 0 1) 0) ≡ []
unfolding hidden-the_row-Lit-0 hidden
not_tried = refl

-- ---- two rows that differ, and a body that asks for a row that differs from the first

abbrev differ : Term
differ = term (of 0 ∷ (of 0 ∷ [])) (Other 0 1 ∷ (any true (of 0 ∷ []) (Other 0 2 ∷ []) ∷ []))

parted : at_literal found (1 ∷ []) (1 ∷ []) differ ≡ Some (term (of 0 ∷ (of 0 ∷ [])) (Other 0 1 ∷ []) ∷ [])
unfolding hidden-the_row-Lit-0 hidden
parted = refl

-- not from itself
not_itself : at_literal found (1 ∷ []) (0 ∷ []) differ ≡ None
unfolding hidden-the_row-Lit-0 hidden
not_itself = refl

-- so it isn't tried
tried_other : found_args (1 ∷ []) differ ≡ (1 ∷ []) ∷ []
unfolding hidden-the_row-Lit-0 hidden
tried_other = refl

-- ---- a row that no row of table 1 names, and, in a body over table 2, a body that asks for such a row

-- no row of table 1, which has number n, names row v
abbrev unnamed : (v n : ℕ) → Lit
unnamed v n = any false (of 1 ∷ []) (Cmp Eq (Col v 0) (Col n 0) ∷ [])

abbrev sought : Lit
sought = any true (of 0 ∷ []) (Cmp Eq (Param 0) (Col 2 1) ∷ (unnamed 2 3 ∷ []))

abbrev around : List Lit → Term
around inner = term (of 0 ∷ []) (Cmp Eq (Param 0) (Col 0 1) ∷ (unnamed 0 1 ∷ (any false (of 2 ∷ []) inner ∷ [])))

-- what stands further out binds variable 1, and here it binds variable 2
further_out : at_literal found (2 ∷ (0 ∷ [])) (0 ∷ []) (around (sought ∷ [])) ≡ Some (around [] ∷ [])
unfolding hidden-the_row-Lit-0 hidden
further_out = refl

unlike : at_literal found (2 ∷ (0 ∷ [])) (1 ∷ []) (around (sought ∷ [])) ≡ None
unfolding hidden-the_row-Lit-0 hidden
unlike = refl

too_few : at_literal found (2 ∷ (0 ∷ [])) [] (around (sought ∷ [])) ≡ None
unfolding hidden-the_row-Lit-0 hidden
too_few = refl

too_many : at_literal found (2 ∷ (0 ∷ [])) (0 ∷ (0 ∷ [])) (around (sought ∷ [])) ≡ None
unfolding hidden-the_row-Lit-0 hidden
too_many = refl

-- a term that doesn't say so
abbrev unsaid : Term
unsaid = term (of 0 ∷ []) (Cmp Eq (Param 0) (Col 0 1) ∷ (any false (of 2 ∷ []) (sought ∷ []) ∷ []))

not_said : at_literal found (1 ∷ (0 ∷ [])) (0 ∷ []) unsaid ≡ None
unfolding hidden-the_row-Lit-0 hidden
not_said = refl
