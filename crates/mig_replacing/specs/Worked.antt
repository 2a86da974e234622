-- A worked term: where a literal in a body stands, and what becomes of the term when it is replaced. Tables 0 and 1 are users and accounts.
use Rattle.std.specs.Prelude.{◌≡◌, ℕ, true, false, List, [], ◌∷◌, Some, refl}
use denote.Hole.Carrier.{hidden}
use Rattle.mig_schema.specs.declared.faults.Side.TheVariants.{Old}
use Rattle.mig_schema.specs.declared.programs.Op.TheVariants.{Eq, Lt, Le}
use Rattle.mig_algebra.specs.declared.atoms.Var.{Var}
use Rattle.mig_algebra.specs.declared.atoms.Atom.TheVariants.{Param, Col}
use Rattle.mig_algebra.specs.declared.literals.Inner.{Inner}
use Rattle.mig_algebra.specs.declared.literals.Lit.{Lit, Cmp}
use Rattle.mig_algebra.specs.declared.literals.Lit.TheBlock.{hidden-the_row-Lit-0}
use Rattle.mig_algebra.specs.declared.literals.Lit.TheVariants.{Any}
use Rattle.mig_algebra.specs.declared.terms.Term.{Term}
use Rattle.mig_replacing.specs.Places.{place_at}
use Rattle.mig_replacing.specs.Replaced.{replaced}

abbrev of_table : ℕ → Var
of_table n = record { side = Old; table = n; stage = 0 }

abbrev owned : Lit
owned = Cmp Eq (Col 0 0) (Col 1 0)

abbrev by_owner : Lit
by_owner = Cmp Eq (Param 0) (Col 2 0)

abbrev at_most : Lit
at_most = Cmp Le (Col 2 1) (Col 1 1)

abbrev equal : Lit
equal = Cmp Eq (Col 1 1) (Col 2 1)

abbrev less : Lit
less = Cmp Lt (Col 2 1) (Col 1 1)

-- a body of one account
abbrev account : List Lit → Inner
account lits = record { vars = of_table 1 ∷ []; lits = lits }

-- a user and an account, with these literals
abbrev term : List Lit → Term
term lits = record { vars = of_table 0 ∷ (of_table 1 ∷ []); lits = lits; head = Col 0 1 ∷ [] }

abbrev held : Term
held = term (owned ∷ (Any true (account (at_most ∷ (by_owner ∷ []))) ∷ []))

abbrev denied : Term
denied = term (owned ∷ (Any false (account (at_most ∷ (by_owner ∷ []))) ∷ []))

-- the literal at 1.0, three variables being in scope there
stands : place_at held (1 ∷ (0 ∷ [])) ≡ Some (record {
  scope = of_table 0 ∷ (of_table 1 ∷ (of_table 1 ∷ []));
  around = record { count = 2; lit = owned } ∷ (record { count = 3; lit = by_owner } ∷ []);
  lit = at_most;
})
unfolding hidden-the_row-Lit-0 hidden
stands = refl

-- two alternatives make two terms of a body that is held
in_held : replaced held (1 ∷ (0 ∷ [])) ((equal ∷ []) ∷ ((less ∷ []) ∷ [])) ≡ term (owned ∷ (Any true (account (equal ∷ (by_owner ∷ []))) ∷ [])) ∷ (term (owned ∷ (Any true (account (less ∷ (by_owner ∷ []))) ∷ (Any false (account (equal ∷ (by_owner ∷ []))) ∷ []))) ∷ [])
unfolding hidden-the_row-Lit-0 hidden
in_held = refl

-- and one of a body that is not
in_denied : replaced denied (1 ∷ (0 ∷ [])) ((equal ∷ []) ∷ ((less ∷ []) ∷ [])) ≡ term (owned ∷ (Any false (account (equal ∷ (by_owner ∷ []))) ∷ (Any false (account (less ∷ (by_owner ∷ []))) ∷ []))) ∷ []
unfolding hidden-the_row-Lit-0 hidden
in_denied = refl

-- no alternative of a literal of the term itself: no term
never : replaced held (0 ∷ []) [] ≡ []
never = refl
