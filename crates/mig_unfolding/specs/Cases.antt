-- The body of a case of a statement's condition, at a variable of a host.
use Rattle.std.specs.Prelude.{ℕ, ◌+◌, ◌==◌, false, cond, List, ◌++◌, map}
use Rattle.mig_schema.specs.declared.faults.Side.{Side}
use Rattle.mig_schema.specs.declared.programs.Cmp.{Cmp}
use Rattle.mig_schema.specs.declared.programs.Join.{Join}
use Rattle.mig_schema.specs.Joins.{tables_of}
use Rattle.mig_meaning.specs.Lists.{place}
use Rattle.mig_algebra.specs.declared.literals.Inner.{Inner}
use Rattle.mig_algebra.specs.declared.literals.Lit.{Lit}
use Rattle.mig_algebra.specs.declared.literals.Lit.TheVariants.{Any}
use Rattle.mig_algebra.specs.Obligations.{var_of, join_lits, case_lits}
use Rattle.mig_algebra.specs.Rename.{lits_with, renumbered, below}
use Rattle.mig_steps.specs.Variables.{leaving_out}

-- The number that the table at place i of a join gets in a case's body: variable v stands for the table at place k, and the others come behind the n variables in scope.
abbrev pub case_number : (k v n : ℕ) → ℕ → ℕ
case_number k v n i = cond (i == k) v (n + below k i)

-- the literals of a case, with v for the table at place k
abbrev pub case_in : Join → (k v n : ℕ) → List Cmp → List Lit
case_in join k v n cs = lits_with (renumbered (case_number k v n)) (case_number k v n) (join_lits (tables_of join) join.more ++ case_lits (tables_of join) cs)

-- a case's body: a variable for each other table of the join, in order, the join's equalities and the case's comparisons
abbrev pub case_body : Side → (stage : ℕ) → Join → (table v n : ℕ) → List Cmp → Inner
case_body side stage join t v n cs = record {
  vars = map (var_of side stage) (leaving_out (place (tables_of join) t) (tables_of join));
  lits = case_in join (place (tables_of join) t) v n cs;
}

-- that none of these bodies is met
abbrev pub unmet : (List Cmp → Inner) → List (List Cmp) → List Lit
unmet body cases = map (λ cs. Any false (body cs)) cases
