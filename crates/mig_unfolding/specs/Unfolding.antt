-- What a host becomes where its own variable u of number i is unfolded by the statement that leads to u's stage, where n variables stand around the host.
use Rattle.std.specs.Prelude.{ℕ, ◌+◌, ◌-◌, ◌==◌, pos, Bool, true, cond, not, ◌&&◌, List, [], ◌∷◌, ◌++◌, map, length, Option, Some, None}
use Rattle.std.specs.List.{list_all}
use Rattle.mig_schema.specs.declared.tables.ColId.{ColId}
use Rattle.mig_schema.specs.declared.programs.Assign.{Assign}
use Rattle.mig_schema.specs.declared.programs.Cmp.{Cmp}
use Rattle.mig_schema.specs.declared.programs.Join.{Join}
use Rattle.mig_schema.specs.declared.programs.Joined.{Joined}
use Rattle.mig_schema.specs.declared.programs.Stmt.{Stmt}
use Rattle.mig_schema.specs.declared.programs.Stmt.TheVariants.{Insert, Delete, Set}
use Rattle.mig_schema.specs.Columns.{same_col}
use Rattle.mig_schema.specs.Joins.{tables_of, leader, is_among}
use Rattle.mig_algebra.specs.declared.atoms.Var.{Var}
use Rattle.mig_algebra.specs.declared.atoms.Atom.{Atom}
use Rattle.mig_algebra.specs.declared.atoms.Atom.TheVariants.{Int, Text, Param, Fresh, Col}
use Rattle.mig_algebra.specs.declared.literals.Inner.{Inner}
use Rattle.mig_algebra.specs.declared.literals.Lit.TheVariants.{Any}
use Rattle.mig_algebra.specs.declared.terms.Term.{Term}
use Rattle.mig_algebra.specs.Obligations.{scalar_atom}
use Rattle.mig_algebra.specs.Rename.{lits_with, lit_all}
use Rattle.mig_unfolding.specs.Cases.{case_body, unmet}
use Rattle.mig_unfolding.specs.Hosts.{with_more, before_statement, host_without}
use Rattle.mig_unfolding.specs.Narrowed.{narrowed_host, host_narrows}

-- whether a statement inserts into a table, deletes from it or sets a column of it
abbrev pub touches : Stmt → (table : ℕ) → Bool
touches (Insert join values) t = is_among t (tables_of join)
touches (Delete tables join test) t = is_among t tables
touches (Set column value join test) t = column.table == t

-- ---- by an insert

-- the value of a column's class as an atom: the scalar of the first value for a column of the class; a number where there is none
abbrev pub class_atom : List Joined → List Assign → ColId → Atom
class_atom ms [] c = Int (pos 0)
class_atom ms (a ∷ rest) c = cond (same_col (leader ms a.column) (leader ms c)) (scalar_atom a.value) (class_atom ms rest c)

-- the hosts for the rows that were there, and for the row that is added, from which each `Other` of the variable keeps a row from before
abbrev pub insert_hosts : (n i : ℕ) → Var → Join → List Assign → Term → List Term
insert_hosts n i u join values t =
    before_statement i t ∷ (host_without (n + i) i (λ c. class_atom join.more values (record { table = u.table; column = c })) (narrowed_host u (n + i) n t) ∷ [])

-- ---- by a delete

-- the host for the rows that were there of which no case is met
abbrev pub deleted : (n i : ℕ) → Var → Join → List (List Cmp) → Term → Term
deleted n i u join cases t = with_more (before_statement i t) (unmet (case_body u.side (u.stage - 1) join u.table (n + i) (n + length t.vars)) cases)

-- ---- by a set

-- an atom in place of a column of variable v
abbrev pub written : (v column : ℕ) → Atom → Atom → Atom
written v c a (Col w d) = cond (w == v && d == c) a (Col w d)
written v c a (Int i) = Int i
written v c a (Text t) = Text t
written v c a (Param p) = Param p
written v c a (Fresh k) = Fresh k

-- the host with that
abbrev pub write : (v column : ℕ) → Atom → Term → Term
write v c a t = record { vars = t.vars; lits = lits_with (written v c a) (λ w. w) t.lits; head = map (written v c a) t.head }

-- for each case the written host where its body is met and none before, last the host where none is met
abbrev pub by_cases : (List Cmp → Inner) → (kept wrote : Term) → (before cases : List (List Cmp)) → List Term
by_cases body kept wrote before [] = with_more kept (unmet body before) ∷ []
by_cases body kept wrote before (c ∷ cs) = with_more wrote (Any true (body c) ∷ unmet body before) ∷ by_cases body kept wrote (before ++ c ∷ []) cs

-- the hosts for the rows that take part, by the first case that they meet, and for the others
abbrev pub set_hosts : (n i : ℕ) → Var → (column : ℕ) → Atom → Join → List (List Cmp) → Term → List Term
set_hosts n i u c a join cases t =
    by_cases (case_body u.side (u.stage - 1) join u.table (n + i) (n + length t.vars)) (before_statement i t) (write (n + i) c a (before_statement i t)) [] cases

-- whether an atom is not that column of variable v
abbrev pub is_other : (v column : ℕ) → Atom → Bool
is_other v c (Col w d) = not (w == v && d == c)
is_other v c (Int i) = true
is_other v c (Text t) = true
is_other v c (Param p) = true
is_other v c (Fresh k) = true

-- whether a host uses that column nowhere
abbrev pub is_unused : (v column : ℕ) → Term → Bool
is_unused v c t = list_all (lit_all (is_other v c) (λ w. true)) t.lits && list_all (is_other v c) t.head

-- ---- by any statement

-- whether a set can be seen from a variable
abbrev pub is_seen : ColId → (v table : ℕ) → Term → Bool
is_seen c v table t = c.table == table && not (is_unused v c.column t)

-- The hosts, where these variables stand around the host. Before a statement that doesn't touch the table the rows are the same, and a column that the host doesn't use may be any. An insert asks that each `Other` of the variable may go.
abbrev pub unfolded : Stmt → (scope : List Var) → (i : ℕ) → Var → Term → Option (List Term)
unfolded (Insert join values) sc i u t =
    cond (is_among u.table (tables_of join))
    (cond (host_narrows u (length sc + i) sc t) (Some (insert_hosts (length sc) i u join values t)) None)
    (Some (before_statement i t ∷ []))
unfolded (Delete tables join test) sc i u t = Some (cond (is_among u.table tables) (deleted (length sc) i u join test.cases t) (before_statement i t) ∷ [])
unfolded (Set column value join test) sc i u t =
    Some (cond (is_seen column (length sc + i) u.table t) (set_hosts (length sc) i u column.column (scalar_atom value) join test.cases t) (before_statement i t ∷ []))
