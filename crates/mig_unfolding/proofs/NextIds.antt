-- The next id never falls, so each row of an earlier stage has an id below that of a row inserted later.
use Rattle.std.proofs.Common.{ℕ, zero, suc, ◌≤◌, List, [], ◌∷◌, take, arith}
use Rattle.mig_schema.specs.declared.faults.Side.{Side}
use Rattle.mig_schema.specs.declared.faults.Side.TheVariants.{Old, New}
use Rattle.mig_schema.specs.declared.tables.Schema.{Schema}
use Rattle.mig_schema.specs.declared.programs.Assign.{Assign}
use Rattle.mig_schema.specs.declared.programs.Joined.{Joined}
use Rattle.mig_schema.specs.declared.programs.Stmt.{Stmt}
use Rattle.mig_schema.specs.declared.programs.Stmt.TheVariants.{Insert, Delete, Set}
use Rattle.mig_schema.specs.Joins.{tables_of}
use Rattle.mig_meaning.specs.declared.states.State.{State}
use Rattle.mig_meaning.specs.Conditions.{Given}
use Rattle.mig_meaning.specs.Effect.{new_values, with_row, with_rows, effect, after_all}
use Rattle.mig_algebra.specs.Proper.{Sides}
use Rattle.mig_obligations.specs.Settings.{Moment, stage_of, statements}

module _ (schema : Schema) (g : Given) where
  rows-grow : (ms : List Joined) (vs : List Assign) (ts : List ℕ) (s : State) → s.next ≤ (with_rows schema g ms vs ts s).next
  rows-grow ms vs [] s = omega arith
  rows-grow ms vs (t ∷ ts) s = let k = rows-grow ms vs ts (with_row s t (new_values schema g ms vs t)) in omega (arith, k)

  effect-grows : (stmt : Stmt) (s : State) → s.next ≤ (effect schema g stmt s).next
  effect-grows (Insert join values) s = rows-grow join.more values (tables_of join) s
  effect-grows (Delete listed join test) s = omega arith
  effect-grows (Set column value join test) s = omega arith

  all-grow : (stmts : List Stmt) (s : State) → s.next ≤ (after_all schema g stmts s).next
  all-grow [] s = omega arith
  all-grow (x ∷ xs) s = let k = effect-grows x s in let l = all-grow xs (effect schema g x s) in omega (arith, k, l)

  more-grow : (stmts : List Stmt) (j k : ℕ) (s : State) → j ≤ k → (after_all schema g (take j stmts) s).next ≤ (after_all schema g (take k stmts) s).next
  more-grow stmts zero k s h = all-grow (take k stmts) s
  more-grow stmts (suc j) zero s h = absurd (omega (arith, h))
  more-grow [] (suc j) (suc k) s h = omega arith
  more-grow (x ∷ xs) (suc j) (suc k) s h = more-grow xs j k (effect schema g x s) (omega (arith, h))

pub stages-grow : (p : Sides) (m : Moment) (side : Side) (j k : ℕ) → j ≤ k → (stage_of p m side j).next ≤ (stage_of p m side k).next
stages-grow p m Old j k h = more-grow p.source m.given (statements p.source_fn.body) j k m.old h
stages-grow p m New j k h = more-grow p.target m.given (statements p.target_fn.body) j k m.new h
