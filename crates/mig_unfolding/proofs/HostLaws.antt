-- What a variable's host becomes by a delete and by a set has its bag, and is met as it is.
use Rattle.std.proofs.Common.{◌≡◌, ℕ, suc, ◌+◌, ◌-◌, ◌<◌, true, List, [], ◌∷◌, ◌++◌, length, take, drop, Some, refl, sym, ap, ◌∙◌, arith, length-append}
use Rattle.std.specs.Prelude.{nat_lt, slice_get}
use Rattle.std.proofs.lemmas.Bool.{and_parts, ltb-true}
use Rattle.mig_schema.specs.declared.tables.ColId.{ColId}
use Rattle.mig_schema.specs.declared.values.Value.{Value}
use Rattle.mig_schema.specs.declared.programs.Cond.{Cond}
use Rattle.mig_schema.specs.declared.programs.Join.{Join}
use Rattle.mig_schema.specs.declared.programs.Scalar.{Scalar}
use Rattle.mig_schema.specs.declared.programs.Stmt.{Stmt}
use Rattle.mig_schema.specs.declared.programs.Stmt.TheVariants.{Delete, Set}
use Rattle.mig_schema.specs.Columns.{columns_of, has_table, has_column}
use Rattle.mig_schema.specs.Joins.{tables_of, is_among}
use Rattle.mig_meaning.specs.declared.states.Placed.{Placed}
use Rattle.mig_meaning.specs.declared.states.State.{State}
use Rattle.mig_meaning.specs.Lists.{total, Each}
use Rattle.mig_meaning.specs.Rows.{rows_of}
use Rattle.mig_meaning.specs.Conditions.{scalar_value}
use Rattle.mig_meaning.specs.Effect.{effect}
use Rattle.mig_meaning.specs.States.{row_fits}
use Rattle.mig_meaning.proofs.Within.{each-weaker}
use Rattle.mig_algebra.specs.declared.atoms.Var.{Var}
use Rattle.mig_algebra.specs.declared.terms.Term.{Term}
use Rattle.mig_algebra.specs.Meaning.{Setting, Env, head_of}
use Rattle.mig_algebra.specs.Obligations.{scalar_atom}
use Rattle.mig_algebra.specs.Proper.{Sides, schema_of}
use Rattle.mig_algebra.specs.Shown.{Shows}
use Rattle.mig_algebra.proofs.Hosts.{host_sum}
use Rattle.mig_obligations.specs.Settings.{Moment, stage_of, setting_of}
use Rattle.mig_unfolding.proofs.Alike.{parts-at, before-vars, HostsAlike, LedTo, host_weight, alike}
use Rattle.mig_unfolding.proofs.Deletes.{deleted-rows, host-deleted}
use Rattle.mig_unfolding.proofs.Sets.{set-rows, row-width, host-set, scalar-atom-value}
use Rattle.mig_unfolding.proofs.Stages.{stage-next}
use Rattle.mig_unfolding.specs.Cases.{case_body, unmet}
use Rattle.mig_unfolding.specs.Hosts.{var_before}
use Rattle.mig_unfolding.specs.Stages.{statements_at}
use Rattle.mig_unfolding.specs.Unfolding.{write, by_cases, deleted, set_hosts}

-- ---- moments

module _ (p : Sides) (m : Moment) (t : Term) (i : ℕ) (u : Var) (led : LedTo p m t i u) where
  abbrev pub s : Setting
  s = setting_of p m

  abbrev pub st : State
  st = stage_of p m u.side (u.stage - 1)

  pub shows : Shows (setting_of p m) u.side (u.stage - 1) (stage_of p m u.side (u.stage - 1))
  shows = record { by = λ k. refl }

  pub stage-rows : (stmt : Stmt) → slice_get (statements_at p u.side) (u.stage - 1) ≡ Some stmt → s.rows u ≡ rows_of (effect (schema_of p u.side) m.given stmt st) u.table
  stage-rows stmt h =
      let e : u.stage ≡ suc (u.stage - 1) = omega (arith, led.later) in
      ap (λ j. rows_of (stage_of p m u.side j) u.table) e ∙ ap (λ x. rows_of x u.table) (stage-next p m u.side (u.stage - 1) stmt h)

  abbrev pub front : List Var
  front = take i t.vars

  abbrev pub back : List Var
  back = drop (i + 1) t.vars

  pub parts : (t.vars ≡ front ++ (u ∷ back)) × (length front ≡ i)
  parts = parts-at t.vars i u led.own

  in-all : (e : Env) → length e + (length front + suc (length back)) ≡ length e + length t.vars
  in-all e = omega (arith, ap length parts.0, length-append front (u ∷ back))

  delete-keeps : (listed : List ℕ) (join : Join) (test : Cond) → slice_get (statements_at p u.side) (u.stage - 1) ≡ Some (Delete listed join test) → is_among u.table listed ≡ true → is_among u.table (tables_of join) ≡ true → (e : Env) (w : List Value → ℕ) → host_weight s e w (deleted (length e) i u join test.cases t) ≡ host_weight s e w t
  delete-keeps listed join test h a b e w =
      ap (λ vs. host_sum s e (λ f. w (head_of s t.head f)) vs (t.lits ++ unmet (case_body u.side (u.stage - 1) join u.table (length e + i) (length e + length t.vars)) test.cases)) (before-vars t i u led.own)
      ∙ ap (λ z. host_sum s e (λ f. w (head_of s t.head f)) (front ++ (var_before u ∷ back)) (t.lits ++ unmet (case_body u.side (u.stage - 1) join u.table (length e + z) (length e + length t.vars)) test.cases)) (sym parts.1)
      ∙ sym (host-deleted s u.side (u.stage - 1) st shows join u.table b (led.state.each u.table).rising test.cases e (λ f. w (head_of s t.head f)) front u back t.lits (length e + length t.vars) (in-all e) (stage-rows (Delete listed join test) h ∙ deleted-rows (schema_of p u.side) m.given listed join test st u.table a))
      ∙ ap (λ vs. host_sum s e (λ f. w (head_of s t.head f)) vs t.lits) (sym parts.0)

  -- by a delete
  pub delete-alike : (listed : List ℕ) (join : Join) (test : Cond) → slice_get (statements_at p u.side) (u.stage - 1) ≡ Some (Delete listed join test) → is_among u.table listed ≡ true → is_among u.table (tables_of join) ≡ true → (e : Env) → HostsAlike (setting_of p m) e t (deleted (length e) i u join test.cases t ∷ [])
  delete-alike listed join test h a b e =
      record { by = λ w. plus_none (host_weight s e w (deleted (length e) i u join test.cases t)) ∙ delete-keeps listed join test h a b e w }
    where
      plus_none : (n : ℕ) → n + 0 ≡ n
      plus_none n = omega arith

  pub wide : (c : ColId) → c.table ≡ u.table → has_column (schema_of p u.side) c ≡ true → Each (λ (q : Placed). c.column < length q.row.values) (rows_of st u.table)
  wide c e h =
      let k = and_parts (has_table (schema_of p u.side) c.table) (nat_lt c.column (length (columns_of (schema_of p u.side) c.table))) h in
      let l = ltb-true c.column (length (columns_of (schema_of p u.side) c.table)) k.1 in
      each-weaker (λ (q : Placed). row_fits (columns_of (schema_of p u.side) u.table) q.row.values ≡ true) (λ (q : Placed). c.column < length q.row.values)
      (λ (q : Placed) f. omega (arith, l, ap (λ n. length (columns_of (schema_of p u.side) n)) e, row-width (columns_of (schema_of p u.side) u.table) q.row.values f))
      (rows_of st u.table) (led.state.each u.table).fitting

  set-keeps : (c : ColId) (x : Scalar) (join : Join) (test : Cond) → slice_get (statements_at p u.side) (u.stage - 1) ≡ Some (Set c x join test) → c.table ≡ u.table → has_column (schema_of p u.side) c ≡ true → is_among u.table (tables_of join) ≡ true → (e : Env) (w : List Value → ℕ) → total (host_weight s e w) (set_hosts (length e) i u c.column (scalar_atom x) join test.cases t) ≡ host_weight s e w t
  set-keeps c x join test h a r b e w =
      ap (λ vs. sum (length e + i) (record { vars = vs; lits = t.lits; head = t.head })) (before-vars t i u led.own)
      ∙ ap (λ z. sum (length e + z) (record { vars = front ++ (var_before u ∷ back); lits = t.lits; head = t.head })) (sym parts.1)
      ∙ sym (host-set s u.side (u.stage - 1) st shows join u.table b (led.state.each u.table).rising test.cases c.column (wide c a r) (scalar_atom x) (scalar_value m.given x) (λ f. sym (scalar-atom-value s f x)) e w front u back t.lits t.head (length e + length t.vars) (in-all e) (stage-rows (Set c x join test) h ∙ set-rows (schema_of p u.side) m.given c x join test st u.table a))
      ∙ ap (λ vs. host_weight s e w (record { vars = vs; lits = t.lits; head = t.head })) (sym parts.0)
    where
      sum : ℕ → Term → ℕ
      sum v kept = total (host_weight s e w) (by_cases (case_body u.side (u.stage - 1) join u.table v (length e + length t.vars)) kept (write v c.column (scalar_atom x) kept) [] test.cases)

  -- by a set
  pub set-alike : (c : ColId) (x : Scalar) (join : Join) (test : Cond) → slice_get (statements_at p u.side) (u.stage - 1) ≡ Some (Set c x join test) → c.table ≡ u.table → has_column (schema_of p u.side) c ≡ true → is_among u.table (tables_of join) ≡ true → (e : Env) → HostsAlike (setting_of p m) e t (set_hosts (length e) i u c.column (scalar_atom x) join test.cases t)
  set-alike c x join test h a r b e = alike s e t (set_hosts (length e) i u c.column (scalar_atom x) join test.cases t) (set-keeps c x join test h a r b e)
