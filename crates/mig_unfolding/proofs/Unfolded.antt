-- Hosts for an unfolded variable are proper where the host is, and have its weights at each moment.
use Rattle.std.proofs.Common.{◌≡◌, ℕ, ◌+◌, ◌-◌, Bool, true, false, cond, not, ◌&&◌, List, [], ◌∷◌, length, Some, None, sym, ap, ◌∙◌, inl, inr, ◌⊎◌, subst, subst₂}
use Rattle.std.specs.Prelude.{◌==◌, nat_lt, slice_get}
use Rattle.std.specs.List.{list_all}
use Rattle.std.specs.Option.{option_and_then}
use Rattle.std.proofs.lemmas.Bool.{cases_Bool, and_parts, eqb-true}
use Rattle.std.proofs.lemmas.Option.{same_Some}
use Rattle.mig_schema.specs.declared.faults.Side.{Side}
use Rattle.mig_schema.specs.declared.tables.Kind.{Kind}
use Rattle.mig_schema.specs.declared.programs.Function.{Function}
use Rattle.mig_schema.specs.declared.programs.Stmt.{Stmt}
use Rattle.mig_schema.specs.declared.programs.Stmt.TheVariants.{Insert, Delete, Set}
use Rattle.mig_schema.specs.Columns.{has_table, has_column}
use Rattle.mig_schema.specs.Joins.{tables_of, is_among}
use Rattle.mig_schema.specs.Typed.{piece_of}
use Rattle.mig_meaning.specs.declared.relating.Invariant.{Invariant}
use Rattle.mig_meaning.specs.Lists.{In, Each}
use Rattle.mig_meaning.specs.States.{IsState}
use Rattle.mig_algebra.specs.declared.atoms.Var.{Var}
use Rattle.mig_algebra.specs.declared.terms.Term.{Term}
use Rattle.mig_algebra.specs.Meaning.{Env, choices}
use Rattle.mig_algebra.specs.Obligations.{scalar_atom}
use Rattle.mig_algebra.specs.Proper.{Sides, schema_of, last_stage, var_fits}
use Rattle.mig_obligations.specs.Fitting.{IsFit}
use Rattle.mig_replacing.proofs.Reached.{choice-length}
use Rattle.mig_obligations.specs.Settings.{Moment, stage_of, setting_of, IsMoment}
use Rattle.mig_steps.proofs.Options.{and-then, all-get}
use Rattle.mig_unfolding.specs.Hosts.{before_statement}
use Rattle.mig_unfolding.specs.Narrowed.{host_narrows}
use Rattle.mig_unfolding.specs.Stages.{statements_at, last_statement, by_stage}
use Rattle.mig_unfolding.specs.Unfolding.{insert_hosts, deleted, set_hosts, is_unused, is_seen, unfolded}
use Rattle.mig_unfolding.proofs.Alike.{HostsAlike, LedTo}
use Rattle.mig_unfolding.proofs.JoinedTables.{listed-joined, set-joined}
use Rattle.mig_unfolding.proofs.HostLaws.{delete-alike, set-alike}
use Rattle.mig_unfolding.proofs.HostsProper.{before-proper, delete-proper, set-proper}
use Rattle.mig_unfolding.proofs.InsertFits.{insert-proper}
use Rattle.mig_unfolding.proofs.Inserts.{insert-alike}
use Rattle.mig_unfolding.proofs.ProperHosts.{IsProperHost, TypedFor}
use Rattle.mig_unfolding.proofs.StageStates.{stage-state}
use Rattle.mig_unfolding.proofs.TypedStatements.{written-in-range, typed-for, last-get}
use Rattle.mig_unfolding.proofs.Unseen.{untouched-alike, unused-alike}

-- ---- proper hosts

module _ (p : Sides) (sc : List Var) (ks : List Kind) (t : Term) (i : ℕ) (u : Var) (own : slice_get t.vars i ≡ Some u) (table : has_table (schema_of p u.side) u.table ≡ true) (h : IsProperHost p sc ks t) where
  left : IsProperHost p sc ks (before_statement i t)
  left = before-proper p sc ks t i h

  unfolded-proper : (f : Function) (stmt : Stmt) (us : List Term) → TypedFor p f u.side stmt → unfolded stmt sc i u t ≡ Some us → Each (IsProperHost p sc ks) us
  unfolded-proper f (Insert join vs) us for g = go (cases_Bool (is_among u.table (tables_of join))) (cases_Bool (host_narrows u (length sc + i) sc t))
    where
      hosts : List Term
      hosts = insert_hosts (length sc) i u join vs t

      go : (is_among u.table (tables_of join) ≡ true) ⊎ (is_among u.table (tables_of join) ≡ false) → (host_narrows u (length sc + i) sc t ≡ true) ⊎ (host_narrows u (length sc + i) sc t ≡ false) → Each (IsProperHost p sc ks) us
      go (inl a) (inl b) =
          subst (Each (IsProperHost p sc ks)) (same_Some hosts us (sym (ap (λ z. cond z (Some hosts) None) b) ∙ sym (ap (λ z. cond z (cond (host_narrows u (length sc + i) sc t) (Some hosts) None) (Some (before_statement i t ∷ []))) a) ∙ g))
          (insert-proper p f u table join vs for a sc ks t i own h)
      go (inl a) (inr b) =
          let bad : None ≡ Some us = sym (ap (λ z. cond z (Some hosts) None) b) ∙ sym (ap (λ z. cond z (cond (host_narrows u (length sc + i) sc t) (Some hosts) None) (Some (before_statement i t ∷ []))) a) ∙ g in cc
      go (inr n) b =
          subst (Each (IsProperHost p sc ks)) (same_Some (before_statement i t ∷ []) us (sym (ap (λ z. cond z (cond (host_narrows u (length sc + i) sc t) (Some hosts) None) (Some (before_statement i t ∷ []))) n) ∙ g)) (left, tt)
  unfolded-proper f (Delete listed join test) us for g =
      subst (Each (IsProperHost p sc ks)) (same_Some _ us g) (one (cases_Bool (is_among u.table listed)), tt)
    where
      one : (is_among u.table listed ≡ true) ⊎ (is_among u.table listed ≡ false) → IsProperHost p sc ks (cond (is_among u.table listed) (deleted (length sc) i u join test.cases t) (before_statement i t))
      one (inl a) =
          subst (λ b. IsProperHost p sc ks (cond b (deleted (length sc) i u join test.cases t) (before_statement i t))) (sym a)
          (delete-proper p f sc ks t i u own h listed join test for (listed-joined (schema_of p u.side) f listed join test u.table for.typed a))
      one (inr n) = subst (λ b. IsProperHost p sc ks (cond b (deleted (length sc) i u join test.cases t) (before_statement i t))) (sym n) left
  unfolded-proper f (Set c x join test) us for g = subst (Each (IsProperHost p sc ks)) (same_Some _ us g) (all (cases_Bool (is_seen c (length sc + i) u.table t)))
    where
      hosts : List Term
      hosts = set_hosts (length sc) i u c.column (scalar_atom x) join test.cases t

      all : (is_seen c (length sc + i) u.table t ≡ true) ⊎ (is_seen c (length sc + i) u.table t ≡ false) → Each (IsProperHost p sc ks) (cond (is_seen c (length sc + i) u.table t) hosts (before_statement i t ∷ []))
      all (inl a) =
          let k = and_parts (c.table == u.table) (not (is_unused (length sc + i) c.column t)) a in
          subst (λ b. Each (IsProperHost p sc ks) (cond b hosts (before_statement i t ∷ []))) (sym a) (set-proper p f sc ks t i u own h c x join test for (eqb-true c.table u.table k.0))
      all (inr n) = subst (λ b. Each (IsProperHost p sc ks) (cond b hosts (before_statement i t ∷ []))) (sym n) (left, tt)

-- ---- hosts with the same weights

module _ (p : Sides) (m : Moment) (t : Term) (i : ℕ) (u : Var) (led : LedTo p m t i u) (states : (side : Side) (j : ℕ) → IsState (schema_of p side) (stage_of p m side j)) (table : has_table (schema_of p u.side) u.table ≡ true) (sc : List Var) (e : Env) (choice : In e (choices (setting_of p m) sc)) where
  long : length e ≡ length sc
  long = choice-length (setting_of p m) sc e choice

  unfolded-alike : (f : Function) (stmt : Stmt) (us : List Term) → slice_get (statements_at p u.side) (u.stage - 1) ≡ Some stmt → TypedFor p f u.side stmt → unfolded stmt sc i u t ≡ Some us → HostsAlike (setting_of p m) e t us
  unfolded-alike f (Insert join vs) us at for g = go (cases_Bool (is_among u.table (tables_of join))) (cases_Bool (host_narrows u (length sc + i) sc t))
    where
      hosts : List Term
      hosts = insert_hosts (length sc) i u join vs t

      go : (is_among u.table (tables_of join) ≡ true) ⊎ (is_among u.table (tables_of join) ≡ false) → (host_narrows u (length sc + i) sc t ≡ true) ⊎ (host_narrows u (length sc + i) sc t ≡ false) → HostsAlike (setting_of p m) e t us
      go (inl a) (inl b) =
          subst (HostsAlike (setting_of p m) e t) (same_Some hosts us (sym (ap (λ z. cond z (Some hosts) None) b) ∙ sym (ap (λ z. cond z (cond (host_narrows u (length sc + i) sc t) (Some hosts) None) (Some (before_statement i t ∷ []))) a) ∙ g))
          (subst (λ n. HostsAlike (setting_of p m) e t (insert_hosts n i u join vs t)) long (insert-alike p m f t i u led states join vs at for.typed table a sc e choice (ap (λ n. host_narrows u (n + i) sc t) long ∙ b)))
      go (inl a) (inr b) =
          let bad : None ≡ Some us = sym (ap (λ z. cond z (Some hosts) None) b) ∙ sym (ap (λ z. cond z (cond (host_narrows u (length sc + i) sc t) (Some hosts) None) (Some (before_statement i t ∷ []))) a) ∙ g in cc
      go (inr n) b =
          subst (HostsAlike (setting_of p m) e t) (same_Some (before_statement i t ∷ []) us (sym (ap (λ z. cond z (cond (host_narrows u (length sc + i) sc t) (Some hosts) None) (Some (before_statement i t ∷ []))) n) ∙ g))
          (untouched-alike p m t i u led.own led.later (Insert join vs) at n e)
  unfolded-alike f (Delete listed join test) us at for g =
      subst (HostsAlike (setting_of p m) e t) (same_Some _ us g) (one (cases_Bool (is_among u.table listed)))
    where
      one : (is_among u.table listed ≡ true) ⊎ (is_among u.table listed ≡ false) → HostsAlike (setting_of p m) e t (cond (is_among u.table listed) (deleted (length sc) i u join test.cases t) (before_statement i t) ∷ [])
      one (inl a) =
          subst (λ b. HostsAlike (setting_of p m) e t (cond b (deleted (length sc) i u join test.cases t) (before_statement i t) ∷ [])) (sym a)
          (subst (λ n. HostsAlike (setting_of p m) e t (deleted n i u join test.cases t ∷ [])) long (delete-alike p m t i u led listed join test at a (listed-joined (schema_of p u.side) f listed join test u.table for.typed a) e))
      one (inr n) =
          subst (λ b. HostsAlike (setting_of p m) e t (cond b (deleted (length sc) i u join test.cases t) (before_statement i t) ∷ [])) (sym n)
          (untouched-alike p m t i u led.own led.later (Delete listed join test) at n e)
  unfolded-alike f (Set c x join test) us at for g =
      subst (HostsAlike (setting_of p m) e t) (same_Some _ us g) (all (cases_Bool (c.table == u.table)) (cases_Bool (is_unused (length sc + i) c.column t)))
    where
      hosts : List Term
      hosts = set_hosts (length sc) i u c.column (scalar_atom x) join test.cases t

      chosen_by : Bool → Bool → List Term
      chosen_by a b = cond (a && not b) hosts (before_statement i t ∷ [])

      range : has_column (schema_of p u.side) c ≡ true
      range = (written-in-range (schema_of p u.side) (piece_of (Set c x join test)) for.typed.columns).0

      all : ((c.table == u.table) ≡ true) ⊎ ((c.table == u.table) ≡ false) → (is_unused (length sc + i) c.column t ≡ true) ⊎ (is_unused (length sc + i) c.column t ≡ false) → HostsAlike (setting_of p m) e t (chosen_by (c.table == u.table) (is_unused (length sc + i) c.column t))
      all (inl a) (inr b) =
          let same : c.table ≡ u.table = eqb-true c.table u.table a in
          subst₂ (λ y z. HostsAlike (setting_of p m) e t (chosen_by y z)) (sym a) (sym b)
          (subst (λ n. HostsAlike (setting_of p m) e t (set_hosts n i u c.column (scalar_atom x) join test.cases t)) long (set-alike p m t i u led c x join test at same range (subst (λ n. is_among n (tables_of join) ≡ true) same (set-joined (schema_of p u.side) f c x join test for.typed)) e))
      all (inl a) (inl b) =
          subst₂ (λ y z. HostsAlike (setting_of p m) e t (chosen_by y z)) (sym a) (sym b)
          (unused-alike p m t i u led c x join test at (eqb-true c.table u.table a) range e (ap (λ n. is_unused (n + i) c.column t) long ∙ b))
      all (inr n) b =
          subst (λ y. HostsAlike (setting_of p m) e t (chosen_by y (is_unused (length sc + i) c.column t))) (sym n)
          (untouched-alike p m t i u led.own led.later (Set c x join test) at n e)

-- ---- of a fit pair

module _ (p : Sides) (invs : List Invariant) (fit : IsFit p invs) where
  there : (t : Term) (i : ℕ) (u : Var) → list_all (var_fits p) t.vars ≡ true → slice_get t.vars i ≡ Some u → has_table (schema_of p u.side) u.table ≡ true
  there t i u vars own = (and_parts (has_table (schema_of p u.side) u.table) (nat_lt u.stage (last_stage p u.side + 1)) (all-get (var_fits p) t.vars i u vars own)).0

  pub staged-proper : (sc : List Var) (ks : List Kind) (t : Term) (i : ℕ) (us : List Term) → IsProperHost p sc ks t → by_stage p sc i t ≡ Some us → Each (IsProperHost p sc ks) us
  staged-proper sc ks t i us h g =
      let a = and-then (λ (w : Var). option_and_then (λ s. unfolded s sc i w t) (last_statement p w)) (slice_get t.vars i) us g in
      let b = and-then (λ s. unfolded s sc i a.0 t) (last_statement p a.0) us a.2 in
      let l = last-get p a.0 b.0 b.1 in
      let for = typed-for p invs fit a.0.side (a.0.stage - 1) b.0 l.1 in
      unfolded-proper p sc ks t i a.0 a.1 (there t i a.0 h.vars a.1) h for.0 b.0 us for.1 b.2

  pub staged-alike : (m : Moment) → IsMoment p invs m → (t : Term) (sc : List Var) (i : ℕ) (us : List Term) → list_all (var_fits p) t.vars ≡ true → by_stage p sc i t ≡ Some us → (e : Env) → In e (choices (setting_of p m) sc) → HostsAlike (setting_of p m) e t us
  staged-alike m at t sc i us vars g e choice =
      let a = and-then (λ (w : Var). option_and_then (λ s. unfolded s sc i w t) (last_statement p w)) (slice_get t.vars i) us g in
      let b = and-then (λ s. unfolded s sc i a.0 t) (last_statement p a.0) us a.2 in
      let l = last-get p a.0 b.0 b.1 in
      let for = typed-for p invs fit a.0.side (a.0.stage - 1) b.0 l.1 in
      let led : LedTo p m t i a.0 = record { own = a.1; later = l.0; state = stage-state p invs fit m at a.0.side (a.0.stage - 1) } in
      unfolded-alike p m t i a.0 led (stage-state p invs fit m at) (there t i a.0 vars a.1) sc e choice for.0 b.0 us l.1 for.1 b.2
