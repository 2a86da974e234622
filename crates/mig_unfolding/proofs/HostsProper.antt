-- The hosts that unfolding a delete or a set gives are proper where the host is.
use Rattle.std.proofs.Common.{◌≡◌, ℕ, ◌+◌, ◌-◌, Bool, true, false, cond, ◌&&◌, List, [], ◌∷◌, ◌++◌, length, take, drop, Some, refl, sym, ap, ◌∙◌, arith, length-append, inl, inr, ◌⊎◌, subst}
use Rattle.std.specs.Prelude.{◌==◌, nat_lt, slice_get}
use Rattle.std.specs.List.{list_all}
use Rattle.std.proofs.lemmas.Bool.{cases_Bool, and_parts, and_from, or_parts, eqb-true}
use Rattle.std.proofs.lemmas.Option.{slice_get_within}
use Rattle.mig_schema.specs.declared.faults.Side.TheVariants.{Old}
use Rattle.mig_schema.specs.declared.tables.ColId.{ColId}
use Rattle.mig_schema.specs.declared.tables.Kind.{Kind}
use Rattle.mig_schema.specs.declared.programs.Assign.{Assign}
use Rattle.mig_schema.specs.declared.programs.Cmp.{Cmp}
use Rattle.mig_schema.specs.declared.programs.Cond.{Cond}
use Rattle.mig_schema.specs.declared.programs.Function.{Function}
use Rattle.mig_schema.specs.declared.programs.Join.{Join}
use Rattle.mig_schema.specs.declared.programs.Scalar.{Scalar}
use Rattle.mig_schema.specs.declared.programs.Stmt.TheVariants.{Delete, Set}
use Rattle.mig_schema.specs.Columns.{has_table, kind_of, same_kind}
use Rattle.mig_schema.specs.Joins.{tables_of, is_among}
use Rattle.mig_schema.specs.Typed.{piece_of, scalars_of, scalar_kind, names_no_param}
use Rattle.mig_meaning.specs.Lists.{Each}
use Rattle.mig_meaning.specs.States.{label_fits}
use Rattle.mig_algebra.specs.declared.atoms.Var.{Var}
use Rattle.mig_algebra.specs.declared.atoms.Atom.{Atom}
use Rattle.mig_algebra.specs.declared.atoms.Atom.TheVariants.{Int, Text, Param, Fresh, Col}
use Rattle.mig_algebra.specs.declared.literals.Lit.{Lit}
use Rattle.mig_algebra.specs.declared.literals.Lit.TheVariants.{Any}
use Rattle.mig_algebra.specs.declared.terms.Term.{Term}
use Rattle.mig_algebra.specs.Obligations.{var_of, scalar_atom}
use Rattle.mig_algebra.specs.Proper.{Sides, schema_of, last_stage, var_fits, column_kind, atom_kind, lit_fits, lit_oriented}
use Rattle.mig_algebra.proofs.Lists.{each-all}
use Rattle.mig_algebra.proofs.Ranges.{JoinFits, CmpFits, none-fails, none-passing, each-list, join-tables, join-fits, compared-joined, cmps-fit}
use Rattle.mig_algebra.proofs.Without.{any_atom, all-any_atom}
use Rattle.mig_algebra.proofs.Moved.{any_id, all-lits}
use Rattle.mig_algebra.proofs.RenamedFits.{Fits, lits_with-fit, lits_with-oriented, head_with-kinds}
use Rattle.mig_algebra.proofs.ObligedFits.{column-kind, scalar-kind}
use Rattle.mig_steps.proofs.Options.{all-get}
use Rattle.mig_steps.proofs.SameKinds.{get-own, same-kind}
use Rattle.mig_unfolding.proofs.Alike.{parts-at, before-vars}
use Rattle.mig_unfolding.proofs.CaseFits.{get-front, get-behind, all-append, case-fits, case-oriented, unmet-oriented}
use Rattle.mig_unfolding.proofs.EarlierFits.{AllEarlier, earlier-itself, kinds-earlier, earlier-all-fit, before-earlier, lower, before-fit}
use Rattle.mig_unfolding.proofs.JoinedTables.{set-joined}
use Rattle.mig_unfolding.proofs.ProperHosts.{IsProperHost, TypedFor}
use Rattle.mig_unfolding.proofs.TypedStatements.{written-in-range}
use Rattle.mig_unfolding.specs.Cases.{case_body, unmet}
use Rattle.mig_unfolding.specs.Hosts.{var_before, before_statement, with_more}
use Rattle.mig_unfolding.specs.Unfolding.{written, write, by_cases, deleted, set_hosts}

-- ---- a stage before

front-earlier : (sc vs ws : List Var) → AllEarlier vs ws → AllEarlier (sc ++ vs) (sc ++ ws)
front-earlier [] vs ws h = h
front-earlier (v ∷ sc) vs ws h = (earlier-itself v, front-earlier sc vs ws h)

-- a host a statement before
pub before-proper : (p : Sides) (sc : List Var) (ks : List Kind) (t : Term) (i : ℕ) → IsProperHost p sc ks t → IsProperHost p sc ks (before_statement i t)
before-proper p sc ks t i h =
    let all = front-earlier sc t.vars (before_statement i t).vars (before-earlier i 0 t.vars) in
    record {
      vars = before-fit p i 0 t.vars h.vars;
      fits = earlier-all-fit p (sc ++ t.vars) (sc ++ (before_statement i t).vars) all t.lits h.fits;
      oriented = h.oriented;
      head = sym (kinds-earlier p (sc ++ t.vars) (sc ++ (before_statement i t).vars) all t.head) ∙ h.head;
    }

-- ---- more literals, and a column written

more-proper : (p : Sides) (sc : List Var) (ks : List Kind) (t : Term) (ls : List Lit) → IsProperHost p sc ks t → list_all (lit_fits p (sc ++ t.vars)) ls ≡ true → list_all lit_oriented ls ≡ true → IsProperHost p sc ks (with_more t ls)
more-proper p sc ks t ls h a b = record {
  vars = h.vars;
  fits = all-append (lit_fits p (sc ++ t.vars)) t.lits ls h.fits a;
  oriented = all-append lit_oriented t.lits ls h.oriented b;
  head = h.head;
}

fits-written : (p : Sides) (sc : List Var) (v : ℕ) (u : Var) (c : ℕ) (x : Atom) (k : Kind) → slice_get sc v ≡ Some u → column_kind p (Some u) c ≡ Some k → ((sc' : List Var) → atom_kind p sc' x ≡ Some k) → Fits p sc sc any_atom any_id (written v c x) (λ w. w)
fits-written p sc v u c x k own col kind = record {
  atoms = λ d y j t q. atom d y j q;
  others = λ d a b s t q. q;
}
  where
    one : (a b : Kind) → Some a ≡ Some b → a ≡ b
    one a b h = cc

    column : (d : List Var) (w e : ℕ) (j : Kind) → column_kind p (slice_get (sc ++ d) w) e ≡ Some j → ((w == v && e == c) ≡ true) ⊎ ((w == v && e == c) ≡ false) → atom_kind p (sc ++ d) (written v c x (Col w e)) ≡ Some j
    column d w e j q (inl t) =
        let n = and_parts (w == v) (e == c) t in
        let at : slice_get (sc ++ d) w ≡ Some u = ap (slice_get (sc ++ d)) (eqb-true w v n.0) ∙ get-front sc d v (slice_get_within sc v u own) ∙ own in
        let same : Some k ≡ Some j = sym col ∙ ap (column_kind p (Some u)) (sym (eqb-true e c n.1)) ∙ ap (λ o. column_kind p o e) (sym at) ∙ q in
        ap (λ b. atom_kind p (sc ++ d) (cond b x (Col w e))) t ∙ kind (sc ++ d) ∙ same
    column d w e j q (inr t) = ap (λ b. atom_kind p (sc ++ d) (cond b x (Col w e))) t ∙ q

    atom : (d : List Var) (y : Atom) (j : Kind) → atom_kind p (sc ++ d) y ≡ Some j → atom_kind p (sc ++ d) (written v c x y) ≡ Some j
    atom d (Int n) j q = q
    atom d (Text n) j q = q
    atom d (Param n) j q = q
    atom d (Fresh n) j q = q
    atom d (Col w e) j q = column d w e j q (cases_Bool (w == v && e == c))

write-proper : (p : Sides) (sc : List Var) (ks : List Kind) (t : Term) (v : ℕ) (u : Var) (c : ℕ) (x : Atom) (k : Kind) → slice_get (sc ++ t.vars) v ≡ Some u → column_kind p (Some u) c ≡ Some k → ((sc' : List Var) → atom_kind p sc' x ≡ Some k) → IsProperHost p sc ks t → IsProperHost p sc ks (write v c x t)
write-proper p sc ks t v u c x k own col kind h =
    let fits = fits-written p (sc ++ t.vars) v u c x k own col kind in
    record {
      vars = h.vars;
      fits = lits_with-fit p any_atom any_id (written v c x) (λ w. w) (sc ++ t.vars) (sc ++ t.vars) fits t.lits (all-lits t.lits) h.fits;
      oriented = lits_with-oriented (written v c x) (λ w. w) t.lits;
      head = head_with-kinds p any_atom any_id (written v c x) (λ w. w) (sc ++ t.vars) (sc ++ t.vars) fits t.head ks (all-any_atom t.head) h.head;
    }

-- ---- the laws

module _ (p : Sides) (f : Function) (sc : List Var) (ks : List Kind) (t : Term) (i : ℕ) (u : Var) (own : slice_get t.vars i ≡ Some u) (h : IsProperHost p sc ks t) where
  own-fits : var_fits p u ≡ true
  own-fits = all-get (var_fits p) t.vars i u h.vars own

  stage-there : nat_lt (u.stage - 1) (last_stage p u.side + 1) ≡ true
  stage-there = lower u.stage (last_stage p u.side) (and_parts (has_table (schema_of p u.side) u.table) (nat_lt u.stage (last_stage p u.side + 1)) own-fits).1

  -- the variable stands among the variables in scope, a stage before
  own-before : slice_get (sc ++ (before_statement i t).vars) (length sc + i) ≡ Some (var_of u.side (u.stage - 1) u.table)
  own-before =
      get-behind sc (before_statement i t).vars i
      ∙ ap (λ vs. slice_get vs i) (before-vars t i u own)
      ∙ get-own (take i t.vars) (var_before u) (drop (i + 1) t.vars) i (parts-at t.vars i u own).1

  scope-long : length (sc ++ (before_statement i t).vars) ≡ length sc + length t.vars
  scope-long =
      let k = parts-at t.vars i u own in
      omega (arith, length-append sc (before_statement i t).vars, ap length (before-vars t i u own), length-append (take i t.vars) (var_before u ∷ drop (i + 1) t.vars), ap length k.0, length-append (take i t.vars) (u ∷ drop (i + 1) t.vars))

  module _ (join : Join) (cases : List (List Cmp)) (source : f.params ≡ p.source_fn.params) (target : f.params ≡ p.target_fn.params) (among : is_among u.table (tables_of join) ≡ true) (there : Each (λ x. has_table (schema_of p u.side) x ≡ true) (tables_of join)) (joins : Each (JoinFits (schema_of p u.side) (tables_of join)) join.more) where
    body-fits : (held : Bool) (cs : List Cmp) → Each (CmpFits (schema_of p u.side) (tables_of join) f) cs → lit_fits p (sc ++ (before_statement i t).vars) (Any held (case_body u.side (u.stage - 1) join u.table (length sc + i) (length sc + length t.vars) cs)) ≡ true
    body-fits held cs k =
        subst (λ n. lit_fits p (sc ++ (before_statement i t).vars) (Any held (case_body u.side (u.stage - 1) join u.table (length sc + i) n cs)) ≡ true) scope-long
        (case-fits p u.side (u.stage - 1) stage-there f source target join u.table among there joins (sc ++ (before_statement i t).vars) (length sc + i) own-before held cs k)

    none-fit : (css : List (List Cmp)) → Each (Each (CmpFits (schema_of p u.side) (tables_of join) f)) css → list_all (lit_fits p (sc ++ (before_statement i t).vars)) (unmet (case_body u.side (u.stage - 1) join u.table (length sc + i) (length sc + length t.vars)) css) ≡ true
    none-fit [] k = refl
    none-fit (c ∷ cs) k = and_from _ _ (body-fits false c k.0) (none-fit cs k.1)

    each-last : (xs : List (List Cmp)) (y : List Cmp) → Each (Each (CmpFits (schema_of p u.side) (tables_of join) f)) xs → Each (CmpFits (schema_of p u.side) (tables_of join) f) y → Each (Each (CmpFits (schema_of p u.side) (tables_of join) f)) (xs ++ y ∷ [])
    each-last [] y a b = (b, tt)
    each-last (x ∷ xs) y a b = (a.0, each-last xs y a.1 b)

    cases-proper : (kept wrote : Term) → kept.vars ≡ (before_statement i t).vars → wrote.vars ≡ (before_statement i t).vars → IsProperHost p sc ks kept → IsProperHost p sc ks wrote → (before css : List (List Cmp)) → Each (Each (CmpFits (schema_of p u.side) (tables_of join) f)) before → Each (Each (CmpFits (schema_of p u.side) (tables_of join) f)) css → Each (IsProperHost p sc ks) (by_cases (case_body u.side (u.stage - 1) join u.table (length sc + i) (length sc + length t.vars)) kept wrote before css)
    cases-proper kept wrote a b k l before [] m n = (
      more-proper p sc ks kept (unmet (case_body u.side (u.stage - 1) join u.table (length sc + i) (length sc + length t.vars)) before) k
          (ap (λ vs. list_all (lit_fits p (sc ++ vs)) (unmet (case_body u.side (u.stage - 1) join u.table (length sc + i) (length sc + length t.vars)) before)) a ∙ none-fit before m)
          (unmet-oriented u.side (u.stage - 1) join u.table (length sc + i) (length sc + length t.vars) before),
      tt,
    )
    cases-proper kept wrote a b k l before (c ∷ cs) m n = (
      more-proper p sc ks wrote (Any true (case_body u.side (u.stage - 1) join u.table (length sc + i) (length sc + length t.vars) c) ∷ unmet (case_body u.side (u.stage - 1) join u.table (length sc + i) (length sc + length t.vars)) before) l
          (ap (λ vs. list_all (lit_fits p (sc ++ vs)) (Any true (case_body u.side (u.stage - 1) join u.table (length sc + i) (length sc + length t.vars) c) ∷ unmet (case_body u.side (u.stage - 1) join u.table (length sc + i) (length sc + length t.vars)) before)) b ∙ and_from _ _ (body-fits true c n.0) (none-fit before m))
          (and_from _ _ (case-oriented u.side (u.stage - 1) join u.table (length sc + i) (length sc + length t.vars) true c) (unmet-oriented u.side (u.stage - 1) join u.table (length sc + i) (length sc + length t.vars) before)),
      cases-proper kept wrote a b k l (before ++ c ∷ []) cs (each-last before c m n.0) n.1,
    )

  pub delete-proper : (listed : List ℕ) (join : Join) (test : Cond) → TypedFor p f u.side (Delete listed join test) → is_among u.table (tables_of join) ≡ true → IsProperHost p sc ks (deleted (length sc) i u join test.cases t)
  delete-proper listed join test for among =
      let s = schema_of p u.side in
      let piece = piece_of (Delete listed join test) in
      let cmps = each-list (CmpFits s (tables_of join) f) (λ (c : List Cmp). c) test.cases (cmps-fit s f piece (compared-joined s piece for.typed.tables for.typed.columns for.typed.shape for.typed.joined) for.typed.params for.labels for.typed.kinds for.typed.orders) in
      more-proper p sc ks (before_statement i t) (unmet (case_body u.side (u.stage - 1) join u.table (length sc + i) (length sc + length t.vars)) test.cases) (before-proper p sc ks t i h)
      (none-fit join test.cases for.source for.target among (join-tables s piece for.typed.tables for.typed.columns for.typed.shape for.typed.joined) (join-fits s piece for.typed.tables for.typed.columns for.typed.shape for.typed.joined) test.cases cmps)
      (unmet-oriented u.side (u.stage - 1) join u.table (length sc + i) (length sc + length t.vars) test.cases)

  pub set-proper : (c : ColId) (x : Scalar) (join : Join) (test : Cond) → TypedFor p f u.side (Set c x join test) → c.table ≡ u.table → Each (IsProperHost p sc ks) (set_hosts (length sc) i u c.column (scalar_atom x) join test.cases t)
  set-proper c x join test for e =
      let s = schema_of p u.side in
      let piece = piece_of (Set c x join test) in
      let cmps = each-list (CmpFits s (tables_of join) f) (λ (c : List Cmp). c) test.cases (cmps-fit s f piece (compared-joined s piece for.typed.tables for.typed.columns for.typed.shape for.typed.joined) for.typed.params for.labels for.typed.kinds for.typed.orders) in
      let range = (written-in-range s piece for.typed.columns).0 in
      let kinds = same-kind (kind_of s c) (scalar_kind f x) (none-fails (λ (a : Assign). same_kind (kind_of s a.column) (scalar_kind f a.value)) piece.written (or_parts _ _ for.typed.kinds).0).0 in
      let param = (none-passing (names_no_param f) (scalars_of piece) for.typed.params).0 in
      let label = (each-all label_fits (scalars_of piece) for.labels).0 in
      let col : column_kind p (Some (var_of u.side (u.stage - 1) u.table)) c.column ≡ Some (kind_of s c) =
      ap (λ n. column_kind p (Some (var_of u.side (u.stage - 1) n)) c.column) (sym e) ∙ column-kind p u.side (u.stage - 1) c range in
      let before = before-proper p sc ks t i h in
      cases-proper join test.cases for.source for.target (subst (λ n. is_among n (tables_of join) ≡ true) e (set-joined s f c x join test for.typed)) (join-tables s piece for.typed.tables for.typed.columns for.typed.shape for.typed.joined) (join-fits s piece for.typed.tables for.typed.columns for.typed.shape for.typed.joined)
      (before_statement i t) (write (length sc + i) c.column (scalar_atom x) (before_statement i t)) refl refl before
      (write-proper p sc ks (before_statement i t) (length sc + i) (var_of u.side (u.stage - 1) u.table) c.column (scalar_atom x) (kind_of s c) own-before col (λ sc'. scalar-kind p Old 0 f for.source for.target sc' x param label ∙ ap Some (sym kinds)) before)
      [] test.cases tt cmps
