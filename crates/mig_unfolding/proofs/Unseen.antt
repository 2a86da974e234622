-- A statement that a variable doesn't see: its table is not touched, or the column that is set is used nowhere.
use Rattle.std.proofs.Common.{◌≡◌, ◌≢◌, ℕ, suc, ◌+◌, ◌-◌, ◌<◌, Bool, true, false, cond, ◌&&◌, List, [], ◌∷◌, ◌++◌, map, length, take, drop, Some, refl, sym, ap, ap₂, ◌∙◌, arith, append_assoc, length-append, subst₂}
use Rattle.std.specs.Prelude.{◌==◌, slice_get}
use Rattle.std.specs.List.{list_all}
use Rattle.std.proofs.lemmas.Bool.{and_parts, not-true}
use Rattle.mig_schema.specs.declared.tables.ColId.{ColId}
use Rattle.mig_schema.specs.declared.values.Value.{Value}
use Rattle.mig_schema.specs.declared.programs.Cond.{Cond}
use Rattle.mig_schema.specs.declared.programs.Join.{Join}
use Rattle.mig_schema.specs.declared.programs.Scalar.{Scalar}
use Rattle.mig_schema.specs.declared.programs.Stmt.{Stmt}
use Rattle.mig_schema.specs.declared.programs.Stmt.TheVariants.{Set}
use Rattle.mig_schema.specs.Columns.{has_column}
use Rattle.mig_schema.specs.Joins.{tables_of}
use Rattle.mig_meaning.specs.declared.states.Placed.{Placed}
use Rattle.mig_meaning.specs.Lists.{total, Each}
use Rattle.mig_meaning.specs.Rows.{rows_of}
use Rattle.mig_meaning.specs.Conditions.{met_rows, scalar_value}
use Rattle.mig_meaning.specs.Effect.{takes_part, with_value}
use Rattle.mig_meaning.proofs.Bags.{total-map}
use Rattle.mig_meaning.proofs.Within.{each-weaker}
use Rattle.mig_algebra.specs.declared.atoms.Var.{Var}
use Rattle.mig_algebra.specs.declared.atoms.Atom.{Atom}
use Rattle.mig_algebra.specs.declared.atoms.Atom.TheVariants.{Int, Text, Param, Fresh, Col}
use Rattle.mig_algebra.specs.declared.literals.Lit.{Lit}
use Rattle.mig_algebra.specs.declared.terms.Term.{Term}
use Rattle.mig_algebra.specs.Meaning.{Setting, Env, value_of, head_of, choices}
use Rattle.mig_algebra.specs.Obligations.{scalar_atom}
use Rattle.mig_algebra.specs.Proper.{Sides, schema_of}
use Rattle.mig_algebra.specs.Rename.{lit_all}
use Rattle.mig_algebra.proofs.Sums.{when, total-each}
use Rattle.mig_algebra.proofs.Truth.{Reads, lits_with-true, head-reads}
use Rattle.mig_algebra.proofs.Moved.{any_id}
use Rattle.mig_algebra.proofs.Hosts.{host_sum, choice-lengths}
use Rattle.mig_algebra.proofs.Inserted.{host-same_rows}
use Rattle.mig_obligations.specs.Settings.{Moment, stage_of, setting_of}
use Rattle.mig_unfolding.proofs.Alike.{parts-at, before-vars, HostsAlike, LedTo, alike, counted, host_weight}
use Rattle.mig_unfolding.proofs.HostLaws.{stage-rows, wide}
use Rattle.mig_unfolding.proofs.Sets.{set-rows, value-written, reads-written, total-split, scalar-atom-value}
use Rattle.mig_unfolding.proofs.Stages.{untouched, stage-next}
use Rattle.mig_unfolding.specs.Hosts.{var_before, before_statement}
use Rattle.mig_unfolding.specs.Stages.{statements_at}
use Rattle.mig_unfolding.specs.Unfolding.{touches, written, is_other, is_unused}

-- ---- literals and heads that are the same at two choices

abbrev same_atom : Atom → Atom
same_atom x = x

abbrev same_number : ℕ → ℕ
same_number v = v

reads-itself : (s : Setting) (e : Env) (t : Atom → Bool) → Reads s e e t any_id same_atom same_number
reads-itself s e t = record { atoms = λ c x h. refl; ids = λ c v h. refl }

same-counted : (s : Setting) (w : List Value → ℕ) (vars vars' : List Var) (lits : List Lit) (head : List Atom) (t : Atom → Bool) (e e' : Env) → Reads s e e' t any_id same_atom same_number → list_all (lit_all t any_id) lits ≡ true → list_all t head ≡ true → counted s w (record { vars = vars; lits = lits; head = head }) e ≡ counted s w (record { vars = vars'; lits = lits; head = head }) e'
same-counted s w vars vars' lits head t e e' r a b =
    ap₂ (λ x y. when x (w y))
    (lits_with-true s t any_id same_atom same_number e e' r lits a ∙ sym (lits_with-true s t any_id same_atom same_number e' e' (reads-itself s e' t) lits a))
    (head-reads s t any_id same_atom same_number e e' r head b ∙ sym (head-reads s t any_id same_atom same_number e' e' (reads-itself s e' t) head b))

unwritten : (v c : ℕ) (x z : Atom) → is_other v c z ≡ true → written v c x z ≡ z
unwritten v c x (Int i) h = refl
unwritten v c x (Text t) h = refl
unwritten v c x (Param p) h = refl
unwritten v c x (Fresh k) h = refl
unwritten v c x (Col w d) h = ap (λ b. cond b x (Col w d)) (not-true (w == v && d == c) h)

-- ---- a column that is used nowhere

module _ (s : Setting) (e : Env) (w : List Value → ℕ) (vs : List Var) (u u' : Var) (ws : List Var) (lits : List Lit) (head : List Atom) (col : ℕ) (x : Atom) (y : Value) (val : (f : Env) → value_of s f x ≡ y) (part : Placed → Bool) (rows : s.rows u ≡ map (λ p. cond (part p) (with_value col y p) p) (s.rows u')) (long : Each (λ (p : Placed). col < length p.row.values) (s.rows u')) (other : list_all (lit_all (is_other (length e + length vs) col) any_id) lits ≡ true) (others : list_all (is_other (length e + length vs) col) head ≡ true) where
  reads : (c d : Env) (p : Placed) → length c ≡ length vs → col < length p.row.values → Reads s (e ++ (c ++ (with_value col y p ∷ d))) (e ++ (c ++ (p ∷ d))) (is_other (length e + length vs) col) any_id same_atom same_number
  reads c d p l k =
      let r = subst₂ (λ f g. Reads s f g (λ a. true) any_id (written (length e + length vs) col x) (λ i. i)) (append_assoc e c (with_value col y p ∷ d)) (append_assoc e c (p ∷ d))
      (reads-written s (e ++ c) d p (with_value col y p) (length e + length vs) col x y (length-append e c ∙ ap (λ m. length e + m) l) refl (value-written col y p k) val) in
      record {
        atoms = λ f z t. r.atoms f z refl ∙ ap (value_of s ((e ++ (c ++ (p ∷ d))) ++ f)) (unwritten (length e + length vs) col x z t);
        ids = r.ids;
      }

  host-unused : host_weight s e w (record { vars = vs ++ (u ∷ ws); lits = lits; head = head }) ≡ host_weight s e w (record { vars = vs ++ (u' ∷ ws); lits = lits; head = head })
  host-unused =
      total-split s (λ c. counted s w old (e ++ c)) vs u ws
      ∙ total-each _ _ (choices s vs) (each-weaker _ _ (λ c l. total-each _ _ (choices s ws) (each-weaker _ _ (λ d m. cells c d l) (choices s ws) (choice-lengths s ws))) (choices s vs) (choice-lengths s vs))
      ∙ sym (total-split s (λ c. counted s w new (e ++ c)) vs u' ws)
    where
      old : Term
      old = record { vars = vs ++ (u ∷ ws); lits = lits; head = head }

      new : Term
      new = record { vars = vs ++ (u' ∷ ws); lits = lits; head = head }

      one : (b : Bool) (c d : Env) (p : Placed) → length c ≡ length vs → col < length p.row.values → counted s w old (e ++ (c ++ (cond b (with_value col y p) p ∷ d))) ≡ counted s w new (e ++ (c ++ (p ∷ d)))
      one true c d p l k = same-counted s w (vs ++ (u ∷ ws)) (vs ++ (u' ∷ ws)) lits head (is_other (length e + length vs) col) (e ++ (c ++ (with_value col y p ∷ d))) (e ++ (c ++ (p ∷ d))) (reads c d p l k) other others
      one false c d p l k = refl

      cells : (c d : Env) → length c ≡ length vs → total (λ p. counted s w old (e ++ (c ++ (p ∷ d)))) (s.rows u) ≡ total (λ p. counted s w new (e ++ (c ++ (p ∷ d)))) (s.rows u')
      cells c d l =
          ap (total (λ p. counted s w old (e ++ (c ++ (p ∷ d))))) rows
          ∙ total-map (λ p. counted s w old (e ++ (c ++ (p ∷ d)))) (λ p. cond (part p) (with_value col y p) p) (s.rows u')
          ∙ total-each _ _ (s.rows u') (each-weaker (λ (p : Placed). col < length p.row.values) (λ p. counted s w old (e ++ (c ++ (cond (part p) (with_value col y p) p ∷ d))) ≡ counted s w new (e ++ (c ++ (p ∷ d)))) (λ p k. one (part p) c d p l k) (s.rows u') long)

-- ---- moments

plus_none : (n : ℕ) → n + 0 ≡ n
plus_none n = omega arith

pub untouched-alike : (p : Sides) (m : Moment) (t : Term) (i : ℕ) (u : Var) → slice_get t.vars i ≡ Some u → u.stage ≢ 0 → (stmt : Stmt) → slice_get (statements_at p u.side) (u.stage - 1) ≡ Some stmt → touches stmt u.table ≡ false → (e : Env) → HostsAlike (setting_of p m) e t (before_statement i t ∷ [])
untouched-alike p m t i u own later stmt h n e =
    let k = parts-at t.vars i u own in
    let j : u.stage ≡ suc (u.stage - 1) = omega (arith, later) in
    let same : (setting_of p m).rows u ≡ (setting_of p m).rows (var_before u) =
    ap (λ j. rows_of (stage_of p m u.side j) u.table) j ∙ ap (λ x. rows_of x u.table) (stage-next p m u.side (u.stage - 1) stmt h) ∙ untouched (schema_of p u.side) m.given stmt (stage_of p m u.side (u.stage - 1)) u.table n in
    alike (setting_of p m) e t (before_statement i t ∷ []) (λ w.
    plus_none (host_weight (setting_of p m) e w (before_statement i t))
    ∙ ap (λ vs. host_sum (setting_of p m) e (λ f. w (head_of (setting_of p m) t.head f)) vs t.lits) (before-vars t i u own)
    ∙ sym (host-same_rows (setting_of p m) e (λ f. w (head_of (setting_of p m) t.head f)) (take i t.vars) u (var_before u) (drop (i + 1) t.vars) t.lits same)
    ∙ ap (λ vs. host_sum (setting_of p m) e (λ f. w (head_of (setting_of p m) t.head f)) vs t.lits) (sym k.0))

pub unused-alike : (p : Sides) (m : Moment) (t : Term) (i : ℕ) (u : Var) → LedTo p m t i u → (c : ColId) (x : Scalar) (join : Join) (test : Cond) → slice_get (statements_at p u.side) (u.stage - 1) ≡ Some (Set c x join test) → c.table ≡ u.table → has_column (schema_of p u.side) c ≡ true → (e : Env) → is_unused (length e + i) c.column t ≡ true → HostsAlike (setting_of p m) e t (before_statement i t ∷ [])
unused-alike p m t i u led c x join test h a r e quiet =
    let k = parts-at t.vars i u led.own in
    let un = and_parts (list_all (lit_all (is_other (length e + i) c.column) any_id) t.lits) (list_all (is_other (length e + i) c.column) t.head) quiet in
    alike (setting_of p m) e t (before_statement i t ∷ []) (λ w.
    plus_none (host_weight (setting_of p m) e w (before_statement i t))
    ∙ ap (λ vs. host_weight (setting_of p m) e w (record { vars = vs; lits = t.lits; head = t.head })) (before-vars t i u led.own)
    ∙ sym (host-unused (setting_of p m) e w (take i t.vars) u (var_before u) (drop (i + 1) t.vars) t.lits t.head c.column (scalar_atom x) (scalar_value m.given x) (λ f. sym (scalar-atom-value (setting_of p m) f x))
    (λ q. takes_part (tables_of join) (met_rows m.given (stage_of p m u.side (u.stage - 1)) join test.cases) u.table q)
    (stage-rows p m t i u led (Set c x join test) h ∙ set-rows (schema_of p u.side) m.given c x join test (stage_of p m u.side (u.stage - 1)) u.table a)
    (wide p m t i u led c a r)
    (ap (λ n. list_all (lit_all (is_other (length e + n) c.column) any_id) t.lits) k.1 ∙ un.0)
    (ap (λ n. list_all (is_other (length e + n) c.column) t.head) k.1 ∙ un.1))
    ∙ ap (λ vs. host_weight (setting_of p m) e w (record { vars = vs; lits = t.lits; head = t.head })) (sym k.0))
