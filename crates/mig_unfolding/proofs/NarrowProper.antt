-- A narrowed host is proper where the host is.
use Rattle.std.proofs.Common.{◌≡◌, ℕ, ◌+◌, ◌-◌, Bool, true, false, cond, ◌&&◌, List, [], ◌∷◌, ◌++◌, length, refl, sym, ◌∙◌, arith}
use Rattle.std.specs.Prelude.{nat_lt}
use Rattle.std.specs.List.{list_all}
use Rattle.std.proofs.lemmas.Bool.{and_parts, and_from, eqb-true, eq-eqb}
use Rattle.mig_schema.specs.declared.tables.Kind.{Kind}
use Rattle.mig_schema.specs.Columns.{has_table}
use Rattle.mig_algebra.specs.declared.atoms.Var.{Var}
use Rattle.mig_algebra.specs.declared.literals.Lit.{Lit, Cmp, Other, Any', Row_of-Lit, end_of-Lit, more_of-Lit, items-the_row-Lit}
use Rattle.mig_algebra.specs.declared.terms.Term.{Term}
use Rattle.mig_algebra.specs.Proper.{Sides, schema_of, last_stage, var_fits, lit_fits, row_fits, lit_oriented, row_oriented}
use Rattle.mig_algebra.proofs.SortedFits.{any_fits, any_oriented}
use Rattle.mig_unfolding.specs.Hosts.{var_before}
use Rattle.mig_unfolding.specs.Narrowed.{parts, names, is_same, narrowed, narrow_lit, narrow_row, narrow_list, narrowed_host}
use Rattle.mig_unfolding.proofs.EarlierFits.{Earlier, AllEarlier, earlier-itself, kinds-earlier, earlier-fits, lower}
use Rattle.mig_unfolding.proofs.ProperHosts.{IsProperHost}

-- ---- variables

before-one : (b : Bool) (x : Var) → Earlier x (cond b (var_before x) x)
before-one true x = record { side = refl; table = refl; first = λ h. let e = eqb-true x.stage 0 h in eq-eqb (x.stage - 1) 0 (omega (arith, e)) }
before-one false x = earlier-itself x

narrowed-earlier : (u : Var) (v n : ℕ) (lits : List Lit) (vars : List Var) → AllEarlier vars (narrowed u v n lits vars)
narrowed-earlier u v n lits [] = tt
narrowed-earlier u v n lits (x ∷ xs) = (before-one (names v n lits && is_same u x) x, narrowed-earlier u v (n + 1) lits xs)

both-earlier : (vs ws xs ys : List Var) → AllEarlier vs ws → AllEarlier xs ys → AllEarlier (vs ++ xs) (ws ++ ys)
both-earlier [] [] xs ys h k = k
both-earlier [] (w ∷ ws) xs ys h k = absurd h
both-earlier (v ∷ vs) [] xs ys h k = absurd h
both-earlier (v ∷ vs) (w ∷ ws) xs ys h k = (h.0, both-earlier vs ws xs ys h.1 k)

each-itself : (vs : List Var) → AllEarlier vs vs
each-itself [] = tt
each-itself (v ∷ vs) = (earlier-itself v, each-itself vs)

module _ (p : Sides) where
  before-fits : (b : Bool) (x : Var) → var_fits p x ≡ true → var_fits p (cond b (var_before x) x) ≡ true
  before-fits false x t = t
  before-fits true x t =
      let k = and_parts (has_table (schema_of p x.side) x.table) (nat_lt x.stage (last_stage p x.side + 1)) t in
      and_from (has_table (schema_of p x.side) x.table) (nat_lt (x.stage - 1) (last_stage p x.side + 1)) k.0 (lower x.stage (last_stage p x.side) k.1)

  narrowed-fit : (u : Var) (v n : ℕ) (lits : List Lit) (vars : List Var) → list_all (var_fits p) vars ≡ true → list_all (var_fits p) (narrowed u v n lits vars) ≡ true
  narrowed-fit u v n lits [] h = refl
  narrowed-fit u v n lits (x ∷ xs) h =
      let k = and_parts (var_fits p x) (list_all (var_fits p) xs) h in
      and_from (var_fits p (cond (names v n lits && is_same u x) (var_before x) x)) (list_all (var_fits p) (narrowed u v (n + 1) lits xs)) (before-fits (names v n lits && is_same u x) x k.0) (narrowed-fit u v (n + 1) lits xs k.1)

  -- ---- literals

  dropped : (f : Lit → Bool) (b : Bool) (y : Lit) (xs : List Lit) → f y ≡ true → list_all f xs ≡ true → list_all f (cond b xs (y ∷ xs)) ≡ true
  dropped f true y xs h k = k
  dropped f false y xs h k = and_from (f y) (list_all f xs) h k

  mutual
    narrow-fits : (u : Var) (v n : ℕ) (vs ws : List Var) → AllEarlier vs ws → (l : Lit) → lit_fits p vs l ≡ true → lit_fits p ws (narrow_lit u v n l) ≡ true
    narrow-fits u v n vs ws h (Cmp op a b) t = earlier-fits p vs ws h (Cmp op a b) t
    narrow-fits u v n vs ws h (Other a b) t = earlier-fits p vs ws h (Other a b) t
    narrow-fits u v n vs ws h (Any' held vars m row) t =
        let new = narrowed u v n (items-the_row-Lit _ row) vars in
        let k = and_parts (list_all (var_fits p) vars) (row_fits p (vs ++ vars) row) t in
        any_fits p ws held new (narrow_row u v (n + length vars) row)
        ∙ and_from (list_all (var_fits p) new) (list_all (lit_fits p (ws ++ new)) (narrow_row u v (n + length vars) row)) (narrowed-fit u v n (items-the_row-Lit _ row) vars k.0)
        (narrow-row-fits u v (n + length vars) (vs ++ vars) (ws ++ new) (both-earlier vs ws vars new h (narrowed-earlier u v n (items-the_row-Lit _ row) vars)) row k.1)

    narrow-row-fits : (u : Var) (v n : ℕ) (vs ws : List Var) → AllEarlier vs ws → {m : _} (row : Row_of-Lit m) → row_fits p vs row ≡ true → list_all (lit_fits p ws) (narrow_row u v n row) ≡ true
    narrow-row-fits u v n vs ws h end_of-Lit t = refl
    narrow-row-fits u v n vs ws h (more_of-Lit l rest) t =
        let k = and_parts (lit_fits p vs l) (row_fits p vs rest) t in
        dropped (lit_fits p ws) (parts v l) (narrow_lit u v n l) (narrow_row u v n rest) (narrow-fits u v n vs ws h l k.0) (narrow-row-fits u v n vs ws h rest k.1)

  mutual
    narrow-oriented : (u : Var) (v n : ℕ) (l : Lit) → lit_oriented l ≡ true → lit_oriented (narrow_lit u v n l) ≡ true
    narrow-oriented u v n (Cmp op a b) t = t
    narrow-oriented u v n (Other a b) t = refl
    narrow-oriented u v n (Any' held vars m row) t =
        any_oriented held (narrowed u v n (items-the_row-Lit _ row) vars) (narrow_row u v (n + length vars) row) ∙ narrow-row-oriented u v (n + length vars) row t

    narrow-row-oriented : (u : Var) (v n : ℕ) {m : _} (row : Row_of-Lit m) → row_oriented row ≡ true → list_all lit_oriented (narrow_row u v n row) ≡ true
    narrow-row-oriented u v n end_of-Lit t = refl
    narrow-row-oriented u v n (more_of-Lit l rest) t =
        let k = and_parts (lit_oriented l) (row_oriented rest) t in
        dropped lit_oriented (parts v l) (narrow_lit u v n l) (narrow_row u v n rest) (narrow-oriented u v n l k.0) (narrow-row-oriented u v n rest k.1)

  all-fit : (u : Var) (v n : ℕ) (vs ws : List Var) → AllEarlier vs ws → (ls : List Lit) → list_all (lit_fits p vs) ls ≡ true → list_all (lit_fits p ws) (narrow_list u v n ls) ≡ true
  all-fit u v n vs ws h [] t = refl
  all-fit u v n vs ws h (l ∷ ls) t =
      let k = and_parts (lit_fits p vs l) (list_all (lit_fits p vs) ls) t in
      dropped (lit_fits p ws) (parts v l) (narrow_lit u v n l) (narrow_list u v n ls) (narrow-fits u v n vs ws h l k.0) (all-fit u v n vs ws h ls k.1)

  all-oriented : (u : Var) (v n : ℕ) (ls : List Lit) → list_all lit_oriented ls ≡ true → list_all lit_oriented (narrow_list u v n ls) ≡ true
  all-oriented u v n [] t = refl
  all-oriented u v n (l ∷ ls) t =
      let k = and_parts (lit_oriented l) (list_all lit_oriented ls) t in
      dropped lit_oriented (parts v l) (narrow_lit u v n l) (narrow_list u v n ls) (narrow-oriented u v n l k.0) (all-oriented u v n ls k.1)

  -- ---- hosts

  pub narrowed-proper : (u : Var) (v n : ℕ) (sc : List Var) (ks : List Kind) (t : Term) → IsProperHost p sc ks t → IsProperHost p sc ks (narrowed_host u v n t)
  narrowed-proper u v n sc ks t h =
      let new = narrowed u v n t.lits t.vars in
      let all = both-earlier sc sc t.vars new (each-itself sc) (narrowed-earlier u v n t.lits t.vars) in
      record {
        vars = narrowed-fit u v n t.lits t.vars h.vars;
        fits = all-fit u v (n + length t.vars) (sc ++ t.vars) (sc ++ new) all t.lits h.fits;
        oriented = all-oriented u v (n + length t.vars) t.lits h.oriented;
        head = sym (kinds-earlier p (sc ++ t.vars) (sc ++ new) all t.head) ∙ h.head;
      }
