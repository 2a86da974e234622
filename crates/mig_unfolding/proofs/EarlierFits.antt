-- What fits among variables fits where some of them stand a stage earlier.
use Rattle.std.proofs.Common.{◌≡◌, ℕ, zero, suc, ◌+◌, ◌-◌, Bool, true, false, cond, not, ◌&&◌, ◌||◌, List, [], ◌∷◌, ◌++◌, map, Option, Some, None, refl, sym, ap, ap₂, ◌∙◌, arith, inl, inr, ◌⊎◌}
use Rattle.std.specs.Prelude.{◌==◌, nat_lt, slice_get}
use Rattle.std.specs.List.{list_all}
use Rattle.std.proofs.lemmas.Bool.{and_parts, and_from, or_cases, or_left, or_right, eqb-true, eq-eqb, ltb-true, lt-ltb}
use Rattle.mig_schema.specs.declared.faults.Side.{Side}
use Rattle.mig_base.specs.Lists.{numbered}
use Rattle.mig_schema.specs.Columns.{has_table}
use Rattle.mig_algebra.specs.declared.atoms.Var.{Var}
use Rattle.mig_algebra.specs.declared.atoms.Atom.{Atom}
use Rattle.mig_algebra.specs.declared.atoms.Atom.TheVariants.{Int, Text, Param, Fresh, Col}
use Rattle.mig_algebra.specs.declared.literals.Lit.{Lit, Cmp, Other, Any', Row_of-Lit, end_of-Lit, more_of-Lit}
use Rattle.mig_algebra.specs.Proper.{Sides, schema_of, last_stage, var_fits, column_kind, atom_kind, cmp_fits, same_side, other_fits, lit_fits, row_fits}
use Rattle.mig_unfolding.specs.Hosts.{var_before}

-- w is v, or v at an earlier stage
pub record Earlier (v w : Var) : Type 0 where
  pub side : w.side ≡ v.side
  pub table : w.table ≡ v.table
  pub first : (v.stage == 0) ≡ true → (w.stage == 0) ≡ true

-- each variable of a scope, or the same at an earlier stage
abbrev pub AllEarlier : List Var → List Var → Type 0
AllEarlier [] [] = Unit {0}
AllEarlier [] (w ∷ ws) = ⊥
AllEarlier (v ∷ vs) [] = ⊥
AllEarlier (v ∷ vs) (w ∷ ws) = Earlier v w × AllEarlier vs ws

pub earlier-itself : (v : Var) → Earlier v v
earlier-itself v = record { side = refl; table = refl; first = λ h. h }

all-itself : (vs : List Var) → AllEarlier vs vs
all-itself [] = tt
all-itself (v ∷ vs) = (earlier-itself v, all-itself vs)

-- more variables behind both
earlier-more : (vs ws d : List Var) → AllEarlier vs ws → AllEarlier (vs ++ d) (ws ++ d)
earlier-more [] [] d h = all-itself d
earlier-more [] (w ∷ ws) d h = absurd h
earlier-more (v ∷ vs) [] d h = absurd h
earlier-more (v ∷ vs) (w ∷ ws) d h = (h.0, earlier-more vs ws d h.1)

column-earlier : (p : Sides) (vs ws : List Var) (i c : ℕ) → AllEarlier vs ws → column_kind p (slice_get vs i) c ≡ column_kind p (slice_get ws i) c
column-earlier p [] [] i c h = refl
column-earlier p [] (w ∷ ws) i c h = absurd h
column-earlier p (v ∷ vs) [] i c h = absurd h
column-earlier p (v ∷ vs) (w ∷ ws) zero c h =
    ap₂ (λ (a : Side) b. column_kind p (Some (record { side = a; table = b; stage = v.stage })) c) (sym h.0.side) (sym h.0.table)
column-earlier p (v ∷ vs) (w ∷ ws) (suc i) c h = column-earlier p vs ws i c h.1

-- an atom's kind
kind-earlier : (p : Sides) (vs ws : List Var) → AllEarlier vs ws → (x : Atom) → atom_kind p vs x ≡ atom_kind p ws x
kind-earlier p vs ws h (Int i) = refl
kind-earlier p vs ws h (Text t) = refl
kind-earlier p vs ws h (Param n) = refl
kind-earlier p vs ws h (Fresh n) = refl
kind-earlier p vs ws h (Col v c) = column-earlier p vs ws v c h

pub kinds-earlier : (p : Sides) (vs ws : List Var) → AllEarlier vs ws → (xs : List Atom) → map (atom_kind p vs) xs ≡ map (atom_kind p ws) xs
kinds-earlier p vs ws h [] = refl
kinds-earlier p vs ws h (x ∷ xs) = ap₂ (λ a b. a ∷ b) (kind-earlier p vs ws h x) (kinds-earlier p vs ws h xs)

-- ---- literals

others-of : (a b : ℕ) (v w v' w' : Var) → Earlier v v' → Earlier w w' → other_fits a b (Some v) (Some w) ≡ true → other_fits a b (Some v') (Some w') ≡ true
others-of a b v w v' w' h i t =
    let k = and_parts (same_side v.side w.side) (v.table == w.table && (not (a == b) || v.stage == 0)) t in
    let l = and_parts (v.table == w.table) (not (a == b) || v.stage == 0) k.1 in
    and_from (same_side v'.side w'.side) (v'.table == w'.table && (not (a == b) || v'.stage == 0)) (ap₂ same_side h.side i.side ∙ k.0)
    (and_from (v'.table == w'.table) (not (a == b) || v'.stage == 0) (ap₂ (λ x y. x == y) h.table i.table ∙ l.0) (go (or_cases (not (a == b)) (v.stage == 0) l.1)))
  where
    go : (not (a == b) ≡ true) ⊎ ((v.stage == 0) ≡ true) → (not (a == b) || v'.stage == 0) ≡ true
    go (inl e) = or_left (not (a == b)) (v'.stage == 0) e
    go (inr e) = or_right (not (a == b)) (v'.stage == 0) (h.first e)

-- both have a variable of a number, an earlier one, or neither has
got : (vs ws : List Var) (i : ℕ) → AllEarlier vs ws → ((slice_get vs i ≡ None) × (slice_get ws i ≡ None)) ⊎ ((v : Var) × (w : Var) × (slice_get vs i ≡ Some v) × (slice_get ws i ≡ Some w) × Earlier v w)
got [] [] i h = inl (refl, refl)
got [] (w ∷ ws) i h = absurd h
got (v ∷ vs) [] i h = absurd h
got (v ∷ vs) (w ∷ ws) zero h = inr (v, w, refl, refl, h.0)
got (v ∷ vs) (w ∷ ws) (suc i) h = got vs ws i h.1

ids-earlier : (vs ws : List Var) (a b : ℕ) → AllEarlier vs ws → other_fits a b (slice_get vs a) (slice_get vs b) ≡ true → other_fits a b (slice_get ws a) (slice_get ws b) ≡ true
ids-earlier vs ws a b h t = go (got vs ws a h) (got vs ws b h)
  where
    none : (y : Option Var) → other_fits a b None y ≡ true → ⊥
    none y e = cc

    one : (v : Var) → other_fits a b (Some v) None ≡ true → ⊥
    one v e = cc

    go : ((slice_get vs a ≡ None) × (slice_get ws a ≡ None)) ⊎ ((v : Var) × (w : Var) × (slice_get vs a ≡ Some v) × (slice_get ws a ≡ Some w) × Earlier v w) → ((slice_get vs b ≡ None) × (slice_get ws b ≡ None)) ⊎ ((v : Var) × (w : Var) × (slice_get vs b ≡ Some v) × (slice_get ws b ≡ Some w) × Earlier v w) → other_fits a b (slice_get ws a) (slice_get ws b) ≡ true
    go (inl k) l = absurd (none (slice_get vs b) (ap (λ x. other_fits a b x (slice_get vs b)) (sym k.0) ∙ t))
    go (inr k) (inl l) = absurd (one k.0 (ap₂ (other_fits a b) (sym k.2) (sym l.0) ∙ t))
    go (inr k) (inr l) =
        ap₂ (other_fits a b) k.3 l.3 ∙ others-of a b k.0 l.0 k.1 l.1 k.4 l.4 (ap₂ (other_fits a b) (sym k.2) (sym l.2) ∙ t)

mutual
  -- a literal fits
  pub earlier-fits : (p : Sides) (vs ws : List Var) → AllEarlier vs ws → (l : Lit) → lit_fits p vs l ≡ true → lit_fits p ws l ≡ true
  earlier-fits p vs ws h (Cmp op a b) t = sym (ap₂ (cmp_fits op) (kind-earlier p vs ws h a) (kind-earlier p vs ws h b)) ∙ t
  earlier-fits p vs ws h (Other a b) t = ids-earlier vs ws a b h t
  earlier-fits p vs ws h (Any' held vars n lits) t =
      let k = and_parts (list_all (var_fits p) vars) (row_fits p (vs ++ vars) lits) t in
      and_from (list_all (var_fits p) vars) (row_fits p (ws ++ vars) lits) k.0 (earlier-row-fits p (vs ++ vars) (ws ++ vars) (earlier-more vs ws vars h) lits k.1)

  pub earlier-row-fits : (p : Sides) (vs ws : List Var) → AllEarlier vs ws → {m : _} (lits : Row_of-Lit m) → row_fits p vs lits ≡ true → row_fits p ws lits ≡ true
  earlier-row-fits p vs ws h end_of-Lit t = refl
  earlier-row-fits p vs ws h (more_of-Lit l rest) t =
      let k = and_parts (lit_fits p vs l) (row_fits p vs rest) t in
      and_from (lit_fits p ws l) (row_fits p ws rest) (earlier-fits p vs ws h l k.0) (earlier-row-fits p vs ws h rest k.1)

pub earlier-all-fit : (p : Sides) (vs ws : List Var) → AllEarlier vs ws → (ls : List Lit) → list_all (lit_fits p vs) ls ≡ true → list_all (lit_fits p ws) ls ≡ true
earlier-all-fit p vs ws h [] t = refl
earlier-all-fit p vs ws h (l ∷ ls) t =
    let k = and_parts (lit_fits p vs l) (list_all (lit_fits p vs) ls) t in
    and_from (lit_fits p ws l) (list_all (lit_fits p ws) ls) (earlier-fits p vs ws h l k.0) (earlier-all-fit p vs ws h ls k.1)

-- ---- a variable a statement before

pub before-earlier : (v : ℕ) (n : ℕ) (vs : List Var) → AllEarlier vs (numbered (λ m (w : Var). cond (m == v) (var_before w) w) n vs)
before-earlier v n [] = tt
before-earlier v n (u ∷ us) = (one (n == v), before-earlier v (n + 1) us)
  where
    first : (u.stage == 0) ≡ true → (u.stage - 1 == 0) ≡ true
    first h = let e = eqb-true u.stage 0 h in eq-eqb (u.stage - 1) 0 (omega (arith, e))

    one : (b : Bool) → Earlier u (cond b (var_before u) u)
    one true = record { side = refl; table = refl; first = first }
    one false = earlier-itself u

pub lower : (s l : ℕ) → nat_lt s (l + 1) ≡ true → nat_lt (s - 1) (l + 1) ≡ true
lower s l t = let e = ltb-true s (l + 1) t in lt-ltb (s - 1) (l + 1) (omega (arith, e))

pub before-fit : (p : Sides) (v : ℕ) (n : ℕ) (vs : List Var) → list_all (var_fits p) vs ≡ true → list_all (var_fits p) (numbered (λ m (w : Var). cond (m == v) (var_before w) w) n vs) ≡ true
before-fit p v n [] h = refl
before-fit p v n (u ∷ us) h =
    let k = and_parts (var_fits p u) (list_all (var_fits p) us) h in
    and_from (var_fits p (cond (n == v) (var_before u) u)) (list_all (var_fits p) (numbered (λ m (w : Var). cond (m == v) (var_before w) w) (n + 1) us)) (one (n == v) k.0) (before-fit p v (n + 1) us k.1)
  where
    one : (b : Bool) → var_fits p u ≡ true → var_fits p (cond b (var_before u) u) ≡ true
    one false t = t
    one true t =
        let k = and_parts (has_table (schema_of p u.side) u.table) (nat_lt u.stage (last_stage p u.side + 1)) t in
        and_from (has_table (schema_of p u.side) u.table) (nat_lt (u.stage - 1) (last_stage p u.side + 1)) k.0 (lower u.stage (last_stage p u.side) k.1)
