-- A case's body fits at a variable of its table, and so do the hosts that unfolding a delete or a set gives.
use Rattle.std.proofs.Common.{◌≡◌, ◌≢◌, ℕ, zero, suc, ◌+◌, ◌<◌, Bool, true, false, cond, ◌&&◌, List, [], ◌∷◌, ◌++◌, map, length, take, drop, Some, refl, sym, ap, ap₂, ◌∙◌, arith, append_assoc, inl, inr, ◌⊎◌, subst}
use Rattle.std.specs.Prelude.{◌==◌, nat_lt, slice_get}
use Rattle.std.specs.List.{list_all}
use Rattle.std.proofs.lemmas.Bool.{and_parts, and_from}
use Rattle.std.proofs.lemmas.Bool.Decides.{eqb_tells}
use Rattle.std.proofs.lemmas.List.{map-append}
use Rattle.std.proofs.lemmas.Option.{slice_get_within}
use Rattle.mig_schema.specs.declared.faults.Side.{Side}
use Rattle.mig_schema.specs.declared.tables.Kind.{Kind}
use Rattle.mig_schema.specs.declared.programs.Op.{Op}
use Rattle.mig_schema.specs.declared.programs.Op.TheVariants.{Eq, Ne, Lt, Le, Gt, Ge}
use Rattle.mig_schema.specs.declared.programs.Cmp.{Cmp as Comparison}
use Rattle.mig_schema.specs.declared.programs.Join.{Join}
use Rattle.mig_schema.specs.declared.programs.Joined.{Joined}
use Rattle.mig_schema.specs.declared.programs.Function.{Function}
use Rattle.mig_schema.specs.Columns.{has_table}
use Rattle.mig_schema.specs.Joins.{tables_of, is_among}
use Rattle.mig_meaning.specs.Lists.{place, Each}
use Rattle.mig_algebra.specs.declared.atoms.Var.{Var}
use Rattle.mig_algebra.specs.declared.atoms.Atom.{Atom}
use Rattle.mig_algebra.specs.declared.atoms.Atom.TheVariants.{Int, Text, Param, Fresh, Col}
use Rattle.mig_algebra.specs.declared.literals.Lit.{Lit, Cmp}
use Rattle.mig_algebra.specs.declared.literals.Lit.TheVariants.{Any}
use Rattle.mig_algebra.specs.Atoms.{atom_lt, oriented}
use Rattle.mig_algebra.specs.Obligations.{var_of, col_atom, item_atom, join_lits, case_lits}
use Rattle.mig_algebra.specs.Rename.{lit_all, renumbered, below}
use Rattle.mig_algebra.specs.Proper.{Sides, schema_of, last_stage, var_fits, column_kind, atom_kind, lit_fits, lit_oriented}
use Rattle.mig_algebra.proofs.Lists.{each-drop_middle}
use Rattle.mig_algebra.proofs.Ranges.{JoinFits, CmpFits}
use Rattle.mig_algebra.proofs.Without.{any_atom}
use Rattle.mig_algebra.proofs.RenamedFits.{Fits, lits_with-fit, lits_with-oriented}
use Rattle.mig_algebra.proofs.ObligedFits.{vars-in-range, join-lits-fit, case-lits-fit}
use Rattle.mig_algebra.proofs.SortedFits.{any_fits, any_oriented}
use Rattle.mig_steps.proofs.SameKinds.{get-own}
use Rattle.mig_unfolding.proofs.Alike.{parts-at}
use Rattle.mig_unfolding.proofs.Bridge.{got-place}
use Rattle.mig_unfolding.proofs.WithoutFits.{get-below}
use Rattle.mig_unfolding.specs.Cases.{case_number, case_in, case_body, unmet}

-- ---- scopes

pub get-front : (xs ys : List Var) (i : ℕ) → i < length xs → slice_get (xs ++ ys) i ≡ slice_get xs i
get-front [] ys i h = absurd (omega arith)
get-front (x ∷ xs) ys zero h = refl
get-front (x ∷ xs) ys (suc i) h = get-front xs ys i (omega (arith, h))

pub get-behind : (xs ys : List Var) (i : ℕ) → slice_get (xs ++ ys) (length xs + i) ≡ slice_get ys i
get-behind [] ys i = let e : 0 + i ≡ i = omega arith in ap (slice_get ys) e
get-behind (x ∷ xs) ys i = let e : suc (length xs) + i ≡ suc (length xs + i) = omega arith in ap (slice_get (x ∷ (xs ++ ys))) e ∙ get-behind xs ys i

pub all-append : {X : Type 0} (f : X → Bool) (xs ys : List X) → list_all f xs ≡ true → list_all f ys ≡ true → list_all f (xs ++ ys) ≡ true
all-append f [] ys a b = b
all-append f (x ∷ xs) ys a b = let k = and_parts (f x) (list_all f xs) a in and_from (f x) (list_all f (xs ++ ys)) k.0 (all-append f xs ys k.1 b)

-- no variable passes
abbrev pub no_id : ℕ → Bool
no_id v = false

-- what fits in a join's scope fits by a case's numbers at the host and the other tables
pub fits-case : (p : Sides) (a b e : List Var) (u : Var) (k v : ℕ) → length a ≡ k → slice_get e v ≡ Some u → Fits p (a ++ (u ∷ b)) (e ++ (a ++ b)) any_atom no_id (renumbered (case_number k v (length e))) (case_number k v (length e))
fits-case p a b e u k v h own = record {
  atoms = λ d x i t q. atom d x i q;
  others = λ d x y s t q. cc;
}
  where
    at : (d : List Var) (i : ℕ) → ((i == k) ≡ true) × (i ≡ k) ⊎ ((i == k) ≡ false) × (i ≢ k) → slice_get ((a ++ (u ∷ b)) ++ d) i ≡ slice_get ((e ++ (a ++ b)) ++ d) (case_number k v (length e) i)
    at d i (inl t) =
        ap (λ l. slice_get l i) (append_assoc a (u ∷ b) d) ∙ get-own a u (b ++ d) i (h ∙ sym t.1)
        ∙ sym own ∙ sym (get-front e ((a ++ b) ++ d) v (slice_get_within e v u own)) ∙ ap (λ l. slice_get l v) (sym (append_assoc e (a ++ b) d))
        ∙ ap (λ w. slice_get ((e ++ (a ++ b)) ++ d) (cond w v (length e + below k i))) (sym t.0)
    at d i (inr t) =
        ap (λ l. slice_get l i) (append_assoc a (u ∷ b) d) ∙ get-below a u (b ++ d) k i h t.1
        ∙ ap (λ l. slice_get l (below k i)) (sym (append_assoc a b d))
        ∙ sym (get-behind e ((a ++ b) ++ d) (below k i))
        ∙ ap (λ l. slice_get l (length e + below k i)) (sym (append_assoc e (a ++ b) d))
        ∙ ap (λ w. slice_get ((e ++ (a ++ b)) ++ d) (cond w v (length e + below k i))) (sym t.0)

    atom : (d : List Var) (x : Atom) (i : Kind) → atom_kind p ((a ++ (u ∷ b)) ++ d) x ≡ Some i → atom_kind p ((e ++ (a ++ b)) ++ d) (renumbered (case_number k v (length e)) x) ≡ Some i
    atom d (Int n) i q = q
    atom d (Text n) i q = q
    atom d (Param n) i q = q
    atom d (Fresh n) i q = q
    atom d (Col n c) i q = ap (λ o. column_kind p o c) (sym (at d n (eqb_tells n k))) ∙ q

-- ---- literals of cases

cmp-all : (op : Op) (a b : Atom) → lit_all any_atom no_id (oriented op a b) ≡ true
cmp-all Eq a b = go (atom_lt b a)
  where
    go : (t : Bool) → lit_all any_atom no_id (cond t (Cmp Eq b a) (Cmp Eq a b)) ≡ true
    go true = refl
    go false = refl
cmp-all Ne a b = go (atom_lt b a)
  where
    go : (t : Bool) → lit_all any_atom no_id (cond t (Cmp Ne b a) (Cmp Ne a b)) ≡ true
    go true = refl
    go false = refl
cmp-all Lt a b = refl
cmp-all Le a b = refl
cmp-all Gt a b = refl
cmp-all Ge a b = refl

join-all : (ts : List ℕ) (ms : List Joined) → list_all (lit_all any_atom no_id) (join_lits ts ms) ≡ true
join-all ts [] = refl
join-all ts (m ∷ ms) = and_from _ _ (cmp-all Eq (col_atom ts m.left) (col_atom ts m.right)) (join-all ts ms)

case-all : (ts : List ℕ) (cs : List Comparison) → list_all (lit_all any_atom no_id) (case_lits ts cs) ≡ true
case-all ts [] = refl
case-all ts (c ∷ cs) = and_from _ _ (cmp-all c.op (item_atom ts c.left) (item_atom ts c.right)) (case-all ts cs)

-- ---- bodies

pub case-oriented : (side : Side) (j : ℕ) (join : Join) (t v n : ℕ) (held : Bool) (cs : List Comparison) → lit_oriented (Any held (case_body side j join t v n cs)) ≡ true
case-oriented side j join t v n held cs =
    any_oriented held (case_body side j join t v n cs).vars (case_body side j join t v n cs).lits
    ∙ lits_with-oriented (renumbered (case_number (place (tables_of join) t) v n)) (case_number (place (tables_of join) t) v n) (join_lits (tables_of join) join.more ++ case_lits (tables_of join) cs)

pub unmet-oriented : (side : Side) (j : ℕ) (join : Join) (t v n : ℕ) (cases : List (List Comparison)) → list_all lit_oriented (unmet (case_body side j join t v n) cases) ≡ true
unmet-oriented side j join t v n [] = refl
unmet-oriented side j join t v n (c ∷ cs) = and_from _ _ (case-oriented side j join t v n false c) (unmet-oriented side j join t v n cs)

module _ (p : Sides) (side : Side) (j : ℕ) (stage : nat_lt j (last_stage p side + 1) ≡ true) (f : Function) (source : f.params ≡ p.source_fn.params) (target : f.params ≡ p.target_fn.params) (join : Join) (t : ℕ) (among : is_among t (tables_of join) ≡ true) (there : Each (λ x. has_table (schema_of p side) x ≡ true) (tables_of join)) (joins : Each (JoinFits (schema_of p side) (tables_of join)) join.more) (e : List Var) (v : ℕ) (own : slice_get e v ≡ Some (var_of side j t)) where
  -- a case's body
  pub case-fits : (held : Bool) (cs : List Comparison) → Each (CmpFits (schema_of p side) (tables_of join) f) cs → lit_fits p e (Any held (case_body side j join t v (length e) cs)) ≡ true
  case-fits held cs h =
      any_fits p e held (case_body side j join t v (length e) cs).vars (case_body side j join t v (length e) cs).lits
      ∙ ap₂ (λ x y. x && y) vars-fit lits-fit
    where
      front : List ℕ
      front = take (place (tables_of join) t) (tables_of join)

      back : List ℕ
      back = drop (place (tables_of join) t + 1) (tables_of join)

      parts : (tables_of join ≡ front ++ (t ∷ back)) × (length front ≡ place (tables_of join) t)
      parts = parts-at (tables_of join) (place (tables_of join) t) t (got-place (tables_of join) t among)

      vars-fit : list_all (var_fits p) (map (var_of side j) (front ++ back)) ≡ true
      vars-fit = vars-in-range p side j stage (front ++ back) (each-drop_middle (λ x. has_table (schema_of p side) x ≡ true) front t back (subst (Each (λ x. has_table (schema_of p side) x ≡ true)) parts.0 there))

      ls : List Lit
      ls = join_lits (tables_of join) join.more ++ case_lits (tables_of join) cs

      mapped-long : (xs : List ℕ) → length (map (var_of side j) xs) ≡ length xs
      mapped-long [] = refl
      mapped-long (x ∷ xs) = ap suc (mapped-long xs)

      fits : Fits p (map (var_of side j) (tables_of join)) (e ++ map (var_of side j) (front ++ back)) any_atom no_id (renumbered (case_number (place (tables_of join) t) v (length e))) (case_number (place (tables_of join) t) v (length e))
      fits =
          subst (λ sc. Fits p (map (var_of side j) (tables_of join)) (e ++ sc) any_atom no_id (renumbered (case_number (place (tables_of join) t) v (length e))) (case_number (place (tables_of join) t) v (length e))) (sym (map-append (var_of side j) front back))
          (subst (λ sc. Fits p sc (e ++ (map (var_of side j) front ++ map (var_of side j) back)) any_atom no_id (renumbered (case_number (place (tables_of join) t) v (length e))) (case_number (place (tables_of join) t) v (length e))) (sym (ap (map (var_of side j)) parts.0 ∙ map-append (var_of side j) front (t ∷ back)))
          (fits-case p (map (var_of side j) front) (map (var_of side j) back) e (var_of side j t) (place (tables_of join) t) v (mapped-long front ∙ parts.1) own))

      lits-fit : list_all (lit_fits p (e ++ map (var_of side j) (front ++ back))) (case_in join (place (tables_of join) t) v (length e) cs) ≡ true
      lits-fit =
          lits_with-fit p any_atom no_id _ _ (map (var_of side j) (tables_of join)) (e ++ map (var_of side j) (front ++ back)) fits ls
          (all-append (lit_all any_atom no_id) (join_lits (tables_of join) join.more) (case_lits (tables_of join) cs) (join-all (tables_of join) join.more) (case-all (tables_of join) cs))
          (all-append (lit_fits p (map (var_of side j) (tables_of join))) (join_lits (tables_of join) join.more) (case_lits (tables_of join) cs) (join-lits-fit p side j (tables_of join) join.more joins) (case-lits-fit p side j f source target (tables_of join) cs h))

  pub unmet-fit : (cases : List (List Comparison)) → Each (Each (CmpFits (schema_of p side) (tables_of join) f)) cases → list_all (lit_fits p e) (unmet (case_body side j join t v (length e)) cases) ≡ true
  unmet-fit [] h = refl
  unmet-fit (c ∷ cs) h = and_from _ _ (case-fits false c h.0) (unmet-fit cs h.1)
