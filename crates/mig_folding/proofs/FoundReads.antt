-- Rows read at other numbers: those of variables outside a body in place of its own, and those of literals that stand further out.
use Rattle.std.proofs.Common.{◌≡◌, ℕ, ◌+◌, ◌-◌, ◌<◌, ◌≤◌, zero, suc, Bool, true, cond, List, [], ◌∷◌, ◌++◌, map, take, drop, length, Option, Some, None, refl, sym, ap, ap₂, ◌∙◌, arith, inl, ⊎_elim, append_assoc}
use Rattle.std.specs.Prelude.{nat_lt, slice_get, slice_index_or}
use Rattle.std.specs.Ordering.{is_eq}
use Rattle.std.specs.declared.cmp.Ordering.{Ordering}
use Rattle.std.specs.declared.cmp.Ordering.TheVariants.{Less, Equal, Greater}
use Rattle.std.proofs.lemmas.Bool.{and_parts, cases_lt, lt-ltb, le-ltb}
use Rattle.std.proofs.lemmas.List.{length-map, get_or-append_right, take-append-drop, length-take-le}
use Rattle.mig_meaning.specs.declared.states.Placed.{Placed}
use Rattle.mig_meaning.specs.Lists.{In}
use Rattle.mig_meaning.specs.Rows.{no_row, value_at}
use Rattle.mig_algebra.specs.declared.atoms.Atom.{Atom}
use Rattle.mig_algebra.specs.declared.atoms.Atom.TheVariants.{Int, Text, Param, Fresh, Col}
use Rattle.mig_algebra.specs.declared.atoms.Var.{Var}
use Rattle.mig_algebra.specs.Meaning.{Setting, Env, choices, value_of, row_at}
use Rattle.mig_algebra.specs.Orders.{var_order}
use Rattle.mig_algebra.specs.Rename.{renumbered}
use Rattle.mig_algebra.proofs.Members.{in-product}
use Rattle.mig_algebra.proofs.Moved.{any_id}
use Rattle.mig_algebra.proofs.OrderLaws.{var_tie}
use Rattle.mig_algebra.proofs.Truth.{Reads}
use Rattle.mig_algebra.proofs.Without.{any_atom, row-before}
use Rattle.mig_classes.proofs.FreshKeys.{choice-row}
use Rattle.mig_steps.proofs.Options.{get-within}
use Rattle.mig_folding.specs.Found.{is_alike, stand_first}
use Rattle.mig_folding.specs.Known.{put, further}

pub tied : (o : Ordering) → is_eq o ≡ true → o ≡ Equal
tied Less h = cc
tied Equal h = refl
tied Greater h = cc

pub alike-there : (v : Var) (o : Option Var) → is_alike v o ≡ true → o ≡ Some v
alike-there v None h = cc
alike-there v (Some w) h = ap Some (sym (var_tie v w (tied (var_order v w) h)))

-- rows read at other numbers
pub reads-rows : (s : Setting) (e e' : Env) (g : ℕ → ℕ) → ((d : Env) (v : ℕ) → row_at (e ++ d) v ≡ row_at (e' ++ d) (g v)) → Reads s e e' any_atom any_id (renumbered g) g
reads-rows s e e' g row = record { atoms = λ d x t. atom d x; ids = λ d v t. ap (λ (r : Placed). r.id) (row d v) }
  where
    atom : (d : Env) (x : Atom) → value_of s (e ++ d) x ≡ value_of s (e' ++ d) (renumbered g x)
    atom d (Int i) = refl
    atom d (Text t) = refl
    atom d (Param n) = refl
    atom d (Fresh n) = refl
    atom d (Col v c) = ap (λ (r : Placed). value_at r c) (row d v)

row-behind : (e d : Env) (n v : ℕ) → length e ≡ n → n ≤ v → row_at (e ++ d) v ≡ row_at d (v - n)
row-behind e d n v h l = get_or-append_right e d n v no_row h l

map-at : (e : Env) (names : List ℕ) (i : ℕ) → i < length names → slice_index_or (map (row_at e) names) i no_row ≡ row_at e (slice_index_or names i 0)
map-at e [] i l = absurd (omega (arith, l))
map-at e (x ∷ xs) zero l = refl
map-at e (x ∷ xs) (suc i) l = map-at e xs i (omega (arith, l))

pub name-below : (scope : List Var) (names : List ℕ) (vars : List Var) (i : ℕ) → stand_first scope names vars ≡ true → i < length names → slice_index_or names i 0 < length scope
name-below scope [] vars i h l = absurd (omega (arith, l))
name-below scope (x ∷ xs) [] i h l = cc
name-below scope (x ∷ xs) (v ∷ vs) zero h l = get-within scope x v (alike-there v (slice_get scope x) (and_parts (is_alike v (slice_get scope x)) (stand_first scope xs vs) h).0)
name-below scope (x ∷ xs) (v ∷ vs) (suc i) h l = name-below scope xs vs i (and_parts (is_alike v (slice_get scope x)) (stand_first scope xs vs) h).1 (omega (arith, l))

-- their rows are a choice for the body's variables
pub rows-choice : (s : Setting) (scope : List Var) (e : Env) → In e (choices s scope) → (names : List ℕ) (vars : List Var) → length names ≡ length vars → stand_first scope names vars ≡ true → In (map (row_at e) names) (choices s vars)
rows-choice s scope e i [] [] n h = inl refl
rows-choice s scope e i [] (v ∷ vs) n h = absurd (omega (arith, n))
rows-choice s scope e i (x ∷ xs) [] n h = cc
rows-choice s scope e i (x ∷ xs) (v ∷ vs) n h =
    let k = and_parts (is_alike v (slice_get scope x)) (stand_first scope xs vs) h in
    in-product (row_at e x) (map (row_at e) xs) (s.rows v) (map s.rows vs) (choice-row s scope e x v i (alike-there v (slice_get scope x) k.0)) (rows-choice s scope e i xs vs (omega (arith, n)) k.1)

module _ (e : Env) (scope : List Var) (names : List ℕ) (vars : List Var) (long : length e ≡ length scope) (stand : stand_first scope names vars ≡ true) where
  abbrev At : (before own : Bool) → Env → ℕ → Type 0
  At before own d v = row_at (e ++ (map (row_at e) names ++ d)) v ≡ row_at (e ++ d) (cond before v (cond own (slice_index_or names (v - length scope) 0) (v - length names)))

  pub row-put : (d : Env) (v : ℕ) → row_at ((e ++ map (row_at e) names) ++ d) v ≡ row_at (e ++ d) (put (length scope) names v)
  row-put d v = ap (λ l. row_at l v) (append_assoc e (map (row_at e) names) d) ∙ ⊎_elim before (λ l. ⊎_elim (own l) (behind l) (cases_lt (v - length scope) (length names))) (cases_lt v (length scope))
    where
      before : v < length scope → At (nat_lt v (length scope)) (nat_lt (v - length scope) (length names)) d v
      before l =
          row-before e (map (row_at e) names ++ d) v (omega (arith, l, long)) ∙ sym (row-before e d v (omega (arith, l, long)))
          ∙ ap (λ b. row_at (e ++ d) (cond b v (cond (nat_lt (v - length scope) (length names)) (slice_index_or names (v - length scope) 0) (v - length names)))) (sym (lt-ltb v (length scope) l))

      own : length scope ≤ v → v - length scope < length names → At (nat_lt v (length scope)) (nat_lt (v - length scope) (length names)) d v
      own l small =
          row-behind e (map (row_at e) names ++ d) (length scope) v long l
          ∙ row-before (map (row_at e) names) d (v - length scope) (omega (arith, small, length-map names (row_at e)))
          ∙ map-at e names (v - length scope) small
          ∙ sym (row-before e d (slice_index_or names (v - length scope) 0) (omega (arith, long, name-below scope names vars (v - length scope) stand small)))
          ∙ ap₂ (λ a b. row_at (e ++ d) (cond a v (cond b (slice_index_or names (v - length scope) 0) (v - length names)))) (sym (le-ltb v (length scope) l)) (sym (lt-ltb (v - length scope) (length names) small))

      behind : length scope ≤ v → length names ≤ v - length scope → At (nat_lt v (length scope)) (nat_lt (v - length scope) (length names)) d v
      behind l m =
          let deep : v - length scope - length names ≡ v - length names - length scope = omega (arith, l, m) in
          row-behind e (map (row_at e) names ++ d) (length scope) v long l
          ∙ row-behind (map (row_at e) names) d (length names) (v - length scope) (length-map names (row_at e)) m
          ∙ ap (row_at d) deep
          ∙ sym (row-behind e d (length scope) (v - length names) long (omega (arith, l, m)))
          ∙ ap₂ (λ a b. row_at (e ++ d) (cond a v (cond b (slice_index_or names (v - length scope) 0) (v - length names)))) (sym (le-ltb v (length scope) l)) (sym (le-ltb (v - length scope) (length names) m))

-- ---- literals that stand further out

pub row-further : (e : Env) (k n : ℕ) → length e ≡ n → k ≤ n → (d : Env) (v : ℕ) → row_at (take k e ++ d) v ≡ row_at (e ++ d) (further k n v)
row-further e k n long le d v = ⊎_elim before behind (cases_lt v k)
  where
    count : length (take k e) ≡ k
    count = length-take-le k e (omega (arith, long, le))

    before : v < k → row_at (take k e ++ d) v ≡ row_at (e ++ d) (further k n v)
    before l =
        row-before (take k e) d v (omega (arith, l, count))
        ∙ sym (row-before (take k e) (drop k e) v (omega (arith, l, count)))
        ∙ ap (λ f. row_at f v) (take-append-drop k e)
        ∙ sym (row-before e d v (omega (arith, l, long, le)))
        ∙ ap (λ b. row_at (e ++ d) (cond b v (v + (n - k)))) (sym (lt-ltb v k l))

    behind : k ≤ v → row_at (take k e ++ d) v ≡ row_at (e ++ d) (further k n v)
    behind l =
        let deep : v - k ≡ v + (n - k) - n = omega (arith, l, le) in
        row-behind (take k e) d k v count l ∙ ap (row_at d) deep
        ∙ sym (row-behind e d n (v + (n - k)) long (omega (arith, l, le)))
        ∙ ap (λ b. row_at (e ++ d) (cond b v (v + (n - k)))) (sym (le-ltb v k l))
