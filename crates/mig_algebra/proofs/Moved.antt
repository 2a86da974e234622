-- A host's own variables in any other order, all numbers renewed: the sum over its choices stays.
use Rattle.std.proofs.Common.{◌≡◌, ℕ, ◌+◌, ◌-◌, ◌<◌, ◌≤◌, Bool, true, false, cond, not, ◌&&◌, List, [], ◌∷◌, ◌++◌, map, length, refl, sym, ap, ap₂, ◌∙◌, arith, ⊎_elim, append_assoc}
use Rattle.std.specs.Prelude.{nat_lt}
use Rattle.std.specs.List.{list_all}
use Rattle.std.proofs.lemmas.Bool.{cases_lt, lt-ltb, le-ltb}
use Rattle.std.proofs.lemmas.List.{length-map, get_or_append_left, get_or-append_right, get_or-append-add}
use Rattle.mig_schema.specs.declared.values.Value.{Value}
use Rattle.mig_meaning.specs.declared.states.Placed.{Placed}
use Rattle.mig_meaning.specs.Lists.{place, has}
use Rattle.mig_meaning.specs.Rows.{no_row, value_at}
use Rattle.mig_algebra.specs.declared.atoms.Var.{Var}
use Rattle.mig_algebra.specs.declared.atoms.Atom.{Atom}
use Rattle.mig_algebra.specs.declared.atoms.Atom.TheVariants.{Int, Text, Param, Fresh, Col}
use Rattle.mig_algebra.specs.declared.literals.Lit.{Lit, Cmp, Other, Any', Row_of-Lit, end_of-Lit, more_of-Lit}
use Rattle.mig_algebra.specs.Meaning.{Setting, Env, value_of, row_at, lits_true, head_of}
use Rattle.mig_algebra.specs.Rename.{lit_with, lit_all, row_all, renumbered}
use Rattle.mig_algebra.specs.Tidied.{Slot, slots, numbers_of, vars_of}
use Rattle.mig_algebra.proofs.Sums.{when}
use Rattle.mig_algebra.proofs.Slots.{slots-apart, vars-slots, count-slots, has-slots, at-slots, at-place, place-in}
use Rattle.mig_algebra.proofs.SlotOrders.{Reorders, has-reordered, count-reordered}
use Rattle.mig_algebra.proofs.Reordered.{choices-reordered}
use Rattle.mig_algebra.proofs.Truth.{Reads, lits_with-true, head-reads}
use Rattle.mig_algebra.proofs.Without.{any_atom, all-any_atom}
use Rattle.mig_algebra.proofs.Weights.{weigh}
use Rattle.mig_algebra.proofs.Hosts.{host_sum}

-- every variable passes
abbrev pub any_id : ℕ → Bool
any_id v = true

mutual
  -- every literal passes tests that all pass
  pub all-lit : (l : Lit) → lit_all any_atom any_id l ≡ true
  all-lit (Cmp op a b) = refl
  all-lit (Other a b) = refl
  all-lit (Any' held vars n lits) = all-row lits

  pub all-row : {m : _} (lits : Row_of-Lit m) → row_all any_atom any_id lits ≡ true
  all-row end_of-Lit = refl
  all-row (more_of-Lit l rest) = ap₂ (λ a b. a && b) (all-lit l) (all-row rest)

-- a list of them passes
pub all-lits : (ls : List Lit) → list_all (lit_all any_atom any_id) ls ≡ true
all-lits [] = refl
all-lits (l ∷ ls) = ap₂ (λ a b. a && b) (all-lit l) (all-lits ls)

-- the number of a variable where those from n on stand in the order of the numbers ns; others keep theirs
abbrev pub moved : ℕ → List ℕ → ℕ → ℕ
moved n ns v = cond (has ns v) (n + place ns v) v

-- rows under other numbers read as before
pub reads-moved : (s : Setting) (e : Env) (vars : List Var) (qs : List Slot) (a : ℕ → Placed) → Reorders (slots (length e) vars) qs → Reads s (e ++ map a (numbers_of (slots (length e) vars))) (e ++ map a (numbers_of qs)) any_atom any_id (renumbered (moved (length e) (numbers_of qs))) (moved (length e) (numbers_of qs))
reads-moved s e vars qs a r = record {
  atoms = λ k x t. atom k x;
  ids = λ k v t. ap (λ (p : Placed). p.id) (row k v);
}
  where
    n : ℕ
    n = length e

    ns : List ℕ
    ns = numbers_of qs

    ms : List ℕ
    ms = numbers_of (slots (length e) vars)

    held : (v : ℕ) → has ns v ≡ (not (nat_lt v n) && nat_lt v (n + length vars))
    held v = has-reordered (slots n vars) qs r v ∙ has-slots n vars v

    count : length ns ≡ length vars
    count = count-reordered (slots n vars) qs r ∙ count-slots n vars

    at : (k : Env) (v w : ℕ) (b : Bool) → has ns v ≡ b → row_at (e ++ (map a ms ++ k)) v ≡ row_at (e ++ (map a ns ++ k)) (cond b (n + place ns v) v) → row_at ((e ++ map a ms) ++ k) v ≡ row_at ((e ++ map a ns) ++ k) (moved n ns v)
    at k v w b h eq =
        ap (λ l. row_at l v) (append_assoc e (map a ms) k) ∙ eq ∙ ap (λ t. row_at (e ++ (map a ns ++ k)) (cond t (n + place ns v) v)) (sym h)
        ∙ ap (λ l. row_at l (moved n ns v)) (sym (append_assoc e (map a ns) k))

    before : (k : Env) (v : ℕ) → v < n → row_at ((e ++ map a ms) ++ k) v ≡ row_at ((e ++ map a ns) ++ k) (moved n ns v)
    before k v l =
        at k v v false (held v ∙ ap (λ b. not b && nat_lt v (n + length vars)) (lt-ltb v n l))
        (get_or_append_left e (map a ms ++ k) no_row v l ∙ sym (get_or_append_left e (map a ns ++ k) no_row v l))

    inside : (k : Env) (v : ℕ) → n ≤ v → v < n + length vars → row_at ((e ++ map a ms) ++ k) v ≡ row_at ((e ++ map a ns) ++ k) (moved n ns v)
    inside k v l m =
        let h : has ns v ≡ true = held v ∙ ap₂ (λ b c. not b && c) (le-ltb v n l) (lt-ltb v (n + length vars) m) in
        let p = place-in ns v h in
        at k v v true h
        (get_or-append_right e (map a ms ++ k) n v no_row refl l
        ∙ get_or_append_left (map a ms) k no_row (v - n) (omega (arith, l, m, length-map ms a, count-slots n vars))
        ∙ at-slots a no_row n vars v l ∙ ap (λ b. cond b (a v) no_row) (sym (has-reordered (slots n vars) qs r v))
        ∙ sym (at-place a no_row ns v)
        ∙ sym (get_or_append_left (map a ns) k no_row (place ns v) (omega (arith, p, length-map ns a)))
        ∙ sym (get_or-append-add e (map a ns ++ k) (place ns v) no_row))

    behind : (k : Env) (v : ℕ) → n ≤ v → n + length vars ≤ v → row_at ((e ++ map a ms) ++ k) v ≡ row_at ((e ++ map a ns) ++ k) (moved n ns v)
    behind k v l m =
        at k v v false (held v ∙ ap₂ (λ b c. not b && c) (le-ltb v n l) (le-ltb v (n + length vars) m))
        (get_or-append_right e (map a ms ++ k) n v no_row refl l
        ∙ get_or-append_right (map a ms) k (length vars) (v - n) no_row (length-map ms a ∙ count-slots n vars) (omega (arith, l, m))
        ∙ sym (get_or-append_right (map a ns) k (length vars) (v - n) no_row (length-map ns a ∙ count) (omega (arith, l, m)))
        ∙ sym (get_or-append_right e (map a ns ++ k) n v no_row refl l))

    row : (k : Env) (v : ℕ) → row_at ((e ++ map a ms) ++ k) v ≡ row_at ((e ++ map a ns) ++ k) (moved n ns v)
    row k v = ⊎_elim (before k v) (λ l. ⊎_elim (inside k v l) (behind k v l) (cases_lt v (n + length vars))) (cases_lt v n)

    atom : (k : Env) (x : Atom) → value_of s ((e ++ map a ms) ++ k) x ≡ value_of s ((e ++ map a ns) ++ k) (renumbered (moved n ns) x)
    atom k (Int i) = refl
    atom k (Text t) = refl
    atom k (Param p) = refl
    atom k (Fresh m) = refl
    atom k (Col v c) = ap (λ (p : Placed). value_at p c) (row k v)

-- a host's variables in another order
pub host-reordered : (s : Setting) (e : Env) (k k' : Env → ℕ) (vars : List Var) (lits : List Lit) (qs : List Slot) → Reorders (slots (length e) vars) qs → ((a : ℕ → Placed) → k (e ++ map a (numbers_of (slots (length e) vars))) ≡ k' (e ++ map a (numbers_of qs))) → host_sum s e k vars lits ≡ host_sum s e k' (vars_of qs) (map (lit_with (renumbered (moved (length e) (numbers_of qs))) (moved (length e) (numbers_of qs))) lits)
host-reordered s e k k' vars lits qs r ks =
    ap (λ vs. host_sum s e k vs lits) (sym (vars-slots (length e) vars))
    ∙ choices-reordered s (λ c. when (lits_true s (e ++ c) lits) (k (e ++ c))) (λ c. when (lits_true s (e ++ c) (map (lit_with (renumbered (moved (length e) (numbers_of qs))) (moved (length e) (numbers_of qs))) lits)) (k' (e ++ c))) (slots (length e) vars) qs (slots-apart (length e) vars) r
    (λ a. ap₂ (λ b m. when b m) (lits_with-true s any_atom any_id _ _ _ _ (reads-moved s e vars qs a r) lits (all-lits lits)) (ks a))

-- a term's variables in another order
pub weigh-reordered : (s : Setting) (w : List Value → ℕ) (vars : List Var) (lits : List Lit) (head : List Atom) (qs : List Slot) → Reorders (slots 0 vars) qs → weigh s w vars lits head ≡ weigh s w (vars_of qs) (map (lit_with (renumbered (moved 0 (numbers_of qs))) (moved 0 (numbers_of qs))) lits) (map (renumbered (moved 0 (numbers_of qs))) head)
weigh-reordered s w vars lits head qs r =
    host-reordered s [] (λ c. w (head_of s head c)) (λ c. w (head_of s (map (renumbered (moved 0 (numbers_of qs))) head) c)) vars lits qs r
    (λ a. ap w (head-reads s any_atom any_id _ _ _ _ (reads-moved s [] vars qs a r) head (all-any_atom head)))
