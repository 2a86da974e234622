-- A literal whose variables stand in another order is true at a choice whose rows stand in that order.
use Rattle.std.proofs.Common.{◌≡◌, ℕ, not, ◌&&◌, List, [], ◌∷◌, ◌++◌, map, length, refl, sym, ap, ap₂, ◌∙◌}
use Rattle.std.specs.Prelude.{◌==◌}
use Rattle.mig_meaning.specs.declared.states.Placed.{Placed}
use Rattle.mig_meaning.specs.Lists.{total, bit, place}
use Rattle.mig_meaning.specs.Values.{compares}
use Rattle.mig_meaning.specs.Rows.{no_row, value_at}
use Rattle.mig_algebra.specs.declared.atoms.Var.{Var}
use Rattle.mig_algebra.specs.declared.atoms.Atom.{Atom}
use Rattle.mig_algebra.specs.declared.atoms.Atom.TheVariants.{Int, Text, Param, Fresh, Col}
use Rattle.mig_algebra.specs.declared.literals.Lit.{Lit, Cmp, Other, Any', Row_of-Lit, end_of-Lit, more_of-Lit}
use Rattle.mig_algebra.specs.Meaning.{Setting, Env, value_of, comes_out, choices, lit_true, row_true, lits_true}
use Rattle.mig_algebra.specs.Rename.{renumbered}
use Rattle.mig_algebra.specs.Tidied.{slot_order, slots, slots_in_order, numbers_of, vars_of, lit_arranged, row_arranged}
use Rattle.mig_algebra.proofs.Some.{any_by_totals}
use Rattle.mig_algebra.proofs.Slots.{slots-apart, vars-slots}
use Rattle.mig_algebra.proofs.SlotOrders.{reorders-sorted}
use Rattle.mig_algebra.proofs.Reordered.{choices-reordered}
use Rattle.mig_algebra.proofs.Arranged.{Numbers, Arranges, numbers-more, arranges-more}

-- an atom's value
pub renumbered-value : (s : Setting) (old : List ℕ) (e e' : Env) → Arranges no_row old e e' → (x : Atom) → value_of s e x ≡ value_of s e' (renumbered (place old) x)
renumbered-value s old e e' r (Int i) = refl
renumbered-value s old e e' r (Text t) = refl
renumbered-value s old e e' r (Param p) = refl
renumbered-value s old e e' r (Fresh n) = refl
renumbered-value s old e e' r (Col v c) = ap (λ (p : Placed). value_at p c) (r.at v)

-- the values of a head
pub renumbered-head : (s : Setting) (old : List ℕ) (e e' : Env) → Arranges no_row old e e' → (xs : List Atom) → map (value_of s e) xs ≡ map (value_of s e') (map (renumbered (place old)) xs)
renumbered-head s old e e' r [] = refl
renumbered-head s old e e' r (x ∷ xs) = ap₂ (λ y ys. y ∷ ys) (renumbered-value s old e e' r x) (renumbered-head s old e e' r xs)

-- the choices for further variables, and for these in order
pub choices-more : (s : Setting) (old : List ℕ) (vars : List Var) (f f' : Env → ℕ) → ((a : ℕ → Placed) → f (map a (numbers_of (slots (length old) vars))) ≡ f' (map a (numbers_of (slots_in_order (length old) vars)))) → total f (choices s vars) ≡ total f' (choices s (vars_of (slots_in_order (length old) vars)))
choices-more s old vars f f' same =
    ap (λ vs. total f (choices s vs)) (sym (vars-slots (length old) vars))
    ∙ choices-reordered s f f' (slots (length old) vars) (slots_in_order (length old) vars) (slots-apart (length old) vars) (reorders-sorted slot_order (slots (length old) vars)) same

module _ (s : Setting) where
  mutual
    -- a literal's truth
    pub arranged-true : (old : List ℕ) (e e' : Env) → Numbers old → Arranges no_row old e e' → (l : Lit) → lit_true s e l ≡ lit_true s e' (lit_arranged old l)
    arranged-true old e e' h r (Cmp op a b) = ap₂ (compares op) (renumbered-value s old e e' r a) (renumbered-value s old e e' r b)
    arranged-true old e e' h r (Other a b) = ap₂ (λ (p q : Placed). not (p.id == q.id)) (r.at a) (r.at b)
    arranged-true old e e' h r (Any' held vars n lits) =
        ap (comes_out held)
        (any_by_totals (λ c. row_true s (e ++ c) lits) (choices s vars) (λ c. row_true s (e' ++ c) (row_arranged (old ++ numbers_of (slots_in_order (length old) vars)) lits)) (choices s (vars_of (slots_in_order (length old) vars)))
        (choices-more s old vars (λ c. bit (row_true s (e ++ c) lits)) (λ c. bit (row_true s (e' ++ c) (row_arranged (old ++ numbers_of (slots_in_order (length old) vars)) lits)))
        (λ a. ap bit
        (arranged-row-true (old ++ numbers_of (slots_in_order (length old) vars)) (e ++ map a (numbers_of (slots (length old) vars))) (e' ++ map a (numbers_of (slots_in_order (length old) vars))) (numbers-more old vars h) (arranges-more no_row old vars a e e' h r) lits))))

    pub arranged-row-true : (old : List ℕ) (e e' : Env) → Numbers old → Arranges no_row old e e' → {m : _} (lits : Row_of-Lit m) → row_true s e lits ≡ row_true s e' (row_arranged old lits)
    arranged-row-true old e e' h r end_of-Lit = refl
    arranged-row-true old e e' h r (more_of-Lit l rest) = ap₂ (λ a b. a && b) (arranged-true old e e' h r l) (arranged-row-true old e e' h r rest)

  -- the truth of a list
  pub arranged-lits-true : (old : List ℕ) (e e' : Env) → Numbers old → Arranges no_row old e e' → (ls : List Lit) → lits_true s e ls ≡ lits_true s e' (map (lit_arranged old) ls)
  arranged-lits-true old e e' h r [] = refl
  arranged-lits-true old e e' h r (l ∷ ls) = ap₂ (λ a b. a && b) (arranged-true old e e' h r l) (arranged-lits-true old e e' h r ls)
