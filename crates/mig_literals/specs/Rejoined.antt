-- Two terms that differ in one literal and its complement become one without it. The arguments: the later term's number, and the literal's.
use Rattle.std.specs.Prelude.{ℕ, ◌+◌, ◌-◌, nat_lt, Bool, true, false, cond, not, ◌&&◌, List, [], ◌∷◌, ◌++◌, map, filter, take, drop, slice_get, Option, Some, None}
use Rattle.std.specs.Option.{option_and_then}
use Rattle.std.specs.Ordering.{is_eq}
use Rattle.mig_algebra.specs.declared.literals.Lit.{Lit}
use Rattle.mig_algebra.specs.declared.terms.Term.{Term}
use Rattle.mig_algebra.specs.Orders.{lit_order, term_order}
use Rattle.mig_classes.specs.Given.{has_complement, complement}
use Rattle.mig_replacing.specs.Places.{others}
use Rattle.mig_replacing.specs.Replaced.{with_lits}

-- a term with the complement in place of its literal x of number l
abbrev pub opposite : ℕ → Lit → Term → Term
opposite l x t = with_lits t (take l t.lits ++ (complement x ∷ drop (l + 1) t.lits))

-- whether a later term is a term with the complement in place of its literal x of number l, which has one
abbrev pub is_opposite : ℕ → Term → Term → Lit → Bool
is_opposite l t v x = has_complement x && is_eq (term_order v (opposite l x t))

-- the term without literal l, and those behind it without the one of number k of them
abbrev pub joined : (l k : ℕ) → Term → List Term → List Term
joined l k t later = with_lits t (others t.lits l) ∷ (take k later ++ drop (k + 1) later)

-- where literal x of the term has its complement in the later term v
abbrev pub joined_by : (l k : ℕ) → Term → List Term → Term → Lit → Option (List Term)
joined_by l k t later v x = cond (is_opposite l t v x) (Some (joined l k t later)) None

-- where the later term has number k of those behind
abbrev pub joined_with : (l k : ℕ) → Term → List Term → Option (List Term)
joined_with l k t later = option_and_then (λ v. option_and_then (joined_by l k t later v) (slice_get t.lits l)) (slice_get later k)

-- the rule, at the term of number n
abbrev pub rejoined : (n : ℕ) → List ℕ → Term → (later : List Term) → Option (List Term)
rejoined n (u ∷ (l ∷ [])) t later = cond (nat_lt n u) (joined_with l (u - (n + 1)) t later) None
rejoined n args t later = None

-- ---- what is tried

-- whether a literal differs from another, if there is one
abbrev pub other_than : Lit → Option Lit → Bool
other_than l None = false
other_than l (Some m) = not (is_eq (lit_order l m))

-- whether a list has no items
abbrev pub is_empty : List ℕ → Bool
is_empty [] = true
is_empty (x ∷ xs) = false

-- the number of the first literal in which two lists differ, counted from i on; at most one
abbrev pub first_difference : (i : ℕ) → (ls ms : List Lit) → List ℕ
first_difference i [] ms = []
first_difference i (l ∷ ls) [] = []
first_difference i (l ∷ ls) (m ∷ ms) = cond (is_eq (lit_order l m)) (first_difference (i + 1) ls ms) (i ∷ [])

-- a number that is there, as a list
abbrev pub as_list : Option ℕ → List ℕ
as_list None = []
as_list (Some i) = i ∷ []

-- whether a literal differs from that of a number in a list, if there is one
abbrev pub differs_at : Lit → List Lit → ℕ → Bool
differs_at l ms i = other_than l (slice_get ms i)

-- whether two lists are alike behind their items of number l
abbrev pub ends_alike : ℕ → (ls ms : List Lit) → Bool
ends_alike l ls ms = is_empty (first_difference 0 (drop (l + 1) ls) (drop (l + 1) ms))

-- the literals by which a term may be joined with a later one: at most one, where they first differ
abbrev pub joints : Term → Term → List ℕ
joints t v = filter (λ l. ends_alike l t.lits v.lits) (first_difference 0 t.lits v.lits)

-- the later terms, of which the first has number u, each with such a literal
abbrev pub later_joints : Term → (u : ℕ) → List Term → List (List ℕ)
later_joints t u [] = []
later_joints t u (v ∷ vs) = map (λ l. u ∷ (l ∷ [])) (joints t v) ++ later_joints t (u + 1) vs

abbrev pub rejoin_args : (n : ℕ) → (path : List ℕ) → Term → (later : List Term) → List (List ℕ)
rejoin_args n path t later = later_joints t (n + 1) later
