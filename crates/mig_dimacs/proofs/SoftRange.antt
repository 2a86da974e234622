-- The clauses and literals of a text with weights are in range, and the soft ones weigh what the text says.
use Rattle.std.proofs.Common.{◌≡◌, ℕ, ◌+◌, ◌<◌, ◌≤◌, ◌^◌, Bool, true, false, if◌then◌else◌, ◌==◌, List, [], ◌∷◌, Option, Some, None, is_some, All, arith}
use Rattle.std.specs.List.{list_all, flat_map}
use Rattle.std.proofs.lemmas.List.Elements.{All-nil, All-cons, All-append}
use Rattle.std.proofs.lemmas.List.Sums.{sum_by-append}
use Rattle.mig_sat.specs.declared.clauses.SatLit.{SatLit}
use Rattle.mig_dimacs.specs.declared.token.Number.{Number as Signed}
use Rattle.mig_dimacs.specs.declared.text.Text.{Text}
use Rattle.mig_dimacs.specs.declared.soft.SoftLit.{SoftLit}
use Rattle.mig_dimacs.specs.Costs.{total, IsSoundWcnf}
use Rattle.mig_dimacs.specs.Formulas.{lit_of, lits_of}
use Rattle.mig_dimacs.specs.Softs.{top_of, hard_part, soft_lit, soft_part, wcnf_of}
use Rattle.mig_dimacs.specs.Texts.{is_lit, is_weight, is_clause_of, clause_weight, soft_sum, IsWhole}
use Rattle.mig_dimacs.proofs.InRange.{below, all_below}
use Rattle.mig_dimacs.proofs.Running.{left_true, right_true}
use Rattle.mig_dimacs.proofs.Softs.{sum_next}

-- the literals of a clause with a weight
lits_behind : (t vars : ℕ) (w : Signed) (ls : List Signed) → is_clause_of (Some t) vars (w ∷ ls) ≡ true → list_all (is_lit vars) ls ≡ true
lits_behind t vars w ls h = left_true (list_all (is_lit vars) ls) _ (right_true (is_weight t w) _ h)

hard_if : (hard : Bool) (vars : ℕ) (ls : List Signed) → list_all (is_lit vars) ls ≡ true → All (All (λ (l : SatLit). l.var < vars)) (if hard then lits_of ls ∷ [] else [])
hard_if true vars ls h = All-cons (All (λ (l : SatLit). l.var < vars)) (lits_of ls) [] (all_below vars ls h) (All-nil (All (λ (l : SatLit). l.var < vars)))
hard_if false vars ls h = All-nil (All (λ (l : SatLit). l.var < vars))

hard_below : (t vars : ℕ) (cs : List (List Signed)) → list_all (is_clause_of (Some t) vars) cs ≡ true → All (All (λ (l : SatLit). l.var < vars)) (flat_map (hard_part t) cs)
hard_below t vars [] h = All-nil (All (λ (l : SatLit). l.var < vars))
hard_below t vars ([] ∷ cs) h = cc
hard_below t vars ((w ∷ ls) ∷ cs) h =
    All-append (All (λ (l : SatLit). l.var < vars)) (hard_part t (w ∷ ls)) (flat_map (hard_part t) cs)
    (hard_if (w.size == t) vars ls (lits_behind t vars w ls (left_true (is_clause_of (Some t) vars (w ∷ ls)) _ h)))
    (hard_below t vars cs (right_true (is_clause_of (Some t) vars (w ∷ ls)) _ h))

lit_below : (k vars : ℕ) (ls : List Signed) → list_all (is_lit vars) ls ≡ true → All (λ (s : SoftLit). s.lit.var < vars) (soft_lit k ls)
lit_below k vars [] h = All-nil (λ (s : SoftLit). s.lit.var < vars)
lit_below k vars (l ∷ []) h = All-cons (λ (s : SoftLit). s.lit.var < vars) (record { lit = lit_of l; weight = k }) [] (below vars l (left_true (is_lit vars l) _ h)) (All-nil (λ (s : SoftLit). s.lit.var < vars))
lit_below k vars (l ∷ m ∷ ms) h = All-nil (λ (s : SoftLit). s.lit.var < vars)

soft_if : (hard : Bool) (k vars : ℕ) (ls : List Signed) → list_all (is_lit vars) ls ≡ true → All (λ (s : SoftLit). s.lit.var < vars) (if hard then [] else soft_lit k ls)
soft_if true k vars ls h = All-nil (λ (s : SoftLit). s.lit.var < vars)
soft_if false k vars ls h = lit_below k vars ls h

soft_below : (t vars : ℕ) (cs : List (List Signed)) → list_all (is_clause_of (Some t) vars) cs ≡ true → All (λ (s : SoftLit). s.lit.var < vars) (flat_map (soft_part t) cs)
soft_below t vars [] h = All-nil (λ (s : SoftLit). s.lit.var < vars)
soft_below t vars ([] ∷ cs) h = cc
soft_below t vars ((w ∷ ls) ∷ cs) h =
    All-append (λ (s : SoftLit). s.lit.var < vars) (soft_part t (w ∷ ls)) (flat_map (soft_part t) cs)
    (soft_if (w.size == t) w.size vars ls (lits_behind t vars w ls (left_true (is_clause_of (Some t) vars (w ∷ ls)) _ h)))
    (soft_below t vars cs (right_true (is_clause_of (Some t) vars (w ∷ ls)) _ h))

lit_total : (k : ℕ) (ls : List Signed) → total (soft_lit k ls) ≤ k
lit_total k [] = omega arith
lit_total k (l ∷ []) = omega arith
lit_total k (l ∷ m ∷ ms) = omega arith

if_total : (hard : Bool) (k : ℕ) (ls : List Signed) → total (if hard then [] else soft_lit k ls) ≤ (if hard then 0 else k)
if_total true k ls = omega arith
if_total false k ls = lit_total k ls

part_total : (t : ℕ) (c : List Signed) → total (soft_part t c) ≤ clause_weight (Some t) c
part_total t [] = omega arith
part_total t (w ∷ ls) = if_total (w.size == t) w.size ls

soft_total : (t : ℕ) (cs : List (List Signed)) → total (flat_map (soft_part t) cs) ≤ soft_sum (Some t) cs
soft_total t [] = omega arith
soft_total t (c ∷ cs) =
    let here = part_total t c in
    let rest = soft_total t cs in
    let all : total (flat_map (soft_part t) (c ∷ cs)) ≡ total (soft_part t c) + total (flat_map (soft_part t) cs) = sum_by-append (λ (s : SoftLit). s.weight) (soft_part t c) (flat_map (soft_part t) cs) in
    let next = sum_next (Some t) c cs in
    omega (arith, here, rest, all, next)

sound_of : (top : Option ℕ) (vars : ℕ) (cs : List (List Signed)) → is_some top ≡ true → list_all (is_clause_of top vars) cs ≡ true → soft_sum top cs < 2 ^ 62
    → IsSoundWcnf (record { hard = record { vars = vars; clauses = flat_map (hard_part (top_of top)) cs }; soft = flat_map (soft_part (top_of top)) cs })
sound_of None vars cs is h light = cc
sound_of (Some t) vars cs is h light = record {
  range = hard_below t vars cs h;
  soft = soft_below t vars cs h;
  fits = let sum = soft_total t cs in omega (arith, sum, light);
}

pub wcnf_sound : (t : Text) → IsWhole true t → IsSoundWcnf (wcnf_of t)
wcnf_sound t is = sound_of t.head.top t.head.vars t.clauses is.kind is.clauses is.soft
