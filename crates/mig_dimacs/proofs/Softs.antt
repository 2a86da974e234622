-- What soft clauses cost together, number by number and clause by clause.
use Rattle.std.proofs.Common.{◌≡◌, ℕ, ◌+◌, ◌<◌, ◌^◌, Bool, if◌then◌else◌, List, [], ◌∷◌, ◌++◌, Option, Some, None, refl, ap, arith}
use Rattle.std.proofs.lemmas.Bool.{eq-eqb, lt-ltb}
use Rattle.std.proofs.lemmas.List.Sums.{sum_by-append}
use Rattle.mig_dimacs.specs.declared.token.Number.{Number as Signed}
use Rattle.mig_dimacs.specs.Texts.{soft_weight, clause_weight, soft_sum}
use Rattle.mig_dimacs.specs.Reading.{limit, more_soft, next_soft}

-- one more number
pub weight_on : (top : Option ℕ) (c : List Signed) (n : Signed) → clause_weight top c + more_soft top c n ≡ clause_weight top (c ++ n ∷ [])
weight_on top [] n = omega arith
weight_on top (w ∷ ls) n = omega arith

-- what follows a number costs nothing
pub weight_front : (top : Option ℕ) (before : List Signed) (n : Signed) (more : List Signed) → clause_weight top (before ++ n ∷ more) ≡ clause_weight top (before ++ n ∷ [])
weight_front top [] n more = refl
weight_front top (w ∷ ls) n more = refl

-- one more clause
pub sum_on : (top : Option ℕ) (cs : List (List Signed)) (c : List Signed) → soft_sum top (cs ++ c ∷ []) ≡ soft_sum top cs + clause_weight top c
sum_on top cs c = let e = sum_by-append (clause_weight top) cs (c ∷ []) in omega (arith, e)

-- one clause and more
pub sum_next : (top : Option ℕ) (c : List Signed) (cs : List (List Signed)) → soft_sum top (c ∷ cs) ≡ clause_weight top c + soft_sum top cs
sum_next top c cs =
    let e : soft_sum top (c ∷ cs) ≡ (0 + clause_weight top c) + soft_sum top cs = sum_by-append (clause_weight top) (c ∷ []) cs in
    omega (arith, e)

-- what clauses without weights cost, and hard ones
pub hard_weight : (t : ℕ) (n : Signed) → n.size ≡ t → soft_weight (Some t) n ≡ 0
hard_weight t n e = ap (λ (b : Bool). if b then 0 else n.size) (eq-eqb n.size t e)

-- what soft clauses cost behind a number, where it is not too much
pub softer : (top : Option ℕ) (s : ℕ) (c : List Signed) (n : Signed) → s + more_soft top c n < 2 ^ 62 → next_soft top s c n ≡ Some (s + more_soft top c n)
softer top s c n lt = ap (λ (b : Bool). if b then Some (s + more_soft top c n) else None) (lt-ltb (s + more_soft top c n) limit lt)
