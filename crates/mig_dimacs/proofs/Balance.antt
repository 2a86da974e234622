-- What an assignment weighs, and what it costs.
use Rattle.std.proofs.Common.{◌≡◌, ℕ, zero, suc, ◌+◌, ◌<◌, ◌≤◌, ◌^◌, ◌+ℤ◌, neg_ℤ, ℤ, pos, Bool, true, false, not, if◌then◌else◌, List, [], ◌∷◌, length, take, get_or, set, replicate, refl, sym, ap, ◌∙◌, subst, arith, w64}
use Rattle.std.specs.Int.RustNames.{unsigned_abs, FitsSigned}
use Rattle.std.proofs.lemmas.Int.{ints}
use Rattle.std.proofs.lemmas.List.{length-set, length-replicate}
use Rattle.std.proofs.lemmas.List.Sums.{sum_by_more, sum_by_more_le, sum_by_more_le_part}
use Rattle.mig_sat.specs.declared.clauses.Cnf.{Cnf}
use Rattle.mig_sat.specs.Models.{value_of}
use Rattle.mig_maxsat.specs.Heaviest.{weight, magnitude, IsSound, IsHeaviest}
use Rattle.mig_maxsat.proofs.Absolute.{abs_sum, abs_le}
use Rattle.mig_maxsat.proofs.Weights.{magnitude_at, fits_small}
use Rattle.mig_dimacs.specs.declared.soft.SoftLit.{SoftLit}
use Rattle.mig_dimacs.specs.declared.soft.Wcnf.{Wcnf}
use Rattle.mig_dimacs.specs.Costs.{holds, cost_of, cost, total, IsSoundWcnf, IsCheapest}
use Rattle.mig_dimacs.specs.Gains.{gain, weighed, IsBalanced}

-- ---- one weight more

magnitude_added : (ws : List ℤ) (v : ℕ) (g : ℤ) → v < length ws → magnitude (set ws v (get_or ws v (pos 0) +ℤ g)) ≤ magnitude ws + unsigned_abs g
magnitude_added [] v g lt = absurd (omega (arith, lt))
magnitude_added (w ∷ ws) zero g lt = let h = abs_sum w g (unsigned_abs w) (unsigned_abs g) (omega arith) (omega arith) in omega (arith, h)
magnitude_added (w ∷ ws) (suc v) g lt = let h = magnitude_added ws v g (omega (arith, lt)) in omega (arith, h)

weight_added : (ws : List ℤ) (m : List Bool) (v : ℕ) (g : ℤ) → v < length ws → weight (set ws v (get_or ws v (pos 0) +ℤ g)) m ≡ weight ws m +ℤ (if value_of m v then g else pos 0)
weight_added [] m v g lt = absurd (omega (arith, lt))
weight_added (w ∷ ws) [] zero g lt = refl
weight_added (w ∷ ws) [] (suc v) g lt = refl
weight_added (w ∷ ws) (true ∷ m) zero g lt = omega (arith, ints)
weight_added (w ∷ ws) (false ∷ m) zero g lt = omega (arith, ints)
weight_added (w ∷ ws) (b ∷ m) (suc v) g lt = let h = weight_added ws m v g (omega (arith, lt)) in omega (arith, ints, h)

sized_gain : (positive : Bool) (k : ℕ) → unsigned_abs (if positive then pos k else neg_ℤ (pos k)) ≤ k
sized_gain true k = abs_le (pos k) k (omega (arith, ints)) (omega (arith, ints))
sized_gain false k = abs_le (neg_ℤ (pos k)) k (omega (arith, ints)) (omega (arith, ints))

-- a literal weighs no more than its weight
pub gain_size : (s : SoftLit) → unsigned_abs (gain s) ≤ s.weight
gain_size s = sized_gain s.lit.positive s.weight

-- a weight with a gain more fits
pub gained_fits : (ws : List ℤ) (s : SoftLit) (g : ℤ) → g ≡ gain s → s.lit.var < length ws → magnitude ws + s.weight < 2 ^ 62 → FitsSigned w64 (get_or ws s.lit.var (pos 0) +ℤ g)
gained_fits ws s g is lt fits =
    let here = magnitude_at ws s.lit.var (pos 0) lt in
    let size : unsigned_abs g ≤ s.weight = subst (λ (x : ℤ). unsigned_abs x ≤ s.weight) (sym is) (gain_size s) in
    let sum = abs_sum (get_or ws s.lit.var (pos 0)) g (magnitude ws) s.weight here size in
    fits_small (get_or ws s.lit.var (pos 0) +ℤ g) (omega (arith, sum, fits))

-- ---- costs so far

cost_if : (held : Bool) (k : ℕ) → (if held then 0 else k) ≤ k
cost_if true k = omega arith
cost_if false k = omega arith

-- what some literals and one more cost is no more than what all weigh
pub cost_within : (soft : List SoftLit) (m : List Bool) (i : ℕ) (d : SoftLit) → i < length soft → cost (take i soft) m + cost_of m (get_or soft i d) ≤ total soft
cost_within soft m i d lt =
    let most = sum_by_more_le_part (cost_of m) (λ (s : SoftLit). s.weight) soft i d lt (λ s. cost_if (holds m s.lit) s.weight) in
    let here : cost_of m (get_or soft i d) ≤ (get_or soft i d).weight = cost_if (holds m (get_or soft i d).lit) (get_or soft i d).weight in
    omega (arith, most, here)

-- what some literals weigh and one more is no more than what all weigh
pub total_within : (soft : List SoftLit) (i : ℕ) (d : SoftLit) → i < length soft → total (take i soft) + (get_or soft i d).weight ≤ total soft
total_within soft i d lt = sum_by_more_le (λ (s : SoftLit). s.weight) soft i d lt

-- ---- weight and cost together

all_false : (v : ℕ) → value_of [] v ≡ false
all_false zero = refl
all_false (suc v) = refl

-- one more literal, positive or not, of a variable with the value v, or false
even_on : (positive v u : Bool) (k c e : ℕ) (a : ℤ) → u ≡ false → (a +ℤ pos c) ≡ pos e
    → ((a +ℤ (if v then (if positive then pos k else neg_ℤ (pos k)) else pos 0)) +ℤ pos (c + (if (if positive then v else not v) then 0 else k))) ≡ pos (e + (if (if positive then u else not u) then 0 else k))
even_on positive v true k c e a z h = cc
even_on true true false k c e a z h = omega (arith, ints, h)
even_on true false false k c e a z h = omega (arith, ints, h)
even_on false true false k c e a z h = omega (arith, ints, h)
even_on false false false k c e a z h = omega (arith, ints, h)

-- one more literal
pub balanced_on : (vars : ℕ) (soft : List SoftLit) (i : ℕ) (d : SoftLit) (ws : List ℤ) → IsBalanced vars (take i soft) ws → i < length soft → (get_or soft i d).lit.var < vars → IsBalanced vars (take (i + 1) soft) (weighed ws (get_or soft i d))
balanced_on vars soft i d ws b lt range =
    let within : (get_or soft i d).lit.var < length ws = let e = b.sized in omega (arith, e, range) in
    record {
      sized = length-set ws (get_or soft i d).lit.var (get_or ws (get_or soft i d).lit.var (pos 0) +ℤ gain (get_or soft i d)) ∙ b.sized;
      small = let h = magnitude_added ws (get_or soft i d).lit.var (gain (get_or soft i d)) within in
          let g = gain_size (get_or soft i d) in
          let was = b.small in
          let more = sum_by_more (λ (s : SoftLit). s.weight) soft i d lt in
          omega (arith, h, g, was, more);
      same = λ m.
          ap (λ (x : ℤ). x +ℤ pos (cost (take (i + 1) soft) m)) (weight_added ws m (get_or soft i d).lit.var (gain (get_or soft i d)) within)
          ∙ ap (λ (x : ℕ). (weight ws m +ℤ (if value_of m (get_or soft i d).lit.var then gain (get_or soft i d) else pos 0)) +ℤ pos x) (sum_by_more (cost_of m) soft i d lt)
          ∙ even_on (get_or soft i d).lit.positive (value_of m (get_or soft i d).lit.var) (value_of [] (get_or soft i d).lit.var) (get_or soft i d).weight (cost (take i soft) m) (cost (take i soft) []) (weight ws m) (all_false (get_or soft i d).lit.var) (b.same m)
          ∙ ap pos (sym (sum_by_more (cost_of []) soft i d lt));
    }

-- ---- no literal

weight_zeros : (n : ℕ) (m : List Bool) → weight (replicate n (pos 0)) m ≡ pos 0
weight_zeros zero m = refl
weight_zeros (suc n) [] = refl
weight_zeros (suc n) (true ∷ m) = let h = weight_zeros n m in omega (arith, ints, h)
weight_zeros (suc n) (false ∷ m) = let h = weight_zeros n m in omega (arith, ints, h)

magnitude_zeros : (n : ℕ) → magnitude (replicate n (pos 0)) ≡ 0
magnitude_zeros zero = refl
magnitude_zeros (suc n) = let h = magnitude_zeros n in omega (arith, h)

pub balanced_none : (vars : ℕ) → IsBalanced vars [] (replicate vars (pos 0))
balanced_none vars = record {
  sized = length-replicate vars (pos 0);
  small = let h = magnitude_zeros vars in omega (arith, h);
  same = λ m. let h = weight_zeros vars m in omega (arith, ints, h);
}

-- ---- heaviest and cheapest

pub sound_weights : (p : Wcnf) (hard : Cnf) (ws : List ℤ) → IsSoundWcnf p → hard ≡ p.hard → IsBalanced p.hard.vars p.soft ws → IsSound (record { hard = hard; weights = ws })
sound_weights p hard ws is same b = rw same (record { range = is.range; sized = b.sized; fits = let small = b.small in let fits = is.fits in omega (arith, small, fits) })

pub cheapest_from : (p : Wcnf) (hard : Cnf) (ws : List ℤ) (m : List Bool) → hard ≡ p.hard → IsBalanced p.hard.vars p.soft ws → IsHeaviest (record { hard = hard; weights = ws }) m → IsCheapest p m
cheapest_from p hard ws m same b h = cheapest_that p ws m b (subst (λ (f : Cnf). IsHeaviest (record { hard = f; weights = ws }) m) same h)
  where
    cheapest_that : (p : Wcnf) (ws : List ℤ) (m : List Bool) → IsBalanced p.hard.vars p.soft ws → IsHeaviest (record { hard = p.hard; weights = ws }) m → IsCheapest p m
    cheapest_that p ws m b h = record {
      model = h.model;
      cheapest = λ o is. let le = h.heaviest o is in let here = b.same m in let there = b.same o in omega (arith, ints, le, here, there);
      first = λ o is e before. let here = b.same m in let there = b.same o in h.first o is (omega (arith, ints, e, here, there)) before;
    }
