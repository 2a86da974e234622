-- Variables under numbers, in any order: each number stands once, and the row of a number is found at its place.
use Rattle.std.proofs.Common.{◌≡◌, ◌≢◌, ℕ, suc, ◌+◌, ◌-◌, ◌<◌, ◌≤◌, Bool, true, false, cond, not, ◌&&◌, ◌||◌, List, [], ◌∷◌, ◌++◌, map, length, refl, sym, ap, ◌∙◌, arith, inl, inr, ◌⊎◌}
use Rattle.std.specs.Prelude.{◌==◌, nat_lt, slice_index_or}
use Rattle.std.proofs.lemmas.Bool.Decides.{eqb_tells, nat_tests}
use Rattle.mig_meaning.specs.Lists.{place, has, Each}
use Rattle.mig_meaning.proofs.Within.{each-weaker}
use Rattle.mig_algebra.specs.declared.atoms.Var.{Var}
use Rattle.mig_algebra.specs.Tidied.{Slot, slots, numbers_of, vars_of}

-- each number stands once
abbrev pub Apart : List Slot → Type 0
Apart [] = Unit {0}
Apart (p ∷ ps) = Each (λ (q : Slot). q.number ≢ p.number) ps × Apart ps

-- the variables of slots are the variables
pub vars-slots : (n : ℕ) (vars : List Var) → vars_of (slots n vars) ≡ vars
vars-slots n [] = refl
vars-slots n (v ∷ vs) = ap (λ l. v ∷ l) (vars-slots (n + 1) vs)

-- as many numbers as variables
pub count-slots : (n : ℕ) (vars : List Var) → length (numbers_of (slots n vars)) ≡ length vars
count-slots n [] = refl
count-slots n (v ∷ vs) = ap suc (count-slots (n + 1) vs)

slots-from : (k n : ℕ) (vars : List Var) → k ≤ n → Each (λ (q : Slot). k ≤ q.number) (slots n vars)
slots-from k n [] h = tt
slots-from k n (v ∷ vs) h = (h, slots-from k (n + 1) vs (omega (arith, h)))

-- the numbers of variables that are numbered in turn
pub slots-apart : (n : ℕ) (vars : List Var) → Apart (slots n vars)
slots-apart n [] = tt
slots-apart n (v ∷ vs) =
    (each-weaker (λ (q : Slot). n + 1 ≤ q.number) (λ (q : Slot). q.number ≢ n) (λ q h e. absurd (omega (arith, h, e))) (slots (n + 1) vs) (slots-from (n + 1) (n + 1) vs (omega arith)), slots-apart (n + 1) vs)

-- ---- places

-- what stands at the place of a number
pub at-place : {X : Type 0} (a : ℕ → X) (d : X) (ns : List ℕ) (v : ℕ) → slice_index_or (map a ns) (place ns v) d ≡ cond (has ns v) (a v) d
at-place a d [] v = refl
at-place a d (u ∷ us) v = go (eqb_tells u v) (at-place a d us v)
  where
    go : ((u == v) ≡ true) × (u ≡ v) ⊎ ((u == v) ≡ false) × (u ≢ v) → slice_index_or (map a us) (place us v) d ≡ cond (has us v) (a v) d → slice_index_or (map a (u ∷ us)) (cond (u == v) 0 (place us v + 1)) d ≡ cond ((u == v) || has us v) (a v) d
    go (inl e) ih = ap (λ b. slice_index_or (map a (u ∷ us)) (cond b 0 (place us v + 1)) d) e.0 ∙ ap a e.1 ∙ ap (λ b. cond (b || has us v) (a v) d) (sym e.0)
    go (inr e) ih =
        let k : place us v + 1 ≡ suc (place us v) = omega arith in
        ap (λ b. slice_index_or (map a (u ∷ us)) (cond b 0 (place us v + 1)) d) e.0 ∙ ap (λ n. slice_index_or (map a (u ∷ us)) n d) k ∙ ih ∙ ap (λ b. cond (b || has us v) (a v) d) (sym e.0)

-- the place of a number in one list after another
pub place-append : (ms ns : List ℕ) (v : ℕ) → place (ms ++ ns) v ≡ cond (has ms v) (place ms v) (length ms + place ns v)
place-append [] ns v = omega arith
place-append (m ∷ ms) ns v = go (m == v) (has ms v) (place-append ms ns v)
  where
    go : (b c : Bool) → place (ms ++ ns) v ≡ cond c (place ms v) (length ms + place ns v) → cond b 0 (place (ms ++ ns) v + 1) ≡ cond (b || c) (cond b 0 (place ms v + 1)) (suc (length ms) + place ns v)
    go true c k = refl
    go false true k = omega (arith, k)
    go false false k = omega (arith, k)

-- a number that stands there has its place before the end
pub place-in : (ns : List ℕ) (v : ℕ) → has ns v ≡ true → place ns v < length ns
place-in [] v h = cc
place-in (u ∷ us) v h = go (u == v) (place-in us v) h
  where
    go : (b : Bool) → (has us v ≡ true → place us v < length us) → (b || has us v) ≡ true → cond b 0 (place us v + 1) < suc (length us)
    go true ih k = omega arith
    go false ih k = let l = ih k in omega (arith, l)

-- a number that does not stand there has its place at the end
pub place-past : (ns : List ℕ) (v : ℕ) → has ns v ≡ false → place ns v ≡ length ns
place-past [] v h = refl
place-past (u ∷ us) v h = go (u == v) (place-past us v) h
  where
    go : (b : Bool) → (has us v ≡ false → place us v ≡ length us) → (b || has us v) ≡ false → cond b 0 (place us v + 1) ≡ suc (length us)
    go true ih k = cc
    go false ih k = let l = ih k in omega (arith, l)

-- numbers in turn, from n on
pub has-slots : (n : ℕ) (vars : List Var) (v : ℕ) → has (numbers_of (slots n vars)) v ≡ (not (nat_lt v n) && nat_lt v (n + length vars))
has-slots n [] v = grind (arith, nat_tests)
has-slots n (w ∷ vs) v = ap (λ b. (n == v) || b) (has-slots (n + 1) vs v) ∙ step n v (length vs)
  where
    step : (a b k : ℕ) → ((a == b) || (not (nat_lt b (a + 1)) && nat_lt b ((a + 1) + k))) ≡ (not (nat_lt b a) && nat_lt b (a + suc k))
    step a b k = grind (arith, nat_tests)

-- what stands at a number, the first being n
pub at-slots : {X : Type 0} (a : ℕ → X) (d : X) (n : ℕ) (vars : List Var) (v : ℕ) → n ≤ v → slice_index_or (map a (numbers_of (slots n vars))) (v - n) d ≡ cond (has (numbers_of (slots n vars)) v) (a v) d
at-slots a d n [] v h = refl
at-slots a d n (w ∷ vs) v h = go (map a (numbers_of (slots (n + 1) vs))) (eqb_tells n v) (at-slots a d (n + 1) vs v)
  where
    go : (rest : List _) → ((n == v) ≡ true) × (n ≡ v) ⊎ ((n == v) ≡ false) × (n ≢ v) → (n + 1 ≤ v → slice_index_or rest (v - (n + 1)) d ≡ cond (has (numbers_of (slots (n + 1) vs)) v) (a v) d) → slice_index_or (a n ∷ rest) (v - n) d ≡ cond ((n == v) || has (numbers_of (slots (n + 1) vs)) v) (a v) d
    go rest (inl e) ih =
        let k : v - n ≡ 0 = omega (arith, e.1) in
        ap (λ m. slice_index_or (a n ∷ rest) m d) k ∙ ap a e.1 ∙ ap (λ b. cond (b || has (numbers_of (slots (n + 1) vs)) v) (a v) d) (sym e.0)
    go rest (inr e) ih =
        let l : n + 1 ≤ v = omega (arith, h, e.1) in
        let k : v - n ≡ suc (v - (n + 1)) = omega (arith, l) in
        ap (λ m. slice_index_or (a n ∷ rest) m d) k ∙ ih l ∙ ap (λ b. cond (b || has (numbers_of (slots (n + 1) vs)) v) (a v) d) (sym e.0)
