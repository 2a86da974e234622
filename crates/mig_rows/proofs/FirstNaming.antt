-- The first literal that names a variable, looked for one by one.
use Rattle.std.proofs.Common.{◌≡◌, ℕ, ◌+◌, ◌<◌, Bool, true, false, cond, List, ◌∷◌, drop, length, get_or, sym, ap, ◌∙◌, arith, add-one, drop-cons}
use Rattle.mig_algebra.specs.declared.literals.Lit.{Lit}
use Rattle.mig_rows.specs.Naming.{first_naming}
use Rattle.mig_rows.specs.Writing.{leaves}

-- the list from a number on
cut : (ls : List Lit) (k : ℕ) (l : Lit) → k < length ls → l ≡ get_or ls k l → drop k ls ≡ l ∷ drop (k + 1) ls
cut ls k l h is = (rw add-one (drop-cons ls k l h)) ∙ ap (λ (y : Lit). y ∷ drop (k + 1) ls) (sym is)

-- a literal that names it is the first
pub naming-here : (i : ℕ) (ls : List Lit) (k : ℕ) (l : Lit) → k < length ls → l ≡ get_or ls k l → leaves i l ≡ false → first_naming i ls ≡ k + first_naming i (drop k ls) → k ≡ first_naming i ls
naming-here i ls k l h is names inv =
    let here : first_naming i (drop k ls) ≡ 0 = ap (first_naming i) (cut ls k l h is) ∙ ap (λ (b : Bool). cond b (first_naming i (drop (k + 1) ls) + 1) 0) names in
    omega (arith, inv, here)

-- one that does not is passed
pub naming-on : (i : ℕ) (ls : List Lit) (k : ℕ) (l : Lit) → k < length ls → l ≡ get_or ls k l → leaves i l ≡ true → first_naming i ls ≡ k + first_naming i (drop k ls) → first_naming i ls ≡ (k + 1) + first_naming i (drop (k + 1) ls)
naming-on i ls k l h is left inv =
    let here : first_naming i (drop k ls) ≡ first_naming i (drop (k + 1) ls) + 1 = ap (first_naming i) (cut ls k l h is) ∙ ap (λ (b : Bool). cond b (first_naming i (drop (k + 1) ls) + 1) 0) left in
    omega (arith, inv, here)
