-- Equal bags of rows.
use Rattle.std.specs.Prelude.{ℕ, Bool, true, false, ◌&&◌, List, [], ◌∷◌, ◌≡◌}
use Rattle.mig_schema.specs.declared.values.Value.{Value}
use Rattle.mig_meaning.specs.Lists.{total, bit}
use Rattle.mig_meaning.specs.Values.{value_eq}

-- equality of rows
abbrev pub row_eq : List Value → List Value → Bool
row_eq [] [] = true
row_eq (x ∷ xs) (y ∷ ys) = value_eq x y && row_eq xs ys
row_eq _ _ = false

-- how often a row occurs
abbrev pub times : List Value → List (List Value) → ℕ
times r rs = total (λ q. bit (row_eq r q)) rs

-- equal bags: each row occurs as often in both
pub record SameBag (a b : List (List Value)) : Type 0 where
  pub by : (r : List Value) → times r a ≡ times r b
