-- The value that a condition asks of a column of a table.
use Rattle.std.specs.Prelude.{◌≡◌, ◌⊎◌, ℕ, List, [], ◌∷◌}
use Rattle.mig_schema.specs.declared.programs.Item.{Item}
use Rattle.mig_schema.specs.declared.programs.Item.TheVariants as item
use Rattle.mig_schema.specs.declared.programs.Op.TheVariants.{Eq}
use Rattle.mig_schema.specs.declared.programs.Cmp.{Cmp}
use Rattle.mig_schema.specs.declared.values.Value.{Value}
use Rattle.mig_meaning.specs.Conditions.{Given, scalar_value}

-- one side is column n of table t, and the other the value v
abbrev pub SidesPin : Given → (t n : ℕ) → Value → Item → Item → Type 0
SidesPin g t n v (item.Col c) (item.Scalar x) = (c.table ≡ t) × (c.column ≡ n) × (v ≡ scalar_value g x)
SidesPin g t n v (item.Scalar x) (item.Col c) = (c.table ≡ t) × (c.column ≡ n) × (v ≡ scalar_value g x)
SidesPin g t n v (item.Col c) (item.Col d) = ⊥
SidesPin g t n v (item.Scalar x) (item.Scalar y) = ⊥

-- the comparison is an equality of the column and the value
pub record IsPin (g : Given) (t n : ℕ) (v : Value) (c : Cmp) : Type 0 where
  pub equal : c.op ≡ Eq
  pub sides : SidesPin g t n v c.left c.right

-- some comparison of the case is
abbrev pub CasePins : Given → (t n : ℕ) → Value → List Cmp → Type 0
CasePins g t n v [] = ⊥
CasePins g t n v (c ∷ cs) = IsPin g t n v c ⊎ CasePins g t n v cs

-- the condition has one case, and some comparison of it is
abbrev pub CasesPin : Given → (t n : ℕ) → Value → List (List Cmp) → Type 0
CasesPin g t n v [] = ⊥
CasesPin g t n v (case ∷ []) = CasePins g t n v case
CasesPin g t n v (case ∷ other ∷ more) = ⊥
