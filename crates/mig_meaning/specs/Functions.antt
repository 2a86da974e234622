-- Programs over two schemas that have the same functions.
use Rattle.std.specs.Prelude.{ℕ, ◌<◌, map, length, ◌≡◌}
use Rattle.mig_schema.specs.declared.tables.Schema.{Schema}
use Rattle.mig_schema.specs.declared.programs.Body.{Body}
use Rattle.mig_schema.specs.declared.programs.Body.TheVariants as body
use Rattle.mig_schema.specs.declared.programs.Function.{Function}
use Rattle.mig_schema.specs.declared.programs.Program.{Program}
use Rattle.mig_schema.specs.Columns.{kind_of}
use Rattle.mig_meaning.specs.Run.{function_at}

-- two updates, or two queries whose selected columns have the same kinds
abbrev pub SameSort : Schema → Schema → Body → Body → Type 0
SameSort schema schema' (body.Update a) (body.Update b) = Unit {0}
SameSort schema schema' (body.Query q) (body.Query r) = map (kind_of schema) q.columns ≡ map (kind_of schema') r.columns
SameSort schema schema' _ _ = ⊥

-- functions with one name and the same parameters
pub record SameFunction (schema schema' : Schema) (f f' : Function) : Type 0 where
  pub name : f.name ≡ f'.name
  pub params : f.params ≡ f'.params
  pub sort : SameSort schema schema' f.body f'.body

-- equally many functions, and those of one number are the same
pub record SameFunctions (schema schema' : Schema) (p p' : Program) : Type 0 where
  pub count : length p.functions ≡ length p'.functions
  pub each : (n : ℕ) → n < length p.functions → SameFunction schema schema' (function_at p n) (function_at p' n)
