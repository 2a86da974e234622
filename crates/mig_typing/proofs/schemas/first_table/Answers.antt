-- The names of tables are compared.
use Rattle.std.proofs.Common.{List, [], ◌∷◌, subst}
use Rattle.std.specs.Str.{bytes_eq}
use Rattle.mig_schema.specs.declared.tables.Table.{Table}
use Rattle.mig_base.specs.Lists.{again}
use Rattle.mig_typing.specs.First.{IsFirst}
use Rattle.mig_typing.proofs.schemas.first_table.Goals as goal

pub returns : goal.returns
returns c = subst (λ (xs : List Table). IsFirst (λ k. k ∷ []) (again (λ (a b : Table). bytes_eq a.name b.name) xs) c.first_again.result) c.as_slice.ensures c.first_again.ensures
