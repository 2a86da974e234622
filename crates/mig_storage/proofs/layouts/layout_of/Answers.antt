use Rattle.std.proofs.Common.{◌++◌, ◌∷◌, [], take, map, sym, ap, ◌∙◌}
use Rattle.std.proofs.lemmas.List.{map_more}
use Rattle.mig_schema.specs.declared.tables.Column.{Column}
use Rattle.mig_schema.specs.declared.tables.Table.{Table}
use Rattle.mig_storage.proofs.layouts.layout_of.Goals as goal

pub loop-table-preserved : goal.loop-table-preserved
loop-table-preserved c =
    let kinds = λ (t : Table). map (λ (x : Column). x.kind) t.columns in
    let tables = c.as_slice-table-items.result.now in
    let i = c.loop-table.table-index in
    let more = map_more kinds tables i c.table-item.result c.loop-table-test.true ∙ ap (λ t. map kinds (take i tables) ++ kinds t ∷ []) (sym c.table-item.is) in
    rw (c.in_ok-push.ensures.ok, c.in_ok-kinds_of.ensures, c.as_slice.ensures, c.loop-table.invariant, ← c.as_slice-table-items.ensures) (sym more)
