use Rattle.std.proofs.Common.{◌≤◌, List, ◌++◌, length, sym, ap, ◌∙◌, arith}
use Rattle.std.specs.List.{flat_map}
use Rattle.std.proofs.lemmas.List.{take_all}
use Rattle.std.proofs.lemmas.List.Folds.{flat_map-map}
use Rattle.mig_schema.specs.Columns.{columns_in}
use Rattle.mig_schema.specs.declared.programs.Joined.{Joined}
use Rattle.mig_schema.specs.declared.tables.ColId.{ColId}
use Rattle.mig_sketch.proofs.needing.join_columns.Goals as goal

pub returns : goal.returns
returns c =
    let s = c.args.schema.now in
    let more = c.args.join.now.more in
    let size = ap (λ (ms : List Joined). length ms) c.as_slice-joined-items.ensures in
    let all : length more ≤ c.loop-joined.joined-index = omega (arith, c.loop-joined-test.false, size) in
    c.loop-joined.invariant
    ∙ ap (λ (ms : List Joined). columns_in c.args.schema.now c.args.join.now.first ++ flat_map (λ (m : Joined). columns_in c.args.schema.now m.table) ms) (take_all c.loop-joined.joined-index c.args.join.now.more all)
    ∙ ap (λ (cs : List ColId). columns_in c.args.schema.now c.args.join.now.first ++ cs) (sym (flat_map-map (columns_in c.args.schema.now) (λ (m : Joined). m.table) c.args.join.now.more))
