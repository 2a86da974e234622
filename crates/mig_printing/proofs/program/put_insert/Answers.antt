use Rattle.std.proofs.Common.{codes}
use Rattle.std.proofs.lemmas.Result.{IfOk-equal}
use Rattle.mig_printing.specs.Printing.{join_text, values_text}
use Rattle.mig_printing.proofs.PrintLemmas.{behind_two}
use Rattle.mig_printing.proofs.program.put_insert.Goals as goal

pub returns : goal.returns
returns c =
    let join = join_text c.args.schema.now c.args.join.now in
    let values = values_text c.args.schema.now c.args.params.now c.args.values.now in
    IfOk-equal c.put_values.result c.put_values.new.out _ _ c.put_values.ensures (behind_two c.args.out.now c.put.new.out c.put_join.new.out (codes "insert into ") join values c.in_ok-put.ensures c.in_ok-put_join.ensures)
