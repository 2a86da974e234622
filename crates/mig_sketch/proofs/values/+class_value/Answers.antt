use Rattle.std.proofs.Common.{◌<◌, Some, sym, ap, ◌∙◌, length, arith}
use Rattle.mig_schema.specs.declared.programs.Scalar.{Scalar}
use Rattle.mig_sketch.proofs.Valued.{class_first}
use Rattle.mig_sketch.proofs.values.+class_value.Goals as goal

pub returns-in_ok-twin-in-len1-up : goal.returns-in_ok-twin-in-len1-up
returns-in_ok-twin-in-len1-up t c =
    let some : 0 < length c.args.led.now = omega (arith, c.in-len1-up.len_at_least) in
    ap (λ (v : Scalar). Some v) c.in_ok-twin-in-len1-up.ensures
    ∙ sym (class_first c.args.own c.args.key c.args.label c.a-item.result c.args.led.now _ some c.a-item.is (sym c.if-not-same_col.ensures) c.if-all_same.ensures)

pub returns-else-all_same : goal.returns-else-all_same
returns-else-all_same t c =
    let some : 0 < length c.args.led.now = omega (arith, c.in-len1-up.len_at_least) in
    sym (class_first c.args.own c.args.key c.args.label c.a-item.result c.args.led.now _ some c.a-item.is (sym c.if-not-same_col.ensures) c.if-all_same.ensures)
