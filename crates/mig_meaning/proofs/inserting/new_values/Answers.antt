use Rattle.std.proofs.Common.{◌<◌, ◌∙◌, ap, arith, length}
use Rattle.mig_schema.specs.Columns.{columns_of}
use Rattle.mig_meaning.specs.Effect.{class_value}
use Rattle.mig_meaning.specs.Told.{given_told}
use Rattle.mig_meaning.proofs.Steps.{numbers-step}
use Rattle.mig_meaning.proofs.inserting.new_values.Goals as goal

pub loop-n-preserved : goal.loop-n-preserved
loop-n-preserved c =
    let l : c.loop-n.n < length (columns_of c.args.schema.now c.args.t) = omega (arith, c.loop-n-test.true, ap length c.columns_of-columns.ensures) in
    numbers-step (λ n. class_value (given_told c.args.given.now) c.args.joined.now c.args.values.now (record { table = c.args.t; column = n })) (columns_of c.args.schema.now c.args.t) c.loop-n.n c.in_ok-class_value.field-0 c.loop-n.all c.push.new.self l c.loop-n.invariant
    (c.in_ok-class_value.ensures ∙ ap (λ n. class_value (given_told c.args.given.now) c.args.joined.now c.args.values.now (record { table = c.args.t; column = n })) c.in_ok-number.ensures.ok)
    c.in_ok-push.ensures.ok
