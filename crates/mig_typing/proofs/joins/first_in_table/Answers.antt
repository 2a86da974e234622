-- The first column of a table that is in a class.
use Rattle.std.proofs.Common.{◌≡◌, ◌<◌, length, ap, sym, ◌∙◌, arith}
use Rattle.mig_schema.specs.declared.tables.ColId.{ColId}
use Rattle.mig_schema.specs.declared.tables.Column.{Column}
use Rattle.mig_schema.specs.Columns.{columns_of}
use Rattle.mig_schema.specs.Joins.{in_one_class}
use Rattle.mig_typing.proofs.Finds.{find_none, find_hit}
use Rattle.mig_typing.proofs.joins.first_in_table.Goals as goal

pub returns-then-is_some : goal.returns-then-is_some
returns-then-is_some c =
    let lt : c.loop-k.k < length (columns_of c.args.schema.now c.args.t) = omega (arith, c.loop-k-test.true, ap length c.columns_of-k-end.ensures) in
    find_hit {A = Column} (in_one_class c.args.join.now c.args.column) (λ k. record { table = c.args.t; column = k }) (columns_of c.args.schema.now c.args.t) c.loop-k.k c.in_class-found.result
    c.in_class-found.ensures (sym c.is_some.ensures ∙ c.if-is_some.true) lt c.loop-k.invariant

pub returns : goal.returns
returns c =
    sym (find_none {A = Column} (in_one_class c.args.join.now c.args.column) (λ k. record { table = c.args.t; column = k }) 0 (columns_of c.args.schema.now c.args.t)
    (λ k low high. c.loop-k.invariant k (omega (arith, high, c.loop-k-test.false, ap length c.columns_of-k-end.ensures))))
