-- Each column of a table is one of the numbers below their count.
use Rattle.std.proofs.Common.{◌≡◌, ◌∙◌, not, length, ap}
use Rattle.std.specs.Prelude.{◌==◌}
use Rattle.std.specs.List.{list_any, range_with_len}
use Rattle.mig_schema.specs.declared.tables.Column.{Column}
use Rattle.mig_schema.specs.declared.tables.ColId.{ColId}
use Rattle.mig_schema.specs.Columns.{columns_of}
use Rattle.mig_schema.specs.Typed.{values_for}
use Rattle.mig_typing.specs.Seen.{seen}
use Rattle.mig_typing.proofs.Anys.{any-numbered}
use Rattle.mig_typing.proofs.rules.is_uncovered.Goals as goal

pub returns : goal.returns
returns c =
    let q = λ (c' : ColId). not (values_for (seen c.args.piece.now) c' == 1) in
    c.any_uncovered.ensures
    ∙ ap (λ columns. list_any (λ k. q (record { table = c.args.t; column = k })) (range_with_len 0 (length columns))) c.columns_of.ensures
    ∙ any-numbered {A = Column} q (λ k. record { table = c.args.t; column = k }) 0 (columns_of c.args.schema.now c.args.t)
