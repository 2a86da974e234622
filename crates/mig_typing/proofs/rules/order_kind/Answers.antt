-- The comparisons of a condition are those of its cases.
use Rattle.std.proofs.Common.{◌≡◌, sym, ◌∙◌}
use Rattle.mig_schema.specs.declared.programs.Cmp.{Cmp}
use Rattle.mig_typing.proofs.Anys.{any-flat_map}
use Rattle.mig_typing.proofs.rules.order_kind.Goals as goal

pub returns : goal.returns
returns c = c.any_cmp.ensures ∙ sym (any-flat_map _ (λ case. case) c.args.piece.now.cases.now)
