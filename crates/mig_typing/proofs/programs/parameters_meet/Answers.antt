-- Two parameters have one name exactly where there is a first one with an earlier one's.
use Rattle.std.proofs.Common.{◌≡◌, ◌∙◌, List, length, ap}
use Rattle.std.specs.List.{list_any, range_with_len}
use Rattle.std.specs.Str.{bytes_eq}
use Rattle.mig_schema.specs.declared.programs.Param.{Param}
use Rattle.mig_base.specs.Lists.{again}
use Rattle.mig_typing.proofs.Firsts.{any_below, again_past}
use Rattle.mig_typing.proofs.programs.parameters_meet.Goals as goal

pub returns : goal.returns
returns c =
    let like = λ (a b : Param). bytes_eq a.name b.name in
    let xs = c.as_slice.result.now in
    c.is_some.ensures
    ∙ any_below (again like xs) (length xs) c.first_again.result (λ k past. again_past like xs k past) c.first_again.ensures
    ∙ ap (λ (ys : List Param). list_any (again like ys) (range_with_len 0 (length ys))) c.as_slice.ensures
