use Rattle.std.proofs.Common.{◌∙◌, ap, sym}
use Rattle.mig_search.specs.Blocking.{is_blocked}
use Rattle.mig_search.proofs.Named.{blamed_called}
use Rattle.mig_search.proofs.blaming.blocked.Goals as goal

pub returns-in_ok-blame-in-Refuted : goal.returns-in_ok-blame-in-Refuted
returns-in_ok-blame-in-Refuted c = λ f. blamed_called c.in-Refuted.calls.calls c.in_ok-blame-in-Refuted.field-0.functions c.in_ok-blame-in-Refuted.ensures f ∙ ap (λ e. is_blocked e f) (sym c.in-Refuted.is)
