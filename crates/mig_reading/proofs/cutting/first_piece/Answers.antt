use Rattle.std.proofs.Common.{sym, ◌∙◌}
use Rattle.mig_reading.proofs.Runs.{first_run}
use Rattle.mig_reading.proofs.cutting.first_piece.Goals as goal

pub returns-in_ok-run_of-clause-value : goal.returns-in_ok-run_of-clause-value
returns-in_ok-run_of-clause-value c =
    rw (c.in_ok-run_of.ensures, c.split_at.ensures.front, c.split_at.ensures.back, c.run_len.ensures, c.requires) (first_run c.args.first c.args.more.now (sym c.is_name_byte.ensures ∙ c.if-is_name_byte.true))
