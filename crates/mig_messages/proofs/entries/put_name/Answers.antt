use Rattle.std.proofs.Common.{sym, ap, ◌∙◌}
use Rattle.std.specs.Option.{option_copied}
use Rattle.mig_messages.proofs.EntryLines.{no-name}
use Rattle.mig_messages.proofs.entries.put_name.Goals as goal

pub returns-in-None : goal.returns-in-None
returns-in-None c = no-name c.args.out.now c.args.program.now c.args.function (sym c.get.ensures.value ∙ ap option_copied c.in-None.is)
