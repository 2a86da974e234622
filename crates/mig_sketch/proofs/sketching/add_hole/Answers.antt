use Rattle.mig_sketch.proofs.Goings.{goes_here, goes_end}
use Rattle.mig_sketch.proofs.sketching.add_hole.Goals as goal

pub returns-in-Some : goal.returns-in-Some
returns-in-Some c = λ job corr free old are. goes_end job corr c.args.function free c.args.statement old c.args.options c.in-Some.made are (rw c.in-Some.is at c.judged.ensures)

pub returns-in_ok-push-in-None : goal.returns-in_ok-push-in-None
returns-in_ok-push-in-None c = λ job corr free old are. goes_here job corr c.args.function free c.args.statement old c.args.options c.args.holes.now _ are (rw c.in-None.is at c.judged.ensures) c.in_ok-push-in-None.ensures.ok
