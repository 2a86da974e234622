use Rattle.std.proofs.Common.{◌≡◌, drop}
use Rattle.std.specs.List.{list_any}
use Rattle.mig_classes.specs.Classes.{named}
use Rattle.mig_classes.specs.Deciding.{clashes, is_led_by}
use Rattle.mig_classes.specs.Given.{class_of}
use Rattle.mig_classes.proofs.grouping.Groups.some_clash.Given as goal

abbrev pub invariant-loop-at : goal.invariant-loop-at
invariant-loop-at g l = list_any (clashes l.self.lits.now (g.T.PairTest.test l.test)) (named l.self.lits.now) ≡ list_any (clashes l.self.lits.now (g.T.PairTest.test l.test)) (drop l.at (named l.self.lits.now))
