use Rattle.std.proofs.Common.{◌≡◌, drop}
use Rattle.std.specs.List.{list_any}
use Rattle.mig_classes.specs.Classes.{named}
use Rattle.mig_classes.specs.Deciding.{clashes, is_led_by}
use Rattle.mig_classes.specs.Given.{class_of}
use Rattle.mig_classes.proofs.grouping.Groups.some_led.Given as goal

abbrev pub invariant-loop-at : goal.invariant-loop-at
invariant-loop-at g l = list_any (is_led_by l.self.lits.now l.least (λ x. list_any (g.T.PairTest.test l.test x) (class_of l.self.lits.now l.right))) (named l.self.lits.now) ≡ list_any (is_led_by l.self.lits.now l.least (λ x. list_any (g.T.PairTest.test l.test x) (class_of l.self.lits.now l.right))) (drop l.at (named l.self.lits.now))
