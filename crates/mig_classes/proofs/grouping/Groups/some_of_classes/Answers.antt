use Rattle.std.proofs.Common.{◌∙◌, ◌||◌, Bool, sym, ap}
use Rattle.std.specs.List.{list_any}
use Rattle.mig_algebra.specs.declared.atoms.Atom.{Atom}
use Rattle.mig_classes.specs.Classes.{least, named}
use Rattle.mig_classes.specs.Deciding.{is_led_by}
use Rattle.mig_classes.specs.Given.{class_of}
use Rattle.mig_classes.proofs.Asking.{any-classes}
use Rattle.mig_classes.proofs.grouping.Groups.some_of_classes.Goals as goal

pub returns-then-here : goal.returns-then-here
returns-then-here g c =
    let ls = c.args.self.now.lits.now in
    let test = g.T.PairTest.test c.args.test.now in
    let rest = list_any (is_led_by ls (least ls c.args.left.now) (λ x. list_any (test x) (class_of ls c.args.right.now))) (named ls) in
    sym (any-classes ls test c.args.left.now c.args.right.now ∙ ap (λ (b : Bool). b || rest) (sym c.passes_class-here.ensures ∙ c.if-here.true))

pub returns : goal.returns
returns g c =
    let ls = c.args.self.now.lits.now in
    let test = g.T.PairTest.test c.args.test.now in
    let rest = list_any (is_led_by ls (least ls c.args.left.now) (λ x. list_any (test x) (class_of ls c.args.right.now))) (named ls) in
    c.some_led-led.ensures
    ∙ ap (λ (r : Atom). list_any (is_led_by ls r (λ x. list_any (test x) (class_of ls c.args.right.now))) (named ls)) c.least.ensures
    ∙ sym (any-classes ls test c.args.left.now c.args.right.now ∙ ap (λ (b : Bool). b || rest) (sym c.passes_class-here.ensures ∙ c.if-here.false))
