use Rattle.std.proofs.Common.{◌∙◌, sym, subst, arith}
use Rattle.mig_classes.specs.Forests.{RisesTo}
use Rattle.mig_classes.proofs.Forested.{united-low, united-high}
use Rattle.mig_classes.proofs.forests.unite.Goals as goal

pub returns-then-left-right-clause-leads : goal.returns-then-left-right-clause-leads
returns-then-left-right-clause-leads c = λ own least r l.
    let ll = c.root-left.ensures.leads own least l in
    let count = c.root-right.ensures.count ∙ c.root-left.ensures.count in
    united-low c.root-right.new.parents.items own least (c.root-right.ensures.leads own least ll)
    (subst (λ n. RisesTo n own) (sym count) r) (least c.args.left) (least c.args.right) c.root-left.result c.root-right.result c.if-left-right.true
    (omega (arith, count, c.root-right.ensures.least, c.requires.right))
    (c.root-left.ensures.own own least l) (c.root-right.ensures.own own least ll) (c.root-left.ensures.same own least l) (c.root-right.ensures.same own least ll)

pub returns-else-left-right-clause-leads : goal.returns-else-left-right-clause-leads
returns-else-left-right-clause-leads c = λ own least r l.
    let ll = c.root-left.ensures.leads own least l in
    let count = c.root-right.ensures.count ∙ c.root-left.ensures.count in
    united-high c.root-right.new.parents.items own least (c.root-right.ensures.leads own least ll)
    (subst (λ n. RisesTo n own) (sym count) r) (least c.args.left) (least c.args.right) c.root-left.result c.root-right.result c.if-left-right.false
    (omega (arith, count, c.root-left.ensures.least, c.requires.left))
    (c.root-left.ensures.own own least l) (c.root-right.ensures.own own least ll) (c.root-left.ensures.same own least l) (c.root-right.ensures.same own least ll)
