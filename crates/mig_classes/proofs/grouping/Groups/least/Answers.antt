use Rattle.std.proofs.Common.{◌∙◌, List, length, sym, subst}
use Rattle.mig_meaning.specs.Lists.{In}
use Rattle.mig_algebra.specs.declared.atoms.Atom.{Atom}
use Rattle.mig_classes.specs.Classes.{equated}
use Rattle.mig_classes.specs.Forests.{atom_of, RisesTo}
use Rattle.mig_classes.proofs.Asking.{least-alone}
use Rattle.mig_classes.proofs.Rising.{sorted-rising}
use Rattle.mig_classes.proofs.grouping.Groups.least.Goals as goal

pub place_of-requires : goal.place_of-requires
place_of-requires c =
    subst (λ (xs : List Atom). RisesTo (length xs) (atom_of xs)) (sym (c.as_slice.ensures.value ∙ c.args.self.now.named)) (sorted-rising (equated c.args.self.now.lits.now))

pub returns-in-None : goal.returns-in-None
returns-in-None c =
    sym (least-alone c.args.self.now.lits.now c.args.atom.now (λ i. c.in-None.ensures.within (subst (In c.args.atom.now) (sym (c.as_slice.ensures.value ∙ c.args.self.now.named)) i)))
