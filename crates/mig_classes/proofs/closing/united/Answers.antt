use Rattle.std.proofs.Common.{◌<◌, ◌-◌, ◌∙◌, List, ◌∷◌, drop, length, sym, ap, subst, arith}
use Rattle.mig_meaning.specs.Lists.{In}
use Rattle.mig_algebra.specs.declared.atoms.Atom.{Atom}
use Rattle.mig_algebra.specs.declared.literals.Lit.{Lit}
use Rattle.mig_classes.specs.Classes.{least, equated}
use Rattle.mig_classes.specs.Forests.{atom_of, LeadsTo, RisesTo}
use Rattle.mig_classes.proofs.Grouped.{sides-in, drop-earlier}
use Rattle.mig_classes.proofs.Rising.{sorted-rising, in-sorted}
use Rattle.mig_classes.proofs.closing.united.Goals as goal

pub unite_sides-requires-clause-rising : goal.unite_sides-requires-clause-rising
unite_sides-requires-clause-rising c = subst (λ (xs : List Atom). RisesTo (length xs) (atom_of xs)) (sym c.requires) (sorted-rising (equated c.args.lits.now))

pub unite_sides-requires-clause-there : goal.unite_sides-requires-clause-there
unite_sides-requires-clause-there c = λ a i.
    let within : length c.args.lits.now - 1 - c.loop-done.done < length c.args.lits.now = omega (arith, c.loop-done-test.true) in
    subst (λ (xs : List Atom). In a xs) (sym c.requires)
    (in-sorted a (equated c.args.lits.now) (sides-in c.args.lits.now (length c.args.lits.now - 1 - c.loop-done.done) c.index-lits-lits.result c.index-lits-lits.result within c.index-lits-lits.is a i))

pub loop-done-preserved : goal.loop-done-preserved
loop-done-preserved c =
    let lits = c.args.lits.now in
    let done = c.loop-done.done in
    let more = drop-earlier lits done c.index-lits-lits.result c.loop-done-test.true ∙ ap (λ (x : Lit). x ∷ drop (length lits - done) lits) (sym c.index-lits-lits.is) in
    record {
      count = c.unite_sides.ensures.count;
      forest = c.unite_sides.ensures.forest;
      leads = subst (λ (ls : List Lit). LeadsTo (atom_of c.args.atoms.now) (λ k. least ls (atom_of c.args.atoms.now k)) c.unite_sides.new.parents.items) (sym more) (c.unite_sides.ensures.leads (drop (length lits - done) lits) c.loop-done.invariant.leads);
    }
