use Rattle.std.proofs.Common.{◌<◌, ◌∙◌, pos, List, [], ◌∷◌, ◌++◌, map, take, length, sym, ap, ap₂, arith}
use Rattle.std.proofs.lemmas.List.{get_or_default, map-append, take_more}
use Rattle.mig_algebra.specs.declared.atoms.Atom.{Atom}
use Rattle.mig_algebra.specs.declared.atoms.Atom.TheVariants.{Int}
use Rattle.mig_classes.specs.Classes.{least}
use Rattle.mig_classes.specs.Forests.{atom_of}
use Rattle.mig_classes.proofs.grouping.leasts_of.Goals as goal

pub loop-number-preserved : goal.loop-number-preserved
loop-number-preserved c =
    let atoms = c.args.atoms.now in
    let n = c.loop-number.number in
    let r = c.root-least.result in
    let inv = c.loop-number.invariant in
    let there : n < length atoms = omega (arith, c.loop-number-test.true) in
    let in' : r < length atoms = omega (arith, c.root-least.ensures.least, there) in
    let atom = c.in_ok-twin.ensures ∙ c.index-atoms-least.is ∙ get_or_default atoms r c.index-atoms-least.result (Int (pos 0)) in' in
    record {
      count = c.root-least.ensures.count ∙ inv.count;
      forest = c.root-least.ensures.forest;
      leads = λ ls l.
          let il = inv.leads ls l in
          let own = c.root-least.ensures.own (atom_of atoms) (λ k. least ls (atom_of atoms k)) il.0 in (
            c.root-least.ensures.leads (atom_of atoms) (λ k. least ls (atom_of atoms k)) il.0,
            c.in_ok-push.ensures.items
                ∙ ap₂ (λ (xs : List Atom) (x : Atom). xs ++ x ∷ []) il.1 (atom ∙ own)
                ∙ sym (ap (map (least ls)) (take_more atoms n (Int (pos 0)) there) ∙ map-append (least ls) (take n atoms) (atom_of atoms n ∷ [])),
          );
    }
