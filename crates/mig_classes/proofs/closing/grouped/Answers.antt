use Rattle.std.proofs.Common.{◌<◌, ◌∙◌, pos, List, [], ◌∷◌, ◌++◌, map, take, length, ap, ap₂, arith}
use Rattle.std.specs.Prelude.{set, slice_index_or}
use Rattle.std.proofs.lemmas.List.{get_or_default, length-set, take_all}
use Rattle.mig_algebra.specs.declared.atoms.Atom.{Atom}
use Rattle.mig_algebra.specs.declared.atoms.Atom.TheVariants.{Int}
use Rattle.mig_classes.specs.Classes.{least, led_by}
use Rattle.mig_classes.specs.Forests.{atom_of}
use Rattle.mig_classes.proofs.Grouped.{groups-more, group-at}
use Rattle.mig_classes.proofs.closing.grouped.Goals as goal

pub loop-number-preserved : goal.loop-number-preserved
loop-number-preserved c =
    let atoms = c.args.atoms.now in
    let n = c.loop-number.number in
    let r = c.root-least.result in
    let inv = c.loop-number.invariant in
    let there : n < length atoms = omega (arith, c.loop-number-test.true) in
    let in' : r < length atoms = omega (arith, c.root-least.ensures.least, there) in
    let atom = c.in_ok-twin.ensures ∙ c.index-atoms-number.is ∙ get_or_default atoms n c.index-atoms-number.result (Int (pos 0)) there in
    let within : r < length c.loop-number.groups.items = omega (arith, in', inv.groups) in
    let old = c.index_mut.ensures.value ∙ get_or_default c.loop-number.groups.items r c.index_mut.result.now [] within in
    record {
      count = c.root-least.ensures.count ∙ inv.count;
      forest = c.root-least.ensures.forest;
      groups = length-set c.loop-number.groups.items r c.push.new.self ∙ inv.groups;
      leads = λ ls l.
          let il = inv.leads ls l in
          let own = c.root-least.ensures.own (atom_of atoms) (λ k. least ls (atom_of atoms k)) il.0 in
          let group = c.in_ok-push.ensures.ok ∙ ap₂ (λ (g : List Atom) (x : Atom). g ++ x ∷ []) (old ∙ ap (λ (gs : List (List Atom)). slice_index_or gs r []) il.1 ∙ group-at (led_by ls (take n atoms)) atoms r in') atom in (
            c.root-least.ensures.leads (atom_of atoms) (λ k. least ls (atom_of atoms k)) il.0,
            ap (λ (gs : List (List Atom)). set gs r c.push.new.self) il.1 ∙ groups-more ls atoms n r c.requires.rising there in' own c.push.new.self group,
          );
    }

pub returns : goal.returns
returns c = λ ls l.
    (c.loop-number.invariant.leads ls l).1 ∙ ap (λ (xs : List Atom). map (led_by ls xs) c.args.atoms.now) (take_all c.loop-number.number c.args.atoms.now (omega (arith, c.loop-number-test.false)))
