use Rattle.std.proofs.Common.{◌<◌, length, subst, sym, arith, refl}
use Rattle.mig_meaning.specs.Effect.{with_row}
use Rattle.mig_storage.specs.Meaning.{FitsLayout}
use Rattle.mig_storage.proofs.FitsLemmas.{fits-count, made_or_not}
use Rattle.mig_storage.proofs.StateLemmas.{fits-new}
use Rattle.mig_storage.proofs.vec_store.VecStoreStore.add.Goals as goal

pub add-requires-clause-room : goal.add-requires-clause-room
add-requires-clause-room c = c.requires.room c.args.self.now.journal.current refl

pub invariant_of-self : goal.invariant_of-self
invariant_of-self c =
    let layout = c.args.self.now.layout in
    let before = c.args.self.now.journal.current in
    let within : c.args.table < length c.args.self.now.journal.current.tables = omega (arith, c.requires.table, c.args.self.now.sized) in
    let fits : FitsLayout layout c.add.new.self.current = made_or_not (FitsLayout layout) c.add.result before c.add.new.self.current (with_row before c.args.table c.args.row.values) c.add.ensures.ok c.add.ensures.err c.args.self.now.fits (fits-new layout before c.args.table c.args.row.values c.args.self.now.fits within c.requires.kinds) in
    record {
      sized = fits-count layout c.add.new.self.current fits;
      fits = fits;
      started = subst (FitsLayout layout) (sym c.add.ensures.start) c.args.self.now.started;
    }
