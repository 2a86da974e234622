use Rattle.std.proofs.Common.{◌<◌, length, subst, sym, arith}
use Rattle.mig_storage.specs.Changes.{removed}
use Rattle.mig_storage.specs.Meaning.{FitsLayout}
use Rattle.mig_storage.proofs.FitsLemmas.{fits-count, fits-rising, made_or_not}
use Rattle.mig_storage.proofs.StateLemmas.{fits-filtered}
use Rattle.mig_storage.proofs.vec_store.VecStoreStore.remove.Goals as goal

pub remove-requires-clause-rising : goal.remove-requires-clause-rising
remove-requires-clause-rising c = fits-rising c.args.self.now.layout c.args.self.now.journal.current c.args.table c.args.self.now.fits

pub invariant_of-self : goal.invariant_of-self
invariant_of-self c =
    let layout = c.args.self.now.layout in
    let before = c.args.self.now.journal.current in
    let within : c.args.table < length c.args.self.now.journal.current.tables = omega (arith, c.requires.table, c.args.self.now.sized) in
    let fits : FitsLayout layout c.remove.new.self.current = made_or_not (FitsLayout layout) c.remove.result before c.remove.new.self.current (removed c.args.table c.args.id before) c.remove.ensures.ok c.remove.ensures.err c.args.self.now.fits (fits-filtered layout before c.args.table _ c.args.self.now.fits within) in
    record {
      sized = fits-count layout c.remove.new.self.current fits;
      fits = fits;
      started = subst (FitsLayout layout) (sym c.remove.ensures.start) c.args.self.now.started;
    }
