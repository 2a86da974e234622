use Rattle.std.proofs.Common.{◌<◌, length, subst, sym, arith}
use Rattle.mig_storage.specs.Changes.{written}
use Rattle.mig_storage.specs.Meaning.{FitsLayout}
use Rattle.mig_storage.proofs.FitsLemmas.{fits-count, fits-rising, made_or_not}
use Rattle.mig_storage.proofs.StateLemmas.{fits-written}
use Rattle.mig_storage.proofs.vec_store.VecStoreStore.set.Goals as goal

pub set-requires-clause-rising : goal.set-requires-clause-rising
set-requires-clause-rising c = fits-rising c.args.self.now.layout c.args.self.now.journal.current c.args.table c.args.self.now.fits

pub invariant_of-self : goal.invariant_of-self
invariant_of-self c =
    let layout = c.args.self.now.layout in
    let before = c.args.self.now.journal.current in
    let within : c.args.table < length c.args.self.now.journal.current.tables = omega (arith, c.requires.table, c.args.self.now.sized) in
    let fits : FitsLayout layout c.set.new.self.current = made_or_not (FitsLayout layout) c.set.result before c.set.new.self.current (written c.args.table c.args.id c.args.column c.args.value before) c.set.ensures.ok c.set.ensures.err c.args.self.now.fits (fits-written layout before c.args.table c.args.id c.args.column c.args.value c.args.self.now.fits within c.requires.kind) in
    record {
      sized = fits-count layout c.set.new.self.current fits;
      fits = fits;
      started = subst (FitsLayout layout) (sym c.set.ensures.start) c.args.self.now.started;
    }
