use Rattle.std.proofs.Common.{}
use Rattle.mig_meaning.proofs.Within.{each-filter}
use Rattle.mig_storage.proofs.FitsLemmas.{fits-kinds}
use Rattle.mig_storage.proofs.vec_store.VecStoreStore.matching.Goals as goal

pub returns-clause-kinds : goal.returns-clause-kinds
returns-clause-kinds c = rw c.in_ok-matching.ensures.rows (each-filter _ _ _ (fits-kinds c.args.self.now.layout c.args.self.now.journal.current c.args.table c.args.self.now.fits))
