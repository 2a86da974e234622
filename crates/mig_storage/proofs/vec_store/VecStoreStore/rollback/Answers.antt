use Rattle.std.proofs.Common.{◌∙◌, ap, sym, subst, length}
use Rattle.mig_meaning.specs.declared.states.State.{State}
use Rattle.mig_storage.specs.Meaning.{FitsLayout}
use Rattle.mig_storage.proofs.FitsLemmas.{fits-count}
use Rattle.mig_storage.proofs.vec_store.VecStoreStore.rollback.Goals as goal

pub invariant_of-self : goal.invariant_of-self
invariant_of-self c = record {
  sized = ap (λ (s : State). length s.tables) c.take_back.ensures.current ∙ fits-count c.args.self.now.layout c.args.self.now.journal.start c.args.self.now.started;
  fits = subst (FitsLayout c.args.self.now.layout) (sym c.take_back.ensures.current) c.args.self.now.started;
  started = subst (FitsLayout c.args.self.now.layout) (sym c.take_back.ensures.start) c.args.self.now.started;
}
