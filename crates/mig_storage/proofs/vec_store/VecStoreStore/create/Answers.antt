use Rattle.std.proofs.Common.{sym, subst}
use Rattle.mig_meaning.specs.Rows.{empty_state}
use Rattle.mig_storage.specs.Meaning.{FitsLayout}
use Rattle.mig_storage.proofs.FitsLemmas.{fits-count, fits-empty}
use Rattle.mig_storage.proofs.vec_store.VecStoreStore.create.Goals as goal

pub invariant_of-self : goal.invariant_of-self
invariant_of-self c =
    let empty = empty_state c.args.schema.now in
    let made = fits-empty c.args.schema.now in
    let layout : FitsLayout c.in_ok-self.field-0 empty = subst (λ l. FitsLayout l empty) (sym c.in_ok-self.ensures) made in
    let fits : FitsLayout c.in_ok-self.field-0 c.in_ok-journal.journal.current = subst (FitsLayout c.in_ok-self.field-0) (sym c.in_ok-journal.ensures.current) layout in
    record {
      sized = fits-count c.in_ok-self.field-0 c.in_ok-journal.journal.current fits;
      fits = fits;
      started = subst (FitsLayout c.in_ok-self.field-0) (sym c.in_ok-journal.ensures.start) layout;
    }
