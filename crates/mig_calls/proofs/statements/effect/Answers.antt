use Rattle.std.proofs.Common.{subst}
use Rattle.mig_calls.specs.Fits.{StmtFits}
use Rattle.mig_meaning.specs.Told.{given_told}
use Rattle.mig_calls.proofs.statements.effect.Goals as goal

pub set-requires-clause-cases : goal.set-requires-clause-cases
set-requires-clause-cases g c = (subst (StmtFits (g.S.Store.meaning c.args.store.now).layout c.args.schema.now (given_told c.args.given.now)) c.in-Set.is c.requires.fits).1

pub returns-in_ok-tables-in-Insert-clause-makes : goal.returns-in_ok-tables-in-Insert-clause-makes
returns-in_ok-tables-in-Insert-clause-makes g c = rw (c.in-Insert.is) (rw (c.as_slice.ensures, c.as_slice-in-Insert.ensures, c.as_slice-in-Insert-2.ensures.value, c.in_ok-tables-in-Insert.ensures) at c.insert_rows.ensures.makes)

pub returns-in-Delete-clause-makes : goal.returns-in-Delete-clause-makes
returns-in-Delete-clause-makes g c = rw (c.in-Delete.is) (rw c.as_slice-in-Delete.ensures at c.delete.ensures.makes)

pub returns-in-Set-clause-makes : goal.returns-in-Set-clause-makes
returns-in-Set-clause-makes g c = rw (c.in-Set.is) c.set.ensures.makes
