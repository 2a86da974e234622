use Rattle.std.proofs.Common.{inl, inr}
use Rattle.mig_words.proofs.Drafting.{ended, too-short}
use Rattle.mig_words.proofs.migrate.read_migrate.Goals as goal

pub returns-in-Some-default-clause-fault : goal.returns-in-Some-default-clause-fault
returns-in-Some-default-clause-fault c = inr (too-short c.args.words.now c.in_ok-draft.draft c.in_ok-draft.ensures.drafted (inl (c.in-Some-default.field-0-0, c.in-Some-default.is-0)))

pub returns-in-None-None-clause-fault : goal.returns-in-None-None-clause-fault
returns-in-None-None-clause-fault c = inr (too-short c.args.words.now c.in_ok-draft.draft c.in_ok-draft.ensures.drafted (inr c.in-None-None.is-1))

pub returns-in-None-Some-clause-found : goal.returns-in-None-Some-clause-found
returns-in-None-Some-clause-found c =
    rw c.options-options.ensures (ended c.args.words.now c.in_ok-draft.draft c.in-None-Some.job c.in_ok-draft.ensures.drafted c.in-None-Some.is-0 c.in-None-Some.is-1)
