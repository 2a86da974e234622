use Rattle.mig_meaning.specs.Told.{given_told}
use Rattle.mig_calls.proofs.EffectLemmas.{if-ok}
use Rattle.mig_calls.proofs.PinLemmas.{if-none, no-cases-pin}
use Rattle.mig_calls.proofs.pins.cases_pin.Goals as goal

pub returns-in-len1-clause-none : goal.returns-in-len1-clause-none
returns-in-len1-clause-none c =
    if-ok c.case_pin.result _ _ (λ o h. if-none o _ _ (λ case n v. no-cases-pin (given_told c.args.given.now) c.args.t n v c.case-item.result c.args.cases.now c.in-len1.len_at_least c.in-len1.len_below c.case-item.is (rw c.as_slice.ensures at (case n v))) h) c.case_pin.ensures.none
