use Rattle.std.proofs.Common.{rules, ℕ}
use Rattle.mig_schema.specs.declared.values.Value.{Value}
use Rattle.mig_calls.specs.Pins.{IsPin}
use Rattle.mig_meaning.specs.Told.{given_told}
use Rattle.mig_calls.proofs.EffectLemmas.{if-ok}
use Rattle.mig_calls.proofs.LeadLemmas.{first-of}
use Rattle.mig_calls.proofs.PinLemmas.{if-none, no-case-pins}
use Rattle.mig_calls.proofs.pins.+case_pin.Goals as goal

pub returns-in-None-clause-none : goal.returns-in-None-clause-none
returns-in-None-clause-none t c =
    let none : (n : ℕ) → (v : Value) → IsPin (given_told c.args.given.now) c.args.t n v c.cmp-item.result → ⊥ = search rules in
    let whole = first-of c.cmp-item.result c.args.case.now c.in-len1-up.len_at_least c.cmp-item.is in
    if-ok c.case_pin.result _ _ (λ o h. if-none o _ _ (λ rest n v. no-case-pins (given_told c.args.given.now) c.args.t n v c.cmp-item.result _ c.args.case.now whole (none n v) (rest n v)) h) c.case_pin.ensures.none
