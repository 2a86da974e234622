use Rattle.std.proofs.Common.{◌≡◌, ◌+◌, ◌<◌, ◌^◌, inl, inr, sym, get_or, Fits, w64, arith}
use Rattle.std.proofs.lemmas.Bool.Decides.{eqb_tells}
use Rattle.std.proofs.lemmas.List.Folds.{list_any_none}
use Rattle.std.proofs.lemmas.Grind.{get_or_default_zero}
use Rattle.mig_storage.proofs.fault_store.is_next.Goals as goal

-- no number of the list is past the largest `u64`
pub returns-in-None : goal.returns-in-None
returns-in-None c =
    sym (list_any_none _ c.args.fails.now (λ k x below.
    let fits : Fits w64 (get_or c.args.fails.now k 0) = c.type_inv.fails k in
    let same : get_or c.args.fails.now k x ≡ get_or c.args.fails.now k 0 = get_or_default_zero c.args.fails.now k x below in
    let past : c.args.calls + 1 < 2 ^ 64 → ⊥ = c.in-None.ensures in
    elim (eqb_tells (get_or c.args.fails.now k x) (c.args.calls + 1)) [ inl found ↦ absurd (past (omega (arith, fits.fits, same, found.1))) | inr other ↦ other.0 ]))
