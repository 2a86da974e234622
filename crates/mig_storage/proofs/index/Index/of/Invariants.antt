use Rattle.std.proofs.Common.{◌≡◌, ℕ, cond, false}
use Rattle.std.specs.Prelude.{nat_lt}
use Rattle.std.specs.BTreeSet.{contains}
use Rattle.mig_storage.specs.Index.{entry_cmp, code_at, is_code}
use Rattle.mig_storage.proofs.index.Index.of.Given as goal

abbrev pub invariant-loop-place : goal.invariant-loop-place
invariant-loop-place l = record {
  column : l.index.column ≡ l.column;
  entries : (code p : ℕ) → contains entry_cmp l.index.places (code, p) ≡ cond (nat_lt p l.place) (is_code (code_at l.column l.slots p) code) false;
}
