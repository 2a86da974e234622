use Rattle.std.proofs.Common.{ℕ, ◌<◌, get_or, length}
use Rattle.mig_sat.specs.declared.clauses.SatLit.{SatLit}
use Rattle.mig_sat.specs.Agendas.{list_number, IsListed, IsGrown}
use Rattle.mig_sat.proofs.listing.enter_all.Given as goal

abbrev pub invariant-loop-lit : goal.invariant-loop-lit
invariant-loop-lit l = record {
  grown : IsGrown l.fn.lists l.lists;
  listed : (k : ℕ) (d : SatLit) → k < l.lit-index → list_number (get_or l.lits k d) < length l.lists → IsListed l.lists (list_number (get_or l.lits k d)) l.clause;
}
