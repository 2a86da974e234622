use Rattle.std.proofs.Common.{◌≡◌, ℕ, ◌+◌, ◌<◌, ◌++◌, ◌∷◌, [], false, length, get_or, set, ap, sym, ◌∙◌, subst, arith}
use Rattle.std.proofs.lemmas.List.{get_or_default}
use Rattle.mig_sat.specs.declared.clauses.SatLit.{SatLit}
use Rattle.mig_sat.specs.Agendas.{list_number, IsGrown, IsListed}
use Rattle.mig_sat.proofs.Growing.{grown_same, grown_again, entered_grown, listed_next}
use Rattle.mig_sat.proofs.listing.enter_all.Goals as goal

pub loop-lit-init : goal.loop-lit-init
loop-lit-init c = record { grown = grown_same c.args.lists.now; listed = λ k d lt. absurd (omega (arith, lt)) }

pub loop-lit-preserved : goal.loop-lit-preserved
loop-lit-preserved c =
    let lists = c.loop-lit.lists in
    let lit = get_or c.args.lits.now c.loop-lit.lit-index (record { var = 0; positive = false }) in
    let e : c.enter.new.lists ≡ set lists (list_number lit) (get_or lists (list_number lit) [] ++ c.args.clause ∷ []) = c.in_ok-enter.ensures ∙ ap (λ k. set lists k (get_or lists k [] ++ c.args.clause ∷ [])) c.list_of.ensures in
    record {
      grown = subst (IsGrown c.args.lists.now) (sym e) (grown_again c.args.lists.now lists (set lists (list_number lit) (get_or lists (list_number lit) [] ++ c.args.clause ∷ [])) c.loop-lit.invariant.grown (entered_grown lists (list_number lit) c.args.clause));
      listed = subst (λ ls. (k : ℕ) (d : SatLit) → k < c.loop-lit.lit-index + 1 → list_number (get_or c.args.lits.now k d) < length ls → IsListed ls (list_number (get_or c.args.lits.now k d)) c.args.clause) (sym e) (listed_next lists c.args.lits.now c.loop-lit.lit-index c.args.clause lit c.loop-lit.invariant.listed (λ d. get_or_default c.args.lits.now c.loop-lit.lit-index (record { var = 0; positive = false }) d c.loop-lit-test.true));
    }
