use Rattle.std.proofs.Common.{◌≡◌, ◌*◌, ◌^◌, ◌<◌, ◌≤◌, ◌∷◌, [], Some, List, true, false, length, map}
use Rattle.mig_schema.specs.declared.programs.Cmp.{Cmp}
use Rattle.mig_schema.specs.declared.programs.Joined.{Joined}
use Rattle.mig_schema.specs.Joins.{is_among}
use Rattle.mig_meaning.specs.declared.states.Placed.{Placed}
use Rattle.mig_meaning.specs.declared.states.State.{State}
use Rattle.mig_meaning.specs.Conditions.{Given}
use Rattle.mig_meaning.specs.Lists.{Each, In}
use Rattle.mig_storage.specs.Layout.{kinds_at, of_kinds}
use Rattle.mig_storage.specs.Meaning.{Keeps}
use Rattle.mig_calls.specs.Fits.{AllJoinedFit}
use Rattle.mig_calls.specs.Leading.{IsCoverAt}
use Rattle.mig_calls.proofs.back.first_from.Given as goal

abbrev pub invariant-loop-left : goal.invariant-loop-left
invariant-loop-left g l =
    let now = g.S.Store.meaning l.store in
    let then_ = g.S.Store.meaning l.fn.store in
    record {
      later : then_.faults ≤ now.faults;
      whole : now.broken ≡ false;
      keeps : Keeps then_ now;
      short : length l.left * 20 < 2 ^ 64;
      part : Each (λ m. In m l.join.more) l.left;
      fits : AllJoinedFit then_.layout (l.join.first ∷ []) l.left;
      among : is_among l.at (l.join.first ∷ map (λ (m : Joined). m.table) l.left) ≡ true;
      kinds : Each (λ (p : Placed). of_kinds (kinds_at then_.layout l.at) p.row.values ≡ true) l.rows;
      cover : (h : Given) (s : State) (cases : List (List Cmp)) → then_.told ≡ Some s → IsCoverAt h s l.join cases l.fn.table l.fn.rows → IsCoverAt h s l.join cases l.at l.rows;
    }

abbrev pub decreases-loop-left : goal.decreases-loop-left
decreases-loop-left g l = length l.left
