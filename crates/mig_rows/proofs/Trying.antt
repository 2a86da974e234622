-- What is tried for a rule on bodies, by the body that a path leads to.
use Rattle.std.proofs.Common.{◌≡◌, ℕ, Bool, true, List, [], Option, Some, sym, subst}
use Rattle.std.specs.Option.{option_and_then}
use Rattle.mig_algebra.specs.declared.atoms.Var.{Var}
use Rattle.mig_algebra.specs.declared.literals.Lit.{Lit, Cmp, Other, Any', items-the_row-Lit}
use Rattle.mig_algebra.specs.declared.terms.Term.{Term}
use Rattle.mig_listing.specs.Listing.{IsIn, Rises}
use Rattle.mig_listing.specs.Orders.{Before}
use Rattle.mig_replacing.specs.Replaced.{replaced}
use Rattle.mig_steps.specs.Bodies.{by_body, is_body}
use Rattle.mig_steps.specs.Offering.{OffersAlone}
use Rattle.mig_steps.specs.Paths.{body_paths}
use Rattle.mig_steps.specs.Spots.{Seen, spot_at}
use Rattle.mig_steps.specs.Ways.{LitRule, at_literal}
use Rattle.mig_steps.proofs.OfferedPaths.{rises-from, spot-in}
use Rattle.mig_steps.proofs.Options.{and-then, map-some}

-- a rule on literals gives something where a path leads to one
pub record Gives (gives : LitRule) (path bs : List ℕ) (t : Term) : Type 0 where
  pub spot : Seen
  pub there : spot_at t path ≡ Some spot
  pub alts : List (List Lit)
  pub given : gives bs spot ≡ Some alts

pub gives-at : (gives : LitRule) (path bs : List ℕ) (t : Term) (us : List Term) → at_literal gives path bs t ≡ Some us → Gives gives path bs t
gives-at gives path bs t us h =
    let a = map-some (replaced t path) (option_and_then (gives bs) (spot_at t path)) us h in
    let b = and-then (gives bs) (spot_at t path) a.0 a.1 in
    record { spot = b.0; there = b.1; alts = a.0; given = b.2 }

-- a rule on bodies, whose arguments are listed by what is seen at the path
pub bodies-with : (gives : LitRule) (listed : Option Seen → List (List ℕ)) → ((o : Option Seen) → Rises Before (listed o)) → ((bs : List ℕ) (s : Seen) (alts : List (List Lit)) → gives bs s ≡ Some alts → (is_body s.lit ≡ true) × IsIn bs (listed (Some s))) → OffersAlone (at_literal gives) body_paths (λ path t. listed (spot_at t path))
bodies-with gives listed rises has = record {
  paths_rise = λ t. rises-from true 0 t.lits;
  path_in = λ t path bs us h. let k = gives-at gives path bs t us h in spot-in true t path k.spot (has bs k.spot k.alts k.given).0 k.there;
  args_rise = λ t path. rises (spot_at t path);
  args_in = λ t path bs us h.
      let k = gives-at gives path bs t us h in
      subst (λ o. IsIn bs (listed o)) (sym k.there) (has bs k.spot k.alts k.given).1;
}

-- the rule's list for a literal rises where that for each body does
pub listed-rises : (f : Bool → List Var → List Lit → List (List ℕ)) → ((held : Bool) (vars : List Var) (lits : List Lit) → Rises Before (f held vars lits)) → (l : Lit) → Rises Before (by_body f [] l)
listed-rises f h (Any' held vars n row) = h held vars (items-the_row-Lit _ row)
listed-rises f h (Cmp op a b) = tt
listed-rises f h (Other a b) = tt
