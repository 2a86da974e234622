-- All variables of bodies are tried by which a view folds.
use Rattle.std.proofs.Common.{◌≡◌, ℕ, Bool, true, List, [], ◌∷◌, ◌++◌, Option, Some, None, sym, ap, subst, length-append}
use Rattle.std.specs.Option.{option_and_then}
use Rattle.mig_meaning.specs.declared.relating.Invariant.{Invariant}
use Rattle.mig_algebra.specs.declared.atoms.Var.{Var}
use Rattle.mig_algebra.specs.declared.literals.Lit.{Lit, Cmp, Other, Any', items-the_row-Lit}
use Rattle.mig_algebra.specs.declared.terms.Term.{Term}
use Rattle.mig_listing.specs.Listing.{IsIn, Rises}
use Rattle.mig_listing.specs.Orders.{Before}
use Rattle.mig_replacing.specs.Given.{plain}
use Rattle.mig_replacing.specs.Replaced.{replaced}
use Rattle.mig_steps.specs.Bodies.{by_body, is_body}
use Rattle.mig_steps.specs.Offering.{OffersAlone}
use Rattle.mig_steps.specs.Paths.{body_paths}
use Rattle.mig_steps.specs.Spots.{Seen, spot_at}
use Rattle.mig_steps.specs.Ways.{LitRule, at_literal}
use Rattle.mig_steps.proofs.Leading.{of-body}
use Rattle.mig_steps.proofs.OfferedPaths.{rises-from, spot-in}
use Rattle.mig_steps.proofs.Options.{and-then, map-some, cond-then}
use Rattle.mig_folding.specs.Folding.{host_folds, body_fold, folded_body}
use Rattle.mig_folding.specs.Foldins.{foldin, body_host, foldin_of_lit, foldin_at, foldin_args}
use Rattle.mig_folding.specs.Naming.{host_args}
use Rattle.mig_folding.proofs.FoldOffered.{host-rises, host-has}
use Rattle.mig_folding.proofs.FoldinSound.{folds-in-by}

-- a rule on literals gives something where a path leads to one
record Gives (gives : LitRule) (path bs : List ℕ) (t : Term) : Type 0 where
  spot : Seen
  there : spot_at t path ≡ Some spot
  alts : List (List Lit)
  given : gives bs spot ≡ Some alts

gives-at : (gives : LitRule) (path bs : List ℕ) (t : Term) (us : List Term) → at_literal gives path bs t ≡ Some us → Gives gives path bs t
gives-at gives path bs t us h =
    let a = map-some (replaced t path) (option_and_then (gives bs) (spot_at t path)) us h in
    let b = and-then (gives bs) (spot_at t path) a.0 a.1 in
    record { spot = b.0; there = b.1; alts = a.0; given = b.2 }

-- a rule on bodies, whose arguments are listed by what is seen at the path
bodies-with : (gives : LitRule) (listed : Option Seen → List (List ℕ)) → ((o : Option Seen) → Rises Before (listed o)) → ((bs : List ℕ) (s : Seen) (alts : List (List Lit)) → gives bs s ≡ Some alts → (is_body s.lit ≡ true) × IsIn bs (listed (Some s))) → OffersAlone (at_literal gives) body_paths (λ path t. listed (spot_at t path))
bodies-with gives listed rises has = record {
  paths_rise = λ t. rises-from true 0 t.lits;
  path_in = λ t path bs us h. let k = gives-at gives path bs t us h in spot-in true t path k.spot (has bs k.spot k.alts k.given).0 k.there;
  args_rise = λ t path. rises (spot_at t path);
  args_in = λ t path bs us h.
      let k = gives-at gives path bs t us h in
      subst (λ o. IsIn bs (listed o)) (sym k.there) (has bs k.spot k.alts k.given).1;
}

-- the list for a literal rises where that for each body does
listed-rises : (f : Bool → List Var → List Lit → List (List ℕ)) → ((held : Bool) (vars : List Var) (lits : List Lit) → Rises Before (f held vars lits)) → (l : Lit) → Rises Before (by_body f [] l)
listed-rises f h (Any' held vars n row) = h held vars (items-the_row-Lit _ row)
listed-rises f h (Cmp op a b) = tt
listed-rises f h (Other a b) = tt

pub foldin-offered : (invs : List Invariant) → OffersAlone (at_literal (foldin invs)) body_paths (foldin_args invs)
foldin-offered invs = bodies-with (foldin invs) (foldin_at invs) rises has-args
  where
    rises : (o : Option Seen) → Rises Before (foldin_at invs o)
    rises None = tt
    rises (Some s) = listed-rises (λ held vars lits. host_args invs (body_host s.scope s.around vars lits)) (λ held vars lits. host-rises invs (body_host s.scope s.around vars lits)) s.lit

    has-args : (bs : List ℕ) (s : Seen) (alts : List (List Lit)) → foldin invs bs s ≡ Some alts → (is_body s.lit ≡ true) × IsIn bs (foldin_at invs (Some s))
    has-args bs s alts g =
        let b = folds-in-by invs bs s alts g in
        let f = body_fold b.source b.target b.named s.scope b.body in
        let c = cond-then (host_folds f (s.scope ++ b.body.vars) (s.around ++ plain b.body.lits) b.body.lits) (Some (folded_body f b.body)) b.inner b.folds in
        let inside = host-has invs (body_host s.scope s.around b.body.vars b.body.lits) (length-append s.scope b.body.vars) b.k b.source b.target b.named b.body.lits b.there c.0 in (
          ap is_body b.lit,
          subst (λ bs. IsIn bs (foldin_of_lit invs s.scope s.around s.lit)) (sym b.args-are) (subst (λ ls. IsIn (b.k ∷ b.named) ls) (sym (of-body (λ held vars lits. host_args invs (body_host s.scope s.around vars lits)) [] s.lit b.held b.body b.lit)) inside),
        )
