-- A body that variables outside it meet may be decided.
use Rattle.std.proofs.Common.{◌≡◌, ℕ, Bool, true, false, ◌&&◌, List, [], ◌∷◌, Some, None, refl, sym, subst, ◌∙◌}
use Rattle.std.specs.List.{list_all}
use Rattle.std.proofs.lemmas.Bool.{and_parts}
use Rattle.std.proofs.lemmas.Option.{same_Some}
use Rattle.mig_schema.specs.declared.tables.Kind.{Kind}
use Rattle.mig_meaning.specs.declared.relating.Invariant.{Invariant}
use Rattle.mig_meaning.specs.Lists.{Each}
use Rattle.mig_algebra.specs.declared.atoms.Var.{Var}
use Rattle.mig_algebra.specs.declared.literals.Inner.{Inner}
use Rattle.mig_algebra.specs.declared.literals.Lit.{Lit, Cmp, Other, Any', items-the_row-Lit}
use Rattle.mig_algebra.specs.declared.literals.Lit.TheVariants.{Any}
use Rattle.mig_algebra.specs.declared.terms.Term.{Term}
use Rattle.mig_algebra.specs.Proper.{Sides, IsProperTerm}
use Rattle.mig_algebra.proofs.OrderLaws.{by_list}
use Rattle.mig_replacing.specs.Replaced.{replaced, FitIn, SameAmong}
use Rattle.mig_obligations.specs.Settings.{Moment, setting_of, IsMoment}
use Rattle.mig_steps.specs.Bodies.{by_body}
use Rattle.mig_steps.specs.Sound.{IsSoundAtLiterals}
use Rattle.mig_steps.specs.Spots.{Seen, spot_at}
use Rattle.mig_steps.proofs.Moments.{sound-at}
use Rattle.mig_steps.proofs.Options.{cond-then}
use Rattle.mig_steps.proofs.SpotPlaces.{place-of}
use Rattle.mig_folding.specs.Found.{stand_for, met_alternatives, found_in, found}
use Rattle.mig_folding.specs.Known.{is_known}
use Rattle.mig_folding.proofs.FoundKeeps.{found-keeps}

-- what the rule asks of a body, and what it gives
pub record Finds (names : List ℕ) (s : Seen) (alts : List (List Lit)) : Type 0 where
  pub held : Bool
  pub body : Inner
  pub lit : s.lit ≡ Any held body
  pub stand : stand_for s.scope names body.vars ≡ true
  pub known : list_all (is_known s names) body.lits ≡ true
  pub made : met_alternatives held ≡ alts

pub finds : (names : List ℕ) (s : Seen) (alts : List (List Lit)) → found names s ≡ Some alts → Finds names s alts
finds names s alts g = at-lit s.lit refl g
  where
    at-lit : (l : Lit) → s.lit ≡ l → by_body (found_in names s) None l ≡ Some alts → Finds names s alts
    at-lit (Cmp op a b) is h = cc
    at-lit (Other a b) is h = cc
    at-lit (Any' held vars n row) is h =
        let lits = items-the_row-Lit _ row in
        let k = cond-then (stand_for s.scope names vars && list_all (is_known s names) lits) (Some (met_alternatives held)) alts h in
        let a = and_parts (stand_for s.scope names vars) (list_all (is_known s names) lits) k.0 in
        record {
          held = held;
          body = record { vars = vars; lits = lits };
          lit = is ∙ sym (by_list held vars n row);
          stand = a.0;
          known = a.1;
          made = same_Some (met_alternatives held) alts k.1;
        }

-- ---- the rule

met-fit : (p : Sides) (scope : List Var) (h : Bool) → Each (FitIn p scope) (met_alternatives h)
met-fit p scope true = (record { fits = refl; oriented = refl }, tt)
met-fit p scope false = tt

module _ (p : Sides) (invs : List Invariant) where
  fits : (kinds : List Kind) (t : Term) (path args : List ℕ) (s : Seen) (alts : List (List Lit)) → IsProperTerm p kinds t → spot_at t path ≡ Some s → found args s ≡ Some alts → Each (FitIn p s.scope) alts
  fits kinds t path args s alts h is g = let q = finds args s alts g in subst (Each (FitIn p s.scope)) q.made (met-fit p s.scope q.held)

  bag : (m : Moment) → IsMoment p invs m → (kinds : List Kind) (t : Term) (path args : List ℕ) (s : Seen) (alts : List (List Lit)) → IsProperTerm p kinds t → spot_at t path ≡ Some s → found args s ≡ Some alts → SameAmong (setting_of p m) (t ∷ []) (replaced t path alts)
  bag m at kinds t path args s alts h is g =
      let q = finds args s alts g in
      let there = place-of t path s is in
      subst (λ a. SameAmong (setting_of p m) (t ∷ []) (replaced t path a)) q.made
      (found-keeps (setting_of p m) t path s there.0 q.held q.body args (sound-at p invs m at kinds t h) there.1 there.2 (there.2.lit ∙ q.lit) q.stand q.known)

pub found-sound : (p : Sides) (invs : List Invariant) → IsSoundAtLiterals p invs found
found-sound p invs = record { fits = fits p invs; bag = bag p invs }
