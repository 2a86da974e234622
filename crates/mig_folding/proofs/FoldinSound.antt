-- Variables of a body folded by a view: what stands in its place fits there, and the term has its bag wherever the facts hold.
use Rattle.std.proofs.Common.{◌≡◌, ℕ, Bool, true, List, [], ◌∷◌, ◌++◌, Some, refl, sym, subst, ap, ap₂, ◌∙◌}
use Rattle.std.specs.Prelude.{slice_get}
use Rattle.std.specs.List.{list_all}
use Rattle.std.proofs.lemmas.Bool.{and_parts}
use Rattle.mig_schema.specs.declared.tables.Kind.{Kind}
use Rattle.mig_meaning.specs.declared.relating.Invariant.{Invariant}
use Rattle.mig_meaning.specs.declared.relating.Invariant.TheVariants.{Views, Unique, Apart, Within}
use Rattle.mig_meaning.specs.declared.relating.View.{View}
use Rattle.mig_meaning.specs.Lists.{Each}
use Rattle.mig_algebra.specs.declared.atoms.Var.{Var}
use Rattle.mig_algebra.specs.declared.literals.Inner.{Inner}
use Rattle.mig_algebra.specs.declared.literals.Lit.{Lit, Cmp, Other, Any', items-the_row-Lit}
use Rattle.mig_algebra.specs.declared.literals.Lit.TheVariants.{Any}
use Rattle.mig_algebra.specs.declared.terms.Term.{Term}
use Rattle.mig_algebra.specs.Proper.{Sides, var_fits, lit_fits, lit_oriented, IsProperTerm}
use Rattle.mig_algebra.proofs.OrderLaws.{by_list}
use Rattle.mig_algebra.proofs.SortedFits.{any_fits, any_oriented}
use Rattle.mig_obligations.specs.Fitting.{IsFit}
use Rattle.mig_obligations.specs.Shaped.{is_shaped}
use Rattle.mig_obligations.specs.Settings.{Moment, setting_of, IsMoment}
use Rattle.mig_replacing.specs.Replaced.{spread, replaced, FitIn, SameAmong}
use Rattle.mig_steps.specs.Sound.{IsSoundAtLiterals}
use Rattle.mig_steps.specs.Spots.{Seen, spot_at}
use Rattle.mig_steps.proofs.FitBodies.{fits-at}
use Rattle.mig_steps.proofs.Moments.{sound-at}
use Rattle.mig_steps.proofs.Options.{and-then, map-some, all-get}
use Rattle.mig_steps.proofs.SpotPlaces.{place-of}
use Rattle.mig_folding.specs.Folding.{foldin_of}
use Rattle.mig_folding.specs.Foldins.{one_body, foldin_lit, foldin}
use Rattle.mig_folding.proofs.FoldHosts.{foldin-same}
use Rattle.mig_folding.proofs.FoldProper.{may-fold}
use Rattle.mig_folding.proofs.FoldSound.{view-holds, old-shown, new-shown}
use Rattle.mig_folding.proofs.FoldedFits.{folded-fits}

-- what the rule asks, and what it gives
pub record FoldsInBy (invs : List Invariant) (args : List ℕ) (s : Seen) (alts : List (List Lit)) : Type 0 where
  pub k : ℕ
  pub named : List ℕ
  pub source : View
  pub target : View
  pub held : Bool
  pub body : Inner
  pub inner : Inner
  pub args-are : args ≡ k ∷ named
  pub there : slice_get invs k ≡ Some (Views source target)
  pub lit : s.lit ≡ Any held body
  pub folds : foldin_of source target named s.scope s.around body ≡ Some inner
  pub made : spread held (inner ∷ []) ≡ alts

pub folds-in-by : (invs : List Invariant) (args : List ℕ) (s : Seen) (alts : List (List Lit)) → foldin invs args s ≡ Some alts → FoldsInBy invs args s alts
folds-in-by invs [] s alts g = cc
folds-in-by invs (k ∷ xs) s alts g = let a = and-then (foldin_lit xs s s.lit) (slice_get invs k) alts g in at-lit a.0 a.1 s.lit refl a.2
  where
    at-lit : (i : Invariant) → slice_get invs k ≡ Some i → (l : Lit) → s.lit ≡ l → foldin_lit xs s l i ≡ Some alts → FoldsInBy invs (k ∷ xs) s alts
    at-lit i there (Cmp op a b) is h = cc
    at-lit i there (Other a b) is h = cc
    at-lit (Views source target) there (Any' held vars n row) is h =
        let b : Inner = record { vars = vars; lits = items-the_row-Lit _ row } in
        let m = map-some (one_body held) (foldin_of source target xs s.scope s.around b) alts h in
        record {
          k = k;
          named = xs;
          source = source;
          target = target;
          held = held;
          body = b;
          inner = m.0;
          args-are = refl;
          there = there;
          lit = is ∙ sym (by_list held vars n row);
          folds = m.1;
          made = m.2;
        }
    at-lit (Unique side c) there (Any' held vars n row) is h = cc
    at-lit (Apart side c d) there (Any' held vars n row) is h = cc
    at-lit (Within side c d) there (Any' held vars n row) is h = cc

-- ---- the rule

body-fits : (p : Sides) (scope : List Var) (held : Bool) (b : Inner) → lit_fits p scope (Any held b) ≡ true → lit_oriented (Any held b) ≡ true → (list_all (var_fits p) b.vars ≡ true) × FitIn p (scope ++ b.vars) b.lits
body-fits p scope held b h o =
    let k = and_parts (list_all (var_fits p) b.vars) (list_all (lit_fits p (scope ++ b.vars)) b.lits) (sym (any_fits p scope held b.vars b.lits) ∙ h) in
    (k.0, record { fits = k.1; oriented = sym (any_oriented held b.vars b.lits) ∙ o })

module _ (p : Sides) (invs : List Invariant) (fit : IsFit p invs) where
  shaped-at : (k : ℕ) (source target : View) → slice_get invs k ≡ Some (Views source target) → is_shaped p.source p.target (Views source target) ≡ true
  shaped-at k source target there = all-get (is_shaped p.source p.target) invs k (Views source target) fit.shaped there

  fits : (kinds : List Kind) (t : Term) (path args : List ℕ) (s : Seen) (alts : List (List Lit)) → IsProperTerm p kinds t → spot_at t path ≡ Some s → foldin invs args s ≡ Some alts → Each (FitIn p s.scope) alts
  fits kinds t path args s alts h is g =
      let b = folds-in-by invs args s alts g in
      let there = place-of t path s is in
      let its = fits-at p kinds t path there.0 h there.1 in
      let l = there.2.lit ∙ b.lit in
      let all = body-fits p s.scope b.held b.body (ap₂ (lit_fits p) (sym there.2.scope) (sym l) ∙ its.0) (ap lit_oriented (sym l) ∙ its.1) in
      subst (Each (FitIn p s.scope)) b.made
      (folded-fits p b.source b.target b.named s.scope s.around b.held b.body b.inner (shaped-at b.k b.source b.target b.there) all.0 all.1 b.folds)

  bag : (m : Moment) → IsMoment p invs m → (kinds : List Kind) (t : Term) (path args : List ℕ) (s : Seen) (alts : List (List Lit)) → IsProperTerm p kinds t → spot_at t path ≡ Some s → foldin invs args s ≡ Some alts → SameAmong (setting_of p m) (t ∷ []) (replaced t path alts)
  bag m at kinds t path args s alts h is g =
      let b = folds-in-by invs args s alts g in
      let there = place-of t path s is in
      subst (λ a. SameAmong (setting_of p m) (t ∷ []) (replaced t path a)) b.made
      (foldin-same (setting_of p m) m.old m.new b.source b.target b.named (old-shown p m) (new-shown p m) (view-holds p invs m at b.k b.source b.target b.there) (may-fold p.source p.target b.source b.target (shaped-at b.k b.source b.target b.there))
      t path there.0 b.held b.body b.inner (sound-at p invs m at kinds t h) there.1 (there.2.lit ∙ b.lit)
      (ap₂ (λ (vs : List Var) (ls : List Lit). foldin_of b.source b.target b.named vs ls b.body) there.2.scope there.2.around ∙ b.folds))

pub foldin-sound : (p : Sides) (invs : List Invariant) → IsFit p invs → IsSoundAtLiterals p invs (foldin invs)
foldin-sound p invs fit = record { fits = fits p invs fit; bag = bag p invs fit }
