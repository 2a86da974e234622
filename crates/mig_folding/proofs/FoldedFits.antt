-- A folded body fits where the body stood.
use Rattle.std.proofs.Common.{◌≡◌, ℕ, Bool, true, false, ◌&&◌, List, [], ◌∷◌, ◌++◌, ap, ap₂, ◌∙◌, Some}
use Rattle.std.specs.List.{list_all}
use Rattle.mig_meaning.specs.declared.relating.View.{View}
use Rattle.mig_meaning.specs.declared.relating.Invariant.TheVariants.{Views}
use Rattle.mig_meaning.specs.Lists.{Each}
use Rattle.mig_algebra.specs.declared.atoms.Var.{Var}
use Rattle.mig_algebra.specs.declared.literals.Inner.{Inner}
use Rattle.mig_algebra.specs.declared.literals.Lit.{Lit}
use Rattle.mig_algebra.specs.declared.literals.Lit.TheVariants.{Any}
use Rattle.mig_algebra.specs.Proper.{Sides, var_fits}
use Rattle.mig_algebra.proofs.SortedFits.{any_fits, any_oriented}
use Rattle.mig_replacing.specs.Replaced.{FitIn, spread}
use Rattle.mig_obligations.specs.Shaped.{is_shaped}
use Rattle.mig_folding.specs.Folding.{foldin_of}
use Rattle.mig_folding.proofs.FoldProper.{body-proper}

-- a folded body fits where the body stood
pub folded-fits : (p : Sides) (source target : View) (xs : List ℕ) (scope : List Var) (context : List Lit) (held : Bool) (b c : Inner) → is_shaped p.source p.target (Views source target) ≡ true → list_all (var_fits p) b.vars ≡ true → FitIn p (scope ++ b.vars) b.lits → foldin_of source target xs scope context b ≡ Some c → Each (FitIn p scope) (spread held (c ∷ []))
folded-fits p source target xs scope context held b c shaped vars lits is = go held
  where
    whole : (list_all (var_fits p) c.vars ≡ true) × FitIn p (scope ++ c.vars) c.lits
    whole = body-proper p source target xs scope context b c shaped vars lits is

    one : (held : Bool) → FitIn p scope (Any held c ∷ [])
    one held = record {
      fits = ap (λ x. x && true) (any_fits p scope held c.vars c.lits ∙ ap₂ (λ x y. x && y) whole.0 whole.1.fits);
      oriented = ap (λ x. x && true) (any_oriented held c.vars c.lits ∙ whole.1.oriented);
    }

    go : (held : Bool) → Each (FitIn p scope) (spread held (c ∷ []))
    go true = (one true, tt)
    go false = (one false, tt)
