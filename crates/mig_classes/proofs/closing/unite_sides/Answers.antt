use Rattle.std.proofs.Common.{◌∙◌, [], ◌∷◌, inl, inr, refl, sym, ap, subst}
use Rattle.mig_meaning.specs.Lists.{In}
use Rattle.mig_algebra.specs.declared.literals.Lit.{Lit, Cmp}
use Rattle.mig_classes.specs.Classes.{equated}
use Rattle.mig_classes.proofs.closing.unite_sides.Goals as goal

pub number_of-left-requires-clause-there : goal.number_of-left-requires-clause-there
number_of-left-requires-clause-there c =
    let x = c.in-Cmp in
    c.requires.there x.left (subst (λ (l : Lit). In x.left (equated (l ∷ []))) (sym (x.is ∙ ap (λ o. Cmp o x.left x.right) c.in-Eq.is)) (inl refl))

pub number_of-right-requires-clause-there : goal.number_of-right-requires-clause-there
number_of-right-requires-clause-there c =
    let x = c.in-Cmp in
    c.requires.there x.right (subst (λ (l : Lit). In x.right (equated (l ∷ []))) (sym (x.is ∙ ap (λ o. Cmp o x.left x.right) c.in-Eq.is)) (inr (inl refl)))
