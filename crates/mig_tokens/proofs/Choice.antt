-- Parts with a choice.
use Rattle.std.proofs.Common.{◌≡◌, Bool, true, false, List, ◌++◌, Option, ◌⊎◌, inl, inr, sym, ◌∙◌, subst}
use Rattle.mig_tokens.specs.declared.token.Token.{Token}
use Rattle.mig_tokens.specs.Marked.{Marked, bare, head, first_is}
use Rattle.mig_tokens.specs.Reading.{Read, choice_at}
use Rattle.mig_tokens.proofs.Laws.{Either, choice_law, respelled}
use Rattle.mig_tokens.proofs.Steps.{Part, Spelt}

-- one part or the other; each value is of one kind
pub either : {B : Type 0} {p q : List Token → Read B} {spell : B → List Marked} {F G H : B → Type 0} {N : Option Token → Type 0} (begins : Token → Bool)
    → Part p spell F N → Part q spell G N
    → ((y : B) → F y ⊎ G y → H y) → ((y : B) → H y → F y ⊎ G y)
    → ((y : B) (rest : List Token) → F y → N (head rest) → first_is begins (bare (spell y) ++ rest) ≡ true)
    → ((y : B) (rest : List Token) → G y → N (head rest) → first_is begins (bare (spell y) ++ rest) ≡ false)
    → Part (choice_at begins p q) spell H N
either {B} {p} {q} {spell} {F} {G} {H} {N} begins one two to from first second = record {
  law = respelled (choice_at begins p q) (Either (Spelt spell F) (Spelt spell G)) (Spelt spell H) N to_spelt from_spelt
      (choice_law begins p q (Spelt spell F) (Spelt spell G) N one.law two.law
      (λ ms y rest s n. subst (λ (m : List Marked). first_is begins (bare m ++ rest) ≡ true) (sym s.1) (first y rest s.0 n))
      (λ ms y rest s n. subst (λ (m : List Marked). first_is begins (bare m ++ rest) ≡ false) (sym s.1) (second y rest s.0 n)));
  example = one.example;
  fits = to one.example (inl one.fits);
}
  where
    to_spelt : (ms : List Marked) (y : B) → Either (Spelt spell F) (Spelt spell G) ms y → Spelt spell H ms y
    to_spelt ms y (inl s) = (to y (inl s.0), s.1)
    to_spelt ms y (inr s) = (to y (inr s.0), s.1)

    sided : (ms : List Marked) (y : B) → ms ≡ spell y → F y ⊎ G y → Either (Spelt spell F) (Spelt spell G) ms y
    sided ms y e (inl f) = inl (f, e)
    sided ms y e (inr g) = inr (g, e)

    from_spelt : (ms : List Marked) (y : B) → Spelt spell H ms y → Either (Spelt spell F) (Spelt spell G) ms y
    from_spelt ms y s = sided ms y s.1 (from y s.0)

-- the same spelling, for what fits
pub respell : {B : Type 0} {reads : List Token → Read B} {sp : B → List Marked} {F : B → Type 0} {N : Option Token → Type 0} (sp' : B → List Marked) → ((y : B) → F y → sp y ≡ sp' y) → Part reads sp F N → Part reads sp' F N
respell {reads = reads} {sp = sp} {F = F} {N = N} sp' e p = record {
  law = respelled reads (Spelt sp F) (Spelt sp' F) N (λ ms y s. (s.0, s.1 ∙ e y s.0)) (λ ms y s. (s.0, s.1 ∙ sym (e y s.0))) p.law;
  example = p.example;
  fits = p.fits;
}
