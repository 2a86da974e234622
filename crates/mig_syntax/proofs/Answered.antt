-- What is answered for a text, by the tree that was read and the check of what the tree says.
use Rattle.std.proofs.Common.{◌≡◌, ℕ, List, Result, Ok, Err, inl, inr, refl, sym, ap, ◌∙◌, subst}
use Rattle.mig_schema.specs.declared.faults.TypeFault.{TypeFault}
use Rattle.mig_schema.specs.declared.faults.TypeFault.TheVariants as typing
use Rattle.mig_tokens.specs.declared.fault.Misread.{Misread}
use Rattle.mig_tokens.specs.declared.fault.Misread.TheVariants as misread
use Rattle.mig_tokens.specs.Marked.{Marked}
use Rattle.mig_tokens.specs.Refused.{IsPlacedAnswer}
use Rattle.mig_tokens.specs.Texts.{IsTextOf}
use Rattle.mig_syntax.specs.declared.fault.TextFault.{TextFault}
use Rattle.mig_syntax.specs.declared.fault.TextFault.TheVariants as fault
use Rattle.mig_syntax.specs.Faults.{text_fault, type_fault}
use Rattle.mig_syntax.specs.Named.{IsNamedText, IsTypedAnswer}
use Rattle.mig_syntax.specs.TypingFault.{IsChecked}

module _ {A B : Type 0} (spell : A → List Marked) (Fits : A → Type 0) (name : A → B) (Typed : B → Type 0) (IsFault : B → TypeFault → Type 0) (bytes : List ℕ) where
  abbrev Answer : Result B TextFault → Type 0
  Answer r = IsTypedAnswer spell Fits name Typed IsFault bytes r

  abbrev Tree : Result A Misread → Type 0
  Tree r = IsPlacedAnswer spell Fits bytes r

  pub memory : Answer (Err fault.Memory)
  memory = record {
    found = tt;
    only = λ x h. inr refl;
    wrong = λ l c e. absurd cc;
    only_wrong = λ l c h. inr refl;
    past = λ w l e. absurd cc;
    only_past = λ w l h. inr refl;
    typing = λ f e. absurd cc;
    only_typing = λ f h. inr refl;
  }

  -- ---- no tree was read

  wrong_token : (line column : ℕ) → Tree (Err (misread.At line column)) → Answer (Err (fault.At line column))
  wrong_token line column a = record {
    found = tt;
    only = λ x h. absurd (none h.text.tree h.text.text);
    wrong = λ l c e. a.wrong l c cc;
    only_wrong = λ l c h. elim (a.only_wrong l c h) [ inl e ↦ inl cc | inr e ↦ absurd cc ];
    past = λ w l e. absurd cc;
    only_past = λ w l h. elim (a.only_past w l h) [ inl e ↦ absurd cc | inr e ↦ absurd cc ];
    typing = λ f e. absurd cc;
    only_typing = λ f h. absurd (none h.text.tree h.text.text);
  }
    where
      none : (t : A) → IsTextOf spell Fits bytes t → ⊥
      none t h = elim (a.only t h) [ inl e ↦ absurd cc | inr e ↦ absurd cc ]

  past_limit : (which : _) (line : ℕ) → Tree (Err (misread.Limit which line)) → Answer (Err (fault.Limit which line))
  past_limit which line a = record {
    found = tt;
    only = λ x h. absurd (none h.text.tree h.text.text);
    wrong = λ l c e. absurd cc;
    only_wrong = λ l c h. elim (a.only_wrong l c h) [ inl e ↦ absurd cc | inr e ↦ absurd cc ];
    past = λ w l e. a.past w l cc;
    only_past = λ w l h. elim (a.only_past w l h) [ inl e ↦ inl cc | inr e ↦ absurd cc ];
    typing = λ f e. absurd cc;
    only_typing = λ f h. absurd (none h.text.tree h.text.text);
  }
    where
      none : (t : A) → IsTextOf spell Fits bytes t → ⊥
      none t h = elim (a.only t h) [ inl e ↦ absurd cc | inr e ↦ absurd cc ]

  pub unread : (m : Misread) (r : Result B TextFault) → Tree (Err m) → r ≡ Err (text_fault m) → Answer r
  unread m r a e = subst Answer (sym e) (by m a)
    where
      by : (m : Misread) → Tree (Err m) → Answer (Err (text_fault m))
      by misread.Memory a = memory
      by (misread.At line column) a = wrong_token line column a
      by (misread.Limit which line) a = past_limit which line a

  -- ---- a tree was read, and the value that it says was checked

  module _ (tree : A) (a : Tree (Ok tree)) (x : B) (is : x ≡ name tree) where
    text_of : IsNamedText spell Fits name bytes x
    text_of = record { tree = tree; text = a.found; named = sym is }

    -- the bytes say nothing else
    one_value : (y : B) → IsNamedText spell Fits name bytes y → y ≡ x
    one_value y h =
        elim (a.only h.tree h.text) [
          | inl e ↦ let same : h.tree ≡ tree = cc in sym h.named ∙ ap name same ∙ sym is
          | inr e ↦ absurd cc
        ]

    pub took : (u : Unit {0}) → IsChecked (Typed x) (IsFault x) (Ok u) → Answer (Ok x)
    took u c = record {
      found = record { text = text_of; typed = c.0 };
      only = λ y h. inl (ap (λ (v : B). Ok v) (sym (one_value y h.text)));
      wrong = λ l k e. absurd cc;
      only_wrong = λ l k h. elim (a.only_wrong l k h) [ inl e ↦ absurd cc | inr e ↦ absurd cc ];
      past = λ w l e. absurd cc;
      only_past = λ w l h. elim (a.only_past w l h) [ inl e ↦ absurd cc | inr e ↦ absurd cc ];
      typing = λ f e. absurd cc;
      only_typing = λ f h. absurd (c.1 f (subst (λ (v : B). IsFault v f) (one_value h.value h.text) h.first));
    }

    broken : (e : TypeFault) → IsFault x e → ((g : TypeFault) → IsFault x g → e ≡ g) → (Typed x → ⊥) → Answer (Err (fault.Typing e))
    broken e first one untyped = record {
      found = tt;
      only = λ y h. absurd (untyped (subst Typed (one_value y h.text) h.typed));
      wrong = λ l k e. absurd cc;
      only_wrong = λ l k h. elim (a.only_wrong l k h) [ inl e ↦ absurd cc | inr e ↦ absurd cc ];
      past = λ w l e. absurd cc;
      only_past = λ w l h. elim (a.only_past w l h) [ inl e ↦ absurd cc | inr e ↦ absurd cc ];
      typing = λ f k. let same : e ≡ f = cc in record { value = x; text = text_of; first = subst (IsFault x) same first };
      only_typing = λ f h. inl (ap (λ (g : TypeFault). Err (fault.Typing g)) (one f (subst (λ (v : B). IsFault v f) (one_value h.value h.text) h.first)));
    }

    pub failed : (e : TypeFault) (r : Result B TextFault) → IsChecked {A = Unit {0}} (Typed x) (IsFault x) (Err e) → r ≡ Err (type_fault e) → Answer r
    failed e r c k = subst Answer (sym k) (by e c)
      where
        by : (e : TypeFault) → IsChecked {A = Unit {0}} (Typed x) (IsFault x) (Err e) → Answer (Err (type_fault e))
        by typing.Memory c = memory
        by (typing.Schema side rule i j) c = elim c [ inl m ↦ absurd cc | inr h ↦ broken (typing.Schema side rule i j) h.0 h.1.0 h.1.1 ]
        by (typing.Program rule i j) c = elim c [ inl m ↦ absurd cc | inr h ↦ broken (typing.Program rule i j) h.0 h.1.0 h.1.1 ]
        by (typing.Hint rule i) c = elim c [ inl m ↦ absurd cc | inr h ↦ broken (typing.Hint rule i) h.0 h.1.0 h.1.1 ]
