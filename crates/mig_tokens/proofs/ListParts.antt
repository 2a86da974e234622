-- Lists as parts.
use Rattle.std.proofs.Common.{◌≡◌, ℕ, Bool, true, false, List, [], ◌∷◌, ◌++◌, Option, refl, sym, ap, ◌∙◌, subst, append_assoc}
use Rattle.std.specs.List.{AllByRecursion}
use Rattle.std.proofs.lemmas.List.{append-nil}
use Rattle.mig_tokens.specs.declared.token.Token.{Token}
use Rattle.mig_tokens.specs.Marked.{Marked, bare, head, is_at, first_is}
use Rattle.mig_tokens.specs.Forms.{Before, behind, numbered, led, AllOfSome}
use Rattle.mig_tokens.specs.Reading.{Read, give, bind_at, many_at, led_at}
use Rattle.mig_tokens.specs.Pieces.{next}
use Rattle.mig_tokens.proofs.Laws.{Gives, Any, Both, give_law, narrowed, both_law, respelled, bare-append}
use Rattle.mig_tokens.proofs.Many.{Many, many_law}
use Rattle.mig_tokens.proofs.Steps.{Part, Spelt}

-- whether one begins here is seen at its first token
pub begun_behind : (begins : Token → Bool) (front back : List Marked) (rest : List Token) → ((r : List Token) → first_is begins (bare front ++ r) ≡ true) → first_is begins (bare (front ++ back) ++ rest) ≡ true
begun_behind begins front back rest h = ap (λ ts. first_is begins (ts ++ rest)) (bare-append front back) ∙ ap (first_is begins) (append_assoc (bare front) (bare back) rest) ∙ h (bare back ++ rest)

module _ {A : Type 0} (begins : Token → Bool) (takes : A → ℕ) (reads : Before → List Token → Read A) (spell : Before → A → List Marked) (F : A → Type 0) where
  abbrev Each : Before → List Marked → A → Type 0
  Each s = Spelt (spell s) F

  to_spelt : (s : Before) (ms : List Marked) (xs : List A) → Many begins reads (next takes) Each s ms xs → Spelt (numbered takes spell s) (AllByRecursion F) ms xs
  to_spelt s ms [] h = (tt, h)
  to_spelt s ms (x ∷ xs) h =
      let more = to_spelt (behind (takes x) s) h.1 xs h.4 in
      ((h.3.0, more.0), h.2 ∙ ap (λ m. m ++ h.1) h.3.1 ∙ ap (λ m. spell s x ++ m) more.1)

  from_spelt : (s : Before) (ms : List Marked) (xs : List A) → Spelt (numbered takes spell s) (AllByRecursion F) ms xs → Many begins reads (next takes) Each s ms xs
  from_spelt s ms [] h = h.1
  from_spelt s ms (x ∷ xs) h = (spell s x, numbered takes spell (behind (takes x) s) xs, h.1, (h.0.0, refl), from_spelt (behind (takes x) s) (numbered takes spell (behind (takes x) s) xs) xs (h.0.1, refl))

  pub many_part : (NI N : Option Token → Type 0) → ((s : Before) → Part (reads s) (spell s) F NI) → ((s : Before) (x : A) (rest : List Token) → F x → first_is begins (bare (spell s x) ++ rest) ≡ true)
      → ((o : Option Token) → is_at begins o ≡ true → NI o) → ((o : Option Token) → N o → NI o) → ((o : Option Token) → N o → is_at begins o ≡ false)
      → (s : Before) → Part (many_at begins reads (next takes) s) (numbered takes spell s) (AllByRecursion F) N
  many_part NI N part begun before_item before_end ended s = record {
    law = respelled (many_at begins reads (next takes) s) (Many begins reads (next takes) Each s) (Spelt (numbered takes spell s) (AllByRecursion F)) N (to_spelt s) (from_spelt s)
        (many_law begins reads (next takes) Each NI N
        (record { law = λ j. (part j).law; begun = λ j ms x rest h. subst (λ (m : List Marked). first_is begins (bare m ++ rest) ≡ true) (sym h.1) (begun j x rest h.0); before_item = before_item; before_end = before_end; ended = ended }) s);
    example = [];
    fits = tt;
  }

  -- what stands behind something is the next item, or what follows the list
  pub many_fence : (NI N : Option Token → Type 0) → ((s : Before) (x : A) (rest : List Token) → F x → first_is begins (bare (spell s x) ++ rest) ≡ true)
      → ((o : Option Token) → is_at begins o ≡ true → NI o) → ((o : Option Token) → N o → NI o)
      → (s : Before) (xs : List A) (rest : List Token) → AllByRecursion F xs → N (head rest) → NI (head (bare (numbered takes spell s xs) ++ rest))
  many_fence NI N begun before_item before_end s [] rest f n = before_end _ n
  many_fence NI N begun before_item before_end s (x ∷ xs) rest f n = before_item _ (begun_behind begins (spell s x) (numbered takes spell (behind (takes x) s) xs) rest (λ r. begun s x r f.0))

module _ {A : Type 0} (begins : Token → Bool) (takes : A → ℕ) (first reads : Before → List Token → Read A) (sp spell : Before → A → List Marked) (F : A → Type 0) (NI N : Option Token → Type 0)
    (one : (s : Before) → Part (first s) (sp s) F NI) (part : (s : Before) → Part (reads s) (spell s) F NI) (begun : (s : Before) (x : A) (rest : List Token) → F x → first_is begins (bare (spell s x) ++ rest) ≡ true)
    (before_item : (o : Option Token) → is_at begins o ≡ true → NI o) (before_end : (o : Option Token) → N o → NI o) (ended : (o : Option Token) → N o → is_at begins o ≡ false) (s : Before) where
  abbrev rest_at : A → List Token → Read (List A)
  rest_at x = many_at begins reads (next takes) (behind (takes x) s)

  abbrev rest_tokens : A → List A → List Marked
  rest_tokens x = numbered takes spell (behind (takes x) s)

  others : (x : A) → Part (rest_at x) (rest_tokens x) (AllByRecursion F) N
  others x = many_part begins takes reads spell F NI N part begun before_item before_end ended (behind (takes x) s)

  abbrev Others : A → List Marked → List A → Type 0
  Others x = Both (Spelt (rest_tokens x) (AllByRecursion F)) (λ xs. Gives (x ∷ xs))

  to_led : (ms : List Marked) (xs : List A) → Both (Spelt (sp s) F) Others ms xs → Spelt (led takes sp spell s) (AllOfSome F) ms xs
  to_led ms xs b =
      let o = b.5 in
      let back-is : b.1 ≡ o.0 = o.3 ∙ ap (λ m. o.0 ++ m) o.5.0 ∙ append-nil o.0 in
      subst (λ (ys : List A). Spelt (led takes sp spell s) (AllOfSome F) ms ys) (sym o.5.1)
      ((b.4.0, o.4.0), b.3 ∙ ap (λ m. m ++ b.1) b.4.1 ∙ ap (λ m. sp s b.2 ++ m) (back-is ∙ o.4.1))

  from_led : (ms : List Marked) (xs : List A) → Spelt (led takes sp spell s) (AllOfSome F) ms xs → Both (Spelt (sp s) F) Others ms xs
  from_led ms [] h = absurd h.0
  from_led ms (x ∷ xs) h = (sp s x, rest_tokens x xs, x, h.1, (h.0.0, refl), (rest_tokens x xs, [], xs, sym (append-nil (rest_tokens x xs)), (h.0.1, refl), (refl, refl)))

  pub led_part : Part (led_at first begins reads (next takes) s) (led takes sp spell s) (AllOfSome F) N
  unfolding led_at
  led_part = record {
    law = respelled (led_at first begins reads (next takes) s) (Both (Spelt (sp s) F) Others) (Spelt (led takes sp spell s) (AllOfSome F)) N to_led from_led
        (both_law (first s) (λ x. bind_at (rest_at x) (λ xs. give (x ∷ xs))) (Spelt (sp s) F) Others NI N (one s).law
        (λ x. both_law (rest_at x) (λ xs. give (x ∷ xs)) (Spelt (rest_tokens x) (AllByRecursion F)) (λ xs. Gives (x ∷ xs)) N N (others x).law
        (λ xs. narrowed (give (x ∷ xs)) (Gives (x ∷ xs)) Any N (λ o h. tt) (give_law (x ∷ xs)))
        (λ xs. record { value = x ∷ xs; marked = []; spelled = (refl, refl) })
        (λ xs ms ys rest g h. subst (λ (m : List Marked). N (head (bare m ++ rest))) (sym g.0) h))
        (λ x. record { value = x ∷ []; marked = []; spelled = ([], [], [], refl, (tt, refl), (refl, refl)) })
        (λ x ms ys rest b h.
        let whole : ms ≡ rest_tokens x b.2 = b.3 ∙ ap (λ m. b.0 ++ m) b.5.0 ∙ append-nil b.0 ∙ b.4.1 in
        subst (λ (m : List Marked). NI (head (bare m ++ rest))) (sym whole)
        (many_fence begins takes reads spell F NI N begun before_item before_end (behind (takes x) s) b.2 rest b.4.0 h)));
    example = (one s).example ∷ [];
    fits = ((one s).fits, tt);
  }
