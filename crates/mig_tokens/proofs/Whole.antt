-- What is read of a whole text, and what its grammar says of it.
use Rattle.std.proofs.Common.{◌≡◌, ℕ, ◌+◌, ◌≤◌, List, [], ◌∷◌, ◌++◌, length, Option, Some, None, ◌⊎◌, inl, inr, refl, sym, ap, ◌∙◌, subst, append_assoc, arith}
use Rattle.std.proofs.lemmas.List.{append-nil, length-append}
use Rattle.mig_tokens.specs.declared.token.Token.{Token}
use Rattle.mig_tokens.specs.declared.token.Token.TheVariants.{End}
use Rattle.mig_schema.specs.declared.limits.Limit.{Limit}
use Rattle.mig_tokens.specs.Marked.{Marked, clean, bare}
use Rattle.mig_tokens.specs.Reading.{Read, Took, Wrong, Past}
use Rattle.mig_tokens.specs.Places.{Begins, IsText, WrongAfter, PastAfter}
use Rattle.mig_tokens.proofs.Laws.{Law, Told, Errs, Any, verdict, clean-append, bare-append, bare-clean}
use Rattle.mig_tokens.proofs.Many.{one_cut}
use Rattle.mig_tokens.proofs.Steps.{Spelt}

-- the end stands last and once
pub record Closed (ts : List Token) : Type 0 where
  pub body : List Token
  pub is : ts ≡ body ++ End ∷ []
  pub once : (a b : List Token) → ts ≡ a ++ End ∷ b → b ≡ []

verdict_clean : {A : Type 0} (a : List Token) (ms : List Marked) (x : A) (r : List Token) → verdict (clean a ++ ms) x r ≡ verdict ms x r
verdict_clean [] ms x r = refl
verdict_clean (t ∷ a) ms x r = verdict_clean a ms x r

never_wrong : {A : Type 0} (ms : List Marked) (x : A) (r : List Token) (left : ℕ) → verdict ms x r ≡ Wrong left → ⊥
never_wrong [] x r left e = cc
never_wrong ((t, None) ∷ ms) x r left e = never_wrong ms x r left e
never_wrong ((t, Some w) ∷ ms) x r left e = cc

within : {A : Type 0} (ms : List Marked) (x : A) (r : List Token) (w : Limit) (left : ℕ) → verdict ms x r ≡ Past w left → left ≤ length (bare ms ++ r)
within [] x r w left e = absurd cc
within ((t, None) ∷ ms) x r w left e = omega (arith, within ms x r w left e)
within ((t, Some v) ∷ ms) x r w left e =
    let is : length (t ∷ (bare ms ++ r)) ≡ left = cc in
    omega arith

nothing : (ms : List Marked) → bare ms ≡ [] → ms ≡ []
nothing [] e = refl
nothing (m ∷ ms) e = absurd cc

-- one text cut twice
compared : {A : Type 0} (a b : List A) (x y : A) (r s : List A) → a ++ x ∷ r ≡ b ++ y ∷ s → ((a ≡ b) × (x ≡ y) × (r ≡ s)) ⊎ (((m : List A) × (b ≡ a ++ x ∷ m)) ⊎ ((m : List A) × (a ≡ b ++ y ∷ m)))
compared [] [] x y r s e = inl (refl, cc, cc)
compared [] (c ∷ b) x y r s e = let is : x ≡ c = cc in inr (inl (b, ap (λ z. z ∷ b) (sym is)))
compared (c ∷ a) [] x y r s e = let is : c ≡ y = cc in inr (inr (a, ap (λ z. z ∷ a) is))
compared {A = A} (c ∷ a) (d ∷ b) x y r s e =
    let first : c ≡ d = cc in
    let rest : a ++ x ∷ r ≡ b ++ y ∷ s = cc in
    by_rest first (compared a b x y r s rest)
  where
    by_rest : c ≡ d → ((a ≡ b) × (x ≡ y) × (r ≡ s)) ⊎ (((m : List A) × (b ≡ a ++ x ∷ m)) ⊎ ((m : List A) × (a ≡ b ++ y ∷ m))) → ((c ∷ a ≡ d ∷ b) × (x ≡ y) × (r ≡ s)) ⊎ (((m : List A) × (d ∷ b ≡ c ∷ (a ++ x ∷ m))) ⊎ ((m : List A) × (c ∷ a ≡ d ∷ (b ++ y ∷ m))))
    by_rest f (inl h) = let one : a ≡ b = h.0 in inl (cc, h.1, h.2)
    by_rest f (inr (inl h)) = let one : b ≡ a ++ x ∷ h.0 = h.1 in inr (inl (h.0, cc))
    by_rest f (inr (inr h)) = let one : a ≡ b ++ y ∷ h.0 = h.1 in inr (inr (h.0, cc))

module _ {A : Type 0} (R : List Token → Read A) (spell : A → List Marked) (Fits : A → Type 0) (law : Law R (Spelt spell Fits) Any)
    (last : (x : A) → Fits x → (body : List Marked) × (spell x ≡ body ++ (End, None) ∷ []))
    (once : (x : A) (a b : List Token) → Fits x → bare (spell x) ≡ a ++ End ∷ b → b ≡ []) where
  told_of : (ts : List Token) (o : Read A) → R ts ≡ o → Told R (Spelt spell Fits) ts o
  told_of ts o e = subst (λ (p : Read A). Told R (Spelt spell Fits) ts p) e (law.told ts)

  sentence : (x : A) → Fits x → R (bare (spell x)) ≡ verdict (spell x) x []
  sentence x f = ap R (sym (append-nil (bare (spell x)))) ∙ law.again (spell x) x [] (f, refl) tt

  pub found : (ts : List Token) (x : A) (rest : List Token) → Closed ts → R ts ≡ Took x rest → IsText spell Fits ts x
  found ts x rest c e =
      let k = told_of ts (Took x rest) e in
      let l = last x k.spelled.0 in
      let pre-is : k.pre ≡ bare l.0 ++ End ∷ [] = sym (bare-clean k.pre) ∙ ap bare (k.spelled.1 ∙ l.1) ∙ bare-append l.0 ((End, None) ∷ []) in
      let none : rest ≡ [] = c.once (bare l.0) rest (k.is ∙ ap (λ p. p ++ rest) pre-is ∙ append_assoc (bare l.0) (End ∷ []) rest) in
      let whole : ts ≡ k.pre = k.is ∙ ap (λ r. k.pre ++ r) none ∙ append-nil k.pre in
      record { fits = k.spelled.0; is = sym k.spelled.1 ∙ ap clean (sym whole) }

  pub is_text : (ts : List Token) (x : A) → IsText spell Fits ts x → R ts ≡ Took x []
  is_text ts x h =
      let tokens : bare (spell x) ≡ ts = ap bare h.is ∙ bare-clean ts in
      let value : verdict (spell x) x [] ≡ Took x [] = ap (λ m. verdict m x []) (h.is ∙ sym (append-nil (clean ts))) ∙ verdict_clean ts [] x [] in
      ap R (sym tokens) ∙ sentence x h.fits ∙ value

  -- what a sentence that begins with these tokens has after them
  tokens_of : (ms : List Marked) (b : Begins spell Fits ms) → bare (spell b.sentence) ≡ bare ms ++ bare b.more
  tokens_of ms b = ap bare b.is ∙ bare-append ms b.more

  pub wrong : (ts : List Token) (left : ℕ) → Closed ts → R ts ≡ Wrong left → (n : ℕ) × (n + left ≡ length ts) × WrongAfter spell Fits ts n
  wrong ts left c e = by_rest (told_of ts (Wrong left) e)
    where
      by_list : (k : Errs R (Spelt spell Fits) ts left) (rest : List Token) → k.rest ≡ rest → (n : ℕ) × (n + left ≡ length ts) × WrongAfter spell Fits ts n
      by_list k [] is =
          let whole : ts ≡ k.pre = k.is ∙ ap (λ r. k.pre ++ r) is ∙ append-nil k.pre in
          let all : bare (spell k.example) ≡ c.body ++ End ∷ bare k.more =
          ap bare (sym k.spelled.1) ∙ bare-append (clean k.pre) k.more ∙ ap (λ p. p ++ bare k.more) (bare-clean k.pre ∙ sym whole ∙ c.is) ∙ append_assoc c.body (End ∷ []) (bare k.more) in
          let none : k.more ≡ [] = nothing k.more (once k.example c.body (bare k.more) k.spelled.0 all) in
          let text : IsText spell Fits ts k.example = record { fits = k.spelled.0; is = sym k.spelled.1 ∙ ap (λ m. clean k.pre ++ m) none ∙ append-nil (clean k.pre) ∙ ap clean (sym whole) } in
          let took : R ts ≡ Took k.example [] = is_text ts k.example text in
          absurd cc
      by_list k (t ∷ after) is =
          let ts-is : ts ≡ k.pre ++ t ∷ after = k.is ∙ ap (λ r. k.pre ++ r) is in
          let count : left ≡ length (t ∷ after) = k.left-is ∙ ap length is in (
            length k.pre,
            omega (arith, ap length ts-is, length-append k.pre (t ∷ after)),
            record {
              before = k.pre;
              token = t;
              after = after;
              is = ts-is;
              count = refl;
              begins = record { sentence = k.example; more = k.more; fits = k.spelled.0; is = sym k.spelled.1 };
              no_more = λ ms m b.
                  let tokens : bare (spell b.sentence) ≡ k.pre ++ t ∷ bare b.more = tokens_of ms b ∙ ap (λ p. p ++ bare b.more) m ∙ append_assoc k.pre (t ∷ []) (bare b.more) in
                  let stops : R (bare (spell b.sentence)) ≡ Wrong (length (t ∷ bare b.more)) = ap R tokens ∙ k.local (t ∷ bare b.more) (ap head_of (sym is)) in
                  never_wrong (spell b.sentence) b.sentence [] (length (t ∷ bare b.more)) (sym (sentence b.sentence b.fits) ∙ stops);
            },
          )
        where
          head_of : List Token → Option Token
          head_of [] = None
          head_of (u ∷ us) = Some u

      by_rest : Errs R (Spelt spell Fits) ts left → (n : ℕ) × (n + left ≡ length ts) × WrongAfter spell Fits ts n
      by_rest k = by_list k k.rest refl

  pub past : (ts : List Token) (w : Limit) (left : ℕ) → R ts ≡ Past w left → (n : ℕ) × (n + left ≡ length ts) × PastAfter spell Fits w ts n
  past ts w left e =
      let k = told_of ts (Past w left) e in (
        length k.pre,
        omega (arith, ap length k.is, k.left-is, length-append k.pre (k.token ∷ k.after)),
        record {
          before = k.pre;
          token = k.token;
          after = k.after;
          is = k.is;
          count = refl;
          begins = record { sentence = k.example; more = k.more; fits = k.spelled.0; is = sym k.spelled.1 ∙ sym (append_assoc (clean k.pre) ((k.token, Some w) ∷ []) k.more) };
        },
      )

  past_here : (before after : List Token) (t : Token) (w : Limit) → Begins spell Fits (clean before ++ (t, Some w) ∷ []) → R (before ++ t ∷ after) ≡ Past w (length (t ∷ after))
  past_here before after t w b =
      let marks : spell b.sentence ≡ clean before ++ (t, Some w) ∷ b.more = b.is ∙ append_assoc (clean before) ((t, Some w) ∷ []) b.more in
      let tokens : bare (spell b.sentence) ≡ before ++ t ∷ bare b.more = ap bare marks ∙ bare-append (clean before) ((t, Some w) ∷ b.more) ∙ ap (λ p. p ++ t ∷ bare b.more) (bare-clean before) in
      let value : R (before ++ t ∷ bare b.more) ≡ Past w (length (t ∷ (bare b.more ++ []))) = ap R (sym tokens) ∙ sentence b.sentence b.fits ∙ ap (λ m. verdict m b.sentence []) marks ∙ verdict_clean before ((t, Some w) ∷ b.more) b.sentence [] in
      let k = told_of (before ++ t ∷ bare b.more) (Past w (length (t ∷ (bare b.more ++ [])))) value in
      let cut = one_cut k.pre (k.token ∷ k.after) before (t ∷ bare b.more) (sym k.is) (sym k.left-is ∙ ap (λ r. length (t ∷ r)) (append-nil (bare b.more))) in
      let same : k.token ∷ k.after ≡ t ∷ bare b.more = cut.1 in
      let token-is : k.token ≡ t = cc in
      ap (λ p. R (p ++ t ∷ after)) (sym cut.0) ∙ ap (λ u. R (k.pre ++ u ∷ after)) (sym token-is) ∙ k.local after

  pub is_past : (ts : List Token) (w : Limit) (n : ℕ) → PastAfter spell Fits w ts n → (left : ℕ) × (n + left ≡ length ts) × (R ts ≡ Past w left)
  is_past ts w n k =
      (length (k.token ∷ k.after), omega (arith, ap length k.is, k.count, length-append k.before (k.token ∷ k.after)), ap R k.is ∙ past_here k.before k.after k.token w k.begins)

  -- a sentence that goes on past these tokens begins with one more of them
  goes_past : (a : List Token) (t : Token) (m : List Token) (ms : List Marked) → Begins spell Fits (clean (a ++ t ∷ m) ++ ms) → Begins spell Fits (clean (a ++ t ∷ []))
  goes_past a t m ms b = record {
    sentence = b.sentence;
    more = (clean m ++ ms) ++ b.more;
    fits = b.fits;
    is = b.is ∙ ap (λ p. (p ++ ms) ++ b.more) (clean-append a (t ∷ m)) ∙ regroup (clean a) (clean m) ms b.more ∙ ap (λ p. p ++ ((clean m ++ ms) ++ b.more)) (sym (clean-append a (t ∷ [])));
  }
    where
      regroup : (p q r s : List Marked) → ((p ++ (t, None) ∷ q) ++ r) ++ s ≡ (p ++ (t, None) ∷ []) ++ ((q ++ r) ++ s)
      regroup p q r s = simp append_assoc

  pub is_wrong : (ts : List Token) (n : ℕ) → Closed ts → WrongAfter spell Fits ts n → (left : ℕ) × (n + left ≡ length ts) × (R ts ≡ Wrong left)
  is_wrong ts n c k = by_outcome (R ts) refl
    where
      refuse : (m : List Token) (ms : List Marked) → Begins spell Fits (clean (k.before ++ k.token ∷ m) ++ ms) → ⊥
      refuse m ms b = k.no_more (clean (k.before ++ k.token ∷ [])) (bare-clean (k.before ++ k.token ∷ [])) (goes_past k.before k.token m ms b)

      plain : (a : List Token) → Begins spell Fits (clean a) → Begins spell Fits (clean a ++ [])
      plain a b = subst (λ (ms : List Marked). Begins spell Fits ms) (sym (append-nil (clean a))) b

      other_wrong : (left m : ℕ) → m + left ≡ length ts → (o : WrongAfter spell Fits ts m) → R ts ≡ Wrong left → (left : ℕ) × (n + left ≡ length ts) × (R ts ≡ Wrong left)
      other_wrong left m sum o e =
          elim (compared o.before k.before o.token k.token o.after k.after (sym o.is ∙ k.is)) as (λ _. (left : ℕ) × (n + left ≡ length ts) × (R ts ≡ Wrong left)) [
            | inl h ↦ (left, ap (λ j. j + left) (k.count ∙ ap length (sym h.0) ∙ sym o.count) ∙ sum, e)
            | inr h ↦ elim h as (λ _. (left : ℕ) × (n + left ≡ length ts) × (R ts ≡ Wrong left)) [
              | inl g ↦ absurd (o.no_more (clean (o.before ++ o.token ∷ [])) (bare-clean (o.before ++ o.token ∷ [])) (goes_past o.before o.token g.0 [] (subst (λ (a : List Token). Begins spell Fits (clean a ++ [])) g.1 (plain k.before k.begins))))
              | inr g ↦ absurd (refuse g.0 [] (subst (λ (a : List Token). Begins spell Fits (clean a ++ [])) g.1 (plain o.before o.begins)))
            ]
          ]

      not_past : (w : Limit) (m : ℕ) → (o : PastAfter spell Fits w ts m) → ⊥
      not_past w m o =
          elim (compared o.before k.before o.token k.token o.after k.after (sym o.is ∙ k.is)) as (λ _. ⊥) [
            | inl h ↦ k.no_more (clean o.before ++ (o.token, Some w) ∷ []) (bare-append (clean o.before) ((o.token, Some w) ∷ []) ∙ ap (λ p. p ++ o.token ∷ []) (bare-clean o.before ∙ h.0) ∙ ap (λ t. k.before ++ t ∷ []) h.1) o.begins
            | inr h ↦ elim h as (λ _. ⊥) [
              | inl g ↦ earlier g.0 g.1
              | inr g ↦ refuse g.0 ((o.token, Some w) ∷ []) (subst (λ (a : List Token). Begins spell Fits (clean a ++ (o.token, Some w) ∷ [])) g.1 o.begins)
            ]
          ]
        where
          earlier : (m : List Token) → k.before ≡ o.before ++ o.token ∷ m → ⊥
          earlier m is =
              let b = k.begins in
              let marks : spell b.sentence ≡ clean o.before ++ (o.token, None) ∷ (clean m ++ b.more) =
              b.is ∙ ap (λ p. clean p ++ b.more) is ∙ ap (λ p. p ++ b.more) (clean-append o.before (o.token ∷ m)) ∙ append_assoc (clean o.before) ((o.token, None) ∷ clean m) b.more in
              let tokens : bare (spell b.sentence) ≡ o.before ++ o.token ∷ bare (clean m ++ b.more) = ap bare marks ∙ bare-append (clean o.before) ((o.token, None) ∷ (clean m ++ b.more)) ∙ ap (λ p. p ++ o.token ∷ bare (clean m ++ b.more)) (bare-clean o.before) in
              let stops : R (bare (spell b.sentence)) ≡ Past w (length (o.token ∷ bare (clean m ++ b.more))) = ap R tokens ∙ past_here o.before (bare (clean m ++ b.more)) o.token w o.begins in
              let value : verdict (clean m ++ b.more) b.sentence [] ≡ Past w (length (o.token ∷ bare (clean m ++ b.more))) =
              sym (ap (λ p. verdict p b.sentence []) marks ∙ verdict_clean o.before ((o.token, None) ∷ (clean m ++ b.more)) b.sentence []) ∙ sym (sentence b.sentence b.fits) ∙ stops in
              let le : length (o.token ∷ bare (clean m ++ b.more)) ≤ length (bare (clean m ++ b.more) ++ []) = within (clean m ++ b.more) b.sentence [] w _ value in
              absurd (omega (arith, ap length (append-nil (bare (clean m ++ b.more)))))

      by_outcome : (o : Read A) → R ts ≡ o → (left : ℕ) × (n + left ≡ length ts) × (R ts ≡ Wrong left)
      by_outcome (Took x rest) e =
          let f = found ts x rest c e in
          absurd (refuse k.after [] (record { sentence = x; more = []; fits = f.fits; is = f.is ∙ ap clean k.is ∙ sym (append-nil (clean (k.before ++ k.token ∷ k.after))) ∙ sym (append-nil (clean (k.before ++ k.token ∷ k.after) ++ [])) }))
      by_outcome (Wrong left) e = let o = wrong ts left c e in other_wrong left o.0 o.1 o.2 e
      by_outcome (Past w left) e = let o = past ts w left e in absurd (not_past w o.0 o.2)
