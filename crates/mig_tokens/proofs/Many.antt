-- The law of lists, with commas or without.
use Rattle.std.proofs.Common.{◌≡◌, ℕ, zero, suc, ◌+◌, ◌≤◌, Bool, true, false, cond, List, [], ◌∷◌, ◌++◌, length, Option, ◌⊎◌, inl, inr, refl, sym, ap, ◌∙◌, subst, append_assoc, arith}
use Rattle.std.proofs.lemmas.List.{length-append, append-nil}
use Rattle.mig_tokens.specs.declared.token.Token.{Token}
use Rattle.mig_tokens.specs.Marked.{Marked, clean, bare, head, is_at, first_is}
use Rattle.mig_tokens.specs.Reading.{Read, Took, Wrong, Past, ◌>>=◌, give, bind_at, choice_at, most_at, many_at}
use Rattle.mig_tokens.proofs.Laws.{Law, Told, Gives, Any, Both, Either, give_law, narrowed, both_law, choice_law, respelled_told, bare-append, bare-clean}

-- two ways to cut a list at one length
pub one_cut : {A : Type 0} (a b c d : List A) → a ++ b ≡ c ++ d → length b ≡ length d → (a ≡ c) × (b ≡ d)
one_cut [] b [] d e n = (refl, e)
one_cut [] b (y ∷ c) d e n = absurd (omega (arith, ap length e, length-append (y ∷ c) d, n))
one_cut (x ∷ a) b [] d e n = absurd (omega (arith, ap length e, length-append (x ∷ a) b, n))
one_cut (x ∷ a) b (y ∷ c) d e n =
    let head-is : x ≡ y = cc in
    let tail-is : a ++ b ≡ c ++ d = cc in
    let k = one_cut a b c d tail-is n in
    let first : a ≡ c = k.0 in
    (cc, k.1)

module _ {A S : Type 0} (begins : Token → Bool) (reads : S → List Token → Read A) (next : S → A → S) (I : S → List Marked → A → Type 0) where
  -- at most n items
  abbrev pub Most : ℕ → S → List Marked → List A → Type 0
  Most zero s = Gives []
  Most (suc n) s = Either (Both (I s) (λ x. Both (Most n (next s x)) (λ xs. Gives (x ∷ xs)))) (Gives [])

  -- any number of items, one after the other
  abbrev pub Many : S → List Marked → List A → Type 0
  Many s ms [] = ms ≡ []
  Many s ms (x ∷ xs) = (front : List Marked) × (back : List Marked) × (ms ≡ front ++ back) × I s front x × Many (next s x) back xs

  pub record Item (NI N : Option Token → Type 0) : Type 0 where
    pub law : (s : S) → Law (reads s) (I s) NI
    pub begun : (s : S) (ms : List Marked) (x : A) (rest : List Token) → I s ms x → first_is begins (bare ms ++ rest) ≡ true
    pub before_item : (o : Option Token) → is_at begins o ≡ true → NI o
    pub before_end : (o : Option Token) → N o → NI o
    pub ended : (o : Option Token) → N o → is_at begins o ≡ false

  module _ (NI N : Option Token → Type 0) (item : Item NI N) where
    none : (n : ℕ) (s : S) → Most n s [] []
    none zero s = (refl, refl)
    none (suc n) s = inr (refl, refl)

    begun_behind : (front back : List Marked) (rest : List Token) → ((r : List Token) → first_is begins (bare front ++ r) ≡ true) → first_is begins (bare (front ++ back) ++ rest) ≡ true
    begun_behind front back rest h = ap (λ ts. first_is begins (ts ++ rest)) (bare-append front back) ∙ ap (first_is begins) (append_assoc (bare front) (bare back) rest) ∙ h (bare back ++ rest)

    -- items, or nothing
    starts : (n : ℕ) (s : S) (ms : List Marked) (xs : List A) → Most n s ms xs → (ms ≡ []) ⊎ ((rest : List Token) → first_is begins (bare ms ++ rest) ≡ true)
    starts zero s ms xs h = inl h.0
    starts (suc n) s ms xs (inl h) = inr (λ rest. ap (λ m. first_is begins (bare m ++ rest)) h.3 ∙ begun_behind h.0 h.1 rest (λ r. item.begun s h.0 h.2 r h.4))
    starts (suc n) s ms xs (inr h) = inl h.0

    fence : (n : ℕ) (s : S) (x : A) (ms : List Marked) (xs : List A) (rest : List Token) → Both (Most n (next s x)) (λ ys. Gives (x ∷ ys)) ms xs → N (head rest) → NI (head (bare ms ++ rest))
    fence n s x ms xs rest b h =
        let whole : ms ≡ b.0 = b.3 ∙ ap (λ m. b.0 ++ m) b.5.0 ∙ append-nil b.0 in
        subst (λ (m : List Marked). NI (head (bare m ++ rest))) (sym whole) (by_start (starts n (next s x) b.0 b.2 b.4))
      where
        by_start : {m : List Marked} → (m ≡ []) ⊎ ((rest : List Token) → first_is begins (bare m ++ rest) ≡ true) → NI (head (bare m ++ rest))
        by_start {m} (inl e) = subst (λ (k : List Marked). NI (head (bare k ++ rest))) (sym e) (item.before_end _ h)
        by_start {m} (inr f) = item.before_item _ (f rest)

    most_law : (n : ℕ) (s : S) → Law (most_at begins reads next n s) (Most n s) N
    unfolding most_at
    most_law zero s = narrowed (give []) (Gives []) Any N (λ o h. tt) (give_law [])
    most_law (suc n) s =
        choice_law begins (bind_at (reads s) (λ x. bind_at (most_at begins reads next n (next s x)) (λ xs. give (x ∷ xs)))) (give [])
        (Both (I s) (λ x. Both (Most n (next s x)) (λ xs. Gives (x ∷ xs)))) (Gives []) N
        (both_law (reads s) (λ x. bind_at (most_at begins reads next n (next s x)) (λ xs. give (x ∷ xs))) (I s) (λ x. Both (Most n (next s x)) (λ xs. Gives (x ∷ xs))) NI N
        (item.law s)
        (λ x. both_law (most_at begins reads next n (next s x)) (λ xs. give (x ∷ xs)) (Most n (next s x)) (λ xs. Gives (x ∷ xs)) N N (most_law n (next s x))
        (λ xs. narrowed (give (x ∷ xs)) (Gives (x ∷ xs)) Any N (λ o h. tt) (give_law (x ∷ xs)))
        (λ xs. record { value = x ∷ xs; marked = []; spelled = (refl, refl) })
        (λ xs ms ys rest g h. subst (λ (m : List Marked). N (head (bare m ++ rest))) (sym g.0) h))
        (λ x. record { value = x ∷ []; marked = []; spelled = ([], [], [], refl, none n (next s x), (refl, refl)) })
        (fence n s))
        (narrowed (give []) (Gives []) Any N (λ o h. tt) (give_law []))
        (λ ms xs rest b h. ap (λ m. first_is begins (bare m ++ rest)) b.3 ∙ begun_behind b.0 b.1 rest (λ r. item.begun s b.0 b.2 r b.4))
        (λ ms xs rest g h. subst (λ (m : List Marked). first_is begins (bare m ++ rest) ≡ false) (sym g.0) (item.ended _ h))

    -- ---- any number

    to_many : (n : ℕ) (s : S) (ms : List Marked) (xs : List A) → Most n s ms xs → Many s ms xs
    to_many zero s ms xs h = subst (λ (ys : List A). Many s ms ys) (sym h.1) h.0
    to_many (suc n) s ms xs (inr h) = subst (λ (ys : List A). Many s ms ys) (sym h.1) h.0
    to_many (suc n) s ms xs (inl h) =
        let more = h.5 in
        let back-is : h.1 ≡ more.0 = more.3 ∙ ap (λ m. more.0 ++ m) more.5.0 ∙ append-nil more.0 in
        subst (λ (ys : List A). Many s ms ys) (sym more.5.1)
        (h.0, more.0, h.3 ∙ ap (λ m. h.0 ++ m) back-is, h.4, to_many n (next s h.2) more.0 more.2 more.4)

    to_most : (n : ℕ) (s : S) (ms : List Marked) (xs : List A) → length xs ≤ n → Many s ms xs → Most n s ms xs
    to_most zero s ms [] le h = (h, refl)
    to_most zero s ms (x ∷ xs) le h = absurd (omega arith)
    to_most (suc n) s ms [] le h = inr (h, refl)
    to_most (suc n) s ms (x ∷ xs) le h = inl (h.0, h.1, x, h.2, h.3, (h.1, [], xs, sym (append-nil h.1), to_most n (next s x) h.1 xs (omega arith) h.4, (refl, refl)))

    some : (s : S) (ms : List Marked) (x : A) → I s ms x → 1 ≤ length (bare ms)
    some s ms x h = by_list (bare ms) (ap (first_is begins) (sym (append-nil (bare ms))) ∙ item.begun s ms x [] h)
      where
        by_list : (ts : List Token) → first_is begins ts ≡ true → 1 ≤ length ts
        by_list [] e = absurd cc
        by_list (t ∷ ts) e = omega arith

    count : (s : S) (ms : List Marked) (xs : List A) → Many s ms xs → length xs ≤ length (bare ms)
    count s ms [] h = omega arith
    count s ms (x ∷ xs) h =
        let one = some s h.0 x h.3 in
        let others = count (next s x) h.1 xs h.4 in
        let whole : length (bare ms) ≡ length (bare h.0) + length (bare h.1) = ap (λ m. length (bare m)) h.2 ∙ ap length (bare-append h.0 h.1) ∙ length-append (bare h.0) (bare h.1) in
        omega arith

    -- more than the number of tokens changes nothing
    enough : (n m : ℕ) (s : S) (ts : List Token) → length ts ≤ n → length ts ≤ m → most_at begins reads next n s ts ≡ most_at begins reads next m s ts
    unfolding most_at choice_at
    enough zero zero s ts ln lm = refl
    enough zero (suc m) s [] ln lm = refl
    enough zero (suc m) s (t ∷ ts) ln lm = absurd (omega arith)
    enough (suc n) zero s [] ln lm = refl
    enough (suc n) zero s (t ∷ ts) ln lm = absurd (omega arith)
    enough (suc n) (suc m) s ts ln lm = ap (λ o. cond (first_is begins ts) o (Took [] ts)) (same (λ x rest ln' lm'. enough n m (next s x) rest ln' lm') (reads s ts) ((item.law s).told ts))
      where
        same : ((x : A) (rest : List Token) → length rest ≤ n → length rest ≤ m → most_at begins reads next n (next s x) rest ≡ most_at begins reads next m (next s x) rest) → (o : Read A) → Told (reads s) (I s) ts o → (o >>= λ x. most_at begins reads next n (next s x.0) x.1 >>= λ xs. Took (x.0 ∷ xs.0) xs.1) ≡ (o >>= λ x. most_at begins reads next m (next s x.0) x.1 >>= λ xs. Took (x.0 ∷ xs.0) xs.1)
        same ih (Took x rest) h =
            let one = some s (clean h.pre) x h.spelled in
            let whole : length ts ≡ length h.pre + length rest = ap length h.is ∙ length-append h.pre rest in
            let pre-is : length (bare (clean h.pre)) ≡ length h.pre = ap length (bare-clean h.pre) in
            ap (λ o. o >>= λ xs. Took (x ∷ xs.0) xs.1) (ih x rest (omega arith) (omega arith))
        same ih (Wrong left) h = refl
        same ih (Past w left) h = refl

    -- with the place found where there was room for more
    lengthened : (s : S) (ts : List Token) (o : Read (List A)) → ((m : ℕ) → length ts ≤ m → Told (most_at begins reads next m s) (Many s) ts o) → Told (many_at begins reads next s) (Many s) ts o
    lengthened s ts (Took xs rest) f =
        let h = f (length ts) (omega arith) in
        record {
          pre = h.pre;
          is = h.is;
          spelled = h.spelled;
          local = λ r e.
              let m = length ts + length (h.pre ++ r) in
              let k = f m (omega arith) in
              let cut : h.pre ≡ k.pre = (one_cut h.pre rest k.pre rest (sym h.is ∙ k.is) refl).0 in
              enough (length (h.pre ++ r)) m s (h.pre ++ r) (omega arith) (omega arith) ∙ ap (λ p. most_at begins reads next m s (p ++ r)) cut ∙ k.local r e;
        }
    lengthened s ts (Wrong left) f =
        let h = f (length ts) (omega arith) in
        record {
          pre = h.pre;
          rest = h.rest;
          is = h.is;
          left-is = h.left-is;
          example = h.example;
          more = h.more;
          spelled = h.spelled;
          local = λ r e.
              let m = length ts + length (h.pre ++ r) in
              let k = f m (omega arith) in
              let cut = one_cut h.pre h.rest k.pre k.rest (sym h.is ∙ k.is) (sym h.left-is ∙ k.left-is) in
              enough (length (h.pre ++ r)) m s (h.pre ++ r) (omega arith) (omega arith) ∙ ap (λ p. most_at begins reads next m s (p ++ r)) cut.0 ∙ k.local r (e ∙ ap head cut.1);
        }
    lengthened s ts (Past w left) f =
        let h = f (length ts) (omega arith) in
        record {
          pre = h.pre;
          token = h.token;
          after = h.after;
          is = h.is;
          left-is = h.left-is;
          example = h.example;
          more = h.more;
          spelled = h.spelled;
          local = λ r.
              let m = length ts + length (h.pre ++ h.token ∷ r) in
              let k = f m (omega arith) in
              let cut = one_cut h.pre (h.token ∷ h.after) k.pre (k.token ∷ k.after) (sym h.is ∙ k.is) (sym h.left-is ∙ k.left-is) in
              let token-is : h.token ≡ k.token = let e : h.token ∷ h.after ≡ k.token ∷ k.after = cut.1 in cc in
              enough (length (h.pre ++ h.token ∷ r)) m s (h.pre ++ h.token ∷ r) (omega arith) (omega arith) ∙ ap (λ p. most_at begins reads next m s (p ++ h.token ∷ r)) cut.0 ∙ ap (λ t. most_at begins reads next m s (k.pre ++ t ∷ r)) token-is ∙ k.local r;
        }

    pub many_law : (s : S) → Law (many_at begins reads next s) (Many s) N
    many_law s = record {
      told = λ ts. lengthened s ts (many_at begins reads next s ts) (λ m le.
          subst (λ (o : Read (List A)). Told (most_at begins reads next m s) (Many s) ts o) (enough m (length ts) s ts le (omega arith))
          (respelled_told (most_at begins reads next m s) (Most m s) (Many s) (to_many m s) ts (most_at begins reads next m s ts) ((most_law m s).told ts)));
      again = λ ms xs rest h n.
          let le : length xs ≤ length (bare ms ++ rest) = omega (arith, count s ms xs h, length-append (bare ms) rest) in
          (most_law (length (bare ms ++ rest)) s).again ms xs rest (to_most (length (bare ms ++ rest)) s ms xs le h) n;
    }
