-- The laws of reading, one for each way to put parts together.
use Rattle.std.proofs.Common.{◌≡◌, ℕ, Bool, true, false, cond, List, [], ◌∷◌, ◌++◌, length, Option, Some, None, ◌⊎◌, inl, inr, refl, sym, ap, ◌∙◌, subst, append_assoc}
use Rattle.mig_tokens.specs.declared.token.Token.{Token}
use Rattle.mig_schema.specs.declared.limits.Limit.{Limit}
use Rattle.mig_tokens.specs.Marked.{Marked, clean, bare, head, is_at, first_is}
use Rattle.mig_tokens.specs.Reading.{Read, Took, Wrong, Past, ◌>>=◌, judged, tried, token_at, give, bind_at, choice_at}

-- ---- lists of tokens

pub clean-append : (a b : List Token) → clean (a ++ b) ≡ clean a ++ clean b
clean-append [] b = refl
clean-append (t ∷ a) b = ap (λ ms. (t, None) ∷ ms) (clean-append a b)

pub bare-append : (a b : List Marked) → bare (a ++ b) ≡ bare a ++ bare b
bare-append [] b = refl
bare-append (m ∷ a) b = ap (λ ts. m.0 ∷ ts) (bare-append a b)

pub bare-clean : (a : List Token) → bare (clean a) ≡ a
bare-clean [] = refl
bare-clean (t ∷ a) = ap (λ ts. t ∷ ts) (bare-clean a)

pub head_behind : (pre r rest : List Token) → head r ≡ head rest → head (pre ++ r) ≡ head (pre ++ rest)
head_behind [] r rest h = h
head_behind (t ∷ pre) r rest h = refl

-- what is read of a spelling and what follows it: all, or up to the first token past a limit
abbrev pub verdict : {A : Type 0} → List Marked → A → List Token → Read A
verdict [] x rest = Took x rest
verdict ((t, None) ∷ ms) x rest = verdict ms x rest
verdict ((t, Some w) ∷ ms) x rest = Past w (length (t ∷ (bare ms ++ rest)))

-- ---- the law of a part

pub record Takes {A : Type 0} (reads : List Token → Read A) (Spells : List Marked → A → Type 0) (ts : List Token) (x : A) (rest : List Token) : Type 0 where
  pub pre : List Token
  pub is : ts ≡ pre ++ rest
  pub spelled : Spells (clean pre) x
  pub local : (r : List Token) → head r ≡ head rest → reads (pre ++ r) ≡ Took x r

pub record Errs {A : Type 0} (reads : List Token → Read A) (Spells : List Marked → A → Type 0) (ts : List Token) (left : ℕ) : Type 0 where
  pub pre : List Token
  pub rest : List Token
  pub is : ts ≡ pre ++ rest
  pub left-is : left ≡ length rest
  pub example : A
  pub more : List Marked
  pub spelled : Spells (clean pre ++ more) example
  pub local : (r : List Token) → head r ≡ head rest → reads (pre ++ r) ≡ Wrong (length r)

pub record Passes {A : Type 0} (reads : List Token → Read A) (Spells : List Marked → A → Type 0) (w : Limit) (ts : List Token) (left : ℕ) : Type 0 where
  pub pre : List Token
  pub token : Token
  pub after : List Token
  pub is : ts ≡ pre ++ token ∷ after
  pub left-is : left ≡ length (token ∷ after)
  pub example : A
  pub more : List Marked
  pub spelled : Spells (clean pre ++ (token, Some w) ∷ more) example
  pub local : (r : List Token) → reads (pre ++ token ∷ r) ≡ Past w (length (token ∷ r))

abbrev pub Told : {A : Type 0} → (List Token → Read A) → (List Marked → A → Type 0) → List Token → Read A → Type 0
Told reads Spells ts (Took x rest) = Takes reads Spells ts x rest
Told reads Spells ts (Wrong rest) = Errs reads Spells ts rest
Told reads Spells ts (Past w rest) = Passes reads Spells w ts rest

pub record Law {A : Type 0} (reads : List Token → Read A) (Spells : List Marked → A → Type 0) (Next : Option Token → Type 0) : Type 0 where
  pub told : (ts : List Token) → Told reads Spells ts (reads ts)
  pub again : (ms : List Marked) (x : A) (rest : List Token) → Spells ms x → Next (head rest) → reads (bare ms ++ rest) ≡ verdict ms x rest

pub record Example {A : Type 0} (Spells : List Marked → A → Type 0) : Type 0 where
  pub value : A
  pub marked : List Marked
  pub spelled : Spells marked value

-- the same under another spelling
pub respelled_told : {A : Type 0} (reads : List Token → Read A) (P Q : List Marked → A → Type 0) → ((ms : List Marked) (x : A) → P ms x → Q ms x) → (ts : List Token) (o : Read A) → Told reads P ts o → Told reads Q ts o
respelled_told reads P Q f ts (Took x rest) h = record { pre = h.pre; is = h.is; spelled = f _ _ h.spelled; local = h.local }
respelled_told reads P Q f ts (Wrong rest) h = record { pre = h.pre; rest = h.rest; is = h.is; left-is = h.left-is; example = h.example; more = h.more; spelled = f _ _ h.spelled; local = h.local }
respelled_told reads P Q f ts (Past w rest) h = record { pre = h.pre; token = h.token; after = h.after; is = h.is; left-is = h.left-is; example = h.example; more = h.more; spelled = f _ _ h.spelled; local = h.local }

pub respelled : {A : Type 0} (reads : List Token → Read A) (P Q : List Marked → A → Type 0) (N : Option Token → Type 0) → ((ms : List Marked) (x : A) → P ms x → Q ms x) → ((ms : List Marked) (x : A) → Q ms x → P ms x) → Law reads P N → Law reads Q N
respelled reads P Q N f g l = record { told = λ ts. respelled_told reads P Q f ts (reads ts) (l.told ts); again = λ ms x rest q n. l.again ms x rest (g ms x q) n }

pub narrowed : {A : Type 0} (reads : List Token → Read A) (P : List Marked → A → Type 0) (N M : Option Token → Type 0) → ((o : Option Token) → M o → N o) → Law reads P N → Law reads P M
narrowed reads P N M f l = record { told = l.told; again = λ ms x rest q n. l.again ms x rest q (f _ n) }

-- ---- nothing

abbrev pub Gives : {A : Type 0} → A → List Marked → A → Type 0
Gives x ms y = (ms ≡ []) × (y ≡ x)

abbrev pub Any : Option Token → Type 0
Any o = Unit {0}

pub give_law : {A : Type 0} (x : A) → Law (give x) (Gives x) Any
give_law x = record {
  told = λ ts. record { pre = []; is = refl; spelled = (refl, refl); local = λ r h. refl };
  again = λ ms y rest g n. rw (g.0, g.1) refl;
}

-- ---- one token

abbrev pub Single : {A : Type 0} → (Token → Option A) → (A → Option Limit) → List Marked → A → Type 0
Single reads mark ms x = (t : Token) × (ms ≡ (t, mark x) ∷ []) × (reads t ≡ Some x)

module _ {A : Type 0} (reads : Token → Option A) (mark : A → Option Limit) where
  none_first : (r : List Token) → head r ≡ None → r ≡ []
  none_first [] h = refl
  none_first (t ∷ r) h = absurd cc

  some_first : (t : Token) (r : List Token) → head r ≡ Some t → (ts : List Token) × (r ≡ t ∷ ts)
  some_first t [] h = absurd cc
  some_first t (u ∷ r) h = (r, cc)

  single_told : (example : Example (Single reads mark)) (ts : List Token) → Told (token_at reads mark) (Single reads mark) ts (token_at reads mark ts)
  unfolding token_at
  single_told e [] = record { pre = []; rest = []; is = refl; left-is = refl; example = e.value; more = e.marked; spelled = e.spelled; local = λ r h. rw (none_first r h) refl }
  single_told e (t ∷ ts) = by_value (reads t) refl
    where
      by_mark : (x : A) → reads t ≡ Some x → (m : Option Limit) → mark x ≡ m → Told (token_at reads mark) (Single reads mark) (t ∷ ts) (judged x m t ts)
      by_mark x h None k = record { pre = t ∷ []; is = refl; spelled = (t, rw k refl, h); local = λ r s. rw (token_at, h, k) refl }
      by_mark x h (Some w) k = record { pre = []; token = t; after = ts; is = refl; left-is = refl; example = x; more = []; spelled = (t, rw k refl, h); local = λ r. rw (token_at, h, k) refl }

      wrong : reads t ≡ None → (r : List Token) → (ts' : List Token) → r ≡ t ∷ ts' → token_at reads mark r ≡ Wrong (length r)
      wrong h r ts' s = rw (s, token_at, h) refl

      by_value : (o : Option A) → reads t ≡ o → Told (token_at reads mark) (Single reads mark) (t ∷ ts) (tried mark o t ts)
      by_value None h = record { pre = []; rest = t ∷ ts; is = refl; left-is = refl; example = e.value; more = e.marked; spelled = e.spelled; local = λ r s. let f = some_first t r s in wrong h r f.0 f.1 }
      by_value (Some x) h = by_mark x h (mark x) refl

  judged_is : (x : A) (m : Option Limit) (t : Token) (rest : List Token) → judged x m t rest ≡ verdict ((t, m) ∷ []) x rest
  judged_is x None t rest = refl
  judged_is x (Some w) t rest = refl

  single_again : (t : Token) (x : A) (rest : List Token) → reads t ≡ Some x → token_at reads mark (t ∷ rest) ≡ verdict ((t, mark x) ∷ []) x rest
  unfolding token_at
  single_again t x rest h = rw (token_at, h) (judged_is x (mark x) t rest)

  pub token_law : Example (Single reads mark) → Law (token_at reads mark) (Single reads mark) Any
  token_law e = record {
    told = single_told e;
    again = λ ms x rest s n. subst (λ (m : List Marked). token_at reads mark (bare m ++ rest) ≡ verdict m x rest) (sym s.1) (single_again s.0 x rest s.2);
  }

-- ---- one part and the next

abbrev pub Both : {A B : Type 0} → (List Marked → A → Type 0) → (A → List Marked → B → Type 0) → List Marked → B → Type 0
Both {A = A} P Q ms y = (front : List Marked) × (back : List Marked) × (x : A) × (ms ≡ front ++ back) × P front x × Q x back y

module _ {A B : Type 0} (p : List Token → Read A) (q : A → List Token → Read B) (P : List Marked → A → Type 0) (Q : A → List Marked → B → Type 0) (NP NQ : Option Token → Type 0) (lp : Law p P NP) (lq : (x : A) (ms : List Marked) → P ms x → Law (q x) (Q x) NQ) where
  both_second : (ts : List Token) (x : A) (rest : List Token) → Takes p P ts x rest → (o : Read B) → Told (q x) (Q x) rest o → Told (bind_at p q) (Both P Q) ts o
  both_second ts x rest h (Took y rest2) k = record {
    pre = h.pre ++ k.pre;
    is = h.is ∙ ap (λ t. h.pre ++ t) k.is ∙ sym (append_assoc h.pre k.pre rest2);
    spelled = (clean h.pre, clean k.pre, x, clean-append h.pre k.pre, h.spelled, k.spelled);
    local = λ r s. ap (bind_at p q) (append_assoc h.pre k.pre r) ∙ ap (λ o. o >>= λ z. q z.0 z.1) (h.local (k.pre ++ r) (head_behind k.pre r rest2 s ∙ ap head (sym k.is))) ∙ k.local r s;
  }
  both_second ts x rest h (Wrong rest2) k = record {
    pre = h.pre ++ k.pre;
    rest = k.rest;
    is = h.is ∙ ap (λ t. h.pre ++ t) k.is ∙ sym (append_assoc h.pre k.pre k.rest);
    left-is = k.left-is;
    example = k.example;
    more = k.more;
    spelled = (clean h.pre, clean k.pre ++ k.more, x, ap (λ t. t ++ k.more) (clean-append h.pre k.pre) ∙ append_assoc (clean h.pre) (clean k.pre) k.more, h.spelled, k.spelled);
    local = λ r s. ap (bind_at p q) (append_assoc h.pre k.pre r) ∙ ap (λ o. o >>= λ z. q z.0 z.1) (h.local (k.pre ++ r) (head_behind k.pre r k.rest s ∙ ap head (sym k.is))) ∙ k.local r s;
  }
  both_second ts x rest h (Past w rest2) k = record {
    pre = h.pre ++ k.pre;
    token = k.token;
    after = k.after;
    is = h.is ∙ ap (λ t. h.pre ++ t) k.is ∙ sym (append_assoc h.pre k.pre (k.token ∷ k.after));
    left-is = k.left-is;
    example = k.example;
    more = k.more;
    spelled = (clean h.pre, clean k.pre ++ (k.token, Some w) ∷ k.more, x, ap (λ t. t ++ (k.token, Some w) ∷ k.more) (clean-append h.pre k.pre) ∙ append_assoc (clean h.pre) (clean k.pre) ((k.token, Some w) ∷ k.more), h.spelled, k.spelled);
    local = λ r. ap (bind_at p q) (append_assoc h.pre k.pre (k.token ∷ r)) ∙ ap (λ o. o >>= λ z. q z.0 z.1) (h.local (k.pre ++ k.token ∷ r) (head_same k.pre k.token r k.after ∙ ap head (sym k.is))) ∙ k.local r;
  }
    where
      head_same : (pre : List Token) (t : Token) (r after : List Token) → head (pre ++ t ∷ r) ≡ head (pre ++ t ∷ after)
      head_same [] t r after = refl
      head_same (u ∷ pre) t r after = refl

  both_told : (example : (x : A) (ms : List Marked) → P ms x → Example (Q x)) (ts : List Token) (o : Read A) → Told p P ts o → Told (bind_at p q) (Both P Q) ts (o >>= λ x. q x.0 x.1)
  both_told e ts (Took x rest) h = both_second ts x rest h (q x rest) ((lq x (clean h.pre) h.spelled).told rest)
  both_told e ts (Wrong rest) h =
      let k = e h.example (clean h.pre ++ h.more) h.spelled in
      record {
        pre = h.pre;
        rest = h.rest;
        is = h.is;
        left-is = h.left-is;
        example = k.value;
        more = h.more ++ k.marked;
        spelled = (clean h.pre ++ h.more, k.marked, h.example, sym (append_assoc (clean h.pre) h.more k.marked), h.spelled, k.spelled);
        local = λ r s. ap (λ o. o >>= λ z. q z.0 z.1) (h.local r s);
      }
  both_told e ts (Past w rest) h =
      let k = e h.example (clean h.pre ++ (h.token, Some w) ∷ h.more) h.spelled in
      record {
        pre = h.pre;
        token = h.token;
        after = h.after;
        is = h.is;
        left-is = h.left-is;
        example = k.value;
        more = h.more ++ k.marked;
        spelled = (clean h.pre ++ (h.token, Some w) ∷ h.more, k.marked, h.example, sym (append_assoc (clean h.pre) ((h.token, Some w) ∷ h.more) k.marked), h.spelled, k.spelled);
        local = λ r. ap (λ o. o >>= λ z. q z.0 z.1) (h.local r);
      }

  verdict_both : (front back : List Marked) (x : A) (y : B) (rest : List Token) → q x (bare back ++ rest) ≡ verdict back y rest → (verdict front x (bare back ++ rest) >>= λ z. q z.0 z.1) ≡ verdict (front ++ back) y rest
  verdict_both [] back x y rest h = h
  verdict_both ((t, None) ∷ front) back x y rest h = verdict_both front back x y rest h
  verdict_both ((t, Some w) ∷ front) back x y rest h = ap (λ ts. Past w (length (t ∷ ts))) (sym (append_assoc (bare front) (bare back) rest) ∙ ap (λ ts. ts ++ rest) (sym (bare-append front back)))

  both_again : (fence : (x : A) (ms : List Marked) (y : B) (rest : List Token) → Q x ms y → NQ (head rest) → NP (head (bare ms ++ rest))) (front back : List Marked) (x : A) (y : B) (rest : List Token)
      → P front x → Q x back y → NQ (head rest) → bind_at p q (bare (front ++ back) ++ rest) ≡ verdict (front ++ back) y rest
  both_again fence front back x y rest hp hq n =
      let tokens : bare (front ++ back) ++ rest ≡ bare front ++ (bare back ++ rest) = ap (λ ts. ts ++ rest) (bare-append front back) ∙ append_assoc (bare front) (bare back) rest in
      ap (bind_at p q) tokens ∙ ap (λ o. o >>= λ z. q z.0 z.1) (lp.again front x (bare back ++ rest) hp (fence x back y rest hq n)) ∙ verdict_both front back x y rest ((lq x front hp).again back y rest hq n)

  -- what is known of the first part helps with the second
  pub known_law : ((x : A) (ms : List Marked) → P ms x → Example (Q x)) → ((x : A) (ms : List Marked) (y : B) (rest : List Token) → Q x ms y → NQ (head rest) → NP (head (bare ms ++ rest))) → Law (bind_at p q) (Both P Q) NQ
  known_law e fence = record {
    told = λ ts. both_told e ts (p ts) (lp.told ts);
    again = λ ms y rest b n. subst (λ (m : List Marked). bind_at p q (bare m ++ rest) ≡ verdict m y rest) (sym b.3) (both_again fence b.0 b.1 b.2 y rest b.4 b.5 n);
  }

pub both_law : {A B : Type 0} (p : List Token → Read A) (q : A → List Token → Read B) (P : List Marked → A → Type 0) (Q : A → List Marked → B → Type 0) (NP NQ : Option Token → Type 0) → Law p P NP → ((x : A) → Law (q x) (Q x) NQ)
    → ((x : A) → Example (Q x)) → ((x : A) (ms : List Marked) (y : B) (rest : List Token) → Q x ms y → NQ (head rest) → NP (head (bare ms ++ rest))) → Law (bind_at p q) (Both P Q) NQ
both_law p q P Q NP NQ lp lq e fence = known_law p q P Q NP NQ lp (λ x ms h. lq x) (λ x ms h. e x) fence

-- ---- one part or the other, by the first token

abbrev pub Either : {A : Type 0} → (List Marked → A → Type 0) → (List Marked → A → Type 0) → List Marked → A → Type 0
Either P Q ms x = P ms x ⊎ Q ms x

module _ {A : Type 0} (begins : Token → Bool) (p q : List Token → Read A) (P Q : List Marked → A → Type 0) (N : Option Token → Type 0) (lp : Law p P N) (lq : Law q Q N) where
  same_choice : (pre r rest ts : List Token) (b : Bool) → ts ≡ pre ++ rest → head r ≡ head rest → first_is begins ts ≡ b → first_is begins (pre ++ r) ≡ b
  same_choice pre r rest ts b is s h = ap (is_at begins) (head_behind pre r rest s ∙ ap head (sym is)) ∙ h

  chosen : (ts : List Token) (b : Bool) → first_is begins ts ≡ b → choice_at begins p q ts ≡ cond b (p ts) (q ts)
  unfolding choice_at
  chosen ts b h = ap (λ c. cond c (p ts) (q ts)) h

  in_first : (ts : List Token) → first_is begins ts ≡ true → (o : Read A) → Told p P ts o → Told (choice_at begins p q) (Either P Q) ts o
  in_first ts b (Took x rest) h = record { pre = h.pre; is = h.is; spelled = inl h.spelled; local = λ r s. chosen (h.pre ++ r) true (same_choice h.pre r rest ts true h.is s b) ∙ h.local r s }
  in_first ts b (Wrong left) h = record { pre = h.pre; rest = h.rest; is = h.is; left-is = h.left-is; example = h.example; more = h.more; spelled = inl h.spelled; local = λ r s. chosen (h.pre ++ r) true (same_choice h.pre r h.rest ts true h.is s b) ∙ h.local r s }
  in_first ts b (Past w left) h = record { pre = h.pre; token = h.token; after = h.after; is = h.is; left-is = h.left-is; example = h.example; more = h.more; spelled = inl h.spelled; local = λ r. chosen (h.pre ++ h.token ∷ r) true (same_choice h.pre (h.token ∷ r) (h.token ∷ h.after) ts true h.is refl b) ∙ h.local r }

  in_second : (ts : List Token) → first_is begins ts ≡ false → (o : Read A) → Told q Q ts o → Told (choice_at begins p q) (Either P Q) ts o
  in_second ts b (Took x rest) h = record { pre = h.pre; is = h.is; spelled = inr h.spelled; local = λ r s. chosen (h.pre ++ r) false (same_choice h.pre r rest ts false h.is s b) ∙ h.local r s }
  in_second ts b (Wrong left) h = record { pre = h.pre; rest = h.rest; is = h.is; left-is = h.left-is; example = h.example; more = h.more; spelled = inr h.spelled; local = λ r s. chosen (h.pre ++ r) false (same_choice h.pre r h.rest ts false h.is s b) ∙ h.local r s }
  in_second ts b (Past w left) h = record { pre = h.pre; token = h.token; after = h.after; is = h.is; left-is = h.left-is; example = h.example; more = h.more; spelled = inr h.spelled; local = λ r. chosen (h.pre ++ h.token ∷ r) false (same_choice h.pre (h.token ∷ r) (h.token ∷ h.after) ts false h.is refl b) ∙ h.local r }

  choice_told : (ts : List Token) (b : Bool) → first_is begins ts ≡ b → Told (choice_at begins p q) (Either P Q) ts (cond b (p ts) (q ts))
  choice_told ts true h = in_first ts h (p ts) (lp.told ts)
  choice_told ts false h = in_second ts h (q ts) (lq.told ts)

  told_here : (ts : List Token) → Told (choice_at begins p q) (Either P Q) ts (choice_at begins p q ts)
  unfolding choice_at
  told_here ts = choice_told ts (first_is begins ts) refl

  pub choice_law : ((ms : List Marked) (x : A) (rest : List Token) → P ms x → N (head rest) → first_is begins (bare ms ++ rest) ≡ true)
      → ((ms : List Marked) (x : A) (rest : List Token) → Q ms x → N (head rest) → first_is begins (bare ms ++ rest) ≡ false)
      → Law (choice_at begins p q) (Either P Q) N
  choice_law first second = record { told = told_here; again = again }
    where
      again : (ms : List Marked) (x : A) (rest : List Token) → Either P Q ms x → N (head rest) → choice_at begins p q (bare ms ++ rest) ≡ verdict ms x rest
      again ms x rest (inl h) n = chosen (bare ms ++ rest) true (first ms x rest h n) ∙ lp.again ms x rest h n
      again ms x rest (inr h) n = chosen (bare ms ++ rest) false (second ms x rest h n) ∙ lq.again ms x rest h n
