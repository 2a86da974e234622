-- Reading items one after the other, as a loop does.
use Rattle.std.proofs.Common.{◌≡◌, ℕ, zero, suc, ◌-◌, ◌+◌, ◌≤◌, ◌<◌, Bool, true, false, cond, List, [], ◌∷◌, ◌++◌, refl, sym, ap, ◌∙◌, append_assoc, arith}
use Rattle.std.proofs.lemmas.List.{append-nil}
use Rattle.mig_tokens.specs.declared.token.Token.{Token}
use Rattle.mig_tokens.specs.declared.fault.ReadError.{ReadError}
use Rattle.mig_tokens.specs.declared.fault.ReadError.TheVariants as error
use Rattle.mig_tokens.specs.Marked.{first_is}
use Rattle.mig_tokens.specs.Given.{Fails}
use Rattle.mig_tokens.specs.Forms.{Before}
use Rattle.mig_tokens.specs.Reading.{Read, Took, Wrong, Past, ◌>>=◌, choice_at, most_at, with_front}
use Rattle.mig_tokens.specs.Pieces.{next}

pub with_none : {A : Type 0} (read : Read (List A)) → with_front [] read ≡ read
with_none (Took xs rest) = refl
with_none (Wrong left) = refl
with_none (Past w left) = refl

module _ {A : Type 0} (begun : Token → Bool) (takes : A → ℕ) (reads : Before → List Token → Read A) where
  one_more : (n : ℕ) (s : Before) (ts : List Token) → first_is begun ts ≡ true → most_at begun reads (next takes) (suc n) s ts ≡ (reads s ts >>= λ x. most_at begun reads (next takes) n (next takes s x.0) x.1 >>= λ xs. Took (x.0 ∷ xs.0) xs.1)
  unfolding most_at choice_at
  one_more n s ts h = ap (λ b. cond b (reads s ts >>= λ x. most_at begun reads (next takes) n (next takes s x.0) x.1 >>= λ xs. Took (x.0 ∷ xs.0) xs.1) (Took [] ts)) h

  no_more : (n : ℕ) (s : Before) (ts : List Token) → first_is begun ts ≡ false → most_at begun reads (next takes) (suc n) s ts ≡ Took [] ts
  unfolding most_at choice_at
  no_more n s ts h = ap (λ b. cond b (reads s ts >>= λ x. most_at begun reads (next takes) n (next takes s x.0) x.1 >>= λ xs. Took (x.0 ∷ xs.0) xs.1) (Took [] ts)) h

  no_room_left : (s : Before) (ts : List Token) → most_at begun reads (next takes) zero s ts ≡ Took [] ts
  unfolding most_at
  no_room_left s ts = refl

  regroup : (front : List A) (x : A) (read : Read (List A)) → with_front front (read >>= λ xs. Took (x ∷ xs.0) xs.1) ≡ with_front (front ++ x ∷ []) read
  regroup front x (Took xs rest) = ap (λ (ys : List A). Took ys rest) (simp append_assoc)
  regroup front x (Wrong left) = refl
  regroup front x (Past w left) = refl

  pub goes_on : (front : List A) (most i start room : ℕ) (tokens : List Token) (x : A) (more : List Token) (total : Read (List A)) → i < most → first_is begun tokens ≡ true → reads (start + i, room) tokens ≡ Took x more
      → with_front front (most_at begun reads (next takes) (most - i) (start + i, room) tokens) ≡ total → with_front (front ++ x ∷ []) (most_at begun reads (next takes) (most - (i + 1)) (start + (i + 1), room - takes x) more) ≡ total
  goes_on front most i start room tokens x more total lt first h so_far =
      let k : most - i ≡ suc (most - (i + 1)) = omega arith in
      let j : (start + i) + 1 ≡ start + (i + 1) = omega arith in
      let one : most_at begun reads (next takes) (most - i) (start + i, room) tokens ≡ (most_at begun reads (next takes) (most - (i + 1)) (start + (i + 1), room - takes x) more >>= λ xs. Took (x ∷ xs.0) xs.1) =
      ap (λ n. most_at begun reads (next takes) n (start + i, room) tokens) k ∙ one_more (most - (i + 1)) (start + i, room) tokens first
      ∙ ap (λ o. o >>= λ x. most_at begun reads (next takes) (most - (i + 1)) (next takes (start + i, room) x.0) x.1 >>= λ xs. Took (x.0 ∷ xs.0) xs.1) h
      ∙ ap (λ n. most_at begun reads (next takes) (most - (i + 1)) (n, room - takes x) more >>= λ xs. Took (x ∷ xs.0) xs.1) j in
      sym (ap (with_front front) one ∙ regroup front x (most_at begun reads (next takes) (most - (i + 1)) (start + (i + 1), room - takes x) more)) ∙ so_far

  pub stops : (front : List A) (most i : ℕ) (s : Before) (tokens : List Token) (total : Read (List A)) → i < most → first_is begun tokens ≡ false
      → with_front front (most_at begun reads (next takes) (most - i) s tokens) ≡ total → total ≡ Took front tokens
  stops front most i s tokens total lt none so_far =
      let k : most - i ≡ suc (most - (i + 1)) = omega arith in
      sym so_far ∙ ap (λ n. with_front front (most_at begun reads (next takes) n s tokens)) k ∙ ap (with_front front) (no_more (most - (i + 1)) s tokens none) ∙ ap (λ (xs : List A). Took xs tokens) (append-nil front)

  pub ends : (e : ReadError) (front : List A) (most i : ℕ) (s : Before) (tokens : List Token) (total : Read (List A)) → i < most → first_is begun tokens ≡ true → Fails e (reads s tokens)
      → with_front front (most_at begun reads (next takes) (most - i) s tokens) ≡ total → Fails e total
  ends error.Memory front most i s tokens total lt first h so_far = tt
  ends (error.At left) front most i s tokens total lt first h so_far =
      let k : most - i ≡ suc (most - (i + 1)) = omega arith in
      sym so_far ∙ ap (λ n. with_front front (most_at begun reads (next takes) n s tokens)) k
      ∙ ap (with_front front) (one_more (most - (i + 1)) s tokens first ∙ ap (λ o. o >>= λ x. most_at begun reads (next takes) (most - (i + 1)) (next takes s x.0) x.1 >>= λ xs. Took (x.0 ∷ xs.0) xs.1) h)
  ends (error.Limit which left) front most i s tokens total lt first h so_far =
      let k : most - i ≡ suc (most - (i + 1)) = omega arith in
      sym so_far ∙ ap (λ n. with_front front (most_at begun reads (next takes) n s tokens)) k
      ∙ ap (with_front front) (one_more (most - (i + 1)) s tokens first ∙ ap (λ o. o >>= λ x. most_at begun reads (next takes) (most - (i + 1)) (next takes s x.0) x.1 >>= λ xs. Took (x.0 ∷ xs.0) xs.1) h)

  pub is_done : (front : List A) (most i : ℕ) (s : Before) (tokens : List Token) (total : Read (List A)) → most ≤ i → with_front front (most_at begun reads (next takes) (most - i) s tokens) ≡ total → total ≡ Took front tokens
  is_done front most i s tokens total le so_far =
      let k : most - i ≡ zero = omega arith in
      sym so_far ∙ ap (λ n. with_front front (most_at begun reads (next takes) n s tokens)) k ∙ ap (with_front front) (no_room_left s tokens) ∙ ap (λ (xs : List A). Took xs tokens) (append-nil front)
