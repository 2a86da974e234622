-- A run at the front of bytes is their first piece.
use Rattle.std.proofs.Common.{◌≡◌, ℕ, Bool, true, false, cond, if◌then◌else◌, List, [], ◌∷◌, length, take, drop, refl, sym, ap, ◌∙◌}
use Rattle.std.specs.List.{take_while}
use Rattle.std.proofs.lemmas.List.Sums.{take_while-cons}
use Rattle.mig_tokens.specs.declared.token.Token.{Token}
use Rattle.mig_tokens.specs.declared.token.Token.TheVariants.{Word, Int, Sign}
use Rattle.mig_tokens.specs.Bytes.{is_letter, is_name_byte, first_is}
use Rattle.mig_reading.specs.Pieces.{run, joined, pieces}

joined_run : (b : ℕ) (w : List ℕ) (ts : List Token) → joined b (run w ∷ ts) ≡ run (b ∷ w) ∷ ts
joined_run b w ts = by_test (first_is is_letter w)
  where
    by_test : (t : Bool) → joined b ((if t then Word w else Int w) ∷ ts) ≡ run (b ∷ w) ∷ ts
    by_test true = refl
    by_test false = refl

named : (b : ℕ) (bs : List ℕ) → is_name_byte b ≡ true → pieces (b ∷ bs) ≡ joined b (pieces bs)
named b bs h = ap (λ t. if t then joined b (pieces bs) else Sign (b ∷ []) ∷ pieces bs) h

pub other : (b : ℕ) (bs : List ℕ) → is_name_byte b ≡ false → pieces (b ∷ bs) ≡ Sign (b ∷ []) ∷ pieces bs
other b bs h = ap (λ t. if t then joined b (pieces bs) else Sign (b ∷ []) ∷ pieces bs) h

taken : (b : ℕ) (bs : List ℕ) → is_name_byte b ≡ true → take_while is_name_byte (b ∷ bs) ≡ b ∷ take_while is_name_byte bs
taken b bs h = take_while-cons is_name_byte b bs ∙ ap (λ t. cond t (b ∷ take_while is_name_byte bs) []) h

left : (b : ℕ) (bs : List ℕ) → is_name_byte b ≡ false → take_while is_name_byte (b ∷ bs) ≡ []
left b bs h = take_while-cons is_name_byte b bs ∙ ap (λ t. cond t (b ∷ take_while is_name_byte bs) []) h

-- a byte of a run, and what follows it
behind : (b : ℕ) (bs : List ℕ) → joined b (pieces bs) ≡ run (b ∷ take (length (take_while is_name_byte bs)) bs) ∷ pieces (drop (length (take_while is_name_byte bs)) bs)
behind b [] = refl
behind b (c ∷ cs) = by_test (behind c cs) (is_name_byte c) refl
  where
    cut : List ℕ → List Token
    cut w = run (b ∷ take (length w) (c ∷ cs)) ∷ pieces (drop (length w) (c ∷ cs))

    by_test : joined c (pieces cs) ≡ run (c ∷ take (length (take_while is_name_byte cs)) cs) ∷ pieces (drop (length (take_while is_name_byte cs)) cs)
        → (t : Bool) → is_name_byte c ≡ t → joined b (pieces (c ∷ cs)) ≡ cut (take_while is_name_byte (c ∷ cs))
    by_test more true h =
        ap (joined b) (named c cs h ∙ more)
        ∙ joined_run b (c ∷ take (length (take_while is_name_byte cs)) cs) (pieces (drop (length (take_while is_name_byte cs)) cs))
        ∙ ap cut (sym (taken c cs h))
    by_test more false h = ap (joined b) (other c cs h) ∙ ap (λ ts. run (b ∷ []) ∷ ts) (sym (other c cs h)) ∙ ap cut (sym (left c cs h))

pub first_run : (b : ℕ) (bs : List ℕ) → is_name_byte b ≡ true
    → pieces (b ∷ bs) ≡ run (take (length (take_while is_name_byte (b ∷ bs))) (b ∷ bs)) ∷ pieces (drop (length (take_while is_name_byte (b ∷ bs))) (b ∷ bs))
first_run b bs h = named b bs h ∙ behind b bs ∙ ap (λ w. run (take (length w) (b ∷ bs)) ∷ pieces (drop (length w) (b ∷ bs))) (sym (taken b bs h))
