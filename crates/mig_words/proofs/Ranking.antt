-- What is wrong with a word.
use Rattle.std.proofs.Common.{◌≡◌, ℕ, ◌+◌, Bool, true, false, not, ◌&&◌, ◌||◌, ◌==◌, if◌then◌else◌, List, [], ◌∷◌, length, Option, Some, None, is_some, refl, sym, ap, ◌∙◌, arith}
use Rattle.std.specs.List.{list_all, list_any}
use Rattle.std.specs.Str.{bytes_eq}
use Rattle.std.proofs.lemmas.Bool.{and_parts}
use Rattle.std.proofs.lemmas.Slice.Eq.{bytes_eq-Decides}
use Rattle.mig_words.specs.declared.command.WordFault.TheVariants.{UnknownWord, Twice, Number}
use Rattle.mig_words.specs.declared.settings.Setting.{Setting}
use Rattle.mig_base.specs.Digits.{is_digit, is_numeral}
use Rattle.mig_words.specs.Words.{is_dashed, is_within}
use Rattle.mig_words.specs.Files.{is_plain}
use Rattle.mig_words.specs.Settings.{setting_named}
use Rattle.mig_words.specs.Faults.{is_setting, ends_with_setting, is_trial, wants_number, is_repeated, fault_at}
use Rattle.mig_words.proofs.Items.{word-named, clash}

no-named : (w : List ℕ) (o : Option Setting) → setting_named w ≡ o → is_dashed w ≡ false → is_some o ≡ false
no-named w None e h = refl
no-named w (Some s) e h = absurd (clash w s h (word-named w s e))

-- a word without a dash is no option's
pub no-setting : (w : List ℕ) → is_dashed w ≡ false → is_setting w ≡ false
no-setting w h = no-named w (setting_named w) refl h

digit-no-dash : (b : ℕ) → is_digit b ≡ true → (b == 45) ≡ false
digit-no-dash b h = grind (arith, h)

-- a number has no dash
pub number-no-dash : (least most : ℕ) (w : List ℕ) → is_within least most w ≡ true → is_dashed w ≡ false
number-no-dash least most [] h = refl
number-no-dash least most (b ∷ []) h = digit-no-dash b (and_parts (is_digit b) _ h).0
number-no-dash least most (b ∷ c ∷ bs) h =
    let k = and_parts (not (b == 48)) (list_all is_digit (b ∷ c ∷ bs)) (and_parts (is_numeral (b ∷ c ∷ bs)) _ h).0 in
    digit-no-dash b (and_parts (is_digit b) (list_all is_digit (c ∷ bs)) k.1).0

pub plain-undashed : (w : List ℕ) → is_plain w ≡ true → is_dashed w ≡ false
plain-undashed w h = grind (arith, h)

plain-ends : (ws : List (List ℕ)) → list_all is_plain ws ≡ true → ends_with_setting ws ≡ false
plain-ends [] h = refl
plain-ends (w ∷ []) h = no-setting w (plain-undashed w (and_parts (is_plain w) _ h).0)
plain-ends (w ∷ v ∷ ws) h = plain-ends (v ∷ ws) (and_parts (is_plain w) (list_all is_plain (v ∷ ws)) h).1

-- equal or not
differ : (v w : List ℕ) (b : Bool) → bytes_eq v w ≡ b → is_dashed v ≡ false → is_dashed w ≡ true → b ≡ false
differ v w false e h k = refl
differ v w true e h k = let same : v ≡ w = (bytes_eq-Decides v w).0 e in absurd (let never : false ≡ true = sym h ∙ ap is_dashed same ∙ k in cc)

pub either : (a b : Bool) → a ≡ false → b ≡ false → (a || b) ≡ false
either false false h k = refl
either false true h k = absurd cc
either true b h k = absurd cc

-- a word with a dash is none of those without
plain-differ : (w : List ℕ) (ws : List (List ℕ)) → is_dashed w ≡ true → list_all is_plain ws ≡ true → list_any (λ v. bytes_eq v w) ws ≡ false
plain-differ w [] k h = refl
plain-differ w (v ∷ ws) k h =
    let p = and_parts (is_plain v) (list_all is_plain ws) h in
    either (bytes_eq v w) (list_any (λ u. bytes_eq u w) ws) (differ v w (bytes_eq v w) refl (plain-undashed v p.0) k) (plain-differ w ws k p.1)

pub and-left : (a b : Bool) → a ≡ false → (a && b) ≡ false
and-left false b h = refl
and-left true b h = absurd cc

pub and-right : (a b : Bool) → b ≡ false → (a && b) ≡ false
and-right false b h = refl
and-right true b h = h

plain-once : (ws : List (List ℕ)) (w : List ℕ) (b : Bool) → is_dashed w ≡ b → list_all is_plain ws ≡ true → is_repeated ws w ≡ false
plain-once ws w true e h = and-right (is_setting w) _ (plain-differ w ws e h)
plain-once ws w false e h = and-left (is_setting w) _ (no-setting w e)

-- where no number is next, and the word is not an option's that was given
pub unknown-at : (ws : List (List ℕ)) (w : List ℕ) → wants_number ws ≡ false → is_repeated ws w ≡ false → fault_at ws w ≡ UnknownWord (length ws + 1)
unknown-at ws w a b =
    ap (λ (c : Bool). if c then Number (length ws + 1) else (if is_repeated ws w then Twice (length ws + 1) else UnknownWord (length ws + 1))) a
    ∙ ap (λ (c : Bool). if c then Twice (length ws + 1) else UnknownWord (length ws + 1)) b

pub twice-at : (ws : List (List ℕ)) (w : List ℕ) → wants_number ws ≡ false → is_repeated ws w ≡ true → fault_at ws w ≡ Twice (length ws + 1)
twice-at ws w a b =
    ap (λ (c : Bool). if c then Number (length ws + 1) else (if is_repeated ws w then Twice (length ws + 1) else UnknownWord (length ws + 1))) a
    ∙ ap (λ (c : Bool). if c then Twice (length ws + 1) else UnknownWord (length ws + 1)) b

pub number-at : (ws : List (List ℕ)) (w : List ℕ) → wants_number ws ≡ true → fault_at ws w ≡ Number (length ws + 1)
number-at ws w a = ap (λ (c : Bool). if c then Number (length ws + 1) else (if is_repeated ws w then Twice (length ws + 1) else UnknownWord (length ws + 1))) a

-- behind words without a dash, other than `trial` alone
pub plain-unknown : (ws : List (List ℕ)) (w : List ℕ) → is_trial ws ≡ false → list_all is_plain ws ≡ true → fault_at ws w ≡ UnknownWord (length ws + 1)
plain-unknown ws w t h = unknown-at ws w (either (is_trial ws) (ends_with_setting ws) t (plain-ends ws h)) (plain-once ws w (is_dashed w) refl h)

-- ---- answers by a test

pub chosen : (b : Bool) (n m : ℕ) → Some n ≡ (if b then Some m else None) → (b ≡ true) × (n ≡ m)
chosen true n m e = (refl, cc)
chosen false n m e = absurd cc

pub unchosen : (b : Bool) (m : ℕ) → None ≡ (if b then Some m else None) → b ≡ false
unchosen true m e = absurd cc
unchosen false m e = refl
