-- Words behind `migrate` that are refused begin no command.
use Rattle.std.proofs.Common.{◌≡◌, ℕ, ◌+◌, ◌≤◌, Bool, true, false, ◌||◌, List, [], ◌∷◌, ◌++◌, length, Option, Some, None, option_to_list, inl, inr, codes, is_some, refl, sym, ap, ap₂, ◌∙◌, subst, append_assoc, length-append, arith}
use Rattle.std.specs.List.{list_all, list_any}
use Rattle.std.specs.Str.{bytes_eq}
use Rattle.std.proofs.lemmas.Bool.{and_parts, and_from}
use Rattle.std.proofs.lemmas.List.{append-nil}
use Rattle.mig_words.specs.declared.command.WordFault.{WordFault}
use Rattle.mig_words.specs.declared.command.WordFault.TheVariants.{Number, Twice, UnknownWord}
use Rattle.mig_words.specs.declared.settings.Setting.{Setting}
use Rattle.mig_words.specs.declared.settings.Setting.TheVariants.{Budget, Maps, Tests}
use Rattle.mig_words.specs.declared.drafts.Draft.{Draft}
use Rattle.mig_words.specs.Words.{is_dashed, number_of}
use Rattle.mig_words.specs.Settings.{setting_word, setting_named, takes, value, least, greatest}
use Rattle.mig_words.specs.Commands.{Item, file, setting, spelled, is_sound, files_of, numbers_of, IsCommand}
use Rattle.mig_words.specs.Faults.{IsFault, wrong, is_setting, ends_with_setting, is_trial, wants_number, is_repeated, fault_at}
use Rattle.mig_words.specs.Drafts.{given, next_word, IsDraft, Refuses, no_number, twice, dashed, second}
use Rattle.mig_words.proofs.Items.{named-word, word-one, word-named, clash, file-clash, undashed, length-spelled, occurs}
use Rattle.mig_words.proofs.Inverting.{as_migrate}
use Rattle.mig_words.proofs.Ranking.{no-setting, number-no-dash, either, unknown-at, twice-at, number-at, and-left}
use Rattle.mig_words.proofs.Drafting.{IsBehind, behind-command, front}

-- ---- how many words a draft has

at-most-one : {A : Type 0} (o : Option A) → length (option_to_list o) ≤ 1
at-most-one (Some x) = omega arith
at-most-one None = omega arith

next-one : (o : Option Setting) → length (next_word o) ≤ 1
next-one (Some s) = omega arith
next-one None = omega arith

pub few : (ws : List (List ℕ)) (d : Draft) → IsDraft ws d → length ws ≤ 8
few ws d g =
    let all : length ws ≡ length (spelled g.items) + length (next_word d.pending) = ap length g.spells ∙ length-append (spelled g.items) (next_word d.pending) in
    let f : length (files_of g.items) ≤ 1 = subst (λ (n : ℕ). n ≤ 1) (sym (ap length g.files)) (at-most-one d.job) in
    let b : length (numbers_of Budget g.items) ≤ 1 = subst (λ (n : ℕ). n ≤ 1) (sym (ap length (g.numbers Budget))) (at-most-one (given Budget d)) in
    let m : length (numbers_of Maps g.items) ≤ 1 = subst (λ (n : ℕ). n ≤ 1) (sym (ap length (g.numbers Maps))) (at-most-one (given Maps d)) in
    let t : length (numbers_of Tests g.items) ≤ 1 = subst (λ (n : ℕ). n ≤ 1) (sym (ap length (g.numbers Tests))) (at-most-one (given Tests d)) in
    omega (arith, all, f, b, m, t, length-spelled g.items, next-one d.pending)

-- ---- which faults

ends-last : (ws : List (List ℕ)) (w : List ℕ) → ends_with_setting (ws ++ w ∷ []) ≡ is_setting w
ends-last [] w = refl
ends-last (v ∷ []) w = refl
ends-last (v ∷ u ∷ us) w = ends-last (u ∷ us) w

ends-free : (v : List ℕ) (is : List Item) → is_setting v ≡ false → list_all is_sound is ≡ true → ends_with_setting (v ∷ spelled is) ≡ false
ends-free v [] e h = e
ends-free v (file w ∷ is) e h = let p = and_parts (is_sound (file w)) (list_all is_sound is) h in ends-free w is (no-setting w (undashed w p.0)) p.1
ends-free v (setting s w ∷ is) e h = let p = and_parts (is_sound (setting s w)) (list_all is_sound is) h in ends-free w is (no-setting w (number-no-dash (least s) (greatest s) w p.0)) p.1

no-trial : (ws : List (List ℕ)) → is_trial (codes "migrate" ∷ ws) ≡ false
no-trial [] = refl
no-trial (w ∷ ws) = refl

or-after : (a b : Bool) → b ≡ true → (a || b) ≡ true
or-after true b h = refl
or-after false b h = h

setting-there : (s : Setting) → is_setting (setting_word s) ≡ true
setting-there Budget = refl
setting-there Maps = refl
setting-there Tests = refl

module _ (ws : List (List ℕ)) (d : Draft) (g : IsDraft ws d) where
  wants : (s : Setting) → d.pending ≡ Some s → wants_number (codes "migrate" ∷ ws) ≡ true
  wants s p =
      or-after (is_trial (codes "migrate" ∷ ws)) (ends_with_setting (codes "migrate" ∷ ws))
      (ap (λ (vs : List (List ℕ)). ends_with_setting (codes "migrate" ∷ vs)) (g.spells ∙ ap (λ (o : Option Setting). spelled g.items ++ next_word o) p)
      ∙ ends-last (codes "migrate" ∷ spelled g.items) (setting_word s) ∙ setting-there s)

  free-words : d.pending ≡ None → ws ≡ spelled g.items
  free-words p = g.spells ∙ ap (λ (o : Option Setting). spelled g.items ++ next_word o) p ∙ append-nil (spelled g.items)

  wants-none : d.pending ≡ None → wants_number (codes "migrate" ∷ ws) ≡ false
  wants-none p =
      either (is_trial (codes "migrate" ∷ ws)) (ends_with_setting (codes "migrate" ∷ ws)) (no-trial ws)
      (ap (λ (vs : List (List ℕ)). ends_with_setting (codes "migrate" ∷ vs)) (free-words p) ∙ ends-free (codes "migrate") g.items refl g.sound)

  repeats : (s : Setting) (n : ℕ) → d.pending ≡ None → given s d ≡ Some n → is_repeated (codes "migrate" ∷ ws) (setting_word s) ≡ true
  repeats s n p h =
      and_from (is_setting (setting_word s)) (list_any (λ v. bytes_eq v (setting_word s)) (codes "migrate" ∷ ws)) (setting-there s)
      (or-after (bytes_eq (codes "migrate") (setting_word s)) (list_any (λ v. bytes_eq v (setting_word s)) ws)
      (ap (list_any (λ v. bytes_eq v (setting_word s))) (free-words p) ∙ occurs s g.items n [] (g.numbers s ∙ ap option_to_list h)))

  module _ (w : List ℕ) (more : List (List ℕ)) (b : IsBehind ws d g (w ∷ more)) where
    -- a number is next
    number-next : (s : Setting) → takes s w ≡ false → (is : List Item) → setting_word s ∷ w ∷ more ≡ spelled is → list_all is_sound is ≡ true → ⊥
    number-next s never [] e h = absurd cc
    number-next s never (file v ∷ is) e h = let head : v ≡ setting_word s = cc in file-clash v s (and_parts (is_sound (file v)) (list_all is_sound is) h).0 head
    number-next s never (setting t v ∷ is) e h =
        let word : setting_word s ≡ setting_word t = cc in
        let one : s ≡ t = word-one s t word in
        let head : w ≡ v = cc in
        let yes : takes t v ≡ true = (and_parts (is_sound (setting t v)) (list_all is_sound is) h).0 in
        absurd cc

    -- an option that was given
    once-more : (s : Setting) (n m : ℕ) (ns : List ℕ) → numbers_of s g.items ≡ n ∷ [] → numbers_of s b.items ≡ m ∷ ns → ⊥
    once-more s n m ns e f = elim (b.settings s) [
      | inl k ↦ let never : n ∷ m ∷ ns ≡ value s b.options ∷ [] = ap₂ (λ (xs ys : List ℕ). xs ++ ys) (sym e) (sym f) ∙ k in absurd cc
      | inr k ↦ let never : n ∷ m ∷ ns ≡ [] = ap₂ (λ (xs ys : List ℕ). xs ++ ys) (sym e) (sym f) ∙ k in absurd cc
    ]

    two-files : (job v : List ℕ) (fs : List (List ℕ)) → files_of g.items ≡ job ∷ [] → files_of b.items ≡ v ∷ fs → ⊥
    two-files job v fs e f = let never : job ∷ v ∷ fs ≡ b.job ∷ [] = ap₂ (λ (xs ys : List (List ℕ)). xs ++ ys) (sym e) (sym f) ∙ b.files in absurd cc

some-of : {A : Type 0} (o : Option A) → is_some o ≡ true → (x : A) × (o ≡ Some x)
some-of (Some x) h = (x, refl)
some-of None h = absurd cc

-- what the first of these words is
data IsFirst (w : List ℕ) (is : List Item) : Type 0 where
  a_file : (fs : List (List ℕ)) → is_dashed w ≡ false → files_of is ≡ w ∷ fs → IsFirst w is
  an_option : (t : Setting) (n : ℕ) (ns : List ℕ) → w ≡ setting_word t → numbers_of t is ≡ n ∷ ns → IsFirst w is

own-number : (t : Setting) (v : List ℕ) (is : List Item) → numbers_of t (setting t v ∷ is) ≡ number_of v ∷ numbers_of t is
own-number Budget v is = refl
own-number Maps v is = refl
own-number Tests v is = refl

first-of : (w : List ℕ) (more : List (List ℕ)) (is : List Item) → w ∷ more ≡ spelled is → list_all is_sound is ≡ true → IsFirst w is
first-of w more [] e h = absurd cc
first-of w more (file v ∷ is) e h =
    let head : w ≡ v = cc in
    a_file (files_of is) (ap is_dashed head ∙ undashed v (and_parts (is_sound (file v)) (list_all is_sound is) h).0) (ap (λ (u : List ℕ). u ∷ files_of is) (sym head))
first-of w more (setting t v ∷ is) e h = let head : w ≡ setting_word t = cc in an_option t (number_of v) (numbers_of t is) head (own-number t v is)

module _ (ws : List (List ℕ)) (d : Draft) (g : IsDraft ws d) (w : List ℕ) where
  -- with a refused word no command goes on
  begins-none : (at : ℕ) (fault : WordFault) → Refuses d w at fault → (more : List (List ℕ)) → IsBehind ws d g (w ∷ more) → ⊥
  begins-none at fault (no_number s p never is) more b = number-next ws d g w more b s never b.items (ap (λ (o : Option Setting). next_word o ++ w ∷ more) (sym p) ∙ b.spells) b.sound
  begins-none at fault (twice s n p named h is) more b =
      elim (first-of w more b.items (ap (λ (o : Option Setting). next_word o ++ w ∷ more) (sym p) ∙ b.spells) b.sound) [
        | a_file fs free e ↦ clash w s free (word-named w s named)
        | an_option t m ns e f ↦
            let one : s ≡ t = word-one s t (sym (word-named w s named) ∙ e) in
            once-more ws d g w more b s n m ns (g.numbers s ∙ ap option_to_list h) (ap (λ (u : Setting). numbers_of u b.items) one ∙ f)
      ]
  begins-none at fault (dashed p named h is) more b =
      elim (first-of w more b.items (ap (λ (o : Option Setting). next_word o ++ w ∷ more) (sym p) ∙ b.spells) b.sound) [
        | a_file fs free e ↦ absurd cc
        | an_option t m ns e f ↦ let never : None ≡ Some t = sym named ∙ ap setting_named e ∙ named-word t in absurd cc
      ]
  begins-none at fault (second p named h is) more b =
      elim (first-of w more b.items (ap (λ (o : Option Setting). next_word o ++ w ∷ more) (sym p) ∙ b.spells) b.sound) [
        | a_file fs free e ↦ let there = some-of d.job h in two-files ws d g w more b there.0 w fs (g.files ∙ ap option_to_list there.1) e
        | an_option t m ns e f ↦ let never : None ≡ Some t = sym named ∙ ap setting_named e ∙ named-word t in absurd cc
      ]

  place : (at : ℕ) → at ≡ length ws + 2 → at ≡ length (codes "migrate" ∷ ws) + 1
  place at e = omega (arith, e)

  -- and the fault is that of its place
  names : (at : ℕ) (fault : WordFault) → at ≡ length ws + 2 → Refuses d w at fault → fault ≡ fault_at (codes "migrate" ∷ ws) w
  names at fault e (no_number s p never is) = is ∙ ap Number (place at e) ∙ sym (number-at (codes "migrate" ∷ ws) w (wants ws d g s p))
  names at fault e (twice s n p named h is) =
      is ∙ ap Twice (place at e)
      ∙ sym (twice-at (codes "migrate" ∷ ws) w (wants-none ws d g p) (ap (is_repeated (codes "migrate" ∷ ws)) (word-named w s named) ∙ repeats ws d g s n p h))
  names at fault e (dashed p named h is) = is ∙ ap UnknownWord (place at e) ∙ sym (unknown-at (codes "migrate" ∷ ws) w (wants-none ws d g p) (and-left (is_setting w) _ (ap is_some named)))
  names at fault e (second p named h is) = is ∙ ap UnknownWord (place at e) ∙ sym (unknown-at (codes "migrate" ∷ ws) w (wants-none ws d g p) (and-left (is_setting w) _ (ap is_some named)))

  -- a refused word is the first fault
  pub refused : (all after : List (List ℕ)) (at : ℕ) (fault : WordFault) → all ≡ ws ++ w ∷ after → at ≡ length ws + 2 → Refuses d w at fault → IsFault (codes "migrate" ∷ all) fault
  refused all after at fault e k r = wrong (codes "migrate" ∷ ws) w after (ap (λ (vs : List (List ℕ)). codes "migrate" ∷ vs) e) (front ws d g)
      (λ f. begins-none at fault r f.0 (behind-command ws d g (w ∷ f.0) f.1 (as_migrate (ws ++ w ∷ f.0) f.1 (subst (λ (vs : List (List ℕ)). IsCommand (codes "migrate" ∷ vs) f.1) (append_assoc ws (w ∷ []) f.0) f.2))))
      (names at fault k r)
