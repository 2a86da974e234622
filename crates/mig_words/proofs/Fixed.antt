-- The commands whose words stand in one order: which words begin them, and their faults.
use Rattle.std.proofs.Common.{◌≡◌, ℕ, true, false, not, List, [], ◌∷◌, ◌++◌, ◌⊎◌, inl, inr, Option, Some, None, codes, length, get_or, drop, take, ◌-◌, ◌+◌, ◌<◌, ◌≤◌, ◌≢◌, refl, sym, ap, ap₂, ◌∙◌, subst, arith}
use Rattle.std.specs.List.{list_all}
use Rattle.std.proofs.lemmas.Bool.{and_from, and_parts}
use Rattle.std.proofs.lemmas.List.{take_all}
use Rattle.mig_words.specs.declared.command.Command.{Command}
use Rattle.mig_words.specs.declared.command.Command.TheVariants.{Check, Run, Trial}
use Rattle.mig_words.specs.declared.command.WordFault.{WordFault}
use Rattle.mig_words.specs.declared.command.WordFault.TheVariants.{UnknownWord, Missing, Number}
use Rattle.mig_words.specs.Words.{is_dashed, is_within, number_of}
use Rattle.mig_words.specs.Files.{is_plain, AreFiles, IsNoFile, IsThird}
use Rattle.mig_words.specs.Commands.{IsCommand, checks, runs_old, runs_new, tries}
use Rattle.mig_words.specs.Faults.{IsFront, IsFault, short, wrong}
use Rattle.mig_words.proofs.Inverting.{as_check, old, new, as_run, as_trial, IsName, as_named}
use Rattle.mig_words.proofs.Ranking.{number-no-dash, plain-undashed, plain-unknown}

plain : (w : List ℕ) → is_dashed w ≡ false → is_plain w ≡ true
plain w h = ap not h

-- ---- check

check-1 : (a : List ℕ) → is_dashed a ≡ false → IsFront (codes "check" ∷ a ∷ [])
check-1 a h = ([] ∷ [], Check a [], checks a [] refl h refl refl)

check-2 : (a b : List ℕ) → is_dashed a ≡ false → is_dashed b ≡ false → IsFront (codes "check" ∷ a ∷ b ∷ [])
check-2 a b h k = ([], Check a b, checks a b refl h k refl)

check-0 : IsFront (codes "check" ∷ [])
check-0 = ([] ∷ [] ∷ [], Check [] [], checks [] [] refl refl refl refl)

pub check-none : IsFault (codes "check" ∷ []) Missing
check-none = short (λ e. cc) check-0 (λ c h. let k = as_check [] c h in let words = k.words in cc) refl

pub check-one : (a : List ℕ) → is_dashed a ≡ false → IsFault (codes "check" ∷ a ∷ []) Missing
check-one a h = short (λ e. cc) (check-1 a h) (λ c h. let k = as_check (a ∷ []) c h in let words = k.words in cc) refl

pub check-first : (a : List ℕ) (ws : List (List ℕ)) → is_dashed a ≡ true → IsFault (codes "check" ∷ a ∷ ws) (UnknownWord 2)
check-first a ws h = wrong (codes "check" ∷ []) a ws refl check-0
    (λ f. let k = as_check (a ∷ f.0) f.1 f.2 in let words = k.words in let free = k.first in cc)
    (sym (plain-unknown (codes "check" ∷ []) a refl refl))

pub check-second : (a b : List ℕ) (ws : List (List ℕ)) → is_dashed a ≡ false → is_dashed b ≡ true → IsFault (codes "check" ∷ a ∷ b ∷ ws) (UnknownWord 3)
check-second a b ws h i = wrong (codes "check" ∷ a ∷ []) b ws refl (check-1 a h)
    (λ f. let k = as_check (a ∷ b ∷ f.0) f.1 f.2 in let words = k.words in let free = k.second in cc)
    (sym (plain-unknown (codes "check" ∷ a ∷ []) b refl (and_from (is_plain a) true (plain a h) refl)))

pub check-third : (a b c : List ℕ) (ws : List (List ℕ)) → is_dashed a ≡ false → is_dashed b ≡ false → IsFault (codes "check" ∷ a ∷ b ∷ c ∷ ws) (UnknownWord 4)
check-third a b c ws h i = wrong (codes "check" ∷ a ∷ b ∷ []) c ws refl (check-2 a b h i)
    (λ f. let k = as_check (a ∷ b ∷ c ∷ f.0) f.1 f.2 in let words = k.words in cc)
    (sym (plain-unknown (codes "check" ∷ a ∷ b ∷ []) c refl (and_from (is_plain a) _ (plain a h) (and_from (is_plain b) true (plain b i) refl))))

-- the first word that is no file
check-wrong : (before : List (List ℕ)) (w : List ℕ) (after : List (List ℕ)) → list_all is_plain before ≡ true → length before ≤ 2 → (length before ≡ 2) ⊎ (is_dashed w ≡ true)
    → IsFault (codes "check" ∷ (before ++ w ∷ after)) (UnknownWord (length before + 2))
check-wrong [] w after h few (inl e) = absurd (omega (arith, e))
check-wrong [] w after h few (inr e) = check-first w after e
check-wrong (a ∷ []) w after h few (inl e) = absurd (omega (arith, e))
check-wrong (a ∷ []) w after h few (inr e) = check-second a w after (plain-undashed a (and_parts (is_plain a) _ h).0) e
check-wrong (a ∷ b ∷ []) w after h few e = let k = and_parts (is_plain a) _ h in check-third a b w after (plain-undashed a k.0) (plain-undashed b (and_parts (is_plain b) _ k.1).0)
check-wrong (a ∷ b ∷ c ∷ ds) w after h few e = absurd (omega (arith, few))

pub check-fault : (ws : List (List ℕ)) (e : WordFault) → IsNoFile 2 ws e → IsFault (codes "check" ∷ ws) e
check-fault ws e n =
    let f : IsFault (codes "check" ∷ ws) (UnknownWord (length n.before + 2)) =
    subst (λ (vs : List (List ℕ)). IsFault (codes "check" ∷ vs) (UnknownWord (length n.before + 2))) (sym n.spells) (check-wrong n.before n.word n.after n.plain n.few n.wrong) in
    subst (IsFault (codes "check" ∷ ws)) (sym n.told) f

pub check-short : (ws : List (List ℕ)) → AreFiles 2 ws → length ws < 2 → IsFault (codes "check" ∷ ws) Missing
check-short [] f lt = check-none
check-short (a ∷ []) f lt = check-one a (plain-undashed a (and_parts (is_plain a) _ f.plain).0)
check-short (a ∷ b ∷ ws) f lt = absurd (omega (arith, lt))

pub check-done : (ws : List (List ℕ)) (a b : List ℕ) → AreFiles 2 ws → 2 ≤ length ws → a ≡ get_or ws 0 a → b ≡ get_or ws 1 b → IsCommand (codes "check" ∷ ws) (Check a b)
check-done [] a b f e i j = absurd (omega (arith, e))
check-done (c ∷ []) a b f e i j = absurd (omega (arith, e))
check-done (c ∷ d ∷ []) a b f e i j =
    let k = and_parts (is_plain c) _ f.plain in
    checks a b (ap₂ (λ (u v : List ℕ). codes "check" ∷ u ∷ v ∷ []) (sym i) (sym j)) (ap is_dashed i ∙ plain-undashed c k.0) (ap is_dashed j ∙ plain-undashed d (and_parts (is_plain d) _ k.1).0) refl
check-done (c ∷ d ∷ g ∷ hs) a b f e i j = absurd (let few = f.few in omega (arith, few))

-- ---- run

run-0 : IsFront (codes "run" ∷ [])
run-0 = ([] ∷ [] ∷ [], Run [] [] None, runs_old [] [] refl refl refl refl)

run-1 : (a : List ℕ) → is_dashed a ≡ false → IsFront (codes "run" ∷ a ∷ [])
run-1 a h = ([] ∷ [], Run a [] None, runs_old a [] refl h refl refl)

run-2 : (a b : List ℕ) → is_dashed a ≡ false → is_dashed b ≡ false → IsFront (codes "run" ∷ a ∷ b ∷ [])
run-2 a b h k = ([], Run a b None, runs_old a b refl h k refl)

run-3 : (a b c : List ℕ) → is_dashed a ≡ false → is_dashed b ≡ false → is_dashed c ≡ false → IsFront (codes "run" ∷ a ∷ b ∷ c ∷ [])
run-3 a b c h k l = ([], Run a b (Some c), runs_new a b c refl h k l refl)

-- the words of a run
run-words : (ws : List (List ℕ)) (c : Command) → IsCommand (codes "run" ∷ ws) c
    → ((a : List ℕ) × (b : List ℕ) × (ws ≡ a ∷ b ∷ []) × (is_dashed a ≡ false) × (is_dashed b ≡ false))
    ⊎ ((a : List ℕ) × (b : List ℕ) × (c : List ℕ) × (ws ≡ a ∷ b ∷ c ∷ []) × (is_dashed a ≡ false) × (is_dashed b ≡ false) × (is_dashed c ≡ false))
run-words ws c h = elim (as_run ws c h) [
  | old a b e x y is ↦ inl (a, b, e, x, y)
  | new a b d e x y z is ↦ inr (a, b, d, e, x, y, z)
]

pub run-none : IsFault (codes "run" ∷ []) Missing
run-none = short (λ e. cc) run-0 (λ c h. elim (run-words [] c h) [ inl k ↦ let words = k.2 in cc | inr k ↦ let words = k.3 in cc ]) refl

pub run-one : (a : List ℕ) → is_dashed a ≡ false → IsFault (codes "run" ∷ a ∷ []) Missing
run-one a h = short (λ e. cc) (run-1 a h) (λ c h. elim (run-words (a ∷ []) c h) [ inl k ↦ let words = k.2 in cc | inr k ↦ let words = k.3 in cc ]) refl

pub run-first : (a : List ℕ) (ws : List (List ℕ)) → is_dashed a ≡ true → IsFault (codes "run" ∷ a ∷ ws) (UnknownWord 2)
run-first a ws h = wrong (codes "run" ∷ []) a ws refl run-0
    (λ f. elim (run-words (a ∷ f.0) f.1 f.2) [ inl k ↦ let words = k.2 in let free = k.3 in cc | inr k ↦ let words = k.3 in let free = k.4 in cc ])
    (sym (plain-unknown (codes "run" ∷ []) a refl refl))

pub run-second : (a b : List ℕ) (ws : List (List ℕ)) → is_dashed a ≡ false → is_dashed b ≡ true → IsFault (codes "run" ∷ a ∷ b ∷ ws) (UnknownWord 3)
run-second a b ws h i = wrong (codes "run" ∷ a ∷ []) b ws refl (run-1 a h)
    (λ f. elim (run-words (a ∷ b ∷ f.0) f.1 f.2) [ inl k ↦ let words = k.2 in let free = k.4 in cc | inr k ↦ let words = k.3 in let free = k.5 in cc ])
    (sym (plain-unknown (codes "run" ∷ a ∷ []) b refl (and_from (is_plain a) true (plain a h) refl)))

pub run-third : (a b c : List ℕ) (ws : List (List ℕ)) → is_dashed a ≡ false → is_dashed b ≡ false → is_dashed c ≡ true → IsFault (codes "run" ∷ a ∷ b ∷ c ∷ ws) (UnknownWord 4)
run-third a b c ws h i j = wrong (codes "run" ∷ a ∷ b ∷ []) c ws refl (run-2 a b h i)
    (λ f. elim (run-words (a ∷ b ∷ c ∷ f.0) f.1 f.2) [ inl k ↦ let words = k.2 in cc | inr k ↦ let words = k.3 in let free = k.6 in cc ])
    (sym (plain-unknown (codes "run" ∷ a ∷ b ∷ []) c refl (and_from (is_plain a) _ (plain a h) (and_from (is_plain b) true (plain b i) refl))))

pub run-fourth : (a b c d : List ℕ) (ws : List (List ℕ)) → is_dashed a ≡ false → is_dashed b ≡ false → is_dashed c ≡ false → IsFault (codes "run" ∷ a ∷ b ∷ c ∷ d ∷ ws) (UnknownWord 5)
run-fourth a b c d ws h i j = wrong (codes "run" ∷ a ∷ b ∷ c ∷ []) d ws refl (run-3 a b c h i j)
    (λ f. elim (run-words (a ∷ b ∷ c ∷ d ∷ f.0) f.1 f.2) [ inl k ↦ let words = k.2 in cc | inr k ↦ let words = k.3 in cc ])
    (sym (plain-unknown (codes "run" ∷ a ∷ b ∷ c ∷ []) d refl (and_from (is_plain a) _ (plain a h) (and_from (is_plain b) _ (plain b i) (and_from (is_plain c) true (plain c j) refl)))))

-- the first word that is no file
run-wrong : (before : List (List ℕ)) (w : List ℕ) (after : List (List ℕ)) → list_all is_plain before ≡ true → length before ≤ 3 → (length before ≡ 3) ⊎ (is_dashed w ≡ true)
    → IsFault (codes "run" ∷ (before ++ w ∷ after)) (UnknownWord (length before + 2))
run-wrong [] w after h few (inl e) = absurd (omega (arith, e))
run-wrong [] w after h few (inr e) = run-first w after e
run-wrong (a ∷ []) w after h few (inl e) = absurd (omega (arith, e))
run-wrong (a ∷ []) w after h few (inr e) = run-second a w after (plain-undashed a (and_parts (is_plain a) _ h).0) e
run-wrong (a ∷ b ∷ []) w after h few (inl e) = absurd (omega (arith, e))
run-wrong (a ∷ b ∷ []) w after h few (inr e) = let k = and_parts (is_plain a) _ h in run-third a b w after (plain-undashed a k.0) (plain-undashed b (and_parts (is_plain b) _ k.1).0) e
run-wrong (a ∷ b ∷ c ∷ []) w after h few e =
    let k = and_parts (is_plain a) _ h in
    let l = and_parts (is_plain b) _ k.1 in
    run-fourth a b c w after (plain-undashed a k.0) (plain-undashed b l.0) (plain-undashed c (and_parts (is_plain c) _ l.1).0)
run-wrong (a ∷ b ∷ c ∷ d ∷ ds) w after h few e = absurd (omega (arith, few))

pub run-fault : (ws : List (List ℕ)) (e : WordFault) → IsNoFile 3 ws e → IsFault (codes "run" ∷ ws) e
run-fault ws e n =
    let f : IsFault (codes "run" ∷ ws) (UnknownWord (length n.before + 2)) =
    subst (λ (vs : List (List ℕ)). IsFault (codes "run" ∷ vs) (UnknownWord (length n.before + 2))) (sym n.spells) (run-wrong n.before n.word n.after n.plain n.few n.wrong) in
    subst (IsFault (codes "run" ∷ ws)) (sym n.told) f

pub run-short : (ws : List (List ℕ)) → AreFiles 3 ws → length ws < 2 → IsFault (codes "run" ∷ ws) Missing
run-short [] f lt = run-none
run-short (a ∷ []) f lt = run-one a (plain-undashed a (and_parts (is_plain a) _ f.plain).0)
run-short (a ∷ b ∷ ws) f lt = absurd (omega (arith, lt))

run-two : (a b c d : List ℕ) → is_dashed c ≡ false → is_dashed d ≡ false → a ≡ c → b ≡ d → IsCommand (codes "run" ∷ c ∷ d ∷ []) (Run a b None)
run-two a b c d h k i j = runs_old a b (ap₂ (λ (u v : List ℕ). codes "run" ∷ u ∷ v ∷ []) (sym i) (sym j)) (ap is_dashed i ∙ h) (ap is_dashed j ∙ k) refl

run-three : (a b c d e : List ℕ) → is_dashed c ≡ false → is_dashed d ≡ false → is_dashed e ≡ false → a ≡ c → b ≡ d → IsCommand (codes "run" ∷ c ∷ d ∷ e ∷ []) (Run a b (Some e))
run-three a b c d e h k l i j = runs_new a b e (ap₂ (λ (u v : List ℕ). codes "run" ∷ u ∷ v ∷ e ∷ []) (sym i) (sym j)) (ap is_dashed i ∙ h) (ap is_dashed j ∙ k) l refl

pub run-done : (ws : List (List ℕ)) (a b : List ℕ) (o : Option (List ℕ)) → AreFiles 3 ws → 2 ≤ length ws → a ≡ get_or ws 0 a → b ≡ get_or ws 1 b → IsThird ws o → IsCommand (codes "run" ∷ ws) (Run a b o)
run-done [] a b o f e i j t = absurd (omega (arith, e))
run-done (c ∷ []) a b o f e i j t = absurd (omega (arith, e))
run-done (c ∷ d ∷ []) a b None f e i j t = let k = and_parts (is_plain c) _ f.plain in run-two a b c d (plain-undashed c k.0) (plain-undashed d (and_parts (is_plain d) _ k.1).0) i j
run-done (c ∷ d ∷ []) a b (Some x) f e i j t = let odd : [] ≡ x ∷ [] = t c d [] refl in absurd cc
run-done (c ∷ d ∷ g ∷ []) a b None f e i j t = let odd : g ∷ [] ≡ [] = t c d (g ∷ []) refl in absurd cc
run-done (c ∷ d ∷ g ∷ []) a b (Some x) f e i j t =
    let third : g ∷ [] ≡ x ∷ [] = t c d (g ∷ []) refl in
    let same : g ≡ x = cc in
    let k = and_parts (is_plain c) _ f.plain in
    let m = and_parts (is_plain d) _ k.1 in
    subst (λ (y : List ℕ). IsCommand (codes "run" ∷ c ∷ d ∷ g ∷ []) (Run a b (Some y))) same
    (run-three a b c d g (plain-undashed c k.0) (plain-undashed d m.0) (plain-undashed g (and_parts (is_plain g) _ m.1).0) i j)
run-done (c ∷ d ∷ g ∷ h ∷ hs) a b o f e i j t = absurd (let few = f.few in omega (arith, few))

-- ---- trial

trial-0 : IsFront (codes "trial" ∷ [])
trial-0 = (codes "1" ∷ [], Trial (number_of (codes "1")), tries (codes "1") refl refl refl)

trial-1 : (a : List ℕ) → is_within 1 8 a ≡ true → IsFront (codes "trial" ∷ a ∷ [])
trial-1 a h = ([], Trial (number_of a), tries a refl h refl)

pub trial-none : IsFault (codes "trial" ∷ []) Missing
trial-none = short (λ e. cc) trial-0 (λ c h. let k = as_trial [] c h in let words = k.words in cc) refl

pub trial-first : (a : List ℕ) (ws : List (List ℕ)) → is_within 1 8 a ≡ false → IsFault (codes "trial" ∷ a ∷ ws) (Number 2)
trial-first a ws h = wrong (codes "trial" ∷ []) a ws refl trial-0 (λ f. let k = as_trial (a ∷ f.0) f.1 f.2 in let words = k.words in let free = k.within in cc) refl

pub trial-second : (a b : List ℕ) (ws : List (List ℕ)) → is_within 1 8 a ≡ true → IsFault (codes "trial" ∷ a ∷ b ∷ ws) (UnknownWord 3)
trial-second a b ws h = wrong (codes "trial" ∷ a ∷ []) b ws refl (trial-1 a h)
    (λ f. let k = as_trial (a ∷ b ∷ f.0) f.1 f.2 in let words = k.words in cc)
    (sym (plain-unknown (codes "trial" ∷ a ∷ []) b refl (and_from (is_plain a) true (plain a (number-no-dash 1 8 a h)) refl)))

pub trial-short : (ws : List (List ℕ)) → length ws < 1 → IsFault (codes "trial" ∷ ws) Missing
trial-short [] lt = trial-none
trial-short (a ∷ ws) lt = absurd (omega (arith, lt))

pub trial-wrong : (ws : List (List ℕ)) (a : List ℕ) → 1 ≤ length ws → a ≡ get_or ws 0 a → is_within 1 8 a ≡ false → IsFault (codes "trial" ∷ ws) (Number 2)
trial-wrong [] a le i h = absurd (omega (arith, le))
trial-wrong (b ∷ ws) a le i h = trial-first b ws (ap (is_within 1 8) (sym i) ∙ h)

pub trial-long : (ws : List (List ℕ)) (a : List ℕ) → 1 ≤ length ws → length ws ≢ 1 → a ≡ get_or ws 0 a → is_within 1 8 a ≡ true → IsFault (codes "trial" ∷ ws) (UnknownWord 3)
trial-long [] a le more i h = absurd (omega (arith, le))
trial-long (b ∷ []) a le more i h = absurd (more refl)
trial-long (b ∷ c ∷ ws) a le more i h = trial-second b c ws (ap (is_within 1 8) (sym i) ∙ h)

pub trial-done : (ws : List (List ℕ)) (a : List ℕ) (n : ℕ) → length ws ≡ 1 → a ≡ get_or ws 0 a → is_within 1 8 a ≡ true → n ≡ number_of a → IsCommand (codes "trial" ∷ ws) (Trial n)
trial-done [] a n one i h e = absurd (omega (arith, one))
trial-done (b ∷ []) a n one i h e = tries a (ap (λ (v : List ℕ). codes "trial" ∷ v ∷ []) (sym i)) h (ap Trial e)
trial-done (b ∷ c ∷ ws) a n one i h e = absurd (omega (arith, one))

-- ---- another first word

-- a list that has its first item first
pub first-named : (w : List ℕ) (ws : List (List ℕ)) → 1 ≤ length ws → w ≡ get_or ws 0 w → w ∷ take (length ws - 1) (drop 1 ws) ≡ ws
first-named w [] le is = absurd (omega (arith, le))
first-named w (v ∷ vs) le is =
    let n : length vs ≤ length (v ∷ vs) - 1 = omega arith in
    ap₂ (λ (u : List ℕ) (us : List (List ℕ)). u ∷ us) is (take_all (length (v ∷ vs) - 1) vs n)

nothing : IsFront []
nothing = (codes "check" ∷ [] ∷ [] ∷ [], Check [] [], checks [] [] refl refl refl refl)

pub no-name : (a : List ℕ) (ws : List (List ℕ)) → (IsName a → ⊥) → IsFault (a ∷ ws) (UnknownWord 1)
no-name a ws never = wrong [] a ws refl nothing (λ f. never (as_named a f.0 f.1 f.2)) (sym (plain-unknown [] a refl refl))
