-- Lists of items: their words are read in one way only.
use Rattle.std.proofs.Common.{◌≡◌, ℕ, ◌+◌, ◌*◌, Bool, true, false, not, ◌||◌, if◌then◌else◌, List, [], ◌∷◌, ◌++◌, length, Some, None, refl, sym, ap, ◌∙◌, arith}
use Rattle.std.specs.List.{list_all, list_any}
use Rattle.std.specs.Str.{bytes_eq}
use Rattle.std.proofs.lemmas.Bool.{and_parts}
use Rattle.std.proofs.lemmas.Slice.Eq.{bytes_eq-Decides}
use Rattle.mig_words.specs.declared.settings.Setting.{Setting}
use Rattle.mig_words.specs.declared.settings.Setting.TheVariants.{Budget, Maps, Tests}
use Rattle.mig_words.specs.Words.{is_dashed, number_of}
use Rattle.mig_words.specs.Settings.{setting_word, setting_named, same_setting}
use Rattle.mig_words.specs.Commands.{Item, file, setting, spelled, is_sound, files_of, numbers_of}

-- ---- words of options

pub dashed-setting : (s : Setting) → is_dashed (setting_word s) ≡ true
dashed-setting Budget = refl
dashed-setting Maps = refl
dashed-setting Tests = refl

pub named-word : (s : Setting) → setting_named (setting_word s) ≡ Some s
named-word Budget = refl
named-word Maps = refl
named-word Tests = refl

-- two options have two words
pub word-one : (s t : Setting) → setting_word s ≡ setting_word t → s ≡ t
word-one s t h = let e : Some s ≡ Some t = sym (named-word s) ∙ ap setting_named h ∙ named-word t in cc

-- a word without a dash is no option's
pub clash : (w : List ℕ) (s : Setting) → is_dashed w ≡ false → w ≡ setting_word s → ⊥
clash w s h e = let k : true ≡ false = sym (dashed-setting s) ∙ ap is_dashed (sym e) ∙ h in cc

-- the word of an option that is named
named-by : (w : List ℕ) (a b c : Bool) (s : Setting) → bytes_eq w (setting_word Budget) ≡ a → bytes_eq w (setting_word Maps) ≡ b → bytes_eq w (setting_word Tests) ≡ c
    → (if a then Some Budget else (if b then Some Maps else (if c then Some Tests else None))) ≡ Some s → w ≡ setting_word s
named-by w true b c s i j k e = let f : Budget ≡ s = cc in (bytes_eq-Decides w (setting_word Budget)).0 i ∙ ap setting_word f
named-by w false true c s i j k e = let f : Maps ≡ s = cc in (bytes_eq-Decides w (setting_word Maps)).0 j ∙ ap setting_word f
named-by w false false true s i j k e = let f : Tests ≡ s = cc in (bytes_eq-Decides w (setting_word Tests)).0 k ∙ ap setting_word f
named-by w false false false s i j k e = absurd cc

pub word-named : (w : List ℕ) (s : Setting) → setting_named w ≡ Some s → w ≡ setting_word s
word-named w s e = named-by w _ _ _ s refl refl refl e

-- ---- joining

pub spelled-append : (is js : List Item) → spelled (is ++ js) ≡ spelled is ++ spelled js
spelled-append [] js = refl
spelled-append (file w ∷ is) js = ap (λ (ws : List (List ℕ)). w ∷ ws) (spelled-append is js)
spelled-append (setting s w ∷ is) js = ap (λ (ws : List (List ℕ)). setting_word s ∷ w ∷ ws) (spelled-append is js)

pub files-append : (is js : List Item) → files_of (is ++ js) ≡ files_of is ++ files_of js
files-append [] js = refl
files-append (file w ∷ is) js = ap (λ (ws : List (List ℕ)). w ∷ ws) (files-append is js)
files-append (setting s w ∷ is) js = files-append is js

chosen-append : (b : Bool) (n : ℕ) (xs ys zs : List ℕ) → zs ≡ xs ++ ys → (if b then n ∷ zs else zs) ≡ (if b then n ∷ xs else xs) ++ ys
chosen-append true n xs ys zs e = ap (λ (ns : List ℕ). n ∷ ns) e
chosen-append false n xs ys zs e = e

pub numbers-append : (s : Setting) (is js : List Item) → numbers_of s (is ++ js) ≡ numbers_of s is ++ numbers_of s js
numbers-append s [] js = refl
numbers-append s (file w ∷ is) js = numbers-append s is js
numbers-append s (setting t w ∷ is) js = chosen-append (same_setting s t) (number_of w) (numbers_of s is) (numbers_of s js) (numbers_of s (is ++ js)) (numbers-append s is js)

-- ---- splitting

pub undashed : (w : List ℕ) → not (is_dashed w) ≡ true → is_dashed w ≡ false
undashed w h = grind (arith, h)

-- a file's name is no option's word
pub file-clash : (w : List ℕ) (s : Setting) → is_sound (file w) ≡ true → w ≡ setting_word s → ⊥
file-clash w s h e = clash w s (undashed w h) e

-- where the words of sound items begin with those of others, the items do
pub split : (is js : List Item) (rest : List (List ℕ)) → list_all is_sound is ≡ true → list_all is_sound js ≡ true → spelled is ++ rest ≡ spelled js
    → (ks : List Item) × (js ≡ is ++ ks) × (rest ≡ spelled ks)
split [] js rest a b e = (js, refl, e)
split (file w ∷ is) [] rest a b e = absurd cc
split (file w ∷ is) (file v ∷ js) rest a b e =
    let head : w ≡ v = cc in
    let tail : spelled is ++ rest ≡ spelled js = cc in
    let r = split is js rest (and_parts (is_sound (file w)) (list_all is_sound is) a).1 (and_parts (is_sound (file v)) (list_all is_sound js) b).1 tail in
    let same : js ≡ is ++ r.0 = r.1 in
    (r.0, cc, r.2)
split (file w ∷ is) (setting s v ∷ js) rest a b e = let head : w ≡ setting_word s = cc in absurd (file-clash w s (and_parts (is_sound (file w)) (list_all is_sound is) a).0 head)
split (setting s w ∷ is) [] rest a b e = absurd cc
split (setting s w ∷ is) (file v ∷ js) rest a b e = let head : v ≡ setting_word s = cc in absurd (file-clash v s (and_parts (is_sound (file v)) (list_all is_sound js) b).0 head)
split (setting s w ∷ is) (setting t v ∷ js) rest a b e =
    let word : setting_word s ≡ setting_word t = cc in
    let one : s ≡ t = word-one s t word in
    let head : w ≡ v = cc in
    let tail : spelled is ++ rest ≡ spelled js = cc in
    let r = split is js rest (and_parts (is_sound (setting s w)) (list_all is_sound is) a).1 (and_parts (is_sound (setting t v)) (list_all is_sound js) b).1 tail in
    let same : js ≡ is ++ r.0 = r.1 in
    (r.0, cc, r.2)

-- ---- counting

-- a file has one word, and a given option two
pub length-spelled : (is : List Item) → length (spelled is) ≡ length (files_of is) + 2 * (length (numbers_of Budget is) + (length (numbers_of Maps is) + length (numbers_of Tests is)))
length-spelled [] = refl
length-spelled (file w ∷ is) = omega (arith, length-spelled is)
length-spelled (setting Budget w ∷ is) = omega (arith, length-spelled is)
length-spelled (setting Maps w ∷ is) = omega (arith, length-spelled is)
length-spelled (setting Tests w ∷ is) = omega (arith, length-spelled is)

behind : (a b c : Bool) → c ≡ true → (a || (b || c)) ≡ true
behind true b c h = refl
behind false true c h = refl
behind false false c h = h

-- the word of an option that has a number stands among the words
pub occurs : (s : Setting) (is : List Item) (n : ℕ) (ns : List ℕ) → numbers_of s is ≡ n ∷ ns → list_any (λ v. bytes_eq v (setting_word s)) (spelled is) ≡ true
occurs s [] n ns e = absurd cc
occurs s (file w ∷ is) n ns e = behind false (bytes_eq w (setting_word s)) _ (occurs s is n ns e)
occurs Budget (setting Budget w ∷ is) n ns e = refl
occurs Maps (setting Maps w ∷ is) n ns e = refl
occurs Tests (setting Tests w ∷ is) n ns e = refl
occurs s (setting t w ∷ is) n ns e = behind (bytes_eq (setting_word t) (setting_word s)) (bytes_eq w (setting_word s)) _ (occurs s is n ns e)
