-- What a draft says of the words behind `migrate`.
use Rattle.std.proofs.Common.{◌≡◌, ℕ, true, false, not, if◌then◌else◌, List, [], ◌∷◌, ◌++◌, Option, Some, None, option_to_list, unwrap_or, ◌⊎◌, inl, inr, codes, refl, sym, ap, ◌∙◌, subst, append_assoc}
use Rattle.std.specs.List.{list_all}
use Rattle.std.proofs.lemmas.Bool.{and_parts, and_from}
use Rattle.std.proofs.lemmas.List.{append-nil}
use Rattle.std.proofs.lemmas.List.Folds.{list_all-append}
use Rattle.mig_words.specs.declared.command.Options.{Options}
use Rattle.mig_words.specs.declared.command.Command.{Command}
use Rattle.mig_words.specs.declared.command.Command.TheVariants.{Migrate}
use Rattle.mig_words.specs.declared.command.WordFault.TheVariants.{Missing}
use Rattle.mig_words.specs.declared.settings.Setting.{Setting}
use Rattle.mig_words.specs.declared.settings.Setting.TheVariants.{Budget, Maps, Tests}
use Rattle.mig_words.specs.declared.drafts.Draft.{Draft}
use Rattle.mig_words.specs.Words.{is_dashed, number_of}
use Rattle.mig_words.specs.Settings.{setting_word, same_setting, takes, usual, value}
use Rattle.mig_words.specs.Commands.{Item, file, setting, spelled, is_sound, files_of, numbers_of, IsSet, IsMigrate, IsCommand, migrates}
use Rattle.mig_words.specs.Faults.{IsFront, IsFault, short}
use Rattle.mig_words.specs.Drafts.{given, with_number, with_option, with_job, options_of, next_word, IsDraft, Takes, as_number, as_option, as_file}
use Rattle.mig_words.proofs.Items.{word-named, file-clash, spelled-append, files-append, numbers-append, split}
use Rattle.mig_words.proofs.Inverting.{IsOfMigrate, it, as_migrate}

-- ---- one word more

number-pending : (s : Setting) (n : ℕ) (d : Draft) → (with_number s n d).pending ≡ None
number-pending Budget n d = refl
number-pending Maps n d = refl
number-pending Tests n d = refl

number-job : (s : Setting) (n : ℕ) (d : Draft) → (with_number s n d).job ≡ d.job
number-job Budget n d = refl
number-job Maps n d = refl
number-job Tests n d = refl

option-given : (t s : Setting) (d : Draft) → given t (with_option s d) ≡ given t d
option-given Budget s d = refl
option-given Maps s d = refl
option-given Tests s d = refl

job-given : (t : Setting) (w : List ℕ) (d : Draft) → given t (with_job w d) ≡ given t d
job-given Budget w d = refl
job-given Maps w d = refl
job-given Tests w d = refl

number-given : (t s : Setting) (n : ℕ) (d : Draft) (xs : List ℕ) → xs ≡ option_to_list (given t d) → given s d ≡ None
    → xs ++ (if same_setting t s then n ∷ [] else []) ≡ option_to_list (given t (with_number s n d))
number-given Budget Budget n d xs e f = ap (λ (ys : List ℕ). ys ++ n ∷ []) (e ∙ ap option_to_list f)
number-given Maps Maps n d xs e f = ap (λ (ys : List ℕ). ys ++ n ∷ []) (e ∙ ap option_to_list f)
number-given Tests Tests n d xs e f = ap (λ (ys : List ℕ). ys ++ n ∷ []) (e ∙ ap option_to_list f)
number-given t s n d xs e f = append-nil xs ∙ e

none-given : (s : Setting) → [] ≡ option_to_list (given s (record { job = None; budget = None; maps = None; tests = None; pending = None }))
none-given Budget = refl
none-given Maps = refl
none-given Tests = refl

-- no word is given
pub begun : IsDraft [] (record { job = None; budget = None; maps = None; tests = None; pending = None })
begun = record { items = []; spells = refl; sound = refl; files = refl; numbers = λ s. none-given s; next = λ s e. absurd cc }

module _ (ws : List (List ℕ)) (w : List ℕ) (d : Draft) (g : IsDraft ws d) where
  one-sound : (i : Item) → is_sound i ≡ true → list_all is_sound (g.items ++ i ∷ []) ≡ true
  one-sound i h = list_all-append is_sound g.items (i ∷ []) ∙ and_from (list_all is_sound g.items) (list_all is_sound (i ∷ [])) g.sound (and_from (is_sound i) true h refl)

  number-grows : (s : Setting) → d.pending ≡ Some s → takes s w ≡ true → IsDraft (ws ++ w ∷ []) (with_number s (number_of w) d)
  number-grows s p h = record {
    items = g.items ++ setting s w ∷ [];
    spells =
        ap (λ (vs : List (List ℕ)). vs ++ w ∷ []) (g.spells ∙ ap (λ (o : Option Setting). spelled g.items ++ next_word o) p)
        ∙ append_assoc (spelled g.items) (setting_word s ∷ []) (w ∷ [])
        ∙ sym (spelled-append g.items (setting s w ∷ []))
        ∙ sym (append-nil (spelled (g.items ++ setting s w ∷ [])))
        ∙ ap (λ (o : Option Setting). spelled (g.items ++ setting s w ∷ []) ++ next_word o) (sym (number-pending s (number_of w) d));
    sound = one-sound (setting s w) h;
    files = files-append g.items (setting s w ∷ []) ∙ append-nil (files_of g.items) ∙ g.files ∙ ap option_to_list (sym (number-job s (number_of w) d));
    numbers = λ t. numbers-append t g.items (setting s w ∷ []) ∙ number-given t s (number_of w) d (numbers_of t g.items) (g.numbers t) (g.next s p);
    next = λ t e. let never : None ≡ Some t = sym (number-pending s (number_of w) d) ∙ e in absurd cc;
  }

  option-grows : (s : Setting) → d.pending ≡ None → w ≡ setting_word s → given s d ≡ None → IsDraft (ws ++ w ∷ []) (with_option s d)
  option-grows s p e h = record {
    items = g.items;
    spells =
        ap (λ (vs : List (List ℕ)). vs ++ w ∷ []) (g.spells ∙ ap (λ (o : Option Setting). spelled g.items ++ next_word o) p ∙ append-nil (spelled g.items))
        ∙ ap (λ (v : List ℕ). spelled g.items ++ v ∷ []) e;
    sound = g.sound;
    files = g.files;
    numbers = λ t. g.numbers t ∙ ap option_to_list (sym (option-given t s d));
    next = λ t f. let same : s ≡ t = cc in option-given t s d ∙ ap (λ (u : Setting). given u d) (sym same) ∙ h;
  }

  file-grows : d.pending ≡ None → is_dashed w ≡ false → d.job ≡ None → IsDraft (ws ++ w ∷ []) (with_job w d)
  file-grows p h j = record {
    items = g.items ++ file w ∷ [];
    spells =
        ap (λ (vs : List (List ℕ)). vs ++ w ∷ []) (g.spells ∙ ap (λ (o : Option Setting). spelled g.items ++ next_word o) p ∙ append-nil (spelled g.items))
        ∙ sym (spelled-append g.items (file w ∷ []))
        ∙ sym (append-nil (spelled (g.items ++ file w ∷ [])));
    sound = one-sound (file w) (ap not h);
    files = files-append g.items (file w ∷ []) ∙ ap (λ (fs : List (List ℕ)). fs ++ w ∷ []) (g.files ∙ ap option_to_list j);
    numbers = λ t. numbers-append t g.items (file w ∷ []) ∙ append-nil (numbers_of t g.items) ∙ g.numbers t ∙ ap option_to_list (sym (job-given t w d));
    next = λ t e. absurd cc;
  }

  -- a word that is taken makes a draft of one word more
  pub grows : (e : Draft) → Takes d w e → IsDraft (ws ++ w ∷ []) e
  grows e (as_number s p h is) = subst (IsDraft (ws ++ w ∷ [])) (sym is) (number-grows s p h)
  grows e (as_option s p h free is) = subst (IsDraft (ws ++ w ∷ [])) (sym is) (option-grows s p (word-named w s h) free)
  grows e (as_file p h j is) = subst (IsDraft (ws ++ w ∷ [])) (sym is) (file-grows p h j)

-- ---- a whole command

set-of : (s : Setting) (is : List Item) (o : Option ℕ) (n : ℕ) → numbers_of s is ≡ option_to_list o → n ≡ unwrap_or o (usual s) → IsSet s is n
set-of s is (Some k) n e f = inl (e ∙ ap (λ (m : ℕ). m ∷ []) (sym f))
set-of s is None n e f = inr (e, f)

option-value : (s : Setting) (d : Draft) → value s (options_of d) ≡ unwrap_or (given s d) (usual s)
option-value Budget d = refl
option-value Maps d = refl
option-value Tests d = refl

-- a draft that has the file and wants no number is a command
pub ended : (ws : List (List ℕ)) (d : Draft) (job : List ℕ) → IsDraft ws d → d.pending ≡ None → d.job ≡ Some job → IsCommand (codes "migrate" ∷ ws) (Migrate job (options_of d))
ended ws d job g p j = migrates job (options_of d) (record {
  items = g.items;
  spells = ap (λ (vs : List (List ℕ)). codes "migrate" ∷ vs) (g.spells ∙ ap (λ (o : Option Setting). spelled g.items ++ next_word o) p ∙ append-nil (spelled g.items));
  sound = g.sound;
  files = g.files ∙ ap option_to_list j;
  settings = λ s. set-of s g.items (given s d) (value s (options_of d)) (g.numbers s) (option-value s d);
}) refl

-- ---- the words begin a command

pub front-shorter : (ws more : List (List ℕ)) → IsFront (ws ++ more) → IsFront ws
front-shorter ws more f = (more ++ f.0, f.1, subst (λ (vs : List (List ℕ)). IsCommand vs f.1) (append_assoc ws more f.0) f.2)

front-whole : (ws : List (List ℕ)) (c : Command) → IsCommand ws c → IsFront ws
front-whole ws c h = ([], c, subst (λ (vs : List (List ℕ)). IsCommand vs c) (sym (append-nil ws)) h)

front-free : (ws : List (List ℕ)) (d : Draft) (o : Option (List ℕ)) → d.job ≡ o → IsDraft ws d → d.pending ≡ None → IsFront (codes "migrate" ∷ ws)
front-free ws d (Some job) j g p = front-whole (codes "migrate" ∷ ws) (Migrate job (options_of d)) (ended ws d job g p j)
front-free ws d None j g p =
    front-shorter (codes "migrate" ∷ ws) ([] ∷ [])
    (front-whole (codes "migrate" ∷ (ws ++ [] ∷ [])) (Migrate [] (options_of (with_job [] d))) (ended (ws ++ [] ∷ []) (with_job [] d) [] (grows ws [] d g (with_job [] d) (as_file p refl j refl)) refl refl))

takes-one : (s : Setting) → takes s (codes "1") ≡ true
takes-one Budget = refl
takes-one Maps = refl
takes-one Tests = refl

front-of : (ws : List (List ℕ)) (d : Draft) (o : Option Setting) → d.pending ≡ o → IsDraft ws d → IsFront (codes "migrate" ∷ ws)
front-of ws d None p g = front-free ws d d.job refl g p
front-of ws d (Some s) p g =
    front-shorter (codes "migrate" ∷ ws) (codes "1" ∷ [])
    (front-free (ws ++ codes "1" ∷ []) (with_number s (number_of (codes "1")) d) (with_number s (number_of (codes "1")) d).job refl
    (grows ws (codes "1") d g (with_number s (number_of (codes "1")) d) (as_number s p (takes-one s) refl)) (number-pending s (number_of (codes "1")) d))

pub front : (ws : List (List ℕ)) (d : Draft) → IsDraft ws d → IsFront (codes "migrate" ∷ ws)
front ws d g = front-of ws d d.pending refl g

-- ---- what a command has behind them

-- the items behind those of a draft
pub record IsBehind (ws : List (List ℕ)) (d : Draft) (g : IsDraft ws d) (more : List (List ℕ)) : Type 0 where
  pub job : List ℕ
  pub options : Options
  pub items : List Item
  pub spells : next_word d.pending ++ more ≡ spelled items
  pub sound : list_all is_sound items ≡ true
  pub files : files_of g.items ++ files_of items ≡ job ∷ []
  pub settings : (s : Setting) → (numbers_of s g.items ++ numbers_of s items ≡ value s options ∷ []) ⊎ (numbers_of s g.items ++ numbers_of s items ≡ [])

behind-set : (s : Setting) (is js : List Item) (n : ℕ) → IsSet s (is ++ js) n → (numbers_of s is ++ numbers_of s js ≡ n ∷ []) ⊎ (numbers_of s is ++ numbers_of s js ≡ [])
behind-set s is js n (inl e) = inl (sym (numbers-append s is js) ∙ e)
behind-set s is js n (inr e) = inr (sym (numbers-append s is js) ∙ e.0)

behind-items : (ws : List (List ℕ)) (d : Draft) (g : IsDraft ws d) (more : List (List ℕ)) (job : List ℕ) (options : Options) → IsMigrate (codes "migrate" ∷ (ws ++ more)) job options → IsBehind ws d g more
behind-items ws d g more job options m =
    let all : ws ++ more ≡ spelled m.items = let e = m.spells in cc in
    let k = split g.items m.items (next_word d.pending ++ more) g.sound m.sound (sym (append_assoc (spelled g.items) (next_word d.pending) more) ∙ ap (λ (vs : List (List ℕ)). vs ++ more) (sym g.spells) ∙ all) in
    record {
      job = job;
      options = options;
      items = k.0;
      spells = k.2;
      sound = (and_parts (list_all is_sound g.items) (list_all is_sound k.0) (sym (list_all-append is_sound g.items k.0) ∙ ap (list_all is_sound) (sym k.1) ∙ m.sound)).1;
      files = sym (files-append g.items k.0) ∙ ap files_of (sym k.1) ∙ m.files;
      settings = λ s. behind-set s g.items k.0 (value s options) (subst (λ (is : List Item). IsSet s is (value s options)) k.1 (m.settings s));
    }

pub behind-command : (ws : List (List ℕ)) (d : Draft) (g : IsDraft ws d) (more : List (List ℕ)) (c : Command) → IsOfMigrate (ws ++ more) c → IsBehind ws d g more
behind-command ws d g more c (it job options m e) = behind-items ws d g more job options m

-- ---- words that end too soon

no-one-word : (s : Setting) (is : List Item) → list_all is_sound is ≡ true → setting_word s ∷ [] ≡ spelled is → ⊥
no-one-word s [] h e = absurd cc
no-one-word s (file w ∷ is) h e = let head : w ≡ setting_word s = cc in file-clash w s (and_parts (is_sound (file w)) (list_all is_sound is) h).0 head
no-one-word s (setting t w ∷ is) h e = absurd cc

no-words : (is : List Item) → [] ≡ spelled is → files_of is ≡ []
no-words [] e = refl
no-words (file w ∷ is) e = absurd cc
no-words (setting t w ∷ is) e = absurd cc

no-file : (ws : List (List ℕ)) (d : Draft) (g : IsDraft ws d) (b : IsBehind ws d g []) → d.job ≡ None → (o : Option Setting) → d.pending ≡ o → ⊥
no-file ws d g b j (Some s) p = no-one-word s b.items b.sound (sym (append-nil (setting_word s ∷ [])) ∙ ap (λ (o : Option Setting). next_word o ++ []) (sym p) ∙ b.spells)
no-file ws d g b j None p =
    let none : files_of b.items ≡ [] = no-words b.items (ap (λ (o : Option Setting). next_word o ++ []) (sym p) ∙ b.spells) in
    let never : [] ≡ b.job ∷ [] = ap (λ (fs : List (List ℕ)). fs ++ []) (sym (g.files ∙ ap option_to_list j)) ∙ ap (λ (fs : List (List ℕ)). files_of g.items ++ fs) (sym none) ∙ b.files in
    absurd cc

-- a draft that wants a number, or has no file, is no command
pub unfinished : (ws : List (List ℕ)) (d : Draft) (g : IsDraft ws d) → ((s : Setting) × (d.pending ≡ Some s)) ⊎ (d.job ≡ None) → (c : Command) → IsCommand (codes "migrate" ∷ ws) c → ⊥
unfinished ws d g (inl p) c h =
    let b = behind-command ws d g [] c (as_migrate (ws ++ []) c (subst (λ (vs : List (List ℕ)). IsCommand (codes "migrate" ∷ vs) c) (sym (append-nil ws)) h)) in
    no-one-word p.0 b.items b.sound (sym (append-nil (setting_word p.0 ∷ [])) ∙ ap (λ (o : Option Setting). next_word o ++ []) (sym p.1) ∙ b.spells)
unfinished ws d g (inr j) c h =
    let b = behind-command ws d g [] c (as_migrate (ws ++ []) c (subst (λ (vs : List (List ℕ)). IsCommand (codes "migrate" ∷ vs) c) (sym (append-nil ws)) h)) in
    no-file ws d g b j d.pending refl

-- so they are too short
pub too-short : (ws : List (List ℕ)) (d : Draft) (g : IsDraft ws d) → ((s : Setting) × (d.pending ≡ Some s)) ⊎ (d.job ≡ None) → IsFault (codes "migrate" ∷ ws) Missing
too-short ws d g h = short (λ e. cc) (front ws d g) (unfinished ws d g h) refl
