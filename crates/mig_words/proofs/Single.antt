-- Words are at most one command, or have one first fault.
use Rattle.std.proofs.Common.{◌≡◌, ℕ, List, [], ◌∷◌, ◌++◌, Result, Ok, Err, ◌⊎◌, inl, inr, IfOk, IfErr, refl, sym, ap, ap₂, ◌∙◌, subst, append_assoc}
use Rattle.std.proofs.lemmas.List.{append-nil}
use Rattle.mig_words.specs.declared.command.Options.{Options}
use Rattle.mig_words.specs.declared.command.Command.{Command}
use Rattle.mig_words.specs.declared.command.Command.TheVariants.{Migrate}
use Rattle.mig_words.specs.declared.command.WordFault.{WordFault}
use Rattle.mig_words.specs.declared.command.WordFault.TheVariants.{Memory}
use Rattle.mig_words.specs.declared.settings.Setting.{Setting}
use Rattle.mig_words.specs.declared.settings.Setting.TheVariants.{Budget, Maps, Tests}
use Rattle.mig_words.specs.Settings.{value}
use Rattle.mig_words.specs.Commands.{Item, file, setting, spelled, files_of, IsSet, IsMigrate, IsCommand, migrates, checks, runs_old, runs_new, tries}
use Rattle.mig_words.specs.Faults.{IsFront, IsFault, none, short, wrong, fault_at}
use Rattle.mig_words.proofs.Items.{split}
use Rattle.mig_words.proofs.Inverting.{it, as_migrate, as_check, old, new, as_run, as_trial, as_none}
use Rattle.mig_words.proofs.Drafting.{front-shorter}

-- ---- one command

no-items : (is : List Item) → [] ≡ spelled is → is ≡ []
no-items [] e = refl
no-items (file w ∷ is) e = absurd cc
no-items (setting s w ∷ is) e = absurd cc

one-number : (s : Setting) (is : List Item) (n m : ℕ) → IsSet s is n → IsSet s is m → n ≡ m
one-number s is n m (inl e) (inl f) = let h : n ∷ [] ≡ m ∷ [] = sym e ∙ f in cc
one-number s is n m (inl e) (inr f) = let h : n ∷ [] ≡ [] = sym e ∙ f.0 in absurd cc
one-number s is n m (inr e) (inl f) = let h : m ∷ [] ≡ [] = sym f ∙ e.0 in absurd cc
one-number s is n m (inr e) (inr f) = e.1 ∙ sym f.1

abbrev options-with : ℕ → ℕ → ℕ → Options
options-with b m t = record { budget = b; maps = m; tests = t }

options-of-three : (o p : Options) → o.budget ≡ p.budget → o.maps ≡ p.maps → o.tests ≡ p.tests → o ≡ p
options-of-three o p e f g =
    ap (λ (n : ℕ). options-with n o.maps o.tests) e ∙ ap (λ (n : ℕ). options-with p.budget n o.tests) f ∙ ap (λ (n : ℕ). options-with p.budget p.maps n) g

one-migrate : (ws : List (List ℕ)) (j k : List ℕ) (o p : Options) → IsMigrate ws j o → IsMigrate ws k p → Migrate j o ≡ Migrate k p
one-migrate ws j k o p a b =
    let left = a.spells in
    let right = b.spells in
    let words : spelled a.items ≡ spelled b.items = cc in
    let r = split a.items b.items [] a.sound b.sound (append-nil (spelled a.items) ∙ words) in
    let same : b.items ≡ a.items = r.1 ∙ ap (λ (is : List Item). a.items ++ is) (no-items r.0 r.2) ∙ append-nil a.items in
    let jobs : j ∷ [] ≡ k ∷ [] = sym a.files ∙ ap files_of (sym same) ∙ b.files in
    let job : j ≡ k = cc in
    let number = λ (s : Setting). one-number s a.items (value s o) (value s p) (a.settings s) (subst (λ (is : List Item). IsSet s is (value s p)) same (b.settings s)) in
    ap₂ (λ (w : List ℕ) (q : Options). Migrate w q) job (options-of-three o p (number Budget) (number Maps) (number Tests))

pub one-command : (ws : List (List ℕ)) (c d : Command) → IsCommand ws c → IsCommand ws d → c ≡ d
one-command ws c d (migrates j o m e) h =
    elim (as_migrate (spelled m.items) d (subst (λ (vs : List (List ℕ)). IsCommand vs d) m.spells h)) [
      | it k p n f ↦ e ∙ one-migrate ws j k o p m (subst (λ (vs : List (List ℕ)). IsMigrate vs k p) (sym m.spells) n) ∙ sym f
    ]
one-command ws c d (checks job answer e a b is) h =
    let k = as_check (job ∷ answer ∷ []) d (subst (λ (vs : List (List ℕ)). IsCommand vs d) e h) in
    let words = k.words in
    let other = k.is in
    cc
one-command ws c d (runs_old job calls e a b is) h =
    elim (as_run (job ∷ calls ∷ []) d (subst (λ (vs : List (List ℕ)). IsCommand vs d) e h)) [
      | old j k words x y other ↦ cc
      | new j k l words x y z other ↦ absurd cc
    ]
one-command ws c d (runs_new job calls answer e a b x is) h =
    elim (as_run (job ∷ calls ∷ answer ∷ []) d (subst (λ (vs : List (List ℕ)). IsCommand vs d) e h)) [
      | old j k words x y other ↦ absurd cc
      | new j k l words x y z other ↦ cc
    ]
one-command ws c d (tries n e a is) h =
    let k = as_trial (n ∷ []) d (subst (λ (vs : List (List ℕ)). IsCommand vs d) e h) in
    let words = k.words in
    let other = k.is in
    cc

-- ---- no fault of a command

-- some command begins with these words, and so with fewer of them
fewer : (ws before : List (List ℕ)) (w : List ℕ) (after : List (List ℕ)) → ws ≡ before ++ w ∷ after → IsFront ws → IsFront (before ++ w ∷ [])
fewer ws before w after e f = front-shorter (before ++ w ∷ []) after (subst IsFront (e ∙ sym (append_assoc before (w ∷ []) after)) f)

pub no-fault : (ws : List (List ℕ)) (c : Command) (e : WordFault) → IsCommand ws c → IsFault ws e → ⊥
no-fault ws c e h (none empty is) = as_none c (subst (λ (vs : List (List ℕ)). IsCommand vs c) empty h)
no-fault ws c e h (short some front never is) = never c h
no-fault ws c e h (wrong before w after words front never is) = never (fewer ws before w after words ([], c, subst (λ (vs : List (List ℕ)). IsCommand vs c) (sym (append-nil ws)) h))

-- ---- one first fault

-- of two words of one list one is first, or they are one
data IsOrder (before : List (List ℕ)) (w : List ℕ) (before' : List (List ℕ)) (w' : List ℕ) : Type 0 where
  same : before ≡ before' → w ≡ w' → IsOrder before w before' w'
  first : (more : List (List ℕ)) → before' ≡ before ++ w ∷ more → IsOrder before w before' w'
  second : (more : List (List ℕ)) → before ≡ before' ++ w' ∷ more → IsOrder before w before' w'

order : (b : List (List ℕ)) (w : List ℕ) (a b' : List (List ℕ)) (w' : List ℕ) (a' : List (List ℕ)) → b ++ w ∷ a ≡ b' ++ w' ∷ a' → IsOrder b w b' w'
order [] w a [] w' a' e = same refl cc
order [] w a (v ∷ vs) w' a' e = let head : w ≡ v = cc in first vs (ap (λ (u : List ℕ). u ∷ vs) (sym head))
order (v ∷ vs) w a [] w' a' e = let head : w' ≡ v = cc in second vs (ap (λ (u : List ℕ). u ∷ vs) (sym head))
order (v ∷ vs) w a (u ∷ us) w' a' e =
    let head : v ≡ u = cc in
    elim (order vs w a us w' a' cc) [
      | same f g ↦ same (cc) g
      | first more f ↦ first more cc
      | second more f ↦ second more cc
    ]

not-empty : (before : List (List ℕ)) (w : List ℕ) (after : List (List ℕ)) → [] ≡ before ++ w ∷ after → ⊥
not-empty [] w after e = cc
not-empty (v ∷ before) w after e = cc

one-wrong : (b : List (List ℕ)) (w : List ℕ) (b' : List (List ℕ)) (w' : List ℕ) → IsFront b → (IsFront (b ++ w ∷ []) → ⊥) → IsFront b' → (IsFront (b' ++ w' ∷ []) → ⊥) → IsOrder b w b' w' → fault_at b w ≡ fault_at b' w'
one-wrong b w b' w' f never f' never_more (same e g) = ap₂ fault_at e g
one-wrong b w b' w' f never f' never_more (first more e) = absurd (never (fewer b' b w more e f'))
one-wrong b w b' w' f never f' never_more (second more e) = absurd (never_more (fewer b b' w' more e f))

pub one-fault : (ws : List (List ℕ)) (e e' : WordFault) → IsFault ws e → IsFault ws e' → e ≡ e'
one-fault ws e e' (none empty is) (none empty' is') = is ∙ sym is'
one-fault ws e e' (none empty is) (short some front never is') = absurd (some empty)
one-fault ws e e' (none empty is) (wrong before w after words front never is') = absurd (not-empty before w after (sym empty ∙ words))
one-fault ws e e' (short some front never is) (none empty is') = absurd (some empty)
one-fault ws e e' (short some front never is) (short some' front' never_more is') = is ∙ sym is'
one-fault ws e e' (short some front never is) (wrong before w after words front' never_more is') = absurd (never_more (fewer ws before w after words front))
one-fault ws e e' (wrong before w after words front never is) (none empty is') = absurd (not-empty before w after (sym empty ∙ words))
one-fault ws e e' (wrong before w after words front never is) (short some front' never_more is') = absurd (never (fewer ws before w after words front'))
one-fault ws e e' (wrong b w a words front never is) (wrong b' w' a' words' front' never_more is') =
    is ∙ one-wrong b w b' w' front never front' never_more (order b w a b' w' a' (sym words ∙ words')) ∙ sym is'

-- ---- answers

module _ (ws : List (List ℕ)) where
  pub only-found : (r : Result Command WordFault) → IfOk r (IsCommand ws) → IfErr r (λ e. (e ≡ Memory) ⊎ IsFault ws e) → (c : Command) → IsCommand ws c → (r ≡ Ok c) ⊎ (r ≡ Err Memory)
  only-found (Ok d) h k c is = inl (ap Ok (one-command ws d c h is))
  only-found (Err e) h (inl k) c is = inr (ap Err k)
  only-found (Err e) h (inr k) c is = absurd (no-fault ws c e is k)

  pub only-fault : (r : Result Command WordFault) → IfOk r (IsCommand ws) → IfErr r (λ e. (e ≡ Memory) ⊎ IsFault ws e) → (e : WordFault) → IsFault ws e → (r ≡ Err e) ⊎ (r ≡ Err Memory)
  only-fault (Ok c) h k e is = absurd (no-fault ws c e h is)
  only-fault (Err d) h (inl k) e is = inr (ap Err k)
  only-fault (Err d) h (inr k) e is = inl (ap Err (one-fault ws d e k is))
