-- Commands by their first word.
use Rattle.std.proofs.Common.{◌≡◌, ℕ, true, false, List, [], ◌∷◌, Some, None, codes, refl, sym, ◌∙◌}
use Rattle.std.specs.Str.{bytes_eq}
use Rattle.std.proofs.lemmas.Slice.Eq.{bytes_eq-Decides}
use Rattle.mig_words.specs.declared.command.Options.{Options}
use Rattle.mig_words.specs.declared.command.Command.{Command}
use Rattle.mig_words.specs.declared.command.Command.TheVariants.{Migrate, Check, Run, Trial}
use Rattle.mig_words.specs.Words.{is_dashed, is_within, number_of}
use Rattle.mig_words.specs.Commands.{IsMigrate, IsCommand, migrates, checks, runs_old, runs_new, tries}

-- lists with different first words are different
apart : (v w : List ℕ) → bytes_eq v w ≡ false → (vs ws : List (List ℕ)) → v ∷ vs ≡ w ∷ ws → ⊥
apart v w no_one vs ws e = let head : v ≡ w = cc in let both : false ≡ true = sym no_one ∙ (bytes_eq-Decides v w).1 head in cc

pub data IsOfMigrate (ws : List (List ℕ)) (c : Command) : Type 0 where
  it : (job : List ℕ) (options : Options) → IsMigrate (codes "migrate" ∷ ws) job options → c ≡ Migrate job options → IsOfMigrate ws c

pub as_migrate : (ws : List (List ℕ)) (c : Command) → IsCommand (codes "migrate" ∷ ws) c → IsOfMigrate ws c
as_migrate ws c (migrates job options m e) = it job options m e
as_migrate ws c (checks job answer e a b is) = absurd (apart (codes "migrate") (codes "check") refl _ _ e)
as_migrate ws c (runs_old job calls e a b is) = absurd (apart (codes "migrate") (codes "run") refl _ _ e)
as_migrate ws c (runs_new job calls answer e a b d is) = absurd (apart (codes "migrate") (codes "run") refl _ _ e)
as_migrate ws c (tries n e a is) = absurd (apart (codes "migrate") (codes "trial") refl _ _ e)

pub record IsOfCheck (ws : List (List ℕ)) (c : Command) : Type 0 where
  pub job : List ℕ
  pub answer : List ℕ
  pub words : ws ≡ job ∷ answer ∷ []
  pub first : is_dashed job ≡ false
  pub second : is_dashed answer ≡ false
  pub is : c ≡ Check job answer

pub as_check : (ws : List (List ℕ)) (c : Command) → IsCommand (codes "check" ∷ ws) c → IsOfCheck ws c
as_check ws c (migrates job options m e) = absurd (apart (codes "check") (codes "migrate") refl _ _ m.spells)
as_check ws c (checks job answer e a b is) = record { job = job; answer = answer; words = cc; first = a; second = b; is = is }
as_check ws c (runs_old job calls e a b is) = absurd (apart (codes "check") (codes "run") refl _ _ e)
as_check ws c (runs_new job calls answer e a b d is) = absurd (apart (codes "check") (codes "run") refl _ _ e)
as_check ws c (tries n e a is) = absurd (apart (codes "check") (codes "trial") refl _ _ e)

pub data IsOfRun (ws : List (List ℕ)) (c : Command) : Type 0 where
  old : (job calls : List ℕ) → ws ≡ job ∷ calls ∷ [] → is_dashed job ≡ false → is_dashed calls ≡ false → c ≡ Run job calls None → IsOfRun ws c
  new : (job calls answer : List ℕ) → ws ≡ job ∷ calls ∷ answer ∷ [] → is_dashed job ≡ false → is_dashed calls ≡ false → is_dashed answer ≡ false → c ≡ Run job calls (Some answer) → IsOfRun ws c

pub as_run : (ws : List (List ℕ)) (c : Command) → IsCommand (codes "run" ∷ ws) c → IsOfRun ws c
as_run ws c (migrates job options m e) = absurd (apart (codes "run") (codes "migrate") refl _ _ m.spells)
as_run ws c (checks job answer e a b is) = absurd (apart (codes "run") (codes "check") refl _ _ e)
as_run ws c (runs_old job calls e a b is) = old job calls (cc) a b is
as_run ws c (runs_new job calls answer e a b d is) = new job calls answer (cc) a b d is
as_run ws c (tries n e a is) = absurd (apart (codes "run") (codes "trial") refl _ _ e)

pub record IsOfTrial (ws : List (List ℕ)) (c : Command) : Type 0 where
  pub number : List ℕ
  pub words : ws ≡ number ∷ []
  pub within : is_within 1 8 number ≡ true
  pub is : c ≡ Trial (number_of number)

pub as_trial : (ws : List (List ℕ)) (c : Command) → IsCommand (codes "trial" ∷ ws) c → IsOfTrial ws c
as_trial ws c (migrates job options m e) = absurd (apart (codes "trial") (codes "migrate") refl _ _ m.spells)
as_trial ws c (checks job answer e a b is) = absurd (apart (codes "trial") (codes "check") refl _ _ e)
as_trial ws c (runs_old job calls e a b is) = absurd (apart (codes "trial") (codes "run") refl _ _ e)
as_trial ws c (runs_new job calls answer e a b d is) = absurd (apart (codes "trial") (codes "run") refl _ _ e)
as_trial ws c (tries n e a is) = record { number = n; words = cc; within = a; is = is }

-- no words are no command
pub as_none : (c : Command) → IsCommand [] c → ⊥
as_none c (migrates job options m e) = let w = m.spells in absurd cc
as_none c (checks job answer e a b is) = absurd cc
as_none c (runs_old job calls e a b is) = absurd cc
as_none c (runs_new job calls answer e a b d is) = absurd cc
as_none c (tries n e a is) = absurd cc

-- the first word is a command's
pub data IsName (w : List ℕ) : Type 0 where
  migrate : w ≡ codes "migrate" → IsName w
  check : w ≡ codes "check" → IsName w
  run : w ≡ codes "run" → IsName w
  trial : w ≡ codes "trial" → IsName w

pub as_named : (w : List ℕ) (ws : List (List ℕ)) (c : Command) → IsCommand (w ∷ ws) c → IsName w
as_named w ws c (migrates job options m e) = let h = m.spells in migrate cc
as_named w ws c (checks job answer e a b is) = check cc
as_named w ws c (runs_old job calls e a b is) = run cc
as_named w ws c (runs_new job calls answer e a b d is) = run cc
as_named w ws c (tries n e a is) = trial cc
