-- Rounds that drop candidates, and what they keep.
use Rattle.std.specs.Prelude.{◌≡◌, ◌⊎◌, ℕ, zero, suc, Bool, true, false, List, [], ◌∷◌}
use Rattle.mig_schema.specs.declared.programs.Program.{Program}
use Rattle.mig_schema.specs.declared.jobs.Job.{Job}
use Rattle.mig_meaning.specs.declared.relating.Invariant.{Invariant}
use Rattle.mig_meaning.specs.declared.relating.Invariant.TheVariants.{Views, Unique, Apart, Within}
use Rattle.mig_prover.specs.Closing.{AreClosed}

abbrev pub is_view : Invariant → Bool
is_view (Views source target) = true
is_view (Unique side column) = false
is_view (Apart side left right) = false
is_view (Within side left right) = false

-- ys is xs without those that P does not hold of
abbrev pub IsWithout : {A : Type 0} → (A → Type 0) → List A → List A → Type 0
IsWithout P [] ys = ys ≡ []
IsWithout {A} P (x ∷ xs) ys = (P x × (rest : List A) × (ys ≡ x ∷ rest) × IsWithout P xs rest) ⊎ ((P x → ⊥) × IsWithout P xs ys)

-- an invariant of the other sort, or one whose obligations are closed under what is left
abbrev pub Stays : Job → Program → (views : Bool) → (left : List Invariant) → Invariant → Type 0
Stays job program views left i = (is_view i ≡ views → ⊥) ⊎ AreClosed job program left i

-- all others than views go that have an obligation which is not closed under what is left; where there is none of them, all such views
pub record IsRound (job : Job) (program : Program) (left next : List Invariant) : Type 0 where
  pub plain : List Invariant
  pub without_plain : IsWithout (Stays job program false left) left plain
  pub then_views : ((next ≡ plain) × (plain ≡ left → ⊥)) ⊎ ((plain ≡ left) × IsWithout (Stays job program true left) left next)

-- after at most n rounds one drops none, and this stands
abbrev pub StandsAfter : ℕ → Job → Program → (list stands : List Invariant) → Type 0
StandsAfter zero job program list stands = ⊥
StandsAfter (suc n) job program list stands = (next : List Invariant) × IsRound job program list next × (((next ≡ list) × (stands ≡ list)) ⊎ ((next ≡ list → ⊥) × StandsAfter n job program next stands))

-- this stands when a round drops none
abbrev pub IsKept : Job → Program → (list stands : List Invariant) → Type 0
IsKept job program list stands = (n : ℕ) × StandsAfter n job program list stands
