-- When two programs over two schemas are equivalent.
use Rattle.std.specs.Prelude.{ℕ, List, [], ◌∷◌, length}
use Rattle.mig_schema.specs.declared.tables.Schema.{Schema}
use Rattle.mig_schema.specs.declared.programs.Program.{Program}
use Rattle.mig_meaning.specs.declared.calling.Invocation.{Invocation}
use Rattle.mig_meaning.specs.declared.relating.Invariant.{Invariant}
use Rattle.mig_meaning.specs.Rows.{empty_state}
use Rattle.mig_meaning.specs.Run.{Outcome, run}
use Rattle.mig_meaning.specs.Calls.{IsSupply, AreCalls}
use Rattle.mig_meaning.specs.Renaming.{renaming, same, SameReply}
use Rattle.mig_meaning.specs.Holds.{AllHold}

-- after each call of two runs each invariant holds, and a query has equal bags as answers
abbrev pub AllAlike : (ℕ → ℕ) → List Invariant → List Outcome → List Outcome → Type 0
AllAlike f invs [] [] = Unit {0}
AllAlike f invs (o ∷ os) (n ∷ ns) = AllHold f o.state n.state invs × SameReply f o.reply n.reply × AllAlike f invs os ns
AllAlike f invs _ _ = ⊥

-- from empty tables, for every list of calls that are well-formed for the old program, and one supply for both runs
pub record AnswersAlike (schema schema' : Schema) (p p' : Program) (invs : List Invariant) : Type 0 where
  pub by : (calls : List Invocation) (ks : List ℕ) → AreCalls p calls → IsSupply (length calls) ks
      → AllAlike same invs (run schema p (empty_state schema) calls ks) (run schema' p' (empty_state schema') calls ks)

-- the same for any two supplies, the keys of the first renamed to those of the second
pub record IsEquivalent (schema schema' : Schema) (p p' : Program) (invs : List Invariant) : Type 0 where
  pub by : (calls : List Invocation) (ks ls : List ℕ) → AreCalls p calls → IsSupply (length calls) ks → IsSupply (length calls) ls
      → AllAlike (renaming ks ls) invs (run schema p (empty_state schema) calls ks) (run schema' p' (empty_state schema') calls ls)
