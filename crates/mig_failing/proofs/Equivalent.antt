-- Programs that answer alike agree on all calls.
use Rattle.std.proofs.Common.{ℕ, zero, suc, ◌+◌, ◌*◌, ◌<◌, ◌≤◌, ◌^◌, List, [], ◌∷◌, length, subst, arith}
use Rattle.std.specs.Prelude.{Option, Some, None}
use Rattle.mig_schema.specs.declared.jobs.Job.{Job}
use Rattle.mig_schema.specs.declared.programs.Program.{Program}
use Rattle.mig_schema.specs.declared.values.Value.{Value}
use Rattle.mig_meaning.specs.declared.calling.Invocation.{Invocation}
use Rattle.mig_meaning.specs.declared.relating.Invariant.{Invariant}
use Rattle.mig_meaning.specs.Bags.{SameBag}
use Rattle.mig_meaning.specs.Calls.{AreCalls, IsSupply}
use Rattle.mig_meaning.specs.Equivalent.{AllAlike, AnswersAlike}
use Rattle.mig_meaning.specs.Lists.{Each}
use Rattle.mig_meaning.specs.Renaming.{SameReply, same}
use Rattle.mig_meaning.specs.Run.{Outcome}
use Rattle.mig_meaning.proofs.Renamings.{rows-same}
use Rattle.mig_store.specs.Runs.{numbers_from, played}
use Rattle.mig_store.proofs.Numbers.{numbers-different, numbers-length}
use Rattle.mig_failing.specs.Failing.{AgreeOn, SameAnswer, last_reply}

reply_agrees : (x y : Option (List (List Value))) → SameReply same x y → SameAnswer x y
reply_agrees None None h = tt
reply_agrees (Some a) (Some b) h = subst (λ rs. SameBag rs b) (rows-same a) h
reply_agrees None (Some b) h = absurd h
reply_agrees (Some a) None h = absurd h

-- where all answers are alike, the last ones are
last_alike : (invs : List Invariant) (os ns : List Outcome) → AllAlike same invs os ns → SameReply same (last_reply os) (last_reply ns)
last_alike invs [] [] h = tt
last_alike invs [] (n ∷ ns) h = absurd h
last_alike invs (o ∷ os) [] h = absurd h
last_alike invs (o ∷ []) (n ∷ []) h = h.1
last_alike invs (o ∷ []) (n ∷ (m ∷ ns)) h = absurd h.2
last_alike invs (o ∷ (p ∷ os)) (n ∷ []) h = absurd h.2
last_alike invs (o ∷ (p ∷ os)) (n ∷ (m ∷ ns)) h = last_alike invs (p ∷ os) (m ∷ ns) h.2

numbers_small : (a n : ℕ) → a + n ≤ 2 ^ 64 → Each (λ k. k < 2 ^ 64) (numbers_from a n)
numbers_small a zero h = tt
numbers_small a (suc n) h = (omega (arith, h), numbers_small (a + 1) n (omega (arith, h)))

-- the keys 0, 1, 2 and so on are a supply
first_keys : (m : ℕ) → m ≤ 100000 → IsSupply m (numbers_from 0 (16 * m))
first_keys m h = record {
  enough = let e = numbers-length 0 (16 * m) in omega (arith, e);
  different = numbers-different 0 (16 * m);
  small = numbers_small 0 (16 * m) (omega (arith, h));
}

pub alike_agree : (job : Job) (p : Program) (invs : List Invariant) (calls : List Invocation) → AnswersAlike job.source job.target job.program p invs → AreCalls job.program calls → length calls ≤ 100000 → AgreeOn job p calls
alike_agree job p invs calls h good few =
    reply_agrees _ _ (last_alike invs (played job.source job.program calls) (played job.target p calls) (h.by calls (numbers_from 0 (16 * length calls)) good (first_keys (length calls) few)))
