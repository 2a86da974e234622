-- What a correspondence adds, put behind what the earlier ones gave.
use Rattle.std.proofs.Common.{◌≡◌, ℕ, ◌+◌, ◌<◌, ◌≤◌, List, [], ◌∷◌, ◌++◌, length, refl, ap, sym, ◌∙◌, subst, inl, inr, arith, append_assoc, length-append}
use Rattle.std.proofs.lemmas.List.{append-nil}
use Rattle.std.specs.Prelude.{map}
use Rattle.mig_schema.specs.declared.jobs.Job.{Job}
use Rattle.mig_invariant.specs.declared.corresp.Corr.{Corr}
use Rattle.mig_search.specs.declared.outcomes.Tried.{Tried}
use Rattle.mig_listing.specs.Listing.{IsListOf}
use Rattle.mig_listing.specs.Fronts.{IsFront, IsNext}
use Rattle.mig_listing.specs.Orders.{Less, Lex}
use Rattle.mig_listing.proofs.Members.{in_append_right}
use Rattle.mig_schema.specs.declared.programs.Program.{Program}
use Rattle.mig_certificate.specs.declared.proofs.Certificate.{Certificate}
use Rattle.mig_complete.specs.declared.blocks.Pick.{Pick}
use Rattle.mig_complete.specs.declared.blocks.Block.{Block}
use Rattle.mig_sketch.specs.Choices.{IsChoice}
use Rattle.mig_sketch.specs.declared.plans.Plan.{Plan}
use Rattle.mig_corresp.specs.Ranked.{Ranked}
use Rattle.mig_corresp.specs.Correspondences.{IsCorr, RanksBefore}
use Rattle.mig_sketch.specs.Choices.{sizes_of}
use Rattle.mig_sketch.specs.Filling.{filled}
use Rattle.mig_complete.specs.Covering.{Choices, IsFirstChoice, HasNoChoice}
use Rattle.mig_search.specs.declared.outcomes.Options.{Options}
use Rattle.mig_search.specs.declared.outcomes.Outcome.TheVariants.{Found, Exhausted, Spent}
use Rattle.mig_search.specs.declared.stopping.Stop.TheVariants as stop
use Rattle.mig_search.specs.Blocking.{is_blocked, picks_at}
use Rattle.mig_search.specs.Judging.{IsEntry, IsFind}
use Rattle.mig_search.specs.Looking.{Looked, picks_of, entries_of, IsOpen, AreFirstLooked}
use Rattle.mig_search.specs.Outcomes.{AreAllEntries, AreWhole, AreTaken, IsOutcome}
use Rattle.mig_search.specs.Stopping.{StopsPlan, Stops}
use Rattle.mig_search.proofs.Agreeing.{block_of}
use Rattle.mig_search.proofs.Looks.{map_more, next_choice, no_next, more_looked, entries_more}

-- so far completions of a plan were looked at, whose entries stand behind the old ones
pub record IsLooking (job : Job) (corr : Corr) (options : Options) (plan : Plan) (old now : List Tried) (chooser : Choices) : Type 0 where
  pub seen : List Looked
  pub looked : AreFirstLooked job corr options.tests plan seen
  pub are : now ≡ old ++ entries_of seen
  pub chosen : chooser ≡ record { sizes = sizes_of plan.holes; blocks = map (block_of plan.holes) seen }
  pub room : length now ≤ options.budget

-- so far the first correspondences were looked at whole
pub record IsMigrating (job : Job) (options : Options) (ranker : Ranked) (tried : List Tried) (number : ℕ) : Type 0 where
  pub first : IsFront (IsCorr job) (RanksBefore job) ranker.given
  pub of : ranker.job ≡ job
  pub count : length ranker.given ≡ number
  pub whole : AreWhole job options.tests ranker.given tried
  pub room : length tried < options.budget

-- the entries of one correspondence more
pub whole_more : (job : Job) (tests : ℕ) (corrs : List Corr) (corr : Corr) (past here : List Tried) → AreWhole job tests corrs past → AreAllEntries job corr tests here → AreWhole job tests (corrs ++ corr ∷ []) (past ++ here)
whole_more job tests [] corr past here w a = (here, [], a, refl, ap (λ t. t ++ here) w ∙ sym (append-nil here))
whole_more job tests (c ∷ cs) corr past here w a =
    let rest = whole_more job tests cs corr w.1 here w.3 a in
    (w.0, w.1 ++ here, w.2, rest, ap (λ t. t ++ here) w.4 ∙ append_assoc w.0 w.1 here)

choice_at : (sizes sizes' : List ℕ) (blocks blocks' : List Block) (picks : List ℕ) → sizes ≡ sizes' → blocks ≡ blocks' → IsFirstChoice sizes blocks picks → IsFirstChoice sizes' blocks' picks
choice_at sizes sizes' blocks blocks' picks e f h = subst (λ s. IsFirstChoice s blocks' picks) e (subst (λ b. IsFirstChoice sizes b picks) f h)

module _ (job : Job) (corr : Corr) (options : Options) (plan : Plan) (old now : List Tried) (chooser : Choices) (inv : IsLooking job corr options plan old now chooser) where
  -- the chooser's sizes and blocks
  pub sizes_are : chooser.sizes ≡ sizes_of plan.holes
  sizes_are = ap (λ (c : Choices). c.sizes) inv.chosen

  blocks_are : chooser.blocks ≡ map (block_of plan.holes) inv.seen
  blocks_are = ap (λ (c : Choices). c.blocks) inv.chosen

  pub picked_choice : (picks : List ℕ) → IsFirstChoice chooser.sizes chooser.blocks picks → IsChoice (sizes_of plan.holes) picks
  picked_choice picks f = subst (λ s. IsChoice s picks) sizes_are f.choice

  pub next_looked : (picks : List ℕ) → IsFirstChoice chooser.sizes chooser.blocks picks → IsNext (IsOpen plan.holes inv.seen) (Lex Less) (picks_of inv.seen) picks
  next_looked picks f = next_choice plan.holes inv.seen inv.looked.first picks (choice_at chooser.sizes (sizes_of plan.holes) chooser.blocks (map (block_of plan.holes) inv.seen) picks sizes_are blocks_are f)

  -- no choice is left
  pub looked_whole : HasNoChoice chooser.sizes chooser.blocks → length now < options.budget → StopsPlan job corr options plan old now stop.Whole
  looked_whole none fewer = record {
    here = entries_of inv.seen;
    are = inv.are;
    so = record {
      seen = inv.seen;
      looked = record {
        all = no_next plan.holes inv.seen inv.looked.first (subst (λ b. HasNoChoice (sizes_of plan.holes) b) blocks_are (subst (λ s. HasNoChoice s chooser.blocks) sizes_are none));
        entries = inv.looked.entries;
      };
      are = refl;
    };
    fewer = fewer;
  }

  -- the budget is reached
  pub looked_spent : options.budget ≤ length now → StopsPlan job corr options plan old now stop.Spent
  looked_spent full = record { here = entries_of inv.seen; are = inv.are; so = record { seen = inv.seen; looked = inv.looked; are = refl }; as_many = omega (arith, inv.room, full) }

  -- the next one is the find
  pub looked_found : (picks : List ℕ) (program : Program) (certificate : Certificate) → IsFirstChoice chooser.sizes chooser.blocks picks → program ≡ filled plan picks → IsFind job corr options.tests program certificate → length now < options.budget → StopsPlan job corr options plan old now (stop.Found program certificate)
  looked_found picks program certificate f is find fewer = record {
    here = entries_of inv.seen;
    are = inv.are;
    so = record { seen = inv.seen; looked = inv.looked; found = record { picks = picks; next = next_looked picks f; is = is; find = find }; are = refl };
    fewer = fewer;
  }

  -- the next one has an entry
  pub looked_more : (picks : List ℕ) (program : Program) (entry : Tried) (block : Block) (now' : List Tried) (chooser' : Choices) → IsFirstChoice chooser.sizes chooser.blocks picks → program ≡ filled plan picks → IsEntry job corr options.tests program entry → block.picks ≡ picks_at 0 plan.holes (is_blocked entry) picks → chooser' ≡ record { sizes = chooser.sizes; blocks = chooser.blocks ++ block ∷ [] } → now' ≡ now ++ entry ∷ [] → length now < options.budget → IsLooking job corr options plan old now' chooser'
  looked_more picks program entry block now' chooser' f is e b c n fewer =
      let l : Looked = record { picks = picks; entry = entry } in
      let block_is : block ≡ block_of plan.holes l = ap (λ (ps : List Pick). record { picks = ps }) b in
      let size : length now' ≡ length (now ++ entry ∷ []) = ap length n in
      record {
        seen = inv.seen ++ l ∷ [];
        looked = more_looked job corr options.tests plan inv.seen picks entry inv.looked (next_looked picks f) (subst (λ p. IsEntry job corr options.tests p entry) is e);
        are = n ∙ (ap (λ t. t ++ entry ∷ []) inv.are ∙ (append_assoc old (entries_of inv.seen) (entry ∷ []) ∙ ap (λ t. old ++ t) (sym (entries_more inv.seen l))));
        chosen = c ∙ (ap (λ s. record { sizes = s; blocks = chooser.blocks ++ block ∷ [] }) sizes_are ∙ ap (λ bs. record { sizes = sizes_of plan.holes; blocks = bs }) (ap (λ bs. bs ++ block ∷ []) blocks_are ∙ (ap (λ x. map (block_of plan.holes) inv.seen ++ x ∷ []) block_is ∙ sym (map_more (block_of plan.holes) inv.seen l))));
        room = omega (arith, size, fewer, length-append now (entry ∷ []));
      }

-- ---- correspondence after correspondence

module _ (job : Job) (options : Options) (ranker : Ranked) (tried : List Tried) (number : ℕ) (inv : IsMigrating job options ranker tried number) where
  -- all correspondences that there are
  pub migrated_whole : number ≤ options.maps → IsListOf (IsCorr job) (RanksBefore job) ranker.given → IsOutcome job options (Exhausted tried)
  migrated_whole few all = (
    inv.room,
    record {
      corrs = ranker.given;
      taken = record { first = inv.first; few = omega (arith, inv.count, few) };
      enough = inr all;
      whole = inv.whole;
    },
  )

  -- as many as were asked for
  pub migrated_maps : number ≡ options.maps → IsOutcome job options (Exhausted tried)
  migrated_maps all = (
    inv.room,
    record {
      corrs = ranker.given;
      taken = record { first = inv.first; few = omega (arith, inv.count, all) };
      enough = inl (inv.count ∙ all);
      whole = inv.whole;
    },
  )

  module _ (corr : Corr) (grown : IsFront (IsCorr ranker.job) (RanksBefore ranker.job) (ranker.given ++ corr ∷ [])) where
    front : IsFront (IsCorr job) (RanksBefore job) (ranker.given ++ corr ∷ [])
    front = subst (λ j. IsFront (IsCorr j) (RanksBefore j) (ranker.given ++ corr ∷ [])) inv.of grown

    -- the next one is a correspondence
    pub last_corr : IsCorr job corr
    last_corr = front.holds corr (in_append_right ranker.given (corr ∷ []) corr (inl refl))

    module _ (tried' : List Tried) where
      taken : number < options.maps → AreTaken job options.maps (ranker.given ++ corr ∷ [])
      taken few = record { first = front; few = omega (arith, inv.count, few, length-append ranker.given (corr ∷ [])) }

      pub migrated_spent : number < options.maps → Stops job corr options tried tried' stop.Spent → IsOutcome job options (Spent tried')
      migrated_spent few s = (s.as_many, inr (record { before = ranker.given; corr = corr; taken = taken few; past = tried; whole = inv.whole; last = s.here; ends = s.so; are = s.are }))

      pub migrated_found : (program : Program) (certificate : Certificate) → number < options.maps → Stops job corr options tried tried' (stop.Found program certificate) → IsOutcome job options (Found program certificate tried')
      migrated_found program certificate few s = (s.fewer, record { before = ranker.given; corr = corr; taken = taken few; past = tried; whole = inv.whole; last = s.here; ends = s.so; are = s.are })

      pub migrated_more : (ranker' : Ranked) → ranker' ≡ record { job = ranker.job; given = ranker.given ++ corr ∷ [] } → Stops job corr options tried tried' stop.Whole → IsMigrating job options ranker' tried' (number + 1)
      migrated_more ranker' e s = subst (λ (r : Ranked). IsMigrating job options r tried' (number + 1)) (sym e) (record {
        first = front;
        of = inv.of;
        count = omega (arith, inv.count, length-append ranker.given (corr ∷ []));
        whole = subst (AreWhole job options.tests (ranker.given ++ corr ∷ [])) (sym s.are) (whole_more job options.tests ranker.given corr tried s.here inv.whole s.so);
        room = s.fewer;
      })
