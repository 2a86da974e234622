-- Pairs that meet what is asked of them keep the invariants and answer alike, call by call, with one supply of keys.
use Rattle.std.proofs.Common.{◌≡◌, ℕ, List, [], ◌∷◌, map, take, drop, length, refl, sym, ap, subst}
use Rattle.std.specs.Prelude.{flat_map, filter}
use Rattle.std.proofs.Math.ListN.{get_or-map}
use Rattle.mig_schema.specs.declared.tables.Table.{Table}
use Rattle.mig_schema.specs.declared.tables.Schema.{Schema}
use Rattle.mig_schema.specs.declared.programs.Joined.{Joined}
use Rattle.mig_schema.specs.declared.programs.Join.{Join}
use Rattle.mig_schema.specs.declared.programs.Program.{Program}
use Rattle.mig_schema.specs.declared.faults.Side.TheVariants.{Old, New}
use Rattle.mig_schema.specs.Joins.{tables_of}
use Rattle.mig_meaning.specs.declared.states.Placed.{Placed}
use Rattle.mig_meaning.specs.declared.states.State.{State}
use Rattle.mig_meaning.specs.declared.calling.Invocation.{Invocation}
use Rattle.mig_meaning.specs.declared.relating.View.{View}
use Rattle.mig_meaning.specs.declared.relating.Invariant.{Invariant}
use Rattle.mig_meaning.specs.declared.relating.Invariant.TheVariants.{Views, Unique, Apart, Within}
use Rattle.mig_meaning.specs.Lists.{product, In, AllDifferent}
use Rattle.mig_meaning.specs.Rows.{rows_of, empty_state, join_rows, meets, column_in}
use Rattle.mig_meaning.specs.Conditions.{Given}
use Rattle.mig_meaning.specs.Run.{function_at, called, run}
use Rattle.mig_meaning.specs.Calls.{IsCall, AreCalls, IsGivenTo, IsSupply}
use Rattle.mig_meaning.specs.Keys.{EachValue, EachArgument, IsNoKey}
use Rattle.mig_meaning.specs.Renaming.{same, SameRenamed, SameReply}
use Rattle.mig_meaning.specs.Holds.{outputs, Holds, AllHold}
use Rattle.mig_meaning.specs.States.{IsState}
use Rattle.mig_meaning.specs.Equivalent.{AllAlike}
use Rattle.mig_meaning.specs.Meeting.{FactsHold, PairsMeet}
use Rattle.mig_meaning.proofs.Within.{each-weaker, after-keeps, empty-keeps}
use Rattle.mig_meaning.proofs.Supply.{no_keys-plain, no_key-drop, no_key-take, state-weaker, keys-drop, supply-next, supply-sixteen, different-take}
use Rattle.mig_meaning.proofs.StateLaw.{empty-state}

-- ---- empty tables

rows-empty : (schema : Schema) (t : ℕ) → rows_of (empty_state schema) t ≡ []
rows-empty schema t = get_or-map (λ (u : Table). []) schema.tables t (record { name = []; columns = [] })

join_rows-empty : (schema : Schema) (j : Join) → join_rows (empty_state schema) j ≡ []
join_rows-empty schema j = ap (λ rows. filter (meets (tables_of j) j.more) (flat_map (λ x. map (λ c. x ∷ c) (product (map (rows_of (empty_state schema)) (map (λ (m : Joined). m.table) j.more)))) rows)) (rows-empty schema j.first)

outputs-empty : (v : View) (schema : Schema) → outputs v (empty_state schema) ≡ []
outputs-empty v schema = ap (map (λ e. map (column_in (tables_of v.join) e) v.outs)) (join_rows-empty schema v.join)

none-in : (schema : Schema) (t : ℕ) (p : Placed) → In p (rows_of (empty_state schema) t) → ⊥
none-in schema t p h = subst (In p) (rows-empty schema t) h

-- every invariant holds between empty states
pub empty-holds : (f : ℕ → ℕ) (schema schema' : Schema) (i : Invariant) → Holds f (empty_state schema) (empty_state schema') i
empty-holds f schema schema' (Views source target) =
    subst (λ a. SameRenamed f a (outputs target (empty_state schema'))) (sym (outputs-empty source schema)) (subst (λ b. SameRenamed f [] b) (sym (outputs-empty target schema')) (record { by = λ r. refl }))
empty-holds f schema schema' (Unique Old c) = λ p q h k e. absurd (none-in schema c.table p h)
empty-holds f schema schema' (Unique New c) = λ p q h k e. absurd (none-in schema' c.table p h)
empty-holds f schema schema' (Apart Old c d) = λ p q h k. absurd (none-in schema c.table p h)
empty-holds f schema schema' (Apart New c d) = λ p q h k. absurd (none-in schema' c.table p h)
empty-holds f schema schema' (Within Old c d) = λ p h. absurd (none-in schema c.table p h)
empty-holds f schema schema' (Within New c d) = λ p h. absurd (none-in schema' c.table p h)

-- all of a list hold where each does
pub all-hold : (f : ℕ → ℕ) (old new : State) (invs : List Invariant) → ((i : Invariant) → Holds f old new i) → AllHold f old new invs
all-hold f old new [] h = tt
all-hold f old new (i ∷ is) h = (h i, all-hold f old new is h)

-- ---- all calls

-- the calls of a program lead from states over the schema to states over it
abbrev pub Leads : Schema → Program → Program → Type 0
Leads schema p q = (i : Invocation) (keys : List ℕ) (s : State) → IsCall q i → length keys ≡ 16 → AllDifferent keys → IsState schema s → IsState schema (called schema p i keys s).state

-- two states between which the facts hold for each call that a supply is to serve
pub record Between (schema schema' : Schema) (invs : List Invariant) (ks : List ℕ) (old new : State) : Type 0 where
  pub source : IsState schema old
  pub target : IsState schema' new
  pub facts : FactsHold invs ks old new

module _ (schema schema' : Schema) (p p' : Program) (invs : List Invariant) (m : PairsMeet schema schema' p p' invs) (l : Leads schema p p) (l' : Leads schema' p' p) where
  -- what a call needs of the supply, and what it leaves of it
  module _ (i : Invocation) (ks : List ℕ) (call : IsCall p i) (sixteen : length (take 16 ks) ≡ 16) (different : AllDifferent ks) (args : EachArgument (IsNoKey ks) (i ∷ [])) where
    abbrev given : Given
    given = record { args = i.args.values; keys = take 16 ks }

    given-to : IsGivenTo (function_at p i.function) given
    given-to = record { sixteen = sixteen; different = different-take 16 ks different; args = call.args }

    -- no value of the next state is a key of the rest of the supply
    later : (c : Schema) (q : Program) (s : State) → EachValue (IsNoKey ks) s → EachValue (IsNoKey (drop 16 ks)) (called c q i (take 16 ks) s).state
    later c q s a =
        after-keeps (IsNoKey (drop 16 ks)) (no_keys-plain (drop 16 ks)) c given (record { args = each-weaker _ _ (no_key-drop 16 ks) i.args.values args.0; keys = keys-drop 16 ks different }) (function_at q i.function).body s
        (state-weaker (IsNoKey ks) (IsNoKey (drop 16 ks)) (no_key-drop 16 ks) s a)

    -- the facts for this call
    now : (old new : State) → Between schema schema' invs ks old new → FactsHold invs (take 16 ks) old new
    now old new b = record {
      hold = b.facts.hold;
      source = state-weaker (IsNoKey ks) (IsNoKey (take 16 ks)) (no_key-take 16 ks) old b.facts.source;
      target = state-weaker (IsNoKey ks) (IsNoKey (take 16 ks)) (no_key-take 16 ks) new b.facts.target;
    }

    kept : (old new : State) → Between schema schema' invs ks old new → AllHold same (called schema p i (take 16 ks) old).state (called schema' p' i (take 16 ks) new).state invs
    kept old new b = (m.by i.function call.named).hold given old new (record { given = given-to; source = b.source; target = b.target }) (now old new b)

    answered : (old new : State) → Between schema schema' invs ks old new → SameReply same (called schema p i (take 16 ks) old).reply (called schema' p' i (take 16 ks) new).reply
    answered old new b = (m.by i.function call.named).answer given old new (record { given = given-to; source = b.source; target = b.target }) (now old new b)

    -- the facts for the calls after it
    next : (old new : State) → Between schema schema' invs ks old new → Between schema schema' invs (drop 16 ks) (called schema p i (take 16 ks) old).state (called schema' p' i (take 16 ks) new).state
    next old new b = record {
      source = l i (take 16 ks) old call sixteen (different-take 16 ks different) b.source;
      target = l' i (take 16 ks) new call sixteen (different-take 16 ks different) b.target;
      facts = record { hold = kept old new b; source = later schema p old b.facts.source; target = later schema' p' new b.facts.target };
    }

  -- from any two states between which the facts hold
  pub runs-alike : (is : List Invocation) (ks : List ℕ) (old new : State) → AreCalls p is → IsSupply (length is) ks → EachArgument (IsNoKey ks) is → Between schema schema' invs ks old new → AllAlike same invs (run schema p old is ks) (run schema' p' new is ks)
  runs-alike [] ks old new calls supply args b = tt
  runs-alike (i ∷ is) ks old new calls supply args b =
      let sixteen = supply-sixteen (length is) ks supply in (
        kept i ks calls.0 sixteen supply.different (args.0, tt) old new b,
        answered i ks calls.0 sixteen supply.different (args.0, tt) old new b,
        runs-alike is (drop 16 ks) (called schema p i (take 16 ks) old).state (called schema' p' i (take 16 ks) new).state calls.1 (supply-next (length is) ks supply)
            (each-weaker _ _ (λ (j : Invocation) a. each-weaker _ _ (no_key-drop 16 ks) j.args.values a) is args.1)
            (next i ks calls.0 sixteen supply.different (args.0, tt) old new b),
      )

  -- from empty tables
  pub alike : (is : List Invocation) (ks : List ℕ) → AreCalls p is → IsSupply (length is) ks → EachArgument (IsNoKey ks) is → AllAlike same invs (run schema p (empty_state schema) is ks) (run schema' p' (empty_state schema') is ks)
  alike is ks calls supply args =
      runs-alike is ks (empty_state schema) (empty_state schema') calls supply args
      (record {
        source = empty-state schema;
        target = empty-state schema';
        facts = record { hold = all-hold same _ _ invs (empty-holds same schema schema'); source = empty-keeps (IsNoKey ks) schema; target = empty-keeps (IsNoKey ks) schema' };
      })
