-- The first model of the clauses stands for the first choice that no block covers.
use Rattle.std.proofs.Common.{◌≡◌, ℕ, ◌+◌, ◌-◌, ◌<◌, ◌≤◌, Bool, false, List, [], ◌∷◌, ◌++◌, map, eqb, refl, ap, sym, ◌∙◌, subst, inl, inr, arith, suc, zero}
use Rattle.std.proofs.lemmas.Bool.{cases_lt, eq-eqb, ne_eqb}
use Rattle.mig_listing.specs.Orders.{Less, Lex}
use Rattle.std.specs.List.{All, AllByRecursion}
use Rattle.std.proofs.lemmas.List.Elements.{All-head, All-tail, All-weaker, All-from_recursion}
use Rattle.mig_sat.specs.declared.clauses.SatLit.{SatLit}
use Rattle.mig_sat.specs.declared.clauses.Cnf.{Cnf}
use Rattle.mig_sat.specs.Models.{value_of, IsModel, IsBefore, IsFirstModel, HasNoModel, IsInRange}
use Rattle.mig_sketch.specs.Choices.{IsChoice}
use Rattle.mig_sketch.specs.Choices.{total}
use Rattle.mig_complete.specs.declared.blocks.Pick.{Pick}
use Rattle.mig_complete.specs.declared.blocks.Block.{Block}
use Rattle.mig_complete.specs.Covering.{IsInSizes, is_covered, IsFirstChoice, HasNoChoice}
use Rattle.mig_complete.specs.Coding.{one_of, links, hole, holes, unpicked, block_clause, clauses_of, IsPicked, Codes}
use Rattle.mig_complete.proofs.Meeting.{MeetsAll, all_to, all_from, meets_append, meets_left, meets_right}
use Rattle.mig_complete.proofs.Picking.{choice_coded}
use Rattle.mig_complete.proofs.Showing.{assignment, length-assignment, assignment_shows, shown_codes, meets_holes}
use Rattle.mig_complete.proofs.Sums.{in_sizes}
use Rattle.mig_complete.proofs.Blocking.{AreInSizes, uncovered, meets_blocks}

-- assignments that pick the same of a hole have the same values there
same_here : (a b : List Bool) (first n p q : ℕ) → IsPicked a first n p → IsPicked b first n q → p ≡ q → ((v : ℕ) → v < first → value_of a v ≡ value_of b v) → (v : ℕ) → v < first + n → value_of a v ≡ value_of b v
same_here a b first n p q ha hb e same v lt = elim (cases_lt v first) [
  | inl below ↦ same v below
  | inr from ↦ let k = v - first in let at : first + k ≡ v = omega (arith, from) in
      subst (λ w. value_of a w ≡ value_of b w) at (ha.each k (omega (arith, lt, at)) ∙ (ap (eqb k) e ∙ sym (hb.each k (omega (arith, lt, at)))))
]

-- of two assignments the one comes first whose choice does
pub codes_before : (a b : List Bool) (first : ℕ) (ns ps qs : List ℕ) → Codes a first ns ps → Codes b first ns qs → Lex Less ps qs → ((v : ℕ) → v < first → value_of a v ≡ value_of b v) → IsBefore a b
codes_before a b first [] [] qs ha hb l same = absurd l
codes_before a b first [] (p ∷ ps) qs ha hb l same = absurd ha
codes_before a b first (n ∷ ns) [] qs ha hb l same = absurd l
codes_before a b first (n ∷ ns) (p ∷ ps) [] ha hb l same = absurd l
codes_before a b first (n ∷ ns) (p ∷ ps) (q ∷ qs) ha hb l same = elim l [
  | inl lt ↦ record {
    place = first + p;
    here = ha.0.each p ha.0.within ∙ eq-eqb p p refl;
    there = hb.0.each p (omega (arith, lt, hb.0.within)) ∙ ne_eqb p q (λ e. omega (arith, e, lt));
    same = λ v below. elim (cases_lt v first) [
      | inl before ↦ same v before
      | inr from ↦ let k = v - first in let at : first + k ≡ v = omega (arith, from) in
          subst (λ w. value_of a w ≡ value_of b w) at (ha.0.each k (omega (arith, at, below, ha.0.within)) ∙ (ne_eqb k p (λ e. omega (arith, e, at, below)) ∙ sym (hb.0.each k (omega (arith, at, below, lt, hb.0.within)) ∙ ne_eqb k q (λ e. omega (arith, e, at, below, lt)))))
    ];
  }
  | inr t ↦ codes_before a b (first + n) ns ps qs ha.1 hb.1 t.1 (same_here a b first n p q ha.0 hb.0 t.0 same)
]

module _ (cnf : Cnf) (sizes : List ℕ) (blocks : List Block) (vars : cnf.vars ≡ total sizes + total sizes) (clauses : cnf.clauses ≡ clauses_of sizes blocks) (small : AreInSizes sizes blocks) where
  -- a choice that no block covers has a model
  pub choice_model : (picks : List ℕ) → IsChoice sizes picks → is_covered blocks picks ≡ false → IsModel cnf (assignment sizes picks)
  choice_model picks c free =
      let shows = assignment_shows sizes picks c in
      let codes = shown_codes (assignment sizes picks) (total sizes) 0 sizes picks shows in
      let meets = meets_append (assignment sizes picks) (holes (total sizes) 0 sizes) (map (block_clause sizes) blocks) (meets_holes (assignment sizes picks) (total sizes) 0 sizes picks shows) (meets_blocks (assignment sizes picks) sizes picks blocks codes small free) in
      record { sized = length-assignment sizes picks ∙ sym vars; meets = all_from (assignment sizes picks) cnf.clauses (subst (MeetsAll (assignment sizes picks)) (sym clauses) meets) }

  -- a model stands for a choice that no block covers
  pub model_choice : (m : List Bool) → IsModel cnf m → (picks : List ℕ) × IsChoice sizes picks × Codes m 0 sizes picks × (is_covered blocks picks ≡ false)
  model_choice m h =
      let meets = subst (MeetsAll m) clauses (all_to m cnf.clauses h.meets) in
      let found = choice_coded m (total sizes) 0 sizes (meets_left m (holes (total sizes) 0 sizes) (map (block_clause sizes) blocks) meets) in
      (found.0, found.1, found.2, uncovered m sizes found.0 blocks found.2 small (meets_right m (holes (total sizes) 0 sizes) (map (block_clause sizes) blocks) meets))

  -- the first model stands for the first of them
  pub first_choice : (m : List Bool) → IsFirstModel cnf m → (picks : List ℕ) × Codes m 0 sizes picks × IsFirstChoice sizes blocks picks
  first_choice m h =
      let found = model_choice m h.model in (
        found.0,
        found.2,
        record {
          choice = found.1;
          uncovered = found.3;
          first = λ other c free before.
              h.first (assignment sizes other) (choice_model other c free)
              (codes_before (assignment sizes other) m 0 sizes other found.0 (shown_codes (assignment sizes other) (total sizes) 0 sizes other (assignment_shows sizes other c)) found.2 before (λ v lt. absurd (omega (arith, lt))));
        },
      )

  -- where there is no model, each choice is covered
  pub no_choice : HasNoModel cnf → HasNoChoice sizes blocks
  no_choice none = λ picks c free. none (assignment sizes picks) (choice_model picks c free)

-- ---- the variables are in range

-- each literal's variable is below n
abbrev pub AreBelow : ℕ → List SatLit → Type 0
AreBelow n = AllByRecursion (λ (l : SatLit). l.var < n)

below_append : (n : ℕ) (cs ds : List (List SatLit)) → AllByRecursion (AreBelow n) cs → AllByRecursion (AreBelow n) ds → AllByRecursion (AreBelow n) (cs ++ ds)
below_append n [] ds h k = k
below_append n (c ∷ cs) ds h k = (h.0, below_append n cs ds h.1 k)

one_below : (n first k : ℕ) → first + k ≤ n → AreBelow n (one_of first k)
one_below n first zero le = tt
one_below n first (suc k) le = (omega (arith, le), one_below n (first + 1) k (omega (arith, le)))

links_below : (n helpers first k : ℕ) → helpers + first + k + 1 ≤ n → AllByRecursion (AreBelow n) (links helpers first k)
links_below n helpers first zero le = tt
links_below n helpers first (suc k) le = (
  (omega (arith, le), (omega (arith, le), tt)),
  (
    (omega (arith, le), (omega (arith, le), tt)),
    (
      (omega (arith, le), (omega (arith, le), tt)),
      links_below n helpers (first + 1) k (omega (arith, le)),
    ),
  ),
)

links_small : (n helpers first k : ℕ) → helpers + first + k ≤ n → AllByRecursion (AreBelow n) (links helpers first (k - 1))
links_small n helpers first zero le = tt
links_small n helpers first (suc k) le = subst (λ j. AllByRecursion (AreBelow n) (links helpers first j)) (omega arith) (links_below n helpers first k (omega (arith, le)))

holes_below : (n helpers first : ℕ) (ns : List ℕ) → helpers + first + total ns ≤ n → AllByRecursion (AreBelow n) (holes helpers first ns)
holes_below n helpers first [] le = tt
holes_below n helpers first (k ∷ ns) le = below_append n (hole helpers first k) (holes helpers (first + k) ns)
    (one_below n first k (omega (arith, le)), links_small n helpers first k (omega (arith, le)))
    (holes_below n helpers (first + k) ns (omega (arith, le)))

picks_below : (n : ℕ) (sizes : List ℕ) (ps : List Pick) → total sizes ≤ n → All (IsInSizes sizes) ps → AreBelow n (map (unpicked sizes) ps)
picks_below n sizes [] le small = tt
picks_below n sizes (p ∷ ps) le small =
    let t = in_sizes sizes p.hole p.option (All-head (IsInSizes sizes) p ps small) in
    (omega (arith, t.1, le), picks_below n sizes ps le (All-tail (IsInSizes sizes) p ps small))

blocks_below : (n : ℕ) (sizes : List ℕ) (bs : List Block) → total sizes ≤ n → AreInSizes sizes bs → AllByRecursion (AreBelow n) (map (block_clause sizes) bs)
blocks_below n sizes [] le small = tt
blocks_below n sizes (b ∷ bs) le small = (picks_below n sizes b.picks le (All-head (λ (b : Block). All (IsInSizes sizes) b.picks) b bs small), blocks_below n sizes bs le (All-tail (λ (b : Block). All (IsInSizes sizes) b.picks) b bs small))

all_below : (n : ℕ) (cs : List (List SatLit)) → AllByRecursion (AreBelow n) cs → All (All (λ (l : SatLit). l.var < n)) cs
all_below n cs h = All-weaker (AreBelow n) (All (λ (l : SatLit). l.var < n)) (λ c k. All-from_recursion (λ (l : SatLit). l.var < n) c k) cs (All-from_recursion (AreBelow n) cs h)

pub in_range : (cnf : Cnf) (sizes : List ℕ) (blocks : List Block) → cnf.vars ≡ total sizes + total sizes → cnf.clauses ≡ clauses_of sizes blocks → AreInSizes sizes blocks → IsInRange cnf
in_range cnf sizes blocks vars clauses small =
    let n = total sizes + total sizes in
    let h = all_below n (clauses_of sizes blocks) (below_append n (holes (total sizes) 0 sizes) (map (block_clause sizes) blocks) (holes_below n (total sizes) 0 sizes (omega arith)) (blocks_below n sizes blocks (omega arith) small)) in
    subst (λ v. All (All (λ (l : SatLit). l.var < v)) cnf.clauses) (sym vars) (subst (All (All (λ (l : SatLit). l.var < n))) (sym clauses) h)
