-- Lists of clauses grow.
use Rattle.std.proofs.Common.{◌≡◌, ℕ, ◌+◌, ◌<◌, List, [], ◌∷◌, ◌++◌, length, take, drop, get_or, set, Some, refl, ap, sym, ◌∙◌, subst, inl, inr, arith, below_more, suc, zero}
use Rattle.std.proofs.Math.Seq.{take-append_seam}
use Rattle.std.proofs.lemmas.Bool.{cases_eq, cases_lt}
use Rattle.std.proofs.lemmas.List.{get_or-set_same, get_or-set_other, length-set, set_past}
use Rattle.std.proofs.lemmas.Option.{none-some, same_Some}
use Rattle.std.specs.Prelude.{slice_get}
use Rattle.mig_sat.specs.declared.clauses.SatLit.{SatLit}
use Rattle.mig_sat.specs.Agendas.{list_number, IsListed, IsListedFor, IsGrown, ListsFirst}

-- what stands in a list still does in a longer one
pub got_before : {X : Type 0} (xs ys : List X) (i : ℕ) (x : X) → slice_get xs i ≡ Some x → slice_get (xs ++ ys) i ≡ Some x
got_before [] ys i x e = absurd (none-some x e)
got_before (y ∷ xs) ys zero x e = e
got_before (y ∷ xs) ys (suc i) x e = got_before xs ys i x e

-- what was put at the end
pub got_last : {X : Type 0} (xs : List X) (x : X) → slice_get (xs ++ x ∷ []) (length xs) ≡ Some x
got_last [] x = refl
got_last (y ∷ xs) x = got_last xs x

-- a list of n elements that is written back whole
pub written_back : {X : Type 0} (new old : List X) (n : ℕ) → n ≡ length old → length new ≡ length old → take n (new ++ drop (length new) old) ≡ new
written_back new old n is e = ap (λ k. take k (new ++ drop (length new) old)) (is ∙ sym e) ∙ take-append_seam new (drop (length new) old)

-- lists grow by a clause at the end of one
pub entered_grown : (lists : List (List ℕ)) (list clause : ℕ) → IsGrown lists (set lists list (get_or lists list [] ++ clause ∷ []))
entered_grown lists list clause = record {
  sized = length-set lists list (get_or lists list [] ++ clause ∷ []);
  kept = λ other number is. elim (cases_eq other list) [
    | inl same ↦ elim (cases_lt list (length lists)) [
      | inl lt ↦
          let stood : slice_get (get_or lists list []) is.0 ≡ Some number = subst (λ j. slice_get (get_or lists j []) is.0 ≡ Some number) same is.1 in
          let now = get_or-set_same lists list (get_or lists list [] ++ clause ∷ []) [] lt in (
            is.0,
            subst (λ j. slice_get (get_or (set lists list (get_or lists list [] ++ clause ∷ [])) j []) is.0 ≡ Some number) (sym same) (subst (λ xs. slice_get xs is.0 ≡ Some number) (sym now) (got_before (get_or lists list []) (clause ∷ []) is.0 number stood)),
          )
      | inr past ↦ subst (λ ls. IsListed ls other number) (sym (set_past lists list (get_or lists list [] ++ clause ∷ []) past)) is
    ]
    | inr ne ↦ (is.0, subst (λ xs. slice_get xs is.0 ≡ Some number) (sym (get_or-set_other lists list other (get_or lists list [] ++ clause ∷ []) [] ne)) is.1)
  ];
}

-- the clause stands where it was put
pub entered : (lists : List (List ℕ)) (list clause : ℕ) → list < length lists → IsListed (set lists list (get_or lists list [] ++ clause ∷ [])) list clause
entered lists list clause lt = (
  length (get_or lists list []),
  subst (λ xs. slice_get xs (length (get_or lists list [])) ≡ Some clause) (sym (get_or-set_same lists list (get_or lists list [] ++ clause ∷ []) [] lt)) (got_last (get_or lists list []) clause),
)

-- lists have grown where they have grown twice
pub grown_again : (old mid new : List (List ℕ)) → IsGrown old mid → IsGrown mid new → IsGrown old new
grown_again old mid new a b = record { sized = b.sized ∙ a.sized; kept = λ list number is. b.kept list number (a.kept list number is) }

-- no list has grown
pub grown_same : (lists : List (List ℕ)) → IsGrown lists lists
grown_same lists = record { sized = refl; kept = λ list number is. is }

-- one more literal, into whose list the clause was put
pub listed_next : (lists : List (List ℕ)) (lits : List SatLit) (i clause : ℕ) (lit : SatLit) → ((k : ℕ) (d : SatLit) → k < i → list_number (get_or lits k d) < length lists → IsListed lists (list_number (get_or lits k d)) clause) → ((d : SatLit) → lit ≡ get_or lits i d) → (k : ℕ) (d : SatLit) → k < i + 1 → list_number (get_or lits k d) < length (set lists (list_number lit) (get_or lists (list_number lit) [] ++ clause ∷ [])) → IsListed (set lists (list_number lit) (get_or lists (list_number lit) [] ++ clause ∷ [])) (list_number (get_or lits k d)) clause
listed_next lists lits i clause lit before is k d lt =
    let new = set lists (list_number lit) (get_or lists (list_number lit) [] ++ clause ∷ []) in
    let grown = entered_grown lists (list_number lit) clause in
    let Q : SatLit → Type 0 = λ l. list_number l < length (set lists (list_number lit) (get_or lists (list_number lit) [] ++ clause ∷ [])) → IsListed (set lists (list_number lit) (get_or lists (list_number lit) [] ++ clause ∷ [])) (list_number l) clause in
    let here : Q lit = λ within. entered lists (list_number lit) clause (subst (λ n. list_number lit < n) grown.sized within) in
    below_more (λ (j : ℕ). (e : SatLit) → Q (get_or lits j e)) i (λ j less e within. grown.kept (list_number (get_or lits j e)) clause (before j e less (subst (λ n. list_number (get_or lits j e) < n) grown.sized within))) (λ e. subst Q (is e) here) k lt d

-- one more clause, which was put into list 0 and into those of its literals
pub lists_next : (count : ℕ) (clauses : List (List SatLit)) (lists new : List (List ℕ)) (clause : List SatLit) → ListsFirst count clauses lists → slice_get clauses count ≡ Some clause → IsGrown (set lists 0 (get_or lists 0 [] ++ count ∷ [])) new → IsListedFor new clause count → ListsFirst (count + 1) clauses new
lists_next count clauses lists new clause was is grown here =
    let first = entered_grown lists 0 count in
    let all = grown_again lists (set lists 0 (get_or lists 0 [] ++ count ∷ [])) new first grown in
    record {
      all = λ number lt some. below_more (λ (k : ℕ). IsListed new 0 k) count
          (λ k less. all.kept 0 k (was.all k less (subst (λ n. 0 < n) all.sized some)))
          (grown.kept 0 count (entered lists 0 count (subst (λ n. 0 < n) all.sized some)))
          number lt;
      each = λ number other lt at. below_more (λ (k : ℕ). (c : List SatLit) → slice_get clauses k ≡ Some c → IsListedFor new c k) count
          (λ k less c got j d within some. all.kept (list_number (get_or c j d)) k (was.each k c less got j d within (subst (λ n. list_number (get_or c j d) < n) all.sized some)))
          (λ c got. subst (λ (x : List SatLit). IsListedFor new x count) (same_Some clause c (sym is ∙ got)) here)
          number lt other at;
    }

-- no clause yet
pub lists_none : (clauses : List (List SatLit)) (lists : List (List ℕ)) → ListsFirst 0 clauses lists
lists_none clauses lists = record { all = λ number lt. absurd (omega (arith, lt)); each = λ number clause lt. absurd (omega (arith, lt)) }
