-- Lists read by number in two orders: what stands at a number in one stands at the number's place in the other.
use Rattle.std.proofs.Common.{◌≡◌, ℕ, ◌+◌, ◌<◌, ◌≤◌, true, false, cond, not, ◌&&◌, ◌||◌, List, [], ◌++◌, map, length, refl, sym, ap, ap₂, ◌∙◌, arith, ⊎_elim, length-append}
use Rattle.std.specs.Prelude.{◌==◌, nat_lt, slice_index_or}
use Rattle.std.proofs.lemmas.Bool.{cases_lt, lt-ltb, le-ltb}
use Rattle.std.proofs.lemmas.Bool.Decides.{nat_tests}
use Rattle.std.proofs.lemmas.List.{length-map, get_or_append_left, get_or-append_right, get_or-append-add}
use Rattle.std.proofs.lemmas.List.Folds.{list_any-append}
use Rattle.mig_meaning.specs.Lists.{place, has}
use Rattle.mig_algebra.specs.declared.atoms.Var.{Var}
use Rattle.mig_algebra.specs.Tidied.{slot_order, slots, slots_in_order, numbers_of}
use Rattle.mig_algebra.proofs.SlotOrders.{has-sorted, count-sorted}
use Rattle.mig_algebra.proofs.Slots.{count-slots, has-slots, at-slots, at-place, place-append, place-in}

-- `old` has the numbers below its length, each once
pub record Numbers (old : List ℕ) : Type 0 where
  pub known : (v : ℕ) → has old v ≡ nat_lt v (length old)

-- e' has the items of e in the order of the numbers `old`; d stands past the end
pub record Arranges {X : Type 0} (d : X) (old : List ℕ) (e e' : List X) : Type 0 where
  pub long : length e ≡ length old
  pub long' : length e' ≡ length old
  pub at : (v : ℕ) → slice_index_or e v d ≡ slice_index_or e' (place old v) d

-- no numbers
pub no_numbers : Numbers []
no_numbers = record { known = λ v. grind (arith, nat_tests) }

-- no items
pub arranges-none : {X : Type 0} (d : X) → Arranges d [] [] []
arranges-none d = record { long = refl; long' = refl; at = λ v. refl }

-- the numbers of further variables in order
pub numbers-more : (old : List ℕ) (vars : List Var) → Numbers old → Numbers (old ++ numbers_of (slots_in_order (length old) vars))
numbers-more old vars h = record {
  known = λ v.
      list_any-append (λ l. l == v) old (numbers_of (slots_in_order (length old) vars))
      ∙ ap₂ (λ a b. a || b) (h.known v) (has-sorted slot_order (slots (length old) vars) v ∙ has-slots (length old) vars v)
      ∙ sum v (length old) (length vars)
      ∙ ap (nat_lt v) (sym (length-append old (numbers_of (slots_in_order (length old) vars)) ∙ ap (λ n. length old + n) (count-sorted slot_order (length old) vars)));
}
  where
    sum : (v n m : ℕ) → (nat_lt v n || (not (nat_lt v n) && nat_lt v (n + m))) ≡ nat_lt v (n + m)
    sum v n m = grind (arith, nat_tests)

-- items of further variables behind, in both orders
pub arranges-more : {X : Type 0} (d : X) (old : List ℕ) (vars : List Var) (a : ℕ → X) (e e' : List X) → Numbers old → Arranges d old e e' → Arranges d (old ++ numbers_of (slots_in_order (length old) vars)) (e ++ map a (numbers_of (slots (length old) vars))) (e' ++ map a (numbers_of (slots_in_order (length old) vars)))
arranges-more {X} d old vars a e e' h r = record {
  long = length-append e more ∙ ap₂ (λ m n. m + n) r.long (length-map (numbers_of (slots (length old) vars)) a ∙ count-slots (length old) vars) ∙ sym whole;
  long' = length-append e' more' ∙ ap₂ (λ m n. m + n) r.long' (length-map nums a) ∙ sym (length-append old nums);
  at = λ v. ⊎_elim (first v) (second v) (cases_lt v (length old));
}
  where
    nums : List ℕ
    nums = numbers_of (slots_in_order (length old) vars)

    more : List X
    more = map a (numbers_of (slots (length old) vars))

    more' : List X
    more' = map a nums

    whole : length (old ++ nums) ≡ length old + length vars
    whole = length-append old nums ∙ ap (λ n. length old + n) (count-sorted slot_order (length old) vars)

    first : (v : ℕ) → v < length old → slice_index_or (e ++ more) v d ≡ slice_index_or (e' ++ more') (place (old ++ nums) v) d
    first v l =
        let in' : has old v ≡ true = h.known v ∙ lt-ltb v (length old) l in
        let k = place-in old v in' in
        get_or_append_left e more d v (omega (arith, l, r.long)) ∙ r.at v
        ∙ sym (get_or_append_left e' more' d (place old v) (omega (arith, k, r.long')))
        ∙ ap (λ n. slice_index_or (e' ++ more') n d) (sym (place-append old nums v ∙ ap (λ b. cond b (place old v) (length old + place nums v)) in'))

    second : (v : ℕ) → length old ≤ v → slice_index_or (e ++ more) v d ≡ slice_index_or (e' ++ more') (place (old ++ nums) v) d
    second v l =
        let out : has old v ≡ false = h.known v ∙ le-ltb v (length old) l in
        get_or-append_right e more (length old) v d r.long l
        ∙ at-slots a d (length old) vars v l
        ∙ ap (λ b. cond b (a v) d) (sym (has-sorted slot_order (slots (length old) vars) v))
        ∙ sym (at-place a d nums v)
        ∙ sym (get_or-append-add e' more' (place nums v) d)
        ∙ ap (λ n. slice_index_or (e' ++ more') (n + place nums v) d) r.long'
        ∙ ap (λ n. slice_index_or (e' ++ more') n d) (sym (place-append old nums v ∙ ap (λ b. cond b (place old v) (length old + place nums v)) out))
