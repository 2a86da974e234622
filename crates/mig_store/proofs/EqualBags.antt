-- Equal bags have one list in order, and one text.
use Rattle.std.proofs.Common.{◌≡◌, ◌∙◌, ℕ, List, [], ◌∷◌, ◌++◌, length, map, decimal, refl, sym, ap, arith}
use Rattle.std.specs.List.{flat_map}
use Rattle.mig_schema.specs.declared.programs.Program.{Program}
use Rattle.mig_schema.specs.declared.values.Value.{Value}
use Rattle.mig_meaning.specs.Bags.{SameBag}
use Rattle.mig_meaning.specs.Lists.{total}
use Rattle.mig_meaning.specs.Run.{function_at}
use Rattle.mig_meaning.proofs.Bags.{same-total}
use Rattle.mig_algebra.specs.Sorted.{sorted}
use Rattle.mig_algebra.proofs.SortedLaws.{one_up, sorted-total, sorted-up}
use Rattle.mig_store.specs.Runs.{Told}
use Rattle.mig_store.specs.Law.{SameAnswers}
use Rattle.mig_store.specs.Order.{row_order}
use Rattle.mig_store.specs.Writing.{answer_text, answers_text, record_text, row_record}
use Rattle.mig_store.proofs.Ordered.{row_total, row_tie}

-- equal bags have one list in order
same-order : (a b : List (List Value)) → SameBag a b → sorted row_order a ≡ sorted row_order b
same-order a b h =
    one_up row_order row_total row_tie (sorted row_order a) (sorted row_order b) (sorted-up row_order row_total a) (sorted-up row_order row_total b)
    (λ f. sorted-total row_order f a ∙ same-total f a b h ∙ sym (sorted-total row_order f b))

ones : {A : Type 0} (xs : List A) → total (λ x. 1) xs ≡ length xs
ones [] = refl
ones (x ∷ xs) = let e = ones xs in omega (arith, e)

same-length : (a b : List (List Value)) → SameBag a b → length a ≡ length b
same-length a b h = sym (ones a) ∙ same-total (λ r. 1) a b h ∙ ones b

written : Program → (call function count : ℕ) → List (List Value) → List ℕ
written p call function count rows = flat_map record_text ((decimal call ∷ (function_at p function).name ∷ decimal count ∷ []) ∷ map row_record rows)

same-text : (p : Program) (a b : Told) → a.call ≡ b.call → a.function ≡ b.function → SameBag a.rows b.rows → answer_text p a ≡ answer_text p b
unfolding written
same-text p a b call function bag =
    ap (λ n. written p n a.function (length a.rows) (sorted row_order a.rows)) call
    ∙ ap (λ n. written p b.call n (length a.rows) (sorted row_order a.rows)) function
    ∙ ap (λ n. written p b.call b.function n (sorted row_order a.rows)) (same-length a.rows b.rows bag)
    ∙ ap (λ (rows : List (List Value)). written p b.call b.function (length b.rows) rows) (same-order a.rows b.rows bag)

-- and one text
pub same-texts : (p : Program) (left right : List Told) → SameAnswers left right → answers_text p left ≡ answers_text p right
same-texts p [] [] h = refl
same-texts p [] (b ∷ right) h = absurd h
same-texts p (a ∷ left) [] h = absurd h
same-texts p (a ∷ left) (b ∷ right) h =
    ap (λ (t : List ℕ). t ++ answers_text p left) (same-text p a b h.0 h.1 h.2)
    ∙ ap (λ (t : List ℕ). answer_text p b ++ t) (same-texts p left right h.3)
