-- What a writer has written after one more record.
use Rattle.std.proofs.Common.{◌≡◌, ◌≢◌, ◌∙◌, ℕ, ◌+◌, ◌<◌, false, List, [], ◌∷◌, ◌++◌, length, map, take, get_or, Option, Some, None, refl, sym, ap, subst}
use Rattle.std.specs.Io.KnownBytes.{Appends, Keeps}
use Rattle.std.specs.List.{flat_map}
use Rattle.std.proofs.lemmas.List.{flat_map_more, map-append, take_more}
use Rattle.csv.specs.Writing.{fields_written, has_written, row_text, text_written, writer_setup}
use Rattle.csv.specs.declared.writer.QuoteStyle.TheVariants as style
use Rattle.csv.specs.declared.writer.Writer.{Writer}
use Rattle.mig_store.specs.Reading.{Record}
use Rattle.mig_store.specs.Writing.{record_text}
use Rattle.mig_store.specs.Written.{HasWritten}

appended : (a b : Option (List ℕ)) (text xs : List ℕ) → a ≡ Some text → Appends a b xs → b ≡ Some (text ++ xs)
appended None b text xs e h = cc e
appended (Some t) None text xs e h = absurd h
appended (Some t) (Some u) text xs e h = let is : t ≡ text = cc e in ap Some (h ∙ ap (λ (s : List ℕ). s ++ xs) is)

module _ {W : Type 0} (contents : W → Option (List ℕ)) where
  -- such a writer looks at no numbers
  pub plain : (w : Writer W) (text : List ℕ) → HasWritten contents w text → (writer_setup w).style ≢ style.NonNumeric
  plain w text h = rw h.setup (λ e. cc e)

  -- a record more
  pub one_more : (old new : Writer W) (text : List ℕ) (r : Record) → HasWritten contents old text → Appends (text_written contents old) (text_written contents new) (row_text (writer_setup old) r)
      → writer_setup new ≡ writer_setup old → fields_written new ≡ 0 → has_written new ≡ false → HasWritten contents new (text ++ record_text r)
  one_more old new text r h more same ended clean = record {
    setup = same ∙ h.setup;
    fields = ended;
    wrote = clean;
    told = appended _ _ text (record_text r) h.told (subst (λ s. Appends (text_written contents old) (text_written contents new) (row_text s r)) h.setup more);
  }

  -- the same text in other words
  pub in_words : (w : Writer W) (text same : List ℕ) → text ≡ same → HasWritten contents w text → HasWritten contents w same
  in_words w text same e h = subst (HasWritten contents w) e h

-- the records of the first rows, and of one more
pub row-more : {X : Type 0} (f : X → Record) (text : List ℕ) (rows : List X) (i : ℕ) (row : X) → i < length rows → row ≡ get_or rows i row
    → (text ++ flat_map record_text (map f (take i rows))) ++ record_text (f row) ≡ text ++ flat_map record_text (map f (take (i + 1) rows))
row-more f text rows i row l is =
    let first = take_more rows i row l ∙ ap (λ x. take i rows ++ x ∷ []) (sym is) in
    let each = ap (map f) first ∙ map-append f (take i rows) (row ∷ []) in
    flat_map_more record_text text (map f (take i rows)) (f row) ∙ ap (λ (rs : List Record). text ++ flat_map record_text rs) (sym each)

-- the texts of the first answers, and of one more
pub answer-more : {X : Type 0} (f : X → List ℕ) (text : List ℕ) (xs : List X) (i : ℕ) (x : X) → i < length xs → x ≡ get_or xs i x
    → (text ++ flat_map f (take i xs)) ++ f x ≡ text ++ flat_map f (take (i + 1) xs)
answer-more f text xs i x l is =
    let first = take_more xs i x l ∙ ap (λ y. take i xs ++ y ∷ []) (sym is) in
    flat_map_more f text (take i xs) x ∙ ap (λ ys. text ++ flat_map f ys) (sym first)

-- what is made of what is made
pub map-both : {X Y Z : Type 0} (g : Y → Z) (f : X → Y) (xs : List X) → map g (map f xs) ≡ map (λ x. g (f x)) xs
map-both g f [] = refl
map-both g f (x ∷ xs) = ap (λ zs. g (f x) ∷ zs) (map-both g f xs)

-- bytes that are kept are what was written
pub kept : (a : Option (List ℕ)) (text bytes : List ℕ) → a ≡ Some text → Keeps a (Some bytes) → bytes ≡ text
kept None text bytes e h = cc e
kept (Some t) text bytes e h = let is : t ≡ text = cc e in h ∙ is
