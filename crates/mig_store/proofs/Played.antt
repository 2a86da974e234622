-- What is known once a file's calls are read, and once they were played.
use Rattle.std.proofs.Common.{◌≡◌, ℕ, ◌+◌, ◌<◌, cond, List, [], ◌∷◌, map, length, Option, Some, refl, sym, ap, ◌∙◌, subst}
use Rattle.mig_schema.specs.declared.tables.Schema.{Schema}
use Rattle.mig_schema.specs.declared.programs.Program.{Program}
use Rattle.mig_meaning.specs.declared.states.State.{State}
use Rattle.mig_meaning.specs.declared.calling.Invocation.{Invocation}
use Rattle.mig_meaning.specs.Calls.{AreCalls}
use Rattle.mig_meaning.specs.Lists.{Each}
use Rattle.mig_meaning.specs.Run.{function_at}
use Rattle.mig_meaning.proofs.Lists.{each-unmapped}
use Rattle.mig_meaning.proofs.Within.{cond-keeps, each-append}
use Rattle.mig_store.specs.declared.answers.Answered.{Answered}
use Rattle.mig_store.specs.Runs.{answers_of, is_query, played, query_calls}
use Rattle.mig_store.specs.Told.{answered_told, place_told}
use Rattle.mig_store.specs.Writing.{answers_text}
use Rattle.mig_store.specs.Playing.{IsAnswered, place_in}

-- ---- the functions of answers are the program's
abbrev IsNamed : Program → ℕ × ℕ → Type 0
IsNamed p place = place.1 < length p.functions

queries-named : (p : Program) (n : ℕ) (calls : List Invocation) → AreCalls p calls → Each (IsNamed p) (query_calls p n calls)
queries-named p n [] h = tt
queries-named p n (i ∷ is) h =
    each-append (IsNamed p) (cond (is_query (function_at p i.function).body) ((n, i.function) ∷ []) []) (query_calls p (n + 1) is)
    (cond-keeps (Each (IsNamed p)) (is_query (function_at p i.function).body) ((n, i.function) ∷ []) [] (h.0.named, tt) tt)
    (queries-named p (n + 1) is h.1)

pub answers-named : (p : Program) (calls : List Invocation) (xs : List Answered) → AreCalls p calls → map place_told xs ≡ query_calls p 0 calls → Each (λ (a : Answered). a.function < length p.functions) xs
answers-named p calls xs sound places = each-unmapped (IsNamed p) place_told xs (subst (Each (IsNamed p)) (sym places) (queries-named p 0 calls sound))

-- ---- the text
places-told : (xs : List Answered) → map place_in (map answered_told xs) ≡ map place_told xs
places-told [] = refl
places-told (x ∷ xs) = ap (λ ys. place_told x ∷ ys) (places-told xs)

pub answered : (schema : Schema) (p : Program) (calls : List Invocation) (told : Option State) (xs : List Answered) (text : List ℕ) → map place_told xs ≡ query_calls p 0 calls → ((s : State) → told ≡ Some s → map answered_told xs ≡ answers_of 0 calls (played schema p calls)) → text ≡ answers_text p (map answered_told xs) → IsAnswered schema p calls told text
answered schema p calls told xs text places exact written = record {
  answers = map answered_told xs;
  places = places-told xs ∙ places;
  written = written;
  exact = λ s e. written ∙ ap (answers_text p) (exact s e);
}
