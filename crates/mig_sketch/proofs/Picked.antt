-- What is picked at the holes of a function, hole by hole.
use Rattle.std.proofs.Common.{◌≡◌, ℕ, ◌+◌, ◌<◌, zero, suc, Bool, true, false, List, [], ◌∷◌, ◌++◌, cond, take, drop, length, get_or, refl, sym, ap, ◌∙◌, arith, append_assoc, append-nil}
use Rattle.std.specs.Prelude.{◌==◌, slice_index_or}
use Rattle.std.proofs.lemmas.Bool.{eq-eqb, ne_eqb}
use Rattle.std.proofs.lemmas.List.{take_more, drop_more, length-take, get_or_read}
use Rattle.mig_base.specs.Lists.{numbered}
use Rattle.mig_schema.specs.declared.programs.Function.{Function}
use Rattle.mig_schema.specs.declared.programs.Query.{Query}
use Rattle.mig_schema.specs.declared.programs.Stmt.{Stmt}
use Rattle.mig_invariant.proofs.Tables.{numbered_more}
use Rattle.mig_sketch.specs.declared.plans.Hole.{Hole}
use Rattle.mig_sketch.specs.declared.plans.Part.{Part}
use Rattle.mig_sketch.specs.declared.plans.Part.TheVariants as part
use Rattle.mig_sketch.specs.Choices.{IsChoice, sizes_of}
use Rattle.mig_sketch.specs.Filling.{no_part, picked_parts, stmts_of, query_of, filled_function}

-- a choice has a pick for each hole, in range
pub pick_at : (hs : List Hole) (ps : List ℕ) (i : ℕ) (h : Hole) → IsChoice (sizes_of hs) ps → i < length hs → h ≡ get_or hs i h → (i < length ps) × (get_or ps i 0 < length h.options)
pick_at [] ps i h c lt is = absurd (omega (arith, lt))
pick_at (x ∷ hs) [] i h c lt is = absurd c
pick_at (x ∷ hs) (p ∷ ps) zero h c lt is = let e : length h.options ≡ length x.options = ap (λ (k : Hole). length k.options) is in (omega arith, omega (arith, c.0, e))
pick_at (x ∷ hs) (p ∷ ps) (suc i) h c lt is = let t = pick_at hs ps i h c.1 (omega (arith, lt)) is in (omega (arith, t.0), t.1)

-- it has as many as there are holes
pub choice-length : (hs : List Hole) (ps : List ℕ) → IsChoice (sizes_of hs) ps → length ps ≡ length hs
choice-length [] [] c = refl
choice-length [] (p ∷ ps) c = absurd c
choice-length (h ∷ hs) [] c = absurd c
choice-length (h ∷ hs) (p ∷ ps) c = let e = choice-length hs ps c.1 in omega (arith, e)

-- what is picked at a hole, for function f
abbrev pub picked_here : ℕ → Hole → ℕ → List Part
picked_here f h p = cond (h.function == f) (slice_index_or h.options p no_part ∷ []) []

picked-head : (b : Bool) (x : Part) (xs : List Part) → cond b (x ∷ xs) xs ≡ cond b (x ∷ []) [] ++ xs
picked-head true x xs = refl
picked-head false x xs = refl

picked-cons : (f : ℕ) (h : Hole) (hs : List Hole) (p : ℕ) (ps : List ℕ) → picked_parts f (h ∷ hs) (p ∷ ps) ≡ picked_here f h p ++ picked_parts f hs ps
picked-cons f h hs p ps = picked-head (h.function == f) (slice_index_or h.options p no_part) (picked_parts f hs ps)

pub picked-append : (f : ℕ) (hs ks : List Hole) (ps qs : List ℕ) → length hs ≡ length ps → picked_parts f (hs ++ ks) (ps ++ qs) ≡ picked_parts f hs ps ++ picked_parts f ks qs
picked-append f [] ks [] qs e = refl
picked-append f [] ks (p ∷ ps) qs e = absurd (omega (arith, e))
picked-append f (h ∷ hs) ks [] qs e = absurd (omega (arith, e))
picked-append f (h ∷ hs) ks (p ∷ ps) qs e =
    picked-cons f h (hs ++ ks) p (ps ++ qs)
    ∙ ap (λ xs. picked_here f h p ++ xs) (picked-append f hs ks ps qs (omega (arith, e)))
    ∙ sym (append_assoc (picked_here f h p) (picked_parts f hs ps) (picked_parts f ks qs))
    ∙ ap (λ xs. xs ++ picked_parts f ks qs) (sym (picked-cons f h hs p ps))

-- one hole more
pub picked-more : (f : ℕ) (hs : List Hole) (ps : List ℕ) (i : ℕ) (h : Hole) → i < length hs → i < length ps → h ≡ get_or hs i h → picked_parts f (take (i + 1) hs) (take (i + 1) ps) ≡ picked_parts f (take i hs) (take i ps) ++ picked_here f h (get_or ps i 0)
picked-more f hs ps i h lt lt' is =
    ap (λ ks. picked_parts f ks (take (i + 1) ps)) (take_more hs i h lt ∙ ap (λ (k : Hole). take i hs ++ k ∷ []) (sym is))
    ∙ ap (picked_parts f (take i hs ++ h ∷ [])) (take_more ps i 0 lt')
    ∙ picked-append f (take i hs) (h ∷ []) (take i ps) (get_or ps i 0 ∷ []) (omega (arith, length-take i hs, length-take i ps))

pub stmts-append : (ps qs : List Part) → stmts_of (ps ++ qs) ≡ stmts_of ps ++ stmts_of qs
stmts-append [] qs = refl
stmts-append (part.Stmt s ∷ ps) qs = ap (λ xs. s ∷ xs) (stmts-append ps qs)
stmts-append (part.Query q ∷ ps) qs = stmts-append ps qs

-- the option that is picked at a hole of function f
picked_is : (f : ℕ) (h : Hole) (p : ℕ) (x : Part) → h.function ≡ f → p < length h.options → x ≡ get_or h.options p x → picked_here f h p ≡ x ∷ []
picked_is f h p x own lt is = ap (λ b. cond b (slice_index_or h.options p no_part ∷ []) []) (eq-eqb h.function f own) ∙ ap (λ (y : Part). y ∷ []) (sym (get_or_read h.options p x lt is no_part))

-- nothing is picked for it at a hole of another one
picked_not : (f : ℕ) (h : Hole) (p : ℕ) → (h.function ≡ f → ⊥) → picked_here f h p ≡ []
picked_not f h p other = ap (λ b. cond b (slice_index_or h.options p no_part ∷ []) []) (ne_eqb h.function f other)

-- what is no statement is a query
pub query_else : (x : Part) → ((s : Stmt) → x ≡ part.Stmt s → ⊥) → (q : Query) × (x ≡ part.Query q)
query_else (part.Stmt s) never = absurd (never s refl)
query_else (part.Query q) never = (q, refl)

-- what is no query is a statement
pub stmt_else : (x : Part) → ((q : Query) → x ≡ part.Query q → ⊥) → (s : Stmt) × (x ≡ part.Stmt s)
stmt_else (part.Stmt s) never = (s, refl)
stmt_else (part.Query q) never = absurd (never q refl)

-- the holes from a place on
pub picked-drop : (f : ℕ) (hs : List Hole) (ps : List ℕ) (i : ℕ) (h : Hole) → i < length hs → i < length ps → h ≡ get_or hs i h → picked_parts f (drop i hs) (drop i ps) ≡ picked_here f h (get_or ps i 0) ++ picked_parts f (drop (i + 1) hs) (drop (i + 1) ps)
picked-drop f hs ps i h lt lt' is =
    ap (λ ks. picked_parts f ks (drop i ps)) (drop_more hs i h lt ∙ ap (λ (k : Hole). k ∷ drop (i + 1) hs) (sym is))
    ∙ ap (picked_parts f (h ∷ drop (i + 1) hs)) (drop_more ps i 0 lt')
    ∙ picked-cons f h (drop (i + 1) hs) (get_or ps i 0) (drop (i + 1) ps)

module _ (f : ℕ) (hs : List Hole) (ps : List ℕ) (i : ℕ) (h : Hole) (choice : IsChoice (sizes_of hs) ps) (lt : i < length hs) (is : h ≡ get_or hs i h) where
  within : i < length ps
  within = (pick_at hs ps i h choice lt is).0

  -- one hole more
  abbrev pub IsMore : (list new : List Stmt) → Type 0
  IsMore list new = list ≡ stmts_of (picked_parts f (take i hs) (take i ps)) → new ≡ stmts_of (picked_parts f (take (i + 1) hs) (take (i + 1) ps))

  stmts-next : (xs : List Part) (list new : List Stmt) → picked_here f h (get_or ps i 0) ≡ xs → new ≡ list ++ stmts_of xs → IsMore list new
  stmts-next xs list new e added so_far =
      added
      ∙ ap (λ ys. ys ++ stmts_of xs) so_far
      ∙ sym (stmts-append (picked_parts f (take i hs) (take i ps)) xs)
      ∙ ap (λ ys. stmts_of (picked_parts f (take i hs) (take i ps) ++ ys)) (sym e)
      ∙ ap stmts_of (sym (picked-more f hs ps i h lt within is))

  -- a statement is taken
  pub stmt_taken : (x : Part) (s : Stmt) (list new : List Stmt) → h.function ≡ f → x ≡ get_or h.options (get_or ps i 0) x → x ≡ part.Stmt s → new ≡ list ++ s ∷ [] → IsMore list new
  stmt_taken x s list new own at e added = stmts-next (x ∷ []) list new (picked_is f h (get_or ps i 0) x own (pick_at hs ps i h choice lt is).1 at) (added ∙ ap (λ (y : Part). list ++ stmts_of (y ∷ [])) (sym e))

  -- a query is passed over
  pub query_passed : (x : Part) (list : List Stmt) → h.function ≡ f → x ≡ get_or h.options (get_or ps i 0) x → ((s : Stmt) → x ≡ part.Stmt s → ⊥) → IsMore list list
  query_passed x list own at never = let q = query_else x never in stmts-next (x ∷ []) list list (picked_is f h (get_or ps i 0) x own (pick_at hs ps i h choice lt is).1 at) (sym (append-nil list) ∙ ap (λ (y : Part). list ++ stmts_of (y ∷ [])) (sym q.1))

  -- and so is a hole of another function
  pub other_passed : (list : List Stmt) → (h.function ≡ f → ⊥) → IsMore list list
  other_passed list other = stmts-next [] list list (picked_not f h (get_or ps i 0) other) (sym (append-nil list))

  -- the first query stands at this hole or behind it
  abbrev pub IsAhead : Query → ℕ → Type 0
  IsAhead other k = query_of other (picked_parts f hs ps) ≡ query_of other (picked_parts f (drop k hs) (drop k ps))

  ahead-next : (other : Query) (xs : List Part) → picked_here f h (get_or ps i 0) ≡ xs → IsAhead other i → query_of other (picked_parts f hs ps) ≡ query_of other (xs ++ picked_parts f (drop (i + 1) hs) (drop (i + 1) ps))
  ahead-next other xs e ahead =
      ahead
      ∙ ap (query_of other) (picked-drop f hs ps i h lt within is)
      ∙ ap (λ ys. query_of other (ys ++ picked_parts f (drop (i + 1) hs) (drop (i + 1) ps))) e

  -- the query that is picked here is the first
  pub query_found : (other q : Query) (x : Part) → h.function ≡ f → x ≡ get_or h.options (get_or ps i 0) x → x ≡ part.Query q → IsAhead other i → q ≡ query_of other (picked_parts f hs ps)
  query_found other q x own at e ahead = sym (ahead-next other (x ∷ []) (picked_is f h (get_or ps i 0) x own (pick_at hs ps i h choice lt is).1 at) ahead ∙ ap (λ (y : Part). query_of other (y ∷ picked_parts f (drop (i + 1) hs) (drop (i + 1) ps))) e)

  -- a statement is not
  pub stmt_skipped : (other : Query) (x : Part) → h.function ≡ f → x ≡ get_or h.options (get_or ps i 0) x → ((q : Query) → x ≡ part.Query q → ⊥) → IsAhead other i → IsAhead other (i + 1)
  stmt_skipped other x own at never ahead = let s = stmt_else x never in ahead-next other (x ∷ []) (picked_is f h (get_or ps i 0) x own (pick_at hs ps i h choice lt is).1 at) ahead ∙ ap (λ (y : Part). query_of other (y ∷ picked_parts f (drop (i + 1) hs) (drop (i + 1) ps))) s.1

  -- nor is what is picked for another function
  pub other_skipped : (other : Query) → (h.function ≡ f → ⊥) → IsAhead other i → IsAhead other (i + 1)
  other_skipped other elsewhere ahead = ahead-next other [] (picked_not f h (get_or ps i 0) elsewhere) ahead

-- one function more
pub filled-more : (holes : List Hole) (picks : List ℕ) (xs : List Function) (i : ℕ) (x : Function) → i < length xs → x ≡ get_or xs i x → numbered (filled_function holes picks) 0 (take (i + 1) xs) ≡ numbered (filled_function holes picks) 0 (take i xs) ++ filled_function holes picks i x ∷ []
filled-more holes picks xs i x lt is = numbered_more (filled_function holes picks) xs i x lt ∙ ap (λ (y : Function). numbered (filled_function holes picks) 0 (take i xs) ++ filled_function holes picks i y ∷ []) (sym is)
