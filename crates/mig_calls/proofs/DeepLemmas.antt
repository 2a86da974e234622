-- Choices that are gone through one after the other, each to its end.
use Rattle.std.proofs.Common.{◌≡◌, ℕ, ◌+◌, ◌<◌, Bool, List, [], ◌∷◌, ◌++◌, take, get_or, length, refl, sym, ap, ◌∙◌, arith}
use Rattle.std.specs.Prelude.{filter, map}
use Rattle.std.proofs.lemmas.List.{append-nil, append_assoc, length-append, take_at, take_more}
use Rattle.std.proofs.lemmas.List.Elements.{filter-append}
use Rattle.mig_schema.specs.declared.programs.Joined.{Joined}
use Rattle.mig_meaning.specs.declared.states.Placed.{Placed}
use Rattle.mig_meaning.specs.declared.states.State.{State}
use Rattle.mig_meaning.specs.Rows.{JoinRow}
use Rattle.mig_calls.specs.Joining.{grown, grown_all, partners}

pub grown_all-nil : (s : State) (earlier : List ℕ) (ms : List Joined) → grown_all s earlier ms [] ≡ []
grown_all-nil s earlier [] = refl
grown_all-nil s earlier (m ∷ ms) = grown_all-nil s (earlier ++ m.table ∷ []) ms

grown-append : (s : State) (earlier : List ℕ) (m : Joined) (xs ys : List JoinRow) → grown s earlier m (xs ++ ys) ≡ grown s earlier m xs ++ grown s earlier m ys
grown-append s earlier m [] ys = refl
grown-append s earlier m (x ∷ xs) ys =
    let here = map (λ (p : Placed). x ++ p ∷ []) (partners s earlier m x) in
    ap (λ zs. here ++ zs) (grown-append s earlier m xs ys) ∙ sym (append_assoc here (grown s earlier m xs) (grown s earlier m ys))

grown_all-append : (s : State) (earlier : List ℕ) (ms : List Joined) (xs ys : List JoinRow) → grown_all s earlier ms (xs ++ ys) ≡ grown_all s earlier ms xs ++ grown_all s earlier ms ys
grown_all-append s earlier [] xs ys = refl
grown_all-append s earlier (m ∷ ms) xs ys =
    ap (grown_all s (earlier ++ m.table ∷ []) ms) (grown-append s earlier m xs ys) ∙ grown_all-append s (earlier ++ m.table ∷ []) ms (grown s earlier m xs) (grown s earlier m ys)

-- what is met before any choice is gone through
pub none-met : (s : State) (earlier : List ℕ) (ms : List Joined) (test : JoinRow → Bool) (all : List JoinRow) → all ≡ all ++ filter test (grown_all s earlier ms [])
none-met s earlier ms test all = sym (ap (λ xs. all ++ filter test xs) (grown_all-nil s earlier ms) ∙ append-nil all)

-- one choice more
pub more-met : (s : State) (earlier : List ℕ) (m : Joined) (ms : List Joined) (test : JoinRow → Bool) (cs : List JoinRow) (i : ℕ) (c : JoinRow) (first before after : List JoinRow) → i < length cs → c ≡ get_or cs i c
    → before ≡ first ++ filter test (grown_all s earlier (m ∷ ms) (take i cs))
    → after ≡ before ++ filter test (grown_all s (earlier ++ m.table ∷ []) ms (grown s earlier m (c ∷ [])))
    → after ≡ first ++ filter test (grown_all s earlier (m ∷ ms) (take (i + 1) cs))
more-met s earlier m ms test cs i c first before after h is had got =
    let next : take (i + 1) cs ≡ take i cs ++ c ∷ [] = take_more cs i c h ∙ ap (λ y. take i cs ++ y ∷ []) (sym is) in
    let old = grown_all s earlier (m ∷ ms) (take i cs) in
    let new = grown_all s earlier (m ∷ ms) (c ∷ []) in
    got
    ∙ (ap (λ xs. xs ++ filter test new) had
    ∙ (append_assoc first (filter test old) (filter test new)
    ∙ (ap (λ xs. first ++ xs) (sym (filter-append test old new))
    ∙ ap (λ xs. first ++ filter test xs) (sym (ap (grown_all s earlier (m ∷ ms)) next ∙ grown_all-append s earlier (m ∷ ms) (take i cs) (c ∷ []))))))

-- ---- the tables of choices that are one row longer
behind : (earlier more : List ℕ) (t : ℕ) → earlier ++ t ∷ more ≡ (earlier ++ t ∷ []) ++ more
behind earlier more t = sym (append_assoc earlier (t ∷ []) more)

pub next-tables : (tables earlier : List ℕ) (m : Joined) (ms : List Joined) → tables ≡ earlier ++ map (λ (n : Joined). n.table) (m ∷ ms) → take (length earlier + 1) tables ≡ earlier ++ m.table ∷ []
next-tables tables earlier m ms h =
    let more = map (λ (n : Joined). n.table) ms in
    ap (take (length earlier + 1)) (h ∙ behind earlier more m.table) ∙ take_at (earlier ++ m.table ∷ []) more (length earlier + 1) (omega (arith, length-append earlier (m.table ∷ [])))

pub tables-left : (tables earlier : List ℕ) (m : Joined) (ms : List Joined) → tables ≡ earlier ++ map (λ (n : Joined). n.table) (m ∷ ms) → tables ≡ take (length earlier + 1) tables ++ map (λ (n : Joined). n.table) ms
tables-left tables earlier m ms h =
    let more = map (λ (n : Joined). n.table) ms in
    h ∙ (behind earlier more m.table ∙ ap (λ ts. ts ++ more) (sym (next-tables tables earlier m ms h)))
