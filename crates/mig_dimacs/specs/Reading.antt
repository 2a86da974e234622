-- What a reader has read so far, and what it reads next.
use Rattle.std.specs.Prelude.{ℕ, ◌+◌, Bool, true, false, not, ◌&&◌, ◌||◌, ◌==◌, nat_lt, if◌then◌else◌, List, [], ◌∷◌, ◌++◌, length, Option, Some, None}
use Rattle.mig_dimacs.specs.declared.token.Number.{Number as Signed}
use Rattle.mig_dimacs.specs.declared.token.Token.{Token}
use Rattle.mig_dimacs.specs.declared.token.Token.TheVariants.{Problem, Plain, Weighted, Number, End}
use Rattle.mig_dimacs.specs.declared.token.Piece.{Piece}
use Rattle.mig_dimacs.specs.declared.lexing.Lexer.{Lexer}
use Rattle.mig_dimacs.specs.declared.text.Head.{Head}
use Rattle.mig_dimacs.specs.declared.place.Place.{Place}
use Rattle.mig_dimacs.specs.declared.place.Place.TheVariants as at
use Rattle.mig_dimacs.specs.declared.reader.Reader.{Reader}
use Rattle.mig_dimacs.specs.Words.{pieces_from}
use Rattle.mig_dimacs.specs.Texts.{is_lit, is_weight, is_clause, soft_weight, clause_weight, soft_sum}

-- all pieces, where these bytes follow
abbrev pub pieces_with : Lexer → List ℕ → List Piece
pieces_with l rest = l.pieces.items ++ pieces_from l.spot l.line l.word.items rest

-- the place behind the number of clauses
abbrev pub behind_count : Bool → ℕ → ℕ → Place
behind_count w v c = if w then at.Count v c else at.Clauses (record { vars = v; top = None; count = c })

-- the next place in the header; none where no header goes on with the token
abbrev pub next_number : Place → Signed → Option Place
next_number (at.Kind w) n = if not n.negative && nat_lt n.size 4294967296 then Some (at.Vars w n.size) else None
next_number (at.Vars w v) n = if not n.negative then Some (behind_count w v n.size) else None
next_number (at.Count v c) n = if not n.negative && nat_lt 0 n.size then Some (at.Clauses (record { vars = v; top = Some n.size; count = c })) else None
next_number p n = None

-- the same for any token
abbrev pub next_place : Place → Token → Option Place
next_place (at.Start w) Problem = Some (at.Problem w)
next_place (at.Problem false) Plain = Some (at.Kind false)
next_place (at.Problem true) Weighted = Some (at.Kind true)
next_place p (Number n) = next_number p n
next_place p t = None

-- whether a clause can go on with a number behind those before it, and still be ended
abbrev pub may_come : Option ℕ → ℕ → List Signed → Signed → Bool
may_come None vars before n = is_lit vars n
may_come (Some t) vars [] n = is_weight t n && ((n.size == t) || nat_lt 0 vars)
may_come (Some t) vars (w ∷ ls) n = is_lit vars n && ((w.size == t) || (length ls == 0))

-- what soft clauses must cost less than
abbrev pub limit : ℕ
limit = 4611686018427387904

-- what soft clauses cost more by a number behind those before it
abbrev pub more_soft : Option ℕ → List Signed → Signed → ℕ
more_soft top [] n = soft_weight top n
more_soft top (w ∷ ls) n = 0

-- what soft clauses cost behind one more number, if that is less than the limit
abbrev pub next_soft : Option ℕ → ℕ → List Signed → Signed → Option ℕ
next_soft top s before n = if nat_lt (s + more_soft top before n) limit then Some (s + more_soft top before n) else None

-- the reader behind one more number of a clause, by what soft clauses cost then
abbrev pub with_number : Head → List (List Signed) → List Signed → Signed → Option ℕ → Option Reader
with_number h cs c n None = None
with_number h cs c n (Some s) = Some (record { place = at.Clauses h; clauses = cs; current = c ++ n ∷ []; soft = s })

-- the reader behind one more number of a clause, or behind the 0 at its end
abbrev pub next_in_clause : Head → List (List Signed) → List Signed → ℕ → Signed → Option Reader
next_in_clause h cs c s n =
    if nat_lt (length cs) h.count
    then (if not n.negative && (n.size == 0)
    then (if is_clause h c then Some (record { place = at.Clauses h; clauses = cs ++ c ∷ []; current = []; soft = s }) else None)
    else (if may_come h.top h.vars c n then with_number h cs c n (next_soft h.top s c n) else None))
    else None

-- the reader at the end of the text
abbrev pub next_at_end : Head → List (List Signed) → List Signed → ℕ → Option Reader
next_at_end h cs c s = if (length c == 0) && (length cs == h.count) then Some (record { place = at.Ended h; clauses = cs; current = []; soft = s }) else None

-- the same behind any token
abbrev pub next_in_clauses : Head → List (List Signed) → List Signed → ℕ → Token → Option Reader
next_in_clauses h cs c s (Number n) = next_in_clause h cs c s n
next_in_clauses h cs c s End = next_at_end h cs c s
next_in_clauses h cs c s t = None

-- at another place of the header
abbrev pub moved : List (List Signed) → List Signed → ℕ → Option Place → Option Reader
moved cs c s None = None
moved cs c s (Some p) = Some (record { place = p; clauses = cs; current = c; soft = s })

-- the reader behind one more token, wherever it was
abbrev pub next_from : Place → List (List Signed) → List Signed → ℕ → Token → Option Reader
next_from (at.Clauses h) cs c s t = next_in_clauses h cs c s t
next_from p cs c s t = moved cs c s (next_place p t)

-- the same; none where no text goes on so
abbrev pub next : Reader → Token → Option Reader
next r t = next_from r.place r.clauses r.current r.soft t

-- a reader in front of all
abbrev pub fresh : Bool → Reader
fresh w = record { place = at.Start w; clauses = []; current = []; soft = 0 }

-- a reader among the clauses
abbrev pub among : Head → List (List Signed) → List Signed → Reader
among h cs c = record { place = at.Clauses h; clauses = cs; current = c; soft = soft_sum h.top cs + clause_weight h.top c }
