-- Worked: what each rule gives for small terms, and where it gives nothing.
use Rattle.std.specs.Prelude.{◌≡◌, ℕ, Bool, true, false, List, [], ◌∷◌, ◌++◌, Some, None, refl}
use denote.Hole.Carrier.{hidden}
use Rattle.mig_schema.specs.declared.faults.Side.{Side}
use Rattle.mig_schema.specs.declared.faults.Side.TheVariants.{Old, New}
use Rattle.mig_schema.specs.declared.programs.Op.TheVariants.{Eq}
use Rattle.mig_schema.specs.declared.tables.ColId.{ColId}
use Rattle.mig_meaning.specs.declared.relating.Invariant.{Invariant}
use Rattle.mig_meaning.specs.declared.relating.Invariant.TheVariants.{Unique, Apart, Within}
use Rattle.mig_algebra.specs.declared.atoms.Var.{Var}
use Rattle.mig_algebra.specs.declared.atoms.Atom.{Atom}
use Rattle.mig_algebra.specs.declared.atoms.Atom.TheVariants.{Param, Col}
use Rattle.mig_algebra.specs.declared.literals.Lit.{Lit, Cmp, Other}
use Rattle.mig_algebra.specs.declared.literals.Lit.TheBlock.{hidden-the_row-Lit-0}
use Rattle.mig_algebra.specs.declared.literals.Lit.TheVariants.{Any}
use Rattle.mig_algebra.specs.declared.terms.Term.{Term}
use Rattle.mig_classes.specs.Given.{contradictory}
use Rattle.mig_replacing.specs.Given.{plain}
use Rattle.mig_steps.specs.Ways.{at_literal}
use Rattle.mig_rows.specs.Alone.{alone, alone_args}
use Rattle.mig_rows.specs.Inside.{inside, inside_args}
use Rattle.mig_rows.specs.Lossless.{lossless, lossless_args}
use Rattle.mig_rows.specs.Merged.{merged, merge_args}
use Rattle.mig_rows.specs.Never.{never}
use Rattle.mig_rows.specs.Parted.{parted, apart_args}

abbrev col : ℕ → ℕ → ColId
col t c = record { table = t; column = c }

abbrev of_side : Side → ℕ → Var
of_side s t = record { side = s; table = t; stage = 0 }

abbrev later : ℕ → Var
later t = record { side = Old; table = t; stage = 1 }

abbrev term : List Var → List Lit → List Atom → Term
term vars lits head = record { vars = vars; lits = lits; head = head }

abbrev args2 : (x y k : ℕ) → List ℕ
args2 x y k = x ∷ (y ∷ (k ∷ []))

-- ---- two rows with one key

abbrev two : List Var → Term
two vars = term vars (Cmp Eq (Col 0 0) (Col 1 0) ∷ (Other 0 1 ∷ [])) []

abbrev unique_key : List Invariant
unique_key = Unique Old (col 0 0) ∷ []

abbrev one : Term
one = term (of_side Old 0 ∷ []) (Cmp Eq (Col 0 0) (Col 0 0) ∷ (Other 0 0 ∷ [])) []

-- become one that differs from itself
merges : merged unique_key (args2 0 1 0) (two (of_side Old 0 ∷ (of_side Old 0 ∷ []))) ≡ Some (one ∷ [])
merges = refl

dies : contradictory one.vars (plain one.lits) ≡ true
dies = refl

merge_tried : merge_args unique_key (two (of_side Old 0 ∷ (of_side Old 0 ∷ []))) ≡ args2 0 1 0 ∷ []
merge_tried = refl

-- the greater variable does not stay; a later row, and one of the other side, do not merge
not_turned : merged unique_key (args2 1 0 0) (two (of_side Old 0 ∷ (of_side Old 0 ∷ []))) ≡ None
not_turned = refl

not_later : merged unique_key (args2 0 1 0) (two (of_side Old 0 ∷ (later 0 ∷ []))) ≡ None
not_later = refl

not_new : merged unique_key (args2 0 1 0) (two (of_side New 0 ∷ (of_side New 0 ∷ []))) ≡ None
not_new = refl

-- ---- columns that are apart, through a parameter

abbrev parted_ids : List Invariant
parted_ids = Apart Old (col 0 0) (col 1 0) ∷ []

abbrev tied : List Var → Term
tied vars = term vars (Cmp Eq (Param 0) (Col 0 0) ∷ (Cmp Eq (Param 0) (Col 1 0) ∷ [])) (Col 0 1 ∷ [])

parts : parted parted_ids (args2 1 0 0) (tied (of_side Old 1 ∷ (of_side Old 0 ∷ []))) ≡ Some []
parts = refl

parts_tried : apart_args parted_ids (tied (of_side Old 1 ∷ (of_side Old 0 ∷ []))) ≡ args2 1 0 0 ∷ []
parts_tried = refl

not_other_way : parted parted_ids (args2 0 1 0) (tied (of_side Old 1 ∷ (of_side Old 0 ∷ []))) ≡ None
not_other_way = refl

-- ---- an instructor and a picture, and no picture of the instructor, who has the given number

abbrev kept : List Lit → List Var → Term
kept lits vars = term (of_side New 0 ∷ (of_side New 1 ∷ [])) (Cmp Eq (Col 0 1) (Col 1 0) ∷ (Any false (record { vars = vars; lits = lits }) ∷ [])) (Col 0 0 ∷ [])

abbrev unique_picture : List Invariant
unique_picture = Unique New (col 1 0) ∷ []

abbrev held_back : Term
held_back = kept (Cmp Eq (Col 0 1) (Col 2 0) ∷ (Cmp Eq (Param 0) (Col 0 0) ∷ [])) (of_side New 1 ∷ [])

unites : at_literal (alone unique_picture) (1 ∷ []) (args2 2 1 0) held_back ≡ Some (kept (Cmp Eq (Col 0 1) (Col 1 0) ∷ (Cmp Eq (Param 0) (Col 0 0) ∷ [])) [] ∷ [])
unfolding hidden-the_row-Lit-0 hidden
unites = refl

unites_tried : alone_args unique_picture (1 ∷ []) held_back ≡ args2 2 1 0 ∷ []
unfolding hidden-the_row-Lit-0 hidden
unites_tried = refl

-- not at a comparison, and not without an invariant
no_body : at_literal (alone unique_picture) (0 ∷ []) (args2 2 1 0) held_back ≡ None
no_body = refl

no_invariant : at_literal (alone []) (1 ∷ []) (args2 2 1 0) held_back ≡ None
unfolding hidden-the_row-Lit-0 hidden
no_invariant = refl

-- ---- accounts (id, pid) and pictures (pid, text), each account with its picture

abbrev partners : List Invariant
partners = Within Old (col 0 1) (col 1 0) ∷ (Unique Old (col 1 0) ∷ [])

abbrev account : List Lit → List Atom → Term
account lits head = term (of_side Old 1 ∷ (of_side Old 0 ∷ [])) lits head

loses : lossless partners (0 ∷ args2 1 0 1) (account (Cmp Eq (Col 0 0) (Col 1 1) ∷ []) (Col 1 0 ∷ [])) ≡ Some (term (of_side Old 0 ∷ []) [] (Col 0 0 ∷ []) ∷ [])
loses = refl

-- also through what the account's column is equal to
loses_by_class : lossless partners (0 ∷ args2 1 0 1) (account (Cmp Eq (Param 0) (Col 0 0) ∷ (Cmp Eq (Param 0) (Col 1 1) ∷ [])) (Col 1 0 ∷ [])) ≡ Some (term (of_side Old 0 ∷ []) (Cmp Eq (Param 0) (Col 0 1) ∷ []) (Col 0 0 ∷ []) ∷ [])
loses_by_class = refl

loses_tried : lossless_args partners (account (Cmp Eq (Col 0 0) (Col 1 1) ∷ []) (Col 1 0 ∷ [])) ≡ (0 ∷ args2 1 0 1) ∷ []
loses_tried = refl

-- not where the head names the picture too, nor by other invariants
named_in_head : lossless partners (0 ∷ args2 1 0 1) (account (Cmp Eq (Col 0 0) (Col 1 1) ∷ []) (Col 0 1 ∷ [])) ≡ None
named_in_head = refl

not_unique : lossless partners (0 ∷ args2 1 0 0) (account (Cmp Eq (Col 0 0) (Col 1 1) ∷ []) (Col 1 0 ∷ [])) ≡ None
not_unique = refl

-- ---- an account without its picture

abbrev lacks : List Lit → List Var → Term
lacks lits vars = term (of_side Old 0 ∷ []) (Any false (record { vars = vars; lits = lits }) ∷ []) []

spares : at_literal (inside partners) (0 ∷ []) (args2 1 0 0) (lacks (Cmp Eq (Col 0 1) (Col 1 0) ∷ []) (of_side Old 1 ∷ [])) ≡ Some (lacks [] [] ∷ [])
unfolding hidden-the_row-Lit-0 hidden
spares = refl

spares_tried : inside_args partners (0 ∷ []) (lacks (Cmp Eq (Col 0 1) (Col 1 0) ∷ []) (of_side Old 1 ∷ [])) ≡ args2 1 0 0 ∷ []
unfolding hidden-the_row-Lit-0 hidden
spares_tried = refl

-- the account may be the body's own
spares_own : at_literal (inside partners) (0 ∷ []) (args2 1 2 0) (lacks (Cmp Eq (Col 1 0) (Col 2 1) ∷ []) (of_side Old 1 ∷ (of_side Old 0 ∷ []))) ≡ Some (lacks [] (of_side Old 0 ∷ []) ∷ [])
unfolding hidden-the_row-Lit-0 hidden
spares_own = refl

-- not where the picture is named twice
named_twice : at_literal (inside partners) (0 ∷ []) (args2 1 0 0) (lacks (Cmp Eq (Col 0 1) (Col 1 0) ∷ (Cmp Eq (Param 0) (Col 1 1) ∷ [])) (of_side Old 1 ∷ [])) ≡ None
unfolding hidden-the_row-Lit-0 hidden
named_twice = refl

-- ---- a body around an account whose id is the given number

abbrev barred : Bool → List Var → List Lit → Term
barred held vars lits = term (of_side Old 0 ∷ []) (Cmp Eq (Param 0) (Col 0 0) ∷ (Any held (record { vars = vars; lits = lits }) ∷ [])) []

abbrev unbarred : Term
unbarred = term (of_side Old 0 ∷ []) (Cmp Eq (Param 0) (Col 0 0) ∷ []) []

abbrev same_number : List Lit
same_number = Cmp Eq (Param 0) (Col 1 0) ∷ []

-- no picture has the number too
decides : at_literal (never parted_ids) (1 ∷ []) [] (barred false (of_side Old 1 ∷ []) same_number) ≡ Some (unbarred ∷ [])
unfolding hidden-the_row-Lit-0 hidden
decides = refl

decides_held : at_literal (never parted_ids) (1 ∷ []) [] (barred true (of_side Old 1 ∷ []) same_number) ≡ Some []
unfolding hidden-the_row-Lit-0 hidden
decides_held = refl

-- a later picture may, and one of the other side
may_later : at_literal (never parted_ids) (1 ∷ []) [] (barred false (later 1 ∷ []) same_number) ≡ None
unfolding hidden-the_row-Lit-0 hidden
may_later = refl

may_new : at_literal (never parted_ids) (1 ∷ []) [] (barred false (of_side New 1 ∷ []) same_number) ≡ None
unfolding hidden-the_row-Lit-0 hidden
may_new = refl

-- no other account has it
decides_other : at_literal (never unique_key) (1 ∷ []) [] (barred false (of_side Old 0 ∷ []) (same_number ++ Other 0 1 ∷ [])) ≡ Some (unbarred ∷ [])
unfolding hidden-the_row-Lit-0 hidden
decides_other = refl

-- the account itself does, and a later one may
may_itself : at_literal (never unique_key) (1 ∷ []) [] (barred false (of_side Old 0 ∷ []) same_number) ≡ None
unfolding hidden-the_row-Lit-0 hidden
may_itself = refl

may_other : at_literal (never unique_key) (1 ∷ []) [] (barred false (later 0 ∷ []) (same_number ++ Other 0 1 ∷ [])) ≡ None
unfolding hidden-the_row-Lit-0 hidden
may_other = refl
