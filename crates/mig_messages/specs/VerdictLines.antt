-- The lines on verdicts.
use Rattle.std.specs.Prelude.{ℕ, List, ◌++◌, codes}
use Rattle.mig_checker.specs.declared.verdicts.Why.{Why}
use Rattle.mig_checker.specs.declared.verdicts.Why.TheVariants as why
use Rattle.mig_messages.specs.Lines.{line, numbered}

-- the line on an answer that is accepted; it is the one line that stands on `out`
abbrev pub accepted : List ℕ
accepted = line (codes "accepted")

-- why a certificate is not valid at a place
abbrev pub why_name : Why → List ℕ
why_name why.Shape = codes "shape"
why_name why.Missing = codes "missing"
why_name why.Extra = codes "extra"
why_name why.NoFollow = codes "no follow"
why_name why.EndsDiffer = codes "ends differ"

-- the line on an answer that is rejected: the place at which it is first broken, and why
abbrev pub rejected_line : (pair obligation step : ℕ) → Why → List ℕ
rejected_line pair obligation step w =
    codes "rejected: " ++ (numbered (codes "pair ") pair ++ (numbered (codes " obligation ") obligation ++ (numbered (codes " step ") step ++ (codes ": " ++ line (why_name w)))))
