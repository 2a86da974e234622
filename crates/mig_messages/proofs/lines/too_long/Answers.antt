use Rattle.std.proofs.Common.{ℕ, List, ◌++◌, codes, decimal, ap, ◌∙◌, append_assoc}
use Rattle.mig_messages.proofs.lines.too_long.Goals as goal

pub returns : goal.returns
returns c =
    c.in_ok-put.ensures
    ∙ ap (λ (t : List ℕ). t ++ codes " bytes\n") (c.in_ok-put_number.ensures ∙ ap (λ (t : List ℕ). t ++ decimal c.args.cap) c.in_ok-out.ensures)
    ∙ append_assoc (c.args.file.now ++ codes ": longer than ") (decimal c.args.cap) (codes " bytes\n")
    ∙ append_assoc c.args.file.now (codes ": longer than ") (decimal c.args.cap ++ codes " bytes\n")
