use Rattle.std.proofs.Common.{ℕ, List, ◌++◌, codes, ap, ◌∙◌}
use Rattle.mig_messages.specs.Lines.{line, numbered}
use Rattle.mig_messages.specs.VerdictLines.{why_name}
use Rattle.mig_messages.proofs.Pushed.{pushed}
use Rattle.mig_messages.proofs.verdict_lines.rejected_line.Goals as goal

pub returns : goal.returns
returns c =
    let why : List ℕ = why_name c.args.why in
    let three = codes ": " ++ line why in
    let two = numbered (codes " step ") c.args.step ++ three in
    let one = numbered (codes " obligation ") c.args.obligation ++ two in
    c.in_ok-put-3.ensures
    ∙ pushed c.put.new.out c.put-2.new.out why (codes "\n") (c.in_ok-put-2.ensures ∙ ap (λ (t : List ℕ). c.put.new.out ++ t) c.why_name.ensures)
    ∙ pushed c.put_numbered-3.new.out c.put.new.out (codes ": ") (line why) c.in_ok-put.ensures
    ∙ pushed c.put_numbered-2.new.out c.put_numbered-3.new.out (numbered (codes " step ") c.args.step) three c.in_ok-put_numbered-3.ensures
    ∙ pushed c.put_numbered.new.out c.put_numbered-2.new.out (numbered (codes " obligation ") c.args.obligation) two c.in_ok-put_numbered-2.ensures
    ∙ pushed c.in_ok-out.out c.put_numbered.new.out (numbered (codes "pair ") c.args.pair) one c.in_ok-put_numbered.ensures
    ∙ ap (λ (t : List ℕ). t ++ (numbered (codes "pair ") c.args.pair ++ one)) c.in_ok-out.ensures
