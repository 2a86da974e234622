use Rattle.std.proofs.Common.{◌≡◌, ◌≤◌, true, take}
use Rattle.std.specs.List.{list_all}
use Rattle.mig_words.specs.Files.{is_plain}
use Rattle.mig_words.proofs.files.only_files.Given as goal

abbrev pub invariant-loop-i : goal.invariant-loop-i
invariant-loop-i l = (list_all is_plain (take l.i l.words) ≡ true) × (l.i ≤ l.most)
