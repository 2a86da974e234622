use Rattle.std.proofs.Common.{◌≡◌, ◌+◌, ◌*◌, ◌^◌, ◌%◌, drop}
use Rattle.std.specs.List.{fold}
use Rattle.mig_storage.specs.Index.{text_code}
use Rattle.mig_storage.proofs.codes.text_code.Given as goal

abbrev pub invariant-loop-byte : goal.invariant-loop-byte
invariant-loop-byte l = fold (λ code byte. (code * 31 % 2 ^ 64 + byte) % 2 ^ 64) l.code (drop l.byte-index l.text) ≡ text_code l.text
