-- What names hold.
use Rattle.std.specs.Prelude.{ℕ, List, Option, find}
use Rattle.std.specs.Str.{bytes_eq}
use Rattle.std.specs.Option.{option_map}
use Rattle.mig_io.specs.declared.shelf.Held.{Held}
use Rattle.mig_io.specs.declared.shelf.Shelf.{Shelf}

-- the first entry of this name
abbrev pub entry_of : List Held → List ℕ → Option Held
entry_of entries name = find (λ entry. bytes_eq entry.name name) entries

-- the bytes that the name holds, if it was put on the shelf
abbrev pub bytes_on : Shelf → List ℕ → Option (List ℕ)
bytes_on shelf name = option_map (λ entry. entry.bytes) (entry_of shelf.entries.items name)
