-- The words that are no names.
use Rattle.std.specs.Prelude.{ℕ, Bool, ◌||◌, List, codes, ◌≡◌, false}
use Rattle.std.specs.Str.{bytes_eq}

-- the words that are no names
abbrev pub is_reserved : List ℕ → Bool
is_reserved w =
    bytes_eq w (codes "old") || (bytes_eq w (codes "new") || (bytes_eq w (codes "program") || (bytes_eq w (codes "hints")
    || (bytes_eq w (codes "table") || (bytes_eq w (codes "link") || (bytes_eq w (codes "update") || (bytes_eq w (codes "query")
    || (bytes_eq w (codes "insert") || (bytes_eq w (codes "into") || (bytes_eq w (codes "delete") || (bytes_eq w (codes "from")
    || (bytes_eq w (codes "set") || (bytes_eq w (codes "in") || (bytes_eq w (codes "select") || (bytes_eq w (codes "where")
    || (bytes_eq w (codes "join") || (bytes_eq w (codes "on") || (bytes_eq w (codes "and") || (bytes_eq w (codes "or")
    || (bytes_eq w (codes "int") || (bytes_eq w (codes "text") || (bytes_eq w (codes "key") || (bytes_eq w (codes "fresh")
    || bytes_eq w (codes "hint"))))))))))))))))))))))))

-- a word that is not reserved
abbrev pub IsName : List ℕ → Type 0
IsName w = is_reserved w ≡ false
