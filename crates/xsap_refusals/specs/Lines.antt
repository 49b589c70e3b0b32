-- Lines of a file, and where a byte stands in them.
use Rattle.std.specs.Prelude.{ℕ, ◌+◌, ◌<◌, ◌≡◌, ◌==◌, Bool, List, take, drop, length, count_by, reverse}
use Rattle.std.specs.List.{position}
use Rattle.std.specs.Option.{unwrap_or}

-- this byte is a line feed
abbrev pub is_feed : ℕ → Bool
is_feed byte = byte == 10

-- how many line feeds stand before a place
abbrev pub feeds_before : List ℕ → ℕ → ℕ
feeds_before bytes at = count_by is_feed (take at bytes)

-- how many bytes stand before the first line feed
abbrev pub until_feed : List ℕ → ℕ
until_feed bytes = unwrap_or (position is_feed bytes) (length bytes)

-- how many bytes stand behind the last line feed
abbrev pub since_feed : List ℕ → ℕ
since_feed bytes = unwrap_or (position is_feed (reverse bytes)) (length bytes)

-- how far a place is behind the last line feed before it, or behind the beginning
abbrev pub from_feed : List ℕ → ℕ → ℕ
from_feed bytes at = since_feed (take at bytes)

-- how far it is from a place to the next line feed, or to the end
abbrev pub to_feed : List ℕ → ℕ → ℕ
to_feed bytes at = until_feed (drop at bytes)

-- no byte stands in the line of this number, from 1
abbrev pub HasNoLine : List ℕ → ℕ → Type 0
HasNoLine bytes number = (at : ℕ) → at < length bytes → feeds_before bytes at + 1 ≡ number → ⊥
