-- The bytes between words of texts: a space, a tab, a line feed and a carriage return.
use Rattle.std.specs.Prelude.{ℕ, nat_eq, Bool, ◌||◌}

abbrev pub is_blank : ℕ → Bool
is_blank b = nat_eq b 32 || (nat_eq b 9 || (nat_eq b 10 || nat_eq b 13))
