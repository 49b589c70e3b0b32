-- What a variable of a domain becomes, as the domain tells it: a symbol by its number.
use Rattle.std.specs.Prelude.{ℕ, ◌+◌, ◌^◌, min, pos, false, Option, Some, None, List, [], ◌∷◌, map}
use Rattle.base_values.specs.declared.domain.Domain.{Domain}
use Rattle.base_values.specs.declared.domain.Domain.TheVariants as domain
use Rattle.smv_language.specs.Scope.{Role}
use Rattle.smv_type_laws.specs.Intervals.{Interval}
use Rattle.smv_type_laws.specs.Costs.{width_in, role_width}
use Rattle.smv_types.specs.Types.{spread}
use Rattle.sat_clauses.specs.Literal.{Literal, plain}
use Rattle.sat_circuits.specs.Circuit.{Circuit, after}
use Rattle.sat_circuits.specs.Gates.{constant_lit, or_gate}
use Rattle.sat_circuits.specs.Words.{fit}
use Rattle.sat_circuits.specs.Numbers.{number_word}
use Rattle.sat_encoding_laws.specs.Widths.{word_width}
use Rattle.sat_encoding_laws.specs.Signals.{Signal, bit, word, word_in, same_gates, between_gates}
use Rattle.sat_encoding_laws.specs.Layout.{number_signal, width_as_input}
use Rattle.sat_encoding_laws.specs.Lists.{asserted}
use Rattle.sat_encoding.specs.declared.layout.Places.{Places}

-- the least and the greatest number of a domain; truth values have none
abbrev pub domain_interval : Domain → Option Interval
domain_interval domain.Boolean = None
domain_interval (domain.Range lo hi) = Some (record { lo = lo; hi = hi })
domain_interval (domain.Numbers ns) = spread None ns
domain_interval (domain.Symbols is) = spread None (map pos is)

-- the bits of a variable of the domain
abbrev pub domain_width : Domain → ℕ
domain_width domain.Boolean = 1
domain_width d = width_in (domain_interval d)

-- the width of the word of a domain's values, where that of a symbol is given
abbrev pub value_width : ℕ → Domain → Interval → ℕ
value_width symbols (domain.Symbols is) i = symbols
value_width symbols d i = word_width i

-- the signal of numbers between these ends whose bits begin at n, and of truth values
abbrev pub ends_signal : ℕ → Domain → ℕ → Option Interval → Signal
ends_signal symbols d n (Some i) = number_signal (value_width symbols d i) (Some i) n
ends_signal symbols d n None = bit (plain n)

-- the signal of a variable of the domain whose bits begin at n
abbrev pub domain_signal : ℕ → Domain → ℕ → Signal
domain_signal symbols d n = ends_signal symbols d n (domain_interval d)

-- where the bits of the next variables begin, after one of this role and width
abbrev pub places_after : Places → Role → ℕ → Places
places_after p r n = record { state = p.state + role_width r n; input = p.input + width_as_input r n }

-- a place, where all that are past those of any variable are one
abbrev pub capped : ℕ → ℕ
capped n = min n (2 ^ 62)

-- whether the literal is TRUE or the signal has the value of one of the words
unfoldable pub some_gates : Signal → List (List Literal) → Literal → Circuit → Circuit × Literal
some_gates e [] r s = (s, r)
some_gates e (w ∷ ws) r s = after (same_gates e (word w) s) (λ x t. after (or_gate r x t) (λ q u. some_gates e ws q u))

-- what was built holds
abbrev pub asserted_literal : Circuit × Literal → Circuit
asserted_literal r = asserted r.1 r.0

-- the words of symbols by their numbers, at a width
abbrev pub symbol_word : ℕ → ℕ → List Literal
symbol_word symbols i = fit symbols (number_word (pos i))

-- the signal has a value of the domain, which a boolean has anyway
abbrev pub domain_gates : ℕ → Domain → Signal → Circuit → Circuit
domain_gates symbols domain.Boolean e s = s
domain_gates symbols (domain.Range lo hi) e s = asserted_literal (between_gates (word_in e) lo hi s)
domain_gates symbols (domain.Numbers ns) e s = asserted_literal (some_gates e (map number_word ns) (constant_lit false) s)
domain_gates symbols (domain.Symbols is) e s = asserted_literal (some_gates e (map (symbol_word symbols) is) (constant_lit false) s)
