-- What the calls build: signals and circuits, as the definitions of encoding have them.
use Rattle.std.specs.Prelude.{◌≡◌, ◌<◌, ◌≤◌, List, length, map}
use Rattle.sat_clauses.specs.Literal.{Literal}
use Rattle.sat_clauses.specs.Models.{IsBelow}
use Rattle.sat_circuits.specs.Circuit.{Circuit}
use Rattle.sat_encoding_laws.specs.Signals.{Signal, bit, word}
use Rattle.sat_encoding_laws.specs.Meanings.{IsSignal}
use Rattle.sat_expressions.specs.declared.signal.Signal.{Signal as Built}
use Rattle.sat_expressions.specs.declared.signal.Signal.TheVariants.{Bit, Word}

-- a signal of the code
abbrev pub signal_of : Built → Signal
signal_of (Bit l) = bit l
signal_of (Word w) = word w

-- the signals of a list
abbrev pub signals_of : List Built → List Signal
signals_of es = map signal_of es

-- a word has a literal, its sign
abbrev pub IsSigned : Signal → Type 0
IsSigned (bit l) = Unit {0}
IsSigned (word w) = 0 < length w

-- r, which was built onto s, is t with a literal that may be used there
pub record BuildsLiteral (s : Circuit) (r : Circuit × Literal) (t : Circuit) (l : Literal) : Type 0 where
  pub exact : r ≡ (t, l)
  pub below : IsBelow t.free l
  pub grows : s.free ≤ t.free

-- r, which was built onto s, is t with a signal that may be used there
pub record BuildsSignal (s : Circuit) (r : Circuit × Signal) (t : Circuit) (e : Built) : Type 0 where
  pub exact : r ≡ (t, signal_of e)
  pub usable : IsSignal t (signal_of e)
  pub grows : s.free ≤ t.free
