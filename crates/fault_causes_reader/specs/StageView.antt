-- What the code keeps of causes that it reads, as the recogniser's stages, and how far it reads.
use Rattle.std.specs.Prelude.{◌≡◌, ◌+◌, ◌<◌, Bool, true, false, List, Option, Some, None, length, take, map, option_map}
use Rattle.smv_language.specs.Lexemes.{Lexeme}
use Rattle.smv_expression_reader.specs.declared.reading.ReadExtent.{ReadExtent}
use Rattle.smv_expression_reader.specs.declared.reading.ReadExtent.TheVariants as reading
use Rattle.fault_cause_laws.specs.CausesText.{WrittenCause}
use Rattle.fault_causes_reader.specs.declared.step.CauseState.{CauseState}
use Rattle.fault_causes_reader.specs.declared.step.CauseState.TheVariants as s
use Rattle.fault_causes_reader.specs.declared.written.Written.{Written}
use Rattle.fault_causes_reader.specs.CauseStages.{Stage, start, named, within, first, dots, last, strikes, part, after, ReadSoFar, so_far}
use Rattle.fault_causes_reader.specs.CauseStages.{keep, read_of}

-- the written cause in memory as the definitions see it
abbrev pub written_tree : Written → WrittenCause
written_tree c = record { name = c.name; from = c.from; to = c.to; strikes = c.strikes }

-- written causes in memory as the definitions see them
abbrev pub written_trees : List Written → List WrittenCause
written_trees cs = map written_tree cs

-- the code's state as the definitions see it
abbrev pub stage_of : CauseState → Stage
stage_of s.Start = start
stage_of s.Named = named
stage_of (s.Within x) = within x
stage_of (s.From x) = first x
stage_of (s.Dots x a) = dots x a
stage_of (s.To x a) = last x a
stage_of (s.Strikes h) = strikes h.name h.from h.to
stage_of (s.Part h done path) = part h.name h.from h.to done path
stage_of (s.After h done path) = after h.name h.from h.to done path

-- what is read so far, where it goes on
abbrev pub read_view : Option CauseState → List Written → Option ReadSoFar
read_view o cs = keep (written_trees cs) (option_map stage_of o)

-- reading may end here
abbrev pub is_start : Stage → Bool
is_start start = true
is_start _ = false

-- how reading ends where the lexemes do
abbrev pub reading_at : Bool → ReadExtent
reading_at true = reading.Whole
reading_at false = reading.Unfinished

-- something is read
abbrev pub Goes : Option ReadSoFar → Type 0
Goes o = (r : ReadSoFar) × (o ≡ Some r)

-- how far the lexemes can be read, with the causes that they then are
abbrev pub ReadsTo : List Lexeme → List WrittenCause → ReadExtent → Type 0
ReadsTo ts cs reading.Whole = read_of ts ≡ Some (so_far start cs)
ReadsTo ts cs reading.Unfinished = (r : ReadSoFar) × (read_of ts ≡ Some r) × (is_start r.stage ≡ false)
ReadsTo ts cs (reading.Stopped i) = (i < length ts) × Goes (read_of (take i ts)) × (read_of (take (i + 1) ts) ≡ None)
