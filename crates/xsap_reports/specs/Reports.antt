-- What a report is made of.
use Rattle.std.specs.Prelude.{ℕ, ◌≡◌, ◌<◌, ◌≤◌, ◌-◌, nat_eq, nat_lt, Bool, true, false, ◌&&◌, List, [], ◌∷◌, Option, Some, None, map}
use Rattle.std.specs.Prelude.{length, slice_get, All}
use Rattle.std.specs.Borrow.{Bor}
use Rattle.std.specs.List.{list_all}
use Rattle.xsap_reports.specs.declared.report.Line.{Line}
use Rattle.xsap_reports.specs.declared.report.ReportMoment.{ReportMoment}
use Rattle.xsap_reports.specs.declared.report.Report.{Report}
use Rattle.xsap_reports.specs.declared.report.ReportTrace.{ReportTrace}

-- a printed ASCII character, and no space
abbrev pub is_plain : ℕ → Bool
is_plain b = nat_lt 32 b && nat_lt b 127

-- some byte, and each is plain
abbrev pub is_word : List ℕ → Bool
is_word [] = false
is_word (b ∷ bs) = list_all is_plain (b ∷ bs)

-- the name and the value are words
abbrev pub HasWords : Line → Type 0
HasWords line = (is_word line.name.now ≡ true) × (is_word line.value.now ≡ true)

-- so are those of each line of a moment
abbrev pub IsMomentOfWords : ReportMoment → Type 0
IsMomentOfWords moment = All HasWords moment.lines.items

-- and those of each moment of a trace
abbrev pub IsTraceOfWords : ReportTrace → Type 0
IsTraceOfWords trace = All IsMomentOfWords trace.moments.items

-- a line feed
abbrev pub is_feed : ℕ → Bool
is_feed byte = nat_eq byte 10

-- a number from 1 up to so many
abbrev pub IsListed : ℕ → ℕ → Type 0
IsListed many n = (0 < n) × (n ≤ many)

-- the name, where there is one
abbrev pub name_or_none : Option (Bor (List ℕ)) → List ℕ
name_or_none None = []
name_or_none (Some name) = name.now

-- the name of the fault of a number, from 1
abbrev pub name_at : List (Bor (List ℕ)) → ℕ → List ℕ
name_at names n = name_or_none (slice_get names (n - 1))

-- the names of the faults of these numbers
abbrev pub names_in : List (Bor (List ℕ)) → List ℕ → List (List ℕ)
names_in names numbers = map (name_at names) numbers

-- the sets of a report, by the names of their faults
abbrev pub set_names : Report → List (List (List ℕ))
set_names report = map (λ set. names_in report.faults.items set.items) report.sets.items

-- each name is a word, and each set has numbers of listed faults alone
abbrev pub HasNames : Report → Type 0
HasNames report =
    All (λ name. is_word name.now ≡ true) report.faults.items
    × All (λ set. All (IsListed (length report.faults.items)) set.items) report.sets.items
