-- A report as JSON, as far as its sets.
use Rattle.std.specs.Prelude.{ℕ, ◌+◌, ◌/◌, ◌%◌, nat_eq, nat_lt, cond, List, [], ◌∷◌, ◌++◌, map, codes}
use Rattle.std.specs.Fmt.{decimal}
use Rattle.xsap_reports.specs.Reports.{is_plain, names_in}
use Rattle.xsap_reports.specs.declared.report.Report.{Report}

abbrev pub hex_digit : ℕ → ℕ
hex_digit n = cond (nat_lt n 10) (48 + n) (87 + n)

-- a byte in a string: a quote and a backslash behind a backslash, and what is not plain by its number
abbrev pub escaped_byte : ℕ → List ℕ
escaped_byte b =
    cond (nat_eq b 34) (92 ∷ 34 ∷ [])
    (cond (nat_eq b 92) (92 ∷ 92 ∷ [])
    (cond (is_plain b) (b ∷ []) (codes "\\u00" ++ hex_digit (b / 16) ∷ hex_digit (b % 16) ∷ [])))

abbrev pub escaped : List ℕ → List ℕ
escaped [] = []
escaped (b ∷ bs) = escaped_byte b ++ escaped bs

abbrev pub quoted_string : List ℕ → List ℕ
quoted_string bytes = codes "\"" ++ (escaped bytes ++ codes "\"")

-- strings, each behind a comma
abbrev pub more_strings : List (List ℕ) → List ℕ
more_strings [] = []
more_strings (s ∷ ss) = codes "," ++ (quoted_string s ++ more_strings ss)

abbrev pub strings : List (List ℕ) → List ℕ
strings [] = []
strings (s ∷ ss) = quoted_string s ++ more_strings ss

-- numbers, each behind a comma
abbrev pub more_numbers : List ℕ → List ℕ
more_numbers [] = []
more_numbers (n ∷ ns) = codes "," ++ (decimal n ++ more_numbers ns)

abbrev pub numbers : List ℕ → List ℕ
numbers [] = []
numbers (n ∷ ns) = decimal n ++ more_numbers ns

-- the object of a set, by the names and the numbers of its faults
unfoldable pub set_object : List (List ℕ) → List ℕ → List ℕ
set_object names ns = codes "{\"names\":[" ++ (strings names ++ (codes "],\"numbers\":[" ++ (numbers ns ++ codes "]}")))

-- texts, each behind a comma
abbrev pub behind_commas : List (List ℕ) → List ℕ
behind_commas [] = []
behind_commas (t ∷ ts) = codes "," ++ (t ++ behind_commas ts)

abbrev pub with_commas : List (List ℕ) → List ℕ
with_commas [] = []
with_commas (t ∷ ts) = t ++ behind_commas ts

-- the sets of a report in an object, before this
abbrev pub json_text : Report → List ℕ → List ℕ
json_text report rest =
    codes "{\"sets\":[" ++ (with_commas (map (λ set. set_object (names_in report.faults.items set.items) set.items) report.sets.items)
    ++ (codes "]" ++ rest))
