-- A report as a fault tree, as far as its gates and basic events.
use Rattle.std.specs.Prelude.{ℕ, suc, nat_eq, cond, List, [], ◌∷◌, ◌++◌, map, codes}
use Rattle.std.specs.Borrow.{Bor}
use Rattle.std.specs.Fmt.{decimal}
use Rattle.xsap_reports.specs.declared.report.Report.{Report}

-- a byte among characters or in a value
abbrev pub xml_byte : ℕ → List ℕ
xml_byte b =
    cond (nat_eq b 38) (codes "&amp;")
    (cond (nat_eq b 60) (codes "&lt;") (cond (nat_eq b 62) (codes "&gt;") (cond (nat_eq b 34) (codes "&quot;") (b ∷ []))))

abbrev pub xml_text : List ℕ → List ℕ
xml_text [] = []
xml_text (b ∷ bs) = xml_byte b ++ xml_text bs

-- the basic event of a fault, by its number
unfoldable pub event_of : ℕ → List ℕ
event_of n = codes "<basic-event name=\"f" ++ (decimal n ++ codes "\"/>\n")

abbrev pub events_of : List ℕ → List ℕ
events_of [] = []
events_of (n ∷ ns) = event_of n ++ events_of ns

-- that all of these faults fail
abbrev pub all_of : List ℕ → List ℕ
all_of [] = codes "<constant value=\"true\"/>\n"
all_of (n ∷ []) = event_of n
all_of (n ∷ m ∷ ns) = codes "<and>\n" ++ (events_of (n ∷ m ∷ ns) ++ codes "</and>\n")

-- the begin and the end of the definition of a gate
unfoldable pub gate_begin : ℕ → List ℕ
gate_begin k = codes "<define-gate name=\"s" ++ (decimal k ++ codes "\">\n")

unfoldable pub gate_end : List ℕ
gate_end = codes "</define-gate>\n"

-- the gate of a set, by its number
abbrev pub set_gate : ℕ → List ℕ → List ℕ
set_gate k set = gate_begin k ++ (all_of set ++ gate_end)

-- gates, numbered from this one on
abbrev pub set_gates : ℕ → List (List ℕ) → List ℕ
set_gates k [] = []
set_gates k (set ∷ sets) = set_gate k set ++ set_gates (suc k) sets

unfoldable pub gate_of : ℕ → List ℕ
gate_of k = codes "<gate name=\"s" ++ (decimal k ++ codes "\"/>\n")

abbrev pub gates_of : ℕ → List (List ℕ) → List ℕ
gates_of k [] = []
gates_of k (set ∷ sets) = gate_of k ++ gates_of (suc k) sets

-- that some gate of these sets does, which are numbered from 1
abbrev pub any_of : List (List ℕ) → List ℕ
any_of [] = codes "<constant value=\"false\"/>\n"
any_of (set ∷ []) = gate_of 1
any_of (a ∷ b ∷ sets) = codes "<or>\n" ++ (gates_of 1 (a ∷ b ∷ sets) ++ codes "</or>\n")

-- the begin and the end of the definition of a basic event
unfoldable pub definition_begin : ℕ → List ℕ
definition_begin n = codes "<define-basic-event name=\"f" ++ (decimal n ++ codes "\">\n<label>")

unfoldable pub definition_end : List ℕ
definition_end = codes "</label>\n</define-basic-event>\n"

-- the definition of a basic event, by its number and the name of its fault
abbrev pub definition : ℕ → List ℕ → List ℕ
definition n name = definition_begin n ++ (xml_text name ++ definition_end)

-- definitions, numbered from this one on
abbrev pub definitions : ℕ → List (List ℕ) → List ℕ
definitions n [] = []
definitions n (name ∷ names) = definition n name ++ definitions (suc n) names

-- the sets of a report, by the numbers of their faults
abbrev pub set_numbers : Report → List (List ℕ)
set_numbers report = map (λ set. set.items) report.sets.items

-- the names of the faults of a report
abbrev pub fault_names : Report → List (List ℕ)
fault_names report = map (λ name. name.now) report.faults.items

-- what stands before the formula of the gate `top`, between gates and basic events, and behind these
unfoldable pub head : List ℕ
head = codes "<?xml version=\"1.0\" encoding=\"UTF-8\"?>\n<opsa-mef>\n<define-fault-tree name=\"report\">\n<define-gate name=\"top\">\n"

unfoldable pub middle : List ℕ
middle = codes "</define-fault-tree>\n<model-data>\n"

unfoldable pub end_of_events : List ℕ
end_of_events = codes "</model-data>\n"

-- the tree of a report, before this
abbrev pub tree_text : Report → List ℕ → List ℕ
tree_text report rest =
    head ++ (any_of (set_numbers report) ++ (gate_end ++ (set_gates 1 (set_numbers report)
    ++ (middle ++ (definitions 1 (fault_names report) ++ (end_of_events ++ rest))))))
