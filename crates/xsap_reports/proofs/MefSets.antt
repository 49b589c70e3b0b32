-- The gates and labels that a reader looks up in the tokens of a tree, and the sets that come of them.
use Rattle.std.proofs.Common.{◌≡◌, ℕ, zero, suc, ◌+◌, ◌-◌, ◌<◌, ◌≤◌, ◌^◌, Bool, true, false, List, [], ◌∷◌, ◌++◌, length, refl, sym, ◌∙◌, ap, arith, codes}
use Rattle.std.specs.Borrow.{Bor}
use Rattle.std.specs.Prelude.{cond, nat_eq, ◌&&◌, map, slice_get, All}
use Rattle.std.specs.Fmt.{decimal}
use Rattle.std.specs.List.{AllByRecursion}
use Rattle.std.specs.Str.{bytes_eq}
use Rattle.std.proofs.lemmas.Fmt.{decimal_injective}
use Rattle.std.proofs.lemmas.List.{append_assoc, append-nil, length-map}
use Rattle.std.proofs.lemmas.List.Elements.{recursion_from_All}
use Rattle.std.proofs.lemmas.Slice.Eq.{bytes_eq-Decides}
use Rattle.xsap_reports.proofs.MefLaws.{line, nl, event, gate, named, events_tokens, all_tokens, set_gate_tokens, set_gates_tokens, gates_tokens, any_tokens, definitions_tokens, events_part, document, text_lexed}
use Rattle.xsap_reports.specs.Mef.{Sets, Open, formula, gate_sets, label_in, label_of, sets_in_tree}
use Rattle.xsap_reports.specs.MefText.{set_numbers, fault_names, tree_text}
use Rattle.xsap_reports.specs.Reports.{IsListed, HasNames, name_at, name_or_none, names_in, set_names}
use Rattle.xsap_reports.specs.Xml.{Token, start, end, letters, tokens, behind_start}
use Rattle.xsap_reports.specs.declared.report.Report.{Report}
use Rattle.std.proofs.lemmas.Bool.{false_from_ne_true}
use Rattle.base_values.proofs.ListLaws.{same_bytes}

-- names of gates and of events are as different as their numbers

tail_same : (c : ℕ) (xs ys : List ℕ) → c ∷ xs ≡ c ∷ ys → xs ≡ ys
tail_same c xs ys e = cc

passed : (c j k : ℕ) → j < k → k < 2 ^ 64 → bytes_eq (c ∷ decimal j) (c ∷ decimal k) ≡ false
passed c j k less bound = false_from_ne_true (bytes_eq (c ∷ decimal j) (c ∷ decimal k)) (λ e.
    let texts : decimal j ≡ decimal k = tail_same c (decimal j) (decimal k) ((bytes_eq-Decides (c ∷ decimal j) (c ∷ decimal k)).0 e) in
    let numbers : j ≡ k = decimal_injective j k (omega (arith, less, bound)) bound texts in
    omega (arith, less, numbers))

chosen : {X : Type 0} (t : Bool) (A B : X) → t ≡ true → cond t A B ≡ A
chosen true A B e = refl
chosen false A B e = cc

other : {X : Type 0} (t : Bool) (A B : X) → t ≡ false → cond t A B ≡ B
other true A B e = cc
other false A B e = refl

-- what a search passes over

abbrev element : Bool → List ℕ
element true = codes "define-gate"
element false = codes "define-basic-event"

skip_events : (t : Bool) (name ns : List ℕ) (ts : List Token) → behind_start (element t) name (events_tokens ns ts) ≡ behind_start (element t) name ts
skip_events true name [] ts = refl
skip_events false name [] ts = refl
skip_events true name (n ∷ ns) ts = skip_events true name ns ts
skip_events false name (n ∷ ns) ts = skip_events false name ns ts

skip_all : (t : Bool) (name set : List ℕ) (ts : List Token) → behind_start (element t) name (all_tokens set ts) ≡ behind_start (element t) name ts
skip_all true name [] ts = refl
skip_all false name [] ts = refl
skip_all true name (n ∷ []) ts = refl
skip_all false name (n ∷ []) ts = refl
skip_all true name (n ∷ m ∷ ns) ts = skip_events true name ns (nl ∷ end (codes "and") ∷ ts)
skip_all false name (n ∷ m ∷ ns) ts = skip_events false name ns (nl ∷ end (codes "and") ∷ ts)

skip_gates : (t : Bool) (k : ℕ) (name : List ℕ) (sets : List (List ℕ)) (ts : List Token) → behind_start (element t) name (gates_tokens k sets ts) ≡ behind_start (element t) name ts
skip_gates true k name [] ts = refl
skip_gates false k name [] ts = refl
skip_gates true k name (set ∷ sets) ts = skip_gates true (suc k) name sets ts
skip_gates false k name (set ∷ sets) ts = skip_gates false (suc k) name sets ts

skip_any : (t : Bool) (name : List ℕ) (sets : List (List ℕ)) (ts : List Token) → behind_start (element t) name (any_tokens sets ts) ≡ behind_start (element t) name ts
skip_any true name [] ts = refl
skip_any false name [] ts = refl
skip_any true name (a ∷ []) ts = refl
skip_any false name (a ∷ []) ts = refl
skip_any true name (a ∷ b ∷ sets) ts = skip_gates true 3 name sets (nl ∷ end (codes "or") ∷ ts)
skip_any false name (a ∷ b ∷ sets) ts = skip_gates false 3 name sets (nl ∷ end (codes "or") ∷ ts)

skip_set_gates : (k : ℕ) (name : List ℕ) (sets : List (List ℕ)) (ts : List Token) →
    behind_start (codes "define-basic-event") name (set_gates_tokens k sets ts) ≡ behind_start (codes "define-basic-event") name ts
skip_set_gates k name [] ts = refl
skip_set_gates k name (set ∷ sets) ts =
    skip_all false name set (nl ∷ end (codes "define-gate") ∷ set_gates_tokens (suc k) sets ts) ∙ skip_set_gates (suc k) name sets ts

skip_set_gate : (j : ℕ) (set : List ℕ) (name : List ℕ) (ts : List Token) → bytes_eq (gate j) name ≡ false →
    behind_start (codes "define-gate") name (set_gate_tokens j set ts) ≡ behind_start (codes "define-gate") name ts
skip_set_gate j set name ts e =
    other (bytes_eq (gate j) name) (all_tokens set (nl ∷ end (codes "define-gate") ∷ ts)) (behind_start (codes "define-gate") name (all_tokens set (nl ∷ end (codes "define-gate") ∷ ts))) e
    ∙ skip_all true name set (nl ∷ end (codes "define-gate") ∷ ts)

-- the sets of the gate of a set

abbrev events : List ℕ → List (List ℕ)
events ns = map event ns

events_fed : (gates : List ℕ → Sets) (ns : List ℕ) (a : List (List ℕ)) (fs : List Open) (ts : List Token) →
    formula gates ((true, a ∷ []) ∷ fs) (events_tokens ns ts) ≡ formula gates ((true, (a ++ events ns) ∷ []) ∷ fs) ts
events_fed gates [] a fs ts = ap (λ b. formula gates ((true, b ∷ []) ∷ fs) ts) (sym (append-nil a))
events_fed gates (n ∷ ns) a fs ts =
    events_fed gates ns (a ++ event n ∷ []) fs ts
    ∙ ap (λ b. formula gates ((true, b ∷ []) ∷ fs) ts) (append_assoc a (event n ∷ []) (events ns))

set_formula : (gates : List ℕ → Sets) (set : List ℕ) (ts : List Token) →
    formula gates ((false, []) ∷ []) (all_tokens set (nl ∷ end (codes "define-gate") ∷ ts)) ≡ events set ∷ []
set_formula gates [] ts = refl
set_formula gates (n ∷ []) ts = refl
set_formula gates (n ∷ m ∷ ns) ts = events_fed gates (n ∷ m ∷ ns) [] ((false, []) ∷ []) (nl ∷ end (codes "and") ∷ nl ∷ end (codes "define-gate") ∷ ts)

-- the sets of the gate of all sets

abbrev GatesAre : (List ℕ → Sets) → ℕ → List (List ℕ) → Type 0
GatesAre gates k [] = Unit {0}
GatesAre gates k (set ∷ sets) = (gates (gate k) ≡ events set ∷ []) × GatesAre gates (suc k) sets

gates_fed : (gates : List ℕ → Sets) (k : ℕ) (sets : List (List ℕ)) (us : Sets) (fs : List Open) (ts : List Token) → GatesAre gates k sets →
    formula gates ((false, us) ∷ fs) (gates_tokens k sets ts) ≡ formula gates ((false, us ++ map events sets) ∷ fs) ts
gates_fed gates k [] us fs ts h = ap (λ b. formula gates ((false, b) ∷ fs) ts) (sym (append-nil us))
gates_fed gates k (set ∷ sets) us fs ts h =
    ap (λ v. formula gates ((false, us ++ v) ∷ fs) (gates_tokens (suc k) sets ts)) h.0
    ∙ (gates_fed gates (suc k) sets (us ++ events set ∷ []) fs ts h.1
    ∙ ap (λ b. formula gates ((false, b) ∷ fs) ts) (append_assoc us (events set ∷ []) (map events sets)))

any_formula : (gates : List ℕ → Sets) (sets : List (List ℕ)) (ts : List Token) → GatesAre gates 1 sets →
    formula gates ((false, []) ∷ []) (any_tokens sets (nl ∷ end (codes "define-gate") ∷ ts)) ≡ map events sets
any_formula gates [] ts h = refl
any_formula gates (set ∷ []) ts h = h.0
any_formula gates (a ∷ b ∷ sets) ts h =
    gates_fed gates 1 (a ∷ b ∷ sets) [] ((false, []) ∷ []) (nl ∷ end (codes "or") ∷ nl ∷ end (codes "define-gate") ∷ ts) h

gates_are : (d j : ℕ) (sets : List (List ℕ)) (whole ts : List Token) → j + length sets ≤ 2 ^ 64 →
    ((k : ℕ) → j ≤ k → k < 2 ^ 64 → behind_start (codes "define-gate") (gate k) whole ≡ behind_start (codes "define-gate") (gate k) (set_gates_tokens j sets ts)) →
    GatesAre (gate_sets (suc d) whole) j sets
gates_are d j [] whole ts bound h = tt
gates_are d j (set ∷ sets) whole ts bound h =
    let more : List Token = set_gates_tokens (suc j) sets ts in
    let body : List Token = all_tokens set (nl ∷ end (codes "define-gate") ∷ more) in
    let here : behind_start (codes "define-gate") (gate j) whole ≡ body
    = h j (omega arith) (omega (arith, bound))
    ∙ chosen (bytes_eq (gate j) (gate j)) body (behind_start (codes "define-gate") (gate j) body) (same_bytes (gate j) (gate j) refl) in (
      ap (λ b. formula (gate_sets d whole) ((false, []) ∷ []) b) here ∙ set_formula (gate_sets d whole) set more,
      gates_are d (suc j) sets whole ts (omega (arith, bound)) (λ k least most.
          h k (omega (arith, least)) most ∙ skip_set_gate j set (gate k) more (passed 115 j k (omega (arith, least)) most)),
    )

gates_of_document : (d : ℕ) (sets names : List (List ℕ)) (ts : List Token) → 1 + length sets ≤ 2 ^ 64 → GatesAre (gate_sets (suc d) (document sets names ts)) 1 sets
gates_of_document d sets names ts bound =
    gates_are d 1 sets (document sets names ts) (events_part names ts) bound (λ k least most.
    skip_any true (gate k) sets (nl ∷ end (codes "define-gate") ∷ set_gates_tokens 1 sets (events_part names ts)))

-- the labels of events

label_found : (names : List (Bor (List ℕ))) (i j k : ℕ) (ts : List Token) → j + i ≡ k → i < length names → k < 2 ^ 64 →
    label_in (behind_start (codes "define-basic-event") (event k) (definitions_tokens j (map (λ name. name.now) names) ts)) ≡ name_or_none (slice_get names i)
label_found [] i j k ts e less most = let none : ⊥ = omega (arith, less) in absurd none
label_found (name ∷ names) zero j k ts e less most =
    let more : List Token = definitions_tokens (suc j) (map (λ it. it.now) names) ts in
    let body : List Token = nl ∷ start (codes "label") [] ∷ letters name.now ∷ end (codes "label") ∷ nl ∷ end (codes "define-basic-event") ∷ more in
    let same : j ≡ k = omega (arith, e) in
    ap label_in (chosen (bytes_eq (event j) (event k)) body (behind_start (codes "define-basic-event") (event k) body) (same_bytes (event j) (event k) (ap event same)))
label_found (name ∷ names) (suc i) j k ts e less most =
    let more : List Token = definitions_tokens (suc j) (map (λ it. it.now) names) ts in
    let body : List Token = nl ∷ start (codes "label") [] ∷ letters name.now ∷ end (codes "label") ∷ nl ∷ end (codes "define-basic-event") ∷ more in
    ap label_in (other (bytes_eq (event j) (event k)) body (behind_start (codes "define-basic-event") (event k) body) (passed 102 j k (omega (arith, e)) most))
    ∙ label_found names i (suc j) k ts (omega (arith, e)) (omega (arith, less)) most

label_is : (report : Report) (ts : List Token) (n : ℕ) → length report.faults.items < 2 ^ 64 → IsListed (length report.faults.items) n →
    label_of (document (set_numbers report) (fault_names report) ts) (event n) ≡ name_at report.faults.items n
label_is report ts n bound listed =
    let sets : List (List ℕ) = set_numbers report in
    let last : List Token = nl ∷ end (codes "model-data") ∷ ts in
    let part : List Token = events_part (fault_names report) ts in
    ap label_in (skip_any false (event n) sets (nl ∷ end (codes "define-gate") ∷ set_gates_tokens 1 sets part) ∙ skip_set_gates 1 (event n) sets part)
    ∙ label_found report.faults.items (n - 1) 1 n last (omega (arith, listed.0)) (omega (arith, listed.0, listed.1)) (omega (arith, listed.1, bound))

-- and so the sets by their names

labels_are : (report : Report) (ts : List Token) (ns : List ℕ) → length report.faults.items < 2 ^ 64 → AllByRecursion (IsListed (length report.faults.items)) ns →
    map (label_of (document (set_numbers report) (fault_names report) ts)) (events ns) ≡ names_in report.faults.items ns
labels_are report ts [] bound h = refl
labels_are report ts (n ∷ ns) bound h =
    ap (λ name. name ∷ map (label_of (document (set_numbers report) (fault_names report) ts)) (events ns)) (label_is report ts n bound h.0)
    ∙ ap (λ names. name_at report.faults.items n ∷ names) (labels_are report ts ns bound h.1)

all_labels_are : {X : Type 0} (items : X → List ℕ) (report : Report) (ts : List Token) (sets : List X) → length report.faults.items < 2 ^ 64 →
    AllByRecursion (λ set. All (IsListed (length report.faults.items)) (items set)) sets →
    map (λ set. map (label_of (document (set_numbers report) (fault_names report) ts)) set) (map events (map items sets)) ≡ map (λ set. names_in report.faults.items (items set)) sets
all_labels_are items report ts [] bound h = refl
all_labels_are items report ts (set ∷ sets) bound h =
    ap (λ s. s ∷ map (λ set. map (label_of (document (set_numbers report) (fault_names report) ts)) set) (map events (map items sets)))
    (labels_are report ts (items set) bound (recursion_from_All (IsListed (length report.faults.items)) (items set) h.0))
    ∙ ap (λ ss. names_in report.faults.items (items set) ∷ ss) (all_labels_are items report ts sets bound h.1)

abbrev sets_of : List Token → Sets
sets_of whole = map (λ set. map (label_of whole) set) (gate_sets (length whole) whole (codes "top"))

abbrev rest_of : List Token → List Token
rest_of [] = []
rest_of (t ∷ ts) = ts

abbrev deep : List Token → ℕ
deep whole = length (rest_of (rest_of whole))

document_sets : (report : Report) (ts : List Token) → length report.faults.items < 2 ^ 64 → length report.sets.items < 2 ^ 64 → HasNames report →
    sets_of (document (set_numbers report) (fault_names report) ts) ≡ set_names report
document_sets report ts some few named =
    let sets : List (List ℕ) = set_numbers report in
    let names : List (List ℕ) = fault_names report in
    let whole : List Token = document sets names ts in
    let same : length sets ≡ length report.sets.items = length-map report.sets.items (λ set. set.items) in
    let bound : 1 + length sets ≤ 2 ^ 64 = omega (arith, same, few) in
    ap (λ found. map (λ set. map (label_of whole) set) found)
    (any_formula (gate_sets (suc (deep whole)) whole) sets (set_gates_tokens 1 sets (events_part names ts)) (gates_of_document (deep whole) sets names ts bound))
    ∙ all_labels_are (λ set. set.items) report ts report.sets.items some
    (recursion_from_All (λ set. All (IsListed (length report.faults.items)) set.items) report.sets.items named.1)

pub tree_back : (report : Report) (rest : List ℕ) → length report.faults.items < 2 ^ 64 → length report.sets.items < 2 ^ 64 → HasNames report →
    sets_in_tree (codes "top") (tree_text report rest) ≡ set_names report
tree_back report rest some few named = ap sets_of (text_lexed report rest) ∙ document_sets report (line rest) some few named
