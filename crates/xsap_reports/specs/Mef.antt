-- Fault trees in the Open-PSA Model Exchange Format, as far as gates that are defined by `and`, `or`, constants, other gates and basic
-- events, nested or not, and the labels of basic events.
use Rattle.std.specs.Prelude.{ℕ, zero, suc, cond, Bool, true, false, ◌||◌, List, [], ◌∷◌, ◌++◌, map, codes, length}
use Rattle.std.specs.Str.{bytes_eq}
use Rattle.xsap_reports.specs.Xml.{Token, start, end, letters, tokens, attribute_of, behind_start}

-- sets of names: one of them fails, whole, where a gate does
abbrev pub Sets : Type 0
Sets = List (List (List ℕ))

-- each of the one with each of the other
abbrev pub with_each : List (List ℕ) → Sets → Sets
with_each a [] = []
with_each a (b ∷ bs) = (a ++ b) ∷ with_each a bs

abbrev pub both_of : Sets → Sets → Sets
both_of [] bs = []
both_of (a ∷ us) bs = with_each a bs ++ both_of us bs

-- a formula that is read: whether it is an `and`, and the sets of its arguments so far
abbrev pub Open : Type 0
Open = Bool × Sets

abbrev pub joined_with : Open → Sets → Open
joined_with (true, us) bs = (true, both_of us bs)
joined_with (false, us) bs = (false, us ++ bs)

-- the formulas that are open, the innermost first, where the innermost has one more argument
abbrev pub fed : Sets → List Open → List Open
fed bs [] = []
fed bs (f ∷ fs) = joined_with f bs ∷ fs

-- where the innermost is at its end
abbrev pub ended : List Open → List Open
ended [] = []
ended (f ∷ fs) = fed f.1 fs

abbrev pub value_of : List Open → Sets
value_of [] = []
value_of (f ∷ fs) = f.1

abbrev pub constant : List ℕ → Sets
constant word = cond (bytes_eq word (codes "true")) ([] ∷ []) []

-- the formulas behind a start tag, where gates have these sets
abbrev pub started : (List ℕ → Sets) → List ℕ → List (List ℕ × List ℕ) → List Open → List Open
started gates n us fs =
    cond (bytes_eq n (codes "and")) ((true, [] ∷ []) ∷ fs)
    (cond (bytes_eq n (codes "or")) ((false, []) ∷ fs)
    (cond (bytes_eq n (codes "basic-event")) (fed ((attribute_of (codes "name") us ∷ []) ∷ []) fs)
    (cond (bytes_eq n (codes "gate")) (fed (gates (attribute_of (codes "name") us)) fs)
    (cond (bytes_eq n (codes "constant")) (fed (constant (attribute_of (codes "value") us)) fs) fs))))

-- the sets of a gate whose definition goes on so
abbrev pub formula : (List ℕ → Sets) → List Open → List Token → Sets
formula gates fs [] = value_of fs
formula gates fs (letters t ∷ ts) = formula gates fs ts
formula gates fs (start n us ∷ ts) = formula gates (started gates n us fs) ts
formula gates fs (end n ∷ ts) =
    cond (bytes_eq n (codes "define-gate")) (value_of fs)
    (cond (bytes_eq n (codes "and") || bytes_eq n (codes "or")) (formula gates (ended fs) ts) (formula gates fs ts))

-- the sets of the gate of a name, through so many gates
abbrev pub gate_sets : ℕ → List Token → List ℕ → Sets
gate_sets zero document name = []
gate_sets (suc k) document name = formula (gate_sets k document) ((false, []) ∷ []) (behind_start (codes "define-gate") name document)

-- the characters behind the first tag `<label>`
abbrev pub label_in : List Token → List ℕ
label_in [] = []
label_in (end n ∷ ts) = label_in ts
label_in (letters t ∷ ts) = label_in ts
label_in (start n us ∷ []) = []
label_in (start n us ∷ start m bs ∷ ts) = label_in (start m bs ∷ ts)
label_in (start n us ∷ end m ∷ ts) = label_in ts
label_in (start n us ∷ letters t ∷ ts) = cond (bytes_eq n (codes "label")) t (label_in ts)

-- the label of a basic event
abbrev pub label_of : List Token → List ℕ → List ℕ
label_of document event = label_in (behind_start (codes "define-basic-event") event document)

-- the sets of the gate of a name in a text, by the labels of their basic events
abbrev pub sets_in_tree : List ℕ → List ℕ → Sets
sets_in_tree top bytes =
    map (λ set. map (label_of (tokens bytes)) set) (gate_sets (length (tokens bytes)) (tokens bytes) top)
