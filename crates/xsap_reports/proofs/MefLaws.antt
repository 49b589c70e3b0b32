-- What a reader of fault trees finds in the tree of a report are its sets.
use Rattle.std.proofs.Common.{◌≡◌, ℕ, zero, suc, ◌+◌, ◌-◌, ◌<◌, ◌≤◌, ◌^◌, Bool, true, false, List, [], ◌∷◌, ◌++◌, length, refl, sym, ◌∙◌, ap, arith, codes}
use Rattle.std.specs.Prelude.{cond, nat_eq, ◌||◌, ◌&&◌, map, slice_get, All}
use Rattle.std.specs.Fmt.{decimal}
use Rattle.std.specs.List.{list_any}
use Rattle.std.proofs.lemmas.Bool.{or_parts}
use Rattle.std.proofs.lemmas.List.{append_assoc, append-nil}
use Rattle.xsap_reports.proofs.CsvLaws.{or_false, apart, decimal_lacks, same}
use Rattle.xsap_reports.specs.MefText.{xml_byte, xml_text, event_of, events_of, all_of, set_gate, set_gates, gate_begin, gate_end, gate_of, gates_of, any_of, definition_begin, definition_end, definition, definitions, head, middle, end_of_events, set_numbers, fault_names, tree_text}
use Rattle.xsap_reports.specs.Xml.{Token, start, end, letters, outside, opening, value, tokens_from, tokens}
use Rattle.xsap_reports.specs.declared.report.Report.{Report}

-- numbers in a value

abbrev ends_value : ℕ → Bool
ends_value b = nat_eq b 34 || nat_eq b 38

above : (c : ℕ) → 44 < c → ends_value c ≡ false
above c high = or_false (nat_eq c 34) (nat_eq c 38) (apart c 34 (omega (arith, high))) (apart c 38 (omega (arith, high)))

pass_by : {X : Type 0} (p q : Bool) (A B C : X) → (p || q) ≡ false → cond p A (cond q B C) ≡ C
pass_by true q A B C e = cc
pass_by false true A B C e = cc
pass_by false false A B C e = refl

value_run : (x v n a rest : List ℕ) → list_any ends_value x ≡ false → tokens_from (value n [] a) v (x ++ rest) ≡ tokens_from (value n [] a) (v ++ x) rest
value_run [] v n a rest h = ap (λ w. tokens_from (value n [] a) w rest) (sym (append-nil v))
value_run (b ∷ x) v n a rest h =
    pass_by (nat_eq b 34) (nat_eq b 38) _ _ (tokens_from (value n [] a) (v ++ b ∷ []) (x ++ rest)) (or_parts (ends_value b) (list_any ends_value x) h).0
    ∙ (value_run x (v ++ b ∷ []) n a rest (or_parts (ends_value b) (list_any ends_value x) h).1
    ∙ ap (λ w. tokens_from (value n [] a) w rest) (append_assoc v (b ∷ []) x))

number_run : (k : ℕ) (v n a rest : List ℕ) → tokens_from (value n [] a) v (decimal k ++ rest) ≡ tokens_from (value n [] a) (v ++ decimal k) rest
number_run k v n a rest = value_run (decimal k) v n a rest (decimal_lacks ends_value above k)

-- characters

character_by : (p q r s : Bool) (b : ℕ) (t rest : List ℕ) → nat_eq b 38 ≡ p → nat_eq b 60 ≡ q → nat_eq b 62 ≡ r → nat_eq b 34 ≡ s →
    tokens_from outside t (cond p (codes "&amp;") (cond q (codes "&lt;") (cond r (codes "&gt;") (cond s (codes "&quot;") (b ∷ [])))) ++ rest)
    ≡ tokens_from outside (t ++ b ∷ []) rest
character_by true q r s b t rest e f g h = ap (λ c. tokens_from outside (t ++ c ∷ []) rest) (same b 38 e)
character_by false true r s b t rest e f g h = ap (λ c. tokens_from outside (t ++ c ∷ []) rest) (same b 60 f)
character_by false false true s b t rest e f g h = ap (λ c. tokens_from outside (t ++ c ∷ []) rest) (same b 62 g)
character_by false false false true b t rest e f g h = ap (λ c. tokens_from outside (t ++ c ∷ []) rest) (same b 34 h)
character_by false false false false b t rest e f g h =
    pass_by (nat_eq b 60) (nat_eq b 38) _ _ (tokens_from outside (t ++ b ∷ []) rest) (or_false (nat_eq b 60) (nat_eq b 38) f e)

characters_run : (x t rest : List ℕ) → tokens_from outside t (xml_text x ++ 60 ∷ rest) ≡ letters (t ++ x) ∷ tokens_from opening [] rest
characters_run [] t rest = ap (λ s. letters s ∷ tokens_from opening [] rest) (sym (append-nil t))
characters_run (b ∷ x) t rest =
    ap (λ s. tokens_from outside t s) (append_assoc (xml_byte b) (xml_text x) (60 ∷ rest))
    ∙ (character_by (nat_eq b 38) (nat_eq b 60) (nat_eq b 62) (nat_eq b 34) b t (xml_text x ++ 60 ∷ rest) refl refl refl refl
    ∙ (characters_run x (t ++ b ∷ []) rest
    ∙ ap (λ s. letters s ∷ tokens_from opening [] rest) (append_assoc t (b ∷ []) x)))

-- tokens behind the end of a line

abbrev pub line : List ℕ → List Token
line rest = tokens_from outside (10 ∷ []) rest

abbrev pub nl : Token
nl = letters (10 ∷ [])

-- the names of basic events and gates, as the only attribute
abbrev pub event : ℕ → List ℕ
event n = 102 ∷ decimal n

abbrev pub gate : ℕ → List ℕ
gate k = 115 ∷ decimal k

abbrev pub named : List ℕ → List (List ℕ × List ℕ)
named name = (codes "name", name) ∷ []

abbrev pub events_tokens : List ℕ → List Token → List Token
events_tokens [] ts = ts
events_tokens (n ∷ ns) ts = nl ∷ start (codes "basic-event") (named (event n)) ∷ end (codes "basic-event") ∷ events_tokens ns ts

event_lexed : (n : ℕ) (rest : List ℕ) → line (event_of n ++ rest) ≡ events_tokens (n ∷ []) (line rest)
unfolding event_of
event_lexed n rest =
    ap (λ s. nl ∷ tokens_from (value (codes "basic-event") [] (codes "name")) (102 ∷ []) s) (append_assoc (decimal n) (codes "\"/>\n") rest)
    ∙ ap (λ ts. nl ∷ ts) (number_run n (102 ∷ []) (codes "basic-event") (codes "name") (codes "\"/>\n" ++ rest))

events_lexed : (ns rest : List ℕ) → line (events_of ns ++ rest) ≡ events_tokens ns (line rest)
events_lexed [] rest = refl
events_lexed (n ∷ ns) rest =
    ap line (append_assoc (event_of n) (events_of ns) rest)
    ∙ (event_lexed n (events_of ns ++ rest) ∙ ap (λ ts. events_tokens (n ∷ []) ts) (events_lexed ns rest))

abbrev pub all_tokens : List ℕ → List Token → List Token
all_tokens [] ts = nl ∷ start (codes "constant") ((codes "value", codes "true") ∷ []) ∷ end (codes "constant") ∷ ts
all_tokens (n ∷ []) ts = events_tokens (n ∷ []) ts
all_tokens (n ∷ m ∷ ns) ts = nl ∷ start (codes "and") [] ∷ events_tokens (n ∷ m ∷ ns) (nl ∷ end (codes "and") ∷ ts)

all_lexed : (set rest : List ℕ) → line (all_of set ++ rest) ≡ all_tokens set (line rest)
all_lexed [] rest = refl
all_lexed (n ∷ []) rest = event_lexed n rest
all_lexed (n ∷ m ∷ ns) rest =
    ap (λ s. nl ∷ start (codes "and") [] ∷ line s) (append_assoc (events_of (n ∷ m ∷ ns)) (codes "</and>\n") rest)
    ∙ ap (λ ts. nl ∷ start (codes "and") [] ∷ ts) (events_lexed (n ∷ m ∷ ns) (codes "</and>\n" ++ rest))

abbrev pub set_gate_tokens : ℕ → List ℕ → List Token → List Token
set_gate_tokens k set ts = nl ∷ start (codes "define-gate") (named (gate k)) ∷ all_tokens set (nl ∷ end (codes "define-gate") ∷ ts)

set_gate_lexed : (k : ℕ) (set rest : List ℕ) → line (set_gate k set ++ rest) ≡ set_gate_tokens k set (line rest)
unfolding gate_begin gate_end
set_gate_lexed k set rest =
    let last : List ℕ = all_of set ++ gate_end in
    ap line (append_assoc (gate_begin k) last rest)
    ∙ (ap (λ s. nl ∷ tokens_from (value (codes "define-gate") [] (codes "name")) (115 ∷ []) s) (append_assoc (decimal k) (codes "\">\n") (last ++ rest))
    ∙ (ap (λ ts. nl ∷ ts) (number_run k (115 ∷ []) (codes "define-gate") (codes "name") (codes "\">\n" ++ (last ++ rest)))
    ∙ (ap (λ s. nl ∷ start (codes "define-gate") (named (gate k)) ∷ line s) (append_assoc (all_of set) gate_end rest)
    ∙ ap (λ ts. nl ∷ start (codes "define-gate") (named (gate k)) ∷ ts) (all_lexed set (gate_end ++ rest)))))

abbrev pub set_gates_tokens : ℕ → List (List ℕ) → List Token → List Token
set_gates_tokens k [] ts = ts
set_gates_tokens k (set ∷ sets) ts = set_gate_tokens k set (set_gates_tokens (suc k) sets ts)

set_gates_lexed : (k : ℕ) (sets : List (List ℕ)) (rest : List ℕ) → line (set_gates k sets ++ rest) ≡ set_gates_tokens k sets (line rest)
set_gates_lexed k [] rest = refl
set_gates_lexed k (set ∷ sets) rest =
    ap line (append_assoc (set_gate k set) (set_gates (suc k) sets) rest)
    ∙ (set_gate_lexed k set (set_gates (suc k) sets ++ rest) ∙ ap (λ ts. set_gate_tokens k set ts) (set_gates_lexed (suc k) sets rest))

abbrev pub gate_tokens : ℕ → List Token → List Token
gate_tokens k ts = nl ∷ start (codes "gate") (named (gate k)) ∷ end (codes "gate") ∷ ts

gate_lexed : (k : ℕ) (rest : List ℕ) → line (gate_of k ++ rest) ≡ gate_tokens k (line rest)
unfolding gate_of
gate_lexed k rest =
    ap (λ s. nl ∷ tokens_from (value (codes "gate") [] (codes "name")) (115 ∷ []) s) (append_assoc (decimal k) (codes "\"/>\n") rest)
    ∙ ap (λ ts. nl ∷ ts) (number_run k (115 ∷ []) (codes "gate") (codes "name") (codes "\"/>\n" ++ rest))

abbrev pub gates_tokens : ℕ → List (List ℕ) → List Token → List Token
gates_tokens k [] ts = ts
gates_tokens k (set ∷ sets) ts = gate_tokens k (gates_tokens (suc k) sets ts)

gates_lexed : (k : ℕ) (sets : List (List ℕ)) (rest : List ℕ) → line (gates_of k sets ++ rest) ≡ gates_tokens k sets (line rest)
gates_lexed k [] rest = refl
gates_lexed k (set ∷ sets) rest =
    ap line (append_assoc (gate_of k) (gates_of (suc k) sets) rest)
    ∙ (gate_lexed k (gates_of (suc k) sets ++ rest) ∙ ap (λ ts. gate_tokens k ts) (gates_lexed (suc k) sets rest))

abbrev pub any_tokens : List (List ℕ) → List Token → List Token
any_tokens [] ts = nl ∷ start (codes "constant") ((codes "value", codes "false") ∷ []) ∷ end (codes "constant") ∷ ts
any_tokens (set ∷ []) ts = gate_tokens 1 ts
any_tokens (a ∷ b ∷ sets) ts = nl ∷ start (codes "or") [] ∷ gates_tokens 1 (a ∷ b ∷ sets) (nl ∷ end (codes "or") ∷ ts)

any_lexed : (sets : List (List ℕ)) (rest : List ℕ) → line (any_of sets ++ rest) ≡ any_tokens sets (line rest)
any_lexed [] rest = refl
any_lexed (set ∷ []) rest = gate_lexed 1 rest
any_lexed (a ∷ b ∷ sets) rest =
    ap (λ s. nl ∷ start (codes "or") [] ∷ line s) (append_assoc (gates_of 1 (a ∷ b ∷ sets)) (codes "</or>\n") rest)
    ∙ ap (λ ts. nl ∷ start (codes "or") [] ∷ ts) (gates_lexed 1 (a ∷ b ∷ sets) (codes "</or>\n" ++ rest))

abbrev pub definition_tokens : ℕ → List ℕ → List Token → List Token
definition_tokens n name ts =
    nl ∷ start (codes "define-basic-event") (named (event n)) ∷ nl ∷ start (codes "label") [] ∷ letters name ∷ end (codes "label") ∷ nl ∷ end (codes "define-basic-event") ∷ ts

definition_lexed : (n : ℕ) (name rest : List ℕ) → line (definition n name ++ rest) ≡ definition_tokens n name (line rest)
unfolding definition_begin definition_end
definition_lexed n name rest =
    let last : List ℕ = xml_text name ++ definition_end in
    let before : List Token → List Token = λ ts. nl ∷ start (codes "define-basic-event") (named (event n)) ∷ nl ∷ start (codes "label") [] ∷ ts in
    ap line (append_assoc (definition_begin n) last rest)
    ∙ (ap (λ s. nl ∷ tokens_from (value (codes "define-basic-event") [] (codes "name")) (102 ∷ []) s) (append_assoc (decimal n) (codes "\">\n<label>") (last ++ rest))
    ∙ (ap (λ ts. nl ∷ ts) (number_run n (102 ∷ []) (codes "define-basic-event") (codes "name") (codes "\">\n<label>" ++ (last ++ rest)))
    ∙ (ap (λ s. before (tokens_from outside [] s)) (append_assoc (xml_text name) definition_end rest)
    ∙ ap before (characters_run name [] (codes "/label>\n</define-basic-event>\n" ++ rest)))))

abbrev pub definitions_tokens : ℕ → List (List ℕ) → List Token → List Token
definitions_tokens n [] ts = ts
definitions_tokens n (name ∷ names) ts = definition_tokens n name (definitions_tokens (suc n) names ts)

definitions_lexed : (n : ℕ) (names : List (List ℕ)) (rest : List ℕ) → line (definitions n names ++ rest) ≡ definitions_tokens n names (line rest)
definitions_lexed n [] rest = refl
definitions_lexed n (name ∷ names) rest =
    ap line (append_assoc (definition n name) (definitions (suc n) names) rest)
    ∙ (definition_lexed n name (definitions (suc n) names ++ rest) ∙ ap (λ ts. definition_tokens n name ts) (definitions_lexed (suc n) names rest))

-- the whole text

abbrev pub events_part : List (List ℕ) → List Token → List Token
events_part names ts = nl ∷ end (codes "define-fault-tree") ∷ nl ∷ start (codes "model-data") [] ∷ definitions_tokens 1 names (nl ∷ end (codes "model-data") ∷ ts)

abbrev pub document : List (List ℕ) → List (List ℕ) → List Token → List Token
document sets names ts =
    letters [] ∷ nl ∷ start (codes "opsa-mef") [] ∷ nl ∷ start (codes "define-fault-tree") (named (codes "report")) ∷ nl ∷ start (codes "define-gate") (named (codes "top"))
    ∷ any_tokens sets (nl ∷ end (codes "define-gate") ∷ set_gates_tokens 1 sets (events_part names ts))

pub text_lexed : (report : Report) (rest : List ℕ) → tokens (tree_text report rest) ≡ document (set_numbers report) (fault_names report) (line rest)
unfolding head gate_end middle end_of_events
text_lexed report rest =
    let sets : List (List ℕ) = set_numbers report in
    let names : List (List ℕ) = fault_names report in
    let third : List ℕ = middle ++ (definitions 1 names ++ (end_of_events ++ rest)) in
    let first : List Token → List Token = λ ts.
    letters [] ∷ nl ∷ start (codes "opsa-mef") [] ∷ nl ∷ start (codes "define-fault-tree") (named (codes "report")) ∷ nl ∷ start (codes "define-gate") (named (codes "top")) ∷ ts in
    ap first (any_lexed sets (gate_end ++ (set_gates 1 sets ++ third)))
    ∙ (ap (λ ts. first (any_tokens sets (nl ∷ end (codes "define-gate") ∷ ts))) (set_gates_lexed 1 sets third)
    ∙ ap (λ ts. first (any_tokens sets (nl ∷ end (codes "define-gate") ∷ set_gates_tokens 1 sets (nl ∷ end (codes "define-fault-tree") ∷ nl ∷ start (codes "model-data") [] ∷ ts))))
    (definitions_lexed 1 names (end_of_events ++ rest)))
