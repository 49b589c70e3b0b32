-- The staged model of causes: the flat woven model with the age, the event and the hits of each cause, and with the events
-- of faults that begin by themselves.
--
-- A cause's age is 0 before its moment, 1 at it, and goes on by one a step up to one more than the window's end; a hit tells
-- that the fault has stood in the window so far. Each variable is added with the formulas that speak of it.
use Rattle.std.specs.Prelude.{ℕ, suc, ◌+◌, ◌-◌, false, pos, List, [], ◌∷◌, ◌++◌, codes, decimal, length, slice_index_or, if◌then◌else◌}
use Rattle.smv_language.specs.declared.expr.Op.TheVariants as op
use Rattle.smv_language.specs.declared.program.Member.TheVariants as member
use Rattle.smv_language.specs.Tree.{Tree, truth, number, leaf, not_of, next_of, binary, choice, set_of, no_tree, tree_then}
use Rattle.smv_language.specs.ProgramTree.{Text, DeclaredTree, boolean, range, members}
use Rattle.smv_language.specs.Scope.{state}
use Rattle.smv_language.specs.Flat.{FlatLeaf, flat_variable, flat_symbol, FlatVariable, FlatFormula, FlatModel}
use Rattle.smv_flat_laws.specs.History.{Mode, stands_now, added}
use Rattle.fault_cause_laws.specs.Additions.{with_addition}
use Rattle.cut_right_laws.specs.Sets.{has_number}
use Rattle.fault_cause_laws.specs.Causes.{CommonCause}

-- the name of a cause's age
abbrev pub age_name : Text → Text
age_name c = c ++ codes "#age"

-- the name of a cause's event
abbrev pub event_name : Text → Text
event_name c = c ++ codes "#event"

-- its value where the cause does not come
abbrev pub quiet_name : Text → Text
quiet_name c = c ++ codes "#quiet"

-- its value where the cause comes
abbrev pub now_name : Text → Text
now_name c = c ++ codes "#now"

-- the name of a cause's hit, by the number of the strike
abbrev pub hit_name : Text → ℕ → Text
hit_name c k = c ++ (codes "#hit#" ++ decimal k)

-- the name of a fault's own event
abbrev pub own_name : ℕ → Text
own_name i = codes "own#" ++ decimal i

-- its value where the fault does not begin by itself
abbrev pub none_name : ℕ → Text
none_name i = codes "none#" ++ decimal i

-- its value where the fault begins by itself
abbrev pub self_name : ℕ → Text
self_name i = codes "self#" ++ decimal i

-- a state variable of `main` that no item declares
abbrev pub added_variable : Text → DeclaredTree → FlatVariable
added_variable name declared = record { place = []; name = name; role = state; declared = declared; item = 0; number = 0 }

-- a variable in an expression
abbrev pub value_of : ℕ → Tree FlatLeaf
value_of n = leaf (flat_variable n)

-- a number in an expression
abbrev pub whole : ℕ → Tree FlatLeaf
whole n = number (pos n)

-- the set of one expression
abbrev pub only : Tree FlatLeaf → Tree FlatLeaf
only e = set_of (tree_then e no_tree)

-- the set of 0 and 1
abbrev pub zero_or_one : Tree FlatLeaf
zero_or_one = set_of (tree_then (whole 0) (tree_then (whole 1) no_tree))

-- the mode of a fault, by its number from one on
abbrev pub mode_of : List Mode → ℕ → Mode
mode_of fs i = slice_index_or fs (i - 1) (record { variable = 0; symbol = 0 })

-- the fault's mode stands
abbrev pub stands_of : List Mode → ℕ → Tree FlatLeaf
stands_of fs i = stands_now (mode_of fs i)

-- the age of this number lies in the cause's window
abbrev pub in_window : CommonCause → ℕ → Tree FlatLeaf
in_window c age = binary op.And (binary op.AtLeast (value_of age) (whole (c.from + 1))) (binary op.AtMost (value_of age) (whole (c.to + 1)))

-- The age: 0 or 1 at first; 0 or 1 after 0, and else one more, up to one more than the window's end.
abbrev pub age_at_first : ℕ → FlatFormula
age_at_first age = added (binary op.Within (value_of age) zero_or_one)

-- how an age goes on: 0 or 1 after 0, and else one more, up to one more than the window's end
abbrev pub age_at_step : CommonCause → ℕ → FlatFormula
age_at_step c age =
    added (binary op.Within (next_of (value_of age))
    (choice (binary op.Equal (value_of age) (whole 0)) zero_or_one
    (only (choice (binary op.Equal (value_of age) (whole (c.to + 2))) (whole (c.to + 2)) (binary op.Plus (value_of age) (whole 1))))))

-- a model with a cause's age
abbrev pub with_age : FlatModel → CommonCause → FlatModel
with_age m c =
    with_addition m (record {
      variables = added_variable (age_name c.name) (range (pos 0) (pos (c.to + 2))) ∷ [];
      symbols = [];
      at_first = age_at_first (length m.variables) ∷ [];
      at_each = [];
      at_step = age_at_step c (length m.variables) ∷ [];
    })

-- The event: now where the age is 1, and quiet elsewhere. The symbols stand from a number on.
abbrev pub event_at_each : ℕ → ℕ → ℕ → FlatFormula
event_at_each event age symbols =
    added (binary op.Within (value_of event)
    (choice (binary op.Equal (value_of age) (whole 1)) (only (leaf (flat_symbol (suc symbols)))) (only (leaf (flat_symbol symbols)))))

-- a model with a cause's event
abbrev pub with_event : FlatModel → CommonCause → ℕ → FlatModel
with_event m c age =
    with_addition m (record {
      variables = added_variable (event_name c.name) (members (member.Symbol (quiet_name c.name) ∷ member.Symbol (now_name c.name) ∷ []))
          ∷ [];
      symbols = quiet_name c.name ∷ now_name c.name ∷ [];
      at_first = [];
      at_each = event_at_each (length m.variables) age (length m.symbols) ∷ [];
      at_step = [];
    })

-- A hit: in the window, and the fault stands there or stood before in it; at the window's end it must be TRUE.
abbrev pub hit_at_first : List Mode → CommonCause → ℕ → ℕ → ℕ → FlatFormula
hit_at_first fs c hit age i = added (binary op.Within (value_of hit) (binary op.And (in_window c age) (stands_of fs i)))

-- that a hit is TRUE at the window's end
abbrev pub landed_at_each : CommonCause → ℕ → ℕ → FlatFormula
landed_at_each c hit age = added (binary op.Implies (binary op.Equal (value_of age) (whole (c.to + 1))) (value_of hit))

-- that a hit is next TRUE where the fault then stands in the window, or stood before in it
abbrev pub hit_at_step : List Mode → CommonCause → ℕ → ℕ → ℕ → FlatFormula
hit_at_step fs c hit age i =
    added (binary op.Within (next_of (value_of hit))
    (binary op.And (next_of (in_window c age)) (binary op.Or (next_of (stands_of fs i)) (value_of hit))))

-- the hit of the fault of a number, which is the cause's strike of a number
abbrev pub with_hit : List Mode → CommonCause → ℕ → ℕ → ℕ → FlatModel → FlatModel
with_hit fs c age k i m =
    with_addition m (record {
      variables = added_variable (hit_name c.name k) boolean ∷ [];
      symbols = [];
      at_first = hit_at_first fs c (length m.variables) age i ∷ [];
      at_each = landed_at_each c (length m.variables) age ∷ [];
      at_step = hit_at_step fs c (length m.variables) age i ∷ [];
    })

-- the hits of faults, which are the cause's strikes from a number on
abbrev pub with_hits : List Mode → CommonCause → ℕ → ℕ → List ℕ → FlatModel → FlatModel
with_hits fs c age k [] m = m
with_hits fs c age k (i ∷ is) m = with_hits fs c age (suc k) is (with_hit fs c age k i m)

-- a cause, whose age is the next variable
abbrev pub with_cause : List Mode → FlatModel → CommonCause → FlatModel
with_cause fs m c = with_hits fs c (length m.variables) 1 c.strikes (with_event (with_age m c) c (length m.variables))

-- causes, one after another
abbrev pub with_each_cause : List Mode → FlatModel → List CommonCause → FlatModel
with_each_cause fs m [] = m
with_each_cause fs m (c ∷ cs) = with_each_cause fs (with_cause fs m c) cs

-- the numbers of the causes' ages, where the first has this number
abbrev pub age_numbers : ℕ → List CommonCause → List ℕ
age_numbers n [] = []
age_numbers n (c ∷ cs) = n ∷ age_numbers (n + (2 + length c.strikes)) cs

-- the windows of the causes that strike a fault, with the numbers of their ages
abbrev pub windows_on : ℕ → List CommonCause → List ℕ → List (Tree FlatLeaf)
windows_on i (c ∷ cs) (age ∷ ages) = if has_number c.strikes i then in_window c age ∷ windows_on i cs ages else windows_on i cs ages
windows_on i _ _ = []

-- expressions joined by `|` in order, or FALSE
abbrev pub joined_after : Tree FlatLeaf → List (Tree FlatLeaf) → Tree FlatLeaf
joined_after e [] = e
joined_after e (f ∷ fs) = joined_after (binary op.Or e f) fs

-- expressions joined by `|` in order, or FALSE
abbrev pub joined : List (Tree FlatLeaf) → Tree FlatLeaf
joined [] = truth false
joined (e ∷ es) = joined_after e es

-- A fault's own event: its mode begins to stand, and no cause that strikes it has its window there.
abbrev pub own_at_first : Tree FlatLeaf → Tree FlatLeaf → ℕ → ℕ → FlatFormula
own_at_first stands windows own symbols =
    added (binary op.Within (value_of own)
    (choice (binary op.And stands (not_of windows)) (only (leaf (flat_symbol (suc symbols)))) (only (leaf (flat_symbol symbols)))))

-- that a fault's event is next told where its mode then begins to stand under no window
abbrev pub own_at_step : Tree FlatLeaf → Tree FlatLeaf → ℕ → ℕ → FlatFormula
own_at_step stands windows own symbols =
    added (binary op.Within (next_of (value_of own))
    (choice (binary op.And (binary op.And (next_of stands) (not_of stands)) (not_of (next_of windows)))
    (only (leaf (flat_symbol (suc symbols)))) (only (leaf (flat_symbol symbols)))))

-- the event of the fault of a number, under the causes with the numbers of their ages
abbrev pub with_own : List Mode → List CommonCause → List ℕ → ℕ → FlatModel → FlatModel
with_own fs cs ages i m =
    with_addition m (record {
      variables = added_variable (own_name i) (members (member.Symbol (none_name i) ∷ member.Symbol (self_name i) ∷ [])) ∷ [];
      symbols = none_name i ∷ self_name i ∷ [];
      at_first = own_at_first (stands_of fs i) (joined (windows_on i cs ages)) (length m.variables) (length m.symbols) ∷ [];
      at_each = [];
      at_step = own_at_step (stands_of fs i) (joined (windows_on i cs ages)) (length m.variables) (length m.symbols) ∷ [];
    })

-- the events of faults, whose numbers go on from one
abbrev pub with_owns : List Mode → List CommonCause → List ℕ → ℕ → List Mode → FlatModel → FlatModel
with_owns fs cs ages i [] m = m
with_owns fs cs ages i (f ∷ more) m = with_owns fs cs ages (suc i) more (with_own fs cs ages i m)

-- the model with causes
abbrev pub with_causes : FlatModel → List Mode → List CommonCause → FlatModel
with_causes m fs cs = with_owns fs cs (age_numbers (length m.variables) cs) 1 fs (with_each_cause fs m cs)

-- The events of the model with causes, as modes of it: the faults' own events, and then the causes'. The events of faults
-- have variables from a number on, and symbols from one on.
abbrev pub own_events : ℕ → ℕ → List Mode → List Mode
own_events variable symbols [] = []
own_events variable symbols (f ∷ fs) =
    record { variable = variable; symbol = suc symbols } ∷ own_events (suc variable) (suc (suc symbols)) fs

-- the events of causes, whose variables go on from a number, and symbols from one
abbrev pub cause_events : ℕ → ℕ → List CommonCause → List Mode
cause_events variable symbols [] = []
cause_events variable symbols (c ∷ cs) =
    record { variable = suc variable; symbol = suc symbols } ∷ cause_events (variable + (2 + length c.strikes)) (suc (suc symbols)) cs

-- the events of a model with causes: each fault's own, and then each cause's
abbrev pub events_of : FlatModel → List Mode → List CommonCause → List Mode
events_of m fs cs =
    let causes = with_each_cause fs m cs in
    own_events (length causes.variables) (length causes.symbols) fs ++ cause_events (length m.variables) (length m.symbols) cs
