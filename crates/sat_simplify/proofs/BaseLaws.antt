-- Changes of a clause base, from those of its slots.
use Rattle.std.proofs.Common.{◌≡◌, ℕ, ◌+◌, ◌<◌, ◌≤◌, List, [], ◌∷◌, ◌++◌, length, get_or, map, take, Some, All, refl, sym, ap, ◌∙◌, subst}
use Rattle.std.proofs.lemmas.List.{append-nil, append_assoc, map_more, map-append, take_all}
use Rattle.sat_clauses.specs.Literal.{Literal, opposite}
use Rattle.sat_clauses.specs.Derivation.{IsUpTo}
use Rattle.sat_clauses.specs.Code.{code_of}
use Rattle.sat_simplify.specs.SamePlaces.{IsOwn, AreMetAlike, HasNoHigherVariable}
use Rattle.sat_simplify.specs.Slots.{Slot, AreNoted, IsSimpler, standing}
use Rattle.sat_simplify.specs.Elimination.{resolvents, unless_tautology}
use Rattle.sat_simplify.specs.Resolution.{each_once}
use Rattle.sat_simplify.specs.Changes.{slot_at, changed, dropped, shrunk, gathered, taken_out, resolvents_in, covered, entered}
use Rattle.sat_simplify.specs.OccurrenceLists.{noted_at}
use Rattle.sat_simplify.specs.ClauseBase.{IsSound, Becomes, Adds, AddsAll, TakesOut, Assigns, Covers, IsEntered}
use Rattle.sat_simplify.specs.declared.base.Base.{Base}
use Rattle.sat_simplify.proofs.SlotLaws.{noted_changed, dropped_lessens, shrunk_lessens, covered_lessens}
use Rattle.sat_simplify.proofs.SimplerLaws.{simpler_itself, simpler_all, unit_law, subsumption_law, elimination_law}
use Rattle.sat_simplify.proofs.SlotSteps.{entered_more}
use Rattle.sat_simplify.proofs.ListLaws.{met_alike, no_higher_variable}

-- a base is as simple as itself, and changes follow one another
pub becomes_itself : (b : Base) → IsSound b → Becomes b b
becomes_itself b sound = record { sound = sound; places = refl; simpler = simpler_itself b.places b.slots.items }

pub becomes_all : (a b c : Base) → Becomes a b → Becomes b c → Becomes a c
becomes_all a b c f g = record {
  sound = g.sound;
  places = g.places ∙ f.places;
  simpler = simpler_all a.places a.slots.items b.slots.items c.slots.items f.simpler (subst (λ n. IsSimpler n b.slots.items c.slots.items) f.places g.simpler);
}

-- clauses are added one by one, or one if there is one
pub adds_some : (a b : Base) (c : List Literal) → Adds a b c → AddsAll a b (c ∷ [])
adds_some a b c f = record { sound = f.sound; places = f.places; slots = f.slots }

pub adds_none : (b : Base) → IsSound b → AddsAll b b []
adds_none b sound = record { sound = sound; places = refl; slots = sym (append-nil b.slots.items) }

pub adds_more : (a b c : Base) (cs : List (List Literal)) (i : ℕ) (d : List Literal) → i < length cs → d ≡ get_or cs i d → AddsAll a b (take i cs) → Adds b c d → AddsAll a c (take (i + 1) cs)
adds_more a b c cs i d lt is f g = record {
  sound = g.sound;
  places = g.places ∙ f.places;
  slots = g.slots
      ∙ (ap (λ s. s ++ Some d ∷ []) f.slots
      ∙ (append_assoc a.slots.items (map Some (take i cs)) (Some d ∷ [])
      ∙ ap (λ s. a.slots.items ++ s) (ap (λ x. map Some (take i cs) ++ Some x ∷ []) is ∙ sym (map_more Some cs i d lt))));
}

pub adds_all : (a b : Base) (cs : List (List Literal)) (i : ℕ) → length cs ≤ i → AddsAll a b (take i cs) → AddsAll a b cs
adds_all a b cs i over f = subst (AddsAll a b) (take_all i cs over) f

-- what is taken out leaves all noted
pub taken_noted : (occurrences : List (List ℕ)) (slots : List Slot) (l : Literal) → AreNoted occurrences slots → AreNoted occurrences (taken_out occurrences l slots)
taken_noted occurrences slots l noted =
    noted_changed (dropped (opposite l)) (dropped_lessens (opposite l)) occurrences (changed (dropped l) slots (noted_at occurrences (code_of l))) (noted_at occurrences (code_of (opposite l))) (noted_changed (dropped l) (dropped_lessens l) occurrences slots (noted_at occurrences (code_of l)) noted)

pub shrunk_noted : (occurrences : List (List ℕ)) (slots : List Slot) (l : Literal) → AreNoted occurrences slots → AreNoted occurrences (changed (shrunk (opposite l)) (changed (dropped l) slots (noted_at occurrences (code_of l))) (noted_at occurrences (code_of (opposite l))))
shrunk_noted occurrences slots l noted =
    noted_changed (shrunk (opposite l)) (shrunk_lessens (opposite l)) occurrences (changed (dropped l) slots (noted_at occurrences (code_of l))) (noted_at occurrences (code_of (opposite l))) (noted_changed (dropped l) (dropped_lessens l) occurrences slots (noted_at occurrences (code_of l)) noted)

-- a variable that is no place is eliminated
pub becomes_eliminated : (a b c : Base) (l : Literal) (cs : List (List Literal)) → IsSound a → IsOwn a.places l.var → cs ≡ resolvents_in a.occurrences l a.slots.items → TakesOut a b l → AddsAll b c cs → Becomes a c
becomes_eliminated a b c l cs sound own is out adds = record {
  sound = adds.sound;
  places = adds.places ∙ out.places;
  simpler = subst (IsSimpler a.places a.slots.items) (sym (adds.slots ∙ (ap (λ s. s ++ map Some cs) out.slots ∙ ap (λ r. taken_out a.occurrences l a.slots.items ++ map Some r) is))) (elimination_law a.places a.slots.items a.occurrences l sound own);
}

-- a clause of one literal is propagated
pub becomes_assigned : (a b : Base) (l : Literal) (i : ℕ) → slot_at a.slots.items i ≡ Some (l ∷ []) → Assigns a b l → Becomes a b
becomes_assigned a b l i is f = record { sound = f.sound; places = f.places; simpler = subst (IsSimpler a.places a.slots.items) (sym f.slots) (unit_law a.places a.slots.items a.occurrences l i is) }

-- what the calls on slots give in turn
pub taken_by : (occurrences : List (List ℕ)) (l m : Literal) (slots first second : List Slot) (with against : List ℕ) → with ≡ noted_at occurrences (code_of l) → first ≡ changed (dropped l) slots with → m ≡ opposite l → against ≡ noted_at occurrences (code_of m) → second ≡ changed (dropped m) first against → second ≡ taken_out occurrences l slots
taken_by occurrences l m slots first second with against e f g h i =
    i
    ∙ (ap (λ x. changed (dropped x) first against) g
    ∙ (ap (λ s. changed (dropped (opposite l)) s against) (f ∙ ap (changed (dropped l) slots) e)
    ∙ ap (changed (dropped (opposite l)) (changed (dropped l) slots (noted_at occurrences (code_of l)))) (h ∙ ap (λ x. noted_at occurrences (code_of x)) g)))

pub shrunk_by : (occurrences : List (List ℕ)) (l m : Literal) (slots first second : List Slot) (with against : List ℕ) → with ≡ noted_at occurrences (code_of l) → first ≡ changed (dropped l) slots with → m ≡ opposite l → against ≡ noted_at occurrences (code_of m) → second ≡ changed (shrunk m) first against →
    second ≡ changed (shrunk (opposite l)) (changed (dropped l) slots (noted_at occurrences (code_of l))) (noted_at occurrences (code_of (opposite l)))
shrunk_by occurrences l m slots first second with against e f g h i =
    i
    ∙ (ap (λ x. changed (shrunk x) first against) g
    ∙ (ap (λ s. changed (shrunk (opposite l)) s against) (f ∙ ap (changed (dropped l) slots) e)
    ∙ ap (changed (shrunk (opposite l)) (changed (dropped l) slots (noted_at occurrences (code_of l)))) (h ∙ ap (λ x. noted_at occurrences (code_of x)) g)))

pub resolved_by : (occurrences : List (List ℕ)) (l m : Literal) (slots : List Slot) (with against : List ℕ) (cs ds list : List (List Literal)) → with ≡ noted_at occurrences (code_of l) → cs ≡ gathered l slots with → m ≡ opposite l → against ≡ noted_at occurrences (code_of m) → ds ≡ gathered m slots against → list ≡ resolvents l cs ds → list ≡ resolvents_in occurrences l slots
resolved_by occurrences l m slots with against cs ds list e f g h i j =
    j
    ∙ (ap (λ x. resolvents l x ds) (f ∙ ap (gathered l slots) e)
    ∙ ap (resolvents l (gathered l slots (noted_at occurrences (code_of l)))) (i ∙ (ap (λ x. gathered x slots against) g ∙ ap (gathered (opposite l) slots) (h ∙ ap (λ x. noted_at occurrences (code_of x)) g))))

-- clauses are entered one by one
pub entered_none : (places : ℕ) (list : List (List Literal)) (b : Base) → IsSound b → b.places ≡ places → b.slots.items ≡ [] → IsEntered places (take 0 list) b
entered_none places list b sound e none = record { sound = sound; places = e; slots = none }

pub entered_next : (places : ℕ) (list : List (List Literal)) (a b : Base) (cs : List (List Literal)) (i : ℕ) (c : List Literal) → i < length list → c ≡ get_or list i c → IsEntered places (take i list) a → cs ≡ unless_tautology (each_once c) → AddsAll a b cs → IsEntered places (take (i + 1) list) b
entered_next places list a b cs i c lt is f one g =
    let all = entered (take i list) in
    let more : all ++ unless_tautology (each_once c) ≡ entered (take (i + 1) list) = entered_more c (each_once c) list i all (all ++ unless_tautology (each_once c)) lt is refl refl refl in
    record {
      sound = g.sound;
      places = g.places ∙ f.places;
      slots = g.slots
          ∙ (ap (λ s. s ++ map Some cs) f.slots
          ∙ (ap (λ x. map Some all ++ map Some x) one
          ∙ (sym (map-append Some all (unless_tautology (each_once c))) ∙ ap (map Some) more)));
    }

pub entered_all : (places : ℕ) (list : List (List Literal)) (b : Base) (i : ℕ) → length list ≤ i → IsEntered places (take i list) b → IsEntered places list b
entered_all places list b i over f = subst (λ cs. IsEntered places cs b) (take_all i list over) f

entered_simpler : (places : ℕ) (list : List (List Literal)) (a b : Base) → IsEntered places list a → Becomes a b → IsSimpler places (map Some (entered list)) b.slots.items
entered_simpler places list a b f g = subst (λ s. IsSimpler places s b.slots.items) f.slots (subst (λ n. IsSimpler n a.slots.items b.slots.items) f.places g.simpler)

-- from a list to the clauses that stand in what its base becomes, and to what is made of these
pub simplified_same : (places : ℕ) (list left new : List (List Literal)) (a b : Base) → IsEntered places list a → Becomes a b → left ≡ standing b.slots.items → AreMetAlike places left new → AreMetAlike places list new
simplified_same places list left new a b f g is same v =
    let first = met_alike places list b.slots.items (entered_simpler places list a b f g) v in
    let next = subst (λ s. AreMetAlike places s new) is same v in
    (λ h. next.0 (first.0 h), λ h. first.1 (next.1 h))

pub simplified_low : (places : ℕ) (list left new : List (List Literal)) (a b : Base) → IsEntered places list a → Becomes a b → left ≡ standing b.slots.items → HasNoHigherVariable left new → HasNoHigherVariable list new
simplified_low places list left new a b f g is low =
    let first = no_higher_variable places list b.slots.items (entered_simpler places list a b f g) in
    record { at = λ top up. low.at top (subst (All (All (IsUpTo top))) (sym is) (first.at top up)) }

-- what is subsumed leaves all noted
pub covered_noted : (occurrences : List (List ℕ)) (slots now : List Slot) (c : List Literal) (at : List ℕ) → now ≡ changed (covered c) slots at → AreNoted occurrences slots → AreNoted occurrences now
covered_noted occurrences slots now c at is noted = subst (AreNoted occurrences) (sym is) (noted_changed (covered c) (covered_lessens c) occurrences slots at noted)

pub covers_by : (a b : Base) (l : Literal) (c : List Literal) (now : List Slot) (at : List ℕ) → at ≡ noted_at a.occurrences (code_of l) → now ≡ changed (covered c) a.slots.items at → IsSound b → b.places ≡ a.places → b.slots.items ≡ now ++ Some c ∷ [] → Covers a b l c
covers_by a b l c now at e f sound places slots = record { sound = sound; places = places; slots = slots ∙ ap (λ s. s ++ Some c ∷ []) (f ∙ ap (changed (covered c) a.slots.items) e) }

pub becomes_covered : (a b : Base) (l : Literal) (c : List Literal) (i : ℕ) → slot_at a.slots.items i ≡ Some c → Covers a b l c → Becomes a b
becomes_covered a b l c i is f = record { sound = f.sound; places = f.places; simpler = subst (IsSimpler a.places a.slots.items) (sym f.slots) (subsumption_law a.places a.slots.items a.occurrences l c i is) }
