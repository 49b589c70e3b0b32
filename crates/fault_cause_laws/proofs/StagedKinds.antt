-- The staged model breaks no rule of kinds but that of its size.
use Rattle.std.proofs.Common.{◌≡◌, ℕ, suc, ◌+◌, ◌-◌, ◌<◌, ◌≤◌, true, false, List, [], ◌∷◌, ◌++◌, length, codes, Some, pos, refl, sym, ap, subst, arith}
use Rattle.std.specs.Prelude.{slice_get}
use Rattle.std.proofs.lemmas.List.{length-append}
use Rattle.smv_language.specs.declared.expr.Op.TheVariants as op
use Rattle.smv_language.specs.declared.program.Member.TheVariants as member
use Rattle.smv_language.specs.Language.{next_of, binary, Text, DeclaredTree, boolean, range, members, Each, FlatVariable, FlatModel}
use Rattle.smv_flat_laws.specs.History.{Mode, with_history}
use Rattle.smv_flat_laws.proofs.Lists.{get_end, length_end, each_more}
use Rattle.smv_flat_laws.proofs.Conditions.{each_join, each_at}
use Rattle.smv_type_laws.specs.ExpressionKinds.{truth_class, symbol_class, Judged}
use Rattle.smv_type_laws.specs.DeclaredKinds.{judged_declared}
use Rattle.smv_type_laws.specs.Models.{breaches}
use Rattle.fault_woven_laws.specs.Modes.{HasSymbols}
use Rattle.fault_woven_laws.proofs.History.{history_kept}
use Rattle.fault_woven_laws.proofs.WovenLaws.{size_alone}
use Rattle.fault_cause_laws.specs.Additions.{Addition, with_addition}
use Rattle.fault_cause_laws.specs.Causes.{CommonCause}
use Rattle.fault_cause_laws.specs.StagedModel.{age_name, event_name, quiet_name, now_name, hit_name, own_name, none_name, self_name, added_variable, value_of, whole, mode_of, stands_of, in_window, age_at_first, age_at_step, with_age, event_at_each, with_event, hit_at_first, landed_at_each, hit_at_step, with_hit, with_hits, with_cause, with_each_cause, age_numbers, windows_on, joined, own_at_first, own_at_step, with_own, with_owns, with_causes, own_events, cause_events, events_of}
use Rattle.fault_cause_laws.specs.KindLaws.{AreOfKinds, IsShortCause, StagedBreaksNone, StagedBreaksSizeAlone}
use Rattle.fault_cause_laws.proofs.AddedKinds.{IsRightModel, IsRightAddition, right_added, Grows, grows_same, grows_on, grows_added}
use Rattle.fault_cause_laws.proofs.RightTrees.{two_symbols_right, HasType, HasMode, symbols_grown, mode_grown, type_grown, IsRightTree, as_formula, variable_right, next_tree, and_tree, or_tree, implies_tree, within_tree, stands_tree}
use Rattle.fault_cause_laws.proofs.HistoryKinds.{modes_of_kinds}
use Rattle.fault_cause_laws.proofs.StagedTraces.{mode_there}
use Rattle.fault_cause_laws.proofs.OneCause.{cause_count, cause_symbols}
use Rattle.fault_cause_laws.proofs.FormulaKinds.{range_judged, age_first, age_step, window_tree, ends_tree, event_each, HasAge, HaveAges, windows_tree, own_first, own_step}
use Rattle.smv_language.proofs.ValueLaws.{same_after}

-- ---- what has grown

events_grown : (n n' : FlatModel) → Grows n n' → (es : List Mode) → Each (HasSymbols n) es → Each (HasSymbols n') es
events_grown n n' g es h = each_more (HasSymbols n) (HasSymbols n') es (symbols_grown n n' g) h

age_grown : (n n' : FlatModel) → Grows n n' → (c : CommonCause) (age : ℕ) → HasAge n c age → HasAge n' c age
age_grown n n' g c age h = record { window = h.window; short = h.short; is_age = type_grown n n' g age (range (pos 0) (pos (c.to + 2))) h.is_age }

ages_grown : (n n' : FlatModel) → Grows n n' → (cs : List CommonCause) (ages : List ℕ) → HaveAges n cs ages → HaveAges n' cs ages
ages_grown n n' g [] ages h = tt
ages_grown n n' g (c ∷ cs) [] h = tt
ages_grown n n' g (c ∷ cs) (age ∷ ages) h = (age_grown n n' g c age h.0, ages_grown n n' g cs ages h.1)

-- the variable that is added last
last_type : (n : FlatModel) (a : Addition) (x : FlatVariable) (d : DeclaredTree) → a.variables ≡ x ∷ [] → x.declared ≡ d → HasType (with_addition n a) (length n.variables) d
last_type n a x d e t = record { variable = x; is_variable = subst (λ xs. slice_get (n.variables ++ xs) (length n.variables) ≡ Some x) (sym e) (get_end n.variables x); declared = t }

event_type_right : (c : Text) → (judged_declared (members (member.Symbol (quiet_name c) ∷ member.Symbol (now_name c) ∷ []))).broken ≡ []
event_type_right c = two_symbols_right (quiet_name c) (now_name c) (same_after c (codes "#quiet") (codes "#now"))

own_type_right : (i : ℕ) → (judged_declared (members (member.Symbol (none_name i) ∷ member.Symbol (self_name i) ∷ []))).broken ≡ []
own_type_right i = two_symbols_right (none_name i) (self_name i) refl

module _ (fs : List Mode) where
  record Kinds (n : FlatModel) : Type 0 where
    model : IsRightModel n
    modes : Each (HasMode n) fs

  kinds_added : (n : FlatModel) (a : Addition) → Kinds n → IsRightAddition n a → Kinds (with_addition n a)
  kinds_added n a is adds = record {
    model = right_added n a is.model adds;
    modes = each_more (HasMode n) (HasMode (with_addition n a)) fs (mode_grown n (with_addition n a) (grows_added n a)) is.modes;
  }

  -- the mode of the fault of a number may stand
  stands_of_tree : (n : FlatModel) → Each (HasMode n) fs → (i : ℕ) → 0 < i → i ≤ length fs → IsRightTree n false truth_class (stands_of fs i)
  stands_of_tree n modes i low high =
      let below : i - 1 < length fs = omega (arith, low, high) in
      let mode : HasMode n (mode_of fs i) = each_at (HasMode n) fs (i - 1) (mode_of fs i) modes (mode_there fs (i - 1) (record { variable = 0; symbol = 0 }) below) in
      stands_tree n false (mode_of fs i) mode

  -- what is so after a step: the model breaks none, and has grown
  record Goes (n n' : FlatModel) : Type 0 where
    kinds : Kinds n'
    grows : Grows n n'

  module _ (c : CommonCause) (is_cause : IsShortCause (length fs) c) where
    abbrev age_variable : FlatVariable
    age_variable = added_variable (age_name c.name) (range (pos 0) (pos (c.to + 2)))

    abbrev age_addition : FlatModel → Addition
    age_addition n =
        record {
          variables = age_variable ∷ [];
          symbols = [];
          at_first = age_at_first (length n.variables) ∷ [];
          at_each = [];
          at_step = age_at_step c (length n.variables) ∷ [];
        }

    aged_type : (n : FlatModel) → HasType (with_age n c) (length n.variables) (range (pos 0) (pos (c.to + 2)))
    aged_type n = last_type n (age_addition n) age_variable (range (pos 0) (pos (c.to + 2))) refl refl

    aged : (n : FlatModel) → Kinds n → Goes n (with_age n c)
    aged n is =
        let v = aged_type n in
        let short = is_cause.short in
        record {
          kinds = kinds_added n (age_addition n) is (record {
            types = (ap (λ (j : Judged). j.broken) (range_judged (c.to + 2) (omega (arith, short))), tt);
            at_first = (age_first (with_age n c) c short (length n.variables) v, tt);
            at_each = tt;
            at_step = (age_step (with_age n c) c short (length n.variables) v, tt);
          });
          grows = grows_added n (age_addition n);
        }

    abbrev event_type : DeclaredTree
    event_type = members (member.Symbol (quiet_name c.name) ∷ member.Symbol (now_name c.name) ∷ [])

    abbrev event_variable : FlatVariable
    event_variable = added_variable (event_name c.name) event_type

    abbrev event_addition : FlatModel → ℕ → Addition
    event_addition n age =
        record {
          variables = event_variable ∷ [];
          symbols = quiet_name c.name ∷ now_name c.name ∷ [];
          at_first = [];
          at_each = event_at_each (length n.variables) age (length n.symbols) ∷ [];
          at_step = [];
        }

    evented : (n : FlatModel) (age : ℕ) → Kinds n → HasAge n c age → Goes n (with_event n c age)
    evented n age is at =
        let made : FlatModel = with_event n c age in
        let v : HasType made (length n.variables) event_type = last_type n (event_addition n age) event_variable event_type refl refl in
        let g : HasAge made c age = age_grown n made (grows_added n (event_addition n age)) c age at in
        let two : length made.symbols ≡ length n.symbols + 2 = length-append n.symbols (quiet_name c.name ∷ now_name c.name ∷ []) in
        record {
          kinds = kinds_added n (event_addition n age) is (record {
            types = (event_type_right c.name, tt);
            at_first = tt;
            at_each = (event_each made c g.short age g.is_age (length n.variables) (length n.symbols) (variable_right made false symbol_class (length n.variables) event_type v refl) (omega (arith, two)), tt);
            at_step = tt;
          });
          grows = grows_added n (event_addition n age);
        }

    -- the event is a variable with symbols
    event_there : (n : FlatModel) (age symbol : ℕ) → HasSymbols (with_event n c age) (record { variable = length n.variables; symbol = symbol })
    event_there n age symbol = record { variable = event_variable; is_variable = get_end n.variables event_variable; symbols = refl }

    abbrev hit_variable : ℕ → FlatVariable
    hit_variable k = added_variable (hit_name c.name k) boolean

    abbrev hit_addition : FlatModel → ℕ → ℕ → ℕ → Addition
    hit_addition n age k i =
        record {
          variables = hit_variable k ∷ [];
          symbols = [];
          at_first = hit_at_first fs c (length n.variables) age i ∷ [];
          at_each = landed_at_each c (length n.variables) age ∷ [];
          at_step = hit_at_step fs c (length n.variables) age i ∷ [];
        }

    hit_one : (n : FlatModel) (age k i : ℕ) → Kinds n → HasAge n c age → 0 < i → i ≤ length fs → Goes n (with_hit fs c age k i n)
    hit_one n age k i is at low high =
        let made : FlatModel = with_hit fs c age k i n in
        let grows : Grows n made = grows_added n (hit_addition n age k i) in
        let hit = value_of (length n.variables) in
        let here = in_window c age in
        let stands = stands_of fs i in
        let v : HasType made (length n.variables) boolean = last_type n (hit_addition n age k i) (hit_variable k) boolean refl refl in
        let g : HasAge made c age = age_grown n made grows c age at in
        let h = variable_right made false truth_class (length n.variables) boolean v refl in
        let st = stands_of_tree made (each_more (HasMode n) (HasMode made) fs (mode_grown n made grows) is.modes) i low high in
        let w = window_tree made c g.short age g.is_age g.window false in
        let before = binary op.Or (next_of stands) hit in
        let before_tree = or_tree made false (next_of stands) hit (next_tree made false truth_class stands st) h in
        record {
          kinds = kinds_added n (hit_addition n age k i) is (record {
            types = (refl, tt);
            at_first = (as_formula made (binary op.Within hit (binary op.And here stands)) (within_tree made false truth_class hit (binary op.And here stands) h (and_tree made true here stands w st)), tt);
            at_each = (
              as_formula made (binary op.Implies (binary op.Equal (value_of age) (whole (c.to + 1))) hit)
                  (implies_tree made false (binary op.Equal (value_of age) (whole (c.to + 1))) hit (ends_tree made c g.short age g.is_age false) h),
              tt,
            );
            at_step = (
              as_formula made (binary op.Within (next_of hit) (binary op.And (next_of here) before))
                  (within_tree made false truth_class (next_of hit) (binary op.And (next_of here) before) (next_tree made false truth_class hit h)
                  (and_tree made true (next_of here) before (next_tree made false truth_class here w) before_tree)),
              tt,
            );
          });
          grows = grows;
        }

    hits_all : (is : List ℕ) (n : FlatModel) (age k : ℕ) → Kinds n → HasAge n c age → Each (λ i. (0 < i) × (i ≤ length fs)) is → Goes n (with_hits fs c age k is n)
    hits_all [] n age k all at h = record { kinds = all; grows = grows_same n }
    hits_all (i ∷ is) n age k all at h =
        let one = hit_one n age k i all at h.0.0 h.0.1 in
        let rest = hits_all is (with_hit fs c age k i n) age (suc k) one.kinds (age_grown n (with_hit fs c age k i n) one.grows c age at) h.1 in
        record { kinds = rest.kinds; grows = grows_on n (with_hit fs c age k i n) (with_hits fs c age (suc k) is (with_hit fs c age k i n)) one.grows rest.grows }

    -- a cause, with its age and its event
    record CauseGoes (n n' : FlatModel) : Type 0 where
      goes : Goes n n'
      age : HasAge n' c (length n.variables)
      event : HasSymbols n' (record { variable = suc (length n.variables); symbol = suc (length n.symbols) })

    cause_one : (n : FlatModel) → Kinds n → CauseGoes n (with_cause fs n c)
    cause_one n is =
        let first : FlatModel = with_age n c in
        let second : FlatModel = with_event first c (length n.variables) in
        let event : Mode = record { variable = suc (length n.variables); symbol = suc (length n.symbols) } in
        let one : Goes n first = aged n is in
        let at : HasAge first c (length n.variables) = record { window = is_cause.strikes.window; short = is_cause.short; is_age = aged_type n } in
        let two : Goes first second = evented first (length n.variables) one.kinds at in
        let at_two : HasAge second c (length n.variables) = age_grown first second two.grows c (length n.variables) at in
        let three : Goes second (with_cause fs n c) = hits_all c.strikes second (length n.variables) 1 two.kinds at_two is_cause.strikes.numbers in
        let place : length first.variables ≡ suc (length n.variables) = length_end n.variables age_variable in
        let there : HasSymbols second event =
        subst (λ v. HasSymbols second (record { variable = v; symbol = suc (length n.symbols) })) place (event_there first (length n.variables) (suc (length n.symbols))) in
        record {
          goes = record {
            kinds = three.kinds;
            grows = grows_on n first (with_cause fs n c) one.grows (grows_on first second (with_cause fs n c) two.grows three.grows);
          };
          age = age_grown second (with_cause fs n c) three.grows c (length n.variables) at_two;
          event = symbols_grown second (with_cause fs n c) three.grows event there;
        }

  -- causes, one after another
  record CausesGo (n n' : FlatModel) (cs : List CommonCause) : Type 0 where
    goes : Goes n n'
    ages : HaveAges n' cs (age_numbers (length n.variables) cs)
    events : Each (HasSymbols n') (cause_events (length n.variables) (length n.symbols) cs)

  causes_all : (cs : List CommonCause) (n : FlatModel) → Kinds n → Each (IsShortCause (length fs)) cs → CausesGo n (with_each_cause fs n cs) cs
  causes_all [] n is of = record { goes = record { kinds = is; grows = grows_same n }; ages = tt; events = tt }
  causes_all (c ∷ cs) n is of =
      let next : FlatModel = with_cause fs n c in
      let all : FlatModel = with_each_cause fs next cs in
      let event : Mode = record { variable = suc (length n.variables); symbol = suc (length n.symbols) } in
      let one : CauseGoes c of.0 n next = cause_one c of.0 n is in
      let rest : CausesGo next all cs = causes_all cs next one.goes.kinds of.1 in
      let places : length next.variables ≡ length n.variables + (2 + length c.strikes) = cause_count fs (λ i. []) c of.0.strikes n in
      let more : length next.symbols ≡ length n.symbols + 2 = cause_symbols fs (λ i. []) c of.0.strikes n in
      let symbols : length next.symbols ≡ suc (suc (length n.symbols)) = omega (arith, more) in
      record {
        goes = record { kinds = rest.goes.kinds; grows = grows_on n next all one.goes.grows rest.goes.grows };
        ages = (age_grown next all rest.goes.grows c (length n.variables) one.age, subst (λ v. HaveAges all cs (age_numbers v cs)) places rest.ages);
        events = (
          symbols_grown next all rest.goes.grows event one.event,
          subst (λ v. Each (HasSymbols all) (cause_events v (suc (suc (length n.symbols))) cs)) places
              (subst (λ s. Each (HasSymbols all) (cause_events (length next.variables) s cs)) symbols rest.events),
        );
      }

  -- ---- own events

  module _ (cs : List CommonCause) (ages : List ℕ) where
    abbrev own_type : ℕ → DeclaredTree
    own_type i = members (member.Symbol (none_name i) ∷ member.Symbol (self_name i) ∷ [])

    abbrev own_variable : ℕ → FlatVariable
    own_variable i = added_variable (own_name i) (own_type i)

    abbrev own_addition : FlatModel → ℕ → Addition
    own_addition n i =
        record {
          variables = own_variable i ∷ [];
          symbols = none_name i ∷ self_name i ∷ [];
          at_first = own_at_first (stands_of fs i) (joined (windows_on i cs ages)) (length n.variables) (length n.symbols) ∷ [];
          at_each = [];
          at_step = own_at_step (stands_of fs i) (joined (windows_on i cs ages)) (length n.variables) (length n.symbols) ∷ [];
        }

    two_more : (n : FlatModel) (i : ℕ) → length (with_own fs cs ages i n).symbols ≡ length n.symbols + 2
    two_more n i = length-append n.symbols (none_name i ∷ self_name i ∷ [])

    own_one : (n : FlatModel) (i : ℕ) → Kinds n → HaveAges n cs ages → 0 < i → i ≤ length fs → Goes n (with_own fs cs ages i n)
    own_one n i is at low high =
        let made : FlatModel = with_own fs cs ages i n in
        let grows : Grows n made = grows_added n (own_addition n i) in
        let v : HasType made (length n.variables) (own_type i) = last_type n (own_addition n i) (own_variable i) (own_type i) refl refl in
        let own = variable_right made false symbol_class (length n.variables) (own_type i) v refl in
        let st = stands_of_tree made (each_more (HasMode n) (HasMode made) fs (mode_grown n made grows) is.modes) i low high in
        let w = windows_tree made i cs ages (ages_grown n made grows cs ages at) in
        let two = two_more n i in
        let there : suc (length n.symbols) < length made.symbols = omega (arith, two) in
        record {
          kinds = kinds_added n (own_addition n i) is (record {
            types = (own_type_right i, tt);
            at_first = (own_first made (stands_of fs i) (joined (windows_on i cs ages)) st w (length n.variables) (length n.symbols) own there, tt);
            at_each = tt;
            at_step = (own_step made (stands_of fs i) (joined (windows_on i cs ages)) st w (length n.variables) (length n.symbols) own there, tt);
          });
          grows = grows;
        }

    own_there : (n : FlatModel) (i : ℕ) → HasSymbols (with_own fs cs ages i n) (record { variable = length n.variables; symbol = suc (length n.symbols) })
    own_there n i = record { variable = own_variable i; is_variable = get_end n.variables (own_variable i); symbols = refl }

    record OwnsGo (n n' : FlatModel) (more : List Mode) : Type 0 where
      goes : Goes n n'
      events : Each (HasSymbols n') (own_events (length n.variables) (length n.symbols) more)

    owns_all : (more : List Mode) (n : FlatModel) (i : ℕ) → Kinds n → HaveAges n cs ages → 0 < i → i + length more ≤ length fs + 1 → OwnsGo n (with_owns fs cs ages i more n) more
    owns_all [] n i is at low high = record { goes = record { kinds = is; grows = grows_same n }; events = tt }
    owns_all (f ∷ more) n i is at low high =
        let next : FlatModel = with_own fs cs ages i n in
        let all : FlatModel = with_owns fs cs ages (suc i) more next in
        let event : Mode = record { variable = length n.variables; symbol = suc (length n.symbols) } in
        let small : i ≤ length fs = omega (arith, high) in
        let one : Goes n next = own_one n i is at low small in
        let rest : OwnsGo next all more = owns_all more next (suc i) one.kinds (ages_grown n next one.grows cs ages at) (omega arith) (omega (arith, high)) in
        let places : length next.variables ≡ suc (length n.variables) = length_end n.variables (own_variable i) in
        let two = two_more n i in
        let symbols : length next.symbols ≡ suc (suc (length n.symbols)) = omega (arith, two) in
        record {
          goes = record { kinds = rest.goes.kinds; grows = grows_on n next all one.grows rest.goes.grows };
          events = (
            symbols_grown next all rest.goes.grows event (own_there n i),
            subst (λ v. Each (HasSymbols all) (own_events v (suc (suc (length n.symbols))) more)) places
                (subst (λ s. Each (HasSymbols all) (own_events (length next.variables) s more)) symbols rest.events),
          );
        }

-- ---- the law

start : (m : FlatModel) (fs : List Mode) → AreOfKinds m fs → Kinds fs m
start m fs are = record { model = record { closed = are.closed; no_breach = are.no_breach }; modes = modes_of_kinds m fs are }

pub staged_none : StagedBreaksNone
staged_none m fs cs are short =
    let causes : FlatModel = with_each_cause fs m cs in
    let staged : FlatModel = with_causes m fs cs in
    let first : CausesGo fs m causes cs = causes_all fs cs m (start m fs are) short in
    let second : OwnsGo fs cs (age_numbers (length m.variables) cs) causes staged fs =
    owns_all fs cs (age_numbers (length m.variables) cs) fs causes 1 first.goes.kinds first.ages (omega arith) (omega arith) in
    let events : Each (HasSymbols staged) (events_of m fs cs) =
    each_join (HasSymbols staged) (own_events (length causes.variables) (length causes.symbols) fs) (cause_events (length m.variables) (length m.symbols) cs) second.events
    (events_grown causes staged second.goes.grows (cause_events (length m.variables) (length m.symbols) cs) first.events) in
    let model : IsRightModel staged = second.goes.kinds.model in
    (model.no_breach, history_kept staged (events_of m fs cs) model.closed events model.no_breach)

pub staged_size_alone : StagedBreaksSizeAlone
staged_size_alone m fs cs are short rule item =
    let none : (breaches (with_causes m fs cs) ≡ []) × (breaches (with_history (with_causes m fs cs) (events_of m fs cs)) ≡ []) = staged_none m fs cs are short in
    (size_alone (with_causes m fs cs) none.0 rule item, size_alone (with_history (with_causes m fs cs) (events_of m fs cs)) none.1 rule item)
