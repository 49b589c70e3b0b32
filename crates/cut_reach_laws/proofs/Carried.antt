-- What a model keeps while causes are added to it: its clauses, the modes of its faults, a top event, and the bits of its inputs.
use Rattle.std.proofs.Common.{◌≡◌, ℕ, zero, suc, ◌+◌, ◌-◌, ◌^◌, ◌<◌, ◌≤◌, Bool, true, false, pos, cond, List, [], ◌∷◌, ◌++◌, length, map, Some, refl, sym, ◌∙◌, ap, subst, arith}
use Rattle.std.specs.Prelude.{slice_get, sum_by}
use Rattle.std.proofs.lemmas.List.{length-append, append-nil}
use Rattle.std.proofs.lemmas.List.Sums.{sum_by-append, sum_by-cons}
use Rattle.smv_language.specs.declared.program.Member.{Member}
use Rattle.smv_language.specs.declared.program.Member.TheVariants as member
use Rattle.smv_language.specs.declared.expr.Op.TheVariants as op
use Rattle.smv_language.specs.Language.{Text, DeclaredTree, boolean, range, members, instance, Tree, binary, same_text, AllLeaves, Role, state, input, frozen_role, Each, FlatLeaf, FlatVariable, FlatModel}
use Rattle.smv_language.proofs.ValueLaws.{same_text_refl}
use Rattle.smv_flat_laws.specs.History.{Mode, stands_now}
use Rattle.smv_flat_laws.proofs.Lists.{get_end, length_end, each_more}
use Rattle.fault_cause_laws.specs.Additions.{Addition, with_addition}
use Rattle.smv_type_laws.specs.ExpressionKinds.{hull_of}
use Rattle.smv_type_laws.specs.Costs.{symbol_number, member_number, number_kind, width_in, declared_width}
use Rattle.sat_encoding_laws.specs.Inputs.{is_input}
use Rattle.sat_encoding_laws.specs.Layout.{width_as_input, input_width, input_bits}
use Rattle.sat_encoding_laws.specs.Encodable.{IsListedMember, IsListedType, IsFitTop}
use Rattle.sat_encoding_laws.specs.HistoryBits.{IsStateMode}
use Rattle.cut_right_laws.specs.Sets.{has_number}
use Rattle.fault_cause_laws.specs.Causes.{CommonCause, IsCauseOf}
use Rattle.fault_cause_laws.specs.StagedModel.{age_name, event_name, quiet_name, now_name, hit_name, own_name, none_name, self_name, added_variable, mode_of, stands_of, in_window, age_at_first, age_at_step, with_age, event_at_each, with_event, hit_at_first, landed_at_each, hit_at_step, with_hit, with_hits, with_cause, with_each_cause, age_numbers, windows_on, joined_after, joined, own_at_first, own_at_step, with_own, with_owns, with_causes, own_events, cause_events, events_of}
use Rattle.fault_staging.proofs.Counts.{cause_count, cause_symbols, own_count, own_symbols, each_get}
use Rattle.cut_reach_laws.proofs.Widened.{IsStateVariable, IsStateName, HasClauses, IsOfState, variable_kept, more_symbols, mode_kept, fit_wide, clauses_wide}
use Rattle.smv_flat_laws.proofs.HistoryTraces.{get_middle as get_first}
use Rattle.base_values.proofs.ListLaws.{get_left}
use Rattle.fault_cause_laws.proofs.AddedKinds.{Grows}

-- ---- the bits of inputs

-- the number of a symbol, where it is the first or not
abbrev number_by : Bool → ℕ → ℕ
number_by t n = elim t [ true ↦ 0 | false ↦ suc n ]

same_symbol : (symbols more : List Text) (x : Text) (i : ℕ) → slice_get symbols i ≡ Some x → symbol_number (symbols ++ more) x ≡ symbol_number symbols x
same_symbol [] more x i e = cc
same_symbol (y ∷ ys) more x i e = by (same_text y x) refl i e (λ j. same_symbol ys more x j)
  where
    by : (t : Bool) → same_text y x ≡ t → (i : ℕ) → slice_get (y ∷ ys) i ≡ Some x → ((j : ℕ) → slice_get ys j ≡ Some x → symbol_number (ys ++ more) x ≡ symbol_number ys x) →
        number_by t (symbol_number (ys ++ more) x) ≡ number_by t (symbol_number ys x)
    by true t i e rest = refl
    by false t zero e rest = let same : y ≡ x = cc in cc (t, ap (λ z. same_text z x) same ∙ same_text_refl x)
    by false t (suc i) e rest = ap suc (rest i e)

same_numbers : (symbols more : List Text) (ms : List Member) → Each (IsListedMember symbols) ms →
    map (λ m. number_kind (member_number (symbols ++ more) m)) ms ≡ map (λ m. number_kind (member_number symbols m)) ms
same_numbers symbols more [] h = refl
same_numbers symbols more (member.Number n ∷ ms) h = ap (λ ks. number_kind n ∷ ks) (same_numbers symbols more ms h.1)
same_numbers symbols more (member.Symbol x ∷ ms) h =
    let here = same_symbol symbols more x h.0.0 h.0.1 in
    let rest = same_numbers symbols more ms h.1 in
    (λ j. number_kind (pos (here j)) ∷ rest j)

same_width : (symbols more : List Text) (d : DeclaredTree) → IsListedType symbols d → declared_width (symbols ++ more) d ≡ declared_width symbols d
same_width symbols more boolean h = refl
same_width symbols more (range lo hi) h = refl
same_width symbols more (members ms) h = ap (λ ks. width_in (hull_of ks)) (same_numbers symbols more ms h.1)
same_width symbols more (instance m actuals) h = absurd h

same_widths : (symbols more : List Text) (xs : List FlatVariable) → Each (λ x. IsListedType symbols x.declared) xs → sum_by (input_width (symbols ++ more)) xs ≡ sum_by (input_width symbols) xs
same_widths symbols more [] h = refl
same_widths symbols more (x ∷ xs) h =
    let here : input_width (symbols ++ more) x ≡ input_width symbols x = ap (width_as_input x.role) (same_width symbols more x.declared h.0) in
    let rest = same_widths symbols more xs h.1 in
    sum_by-cons (input_width (symbols ++ more)) x xs ∙ (λ j. here j + rest j) ∙ sym (sum_by-cons (input_width symbols) x xs)

no_width : (r : Role) (n : ℕ) → is_input r ≡ false → width_as_input r n ≡ 0
no_width state n h = refl
no_width frozen_role n h = refl
no_width input n h = cc

no_widths : (symbols : List Text) (xs : List FlatVariable) → Each (λ x. is_input x.role ≡ false) xs → sum_by (input_width symbols) xs ≡ 0
no_widths symbols [] h = refl
no_widths symbols (x ∷ xs) h =
    let here : input_width symbols x ≡ 0 = no_width x.role (declared_width symbols x.declared) h.0 in
    let rest = no_widths symbols xs h.1 in
    let sum = sum_by-cons (input_width symbols) x xs in
    omega (arith, here, rest, sum)

pub same_inputs : (n : FlatModel) (a : Addition) → Each (λ x. IsListedType n.symbols x.declared) n.variables → Each (λ x. is_input x.role ≡ false) a.variables → input_bits (with_addition n a) ≡ input_bits n
same_inputs n a types quiet =
    let own = same_widths n.symbols a.symbols n.variables types in
    let none = no_widths (n.symbols ++ a.symbols) a.variables quiet in
    let all = sum_by-append (input_width (n.symbols ++ a.symbols)) n.variables a.variables in
    omega (arith, own, none, all)

-- ---- places

get_second : {A : Type 0} (xs ys : List A) (x y : A) → slice_get (xs ++ x ∷ y ∷ ys) (suc (length xs)) ≡ Some y
get_second [] ys x y = refl
get_second (z ∷ xs) ys x y = get_second xs ys x y

grows_same : (n : FlatModel) → Grows n n
grows_same n = record { variables = λ i x e. e; symbols = omega arith }

grows_on : (n n' n'' : FlatModel) → Grows n n' → Grows n' n'' → Grows n n''
grows_on n n' n'' g h =
    let a = g.symbols in
    let b = h.symbols in
    record { variables = λ i x e. h.variables i x (g.variables i x e); symbols = omega (arith, a, b) }

grows_added : (n : FlatModel) (a : Addition) → Grows n (with_addition n a)
grows_added n a = record { variables = λ i x e. get_left n.variables a.variables i x e; symbols = more_symbols n a }

variable_grown : (n n' : FlatModel) → Grows n n' → (i : ℕ) → IsStateVariable n i → IsStateVariable n' i
variable_grown n n' g i h = record { variable = h.variable; is_variable = g.variables i h.variable h.is_variable; is_state = h.is_state }

variables_grown : (n n' : FlatModel) → Grows n n' → (is : List ℕ) → Each (IsStateVariable n) is → Each (IsStateVariable n') is
variables_grown n n' g is h = each_more (IsStateVariable n) (IsStateVariable n') is (variable_grown n n' g) h

-- the mode is that of an event: its variable has two symbols, and is one of the state
pub record IsEventIn (n : FlatModel) (e : Mode) : Type 0 where
  pub variable : FlatVariable
  pub first : Text
  pub second : Text
  pub is_variable : slice_get n.variables e.variable ≡ Some variable
  pub declared : variable.declared ≡ members (member.Symbol first ∷ member.Symbol second ∷ [])
  pub is_state : is_input variable.role ≡ false
  pub is_symbol : e.symbol < length n.symbols

event_grown : (n n' : FlatModel) → Grows n n' → (e : Mode) → IsEventIn n e → IsEventIn n' e
event_grown n n' g e h =
    let a = h.is_symbol in
    let b = g.symbols in
    record {
      variable = h.variable;
      first = h.first;
      second = h.second;
      is_variable = g.variables e.variable h.variable h.is_variable;
      declared = h.declared;
      is_state = h.is_state;
      is_symbol = omega (arith, a, b);
    }

events_grown : (n n' : FlatModel) → Grows n n' → (es : List Mode) → Each (IsEventIn n) es → Each (IsEventIn n') es
events_grown n n' g es h = each_more (IsEventIn n) (IsEventIn n') es (event_grown n n' g) h

-- a symbol of a type of two, which are added to a model
two_listed : (symbols : List Text) (x y : Text) → IsListedType (symbols ++ x ∷ y ∷ []) (members (member.Symbol x ∷ member.Symbol y ∷ []))
two_listed symbols x y = ((λ e. cc), ((length symbols, get_first symbols (y ∷ []) x), ((suc (length symbols), get_second symbols [] x y), tt)))

mode_names : (n : FlatModel) (f : Mode) → IsStateMode n f → AllLeaves (IsStateName n) (stands_now f)
mode_names n f h = (record { variable = h.variable; is_variable = h.is_variable; is_state = h.is_state }, h.is_symbol)

module _ (fs : List Mode) (top : Tree FlatLeaf) where
  pub record Carries (n : FlatModel) : Type 0 where
    pub clauses : HasClauses n
    pub fits : IsFitTop n top
    pub modes : Each (IsStateMode n) fs
    pub inputs : input_bits n ≤ 2 ^ 30

  carried : (n : FlatModel) (a : Addition) → Carries n → IsOfState n a → Carries (with_addition n a)
  carried n a c of =
      record {
        clauses = clauses_wide n a c.clauses of;
        fits = fit_wide n a c.clauses.closed top c.fits;
        modes = each_more (IsStateMode n) (IsStateMode (with_addition n a)) fs (mode_kept n a) c.modes;
        inputs = subst (λ k. k ≤ 2 ^ 30) (sym (same_inputs n a c.clauses.types of.state)) c.inputs;
      }

  -- the mode of the fault of a number stands
  stands_names : (n : FlatModel) → Each (IsStateMode n) fs → (i : ℕ) → 0 < i → i ≤ length fs → AllLeaves (IsStateName n) (stands_of fs i)
  stands_names n modes i low high =
      let below : i - 1 < length fs = omega (arith, low, high) in
      mode_names n (mode_of fs i) (each_get (IsStateMode n) fs (i - 1) (record { variable = 0; symbol = 0 }) modes below)

  -- what is so after a step: the model carries all, and has grown
  pub record Goes (n n' : FlatModel) : Type 0 where
    pub carries : Carries n'
    pub grows : Grows n n'

  module _ (c : CommonCause) where
    abbrev age_addition : FlatModel → Addition
    age_addition n =
        record {
          variables = added_variable (age_name c.name) (range (pos 0) (pos (c.to + 2))) ∷ [];
          symbols = [];
          at_first = age_at_first (length n.variables) ∷ [];
          at_each = [];
          at_step = age_at_step c (length n.variables) ∷ [];
        }

    aged_variable : (n : FlatModel) → IsStateVariable (with_age n c) (length n.variables)
    aged_variable n =
        record {
          variable = added_variable (age_name c.name) (range (pos 0) (pos (c.to + 2)));
          is_variable = get_end n.variables (added_variable (age_name c.name) (range (pos 0) (pos (c.to + 2))));
          is_state = refl;
        }

    aged : (n : FlatModel) → Carries n → Goes n (with_age n c)
    aged n is =
        let v = aged_variable n in
        record {
          carries = carried n (age_addition n) is
              (record {
                types = (tt, tt);
                state = (refl, tt);
                at_first = ((v, (tt, (tt, tt))), tt);
                at_each = tt;
                at_step = ((v, ((v, tt), (tt, (tt, tt)), (((v, tt), tt, (v, tt)), tt))), tt);
              });
          grows = grows_added n (age_addition n);
        }

    abbrev event_variable : FlatVariable
    event_variable = added_variable (event_name c.name) (members (member.Symbol (quiet_name c.name) ∷ member.Symbol (now_name c.name) ∷ []))

    abbrev event_addition : FlatModel → ℕ → Addition
    event_addition n age =
        record {
          variables = event_variable ∷ [];
          symbols = quiet_name c.name ∷ now_name c.name ∷ [];
          at_first = [];
          at_each = event_at_each (length n.variables) age (length n.symbols) ∷ [];
          at_step = [];
        }

    two_more : (n : FlatModel) (x y : Text) → length (n.symbols ++ x ∷ y ∷ []) ≡ length n.symbols + 2
    two_more n x y = length-append n.symbols (x ∷ y ∷ [])

    evented : (n : FlatModel) (age : ℕ) → Carries n → IsStateVariable n age → Goes n (with_event n c age)
    evented n age is at =
        let a : Addition = event_addition n age in
        let v : IsStateVariable (with_addition n a) (length n.variables) = record { variable = event_variable; is_variable = get_end n.variables event_variable; is_state = refl } in
        let g : IsStateVariable (with_addition n a) age = variable_kept n a age at in
        let two = two_more n (quiet_name c.name) (now_name c.name) in
        record {
          carries = carried n a is
              (record {
                types = (two_listed n.symbols (quiet_name c.name) (now_name c.name), tt);
                state = (refl, tt);
                at_first = tt;
                at_each = ((v, ((g, tt), (omega (arith, two), tt), (omega (arith, two), tt))), tt);
                at_step = tt;
              });
          grows = grows_added n a;
        }

    event_there : (n : FlatModel) (age : ℕ) → IsEventIn (with_event n c age) (record { variable = length n.variables; symbol = suc (length n.symbols) })
    event_there n age =
        let two = two_more n (quiet_name c.name) (now_name c.name) in
        record {
          variable = event_variable;
          first = quiet_name c.name;
          second = now_name c.name;
          is_variable = get_end n.variables event_variable;
          declared = refl;
          is_state = refl;
          is_symbol = omega (arith, two);
        }

    abbrev hit_variable : ℕ → FlatVariable
    hit_variable k = added_variable (hit_name c.name k) boolean

    abbrev hit_addition : FlatModel → ℕ → ℕ → ℕ → Addition
    hit_addition n age k i =
        record {
          variables = hit_variable k ∷ [];
          symbols = [];
          at_first = hit_at_first fs c (length n.variables) age i ∷ [];
          at_each = landed_at_each c (length n.variables) age ∷ [];
          at_step = hit_at_step fs c (length n.variables) age i ∷ [];
        }

    hit_one : (n : FlatModel) (age k i : ℕ) → Carries n → IsStateVariable n age → 0 < i → i ≤ length fs → Goes n (with_hit fs c age k i n)
    hit_one n age k i is at low high =
        let a : Addition = hit_addition n age k i in
        let v : IsStateVariable (with_addition n a) (length n.variables) = record { variable = hit_variable k; is_variable = get_end n.variables (hit_variable k); is_state = refl } in
        let g : IsStateVariable (with_addition n a) age = variable_kept n a age at in
        let st : AllLeaves (IsStateName (with_addition n a)) (stands_of fs i) =
        stands_names (with_addition n a) (each_more (IsStateMode n) (IsStateMode (with_addition n a)) fs (mode_kept n a) is.modes) i low high in
        let w : AllLeaves (IsStateName (with_addition n a)) (in_window c age) = ((g, tt), (g, tt)) in
        record {
          carries = carried n a is
              (record {
                types = (tt, tt);
                state = (refl, tt);
                at_first = ((v, (w, st)), tt);
                at_each = (((g, tt), v), tt);
                at_step = ((v, (w, (st, v))), tt);
              });
          grows = grows_added n a;
        }

    hits_all : (is : List ℕ) (n : FlatModel) (age k : ℕ) → Carries n → IsStateVariable n age → Each (λ i. (0 < i) × (i ≤ length fs)) is → Goes n (with_hits fs c age k is n)
    hits_all [] n age k all at h = record { carries = all; grows = grows_same n }
    hits_all (i ∷ is) n age k all at h =
        let one = hit_one n age k i all at h.0.0 h.0.1 in
        let rest = hits_all is (with_hit fs c age k i n) age (suc k) one.carries (variable_grown n (with_hit fs c age k i n) one.grows age at) h.1 in
        record { carries = rest.carries; grows = grows_on n (with_hit fs c age k i n) (with_hits fs c age (suc k) is (with_hit fs c age k i n)) one.grows rest.grows }

    -- a cause, with its age and its event
    record CauseGoes (n n' : FlatModel) : Type 0 where
      goes : Goes n n'
      age : IsStateVariable n' (length n.variables)
      event : IsEventIn n' (record { variable = suc (length n.variables); symbol = suc (length n.symbols) })

    cause_one : (n : FlatModel) → Carries n → IsCauseOf (length fs) c → CauseGoes n (with_cause fs n c)
    cause_one n is of =
        let first : FlatModel = with_age n c in
        let second : FlatModel = with_event first c (length n.variables) in
        let one : Goes n first = aged n is in
        let at : IsStateVariable first (length n.variables) = aged_variable n in
        let two : Goes first second = evented first (length n.variables) one.carries at in
        let at_two : IsStateVariable second (length n.variables) = variable_grown first second two.grows (length n.variables) at in
        let three : Goes second (with_cause fs n c) = hits_all c.strikes second (length n.variables) 1 two.carries at_two of.numbers in
        let place : length first.variables ≡ suc (length n.variables) = length_end n.variables (added_variable (age_name c.name) (range (pos 0) (pos (c.to + 2)))) in
        let symbols : length first.symbols ≡ length n.symbols = ap length (append-nil n.symbols) in
        let there : IsEventIn second (record { variable = suc (length n.variables); symbol = suc (length n.symbols) }) =
        subst (λ v. IsEventIn second (record { variable = v; symbol = suc (length n.symbols) })) place
        (subst (λ s. IsEventIn second (record { variable = length first.variables; symbol = suc s })) symbols (event_there first (length n.variables))) in
        record {
          goes = record {
            carries = three.carries;
            grows = grows_on n first (with_cause fs n c) one.grows (grows_on first second (with_cause fs n c) two.grows three.grows);
          };
          age = variable_grown second (with_cause fs n c) three.grows (length n.variables) at_two;
          event = event_grown second (with_cause fs n c) three.grows (record { variable = suc (length n.variables); symbol = suc (length n.symbols) }) there;
        }

  -- causes, one after another
  record CausesGo (n n' : FlatModel) (cs : List CommonCause) : Type 0 where
    goes : Goes n n'
    ages : Each (IsStateVariable n') (age_numbers (length n.variables) cs)
    events : Each (IsEventIn n') (cause_events (length n.variables) (length n.symbols) cs)

  causes_all : (cs : List CommonCause) (n : FlatModel) → Carries n → Each (IsCauseOf (length fs)) cs → CausesGo n (with_each_cause fs n cs) cs
  causes_all [] n is of = record { goes = record { carries = is; grows = grows_same n }; ages = tt; events = tt }
  causes_all (c ∷ cs) n is of =
      let next : FlatModel = with_cause fs n c in
      let all : FlatModel = with_each_cause fs next cs in
      let one : CauseGoes c n next = cause_one c n is of.0 in
      let rest : CausesGo next all cs = causes_all cs next one.goes.carries of.1 in
      let places : length next.variables ≡ length n.variables + (2 + length c.strikes) = cause_count fs c n in
      let symbols : length next.symbols ≡ suc (suc (length n.symbols)) = cause_symbols fs c n in
      record {
        goes = record { carries = rest.goes.carries; grows = grows_on n next all one.goes.grows rest.goes.grows };
        ages = (variable_grown next all rest.goes.grows (length n.variables) one.age, subst (λ v. Each (IsStateVariable all) (age_numbers v cs)) places rest.ages);
        events = (
          event_grown next all rest.goes.grows (record { variable = suc (length n.variables); symbol = suc (length n.symbols) }) one.event,
          subst (λ v. Each (IsEventIn all) (cause_events v (suc (suc (length n.symbols))) cs)) places
              (subst (λ s. Each (IsEventIn all) (cause_events (length next.variables) s cs)) symbols rest.events),
        );
      }

  -- ---- own events

  joined_names : (n : FlatModel) (i : ℕ) (cs : List CommonCause) (ages : List ℕ) → Each (IsStateVariable n) ages → (e : Tree FlatLeaf) → AllLeaves (IsStateName n) e →
      AllLeaves (IsStateName n) (joined_after e (windows_on i cs ages))
  joined_names n i [] ages at e h = h
  joined_names n i (c ∷ cs) [] at e h = h
  joined_names n i (c ∷ cs) (age ∷ ages) at e h = by_strike (has_number c.strikes i) (joined_names n i cs ages at.1)
    where
      by_strike : (b : Bool) → ((e : Tree FlatLeaf) → AllLeaves (IsStateName n) e → AllLeaves (IsStateName n) (joined_after e (windows_on i cs ages))) →
          AllLeaves (IsStateName n) (joined_after e (cond b (in_window c age ∷ windows_on i cs ages) (windows_on i cs ages)))
      by_strike false more = more e h
      by_strike true more = more (binary op.Or e (in_window c age)) (h, ((at.0, tt), (at.0, tt)))

  window_names : (n : FlatModel) (i : ℕ) (cs : List CommonCause) (ages : List ℕ) → Each (IsStateVariable n) ages → AllLeaves (IsStateName n) (joined (windows_on i cs ages))
  window_names n i [] ages at = tt
  window_names n i (c ∷ cs) [] at = tt
  window_names n i (c ∷ cs) (age ∷ ages) at = by_strike (has_number c.strikes i) (window_names n i cs ages at.1)
    where
      by_strike : (b : Bool) → AllLeaves (IsStateName n) (joined (windows_on i cs ages)) →
          AllLeaves (IsStateName n) (joined (cond b (in_window c age ∷ windows_on i cs ages) (windows_on i cs ages)))
      by_strike false more = more
      by_strike true more = joined_names n i cs ages at.1 (in_window c age) ((at.0, tt), (at.0, tt))

  module _ (cs : List CommonCause) (ages : List ℕ) where
    abbrev own_variable : ℕ → FlatVariable
    own_variable i = added_variable (own_name i) (members (member.Symbol (none_name i) ∷ member.Symbol (self_name i) ∷ []))

    abbrev own_addition : FlatModel → ℕ → Addition
    own_addition n i =
        record {
          variables = own_variable i ∷ [];
          symbols = none_name i ∷ self_name i ∷ [];
          at_first = own_at_first (stands_of fs i) (joined (windows_on i cs ages)) (length n.variables) (length n.symbols) ∷ [];
          at_each = [];
          at_step = own_at_step (stands_of fs i) (joined (windows_on i cs ages)) (length n.variables) (length n.symbols) ∷ [];
        }

    own_one : (n : FlatModel) (i : ℕ) → Carries n → Each (IsStateVariable n) ages → 0 < i → i ≤ length fs → Goes n (with_own fs cs ages i n)
    own_one n i is at low high =
        let a : Addition = own_addition n i in
        let made : FlatModel = with_addition n a in
        let v : IsStateVariable made (length n.variables) = record { variable = own_variable i; is_variable = get_end n.variables (own_variable i); is_state = refl } in
        let st : AllLeaves (IsStateName made) (stands_of fs i) = stands_names made (each_more (IsStateMode n) (IsStateMode made) fs (mode_kept n a) is.modes) i low high in
        let w : AllLeaves (IsStateName made) (joined (windows_on i cs ages)) = window_names made i cs ages (variables_grown n made (grows_added n a) ages at) in
        let two : length (n.symbols ++ none_name i ∷ self_name i ∷ []) ≡ length n.symbols + 2 = length-append n.symbols (none_name i ∷ self_name i ∷ []) in
        record {
          carries = carried n a is
              (record {
                types = (two_listed n.symbols (none_name i) (self_name i), tt);
                state = (refl, tt);
                at_first = ((v, ((st, w), (omega (arith, two), tt), (omega (arith, two), tt))), tt);
                at_each = tt;
                at_step = ((v, (((st, st), w), (omega (arith, two), tt), (omega (arith, two), tt))), tt);
              });
          grows = grows_added n a;
        }

    own_there : (n : FlatModel) (i : ℕ) → IsEventIn (with_own fs cs ages i n) (record { variable = length n.variables; symbol = suc (length n.symbols) })
    own_there n i =
        let two : length (n.symbols ++ none_name i ∷ self_name i ∷ []) ≡ length n.symbols + 2 = length-append n.symbols (none_name i ∷ self_name i ∷ []) in
        record {
          variable = own_variable i;
          first = none_name i;
          second = self_name i;
          is_variable = get_end n.variables (own_variable i);
          declared = refl;
          is_state = refl;
          is_symbol = omega (arith, two);
        }

    record OwnsGo (n n' : FlatModel) (more : List Mode) : Type 0 where
      goes : Goes n n'
      events : Each (IsEventIn n') (own_events (length n.variables) (length n.symbols) more)

    owns_all : (more : List Mode) (n : FlatModel) (i : ℕ) → Carries n → Each (IsStateVariable n) ages → 0 < i → i + length more ≤ length fs + 1 → OwnsGo n (with_owns fs cs ages i more n) more
    owns_all [] n i is at low high = record { goes = record { carries = is; grows = grows_same n }; events = tt }
    owns_all (f ∷ more) n i is at low high =
        let next : FlatModel = with_own fs cs ages i n in
        let all : FlatModel = with_owns fs cs ages (suc i) more next in
        let small : i ≤ length fs = omega (arith, high) in
        let one : Goes n next = own_one n i is at low small in
        let rest : OwnsGo next all more = owns_all more next (suc i) one.carries (variables_grown n next one.grows ages at) (omega arith) (omega (arith, high)) in
        let places : length next.variables ≡ suc (length n.variables) = own_count fs cs ages i n in
        let symbols : length next.symbols ≡ suc (suc (length n.symbols)) = own_symbols fs cs ages i n in
        record {
          goes = record { carries = rest.goes.carries; grows = grows_on n next all one.grows rest.goes.grows };
          events = (
            event_grown next all rest.goes.grows (record { variable = length n.variables; symbol = suc (length n.symbols) }) (own_there n i),
            subst (λ v. Each (IsEventIn all) (own_events v (suc (suc (length n.symbols))) more)) places
                (subst (λ s. Each (IsEventIn all) (own_events (length next.variables) s more)) symbols rest.events),
          );
        }

  each_both : {A : Type 0} (P : A → Type 0) (xs ys : List A) → Each P xs → Each P ys → Each P (xs ++ ys)
  each_both P [] ys h g = g
  each_both P (x ∷ xs) ys h g = (h.0, each_both P xs ys h.1 g)

  -- the model with causes carries all, and its events are such
  pub record StagedGoes (m : FlatModel) (cs : List CommonCause) : Type 0 where
    pub carries : Carries (with_causes m fs cs)
    pub grows : Grows m (with_causes m fs cs)
    pub events : Each (IsEventIn (with_causes m fs cs)) (events_of m fs cs)

  pub staged_goes : (m : FlatModel) (cs : List CommonCause) → Carries m → Each (IsCauseOf (length fs)) cs → StagedGoes m cs
  staged_goes m cs is of =
      let causes : FlatModel = with_each_cause fs m cs in
      let staged : FlatModel = with_causes m fs cs in
      let first : CausesGo m causes cs = causes_all cs m is of in
      let second : OwnsGo cs (age_numbers (length m.variables) cs) causes staged fs =
      owns_all cs (age_numbers (length m.variables) cs) fs causes 1 first.goes.carries first.ages (omega arith) (omega arith) in
      record {
        carries = second.goes.carries;
        grows = grows_on m causes staged first.goes.grows second.goes.grows;
        events = each_both (IsEventIn staged) (own_events (length causes.variables) (length causes.symbols) fs) (cause_events (length m.variables) (length m.symbols) cs) second.events
            (events_grown causes staged second.goes.grows (cause_events (length m.variables) (length m.symbols) cs) first.events);
      }
