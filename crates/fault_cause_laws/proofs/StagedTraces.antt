-- The traces of the staged model are exactly the caused traces.
use Rattle.std.proofs.Common.{◌≡◌, ℕ, zero, suc, ◌+◌, ◌-◌, ◌<◌, ◌≤◌, List, [], ◌∷◌, length, Option, Some, refl, ap, ◌∙◌, sym, subst, arith}
use Rattle.std.specs.Prelude.{slice_get, slice_index_or, IsTrue, ◌↔◌}
use Rattle.smv_language.specs.Language.{Text, Value, symbol, same_text, text_or_none, Each, in_domain, FlatModel}
use Rattle.smv_flat_laws.specs.FlatTrace.{AreInDomains, IsFlatMoment, IsFlatTrace, IsModeOf, is_symbol_value}
use Rattle.smv_flat_laws.specs.History.{Mode}
use Rattle.smv_flat_laws.proofs.Conditions.{each_at}
use Rattle.fault_cause_laws.specs.Additions.{KnowsNames}
use Rattle.fault_cause_laws.proofs.Columns.{EachFrom}
use Rattle.fault_cause_laws.specs.Causes.{CommonCause, IsCauseOf}
use Rattle.fault_cause_laws.specs.CausedEvents.{AreCaused}
use Rattle.fault_cause_laws.specs.StagedModel.{mode_of, with_cause, with_each_cause, with_causes, age_numbers}
use Rattle.fault_cause_laws.specs.StagedValues.{stands_there, stands_at, causes_told, owns_told, caused_told}
use Rattle.fault_cause_laws.specs.Laws.{AreStaged, IsCausedTrace}
use Rattle.fault_cause_laws.proofs.HitColumn.{ReadsMode}
use Rattle.fault_cause_laws.proofs.Known.{IsReady, Knows, from_each}
use Rattle.fault_cause_laws.proofs.OneCause.{cause_count}
use Rattle.fault_cause_laws.proofs.EachCause.{WithAges, causes_ready, causes_known, causes_backward, CausesTold, causes_forward}
use Rattle.fault_cause_laws.proofs.Owns.{AreVariables, OwnsTold, owns_forward, owns_backward}
use Rattle.std.proofs.lemmas.Option.{slice_get_within as within_of}
use Rattle.smv_flat_laws.proofs.HistoryTraces.{domain_at, domains_length}

-- the mode of a number is one of the list
pub mode_there : (fs : List Mode) (j : ℕ) (d : Mode) → j < length fs → slice_get fs j ≡ Some (slice_index_or fs j d)
mode_there [] j d h = absurd (omega arith)
mode_there (f ∷ fs) zero d h = refl
mode_there (f ∷ fs) (suc j) d h = mode_there fs j d (omega arith)

module _ (m : FlatModel) (fs : List Mode) (modes : Each (IsModeOf m) fs) where
  abbrev pub wanted : ℕ → Text
  wanted i = text_or_none (slice_get m.symbols (mode_of fs i).symbol)

  mode_is : (i : ℕ) → 0 < i → i ≤ length fs → IsModeOf m (mode_of fs i)
  mode_is i low high = each_at (IsModeOf m) fs (i - 1) (mode_of fs i) modes (mode_there fs (i - 1) (record { variable = 0; symbol = 0 }) (omega arith))

  pub is_ready : KnowsNames m → IsReady fs wanted m
  is_ready knows =
      record {
        knows = knows;
        symbol_of_mode = λ i low high. let is : IsModeOf m (mode_of fs i) = mode_is i low high in is.is_symbol ∙ ap (λ o. Some (text_or_none o)) (sym is.is_symbol);
        variable_of_mode = λ i low high. let is : IsModeOf m (mode_of fs i) = mode_is i low high in within_of m.variables (mode_of fs i).variable is.variable is.is_variable;
      }

  pub reads_mode : (trace : List (List Value)) (k i : ℕ) (v : List Value) → 0 < i → i ≤ length fs → slice_get trace k ≡ Some v → AreInDomains m.variables v → ReadsMode fs i (wanted i) (stands_at m fs trace) k v
  reads_mode trace k i v low high there dom =
      let is : IsModeOf m (mode_of fs i) = mode_is i low high in
      let b : (b : Value) × (slice_get v (mode_of fs i).variable ≡ Some b) × IsTrue (in_domain is.variable.declared b) = domain_at m.variables v (mode_of fs i).variable is.variable dom is.is_variable in
      let x : (x : Text) × (b.0 ≡ symbol x) = is.symbols_alone b.0 b.2 in
      let has : slice_get v (mode_of fs i).variable ≡ Some (symbol x.0) = b.1 ∙ ap Some x.1 in
      record {
        text = x.0;
        has = has;
        tells = sym (ap (stands_there m (mode_of fs i)) there ∙ tells (slice_get m.symbols (mode_of fs i).symbol) (slice_get v (mode_of fs i).variable) x.0 is.text is.is_symbol has);
      }
    where
      tells : (o : Option Text) (p : Option Value) (x w : Text) → o ≡ Some w → p ≡ Some (symbol x) → is_symbol_value o p ≡ same_text x (text_or_none o)
      tells o p x w e g = rw (e, g) refl

  -- what is known of a trace of the model
  pub known_trace : (trace : List (List Value)) → Each (IsFlatMoment m) trace → EachFrom (Knows fs wanted (stands_at m fs trace) (length trace) (λ k v. Unit {0}) (length m.variables)) 0 trace
  known_trace trace moments =
      from_each (Knows fs wanted (stands_at m fs trace) (length trace) (λ k v. Unit {0}) (length m.variables)) 0 trace
      (λ j i v e there.
      let same : j ≡ i = omega arith in
      let at : slice_get trace i ≡ Some v = subst (λ x. slice_get trace x ≡ Some v) same there in
      let moment : IsFlatMoment m v = each_at (IsFlatMoment m) trace i v moments at in
      record {
        sized = domains_length m.variables v moment.domains;
        within = within_of trace i v at;
        modes = λ n low high. reads_mode trace i n v low high at moment.domains;
        more = tt;
      })

-- ages are variables of the model with causes
ages_below : (fs : List Mode) (wanted : ℕ → Text) (cs : List CommonCause) (m : FlatModel) → Each (IsCauseOf (length fs)) cs → (length m.variables ≤ length (with_each_cause fs m cs).variables) × AreVariables (length (with_each_cause fs m cs).variables) (age_numbers (length m.variables) cs)
ages_below fs wanted [] m are = (omega arith, tt)
ages_below fs wanted (c ∷ cs) m are =
    let e : length (with_cause fs m c).variables ≡ length m.variables + (2 + length c.strikes) = cause_count fs wanted c are.0 m in
    let rest : (length (with_cause fs m c).variables ≤ length (with_each_cause fs (with_cause fs m c) cs).variables)
    × AreVariables (length (with_each_cause fs (with_cause fs m c) cs).variables) (age_numbers (length (with_cause fs m c).variables) cs) =
    ages_below fs wanted cs (with_cause fs m c) are.1 in
    let small : length (with_cause fs m c).variables ≤ length (with_each_cause fs (with_cause fs m c) cs).variables = rest.0 in
    (omega arith, (omega arith, subst (λ x. AreVariables (length (with_each_cause fs (with_cause fs m c) cs).variables) (age_numbers x cs)) e rest.1))

module _ (m : FlatModel) (fs : List Mode) (cs : List CommonCause) (are : AreStaged m fs cs) where
  abbrev text : ℕ → Text
  text = wanted m fs are.modes

  abbrev nothing : ℕ → List Value → Type 0
  nothing k v = Unit {0}

  abbrev caused_model : FlatModel
  caused_model = with_each_cause fs m cs

  ready : IsReady fs text m
  ready = is_ready m fs are.modes are.knows

  ready' : IsReady fs text caused_model
  ready' = causes_ready fs text cs m are.causes ready

  forward : (long : List (List Value)) → IsFlatTrace (with_causes m fs cs) long →
      (trace : List (List Value)) × (times : List (Option ℕ)) × IsCausedTrace m fs cs trace times × (long ≡ caused_told m fs cs trace times)
  forward long h =
      let owns : OwnsTold fs text cs (age_numbers (length m.variables) cs) caused_model 1 fs long =
      owns_forward fs text cs (age_numbers (length m.variables) cs) fs caused_model 1 (omega arith) (omega arith) (ages_below fs text cs m are.causes).1 ready' long h in
      let causes : CausesTold fs text cs m owns.part = causes_forward fs text cs m are.causes ready owns.part owns.is_trace in
      let trace : List (List Value) = causes.part in
      let known : EachFrom (Knows fs text (stands_at m fs trace) (length trace) nothing (length m.variables)) 0 trace = known_trace m fs are.modes trace causes.is_trace.moments in
      let told : (times : List (Option ℕ)) × AreCaused (length trace) (λ k i. IsTrue (stands_at m fs trace k i)) cs times × (owns.part ≡ causes_told (stands_at m fs trace) cs times trace) =
      causes.told (stands_at m fs trace) (length trace) nothing (λ k v b x. tt) refl known in
      let known' : EachFrom (Knows fs text (stands_at m fs trace) (length trace) (WithAges cs told.0 (age_numbers (length m.variables) cs) nothing) (length caused_model.variables)) 0 owns.part =
      subst (λ us. EachFrom (Knows fs text (stands_at m fs trace) (length trace) (WithAges cs told.0 (age_numbers (length m.variables) cs) nothing) (length caused_model.variables)) 0 us) (sym told.2)
      (causes_known fs text (stands_at m fs trace) (length trace) cs told.0 m nothing (λ k v b x. tt) are.causes trace told.1 known) in (
        trace,
        told.0,
        record { is_trace = causes.is_trace; caused = told.1 },
        owns.told (stands_at m fs trace) (length trace) told.0 nothing (λ k v b x. tt) known' ∙ ap (owns_told (stands_at m fs trace) cs told.0 1 fs) told.2,
      )

  pub told_is_trace : (trace : List (List Value)) (times : List (Option ℕ)) → IsCausedTrace m fs cs trace times → IsFlatTrace (with_causes m fs cs) (caused_told m fs cs trace times)
  told_is_trace trace times is =
      let known : EachFrom (Knows fs text (stands_at m fs trace) (length trace) nothing (length m.variables)) 0 trace = known_trace m fs are.modes trace is.is_trace.moments in
      owns_backward fs text cs (age_numbers (length m.variables) cs) fs caused_model 1 (omega arith) (omega arith) (ages_below fs text cs m are.causes).1 ready' (stands_at m fs trace) (length trace) times nothing (λ k v b x. tt)
      (causes_told (stands_at m fs trace) cs times trace)
      (causes_backward fs text (stands_at m fs trace) (length trace) cs times m nothing (λ k v b x. tt) are.causes ready trace is.is_trace is.caused known)
      (causes_known fs text (stands_at m fs trace) (length trace) cs times m nothing (λ k v b x. tt) are.causes trace is.caused known)

  pub staged_traces : (long : List (List Value)) →
      (IsFlatTrace (with_causes m fs cs) long ↔ ((trace : List (List Value)) × (times : List (Option ℕ)) × IsCausedTrace m fs cs trace times × (long ≡ caused_told m fs cs trace times)))
  staged_traces long = (forward long, λ h. subst (IsFlatTrace (with_causes m fs cs)) (sym h.3) (told_is_trace h.0 h.1 h.2))
