-- The model with causes can be searched with its events.
use Rattle.std.proofs.Common.{◌≡◌, ℕ, suc, ◌^◌, ◌≤◌, Bool, true, false, ◌||◌, List, [], ◌∷◌, length, Some, refl, sym, ◌∙◌, ap, subst}
use Rattle.std.specs.Prelude.{slice_get}
use Rattle.smv_language.specs.declared.program.Member.{Member}
use Rattle.smv_language.specs.declared.program.Member.TheVariants as member
use Rattle.smv_language.specs.Language.{Text, DeclaredTree, boolean, range, members, instance, Tree, same_text, Value, symbol, Each, is_member, in_domain, FlatLeaf, FlatVariable, FlatModel}
use Rattle.smv_language.specs.Values.{truth, number}
use Rattle.smv_language.proofs.ValueLaws.{same_text_equal}
use Rattle.smv_flat_laws.specs.History.{Mode, bit_variables, with_history}
use Rattle.smv_flat_laws.specs.FlatTrace.{IsModeOf}
use Rattle.smv_flat_laws.proofs.Lists.{each_more}
use Rattle.smv_flat_laws.proofs.Conditions.{each_at}
use Rattle.sat_encoding_laws.specs.EncodedLaws.{AreOwn}
use Rattle.sat_encoding_laws.specs.Inputs.{is_input}
use Rattle.sat_encoding_laws.specs.Layout.{input_bits}
use Rattle.sat_encoding_laws.specs.Encodable.{IsListedMember, IsListedType, IsEncodable, IsFitTop}
use Rattle.sat_encoding_laws.specs.HistoryBits.{IsStateMode}
use Rattle.sat_encoding_laws.proofs.HistoryEncodable.{history_encodable}
use Rattle.cut_text_laws.specs.TraceOfText.{HasItsSymbols}
use Rattle.fault_cause_laws.specs.Causes.{CommonCause}
use Rattle.fault_cause_laws.specs.StagedModel.{with_causes, events_of}
use Rattle.cut_reach_laws.specs.CausedLaws.{CanHaveCauses, CausedAreSearchable}
use Rattle.fault_cause_laws.proofs.HistoryKinds.{history_addition, history_is}
use Rattle.cut_reach_laws.proofs.Widened.{HasClauses, fit_wide}
use Rattle.cut_reach_laws.proofs.Carried.{IsEventIn, Carries, StagedGoes, staged_goes, same_inputs}
use Rattle.cert_laws.proofs.Own.{own_names, closed_own}
use Rattle.base_values.proofs.ListLaws.{get_within}

-- ---- names

-- ---- symbols of types

member_listed : (symbols : List Text) (ms : List Member) (y : Text) → Each (IsListedMember symbols) ms → is_member ms (symbol y) ≡ true → (k : ℕ) × (slice_get symbols k ≡ Some y)
member_listed symbols [] y h e = cc
member_listed symbols (member.Number n ∷ ms) y h e = member_listed symbols ms y h.1 e
member_listed symbols (member.Symbol x ∷ ms) y h e = by (same_text x y) refl e (λ g. member_listed symbols ms y h.1 g)
  where
    by : (b : Bool) → same_text x y ≡ b → (b || is_member ms (symbol y)) ≡ true → (is_member ms (symbol y) ≡ true → (k : ℕ) × (slice_get symbols k ≡ Some y)) → (k : ℕ) × (slice_get symbols k ≡ Some y)
    by true same g rest = (h.0.0, h.0.1 ∙ ap Some (same_text_equal x y same))
    by false same g rest = rest g

type_listed : (symbols : List Text) (d : DeclaredTree) (y : Text) → IsListedType symbols d → in_domain d (symbol y) ≡ true → (k : ℕ) × (slice_get symbols k ≡ Some y)
type_listed symbols boolean y h e = cc
type_listed symbols (range lo hi) y h e = cc
type_listed symbols (members ms) y h e = member_listed symbols ms y h.1 e
type_listed symbols (instance m actuals) y h e = absurd h

its_symbols : (n : FlatModel) → Each (λ x. IsListedType n.symbols x.declared) n.variables → HasItsSymbols n
its_symbols n types i x y e h = type_listed n.symbols x.declared y (each_at (λ (x : FlatVariable). IsListedType n.symbols x.declared) n.variables i x types e) h

-- ---- events

two_alone : (x y : Text) (v : Value) → is_member (member.Symbol x ∷ member.Symbol y ∷ []) v ≡ true → (z : Text) × (v ≡ symbol z)
two_alone x y (truth b) e = cc
two_alone x y (number n) e = cc
two_alone x y (symbol z) e = (z, refl)

module _ (n : FlatModel) (e : Mode) (is : IsEventIn n e) where
  event_mode_of : IsModeOf n e
  event_mode_of =
      let there = get_within n.symbols e.symbol is.is_symbol in
      record {
        variable = is.variable;
        is_variable = is.is_variable;
        symbols_alone = λ v h. two_alone is.first is.second v (subst (λ d. in_domain d v ≡ true) is.declared h);
        text = there.0;
        is_symbol = there.1;
      }

  event_state_mode : IsStateMode n e
  event_state_mode = record { variable = is.variable; is_variable = is.is_variable; is_state = is.is_state; is_symbol = is.is_symbol }

-- ---- history is of the state

pub bits_of_state : (k : ℕ) (fs : List Mode) → Each (λ x. is_input x.role ≡ false) (bit_variables k fs)
bits_of_state k [] = tt
bits_of_state k (f ∷ fs) = (refl, bits_of_state (suc k) fs)

-- ---- the law

carries_of : (m : FlatModel) (fs : List Mode) (cs : List CommonCause) (top : Tree FlatLeaf) → CanHaveCauses m fs cs top → Carries fs top m
carries_of m fs cs top can =
    let e = can.encodable in
    record {
      clauses = record { closed = e.closed; types = e.types; at_first = e.at_first; at_each = e.at_each; at_step = e.at_step };
      fits = can.fits;
      modes = can.modes;
      inputs = can.few_inputs;
    }

pub caused_searchable : CausedAreSearchable
caused_searchable m fs cs top can symbols typed whole =
    let n : FlatModel = with_causes m fs cs in
    let es : List Mode = events_of m fs cs in
    let goes : StagedGoes fs top m cs = staged_goes fs top m cs (carries_of m fs cs top can) can.causes in
    let c : HasClauses n = goes.carries.clauses in
    let plain : IsEncodable n =
    record { closed = c.closed; typed = typed; symbols = symbols; types = c.types; at_first = c.at_first; at_each = c.at_each; at_step = c.at_step } in
    let own : AreOwn n es top =
    record {
      names_own = closed_own n c.closed;
      modes = each_more (IsEventIn n) (IsModeOf n) es (event_mode_of n) goes.events;
      top_own = own_names (length n.variables) (length n.symbols) (length n.definitions) top goes.carries.fits.own;
    } in
    let inputs : input_bits (with_history n es) ≡ input_bits n =
    sym (ap input_bits (history_is n es)) ∙ same_inputs n (history_addition n es) c.types (bits_of_state 0 es) in
    record {
      searchable = record {
        own = own;
        encodable = history_encodable n es plain (each_more (IsEventIn n) (IsStateMode n) es (event_state_mode n) goes.events) whole;
        fits = subst (λ k. IsFitTop k top) (history_is n es) (fit_wide n (history_addition n es) c.closed top goes.carries.fits);
        few_inputs = subst (λ k. k ≤ 2 ^ 30) (sym inputs) goes.carries.inputs;
        small_top = can.small_top;
      };
      encodable = plain;
      symbols = its_symbols n c.types;
      fits = goes.carries.fits;
    }
