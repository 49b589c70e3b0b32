-- The staged model can be searched.
use Rattle.std.proofs.Common.{◌≡◌, ℕ, suc, ◌+◌, ◌-◌, ◌^◌, ◌<◌, ◌≤◌, List, [], Option, length, codes, sym, ◌∙◌, ap, subst, arith}
use Rattle.base_values.specs.declared.limits.TheConstants.{MOST_FAULTS, MOST_TOP_COST}
use Rattle.smv_language.specs.Language.{Tree, FlatLeaf, FlatModel}
use Rattle.smv_flat_laws.specs.History.{Mode, with_history}
use Rattle.smv_flat_laws.proofs.HistoryLaws.{no_bits, all_variables as with_bits}
use Rattle.smv_flat_laws.proofs.Lists.{length_end}
use Rattle.smv_type_laws.specs.Costs.{cost_of}
use Rattle.smv_type_laws.specs.Models.{IsTyped}
use Rattle.sat_encoding_laws.specs.Layout.{input_bits}
use Rattle.sat_encoding_laws.specs.Encodable.{IsEncodable, IsStateBoolean, IsFitTop}
use Rattle.sat_encoding_laws.proofs.HistoryPlaces.{is_bit}
use Rattle.cut_search_laws.specs.Searchable.{IsSearchable}
use Rattle.fault_orders.specs.declared.Relation.{Relation}
use Rattle.fault_orders.specs.Stage.{order_variable, with_order, bit_number, stage, with_set, with_claim, against}
use Rattle.cut_reach_laws.specs.Laws.{IsFaultNumber, StagedAreSearchable}
use Rattle.cut_reach_laws.proofs.Grown.{HasClauses}
use Rattle.cut_reach_laws.proofs.Fits.{fit_set, fit_claim, set_cost, claim_cost}
use Rattle.cut_reach_laws.proofs.Ordered.{boolean_kept, boolean_added, clauses_kept, fit_kept, no_more_inputs}
use Rattle.cert_laws.proofs.Own.{own_names, closed_own}
use Rattle.sat_encoding_laws.specs.Variables.{most_asked_cost}

pub staged_length : (m : FlatModel) (fs : List Mode) (i j : ℕ) → length (stage m fs i j).variables ≡ suc (suc (length m.variables + length fs))
staged_length m fs i j =
    length_end (with_order (codes "ahead") (bit_number m i) (bit_number m j) (with_history m fs)).variables (order_variable (codes "behind"))
    ∙ ap suc (length_end (with_history m fs).variables (order_variable (codes "ahead")))
    ∙ ap (λ n. suc (suc n)) (with_bits m fs)

module _ (m : FlatModel) (fs : List Mode) (top : Tree FlatLeaf) (is : IsSearchable m fs top) (first second : ℕ) (one : IsFaultNumber (length fs) first) (other : IsFaultNumber (length fs) second) where
  abbrev base : FlatModel
  base = with_history m fs

  abbrev middle : FlatModel
  middle = with_order (codes "ahead") (bit_number m first) (bit_number m second) base

  abbrev staged : FlatModel
  staged = stage m fs first second

  all_bits : length base.variables ≡ length m.variables + length fs
  all_bits = with_bits m fs

  one_more : length middle.variables ≡ suc (length base.variables)
  one_more = length_end base.variables (order_variable (codes "ahead"))

  two_more : length staged.variables ≡ suc (suc (length base.variables))
  two_more = length_end middle.variables (order_variable (codes "behind")) ∙ ap suc one_more

  bit_in : (i : ℕ) → IsFaultNumber (length fs) i → IsStateBoolean base (bit_number m i)
  bit_in i of = let below : i - 1 < length fs = let a = of.counts in let b = of.within in omega (arith, a, b) in is_bit m fs (i - 1) below

  clauses : HasClauses base
  clauses =
      let e = is.encodable in
      record { closed = e.closed; symbols = e.symbols; types = e.types; at_first = e.at_first; at_each = e.at_each; at_step = e.at_step }

  middle_clauses : HasClauses middle
  middle_clauses = clauses_kept (codes "ahead") (bit_number m first) (bit_number m second) base clauses (bit_in first one) (bit_in second other)

  in_middle : (i : ℕ) → IsStateBoolean base i → IsStateBoolean middle i
  in_middle i b = boolean_kept (codes "ahead") (bit_number m first) (bit_number m second) base i b

  in_staged : (i : ℕ) → IsStateBoolean middle i → IsStateBoolean staged i
  in_staged i b = boolean_kept (codes "behind") (bit_number m second) (bit_number m first) middle i b

  staged_clauses : HasClauses staged
  staged_clauses =
      clauses_kept (codes "behind") (bit_number m second) (bit_number m first) middle middle_clauses (in_middle (bit_number m second) (bit_in second other)) (in_middle (bit_number m first) (bit_in first one))

  history_bits : (j : ℕ) → length m.variables ≤ j → j < length m.variables + length fs → IsStateBoolean staged j
  history_bits j from to =
      let at : length m.variables + (j - length m.variables) ≡ j = omega arith in
      in_staged j (in_middle j (subst (IsStateBoolean base) at (is_bit m fs (j - length m.variables) (omega arith))))

  ahead_there : IsStateBoolean staged (length base.variables)
  ahead_there = in_staged (length base.variables) (boolean_added (codes "ahead") (bit_number m first) (bit_number m second) base)

  behind_there : IsStateBoolean staged (suc (length base.variables))
  behind_there = subst (IsStateBoolean staged) one_more (boolean_added (codes "behind") (bit_number m second) (bit_number m first) middle)

  top_fits : IsFitTop staged top
  top_fits =
      fit_kept (codes "behind") (bit_number m second) (bit_number m first) middle middle_clauses.closed top
      (fit_kept (codes "ahead") (bit_number m first) (bit_number m second) base is.encodable.closed top is.fits)

  ahead_place : length staged.variables - 2 ≡ length base.variables
  ahead_place = omega (arith, two_more)

  module _ (set : List ℕ) (claim : Option Relation) where
    -- what speaks against the claim, where `ahead` has this number
    abbrev speaks : ℕ → Tree FlatLeaf
    speaks ahead = with_claim ahead claim (with_set (ahead - length fs) 1 (length fs) set top)

    at_place : against staged (length fs) top set claim ≡ speaks (length base.variables)
    at_place = ap speaks ahead_place

    speaks_fit : IsFitTop staged (against staged (length fs) top set claim)
    speaks_fit =
        let start : length base.variables - length fs ≡ length m.variables = omega (arith, all_bits) in
        subst (IsFitTop staged) (sym at_place)
        (fit_claim staged (length base.variables) claim (with_set (length base.variables - length fs) 1 (length fs) set top) ahead_there behind_there
        (fit_set staged (length base.variables - length fs) 1 (length fs) set top (λ j from to. history_bits j (omega (arith, start, from)) (omega (arith, start, to))) top_fits))

    speaks_small : cost_of top ≤ MOST_TOP_COST → length fs ≤ MOST_FAULTS → cost_of (against staged (length fs) top set claim) ≤ most_asked_cost
    speaks_small cost few =
        let of_set = set_cost (length base.variables - length fs) 1 (length fs) set top in
        let of_claim = claim_cost (length base.variables) claim (with_set (length base.variables - length fs) 1 (length fs) set top) in
        subst (λ e. cost_of e ≤ most_asked_cost) (sym at_place) (omega (arith, cost, few, of_set, of_claim))

  few_inputs : input_bits staged ≤ 2 ^ 30
  few_inputs =
      let last = no_more_inputs (codes "behind") (bit_number m second) (bit_number m first) middle in
      let before = no_more_inputs (codes "ahead") (bit_number m first) (bit_number m second) base in
      let few = is.few_inputs in
      omega (arith, last, before, few)

  encodable : IsTyped staged → IsEncodable staged
  encodable typed =
      let c = staged_clauses in
      record { closed = c.closed; typed = typed; symbols = c.symbols; types = c.types; at_first = c.at_first; at_each = c.at_each; at_step = c.at_step }

-- what is asked of a model without faults, over the model itself
without_faults : (n : FlatModel) (e : Tree FlatLeaf) → IsEncodable n → IsFitTop n e → input_bits n ≤ 2 ^ 30 → cost_of e ≤ most_asked_cost → IsSearchable n [] e
without_faults n e is fits inputs small =
    let none : n ≡ with_history n [] = sym (no_bits n) in
    record {
      own = record {
        names_own = closed_own n is.closed;
        modes = tt;
        top_own = own_names (length n.variables) (length n.symbols) (length n.definitions) e fits.own;
      };
      encodable = subst IsEncodable none is;
      fits = subst (λ k. IsFitTop k e) none fits;
      few_inputs = subst (λ k. input_bits k ≤ 2 ^ 30) none inputs;
      small_top = small;
    }

pub staged_searchable : StagedAreSearchable
staged_searchable m fs top is cost few first second one other typed set claim =
    without_faults (stage m fs first second) (against (stage m fs first second) (length fs) top set claim) (encodable m fs top is first second one other typed)
    (speaks_fit m fs top is first second one other set claim) (few_inputs m fs top is first second one other) (speaks_small m fs top is first second one other set claim cost few)
