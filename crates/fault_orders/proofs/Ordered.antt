-- The traces of the staged model are those of the model, with their history and what the two booleans tell.
use Rattle.std.proofs.Common.{◌≡◌, ℕ, suc, ◌+◌, ◌-◌, ◌<◌, Bool, List, [], ◌∷◌, ◌++◌, length, take, Some, refl, ap, ◌∙◌, sym, subst, arith}
use Rattle.std.proofs.lemmas.List.{append_assoc, length-append, length-map}
use Rattle.std.specs.Prelude.{slice_get, codes, ◌↔◌}
use Rattle.smv_language.specs.Language.{Value, Each, FlatModel}
use Rattle.smv_language.specs.Values.{truth}
use Rattle.smv_flat_laws.specs.History.{Mode, with_history}
use Rattle.smv_flat_laws.specs.FlatTrace.{IsFlatMoment, IsFlatTrace, IsModeOf, stands_in_some, bits_after, told_from}
use Rattle.smv_flat_laws.proofs.Lists.{length_end}
use Rattle.smv_flat_laws.proofs.HistoryTraces.{history_exactly, domains_length}
use Rattle.fault_cause_laws.specs.Additions.{KnowsNames, beside, AreAdded}
use Rattle.fault_cause_laws.specs.Columns.{with_values, with_value}
use Rattle.fault_cause_laws.proofs.Traces.{taken_apart}
use Rattle.fault_cause_laws.proofs.Columns.{EachFrom, grown, one_added, forced, fitting}
use Rattle.fault_cause_laws.proofs.AddedKnown.{knows_added, names_own, knows_history}
use Rattle.std.proofs.lemmas.Option.{slice_get_within as within_of}
use Rattle.fault_orders.specs.Stage.{order_variable, order_at_first, order_at_step, with_order, bit_number, stage}
use Rattle.fault_orders.specs.RelationValues.{order_value, ordered_told}
use Rattle.fault_orders.specs.Laws.{ArePair}
use Rattle.fault_orders.proofs.Booleans.{ordered, KnowsTwo, is_forced, does_fit, begins_ordered}
use Rattle.sat_encoding_laws.proofs.HistoryPlaces.{get_past as get_after}
use Rattle.smv_flat_laws.proofs.HistoryLaws.{all_variables as history_variables}
use Rattle.smv_language.proofs.ListLaws.{get_map}
use Rattle.base_values.proofs.ListLaws.{get_left}

take_so_far : (before : List (List Value)) (v : List Value) (vs : List (List Value)) → take (suc (length before)) (before ++ v ∷ vs) ≡ before ++ v ∷ []
take_so_far [] v vs = refl
take_so_far (w ∷ before) v vs = ap (λ us. w ∷ us) (take_so_far before v vs)

-- the bits of two faults in a trace with history
module _ (m : FlatModel) (fs : List Mode) (i j : ℕ) (f g : Mode) (is_f : slice_get fs i ≡ Some f) (is_g : slice_get fs j ≡ Some g) where
  abbrev own_count : ℕ
  own_count = length m.variables

  bit_there : (h : Mode) (k : ℕ) → slice_get fs k ≡ Some h → (v : List Value) (moments : List (List Value)) → length v ≡ own_count →
      slice_get (v ++ bits_after m fs moments) (own_count + k) ≡ Some (truth (stands_in_some m h moments))
  bit_there h k is v moments e =
      ap (λ x. slice_get (v ++ bits_after m fs moments) (x + k)) (sym e) ∙ get_after v (bits_after m fs moments) k ∙ get_map (λ f. truth (stands_in_some m f moments)) fs k h is

  pub told_known : (before vs : List (List Value)) → Each (IsFlatMoment m) vs →
      EachFrom (KnowsTwo (own_count + length fs) (own_count + i) (own_count + j) (λ k. stands_in_some m f (take (suc k) (before ++ vs))) (λ k. stands_in_some m g (take (suc k) (before ++ vs)))) (length before) (told_from m fs before vs)
  told_known before [] moments = tt
  told_known before (v ∷ vs) moments =
      let e : length v ≡ own_count = domains_length m.variables v moments.0.domains in
      let now : take (suc (length before)) (before ++ v ∷ vs) ≡ before ++ v ∷ [] = take_so_far before v vs in
      let all : (before ++ v ∷ []) ++ vs ≡ before ++ v ∷ vs = append_assoc before (v ∷ []) vs in (
        record {
          long = length-append v (bits_after m fs (before ++ v ∷ [])) ∙ ap (λ x. x + length (bits_after m fs (before ++ v ∷ []))) e ∙ ap (λ x. own_count + x) (length-map fs (λ f. truth (stands_in_some m f (before ++ v ∷ []))));
          one = bit_there f i is_f v (before ++ v ∷ []) e ∙ ap (λ us. Some (truth (stands_in_some m f us))) (sym now);
          other = bit_there g j is_g v (before ++ v ∷ []) e ∙ ap (λ us. Some (truth (stands_in_some m g us))) (sym now);
        },
        subst (λ k. EachFrom (KnowsTwo (own_count + length fs) (own_count + i) (own_count + j) (λ k. stands_in_some m f (take (suc k) (before ++ v ∷ vs))) (λ k. stands_in_some m g (take (suc k) (before ++ v ∷ vs)))) k (told_from m fs (before ++ v ∷ []) vs))
            (length_end before v)
            (subst (λ us. EachFrom (KnowsTwo (own_count + length fs) (own_count + i) (own_count + j) (λ k. stands_in_some m f (take (suc k) us)) (λ k. stands_in_some m g (take (suc k) us))) (length (before ++ v ∷ [])) (told_from m fs (before ++ v ∷ []) vs))
            all (told_known (before ++ v ∷ []) vs moments.1)),
      )

-- one more value, where two are known, and the same two the other way round
known_longer : (n x y : ℕ) (p q : ℕ → Bool) (value : ℕ → Value) (k : ℕ) (v : List Value) → KnowsTwo n x y p q k v → KnowsTwo (n + 1) y x q p k (v ++ value k ∷ [])
known_longer n x y p q value k v h =
    record {
      long = length-append v (value k ∷ []) ∙ ap (λ l. l + 1) h.long;
      one = get_left v (value k ∷ []) y (truth (q k)) h.other;
      other = get_left v (value k ∷ []) x (truth (p k)) h.one;
    }

same_values : (p q : ℕ → Value) (k : ℕ) (vs : List (List Value)) → ((j : ℕ) → p j ≡ q j) → with_values p k vs ≡ with_values q k vs
same_values p q k [] h = refl
same_values p q k (v ∷ vs) h = joined (v ++ p k ∷ []) (v ++ q k ∷ []) (with_values p (suc k) vs) (with_values q (suc k) vs) (ap (λ b. v ++ b ∷ []) (h k)) (same_values p q (suc k) vs h)
  where
    joined : (u v : List Value) (us vs : List (List Value)) → u ≡ v → us ≡ vs → (u ∷ us) ≡ (v ∷ vs)
    joined u v us vs e g = cc

module _ (m : FlatModel) (fs : List Mode) (first second : ℕ) (f g : Mode) (knows : KnowsNames m) (modes : Each (IsModeOf m) fs) (pair : ArePair fs first second f g) where
  abbrev x : ℕ
  x = bit_number m first

  abbrev y : ℕ
  y = bit_number m second

  abbrev base : FlatModel
  base = with_history m fs

  abbrev middle : FlatModel
  middle = with_order (codes "ahead") x y base

  abbrev n : ℕ
  n = length base.variables

  n_is : n ≡ length m.variables + length fs
  n_is = history_variables m fs

  middle_is : length middle.variables ≡ n + 1
  middle_is = length-append base.variables (order_variable (codes "ahead") ∷ [])

  knows_base : KnowsNames base
  knows_base = knows_history m fs knows modes

  x_small : x < n
  x_small = let a : first - 1 < length fs = within_of fs (first - 1) f pair.is_first in let b : n ≡ length m.variables + length fs = n_is in omega arith

  y_small : y < n
  y_small = let a : second - 1 < length fs = within_of fs (second - 1) g pair.is_second in let b : n ≡ length m.variables + length fs = n_is in omega arith

  knows_middle : KnowsNames middle
  knows_middle =
      let a : x < n = x_small in
      let b : y < n = y_small in
      knows_added base (one_added (order_variable (codes "ahead")) [] (order_at_first n x y ∷ []) [] (order_at_step n x y ∷ [])) knows_base
      (record { at_first = ((omega arith, (omega arith, (omega arith, tt))), tt); at_each = tt; at_step = ((omega arith, (omega arith, (omega arith, (omega arith, tt)))), tt) })

  -- the values of a trace
  abbrev p : List (List Value) → ℕ → Bool
  p trace k = stands_in_some m f (take (suc k) trace)

  abbrev q : List (List Value) → ℕ → Bool
  q trace k = stands_in_some m g (take (suc k) trace)

  told_two : (trace : List (List Value)) → IsFlatTrace m trace → EachFrom (KnowsTwo n x y (p trace) (q trace)) 0 (told_from m fs [] trace)
  told_two trace is =
      subst (λ k. EachFrom (KnowsTwo k x y (p trace) (q trace)) 0 (told_from m fs [] trace)) (sym n_is)
      (told_known m fs (first - 1) (second - 1) f g pair.is_first pair.is_second [] trace is.moments)

  abbrev ahead : List (List Value) → ℕ → Value
  ahead trace k = truth (ordered (p trace) (q trace) k)

  abbrev behind : List (List Value) → ℕ → Value
  behind trace k = truth (ordered (q trace) (p trace) k)

  middle_two : (trace : List (List Value)) → IsFlatTrace m trace →
      EachFrom (KnowsTwo (length middle.variables) y x (q trace) (p trace)) 0 (with_value (ahead trace) (told_from m fs [] trace))
  middle_two trace is =
      subst (λ k. EachFrom (KnowsTwo k y x (q trace) (p trace)) 0 (with_value (ahead trace) (told_from m fs [] trace))) (sym middle_is)
      (grown (KnowsTwo n x y (p trace) (q trace)) (KnowsTwo (n + 1) y x (q trace) (p trace)) (ahead trace) 0 (told_from m fs [] trace) (λ k v h. known_longer n x y (p trace) (q trace) (ahead trace) k v h) (told_two trace is))

  -- what is told, by the two bits
  told_is : (trace : List (List Value)) → ordered_told m fs f g trace ≡ with_value (behind trace) (with_value (ahead trace) (told_from m fs [] trace))
  told_is trace =
      ap (with_value (order_value m g f trace)) (same_values (order_value m f g trace) (ahead trace) 0 (told_from m fs [] trace) (λ k. ap truth (begins_ordered m f g trace k)))
      ∙ same_values (order_value m g f trace) (behind trace) 0 (with_value (ahead trace) (told_from m fs [] trace)) (λ k. ap truth (begins_ordered m g f trace k))

  forward : (long : List (List Value)) → IsFlatTrace (stage m fs first second) long → (trace : List (List Value)) × IsFlatTrace m trace × (long ≡ ordered_told m fs f g trace)
  forward long is =
      let last : (part : List (List Value)) × (more : List (List Value)) × IsFlatTrace middle part
      × AreAdded middle (one_added (order_variable (codes "behind")) [] (order_at_first (length middle.variables) y x ∷ []) [] (order_at_step (length middle.variables) y x ∷ [])) part more
      × (long ≡ beside part more) =
      taken_apart middle (one_added (order_variable (codes "behind")) [] (order_at_first (length middle.variables) y x ∷ []) [] (order_at_step (length middle.variables) y x ∷ [])) knows_middle long is in
      let first_part : (part : List (List Value)) × (more : List (List Value)) × IsFlatTrace base part
      × AreAdded base (one_added (order_variable (codes "ahead")) [] (order_at_first n x y ∷ []) [] (order_at_step n x y ∷ [])) part more
      × (last.0 ≡ beside part more) =
      taken_apart base (one_added (order_variable (codes "ahead")) [] (order_at_first n x y ∷ []) [] (order_at_step n x y ∷ [])) knows_base last.0 last.2 in
      let told : (trace : List (List Value)) × IsFlatTrace m trace × (first_part.0 ≡ told_from m fs [] trace) = (history_exactly m fs (names_own m knows) modes first_part.0).0 first_part.2 in
      let trace : List (List Value) = told.0 in
      let known : EachFrom (KnowsTwo n x y (p trace) (q trace)) 0 first_part.0 = subst (λ us. EachFrom (KnowsTwo n x y (p trace) (q trace)) 0 us) (sym told.2) (told_two trace told.1) in
      let ahead_is : last.0 ≡ with_value (ahead trace) (told_from m fs [] trace) =
      first_part.4 ∙ forced base (order_variable (codes "ahead")) [] (order_at_first n x y ∷ []) [] (order_at_step n x y ∷ []) (KnowsTwo n x y (p trace) (q trace)) (ahead trace)
      (is_forced base (codes "ahead") x y (p trace) (q trace)) first_part.0 first_part.1 known first_part.3
      ∙ ap (with_value (ahead trace)) told.2 in
      let known' : EachFrom (KnowsTwo (length middle.variables) y x (q trace) (p trace)) 0 last.0 =
      subst (λ us. EachFrom (KnowsTwo (length middle.variables) y x (q trace) (p trace)) 0 us) (sym ahead_is) (middle_two trace told.1) in (
        trace,
        told.1,
        last.4 ∙ forced middle (order_variable (codes "behind")) [] (order_at_first (length middle.variables) y x ∷ []) [] (order_at_step (length middle.variables) y x ∷ [])
            (KnowsTwo (length middle.variables) y x (q trace) (p trace)) (behind trace) (is_forced middle (codes "behind") y x (q trace) (p trace)) last.0 last.1 known' last.3
            ∙ ap (with_value (behind trace)) ahead_is ∙ sym (told_is trace),
      )

  backward : (trace : List (List Value)) → IsFlatTrace m trace → IsFlatTrace (stage m fs first second) (ordered_told m fs f g trace)
  backward trace is =
      let told : IsFlatTrace base (told_from m fs [] trace) = (history_exactly m fs (names_own m knows) modes (told_from m fs [] trace)).1 (trace, is, refl) in
      let part : IsFlatTrace middle (with_value (ahead trace) (told_from m fs [] trace)) =
      fitting base (order_variable (codes "ahead")) [] (order_at_first n x y ∷ []) [] (order_at_step n x y ∷ []) (KnowsTwo n x y (p trace) (q trace)) (ahead trace) knows_base
      (does_fit base (codes "ahead") x y (p trace) (q trace)) (told_from m fs [] trace) (told_two trace is) told in
      subst (IsFlatTrace (stage m fs first second)) (sym (told_is trace))
      (fitting middle (order_variable (codes "behind")) [] (order_at_first (length middle.variables) y x ∷ []) [] (order_at_step (length middle.variables) y x ∷ [])
      (KnowsTwo (length middle.variables) y x (q trace) (p trace)) (behind trace) knows_middle (does_fit middle (codes "behind") y x (q trace) (p trace))
      (with_value (ahead trace) (told_from m fs [] trace)) (middle_two trace is) part)

  pub orders_told : (long : List (List Value)) → (IsFlatTrace (stage m fs first second) long ↔ ((trace : List (List Value)) × IsFlatTrace m trace × (long ≡ ordered_told m fs f g trace)))
  orders_told long = (forward long, λ h. subst (IsFlatTrace (stage m fs first second)) (sym h.2) (backward h.0 h.1))
