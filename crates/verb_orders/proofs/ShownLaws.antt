-- What the traces of a search over a staged case show: extended traces, their relation, and the values that are printed.
use Rattle.std.proofs.Common.{◌≡◌, ℕ, suc, ◌+◌, ◌-◌, Bool, List, [], ◌∷◌, ◌++◌, length, map, take, Some, None, refl, sym, ap, subst, ◌∙◌, arith}
use Rattle.std.specs.Prelude.{slice_get}
use Rattle.std.proofs.lemmas.List.{length-map, length-append, append-nil}
use Rattle.smv_language.specs.Language.{Text, Value, flat_tree, variable_tree, FlatModel, told_trace}
use Rattle.smv_language.specs.Values.{truth}
use Rattle.base_values.specs.declared.value.Value.{Value as Numbered}
use Rattle.base_values.specs.declared.value.Value.TheVariants.{Bool as ABool, Num, Sym}
use Rattle.smv_flat_laws.specs.History.{Mode}
use Rattle.smv_flat_laws.specs.FlatTrace.{IsFlatTrace}
use Rattle.sat_encoding_laws.specs.FlatTraces.{ReachesTop, last_of}
use Rattle.cert_laws.specs.ExtendedTraces.{IsFlatCut}
use Rattle.base_values.specs.declared.ending.Ending.TheVariants as printed
use Rattle.cut_search.specs.Values.{value_of, values_of, trace_of}
use Rattle.fault_orders.specs.declared.Relation.{Relation}
use Rattle.fault_orders.specs.Stage.{stage}
use Rattle.fault_orders.specs.RelationValues.{told_relation}
use Rattle.fault_orders.proofs.Ends.{own_kept}
use Rattle.cut_reach_laws.specs.OrdersExtendedLaws.{ShowsSuch, TellsRelation}
use Rattle.cut_reach_laws.proofs.Such.{found_such, others_such}
use Rattle.verb_loading.specs.Cases.{Case}
use Rattle.verb_loading.specs.LoadedEvents.{case_in}
use Rattle.verb_orders.specs.declared.pair.PairCase.{PairCase}
use Rattle.verb_orders.specs.Pairs.{IsStagedCase}
use Rattle.verb_orders.specs.Orders.{Relates, Differ}
use Rattle.verb_orders.specs.ClaimSearch.{IsTraceAgainst, is_true_value, relation_of_last, relation_in}
use Rattle.verb_orders.proofs.AskedLaws.{the_model, the_faults, at_stage}
use Rattle.cut_search.proofs.PathLemmas.{cut_read}
use Rattle.cut_model_search.proofs.Made.{same_told}

-- ---- the relation that values tell

module _ (symbols : List Text) where
  value_true : (x : Numbered) (a : Bool) → value_of symbols x ≡ truth a → is_true_value (Some x) ≡ a
  value_true (ABool b) a e = cc
  value_true (Num n) a e = cc
  value_true (Sym i) a e = cc

  -- the last two of the values
  last_two : (front : List Value) (a b : Bool) (v : List Numbered) → values_of symbols v ≡ front ++ (truth a ∷ truth b ∷ []) →
      (is_true_value (slice_get v (length v - 2)) ≡ a) × (is_true_value (slice_get v (length v - 1)) ≡ b)
  last_two [] a b [] e = cc
  last_two [] a b (x ∷ []) e = cc
  last_two [] a b (x ∷ y ∷ []) e = let one : value_of symbols x ≡ truth a = cc in let other : value_of symbols y ≡ truth b = cc in (value_true x a one, value_true y b other)
  last_two [] a b (x ∷ y ∷ z ∷ v) e = cc
  last_two (p ∷ front) a b [] e = cc
  last_two (p ∷ front) a b (x ∷ v) e =
      let rest : values_of symbols v ≡ front ++ (truth a ∷ truth b ∷ []) = cc in
      let long : length v ≡ length front + 2 = sym (length-map v (value_of symbols)) ∙ ap length rest ∙ length-append front (truth a ∷ truth b ∷ []) in
      let h = last_two front a b v rest in
      let first : length (x ∷ v) - 2 ≡ suc (length v - 2) = omega (arith, long) in
      let second : length (x ∷ v) - 1 ≡ suc (length v - 1) = omega (arith, long) in
      (ap (λ n. is_true_value (slice_get (x ∷ v) n)) first ∙ h.0, ap (λ n. is_true_value (slice_get (x ∷ v) n)) second ∙ h.1)

  -- the last moment
  record Last (v : List Numbered) (vs : List (List Numbered)) : Type 0 where
    moment : List Numbered
    there : slice_get (v ∷ vs) (length vs) ≡ Some moment
    is_last : last_of (trace_of symbols (v ∷ vs)) ≡ values_of symbols moment

  last_there : (v : List Numbered) (vs : List (List Numbered)) → Last v vs
  last_there v [] = record { moment = v; there = refl; is_last = refl }
  last_there v (w ∷ vs) = let rest = last_there w vs in record { moment = rest.moment; there = rest.there; is_last = rest.is_last }

  told_by_values : (trace : List (List Numbered)) (front : List Value) (a b : Bool) → last_of (trace_of symbols trace) ≡ front ++ (truth a ∷ truth b ∷ []) → relation_in trace ≡ told_relation a b
  told_by_values [] [] a b e = cc
  told_by_values [] (p ∷ front) a b e = cc
  told_by_values (v ∷ vs) front a b e =
      let last = last_there v vs in
      let at : length (v ∷ vs) - 1 ≡ length vs = omega arith in
      let two = last_two front a b last.moment (sym last.is_last ∙ e) in
      ap (λ n. relation_of_last (slice_get (v ∷ vs) n)) at ∙ ap relation_of_last last.there
      ∙ ap (λ x. told_relation x (is_true_value (slice_get last.moment (length last.moment - 1)))) two.0 ∙ ap (told_relation a) two.1

-- ---- the values that are printed

-- the staged model has the symbols of the case
staged_symbols : (m : FlatModel) (fs : List Mode) (i j : ℕ) → (stage m fs i j).symbols ≡ m.symbols
staged_symbols m fs i j = append-nil (m.symbols ++ []) ∙ append-nil m.symbols

module _ (s : PairCase) (is : IsStagedCase s) where
  abbrev c : Case
  c = case_in s.loaded

  abbrev long_of : List (List Numbered) → List (List Value)
  long_of trace = trace_of s.typed.model.symbols trace

  abbrev Shows : List (List Numbered) → Type 0
  Shows trace = ShowsSuch c.program c.instructions c.faults is.event.event.top c.flat c.modes s.set.items (the_faults s is).f (the_faults s is).g (long_of trace)

  pub shown_such : (trace : List (List Numbered)) → IsTraceAgainst s None trace → (x : Shows trace) × TellsRelation (the_faults s is).one (the_faults s is).other x.trace (long_of trace)
  shown_such trace h =
      let over = at_stage s is (λ m e. IsFlatTrace m (long_of trace) × ReachesTop m e (long_of trace)) None h.e h.speaks (h.is_trace, h.reaching) in
      found_such c.program c.instructions c.faults is.event.event.top c.flat c.modes (flat_tree s.loaded.top) (the_model s is) s.set.items s.asked.first s.asked.second (the_faults s is).f (the_faults s is).g (the_faults s is).one
      (the_faults s is).other (the_faults s is).asked (long_of trace) over.0 over.1

  other_such : (r : Relation) (trace : List (List Numbered)) → IsTraceAgainst s (Some r) trace →
      (x : Shows trace) × (Relates c is.event.event.top s.set.items (the_faults s is).one (the_faults s is).other r x.trace → ⊥)
  other_such r trace h =
      let over = at_stage s is (λ m e. IsFlatTrace m (long_of trace) × ReachesTop m e (long_of trace)) (Some r) h.e h.speaks (h.is_trace, h.reaching) in
      others_such c.program c.instructions c.faults is.event.event.top c.flat c.modes (flat_tree s.loaded.top) (the_model s is) s.set.items s.asked.first s.asked.second (the_faults s is).f (the_faults s is).g (the_faults s is).one
      (the_faults s is).other (the_faults s is).asked r (long_of trace) over.0 over.1

  values_shown : (n : ℕ) → n ≡ length s.loaded.case.limited.typed.model.variables → (trace : List (List Numbered)) (x : Shows trace) → x.flat ≡ told_trace s.loaded.case.limited.typed.model.symbols (map (take n) trace)
  values_shown n counted trace x =
      let symbols : s.typed.model.symbols ≡ s.loaded.case.limited.typed.model.symbols = ap (λ (m : FlatModel). m.symbols) is.staged.model ∙ staged_symbols c.flat c.modes s.asked.first s.asked.second in
      let own : n ≡ length c.flat.variables = counted ∙ sym (length-map s.loaded.case.limited.typed.model.variables variable_tree) in
      sym (own_kept c.flat c.modes (the_faults s is).f (the_faults s is).g x.flat x.is_flat)
      ∙ ap (map (take (length c.flat.variables))) (sym x.told)
      ∙ ap (λ k. map (take k) (long_of trace)) (sym own)
      ∙ sym (cut_read s.typed.model.symbols n trace)
      ∙ ap (λ ys. trace_of ys (map (take n) trace)) symbols
      ∙ sym (same_told s.loaded.case.limited.typed.model.symbols (map (take n) trace))

  -- two traces of which the second speaks against what the first tells differ
  pub traces_differ : (n : ℕ) → n ≡ length s.loaded.case.limited.typed.model.variables → (one other : List (List Numbered)) → IsTraceAgainst s None one → IsTraceAgainst s (Some (relation_in one)) other →
      Differ c is.event.event.top s.set.items (the_faults s is).one (the_faults s is).other (told_trace s.loaded.case.limited.typed.model.symbols (map (take n) one))
      (told_trace s.loaded.case.limited.typed.model.symbols (map (take n) other))
  traces_differ n counted one other h g =
      let x = shown_such one h in
      let y = other_such (relation_in one) other g in
      let tells : relation_in one ≡ told_relation x.1.ahead x.1.behind = told_by_values s.typed.model.symbols one x.1.front x.1.ahead x.1.behind x.1.ends in
      record {
        trace = x.0.trace;
        is_such = x.0.such;
        cut = subst (λ values. IsFlatCut c.program c.instructions c.flat values x.0.trace) (values_shown n counted one x.0) x.0.cut;
        second = y.0.trace;
        second_such = y.0.such;
        second_cut = subst (λ values. IsFlatCut c.program c.instructions c.flat values y.0.trace) (values_shown n counted other y.0) y.0.cut;
        relation = relation_in one;
        has = subst (λ r. Relates c is.event.event.top s.set.items (the_faults s is).one (the_faults s is).other r x.0.trace) (sym tells) x.1.relation;
        has_not = y.1;
      }
