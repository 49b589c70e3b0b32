-- The own events of faults, one after another.
use Rattle.std.proofs.Common.{◌≡◌, ℕ, suc, ◌+◌, ◌<◌, ◌≤◌, Bool, true, false, cond, List, [], ◌∷◌, length, Option, refl, ap, ◌∙◌, sym, subst, arith}
use Rattle.std.proofs.lemmas.List.{length-append}
use Rattle.smv_language.specs.declared.program.Member.TheVariants as member
use Rattle.smv_language.specs.declared.expr.Op.TheVariants as op
use Rattle.smv_language.specs.Language.{Tree, binary, Text, members, Value, Each, FlatLeaf, flat_symbol, FlatModel, FlatVariable}
use Rattle.smv_flat_laws.specs.FlatTrace.{IsFlatTrace}
use Rattle.smv_flat_laws.specs.History.{Mode}
use Rattle.smv_flat_laws.specs.NameResolution.{leaves_in}
use Rattle.smv_flat_laws.proofs.Conditions.{each_join}
use Rattle.cut_right_laws.specs.Sets.{has_number}
use Rattle.fault_cause_laws.specs.Additions.{Addition, IsKnownName, beside, AreAdded}
use Rattle.fault_cause_laws.specs.Columns.{with_value}
use Rattle.fault_cause_laws.proofs.Traces.{taken_apart}
use Rattle.fault_cause_laws.proofs.Columns.{EachFrom, one_added, forced, fitting}
use Rattle.fault_cause_laws.specs.Causes.{CommonCause}
use Rattle.fault_cause_laws.specs.StagedModel.{own_name, none_name, self_name, added_variable, own_at_first, own_at_step, in_window, stands_of, mode_of, windows_on, joined_after, joined, with_own, with_owns}
use Rattle.fault_cause_laws.specs.StagedValues.{own_value, owns_told}
use Rattle.fault_cause_laws.proofs.Known.{IsReady, ready_added, Lasting, Knows, known_value}
use Rattle.fault_cause_laws.proofs.OwnColumn.{own_forced, own_fits}
use Rattle.fault_cause_laws.proofs.EachCause.{WithAges, with_ages_lasts}
use Rattle.std.proofs.lemmas.Option.{slice_get_within as within_of}

-- each number is that of a variable
abbrev pub AreVariables : ℕ → List ℕ → Type 0
AreVariables n ages = Each (λ a. a < n) ages

more_variables : (n n' : ℕ) → n ≤ n' → (ages : List ℕ) → AreVariables n ages → AreVariables n' ages
more_variables n n' h [] a = tt
more_variables n n' h (x ∷ xs) a = (omega arith, more_variables n n' h xs a.1)

-- the windows read those variables
joined_after_known : (n s i : ℕ) (cs : List CommonCause) (ages : List ℕ) → AreVariables n ages → (e : Tree FlatLeaf) → Each (IsKnownName n s) (leaves_in e) → Each (IsKnownName n s) (leaves_in (joined_after e (windows_on i cs ages)))
joined_after_known n s i [] ages are e h = h
joined_after_known n s i (c ∷ cs) [] are e h = h
joined_after_known n s i (c ∷ cs) (age ∷ ages) are e h = by_strike (has_number c.strikes i) (joined_after_known n s i cs ages are.1)
  where
    by_strike : (b : Bool) → ((e : Tree FlatLeaf) → Each (IsKnownName n s) (leaves_in e) → Each (IsKnownName n s) (leaves_in (joined_after e (windows_on i cs ages)))) →
        Each (IsKnownName n s) (leaves_in (joined_after e (cond b (in_window c age ∷ windows_on i cs ages) (windows_on i cs ages))))
    by_strike false more = more e h
    by_strike true more = more (binary op.Or e (in_window c age)) (each_join (IsKnownName n s) (leaves_in e) (leaves_in (in_window c age)) h (are.0, (are.0, tt)))

windows_known : (n s i : ℕ) (cs : List CommonCause) (ages : List ℕ) → AreVariables n ages → Each (IsKnownName n s) (leaves_in (joined (windows_on i cs ages)))
windows_known n s i [] ages are = tt
windows_known n s i (c ∷ cs) [] are = tt
windows_known n s i (c ∷ cs) (age ∷ ages) are = by_strike (has_number c.strikes i) (windows_known n s i cs ages are.1)
  where
    by_strike : (b : Bool) → Each (IsKnownName n s) (leaves_in (joined (windows_on i cs ages))) → Each (IsKnownName n s) (leaves_in (joined (cond b (in_window c age ∷ windows_on i cs ages) (windows_on i cs ages))))
    by_strike false more = more
    by_strike true more = joined_after_known n s i cs ages are.1 (in_window c age) (are.0, (are.0, tt))

-- the symbols that an own event is chosen from
abbrev two_symbols : ℕ → List FlatLeaf
two_symbols s = flat_symbol (suc s) ∷ flat_symbol s ∷ []

module _ (fs : List Mode) (wanted : ℕ → Text) (cs : List CommonCause) (ages : List ℕ) where
  abbrev own_variable : ℕ → FlatVariable
  own_variable i = added_variable (own_name i) (members (member.Symbol (none_name i) ∷ member.Symbol (self_name i) ∷ []))

  abbrev windows : ℕ → Tree FlatLeaf
  windows i = joined (windows_on i cs ages)

  abbrev one_own : FlatModel → ℕ → Addition
  one_own m i =
      one_added (own_variable i) (none_name i ∷ self_name i ∷ []) (own_at_first (stands_of fs i) (windows i) (length m.variables) (length m.symbols) ∷ []) []
      (own_at_step (stands_of fs i) (windows i) (length m.variables) (length m.symbols) ∷ [])

  own_ready : (m : FlatModel) (i : ℕ) → IsReady fs wanted m → AreVariables (length m.variables) ages → 0 < i → i ≤ length fs → IsReady fs wanted (with_own fs cs ages i m)
  own_ready m i ready are low high =
      let a : (mode_of fs i).variable < length m.variables = ready.variable_of_mode i low high in
      let b : (mode_of fs i).symbol < length m.symbols = within_of m.symbols (mode_of fs i).symbol (wanted i) (ready.symbol_of_mode i low high) in
      let n : ℕ = length m.variables + 1 in
      let s : ℕ = length m.symbols + 2 in
      let known : Each (IsKnownName n s) (leaves_in (windows i)) = windows_known n s i cs ages (more_variables (length m.variables) n (omega arith) ages are) in
      let ends : Each (IsKnownName n s) (two_symbols (length m.symbols)) = (omega arith, (omega arith, tt)) in
      ready_added fs wanted m (one_own m i) ready
      (record {
        at_first = ((omega arith, (omega arith, (omega arith, each_join (IsKnownName n s) (leaves_in (windows i)) (two_symbols (length m.symbols)) known ends))), tt);
        at_each = tt;
        at_step = ((omega arith, (omega arith, (omega arith, (omega arith, (omega arith, each_join (IsKnownName n s) (leaves_in (windows i)) (two_symbols (length m.symbols)) known ends))))), tt);
      })

  own_count : (m : FlatModel) (i : ℕ) → length (with_own fs cs ages i m).variables ≡ length m.variables + 1
  own_count m i = length-append m.variables (own_variable i ∷ [])

  still_variables : (m : FlatModel) (i : ℕ) → AreVariables (length m.variables) ages → AreVariables (length (with_own fs cs ages i m).variables) ages
  still_variables m i are = let e : length (with_own fs cs ages i m).variables ≡ length m.variables + 1 = own_count m i in more_variables (length m.variables) (length (with_own fs cs ages i m).variables) (omega arith) ages are

  -- what is told of a part, once its values are known
  pub record OwnsTold (m : FlatModel) (i : ℕ) (more : List Mode) (long : List (List Value)) : Type 1 where
    pub part : List (List Value)
    pub is_trace : IsFlatTrace m part
    pub told : (stands : ℕ → ℕ → Bool) (total : ℕ) (times : List (Option ℕ)) (others : ℕ → List Value → Type 0) → Lasting others →
        EachFrom (Knows fs wanted stands total (WithAges cs times ages others) (length m.variables)) 0 part → long ≡ owns_told stands cs times i more part

  pub owns_forward : (more : List Mode) (m : FlatModel) (i : ℕ) → 0 < i → i + length more ≤ length fs + 1 → AreVariables (length m.variables) ages → IsReady fs wanted m →
      (long : List (List Value)) → IsFlatTrace (with_owns fs cs ages i more m) long → OwnsTold m i more long
  owns_forward [] m i low high are ready long h = record { part = long; is_trace = h; told = λ stands total times others lasting known. refl }
  owns_forward (f ∷ more) m i low high are ready long h =
      let small : i ≤ length fs = omega arith in
      let rest : OwnsTold (with_own fs cs ages i m) (suc i) more long =
      owns_forward more (with_own fs cs ages i m) (suc i) (omega arith) (omega arith) (still_variables m i are) (own_ready m i ready are low small) long h in
      let here : (part : List (List Value)) × (new : List (List Value)) × IsFlatTrace m part × AreAdded m (one_own m i) part new × (rest.part ≡ beside part new) =
      taken_apart m (one_own m i) ready.knows rest.part rest.is_trace in
      record {
        part = here.0;
        is_trace = here.2;
        told = λ stands total times others lasting known.
            let rest_is : rest.part ≡ with_value (own_value stands cs times i) here.0 =
            here.4 ∙ forced m (own_variable i) (none_name i ∷ self_name i ∷ []) (own_at_first (stands_of fs i) (windows i) (length m.variables) (length m.symbols) ∷ []) []
            (own_at_step (stands_of fs i) (windows i) (length m.variables) (length m.symbols) ∷ []) (Knows fs wanted stands total (WithAges cs times ages others) (length m.variables)) (own_value stands cs times i)
            (own_forced m fs cs times ages i stands (wanted i) (ready.symbol_of_mode i low small) (Knows fs wanted stands total (WithAges cs times ages others) (length m.variables))
            (λ k v q. q.sized) (λ k v q. q.more.0) (λ k v q. q.modes i low small)) here.0 here.1 known here.3 in
            rest.told stands total times others lasting
            (subst (λ us. EachFrom (Knows fs wanted stands total (WithAges cs times ages others) (length (with_own fs cs ages i m).variables)) 0 us) (sym rest_is)
            (known_value fs wanted stands total (WithAges cs times ages others) (with_ages_lasts cs times ages others lasting) (own_value stands cs times i) (length m.variables) (length (with_own fs cs ages i m).variables) here.0 (own_count m i) known))
            ∙ ap (owns_told stands cs times (suc i) more) rest_is;
      }

  pub owns_backward : (more : List Mode) (m : FlatModel) (i : ℕ) → 0 < i → i + length more ≤ length fs + 1 → AreVariables (length m.variables) ages → IsReady fs wanted m →
      (stands : ℕ → ℕ → Bool) (total : ℕ) (times : List (Option ℕ)) (others : ℕ → List Value → Type 0) → Lasting others → (part : List (List Value)) → IsFlatTrace m part →
      EachFrom (Knows fs wanted stands total (WithAges cs times ages others) (length m.variables)) 0 part → IsFlatTrace (with_owns fs cs ages i more m) (owns_told stands cs times i more part)
  owns_backward [] m i low high are ready stands total times others lasting part h known = h
  owns_backward (f ∷ more) m i low high are ready stands total times others lasting part h known =
      let small : i ≤ length fs = omega arith in
      owns_backward more (with_own fs cs ages i m) (suc i) (omega arith) (omega arith) (still_variables m i are) (own_ready m i ready are low small) stands total times others lasting
      (with_value (own_value stands cs times i) part)
      (fitting m (own_variable i) (none_name i ∷ self_name i ∷ []) (own_at_first (stands_of fs i) (windows i) (length m.variables) (length m.symbols) ∷ []) []
      (own_at_step (stands_of fs i) (windows i) (length m.variables) (length m.symbols) ∷ []) (Knows fs wanted stands total (WithAges cs times ages others) (length m.variables)) (own_value stands cs times i) ready.knows
      (own_fits m fs cs times ages i stands (wanted i) (ready.symbol_of_mode i low small) (Knows fs wanted stands total (WithAges cs times ages others) (length m.variables))
      (λ k v q. q.sized) (λ k v q. q.more.0) (λ k v q. q.modes i low small)) part known h)
      (known_value fs wanted stands total (WithAges cs times ages others) (with_ages_lasts cs times ages others lasting) (own_value stands cs times i) (length m.variables) (length (with_own fs cs ages i m).variables) part (own_count m i) known)
