-- The hits of a cause, one after another.
use Rattle.std.proofs.Common.{◌≡◌, ℕ, suc, ◌+◌, ◌<◌, ◌≤◌, Bool, true, ◌||◌, List, [], ◌∷◌, length, Option, Some, refl, ap, ◌∙◌, sym, subst, arith}
use Rattle.std.proofs.lemmas.List.{length-append}
use Rattle.std.specs.Prelude.{slice_get, nat_eq}
use Rattle.smv_language.specs.Language.{Text, Value, opposite, Each, FlatModel, Holds, boolean}
use Rattle.smv_flat_laws.specs.FlatTrace.{IsFlatTrace}
use Rattle.smv_flat_laws.specs.History.{Mode}
use Rattle.fault_cause_laws.specs.Additions.{Addition, beside, AreAdded}
use Rattle.fault_cause_laws.specs.Columns.{with_value}
use Rattle.fault_cause_laws.proofs.Traces.{taken_apart}
use Rattle.fault_cause_laws.proofs.Columns.{EachFrom, one_added, forced, fitting, with_values_length}
use Rattle.fault_cause_laws.specs.Causes.{CommonCause}
use Rattle.fault_cause_laws.specs.StagedModel.{hit_name, added_variable, hit_at_first, landed_at_each, hit_at_step, with_hit, with_hits, mode_of}
use Rattle.fault_cause_laws.specs.StagedValues.{age_at, is_hit, age_value, hit_value, hits_told}
use Rattle.fault_cause_laws.proofs.Known.{IsReady, ready_added, Lasting, Knows, known_value, at_number}
use Rattle.fault_cause_laws.proofs.HitColumn.{is_landed, hit_forced, hit_fits, landed_all}
use Rattle.std.proofs.lemmas.Option.{slice_get_within as within_of}

-- the numbers are those of faults
abbrev pub AreNumbers : List Mode → List ℕ → Type 0
AreNumbers fs is = Each (λ i. (0 < i) × (i ≤ length fs)) is

-- the hit has landed
abbrev pub Landed : (ℕ → ℕ → Bool) → CommonCause → Option ℕ → ℕ → ℕ → Type 0
Landed stands c time total i = (k : ℕ) → k < total → (opposite (nat_eq (age_at c time k) (c.to + 1)) || is_hit stands c time i k) ≡ true

module _ (fs : List Mode) (wanted : ℕ → Text) (c : CommonCause) (small : c.from ≤ c.to) where
  abbrev one_hit : FlatModel → ℕ → ℕ → ℕ → Addition
  one_hit m age k i =
      one_added (added_variable (hit_name c.name k) boolean) [] (hit_at_first fs c (length m.variables) age i ∷ []) (landed_at_each c (length m.variables) age ∷ []) (hit_at_step fs c (length m.variables) age i ∷ [])

  hit_ready : (m : FlatModel) (age k i : ℕ) → IsReady fs wanted m → age < length m.variables → 0 < i → i ≤ length fs → IsReady fs wanted (with_hit fs c age k i m)
  hit_ready m age k i ready small_age low high =
      let a : (mode_of fs i).variable < length m.variables = ready.variable_of_mode i low high in
      let b : (mode_of fs i).symbol < length m.symbols = within_of m.symbols (mode_of fs i).symbol (wanted i) (ready.symbol_of_mode i low high) in
      ready_added fs wanted m (one_hit m age k i) ready
      (record {
        at_first = ((omega arith, (omega arith, (omega arith, (omega arith, (omega arith, tt))))), tt);
        at_each = ((omega arith, (omega arith, tt)), tt);
        at_step = ((omega arith, (omega arith, (omega arith, (omega arith, (omega arith, (omega arith, tt)))))), tt);
      })

  hit_count : (m : FlatModel) (age k i : ℕ) → length (with_hit fs c age k i m).variables ≡ length m.variables + 1
  hit_count m age k i = length-append m.variables (added_variable (hit_name c.name k) boolean ∷ [])

  hit_symbols : (m : FlatModel) (age k i : ℕ) → length (with_hit fs c age k i m).symbols ≡ length m.symbols
  hit_symbols m age k i = length-append m.symbols [] ∙ (let e : length m.symbols + 0 ≡ length m.symbols = omega arith in e)

  pub hits_ready : (is : List ℕ) (m : FlatModel) (age k : ℕ) → AreNumbers fs is → IsReady fs wanted m → age < length m.variables → IsReady fs wanted (with_hits fs c age k is m)
  hits_ready [] m age k numbers ready s = ready
  hits_ready (i ∷ is) m age k numbers ready s =
      let e : length (with_hit fs c age k i m).variables ≡ length m.variables + 1 = hit_count m age k i in
      hits_ready is (with_hit fs c age k i m) age (suc k) numbers.1 (hit_ready m age k i ready s numbers.0.0 numbers.0.1) (omega arith)

  pub hits_count : (is : List ℕ) (m : FlatModel) (age k : ℕ) → length (with_hits fs c age k is m).variables ≡ length m.variables + length is
  hits_count [] m age k = omega arith
  hits_count (i ∷ is) m age k =
      let e : length (with_hit fs c age k i m).variables ≡ length m.variables + 1 = hit_count m age k i in
      let g : length (with_hits fs c age (suc k) is (with_hit fs c age k i m)).variables ≡ length (with_hit fs c age k i m).variables + length is = hits_count is (with_hit fs c age k i m) age (suc k) in
      omega arith

  pub hits_symbols : (is : List ℕ) (m : FlatModel) (age k : ℕ) → length (with_hits fs c age k is m).symbols ≡ length m.symbols
  hits_symbols [] m age k = refl
  hits_symbols (i ∷ is) m age k = hits_symbols is (with_hit fs c age k i m) age (suc k) ∙ hit_symbols m age k i

  -- What is told of a part, once its values are known.
  abbrev Reads : ℕ → Option ℕ → (ℕ → List Value → Type 0) → Type 0
  Reads age time others = (k : ℕ) (v : List Value) → others k v → slice_get v age ≡ Some (age_value c time k)

  pub record HitsTold (m : FlatModel) (is : List ℕ) (age : ℕ) (long : List (List Value)) : Type 1 where
    pub part : List (List Value)
    pub is_trace : IsFlatTrace m part
    pub told : (stands : ℕ → ℕ → Bool) (total : ℕ) (time : Option ℕ) (others : ℕ → List Value → Type 0) → Lasting others → Reads age time others → length part ≡ total →
        EachFrom (Knows fs wanted stands total others (length m.variables)) 0 part → (long ≡ hits_told stands c time is part) × Each (Landed stands c time total) is

  pub hits_forward : (is : List ℕ) (m : FlatModel) (age k : ℕ) → AreNumbers fs is → IsReady fs wanted m → age < length m.variables → (long : List (List Value)) → IsFlatTrace (with_hits fs c age k is m) long → HitsTold m is age long
  hits_forward [] m age k numbers ready s long h = record { part = long; is_trace = h; told = λ stands total time others lasting reads e known. (refl, tt) }
  hits_forward (i ∷ is) m age k numbers ready s long h =
      let e : length (with_hit fs c age k i m).variables ≡ length m.variables + 1 = hit_count m age k i in
      let rest : HitsTold (with_hit fs c age k i m) is age long =
      hits_forward is (with_hit fs c age k i m) age (suc k) numbers.1 (hit_ready m age k i ready s numbers.0.0 numbers.0.1) (omega arith) long h in
      let here : (part : List (List Value)) × (more : List (List Value)) × IsFlatTrace m part × AreAdded m (one_hit m age k i) part more × (rest.part ≡ beside part more) =
      taken_apart m (one_hit m age k i) ready.knows rest.part rest.is_trace in
      record {
        part = here.0;
        is_trace = here.2;
        told = λ stands total time others lasting reads same known.
            let is_told : beside here.0 here.1 ≡ with_value (hit_value stands c time i) here.0 =
            forced m (added_variable (hit_name c.name k) boolean) [] (hit_at_first fs c (length m.variables) age i ∷ []) (landed_at_each c (length m.variables) age ∷ []) (hit_at_step fs c (length m.variables) age i ∷ [])
            (Knows fs wanted stands total others (length m.variables)) (hit_value stands c time i)
            (hit_forced m fs c small age i k time stands (wanted i) (ready.symbol_of_mode i numbers.0.0 numbers.0.1) (Knows fs wanted stands total others (length m.variables))
            (λ j v q. q.sized) (λ j v q. reads j v q.more) (λ j v q. q.modes i numbers.0.0 numbers.0.1)) here.0 here.1 known here.3 in
            let landed : EachFrom (λ j v. (is_landed m fs c small age i k time stands (wanted i) (ready.symbol_of_mode i numbers.0.0 numbers.0.1) (Knows fs wanted stands total others (length m.variables))
            (λ j v q. q.sized) (λ j v q. reads j v q.more) (λ j v q. q.modes i numbers.0.0 numbers.0.1) j) ≡ true) 0 here.0 =
            landed_all m fs c small age i k time stands (wanted i) (ready.symbol_of_mode i numbers.0.0 numbers.0.1) (Knows fs wanted stands total others (length m.variables))
            (λ j v q. q.sized) (λ j v q. reads j v q.more) (λ j v q. q.modes i numbers.0.0 numbers.0.1) 0 here.0 known
            (subst (λ us. Each (λ u. Each (Holds (with_hit fs c age k i m) u u) (landed_at_each c (length m.variables) age ∷ [])) us) is_told here.3.moments) in
            let rest_is : rest.part ≡ with_value (hit_value stands c time i) here.0 = here.4 ∙ is_told in
            let known' : EachFrom (Knows fs wanted stands total others (length (with_hit fs c age k i m).variables)) 0 rest.part =
            subst (λ us. EachFrom (Knows fs wanted stands total others (length (with_hit fs c age k i m).variables)) 0 us) (sym rest_is)
            (known_value fs wanted stands total others lasting (hit_value stands c time i) (length m.variables) (length (with_hit fs c age k i m).variables) here.0 e known) in
            let more : (long ≡ hits_told stands c time is rest.part) × Each (Landed stands c time total) is =
            rest.told stands total time others lasting reads (ap length rest_is ∙ with_values_length (hit_value stands c time i) 0 here.0 ∙ same) known' in (
              more.0 ∙ ap (hits_told stands c time is) rest_is,
              (
                (λ j l. at_number (λ x. (is_landed m fs c small age i k time stands (wanted i) (ready.symbol_of_mode i numbers.0.0 numbers.0.1) (Knows fs wanted stands total others (length m.variables))
                    (λ j v q. q.sized) (λ j v q. reads j v q.more) (λ j v q. q.modes i numbers.0.0 numbers.0.1) x) ≡ true) 0 here.0 landed j j (plus_zero j) (subst (λ x. j < x) (sym same) l)),
                more.1,
              ),
            );
      }
    where
      plus_zero : (j : ℕ) → j ≡ 0 + j
      plus_zero j = omega arith

  pub hits_backward : (is : List ℕ) (m : FlatModel) (age k : ℕ) → AreNumbers fs is → IsReady fs wanted m → age < length m.variables → (part : List (List Value)) → IsFlatTrace m part →
      (stands : ℕ → ℕ → Bool) (total : ℕ) (time : Option ℕ) (others : ℕ → List Value → Type 0) → Lasting others → Reads age time others → EachFrom (Knows fs wanted stands total others (length m.variables)) 0 part →
      Each (Landed stands c time total) is → IsFlatTrace (with_hits fs c age k is m) (hits_told stands c time is part)
  hits_backward [] m age k numbers ready s part h stands total time others lasting reads known landed = h
  hits_backward (i ∷ is) m age k numbers ready s part h stands total time others lasting reads known landed =
      let e : length (with_hit fs c age k i m).variables ≡ length m.variables + 1 = hit_count m age k i in
      hits_backward is (with_hit fs c age k i m) age (suc k) numbers.1 (hit_ready m age k i ready s numbers.0.0 numbers.0.1) (omega arith) (with_value (hit_value stands c time i) part)
      (fitting m (added_variable (hit_name c.name k) boolean) [] (hit_at_first fs c (length m.variables) age i ∷ []) (landed_at_each c (length m.variables) age ∷ []) (hit_at_step fs c (length m.variables) age i ∷ [])
      (Knows fs wanted stands total others (length m.variables)) (hit_value stands c time i) ready.knows
      (hit_fits m fs c small age i k time stands (wanted i) (ready.symbol_of_mode i numbers.0.0 numbers.0.1) (Knows fs wanted stands total others (length m.variables))
      (λ j v q. q.sized) (λ j v q. reads j v q.more) (λ j v q. q.modes i numbers.0.0 numbers.0.1) (λ j v q. landed.0 j q.within)) part known h)
      stands total time others lasting reads
      (known_value fs wanted stands total others lasting (hit_value stands c time i) (length m.variables) (length (with_hit fs c age k i m).variables) part e known) landed.1

  pub hits_known : (stands : ℕ → ℕ → Bool) (total : ℕ) (time : Option ℕ) (others : ℕ → List Value → Type 0) → Lasting others → (is : List ℕ) (n : ℕ) (part : List (List Value)) →
      EachFrom (Knows fs wanted stands total others n) 0 part → EachFrom (Knows fs wanted stands total others (n + length is)) 0 (hits_told stands c time is part)
  hits_known stands total time others lasting [] n part known = let e : n ≡ n + 0 = omega arith in subst (λ x. EachFrom (Knows fs wanted stands total others x) 0 part) e known
  hits_known stands total time others lasting (i ∷ is) n part known =
      let e : (n + 1) + length is ≡ n + suc (length is) = omega arith in
      subst (λ x. EachFrom (Knows fs wanted stands total others x) 0 (hits_told stands c time is (with_value (hit_value stands c time i) part))) e
      (hits_known stands total time others lasting is (n + 1) (with_value (hit_value stands c time i) part) (known_value fs wanted stands total others lasting (hit_value stands c time i) n (n + 1) part refl known))

  pub hits_length : (stands : ℕ → ℕ → Bool) (time : Option ℕ) (is : List ℕ) (part : List (List Value)) → length (hits_told stands c time is part) ≡ length part
  hits_length stands time [] part = refl
  hits_length stands time (i ∷ is) part = hits_length stands time is (with_value (hit_value stands c time i) part) ∙ with_values_length (hit_value stands c time i) 0 part
