-- A model with an addition reads its own names alone, where the added formulas do.
use Rattle.std.proofs.Common.{◌≡◌, ℕ, suc, ◌+◌, ◌<◌, ◌≤◌, List, [], ◌∷◌, ◌++◌, length, arith}
use Rattle.std.proofs.lemmas.List.{length-append}
use Rattle.smv_language.specs.Language.{Each, FlatLeaf, flat_variable, flat_symbol, flat_definition, FlatFormula, FlatModel}
use Rattle.smv_flat_laws.specs.History.{Mode, with_history, bits_at_first, bits_at_step}
use Rattle.smv_flat_laws.specs.FlatTrace.{IsOwnName, IsOwnFormula, NamesOwn, IsModeOf}
use Rattle.smv_flat_laws.specs.NameResolution.{leaves_in}
use Rattle.smv_flat_laws.proofs.Lists.{each_more}
use Rattle.smv_flat_laws.proofs.Conditions.{each_join}
use Rattle.fault_cause_laws.specs.Additions.{Addition, with_addition, IsKnownName, IsKnownFormula, KnowsNames}
use Rattle.std.proofs.lemmas.Option.{slice_get_within as within_of}
use Rattle.smv_flat_laws.proofs.HistoryLaws.{all_variables as history_variables}

pub name_more : (n s n' s' : ℕ) → n ≤ n' → s ≤ s' → (l : FlatLeaf) → IsKnownName n s l → IsKnownName n' s' l
name_more n s n' s' h k (flat_variable i) e = omega arith
name_more n s n' s' h k (flat_symbol i) e = omega arith
name_more n s n' s' h k (flat_definition i) e = tt

formulas_more : (n s n' s' : ℕ) → n ≤ n' → s ≤ s' → (fs : List FlatFormula) → Each (IsKnownFormula n s) fs → Each (IsKnownFormula n' s') fs
formulas_more n s n' s' h k fs e =
    each_more (IsKnownFormula n s) (IsKnownFormula n' s') fs (λ (f : FlatFormula) g. each_more (IsKnownName n s) (IsKnownName n' s') (leaves_in f.value) (name_more n s n' s' h k) g) e

-- the added formulas read names of the whole model
pub record AddsKnown (variables symbols : ℕ) (a : Addition) : Type 0 where
  pub at_first : Each (IsKnownFormula variables symbols) a.at_first
  pub at_each : Each (IsKnownFormula variables symbols) a.at_each
  pub at_step : Each (IsKnownFormula variables symbols) a.at_step

pub knows_added : (m : FlatModel) (a : Addition) → KnowsNames m → AddsKnown (length m.variables + length a.variables) (length m.symbols + length a.symbols) a → KnowsNames (with_addition m a)
knows_added m a knows adds =
    let e : length (m.variables ++ a.variables) ≡ length m.variables + length a.variables = length-append m.variables a.variables in
    let g : length (m.symbols ++ a.symbols) ≡ length m.symbols + length a.symbols = length-append m.symbols a.symbols in
    record {
      definitions = wide (length m.variables) (length m.symbols) (length (m.variables ++ a.variables)) (length (m.symbols ++ a.symbols)) (length a.variables) (length a.symbols) e g m.definitions knows.definitions;
      at_first = each_join (IsKnownFormula (length (m.variables ++ a.variables)) (length (m.symbols ++ a.symbols))) m.at_first a.at_first
          (wide (length m.variables) (length m.symbols) (length (m.variables ++ a.variables)) (length (m.symbols ++ a.symbols)) (length a.variables) (length a.symbols) e g m.at_first knows.at_first)
          (moved (length (m.variables ++ a.variables)) (length (m.symbols ++ a.symbols)) (length m.variables + length a.variables) (length m.symbols + length a.symbols) e g a.at_first adds.at_first);
      at_each = each_join (IsKnownFormula (length (m.variables ++ a.variables)) (length (m.symbols ++ a.symbols))) m.at_each a.at_each
          (wide (length m.variables) (length m.symbols) (length (m.variables ++ a.variables)) (length (m.symbols ++ a.symbols)) (length a.variables) (length a.symbols) e g m.at_each knows.at_each)
          (moved (length (m.variables ++ a.variables)) (length (m.symbols ++ a.symbols)) (length m.variables + length a.variables) (length m.symbols + length a.symbols) e g a.at_each adds.at_each);
      at_step = each_join (IsKnownFormula (length (m.variables ++ a.variables)) (length (m.symbols ++ a.symbols))) m.at_step a.at_step
          (wide (length m.variables) (length m.symbols) (length (m.variables ++ a.variables)) (length (m.symbols ++ a.symbols)) (length a.variables) (length a.symbols) e g m.at_step knows.at_step)
          (moved (length (m.variables ++ a.variables)) (length (m.symbols ++ a.symbols)) (length m.variables + length a.variables) (length m.symbols + length a.symbols) e g a.at_step adds.at_step);
    }
  where
    wide : (n s n' s' j k : ℕ) → n' ≡ n + j → s' ≡ s + k → (fs : List FlatFormula) → Each (IsKnownFormula n s) fs → Each (IsKnownFormula n' s') fs
    wide n s n' s' j k e g fs h = formulas_more n s n' s' (omega arith) (omega arith) fs h

    moved : (n' s' n s : ℕ) → n' ≡ n → s' ≡ s → (fs : List FlatFormula) → Each (IsKnownFormula n s) fs → Each (IsKnownFormula n' s') fs
    moved n' s' n s e g fs h = formulas_more n s n' s' (omega arith) (omega arith) fs h

-- a model that knows its names reads its own variables
own_name : (n s : ℕ) (l : FlatLeaf) → IsKnownName n s l → IsOwnName n l
own_name n s (flat_variable i) h = h
own_name n s (flat_symbol i) h = tt
own_name n s (flat_definition i) h = tt

own_formulas : (n s : ℕ) (fs : List FlatFormula) → Each (IsKnownFormula n s) fs → Each (IsOwnFormula n) fs
own_formulas n s fs h = each_more (IsKnownFormula n s) (IsOwnFormula n) fs (λ (f : FlatFormula) g. each_more (IsKnownName n s) (IsOwnName n) (leaves_in f.value) (own_name n s) g) h

pub names_own : (m : FlatModel) → KnowsNames m → NamesOwn m
names_own m knows =
    record {
      definitions = own_formulas (length m.variables) (length m.symbols) m.definitions knows.definitions;
      at_first = own_formulas (length m.variables) (length m.symbols) m.at_first knows.at_first;
      at_each = own_formulas (length m.variables) (length m.symbols) m.at_each knows.at_each;
      at_step = own_formulas (length m.variables) (length m.symbols) m.at_step knows.at_step;
    }

-- the model with history reads its own names
first_known : (variables symbols bit : ℕ) (m : FlatModel) (fs : List Mode) → Each (IsModeOf m) fs → bit + length fs ≤ variables → length m.variables ≤ variables → length m.symbols ≤ symbols →
    Each (IsKnownFormula variables symbols) (bits_at_first bit fs)
first_known variables symbols bit m [] modes small n s = tt
first_known variables symbols bit m (f ∷ fs) modes small n s =
    let a : f.variable < length m.variables = within_of m.variables f.variable modes.0.variable modes.0.is_variable in
    let b : f.symbol < length m.symbols = within_of m.symbols f.symbol modes.0.text modes.0.is_symbol in
    ((omega arith, (omega arith, (omega arith, tt))), first_known variables symbols (suc bit) m fs modes.1 (omega arith) n s)

step_known : (variables symbols bit : ℕ) (m : FlatModel) (fs : List Mode) → Each (IsModeOf m) fs → bit + length fs ≤ variables → length m.variables ≤ variables → length m.symbols ≤ symbols →
    Each (IsKnownFormula variables symbols) (bits_at_step bit fs)
step_known variables symbols bit m [] modes small n s = tt
step_known variables symbols bit m (f ∷ fs) modes small n s =
    let a : f.variable < length m.variables = within_of m.variables f.variable modes.0.variable modes.0.is_variable in
    let b : f.symbol < length m.symbols = within_of m.symbols f.symbol modes.0.text modes.0.is_symbol in
    ((omega arith, (omega arith, (omega arith, (omega arith, tt)))), step_known variables symbols (suc bit) m fs modes.1 (omega arith) n s)

pub knows_history : (m : FlatModel) (fs : List Mode) → KnowsNames m → Each (IsModeOf m) fs → KnowsNames (with_history m fs)
knows_history m fs knows modes =
    let e : length (with_history m fs).variables ≡ length m.variables + length fs = history_variables m fs in
    let n : ℕ = length (with_history m fs).variables in
    let s : ℕ = length m.symbols in
    record {
      definitions = formulas_more (length m.variables) s n s (omega arith) (omega arith) m.definitions knows.definitions;
      at_first = each_join (IsKnownFormula n s) m.at_first (bits_at_first (length m.variables) fs)
          (formulas_more (length m.variables) s n s (omega arith) (omega arith) m.at_first knows.at_first)
          (first_known n s (length m.variables) m fs modes (omega arith) (omega arith) (omega arith));
      at_each = formulas_more (length m.variables) s n s (omega arith) (omega arith) m.at_each knows.at_each;
      at_step = each_join (IsKnownFormula n s) m.at_step (bits_at_step (length m.variables) fs)
          (formulas_more (length m.variables) s n s (omega arith) (omega arith) m.at_step knows.at_step)
          (step_known n s (length m.variables) m fs modes (omega arith) (omega arith) (omega arith));
    }
