-- A history of no fault adds nothing, and that of one fault more adds its bit last.
use Rattle.std.proofs.Common.{◌≡◌, ℕ, suc, ◌+◌, ◌<◌, List, [], ◌∷◌, ◌++◌, length, map, take, get_or, refl, ap, ◌∙◌, sym, arith}
use Rattle.std.proofs.lemmas.List.{append-nil, append_assoc, length-append, map_more, length-map, length-take-le}
use Rattle.smv_language.specs.Language.{FlatVariable, FlatFormula, FlatModel, Value}
use Rattle.smv_flat_laws.specs.History.{Mode, bit_variable, bit_at_first, bit_at_step, bit_variables, bits_at_first, bits_at_step, with_history, with_bit}
use Rattle.smv_flat_laws.specs.FlatTrace.{told_from}

-- a model with other variables and other formulas at first and at each step
abbrev changed : FlatModel → List FlatVariable → List FlatFormula → List FlatFormula → FlatModel
changed m vs firsts steps =
    record {
      instances = m.instances;
      variables = vs;
      definitions = m.definitions;
      symbols = m.symbols;
      at_first = firsts;
      at_each = m.at_each;
      at_step = steps;
    }

same_changed : (m : FlatModel) {vs vs' : List FlatVariable} {fs fs' ss ss' : List FlatFormula} → vs ≡ vs' → fs ≡ fs' → ss ≡ ss' →
    changed m vs fs ss ≡ changed m vs' fs' ss'
same_changed m e f g = cc

pub no_bits : (m : FlatModel) → with_history m [] ≡ m
no_bits m = same_changed m (append-nil m.variables) (append-nil m.at_first) (append-nil m.at_step)

variables_more : (i : ℕ) (fs : List Mode) (f : Mode) → bit_variables i (fs ++ f ∷ []) ≡ bit_variables i fs ++ bit_variable (suc (i + length fs)) ∷ []
variables_more i [] f = ap (λ k. bit_variable (suc k) ∷ []) (omega arith)
variables_more i (g ∷ gs) f =
    ap (λ rest. bit_variable (suc i) ∷ rest) (variables_more (suc i) gs f
    ∙ ap (λ k. bit_variables (suc i) gs ++ bit_variable (suc k) ∷ []) (omega arith))

variables_last : (fs : List Mode) (f : Mode) → bit_variables 0 (fs ++ f ∷ []) ≡ bit_variables 0 fs ++ bit_variable (suc (length fs)) ∷ []
variables_last fs f =
    let none : 0 + length fs ≡ length fs = omega arith in
    variables_more 0 fs f ∙ ap (λ k. bit_variables 0 fs ++ bit_variable (suc k) ∷ []) none

firsts_more : (n : ℕ) (fs : List Mode) (f : Mode) → bits_at_first n (fs ++ f ∷ []) ≡ bits_at_first n fs ++ bit_at_first (n + length fs) f ∷ []
firsts_more n [] f = ap (λ k. bit_at_first k f ∷ []) (omega arith)
firsts_more n (g ∷ gs) f =
    ap (λ rest. bit_at_first n g ∷ rest) (firsts_more (suc n) gs f
    ∙ ap (λ k. bits_at_first (suc n) gs ++ bit_at_first k f ∷ []) (omega arith))

steps_more : (n : ℕ) (fs : List Mode) (f : Mode) → bits_at_step n (fs ++ f ∷ []) ≡ bits_at_step n fs ++ bit_at_step (n + length fs) f ∷ []
steps_more n [] f = ap (λ k. bit_at_step k f ∷ []) (omega arith)
steps_more n (g ∷ gs) f =
    ap (λ rest. bit_at_step n g ∷ rest) (steps_more (suc n) gs f
    ∙ ap (λ k. bits_at_step (suc n) gs ++ bit_at_step k f ∷ []) (omega arith))

pub length_bits : (i : ℕ) (fs : List Mode) → length (bit_variables i fs) ≡ length fs
length_bits i [] = refl
length_bits i (f ∷ fs) = ap suc (length_bits (suc i) fs)

pub all_variables : (m : FlatModel) (fs : List Mode) → length (with_history m fs).variables ≡ length m.variables + length fs
all_variables m fs = length-append m.variables (bit_variables 0 fs) ∙ ap (λ k. length m.variables + k) (length_bits 0 fs)

pub one_bit_more : (m : FlatModel) (fs : List Mode) (f : Mode) → with_history m (fs ++ f ∷ []) ≡ with_bit (suc (length fs)) f (with_history m fs)
one_bit_more m fs f =
    let all : length (with_history m fs).variables ≡ length m.variables + length fs = all_variables m fs in
    same_changed m
    (ap (λ vs. m.variables ++ vs) (variables_last fs f) ∙ sym (append_assoc m.variables (bit_variables 0 fs) (bit_variable (suc (length fs)) ∷ [])))
    (ap (λ gs. m.at_first ++ gs) (firsts_more (length m.variables) fs f)
    ∙ sym (append_assoc m.at_first (bits_at_first (length m.variables) fs) (bit_at_first (length m.variables + length fs) f ∷ []))
    ∙ ap (λ k. (m.at_first ++ bits_at_first (length m.variables) fs) ++ bit_at_first k f ∷ []) (sym all))
    (ap (λ gs. m.at_step ++ gs) (steps_more (length m.variables) fs f)
    ∙ sym (append_assoc m.at_step (bits_at_step (length m.variables) fs) (bit_at_step (length m.variables + length fs) f ∷ []))
    ∙ ap (λ k. (m.at_step ++ bits_at_step (length m.variables) fs) ++ bit_at_step k f ∷ []) (sym all))

-- with one fault more of a list of faults
pub more_bits : {F : Type 0} (mode : F → Mode) (m : FlatModel) (fs : List F) (k : ℕ) (d : F) → k < length fs →
    with_history m (map mode (take (k + 1) fs)) ≡ with_bit (k + 1) (mode (get_or fs k d)) (with_history m (map mode (take k fs)))
more_bits mode m fs k d within =
    let many : length (map mode (take k fs)) ≡ k = length-map (take k fs) mode ∙ length-take-le k fs (omega arith) in
    ap (with_history m) (map_more mode fs k d within) ∙ one_bit_more m (map mode (take k fs)) (mode (get_or fs k d))
    ∙ ap (λ i. with_bit i (mode (get_or fs k d)) (with_history m (map mode (take k fs)))) (ap suc many ∙ omega arith)

pub length_told : (m : FlatModel) (fs : List Mode) (before trace : List (List Value)) → length (told_from m fs before trace) ≡ length trace
length_told m fs before [] = refl
length_told m fs before (v ∷ vs) = ap suc (length_told m fs (before ++ v ∷ []) vs)
