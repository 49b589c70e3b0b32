-- The names of the faults that a trace has failed, fault by fault.
use Rattle.std.proofs.Common.{arith, ◌≡◌, suc, ◌-◌, Bool, true, false, List, [], ◌∷◌, ◌++◌, length, refl, sym, ap, subst, ◌∙◌, append_assoc}
use Rattle.std.specs.Prelude.{slice_get, codes}
use Rattle.std.proofs.lemmas.List.{length-append}
use Rattle.smv_flat_laws.specs.History.{Mode}
use Rattle.smv_flat_laws.specs.FlatTrace.{stands_in_some}
use Rattle.smv_flat_laws.proofs.HistoryTraces.{get_middle}
use Rattle.smv_language.specs.Values.{Value}
use Rattle.fault_weave.specs.Faults.{Fault}
use Rattle.sat_encoding_laws.specs.FlatTraces as flat
use Rattle.verb_loading.specs.Reports.{name_text}
use Rattle.verb_loading.specs.Cases.{Case}
use Rattle.verb_run.specs.AnswerTexts.{name_or_none, failed_names, replay_text}
use Rattle.verb_run.specs.Replays.{names_where}

module _ (test : Mode → Bool) where
  named_from : (before faults : List Fault) (modes : List Mode) → length faults ≡ length modes →
      failed_names (before ++ faults) (flat.numbers_where test (suc (length before)) modes) ≡ names_where test faults modes
  named_from before [] [] e = refl
  named_from before [] (m ∷ modes) e = cc
  named_from before (f ∷ faults) [] e = cc
  named_from before (f ∷ faults) (m ∷ modes) e = by_test (test m) refl (rest (named_from (before ++ f ∷ []) faults modes shorter))
    where
      shorter : length faults ≡ length modes
      shorter = omega (arith, e)

      count : length (before ++ f ∷ []) ≡ suc (length before)
      count = length-append before (f ∷ []) ∙ omega arith

      rest : failed_names ((before ++ f ∷ []) ++ faults) (flat.numbers_where test (suc (length (before ++ f ∷ []))) modes) ≡ names_where test faults modes →
          failed_names (before ++ f ∷ faults) (flat.numbers_where test (suc (suc (length before))) modes) ≡ names_where test faults modes
      rest h =
          subst (λ n. failed_names (before ++ f ∷ faults) (flat.numbers_where test (suc n) modes) ≡ names_where test faults modes) count
          (subst (λ all. failed_names all (flat.numbers_where test (suc (length (before ++ f ∷ []))) modes) ≡ names_where test faults modes) (append_assoc before (f ∷ []) faults) h)

      place : suc (length before) - 1 ≡ length before
      place = omega arith

      name : name_or_none (slice_get (before ++ f ∷ faults) (suc (length before) - 1)) ≡ name_text f
      name = ap (λ n. name_or_none (slice_get (before ++ f ∷ faults) n)) place ∙ ap name_or_none (get_middle before faults f)

      by_test : (b : Bool) → test m ≡ b → failed_names (before ++ f ∷ faults) (flat.numbers_where test (suc (suc (length before))) modes) ≡ names_where test faults modes →
          failed_names (before ++ f ∷ faults) (flat.numbers_where test (suc (length before)) (m ∷ modes)) ≡ names_where test (f ∷ faults) (m ∷ modes)
      by_test true t more = rw t (λ j. codes " " ++ (name j ++ more j))
      by_test false t more = rw t more

-- what is said of a replay
pub said_of_replay : (c : Case) (trace : List (List Value)) → length c.faults ≡ length c.modes →
    codes "reaches\nfailed" ++ (names_where (λ f. stands_in_some c.flat f trace) c.faults c.modes ++ codes "\n") ≡ replay_text c trace
said_of_replay c trace e = ap (λ names. codes "reaches\nfailed" ++ (names ++ codes "\n")) (sym (named_from (λ f. stands_in_some c.flat f trace) [] c.faults c.modes e))
