-- A set of faults with two of them, and the extension staged for these two.
use Rattle.std.specs.Prelude.{◌≡◌, ◌≢◌, ℕ, ◌+◌, IsTrue, List, [], ◌∷◌, ◌++◌, length, map}
use Rattle.base_files.specs.declared.files.NamedFile.{NamedFile}
use Rattle.smv_language.specs.Language.{Text, Formula, ProgramTree, model_tree}
use Rattle.smv_flat_laws.specs.FaultModes.{mode_of}
use Rattle.cut_right_laws.specs.Sets.{has_number}
use Rattle.sat_encoding_laws.specs.FlatTraces.{IsNumbered}
use Rattle.smv_type_laws.specs.ExpressionKinds.{too_large}
use Rattle.smv_type_laws.specs.Models.{IsTyped, IsFault}
use Rattle.smv_types.specs.declared.typed.Typed.{Typed}
use Rattle.fault_orders.specs.Stage.{stage}
use Rattle.cut_reach_laws.specs.Laws.{IsFaultNumber}
use Rattle.verb_command_line.specs.Sets.{numbers_of, IsSet}
use Rattle.verb_command_line.specs.Commands.{orders, check_orders}
use Rattle.verb_command_line.specs.Meaning.{Means}
use Rattle.verb_loading.specs.declared.status.InputFault.{InputFault}
use Rattle.verb_loading.specs.declared.status.Part.TheVariants as part
use Rattle.verb_loading.specs.declared.status.Refusal.{Refusal}
use Rattle.verb_loading.specs.declared.status.Refusal.TheVariants as refusal
use Rattle.verb_loading.specs.declared.loaded.Limited.{Limited}
use Rattle.verb_loading.specs.Inputs.{RefusesModel, HoldsModel, RefusesFaults}
use Rattle.verb_loading.specs.Wrongs.{kinds_fault}
use Rattle.verb_loading.specs.Wholes.{BreaksKinds}
use Rattle.verb_loading.specs.Cases.{Case, HoldsCase, IsTopWord, IsWrongWord}
use Rattle.verb_loading.specs.LoadedEvents.{IsEvent}
use Rattle.verb_orders.specs.declared.pair.PairWords.{PairWords}
use Rattle.verb_orders.specs.declared.pair.PairCase.{PairCase}

-- two different numbers of a set
pub record IsPair (set : List ℕ) (first second : ℕ) : Type 0 where
  pub one : IsTrue (has_number set first)
  pub other : IsTrue (has_number set second)
  pub apart : first ≢ second

-- the word is a set, and the numbers are two of it, as the words of a command always are
pub record IsAskedPair (set : Text) (first second : ℕ) : Type 0 where
  pub is_set : IsSet set
  pub pair : IsPair (numbers_of set) first second

-- the number at this position, from 1, is the first of the set that is none of a fault
pub record IsFirstOutside (faults : ℕ) (set : List ℕ) (position : ℕ) : Type 0 where
  pub before : List ℕ
  pub number : ℕ
  pub after : List ℕ
  pub lie : set ≡ before ++ number ∷ after
  pub kept : IsNumbered faults before
  pub outside : IsFaultNumber faults number → ⊥
  pub at_position : position ≡ length before + 1

-- a number of the set is that of no fault
abbrev pub outside_refusal : ℕ → Refusal
outside_refusal position = refusal.Set (record { part = part.Count; number = 1; place = position })

-- the instructions are refused for what only the staged model breaks
abbrev pub stage_refusal : InputFault → Refusal
stage_refusal fault = (refusal.Faults fault)

-- A number of the set is that of no fault; or all are, and so the two, and the model staged for these is refused by a rule of kinds, or
-- by its limit of size.
pub data RefusesStage (limited : Limited) (set : List ℕ) (first second : ℕ) (r : Refusal) : Type 0 where
  outside : (position : ℕ) → r ≡ outside_refusal position → IsFirstOutside (length limited.faults) set position →
      RefusesStage limited set first second r
  unlawful : (fault : InputFault) → r ≡ stage_refusal fault → IsNumbered (length limited.faults) set →
      IsFaultNumber (length limited.faults) first → IsFaultNumber (length limited.faults) second →
      BreaksKinds (stage (model_tree limited.typed.model) (map mode_of limited.faults) first second) fault →
      RefusesStage limited set first second r

-- The files hold a case; the numbers of the set are those of its faults; and the model staged for the two breaks no rule of kinds.
pub record HoldsPair (files : List NamedFile) (model faults : Text) (set : List ℕ) (first second : ℕ) (c : Case) : Type 0 where
  pub holds : HoldsCase files model faults c
  pub numbered : IsNumbered (length c.faults) set
  pub typed : IsTyped (stage c.flat c.modes first second)

-- What a pair of faults of a set is refused for, in the order of the work: the model; the instructions; a number of the set; the
-- limit of size of the staged model, which breaks no other rule of kinds; and the top event.
pub data RefusesPair (files : List NamedFile) (model faults top : Text) (set : List ℕ) (first second : ℕ) (r : Refusal) : Type 0 where
  at_model : RefusesModel files model r → RefusesPair files model faults top set first second r
  at_faults : (p : ProgramTree) → HoldsModel files model p → RefusesFaults files faults p r →
      RefusesPair files model faults top set first second r
  at_set : (c : Case) (position : ℕ) → r ≡ outside_refusal position → HoldsCase files model faults c →
      IsFirstOutside (length c.faults) set position →
      RefusesPair files model faults top set first second r
  at_stage : (c : Case) → r ≡ stage_refusal (kinds_fault too_large 0) → HoldsCase files model faults c → IsNumbered (length c.faults) set →
      IsFault (stage c.flat c.modes first second) too_large 0 → RefusesPair files model faults top set first second r
  at_top : (c : Case) (fault : InputFault) → r ≡ (refusal.Top fault) → HoldsCase files model faults c → IsNumbered (length c.faults) set →
      IsTyped (stage c.flat c.modes first second) → IsWrongWord c.program top fault → RefusesPair files model faults top set first second r

-- the files hold a case with the two faults, and the word spells an event of it: nothing is to be refused
pub record HoldsPairEvent (files : List NamedFile) (model faults top : Text) (set : List ℕ) (first second : ℕ) : Type 0 where
  pub c : Case
  pub holds : HoldsPair files model faults set first second c
  pub event : Formula
  pub is_event : IsTopWord c.program top event

-- the set is of an extension's faults, and the model is the extension's staged for two of them
pub record IsStaged (limited : Limited) (set : List ℕ) (first second : ℕ) (made : Typed) : Type 0 where
  pub model : model_tree made.model ≡ stage (model_tree limited.typed.model) (map mode_of limited.faults) first second
  pub typed : IsTyped (model_tree made.model)
  pub one : IsFaultNumber (length limited.faults) first
  pub other : IsFaultNumber (length limited.faults) second
  pub numbered : IsNumbered (length limited.faults) set

-- the extension of a lawful program with a top event of it, staged so
pub record IsStagedCase (s : PairCase) : Type 0 where
  pub event : IsEvent s.asked.top.now s.loaded
  pub pair : IsPair s.set.items s.asked.first s.asked.second
  pub staged : IsStaged s.loaded.case.limited s.set.items s.asked.first s.asked.second s.typed
  pub none : s.none ≡ []

-- the words ask for two numbers of a set
abbrev pub IsAsked : PairWords → Type 0
IsAsked asked = IsAskedPair asked.set.now asked.first asked.second

-- what was asked for of two faults is refused
abbrev pub RefusesAsked : List NamedFile → PairWords → Refusal → Type 0
RefusesAsked files asked r =
    RefusesPair files asked.model.now asked.faults.now asked.top.now (numbers_of asked.set.now) asked.first asked.second r

-- the words of an order ask for two numbers of a set
abbrev pub OrdersAskPairs : Type 0
OrdersAskPairs = (words : List Text) (model faults top set : Text) (first second depth : ℕ) (cert : Text) →
    Means words (orders model faults top set first second depth cert) → IsAskedPair set first second

-- the words of a check of an order ask for two numbers of a set
abbrev pub ChecksAskPairs : Type 0
ChecksAskPairs = (words : List Text) (model faults top set : Text) (first second : ℕ) (claim cert : Text) →
    Means words (check_orders model faults top set first second claim cert) → IsAskedPair set first second
