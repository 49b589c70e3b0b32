-- What a replay finds, in the words of the model: an extended trace that reaches the event, and the faults that it has failed.
use Rattle.std.specs.Prelude.{◌≡◌, ℕ, ◌++◌, List, Option, codes}
use Rattle.base_files.specs.declared.files.NamedFile.{NamedFile}
use Rattle.base_files.specs.Desk.{said_more}
use Rattle.smv_language.specs.Language.{Text, Formula, Value}
use Rattle.cut_right_laws.specs.Right.{Shows}
use Rattle.cut_right_laws.specs.Sets.{IsRising}
use Rattle.fault_weave.specs.ExtensionTraces.{Moment, IsExtended, Reaches}
use Rattle.cert_laws.specs.ExtendedTraces.{HasFailedFault, IsFlatCut}
use Rattle.verb_loading.specs.Cases.{Case, HoldsCase, IsTopWord}
use Rattle.verb_run.specs.AnswerTexts.{failed_names}
use Rattle.verb_run.specs.Replays.{HoldsTrace}

-- Two files hold a model and its instructions, the word is a top event of the model, and the text of the third file gives each
-- variable of the extension values that are cut to these moments of the model.
pub record HoldsMoments (files : List NamedFile) (model faults trace top : Text) (c : Case) (event : Formula)
    (moments : List Moment) : Type 0 where
  pub holds : HoldsCase files model faults c
  pub is_event : IsTopWord c.program top event
  pub values : List (List Value)
  pub has_trace : HoldsTrace files trace c.flat values
  pub cut : IsFlatCut c.program c.instructions c.flat values moments

-- and these are an extended trace that reaches the event
pub record HoldsReaching (files : List NamedFile) (model faults trace top : Text) : Type 0 where
  pub c : Case
  pub event : Formula
  pub moments : List Moment
  pub given : HoldsMoments files model faults trace top c event moments
  pub is_trace : IsExtended c.program c.instructions moments
  pub reaches : Reaches c.program event moments

-- The files hold an extended trace that reaches the event, and what is said is that, with the names of exactly the faults that the
-- trace has failed, in the order of their numbers.
pub record IsReplayed (files : List NamedFile) (said now : Option (List ℕ)) (model faults trace top : Text) : Type 0 where
  pub c : Case
  pub event : Formula
  pub moments : List Moment
  pub failed : List ℕ
  pub given : HoldsMoments files model faults trace top c event moments
  pub shows : Shows (List Moment) (IsExtended c.program c.instructions) (Reaches c.program event) (HasFailedFault c.faults) moments failed
  pub rises : IsRising failed
  pub has_said : now ≡ said_more said (codes "reaches\nfailed" ++ (failed_names c.faults failed ++ codes "\n"))
