-- What the files of a model and its instructions and the word of a top event come to.
use Rattle.std.specs.Prelude.{◌≡◌, List}
use Rattle.base_files.specs.declared.files.NamedFile.{NamedFile}
use Rattle.smv_language.specs.ProgramTree.{Text, ProgramTree}
use Rattle.verb_loading.specs.declared.status.Refusal.{Refusal}
use Rattle.verb_loading.specs.declared.status.Refusal.TheVariants as refusal
use Rattle.verb_loading.specs.declared.status.InputFault.{InputFault}
use Rattle.verb_loading.specs.Inputs.{RefusesModel, HoldsModel, RefusesFaults}
use Rattle.verb_loading.specs.Cases.{Case, HoldsCase, IsWrongWord}

-- the model is refused; or it holds, and the instructions are; or these hold too, and the top event is
pub data RefusesEvent (files : List NamedFile) (model faults top : Text) (r : Refusal) : Type 0 where
  at_model : RefusesModel files model r → RefusesEvent files model faults top r
  at_faults : (p : ProgramTree) → HoldsModel files model p → RefusesFaults files faults p r → RefusesEvent files model faults top r
  at_top : (c : Case) (fault : InputFault) → HoldsCase files model faults c → r ≡ refusal.Top fault → IsWrongWord c.program top fault →
      RefusesEvent files model faults top r
