-- The text and the report of an extension in memory are those of the extension that the file gives.
use Rattle.std.proofs.Common.{◌≡◌, ◌++◌, List, map, Option, Some, None, IfSome, ap, ◌∙◌}
use Rattle.std.specs.Prelude.{codes}
use Rattle.smv_language.specs.Language.{Text, ProgramTree, program_tree, program_text, name_of_fault}
use Rattle.fault_instructions.specs.Instructions.{instruction_tree}
use Rattle.fault_extend.specs.WovenFaults.{fault_tree}
use Rattle.base_files.specs.declared.files.NamedFile.{NamedFile}
use Rattle.cut_report.specs.FaultText as lines
use Rattle.verb_loading.specs.declared.faults.Made.{Made}
use Rattle.verb_loading.specs.declared.loaded.LoadedCase.{LoadedCase}
use Rattle.verb_loading.specs.LoadedCases.{IsLoaded, HoldsLoaded}
use Rattle.verb_loading.specs.Inputs.{HoldsExtension}
use Rattle.verb_loading.proofs.ListedLaws.{are_listed, report_is}

pub holds_extension : (told : Option (List NamedFile)) (name : Text) (p : ProgramTree) (l : LoadedCase) (made : Made) → IsLoaded p l →
    made.text.items ≡ program_text (program_tree l.limited.woven.program) →
    made.report ≡ lines.faults_text (map name_of_fault l.limited.faults) ++ codes "extended\n" →
    IfSome told (λ files. HoldsLoaded files name p l) → IfSome told (λ files. HoldsExtension files name p made)
holds_extension None name p l made loaded text report has = tt
holds_extension (Some files) name p l made loaded text report has = record {
  bytes = has.bytes;
  has = has.has;
  extension = record {
    instructions = instruction_tree l.instructions;
    faults = map fault_tree l.limited.woven.faults;
    is_text = has.is_text;
    taken = loaded.is_case.taken;
    are_faults = loaded.is_case.are_faults;
    within = loaded.is_case.within;
    printed = text ∙ ap program_text loaded.program;
    told = report ∙ report_is l.limited.woven.faults l.limited.faults (are_listed l.limited.typed.model l.limited.woven.faults l.limited.faults loaded.numbered);
  };
}
