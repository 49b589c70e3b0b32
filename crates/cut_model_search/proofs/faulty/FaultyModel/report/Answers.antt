use Rattle.std.proofs.Common.{◌≡◌, ap, ◌∙◌, length, map}
use Rattle.smv_language.specs.ModelTree.{model_tree, name_of_fault}
use Rattle.smv_type_laws.specs.Costs.{state_bits}
use Rattle.cut_text_laws.specs.AnalysisText.{analysis_text}
use Rattle.cut_report.specs.FaultText.{faults_text}
use Rattle.cut_report.specs.AnalysisView.{told_analysis}
use Rattle.cut_report_laws.proofs.Printed.{answers_printed}
use Rattle.cut_model_search.specs.FaultyModels.{whole_in}
use Rattle.cut_model_search.proofs.faulty.FaultyModel.report.Goals as goal

pub returns : goal.returns
returns c =
    let a = c.args.a.now in
    c.in_ok-text.ensures
    ∙ (λ j. analysis_text (faults_text (map name_of_fault (c.listed.ensures j))) (model_tree (c.plain.ensures j)) (c.bits.ensures j) (length (c.listed.ensures j)) a.size
    (told_analysis (c.plain.ensures j).symbols a.sets a.traces a.first c.told.result))
    ∙ ap (analysis_text (faults_text (map name_of_fault c.args.self.now.faults)) (model_tree c.args.self.now.model) (state_bits (whole_in c.args.self.now)) (length c.args.self.now.faults) a.size)
    (answers_printed c.args.self.now.model.symbols a c.told.result c.told.ensures)
