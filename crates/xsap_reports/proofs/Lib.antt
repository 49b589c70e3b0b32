mod CsvLaws
mod JsonLaws
mod MefLaws
mod MefSets
mod TextRules
