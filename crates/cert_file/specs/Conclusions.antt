-- What stands of a certificate and a report that were to be written and said.
use Rattle.std.specs.Prelude.{◌≡◌, ◌⊎◌}
use Rattle.base_files.specs.Desk.{SaysPrefix}
use Rattle.smv_language.specs.ProgramTree.{Text}
use Rattle.verb_loading.specs.CaseAnswers.{Told, Said, told_maybe, WritesPrefixMaybe}
use Rattle.cert_file.specs.declared.conclusion.Conclusion.{Conclusion}

-- a part of the certificate was written and nothing said, or the whole, and a part of the report said
abbrev pub ConcludesInPart : Text → Conclusion → Told → Told → Said → Said → Type 0
ConcludesInPart name k before after said now =
    (WritesPrefixMaybe before after name k.cert × (now ≡ said)) ⊎ ((after ≡ told_maybe before name k.cert) × SaysPrefix said now k.report)
