-- The name by which a variable is printed.
use Rattle.smv_language.specs.Language.{Text, variable_tree}
use Rattle.smv_language.specs.declared.model.Variable.{Variable}
use Rattle.cut_text_laws.specs.TraceText.{variable_text}

-- the name of a variable of the code, with dots between its parts
abbrev pub printed_name : Variable → Text
printed_name x = variable_text (variable_tree x)
