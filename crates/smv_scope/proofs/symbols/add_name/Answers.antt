-- An inserted symbol stands last, unless it stood before.
use Rattle.std.proofs.Common.{rules, ap, ◌∙◌}
use Rattle.smv_language.specs.BorrowedTexts.{texts}
use Rattle.smv_language.proofs.BorrowedTexts.{inserted}
use Rattle.smv_scope.proofs.symbols.add_name.Goals as goal

pub returns : goal.returns
returns c = ap texts (search rules) ∙ inserted c.args.symbols.now.keys c.text.result ∙ search rules
