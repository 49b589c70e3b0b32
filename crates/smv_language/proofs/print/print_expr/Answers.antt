use Rattle.std.proofs.Common.{rules, ◌≡◌, sym, subst}
use Rattle.smv_language.specs.Text.{text_of}
use Rattle.smv_language.specs.ExpressionTree.{tree_of}
use Rattle.smv_language.specs.Bytes.{BytesSpellExpr}
use Rattle.smv_language.proofs.TextSpells.{text_spells}
use Rattle.smv_language.proofs.print.print_expr.Goals as goal

pub returns-clause-spells : goal.returns-clause-spells
returns-clause-spells c = λ h.
    let same : c.into_vec.result.items ≡ text_of (tree_of c.args.e.now) = search rules in
    subst (λ text. BytesSpellExpr text (tree_of c.args.e.now)) (sym same) (text_spells (tree_of c.args.e.now) h)
