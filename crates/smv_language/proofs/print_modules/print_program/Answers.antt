use Rattle.std.proofs.Common.{rules, ◌≡◌, sym, subst}
use Rattle.smv_language.specs.Text.{program_text}
use Rattle.smv_language.specs.ProgramTree.{program_tree}
use Rattle.smv_language.specs.Bytes.{BytesSpellProgram}
use Rattle.smv_language.proofs.ProgramSpells.{program_spells}
use Rattle.smv_language.proofs.print_modules.print_program.Goals as goal

pub returns-clause-spells : goal.returns-clause-spells
returns-clause-spells c = λ h.
    let same : c.into_vec.result.items ≡ program_text (program_tree c.args.p.now) = search rules in
    subst (λ text. BytesSpellProgram text (program_tree c.args.p.now)) (sym same) (program_spells (program_tree c.args.p.now) h)
