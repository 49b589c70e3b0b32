use Rattle.std.proofs.Common.{sym, subst, ◌∙◌}
use Rattle.smv_language.specs.ProgramTree.{program_tree}
use Rattle.verb_loading.specs.Wrongs.{IfRefused}
use Rattle.verb_loading.specs.Cases.{IsWrongWord}
use Rattle.verb_loading.proofs.TopLemmas.{refuses_top, no_desk_at_top}
use Rattle.verb_loading.proofs.top.load_top.Goals as goal
use Rattle.base_values.proofs.ResultLaws.{same_fault}

pub returns-in-Err-clause-refused : goal.returns-in-Err-clause-refused
returns-in-Err-clause-refused c r e =
    let p = program_tree c.args.model.now.program in
    refuses_top (IsWrongWord p c.args.word.now) c.in-Err.wrong r (sym (same_fault e) ∙ c.stop.ensures)
    (subst (λ b. IfRefused (IsWrongWord p b) c.in-Err.wrong) c.as_bytes.ensures.value c.in-Err.ensures.wrong)

pub returns-in-Err-clause-desk : goal.returns-in-Err-clause-desk
returns-in-Err-clause-desk c e = no_desk_at_top c.in-Err.wrong (sym (same_fault e) ∙ c.stop.ensures)
