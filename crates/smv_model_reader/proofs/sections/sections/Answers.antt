use Rattle.std.proofs.Common.{sym, ap, ◌∙◌, ◌+◌, ◌-◌, length, map}
use Rattle.std.specs.Prelude.{Err}
use Rattle.std.proofs.lemmas.Result.{err_from_is_err_and}
use Rattle.smv_language.specs.ProgramTree.{section_tree}
use Rattle.smv_expression_reader.specs.SecondPass.{rest_of, with_front}
use Rattle.smv_model_reader.specs.ProgramParts.{past_skipped, section_at, is_kept, sections_at}
use Rattle.smv_model_reader.proofs.PartLaws.{sections_skip, sections_next, sections_end, sections_deep, sections_none}
use Rattle.smv_model_reader.proofs.sections.sections.Goals.{then-is_next, else-is_next+then-begins_section+in_ok-section+in_ok-push}
use Rattle.smv_model_reader.proofs.sections.sections.Goals as goal
use Rattle.base_values.proofs.ResultLaws.{same_fault}

pub returns-in_err-section-clause-deep : goal.returns-in_err-section-clause-deep
returns-in_err-section-clause-deep c = λ e.
    let exit = err_from_is_err_and c.from_residual.result c.from_residual.ensures.1 in
    sections_deep (sections_at (length c.args.cursor.now) c.args.cursor.now) (map section_tree c.loop-round.sections) c.len-most.result c.loop-round.round c.loop-round.cursor c.loop-round.invariant c.loop-round-test.true (sym c.is_next.ensures ∙ c.if-is_next.false)
    (ap is_kept (sym c.mark-word.ensures) ∙ sym c.begins_section.ensures ∙ c.if-begins_section.true)
    (ap (λ z. section_at z (rest_of c.loop-round.cursor)) (sym c.mark-word.ensures) ∙ ap (section_at (c.mark-word.result)) (sym c.skip-then-begins_section.ensures) ∙ c.section.ensures.deep (c.in_err-section.was ∙ ap Err (sym exit.2 ∙ same_fault (sym exit.1 ∙ e))))

pub returns-in_err-section-clause-none : goal.returns-in_err-section-clause-none
returns-in_err-section-clause-none c = λ e.
    let exit = err_from_is_err_and c.from_residual.result c.from_residual.ensures.1 in
    sections_none (sections_at (length c.args.cursor.now) c.args.cursor.now) (map section_tree c.loop-round.sections) c.len-most.result c.loop-round.round c.loop-round.cursor c.loop-round.invariant c.loop-round-test.true (sym c.is_next.ensures ∙ c.if-is_next.false)
    (ap is_kept (sym c.mark-word.ensures) ∙ sym c.begins_section.ensures ∙ c.if-begins_section.true)
    (ap (λ z. section_at z (rest_of c.loop-round.cursor)) (sym c.mark-word.ensures) ∙ ap (section_at (c.mark-word.result)) (sym c.skip-then-begins_section.ensures) ∙ c.section.ensures.none (c.in_err-section.was ∙ ap Err (sym exit.2 ∙ same_fault (sym exit.1 ∙ e))))

pub returns-else-begins_section-clause-ok : goal.returns-else-begins_section-clause-ok
returns-else-begins_section-clause-ok c =
    sections_end (sections_at (length c.args.cursor.now) c.args.cursor.now) (map section_tree c.loop-round.sections) c.len-most.result c.loop-round.round c.loop-round.cursor c.loop-round.invariant c.loop-round-test.true (sym c.is_next.ensures ∙ c.if-is_next.false)
    (ap is_kept (sym c.mark-word.ensures) ∙ sym c.begins_section.ensures ∙ c.if-begins_section.false)

pub loop-round-preserved : goal.loop-round-preserved
loop-round-preserved c = elim c.if-is_next.branch [
  | then-is_next w ↦
      sections_skip (sections_at (length c.args.cursor.now) c.args.cursor.now) (map section_tree c.loop-round.sections) c.len-most.result c.loop-round.round c.loop-round.cursor w.pass_over.new.cursor c.loop-round.invariant c.loop-round-test.true
      (sym c.is_next.ensures ∙ w.if-is_next.true) (w.pass_over.ensures ∙ ap past_skipped w.skip.ensures)
      ∙ ap (λ z. with_front (map section_tree z) (sections_at (c.len-most.result - (c.loop-round.round + 1)) w.pass_over.new.cursor)) (sym w.sections-is)
      ∙ ap (λ z. with_front (map section_tree c.if-is_next.sections) (sections_at (c.len-most.result - (c.loop-round.round + 1)) z)) (sym w.cursor-is)
  | else-is_next+then-begins_section+in_ok-section+in_ok-push w ↦
      sections_next (sections_at (length c.args.cursor.now) c.args.cursor.now) c.loop-round.sections w.push.new.self c.len-most.result c.loop-round.round c.loop-round.cursor w.section.new.cursor w.in_ok-section.field-0 c.loop-round.invariant c.loop-round-test.true
      (sym c.is_next.ensures ∙ w.if-is_next.false) (ap is_kept (sym c.mark-word.ensures) ∙ sym w.begins_section.ensures ∙ w.if-begins_section.true)
      (ap (λ z. section_at z (rest_of c.loop-round.cursor)) (sym c.mark-word.ensures) ∙ ap (section_at (c.mark-word.result)) (sym w.skip-then-begins_section.ensures) ∙ w.in_ok-section.ensures.ok) w.in_ok-push.ensures.ok
      ∙ ap (λ z. with_front (map section_tree z) (sections_at (c.len-most.result - (c.loop-round.round + 1)) w.section.new.cursor)) (sym w.sections-is)
      ∙ ap (λ z. with_front (map section_tree c.if-is_next.sections) (sections_at (c.len-most.result - (c.loop-round.round + 1)) z)) (sym w.cursor-is)
]
