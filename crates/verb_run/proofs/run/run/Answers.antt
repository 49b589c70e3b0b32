use Rattle.std.proofs.Common.{sym, subst}
use Rattle.verb_command_line.specs.Commands.{causes, check_causes, orders, check_orders, odds}
use Rattle.verb_loading.specs.Statuses.{IsFinished}
use Rattle.verb_run.proofs.ExtensionLemmas.{done_extends}
use Rattle.verb_run.proofs.OneOutcome.{answers_exactly}
use Rattle.verb_run.proofs.ReplayedLaws.{done_replays, reaching_is_done}
use Rattle.verb_run.proofs.AnalysedLaws.{done_analyses, bounded_analyses}
use Rattle.verb_run.proofs.CheckedLaws.{done_checks}
use Rattle.verb_run.proofs.TabulatedLaws.{finished_tabulates}
use Rattle.verb_run.proofs.MadeLaws.{finished_makes}
use Rattle.verb_run.proofs.FurtherLaws.{finished_or, finished_work}
use Rattle.verb_run.proofs.ShortLaws.{bounded_is_short}
use Rattle.verb_run.proofs.run.run.Goals as goal

pub returns-clause-answered : goal.returns-clause-answered
returns-clause-answered g c = c.answer.ensures.answered

pub returns-clause-exact : goal.returns-clause-exact
returns-clause-exact g c = answers_exactly _ _ _ _ _ _ c.answer.ensures.answered

pub returns-clause-extended : goal.returns-clause-extended
returns-clause-extended g c model faults extended = done_extends _ _ _ _ _ _ model faults extended c.answer.ensures.answered

pub returns-clause-replayed : goal.returns-clause-replayed
returns-clause-replayed g c model faults trace top = done_replays _ _ _ _ _ _ model faults trace top c.answer.ensures.answered

pub returns-clause-reaching : goal.returns-clause-reaching
returns-clause-reaching g c model faults trace top = reaching_is_done _ _ _ _ _ _ model faults trace top c.answer.ensures.answered

pub returns-clause-complete : goal.returns-clause-complete
returns-clause-complete g c model faults top extended cert depth size = done_analyses _ _ _ _ _ _ model faults top extended cert depth size c.answer.ensures.answered

pub returns-clause-bounded : goal.returns-clause-bounded
returns-clause-bounded g c model faults top extended cert depth size k = bounded_analyses _ _ _ _ _ _ model faults top extended cert depth size k c.answer.ensures.answered

pub returns-clause-accepted : goal.returns-clause-accepted
returns-clause-accepted g c model faults top cert = done_checks _ _ _ _ _ _ model faults top cert c.answer.ensures.answered

pub returns-clause-tabulated : goal.returns-clause-tabulated
returns-clause-tabulated g c model faults tops size depth = finished_tabulates _ _ _ _ _ _ model faults tops size depth c.answer.ensures.answered

pub returns-clause-made : goal.returns-clause-made
returns-clause-made g c number stages depth model faults = finished_makes _ _ _ _ _ _ number stages depth model faults c.answer.ensures.answered

pub returns-clause-left : goal.returns-clause-left
returns-clause-left g c = c.answer.ensures.left

pub returns-clause-caused : goal.returns-clause-caused
returns-clause-caused g c model faults file top cert depth finished asks =
    finished_work _ _ _ _ _ _ (causes model faults file top depth cert) _ c.answer.ensures.answered finished asks (λ files o comes stands. finished_or _ _ _ o _ _ _ _ _ finished comes stands)

pub returns-clause-caused_accepted : goal.returns-clause-caused_accepted
returns-clause-caused_accepted g c model faults file top cert done asks =
    let finished = subst IsFinished (sym done) tt in
    finished_work _ _ _ _ _ _ (check_causes model faults file top cert) _ c.answer.ensures.answered finished asks
    (λ files o comes stands. let all = finished_or _ _ _ o _ _ _ _ _ finished comes stands in (all.2, all.1))

pub returns-clause-ordered : goal.returns-clause-ordered
returns-clause-ordered g c model faults top set cert first second depth finished asks =
    finished_work _ _ _ _ _ _ (orders model faults top set first second depth cert) _ c.answer.ensures.answered finished asks
    (λ files o comes stands. finished_or _ _ _ o _ _ _ _ _ finished comes stands)

pub returns-clause-order_accepted : goal.returns-clause-order_accepted
returns-clause-order_accepted g c model faults top set claim cert first second done asks =
    let finished = subst IsFinished (sym done) tt in
    finished_work _ _ _ _ _ _ (check_orders model faults top set first second claim cert) _ c.answer.ensures.answered finished asks
    (λ files o comes stands. let all = finished_or _ _ _ o _ _ _ _ _ finished comes stands in (all.2, all.1))

pub returns-clause-bounds : goal.returns-clause-bounds
returns-clause-bounds g c model faults top depth finished asks =
    finished_work _ _ _ _ _ _ (odds model faults top depth) _ c.answer.ensures.answered finished asks
    (λ files o comes stands. let all = finished_or _ _ _ o _ _ _ _ _ finished comes stands in (all.1, all.0))

pub returns-clause-depth : goal.returns-clause-depth
returns-clause-depth g c = c.answer.ensures.depth

pub returns-clause-short : goal.returns-clause-short
returns-clause-short g c command k means is = bounded_is_short _ _ _ _ _ _ command k c.answer.ensures.answered means is

pub returns-clause-words : goal.returns-clause-words
returns-clause-words g c = c.answer.ensures.words

pub returns-clause-meant : goal.returns-clause-meant
returns-clause-meant g c = c.answer.ensures.meant
