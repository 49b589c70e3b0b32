use Rattle.std.proofs.Common.{subst}
use Rattle.cut_text_laws.specs.Analysis.{told_ending}
use Rattle.verb_loading.specs.LoadedEvents.{case_in}
use Rattle.verb_loading.specs.Statuses.{ended_with, IsBoundedAt}
use Rattle.verb_odds.proofs.OddsLaws.{finds_odds, found_within}
use Rattle.verb_odds.proofs.odds.prepare_odds.Goals as goal

pub returns-in-Ok-clause-ok : goal.returns-in-Ok-clause-ok
returns-in-Ok-clause-ok g c = finds_odds _ _ _ _ c.in_ok-marked.marked _ c.in-Ok.found c.in_ok-marked.ensures.ok c.in_ok-marked.ensures.marked c.in_ok-marked.ensures.asked c.in-Ok.ensures

pub returns-in-Ok-clause-depth : goal.returns-in-Ok-clause-depth
returns-in-Ok-clause-depth g c =
    subst (λ d. IsBoundedAt d (ended_with (told_ending c.in-Ok.found.ending))) c.in_ok-marked.ensures.asked.1
    (found_within (case_in c.in_ok-marked.marked.loaded) c.in_ok-marked.marked.word.now c.in_ok-marked.marked.depth c.in_ok-marked.marked.odds c.in-Ok.found c.in-Ok.ensures)
