use Rattle.std.proofs.Common.{◌∙◌}
use Rattle.verb_loading.specs.Statuses.{words_text}
use Rattle.verb_loading.proofs.SaidLaws.{says_in_part}
use Rattle.verb_run.proofs.ending.reject.Goals as goal

pub returns-in-Ok-clause-part : goal.returns-in-Ok-clause-part
returns-in-Ok-clause-part g c =
    says_in_part c.say_whole.result _ _ c.as_slice.result.now (words_text c.args.fault) (c.as_slice.ensures ∙ c.in-Ok.ensures) c.say_whole.ensures.ok c.say_whole.ensures.err
