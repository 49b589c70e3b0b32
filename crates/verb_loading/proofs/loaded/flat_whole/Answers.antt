use Rattle.std.proofs.Common.{◌∙◌}
use Rattle.smv_language.specs.ProgramTree.{program_tree}
use Rattle.verb_loading.specs.Wholes.{BreaksNames}
use Rattle.verb_loading.proofs.Told.{if_refused, named}
use Rattle.verb_loading.proofs.loaded.flat_whole.Goals as goal

pub returns-in-Err-clause-wrong : goal.returns-in-Err-clause-wrong
returns-in-Err-clause-wrong c =
    let p = program_tree c.args.program.now in
    let f = c.in-Err.fault in
    if_refused (BreaksNames p) _ (λ told e. let is = named p f 0 told c.in-Err.ensures.fault (e ∙ c.from.ensures) in record { rule = is.rule; item = f.item; broken = is.broken; is = is.is })

pub returns-in-Ok-clause-model : goal.returns-in-Ok-clause-model
returns-in-Ok-clause-model c = record { is = c.in-Ok.ensures.flat; only = c.in-Ok.ensures.alone }
