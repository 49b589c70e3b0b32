use Rattle.std.proofs.Common.{rules, ◌<◌, ◌^◌, length}
use Rattle.verb_causes.proofs.StagedLaws.{event_searchable}
use Rattle.verb_causes.proofs.causes.staged_model.Goals as goal

pub new-requires-clause-searchable : goal.new-requires-clause-searchable
new-requires-clause-searchable c =
    let few : length c.args.staged.now.typed.model.symbols < 2 ^ 31 = search rules in
    event_searchable c.args.staged.now c.requires few
