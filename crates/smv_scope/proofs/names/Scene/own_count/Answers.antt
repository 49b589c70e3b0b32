-- There is no such instance.
use Rattle.std.proofs.Common.{◌≤◌, length, ap, sym, rules}
use Rattle.smv_scope.specs.Steps.{count_in}
use Rattle.smv_scope.proofs.names.Scene.own_count.Goals as goal
use Rattle.std.proofs.lemmas.Option.{slice_get_past as get_past}

pub returns-in-None : goal.returns-in-None
returns-in-None c =
    let past : length c.args.self.now.spots.items ≤ c.args.spot = search rules in ap count_in (sym (get_past c.args.self.now.spots.items c.args.spot past))
