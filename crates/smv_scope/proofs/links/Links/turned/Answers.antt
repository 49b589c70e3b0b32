-- All rows are added from their other ends.
use Rattle.std.proofs.Common.{rules, ◌≤◌, ℕ, List, length, map, ap, ◌∙◌, sym}
use Rattle.std.proofs.lemmas.List.{drop_all}
use Rattle.std.specs.Prelude.{Vec}
use Rattle.std.specs.declared.alloc.Global.{Global}
use Rattle.smv_scope.specs.Links.{rows, turned_from}
use Rattle.smv_scope.proofs.LinkLaws.{are_turned}
use Rattle.smv_scope.proofs.links.Links.turned.Goals as goal

pub returns : goal.returns
returns c =
    let past : length c.args.self.now.of.items ≤ c.loop-from.from = search rules in
    record {
      turned = are_turned c.args.self.now c.loop-from.back
          (sym (ap (λ (vs : List (Vec ℕ Global)). turned_from (rows c.loop-from.back) c.loop-from.from (map (λ (v : Vec ℕ Global). v.items) vs)) (drop_all c.loop-from.from c.args.self.now.of.items past))
          ∙ c.loop-from.invariant);
    }
