use Rattle.std.proofs.Common.{◌∙◌, ap, sym, map}
use Rattle.fault_rules.specs.Locals.{local_tree}
use Rattle.fault_rules.proofs.KeyedLaws.{keep_entry, put_entry}
use Rattle.fault_rules.proofs.modules.ModuleScope.add.Goals as goal

pub returns-then-contains_key : goal.returns-then-contains_key
returns-then-contains_key c =
    keep_entry (λ k. k.now) local_tree c.args.self.now.locals.entries c.text.result.now c.args.name.now c.text.ensures (local_tree c.args.local) (sym c.contains_key.ensures ∙ c.if-contains_key.true)

pub returns : goal.returns
returns c =
    ap (map (λ e. (e.0.now, local_tree e.1))) c.in_ok-insert.ensures.entries
    ∙ put_entry (λ k. k.now) local_tree c.args.self.now.locals.entries c.text.result.now c.args.name.now c.text.ensures c.text-2.result c.args.local c.text-2.ensures (sym c.contains_key.ensures ∙ c.if-contains_key.false)
