use Rattle.std.proofs.Common.{◌∙◌, ap, sym, map, []}
use Rattle.smv_language.specs.ProgramTree.{module_tree}
use Rattle.fault_rules.specs.KeyedLists.{with_entry, with_entries}
use Rattle.fault_rules.specs.Locals.{locals_in, locals_of, scopes_in}
use Rattle.fault_rules.proofs.KeyedLaws.{keep_entry, put_entry}
use Rattle.fault_rules.proofs.modules.KnownProgram.add_module.Goals as goal

pub returns-then-contains_key-clause-scopes : goal.returns-then-contains_key-clause-scopes
returns-then-contains_key-clause-scopes c =
    keep_entry (λ k. k.now) locals_in c.args.self.now.scopes.entries c.text.result.now c.args.«module».now.name c.text.ensures (with_entries [] (locals_of (module_tree c.args.«module».now))) (sym c.contains_key.ensures ∙ c.if-contains_key.true)

pub returns-clause-scopes : goal.returns-clause-scopes
returns-clause-scopes c =
    ap (map (λ e. (e.0.now, locals_in e.1))) c.in_ok-insert.ensures.entries
    ∙ put_entry (λ k. k.now) locals_in c.args.self.now.scopes.entries c.text.result.now c.args.«module».now.name c.text.ensures c.text-2.result c.in_ok-scope.scope c.text-2.ensures (sym c.contains_key.ensures ∙ c.if-contains_key.false)
    ∙ ap (λ ls. with_entry (scopes_in c.args.self.now) (c.args.«module».now.name, ls)) c.in_ok-scope.ensures
