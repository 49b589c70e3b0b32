-- A name that has an entry was seen before, and one that has none gets one.
use Rattle.std.proofs.Common.{ap, ◌∙◌, sym, true, false}
use Rattle.smv_flat_laws.specs.Rules.{double_name}
use Rattle.smv_scope.specs.ModuleFaults.{told_if}
use Rattle.smv_scope.proofs.MapLaws.{seen, stands_last}
use Rattle.smv_scope.proofs.modules.declare.Goals as goal

pub returns-then-is_some-clause-fault : goal.returns-then-is_some-clause-fault
returns-then-is_some-clause-fault c =
    ap (λ b. told_if b double_name c.args.item)
    (seen c.args.locals.now c.args.name c.in_ok-insert.field-0 c.in_ok-insert.ensures.old true (sym c.is_some.ensures ∙ c.if-is_some.true))

pub returns-clause-entries : goal.returns-clause-entries
returns-clause-entries c =
    stands_last c.args.locals.now c.args.name c.in_ok-insert.field-0 c.in_ok-insert.ensures.old c.args.local c.insert.new.self.entries
    (sym c.is_some.ensures ∙ c.if-is_some.false) c.in_ok-insert.ensures.entries

pub returns-clause-kept : goal.returns-clause-kept
returns-clause-kept c =
    ap (λ b. told_if b double_name c.args.item)
    (seen c.args.locals.now c.args.name c.in_ok-insert.field-0 c.in_ok-insert.ensures.old false (sym c.is_some.ensures ∙ c.if-is_some.false))
