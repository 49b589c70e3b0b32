use Rattle.std.proofs.Common.{◌≡◌, ◌∙◌, Some, sym, ap, subst}
use Rattle.std.specs.Prelude.{slice_get}
use Rattle.smv_language.specs.Trace.{Each, AtSome}
use Rattle.fault_extend.proofs.NumberLaws.{right_put, known_kept, known_put}
use Rattle.fault_extend.proofs.list.SymbolNumbers.add.Goals as goal

pub returns-clause-symbols : goal.returns-clause-symbols
returns-clause-symbols c =
    subst (Each (λ e. slice_get c.args.self.now.names.now e.1 ≡ Some e.0.now)) (sym c.in_ok-insert.ensures.entries)
    (right_put (λ k. k.now) c.args.self.now.names.now c.args.self.now.numbers.entries c.text.result c.args.number c.requires.symbols (c.requires.is ∙ ap Some (sym c.text.ensures)))

pub returns-clause-kept : goal.returns-clause-kept
returns-clause-kept c x h =
    subst (AtSome (λ e. e.0.now ≡ x)) (sym c.in_ok-insert.ensures.entries) (known_kept (λ k. k.now) c.args.self.now.names.now c.args.self.now.numbers.entries c.text.result c.args.number x h)

pub returns-clause-added : goal.returns-clause-added
returns-clause-added c =
    subst (λ x. AtSome (λ e. e.0.now ≡ x) c.insert.new.self.entries) (c.text.ensures)
    (subst (AtSome (λ e. e.0.now ≡ c.text.result.now)) (sym c.in_ok-insert.ensures.entries) (known_put (λ k. k.now) c.args.self.now.names.now c.args.self.now.numbers.entries c.text.result c.args.number))
