use Rattle.std.proofs.Common.{◌≡◌, ◌∙◌, Some, sym, ap, subst}
use Rattle.std.specs.Prelude.{slice_get, IfSome}
use Rattle.std.specs.Option.{option_copied}
use Rattle.smv_language.specs.Trace.{AtSome}
use Rattle.fault_extend.proofs.NumberLaws.{right_found, known_found}
use Rattle.fault_extend.proofs.list.SymbolNumbers.number_of.Goals as goal

pub returns : goal.returns
returns c =
    subst (λ o. IfSome o (λ n. slice_get c.args.self.now.names.now n ≡ Some c.text.result.now)) (sym c.get.ensures.value ∙ ap option_copied c.in-Some.is)
    (right_found (λ k. k.now) c.args.self.now.names.now c.args.self.now.numbers.entries c.text.result.now c.requires.symbols)
    ∙ ap Some c.text.ensures

pub unreachable-requires : goal.unreachable-requires
unreachable-requires c =
    known_found (λ k. k.now) c.args.self.now.names.now c.args.self.now.numbers.entries c.text.result.now
    (subst (λ x. AtSome (λ e. e.0.now ≡ x) c.args.self.now.numbers.entries) (sym c.text.ensures) c.requires.known)
    (sym c.get.ensures.value ∙ ap option_copied c.in_default.is)
