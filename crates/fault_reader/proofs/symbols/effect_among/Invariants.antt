use Rattle.std.proofs.Common.{◌≡◌, drop}
use Rattle.smv_expression_reader.specs.Places.{is_word}
use Rattle.fault_instructions.specs.Effects.{first_kind}
use Rattle.fault_reader.proofs.symbols.effect_among.Given as goal

abbrev pub invariant-loop-kind : goal.invariant-loop-kind
invariant-loop-kind l = first_kind (λ w. is_word l.token w) (drop l.kind-index l.kinds) ≡ first_kind (λ w. is_word l.token w) l.kinds
