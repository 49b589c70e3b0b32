use Rattle.std.proofs.Common.{◌≡◌, drop}
use Rattle.smv_expression_reader.specs.SecondPass.{has_word}
use Rattle.fault_instructions.specs.Effects.{first_kind}
use Rattle.fault_reader.proofs.build.effect_among.Given as goal

abbrev pub invariant-loop-kind : goal.invariant-loop-kind
invariant-loop-kind l = first_kind (λ w. has_word w l.cursor) (drop l.kind-index l.kinds) ≡ first_kind (λ w. has_word w l.cursor) l.kinds
