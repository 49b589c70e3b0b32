use Rattle.std.proofs.Common.{sym, subst, arith}
use Rattle.sat_encoding_laws.specs.Meanings.{IsSignal}
use Rattle.sat_expressions.proofs.branches.none_of.Goals as goal

pub returns : goal.returns
returns c = record {
  usable = subst (IsSignal c.args.g.now) (sym c.truth.ensures.signal) c.constant.ensures.below;
  grows = omega arith;
  right = λ long. absurd (c.requires long);
}
