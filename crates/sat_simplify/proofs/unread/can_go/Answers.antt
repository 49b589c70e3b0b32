use Rattle.std.proofs.Common.{◌≡◌, ◌-◌, ◌∙◌, Bool, false, List, get_or, sym, subst, arith}
use Rattle.sat_simplify.proofs.unread.can_go.Goals as goal

pub returns : goal.returns
returns c = λ e. record {
  literal = c.args.lit;
  top = get_or c.args.tops.now c.args.begin 0;
  own = c.is_unread.ensures.own (grind arith);
  unmarked = subst (λ (ms : List Bool). get_or ms (c.args.lit.var - c.args.places - 1) false ≡ false) c.as_slice.ensures.value (c.is_unread.ensures.unmarked (grind arith));
  within = omega arith;
  low = grind arith;
  before = c.requires.tops.at c.args.begin (omega arith);
  closed = sym c.is_closed_between.ensures ∙ e;
}
