use Rattle.std.proofs.Common.{◌≡◌, true, subst, arith}
use Rattle.sat_simplify.specs.SamePlaces.{IsOwn}
use Rattle.sat_simplify.proofs.BaseLaws.{becomes_eliminated}
use Rattle.sat_simplify.proofs.base.Base.eliminate.Goals as goal

pub returns : goal.returns
returns c =
    let s = c.args.self.now in
    let l = c.args.lit in
    let passes : c.is_own.result ≡ true = grind arith in
    let own : IsOwn s.places l.var = subst (IsOwn s.places) c.var.ensures.value (c.is_own.ensures.0 passes) in
    becomes_eliminated s c.take_out.new.self c.add_all.new.self l c.in-Some.list c.requires own (rw c.in-Some.is at c.in_ok-list.ensures) c.take_out.ensures c.in_ok-add_all.ensures
