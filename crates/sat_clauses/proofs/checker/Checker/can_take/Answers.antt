use Rattle.std.proofs.Common.{ℕ, IsTrue, All, length, sym, ap, subst, arith}
use Rattle.sat_clauses.specs.Derivation.{Derivation, IsUpTo}
use Rattle.sat_clauses.specs.Hints.{HasNoOpposites}
use Rattle.sat_clauses.proofs.checker.Checker.can_take.Goals as goal

pub returns : goal.returns
returns c =
    let has_room : IsTrue c.has_room_for.result = grind arith in
    let room = c.has_room_for.ensures.0 has_room in
    let up_to : IsTrue c.are_up_to.result = grind arith in
    let in_range = subst (λ (n : ℕ). All (IsUpTo n) c.lits-lits.result.now) c.vars.ensures (c.are_up_to.ensures.0 up_to) in (
      (λ is. record {
        room_for_clause = omega (arith, ap (λ (d : Derivation). d.spare_clauses) c.self.view_is, room.0);
        room_for_lits = omega (arith, ap (λ (d : Derivation). d.spare_lits) c.self.view_is, room.1, ap length c.lits-lits.ensures);
        in_range = subst (All (IsUpTo c.args.self.now.vars)) c.lits-lits.ensures in_range;
        no_opposites = subst HasNoOpposites c.lits-lits.ensures (c.has_no_opposites.ensures.0 is);
      }),
      (λ can. c.has_no_opposites.ensures.1 (subst HasNoOpposites (sym c.lits-lits.ensures) can.no_opposites)),
    )
