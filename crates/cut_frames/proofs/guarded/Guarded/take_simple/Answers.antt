use Rattle.std.proofs.Common.{◌≡◌, ◌≤◌, ◌+◌, ◌-◌, ℕ, refl, arith}
use Rattle.cut_frames.proofs.GuardedLaws.{takes_from}
use Rattle.cut_frames.proofs.guarded.Guarded.take_simple.Goals as goal
use Rattle.sat_simplify.proofs.UnreadLaws.{lists_raised}

pub returns : goal.returns
returns g c =
    let reach : c.highest.result ≤ c.max.result = grind arith in
    let more : c.renew_bad.new.self.places ≤ c.max.result = grind arith in
    λ list same.
    takes_from c.args.self.now c.renew_bad.new.self c.widen.new.self c.fill.new.self c.widen.new.self.places c.renew_bad.new.self.vars c.widen.new.self.bad.var (c.max.result - c.renew_bad.new.self.places) list c.args.bad
    c.requires.near same c.requires.well c.in_ok-renew_bad.ensures c.in_ok-widen.ensures
    (lists_raised c.highest.result (c.args.self.now.places + (c.max.result - c.renew_bad.new.self.places)) c.args.bad
    (fits c.highest.result c.max.result c.args.self.now.places c.renew_bad.new.self.places c.in_ok-renew_bad.ensures.places reach more) c.highest.ensures.up_to) refl refl refl c.in_ok-fill.ensures
  where
    fits : (h m p q : ℕ) → q ≡ p → h ≤ m → q ≤ m → h ≤ p + (m - q)
    fits h m p q e a b = omega (arith, e, a, b)
