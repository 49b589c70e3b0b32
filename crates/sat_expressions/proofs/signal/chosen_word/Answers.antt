use Rattle.std.proofs.Common.{◌<◌, sym, ◌∙◌, arith}
use Rattle.sat_encoding_laws.specs.Signals.{word_in}
use Rattle.sat_expressions.specs.BuiltSignals.{signal_of}
use Rattle.sat_expressions.proofs.SignalLaws.{fitted_below, fitted_long, chosen_is}
use Rattle.sat_expressions.proofs.signal.chosen_word.Goals as goal

pub choose-requires-clause-same : goal.choose-requires-clause-same
choose-requires-clause-same c =
    fitted_long c.args.width (word_in (signal_of c.args.a)) c.in_ok-a.a c.in_ok-a.ensures ∙ sym (fitted_long c.args.width (word_in (signal_of c.args.b)) c.in_ok-b.b c.in_ok-b.ensures)

pub choose-requires-clause-left : goal.choose-requires-clause-left
choose-requires-clause-left c =
    let least : 1 < c.args.g.now.free = omega (arith, c.check_room.ensures.least) in
    fitted_below c.args.g.now c.args.width (signal_of c.args.a) c.in_ok-a.a c.in_ok-a.ensures least c.requires.left

pub choose-requires-clause-right : goal.choose-requires-clause-right
choose-requires-clause-right c =
    let least : 1 < c.args.g.now.free = omega (arith, c.check_room.ensures.least) in
    fitted_below c.args.g.now c.args.width (signal_of c.args.b) c.in_ok-b.b c.in_ok-b.ensures least c.requires.right

pub choose-requires-clause-room : goal.choose-requires-clause-room
choose-requires-clause-room c = omega (arith, fitted_long c.args.width (word_in (signal_of c.args.a)) c.in_ok-a.a c.in_ok-a.ensures, c.in_ok-check_room.ensures.room, c.in_ok-check_width.ensures.narrow)

pub returns : goal.returns
returns c =
    chosen_is c.args.g.now c.choose.new.g c.args.width c.args.c (signal_of c.args.a) (signal_of c.args.b) c.in_ok-a.a c.in_ok-b.b c.in_ok-chosen.chosen _
    c.in_ok-a.ensures c.in_ok-b.ensures c.requires.some c.in_ok-chosen.ensures.exact c.in_ok-chosen.ensures.value
