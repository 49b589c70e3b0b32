use Rattle.std.proofs.Common.{◌≡◌, ◌≤◌, ◌<◌, ◌+◌, ℕ, List, All, sym, subst, arith, map}
use Rattle.std.proofs.lemmas.Grind.{common_steps}
use Rattle.sat_clauses.specs.Literal.{Literal, opposite}
use Rattle.cut_frames.specs.Bits.{literals_from}
use Rattle.cut_frames.specs.Levels.{frames_of}
use Rattle.cut_frames.specs.Parts.{IsPart}
use Rattle.cut_frames.proofs.Sets.{part_more}
use Rattle.cut_frames.proofs.PartLemmas.{may_stand, blocks_of, broken_over}
use Rattle.cut_frames.proofs.clear.blocking.Goals as goal

pub chosen-requires-clause-over : goal.chosen-requires-clause-over
chosen-requires-clause-over g c =
    let bits : c.from-bits.result ≡ c.args.at.system.now.state_bits = grind (arith, common_steps) in
    let broken : c.in_ok-broken.broken ≡ (map opposite (literals_from 2 c.args.state.now)) = grind (arith, common_steps) in
    subst (λ (b : ℕ). All (λ (l : Literal). l.var < b + 2) c.in_ok-broken.broken) (sym bits)
    (subst (λ (ls : List Literal). All (λ (l : Literal). l.var < c.args.at.system.now.state_bits + 2) ls) (sym broken) (λ k d lt. (broken_over c.args.at.system.now.state_bits c.args.state.now c.requires.state k d lt).1))

pub chosen-requires-clause-one : goal.chosen-requires-clause-one
chosen-requires-clause-one g c = let broken : c.in_ok-broken.broken ≡ (map opposite (literals_from 2 c.args.state.now)) = grind (arith, common_steps) in subst (IsPart c.args.cores.now.first) (sym broken) c.requires.cores.first.0

pub chosen-requires-clause-other : goal.chosen-requires-clause-other
chosen-requires-clause-other g c = let broken : c.in_ok-broken.broken ≡ (map opposite (literals_from 2 c.args.state.now)) = grind (arith, common_steps) in subst (IsPart c.args.cores.now.after) (sym broken) c.requires.cores.after.0

pub smaller-requires-clause-stands : goal.smaller-requires-clause-stands
smaller-requires-clause-stands g c =
    let broken : c.in_ok-broken.broken ≡ (map opposite (literals_from 2 c.args.state.now)) = grind (arith, common_steps) in
    may_stand c.args.at.system.now (frames_of c.args.at.frames.now) c.args.at.level c.args.state.now c.args.cores.now.first c.args.cores.now.after c.in_ok-clause.clause c.requires.state (subst (IsPart c.in_ok-clause.clause) broken c.in_ok-clause.ensures.part) c.in_ok-clause.ensures.one c.in_ok-clause.ensures.other
    c.requires.cores.first.1 c.requires.cores.after.1

pub smaller-requires-clause-kept : goal.smaller-requires-clause-kept
smaller-requires-clause-kept g c = c.requires.kept

pub returns-clause-blocks : goal.returns-clause-blocks
returns-clause-blocks g c =
    let broken : c.in_ok-broken.broken ≡ (map opposite (literals_from 2 c.args.state.now)) = grind (arith, common_steps) in
    blocks_of c.args.at.system.now (frames_of c.args.at.frames.now) c.args.at.level c.args.state.now c.in_ok-least.least c.requires.at.some c.in_ok-least.ensures.stands
    (part_more c.in_ok-least.least c.in_ok-clause.clause (map opposite (literals_from 2 c.args.state.now)) c.in_ok-least.ensures.part (subst (IsPart c.in_ok-clause.clause) broken c.in_ok-clause.ensures.part))

pub returns-clause-asked : goal.returns-clause-asked
returns-clause-asked g c = c.in_ok-least.ensures.asked
