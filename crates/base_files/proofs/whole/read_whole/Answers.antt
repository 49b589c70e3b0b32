use Rattle.std.proofs.Common.{rules, arith, ◌≡◌, ◌++◌, length, take, length-append, length-take-le}
use Rattle.std.proofs.lemmas.Grind.{common_steps}
use Rattle.base_files.specs.Desk.{ReadsFrom}
use Rattle.base_files.proofs.Reading.{IsPrefixOf-more}
use Rattle.base_files.proofs.Stays.{reads_on}
use Rattle.base_files.proofs.whole.read_whole.Goals as goal

pub loop-bytes-preserved : goal.loop-bytes-preserved
loop-bytes-preserved g c =
    let place : c.len-at.result ≡ length c.loop-bytes.bytes.items = search rules in
    let appended : c.extend_from_slice.new.self.items ≡ c.loop-bytes.bytes.items ++ take c.in_ok-count.count c.read.new.into = grind (arith, common_steps) in
    let reads : ReadsFrom (g.D.Desk.told c.args.desk.now).files c.args.name.now (length c.loop-bytes.bytes.items) c.read.new.into c.in_ok-count.count = rw (← place, ← c.loop-bytes.invariant.stays.files) c.in_ok-count.ensures.bytes in
    record {
      stays = reads_on _ _ _ c.loop-bytes.invariant.stays c.read.ensures.stays;
      prefix = rw appended (IsPrefixOf-more _ _ _ _ _ c.in_ok-count.ensures.bound c.loop-bytes.invariant.prefix reads);
      short = rw appended (omega (arith, length-append c.loop-bytes.bytes.items (take c.in_ok-count.count c.read.new.into), length-take-le c.in_ok-count.count c.read.new.into c.in_ok-count.ensures.bound));
      room = search rules;
    }
