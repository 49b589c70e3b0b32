-- The search ends, since each line has a byte more behind it.
use Rattle.std.proofs.Common.{◌-◌, length}
use Rattle.xsap_refusals.proofs.showing.line_with.Given as goal

abbrev pub decreases-loop-place : goal.decreases-loop-place
decreases-loop-place l = length l.bytes - l.place
