-- what is found from here on is found at all sets, and those so far are in order
use Rattle.std.proofs.Common.{◌≡◌, ◌+◌, take, drop}
use Rattle.cert_laws.specs.Certificate.{lines_of_sets}
use Rattle.cert_laws.specs.Sites.{set_sites}
use Rattle.cert_check.specs.QuestionMatter.{asked}
use Rattle.cert_check.specs.SiteFindings.{GoesOn}
use Rattle.cert_check.specs.Order.{AreInOrder}
use Rattle.cert_check.proofs.listed.judge_sets.Given as goal

abbrev pub invariant-loop-k : goal.invariant-loop-k
invariant-loop-k l = record {
  rest : GoesOn (asked l.q) (set_sites l.k (drop l.k l.sets) (drop l.k l.texts)) (set_sites 0 l.sets l.texts);
  order : AreInOrder l.sets l.k;
  line : l.line ≡ 4 + lines_of_sets (take l.k l.texts);
}
