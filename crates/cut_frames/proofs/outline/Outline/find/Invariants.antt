-- What is told of the bits so far holds of each first state.
use Rattle.std.proofs.Common.{◌≡◌, length}
use Rattle.cut_frames.specs.GuardedSearch.{HasAsked}
use Rattle.cut_frames.specs.Parts.{AreAgreed, IsAskable}
use Rattle.cut_frames.proofs.outline.Outline.find.Given as goal

abbrev pub invariant-bits : goal.invariant-bits
invariant-bits g l = record {
  count : length l.self.agreed.items ≡ l.x;
  agreed : AreAgreed l.system l.self.agreed.items;
  askable : IsAskable l.system l.kept;
  asked : HasAsked l.initial.kept l.kept;
}
