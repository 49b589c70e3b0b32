-- An expression that is read over the program and over what is woven of it means the same in both.
use Rattle.std.proofs.Common.{◌↔◌, []}
use Rattle.smv_language.specs.Language.{May, FlatMay}
use Rattle.fault_weave.specs.WovenProgram.{woven}
use Rattle.fault_instructions.specs.Weavable.{HasMeaning}
use Rattle.fault_weave.proofs.Agreement.{may_agree}
use Rattle.smv_flat_laws.specs.NameResolution.{IsLeafOf, Resolver, IsSound, IsResolved}
use Rattle.smv_type_laws.specs.Laws.{values_by_number}
use Rattle.smv_type_laws.proofs.AnyResolver.{may_by}
use Rattle.smv_type_laws.proofs.ModelLaws.{all_leaves_more}
use Rattle.smv_type_laws.proofs.WrittenLaws.{numbers}
use Rattle.smv_type_laws.proofs.Leaves.{HasLeaf, has_leaves}
use Rattle.fault_woven_laws.specs.WovenTopsLaws.{ResolvedIsReadable, WovenMeansTheSame, TopsAreOfExtensions}

pub resolved_readable : ResolvedIsReadable
resolved_readable p m is at e tree resolved =
    let r : (r : Resolver) × IsSound p m is.written r × IsResolved (r at) e tree = resolved is in
    all_leaves_more (HasLeaf (r.0 at)) (HasMeaning p at) (λ name given. let means : IsLeafOf p m is.written at name given.0 = r.1 at name given.0 given.1 in (means.0, means.1)) e
    (has_leaves (r.0 at) e tree r.2)

pub means_same : WovenMeansTheSame
means_same p m i w have at e tree woven_tree read now next here there cut cut' x =
    let r : (r : Resolver) × IsSound p m have.flat.written r × IsResolved (r at) e tree = read.before have.flat in
    let s : (s : Resolver) × IsSound (woven p i) w have.woven_flat.written s × IsResolved (s at) e woven_tree = read.after have.woven_flat in
    let flat : May (woven p i) at now next e x ↔ FlatMay w (values_by_number w now) (values_by_number w next) woven_tree x =
    may_by (woven p i) w have.woven_flat s.0 s.1 (values_by_number w now) (values_by_number w next) now next (numbers w now) (numbers w next) at e woven_tree s.2 x in
    let agree : May (woven p i) at now next e x ↔ May p at here.read there.read e x =
    may_agree p i have.weavable at now next here.read there.read cut.read cut'.read e x (resolved_readable p m have.flat at e tree read.before) in
    let own : May p at here.read there.read e x ↔ FlatMay m (values_by_number m here.read) (values_by_number m there.read) tree x =
    may_by p m have.flat r.0 r.1 (values_by_number m here.read) (values_by_number m there.read) here.read there.read (numbers m here.read) (numbers m there.read) at e tree r.2 x in
    (((λ h. agree.0 (flat.1 h)), (λ h. flat.0 (agree.1 h))), (own.1, own.0))

pub tops_of_extensions : TopsAreOfExtensions
tops_of_extensions p m i w have accepted faults modes has are top tree woven_tree read = record {
  weavable = have.weavable;
  accepted = accepted;
  flat = have.woven_flat;
  has_faults = has;
  modes = are;
  readable = resolved_readable p m have.flat [] top tree read.before;
  resolved = read.after;
}
