-- No fault of an extension stands twice in its list, and a name tells its fault.
use Rattle.std.proofs.Common.{◌≡◌, ◌≢◌, ℕ, zero, suc, ◌-◌, ◌<◌, List, [], ◌∷◌, map, reverse, Option, Some, None, refl, sym, ◌∙◌, ap, subst, arith}
use Rattle.std.specs.Prelude.{flat_map, slice_get}
use Rattle.std.proofs.lemmas.List.{reverse-append, reverse-reverse}
use Rattle.smv_language.specs.Language.{Path, ModuleTree, ProgramTree, Place, module_at, Each}
use Rattle.smv_flat_laws.specs.Rules.{IsAccepted}
use Rattle.smv_flat_laws.proofs.Lists.{each_more, each_map}
use Rattle.smv_flat_laws.proofs.Walkable.{accepted_walkable}
use Rattle.fault_instructions.specs.Instructions.{ModeTree, SliceTree, InstructionTree, slices_of}
use Rattle.fault_weave.specs.Faults.{Fault, slice_faults, module_slices, place_faults, HasFaults}
use Rattle.fault_instructions.proofs.AmongLaws.{each_flat_map}
use Rattle.fault_rules.specs.Sites.{item_sites}
use Rattle.fault_rules.specs.Rules.{broken_at}
use Rattle.fault_rules.specs.FirstBroken.{AllKept}
use Rattle.fault_cause_laws.specs.CauseRules.{fault_path, IsStrikeOf}
use Rattle.fault_cause_laws.specs.FaultNamesLaws.{AreFaultsOf, NamesDiffer, NamesTellFaults, NamesMeanOne}
use Rattle.fault_cause_laws.proofs.Differ.{Differ, each_all, pairs_map, flat_differ, one_place}
use Rattle.fault_cause_laws.proofs.Places.{places_differ}
use Rattle.fault_cause_laws.proofs.Slices.{ModesDiffer, SlicesDiffer, slices_differ, modes_differ}

abbrev IsAt : Place → Fault → Type 0
IsAt at f = f.place ≡ at

abbrev IsOf : SliceTree → Fault → Type 0
IsOf s f = f.slice ≡ s.name

abbrev mode_fault : Place → SliceTree → ModeTree → Fault
mode_fault at s m = record { place = at; slice = s.name; mode = m.name }

slice_of : (at : Place) (s : SliceTree) → Each (IsOf s) (slice_faults at s)
slice_of at s = each_map (IsOf s) (mode_fault at s) s.modes (each_all (λ m. s.name ≡ s.name) s.modes (λ m. refl))

slice_at : (at : Place) (s : SliceTree) → Each (IsAt at) (slice_faults at s)
slice_at at s = each_map (IsAt at) (mode_fault at s) s.modes (each_all (λ m. at ≡ at) s.modes (λ m. refl))

slice_differ : (at : Place) (s : SliceTree) → ModesDiffer s → Differ (slice_faults at s)
slice_differ at s h = pairs_map (λ (a b : ModeTree). a.name ≢ b.name) (λ f g. f ≢ g) (mode_fault at s) (λ a b n e. n (ap (λ (f : Fault). f.mode) e)) s.modes h

two_slices : (s t : SliceTree) (f g : Fault) → s.name ≢ t.name → IsOf s f → IsOf t g → f ≢ g
two_slices s t f g n a b e = n (sym a ∙ ap (λ (h : Fault). h.slice) e ∙ b)

slices_faults : (at : Place) (ss : List SliceTree) → SlicesDiffer ss → Each ModesDiffer ss → Differ (flat_map (slice_faults at) ss)
slices_faults at ss h k =
    flat_differ SliceTree Fault (λ s t. s.name ≢ t.name) IsOf (slice_faults at) (slice_of at) two_slices ss h (each_more ModesDiffer (λ s. Differ (slice_faults at s)) ss (slice_differ at) k)

two_places : (at there : Place) (f g : Fault) → at ≢ there → IsAt at f → IsAt there g → f ≢ g
two_places at there f g n a b e = n (sym a ∙ ap (λ (h : Fault). h.place) e ∙ b)

module _ (p : ProgramTree) (i : InstructionTree) (kept : AllKept (broken_at p) (item_sites i)) where
  place_at : (at : Place) → Each (IsAt at) (place_faults p i at)
  place_at at =
      let slices : List SliceTree = module_slices i (module_at p at) in
      (each_flat_map (IsAt at) (slice_faults at) slices).1 (each_all (λ s. Each (IsAt at) (slice_faults at s)) slices (slice_at at))

  place_differ : (at : Place) → Differ (place_faults p i at)
  place_differ at = by_module (module_at p at)
    where
      by_module : (o : Option ModuleTree) → Differ (flat_map (slice_faults at) (module_slices i o))
      by_module None = tt
      by_module (Some m) = slices_faults at (slices_of i m.name) (slices_differ p i kept m.name) (modes_differ p i kept m.name)

  faults_at : (places : List Place) → Differ places → Differ (flat_map (place_faults p i) places)
  faults_at places h =
      flat_differ Place Fault (λ at there. at ≢ there) IsAt (place_faults p i) place_at two_places places h (each_all (λ at. Differ (place_faults p i at)) places place_differ)

faults_differ : (p : ProgramTree) (i : InstructionTree) (faults : List Fault) → IsAccepted p → AllKept (broken_at p) (item_sites i) → HasFaults p i faults → Differ faults
faults_differ p i faults accepted kept h = subst (λ fs. Differ fs) (sym h.2) (faults_at p i kept h.0 (places_differ p (accepted_walkable p accepted) h.0 h.1))

-- a name is the place, turned round, with a slice and a mode behind it
pub turned : (f : Fault) → reverse (fault_path f) ≡ f.mode ∷ f.slice ∷ f.place
turned f = reverse-append (reverse f.place) (f.slice ∷ f.mode ∷ []) ∙ ap (λ (at : Place). f.mode ∷ f.slice ∷ at) (reverse-reverse f.place)

pub names_tell : NamesTellFaults
names_tell f g e = same (sym (turned f) ∙ ap reverse e ∙ turned g)
  where
    same : f.mode ∷ f.slice ∷ f.place ≡ g.mode ∷ g.slice ∷ g.place → f ≡ g
    same q =
        let mode : f.mode ≡ g.mode = cc in
        let slice : f.slice ≡ g.slice = cc in
        let place : f.place ≡ g.place = cc in
        λ j. record { place = place j; slice = slice j; mode = mode j }

pub paths_differ : (p : ProgramTree) (i : InstructionTree) (faults : List Fault) → AreFaultsOf p i faults → Differ (map fault_path faults)
paths_differ p i faults h = pairs_map (λ f g. f ≢ g) (λ x y. x ≢ y) fault_path (λ f g n e. n (names_tell f g e)) faults (faults_differ p i faults h.accepted h.items_kept h.are_faults)

pub names_differ : NamesDiffer
names_differ p i faults h = one_place (map fault_path faults) (paths_differ p i faults h)

-- the name at a place
get_map : (faults : List Fault) (k : ℕ) (f : Fault) → slice_get faults k ≡ Some f → slice_get (map fault_path faults) k ≡ Some (fault_path f)
get_map [] k f e = cc
get_map (g ∷ faults) zero f e = let same : g ≡ f = cc in ap (λ h. Some (fault_path h)) same
get_map (g ∷ faults) (suc k) f e = get_map faults k f e

named_at : (faults : List Fault) (w : ProgramTree) (x : Path) (j : ℕ) → IsStrikeOf faults w x j → slice_get (map fault_path faults) (j - 1) ≡ Some x
named_at faults w x j h = get_map faults (j - 1) h.0 h.2 ∙ ap Some h.3

pub names_mean_one : NamesMeanOne
names_mean_one p i faults h w x j k a b = counted j k a.1 b.1 (names_differ p i faults h (j - 1) (k - 1) x (named_at faults w x j a) (named_at faults w x k b))
  where
    counted : (j k : ℕ) → 0 < j → 0 < k → j - 1 ≡ k - 1 → j ≡ k
    counted j k a b e = omega (arith, a, b, e)
