-- No two slices of a module have one name where no item of the instructions breaks a rule, and no two modes of a slice.
use Rattle.std.proofs.Common.{◌≢◌, Bool, true, false, List, [], ◌∷◌, ◌++◌, map}
use Rattle.std.specs.Prelude.{if◌then◌else◌}
use Rattle.smv_language.specs.Language.{Text, ProgramTree, same_text, Each}
use Rattle.smv_flat_laws.proofs.Lists.{each_more, each_of_map}
use Rattle.smv_flat_laws.proofs.Reaches.{each_left, each_right}
use Rattle.smv_flat_laws.proofs.Conditions.{each_join}
use Rattle.fault_instructions.specs.Instructions.{ModeTree, SliceTree, ExtensionTree, InstructionTree, slices_from, slices_of}
use Rattle.fault_rules.specs.Sites.{OwnedSlice, owned, mode_sites, item_sites}
use Rattle.fault_rules.specs.Rules.{broken_at}
use Rattle.fault_rules.specs.FirstBroken.{AllKept}
use Rattle.fault_rules.proofs.KeptItems.{all_slices, AreKeptSlices, extensions_kept}
use Rattle.fault_rules.proofs.KeptFacts.{slice_facts, mode_facts}
use Rattle.fault_cause_laws.proofs.Differ.{pairs_of_map}
use Rattle.fault_cause_laws.proofs.NewNames.{AreNew, new_differ}
use Rattle.smv_flat_laws.proofs.Pairs.{Pairwise, pairs_join, pairs_left, pairs_right, pairs_across}
use Rattle.fault_rules.specs.Faults.{slice_name}

abbrev mode_name : ModeTree → Text
mode_name m = m.name

-- no two modes of the slice have one name
abbrev pub ModesDiffer : SliceTree → Type 0
ModesDiffer s = Pairwise (λ (a b : ModeTree). a.name ≢ b.name) s.modes

-- no two of the slices have one name
abbrev pub SlicesDiffer : List SliceTree → Type 0
SlicesDiffer ss = Pairwise (λ (s t : SliceTree). s.name ≢ t.name) ss

module _ (p : ProgramTree) where
  slices_new : (before os : List OwnedSlice) → AreKeptSlices p before os → AreNew slice_name before os
  slices_new before [] h = tt
  slices_new before (o ∷ os) h = ((slice_facts p before o h.0.0).name, slices_new (before ++ o ∷ []) os h.1)

  modes_new : (before : List OwnedSlice) (o : OwnedSlice) (earlier ms : List ModeTree) → AllKept (broken_at p) (mode_sites before o earlier ms) → AreNew mode_name earlier ms
  modes_new before o earlier [] h = tt
  modes_new before o earlier (m ∷ ms) h = ((mode_facts p before o earlier m h.0).name, modes_new before o (earlier ++ m ∷ []) ms h.1)

  each_modes : (before os : List OwnedSlice) → AreKeptSlices p before os → Each (λ (o : OwnedSlice). ModesDiffer o.slice) os
  each_modes before [] h = tt
  each_modes before (o ∷ os) h = ((new_differ mode_name [] o.slice.modes (modes_new before o [] o.slice.modes h.0.1)).0, each_modes (before ++ o ∷ []) os h.1)

-- the slices of a module are some of the file's, in their order
each_from : (P : SliceTree → Type 0) (xs : List ExtensionTree) (m : Text) → Each (λ (o : OwnedSlice). P o.slice) (all_slices xs) → Each P (slices_from xs m)
each_from P [] m h = tt
each_from P (x ∷ xs) m h = by_owner (same_text x.of_module m) (each_from P xs m (each_right (λ (o : OwnedSlice). P o.slice) (map (owned x.of_module) x.slices) (all_slices xs) h))
  where
    by_owner : (b : Bool) → Each P (slices_from xs m) → Each P (if b then x.slices ++ slices_from xs m else slices_from xs m)
    by_owner true more =
        each_join P x.slices (slices_from xs m)
        (each_of_map (λ (o : OwnedSlice). P o.slice) (owned x.of_module) x.slices (each_left (λ (o : OwnedSlice). P o.slice) (map (owned x.of_module) x.slices) (all_slices xs) h)) more
    by_owner false more = more

abbrev Others : OwnedSlice → OwnedSlice → Type 0
Others o q = o.slice.name ≢ q.slice.name

pairs_from : (xs : List ExtensionTree) (m : Text) → Pairwise Others (all_slices xs) → SlicesDiffer (slices_from xs m)
pairs_from [] m h = tt
pairs_from (x ∷ xs) m h = by_owner (same_text x.of_module m) (pairs_from xs m (pairs_right Others (map (owned x.of_module) x.slices) (all_slices xs) h))
  where
    across : Each (λ (s : SliceTree). Each (λ (t : SliceTree). s.name ≢ t.name) (slices_from xs m)) x.slices
    across =
        each_more (λ (s : SliceTree). Each (λ (q : OwnedSlice). s.name ≢ q.slice.name) (all_slices xs)) (λ (s : SliceTree). Each (λ (t : SliceTree). s.name ≢ t.name) (slices_from xs m)) x.slices
        (λ s k. each_from (λ (t : SliceTree). s.name ≢ t.name) xs m k)
        (each_of_map (λ (o : OwnedSlice). Each (Others o) (all_slices xs)) (owned x.of_module) x.slices (pairs_across Others (map (owned x.of_module) x.slices) (all_slices xs) h))

    by_owner : (b : Bool) → SlicesDiffer (slices_from xs m) → SlicesDiffer (if b then x.slices ++ slices_from xs m else slices_from xs m)
    by_owner true more =
        pairs_join (λ (s t : SliceTree). s.name ≢ t.name) x.slices (slices_from xs m)
        (pairs_of_map Others (owned x.of_module) x.slices (pairs_left Others (map (owned x.of_module) x.slices) (all_slices xs) h)) more across
    by_owner false more = more

module _ (p : ProgramTree) (i : InstructionTree) (kept : AllKept (broken_at p) (item_sites i)) where
  pub slices_differ : (m : Text) → SlicesDiffer (slices_of i m)
  slices_differ m = pairs_from i.extensions m (new_differ slice_name [] (all_slices i.extensions) (slices_new p [] (all_slices i.extensions) (extensions_kept p [] i.extensions kept))).0

  pub modes_differ : (m : Text) → Each ModesDiffer (slices_of i m)
  modes_differ m = each_from ModesDiffer i.extensions m (each_modes p [] (all_slices i.extensions) (extensions_kept p [] i.extensions kept))
