-- An extension of a lawful program by instructions that are taken breaks no rule but a limit.
use Rattle.std.proofs.Common.{◌≡◌, List, [], ◌∷◌, map, Option, Some, None, inl, inr, refl, sym, ap, subst, ◌∙◌}
use Rattle.std.specs.Prelude.{flat_map}
use Rattle.smv_language.specs.Language.{ModuleTree, ProgramTree, Place, module_at, Each, EachBoth, FlatModel}
use Rattle.fault_instructions.specs.Instructions.{ModeTree, SliceTree, InstructionTree, slices_of}
use Rattle.fault_instructions.specs.AddedNames.{mode_variable}
use Rattle.fault_weave.specs.Conservative.{IsSlice}
use Rattle.fault_weave.specs.Faults.{Fault, slice_faults, module_slices, slices_at, place_faults, HasFaults}
use Rattle.fault_instructions.specs.Weavable.{Among}
use Rattle.fault_weave.specs.WovenProgram.{woven}
use Rattle.fault_weave.proofs.Added.{contains_among}
use Rattle.smv_flat_laws.specs.History.{Mode}
use Rattle.smv_flat_laws.specs.Model.{IsVariableNumber}
use Rattle.smv_flat_laws.specs.Rules.{too_many, IsFirstBroken, IsAccepted}
use Rattle.smv_flat_laws.proofs.Conditions.{each_flat}
use Rattle.smv_flat_laws.proofs.Lists.{each_more}
use Rattle.smv_flat_laws.proofs.Walkable.{accepted_walkable}
use Rattle.smv_type_laws.specs.ExpressionKinds.{too_large}
use Rattle.smv_type_laws.specs.Models.{IsFault}
use Rattle.fault_extend_laws.specs.Uses.{uses}
use Rattle.fault_extend_laws.specs.Expressions.{KeepsNames, KeepsUse}
use Rattle.fault_woven_laws.specs.WovenNamesLaws.{IsExtendable}
use Rattle.fault_woven_laws.proofs.Woven.{woven_breaks_limits}
use Rattle.fault_woven_laws.specs.Modes.{IsSliceMode}
use Rattle.fault_woven_laws.specs.Laws.{AreWoven}
use Rattle.fault_woven_laws.proofs.WovenLaws.{size_alone_woven}
use Rattle.verb_loading.specs.declared.status.InputFault.{InputFault}
use Rattle.verb_loading.specs.Wrongs.{names_fault, kinds_fault}
use Rattle.verb_loading.specs.Models.{IsLawful}
use Rattle.verb_loading.specs.Wholes.{IsWhole, IsWrongWhole, by_names, by_kinds, PassesLimit, by_number, by_size}
use Rattle.verb_loading.specs.Inputs.{AreTaken}
use Rattle.cert_laws.specs.ExtendedTraces.{IsModeOfFault}

-- the fault is of a slice of its instance
pub record IsOfSlice (p : ProgramTree) (i : InstructionTree) (fault : Fault) : Type 0 where
  pub slice : SliceTree
  pub is_slice : IsSlice p i fault.place slice
  pub name : fault.slice ≡ slice.name

module _ (p : ProgramTree) (i : InstructionTree) where
  of_modes : (at : Place) (s : SliceTree) → IsSlice p i at s → (ms : List ModeTree) → Each (IsOfSlice p i) (map (λ m. record { place = at; slice = s.name; mode = m.name }) ms)
  of_modes at s is [] = tt
  of_modes at s is (m ∷ ms) = (record { slice = s; is_slice = is; name = refl }, of_modes at s is ms)

  of_slices : (at : Place) (ss : List SliceTree) → Each (IsSlice p i at) ss → Each (IsOfSlice p i) (flat_map (slice_faults at) ss)
  of_slices at ss are = (each_flat (IsOfSlice p i) (slice_faults at) ss).1 (each_more (IsSlice p i at) (λ s. Each (IsOfSlice p i) (slice_faults at s)) ss (λ s is. of_modes at s is s.modes) are)

  members : {A : Type 0} (P : A → Type 0) (all xs : List A) → ((x : A) → Among xs x → Among all x) → ((x : A) → Among all x → P x) → Each P xs
  members P all [] inside holds = tt
  members P all (x ∷ xs) inside holds = (holds x (inside x (inl refl)), members P all xs (λ y h. inside y (inr h)) holds)

  of_module : (at : Place) (m : Option ModuleTree) → module_at p at ≡ m → Each (IsSlice p i at) (module_slices i m)
  of_module at None e = tt
  of_module at (Some m) e = members (IsSlice p i at) (slices_of i m.name) (slices_of i m.name) (λ s h. h) (λ s h. (m, e, contains_among (slices_of i m.name) s h))

  -- each fault is of a slice
  pub of_program : (faults : List Fault) → HasFaults p i faults → Each (IsOfSlice p i) faults
  of_program faults has =
      subst (Each (IsOfSlice p i)) (sym has.2)
      ((each_flat (IsOfSlice p i) (place_faults p i) has.0).1 (every has.0))
    where
      every : (places : List Place) → Each (λ at. Each (IsOfSlice p i) (place_faults p i at)) places
      every [] = tt
      every (at ∷ places) = (of_slices at (slices_at p i at) (of_module at (module_at p at) refl), every places)

  pub slice_modes : (w : FlatModel) (faults : List Fault) (modes : List Mode) → EachBoth (IsModeOfFault w) faults modes → Each (IsOfSlice p i) faults → Each (IsSliceMode p i w) modes
  slice_modes w [] [] are of = tt
  slice_modes w [] (f ∷ modes) are of = absurd are
  slice_modes w (a ∷ faults) [] are of = absurd are
  slice_modes w (a ∷ faults) (f ∷ modes) are of = (
    record {
      place = a.place;
      slice = of.0.slice;
      is_slice = of.0.is_slice;
      number = subst (λ x. IsVariableNumber w a.place (mode_variable x) f.variable) of.0.name are.0.variable;
    },
    slice_modes w faults modes are.1 of.1,
  )

module _ (p : ProgramTree) (m : FlatModel) (i : InstructionTree) (faults : List Fault) (lawful : IsLawful p m) (taken : AreTaken p i) (has : HasFaults p i faults) where
  extendable : IsExtendable p i
  extendable = record {
    accepted = lawful.accepted;
    weavable = taken.weavable;
    items_kept = taken.kept.items;
    names_kept = each_more (KeepsUse p m) (KeepsNames p) (uses p i) (λ u k. k.names) (taken.uses m lawful.model.is);
  }

  pub are_woven : (whole : FlatModel) (is : IsWhole (woven p i) faults whole) → IsAccepted (woven p i) → AreWoven p m i is.flat
  are_woven whole is accepted = record {
    program = accepted_walkable p lawful.accepted;
    flat = lawful.model.is;
    no_breach = lawful.typed.kept;
    weavable = taken.weavable;
    items = taken.kept.items;
    expressions = taken.uses m lawful.model.is;
    woven_program = accepted_walkable (woven p i) accepted;
    woven_flat = is.model.is;
  }

  -- what is wrong with the extension is that it passes a limit
  pub passes_limit : (told : InputFault) → IsWrongWhole (woven p i) faults told → PassesLimit (woven p i) faults told
  passes_limit told (by_names h) =
      let rule : h.rule ≡ too_many = woven_breaks_limits p i extendable h.rule h.item h.broken in
      by_number h.item (subst (λ r. IsFirstBroken (woven p i) r h.item) rule h.broken) (h.is ∙ ap (λ r. names_fault r 0) rule)
  passes_limit told (by_kinds whole accepted is h) =
      let modes = slice_modes p i is.flat faults is.modes is.are_modes (of_program p i faults has) in
      let law = (size_alone_woven p m i is.flat (are_woven whole is accepted) is.modes modes h.rule h.item).1 (subst (λ w. IsFault w h.rule h.item) is.is h.broken) in
      by_size whole accepted is (subst (λ r. IsFault whole r 0) law.0 (subst (λ n. IsFault whole h.rule n) law.1 h.broken)) (h.is ∙ ap (λ r. kinds_fault r 0) law.0)

-- an extension that passes a limit breaks that rule first
pub passes_wrong : (extension : ProgramTree) (faults : List Fault) (told : InputFault) → PassesLimit extension faults told → IsWrongWhole extension faults told
passes_wrong extension faults told (by_number item broken is) = by_names (record { rule = too_many; item = item; broken = broken; is = is })
passes_wrong extension faults told (by_size whole accepted is broken told_as) = by_kinds whole accepted is (record { rule = too_large; item = 0; broken = broken; is = told_as })
