-- A fault's mode stands in the flat model exactly where it stands in the moment that a valuation is cut to.
use Rattle.std.proofs.Common.{◌≡◌, ◌⊎◌, inl, inr, ◌↔◌, Bool, true, false, ◌||◌, List, [], ◌∷◌, map, flat_map, Option, Some, None, refl, sym, ap, ◌∙◌, subst}
use Rattle.std.specs.Prelude.{slice_get}
use Rattle.smv_language.specs.Language.{ModuleTree, ProgramTree, symbol, same_text, Place, module_at, Valuation, Each, AtSome, FlatVariable, FlatModel}
use Rattle.smv_language.proofs.ValueLaws.{same_text_equal, same_text_refl}
use Rattle.smv_flat_laws.specs.History.{Mode}
use Rattle.smv_flat_laws.specs.FlatTrace.{is_symbol_value, stands, stands_in_some}
use Rattle.smv_type_laws.specs.Laws.{values_by_number}
use Rattle.smv_type_laws.proofs.WrittenLaws.{numbers}
use Rattle.fault_instructions.specs.Instructions.{ModeTree, SliceTree, InstructionTree, slices_of}
use Rattle.fault_instructions.specs.AddedNames.{mode_variable, mode_symbol}
use Rattle.fault_weave.specs.ExtensionTraces.{Moment, HasFailed}
use Rattle.fault_weave.specs.Conservative.{IsSlice, IsCutMoment, IsCut}
use Rattle.fault_weave.specs.Faults.{Fault, slice_faults, module_slices, slices_at, place_faults, HasFaults}
use Rattle.fault_instructions.specs.Weavable.{Among, IsWeavable}
use Rattle.fault_weave.proofs.Added.{contains_among, among_contains}
use Rattle.fault_instructions.proofs.AmongLaws.{each_flat_map}
use Rattle.fault_weave.proofs.WovenMoves.{state_same}
use Rattle.fault_weave.proofs.WovenMoments.{known_of}
use Rattle.cert_laws.specs.ExtendedTraces.{IsModeOfFault}

-- the fault is a mode of a slice of its instance
pub record IsOfSlice (p : ProgramTree) (i : InstructionTree) (fault : Fault) : Type 0 where
  pub slice : SliceTree
  pub is_slice : IsSlice p i fault.place slice
  pub name : fault.slice ≡ slice.name
  pub mode : AtSome (λ m. m.name ≡ fault.mode) slice.modes

module _ (p : ProgramTree) (i : InstructionTree) where
  -- each member of a list that has what all members of another have
  members : {A : Type 0} (P : A → Type 0) (all xs : List A) → ((x : A) → Among xs x → Among all x) → ((x : A) → Among all x → P x) → Each P xs
  members P all [] inside holds = tt
  members P all (x ∷ xs) inside holds = (holds x (inside x (inl refl)), members P all xs (λ y h. inside y (inr h)) holds)

  of_modes : (at : Place) (s : SliceTree) → IsSlice p i at s → (ms : List ModeTree) → Each (λ (m : ModeTree). AtSome (λ k. k.name ≡ m.name) s.modes) ms →
      Each (IsOfSlice p i) (map (λ (m : ModeTree). record { place = at; slice = s.name; mode = m.name }) ms)
  of_modes at s is [] inside = tt
  of_modes at s is (m ∷ ms) inside = (record { slice = s; is_slice = is; name = refl; mode = inside.0 }, of_modes at s is ms inside.1)

  own_modes : (s : SliceTree) → Each (λ (m : ModeTree). AtSome (λ k. k.name ≡ m.name) s.modes) s.modes
  own_modes s = members (λ (m : ModeTree). AtSome (λ k. k.name ≡ m.name) s.modes) s.modes s.modes (λ m h. h) (λ m h. named s.modes m h)
    where
      named : (ms : List ModeTree) (m : ModeTree) → Among ms m → AtSome (λ k. k.name ≡ m.name) ms
      named [] m h = h
      named (k ∷ ms) m (inl e) = inl (ap (λ (x : ModeTree). x.name) e)
      named (k ∷ ms) m (inr h) = inr (named ms m h)

  of_slices : (at : Place) (ss : List SliceTree) → Each (IsSlice p i at) ss → Each (IsOfSlice p i) (flat_map (slice_faults at) ss)
  of_slices at ss are = (each_flat_map (IsOfSlice p i) (slice_faults at) ss).1 (each ss are)
    where
      each : (ss : List SliceTree) → Each (IsSlice p i at) ss → Each (λ s. Each (IsOfSlice p i) (slice_faults at s)) ss
      each [] h = tt
      each (s ∷ more) h = (of_modes at s h.0 s.modes (own_modes s), each more h.1)

  of_module : (at : Place) (m : Option ModuleTree) → module_at p at ≡ m → Each (IsSlice p i at) (module_slices i m)
  of_module at None e = tt
  of_module at (Some m) e = members (IsSlice p i at) (slices_of i m.name) (slices_of i m.name) (λ s h. h) (λ s h. (m, e, contains_among (slices_of i m.name) s h))

  -- each fault is one
  pub of_program : (faults : List Fault) → HasFaults p i faults → Each (IsOfSlice p i) faults
  of_program faults has = subst (Each (IsOfSlice p i)) (sym has.2) ((each_flat_map (IsOfSlice p i) (place_faults p i) has.0).1 (every has.0))
    where
      every : (places : List Place) → Each (λ at. Each (IsOfSlice p i) (place_faults p i at)) places
      every [] = tt
      every (at ∷ places) = (of_slices at (slices_at p i at) (of_module at (module_at p at) refl), every places)

-- one of two tests passes exactly where one of two facts holds
either_iff : (a b : Bool) (A B : Type 0) → (a ≡ true) ↔ A → (b ≡ true) ↔ B → ((a || b) ≡ true) ↔ (A ⊎ B)
either_iff true b A B f g = ((λ h. inl (f.0 refl)), (λ h. refl))
either_iff false b A B f g = ((λ h. inr (g.0 h)), back)
  where
    back : A ⊎ B → b ≡ true
    back (inl a) = let bad : false ≡ true = f.1 a in cc
    back (inr h) = g.1 h

-- Where it stands.
module _ (p : ProgramTree) (i : InstructionTree) (ok : IsWeavable p i) (m : FlatModel) (fault : Fault) (mode : Mode) (is : IsModeOfFault m fault mode) (of : IsOfSlice p i fault) where
  -- the symbol that the flat variable has
  symbol_there : (v : Valuation) (mo : Moment) → IsCutMoment p i v mo → slice_get (values_by_number m v) mode.variable ≡ Some (symbol (mode_symbol fault.slice (mo.mode fault.place fault.slice)))
  symbol_there v mo cut =
      let x : FlatVariable = is.variable.variable in
      let at_slice : v fault.place (mode_variable fault.slice) ≡ symbol (mode_symbol fault.slice (mo.mode fault.place fault.slice)) =
      subst (λ n. v fault.place (mode_variable n) ≡ symbol (mode_symbol n (mo.mode fault.place n))) (sym of.name) (cut.mode fault.place of.slice of.is_slice) in
      numbers m v mode.variable x is.variable.is
      ∙ ap (λ at. Some (v at x.name)) is.variable.same_place ∙ ap (λ n. Some (v fault.place n)) is.variable.same_name ∙ ap Some at_slice

  same_state : (mo : Moment) (v : Valuation) → IsCutMoment p i v mo → mode_symbol fault.slice (mo.mode fault.place fault.slice) ≡ mode_symbol fault.slice (Some fault.mode) →
      mo.mode fault.place fault.slice ≡ Some fault.mode
  same_state mo v cut e =
      subst (λ n. mo.mode fault.place n ≡ Some fault.mode) (sym of.name)
      (state_same p i ok fault.place of.is_slice.0 of.is_slice.1 of.slice (among_contains (slices_of i of.is_slice.0.name) of.slice of.is_slice.2)
      (mo.mode fault.place of.slice.name) (Some fault.mode) (known_of p i of.slice (mo.mode fault.place of.slice.name) (cut.known fault.place of.slice of.is_slice)) of.mode
      (subst (λ n. mode_symbol n (mo.mode fault.place n) ≡ mode_symbol n (Some fault.mode)) of.name e))

  pub stands_iff : (v : Valuation) (mo : Moment) → IsCutMoment p i v mo → (stands m mode (values_by_number m v) ≡ true) ↔ (mo.mode fault.place fault.slice ≡ Some fault.mode)
  stands_iff v mo cut = (
    (λ h. same_state mo v cut (same_text_equal (mode_symbol fault.slice (mo.mode fault.place fault.slice)) (mode_symbol fault.slice (Some fault.mode)) (sym tested ∙ h))),
    (λ e. tested ∙ ap (λ st. same_text (mode_symbol fault.slice st) (mode_symbol fault.slice (Some fault.mode))) e ∙ same_text_refl (mode_symbol fault.slice (Some fault.mode))),
  )
    where
      tested : stands m mode (values_by_number m v) ≡ same_text (mode_symbol fault.slice (mo.mode fault.place fault.slice)) (mode_symbol fault.slice (Some fault.mode))
      tested = ap (λ o. is_symbol_value o (slice_get (values_by_number m v) mode.variable)) is.symbol ∙ ap (is_symbol_value (Some (mode_symbol fault.slice (Some fault.mode)))) (symbol_there v mo cut)

  pub fails_iff : (vs : List Valuation) (trace : List Moment) → IsCut p i vs trace → (stands_in_some m mode (map (values_by_number m) vs) ≡ true) ↔ HasFailed trace fault
  fails_iff [] [] cut = ((λ h. cc), (λ h. absurd h))
  fails_iff [] (mo ∷ trace) cut = absurd cut
  fails_iff (v ∷ vs) [] cut = absurd cut
  fails_iff (v ∷ vs) (mo ∷ trace) cut =
      either_iff (stands m mode (values_by_number m v)) (stands_in_some m mode (map (values_by_number m) vs)) (mo.mode fault.place fault.slice ≡ Some fault.mode) (HasFailed trace fault)
      (stands_iff v mo cut.0) (fails_iff vs trace cut.1)
