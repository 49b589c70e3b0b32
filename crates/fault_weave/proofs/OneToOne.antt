-- The cut is one to one, up to what the two sides speak of, and onto.
use Rattle.std.proofs.Common.{◌≡◌, ◌⊎◌, inl, inr, List, [], ◌∷◌, refl, sym, ◌∙◌, subst}
use Rattle.smv_language.specs.Language.{ModuleTree, ProgramTree, symbol, Place, Kind, a_formal, a_variable, an_instance, undeclared, kind_in, kind_in_sections, Valuation, IsInstance, Each, EachBoth}
use Rattle.smv_language.specs.Scope.{a_define}
use Rattle.fault_instructions.specs.Instructions.{SliceTree, InstructionTree, slices_of}
use Rattle.fault_weave.specs.ExtensionTraces.{Moment}
use Rattle.fault_instructions.specs.AddedNames.{mode_symbol}
use Rattle.fault_weave.specs.Conservative.{IsSlice, IsCutMoment, IsCut, SameMoment, SameValuation, HasModes, IsOneToOne}
use Rattle.fault_weave.specs.WovenProgram.{added_sections, woven}
use Rattle.fault_instructions.specs.Weavable.{Among, IsWeavable}
use Rattle.fault_weave.proofs.WovenKinds.{kind_or, kind_woven, Adds, IsAddedBy, added_or_not}
use Rattle.fault_weave.proofs.Added.{contains_among, among_contains}
use Rattle.fault_weave.proofs.WovenMoves.{state_same}
use Rattle.fault_weave.proofs.WovenMoments.{all_instances, known_of}
use Rattle.fault_weave.proofs.WovenCuts.{joined, joined_cut}

module _ (p : ProgramTree) (i : InstructionTree) (ok : IsWeavable p i) where
  pub one_moment : (v : Valuation) (mo mo' : Moment) → IsCutMoment p i v mo → IsCutMoment p i v mo' → SameMoment p i mo mo'
  one_moment v mo mo' cut cut' = record {
    same_read = λ at x role type h. sym (cut.read at x role type h) ∙ cut'.read at x role type h;
    same_own = λ at s h. sym (cut.own at s h) ∙ cut'.own at s h;
    same_mode = λ at s h. modes at s h;
  }
    where
      modes : (at : Place) (s : SliceTree) → IsSlice p i at s → mo.mode at s.name ≡ mo'.mode at s.name
      modes at s h =
          let symbols : symbol (mode_symbol s.name (mo.mode at s.name)) ≡ symbol (mode_symbol s.name (mo'.mode at s.name)) = sym (cut.mode at s h) ∙ cut'.mode at s h in
          let texts : mode_symbol s.name (mo.mode at s.name) ≡ mode_symbol s.name (mo'.mode at s.name) = cc in
          state_same p i ok at h.0 h.1 s (among_contains (slices_of i h.0.name) s h.2) (mo.mode at s.name) (mo'.mode at s.name)
          (known_of p i s (mo.mode at s.name) (cut.known at s h)) (known_of p i s (mo'.mode at s.name) (cut'.known at s h)) texts

  -- and the valuations agree on the variables of the woven program
  pub one_valuation : (v v' : Valuation) (mo : Moment) → IsCutMoment p i v mo → IsCutMoment p i v' mo → SameValuation p i (woven p i) v v'
  one_valuation v v' mo cut cut' at x role type h =
      (all_instances p i ok (λ at m. kind_in m x ≡ a_variable role type → v at x ≡ v' at x)).1 (λ at m is k. here at m is (sym (kind_woven i m x) ∙ k)) at h.0 h.1 h.2
    where
      here : (at : Place) (m : ModuleTree) → IsInstance p at m → kind_or (kind_in m x) (kind_in_sections (added_sections i m) x) ≡ a_variable role type → v at x ≡ v' at x
      here at m is = by (kind_in m x) refl
        where
          new : Adds (slices_of i m.name) x → v at x ≡ v' at x
          new adds = at_slice adds.0 adds.1 adds.2
            where
              at_slice : (s : SliceTree) → Among (slices_of i m.name) s → IsAddedBy s x → v at x ≡ v' at x
              at_slice s a (inl e) =
                  let there : IsSlice p i at s = (m, is, contains_among (slices_of i m.name) s a) in subst (λ y. v at y ≡ v' at y) e (cut.own at s there ∙ sym (cut'.own at s there))
              at_slice s a (inr e) =
                  let there : IsSlice p i at s = (m, is, contains_among (slices_of i m.name) s a) in subst (λ y. v at y ≡ v' at y) e (cut.mode at s there ∙ sym (cut'.mode at s there))

          added : (kind_in_sections (added_sections i m) x ≡ undeclared) ⊎ Adds (slices_of i m.name) x → kind_in_sections (added_sections i m) x ≡ a_variable role type → v at x ≡ v' at x
          added (inl none) k = let both : undeclared ≡ a_variable role type = sym none ∙ k in cc
          added (inr adds) k = new adds

          by : (k : Kind) → kind_in m x ≡ k → kind_or k (kind_in_sections (added_sections i m) x) ≡ a_variable role type → v at x ≡ v' at x
          by undeclared e k = added (added_or_not m (slices_of i m.name) x) k
          by (a_variable role' type') e k = cut.read at x role' type' (m, is, e) ∙ sym (cut'.read at x role' type' (m, is, e))
          by (a_formal j) e k = cc
          by (a_define f) e k = cc
          by (an_instance n es) e k = cc

  one_trace : (vs : List Valuation) (trace trace' : List Moment) → IsCut p i vs trace → IsCut p i vs trace' → EachBoth (SameMoment p i) trace trace'
  one_trace [] [] [] cut cut' = tt
  one_trace [] [] (mo ∷ trace) cut cut' = absurd cut'
  one_trace [] (mo ∷ trace) trace' cut cut' = absurd cut
  one_trace (v ∷ vs) [] trace' cut cut' = absurd cut
  one_trace (v ∷ vs) (mo ∷ trace) [] cut cut' = absurd cut'
  one_trace (v ∷ vs) (mo ∷ trace) (mo' ∷ trace') cut cut' = (one_moment v mo mo' cut.0 cut'.0, one_trace vs trace trace' cut.1 cut'.1)

  one_list : (vs vs' : List Valuation) (trace : List Moment) → IsCut p i vs trace → IsCut p i vs' trace → EachBoth (SameValuation p i (woven p i)) vs vs'
  one_list [] [] [] cut cut' = tt
  one_list [] (v ∷ vs) [] cut cut' = absurd cut'
  one_list [] vs' (mo ∷ trace) cut cut' = absurd cut
  one_list (v ∷ vs) vs' [] cut cut' = absurd cut
  one_list (v ∷ vs) [] (mo ∷ trace) cut cut' = absurd cut'
  one_list (v ∷ vs) (v' ∷ vs') (mo ∷ trace) cut cut' = (one_valuation v v' mo cut.0 cut'.0, one_list vs vs' trace cut.1 cut'.1)

  every_list : (trace : List Moment) → Each (HasModes p i) trace → (vs : List Valuation) × IsCut p i vs trace
  every_list [] has = ([], tt)
  every_list (mo ∷ trace) has =
      let rest : (vs : List Valuation) × IsCut p i vs trace = every_list trace has.1 in
      (joined p i mo ∷ rest.0, (joined_cut p i ok mo has.0, rest.1))

  pub cut_is_one_to_one : IsOneToOne p i (woven p i)
  cut_is_one_to_one = record { one_trace = one_trace; one_list = one_list; every_list = every_list }
