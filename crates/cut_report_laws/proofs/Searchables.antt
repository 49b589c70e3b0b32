-- The flat model of an extension, with its faults and a top event that fits it, can be searched.
use Rattle.std.proofs.Common.{◌≡◌, ℕ, suc, List, [], ◌∷◌, Some, refl, sym, ap, ◌∙◌, subst}
use Rattle.std.specs.Prelude.{slice_get}
use Rattle.smv_language.specs.Language.{Tree, Text, Formula, DeclaredTree, boolean, range, members, instance, ProgramTree, Place, Role, state, a_variable, kind_in, Each, IsVariable, EachBoth, IsWritableType, FlatLeaf, FlatVariable, FlatModel}
use Rattle.smv_flat_laws.specs.History.{Mode}
use Rattle.fault_instructions.specs.Instructions.{InstructionTree, slices_of}
use Rattle.fault_instructions.specs.AddedNames.{mode_variable}
use Rattle.fault_weave.specs.Faults.{Fault}
use Rattle.fault_weave.specs.WovenProgram.{mode_type, woven}
use Rattle.fault_instructions.specs.Weavable.{Among}
use Rattle.fault_weave.proofs.Added.{among_contains}
use Rattle.cut_text_laws.specs.Laws.{IsNamed}
use Rattle.cut_text_laws.proofs.FlatNames.{flat_models_named}
use Rattle.sat_encoding_laws.specs.Inputs.{is_input}
use Rattle.sat_encoding_laws.specs.Laws.{HasMember}
use Rattle.sat_encoding_laws.specs.Encodable.{IsEncodable}
use Rattle.sat_encoding_laws.specs.HistoryBits.{IsStateMode}
use Rattle.sat_encoding_laws.proofs.FlatEncodable.{flat_models_encodable}
use Rattle.sat_encoding_laws.proofs.HistoryEncodable.{history_encodable}
use Rattle.cut_search_laws.proofs.Fitting.{few_faults}
use Rattle.cert_laws.specs.ExtendedTraces.{IsModeOfFault, IsExtensionModel}
use Rattle.cert_laws.proofs.Modes.{IsOfSlice, of_program}
use Rattle.cert_laws.proofs.Own.{models_own, declared_so, state_there}
use Rattle.cut_report_laws.specs.Searchable.{ExtensionsAreSearchable}
use Rattle.cut_report_laws.proofs.InputBits.{few_inputs}
use Rattle.std.proofs.lemmas.Option.{slice_get_within as got_within}

-- a type that can be written has a member, where it is a list of members
written_member : (d : DeclaredTree) → IsWritableType d → HasMember d
written_member boolean h = tt
written_member (range lo hi) h = tt
written_member (members ms) h = h.0
written_member (instance m actuals) h = absurd h

pub written_members : (xs : List FlatVariable) → ((i : ℕ) (x : FlatVariable) → slice_get xs i ≡ Some x → IsWritableType x.declared) → Each (λ x. HasMember x.declared) xs
written_members [] types = tt
written_members (x ∷ xs) types = (written_member x.declared (types 0 x refl), written_members xs (λ i y e. types (suc i) y e))

one_role : (p : ProgramTree) (at : Place) (x : Text) (r q : Role) (s t : DeclaredTree) → IsVariable p at x r s → IsVariable p at x q t → r ≡ q
one_role p at x r q s t a b =
    let same : a.0 ≡ b.0 = cc (a.1, b.1) in
    let kinds : a_variable r s ≡ a_variable q t = sym a.2 ∙ ap (λ m. kind_in m x) same ∙ b.2 in cc

module _ (p : ProgramTree) (i : InstructionTree) (faults : List Fault) (top : Formula) (m : FlatModel) (fs : List Mode) (flat_top : Tree FlatLeaf) (model : IsExtensionModel p i faults top m fs flat_top) where
  -- the variable of a fault's mode is one of the state
  state_mode : (fault : Fault) (mode : Mode) → IsOfSlice p i fault → IsModeOfFault m fault mode → IsStateMode m mode
  state_mode fault mode of is =
      let v : FlatVariable = is.variable.variable in
      let among : Among (slices_of i of.is_slice.0.name) of.slice = among_contains (slices_of i of.is_slice.0.name) of.slice of.is_slice.2 in
      let there : IsVariable (woven p i) fault.place (mode_variable fault.slice) state (mode_type of.slice) =
      subst (λ n. IsVariable (woven p i) fault.place (mode_variable n) state (mode_type of.slice)) (sym of.name)
      (state_there p i faults top m fs flat_top model fault.place of.is_slice.0 of.slice of.is_slice.1 among) in
      let so : IsVariable (woven p i) fault.place (mode_variable fault.slice) v.role v.declared =
      subst (λ b. IsVariable (woven p i) b (mode_variable fault.slice) v.role v.declared) is.variable.same_place
      (subst (λ y. IsVariable (woven p i) v.place y v.role v.declared) is.variable.same_name (declared_so p i faults top m fs flat_top model mode.variable v is.variable.is)) in
      let role : v.role ≡ state = one_role (woven p i) fault.place (mode_variable fault.slice) v.role state v.declared (mode_type of.slice) so there in
      record {
        variable = v;
        is_variable = is.variable.is;
        is_state = ap is_input role;
        is_symbol = got_within m.symbols mode.symbol _ is.symbol;
      }

  state_modes : (as' : List Fault) (gs : List Mode) → Each (IsOfSlice p i) as' → EachBoth (IsModeOfFault m) as' gs → Each (IsStateMode m) gs
  state_modes [] [] of are = tt
  state_modes [] (g ∷ gs) of are = absurd are
  state_modes (a ∷ as') [] of are = absurd are
  state_modes (a ∷ as') (g ∷ gs) of are = (state_mode a g of.0 are.0, state_modes as' gs of.1 are.1)

pub extensions_searchable : ExtensionsAreSearchable
extensions_searchable p i faults top m fs flat_top model written few typed whole fits small =
    let named : IsNamed m = flat_models_named (woven p i) m model.accepted model.flat written in
    let plain : IsEncodable m = flat_models_encodable (woven p i) m model.accepted model.flat typed few (written_members m.variables named.types) in
    let modes = state_modes p i faults top m fs flat_top model faults fs (of_program p i faults model.has_faults) model.modes in
    record {
      own = models_own p i faults top m fs flat_top model;
      encodable = history_encodable m fs plain modes whole;
      fits = fits;
      few_inputs = few_inputs (woven p i) m fs model.accepted model.flat (few_faults m fs whole.small);
      small_top = small;
    }
