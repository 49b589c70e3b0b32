-- An extension's model, its modes and its top event read the model's own variables.
use Rattle.std.proofs.Common.{◌≡◌, ℕ, suc, true, List, [], ◌∷◌, ◌++◌, map, length, Some, refl, sym, ap, ◌∙◌, subst, codes}
use Rattle.std.specs.Prelude.{slice_get}
use Rattle.std.specs.Option.{option_map}
use Rattle.smv_language.specs.declared.program.Member.TheVariants as member
use Rattle.smv_language.specs.Language.{Tree, Trees, Branches, leaf, not_of, negate, next_of, binary, choice, case_of, set_of, span, no_tree, tree_then, no_branch, branch_then, Text, Formula, ModuleTree, ProgramTree, Value, symbol, AllLeaves, AllLeavesOfTrees, AllLeavesOfBranches, Place, state, kind_at, module_at, find_module, Each, is_member, in_domain, IsInstance, IsVariable, EachBoth, FlatLeaf, flat_variable, flat_symbol, flat_definition, FlatVariable, FlatFormula, FlatModel}
use Rattle.smv_language.specs.Tree.{truth as is_truth, number as is_number}
use Rattle.smv_language.specs.Values.{truth, number}
use Rattle.smv_flat_laws.specs.History.{Mode}
use Rattle.smv_flat_laws.specs.Items.{Visit, visits, variables_of}
use Rattle.smv_flat_laws.specs.Model.{IsVariableOf}
use Rattle.smv_flat_laws.specs.FlatTrace.{IsOwnName, IsOwnFormula, NamesOwn, IsModeOf}
use Rattle.smv_flat_laws.specs.NameResolution.{leaves_in, trees_leaves, branches_leaves, Resolver, IsSound, IsResolved}
use Rattle.smv_flat_laws.proofs.Conditions.{each_join}
use Rattle.smv_flat_laws.proofs.Lists.{each_more}
use Rattle.smv_flat_laws.proofs.Places.{has_main}
use Rattle.smv_flat_laws.proofs.Walkable.{accepted_walkable, main_is_there}
use Rattle.smv_type_laws.specs.Laws.{IsKnown, AreInOrder, IsClosed}
use Rattle.smv_type_laws.proofs.ClosedLaws.{own_by, models_closed}
use Rattle.fault_instructions.specs.Instructions.{ModeTree, SliceTree, InstructionTree, slices_of}
use Rattle.fault_instructions.specs.AddedNames.{mode_variable, mode_symbol}
use Rattle.fault_weave.specs.Faults.{Fault}
use Rattle.fault_weave.specs.WovenProgram.{mode_type, woven_module, woven}
use Rattle.fault_instructions.specs.Weavable.{Among}
use Rattle.fault_weave.proofs.Added.{among_contains}
use Rattle.fault_weave.proofs.LeafValues.{mode_variable_kind}
use Rattle.fault_weave.proofs.Meanings.{module_woven}
use Rattle.sat_encoding_laws.specs.EncodedLaws.{AreOwn}
use Rattle.cert_laws.specs.ExtendedTraces.{IsModeOfFault, IsExtensionModel}
use Rattle.cert_laws.specs.Laws.{ExtensionModelsAreOwn}
use Rattle.cert_laws.proofs.Modes.{IsOfSlice, of_program}
use Rattle.smv_type_laws.proofs.TraceLaws.{one_type}
use Rattle.smv_flat_laws.proofs.Variables.{both_at_second as both_right, RealVariable, real_variables}
use Rattle.smv_flat_laws.proofs.Conditions.{each_at}

-- What holds of all leaves holds of each of them.
mutual
  pub each_leaf : {L : Type 0} (P : L → Type 0) (t : Tree L) → AllLeaves P t → Each P (leaves_in t)
  each_leaf P (is_truth b) h = tt
  each_leaf P (is_number n) h = tt
  each_leaf P (leaf l) h = (h, tt)
  each_leaf P (not_of a) h = each_leaf P a h
  each_leaf P (negate a) h = each_leaf P a h
  each_leaf P (next_of a) h = each_leaf P a h
  each_leaf P (binary o a b) h = each_join P (leaves_in a) (leaves_in b) (each_leaf P a h.0) (each_leaf P b h.1)
  each_leaf P (choice c a b) h = each_join P (leaves_in c) (leaves_in a ++ leaves_in b) (each_leaf P c h.0) (each_join P (leaves_in a) (leaves_in b) (each_leaf P a h.1) (each_leaf P b h.2))
  each_leaf P (case_of bs) h = each_branch P bs h
  each_leaf P (set_of ts) h = each_tree P ts h
  each_leaf P (span lo hi) h = tt

  each_tree : {L : Type 0} (P : L → Type 0) (ts : Trees L) → AllLeavesOfTrees P ts → Each P (trees_leaves ts)
  each_tree P no_tree h = tt
  each_tree P (tree_then t ts) h = each_join P (leaves_in t) (trees_leaves ts) (each_leaf P t h.0) (each_tree P ts h.1)

  each_branch : {L : Type 0} (P : L → Type 0) (bs : Branches L) → AllLeavesOfBranches P bs → Each P (branches_leaves bs)
  each_branch P no_branch h = tt
  each_branch P (branch_then c a bs) h =
      each_join P (leaves_in c) (leaves_in a ++ branches_leaves bs) (each_leaf P c h.0) (each_join P (leaves_in a) (branches_leaves bs) (each_leaf P a h.1) (each_branch P bs h.2))

own_name : (v s d : ℕ) (l : FlatLeaf) → IsKnown v s d l → IsOwnName v l
own_name v s d (flat_variable i) h = h
own_name v s d (flat_symbol i) h = tt
own_name v s d (flat_definition i) h = tt

pub own_names : (v s d : ℕ) (e : Tree FlatLeaf) → AllLeaves (IsKnown v s d) e → Each (IsOwnName v) (leaves_in e)
own_names v s d e h = each_more (IsKnown v s d) (IsOwnName v) (leaves_in e) (own_name v s d) (each_leaf (IsKnown v s d) e h)

own_definitions : (v s k : ℕ) (ds : List FlatFormula) → AreInOrder v s k ds → Each (IsOwnFormula v) ds
own_definitions v s k [] h = tt
own_definitions v s k (d ∷ ds) h = (own_names v s k d.value h.0, own_definitions v s (suc k) ds h.1)

pub closed_own : (m : FlatModel) → IsClosed m → NamesOwn m
closed_own m closed = record {
  definitions = own_definitions (length m.variables) (length m.symbols) 0 m.definitions closed.definitions;
  at_first = formulas m.at_first closed.at_first;
  at_each = formulas m.at_each closed.at_each;
  at_step = formulas m.at_step closed.at_step;
}
  where
    formulas : (fs : List FlatFormula) → Each (λ f. AllLeaves (IsKnown (length m.variables) (length m.symbols) (length m.definitions)) f.value) fs → Each (IsOwnFormula (length m.variables)) fs
    formulas [] h = tt
    formulas (f ∷ fs) h = (own_names (length m.variables) (length m.symbols) (length m.definitions) f.value h.0, formulas fs h.1)

-- The values of a slice's states are symbols.
pub state_symbol : (slice : Text) (ms : List ModeTree) (v : Value) → is_member (map (λ mode. member.Symbol (mode_symbol slice (Some mode.name))) ms) v ≡ true → (x : Text) × (v ≡ symbol x)
state_symbol slice [] v e = cc
state_symbol slice (mode ∷ ms) (symbol x) e = (x, refl)
state_symbol slice (mode ∷ ms) (truth b) e = state_symbol slice ms (truth b) e
state_symbol slice (mode ∷ ms) (number n) e = state_symbol slice ms (number n) e

pub type_symbol : (s : SliceTree) (v : Value) → in_domain (mode_type s) v ≡ true → (x : Text) × (v ≡ symbol x)
type_symbol s (symbol x) e = (x, refl)
type_symbol s (truth b) e = state_symbol s.name s.modes (truth b) e
type_symbol s (number n) e = state_symbol s.name s.modes (number n) e

module _ (p : ProgramTree) (i : InstructionTree) (faults : List Fault) (top : Formula) (m : FlatModel) (fs : List Mode) (flat_top : Tree FlatLeaf) (model : IsExtensionModel p i faults top m fs flat_top) where
  -- a numbered variable is declared with its role and type
  pub declared_so : (k : ℕ) (v : FlatVariable) → slice_get m.variables k ≡ Some v → IsVariable (woven p i) v.place v.name v.role v.declared
  declared_so k v e =
      let main : (n : ModuleTree) × (find_module (woven p i) (codes "main") ≡ Some n) = main_is_there (woven p i) (accepted_walkable (woven p i) model.accepted) in
      let from : (w : Visit) × (slice_get (variables_of (woven p i)) k ≡ Some w) × IsVariableOf m w v = both_right (IsVariableOf m) (variables_of (woven p i)) m.variables k v model.flat.variables e in
      let real : RealVariable (woven p i) from.0 =
      each_at (RealVariable (woven p i)) (variables_of (woven p i)) k from.0 (real_variables (woven p i) (visits (woven p i)) (has_main (woven p i) (accepted_walkable (woven p i) model.accepted) main.0 main.1)) from.1 in
      let by = from.2 in
      subst (λ at. IsVariable (woven p i) at v.name v.role v.declared) (sym by.place)
      (subst (λ x. IsVariable (woven p i) from.0.place x v.role v.declared) (sym by.name)
      (subst (λ r. IsVariable (woven p i) from.0.place from.0.decl.name r v.declared) (sym by.role)
      (subst (λ t. IsVariable (woven p i) from.0.place from.0.decl.name from.0.role t) (sym by.declared) real)))

  -- the variable of a slice's states is one of the woven program
  pub state_there : (at : Place) (k : ModuleTree) (s : SliceTree) → IsInstance p at k → Among (slices_of i k.name) s → IsVariable (woven p i) at (mode_variable s.name) state (mode_type s)
  state_there at k s is a =
      let there : module_at (woven p i) at ≡ Some (woven_module i k) = module_woven p i model.weavable at ∙ ap (option_map (woven_module i)) is in
      (woven_module i k, there, ap (λ o. kind_at o (mode_variable s.name)) (sym there) ∙ mode_variable_kind p i model.weavable at k s is a)

  fault_mode : (fault : Fault) (mode : Mode) → IsOfSlice p i fault → IsModeOfFault m fault mode → IsModeOf m mode
  fault_mode fault mode of is =
      let v : FlatVariable = is.variable.variable in
      let among : Among (slices_of i of.is_slice.0.name) of.slice = among_contains (slices_of i of.is_slice.0.name) of.slice of.is_slice.2 in
      let there : IsVariable (woven p i) fault.place (mode_variable fault.slice) state (mode_type of.slice) =
      subst (λ n. IsVariable (woven p i) fault.place (mode_variable n) state (mode_type of.slice)) (sym of.name) (state_there fault.place of.is_slice.0 of.slice of.is_slice.1 among) in
      let so : IsVariable (woven p i) fault.place (mode_variable fault.slice) v.role v.declared =
      subst (λ b. IsVariable (woven p i) b (mode_variable fault.slice) v.role v.declared) is.variable.same_place
      (subst (λ y. IsVariable (woven p i) v.place y v.role v.declared) is.variable.same_name (declared_so mode.variable v is.variable.is)) in
      let type : v.declared ≡ mode_type of.slice = one_type (woven p i) fault.place (mode_variable fault.slice) v.role state v.declared (mode_type of.slice) so there in
      record {
        variable = v;
        is_variable = is.variable.is;
        symbols_alone = λ x within. type_symbol of.slice x (subst (λ t. in_domain t x ≡ true) type within);
        text = mode_symbol fault.slice (Some fault.mode);
        is_symbol = is.symbol;
      }

  fault_modes : (as' : List Fault) (gs : List Mode) → Each (IsOfSlice p i) as' → EachBoth (IsModeOfFault m) as' gs → Each (IsModeOf m) gs
  fault_modes [] [] of are = tt
  fault_modes [] (g ∷ gs) of are = absurd are
  fault_modes (a ∷ as') [] of are = absurd are
  fault_modes (a ∷ as') (g ∷ gs) of are = (fault_mode a g of.0 are.0, fault_modes as' gs of.1 are.1)

  own : AreOwn m fs flat_top
  own =
      let r : (r : Resolver) × IsSound (woven p i) m model.flat.written r × IsResolved (r []) top flat_top = model.resolved model.flat in
      record {
        names_own = closed_own m (models_closed (woven p i) m model.flat);
        modes = fault_modes faults fs (of_program p i faults model.has_faults) model.modes;
        top_own = own_names (length m.variables) (length m.symbols) (length m.definitions) flat_top (own_by (woven p i) m model.flat r.0 r.1 [] top flat_top r.2);
      }

pub models_own : ExtensionModelsAreOwn
models_own p i faults top m fs flat_top model = own p i faults top m fs flat_top model
