-- Each fault of an extension has its mode in the extension's flat model: the variable that holds the state of its slice at its
-- instance, which the weave declared, and the symbol of the mode, which is a member of that variable's type.
use Rattle.std.proofs.Common.{◌≡◌, ◌≢◌, ℕ, suc, Bool, true, false, List, [], ◌∷◌, ◌++◌, map, Option, Some, refl, sym, ap, subst, ◌∙◌}
use Rattle.std.specs.Prelude.{slice_get, reverse}
use Rattle.std.specs.Option.{option_map}
use Rattle.std.proofs.lemmas.List.{reverse-reverse}
use Rattle.smv_language.specs.Language.{Text, Path, ModuleTree, ProgramTree, same_text, is_among, Place, state, kind_at, module_at, is_symbol, Each, IsInstance, IsVariable, FlatVariable, FlatModel as ModelTree, place_in, name_in, variable_tree, model_tree, place_of}
use Rattle.smv_language.proofs.ValueLaws.{same_text_equal}
use Rattle.smv_flat_laws.specs.Model.{IsVariableNumber, IsFlatOf}
use Rattle.smv_flat_laws.specs.Rules.{IsAccepted}
use Rattle.smv_flat_laws.proofs.Lists.{each_more}
use Rattle.smv_flat_laws.proofs.Variables.{variables_are}
use Rattle.smv_flat_laws.proofs.Walkable.{accepted_walkable}
use Rattle.smv_language.specs.declared.model.FlatModel.{FlatModel}
use Rattle.smv_language.specs.declared.model.Variable.{Variable}
use Rattle.smv_flat_laws.proofs.SymbolLaws.{symbols_among}
use Rattle.fault_instructions.specs.Instructions.{SliceTree, InstructionTree, slices_of}
use Rattle.fault_instructions.specs.AddedNames.{mode_variable, mode_symbol}
use Rattle.fault_weave.specs.Faults.{Fault, HasFaults}
use Rattle.fault_instructions.specs.Weavable.{Among, IsWeavable}
use Rattle.fault_weave.specs.WovenProgram.{mode_type, woven_module, woven}
use Rattle.fault_weave.proofs.Added.{among_contains, slices_symbol, woven_symbol}
use Rattle.fault_weave.proofs.LeafValues.{instance_among, mode_variable_kind}
use Rattle.fault_weave.proofs.Meanings.{module_woven}
use Rattle.cert_laws.proofs.Modes.{IsOfSlice, of_program}
use Rattle.fault_extend.specs.declared.faults.WovenFault.{WovenFault}
use Rattle.fault_extend.specs.WovenFaults.{fault_tree}
use Rattle.fault_extend.specs.NumberedFaults.{parts_of, HasPath, HaveModes}
use Rattle.verb_loading.specs.Wholes.{HasModeOf, HasItsModes}
use Rattle.verb_loading.proofs.WholeLemmas.{turned}
use Rattle.smv_language.proofs.ListLaws.{get_mapped}

-- a text among others has a place
among_at : (xs : List Text) (x : Text) → is_among xs x ≡ true → (n : ℕ) × (slice_get xs n ≡ Some x)
among_at [] x h = cc
among_at (y ∷ xs) x h = by_test (same_text y x) refl h (among_at xs x)
  where
    by_test : (b : Bool) → same_text y x ≡ b → is_among (y ∷ xs) x ≡ true → (is_among xs x ≡ true → (n : ℕ) × (slice_get xs n ≡ Some x)) → (n : ℕ) × (slice_get (y ∷ xs) n ≡ Some x)
    by_test true t g more = (0, ap Some (same_text_equal y x t))
    by_test false t g more = let rest = more (rw t at g) in (suc rest.0, rest.1)

-- Over trees.
module _ (p : ProgramTree) (i : InstructionTree) (weavable : IsWeavable p i) (m : ModelTree) (accepted : IsAccepted (woven p i)) (flat : IsFlatOf (woven p i) m) where
  -- the variable of a slice's states is one of the woven program
  state_there : (at : Place) (k : ModuleTree) (s : SliceTree) → IsInstance p at k → Among (slices_of i k.name) s → IsVariable (woven p i) at (mode_variable s.name) state (mode_type s)
  state_there at k s is a =
      let there : module_at (woven p i) at ≡ Some (woven_module i k) = module_woven p i weavable at ∙ ap (option_map (woven_module i)) is in
      (woven_module i k, there, ap (λ o. kind_at o (mode_variable s.name)) (sym there) ∙ mode_variable_kind p i weavable at k s is a)

  -- the symbol of a mode is one of the model's
  symbol_there : (x : Text) → is_symbol (woven p i) x ≡ true → (n : ℕ) × (slice_get m.symbols n ≡ Some x)
  symbol_there x h = among_at m.symbols x (subst (λ xs. is_among xs x ≡ true) (sym flat.symbols) (symbols_among (woven p i) x ∙ h))

  has_mode : (fault : Fault) → IsOfSlice p i fault → HasModeOf m fault
  has_mode fault of =
      let k : ModuleTree = of.is_slice.0 in
      let s : SliceTree = of.slice in
      let among : Among (slices_of i k.name) s = among_contains (slices_of i k.name) s of.is_slice.2 in
      let found : (n : ℕ) × (v : FlatVariable) × (slice_get m.variables n ≡ Some v) × (v.place ≡ fault.place) × (v.name ≡ mode_variable s.name) =
      (variables_are (woven p i) (accepted_walkable (woven p i) accepted) m flat fault.place (mode_variable s.name)).0 (state, mode_type s, state_there fault.place k s of.is_slice.1 among) in
      let symbol : (n : ℕ) × (slice_get m.symbols n ≡ Some (mode_symbol s.name (Some fault.mode))) =
      symbol_there (mode_symbol s.name (Some fault.mode))
      (woven_symbol p i k (mode_symbol s.name (Some fault.mode)) (instance_among p i weavable fault.place k of.is_slice.1) (slices_symbol k (slices_of i k.name) s (Some fault.mode) among of.mode)) in (
        record { variable = found.0; symbol = symbol.0 },
        record {
          variable = record { variable = found.1; is = found.2; same_place = found.3; same_name = found.4 ∙ ap mode_variable (sym of.name) };
          symbol = symbol.1 ∙ ap (λ n. Some (mode_symbol n (Some fault.mode))) (sym of.name);
        },
      )

-- the flat model of an extension has the mode of each of its faults
pub has_its_modes : (p : ProgramTree) (i : InstructionTree) (faults : List Fault) → IsWeavable p i → HasFaults p i faults → HasItsModes (woven p i) faults
has_its_modes p i faults weavable has m accepted flat = each_more (IsOfSlice p i) (HasModeOf m) faults (has_mode p i weavable m accepted flat) (of_program p i faults has)

mode_variable_is_some : (x : Text) → mode_variable x ≢ []
mode_variable_is_some [] e = cc
mode_variable_is_some (c ∷ x) e = cc

-- the path of a variable, from its place and its name
path_is : (v : Variable) (path : Option Path) (x : Text) → x ≢ [] → place_in (reverse v.path) ≡ place_of path → name_in (reverse v.path) ≡ x → v.path ≡ parts_of path ++ x ∷ []
path_is v path x some place name = sym (reverse-reverse v.path) ∙ ap reverse (go (reverse v.path) place name) ∙ ap reverse (sym (turned path x)) ∙ reverse-reverse (parts_of path ++ x ∷ [])
  where
    go : (back : Path) → place_in back ≡ place_of path → name_in back ≡ x → back ≡ x ∷ place_of path
    go [] place name = absurd (some (sym name))
    go (y ∷ ys) place name = (λ j. name j ∷ place j)

path_there : (m : FlatModel) (path : Option Path) (x : Text) (n : ℕ) → x ≢ [] → IsVariableNumber (model_tree m) (place_of path) x n → HasPath m.variables n (parts_of path ++ x ∷ [])
path_there m path x n some is =
    let made : (v : Variable) × (slice_get m.variables n ≡ Some v) × (variable_tree v ≡ is.variable) = get_mapped variable_tree m.variables n is.variable is.is in
    record {
      variable = made.0;
      is = made.1;
      same = path_is made.0 path x some (ap (λ (v : FlatVariable). v.place) made.2 ∙ is.same_place) (ap (λ (v : FlatVariable). v.name) made.2 ∙ is.same_name);
    }

-- what the model has over trees, it has in memory
pub have_modes : (m : FlatModel) (ws : List WovenFault) → Each (HasModeOf (model_tree m)) (map fault_tree ws) → HaveModes m ws
have_modes m [] h = tt
have_modes m (w ∷ ws) h = (
  record {
    number = h.0.0.variable;
    variable = path_there m w.path (mode_variable w.slice) h.0.0.variable (mode_variable_is_some w.slice) h.0.1.variable;
    symbol = h.0.0.symbol;
    is_symbol = h.0.1.symbol;
  },
  have_modes m ws h.1,
)
