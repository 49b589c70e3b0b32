-- A case with a top event can be searched, and a complete answer certified.
use Rattle.std.proofs.Common.{arith, ◌≡◌, ◌<◌, ◌≤◌, ◌^◌, [], length, map, subst, ◌∙◌}
use Rattle.std.proofs.lemmas.List.{length-map}
use Rattle.base_values.specs.declared.limits.TheConstants.{MOST_BITS}
use Rattle.smv_language.specs.Language.{Tree, Text, ProgramTree, FlatLeaf}
use Rattle.smv_flat_laws.specs.FaultModes.{mode_of}
use Rattle.smv_type_laws.specs.Models.{IsTyped}
use Rattle.smv_type_laws.specs.Costs.{cost_of}
use Rattle.cut_search_laws.specs.Searchable.{IsSearchable}
use Rattle.cut_search_laws.proofs.Fitting.{few_faults}
use Rattle.cut_report_laws.proofs.Searchables.{extensions_searchable}
use Rattle.fault_extend.specs.WovenFaults.{fault_tree}
use Rattle.cert_laws.specs.ExtendedTraces.{IsExtensionModel}
use Rattle.fault_woven_laws.specs.Tops.{IsReadAs, IsTopOf}
use Rattle.fault_woven_laws.proofs.Fits.{tops_fit}
use Rattle.fault_woven_laws.proofs.Meanings.{tops_of_extensions}
use Rattle.verb_loading.specs.declared.loaded.LoadedCase.{LoadedCase}
use Rattle.verb_loading.specs.Cases.{Case, whole_of}
use Rattle.verb_loading.specs.LoadedCases.{case_of}
use Rattle.verb_loading.specs.LoadedEvents.{IsAnalysable}
use Rattle.verb_loading.proofs.FlatLimits.{flat_typed}
use Rattle.verb_loading.proofs.LoadedLaws.{same_counts}
use Rattle.verb_loading.proofs.TopLaws.{have_models}
use Rattle.sat_encoding_laws.specs.Variables.{most_asked_cost}

module _ (p : ProgramTree) (l : LoadedCase) (word : Text) (tree : Tree FlatLeaf) (is : IsAnalysable p l word tree) where
  abbrev the_case : Case
  the_case = case_of p l

  read_as : IsReadAs the_case.program is.event.is_word.is_top.flat the_case.instructions the_case.flat [] is.event.top is.event.is_word.is_top.tree tree
  read_as = record { before = is.event.is_word.is_top.resolved; after = is.event.is_tree }

  -- its flat model is that of the extension, with the event
  pub model_of_case : IsExtensionModel the_case.program the_case.instructions the_case.faults is.event.top the_case.flat the_case.modes tree
  model_of_case =
      let c : Case = the_case in
      let top = is.event.is_word.is_top in
      tops_of_extensions c.program top.flat c.instructions c.flat (have_models c is.loaded.is_case is.flat is.lawful is.event.top top) is.loaded.is_case.within.accepted c.faults c.modes
      is.loaded.is_case.are_faults is.loaded.is_case.are_modes is.event.top top.tree tree read_as

  pub top_fits : IsTopOf (whole_of the_case) tree
  top_fits =
      let c : Case = the_case in
      let top = is.event.is_word.is_top in
      (tops_fit c.program top.flat c.instructions c.flat (have_models c is.loaded.is_case is.flat is.lawful is.event.top top) is.loaded.is_case.within.accepted [] is.event.top top.tree tree read_as top.names
      top.kinds).1 c.modes

  pub case_searchable : length the_case.flat.symbols < 2 ^ 31 → IsSearchable the_case.flat the_case.modes tree
  case_searchable few =
      let c : Case = the_case in
      let h = is.loaded.is_case in
      let typed : IsTyped c.flat = flat_typed c.program is.flat c.instructions c.faults is.lawful h.taken h.are_faults c.flat h.is_flat h.within in
      let small : cost_of tree ≤ most_asked_cost = let cost = top_fits.small in omega (arith, cost) in
      extensions_searchable c.program c.instructions c.faults is.event.top c.flat c.modes tree model_of_case is.loaded.writable few typed h.typed top_fits.fits small

  -- it has few faults
  pub case_few : length l.limited.faults ≤ MOST_BITS
  case_few = subst (λ n. n ≤ MOST_BITS) (length-map l.limited.faults mode_of) (few_faults the_case.flat the_case.modes is.loaded.is_case.typed.small)

  pub case_counts : length (map fault_tree l.limited.woven.faults) ≡ length l.limited.faults
  case_counts = length-map l.limited.woven.faults fault_tree ∙ same_counts l.limited.typed.model l.limited.woven.faults l.limited.faults is.loaded.numbered
