-- What the files of a model and of instructions hold is one case, and neither is then refused.
use Rattle.std.proofs.Common.{◌≡◌, List, refl, sym, ap, subst, ◌∙◌}
use Rattle.base_files.specs.declared.files.NamedFile.{NamedFile}
use Rattle.smv_language.specs.Language.{Text, ProgramTree, program_text, IsWritableProgram, FlatModel, EachBoth}
use Rattle.smv_language.proofs.Spelled.{program_writable}
use Rattle.smv_flat_laws.specs.History.{Mode}
use Rattle.fault_instructions.specs.Instructions.{InstructionTree}
use Rattle.fault_weave.specs.Faults.{Fault}
use Rattle.fault_weave.specs.WovenProgram.{woven}
use Rattle.cut_text_laws.specs.TraceOfText.{IsPrintable}
use Rattle.cut_text_laws.proofs.Named.{named_is_printable}
use Rattle.cut_text_laws.proofs.FlatNames.{flat_models_named}
use Rattle.verb_loading.specs.declared.status.Refusal.{Refusal}
use Rattle.verb_loading.specs.Reports.{report_text}
use Rattle.verb_loading.specs.Inputs.{IsInstructionText, RefusesFaults, HoldsFaults}
use Rattle.verb_loading.specs.Cases.{Case, extension_of, IsCase, HoldsCase}
use Rattle.base_values.specs.declared.limits.TheConstants.{MOST_FILE_BYTES}
use Rattle.verb_loading.proofs.FilesWithin.{same_bytes_within}
use Rattle.verb_loading.proofs.OneFaults.{one_list}
use Rattle.verb_loading.proofs.OneModes.{one_modes}
use Rattle.verb_loading.proofs.OneModelFault.{one_held_model}
use Rattle.verb_loading.proofs.OneInstructions.{one_instructions}
use Rattle.verb_loading.proofs.OneExtending.{taken_not_refused}
use Rattle.verb_loading.proofs.WovenSpells.{woven_text_spells}
use Rattle.cert_laws.specs.ExtendedTraces.{IsModeOfFault}

module _ (files : List NamedFile) (model faults : Text) where
  -- the case's instructions are held as those of an extension
  pub case_held : (c : Case) → HoldsCase files model faults c → HoldsFaults files faults c.program (program_text (extension_of c)) (report_text c.faults)
  case_held c h =
      record {
        bytes = h.bytes;
        has = h.has;
        extension = record {
          instructions = c.instructions;
          faults = c.faults;
          is_text = h.is_text;
          taken = h.is_case.taken;
          are_faults = h.is_case.are_faults;
          within = h.is_case.within;
          printed = refl;
          told = refl;
        };
      }

  pub case_not_refused : (c : Case) (p : ProgramTree) (r : Refusal) → HoldsCase files model faults c → c.program ≡ p → RefusesFaults files faults p r → ⊥
  case_not_refused c p r h same refused =
      taken_not_refused files faults c.program h.program.flat h.program.lawful (program_text (extension_of c)) (report_text c.faults) r (case_held c h) (subst (λ q. RefusesFaults files faults q r) (sym same) refused)

  -- its flat model can be printed
  pub case_printable : (c : Case) → HoldsCase files model faults c → IsPrintable c.flat
  case_printable c h =
      let writable : IsWritableProgram (extension_of c) =
      program_writable (program_text (extension_of c)) (extension_of c) (woven_text_spells h.program.bytes h.bytes c.program c.instructions h.program.is_text.spelled h.is_text.spelled) in
      named_is_printable c.flat (flat_models_named (extension_of c) c.flat h.is_case.within.accepted h.is_case.is_flat.is writable)

  same_parts : (p : ProgramTree) (i : InstructionTree) (fs gs : List Fault) (m n : FlatModel) (ms ns : List Mode) → fs ≡ gs → m ≡ n → ms ≡ ns →
      ◌≡◌ {A = Case} (record { program = p; instructions = i; faults = fs; flat = m; modes = ms }) (record { program = p; instructions = i; faults = gs; flat = n; modes = ns })
  same_parts p i fs gs m n ms ns a b c = λ j. record { program = p; instructions = i; faults = a j; flat = b j; modes = c j }

  -- two cases of one program and one list of instructions
  pub same_case : (p : ProgramTree) (i : InstructionTree) (fs gs : List Fault) (m n : FlatModel) (ms ns : List Mode) →
      IsCase (record { program = p; instructions = i; faults = fs; flat = m; modes = ms }) → IsCase (record { program = p; instructions = i; faults = gs; flat = n; modes = ns }) →
      ◌≡◌ {A = Case} (record { program = p; instructions = i; faults = fs; flat = m; modes = ms }) (record { program = p; instructions = i; faults = gs; flat = n; modes = ns })
  same_case p i fs gs m n ms ns a b =
      let lists : gs ≡ fs = one_list p i gs fs b.are_faults a.are_faults in
      let flats : n ≡ m = a.is_flat.only n b.is_flat.is in
      let modes : ms ≡ ns = one_modes (woven p i) a.within.accepted m a.is_flat.is fs ms ns a.are_modes (subst (λ xs. EachBoth (IsModeOfFault m) xs ns) lists (subst (λ k. EachBoth (IsModeOfFault k) gs ns) flats b.are_modes)) in
      same_parts p i fs gs m n ms ns (sym lists) (sym flats) modes

  pub one_case : (c d : Case) → HoldsCase files model faults c → HoldsCase files model faults d → c ≡ d
  one_case c d h g =
      let programs : d.program ≡ c.program = one_held_model files model c.program d.program h.program g.program in
      let texts : IsInstructionText h.bytes d.instructions = subst (λ b. IsInstructionText b d.instructions) (same_bytes_within MOST_FILE_BYTES files faults g.bytes h.bytes g.has h.has) g.is_text in
      let lists : d.instructions ≡ c.instructions = one_instructions h.bytes d.instructions c.instructions texts h.is_text in
      let moved : IsCase (record { program = c.program; instructions = c.instructions; faults = d.faults; flat = d.flat; modes = d.modes }) =
      subst (λ i. IsCase (record { program = c.program; instructions = i; faults = d.faults; flat = d.flat; modes = d.modes })) lists
      (subst (λ p. IsCase (record { program = p; instructions = d.instructions; faults = d.faults; flat = d.flat; modes = d.modes })) programs g.is_case) in
      same_case c.program c.instructions c.faults d.faults c.flat d.flat c.modes d.modes h.is_case moved
      ∙ sym (ap (λ p. record { program = p; instructions = d.instructions; faults = d.faults; flat = d.flat; modes = d.modes }) programs
      ∙ ap (λ i. record { program = c.program; instructions = i; faults = d.faults; flat = d.flat; modes = d.modes }) lists)
