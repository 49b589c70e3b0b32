-- What is wrong with an instruction file is one thing, and nothing is where it is taken.
use Rattle.std.proofs.Common.{◌≡◌, ℕ, List, sym, ap, subst, ◌∙◌}
use Rattle.base_files.specs.declared.files.NamedFile.{NamedFile}
use Rattle.smv_language.specs.Language.{Text, ProgramTree, program_text, FlatModel}
use Rattle.fault_instructions.specs.Instructions.{InstructionTree}
use Rattle.fault_weave.specs.Faults.{HasFaults}
use Rattle.fault_weave.specs.WovenProgram.{woven}
use Rattle.smv_flat_laws.specs.Model.{IsFlatOf}
use Rattle.fault_extend.specs.FirstRefusal.{IsTold, IsWant}
use Rattle.fault_extend.proofs.OneFault.{one_told, none_told}
use Rattle.fault_extend.specs.declared.fault.WeaveFault.{WeaveFault}
use Rattle.verb_loading.specs.declared.status.InputFault.{InputFault}
use Rattle.verb_loading.specs.declared.status.Refusal.{Refusal}
use Rattle.verb_loading.specs.declared.status.Refusal.TheVariants as refusal
use Rattle.verb_loading.specs.declared.wrong.Wrong.TheVariants as wrong
use Rattle.verb_loading.specs.Wrongs.{cause_wrong, weave_wrong}
use Rattle.verb_loading.specs.Models.{IsLawful}
use Rattle.verb_loading.specs.Wholes.{PassesLimit, IsWithinLimits}
use Rattle.verb_loading.specs.Reports.{report_text}
use Rattle.verb_loading.specs.Inputs.{AreTaken, IsWrongFaults, not_spelled, not_woven, past_limit, RefusesFaults, faults_file, faults_bytes, IsExtensionText, HoldsFaults}
use Rattle.base_values.specs.declared.limits.TheConstants.{MOST_FILE_BYTES}
use Rattle.verb_loading.proofs.FilesWithin.{no_bytes_within, one_fault_above, same_bytes_within}
use Rattle.verb_loading.proofs.OneFaults.{one_list}
use Rattle.verb_loading.proofs.OneExtension.{one_wrong_whole, within_not_wrong}
use Rattle.verb_loading.proofs.LimitLaws.{passes_wrong}
use Rattle.verb_loading.proofs.Told.{one_refusal}
use Rattle.verb_loading.proofs.OneInstructions.{no_instructions, one_text_fault, one_instructions}
use Rattle.smv_flat_laws.specs.Items.{modules_of_instances}

-- a fault that refuses is no want of memory
refuses_no_want : (f : WeaveFault) (a : InputFault) → wrong.Refused a ≡ weave_wrong f → IsWant f → ⊥
refuses_no_want f a e memory = let bad : wrong.Refused a ≡ wrong.Memory = e ∙ ap (λ c. cause_wrong c f.item) memory in cc

module _ (p : ProgramTree) (m : FlatModel) (lawful : IsLawful p m) where
  -- what is told over a flat model of the program is told over this one, which is the only one
  told_over : (n : FlatModel) (i : InstructionTree) (f : WeaveFault) → IsFlatOf p n → IsTold p n i (modules_of_instances p) f → IsTold p m i (modules_of_instances p) f
  told_over n i f is told = subst (λ o. IsTold p o i (modules_of_instances p) f) (lawful.model.only n is) told

  -- what is told of instructions for a lawful program is one fault
  told_once : (i : InstructionTree) (n k : FlatModel) (f g : WeaveFault) (a b : InputFault) → IsFlatOf p n → IsFlatOf p k → IsTold p n i (modules_of_instances p) f → IsTold p k i (modules_of_instances p) g →
      wrong.Refused a ≡ weave_wrong f → wrong.Refused b ≡ weave_wrong g → a ≡ b
  told_once i n k f g a b is was told also e d =
      let same : f ≡ g = one_told p m i (modules_of_instances p) f g lawful.accepted lawful.model.is (told_over n i f is told) (told_over k i g was also) (refuses_no_want f a e) (refuses_no_want g b d) in
      one_refusal (e ∙ ap weave_wrong same ∙ sym d)

  -- and nothing is told of instructions that are taken
  taken_untold : (i : InstructionTree) (n : FlatModel) (f : WeaveFault) (a : InputFault) → AreTaken p i → IsFlatOf p n → IsTold p n i (modules_of_instances p) f → wrong.Refused a ≡ weave_wrong f → ⊥
  taken_untold i n f a taken is told e =
      none_told p m i (modules_of_instances p) f lawful.accepted lawful.model.is taken.kept (taken.uses m lawful.model.is) (told_over n i f is told) (refuses_no_want f a e)

module _ (p : ProgramTree) (m : FlatModel) (lawful : IsLawful p m) (bytes : List ℕ) where
  one_wrong_faults : (a b : InputFault) → IsWrongFaults p bytes a → IsWrongFaults p bytes b → a ≡ b
  one_wrong_faults a b (not_spelled f h e) (not_spelled g k d) = one_text_fault bytes f g a b e d h k
  one_wrong_faults a b (not_spelled f h e) (not_woven j n g text is told d) = absurd (no_instructions bytes j f a e h text)
  one_wrong_faults a b (not_spelled f h e) (past_limit j faults text taken are bad) = absurd (no_instructions bytes j f a e h text)
  one_wrong_faults a b (not_woven i n f text is told e) (not_spelled g k d) = absurd (no_instructions bytes i g b d k text)
  one_wrong_faults a b (not_woven i n f text is told e) (not_woven j k g other was also d) =
      told_once p m lawful i n k f g a b is was told (subst (λ t. IsTold p k t (modules_of_instances p) g) (one_instructions bytes j i other text) also) e d
  one_wrong_faults a b (not_woven i n f text is told e) (past_limit j faults other taken are bad) =
      absurd (taken_untold p m lawful i n f a (subst (AreTaken p) (one_instructions bytes j i other text) taken) is told e)
  one_wrong_faults a b (past_limit i faults text taken are bad) (not_spelled g k d) = absurd (no_instructions bytes i g b d k text)
  one_wrong_faults a b (past_limit i faults text taken are bad) (not_woven j n g other is told d) =
      absurd (taken_untold p m lawful i n g b taken is (subst (λ t. IsTold p n t (modules_of_instances p) g) (one_instructions bytes j i other text) told) d)
  one_wrong_faults a b (past_limit i faults text taken are bad) (past_limit j others other taken' are' bad') =
      let same : j ≡ i = one_instructions bytes j i other text in
      let lists : others ≡ faults = one_list p i others faults (subst (λ t. HasFaults p t others) same are') are in
      let also : PassesLimit (woven p i) faults b = subst (λ l. PassesLimit (woven p i) l b) lists (subst (λ t. PassesLimit (woven p t) others b) same bad') in
      one_wrong_whole (woven p i) faults a b (passes_wrong (woven p i) faults a bad) (passes_wrong (woven p i) faults b also)

  -- nothing is wrong with the instructions of an extension
  taken_not_wrong : (text report : Text) (a : InputFault) → IsExtensionText p bytes text report → IsWrongFaults p bytes a → ⊥
  taken_not_wrong text report a made (not_spelled f h e) = no_instructions bytes made.instructions f a e h made.is_text
  taken_not_wrong text report a made (not_woven i n f other is told e) =
      taken_untold p m lawful i n f a (subst (AreTaken p) (one_instructions bytes made.instructions i made.is_text other) made.taken) is told e
  taken_not_wrong text report a made (past_limit i faults other taken are bad) =
      let same : made.instructions ≡ i = one_instructions bytes made.instructions i made.is_text other in
      let lists : made.faults ≡ faults = one_list p i made.faults faults (subst (λ t. HasFaults p t made.faults) same made.are_faults) are in
      within_not_wrong (woven p i) faults a (subst (λ l. IsWithinLimits (woven p i) l) lists (subst (λ t. IsWithinLimits (woven p t) made.faults) same made.within))
      (passes_wrong (woven p i) faults a bad)

  one_extension : (text report text' report' : Text) → IsExtensionText p bytes text report → IsExtensionText p bytes text' report' → (text ≡ text') × (report ≡ report')
  one_extension text report text' report' a b =
      let same : a.instructions ≡ b.instructions = one_instructions bytes a.instructions b.instructions a.is_text b.is_text in
      let lists : a.faults ≡ b.faults = one_list p b.instructions a.faults b.faults (subst (λ t. HasFaults p t a.faults) same a.are_faults) b.are_faults in
      (a.printed ∙ ap (λ i. program_text (woven p i)) same ∙ sym b.printed, a.told ∙ ap report_text lists ∙ sym b.told)

module _ (files : List NamedFile) (name : Text) (p : ProgramTree) (m : FlatModel) (lawful : IsLawful p m) where
  pub one_refused_faults : (r s : Refusal) → RefusesFaults files name p r → RefusesFaults files name p s → r ≡ s
  one_refused_faults r s (faults_file a is refused) (faults_file b was also) = is ∙ ap (λ f. refusal.Faults f) (one_fault_above MOST_FILE_BYTES files name a b refused also) ∙ sym was
  one_refused_faults r s (faults_file a is refused) (faults_bytes bytes b was has bad) = absurd (no_bytes_within MOST_FILE_BYTES files name a bytes refused has)
  one_refused_faults r s (faults_bytes bytes a is has bad) (faults_file b was refused) = absurd (no_bytes_within MOST_FILE_BYTES files name b bytes refused has)
  one_refused_faults r s (faults_bytes bytes a is has bad) (faults_bytes others b was holds also) =
      is ∙ ap (λ f. refusal.Faults f) (one_wrong_faults p m lawful bytes a b bad (subst (λ t. IsWrongFaults p t b) (same_bytes_within MOST_FILE_BYTES files name others bytes holds has) also)) ∙ sym was

  pub taken_not_refused : (text report : Text) (r : Refusal) → HoldsFaults files name p text report → RefusesFaults files name p r → ⊥
  taken_not_refused text report r have (faults_file a is refused) = no_bytes_within MOST_FILE_BYTES files name a have.bytes refused have.has
  taken_not_refused text report r have (faults_bytes bytes a is has bad) =
      taken_not_wrong p m lawful have.bytes text report a have.extension (subst (λ t. IsWrongFaults p t a) (same_bytes_within MOST_FILE_BYTES files name bytes have.bytes has have.has) bad)

  pub one_taken : (text report text' report' : Text) → HoldsFaults files name p text report → HoldsFaults files name p text' report' → (text ≡ text') × (report ≡ report')
  one_taken text report text' report' a b =
      one_extension p m lawful a.bytes text report text' report' a.extension (subst (λ t. IsExtensionText p t text' report') (same_bytes_within MOST_FILE_BYTES files name b.bytes a.bytes b.has a.has) b.extension)
