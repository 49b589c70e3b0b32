-- From the rules that are tried to what the reading of a causes file says.
use Rattle.std.proofs.Common.{◌≡◌, inl, inr, ℕ, List, [], ◌∷◌, None, length, map, sym, ap, ◌∙◌, subst, false}
use Rattle.std.specs.Prelude.{flat_map}
use Rattle.std.proofs.lemmas.List.{length-map}
use Rattle.smv_language.specs.Language.{Text, Path, ProgramTree, EachBoth, name_of_fault}
use Rattle.fault_weave.specs.Faults.{Fault as WovenFault}
use Rattle.fault_rules.specs.KeyedLists.{with_texts}
use Rattle.smv_language.specs.declared.model.Fault.{Fault}
use Rattle.fault_cause_laws.specs.Causes.{CommonCause}
use Rattle.fault_cause_laws.specs.CausesText.{WrittenCause, BytesSpellCauses}
use Rattle.fault_cause_laws.specs.CauseRules.{fault_path, names_of_cause}
use Rattle.fault_causes_reader.specs.declared.fault.CauseFault.{CauseFault}
use Rattle.fault_causes_reader.specs.declared.fault.CauseFault.TheVariants as f
use Rattle.fault_causes_reader.specs.FaultPaths.{paths_of}
use Rattle.fault_causes_reader.specs.BrokenRules.{rule_of, first_broken, are_owns_among, TellsFirst, taken_in}
use Rattle.fault_causes_reader.specs.CausesFile.{AreNamed, AreStrikes, FaultSays, IsReadIn, IsReading, IsRefusal}
use Rattle.fault_causes_reader.proofs.RuleLaws.{all_kept, is_broken, owns_same, owns_taken, read_as}

-- what is taken once all causes were read
abbrev all_taken : ProgramTree → List WrittenCause → List Text
all_taken w written = with_texts (taken_in w) (flat_map names_of_cause written)

strikes_read : (paths : List Path) (written : List WrittenCause) (cs : List CommonCause) → EachBoth (IsReadIn paths) written cs → EachBoth (AreStrikes paths) written cs
strikes_read paths [] [] h = tt
strikes_read paths (x ∷ xs) (c ∷ cs) h = (h.0.strikes, strikes_read paths xs cs h.1)
strikes_read paths [] (c ∷ cs) h = absurd h
strikes_read paths (x ∷ xs) [] h = absurd h

module _ (faults : List Fault) (w : ProgramTree) (bytes : List ℕ) (written : List WrittenCause) (spelled : BytesSpellCauses bytes written) where
  counted : (woven : List WovenFault) → AreNamed faults woven → length faults ≡ length (map fault_path woven)
  counted woven named = sym (length-map faults name_of_fault) ∙ ap length named

  pub is_reading : (causes : List CommonCause) → first_broken (paths_of faults) (taken_in w) [] written ≡ None → are_owns_among (all_taken w written) (length faults) ≡ false →
      EachBoth (IsReadIn (paths_of faults)) written causes → IsReading faults w bytes causes
  is_reading causes kept free read = record {
    of_each = λ woven named.
        let paths = subst (λ ps. first_broken ps (taken_in w) [] written ≡ None) named kept in
        let owns : are_owns_among (all_taken w written) (length (map fault_path woven)) ≡ false = ap (are_owns_among (all_taken w written)) (sym (counted woven named)) ∙ free in
        let read_in = subst (λ ps. EachBoth (IsReadIn ps) written causes) named read in
        record {
          written = written;
          spelled = spelled;
          lawful = record { kept = all_kept woven w written paths; free = sym (owns_same woven w written) ∙ owns };
          read_as = read_as woven w written causes read_in;
          strikes = strikes_read (map fault_path woven) written causes read_in;
        };
  }

  refused_by : (woven : List WovenFault) (fault : CauseFault) → TellsFirst fault (first_broken (map fault_path woven) (taken_in w) [] written) (are_owns_among (all_taken w written) (length (map fault_path woven))) →
      FaultSays woven w bytes fault
  refused_by woven (f.Parse fault) told = absurd told
  refused_by woven (f.Broken rule number) (inl told) = record { written = written; spelled = spelled; broken = inl (is_broken woven w written (rule_of rule) number told) }
  refused_by woven (f.Broken rule number) (inr told) = record { written = written; spelled = spelled; broken = inr (owns_taken woven w written (rule_of rule) number told.0 told.1) }
  refused_by woven f.OutOfMemory told = tt

  pub is_refusal : (fault : CauseFault) → TellsFirst fault (first_broken (paths_of faults) (taken_in w) [] written) (are_owns_among (all_taken w written) (length faults)) → IsRefusal faults w bytes fault
  is_refusal fault told = record {
    of_each = λ woven named.
        refused_by woven fault
        (subst (λ n. TellsFirst fault (first_broken (map fault_path woven) (taken_in w) [] written) (are_owns_among (all_taken w written) n)) (counted woven named)
        (subst (λ ps. TellsFirst fault (first_broken ps (taken_in w) [] written) (are_owns_among (all_taken w written) (length faults))) named told));
  }
