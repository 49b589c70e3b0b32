-- Numbers of a set that are those of faults, and what a pair of them is refused for.
use Rattle.std.proofs.Common.{◌≡◌, ℕ, zero, suc, ◌+◌, ◌<◌, ◌≤◌, IsTrue, List, [], ◌∷◌, ◌++◌, take, drop, length, get_or, Option, Some, None, IfSome, refl, sym, ap, subst, ◌∙◌, arith}
use Rattle.std.proofs.lemmas.List.{take_more, length-map, length-take-le}
use Rattle.base_files.specs.declared.files.NamedFile.{NamedFile}
use Rattle.smv_language.specs.Language.{Text, ProgramTree, model_tree, FlatModel}
use Rattle.smv_language.specs.declared.model.FlatModel.{FlatModel as Model}
use Rattle.smv_flat_laws.specs.FaultModes.{mode_of}
use Rattle.cut_right_laws.specs.Sets.{has_number}
use Rattle.sat_encoding_laws.specs.FlatTraces.{IsNumbered}
use Rattle.sat_encoding_laws.proofs.Numbers.{each_has}
use Rattle.smv_type_laws.specs.Models.{IsTyped}
use Rattle.fault_extend.specs.WovenFaults.{fault_tree}
use Rattle.fault_cause_laws.specs.KindLaws.{AreOfKinds}
use Rattle.fault_orders.specs.Stage.{stage}
use Rattle.fault_orders.specs.KindLaws.{AreFaultNumbers}
use Rattle.fault_orders.proofs.StageKinds.{stage_size_alone}
use Rattle.cut_reach_laws.specs.Laws.{IsFaultNumber}
use Rattle.verb_loading.specs.declared.status.Refusal.{Refusal}
use Rattle.verb_loading.specs.declared.status.Refusal.TheVariants as refusal
use Rattle.verb_loading.specs.declared.status.InputFault.{InputFault}
use Rattle.verb_loading.specs.declared.input.Input.TheVariants as input
use Rattle.verb_loading.specs.declared.wrong.Wrong.{Wrong}
use Rattle.verb_loading.specs.declared.wrong.Wrong.TheVariants as wrongs
use Rattle.verb_loading.specs.declared.loaded.LoadedCase.{LoadedCase}
use Rattle.verb_loading.specs.Inputs.{stop_at, RefusesModel, HoldsModel, RefusesFaults}
use Rattle.verb_loading.specs.Wrongs.{IfRefused}
use Rattle.verb_loading.specs.Wholes.{BreaksKinds}
use Rattle.verb_loading.specs.Cases.{Case, HoldsCase, IsWrongWord}
use Rattle.verb_loading.specs.LoadedCases.{case_of, IsLoaded}
use Rattle.verb_loading.proofs.LoadedLaws.{same_counts}
use Rattle.cut_model_search.proofs.CaseKinds.{case_kinds, size_told}
use Rattle.verb_loading.specs.declared.input.Stop.{Stop}
use Rattle.verb_loading.specs.declared.input.Stop.TheVariants as stops
use Rattle.verb_orders.specs.Pairs.{IsFirstOutside, stage_refusal, RefusesStage, outside, unlawful, RefusesPair, at_model, at_faults, at_set, at_stage, at_top}
use Rattle.smv_flat_laws.proofs.Conditions.{each_join}

-- a number of the set is that of a fault where all are
pub number_of_fault : (n : ℕ) (set : List ℕ) (i : ℕ) → IsNumbered n set → IsTrue (has_number set i) → IsFaultNumber n i
number_of_fault n set i h has =
    let both : (1 ≤ i) × (i ≤ n) = each_has (λ j. (1 ≤ j) × (j ≤ n)) set i h has in record { counts = both.0; within = both.1 }

-- one number more
pub one_numbered : (n : ℕ) (set : List ℕ) (k : ℕ) → k < length set → IsFaultNumber n (get_or set k 0) → IsNumbered n (take k set) → IsNumbered n (take (k + 1) set)
one_numbered n set k within is h =
    let P : ℕ → Type 0 = λ j. (1 ≤ j) × (j ≤ n) in
    subst (IsNumbered n) (sym (take_more set k 0 within)) (each_join P (take k set) (get_or set k 0 ∷ []) h ((is.counts, is.within), tt))

-- a list around a place
around : (set : List ℕ) (k : ℕ) → k < length set → set ≡ take k set ++ get_or set k 0 ∷ drop (suc k) set
around [] k within = absurd (omega (arith, within))
around (x ∷ set) zero within = refl
around (x ∷ set) (suc k) within = ap (λ xs. x ∷ xs) (around set k (omega (arith, within)))

-- the first number that is none of a fault
pub first_outside : (n : ℕ) (set : List ℕ) (k position : ℕ) → k < length set → position ≡ k + 1 → IsNumbered n (take k set) → (IsFaultNumber n (get_or set k 0) → ⊥) → IsFirstOutside n set position
first_outside n set k position within at kept out =
    let long : length (take k set) ≡ k = length-take-le k set (omega (arith, within)) in
    record { before = take k set; number = get_or set k 0; after = drop (suc k) set; lie = around set k within; kept = kept; outside = out; at_position = omega (arith, at, long) }

-- a stop is at one refusal
pub one_stop : (a r : Refusal) (s : Stop) → s ≡ stops.Refused a → s ≡ stops.Refused r → r ≡ a
one_stop a r s is e = let both : stops.Refused a ≡ stops.Refused r = sym is ∙ e in sym (same a r both)
  where
    same : (a r : Refusal) → stops.Refused a ≡ stops.Refused r → a ≡ r
    same a r e = cc

-- which refusal a staged model that is wrong gives
pub stage_refused : (P : InputFault → Type 0) (w : Wrong) (r : Refusal) → stop_at input.Faults w ≡ stops.Refused r → IfRefused P w → (fault : InputFault) × (r ≡ stage_refusal fault) × P fault
stage_refused P (wrongs.Refused fault) r e bad = let same : stage_refusal fault ≡ r = cc in (fault, sym same, bad)
stage_refused P wrongs.Memory r e bad = cc

pub stage_no_desk : (w : Wrong) → stop_at input.Faults w ≡ stops.Desk → ⊥
stage_no_desk (wrongs.Refused fault) e = cc
stage_no_desk wrongs.Memory e = cc

-- what is wrong with a model that was made is wrong with what it is
pub stage_wrong : (made : Model) (w : Wrong) (m : FlatModel) → model_tree made ≡ m → IfRefused (BreaksKinds (model_tree made)) w → IfRefused (BreaksKinds m) w
stage_wrong made w m is h = subst (λ x. IfRefused (BreaksKinds x) w) is h

-- the faults of a case are as many as its modes
pub count_of_faults : (p : ProgramTree) (l : LoadedCase) → IsLoaded p l → length (case_of p l).faults ≡ length l.limited.faults
count_of_faults p l loaded = length-map l.limited.woven.faults fault_tree ∙ same_counts l.limited.typed.model l.limited.woven.faults l.limited.faults loaded.numbered

module _ (model faults top : Text) (set : List ℕ) (first second : ℕ) where
  abbrev Refuses : List NamedFile → Refusal → Type 0
  Refuses files r = RefusesPair files model faults top set first second r

  pub pair_no_model : (told : Option (List NamedFile)) (r : Refusal) → IfSome told (λ files. RefusesModel files model r) → IfSome told (λ files. Refuses files r)
  pair_no_model None r bad = tt
  pair_no_model (Some files) r bad = at_model bad

  pub pair_no_faults : (told mid : Option (List NamedFile)) (p : ProgramTree) (r : Refusal) → mid ≡ told → IfSome told (λ files. HoldsModel files model p) →
      IfSome mid (λ files. RefusesFaults files faults p r) → IfSome told (λ files. Refuses files r)
  pair_no_faults told mid p r same holds bad = at_told told holds (subst (λ t. IfSome t (λ files. RefusesFaults files faults p r)) same bad) where
    at_told : (t : Option (List NamedFile)) → IfSome t (λ files. HoldsModel files model p) → IfSome t (λ files. RefusesFaults files faults p r) → IfSome t (λ files. Refuses files r)
    at_told None holds bad = tt
    at_told (Some files) holds bad = at_faults p holds bad

  pub pair_no_stage : (told : Option (List NamedFile)) (p : ProgramTree) (l : LoadedCase) (r : Refusal) → IsLoaded p l → IfSome told (λ files. HoldsCase files model faults (case_of p l)) →
      RefusesStage l.limited set first second r → IfSome told (λ files. Refuses files r)
  pair_no_stage None p l r loaded holds bad = tt
  pair_no_stage (Some files) p l r loaded holds bad = by bad where
    same : length l.limited.faults ≡ length (case_of p l).faults
    same = sym (count_of_faults p l loaded)

    by : RefusesStage l.limited set first second r → Refuses files r
    by (outside position e is) = at_set (case_of p l) position e holds (subst (λ n. IsFirstOutside n set position) same is)
    by (unlawful fault e numbered one other breaks) =
        let c : Case = case_of p l in
        let h = case_kinds c holds.program.flat holds.program.lawful holds.is_case in
        let are : AreOfKinds c.flat c.modes = record { closed = h.closed; no_breach = h.no_breach; modes = h.modes; symbols = h.symbols } in
        let many = length-map l.limited.faults mode_of in
        let a = one.counts in
        let b = one.within in
        let d = other.counts in
        let f = other.within in
        let numbers : AreFaultNumbers (length c.modes) first second =
        record { first_counts = omega (arith, a); first_within = omega (arith, b, many); second_counts = omega (arith, d); second_within = omega (arith, f, many) } in
        let told = size_told (stage c.flat c.modes first second) fault breaks (λ rule item. stage_size_alone c.flat c.modes first second are numbers rule item) in
        at_stage c (e ∙ ap stage_refusal told.1) holds (subst (λ n. IsNumbered n set) same numbered) told.0

  pub pair_no_top : (told : Option (List NamedFile)) (p : ProgramTree) (l : LoadedCase) (r : Refusal) → IsLoaded p l →
      IfSome told (λ files. HoldsCase files model faults (case_of p l)) → IsNumbered (length l.limited.faults) set → IsTyped (stage (case_of p l).flat (case_of p l).modes first second) →
      (fault : InputFault) × (r ≡ refusal.Top fault) × IsWrongWord p top fault → IfSome told (λ files. Refuses files r)
  pair_no_top None p l r loaded holds numbered typed wrong = tt
  pair_no_top (Some files) p l r loaded holds numbered typed wrong =
      at_top (case_of p l) wrong.0 wrong.1 holds (subst (λ n. IsNumbered n set) (sym (count_of_faults p l loaded)) numbered) typed wrong.2
