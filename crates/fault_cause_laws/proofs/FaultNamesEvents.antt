-- No two events have one name: those of faults have two parts at least, and those of causes one.
use Rattle.std.proofs.Common.{◌≡◌, ◌≢◌, Bool, true, false, List, [], ◌∷◌, ◌++◌, map, reverse, Option, Some, None, refl, sym, ◌∙◌, ap, subst}
use Rattle.std.specs.Prelude.{if◌then◌else◌}
use Rattle.smv_language.specs.ProgramTree.{Text, Path, ProgramTree}
use Rattle.smv_flat_laws.proofs.Lists.{each_map}
use Rattle.fault_weave.specs.Faults.{Fault}
use Rattle.fault_cause_laws.specs.Causes.{CommonCause}
use Rattle.fault_cause_laws.specs.CausesText.{WrittenCause}
use Rattle.fault_cause_laws.specs.CauseRules.{fault_path, CauseRule, no_such_fault, double_cause, AllKept, AreReadAs}
use Rattle.fault_cause_laws.specs.FaultNamesLaws.{EventNamesDiffer}
use Rattle.fault_cause_laws.proofs.Differ.{Differ, each_all, pairs_map, one_place}
use Rattle.fault_cause_laws.proofs.NewNames.{AreNew, new_differ}
use Rattle.fault_cause_laws.proofs.Names.{turned, paths_differ}
use Rattle.smv_flat_laws.proofs.Pairs.{Pairwise, pairs_join, across_kinds}

abbrev written_name : WrittenCause → Text
written_name c = c.name

abbrev cause_name : CommonCause → Text
cause_name c = c.name

abbrev told : Text → Path
told x = x ∷ []

-- neither of two rules is broken
second_kept : (a b : Bool) (rest : Option CauseRule) → (if a then Some no_such_fault else if b then Some double_cause else rest) ≡ None → b ≡ false
second_kept true b rest h = cc
second_kept false true rest h = cc
second_kept false false rest h = refl

module _ (faults : List Fault) (w : ProgramTree) where
  names_new : (before written : List WrittenCause) → AllKept faults w before written → AreNew written_name before written
  names_new before [] h = tt
  names_new before (c ∷ written) h = (second_kept _ _ _ h.0, names_new (before ++ c ∷ []) written h.1)

  same_names : (written : List WrittenCause) (cs : List CommonCause) → AreReadAs faults w written cs → map written_name written ≡ map cause_name cs
  same_names [] [] h = refl
  same_names [] (a ∷ cs) h = absurd h
  same_names (c ∷ written) [] h = absurd h
  same_names (c ∷ written) (a ∷ cs) h =
      let first : c.name ≡ a.name = sym h.0.name in
      let rest : map written_name written ≡ map cause_name cs = same_names written cs h.1 in
      (λ n. first n ∷ rest n)

  causes_differ : (written : List WrittenCause) (cs : List CommonCause) → AllKept faults w [] written → AreReadAs faults w written cs → Differ (map cause_name cs)
  causes_differ written cs kept read =
      let differ : Pairwise (λ (c d : WrittenCause). c.name ≢ d.name) written = (new_differ written_name [] written (names_new [] written kept)).0 in
      subst (λ names. Differ names) (same_names written cs read) (pairs_map (λ (c d : WrittenCause). c.name ≢ d.name) (λ x y. x ≢ y) written_name (λ c d n. n) written differ)

told_differ : (names : List Text) → Differ names → Differ (map told names)
told_differ names h = pairs_map (λ x y. x ≢ y) (λ x y. x ≢ y) told (λ x y n e. n (one_part x y e)) names h
  where
    one_part : (x y : Text) → told x ≡ told y → x ≡ y
    one_part x y e = cc

told_causes : (cs : List CommonCause) → map told (map cause_name cs) ≡ map (λ (c : CommonCause). c.name ∷ []) cs
told_causes [] = refl
told_causes (c ∷ cs) = ap (λ names. told c.name ∷ names) (told_causes cs)

-- a fault's name, or one of one part
abbrev IsFaultName : Path → Type 0
IsFaultName x = (f : Fault) × (fault_path f ≡ x)

abbrev IsToldName : Path → Type 0
IsToldName x = (name : Text) × (told name ≡ x)

two_kinds : (x y : Path) → IsFaultName x → IsToldName y → x ≢ y
two_kinds x y (f, e) (name, q) same = too_short f.mode f.slice f.place name (sym (turned f) ∙ ap reverse (e ∙ same ∙ sym q))
  where
    too_short : (a b : Text) (at : List Text) (c : Text) → a ∷ b ∷ at ≡ c ∷ [] → ⊥
    too_short a b at c e = cc

pub event_names_differ : EventNamesDiffer
event_names_differ p i faults are w written cs lawful read =
    let names : List Path = map (λ (c : CommonCause). c.name ∷ []) cs in
    one_place (map fault_path faults ++ names)
    (pairs_join (λ x y. x ≢ y) (map fault_path faults) names (paths_differ p i faults are)
    (subst (λ xs. Differ xs) (told_causes cs) (told_differ (map cause_name cs) (causes_differ faults w written cs lawful.kept read))) (across_kinds IsFaultName IsToldName (λ x y. x ≢ y) two_kinds (map fault_path faults) names
    (each_map IsFaultName fault_path faults (each_all (λ f. IsFaultName (fault_path f)) faults (λ f. (f, refl))))
    (each_map IsToldName (λ (c : CommonCause). c.name ∷ []) cs (each_all (λ (c : CommonCause). IsToldName (c.name ∷ [])) cs (λ c. (c.name, refl))))))
