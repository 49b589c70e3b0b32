-- What the entries of a table mean.
use Rattle.std.proofs.Common.{◌≡◌, ℕ, zero, suc, ◌≤◌, Bool, true, false, ◌||◌, List, [], ◌∷◌, length, Some, refl, sym, subst, arith}
use Rattle.std.specs.Prelude.{slice_get, Contains, if◌then◌else◌}
use Rattle.std.specs.List.{list_any}
use Rattle.smv_language.specs.ProgramTree.{Formula, ProgramTree}
use Rattle.fault_instructions.specs.Instructions.{InstructionTree}
use Rattle.fault_weave.specs.Faults.{Fault}
use Rattle.fault_weave.specs.ExtensionTraces.{Moment, IsExtended, Reaches}
use Rattle.cut_right_laws.specs.Sets.{is_contained}
use Rattle.cut_right_laws.specs.Right.{Shows, HasFailedAll}
use Rattle.cert_laws.specs.ExtendedTraces.{IsRightExtended, HasFailedFault}
use Rattle.sat_encoding_laws.proofs.SetLaws.{either_of, has_contains, contains_has, contained_has, contained_from}
use Rattle.cut_report_laws.specs.ExtendedTraces.{Ending, complete, bounded, IsOfClass, Analysis}
use Rattle.cut_tables.specs.Tables.{yes, absent_entry}
use Rattle.cut_report_laws.specs.Tables.{Suffices, IsEntry, EntriesAreRight}
use Rattle.cut_search_laws.proofs.Chains.{no_place}
use Rattle.smv_language.proofs.BoolLaws.{or_cases}
use Rattle.smv_language.proofs.ListLaws.{contains_cases}
use Rattle.base_values.proofs.ListLaws.{none_contained}

record Within (row : List ℕ) (sets : List (List ℕ)) : Type 0 where
  place : ℕ
  set : List ℕ
  listed : slice_get sets place ≡ Some set
  within : is_contained set row ≡ true

-- where some set lies within the row, there is a place of one
where_within : (row : List ℕ) (sets : List (List ℕ)) → list_any (λ set. is_contained set row) sets ≡ true → Within row sets
where_within row [] h = cc
where_within row (s ∷ ss) h =
    either_of (λ e. record { place = 0; set = s; listed = refl; within = e }) (λ g. later (where_within row ss g)) (or_cases (is_contained s row) (list_any (λ set. is_contained set row) ss) h)
  where
    later : Within row ss → Within row (s ∷ ss)
    later w = record { place = suc w.place; set = w.set; listed = w.listed; within = w.within }

-- a longer list has something at each place of one that is as long
pub at_place : {A B : Type 0} (xs : List A) (ys : List B) (k : ℕ) (x : A) → slice_get xs k ≡ Some x → length ys ≡ length xs → (y : B) × (slice_get ys k ≡ Some y)
at_place [] ys k x e h = absurd (no_place k x e)
at_place (x' ∷ xs) [] k x e h = absurd (omega (arith, h))
at_place (x' ∷ xs) (y ∷ ys) zero x e h = (y, refl)
at_place (x' ∷ xs) (y ∷ ys) (suc k) x e h = at_place xs ys k x e (omega (arith, h))

-- where none lies within the row, a listed set does not
none_within : (row set : List ℕ) (sets : List (List ℕ)) → list_any (λ s. is_contained s row) sets ≡ false → Contains sets set → is_contained set row ≡ true → ⊥
none_within row set [] h m e = none_contained set m
none_within row set (s ∷ ss) h m e =
    either_of (λ same. first (is_contained s row) (list_any (λ t. is_contained t row) ss) h (subst (λ t. is_contained t row ≡ true) (sym same) e)) (λ more. none_within row set ss (rest (is_contained s row) (list_any (λ t. is_contained t row) ss) h) more e) (contains_cases set s ss m)
  where
    first : (a b : Bool) → (a || b) ≡ false → a ≡ true → ⊥
    first true b f g = cc
    first false b f g = cc

    rest : (a b : Bool) → (a || b) ≡ false → b ≡ false
    rest true b f = cc
    rest false b f = f

module _ (p : ProgramTree) (i : InstructionTree) (faults : List Fault) (top : Formula) (row : List ℕ) where
  -- the trace of a listed set within the row
  shown_suffices : (set : List ℕ) (trace : List Moment) → Shows (List Moment) (IsExtended p i) (Reaches p top) (HasFailedFault faults) trace set → is_contained set row ≡ true → Suffices p i faults top row trace
  shown_suffices set trace s e = record {
    is_one = s.is_one;
    reaching = s.reaching;
    inside = λ n f. has_contains row n (contained_has set row n e (contains_has set n ((s.exactly n).0 f)));
  }

  module _ (size : ℕ) (a : Analysis) (traces : List (List Moment)) (small : length row ≤ size) where
    some_suffices : IsRightExtended p i faults top size (IsOfClass p i a.ending) a.sets traces → Within row a.sets → (trace : List Moment) × Suffices p i faults top row trace
    some_suffices right w =
        let at : (trace : List Moment) × (slice_get traces w.place ≡ Some trace) = at_place a.sets traces w.place w.set w.listed right.one_each in
        (at.0, shown_suffices w.set at.0 (right.shown w.place w.set at.0 w.listed at.1) w.within)

  -- no trace of the class suffices where no listed set lies within the row
  none_suffices : (size : ℕ) (ending : Ending) (sets : List (List ℕ)) (traces : List (List Moment)) → IsRightExtended p i faults top size (IsOfClass p i ending) sets traces → length row ≤ size →
      list_any (λ set. is_contained set row) sets ≡ false → (trace : List Moment) → IsOfClass p i ending trace → Suffices p i faults top row trace → ⊥
  none_suffices size ending sets traces right small none trace c s =
      let covered : (set : List ℕ) × Contains sets set × HasFailedAll (List Moment) (IsExtended p i) (Reaches p top) (HasFailedFault faults) trace set = right.covered trace c s.reaching (row, small, s.inside) in
      none_within row covered.0 sets none covered.1 (contained_from covered.0 row (λ j h. contains_has row j (s.inside j (covered.2 j (has_contains covered.0 j h)))))

  absent_is_right : (size : ℕ) (ending : Ending) (sets : List (List ℕ)) (traces : List (List Moment)) → IsRightExtended p i faults top size (IsOfClass p i ending) sets traces → length row ≤ size →
      list_any (λ set. is_contained set row) sets ≡ false → IsEntry p i faults top ending row (absent_entry ending)
  absent_is_right size complete sets traces right small none = (refl, λ trace s. none_suffices size complete sets traces right small none trace s.is_one s)
  absent_is_right size (bounded k) sets traces right small none = (k, refl, none_suffices size (bounded k) sets traces right small none)

pub entries_are_right : EntriesAreRight
entries_are_right p i faults top size a traces row right small = by_test (list_any (λ set. is_contained set row) a.sets) refl
  where
    by_test : (b : Bool) → list_any (λ set. is_contained set row) a.sets ≡ b → IsEntry p i faults top a.ending row (if b then yes else absent_entry a.ending)
    by_test true e = some_suffices p i faults top row size a traces small right (where_within row a.sets e)
    by_test false e = absent_is_right p i faults top row size a.ending a.sets traces right small e
