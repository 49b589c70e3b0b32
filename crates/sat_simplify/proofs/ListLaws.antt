-- A list of clauses and the base that it is entered into, and the list of what stands in a base.
use Rattle.std.proofs.Common.{◌≡◌, ⊎_elim, ℕ, Bool, true, List, [], map, nat_le, Some, None, All, Contains, ap, subst}
use Rattle.std.specs.Option.{option_to_list}
use Rattle.std.proofs.lemmas.Bool.{le-leb, leb-true}
use Rattle.std.proofs.lemmas.List.Elements.{All-contains, All-map}
use Rattle.sat_clauses.specs.Literal.{Literal}
use Rattle.sat_clauses.specs.Derivation.{IsUpTo}
use Rattle.sat_clauses.specs.Models.{TotalAssignment, clause_value, Satisfies}
use Rattle.sat_clauses.proofs.ModelLemmas.{Satisfies-from_All}
use Rattle.sat_clauses.proofs.ClauseLists.{member_true}
use Rattle.sat_simplify.specs.SamePlaces.{IsMet, AreMetAlike, HasNoHigherVariable}
use Rattle.sat_simplify.specs.Resolution.{each_once}
use Rattle.sat_simplify.specs.Elimination.{unless_tautology}
use Rattle.sat_simplify.specs.Slots.{Slot, standing, IsMade, Makes, IsOver, IsSlotOver, IsSimpler}
use Rattle.sat_simplify.specs.Changes.{entered}
use Rattle.sat_simplify.proofs.Members.{cons_cases, from_flat_map, in_flat_map, from_once}
use Rattle.sat_simplify.proofs.ClauseLaws.{true_once, once_true, unless_true, true_unless}
use Rattle.sat_simplify.proofs.SimplerLaws.{unless_is, in_map}
use Rattle.base_values.proofs.ListLaws.{all_from, none_contained, contains_here}

-- a list is true where all that is entered is
pub entered_made : (w : TotalAssignment) (list : List (List Literal)) → Satisfies w list → Makes w (map Some (entered list))
entered_made w list sat =
    All-map (IsMade w) Some (entered list) (all_from (λ c. IsMade w (Some c)) (entered list) (λ c has.
    let from = from_flat_map (λ c. unless_tautology (each_once c)) list c has in
    unless_true w (each_once from.0) (true_once w from.0 (member_true w list from.0 sat from.1)) c from.2))

pub made_entered : (w : TotalAssignment) (list : List (List Literal)) → Makes w (map Some (entered list)) → Satisfies w list
made_entered w list made =
    Satisfies-from_All w list (all_from (λ c. clause_value w c ≡ true) list (λ c has.
    once_true w c (true_unless w (each_once c) (λ r there. All-contains (IsMade w) (map Some (entered list)) (Some r) made (in_map Some (entered list) r (in_flat_map (λ c. unless_tautology (each_once c)) list c r has there))))))

-- the clauses of slots are those that stand
standing_is : (o : Slot) (c : List Literal) → Contains (option_to_list o) c → o ≡ Some c
standing_is None c has = absurd (none_contained c has)
standing_is (Some d) c has = ⊎_elim (λ e. ap Some e) (λ none. absurd (none_contained c none)) (cons_cases d [] c has)

pub standing_true : (w : TotalAssignment) (slots : List Slot) → Makes w slots → Satisfies w (standing slots)
standing_true w slots made =
    Satisfies-from_All w (standing slots) (all_from (λ c. clause_value w c ≡ true) (standing slots) (λ c has.
    let from = from_flat_map option_to_list slots c has in
    subst (IsMade w) (standing_is from.0 c from.2) (All-contains (IsMade w) slots from.0 made from.1)))

pub true_standing : (w : TotalAssignment) (slots : List Slot) → Satisfies w (standing slots) → Makes w slots
true_standing w slots sat = all_from (IsMade w) slots by_slot where
  by_slot : (o : Slot) → Contains slots o → IsMade w o
  by_slot None has = tt
  by_slot (Some c) has = member_true w (standing slots) c sat (in_flat_map option_to_list slots (Some c) c has (contains_here c []))

-- what a base becomes that a list was entered into says the same of the places, with no other variables
pub met_alike : (places : ℕ) (list : List (List Literal)) (slots : List Slot) → IsSimpler places (map Some (entered list)) slots → AreMetAlike places list (standing slots)
met_alike places list slots simpler v = (there, back) where
  there : IsMet places list v → IsMet places (standing slots) v
  there h = let met = simpler.stays v (record { values = h.values; agree = h.agree; all = entered_made h.values list h.all }) in record { values = met.values; agree = met.agree; all = standing_true met.values slots met.all }

  back : IsMet places (standing slots) v → IsMet places list v
  back h = let met = simpler.back v (record { values = h.values; agree = h.agree; all = true_standing h.values slots h.all }) in record { values = met.values; agree = met.agree; all = made_entered met.values list met.all }

pub no_higher_variable : (places : ℕ) (list : List (List Literal)) (slots : List Slot) → IsSimpler places (map Some (entered list)) slots → HasNoHigherVariable list (standing slots)
no_higher_variable places list slots simpler = record { at = λ top up. at top up } where
  at : (top : ℕ) → All (All (IsUpTo top)) list → All (All (IsUpTo top)) (standing slots)
  at top up =
      let test : ℕ → Bool = λ y. nat_le y top in
      let before : All (IsSlotOver test) (map Some (entered list)) = All-map (IsSlotOver test) Some (entered list) (all_from (λ c. IsSlotOver test (Some c)) (entered list) (λ c has.
      let from = from_flat_map (λ c. unless_tautology (each_once c)) list c has in
      subst (IsOver test) (unless_is (each_once from.0) c from.2) (all_from (λ l. test l.var ≡ true) (each_once from.0) (λ l there.
      le-leb l.var top (All-contains (IsUpTo top) from.0 l (All-contains (All (IsUpTo top)) list from.0 up from.1) (from_once from.0 l there)))))) in
      let after = simpler.over test before in
      all_from (All (IsUpTo top)) (standing slots) (λ c has.
      let slot = from_flat_map option_to_list slots c has in
      let over : IsOver test c = subst (IsSlotOver test) (standing_is slot.0 c slot.2) (All-contains (IsSlotOver test) slots slot.0 after slot.1) in
      all_from (IsUpTo top) c (λ l there. leb-true l.var top (All-contains (λ m. test m.var ≡ true) c l over there)))
