-- The branches of a case, in two passes: the conditions and values in written order, and then the choices.
use Rattle.std.specs.Prelude.{◌≡◌, ℕ, ◌≤◌, ◌+◌, Bool, false, Option, Some, None, List, [], ◌∷◌, ◌++◌, length}
use Rattle.smv_language.specs.Language.{Each, Branches, no_branch, branch_then, FlatLeaf, FlatModel}
use Rattle.smv_type_laws.specs.ExpressionKinds.{Kind, judge_conditions, judge_values, broken_in, kinds_in}
use Rattle.smv_type_laws.specs.Models.{kind_of_leaf}
use Rattle.smv_types.specs.Answers.{told_sort}
use Rattle.smv_types.specs.declared.sort.Sort.{Sort}
use Rattle.sat_clauses.specs.Literal.{Literal}
use Rattle.sat_circuits.specs.Circuit.{Circuit, after}
use Rattle.sat_circuits.specs.Meaning.{AllBelow}
use Rattle.sat_encoding_laws.specs.Signals.{Signal, literal_in}
use Rattle.sat_encoding_laws.specs.Expressions.{Asked, its_value, whether_has, Names as TheNames, encoded}
use Rattle.sat_encoding_laws.specs.Meanings.{IsSignal}
use Rattle.sat_expressions.specs.BuiltSignals.{signal_of, signals_of}
use Rattle.sat_expressions.specs.Choices.{chosen_gates}
use Rattle.sat_expressions.specs.ModelNames.{model_of, names_in}
use Rattle.sat_expressions.specs.Sorts.{sort_width, joined_sort}
use Rattle.sat_expressions.specs.Parts.{truth_sort, IsBit}
use Rattle.sat_expressions.specs.declared.names.NamedSignals.{NamedSignals}
use Rattle.sat_expressions.specs.declared.branches.BranchSignals.{BranchSignals}
use Rattle.sat_expressions.specs.declared.part.ExpressionSignal.{ExpressionSignal}

-- the conditions, but the last, and the values of all branches
unfoldable pub listed_gates : {L : Type 0} → TheNames L → Asked → Branches L → Circuit → Circuit × (List Literal × List Signal)
listed_gates c m no_branch s = (s, ([], []))
listed_gates c m (branch_then d a no_branch) s = after (encoded c m a s) (λ e t. (t, ([], e ∷ [])))
listed_gates c m (branch_then d a (branch_then d' a' bs)) s =
    after (encoded c its_value d s) (λ p t.
    after (encoded c m a t) (λ e u.
    after (listed_gates c m (branch_then d' a' bs) u) (λ r w. (w, (literal_in p ∷ r.0, e ∷ r.1)))))

-- what is known of values so far and one more
abbrev pub widened_sort : Option Sort → Sort → Sort
widened_sort None s = s
widened_sort (Some a) s = joined_sort a s

-- and all of these
abbrev pub spread_sort : Option Sort → List Kind → Option Sort
spread_sort a [] = a
spread_sort a (k ∷ ks) = spread_sort (Some (widened_sort a (told_sort k))) ks

-- what is known of some values; of none, what is known of truth values
abbrev pub parts_sort : Option Sort → Sort
parts_sort None = truth_sort
parts_sort (Some s) = s

-- no branch breaks a rule by itself
abbrev pub AreRightBranches : FlatModel → Asked → Branches FlatLeaf → Type 0
AreRightBranches m its_value bs = (broken_in (judge_conditions (kind_of_leaf m) bs) ≡ [])
    × (broken_in (judge_values (kind_of_leaf m) false bs) ≡ [])
AreRightBranches m (whether_has v) bs = (sets : Bool) × (broken_in (judge_conditions (kind_of_leaf m) bs) ≡ [])
    × (broken_in (judge_values (kind_of_leaf m) sets bs) ≡ [])

-- the values are told with what is known of all, and whether there are by literals
abbrev pub AreTold : FlatModel → Asked → Branches FlatLeaf → BranchSignals → Type 0
AreTold m its_value bs parts = parts.sort ≡ spread_sort None (kinds_in (judge_values (kind_of_leaf m) false bs))
AreTold m (whether_has v) bs parts = Each IsBit (signals_of parts.values)

-- what was built of the branches onto s, which is then t
pub record BuildsBranches (n : NamedSignals) (asked : Asked) (bs : Branches FlatLeaf) (s t : Circuit) (parts : BranchSignals) : Type 0 where
  pub conditions : AllBelow t.free parts.conditions
  pub values : Each (IsSignal t) (signals_of parts.values)
  pub grows : s.free ≤ t.free
  pub right : AreRightBranches (model_of n) asked bs →
      (listed_gates (names_in n) asked bs s ≡ (t, (parts.conditions, signals_of parts.values))) × AreTold (model_of n) asked bs parts

-- what was built of some branches, with that of those after them
abbrev pub with_parts : BranchSignals → Circuit × (List Literal × List Signal) → Circuit × (List Literal × List Signal)
with_parts parts r = (r.0, (parts.conditions ++ r.1.0, signals_of parts.values ++ r.1.1))

-- the values so far are told so that those of the rest make what is known of all
abbrev pub AreToldSoFar : FlatModel → Asked → Branches FlatLeaf → Branches FlatLeaf → BranchSignals → Type 0
AreToldSoFar m its_value bs rest parts =
    spread_sort parts.sort (kinds_in (judge_values (kind_of_leaf m) false rest))
    ≡ spread_sort None (kinds_in (judge_values (kind_of_leaf m) false bs))
AreToldSoFar m (whether_has v) bs rest parts = Each IsBit (signals_of parts.values)

-- what is left of the branches is built onto what was built of those before
pub record BuildsFirst (n : NamedSignals) (asked : Asked) (bs rest : Branches FlatLeaf) (s t : Circuit) (parts : BranchSignals) : Type 0
  where
    pub conditions : AllBelow t.free parts.conditions
    pub values : Each (IsSignal t) (signals_of parts.values)
    pub grows : s.free ≤ t.free
    pub right : AreRightBranches (model_of n) asked bs
        → (listed_gates (names_in n) asked bs s ≡ with_parts parts (listed_gates (names_in n) asked rest t))
        × AreRightBranches (model_of n) asked rest × AreToldSoFar (model_of n) asked bs rest parts

-- what was built onto s of the choices between the values, which is then t: where there is one value more than conditions
pub record BuildsFirstOf (symbols : ℕ) (parts : BranchSignals) (s t : Circuit) (p : ExpressionSignal) : Type 0 where
  pub usable : IsSignal t (signal_of p.signal)
  pub grows : s.free ≤ t.free
  pub right : length parts.values ≡ length parts.conditions + 1
      → (chosen_gates (sort_width symbols (parts_sort parts.sort)) parts.conditions (signals_of parts.values) s ≡ (t, signal_of p.signal))
      × (p.sort ≡ parts_sort parts.sort)
