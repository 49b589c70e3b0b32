-- The branches of a case, one after another, and then the choices.
use Rattle.std.proofs.Common.{◌≡◌, ℕ, suc, ◌+◌, Bool, false, not, ◌&&◌, Option, Some, None, List, [], ◌∷◌, ◌++◌, length, refl, sym, ◌∙◌, ap, subst, arith}
use Rattle.std.specs.Prelude.{flat_map}
use Rattle.std.proofs.lemmas.List.{length-map}
use Rattle.smv_language.specs.Language.{Each, Branches, no_branch, branch_then, case_of, FlatLeaf}
use Rattle.smv_type_laws.specs.ExpressionKinds.{Kind, KindRule, truth_class, not_boolean, mismatch, set_here, case_end, rule_if, unless_class, unlike_first, first_class, hull_of, hull_from, joined, some_set, broken_in, kinds_in, judge_conditions, judge_values, ends_in_true}
use Rattle.smv_type_laws.specs.Models.{judged_in, kind_of_leaf}
use Rattle.smv_type_laws.proofs.Parts.{none_first, none_second}
use Rattle.sat_clauses.specs.Literal.{Literal}
use Rattle.sat_circuits.specs.Circuit.{Circuit, after}
use Rattle.sat_encoding_laws.specs.Widths.{symbol_width}
use Rattle.sat_encoding_laws.specs.Signals.{Signal, bit, word, literal_in, choice_gates}
use Rattle.sat_encoding_laws.specs.Expressions.{Asked as TheAsked, its_value, whether_has, Names as TheNames, encoded, encoded_branches}
use Rattle.sat_encoding_laws.proofs.Answering.{kept_interval}
use Rattle.smv_types.specs.Answers.{told_class, told_sort}
use Rattle.smv_types.specs.declared.sort.Sort.{Sort}
use Rattle.sat_expressions.specs.BuiltSignals.{signal_of, signals_of}
use Rattle.sat_expressions.specs.Choices.{chosen_gates}
use Rattle.sat_expressions.specs.Sorts.{sort_width}
use Rattle.sat_expressions.specs.ModelNames.{model_of, names_in}
use Rattle.sat_expressions.specs.Parts.{IsBit, IsRight, IsTold, BuildsPart}
use Rattle.sat_expressions.specs.Branches.{listed_gates, spread_sort, parts_sort, AreRightBranches, AreTold, BuildsBranches, BuildsFirstOf}
use Rattle.sat_expressions.specs.declared.names.NamedSignals.{NamedSignals}
use Rattle.sat_expressions.specs.declared.branches.BranchSignals.{BranchSignals}
use Rattle.sat_expressions.specs.declared.part.ExpressionSignal.{ExpressionSignal}
use Rattle.sat_expressions.proofs.Nodes.{kind_told, bits_chosen, bit_chosen}

-- the conditions and the values first, and then the choices
pub branches_listed : {L : Type 0} (c : TheNames L) (m : TheAsked) (n : ℕ) (bs : Branches L) (s : Circuit) → encoded_branches c m n bs s ≡ after (listed_gates c m bs s) (λ r t. chosen_gates n r.0 r.1 t)
unfolding encoded_branches listed_gates chosen_gates after
branches_listed c m n no_branch s = refl
branches_listed c m n (branch_then d a no_branch) s = refl
branches_listed c m n (branch_then d a (branch_then d' a' bs)) s =
    ap (λ (r : Circuit × Signal). choice_gates n (literal_in (encoded c its_value d s).1) (encoded c m a (encoded c its_value d s).0).1 r.1 r.0)
    (branches_listed c m n (branch_then d' a' bs) (encoded c m a (encoded c its_value d s).0).0)

-- there is one value more than conditions
abbrev pub HasBranch : {L : Type 0} → Branches L → Type 0
HasBranch no_branch = ⊥
HasBranch (branch_then d a bs) = Unit {0}

listed_long : {L : Type 0} (c : TheNames L) (m : TheAsked) (bs : Branches L) (s : Circuit) → HasBranch bs → length (listed_gates c m bs s).1.1 ≡ suc (length (listed_gates c m bs s).1.0)
unfolding listed_gates after
listed_long c m no_branch s h = absurd h
listed_long c m (branch_then d a no_branch) s h = refl
listed_long c m (branch_then d a (branch_then d' a' bs)) s h = ap suc (listed_long c m (branch_then d' a' bs) (encoded c m a (encoded c its_value d s).0).0 tt)

-- what is known of all values is what the table of kinds says
spread_told : (k : Kind) (ks : List Kind) → spread_sort (Some (told_sort k)) ks ≡ Some (told_sort (record { class = k.class; interval = hull_from k.interval ks }))
spread_told k [] = refl
spread_told k (j ∷ ks) = spread_told (record { class = k.class; interval = joined k.interval j.interval }) ks

spread_all : (ks : List Kind) → parts_sort (spread_sort None ks) ≡ told_sort (record { class = first_class ks; interval = hull_of ks })
spread_all [] = refl
spread_all (k ∷ ks) = ap parts_sort (spread_told k ks)

-- the width does not matter to truth values
bit_listed : (n : NamedSignals) (k : ℕ) (ps : List Literal) (es : List Signal) (s : Circuit) → Each IsBit es → IsBit (chosen_gates k ps es s).1
unfolding chosen_gates after
bit_listed n k [] [] s all = tt
bit_listed n k [] (bit a ∷ es) s all = tt
bit_listed n k [] (word a ∷ es) s all = absurd all.0
bit_listed n k (p ∷ ps) [] s all = tt
bit_listed n k (p ∷ ps) (e ∷ es) s all = bit_chosen n k p e (chosen_gates k ps es s).1 (chosen_gates k ps es s).0 all.0 (bit_listed n k ps es s all.1)

bits_listed : (n : NamedSignals) (j k : ℕ) (ps : List Literal) (es : List Signal) (s : Circuit) → Each IsBit es → chosen_gates j ps es s ≡ chosen_gates k ps es s
unfolding chosen_gates after
bits_listed n j k [] [] s all = refl
bits_listed n j k [] (bit a ∷ es) s all = refl
bits_listed n j k [] (word a ∷ es) s all = absurd all.0
bits_listed n j k (p ∷ ps) [] s all = refl
bits_listed n j k (p ∷ ps) (e ∷ es) s all =
    ap (λ (r : Circuit × Signal). choice_gates j p e r.1 r.0) (bits_listed n j k ps es s all.1)
    ∙ bits_chosen n j k p e (chosen_gates k ps es s).1 (chosen_gates k ps es s).0 all.0 (bit_listed n k ps es s all.1)

module _ (n : NamedSignals) where
  -- the rules that a case breaks itself
  abbrev own_rules : Bool → Branches FlatLeaf → List KindRule
  own_rules sets bs =
      (flat_map (unless_class truth_class not_boolean) (kinds_in (judge_conditions (kind_of_leaf (model_of n)) bs))
      ++ (unlike_first mismatch (kinds_in (judge_values (kind_of_leaf (model_of n)) sets bs)) ++ rule_if (not (ends_in_true bs)) case_end))
      ++ rule_if (some_set (judge_values (kind_of_leaf (model_of n)) sets bs) && not sets) set_here

  branches_right : (asked : TheAsked) (bs : Branches FlatLeaf) → IsRight (model_of n) asked (case_of bs) → AreRightBranches (model_of n) asked bs
  branches_right its_value bs h =
      let cs : List KindRule = broken_in (judge_conditions (kind_of_leaf (model_of n)) bs) in
      let vs : List KindRule = broken_in (judge_values (kind_of_leaf (model_of n)) false bs) in
      let parts : cs ++ vs ≡ [] = none_second (own_rules false bs) (cs ++ vs) h in (none_first cs vs parts, none_second cs vs parts)
  branches_right (whether_has v) bs h =
      let cs : List KindRule = broken_in (judge_conditions (kind_of_leaf (model_of n)) bs) in
      let vs : List KindRule = broken_in (judge_values (kind_of_leaf (model_of n)) h.0 bs) in
      let parts : cs ++ vs ≡ [] = none_second (own_rules h.0 bs) (cs ++ vs) h.1 in (h.0, none_first cs vs parts, none_second cs vs parts)

  -- a case without branches breaks a rule
  no_case : (asked : TheAsked) → IsRight (model_of n) asked (case_of no_branch) → ⊥
  no_case its_value h = let e : case_end ∷ [] ≡ [] = h in cc
  no_case (whether_has v) h = let e : case_end ∷ [] ≡ [] = h.1 in cc

  -- a case without a set keeps what is known of all its values
  case_sort : (bs : Branches FlatLeaf) → IsRight (model_of n) its_value (case_of bs) → (a : Option Sort) → a ≡ spread_sort None (kinds_in (judge_values (kind_of_leaf (model_of n)) false bs))
      → parts_sort a ≡ told_sort (judged_in (model_of n) false (case_of bs)).kind
  case_sort bs h a e =
      let ks : List Kind = kinds_in (judge_values (kind_of_leaf (model_of n)) false bs) in
      ap parts_sort e ∙ spread_all ks
      ∙ ap (λ i. record { class = told_class (first_class ks); interval = i })
      (sym (kept_interval (own_rules false bs) (hull_of ks) (none_first (own_rules false bs) _ h)))

  case_width : n.symbols ≡ symbol_width (model_of n).symbols → (asked : TheAsked) (bs : Branches FlatLeaf) (parts : BranchSignals) (s : Circuit) → IsRight (model_of n) asked (case_of bs) → AreTold (model_of n) asked bs parts
      → chosen_gates ((names_in n).width (case_of bs)) parts.conditions (signals_of parts.values) s ≡ chosen_gates (sort_width n.symbols (parts_sort parts.sort)) parts.conditions (signals_of parts.values) s
  case_width known its_value bs parts s h told =
      ap (λ k. chosen_gates k parts.conditions (signals_of parts.values) s)
      (sym (kind_told (model_of n).symbols n.symbols (judged_in (model_of n) false (case_of bs)).kind (parts_sort parts.sort) known (case_sort bs h parts.sort told)))
  case_width known (whether_has v) bs parts s h told = bits_listed n _ _ parts.conditions (signals_of parts.values) s told

  case_told : (asked : TheAsked) (bs : Branches FlatLeaf) (parts : BranchSignals) (p : ExpressionSignal) (s t : Circuit) (k : ℕ) → IsRight (model_of n) asked (case_of bs) → AreTold (model_of n) asked bs parts
      → chosen_gates k parts.conditions (signals_of parts.values) s ≡ (t, signal_of p.signal) → p.sort ≡ parts_sort parts.sort → IsTold (model_of n) asked (case_of bs) p
  case_told its_value bs parts p s t k h told e f = f ∙ case_sort bs h parts.sort told
  case_told (whether_has v) bs parts p s t k h told e f = subst (λ (r : Circuit × Signal). IsBit r.1) e (bit_listed n k parts.conditions (signals_of parts.values) s told)

  -- a case that breaks no rule has one value more than conditions
  case_long : (asked : TheAsked) (bs : Branches FlatLeaf) (s t : Circuit) (parts : BranchSignals) → IsRight (model_of n) asked (case_of bs) → listed_gates (names_in n) asked bs s ≡ (t, (parts.conditions, signals_of parts.values))
      → length parts.values ≡ length parts.conditions + 1
  case_long asked no_branch s t parts is e = absurd (no_case asked is)
  case_long asked (branch_then d a bs) s t parts is e =
      let long : length (signals_of parts.values) ≡ suc (length parts.conditions) =
      subst (λ (r : Circuit × (List Literal × List Signal)). length r.1.1 ≡ suc (length r.1.0)) e (listed_long (names_in n) asked (branch_then d a bs) s tt)
      in
      omega (arith, long, length-map parts.values signal_of)

  pub case_built : n.symbols ≡ symbol_width (model_of n).symbols → (asked : TheAsked) (bs : Branches FlatLeaf) (s t u : Circuit) (parts : BranchSignals) (p : ExpressionSignal) → BuildsBranches n asked bs s t parts
      → BuildsFirstOf n.symbols parts t u p → BuildsPart n asked (case_of bs) s u p
  unfolding encoded after
  case_built known asked bs s t u parts p built first = record {
    usable = first.usable;
    grows = omega (arith, built.grows, first.grows);
    right = λ is.
        let parts_are : (listed_gates (names_in n) asked bs s ≡ (t, (parts.conditions, signals_of parts.values))) × AreTold (model_of n) asked bs parts = built.right (branches_right asked bs is) in
        let made = first.right (case_long asked bs s t parts is parts_are.0) in
        let wide : ℕ = (names_in n).width (case_of bs) in
        record {
          exact =
              branches_listed (names_in n) asked wide bs s ∙ ap (λ r. after r (λ x v. chosen_gates wide x.0 x.1 v)) parts_are.0 ∙ case_width known asked bs parts t is parts_are.1 ∙ made.0;
          told = case_told asked bs parts p t u _ is parts_are.1 made.0 made.1;
        };
  }
