-- The branches of a case, one after another.
use Rattle.std.proofs.Common.{◌≡◌, ℕ, ◌+◌, ◌<◌, ◌≤◌, false, Some, None, List, [], ◌∷◌, ◌++◌, length, get_or, drop, refl, sym, ◌∙◌, ap, subst, arith}
use Rattle.std.proofs.lemmas.List.{drop_more, drop_all, append_assoc, append-nil, length-drop}
use Rattle.smv_language.specs.Language.{Each, Tree, Branches, no_branch, branch_then, branches_of, branches_map, FlatLeaf, leaf_of, flat_tree}
use Rattle.smv_language.specs.declared.expr.Expr.{Expr}
use Rattle.smv_language.specs.declared.model.Flat.{Flat}
use Rattle.smv_type_laws.specs.ExpressionKinds.{judge_conditions, judge_values, broken_in, kinds_in}
use Rattle.smv_type_laws.specs.Models.{judged_in, kind_of_leaf}
use Rattle.smv_type_laws.proofs.Parts.{none_first, none_second}
use Rattle.sat_clauses.specs.Literal.{Literal}
use Rattle.sat_clauses.specs.Models.{IsBelow}
use Rattle.sat_circuits.specs.Circuit.{Circuit, after}
use Rattle.sat_circuits.specs.Meaning.{AllBelow}
use Rattle.sat_circuits.proofs.Extension.{AllBelow-more, AllBelow-append}
use Rattle.sat_encoding_laws.specs.Signals.{Signal, literal_in}
use Rattle.sat_encoding_laws.specs.Expressions.{Asked as TheAsked, its_value, whether_has, encoded}
use Rattle.sat_encoding_laws.specs.Meanings.{IsSignal}
use Rattle.sat_expressions.specs.BuiltSignals.{signal_of, signals_of}
use Rattle.sat_expressions.proofs.ChoiceLoop.{usable_later}
use Rattle.sat_expressions.specs.ModelNames.{model_of, names_in}
use Rattle.sat_expressions.specs.Parts.{IsBit, IsRight, IsTold, IsEncoded, BuildsPart}
use Rattle.sat_expressions.specs.Branches.{listed_gates, widened_sort, spread_sort, AreRightBranches, AreTold, BuildsBranches, with_parts, AreToldSoFar, BuildsFirst}
use Rattle.sat_expressions.specs.declared.names.NamedSignals.{NamedSignals}
use Rattle.sat_expressions.specs.declared.branches.BranchSignals.{BranchSignals}
use Rattle.sat_expressions.specs.declared.part.ExpressionSignal.{ExpressionSignal}
use Rattle.smv_flat_laws.proofs.Conditions.{each_join}

-- a list with one item more, and what comes after it
grown : {A : Type 0} (xs : List A) (x : A) (ys zs : List A) → ys ≡ xs ++ x ∷ [] → xs ++ (x ∷ zs) ≡ ys ++ zs
grown xs x ys zs e = sym (append_assoc xs (x ∷ []) zs) ∙ ap (λ y. y ++ zs) (sym e)

-- a circuit with conditions and values
abbrev listing : Circuit → List Literal → List Signal → Circuit × (List Literal × List Signal)
listing w xs ys = (w, (xs, ys))

both_lists : (w : Circuit) (xs xs' : List Literal) (ys ys' : List Signal) → xs ≡ xs' → ys ≡ ys' → listing w xs ys ≡ listing w xs' ys'
both_lists w xs xs' ys ys' e f = ap (λ x. listing w x ys) e ∙ ap (λ y. listing w xs' y) f

pub branches_more : (bs : List (Expr Flat × Expr Flat)) (i : ℕ) (b : Expr Flat × Expr Flat) → i < length bs → b ≡ get_or bs i b
    → branches_map leaf_of (branches_of (drop i bs)) ≡ branch_then (flat_tree b.0) (flat_tree b.1) (branches_map leaf_of (branches_of (drop (i + 1) bs)))
branches_more bs i b h is =
    ap (λ xs. branches_map leaf_of (branches_of xs)) (drop_more bs i b h)
    ∙ ap (λ (y : Expr Flat × Expr Flat). branch_then (flat_tree y.0) (flat_tree y.1) (branches_map leaf_of (branches_of (drop (i + 1) bs)))) (sym is)

module _ (n : NamedSignals) where
  told_first : (asked : TheAsked) (bs : Branches FlatLeaf) → AreToldSoFar (model_of n) asked bs bs (record { conditions = []; values = []; sort = None })
  told_first its_value bs = refl
  told_first (whether_has v) bs = tt

  pub branches_first : (asked : TheAsked) (bs : Branches FlatLeaf) (s : Circuit) (parts : BranchSignals) → parts ≡ record { conditions = []; values = []; sort = None } → BuildsFirst n asked bs bs s s parts
  branches_first asked bs s parts e =
      subst (BuildsFirst n asked bs bs s s) (sym e) (record {
        conditions = tt;
        values = tt;
        grows = omega arith;
        right = λ is. (refl, is, told_first asked bs);
      })

  -- a branch and those after it break no rule
  head_right : (asked : TheAsked) (d a : Tree FlatLeaf) (bs : Branches FlatLeaf) → AreRightBranches (model_of n) asked (branch_then d a bs)
      → IsRight (model_of n) its_value d × IsRight (model_of n) asked a × AreRightBranches (model_of n) asked bs
  head_right its_value d a bs h =
      let cs = broken_in (judge_conditions (kind_of_leaf (model_of n)) bs) in
      let vs = broken_in (judge_values (kind_of_leaf (model_of n)) false bs) in
      let jd = (judged_in (model_of n) false d).broken in
      let ja = (judged_in (model_of n) false a).broken in
      (none_first jd cs h.0, none_first ja vs h.1, (none_second jd cs h.0, none_second ja vs h.1))
  head_right (whether_has v) d a bs h =
      let cs = broken_in (judge_conditions (kind_of_leaf (model_of n)) bs) in
      let vs = broken_in (judge_values (kind_of_leaf (model_of n)) h.0 bs) in
      let jd = (judged_in (model_of n) false d).broken in
      let ja = (judged_in (model_of n) h.0 a).broken in
      (none_first jd cs h.1, (h.0, none_first ja vs h.2), (h.0, none_second jd cs h.1, none_second ja vs h.2))

  told_next : (asked : TheAsked) (bs : Branches FlatLeaf) (d a : Tree FlatLeaf) (rest : Branches FlatLeaf) (parts made : BranchSignals) (p : ExpressionSignal) → AreToldSoFar (model_of n) asked bs (branch_then d a rest) parts
      → IsTold (model_of n) asked a p → signals_of made.values ≡ signals_of parts.values ++ signal_of p.signal ∷ [] → made.sort ≡ Some (widened_sort parts.sort p.sort) → AreToldSoFar (model_of n) asked bs rest made
  told_next its_value bs d a rest parts made p before told e f =
      ap (λ x. spread_sort x (kinds_in (judge_values (kind_of_leaf (model_of n)) false rest))) (f ∙ ap (λ x. Some (widened_sort parts.sort x)) told) ∙ before
  told_next (whether_has v) bs d a rest parts made p before told e f =
      subst (Each IsBit) (sym e) (each_join IsBit (signals_of parts.values) (signal_of p.signal ∷ []) before (told, tt))

  values_next : (g t : Circuit) (parts made : BranchSignals) (p : ExpressionSignal) → g.free ≤ t.free → Each (IsSignal g) (signals_of parts.values) → IsSignal t (signal_of p.signal)
      → signals_of made.values ≡ signals_of parts.values ++ signal_of p.signal ∷ [] → Each (IsSignal t) (signals_of made.values)
  values_next g t parts made p more before here e =
      subst (Each (IsSignal t)) (sym e) (each_join (IsSignal t) (signals_of parts.values) (signal_of p.signal ∷ []) (usable_later g t more parts.values before) (here, tt))

  -- the last branch has its value alone
  pub branch_last : (asked : TheAsked) (bs : Branches FlatLeaf) (d a : Tree FlatLeaf) (s g t : Circuit) (parts made : BranchSignals) (p : ExpressionSignal) → BuildsFirst n asked bs (branch_then d a no_branch) s g parts → BuildsPart n asked a g t p
      → made.conditions ≡ parts.conditions → signals_of made.values ≡ signals_of parts.values ++ signal_of p.signal ∷ [] → made.sort ≡ Some (widened_sort parts.sort p.sort) → BuildsFirst n asked bs no_branch s t made
  unfolding listed_gates after
  branch_last asked bs d a s g t parts made p before part same e f = record {
    conditions = subst (AllBelow t.free) (sym same) (AllBelow-more g.free t.free part.grows parts.conditions before.conditions);
    values = values_next g t parts made p part.grows before.values part.usable e;
    grows = omega (arith, before.grows, part.grows);
    right = λ is.
        let so_far = before.right is in
        let sides = head_right asked d a no_branch so_far.1 in
        let here : IsEncoded (model_of n) asked a (encoded (names_in n) asked a g) t p = part.right sides.1 in (
          so_far.0
              ∙ ap (λ r. with_parts parts (after r (λ x v. (v, ([], x ∷ []))))) here.exact
              ∙ both_lists t (parts.conditions ++ []) (made.conditions ++ []) (signals_of parts.values ++ signal_of p.signal ∷ []) (signals_of made.values ++ [])
              (ap (λ x. x ++ []) (sym same)) (sym e ∙ sym (append-nil (signals_of made.values))),
          sides.2,
          told_next asked bs d a no_branch parts made p so_far.2 here.told e f,
        );
  }

  -- one that is not the last has its condition too
  pub branch_next : (asked : TheAsked) (bs : Branches FlatLeaf) (d a d' a' : Tree FlatLeaf) (more : Branches FlatLeaf) (s g u t : Circuit) (parts mid made : BranchSignals) (c p : ExpressionSignal) (l : Literal)
      → BuildsFirst n asked bs (branch_then d a (branch_then d' a' more)) s g parts → BuildsPart n its_value d g u c → l ≡ literal_in (signal_of c.signal) → IsBelow u.free l
      → mid ≡ record parts { conditions = parts.conditions ++ l ∷ [] } → BuildsPart n asked a u t p
      → made.conditions ≡ mid.conditions → signals_of made.values ≡ signals_of mid.values ++ signal_of p.signal ∷ [] → made.sort ≡ Some (widened_sort mid.sort p.sort)
      → BuildsFirst n asked bs (branch_then d' a' more) s t made
  unfolding listed_gates after
  branch_next asked bs d a d' a' more s g u t parts mid made c p l before first is_l below is_mid part same e f =
      let conds : made.conditions ≡ parts.conditions ++ l ∷ [] = same ∙ ap (λ (x : BranchSignals). x.conditions) is_mid in
      let vals : signals_of made.values ≡ signals_of parts.values ++ signal_of p.signal ∷ [] = e ∙ ap (λ (x : BranchSignals). signals_of x.values ++ signal_of p.signal ∷ []) is_mid in
      let sort : made.sort ≡ Some (widened_sort parts.sort p.sort) = f ∙ ap (λ (x : BranchSignals). Some (widened_sort x.sort p.sort)) is_mid in
      let steps : g.free ≤ t.free = omega (arith, first.grows, part.grows) in
      record {
        conditions =
            subst (AllBelow t.free) (sym conds)
            (AllBelow-append t.free parts.conditions (l ∷ []) (AllBelow-more g.free t.free steps parts.conditions before.conditions) (AllBelow-more u.free t.free part.grows (l ∷ []) (below, tt)));
        values = values_next g t parts made p steps before.values part.usable vals;
        grows = omega (arith, before.grows, steps);
        right = λ is.
            let so_far = before.right is in
            let rest : Branches FlatLeaf = branch_then d' a' more in
            let sides = head_right asked d a rest so_far.1 in
            let guard : IsEncoded (model_of n) its_value d (encoded (names_in n) its_value d g) u c = first.right sides.0 in
            let here : IsEncoded (model_of n) asked a (encoded (names_in n) asked a u) t p = part.right sides.1 in
            let others : Circuit × (List Literal × List Signal) = listed_gates (names_in n) asked rest t in (
              so_far.0
                  ∙ ap (λ r. with_parts parts (after r (λ x v. after (encoded (names_in n) asked a v) (λ y w. after (listed_gates (names_in n) asked rest w) (λ q z. (z, (literal_in x ∷ q.0, y ∷ q.1))))))) guard.exact
                  ∙ ap (λ r. with_parts parts (after r (λ y w. after (listed_gates (names_in n) asked rest w) (λ q z. (z, (literal_in (signal_of c.signal) ∷ q.0, y ∷ q.1)))))) here.exact
                  ∙ both_lists others.0 (parts.conditions ++ (literal_in (signal_of c.signal) ∷ others.1.0)) (made.conditions ++ others.1.0) (signals_of parts.values ++ (signal_of p.signal ∷ others.1.1)) (signals_of made.values ++ others.1.1)
                  (ap (λ x. parts.conditions ++ (x ∷ others.1.0)) (sym is_l) ∙ grown parts.conditions l made.conditions others.1.0 conds) (grown (signals_of parts.values) (signal_of p.signal) (signals_of made.values) others.1.1 vals),
              sides.2,
              told_next asked bs d a rest parts made p so_far.2 here.told vals sort,
            );
      }

  told_last : (asked : TheAsked) (bs : Branches FlatLeaf) (parts : BranchSignals) → AreToldSoFar (model_of n) asked bs no_branch parts → AreTold (model_of n) asked bs parts
  told_last its_value bs parts h = h
  told_last (whether_has v) bs parts h = h

  pub branches_end : (asked : TheAsked) (bs : Branches FlatLeaf) (s t : Circuit) (parts : BranchSignals) → BuildsFirst n asked bs no_branch s t parts → BuildsBranches n asked bs s t parts
  unfolding listed_gates
  branches_end asked bs s t parts built = record {
    conditions = built.conditions;
    values = built.values;
    grows = built.grows;
    right = λ is. (
      (built.right is).0 ∙ both_lists t (parts.conditions ++ []) parts.conditions (signals_of parts.values ++ []) (signals_of parts.values) (append-nil parts.conditions) (append-nil (signals_of parts.values)),
      told_last asked bs parts (built.right is).2,
    );
  }

  -- the same over what is left of a list: a branch that is not the last
  pub branches_step : (asked : TheAsked) (bs : List (Expr Flat × Expr Flat)) (i : ℕ) (b : Expr Flat × Expr Flat) (s g u v t : Circuit) (parts mid made : BranchSignals) (c p : ExpressionSignal)
      → i < length bs → b ≡ get_or bs i b → i + 1 < length bs
      → BuildsFirst n asked (branches_map leaf_of (branches_of bs)) (branches_map leaf_of (branches_of (drop i bs))) s g parts
      → BuildsPart n its_value (flat_tree b.0) g u c → IsBelow u.free (literal_in (signal_of c.signal)) → mid ≡ record parts { conditions = parts.conditions ++ literal_in (signal_of c.signal) ∷ [] }
      → v ≡ u → BuildsPart n asked (flat_tree b.1) v t p
      → made.conditions ≡ mid.conditions → signals_of made.values ≡ signals_of mid.values ++ signal_of p.signal ∷ [] → made.sort ≡ Some (widened_sort mid.sort p.sort)
      → BuildsFirst n asked (branches_map leaf_of (branches_of bs)) (branches_map leaf_of (branches_of (drop (i + 1) bs))) s t made
  branches_step asked bs i b s g u v t parts mid made c p low is more before first below is_mid at part same e f =
      by (drop (i + 1) bs) (omega (arith, length-drop (i + 1) bs, more)) (subst (λ rest. BuildsFirst n asked (branches_map leaf_of (branches_of bs)) rest s g parts) (branches_more bs i b low is) before)
    where
      by : (rest : List (Expr Flat × Expr Flat)) → 0 < length rest
          → BuildsFirst n asked (branches_map leaf_of (branches_of bs)) (branch_then (flat_tree b.0) (flat_tree b.1) (branches_map leaf_of (branches_of rest))) s g parts
          → BuildsFirst n asked (branches_map leaf_of (branches_of bs)) (branches_map leaf_of (branches_of rest)) s t made
      by [] some start = absurd (omega (arith, some))
      by (x ∷ xs) some start =
          branch_next asked (branches_map leaf_of (branches_of bs)) (flat_tree b.0) (flat_tree b.1) (flat_tree x.0) (flat_tree x.1) (branches_map leaf_of (branches_of xs)) s g u t parts mid made c p
          (literal_in (signal_of c.signal)) start first refl below is_mid (subst (λ w. BuildsPart n asked (flat_tree b.1) w t p) at part) same e f

  -- and the last
  pub branches_last : (asked : TheAsked) (bs : List (Expr Flat × Expr Flat)) (i : ℕ) (b : Expr Flat × Expr Flat) (s g v t : Circuit) (parts mid made : BranchSignals) (p : ExpressionSignal)
      → i < length bs → b ≡ get_or bs i b → length bs ≤ i + 1
      → BuildsFirst n asked (branches_map leaf_of (branches_of bs)) (branches_map leaf_of (branches_of (drop i bs))) s g parts
      → mid ≡ parts → v ≡ g → BuildsPart n asked (flat_tree b.1) v t p
      → made.conditions ≡ mid.conditions → signals_of made.values ≡ signals_of mid.values ++ signal_of p.signal ∷ [] → made.sort ≡ Some (widened_sort mid.sort p.sort)
      → BuildsFirst n asked (branches_map leaf_of (branches_of bs)) (branches_map leaf_of (branches_of (drop (i + 1) bs))) s t made
  branches_last asked bs i b s g v t parts mid made p low is high before is_mid at part same e f =
      subst (λ xs. BuildsFirst n asked (branches_map leaf_of (branches_of bs)) (branches_map leaf_of (branches_of xs)) s t made) (sym (drop_all (i + 1) bs high))
      (branch_last asked (branches_map leaf_of (branches_of bs)) (flat_tree b.0) (flat_tree b.1) s g t parts made p
      (subst (λ xs. BuildsFirst n asked (branches_map leaf_of (branches_of bs)) (branch_then (flat_tree b.0) (flat_tree b.1) (branches_map leaf_of (branches_of xs))) s g parts) (drop_all (i + 1) bs high)
      (subst (λ rest. BuildsFirst n asked (branches_map leaf_of (branches_of bs)) rest s g parts) (branches_more bs i b low is) before))
      (subst (λ w. BuildsPart n asked (flat_tree b.1) w t p) at part)
      (same ∙ ap (λ (x : BranchSignals). x.conditions) is_mid) (e ∙ ap (λ (x : BranchSignals). signals_of x.values ++ signal_of p.signal ∷ []) is_mid) (f ∙ ap (λ (x : BranchSignals). Some (widened_sort x.sort p.sort)) is_mid))

  pub branches_done : (asked : TheAsked) (bs : List (Expr Flat × Expr Flat)) (i : ℕ) (s t : Circuit) (parts : BranchSignals) → length bs ≤ i
      → BuildsFirst n asked (branches_map leaf_of (branches_of bs)) (branches_map leaf_of (branches_of (drop i bs))) s t parts → BuildsBranches n asked (branches_map leaf_of (branches_of bs)) s t parts
  branches_done asked bs i s t parts high built =
      branches_end asked (branches_map leaf_of (branches_of bs)) s t parts
      (subst (λ xs. BuildsFirst n asked (branches_map leaf_of (branches_of bs)) (branches_map leaf_of (branches_of xs)) s t parts) (drop_all i bs high) built)
