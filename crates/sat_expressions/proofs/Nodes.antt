-- What is built of each node of an expression, from what was built of its parts.
use Rattle.std.proofs.Common.{◌≡◌, ℕ, ◌≤◌, Bool, true, false, not, ◌&&◌, ◌||◌, ℤ, int_lt, List, [], ◌∷◌, ◌++◌, Option, Some, None, refl, sym, ◌∙◌, ap, subst, arith}
use Rattle.std.specs.Prelude.{Result, IfOk}
use Rattle.std.proofs.lemmas.Result.{IfOk-weaker}
use Rattle.smv_language.specs.declared.expr.Op.{Op}
use Rattle.smv_language.specs.declared.expr.Op.TheVariants as op
use Rattle.smv_language.specs.Language.{Text, Tree, Trees, leaf, not_of, negate, next_of, binary, choice, set_of, span, FlatLeaf, FlatModel}
use Rattle.smv_language.specs.Tree.{truth, number}
use Rattle.smv_type_laws.specs.Intervals.{Interval}
use Rattle.smv_type_laws.specs.ExpressionKinds.{Kind, KindRule, Class, truth_class, number_class, symbol_class, Judged, where_kept, unless_class, not_boolean, mismatch, set_here, empty_range, rule_if, wide, joined, negative_interval, unlike_first, broken_in, kinds_in, judge_trees, judged_negative, judged_binary}
use Rattle.smv_type_laws.specs.Models.{judged_in, kind_of_leaf}
use Rattle.smv_type_laws.proofs.Parts.{none_first, none_second}
use Rattle.sat_clauses.specs.Literal.{Literal, opposite}
use Rattle.sat_circuits.specs.Circuit.{Circuit, after}
use Rattle.sat_circuits.specs.Gates.{constant_lit, or_gate}
use Rattle.sat_circuits.specs.Numbers.{number_word}
use Rattle.sat_circuits.specs.Sums.{negate_gates}
use Rattle.sat_encoding_laws.specs.Widths.{width_by, kind_width, symbol_width}
use Rattle.sat_encoding_laws.specs.Signals.{Signal, bit, word, literal_in, word_in, as_bit, as_word, same_gates, operator_gates, choice_gates}
use Rattle.sat_encoding_laws.specs.Expressions.{Asked as TheAsked, its_value, whether_has, at_next, answer, span_gates, both_gates, encoded}
use Rattle.sat_encoding_laws.specs.Meanings.{IsSignal}
use Rattle.sat_encoding_laws.proofs.Answering.{TakesValues, plain_parts, kept_interval}
use Rattle.smv_types.specs.Answers.{told_class, told_sort, told}
use Rattle.smv_types.specs.Rows.{row_binary}
use Rattle.smv_types.specs.declared.sort.Sort.{Sort}
use Rattle.smv_types.specs.declared.sort.Class.TheVariants.{Truth}
use Rattle.smv_types.proofs.NodeLaws.{told_negative, told_binary, told_literal}
use Rattle.sat_expressions.specs.BuiltSignals.{signal_of, BuildsLiteral, BuildsSignal}
use Rattle.sat_expressions.specs.Sorts.{width_of_sort, sort_width, literal_sort, negative_sort, operation_sort, joined_sort}
use Rattle.sat_expressions.specs.ModelNames.{model_of, names_in, moved}
use Rattle.sat_expressions.specs.Parts.{truth_sort, IsBit, IsRight, AreRight, BuildsMembers, IsTold, IsEncoded, BuildsPart, AnswersSort, Answers}
use Rattle.sat_expressions.specs.declared.names.NamedSignals.{NamedSignals}
use Rattle.sat_expressions.specs.declared.part.ExpressionSignal.{ExpressionSignal}

-- ---- what is known of values

kept_none : (own : List KindRule) → where_kept own None ≡ None
kept_none [] = refl
kept_none (r ∷ rs) = refl

-- a truth value is told as one, whatever rules its node breaks
truth_told : (own : List KindRule) → truth_sort ≡ told_sort (record { class = truth_class; interval = where_kept own None })
truth_told own = ap (λ i. record { class = Truth; interval = i }) (sym (kept_none own))

pub literal_told : (n : FlatModel) (z : ℤ) → literal_sort z ≡ told_sort (judged_in n false (number z)).kind
literal_told n z = ap (λ j. j.sort) (told_literal z)

negative_told : (a : Judged) → negative_sort (told_sort a.kind) ≡ told_sort (judged_negative a).kind
negative_told a = ap (λ j. j.sort) (told_negative a)

-- what an operator gives does not hang on the rules that its operands break
kept_alike : (o : Op) → TakesValues o → (a b : Judged) → (row_binary false o (told a) (told b)).sort ≡ operation_sort o (told_sort a.kind) (told_sort b.kind)
kept_alike op.Union t a b = absurd t
kept_alike op.Within t a b = absurd t
kept_alike _ t a b = refl

operation_told : (o : Op) → TakesValues o → (a b : Judged) → operation_sort o (told_sort a.kind) (told_sort b.kind) ≡ told_sort (judged_binary false o a b).kind
operation_told o t a b = sym (kept_alike o t a b) ∙ ap (λ j. j.sort) (told_binary false o a b)

-- the width of what is told is that of its kind
class_width : (texts : List Text) (n : ℕ) (c : Class) (i : Option Interval) → n ≡ symbol_width texts → width_of_sort n (told_class c) i ≡ width_by texts c i
class_width texts n number_class (Some i) e = refl
class_width texts n number_class None e = e
class_width texts n truth_class i e = e
class_width texts n symbol_class i e = e

pub kind_told : (texts : List Text) (n : ℕ) (k : Kind) (s : Sort) → n ≡ symbol_width texts → s ≡ told_sort k → sort_width n s ≡ kind_width texts k
kind_told texts n k s e h = ap (sort_width n) h ∙ class_width texts n k.class k.interval e

-- the value itself, where it is asked
pub answers_value : (s : Circuit) (value : ExpressionSignal) → IsSignal s (signal_of value.signal) → Answers its_value s (s, signal_of value.signal) value.sort s value
answers_value s value usable = record { usable = usable; grows = omega arith; exact = refl; told = refl }

-- whether a value is that of a signal
pub answers_has : (v e : Signal) (known : Sort) (s t : Circuit) (p : ExpressionSignal) (l : Literal) → BuildsLiteral s (same_gates v e s) t l → signal_of p.signal ≡ bit l → Answers (whether_has v) s (s, e) known t p
unfolding after
answers_has v e known s t p l made is = record {
  usable = subst (IsSignal t) (sym is) made.below;
  grows = made.grows;
  exact = ap as_bit made.exact ∙ ap (λ x. (t, x)) (sym is);
  told = subst IsBit (sym is) tt;
}

-- of what was built before
pub answers_after : (asked : TheAsked) (s t u : Circuit) (r : Circuit × Signal) (e : Signal) (known given : Sort) (p : ExpressionSignal) → r ≡ (t, e) → s.free ≤ t.free → given ≡ known
    → Answers asked t (t, e) given u p → Answers asked s r known u p
answers_after asked s t u r e known given p made more sort ans = record {
  usable = ans.usable;
  grows = omega (arith, more, ans.grows);
  exact = ap (answer asked) made ∙ ans.exact;
  told = subst (λ x. AnswersSort asked x p) sort ans.told;
}

-- of an equal value, where no gate was built
pub answers_at : (asked : TheAsked) (s u : Circuit) (e f : Signal) (known given : Sort) (p : ExpressionSignal) → f ≡ e → given ≡ known → Answers asked s (s, f) given u p → Answers asked s (s, e) known u p
answers_at asked s u e f known given p is sort ans = answers_after asked s s u (s, e) f known given p (ap (λ x. (s, x)) (sym is)) (omega arith) sort ans

-- the same of a result
pub result_after : {E : Type 0} (q : Result ExpressionSignal E) (asked : TheAsked) (s t u : Circuit) (r : Circuit × Signal) (e : Signal) (known given : Sort) → r ≡ (t, e) → s.free ≤ t.free → given ≡ known
    → IfOk q (Answers asked t (t, e) given u) → IfOk q (Answers asked s r known u)
result_after q asked s t u r e known given made more sort =
    IfOk-weaker q (Answers asked t (t, e) given u) (Answers asked s r known u) (λ p h. answers_after asked s t u r e known given p made more sort h)

pub result_at : {E : Type 0} (q : Result ExpressionSignal E) (asked : TheAsked) (s u : Circuit) (e f : Signal) (known given : Sort) → f ≡ e → given ≡ known → IfOk q (Answers asked s (s, f) given u) → IfOk q (Answers asked s (s, e) known u)
result_at q asked s u e f known given is sort = IfOk-weaker q (Answers asked s (s, f) given u) (Answers asked s (s, e) known u) (λ p h. answers_at asked s u e f known given p is sort h)

-- a literal as a signal
pub literal_built : (s t : Circuit) (r : Circuit × Literal) (l : Literal) (p : ExpressionSignal) → BuildsLiteral s r t l → signal_of p.signal ≡ bit l → BuildsSignal s (as_bit r) t p.signal
literal_built s t r l p made is = record {
  exact = ap as_bit made.exact ∙ ap (λ x. (t, x)) (sym is);
  usable = subst (IsSignal t) (sym is) made.below;
  grows = made.grows;
}

-- ---- nodes

module _ (n : NamedSignals) where
  -- A node with one value, whose parts were built onto s, which is then t: what was asked of it is told in u.
  pub plain_part : (asked : TheAsked) (e : Tree FlatLeaf) (s t u : Circuit) (r : Circuit × Signal) (known : Sort) (p : ExpressionSignal) → s.free ≤ t.free → Answers asked t r known u p
      → (IsRight (model_of n) asked e → (encoded (names_in n) asked e s ≡ answer asked r) × (known ≡ told_sort (judged_in (model_of n) false e).kind))
      → BuildsPart n asked e s u p
  plain_part asked e s t u r known p more ans is = record {
    usable = ans.usable;
    grows = omega (arith, more, ans.grows);
    right = λ right. record {
      exact = (is right).0 ∙ ans.exact;
      told = by asked ans.told (is right).1;
    };
  }
    where
      by : (m : TheAsked) → AnswersSort m known p → known ≡ told_sort (judged_in (model_of n) false e).kind → IsTold (model_of n) m e p
      by its_value h k = h ∙ k
      by (whether_has v) h k = h

  pub truth_built : (asked : TheAsked) (b : Bool) (s u : Circuit) (p : ExpressionSignal) → Answers asked s (s, bit (constant_lit b)) truth_sort u p → BuildsPart n asked (truth b) s u p
  unfolding encoded
  truth_built asked b s u p ans = plain_part asked (truth b) s s u (s, bit (constant_lit b)) truth_sort p (omega arith) ans (λ right. (refl, refl))

  pub number_built : (asked : TheAsked) (z : ℤ) (s u : Circuit) (p : ExpressionSignal) → Answers asked s (s, word (number_word z)) (literal_sort z) u p → BuildsPart n asked (number z) s u p
  unfolding encoded
  number_built asked z s u p ans = plain_part asked (number z) s s u (s, word (number_word z)) (literal_sort z) p (omega arith) ans (λ right. (refl, literal_told (model_of n) z))

  pub leaf_built : (asked : TheAsked) (l : FlatLeaf) (s u : Circuit) (p : ExpressionSignal) → Answers asked s (s, (names_in n).now l) (told_sort (kind_of_leaf (model_of n) l)) u p → BuildsPart n asked (leaf l) s u p
  unfolding encoded
  leaf_built asked l s u p ans = plain_part asked (leaf l) s s u (s, (names_in n).now l) (told_sort (kind_of_leaf (model_of n) l)) p (omega arith) ans (λ right. (refl, refl))

  not_right : (asked : TheAsked) (a : Tree FlatLeaf) → IsRight (model_of n) asked (not_of a) → IsRight (model_of n) its_value a
  not_right its_value a h = none_second (unless_class truth_class not_boolean (judged_in (model_of n) false a).kind) (judged_in (model_of n) false a).broken h
  not_right (whether_has v) a h = none_second (unless_class truth_class not_boolean (judged_in (model_of n) false a).kind) (judged_in (model_of n) false a).broken h.1

  pub not_built : (asked : TheAsked) (a : Tree FlatLeaf) (s t u : Circuit) (pa p : ExpressionSignal) → BuildsPart n its_value a s t pa
      → Answers asked t (t, bit (opposite (literal_in (signal_of pa.signal)))) truth_sort u p → BuildsPart n asked (not_of a) s u p
  unfolding encoded after
  not_built asked a s t u pa p built ans =
      plain_part asked (not_of a) s t u (t, bit (opposite (literal_in (signal_of pa.signal)))) truth_sort p built.grows ans (λ right. (
        ap (λ r. answer asked (after r (λ x w. (w, bit (opposite (literal_in x)))))) (built.right (not_right asked a right)).exact,
        truth_told (unless_class truth_class not_boolean (judged_in (model_of n) false a).kind),
      ))

  negative_right : (asked : TheAsked) (a : Tree FlatLeaf) → IsRight (model_of n) asked (negate a) → IsRight (model_of n) its_value a
  negative_right its_value a h = none_second (unless_class number_class mismatch (judged_in (model_of n) false a).kind ++ wide (negative_interval (judged_in (model_of n) false a).kind.interval)) (judged_in (model_of n) false a).broken h
  negative_right (whether_has v) a h =
      none_second (unless_class number_class mismatch (judged_in (model_of n) false a).kind ++ wide (negative_interval (judged_in (model_of n) false a).kind.interval)) (judged_in (model_of n) false a).broken h.1

  pub negative_built : n.symbols ≡ symbol_width (model_of n).symbols → (asked : TheAsked) (a : Tree FlatLeaf) (s t w : Circuit) (pa p : ExpressionSignal) → BuildsPart n its_value a s t pa
      → Answers asked t (as_word (negate_gates (word_in (signal_of pa.signal)) (sort_width n.symbols (negative_sort pa.sort)) t)) (negative_sort pa.sort) w p
      → BuildsPart n asked (negate a) s w p
  unfolding encoded after
  negative_built wide asked a s t w pa p built ans =
      plain_part asked (negate a) s t w (as_word (negate_gates (word_in (signal_of pa.signal)) (sort_width n.symbols (negative_sort pa.sort)) t)) (negative_sort pa.sort) p built.grows ans (λ right.
      let ih : IsEncoded (model_of n) its_value a (encoded (names_in n) its_value a s) t pa = built.right (negative_right asked a right) in
      let sort : negative_sort pa.sort ≡ told_sort (judged_in (model_of n) false (negate a)).kind = ap negative_sort ih.told ∙ negative_told (judged_in (model_of n) false a) in (
        ap (λ r. answer asked (after r (λ x v. as_word (negate_gates (word_in x) ((names_in n).width (negate a)) v)))) ih.exact
            ∙ ap (λ k. answer asked (as_word (negate_gates (word_in (signal_of pa.signal)) k t))) (sym (kind_told (model_of n).symbols n.symbols (judged_in (model_of n) false (negate a)).kind (negative_sort pa.sort) wide sort)),
        sort,
      ))

  next_right : (asked : TheAsked) (a : Tree FlatLeaf) → IsRight (model_of n) asked (next_of a) → IsRight (model_of n) its_value a
  next_right its_value a h = h
  next_right (whether_has v) a h = h.1

  pub next_built : (m : NamedSignals) → m ≡ moved n → (asked : TheAsked) (a : Tree FlatLeaf) (s t u : Circuit) (value p : ExpressionSignal) → BuildsPart m its_value a s t value
      → Answers asked t (t, signal_of value.signal) value.sort u p → BuildsPart n asked (next_of a) s u p
  unfolding encoded
  next_built m e asked a s t u value p built ans =
      let there : BuildsPart (moved n) its_value a s t value = subst (λ k. BuildsPart k its_value a s t value) e built in
      plain_part asked (next_of a) s t u (t, signal_of value.signal) value.sort p there.grows ans (λ right.
      let is : IsEncoded (model_of n) its_value a (encoded (at_next (names_in n)) its_value a s) t value = there.right (next_right asked a right) in
      (ap (answer asked) is.exact, is.told))

  both_right : (o : Op) → TakesValues o → (asked : TheAsked) (a b : Tree FlatLeaf) → IsRight (model_of n) asked (binary o a b) → IsRight (model_of n) its_value a × IsRight (model_of n) its_value b
  both_right op.Union t asked a b h = absurd t
  both_right op.Within t asked a b h = absurd t
  both_right o t its_value a b h = by o t h
    where
      by : (o : Op) → TakesValues o → IsRight (model_of n) its_value (binary o a b) → IsRight (model_of n) its_value a × IsRight (model_of n) its_value b
      by op.Union t h = absurd t
      by op.Within t h = absurd t
      by o t h = plain_parts o t false (judged_in (model_of n) false a) (judged_in (model_of n) false b) h
  both_right o t (whether_has v) a b h = by o t h.0 h.1
    where
      by : (o : Op) → TakesValues o → (sets : Bool) → (judged_in (model_of n) sets (binary o a b)).broken ≡ [] → IsRight (model_of n) its_value a × IsRight (model_of n) its_value b
      by op.Union t sets h = absurd t
      by op.Within t sets h = absurd t
      by o t sets h = plain_parts o t sets (judged_in (model_of n) false a) (judged_in (model_of n) false b) h

  plain_encoded : (o : Op) → TakesValues o → (asked : TheAsked) (a b : Tree FlatLeaf) (s : Circuit) → encoded (names_in n) asked (binary o a b) s
      ≡ answer asked (both_gates o ((names_in n).width (binary o a b)) (λ t. encoded (names_in n) its_value a t) (λ t. encoded (names_in n) its_value b t) s)
  unfolding encoded
  plain_encoded op.Union t asked a b s = absurd t
  plain_encoded op.Within t asked a b s = absurd t
  plain_encoded o t asked a b s = refl

  plain_judged : (o : Op) → TakesValues o → (a b : Tree FlatLeaf) → judged_in (model_of n) false (binary o a b) ≡ judged_binary false o (judged_in (model_of n) false a) (judged_in (model_of n) false b)
  plain_judged op.Union t a b = absurd t
  plain_judged op.Within t a b = absurd t
  plain_judged o t a b = refl

  pub both_built : n.symbols ≡ symbol_width (model_of n).symbols → (o : Op) → TakesValues o → (asked : TheAsked) (a b : Tree FlatLeaf) (s t u y : Circuit) (pa pb p : ExpressionSignal)
      → BuildsPart n its_value a s t pa → BuildsPart n its_value b t u pb
      → Answers asked u (operator_gates o (sort_width n.symbols (operation_sort o pa.sort pb.sort)) (signal_of pa.signal) (signal_of pb.signal) u) (operation_sort o pa.sort pb.sort) y p
      → BuildsPart n asked (binary o a b) s y p
  unfolding after
  both_built known o plain asked a b s t u y pa pb p left right ans =
      plain_part asked (binary o a b) s u y (operator_gates o (sort_width n.symbols (operation_sort o pa.sort pb.sort)) (signal_of pa.signal) (signal_of pb.signal) u) (operation_sort o pa.sort pb.sort) p
      (omega (arith, left.grows, right.grows)) ans (λ is.
      let parts : IsRight (model_of n) its_value a × IsRight (model_of n) its_value b = both_right o plain asked a b is in
      let first : IsEncoded (model_of n) its_value a (encoded (names_in n) its_value a s) t pa = left.right parts.0 in
      let second : IsEncoded (model_of n) its_value b (encoded (names_in n) its_value b t) u pb = right.right parts.1 in
      let sort : operation_sort o pa.sort pb.sort ≡ told_sort (judged_in (model_of n) false (binary o a b)).kind =
      ap (λ x. operation_sort o x pb.sort) first.told ∙ ap (λ x. operation_sort o (told_sort (judged_in (model_of n) false a).kind) x) second.told
      ∙ operation_told o plain (judged_in (model_of n) false a) (judged_in (model_of n) false b) ∙ ap (λ j. told_sort j.kind) (sym (plain_judged o plain a b))
      in
      let wide : ℕ = (names_in n).width (binary o a b) in (
        plain_encoded o plain asked a b s
            ∙ ap (λ r. answer asked (after r (λ e v. after (encoded (names_in n) its_value b v) (λ f z. operator_gates o wide e f z)))) first.exact
            ∙ ap (λ r. answer asked (after r (λ f z. operator_gates o wide (signal_of pa.signal) f z))) second.exact
            ∙ ap (λ k. answer asked (operator_gates o k (signal_of pa.signal) (signal_of pb.signal) u)) (sym (kind_told (model_of n).symbols n.symbols (judged_in (model_of n) false (binary o a b)).kind (operation_sort o pa.sort pb.sort) known sort)),
        sort,
      ))

  -- ---- `in`

  within_first : (asked : TheAsked) (a b : Tree FlatLeaf) → IsRight (model_of n) asked (binary op.Within a b) → IsRight (model_of n) its_value a
  within_first its_value a b h =
      let own = unless_class (judged_in (model_of n) false a).kind.class mismatch (judged_in (model_of n) true b).kind in
      none_first (judged_in (model_of n) false a).broken (judged_in (model_of n) true b).broken (none_second own _ h)
  within_first (whether_has v) a b h =
      let own = unless_class (judged_in (model_of n) false a).kind.class mismatch (judged_in (model_of n) true b).kind in
      none_first (judged_in (model_of n) false a).broken (judged_in (model_of n) true b).broken (none_second own _ h.1)

  within_second : (asked : TheAsked) (v : Signal) (a b : Tree FlatLeaf) → IsRight (model_of n) asked (binary op.Within a b) → IsRight (model_of n) (whether_has v) b
  within_second its_value v a b h =
      let own = unless_class (judged_in (model_of n) false a).kind.class mismatch (judged_in (model_of n) true b).kind in
      (true, none_second (judged_in (model_of n) false a).broken (judged_in (model_of n) true b).broken (none_second own _ h))
  within_second (whether_has u) v a b h =
      let own = unless_class (judged_in (model_of n) false a).kind.class mismatch (judged_in (model_of n) true b).kind in
      (true, none_second (judged_in (model_of n) false a).broken (judged_in (model_of n) true b).broken (none_second own _ h.1))

  pub within_built : (asked : TheAsked) (a b : Tree FlatLeaf) (s t u w : Circuit) (pa pb p : ExpressionSignal) → BuildsPart n its_value a s t pa → BuildsPart n (whether_has (signal_of pa.signal)) b t u pb
      → Answers asked u (u, signal_of pb.signal) truth_sort w p → BuildsPart n asked (binary op.Within a b) s w p
  unfolding encoded after
  within_built asked a b s t u w pa pb p left right ans =
      plain_part asked (binary op.Within a b) s u w (u, signal_of pb.signal) truth_sort p (omega (arith, left.grows, right.grows)) ans (λ is.
      let first : IsEncoded (model_of n) its_value a (encoded (names_in n) its_value a s) t pa = left.right (within_first asked a b is) in
      let second : IsEncoded (model_of n) (whether_has (signal_of pa.signal)) b (encoded (names_in n) (whether_has (signal_of pa.signal)) b t) u pb = right.right (within_second asked (signal_of pa.signal) a b is) in (
        ap (λ r. answer asked (after r (λ x v. encoded (names_in n) (whether_has x) b v))) first.exact ∙ ap (answer asked) second.exact,
        truth_told (unless_class (judged_in (model_of n) false a).kind.class mismatch (judged_in (model_of n) true b).kind),
      ))

  -- ---- sets

  -- what may be no set here is one
  set_refused : (own parts : List KindRule) → (own ++ (set_here ∷ [])) ++ parts ≡ [] → ⊥
  set_refused own parts h = let e : set_here ∷ [] ≡ [] = none_second own (set_here ∷ []) (none_first (own ++ (set_here ∷ [])) parts h) in cc

  union_first : (asked : TheAsked) (a b : Tree FlatLeaf) → IsRight (model_of n) asked (binary op.Union a b) → IsRight (model_of n) asked a
  union_first its_value a b h =
      absurd (set_refused (unless_class (judged_in (model_of n) true a).kind.class mismatch (judged_in (model_of n) true b).kind) ((judged_in (model_of n) true a).broken ++ (judged_in (model_of n) true b).broken) h)
  union_first (whether_has v) a b h =
      let ja = judged_in (model_of n) true a in
      let jb = judged_in (model_of n) true b in
      (true, none_first ja.broken jb.broken (none_second (unless_class ja.kind.class mismatch jb.kind ++ rule_if (true && not h.0) set_here) (ja.broken ++ jb.broken) h.1))

  union_second : (asked : TheAsked) (a b : Tree FlatLeaf) → IsRight (model_of n) asked (binary op.Union a b) → IsRight (model_of n) asked b
  union_second its_value a b h =
      absurd (set_refused (unless_class (judged_in (model_of n) true a).kind.class mismatch (judged_in (model_of n) true b).kind) ((judged_in (model_of n) true a).broken ++ (judged_in (model_of n) true b).broken) h)
  union_second (whether_has v) a b h =
      let ja = judged_in (model_of n) true a in
      let jb = judged_in (model_of n) true b in
      (true, none_second ja.broken jb.broken (none_second (unless_class ja.kind.class mismatch jb.kind ++ rule_if (true && not h.0) set_here) (ja.broken ++ jb.broken) h.1))

  union_told : (asked : TheAsked) (a b : Tree FlatLeaf) (p : ExpressionSignal) → IsBit (signal_of p.signal) → IsRight (model_of n) asked (binary op.Union a b) → IsTold (model_of n) asked (binary op.Union a b) p
  union_told its_value a b p e h =
      absurd (set_refused (unless_class (judged_in (model_of n) true a).kind.class mismatch (judged_in (model_of n) true b).kind) ((judged_in (model_of n) true a).broken ++ (judged_in (model_of n) true b).broken) h)
  union_told (whether_has v) a b p e h = e

  pub union_built : (asked : TheAsked) (a b : Tree FlatLeaf) (s t u w : Circuit) (pa pb p : ExpressionSignal) → BuildsPart n asked a s t pa → BuildsPart n asked b t u pb
      → BuildsSignal u (as_bit (or_gate (literal_in (signal_of pa.signal)) (literal_in (signal_of pb.signal)) u)) w p.signal → IsBit (signal_of p.signal) → BuildsPart n asked (binary op.Union a b) s w p
  unfolding encoded after
  union_built asked a b s t u w pa pb p left right made e = record {
    usable = made.usable;
    grows = omega (arith, left.grows, right.grows, made.grows);
    right = λ is. record {
      exact =
          ap (λ r. after r (λ x v. after (encoded (names_in n) asked b v) (λ y z. as_bit (or_gate (literal_in x) (literal_in y) z)))) (left.right (union_first asked a b is)).exact
          ∙ ap (λ r. after r (λ y z. as_bit (or_gate (literal_in (signal_of pa.signal)) (literal_in y) z))) (right.right (union_second asked a b is)).exact
          ∙ made.exact;
      told = union_told asked a b p e is;
    };
  }

  span_told : (asked : TheAsked) (lo hi : ℤ) (p : ExpressionSignal) → IsBit (signal_of p.signal) → IsRight (model_of n) asked (span lo hi) → IsTold (model_of n) asked (span lo hi) p
  span_told its_value lo hi p e h = absurd (set_refused (rule_if (int_lt hi lo) empty_range ++ wide (Some (record { lo = lo; hi = hi }))) [] h)
  span_told (whether_has v) lo hi p e h = e

  pub span_built : (asked : TheAsked) (lo hi : ℤ) (s t : Circuit) (p : ExpressionSignal) → BuildsSignal s (span_gates asked lo hi s) t p.signal → IsBit (signal_of p.signal) → BuildsPart n asked (span lo hi) s t p
  unfolding encoded
  span_built asked lo hi s t p made e = record {
    usable = made.usable;
    grows = made.grows;
    right = λ is. record { exact = made.exact; told = span_told asked lo hi p e is };
  }

  set_told : (asked : TheAsked) (ts : Trees FlatLeaf) (p : ExpressionSignal) (l : Literal) → signal_of p.signal ≡ bit l → IsRight (model_of n) asked (set_of ts) → IsTold (model_of n) asked (set_of ts) p
  set_told its_value ts p l e h = absurd (set_refused (unlike_first mismatch (kinds_in (judge_trees (kind_of_leaf (model_of n)) ts))) (broken_in (judge_trees (kind_of_leaf (model_of n)) ts)) h)
  set_told (whether_has v) ts p l e h = subst IsBit (sym e) tt

  set_right : (asked : TheAsked) (ts : Trees FlatLeaf) → IsRight (model_of n) asked (set_of ts) → AreRight (model_of n) asked ts
  set_right its_value ts h = set_refused (unlike_first mismatch (kinds_in (judge_trees (kind_of_leaf (model_of n)) ts))) (broken_in (judge_trees (kind_of_leaf (model_of n)) ts)) h
  set_right (whether_has v) ts h =
      let js = judge_trees (kind_of_leaf (model_of n)) ts in none_second (unlike_first mismatch (kinds_in js) ++ rule_if (true && not h.0) set_here) (broken_in js) h.1

  pub set_built : (asked : TheAsked) (ts : Trees FlatLeaf) (s t : Circuit) (p : ExpressionSignal) (l : Literal) → BuildsMembers n asked ts s t l → signal_of p.signal ≡ bit l → BuildsPart n asked (set_of ts) s t p
  unfolding encoded
  set_built asked ts s t p l made e = record {
    usable = subst (IsSignal t) (sym e) made.below;
    grows = made.grows;
    right = λ is. record { exact = made.right (set_right asked ts is) ∙ ap (λ x. (t, x)) (sym e); told = set_told asked ts p l e is };
  }

  -- ---- choices

  choice_sides : (sets : Bool) (d a b : Tree FlatLeaf) → (judged_in (model_of n) sets (choice d a b)).broken ≡ []
      → ((judged_in (model_of n) false d).broken ≡ []) × ((judged_in (model_of n) sets a).broken ≡ []) × ((judged_in (model_of n) sets b).broken ≡ [])
  choice_sides sets d a b h =
      let jd = judged_in (model_of n) false d in
      let ja = judged_in (model_of n) sets a in
      let jb = judged_in (model_of n) sets b in
      let own = (unless_class truth_class not_boolean jd.kind ++ unless_class ja.kind.class mismatch jb.kind) ++ rule_if ((ja.is_set || jb.is_set) && not sets) set_here in
      let parts : jd.broken ++ (ja.broken ++ jb.broken) ≡ [] = none_second own _ h in
      let two : ja.broken ++ jb.broken ≡ [] = none_second jd.broken _ parts in
      (none_first jd.broken _ parts, none_first ja.broken jb.broken two, none_second ja.broken jb.broken two)

  sides_right : (asked : TheAsked) (d a b : Tree FlatLeaf) → IsRight (model_of n) asked (choice d a b)
      → IsRight (model_of n) its_value d × IsRight (model_of n) asked a × IsRight (model_of n) asked b
  sides_right its_value d a b h = choice_sides false d a b h
  sides_right (whether_has v) d a b h = let k = choice_sides h.0 d a b h.1 in (k.0, (h.0, k.1), (h.0, k.2))

  -- a choice without a set keeps what is known of both sides
  choice_sort : (d a b : Tree FlatLeaf) → IsRight (model_of n) its_value (choice d a b) → (x y : Sort) → x ≡ told_sort (judged_in (model_of n) false a).kind → y ≡ told_sort (judged_in (model_of n) false b).kind
      → joined_sort x y ≡ told_sort (judged_in (model_of n) false (choice d a b)).kind
  choice_sort d a b h x y e f =
      let jd = judged_in (model_of n) false d in
      let ja = judged_in (model_of n) false a in
      let jb = judged_in (model_of n) false b in
      let own = (unless_class truth_class not_boolean jd.kind ++ unless_class ja.kind.class mismatch jb.kind) ++ rule_if ((ja.is_set || jb.is_set) && not false) set_here in
      ap (λ z. joined_sort z y) e ∙ ap (λ z. joined_sort (told_sort ja.kind) z) f
      ∙ ap (λ i. record { class = told_class ja.kind.class; interval = i }) (sym (kept_interval own (joined ja.kind.interval jb.kind.interval) (none_first own _ h)))

  -- the width does not matter to truth values
  pub bits_chosen : (j k : ℕ) (l : Literal) (e f : Signal) (s : Circuit) → IsBit e → IsBit f → choice_gates j l e f s ≡ choice_gates k l e f s
  bits_chosen j k l (bit a) (bit b) s he hf = refl
  bits_chosen j k l (bit a) (word b) s he hf = absurd hf
  bits_chosen j k l (word a) f s he hf = absurd he

  pub bit_chosen : (k : ℕ) (l : Literal) (e f : Signal) (s : Circuit) → IsBit e → IsBit f → IsBit (choice_gates k l e f s).1
  bit_chosen k l (bit a) (bit b) s he hf = tt
  bit_chosen k l (bit a) (word b) s he hf = absurd hf
  bit_chosen k l (word a) f s he hf = absurd he

  choice_width : n.symbols ≡ symbol_width (model_of n).symbols → (asked : TheAsked) (d a b : Tree FlatLeaf) (pa pb : ExpressionSignal) (l : Literal) (s : Circuit) → IsRight (model_of n) asked (choice d a b)
      → IsTold (model_of n) asked a pa → IsTold (model_of n) asked b pb
      → choice_gates ((names_in n).width (choice d a b)) l (signal_of pa.signal) (signal_of pb.signal) s ≡ choice_gates (sort_width n.symbols (joined_sort pa.sort pb.sort)) l (signal_of pa.signal) (signal_of pb.signal) s
  choice_width known its_value d a b pa pb l s h ta tb =
      ap (λ k. choice_gates k l (signal_of pa.signal) (signal_of pb.signal) s)
      (sym (kind_told (model_of n).symbols n.symbols (judged_in (model_of n) false (choice d a b)).kind (joined_sort pa.sort pb.sort) known (choice_sort d a b h pa.sort pb.sort ta tb)))
  choice_width known (whether_has v) d a b pa pb l s h ta tb = bits_chosen _ _ l (signal_of pa.signal) (signal_of pb.signal) s ta tb

  choice_told : (asked : TheAsked) (d a b : Tree FlatLeaf) (pa pb p : ExpressionSignal) (l : Literal) (s t : Circuit) (k : ℕ) → IsRight (model_of n) asked (choice d a b) → IsTold (model_of n) asked a pa → IsTold (model_of n) asked b pb
      → choice_gates k l (signal_of pa.signal) (signal_of pb.signal) s ≡ (t, signal_of p.signal) → p.sort ≡ joined_sort pa.sort pb.sort → IsTold (model_of n) asked (choice d a b) p
  choice_told its_value d a b pa pb p l s t k h ta tb e f = f ∙ choice_sort d a b h pa.sort pb.sort ta tb
  choice_told (whether_has v) d a b pa pb p l s t k h ta tb e f = subst (λ (r : Circuit × Signal). IsBit r.1) e (bit_chosen k l (signal_of pa.signal) (signal_of pb.signal) s ta tb)

  pub choice_built : n.symbols ≡ symbol_width (model_of n).symbols → (asked : TheAsked) (d a b : Tree FlatLeaf) (s t u w y : Circuit) (pd pa pb p : ExpressionSignal)
      → BuildsPart n its_value d s t pd → BuildsPart n asked a t u pa → BuildsPart n asked b u w pb
      → BuildsSignal w (choice_gates (sort_width n.symbols (joined_sort pa.sort pb.sort)) (literal_in (signal_of pd.signal)) (signal_of pa.signal) (signal_of pb.signal) w) y p.signal
      → p.sort ≡ joined_sort pa.sort pb.sort → BuildsPart n asked (choice d a b) s y p
  unfolding encoded after
  choice_built known asked d a b s t u w y pd pa pb p first second third made e = record {
    usable = made.usable;
    grows = omega (arith, first.grows, second.grows, third.grows, made.grows);
    right = λ is.
        let sides = sides_right asked d a b is in
        let is_d : IsEncoded (model_of n) its_value d (encoded (names_in n) its_value d s) t pd = first.right sides.0 in
        let is_a : IsEncoded (model_of n) asked a (encoded (names_in n) asked a t) u pa = second.right sides.1 in
        let is_b : IsEncoded (model_of n) asked b (encoded (names_in n) asked b u) w pb = third.right sides.2 in
        let wide : ℕ = (names_in n).width (choice d a b) in
        record {
          exact =
              ap (λ r. after r (λ x v. after (encoded (names_in n) asked a v) (λ f z. after (encoded (names_in n) asked b z) (λ g q. choice_gates wide (literal_in x) f g q)))) is_d.exact
              ∙ ap (λ r. after r (λ f z. after (encoded (names_in n) asked b z) (λ g q. choice_gates wide (literal_in (signal_of pd.signal)) f g q))) is_a.exact
              ∙ ap (λ r. after r (λ g q. choice_gates wide (literal_in (signal_of pd.signal)) (signal_of pa.signal) g q)) is_b.exact
              ∙ choice_width known asked d a b pa pb (literal_in (signal_of pd.signal)) w is is_a.told is_b.told
              ∙ made.exact;
          told = choice_told asked d a b pa pb p (literal_in (signal_of pd.signal)) w y _ is is_a.told is_b.told made.exact e;
        };
  }
