-- An encoded expression has the value of the expression, in each assignment that makes the clauses true.
use Rattle.std.proofs.Common.{◌≡◌, ℕ, ◌<◌, Bool, true, false, not, cond, ◌&&◌, ◌||◌, ◌++◌, ℤ, pos, neg_ℤ, ◌-ℤ◌, List, [], flat_map, Option, Some, None, refl, sym, ◌∙◌, ap, subst, arith}
use Rattle.std.proofs.lemmas.Int.{ints}
use Rattle.std.specs.Prelude.{int_lt}
use Rattle.smv_language.specs.declared.expr.Op.{Op}
use Rattle.smv_language.specs.declared.expr.Op.TheVariants as op
use Rattle.smv_language.specs.Language.{Tree, Trees, Branches, leaf, not_of, negate, next_of, binary, choice, case_of, set_of, span, no_tree, tree_then, no_branch, branch_then, AllLeaves, AllLeavesOfTrees, AllLeavesOfBranches, Text, Each, Value, symbol, Values, no_value, one, from_to, either, has, apply, same_value, is_between, opposite as other, Leaves, evaluate, evaluate_trees, evaluate_branches, gives_one, gives_not, gives_negative, gives_either, gives_within, gives_applied, gives_choice}
use Rattle.smv_language.specs.Tree.{truth as is_truth, number as is_number}
use Rattle.smv_language.specs.Values.{truth, number}
use Rattle.smv_language.proofs.ValueLaws.{same_value_equal}
use Rattle.sat_clauses.specs.Literal.{Literal, opposite}
use Rattle.sat_clauses.specs.Models.{TotalAssignment, literal_value, IsBelow}
use Rattle.sat_clauses.proofs.ModelLemmas.{literal_value-opposite}
use Rattle.sat_circuits.specs.Circuit.{Circuit}
use Rattle.sat_circuits.specs.Gates.{constant_lit}
use Rattle.sat_circuits.specs.Meaning.{Means, Extends}
use Rattle.sat_circuits.proofs.Extension.{Means-after, Means-done, Means-weaker}
use Rattle.sat_circuits.proofs.Rows.{or_gate-gives}
use Rattle.sat_circuits.specs.Words.{word_value}
use Rattle.sat_circuits.specs.Bits.{IsCutTo}
use Rattle.sat_circuits.specs.Sums.{negate_gates}
use Rattle.sat_circuits.specs.Numbers.{number_word}
use Rattle.sat_circuits.proofs.Orders.{Fits, exact}
use Rattle.sat_circuits.proofs.DigitMeans.{constant-value, number_word-word}
use Rattle.sat_circuits.proofs.SumMeans.{negate_gates-gives}
use Rattle.smv_lexer.proofs.SignLemmas.{both_true}
use Rattle.smv_type_laws.specs.Intervals.{Interval, just, fits_number, fits}
use Rattle.smv_type_laws.specs.ExpressionKinds.{Class, truth_class, number_class, symbol_class, Kind, KindRule, mismatch, not_boolean, set_here, empty_range, case_end, rule_if, unless_class, wide, joined, first_class, unlike_first, hull_of, broken_in, kinds_in, some_set, ends_in_true, Judged, judge, judge_trees, judge_conditions, judge_values}
use Rattle.smv_type_laws.specs.KindValues.{IsOfClass, LiesIn}
use Rattle.smv_type_laws.proofs.Parts.{none_first, none_second, not_if, not_false, wide_bounded, joined_left, joined_right, Inside, hull_of_holds, Alone, class_kept}
use Rattle.smv_type_laws.proofs.Rows.{truth_given, number_given}
use Rattle.smv_type_laws.proofs.TreeLaws.{no_set, word_true, single, Hold, sound, branches_sound}
use Rattle.smv_type_laws.proofs.SafeLaws.{safe}
use Rattle.sat_encoding_laws.specs.ReadNames.{Reads, ReadsTrees, ReadsBranches}
use Rattle.sat_encoding_laws.specs.Widths.{kind_width, width_by}
use Rattle.sat_encoding_laws.specs.Signals.{Signal, bit, word, literal_in, word_in, fitted, same_gates}
use Rattle.sat_encoding_laws.specs.Expressions.{Asked, its_value, whether_has, Names, at_next, answer, both_gates, encoded, encoded_branches, encoded_members}
use Rattle.sat_encoding_laws.specs.Meanings.{HasValue, AreSymbols, IsSignal, IsReady, Answers}
use Rattle.sat_encoding_laws.proofs.Parts.{ready_later, signal_later, literal_below, word_usable, number_in_word, truth_in_bit, as_bit-means, as_word-means}
use Rattle.sat_encoding_laws.proofs.Fitting.{number_value}
use Rattle.sat_encoding_laws.proofs.Operators.{AreAlike, Tells, tells_test, same_value_from, other_is_not, same_gates-means, operator_gates-means}
use Rattle.sat_encoding_laws.proofs.Choices.{FitsWord, signal_fitted, fitted_value, Chooses, choice_gates-means, between_gates-means}
use Rattle.sat_encoding_laws.proofs.Answering.{one_same, some_same, one_and_some, applied, alike_from_class, kept_interval, kind_value_fits, alone_fits, value_fits, TakesValues, plain_gives, plain_parts, divides_right, MayChoose, choice_answers, may_choose}
use Rattle.sat_encoding_laws.specs.Laws.{IsAskedIn, IsAskedOf}

-- the width of a kind is that of at least one bit
pub some_width : (symbols : List Text) (c : Class) (i : Option Interval) → 0 < width_by symbols c i
some_width symbols number_class (Some i) = omega arith
some_width symbols number_class None = omega arith
some_width symbols truth_class i = omega arith
some_width symbols symbol_class i = omega arith

asked_later : (s t : Circuit) → Extends s t → (m : Asked) → IsAskedIn s m → IsAskedIn t m
asked_later s t e its_value h = tt
asked_later s t e (whether_has u) h = signal_later s t e u h

module _ (L : Type 0) (symbols : List Text) (are : AreSymbols symbols) (k : L → Kind) (good : L → Type 0) where
  -- the names have signals that may be used, and words the widths of kinds
  pub record IsNaming (s : Circuit) (c : Names L) : Type 0 where
    pub now : (l : L) → IsSignal s (c.now l)
    pub next : (l : L) → IsSignal s (c.next l)
    pub width : (t : Tree L) → c.width t ≡ kind_width symbols (judge k false t).kind

  -- The leaves give values of their kinds now and next, which the signals have, but of those that are left out now or
  -- next.
  pub record IsFit (v : TotalAssignment) (c : Names L) (tn tx : L → Bool) (now next : Leaves L) : Type 0 where
    pub holds_now : Hold L k good now
    pub holds_next : Hold L k good next
    pub has_now : (l : L) → good l → tn l ≡ false → (x : Value) → now l ≡ Some (one x) → HasValue symbols v (c.now l) x
    pub has_next : (l : L) → good l → tx l ≡ false → (x : Value) → next l ≡ Some (one x) → HasValue symbols v (c.next l) x

  -- the signal answers for the tree, where that breaks no rule
  abbrev pub Right : Names L → Asked → Tree L → TotalAssignment → Signal → Type 0
  Right c m t v e =
      (tn tx : L → Bool) (now next : Leaves L) → IsFit v c tn tx now next → Reads good tn tx t → (sets : Bool) → IsAskedOf m sets → (judge k sets t).broken ≡ [] →
      Answers symbols v m (judge k sets t).kind.class (evaluate now next t) e

  -- the signal has the value of the tree
  abbrev pub Valued : Names L → Tree L → TotalAssignment → Signal → Type 0
  Valued c t v e =
      (tn tx : L → Bool) (now next : Leaves L) → IsFit v c tn tx now next → Reads good tn tx t → (judge k false t).broken ≡ [] → (x : Value) → evaluate now next t ≡ Some (one x) → HasValue symbols v e x

  -- what is read is good
  mutual
    pub leaves : (tn tx : L → Bool) (t : Tree L) → Reads good tn tx t → AllLeaves good t
    leaves tn tx (is_truth b) h = tt
    leaves tn tx (is_number n) h = tt
    leaves tn tx (leaf l) h = h.0
    leaves tn tx (not_of a) h = leaves tn tx a h
    leaves tn tx (negate a) h = leaves tn tx a h
    leaves tn tx (next_of a) h = leaves tx tx a h
    leaves tn tx (binary o a b) h = (leaves tn tx a h.0, leaves tn tx b h.1)
    leaves tn tx (choice d a b) h = (leaves tn tx d h.0, leaves tn tx a h.1, leaves tn tx b h.2)
    leaves tn tx (case_of bs) h = branches_leaves tn tx bs h
    leaves tn tx (set_of ts) h = trees_leaves tn tx ts h
    leaves tn tx (span lo hi) h = tt

    pub trees_leaves : (tn tx : L → Bool) (ts : Trees L) → ReadsTrees good tn tx ts → AllLeavesOfTrees good ts
    trees_leaves tn tx no_tree h = tt
    trees_leaves tn tx (tree_then t ts) h = (leaves tn tx t h.0, trees_leaves tn tx ts h.1)

    pub branches_leaves : (tn tx : L → Bool) (bs : Branches L) → ReadsBranches good tn tx bs → AllLeavesOfBranches good bs
    branches_leaves tn tx no_branch h = tt
    branches_leaves tn tx (branch_then d a bs) h = (leaves tn tx d h.0, leaves tn tx a h.1, branches_leaves tn tx bs h.2)

  naming_later : (s t : Circuit) → Extends s t → (c : Names L) → IsNaming s c → IsNaming t c
  naming_later s t e c n = record { now = λ l. signal_later s t e (c.now l) (n.now l); next = λ l. signal_later s t e (c.next l) (n.next l); width = n.width }

  naming_next : (s : Circuit) (c : Names L) → IsNaming s c → IsNaming s (at_next c)
  naming_next s c n = record { now = n.next; next = n.next; width = n.width }

  fit_next : (v : TotalAssignment) (c : Names L) (tn tx : L → Bool) (now next : Leaves L) → IsFit v c tn tx now next → IsFit v (at_next c) tx tx next next
  fit_next v c tn tx now next f = record { holds_now = f.holds_next; holds_next = f.holds_next; has_now = f.has_next; has_next = f.has_next }

  wide_enough : (s : Circuit) (c : Names L) → IsNaming s c → (t : Tree L) → 0 < c.width t
  wide_enough s c n t = subst (λ (i : ℕ). 0 < i) (sym (n.width t)) (some_width symbols (judge k false t).kind.class (judge k false t).kind.interval)

  -- a part that is no set has one value
  lone : (v : TotalAssignment) (c : Names L) (tn tx : L → Bool) (now next : Leaves L) → IsFit v c tn tx now next → (t : Tree L) → Reads good tn tx t → (judge k false t).broken ≡ [] → Alone (judge k false t) (evaluate now next t)
  lone v c tn tx now next f t own e = single k t (evaluate now next t) (sound L k good now next f.holds_now f.holds_next false t (leaves tn tx t own)) e

  -- its value fits the width of its words
  lone_fits : (v : TotalAssignment) (s : Circuit) (c : Names L) (tn tx : L → Bool) (now next : Leaves L) → IsNaming s c → IsFit v c tn tx now next → (t : Tree L) → Reads good tn tx t → (judge k false t).broken ≡ []
      → (x : Value) → evaluate now next t ≡ Some (one x) → FitsWord symbols (c.width t) x
  lone_fits v s c tn tx now next n f t own e x is =
      subst (λ (i : ℕ). FitsWord symbols i x) (sym (n.width t)) (alone_fits symbols are (judge k false t) (evaluate now next t) x (lone v c tn tx now next f t own e) is)

  -- where its value is right, so is what is asked of a tree that is never a set
  answer-means : (c : Names L) (m : Asked) (t : Tree L) → ((sets : Bool) → judge k sets t ≡ judge k false t) → (s : Circuit) → IsReady s → IsAskedIn s m → (r : Circuit × Signal)
      → Means s r IsSignal (Valued c t) → Means s (answer m r) IsSignal (Right c m t)
  answer-means c its_value t plain s ready asked r mm =
      Means-weaker s r IsSignal IsSignal _ _ mm (λ h. h)
      (λ v h p tn tx now next fit own sets may broken x is. p tn tx now next fit own (subst (λ (j : Judged). j.broken ≡ []) (plain sets) broken) x is)
  answer-means c (whether_has u) t plain s ready asked r mm =
      Means-after s r _ _ _ _ _ mm (λ e s1 he et.
      as_bit-means s1 _ _ _ (ready_later s s1 et ready).truth (same_gates-means symbols are s1 (ready_later s s1 et ready) u e (signal_later s s1 et u asked) he)
      (λ v one_true tells p tn tx now next fit own sets may broken x vs class hx is.
      let kept : (judge k false t).broken ≡ [] = subst (λ (j : Judged). j.broken ≡ []) (plain sets) broken in
      let a = lone v c tn tx now next fit t own kept in
      let y : Value = a.gives.value in
      let same : one y ≡ vs = one_and_some y vs (evaluate now next t) a.gives.is is in
      let of_class : IsOfClass (judge k false t).kind.class x = subst (λ (j : Judged). IsOfClass j.kind.class x) (plain sets) class in
      let told : Tells v (same_gates u e s1).1 x y = tells x y (alike_from_class _ x y of_class a.gives.of_kind.class) hx (p tn tx now next fit own kept y a.gives.is) in
      subst (λ (ws : Values). HasValue symbols v (bit (same_gates u e s1).1) (truth (has ws x))) same
      (tells_test v (same_gates u e s1).1 x y (same_value y x) told (λ q. sym (same_value_equal y x q)) (λ q. same_value_from y x (sym q)))))

  -- both operands, and then the operator
  both-means : (c : Names L) (o : Op) (a b : Tree L) → TakesValues o
      → ((judge k false (binary o a b)).broken ≡ [] → ((judge k false a).broken ≡ []) × ((judge k false b).broken ≡ []))
      → (s : Circuit) → IsReady s → IsNaming s c
      → Means s (encoded c its_value a s) IsSignal (Right c its_value a)
      → ((t : Circuit) → IsReady t → IsNaming t c → Means t (encoded c its_value b t) IsSignal (Right c its_value b))
      → Means s (both_gates o (c.width (binary o a b)) (λ t. encoded c its_value a t) (λ t. encoded c its_value b t) s) IsSignal (Valued c (binary o a b))
  both-means c o a b takes parts s ready naming ma mb =
      Means-after s _ _ _ _ _ _ ma (λ e s1 he e1.
      Means-after s1 _ _ _ _ _ _ (mb s1 (ready_later s s1 e1 ready) (naming_later s s1 e1 c naming)) (λ f s2 hf e2.
      let ready2 = ready_later s1 s2 e2 (ready_later s s1 e1 ready) in
      Means-weaker s2 _ IsSignal IsSignal _ _ (operator_gates-means symbols are s2 ready2 o (c.width (binary o a b)) (wide_enough s c naming (binary o a b)) e f (signal_later s1 s2 e2 e he) hf) (λ h. h)
      (λ v h operates pb pa tn tx now next fit own broken z is.
      let kept = parts broken in
      let x = lone v c tn tx now next fit a own.0 kept.0 in
      let y = lone v c tn tx now next fit b own.1 kept.1 in
      let given : gives_applied o (evaluate now next a) (evaluate now next b) ≡ Some (one z) = sym (plain_gives o takes (evaluate now next a) (evaluate now next b)) ∙ is in
      let made : gives_one (apply o x.gives.value y.gives.value) ≡ Some (one z) = sym (λ i. gives_applied o (x.gives.is i) (y.gives.is i)) ∙ given in
      let unharmed = safe L k good now next fit.holds_now fit.holds_next false (binary o a b) (leaves tn tx (binary o a b) own) broken in
      operates x.gives.value y.gives.value z (pa tn tx now next fit own.0 false refl kept.0 x.gives.value x.gives.is) (pb tn tx now next fit own.1 false refl kept.1 y.gives.value y.gives.is)
      (applied (apply o x.gives.value y.gives.value) z made)
      (value_fits symbols (c.width (binary o a b)) z (lone_fits v s c tn tx now next naming fit (binary o a b) own broken z is))
      (divides_right o (evaluate now next b) y.gives.value unharmed.1 y.gives.is))))

  -- ---- one node, from its parts

  not_valued : (c : Names L) (a : Tree L) (v : TotalAssignment) (e : Signal) → Right c its_value a v e → Valued c (not_of a) v (bit (opposite (literal_in e)))
  not_valued c a v e pa tn tx now next fit own broken x is =
      let j = judge k false a in
      let kept = none_second (unless_class truth_class not_boolean j.kind) j.broken broken in
      let class = class_kept truth_class not_boolean j.kind (none_first _ j.broken broken) in
      let b = truth_given (lone v c tn tx now next fit a own kept) class in
      let same : truth (other b.0) ≡ x = one_same (truth (other b.0)) x (gives_not (evaluate now next a)) (ap gives_not b.1) is in
      let value : literal_value v (literal_in e) ≡ b.0 = truth_in_bit symbols v e b.0 (pa tn tx now next fit own false refl kept (truth b.0) b.1) in
      subst (HasValue symbols v (bit (opposite (literal_in e)))) same (literal_value-opposite v (literal_in e) ∙ ap not value ∙ sym (other_is_not b.0))

  zero_less : (z : ℤ) → neg_ℤ z ≡ pos 0 -ℤ z
  zero_less z = omega (arith, ints)

  negate_valued : (s : Circuit) (c : Names L) → IsNaming s c → (a : Tree L) (v : TotalAssignment) (e : Signal) (w : List Literal) → Right c its_value a v e
      → IsCutTo (c.width (negate a)) (neg_ℤ (word_value v (word_in e))) (word_value v w) → Valued c (negate a) v (word w)
  negate_valued s c naming a v e w pa cut tn tx now next fit own broken x is =
      let j = judge k false a in
      let kept = none_second (unless_class number_class mismatch j.kind ++ _) j.broken broken in
      let class = class_kept number_class mismatch j.kind (none_first _ _ (none_first _ j.broken broken)) in
      let n = number_given (lone v c tn tx now next fit a own kept) class in
      let same : number (pos 0 -ℤ n.0) ≡ x = one_same (number (pos 0 -ℤ n.0)) x (gives_negative (evaluate now next a)) (ap gives_negative n.1) is in
      let value : word_value v (word_in e) ≡ n.0 = number_in_word symbols v e n.0 (pa tn tx now next fit own false refl kept (number n.0) n.1) in
      let fits : Fits (c.width (negate a)) (pos 0 -ℤ n.0) = subst (FitsWord symbols (c.width (negate a))) (sym same) (lone_fits v s c tn tx now next naming fit (negate a) own broken x is) in
      let here : IsCutTo (c.width (negate a)) (pos 0 -ℤ n.0) (word_value v w) = subst (λ (z : ℤ). IsCutTo (c.width (negate a)) z (word_value v w)) (ap neg_ℤ value ∙ zero_less n.0) cut in
      subst (HasValue symbols v (word w)) same (exact (c.width (negate a)) (pos 0 -ℤ n.0) (word_value v w) (wide_enough s c naming (negate a)) fits here)

  either_parts : (ra rb : Option Values) (vs : Values) → gives_either ra rb ≡ Some vs → (va vb : Values) × (ra ≡ Some va) × (rb ≡ Some vb) × (either va vb ≡ vs)
  either_parts (Some a) (Some b) vs e = (a, b, refl, refl, cc)
  either_parts (Some a) None vs e = cc
  either_parts None rb vs e = cc

  -- where no set may stand there is no union, span or set
  never_set : (t : Tree L) (sets : Bool) → ((q : Bool) → (judge k q t).is_set ≡ true) → sets ≡ false → (judge k sets t).broken ≡ [] → {A : Type 0} → A
  never_set t sets set e broken = cc (set false, no_set k t (subst (λ (q : Bool). (judge k q t).broken ≡ []) e broken))

  union_right : (c : Names L) (m : Asked) (a b : Tree L) (v : TotalAssignment) (e f : Signal) (l : Literal) → Right c m a v e → Right c m b v f
      → literal_value v l ≡ (literal_value v (literal_in e) || literal_value v (literal_in f)) → Right c m (binary op.Union a b) v (bit l)
  union_right c its_value a b v e f l pa pb is tn tx now next fit own sets may broken = never_set (binary op.Union a b) sets (λ q. refl) may broken
  union_right c (whether_has u) a b v e f l pa pb is tn tx now next fit own sets may broken = λ x vs class hx es.
      let ja = judge k true a in
      let jb = judge k true b in
      let parts = none_second _ (ja.broken ++ jb.broken) broken in
      let same_class = class_kept ja.kind.class mismatch jb.kind (none_first _ _ (none_first _ (ja.broken ++ jb.broken) broken)) in
      let p = either_parts (evaluate now next a) (evaluate now next b) vs es in
      let left : literal_value v (literal_in e) ≡ has p.0 x = truth_in_bit symbols v e _ (pa tn tx now next fit own.0 true tt (none_first ja.broken _ parts) x p.0 class hx p.2) in
      let right : literal_value v (literal_in f) ≡ has p.1 x =
      truth_in_bit symbols v f _ (pb tn tx now next fit own.1 true tt (none_second ja.broken _ parts) x p.1 (subst (λ (d : Class). IsOfClass d x) (sym same_class) class) hx p.3) in
      subst (λ (ws : Values). literal_value v l ≡ has ws x) p.4 (is ∙ (λ i. left i || right i))

  within_valued : (c : Names L) (a b : Tree L) (v : TotalAssignment) (e g : Signal) → Right c its_value a v e → Right c (whether_has e) b v g → Valued c (binary op.Within a b) v g
  within_valued c a b v e g pa pb tn tx now next fit own broken x is =
      let ja = judge k false a in
      let jb = judge k true b in
      let parts = none_second (unless_class ja.kind.class mismatch jb.kind) (ja.broken ++ jb.broken) broken in
      let same_class = class_kept ja.kind.class mismatch jb.kind (none_first _ (ja.broken ++ jb.broken) broken) in
      let kept_a = none_first ja.broken _ parts in
      let kept_b = none_second ja.broken _ parts in
      let y = (lone v c tn tx now next fit a own.0 kept_a).gives in
      let some = (sound L k good now next fit.holds_now fit.holds_next true b (leaves tn tx b own.1) kept_b).gives in
      let same : truth (has some.values y.value) ≡ x =
      one_same (truth (has some.values y.value)) x (gives_within (evaluate now next a) (evaluate now next b)) (λ i. gives_within (y.is i) (some.is i)) is in
      subst (HasValue symbols v g) same
      (pb tn tx now next fit own.1 true tt kept_b y.value some.values (subst (λ (d : Class). IsOfClass d y.value) (sym same_class) y.of_kind.class) (pa tn tx now next fit own.0 false refl kept_a y.value y.is) some.is)

  span_right : (c : Names L) (u : Signal) (lo hi : ℤ) (v : TotalAssignment) (l : Literal) → v 1 ≡ true
      → (fits_number lo ≡ true → fits_number hi ≡ true → v 1 ≡ true → (n : ℤ) → HasValue symbols v u (number n) → literal_value v l ≡ is_between lo hi (number n)) → Right c (whether_has u) (span lo hi) v (bit l)
  span_right c u lo hi v l one_true between tn tx now next fit own sets may broken x vs class hx es =
      let here = rule_if (int_lt hi lo) empty_range in
      let exact_ends = wide (Some (record { lo = lo; hi = hi })) in
      let ends = both_true _ _ (wide_bounded (record { lo = lo; hi = hi }) (none_second here exact_ends (none_first (here ++ exact_ends) _ (none_first _ [] broken)))) in
      let same : from_to lo hi ≡ vs = some_same (from_to lo hi) vs (Some (from_to lo hi)) refl es in
      subst (λ (ws : Values). HasValue symbols v (bit l) (truth (has ws x))) same (by x class hx (between ends.0 ends.1 one_true))
    where
      by : (x : Value) → IsOfClass number_class x → HasValue symbols v u x → ((n : ℤ) → HasValue symbols v u (number n) → literal_value v l ≡ is_between lo hi (number n)) → literal_value v l ≡ has (from_to lo hi) x
      by (number n) class hx f = f n hx
      by (truth b) class hx f = absurd class
      by (symbol y) class hx f = absurd class

  -- ---- choices and branches

  no_sets : (m : Asked) (sets : Bool) → IsAskedOf m sets → m ≡ its_value → sets ≡ false
  no_sets its_value sets may e = may
  no_sets (whether_has u) sets may e = cc

  -- the chosen literal as the truth value that it has
  chooses_by : (n : ℕ) (d : Literal) (e f : Signal) (v : TotalAssignment) (g : Signal) (p : Bool) → literal_value v d ≡ p → Chooses symbols n d e f v g
      → (x y : Value) → AreAlike x y → HasValue symbols v e x → HasValue symbols v f y → FitsWord symbols n (cond p x y) → HasValue symbols v g (cond p x y)
  chooses_by n d e f v g p is ch x y alike hx hy =
      subst (λ (q : Bool). FitsWord symbols n (cond q x y) → HasValue symbols v g (cond q x y)) is (ch x y alike hx hy)

  -- each value of the class in the target fits the width
  abbrev pub FitsTarget : Asked → Class → ℕ → Option Interval → Type 0
  FitsTarget m c n target = m ≡ its_value → (x : Value) → IsOfClass c x → LiesIn target x → FitsWord symbols n x

  -- a part may be chosen
  part_chosen : (c : Names L) (m : Asked) (v : TotalAssignment) (tn tx : L → Bool) (now next : Leaves L) → IsFit v c tn tx now next → (sets : Bool) → IsAskedOf m sets → (a : Tree L) → Reads good tn tx a → (judge k sets a).broken ≡ []
      → (class : Class) → (judge k sets a).kind.class ≡ class → (n : ℕ) (target : Option Interval) → Inside target (judge k sets a).kind → FitsTarget m class n target
      → MayChoose symbols m class n (evaluate now next a)
  part_chosen c m v tn tx now next fit sets may a own kept class same n target inside fits =
      may_choose symbols m class n (judge k sets a) (evaluate now next a) (sound L k good now next fit.holds_now fit.holds_next sets a (leaves tn tx a own) kept) same
      (λ ask. (no_set_in ask, λ x of_class lies. fits ask x of_class (inside x lies)))
    where
      no_set_in : m ≡ its_value → (judge k sets a).is_set ≡ false
      no_set_in ask =
          let none : sets ≡ false = no_sets m sets may ask in
          subst (λ (q : Bool). (judge k q a).is_set ≡ false) (sym none) (no_set k a (subst (λ (q : Bool). (judge k q a).broken ≡ []) none kept))

  choice_right : (s : Circuit) (c : Names L) → IsNaming s c → (m : Asked) (d a b : Tree L) (v : TotalAssignment) (p e f g : Signal) → Right c its_value d v p → Right c m a v e → Right c m b v f
      → Chooses symbols (c.width (choice d a b)) (literal_in p) e f v g → Right c m (choice d a b) v g
  choice_right s c naming m d a b v p e f g pd pa pb ch tn tx now next fit own sets may broken =
      let jc = judge k false d in
      let ja = judge k sets a in
      let jb = judge k sets b in
      let left = unless_class truth_class not_boolean jc.kind in
      let right = unless_class ja.kind.class mismatch jb.kind in
      let all = (left ++ right) ++ rule_if ((ja.is_set || jb.is_set) && not sets) set_here in
      let rules = none_first all (jc.broken ++ (ja.broken ++ jb.broken)) broken in
      let none = none_first (left ++ right) _ rules in
      let parts = none_second all (jc.broken ++ (ja.broken ++ jb.broken)) broken in
      let more = none_second jc.broken (ja.broken ++ jb.broken) parts in
      let kept_d = none_first jc.broken _ parts in
      let kept_a = none_first ja.broken _ more in
      let kept_b = none_second ja.broken _ more in
      let q = truth_given (lone v c tn tx now next fit d own.0 kept_d) (class_kept truth_class not_boolean jc.kind (none_first left right none)) in
      let same = class_kept ja.kind.class mismatch jb.kind (none_second left right none) in
      let chosen : literal_value v (literal_in p) ≡ q.0 = truth_in_bit symbols v p q.0 (pd tn tx now next fit own.0 false refl kept_d (truth q.0) q.1) in
      let target = joined ja.kind.interval jb.kind.interval in
      choice_answers symbols v m ja.kind.class (c.width (choice d a b)) e f g (evaluate now next d) (evaluate now next a) (evaluate now next b) q.0 q.1
      (chooses_by (c.width (choice d a b)) (literal_in p) e f v g q.0 chosen ch)
      (pa tn tx now next fit own.1 sets may kept_a)
      (subst (λ (w : Class). Answers symbols v m w (evaluate now next b) f) same (pb tn tx now next fit own.2 sets may kept_b))
      (part_chosen c m v tn tx now next fit sets may a own.1 kept_a ja.kind.class refl (c.width (choice d a b)) target (λ x h. joined_left ja.kind.interval jb.kind.interval x h) (fits all rules))
      (part_chosen c m v tn tx now next fit sets may b own.2 kept_b ja.kind.class same (c.width (choice d a b)) target (λ x h. joined_right ja.kind.interval jb.kind.interval x h) (fits all rules))
    where
      fits : (all : List KindRule) → all ≡ [] → FitsTarget m (judge k sets a).kind.class (c.width (choice d a b)) (joined (judge k sets a).kind.interval (judge k sets b).kind.interval)
      fits all rules = λ ask.
          let none : sets ≡ false = no_sets m sets may ask in
          subst (λ (q : Bool). (x : Value) → IsOfClass (judge k q a).kind.class x → LiesIn (joined (judge k q a).kind.interval (judge k q b).kind.interval) x → FitsWord symbols (c.width (choice d a b)) x) (sym none)
          (at_false (subst (λ (q : Bool). (judge k q (choice d a b)).broken ≡ []) none broken))
        where
          at_false : (judge k false (choice d a b)).broken ≡ [] → (x : Value) → IsOfClass (judge k false a).kind.class x
              → LiesIn (joined (judge k false a).kind.interval (judge k false b).kind.interval) x → FitsWord symbols (c.width (choice d a b)) x
          at_false kept x class lies =
              let j = judge k false (choice d a b) in
              let target = joined (judge k false a).kind.interval (judge k false b).kind.interval in
              let s0 = sound L k good now next fit.holds_now fit.holds_next false (choice d a b) (leaves tn tx (choice d a b) own) kept in
              let known : j.kind.interval ≡ target = kept_interval _ target (none_first _ ((judge k false d).broken ++ ((judge k false a).broken ++ (judge k false b).broken)) kept) in
              subst (λ (i : ℕ). FitsWord symbols i x) (sym (naming.width (choice d a b)))
              (kind_value_fits symbols are j.kind.class j.kind.interval x s0.bounded class (subst (λ (i : Option Interval). LiesIn i x) (sym known) lies))

  -- the signal answers for the branches, whose values are of one class and in the target
  abbrev pub BranchesRight : Names L → Asked → ℕ → Branches L → TotalAssignment → Signal → Type 0
  BranchesRight c m n bs v e =
      (tn tx : L → Bool) (now next : Leaves L) → IsFit v c tn tx now next → ReadsBranches good tn tx bs → (sets : Bool) → IsAskedOf m sets → ends_in_true bs ≡ true →
      flat_map (unless_class truth_class not_boolean) (kinds_in (judge_conditions k bs)) ≡ [] → broken_in (judge_conditions k bs) ≡ [] → broken_in (judge_values k sets bs) ≡ [] →
      (class : Class) → flat_map (unless_class class mismatch) (kinds_in (judge_values k sets bs)) ≡ [] → (target : Option Interval) → Each (Inside target) (kinds_in (judge_values k sets bs)) →
      FitsTarget m class n target → Answers symbols v m class (evaluate_branches now next bs) e

  values_no_set : (bs : Branches L) → broken_in (judge_values k false bs) ≡ [] → some_set (judge_values k false bs) ≡ false
  values_no_set no_branch e = refl
  values_no_set (branch_then d a bs) e =
      let here = no_set k a (none_first (judge k false a).broken _ e) in
      let more = values_no_set bs (none_second (judge k false a).broken _ e) in
      rw (here, more) refl

  branches_chosen : (c : Names L) (m : Asked) (v : TotalAssignment) (tn tx : L → Bool) (now next : Leaves L) → IsFit v c tn tx now next → (sets : Bool) → IsAskedOf m sets → (bs : Branches L) → ReadsBranches good tn tx bs
      → ends_in_true bs ≡ true → flat_map (unless_class truth_class not_boolean) (kinds_in (judge_conditions k bs)) ≡ [] → broken_in (judge_conditions k bs) ≡ [] → broken_in (judge_values k sets bs) ≡ []
      → (class : Class) → flat_map (unless_class class mismatch) (kinds_in (judge_values k sets bs)) ≡ [] → (n : ℕ) (target : Option Interval) → Each (Inside target) (kinds_in (judge_values k sets bs))
      → FitsTarget m class n target → MayChoose symbols m class n (evaluate_branches now next bs)
  branches_chosen c its_value v tn tx now next fit sets may bs own ends truths ec ev class same n target inside fits =
      let b = branches_sound L k good now next fit.holds_now fit.holds_next sets bs (branches_leaves tn tx bs own) ends truths ec ev class same target inside in
      let none : some_set (judge_values k sets bs) ≡ false =
      subst (λ (q : Bool). some_set (judge_values k q bs) ≡ false) (sym may) (values_no_set bs (subst (λ (q : Bool). broken_in (judge_values k q bs) ≡ []) may ev)) in
      let y = b.alone none in
      (y.value, y.is, y.of_kind.class, fits refl y.value y.of_kind.class y.of_kind.lies)
  branches_chosen c (whether_has u) v tn tx now next fit sets may bs own ends truths ec ev class same n target inside fits =
      let b = branches_sound L k good now next fit.holds_now fit.holds_next sets bs (branches_leaves tn tx bs own) ends truths ec ev class same target inside in
      (b.gives.values, b.gives.is)

  last_right : (s : Circuit) (c : Names L) (m : Asked) (n : ℕ) → 0 < n → (d a : Tree L) (v : TotalAssignment) (e : Signal) → IsSignal s e → Right c m a v e
      → BranchesRight c m n (branch_then d a no_branch) v (fitted n e)
  last_right s c its_value n some d a v e he pa tn tx now next fit own sets may ends truths ec ev class same target inside fits = λ x is.
      let taken : evaluate now next a ≡ Some (one x) = sym (ap (λ r. gives_choice r (evaluate now next a) None) (word_true now next d ends)) ∙ is in
      let j = judge k sets a in
      let kept = none_first j.broken _ ev in
      let chosen = part_chosen c its_value v tn tx now next fit sets may a own.1 kept class (class_kept class mismatch j.kind (none_first _ _ same)) n target inside.0 fits in
      let here : chosen.0 ≡ x = one_same chosen.0 x (evaluate now next a) chosen.1 taken in
      fitted_value symbols s v n some e he x (pa tn tx now next fit own.1 sets may kept x taken) (subst (FitsWord symbols n) here chosen.3)
  last_right s c (whether_has u) n some d a v e he pa tn tx now next fit own sets may ends truths ec ev class same target inside fits = λ x vs of_class hx es.
      let taken : evaluate now next a ≡ Some vs = sym (ap (λ r. gives_choice r (evaluate now next a) None) (word_true now next d ends)) ∙ es in
      let j = judge k sets a in
      let kept = none_first j.broken _ ev in
      let class_is = class_kept class mismatch j.kind (none_first _ _ same) in
      fitted_value symbols s v n some e he (truth (has vs x)) (pa tn tx now next fit own.1 sets may kept x vs (subst (λ (w : Class). IsOfClass w x) (sym class_is) of_class) hx taken) tt

  more_right : (c : Names L) (m : Asked) (n : ℕ) (d a d' a' : Tree L) (bs : Branches L) (v : TotalAssignment) (p e f g : Signal) → Right c its_value d v p → Right c m a v e
      → BranchesRight c m n (branch_then d' a' bs) v f → Chooses symbols n (literal_in p) e f v g → BranchesRight c m n (branch_then d a (branch_then d' a' bs)) v g
  more_right c m n d a d' a' bs v p e f g pd pa pb ch tn tx now next fit own sets may ends truths ec ev class same target inside fits =
      let i = judge k false d in
      let j = judge k sets a in
      let kept_d = none_first i.broken _ ec in
      let kept_a = none_first j.broken _ ev in
      let q = truth_given (lone v c tn tx now next fit d own.0 kept_d) (class_kept truth_class not_boolean i.kind (none_first _ _ truths)) in
      let class_is = class_kept class mismatch j.kind (none_first _ _ same) in
      let chosen : literal_value v (literal_in p) ≡ q.0 = truth_in_bit symbols v p q.0 (pd tn tx now next fit own.0 false refl kept_d (truth q.0) q.1) in
      let truths' = none_second (unless_class truth_class not_boolean i.kind) _ truths in
      let ec' = none_second i.broken _ ec in
      let ev' = none_second j.broken _ ev in
      let same' = none_second (unless_class class mismatch j.kind) _ same in
      choice_answers symbols v m class n e f g (evaluate now next d) (evaluate now next a) (evaluate_branches now next (branch_then d' a' bs)) q.0 q.1
      (chooses_by n (literal_in p) e f v g q.0 chosen ch)
      (subst (λ (w : Class). Answers symbols v m w (evaluate now next a) e) class_is (pa tn tx now next fit own.1 sets may kept_a))
      (pb tn tx now next fit own.2 sets may ends truths' ec' ev' class same' target inside.1 fits)
      (part_chosen c m v tn tx now next fit sets may a own.1 kept_a class class_is n target inside.0 fits)
      (branches_chosen c m v tn tx now next fit sets may (branch_then d' a' bs) own.2 ends truths' ec' ev' class same' n target inside.1 fits)

  case_right : (s : Circuit) (c : Names L) → IsNaming s c → (m : Asked) (bs : Branches L) (v : TotalAssignment) (e : Signal) → BranchesRight c m (c.width (case_of bs)) bs v e → Right c m (case_of bs) v e
  case_right s c naming m bs v e pb tn tx now next fit own sets may broken =
      let conditions = judge_conditions k bs in
      let values = judge_values k sets bs in
      let truths = flat_map (unless_class truth_class not_boolean) (kinds_in conditions) in
      let alike = unlike_first mismatch (kinds_in values) in
      let own_rules = truths ++ (alike ++ rule_if (not (ends_in_true bs)) case_end) in
      let all = own_rules ++ rule_if (some_set values && not sets) set_here in
      let rules = none_first all (broken_in conditions ++ broken_in values) broken in
      let none = none_first own_rules _ rules in
      let parts = none_second all (broken_in conditions ++ broken_in values) broken in
      let rest = none_second truths (alike ++ rule_if (not (ends_in_true bs)) case_end) none in
      let ended : ends_in_true bs ≡ true = not_false (ends_in_true bs) (not_if _ case_end (none_second alike (rule_if (not (ends_in_true bs)) case_end) rest)) in
      pb tn tx now next fit own sets may ended (none_first truths _ none) (none_first (broken_in conditions) _ parts) (none_second (broken_in conditions) (broken_in values) parts)
      (first_class (kinds_in values)) (none_first alike _ rest) (hull_of (kinds_in values)) (hull_of_holds (kinds_in values)) fits
    where
      fits : FitsTarget m (first_class (kinds_in (judge_values k sets bs))) (c.width (case_of bs)) (hull_of (kinds_in (judge_values k sets bs)))
      fits ask =
          let none : sets ≡ false = no_sets m sets may ask in
          subst (λ (q : Bool). (x : Value) → IsOfClass (first_class (kinds_in (judge_values k q bs))) x → LiesIn (hull_of (kinds_in (judge_values k q bs))) x → FitsWord symbols (c.width (case_of bs)) x) (sym none)
          (at_false (subst (λ (q : Bool). (judge k q (case_of bs)).broken ≡ []) none broken))
        where
          at_false : (judge k false (case_of bs)).broken ≡ [] → (x : Value) → IsOfClass (first_class (kinds_in (judge_values k false bs))) x
              → LiesIn (hull_of (kinds_in (judge_values k false bs))) x → FitsWord symbols (c.width (case_of bs)) x
          at_false kept x class lies =
              let j = judge k false (case_of bs) in
              let target = hull_of (kinds_in (judge_values k false bs)) in
              let s0 = sound L k good now next fit.holds_now fit.holds_next false (case_of bs) (leaves tn tx (case_of bs) own) kept in
              let known : j.kind.interval ≡ target = kept_interval _ target (none_first _ (broken_in (judge_conditions k bs) ++ broken_in (judge_values k false bs)) kept) in
              subst (λ (i : ℕ). FitsWord symbols i x) (sym (naming.width (case_of bs)))
              (kind_value_fits symbols are j.kind.class j.kind.interval x s0.bounded class (subst (λ (i : Option Interval). LiesIn i x) (sym known) lies))

  -- ---- members of a set

  -- the literal says whether r is TRUE or a value is among the members
  abbrev pub MembersRight : Names L → Asked → Trees L → Literal → TotalAssignment → Signal → Type 0
  MembersRight c its_value ts r v e = Unit {0}
  MembersRight c (whether_has u) ts r v e =
      (tn tx : L → Bool) (now next : Leaves L) → IsFit v c tn tx now next → ReadsTrees good tn tx ts → broken_in (judge_trees k ts) ≡ [] →
      (class : Class) → flat_map (unless_class class mismatch) (kinds_in (judge_trees k ts)) ≡ [] →
      (x : Value) (vs : Values) → IsOfClass class x → HasValue symbols v u x → evaluate_trees now next ts ≡ Some vs → HasValue symbols v e (truth (literal_value v r || has vs x))

  or_none : (b : Bool) → b ≡ (b || false)
  or_none true = refl
  or_none false = refl

  or_more : (a b c : Bool) → ((a || b) || c) ≡ (a || (b || c))
  or_more true b c = refl
  or_more false b c = refl

  none_right : (c : Names L) (m : Asked) (r : Literal) (v : TotalAssignment) → MembersRight c m no_tree r v (bit r)
  none_right c its_value r v = tt
  none_right c (whether_has u) r v = λ tn tx now next fit own broken class same x vs of_class hx es.
      let none : no_value ≡ vs = some_same no_value vs (Some no_value) refl es in
      subst (λ (ws : Values). literal_value v r ≡ (literal_value v r || has ws x)) none (or_none (literal_value v r))

  member_right : (c : Names L) (m : Asked) (t : Tree L) (ts : Trees L) (r q : Literal) (v : TotalAssignment) (e g : Signal) → Right c m t v e
      → literal_value v q ≡ (literal_value v r || literal_value v (literal_in e)) → MembersRight c m ts q v g → MembersRight c m (tree_then t ts) r v g
  member_right c its_value t ts r q v e g pt is pts = tt
  member_right c (whether_has u) t ts r q v e g pt is pts = λ tn tx now next fit own broken class same x vs of_class hx es.
      let j = judge k false t in
      let kept = none_first j.broken _ broken in
      let class_is = class_kept class mismatch j.kind (none_first _ _ same) in
      let p = either_parts (evaluate now next t) (evaluate_trees now next ts) vs es in
      let here : literal_value v (literal_in e) ≡ has p.0 x = truth_in_bit symbols v e _ (pt tn tx now next fit own.0 false tt kept x p.0 (subst (λ (w : Class). IsOfClass w x) (sym class_is) of_class) hx p.2) in
      let rest : HasValue symbols v g (truth (literal_value v q || has p.1 x)) =
      pts tn tx now next fit own.1 (none_second j.broken _ broken) class (none_second (unless_class class mismatch j.kind) _ same) x p.1 of_class hx p.3 in
      let whole : (literal_value v q || has p.1 x) ≡ (literal_value v r || (has p.0 x || has p.1 x)) =
      (λ i. (is ∙ (λ h. literal_value v r || here h)) i || has p.1 x) ∙ or_more (literal_value v r) (has p.0 x) (has p.1 x) in
      subst (λ (ws : Values). HasValue symbols v g (truth (literal_value v r || has ws x))) p.4 (subst (λ (b : Bool). HasValue symbols v g (truth b)) whole rest)

  set_right : (c : Names L) (m : Asked) (ts : Trees L) (v : TotalAssignment) (e : Signal) → v 1 ≡ true → MembersRight c m ts (constant_lit false) v e → Right c m (set_of ts) v e
  set_right c its_value ts v e one_true pts tn tx now next fit own sets may broken = never_set (set_of ts) sets (λ q. refl) may broken
  set_right c (whether_has u) ts v e one_true pts tn tx now next fit own sets may broken = λ x vs class hx es.
      let kinds = kinds_in (judge_trees k ts) in
      let same = none_first (unlike_first mismatch kinds) _ (none_first _ (broken_in (judge_trees k ts)) broken) in
      subst (λ (b : Bool). HasValue symbols v e (truth (b || has vs x))) (constant-value v false one_true)
      (pts tn tx now next fit own (none_second _ (broken_in (judge_trees k ts)) broken) (first_class kinds) same x vs class hx es)

  -- ---- every expression

  number_fits : (n : ℤ) → (judge k false (is_number n)).broken ≡ [] → fits_number n ≡ true
  number_fits n e = (both_true _ _ (wide_bounded (just n) (none_first (wide (Some (just n))) [] e))).0

  mutual
    unfolding encoded

    pub encoded-means : (c : Names L) (m : Asked) (t : Tree L) (s : Circuit) → IsReady s → IsNaming s c → IsAskedIn s m → Means s (encoded c m t s) IsSignal (Right c m t)
    encoded-means c m (is_truth b) s ready naming asked =
        answer-means c m (is_truth b) (λ sets. refl) s ready asked _
        (Means-done s (bit (constant_lit b)) IsSignal (Valued c (is_truth b)) ready.least
        (λ v h tn tx now next fit own broken x is. subst (HasValue symbols v (bit (constant_lit b))) (one_same (truth b) x (Some (one (truth b))) refl is) (constant-value v b (ready.truth v h))))
    encoded-means c m (is_number n) s ready naming asked =
        answer-means c m (is_number n) (λ sets. refl) s ready asked _
        (Means-done s (word (number_word n)) IsSignal (Valued c (is_number n)) (number_word-word n s ready.least)
        (λ v h tn tx now next fit own broken x is.
        subst (HasValue symbols v (word (number_word n))) (one_same (number n) x (Some (one (number n))) refl is) (number_value v n (ready.truth v h) (number_fits n broken))))
    encoded-means c m (leaf l) s ready naming asked =
        answer-means c m (leaf l) (λ sets. refl) s ready asked _
        (Means-done s (c.now l) IsSignal (Valued c (leaf l)) (naming.now l) (λ v h tn tx now next fit own broken x is. fit.has_now l own.0 own.1 x is))
    encoded-means c m (not_of a) s ready naming asked =
        answer-means c m (not_of a) (λ sets. refl) s ready asked _
        (Means-after s _ _ _ _ _ _ (encoded-means c its_value a s ready naming tt) (λ e t he et.
        Means-done t (bit (opposite (literal_in e))) IsSignal _ (literal_below t (ready_later s t et ready).least e he) (λ v h pa. not_valued c a v e pa)))
    encoded-means c m (negate a) s ready naming asked =
        answer-means c m (negate a) (λ sets. refl) s ready asked _
        (Means-after s _ _ _ _ _ _ (encoded-means c its_value a s ready naming tt) (λ e t he et.
        let ready1 = ready_later s t et ready in
        let some = wide_enough s c naming (negate a) in
        as_word-means t _ (c.width (negate a)) _ _ ready1.truth some (negate_gates-gives (word_in e) (c.width (negate a)) t ready1.truth ready1.least some (word_usable t e he))
        (λ v one_true cut pa. negate_valued s c naming a v e (negate_gates (word_in e) (c.width (negate a)) t).1 pa cut)))
    encoded-means c m (next_of a) s ready naming asked =
        answer-means c m (next_of a) (λ sets. refl) s ready asked _
        (Means-weaker s _ IsSignal IsSignal _ _ (encoded-means (at_next c) its_value a s ready (naming_next s c naming) tt) (λ h. h)
        (λ v h pa tn tx now next fit own broken x is. pa tx tx next next (fit_next v c tn tx now next fit) own false refl broken x is))
    encoded-means c m (binary op.Union a b) s ready naming asked =
        Means-after s _ _ _ _ _ _ (encoded-means c m a s ready naming asked) (λ e s1 he e1.
        let ready1 = ready_later s s1 e1 ready in
        Means-after s1 _ _ _ _ _ _ (encoded-means c m b s1 ready1 (naming_later s s1 e1 c naming) (asked_later s s1 e1 m asked)) (λ f s2 hf e2.
        let ready2 = ready_later s1 s2 e2 ready1 in
        as_bit-means s2 _ _ _ ready2.truth
        (or_gate-gives s2 (literal_in e) (literal_in f) (literal_below s2 ready2.least e (signal_later s1 s2 e2 e he)) (literal_below s2 ready2.least f hf))
        (λ v one_true is pb pa. union_right c m a b v e f _ pa pb is)))
    encoded-means c m (binary op.Within a b) s ready naming asked =
        answer-means c m (binary op.Within a b) (λ sets. refl) s ready asked _
        (Means-after s _ _ _ _ _ _ (encoded-means c its_value a s ready naming tt) (λ e s1 he e1.
        Means-weaker s1 _ IsSignal IsSignal _ _ (encoded-means c (whether_has e) b s1 (ready_later s s1 e1 ready) (naming_later s s1 e1 c naming) he) (λ h. h)
        (λ v h pb pa. within_valued c a b v e _ pa pb)))
    encoded-means c m (binary o a b) s ready naming asked =
        answer-means c m (binary o a b) (λ sets. refl) s ready asked _
        (both-means c o a b tt (plain_parts o tt false (judge k false a) (judge k false b)) s ready naming (encoded-means c its_value a s ready naming tt)
        (λ t r n. encoded-means c its_value b t r n tt))
    encoded-means c m (choice d a b) s ready naming asked =
        Means-after s _ _ _ _ _ _ (encoded-means c its_value d s ready naming tt) (λ p s1 hp e1.
        let ready1 = ready_later s s1 e1 ready in
        let naming1 = naming_later s s1 e1 c naming in
        let asked1 = asked_later s s1 e1 m asked in
        Means-after s1 _ _ _ _ _ _ (encoded-means c m a s1 ready1 naming1 asked1) (λ e s2 he e2.
        let ready2 = ready_later s1 s2 e2 ready1 in
        Means-after s2 _ _ _ _ _ _ (encoded-means c m b s2 ready2 (naming_later s1 s2 e2 c naming1) (asked_later s1 s2 e2 m asked1)) (λ f s3 hf e3.
        let ready3 = ready_later s2 s3 e3 ready2 in
        Means-weaker s3 _ IsSignal IsSignal _ _
        (choice_gates-means symbols s3 ready3 (c.width (choice d a b)) (wide_enough s c naming (choice d a b)) (literal_in p)
        (literal_below s3 ready3.least p (signal_later s2 s3 e3 p (signal_later s1 s2 e2 p hp))) e f (signal_later s2 s3 e3 e he) hf) (λ h. h)
        (λ v h ch pb pa pd. choice_right s c naming m d a b v p e f _ pd pa pb ch))))
    encoded-means c m (case_of bs) s ready naming asked =
        Means-weaker s _ IsSignal IsSignal _ _ (branches-means c m (c.width (case_of bs)) (wide_enough s c naming (case_of bs)) bs s ready naming asked) (λ h. h)
        (λ v h pb. case_right s c naming m bs v _ pb)
    encoded-means c m (set_of ts) s ready naming asked =
        Means-weaker s _ IsSignal IsSignal _ _ (members-means c m ts (constant_lit false) s ready naming asked ready.least) (λ h. h)
        (λ v h pts. set_right c m ts v _ (ready.truth v h) pts)
    encoded-means c its_value (span lo hi) s ready naming asked =
        Means-done s (bit (constant_lit false)) IsSignal _ ready.least (λ v h tn tx now next fit own sets may broken. never_set (span lo hi) sets (λ q. refl) may broken)
    encoded-means c (whether_has u) (span lo hi) s ready naming asked =
        as_bit-means s _ _ _ ready.truth (between_gates-means symbols s ready u asked lo hi) (λ v one_true between. span_right c u lo hi v _ one_true between)

    branches-means : (c : Names L) (m : Asked) (n : ℕ) → 0 < n → (bs : Branches L) (s : Circuit) → IsReady s → IsNaming s c → IsAskedIn s m
        → Means s (encoded_branches c m n bs s) IsSignal (BranchesRight c m n bs)
    branches-means c m n some no_branch s ready naming asked = Means-done s (bit (constant_lit false)) IsSignal _ ready.least (λ v h tn tx now next fit own sets may ends. cc)
    branches-means c m n some (branch_then d a no_branch) s ready naming asked =
        Means-after s _ _ _ _ _ _ (encoded-means c m a s ready naming asked) (λ e t he et.
        Means-done t (fitted n e) IsSignal _ (signal_fitted t (ready_later s t et ready) n some e he) (λ v h pa. last_right t c m n some d a v e he pa))
    branches-means c m n some (branch_then d a (branch_then d' a' bs)) s ready naming asked =
        Means-after s _ _ _ _ _ _ (encoded-means c its_value d s ready naming tt) (λ p s1 hp e1.
        let ready1 = ready_later s s1 e1 ready in
        let naming1 = naming_later s s1 e1 c naming in
        let asked1 = asked_later s s1 e1 m asked in
        Means-after s1 _ _ _ _ _ _ (encoded-means c m a s1 ready1 naming1 asked1) (λ e s2 he e2.
        let ready2 = ready_later s1 s2 e2 ready1 in
        Means-after s2 _ _ _ _ _ _ (branches-means c m n some (branch_then d' a' bs) s2 ready2 (naming_later s1 s2 e2 c naming1) (asked_later s1 s2 e2 m asked1)) (λ f s3 hf e3.
        let ready3 = ready_later s2 s3 e3 ready2 in
        Means-weaker s3 _ IsSignal IsSignal _ _
        (choice_gates-means symbols s3 ready3 n some (literal_in p) (literal_below s3 ready3.least p (signal_later s2 s3 e3 p (signal_later s1 s2 e2 p hp))) e f (signal_later s2 s3 e3 e he) hf) (λ h. h)
        (λ v h ch pb pa pd. more_right c m n d a d' a' bs v p e f _ pd pa pb ch))))

    members-means : (c : Names L) (m : Asked) (ts : Trees L) (r : Literal) (s : Circuit) → IsReady s → IsNaming s c → IsAskedIn s m → IsBelow s.free r
        → Means s (encoded_members c m ts r s) IsSignal (MembersRight c m ts r)
    members-means c m no_tree r s ready naming asked hr = Means-done s (bit r) IsSignal _ hr (λ v h. none_right c m r v)
    members-means c m (tree_then t ts) r s ready naming asked hr =
        Means-after s _ _ _ _ _ _ (encoded-means c m t s ready naming asked) (λ e s1 he e1.
        let ready1 = ready_later s s1 e1 ready in
        Means-after s1 _ _ _ _ _ _ (or_gate-gives s1 r (literal_in e) (omega (arith, hr, e1.counted)) (literal_below s1 ready1.least e he)) (λ q s2 hq e2.
        Means-weaker s2 _ IsSignal IsSignal _ _
        (members-means c m ts q s2 (ready_later s1 s2 e2 ready1) (naming_later s1 s2 e2 c (naming_later s s1 e1 c naming)) (asked_later s1 s2 e2 m (asked_later s s1 e1 m asked)) hq) (λ h. h)
        (λ v h pts is pt. member_right c m t ts r q v e _ pt is pts)))
