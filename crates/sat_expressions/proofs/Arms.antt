-- What each arm of the encoder answers, from what its calls build.
use Rattle.std.proofs.Common.{◌≡◌, ℤ, Bool, List, refl, sym, ◌∙◌, ap, subst}
use Rattle.std.specs.Prelude.{Result, Ok, Err, IfOk}
use Rattle.std.proofs.lemmas.Result.{IfOk-weaker}
use Rattle.std.specs.declared.boxed.Box.{Box}
use Rattle.std.specs.declared.alloc.Global.{Global}
use Rattle.smv_language.specs.declared.expr.Op.{Op}
use Rattle.smv_language.specs.declared.expr.Op.TheVariants as op
use Rattle.smv_language.specs.declared.expr.Expr.{Expr}
use Rattle.smv_language.specs.declared.expr.Expr.TheVariants.{Truth, Number, Leaf, Not, Negate, Next, Binary, Choice, Case, SetOf, Span}
use Rattle.smv_language.specs.Language.{Tree, leaf, not_of, negate, next_of, binary, case_of, trees_of, branches_of, trees_map, branches_map, leaf_of, flat_tree, FlatLeaf}
use Rattle.smv_language.specs.Tree.{truth, number}
use Rattle.smv_language.specs.declared.model.Flat.{Flat}
use Rattle.sat_clauses.specs.Literal.{Literal, opposite}
use Rattle.sat_circuits.specs.Circuit.{Circuit}
use Rattle.sat_circuits.specs.Gates.{constant_lit, or_gate}
use Rattle.sat_circuits.specs.Numbers.{number_word}
use Rattle.sat_circuits.specs.Sums.{negate_gates}
use Rattle.smv_type_laws.specs.Models.{kind_of_leaf}
use Rattle.smv_types.specs.Answers.{told_sort}
use Rattle.sat_encoding_laws.specs.Signals.{bit, word, literal_in, word_in, as_bit, as_word, operator_gates, choice_gates}
use Rattle.sat_encoding_laws.specs.Expressions.{Asked as TheAsked, its_value, whether_has, span_gates}
use Rattle.sat_encoding_laws.proofs.Answering.{TakesValues}
use Rattle.sat_expressions.specs.BuiltSignals.{signal_of, BuildsSignal}
use Rattle.sat_expressions.specs.Sorts.{sort_width, literal_sort, negative_sort, operation_sort, joined_sort}
use Rattle.sat_expressions.specs.ModelNames.{model_of, names_in, moved, IsNamed}
use Rattle.sat_expressions.specs.Parts.{form_of, truth_sort, IsBit, BuildsPart, BuildsMembers, Answers}
use Rattle.sat_expressions.specs.Branches.{BuildsBranches, BuildsFirstOf}
use Rattle.sat_expressions.specs.declared.names.NamedSignals.{NamedSignals}
use Rattle.sat_expressions.specs.declared.branches.BranchSignals.{BranchSignals}
use Rattle.sat_expressions.specs.declared.part.ExpressionSignal.{ExpressionSignal}
use Rattle.sat_expressions.specs.declared.part.Form.TheVariants.{Values, Union, Within}
use Rattle.sat_expressions.proofs.Nodes.{answers_at, truth_built, number_built, leaf_built, not_built, negative_built, next_built, both_built, within_built, union_built, span_built, set_built, choice_built}
use Rattle.sat_expressions.proofs.Cases.{case_built}
use Rattle.sat_expressions.proofs.Forms.{form_truth, form_number, form_leaf, form_not, form_negate, form_next, form_binary, form_choice, form_case, form_set, form_span}

-- how an operator takes its operands, by the form that was found
pub form_values : (o : Op) → form_of o ≡ Values → TakesValues o
form_values op.Union e = cc
form_values op.Within e = cc
form_values _ e = tt

pub form_union : (o : Op) → form_of o ≡ Union → o ≡ op.Union
form_union op.Union e = refl
form_union op.Within e = cc
form_union _ e = cc

pub form_within : (o : Op) → form_of o ≡ Within → o ≡ op.Within
form_within op.Union e = cc
form_within op.Within e = refl
form_within _ e = cc

module _ {E : Type 0} (n : NamedSignals) (asked : TheAsked) (e : Expr Flat) (s u : Circuit) (r : Result ExpressionSignal E) where
  -- from what is built of an equal tree
  built_as : (t : Tree FlatLeaf) (P : ExpressionSignal → Type 0) → flat_tree e ≡ t → ((p : ExpressionSignal) → P p → BuildsPart n asked t s u p) → IfOk r P → IfOk r (BuildsPart n asked (flat_tree e) s u)
  built_as t P is f = IfOk-weaker r P (BuildsPart n asked (flat_tree e) s u) (λ p h. subst (λ x. BuildsPart n asked x s u p) (sym is) (f p h))

  pub arm_truth : (b : Bool) → e ≡ Truth b → IfOk r (Answers asked s (s, bit (constant_lit b)) truth_sort u) → IfOk r (BuildsPart n asked (flat_tree e) s u)
  arm_truth b is = built_as (truth b) (Answers asked s (s, bit (constant_lit b)) truth_sort u) (form_truth e b is) (λ p h. truth_built n asked b s u p h)

  pub arm_number : (z : ℤ) → e ≡ Number z → IfOk r (Answers asked s (s, word (number_word z)) (literal_sort z) u) → IfOk r (BuildsPart n asked (flat_tree e) s u)
  arm_number z is = built_as (number z) (Answers asked s (s, word (number_word z)) (literal_sort z) u) (form_number e z is) (λ p h. number_built n asked z s u p h)

  pub arm_leaf : (l : Flat) → e ≡ Leaf l → IfOk r (Answers asked s (s, (names_in n).now (leaf_of l)) (told_sort (kind_of_leaf (model_of n) (leaf_of l))) u) → IfOk r (BuildsPart n asked (flat_tree e) s u)
  arm_leaf l is =
      built_as (leaf (leaf_of l)) (Answers asked s (s, (names_in n).now (leaf_of l)) (told_sort (kind_of_leaf (model_of n) (leaf_of l))) u) (form_leaf e l is) (λ p h. leaf_built n asked (leaf_of l) s u p h)

  pub arm_not : (d : Expr Flat) (a : Box (Expr Flat) Global) (t : Circuit) (pa : ExpressionSignal) → d ≡ a.value → e ≡ Not a → BuildsPart n its_value (flat_tree d) s t pa
      → IfOk r (Answers asked t (t, bit (opposite (literal_in (signal_of pa.signal)))) truth_sort u) → IfOk r (BuildsPart n asked (flat_tree e) s u)
  arm_not d a t pa f is built =
      built_as (not_of (flat_tree d)) (Answers asked t (t, bit (opposite (literal_in (signal_of pa.signal)))) truth_sort u) (form_not e d a f is) (λ p h. not_built n asked (flat_tree d) s t u pa p built h)

  pub arm_negate : IsNamed s n → (d : Expr Flat) (a : Box (Expr Flat) Global) (t : Circuit) (pa : ExpressionSignal) → d ≡ a.value → e ≡ Negate a → BuildsPart n its_value (flat_tree d) s t pa
      → IfOk r (Answers asked t (as_word (negate_gates (word_in (signal_of pa.signal)) (sort_width n.symbols (negative_sort pa.sort)) t)) (negative_sort pa.sort) u)
      → IfOk r (BuildsPart n asked (flat_tree e) s u)
  arm_negate named d a t pa f is built =
      built_as (negate (flat_tree d)) (Answers asked t (as_word (negate_gates (word_in (signal_of pa.signal)) (sort_width n.symbols (negative_sort pa.sort)) t)) (negative_sort pa.sort) u) (form_negate e d a f is)
      (λ p h. negative_built n named.symbols asked (flat_tree d) s t u pa p built h)

  pub arm_next : (m : NamedSignals) → m ≡ moved n → (d : Expr Flat) (a : Box (Expr Flat) Global) (t : Circuit) (value : ExpressionSignal) → d ≡ a.value → e ≡ Next a → BuildsPart m its_value (flat_tree d) s t value
      → IfOk r (Answers asked t (t, signal_of value.signal) value.sort u) → IfOk r (BuildsPart n asked (flat_tree e) s u)
  arm_next m at d a t value f is built =
      built_as (next_of (flat_tree d)) (Answers asked t (t, signal_of value.signal) value.sort u) (form_next e d a f is) (λ p h. next_built n m at asked (flat_tree d) s t u value p built h)

  pub arm_values : IsNamed s n → (o : Op) → form_of o ≡ Values → (d d' : Expr Flat) (a b : Box (Expr Flat) Global) (t w : Circuit) (pa pb : ExpressionSignal) → d ≡ a.value → d' ≡ b.value → e ≡ Binary o a b
      → BuildsPart n its_value (flat_tree d) s t pa → BuildsPart n its_value (flat_tree d') t w pb
      → IfOk r (Answers asked w (operator_gates o (sort_width n.symbols (operation_sort o pa.sort pb.sort)) (signal_of pa.signal) (signal_of pb.signal) w) (operation_sort o pa.sort pb.sort) u)
      → IfOk r (BuildsPart n asked (flat_tree e) s u)
  arm_values named o form d d' a b t w pa pb f g is left right =
      built_as (binary o (flat_tree d) (flat_tree d'))
      (Answers asked w (operator_gates o (sort_width n.symbols (operation_sort o pa.sort pb.sort)) (signal_of pa.signal) (signal_of pb.signal) w) (operation_sort o pa.sort pb.sort) u)
      (form_binary e d d' o a b f g is) (λ p h. both_built n named.symbols o (form_values o form) asked (flat_tree d) (flat_tree d') s t w u pa pb p left right h)

  pub arm_within : (o : Op) → form_of o ≡ Within → (d d' : Expr Flat) (a b : Box (Expr Flat) Global) (t w : Circuit) (pa pb value : ExpressionSignal) → d ≡ a.value → d' ≡ b.value → e ≡ Binary o a b
      → BuildsPart n its_value (flat_tree d) s t pa → BuildsPart n (whether_has (signal_of pa.signal)) (flat_tree d') t w pb → value.signal ≡ pb.signal → value.sort ≡ truth_sort
      → IfOk r (Answers asked w (w, signal_of value.signal) value.sort u) → IfOk r (BuildsPart n asked (flat_tree e) s u)
  arm_within o form d d' a b t w pa pb value f g is left right same sort =
      built_as (binary op.Within (flat_tree d) (flat_tree d')) (Answers asked w (w, signal_of value.signal) value.sort u)
      (form_binary e d d' op.Within a b f g (is ∙ ap (λ x. Binary x a b) (form_within o form)))
      (λ p h. within_built n asked (flat_tree d) (flat_tree d') s t w u pa pb p left right (answers_at asked w u (signal_of pb.signal) (signal_of value.signal) truth_sort value.sort p (ap signal_of same) sort h))

  pub arm_case : IsNamed s n → (bs cs : List (Expr Flat × Expr Flat)) (t : Circuit) (parts : BranchSignals) → cs ≡ bs → e ≡ Case bs → BuildsBranches n asked (branches_map leaf_of (branches_of cs)) s t parts
      → IfOk r (BuildsFirstOf n.symbols parts t u) → IfOk r (BuildsPart n asked (flat_tree e) s u)
  arm_case named bs cs t parts f is built =
      built_as (case_of (branches_map leaf_of (branches_of cs))) (BuildsFirstOf n.symbols parts t u) (form_case e bs cs f is)
      (λ p h. case_built n named.symbols asked (branches_map leaf_of (branches_of cs)) s t u parts p built h)

  -- two facts of one result
  two : {P Q R : ExpressionSignal → Type 0} → ((p : ExpressionSignal) → P p → Q p → R p) → IfOk r P → IfOk r Q → IfOk r R
  two {P} {Q} {R} f = by r
    where
      by : (q : Result ExpressionSignal E) → IfOk q P → IfOk q Q → IfOk q R
      by (Ok p) h k = f p h k
      by (Err x) h k = tt

  pub arm_union : (o : Op) → form_of o ≡ Union → (d d' : Expr Flat) (a b : Box (Expr Flat) Global) (t w : Circuit) (pa pb : ExpressionSignal) → d ≡ a.value → d' ≡ b.value → e ≡ Binary o a b
      → BuildsPart n asked (flat_tree d) s t pa → BuildsPart n asked (flat_tree d') t w pb
      → IfOk r (λ p. BuildsSignal w (as_bit (or_gate (literal_in (signal_of pa.signal)) (literal_in (signal_of pb.signal)) w)) u p.signal) → IfOk r (λ p. IsBit (signal_of p.signal))
      → IfOk r (BuildsPart n asked (flat_tree e) s u)
  arm_union o form d d' a b t w pa pb f g is left right made told =
      two {P = λ p. BuildsSignal w (as_bit (or_gate (literal_in (signal_of pa.signal)) (literal_in (signal_of pb.signal)) w)) u p.signal} {Q = λ p. IsBit (signal_of p.signal)} {R = BuildsPart n asked (flat_tree e) s u}
      (λ p h k. subst (λ z. BuildsPart n asked z s u p) (sym (form_binary e d d' op.Union a b f g (is ∙ ap (λ q. Binary q a b) (form_union o form))))
      (union_built n asked (flat_tree d) (flat_tree d') s t w u pa pb p left right h k)) made told

  pub arm_choice : IsNamed s n → (d d' d'' : Expr Flat) (c a b : Box (Expr Flat) Global) (t w y : Circuit) (pd pa pb : ExpressionSignal) → d ≡ c.value → d' ≡ a.value → d'' ≡ b.value → e ≡ Choice c a b
      → BuildsPart n its_value (flat_tree d) s t pd → BuildsPart n asked (flat_tree d') t w pa → BuildsPart n asked (flat_tree d'') w y pb
      → IfOk r (λ p. BuildsSignal y (choice_gates (sort_width n.symbols (joined_sort pa.sort pb.sort)) (literal_in (signal_of pd.signal)) (signal_of pa.signal) (signal_of pb.signal) y) u p.signal)
      → IfOk r (λ p. p.sort ≡ joined_sort pa.sort pb.sort) → IfOk r (BuildsPart n asked (flat_tree e) s u)
  arm_choice named d d' d'' c a b t w y pd pa pb f g h is first second third made sort =
      two {P = λ p. BuildsSignal y (choice_gates (sort_width n.symbols (joined_sort pa.sort pb.sort)) (literal_in (signal_of pd.signal)) (signal_of pa.signal) (signal_of pb.signal) y) u p.signal}
      {Q = λ p. p.sort ≡ joined_sort pa.sort pb.sort} {R = BuildsPart n asked (flat_tree e) s u}
      (λ p m k. subst (λ z. BuildsPart n asked z s u p) (sym (form_choice e d d' d'' c a b f g h is))
      (choice_built n named.symbols asked (flat_tree d) (flat_tree d') (flat_tree d'') s t w y u pd pa pb p first second third m k)) made sort

  pub arm_span : (lo hi : ℤ) → e ≡ Span lo hi → IfOk r (λ p. BuildsSignal s (span_gates asked lo hi s) u p.signal) → IfOk r (λ p. IsBit (signal_of p.signal)) → IfOk r (BuildsPart n asked (flat_tree e) s u)
  arm_span lo hi is made told =
      two {P = λ p. BuildsSignal s (span_gates asked lo hi s) u p.signal} {Q = λ p. IsBit (signal_of p.signal)} {R = BuildsPart n asked (flat_tree e) s u}
      (λ p h k. subst (λ z. BuildsPart n asked z s u p) (sym (form_span e lo hi is)) (span_built n asked lo hi s u p h k)) made told

-- a set, whose last step cannot fail
pub arm_set : (n : NamedSignals) (asked : TheAsked) (e : Expr Flat) (s u : Circuit) (p : ExpressionSignal) (ts us : List (Expr Flat)) (l : Literal) → us ≡ ts → e ≡ SetOf ts
    → BuildsMembers n asked (trees_map leaf_of (trees_of us)) s u l → signal_of p.signal ≡ bit l → BuildsPart n asked (flat_tree e) s u p
arm_set n asked e s u p ts us l f is built same =
    subst (λ x. BuildsPart n asked x s u p) (sym (form_set e ts us f is)) (set_built n asked (trees_map leaf_of (trees_of us)) s u p l built same)
