-- The answer that is found moment by moment says whether the moments are a trace that reaches the event, or where they stop.
use Rattle.std.proofs.Common.{◌≡◌, ◌↔◌, suc, ◌<◌, arith, Bool, true, false, cond, List, [], ◌∷◌, ◌++◌, length, IsTrue, refl, ap, subst}
use Rattle.smv_language.specs.Language.{Tree, Each, EachPair, AtFirst, AtLast, tree_of, FlatLeaf, FlatModel as ModelTree, FlatMay, flat_tree, formula_tree, model_tree, told_trace, told_moment}
use Rattle.smv_language.specs.Values as told
use Rattle.smv_language.specs.Values.{truth}
use Rattle.smv_language.specs.declared.expr.Expr.{Expr}
use Rattle.base_values.specs.declared.value.Value.{Value}
use Rattle.smv_flat_laws.specs.FlatTrace.{IsFlatMoment, IsFlatStep, IsFlatTrace}
use Rattle.smv_flat_laws.proofs.Lists.{length_end}
use Rattle.smv_language.specs.declared.model.Flat.{Flat}
use Rattle.smv_language.specs.declared.model.FlatModel.{FlatModel}
use Rattle.smv_language.specs.declared.model.Formula.{Formula}
use Rattle.smv_type_laws.specs.ExpressionKinds.{KindRule}
use Rattle.smv_type_laws.specs.Models.{judged_in, broken_condition, breaches_at, IsTyped}
use Rattle.smv_type_laws.specs.Laws.{ReadsOwn}
use Rattle.smv_type_laws.proofs.Typed.{decided}
use Rattle.smv_evaluation.specs.declared.trace.Replayed.TheVariants.{Reaches, NoTop, BadFirst, BadStep}
use Rattle.smv_evaluation.specs.Entries.{Entries}
use Rattle.smv_evaluation.specs.MomentTables.{filled, first_holds, step_holds}
use Rattle.smv_evaluation.specs.EvaluableModels.{IsEvaluable, IsLawful, IsFilled}
use Rattle.smv_evaluation.specs.Stops.{bad_first, bad_step, no_top, IsFirstMoment, IsNextMoment}
use Rattle.smv_evaluation.specs.Replay.{is_reached, replayed_from, replayed, IsReplayed}
use Rattle.smv_evaluation.proofs.FilledLaws.{filled_law}
use Rattle.smv_evaluation.proofs.ConditionLaws.{condition_law, first_law, step_law}
use Rattle.smv_language.proofs.EachLaws.{each_end}

pairs_last : {A : Type 0} (R : A → A → Type 0) (xs : List A) (x y : A) → EachPair R (xs ++ x ∷ []) → R x y → EachPair R ((xs ++ x ∷ []) ++ y ∷ [])
pairs_last R [] x y h r = (r, tt)
pairs_last R (a ∷ []) x y h r = (h.0, (r, tt))
pairs_last R (a ∷ b ∷ xs) x y h r = (h.0, pairs_last R (b ∷ xs) x y h.1 r)

first_more : {A : Type 0} (P : A → Type 0) (xs : List A) (x y : A) → AtFirst P (xs ++ x ∷ []) → AtFirst P ((xs ++ x ∷ []) ++ y ∷ [])
first_more P [] x y h = h
first_more P (a ∷ xs) x y h = h

last_is : {A : Type 0} (P : A → Type 0) (xs : List A) (x : A) → P x → AtLast P (xs ++ x ∷ [])
last_is P [] x h = h
last_is P (a ∷ []) x h = h
last_is P (a ∷ b ∷ xs) x h = last_is P (b ∷ xs) x h

is_last : {A : Type 0} (P : A → Type 0) (xs : List A) (x : A) → AtLast P (xs ++ x ∷ []) → P x
is_last P [] x h = h
is_last P (a ∷ []) x h = h
is_last P (a ∷ b ∷ xs) x h = is_last P (b ∷ xs) x h

joined_again : {A : Type 0} (xs : List A) (x : A) (ys : List A) → (xs ++ x ∷ []) ++ ys ≡ xs ++ x ∷ ys
joined_again [] x ys = refl
joined_again (a ∷ xs) x ys = ap (λ zs. a ∷ zs) (joined_again xs x ys)

-- a trace goes on by one moment
pub goes_on : (m : ModelTree) (before : List (List told.Value)) (v w : List told.Value) → IsFlatTrace m (before ++ v ∷ []) → IsNextMoment m v w → IsFlatTrace m ((before ++ v ∷ []) ++ w ∷ [])
goes_on m before v w t n =
    record {
      first = first_more _ before v w t.first;
      moments = each_end (IsFlatMoment m) (before ++ v ∷ []) w t.moments n.moment;
      steps = pairs_last (IsFlatStep m) before v w t.steps n.step;
    }

no_truth : (b : Bool) → b ≡ false → IsTrue b → ⊥
no_truth b e h = cc (e, h)

module _ (m : FlatModel) (able : IsEvaluable (model_tree m)) (typed : IsTyped (model_tree m)) (top : Tree Flat) (event : Tree FlatLeaf)
    (decides : (now : Entries) → IsFilled (model_tree m) now → (IsTrue (is_reached top now) ↔ FlatMay (model_tree m) (told_moment m.symbols now.variables) (told_moment m.symbols now.variables) event (truth true))) where
  abbrev name_all : List Value → List told.Value
  name_all v = told_moment m.symbols v

  from_here : (vs : List (List Value)) (before : List (List told.Value)) (v : List Value) → IsLawful (model_tree m) v → Each (IsLawful (model_tree m)) vs →
      IsFlatTrace (model_tree m) (before ++ name_all v ∷ []) →
      IsReplayed (model_tree m) event (before ++ name_all v ∷ told_trace m.symbols vs) (replayed_from m top (filled m v) (suc (length before)) vs)
  from_here [] before v p q t = by (is_reached top (filled m v)) refl
    where
      d : IsTrue (is_reached top (filled m v)) ↔ FlatMay (model_tree m) (name_all v) (name_all v) event (truth true)
      d = decides (filled m v) (filled_law m v able typed p)

      by : (b : Bool) → is_reached top (filled m v) ≡ b → IsReplayed (model_tree m) event (before ++ name_all v ∷ []) (cond b Reaches NoTop)
      by true e = record { is_trace = t; reaches = last_is _ before (name_all v) (d.0 e) }
      by false e = no_top t (λ r. no_truth (is_reached top (filled m v)) e (d.1 (is_last _ before (name_all v) r)))
  from_here (w ∷ ws) before v p q t = by (step_holds m (filled m v) (filled m w)) refl (λ n. from_here ws (before ++ name_all v ∷ []) w q.0 q.1 n)
    where
      trace : List (List told.Value)
      trace = before ++ name_all v ∷ name_all w ∷ told_trace m.symbols ws

      law : IsTrue (step_holds m (filled m v) (filled m w)) ↔ IsNextMoment (model_tree m) (name_all v) (name_all w)
      law = step_law m able typed (filled m v) (filled m w) (filled_law m v able typed p) (filled_law m w able typed q.0)

      by : (b : Bool) → step_holds m (filled m v) (filled m w) ≡ b →
          (IsFlatTrace (model_tree m) ((before ++ name_all v ∷ []) ++ name_all w ∷ []) →
          IsReplayed (model_tree m) event ((before ++ name_all v ∷ []) ++ name_all w ∷ told_trace m.symbols ws) (replayed_from m top (filled m w) (suc (length (before ++ name_all v ∷ []))) ws)) →
          IsReplayed (model_tree m) event trace (cond b (replayed_from m top (filled m w) (suc (suc (length before))) ws) (BadStep (suc (length before))))
      by true e more =
          subst (λ n. IsReplayed (model_tree m) event trace (replayed_from m top (filled m w) (suc n) ws)) (length_end before (name_all v))
          (subst (λ xs. IsReplayed (model_tree m) event xs (replayed_from m top (filled m w) (suc (length (before ++ name_all v ∷ []))) ws)) (joined_again before (name_all v) (name_all w ∷ told_trace m.symbols ws))
          (more (goes_on (model_tree m) before (name_all v) (name_all w) t (law.0 e))))
      by false e more = bad_step before (name_all v) (name_all w) (told_trace m.symbols ws) refl t (λ n. no_truth (step_holds m (filled m v) (filled m w)) e (law.1 n))

  pub replay_law : (v : List Value) (vs : List (List Value)) → Each (IsLawful (model_tree m)) (v ∷ vs) → IsReplayed (model_tree m) event (told_trace m.symbols (v ∷ vs)) (replayed m top (v ∷ vs))
  replay_law v vs p = by (first_holds m (filled m v)) refl
    where
      law : IsTrue (first_holds m (filled m v)) ↔ IsFirstMoment (model_tree m) (name_all v)
      law = first_law m able typed (filled m v) (filled_law m v able typed p.0)

      by : (b : Bool) → first_holds m (filled m v) ≡ b → IsReplayed (model_tree m) event (told_trace m.symbols (v ∷ vs)) (cond b (replayed_from m top (filled m v) 1 vs) BadFirst)
      by true e = let f : IsFirstMoment (model_tree m) (name_all v) = law.0 e in from_here vs [] v p.0 p.1 (record { first = f.first; moments = (f.moment, tt); steps = tt })
      by false e = bad_first (name_all v) (told_trace m.symbols vs) refl (λ f. no_truth (first_holds m (filled m v)) e (law.1 f))

-- The event is a condition that breaks no rule.
pub event_decided : (m : FlatModel) → IsEvaluable (model_tree m) → IsTyped (model_tree m) → (e : Expr Flat) → ReadsOwn (model_tree m) (flat_tree e) →
    broken_condition (judged_in (model_tree m) false (flat_tree e)) ≡ [] → (now : Entries) → IsFilled (model_tree m) now →
    (IsTrue (is_reached (tree_of e) now) ↔ FlatMay (model_tree m) (told_moment m.symbols now.variables) (told_moment m.symbols now.variables) (flat_tree e) (truth true))
event_decided m able typed e own right now p =
    let tree : ModelTree = model_tree m in
    let v = told_moment m.symbols now.variables in
    let f : Formula = record { value = e; item = 0; «instance» = 0 } in
    let d = decided tree v v able.closed typed p.lawful.domains p.lawful.domains (formula_tree f ∷ []) (no_breach right) (own, tt) in
    condition_law tree able now now p p f own d.0
  where
    no_breach : {rules : List KindRule} → rules ≡ [] → breaches_at 0 0 rules ++ [] ≡ []
    no_breach e = rw e refl

-- The answer of a replay.
pub replayed_law : (m : FlatModel) → IsEvaluable (model_tree m) → IsTyped (model_tree m) → (e : Expr Flat) → ReadsOwn (model_tree m) (flat_tree e) →
    broken_condition (judged_in (model_tree m) false (flat_tree e)) ≡ [] → (trace : List (List Value)) → 0 < length trace → Each (IsLawful (model_tree m)) trace →
    IsReplayed (model_tree m) (flat_tree e) (told_trace m.symbols trace) (replayed m (tree_of e) trace)
replayed_law m able typed e own right [] some p = absurd (omega (arith, some))
replayed_law m able typed e own right (v ∷ vs) some p = replay_law m able typed (tree_of e) (flat_tree e) (event_decided m able typed e own right) v vs p
