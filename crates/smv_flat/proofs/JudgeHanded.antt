-- The actuals of an instance, one after another, and the rule that its declaration breaks.
use Rattle.std.proofs.Common.{◌≡◌, ℕ, zero, suc, ◌+◌, ◌<◌, ◌≤◌, arith, Bool, true, false, ◌||◌, List, [], ◌∷◌, ◌++◌, length, get_or, take, Option, Some, None, map, is_some, refl, sym, ◌∙◌, ap, subst, inl, inr}
use Rattle.std.specs.Prelude.{◌↔◌, ◌⊎◌, slice_get}
use Rattle.std.proofs.lemmas.List.{map-append}
use Rattle.smv_language.specs.declared.expr.Expr.{Expr}
use Rattle.smv_language.specs.Language.{tree_of, Text, Path, Formula, instance, ModuleTree, ProgramTree, Place, Role, find_module, plain_name, FlatInstance}
use Rattle.smv_flat_laws.specs.Items.{a_declaration, NumberedItem}
use Rattle.smv_flat_laws.specs.NameResolution.{has_next}
use Rattle.smv_flat_laws.specs.Rules.{ActualHasNoMeaning, SomeActualLoops, LoopsInside, some_has_next, a_use}
use Rattle.smv_flat_laws.proofs.Lists.{get_end}
use Rattle.smv_scope.specs.Faults.{first_of}
use Rattle.smv_scope.specs.TableLookUps.{formal_at}
use Rattle.smv_scope.specs.SceneTree.{IsKnown, IsScene, program_of}
use Rattle.smv_scope.specs.NeedsTree.{AreNeeds}
use Rattle.smv_flat.specs.Verdicts.{is_nothing_known, is_circle_known, is_circle_meant, IsHanded, LoopsAt, IsActualJudged, AreActualsJudged, joined_actual, JudgesActual, JudgesActuals, IsTold}
use Rattle.smv_scope.specs.declared.fault.FlatRule.TheVariants as code
use Rattle.smv_flat.specs.declared.values.JudgedValue.{JudgedValue}
use Rattle.smv_flat.specs.declared.values.JudgedActual.{JudgedActual}
use Rattle.smv_scope.specs.declared.names.Formal.{Formal}
use Rattle.smv_scope.specs.declared.names.Scene.{Scene}
use Rattle.smv_scope.specs.declared.needs.Needs.{Needs}
use Rattle.smv_flat.proofs.JudgeActuals.{IsFormalOf, formal_of, plain_told, value_told}
use Rattle.smv_flat.proofs.JudgeItems.{Judges, told_tests, told_item, nowhere}
use Rattle.smv_flat.proofs.JudgeLists.{take_step, take_end}
use Rattle.smv_flat.proofs.JudgePlaces.{formal_is}
use Rattle.smv_flat.proofs.JudgeValues.{one_more}
use Rattle.std.proofs.lemmas.Option.{slice_get_within as get_less, none-some as none_some}
use Rattle.smv_scope.proofs.NamingItems.{tree_there as mapped_at}
use Rattle.base_values.proofs.ListLaws.{push_get, get_left, get_within}

-- each actual has a formal
formal_there : (actuals : List Formula) (formals : List Text) (index : ℕ) (e : Formula) → slice_get actuals index ≡ Some e → length actuals ≡ length formals → (x : Text) × (slice_get formals index ≡ Some x)
formal_there actuals formals index e is count = let less : index < length actuals = get_less actuals index e is in get_within formals index (omega (arith, less, count))

-- an actual with what is known of its formal
pub record HasFormal (p : ProgramTree) (m : ModuleTree) (at inside : FlatInstance) (own : Text) (index : ℕ) (e : Formula) (f : Formal) : Type 0 where
  pub formal : Text
  pub is_formal : slice_get m.formals index ≡ Some formal
  pub stands : IsFormalOf p at.place own index formal e
  pub known : IsKnown p (own ∷ at.place) formal f

has_formal : (s : Scene) → IsScene s → (spot inner index : ℕ) (m : ModuleTree) (at inside : FlatInstance) (own : Text) (actuals : List Formula) (e : Formula) →
    IsHanded (program_of s) spot inner m at inside own actuals → slice_get actuals index ≡ Some e → (f : Formal) → f ≡ formal_at s inner index →
    HasFormal (program_of s) m at inside own index e f
has_formal s scene spot inner index m at inside own actuals e h is f known =
    let x : (x : Text) × (slice_get m.formals index ≡ Some x) = formal_there actuals m.formals index e is h.count in
    record {
      formal = x.0;
      is_formal = x.1;
      stands = formal_of (program_of s) at.place own inside.module_name m actuals index x.0 e h.kind h.named h.apart x.1 is;
      known = subst (λ a. IsKnown (program_of s) a x.0 f) h.place
          (subst (IsKnown (program_of s) inside.place x.0) (sym known) (formal_is s scene inner inside h.inside_is m h.named index x.0 x.1));
    }

-- what is judged of a plain actual, and of another one
pub plain_actual : (s : Scene) → IsScene s → (spot inner index : ℕ) (e : Formula) → is_some (plain_name e) ≡ true → (f : Formal) → f ≡ formal_at s inner index → (a b : Bool) →
    a ≡ is_nothing_known f → b ≡ is_circle_known f → JudgesActual (program_of s) spot inner index e (record { no_value = a; circle = b; next = false })
plain_actual s scene spot inner index e plain f known a b is_a is_b m at inside own actuals h is =
    subst (λ y. IsActualJudged (program_of s) at.place inside.place m index e (record { no_value = y; circle = b; next = false })) (sym is_a)
    (subst (λ y. IsActualJudged (program_of s) at.place inside.place m index e (record { no_value = is_nothing_known f; circle = y; next = false })) (sym is_b)
    (subst (λ y. IsActualJudged (program_of s) at.place y m index e (record { no_value = is_nothing_known f; circle = is_circle_known f; next = false })) (sym h.place)
    (by_name (plain_name e) refl plain)))
  where
    with_formal : HasFormal (program_of s) m at inside own index e f
    with_formal = has_formal s scene spot inner index m at inside own actuals e h is f known

    by_name : (o : Option Path) → plain_name e ≡ o → is_some (plain_name e) ≡ true →
        IsActualJudged (program_of s) at.place (own ∷ at.place) m index e (record { no_value = is_nothing_known f; circle = is_circle_known f; next = false })
    by_name (Some name) q t = plain_told (program_of s) at.place own index with_formal.formal m e with_formal.stands with_formal.is_formal name q f with_formal.known
    by_name None q t = absurd (differ (sym (ap is_some q) ∙ t))
      where
        differ : false ≡ true → ⊥
        differ r = cc

pub value_actual : (s : Scene) → IsScene s → (n : Needs) → AreNeeds (program_of s) n → (spot inner index : ℕ) (e : Formula) → is_some (plain_name e) ≡ false → (f : Formal) → f ≡ formal_at s inner index →
    (b : Bool) → b ≡ is_circle_meant n f → (j : JudgedValue) → Judges (program_of s) spot e j →
    JudgesActual (program_of s) spot inner index e (record { no_value = j.no_value; circle = b; next = j.next })
value_actual s scene n needs spot inner index e other f known b is_b j judged m at inside own actuals h is =
    subst (λ y. IsActualJudged (program_of s) at.place inside.place m index e (record { no_value = j.no_value; circle = y; next = j.next })) (sym is_b)
    (subst (λ y. IsActualJudged (program_of s) at.place y m index e (record { no_value = j.no_value; circle = is_circle_meant n f; next = j.next })) (sym h.place)
    (value_told (program_of s) n needs at.place own index with_formal.formal m e with_formal.stands with_formal.is_formal (by_name (plain_name e) refl other) f with_formal.known j (judged at h.at_is)))
  where
    with_formal : HasFormal (program_of s) m at inside own index e f
    with_formal = has_formal s scene spot inner index m at inside own actuals e h is f known

    by_name : (o : Option Path) → plain_name e ≡ o → is_some (plain_name e) ≡ false → plain_name e ≡ None
    by_name None q t = q
    by_name (Some name) q t = absurd (differ (sym (ap is_some q) ∙ t))
      where
        differ : true ≡ false → ⊥
        differ r = cc

-- Actuals one after another.
next_more : (es : List Formula) (e : Formula) → some_has_next (es ++ e ∷ []) ≡ (some_has_next es || has_next e)
next_more [] e = or_false (has_next e)
  where
    or_false : (b : Bool) → (b || false) ≡ b
    or_false true = refl
    or_false false = refl
next_more (f ∷ es) e = ap (λ b. has_next f || b) (next_more es e) ∙ sym (or_more (has_next f) (some_has_next es) (has_next e))
  where
    or_more : (a b c : Bool) → ((a || b) || c) ≡ (a || (b || c))
    or_more true b c = refl
    or_more false b c = refl

circles_more : (p : ProgramTree) (inside : Place) (m : ModuleTree) (es : List Formula) (e : Formula) (a b : Bool) → (a ≡ true) ↔ SomeActualLoops p inside m es →
    (b ≡ true) ↔ LoopsAt p inside m (length es) e → ((a || b) ≡ true) ↔ SomeActualLoops p inside m (es ++ e ∷ [])
circles_more p inside m es e a b h k = (to a b h k, from)
  where
    here : LoopsAt p inside m (length es) e → SomeActualLoops p inside m (es ++ e ∷ [])
    here l = record { index = length es; formal = l.0; actual = e; is_formal = l.1; is_actual = get_end es e; loops = l.2 }

    before : SomeActualLoops p inside m es → SomeActualLoops p inside m (es ++ e ∷ [])
    before l = record { index = l.index; formal = l.formal; actual = l.actual; is_formal = l.is_formal; is_actual = get_left es (e ∷ []) l.index l.actual l.is_actual; loops = l.loops }

    to : (a b : Bool) → (a ≡ true) ↔ SomeActualLoops p inside m es → (b ≡ true) ↔ LoopsAt p inside m (length es) e → (a || b) ≡ true → SomeActualLoops p inside m (es ++ e ∷ [])
    to true b h k t = before (h.0 refl)
    to false b h k t = here (k.0 t)

    left : (a b : Bool) → a ≡ true → (a || b) ≡ true
    left a b t = ap (λ x. x || b) t

    right : (a b : Bool) → b ≡ true → (a || b) ≡ true
    right true b t = refl
    right false b t = t

    from : SomeActualLoops p inside m (es ++ e ∷ []) → (a || b) ≡ true
    from l = by_place (push_get es e l.index l.actual l.is_actual)
      where
        by_place : (slice_get es l.index ≡ Some l.actual) ⊎ ((l.index ≡ length es) × (e ≡ l.actual)) → (a || b) ≡ true
        by_place (inl q) = left a b (h.1 (record { index = l.index; formal = l.formal; actual = l.actual; is_formal = l.is_formal; is_actual = q; loops = l.loops }))
        by_place (inr q) = right a b (k.1 (subst (λ i. LoopsAt p inside m i e) q.0 (subst (λ f. LoopsAt p inside m l.index f) (sym q.1) (l.formal, l.is_formal, l.loops))))

actual_more : (p : ProgramTree) (at inside : Place) (m : ModuleTree) (es : List Formula) (e : Formula) (j k : JudgedActual) → AreActualsJudged p at inside m es j →
    IsActualJudged p at inside m (length es) e k → AreActualsJudged p at inside m (es ++ e ∷ []) (joined_actual j k)
actual_more p at inside m es e j k h one = record {
  no_value = one_more (λ e. ActualHasNoMeaning p at e (plain_name e)) es e j.no_value k.no_value h.no_value one.no_value;
  circle = circles_more p inside m es e j.circle k.circle h.circle one.circle;
  next = ap (λ b. b || k.next) h.next ∙ ap (λ b. some_has_next es || b) one.next ∙ sym (next_more es e);
}

-- the first actuals of some expressions
size_taken : (xs : List (Expr Path)) (k : ℕ) → k ≤ length xs → length (map tree_of (take k xs)) ≡ k
size_taken [] zero h = refl
size_taken [] (suc k) h = absurd (omega (arith, h))
size_taken (x ∷ xs) zero h = refl
size_taken (x ∷ xs) (suc k) h = ap (λ n. suc n) (size_taken xs k (omega (arith, h)))

pub no_actuals : (p : ProgramTree) (spot inner : ℕ) (actuals : List Formula) → JudgesActuals p spot inner actuals [] (record { no_value = false; circle = false; next = false })
no_actuals p spot inner actuals m at inside own h = record { no_value = nowhere; circle = (λ e. absurd (differ e), λ l. absurd (none_some l.actual l.is_actual)); next = refl }
  where
    differ : false ≡ true → ⊥
    differ e = cc

pub actuals_step : (p : ProgramTree) (spot inner : ℕ) (xs : List (Expr Path)) (k : ℕ) (x : Expr Path) → k < length xs → x ≡ get_or xs k x → (j one r : JudgedActual) →
    JudgesActuals p spot inner (map tree_of xs) (map tree_of (take k xs)) j → JudgesActual p spot inner k (tree_of x) one → r ≡ joined_actual j one →
    JudgesActuals p spot inner (map tree_of xs) (map tree_of (take (k + 1) xs)) r
actuals_step p spot inner xs k x within is j one r before here joined m at inside own h =
    take_step (λ (ys : List (Expr Path)). AreActualsJudged p at.place inside.place m (map tree_of ys) r) xs k x within is
    (subst (λ es. AreActualsJudged p at.place inside.place m es r) (sym (map-append tree_of (take k xs) (x ∷ [])))
    (subst (AreActualsJudged p at.place inside.place m (map tree_of (take k xs) ++ tree_of x ∷ [])) (sym joined)
    (actual_more p at.place inside.place m (map tree_of (take k xs)) (tree_of x) j one (before m at inside own h)
    (subst (λ n. IsActualJudged p at.place inside.place m n (tree_of x) one) (sym (size_taken xs k (omega (arith, within))))
    (here m at inside own (map tree_of xs) h (mapped_at xs k x within is))))))

pub actuals_end : (p : ProgramTree) (spot inner : ℕ) (xs : List (Expr Path)) (k : ℕ) → length xs ≤ k → (j : JudgedActual) →
    JudgesActuals p spot inner (map tree_of xs) (map tree_of (take k xs)) j → JudgesActuals p spot inner (map tree_of xs) (map tree_of xs) j
actuals_end p spot inner xs k past j h = take_end (λ (ys : List (Expr Path)). JudgesActuals p spot inner (map tree_of xs) (map tree_of ys) j) xs k past h

-- the rule that the declaration of an instance breaks
pub actuals_told : (p : ProgramTree) (at : FlatInstance) (inside : FlatInstance) (i : NumberedItem) (role : Role) (x name : Text) (m : ModuleTree) (actuals : List Formula) (j : JudgedActual) →
    i.item ≡ a_declaration role (record { name = x; what = instance name actuals }) → inside.place ≡ x ∷ at.place → find_module p name ≡ Some m → AreActualsJudged p at.place inside.place m actuals j →
    IsTold p (a_use at i) (first_of ((j.no_value, code.NoSuchName) ∷ (j.circle, code.DefineLoop) ∷ (j.next, code.NextHere) ∷ []))
actuals_told p at inside i role x name m actuals j is place named h =
    told_item p at i (a_declaration role (record { name = x; what = instance name actuals })) _ is
    (told_tests p at (record { number = i.number; before = i.before; item = a_declaration role (record { name = x; what = instance name actuals }) }) j.no_value false false j.circle j.next false
    (record {
      names_test = h.no_value;
      target_test = nowhere;
      once_test = nowhere;
      loops_test = subst (λ o. (j.circle ≡ true) ↔ LoopsInside p (x ∷ at.place) actuals o) (sym named) (subst (λ a. (j.circle ≡ true) ↔ SomeActualLoops p a m actuals) place h.circle);
      next_test = (λ t. sym h.next ∙ t, λ t. h.next ∙ t);
      inputs_test = nowhere;
    }))
