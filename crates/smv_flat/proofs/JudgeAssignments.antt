-- The first rule that an assignment breaks at an instance.
use Rattle.std.proofs.Common.{◌≡◌, ℕ, Bool, true, false, List, [], ◌∷◌, Option, Some, None, if◌then◌else◌, refl, sym, ◌∙◌, ap, subst, Bor}
use Rattle.std.specs.Prelude.{◌↔◌, IsTrue, slice_get}
use Rattle.smv_language.specs.declared.program.Moment.{Moment}
use Rattle.smv_language.specs.declared.program.Moment.TheVariants.{Always, First, After}
use Rattle.smv_language.specs.Language.{same_text, Text, Path, Formula, AssignmentTree, ProgramTree, Place, AtSome, FlatInstance}
use Rattle.smv_flat_laws.specs.Items.{an_assignment, NumberedItem, instances_of}
use Rattle.smv_flat_laws.specs.Rules.{is_target, is_later, has_bad_next, inputs_judged, GivesInput, BreaksNames, BreaksOnce, a_use}
use Rattle.smv_flat.specs.Assignments.{IsTargetTold, with_moment, is_met, times_of, assignment_rule, IsItemTold}
use Rattle.smv_scope.specs.Faults.{first_of}
use Rattle.smv_flat.specs.ValueJudgement.{IsJudged}
use Rattle.smv_scope.specs.SceneTree.{IsScene, program_of}
use Rattle.smv_flat.specs.Verdicts.{IsTold}
use Rattle.smv_scope.specs.declared.fault.FlatRule.{FlatRule as Code}
use Rattle.smv_scope.specs.declared.fault.FlatRule.TheVariants as code
use Rattle.smv_flat.specs.declared.values.JudgedValue.{JudgedValue}
use Rattle.smv_flat.specs.declared.judge.Times.{Times}
use Rattle.smv_scope.specs.declared.names.Scene.{Scene}
use Rattle.smv_flat.proofs.JudgeItems.{Judges, code_of, told_tests, told_names, told_target, told_item, nowhere}
use Rattle.smv_flat.proofs.JudgeTargets.{target_is}
use Rattle.smv_flat.proofs.JudgeTimes.{is_double, times_added}
use Rattle.smv_flat.proofs.JudgeLists.{never}

some_none : {A : Type 0} (a : A) → Some a ≡ None → ⊥
some_none a e = cc

-- a name without a value
pub names_told : (s : Scene) (spot place : ℕ) (es : List (Bor (List ℕ) × Times)) (a : AssignmentTree) (j : JudgedValue) → Judges (program_of s) spot a.value j → j.no_value ≡ true →
    IsItemTold (program_of s) spot place es es (an_assignment a) (Some code.NoSuchName)
names_told s spot place es a j judged broken = record {
  told = λ at at_spot i at_place is times.
      told_item (program_of s) at i (an_assignment a) (Some code.NoSuchName) is
      (told_names (program_of s) at (record { number = i.number; before = i.before; item = an_assignment a }) ((judged at at_spot).no_value.0 broken));
  times = λ e. absurd (some_none code.NoSuchName e);
}

no_names : (p : ProgramTree) (at : Place) (a : AssignmentTree) (j : JudgedValue) → IsJudged p at a.value j → j.no_value ≡ false → BreaksNames p at (an_assignment a) → ⊥
no_names p at a j judged kept b = never (sym kept ∙ judged.no_value.1 b)

-- a target that may not be assigned
no_target : (s : Scene) → IsScene s → (spot : ℕ) (at : FlatInstance) → slice_get (instances_of (program_of s)) spot ≡ Some at → (when : Moment) (target : Path) →
    IsTargetTold s spot target when None → is_target (program_of s) at.place when target ≡ false
no_target s scene spot at at_spot when [] h = refl
no_target s scene spot at at_spot when (x ∷ []) h = sym (target_is s scene spot at at_spot x when) ∙ h x refl
no_target s scene spot at at_spot when (x ∷ (y ∷ rest)) h = refl

pub target_told : (s : Scene) → IsScene s → (spot place : ℕ) (es : List (Bor (List ℕ) × Times)) (a : AssignmentTree) (j : JudgedValue) → Judges (program_of s) spot a.value j → j.no_value ≡ false →
    IsTargetTold s spot a.target a.when None → IsItemTold (program_of s) spot place es es (an_assignment a) (Some code.NotATarget)
target_told s scene spot place es a j judged kept wrong = record {
  told = λ at at_spot i at_place is times.
      told_item (program_of s) at i (an_assignment a) (Some code.NotATarget) is
      (told_target (program_of s) at (record { number = i.number; before = i.before; item = an_assignment a }) (no_names (program_of s) at.place a j (judged at at_spot) kept)
      (no_target s scene spot at at_spot a.when a.target wrong));
  times = λ e. absurd (some_none code.NotATarget e);
}

-- an assignment with a lawful target and lawful names
abbrev item_with : NumberedItem → Moment → Path → Formula → NumberedItem
item_with i when target value = record { number = i.number; before = i.before; item = an_assignment (record { when = when; target = target; value = value }) }

rest_tests : (p : ProgramTree) (at : FlatInstance) (i : NumberedItem) (when : Moment) (target : Path) (value : Formula) (j : JudgedValue) (met next inputs : Bool) →
    IsJudged p at.place value j → j.no_value ≡ false → is_target p at.place when target ≡ true →
    (met ≡ true) ↔ BreaksOnce i.before (an_assignment (record { when = when; target = target; value = value })) →
    (next ≡ true) ↔ IsTrue (has_bad_next (is_later when) value) → (inputs ≡ true) ↔ AtSome (GivesInput p at.place) (inputs_judged (is_later when) value) →
    IsTold p (a_use at (item_with i when target value)) (code_of false false met false next inputs)
rest_tests p at i when target value j met next inputs h kept right once is_next is_inputs =
    told_tests p at (item_with i when target value) false false met false next inputs (record {
      names_test = (λ e. never e, λ b. absurd (no_names p at.place (record { when = when; target = target; value = value }) j h kept b));
      target_test = (λ e. never e, λ b. absurd (never (sym b ∙ right)));
      once_test = once;
      loops_test = nowhere;
      next_test = is_next;
      inputs_test = is_inputs;
    })

rest_told : (p : ProgramTree) (at : FlatInstance) (i : NumberedItem) (when : Moment) (target : Path) (value : Formula) (j : JudgedValue) (met : Bool) →
    IsJudged p at.place value j → j.no_value ≡ false → is_target p at.place when target ≡ true →
    (met ≡ true) ↔ BreaksOnce i.before (an_assignment (record { when = when; target = target; value = value })) →
    IsTold p (a_use at (item_with i when target value)) (assignment_rule met when j)
rest_told p at i Always target value j met h kept right once =
    subst (λ b. IsTold p (a_use at (item_with i Always target value)) (if met then Some code.DoubleAssign else first_of ((b, code.NoSuchName) ∷ (j.next, code.NextHere) ∷ (j.input, code.InputHere) ∷ []))) (sym kept)
    (rest_tests p at i Always target value j met j.next j.input h kept right once (λ t. sym h.next ∙ t, λ t. h.next ∙ t) h.input)
rest_told p at i First target value j met h kept right once =
    subst (λ b. IsTold p (a_use at (item_with i First target value)) (if met then Some code.DoubleAssign else first_of ((b, code.NoSuchName) ∷ (j.next, code.NextHere) ∷ (j.input, code.InputHere) ∷ []))) (sym kept)
    (rest_tests p at i First target value j met j.next j.input h kept right once (λ t. sym h.next ∙ t, λ t. h.next ∙ t) h.input)
rest_told p at i After target value j met h kept right once =
    subst (λ b. IsTold p (a_use at (item_with i After target value)) (if met then Some code.DoubleAssign else first_of ((b, code.NoSuchName) ∷ (j.nested_next, code.NextHere) ∷ (j.next_input, code.InputHere) ∷ []))) (sym kept)
    (rest_tests p at i After target value j met j.nested_next j.next_input h kept right once (λ t. sym h.nested_next ∙ t, λ t. h.nested_next ∙ t) h.next_input)

pub assignment_told : (s : Scene) → IsScene s → (spot place : ℕ) (es new : List (Bor (List ℕ) × Times)) (a : AssignmentTree) (j : JudgedValue) → Judges (program_of s) spot a.value j → j.no_value ≡ false →
    (x : Bor Text) → IsTargetTold s spot a.target a.when (Some x) → (met : Bool) → met ≡ is_met (times_of es x.now) a.when →
    ((y : Text) → times_of new y ≡ (if same_text x.now y then with_moment (times_of es x.now) a.when else times_of es y)) →
    (o : Option Code) → o ≡ assignment_rule met a.when j → IsItemTold (program_of s) spot place es new (an_assignment a) o
assignment_told s scene spot place es new a j judged kept x target met is_met_so added o is = record {
  told = λ at at_spot i at_place item times.
      subst (IsTold (program_of s) (a_use at i)) (sym is)
      (told_item (program_of s) at i (an_assignment a) (assignment_rule met a.when j) item
      (rest_told (program_of s) at i a.when a.target a.value j met (judged at at_spot) kept (right at at_spot)
      (subst (λ b. (b ≡ true) ↔ BreaksOnce i.before (an_assignment a)) (sym is_met_so) (is_double es i.before a x.now target.0 times))));
  times = λ e before times. times_added es new before a x.now target.0 added times;
}
  where
    right : (at : FlatInstance) → slice_get (instances_of (program_of s)) spot ≡ Some at → is_target (program_of s) at.place a.when a.target ≡ true
    right at at_spot = ap (is_target (program_of s) at.place a.when) target.0 ∙ sym (target_is s scene spot at at_spot x.now a.when) ∙ target.1
