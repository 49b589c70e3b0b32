-- The first of the rules that an item breaks at an instance, by what is judged of its value.
use Rattle.std.proofs.Common.{◌≡◌, ℕ, suc, ◌<◌, arith, Bool, true, false, List, [], ◌∷◌, Option, Some, None, refl, sym, ◌∙◌, subst}
use Rattle.std.specs.Prelude.{◌↔◌, IsTrue, slice_get}
use Rattle.smv_language.specs.Language.{Text, Formula, DeclaredTree, boolean, range, members, instance, DefineTree, ProgramTree, Role, define_key, FlatInstance}
use Rattle.smv_flat_laws.specs.Items.{Item, a_declaration, a_definition, some_constants, an_init, an_invar, a_trans, NumberedItem, instances_of}
use Rattle.smv_flat_laws.specs.NameResolution.{has_next}
use Rattle.smv_flat_laws.specs.Rules.{Rule, number_of, no_main, main_has_parameters, double_module, double_name, no_such_module, wrong_count, module_loop, no_such_name, not_a_target, double_assign, define_loop, next_here, input_here, too_many, a_use, BreaksNames, BreaksTarget, BreaksOnce, BreaksLoops, BreaksInputs, breaks_next, BreaksAtUse, IsKept, NeedsItself, next_under_next}
use Rattle.smv_scope.specs.Faults.{first_of}
use Rattle.smv_flat.specs.ValueJudgement.{IsJudged}
use Rattle.smv_flat.specs.Verdicts.{IsTold, IsToldOf}
use Rattle.smv_scope.specs.declared.fault.FlatRule.{FlatRule as Code}
use Rattle.smv_scope.specs.declared.fault.FlatRule.TheVariants as code
use Rattle.smv_flat.specs.declared.values.JudgedValue.{JudgedValue}

-- What an item keeps of the rules below a number.
pub record KeepsBelow (p : ProgramTree) (at : FlatInstance) (i : NumberedItem) (k : ℕ) : Type 0 where
  pub names : 8 < k → BreaksNames p at.place i.item → ⊥
  pub target : 9 < k → BreaksTarget p at.place i.item → ⊥
  pub once : 10 < k → BreaksOnce i.before i.item → ⊥
  pub loops : 11 < k → BreaksLoops p at.place i.item → ⊥
  pub next : 12 < k → IsTrue (breaks_next i.item) → ⊥
  pub inputs : 13 < k → BreaksInputs p at.place i.item → ⊥

pub kept_below : (p : ProgramTree) (at : FlatInstance) (i : NumberedItem) (k : ℕ) → KeepsBelow p at i k → (other : Rule) → number_of other < k → BreaksAtUse p at i other → ⊥
kept_below p at i k h no_main less b = b
kept_below p at i k h main_has_parameters less b = b
kept_below p at i k h double_module less b = b
kept_below p at i k h double_name less b = b
kept_below p at i k h no_such_module less b = b
kept_below p at i k h wrong_count less b = b
kept_below p at i k h module_loop less b = b
kept_below p at i k h no_such_name less b = h.names less b
kept_below p at i k h not_a_target less b = h.target less b
kept_below p at i k h double_assign less b = h.once less b
kept_below p at i k h define_loop less b = h.loops less b
kept_below p at i k h next_here less b = h.next less b
kept_below p at i k h input_here less b = h.inputs less b
kept_below p at i k h too_many less b = b

all_kept : (p : ProgramTree) (at : FlatInstance) (i : NumberedItem) → KeepsBelow p at i 15 → IsKept p (a_use at i)
all_kept p at i h other b = kept_below p at i 15 h other (few other) b
  where
    few : (r : Rule) → number_of r < 15
    few no_main = omega arith
    few main_has_parameters = omega arith
    few double_module = omega arith
    few double_name = omega arith
    few no_such_module = omega arith
    few wrong_count = omega arith
    few module_loop = omega arith
    few no_such_name = omega arith
    few not_a_target = omega arith
    few double_assign = omega arith
    few define_loop = omega arith
    few next_here = omega arith
    few input_here = omega arith
    few too_many = omega arith

not_below : {P : Type 0} (m k : ℕ) → k < suc m → m < k → P → ⊥
not_below m k few less b = absurd (omega (arith, few, less))

unmarked : {P : Type 0} → (false ≡ true) ↔ P → P → ⊥
unmarked h b = absurd (differ (h.1 b))
  where
    differ : false ≡ true → ⊥
    differ e = cc

-- the rules that may be broken at an item, as tests
pub record Tests (p : ProgramTree) (at : FlatInstance) (i : NumberedItem) (names target once loops next inputs : Bool) : Type 0 where
  pub names_test : (names ≡ true) ↔ BreaksNames p at.place i.item
  pub target_test : (target ≡ true) ↔ BreaksTarget p at.place i.item
  pub once_test : (once ≡ true) ↔ BreaksOnce i.before i.item
  pub loops_test : (loops ≡ true) ↔ BreaksLoops p at.place i.item
  pub next_test : (next ≡ true) ↔ IsTrue (breaks_next i.item)
  pub inputs_test : (inputs ≡ true) ↔ BreaksInputs p at.place i.item

-- the codes of broken rules by their numbers
abbrev pub code_of : Bool → Bool → Bool → Bool → Bool → Bool → Option Code
code_of names target once loops next inputs =
    first_of ((names, code.NoSuchName) ∷ (target, code.NotATarget) ∷ (once, code.DoubleAssign) ∷ (loops, code.DefineLoop) ∷ (next, code.NextHere) ∷ (inputs, code.InputHere) ∷ [])

pub told_names : (p : ProgramTree) (at : FlatInstance) (i : NumberedItem) → BreaksNames p at.place i.item → IsTold p (a_use at i) (Some code.NoSuchName)
told_names p at i b = record {
  broken = b;
  lowest = kept_below p at i 8 (record {
    names = not_below 8 8 (omega arith);
    target = not_below 9 8 (omega arith);
    once = not_below 10 8 (omega arith);
    loops = not_below 11 8 (omega arith);
    next = not_below 12 8 (omega arith);
    inputs = not_below 13 8 (omega arith);
  });
}

pub told_target : (p : ProgramTree) (at : FlatInstance) (i : NumberedItem) → (BreaksNames p at.place i.item → ⊥) → BreaksTarget p at.place i.item → IsTold p (a_use at i) (Some code.NotATarget)
told_target p at i names b = record {
  broken = b;
  lowest = kept_below p at i 9 (record {
    names = λ less. names;
    target = not_below 9 9 (omega arith);
    once = not_below 10 9 (omega arith);
    loops = not_below 11 9 (omega arith);
    next = not_below 12 9 (omega arith);
    inputs = not_below 13 9 (omega arith);
  });
}

pub told_tests : (p : ProgramTree) (at : FlatInstance) (i : NumberedItem) (names target once loops next inputs : Bool) → Tests p at i names target once loops next inputs →
    IsTold p (a_use at i) (code_of names target once loops next inputs)
told_tests p at i true target once loops next inputs h = told_names p at i (h.names_test.0 refl)
told_tests p at i false true once loops next inputs h = told_target p at i (unmarked h.names_test) (h.target_test.0 refl)
told_tests p at i false false true loops next inputs h = record {
  broken = h.once_test.0 refl;
  lowest = kept_below p at i 10 (record {
    names = λ less. unmarked h.names_test;
    target = λ less. unmarked h.target_test;
    once = not_below 10 10 (omega arith);
    loops = not_below 11 10 (omega arith);
    next = not_below 12 10 (omega arith);
    inputs = not_below 13 10 (omega arith);
  });
}
told_tests p at i false false false true next inputs h = record {
  broken = h.loops_test.0 refl;
  lowest = kept_below p at i 11 (record {
    names = λ less. unmarked h.names_test;
    target = λ less. unmarked h.target_test;
    once = λ less. unmarked h.once_test;
    loops = not_below 11 11 (omega arith);
    next = not_below 12 11 (omega arith);
    inputs = not_below 13 11 (omega arith);
  });
}
told_tests p at i false false false false true inputs h = record {
  broken = h.next_test.0 refl;
  lowest = kept_below p at i 12 (record {
    names = λ less. unmarked h.names_test;
    target = λ less. unmarked h.target_test;
    once = λ less. unmarked h.once_test;
    loops = λ less. unmarked h.loops_test;
    next = not_below 12 12 (omega arith);
    inputs = not_below 13 12 (omega arith);
  });
}
told_tests p at i false false false false false true h = record {
  broken = h.inputs_test.0 refl;
  lowest = kept_below p at i 13 (record {
    names = λ less. unmarked h.names_test;
    target = λ less. unmarked h.target_test;
    once = λ less. unmarked h.once_test;
    loops = λ less. unmarked h.loops_test;
    next = λ less. unmarked h.next_test;
    inputs = not_below 13 13 (omega arith);
  });
}
told_tests p at i false false false false false false h = all_kept p at i (record {
  names = λ less. unmarked h.names_test;
  target = λ less. unmarked h.target_test;
  once = λ less. unmarked h.once_test;
  loops = λ less. unmarked h.loops_test;
  next = λ less. unmarked h.next_test;
  inputs = λ less. unmarked h.inputs_test;
})

pub nowhere : (false ≡ true) ↔ ⊥
nowhere = (λ e. cc, λ b. absurd b)

same_test : (a b : Bool) → a ≡ b → (a ≡ true) ↔ IsTrue b
same_test a b e = (λ t. sym e ∙ t, λ t. e ∙ t)

-- an item as it is known
pub told_item : (p : ProgramTree) (at : FlatInstance) (i : NumberedItem) (item : Item) (o : Option Code) → i.item ≡ item →
    IsTold p (a_use at (record { number = i.number; before = i.before; item = item })) o → IsTold p (a_use at i) o
told_item p at i item o e h = subst (λ (x : Item). IsTold p (a_use at (record { number = i.number; before = i.before; item = x })) o) (sym e) h

-- what is judged of a value at an instance
abbrev pub Judges : ProgramTree → ℕ → Formula → JudgedValue → Type 0
Judges p spot e j = (at : FlatInstance) → slice_get (instances_of p) spot ≡ Some at → IsJudged p at.place e j

abbrev pub now_code : JudgedValue → Option Code
now_code j = first_of ((j.no_value, code.NoSuchName) ∷ (j.next, code.NextHere) ∷ (j.input, code.InputHere) ∷ [])

abbrev pub step_code : JudgedValue → Option Code
step_code j = first_of ((j.no_value, code.NoSuchName) ∷ (j.nested_next, code.NextHere) ∷ (j.next_input, code.InputHere) ∷ [])

now_tests : (p : ProgramTree) (at : FlatInstance) (i : NumberedItem) (e : Formula) (j : JudgedValue) → i.item ≡ an_init e → IsJudged p at.place e j → IsTold p (a_use at i) (now_code j)
now_tests p at i e j is h =
    told_item p at i (an_init e) (now_code j) is
    (told_tests p at (record { number = i.number; before = i.before; item = an_init e }) j.no_value false false false j.next j.input
    (record { names_test = h.no_value; target_test = nowhere; once_test = nowhere; loops_test = nowhere; next_test = same_test j.next (has_next e) h.next; inputs_test = h.input }))

invar_tests : (p : ProgramTree) (at : FlatInstance) (i : NumberedItem) (e : Formula) (j : JudgedValue) → i.item ≡ an_invar e → IsJudged p at.place e j → IsTold p (a_use at i) (now_code j)
invar_tests p at i e j is h =
    told_item p at i (an_invar e) (now_code j) is
    (told_tests p at (record { number = i.number; before = i.before; item = an_invar e }) j.no_value false false false j.next j.input
    (record { names_test = h.no_value; target_test = nowhere; once_test = nowhere; loops_test = nowhere; next_test = same_test j.next (has_next e) h.next; inputs_test = h.input }))

trans_tests : (p : ProgramTree) (at : FlatInstance) (i : NumberedItem) (e : Formula) (j : JudgedValue) → i.item ≡ a_trans e → IsJudged p at.place e j → IsTold p (a_use at i) (step_code j)
trans_tests p at i e j is h =
    told_item p at i (a_trans e) (step_code j) is
    (told_tests p at (record { number = i.number; before = i.before; item = a_trans e }) j.no_value false false false j.nested_next j.next_input
    (record { names_test = h.no_value; target_test = nowhere; once_test = nowhere; loops_test = nowhere; next_test = same_test j.nested_next (next_under_next e) h.nested_next; inputs_test = h.next_input }))

pub init_told : (p : ProgramTree) (spot : ℕ) (e : Formula) (j : JudgedValue) (o : Option Code) → Judges p spot e j → o ≡ now_code j → IsToldOf p spot (an_init e) o
init_told p spot e j o h is at at_spot i item = subst (IsTold p (a_use at i)) (sym is) (now_tests p at i e j item (h at at_spot))

pub invar_told : (p : ProgramTree) (spot : ℕ) (e : Formula) (j : JudgedValue) (o : Option Code) → Judges p spot e j → o ≡ now_code j → IsToldOf p spot (an_invar e) o
invar_told p spot e j o h is at at_spot i item = subst (IsTold p (a_use at i)) (sym is) (invar_tests p at i e j item (h at at_spot))

pub trans_told : (p : ProgramTree) (spot : ℕ) (e : Formula) (j : JudgedValue) (o : Option Code) → Judges p spot e j → o ≡ step_code j → IsToldOf p spot (a_trans e) o
trans_told p spot e j o h is at at_spot i item = subst (IsTold p (a_use at i)) (sym is) (trans_tests p at i e j item (h at at_spot))

-- an item that breaks no rule of values
pub constants_told : (p : ProgramTree) (spot : ℕ) (xs : List Text) → IsToldOf p spot (some_constants xs) None
constants_told p spot xs at at_spot i item =
    told_item p at i (some_constants xs) None item
    (told_tests p at (record { number = i.number; before = i.before; item = some_constants xs }) false false false false false false
    (record { names_test = nowhere; target_test = nowhere; once_test = nowhere; loops_test = nowhere; next_test = same_test false false refl; inputs_test = nowhere }))

pub definition_told : (p : ProgramTree) (at : FlatInstance) (i : NumberedItem) (d : DefineTree) (j : JudgedValue) (circle : Bool) → i.item ≡ a_definition d → IsJudged p at.place d.value j →
    (circle ≡ true) ↔ NeedsItself p (define_key at.place d.name) →
    IsTold p (a_use at i) (first_of ((j.no_value, code.NoSuchName) ∷ (circle, code.DefineLoop) ∷ (j.next, code.NextHere) ∷ []))
definition_told p at i d j circle is h loops =
    told_item p at i (a_definition d) _ is
    (told_tests p at (record { number = i.number; before = i.before; item = a_definition d }) j.no_value false false circle j.next false
    (record { names_test = h.no_value; target_test = nowhere; once_test = nowhere; loops_test = loops; next_test = same_test j.next (has_next d.value) h.next; inputs_test = nowhere }))

-- the declaration of a variable breaks no rule of values
abbrev pub is_variable_declared : DeclaredTree → Bool
is_variable_declared boolean = true
is_variable_declared (range lo hi) = true
is_variable_declared (members ms) = true
is_variable_declared (instance m actuals) = false

pub variable_told : (p : ProgramTree) (at : FlatInstance) (i : NumberedItem) (role : Role) (x : Text) (what : DeclaredTree) → i.item ≡ a_declaration role (record { name = x; what = what }) →
    is_variable_declared what ≡ true → IsTold p (a_use at i) None
variable_told p at i role x what is e = told_item p at i (a_declaration role (record { name = x; what = what })) None is (by_type what e)
  where
    by_type : (w : DeclaredTree) → is_variable_declared w ≡ true →
        IsTold p (a_use at (record { number = i.number; before = i.before; item = a_declaration role (record { name = x; what = w }) })) None
    by_type boolean e = told_tests p at (record { number = i.number; before = i.before; item = a_declaration role (record { name = x; what = boolean }) }) false false false false false false
        (record { names_test = nowhere; target_test = nowhere; once_test = nowhere; loops_test = nowhere; next_test = same_test false false refl; inputs_test = nowhere })
    by_type (range lo hi) e = told_tests p at (record { number = i.number; before = i.before; item = a_declaration role (record { name = x; what = range lo hi }) }) false false false false false false
        (record { names_test = nowhere; target_test = nowhere; once_test = nowhere; loops_test = nowhere; next_test = same_test false false refl; inputs_test = nowhere })
    by_type (members ms) e = told_tests p at (record { number = i.number; before = i.before; item = a_declaration role (record { name = x; what = members ms }) }) false false false false false false
        (record { names_test = nowhere; target_test = nowhere; once_test = nowhere; loops_test = nowhere; next_test = same_test false false refl; inputs_test = nowhere })
    by_type (instance m actuals) e = cc
