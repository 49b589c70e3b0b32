-- Worked examples: a sensor as it is woven, and a lamp that meets the premises.
use Rattle.std.proofs.Common.{◌≡◌, ◌≢◌, ◌⊎◌, inl, inr, Bool, true, false, List, [], ◌∷◌, Some, None, refl, sym, ◌∙◌, ap, subst}
use Rattle.std.specs.Prelude.{codes, if◌then◌else◌}
use Rattle.smv_language.specs.declared.expr.Op.TheVariants as op
use Rattle.smv_language.specs.declared.program.Member.TheVariants as member
use Rattle.smv_language.specs.declared.program.Moment.TheVariants.{Always, First, After}
use Rattle.smv_language.specs.Language.{next_of, binary, choice, case_of, set_of, no_tree, tree_then, no_branch, branch_then, Text, Formula, boolean, members, var, assign, init, trans, ModuleTree, same_text, Place, state, a_variable, an_instance, undeclared, kind_in, a_variable_at}
use Rattle.smv_language.specs.Tree.{truth as is_truth}
use Rattle.smv_language.specs.Values.{truth}
use Rattle.smv_language.specs.Scope.{a_define}
use Rattle.smv_language.proofs.ValueLaws.{same_text_refl}
use Rattle.fault_instructions.specs.declared.instructions.Dynamics.TheVariants.{Permanent, Transient}
use Rattle.fault_instructions.specs.declared.instructions.Start.TheVariants.{Nominal, Any}
use Rattle.fault_instructions.specs.declared.effects.PlainEffect.TheVariants.{Random, Frozen}
use Rattle.fault_instructions.specs.declared.effects.ConstantEffect.TheVariants.{StuckAt}
use Rattle.fault_instructions.specs.Instructions.{InstructionTree, SliceTree, ModeTree, plain, of_constant, slices_of}
use Rattle.fault_instructions.specs.AddedNames.{ModeState}
use Rattle.fault_instructions.specs.AddedNames.{own_name, mode_variable, mode_symbol}
use Rattle.fault_weave.specs.Conservative.{IsExtensionOf}
use Rattle.fault_instructions.specs.Templates.{named}
use Rattle.fault_weave.specs.WovenProgram.{woven_module, woven}
use Rattle.fault_instructions.specs.Weavable.{Among, IsLawfulInstance, IsLawfulSlice, IsWeavable}
use Rattle.fault_instructions.specs.Types.{IsKnown}
use Rattle.fault_weave.proofs.Examples.{lamp_main, lamp, dark, only_main}
use Rattle.fault_weave.proofs.WovenNominal.{woven_extends}

-- MODULE Sensor(line) VAR seen : boolean; ASSIGN seen := line;
abbrev sensor : ModuleTree
sensor = record {
  name = codes "Sensor";
  formals = codes "line" ∷ [];
  sections = var (record { name = codes "seen"; what = boolean } ∷ []) ∷ assign (record { when = Always; target = codes "seen" ∷ []; value = named (codes "line") } ∷ []) ∷ [];
}

-- SLICE Eye AFFECTS seen WITH MODE wild : Transient Random; MODE hold : Permanent Frozen;
abbrev eye : InstructionTree
eye = record {
  name = None;
  extensions = record {
    of_module = codes "Sensor";
    slices = record {
      name = codes "Eye";
      target = codes "seen";
      start = Nominal;
      modes =
          record { name = codes "wild"; mark = None; dynamics = Transient; effect = plain Random; guard = None } ∷
          record { name = codes "hold"; mark = None; dynamics = Permanent; effect = plain Frozen; guard = None } ∷ [];
    } ∷ [];
  } ∷ [];
}

abbrev mode_is : Text → Formula
mode_is x = binary op.Equal (named (codes "Eye#mode")) (named x)

abbrev only : Text → Formula
only x = set_of (tree_then (named x) no_tree)

abbrev any_truth : Formula
any_truth = set_of (tree_then (is_truth false) (tree_then (is_truth true) no_tree))

-- as the format's example has it
abbrev woven_sensor : ModuleTree
woven_sensor = record {
  name = codes "Sensor";
  formals = codes "line" ∷ [];
  sections =
      var (record { name = codes "seen"; what = boolean } ∷ []) ∷
      assign (record { when = Always; target = codes "seen#nominal" ∷ []; value = named (codes "line") } ∷ []) ∷
      var (
      record { name = codes "seen#nominal"; what = boolean } ∷
      record { name = codes "Eye#mode"; what = members (member.Symbol (codes "Eye#nominal") ∷ member.Symbol (codes "Eye#wild") ∷ member.Symbol (codes "Eye#hold") ∷ []) } ∷ []) ∷
      assign (
      record { when = First; target = codes "Eye#mode" ∷ []; value = named (codes "Eye#nominal") } ∷
      record {
        when = After;
        target = codes "Eye#mode" ∷ [];
        value = case_of (
            branch_then (mode_is (codes "Eye#wild")) (set_of (tree_then (named (codes "Eye#wild")) (tree_then (named (codes "Eye#nominal")) no_tree))) (
            branch_then (mode_is (codes "Eye#hold")) (named (codes "Eye#hold")) (
            branch_then (is_truth true) (binary op.Union (binary op.Union (only (codes "Eye#nominal")) (choice (is_truth true) (only (codes "Eye#wild")) (only (codes "Eye#nominal"))))
            (choice (is_truth true) (only (codes "Eye#hold")) (only (codes "Eye#nominal")))) no_branch)));
      } ∷
      record {
        when = Always;
        target = codes "seen" ∷ [];
        value = case_of (branch_then (mode_is (codes "Eye#wild")) any_truth (branch_then (mode_is (codes "Eye#hold")) any_truth (branch_then (is_truth true) (named (codes "seen#nominal")) no_branch)));
      } ∷ []) ∷
      trans (binary op.Implies (binary op.Equal (next_of (named (codes "Eye#mode"))) (named (codes "Eye#hold"))) (binary op.Equal (next_of (named (codes "seen"))) (named (codes "seen")))) ∷ [];
}

pub sensor_is_woven : woven_module eye sensor ≡ woven_sensor
sensor_is_woven = refl

-- EXTENSION OF MODULE main SLICE Lamp AFFECTS on INITIALLY ANY WITH MODE hold : Permanent Frozen;
abbrev holding : InstructionTree
holding = record {
  name = None;
  extensions = record {
    of_module = codes "main";
    slices = record {
      name = codes "Lamp";
      target = codes "on";
      start = Any;
      modes = record { name = codes "hold"; mark = None; dynamics = Permanent; effect = plain Frozen; guard = None } ∷ [];
    } ∷ [];
  } ∷ [];
}

abbrev holds : Formula
holds = binary op.Equal (named (codes "Lamp#mode")) (named (codes "Lamp#hold"))

-- it starts in a set, and a first rule section comes behind the rule section of its mode
abbrev woven_holding : ModuleTree
woven_holding = record {
  name = codes "main";
  formals = [];
  sections =
      var (record { name = codes "on"; what = boolean } ∷ []) ∷
      assign (
      record { when = First; target = codes "on#nominal" ∷ []; value = is_truth true } ∷
      record { when = After; target = codes "on#nominal" ∷ []; value = named (codes "on") } ∷ []) ∷
      var (
      record { name = codes "on#nominal"; what = boolean } ∷
      record { name = codes "Lamp#mode"; what = members (member.Symbol (codes "Lamp#nominal") ∷ member.Symbol (codes "Lamp#hold") ∷ []) } ∷ []) ∷
      assign (
      record { when = First; target = codes "Lamp#mode" ∷ []; value = set_of (tree_then (named (codes "Lamp#nominal")) (tree_then (named (codes "Lamp#hold")) no_tree)) } ∷
      record {
        when = After;
        target = codes "Lamp#mode" ∷ [];
        value = case_of (
            branch_then holds (named (codes "Lamp#hold")) (
            branch_then (is_truth true) (binary op.Union (only (codes "Lamp#nominal")) (choice (is_truth true) (only (codes "Lamp#hold")) (only (codes "Lamp#nominal")))) no_branch));
      } ∷
      record {
        when = Always;
        target = codes "on" ∷ [];
        value = case_of (branch_then holds any_truth (branch_then (is_truth true) (named (codes "on#nominal")) no_branch));
      } ∷ []) ∷
      trans (binary op.Implies (binary op.Equal (next_of (named (codes "Lamp#mode"))) (named (codes "Lamp#hold"))) (binary op.Equal (next_of (named (codes "on"))) (named (codes "on")))) ∷
      init (binary op.Implies holds (binary op.Equal (named (codes "on")) (named (codes "on#nominal")))) ∷ [];
}

pub lamp_is_woven : woven_module holding lamp_main ≡ woven_holding
lamp_is_woven = refl

-- the lamp meets the premises
abbrev lamp_slice : SliceTree
lamp_slice = record {
  name = codes "Lamp";
  target = codes "on";
  start = Nominal;
  modes = record { name = codes "dark"; mark = None; dynamics = Permanent; effect = of_constant StuckAt (truth false); guard = None } ∷ [];
}

no_define : (x : Text) (e : Formula) → kind_in lamp_main x ≡ a_define e → ⊥
no_define x e h = go (same_text (codes "on") x) h
  where
    go : (b : Bool) → (if b then a_variable state boolean else undeclared) ≡ a_define e → ⊥
    go true h = cc
    go false h = cc

no_actuals : (x n : Text) (es : List Formula) → kind_in lamp_main x ≡ an_instance n es → ⊥
no_actuals x n es h = go (same_text (codes "on") x) h
  where
    go : (b : Bool) → (if b then a_variable state boolean else undeclared) ≡ an_instance n es → ⊥
    go true h = cc
    go false h = cc

lamp_instance : (at : Place) (m : ModuleTree) → at ≡ [] → m ≡ lamp_main → IsLawfulInstance lamp at m
lamp_instance at m ea em = rw (ea, em) (record {
  defines = λ x e h. absurd (no_define x e h);
  actuals = λ x n es k e h q. absurd (no_actuals x n es h);
  sections = ((refl, tt), ((((state, boolean, refl), tt), (((state, boolean, refl), (a_variable_at [] (codes "on"), (1, refl))), tt)), tt));
})

pub texts_differ : (a b : Text) → same_text a b ≡ false → a ≢ b
texts_differ a b h e = let same : same_text a b ≡ true = subst (λ c. same_text a c ≡ true) e (same_text_refl a) in let bad : false ≡ true = sym h ∙ same in cc

lamp_symbol : (st : ModeState) → IsKnown lamp_slice st → (st ≡ None) ⊎ (st ≡ Some (codes "dark"))
lamp_symbol None h = inl refl
lamp_symbol (Some n) (inl e) = inr (ap (λ x. Some x) (sym e))
lamp_symbol (Some n) (inr h) = absurd h

symbol_is_new : (st : ModeState) → IsKnown lamp_slice st → kind_in lamp_main (mode_symbol (codes "Lamp") st) ≡ undeclared
symbol_is_new st h = go (lamp_symbol st h)
  where
    go : (st ≡ None) ⊎ (st ≡ Some (codes "dark")) → kind_in lamp_main (mode_symbol (codes "Lamp") st) ≡ undeclared
    go (inl e) = subst (λ t. kind_in lamp_main (mode_symbol (codes "Lamp") t) ≡ undeclared) (sym e) refl
    go (inr e) = subst (λ t. kind_in lamp_main (mode_symbol (codes "Lamp") t) ≡ undeclared) (sym e) refl

symbol_is_other : (st : ModeState) (y : Text) → IsKnown lamp_slice st → same_text (codes "Lamp#nominal") y ≡ false → same_text (codes "Lamp#dark") y ≡ false → mode_symbol (codes "Lamp") st ≢ y
symbol_is_other st y h a b = go (lamp_symbol st h)
  where
    go : (st ≡ None) ⊎ (st ≡ Some (codes "dark")) → mode_symbol (codes "Lamp") st ≢ y
    go (inl e) = subst (λ t. mode_symbol (codes "Lamp") t ≢ y) (sym e) (texts_differ (codes "Lamp#nominal") y a)
    go (inr e) = subst (λ t. mode_symbol (codes "Lamp") t ≢ y) (sym e) (texts_differ (codes "Lamp#dark") y b)

only_slice : (m : ModuleTree) (s : SliceTree) → Among (slices_of dark m.name) s → lamp_slice ≡ s
only_slice m s a = go (same_text (codes "main") m.name) a
  where
    go : (b : Bool) → Among (if b then lamp_slice ∷ [] else []) s → lamp_slice ≡ s
    go true (inl e) = e
    go true (inr h) = absurd h
    go false h = absurd h

one_mode : (a b : ModeTree) → Among lamp_slice.modes a → Among lamp_slice.modes b → a ≡ b
one_mode a b (inl e) (inl f) = sym e ∙ f
one_mode a b (inl e) (inr h) = absurd h
one_mode a b (inr h) q = absurd h

lamp_slice_lawful : (at : Place) (m : ModuleTree) (s : SliceTree) → at ≡ [] → m ≡ lamp_main → s ≡ lamp_slice → IsLawfulSlice lamp at m s
lamp_slice_lawful at m s ea em es = rw (ea, em, es) (record {
  type = boolean;
  target_kind = refl;
  finite = tt;
  uniform = tt;
  symbols_free = tt;
  own_new = refl;
  own_no_symbol = refl;
  mode_new = refl;
  mode_no_symbol = refl;
  symbol_new = symbol_is_new;
  modes = (record { not_nominal = texts_differ (codes "dark") (codes "nominal") refl; effect_allowed = (refl, tt); guard_lawful = tt }, tt);
  modes_differ = λ a b p q e. one_mode a b p q;
})

pub lamp_weavable : IsWeavable lamp dark
lamp_weavable = record {
  instances = λ at m is. lamp_instance at m (only_main at m is).0 (only_main at m is).1;
  slices = λ at m s is a. lamp_slice_lawful at m s (only_main at m is).0 (only_main at m is).1 (sym (only_slice m s a));
  targets_differ = λ m s t a b e. sym (only_slice m s a) ∙ only_slice m t b;
  names_differ = λ m s t a b e. sym (only_slice m s a) ∙ only_slice m t b;
  symbol_not_own = λ m s t st a b known. subst (λ x. IsKnown x st → mode_symbol x.name st ≢ own_name t.target) (only_slice m s a)
      (λ k. subst (λ y. mode_symbol (codes "Lamp") st ≢ own_name y.target) (only_slice m t b) (symbol_is_other st (codes "on#nominal") k refl refl)) known;
  symbol_not_mode = λ m s t st a b known. subst (λ x. IsKnown x st → mode_symbol x.name st ≢ mode_variable t.name) (only_slice m s a)
      (λ k. subst (λ y. mode_symbol (codes "Lamp") st ≢ mode_variable y.name) (only_slice m t b) (symbol_is_other st (codes "Lamp#mode") k refl refl)) known;
}

-- so the woven lamp is the extension of the lamp
pub woven_lamp : IsExtensionOf lamp dark (woven lamp dark)
woven_lamp = woven_extends lamp dark lamp_weavable
