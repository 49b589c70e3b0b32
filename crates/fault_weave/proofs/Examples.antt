-- Worked example: a lamp that a fault turns dark has this extended trace.
use Rattle.std.proofs.Common.{◌≡◌, Bool, true, false, [], ◌∷◌, Option, Some, None, refl, inl, inr}
use Rattle.std.specs.Prelude.{codes, pos}
use Rattle.smv_language.specs.declared.program.Moment.TheVariants.{First, After}
use Rattle.smv_language.specs.Language.{leaf, Text, Formula, boolean, range, var, assign, ProgramTree, ModuleTree, Value, one, same_text, Place, module_at, module_of_kind, kind_in, IsInstance, Each}
use Rattle.smv_language.specs.Tree.{truth as is_truth}
use Rattle.smv_language.specs.Values.{truth, number}
use Rattle.fault_instructions.specs.declared.instructions.Dynamics.TheVariants.{Permanent}
use Rattle.fault_instructions.specs.declared.instructions.Start.TheVariants.{Nominal, Any}
use Rattle.fault_weave.specs.Faults.{HasFaults}
use Rattle.fault_instructions.specs.declared.effects.ConstantEffect.TheVariants.{StuckAt}
use Rattle.fault_instructions.specs.declared.effects.NumbersEffect.TheVariants.{RampDown}
use Rattle.fault_instructions.specs.Instructions.{InstructionTree, of_constant, of_numbers, slices_of}
use Rattle.fault_instructions.specs.Effects.{Allows}
use Rattle.fault_weave.specs.ExtensionTraces.{Moment, FirstSection, DomainSection, EachSection, StepSection, FirstSlice, EachSlice, StepSlice, IsFirst, IsMoment, IsStep, IsExtended, HasFailed}

-- MODULE main VAR on : boolean; ASSIGN init(on) := TRUE; next(on) := on;
abbrev pub lamp_main : ModuleTree
lamp_main = record {
  name = codes "main";
  formals = [];
  sections =
      var (record { name = codes "on"; what = boolean } ∷ []) ∷
      assign (
      record { when = First; target = codes "on" ∷ []; value = is_truth true } ∷
      record { when = After; target = codes "on" ∷ []; value = leaf (codes "on" ∷ []) } ∷ []) ∷ [];
}

abbrev pub lamp : ProgramTree
lamp = lamp_main ∷ []

-- no declaration of the lamp is an instance
pub no_instance : (x : Text) → module_of_kind lamp (kind_in lamp_main x) ≡ None
no_instance x = go (same_text (codes "on") x) refl
  where
    go : (b : Bool) → same_text (codes "on") x ≡ b → module_of_kind lamp (kind_in lamp_main x) ≡ None
    go true e = rw e refl
    go false e = rw e refl

-- main is the only instance
pub only_main : (at : Place) (m : ModuleTree) → IsInstance lamp at m → (at ≡ []) × (m ≡ lamp_main)
only_main [] m h = (refl, cc)
only_main (x ∷ at) m h = go (module_at lamp at) refl (λ m' e. (only_main at m' e).1)
  where
    go : (o : Option ModuleTree) → module_at lamp at ≡ o → ((m' : ModuleTree) → IsInstance lamp at m' → m' ≡ lamp_main) → (x ∷ at ≡ []) × (m ≡ lamp_main)
    go None e above = let none : None ≡ Some m = rw e at h in cc
    go (Some m') e above =
        let found : module_of_kind lamp (kind_in m' x) ≡ Some m = rw e at h in
        let in_main : module_of_kind lamp (kind_in lamp_main x) ≡ Some m = rw (above m' e) at found in
        let none : None ≡ Some m = rw no_instance at in_main in cc

-- EXTENSION OF MODULE main SLICE Lamp AFFECTS on WITH MODE dark : Permanent StuckAt(FALSE);
abbrev pub dark : InstructionTree
dark = record {
  name = None;
  extensions = record {
    of_module = codes "main";
    slices = record {
      name = codes "Lamp";
      target = codes "on";
      start = Nominal;
      modes = record { name = codes "dark"; mark = None; dynamics = Permanent; effect = of_constant StuckAt (truth false); guard = None } ∷ [];
    } ∷ [];
  } ∷ [];
}

-- lit, and then dark though its own value is TRUE
abbrev lit : Moment
lit = record { read = λ at x. truth true; own = λ at x. truth true; mode = λ at s. None }

abbrev gone_dark : Moment
gone_dark = record { read = λ at x. truth false; own = λ at x. truth true; mode = λ at s. Some (codes "dark") }

first_lit : IsFirst lamp dark lit
first_lit at m i = go at m (only_main at m i).0 (only_main at m i).1
  where
    go : (at : Place) (m : ModuleTree) → at ≡ [] → m ≡ lamp_main → Each (FirstSection lamp dark at m lit) m.sections × Each (FirstSlice lamp dark at m lit) (slices_of dark m.name)
    go at m ea em = rw (ea, em) ((tt, (((0, one (truth true), refl, refl), (tt, tt)), tt)), ((refl, tt), tt))

moment_lit : IsMoment lamp dark lit
moment_lit at m i = go at m (only_main at m i).0 (only_main at m i).1
  where
    go : (at : Place) (m : ModuleTree) → at ≡ [] → m ≡ lamp_main → Each (DomainSection lamp dark at m lit) m.sections × Each (EachSection lamp dark at m lit) m.sections × Each (EachSlice lamp dark at m lit) (slices_of dark m.name)
    go at m ea em = rw (ea, em) ((((refl, λ _. refl), tt), (tt, tt)), (tt, ((tt, (tt, tt)), tt)), ((λ _. refl), tt))

moment_dark : IsMoment lamp dark gone_dark
moment_dark at m i = go at m (only_main at m i).0 (only_main at m i).1
  where
    go : (at : Place) (m : ModuleTree) → at ≡ [] → m ≡ lamp_main → Each (DomainSection lamp dark at m gone_dark) m.sections × Each (EachSection lamp dark at m gone_dark) m.sections × Each (EachSlice lamp dark at m gone_dark) (slices_of dark m.name)
    go at m ea em = rw (ea, em) ((((refl, λ _. refl), tt), (tt, tt)), (tt, ((tt, (tt, tt)), tt)), ((λ e. cc), tt))

step_dark : IsStep lamp dark lit gone_dark
step_dark at m i = go at m (only_main at m i).0 (only_main at m i).1
  where
    go : (at : Place) (m : ModuleTree) → at ≡ [] → m ≡ lamp_main → Each (StepSection lamp dark at m lit gone_dark) m.sections × Each (StepSlice lamp dark at m lit gone_dark) (slices_of dark m.name)
    go at m ea em = rw (ea, em) ((tt, ((tt, ((1, one (truth true), refl, refl), tt)), tt)), ((inr (inl (refl, tt)), inl (refl, refl)), tt))

pub dark_trace : IsExtended lamp dark (lit ∷ gone_dark ∷ [])
dark_trace = record { first = first_lit; moments = (moment_lit, (moment_dark, tt)); steps = (step_dark, tt) }

-- and it has failed the fault
pub dark_failed : HasFailed (lit ∷ gone_dark ∷ []) (record { place = []; slice = codes "Lamp"; mode = codes "dark" })
dark_failed = inr (inl refl)

-- the fault list has this one fault
dark_faults : HasFaults lamp dark (record { place = []; slice = codes "Lamp"; mode = codes "dark" } ∷ [])
dark_faults = ([] ∷ [], (1, refl), refl)

-- EXTENSION OF MODULE main SLICE Lamp AFFECTS on INITIALLY ANY WITH MODE dark : Permanent StuckAt(FALSE);
abbrev any_dark : InstructionTree
any_dark = record {
  name = None;
  extensions = record {
    of_module = codes "main";
    slices = record {
      name = codes "Lamp";
      target = codes "on";
      start = Any;
      modes = record { name = codes "dark"; mark = None; dynamics = Permanent; effect = of_constant StuckAt (truth false); guard = None } ∷ [];
    } ∷ [];
  } ∷ [];
}

-- the lamp may be dark from the first moment on
first_dark : IsFirst lamp any_dark gone_dark
first_dark at m i = go at m (only_main at m i).0 (only_main at m i).1
  where
    go : (at : Place) (m : ModuleTree) → at ≡ [] → m ≡ lamp_main → Each (FirstSection lamp any_dark at m gone_dark) m.sections × Each (FirstSlice lamp any_dark at m gone_dark) (slices_of any_dark m.name)
    go at m ea em = rw (ea, em) ((tt, (((0, one (truth true), refl, refl), (tt, tt)), tt)), ((inr (inl refl), inl (refl, refl)), tt))

moment_any_dark : IsMoment lamp any_dark gone_dark
moment_any_dark at m i = go at m (only_main at m i).0 (only_main at m i).1
  where
    go : (at : Place) (m : ModuleTree) → at ≡ [] → m ≡ lamp_main →
        Each (DomainSection lamp any_dark at m gone_dark) m.sections × Each (EachSection lamp any_dark at m gone_dark) m.sections × Each (EachSlice lamp any_dark at m gone_dark) (slices_of any_dark m.name)
    go at m ea em = rw (ea, em) ((((refl, λ _. refl), tt), (tt, tt)), (tt, ((tt, (tt, tt)), tt)), ((λ e. cc), tt))

pub dark_at_first : IsExtended lamp any_dark (gone_dark ∷ [])
dark_at_first = record { first = first_dark; moments = (moment_any_dark, tt); steps = tt }

-- under RampDown(4, 1) the own value 7 reads 3 in the first moment, and then 1
three_at_first : (gives : Formula → Value → Type 0) → Allows (of_numbers RampDown (pos 4) (pos 1)) gives (range (pos 0) (pos 9)) (number (pos 7)) (number (pos 7)) true (number (pos 3))
three_at_first gives = refl

one_afterwards : (gives : Formula → Value → Type 0) → Allows (of_numbers RampDown (pos 4) (pos 1)) gives (range (pos 0) (pos 9)) (number (pos 7)) (number (pos 3)) false (number (pos 1))
one_afterwards gives = refl
