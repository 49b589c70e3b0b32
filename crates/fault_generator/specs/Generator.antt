-- The generator's model, two rails of relays whose last outputs are dead together, and its instructions.
use Rattle.std.specs.Prelude.{ℕ, zero, suc, ◌+◌, ◌*◌, ◌/◌, ◌%◌, ◌^◌, nat_eq, Bool, true, false, List, [], ◌∷◌, ◌++◌, Option, Some, None}
use Rattle.std.specs.Prelude.{codes}
use Rattle.std.specs.Fmt.{decimal}
use Rattle.smv_language.specs.declared.expr.Op.TheVariants as op
use Rattle.smv_language.specs.declared.program.Moment.TheVariants.{Always}
use Rattle.smv_language.specs.Tree.{truth, leaf, not_of, binary}
use Rattle.smv_language.specs.ProgramTree.{Text, Formula, boolean, instance, DeclTree, SectionTree, var, define, assign, ModuleTree}
use Rattle.smv_language.specs.ProgramTree.{ProgramTree}
use Rattle.smv_language.specs.Values.{truth as truth_value}
use Rattle.fault_instructions.specs.declared.instructions.Start.TheVariants.{Nominal}
use Rattle.fault_instructions.specs.declared.instructions.Dynamics.TheVariants.{Permanent}
use Rattle.fault_instructions.specs.declared.effects.ConstantEffect.TheVariants.{StuckAt}
use Rattle.fault_instructions.specs.Instructions.{of_constant, ModeTree, SliceTree, ExtensionTree, InstructionTree}

-- the number after this one
abbrev pub next_number : ℕ → ℕ
next_number s = (1103515245 * s + 12345) % (2 ^ 31)

-- a stage with this number is on rail A, and else on rail B
abbrev pub is_on_rail_a : ℕ → Bool
is_on_rail_a s = nat_eq (s / 65536 % 2) 0

-- whether each of so many stages is on rail A, after this number
abbrev pub rails_after : ℕ → ℕ → List Bool
rails_after zero s = []
rails_after (suc n) s = is_on_rail_a (next_number s) ∷ rails_after n (next_number s)

-- the name of a stage
abbrev pub stage_name : ℕ → Text
stage_name i = codes "r" ++ decimal i

-- the output of the last stage of a rail, or TRUE where the rail is empty
abbrev pub output_of : Option ℕ → Formula
output_of None = truth true
output_of (Some i) = leaf (stage_name i ∷ codes "out" ∷ [])

-- stages, and the last one of each rail
pub record Rails : Type 0 where
  pub stages : List DeclTree
  pub last_a : Option ℕ
  pub last_b : Option ℕ

-- a stage is a relay that is fed by the last stage of its rail before it
abbrev pub stage : ℕ → Option ℕ → DeclTree
stage i before = record { name = stage_name i; what = instance (codes "Relay") (output_of before ∷ []) }

-- the rails with a stage more on one of them
abbrev pub with_stage : Bool → ℕ → Rails → Rails
with_stage true i rails = record { stages = rails.stages ++ stage i rails.last_a ∷ []; last_a = Some i; last_b = rails.last_b }
with_stage false i rails = record { stages = rails.stages ++ stage i rails.last_b ∷ []; last_a = rails.last_a; last_b = Some i }

-- with a stage for each of these, numbered from this one on
abbrev pub with_stages : List Bool → ℕ → Rails → Rails
with_stages [] i rails = rails
with_stages (b ∷ bs) i rails = with_stages bs (suc i) (with_stage b i rails)

-- the rails of a number and so many stages
abbrev pub rails_of : ℕ → ℕ → Rails
rails_of number stages = with_stages (rails_after stages number) 1 (record { stages = []; last_a = None; last_b = None })

-- a relay's output is a variable
abbrev pub relay_variables : SectionTree
relay_variables = var (record { name = codes "out"; what = boolean } ∷ [])

-- a relay's output has the value of what feeds it
abbrev pub relay_assignments : SectionTree
relay_assignments = assign (record { when = Always; target = codes "out" ∷ []; value = leaf (codes "feed" ∷ []) } ∷ [])

-- the module of relays
abbrev pub relay_module : ModuleTree
relay_module = record { name = codes "Relay"; formals = codes "feed" ∷ []; sections = relay_variables ∷ relay_assignments ∷ [] }

-- neither rail's last output is TRUE
abbrev pub dead_formula : Option ℕ → Option ℕ → Formula
dead_formula last_a last_b = binary op.And (not_of (output_of last_a)) (not_of (output_of last_b))

-- the define of the event that both rails are dead
abbrev pub dead_section : Option ℕ → Option ℕ → SectionTree
dead_section last_a last_b = define (record { name = codes "dead"; value = dead_formula last_a last_b } ∷ [])

-- the module of the stages and the event
abbrev pub main_module : Rails → ModuleTree
main_module rails = record { name = codes "main"; formals = []; sections = var rails.stages ∷ dead_section rails.last_a rails.last_b ∷ [] }

-- the model of a number and so many stages
abbrev pub generated_model : ℕ → ℕ → ProgramTree
generated_model number stages = relay_module ∷ main_module (rails_of number stages) ∷ []

-- a relay's output may be stuck at FALSE for good
abbrev pub off_mode : ModeTree
off_mode = record { name = codes "off"; mark = None; dynamics = Permanent; effect = of_constant StuckAt (truth_value false); guard = None }

-- the slice of a relay's output
abbrev pub relay_slice : SliceTree
relay_slice = record { name = codes "R"; target = codes "out"; start = Nominal; modes = off_mode ∷ [] }

-- the extension of the module of relays
abbrev pub relay_extension : ExtensionTree
relay_extension = record { of_module = codes "Relay"; slices = relay_slice ∷ [] }

-- the instructions of every generated model
abbrev pub generated_instructions : InstructionTree
generated_instructions = record { name = None; extensions = relay_extension ∷ [] }

-- the event that both rails are dead
abbrev pub generated_top : Formula
generated_top = leaf (codes "dead" ∷ [])
