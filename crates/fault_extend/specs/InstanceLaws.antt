-- The instances of a flat model are those of the program in depth-first order.
use Rattle.std.specs.Prelude.{◌≡◌, List, map}
use Rattle.smv_language.specs.Language.{DeclaredTree, boolean, range, members, instance, DeclTree, SectionTree, var, ivar, frozen, define}
use Rattle.smv_language.specs.Language.{constants, assign, init, invar, trans, ProgramTree, Each, FlatInstance, place_of}
use Rattle.smv_language.specs.declared.model.Instance.{Instance}
use Rattle.smv_flat_laws.specs.Items.{instances_of}
use Rattle.smv_flat_laws.specs.Rules.{IsAccepted}
use Rattle.fault_extend.specs.WovenFaults.{AreInstancesOf}

-- an instance of the code as one of the definitions
abbrev pub instance_tree : Instance → FlatInstance
instance_tree at = record { place = place_of at.path; module_name = at.«module» }

-- the type is not that of an instance
abbrev pub IsNoInstance : DeclaredTree → Type 0
IsNoInstance boolean = Unit {0}
IsNoInstance (range lo hi) = Unit {0}
IsNoInstance (members ms) = Unit {0}
IsNoInstance (instance m actuals) = ⊥

-- none of the declarations is that of an instance
abbrev pub AreNoInstances : List DeclTree → Type 0
AreNoInstances ds = Each (λ d. IsNoInstance d.what) ds

-- an instance is declared in a VAR section alone, as the grammar has it
abbrev pub DeclaresInVar : SectionTree → Type 0
DeclaresInVar (var ds) = Unit {0}
DeclaresInVar (ivar ds) = AreNoInstances ds
DeclaresInVar (frozen ds) = AreNoInstances ds
DeclaresInVar (define ds) = Unit {0}
DeclaresInVar (constants xs) = Unit {0}
DeclaresInVar (assign list) = Unit {0}
DeclaresInVar (init e) = Unit {0}
DeclaresInVar (invar e) = Unit {0}
DeclaresInVar (trans e) = Unit {0}

-- so in each section of the program
abbrev pub HasInstancesInVar : ProgramTree → Type 0
HasInstancesInVar p = Each (λ m. Each DeclaresInVar m.sections) p

-- where a flat model has the instances that flattening gives, they are the program's, each with its module
abbrev pub InstancesAreListed : Type 0
InstancesAreListed = (p : ProgramTree) (instances : List Instance) → IsAccepted p → HasInstancesInVar p →
    map instance_tree instances ≡ instances_of p → AreInstancesOf p instances
