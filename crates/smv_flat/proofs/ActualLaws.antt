-- In an accepted program what is handed on means something, as the tables of a scene tell.
use Rattle.std.proofs.Common.{◌≡◌, inl, inr, ℕ, zero, [], ◌∷◌, Some, refl, sym, ◌∙◌, ap, subst}
use Rattle.std.specs.Prelude.{slice_get, codes, Vec}
use Rattle.std.specs.declared.alloc.Global.{Global}
use Rattle.smv_language.specs.Language.{leaf, Text, Path, ModuleTree, ProgramTree, Place, find_module, kind_at, module_of_kind, IsInstance, EachBoth, FlatInstance}
use Rattle.smv_flat_laws.specs.Items.{instances_of}
use Rattle.smv_flat_laws.specs.Looks.{ActualsMean}
use Rattle.smv_flat_laws.specs.Rules.{IsWalkable, IsAccepted}
use Rattle.smv_flat_laws.proofs.Sections.{AreInstances}
use Rattle.smv_flat_laws.proofs.Places.{are_instances}
use Rattle.smv_flat_laws.proofs.Variables.{both_at}
use Rattle.smv_flat_laws.proofs.Walkable.{main_is_there}
use Rattle.smv_flat_laws.proofs.Kept.{module_there}
use Rattle.smv_flat_laws.proofs.Meant.{IsTold, meant}
use Rattle.smv_scope.specs.SceneTree.{IsFound, IsKnown, AreKnown, formals_of, program_of, IsScene}
use Rattle.smv_scope.specs.declared.walk.Meaning.{Meaning as Found}
use Rattle.smv_scope.specs.declared.walk.Meaning.TheVariants as found
use Rattle.smv_scope.specs.declared.names.Formal.{Formal}
use Rattle.smv_scope.specs.declared.names.Formal.TheVariants as known
use Rattle.smv_scope.specs.declared.names.Scene.{Scene}

-- what is found is told
found_told : (p : ProgramTree) (at : Place) (name : Path) (f : Found) → IsFound p at name f → IsTold p at name
found_told p at name found.Nothing h = inr (inl h)
found_told p at name found.Loop h = inr (inr h)
found_told p at name (found.Variable number role) h = inl (h.0, h.1)
found_told p at name (found.Instance k) h = inl (h.0, h.1)
found_told p at name (found.Definition k) h = inl (h.0, h.1)
found_told p at name (found.Symbol k) h = inl (h.0, h.1)

known_told : (p : ProgramTree) (at : Place) (x : Text) (f : Formal) → IsKnown p at x f → IsTold p at (x ∷ [])
known_told p at x (known.Means f) h = found_told p at (x ∷ []) f h.0
known_told p at x known.Circle h = inr (inr (zero, at, x, [], refl, h))
known_told p at x known.Begun h = absurd h
known_told p at x known.Unknown h = absurd h

pub actuals_mean : (s : Scene) → IsScene s → IsAccepted (program_of s) → ActualsMean (program_of s)
actuals_mean s scene accepted at m is x n actuals kind k name nth =
    meant p accepted at m is x n actuals kind inner.0 inner.1 k (leaf name) nth name refl told
  where
    p : ProgramTree
    p = program_of s

    walkable : IsWalkable p
    walkable = scene.set.walkable

    inner : (inner : ModuleTree) × (find_module p n ≡ Some inner)
    inner = module_there p walkable at m is x n actuals kind

    inside : IsInstance p (x ∷ at) inner.0
    inside = ap (λ o. module_of_kind p (kind_at o x)) is ∙ ap (module_of_kind p) kind ∙ inner.1

    are : AreInstances p
    are = let main : (k : ModuleTree) × (find_module p (codes "main") ≡ Some k) = main_is_there p walkable in are_instances p walkable main.0 main.1

    of : (i : ℕ) × (y : FlatInstance) × (slice_get (instances_of p) i ≡ Some y) × (y.place ≡ x ∷ at)
    of = are.all (x ∷ at) inner.0 inside

    real : (k : ModuleTree) × IsInstance p of.1.place k × (find_module p of.1.module_name ≡ Some k)
    real = are.real of.0 of.1 of.2

    same : real.0 ≡ inner.0
    same = one real.0 inner.0 (sym (subst (λ a. IsInstance p a real.0) of.3 real.1) ∙ inside)
      where
        one : (a b : ModuleTree) → Some a ≡ Some b → a ≡ b
        one a b e = cc

    told : (formal : Text) → slice_get inner.0.formals k ≡ Some formal → IsTold p (x ∷ at) (formal ∷ [])
    told formal here =
        let fs = both_at (λ (i : FlatInstance) (fs : Vec Formal Global). AreKnown p i fs.items) (instances_of p) s.formals.items of.0 of.1 scene.formals of.2 in
        let formals : EachBoth (IsKnown p of.1.place) inner.0.formals fs.0.items = subst (λ o. EachBoth (IsKnown p of.1.place) (formals_of o) fs.0.items) (real.2 ∙ ap Some same) fs.2 in
        let f = both_at (IsKnown p of.1.place) inner.0.formals fs.0.items k formal formals here in
        subst (λ a. IsTold p a (formal ∷ [])) of.3 (known_told p of.1.place formal f.0 f.2)
