-- What formals, definitions and declarations are in the modules of instances.
use Rattle.std.proofs.Common.{◌≡◌, ℕ, zero, suc, ◌+◌, arith, Bool, true, false, List, [], ◌∷◌, Some, refl, sym, ◌∙◌, ap}
use Rattle.std.specs.Prelude.{slice_get}
use Rattle.smv_language.specs.Language.{Text, DeclTree, DefineTree, ModuleTree, ProgramTree, same_text, is_among, Place, Role, a_formal, kind_declared, kind_in_sections, kind_after_formals, kind_at, module_at, find_module, formal_from, IsInstance, FlatInstance}
use Rattle.smv_language.specs.Scope.{a_define}
use Rattle.smv_language.proofs.ValueLaws.{same_text_refl}
use Rattle.smv_flat_laws.specs.Items.{Item, a_declaration, a_definition, NumberedItem, items_named, instances_of}
use Rattle.smv_flat_laws.specs.Rules.{has_twice, IsWalkable}
use Rattle.smv_flat_laws.proofs.Conditions.{each_at}
use Rattle.smv_flat_laws.proofs.KindLaws.{ItemFacts, kind_of_declaration, kind_of_definition}
use Rattle.smv_flat_laws.proofs.Places.{facts_named}
use Rattle.smv_scope.specs.KnownFormals.{IsHead}
use Rattle.smv_scope.proofs.LookSplit.{never}
use Rattle.smv_scope.proofs.Heads.{among_there}
use Rattle.smv_flat_laws.proofs.Meant.{formals_once}
use Rattle.smv_language.proofs.OneTree.{same_text_equal}
use Rattle.std.proofs.lemmas.Option.{same_Some as of_some}
use Rattle.std.proofs.lemmas.Bool.{or_parts as neither}
use Rattle.smv_language.proofs.BoolLaws.{not_both}
use Rattle.smv_flat_laws.proofs.Flattening.{all_instances}

-- a formal that stands once is found by its name
pub formal_first : (k : ℕ) (xs : List Text) (j : ℕ) (x : Text) → has_twice xs ≡ false → slice_get xs j ≡ Some x → formal_from k xs x ≡ Some (k + j)
formal_first k [] j x once e = never x e
formal_first k (y ∷ xs) zero x once e =
    let same : y ≡ x = of_some y x e in
    let here : k ≡ k + 0 = omega arith in
    rw (same, same_text_refl x) (ap Some here)
formal_first k (y ∷ xs) (suc j) x once e =
    let s : (is_among xs y ≡ false) × (has_twice xs ≡ false) = neither _ _ once in
    let next : suc k + j ≡ k + suc j = omega arith in
    by_name (same_text y x) refl s.0 (formal_first (suc k) xs j x s.1 e ∙ ap Some next)
  where
    by_name : (b : Bool) → same_text y x ≡ b → is_among xs y ≡ false → formal_from (suc k) xs x ≡ Some (k + suc j) → formal_from k (y ∷ xs) x ≡ Some (k + suc j)
    by_name true t other rest = absurd (not_both (is_among xs y) (ap (is_among xs) (same_text_equal y x t) ∙ among_there xs j x e) other)
    by_name false t other rest = rw t rest

-- the module of an instance
pub module_there : (p : ProgramTree) → IsWalkable p → (k : ℕ) (i : FlatInstance) (m : ModuleTree) → slice_get (instances_of p) k ≡ Some i → find_module p i.module_name ≡ Some m → module_at p i.place ≡ Some m
module_there p walkable k i m e named =
    let real : (m : ModuleTree) × IsInstance p i.place m × (find_module p i.module_name ≡ Some m) = (all_instances p walkable).real k i e in
    real.1 ∙ sym real.2 ∙ named

-- a formal is a formal
pub head_kind : (p : ProgramTree) → IsWalkable p → (k i : ℕ) (at : Place) (x : Text) → IsHead p k i at x → kind_at (module_at p at) x ≡ a_formal i
head_kind p walkable k i at x head =
    ap (λ a. kind_at (module_at p a) x) (sym head.place)
    ∙ ap (λ o. kind_at o x) (module_there p walkable k head.instance head.tree head.is head.named)
    ∙ ap (λ o. kind_after_formals o (kind_in_sections head.tree.sections x))
    (formal_first 0 head.tree.formals i x (formals_once p walkable head.instance.module_name head.tree head.named) head.formal ∙ ap Some none)
  where
    none : 0 + i ≡ i
    none = omega arith

module _ (p : ProgramTree) (walkable : IsWalkable p) (spot : ℕ) (at : FlatInstance) (there : slice_get (instances_of p) spot ≡ Some at) (place number : ℕ) (before : List Item) where
  real : (m : ModuleTree) × IsInstance p at.place m × (find_module p at.module_name ≡ Some m)
  real = (all_instances p walkable).real spot at there

  facts : (item : NumberedItem) → slice_get (items_named p at.module_name) place ≡ Some item → ItemFacts real.0 item
  facts item listed = each_at (ItemFacts real.0) (items_named p at.module_name) place item (facts_named p walkable at.module_name real.0 real.2) listed

  pub definition_kind : (d : DefineTree) → slice_get (items_named p at.module_name) place ≡ Some (record { number = number; before = before; item = a_definition d }) →
      kind_at (module_at p at.place) d.name ≡ a_define d.value
  definition_kind d listed =
      let f : ItemFacts real.0 (record { number = number; before = before; item = a_definition d }) = facts (record { number = number; before = before; item = a_definition d }) listed in
      ap (λ o. kind_at o d.name) real.1 ∙ kind_of_definition real.0 before d f.after f.among f.fresh

  pub declaration_kind : (role : Role) (d : DeclTree) → slice_get (items_named p at.module_name) place ≡ Some (record { number = number; before = before; item = a_declaration role d }) →
      kind_at (module_at p at.place) d.name ≡ kind_declared role d.what
  declaration_kind role d listed =
      let f : ItemFacts real.0 (record { number = number; before = before; item = a_declaration role d }) = facts (record { number = number; before = before; item = a_declaration role d }) listed in
      ap (λ o. kind_at o d.name) real.1 ∙ kind_of_declaration real.0 before role d f.after f.among f.fresh
