-- A formal without an answer has a plain name as its actual, so that its look-up can begin there.
use Rattle.std.proofs.Common.{◌≡◌, ℕ, suc, ◌+◌, ◌<◌, arith, Bool, true, false, ◌&&◌, List, [], ◌∷◌, ◌++◌, length, map, Option, Some, None, refl, sym, ◌∙◌, ap, subst}
use Rattle.std.specs.Prelude.{codes, slice_get, option_map}
use Rattle.std.proofs.lemmas.List.{length-map}
use Rattle.smv_language.specs.declared.expr.Expr.{Expr}
use Rattle.smv_language.specs.Language.{Text, Path, Formula, instance, ModuleTree, ProgramTree, same_text, tree_of, Place, an_instance, undeclared, actual_key, find_module, kind_in, kind_at, module_at, plain_name, Each, IsInstance}
use Rattle.smv_flat_laws.specs.Items.{a_declaration, NumberedModule, items_of, modules_from, modules_of, numbered_items}
use Rattle.smv_flat_laws.specs.Rules.{main_has_parameters, a_header, an_item, has_formals, IsKept, IsWalkable}
use Rattle.smv_flat_laws.specs.Model.{Root, roots_of_type, roots_of}
use Rattle.smv_flat_laws.proofs.Conditions.{each_at, each_flat}
use Rattle.smv_flat_laws.proofs.Kept.{declared_there, as_many}
use Rattle.smv_flat_laws.proofs.KindLaws.{DeclaredBy}
use Rattle.smv_flat_laws.proofs.Listed.{ListedItem, listed_item, root_listed, actual_root}
use Rattle.smv_flat_laws.proofs.Lists.{each_more}
use Rattle.smv_flat_laws.proofs.Places.{In}
use Rattle.smv_scope.specs.SceneTree.{IsCalled, program_of}
use Rattle.smv_scope.specs.TableLookUps.{formal_at}
use Rattle.smv_scope.specs.KnownFormals.{rows, formal_of, IsHead, IsOpen, IsActualTold}
use Rattle.smv_scope.specs.WaitingLookUps.{IsFormal, IsReady}
use Rattle.smv_scope.specs.declared.walk.Spot.{Spot}
use Rattle.smv_scope.specs.declared.names.Formal.{Formal}
use Rattle.smv_scope.specs.declared.names.Scene.{Scene}
use Rattle.smv_scope.proofs.LookSplit.{never}
use Rattle.smv_scope.proofs.SceneItems.{get_map}
use Rattle.smv_scope.proofs.SceneFound.{Stand, stand}
use Rattle.smv_scope.proofs.HeadKinds.{module_there}
use Rattle.smv_scope.proofs.Frames.{formal_by_rows, actual_there}
use Rattle.std.proofs.lemmas.Option.{same_Some as of_some, slice_get_within as get_less}
use Rattle.std.proofs.lemmas.Bool.{false_from_ne_true as not_true}

-- `main` has no formals
found_none : (q : ProgramTree) (n : ℕ) (before : List ModuleTree) (x : Text) (m : ModuleTree) → find_module q x ≡ Some m →
    Each (λ (k : NumberedModule). (same_text k.tree.name x && has_formals k.tree.formals) ≡ false) (modules_from n before q) → has_formals m.formals ≡ false
found_none [] n before x m e h = never m e
found_none (first ∷ more) n before x m e h =
    by_name (same_text first.name x) refl (λ found. found_none more (n + suc (length (items_of first))) (before ++ first ∷ []) x m found h.1)
  where
    by_name : (b : Bool) → same_text first.name x ≡ b → (find_module more x ≡ Some m → has_formals m.formals ≡ false) → has_formals m.formals ≡ false
    by_name true t rest = ap (λ (k : ModuleTree). has_formals k.formals) (sym (of_some first m (rw t at e))) ∙ sym (ap (λ b. b && has_formals first.formals) t) ∙ h.0
    by_name false t rest = rest (rw t at e)

main_has_none : (p : ProgramTree) → IsWalkable p → (m : ModuleTree) → find_module p (codes "main") ≡ Some m → has_formals m.formals ≡ false
main_has_none p walkable m found =
    found_none p 1 [] (codes "main") m found
    (each_more (λ (k : NumberedModule). Each (IsKept p) (a_header k ∷ map (an_item k) (numbered_items k)))
    (λ (k : NumberedModule). (same_text k.tree.name (codes "main") && has_formals k.tree.formals) ≡ false) (modules_of p)
    (λ k h. not_true (same_text k.tree.name (codes "main") && has_formals k.tree.formals) (h.0 main_has_parameters))
    ((each_flat (IsKept p) (λ (k : NumberedModule). a_header k ∷ map (an_item k) (numbered_items k)) (modules_of p)).0 walkable.modules))

no_formal : (xs : List Text) (i : ℕ) (x : Text) → has_formals xs ≡ false → slice_get xs i ≡ Some x → ⊥
no_formal [] i x h e = never x e
no_formal (y ∷ xs) i x h e = let bad : true ≡ false = h in cc

module _ (p : ProgramTree) (walkable : IsWalkable p) (k i : ℕ) (at : Place) (x : Text) (head : IsHead p k i at x) (number : ℕ) (es : List Formula) (called : IsCalled p head.instance head.instance.place number es) where
  -- the declaration that hands over the actual
  record Handed : Type 0 where
    pub own : Text
    pub caller : Place
    pub below : head.instance.place ≡ own ∷ caller
    pub kind : kind_at (module_at p caller) own ≡ an_instance head.instance.module_name es

  handed : Handed
  handed = by_place head.instance.place refl called
    where
      by_place : (place : Place) → head.instance.place ≡ place → IsCalled p head.instance place number es → Handed
      by_place [] same c =
          absurd (no_formal head.tree.formals i x
          (main_has_none p walkable head.tree (ap (module_at p) (sym same) ∙ module_there p walkable k head.instance head.tree head.is head.named)) head.formal)
      by_place (own ∷ caller) same c = record { own = own; caller = caller; below = same; kind = c.1 }

  caller_there : (m : ModuleTree) × IsInstance p handed.caller m × (kind_in m handed.own ≡ an_instance head.instance.module_name es)
  caller_there = by_module (module_at p handed.caller) refl
    where
      by_module : (o : Option ModuleTree) → module_at p handed.caller ≡ o → (m : ModuleTree) × IsInstance p handed.caller m × (kind_in m handed.own ≡ an_instance head.instance.module_name es)
      by_module None e = let bad : undeclared ≡ an_instance head.instance.module_name es = sym (ap (λ o. kind_at o handed.own) e) ∙ handed.kind in cc
      by_module (Some m) e = (m, e, sym (ap (λ o. kind_at o handed.own) e) ∙ handed.kind)

  -- it has its place among the actuals
  pub actual_within : i < length es
  actual_within =
      let many : length head.tree.formals ≡ length es =
      as_many p walkable handed.caller caller_there.0 caller_there.1 handed.own head.instance.module_name es caller_there.2 head.tree head.named in
      subst (λ n. i < n) many (get_less head.tree.formals i x head.formal)

  by : DeclaredBy (items_of caller_there.0) handed.own head.instance.module_name es
  by = declared_there caller_there.0 handed.own head.instance.module_name es caller_there.2

  item : ListedItem p handed.caller caller_there.0 (a_declaration by.role by.decl)
  item = listed_item p walkable handed.caller caller_there.0 caller_there.1 by.place (a_declaration by.role by.decl) by.is

  abbrev root : Root
  root = record { key = actual_key (handed.own ∷ handed.caller) i; item = item.numbered.number }

  -- one that is no plain name has a definition
  listed : (e : Formula) → slice_get es i ≡ Some e → plain_name e ≡ None → In root (roots_of p)
  listed e there none =
      let none_before : 0 + i ≡ i = omega arith in
      let own_root : In root (roots_of_type (handed.own ∷ handed.caller) item.numbered.number (instance head.instance.module_name es)) =
      subst (λ j. In (record { key = actual_key (handed.own ∷ handed.caller) j; item = item.numbered.number }) (roots_of_type (handed.own ∷ handed.caller) item.numbered.number (instance head.instance.module_name es)))
      none_before (actual_root (handed.own ∷ handed.caller) 0 item.numbered.number es i e (actual_there es i e there) none) in
      root_listed p handed.caller caller_there.0 (a_declaration by.role by.decl) item root
      (subst (λ y. In root (roots_of_type (y ∷ handed.caller) item.numbered.number by.decl.what)) (sym by.name)
      (subst (λ t. In root (roots_of_type (handed.own ∷ handed.caller) item.numbered.number t)) (sym by.what) own_root))

  -- so it is told what the formal means
  pub actual_plain : (rs : List (List Formal)) → Each (IsActualTold p rs) (roots_of p) → (e : Formula) → slice_get es i ≡ Some e → IsOpen (formal_of rs k i) → plain_name e ≡ None → ⊥
  actual_plain rs told e there open' none =
      let l : In root (roots_of p) = listed e there none in
      each_at (IsActualTold p rs) (roots_of p) l.0 root told l.1 k i head.instance head.is (ap (λ q. actual_key q i) handed.below) open'

module _ (s : Scene) (ready : IsReady s) (k i : ℕ) (formal : IsFormal (program_of s) k i) where
  abbrev head : IsHead (program_of s) k i formal.0 formal.1
  head = formal.2

  st : Stand s ready.set k head.instance
  st = stand s ready.set k head.instance head.is

  -- its instance has its place among all
  pub spot_within : k < length s.spots.items
  spot_within = get_less s.spots.items k st.own st.is

  module _ (own : Spot) (is : slice_get s.spots.items k ≡ Some own) where
    called : IsCalled (program_of s) head.instance head.instance.place own.caller (map tree_of own.actuals.now)
    called = subst (λ (w : Spot). IsCalled (program_of s) head.instance head.instance.place w.caller (map tree_of w.actuals.now)) (of_some st.own own (sym st.is ∙ is)) st.fits.placed.called

    pub own_within : i < length own.actuals.now
    own_within =
        subst (λ n. i < n) (length-map own.actuals.now tree_of)
        (actual_within (program_of s) ready.set.walkable k i formal.0 formal.1 head own.caller (map tree_of own.actuals.now) called)

    pub own_plain : IsOpen (formal_at s k i) → (e : Expr Path) → slice_get own.actuals.now i ≡ Some e → plain_name (tree_of e) ≡ None → ⊥
    own_plain open' e there none =
        actual_plain (program_of s) ready.set.walkable k i formal.0 formal.1 head own.caller (map tree_of own.actuals.now) called (rows s) ready.actuals (tree_of e)
        (get_map tree_of own.actuals.now i ∙ ap (option_map tree_of) there) (subst IsOpen (formal_by_rows s k i) open') none
