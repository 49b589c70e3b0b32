-- The place that the table of modules has for a name is that of the first module of the name.
use Rattle.std.proofs.Common.{◌≡◌, ℕ, suc, ◌+◌, arith, Bool, true, false, List, [], ◌∷◌, ◌++◌, length, Option, Some, None, if◌then◌else◌, codes, refl, ap, ◌∙◌, sym, subst}
use Rattle.std.specs.Prelude.{slice_get}
use Rattle.indexmap.specs.IndexMap.{get_by}
use Rattle.std.specs.Borrow.{Bor}
use Rattle.smv_language.specs.Language.{Text, ModuleTree, ProgramTree, program_tree, find_module, same_text, first_with, same_borrowed}
use Rattle.smv_flat_laws.specs.Items.{items_of, NumberedModule, modules_from, modules_of, numbered_items, items_found}
use Rattle.smv_flat_laws.proofs.Variables.{both_at}
use Rattle.smv_scope.specs.declared.modules.ModuleNames.{ModuleNames}
use Rattle.smv_scope.specs.declared.modules.Modules.{Modules}
use Rattle.smv_scope.specs.ModuleFaults.{IsModuleAt}
use Rattle.smv_scope.specs.SceneTree.{AreModules, HasNames, module_entries, module_from}
use Rattle.smv_scope.proofs.Tables.{looked_up}

-- a name without an entry has no module
no_entry : (k : ℕ) (p : ProgramTree) (x : Text) → first_with (module_entries k p) x ≡ None → find_module p x ≡ None
no_entry k [] x e = refl
no_entry k (m ∷ p) x e = by_test (same_text m.name x) refl (no_entry (suc k) p x)
  where
    by_test : (b : Bool) → same_text m.name x ≡ b → (first_with (module_entries (suc k) p) x ≡ None → find_module p x ≡ None) → find_module (m ∷ p) x ≡ None
    by_test true t rest = let bad : Some k ≡ None = rw t at e in cc
    by_test false t rest = rw t (rest (rw t at e))

-- the module that an entry's place has
pub record EntryFacts (k place n : ℕ) (before : List ModuleTree) (p : ProgramTree) (x : Text) : Type 0 where
  pub steps : ℕ
  pub away : place ≡ k + steps
  pub tree : NumberedModule
  pub is : slice_get (modules_from n before p) steps ≡ Some tree
  pub found : find_module p x ≡ Some tree.tree
  pub items : items_found (modules_from n before p) x ≡ numbered_items tree

entry_facts : (k place n : ℕ) (before : List ModuleTree) (p : ProgramTree) (x : Text) → first_with (module_entries k p) x ≡ Some place → EntryFacts k place n before p x
entry_facts k place n before [] x e = cc
entry_facts k place n before (m ∷ p) x e = by_test (same_text m.name x) refl (entry_facts (suc k) place (n + suc (length (items_of m))) (before ++ m ∷ []) p x)
  where
    by_test : (b : Bool) → same_text m.name x ≡ b →
        (first_with (module_entries (suc k) p) x ≡ Some place → EntryFacts (suc k) place (n + suc (length (items_of m))) (before ++ m ∷ []) p x) → EntryFacts k place n before (m ∷ p) x
    by_test true t rest =
        let here : Some k ≡ Some place = rw t at e in
        let same : k ≡ place = cc in
        record {
          steps = 0;
          away = omega (arith, same);
          tree = record { number = n; before = before; tree = m };
          is = refl;
          found = rw t refl;
          items = rw t refl;
        }
    by_test false t rest =
        let r : EntryFacts (suc k) place (n + suc (length (items_of m))) (before ++ m ∷ []) p x = rest (rw t at e) in
        record {
          steps = suc r.steps;
          away = omega (arith, r.away);
          tree = r.tree;
          is = r.is;
          found = rw t r.found;
          items = rw t r.items;
        }

module _ (ms : Modules) (known : AreModules ms) (k : Bor (List ℕ)) where
  entry_same : (o : Option ℕ) → o ≡ get_by (same_borrowed k) ms.places → first_with (module_entries 0 (program_tree ms.program.now)) k.now ≡ o
  entry_same o e = sym (e ∙ looked_up k.now ms.places.entries ∙ ap (λ es. first_with es k.now) known.places)

  pub not_found : (o : Option ℕ) → o ≡ get_by (same_borrowed k) ms.places → o ≡ None → find_module (program_tree ms.program.now) k.now ≡ None
  not_found o e none = no_entry 0 (program_tree ms.program.now) k.now (entry_same o e ∙ none)

  facts : (o : Option ℕ) (place : ℕ) → o ≡ get_by (same_borrowed k) ms.places → o ≡ Some place → EntryFacts 0 place 1 [] (program_tree ms.program.now) k.now
  facts o place e some = entry_facts 0 place 1 [] (program_tree ms.program.now) k.now (entry_same o e ∙ some)

  -- a place is never empty
  pub listed : (o : Option ℕ) (place : ℕ) → o ≡ get_by (same_borrowed k) ms.places → o ≡ Some place → (names : ModuleNames) × (slice_get ms.list.items place ≡ Some names)
  listed o place e some =
      let f : EntryFacts 0 place 1 [] (program_tree ms.program.now) k.now = facts o place e some in
      let at : f.steps ≡ place = omega (arith, f.away) in
      let both : (names : ModuleNames) × (slice_get ms.list.items f.steps ≡ Some names) × HasNames f.tree names =
      both_at HasNames (modules_of (program_tree ms.program.now)) ms.list.items f.steps f.tree known.list f.is in
      (both.0, sym (ap (λ i. slice_get ms.list.items i) at) ∙ both.1)

  pub found : (o : Option ℕ) (place : ℕ) (names : ModuleNames) → o ≡ get_by (same_borrowed k) ms.places → o ≡ Some place → slice_get ms.list.items place ≡ Some names → IsModuleAt ms k.now place names
  found o place names e some there =
      let f : EntryFacts 0 place 1 [] (program_tree ms.program.now) k.now = facts o place e some in
      let at : f.steps ≡ place = omega (arith, f.away) in
      let both : (names : ModuleNames) × (slice_get ms.list.items f.steps ≡ Some names) × HasNames f.tree names =
      both_at HasNames (modules_of (program_tree ms.program.now)) ms.list.items f.steps f.tree known.list f.is in
      let some_names : Some both.0 ≡ Some names = sym both.1 ∙ ap (λ i. slice_get ms.list.items i) at ∙ there in
      let same : both.0 ≡ names = cc in
      record {
        tree = f.tree;
        is = ap (λ i. slice_get (modules_of (program_tree ms.program.now)) i) (sym at) ∙ f.is;
        named = f.found;
        items = f.items;
        has = subst (λ (n : ModuleNames). HasNames f.tree n) same both.2;
        listed = there;
      }

-- The module `main` stands at its place.
place_entry : (k : ℕ) (p : ProgramTree) (x : Text) → first_with (module_entries k p) x ≡ module_from k p x
place_entry k [] x = refl
place_entry k (m ∷ p) x = ap (λ o. if same_text m.name x then Some k else o) (place_entry (suc k) p x)

pub main_at : (ms : Modules) → AreModules ms → (names : ModuleNames) × IsModuleAt ms (codes "main") ms.main names
main_at ms known =
    let f : EntryFacts 0 ms.main 1 [] (program_tree ms.program.now) (codes "main") =
    entry_facts 0 ms.main 1 [] (program_tree ms.program.now) (codes "main") (place_entry 0 (program_tree ms.program.now) (codes "main") ∙ known.main) in
    let at : f.steps ≡ ms.main = omega (arith, f.away) in
    let both : (names : ModuleNames) × (slice_get ms.list.items f.steps ≡ Some names) × HasNames f.tree names =
    both_at HasNames (modules_of (program_tree ms.program.now)) ms.list.items f.steps f.tree known.list f.is in (
      both.0,
      record {
        tree = f.tree;
        is = ap (λ i. slice_get (modules_of (program_tree ms.program.now)) i) (sym at) ∙ f.is;
        named = f.found;
        items = f.items;
        has = both.2;
        listed = sym (ap (λ i. slice_get ms.list.items i) at) ∙ both.1;
      },
    )
