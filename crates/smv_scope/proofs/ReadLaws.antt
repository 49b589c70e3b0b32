-- The tables of modules with one module more.
use Rattle.std.proofs.Common.{◌≡◌, ℕ, suc, ◌+◌, ◌<◌, arith, codes, drop, get_or, List, [], ◌∷◌, ◌++◌, length, map, Some, None, refl, ap, ◌∙◌, sym, subst}
use Rattle.std.proofs.lemmas.List.{append-nil, append_assoc, map-append, length-map, drop_more}
use Rattle.smv_language.specs.declared.program.Module.{Module}
use Rattle.smv_language.specs.Language.{ModuleTree, ProgramTree, module_tree, program_tree, Each, EachBoth}
use Rattle.smv_flat_laws.specs.Items.{Item as ItemOf, items_of, NumberedModule, modules_from, modules_of, numbered_from}
use Rattle.smv_flat_laws.specs.Rules.{the_program, module_sites, IsKept}
use Rattle.smv_scope.specs.declared.fault.FlatFault.{FlatFault}
use Rattle.smv_scope.specs.declared.modules.ModuleNames.{ModuleNames}
use Rattle.smv_scope.specs.declared.modules.Modules.{Modules}
use Rattle.smv_scope.specs.ItemTree.{numbered_tree, counted_from}
use Rattle.smv_scope.specs.ModuleFaults.{Told, told_first, IsTold, module_told, modules_told, next_header, tree_of_names, trees_read, AreRead, IsReadAfter}
use Rattle.smv_scope.specs.SceneTree.{HasNames, named, number_and_item, local_entries, module_entries, module_from, AreModules}
use Rattle.smv_scope.proofs.ReadingLaws.{told_as, told_here, none_first}
use Rattle.smv_scope.proofs.ModuleFaults.{modules_kept}
use Rattle.smv_flat_laws.proofs.BothLaws.{both_push}

pub counted_numbered : (n : ℕ) (before is : List ItemOf) → map number_and_item (numbered_from n before is) ≡ counted_from n is
counted_numbered n before [] = refl
counted_numbered n before (i ∷ is) = ap (λ xs. (n, i) ∷ xs) (counted_numbered (suc n) (before ++ i ∷ []) is)

more_modules : (n : ℕ) (before q : List ModuleTree) (m : ModuleTree) →
    modules_from n before (q ++ m ∷ []) ≡ modules_from n before q ++ record { number = next_header n q; before = before ++ q; tree = m } ∷ []
more_modules n before [] m = ap (λ (b : List ModuleTree). record { number = n; before = b; tree = m } ∷ []) (sym (append-nil before))
more_modules n before (k ∷ q) m =
    ap (λ ns. record { number = n; before = before; tree = k } ∷ ns)
    (more_modules (n + suc (length (items_of k))) (before ++ k ∷ []) q m
    ∙ ap (λ (b : List ModuleTree). modules_from (n + suc (length (items_of k))) (before ++ k ∷ []) q ++ record { number = next_header (n + suc (length (items_of k))) q; before = b; tree = m } ∷ []) (append_assoc before (k ∷ []) q))

more_headers : (n : ℕ) (q : List ModuleTree) (m : ModuleTree) → next_header n (q ++ m ∷ []) ≡ next_header n q + suc (length (items_of m))
more_headers n [] m = refl
more_headers n (k ∷ q) m = more_headers (n + suc (length (items_of k))) q m

more_entries : (k : ℕ) (q : ProgramTree) (m : ModuleTree) → module_entries k (q ++ m ∷ []) ≡ module_entries k q ++ (m.name, k + length q) ∷ []
more_entries k [] m = let same : k ≡ k + 0 = omega arith in ap (λ n. (m.name, n) ∷ []) same
more_entries k (j ∷ q) m =
    let same : suc k + length q ≡ k + length (j ∷ q) = omega arith in
    ap (λ es. (j.name, k) ∷ es) (more_entries (suc k) q m ∙ ap (λ n. module_entries (suc k) q ++ (m.name, n) ∷ []) same)

module _ (old new : Modules) (last last' : ℕ) (m : ModuleTree) (names : ModuleNames) (read : AreRead old last)
    (listed : new.list.items ≡ old.list.items ++ names ∷ []) (tree : tree_of_names names ≡ m)
    (items : map numbered_tree names.items.items ≡ counted_from (suc (suc last)) (items_of m)) (locals : named names.locals.entries ≡ local_entries m)
    (placed : named new.places.entries ≡ named old.places.entries ++ (m.name, length old.list.items) ∷ []) (counted : last' ≡ suc last + length (items_of m)) where
  added : trees_read new ≡ trees_read old ++ m ∷ []
  added = ap (map tree_of_names) listed ∙ map-append tree_of_names old.list.items (names ∷ []) ∙ ap (λ t. trees_read old ++ t ∷ []) tree

  has : HasNames (record { number = next_header 1 (trees_read old); before = trees_read old; tree = m }) names
  has = record {
    tree = tree;
    items = items ∙ ap (λ n. counted_from (suc n) (items_of m)) read.next ∙ sym (counted_numbered (suc (next_header 1 (trees_read old))) [] (items_of m));
    locals = locals;
  }

  more_list : EachBoth HasNames (modules_of (trees_read new)) new.list.items
  more_list =
      subst (λ (ns : List ModuleNames). EachBoth HasNames (modules_of (trees_read new)) ns) (sym listed)
      (subst (λ (ms : List NumberedModule). EachBoth HasNames ms (old.list.items ++ names ∷ [])) (sym (ap modules_of added ∙ more_modules 1 [] (trees_read old) m))
      (both_push HasNames (modules_of (trees_read old)) old.list.items (record { number = next_header 1 (trees_read old); before = trees_read old; tree = m }) names read.list has))

  more_places : named new.places.entries ≡ module_entries 0 (trees_read new)
  more_places =
      let count : length old.list.items ≡ 0 + length (trees_read old) = omega (arith, length-map old.list.items tree_of_names) in
      placed
      ∙ ap (λ es. es ++ (m.name, length old.list.items) ∷ []) read.places
      ∙ ap (λ n. module_entries 0 (trees_read old) ++ (m.name, n) ∷ []) count
      ∙ sym (more_entries 0 (trees_read old) m)
      ∙ sym (ap (module_entries 0) added)

  more_next : suc last' ≡ next_header 1 (trees_read new)
  more_next =
      let next : suc last ≡ next_header 1 (trees_read old) = read.next in
      let total : suc last' ≡ next_header 1 (trees_read old) + suc (length (items_of m)) = omega (arith, counted, next) in
      total ∙ sym (more_headers 1 (trees_read old) m) ∙ sym (ap (next_header 1) added)

  pub read_more : new.program ≡ old.program → new.main ≡ old.main → IsReadAfter old m new last'
  read_more program main = record {
    read = record { list = more_list; places = more_places; next = more_next };
    added = added;
    program = program;
    main = main;
  }

-- the number of the header after one module more
next_last : (old new : Modules) (last last' : ℕ) (m : ModuleTree) → AreRead old last → IsReadAfter old m new last' → suc last' ≡ suc last + suc (length (items_of m))
next_last old new last last' m read after =
    after.read.next ∙ ap (next_header 1) after.added ∙ more_headers 1 (trees_read old) m ∙ ap (λ n. n + suc (length (items_of m))) (sym read.next)

module _ (ms : List Module) (k : ℕ) (d : Module) (within : k < length ms) (old : Modules) (last : ℕ) where
  abbrev tree_here : ModuleTree
  tree_here = module_tree (get_or ms k d)

  abbrev told_left : Told
  told_left = modules_told (suc last + suc (length (items_of tree_here))) (trees_read old ++ tree_here ∷ []) (map module_tree (drop (k + 1) ms))

  told_here_first : modules_told (suc last) (trees_read old) (map module_tree (drop k ms)) ≡ told_first (module_told (trees_read old) (suc last) tree_here) told_left
  told_here_first = ap (λ ys. modules_told (suc last) (trees_read old) (map module_tree ys)) (drop_more ms k d within)

  pub told_fault : (whole : Told) (f : FlatFault) → modules_told (suc last) (trees_read old) (map module_tree (drop k ms)) ≡ whole →
      IsTold (module_told (trees_read old) (suc last) tree_here) f → IsTold whole f
  told_fault whole f e h =
      told_as (told_first (module_told (trees_read old) (suc last) tree_here) told_left) whole f (sym told_here_first ∙ e) (told_here (module_told (trees_read old) (suc last) tree_here) told_left f h)

  module _ (new : Modules) (last' : ℕ) (read : AreRead old last) (after : IsReadAfter old tree_here new last') where
    pub told_next : module_told (trees_read old) (suc last) tree_here ≡ None →
        modules_told (suc last') (trees_read new) (map module_tree (drop (k + 1) ms)) ≡ modules_told (suc last) (trees_read old) (map module_tree (drop k ms))
    told_next none =
        ap (λ n. modules_told n (trees_read new) (map module_tree (drop (k + 1) ms))) (next_last old new last last' tree_here read after)
        ∙ ap (λ ts. modules_told (suc last + suc (length (items_of tree_here))) ts (map module_tree (drop (k + 1) ms))) after.added
        ∙ sym (none_first (module_told (trees_read old) (suc last) tree_here) told_left none)
        ∙ sym told_here_first

    pub trees_next : trees_read new ++ map module_tree (drop (k + 1) ms) ≡ trees_read old ++ map module_tree (drop k ms)
    trees_next =
        ap (λ ts. ts ++ map module_tree (drop (k + 1) ms)) after.added
        ∙ append_assoc (trees_read old) (tree_here ∷ []) (map module_tree (drop (k + 1) ms))
        ∙ sym (ap (λ ys. trees_read old ++ map module_tree ys) (drop_more ms k d within))

-- All modules are read.
pub all_read : (ms : Modules) (last : ℕ) (p : ProgramTree) → AreRead ms last → trees_read ms ≡ p → program_tree ms.program.now ≡ p →
    IsKept p the_program → module_from 0 p (codes "main") ≡ Some ms.main → modules_told 1 [] p ≡ None → AreModules ms
all_read ms last p read trees program main place told =
    let same : trees_read ms ≡ program_tree ms.program.now = trees ∙ sym program in
    record {
      list = subst (λ (q : ProgramTree). EachBoth HasNames (modules_of q) ms.list.items) same read.list;
      places = read.places ∙ ap (module_entries 0) same;
      main = ap (λ q. module_from 0 q (codes "main")) program ∙ place;
      program_kept = subst (λ (q : ProgramTree). IsKept q the_program) (sym program) main;
      kept = subst (λ (q : ProgramTree). Each (IsKept q) (module_sites q)) (sym program) (modules_kept p told);
    }
