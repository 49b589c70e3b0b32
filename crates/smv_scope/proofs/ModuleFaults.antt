-- What is told of modules and of their names is the first broken rule.
use Rattle.std.proofs.Common.{◌≡◌, ℕ, suc, ◌+◌, ◌<◌, ◌≤◌, arith, Bool, true, false, ◌&&◌, ◌||◌, List, [], ◌∷◌, ◌++◌, length, map, Option, Some, None, codes, refl, ap, ◌∙◌, sym, subst}
use Rattle.std.specs.Prelude.{IfSome, flat_map}
use Rattle.std.proofs.lemmas.List.{append_assoc, append-nil}
use Rattle.smv_language.specs.Language.{Text, ModuleTree, ProgramTree, find_module, is_missing, same_text, is_among, Each}
use Rattle.smv_language.proofs.ValueLaws.{same_text_refl}
use Rattle.smv_flat_laws.specs.Items.{Item as ItemOf, items_of, NumberedItem, numbered_from, NumberedModule, modules_from, numbered_items, visits}
use Rattle.smv_flat_laws.specs.Rules.{Rule, no_main, main_has_parameters, double_module, double_name, no_such_module, wrong_count, module_loop, no_such_name, not_a_target, double_assign, define_loop, next_here, input_here, too_many, number_of, Site, item_of, the_program, a_header, an_item, module_sites, visit_sites, use_sites, has_formals, has_twice, is_module_among, names_of_item, is_name_again, Breaks, IsKept, IsFirstBroken}
use Rattle.smv_flat_laws.proofs.FaultLaws.{IsLowest, IsFirstOf, Outcome, first_broken, in_part, after_part}
use Rattle.smv_scope.specs.declared.fault.FlatFault.{FlatFault}
use Rattle.smv_scope.specs.Faults.{rule_of, IsFaultOf}
use Rattle.smv_scope.specs.ItemTree.{counted_from}
use Rattle.smv_scope.specs.ModuleFaults.{Told, told_if, told_first, IsTold, formals_told, items_told, header_told, module_told, modules_told}
use Rattle.smv_scope.specs.SceneTree.{module_from}
use Rattle.smv_scope.proofs.MainLaws.{nowhere}
use Rattle.smv_language.proofs.OneTree.{same_text_equal}
use Rattle.smv_language.proofs.ListLaws.{flat_end}
use Rattle.smv_language.proofs.BoolLaws.{never, or_false}

-- what is told of a part, or else of the part after it
pub told_both : (p : ProgramTree) (ss ts : List Site) (o o' : Told) → Outcome p ss o → Outcome p ts o' → Outcome p (ss ++ ts) (told_first o o')
told_both p ss ts None o' h k = after_part p ss ts o' h k
told_both p ss ts (Some (rule, item)) o' h k = in_part p ss ts rule item h

-- what is told of one place
here : (p : ProgramTree) (s : Site) (ss : List Site) (rule : Rule) (item : ℕ) → IsLowest p s rule → item ≡ item_of s → IsFirstOf p rule item (s ∷ ss)
here p s ss rule item h e = record { before = []; site = s; after = ss; in_order = refl; kept_before = tt; lowest = h; at_item = e }

-- Names of items.
item_lowest : (p : ProgramTree) (m : NumberedModule) (i : NumberedItem) → Breaks p double_name (an_item m i) → IsLowest p (an_item m i) double_name
item_lowest p m i broken = record { broken = broken; lowest = lower }
  where
    lower : (other : Rule) → number_of other < 4 → Breaks p other (an_item m i) → ⊥
    lower no_main less h = h
    lower main_has_parameters less h = h
    lower double_module less h = h
    lower double_name less h = absurd (omega (arith, less))
    lower no_such_module less h = h
    lower wrong_count less h = h
    lower module_loop less h = h
    lower no_such_name less h = h
    lower not_a_target less h = h
    lower double_assign less h = h
    lower define_loop less h = h
    lower next_here less h = h
    lower input_here less h = h
    lower too_many less h = h

item_kept : (p : ProgramTree) (m : NumberedModule) (i : NumberedItem) → (Breaks p double_name (an_item m i) → ⊥) → IsKept p (an_item m i)
item_kept p m i fresh no_main h = h
item_kept p m i fresh main_has_parameters h = h
item_kept p m i fresh double_module h = h
item_kept p m i fresh double_name h = fresh h
item_kept p m i fresh no_such_module h = h
item_kept p m i fresh wrong_count h = h
item_kept p m i fresh module_loop h = h
item_kept p m i fresh no_such_name h = h
item_kept p m i fresh not_a_target h = h
item_kept p m i fresh double_assign h = h
item_kept p m i fresh define_loop h = h
item_kept p m i fresh next_here h = h
item_kept p m i fresh input_here h = h
item_kept p m i fresh too_many h = h

item_step : (p : ProgramTree) (m : NumberedModule) (i : NumberedItem) (ss : List Site) (o : Told) (b : Bool) →
    is_name_again (m.tree.formals ++ flat_map names_of_item i.before) (names_of_item i.item) ≡ b → Outcome p ss o → Outcome p (an_item m i ∷ ss) (told_first (told_if b double_name i.number) o)
item_step p m i ss o true e h = here p (an_item m i) ss double_name i.number (item_lowest p m i e) refl
item_step p m i ss o false e h = after_part p (an_item m i ∷ []) ss o (item_kept p m i (λ k. let bad : true ≡ false = sym k ∙ e in cc), tt) h

items_outcome : (p : ProgramTree) (m : NumberedModule) (n : ℕ) (before is : List ItemOf) →
    Outcome p (map (an_item m) (numbered_from n before is)) (items_told (m.tree.formals ++ flat_map names_of_item before) (counted_from n is))
items_outcome p m n before [] = tt
items_outcome p m n before (i ∷ is) =
    let same : m.tree.formals ++ flat_map names_of_item (before ++ i ∷ []) ≡ (m.tree.formals ++ flat_map names_of_item before) ++ names_of_item i =
    ap (λ ts. m.tree.formals ++ ts) (flat_end names_of_item before i) ∙ sym (append_assoc m.tree.formals (flat_map names_of_item before) (names_of_item i)) in
    item_step p m (record { number = n; before = before; item = i }) (map (an_item m) (numbered_from (suc n) (before ++ i ∷ []) is))
    (items_told ((m.tree.formals ++ flat_map names_of_item before) ++ names_of_item i) (counted_from (suc n) is))
    (is_name_again (m.tree.formals ++ flat_map names_of_item before) (names_of_item i)) refl
    (subst (λ (seen : List Text). Outcome p (map (an_item m) (numbered_from (suc n) (before ++ i ∷ []) is)) (items_told seen (counted_from (suc n) is))) same
    (items_outcome p m (suc n) (before ++ i ∷ []) is))

-- Formals.
abbrev some_among : List Text → List Text → Bool
some_among seen [] = false
some_among seen (x ∷ xs) = is_among seen x || some_among seen xs

none_among : (xs : List Text) → some_among [] xs ≡ false
none_among [] = refl
none_among (x ∷ xs) = none_among xs

turned : (x y : Text) → same_text x y ≡ same_text y x
turned x y = by_test (same_text x y) (same_text y x) refl refl
  where
    by_test : (a b : Bool) → same_text x y ≡ a → same_text y x ≡ b → same_text x y ≡ same_text y x
    by_test true b e f = e ∙ sym (ap (λ z. same_text y z) (same_text_equal x y e) ∙ same_text_refl y)
    by_test false true e f = (ap (λ z. same_text x z) (same_text_equal y x f) ∙ same_text_refl x) ∙ sym f
    by_test false false e f = e ∙ sym f

among_more : (seen : List Text) (x y : Text) → is_among (seen ++ x ∷ []) y ≡ (is_among seen y || same_text x y)
among_more [] x y = or_false (same_text x y)
among_more (z ∷ seen) x y = ap (λ b. same_text z y || b) (among_more seen x y) ∙ or_more (same_text z y) (is_among seen y) (same_text x y)
  where
    or_more : (a b c : Bool) → (a || (b || c)) ≡ ((a || b) || c)
    or_more true b c = refl
    or_more false b c = refl

or_four : (a b c d : Bool) → ((a || b) || (c || d)) ≡ ((a || c) || (b || d))
or_four true b c d = refl
or_four false true true d = refl
or_four false true false d = refl
or_four false false true d = refl
or_four false false false d = refl

some_more : (seen : List Text) (x : Text) (xs : List Text) → some_among (seen ++ x ∷ []) xs ≡ (some_among seen xs || is_among xs x)
some_more seen x [] = refl
some_more seen x (y ∷ xs) =
    ap (λ b. b || some_among (seen ++ x ∷ []) xs) (among_more seen x y)
    ∙ ap (λ b. (is_among seen y || same_text x y) || b) (some_more seen x xs)
    ∙ or_four (is_among seen y) (same_text x y) (some_among seen xs) (is_among xs x)
    ∙ ap (λ b. (is_among seen y || some_among seen xs) || (b || is_among xs x)) (turned x y)

told_or : (a b : Bool) (rule : Rule) (item : ℕ) → told_first (told_if a rule item) (told_if b rule item) ≡ told_if (a || b) rule item
told_or true b rule item = refl
told_or false b rule item = refl

or_turned : (a h s t : Bool) → (a || (h || (s || t))) ≡ ((t || h) || (a || s))
or_turned true true s true = refl
or_turned true true s false = refl
or_turned true false s true = refl
or_turned true false s false = refl
or_turned false true s true = refl
or_turned false true s false = refl
or_turned false false true true = refl
or_turned false false true false = refl
or_turned false false false true = refl
or_turned false false false false = refl

formals_as : (header : ℕ) (seen xs : List Text) → formals_told header seen xs ≡ told_if (has_twice xs || some_among seen xs) double_name header
formals_as header seen [] = refl
formals_as header seen (x ∷ xs) =
    ap (told_first (told_if (is_among seen x) double_name header)) (formals_as header (seen ++ x ∷ []) xs)
    ∙ told_or (is_among seen x) (has_twice xs || some_among (seen ++ x ∷ []) xs) double_name header
    ∙ ap (λ b. told_if (is_among seen x || (has_twice xs || b)) double_name header) (some_more seen x xs)
    ∙ ap (λ b. told_if b double_name header) (or_turned (is_among seen x) (has_twice xs) (some_among seen xs) (is_among xs x))

formals_twice : (header : ℕ) (xs : List Text) → formals_told header [] xs ≡ told_if (has_twice xs) double_name header
formals_twice header xs = formals_as header [] xs ∙ ap (λ b. told_if b double_name header) (ap (λ b. has_twice xs || b) (none_among xs) ∙ or_false (has_twice xs))

module _ (p : ProgramTree) (m : NumberedModule) where
  abbrev BadMain : Bool
  BadMain = same_text m.tree.name (codes "main") && has_formals m.tree.formals

  abbrev Double : Bool
  Double = is_module_among m.before m.tree.name

  header_lower : (limit : ℕ) → limit ≤ 4 → (2 < limit → BadMain ≡ false) → (3 < limit → Double ≡ false) → (other : Rule) → number_of other < limit → Breaks p other (a_header m) → ⊥
  header_lower limit most main double no_main less h = h
  header_lower limit most main double main_has_parameters less h = never BadMain (main less) h
  header_lower limit most main double double_module less h = never Double (double less) h
  header_lower limit most main double double_name less h = absurd (omega (arith, less, most))
  header_lower limit most main double no_such_module less h = h
  header_lower limit most main double wrong_count less h = h
  header_lower limit most main double module_loop less h = h
  header_lower limit most main double no_such_name less h = h
  header_lower limit most main double not_a_target less h = h
  header_lower limit most main double double_assign less h = h
  header_lower limit most main double define_loop less h = h
  header_lower limit most main double next_here less h = h
  header_lower limit most main double input_here less h = h
  header_lower limit most main double too_many less h = h

  header_kept : BadMain ≡ false → Double ≡ false → has_twice m.tree.formals ≡ false → IsKept p (a_header m)
  header_kept main double twice no_main h = h
  header_kept main double twice main_has_parameters h = never BadMain main h
  header_kept main double twice double_module h = never Double double h
  header_kept main double twice double_name h = never (has_twice m.tree.formals) twice h
  header_kept main double twice no_such_module h = h
  header_kept main double twice wrong_count h = h
  header_kept main double twice module_loop h = h
  header_kept main double twice no_such_name h = h
  header_kept main double twice not_a_target h = h
  header_kept main double twice double_assign h = h
  header_kept main double twice define_loop h = h
  header_kept main double twice next_here h = h
  header_kept main double twice input_here h = h
  header_kept main double twice too_many h = h

  header_step : (ss : List Site) (o : Told) (a b c : Bool) → BadMain ≡ a → Double ≡ b → has_twice m.tree.formals ≡ c → Outcome p ss o →
      Outcome p (a_header m ∷ ss) (told_first (told_first (told_if a main_has_parameters m.number) (told_if b double_module m.number)) (told_first (told_if c double_name m.number) o))
  header_step ss o true b c e f g h =
      here p (a_header m) ss main_has_parameters m.number (record { broken = e; lowest = header_lower 2 (omega arith) (λ less. absurd (omega (arith, less))) (λ less. absurd (omega (arith, less))) }) refl
  header_step ss o false true c e f g h =
      here p (a_header m) ss double_module m.number (record { broken = f; lowest = header_lower 3 (omega arith) (λ less. e) (λ less. absurd (omega (arith, less))) }) refl
  header_step ss o false false true e f g h =
      here p (a_header m) ss double_name m.number (record { broken = g; lowest = header_lower 4 (omega arith) (λ less. e) (λ less. f) }) refl
  header_step ss o false false false e f g h = after_part p (a_header m ∷ []) ss o (header_kept e f g, tt) h

  module_outcome : Outcome p (a_header m ∷ map (an_item m) (numbered_items m)) (module_told m.before m.number m.tree)
  module_outcome =
      let rest : Told = items_told m.tree.formals (counted_from (suc m.number) (items_of m.tree)) in
      subst (λ (o : Told). Outcome p (a_header m ∷ map (an_item m) (numbered_items m)) (told_first (header_told m.before m.number m.tree) (told_first o (items_told m.tree.formals (counted_from (suc m.number) (items_of m.tree))))))
      (sym (formals_twice m.number m.tree.formals))
      (header_step (map (an_item m) (numbered_items m)) (items_told m.tree.formals (counted_from (suc m.number) (items_of m.tree))) BadMain Double (has_twice m.tree.formals) refl refl refl
      (subst (λ (seen : List Text). Outcome p (map (an_item m) (numbered_items m)) (items_told seen (counted_from (suc m.number) (items_of m.tree)))) (append-nil m.tree.formals)
      (items_outcome p m (suc m.number) [] (items_of m.tree))))

modules_outcome : (p : ProgramTree) (n : ℕ) (before ms : List ModuleTree) →
    Outcome p (flat_map (λ m. a_header m ∷ map (an_item m) (numbered_items m)) (modules_from n before ms)) (modules_told n before ms)
modules_outcome p n before [] = tt
modules_outcome p n before (m ∷ ms) =
    told_both p (a_header (record { number = n; before = before; tree = m }) ∷ map (an_item (record { number = n; before = before; tree = m })) (numbered_from (suc n) [] (items_of m)))
    (flat_map (λ m. a_header m ∷ map (an_item m) (numbered_items m)) (modules_from (n + suc (length (items_of m))) (before ++ m ∷ []) ms))
    (module_told before n m) (modules_told (n + suc (length (items_of m))) (before ++ m ∷ []) ms)
    (module_outcome p (record { number = n; before = before; tree = m }))
    (modules_outcome p (n + suc (length (items_of m))) (before ++ m ∷ []) ms)

-- The program has a module `main`.
pub main_kept : (p : ProgramTree) (k : ℕ) → module_from 0 p (codes "main") ≡ Some k → IsKept p the_program
main_kept p k e no_main h = by_find (find_module p (codes "main")) refl
  where
    by_find : (o : Option ModuleTree) → find_module p (codes "main") ≡ o → ⊥
    by_find None f = let bad : None ≡ Some k = sym (nowhere 0 p (codes "main") f) ∙ e in cc
    by_find (Some m) f = let bad : false ≡ true = sym (ap is_missing f) ∙ h in cc
main_kept p k e main_has_parameters h = h
main_kept p k e double_module h = h
main_kept p k e double_name h = h
main_kept p k e no_such_module h = h
main_kept p k e wrong_count h = h
main_kept p k e module_loop h = h
main_kept p k e no_such_name h = h
main_kept p k e not_a_target h = h
main_kept p k e double_assign h = h
main_kept p k e define_loop h = h
main_kept p k e next_here h = h
main_kept p k e input_here h = h
main_kept p k e too_many h = h

pub modules_kept : (p : ProgramTree) → modules_told 1 [] p ≡ None → Each (IsKept p) (module_sites p)
modules_kept p e = subst (λ (o : Told). Outcome p (module_sites p) o) e (modules_outcome p 1 [] p)

pub modules_fault : (p : ProgramTree) (f : FlatFault) → IsKept p the_program → IsTold (modules_told 1 [] p) f → IsFaultOf p f
modules_fault p f kept h = by_rule (rule_of f.rule) h
  where
    by_rule : (r : Option Rule) → IfSome r (λ rule. modules_told 1 [] p ≡ Some (rule, f.item)) → IfSome r (λ rule. IsFirstBroken p rule f.item)
    by_rule None k = tt
    by_rule (Some rule) k =
        first_broken p rule f.item
        (after_part p (the_program ∷ []) (module_sites p ++ (visit_sites [] (visits p) ++ use_sites p)) (Some (rule, f.item)) (kept, tt)
        (in_part p (module_sites p) (visit_sites [] (visits p) ++ use_sites p) rule f.item
        (subst (λ (o : Told). Outcome p (module_sites p) o) k (modules_outcome p 1 [] p))))
