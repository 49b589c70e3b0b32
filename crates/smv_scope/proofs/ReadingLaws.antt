-- What is told of names one by one is told of all of them.
use Rattle.std.proofs.Common.{◌≡◌, ℕ, suc, ◌+◌, ◌<◌, ◌≤◌, arith, List, [], ◌∷◌, ◌++◌, length, get_or, drop, map, Option, Some, None, refl, ap, ◌∙◌, sym, subst}
use Rattle.std.specs.Prelude.{IfSome}
use Rattle.std.proofs.lemmas.List.{append-nil, append_assoc, drop_more, drop_all, map-append}
use Rattle.smv_language.specs.Language.{Text, is_among}
use Rattle.smv_flat_laws.specs.Items.{Item as ItemOf, a_declaration, a_definition, an_assignment, some_constants, an_init, an_invar, a_trans}
use Rattle.smv_flat_laws.specs.Rules.{Rule, double_name, names_of_item, is_name_again}
use Rattle.smv_scope.specs.declared.fault.FlatFault.{FlatFault}
use Rattle.smv_scope.specs.declared.items.Numbered.{Numbered}
use Rattle.smv_scope.specs.declared.modules.Local.{Local}
use Rattle.smv_scope.specs.declared.modules.Local.TheVariants as local
use Rattle.smv_scope.specs.Faults.{rule_of}
use Rattle.smv_scope.specs.ItemTree.{numbered_tree}
use Rattle.smv_scope.specs.ModuleFaults.{Told, told_if, told_first, IsTold, texts_of, formals_told, items_told, item_of_numbered}
use Rattle.smv_scope.specs.SceneTree.{formal_entries, entries_of_item, item_entries}

pub told_as : (o o' : Told) (f : FlatFault) → o ≡ o' → IsTold o f → IsTold o' f
told_as o o' f e h = subst (λ (t : Told). IsTold t f) e h

pub told_here : (o rest : Told) (f : FlatFault) → IsTold o f → IsTold (told_first o rest) f
told_here o rest f h = by_rule (rule_of f.rule) h
  where
    by_rule : (r : Option Rule) → IfSome r (λ rule. o ≡ Some (rule, f.item)) → IfSome r (λ rule. told_first o rest ≡ Some (rule, f.item))
    by_rule None k = tt
    by_rule (Some rule) k = ap (λ t. told_first t rest) k

pub told_later : (o rest : Told) (f : FlatFault) → o ≡ None → IsTold rest f → IsTold (told_first o rest) f
told_later o rest f e h = told_as rest (told_first o rest) f (sym (ap (λ t. told_first t rest) e)) h

pub none_first : (o rest : Told) → o ≡ None → told_first o rest ≡ rest
none_first o rest e = ap (λ t. told_first t rest) e

-- one formal more
module _ (header k : ℕ) (es : List (Text × Local)) (xs : List Text) (d : Text) (within : k < length xs) where
  pub formals_here : formals_told header (texts_of es) (drop k xs)
      ≡ told_first (told_if (is_among (texts_of es) (get_or xs k d)) double_name header) (formals_told header (texts_of es ++ get_or xs k d ∷ []) (drop (k + 1) xs))
  formals_here = ap (formals_told header (texts_of es)) (drop_more xs k d within)

  pub formals_next : (es' : List (Text × Local)) → es' ≡ es ++ (get_or xs k d, local.Formal k) ∷ [] → told_if (is_among (texts_of es) (get_or xs k d)) double_name header ≡ None →
      formals_told header (texts_of es') (drop (k + 1) xs) ≡ formals_told header (texts_of es) (drop k xs)
  formals_next es' e none =
      ap (λ seen. formals_told header seen (drop (k + 1) xs)) (ap texts_of e ∙ map-append (λ (e : Text × Local). e.0) es ((get_or xs k d, local.Formal k) ∷ []))
      ∙ sym (none_first _ (formals_told header (texts_of es ++ get_or xs k d ∷ []) (drop (k + 1) xs)) none)
      ∙ sym formals_here

  pub formal_entries_next : (es' : List (Text × Local)) → es' ≡ es ++ (get_or xs k d, local.Formal k) ∷ [] →
      es' ++ formal_entries (k + 1) (drop (k + 1) xs) ≡ es ++ formal_entries k (drop k xs)
  formal_entries_next es' e =
      let next : k + 1 ≡ suc k = omega arith in
      ap (λ fs. fs ++ formal_entries (k + 1) (drop (k + 1) xs)) e
      ∙ append_assoc es ((get_or xs k d, local.Formal k) ∷ []) (formal_entries (k + 1) (drop (k + 1) xs))
      ∙ ap (λ n. es ++ (get_or xs k d, local.Formal k) ∷ formal_entries n (drop (k + 1) xs)) next
      ∙ sym (ap (λ ys. es ++ formal_entries k ys) (drop_more xs k d within))

pub formal_entries_end : (k : ℕ) (es : List (Text × Local)) (xs : List Text) → length xs ≤ k → es ++ formal_entries k (drop k xs) ≡ es
formal_entries_end k es xs past = ap (λ ys. es ++ formal_entries k ys) (drop_all k xs past) ∙ append-nil es

pub formals_end : (header k : ℕ) (seen : List Text) (xs : List Text) → length xs ≤ k → formals_told header seen (drop k xs) ≡ None
formals_end header k seen xs past = ap (formals_told header seen) (drop_all k xs past)

entries_texts : (k : ℕ) (i : ItemOf) → texts_of (entries_of_item k i) ≡ names_of_item i
entries_texts k (a_declaration role d) = refl
entries_texts k (a_definition d) = refl
entries_texts k (an_assignment a) = refl
entries_texts k (some_constants xs) = refl
entries_texts k (an_init e) = refl
entries_texts k (an_invar e) = refl
entries_texts k (a_trans e) = refl

-- one item more
module _ (k : ℕ) (es : List (Text × Local)) (ns : List Numbered) (d : Numbered) (within : k < length ns) where
  abbrev again : Told
  again = told_if (is_name_again (texts_of es) (names_of_item (item_of_numbered (get_or ns k d)))) double_name (get_or ns k d).number

  abbrev rest : Told
  rest = items_told (texts_of es ++ names_of_item (item_of_numbered (get_or ns k d))) (map numbered_tree (drop (k + 1) ns))

  pub items_here : items_told (texts_of es) (map numbered_tree (drop k ns)) ≡ told_first again rest
  items_here = ap (λ ms. items_told (texts_of es) (map numbered_tree ms)) (drop_more ns k d within)

  pub items_next : (es' : List (Text × Local)) → es' ≡ es ++ entries_of_item k (item_of_numbered (get_or ns k d)) → again ≡ None →
      items_told (texts_of es') (map numbered_tree (drop (k + 1) ns)) ≡ items_told (texts_of es) (map numbered_tree (drop k ns))
  items_next es' e none =
      ap (λ seen. items_told seen (map numbered_tree (drop (k + 1) ns)))
      (ap texts_of e ∙ map-append (λ (e : Text × Local). e.0) es (entries_of_item k (item_of_numbered (get_or ns k d)))
      ∙ ap (λ ts. texts_of es ++ ts) (entries_texts k (item_of_numbered (get_or ns k d))))
      ∙ sym (none_first again rest none)
      ∙ sym items_here

  pub item_entries_next : (es' : List (Text × Local)) → es' ≡ es ++ entries_of_item k (item_of_numbered (get_or ns k d)) →
      es' ++ item_entries (k + 1) (map item_of_numbered (drop (k + 1) ns)) ≡ es ++ item_entries k (map item_of_numbered (drop k ns))
  item_entries_next es' e =
      let next : k + 1 ≡ suc k = omega arith in
      ap (λ fs. fs ++ item_entries (k + 1) (map item_of_numbered (drop (k + 1) ns))) e
      ∙ append_assoc es (entries_of_item k (item_of_numbered (get_or ns k d))) (item_entries (k + 1) (map item_of_numbered (drop (k + 1) ns)))
      ∙ ap (λ n. es ++ (entries_of_item k (item_of_numbered (get_or ns k d)) ++ item_entries n (map item_of_numbered (drop (k + 1) ns)))) next
      ∙ sym (ap (λ ms. es ++ item_entries k (map item_of_numbered ms)) (drop_more ns k d within))

pub item_entries_end : (k : ℕ) (es : List (Text × Local)) (ns : List Numbered) → length ns ≤ k → es ++ item_entries k (map item_of_numbered (drop k ns)) ≡ es
item_entries_end k es ns past = ap (λ ms. es ++ item_entries k (map item_of_numbered ms)) (drop_all k ns past) ∙ append-nil es

pub items_end : (k : ℕ) (seen : List Text) (ns : List Numbered) → length ns ≤ k → items_told seen (map numbered_tree (drop k ns)) ≡ None
items_end k seen ns past = ap (λ ms. items_told seen (map numbered_tree ms)) (drop_all k ns past)
