-- What the names of a definition mean.
use Rattle.std.proofs.Common.{◌≡◌, ℕ, ◌≤◌, Bool, false, ◌||◌, List, [], ◌++◌, length, drop, ap, ◌∙◌, sym, subst}
use Rattle.std.proofs.lemmas.List.{append-nil, drop_all}
use Rattle.smv_language.specs.Language.{Path, Formula, Each}
use Rattle.smv_flat_laws.specs.NameResolution.{leaves_in}
use Rattle.smv_scope.specs.declared.names.Scene.{Scene}
use Rattle.smv_scope.specs.NextFlags.{flagged}
use Rattle.smv_scope.specs.DefinitionNeeds.{needs_in, reads_in, first_names, IsFoundAt}
use Rattle.smv_scope.proofs.UsesLaws.{flagged_leaves, or_false}

-- where no name is left, what is named so far is what the expression names
module _ (s : Scene) (spot : ℕ) (us : List (Path × Bool)) (i : ℕ) (t : Formula) (past : length us ≤ i) (is : us ≡ flagged false t) where
  none_left : first_names (drop i us) ≡ []
  none_left = ap first_names (drop_all i us past)

  leaves : first_names us ≡ leaves_in t
  leaves = ap first_names is ∙ flagged_leaves false t

  pub all_needed : (needs : List ℕ) → needs ++ needs_in s spot (first_names (drop i us)) ≡ needs_in s spot (first_names us) → needs ≡ needs_in s spot (leaves_in t)
  all_needed needs e = sym (append-nil needs) ∙ sym (ap (λ xs. needs ++ needs_in s spot xs) none_left) ∙ e ∙ ap (needs_in s spot) leaves

  pub all_read : (input : Bool) → (input || reads_in s spot (first_names (drop i us))) ≡ reads_in s spot (first_names us) → input ≡ reads_in s spot (leaves_in t)
  all_read input e = or_false input ∙ sym (ap (λ xs. input || reads_in s spot xs) none_left) ∙ e ∙ ap (reads_in s spot) leaves

  pub all_found : (Each (IsFoundAt s spot) (first_names (drop i us)) → Each (IsFoundAt s spot) (first_names us)) → Each (IsFoundAt s spot) (leaves_in t)
  all_found h = subst (Each (IsFoundAt s spot)) leaves (h (subst (Each (IsFoundAt s spot)) (sym none_left) tt))
