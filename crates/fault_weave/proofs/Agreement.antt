-- Readable expressions have the same values in the woven program, where the valuations agree on the variables.
use Rattle.std.proofs.Common.{◌≡◌, ◌↔◌, ℕ, zero, suc, Bool, true, false, [], ◌∷◌, ◌++◌, Option, Some, None, refl, sym, ◌∙◌, ap, subst}
use Rattle.std.specs.Prelude.{if◌then◌else◌}
use Rattle.smv_language.specs.Language.{Tree, Trees, Branches, leaf, not_of, negate, next_of, binary, choice, case_of, set_of, span, no_tree, tree_then, no_branch, branch_then, Text, Path, Formula, DeclaredTree, ModuleTree, ProgramTree, Value, Values, Leaves, evaluate, evaluate_trees, evaluate_branches, Place, Key, define_key, actual_key, Role, Kind, a_formal, a_variable, an_instance, undeclared, kind_in, kind_at, module_at, actual_of_kind, is_symbol, Meaning, a_variable_at, an_expression_at, an_instance_at, LookUp, plain_name, through_plain, through_actual, through_formal, by_kind, means_in, Valuation, values_of_meaning, name_values, May, IsVariable, AllLeaves, AllLeavesOfTrees, AllLeavesOfBranches}
use Rattle.smv_language.specs.Tree.{truth as is_truth, number as is_number}
use Rattle.smv_language.specs.Scope.{a_define, a_symbol}
use Rattle.fault_instructions.specs.Instructions.{InstructionTree}
use Rattle.fault_weave.specs.WovenProgram.{woven, tree_map_both, trees_map_both, branches_map_both}
use Rattle.fault_instructions.specs.Weavable.{NoNext, NoNextInTrees, NoNextInBranches, IsWeavable, IsReadable, HasMeaning}
use Rattle.fault_weave.proofs.Meanings.{same_meaning}

-- evaluation sees what the leaves of the tree give, and no more
mutual
  pub evaluate_leaves : {L : Type 0} (P : L → Type 0) (t : Tree L) (now now' next next' : Leaves L) → ((l : L) → P l → now l ≡ now' l) → ((l : L) → P l → next l ≡ next' l) →
      AllLeaves P t → evaluate now next t ≡ evaluate now' next' t
  evaluate_leaves P (is_truth b) now now' next next' h k a = refl
  evaluate_leaves P (is_number n) now now' next next' h k a = refl
  evaluate_leaves P (leaf l) now now' next next' h k a = h l a
  evaluate_leaves P (not_of t) now now' next next' h k a = rw (evaluate_leaves P t now now' next next' h k a) refl
  evaluate_leaves P (negate t) now now' next next' h k a = rw (evaluate_leaves P t now now' next next' h k a) refl
  evaluate_leaves P (next_of t) now now' next next' h k a = evaluate_leaves P t next next' next next' k k a
  evaluate_leaves P (binary o t u) now now' next next' h k a = rw (evaluate_leaves P t now now' next next' h k a.0, evaluate_leaves P u now now' next next' h k a.1) refl
  evaluate_leaves P (choice c t u) now now' next next' h k a =
      rw (evaluate_leaves P c now now' next next' h k a.0, evaluate_leaves P t now now' next next' h k a.1, evaluate_leaves P u now now' next next' h k a.2) refl
  evaluate_leaves P (case_of bs) now now' next next' h k a = evaluate_leaves_branches P bs now now' next next' h k a
  evaluate_leaves P (set_of ts) now now' next next' h k a = evaluate_leaves_trees P ts now now' next next' h k a
  evaluate_leaves P (span lo hi) now now' next next' h k a = refl

  pub evaluate_leaves_trees : {L : Type 0} (P : L → Type 0) (ts : Trees L) (now now' next next' : Leaves L) → ((l : L) → P l → now l ≡ now' l) → ((l : L) → P l → next l ≡ next' l) →
      AllLeavesOfTrees P ts → evaluate_trees now next ts ≡ evaluate_trees now' next' ts
  evaluate_leaves_trees P no_tree now now' next next' h k a = refl
  evaluate_leaves_trees P (tree_then t ts) now now' next next' h k a =
      rw (evaluate_leaves P t now now' next next' h k a.0, evaluate_leaves_trees P ts now now' next next' h k a.1) refl

  pub evaluate_leaves_branches : {L : Type 0} (P : L → Type 0) (bs : Branches L) (now now' next next' : Leaves L) → ((l : L) → P l → now l ≡ now' l) → ((l : L) → P l → next l ≡ next' l) →
      AllLeavesOfBranches P bs → evaluate_branches now next bs ≡ evaluate_branches now' next' bs
  evaluate_leaves_branches P no_branch now now' next next' h k a = refl
  evaluate_leaves_branches P (branch_then c t bs) now now' next next' h k a =
      rw (evaluate_leaves P c now now' next next' h k a.0, evaluate_leaves P t now now' next next' h k a.1, evaluate_leaves_branches P bs now now' next next' h k a.2) refl

-- without `next` it sees only what they give now
mutual
  pub evaluate_now : {L : Type 0} (t : Tree L) (now now' next next' : Leaves L) → ((l : L) → now l ≡ now' l) → NoNext t → evaluate now next t ≡ evaluate now' next' t
  evaluate_now (is_truth b) now now' next next' h a = refl
  evaluate_now (is_number n) now now' next next' h a = refl
  evaluate_now (leaf l) now now' next next' h a = h l
  evaluate_now (not_of t) now now' next next' h a = rw (evaluate_now t now now' next next' h a) refl
  evaluate_now (negate t) now now' next next' h a = rw (evaluate_now t now now' next next' h a) refl
  evaluate_now (next_of t) now now' next next' h a = absurd a
  evaluate_now (binary o t u) now now' next next' h a = rw (evaluate_now t now now' next next' h a.0, evaluate_now u now now' next next' h a.1) refl
  evaluate_now (choice c t u) now now' next next' h a =
      rw (evaluate_now c now now' next next' h a.0, evaluate_now t now now' next next' h a.1, evaluate_now u now now' next next' h a.2) refl
  evaluate_now (case_of bs) now now' next next' h a = branches_now bs now now' next next' h a
  evaluate_now (set_of ts) now now' next next' h a = trees_now ts now now' next next' h a
  evaluate_now (span lo hi) now now' next next' h a = refl

  pub trees_now : {L : Type 0} (ts : Trees L) (now now' next next' : Leaves L) → ((l : L) → now l ≡ now' l) → NoNextInTrees ts → evaluate_trees now next ts ≡ evaluate_trees now' next' ts
  trees_now no_tree now now' next next' h a = refl
  trees_now (tree_then t ts) now now' next next' h a = rw (evaluate_now t now now' next next' h a.0, trees_now ts now now' next next' h a.1) refl

  pub branches_now : {L : Type 0} (bs : Branches L) (now now' next next' : Leaves L) → ((l : L) → now l ≡ now' l) → NoNextInBranches bs → evaluate_branches now next bs ≡ evaluate_branches now' next' bs
  branches_now no_branch now now' next next' h a = refl
  branches_now (branch_then c t bs) now now' next next' h a =
      rw (evaluate_now c now now' next next' h a.0, evaluate_now t now now' next next' h a.1, branches_now bs now now' next next' h a.2) refl

-- a tree with its leaves changed
mutual
  pub evaluate_map_both : {L M : Type 0} (f g : L → M) (t : Tree L) (now next : Leaves M) →
      evaluate now next (tree_map_both f g t) ≡ evaluate (λ l. now (f l)) (λ l. next (g l)) t
  evaluate_map_both f g (is_truth b) now next = refl
  evaluate_map_both f g (is_number n) now next = refl
  evaluate_map_both f g (leaf l) now next = refl
  evaluate_map_both f g (not_of a) now next = rw (evaluate_map_both f g a now next) refl
  evaluate_map_both f g (negate a) now next = rw (evaluate_map_both f g a now next) refl
  evaluate_map_both f g (next_of a) now next = evaluate_map_both g g a next next
  evaluate_map_both f g (binary o a b) now next = rw (evaluate_map_both f g a now next, evaluate_map_both f g b now next) refl
  evaluate_map_both f g (choice c a b) now next = rw (evaluate_map_both f g c now next, evaluate_map_both f g a now next, evaluate_map_both f g b now next) refl
  evaluate_map_both f g (case_of bs) now next = evaluate_branches_map_both f g bs now next
  evaluate_map_both f g (set_of ts) now next = evaluate_trees_map_both f g ts now next
  evaluate_map_both f g (span lo hi) now next = refl

  pub evaluate_trees_map_both : {L M : Type 0} (f g : L → M) (ts : Trees L) (now next : Leaves M) →
      evaluate_trees now next (trees_map_both f g ts) ≡ evaluate_trees (λ l. now (f l)) (λ l. next (g l)) ts
  evaluate_trees_map_both f g no_tree now next = refl
  evaluate_trees_map_both f g (tree_then t ts) now next = rw (evaluate_map_both f g t now next, evaluate_trees_map_both f g ts now next) refl

  pub evaluate_branches_map_both : {L M : Type 0} (f g : L → M) (bs : Branches L) (now next : Leaves M) →
      evaluate_branches now next (branches_map_both f g bs) ≡ evaluate_branches (λ l. now (f l)) (λ l. next (g l)) bs
  evaluate_branches_map_both f g no_branch now next = refl
  evaluate_branches_map_both f g (branch_then c a bs) now next =
      rw (evaluate_map_both f g c now next, evaluate_map_both f g a now next, evaluate_branches_map_both f g bs now next) refl

-- the valuations agree on the variables of the program
abbrev pub Agree : ProgramTree → Valuation → Valuation → Type 0
Agree p v r = (at : Place) (x : Text) (role : Role) (type : DeclaredTree) → IsVariable p at x role type → v at x ≡ r at x

-- where a meaning comes from
abbrev pub Sourced : ProgramTree → Meaning → Type 0
Sourced p (a_variable_at at x) = (role : Role) × (type : DeclaredTree) × IsVariable p at x role type
Sourced p (an_expression_at key at e) = IsReadable p at e × NoNext e
Sourced p (an_instance_at at) = Unit {0}
Sourced p (a_symbol x) = Unit {0}

module _ (p : ProgramTree) (i : InstructionTree) (ok : IsWeavable p i) where
  abbrev AllSourced : LookUp → Type 0
  AllSourced look = (at : Place) (name : Path) (meaning : Meaning) → look at name ≡ Some meaning → Sourced p meaning

  actual_sourced : (look : LookUp) (key : Key) (caller : Place) (e : Formula) (o : Option Path) (rest : Path) (meaning : Meaning) → AllSourced look → IsReadable p caller e × NoNext e →
      through_plain look key caller e o rest ≡ Some meaning → Sourced p meaning
  actual_sourced look key caller e (Some []) rest meaning h good q = cc
  actual_sourced look key caller e (Some (x ∷ name)) rest meaning h good q = h caller (x ∷ (name ++ rest)) meaning q
  actual_sourced look key caller e None [] meaning h good q = let same : an_expression_at key caller e ≡ meaning = cc in subst (Sourced p) same good
  actual_sourced look key caller e None (x ∷ rest) meaning h good q = cc

  kind_actual : (caller : Place) (own : Text) (j : ℕ) (o : Option ModuleTree) (e : Formula) → module_at p caller ≡ o → actual_of_kind (kind_at o own) j ≡ Some e → IsReadable p caller e × NoNext e
  kind_actual caller own j None e is q = cc
  kind_actual caller own j (Some m) e is q = go (kind_in m own) refl q
    where
      go : (k : Kind) → kind_in m own ≡ k → actual_of_kind k j ≡ Some e → IsReadable p caller e × NoNext e
      go (an_instance n es) k q = (ok.instances caller m is).actuals own n es j e k q
      go (a_formal l) k q = cc
      go (a_variable role what) k q = cc
      go (a_define f) k q = cc
      go undeclared k q = cc

  formal_sourced : (look : LookUp) (at : Place) (j : ℕ) (rest : Path) (meaning : Meaning) → AllSourced look → through_formal look p at j rest ≡ Some meaning → Sourced p meaning
  formal_sourced look [] j rest meaning h q = cc
  formal_sourced look (own ∷ caller) j rest meaning h q = go (actual_of_kind (kind_at (module_at p caller) own) j) refl q
    where
      go : (o : Option Formula) → actual_of_kind (kind_at (module_at p caller) own) j ≡ o → through_actual look (actual_key (own ∷ caller) j) caller o rest ≡ Some meaning → Sourced p meaning
      go None e q = cc
      go (Some f) e q = actual_sourced look (actual_key (own ∷ caller) j) caller f (plain_name f) rest meaning h (kind_actual caller own j (module_at p caller) f refl e) q

  symbol_sourced : (b : Bool) (x : Text) (meaning : Meaning) → (if b then Some (a_symbol x) else None) ≡ Some meaning → Sourced p meaning
  symbol_sourced true x meaning q = let same : a_symbol x ≡ meaning = cc in subst (Sourced p) same tt
  symbol_sourced false x meaning q = cc

  kind_sourced : (look : LookUp) (at : Place) (o : Option ModuleTree) (x : Text) (k : Kind) (rest : Path) (meaning : Meaning) → module_at p at ≡ o → kind_at o x ≡ k → AllSourced look →
      by_kind look p at k x rest ≡ Some meaning → Sourced p meaning
  kind_sourced look at o x (a_formal j) rest meaning is e h q = formal_sourced look at j rest meaning h q
  kind_sourced look at None x (a_variable role what) rest meaning is e h q = cc
  kind_sourced look at (Some m) x (a_variable role what) [] meaning is e h q =
      let same : a_variable_at at x ≡ meaning = cc in subst (Sourced p) same (role, what, (m, is, e))
  kind_sourced look at (Some m) x (a_variable role what) (y ∷ rest) meaning is e h q = cc
  kind_sourced look at None x (a_define f) rest meaning is e h q = cc
  kind_sourced look at (Some m) x (a_define f) [] meaning is e h q =
      let same : an_expression_at (define_key at x) at f ≡ meaning = cc in subst (Sourced p) same ((ok.instances at m is).defines x f e)
  kind_sourced look at (Some m) x (a_define f) (y ∷ rest) meaning is e h q = cc
  kind_sourced look at o x (an_instance n es) [] meaning is e h q = let same : an_instance_at (x ∷ at) ≡ meaning = cc in subst (Sourced p) same tt
  kind_sourced look at o x (an_instance n es) (y ∷ rest) meaning is e h q = h (x ∷ at) (y ∷ rest) meaning q
  kind_sourced look at o x undeclared [] meaning is e h q = symbol_sourced (is_symbol p x) x meaning q
  kind_sourced look at o x undeclared (y ∷ rest) meaning is e h q = cc

  pub sourced : (n : ℕ) (at : Place) (name : Path) (meaning : Meaning) → means_in n p at name ≡ Some meaning → Sourced p meaning
  sourced zero at name meaning q = cc
  sourced (suc n) at [] meaning q = cc
  sourced (suc n) at (x ∷ rest) meaning q = kind_sourced (means_in n p) at (module_at p at) x _ rest meaning refl refl (sourced n) q

  pub meaning_same : (give give' : Place → Formula → Option Values) (v r : Valuation) (o : Option Meaning) →
      ((meaning : Meaning) → o ≡ Some meaning → Sourced p meaning) → Agree p v r →
      ((at : Place) (e : Formula) → IsReadable p at e × NoNext e → give' at e ≡ give at e) → values_of_meaning give' v o ≡ values_of_meaning give r o
  meaning_same give give' v r None s a h = refl
  meaning_same give give' v r (Some (a_variable_at at x)) s a h =
      let from : (role : Role) × (type : DeclaredTree) × IsVariable p at x role type = s _ refl in rw (a at x from.0 from.1 from.2) refl
  meaning_same give give' v r (Some (an_expression_at key at e)) s a h = h at e (s _ refl)
  meaning_same give give' v r (Some (an_instance_at at)) s a h = refl
  meaning_same give give' v r (Some (a_symbol x)) s a h = refl

  -- a name that means something has the same values in both
  pub values_agree : (n : ℕ) (at : Place) (v v' r r' : Valuation) → Agree p v r → Agree p v' r' → (name : Path) → HasMeaning p at name →
      name_values n (woven p i) at v v' name ≡ name_values n p at r r' name
  values_agree zero at v v' r r' a a' name h = refl
  values_agree (suc n) at v v' r r' a a' name h =
      ap (values_of_meaning (λ at' e. evaluate (name_values n (woven p i) at' v v') (name_values n (woven p i) at' v' v') e) v)
      (same_meaning p i ok (suc n) h.1.0 at name h.0 h.1.1)
      ∙ meaning_same (λ at' e. evaluate (name_values n p at' r r') (name_values n p at' r' r') e) (λ at' e. evaluate (name_values n (woven p i) at' v v') (name_values n (woven p i) at' v' v') e)
      v r (means_in (suc n) p at name) (sourced (suc n) at name) a
      (λ at' e good. evaluate_leaves (HasMeaning p at') e _ _ _ _ (values_agree n at' v v' r r' a a') (values_agree n at' v' v' r' r' a' a') good.0)

  pub evaluate_agree : (n : ℕ) (at : Place) (v v' r r' : Valuation) → Agree p v r → Agree p v' r' → (e : Formula) → IsReadable p at e →
      evaluate (name_values n (woven p i) at v v') (name_values n (woven p i) at v' v') e ≡ evaluate (name_values n p at r r') (name_values n p at r' r') e
  evaluate_agree n at v v' r r' a a' e readable =
      evaluate_leaves (HasMeaning p at) e _ _ _ _ (values_agree n at v v' r r' a a') (values_agree n at v' v' r' r' a' a') readable

  pub may_agree : (at : Place) (v v' r r' : Valuation) → Agree p v r → Agree p v' r' → (e : Formula) (x : Value) → IsReadable p at e →
      May (woven p i) at v v' e x ↔ May p at r r' e x
  may_agree at v v' r r' a a' e x readable = (
    (λ h. (h.0, h.1, sym (evaluate_agree h.0 at v v' r r' a a' e readable) ∙ h.2, h.3)),
    (λ h. (h.0, h.1, evaluate_agree h.0 at v v' r r' a a' e readable ∙ h.2, h.3)),
  )

  -- names do not depend on the next valuation, nor does what has no `next`
  pub values_now : (n : ℕ) (at : Place) (r r' s' : Valuation) (name : Path) → name_values n p at r r' name ≡ name_values n p at r s' name
  values_now zero at r r' s' name = refl
  values_now (suc n) at r r' s' name =
      meaning_same (λ at' e. evaluate (name_values n p at' r s') (name_values n p at' s' s') e) (λ at' e. evaluate (name_values n p at' r r') (name_values n p at' r' r') e)
      r r (means_in (suc n) p at name) (sourced (suc n) at name) (λ at' x role type is. refl)
      (λ at' e good. evaluate_now e _ _ _ _ (values_now n at' r r' s') good.1)

  pub evaluate_any_next : (n : ℕ) (at : Place) (r r' s' : Valuation) (e : Formula) → NoNext e →
      evaluate (name_values n p at r r') (name_values n p at r' r') e ≡ evaluate (name_values n p at r s') (name_values n p at s' s') e
  evaluate_any_next n at r r' s' e free = evaluate_now e _ _ _ _ (values_now n at r r' s') free
