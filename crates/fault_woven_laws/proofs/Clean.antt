-- Trees with no `next`, each of whose leaves is good: what the weave writes is put together from such.
use Rattle.std.proofs.Common.{◌≡◌, inl, inr, suc, Bool, true, false, List, [], ◌∷◌, Some, None, refl}
use Rattle.std.specs.Prelude.{nat_abs, ℤ, pos, negsuc, nat_eq, map, if◌then◌else◌}
use Rattle.smv_language.specs.declared.expr.Op.{Op}
use Rattle.smv_language.specs.declared.expr.Op.TheVariants as op
use Rattle.smv_language.specs.declared.program.Member.{Member}
use Rattle.smv_language.specs.declared.program.Member.TheVariants as member
use Rattle.smv_language.specs.Language.{Branches, not_of, negate, binary, choice, trees_from, Text, Path, Formula, DeclaredTree, boolean, range, members, instance, Each, value_of_member}
use Rattle.smv_language.specs.Tree.{truth as is_truth, number as is_number}
use Rattle.smv_flat_laws.specs.NameResolution.{leaves_in, branches_leaves, trees_leaves, has_next, branches_have_next, trees_have_next}
use Rattle.smv_flat_laws.proofs.Conditions.{each_join}
use Rattle.fault_instructions.specs.declared.instructions.Dynamics.{Dynamics}
use Rattle.fault_instructions.specs.declared.instructions.Dynamics.TheVariants.{Permanent, Transient}
use Rattle.fault_instructions.specs.declared.instructions.Start.TheVariants.{Any}
use Rattle.fault_instructions.specs.Instructions.{ModeTree}
use Rattle.fault_instructions.specs.AddedNames.{mode_symbol}
use Rattle.fault_instructions.specs.Templates.{named, number_tree, value_tree, member_trees, domain_tree, clipped_tree, greater_tree, stands}
use Rattle.fault_weave.specs.WovenProgram.{start_tree, mode_branches, set_one, guard_formula, entries_from, stay_branch}
use Rattle.fault_instructions.specs.Weavable.{Among}
use Rattle.fault_woven_laws.proofs.WovenNamesLeaves.{join_three}
use Rattle.std.proofs.lemmas.Bool.{or_from as neither_one}
use Rattle.base_values.specs.declared.limits.TheConstants.{GREATEST_NUMBER}

module _ (P : Path → Type 0) where
  pub record Clean (t : Formula) : Type 0 where
    pub leaves : Each P (leaves_in t)
    pub free : has_next t ≡ false

  pub record CleanBranches (bs : Branches Path) : Type 0 where
    pub leaves : Each P (branches_leaves bs)
    pub free : branches_have_next bs ≡ false

  pub clean_name : (x : Text) → P (x ∷ []) → Clean (named x)
  clean_name x h = record { leaves = (h, tt); free = refl }

  pub clean_truth : (b : Bool) → Clean (is_truth b)
  clean_truth b = record { leaves = tt; free = refl }

  pub clean_not : (t : Formula) → Clean t → Clean (not_of t)
  clean_not t h = record { leaves = h.leaves; free = h.free }

  pub clean_binary : (o : Op) (a b : Formula) → Clean a → Clean b → Clean (binary o a b)
  clean_binary o a b h k = record { leaves = each_join P (leaves_in a) (leaves_in b) h.leaves k.leaves; free = neither_one _ _ h.free k.free }

  clean_choice : (c a b : Formula) → Clean c → Clean a → Clean b → Clean (choice c a b)
  clean_choice c a b h k l = record { leaves = join_three P (leaves_in c) (leaves_in a) (leaves_in b) h.leaves k.leaves l.leaves; free = neither_one _ _ h.free (neither_one _ _ k.free l.free) }

  pub clean_number : (n : ℤ) → Clean (number_tree n)
  clean_number (pos n) = record { leaves = tt; free = refl }
  clean_number (negsuc n) = by_test (nat_eq n (nat_abs GREATEST_NUMBER))
    where
      by_test : (b : Bool) → Clean (if b then binary op.Minus (negate (is_number GREATEST_NUMBER)) (is_number (pos 1)) else negate (is_number (pos (suc n))))
      by_test true = record { leaves = tt; free = refl }
      by_test false = record { leaves = tt; free = refl }

  pub clean_clipped : (type : DeclaredTree) (e : Formula) → Clean e → Clean (clipped_tree type e)
  clean_clipped (range lo hi) e h =
      clean_choice (binary op.Greater e (number_tree hi)) (number_tree hi) (choice (binary op.Less e (number_tree lo)) (number_tree lo) e) (clean_binary op.Greater e (number_tree hi) h (clean_number hi)) (clean_number hi)
      (clean_choice (binary op.Less e (number_tree lo)) (number_tree lo) e (clean_binary op.Less e (number_tree lo) h (clean_number lo)) (clean_number lo) h)
  clean_clipped boolean e h = h
  clean_clipped (members ms) e h = h
  clean_clipped (instance m actuals) e h = h

  pub clean_greater : (e : Formula) (f : ℤ) → Clean e → Clean (greater_tree e f)
  clean_greater e f h = clean_choice (binary op.Greater e (number_tree f)) e (number_tree f) (clean_binary op.Greater e (number_tree f) h (clean_number f)) h (clean_number f)

  -- the set of a domain
  abbrev pub IsGoodMember : Member → Type 0
  IsGoodMember (member.Number n) = Unit {0}
  IsGoodMember (member.Symbol x) = P (x ∷ [])

  abbrev pub IsGoodType : DeclaredTree → Type 0
  IsGoodType (members ms) = Each IsGoodMember ms
  IsGoodType _ = Unit {0}

  member_clean : (m : Member) → IsGoodMember m → Clean (value_tree (value_of_member m))
  member_clean (member.Number n) h = clean_number n
  member_clean (member.Symbol x) h = clean_name x h

  members_clean : (ms : List Member) → Each IsGoodMember ms → Each P (trees_leaves (member_trees ms)) × (trees_have_next (member_trees ms) ≡ false)
  members_clean [] h = (tt, refl)
  members_clean (m ∷ ms) h =
      let first = member_clean m h.0 in
      let rest = members_clean ms h.1 in
      (each_join P (leaves_in (value_tree (value_of_member m))) (trees_leaves (member_trees ms)) first.leaves rest.0, neither_one _ _ first.free rest.1)

  pub clean_domain : (type : DeclaredTree) → IsGoodType type → Clean (domain_tree type)
  clean_domain boolean h = record { leaves = tt; free = refl }
  clean_domain (range lo hi) h = record { leaves = tt; free = refl }
  clean_domain (members ms) h = let all = members_clean ms h in record { leaves = all.0; free = all.1 }
  clean_domain (instance m actuals) h = record { leaves = tt; free = refl }

  -- a case over modes
  pub clean_modes : (slice : Text) (f : ModeTree → Formula) (last : Formula) (ms : List ModeTree) → ((m : ModeTree) → Among ms m → Clean (stands slice m.name) × Clean (f m)) → Clean last →
      CleanBranches (mode_branches slice f last ms)
  clean_modes slice f last [] h l = record { leaves = each_join P (leaves_in last) [] l.leaves tt; free = neither_one (has_next last) false l.free refl }
  clean_modes slice f last (m ∷ ms) h l =
      let here = h m (inl refl) in
      let rest = clean_modes slice f last ms (λ n a. h n (inr a)) l in
      record {
        leaves = join_three P (leaves_in (stands slice m.name)) (leaves_in (f m)) (branches_leaves (mode_branches slice f last ms)) here.0.leaves here.1.leaves rest.leaves;
        free = neither_one _ _ here.0.free (neither_one _ _ here.1.free rest.free);
      }

  pub clean_one : (x : Text) → P (x ∷ []) → Clean (set_one x)
  clean_one x h = record { leaves = (h, tt); free = refl }

  -- the set of a slice's states
  symbols_clean : (slice : Text) (ms : List ModeTree) → ((m : ModeTree) → Among ms m → P (mode_symbol slice (Some m.name) ∷ [])) →
      Each P (trees_leaves (trees_from (map (λ m. named (mode_symbol slice (Some m.name))) ms))) × (trees_have_next (trees_from (map (λ m. named (mode_symbol slice (Some m.name))) ms)) ≡ false)
  symbols_clean slice [] f = (tt, refl)
  symbols_clean slice (m ∷ ms) f = let rest = symbols_clean slice ms (λ n a. f n (inr a)) in ((f m (inl refl), rest.0), rest.1)

  pub clean_symbols : (slice : Text) (ms : List ModeTree) → P (mode_symbol slice None ∷ []) → ((m : ModeTree) → Among ms m → P (mode_symbol slice (Some m.name) ∷ [])) → Clean (start_tree slice Any ms)
  clean_symbols slice ms h f = let all = symbols_clean slice ms f in record { leaves = (h, all.0); free = all.1 }

  pub clean_stay : (slice : Text) (d : Dynamics) (mode : Text) → P (mode_symbol slice (Some mode) ∷ []) → P (mode_symbol slice None ∷ []) → Clean (stay_branch slice d mode)
  clean_stay slice Permanent mode h k = clean_name (mode_symbol slice (Some mode)) h
  clean_stay slice Transient mode h k = record { leaves = (h, (k, tt)); free = refl }

  pub clean_entries : (slice : Text) (so_far : Formula) (ms : List ModeTree) → Clean so_far → P (mode_symbol slice None ∷ []) →
      ((m : ModeTree) → Among ms m → Clean (guard_formula m.guard) × P (mode_symbol slice (Some m.name) ∷ [])) → Clean (entries_from slice so_far ms)
  clean_entries slice so_far [] h k f = h
  clean_entries slice so_far (m ∷ ms) h k f =
      let here = f m (inl refl) in
      clean_entries slice (binary op.Union so_far (choice (guard_formula m.guard) (set_one (mode_symbol slice (Some m.name))) (set_one (mode_symbol slice None)))) ms
      (clean_binary op.Union so_far (choice (guard_formula m.guard) (set_one (mode_symbol slice (Some m.name))) (set_one (mode_symbol slice None))) h
      (clean_choice (guard_formula m.guard) (set_one (mode_symbol slice (Some m.name))) (set_one (mode_symbol slice None)) here.0 (clean_one (mode_symbol slice (Some m.name)) here.1) (clean_one (mode_symbol slice None) k)))
      k (λ n a. f n (inr a))
