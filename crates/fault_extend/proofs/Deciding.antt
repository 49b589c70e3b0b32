-- Loops over modes: what is left decides what all come to.
use Rattle.std.proofs.Common.{◌≡◌, ℕ, suc, ◌+◌, ◌<◌, true, List, [], ◌∷◌, ◌++◌, map, length, drop, get_or, refl, sym, ◌∙◌, ap, subst, append_assoc, arith}
use Rattle.std.specs.Prelude.{flat_map, if◌then◌else◌}
use Rattle.smv_language.specs.Language.{DeclaredTree, ProgramTree, declared_tree, Place, same_text, Each, FlatInstance, FlatModel, instance_tree}
use Rattle.smv_language.proofs.ValueLaws.{same_text_refl, same_text_equal}
use Rattle.fault_instructions.specs.declared.instructions.ModeRule.{ModeRule}
use Rattle.fault_instructions.specs.Instructions.{mode_tree}
use Rattle.smv_language.specs.declared.model.Instance.{Instance}
use Rattle.fault_rules.specs.declared.placed.Placed.{Placed}
use Rattle.fault_rules.specs.PlacedSlices.{PlacedSlice, seen_placed}
use Rattle.fault_extend_laws.specs.SliceUses.{modes_from, uses_of_slice, uses_of_slices}
use Rattle.smv_flat_laws.proofs.Conditions.{each_join}
use Rattle.fault_extend_laws.specs.Uses.{Use}
use Rattle.fault_extend_laws.specs.Expressions.{KeepsUse, UseRule, IsBrokenAt, IsFirstAmong}
use Rattle.fault_extend.specs.declared.fault.WeaveCause.{WeaveCause}
use Rattle.fault_extend.specs.declared.fault.WeaveCause.TheVariants.{Weave, Flat, Kinds}
use Rattle.fault_extend.specs.declared.fault.WeaveFault.{WeaveFault}
use Rattle.fault_extend.specs.GuardJudgement.{use_at}
use Rattle.fault_extend.specs.FirstRefusal.{IsWantOr, IsFirstFault}
use Rattle.std.proofs.lemmas.Bool.{false_from_ne_true as not_true}
use Rattle.smv_language.proofs.ListLaws.{drop_here}

-- where what is left is kept, all are, and what is first among what is left is first among all
pub record Decides (p : ProgramTree) (m : FlatModel) (left all : List Use) : Type 0 where
  pub kept : Each (KeepsUse p m) left → Each (KeepsUse p m) all
  pub first : (r : UseRule) (n : ℕ) → IsFirstAmong p m left r n → IsFirstAmong p m all r n

-- a rule of which one thing holds is one of which another does
pub want_or : (cause : WeaveCause) (P Q : UseRule → Type 0) → ((r : UseRule) → P r → Q r) → IsWantOr cause P → IsWantOr cause Q
want_or (Weave rule) P Q f h = h
want_or (Flat fault) P Q f h = record { rule = h.rule; is_cause = h.is_cause; holds = f h.rule h.holds }
want_or (Kinds fault) P Q f h = record { rule = h.rule; is_cause = h.is_cause; holds = f h.rule h.holds }

module _ (p : ProgramTree) (m : FlatModel) where
  -- past modes that are kept
  pub decides_next : (here left all : List Use) → Decides p m (here ++ left) all → Each (KeepsUse p m) here → Decides p m left all
  decides_next here left all d kept = record {
    kept = λ h. d.kept (each_join (KeepsUse p m) here left kept h);
    first = λ r n f. d.first r n (record {
      before = here ++ f.before;
      here = f.here;
      after = f.after;
      in_order = ap (λ us. here ++ us) f.in_order ∙ sym (append_assoc here f.before (f.here ∷ f.after));
      kept_before = each_join (KeepsUse p m) here f.before kept f.kept_before;
      broken = f.broken;
      at_item = f.at_item;
    });
  }

  -- at modes of which one is broken
  pub decides_first : (here left all : List Use) → Decides p m (here ++ left) all → (r : UseRule) (n : ℕ) → IsFirstAmong p m here r n → IsFirstAmong p m all r n
  decides_first here left all d r n f = d.first r n (record {
    before = f.before;
    here = f.here;
    after = f.after ++ left;
    in_order = ap (λ us. us ++ left) f.in_order ∙ append_assoc f.before (f.here ∷ f.after) left;
    kept_before = f.kept_before;
    broken = f.broken;
    at_item = f.at_item;
  })

  pub decides_none : (all : List Use) → Decides p m [] all → Each (KeepsUse p m) all
  decides_none all d = d.kept tt

  pub one_first : (u : Use) (r : UseRule) → IsBrokenAt p m u r → IsFirstAmong p m (u ∷ []) r u.item
  one_first u r b = record { before = []; here = u; after = []; in_order = refl; kept_before = tt; broken = b; at_item = refl }

  -- modes, one on
  module _ (at : Place) (type : DeclaredTree) (xs : List ModeRule) (i : ℕ) (x : ModeRule) (n new : ℕ) (all : List Use) (below : i < length xs) (here : x ≡ get_or xs i x) (next : new ≡ n + 1)
      (d : Decides p m (modes_from at type (n + 1) (map mode_tree (drop i xs))) all) where
    modes_split : Decides p m ((use_at at type (mode_tree x) new ∷ []) ++ modes_from at type (new + 1) (map mode_tree (drop (i + 1) xs))) all
    modes_split =
        subst (λ us. Decides p m us all)
        (ap (λ ys. modes_from at type (n + 1) (map mode_tree ys)) (drop_here xs i x below here)
        ∙ ap (λ k. use_at at type (mode_tree x) k ∷ modes_from at type (suc k) (map mode_tree (drop (i + 1) xs))) (sym next)
        ∙ ap (λ k. use_at at type (mode_tree x) new ∷ modes_from at type k (map mode_tree (drop (i + 1) xs))) (one_more new)) d
      where
        one_more : (k : ℕ) → suc k ≡ k + 1
        one_more k = omega arith

    pub mode_next : KeepsUse p m (use_at at type (mode_tree x) new) → Decides p m (modes_from at type (new + 1) (map mode_tree (drop (i + 1) xs))) all
    mode_next kept = decides_next (use_at at type (mode_tree x) new ∷ []) (modes_from at type (new + 1) (map mode_tree (drop (i + 1) xs))) all modes_split (kept, tt)

    pub mode_first : (cause : WeaveCause) → IsWantOr cause (IsBrokenAt p m (use_at at type (mode_tree x) new)) → IsFirstFault p m all (record { cause = cause; item = new })
    mode_first cause h =
        want_or cause (IsBrokenAt p m (use_at at type (mode_tree x) new)) (λ r. IsFirstAmong p m all r new)
        (λ r b. decides_first (use_at at type (mode_tree x) new ∷ []) (modes_from at type (new + 1) (map mode_tree (drop (i + 1) xs))) all modes_split r new (one_first (use_at at type (mode_tree x) new) r b)) h

  -- slices, one on
  module _ (at : FlatInstance) (xs : List Placed) (i : ℕ) (x : Placed) (all : List Use) (below : i < length xs) (here : x ≡ get_or xs i x)
      (d : Decides p m (uses_of_slices (map seen_placed (drop i xs)) at) all) where
    slices_split : Decides p m (uses_of_slice at (seen_placed x) ++ uses_of_slices (map seen_placed (drop (i + 1) xs)) at) all
    slices_split = subst (λ ys. Decides p m (uses_of_slices (map seen_placed ys) at) all) (drop_here xs i x below here) d

    pub slice_next : Each (KeepsUse p m) (uses_of_slice at (seen_placed x)) → Decides p m (uses_of_slices (map seen_placed (drop (i + 1) xs)) at) all
    slice_next kept = decides_next (uses_of_slice at (seen_placed x)) (uses_of_slices (map seen_placed (drop (i + 1) xs)) at) all slices_split kept

    pub slice_first : (fault : WeaveFault) → IsFirstFault p m (uses_of_slice at (seen_placed x)) fault → IsFirstFault p m all fault
    slice_first fault h =
        want_or fault.cause (λ r. IsFirstAmong p m (uses_of_slice at (seen_placed x)) r fault.item) (λ r. IsFirstAmong p m all r fault.item)
        (λ r f. decides_first (uses_of_slice at (seen_placed x)) (uses_of_slices (map seen_placed (drop (i + 1) xs)) at) all slices_split r fault.item f) h

  -- instances, one on
  module _ (slices : List PlacedSlice) (xs : List Instance) (i : ℕ) (x : Instance) (all : List Use) (below : i < length xs) (here : x ≡ get_or xs i x)
      (d : Decides p m (flat_map (uses_of_slices slices) (map instance_tree (drop i xs))) all) where
    instances_split : Decides p m (uses_of_slices slices (instance_tree x) ++ flat_map (uses_of_slices slices) (map instance_tree (drop (i + 1) xs))) all
    instances_split = subst (λ ys. Decides p m (flat_map (uses_of_slices slices) (map instance_tree ys)) all) (drop_here xs i x below here) d

    pub instance_next : Each (KeepsUse p m) (uses_of_slices slices (instance_tree x)) → Decides p m (flat_map (uses_of_slices slices) (map instance_tree (drop (i + 1) xs))) all
    instance_next kept = decides_next (uses_of_slices slices (instance_tree x)) (flat_map (uses_of_slices slices) (map instance_tree (drop (i + 1) xs))) all instances_split kept

    pub instance_first : (fault : WeaveFault) → IsFirstFault p m (uses_of_slices slices (instance_tree x)) fault → IsFirstFault p m all fault
    instance_first fault h =
        want_or fault.cause (λ r. IsFirstAmong p m (uses_of_slices slices (instance_tree x)) r fault.item) (λ r. IsFirstAmong p m all r fault.item)
        (λ r f. decides_first (uses_of_slices slices (instance_tree x)) (flat_map (uses_of_slices slices) (map instance_tree (drop (i + 1) xs))) all instances_split r fault.item f) h

-- the modes of a slice, where the instance is of its module, and where it is of another
pub slice_used : (at : FlatInstance) (x : Placed) → x.owner.now ≡ at.module_name →
    modes_from at.place (declared_tree x.declared.now) (x.item + 1) (map mode_tree x.slice.now.modes) ≡ uses_of_slice at (seen_placed x)
slice_used at x same =
    let t : same_text x.owner.now at.module_name ≡ true = subst (λ n. same_text x.owner.now n ≡ true) same (same_text_refl x.owner.now) in
    ap (λ n. modes_from at.place (declared_tree x.declared.now) n (map mode_tree x.slice.now.modes)) (one_more x.item)
    ∙ sym (ap (λ b. if b then modes_from at.place (declared_tree x.declared.now) (suc x.item) (map mode_tree x.slice.now.modes) else []) t)
  where
    one_more : (k : ℕ) → k + 1 ≡ suc k
    one_more k = omega arith

pub slice_passed : (at : FlatInstance) (x : Placed) → (x.owner.now ≡ at.module_name → ⊥) → [] ≡ uses_of_slice at (seen_placed x)
slice_passed at x differ =
    sym (ap (λ b. if b then modes_from at.place (declared_tree x.declared.now) (suc x.item) (map mode_tree x.slice.now.modes) else [])
    (not_true (same_text x.owner.now at.module_name) (λ t. differ (same_text_equal x.owner.now at.module_name t))))
