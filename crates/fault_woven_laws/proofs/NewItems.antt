-- The rules on names at the items that slices add.
use Rattle.std.proofs.Common.{◌≡◌, inl, inr, Bool, true, false, ◌||◌, List, [], ◌∷◌, Option, Some, None, refl, sym, ◌∙◌, ap, subst}
use Rattle.std.specs.Prelude.{ℤ, IsTrue}
use Rattle.smv_language.specs.declared.expr.Op.TheVariants as op
use Rattle.smv_language.specs.declared.program.Member.{Member}
use Rattle.smv_language.specs.declared.program.Member.TheVariants as member
use Rattle.smv_language.specs.declared.program.Moment.{Moment}
use Rattle.smv_language.specs.declared.program.Moment.TheVariants.{Always, First, After}
use Rattle.smv_language.specs.Language.{binary, Text, Path, Formula, DeclaredTree, boolean, range, members, instance, ModuleTree, ProgramTree, IsType, Value, symbol, same_text, Place, state, a_variable, undeclared, kind_in, kind_at, module_at, is_symbol, is_symbol_of_members, Each, AtSome, IsInstance, in_domain, is_member}
use Rattle.smv_language.specs.Values.{truth, number}
use Rattle.smv_language.proofs.ValueLaws.{same_text_refl, same_text_equal}
use Rattle.smv_flat_laws.specs.Items.{a_declaration, an_assignment, an_init, a_trans}
use Rattle.smv_flat_laws.specs.NameResolution.{leaves_in, has_next}
use Rattle.smv_flat_laws.specs.Rules.{Rule, no_such_name, next_here, input_here, HasNoValue, may_be_assigned, next_under_next, leaves_under, GivesInput}
use Rattle.smv_flat_laws.proofs.Lists.{each_more}
use Rattle.fault_instructions.specs.declared.instructions.Start.{Start}
use Rattle.fault_instructions.specs.declared.instructions.Start.TheVariants.{Nominal, Any}
use Rattle.fault_instructions.specs.Instructions.{EffectTree, ModeTree, SliceTree, InstructionTree, slices_of}
use Rattle.fault_instructions.specs.AddedNames.{ModeState, own_name, mode_variable, mode_symbol}
use Rattle.fault_instructions.specs.EffectForms.{Branch, the_constant, the_formula, the_opposite, the_sum, any_value}
use Rattle.fault_instructions.specs.Effects.{branch_of}
use Rattle.fault_instructions.specs.Types.{IsKnown, IsBoolean, IsRange}
use Rattle.fault_instructions.specs.Templates.{named, number_tree, value_tree, branch, branch_tree, greater_tree, stands, erroneous_rule, frozen_rule, pick_rule, ramp_rule, frozen_first, ramp_first}
use Rattle.fault_weave.specs.WovenProgram.{mode_type, start_tree, entries, stay_branch, moves_tree, read_tree, guard_formula, woven}
use Rattle.fault_instructions.specs.KindTypes.{type_of_kind}
use Rattle.fault_instructions.specs.Weavable.{Among, IsFreeMember, SymbolsAreFree, IsAllowed, IsLawfulMode, IsLawfulSlice, IsWeavable}
use Rattle.fault_instructions.proofs.AmongLaws.{each_at}
use Rattle.fault_instructions.proofs.EffectRows.{BranchAsks, BranchHolds, row_law}
use Rattle.fault_woven_laws.proofs.Effects.{of_followed}
use Rattle.fault_weave.proofs.Added.{slices_symbol, woven_symbol}
use Rattle.fault_weave.proofs.Declared.{or_true, variable_symbol}
use Rattle.fault_weave.proofs.LeafValues.{instance_among, own_variable, mode_variable_kind, symbol_kind, read_variable}
use Rattle.fault_weave.proofs.Meanings.{Kept, kind_kept, symbol_stays}
use Rattle.fault_weave.proofs.WovenSlices.{mode_known}
use Rattle.fault_extend_laws.specs.Expressions.{followed, SomeBreaks}
use Rattle.fault_woven_laws.proofs.Orders.{none_some}
use Rattle.fault_woven_laws.proofs.WovenNamesItems.{OfRules, OfSlice}
use Rattle.fault_woven_laws.proofs.WovenNamesLeaves.{none_under}
use Rattle.fault_woven_laws.proofs.Looking.{Valued, Quiet, type_finite, still_valued, still_quiet, variable_valued, variable_quiet, symbol_valued, symbol_quiet}
use Rattle.fault_woven_laws.proofs.OldItems.{ItemKept, state_assigned, finite_kind}
use Rattle.fault_woven_laws.proofs.WovenNamesUses.{KeepsMode}
use Rattle.fault_woven_laws.proofs.Clean.{Clean, CleanBranches, clean_name, clean_truth, clean_not, clean_binary, clean_clipped, clean_greater, clean_number, IsGoodMember, IsGoodType, clean_domain, clean_modes, clean_one, clean_symbols, clean_stay, clean_entries}
use Rattle.std.proofs.lemmas.Bool.{false_from_ne_true as not_true}
use Rattle.smv_flat_laws.proofs.KindLaws.{with_both}
use Rattle.smv_language.proofs.EachLaws.{each_not}

module _ (q : ProgramTree) (at : Place) where
  -- a name that has a value and gives no input
  abbrev pub IsGood : Path → Type 0
  IsGood name = Valued q at name × Quiet q at name

  all_valued : (names : List Path) → Each (Valued q at) names → AtSome (HasNoValue q at) names → ⊥
  all_valued names h = none_some (HasNoValue q at) names h

  all_good : (names : List Path) → Each IsGood names → (AtSome (HasNoValue q at) names → ⊥) × (AtSome (GivesInput q at) names → ⊥)
  all_good names h = (none_some (HasNoValue q at) names (each_more IsGood (Valued q at) names (λ name g. g.0) h), none_some (GivesInput q at) names (each_more IsGood (Quiet q at) names (λ name g. g.1) h))

  not_free : (b : Bool) → b ≡ false → IsTrue b → ⊥
  not_free b h k = let bad : false ≡ true = sym h ∙ k in cc

  type_kept : (name : Text) (type : DeclaredTree) → IsType type → ItemKept q at (a_declaration state (record { name = name; what = type }))
  type_kept name boolean h = record { names = λ b. b; target = λ b. b; loops = λ b. b; next = λ b. cc; inputs = λ b. b }
  type_kept name (range lo hi) h = record { names = λ b. b; target = λ b. b; loops = λ b. b; next = λ b. cc; inputs = λ b. b }
  type_kept name (members ms) h = record { names = λ b. b; target = λ b. b; loops = λ b. b; next = λ b. cc; inputs = λ b. b }
  type_kept name (instance m actuals) h = absurd h

  -- an assignment to a variable of the state
  may_assign : (when : Moment) (x : Text) (type : DeclaredTree) → kind_at (module_at q at) x ≡ a_variable state type → may_be_assigned when (kind_at (module_at q at) x) ≡ false → ⊥
  may_assign when x type e h = let bad : true ≡ false = sym (ap (may_be_assigned when) e ∙ state_assigned when type) ∙ h in cc

  -- of a value with no `next`, all of whose names are good
  now_kept : (x : Text) (type : DeclaredTree) (e : Formula) → kind_at (module_at q at) x ≡ a_variable state type → Clean IsGood e → ItemKept q at (an_assignment (record { when = Always; target = x ∷ []; value = e }))
  now_kept x type e kind clean = record {
    names = (all_good (leaves_in e) clean.leaves).0;
    target = may_assign Always x type kind;
    loops = λ b. b;
    next = not_free (has_next e) clean.free;
    inputs = (all_good (leaves_in e) clean.leaves).1;
  }

  first_kept : (x : Text) (type : DeclaredTree) (e : Formula) → kind_at (module_at q at) x ≡ a_variable state type → Clean IsGood e → ItemKept q at (an_assignment (record { when = First; target = x ∷ []; value = e }))
  first_kept x type e kind clean = record {
    names = (all_good (leaves_in e) clean.leaves).0;
    target = may_assign First x type kind;
    loops = λ b. b;
    next = not_free (has_next e) clean.free;
    inputs = (all_good (leaves_in e) clean.leaves).1;
  }

  -- and at the next moment, where names may give inputs
  after_kept : (x : Text) (type : DeclaredTree) (e : Formula) → kind_at (module_at q at) x ≡ a_variable state type → Clean (Valued q at) e → ItemKept q at (an_assignment (record { when = After; target = x ∷ []; value = e }))
  after_kept x type e kind clean = record {
    names = all_valued (leaves_in e) clean.leaves;
    target = may_assign After x type kind;
    loops = λ b. b;
    next = not_free (next_under_next e) (none_under e clean.free).0;
    inputs = λ b. subst (λ ls. AtSome (GivesInput q at) ls) (none_under e clean.free).1 b;
  }

  ramp_kept : (slice mode x : Text) → IsGood (mode_variable slice ∷ []) → IsGood (mode_symbol slice (Some mode) ∷ []) → IsGood (x ∷ []) → (d f : ℤ) → ItemKept q at (a_trans (ramp_rule d f slice mode x))
  ramp_kept slice mode x v s r d f =
      let floor : Formula = greater_tree (binary op.Minus (named x) (number_tree d)) f in
      let clean : Clean IsGood floor = clean_greater IsGood (binary op.Minus (named x) (number_tree d)) f (clean_binary IsGood op.Minus (named x) (number_tree d) (clean_name IsGood x r) (clean_number IsGood d)) in
      let none : (next_under_next floor ≡ false) × (leaves_under floor ≡ []) = none_under floor clean.free in
      record {
        names = (all_good (leaves_in (ramp_rule d f slice mode x)) (v, (s, (r, clean.leaves)))).0;
        target = λ b. b;
        loops = λ b. b;
        next = not_free (next_under_next (ramp_rule d f slice mode x)) none.0;
        inputs = (all_good (leaves_under (ramp_rule d f slice mode x)) (v, (r, subst (Each IsGood) (sym none.1) tt))).1;
      }

  ramp_first_kept : (slice mode x : Text) → IsGood (mode_variable slice ∷ []) → IsGood (mode_symbol slice (Some mode) ∷ []) → IsGood (x ∷ []) → IsGood (own_name x ∷ []) → (d f : ℤ) →
      ItemKept q at (an_init (ramp_first d f slice mode x))
  ramp_first_kept slice mode x v s r o d f =
      let clean : Clean IsGood (greater_tree (binary op.Minus (named (own_name x)) (number_tree d)) f) =
      clean_greater IsGood (binary op.Minus (named (own_name x)) (number_tree d)) f (clean_binary IsGood op.Minus (named (own_name x)) (number_tree d) (clean_name IsGood (own_name x) o) (clean_number IsGood d)) in
      record {
        names = (all_good (leaves_in (ramp_first d f slice mode x)) (v, (s, (r, clean.leaves)))).0;
        target = λ b. b;
        loops = λ b. b;
        next = not_free (has_next (ramp_first d f slice mode x)) clean.free;
        inputs = (all_good (leaves_in (ramp_first d f slice mode x)) (v, (s, (r, clean.leaves)))).1;
      }

  -- the rules of modes
  rules_kept : (slice mode x : Text) → IsGood (mode_variable slice ∷ []) → IsGood (mode_symbol slice (Some mode) ∷ []) → IsGood (x ∷ []) → IsGood (own_name x ∷ []) → OfRules (ItemKept q at) slice mode x
  rules_kept slice mode x v s r o = record {
    differs = record {
      names = (all_good (leaves_in (erroneous_rule slice mode x)) (v, (s, (r, (o, tt))))).0;
      target = λ b. b;
      loops = λ b. b;
      next = λ b. cc;
      inputs = (all_good (leaves_in (erroneous_rule slice mode x)) (v, (s, (r, (o, tt))))).1;
    };
    stays = record {
      names = (all_good (leaves_in (frozen_rule slice mode x)) (v, (s, (r, (r, tt))))).0;
      target = λ b. b;
      loops = λ b. b;
      next = λ b. cc;
      inputs = (all_good (leaves_under (frozen_rule slice mode x)) (v, (r, tt))).1;
    };
    picked = record {
      names = (all_good (leaves_in (pick_rule slice mode x)) (v, (s, (v, (s, (r, (r, tt))))))).0;
      target = λ b. b;
      loops = λ b. b;
      next = λ b. cc;
      inputs = (all_good (leaves_under (pick_rule slice mode x)) (v, (r, tt))).1;
    };
    ramps = λ d f. ramp_kept slice mode x v s r d f;
    stays_first = record {
      names = (all_good (leaves_in (frozen_first slice mode x)) (v, (s, (r, (o, tt))))).0;
      target = λ b. b;
      loops = λ b. b;
      next = λ b. cc;
      inputs = (all_good (leaves_in (frozen_first slice mode x)) (v, (s, (r, (o, tt))))).1;
    };
    ramps_first = λ d f. ramp_first_kept slice mode x v s r o d f;
  }

module _ (p : ProgramTree) (i : InstructionTree) (ok : IsWeavable p i) (at : Place) (m : ModuleTree) (here : IsInstance p at m) (s : SliceTree) (a : Among (slices_of i m.name) s) (keeps : Each (KeepsMode p at) s.modes) where
  lawful : IsLawfulSlice p at m s
  lawful = ok.slices at m s here a

  -- the names that the slice adds, and that of its variable
  abbrev Good : Path → Type 0
  Good = IsGood (woven p i) at

  good_variable : (x : Text) (type : DeclaredTree) → kind_at (module_at (woven p i) at) x ≡ a_variable state type → Good (x ∷ [])
  good_variable x type e = (variable_valued (woven p i) at x type e, variable_quiet (woven p i) at x type e)

  good_symbol : (x : Text) → kind_at (module_at (woven p i) at) x ≡ undeclared → is_symbol (woven p i) x ≡ true → Good (x ∷ [])
  good_symbol x e h = (symbol_valued (woven p i) at x e h, symbol_quiet (woven p i) at x e)

  own_is : kind_at (module_at (woven p i) at) (own_name s.target) ≡ a_variable state (type_of_kind (kind_in m s.target))
  own_is = own_variable p i ok at m s here a ∙ finite_kind (type_of_kind (kind_in m s.target)) (type_finite m s.target)

  mode_is : kind_at (module_at (woven p i) at) (mode_variable s.name) ≡ a_variable state (mode_type s)
  mode_is = mode_variable_kind p i ok at m s here a

  target_is : kind_at (module_at (woven p i) at) s.target ≡ a_variable state lawful.type
  target_is = read_variable p i ok at m s.target state lawful.type here lawful.target_kind

  own_good : Good (own_name s.target ∷ [])
  own_good = good_variable (own_name s.target) (type_of_kind (kind_in m s.target)) own_is

  mode_good : Good (mode_variable s.name ∷ [])
  mode_good = good_variable (mode_variable s.name) (mode_type s) mode_is

  target_good : Good (s.target ∷ [])
  target_good = good_variable s.target lawful.type target_is

  state_good : (st : ModeState) → IsKnown s st → Good (mode_symbol s.name st ∷ [])
  state_good st known =
      good_symbol (mode_symbol s.name st) (symbol_kind p i ok at m s st here a known)
      (woven_symbol p i m (mode_symbol s.name st) (instance_among p i ok at m here) (slices_symbol m (slices_of i m.name) s st a known))

  some_good : (n : ModeTree) → Among s.modes n → Good (mode_symbol s.name (Some n.name) ∷ [])
  some_good n b = state_good (Some n.name) (mode_known s s.modes n b)

  nominal_good : Good (mode_symbol s.name None ∷ [])
  nominal_good = state_good None tt

  -- the symbols of the variable's type
  free_good : (y : Text) → kind_in m y ≡ undeclared → is_symbol p y ≡ true → Good (y ∷ [])
  free_good y e h =
      let was : kind_at (module_at p at) y ≡ undeclared = ap (λ o. kind_at o y) here ∙ e in
      good_symbol y ((subst (λ k. Kept p (woven p i) y k (kind_at (module_at (woven p i) at) y)) was (kind_kept p i ok at y)).0 h) (symbol_stays p i y h)

  members_good : (ms : List Member) → Each (IsFreeMember m) ms → ((y : Text) → is_symbol_of_members ms y ≡ true → is_symbol p y ≡ true) → Each (IsGoodMember Good) ms
  members_good [] f known = tt
  members_good (member.Number n ∷ ms) f known = (tt, members_good ms f.1 known)
  members_good (member.Symbol y ∷ ms) f known =
      (free_good y f.0 (known y (or_true (same_text y y) _ (inl (same_text_refl y)))), members_good ms f.1 (λ z h. known z (or_true (same_text y z) _ (inr h))))

  type_good : (type : DeclaredTree) → kind_in m s.target ≡ a_variable state type → SymbolsAreFree m type → IsGoodType Good type
  type_good boolean e f = tt
  type_good (range lo hi) e f = tt
  type_good (instance n es) e f = tt
  type_good (members ms) e f = members_good ms f (λ y h. variable_symbol p m s.target state (members ms) y (instance_among p i ok at m here) e h)

  member_good : (ms : List Member) (y : Text) → Each (IsGoodMember Good) ms → is_member ms (symbol y) ≡ true → Good (y ∷ [])
  member_good [] y f h = cc
  member_good (member.Number n ∷ ms) y f h = member_good ms y f.1 h
  member_good (member.Symbol x ∷ ms) y f h = by_test (same_text x y) refl h (member_good ms y f.1)
    where
      by_test : (b : Bool) → same_text x y ≡ b → (b || is_member ms (symbol y)) ≡ true → (is_member ms (symbol y) ≡ true → Good (y ∷ [])) → Good (y ∷ [])
      by_test true t k more = subst (λ z. Good (z ∷ [])) (same_text_equal x y t) f.0
      by_test false t k more = more k

  constant_good : (type : DeclaredTree) (y : Text) → IsGoodType Good type → in_domain type (symbol y) ≡ true → Good (y ∷ [])
  constant_good boolean y f h = cc
  constant_good (range lo hi) y f h = cc
  constant_good (instance n es) y f h = cc
  constant_good (members ms) y f h = member_good ms y f h

  value_clean : (type : DeclaredTree) (c : Value) → IsGoodType Good type → in_domain type c ≡ true → Clean Good (value_tree c)
  value_clean type (truth b) f h = clean_truth Good b
  value_clean type (number n) f h = clean_number Good n
  value_clean type (symbol y) f h = clean_name Good y (constant_good type y f h)

  -- what a branch reads
  branch_clean : (type : DeclaredTree) (b : Branch) → IsGoodType Good type → BranchAsks (λ c. IsTrue (in_domain type c)) (IsBoolean type) (λ passes. IsRange type) b →
      BranchHolds (λ c. Unit {0}) (λ e. (r : Rule) → SomeBreaks p at false (Some e) r → ⊥) (λ n. Unit {0}) b → Clean Good (branch_tree b type s.target)
  branch_clean type (the_constant c) f allowed h = value_clean type c f allowed
  branch_clean type (the_formula e) f allowed h = record {
    leaves = with_both (Valued p at) (Quiet p at) Good (leaves_in e) (λ name v q. (still_valued p i ok at name v, still_quiet p i ok at name q)) (each_not (HasNoValue p at) (leaves_in e) (h no_such_name))
        (each_not (GivesInput p at) (leaves_in e) (λ b. h input_here (refl, b)));
    free = not_true (has_next e) (h next_here);
  }
  branch_clean type the_opposite f allowed h = clean_not Good (named (own_name s.target)) (clean_name Good (own_name s.target) own_good)
  branch_clean type (the_sum d) f allowed h =
      clean_clipped Good type (binary op.Plus (named (own_name s.target)) (number_tree d)) (clean_binary Good op.Plus (named (own_name s.target)) (number_tree d) (clean_name Good (own_name s.target) own_good) (clean_number Good d))
  branch_clean type any_value f allowed h = clean_domain Good type f

  -- what a mode of an effect reads
  effect_clean : (type : DeclaredTree) (e : EffectTree) → IsGoodType Good type → IsAllowed p at m e type → ((r : Rule) → SomeBreaks p at false (followed e) r → ⊥) → Clean Good (branch e type s.target)
  effect_clean type e f allowed h =
      branch_clean type (branch_of e) f ((row_law e).asks _ _ _ allowed.0).0
      ((row_law e).holds _ _ _ (of_followed (λ e. (r : Rule) → SomeBreaks p at false (Some e) r → ⊥) e (λ g same r. subst (λ o. SomeBreaks p at false o r → ⊥) same (h r)))).0

  stands_clean : (n : ModeTree) → Among s.modes n → Clean Good (stands s.name n.name)
  stands_clean n b = record { leaves = (mode_good, (some_good n b, tt)); free = refl }

  read_clean : Clean Good (read_tree lawful.type s)
  read_clean =
      let all : CleanBranches Good _ = clean_modes Good s.name (λ n. branch n.effect lawful.type s.target) (named (own_name s.target)) s.modes
      (λ n b. (
        stands_clean n b,
        effect_clean lawful.type n.effect (type_good lawful.type lawful.target_kind lawful.symbols_free) (each_at (IsLawfulMode p at m lawful.type) s.modes n lawful.modes b).effect_allowed
            (λ r c. each_at (KeepsMode p at) s.modes n keeps b r (inl c)),
      ))
      (clean_name Good (own_name s.target) own_good) in
      record { leaves = all.leaves; free = all.free }

  -- where modes may go
  guard_clean : (g : Option Formula) → ((r : Rule) → SomeBreaks p at true g r → ⊥) → Clean (Valued (woven p i) at) (guard_formula g)
  guard_clean None h = clean_truth (Valued (woven p i) at) true
  guard_clean (Some e) h = record {
    leaves = each_more (Valued p at) (Valued (woven p i) at) (leaves_in e) (still_valued p i ok at) (each_not (HasNoValue p at) (leaves_in e) (h no_such_name));
    free = not_true (has_next e) (h next_here);
  }

  entries_clean : Clean (Valued (woven p i) at) (entries s.name s.modes)
  entries_clean =
      clean_entries (Valued (woven p i) at) s.name _ s.modes (clean_one (Valued (woven p i) at) (mode_symbol s.name None) nominal_good.0) nominal_good.0
      (λ n b. (guard_clean n.guard (λ r c. each_at (KeepsMode p at) s.modes n keeps b r (inr c)), (some_good n b).0))

  moves_clean : Clean (Valued (woven p i) at) (moves_tree s)
  moves_clean =
      let all : CleanBranches (Valued (woven p i) at) _ = clean_modes (Valued (woven p i) at) s.name (λ n. stay_branch s.name n.dynamics n.name) (entries s.name s.modes) s.modes
      (λ n b. (record { leaves = (mode_good.0, ((some_good n b).0, tt)); free = refl }, clean_stay (Valued (woven p i) at) s.name n.dynamics n.name (some_good n b).0 nominal_good.0))
      entries_clean in
      record { leaves = all.leaves; free = all.free }

  -- where the slice may start
  start_clean : (start : Start) → Clean Good (start_tree s.name start s.modes)
  start_clean Nominal = clean_name Good (mode_symbol s.name None) nominal_good
  start_clean Any = clean_symbols Good s.name s.modes nominal_good some_good

  -- the items of the slice
  pub new_kept : OfSlice (ItemKept (woven p i) at) m s
  new_kept = record {
    own = type_kept (woven p i) at (own_name s.target) (type_of_kind (kind_in m s.target)) (type_finite m s.target);
    mode = type_kept (woven p i) at (mode_variable s.name) (mode_type s) tt;
    starts = first_kept (woven p i) at (mode_variable s.name) (mode_type s) (start_tree s.name s.start s.modes) mode_is (start_clean s.start);
    moves = after_kept (woven p i) at (mode_variable s.name) (mode_type s) (moves_tree s) mode_is moves_clean;
    read = now_kept (woven p i) at s.target lawful.type (read_tree (type_of_kind (kind_in m s.target)) s) target_is
        (subst (λ t. Clean Good (read_tree t s)) (sym (ap type_of_kind lawful.target_kind)) read_clean);
    each_rule = λ n b. rules_kept (woven p i) at s.name n.name s.target mode_good (some_good n b) target_good own_good;
  }
