-- The first fault of items, step by step.
use Rattle.std.proofs.Common.{◌≡◌, ℕ, suc, ◌+◌, ◌<◌, Bool, List, [], ◌∷◌, ◌++◌, Option, Some, None, map, length, drop, get_or, refl, sym, ◌∙◌, ap, subst, append_assoc, append-nil, length-append, arith}
use Rattle.std.specs.Prelude.{◌||◌, ◌&&◌}
use Rattle.std.specs.List.{list_any}
use Rattle.smv_language.specs.Language.{Text, DeclaredTree, ProgramTree, same_text, is_among, Kind, a_formal, a_variable, an_instance, undeclared, state, input, frozen_role, find_module, opposite}
use Rattle.smv_language.specs.Scope.{a_define}
use Rattle.fault_instructions.specs.declared.instructions.ModeRule.{ModeRule}
use Rattle.fault_instructions.specs.declared.instructions.Slice.{Slice}
use Rattle.fault_instructions.specs.declared.instructions.Extension.{Extension}
use Rattle.fault_instructions.specs.Instructions.{ModeTree, SliceTree, ExtensionTree, mode_tree, slice_tree, extension_tree}
use Rattle.fault_instructions.specs.AddedNames.{own_name, mode_variable, mode_symbol}
use Rattle.fault_instructions.specs.Effects.{fault_of}
use Rattle.fault_instructions.specs.KindTypes.{type_of_kind}
use Rattle.fault_rules.specs.Sites.{OwnedSlice, owned, Site, a_slice, a_mode, mode_sites, slice_sites, extension_sites}
use Rattle.fault_rules.specs.Rules.{first_of, effect_rules, target_kind, is_not_declared, is_state_variable, is_slice_name, is_mode_name, is_affected_already, is_program_name, is_taken, state_names, states_before, owns_before, slice_adds_taken, hides_symbol, broken_at}
use Rattle.fault_rules.specs.FirstBroken.{AllKept, IsFirstBroken}
use Rattle.fault_rules.specs.KeyedLists.{with_text, with_texts, with_pair, with_pairs, is_pair_among}
use Rattle.fault_rules.specs.Locals.{variable, seen_kind}
use Rattle.fault_rules.specs.Faults.{fault_at, first_fault, owned_slices, file_slices, sites_of, slice_rule, names_of, adds_taken, mode_rule, mode_faults, mode_symbols, placed_tree, slices_in, slice_name, target_pair, IsMet, IsTaken, IsLeft}
use Rattle.fault_rules.specs.declared.fault.InstructionRule.{InstructionRule}
use Rattle.fault_rules.specs.declared.fault.InstructionRule.TheVariants.{NoSuchVariable, NotAStateVariable, DoubleSlice, DoubleMode, VariableTaken, NameTaken}
use Rattle.fault_rules.specs.declared.fault.RuleFault.{RuleFault}
use Rattle.fault_rules.specs.declared.placed.Placed.{Placed}
use Rattle.fault_rules.specs.declared.items.MetItems.{MetItems}
use Rattle.fault_rules.specs.declared.items.SliceNames.{SliceNames}
use Rattle.fault_rules.proofs.KeyedLaws.{among_with, among_texts, among_pairs, texts_more, pairs_more, map_push}
use Rattle.smv_language.proofs.ListLaws.{flat_end, drop_here, map_length}
use Rattle.smv_language.proofs.BoolLaws.{or_false, or_assoc}
use Rattle.smv_language.proofs.AmongLaws.{among_joined}

-- items after others
module _ (told : Site → Option InstructionRule) where
  pub faults_none : (n : ℕ) (ss ts : List Site) → first_fault told n ss ≡ None → first_fault told n (ss ++ ts) ≡ first_fault told (n + length ss) ts
  faults_none n [] ts h = ap (λ k. first_fault told k ts) (omega arith)
  faults_none n (s ∷ ss) ts h = go (told s) h (faults_none (n + 1) ss ts)
    where
      go : (r : Option InstructionRule) → fault_at r (n + 1) (first_fault told (n + 1) ss) ≡ None →
          (first_fault told (n + 1) ss ≡ None → first_fault told (n + 1) (ss ++ ts) ≡ first_fault told (n + 1 + length ss) ts) →
          fault_at r (n + 1) (first_fault told (n + 1) (ss ++ ts)) ≡ first_fault told (n + suc (length ss)) ts
      go None h more = more h ∙ ap (λ k. first_fault told k ts) (omega arith)
      go (Some r) h more = cc

  pub faults_some : (n : ℕ) (ss ts : List Site) (f : RuleFault) → first_fault told n ss ≡ Some f → first_fault told n (ss ++ ts) ≡ Some f
  faults_some n [] ts f h = cc
  faults_some n (s ∷ ss) ts f h = go (told s) h (faults_some (n + 1) ss ts f)
    where
      go : (r : Option InstructionRule) → fault_at r (n + 1) (first_fault told (n + 1) ss) ≡ Some f → (first_fault told (n + 1) ss ≡ Some f → first_fault told (n + 1) (ss ++ ts) ≡ Some f) →
          fault_at r (n + 1) (first_fault told (n + 1) (ss ++ ts)) ≡ Some f
      go None h more = more h
      go (Some r) h more = h

  pub all_kept : (n : ℕ) (ss : List Site) → first_fault told n ss ≡ None → AllKept told ss
  all_kept n [] h = tt
  all_kept n (s ∷ ss) h = go (told s) refl h (all_kept (n + 1) ss)
    where
      go : (r : Option InstructionRule) → told s ≡ r → fault_at r (n + 1) (first_fault told (n + 1) ss) ≡ None → (first_fault told (n + 1) ss ≡ None → AllKept told ss) → AllKept told (s ∷ ss)
      go None e h more = (e, more h)
      go (Some r) e h more = cc

  -- the first fault after a number of items
  record IsFound (n : ℕ) (ss : List Site) (f : RuleFault) : Type 0 where
    pub before : List Site
    pub site : Site
    pub after : List Site
    pub in_order : ss ≡ before ++ site ∷ after
    pub kept_before : AllKept told before
    pub broken : told site ≡ Some f.rule
    pub at_item : f.item ≡ n + suc (length before)

  found : (n : ℕ) (ss : List Site) (f : RuleFault) → first_fault told n ss ≡ Some f → IsFound n ss f
  found n [] f h = absurd cc
  found n (s ∷ ss) f h = go (told s) refl h (found (n + 1) ss f)
    where
      go : (r : Option InstructionRule) → told s ≡ r → fault_at r (n + 1) (first_fault told (n + 1) ss) ≡ Some f → (first_fault told (n + 1) ss ≡ Some f → IsFound (n + 1) ss f) → IsFound n (s ∷ ss) f
      go None e h more =
          let rest : IsFound (n + 1) ss f = more h in
          record {
            before = s ∷ rest.before;
            site = rest.site;
            after = rest.after;
            in_order = ap (λ ts. s ∷ ts) rest.in_order;
            kept_before = (e, rest.kept_before);
            broken = rest.broken;
            at_item = let at : f.item ≡ (n + 1) + suc (length rest.before) = rest.at_item in omega arith;
          }
      go (Some r) e h more =
          let same : record { rule = r; item = n + 1 } ≡ f = cc in
          record {
            before = [];
            site = s;
            after = ss;
            in_order = refl;
            kept_before = tt;
            broken = e ∙ ap (λ (g : RuleFault). Some g.rule) same;
            at_item = sym (ap (λ (g : RuleFault). g.item) same);
          }

  pub first_broken : (ss : List Site) (f : RuleFault) → first_fault told 0 ss ≡ Some f → IsFirstBroken told ss f.rule f.item
  first_broken ss f h =
      let it : IsFound 0 ss f = found 0 ss f h in
      record {
        before = it.before;
        site = it.site;
        after = it.after;
        in_order = it.in_order;
        kept_before = it.kept_before;
        broken = it.broken;
        at_item = let at : f.item ≡ 0 + suc (length it.before) = it.at_item in omega arith;
      }

-- what is left, one piece on
module _ (p : ProgramTree) (old now : MetItems) (all sites rest : List Site) (slices more more_left : List OwnedSlice) where
  pub left_next : (new : MetItems) → IsLeft p old now all (sites ++ rest) slices (more ++ more_left) → IsTaken p now.last now new sites more → IsLeft p old new all rest slices more_left
  left_next new left taken = record {
    faults = ap (λ k. first_fault (broken_at p) k rest) taken.last ∙ sym (faults_none (broken_at p) now.last sites rest taken.kept) ∙ left.faults;
    last =
        let a : new.last ≡ now.last + length sites = taken.last in
        let b : now.last + length (sites ++ rest) ≡ old.last + length all = left.last in
        let c : length (sites ++ rest) ≡ length sites + length rest = length-append sites rest in omega arith;
    slices_are = ap (λ xs. xs ++ more_left) taken.slices_are ∙ append_assoc (slices_in now) more more_left ∙ left.slices_are;
    met = taken.met;
  }

  pub left_stops : (f : RuleFault) → IsLeft p old now all (sites ++ rest) slices (more ++ more_left) → first_fault (broken_at p) now.last sites ≡ Some f → first_fault (broken_at p) old.last all ≡ Some f
  left_stops f left told = sym left.faults ∙ faults_some (broken_at p) now.last sites rest f told

-- the items of one slice before those of others
pub slice_first : (before : List OwnedSlice) (owner : Text) (s : SliceTree) (ss : List SliceTree) →
    slice_sites before owner (s ∷ ss) ≡ slice_sites before owner (s ∷ []) ++ slice_sites (before ++ owned owner s ∷ []) owner ss
slice_first before owner s ss =
    ap (λ ts. a_slice before (owned owner s) ∷ (ts ++ slice_sites (before ++ owned owner s ∷ []) owner ss)) (sym (append-nil (mode_sites before (owned owner s) [] s.modes)))

-- the modes of a slice, by names and symbols or by the slices before
module _ (p : ProgramTree) (before : List OwnedSlice) (o : OwnedSlice) (owns : List Text) (owns_same : (x : Text) → is_among owns x ≡ is_among (owns_before (before ++ o ∷ [])) x) where
  taken_same : (ss ss' os os' : List Text) (x : Text) → is_among ss x ≡ is_among ss' x → is_among os x ≡ is_among os' x → is_taken p ss os x ≡ is_taken p ss' os' x
  taken_same ss ss' os os' x s e = λ i. is_program_name p x || (s i || e i)

  names_push : (earlier : List ModeTree) (m : ModeTree) (x : Text) → is_mode_name (earlier ++ m ∷ []) x ≡ (is_mode_name earlier x || same_text m.name x)
  names_push [] m x = or_false (same_text m.name x)
  names_push (e ∷ es) m x = ap (λ b. same_text e.name x || b) (names_push es m x) ∙ sym (or_assoc (same_text e.name x) (is_mode_name es x) (same_text m.name x))

  states_push : (earlier : List ModeTree) (m : ModeTree) →
      states_before before ++ state_names o.slice.name (earlier ++ m ∷ []) ≡ (states_before before ++ state_names o.slice.name earlier) ++ mode_symbol o.slice.name (Some m.name) ∷ []
  states_push earlier m =
      ap (λ xs. states_before before ++ mode_variable o.slice.name ∷ mode_symbol o.slice.name None ∷ xs) (map_push (λ n. mode_symbol o.slice.name (Some n.name)) earlier m)
      ∙ sym (append_assoc (states_before before) (state_names o.slice.name earlier) (mode_symbol o.slice.name (Some m.name) ∷ []))

  pub modes_are : (states names : List Text) (earlier ms : List ModeTree) (n : ℕ) →
      ((x : Text) → is_among states x ≡ is_among (states_before before ++ state_names o.slice.name earlier) x) → ((x : Text) → is_among names x ≡ is_mode_name earlier x) →
      mode_faults p owns o.slice.name (type_of_kind (target_kind p o)) states names n ms ≡ first_fault (broken_at p) n (mode_sites before o earlier ms)
  modes_are states names earlier [] n states_same names_same = refl
  modes_are states names earlier (m ∷ ms) n states_same names_same =
      λ i. fault_at (same_rule i) (n + 1) (modes_are (with_text states (mode_symbol o.slice.name (Some m.name))) (with_text names m.name) (earlier ++ m ∷ []) ms (n + 1) states_after names_after i)
    where
      same_rule : mode_rule p owns o.slice.name (type_of_kind (target_kind p o)) states names m ≡ broken_at p (a_mode before o earlier m)
      same_rule = λ i.
          first_of ((names_same m.name i, DoubleMode)
          ∷ (effect_rules (fault_of m.effect (type_of_kind (target_kind p o)))
          ++ (taken_same states (states_before before ++ state_names o.slice.name earlier) owns (owns_before (before ++ o ∷ [])) (mode_symbol o.slice.name (Some m.name)) (states_same (mode_symbol o.slice.name (Some m.name))) (owns_same (mode_symbol o.slice.name (Some m.name))) i, NameTaken) ∷ []))

      states_after : (x : Text) → is_among (with_text states (mode_symbol o.slice.name (Some m.name))) x ≡ is_among (states_before before ++ state_names o.slice.name (earlier ++ m ∷ [])) x
      states_after x =
          among_with states (mode_symbol o.slice.name (Some m.name)) x ∙ ap (λ b. b || same_text (mode_symbol o.slice.name (Some m.name)) x) (states_same x)
          ∙ ap (λ b. is_among (states_before before ++ state_names o.slice.name earlier) x || b) (sym (or_false (same_text (mode_symbol o.slice.name (Some m.name)) x)))
          ∙ sym (among_joined (states_before before ++ state_names o.slice.name earlier) (mode_symbol o.slice.name (Some m.name) ∷ []) x) ∙ ap (λ xs. is_among xs x) (sym (states_push earlier m))

      names_after : (x : Text) → is_among (with_text names m.name) x ≡ is_mode_name (earlier ++ m ∷ []) x
      names_after x = among_with names m.name x ∙ ap (λ b. b || same_text m.name x) (names_same x) ∙ sym (names_push earlier m x)

-- a slice's item, by what is met or by the slices before
among_mapped : {A : Type 0} (f : A → Text) (xs : List A) (x : Text) → is_among (map f xs) x ≡ list_any (λ a. same_text (f a) x) xs
among_mapped f [] x = refl
among_mapped f (y ∷ xs) x = ap (λ b. same_text (f y) x || b) (among_mapped f xs x)

pairs_mapped : (before : List OwnedSlice) (o : OwnedSlice) → is_pair_among (map target_pair before) (target_pair o) ≡ is_affected_already before o
pairs_mapped [] o = refl
pairs_mapped (b ∷ before) o = ap (λ a. (same_text b.owner o.owner && same_text b.slice.target o.slice.target) || a) (pairs_mapped before o)

module _ (met : MetItems) (is : IsMet met) where
  pub states_have : (x : Text) → is_among met.states x ≡ is_among (states_before (slices_in met)) x
  states_have x = ap (λ xs. is_among xs x) is.states ∙ among_texts [] (states_before (slices_in met)) x

  pub owns_have : (x : Text) → is_among met.owns x ≡ is_among (owns_before (slices_in met)) x
  owns_have x = ap (λ xs. is_among xs x) is.owns ∙ among_texts [] (owns_before (slices_in met)) x

  slice_names_have : (x : Text) → is_among met.slices x ≡ is_slice_name (slices_in met) x
  slice_names_have x = ap (λ xs. is_among xs x) is.slices ∙ among_texts [] (map slice_name (slices_in met)) x ∙ among_mapped slice_name (slices_in met) x

  targets_have : (o : OwnedSlice) → is_pair_among met.targets (target_pair o) ≡ is_affected_already (slices_in met) o
  targets_have o = ap (λ ps. is_pair_among ps (target_pair o)) is.targets ∙ among_pairs [] (map target_pair (slices_in met)) (target_pair o) ∙ pairs_mapped (slices_in met) o

  pub owns_pushed : (o : OwnedSlice) (x : Text) → is_among (met.owns ++ own_name o.slice.target ∷ []) x ≡ is_among (owns_before (slices_in met ++ o ∷ [])) x
  owns_pushed o x =
      among_joined met.owns (own_name o.slice.target ∷ []) x ∙ ap (λ b. b || is_among (own_name o.slice.target ∷ []) x) (owns_have x)
      ∙ sym (among_joined (owns_before (slices_in met)) (own_name o.slice.target ∷ []) x) ∙ ap (λ xs. is_among xs x) (sym (map_push (λ b. own_name b.slice.target) (slices_in met) o))

  own_pushed : (o : OwnedSlice) (x : Text) → (is_among met.owns x || same_text (own_name o.slice.target) x) ≡ is_among (owns_before (slices_in met ++ o ∷ [])) x
  own_pushed o x = ap (λ b. is_among met.owns x || b) (sym (or_false (same_text (own_name o.slice.target) x))) ∙ sym (among_joined met.owns (own_name o.slice.target ∷ []) x) ∙ owns_pushed o x

  adds_same : (p : ProgramTree) (o : OwnedSlice) → adds_taken p met.states met.owns (names_of o.slice) ≡ slice_adds_taken p (slices_in met) o
  adds_same p o = λ i.
      (is_program_name p (own_name o.slice.target) || own_free i)
      || ((is_program_name p (mode_variable o.slice.name) || (states_have (mode_variable o.slice.name) i || own_pushed o (mode_variable o.slice.name) i))
      || (is_program_name p (mode_symbol o.slice.name None) || (states_have (mode_symbol o.slice.name None) i || own_pushed o (mode_symbol o.slice.name None) i)))
    where
      own_free : is_among met.states (own_name o.slice.target) ≡ (is_among (states_before (slices_in met)) (own_name o.slice.target) || is_among [] (own_name o.slice.target))
      own_free = states_have (own_name o.slice.target) ∙ sym (or_false (is_among (states_before (slices_in met)) (own_name o.slice.target)))

  typed_rule : (p : ProgramTree) (o : OwnedSlice) (k : Kind) (type : DeclaredTree) (double affected taken : Bool) → seen_kind k ≡ Some (variable type) →
      first_of ((is_not_declared k, NoSuchVariable) ∷ (opposite (is_state_variable k), NotAStateVariable) ∷ (double, DoubleSlice) ∷ (affected, VariableTaken)
      ∷ (taken || hides_symbol (find_module p o.owner) (type_of_kind k), NameTaken) ∷ []) ≡ slice_rule double affected taken (hides_symbol (find_module p o.owner) type)
  typed_rule p o undeclared type double affected taken h = cc
  typed_rule p o (a_formal j) type double affected taken h = cc
  typed_rule p o (a_define e) type double affected taken h = cc
  typed_rule p o (an_instance m actuals) type double affected taken h = cc
  typed_rule p o (a_variable input t) type double affected taken h = cc
  typed_rule p o (a_variable frozen_role t) type double affected taken h = cc
  typed_rule p o (a_variable state t) type double affected taken h = let e : t ≡ type = cc in ap (λ u. slice_rule double affected taken (hides_symbol (find_module p o.owner) u)) e

  -- the rule that a slice breaks, where its target is a variable
  pub slice_broken : (p : ProgramTree) (o : OwnedSlice) (type : DeclaredTree) → seen_kind (target_kind p o) ≡ Some (variable type) →
      slice_rule (is_among met.slices o.slice.name) (is_pair_among met.targets (target_pair o)) (adds_taken p met.states met.owns (names_of o.slice)) (hides_symbol (find_module p o.owner) type)
      ≡ broken_at p (a_slice (slices_in met) o)
  slice_broken p o type h =
      (λ i. slice_rule (slice_names_have o.slice.name i) (targets_have o i) (adds_same p o i) (hides_symbol (find_module p o.owner) type))
      ∙ sym (typed_rule p o (target_kind p o) type (is_slice_name (slices_in met) o.slice.name) (is_affected_already (slices_in met) o) (slice_adds_taken p (slices_in met) o) h)

module _ (old new : MetItems) (o : OwnedSlice) (is : IsMet old) (slices_are : slices_in new ≡ slices_in old ++ o ∷ []) where
  pub met_after : new.states ≡ with_texts old.states (state_names o.slice.name o.slice.modes) → new.owns ≡ with_text old.owns (own_name o.slice.target) →
      new.slices ≡ with_text old.slices o.slice.name → new.targets ≡ with_pair old.targets (target_pair o) → IsMet new
  met_after states owns slices targets = record {
    states = states ∙ ap (λ xs. with_texts xs (state_names o.slice.name o.slice.modes)) is.states ∙ sym (texts_more [] (states_before (slices_in old)) (state_names o.slice.name o.slice.modes))
        ∙ ap (with_texts []) (sym (flat_end (λ b. state_names b.slice.name b.slice.modes) (slices_in old) o)) ∙ ap (λ os. with_texts [] (states_before os)) (sym slices_are);
    owns = owns ∙ ap (λ xs. with_text xs (own_name o.slice.target)) is.owns ∙ sym (texts_more [] (owns_before (slices_in old)) (own_name o.slice.target ∷ []))
        ∙ ap (with_texts []) (sym (map_push (λ b. own_name b.slice.target) (slices_in old) o)) ∙ ap (λ os. with_texts [] (owns_before os)) (sym slices_are);
    slices = slices ∙ ap (λ xs. with_text xs o.slice.name) is.slices ∙ sym (texts_more [] (map slice_name (slices_in old)) (o.slice.name ∷ []))
        ∙ ap (with_texts []) (sym (map_push slice_name (slices_in old) o)) ∙ ap (λ os. with_texts [] (map slice_name os)) (sym slices_are);
    targets = targets ∙ ap (λ xs. with_pair xs (target_pair o)) is.targets ∙ sym (pairs_more [] (map target_pair (slices_in old)) (target_pair o ∷ []))
        ∙ ap (with_pairs []) (sym (map_push target_pair (slices_in old) o)) ∙ ap (λ os. with_pairs [] (map target_pair os)) (sym slices_are);
  }

-- the items of the modes of a slice whose names are added
mode_count : (before : List OwnedSlice) (o : OwnedSlice) (earlier ms : List ModeTree) → length (mode_sites before o earlier ms) ≡ length ms
mode_count before o earlier [] = refl
mode_count before o earlier (m ∷ ms) = ap suc (mode_count before o (earlier ++ m ∷ []) ms)

pub modes_last : (before : List OwnedSlice) (o : OwnedSlice) (ms : List ModeRule) (n last : ℕ) → last ≡ n + length ms → last ≡ n + length (mode_sites before o [] (map mode_tree ms))
modes_last before o ms n last e = e ∙ ap (λ k. n + k) (sym (mode_count before o [] (map mode_tree ms) ∙ map_length mode_tree ms))

module _ (p : ProgramTree) (old : MetItems) (is : IsMet old) (o : OwnedSlice) (names : SliceNames) (named : names ≡ names_of o.slice) (states owns : List Text)
    (with_states : states ≡ with_texts old.states (names.switch ∷ names.nominal ∷ [])) (with_own : owns ≡ with_text old.owns names.own) where
  places_states : states ≡ with_texts old.states (mode_variable o.slice.name ∷ mode_symbol o.slice.name None ∷ [])
  places_states = with_states ∙ ap (λ (n : SliceNames). with_texts old.states (n.switch ∷ n.nominal ∷ [])) named

  places_own : owns ≡ with_text old.owns (own_name o.slice.target)
  places_own = with_own ∙ ap (λ (n : SliceNames). with_text old.owns n.own) named

  owns_same : (x : Text) → is_among owns x ≡ is_among (owns_before (slices_in old ++ o ∷ [])) x
  owns_same x = ap (λ xs. is_among xs x) places_own ∙ among_with old.owns (own_name o.slice.target) x ∙ own_pushed old is o x

  states_same : (x : Text) → is_among states x ≡ is_among (states_before (slices_in old) ++ state_names o.slice.name []) x
  states_same x =
      ap (λ xs. is_among xs x) places_states ∙ among_texts old.states (state_names o.slice.name []) x ∙ ap (λ b. b || is_among (state_names o.slice.name []) x) (states_have old is x)
      ∙ sym (among_joined (states_before (slices_in old)) (state_names o.slice.name []) x)

  pub place_faults : (type : DeclaredTree) (n : ℕ) (ms : List ModeTree) → type ≡ type_of_kind (target_kind p o) →
      mode_faults p owns o.slice.name type states [] n ms ≡ first_fault (broken_at p) n (mode_sites (slices_in old) o [] ms)
  place_faults type n ms t = ap (λ u. mode_faults p owns o.slice.name u states [] n ms) t ∙ modes_are p (slices_in old) o owns owns_same states [] [] ms n states_same (λ x. refl)

  pub place_met : (new : MetItems) → slices_in new ≡ slices_in old ++ o ∷ [] → new.states ≡ with_texts states (mode_symbols o.slice.name o.slice.modes) → new.owns ≡ owns →
      new.slices ≡ with_text old.slices o.slice.name → new.targets ≡ with_pair old.targets (target_pair o) → IsMet new
  place_met new slices_are more_states same_owns slices targets =
      met_after old new o is slices_are
      (more_states ∙ ap (λ xs. with_texts xs (mode_symbols o.slice.name o.slice.modes)) places_states
      ∙ sym (texts_more old.states (mode_variable o.slice.name ∷ mode_symbol o.slice.name None ∷ []) (mode_symbols o.slice.name o.slice.modes)))
      (same_owns ∙ places_own) slices targets

pub placed_more : (old new : List Placed) (placed : Placed) → new ≡ old ++ placed ∷ [] → map placed_tree new ≡ map placed_tree old ++ placed_tree placed ∷ []
placed_more old new placed e = ap (map placed_tree) e ∙ map_push placed_tree old placed

-- the loops over slices and over EXTENSIONS, one on
module _ (p : ProgramTree) (old now : MetItems) (owner : Text) (all : List Site) (file : List OwnedSlice) (xs : List Slice) (i : ℕ) (x : Slice) (below : i < length xs) (here : x ≡ get_or xs i x) where
  abbrev later : List SliceTree
  later = map slice_tree (drop (i + 1) xs)

  slices_left : IsLeft p old now all (slice_sites (slices_in now) owner (map slice_tree (drop i xs))) file (map (owned owner) (map slice_tree (drop i xs))) →
      IsLeft p old now all (slice_sites (slices_in now) owner (slice_tree x ∷ []) ++ slice_sites (slices_in now ++ owned owner (slice_tree x) ∷ []) owner later) file ((owned owner (slice_tree x) ∷ []) ++ map (owned owner) later)
  slices_left left =
      subst (λ sites. IsLeft p old now all sites file (owned owner (slice_tree x) ∷ map (owned owner) later)) (slice_first (slices_in now) owner (slice_tree x) later)
      (subst (λ ys. IsLeft p old now all (slice_sites (slices_in now) owner (map slice_tree ys)) file (map (owned owner) (map slice_tree ys))) (drop_here xs i x below here) left)

  pub slices_next : (new : MetItems) → IsLeft p old now all (slice_sites (slices_in now) owner (map slice_tree (drop i xs))) file (map (owned owner) (map slice_tree (drop i xs))) →
      IsTaken p now.last now new (slice_sites (slices_in now) owner (slice_tree x ∷ [])) (owned owner (slice_tree x) ∷ []) → IsLeft p old new all (slice_sites (slices_in new) owner later) file (map (owned owner) later)
  slices_next new left taken =
      subst (λ before. IsLeft p old new all (slice_sites before owner later) file (map (owned owner) later)) (sym taken.slices_are)
      (left_next p old now all (slice_sites (slices_in now) owner (slice_tree x ∷ [])) (slice_sites (slices_in now ++ owned owner (slice_tree x) ∷ []) owner later) file (owned owner (slice_tree x) ∷ []) (map (owned owner) later) new
      (slices_left left) taken)

  pub slices_stop : (f : RuleFault) → IsLeft p old now all (slice_sites (slices_in now) owner (map slice_tree (drop i xs))) file (map (owned owner) (map slice_tree (drop i xs))) →
      first_fault (broken_at p) now.last (slice_sites (slices_in now) owner (slice_tree x ∷ [])) ≡ Some f → first_fault (broken_at p) old.last all ≡ Some f
  slices_stop f left told =
      left_stops p old now all (slice_sites (slices_in now) owner (slice_tree x ∷ [])) (slice_sites (slices_in now ++ owned owner (slice_tree x) ∷ []) owner later) file (owned owner (slice_tree x) ∷ []) (map (owned owner) later) f
      (slices_left left) told

module _ (p : ProgramTree) (old now : MetItems) (all : List Site) (file : List OwnedSlice) (xs : List Extension) (i : ℕ) (x : Extension) (below : i < length xs) (here : x ≡ get_or xs i x) where
  abbrev others : List ExtensionTree
  others = map extension_tree (drop (i + 1) xs)

  extensions_left : IsLeft p old now all (extension_sites (slices_in now) (map extension_tree (drop i xs))) file (file_slices (map extension_tree (drop i xs))) →
      IsLeft p old now all (sites_of (slices_in now) (extension_tree x) ++ extension_sites (slices_in now ++ owned_slices (extension_tree x)) others) file (owned_slices (extension_tree x) ++ file_slices others)
  extensions_left left = subst (λ ys. IsLeft p old now all (extension_sites (slices_in now) (map extension_tree ys)) file (file_slices (map extension_tree ys))) (drop_here xs i x below here) left

  pub extensions_next : (new : MetItems) → IsLeft p old now all (extension_sites (slices_in now) (map extension_tree (drop i xs))) file (file_slices (map extension_tree (drop i xs))) →
      IsTaken p now.last now new (sites_of (slices_in now) (extension_tree x)) (owned_slices (extension_tree x)) → IsLeft p old new all (extension_sites (slices_in new) others) file (file_slices others)
  extensions_next new left taken =
      subst (λ before. IsLeft p old new all (extension_sites before others) file (file_slices others)) (sym taken.slices_are)
      (left_next p old now all (sites_of (slices_in now) (extension_tree x)) (extension_sites (slices_in now ++ owned_slices (extension_tree x)) others) file (owned_slices (extension_tree x)) (file_slices others) new
      (extensions_left left) taken)

  pub extensions_stop : (f : RuleFault) → IsLeft p old now all (extension_sites (slices_in now) (map extension_tree (drop i xs))) file (file_slices (map extension_tree (drop i xs))) →
      first_fault (broken_at p) now.last (sites_of (slices_in now) (extension_tree x)) ≡ Some f → first_fault (broken_at p) old.last all ≡ Some f
  extensions_stop f left told =
      left_stops p old now all (sites_of (slices_in now) (extension_tree x)) (extension_sites (slices_in now ++ owned_slices (extension_tree x)) others) file (owned_slices (extension_tree x)) (file_slices others) f
      (extensions_left left) told

-- the whole file
pub file_kept : (p q : ProgramTree) (n : ℕ) (before : List OwnedSlice) (xs : List ExtensionTree) → q ≡ p → n ≡ 0 → before ≡ [] → first_fault (broken_at q) n (extension_sites before xs) ≡ None →
    AllKept (broken_at p) (extension_sites [] xs)
file_kept p q n before xs same from none kept =
    all_kept (broken_at p) 0 (extension_sites [] xs) (subst (λ r. first_fault (broken_at r) 0 (extension_sites [] xs) ≡ None) same
    (subst (λ k. first_fault (broken_at q) k (extension_sites [] xs) ≡ None) from (subst (λ b. first_fault (broken_at q) n (extension_sites b xs) ≡ None) none kept)))

pub file_broken : (p q : ProgramTree) (n : ℕ) (before : List OwnedSlice) (xs : List ExtensionTree) (f : RuleFault) → q ≡ p → n ≡ 0 → before ≡ [] →
    first_fault (broken_at q) n (extension_sites before xs) ≡ Some f → IsFirstBroken (broken_at p) (extension_sites [] xs) f.rule f.item
file_broken p q n before xs f same from none told =
    first_broken (broken_at p) (extension_sites [] xs) f (subst (λ r. first_fault (broken_at r) 0 (extension_sites [] xs) ≡ Some f) same
    (subst (λ k. first_fault (broken_at q) k (extension_sites [] xs) ≡ Some f) from (subst (λ b. first_fault (broken_at q) n (extension_sites b xs) ≡ Some f) none told)))
