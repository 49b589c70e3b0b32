-- Causes that break no rule add new names, and strike faults of the extension.
use Rattle.std.proofs.Common.{◌≡◌, ◌≢◌, ℕ, zero, suc, ◌+◌, ◌-◌, ◌^◌, ◌<◌, ◌≤◌, Bool, true, false, ◌||◌, ◌&&◌, not, eqb, eqb-true, List, [], ◌∷◌, ◌++◌, length, Some, None, refl, sym, ◌∙◌, ap, subst, arith}
use Rattle.std.specs.Prelude.{slice_get, flat_map, map, nat_lt, if◌then◌else◌}
use Rattle.std.specs.List.{list_any, IsDistinct, AllByRecursion}
use Rattle.std.proofs.lemmas.Bool.Decides.{nat_tests}
use Rattle.std.proofs.lemmas.List.{append-nil, append_assoc}
use Rattle.std.proofs.lemmas.Map.Steps.{length-le_from_distinct_below}
use Rattle.smv_language.specs.declared.program.Member.{Member}
use Rattle.smv_language.specs.declared.program.Member.TheVariants as member
use Rattle.smv_language.specs.Language.{Text, Path, DeclaredTree, boolean, range, members, instance, DeclTree, SectionTree, var, ivar, frozen as frozen_section, define, constants, assign, init, invar, trans, ModuleTree, ProgramTree, Role, state, input, frozen_role, is_symbol_of_type, is_symbol_of_members, same_text, is_among, Each, IsVariable, EachBoth, FlatVariable, FlatModel, IsName}
use Rattle.smv_language.proofs.ValueLaws.{same_text_refl}
use Rattle.smv_flat_laws.specs.History.{Mode}
use Rattle.smv_flat_laws.specs.Items.{Item, a_declaration, a_definition, an_assignment, some_constants, an_init, an_invar, a_trans, items_of_section, items_of}
use Rattle.smv_flat_laws.specs.Model.{symbols_of_members, symbols_of_type, symbols_of_item, first_appearances, symbols_of, IsFlatOf}
use Rattle.smv_flat_laws.specs.Rules.{IsAccepted}
use Rattle.smv_flat_laws.proofs.Conditions.{each_at, each_join}
use Rattle.smv_flat_laws.proofs.Lists.{each_more}
use Rattle.smv_flat_laws.proofs.Places.{In}
use Rattle.smv_flat_laws.proofs.Variables.{DeclaredAs}
use Rattle.cut_text_laws.proofs.FlatPlaces.{module_in, variable_there, variable_declared_as}
use Rattle.fault_weave.specs.Faults.{Fault}
use Rattle.fault_rules.specs.Rules.{is_name_of_decls, is_name_of_section, is_name_of_module, is_program_name}
use Rattle.fault_cause_laws.specs.Causes.{CommonCause, IsCauseOf}
use Rattle.fault_cause_laws.specs.CausesText.{WrittenCause}
use Rattle.fault_cause_laws.specs.StagedModel.{age_name, event_name, quiet_name, now_name, hit_name, own_name, none_name, self_name}
use Rattle.fault_cause_laws.specs.CauseRules.{fault_path, same_path, is_path_among, has_double, hit_names, names_of_cause, own_names, is_any_taken, no_such_fault, double_cause, double_strike, empty_window, too_wide, too_many, name_taken, first_of, broken_at, AllKept, are_owns_taken, AreLawful, IsStrikeOf, IsReadAs, AreReadAs}
use Rattle.cut_reach_laws.specs.Names.{AreDistinct, IsNewName, hit_names_of, names_added_by, names_of_each, own_names_from, names_added, AreNewNames}
use Rattle.smv_lexer.specs.Tokens.{IsWord}
use Rattle.cut_reach_laws.proofs.Naming.{each_of}
use Rattle.cut_reach_laws.proofs.Words.{cause_words, cause_distinct, own_words, owns_distinct}
use Rattle.std.proofs.lemmas.Bool.{or_parts as neither}
use Rattle.std.proofs.lemmas.Option.{slice_get_within as got_within}
use Rattle.base_values.specs.declared.limits.TheConstants.{MOST_EVENTS, LONGEST_WINDOW}
use Rattle.fault_weave.proofs.WovenExamples.{texts_differ as differs}
use Rattle.sat_encoding_laws.proofs.InputsFree.{each_none as none_of}
use Rattle.smv_flat_laws.proofs.BothLaws.{both_size}

-- ---- tests

others : (xs : List Text) (x : Text) → is_among xs x ≡ false → Each (λ y. y ≢ x) xs
others [] x h = tt
others (y ∷ ys) x h = let parts = neither (same_text y x) (is_among ys x) h in (differs y x parts.0, others ys x parts.1)

-- ---- names of a program

-- the text is a name that the item gives
abbrev is_item_name : Text → Item → Bool
is_item_name x (a_declaration role d) = same_text d.name x || is_symbol_of_type d.what x
is_item_name x (some_constants xs) = is_among xs x
is_item_name x _ = false

module _ (x : Text) where
  decls_free : (role : Role) (ds : List DeclTree) → is_name_of_decls ds x ≡ false → Each (λ i. is_item_name x i ≡ false) (map (a_declaration role) ds)
  decls_free role [] h = tt
  decls_free role (d ∷ ds) h = let parts = neither (same_text d.name x || is_symbol_of_type d.what x) (is_name_of_decls ds x) h in (parts.0, decls_free role ds parts.1)

  no_names : {A : Type 0} (f : A → Item) → ((a : A) → is_item_name x (f a) ≡ false) → (xs : List A) → Each (λ i. is_item_name x i ≡ false) (map f xs)
  no_names f h [] = tt
  no_names f h (a ∷ xs) = (h a, no_names f h xs)

  section_free : (s : SectionTree) → is_name_of_section x s ≡ false → Each (λ i. is_item_name x i ≡ false) (items_of_section s)
  section_free (var ds) h = decls_free state ds h
  section_free (ivar ds) h = decls_free input ds h
  section_free (frozen_section ds) h = decls_free frozen_role ds h
  section_free (define ds) h = no_names a_definition (λ d. refl) ds
  section_free (constants xs) h = (h, tt)
  section_free (assign xs) h = no_names an_assignment (λ a. refl) xs
  section_free (init e) h = (refl, tt)
  section_free (invar e) h = (refl, tt)
  section_free (trans e) h = (refl, tt)

  sections_free : (ss : List SectionTree) → Each (λ s. is_name_of_section x s ≡ false) ss → Each (λ i. is_item_name x i ≡ false) (flat_map items_of_section ss)
  sections_free [] h = tt
  sections_free (s ∷ ss) h = each_join (λ i. is_item_name x i ≡ false) (items_of_section s) (flat_map items_of_section ss) (section_free s h.0) (sections_free ss h.1)

  module_free : (k : ModuleTree) → is_name_of_module x k ≡ false → Each (λ i. is_item_name x i ≡ false) (items_of k)
  module_free k h =
      let rest = (neither (same_text k.name x) (is_among k.formals x || list_any (is_name_of_section x) k.sections) h).1 in
      let sections = (neither (is_among k.formals x) (list_any (is_name_of_section x) k.sections) rest).1 in
      sections_free k.sections (none_of (is_name_of_section x) k.sections sections)

  program_free : (w : ProgramTree) → is_program_name w x ≡ false → Each (λ k. Each (λ i. is_item_name x i ≡ false) (items_of k)) w
  program_free w h = each_more (λ k. is_name_of_module x k ≡ false) (λ k. Each (λ i. is_item_name x i ≡ false) (items_of k)) w module_free (none_of (is_name_of_module x) w h)

  -- ---- and of its flat model

  no_variable : (w : ProgramTree) (m : FlatModel) → IsAccepted w → IsFlatOf w m → is_program_name w x ≡ false → (i : ℕ) (v : FlatVariable) → slice_get m.variables i ≡ Some v → v.name ≡ x → ⊥
  no_variable w m accepted is free i v e name =
      let there : IsVariable w v.place v.name v.role v.declared = variable_there w m accepted is i v e in
      let d : DeclaredAs (items_of there.0) v.name v.role v.declared = variable_declared_as w v there in
      let at : In there.0 w = module_in w v.place there.0 there.1 in
      let items : Each (λ i. is_item_name x i ≡ false) (items_of there.0) = each_at (λ k. Each (λ i. is_item_name x i ≡ false) (items_of k)) w at.0 there.0 (program_free w free) at.1 in
      let item : (same_text d.decl.name x || is_symbol_of_type d.decl.what x) ≡ false = each_at (λ i. is_item_name x i ≡ false) (items_of there.0) d.place (a_declaration v.role d.decl) items d.is in
      differs d.decl.name x (neither (same_text d.decl.name x) (is_symbol_of_type d.decl.what x) item).0 (d.name ∙ name)

  members_other : (ms : List Member) → is_symbol_of_members ms x ≡ false → Each (λ y. y ≢ x) (symbols_of_members ms)
  members_other [] h = tt
  members_other (member.Number n ∷ ms) h = members_other ms h
  members_other (member.Symbol y ∷ ms) h = let parts = neither (same_text y x) (is_symbol_of_members ms x) h in (differs y x parts.0, members_other ms parts.1)

  type_other : (d : DeclaredTree) → is_symbol_of_type d x ≡ false → Each (λ y. y ≢ x) (symbols_of_type d)
  type_other boolean h = tt
  type_other (range lo hi) h = tt
  type_other (members ms) h = members_other ms h
  type_other (instance m actuals) h = tt

  item_other : (i : Item) → is_item_name x i ≡ false → Each (λ y. y ≢ x) (symbols_of_item i)
  item_other (a_declaration role d) h = type_other d.what (neither (same_text d.name x) (is_symbol_of_type d.what x) h).1
  item_other (a_definition d) h = tt
  item_other (an_assignment a) h = tt
  item_other (some_constants xs) h = others xs x h
  item_other (an_init e) h = tt
  item_other (an_invar e) h = tt
  item_other (a_trans e) h = tt

  each_flat_of : {A B : Type 0} (P : B → Type 0) (f : A → List B) (xs : List A) → Each (λ a. Each P (f a)) xs → Each P (flat_map f xs)
  each_flat_of P f [] h = tt
  each_flat_of P f (a ∷ xs) h = each_join P (f a) (flat_map f xs) h.0 (each_flat_of P f xs h.1)

  appear_other : (seen xs : List Text) → Each (λ y. y ≢ x) seen → Each (λ y. y ≢ x) xs → Each (λ y. y ≢ x) (first_appearances seen xs)
  appear_other seen [] h g = h
  appear_other seen (y ∷ ys) h g = by (is_among seen y) (λ next k. appear_other next ys k g.1)
    where
      by : (b : Bool) → ((next : List Text) → Each (λ y. y ≢ x) next → Each (λ y. y ≢ x) (first_appearances next ys)) → Each (λ y. y ≢ x) (first_appearances (if b then seen else seen ++ y ∷ []) ys)
      by true rest = rest seen h
      by false rest = rest (seen ++ y ∷ []) (each_join (λ y. y ≢ x) seen (y ∷ []) h (g.0, tt))

  no_symbol : (w : ProgramTree) (m : FlatModel) → IsFlatOf w m → is_program_name w x ≡ false → (i : ℕ) → slice_get m.symbols i ≡ Some x → ⊥
  no_symbol w m is free i e =
      let modules : Each (λ k. Each (λ y. y ≢ x) (flat_map symbols_of_item (items_of k))) w =
      each_more (λ k. Each (λ i. is_item_name x i ≡ false) (items_of k)) (λ k. Each (λ y. y ≢ x) (flat_map symbols_of_item (items_of k))) w
      (λ k h. each_flat_of (λ y. y ≢ x) symbols_of_item (items_of k) (each_more (λ i. is_item_name x i ≡ false) (λ i. Each (λ y. y ≢ x) (symbols_of_item i)) (items_of k) item_other h)) (program_free w free) in
      let all : Each (λ y. y ≢ x) (symbols_of w) =
      appear_other [] (flat_map (λ k. flat_map symbols_of_item (items_of k)) w) tt (each_flat_of (λ y. y ≢ x) (λ (k : ModuleTree). flat_map symbols_of_item (items_of k)) w modules) in
      each_at (λ y. y ≢ x) m.symbols i x (subst (Each (λ y. y ≢ x)) (sym is.symbols) all) e refl

  pub new_name : (w : ProgramTree) (m : FlatModel) → IsAccepted w → IsFlatOf w m → is_program_name w x ≡ false → IsNewName m x
  new_name w m accepted is free = record { no_variable = λ i v e place name. no_variable w m accepted is free i v e name; no_symbol = no_symbol w m is free }

-- ---- rules, taken apart

-- seven tests of which none passes
record AreSeven (a b c d e f g : Bool) : Type 0 where
  apart : c ≡ false
  window : d ≡ false
  narrow : e ≡ false
  few : f ≡ false
  free : g ≡ false

seven_kept : (a b c d e f g : Bool) →
    first_of ((a, no_such_fault) ∷ (b, double_cause) ∷ (c, double_strike) ∷ (d, empty_window) ∷ (e, too_wide) ∷ (f, too_many) ∷ (g, name_taken) ∷ []) ≡ None → AreSeven a b c d e f g
seven_kept true b c d e f g h = cc
seven_kept false true c d e f g h = cc
seven_kept false false true d e f g h = cc
seven_kept false false false true e f g h = cc
seven_kept false false false false true f g h = cc
seven_kept false false false false false true g h = cc
seven_kept false false false false false false true h = cc
seven_kept false false false false false false false h = record { apart = refl; window = refl; narrow = refl; few = refl; free = refl }

-- what a cause that breaks no rule is
record IsKeptCause (faults : List Fault) (w : ProgramTree) (before : List WrittenCause) (c : WrittenCause) : Type 0 where
  apart : has_double c.strikes ≡ false
  window : nat_lt c.to c.from ≡ false
  narrow : nat_lt LONGEST_WINDOW c.to ≡ false
  few : nat_lt MOST_EVENTS (length faults + (length before + 1)) ≡ false
  free : is_any_taken w (flat_map names_of_cause before) (names_of_cause c) ≡ false

kept_cause : (faults : List Fault) (w : ProgramTree) (before : List WrittenCause) (c : WrittenCause) → broken_at faults w before c ≡ None → IsKeptCause faults w before c
kept_cause faults w before c h =
    let all = seven_kept (list_any (λ p. not (is_path_among (map fault_path faults) p)) c.strikes) (list_any (λ (b : WrittenCause). same_text b.name c.name) before) (has_double c.strikes) (nat_lt c.to c.from)
    (nat_lt LONGEST_WINDOW c.to) (nat_lt MOST_EVENTS (length faults + (length before + 1))) (is_any_taken w (flat_map names_of_cause before) (names_of_cause c)) h in
    record { apart = all.apart; window = all.window; narrow = all.narrow; few = all.few; free = all.free }

-- names of which none is one of the program or was added before
record AreFree (w : ProgramTree) (before names : List Text) : Type 0 where
  new : Each (λ x. is_program_name w x ≡ false) names
  apart : Each (λ x. is_among before x ≡ false) names

are_free : (w : ProgramTree) (before names : List Text) → is_any_taken w before names ≡ false → AreFree w before names
are_free w before [] h = record { new = tt; apart = tt }
are_free w before (x ∷ xs) h =
    let parts = neither (is_program_name w x || is_among before x) (is_any_taken w before xs) h in
    let here = neither (is_program_name w x) (is_among before x) parts.0 in
    let rest = are_free w before xs parts.1 in
    record { new = (here.0, rest.new); apart = (here.1, rest.apart) }

-- ---- all names differ

distinct_join : (xs ys : List Text) → AreDistinct xs → AreDistinct ys → Each (λ y. Each (λ x. x ≢ y) xs) ys → AreDistinct (xs ++ ys)
distinct_join [] ys h g b = g
distinct_join (x ∷ xs) ys h g b = (
  each_join (λ y. x ≢ y) xs ys h.0 (each_more (λ y. Each (λ z. z ≢ y) (x ∷ xs)) (λ y. x ≢ y) ys (λ y k. k.0) b),
  distinct_join xs ys h.1 g (each_more (λ y. Each (λ z. z ≢ y) (x ∷ xs)) (λ y. Each (λ z. z ≢ y) xs) ys (λ y k. k.1) b),
)

-- none of the names is one of the others
abbrev AreBeside : List Text → List Text → Type 0
AreBeside before names = Each (λ y. Each (λ x. x ≢ y) before) names

beside_of : (before names : List Text) → Each (λ x. is_among before x ≡ false) names → AreBeside before names
beside_of before [] h = tt
beside_of before (y ∷ ys) h = (others before y h.0, beside_of before ys h.1)

beside_first : (xs ys names : List Text) → AreBeside (xs ++ ys) names → AreBeside xs names
beside_first xs ys names h = each_more (λ y. Each (λ x. x ≢ y) (xs ++ ys)) (λ y. Each (λ x. x ≢ y) xs) names (λ y k. (each_of (λ x. x ≢ y) xs ys k).0) h

beside_second : (xs ys names : List Text) → AreBeside (xs ++ ys) names → AreBeside ys names
beside_second xs ys names h = each_more (λ y. Each (λ x. x ≢ y) (xs ++ ys)) (λ y. Each (λ x. x ≢ y) ys) names (λ y k. (each_of (λ x. x ≢ y) xs ys k).1) h

names_end : (before : List WrittenCause) (c : WrittenCause) → flat_map names_of_cause (before ++ c ∷ []) ≡ flat_map names_of_cause before ++ names_of_cause c
names_end [] c = append-nil (names_of_cause c)
names_end (b ∷ bs) c = ap (λ xs. names_of_cause b ++ xs) (names_end bs c) ∙ sym (append_assoc (names_of_cause b) (flat_map names_of_cause bs) (names_of_cause c))

-- ---- causes that were read

same_hits : (x y : Text) (k : ℕ) (ps : List Path) (is : List ℕ) → length ps ≡ length is → x ≡ y → hit_names_of x k is ≡ hit_names y k ps
same_hits x y k [] [] e s = refl
same_hits x y k [] (i ∷ is) e s = cc
same_hits x y k (p ∷ ps) [] e s = cc
same_hits x y k (p ∷ ps) (i ∷ is) e s = let rest = same_hits x y (suc k) ps is (let g : length ps ≡ length is = cc in g) s in (λ j. hit_name (s j) k ∷ rest j)

module _ (faults : List Fault) (prog : ProgramTree) where
  same_names : (w : WrittenCause) (c : CommonCause) → IsReadAs faults prog w c → names_added_by c ≡ names_of_cause w
  same_names w c is =
      let long : length w.strikes ≡ length c.strikes = both_size (IsStrikeOf faults prog) w.strikes c.strikes is.strikes in
      let n = is.name in
      let hits = same_hits c.name w.name 1 w.strikes c.strikes long n in
      (λ j. age_name (n j) ∷ event_name (n j) ∷ quiet_name (n j) ∷ now_name (n j) ∷ hits j)

  strikes_within : (ps : List Path) (is : List ℕ) → EachBoth (IsStrikeOf faults prog) ps is → Each (λ i. (0 < i) × (i ≤ length faults)) is
  strikes_within [] [] h = tt
  strikes_within [] (i ∷ is) h = absurd h
  strikes_within (p ∷ ps) [] h = absurd h
  strikes_within (p ∷ ps) (i ∷ is) h =
      let below : i - 1 < length faults = got_within faults (i - 1) h.0.0 h.0.2 in
      let low = h.0.1 in
      ((low, omega (arith, below, low)), strikes_within ps is h.1)

  -- strikes of different names are different numbers
  same_path_refl : (p : Path) → same_path p p ≡ true
  same_path_refl [] = refl
  same_path_refl (x ∷ p) = let a = same_text_refl x in let b = same_path_refl p in (λ j. a j && b j)

  not_again : (p : Path) (i : ℕ) (ps : List Path) (is : List ℕ) → IsStrikeOf faults prog p i → is_path_among ps p ≡ false → EachBoth (IsStrikeOf faults prog) ps is → AllByRecursion (λ j. eqb i j ≡ false) is
  not_again p i [] [] s h e = tt
  not_again p i [] (j ∷ is) s h e = absurd e
  not_again p i (q ∷ ps) [] s h e = absurd e
  not_again p i (q ∷ ps) (j ∷ is) s h e =
      let parts = neither (same_path q p) (is_path_among ps p) h in
      (by (eqb i j) refl parts.0, not_again p i ps is s parts.1 e.1)
    where
      by : (b : Bool) → eqb i j ≡ b → same_path q p ≡ false → b ≡ false
      by false t g = refl
      by true t g =
          let same : i ≡ j = eqb-true i j t in
          let both : Some s.0 ≡ Some e.0.0 = sym s.2 ∙ ap (λ k. slice_get faults (k - 1)) same ∙ e.0.2 in
          let fault : s.0 ≡ e.0.0 = cc in
          let path : q ≡ p = sym e.0.3 ∙ ap fault_path (sym fault) ∙ s.3 in
          let clash : false ≡ true = sym g ∙ ap (λ r. same_path r p) path ∙ same_path_refl p in cc

  numbers_distinct : (ps : List Path) (is : List ℕ) → has_double ps ≡ false → EachBoth (IsStrikeOf faults prog) ps is → IsDistinct eqb is
  unfolding IsDistinct
  numbers_distinct [] [] h e = tt
  numbers_distinct [] (i ∷ is) h e = absurd e
  numbers_distinct (p ∷ ps) [] h e = absurd e
  numbers_distinct (p ∷ ps) (i ∷ is) h e =
      let parts = neither (is_path_among ps p) (has_double ps) h in (not_again p i ps is e.0 parts.0 e.1, numbers_distinct ps is parts.1 e.1)

  below_all : (is : List ℕ) (n : ℕ) → Each (λ i. (0 < i) × (i ≤ n)) is → (q : ℕ) → list_any (eqb q) is ≡ true → q < n + 1
  below_all [] n h q e = cc
  below_all (i ∷ is) n h q e = by (eqb q i) refl e (λ k. below_all is n h.1 q k)
    where
      by : (b : Bool) → eqb q i ≡ b → (b || list_any (eqb q) is) ≡ true → (list_any (eqb q) is ≡ true → q < n + 1) → q < n + 1
      by true t g rest = let same : q ≡ i = eqb-true q i t in let most = h.0.1 in omega (arith, same, most)
      by false t g rest = rest g

  few_strikes : (w : WrittenCause) (c : CommonCause) → has_double w.strikes ≡ false → IsReadAs faults prog w c → length c.strikes ≤ length faults + 1
  few_strikes w c h is =
      length-le_from_distinct_below c.strikes (length faults + 1) (numbers_distinct w.strikes c.strikes h is.strikes) (below_all c.strikes (length faults) (strikes_within w.strikes c.strikes is.strikes))

  module _ (m : FlatModel) (accepted : IsAccepted prog) (flat : IsFlatOf prog m) (few : length faults < 2 ^ 62) where
    -- what is known of names: each is new to the model, they differ, and they are words
    record AreGood (before names : List Text) : Type 0 where
      new : Each (IsNewName m) names
      distinct : AreDistinct names
      words : Each IsName names
      beside : AreBeside before names

    all_new : (names : List Text) → Each (λ x. is_program_name prog x ≡ false) names → Each (IsNewName m) names
    all_new names h = each_more (λ x. is_program_name prog x ≡ false) (IsNewName m) names (λ x k. new_name x prog m accepted flat k) h

    -- what is asked of a cause
    record IsGoodCause (c : CommonCause) : Type 0 where
      is_cause : IsCauseOf (length faults) c
      narrow : c.to ≤ 100

    good_cause : (before : List WrittenCause) (w : WrittenCause) (c : CommonCause) → IsKeptCause faults prog before w → IsReadAs faults prog w c → IsGoodCause c
    good_cause before w c kept is =
        let window = kept.window in
        let narrow = kept.narrow in
        let a : w.from ≤ w.to = grind (arith, nat_tests) in
        let b : w.to ≤ 100 = grind (arith, nat_tests) in
        let f = is.from in
        let t = is.to in
        record { is_cause = record { window = omega (arith, a, f, t); numbers = strikes_within w.strikes c.strikes is.strikes }; narrow = omega (arith, b, t) }

    cause_good : (before : List WrittenCause) (w : WrittenCause) (c : CommonCause) → IsKeptCause faults prog before w → IsReadAs faults prog w c → IsWord w.name [] →
        AreGood (flat_map names_of_cause before) (names_added_by c)
    cause_good before w c kept is word =
        let strikes = few_strikes w c kept.apart is in
        let small : length c.strikes < 2 ^ 63 = omega (arith, strikes, few) in
        let free : AreFree prog (flat_map names_of_cause before) (names_of_cause w) = are_free prog (flat_map names_of_cause before) (names_of_cause w) kept.free in
        let e : names_added_by c ≡ names_of_cause w = same_names w c is in
        record {
          new = all_new (names_added_by c) (subst (Each (λ x. is_program_name prog x ≡ false)) (sym e) free.new);
          distinct = cause_distinct c small;
          words = cause_words c (subst (λ x. IsWord x []) (sym is.name) word) small;
          beside = beside_of (flat_map names_of_cause before) (names_added_by c) (subst (Each (λ x. is_among (flat_map names_of_cause before) x ≡ false)) (sym e) free.apart);
        }

    -- one cause, and what comes after
    good_join : (before first rest : List Text) → AreGood before first → AreGood (before ++ first) rest → AreGood before (first ++ rest)
    good_join before first rest a b = record {
      new = each_join (IsNewName m) first rest a.new b.new;
      distinct = distinct_join first rest a.distinct b.distinct (beside_second before first rest b.beside);
      words = each_join IsName first rest a.words b.words;
      beside = each_join (λ y. Each (λ x. x ≢ y) before) first rest a.beside (beside_first before first rest b.beside);
    }

    module _ (owns : List Text) where
      all_good : (before ws : List WrittenCause) (cs : List CommonCause) → AllKept faults prog before ws → AreReadAs faults prog ws cs → Each (λ w. IsWord w.name []) ws →
          AreGood (flat_map names_of_cause (before ++ ws)) owns → AreGood (flat_map names_of_cause before) (names_of_each cs owns) × Each IsGoodCause cs
      all_good before [] [] kept read words last = (subst (λ z. AreGood (flat_map names_of_cause z) owns) (append-nil before) last, tt)
      all_good before [] (c ∷ cs) kept read words last = absurd read
      all_good before (w ∷ ws) [] kept read words last = absurd read
      all_good before (w ∷ ws) (c ∷ cs) kept read words last =
          let here : IsKeptCause faults prog before w = kept_cause faults prog before w kept.0 in
          let rest = all_good (before ++ w ∷ []) ws cs kept.1 read.1 words.1 (subst (λ z. AreGood (flat_map names_of_cause z) owns) (sym (append_assoc before (w ∷ []) ws)) last) in
          let after : AreGood (flat_map names_of_cause before ++ names_added_by c) (names_of_each cs owns) =
          subst (λ z. AreGood z (names_of_each cs owns)) (names_end before w ∙ ap (λ xs. flat_map names_of_cause before ++ xs) (sym (same_names w c read.0))) rest.0 in
          (good_join (flat_map names_of_cause before) (names_added_by c) (names_of_each cs owns) (cause_good before w c here read.0 words.0) after, (good_cause before w c here read.0, rest.1))

    -- the events of faults
    same_owns : (i : ℕ) (fs : List Mode) (n : ℕ) → n ≡ length fs → own_names i n ≡ own_names_from i fs
    same_owns i [] n e = ap (own_names i) e
    same_owns i (f ∷ fs) zero e = cc
    same_owns i (f ∷ fs) (suc n) e = let g : n ≡ length fs = omega (arith, e) in ap (λ xs. own_name i ∷ none_name i ∷ self_name i ∷ xs) (same_owns (suc i) fs n g)

    owns_good : (written : List WrittenCause) (fs : List Mode) → length faults ≡ length fs → are_owns_taken faults prog written ≡ false → AreGood (flat_map names_of_cause written) (own_names_from 1 fs)
    owns_good written fs same taken =
        let free : AreFree prog (flat_map names_of_cause written) (own_names 1 (length faults)) = are_free prog (flat_map names_of_cause written) (own_names 1 (length faults)) taken in
        let e : own_names 1 (length faults) ≡ own_names_from 1 fs = same_owns 1 fs (length faults) same in
        let small : 1 + length fs ≤ 2 ^ 64 = omega (arith, same, few) in
        record {
          new = all_new (own_names_from 1 fs) (subst (Each (λ x. is_program_name prog x ≡ false)) e free.new);
          distinct = owns_distinct 1 fs small;
          words = own_words 1 fs small;
          beside = beside_of (flat_map names_of_cause written) (own_names_from 1 fs) (subst (Each (λ x. is_among (flat_map names_of_cause written) x ≡ false)) e free.apart);
        }

    pub lawful_good : (written : List WrittenCause) (cs : List CommonCause) (fs : List Mode) → length faults ≡ length fs → AreLawful faults prog written → AreReadAs faults prog written cs → Each (λ w. IsWord w.name []) written →
        AreNewNames m (names_added fs cs) × Each (IsCauseOf (length faults)) cs × Each (λ c. c.to ≤ 100) cs
    lawful_good written cs fs same lawful read words =
        let all = all_good (own_names_from 1 fs) [] written cs lawful.kept read words (owns_good written fs same lawful.free) in (
          record { new = all.0.new; distinct = all.0.distinct; words = all.0.words },
          each_more IsGoodCause (IsCauseOf (length faults)) cs (λ c k. k.is_cause) all.1,
          each_more IsGoodCause (λ c. c.to ≤ 100) cs (λ c k. k.narrow) all.1,
        )
