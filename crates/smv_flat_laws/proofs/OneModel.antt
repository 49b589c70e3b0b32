-- An accepted program has one flat model.
use Rattle.std.proofs.Common.{◌≡◌, ℕ, suc, Bool, true, false, List, [], ◌∷◌, ◌++◌, Some, refl, sym, ◌∙◌, ap, subst}
use Rattle.std.specs.Prelude.{codes, slice_get, map, flat_map, if◌then◌else◌}
use Rattle.smv_language.specs.declared.expr.Op.TheVariants as op
use Rattle.smv_language.specs.Language.{Tree, leaf, next_of, binary, Text, Path, Formula, ModuleTree, ProgramTree, same_text, is_among, Place, Key, Meaning, a_variable_at, an_expression_at, an_instance_at, find_module, Each, EachBoth, FlatLeaf, flat_variable, flat_symbol, flat_definition, FlatVariable, FlatFormula, FlatModel}
use Rattle.smv_language.proofs.ValueLaws.{same_text_refl}
use Rattle.smv_language.specs.Scope.{a_symbol}
use Rattle.smv_flat_laws.specs.NameResolution.{leaves_in, Definition, StandsFor, IsLeafOf, IsResolved}
use Rattle.smv_flat_laws.specs.Items.{items_of, Visit, variables_of}
use Rattle.smv_flat_laws.specs.Rules.{IsWalkable, expression_of}
use Rattle.smv_flat_laws.specs.Model.{Condition, plain, now_among, next_among, kept, Written, conditions, first_conditions, each_conditions, step_conditions, kept_conditions, IsVariableNumber, IsConditionTree, IsInstanceNumber, IsFormulaOf, IsVariableOf, first_appearances, symbols_of_item, symbols_of, Root, roots_of, keys_of_meaning, AreNamed, Adds, AddsAll, stands, comes, no_more, one_more, IsDefinitionOf, KeysDiffer, IsFlatOf}
use Rattle.smv_flat_laws.proofs.Resolving.{same_meaning}
use Rattle.smv_flat_laws.proofs.Variables.{both_at_second}
use Rattle.smv_flat_laws.proofs.Apart.{Differ, Apart, variables_apart}
use Rattle.smv_flat_laws.proofs.KeysApart.{one_number, one_root}
use Rattle.smv_flat_laws.proofs.OneTree.{one_tree}
use Rattle.smv_flat_laws.proofs.Walkable.{main_is_there}
use Rattle.std.proofs.lemmas.Option.{some_pair_parts as both_parts}
use Rattle.smv_flat_laws.proofs.Pairs.{pairs_join, Pairwise, pairwise_same}

-- The order of definitions.
pub named_one : (p : ProgramTree) (at : Place) (names : List Path) (ks js : List Key) → AreNamed p at names ks → AreNamed p at names js → ks ≡ js
named_one p at [] ks js h g = h ∙ sym g
named_one p at (name ∷ names) ks js h g =
    let same : h.0 ≡ g.0 = same_meaning h.2.0 g.2.0 p at name h.0 g.0 h.2.1 g.2.1 in
    let rest : h.1 ≡ g.1 = named_one p at names h.1 g.1 h.3 g.3 in
    h.4 ∙ ap (λ m. keys_of_meaning m ++ h.1) same ∙ ap (λ more. keys_of_meaning g.0 ++ more) rest ∙ sym g.4

needs_one : (p : ProgramTree) (k : Key) (at bt : Place) (e f : Formula) (ks js : List Key) → expression_of p k ≡ Some (at, e) → expression_of p k ≡ Some (bt, f) →
    AreNamed p at (leaves_in e) ks → AreNamed p bt (leaves_in f) js → ks ≡ js
needs_one p k at bt e f ks js x y h g =
    let same : (at ≡ bt) × (e ≡ f) = both_parts at bt e f (sym x ∙ y) in
    named_one p bt (leaves_in f) ks js (subst (λ a. AreNamed p a (leaves_in f) ks) same.0 (subst (λ t. AreNamed p at (leaves_in t) ks) same.1 h)) g

differs : true ≡ false → ⊥
differs e = cc

-- what is added and in which order is determined
mutual
  pub adds_one : (p : ProgramTree) (done : List Key) (k : Key) (a b : List Key) → Adds p done k a → Adds p done k b → a ≡ b
  adds_one p done k a b (stands h) (stands g) = refl
  adds_one p done k a b (stands h) (comes g x n r) = absurd (differs (sym h ∙ g))
  adds_one p done k a b (comes h x n r) (stands g) = absurd (differs (sym g ∙ h))
  adds_one p done k a b (comes {after = u} {needs = ks} {at = at} {e = e} h x n r) (comes {after = v} {needs = js} {at = bt} {e = f} g y m s) =
      ap (λ xs. xs ++ k ∷ []) (adds_all_one p done ks u v r (subst (λ ns. AddsAll p done ns v) (sym (needs_one p k at bt e f ks js x y n m)) s))

  pub adds_all_one : (p : ProgramTree) (done ks a b : List Key) → AddsAll p done ks a → AddsAll p done ks b → a ≡ b
  adds_all_one p done ks a b no_more no_more = refl
  adds_all_one p done ks a b (one_more {between = u} {more = more} {k = k} x xs) (one_more {between = v} y ys) =
      adds_all_one p u more a b xs (subst (λ between. AddsAll p between more b) (sym (adds_one p done k u v x y)) ys)

abbrev IsOf : ProgramTree → Definition → Type 0
IsOf p d = expression_of p d.key ≡ Some (d.place, d.written)

placed_each : (p : ProgramTree) (m : FlatModel) (ds : List Definition) (fs : List FlatFormula) → EachBoth (IsDefinitionOf p m) ds fs → Each (IsOf p) ds
placed_each p m [] [] h = tt
placed_each p m [] (f ∷ fs) h = tt
placed_each p m (d ∷ ds) [] h = absurd h
placed_each p m (d ∷ ds) (f ∷ fs) h = (h.0.expression, placed_each p m ds fs h.1)

same_definition : (p : ProgramTree) (d e : Definition) → IsOf p d → IsOf p e → d.key ≡ e.key → d ≡ e
same_definition p d e h g keys =
    let same : (d.place ≡ e.place) × (d.written ≡ e.written) = both_parts d.place e.place d.written e.written (sym h ∙ ap (expression_of p) keys ∙ g) in
    ap (λ k. record { key = k; place = d.place; written = d.written }) keys ∙ ap (λ a. record { key = e.key; place = a; written = d.written }) same.0
    ∙ ap (λ t. record { key = e.key; place = e.place; written = t }) same.1

pub same_written : (p : ProgramTree) (ds es : List Definition) → Each (IsOf p) ds → Each (IsOf p) es → map (λ (d : Definition). d.key) ds ≡ map (λ (d : Definition). d.key) es → ds ≡ es
same_written p [] [] h g keys = refl
same_written p [] (e ∷ es) h g keys = cc
same_written p (d ∷ ds) [] h g keys = cc
same_written p (d ∷ ds) (e ∷ es) h g keys =
    let first : d.key ≡ e.key = cc in
    let rest : map (λ (d : Definition). d.key) ds ≡ map (λ (d : Definition). d.key) es = cc in
    ap (λ x. x ∷ ds) (same_definition p d e h.0 g.0 first) ∙ ap (λ xs. e ∷ xs) (same_written p ds es h.1 g.1 rest)

-- two flat models of a program have the same written definitions
pub one_written : (p : ProgramTree) (m n : FlatModel) (is : IsFlatOf p m) (also : IsFlatOf p n) → is.written ≡ also.written
one_written p m n is also =
    same_written p is.written also.written (placed_each p m is.written m.definitions is.placed) (placed_each p n also.written n.definitions also.placed)
    (adds_all_one p [] (map (λ (r : Root). r.key) (roots_of p)) _ _ is.order also.order)

same_formula : (f g : FlatFormula) → f.value ≡ g.value → f.item ≡ g.item → f.number ≡ g.number → f ≡ g
same_formula f g a b c =
    ap (λ t. record { value = t; item = f.item; number = f.number }) a ∙ ap (λ i. record { value = g.value; item = i; number = f.number }) b
    ∙ ap (λ i. record { value = g.value; item = g.item; number = i }) c

same_variable : (x y : FlatVariable) → x.place ≡ y.place → x.name ≡ y.name → x.role ≡ y.role → x.declared ≡ y.declared → x.item ≡ y.item → x.number ≡ y.number → x ≡ y
same_variable x y a b c d e f =
    ap (λ z. record { place = z; name = x.name; role = x.role; declared = x.declared; item = x.item; number = x.number }) a
    ∙ ap (λ z. record { place = y.place; name = z; role = x.role; declared = x.declared; item = x.item; number = x.number }) b
    ∙ ap (λ z. record { place = y.place; name = y.name; role = z; declared = x.declared; item = x.item; number = x.number }) c
    ∙ ap (λ z. record { place = y.place; name = y.name; role = y.role; declared = z; item = x.item; number = x.number }) d
    ∙ ap (λ z. record { place = y.place; name = y.name; role = y.role; declared = y.declared; item = z; number = x.number }) e
    ∙ ap (λ z. record { place = y.place; name = y.name; role = y.role; declared = y.declared; item = y.item; number = z }) f

-- Symbols.
abbrev pub OtherText : Text → Text → Type 0
OtherText x y = x ≡ y → ⊥

not_among : (xs : List Text) (x : Text) → is_among xs x ≡ false → Each (λ y. OtherText y x) xs
not_among [] x h = tt
not_among (y ∷ xs) x h = by_test (same_text y x) refl h (not_among xs x)
  where
    by_test : (b : Bool) → same_text y x ≡ b → is_among (y ∷ xs) x ≡ false → (is_among xs x ≡ false → Each (λ z. OtherText z x) xs) → Each (λ z. OtherText z x) (y ∷ xs)
    by_test true t g more = let bad : true ≡ false = rw t at g in absurd (differs bad)
    by_test false t g more =
        let rest : is_among xs x ≡ false = rw t at g in
        ((λ e. differs (sym (same_text_refl x) ∙ subst (λ z. same_text z x ≡ false) e t)), more rest)

one_after : (xs : List Text) (x : Text) → Each (λ y. OtherText y x) xs → Each (λ y. Each (OtherText y) (x ∷ [])) xs
one_after [] x h = tt
one_after (y ∷ xs) x h = ((h.0, tt), one_after xs x h.1)

appear_apart : (seen xs : List Text) → Pairwise OtherText seen → Pairwise OtherText (first_appearances seen xs)
appear_apart seen [] h = h
appear_apart seen (x ∷ xs) h = appear_apart (if is_among seen x then seen else seen ++ x ∷ []) xs (by_test (is_among seen x) refl)
  where
    by_test : (b : Bool) → is_among seen x ≡ b → Pairwise OtherText (if is_among seen x then seen else seen ++ x ∷ [])
    by_test true t = rw t h
    by_test false t = rw t (pairs_join OtherText seen (x ∷ []) h (tt, tt) (one_after seen x (not_among seen x t)))

-- no symbol is listed twice
pub symbols_apart : (p : ProgramTree) → Pairwise OtherText (symbols_of p)
symbols_apart p = appear_apart [] (flat_map (λ m. flat_map symbols_of_item (items_of m)) p) tt

-- Variables.
apart_pairs : (vs : List Visit) → Apart vs → Pairwise Differ vs
apart_pairs [] h = tt
apart_pairs (v ∷ vs) h = (h.0, apart_pairs vs h.1)

pub one_variable : (p : ProgramTree) → IsWalkable p → (i j : ℕ) (v w : Visit) → slice_get (variables_of p) i ≡ Some v → slice_get (variables_of p) j ≡ Some w → v.place ≡ w.place → v.decl.name ≡ w.decl.name → i ≡ j
one_variable p walkable i j v w e f places names =
    let main : (k : ModuleTree) × (find_module p (codes "main") ≡ Some k) = main_is_there p walkable in
    pairwise_same Differ (variables_of p) i j v w (apart_pairs (variables_of p) (variables_apart p walkable main.0 main.1)) e f (λ d. d places names) (λ d. d (sym places) (sym names))

abbrev OtherKey : Definition → Definition → Type 0
OtherKey d e = d.key ≡ e.key → ⊥

key_pairs : (ds : List Definition) → KeysDiffer ds → Pairwise OtherKey ds
key_pairs [] h = tt
key_pairs (d ∷ ds) h = (h.0, key_pairs ds h.1)

-- The leaf of a meaning.
variable_leaf : (m : FlatModel) (ds : List Definition) (l : FlatLeaf) (at : Place) (x : Text) → StandsFor m ds l (a_variable_at at x) →
    (i : ℕ) × (l ≡ flat_variable i) × (d : FlatVariable) × (slice_get m.variables i ≡ Some d) × (d.place ≡ at) × (d.name ≡ x)
variable_leaf m ds (flat_variable i) at x h = (i, refl, h.0, h.1, h.2, h.3)
variable_leaf m ds (flat_symbol i) at x h = absurd h
variable_leaf m ds (flat_definition i) at x h = absurd h

symbol_leaf : (m : FlatModel) (ds : List Definition) (l : FlatLeaf) (x : Text) → StandsFor m ds l (a_symbol x) → (i : ℕ) × (l ≡ flat_symbol i) × (slice_get m.symbols i ≡ Some x)
symbol_leaf m ds (flat_variable i) x h = absurd h
symbol_leaf m ds (flat_symbol i) x h = (i, refl, h)
symbol_leaf m ds (flat_definition i) x h = absurd h

definition_leaf : (m : FlatModel) (ds : List Definition) (l : FlatLeaf) (key : Key) (at : Place) (e : Formula) → StandsFor m ds l (an_expression_at key at e) →
    (i : ℕ) × (l ≡ flat_definition i) × (slice_get ds i ≡ Some (record { key = key; place = at; written = e }))
definition_leaf m ds (flat_variable i) key at e h = absurd h
definition_leaf m ds (flat_symbol i) key at e h = absurd h
definition_leaf m ds (flat_definition i) key at e h = (i, refl, h)

no_leaf : (m : FlatModel) (ds : List Definition) (l : FlatLeaf) (at : Place) → StandsFor m ds l (an_instance_at at) → ⊥
no_leaf m ds (flat_variable i) at h = h
no_leaf m ds (flat_symbol i) at h = h
no_leaf m ds (flat_definition i) at h = h

module _ (p : ProgramTree) (walkable : IsWalkable p) (m n : FlatModel) (is : IsFlatOf p m) (also : IsFlatOf p n) (apart : KeysDiffer is.written) where
  variable_number : (at bt : Place) (x y : Text) (i j : ℕ) → at ≡ bt → x ≡ y → IsVariableNumber m at x i → IsVariableNumber n bt y j → i ≡ j
  variable_number at bt x y i j places names h g =
      let a : (v : Visit) × (slice_get (variables_of p) i ≡ Some v) × IsVariableOf m v h.variable = both_at_second (IsVariableOf m) (variables_of p) m.variables i h.variable is.variables h.is in
      let b : (v : Visit) × (slice_get (variables_of p) j ≡ Some v) × IsVariableOf n v g.variable = both_at_second (IsVariableOf n) (variables_of p) n.variables j g.variable also.variables g.is in
      one_variable p walkable i j a.0 b.0 a.1 b.1
      (sym a.2.place ∙ h.same_place ∙ places ∙ sym g.same_place ∙ b.2.place) (sym a.2.name ∙ h.same_name ∙ names ∙ sym g.same_name ∙ b.2.name)

  instance_number : (at bt : Place) (i j : ℕ) → at ≡ bt → IsInstanceNumber m at i → IsInstanceNumber n bt j → i ≡ j
  instance_number at bt i j places h g =
      one_number p walkable i j h.0 g.0 (subst (λ xs. slice_get xs i ≡ Some h.0) is.instances h.1) (subst (λ xs. slice_get xs j ≡ Some g.0) also.instances g.1) (h.2 ∙ places ∙ sym g.2)

  pub one_stands : (meaning : Meaning) (l k : FlatLeaf) → StandsFor m is.written l meaning → StandsFor n also.written k meaning → l ≡ k
  one_stands (a_variable_at at x) l k h g =
      let a = variable_leaf m is.written l at x h in
      let b = variable_leaf n also.written k at x g in
      let same : a.0 ≡ b.0 = variable_number at at x x a.0 b.0 refl refl (record { variable = a.2; is = a.3; same_place = a.4; same_name = a.5 }) (record { variable = b.2; is = b.3; same_place = b.4; same_name = b.5 }) in
      a.1 ∙ ap flat_variable same ∙ sym b.1
  one_stands (an_expression_at key at e) l k h g =
      let a = definition_leaf m is.written l key at e h in
      let b = definition_leaf n also.written k key at e g in
      let there : slice_get is.written b.0 ≡ Some (record { key = key; place = at; written = e }) = subst (λ ds. slice_get ds b.0 ≡ Some (record { key = key; place = at; written = e })) (sym (one_written p m n is also)) b.2 in
      let same : a.0 ≡ b.0 = pairwise_same OtherKey is.written a.0 b.0 _ _ (key_pairs is.written apart) a.2 there (λ d. d refl) (λ d. d refl) in
      a.1 ∙ ap flat_definition same ∙ sym b.1
  one_stands (an_instance_at at) l k h g = absurd (no_leaf m is.written l at h)
  one_stands (a_symbol x) l k h g =
      let a = symbol_leaf m is.written l x h in
      let b = symbol_leaf n also.written k x g in
      let here : slice_get (symbols_of p) a.0 ≡ Some x = subst (λ xs. slice_get xs a.0 ≡ Some x) is.symbols a.2 in
      let there : slice_get (symbols_of p) b.0 ≡ Some x = subst (λ xs. slice_get xs b.0 ≡ Some x) also.symbols b.2 in
      let same : a.0 ≡ b.0 = pairwise_same OtherText (symbols_of p) a.0 b.0 x x (symbols_apart p) here there (λ d. d refl) (λ d. d refl) in
      a.1 ∙ ap flat_symbol same ∙ sym b.1

  agree : (at : Place) (name : Path) (l k : FlatLeaf) → is.resolver at name ≡ Some l → also.resolver at name ≡ Some k → l ≡ k
  agree at name l k e f =
      let a : IsLeafOf p m is.written at name l = is.sound at name l e in
      let b : IsLeafOf p n also.written at name k = also.sound at name k f in
      let same : b.0 ≡ a.0 = same_meaning b.1.0 a.1.0 p at name b.0 a.0 b.1.1 a.1.1 in
      one_stands a.0 l k a.2 (subst (λ meaning. StandsFor n also.written k meaning) same b.2)

  one_value : (at : Place) (e : Formula) (flat other : Tree FlatLeaf) → IsResolved (is.resolver at) e flat → IsResolved (also.resolver at) e other → flat ≡ other
  one_value at e flat other h g = one_tree (is.resolver at) (also.resolver at) e flat other (agree at) h g

  one_condition : (at : Place) (c : Condition) (flat other : Tree FlatLeaf) → IsConditionTree m is.resolver at c flat → IsConditionTree n also.resolver at c other → flat ≡ other
  one_condition at (plain e) flat other h g = one_value at e flat other h g
  one_condition at (now_among x e) flat other h g =
      let number : h.number ≡ g.number = variable_number at at x x h.number g.number refl refl h.is_number g.is_number in
      let value : h.value ≡ g.value = one_value at e h.value g.value h.resolved g.resolved in
      h.is ∙ ap (λ i. binary op.Within (leaf (flat_variable i)) h.value) number ∙ ap (λ v. binary op.Within (leaf (flat_variable g.number)) v) value ∙ sym g.is
  one_condition at (next_among x e) flat other h g =
      let number : h.number ≡ g.number = variable_number at at x x h.number g.number refl refl h.is_number g.is_number in
      let value : h.value ≡ g.value = one_value at e h.value g.value h.resolved g.resolved in
      h.is ∙ ap (λ i. binary op.Within (next_of (leaf (flat_variable i))) h.value) number ∙ ap (λ v. binary op.Within (next_of (leaf (flat_variable g.number))) v) value ∙ sym g.is
  one_condition at (kept x) flat other h g =
      let number : h.number ≡ g.number = variable_number at at x x h.number g.number refl refl h.is_number g.is_number in
      h.is ∙ ap (λ i. binary op.Within (next_of (leaf (flat_variable i))) (leaf (flat_variable i))) number ∙ sym g.is

  one_formula : (w : Written) (f g : FlatFormula) → IsFormulaOf m is.resolver w f → IsFormulaOf n also.resolver w g → f ≡ g
  one_formula w f g h k =
      same_formula f g (one_condition w.place w.condition f.value g.value h.tree k.tree) (h.item ∙ sym k.item) (instance_number w.place w.place f.number g.number refl h.number k.number)

  formulas_one : (ws : List Written) (fs gs : List FlatFormula) → EachBoth (IsFormulaOf m is.resolver) ws fs → EachBoth (IsFormulaOf n also.resolver) ws gs → fs ≡ gs
  formulas_one [] [] [] h g = refl
  formulas_one [] [] (k ∷ gs) h g = absurd g
  formulas_one [] (f ∷ fs) gs h g = absurd h
  formulas_one (w ∷ ws) [] gs h g = absurd h
  formulas_one (w ∷ ws) (f ∷ fs) [] h g = absurd g
  formulas_one (w ∷ ws) (f ∷ fs) (k ∷ gs) h g = ap (λ x. x ∷ fs) (one_formula w f k h.0 g.0) ∙ ap (λ xs. k ∷ xs) (formulas_one ws fs gs h.1 g.1)

  variables_one : (vs : List Visit) (xs ys : List FlatVariable) → EachBoth (IsVariableOf m) vs xs → EachBoth (IsVariableOf n) vs ys → xs ≡ ys
  variables_one [] [] [] h g = refl
  variables_one [] [] (y ∷ ys) h g = absurd g
  variables_one [] (x ∷ xs) ys h g = absurd h
  variables_one (v ∷ vs) [] ys h g = absurd h
  variables_one (v ∷ vs) (x ∷ xs) [] h g = absurd g
  variables_one (v ∷ vs) (x ∷ xs) (y ∷ ys) h g =
      ap (λ z. z ∷ xs) (same_variable x y (h.0.place ∙ sym g.0.place) (h.0.name ∙ sym g.0.name) (h.0.role ∙ sym g.0.role) (h.0.declared ∙ sym g.0.declared) (h.0.item ∙ sym g.0.item)
      (instance_number v.place v.place x.number y.number refl h.0.number g.0.number))
      ∙ ap (λ zs. y ∷ zs) (variables_one vs xs ys h.1 g.1)

  -- definitions, place by place
  one_definition : (k : ℕ) (d : Definition) (f g : FlatFormula) → slice_get is.written k ≡ Some d → slice_get m.definitions k ≡ Some f → slice_get n.definitions k ≡ Some g →
      IsDefinitionOf p m d f → IsDefinitionOf p n d g → f ≡ g
  one_definition k d f g e x y h i =
      let a = is.definitions k d e in
      let b = also.definitions k d (subst (λ ds. slice_get ds k ≡ Some d) (one_written p m n is also) e) in
      let mine : Some a.0 ≡ Some f = sym a.1 ∙ x in
      let its : Some b.0 ≡ Some g = sym b.1 ∙ y in
      let first : a.0 ≡ f = cc in
      let second : b.0 ≡ g = cc in
      let values : f.value ≡ g.value =
      one_value d.place d.written f.value g.value (subst (λ (u : FlatFormula). IsResolved (is.resolver d.place) d.written u.value) first a.2) (subst (λ (u : FlatFormula). IsResolved (also.resolver d.place) d.written u.value) second b.2) in
      let roots : h.root.1.0 ≡ i.root.1.0 = one_root p walkable h.root.1.0 i.root.1.0 h.root.0 i.root.0 h.root.1.1 i.root.1.1 (h.root.2 ∙ sym i.root.2) in
      let same_root : Some h.root.0 ≡ Some i.root.0 = sym h.root.1.1 ∙ ap (slice_get (roots_of p)) roots ∙ i.root.1.1 in
      let items : h.root.0.item ≡ i.root.0.item = item_of_root h.root.0 i.root.0 same_root in
      same_formula f g values (h.root.3 ∙ items ∙ sym i.root.3) (instance_number d.place d.place f.number g.number refl h.number i.number)
    where
      item_of_root : (r s : Root) → Some r ≡ Some s → r.item ≡ s.item
      item_of_root r s e = cc

  definitions_one : (ds : List Definition) (fs gs : List FlatFormula) → ((k : ℕ) (d : Definition) (f g : FlatFormula) → slice_get ds k ≡ Some d → slice_get fs k ≡ Some f → slice_get gs k ≡ Some g →
      IsDefinitionOf p m d f → IsDefinitionOf p n d g → f ≡ g) → EachBoth (IsDefinitionOf p m) ds fs → EachBoth (IsDefinitionOf p n) ds gs → fs ≡ gs
  definitions_one [] [] [] one h g = refl
  definitions_one [] [] (k ∷ gs) one h g = absurd g
  definitions_one [] (f ∷ fs) gs one h g = absurd h
  definitions_one (d ∷ ds) [] gs one h g = absurd h
  definitions_one (d ∷ ds) (f ∷ fs) [] one h g = absurd g
  definitions_one (d ∷ ds) (f ∷ fs) (k ∷ gs) one h g =
      ap (λ x. x ∷ fs) (one 0 d f k refl refl refl h.0 g.0) ∙ ap (λ xs. k ∷ xs) (definitions_one ds fs gs (λ i e x y a b c. one (suc i) e x y a b c) h.1 g.1)

  one_of_two : m ≡ n
  one_of_two =
      let written = one_written p m n is also in
      let defined : m.definitions ≡ n.definitions = definitions_one is.written m.definitions n.definitions one_definition is.placed (subst (λ ds. EachBoth (IsDefinitionOf p n) ds n.definitions) (sym written) also.placed) in
      made (is.instances ∙ sym also.instances) (variables_one (variables_of p) m.variables n.variables is.variables also.variables) defined (is.symbols ∙ sym also.symbols)
      (formulas_one (conditions first_conditions p) m.at_first n.at_first is.at_first also.at_first) (formulas_one (conditions each_conditions p) m.at_each n.at_each is.at_each also.at_each)
      (formulas_one (conditions step_conditions p ++ conditions kept_conditions p) m.at_step n.at_step is.at_step also.at_step)
    where
      made : m.instances ≡ n.instances → m.variables ≡ n.variables → m.definitions ≡ n.definitions → m.symbols ≡ n.symbols → m.at_first ≡ n.at_first → m.at_each ≡ n.at_each → m.at_step ≡ n.at_step → m ≡ n
      made a b c d e f g =
          ap (λ z. record { instances = z; variables = m.variables; definitions = m.definitions; symbols = m.symbols; at_first = m.at_first; at_each = m.at_each; at_step = m.at_step }) a
          ∙ ap (λ z. record { instances = n.instances; variables = z; definitions = m.definitions; symbols = m.symbols; at_first = m.at_first; at_each = m.at_each; at_step = m.at_step }) b
          ∙ ap (λ z. record { instances = n.instances; variables = n.variables; definitions = z; symbols = m.symbols; at_first = m.at_first; at_each = m.at_each; at_step = m.at_step }) c
          ∙ ap (λ z. record { instances = n.instances; variables = n.variables; definitions = n.definitions; symbols = z; at_first = m.at_first; at_each = m.at_each; at_step = m.at_step }) d
          ∙ ap (λ z. record { instances = n.instances; variables = n.variables; definitions = n.definitions; symbols = n.symbols; at_first = z; at_each = m.at_each; at_step = m.at_step }) e
          ∙ ap (λ z. record { instances = n.instances; variables = n.variables; definitions = n.definitions; symbols = n.symbols; at_first = n.at_first; at_each = z; at_step = m.at_step }) f
          ∙ ap (λ z. record { instances = n.instances; variables = n.variables; definitions = n.definitions; symbols = n.symbols; at_first = n.at_first; at_each = n.at_each; at_step = z }) g

pub one_model : (p : ProgramTree) (m n : FlatModel) → IsWalkable p → (is : IsFlatOf p m) → KeysDiffer is.written → IsFlatOf p n → m ≡ n
one_model p m n walkable is apart also = one_of_two p walkable m n is also apart
