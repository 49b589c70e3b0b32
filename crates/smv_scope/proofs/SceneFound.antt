-- What the tables of a scene tell of a name is what is found for it.
use Rattle.std.proofs.Common.{◌≡◌, ℕ, zero, suc, ◌+◌, ◌<◌, arith, Bool, true, false, List, [], ◌∷◌, length, Option, Some, None, Vec, refl, sym, ◌∙◌, ap, subst, if◌then◌else◌}
use Rattle.std.specs.Prelude.{slice_get, nat_lt, codes}
use Rattle.std.proofs.lemmas.List.{length-map}
use Rattle.std.proofs.lemmas.Bool.{lt-ltb}
use Rattle.std.specs.declared.alloc.Global.{Global}
use Rattle.smv_language.specs.Language.{Text, Path, DeclaredTree, boolean, range, members, instance, ModuleTree, ProgramTree, Place, Role, Kind, kind_declared, undeclared, define_key, Meaning, an_expression_at, by_kind, means_in, Means, is_symbol, find_module, formal_from, kind_at, module_at, kind_after_formals, IsInstance, FlatInstance, texts, first_with}
use Rattle.smv_language.specs.Scope.{a_symbol}
use Rattle.smv_flat_laws.specs.Items.{Item, a_declaration, a_definition, an_assignment, some_constants, an_init, an_invar, a_trans, NumberedItem, items_of, items_named, modules_of, instances_of}
use Rattle.smv_flat_laws.specs.Looks.{step_kind, MeansNothing}
use Rattle.smv_flat_laws.specs.Model.{symbols_of}
use Rattle.smv_flat_laws.proofs.EndLaws.{ended_meets_none}
use Rattle.smv_flat_laws.proofs.KindLaws.{kind_of_item, kind_in_items}
use Rattle.smv_flat_laws.proofs.Places.{found_at as item_there, are_instances}
use Rattle.smv_flat_laws.proofs.Sections.{AreInstances}
use Rattle.smv_flat_laws.proofs.Variables.{both_at}
use Rattle.smv_flat_laws.proofs.Walkable.{main_is_there}
use Rattle.smv_scope.specs.SceneTree.{gives_name, item_from, local_after, local_of, HasNames, Denotes, IsFound, meaning_of_declared, meaning_of_item, IsOwnMeaning, IsOwn, IsSpot, IsKnown, formals_of, AreKnown, program_of, IsSet, IsScene}
use Rattle.smv_scope.specs.TableLookUps.{names_of_spot, local_in, local_at, found_or, own_in, own_at, formal_or, formal_in, formal_at, told, symbol_or, symbol_at, by_local, part_at, found_inside}
use Rattle.smv_scope.specs.TableLookUps as tables
use Rattle.smv_scope.specs.declared.modules.Local.{Local}
use Rattle.smv_scope.specs.declared.modules.Local.TheVariants as local
use Rattle.smv_scope.specs.declared.modules.ModuleNames.{ModuleNames}
use Rattle.smv_scope.specs.declared.walk.Meaning.{Meaning as Found}
use Rattle.smv_scope.specs.declared.walk.Meaning.TheVariants as found
use Rattle.smv_scope.specs.declared.walk.Spot.{Spot}
use Rattle.smv_scope.specs.declared.names.Formal.{Formal}
use Rattle.smv_scope.specs.declared.names.Formal.TheVariants as known
use Rattle.smv_scope.specs.declared.names.Scene.{Scene}
use Rattle.smv_scope.proofs.LookFound.{nothing_at_all, found_parts}
use Rattle.smv_scope.proofs.NameKinds.{locals_told, Given, item_given, none_given, kind_by_items}
use Rattle.smv_flat_laws.proofs.SymbolLaws.{symbols_among}
use Rattle.smv_scope.proofs.SymbolKinds.{PlacedAt, placed_at, not_placed}
use Rattle.smv_language.proofs.OneTree.{same_text_equal}
use Rattle.smv_flat_laws.proofs.Meant.{formal_is as formal_named}

-- a meaning that is denoted is found
pub denoted : (p : ProgramTree) (at : Place) (name : Path) (f : Found) (m : Meaning) → Means p at name m → Denotes p f m → IsFound p at name f
denoted p at name (found.Variable number role) m means d = (m, means, d)
denoted p at name (found.Instance k) m means d = (m, means, d)
denoted p at name (found.Definition k) m means d = (m, means, d)
denoted p at name (found.Symbol k) m means d = (m, means, d)
denoted p at name found.Nothing m means d = absurd d
denoted p at name found.Loop m means d = absurd d

-- a declared name means what is declared
abbrev alone : ProgramTree → Place → Kind → Text → Option Meaning
alone p at kind x = by_kind (means_in 0 p) p at kind x []

declared_alone : (p : ProgramTree) (at : Place) (x : Text) (role : Role) (what : DeclaredTree) → alone p at (kind_declared role what) x ≡ Some (meaning_of_declared at x what)
declared_alone p at x role boolean = refl
declared_alone p at x role (range lo hi) = refl
declared_alone p at x role (members ms) = refl
declared_alone p at x role (instance m actuals) = refl

-- what the item that gives a name makes of it
abbrev Made : ProgramTree → Place → Text → Item → Type 0
Made p at x item = (m : Meaning) × (meaning_of_item at item ≡ Some m) × (alone p at (kind_of_item item x undeclared) x ≡ Some m)

item_made : (p : ProgramTree) (at : Place) (x : Text) (item : Item) → gives_name x item ≡ true → Made p at x item
item_made p at x (a_declaration role d) t = (
  meaning_of_declared at d.name d.what,
  refl,
  rw t (declared_alone p at x role d.what) ∙ ap (λ y. Some (meaning_of_declared at y d.what)) (sym (same_text_equal d.name x t)),
)
item_made p at x (a_definition d) t = (
  an_expression_at (define_key at d.name) at d.value,
  refl,
  rw t (ap (λ y. Some (an_expression_at (define_key at y) at d.value)) (sym (same_text_equal d.name x t))),
)
item_made p at x (an_assignment a) t = let bad : false ≡ true = t in cc
item_made p at x (some_constants xs) t = let bad : false ≡ true = t in cc
item_made p at x (an_init e) t = let bad : false ≡ true = t in cc
item_made p at x (an_invar e) t = let bad : false ≡ true = t in cc
item_made p at x (a_trans e) t = let bad : false ≡ true = t in cc

-- a name that is nothing in its module
symbol_alone : (p : ProgramTree) (at : Place) (x : Text) (n : ℕ) → kind_at (module_at p at) x ≡ undeclared → is_symbol p x ≡ true → means_in (suc n) p at (x ∷ []) ≡ Some (a_symbol x)
symbol_alone p at x n kind is = ap (λ k. by_kind (means_in n p) p at k x []) kind ∙ ap (λ b. if b then Some (a_symbol x) else None) is

no_symbol : (p : ProgramTree) (at : Place) (x : Text) (n : ℕ) → kind_at (module_at p at) x ≡ undeclared → is_symbol p x ≡ false → means_in n p at (x ∷ []) ≡ None
no_symbol p at x zero kind is = refl
no_symbol p at x (suc n) kind is = ap (λ k. by_kind (means_in n p) p at k x []) kind ∙ ap (λ b. if b then Some (a_symbol x) else None) is

undeclared_nothing : (p : ProgramTree) (at : Place) (x : Text) → kind_at (module_at p at) x ≡ undeclared → is_symbol p x ≡ false → MeansNothing p at (x ∷ [])
undeclared_nothing p at x kind is = record {
  no_meaning = λ n. no_symbol p at x n kind is;
  no_loop = ended_meets_none 1 p at (x ∷ []) (ap (λ k. step_kind p at k x []) kind);
}

symbol_found : (p : ProgramTree) (at : Place) (x : Text) (o : Option ℕ) → formal_from 0 (symbols_of p) x ≡ o → length (symbols_of p) < 4294967296 →
    kind_at (module_at p at) x ≡ undeclared → IsFound p at (x ∷ []) (symbol_or o)
symbol_found p at x None e few kind = undeclared_nothing p at x kind (sym (symbols_among p x) ∙ not_placed 0 (symbols_of p) x e)
symbol_found p at x (Some i) e few kind =
    let placed : (j : ℕ) × (i ≡ 0 + j) × PlacedAt (symbols_of p) x j = placed_at 0 (symbols_of p) x i e in
    let same : i ≡ placed.0 = omega (arith, placed.1) in
    let small : i < 4294967296 = let below : placed.0 < length (symbols_of p) = placed.2.below in omega (arith, same, below, few) in
    let fits : nat_lt i 4294967296 ≡ true = lt-ltb i 4294967296 small in
    subst (IsFound p at (x ∷ [])) (sym (ap (λ b. if b then found.Symbol i else found.Nothing) fits))
    (a_symbol x, (1, symbol_alone p at x 0 kind (sym (symbols_among p x) ∙ placed.2.among)), ap (slice_get (symbols_of p)) same ∙ placed.2.there)

-- what a loop of formals is found as
pub told_found : (p : ProgramTree) (at : Place) (x : Text) (k : Formal) → IsKnown p at x k → IsFound p at (x ∷ []) (told k)
told_found p at x (known.Means f) h = h.0
told_found p at x known.Circle h = (0, at, x, [], refl, h)
told_found p at x known.Begun h = absurd h
told_found p at x known.Unknown h = absurd h

module _ (s : Scene) (set : IsSet s) where
  -- an instance with its module and its names
  pub record Stand (spot : ℕ) (at : FlatInstance) : Type 0 where
    pub own : Spot
    pub is : slice_get s.spots.items spot ≡ Some own
    pub fits : IsSpot (program_of s) at own
    pub tree : ModuleTree
    pub instance : module_at (program_of s) at.place ≡ Some tree
    pub named : find_module (program_of s) at.module_name ≡ Some tree
    pub locals : (x : Text) → local_at s spot x ≡ local_of tree x

  pub instances : AreInstances (program_of s)
  instances =
      let main : (m : ModuleTree) × (find_module (program_of s) (codes "main") ≡ Some m) = main_is_there (program_of s) set.walkable in
      are_instances (program_of s) set.walkable main.0 main.1

  pub stand : (spot : ℕ) (at : FlatInstance) → slice_get (instances_of (program_of s)) spot ≡ Some at → Stand spot at
  stand spot at e = record {
    own = here.0;
    is = here.1;
    fits = here.2;
    tree = here.2.placed.tree.tree;
    instance = real.1 ∙ same;
    named = here.2.placed.named;
    locals = λ x.
        ap (λ o. local_in (names_of_spot s o) x) here.1
        ∙ ap (λ o. local_in o x) names.1
        ∙ ap (λ es. first_with es x) names.2.locals
        ∙ locals_told here.2.placed.tree.tree x;
  }
    where
      here : (own : Spot) × (slice_get s.spots.items spot ≡ Some own) × IsSpot (program_of s) at own
      here = both_at (IsSpot (program_of s)) (instances_of (program_of s)) s.spots.items spot at set.spots e

      names : (n : ModuleNames) × (slice_get s.modules.list.items here.0.«module» ≡ Some n) × HasNames here.2.placed.tree n
      names = both_at HasNames (modules_of (program_of s)) s.modules.list.items here.0.«module» here.2.placed.tree set.modules.list here.2.placed.is

      real : (m : ModuleTree) × IsInstance (program_of s) at.place m × (find_module (program_of s) at.module_name ≡ Some m)
      real = instances.real spot at e

      same : Some real.0 ≡ Some here.2.placed.tree.tree
      same = sym real.2 ∙ here.2.placed.named

  module _ (spot : ℕ) (at : FlatInstance) (st : Stand spot at) (x : Text) where
    pub kind : kind_at (module_at (program_of s) at.place) x ≡ kind_after_formals (formal_from 0 st.tree.formals x) (kind_in_items (items_of st.tree) x)
    kind = ap (λ o. kind_at o x) st.instance ∙ kind_by_items st.tree x

    -- what the item that gives the name means here
    item_found : (k : ℕ) → formal_from 0 st.tree.formals x ≡ None → item_from 0 (items_of st.tree) x ≡ Some k → IsFound (program_of s) at.place (x ∷ []) (own_at s spot k)
    item_found k none e =
        let g : (j : ℕ) × (k ≡ 0 + j) × Given (items_of st.tree) x j = item_given 0 (items_of st.tree) x k e in
        let same : k ≡ g.0 = omega (arith, g.1) in
        let y : (y : NumberedItem) × (slice_get (items_named (program_of s) at.module_name) g.0 ≡ Some y) × (y.item ≡ g.2.item) =
        item_there (program_of s) set.walkable (program_of s) 1 [] at.module_name st.tree g.0 g.2.item st.named g.2.there in
        let f : (f : Found) × (slice_get st.own.own.items g.0 ≡ Some f) × IsOwn (program_of s) at.place y.0 f =
        both_at (IsOwn (program_of s) at.place) (items_named (program_of s) at.module_name) st.own.own.items g.0 y.0 st.fits.own y.1 in
        let made : Made (program_of s) at.place x g.2.item = item_made (program_of s) at.place x g.2.item g.2.gives in
        let own : own_at s spot k ≡ f.0 = ap (λ o. own_in o k) st.is ∙ ap (λ j. found_or (slice_get st.own.own.items j)) same ∙ ap found_or f.1 in
        let denotes : Denotes (program_of s) f.0 made.0 =
        subst (λ o. IsOwnMeaning (program_of s) o f.0) (ap (meaning_of_item at.place) y.2 ∙ made.1) f.2 in
        let means : means_in 1 (program_of s) at.place (x ∷ []) ≡ Some made.0 =
        ap (λ q. alone (program_of s) at.place q x) (kind ∙ ap (λ o. kind_after_formals o (kind_in_items (items_of st.tree) x)) none ∙ g.2.kind) ∙ made.2 in
        subst (IsFound (program_of s) at.place (x ∷ [])) (sym own) (denoted (program_of s) at.place (x ∷ []) f.0 made.0 (1, means) denotes)

    symbol_here : formal_from 0 st.tree.formals x ≡ None → item_from 0 (items_of st.tree) x ≡ None → IsFound (program_of s) at.place (x ∷ []) (symbol_at s x)
    symbol_here none e =
        symbol_found (program_of s) at.place x (formal_from 0 (texts s.symbols.keys) x) (ap (λ xs. formal_from 0 xs x) (sym set.symbols)) few
        (kind ∙ ap (λ o. kind_after_formals o (kind_in_items (items_of st.tree) x)) none ∙ none_given 0 (items_of st.tree) x e)
      where
        few : length (symbols_of (program_of s)) < 4294967296
        few = subst (λ n. n < 4294967296) (sym (length-map s.symbols.keys (λ k. k.now)) ∙ ap (λ (xs : List Text). length xs) set.symbols) set.few_symbols

    -- a part, where what is known of it is right if it is a formal
    pub one_found : ((i : ℕ) → formal_from 0 st.tree.formals x ≡ Some i → IsFound (program_of s) at.place (x ∷ []) (told (formal_at s spot i))) →
        IsFound (program_of s) at.place (x ∷ []) (part_at s spot true x)
    one_found known_one =
        subst (λ o. IsFound (program_of s) at.place (x ∷ []) (by_local s spot true x o)) (sym (st.locals x))
        (by_both (formal_from 0 st.tree.formals x) (item_from 0 (items_of st.tree) x) refl refl)
      where
        by_both : (o i : Option ℕ) → formal_from 0 st.tree.formals x ≡ o → item_from 0 (items_of st.tree) x ≡ i →
            IsFound (program_of s) at.place (x ∷ []) (by_local s spot true x (local_after o i))
        by_both (Some i) o e d = known_one i e
        by_both None (Some k) e d = item_found k e d
        by_both None None e d = symbol_here e d

  -- that no part comes after it makes no difference where one does
  pub last_or_not : (spot : ℕ) (x : Text) (look : ℕ → Found) → found_inside look (part_at s spot true x) ≡ found_inside look (part_at s spot false x)
  last_or_not spot x look = by_local' (local_at s spot x)
    where
      by_fit : (k : ℕ) (b : Bool) → found_inside look (if b then found.Symbol k else found.Nothing) ≡ found.Nothing
      by_fit k true = refl
      by_fit k false = refl

      by_symbol : (o : Option ℕ) → found_inside look (symbol_or o) ≡ found.Nothing
      by_symbol None = refl
      by_symbol (Some k) = by_fit k (nat_lt k 4294967296)

      by_local' : (o : Option Local) → found_inside look (by_local s spot true x o) ≡ found_inside look (by_local s spot false x o)
      by_local' None = by_symbol (formal_from 0 (texts s.symbols.keys) x)
      by_local' (Some (local.Formal i)) = refl
      by_local' (Some (local.Item k)) = refl

module _ (s : Scene) (is : IsScene s) where
  formal_found : (spot : ℕ) (at : FlatInstance) → slice_get (instances_of (program_of s)) spot ≡ Some at → (st : Stand s is.set spot at) (x : Text) (i : ℕ) → formal_from 0 st.tree.formals x ≡ Some i →
      IsFound (program_of s) at.place (x ∷ []) (told (formal_at s spot i))
  formal_found spot at e st x i formal =
      let row : (fs : Vec Formal Global) × (slice_get s.formals.items spot ≡ Some fs) × AreKnown (program_of s) at fs.items =
      both_at (λ (i : FlatInstance) (fs : Vec Formal Global). AreKnown (program_of s) i fs.items) (instances_of (program_of s)) s.formals.items spot at is.formals e in
      let own : (j : ℕ) × (i ≡ 0 + j) × (slice_get st.tree.formals j ≡ Some x) = formal_named 0 st.tree.formals x i formal in
      let same : i ≡ own.0 = omega (arith, own.1) in
      let listed : slice_get (formals_of (find_module (program_of s) at.module_name)) own.0 ≡ Some x = ap (λ o. slice_get (formals_of o) own.0) st.named ∙ own.2 in
      let k : (k : Formal) × (slice_get row.0.items own.0 ≡ Some k) × IsKnown (program_of s) at.place x k =
      both_at (IsKnown (program_of s) at.place) (formals_of (find_module (program_of s) at.module_name)) row.0.items own.0 x row.2 listed in
      let is_k : formal_at s spot i ≡ k.0 = ap (λ o. formal_in o i) row.1 ∙ ap (λ j. formal_or (slice_get row.0.items j)) same ∙ ap formal_or k.1 in
      subst (λ f. IsFound (program_of s) at.place (x ∷ []) (told f)) (sym is_k) (told_found (program_of s) at.place x k.0 k.2)

  part_found : (spot : ℕ) (at : FlatInstance) → slice_get (instances_of (program_of s)) spot ≡ Some at → (x : Text) → IsFound (program_of s) at.place (x ∷ []) (part_at s spot true x)
  part_found spot at e x =
      let st : Stand s is.set spot at = stand s is.set spot at e in
      one_found s is.set spot at st x (formal_found spot at e st x)

  -- what the tables of a scene tell of a name is what is found for it
  pub scene_found : (name : Path) (spot : ℕ) (at : FlatInstance) → slice_get (instances_of (program_of s)) spot ≡ Some at → IsFound (program_of s) at.place name (tables.found_at s spot name)
  scene_found [] spot at e = nothing_at_all (program_of s) at.place
  scene_found (x ∷ []) spot at e = part_found spot at e x
  scene_found (x ∷ (y ∷ rest)) spot at e =
      subst (IsFound (program_of s) at.place (x ∷ y ∷ rest)) (last_or_not s is.set spot x (λ k. tables.found_at s k (y ∷ rest)))
      (found_parts (program_of s) at.place x y rest (λ k. tables.found_at s k (y ∷ rest)) (part_at s spot true x) (part_found spot at e x)
      (λ k i f there. scene_found (y ∷ rest) k i there))
