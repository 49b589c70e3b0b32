-- The definitions of items get their numbers, and items mean what they are numbered as.
use Rattle.std.proofs.Common.{◌≡◌, ℕ, suc, ◌+◌, ◌<◌, ◌≤◌, arith, Bool, true, false, eqb, ltb, ◌⊎◌, inl, inr, eqb-true, eq-eqb, List, [], ◌∷◌, ◌++◌, length, map, get_or, drop, take, Option, Some, None, Vec, refl, sym, ◌∙◌, ap, subst, append_assoc}
use Rattle.std.specs.Prelude.{slice_get, slice_set, option_map, flat_map}
use Rattle.std.specs.declared.alloc.Global.{Global}
use Rattle.std.proofs.lemmas.List.{drop_all, take_all, length-set, append-nil}
use Rattle.std.proofs.lemmas.Bool.{ltb-true, ltb-false}
use Rattle.std.specs.Borrow.{Bor}
use Rattle.smv_language.specs.declared.expr.Expr.{Expr}
use Rattle.smv_language.specs.declared.program.Decl.{Decl}
use Rattle.smv_language.specs.declared.program.Define.{Define}
use Rattle.smv_language.specs.Language.{Text, Path, Formula, instance, DeclTree, DefineTree, ProgramTree, tree_of, Place, Role, kind_declared, define_key, actual_key, an_instance_at, plain_name, kind_at, module_at, actual_of_kind, FlatInstance, texts, EachBoth}
use Rattle.smv_language.specs.Scope.{a_define}
use Rattle.smv_flat_laws.specs.Items.{Item as ItemOf, a_declaration, a_definition, an_assignment, some_constants, an_init, an_invar, a_trans, NumberedItem, items_named, instances_of}
use Rattle.smv_flat_laws.specs.Rules.{IsWalkable, expression_of, expression_of_kind}
use Rattle.smv_flat_laws.specs.Model.{Root, root_of_actual, roots_of_actuals, roots_of_type, roots_of_item, roots_of, symbols_of}
use Rattle.smv_flat_laws.proofs.Variables.{both_at, both_at_second}
use Rattle.smv_scope.specs.ItemTree.{item_tree, numbered_tree}
use Rattle.smv_scope.specs.SceneTree.{AreModules, IsPlaced, IsSet, Denotes, IsOwn, IsWalked, IsSpotWalked, IsSpot, IsDefined, meaning_of_declared, number_and_item, program_of}
use Rattle.smv_scope.specs.TableLookUps.{own_at, own_in, found_or}
use Rattle.smv_scope.specs.Steps.{numbered_at, count_in}
use Rattle.smv_scope.specs.KnownFormals.{rows_of, rows, AreTold}
use Rattle.smv_scope.specs.NumberedScenes.{IsLaidSpot, IsLaid, IsNaming, IsSameProgram, IsActualAt, NamesActual, IsItemAt, NamesDeclared, AreActualsAt, NamesActuals, NamesItem, roots_at, NamesItems, with_own_in, with_own, IsSpotBy, IsNamedTo}
use Rattle.smv_language.specs.declared.model.Role.{Role as Role'}
use Rattle.smv_scope.specs.declared.items.Item.{Item}
use Rattle.smv_scope.specs.declared.items.Item.TheVariants as code
use Rattle.smv_scope.specs.declared.items.Numbered.{Numbered}
use Rattle.smv_scope.specs.declared.walk.Meaning.{Meaning as Found}
use Rattle.smv_scope.specs.declared.walk.Meaning.TheVariants as found
use Rattle.smv_scope.specs.declared.walk.Spot.{Spot}
use Rattle.smv_scope.specs.declared.names.Formal.{Formal}
use Rattle.smv_scope.specs.declared.names.Defined.{Defined}
use Rattle.smv_scope.specs.declared.names.Scene.{Scene}
use Rattle.smv_scope.proofs.LookSplit.{never}
use Rattle.smv_scope.proofs.SceneItems.{item_listed, get_map}
use Rattle.smv_flat_laws.proofs.OneOfTwo.{set_get, set_own}
use Rattle.smv_scope.proofs.HeadKinds.{definition_kind, declaration_kind}
use Rattle.smv_scope.proofs.Naming.{program_same, naming_at, naming_pushed, left_number}
use Rattle.smv_scope.proofs.Frames.{actual_there}
use Rattle.std.proofs.lemmas.Option.{same_Some as of_some, slice_get_within as get_less}
use Rattle.smv_language.proofs.ListLaws.{take_there, get_there, drop_item}
use Rattle.smv_flat_laws.proofs.BothLaws.{both_push, both_long}
use Rattle.base_values.proofs.ListLaws.{get_within}

-- the item that the tables have is the program's
pub record Listed (n : Numbered) (y : NumberedItem) : Type 0 where
  pub number : n.number ≡ y.number
  pub item : item_tree n.item ≡ y.item

pub listed : (s : Scene) (spot place : ℕ) (at : FlatInstance) (y : NumberedItem) (walked : Found) (rest : List Root) → IsItemAt s spot place at y walked → IsNaming s rest → (o : Option Numbered) → numbered_at s spot place ≡ o →
    (n : Numbered) × (o ≡ Some n) × Listed n y
listed s spot place at y walked rest is naming o e = by_option o (ap (option_map numbered_tree) (sym e) ∙ item_listed s naming.laid spot at is.instance place ∙ ap (option_map number_and_item) is.listed)
  where
    by_option : (o : Option Numbered) → option_map numbered_tree o ≡ Some (number_and_item y) → (n : Numbered) × (o ≡ Some n) × Listed n y
    by_option None h = never (number_and_item y) h
    by_option (Some n) h =
        let both : numbered_tree n ≡ number_and_item y = of_some (numbered_tree n) (number_and_item y) h in
        (n, refl, record { number = ap (λ (q : ℕ × ItemOf). q.0) both; item = ap (λ (q : ℕ × ItemOf). q.1) both })

-- a define
pub define_named : (old new : Scene) (spot place made : ℕ) (n : Numbered) (d : DefineTree) (def : Defined) (walked : Found) → IsSameProgram old new → rows new ≡ rows old →
    new.definitions.items ≡ old.definitions.items ++ def ∷ [] → made ≡ length old.definitions.items → numbered_at old spot place ≡ Some n → item_tree n.item ≡ a_definition d →
    def.spot ≡ spot → def.item ≡ n.number → tree_of def.value.now ≡ d.value → NamesItem old new spot place walked (found.Definition made)
define_named old new spot place made n d def walked same same_rows pushed number is item at_spot at_item value = λ at y rest ia naming.
    by_listed at y rest ia naming (listed old spot place at y walked (roots_of_item at.place y.number y.item ++ rest) ia naming (Some n) is)
  where
    by_item : (at : FlatInstance) (number' : ℕ) (before : List ItemOf) (y : ItemOf) → y ≡ a_definition d → n.number ≡ number' → (rest : List Root) →
        IsItemAt old spot place at (record { number = number'; before = before; item = y }) walked →
        IsNaming old (roots_of_item at.place number' y ++ rest) → IsNaming new rest × IsOwn (program_of old) at.place (record { number = number'; before = before; item = y }) (found.Definition made)
    by_item at number' before y same_y same_number rest ia naming = (
      naming_pushed old new same same_rows def pushed root rest naming' defined (λ k i b e key open'. no_actual b.place i key),
      subst (λ z. IsOwn (program_of old) at.place (record { number = number'; before = before; item = z }) (found.Definition made)) (sym same_y)
          (root, ap (slice_get (roots_of (program_of old))) number ∙ left_number (program_of old) (rows old) old.definitions.items root rest naming'.left, refl, expression),
    )
      where
        root : Root
        root = record { key = define_key at.place d.name; item = number' }

        no_actual : (b : Place) (i : ℕ) → actual_key b i ≡ define_key at.place d.name → ⊥
        no_actual b i key = cc

        naming' : IsNaming old (root ∷ rest)
        naming' = subst (λ z. IsNaming old (roots_of_item at.place number' z ++ rest)) same_y naming

        kind : kind_at (module_at (program_of old) at.place) d.name ≡ a_define d.value
        kind = definition_kind (program_of old) naming.laid.walkable spot at ia.instance place number' before d
            (ia.listed ∙ ap (λ z. Some (record { number = number'; before = before; item = z })) same_y)

        expression : expression_of (program_of old) (define_key at.place d.name) ≡ Some (at.place, d.value)
        expression = ap (expression_of_kind at.place) kind

        defined : IsDefined (program_of old) root def
        defined = record {
          item = at_item ∙ same_number;
          at = at;
          is = ap (slice_get (instances_of (program_of old))) at_spot ∙ ia.instance;
          expression = expression ∙ ap (λ e. Some (at.place, e)) (sym value);
        }

    by_listed : (at : FlatInstance) (y : NumberedItem) (rest : List Root) → IsItemAt old spot place at y walked → IsNaming old (roots_of_item at.place y.number y.item ++ rest) →
        (m : Numbered) × (Some n ≡ Some m) × Listed m y → IsNaming new rest × IsOwn (program_of old) at.place y (found.Definition made)
    by_listed at y rest ia naming l =
        let same_n : n ≡ l.0 = of_some n l.0 l.1 in
        by_item at y.number y.before y.item (sym l.2.item ∙ ap (λ (m : Numbered). item_tree m.item) (sym same_n) ∙ item) (ap (λ (m : Numbered). m.number) same_n ∙ l.2.number) rest ia naming

-- a declaration
pub declared_named : (old new : Scene) (spot place : ℕ) (n : Numbered) (role : Role) (d : DeclTree) (walked : Found) → numbered_at old spot place ≡ Some n → item_tree n.item ≡ a_declaration role d →
    NamesDeclared old new spot n.number d walked → NamesItem old new spot place walked walked
declared_named old new spot place n role d walked is item names = λ at y rest ia naming.
    by_listed at y rest ia naming (listed old spot place at y walked (roots_of_item at.place y.number y.item ++ rest) ia naming (Some n) is)
  where
    by_item : (at : FlatInstance) (number' : ℕ) (before : List ItemOf) (y : ItemOf) → y ≡ a_declaration role d → n.number ≡ number' → (rest : List Root) →
        IsItemAt old spot place at (record { number = number'; before = before; item = y }) walked →
        IsNaming old (roots_of_item at.place number' y ++ rest) → IsNaming new rest × IsOwn (program_of old) at.place (record { number = number'; before = before; item = y }) walked
    by_item at number' before y same_y same_number rest ia naming = (
      names at role rest ia.instance kind means
          (subst (λ k. IsNaming old (roots_of_type (d.name ∷ at.place) k d.what ++ rest)) (sym same_number)
          (subst (λ z. IsNaming old (roots_of_item at.place number' z ++ rest)) same_y naming)),
      subst (λ z. IsOwn (program_of old) at.place (record { number = number'; before = before; item = z }) walked) (sym same_y) means,
    )
      where
        kind : kind_at (module_at (program_of old) at.place) d.name ≡ kind_declared role d.what
        kind = declaration_kind (program_of old) naming.laid.walkable spot at ia.instance place number' before role d
            (ia.listed ∙ ap (λ z. Some (record { number = number'; before = before; item = z })) same_y)

        means : Denotes (program_of old) walked (meaning_of_declared at.place d.name d.what)
        means = subst (λ z. IsWalked (program_of old) at.place z walked) same_y ia.meaning

    by_listed : (at : FlatInstance) (y : NumberedItem) (rest : List Root) → IsItemAt old spot place at y walked → IsNaming old (roots_of_item at.place y.number y.item ++ rest) →
        (m : Numbered) × (Some n ≡ Some m) × Listed m y → IsNaming new rest × IsOwn (program_of old) at.place y walked
    by_listed at y rest ia naming l =
        let same_n : n ≡ l.0 = of_some n l.0 l.1 in
        by_item at y.number y.before y.item (sym l.2.item ∙ ap (λ (m : Numbered). item_tree m.item) (sym same_n) ∙ item) (ap (λ (m : Numbered). m.number) same_n ∙ l.2.number) rest ia naming

-- an item without definitions
abbrev pub NamesNone : ItemOf → Type 0
NamesNone (a_declaration role d) = ⊥
NamesNone (a_definition d) = ⊥
NamesNone _ = Unit {0}

pub other_named : (old : Scene) (spot place : ℕ) (n : Numbered) (walked : Found) → numbered_at old spot place ≡ Some n → NamesNone (item_tree n.item) → NamesItem old old spot place walked walked
other_named old spot place n walked is none = λ at y rest ia naming.
    by_listed at y rest ia naming (listed old spot place at y walked (roots_of_item at.place y.number y.item ++ rest) ia naming (Some n) is)
  where
    by_item : (at : FlatInstance) (number' : ℕ) (before : List ItemOf) (y : ItemOf) → NamesNone y → (rest : List Root) → IsWalked (program_of old) at.place y walked →
        IsNaming old (roots_of_item at.place number' y ++ rest) → IsNaming old rest × IsOwn (program_of old) at.place (record { number = number'; before = before; item = y }) walked
    by_item at number' before (a_declaration role d) h rest w naming = absurd h
    by_item at number' before (a_definition d) h rest w naming = absurd h
    by_item at number' before (an_assignment a) h rest w naming = (naming, w)
    by_item at number' before (some_constants xs) h rest w naming = (naming, w)
    by_item at number' before (an_init e) h rest w naming = (naming, w)
    by_item at number' before (an_invar e) h rest w naming = (naming, w)
    by_item at number' before (a_trans e) h rest w naming = (naming, w)

    by_listed : (at : FlatInstance) (y : NumberedItem) (rest : List Root) → IsItemAt old spot place at y walked → IsNaming old (roots_of_item at.place y.number y.item ++ rest) →
        (m : Numbered) × (Some n ≡ Some m) × Listed m y → IsNaming old rest × IsOwn (program_of old) at.place y walked
    by_listed at y rest ia naming l =
        let same_n : n ≡ l.0 = of_some n l.0 l.1 in
        by_item at y.number y.before y.item (subst NamesNone (ap (λ (m : Numbered). item_tree m.item) same_n ∙ l.2.item) none) rest ia.meaning naming

pub no_item_named : (old : Scene) (spot place : ℕ) (walked : Found) → numbered_at old spot place ≡ None → NamesItem old old spot place walked walked
no_item_named old spot place walked none = λ at y rest ia naming.
    let l : (m : Numbered) × (None ≡ Some m) × Listed m y = listed old spot place at y walked (roots_of_item at.place y.number y.item ++ rest) ia naming None none in never l.0 l.1

-- the actuals of a declared instance
pub instance_named : (old new : Scene) (spot item inner : ℕ) (d : DeclTree) (m : Text) (es : List Formula) → d.what ≡ instance m es → NamesActuals old new spot item inner es → NamesDeclared old new spot item d (found.Instance inner)
instance_named old new spot item inner d m es what names = λ at role rest there kind denotes naming.
    let den : Denotes (program_of old) (found.Instance inner) (an_instance_at (d.name ∷ at.place)) =
    subst (λ w. Denotes (program_of old) (found.Instance inner) (meaning_of_declared at.place d.name w)) what denotes in
    let actuals : AreActualsAt (program_of old) spot inner es at den.0 =
    record { caller = there; instance = den.1; own = d.name; below = den.2; name = m; kind = kind ∙ ap (kind_declared role) what } in
    names at den.0 rest actuals
    (subst (λ q. IsNaming old (roots_of_actuals q 0 item es ++ rest)) (sym den.2)
    (subst (λ w. IsNaming old (roots_of_type (d.name ∷ at.place) item w ++ rest)) what naming))

-- some of an instance's actuals
abbrev pub NamedActuals : Scene → Scene → ℕ → ℕ → ℕ → List Formula → ℕ → Type 0
NamedActuals old new spot item inner es k =
    (at inside : FlatInstance) (rest : List Root) → AreActualsAt (program_of old) spot inner es at inside →
    IsNaming old (roots_of_actuals inside.place 0 item es ++ rest) → IsNaming new (roots_of_actuals inside.place k item (drop k es) ++ rest)

pub one_actual : (old mid new : Scene) (spot item inner : ℕ) (es : List Formula) (k : ℕ) (e : Formula) → slice_get es k ≡ Some e → program_of mid ≡ program_of old →
    NamedActuals old mid spot item inner es k → NamesActual mid new spot item inner k e → NamedActuals old new spot item inner es (k + 1)
one_actual old mid new spot item inner es k e there same so_far one = λ at inside rest actuals naming.
    let next : suc k ≡ k + 1 = omega arith in
    let is : IsActualAt (program_of old) spot inner k e at inside =
    record { caller = actuals.caller; instance = actuals.instance; own = actuals.own; below = actuals.below; actual = ap (λ q. actual_of_kind q k) actuals.kind ∙ actual_there es k e there } in
    let here : IsNaming mid (root_of_actual inside.place k item (plain_name e) ++ (roots_of_actuals inside.place (suc k) item (drop (suc k) es) ++ rest)) =
    subst (IsNaming mid)
    (ap (λ xs. roots_of_actuals inside.place k item xs ++ rest) (drop_item es k e there)
    ∙ append_assoc (root_of_actual inside.place k item (plain_name e)) (roots_of_actuals inside.place (suc k) item (drop (suc k) es)) rest)
    (so_far at inside rest actuals naming) in
    subst (λ j. IsNaming new (roots_of_actuals inside.place j item (drop j es) ++ rest)) next
    (one at inside (roots_of_actuals inside.place (suc k) item (drop (suc k) es) ++ rest) (subst (λ p. IsActualAt p spot inner k e at inside) (sym same) is) here)

pub all_actuals : (old new : Scene) (spot item inner : ℕ) (es : List Formula) (k : ℕ) → length es ≤ k → NamedActuals old new spot item inner es k → NamesActuals old new spot item inner es
all_actuals old new spot item inner es k past so_far = λ at inside rest actuals naming.
    subst (λ xs. IsNaming new (roots_of_actuals inside.place k item xs ++ rest)) (drop_all k es past) (so_far at inside rest actuals naming)

-- some of an instance's items
abbrev pub NamedItems : Scene → Scene → ℕ → ℕ → List Found → Type 0
NamedItems old new spot k own =
    (at : FlatInstance) (walked : Spot) (rest : List Root) → slice_get (instances_of (program_of old)) spot ≡ Some at → slice_get old.spots.items spot ≡ Some walked →
    IsSpotWalked (program_of old) at walked → IsNaming old (roots_at at (items_named (program_of old) at.module_name) ++ rest) →
    IsNaming new (roots_at at (drop k (items_named (program_of old) at.module_name)) ++ rest)
    × EachBoth (IsOwn (program_of old) at.place) (take k (items_named (program_of old) at.module_name)) own

pub one_item : (old mid new : Scene) (spot k : ℕ) (own : List Found) (walked meaning : Found) → IsSameProgram old mid → walked ≡ own_at mid spot k → k < count_in (slice_get old.spots.items spot) →
    NamedItems old mid spot k own → NamesItem mid new spot k walked meaning → NamedItems old new spot (k + 1) (own ++ meaning ∷ [])
one_item old mid new spot k own walked meaning same is within so_far one = λ at w rest there is_w walked_w naming.
    let p = program_of old in
    let items = items_named p at.module_name in
    let same_p : program_of mid ≡ p = program_same old mid same.modules in
    let next : suc k ≡ k + 1 = omega arith in
    let below : k < length w.own.items = subst (λ o. k < count_in o) is_w within in
    let f : (f : Found) × (slice_get w.own.items k ≡ Some f) = get_within w.own.items k below in
    let y : (y : NumberedItem) × (slice_get items k ≡ Some y) × IsWalked p at.place y.item f.0 =
    both_at_second (λ (n : NumberedItem). IsWalked p at.place n.item) items w.own.items k f.0 walked_w.own f.1 in
    let same_f : f.0 ≡ walked =
    sym (is ∙ ap (λ (v : Vec Spot Global). own_in (slice_get v.items spot) k) same.spots ∙ ap (λ o. own_in o k) is_w ∙ ap found_or f.1) in
    let s : IsNaming mid (roots_at at (drop k items) ++ rest) × EachBoth (IsOwn p at.place) (take k items) own = so_far at w rest there is_w walked_w naming in
    let here : IsNaming mid (roots_of_item at.place y.0.number y.0.item ++ (roots_at at (drop (suc k) items) ++ rest)) =
    subst (IsNaming mid)
    (ap (λ xs. roots_at at xs ++ rest) (drop_item items k y.0 y.1)
    ∙ append_assoc (roots_of_item at.place y.0.number y.0.item) (roots_at at (drop (suc k) items)) rest) s.0 in
    let ia : IsItemAt mid spot k at y.0 walked =
    record {
      instance = subst (λ q. slice_get (instances_of q) spot ≡ Some at) (sym same_p) there;
      listed = subst (λ q. slice_get (items_named q at.module_name) k ≡ Some y.0) (sym same_p) y.1;
      meaning = subst (λ q. IsWalked q at.place y.0.item walked) (sym same_p) (subst (IsWalked p at.place y.0.item) same_f y.2);
    } in
    let r : IsNaming new (roots_at at (drop (suc k) items) ++ rest) × IsOwn (program_of mid) at.place y.0 meaning = one at y.0 (roots_at at (drop (suc k) items) ++ rest) ia here in
    subst (λ j. IsNaming new (roots_at at (drop j items) ++ rest) × EachBoth (IsOwn p at.place) (take j items) (own ++ meaning ∷ [])) next (
      r.0,
      subst (λ xs. EachBoth (IsOwn p at.place) xs (own ++ meaning ∷ [])) (sym (take_there items k y.0 y.1))
          (both_push (IsOwn p at.place) (take k items) own y.0 meaning s.1 (subst (λ q. IsOwn q at.place y.0 meaning) same_p r.1)),
    )

pub all_items : (old new : Scene) (spot k : ℕ) (own : List Found) → count_in (slice_get old.spots.items spot) ≤ k → NamedItems old new spot k own → NamesItems old new spot own
all_items old new spot k own past so_far = λ at w rest there is_w walked_w naming.
    let p = program_of old in
    let items = items_named p at.module_name in
    let many : length w.own.items ≡ length items = both_long (λ (n : NumberedItem). IsWalked p at.place n.item) items w.own.items walked_w.own in
    let past_w : length w.own.items ≤ k = subst (λ o. count_in o ≤ k) is_w past in
    let past_items : length items ≤ k = omega (arith, many, past_w) in
    let s : IsNaming new (roots_at at (drop k items) ++ rest) × EachBoth (IsOwn p at.place) (take k items) own = so_far at w rest there is_w walked_w naming in (
      subst (λ xs. IsNaming new (roots_at at xs ++ rest)) (drop_all k items past_items) s.0,
      subst (λ xs. EachBoth (IsOwn p at.place) xs own) (take_all k items past_items) s.1,
    )

-- two lists that go together, by their places
pub both_from : {A B : Type 0} (R : A → B → Type 0) (xs : List A) (ys : List B) → length ys ≡ length xs → ((i : ℕ) (x : A) → slice_get xs i ≡ Some x → (y : B) × (slice_get ys i ≡ Some y) × R x y) → EachBoth R xs ys
both_from R [] [] n h = tt
both_from R [] (y ∷ ys) n h = absurd (omega (arith, n))
both_from R (x ∷ xs) [] n h = absurd (omega (arith, n))
both_from R (x ∷ xs) (y ∷ ys) n h =
    let first : (z : _) × (Some y ≡ Some z) × R x z = h 0 x refl in
    (subst (R x) (sym (of_some y first.0 first.1)) first.2, both_from R xs ys (omega (arith, n)) (λ i z e. h (suc i) z e))

set_other : {A : Type 0} (xs : List A) (i j : ℕ) (v : A) → (j ≡ i → ⊥) → slice_get (slice_set xs i v) j ≡ slice_get xs j
set_other xs i j v other = by_set (set_get xs i j v)
  where
    by_set : (slice_get (slice_set xs i v) j ≡ slice_get xs j) ⊎ ((j ≡ i) × (slice_get (slice_set xs i v) j ≡ Some v)) → slice_get (slice_set xs i v) j ≡ slice_get xs j
    by_set (inl e) = e
    by_set (inr e) = absurd (other e.0)

pub spot_laid : (p : ProgramTree) (k j : ℕ) (at : FlatInstance) (spots : List Spot) → (by : IsSpotBy p k j at spots) → IsLaidSpot p at by.spot
spot_laid p k j at spots by = by_order (ltb j k) refl
  where
    by_order : (b : Bool) → ltb j k ≡ b → IsLaidSpot p at by.spot
    by_order true e =
        let s : IsSpot p at by.spot = by.done (ltb-true j k e) in
        record { placed = s.placed; count = both_long (IsOwn p at.place) (items_named p at.module_name) by.spot.own.items s.own }
    by_order false e =
        let s : IsSpotWalked p at by.spot = by.walked (ltb-false j k e) in
        record { placed = s.placed; count = both_long (λ (n : NumberedItem). IsWalked p at.place n.item) (items_named p at.module_name) by.spot.own.items s.own }

pub spots_laid : (s : Scene) (k : ℕ) → AreModules s.modules → IsWalkable (program_of s) → length s.spots.items ≡ length (instances_of (program_of s)) →
    ((j : ℕ) (at : FlatInstance) → slice_get (instances_of (program_of s)) j ≡ Some at → IsSpotBy (program_of s) k j at s.spots.items) → IsLaid s
spots_laid s k modules walkable many spots = record {
  modules = modules;
  walkable = walkable;
  spots =
      both_from (IsLaidSpot (program_of s)) (instances_of (program_of s)) s.spots.items many
      (λ j at e. let by : IsSpotBy (program_of s) k j at s.spots.items = spots j at e in (by.spot, by.is, spot_laid (program_of s) k j at s.spots.items by));
}

-- one instance more
abbrev roots_by : ProgramTree → List FlatInstance → List Root
roots_by p is = flat_map (λ at. roots_at at (items_named p at.module_name)) is

module _ (old mid new : Scene) (k : ℕ) (own : Vec Found Global) (named : IsNamedTo old k) (within : k < length old.spots.items) (same : IsSameProgram old mid) (names : NamesItems old mid k own.items)
    (modules : new.modules ≡ mid.modules) (definitions : new.definitions ≡ mid.definitions) (formals : new.formals ≡ mid.formals) (spots : new.spots.items ≡ with_own mid.spots.items k own) where
  p : ProgramTree
  p = program_of old

  same_modules : new.modules ≡ old.modules
  same_modules = modules ∙ same.modules

  here : (at : FlatInstance) × (slice_get (instances_of (program_of old)) k ≡ Some at)
  here = get_within (instances_of (program_of old)) k (subst (λ n. k < n) named.many within)

  by : IsSpotBy (program_of old) k k here.0 old.spots.items
  by = named.spots k here.0 here.1

  made : Spot
  made = record { «module» = by.spot.«module»; caller = by.spot.caller; path = by.spot.path; actuals = by.spot.actuals; own = own }

  set_spots : new.spots.items ≡ slice_set old.spots.items k made
  unfolding made
  set_spots =
      spots
      ∙ ap (λ (v : Vec Spot Global). with_own v.items k own) same.spots
      ∙ ap (with_own_in old.spots.items k own) by.is

  results : IsNaming mid (roots_by (program_of old) (drop (suc k) (instances_of (program_of old)))) × EachBoth (IsOwn (program_of old) here.0.place) (items_named (program_of old) here.0.module_name) own.items
  results =
      names here.0 by.spot (roots_by (program_of old) (drop (suc k) (instances_of (program_of old)))) here.1 by.is (by.walked (omega arith))
      (subst (λ xs. IsNaming old (roots_by (program_of old) xs)) (drop_item (instances_of (program_of old)) k here.0 here.1) named.naming)

  is_made : (at : FlatInstance) → here.0 ≡ at → IsSpot (program_of old) at made
  unfolding made
  is_made at same_at = subst (λ a. IsSpot (program_of old) a made) same_at (record {
    placed = record { tree = pl.tree; is = pl.is; named = pl.named; items = pl.items; path = pl.path; called = pl.called };
    own = results.1;
  })
    where
      pl : IsPlaced (program_of old) here.0 by.spot
      pl = (by.walked (omega arith)).placed

  spots_by : (j : ℕ) (at : FlatInstance) → slice_get (instances_of (program_of old)) j ≡ Some at → IsSpotBy (program_of old) (k + 1) j at new.spots.items
  spots_by j at e = by_number (eqb j k) refl
    where
      differ : eqb j k ≡ false → j ≡ k → ⊥
      differ other alike = let t : true ≡ false = sym (eq-eqb j k alike) ∙ other in true_false t
        where
          true_false : true ≡ false → ⊥
          true_false h = cc

      by_number : (b : Bool) → eqb j k ≡ b → IsSpotBy (program_of old) (k + 1) j at new.spots.items
      by_number true alike =
          let same_j : j ≡ k = eqb-true j k alike in
          let same_at : here.0 ≡ at = of_some here.0 at (sym here.1 ∙ ap (slice_get (instances_of (program_of old))) (sym same_j) ∙ e) in
          record {
            spot = made;
            is = ap (λ xs. slice_get xs j) set_spots ∙ ap (slice_get (slice_set old.spots.items k made)) same_j ∙ set_own old.spots.items k made within;
            done = λ h. is_made at same_at;
            walked = λ h. absurd (omega (arith, h, same_j));
          }
      by_number false unlike =
          let other : j ≡ k → ⊥ = differ unlike in
          let old_by : IsSpotBy (program_of old) k j at old.spots.items = named.spots j at e in
          record {
            spot = old_by.spot;
            is = ap (λ xs. slice_get xs j) set_spots ∙ set_other old.spots.items k j made other ∙ old_by.is;
            done = λ h. old_by.done (omega (arith, h, other));
            walked = λ h. old_by.walked (omega (arith, h));
          }

  many_new : length new.spots.items ≡ length (instances_of (program_of old))
  many_new = ap (λ xs. length xs) set_spots ∙ length-set old.spots.items k made ∙ named.many

  same_p : program_of old ≡ program_of new
  same_p = sym (program_same old new same_modules)

  laid_new : IsLaid new
  laid_new =
      spots_laid new (k + 1) (subst AreModules (sym same_modules) named.naming.laid.modules) (subst IsWalkable same_p named.naming.laid.walkable)
      (subst (λ q. length new.spots.items ≡ length (instances_of q)) same_p many_new)
      (subst (λ q. (j : ℕ) (at : FlatInstance) → slice_get (instances_of q) j ≡ Some at → IsSpotBy q (k + 1) j at new.spots.items) same_p spots_by)

  pub one_named : IsNamedTo new (k + 1)
  one_named = record {
    many = subst (λ q. length new.spots.items ≡ length (instances_of q)) same_p many_new;
    spots = subst (λ q. (j : ℕ) (at : FlatInstance) → slice_get (instances_of q) j ≡ Some at → IsSpotBy q (k + 1) j at new.spots.items) same_p spots_by;
    naming =
        subst (λ q. IsNaming new (roots_by q (drop (k + 1) (instances_of q)))) same_p
        (subst (λ n. IsNaming new (roots_by (program_of old) (drop n (instances_of (program_of old))))) next
        (naming_at mid new modules laid_new mid.definitions.items (rows mid) (roots_by (program_of old) (drop (suc k) (instances_of (program_of old))))
        (ap (λ (v : Vec Defined Global). v.items) definitions) (ap (λ (v : Vec (Vec Formal Global) Global). rows_of v.items) formals) results.0.left results.0.told));
  }
    where
      next : suc k ≡ k + 1
      next = omega arith

-- all instances
pub all_roots : (s : Scene) → (named : IsNamedTo s (length (instances_of (program_of s)))) → roots_of (program_of s) ≡ named.naming.left.before
all_roots s named =
    named.naming.left.roots ∙ ap (λ xs. named.naming.left.before ++ roots_by (program_of s) xs) none ∙ append-nil named.naming.left.before
  where
    none : drop (length (instances_of (program_of s))) (instances_of (program_of s)) ≡ []
    none = drop_all (length (instances_of (program_of s))) (instances_of (program_of s)) (omega arith)

pub named_set : (s : Scene) → IsNamedTo s (length (instances_of (program_of s))) → texts s.symbols.keys ≡ symbols_of (program_of s) → length s.symbols.keys < 4294967296 → IsSet s
named_set s named symbols few = record {
  modules = named.naming.laid.modules;
  walkable = named.naming.laid.walkable;
  spots =
      both_from (IsSpot (program_of s)) (instances_of (program_of s)) s.spots.items named.many
      (λ j at e. let by : IsSpotBy (program_of s) (length (instances_of (program_of s))) j at s.spots.items = named.spots j at e in (by.spot, by.is, by.done (get_less (instances_of (program_of s)) j at e)));
  symbols = symbols;
  few_symbols = few;
  definitions = subst (λ rs. EachBoth (IsDefined (program_of s)) rs s.definitions.items) (sym (all_roots s named)) named.naming.left.numbered;
}

-- none yet
pub none_named : (s : Scene) → AreModules s.modules → IsWalkable (program_of s) → EachBoth (IsSpotWalked (program_of s)) (instances_of (program_of s)) s.spots.items → s.definitions.items ≡ [] →
    AreTold (program_of s) (rows s) → IsNamedTo s 0
none_named s modules walkable spots none told = record {
  many = both_long (IsSpotWalked (program_of s)) (instances_of (program_of s)) s.spots.items spots;
  spots = by;
  naming = record {
    laid = spots_laid s 0 modules walkable (both_long (IsSpotWalked (program_of s)) (instances_of (program_of s)) s.spots.items spots) by;
    left = record { before = []; roots = refl; numbered = subst (EachBoth (IsDefined (program_of s)) []) (sym none) tt; actuals = tt };
    told = told;
  };
}
  where
    by : (j : ℕ) (at : FlatInstance) → slice_get (instances_of (program_of s)) j ≡ Some at → IsSpotBy (program_of s) 0 j at s.spots.items
    by j at e =
        let w : (w : Spot) × (slice_get s.spots.items j ≡ Some w) × IsSpotWalked (program_of s) at w = both_at (IsSpotWalked (program_of s)) (instances_of (program_of s)) s.spots.items j at spots e in
        record { spot = w.0; is = w.1; done = λ h. absurd (omega (arith, h)); walked = λ h. w.2 }

-- an item that is no declaration and no define
pub no_names : (i : Item) → ((r : Role') (d : Bor Decl) → i ≡ code.Declared r d → ⊥) → ((d : Bor Define) → i ≡ code.Defined d → ⊥) → NamesNone (item_tree i)
no_names (code.Declared r d) h g = h r d refl
no_names (code.Defined d) h g = g d refl
no_names (code.Assigned a) h g = tt
no_names (code.Constants xs) h g = tt
no_names (code.Init e) h g = tt
no_names (code.Invar e) h g = tt
no_names (code.Trans e) h g = tt

-- the tree of the expression at a place
pub tree_there : (es : List (Expr Path)) (k : ℕ) (e : Expr Path) → k < length es → e ≡ get_or es k e → slice_get (map tree_of es) k ≡ Some (tree_of e)
tree_there es k e within is = get_map tree_of es k ∙ ap (option_map tree_of) (get_there es k e within is)

pub same_many : (old new : Scene) (j k : ℕ) → new.modules ≡ old.modules → IsNamedTo old j → IsNamedTo new k → length new.spots.items ≡ length old.spots.items
same_many old new j k same a b = b.many ∙ ap (λ p. length (instances_of p)) (program_same old new same) ∙ sym a.many
