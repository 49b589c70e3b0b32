-- What a name means is declared or written in its program, and the definitions that are meant are listed and keep the rules.
use Rattle.std.proofs.Common.{◌≡◌, ℕ, zero, suc, ◌+◌, arith, Bool, true, false, List, [], ◌∷◌, ◌++◌, Option, Some, None, refl, sym, ◌∙◌, ap, subst}
use Rattle.std.specs.Prelude.{slice_get, flat_map, if◌then◌else◌}
use Rattle.std.proofs.lemmas.Option.{same_Some}
use Rattle.std.proofs.lemmas.Bool.{false_from_ne_true as not_true}
use Rattle.smv_language.specs.Language.{Text, Path, Formula, DeclaredTree, boolean, range, members, instance, ModuleTree, ProgramTree, Place, Role, Kind, a_formal, a_variable, an_instance, undeclared, kind_declared, kind_in, kind_at, module_at, find_module, nth_formula, actual_of_kind, is_symbol, Key, define_key, actual_key, Meaning, a_variable_at, an_expression_at, an_instance_at, plain_name, through_plain, through_actual, by_kind, means_in, IsInstance, Each, FlatInstance}
use Rattle.smv_language.specs.Scope.{a_define, a_symbol}
use Rattle.smv_flat_laws.specs.NameResolution.{has_next}
use Rattle.smv_flat_laws.specs.Items.{Item, a_declaration, a_definition, an_assignment, some_constants, an_init, an_invar, a_trans, NumberedItem, items_of, items_named, instances_of}
use Rattle.smv_flat_laws.specs.Rules.{SomeHasNoValue, NeedsItself, expression_of, expression_of_kind, expression_in, IsWalkable, IsAccepted}
use Rattle.smv_flat_laws.specs.Model.{Root, root_of_actual, roots_of_actuals, roots_of_type, roots_of_item, roots_of}
use Rattle.smv_flat_laws.proofs.Conditions.{each_flat, each_from, each_join, each_at}
use Rattle.smv_flat_laws.proofs.Flattening.{all_instances}
use Rattle.smv_flat_laws.proofs.Kept.{KeptItem, kept_at, declared_there, module_there, no_names, no_loops, no_next}
use Rattle.smv_flat_laws.proofs.KindLaws.{ItemFacts, DeclaredBy, kind_of_declaration, kind_of_definition}
use Rattle.smv_flat_laws.proofs.Listed.{ListedItem, listed_item, root_listed, DefinedBy, defined_there, actual_root}
use Rattle.smv_flat_laws.proofs.Meant.{KeptActual, kept_actual}
use Rattle.smv_flat_laws.proofs.Places.{In, facts_named}
use Rattle.smv_flat_laws.proofs.Walkable.{accepted_walkable}

module _ (p : ProgramTree) where
  -- a define's expression, or that of an actual which is no plain name
  abbrev pub IsWritten : Key → Place → Formula → Type 0
  IsWritten (define_key at x) bt e = (at ≡ bt) × (kind_at (module_at p at) x ≡ a_define e)
  IsWritten (actual_key [] i) bt e = ⊥
  IsWritten (actual_key (own ∷ caller) i) bt e = (caller ≡ bt) × (actual_of_kind (kind_at (module_at p caller) own) i ≡ Some e) × (plain_name e ≡ None)

  abbrev pub IsThere : Meaning → Type 0
  IsThere (a_variable_at bt x) = (role : Role) × (what : DeclaredTree) × (kind_at (module_at p bt) x ≡ a_variable role what)
  IsThere (an_expression_at key bt e) = IsWritten key bt e
  IsThere (an_instance_at bt) = Unit {0}
  IsThere (a_symbol x) = is_symbol p x ≡ true

  abbrev Goes : ℕ → Type 0
  Goes n = (at : Place) (name : Path) (m : Meaning) → means_in n p at name ≡ Some m → IsThere m

  by_plain : (n : ℕ) → Goes n → (key : Key) (caller : Place) (e : Formula) (o : Option Path) (rest : Path) (m : Meaning) → through_plain (means_in n p) key caller e o rest ≡ Some m →
      (o ≡ None → IsWritten key caller e) → IsThere m
  by_plain n go key caller e (Some []) rest m h written = cc
  by_plain n go key caller e (Some (x ∷ name)) rest m h written = go caller (x ∷ (name ++ rest)) m h
  by_plain n go key caller e None [] m h written = subst IsThere (same_Some (an_expression_at key caller e) m h) (written refl)
  by_plain n go key caller e None (x ∷ rest) m h written = cc

  by_actual : (n : ℕ) → Goes n → (own : Text) (caller : Place) (i : ℕ) (o : Option Formula) → actual_of_kind (kind_at (module_at p caller) own) i ≡ o → (rest : Path) (m : Meaning) →
      through_actual (means_in n p) (actual_key (own ∷ caller) i) caller o rest ≡ Some m → IsThere m
  by_actual n go own caller i None e rest m h = cc
  by_actual n go own caller i (Some f) e rest m h = by_plain n go (actual_key (own ∷ caller) i) caller f (plain_name f) rest m h (λ plain. (refl, e, plain))

  by_symbol : (x : Text) (b : Bool) → is_symbol p x ≡ b → (m : Meaning) → (if b then Some (a_symbol x) else None) ≡ Some m → IsThere m
  by_symbol x true e m h = subst IsThere (same_Some (a_symbol x) m h) e
  by_symbol x false e m h = cc

  by_kinds : (n : ℕ) → Goes n → (at : Place) (k : Kind) (x : Text) (rest : Path) (m : Meaning) → kind_at (module_at p at) x ≡ k → by_kind (means_in n p) p at k x rest ≡ Some m → IsThere m
  by_kinds n go [] (a_formal i) x rest m e h = cc
  by_kinds n go (own ∷ caller) (a_formal i) x rest m e h = by_actual n go own caller i (actual_of_kind (kind_at (module_at p caller) own) i) refl rest m h
  by_kinds n go at (a_variable role what) x [] m e h = subst IsThere (same_Some (a_variable_at at x) m h) (role, what, e)
  by_kinds n go at (a_variable role what) x (y ∷ rest) m e h = cc
  by_kinds n go at (a_define f) x [] m e h = subst IsThere (same_Some (an_expression_at (define_key at x) at f) m h) (refl, e)
  by_kinds n go at (a_define f) x (y ∷ rest) m e h = cc
  by_kinds n go at (an_instance l actuals) x [] m e h = subst IsThere (same_Some (an_instance_at (x ∷ at)) m h) tt
  by_kinds n go at (an_instance l actuals) x (y ∷ rest) m e h = go (x ∷ at) (y ∷ rest) m h
  by_kinds n go at undeclared x [] m e h = by_symbol x (is_symbol p x) refl m h
  by_kinds n go at undeclared x (y ∷ rest) m e h = cc

  -- what a name means is there
  pub means_there : (n : ℕ) (at : Place) (name : Path) (m : Meaning) → means_in n p at name ≡ Some m → IsThere m
  means_there zero at name m h = cc
  means_there (suc n) at [] m h = cc
  means_there (suc n) at (x ∷ rest) m h = by_kinds n (means_there n) at (kind_at (module_at p at) x) x rest m refl h

  pub written_is : (key : Key) (bt : Place) (e : Formula) → IsWritten key bt e → expression_of p key ≡ Some (bt, e)
  written_is (define_key at x) bt e w = ap (expression_of_kind at) w.1 ∙ ap (λ a. Some (a, e)) w.0
  written_is (actual_key [] i) bt e w = absurd w
  written_is (actual_key (own ∷ caller) i) bt e w = ap (expression_in caller) w.1 ∙ ap (λ a. Some (a, e)) w.0

  -- what is declared is declared in the module of an instance
  pub kind_there : (at : Place) (x : Text) (k : Kind) → kind_at (module_at p at) x ≡ k → (k ≡ undeclared → ⊥) → (m : ModuleTree) × IsInstance p at m × (kind_in m x ≡ k)
  kind_there at x k e declared = by_module (module_at p at) refl
    where
      by_module : (o : Option ModuleTree) → module_at p at ≡ o → (m : ModuleTree) × IsInstance p at m × (kind_in m x ≡ k)
      by_module None q = absurd (declared (sym e ∙ ap (λ o. kind_at o x) q))
      by_module (Some m) q = (m, q, sym (ap (λ o. kind_at o x) q) ∙ e)

  -- what has actuals is an instance
  pub record HasActual (k : Kind) (i : ℕ) (e : Formula) : Type 0 where
    pub module_name : Text
    pub actuals : List Formula
    pub is : k ≡ an_instance module_name actuals
    pub nth : nth_formula actuals i ≡ Some e

  has_actual : (k : Kind) (i : ℕ) (e : Formula) → actual_of_kind k i ≡ Some e → HasActual k i e
  has_actual (a_formal j) i e h = cc
  has_actual (a_variable role what) i e h = cc
  has_actual (a_define f) i e h = cc
  has_actual (an_instance n actuals) i e h = record { module_name = n; actuals = actuals; is = refl; nth = h }
  has_actual undeclared i e h = cc

  -- a definition that is listed, and what the rules give for it
  pub record IsGoodKey (k : Key) : Type 0 where
    pub place : Place
    pub written : Formula
    pub is : expression_of p k ≡ Some (place, written)
    pub free : NeedsItself p k → ⊥
    pub now : has_next written ≡ false
    pub valued : SomeHasNoValue p place written → ⊥
    pub tree : ModuleTree
    pub inside : IsInstance p place tree
    pub root : Root
    pub listed : In root (roots_of p)
    pub key : root.key ≡ k

module _ (p : ProgramTree) (accepted : IsAccepted p) where
  walkable : IsWalkable p
  walkable = accepted_walkable p accepted

  good_define : (at : Place) (x : Text) (e : Formula) → kind_at (module_at p at) x ≡ a_define e → IsGoodKey p (define_key at x)
  good_define at x e kind = record {
    place = at;
    written = e;
    is = ap (expression_of_kind at) kind;
    free = λ h. no_loops p at (a_definition d.define) kept (subst (λ y. NeedsItself p (define_key at y)) (sym d.name) h);
    now = subst (λ f. has_next f ≡ false) d.value (not_true (has_next d.define.value) (no_next p at (a_definition d.define) kept));
    valued = λ h. no_names p at (a_definition d.define) kept (subst (SomeHasNoValue p at) (sym d.value) h);
    tree = t.0;
    inside = t.1;
    root = record { key = define_key at d.define.name; item = l.numbered.number };
    listed = root_listed p at t.0 (a_definition d.define) l (record { key = define_key at d.define.name; item = l.numbered.number }) (0, refl);
    key = ap (define_key at) d.name;
  }
    where
      t : (m : ModuleTree) × IsInstance p at m × (kind_in m x ≡ a_define e)
      t = kind_there p at x (a_define e) kind (λ bad. cc)

      d : DefinedBy (items_of t.0) x e
      d = defined_there t.0 x e t.2

      kept : KeptItem p at (a_definition d.define)
      kept = kept_at p accepted at t.0 t.1 d.place (a_definition d.define) d.is

      l : ListedItem p at t.0 (a_definition d.define)
      l = listed_item p walkable at t.0 t.1 d.place (a_definition d.define) d.is

  good_actual : (own : Text) (caller : Place) (i : ℕ) (e : Formula) → actual_of_kind (kind_at (module_at p caller) own) i ≡ Some e → plain_name e ≡ None → IsGoodKey p (actual_key (own ∷ caller) i)
  good_actual own caller i e actual plain = record {
    place = caller;
    written = e;
    is = ap (expression_in caller) actual;
    free = kept.free plain;
    now = kept.now;
    valued = kept.value plain;
    tree = t.0;
    inside = t.1;
    root = root;
    listed = root_listed p caller t.0 (a_declaration by.role by.decl) l root
        (subst (λ w. In root (roots_of_type (by.decl.name ∷ caller) l.numbered.number w)) (sym by.what)
        (subst (λ y. In root (roots_of_actuals (y ∷ caller) 0 l.numbered.number has.actuals)) (sym by.name)
        (actual_root (own ∷ caller) 0 l.numbered.number has.actuals i e has.nth plain)));
    key = ap (actual_key (own ∷ caller)) none;
  }
    where
      none : 0 + i ≡ i
      none = omega arith

      has : HasActual p (kind_at (module_at p caller) own) i e
      has = has_actual p (kind_at (module_at p caller) own) i e actual

      t : (m : ModuleTree) × IsInstance p caller m × (kind_in m own ≡ an_instance has.module_name has.actuals)
      t = kind_there p caller own (an_instance has.module_name has.actuals) has.is (λ bad. cc)

      inner : (k : ModuleTree) × (find_module p has.module_name ≡ Some k)
      inner = module_there p walkable caller t.0 t.1 own has.module_name has.actuals t.2

      kept : KeptActual p accepted caller own i e inner.0
      kept = kept_actual p accepted caller t.0 t.1 own has.module_name has.actuals t.2 inner.0 inner.1 i e has.nth

      by : DeclaredBy (items_of t.0) own has.module_name has.actuals
      by = declared_there t.0 own has.module_name has.actuals t.2

      l : ListedItem p caller t.0 (a_declaration by.role by.decl)
      l = listed_item p walkable caller t.0 t.1 by.place (a_declaration by.role by.decl) by.is

      root : Root
      root = record { key = actual_key (own ∷ caller) (0 + i); item = l.numbered.number }

  -- what is written as a definition is a good one
  pub good_written : (key : Key) (bt : Place) (e : Formula) → IsWritten p key bt e → IsGoodKey p key
  good_written (define_key at x) bt e w = good_define at x e w.1
  good_written (actual_key [] i) bt e w = absurd w
  good_written (actual_key (own ∷ caller) i) bt e w = good_actual own caller i e w.1 w.2

  -- Each listed definition is a good one.
  abbrev Good : Root → Type 0
  Good r = IsGoodKey p r.key

  good_actuals : (own : Text) (caller : Place) (n : Text) (actuals : List Formula) → kind_at (module_at p caller) own ≡ an_instance n actuals → (item k : ℕ) (es : List Formula) →
      ((i : ℕ) (e : Formula) → nth_formula es i ≡ Some e → nth_formula actuals (k + i) ≡ Some e) → Each Good (roots_of_actuals (own ∷ caller) k item es)
  good_actuals own caller n actuals kind item k [] at = tt
  good_actuals own caller n actuals kind item k (e ∷ es) at =
      let here : k + 0 ≡ k = omega arith in
      each_join Good (root_of_actual (own ∷ caller) k item (plain_name e)) (roots_of_actuals (own ∷ caller) (suc k) item es)
      (of_one (plain_name e) refl (subst (λ j. nth_formula actuals j ≡ Some e) here (at 0 e refl)))
      (good_actuals own caller n actuals kind item (suc k) es (λ i f h. let later : k + suc i ≡ suc k + i = omega arith in subst (λ j. nth_formula actuals j ≡ Some f) later (at (suc i) f h)))
    where
      of_one : (o : Option Path) → plain_name e ≡ o → nth_formula actuals k ≡ Some e → Each Good (root_of_actual (own ∷ caller) k item o)
      of_one (Some name) plain is = tt
      of_one None plain is = (good_actual own caller k e (ap (λ t. actual_of_kind t k) kind ∙ is) plain, tt)

  good_type : (own : Text) (caller : Place) (role : Role) (what : DeclaredTree) → kind_at (module_at p caller) own ≡ kind_declared role what → (item : ℕ) → Each Good (roots_of_type (own ∷ caller) item what)
  good_type own caller role boolean kind item = tt
  good_type own caller role (range lo hi) kind item = tt
  good_type own caller role (members ms) kind item = tt
  good_type own caller role (instance n actuals) kind item =
      good_actuals own caller n actuals kind item 0 actuals (λ i e h. let same : i ≡ 0 + i = omega arith in subst (λ j. nth_formula actuals j ≡ Some e) same h)

  good_item : (at : Place) (m : ModuleTree) → IsInstance p at m → (number : ℕ) (before : List Item) (item : Item) → ItemFacts m (record { number = number; before = before; item = item }) →
      Each Good (roots_of_item at number item)
  good_item at m is number before (a_declaration role d) facts =
      good_type d.name at role d.what (ap (λ o. kind_at o d.name) is ∙ kind_of_declaration m before role d facts.after facts.among facts.fresh) number
  good_item at m is number before (a_definition d) facts =
      (good_define at d.name d.value (ap (λ o. kind_at o d.name) is ∙ kind_of_definition m before d facts.after facts.among facts.fresh), tt)
  good_item at m is number before (an_assignment a) facts = tt
  good_item at m is number before (some_constants xs) facts = tt
  good_item at m is number before (an_init e) facts = tt
  good_item at m is number before (an_invar e) facts = tt
  good_item at m is number before (a_trans e) facts = tt

  good_instance : (i : ℕ) (x : FlatInstance) → slice_get (instances_of p) i ≡ Some x → Each Good (flat_map (λ (n : NumberedItem). roots_of_item x.place n.number n.item) (items_named p x.module_name))
  good_instance i x e =
      let real : (m : ModuleTree) × IsInstance p x.place m × (find_module p x.module_name ≡ Some m) = (all_instances p walkable).real i x e in
      (each_flat Good (λ (n : NumberedItem). roots_of_item x.place n.number n.item) (items_named p x.module_name)).1
      (each_from (λ (n : NumberedItem). Each Good (roots_of_item x.place n.number n.item)) (items_named p x.module_name)
      (λ j n f. good_item x.place real.0 real.1 n.number n.before n.item (each_at (ItemFacts real.0) (items_named p x.module_name) j n (facts_named p walkable x.module_name real.0 real.2) f)))

  pub good_roots : Each Good (roots_of p)
  good_roots =
      (each_flat Good (λ (x : FlatInstance). flat_map (λ (n : NumberedItem). roots_of_item x.place n.number n.item) (items_named p x.module_name)) (instances_of p)).1
      (each_from (λ (x : FlatInstance). Each Good (flat_map (λ (n : NumberedItem). roots_of_item x.place n.number n.item) (items_named p x.module_name))) (instances_of p) good_instance)
