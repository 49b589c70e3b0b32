-- In an accepted program what formals stand for means something, where each look-up of a formal is decided.
use Rattle.std.proofs.Common.{◌≡◌, ℕ, zero, suc, ◌<◌, arith, List, [], ◌∷◌, ◌++◌, length, Option, Some, None, refl, sym, ◌∙◌, ap, subst, inl, inr, append-nil}
use Rattle.std.specs.Prelude.{slice_get, map, flat_map, ◌⊎◌, ◌+◌, ◌||◌, Bool, true, false}
use Rattle.smv_language.specs.Language.{Text, Path, Formula, DeclaredTree, boolean, range, members, instance, DeclTree, SectionTree, ModuleTree, ProgramTree, same_text, is_among, Place, actual_key, Kind, a_formal, a_variable, an_instance, undeclared, Meaning, Means, means_in, find_module, formal_from, kind_after_formals, kind_in_sections, kind_declared, kind_in, kind_at, module_at, module_of_kind, plain_name, nth_formula, actual_of_kind, Each, AtSome, IsInstance}
use Rattle.smv_language.proofs.ValueLaws.{same_text_refl}
use Rattle.smv_language.specs.Scope.{a_define}
use Rattle.smv_flat_laws.specs.Items.{Item, a_declaration, a_definition, an_assignment, some_constants, an_init, an_invar, a_trans, items_of, items_of_section, NumberedModule, modules_from, modules_of, numbered_items}
use Rattle.smv_flat_laws.specs.Looks.{Look, at_actual, plain_of, step_formal, step_kind, step_of, look_after, ComesBack, MeetsLoop, MeansNothing}
use Rattle.smv_flat_laws.specs.NameResolution.{has_next}
use Rattle.smv_flat_laws.specs.Rules.{double_name, has_twice, a_header, an_item, SomeHasNoValue, ActualHasNoMeaning, BreaksNames, NeedsItself, ActualLoops, SomeActualLoops, LoopsInside, BreaksLoops, some_has_next, breaks_next, IsKept, IsWalkable, IsAccepted}
use Rattle.smv_flat_laws.proofs.Lists.{each_more}
use Rattle.smv_flat_laws.proofs.Conditions.{each_flat}
use Rattle.smv_flat_laws.proofs.KindLaws.{DeclaredBy, kind_in_items, sections_kind}
use Rattle.smv_flat_laws.proofs.Places.{Above, above}
use Rattle.smv_flat_laws.proofs.LookLaws.{step_means}
use Rattle.smv_flat_laws.proofs.EndLaws.{steps_more, ended_stays}
use Rattle.smv_flat_laws.proofs.Walkable.{accepted_walkable}
use Rattle.smv_flat_laws.proofs.Kept.{KeptItem, kept_at, declared_there, as_many, no_names, no_loops, no_next}
use Rattle.smv_language.proofs.OneTree.{same_text_equal}
use Rattle.std.proofs.lemmas.Option.{slice_get_within as got_below}
use Rattle.std.proofs.lemmas.Bool.{false_from_ne_true as not_true, or_parts as neither, or_right as or_true}
use Rattle.base_values.proofs.ListLaws.{get_within}

nth_got : (es : List Formula) (k : ℕ) (e : Formula) → nth_formula es k ≡ Some e → slice_get es k ≡ Some e
nth_got [] k e h = cc
nth_got (x ∷ es) zero e h = h
nth_got (x ∷ es) (suc k) e h = nth_got es k e h

some_at : (P : Formula → Type 0) (es : List Formula) (k : ℕ) (e : Formula) → slice_get es k ≡ Some e → P e → AtSome P es
some_at P [] k e h x = cc
some_at P (y ∷ es) zero e h x = let same : y ≡ e = cc in inl (subst P (sym same) x)
some_at P (y ∷ es) (suc k) e h x = inr (some_at P es k e h x)

pub some_next : (es : List Formula) (k : ℕ) (e : Formula) → slice_get es k ≡ Some e → has_next e ≡ true → some_has_next es ≡ true
some_next [] k e h n = cc
some_next (f ∷ es) zero e h n = let same : f ≡ e = cc in rw same (rw n refl)
some_next (f ∷ es) (suc k) e h n = or_true (has_next f) (some_has_next es) (some_next es k e h n)

module _ (p : ProgramTree) (accepted : IsAccepted p) where
  -- no actual of an accepted program comes back to its formal, each plain one means something, and each other one has a value
  pub record KeptActual (at : Place) (x : Text) (k : ℕ) (e : Formula) (m : ModuleTree) : Type 0 where
    pub formal : Text
    pub is_formal : slice_get m.formals k ≡ Some formal
    pub no_loop : (name : Path) → plain_name e ≡ Some name → ComesBack p (x ∷ at) formal → ⊥
    pub something : (name : Path) → plain_name e ≡ Some name → MeansNothing p at name → ⊥
    pub now : has_next e ≡ false
    pub value : plain_name e ≡ None → SomeHasNoValue p at e → ⊥
    pub free : plain_name e ≡ None → NeedsItself p (actual_key (x ∷ at) k) → ⊥

  pub kept_actual : (at : Place) (m : ModuleTree) → IsInstance p at m → (x n : Text) (actuals : List Formula) → kind_in m x ≡ an_instance n actuals → (inner : ModuleTree) → find_module p n ≡ Some inner →
      (k : ℕ) (e : Formula) → nth_formula actuals k ≡ Some e → KeptActual at x k e inner
  kept_actual at m is x n actuals kind inner found k e nth = record {
    formal = formal.0;
    is_formal = formal.1;
    no_loop = λ name plain back. loops (Some name) plain (subst (λ y. ComesBack p (y ∷ at) formal.0) (sym by.name) back);
    something = λ name plain. names (Some name) plain;
    now = not_true (has_next e) (λ h. no_next p at (a_declaration by.role by.decl) kept (nexts by.decl by.what (some_next actuals k e got h)));
    value = names None;
    free = λ plain needs. loops None plain (subst (λ y. NeedsItself p (actual_key (y ∷ at) k)) (sym by.name) needs);
  }
    where
      by : DeclaredBy (items_of m) x n actuals
      by = declared_there m x n actuals kind

      kept : KeptItem p at (a_declaration by.role by.decl)
      kept = kept_at p accepted at m is by.place (a_declaration by.role by.decl) by.is

      got : slice_get actuals k ≡ Some e
      got = nth_got actuals k e nth

      formal : (y : Text) × (slice_get inner.formals k ≡ Some y)
      formal = get_within inner.formals k (subst (λ l. k < l) (sym (as_many p (accepted_walkable p accepted) at m is x n actuals kind inner found)) (got_below actuals k e got))

      of_type : (d : DeclTree) → d.what ≡ instance n actuals → AtSome (λ e. ActualHasNoMeaning p at e (plain_name e)) actuals → BreaksNames p at (a_declaration by.role d)
      of_type d same h = rw same h

      names : (o : Option Path) → plain_name e ≡ o → ActualHasNoMeaning p at e o → ⊥
      names o plain nothing =
          no_names p at (a_declaration by.role by.decl) kept
          (of_type by.decl by.what (some_at (λ e. ActualHasNoMeaning p at e (plain_name e)) actuals k e got (subst (ActualHasNoMeaning p at e) (sym plain) nothing)))

      loops_of_type : (d : DeclTree) → d.what ≡ instance n actuals → LoopsInside p (d.name ∷ at) actuals (find_module p n) → BreaksLoops p at (a_declaration by.role d)
      loops_of_type d same h = rw same h

      loops : (o : Option Path) → plain_name e ≡ o → ActualLoops p (by.decl.name ∷ at) k formal.0 o → ⊥
      loops o plain loop =
          let here : SomeActualLoops p (by.decl.name ∷ at) inner actuals =
          record {
            index = k;
            formal = formal.0;
            actual = e;
            is_formal = formal.1;
            is_actual = got;
            loops = subst (ActualLoops p (by.decl.name ∷ at) k formal.0) (sym plain) loop;
          } in
          no_loops p at (a_declaration by.role by.decl) kept (loops_of_type by.decl by.what (subst (LoopsInside p (by.decl.name ∷ at) actuals) (sym found) here))

      nexts : (d : DeclTree) → d.what ≡ instance n actuals → some_has_next actuals ≡ true → breaks_next (a_declaration by.role d) ≡ true
      nexts d same h = rw same h

-- Formals by their places.
pub formal_is : (j : ℕ) (xs : List Text) (x : Text) (i : ℕ) → formal_from j xs x ≡ Some i → (d : ℕ) × (i ≡ j + d) × (slice_get xs d ≡ Some x)
formal_is j [] x i e = cc
formal_is j (y ∷ ys) x i e = by_name (same_text y x) refl (formal_is (suc j) ys x i)
  where
    by_name : (b : Bool) → same_text y x ≡ b → (formal_from (suc j) ys x ≡ Some i → (d : ℕ) × (i ≡ suc j + d) × (slice_get ys d ≡ Some x)) → (d : ℕ) × (i ≡ j + d) × (slice_get (y ∷ ys) d ≡ Some x)
    by_name true t more = let found : Some j ≡ Some i = rw t at e in let same : j ≡ i = cc in (0, omega (arith, same), ap Some (same_text_equal y x t))
    by_name false t more = let r = more (rw t at e) in (suc r.0, omega (arith, r.1), r.2)

not_twice : (xs : List Text) (x : Text) (k : ℕ) → slice_get xs k ≡ Some x → is_among xs x ≡ false → ⊥
not_twice [] x k e h = cc
not_twice (y ∷ ys) x zero e h = let same : y ≡ x = cc in let bad : true ≡ false = sym (ap (λ b. b || is_among ys x) (subst (λ z. same_text z x ≡ true) (sym same) (same_text_refl x))) ∙ h in cc
not_twice (y ∷ ys) x (suc k) e h = not_twice ys x k e (neither (same_text y x) (is_among ys x) h).1

formal_found : (j : ℕ) (xs : List Text) (x : Text) (k : ℕ) → has_twice xs ≡ false → slice_get xs k ≡ Some x → formal_from j xs x ≡ Some (j + k)
formal_found j [] x k h e = cc
formal_found j (y ∷ ys) x zero h e = let same : y ≡ x = cc in rw (subst (λ z. same_text z x ≡ true) (sym same) (same_text_refl x)) (ap Some (omega arith))
formal_found j (y ∷ ys) x (suc k) h e = by_name (same_text y x) refl (formal_found (suc j) ys x k (neither (is_among ys y) (has_twice ys) h).1 e)
  where
    by_name : (b : Bool) → same_text y x ≡ b → formal_from (suc j) ys x ≡ Some (suc j + k) → formal_from j (y ∷ ys) x ≡ Some (j + suc k)
    by_name true t more = absurd (not_twice ys y k (e ∙ ap Some (sym (same_text_equal y x t))) (neither (is_among ys y) (has_twice ys) h).0)
    by_name false t more = rw t (more ∙ ap Some (omega arith))

-- no declaration makes a formal
pub declares_no_formal : (items : List Item) (x : Text) (i : ℕ) → kind_in_items items x ≡ a_formal i → ⊥
declares_no_formal [] x i e = cc
declares_no_formal (a_declaration role d ∷ items) x i e = by_name (same_text d.name x) refl d.what (declares_no_formal items x i)
  where
    declared : (what : DeclaredTree) → kind_declared role what ≡ a_formal i → ⊥
    declared boolean h = cc
    declared (range lo hi) h = cc
    declared (members ms) h = cc
    declared (instance m actuals) h = cc

    by_name : (b : Bool) → same_text d.name x ≡ b → (what : DeclaredTree) → (kind_in_items items x ≡ a_formal i → ⊥) → ⊥
    by_name true t what rest = declared d.what (rw t at e)
    by_name false t what rest = rest (rw t at e)
declares_no_formal (a_definition d ∷ items) x i e = by_name (same_text d.name x) refl (declares_no_formal items x i)
  where
    by_name : (b : Bool) → same_text d.name x ≡ b → (kind_in_items items x ≡ a_formal i → ⊥) → ⊥
    by_name true t rest = let bad : a_define d.value ≡ a_formal i = rw t at e in cc
    by_name false t rest = rest (rw t at e)
declares_no_formal (an_assignment a ∷ items) x i e = declares_no_formal items x i e
declares_no_formal (some_constants xs ∷ items) x i e = declares_no_formal items x i e
declares_no_formal (an_init f ∷ items) x i e = declares_no_formal items x i e
declares_no_formal (an_invar f ∷ items) x i e = declares_no_formal items x i e
declares_no_formal (a_trans f ∷ items) x i e = declares_no_formal items x i e

-- what holds of each module holds of the one of a name
found_has : (P : ModuleTree → Type 0) (q : ProgramTree) (n : ℕ) (before : List ModuleTree) (x : Text) (m : ModuleTree) → Each (λ (k : NumberedModule). P k.tree) (modules_from n before q) → find_module q x ≡ Some m → P m
found_has P [] n before x m h e = cc
found_has P (k ∷ ms) n before x m h e = by_name (same_text k.name x) refl (found_has P ms (n + suc (length (items_of k))) (before ++ k ∷ []) x m h.1)
  where
    by_name : (b : Bool) → same_text k.name x ≡ b → (find_module ms x ≡ Some m → P m) → P m
    by_name true t rest = let found : Some k ≡ Some m = rw t at e in let same : k ≡ m = cc in subst P same h.0
    by_name false t rest = rest (rw t at e)

-- no module of a program has a formal twice
pub formals_once : (p : ProgramTree) → IsWalkable p → (x : Text) (m : ModuleTree) → find_module p x ≡ Some m → has_twice m.formals ≡ false
formals_once p walkable x m found =
    found_has (λ m. has_twice m.formals ≡ false) p 1 [] x m
    (each_more (λ (k : NumberedModule). Each (IsKept p) (a_header k ∷ map (an_item k) (numbered_items k))) (λ (k : NumberedModule). has_twice k.tree.formals ≡ false) (modules_of p)
    (λ k h. not_true (has_twice k.tree.formals) (h.0 double_name)) ((each_flat (IsKept p) (λ (k : NumberedModule). a_header k ∷ map (an_item k) (numbered_items k)) (modules_of p)).0 walkable.modules)) found

-- a look-up that is told: it means something, or nothing, or it meets a loop
abbrev pub IsTold : ProgramTree → Place → Path → Type 0
IsTold p at name = ((m : Meaning) × Means p at name m) ⊎ (MeansNothing p at name ⊎ MeetsLoop p at name)

pub no_step : (p : ProgramTree) (at : Place) (x : Text) (n : ℕ) → step_of p at (x ∷ []) ≡ None → look_after (suc n) p at (x ∷ []) ≡ None
no_step p at x n e = let same : n + 1 ≡ suc n = omega arith in subst (λ k. look_after k p at (x ∷ []) ≡ None) same (ended_stays n 1 p at (x ∷ []) e)

module _ (p : ProgramTree) (accepted : IsAccepted p) where
  -- what a formal that comes back is: one with a plain actual
  pub record Formally (at : Place) (x : Text) : Type 0 where
    pub own : Text
    pub caller : Place
    pub place : at ≡ own ∷ caller
    pub index : ℕ
    pub kind : kind_at (module_at p at) x ≡ a_formal index
    pub name : Path
    pub plain : plain_of (actual_of_kind (kind_at (module_at p caller) own) index) ≡ Some name

  formally : (at : Place) (x : Text) → ComesBack p at x → Formally at x
  formally at x back = by_kind (kind_at (module_at p at) x) refl
    where
      ends : step_of p at (x ∷ []) ≡ None → ⊥
      ends e = let gone = no_step p at x back.0 e in let bad : None ≡ Some (record { place = at; name = x ∷ back.1 }) = sym gone ∙ back.2 in cc

      by_plain : (own : Text) (caller : Place) → at ≡ own ∷ caller → (i : ℕ) → kind_at (module_at p at) x ≡ a_formal i → (o : Option Path) → plain_of (actual_of_kind (kind_at (module_at p caller) own) i) ≡ o → Formally at x
      by_plain own caller q i k None e =
          absurd (ends (ap (λ kind. step_kind p at kind x []) k ∙ ap (λ a. step_formal p a i []) q ∙ ap (λ o. at_actual caller o []) e))
      by_plain own caller q i k (Some name) e = record { own = own; caller = caller; place = q; index = i; kind = k; name = name; plain = e }

      by_place : (bt : Place) → at ≡ bt → (i : ℕ) → kind_at (module_at p at) x ≡ a_formal i → Formally at x
      by_place [] q i k = absurd (ends (ap (λ kind. step_kind p at kind x []) k ∙ ap (λ a. step_formal p a i []) q))
      by_place (own ∷ caller) q i k = by_plain own caller q i k (plain_of (actual_of_kind (kind_at (module_at p caller) own) i)) refl

      by_kind : (kind : Kind) → kind_at (module_at p at) x ≡ kind → Formally at x
      by_kind (a_formal i) k = by_place at refl i k
      by_kind (a_variable role what) k = absurd (ends (ap (λ kind. step_kind p at kind x []) k))
      by_kind (a_define e) k = absurd (ends (ap (λ kind. step_kind p at kind x []) k))
      by_kind (an_instance m actuals) k = absurd (ends (ap (λ kind. step_kind p at kind x []) k))
      by_kind undeclared k = absurd (ends (ap (λ kind. step_kind p at kind x []) k))

  plain_nth : (actuals : List Formula) (i : ℕ) (name : Path) → plain_of (nth_formula actuals i) ≡ Some name → (e : Formula) × (nth_formula actuals i ≡ Some e) × (plain_name e ≡ Some name)
  plain_nth actuals i name h = by_actual (nth_formula actuals i) refl
    where
      by_actual : (o : Option Formula) → nth_formula actuals i ≡ o → (e : Formula) × (nth_formula actuals i ≡ Some e) × (plain_name e ≡ Some name)
      by_actual None q = let bad : None ≡ Some name = sym (ap plain_of q) ∙ h in cc
      by_actual (Some e) q = (e, q, sym (ap plain_of q) ∙ h)

  pub there : (at : Place) (x : Text) (i : ℕ) → kind_at (module_at p at) x ≡ a_formal i → (m : ModuleTree) × IsInstance p at m × (kind_in m x ≡ a_formal i)
  there at x i k = by_module (module_at p at) refl
    where
      by_module : (o : Option ModuleTree) → module_at p at ≡ o → (m : ModuleTree) × IsInstance p at m × (kind_in m x ≡ a_formal i)
      by_module None q = let bad : undeclared ≡ a_formal i = sym (ap (λ o. kind_at o x) q) ∙ k in cc
      by_module (Some m) q = (m, q, sym (ap (λ o. kind_at o x) q) ∙ k)

  pub in_formals : (m : ModuleTree) (x : Text) (i : ℕ) → kind_in m x ≡ a_formal i → slice_get m.formals i ≡ Some x
  in_formals m x i k = by_formal (formal_from 0 m.formals x) refl k
    where
      not_section : (ss : Kind) (o : Option ℕ) → formal_from 0 m.formals x ≡ o → kind_after_formals o ss ≡ a_formal i → (o ≡ None → ss ≡ a_formal i → ⊥) → slice_get m.formals i ≡ Some x
      not_section ss None q h n = absurd (n refl h)
      not_section ss (Some j) q h n =
          let same : j ≡ i = cc in
          let f = formal_is 0 m.formals x j q in
          let place : f.0 ≡ i = omega (arith, f.1, same) in
          subst (λ d. slice_get m.formals d ≡ Some x) place f.2

      by_formal : (o : Option ℕ) → formal_from 0 m.formals x ≡ o → kind_in m x ≡ a_formal i → slice_get m.formals i ≡ Some x
      by_formal o q h =
          not_section (kind_in_sections m.sections x) o q (sym (ap (λ f. kind_after_formals f (kind_in_sections m.sections x)) q) ∙ h) (λ e s. no_section m.sections s)
        where
          no_section : (ss : List SectionTree) → kind_in_sections ss x ≡ a_formal i → ⊥
          no_section ss e = declares_no_formal (flat_map items_of_section ss) x i (sections_kind ss x ∙ e)

  -- in an accepted program no formal comes back
  pub none_comes_back : (at : Place) (x : Text) → ComesBack p at x → ⊥
  none_comes_back at x back =
      let f : Formally at x = formally at x back in
      let t : (m : ModuleTree) × IsInstance p at m × (kind_in m x ≡ a_formal f.index) = there at x f.index f.kind in
      let a : Above p (accepted_walkable p accepted) f.caller f.own t.0 = above p (accepted_walkable p accepted) f.caller f.own t.0 (subst (λ b. IsInstance p b t.0) f.place t.1) in
      let declared : kind_at (module_at p f.caller) f.own ≡ an_instance a.module_name a.actuals = ap (λ o. kind_at o f.own) a.is ∙ a.kind in
      let e : (e : Formula) × (nth_formula a.actuals f.index ≡ Some e) × (plain_name e ≡ Some f.name) =
      plain_nth a.actuals f.index f.name (sym (ap (λ k. plain_of (actual_of_kind k f.index)) declared) ∙ f.plain) in
      let k : KeptActual p accepted f.caller f.own f.index e.0 t.0 = kept_actual p accepted f.caller a.tree a.is f.own a.module_name a.actuals a.kind t.0 a.found f.index e.0 e.1 in
      let same : Some k.formal ≡ Some x = sym k.is_formal ∙ in_formals t.0 x f.index t.2 in
      let text : k.formal ≡ x = cc in
      k.no_loop f.name e.2 (subst (λ y. ComesBack p (f.own ∷ f.caller) y) (sym text) (subst (λ b. ComesBack p b x) f.place back))

  abbrev name_of : Option Look → Path
  name_of None = []
  name_of (Some l) = l.name

  nothing_of : (at : Place) → MeansNothing p at []
  nothing_of at = record { no_meaning = none; no_loop = λ h. no_look h.0 h.1 h.2 h.3 (h.4, h.5) }
    where
      none : (n : ℕ) → means_in n p at [] ≡ None
      none zero = refl
      none (suc n) = refl

      no_look : (n : ℕ) (bt : Place) (x : Text) (rest : Path) → (look_after n p at [] ≡ Some (record { place = bt; name = x ∷ rest })) × ComesBack p bt x → ⊥
      no_look zero bt x rest h = let names : [] ≡ x ∷ rest = ap (λ o. name_of o) h.0 in cc
      no_look (suc n) bt x rest h =
          let same : n + 1 ≡ suc n = omega arith in
          let gone : look_after (suc n) p at [] ≡ None = subst (λ k. look_after k p at [] ≡ None) same (ended_stays n 1 p at [] refl) in
          let bad : None ≡ Some (record { place = bt; name = x ∷ rest }) = sym gone ∙ h.0 in cc

  -- a plain actual whose formal's look-up is told means something
  pub meant : (at : Place) (m : ModuleTree) → IsInstance p at m → (x n : Text) (actuals : List Formula) → kind_in m x ≡ an_instance n actuals → (inner : ModuleTree) → find_module p n ≡ Some inner →
      (k : ℕ) (e : Formula) → nth_formula actuals k ≡ Some e → (name : Path) → plain_name e ≡ Some name →
      ((formal : Text) → slice_get inner.formals k ≡ Some formal → IsTold p (x ∷ at) (formal ∷ [])) → (meaning : Meaning) × Means p at name meaning
  meant at m is x n actuals kind inner found k e nth [] plain told =
      absurd ((kept_actual p accepted at m is x n actuals kind inner found k e nth).something [] plain (nothing_of at))
  meant at m is x n actuals kind inner found k e nth (y ∷ more) plain told = by_told (told formal kept.is_formal)
    where
      kept : KeptActual p accepted at x k e inner
      kept = kept_actual p accepted at m is x n actuals kind inner found k e nth

      formal : Text
      formal = kept.formal

      inside : IsInstance p (x ∷ at) inner
      inside = ap (λ o. module_of_kind p (kind_at o x)) is ∙ ap (module_of_kind p) kind ∙ found

      is_formal : kind_at (module_at p (x ∷ at)) formal ≡ a_formal k
      is_formal =
          ap (λ o. kind_at o formal) inside
          ∙ ap (λ o. kind_after_formals o (kind_in_sections inner.sections formal)) (formal_found 0 inner.formals formal k (formals_once p (accepted_walkable p accepted) n inner found) kept.is_formal ∙ ap Some (omega arith))

      handed : plain_of (actual_of_kind (kind_at (module_at p at) x) k) ≡ Some (y ∷ more)
      handed = ap (λ o. plain_of (actual_of_kind (kind_at o x) k)) is ∙ ap (λ t. plain_of (actual_of_kind t k)) kind ∙ ap plain_of nth ∙ plain

      step : step_of p (x ∷ at) (formal ∷ []) ≡ Some (record { place = at; name = y ∷ (more ++ []) })
      step = ap (λ t. step_kind p (x ∷ at) t formal []) is_formal ∙ ap (λ o. at_actual at o []) handed

      whole : y ∷ (more ++ []) ≡ y ∷ more
      whole = ap (λ t. y ∷ t) (append-nil more)

      steps : (j : ℕ) → means_in (suc j) p (x ∷ at) (formal ∷ []) ≡ means_in j p at (y ∷ more)
      steps j = step_means j p (x ∷ at) (formal ∷ []) _ step ∙ ap (means_in j p at) whole

      looks : (j : ℕ) → look_after (j + 1) p (x ∷ at) (formal ∷ []) ≡ look_after j p at (y ∷ more)
      looks j = steps_more j 1 p (x ∷ at) (formal ∷ []) _ step ∙ ap (look_after j p at) whole

      of_meaning : (meaning : Meaning) (j : ℕ) → means_in j p (x ∷ at) (formal ∷ []) ≡ Some meaning → (meaning : Meaning) × Means p at (y ∷ more) meaning
      of_meaning meaning zero h = cc
      of_meaning meaning (suc j) h = (meaning, (j, sym (steps j) ∙ h))

      nothing : MeansNothing p (x ∷ at) (formal ∷ []) → MeansNothing p at (y ∷ more)
      nothing h = record {
        no_meaning = λ j. sym (steps j) ∙ h.no_meaning (suc j);
        no_loop = λ l. h.no_loop (l.0 + 1, l.1, l.2, l.3, looks l.0 ∙ l.4, l.5);
      }

      by_told : IsTold p (x ∷ at) (formal ∷ []) → (meaning : Meaning) × Means p at (y ∷ more) meaning
      by_told (inl means) = of_meaning means.0 means.1.0 means.1.1
      by_told (inr (inl none)) = absurd (kept.something (y ∷ more) plain (nothing none))
      by_told (inr (inr loop)) = absurd (none_comes_back loop.1 loop.2 loop.5)
