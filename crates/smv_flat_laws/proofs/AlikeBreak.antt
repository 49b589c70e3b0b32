-- Instances of one module without formals break the same rules.
use Rattle.std.proofs.Common.{◌≡◌, ℕ, zero, suc, List, [], ◌∷◌, ◌++◌, Option, Some, None, refl, sym, ◌∙◌, ap, subst, inl, inr}
use Rattle.std.specs.Prelude.{IsTrue}
use Rattle.std.proofs.lemmas.List.{append_cancel_right}
use Rattle.std.proofs.lemmas.Option.{some_pair_parts}
use Rattle.smv_language.specs.declared.program.Moment.{Moment}
use Rattle.smv_language.specs.Language.{Text, Path, Formula, DeclaredTree, boolean, range, members, instance, ModuleTree, ProgramTree, Place, Kind, a_formal, a_variable, an_instance, undeclared, Key, define_key, actual_key, Meaning, a_variable_at, an_expression_at, an_instance_at, Means, plain_name, find_module, kind_at, module_at, actual_of_kind, AtSome}
use Rattle.smv_language.specs.Scope.{a_define, a_symbol}
use Rattle.smv_language.proofs.EachLaws.{some_kept}
use Rattle.smv_flat_laws.specs.NameResolution.{leaves_in}
use Rattle.smv_flat_laws.specs.Items.{Item, a_declaration, a_definition, an_assignment, some_constants, an_init, an_invar, a_trans}
use Rattle.smv_flat_laws.specs.Looks.{MeansNothing}
use Rattle.smv_flat_laws.specs.Rules.{no_main, main_has_parameters, double_module, double_name, no_such_module, wrong_count, module_loop, no_such_name, not_a_target, double_assign, define_loop, next_here, input_here, too_many, HasNoValue, nothing, only_an_instance, SomeHasNoValue, ActualHasNoMeaning, BreaksNames, is_target, may_be_assigned, BreaksTarget, expression_of, expression_of_kind, expression_in, Needs, Leads, NeedsItself, ActualLoops, LoopsInside, BreaksLoops, is_input_kind, MeansInput, ReadsInput, GivesInput, inputs_judged, is_later, leaves_under, BreaksInputs}
use Rattle.smv_flat_laws.specs.Alike.{AreAlike, AlikeBreakAlike}
use Rattle.smv_flat_laws.proofs.AlikeMeant.{key_onto, onto, IsInside, MeansInside, alike_back, same_kind, Moved, means_moved, nothing_moved, comes_back_moved, meets_moved}

-- a key is known from where it is seen
key_same : (c : Place) (k l : Key) → key_onto c k ≡ key_onto c l → k ≡ l
key_same c (define_key s x) (define_key t y) e =
    let place : s ++ c ≡ t ++ c = cc in
    let name : x ≡ y = cc in
    ap (λ u. define_key u x) (append_cancel_right s t c place) ∙ ap (λ z. define_key t z) name
key_same c (define_key s x) (actual_key t j) e = cc
key_same c (actual_key s i) (define_key t y) e = cc
key_same c (actual_key s i) (actual_key t j) e =
    let place : s ++ c ≡ t ++ c = cc in
    let number : i ≡ j = cc in
    ap (λ u. actual_key u i) (append_cancel_right s t c place) ∙ ap (λ z. actual_key t z) number

module _ (p : ProgramTree) (a b : Place) (alike : AreAlike p a b) where
  -- the expression of a definition, moved with it
  pub record Written (key : Key) (place : Place) (e : Formula) : Type 0 where
    pub within : Place
    pub is : place ≡ within ++ b
    pub moved : expression_of p (key_onto a key) ≡ Some (within ++ a, e)

  by_define : (s : Place) (k : Kind) (place : Place) (e : Formula) → expression_of_kind (s ++ b) k ≡ Some (place, e) →
      (place ≡ s ++ b) × (expression_of_kind (s ++ a) k ≡ Some (s ++ a, e))
  by_define s (a_formal i) place e h = cc
  by_define s (a_variable role what) place e h = cc
  by_define s (a_define d) place e h =
      let same : (s ++ b ≡ place) × (d ≡ e) = some_pair_parts (s ++ b) place d e h in
      (sym same.0, ap (λ (f : Formula). Some (s ++ a, f)) same.1)
  by_define s (an_instance m actuals) place e h = cc
  by_define s undeclared place e h = cc

  by_actual : (s : Place) (o : Option Formula) (place : Place) (e : Formula) → expression_in (s ++ b) o ≡ Some (place, e) →
      (place ≡ s ++ b) × (expression_in (s ++ a) o ≡ Some (s ++ a, e))
  by_actual s None place e h = cc
  by_actual s (Some d) place e h =
      let same : (s ++ b ≡ place) × (d ≡ e) = some_pair_parts (s ++ b) place d e h in
      (sym same.0, ap (λ (f : Formula). Some (s ++ a, f)) same.1)

  pub expression_moved : (key : Key) → IsInside key → (place : Place) (e : Formula) → expression_of p (key_onto b key) ≡ Some (place, e) → Written key place e
  expression_moved (define_key s x) inside place e h =
      let t : (place ≡ s ++ b) × (expression_of_kind (s ++ a) (kind_at (module_at p (s ++ a)) x) ≡ Some (s ++ a, e)) =
      by_define s (kind_at (module_at p (s ++ a)) x) place e (subst (λ k. expression_of_kind (s ++ b) k ≡ Some (place, e)) (same_kind p a b alike s x) h) in
      record { within = s; is = t.0; moved = t.1 }
  expression_moved (actual_key [] i) inside place e h = absurd inside
  expression_moved (actual_key (own ∷ s) i) inside place e h =
      let t : (place ≡ s ++ b) × (expression_in (s ++ a) (actual_of_kind (kind_at (module_at p (s ++ a)) own) i) ≡ Some (s ++ a, e)) =
      by_actual s (actual_of_kind (kind_at (module_at p (s ++ a)) own) i) place e
      (subst (λ k. expression_in (s ++ b) (actual_of_kind k i) ≡ Some (place, e)) (same_kind p a b alike s own) h) in
      record { within = s; is = t.0; moved = t.1 }

  -- a definition that a name means
  record Named (other : Key) (s : Place) (names : List Path) : Type 0 where
    pub key : Key
    pub inside : IsInside key
    pub is : other ≡ key_onto b key
    pub named : AtSome (λ name. (at : Place) × (e : Formula) × Means p (s ++ a) name (an_expression_at (key_onto a key) at e)) names

  named_moved : (other : Key) (s : Place) (names : List Path) →
      AtSome (λ name. (at : Place) × (e : Formula) × Means p (s ++ b) name (an_expression_at other at e)) names → Named other s names
  named_moved other s [] h = absurd h
  named_moved other s (name ∷ names) (inr h) =
      let t : Named other s names = named_moved other s names h in
      record { key = t.key; inside = t.inside; is = t.is; named = inr t.named }
  named_moved other s (name ∷ names) (inl h) =
      let t : Moved p a b alike s name (an_expression_at other h.0 h.1) = means_moved p a b alike s name (an_expression_at other h.0 h.1) h.2 in by_found t.found t.inside t.is t.means
    where
      by_found : (m : Meaning) → MeansInside m → an_expression_at other h.0 h.1 ≡ onto b m → Means p (s ++ a) name (onto a m) → Named other s (name ∷ names)
      by_found (an_expression_at key at e) inside is means = record { key = key; inside = inside; is = cc; named = inl (at ++ a, e, means) }
      by_found (a_variable_at at x) inside is means = cc
      by_found (an_instance_at at) inside is means = cc
      by_found (a_symbol x) inside is means = cc

  -- what a definition needs
  record Needed (key other : Key) : Type 0 where
    pub next : Key
    pub inside : IsInside next
    pub is : other ≡ key_onto b next
    pub needs : Needs p (key_onto a key) (key_onto a next)

  needs_moved : (key : Key) → IsInside key → (other : Key) → Needs p (key_onto b key) other → Needed key other
  needs_moved key inside other h =
      let w : Written key h.place h.written = expression_moved key inside h.place h.written h.is in
      let t : Named other w.within (leaves_in h.written) =
      named_moved other w.within (leaves_in h.written)
      (subst (λ at. AtSome (λ name. (bt : Place) × (e : Formula) × Means p at name (an_expression_at other bt e)) (leaves_in h.written)) w.is h.named) in
      record { next = t.key; inside = t.inside; is = t.is; needs = record { place = w.within ++ a; written = h.written; is = w.moved; named = t.named } }

  -- what a definition leads to
  record Led (n : ℕ) (key other : Key) : Type 0 where
    pub last : Key
    pub inside : IsInside last
    pub is : other ≡ key_onto b last
    pub leads : Leads p n (key_onto a key) (key_onto a last)

  leads_moved : (n : ℕ) (key : Key) → IsInside key → (other : Key) → Leads p n (key_onto b key) other → Led n key other
  leads_moved zero key inside other h = record { last = key; inside = inside; is = h; leads = refl }
  leads_moved (suc n) key inside other h =
      let t : Needed key h.0 = needs_moved key inside h.0 h.1 in
      let l : Led n t.next other = leads_moved n t.next t.inside other (subst (λ k. Leads p n k other) t.is h.2) in
      record { last = l.last; inside = l.inside; is = l.is; leads = (key_onto a t.next, t.needs, l.leads) }

  itself_moved : (key : Key) → IsInside key → NeedsItself p (key_onto b key) → NeedsItself p (key_onto a key)
  itself_moved key inside h =
      let l : Led (suc h.0) key (key_onto b key) = leads_moved (suc h.0) key inside (key_onto b key) h.1 in
      let same : l.last ≡ key = sym (key_same b key l.last l.is) in
      (h.0, subst (λ k. Leads p (suc h.0) (key_onto a key) (key_onto a k)) same l.leads)

  -- rule 8
  nothing_there : (r : Place) (name : Path) → MeansNothing p (r ++ b) name → MeansNothing p (r ++ a) name
  nothing_there r name h =
      record { no_meaning = nothing_moved p a b alike r name h.no_meaning; no_loop = λ l. h.no_loop (meets_moved p b a (alike_back p a b alike) r name l) }

  no_value_moved : (r : Place) (name : Path) → HasNoValue p (r ++ b) name → HasNoValue p (r ++ a) name
  no_value_moved r name (nothing h) = nothing (nothing_there r name h)
  no_value_moved r name (only_an_instance inside h) =
      let t : Moved p a b alike r name (an_instance_at inside) = means_moved p a b alike r name (an_instance_at inside) h in by_found t.found t.is t.means
    where
      by_found : (m : Meaning) → an_instance_at inside ≡ onto b m → Means p (r ++ a) name (onto a m) → HasNoValue p (r ++ a) name
      by_found (an_instance_at at) is means = only_an_instance (at ++ a) means
      by_found (an_expression_at key at e) is means = cc
      by_found (a_variable_at at x) is means = cc
      by_found (a_symbol x) is means = cc

  values_moved : (r : Place) (e : Formula) → SomeHasNoValue p (r ++ b) e → SomeHasNoValue p (r ++ a) e
  values_moved r e h = some_kept (HasNoValue p (r ++ b)) (HasNoValue p (r ++ a)) (leaves_in e) (no_value_moved r) h

  actual_moved : (r : Place) (e : Formula) (o : Option Path) → ActualHasNoMeaning p (r ++ b) e o → ActualHasNoMeaning p (r ++ a) e o
  actual_moved r e (Some name) h = nothing_there r name h
  actual_moved r e None h = values_moved r e h

  names_of_declared : (r : Place) (what : DeclaredTree) (m : Text) (actuals : List Formula) → what ≡ instance m actuals →
      AtSome (λ e. ActualHasNoMeaning p (r ++ b) e (plain_name e)) actuals → AtSome (λ e. ActualHasNoMeaning p (r ++ a) e (plain_name e)) actuals
  names_of_declared r what m actuals e h =
      some_kept (λ f. ActualHasNoMeaning p (r ++ b) f (plain_name f)) (λ f. ActualHasNoMeaning p (r ++ a) f (plain_name f)) actuals (λ f. actual_moved r f (plain_name f)) h

  -- rule 9
  target_moved : (r : Place) (when : Moment) (target : Path) → is_target p (r ++ b) when target ≡ is_target p (r ++ a) when target
  target_moved r when [] = refl
  target_moved r when (x ∷ []) = ap (may_be_assigned when) (same_kind p a b alike r x)
  target_moved r when (x ∷ (y ∷ rest)) = refl

  -- rule 11
  loop_moved : (own : Text) (r : Place) (i : ℕ) (formal : Text) (o : Option Path) → ActualLoops p (own ∷ (r ++ b)) i formal o → ActualLoops p (own ∷ (r ++ a)) i formal o
  loop_moved own r i formal (Some name) h = comes_back_moved p a b alike (own ∷ r) formal h
  loop_moved own r i formal None h = itself_moved (actual_key (own ∷ r) i) tt h

  loops_moved : (own : Text) (r : Place) (actuals : List Formula) (o : Option ModuleTree) → LoopsInside p (own ∷ (r ++ b)) actuals o → LoopsInside p (own ∷ (r ++ a)) actuals o
  loops_moved own r actuals None h = h
  loops_moved own r actuals (Some m) h =
      record { index = h.index; formal = h.formal; actual = h.actual; is_formal = h.is_formal; is_actual = h.is_actual; loops = loop_moved own r h.index h.formal (plain_name h.actual) h.loops }

  -- rule 13
  means_input_moved : (r : Place) (name : Path) → MeansInput p (r ++ b) name → MeansInput p (r ++ a) name
  means_input_moved r name h =
      let t : Moved p a b alike r name (a_variable_at h.0 h.1) = means_moved p a b alike r name (a_variable_at h.0 h.1) h.2 in by_found t.found t.is t.means
    where
      by_found : (m : Meaning) → a_variable_at h.0 h.1 ≡ onto b m → Means p (r ++ a) name (onto a m) → MeansInput p (r ++ a) name
      by_found (a_variable_at at x) is means =
          let place : h.0 ≡ at ++ b = cc in
          let same_name : h.1 ≡ x = cc in
          let there : IsTrue (is_input_kind (kind_at (module_at p (at ++ b)) x)) =
          subst (λ u. IsTrue (is_input_kind (kind_at (module_at p (at ++ b)) u))) same_name (subst (λ u. IsTrue (is_input_kind (kind_at (module_at p u) h.1))) place h.3) in
          (at ++ a, x, means, subst (λ k. IsTrue (is_input_kind k)) (same_kind p a b alike at x) there)
      by_found (an_expression_at key at e) is means = cc
      by_found (an_instance_at at) is means = cc
      by_found (a_symbol x) is means = cc

  reads_input_moved : (r : Place) (name : Path) → ReadsInput p (r ++ b) name → ReadsInput p (r ++ a) name
  reads_input_moved r name h =
      let t : Moved p a b alike r name (an_expression_at h.first h.place h.written) = means_moved p a b alike r name (an_expression_at h.first h.place h.written) h.means in
      by_found t.found t.inside t.is t.means
    where
      by_found : (m : Meaning) → MeansInside m → an_expression_at h.first h.place h.written ≡ onto b m → Means p (r ++ a) name (onto a m) → ReadsInput p (r ++ a) name
      by_found (an_expression_at key at e) inside is means =
          let first : h.first ≡ key_onto b key = cc in
          let l : Led h.steps key h.last = leads_moved h.steps key inside h.last (subst (λ k. Leads p h.steps k h.last) first h.leads) in
          let w : Written l.last h.last_place h.last_written =
          expression_moved l.last l.inside h.last_place h.last_written (subst (λ k. expression_of p k ≡ Some (h.last_place, h.last_written)) l.is h.is) in
          record { first = key_onto a key; place = at ++ a; written = e; means = means; steps = h.steps; last = key_onto a l.last; leads = l.leads; last_place = w.within ++ a; last_written = h.last_written; is = w.moved; names_input = some_kept (MeansInput p (w.within ++ b)) (MeansInput p (w.within ++ a)) (leaves_in h.last_written) (means_input_moved w.within) (subst (λ u. AtSome (MeansInput p u) (leaves_in h.last_written)) w.is h.names_input) }
      by_found (a_variable_at at x) inside is means = cc
      by_found (an_instance_at at) inside is means = cc
      by_found (a_symbol x) inside is means = cc

  gives_moved : (r : Place) (name : Path) → GivesInput p (r ++ b) name → GivesInput p (r ++ a) name
  gives_moved r name (inl h) = inl (means_input_moved r name h)
  gives_moved r name (inr h) = inr (reads_input_moved r name h)

  inputs_moved : (r : Place) (names : List Path) → AtSome (GivesInput p (r ++ b)) names → AtSome (GivesInput p (r ++ a)) names
  inputs_moved r names h = some_kept (GivesInput p (r ++ b)) (GivesInput p (r ++ a)) names (gives_moved r) h

  -- each rule at each item
  names_at_item : (r : Place) (i : Item) → BreaksNames p (r ++ b) i → BreaksNames p (r ++ a) i
  names_at_item r (a_declaration role d) h = by_type d.what refl
    where
      by_type : (what : DeclaredTree) → d.what ≡ what → BreaksNames p (r ++ a) (a_declaration role d)
      by_type boolean e = absurd (rw e at h)
      by_type (range lo hi) e = absurd (rw e at h)
      by_type (members ms) e = absurd (rw e at h)
      by_type (instance m actuals) e = rw e (names_of_declared r d.what m actuals e (rw e at h))
  names_at_item r (a_definition d) h = values_moved r d.value h
  names_at_item r (an_assignment x) h = values_moved r x.value h
  names_at_item r (some_constants xs) h = h
  names_at_item r (an_init e) h = values_moved r e h
  names_at_item r (an_invar e) h = values_moved r e h
  names_at_item r (a_trans e) h = values_moved r e h

  target_at_item : (r : Place) (i : Item) → BreaksTarget p (r ++ b) i → BreaksTarget p (r ++ a) i
  target_at_item r (a_declaration role d) h = h
  target_at_item r (a_definition d) h = h
  target_at_item r (an_assignment x) h = sym (target_moved r x.when x.target) ∙ h
  target_at_item r (some_constants xs) h = h
  target_at_item r (an_init e) h = h
  target_at_item r (an_invar e) h = h
  target_at_item r (a_trans e) h = h

  loops_at_item : (r : Place) (i : Item) → BreaksLoops p (r ++ b) i → BreaksLoops p (r ++ a) i
  loops_at_item r (a_declaration role d) h = by_type d.what refl
    where
      by_type : (what : DeclaredTree) → d.what ≡ what → BreaksLoops p (r ++ a) (a_declaration role d)
      by_type boolean e = absurd (rw e at h)
      by_type (range lo hi) e = absurd (rw e at h)
      by_type (members ms) e = absurd (rw e at h)
      by_type (instance m actuals) e = rw e (loops_moved d.name r actuals (find_module p m) (rw e at h))
  loops_at_item r (a_definition d) h = itself_moved (define_key r d.name) tt h
  loops_at_item r (an_assignment x) h = h
  loops_at_item r (some_constants xs) h = h
  loops_at_item r (an_init e) h = h
  loops_at_item r (an_invar e) h = h
  loops_at_item r (a_trans e) h = h

  inputs_at_item : (r : Place) (i : Item) → BreaksInputs p (r ++ b) i → BreaksInputs p (r ++ a) i
  inputs_at_item r (a_declaration role d) h = h
  inputs_at_item r (a_definition d) h = h
  inputs_at_item r (an_assignment x) h = inputs_moved r (inputs_judged (is_later x.when) x.value) h
  inputs_at_item r (some_constants xs) h = h
  inputs_at_item r (an_init e) h = inputs_moved r (leaves_in e) h
  inputs_at_item r (an_invar e) h = inputs_moved r (leaves_in e) h
  inputs_at_item r (a_trans e) h = inputs_moved r (leaves_under e) h

pub alike_break : AlikeBreakAlike
alike_break p a b alike r name i no_main h = h
alike_break p a b alike r name i main_has_parameters h = h
alike_break p a b alike r name i double_module h = h
alike_break p a b alike r name i double_name h = h
alike_break p a b alike r name i no_such_module h = h
alike_break p a b alike r name i wrong_count h = h
alike_break p a b alike r name i module_loop h = h
alike_break p a b alike r name i no_such_name h = names_at_item p a b alike r i.item h
alike_break p a b alike r name i not_a_target h = target_at_item p a b alike r i.item h
alike_break p a b alike r name i double_assign h = h
alike_break p a b alike r name i define_loop h = loops_at_item p a b alike r i.item h
alike_break p a b alike r name i next_here h = h
alike_break p a b alike r name i input_here h = inputs_at_item p a b alike r i.item h
alike_break p a b alike r name i too_many h = h
