-- What the names of a program of stages mean: a stage's output is a variable, and what feeds it that of another or TRUE.
use Rattle.std.proofs.Common.{◌≡◌, ℕ, zero, suc, ◌+◌, ◌≤◌, arith, Bool, true, false, List, [], ◌∷◌, ◌++◌, length, Option, Some, None, refl, sym, ◌∙◌, ap, subst, inl, inr}
use Rattle.std.specs.Prelude.{codes, slice_get, IsTrue}
use Rattle.smv_language.specs.Tree.{truth}
use Rattle.smv_language.specs.Language.{Text, Path, Formula, boolean, SectionTree, ModuleTree, ProgramTree, Place, Kind, state, a_variable, undeclared, find_module, kind_in_defines, kind_in_sections, kind_at, module_of_kind, module_at, actual_of_kind, Key, define_key, actual_key, Meaning, a_variable_at, an_expression_at, an_instance_at, plain_name, through_plain, through_actual, by_kind, means_in, Means, same_text, AtSome}
use Rattle.smv_language.specs.Scope.{a_define, a_symbol}
use Rattle.smv_flat_laws.specs.NameResolution.{leaves_in}
use Rattle.smv_flat_laws.specs.Looks.{Look, at_actual, plain_of, step_kind, step_on, look_after, ComesBack, MeansNothing}
use Rattle.smv_flat_laws.specs.Rules.{HasNoValue, nothing, only_an_instance, expression_of_kind, expression_in, expression_of, Needs, NeedsItself, Leads, ActualLoops, LoopsInside, is_input_kind, MeansInput, ReadsInput, GivesInput}
use Rattle.smv_flat_laws.proofs.EndLaws.{ended_stays}
use Rattle.smv_flat_laws.proofs.Resolving.{same_meaning}
use Rattle.fault_generator.specs.Generator.{stage_name, output_of, dead_formula}
use Rattle.fault_generator_laws.proofs.Stages.{IsStageBefore, relay_with, program_with, AreStages, IsFed, stage_found, no_stage_dead}
use Rattle.std.proofs.lemmas.Option.{none-some as never_some}
use Rattle.std.proofs.lemmas.Bool.{false≢true}

-- none of one list and none of another
pub at_neither : {A : Type 0} (P : A → Type 0) (xs ys : List A) → (AtSome P xs → ⊥) → (AtSome P ys → ⊥) → AtSome P (xs ++ ys) → ⊥
at_neither P [] ys h k s = k s
at_neither P (x ∷ xs) ys h k (inl p) = h (inl p)
at_neither P (x ∷ xs) ys h k (inr s) = at_neither P xs ys (λ q. h (inr q)) k s

abbrev NoInstance : Meaning → Type 0
NoInstance (an_instance_at inside) = ⊥
NoInstance (a_variable_at at x) = Unit {0}
NoInstance (an_expression_at key at e) = Unit {0}
NoInstance (a_symbol x) = Unit {0}

-- what means no instance has a value
pub has_value : (p : ProgramTree) (at : Place) (name : Path) (meaning : Meaning) → Means p at name meaning → NoInstance meaning → HasNoValue p at name → ⊥
has_value p at name meaning m free (nothing none) = never_some meaning (sym (none.no_meaning m.0) ∙ m.1)
has_value p at name meaning m free (only_an_instance inside k) = subst NoInstance (same_meaning m.0 k.0 p at name meaning (an_instance_at inside) m.1 k.1) free

-- the names of an expression mean no definition of this key
abbrev NamesKey : ProgramTree → Key → Option (Place × Formula) → Type 0
NamesKey p key None = ⊥
NamesKey p key (Some at_e) = AtSome (λ name. (at : Place) × (e : Formula) × Means p at_e.0 name (an_expression_at key at e)) (leaves_in at_e.1)

abbrev pub NamesInput : ProgramTree → Option (Place × Formula) → Type 0
NamesInput p None = ⊥
NamesInput p (Some at_e) = AtSome (MeansInput p at_e.0) (leaves_in at_e.1)

abbrev pub IsInputMeaning : ProgramTree → Meaning → Type 0
IsInputMeaning p (a_variable_at place x) = IsTrue (is_input_kind (kind_at (module_at p place) x))
IsInputMeaning p (an_expression_at key at e) = ⊥
IsInputMeaning p (an_instance_at inside) = ⊥
IsInputMeaning p (a_symbol x) = ⊥

abbrev pub IsExpression : Meaning → Type 0
IsExpression (an_expression_at key at e) = Unit {0}
IsExpression (a_variable_at place x) = ⊥
IsExpression (an_instance_at inside) = ⊥
IsExpression (a_symbol x) = ⊥

-- a look at `main`, and one at a name that begins with `out`
abbrev InMain : Option Look → Type 0
InMain None = ⊥
InMain (Some l) = l.place ≡ []

abbrev begins : Path → Bool
begins [] = false
begins (x ∷ rest) = same_text x (codes "out")

abbrev AtOut : Option Look → Type 0
AtOut None = ⊥
AtOut (Some l) = begins l.name ≡ true

not_in_main : (x : Text) → x ∷ [] ≡ [] → ⊥
not_in_main x e = cc

module _ (sections : List SectionTree) (fs : List (Option ℕ)) (last_a last_b : Option ℕ) (are : AreStages fs last_a last_b) (out : kind_in_sections sections (codes "out") ≡ a_variable state boolean) where
  abbrev p : ProgramTree
  p = program_with sections fs last_a last_b

  -- the text is the name of an instance of the module of relays
  abbrev pub IsStage : Text → Type 0
  IsStage x = IsFed (suc (length fs)) (kind_at (module_at (program_with sections fs last_a last_b) []) x)

  pub stage_there : (j : ℕ) → 1 ≤ j → j ≤ length fs → IsStage (stage_name j)
  stage_there j h k = stage_found (suc (length fs)) 1 fs j (kind_in_defines (record { name = codes "dead"; value = dead_formula last_a last_b } ∷ []) (stage_name j) undeclared) are.fed h (omega (arith, k)) (omega (arith, k, are.few))

  pub dead_there : kind_at (module_at p []) (codes "dead") ≡ a_define (dead_formula last_a last_b)
  dead_there = no_stage_dead 1 fs (a_define (dead_formula last_a last_b))

  pub relay_there : (x : Text) → IsStage x → module_at p (x ∷ []) ≡ Some (relay_with sections)
  relay_there x s = ap (module_of_kind p) s.kind

  out_kind : (x : Text) → IsStage x → kind_at (module_at p (x ∷ [])) (codes "out") ≡ a_variable state boolean
  out_kind x s = ap (λ (m : Option ModuleTree). kind_at m (codes "out")) (relay_there x s) ∙ out

  -- the output of a stage is a variable
  pub out_means : (j : ℕ) → IsStage (stage_name j) → Means p [] (stage_name j ∷ codes "out" ∷ []) (a_variable_at (stage_name j ∷ []) (codes "out"))
  out_means j s = (
    2,
    ap (λ (k : Kind). by_kind (means_in 1 p) p [] k (stage_name j) (codes "out" ∷ [])) s.kind
        ∙ ap (λ (k : Kind). by_kind (means_in 0 p) p (stage_name j ∷ []) k (codes "out") []) (out_kind (stage_name j) s),
  )

  -- what feeds a stage means TRUE, or the output of a stage
  abbrev fed_meaning : Text → Option ℕ → Meaning
  fed_meaning x None = an_expression_at (actual_key (x ∷ []) 0) [] (truth true)
  fed_meaning x (Some j) = a_variable_at (stage_name j ∷ []) (codes "out")

  through : (x : Text) (s : IsStage x) (n : ℕ) → means_in (suc n) p (x ∷ []) (codes "feed" ∷ []) ≡ through_plain (means_in n p) (actual_key (x ∷ []) 0) [] (output_of s.feed) (plain_name (output_of s.feed)) []
  through x s n =
      ap (λ (m : Option ModuleTree). by_kind (means_in n p) p (x ∷ []) (kind_at m (codes "feed")) (codes "feed") []) (relay_there x s)
      ∙ ap (λ (k : Kind). through_actual (means_in n p) (actual_key (x ∷ []) 0) [] (actual_of_kind k 0) []) s.kind

  feed_means : (x : Text) (s : IsStage x) → Means p (x ∷ []) (codes "feed" ∷ []) (fed_meaning x s.feed)
  feed_means x s = by_feed s.feed s.before (through x s)
    where
      by_feed : (f : Option ℕ) → IsStageBefore (suc (length fs)) f →
          ((n : ℕ) → means_in (suc n) p (x ∷ []) (codes "feed" ∷ []) ≡ through_plain (means_in n p) (actual_key (x ∷ []) 0) [] (output_of f) (plain_name (output_of f)) []) →
          Means p (x ∷ []) (codes "feed" ∷ []) (fed_meaning x f)
      by_feed None h e = (1, e 0)
      by_feed (Some j) h e = let out = out_means j (stage_there j h.0 (omega (arith, h.1))) in (suc out.0, e out.0 ∙ out.1)

  -- Names have values.
  -- none of the names of an output, where no output has it
  pub no_output : (P : Path → Type 0) → ((j : ℕ) → IsStage (stage_name j) → P (stage_name j ∷ codes "out" ∷ []) → ⊥) →
      (f : Option ℕ) → IsStageBefore (suc (length fs)) f → AtSome P (leaves_in (output_of f)) → ⊥
  no_output P not None h s = s
  no_output P not (Some j) h (inl s) = not j (stage_there j h.0 (omega (arith, h.1))) s
  no_output P not (Some j) h (inr s) = s

  pub none_dead : (P : Path → Type 0) → ((j : ℕ) → IsStage (stage_name j) → P (stage_name j ∷ codes "out" ∷ []) → ⊥) → AtSome P (leaves_in (dead_formula last_a last_b)) → ⊥
  none_dead P not s = at_neither P (leaves_in (output_of last_a)) (leaves_in (output_of last_b)) (no_output P not last_a are.is_a) (no_output P not last_b are.is_b) s

  pub output_has_value : (j : ℕ) → IsStage (stage_name j) → HasNoValue p [] (stage_name j ∷ codes "out" ∷ []) → ⊥
  output_has_value j s = has_value p [] (stage_name j ∷ codes "out" ∷ []) (a_variable_at (stage_name j ∷ []) (codes "out")) (out_means j s) tt

  pub output_means_something : (j : ℕ) → IsStage (stage_name j) → MeansNothing p [] (stage_name j ∷ codes "out" ∷ []) → ⊥
  output_means_something j s none = output_has_value j s (nothing none)

  pub feed_has_value : (x : Text) → IsStage x → HasNoValue p (x ∷ []) (codes "feed" ∷ []) → ⊥
  feed_has_value x s = has_value p (x ∷ []) (codes "feed" ∷ []) (fed_meaning x s.feed) (feed_means x s) (is_value s.feed)
    where
      is_value : (f : Option ℕ) → NoInstance (fed_meaning x f)
      is_value None = tt
      is_value (Some j) = tt

  -- No definition needs itself, since none names another.
  names_no_key : (key : Key) (j : ℕ) → IsStage (stage_name j) → (at : Place) × (e : Formula) × Means p [] (stage_name j ∷ codes "out" ∷ []) (an_expression_at key at e) → ⊥
  names_no_key key j s m =
      let out = out_means j s in
      subst IsExpression (same_meaning m.2.0 out.0 p [] (stage_name j ∷ codes "out" ∷ []) (an_expression_at key m.0 m.1) (a_variable_at (stage_name j ∷ []) (codes "out")) m.2.1 out.1) tt

  pub dead_is : expression_of p (define_key [] (codes "dead")) ≡ Some ([], dead_formula last_a last_b)
  dead_is = ap (expression_of_kind []) dead_there

  pub dead_needs_none : (other : Key) → Needs p (define_key [] (codes "dead")) other → ⊥
  dead_needs_none other n =
      none_dead (λ name. (at : Place) × (e : Formula) × Means p [] name (an_expression_at other at e)) (names_no_key other) (subst (NamesKey p other) (sym n.is ∙ dead_is) n.named)

  pub dead_is_no_loop : NeedsItself p (define_key [] (codes "dead")) → ⊥
  dead_is_no_loop h = dead_needs_none h.1.0 h.1.1

  pub feed_is : (x : Text) (s : IsStage x) → expression_of p (actual_key (x ∷ []) 0) ≡ Some ([], output_of s.feed)
  feed_is x s = ap (λ (k : Kind). expression_in [] (actual_of_kind k 0)) s.kind

  feed_needs_none : (x : Text) → IsStage x → (other : Key) → Needs p (actual_key (x ∷ []) 0) other → ⊥
  feed_needs_none x s other n =
      no_output (λ name. (at : Place) × (e : Formula) × Means p [] name (an_expression_at other at e)) (names_no_key other) s.feed s.before (subst (NamesKey p other) (sym n.is ∙ feed_is x s) n.named)

  -- and what feeds a stage does not come back to it
  first_look : (x : Text) (s : IsStage x) → look_after 1 p (x ∷ []) (codes "feed" ∷ []) ≡ at_actual [] (plain_name (output_of s.feed)) []
  first_look x s =
      ap (λ (m : Option ModuleTree). step_kind p (x ∷ []) (kind_at m (codes "feed")) (codes "feed") []) (relay_there x s)
      ∙ ap (λ (k : Kind). at_actual [] (plain_of (actual_of_kind k 0)) []) s.kind

  second_look : (j : ℕ) → IsStage (stage_name j) → step_on p (Some (record { place = []; name = stage_name j ∷ codes "out" ∷ [] })) ≡ Some (record { place = stage_name j ∷ []; name = codes "out" ∷ [] })
  second_look j s = ap (λ (k : Kind). step_kind p [] k (stage_name j) (codes "out" ∷ [])) s.kind

  third_look : (j : ℕ) → IsStage (stage_name j) → step_on p (Some (record { place = stage_name j ∷ []; name = codes "out" ∷ [] })) ≡ None
  third_look j s = ap (λ (k : Kind). step_kind p (stage_name j ∷ []) k (codes "out") []) (out_kind (stage_name j) s)

  pub feed_never_back : (x : Text) → IsStage x → ComesBack p (x ∷ []) (codes "feed") → ⊥
  feed_never_back x s back = by_feed s.feed s.before (first_look x s) back.0 back.1 back.2
    where
      ended : (d n k : ℕ) → d + n ≡ k → look_after n p (x ∷ []) (codes "feed" ∷ []) ≡ None → (l : Look) → look_after k p (x ∷ []) (codes "feed" ∷ []) ≡ Some l → ⊥
      ended d n k sum none l b = never_some l (sym (subst (λ i. look_after i p (x ∷ []) (codes "feed" ∷ []) ≡ None) sum (ended_stays d n p (x ∷ []) (codes "feed" ∷ []) none)) ∙ b)

      by_feed : (f : Option ℕ) → IsStageBefore (suc (length fs)) f → look_after 1 p (x ∷ []) (codes "feed" ∷ []) ≡ at_actual [] (plain_name (output_of f)) [] →
          (n : ℕ) (rest : Path) → look_after (suc n) p (x ∷ []) (codes "feed" ∷ []) ≡ Some (record { place = x ∷ []; name = codes "feed" ∷ rest }) → ⊥
      by_feed None h e n rest b = ended n 1 (suc n) (omega arith) e (record { place = x ∷ []; name = codes "feed" ∷ rest }) b
      by_feed (Some j) h e zero rest b =
          let bad : Some (record { place = []; name = stage_name j ∷ codes "out" ∷ [] }) ≡ Some (record { place = x ∷ []; name = codes "feed" ∷ rest }) = sym e ∙ b in not_in_main x (subst InMain bad refl)
      by_feed (Some j) h e (suc zero) rest b =
          let bad : Some (record { place = stage_name j ∷ []; name = codes "out" ∷ [] }) ≡ Some (record { place = x ∷ []; name = codes "feed" ∷ rest }) =
          sym (second_look j (stage_there j h.0 (omega (arith, h.1)))) ∙ sym (ap (step_on p) e) ∙ b in
          false≢true (subst AtOut bad refl)
      by_feed (Some j) h e (suc (suc n)) rest b =
          let stage = stage_there j h.0 (omega (arith, h.1)) in
          ended n 3 (suc (suc (suc n))) (omega arith) (ap (λ o. step_on p (step_on p o)) e ∙ ap (step_on p) (second_look j stage) ∙ third_look j stage) (record { place = x ∷ []; name = codes "feed" ∷ rest }) b

  -- so that no actual of a stage loops
  pub no_actual_loops : (x : Text) → IsStage x → (f : Option ℕ) → LoopsInside p (x ∷ []) (output_of f ∷ []) (find_module p (codes "Relay")) → ⊥
  no_actual_loops x s f l = at_index l.index l.formal l.actual l.is_formal l.is_actual l.loops
    where
      by_feed : (g : Option ℕ) → ActualLoops p (x ∷ []) 0 (codes "feed") (plain_name (output_of g)) → ⊥
      by_feed None h = feed_needs_none x s h.1.0 h.1.1
      by_feed (Some j) h = feed_never_back x s h

      at_index : (i : ℕ) (formal : Text) (actual : Formula) → slice_get (codes "feed" ∷ []) i ≡ Some formal → slice_get (output_of f ∷ []) i ≡ Some actual → ActualLoops p (x ∷ []) i formal (plain_name actual) → ⊥
      at_index zero formal actual a b h =
          let same_formal : formal ≡ codes "feed" = cc in
          let same_actual : actual ≡ output_of f = cc in
          by_feed f (subst (λ y. ActualLoops p (x ∷ []) 0 y (plain_name (output_of f))) same_formal (subst (λ e. ActualLoops p (x ∷ []) 0 formal (plain_name e)) same_actual h))
      at_index (suc i) formal actual a b h = never_some formal a

  -- What feeds a stage gives no input.
  no_input_meaning : (f : Option ℕ) → IsStageBefore (suc (length fs)) f → (x : Text) → IsInputMeaning p (fed_meaning x f) → ⊥
  no_input_meaning None h x b = b
  no_input_meaning (Some j) h x b =
      let bad : IsTrue (is_input_kind (a_variable state boolean)) = subst (λ (k : Kind). IsTrue (is_input_kind k)) (out_kind (stage_name j) (stage_there j h.0 (omega (arith, h.1)))) b in cc

  feed_means_no_input : (x : Text) → IsStage x → MeansInput p (x ∷ []) (codes "feed" ∷ []) → ⊥
  feed_means_no_input x s m =
      let is = feed_means x s in
      no_input_meaning s.feed s.before x (subst (IsInputMeaning p) (same_meaning m.2.0 is.0 p (x ∷ []) (codes "feed" ∷ []) (a_variable_at m.0 m.1) (fed_meaning x s.feed) m.2.1 is.1) m.3)

  feed_reads_no_input : (x : Text) → IsStage x → ReadsInput p (x ∷ []) (codes "feed" ∷ []) → ⊥
  feed_reads_no_input x s r =
      let is = feed_means x s in
      by_feed s.feed (feed_is x s) (same_meaning r.means.0 is.0 p (x ∷ []) (codes "feed" ∷ []) (an_expression_at r.first r.place r.written) (fed_meaning x s.feed) r.means.1 is.1)
    where
      along : (n : ℕ) (first : Key) → first ≡ actual_key (x ∷ []) 0 → Leads p n first r.last → expression_of p (actual_key (x ∷ []) 0) ≡ Some ([], truth true) → ⊥
      along zero first k l e = subst (NamesInput p) (sym r.is ∙ ap (expression_of p) (l ∙ k) ∙ e) r.names_input
      along (suc n) first k l e = feed_needs_none x s l.0 (subst (λ key. Needs p key l.0) k l.1)

      by_feed : (f : Option ℕ) → expression_of p (actual_key (x ∷ []) 0) ≡ Some ([], output_of f) → an_expression_at r.first r.place r.written ≡ fed_meaning x f → ⊥
      by_feed None e same = let first : r.first ≡ actual_key (x ∷ []) 0 = cc in along r.steps r.first first r.leads e
      by_feed (Some j) e same = subst IsExpression same tt

  pub feed_gives_no_input : (x : Text) → IsStage x → GivesInput p (x ∷ []) (codes "feed" ∷ []) → ⊥
  feed_gives_no_input x s (inl m) = feed_means_no_input x s m
  feed_gives_no_input x s (inr r) = feed_reads_no_input x s r
