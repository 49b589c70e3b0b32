-- The flat model of a program of stages is one of truth values, so that it breaks no rule of kinds.
use Rattle.std.proofs.Common.{◌≡◌, ℕ, suc, ◌≤◌, arith, List, [], ◌∷◌, ◌++◌, length, Option, Some, None, refl, sym, ◌∙◌, ap, subst}
use Rattle.std.specs.Prelude.{codes, map, flat_map, slice_get}
use Rattle.std.proofs.lemmas.List.{length-map}
use Rattle.smv_language.specs.Language.{Tree, leaf, Text, Formula, ProgramTree, Place, Meaning, a_variable_at, an_expression_at, an_instance_at, Each, EachBoth, FlatLeaf, flat_variable, flat_symbol, flat_definition, FlatInstance, FlatVariable, FlatFormula, FlatModel}
use Rattle.smv_language.specs.Scope.{a_symbol}
use Rattle.smv_flat_laws.specs.NameResolution.{StandsFor, Resolver, IsSound, IsResolved, Definition}
use Rattle.smv_flat_laws.specs.Items.{instances_of, Item, numbered_from, items_named, Visit, variable_declared, variables_of, instances_of_visit}
use Rattle.smv_flat_laws.specs.Model.{Condition, now_among, Written, written_at, conditions, first_conditions, each_conditions, step_conditions, kept_conditions, IsVariableOf, IsFormulaOf, first_appearances, symbols_of_item, symbols_of, IsDefinitionOf, IsFlatOf}
use Rattle.smv_flat_laws.proofs.Conditions.{each_from}
use Rattle.smv_flat_laws.proofs.Variables.{both_at_second}
use Rattle.smv_type_laws.specs.Models.{IsTyped}
use Rattle.fault_generator.specs.Generator.{stage_name}
use Rattle.fault_generator_laws.specs.Laws.{GeneratedIsTyped}
use Rattle.fault_generator_laws.proofs.Stages.{relay_sections, program_of, AreStages, generated_of_stages}
use Rattle.fault_generator_laws.proofs.Items.{items_from, item_out, item_follows, item_stage, item_dead, main_is}
use Rattle.fault_generator_laws.proofs.Accepted.{out_visit, visits_from, visits_are}
use Rattle.fault_generator_laws.proofs.Truths.{IsNoSymbol, IsLogical, IsBoolean, IsDefined, IsComparison, IsOfTruths, truths_typed}
use Rattle.fault_generator_laws.proofs.Expressions.{IsCheapLogic, relay_logic, expression_logic}
use Rattle.fault_generator_laws.proofs.Roots.{stage_instances, instances_with, few_keys}
use Rattle.std.proofs.lemmas.Option.{none-some as never_some}
use Rattle.smv_flat_laws.proofs.BothLaws.{both_long}

both_none : {A B : Type 0} (R : A → B → Type 0) (xs : List A) (ys : List B) → xs ≡ [] → EachBoth R xs ys → ys ≡ []
both_none R [] [] e h = refl
both_none R [] (y ∷ ys) e h = absurd h
both_none R (x ∷ xs) ys e h = let bad : x ∷ xs ≡ [] = e in cc

-- the outputs of stages, and what each follows
abbrev outs_from : ℕ → List (Option ℕ) → List Visit
outs_from i [] = []
outs_from i (f ∷ fs) = out_visit i ∷ outs_from (suc i) fs

abbrev follows_at : ℕ → Written
follows_at i = record { place = stage_name i ∷ []; item = 3; condition = now_among (codes "out") (leaf (codes "feed" ∷ [])) }

abbrev follows_from : ℕ → List (Option ℕ) → List Written
follows_from i [] = []
follows_from i (f ∷ fs) = follows_at i ∷ follows_from (suc i) fs

outs_long : (i : ℕ) (fs : List (Option ℕ)) → length (outs_from i fs) ≡ length fs
outs_long i [] = refl
outs_long i (f ∷ fs) = ap suc (outs_long (suc i) fs)

follows_long : (i : ℕ) (fs : List (Option ℕ)) → length (follows_from i fs) ≡ length fs
follows_long i [] = refl
follows_long i (f ∷ fs) = ap suc (follows_long (suc i) fs)

outs_of : (k i : ℕ) (fs : List (Option ℕ)) → flat_map (λ v. variable_declared v v.decl.what) (visits_from k i fs) ≡ outs_from i fs
outs_of k i [] = refl
outs_of k i (f ∷ fs) = ap (λ vs. out_visit i ∷ vs) (outs_of (suc k) (suc i) fs)

all_boolean : (m : FlatModel) (i : ℕ) (fs : List (Option ℕ)) (xs : List FlatVariable) → EachBoth (IsVariableOf m) (outs_from i fs) xs → Each IsBoolean xs
all_boolean m i [] [] h = tt
all_boolean m i [] (x ∷ xs) h = absurd h
all_boolean m i (f ∷ fs) [] h = absurd h
all_boolean m i (f ∷ fs) (x ∷ xs) h = (h.0.declared, all_boolean m (suc i) fs xs h.1)

module _ (fs : List (Option ℕ)) (last_a last_b : Option ℕ) (are : AreStages fs last_a last_b) where
  abbrev p : ProgramTree
  p = program_of fs last_a last_b

  variables_are : variables_of p ≡ outs_from 1 fs
  variables_are = ap (λ vs. flat_map (λ (v : Visit). variable_declared v v.decl.what) vs) (visits_are fs last_a last_b are) ∙ outs_of 5 1 fs

  instances_are : instances_of p ≡ instances_with fs
  instances_are = ap (λ vs. main_is fs last_a last_b are ∷ flat_map instances_of_visit vs) (visits_are fs last_a last_b are) ∙ ap (λ (xs : List FlatInstance). main_is fs last_a last_b are ∷ xs) (stages_are 5 1 fs)
    where
      stages_are : (k i : ℕ) (gs : List (Option ℕ)) → flat_map instances_of_visit (visits_from k i gs) ≡ stage_instances i gs
      stages_are k i [] = refl
      stages_are k i (f ∷ gs) = ap (λ xs. record { place = stage_name i ∷ []; module_name = codes "Relay" } ∷ xs) (stages_are (suc k) (suc i) gs)

  stages_symbols : (i : ℕ) (gs : List (Option ℕ)) → flat_map symbols_of_item (items_from last_a last_b i gs) ≡ []
  stages_symbols i [] = refl
  stages_symbols i (f ∷ gs) = stages_symbols (suc i) gs

  no_symbols : symbols_of p ≡ []
  no_symbols = ap (λ xs. first_appearances [] (xs ++ [])) (stages_symbols 1 fs)

  -- what the instances ask
  abbrev asked : (Item → List Condition) → FlatInstance → List Written
  asked what at = flat_map (written_at what at.place) (items_named p at.module_name)

  pub main_asks_none : (what : Item → List Condition) → ((i : ℕ) (f : Option ℕ) → what (item_stage i f) ≡ []) → what (item_dead last_a last_b) ≡ [] → (k i : ℕ) (before : List Item) (gs : List (Option ℕ)) →
      flat_map (written_at what []) (numbered_from k before (items_from last_a last_b i gs)) ≡ []
  main_asks_none what h d k i before [] = rw d refl
  main_asks_none what h d k i before (f ∷ gs) = rw (h i f, main_asks_none what h d (suc k) (suc i) (before ++ item_stage i f ∷ []) gs) refl

  stages_ask_none : (what : Item → List Condition) → what item_out ≡ [] → what item_follows ≡ [] → (k i : ℕ) (gs : List (Option ℕ)) → flat_map (asked what) (flat_map instances_of_visit (visits_from k i gs)) ≡ []
  stages_ask_none what o a k i [] = refl
  stages_ask_none what o a k i (f ∷ gs) = rw (o, a, stages_ask_none what o a (suc k) (suc i) gs) refl

  stages_ask : (k i : ℕ) (gs : List (Option ℕ)) → flat_map (asked each_conditions) (flat_map instances_of_visit (visits_from k i gs)) ≡ follows_from i gs
  stages_ask k i [] = refl
  stages_ask k i (f ∷ gs) = ap (λ ws. follows_at i ∷ ws) (stages_ask (suc k) (suc i) gs)

  conditions_are : (what : Item → List Condition) → ((i : ℕ) (f : Option ℕ) → what (item_stage i f) ≡ []) → what (item_dead last_a last_b) ≡ [] → (ws : List Written) →
      flat_map (asked what) (flat_map instances_of_visit (visits_from 5 1 fs)) ≡ ws → conditions what p ≡ ws
  conditions_are what h d ws e =
      ap (λ vs. asked what (main_is fs last_a last_b are) ++ flat_map (asked what) (flat_map instances_of_visit vs)) (visits_are fs last_a last_b are)
      ∙ ap (λ w. w ++ flat_map (asked what) (flat_map instances_of_visit (visits_from 5 1 fs))) (main_asks_none what h d 5 1 [] fs) ∙ e

  none_asked : (what : Item → List Condition) → ((i : ℕ) (f : Option ℕ) → what (item_stage i f) ≡ []) → what (item_dead last_a last_b) ≡ [] → what item_out ≡ [] → what item_follows ≡ [] → conditions what p ≡ []
  none_asked what h d o a = conditions_are what h d [] (stages_ask_none what o a 5 1 fs)

  module _ (m : FlatModel) (is : IsFlatOf p m) where
    stands_for_none : (l : FlatLeaf) (meaning : Meaning) → StandsFor m is.written l meaning → IsNoSymbol l
    stands_for_none (flat_variable i) meaning h = tt
    stands_for_none (flat_definition i) meaning h = tt
    stands_for_none (flat_symbol i) (a_symbol x) h = let bad : None ≡ Some x = subst (λ (xs : List Text). slice_get xs i ≡ Some x) (is.symbols ∙ no_symbols) h in never_some x bad
    stands_for_none (flat_symbol i) (a_variable_at at x) h = h
    stands_for_none (flat_symbol i) (an_expression_at key at e) h = h
    stands_for_none (flat_symbol i) (an_instance_at inside) h = h

    pub logical_by : (r : Resolver) → IsSound p m is.written r → (at : Place) (e : Formula) (flat : Tree FlatLeaf) → IsResolved (r at) e flat → IsCheapLogic e → IsLogical flat
    logical_by r sound at e flat resolved cheap = record {
      resolver = r at;
      sound = λ name l found. let leaf_is = sound at name l found in stands_for_none l leaf_is.0 leaf_is.2;
      written = e;
      logic = cheap.0;
      cheap = cheap.1;
      resolved = resolved;
    }

    logical : (at : Place) (e : Formula) (flat : Tree FlatLeaf) → IsResolved (is.resolver at) e flat → IsCheapLogic e → IsLogical flat
    logical = logical_by is.resolver is.sound

    all_compared : (i : ℕ) (gs : List (Option ℕ)) (xs : List FlatFormula) → EachBoth (IsFormulaOf m is.resolver) (follows_from i gs) xs → Each IsComparison xs
    all_compared i [] [] h = tt
    all_compared i [] (x ∷ xs) h = absurd h
    all_compared i (f ∷ gs) [] h = absurd h
    all_compared i (f ∷ gs) (x ∷ xs) h = (
      record {
        variable = h.0.tree.number;
        value = h.0.tree.value;
        is = h.0.tree.is;
        logical = logical (stage_name i ∷ []) (leaf (codes "feed" ∷ [])) h.0.tree.value h.0.tree.resolved (tt, omega arith);
      },
      all_compared (suc i) gs xs h.1,
    )

    defined : (i : ℕ) (f : FlatFormula) → slice_get m.definitions i ≡ Some f → IsDefined f
    defined i f e =
        let d : (d : Definition) × (slice_get is.written i ≡ Some d) × IsDefinitionOf p m d f = both_at_second (IsDefinitionOf p m) is.written m.definitions i f is.placed e in
        let g = is.definitions i d.0 d.1 in
        let both : Some g.0 ≡ Some f = sym g.1 ∙ e in
        let same : g.0 ≡ f = cc in
        subst IsDefined same (logical d.0.place d.0.written g.0.value g.2 (expression_logic relay_sections fs last_a last_b relay_logic d.0.key d.0.place d.0.written d.2.expression))

    variables_both : EachBoth (IsVariableOf m) (outs_from 1 fs) m.variables
    variables_both = subst (λ vs. EachBoth (IsVariableOf m) vs m.variables) variables_are is.variables

    each_both : EachBoth (IsFormulaOf m is.resolver) (follows_from 1 fs) m.at_each
    each_both = subst (λ ws. EachBoth (IsFormulaOf m is.resolver) ws m.at_each) (conditions_are each_conditions (λ i f. refl) refl (follows_from 1 fs) (stages_ask 5 1 fs)) is.at_each

    few_written : length m.definitions ≤ suc (length fs)
    few_written = omega (
      arith,
      both_long (IsDefinitionOf p m) is.written m.definitions is.placed,
      few_keys relay_sections fs last_a last_b are refl (λ at. refl) instances_are (map (λ (d : Definition). d.key) is.written) is.order,
      length-map is.written (λ (d : Definition). d.key),
    )

    pub of_truths : IsOfTruths m
    of_truths = record {
      booleans = all_boolean m 1 fs m.variables variables_both;
      defined = each_from IsDefined m.definitions defined;
      at_first = both_none (IsFormulaOf m is.resolver) (conditions first_conditions p) m.at_first (none_asked first_conditions (λ i f. refl) refl refl refl) is.at_first;
      at_each = all_compared 1 fs m.at_each each_both;
      at_step = both_none (IsFormulaOf m is.resolver) (conditions step_conditions p ++ conditions kept_conditions p) m.at_step
          (rw (none_asked step_conditions (λ i f. refl) refl refl refl, none_asked kept_conditions (λ i f. refl) refl refl refl) refl) is.at_step;
      variables = omega (arith, both_long (IsVariableOf m) (outs_from 1 fs) m.variables variables_both, outs_long 1 fs, are.few);
      definitions = omega (arith, few_written, are.few);
      conditions = omega (arith, both_long (IsFormulaOf m is.resolver) (follows_from 1 fs) m.at_each each_both, follows_long 1 fs, are.few);
    }

    pub typed : IsTyped m
    typed = truths_typed m of_truths

pub generated_typed : GeneratedIsTyped
generated_typed number stages few m is =
    let of = generated_of_stages number stages few in typed of.fs of.last_a of.last_b of.are m (subst (λ p. IsFlatOf p m) (sym of.same) is)
