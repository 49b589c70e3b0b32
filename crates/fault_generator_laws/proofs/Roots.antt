-- The definitions of a program of stages are few: `dead`, and TRUE for each stage that nothing else feeds. None names another.
use Rattle.std.proofs.Common.{◌≡◌, ℕ, suc, ◌+◌, ◌≤◌, arith, List, [], ◌∷◌, ◌++◌, length, Option, Some, None, refl, sym, ◌∙◌, ap, subst, append-nil}
use Rattle.std.specs.Prelude.{codes, map, flat_map}
use Rattle.std.proofs.lemmas.List.{length-map}
use Rattle.smv_language.specs.Language.{Text, Path, Formula, boolean, SectionTree, ProgramTree, Place, state, a_variable, kind_in_sections, Key, define_key, actual_key, a_variable_at, means_in, Each, FlatInstance}
use Rattle.smv_flat_laws.specs.NameResolution.{leaves_in}
use Rattle.smv_flat_laws.specs.Items.{Item, NumberedItem, numbered_from, items_of_section, items_named, instances_of}
use Rattle.smv_flat_laws.specs.Rules.{expression_of}
use Rattle.smv_flat_laws.specs.Model.{Root, roots_of_item, roots_of, keys_of_meaning, AreNamed, Adds, AddsAll, stands, comes, no_more, one_more}
use Rattle.smv_flat_laws.proofs.Conditions.{each_join}
use Rattle.smv_flat_laws.proofs.Lists.{length_end, each_map}
use Rattle.smv_flat_laws.proofs.Resolving.{same_meaning}
use Rattle.fault_generator.specs.Generator.{stage_name, output_of, dead_formula}
use Rattle.fault_generator_laws.proofs.Stages.{IsStageBefore, program_with, AreStages}
use Rattle.fault_generator_laws.proofs.Meanings.{IsStage, stage_there, out_means, dead_is, feed_is}
use Rattle.fault_generator_laws.proofs.Items.{item_stage, items_from}

-- the names of what a key stands for mean no definition
abbrev IsNeedless : ProgramTree → Key → Type 0
IsNeedless p key = (at : Place) (e : Formula) (needs : List Key) → expression_of p key ≡ Some (at, e) → AreNamed p at (leaves_in e) needs → needs ≡ []

abbrev NamesNone : ProgramTree → Option (Place × Formula) → Type 0
NamesNone p None = Unit {0}
NamesNone p (Some at_e) = (needs : List Key) → AreNamed p at_e.0 (leaves_in at_e.1) needs → needs ≡ []

needless : (p : ProgramTree) (key : Key) (o : Option (Place × Formula)) → expression_of p key ≡ o → NamesNone p o → IsNeedless p key
needless p key o is h at e needs found named = subst (NamesNone p) (sym is ∙ found) h needs named

-- So each one adds itself at most.
nothing_added : (p : ProgramTree) (done ks after : List Key) → ks ≡ [] → AddsAll p done ks after → length after ≡ length done
nothing_added p done ks after none no_more = refl
nothing_added p done ks after none (one_more {more = more} {k = k} x xs) = let bad : k ∷ more ≡ [] = none in cc

one_added : (p : ProgramTree) (done : List Key) (k : Key) (after : List Key) → IsNeedless p k → Adds p done k after → length after ≤ suc (length done)
one_added p done k after n (stands h) = omega arith
one_added p done k after n (comes {after = a} {needs = ks} {at = at} {e = e} h is named all) =
    omega (arith, length_end a k, nothing_added p done ks a (n at e ks is named) all)

all_added : (p : ProgramTree) (done ks after : List Key) → Each (IsNeedless p) ks → AddsAll p done ks after → length after ≤ length done + length ks
all_added p done ks after n no_more = omega arith
all_added p done ks after n (one_more {between = u} {more = more} {k = k} x xs) = omega (arith, one_added p done k u n.0 x, all_added p u more after n.1 xs)

-- the key of each of these roots is so, and there are at most so many
record AreFew (p : ProgramTree) (roots : List Root) (most : ℕ) : Type 0 where
  needless : Each (λ (r : Root). IsNeedless p r.key) roots
  few : length roots ≤ most

-- the instances: `main`, and then the stages
abbrev pub stage_instances : ℕ → List (Option ℕ) → List FlatInstance
stage_instances i [] = []
stage_instances i (f ∷ fs) = record { place = stage_name i ∷ []; module_name = codes "Relay" } ∷ stage_instances (suc i) fs

abbrev pub instances_with : List (Option ℕ) → List FlatInstance
instances_with fs = record { place = []; module_name = codes "main" } ∷ stage_instances 1 fs

module _ (sections : List SectionTree) (fs : List (Option ℕ)) (last_a last_b : Option ℕ) (are : AreStages fs last_a last_b) (out : kind_in_sections sections (codes "out") ≡ a_variable state boolean)
    (no_roots : (at : Place) → flat_map (λ (x : NumberedItem). roots_of_item at x.number x.item) (numbered_from 2 [] (flat_map items_of_section sections)) ≡ [])
    (instances : instances_of (program_with sections fs last_a last_b) ≡ instances_with fs) where
  abbrev p : ProgramTree
  p = program_with sections fs last_a last_b

  -- names of outputs mean no definition
  abbrev IsOutput : Path → Type 0
  IsOutput name = (j : ℕ) × IsStage sections fs last_a last_b are out (stage_name j) × (name ≡ stage_name j ∷ codes "out" ∷ [])

  outputs_name_none : (names : List Path) (needs : List Key) → Each IsOutput names → AreNamed p [] names needs → needs ≡ []
  outputs_name_none [] needs h named = named
  outputs_name_none (name ∷ names) needs h named =
      let out = out_means sections fs last_a last_b are out h.0.0 h.0.1 in
      let same = same_meaning named.2.0 out.0 p [] (stage_name h.0.0 ∷ codes "out" ∷ []) named.0 (a_variable_at (stage_name h.0.0 ∷ []) (codes "out"))
      (subst (λ y. means_in named.2.0 p [] y ≡ Some named.0) h.0.2 named.2.1) out.1 in
      named.4 ∙ ap (λ meaning. keys_of_meaning meaning ++ named.1) same ∙ outputs_name_none names named.1 h.1 named.3

  output_names : (f : Option ℕ) → IsStageBefore (suc (length fs)) f → Each IsOutput (leaves_in (output_of f))
  output_names None h = tt
  output_names (Some j) h = ((j, stage_there sections fs last_a last_b are out j h.0 (omega (arith, h.1)), refl), tt)

  dead_needless : IsNeedless p (define_key [] (codes "dead"))
  dead_needless = needless p (define_key [] (codes "dead")) (Some ([], dead_formula last_a last_b)) (dead_is sections fs last_a last_b are out)
      (λ needs named. outputs_name_none (leaves_in (dead_formula last_a last_b)) needs (each_join IsOutput (leaves_in (output_of last_a)) (leaves_in (output_of last_b)) (output_names last_a are.is_a) (output_names last_b are.is_b)) named)

  feed_needless : (x : Text) → IsStage sections fs last_a last_b are out x → IsNeedless p (actual_key (x ∷ []) 0)
  feed_needless x s = needless p (actual_key (x ∷ []) 0) (Some ([], output_of s.feed)) (feed_is sections fs last_a last_b are out x s)
      (λ needs named. outputs_name_none (leaves_in (output_of s.feed)) needs (output_names s.feed s.before) named)

  main_roots : (k i : ℕ) (before : List Item) (gs : List (Option ℕ)) → 1 ≤ i → i + length gs ≤ suc (length fs) →
      AreFew p (flat_map (λ (x : NumberedItem). roots_of_item [] x.number x.item) (numbered_from k before (items_from last_a last_b i gs))) (suc (length gs))
  main_roots k i before [] h l = record { needless = (dead_needless, tt); few = omega arith }
  main_roots k i before (None ∷ gs) h l =
      let more = main_roots (suc k) (suc i) (before ++ item_stage i None ∷ []) gs (omega arith) (omega (arith, l)) in
      record { needless = (feed_needless (stage_name i) (stage_there sections fs last_a last_b are out i h (omega (arith, l))), more.needless); few = omega (arith, more.few) }
  main_roots k i before (Some j ∷ gs) h l =
      let more = main_roots (suc k) (suc i) (before ++ item_stage i (Some j) ∷ []) gs (omega arith) (omega (arith, l)) in
      record { needless = more.needless; few = omega (arith, more.few) }

  abbrev roots_at : FlatInstance → List Root
  roots_at at = flat_map (λ (x : NumberedItem). roots_of_item at.place x.number x.item) (items_named p at.module_name)

  no_stage_roots : (i : ℕ) (gs : List (Option ℕ)) → flat_map roots_at (stage_instances i gs) ≡ []
  no_stage_roots i [] = refl
  no_stage_roots i (f ∷ gs) = ap (λ roots. roots ++ flat_map roots_at (stage_instances (suc i) gs)) (no_roots (stage_name i ∷ [])) ∙ no_stage_roots (suc i) gs

  abbrev first_item : ℕ
  first_item = suc (1 + suc (length (flat_map items_of_section sections)))

  roots_are : roots_of p ≡ flat_map (λ (x : NumberedItem). roots_of_item [] x.number x.item) (numbered_from first_item [] (items_from last_a last_b 1 fs))
  roots_are =
      ap (flat_map roots_at) instances
      ∙ ap (λ roots. roots_at (record { place = []; module_name = codes "main" }) ++ roots) (no_stage_roots 1 fs)
      ∙ append-nil (roots_at (record { place = []; module_name = codes "main" }))

  few_roots : AreFew p (roots_of p) (suc (length fs))
  few_roots = subst (λ roots. AreFew p roots (suc (length fs))) (sym roots_are) (main_roots first_item 1 [] fs (omega arith) (omega arith))

  pub few_keys : (after : List Key) → AddsAll p [] (map (λ (r : Root). r.key) (roots_of p)) after → length after ≤ suc (length fs)
  few_keys after h = omega (arith, all_added p [] (map (λ (r : Root). r.key) (roots_of p)) after (each_map (IsNeedless p) (λ (r : Root). r.key) (roots_of p) few_roots.needless) h, few_roots.few, length-map (roots_of p) (λ (r : Root). r.key))
