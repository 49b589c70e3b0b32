-- The flat model of a program costs what is counted over the program.
use Rattle.std.proofs.Common.{◌≡◌, ℕ, zero, suc, ◌+◌, ◌≤◌, arith, List, [], ◌∷◌, ◌++◌, Some, map, refl, sym, ap, ◌∙◌, subst}
use Rattle.std.specs.Prelude.{slice_get, sum_by, codes, pos}
use Rattle.std.proofs.lemmas.List.Sums.{sum_by-cons}
use Rattle.smv_language.specs.Language.{Tree, leaf, not_of, DeclaredTree, boolean, range, instance, var, define, init, ProgramTree, Place, Key, Each, EachBoth, FlatLeaf, FlatVariable, FlatFormula, FlatModel}
use Rattle.smv_flat_laws.specs.Items.{Visit, variables_of}
use Rattle.smv_flat_laws.specs.NameResolution.{Definition, Resolver, IsResolved}
use Rattle.smv_flat_laws.specs.Rules.{IsWalkable}
use Rattle.smv_flat_laws.specs.Model.{Condition, plain, now_among, next_among, kept, Written, IsConditionTree, IsFormulaOf, IsVariableOf, IsDefinitionOf, Root, roots_of, conditions, first_conditions, each_conditions, step_conditions, kept_conditions, IsFlatOf}
use Rattle.smv_language.proofs.ListLaws.{get_map}
use Rattle.smv_flat_laws.proofs.Conditions.{each_from}
use Rattle.smv_flat_laws.proofs.KindLaws.{with_both}
use Rattle.smv_flat_laws.proofs.KeysApart.{OtherKey, keys_apart}
use Rattle.smv_flat_laws.proofs.Listed.{root_written}
use Rattle.smv_flat_laws.proofs.Pairs.{Pairwise}
use Rattle.smv_flat_laws.proofs.Places.{In}
use Rattle.smv_type_laws.specs.Costs.{cost_of, declared_cost, formulas_cost}
use Rattle.smv_type_laws.specs.Counted.{condition_cost, written_cost, expression_cost, key_cost, counted_cost, CostsAsCounted}
use Rattle.smv_type_laws.proofs.ResolvedCosts.{resolved_cost}

-- conditions
one_cost : (m : FlatModel) (r : Resolver) (at : Place) (c : Condition) (flat : Tree FlatLeaf) → IsConditionTree m r at c flat → cost_of flat ≡ condition_cost c
one_cost m r at (plain e) flat t = resolved_cost (r at) e flat t
one_cost m r at (now_among x e) flat t = omega (arith, ap cost_of t.is, resolved_cost (r at) e t.value t.resolved)
one_cost m r at (next_among x e) flat t = omega (arith, ap cost_of t.is, resolved_cost (r at) e t.value t.resolved)
one_cost m r at (kept x) flat t = omega (arith, ap cost_of t.is)

pub all_cost : (m : FlatModel) (r : Resolver) (ws : List Written) (fs : List FlatFormula) → EachBoth (IsFormulaOf m r) ws fs → formulas_cost fs ≡ sum_by written_cost ws
all_cost m r [] [] h = refl
all_cost m r [] (f ∷ fs) h = absurd h
all_cost m r (w ∷ ws) [] h = absurd h
all_cost m r (w ∷ ws) (f ∷ fs) h =
    omega (arith, sum_by-cons (λ (f : FlatFormula). cost_of f.value) f fs, sum_by-cons written_cost w ws, one_cost m r w.place w.condition f.value h.0.tree, all_cost m r ws fs h.1)

-- variables
pub variables_sum : (m : FlatModel) (g : DeclaredTree → ℕ) (vs : List Visit) (xs : List FlatVariable) → EachBoth (IsVariableOf m) vs xs →
    sum_by (λ (x : FlatVariable). g x.declared) xs ≡ sum_by (λ (v : Visit). g v.decl.what) vs
variables_sum m g [] [] h = refl
variables_sum m g [] (x ∷ xs) h = absurd h
variables_sum m g (v ∷ vs) [] h = absurd h
variables_sum m g (v ∷ vs) (x ∷ xs) h =
    omega (arith, sum_by-cons (λ (x : FlatVariable). g x.declared) x xs, sum_by-cons (λ (v : Visit). g v.decl.what) v vs, ap g h.0.declared, variables_sum m g vs xs h.1)

-- Definitions: those of different keys are no more than all.
-- a key is taken out of a list
taken : (w : Key → ℕ) (js : List Key) (k : Key) → In k js →
    (rest : List Key) × (sum_by w js ≡ w k + sum_by w rest) × ((l : Key) → In l js → (k ≡ l → ⊥) → In l rest)
taken w [] k (i, e) = cc
taken w (j ∷ js) k (zero, e) = let same : j ≡ k = cc in (js, sum_by-cons w j js ∙ ap (λ z. w z + sum_by w js) same, others same)
  where
    others : j ≡ k → (l : Key) → In l (j ∷ js) → (k ≡ l → ⊥) → In l js
    others same l (zero, g) n = let here : j ≡ l = cc in absurd (n (sym same ∙ here))
    others same l (suc i, g) n = (i, g)
taken w (j ∷ js) k (suc i, e) = let r = taken w js k (i, e) in (j ∷ r.0, omega (arith, sum_by-cons w j js, sum_by-cons w j r.0, r.1), others r.0 r.2)
  where
    others : (rest : List Key) → ((l : Key) → In l js → (k ≡ l → ⊥) → In l rest) → (l : Key) → In l (j ∷ js) → (k ≡ l → ⊥) → In l (j ∷ rest)
    others rest more l (zero, g) n = (0, g)
    others rest more l (suc i, g) n = let q : In l rest = more l (i, g) n in (suc q.0, q.1)

apart_sum : (w : Key → ℕ) (rs : List Root) (js : List Key) → Pairwise OtherKey rs → Each (λ (r : Root). In r.key js) rs → sum_by (λ (r : Root). w r.key) rs ≤ sum_by w js
apart_sum w [] js apart there = omega arith
apart_sum w (r ∷ rs) js apart there =
    let t = taken w js r.key there.0 in
    let still : Each (λ (s : Root). In s.key t.0) rs =
    with_both (OtherKey r) (λ (s : Root). In s.key js) (λ (s : Root). In s.key t.0) rs (λ s other h. t.2 s.key h other) apart.0 there.1 in
    omega (arith, sum_by-cons (λ (s : Root). w s.key) r rs, t.1, apart_sum w rs t.0 apart.1 still)

module _ (p : ProgramTree) (m : FlatModel) (walkable : IsWalkable p) (is : IsFlatOf p m) where
  -- a root is the key of a definition
  all_written : Each (λ (r : Root). In r.key (map (λ (d : Definition). d.key) is.written)) (roots_of p)
  all_written = each_from (λ (r : Root). In r.key (map (λ (d : Definition). d.key) is.written)) (roots_of p) listed
    where
      listed : (i : ℕ) (r : Root) → slice_get (roots_of p) i ≡ Some r → In r.key (map (λ (d : Definition). d.key) is.written)
      listed i r e =
          let t : (d : Definition) × In d is.written × (d.key ≡ r.key) = root_written p m is r (i, e) in
          subst (λ k. In k (map (λ (d : Definition). d.key) is.written)) t.2 (t.1.0, get_map (λ (d : Definition). d.key) is.written t.1.0 t.0 t.1.1)

  -- the formulas of definitions cost what their expressions cost
  formulas_as_keys : (ds : List Definition) (fs : List FlatFormula) → EachBoth (IsDefinitionOf p m) ds fs →
      ((k : ℕ) (d : Definition) → slice_get ds k ≡ Some d → (f : FlatFormula) × (slice_get fs k ≡ Some f) × IsResolved (is.resolver d.place) d.written f.value) →
      formulas_cost fs ≡ sum_by (key_cost p) (map (λ (d : Definition). d.key) ds)
  formulas_as_keys [] [] h g = refl
  formulas_as_keys [] (f ∷ fs) h g = absurd h
  formulas_as_keys (d ∷ ds) [] h g = absurd h
  formulas_as_keys (d ∷ ds) (f ∷ fs) h g =
      let t : (e : FlatFormula) × (Some f ≡ Some e) × IsResolved (is.resolver d.place) d.written e.value = g 0 d refl in
      let same : t.0 ≡ f = cc in
      let cost : cost_of f.value ≡ cost_of d.written = sym (ap (λ (e : FlatFormula). cost_of e.value) same) ∙ resolved_cost (is.resolver d.place) d.written t.0.value t.2 in
      let by_key : key_cost p d.key ≡ cost_of d.written = ap expression_cost h.0.expression in
      omega (arith, sum_by-cons (λ (e : FlatFormula). cost_of e.value) f fs, sum_by-cons (key_cost p) d.key (map (λ (e : Definition). e.key) ds), cost, by_key, formulas_as_keys ds fs h.1 (λ k e q. g (suc k) e q))

  roots_most : sum_by (λ (r : Root). key_cost p r.key) (roots_of p) ≤ formulas_cost m.definitions
  roots_most =
      subst (λ n. sum_by (λ (r : Root). key_cost p r.key) (roots_of p) ≤ n) (sym (formulas_as_keys is.written m.definitions is.placed resolved))
      (apart_sum (key_cost p) (roots_of p) (map (λ (d : Definition). d.key) is.written) (keys_apart p walkable) all_written)
    where
      resolved : (k : ℕ) (d : Definition) → slice_get is.written k ≡ Some d → (f : FlatFormula) × (slice_get m.definitions k ≡ Some f) × IsResolved (is.resolver d.place) d.written f.value
      resolved k d e = let f = is.definitions k d e in (f.0, f.1, f.2)

pub costs_as_counted : CostsAsCounted
costs_as_counted p m walkable is =
    omega (
      arith,
      variables_sum m declared_cost (variables_of p) m.variables is.variables,
      roots_most p m walkable is,
      all_cost m is.resolver (conditions first_conditions p) m.at_first is.at_first,
      all_cost m is.resolver (conditions each_conditions p) m.at_each is.at_each,
      all_cost m is.resolver (conditions step_conditions p ++ conditions kept_conditions p) m.at_step is.at_step,
    )

-- MODULE main VAR a : M; b : M; MODULE M VAR on : boolean; n : 0..7; DEFINE d := !on; INIT on;
abbrev pub twice : ProgramTree
twice =
    record {
      name = codes "main";
      formals = [];
      sections = var (record { name = codes "a"; what = instance (codes "M") [] } ∷ record { name = codes "b"; what = instance (codes "M") [] } ∷ []) ∷ [];
    } ∷
    record {
      name = codes "M";
      formals = [];
      sections =
          var (record { name = codes "on"; what = boolean } ∷ record { name = codes "n"; what = range (pos 0) (pos 7) } ∷ []) ∷
          define (record { name = codes "d"; value = not_of (leaf (codes "on" ∷ [])) } ∷ []) ∷ init (leaf (codes "on" ∷ [])) ∷ [];
    } ∷ []

-- each of the two costs 3 for n, 2 for d and 1 for its condition
example : counted_cost twice ≡ 12
example = refl
