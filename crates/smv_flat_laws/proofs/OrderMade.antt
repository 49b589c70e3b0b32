-- The definitions of an accepted program have an order, in which each stands after those that it names.
use Rattle.std.proofs.Common.{◌≡◌, ℕ, zero, suc, ◌+◌, ◌<◌, arith, Bool, true, false, List, [], ◌∷◌, ◌++◌, length, Some, refl, sym, ◌∙◌, subst, inl, inr}
use Rattle.std.specs.Prelude.{slice_get, map, ◌⊎◌}
use Rattle.std.proofs.lemmas.Option.{slice_get_within, some_pair_parts}
use Rattle.base_values.proofs.ListLaws.{get_left, push_get}
use Rattle.smv_language.specs.Language.{Path, Formula, ProgramTree, Place, Key, Meaning, a_variable_at, an_expression_at, an_instance_at, Means, Each, AtSome}
use Rattle.smv_language.specs.Scope.{a_symbol}
use Rattle.smv_language.proofs.EachLaws.{each_not, each_end}
use Rattle.smv_flat_laws.specs.NameResolution.{leaves_in}
use Rattle.smv_flat_laws.specs.Looks.{MeansNothing}
use Rattle.smv_flat_laws.specs.Rules.{HasNoValue, nothing, only_an_instance, SomeHasNoValue, Needs, Leads, expression_of, IsAccepted}
use Rattle.smv_flat_laws.specs.Model.{Root, roots_of, keys_of_meaning, AreNamed, is_key_among, Adds, AddsAll, stands, comes, no_more, one_more}
use Rattle.smv_flat_laws.proofs.Conditions.{each_join, each_at}
use Rattle.smv_flat_laws.proofs.Listed.{map_has, all_added}
use Rattle.smv_flat_laws.proofs.Lists.{each_map, each_more}
use Rattle.smv_flat_laws.proofs.LookEnds.{decided}
use Rattle.smv_flat_laws.proofs.MeansListed.{means_there, IsGoodKey, good_written, good_roots}
use Rattle.smv_flat_laws.proofs.NoCircles.{by_steps}
use Rattle.smv_flat_laws.proofs.Places.{In, in_right}
use Rattle.smv_flat_laws.proofs.Resolving.{same_meaning}

leads_on : (p : ProgramTree) (a b : ℕ) (k j l : Key) → Leads p a k j → Leads p b j l → Leads p (a + b) k l
leads_on p zero b k j l h g = let same : b ≡ zero + b = omega arith in subst (λ n. Leads p n k l) same (subst (λ x. Leads p b x l) h g)
leads_on p (suc a) b k j l h g = let one : suc (a + b) ≡ suc a + b = omega arith in subst (λ n. Leads p n k l) one (h.0, h.1, leads_on p a b h.0 j l h.2 g)

module _ (p : ProgramTree) where
  -- the keys of the listed definitions
  abbrev pub all_keys : List Key
  all_keys = map (λ (r : Root). r.key) (roots_of p)

  -- a name means a definition
  abbrev pub Naming : Place → Key → Path → Type 0
  Naming at other name = (bt : Place) × (e : Formula) × Means p at name (an_expression_at other bt e)

  -- what a definition needs stands before it
  abbrev pub Settled : List Key → Type 0
  Settled ks = (j : ℕ) (k other : Key) → slice_get ks j ≡ Some k → Needs p k other → (i : ℕ) × (i < j) × (slice_get ks i ≡ Some other)

  named_in : (at : Place) (names : List Path) (needs : List Key) (other : Key) → AreNamed p at names needs → AtSome (Naming at other) names → In other needs
  named_in at [] needs other are h = absurd h
  named_in at (name ∷ names) needs other are (inl here) =
      let same : are.0 ≡ an_expression_at other here.0 here.1 = same_meaning are.2.0 here.2.0 p at name are.0 (an_expression_at other here.0 here.1) are.2.1 here.2.1 in
      subst (In other) (sym are.4) (subst (λ m. In other (keys_of_meaning m ++ are.1)) (sym same) (0, refl))
  named_in at (name ∷ names) needs other are (inr later) =
      subst (In other) (sym are.4) (in_right other (keys_of_meaning are.0) are.1 (named_in at names are.1 other are.3 later))

  needed_in : (at : Place) (e : Formula) (k : Key) (needs : List Key) (other : Key) → expression_of p k ≡ Some (at, e) → AreNamed p at (leaves_in e) needs → Needs p k other → In other needs
  needed_in at e k needs other is named n =
      let same : (n.place ≡ at) × (n.written ≡ e) = some_pair_parts n.place at n.written e (sym n.is ∙ is) in
      named_in at (leaves_in e) needs other named
      (subst (λ a. AtSome (Naming a other) (leaves_in e)) same.0 (subst (λ f. AtSome (Naming n.place other) (leaves_in f)) same.1 n.named))

  pushed : (ks : List Key) (k : Key) → Settled ks → ((other : Key) → Needs p k other → In other ks) → Settled (ks ++ k ∷ [])
  pushed ks k settled needed j x other e n = by_place (push_get ks k j x e)
    where
      by_place : (slice_get ks j ≡ Some x) ⊎ ((j ≡ length ks) × (k ≡ x)) → (i : ℕ) × (i < j) × (slice_get (ks ++ k ∷ []) i ≡ Some other)
      by_place (inl f) =
          let r : (i : ℕ) × (i < j) × (slice_get ks i ≡ Some other) = settled j x other f n in
          (r.0, r.1, get_left ks (k ∷ []) r.0 other r.2)
      by_place (inr (last, same)) =
          let i : In other ks = needed other (subst (λ y. Needs p y other) (sym same) n) in
          let less : i.0 < length ks = slice_get_within ks i.0 other i.1 in
          (i.0, omega (arith, less, last), get_left ks (k ∷ []) i.0 other i.1)

  mutual
    adds_settled : (done : List Key) (k : Key) (after : List Key) → Adds p done k after → Settled done → Settled after
    adds_settled done k after (stands h) settled = settled
    adds_settled done k after (comes {after = between} {needs = needs} {at = at} {e = e} fresh is named all) settled =
        pushed between k (all_settled done needs between all settled)
        (λ other n. let i : In other needs = needed_in at e k needs other is named n in each_at (λ j. In j between) needs i.0 other (all_added p done needs between all).0 i.1)

    pub all_settled : (done ks after : List Key) → AddsAll p done ks after → Settled done → Settled after
    all_settled done ks after no_more settled = settled
    all_settled done ks after (one_more {between = between} {more = more} {k = k} one rest) settled = all_settled between more after rest (adds_settled done k between one settled)

module _ (p : ProgramTree) (accepted : IsAccepted p) where
  -- a name with a value
  pub record Valued (at : Place) (name : Path) : Type 0 where
    pub meaning : Meaning
    pub means : Means p at name meaning
    pub value : (inside : Place) → meaning ≡ an_instance_at inside → ⊥

  pub values : (at : Place) (e : Formula) → (SomeHasNoValue p at e → ⊥) → Each (Valued at) (leaves_in e)
  values at e h = each_more (λ name. HasNoValue p at name → ⊥) (Valued at) (leaves_in e) of_name (each_not (HasNoValue p at) (leaves_in e) h)
    where
      by_decided : (name : Path) → (HasNoValue p at name → ⊥) → ((m : Meaning) × Means p at name m) ⊎ MeansNothing p at name → Valued at name
      by_decided name has (inl m) = record { meaning = m.0; means = m.1; value = λ inside same. has (only_an_instance inside (subst (Means p at name) same m.1)) }
      by_decided name has (inr none) = absurd (has (nothing none))

      of_name : (name : Path) → (HasNoValue p at name → ⊥) → Valued at name
      of_name name has = by_decided name has (decided p accepted at name)

  -- one definition leads to another
  abbrev Leading : Key → Key → Type 0
  Leading k j = IsGoodKey p k × ((n : ℕ) × Leads p (suc n) k j)

  further : (k j l : Key) → Leading k j → Leading j l → Leading k l
  further k j l a b =
      let one : suc a.1.0 + suc b.1.0 ≡ suc (a.1.0 + suc b.1.0) = omega arith in
      (a.0, (a.1.0 + suc b.1.0, subst (λ n. Leads p n k l) one (leads_on p (suc a.1.0) (suc b.1.0) k j l a.1.1 b.1.1)))

  covers : (k j : Key) → Leading k j → In k (all_keys p)
  covers k j a = subst (λ x. In x (all_keys p)) a.0.key (map_has (λ (r : Root). r.key) (roots_of p) a.0.root a.0.listed)

  -- the definitions that names mean
  record NamedBy (k : Key) (at : Place) (names : List Path) : Type 0 where
    pub needs : List Key
    pub are : AreNamed p at names needs
    pub each : Each (λ j. IsGoodKey p j × Needs p k j) needs

  named_by : (k : Key) (at : Place) (names : List Path) → Each (Valued at) names → ((j : Key) → AtSome (Naming p at j) names → Needs p k j) → NamedBy k at names
  named_by k at [] v into = record { needs = []; are = refl; each = tt }
  named_by k at (name ∷ names) v into =
      let rest : NamedBy k at names = named_by k at names v.1 (λ j h. into j (inr h)) in
      record {
        needs = keys_of_meaning v.0.meaning ++ rest.needs;
        are = (v.0.meaning, rest.needs, v.0.means, rest.are, refl);
        each = each_join (λ j. IsGoodKey p j × Needs p k j) (keys_of_meaning v.0.meaning) rest.needs (of_meaning v.0.meaning v.0.means) rest.each;
      }
    where
      of_meaning : (m : Meaning) → Means p at name m → Each (λ j. IsGoodKey p j × Needs p k j) (keys_of_meaning m)
      of_meaning (a_variable_at bt x) means = tt
      of_meaning (an_instance_at bt) means = tt
      of_meaning (a_symbol x) means = tt
      of_meaning (an_expression_at key bt e) means =
          ((good_written p accepted key bt e (means_there p means.0 at name (an_expression_at key bt e) means.1), into key (inl (bt, e, means))), tt)

  -- one definition, or all of a list, added after those that stand
  record OneAdded (done : List Key) (k : Key) : Type 0 where
    pub after : List Key
    pub adds : Adds p done k after
    pub good : Each (IsGoodKey p) after

  pub record AllAdded (done ks : List Key) : Type 0 where
    pub after : List Key
    pub adds : AddsAll p done ks after
    pub good : Each (IsGoodKey p) after

  abbrev CanAdd : Key → Type 0
  CanAdd k = (done : List Key) → Each (IsGoodKey p) done → OneAdded done k

  add_all : (ks : List Key) → Each CanAdd ks → (done : List Key) → Each (IsGoodKey p) done → AllAdded done ks
  add_all [] h done good = record { after = done; adds = no_more; good = good }
  add_all (k ∷ ks) h done good =
      let one : OneAdded done k = h.0 done good in
      let rest : AllAdded one.after ks = add_all ks h.1 one.after one.good in
      record { after = rest.after; adds = one_more one.adds rest.adds; good = rest.good }

  step : (k : Key) → ((j : Key) → Leading k j → IsGoodKey p j → CanAdd j) → IsGoodKey p k → CanAdd k
  step k inner good done all = by_done (is_key_among done k) refl
    where
      named : NamedBy k good.place (leaves_in good.written)
      named = named_by k good.place (leaves_in good.written) (values good.place good.written good.valued) (λ j h. record { place = good.place; written = good.written; is = good.is; named = h })

      rest : AllAdded done named.needs
      rest = add_all named.needs
          (each_more (λ j. IsGoodKey p j × Needs p k j) CanAdd named.needs (λ j g. inner j (good, (0, (j, g.1, refl))) g.0) named.each) done all

      by_done : (b : Bool) → is_key_among done k ≡ b → OneAdded done k
      by_done true e = record { after = done; adds = stands e; good = all }
      by_done false e = record { after = rest.after ++ k ∷ []; adds = comes e good.is named.are rest.adds; good = each_end (IsGoodKey p) rest.after k rest.good good }

  can_add : (k : Key) → IsGoodKey p k → CanAdd k
  can_add = by_steps Key Leading (λ k. IsGoodKey p k → CanAdd k) further (λ k a. a.0.free a.1) step (all_keys p) covers

  -- all definitions in order
  pub ordered : AllAdded [] (all_keys p)
  ordered = add_all (all_keys p)
      (each_map CanAdd (λ (r : Root). r.key) (roots_of p) (each_more (λ (r : Root). IsGoodKey p r.key) (λ (r : Root). CanAdd r.key) (roots_of p) (λ r good. can_add r.key good) (good_roots p accepted)))
      [] tt
