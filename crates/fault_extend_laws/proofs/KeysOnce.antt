-- A flat model has no definition twice.
use Rattle.std.proofs.Common.{◌≡◌, ◌⊎◌, inl, inr, ℕ, zero, suc, ◌<◌, arith, true, false, List, [], ◌∷◌, Some, refl, sym, ◌∙◌, ap, subst}
use Rattle.std.specs.Prelude.{slice_get, map}
use Rattle.smv_language.specs.Language.{Path, Formula, ProgramTree, Place, Key, Meaning, a_variable_at, an_expression_at, an_instance_at, Means, Each, FlatLeaf, flat_variable, flat_symbol, flat_definition, FlatFormula, FlatModel}
use Rattle.smv_language.specs.Scope.{a_symbol}
use Rattle.smv_flat_laws.specs.NameResolution.{leaves_in, Definition, StandsFor, IsLeafOf, IsBefore}
use Rattle.smv_flat_laws.specs.Rules.{expression_of}
use Rattle.smv_flat_laws.specs.Model.{Root, roots_of, keys_of_meaning, AreNamed, same_key, is_key_among, Adds, AddsAll, stands, comes, no_more, one_more, IsDefinitionOf, KeysDiffer, IsFlatOf}
use Rattle.smv_flat_laws.proofs.Conditions.{each_at, each_from, each_join}
use Rattle.smv_flat_laws.proofs.Listed.{root_written}
use Rattle.smv_flat_laws.proofs.Lists.{each_more, each_of_map}
use Rattle.smv_flat_laws.proofs.Places.{In}
use Rattle.smv_flat_laws.proofs.Resolving.{same_meaning, Known, names_known}
use Rattle.smv_flat_laws.proofs.Variables.{both_at}
use Rattle.std.proofs.lemmas.Bool.{or_right}
use Rattle.std.proofs.lemmas.Option.{some_pair_parts as both_parts}
use Rattle.smv_language.proofs.ListLaws.{get_mapped, get_map}
use Rattle.smv_flat_laws.proofs.Numbered.{same_key_refl}
use Rattle.smv_flat_laws.proofs.Pairs.{pairs_join, Pairwise}

among_there : (done : List Key) (k : Key) → In k done → is_key_among done k ≡ true
among_there [] k h = cc
among_there (j ∷ js) k (zero, e) =
    let same : j ≡ k = cc in
    let t : same_key j k ≡ true = subst (λ x. same_key x k ≡ true) (sym same) (same_key_refl k) in
    rw t refl
among_there (j ∷ js) k (suc i, e) = or_right (same_key j k) (is_key_among js k) (among_there js k (i, e))

abbrev keys_of : List Definition → List Key
keys_of ds = map (λ (d : Definition). d.key) ds

-- the key stands in a list, before this place
abbrev Below : List Key → ℕ → Key → Type 0
Below ks b k = (q : ℕ) × (q < b) × (slice_get ks q ≡ Some k)

abbrev OtherKey : Key → Key → Type 0
OtherKey j k = j ≡ k → ⊥

module _ (p : ProgramTree) (m : FlatModel) (is : IsFlatOf p m) where
  -- the definition that a leaf before a place stands for is before it
  leaf_below : (i : ℕ) (l : FlatLeaf) (key : Key) (at : Place) (e : Formula) → StandsFor m is.written l (an_expression_at key at e) → IsBefore i l → Below (keys_of is.written) i key
  leaf_below i (flat_variable q) key at e h b = absurd h
  leaf_below i (flat_symbol q) key at e h b = absurd h
  leaf_below i (flat_definition q) key at e h b = (q, b, get_map (λ (d : Definition). d.key) is.written q _ h)

  meaning_below : (i : ℕ) (at : Place) (name : Path) (meaning : Meaning) → Means p at name meaning → Known (IsBefore i) (is.resolver at name) → Each (Below (keys_of is.written) i) (keys_of_meaning meaning)
  meaning_below i at name (a_variable_at bt x) h k = tt
  meaning_below i at name (an_expression_at key bt e) h k =
      let l : IsLeafOf p m is.written at name k.found = is.sound at name k.found k.is in
      let same : l.0 ≡ an_expression_at key bt e = same_meaning l.1.0 h.0 p at name l.0 (an_expression_at key bt e) l.1.1 h.1 in
      (leaf_below i k.found key bt e (subst (StandsFor m is.written k.found) same l.2) k.known, tt)
  meaning_below i at name (an_instance_at bt) h k = tt
  meaning_below i at name (a_symbol x) h k = tt

  named_below : (i : ℕ) (at : Place) (names : List Path) (needs : List Key) → Each (λ name. Known (IsBefore i) (is.resolver at name)) names → AreNamed p at names needs →
      Each (Below (keys_of is.written) i) needs
  named_below i at [] needs known named = subst (Each (Below (keys_of is.written) i)) (sym named) tt
  named_below i at (name ∷ names) needs known named =
      subst (Each (Below (keys_of is.written) i)) (sym named.4)
      (each_join (Below (keys_of is.written) i) (keys_of_meaning named.0) named.1 (meaning_below i at name named.0 named.2 known.0) (named_below i at names named.1 known.1 named.3))

  -- what a definition names stands before it
  needs_below : (i : ℕ) (k : Key) (at : Place) (e : Formula) (needs : List Key) → slice_get (keys_of is.written) i ≡ Some k → expression_of p k ≡ Some (at, e) → AreNamed p at (leaves_in e) needs →
      Each (Below (keys_of is.written) i) needs
  needs_below i k at e needs here x named =
      let d : (d : Definition) × (slice_get is.written i ≡ Some d) × (d.key ≡ k) = get_mapped (λ (d : Definition). d.key) is.written i k here in
      let f : (f : FlatFormula) × (slice_get m.definitions i ≡ Some f) × IsDefinitionOf p m d.0 f = both_at (IsDefinitionOf p m) is.written m.definitions i d.0 is.placed d.1 in
      let same : (d.0.place ≡ at) × (d.0.written ≡ e) = both_parts d.0.place at d.0.written e (sym f.2.expression ∙ ap (expression_of p) d.2 ∙ x) in
      let r = is.definitions i d.0 d.1 in
      let known : Each (λ name. Known (IsBefore i) (is.resolver d.0.place name)) (leaves_in d.0.written) = names_known (IsBefore i) (is.resolver d.0.place) d.0.written r.0.value r.2 r.3 in
      named_below i at (leaves_in e) needs (subst (λ a. Each (λ name. Known (IsBefore i) (is.resolver a name)) (leaves_in e)) same.0 (subst (λ t. Each (λ name. Known (IsBefore i) (is.resolver d.0.place name)) (leaves_in t)) same.1 known)) named

  -- what is added with a key stood there already, or stands no later than the key
  mutual
    added_below : (b : ℕ) (done : List Key) (k : Key) (a : List Key) → Below (keys_of is.written) b k → Adds p done k a → Each (λ j. In j done ⊎ Below (keys_of is.written) b j) a
    added_below b done k a below (stands h) = each_from (λ j. In j done ⊎ Below (keys_of is.written) b j) done (λ i j e. inl (i, e))
    added_below b done k a below (comes {after = u} {needs = ks} {at = at} {e = e} h x n r) =
        each_join (λ j. In j done ⊎ Below (keys_of is.written) b j) u (k ∷ [])
        (all_below b done ks u (each_more (Below (keys_of is.written) below.0) (Below (keys_of is.written) b) ks (λ j q. (q.0, before q.0 below.0 b q.1 below.1, q.2)) (needs_below below.0 k at e ks below.2 x n)) r) (inr below, tt)
      where
        before : (q i b : ℕ) → q < i → i < b → q < b
        before q i b h g = omega arith

    all_below : (b : ℕ) (done ks a : List Key) → Each (Below (keys_of is.written) b) ks → AddsAll p done ks a → Each (λ j. In j done ⊎ Below (keys_of is.written) b j) a
    all_below b done ks a belows no_more = each_from (λ j. In j done ⊎ Below (keys_of is.written) b j) done (λ i j e. inl (i, e))
    all_below b done ks a belows (one_more {between = u} {more = more} {k = k} x xs) =
        each_more (λ j. In j u ⊎ Below (keys_of is.written) b j) (λ j. In j done ⊎ Below (keys_of is.written) b j) a (through (added_below b done k u belows.0 x)) (all_below b u more a belows.1 xs)
      where
        through : Each (λ j. In j done ⊎ Below (keys_of is.written) b j) u → (j : Key) → In j u ⊎ Below (keys_of is.written) b j → In j done ⊎ Below (keys_of is.written) b j
        through first j (inl i) = each_at (λ j. In j done ⊎ Below (keys_of is.written) b j) u i.0 j first i.1
        through first j (inr q) = inr q

  differs : true ≡ false → ⊥
  differs e = cc

  -- a key isn't among what it needs
  apart_from_needs : (b : ℕ) (done ks u : List Key) (k : Key) (at : Place) (e : Formula) → is_key_among done k ≡ false → expression_of p k ≡ Some (at, e) → AreNamed p at (leaves_in e) ks → AddsAll p done ks u →
      (i : ℕ) → i < b → slice_get (keys_of is.written) i ≡ Some k → In k u → ⊥
  apart_from_needs zero done ks u k at e h x n r i less here among = omega (arith, less)
  apart_from_needs (suc b) done ks u k at e h x n r i less here among =
      by_either (each_at (λ j. In j done ⊎ Below (keys_of is.written) i j) u among.0 k (all_below i done ks u (needs_below i k at e ks here x n) r) among.1)
      (λ q. apart_from_needs b done ks u k at e h x n r q.0 (before q.0 i b q.1 less) q.2 among)
    where
      before : (q i b : ℕ) → q < i → i < suc b → q < b
      before q i b h g = omega arith

      by_either : In k done ⊎ Below (keys_of is.written) i k → (Below (keys_of is.written) i k → ⊥) → ⊥
      by_either (inl j) lower = differs (sym (among_there done k j) ∙ h)
      by_either (inr q) lower = lower q

  mutual
    added_once : (done : List Key) (k : Key) (a : List Key) → In k (keys_of is.written) → Pairwise OtherKey done → Adds p done k a → Pairwise OtherKey a
    added_once done k a here once (stands h) = once
    added_once done k a here once (comes {after = u} {needs = ks} {at = at} {e = e} h x n r) =
        pairs_join OtherKey u (k ∷ [])
        (all_once done ks u (each_more (Below (keys_of is.written) here.0) (λ j. In j (keys_of is.written)) ks (λ j q. (q.0, q.2)) (needs_below here.0 k at e ks here.1 x n)) once r) (tt, tt)
        (each_from (λ j. Each (OtherKey j) (k ∷ [])) u
        (λ i j f. ((λ same. apart_from_needs (suc here.0) done ks u k at e h x n r here.0 (omega arith) here.1 (i, subst (λ z. slice_get u i ≡ Some z) same f)), tt)))

    all_once : (done ks a : List Key) → Each (λ j. In j (keys_of is.written)) ks → Pairwise OtherKey done → AddsAll p done ks a → Pairwise OtherKey a
    all_once done ks a here once no_more = once
    all_once done ks a here once (one_more {between = u} {more = more} {k = k} x xs) = all_once u more a here.1 (added_once done k u here.0 once x) xs

  root_there : (i : ℕ) (k : Key) → slice_get (map (λ (r : Root). r.key) (roots_of p)) i ≡ Some k → In k (keys_of is.written)
  root_there i k e =
      let r : (r : Root) × (slice_get (roots_of p) i ≡ Some r) × (r.key ≡ k) = get_mapped (λ (r : Root). r.key) (roots_of p) i k e in
      let d : (d : Definition) × In d is.written × (d.key ≡ r.0.key) = root_written p m is r.0 (i, r.1) in
      (d.1.0, get_map (λ (d : Definition). d.key) is.written d.1.0 d.0 d.1.1 ∙ ap Some (d.2 ∙ r.2))

  pub keys_differ : KeysDiffer is.written
  keys_differ = of_keys is.written (all_once [] (map (λ (r : Root). r.key) (roots_of p)) (keys_of is.written) (each_from (λ k. In k (keys_of is.written)) (map (λ (r : Root). r.key) (roots_of p)) root_there) tt is.order)
    where
      of_keys : (ds : List Definition) → Pairwise OtherKey (keys_of ds) → KeysDiffer ds
      of_keys [] h = tt
      of_keys (d ∷ ds) h = (each_of_map (OtherKey d.key) (λ (d : Definition). d.key) ds h.0, of_keys ds h.1)
