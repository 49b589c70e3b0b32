-- What is reached over links by numbers is what definitions need of one another by their keys.
use Rattle.std.proofs.Common.{◌≡◌, ℕ, zero, suc, ◌+◌, ◌<◌, arith, Bool, true, false, ◌||◌, List, [], ◌∷◌, ◌++◌, map, Option, Some, refl, ap, ◌∙◌, sym, subst, ◌⊎◌, inl, inr}
use Rattle.std.proofs.lemmas.List.{map-append}
use Rattle.std.specs.Prelude.{slice_get}
use Rattle.smv_language.specs.Language.{Path, Formula, ProgramTree, Place, Key, Meaning, a_variable_at, an_expression_at, an_instance_at, Means, Each, AtSome, tree_of, FlatInstance}
use Rattle.smv_language.specs.Scope.{a_symbol}
use Rattle.smv_flat_laws.specs.Items.{instances_of}
use Rattle.smv_flat_laws.specs.NameResolution.{leaves_in}
use Rattle.smv_flat_laws.specs.Rules.{Needs, Leads, NeedsItself, MeansInput, IsWalkable, expression_of}
use Rattle.smv_flat_laws.specs.Model.{Root, roots_of, AreNamed}
use Rattle.smv_flat_laws.proofs.Conditions.{each_at}
use Rattle.smv_flat_laws.proofs.Variables.{both_at}
use Rattle.smv_scope.specs.declared.walk.Meaning.{Meaning as Found}
use Rattle.smv_scope.specs.declared.walk.Meaning.TheVariants as found
use Rattle.smv_scope.specs.declared.names.Defined.{Defined}
use Rattle.smv_scope.specs.declared.names.Scene.{Scene}
use Rattle.smv_scope.specs.SceneTree.{Denotes, IsFound, IsDefined, IsScene, program_of}
use Rattle.smv_scope.specs.TableLookUps.{found_at}
use Rattle.smv_scope.specs.NeedsTree.{KeyReadsInput, keys_of, IsKeyAt, IsMeant}
use Rattle.smv_scope.specs.Links.{Graph, Has, Reaches, start, further}
use Rattle.smv_scope.specs.DefinitionNeeds.{needed, is_input, needs_in, reads_in, names_of, needs_of, reads_of, number_if, inputs_from, IsFoundAt, AreFoundIn}
use Rattle.smv_scope.proofs.LinkLaws.{has_left, has_right, has_either}
use Rattle.smv_scope.proofs.KeyLaws.{key_at, needed_key, needed_from, named_one, input_is, input_from}
use Rattle.smv_scope.proofs.RootLaws.{keys_once}
use Rattle.smv_language.proofs.ListLaws.{get_mapped, get_map}

-- a definition that is found has a key
found_keyed : (p : ProgramTree) (at : Place) (name : Path) (f : Found) (j : ℕ) → IsFound p at name f → Has (needed f) j → (other : Key) × IsKeyAt p j other
found_keyed p at name (found.Definition k) j (m, means, den) (inl same) = by_meaning m den
  where
    by_meaning : (m : Meaning) → Denotes p (found.Definition k) m → (other : Key) × IsKeyAt p j other
    by_meaning (a_variable_at place x) den = absurd den
    by_meaning (an_instance_at place) den = absurd den
    by_meaning (a_symbol x) den = absurd den
    by_meaning (an_expression_at key place e) (r, get, is_key, expression) =
        (r.key, subst (λ i. slice_get (keys_of p) i ≡ Some r.key) same (get_map (λ (r : Root). r.key) (roots_of p) k r get))
found_keyed p at name (found.Definition k) j h (inr bad) = absurd bad
found_keyed p at name (found.Variable number role) j h bad = absurd bad
found_keyed p at name (found.Instance k) j h bad = absurd bad
found_keyed p at name (found.Symbol k) j h bad = absurd bad
found_keyed p at name found.Nothing j h bad = absurd bad
found_keyed p at name found.Loop j h bad = absurd bad

abbrev HasMeaning : ProgramTree → Place → Path → Type 0
HasMeaning p at name = (m : Meaning) × Means p at name m

-- what is found for a name that means something
found_meaning : (p : ProgramTree) (at : Place) (name : Path) (f : Found) → IsFound p at name f → IsMeant p at name → HasMeaning p at name
found_meaning p at name found.Nothing h meant = absurd (meant.something h)
found_meaning p at name found.Loop h meant = absurd (meant.no_loop h)
found_meaning p at name (found.Definition k) (m, means, den) meant = (m, means)
found_meaning p at name (found.Variable number role) (m, means, den) meant = (m, means)
found_meaning p at name (found.Instance k) (m, means, den) meant = (m, means)
found_meaning p at name (found.Symbol k) (m, means, den) meant = (m, means)

abbrev NamesKey : ProgramTree → Place → Key → Path → Type 0
NamesKey p at other name = (place : Place) × (e : Formula) × Means p at name (an_expression_at other place e)

-- what the names of one definition mean
module _ (s : Scene) (spot : ℕ) (i : FlatInstance) (at_spot : slice_get (instances_of (program_of s)) spot ≡ Some i) where
  names_to : (names : List Path) (j : ℕ) (other : Key) → Each (IsFoundAt s spot) names → Has (needs_in s spot names) j → IsKeyAt (program_of s) j other →
      AtSome (NamesKey (program_of s) i.place other) names
  names_to [] j other h has is = absurd has
  names_to (x ∷ names) j other h has is = by_side (has_either (needed (found_at s spot x)) (needs_in s spot names) j has) (λ later. names_to names j other h.1 later is)
    where
      by_side : Has (needed (found_at s spot x)) j ⊎ Has (needs_in s spot names) j → (Has (needs_in s spot names) j → AtSome (NamesKey (program_of s) i.place other) names) →
          AtSome (NamesKey (program_of s) i.place other) (x ∷ names)
      by_side (inl a) rest = inl (needed_key (program_of s) i.place x (found_at s spot x) j other (h.0.found i at_spot) a is)
      by_side (inr a) rest = inr (rest a)

  names_keyed : (names : List Path) (j : ℕ) → Each (IsFoundAt s spot) names → Has (needs_in s spot names) j → (other : Key) × IsKeyAt (program_of s) j other
  names_keyed [] j h has = absurd has
  names_keyed (x ∷ names) j h has = by_side (has_either (needed (found_at s spot x)) (needs_in s spot names) j has) (names_keyed names j h.1)
    where
      by_side : Has (needed (found_at s spot x)) j ⊎ Has (needs_in s spot names) j → (Has (needs_in s spot names) j → (other : Key) × IsKeyAt (program_of s) j other) →
          (other : Key) × IsKeyAt (program_of s) j other
      by_side (inl a) rest = found_keyed (program_of s) i.place x (found_at s spot x) j (h.0.found i at_spot) a
      by_side (inr a) rest = rest a

  names_from : (names : List Path) (other : Key) → Each (IsFoundAt s spot) names → AtSome (NamesKey (program_of s) i.place other) names →
      (j : ℕ) × IsKeyAt (program_of s) j other × Has (needs_in s spot names) j
  names_from [] other h some = absurd some
  names_from (x ∷ names) other h (inl (place, e, means)) =
      let f : (j : ℕ) × IsKeyAt (program_of s) j other × Has (needed (found_at s spot x)) j =
      needed_from (program_of s) i.place x (found_at s spot x) other place e (h.0.found i at_spot) means in
      (f.0, f.1, has_left (needed (found_at s spot x)) (needs_in s spot names) f.0 f.2)
  names_from (x ∷ names) other h (inr some) =
      let f : (j : ℕ) × IsKeyAt (program_of s) j other × Has (needs_in s spot names) j = names_from names other h.1 some in
      (f.0, f.1, has_right (needed (found_at s spot x)) (needs_in s spot names) f.0 f.2)

  names_named : (names : List Path) → Each (IsFoundAt s spot) names → Each (IsMeant (program_of s) i.place) names →
      AreNamed (program_of s) i.place names (map (key_at (keys_of (program_of s))) (needs_in s spot names))
  names_named [] h meant = refl
  names_named (x ∷ names) h meant =
      let m : HasMeaning (program_of s) i.place x = found_meaning (program_of s) i.place x (found_at s spot x) (h.0.found i at_spot) meant.0 in (
        m.0,
        map (key_at (keys_of (program_of s))) (needs_in s spot names),
        m.1,
        names_named names h.1 meant.1,
        map-append (key_at (keys_of (program_of s))) (needed (found_at s spot x)) (needs_in s spot names)
            ∙ ap (λ ks. ks ++ map (key_at (keys_of (program_of s))) (needs_in s spot names))
            (named_one (program_of s) i.place x (found_at s spot x) m.0 (h.0.found i at_spot) m.1),
      )

  module _ (walkable : IsWalkable (program_of s)) where
    reads_to : (names : List Path) → Each (IsFoundAt s spot) names → reads_in s spot names ≡ true → AtSome (MeansInput (program_of s) i.place) names
    reads_to [] h e = cc
    reads_to (x ∷ names) h e = by_input (is_input (found_at s spot x)) refl (reads_to names h.1)
      where
        by_input : (b : Bool) → is_input (found_at s spot x) ≡ b → (reads_in s spot names ≡ true → AtSome (MeansInput (program_of s) i.place) names) →
            AtSome (MeansInput (program_of s) i.place) (x ∷ names)
        by_input true f rest = inl (input_is (program_of s) i.place x walkable (found_at s spot x) (h.0.found i at_spot) f)
        by_input false f rest = inr (rest (sym (ap (λ b. b || reads_in s spot names) f) ∙ e))

    reads_from : (names : List Path) → Each (IsFoundAt s spot) names → AtSome (MeansInput (program_of s) i.place) names → reads_in s spot names ≡ true
    reads_from [] h some = absurd some
    reads_from (x ∷ names) h (inl means) = ap (λ b. b || reads_in s spot names) (input_from (program_of s) i.place x walkable (found_at s spot x) (h.0.found i at_spot) means)
    reads_from (x ∷ names) h (inr some) = ap (λ b. is_input (found_at s spot x) || b) (reads_from names h.1 some) ∙ or_true (is_input (found_at s spot x))
      where
        or_true : (a : Bool) → (a || true) ≡ true
        or_true true = refl
        or_true false = refl

-- the links of a number are what the definition of its key names
pub record IsLinked (p : ProgramTree) (g : Graph) (inputs : List ℕ) (k : ℕ) (key : Key) : Type 0 where
  pub place : Place
  pub written : Formula
  pub is : expression_of p key ≡ Some (place, written)
  pub to : (j : ℕ) (other : Key) → Has (g k) j → IsKeyAt p j other → AtSome (NamesKey p place other) (leaves_in written)
  pub keyed : (j : ℕ) → Has (g k) j → (other : Key) × IsKeyAt p j other
  pub from : (other : Key) → AtSome (NamesKey p place other) (leaves_in written) → (j : ℕ) × IsKeyAt p j other × Has (g k) j
  pub named : Each (IsMeant p place) (leaves_in written) → AreNamed p place (leaves_in written) (map (key_at (keys_of p)) (g k))
  pub input : Has inputs k → AtSome (MeansInput p place) (leaves_in written)
  pub input_back : AtSome (MeansInput p place) (leaves_in written) → Has inputs k

-- those that name an input, by their places
if_has : (b : Bool) (k j : ℕ) → Has (number_if b k) j → (b ≡ true) × (k ≡ j)
if_has true k j (inl e) = (refl, e)
if_has true k j (inr h) = absurd h
if_has false k j h = absurd h

inputs_later : (s : Scene) (from : ℕ) (ds : List Defined) (j : ℕ) → Has (inputs_from s from ds) j → from < suc j
inputs_later s from [] j h = absurd h
inputs_later s from (d ∷ ds) j h = by_side (has_either (number_if (reads_of s d) from) (inputs_from s (suc from) ds) j h) (inputs_later s (suc from) ds j)
  where
    by_side : Has (number_if (reads_of s d) from) j ⊎ Has (inputs_from s (suc from) ds) j → (Has (inputs_from s (suc from) ds) j → suc from < suc j) → from < suc j
    by_side (inl a) rest = let e : (reads_of s d ≡ true) × (from ≡ j) = if_has (reads_of s d) from j a in let f : from ≡ j = e.1 in omega (arith, f)
    by_side (inr a) rest = let l : suc from < suc j = rest a in omega (arith, l)

input_at : (s : Scene) (from : ℕ) (ds : List Defined) (k : ℕ) (d : Defined) → slice_get ds k ≡ Some d → Has (inputs_from s from ds) (from + k) → reads_of s d ≡ true
input_at s from [] k d e h = cc
input_at s from (x ∷ ds) zero d e h = by_side (has_either (number_if (reads_of s x) from) (inputs_from s (suc from) ds) (from + 0) h)
  where
    same : x ≡ d
    same = cc

    by_side : Has (number_if (reads_of s x) from) (from + 0) ⊎ Has (inputs_from s (suc from) ds) (from + 0) → reads_of s d ≡ true
    by_side (inl a) = subst (λ y. reads_of s y ≡ true) same (if_has (reads_of s x) from (from + 0) a).0
    by_side (inr a) = let l : suc from < suc (from + 0) = inputs_later s (suc from) ds (from + 0) a in absurd (omega (arith, l))
input_at s from (x ∷ ds) (suc k) d e h = by_side (has_either (number_if (reads_of s x) from) (inputs_from s (suc from) ds) (from + suc k) h) (input_at s (suc from) ds k d e)
  where
    next : from + suc k ≡ suc from + k
    next = omega arith

    by_side : Has (number_if (reads_of s x) from) (from + suc k) ⊎ Has (inputs_from s (suc from) ds) (from + suc k) → (Has (inputs_from s (suc from) ds) (suc from + k) → reads_of s d ≡ true) →
        reads_of s d ≡ true
    by_side (inl a) rest = let e : from ≡ from + suc k = (if_has (reads_of s x) from (from + suc k) a).1 in absurd (omega (arith, e))
    by_side (inr a) rest = rest (subst (Has (inputs_from s (suc from) ds)) next a)

input_there : (s : Scene) (from : ℕ) (ds : List Defined) (k : ℕ) (d : Defined) → slice_get ds k ≡ Some d → reads_of s d ≡ true → Has (inputs_from s from ds) (from + k)
input_there s from [] k d e h = cc
input_there s from (x ∷ ds) zero d e h =
    has_left (number_if (reads_of s x) from) (inputs_from s (suc from) ds) (from + 0) (subst (λ b. Has (number_if b from) (from + 0)) (sym own) (inl same))
  where
    is_d : x ≡ d
    is_d = cc

    own : reads_of s x ≡ true
    own = ap (reads_of s) is_d ∙ h

    same : from ≡ from + 0
    same = omega arith
input_there s from (x ∷ ds) (suc k) d e h =
    has_right (number_if (reads_of s x) from) (inputs_from s (suc from) ds) (from + suc k) (subst (Has (inputs_from s (suc from) ds)) next (input_there s (suc from) ds k d e h))
  where
    next : suc from + k ≡ from + suc k
    next = omega arith

module _ (s : Scene) (is : IsScene s) (g : Graph) (links : (k : ℕ) (d : Defined) → slice_get s.definitions.items k ≡ Some d → g k ≡ needs_of s d) (all_found : Each (AreFoundIn s) s.definitions.items) where
  pub linked : (k : ℕ) (key : Key) → IsKeyAt (program_of s) k key → IsLinked (program_of s) g (inputs_from s 0 s.definitions.items) k key
  linked k key at_k =
      record {
        place = defined.at.place;
        written = tree_of d.value.now;
        is = ap (expression_of (program_of s)) (sym root.2) ∙ defined.expression;
        to = λ j other has is_j. names_to s d.spot defined.at defined.is (names_of d) j other each (subst (λ ks. Has ks j) row has) is_j;
        keyed = λ j has. names_keyed s d.spot defined.at defined.is (names_of d) j each (subst (λ ks. Has ks j) row has);
        from = λ other some. from other (names_from s d.spot defined.at defined.is (names_of d) other each some);
        named = λ meant. subst (λ ks. AreNamed (program_of s) defined.at.place (names_of d) (map (key_at (keys_of (program_of s))) ks)) (sym row)
            (names_named s d.spot defined.at defined.is (names_of d) each meant);
        input = λ h. reads_to s d.spot defined.at defined.is is.set.walkable (names_of d) each
            (input_at s 0 s.definitions.items k d get (subst (Has (inputs_from s 0 s.definitions.items)) (sym from_zero) h));
        input_back = λ some. subst (Has (inputs_from s 0 s.definitions.items)) from_zero
            (input_there s 0 s.definitions.items k d get (reads_from s d.spot defined.at defined.is is.set.walkable (names_of d) each some));
      }
    where
      root : (r : Root) × (slice_get (roots_of (program_of s)) k ≡ Some r) × (r.key ≡ key)
      root = get_mapped (λ (r : Root). r.key) (roots_of (program_of s)) k key at_k

      there : (d : Defined) × (slice_get s.definitions.items k ≡ Some d) × IsDefined (program_of s) root.0 d
      there = both_at (IsDefined (program_of s)) (roots_of (program_of s)) s.definitions.items k root.0 is.set.definitions root.1

      d : Defined
      d = there.0

      get : slice_get s.definitions.items k ≡ Some d
      get = there.1

      defined : IsDefined (program_of s) root.0 d
      defined = there.2

      each : Each (IsFoundAt s d.spot) (names_of d)
      each = each_at (AreFoundIn s) s.definitions.items k d all_found get

      row : g k ≡ needs_in s d.spot (names_of d)
      row = links k d get

      from_zero : 0 + k ≡ k
      from_zero = omega arith

      from : (other : Key) → (j : ℕ) × IsKeyAt (program_of s) j other × Has (needs_in s d.spot (names_of d)) j → (j : ℕ) × IsKeyAt (program_of s) j other × Has (g k) j
      from other (j, is_j, has) = (j, is_j, subst (λ ks. Has ks j) (sym row) has)

-- what the program's definitions need
module _ (p : ProgramTree) (walkable : IsWalkable p) (g : Graph) (inputs : List ℕ) (all : (k : ℕ) (key : Key) → IsKeyAt p k key → IsLinked p g inputs k key) where
  needs_to : (k j : ℕ) (key other : Key) → IsKeyAt p k key → IsKeyAt p j other → Has (g k) j → Needs p key other
  needs_to k j key other is_k is_j has = let l : IsLinked p g inputs k key = all k key is_k in record { place = l.place; written = l.written; is = l.is; named = l.to j other has is_j }

  same_expression : (a b : Place × Formula) (o : Option (Place × Formula)) → o ≡ Some a → o ≡ Some b → a ≡ b
  same_expression a b o e f = cc

  needs_from : (k : ℕ) (key other : Key) → IsKeyAt p k key → Needs p key other → (j : ℕ) × IsKeyAt p j other × Has (g k) j
  needs_from k key other is_k need =
      let l : IsLinked p g inputs k key = all k key is_k in
      l.from other
      (subst (λ (w : Place × Formula). AtSome (NamesKey p w.0 other) (leaves_in w.1)) (same_expression (need.place, need.written) (l.place, l.written) (expression_of p key) need.is l.is) need.named)

  leads_more : (n : ℕ) (a b c : Key) → Leads p n a b → Needs p b c → Leads p (suc n) a c
  leads_more zero a b c e need = (c, subst (λ k. Needs p k c) e need, refl)
  leads_more (suc n) a b c (m, first, rest) need = (m, first, leads_more n m b c rest need)

  reached_keyed : (k : ℕ) (key : Key) → IsKeyAt p k key → (j : ℕ) → Reaches g (g k) j → (other : Key) × IsKeyAt p j other
  reached_keyed k key is_k j (start has) = (all k key is_k).keyed j has
  reached_keyed k key is_k j (further {a = a} from to) =
      let f : (other : Key) × IsKeyAt p a other = reached_keyed k key is_k a from in (all a f.0 f.1).keyed j to

  reaches_leads : (k : ℕ) (key : Key) → IsKeyAt p k key → (j : ℕ) (other : Key) → IsKeyAt p j other → Reaches g (g k) j → (n : ℕ) × Leads p (suc n) key other
  reaches_leads k key is_k j other is_j (start has) = (0, (other, needs_to k j key other is_k is_j has, refl))
  reaches_leads k key is_k j other is_j (further {a = a} from to) =
      let f : (between : Key) × IsKeyAt p a between = reached_keyed k key is_k a from in
      let r : (n : ℕ) × Leads p (suc n) key f.0 = reaches_leads k key is_k a f.0 f.1 from in
      (suc r.0, leads_more (suc r.0) key f.0 other r.1 (needs_to a j f.0 other f.1 is_j to))

  leads_reaches : (n : ℕ) (starts : List ℕ) (a : ℕ) (key other : Key) → IsKeyAt p a key → Reaches g starts a → Leads p n key other → (j : ℕ) × IsKeyAt p j other × Reaches g starts j
  leads_reaches zero starts a key other is_a r e = (a, subst (IsKeyAt p a) (sym e) is_a, r)
  leads_reaches (suc n) starts a key other is_a r (m, first, rest) =
      let f : (j : ℕ) × IsKeyAt p j m × Has (g a) j = needs_from a key m is_a first in
      leads_reaches n starts f.0 m other f.1 (further r f.2) rest

  pub circle_is : (k : ℕ) (key : Key) → IsKeyAt p k key → Reaches g (g k) k → NeedsItself p key
  circle_is k key is_k r = reaches_leads k key is_k k key is_k r

  pub circle_from : (k : ℕ) (key : Key) → IsKeyAt p k key → NeedsItself p key → Reaches g (g k) k
  circle_from k key is_k (n, (m, first, rest)) =
      let f : (j : ℕ) × IsKeyAt p j m × Has (g k) j = needs_from k key m is_k first in
      let r : (j : ℕ) × IsKeyAt p j key × Reaches g (g k) j = leads_reaches n (g k) f.0 m key f.1 (start f.2) rest in
      subst (Reaches g (g k)) (keys_once p walkable r.0 k key r.1 is_k) r.2

  module _ (back : Graph) (turned_is : (a b : ℕ) → Has (back b) a → Has (g a) b) (turned : (a b : ℕ) (key : Key) → IsKeyAt p b key → Has (g a) b → Has (back b) a) where
    pub reads_is : (k : ℕ) (key : Key) → IsKeyAt p k key → Reaches back inputs k → KeyReadsInput p key
    reads_is k key is_k (start h) =
        let l : IsLinked p g inputs k key = all k key is_k in
        record { steps = 0; last = key; leads = refl; place = l.place; written = l.written; is = l.is; names_input = l.input h }
    reads_is k key is_k (further {a = a} from to) =
        let has : Has (g k) a = turned_is k a to in
        let f : (other : Key) × IsKeyAt p a other = (all k key is_k).keyed a has in
        let r : KeyReadsInput p f.0 = reads_is a f.0 f.1 from in
        record {
          steps = suc r.steps;
          last = r.last;
          leads = (f.0, needs_to k a key f.0 is_k f.1 has, r.leads);
          place = r.place;
          written = r.written;
          is = r.is;
          names_input = r.names_input;
        }

    reads_after : (n : ℕ) (k : ℕ) (key last : Key) (place : Place) (written : Formula) → IsKeyAt p k key → Leads p n key last → expression_of p last ≡ Some (place, written) →
        AtSome (MeansInput p place) (leaves_in written) → Reaches back inputs k
    reads_after zero k key last place written is_k e is some =
        let l : IsLinked p g inputs k key = all k key is_k in
        start
        (l.input_back
        (subst (λ (w : Place × Formula). AtSome (MeansInput p w.0) (leaves_in w.1))
        (same_expression (place, written) (l.place, l.written) (expression_of p key) (ap (expression_of p) (sym e) ∙ is) l.is) some))
    reads_after (suc n) k key last place written is_k (m, first, rest) is some =
        let f : (j : ℕ) × IsKeyAt p j m × Has (g k) j = needs_from k key m is_k first in
        further (reads_after n f.0 m last place written f.1 rest is some) (turned k f.0 m f.1 f.2)

    pub reads_from_input : (k : ℕ) (key : Key) → IsKeyAt p k key → KeyReadsInput p key → Reaches back inputs k
    reads_from_input k key is_k r = reads_after r.steps k key r.last r.place r.written is_k r.leads r.is r.names_input
