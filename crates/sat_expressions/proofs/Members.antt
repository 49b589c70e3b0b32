-- The members of a set, one after another.
use Rattle.std.proofs.Common.{◌≡◌, ℕ, ◌+◌, ◌<◌, ◌≤◌, false, List, [], ◌∷◌, length, get_or, drop, sym, ◌∙◌, ap, subst, arith}
use Rattle.std.proofs.lemmas.List.{drop_more, drop_all}
use Rattle.smv_language.specs.Language.{Tree, Trees, no_tree, tree_then, trees_of, trees_map, FlatLeaf, leaf_of, flat_tree}
use Rattle.smv_language.specs.declared.expr.Expr.{Expr}
use Rattle.smv_language.specs.declared.model.Flat.{Flat}
use Rattle.smv_type_laws.specs.ExpressionKinds.{judge_trees, broken_in}
use Rattle.smv_type_laws.specs.Models.{judged_in, kind_of_leaf}
use Rattle.smv_type_laws.proofs.Parts.{none_first, none_second}
use Rattle.sat_clauses.specs.Literal.{Literal}
use Rattle.sat_clauses.specs.Models.{IsBelow}
use Rattle.sat_circuits.specs.Circuit.{Circuit, after}
use Rattle.sat_circuits.specs.Gates.{constant_lit, or_gate}
use Rattle.smv_type_laws.specs.Intervals.{Interval}
use Rattle.sat_encoding_laws.specs.Widths.{word_width, symbol_interval}
use Rattle.sat_encoding_laws.specs.Signals.{literal_in}
use Rattle.sat_encoding_laws.specs.Expressions.{Asked as TheAsked, its_value, whether_has, encoded_members}
use Rattle.sat_encoding_laws.specs.Meanings.{IsSignal}
use Rattle.sat_encoding_laws.specs.Laws.{IsAskedIn}
use Rattle.sat_expressions.specs.declared.signal.Signal.{Signal as Built}
use Rattle.sat_expressions.specs.BuiltSignals.{signal_of, BuildsLiteral}
use Rattle.sat_expressions.proofs.ChoiceLoop.{usable_later}
use Rattle.sat_expressions.specs.declared.names.NamedSignals.{NamedSignals}
use Rattle.sat_expressions.specs.declared.part.AskedSignal.{AskedSignal}
use Rattle.sat_expressions.specs.declared.part.AskedSignal.TheVariants.{ItsValue, WhetherHas}
use Rattle.sat_expressions.specs.declared.part.ExpressionSignal.{ExpressionSignal}
use Rattle.sat_expressions.specs.ModelNames.{model_of, names_in, IsNamed, moved}
use Rattle.sat_expressions.specs.Parts.{asked_of, IsRight, AreRight, BuildsPart, BuildsSome, BuildsMembers}

-- ---- what may be used may be used later

pub signal_later : (s t : Circuit) → s.free ≤ t.free → (e : Built) → IsSignal s (signal_of e) → IsSignal t (signal_of e)
signal_later s t h e k = (usable_later s t h (e ∷ []) (k, tt)).0

pub named_later : (n : NamedSignals) (s t : Circuit) → s.free ≤ t.free → IsNamed s n → IsNamed t n
named_later n s t h named = record {
  now = record { variables = usable_later s t h n.current.now.variables named.now.variables; definitions = usable_later s t h n.current.now.definitions named.now.definitions };
  next = record { variables = usable_later s t h n.next.now.variables named.next.variables; definitions = usable_later s t h n.next.now.definitions named.next.definitions };
  symbols = named.symbols;
}

pub asked_later : (a : AskedSignal) (s t : Circuit) → s.free ≤ t.free → IsAskedIn s (asked_of a) → IsAskedIn t (asked_of a)
asked_later ItsValue s t h k = tt
asked_later (WhetherHas v) s t h k = signal_later s t h v.now k

-- a word has a bit
wide : (i : Interval) → 1 ≤ word_width i
wide i = omega arith

pub symbols_some : (n : NamedSignals) (s : Circuit) → IsNamed s n → 1 ≤ n.symbols
symbols_some n s named = subst (λ x. 1 ≤ x) (sym named.symbols) (wide (symbol_interval (model_of n).symbols))

-- under `next` the names may be used too
pub named_next : (n m : NamedSignals) (s : Circuit) → m ≡ moved n → IsNamed s n → IsNamed s m
named_next n m s e named = subst (IsNamed s) (sym e) (record { now = named.next; next = named.next; symbols = named.symbols })

-- ---- members

pub members_more : (ts : List (Expr Flat)) (i : ℕ) (x : Expr Flat) → i < length ts → x ≡ get_or ts i x
    → trees_map leaf_of (trees_of (drop i ts)) ≡ tree_then (flat_tree x) (trees_map leaf_of (trees_of (drop (i + 1) ts)))
members_more ts i x h is =
    ap (λ xs. trees_map leaf_of (trees_of xs)) (drop_more ts i x h) ∙ ap (λ y. tree_then (flat_tree y) (trees_map leaf_of (trees_of (drop (i + 1) ts)))) (sym is)

module _ (n : NamedSignals) where
  pub some_first : (asked : TheAsked) (ts : Trees FlatLeaf) (s : Circuit) (l : Literal) → l ≡ constant_lit false → IsBelow s.free l → BuildsSome n asked ts ts s s l
  some_first asked ts s l e below = record {
    below = below;
    grows = omega arith;
    right = λ is. (ap (λ x. encoded_members (names_in n) asked ts x s) (sym e), is);
  }

  first_right : (asked : TheAsked) (t : Tree FlatLeaf) (ts : Trees FlatLeaf) → AreRight (model_of n) asked (tree_then t ts) → IsRight (model_of n) asked t
  first_right its_value t ts h = absurd h
  first_right (whether_has v) t ts h = (false, none_first (judged_in (model_of n) false t).broken (broken_in (judge_trees (kind_of_leaf (model_of n)) ts)) h)

  rest_right : (asked : TheAsked) (t : Tree FlatLeaf) (ts : Trees FlatLeaf) → AreRight (model_of n) asked (tree_then t ts) → AreRight (model_of n) asked ts
  rest_right its_value t ts h = h
  rest_right (whether_has v) t ts h = none_second (judged_in (model_of n) false t).broken (broken_in (judge_trees (kind_of_leaf (model_of n)) ts)) h

  pub some_next : (asked : TheAsked) (ts : Trees FlatLeaf) (t : Tree FlatLeaf) (more : Trees FlatLeaf) (s g h k : Circuit) (found l found' : Literal) (p : ExpressionSignal)
      → BuildsSome n asked ts (tree_then t more) s g found → BuildsPart n asked t g h p → l ≡ literal_in (signal_of p.signal) → BuildsLiteral h (or_gate found l h) k found'
      → BuildsSome n asked ts more s k found'
  unfolding encoded_members after
  some_next asked ts t more s g h k found l found' p before part e made = record {
    below = made.below;
    grows = omega (arith, before.grows, part.grows, made.grows);
    right = λ is. (
      (before.right is).0
          ∙ ap (λ r. after r (λ x u. after (or_gate found (literal_in x) u) (λ q w. encoded_members (names_in n) asked more q w))) (part.right (first_right asked t more (before.right is).1)).exact
          ∙ ap (λ x. after (or_gate found x h) (λ q w. encoded_members (names_in n) asked more q w)) (sym e)
          ∙ ap (λ r. after r (λ q w. encoded_members (names_in n) asked more q w)) made.exact,
      rest_right asked t more (before.right is).1,
    );
  }

  pub some_end : (asked : TheAsked) (ts : Trees FlatLeaf) (s t : Circuit) (l : Literal) → BuildsSome n asked ts no_tree s t l → BuildsMembers n asked ts s t l
  unfolding encoded_members
  some_end asked ts s t l built = record { below = built.below; grows = built.grows; right = λ is. (built.right is).0 }

  -- the same over what is left of a list
  pub some_step : (asked : TheAsked) (ts : List (Expr Flat)) (i : ℕ) (x : Expr Flat) (s g h k : Circuit) (found l found' : Literal) (p : ExpressionSignal) → i < length ts → x ≡ get_or ts i x
      → BuildsSome n asked (trees_map leaf_of (trees_of ts)) (trees_map leaf_of (trees_of (drop i ts))) s g found → BuildsPart n asked (flat_tree x) g h p
      → l ≡ literal_in (signal_of p.signal) → BuildsLiteral h (or_gate found l h) k found'
      → BuildsSome n asked (trees_map leaf_of (trees_of ts)) (trees_map leaf_of (trees_of (drop (i + 1) ts))) s k found'
  some_step asked ts i x s g h k found l found' p low is before part e made =
      some_next asked (trees_map leaf_of (trees_of ts)) (flat_tree x) (trees_map leaf_of (trees_of (drop (i + 1) ts))) s g h k found l found' p
      (subst (λ rest. BuildsSome n asked (trees_map leaf_of (trees_of ts)) rest s g found) (members_more ts i x low is) before) part e made

  pub some_done : (asked : TheAsked) (ts : List (Expr Flat)) (i : ℕ) (s t : Circuit) (l : Literal) → length ts ≤ i
      → BuildsSome n asked (trees_map leaf_of (trees_of ts)) (trees_map leaf_of (trees_of (drop i ts))) s t l → BuildsMembers n asked (trees_map leaf_of (trees_of ts)) s t l
  some_done asked ts i s t l high built =
      some_end asked (trees_map leaf_of (trees_of ts)) s t l (subst (λ xs. BuildsSome n asked (trees_map leaf_of (trees_of ts)) (trees_map leaf_of (trees_of xs)) s t l) (drop_all i ts high) built)
