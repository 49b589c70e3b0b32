-- Whether a signal has one of some values, one value after another.
use Rattle.std.proofs.Common.{◌≡◌, ℕ, ◌+◌, ◌<◌, ◌≤◌, List, [], ◌∷◌, ◌++◌, length, get_or, drop, map, sym, ◌∙◌, ap, arith}
use Rattle.std.proofs.lemmas.List.{drop_more, drop_all}
use Rattle.sat_clauses.specs.Literal.{Literal}
use Rattle.sat_circuits.specs.Circuit.{Circuit, after}
use Rattle.sat_circuits.specs.Gates.{or_gate}
use Rattle.sat_encoding_laws.specs.Signals.{Signal, word, same_gates}
use Rattle.sat_encoding_laws.specs.Lists.{asserted}
use Rattle.sat_expressions.specs.BuiltSignals.{BuildsLiteral}
use Rattle.sat_encoding.specs.Domains.{some_gates, asserted_literal}
use Rattle.sat_encoding.specs.Copies.{Builds}

module _ {X : Type 0} (f : X → List Literal) (e : Signal) (xs : List X) where
  pub some_next : (i : ℕ) (d : X) (w : List Literal) (found made : Literal) (g t : Circuit) (whole : Circuit × Literal) → i < length xs → w ≡ f (get_or xs i d)
      → BuildsLiteral g (after (same_gates e (word w) g) (λ y u. or_gate found y u)) t made → some_gates e (map f (drop i xs)) found g ≡ whole
      → some_gates e (map f (drop (i + 1) xs)) made t ≡ whole
  unfolding some_gates after
  some_next i d w found made g t whole low is built before =
      sym (ap (λ (r : Circuit × Literal). some_gates e (map f (drop (i + 1) xs)) r.1 r.0) built.exact)
      ∙ ap (λ v. some_gates e (v ∷ map f (drop (i + 1) xs)) found g) is
      ∙ sym (ap (λ l. some_gates e (map f l) found g) (drop_more xs i d low))
      ∙ before

  pub some_end : (i : ℕ) (found : Literal) (s g t : Circuit) (whole : Circuit × Literal) → length xs ≤ i → some_gates e (map f (drop i xs)) found g ≡ whole → s.free ≤ g.free
      → t ≡ record { clauses = g.clauses ++ (found ∷ []) ∷ []; free = g.free } → Builds s (asserted_literal whole) t
  unfolding some_gates asserted
  some_end i found s g t whole end before grows is = record {
    exact = ap asserted_literal (sym before ∙ ap (λ l. some_gates e (map f l) found g) (drop_all i xs end)) ∙ sym is;
    grows = omega (arith, grows, ap (λ (u : Circuit). u.free) is);
  }
