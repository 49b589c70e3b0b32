-- The literals of the history bits, and the counters of those that are true.
use Rattle.std.proofs.Common.{◌≡◌, ℕ, suc, ◌+◌, ◌-◌, ◌<◌, ◌≤◌, List, [], ◌∷◌, ◌++◌, length, map, sym, ◌∙◌, ap, arith, append_assoc, lt-ltb}
use Rattle.std.specs.List.{range_with_len}
use Rattle.std.specs.Prelude.{slice_get, Some, if◌then◌else◌}
use Rattle.sat_clauses.specs.Literal.{Literal}
use Rattle.sat_clauses.specs.Models.{IsBelow}
use Rattle.sat_circuits.specs.Circuit.{Circuit}
use Rattle.sat_circuits.specs.Counts.{at_most_gates}
use Rattle.sat_circuits.specs.Meaning.{AllBelow}
use Rattle.sat_encoding_laws.specs.Signals.{Signal, literal_in, as_bit}
use Rattle.sat_encoding_laws.specs.Lists.{signal_or_false, asserted, asserted_signal, size_gates}
use Rattle.sat_encoding.specs.History.{literal_of}

-- the literals of the numbers that are left begin with that of the next
pub literals_next : (es : List Signal) (made : List Literal) (l : Literal) (e : Signal) (i n : ℕ) (whole : List Literal) → i + 1 ≤ n → slice_get es i ≡ Some e → l ≡ literal_in e
    → made ++ map (literal_of es) (range_with_len i (n - i)) ≡ whole → (made ++ l ∷ []) ++ map (literal_of es) (range_with_len (i + 1) (n - (i + 1))) ≡ whole
literals_next es made l e i n whole below at is before =
    let rest = map (literal_of es) (range_with_len (i + 1) (n - (i + 1))) in
    let size : n - i ≡ suc (n - (i + 1)) = omega (arith, below) in
    append_assoc made (l ∷ []) rest
    ∙ ap (λ x. made ++ (x ∷ rest)) (is ∙ sym (ap (λ o. literal_in (signal_or_false o)) at))
    ∙ sym (ap (λ k. made ++ map (literal_of es) (range_with_len i k)) size)
    ∙ before

pub below_end : (n : ℕ) (w : List Literal) (l : Literal) → AllBelow n w → IsBelow n l → AllBelow n (w ++ l ∷ [])
below_end n [] l h k = (k, tt)
below_end n (x ∷ w) l h k = (h.0, below_end n w l h.1 k)

-- the counters of more literals than the size
pub few_is : (bits : List Literal) (size : ℕ) (s t u : Circuit) (l : Literal) → size < length bits → at_most_gates bits size s ≡ (t, l) → u ≡ record { clauses = t.clauses ++ (l ∷ []) ∷ []; free = t.free } → size_gates bits size s ≡ u
unfolding asserted
few_is bits size s t u l less counted is =
    ap (λ b. if b then asserted_signal (as_bit (at_most_gates bits size s)) else s) (lt-ltb size (length bits) less) ∙ ap (λ (r : Circuit × Literal). asserted r.1 r.0) counted ∙ sym is
