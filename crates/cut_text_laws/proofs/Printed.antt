-- The printed text of valuations gives these.
use Rattle.std.proofs.Common.{◌≡◌, ◌≢◌, ◌⊎◌, inl, inr, ℕ, zero, suc, List, [], ◌∷◌, refl, ap, arith, codes, Some}
use Rattle.std.specs.Prelude.{slice_get}
use Rattle.std.specs.List.{AllByRecursion}
use Rattle.std.specs.Fmt.{decimal}
use Rattle.smv_language.specs.Language.{Value, value_text, Each, FlatVariable, FlatModel}
use Rattle.smv_flat_laws.specs.FlatTrace.{AreInDomains}
use Rattle.cut_text_laws.specs.Lines.{Line, IsLine}
use Rattle.cut_text_laws.proofs.Words.{free_by_test, spaced_line}
use Rattle.cut_text_laws.specs.TraceText.{variable_text, moment_line, value_line, value_lines, trace_lines, trace_text}
use Rattle.cut_text_laws.specs.TraceOfText.{IsLineWord, IsPrintable, SaysOf, StandsOnce, GivesMoment, GivesMoments, GivesTrace, BytesGive}
use Rattle.cut_text_laws.specs.Laws.{PrintedGivesAlone}
use Rattle.cut_text_laws.proofs.Plain.{value_word, decimal_free}
use Rattle.cut_text_laws.proofs.OneTrace.{same_equation, plain_at, one_trace}
use Rattle.std.proofs.lemmas.Option.{same_Some as some_same, none-some as never}
use Rattle.base_values.proofs.ListLaws.{all_joined}

-- each line of variables and values passes, where each variable's with its value does
each_line : (Q : Line → Type 0) (xs : List FlatVariable) (vs : List Value) → ((i : ℕ) (x : FlatVariable) (w : Value) → slice_get xs i ≡ Some x → slice_get vs i ≡ Some w → Q (value_line x w)) → AllByRecursion Q (value_lines xs vs)
each_line Q [] vs h = tt
each_line Q (x ∷ xs) [] h = tt
each_line Q (x ∷ xs) (v ∷ vs) h = (h 0 x v refl refl, each_line Q xs vs (λ i. h (suc i)))

-- the names of variables are words, and differ
record AreApart (xs : List FlatVariable) : Type 0 where
  words : (i : ℕ) (x : FlatVariable) → slice_get xs i ≡ Some x → IsLineWord (variable_text x)
  apart : (i j : ℕ) (x y : FlatVariable) → slice_get xs i ≡ Some x → slice_get xs j ≡ Some y → variable_text x ≡ variable_text y → i ≡ j

line_once : (xs : List FlatVariable) (vs : List Value) → AreApart xs → (i : ℕ) (x : FlatVariable) (w : Value) → slice_get xs i ≡ Some x → slice_get vs i ≡ Some w → StandsOnce (value_line x w) (value_lines xs vs)
line_once [] vs p i x w e f = absurd (never x e)
line_once (y ∷ xs) [] p i x w e f = absurd (never w f)
line_once (y ∷ xs) (u ∷ vs) p zero x w e f =
    record { before = []; after = value_lines xs vs; lie = same (some_same y x e) (some_same u w f); none_before = tt; none_after = each_line (λ l. l ≢ value_line x w) xs vs others }
  where
    same : y ≡ x → u ≡ w → value_line y u ∷ value_lines xs vs ≡ value_line x w ∷ value_lines xs vs
    same e f = rw (e, f) refl

    others : (j : ℕ) (z : FlatVariable) (t : Value) → slice_get xs j ≡ Some z → slice_get vs j ≡ Some t → value_line z t ≢ value_line x w
    others j z t g h d =
        let place : suc j ≡ 0 = p.apart (suc j) 0 z x g e (same_equation (variable_text z) (value_text t) (variable_text x) (value_text w) (p.words (suc j) z g) (p.words 0 x e) d).0 in
        absurd (omega (arith, place))
line_once (y ∷ xs) (u ∷ vs) p (suc i) x w e f = later (line_once xs vs (record { words = λ j. p.words (suc j); apart = λ j k a b g h s. less j k (p.apart (suc j) (suc k) a b g h s) }) i x w e f)
  where
    less : (j k : ℕ) → suc j ≡ suc k → j ≡ k
    less j k s = omega (arith, s)

    differs : value_line y u ≢ value_line x w
    differs d =
        let place : 0 ≡ suc i = p.apart 0 (suc i) y x refl e (same_equation (variable_text y) (value_text u) (variable_text x) (value_text w) (p.words 0 y refl) (p.words (suc i) x e) d).0 in
        absurd (omega (arith, place))

    later : StandsOnce (value_line x w) (value_lines xs vs) → StandsOnce (value_line x w) (value_line y u ∷ value_lines xs vs)
    later s = record { before = value_line y u ∷ s.before; after = s.after; lie = ap (λ ls. value_line y u ∷ ls) s.lie; none_before = (differs, s.none_before); none_after = s.none_after }

printed_moment : (m : FlatModel) → IsPrintable m → (v : List Value) → AreInDomains m.variables v → GivesMoment m (value_lines m.variables v) v
printed_moment m p v d = record {
  domains = d;
  each = each_line (λ line. (line ≡ []) ⊎ SaysOf m v line) m.variables v
      (λ i x w e f. inr (let s : SaysOf m v (value_line x w) = record { place = i; variable = x; value = w; is_variable = e; is_value = f; is_line = refl } in s));
  once = line_once m.variables v (record { words = p.words; apart = p.apart });
}

printed_moments : (m : FlatModel) → IsPrintable m → (n : ℕ) (trace : List (List Value)) → Each (AreInDomains m.variables) trace → GivesMoments m n (trace_lines m n trace) trace
printed_moments m p n [] h = refl
printed_moments m p n (v ∷ vs) h = (value_lines m.variables v, trace_lines m (suc n) vs, refl, printed_moment m p v h.0, printed_moments m p (suc n) vs h.1)

pub printed_gives : (m : FlatModel) → IsPrintable m → (trace : List (List Value)) → trace ≢ [] → Each (AreInDomains m.variables) trace → GivesTrace m (trace_lines m 0 trace) trace
printed_gives m p trace some h = record { blank = []; rest = trace_lines m 0 trace; lie = refl; empty = tt; some = some; moments = printed_moments m p 0 trace h }

-- No line of a printed text has a line feed.
moment_is_line : (n : ℕ) → IsLine (moment_line n)
moment_is_line n = spaced_line (codes "moment" ∷ decimal n ∷ []) (free_by_test 10 (codes "moment") refl, (decimal_free 10 (inl (omega arith)) n, tt))

value_is_line : (m : FlatModel) → IsPrintable m → (v : List Value) → AreInDomains m.variables v → (i : ℕ) (x : FlatVariable) (w : Value) → slice_get m.variables i ≡ Some x → slice_get v i ≡ Some w → IsLine (value_line x w)
value_is_line m p v d i x w e f =
    spaced_line (variable_text x ∷ codes "=" ∷ value_text w ∷ []) ((p.words i x e).line, (free_by_test 10 (codes "=") refl, ((value_word w (plain_at m p v d i x w e f)).line, tt)))

pub printed_lines : (m : FlatModel) → IsPrintable m → (n : ℕ) (trace : List (List Value)) → Each (AreInDomains m.variables) trace → AllByRecursion IsLine (trace_lines m n trace)
printed_lines m p n [] h = tt
printed_lines m p n (v ∷ vs) h =
    (moment_is_line n, all_joined IsLine (value_lines m.variables v) (trace_lines m (suc n) vs) (each_line IsLine m.variables v (value_is_line m p v h.0)) (printed_lines m p (suc n) vs h.1))

pub printed_gives_alone : PrintedGivesAlone
printed_gives_alone m p trace some h = (
  printed_gives m p trace some h,
  λ other g. (one_trace m p).0 (trace_lines m 0 trace) other trace g (printed_gives m p trace some h),
  bytes,
  λ other g. (one_trace m p).1 (trace_text m trace) other trace g bytes,
)
  where
    bytes : BytesGive m (trace_text m trace) trace
    bytes = (trace_lines m 0 trace, refl, printed_lines m p 0 trace h, printed_gives m p trace some h)
