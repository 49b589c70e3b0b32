-- The choices of a case, from the last but one to the first.
use Rattle.std.proofs.Common.{◌≡◌, ℕ, zero, suc, ◌+◌, ◌≤◌, List, [], ◌∷◌, ◌++◌, length, take, drop, Some, refl, sym, ◌∙◌, ap, subst, arith}
use Rattle.std.specs.Prelude.{slice_get}
use Rattle.smv_language.specs.Trace.{Each}
use Rattle.sat_clauses.specs.Literal.{Literal}
use Rattle.sat_circuits.specs.Circuit.{Circuit, after}
use Rattle.sat_encoding_laws.specs.Signals.{Signal, fitted, choice_gates}
use Rattle.sat_encoding_laws.specs.Meanings.{IsSignal}
use Rattle.sat_expressions.specs.declared.signal.Signal.{Signal as Built}
use Rattle.sat_expressions.specs.BuiltSignals.{signal_of, signals_of, BuildsSignal}
use Rattle.sat_expressions.specs.Choices.{first_signal, chosen_gates, upward_gates}
use Rattle.smv_language.proofs.ListLaws.{take_there}
use Rattle.sat_encoding_laws.proofs.MomentMeans.{signal_moved}

-- the last value, and then the choices upward
pub chosen_upward : (n : ℕ) (ps : List Literal) (es : List Signal) (s : Circuit) → chosen_gates n ps es s ≡ upward_gates n ps es (s, fitted n (first_signal (drop (length ps) es)))
unfolding chosen_gates upward_gates
chosen_upward n [] es s = refl
chosen_upward n (p ∷ ps) [] s = refl
chosen_upward n (p ∷ ps) (e ∷ es) s = ap (λ r. after r (λ f w. choice_gates n p e f w)) (chosen_upward n ps es s)

-- the last of the choices comes first
pub upward_last : (n : ℕ) (ps : List Literal) (p : Literal) (es : List Signal) (e : Signal) (r : Circuit × Signal) → length ps ≡ length es
    → upward_gates n (ps ++ p ∷ []) (es ++ e ∷ []) r ≡ upward_gates n ps es (choice_gates n p e r.1 r.0)
unfolding upward_gates after
upward_last n [] p [] e r h = refl
upward_last n [] p (x ∷ es) e r h = absurd (omega (arith, h))
upward_last n (q ∷ ps) p [] e r h = absurd (omega (arith, h))
upward_last n (q ∷ ps) p (x ∷ es) e r h = ap (λ z. after z (λ f w. choice_gates n q x f w)) (upward_last n ps p es e r (omega (arith, h)))

pub get_mapped : (es : List Built) (i : ℕ) (e : Built) → slice_get es i ≡ Some e → slice_get (signals_of es) i ≡ Some (signal_of e)
get_mapped [] i e h = cc
get_mapped (y ∷ es) zero e h = cc
get_mapped (y ∷ es) (suc i) e h = get_mapped es i e h

pub length_signals : (es : List Built) → length (signals_of es) ≡ length es
length_signals [] = refl
length_signals (e ∷ es) = ap suc (length_signals es)

-- the signal at a place may be used
pub usable_at : (s : Circuit) (es : List Built) (i : ℕ) (e f : Built) → slice_get es i ≡ Some e → signal_of f ≡ signal_of e → Each (IsSignal s) (signals_of es) → IsSignal s (signal_of f)
usable_at s [] i e f h same all = cc
usable_at s (y ∷ es) zero e f h same all =
    let here : y ≡ e = cc in subst (λ x. IsSignal s x) (ap signal_of here ∙ sym same) all.0
usable_at s (y ∷ es) (suc i) e f h same all = usable_at s es i e f h same all.1

-- signals may be used in a circuit with no fewer variables
pub usable_later : (s t : Circuit) → s.free ≤ t.free → (es : List Built) → Each (IsSignal s) (signals_of es) → Each (IsSignal t) (signals_of es)
usable_later s t h [] all = tt
usable_later s t h (e ∷ es) all = (signal_moved s t h (signal_of e) all.0, usable_later s t h es all.1)

first_at : (es : List Signal) (i : ℕ) (e : Signal) → slice_get es i ≡ Some e → first_signal (drop i es) ≡ e
first_at [] i e h = cc
first_at (y ∷ es) zero e h = cc
first_at (y ∷ es) (suc i) e h = first_at es i e h

-- so many values as conditions are looked at
upward_take : (n : ℕ) (ps : List Literal) (es : List Signal) (r : Circuit × Signal) → upward_gates n ps es r ≡ upward_gates n ps (take (length ps) es) r
unfolding upward_gates
upward_take n [] es r = refl
upward_take n (p ∷ ps) [] r = refl
upward_take n (p ∷ ps) (e ∷ es) r = ap (λ z. after z (λ f w. choice_gates n p e f w)) (upward_take n ps es r)

take_whole : {A : Type 0} (xs : List A) → take (length xs) xs ≡ xs
take_whole [] = refl
take_whole (x ∷ xs) = ap (λ zs. x ∷ zs) (take_whole xs)

taken_alike : {A B : Type 0} (j : ℕ) (xs : List A) (ys : List B) → j ≤ length xs → j ≤ length ys → length (take j xs) ≡ length (take j ys)
taken_alike zero xs ys h k = refl
taken_alike (suc j) [] ys h k = absurd (omega (arith, h))
taken_alike (suc j) (x ∷ xs) [] h k = absurd (omega (arith, k))
taken_alike (suc j) (x ∷ xs) (y ∷ ys) h k = ap suc (taken_alike j xs ys (omega (arith, h)) (omega (arith, k)))

pub choices_first : (n : ℕ) (ps : List Literal) (es : List Built) (s : Circuit) (e f chosen : Built) → slice_get es (length ps) ≡ Some e → signal_of f ≡ signal_of e
    → BuildsSignal s (s, fitted n (signal_of f)) s chosen → chosen_gates n ps (signals_of es) s ≡ upward_gates n (take (length ps) ps) (take (length ps) (signals_of es)) (s, signal_of chosen)
choices_first n ps es s e f chosen at same built =
    chosen_upward n ps (signals_of es) s
    ∙ ap (λ x. upward_gates n ps (signals_of es) (s, fitted n x)) (first_at (signals_of es) (length ps) (signal_of e) (get_mapped es (length ps) e at) ∙ sym same)
    ∙ ap (λ r. upward_gates n ps (signals_of es) r) built.exact
    ∙ upward_take n ps (signals_of es) (s, signal_of chosen)
    ∙ ap (λ qs. upward_gates n qs (take (length ps) (signals_of es)) (s, signal_of chosen)) (sym (take_whole ps))

pub choices_next : (n : ℕ) (ps : List Literal) (es : List Built) (g t : Circuit) (chosen e f made : Built) (p : Literal) (left j : ℕ) (whole : Circuit × Signal) → left ≡ suc j → length es ≡ length ps + 1 → left ≤ length ps
    → slice_get ps j ≡ Some p → slice_get es j ≡ Some e → signal_of f ≡ signal_of e → BuildsSignal g (choice_gates n p (signal_of f) (signal_of chosen) g) t made
    → whole ≡ upward_gates n (take left ps) (take left (signals_of es)) (g, signal_of chosen) → whole ≡ upward_gates n (take j ps) (take j (signals_of es)) (t, signal_of made)
choices_next n ps es g t chosen e f made p left j whole is long within at_p at_e same built before =
    let long' : length (signals_of es) ≡ length ps + 1 = length_signals es ∙ long in
    subst (λ k. whole ≡ upward_gates n (take k ps) (take k (signals_of es)) (g, signal_of chosen)) is before
    ∙ ap (λ qs. upward_gates n qs (take (suc j) (signals_of es)) (g, signal_of chosen)) (take_there ps j p at_p)
    ∙ ap (λ qs. upward_gates n (take j ps ++ p ∷ []) qs (g, signal_of chosen)) (take_there (signals_of es) j (signal_of e) (get_mapped es j e at_e))
    ∙ upward_last n (take j ps) p (take j (signals_of es)) (signal_of e) (g, signal_of chosen) (taken_alike j ps (signals_of es) (omega (arith, is, within)) (omega (arith, is, within, long')))
    ∙ ap (λ x. upward_gates n (take j ps) (take j (signals_of es)) (choice_gates n p x (signal_of chosen) g)) (sym same)
    ∙ ap (λ r. upward_gates n (take j ps) (take j (signals_of es)) r) built.exact

pub choices_end : (n : ℕ) (ps : List Literal) (es : List Signal) (r whole : Circuit × Signal) (left : ℕ) → left ≡ 0 → whole ≡ upward_gates n (take left ps) (take left es) r → whole ≡ r
unfolding upward_gates
choices_end n ps es r whole left is before = subst (λ k. whole ≡ upward_gates n (take k ps) (take k es) r) is before
