-- Fewer states are left in frames in which a clause more stands.
use Rattle.std.proofs.Common.{◌≡◌, ◌≤◌, ◌<◌, ℕ, zero, suc, ◌-◌, Bool, true, false, List, [], ◌∷◌, sym, ◌∙◌, refl, arith, length}
use Rattle.std.specs.Prelude.{slice_index_or, Contains}
use Rattle.sat_clauses.specs.Literal.{Literal}
use Rattle.sat_clauses.specs.Models.{TotalAssignment, clause_value, all_true}
use Rattle.cut_frames.specs.Chain.{State}
use Rattle.cut_frames.specs.FrameLists.{frame_at}
use Rattle.cut_frames.specs.StatesLeft.{passes, states_left}
use Rattle.cut_frames.proofs.Count.{Within, count_mono, count_less}
use Rattle.cut_frames.proofs.Short.{member_true}

-- what makes a frame true made it true before
abbrev pub AreKept : List (List (List Literal)) → List (List (List Literal)) → Type 0
AreKept old now = (i : ℕ) (v : TotalAssignment) → all_true v (frame_at now i) ≡ true → all_true v (frame_at old i) ≡ true

within : (bits : ℕ) (old now : List (List Literal)) → ((v : TotalAssignment) → all_true v now ≡ true → all_true v old ≡ true) → Within bits (passes now) (passes old)
within bits old now f = λ s e t. f (λ v. slice_index_or s (v - 2) false) t

-- where the clause is false the test of a frame that has it fails
fails : (frame : List (List Literal)) (c : List Literal) (s : State) → Contains frame c → clause_value (λ v. slice_index_or s (v - 2) false) c ≡ false → passes frame s ≡ false
fails frame c s m no' = by_test (passes frame s) refl
  where
    by_test : (b : Bool) → passes frame s ≡ b → b ≡ false
    by_test false q = refl
    by_test true q = let clash : true ≡ false = sym (member_true (λ v. slice_index_or s (v - 2) false) frame c q m) ∙ no' in cc

pub left_mono : (bits : ℕ) (old now : List (List (List Literal))) → length now ≡ length old → AreKept old now → states_left bits now ≤ states_left bits old
left_mono bits [] [] e k = omega arith
left_mono bits [] (g ∷ gs) e k = absurd (grind (arith, e))
left_mono bits (f ∷ fs) [] e k = omega arith
left_mono bits (f ∷ fs) (g ∷ gs) e k =
    let rest = left_mono bits fs gs (grind (arith, e)) (λ i v t. k (suc i) v t) in
    let here = count_mono bits (passes g) (passes f) (within bits f g (k 0)) in
    omega (arith, rest, here)

-- fewer by one at least where the clause excludes a state of one of these frames
pub left_less : (bits i : ℕ) (c : List Literal) (old now : List (List (List Literal))) (s : State) → length now ≡ length old → AreKept old now → length s ≡ bits → i < length old →
    Contains (frame_at now i) c → passes (frame_at old i) s ≡ true → clause_value (λ v. slice_index_or s (v - 2) false) c ≡ false → states_left bits now < states_left bits old
left_less bits i c [] now s e k bits_is lt m yes' no' = absurd (omega (arith, lt))
left_less bits i c (f ∷ fs) [] s e k bits_is lt m yes' no' = absurd (grind (arith, e))
left_less bits zero c (f ∷ fs) (g ∷ gs) s e k bits_is lt m yes' no' =
    let rest = left_mono bits fs gs (grind (arith, e)) (λ i v t. k (suc i) v t) in
    let here = count_less bits (passes g) (passes f) s (within bits f g (k 0)) bits_is yes' (fails g c s m no') in
    omega (arith, rest, here)
left_less bits (suc i) c (f ∷ fs) (g ∷ gs) s e k bits_is lt m yes' no' =
    let rest = left_less bits i c fs gs s (grind (arith, e)) (λ i v t. k (suc i) v t) bits_is (grind (arith, lt)) m yes' no' in
    let here = count_mono bits (passes g) (passes f) (within bits f g (k 0)) in
    omega (arith, rest, here)
