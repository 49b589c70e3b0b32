-- Sets of numbers and claims, as they are tested.
use Rattle.std.proofs.Common.{◌≡◌, inl, inr, ⊎_elim, ℕ, ◌<◌, ◌≤◌, ◌+◌, Bool, true, false, List, [], ◌∷◌, length, map, Option, Some, None, ◌^◌, codes, is_some, Bor, if◌then◌else◌, sym, subst, ◌∙◌, ap, refl, arith}
use Rattle.std.specs.Prelude.{nat_lt, nat_le, ◌==◌}
use Rattle.std.specs.Str.{bytes_eq}
use Rattle.std.specs.List.{position_or_len, before_first, after_first, count_by}
use Rattle.std.proofs.lemmas.Bool.{false≢true, and_parts, and_from, or_cases, or_left, or_right, ltb-true, leb-true, lt-ltb, le-leb}
use Rattle.std.proofs.lemmas.List.Elements.{All-from_get_or}
use Rattle.std.proofs.lemmas.List.Sums.{fails_before_first}
use Rattle.std.proofs.lemmas.List.Splits.{slice_split_first, slice_split_none, length-slice_split}
use Rattle.std.proofs.lemmas.Str.Pattern.{IsSplitOnceResult, split_once_first}
use Rattle.std.specs.Option.{option_map}
use Rattle.base_values.specs.declared.limits.TheConstants.{MOST_FAULTS}
use Rattle.verb_command_line.specs.Commands.{Text}
use Rattle.verb_command_line.specs.Sets.{Each, number_of, IsNumeral, words_of, numbers_of, AreRising, IsSet}
use Rattle.verb_command_line.specs.Table.{IsClaim}
use Rattle.verb_command_line.specs.WordReading.{is_numeral, number_in, if_small, rises_by, is_rising, is_set_text, is_claim, words_left, smalls, small_then}
use Rattle.verb_command_line.proofs.ListLemmas.{bytes_same}
use Rattle.verb_command_line.proofs.NumberLemmas.{is_numeral-true, true-is_numeral, numbered}
use Rattle.base_values.proofs.ListLaws.{same_bytes}

rises_sound : (last : ℕ) (w : Text) (t : Bool) → is_numeral w ≡ t → rises_by last (if t then Some (number_of w) else None) ≡ true → IsNumeral w × (last < number_of w) × (number_of w ≤ MOST_FAULTS)
rises_sound last w true is e =
    let parts = and_parts (nat_lt last (number_of w)) (nat_le (number_of w) MOST_FAULTS) e in (is_numeral-true w is, ltb-true _ _ parts.0, leb-true _ _ parts.1)
rises_sound last w false is e = absurd (false≢true e)

rising_sound : (last : ℕ) (ws : List Text) → is_rising last ws ≡ true → Each IsNumeral ws × AreRising last (map number_of ws)
rising_sound last [] e = (tt, tt)
rising_sound last (w ∷ ws) e =
    let both = and_parts (rises_by last (number_in w)) (is_rising (number_of w) ws) e in
    let here = rises_sound last w (is_numeral w) refl both.0 in
    let more = rising_sound (number_of w) ws both.1 in
    ((here.0, more.0), (here.1, here.2, more.1))

rising_complete : (last : ℕ) (ws : List Text) → Each IsNumeral ws → AreRising last (map number_of ws) → is_rising last ws ≡ true
rising_complete last [] n r = refl
rising_complete last (w ∷ ws) n r =
    and_from _ _ (ap (rises_by last) (numbered w (true-is_numeral w n.0)) ∙ and_from _ _ (lt-ltb _ _ r.0) (le-leb _ _ r.1)) (rising_complete (number_of w) ws n.1 r.2)

two : (n : ℕ) → 1 < n → 2 ≤ n
two n h = omega (arith, h)

above_one : (n : ℕ) → 2 ≤ n → 1 < n
above_one n h = omega (arith, h)

pub set-sound : (word : Text) → is_set_text word ≡ true → IsSet word
set-sound word e =
    let both = and_parts (nat_lt 1 (length (words_of word))) (is_rising 0 (words_of word)) e in
    let rising = rising_sound 0 (words_of word) both.1 in
    record { numerals = rising.0; rising = rising.1; several = two (length (words_of word)) (ltb-true _ _ both.0) }

pub set-complete : (word : Text) → IsSet word → is_set_text word ≡ true
set-complete word h = and_from _ _ (lt-ltb _ _ (above_one (length (words_of word)) h.several)) (rising_complete 0 (words_of word) h.numerals h.rising)

-- Claims.
pub claim-sound : (word : Text) → is_claim word ≡ true → IsClaim word
claim-sound word e =
    ⊎_elim (λ h. inl (bytes_same word (codes "before") h))
    (λ h. inr (⊎_elim (λ i. inl (bytes_same word (codes "after") i))
    (λ i. inr (⊎_elim (λ j. inl (bytes_same word (codes "together") j)) (λ j. inr (bytes_same word (codes "none") j)) (or_cases _ _ i)))
    (or_cases _ _ h)))
    (or_cases _ _ e)

pub claim-complete : (word : Text) → IsClaim word → is_claim word ≡ true
claim-complete word (inl same) = or_left (bytes_eq word (codes "before")) _ (same_bytes word (codes "before") same)
claim-complete word (inr (inl same)) = or_right (bytes_eq word (codes "before")) _ (or_left (bytes_eq word (codes "after")) _ (same_bytes word (codes "after") same))
claim-complete word (inr (inr (inl same))) =
    or_right (bytes_eq word (codes "before")) _ (or_right (bytes_eq word (codes "after")) _ (or_left (bytes_eq word (codes "together")) _ (same_bytes word (codes "together") same)))
claim-complete word (inr (inr (inr same))) =
    or_right (bytes_eq word (codes "before")) _ (or_right (bytes_eq word (codes "after")) _ (or_right (bytes_eq word (codes "together")) _ (same_bytes word (codes "none") same)))

-- The words of a text, cut at its first space.
pub words_first : (text : Text) → position_or_len (λ b. b == 32) text < length text → words_of text ≡ before_first (λ b. b == 32) text ∷ words_of (after_first (λ b. b == 32) text)
words_first text h = slice_split_first (λ b. b == 32) text 0 h

pub words_one : (text : Text) → position_or_len (λ b. b == 32) text ≡ length text → words_of text ≡ text ∷ []
words_one text h = slice_split_none (λ b. b == 32) text (All-from_get_or (λ b. (b == 32) ≡ false) text 0 (λ i l. fails_before_first (λ b. b == 32) text i 0 (rw h l)))

-- and as `split_once` cuts it
pub cut_some : (text : Text) (r : Option (Bor (List ℕ) × Bor (List ℕ))) (x : Bor (List ℕ) × Bor (List ℕ)) → r ≡ Some x → IsSplitOnceResult 32 text r → words_of text ≡ x.0.now ∷ words_of x.1.now
cut_some text r x e h =
    let m = split_once_first 32 text (Some x) (subst (IsSplitOnceResult 32 text) e h) (omega arith) in words_first text m.0 ∙ (λ j. sym m.1 j ∷ words_of (sym m.2 j))

pub cut_none : (text : Text) (r : Option (Bor (List ℕ) × Bor (List ℕ))) → r ≡ None → IsSplitOnceResult 32 text r → words_of text ≡ text ∷ []
cut_none text r e h = words_one text (split_once_first 32 text None (subst (IsSplitOnceResult 32 text) e h) (omega arith))

some_words : (text : Text) → 0 < length (words_of text)
some_words text = let n : length (words_of text) ≡ count_by (λ b. b == 32) text + 1 = length-slice_split (λ b. b == 32) text in omega (arith, n)

-- there are two words where something stands after the first
pub two_words : (ws : List Text) (front : Text) (after : Option (Bor (List ℕ))) (b : Bool) → ws ≡ front ∷ words_left (option_map (λ t. t.now) after) → b ≡ is_some after → b ≡ nat_lt 1 (length ws)
two_words ws front None b e is = is ∙ sym (ap (λ w. nat_lt 1 (length w)) e)
two_words ws front (Some t) b e is =
    is ∙ sym (ap (λ w. nat_lt 1 (length w)) e ∙ lt-ltb 1 (length (front ∷ words_of t.now)) (let some = some_words t.now in omega (arith, some)))

-- The numbers of a set have 32 bits.
small_if : (n : ℕ) → n ≤ MOST_FAULTS → if_small (Some n) ≡ Some n
small_if n h = ap (λ t. if t then Some n else None) (lt-ltb n (2 ^ 32) (omega (arith, h)))

smalls_rising : (last : ℕ) (ws : List Text) → Each IsNumeral ws → AreRising last (map number_of ws) → smalls ws ≡ map number_of ws
smalls_rising last [] n r = refl
smalls_rising last (w ∷ ws) n r =
    ap (λ o. small_then (if_small o) (smalls ws)) (numbered w (true-is_numeral w n.0)) ∙ ap (λ o. small_then o (smalls ws)) (small_if (number_of w) r.1)
    ∙ ap (λ ns. number_of w ∷ ns) (smalls_rising (number_of w) ws n.1 r.2)

pub smalls_of_set : (set : Text) → IsSet set → smalls (words_of set) ≡ numbers_of set
smalls_of_set set h = smalls_rising 0 (words_of set) h.numerals h.rising
