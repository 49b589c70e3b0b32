-- The steps of the loops over pairs, for the words as the code has them.
use Rattle.std.proofs.Common.{◌≡◌, ℕ, suc, ◌+◌, ◌-◌, ◌≤◌, ◌<◌, ◌&&◌, Bool, true, false, List, [], ◌∷◌, length, take, drop, get_or, map, Option, Some, None, is_some, Bor, sym, subst, ap, ◌∙◌, refl, arith}
use Rattle.std.proofs.lemmas.Bool.{false≢true}
use Rattle.std.proofs.lemmas.List.{length-map, take-map, take_all, length-take-le}
use Rattle.verb_command_line.specs.declared.fault.WordFault.{WordFault}
use Rattle.verb_command_line.specs.declared.fault.WordFault.TheVariants as fault
use Rattle.verb_command_line.specs.Commands.{Text}
use Rattle.verb_command_line.specs.Table.{Choice, kind_in}
use Rattle.verb_command_line.specs.WordReading.{pairs_of, value_in, fault_by, pair_fault, is_file_in, has_file, same_from}
use Rattle.verb_command_line.specs.CommandView.{texts}
use Rattle.verb_command_line.proofs.PairLemmas.{no_pair}
use Rattle.verb_command_line.proofs.LoopLemmas.{Read, read_within, Searched, searched_more, searched_fault, searched_last, searched_all, searched_few, few_words, Compared, compared_more, compared_fault, compared_all}

abbrev pub Words : Type 0
Words = List (Bor (List ℕ))

taken : (at : ℕ) (words : Words) → texts (take at words) ≡ take at (texts words)
taken at words = sym (take-map (λ w. w.now) at words)

pub two_more : (rest : Words) (d : Bor (List ℕ)) → 2 ≤ length rest → texts rest ≡ (get_or rest 0 d).now ∷ (get_or rest 1 d).now ∷ texts (take (length rest - 2) (drop 2 rest))
two_more [] d two = absurd (omega (arith, two))
two_more (a ∷ []) d two = absurd (omega (arith, two))
two_more (a ∷ b ∷ more) d two =
    let least : length more ≤ suc (suc (length more)) - 2 = omega arith in
    ap (λ ws. a.now ∷ b.now ∷ texts ws) (sym (take_all (suc (suc (length more)) - 2) more least))

one_more : (rest : Words) (d : Bor (List ℕ)) → 1 ≤ length rest → length rest < 2 → texts rest ≡ (get_or rest 0 d).now ∷ []
one_more [] d one few = absurd (omega (arith, one))
one_more (a ∷ []) d one few = refl
one_more (a ∷ b ∷ more) d one few = absurd (omega (arith, few))

none_more : (rest : Words) → length rest < 1 → texts rest ≡ []
none_more [] few = refl
none_more (a ∷ more) few = absurd (omega (arith, few))

pub fewer_left : (rest : Words) → 2 ≤ length rest → length (take (length rest - 2) (drop 2 rest)) < length rest
fewer_left [] two = absurd (omega (arith, two))
fewer_left (a ∷ []) two = absurd (omega (arith, two))
fewer_left (a ∷ b ∷ more) two =
    let least : length more ≤ suc (suc (length more)) - 2 = omega arith in
    let all = ap (λ ws. length ws) (take_all (suc (suc (length more)) - 2) more least) in omega (arith, all)

-- what was read is within the words
pub front_read : (words : Words) (at : ℕ) (rest : List Text) → Read (texts words) at rest → at ≡ length (take at words)
front_read words at rest r =
    let all = read_within (texts words) at rest r in let same = length-map words (λ w. w.now) in
    let within : at ≤ length words = omega (arith, all, same) in sym (length-take-le at words within)

pub at_within : (words : Words) (at : ℕ) (rest : List Text) → Read (texts words) at rest → at ≤ length words
at_within words at rest r = let all = read_within (texts words) at rest r in let same = length-map words (λ w. w.now) in omega (arith, all, same)

module _ (options : List Choice) (words : Words) (at : ℕ) (rest : Words) (d : Bor (List ℕ)) where
  -- what the code finds at an option and its value, after the words before it
  abbrev pub Finds : Option Text → Option WordFault → Type 0
  Finds value found = found ≡ fault_by (kind_in options (get_or rest 0 d).now) (value_in (pairs_of (texts (take at words))) (get_or rest 0 d).now) value (at + 2)

  at_texts : (value : Option Text) (found : Option WordFault) → Finds value found →
      fault_by (kind_in options (get_or rest 0 d).now) (value_in (pairs_of (take at (texts words))) (get_or rest 0 d).now) value (at + 2) ≡ found
  at_texts value found finds =
      ap (λ ws. fault_by (kind_in options (get_or rest 0 d).now) (value_in (pairs_of ws) (get_or rest 0 d).now) value (at + 2)) (sym (taken at words)) ∙ sym finds

  pub step_on : (found : Option WordFault) → Searched options (texts words) at (texts rest) → 2 ≤ length rest → Finds (Some (get_or rest 1 d).now) found → is_some found ≡ false →
      Searched options (texts words) (at + 2) (texts (take (length rest - 2) (drop 2 rest)))
  step_on None s two finds off =
      searched_more options (texts words) at (get_or rest 0 d).now (get_or rest 1 d).now (texts (take (length rest - 2) (drop 2 rest)))
      (subst (Searched options (texts words) at) (two_more rest d two) s) (at_texts (Some (get_or rest 1 d).now) None finds)
  step_on (Some f) s two finds off = absurd (false≢true (sym off))

  pub step_out : (found : Option WordFault) → Searched options (texts words) at (texts rest) → 2 ≤ length rest → Finds (Some (get_or rest 1 d).now) found → is_some found ≡ true →
      found ≡ pair_fault options [] (texts words)
  step_out None s two finds on = absurd (false≢true on)
  step_out (Some f) s two finds on =
      searched_fault options (texts words) at (get_or rest 0 d).now (get_or rest 1 d).now (texts (take (length rest - 2) (drop 2 rest))) f
      (subst (Searched options (texts words) at) (two_more rest d two) s) (at_texts (Some (get_or rest 1 d).now) (Some f) finds)

  pub step_last : (found : Option WordFault) → Searched options (texts words) at (texts rest) → 1 ≤ length rest → length rest < 2 → Finds None found → found ≡ pair_fault options [] (texts words)
  step_last found s one few finds =
      sym (at_texts None found finds) ∙ searched_last options (texts words) at (get_or rest 0 d).now (subst (Searched options (texts words) at) (one_more rest d one few) s)

  -- what the code finds of a file and its name
  abbrev pub Repeated : Bool → Type 0
  Repeated found = found ≡ (is_file_in options (get_or rest 0 d).now && has_file options (pairs_of (texts (take at words))) (get_or rest 1 d).now)

  named_texts : (found : Bool) → Repeated found → (is_file_in options (get_or rest 0 d).now && has_file options (pairs_of (take at (texts words))) (get_or rest 1 d).now) ≡ found
  named_texts found repeated = ap (λ ws. is_file_in options (get_or rest 0 d).now && has_file options (pairs_of ws) (get_or rest 1 d).now) (sym (taken at words)) ∙ sym repeated

  pub name_on : (found : Bool) → Compared options (texts words) at (texts rest) → 2 ≤ length rest → Repeated found → found ≡ false →
      Compared options (texts words) (at + 2) (texts (take (length rest - 2) (drop 2 rest)))
  name_on found s two repeated off =
      compared_more options (texts words) at (get_or rest 0 d).now (get_or rest 1 d).now (texts (take (length rest - 2) (drop 2 rest)))
      (subst (Compared options (texts words) at) (two_more rest d two) s) (named_texts found repeated ∙ off)

  pub name_out : (found : Bool) → Compared options (texts words) at (texts rest) → 2 ≤ length rest → Repeated found → found ≡ true →
      Some (fault.SameName (at + 3)) ≡ same_from options [] (pairs_of (texts words))
  name_out found s two repeated on =
      compared_fault options (texts words) at (get_or rest 0 d).now (get_or rest 1 d).now (texts (take (length rest - 2) (drop 2 rest)))
      (subst (Compared options (texts words) at) (two_more rest d two) s) (named_texts found repeated ∙ on)

-- at the end
pub step_end : (options : List Choice) (words : Words) (at : ℕ) (rest : Words) → Searched options (texts words) at (texts rest) → length rest < 1 → None ≡ pair_fault options [] (texts words)
step_end options words at rest s few = searched_all options (texts words) at (subst (Searched options (texts words) at) (none_more rest few) s)

pub name_end : (options : List Choice) (words : Words) (at : ℕ) (rest : Words) → Compared options (texts words) at (texts rest) → length rest < 2 → None ≡ same_from options [] (pairs_of (texts words))
name_end options words at rest s few = compared_all options (texts words) at (texts rest) s (no_pair rest few)

-- and few words were read
pub step_few : {A : Type 0} (view : A → Choice) (options : List A) (words : Words) (at : ℕ) (rest : List Text) → Searched (map view options) (texts words) at rest → length options ≤ 8 → at ≤ 16
step_few view options words at rest s few =
    let most = searched_few (map view options) (texts words) at rest s in let same = length-map options view in omega (arith, most, same, few)

-- words without a fault at their pairs are at most 16
pub few_read : {A : Type 0} (view : A → Choice) (options : List A) (words : Words) (found : Option WordFault) → found ≡ pair_fault (map view options) [] (texts words) → is_some found ≡ false →
    length options ≤ 8 → length words ≤ 16
few_read view options words None finds off few =
    let most = few_words (map view options) (texts words) (sym finds) in let same = length-map options view in let all = length-map words (λ w. w.now) in omega (arith, most, same, all, few)
few_read view options words (Some f) finds off few = absurd (false≢true (sym off))

-- the first word, and the words after it
pub first_word : (words : Words) (d : Bor (List ℕ)) → 1 ≤ length words → texts words ≡ (get_or words 0 d).now ∷ texts (take (length words - 1) (drop 1 words))
first_word [] d some = absurd (omega (arith, some))
first_word (a ∷ more) d some =
    let least : length more ≤ suc (length more) - 1 = omega arith in ap (λ ws. a.now ∷ texts ws) (sym (take_all (suc (length more) - 1) more least))
