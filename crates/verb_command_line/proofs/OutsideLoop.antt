-- The steps of the loop over pairs that looks for a fault outside its set, for the words as the code has them.
use Rattle.std.proofs.Common.{◌≡◌, ℕ, ◌+◌, ◌-◌, ◌*◌, ◌≤◌, ◌<◌, Bool, true, false, List, [], ◌∷◌, ◌++◌, length, take, drop, get_or, Option, Some, None, is_some, Bor, if◌then◌else◌, sym, subst, ap, ◌∙◌, refl, arith}
use Rattle.std.proofs.lemmas.Bool.{false≢true}
use Rattle.std.proofs.lemmas.List.{length-map}
use Rattle.verb_command_line.specs.declared.fault.WordFault.{WordFault}
use Rattle.verb_command_line.specs.declared.fault.WordFault.TheVariants as fault
use Rattle.verb_command_line.specs.Commands.{Text}
use Rattle.verb_command_line.specs.WordReading.{pairs_of, first_of, pair_fault, missing_from, same_from, option_fault, is_outside, outside_here, outside_from, set_fault, fault_after}
use Rattle.verb_command_line.specs.CommandView.{texts}
use Rattle.verb_command_line.proofs.PairLemmas.{no_pair}
use Rattle.verb_command_line.proofs.SoundLemmas.{first_none}
use Rattle.verb_command_line.proofs.LoopLemmas.{Read, read_none, read_more, few_words}
use Rattle.verb_command_line.proofs.StepLemmas.{Words, two_more}
use Rattle.verb_command_line.specs.declared.verb.Verb.{Verb}
use Rattle.verb_command_line.specs.declared.verb.Verb.TheVariants as verb
use Rattle.verb_command_line.specs.Table.{options_of}

-- What stands of the search: what was read has no fault outside, and what is left has the fault of all.
pub record Passed (set first : Text) (words : List Text) (at : ℕ) (rest : List Text) : Type 0 where
  pub read : Read words at rest
  pub left : outside_from set first read.pairs (pairs_of rest) ≡ outside_from set first [] (pairs_of words)

pub passed_none : (set first : Text) (words : List Text) → Passed set first words 0 words
passed_none set first words = record { read = read_none words; left = refl }

module _ (set first : Text) (words : List Text) (at : ℕ) (option value : Text) (rest : List Text) (s : Passed set first words at (option ∷ value ∷ rest)) where
  at_pair : (t : Bool) → is_outside set first option value ≡ t → outside_here set first s.read.pairs (record { option = option; value = value }) ≡ (if t then Some (fault.NotInSet (at + 3)) else None)
  at_pair t e =
      let place : 2 * length s.read.pairs + 2 + 1 ≡ at + 3 = let now = s.read.count in omega (arith, now) in
      ap (λ b. if b then Some (fault.NotInSet (2 * length s.read.pairs + 2 + 1)) else None) e ∙ ap (λ n. if t then Some (fault.NotInSet n) else None) place

  passed_more : is_outside set first option value ≡ false → Passed set first words (at + 2) rest
  passed_more e = record {
    read = read_more words at option value rest s.read;
    left = sym (ap (λ f. first_of f (outside_from set first (s.read.pairs ++ record { option = option; value = value } ∷ []) (pairs_of rest))) (at_pair false e)) ∙ s.left;
  }

  passed_fault : is_outside set first option value ≡ true → Some (fault.NotInSet (at + 3)) ≡ outside_from set first [] (pairs_of words)
  passed_fault e = sym (ap (λ f. first_of f (outside_from set first (s.read.pairs ++ record { option = option; value = value } ∷ []) (pairs_of rest))) (at_pair true e)) ∙ s.left

module _ (set first : Text) (words : Words) (at : ℕ) (rest : Words) (d : Bor (List ℕ)) where
  pub outside_on : (found : Bool) → Passed set first (texts words) at (texts rest) → 2 ≤ length rest → found ≡ is_outside set first (get_or rest 0 d).now (get_or rest 1 d).now → found ≡ false →
      Passed set first (texts words) (at + 2) (texts (take (length rest - 2) (drop 2 rest)))
  outside_on found s two finds off =
      passed_more set first (texts words) at (get_or rest 0 d).now (get_or rest 1 d).now (texts (take (length rest - 2) (drop 2 rest)))
      (subst (Passed set first (texts words) at) (two_more rest d two) s) (sym finds ∙ off)

  pub outside_out : (found : Bool) → Passed set first (texts words) at (texts rest) → 2 ≤ length rest → found ≡ is_outside set first (get_or rest 0 d).now (get_or rest 1 d).now → found ≡ true →
      Some (fault.NotInSet (at + 3)) ≡ outside_from set first [] (pairs_of (texts words))
  outside_out found s two finds on =
      passed_fault set first (texts words) at (get_or rest 0 d).now (get_or rest 1 d).now (texts (take (length rest - 2) (drop 2 rest)))
      (subst (Passed set first (texts words) at) (two_more rest d two) s) (sym finds ∙ on)

pub outside_end : (set first : Text) (words : Words) (at : ℕ) (rest : Words) → Passed set first (texts words) at (texts rest) → length rest < 2 → None ≡ outside_from set first [] (pairs_of (texts words))
outside_end set first words at rest s few = sym (ap (λ ps. outside_from set first s.read.pairs ps) (no_pair rest few)) ∙ s.left

-- a verb has at most 8 options
pub few_options : (v : Verb) → length (options_of v) ≤ 8
few_options verb.Extend = omega arith
few_options verb.Replay = omega arith
few_options verb.Analyse = omega arith
few_options verb.Check = omega arith
few_options verb.Fmea = omega arith
few_options verb.Make = omega arith
few_options verb.Causes = omega arith
few_options verb.CheckCauses = omega arith
few_options verb.Orders = omega arith
few_options verb.CheckOrders = omega arith
few_options verb.Odds = omega arith

-- words without a fault are at most 16
pub few_after : (v : Verb) (words : Words) (found : Option WordFault) → found ≡ option_fault (options_of v) (texts words) → is_some found ≡ false → length words ≤ 16
few_after v words None finds off =
    let none =
    first_none (pair_fault (options_of v) [] (texts words)) (first_of (missing_from 1 (options_of v) (pairs_of (texts words))) (same_from (options_of v) [] (pairs_of (texts words)))) (sym finds) in
    let most = few_words (options_of v) (texts words) none.0 in let few = few_options v in let all = length-map words (λ w. w.now) in omega (arith, most, few, all)
few_after v words (Some f) finds off = absurd (false≢true (sym off))

-- the first fault of the words after a verb, as the code finds it
pub after_some : (v : Verb) (words : List Text) (found : Option WordFault) → found ≡ option_fault (options_of v) words → is_some found ≡ true → found ≡ fault_after v words
after_some v words None e on = absurd (false≢true on)
after_some v words (Some f) e on = ap (λ o. first_of o (set_fault (pairs_of words))) e

pub after_none : (v : Verb) (words : List Text) (found other : Option WordFault) → found ≡ option_fault (options_of v) words → is_some found ≡ false → other ≡ set_fault (pairs_of words) →
    other ≡ fault_after v words
after_none v words None other e off is = is ∙ ap (λ o. first_of o (set_fault (pairs_of words))) e
after_none v words (Some f) other e off is = absurd (false≢true (sym off))
