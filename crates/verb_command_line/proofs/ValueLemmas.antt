-- The values that lawful pairs give options: texts, and numbers within limits.
use Rattle.std.proofs.Common.{◌≡◌, inl, inr, ℕ, ◌^◌, ◌<◌, List, [], ◌∷◌, Option, Some, None, unwrap_or, option_and_then, if◌then◌else◌, sym, subst, ap, ◌∙◌, refl, arith}
use Rattle.std.proofs.lemmas.Bool.{lt-ltb}
use Rattle.base_values.specs.declared.limits.TheConstants.{MOST_FAULTS, GREATEST_DEPTH, GREATEST_CASE}
use Rattle.verb_command_line.specs.declared.choice.OptionKind.{OptionKind}
use Rattle.verb_command_line.specs.declared.choice.OptionKind.TheVariants as kind
use Rattle.verb_command_line.specs.Commands.{Text, Given}
use Rattle.verb_command_line.specs.Sets.{number_of}
use Rattle.verb_command_line.specs.Table.{Choice, kind_in, IsWithin, Fits}
use Rattle.verb_command_line.specs.Meaning.{Each, Gives, IsGiven, IsLawful, AreLawful, GivesNumber, MayGiveNumber}
use Rattle.verb_command_line.specs.WordReading.{value_in, text_in, if_small, small_number_in, small_number_at, number_at}
use Rattle.verb_command_line.proofs.NumberLemmas.{true-is_numeral, numbered}
use Rattle.verb_command_line.proofs.PairLemmas.{value-given, none-not, not-none, given-value, given-some}

-- a number within limits of 32 bits has 32 bits
small_number : (least most : ℕ) (word : Text) → IsWithin least most word → most < 2 ^ 32 → small_number_in word ≡ Some (number_of word)
small_number least most word w few =
    let below : number_of word < 2 ^ 32 = let b = w.below in omega (arith, b, few) in
    ap if_small (numbered word (true-is_numeral word w.numeral)) ∙ ap (λ t. if t then Some (number_of word) else None) (lt-ltb (number_of word) (2 ^ 32) below)

-- the value that is given fits its option
pub fits_given : (options : List Choice) (ps : List Given) (option value : Text) (k : OptionKind) → Each (IsLawful options) ps → Gives ps option value → kind_in options option ≡ Some k → Fits k value
fits_given options [] option value k each g known = absurd g
fits_given options (p ∷ ps) option value k each (inl here) known =
    let same : each.0.kind ≡ k = let both : Some each.0.kind ≡ Some k = sym each.0.known ∙ ap (λ o. kind_in options o) here.0 ∙ known in cc in
    subst (λ (w : Text). Fits k w) here.1 (subst (λ (j : OptionKind). Fits j p.value) same each.0.fits)
fits_given options (p ∷ ps) option value k each (inr more) known = fits_given options ps option value k each.1 more known

module _ (options : List Choice) (ps : List Given) (law : AreLawful options ps) where
  pub text_given : (option : Text) → IsGiven ps option → Gives ps option (text_in ps option)
  text_given option given =
      let found = given-some ps option given.0 given.1 in
      subst (λ (o : Option Text). Gives ps option (unwrap_or o [])) (sym found.1) (value-given ps option found.0 found.1)

  pub text_is : (option value : Text) → Gives ps option value → text_in ps option ≡ value
  text_is option value g = ap (λ o. unwrap_or o []) (given-value ps option value law.once g)

  small_is : (option value : Text) (least most : ℕ) → kind_in options option ≡ Some (kind.Number least most) → most < 2 ^ 32 → Gives ps option value →
      small_number_at ps option ≡ Some (number_of value)
  small_is option value least most known few g =
      ap (λ o. option_and_then small_number_in o) (given-value ps option value law.once g)
      ∙ small_number least most value (fits_given options ps option value (kind.Number least most) law.each g known) few

  pub number_given : (option : Text) (least most : ℕ) → kind_in options option ≡ Some (kind.Number least most) → most < 2 ^ 32 → IsGiven ps option → GivesNumber ps option (number_at ps option)
  number_given option least most known few given =
      record { value = given.0; given = given.1; is = sym (ap (λ o. unwrap_or o 0) (small_is option given.0 least most known few given.1)) }

  pub number_is : (option : Text) (number : ℕ) (least most : ℕ) → kind_in options option ≡ Some (kind.Number least most) → most < 2 ^ 32 → GivesNumber ps option number → number_at ps option ≡ number
  number_is option number least most known few g = ap (λ o. unwrap_or o 0) (small_is option g.value least most known few g.given) ∙ g.is

  pub may_given : (option : Text) (least most : ℕ) → kind_in options option ≡ Some (kind.Number least most) → most < 2 ^ 32 → MayGiveNumber ps option (small_number_at ps option)
  may_given option least most known few = by_value (value_in ps option) refl where
    by_value : (o : Option Text) → value_in ps option ≡ o → MayGiveNumber ps option (small_number_at ps option)
    by_value None is = subst (MayGiveNumber ps option) (sym (ap (λ o. option_and_then small_number_in o) is)) (none-not ps option is)
    by_value (Some v) is =
        let g = value-given ps option v is in
        subst (MayGiveNumber ps option) (sym (small_is option v least most known few g)) (record { value = v; given = g; is = refl })

  pub may_is : (option : Text) (number : Option ℕ) (least most : ℕ) → kind_in options option ≡ Some (kind.Number least most) → most < 2 ^ 32 → MayGiveNumber ps option number →
      small_number_at ps option ≡ number
  may_is option None least most known few none = ap (λ o. option_and_then small_number_in o) (not-none ps option none)
  may_is option (Some number) least most known few g = small_is option g.value least most known few g.given ∙ ap (λ n. Some n) g.is

-- the limits have 32 bits
pub deep : GREATEST_DEPTH < 2 ^ 32
deep = omega arith

pub numbered_case : GREATEST_CASE < 2 ^ 32
numbered_case = omega arith

pub sized : MOST_FAULTS < 2 ^ 32
sized = omega arith
