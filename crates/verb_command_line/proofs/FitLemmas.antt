-- Whether a word fits an option.
use Rattle.std.proofs.Common.{◌≡◌, ℕ, true, List, ap, ◌∙◌, refl}
use Rattle.std.proofs.lemmas.Bool.{and_from, le-leb}
use Rattle.verb_command_line.specs.declared.choice.OptionKind.{OptionKind}
use Rattle.verb_command_line.specs.declared.choice.OptionKind.TheVariants as kind
use Rattle.verb_command_line.specs.Table.{Fits}
use Rattle.verb_command_line.specs.WordReading.{is_numeral, is_within, fits}
use Rattle.verb_command_line.proofs.NumberLemmas.{within_by, numbered, true-is_numeral}
use Rattle.verb_command_line.proofs.SetLemmas.{set-sound, set-complete, claim-sound, claim-complete}

-- the test of a value says whether it fits
pub fits-Fits : (k : OptionKind) (word : List ℕ) → fits k word ≡ true → Fits k word
fits-Fits kind.File word e = tt
fits-Fits kind.Event word e = tt
fits-Fits (kind.Number least most) word e = within_by least most word (is_numeral word) refl e
fits-Fits kind.Set word e = set-sound word e
fits-Fits kind.Claim word e = claim-sound word e

pub Fits-fits : (k : OptionKind) (word : List ℕ) → Fits k word → fits k word ≡ true
Fits-fits kind.File word f = refl
Fits-fits kind.Event word f = refl
Fits-fits (kind.Number least most) word f =
    ap (is_within least most) (numbered word (true-is_numeral word f.numeral)) ∙ and_from _ _ (le-leb _ _ f.above) (le-leb _ _ f.below)
Fits-fits kind.Set word f = set-complete word f
Fits-fits kind.Claim word f = claim-complete word f
