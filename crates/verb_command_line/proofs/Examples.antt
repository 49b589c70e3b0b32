-- What the definitions give for a few words.
use Rattle.std.proofs.Common.{◌≡◌, [], ◌∷◌, refl, codes}
use Rattle.verb_command_line.specs.declared.fault.WordFault.TheVariants as fault
use Rattle.verb_command_line.specs.declared.verb.Verb.TheVariants as verb
use Rattle.verb_command_line.specs.Commands.{extend, odds}
use Rattle.verb_command_line.specs.Sets.{number_of, numbers_of}
use Rattle.verb_command_line.specs.Table.{options_of}
use Rattle.verb_command_line.specs.Meaning.{Means, BreaksFirst, no_verb, an_option, no_value}
use Rattle.verb_command_line.proofs.SoundLemmas.{lawful_none}
use Rattle.verb_command_line.proofs.ReadingLaws.{read_means, read_breaks}

-- zeros before a number count for nothing
leading_zeros : number_of (codes "0000000002") ≡ 2
leading_zeros = refl

-- the numbers of a set
numbers_of_set : numbers_of (codes "2 10 256") ≡ 2 ∷ 10 ∷ 256 ∷ []
numbers_of_set = refl

-- the options may stand in any order, and a value may look like an option
any_order : Means (codes "extend" ∷ codes "--faults" ∷ codes "--model" ∷ codes "--extended" ∷ codes "x" ∷ codes "--model" ∷ codes "m" ∷ []) (extend (codes "m") (codes "--model") (codes "x"))
any_order = read_means _ _ refl

-- no words at all
no_words : BreaksFirst [] 1 0
no_words = no_verb refl

-- an option at the end has no value
no_value_follows : BreaksFirst (codes "extend" ∷ codes "--model" ∷ []) 6 2
no_value_follows = an_option verb.Extend (codes "--model" ∷ []) 6 2 refl (no_value [] (codes "--model") _ refl (lawful_none (options_of verb.Extend)) refl tt)

-- the option comes twice: told at its second place
model_twice : BreaksFirst (codes "extend" ∷ codes "--model" ∷ codes "m" ∷ codes "--model" ∷ codes "n" ∷ []) 4 4
model_twice = read_breaks _ (fault.Twice 4) refl

-- the third option of the verb is missing
extended_missing : BreaksFirst (codes "extend" ∷ codes "--model" ∷ codes "m" ∷ codes "--faults" ∷ codes "f" ∷ []) 5 3
extended_missing = read_breaks _ (fault.Missing 3) refl

-- of two equal names the later is told
same_names : BreaksFirst (codes "extend" ∷ codes "--model" ∷ codes "a" ∷ codes "--faults" ∷ codes "b" ∷ codes "--extended" ∷ codes "a" ∷ []) 8 7
same_names = read_breaks _ (fault.SameName 7) refl

-- a bad number is told before missing options
three_is_too_big : BreaksFirst (codes "fmea" ∷ codes "--size" ∷ codes "3" ∷ []) 7 3
three_is_too_big = read_breaks _ (fault.BadNumber 3) refl

-- the same of the options of another verb
odds_in_any_order : Means (codes "odds" ∷ codes "--depth" ∷ codes "4" ∷ codes "--top" ∷ codes "t" ∷ codes "--faults" ∷ codes "f" ∷ codes "--model" ∷ codes "m" ∷ []) (odds (codes "m") (codes "f") (codes "t") 4)
odds_in_any_order = read_means _ _ refl

-- a set of one number is none
one_number : BreaksFirst (codes "orders" ∷ codes "--set" ∷ codes "1" ∷ []) 7 3
one_number = read_breaks _ (fault.BadNumber 3) refl

-- numbers that do not rise are no set
falling : BreaksFirst (codes "orders" ∷ codes "--set" ∷ codes "2 1" ∷ []) 7 3
falling = read_breaks _ (fault.BadNumber 3) refl

-- the third option of the verb is missing
top_missing : BreaksFirst (codes "odds" ∷ codes "--model" ∷ codes "m" ∷ codes "--faults" ∷ codes "f" ∷ []) 5 3
top_missing = read_breaks _ (fault.Missing 3) refl

-- a fault that is not in its set is told after all else
outside_its_set : BreaksFirst (codes "orders" ∷ codes "--model" ∷ codes "m" ∷ codes "--faults" ∷ codes "f" ∷ codes "--top" ∷ codes "t" ∷ codes "--set" ∷ codes "1 3" ∷ codes "--first" ∷ codes "1"
    ∷ codes "--second" ∷ codes "2" ∷ codes "--depth" ∷ codes "4" ∷ codes "--cert" ∷ codes "c" ∷ []) 9 13
outside_its_set = read_breaks _ (fault.NotInSet 13) refl
