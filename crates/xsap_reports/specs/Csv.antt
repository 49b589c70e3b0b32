-- Comma-separated values: how a table of sets is written, and how any such table is read (RFC 4180, with line feeds).
use Rattle.std.specs.Prelude.{ℕ, suc, nat_eq, cond, Bool, ◌||◌, List, [], ◌∷◌, ◌++◌, map, codes, length}
use Rattle.std.specs.List.{list_any}
use Rattle.std.specs.Fmt.{decimal}

-- a quote, comma, line feed or carriage return: a field with one of them stands in quotes
abbrev pub is_special : ℕ → Bool
is_special b = nat_eq b 34 || (nat_eq b 44 || (nat_eq b 10 || nat_eq b 13))

-- a byte in quotes: a quote stands twice
abbrev pub quoted_byte : ℕ → List ℕ
quoted_byte b = cond (nat_eq b 34) (34 ∷ 34 ∷ []) (b ∷ [])

abbrev pub quoted : List ℕ → List ℕ
quoted [] = []
quoted (b ∷ bs) = quoted_byte b ++ quoted bs

abbrev pub field : List ℕ → List ℕ
field bytes = cond (list_any is_special bytes) (34 ∷ (quoted bytes ++ 34 ∷ [])) bytes

-- each name after a space
abbrev pub spaced : List (List ℕ) → List ℕ
spaced [] = []
spaced (n ∷ ns) = codes " " ++ (n ++ spaced ns)

-- names with a space between them
abbrev pub joined : List (List ℕ) → List ℕ
joined [] = []
joined (n ∷ ns) = n ++ spaced ns

-- the row of a set of names: its number, how many they are, and they themselves
abbrev pub row : ℕ → List (List ℕ) → List ℕ
row n names = decimal n ++ (codes "," ++ (decimal (length names) ++ (codes "," ++ (field (joined names) ++ codes "\n"))))

-- rows, numbered from this one on
abbrev pub rows : ℕ → List (List (List ℕ)) → List ℕ
rows n [] = []
rows n (set ∷ sets) = row n set ++ rows (suc n) sets

abbrev pub csv_text : List (List (List ℕ)) → List ℕ
csv_text sets = codes "set,size,faults\n" ++ rows 1 sets

-- where a reader is: outside of quotes, inside, or behind a quote that closes or is the first of two
pub data Place : Type 0 where
  outside : Place
  inside : Place
  closing : Place

-- the records at the end of a text: the one begun, if any of it is there
abbrev pub last_record : List ℕ → List (List ℕ) → List (List (List ℕ))
last_record [] [] = []
last_record [] (f ∷ fs) = ((f ∷ fs) ++ [] ∷ []) ∷ []
last_record (b ∷ bs) fs = (fs ++ (b ∷ bs) ∷ []) ∷ []

-- the records of what is left, where so much of a field and these fields of a record were read
abbrev pub records_from : Place → List ℕ → List (List ℕ) → List ℕ → List (List (List ℕ))
records_from outside f fs [] = last_record f fs
records_from inside f fs [] = last_record f fs
records_from closing f fs [] = last_record f fs
records_from outside f fs (b ∷ bs) =
    cond (nat_eq b 34) (records_from inside f fs bs)
    (cond (nat_eq b 44) (records_from outside [] (fs ++ f ∷ []) bs)
    (cond (nat_eq b 10) ((fs ++ f ∷ []) ∷ records_from outside [] [] bs) (records_from outside (f ++ b ∷ []) fs bs)))
records_from inside f fs (b ∷ bs) = cond (nat_eq b 34) (records_from closing f fs bs) (records_from inside (f ++ b ∷ []) fs bs)
records_from closing f fs (b ∷ bs) =
    cond (nat_eq b 34) (records_from inside (f ++ b ∷ []) fs bs)
    (cond (nat_eq b 44) (records_from outside [] (fs ++ f ∷ []) bs)
    (cond (nat_eq b 10) ((fs ++ f ∷ []) ∷ records_from outside [] [] bs) (records_from outside (f ++ b ∷ []) fs bs)))

-- the records of a text, each with its fields
abbrev pub records : List ℕ → List (List (List ℕ))
records bytes = records_from outside [] [] bytes

-- a word before others, where it has a byte
abbrev pub word_before : List ℕ → List (List ℕ) → List (List ℕ)
word_before [] more = more
word_before (b ∷ bs) more = (b ∷ bs) ∷ more

-- the words of a text that spaces part, where so much of the first was read
abbrev pub words_from : List ℕ → List ℕ → List (List ℕ)
words_from w [] = word_before w []
words_from w (b ∷ bs) = cond (nat_eq b 32) (word_before w (words_from [] bs)) (words_from (w ++ b ∷ []) bs)

-- the words of a record's third field
abbrev pub third_words : List (List ℕ) → List (List ℕ)
third_words [] = []
third_words (a ∷ []) = []
third_words (a ∷ b ∷ []) = []
third_words (a ∷ b ∷ c ∷ more) = words_from [] c

-- what follows the first one
abbrev pub behind_head : List (List (List ℕ)) → List (List (List ℕ))
behind_head [] = []
behind_head (head ∷ more) = more

-- the sets of names that a table tells
abbrev pub sets_read : List ℕ → List (List (List ℕ))
sets_read bytes = map third_words (behind_head (records bytes))
