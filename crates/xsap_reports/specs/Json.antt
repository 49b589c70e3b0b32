-- JSON (RFC 8259): the tokens of a text in ASCII, and what stands in lists and under the names of objects.
use Rattle.std.specs.Prelude.{ℕ, zero, suc, ◌+◌, ◌*◌, ◌-◌, nat_eq, nat_lt, cond, Bool, false, ◌||◌, ◌&&◌, List, [], ◌∷◌, ◌++◌, map, codes}
use Rattle.std.specs.Str.{bytes_eq}
use Rattle.xsap_reports.specs.Blanks.{is_blank}

-- a sign of the six, a string by its characters, and a number, `true`, `false` or `null` by its bytes
pub data Token : Type 0 where
  sign : ℕ → Token
  string : List ℕ → Token
  plain : List ℕ → Token

-- `{` or `[`
abbrev pub opens : ℕ → Bool
opens b = nat_eq b 123 || nat_eq b 91

-- `}` or `]`
abbrev pub closes : ℕ → Bool
closes b = nat_eq b 125 || nat_eq b 93

-- one of these, a comma or a colon
abbrev pub is_sign : ℕ → Bool
is_sign b = opens b || (closes b || (nat_eq b 44 || nat_eq b 58))

-- the character of a letter behind a backslash; a quote, a backslash and a slash stand for themselves
abbrev pub unescaped : ℕ → ℕ
unescaped b = cond (nat_eq b 98) 8 (cond (nat_eq b 102) 12 (cond (nat_eq b 110) 10 (cond (nat_eq b 114) 13 (cond (nat_eq b 116) 9 b))))

-- the value of a hexadecimal digit
abbrev pub digit_value : ℕ → ℕ
digit_value b = cond (nat_lt b 58) (b - 48) (cond (nat_lt b 97) (b - 55) (b - 87))

-- where a reader is: between tokens, in a plain one, in a string, behind a backslash there, or before so many further digits of `\u`
pub data Place : Type 0 where
  between : Place
  within : Place
  inside : Place
  behind : Place
  before : ℕ → ℕ → Place

-- the tokens of what is left, where so much of a token was read
abbrev pub tokens_from : Place → List ℕ → List ℕ → List Token
tokens_from between t [] = []
tokens_from within t [] = plain t ∷ []
tokens_from inside t [] = []
tokens_from behind t [] = []
tokens_from (before k v) t [] = []
tokens_from between t (b ∷ bs) =
    cond (nat_eq b 34) (tokens_from inside [] bs)
    (cond (is_blank b) (tokens_from between [] bs)
    (cond (is_sign b) (sign b ∷ tokens_from between [] bs) (tokens_from within (b ∷ []) bs)))
tokens_from within t (b ∷ bs) =
    cond (nat_eq b 34) (plain t ∷ tokens_from inside [] bs)
    (cond (is_blank b) (plain t ∷ tokens_from between [] bs)
    (cond (is_sign b) (plain t ∷ sign b ∷ tokens_from between [] bs) (tokens_from within (t ++ b ∷ []) bs)))
tokens_from inside t (b ∷ bs) =
    cond (nat_eq b 34) (string t ∷ tokens_from between [] bs)
    (cond (nat_eq b 92) (tokens_from behind t bs) (tokens_from inside (t ++ b ∷ []) bs))
tokens_from behind t (b ∷ bs) = cond (nat_eq b 117) (tokens_from (before 3 0) t bs) (tokens_from inside (t ++ unescaped b ∷ []) bs)
tokens_from (before zero v) t (b ∷ bs) = tokens_from inside (t ++ (v * 16 + digit_value b) ∷ []) bs
tokens_from (before (suc k) v) t (b ∷ bs) = tokens_from (before k (v * 16 + digit_value b)) t bs

abbrev pub tokens : List ℕ → List Token
tokens bytes = tokens_from between [] bytes

-- a list of at most one item, the one begun
abbrev pub last_item : List Token → List (List Token)
last_item [] = []
last_item (t ∷ ts) = (t ∷ ts) ∷ []

-- the items of a list that is read, so deep inside of an item, of which these tokens were read
abbrev pub items_from : ℕ → List Token → List Token → List (List Token)
items_from d e [] = []
items_from d e (string s ∷ ts) = items_from d (e ++ string s ∷ []) ts
items_from d e (plain w ∷ ts) = items_from d (e ++ plain w ∷ []) ts
items_from zero e (sign b ∷ ts) =
    cond (opens b) (items_from 1 (e ++ sign b ∷ []) ts)
    (cond (closes b) (last_item e)
    (cond (nat_eq b 44) (e ∷ items_from 0 [] ts) (items_from 0 (e ++ sign b ∷ []) ts)))
items_from (suc d) e (sign b ∷ ts) =
    cond (opens b) (items_from (suc (suc d)) (e ++ sign b ∷ []) ts)
    (cond (closes b) (items_from d (e ++ sign b ∷ []) ts) (items_from (suc d) (e ++ sign b ∷ []) ts))

-- the items of a list, each by its tokens
abbrev pub items : List Token → List (List Token)
items [] = []
items (string s ∷ ts) = []
items (plain w ∷ ts) = []
items (sign b ∷ ts) = cond (nat_eq b 91) (items_from 0 [] ts) []

abbrev pub begins_with_colon : List Token → Bool
begins_with_colon [] = false
begins_with_colon (string s ∷ ts) = false
begins_with_colon (plain w ∷ ts) = false
begins_with_colon (sign b ∷ ts) = nat_eq b 58

abbrev pub behind_first : List Token → List Token
behind_first [] = []
behind_first (t ∷ ts) = ts

-- what stands under the name from here on in an object, so deep inside of a member
abbrev pub member_from : List ℕ → ℕ → List Token → List Token
member_from name d [] = []
member_from name d (plain w ∷ ts) = member_from name d ts
member_from name zero (string s ∷ ts) = cond (bytes_eq s name && begins_with_colon ts) (behind_first ts) (member_from name 0 ts)
member_from name (suc d) (string s ∷ ts) = member_from name (suc d) ts
member_from name zero (sign b ∷ ts) = cond (opens b) (member_from name 1 ts) (cond (closes b) [] (member_from name 0 ts))
member_from name (suc d) (sign b ∷ ts) =
    cond (opens b) (member_from name (suc (suc d)) ts) (cond (closes b) (member_from name d ts) (member_from name (suc d) ts))

-- what stands first under the name in an object, and all behind it
abbrev pub member : List ℕ → List Token → List Token
member name [] = []
member name (string s ∷ ts) = []
member name (plain w ∷ ts) = []
member name (sign b ∷ ts) = cond (nat_eq b 123) (member_from name 0 ts) []

-- the characters of a string
abbrev pub characters : List Token → List ℕ
characters [] = []
characters (string s ∷ ts) = s
characters (plain w ∷ ts) = []
characters (sign b ∷ ts) = []

-- the strings of the list under `names` in an object
abbrev pub names_of : List Token → List (List ℕ)
names_of object = map characters (items (member (codes "names") object))

-- of a text, which is an object, those of each object in the list under `sets`
abbrev pub sets_in_json : List ℕ → List (List (List ℕ))
sets_in_json bytes = map names_of (items (member (codes "sets") (tokens bytes)))
