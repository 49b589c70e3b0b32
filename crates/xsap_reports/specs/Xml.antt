-- XML, as far as elements, attributes and characters: the tokens of a text, and what stands among them. Declarations, comments and
-- instructions are passed over up to their first `>`; of the references only the five that XML names are known.
use Rattle.std.specs.Prelude.{ℕ, nat_eq, cond, true, false, ◌||◌, ◌&&◌, List, [], ◌∷◌, ◌++◌, codes}
use Rattle.std.specs.Str.{bytes_eq}
use Rattle.xsap_reports.specs.Blanks.{is_blank}

-- a start tag with its name and attributes, an end tag with its name, and the characters between two tags; `<a/>` is both tags
pub data Token : Type 0 where
  start : List ℕ → List (List ℕ × List ℕ) → Token
  end : List ℕ → Token
  letters : List ℕ → Token

-- the character of a reference by its name; of another name none
abbrev pub referred : List ℕ → List ℕ
referred name =
    cond (bytes_eq name (codes "amp")) (38 ∷ [])
    (cond (bytes_eq name (codes "lt")) (60 ∷ [])
    (cond (bytes_eq name (codes "gt")) (62
    ∷ []) (cond (bytes_eq name (codes "quot")) (34 ∷ []) (cond (bytes_eq name (codes "apos")) (39 ∷ []) []))))

-- where a reader is: between tags, in a reference there, behind a `<`, in an end tag, in a declaration, in the name of a start tag; and in
-- a start tag of this name with these attributes between them, in the name of one, behind its sign, in its value, in a reference there, or
-- behind a `/`
pub data Place : Type 0 where
  outside : Place
  reference : List ℕ → Place
  opening : Place
  closing : Place
  passing : Place
  naming : Place
  within : List ℕ → List (List ℕ × List ℕ) → Place
  attribute : List ℕ → List (List ℕ × List ℕ) → Place
  before : List ℕ → List (List ℕ × List ℕ) → List ℕ → Place
  value : List ℕ → List (List ℕ × List ℕ) → List ℕ → Place
  value_reference : List ℕ → List (List ℕ × List ℕ) → List ℕ → List ℕ → Place
  empty : List ℕ → List (List ℕ × List ℕ) → Place

-- the tokens of what is left, where so much of a token was read
abbrev pub tokens_from : Place → List ℕ → List ℕ → List Token
tokens_from outside t [] = []
tokens_from (reference r) t [] = []
tokens_from opening t [] = []
tokens_from closing t [] = []
tokens_from passing t [] = []
tokens_from naming t [] = []
tokens_from (within n xs) t [] = []
tokens_from (attribute n xs) t [] = []
tokens_from (before n xs a) t [] = []
tokens_from (value n xs a) t [] = []
tokens_from (value_reference n xs a v) t [] = []
tokens_from (empty n xs) t [] = []
tokens_from outside t (b ∷ bs) =
    cond (nat_eq b 60) (letters t ∷ tokens_from opening [] bs)
    (cond (nat_eq b 38) (tokens_from (reference t) [] bs) (tokens_from outside (t ++ b ∷ []) bs))
tokens_from (reference r) t (b ∷ bs) =
    cond (nat_eq b 59) (tokens_from outside (r ++ referred t) bs) (tokens_from (reference r) (t ++ b ∷ []) bs)
tokens_from opening t (b ∷ bs) =
    cond (nat_eq b 47) (tokens_from closing [] bs) (cond (nat_eq b 63
    || nat_eq b 33) (tokens_from passing [] bs) (tokens_from naming (b ∷ []) bs))
tokens_from closing t (b ∷ bs) = cond (nat_eq b 62) (end t ∷ tokens_from outside [] bs) (tokens_from closing (t ++ b ∷ []) bs)
tokens_from passing t (b ∷ bs) = cond (nat_eq b 62) (tokens_from outside [] bs) (tokens_from passing [] bs)
tokens_from naming t (b ∷ bs) =
    cond (nat_eq b 62) (start t [] ∷ tokens_from outside [] bs)
    (cond (nat_eq b 47) (tokens_from (empty t []) [] bs) (cond (is_blank b) (tokens_from (within t []) [] bs) (tokens_from naming (t ++ b
    ∷ []) bs)))
tokens_from (within n xs) t (b ∷ bs) =
    cond (nat_eq b 62) (start n xs ∷ tokens_from outside [] bs)
    (cond (nat_eq b 47) (tokens_from (empty n xs) [] bs)
    (cond (is_blank b) (tokens_from (within n xs) [] bs) (tokens_from (attribute n xs) (b ∷ []) bs)))
tokens_from (attribute n xs) t (b ∷ bs) =
    cond (nat_eq b 61) (tokens_from (before n xs t) [] bs) (tokens_from (attribute n xs) (t ++ b ∷ []) bs)
tokens_from (before n xs a) t (b ∷ bs) = cond (nat_eq b 34) (tokens_from (value n xs a) [] bs) (tokens_from (before n xs a) [] bs)
tokens_from (value n xs a) t (b ∷ bs) =
    cond (nat_eq b 34) (tokens_from (within n (xs ++ (a, t) ∷ [])) [] bs)
    (cond (nat_eq b 38) (tokens_from (value_reference n xs a t) [] bs) (tokens_from (value n xs a) (t ++ b ∷ []) bs))
tokens_from (value_reference n xs a v) t (b ∷ bs) =
    cond (nat_eq b 59) (tokens_from (value n xs a) (v ++ referred t) bs) (tokens_from (value_reference n xs a v) (t ++ b ∷ []) bs)
tokens_from (empty n xs) t (b ∷ bs) = cond (nat_eq b 62) (start n xs ∷ end n ∷ tokens_from outside [] bs) (tokens_from (empty n xs) [] bs)

abbrev pub tokens : List ℕ → List Token
tokens bytes = tokens_from outside [] bytes

-- the value of the attribute of this name; where there is none, nothing
abbrev pub attribute_of : List ℕ → List (List ℕ × List ℕ) → List ℕ
attribute_of name [] = []
attribute_of name (a ∷ xs) = cond (bytes_eq a.0 name) a.1 (attribute_of name xs)

-- what stands behind the first start tag of this name whose attribute `name` has this value
abbrev pub behind_start : List ℕ → List ℕ → List Token → List Token
behind_start element name [] = []
behind_start element name (end n ∷ ts) = behind_start element name ts
behind_start element name (letters t ∷ ts) = behind_start element name ts
behind_start element name (start n xs ∷ ts) =
    cond (bytes_eq n element && bytes_eq (attribute_of (codes "name") xs) name) ts (behind_start element name ts)
