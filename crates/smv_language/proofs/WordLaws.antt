-- A word with a suffix after `#` is a name, since no reserved word has a `#`.
use Rattle.std.proofs.Common.{◌≡◌, Bool, true, false, List, [], ◌∷◌, ◌++◌, refl}
use Rattle.smv_lexer.specs.Runs.{Runs, takes_word}
use Rattle.smv_language.specs.ProgramTree.{Text}
use Rattle.std.specs.Prelude.{not, nat_eq, ◌||◌}
use Rattle.std.specs.List.{list_all}
use Rattle.smv_lexer.specs.Tokens.{IsWord}
use Rattle.smv_language.specs.Texts.{same_text, is_among}
use Rattle.smv_language.specs.Lexemes.{is_reserved, section_words, expression_words, left_out_words}
use Rattle.smv_language.specs.PrintedTokens.{IsName}
use Rattle.std.proofs.lemmas.Bool.{and_parts as both_parts, and_right as no_more_texts, or_from as neither}
use Rattle.smv_lexer.proofs.SignLemmas.{not_true}

-- a word goes on with `#`, and with what a word goes on with after it
pub runs_on : (bs rest : Text) → Runs takes_word bs [] → Runs takes_word (35 ∷ rest) [] → Runs takes_word (bs ++ 35 ∷ rest) []
runs_on [] rest h more = more
runs_on (b ∷ []) rest h more = (h.0, more)
runs_on (b ∷ c ∷ bs) rest h more = (h.0, runs_on (c ∷ bs) rest h.1 more)

word_on : (x rest : Text) → IsWord x [] → Runs takes_word (35 ∷ rest) [] → IsWord (x ++ 35 ∷ rest) []
word_on [] rest h more = absurd h
word_on (b ∷ bs) rest h more = (h.0, runs_on bs rest h.1 more)

-- no reserved word has a `#`
abbrev no_hash : Text → Bool
no_hash bs = list_all (λ b. not (nat_eq b 35)) bs

hash_differs : (w x rest : Text) → no_hash w ≡ true → same_text w (x ++ 35 ∷ rest) ≡ false
hash_differs [] [] rest h = refl
hash_differs [] (c ∷ cs) rest h = refl
hash_differs (d ∷ ds) [] rest h = rw (not_true (nat_eq d 35) (both_parts (not (nat_eq d 35)) _ h).0) refl
hash_differs (d ∷ ds) (c ∷ cs) rest h = no_more_texts (nat_eq d c) _ (hash_differs ds cs rest (both_parts (not (nat_eq d 35)) _ h).1)

abbrev no_hashes : List Text → Bool
no_hashes ws = list_all no_hash ws

not_among : (ws : List Text) (x rest : Text) → no_hashes ws ≡ true → is_among ws (x ++ 35 ∷ rest) ≡ false
not_among [] x rest h = refl
not_among (w ∷ ws) x rest h =
    let parts = both_parts (no_hash w) (no_hashes ws) h in
    neither (same_text w (x ++ 35 ∷ rest)) (is_among ws (x ++ 35 ∷ rest)) (hash_differs w x rest parts.0) (not_among ws x rest parts.1)

without_hashes : (no_hashes section_words ≡ true) × (no_hashes expression_words ≡ true) × (no_hashes left_out_words ≡ true)
without_hashes = (refl, refl, refl)

not_reserved : (x rest : Text) → is_reserved (x ++ 35 ∷ rest) ≡ false
not_reserved x rest =
    let t : Text = x ++ 35 ∷ rest in
    let words = without_hashes in
    neither (is_among section_words t || is_among expression_words t) (is_among left_out_words t)
    (neither (is_among section_words t) (is_among expression_words t) (not_among section_words x rest words.0) (not_among expression_words x rest words.1))
    (not_among left_out_words x rest words.2)

-- a name with a suffix after `#` is a name
pub suffixed : (x rest : Text) → IsWord x [] → Runs takes_word (35 ∷ rest) [] → IsName (x ++ 35 ∷ rest)
suffixed x rest h more = (not_reserved x rest, word_on x rest h more)
