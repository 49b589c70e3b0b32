-- The names that a weave adds are words that are not reserved.
use Rattle.std.proofs.Common.{◌≡◌, ℕ, true, false, [], ◌∷◌, ◌++◌, Some, None, codes, refl, subst, sym, arith, append_assoc}
use Rattle.std.specs.Prelude.{◌==◌}
use Rattle.std.proofs.lemmas.Bool.Decides.{nat_tests}
use Rattle.smv_lexer.specs.Bytes.{is_word_start}
use Rattle.smv_lexer.specs.Runs.{Runs, takes_word}
use Rattle.smv_lexer.specs.Tokens.{IsWord}
use Rattle.smv_language.specs.Language.{Text, IsName}
use Rattle.fault_instructions.specs.AddedNames.{own_name, mode_variable, mode_symbol}
use Rattle.smv_language.proofs.WordLaws.{suffixed}

-- the bytes of a word run on after `#`
start_goes_on : (b : ℕ) (bs : Text) → is_word_start b ≡ true → takes_word (b ∷ bs) ≡ true
start_goes_on b bs h =
    let no_dash : (b == 45) ≡ false = grind (arith, nat_tests) in
    rw (h, no_dash) refl

word_runs : (x : Text) → IsWord x [] → Runs takes_word (35 ∷ x) []
word_runs [] h = absurd h
word_runs (b ∷ bs) h = (refl, (start_goes_on b (bs ++ []) h.0, h.1))

nominal_runs : Runs takes_word (codes "#nominal") []
nominal_runs = (refl, (refl, (refl, (refl, (refl, (refl, (refl, (refl, tt))))))))

mode_runs : Runs takes_word (codes "#mode") []
mode_runs = (refl, (refl, (refl, (refl, (refl, tt)))))

-- the name of the own value
pub own_is_name : (x : Text) → IsWord x [] → IsName (own_name x)
own_is_name x h = suffixed x (codes "nominal") h nominal_runs

-- the mode variable of a slice, and its symbols
pub mode_variable_is_name : (s : Text) → IsWord s [] → IsName (mode_variable s)
mode_variable_is_name s h = suffixed s (codes "mode") h mode_runs

pub nominal_is_name : (s : Text) → IsWord s [] → IsName (mode_symbol s None)
nominal_is_name s h = suffixed s (codes "nominal") h nominal_runs

pub symbol_is_name : (s mode : Text) → IsWord s [] → IsWord mode [] → IsName (mode_symbol s (Some mode))
symbol_is_name s mode h g = subst IsName (sym (append_assoc s (codes "#") mode)) (suffixed s mode h (word_runs mode g))
