-- How far an expression reaches that a list begins with.
use Rattle.std.specs.Prelude.{ℕ, ◌+◌, Bool, false, List, [], ◌∷◌, ◌||◌, nat_lt, if◌then◌else◌}
use Rattle.base_values.specs.declared.limits.TheConstants.{MOST_NESTED}
use Rattle.smv_language.specs.Lexemes.{Lexeme}
use Rattle.smv_expression_reader.specs.Recogniser.{State, step, role_of, is_stuck, is_whole}
use Rattle.smv_expression_reader.specs.Depth.{depth}

-- how many lexemes there are before the first with which no list goes on
abbrev pub reach_of : State → List Lexeme → ℕ
reach_of st [] = 0
reach_of st (t ∷ ts) = if is_stuck (step st (role_of t)) then 0 else reach_of (step st (role_of t)) ts + 1

-- whether more than `MOST_NESTED` groups are open at once before that lexeme
abbrev pub is_deep : State → List Lexeme → Bool
is_deep st [] = false
is_deep st (t ∷ ts) =
    if is_stuck (step st (role_of t)) then false else (nat_lt MOST_NESTED (depth (step st (role_of t))) || is_deep (step st (role_of t)) ts)

-- whether what stands before that lexeme is whole
abbrev pub ends_whole : State → List Lexeme → Bool
ends_whole st [] = is_whole st
ends_whole st (t ∷ ts) = if is_stuck (step st (role_of t)) then is_whole st else ends_whole (step st (role_of t)) ts
