-- How far an expression reaches, one lexeme on.
use Rattle.std.proofs.Common.{◌≡◌, ℕ, ◌+◌, ◌<◌, ◌≤◌, Bool, true, false, List, [], ◌∷◌, ◌++◌, length, drop, take, get_or, refl, sym, ap, ◌∙◌, add-one, arith}
use Rattle.std.specs.Prelude.{◌||◌, nat_lt, max, if◌then◌else◌}
use Rattle.std.proofs.lemmas.List.{drop_more}
use Rattle.std.proofs.lemmas.Bool.Decides.{nat_tests}
use Rattle.base_values.specs.declared.limits.TheConstants.{MOST_NESTED}
use Rattle.smv_language.specs.Language.{Lexeme, Tree, Path, at_expr, Spells, nesting_of}
use Rattle.smv_expression_reader.specs.Recogniser.{State, stuck, step, run, role_of, is_stuck, is_whole, start}
use Rattle.smv_expression_reader.specs.Depth.{depth, peak}
use Rattle.smv_expression_reader.specs.Extents.{reach_of, is_deep, ends_whole}
use Rattle.smv_expression_reader.proofs.Accepted.{run_stuck, spelled_accepted}
use Rattle.smv_expression_reader.proofs.Peaks.{peak_nesting}
use Rattle.smv_expression_reader.specs.declared.machine.TokenRole.{TokenRole as Role}

pub reach_more : (st : State) (ts : List Lexeme) (i : ℕ) (d : Lexeme) → i < length ts →
    reach_of st (drop i ts) ≡ (if is_stuck (step st (role_of (get_or ts i d))) then 0 else reach_of (step st (role_of (get_or ts i d))) (drop (i + 1) ts) + 1)
reach_more st ts i d h = ap (reach_of st) (drop_more ts i d h)

pub deep_more : (st : State) (ts : List Lexeme) (i : ℕ) (d : Lexeme) → i < length ts →
    is_deep st (drop i ts) ≡ (if is_stuck (step st (role_of (get_or ts i d))) then false else (nat_lt MOST_NESTED (depth (step st (role_of (get_or ts i d)))) || is_deep (step st (role_of (get_or ts i d))) (drop (i + 1) ts)))
deep_more st ts i d h = ap (is_deep st) (drop_more ts i d h)

pub whole_more : (st : State) (ts : List Lexeme) (i : ℕ) (d : Lexeme) → i < length ts →
    ends_whole st (drop i ts) ≡ (if is_stuck (step st (role_of (get_or ts i d))) then is_whole st else ends_whole (step st (role_of (get_or ts i d))) (drop (i + 1) ts))
whole_more st ts i d h = ap (ends_whole st) (drop_more ts i d h)

stuck_run : (st : State) (ts : List Lexeme) → is_stuck st ≡ true → is_stuck (run st ts) ≡ true
stuck_run stuck ts h = ap is_stuck (run_stuck ts)
stuck_run st ts h = cc

-- a list that is reached whole goes on
pub all_reached : (st : State) (ts : List Lexeme) → is_stuck st ≡ false → length ts ≤ reach_of st ts → is_stuck (run st ts) ≡ false
all_reached st [] s h = s
all_reached st (t ∷ ts) s h = go (is_stuck (step st (role_of t))) refl h (all_reached (step st (role_of t)) ts)
  where
    go : (b : Bool) → is_stuck (step st (role_of t)) ≡ b → length (t ∷ ts) ≤ (if b then 0 else reach_of (step st (role_of t)) ts + 1) →
        (is_stuck (step st (role_of t)) ≡ false → length ts ≤ reach_of (step st (role_of t)) ts → is_stuck (run (step st (role_of t)) ts) ≡ false) → is_stuck (run (step st (role_of t)) ts) ≡ false
    go true e h rest = absurd (omega (arith, h))
    go false e h rest = rest e (omega (arith, h))

-- the lexemes that are reached go on
pub reached_goes_on : (st : State) (ts : List Lexeme) → is_stuck st ≡ false → is_stuck (run st (take (reach_of st ts) ts)) ≡ false
reached_goes_on st [] s = s
reached_goes_on st (t ∷ ts) s = go (is_stuck (step st (role_of t))) refl (reached_goes_on (step st (role_of t)) ts)
  where
    go : (b : Bool) → is_stuck (step st (role_of t)) ≡ b → (is_stuck (step st (role_of t)) ≡ false → is_stuck (run (step st (role_of t)) (take (reach_of (step st (role_of t)) ts) ts)) ≡ false) →
        is_stuck (run st (take (if b then 0 else reach_of (step st (role_of t)) ts + 1) (t ∷ ts))) ≡ false
    go true e rest = s
    go false e rest = rw add-one (rest e)

-- and with one more they do not
pub reached_stops : (st : State) (ts : List Lexeme) → reach_of st ts < length ts → is_stuck (run st (take (reach_of st ts + 1) ts)) ≡ true
reached_stops st [] h = absurd (omega (arith, h))
reached_stops st (t ∷ ts) h = go (is_stuck (step st (role_of t))) refl h (reached_stops (step st (role_of t)) ts)
  where
    go : (b : Bool) → is_stuck (step st (role_of t)) ≡ b → (if b then 0 else reach_of (step st (role_of t)) ts + 1) < length (t ∷ ts) →
        (reach_of (step st (role_of t)) ts < length ts → is_stuck (run (step st (role_of t)) (take (reach_of (step st (role_of t)) ts + 1) ts)) ≡ true) →
        is_stuck (run st (take ((if b then 0 else reach_of (step st (role_of t)) ts + 1) + 1) (t ∷ ts))) ≡ true
    go true e h rest = e
    go false e h rest = rw add-one (rest (omega (arith, h)))

-- the lexemes that are reached are whole where the last state is
pub reached_whole : (st : State) (ts : List Lexeme) → ends_whole st ts ≡ is_whole (run st (take (reach_of st ts) ts))
reached_whole st [] = refl
reached_whole st (t ∷ ts) = go (is_stuck (step st (role_of t))) refl (reached_whole (step st (role_of t)) ts)
  where
    go : (b : Bool) → is_stuck (step st (role_of t)) ≡ b → ends_whole (step st (role_of t)) ts ≡ is_whole (run (step st (role_of t)) (take (reach_of (step st (role_of t)) ts) ts)) →
        (if b then is_whole st else ends_whole (step st (role_of t)) ts) ≡ is_whole (run st (take (if b then 0 else reach_of (step st (role_of t)) ts + 1) (t ∷ ts)))
    go true e rest = refl
    go false e rest = rw add-one rest

-- and all of them where all are reached
pub all_whole : (st : State) (ts : List Lexeme) → length ts ≤ reach_of st ts → ends_whole st ts ≡ is_whole (run st ts)
all_whole st [] h = refl
all_whole st (t ∷ ts) h = go (is_stuck (step st (role_of t))) h (all_whole (step st (role_of t)) ts)
  where
    go : (b : Bool) → length (t ∷ ts) ≤ (if b then 0 else reach_of (step st (role_of t)) ts + 1) →
        (length ts ≤ reach_of (step st (role_of t)) ts → ends_whole (step st (role_of t)) ts ≡ is_whole (run (step st (role_of t)) ts)) →
        (if b then is_whole st else ends_whole (step st (role_of t)) ts) ≡ is_whole (run st (t ∷ ts))
    go true h rest = absurd (omega (arith, h))
    go false h rest = rest (omega (arith, h))

-- what stands before a list at which an expression ends: nothing, or a lexeme with which it does not go on
unfoldable pub Halts : State → List Lexeme → Type 0
Halts st [] = Unit {0}
Halts st (t ∷ ts) = is_stuck (step st (role_of t)) ≡ true

-- where the first list goes on and the second does not go on after it, all of the first is reached
pub reach_before : (st : State) (xs r : List Lexeme) → is_stuck (run st xs) ≡ false → Halts (run st xs) r → reach_of st (xs ++ r) ≡ length xs
unfolding Halts
reach_before st [] [] on halts = refl
reach_before st [] (t ∷ r) on halts = rw halts refl
reach_before st (x ∷ xs) r on halts = go (is_stuck (step st (role_of x))) refl (reach_before (step st (role_of x)) xs r on halts)
  where
    go : (b : Bool) → is_stuck (step st (role_of x)) ≡ b → reach_of (step st (role_of x)) (xs ++ r) ≡ length xs → (if b then 0 else reach_of (step st (role_of x)) (xs ++ r) + 1) ≡ length (x ∷ xs)
    go true e rest = let clash : true ≡ false = sym (stuck_run (step st (role_of x)) xs e) ∙ on in cc
    go false e rest = omega (arith, rest)

pub whole_before : (st : State) (xs r : List Lexeme) → is_stuck (run st xs) ≡ false → Halts (run st xs) r → ends_whole st (xs ++ r) ≡ is_whole (run st xs)
unfolding Halts
whole_before st [] [] on halts = refl
whole_before st [] (t ∷ r) on halts = rw halts refl
whole_before st (x ∷ xs) r on halts = go (is_stuck (step st (role_of x))) refl (whole_before (step st (role_of x)) xs r on halts)
  where
    go : (b : Bool) → is_stuck (step st (role_of x)) ≡ b → ends_whole (step st (role_of x)) (xs ++ r) ≡ is_whole (run (step st (role_of x)) xs) →
        (if b then is_whole st else ends_whole (step st (role_of x)) (xs ++ r)) ≡ is_whole (run st (x ∷ xs))
    go true e rest = let clash : true ≡ false = sym (stuck_run (step st (role_of x)) xs e) ∙ on in cc
    go false e rest = rest

pub deep_before : (st : State) (xs r : List Lexeme) → is_stuck (run st xs) ≡ false → Halts (run st xs) r → is_deep st (xs ++ r) ≡ is_deep st xs
unfolding Halts
deep_before st [] [] on halts = refl
deep_before st [] (t ∷ r) on halts = rw halts refl
deep_before st (x ∷ xs) r on halts = go (is_stuck (step st (role_of x))) refl (deep_before (step st (role_of x)) xs r on halts)
  where
    go : (b : Bool) → is_stuck (step st (role_of x)) ≡ b → is_deep (step st (role_of x)) (xs ++ r) ≡ is_deep (step st (role_of x)) xs →
        (if b then false else (nat_lt MOST_NESTED (depth (step st (role_of x))) || is_deep (step st (role_of x)) (xs ++ r))) ≡ (if b then false else (nat_lt MOST_NESTED (depth (step st (role_of x))) || is_deep (step st (role_of x)) xs))
    go true e rest = refl
    go false e rest = ap (λ b. nat_lt MOST_NESTED (depth (step st (role_of x))) || b) rest

peak_least : (s : State) (us : List Lexeme) → depth s ≤ peak s us
peak_least s [] = omega arith
peak_least s (u ∷ us) = omega arith

-- the groups that are open at once, counted as long as a list goes on
pub deep_peak : (st : State) (ts : List Lexeme) → is_stuck (run st ts) ≡ false → depth st ≤ MOST_NESTED → is_deep st ts ≡ nat_lt MOST_NESTED (peak st ts)
deep_peak st [] h low = grind (arith, nat_tests)
deep_peak st (t ∷ ts) h low = go (is_stuck (step st (role_of t))) refl (nat_lt MOST_NESTED (depth (step st (role_of t)))) refl (deep_peak (step st (role_of t)) ts h)
  where
    go : (b : Bool) → is_stuck (step st (role_of t)) ≡ b → (n : Bool) → nat_lt MOST_NESTED (depth (step st (role_of t))) ≡ n →
        (depth (step st (role_of t)) ≤ MOST_NESTED → is_deep (step st (role_of t)) ts ≡ nat_lt MOST_NESTED (peak (step st (role_of t)) ts)) →
        (if b then false else (n || is_deep (step st (role_of t)) ts)) ≡ nat_lt MOST_NESTED (max (depth st) (peak (step st (role_of t)) ts))
    go true e n f rest = let clash : true ≡ false = sym (stuck_run (step st (role_of t)) ts e) ∙ h in cc
    go false e true f rest = let high = peak_least (step st (role_of t)) ts in grind (arith, nat_tests, f, high)
    go false e false f rest = let small : depth (step st (role_of t)) ≤ MOST_NESTED = grind (arith, nat_tests, f) in rest small ∙ grind (arith, nat_tests, low)

-- an expression is too deep exactly where its parentheses are nested deeper than `MOST_NESTED`
pub deep_nesting : {ts : List Lexeme} {t : Tree Path} (p : Spells at_expr ts t) → is_deep start ts ≡ nat_lt MOST_NESTED (nesting_of p)
deep_nesting {ts} {t} p = deep_peak start ts (whole_runs (run start ts) (spelled_accepted p)) (omega arith) ∙ ap (nat_lt MOST_NESTED) (peak_nesting p)
  where
    whole_runs : (st : State) → is_whole st ≡ true → is_stuck st ≡ false
    whole_runs stuck e = cc
    whole_runs st e = refl

-- a list that stops at this lexeme
pub stops_deep : (st new : State) (ts : List Lexeme) (i : ℕ) (x : Lexeme) (r : Role) (deep : Bool) → i < length ts → x ≡ get_or ts i x → r ≡ role_of x → new ≡ step st r → is_stuck new ≡ true →
    is_deep start ts ≡ (deep || is_deep st (drop i ts)) → deep ≡ is_deep start ts
stops_deep st new ts i x r deep h is role path halts same =
    let here : is_stuck (step st (role_of (get_or ts i x))) ≡ true = ap (λ z. is_stuck (step st (role_of z))) (sym is) ∙ ap (λ z. is_stuck (step st z)) (sym role) ∙ ap is_stuck (sym path) ∙ halts in
    let none : is_deep st (drop i ts) ≡ false = deep_more st ts i x h ∙ ap (λ b. if b then false else (nat_lt MOST_NESTED (depth (step st (role_of (get_or ts i x)))) || is_deep (step st (role_of (get_or ts i x))) (drop (i + 1) ts))) here in
    sym (same ∙ ap (λ b. deep || b) none ∙ or_false deep)
  where
    or_false : (b : Bool) → (b || false) ≡ b
    or_false true = refl
    or_false false = refl

pub stops_whole : (st new : State) (ts : List Lexeme) (i : ℕ) (x : Lexeme) (whole : Bool) (r : Role) → i < length ts → x ≡ get_or ts i x → r ≡ role_of x → new ≡ step st r → is_stuck new ≡ true →
    ends_whole start ts ≡ ends_whole st (drop i ts) → whole ≡ is_whole st → whole ≡ ends_whole start ts
stops_whole st new ts i x whole r h is role path halts same here =
    let stops : is_stuck (step st (role_of (get_or ts i x))) ≡ true = ap (λ z. is_stuck (step st (role_of z))) (sym is) ∙ ap (λ z. is_stuck (step st z)) (sym role) ∙ ap is_stuck (sym path) ∙ halts in
    sym (same ∙ whole_more st ts i x h ∙ ap (λ b. if b then is_whole st else ends_whole (step st (role_of (get_or ts i x))) (drop (i + 1) ts)) stops ∙ sym here)
