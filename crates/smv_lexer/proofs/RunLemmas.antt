-- Runs of bytes, step by step.
use Rattle.std.proofs.Common.{◌≡◌, ℕ, ◌+◌, ◌*◌, ◌-◌, ◌≤◌, ◌<◌, Bool, true, false, cond, List, [], ◌∷◌, ◌++◌, length, get_or, take, drop, Option, Some, None, sym, ap, ◌∙◌, refl, arith, add-one, drop-cons}
use Rattle.std.proofs.lemmas.List.{drop_all, take-append-drop}
use Rattle.std.specs.Option.{option_map}
use Rattle.std.specs.List.{starts_with}
use Rattle.std.specs.Prelude.{codes, nat_eq}
use Rattle.smv_lexer.specs.Runs.{Runs, run_len, block_len, number_from, takes_digit}

run_len_cons : (test : List ℕ → Bool) (b : ℕ) (bs : List ℕ) → test (b ∷ bs) ≡ true → run_len test (b ∷ bs) ≡ run_len test bs + 1
run_len_cons test b bs passes = rw passes refl

run_len_stop_cons : (test : List ℕ → Bool) (bytes : List ℕ) → test bytes ≡ false → run_len test bytes ≡ 0
run_len_stop_cons test [] stops = refl
run_len_stop_cons test (b ∷ bs) stops = rw stops refl

-- the first byte that passes is one of the run
pub run_len-drop : (test : List ℕ → Bool) (i : ℕ) (bytes : List ℕ) → i < length bytes → test (drop i bytes) ≡ true → run_len test (drop i bytes) ≡ run_len test (drop (i + 1) bytes) + 1
run_len-drop test i bytes within passes =
    let cut : drop i bytes ≡ get_or bytes i 0 ∷ drop (i + 1) bytes = rw add-one (drop-cons bytes i 0 within) in
    ap (run_len test) cut ∙ run_len_cons test (get_or bytes i 0) (drop (i + 1) bytes) (ap test (sym cut) ∙ passes)

-- where the first byte doesn't pass, the run is empty
pub run_len-stop : (test : List ℕ → Bool) (i : ℕ) (bytes : List ℕ) → test (drop i bytes) ≡ false → run_len test (drop i bytes) ≡ 0
run_len-stop test i bytes stops = run_len_stop_cons test (drop i bytes) stops

pub run_len-end : (test : List ℕ → Bool) (i : ℕ) (bytes : List ℕ) → length bytes ≤ i → run_len test (drop i bytes) ≡ 0
run_len-end test i bytes past = ap (run_len test) (drop_all i bytes past)

pub ruleset run_steps = (run_len-drop, run_len-stop, run_len-end)

-- the bytes before a place, and those up to an end behind it
abbrev pub end_from : ℕ → Option ℕ → Option ℕ
end_from i len = option_map (λ n. i + n) len

end_from-more : (i : ℕ) (len : Option ℕ) → end_from i (option_map (λ n. n + 1) len) ≡ end_from (i + 1) len
end_from-more i None = refl
end_from-more i (Some n) = ap (λ k. Some k) (omega arith)

block_len_more_cons : (b : ℕ) (bs : List ℕ) (i : ℕ) → starts_with nat_eq (b ∷ bs) (codes "--/") ≡ false → end_from i (block_len (b ∷ bs)) ≡ end_from (i + 1) (block_len bs)
block_len_more_cons b bs i no_end = rw no_end (end_from-more i (block_len bs))

-- where no end begins, the first end is behind the next byte
pub block_len-drop : (i : ℕ) (bytes : List ℕ) → i < length bytes → starts_with nat_eq (drop i bytes) (codes "--/") ≡ false → end_from i (block_len (drop i bytes)) ≡ end_from (i + 1) (block_len (drop (i + 1) bytes))
block_len-drop i bytes within no_end =
    let cut : drop i bytes ≡ get_or bytes i 0 ∷ drop (i + 1) bytes = rw add-one (drop-cons bytes i 0 within) in
    ap (λ bs. end_from i (block_len bs)) cut ∙ block_len_more_cons (get_or bytes i 0) (drop (i + 1) bytes) i (ap (λ bs. starts_with nat_eq bs (codes "--/")) (sym cut) ∙ no_end)

block_len_here_cons : (b : ℕ) (bs : List ℕ) (i : ℕ) → starts_with nat_eq (b ∷ bs) (codes "--/") ≡ true → end_from i (block_len (b ∷ bs)) ≡ Some (i + 3)
block_len_here_cons b bs i here = rw here refl

-- where an end begins, it is the first
pub block_len-here : (i : ℕ) (bytes : List ℕ) → i < length bytes → starts_with nat_eq (drop i bytes) (codes "--/") ≡ true → end_from i (block_len (drop i bytes)) ≡ Some (i + 3)
block_len-here i bytes within here =
    let cut : drop i bytes ≡ get_or bytes i 0 ∷ drop (i + 1) bytes = rw add-one (drop-cons bytes i 0 within) in
    ap (λ bs. end_from i (block_len bs)) cut ∙ block_len_here_cons (get_or bytes i 0) (drop (i + 1) bytes) i (ap (λ bs. starts_with nat_eq bs (codes "--/")) (sym cut) ∙ here)

pub block_len-end : (i : ℕ) (bytes : List ℕ) → length bytes ≤ i → end_from i (block_len (drop i bytes)) ≡ None
block_len-end i bytes past = ap (λ bs. end_from i (block_len bs)) (drop_all i bytes past)

pub end_from-none : (len : Option ℕ) → len ≡ end_from 0 len
end_from-none None = refl
end_from-none (Some n) = ap (λ k. Some k) (omega arith)

pub ruleset block_steps = (block_len-drop, block_len-here, block_len-end, end_from-none)

-- more digits make no smaller number
pub number_from-grows : (value : ℕ) (bytes : List ℕ) → value ≤ number_from value bytes
number_from-grows value [] = omega arith
number_from-grows value (b ∷ bs) = omega (arith, number_from-grows (value * 10 + (b - 48)) bs)

-- the first digit is read
pub number_from-first : (value : ℕ) (bytes : List ℕ) → 1 ≤ length bytes → number_from value bytes ≡ number_from (value * 10 + (get_or bytes 0 0 - 48)) (drop 1 bytes)
number_from-first value [] some = absurd (omega arith)
number_from-first value (b ∷ bs) some = refl

runs_by_test : (passes : Bool) (test : List ℕ → Bool) (b : ℕ) (bs : List ℕ) → test (b ∷ bs) ≡ passes → Runs test (take (run_len test bs) bs) (drop (run_len test bs) bs) → Runs test (take (cond passes (run_len test bs + 1) 0) (b ∷ bs)) (drop (cond passes (run_len test bs + 1) 0) (b ∷ bs))
runs_by_test true test b bs passes runs =
    rw add-one (ap (λ rest. test (b ∷ rest)) (take-append-drop (run_len test bs) bs) ∙ passes, runs)
runs_by_test false test b bs stops runs = tt

-- each byte of a run passes
pub Runs-run_len : (test : List ℕ → Bool) (bytes : List ℕ) → Runs test (take (run_len test bytes) bytes) (drop (run_len test bytes) bytes)
Runs-run_len test [] = tt
Runs-run_len test (b ∷ bs) = runs_by_test (test (b ∷ bs)) test b bs refl (Runs-run_len test bs)

le_by_test : (passes : Bool) (n m : ℕ) → n ≤ m → cond passes (n + 1) 0 ≤ m + 1
le_by_test true n m le = omega arith
le_by_test false n m le = omega arith

-- a run is no longer than the bytes
pub run_len-le : (test : List ℕ → Bool) (bytes : List ℕ) → run_len test bytes ≤ length bytes
run_len-le test [] = omega arith
run_len-le test (b ∷ bs) = omega (arith, le_by_test (test (b ∷ bs)) (run_len test bs) (length bs) (run_len-le test bs))

-- bytes that pass are no longer than the run
pub Runs-le : (test : List ℕ → Bool) (front back : List ℕ) → Runs test front back → length front ≤ run_len test (front ++ back)
Runs-le test [] back runs = omega arith
Runs-le test (b ∷ bs) back runs = omega (arith, run_len_cons test b (bs ++ back) runs.0, Runs-le test bs back runs.1)

-- bytes that pass, and no longer ones, are the run
pub run_len-runs : (test : List ℕ → Bool) (front back : List ℕ) → Runs test front back → test back ≡ false → run_len test (front ++ back) ≡ length front
run_len-runs test [] back runs stops = run_len_stop_cons test back stops
run_len-runs test (b ∷ bs) back runs stops = omega (arith, run_len_cons test b (bs ++ back) runs.0, run_len-runs test bs back runs.1 stops)

stops_by_test : (passes : Bool) (test : List ℕ → Bool) (b : ℕ) (bs : List ℕ) → test (b ∷ bs) ≡ passes → test (drop (run_len test bs) bs) ≡ false → test (drop (cond passes (run_len test bs + 1) 0) (b ∷ bs)) ≡ false
stops_by_test true test b bs passes stops = rw add-one stops
stops_by_test false test b bs here stops = here

-- what follows a run doesn't pass
pub run_len-stops : (test : List ℕ → Bool) → test [] ≡ false → (bytes : List ℕ) → test (drop (run_len test bytes) bytes) ≡ false
run_len-stops test none [] = none
run_len-stops test none (b ∷ bs) = stops_by_test (test (b ∷ bs)) test b bs refl (run_len-stops test none bs)

-- digits are digits whatever follows
pub Runs-digits : (front back other : List ℕ) → Runs takes_digit front back → Runs takes_digit front other
Runs-digits [] back other runs = tt
Runs-digits (b ∷ bs) back other runs = (runs.0, Runs-digits bs back other runs.1)
