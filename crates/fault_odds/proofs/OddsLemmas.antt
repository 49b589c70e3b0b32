-- Units at a place of a list, products that stay small, and text that is appended piece by piece.
use Rattle.std.proofs.Common.{◌≡◌, ℕ, zero, suc, ◌+◌, ◌-◌, ◌*◌, ◌/◌, ◌<◌, ◌≤◌, ◌%◌, ◌^◌, List, [], ◌∷◌, ◌++◌, length, map, drop, get_or, sym, ◌∙◌, ap, arith}
use Rattle.std.specs.Prelude.{slice_index_or, codes}
use Rattle.std.specs.Fmt.{decimal}
use Rattle.std.specs.Int.{div_ceil}
use Rattle.std.proofs.lemmas.List.{append_assoc, append-nil, drop_more, length-map}
use Rattle.smv_language.specs.ProgramTree.{Text}
use Rattle.fault_odds.specs.Units.{one_in_units}
use Rattle.fault_odds.specs.Bounds.{bound_of, units_in, slack_of}
use Rattle.fault_odds.specs.OddsText.{last_digits, units_text, odds_lines}
use Rattle.fault_odds.specs.Laws.{AreAtMostOne}
use Rattle.fault_odds.proofs.Products.{no_larger}

pub ruleset text_rules = (append_assoc, append-nil)

pub more_at_most_one : (xs : List ℕ) (x : ℕ) → AreAtMostOne xs → x ≤ one_in_units → AreAtMostOne (xs ++ x ∷ [])
more_at_most_one [] x h p = (p, tt)
more_at_most_one (y ∷ ys) x h p = (h.0, more_at_most_one ys x h.1 p)

pub at_most_one : (xs : List ℕ) (i : ℕ) → AreAtMostOne xs → get_or xs i 0 ≤ one_in_units
at_most_one [] i h = omega arith
at_most_one (x ∷ xs) zero h = h.0
at_most_one (x ∷ xs) (suc i) h = at_most_one xs i h.1

-- a product of two probabilities is one, rounded up too
pub product_small : (x y : ℕ) → x ≤ one_in_units → y ≤ one_in_units → div_ceil (x * y) one_in_units ≤ one_in_units
product_small x y h k = trans_of (div_ceil (x * y) one_in_units) x one_in_units (no_larger x (y ∷ []) (k, tt)) h
  where
    trans_of : (a b c : ℕ) → a ≤ b → b ≤ c → a ≤ c
    trans_of a b c h k = omega arith

pub units_small : (odds set : List ℕ) → AreAtMostOne odds → AreAtMostOne (units_in odds set)
units_small odds [] h = tt
units_small odds (i ∷ set) h = (at_most_one odds (i - 1) h, units_small odds set h)

-- the last digit comes last
pub digits_more : (k n : ℕ) → 0 < k → last_digits k n ≡ last_digits (k - 1) (n / 10) ++ (48 + n % 10) ∷ []
digits_more zero n h = absurd (omega (arith, h))
digits_more (suc k) n h = ap (λ j. last_digits j (n / 10) ++ (48 + n % 10) ∷ []) (sym (before k))
  where
    before : (k : ℕ) → suc k - 1 ≡ k
    before k = omega arith

-- the slack of one set more
pub slack_on : (odds : List ℕ) (sets : List (List ℕ)) (i : ℕ) (set : List ℕ) (slack s more whole : ℕ) → i < length sets → set ≡ get_or sets i set → s ≡ length set - 1 → s < 2 ^ 64 → more ≡ s →
    slack ≤ i * 2 ^ 64 → slack + slack_of (map (units_in odds) (drop i sets)) ≡ whole →
    (slack + more ≤ (i + 1) * 2 ^ 64) × (slack + more + slack_of (map (units_in odds) (drop (i + 1) sets)) ≡ whole)
slack_on odds sets i set slack s more whole l e f small g few h = (omega (arith, few, small, g), rest)
  where
    here : drop i sets ≡ set ∷ drop (i + 1) sets
    here = drop_more sets i set l ∙ ap (λ r. r ∷ drop (i + 1) sets) (sym e)

    size : length (units_in odds set) ≡ length set
    size = length-map set (λ j. slice_index_or odds (j - 1) 0)

    left : slack + ((length (units_in odds set) - 1) + slack_of (map (units_in odds) (drop (i + 1) sets))) ≡ whole
    left = sym (ap (λ r. slack + slack_of (map (units_in odds) r)) here) ∙ h

    rest : slack + more + slack_of (map (units_in odds) (drop (i + 1) sets)) ≡ whole
    rest = regrouped slack more s (length set) (length (units_in odds set)) (slack_of (map (units_in odds) (drop (i + 1) sets))) whole g f size left
      where
        regrouped : (a m s n k r w : ℕ) → m ≡ s → s ≡ n - 1 → k ≡ n → a + ((k - 1) + r) ≡ w → a + m + r ≡ w
        regrouped a m s n k r w e f g h = omega (arith, e, f, g, h)

-- three pieces, one after another
pub three_on : (text a b d one two new : Text) → one ≡ text ++ a → two ≡ one ++ b → new ≡ two ++ d → new ≡ text ++ (a ++ (b ++ d))
three_on text a b d one two new e f g =
    g ∙ (ap (λ t. t ++ d) (f ∙ ap (λ t. t ++ b) e) ∙ (append_assoc (text ++ a) b d ∙ append_assoc text a (b ++ d)))

-- a line before a set's own, by its bound
abbrev line_by : ℕ → ℕ → Text
line_by i b = codes "odds " ++ (decimal i ++ (codes " " ++ (units_text b ++ codes "\n")))

-- with a set's line, the lines that are left after it are all of them
pub lines_on : (odds : List ℕ) (sets : List (List ℕ)) (i : ℕ) (set given : List ℕ) (b : ℕ) (text more whole : Text) → i < length sets → set ≡ get_or sets i set → given ≡ set → b ≡ bound_of (units_in odds given) →
    more ≡ text ++ (codes "odds " ++ (decimal (i + 1) ++ (codes " " ++ (units_text b ++ codes "\n")))) → text ++ odds_lines (i + 1) (map (units_in odds) (drop i sets)) ≡ whole →
    more ++ odds_lines (i + 1 + 1) (map (units_in odds) (drop (i + 1) sets)) ≡ whole
lines_on odds sets i set given b text more whole l e same f g h =
    ap (λ t. t ++ odds_lines (i + 1 + 1) rest) first
    ∙ (append_assoc text line (odds_lines (i + 1 + 1) rest) ∙ (ap (λ k. text ++ (line ++ odds_lines k rest)) (next (i + 1)) ∙ left))
  where
    rest : List (List ℕ)
    rest = map (units_in odds) (drop (i + 1) sets)

    line : Text
    line = line_by (i + 1) (bound_of (units_in odds set))

    next : (j : ℕ) → j + 1 ≡ suc j
    next j = omega arith

    here : drop i sets ≡ set ∷ drop (i + 1) sets
    here = drop_more sets i set l ∙ ap (λ r. r ∷ drop (i + 1) sets) (sym e)

    first : more ≡ text ++ line
    first = g ∙ ap (λ n. text ++ line_by (i + 1) n) (f ∙ ap (λ s. bound_of (units_in odds s)) same)

    left : text ++ (line ++ odds_lines (suc (i + 1)) rest) ≡ whole
    left = sym (ap (λ r. text ++ odds_lines (i + 1) (map (units_in odds) r)) here) ∙ h
