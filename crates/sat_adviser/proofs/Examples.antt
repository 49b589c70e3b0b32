-- Examples that the checker computes.
use Rattle.std.proofs.Common.{ℕ, ◌≡◌, ◌∷◌, [], ⊎_elim, refl, arith}
use Rattle.std.specs.Prelude.{Some, None}
use Rattle.sat_clauses.specs.Literal.{plain}
use Rattle.sat_adviser.specs.Count.{risen_at}
use Rattle.sat_adviser.specs.Drops.{Drops}
use Rattle.sat_adviser.specs.Heard.{Gives, heard_at}
use Rattle.sat_adviser.specs.Judges.{Judges}
use Rattle.sat_adviser.specs.Round.{answer_of, negations, place_after}

-- the second one is asked once more
asked_once_more : risen_at (4 ∷ 7 ∷ []) 1 ≡ 4 ∷ 8 ∷ []
asked_once_more = refl

-- where no one is present, none is asked
nobody_asked : risen_at (4 ∷ 7 ∷ []) 2 ≡ 4 ∷ 7 ∷ []
nobody_asked = refl

-- of those that answer 3, that don't tell and that answer 7, the third one gives 7
third_gives : Gives (Some 3 ∷ None ∷ Some 7 ∷ []) 2 7
third_gives = refl

-- one that tells hears the clause, and one that doesn't still tells nothing
first_heard : heard_at (Some [] ∷ None ∷ []) 0 (plain 4 ∷ []) ≡ Some (plain 4 ∷ []) ∷ None ∷ []
first_heard = refl

second_does_not_tell : heard_at (Some [] ∷ None ∷ []) 1 (plain 4 ∷ []) ≡ Some [] ∷ None ∷ []
second_does_not_tell = refl

-- the three negations in order, and the first one after the last
three_negations : negations 3 ≡ 3 ∷ 5 ∷ 7 ∷ []
three_negations = refl

third_answer : answer_of (record { answers = negations 3; place = 2; told = 0; asked = 2 }) ≡ 7
third_answer = refl

round_again : place_after 2 3 ≡ 0
round_again = refl

-- the last of three is dropped, and the first is present
last_dropped : Drops {X = ℕ} (4 ∷ 7 ∷ 9 ∷ []) 2 (4 ∷ 7 ∷ []) 0 0
last_dropped = record { left = refl; present_is = refl; misses_is = refl }

-- so it is after a thousandth pick in a row that was not taken
thousandth_miss : Judges {X = ℕ} ⊥ (4 ∷ 7 ∷ 9 ∷ []) 2 999 (4 ∷ 7 ∷ []) 0 0
thousandth_miss = record {
  nobody = λ none. absurd (omega (arith, none));
  used = λ some taken. absurd taken;
  missed = λ some not few. absurd (⊎_elim (λ l. omega (arith, l)) (λ one. omega (arith, one)) few);
  dropped = λ many within not enough. last_dropped;
}
