-- The words of an order ask for two numbers of a set.
use Rattle.std.proofs.Common.{◌≡◌, ◌⊎◌, inl, inr, ℕ, Bool, true, false, ◌||◌, List, [], ◌∷◌, Some, refl, sym, ap, subst, ◌∙◌}
use Rattle.std.specs.Prelude.{codes, nat_eq, IsTrue}
use Rattle.std.proofs.lemmas.Bool.{eq-eqb}
use Rattle.cut_right_laws.specs.Sets.{has_number}
use Rattle.verb_command_line.specs.declared.choice.OptionKind.TheVariants as kind
use Rattle.verb_command_line.specs.Commands.{Text, Given, orders, check_orders}
use Rattle.verb_command_line.specs.Sets.{number_of, numbers_of, Each}
use Rattle.verb_command_line.specs.Table.{kind_in, options_of}
use Rattle.verb_command_line.specs.Meaning.{Gives, GivesNumber, AreLawful, Makes, finds_orders, checks_orders, IsOfPair, IsOneOf, not_of_set, both_one, IsInside, AreInside}
use Rattle.verb_command_line.proofs.ValueLemmas.{fits_given}
use Rattle.verb_command_line.specs.declared.verb.Verb.{Verb}
use Rattle.verb_command_line.specs.declared.verb.Verb.TheVariants as verb
use Rattle.verb_orders.specs.Pairs.{IsPair, IsAskedPair, OrdersAskPairs, ChecksAskPairs}

-- a pair of the list that gives an option this value, and what holds of each pair
record At (P : Given → Type 0) (option value : Text) : Type 0 where
  pair : Given
  option_is : pair.option ≡ option
  value_is : pair.value ≡ value
  holds : P pair

given_at : (P : Given → Type 0) (pairs : List Given) (option value : Text) → Gives pairs option value → Each P pairs → At P option value
given_at P [] option value g h = absurd g
given_at P (p ∷ ps) option value (inl e) h = record { pair = p; option_is = e.0; value_is = e.1; holds = h.0 }
given_at P (p ∷ ps) option value (inr g) h = given_at P ps option value g h.1

one_has : (set : List ℕ) (n : ℕ) → IsOneOf set n → has_number set n ≡ true
one_has [] n h = absurd h
one_has (m ∷ ms) n (inl e) = ap (λ b. b || has_number ms n) (eq-eqb m n e)
one_has (m ∷ ms) n (inr h) = last (nat_eq m n) (one_has ms n h)
  where
    last : (b : Bool) → has_number ms n ≡ true → (b || has_number ms n) ≡ true
    last true e = refl
    last false e = e

module _ (pairs : List Given) (set value other : Text) (has_set : Gives pairs (codes "--set") set) (has_first : Gives pairs (codes "--first") value) (has_second : Gives pairs (codes "--second") other) (inside : AreInside pairs) where
  in_set : (option word : Text) → IsOfPair option → Gives pairs option word → has_number (numbers_of set) (number_of word) ≡ true
  in_set option word of given = by (has_number (numbers_of set) (number_of word)) refl
    where
      at : At (IsInside set value) option word
      at = given_at (IsInside set value) pairs option word given (inside set value has_set has_first)

      by : (b : Bool) → has_number (numbers_of set) (number_of word) ≡ b → has_number (numbers_of set) (number_of word) ≡ true
      by true e = e
      by false e =
          absurd
          (at.holds
          (not_of_set (subst IsOfPair (sym at.option_is) of)
          (λ one. let bad : false ≡ true = sym e ∙ one_has (numbers_of set) (number_of word) (subst (λ w. IsOneOf (numbers_of set) (number_of w)) at.value_is one) in cc)))

  pub words_pair : (first second : ℕ) → number_of value ≡ first → number_of other ≡ second → IsPair (numbers_of set) first second
  words_pair first second is_first is_second =
      record {
        one = subst (λ n. IsTrue (has_number (numbers_of set) n)) is_first (in_set (codes "--first") value (inl refl) has_first);
        other = subst (λ n. IsTrue (has_number (numbers_of set) n)) is_second (in_set (codes "--second") other (inr refl) has_second);
        apart = λ same.
            let at : At (IsInside set value) (codes "--second") other = given_at (IsInside set value) pairs (codes "--second") other has_second (inside set value has_set has_first) in
            at.holds (both_one at.option_is (is_first ∙ same ∙ sym is_second ∙ ap number_of (sym at.value_is)));
      }

-- what the pairs give where the verb is one of the two
record GivesPair (pairs : List Given) (set : Text) (first second : ℕ) : Type 0 where
  has_set : Gives pairs (codes "--set") set
  has_first : GivesNumber pairs (codes "--first") first
  has_second : GivesNumber pairs (codes "--second") second

asked_pair : (v : Verb) (pairs : List Given) (set : Text) (first second : ℕ) → kind_in (options_of v) (codes "--set") ≡ Some kind.Set → AreLawful (options_of v) pairs → AreInside pairs → GivesPair pairs set first second →
    IsAskedPair set first second
asked_pair v pairs set first second known lawful inside g =
    record {
      is_set = fits_given (options_of v) pairs (codes "--set") set kind.Set lawful.each g.has_set known;
      pair = words_pair pairs set g.has_first.value g.has_second.value g.has_set g.has_first.given g.has_second.given inside first second g.has_first.is g.has_second.is;
    }

pub orders_ask : OrdersAskPairs
orders_ask words model faults top set first second depth cert means = by_verb means.verb means.makes means.lawful
  where
    by_verb : (v : _) → Makes means.pairs v (orders model faults top set first second depth cert) → AreLawful (options_of v) means.pairs → IsAskedPair set first second
    by_verb v (finds_orders _ _ _ _ _ _ _ _ m f t s i j d k) lawful =
        asked_pair verb.Orders means.pairs set first second refl lawful means.inside (record { has_set = s; has_first = i; has_second = j })

pub checks_ask : ChecksAskPairs
checks_ask words model faults top set first second claim cert means = by_verb means.verb means.makes means.lawful
  where
    by_verb : (v : _) → Makes means.pairs v (check_orders model faults top set first second claim cert) → AreLawful (options_of v) means.pairs → IsAskedPair set first second
    by_verb v (checks_orders _ _ _ _ _ _ _ _ m f t s i j q k) lawful =
        asked_pair verb.CheckOrders means.pairs set first second refl lawful means.inside (record { has_set = s; has_first = i; has_second = j })
