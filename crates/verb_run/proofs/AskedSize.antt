-- The size that words ask a table for is at most two, the stages that they ask a case for are at most `MOST_STAGES`, the depth of a search is at most
-- `GREATEST_DEPTH`, and two faults are of their set.
use Rattle.std.proofs.Common.{◌≤◌, ℕ, List, Result, Ok, Err, IfOk, refl, subst}
use Rattle.std.specs.Prelude.{codes}
use Rattle.base_values.specs.declared.limits.TheConstants.{GREATEST_DEPTH, MOST_STAGES}
use Rattle.smv_language.specs.ProgramTree.{Text}
use Rattle.verb_run.specs.CommandNumbers.{IsAskable}
use Rattle.verb_command_line.specs.declared.choice.OptionKind.TheVariants as kind
use Rattle.verb_command_line.specs.declared.verb.Verb.TheVariants as verb
use Rattle.verb_command_line.specs.declared.command.Command.{Command}
use Rattle.verb_command_line.specs.declared.command.Command.TheVariants as ask
use Rattle.verb_command_line.specs.Commands.{fmea, make, causes, odds}
use Rattle.verb_command_line.specs.Table.{options_of}
use Rattle.verb_command_line.specs.Meaning.{AreLawful, Makes, tabulates as makes_table, generates, finds_causes, finds_odds, Means as WordsMean}
use Rattle.verb_command_line.specs.CommandView.{seen}
use Rattle.verb_command_line.proofs.ValueLemmas.{fits_given}
use Rattle.verb_orders.proofs.AskedWords.{orders_ask, checks_ask}

pub asked_small : (words : List Text) (model faults tops : Text) (size depth : ℕ) → WordsMean words (fmea model faults tops size depth) → size ≤ 2
asked_small words model faults tops size depth asks = by_verb asks.verb asks.makes asks.lawful
  where
    by_verb : (v : _) → Makes asks.pairs v (fmea model faults tops size depth) → AreLawful (options_of v) asks.pairs → size ≤ 2
    by_verb v (makes_table _ _ _ _ _ m f t s d) lawful =
        subst (λ n. n ≤ 2) s.is (fits_given (options_of verb.Fmea) asks.pairs (codes "--size") s.value (kind.Number 0 2) lawful.each s.given refl).below

pub asked_few : (words : List Text) (number stages depth : ℕ) (model faults : Text) → WordsMean words (make number stages depth model faults) → stages ≤ MOST_STAGES
asked_few words number stages depth model faults asks = by_verb asks.verb asks.makes asks.lawful
  where
    by_verb : (v : _) → Makes asks.pairs v (make number stages depth model faults) → AreLawful (options_of v) asks.pairs → stages ≤ MOST_STAGES
    by_verb v (generates _ _ _ _ _ n s d m f) lawful =
        subst (λ n. n ≤ MOST_STAGES) s.is (fits_given (options_of verb.Make) asks.pairs (codes "--stages") s.value (kind.Number 1 MOST_STAGES) lawful.each s.given refl).below

asked_causes : (words : List Text) (model faults file top : Text) (depth : ℕ) (cert : Text) → WordsMean words (causes model faults file top depth cert) → depth ≤ GREATEST_DEPTH
asked_causes words model faults file top depth cert asks = by_verb asks.verb asks.makes asks.lawful
  where
    by_verb : (v : _) → Makes asks.pairs v (causes model faults file top depth cert) → AreLawful (options_of v) asks.pairs → depth ≤ GREATEST_DEPTH
    by_verb v (finds_causes _ _ _ _ _ _ m f c t d k) lawful =
        subst (λ n. n ≤ GREATEST_DEPTH) d.is (fits_given (options_of verb.Causes) asks.pairs (codes "--depth") d.value (kind.Number 0 GREATEST_DEPTH) lawful.each d.given refl).below

asked_odds : (words : List Text) (model faults top : Text) (depth : ℕ) → WordsMean words (odds model faults top depth) → depth ≤ GREATEST_DEPTH
asked_odds words model faults top depth asks = by_verb asks.verb asks.makes asks.lawful
  where
    by_verb : (v : _) → Makes asks.pairs v (odds model faults top depth) → AreLawful (options_of v) asks.pairs → depth ≤ GREATEST_DEPTH
    by_verb v (finds_odds _ _ _ _ m f t d) lawful =
        subst (λ n. n ≤ GREATEST_DEPTH) d.is (fits_given (options_of verb.Odds) asks.pairs (codes "--depth") d.value (kind.Number 0 GREATEST_DEPTH) lawful.each d.given refl).below

-- so that what is asked for can be done
askable : (words : List Text) (a : Command) → WordsMean words (seen a) → IsAskable a
askable words (ask.Extend e) means = tt
askable words (ask.Replay r) means = tt
askable words (ask.Analyse a) means = tt
askable words (ask.Check k) means = tt
askable words (ask.Fmea f) means = asked_small words f.model.now f.faults.now f.tops.now f.size f.depth means
askable words (ask.Make m) means = asked_few words m.number m.stages m.depth m.model.now m.faults.now means
askable words (ask.Causes a) means = asked_causes words a.model.now a.faults.now a.causes.now a.top.now a.depth a.cert.now means
askable words (ask.CheckCauses a) means = tt
askable words (ask.Orders o) means = orders_ask words o.model.now o.faults.now o.top.now o.set.now o.first o.second o.depth o.cert.now means
askable words (ask.CheckOrders o) means = checks_ask words o.model.now o.faults.now o.top.now o.set.now o.first o.second o.claim.now o.cert.now means
askable words (ask.Odds a) means = asked_odds words a.model.now a.faults.now a.top.now a.depth means

pub askable_if : {E : Type 0} (words : List Text) (read : Result Command E) → IfOk read (λ a. WordsMean words (seen a)) → IfOk read IsAskable
askable_if words (Ok a) means = askable words a means
askable_if words (Err e) means = tt
