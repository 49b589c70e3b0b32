use Rattle.std.proofs.Common.{◌≡◌, ◌-◌, ◌∙◌, List, length, map, sym, ap, arith}
use Rattle.std.specs.List.{range_with_len}
use Rattle.std.proofs.lemmas.List.{length-map}
use Rattle.smv_language.specs.ModelTree.{flat_tree, variable_tree}
use Rattle.sat_clauses.specs.Literal.{Literal}
use Rattle.sat_circuits.specs.Circuit.{Circuit}
use Rattle.sat_encoding_laws.specs.Lists.{size_gates}
use Rattle.sat_encoding_laws.specs.Signals.{Signal}
use Rattle.sat_encoding_laws.specs.Layout.{input_place}
use Rattle.sat_expressions.proofs.ChoiceLoop.{usable_later, length_signals}
use Rattle.sat_expressions.specs.ModelNames.{names_in}
use Rattle.sat_encoding.specs.Copies.{source_model}
use Rattle.sat_encoding.specs.History.{last_numbers, literal_of}
use Rattle.sat_encoding.proofs.ListLaws.{length_signals_now, counted_is}
use Rattle.sat_encoding.proofs.bad.counted.Goals as goal

pub last_literals-requires-clause-usable : goal.last_literals-requires-clause-usable
last_literals-requires-clause-usable c = usable_later c.in_ok-g.g c.holds.new.g c.in_ok-holds.ensures.grows c.in_ok-g.now.variables c.in_ok-g.ensures.copy.usable.variables

pub last_literals-requires-clause-few : goal.last_literals-requires-clause-few
last_literals-requires-clause-few c =
    let m = source_model c.args.source.now in
    omega (arith, length_signals c.in_ok-g.now.variables, ap (λ (es : List Signal). length es) c.in_ok-g.ensures.variables, length_signals_now m.symbols 2 (input_place m) m.variables, length-map c.args.source.now.model.now.model.variables variable_tree, c.requires.faults)

pub returns-clause-clauses : goal.returns-clause-clauses
returns-clause-clauses c =
    let m = source_model c.args.source.now in
    let long : length c.in_ok-g.now.variables ≡ length m.variables = sym (length_signals c.in_ok-g.now.variables) ∙ ap (λ (es : List Signal). length es) c.in_ok-g.ensures.variables ∙ length_signals_now m.symbols 2 (input_place m) m.variables in
    let literals = c.in_ok-history.ensures.literals ∙ (λ i. map (literal_of (c.in_ok-g.ensures.variables i)) (range_with_len (long i - c.args.faults) c.args.faults)) in
    c.into_clauses.ensures
    ∙ sym (ap (λ (s : Circuit). s.clauses) (counted_is m (flat_tree c.args.top.now) (last_numbers m c.args.faults) c.args.size c.at-names.result c.in_ok-g.g c.holds.new.g c.few.new.g c.in_ok-g.now c.in_ok-history.history c.in_ok-g.ensures.copy.exact
    (ap names_in c.at-names.ensures) c.in_ok-holds.ensures literals (ap (λ (bs : List Literal). size_gates bs c.args.size c.holds.new.g) (sym c.as_slice.ensures) ∙ c.in_ok-few.ensures)))

pub returns-clause-history : goal.returns-clause-history
returns-clause-history c =
    let m = source_model c.args.source.now in
    let long : length c.in_ok-g.now.variables ≡ length m.variables = sym (length_signals c.in_ok-g.now.variables) ∙ ap (λ (es : List Signal). length es) c.in_ok-g.ensures.variables ∙ length_signals_now m.symbols 2 (input_place m) m.variables in
    c.in_ok-history.ensures.literals ∙ (λ i. map (literal_of (c.in_ok-g.ensures.variables i)) (range_with_len (long i - c.args.faults) c.args.faults))
