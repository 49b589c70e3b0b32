use Rattle.std.proofs.Common.{sym, ◌∙◌, ap}
use Rattle.smv_types.specs.SymbolNumbering.{number_from}
use Rattle.cut_report.proofs.LookupLaws.{place_found, place_within, no_place}
use Rattle.cut_report.proofs.lookup.Lookup.place.Goals as goal

pub returns-in-Some-clause-place : goal.returns-in-Some-clause-place
returns-in-Some-clause-place c =
    place_found c.args.self.now.typed.now.model c.args.name.now c.in-Some.number (ap (λ ts. number_from 0 ts c.args.name.now) (sym c.args.self.now.named) ∙ sym c.in-Some.ensures)

pub returns-in-Some-clause-within : goal.returns-in-Some-clause-within
returns-in-Some-clause-within c =
    place_within c.args.self.now.typed.now.model c.args.name.now c.in-Some.number (ap (λ ts. number_from 0 ts c.args.name.now) (sym c.args.self.now.named) ∙ sym c.in-Some.ensures)

pub returns-in-None-clause-place : goal.returns-in-None-clause-place
returns-in-None-clause-place c =
    no_place c.args.self.now.typed.now.model c.args.name.now (ap (λ ts. number_from 0 ts c.args.name.now) (sym c.args.self.now.named) ∙ sym c.in-None.ensures)
