use Rattle.std.proofs.Common.{rules, ◌<◌, ⊎_elim, ◌≡◌, ◌+◌, ◌*◌, sym, ◌∙◌, arith, length, ap}
use Rattle.std.proofs.lemmas.List.FromFn.{get_or-map-range_with_len, length-map-range_with_len}
use Rattle.sat_adviser.specs.Round.{Round, answer_of, negations, place_after}
use Rattle.sat_adviser.proofs.in_order.InOrderAdviser.pick.Goals as goal
use Rattle.base_values.specs.Counts.{next_count}

pub returns-clause-answer : goal.returns-clause-answer
returns-clause-answer c =
    let within : c.self.inside.place < c.self.inside.vars = ⊎_elim (λ e. omega (arith, e, c.if-self-eq0.false)) (λ l. l) c.self.invariant.1 in
    let value : answer_of (record { answers = negations c.self.inside.vars; place = c.self.inside.place; told = c.self.inside.told; asked = c.self.inside.asked }) ≡ 2 * (c.self.inside.place + 1) + 1 =
    get_or-map-range_with_len (λ v. 2 * v + 1) 1 c.self.inside.vars c.self.inside.place (c.self.inside.place + 1) 0 within (omega arith) in
    sym value ∙ ap answer_of c.self.view_is

pub returns-clause-next : goal.returns-clause-next
returns-clause-next c =
    let len : length (negations c.self.inside.vars) ≡ c.self.inside.vars = length-map-range_with_len (λ v. 2 * v + 1) 1 c.self.inside.vars in
    let at : place_after c.self.inside.place (length (negations c.self.inside.vars)) ≡ c.place_after-self-inside.result =
    ap (place_after c.self.inside.place) len ∙ sym c.place_after-self-inside.ensures.value in
    let count : next_count c.self.inside.asked ≡ c.saturating_add-self-inside.result = search rules in
    let moved : record { answers = negations c.self.inside.vars; place = place_after c.self.inside.place (length (negations c.self.inside.vars)); told = c.self.inside.told; asked = next_count c.self.inside.asked }
    ≡ record { answers = negations c.self.inside.vars; place = c.place_after-self-inside.result; told = c.self.inside.told; asked = c.saturating_add-self-inside.result } =
    (λ k. record { answers = negations c.self.inside.vars; place = at k; told = c.self.inside.told; asked = count k }) in
    sym moved ∙ ap (λ (r : Round). record r { place = place_after r.place (length r.answers); asked = next_count r.asked }) c.self.view_is
