use Rattle.std.proofs.Common.{◌≡◌, ◌-◌, ◌∙◌, ap, subst, arith, length, map, take, Some}
use Rattle.std.specs.Prelude.{slice_get}
use Rattle.cut_search.specs.Bits.{bits_set}
use Rattle.cut_search.proofs.show.show.Goals as goal
use Rattle.cut_search.proofs.PathLemmas.{moment_length, value_count, shown_path}

pub bits_of-requires-clause-within : goal.bits_of-requires-clause-within
bits_of-requires-clause-within g c =
    let e = value_count (g.E.Encoded.problem c.args.model.now) c.args.path.now c.in_ok-long.long c.in_ok-long.ensures (c.len.result - 1) c.at.result.now c.at.ensures in
    omega (arith, e, c.variables-own.ensures, c.faults-faults.ensures.count)

pub cut_trace-requires : goal.cut_trace-requires
cut_trace-requires g c = λ k d l. let e = moment_length (g.E.Encoded.problem c.args.model.now) c.args.path.now c.in_ok-long.long c.in_ok-long.ensures k d l in omega (arith, e, c.variables-own.ensures)

pub returns : goal.returns
returns g c =
    shown_path (g.E.Encoded.problem c.args.model.now) c.args.path.now c.in_ok-long.long c.at.result.now c.new.result c.in_ok-long.ensures
    (subst (λ n. slice_get c.in_ok-long.long (n - 1) ≡ Some c.at.result.now) c.len.ensures c.at.ensures)
    (c.new.ensures.set ∙ c.in_ok-set.ensures ∙ ap (λ n. bits_set c.at.result.now n c.faults-faults.result) c.variables-own.ensures ∙ ap (λ n. bits_set c.at.result.now (length (g.E.Encoded.problem c.args.model.now).model.variables) n) c.faults-faults.ensures.count)
    (c.new.ensures.trace ∙ c.in_ok-trace.ensures ∙ ap (λ n. map (take n) c.in_ok-long.long) c.variables-own.ensures)
