use Rattle.std.proofs.Common.{ap, refl, sym, ◌∙◌, subst, ◌||◌}
use Rattle.sat_clauses.specs.Literal.{Literal}
use Rattle.sat_clauses.specs.Models.{literal_value}
use Rattle.sat_circuits.specs.Circuit.{Circuit}
use Rattle.sat_circuits.specs.Gates.{or_gate}
use Rattle.sat_circuits.specs.Meaning.{StopsWithin, GivesBool}
use Rattle.sat_circuits.proofs.Extension.{OnErr-from}
use Rattle.sat_circuits.proofs.Rows.{or_gate-gives, or_gate-free}
use Rattle.sat_circuits.proofs.gates.Gates.or.Goals as goal

pub returns-in_err-neither-clause-err : goal.returns-in_err-neither-clause-err
unfolding or_gate
returns-in_err-neither-clause-err c =
    let stops : StopsWithin c.args.self.now c.and.new.self (or_gate c.args.a c.args.b c.args.self.now).0 =
    rw (← c.neg.ensures, ← c.neg-2.ensures) c.in_err-neither.ensures.err
    in
    OnErr-from _ _ stops

pub returns-clause-exact : goal.returns-clause-exact
unfolding or_gate
returns-clause-exact c = rw (← c.neg.ensures, ← c.neg-2.ensures, c.in_ok-neither.ensures.exact, c.neg-3.ensures) refl

pub returns-clause-value : goal.returns-clause-value
returns-clause-value c =
    subst (λ (x : Circuit × Literal). GivesBool c.args.self.now x.0 x.1 (λ v. literal_value v c.args.a || literal_value v c.args.b))
    (returns-clause-exact c)
    (or_gate-gives c.args.self.now c.args.a c.args.b c.requires.left c.requires.right)

pub returns-clause-next : goal.returns-clause-next
returns-clause-next c = sym (ap (λ (x : Circuit × Literal). x.0.free) (returns-clause-exact c)) ∙ or_gate-free c.args.a c.args.b c.args.self.now
