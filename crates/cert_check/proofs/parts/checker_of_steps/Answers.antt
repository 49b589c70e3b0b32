use Rattle.std.proofs.Common.{◌≡◌, ◌∙◌, sym, subst}
use Rattle.sat_encoding_laws.specs.Encodable.{IsEncodable}
use Rattle.cert_laws.specs.Certificate.{part_next}
use Rattle.cert_check.specs.QuestionMatter.{asked}
use Rattle.cert_check.specs.Parts.{list_of}
use Rattle.cert_check.proofs.StepLaws.{vars_begin, known_begin}
use Rattle.cert_check.proofs.parts.checker_of_steps.Goals as goal

pub step_gates-requires : goal.step_gates-requires
step_gates-requires c = record { encodable = subst IsEncodable (sym c.requires.fit.history) c.requires.fit.model.encodable }

pub returns : goal.returns
returns c =
    let a = asked c.args.q.now in
    let given : c.as_slice-given.result.now ≡ list_of a part_next = c.as_slice-given.ensures ∙ c.clauses.ensures ∙ c.in_ok-gates.ensures in
    record {
      vars = c.in_ok-checker.ensures.vars ∙ vars_begin a part_next c.as_slice-given.result.now c.also_given.result.now given c.also_given.ensures;
      clauses = c.in_ok-checker.ensures.clauses ∙ known_begin a part_next c.as_slice-given.result.now c.also_given.result.now given c.also_given.ensures;
    }
