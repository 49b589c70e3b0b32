use Rattle.std.proofs.Common.{subst}
use Rattle.smv_language.specs.ModelTree.{model_tree, flat_tree}
use Rattle.cert_text.specs.CertificateView.{seen}
use Rattle.cert_check.specs.SiteFindings.{IsJudgedUnlisted}
use Rattle.verb_orders.specs.Orders.{staged_matter}
use Rattle.verb_orders.proofs.ClaimLaws.{claim_accepted, claim_refused, line_refused, line_no_desk}
use Rattle.verb_orders.proofs.claims.judge.Goals as goal
use Rattle.base_values.proofs.ResultLaws.{same_fault}

pub judged-requires-clause-none : goal.judged-requires-clause-none
judged-requires-clause-none c = c.requires.staged.none

pub returns-in-Yes-clause-ok : goal.returns-in-Yes-clause-ok
returns-in-Yes-clause-ok c =
    let s = c.args.staged.now in
    let found = subst (IsJudgedUnlisted (staged_matter (model_tree s.typed.model) (flat_tree c.in_ok-top.top) (seen c.args.certificate.now))) c.in-Yes.is c.in_ok-judged.ensures in
    claim_accepted s c.requires.staged c.args.claim (flat_tree c.in_ok-top.top) c.in_ok-top.ensures.speaks c.in_ok-top.ensures.searchable c.args.certificate.now c.requires.checkable found.0 found.1

pub returns-clause-refused : goal.returns-clause-refused
returns-clause-refused c r e =
    let s = c.args.staged.now in
    let found = subst (IsJudgedUnlisted (staged_matter (model_tree s.typed.model) (flat_tree c.in_ok-top.top) (seen c.args.certificate.now))) c.in-No.is c.in_ok-judged.ensures in
    claim_refused s c.requires.staged c.args.claim (flat_tree c.in_ok-top.top) c.in_ok-top.ensures.speaks c.in_ok-top.ensures.searchable c.args.certificate.now c.in-No.line c.in-No.rule r
    (line_refused c.in-No.line c.in-No.rule _ r c.line_stop.ensures (same_fault e)) found

pub returns-clause-desk : goal.returns-clause-desk
returns-clause-desk c e = line_no_desk c.in-No.line c.in-No.rule _ c.line_stop.ensures (same_fault e)
