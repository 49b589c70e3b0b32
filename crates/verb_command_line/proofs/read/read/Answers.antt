use Rattle.std.proofs.Common.{[], Some, None, Ok, sym, ap, ◌∙◌}
use Rattle.verb_command_line.proofs.ReadingLaws.{verb_then}
use Rattle.verb_command_line.proofs.read.read.Goals as goal

pub returns-in-Some-broken_by : goal.returns-in-Some-broken_by
returns-in-Some-broken_by c =
    sym (verb_then c.args.words.now (record { ref_ptr = (0, 0); now = [] }) c.in-Some.verb (Some c.in-Some-broken_by.fault) c.in-len1-up.len_at_least (sym c.named.ensures ∙ c.in-Some.is)
    (sym c.broken_by.ensures ∙ c.in-Some-broken_by.is))

pub returns : goal.returns
returns c =
    ap (λ d. Ok d) c.command.ensures
    ∙ sym (verb_then c.args.words.now (record { ref_ptr = (0, 0); now = [] }) c.in-Some.verb None c.in-len1-up.len_at_least (sym c.named.ensures ∙ c.in-Some.is)
    (sym c.broken_by.ensures ∙ c.in_default-broken_by.is))
