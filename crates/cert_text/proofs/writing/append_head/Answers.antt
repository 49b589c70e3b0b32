use Rattle.std.proofs.Common.{◌≡◌, [], ◌∷◌, ◌++◌, codes, ap, ◌∙◌}
use Rattle.std.specs.Fmt.{decimal}
use Rattle.cert_text.specs.Pieces.{head_text}
use Rattle.cert_text.proofs.PieceLaws.{named_joined, on_ok}
use Rattle.cert_text.proofs.writing.append_head.Goals as goal

pub returns : goal.returns
returns c =
    let name = codes "xsap-certificate 2\nbits " in
    let more = codes " faults " ++ (decimal c.args.c.now.faults ++ (codes " size " ++ (decimal c.args.c.now.size ++ 10 ∷ []))) in
    on_ok (c.append_faults_and_size.new.text ≡ c.append_named.new.text ++ more)
    (c.append_faults_and_size.new.text ≡ c.args.text.now ++ head_text c.args.c.now.bits c.args.c.now.faults c.args.c.now.size) c.append_faults_and_size.result
    (λ e. e ∙ ap (λ t. t ++ more) c.in_ok-append_named.ensures ∙ named_joined c.args.text.now name (decimal c.args.c.now.bits) more) c.append_faults_and_size.ensures
