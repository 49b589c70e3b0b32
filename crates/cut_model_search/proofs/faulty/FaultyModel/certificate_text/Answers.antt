use Rattle.std.proofs.lemmas.Result.{IfOk-weaker}
use Rattle.cut_model_search.proofs.Certifying.{certificate_for}
use Rattle.cut_model_search.proofs.faulty.FaultyModel.certificate_text.Goals as goal

pub returns : goal.returns
returns g c =
    let made = c.in_ok-certificate.ensures in
    IfOk-weaker c.write.result _ _
    (λ bytes text. certificate_for c.args.self.now c.args.a.now c.in_ok-certificate.certificate bytes made.certified made.size made.sets made.traces made.writable text)
    c.write.ensures.text
