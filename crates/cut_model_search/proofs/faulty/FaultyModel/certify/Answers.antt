use Rattle.std.proofs.Common.{◌≡◌, ◌∙◌, All, map, ap, sym, subst}
use Rattle.cert_text.specs.CertificateView.{seen}
use Rattle.cert_laws.specs.Certificate.{Certificate}
use Rattle.cert_laws.specs.CertificateText.{IsWritableText, IsWritable}
use Rattle.cert_laws.specs.Certification.{IsCertified}
use Rattle.cert_laws.specs.Subject.{subject_of}
use Rattle.cut_text_laws.specs.TraceOfText.{GivesTrace}
use Rattle.cut_model_search.specs.Certifiable.{certificate_of}
use Rattle.cut_model_search.specs.FaultyModels.{flat_in, modes_in, event_in, whole_in}
use Rattle.cut_model_search.specs.Texts.{text_lines, CanBePrinted}
use Rattle.cut_model_search.proofs.Made.{all_print, proof, certified, writable}
use Rattle.cut_model_search.proofs.faulty.FaultyModel.certify.Goals as goal

pub texts_of-requires : goal.texts_of-requires
texts_of-requires g c =
    let v = c.args.self.now in
    subst (λ m. All (CanBePrinted m) c.as_slice.result.now) (sym c.plain.ensures)
    (subst (All (CanBePrinted v.model)) (sym c.as_slice.ensures) (all_print v c.can_be_searched.ensures c.args.a.now c.requires.answer c.args.invariant.now c.requires.complete))

pub proved-requires : goal.proved-requires
proved-requires g c = proof c.args.self.now c.can_be_searched.ensures c.args.a.now c.requires.answer c.args.invariant.now c.requires.complete

pub returns : goal.returns
returns g c =
    let v = c.args.self.now in
    let a = c.args.a.now in
    let clauses = c.in_ok-proved.proved.clauses in
    let parts = c.in_ok-proved.proved.parts in
    let is_proved = c.in_ok-proved.ensures in
    let made = c.in_ok-certificate.ensures in
    let texts : c.in_ok-texts.texts ≡ map (text_lines v.model) a.traces = c.in_ok-texts.ensures.lines ∙ (λ j. map (text_lines (c.plain.ensures j)) (c.as_slice.ensures j)) in
    let is : seen c.in_ok-certificate.certificate ≡ certificate_of v a (map (text_lines v.model) a.traces) clauses parts = made.made ∙ ap (λ ts. certificate_of v a ts clauses parts) texts in
    record {
      certified =
          subst (IsCertified (flat_in v) (modes_in v) (event_in v) (GivesTrace (flat_in v)) (subject_of (whole_in v) (flat_in v) (modes_in v) (event_in v))) (sym is)
          (certified v c.can_be_searched.ensures a c.requires.answer c.args.invariant.now c.requires.complete clauses is_proved.over_bits is_proved.apart parts is_proved.derived);
      writable =
          subst IsWritable (sym is)
          (writable v c.can_be_searched.ensures a c.requires.answer c.args.invariant.now c.requires.complete clauses is_proved.over_bits is_proved.apart parts is_proved.derived made.few_sets made.few_clauses (subst (All IsWritableText) texts c.in_ok-texts.ensures.writable));
      sets = ap (λ (d : Certificate). d.sets) is;
      size = ap (λ (d : Certificate). d.size) is;
      traces = ap (λ (d : Certificate). d.traces) is;
    }
