use Rattle.std.proofs.Common.{◌≡◌, All, map, take}
use Rattle.cert_laws.specs.CertificateText.{IsWritableText}
use Rattle.cut_model_search.specs.Texts.{text_lines}
use Rattle.cut_model_search.proofs.texts.texts_of.Given as goal

-- the traces so far are printed
abbrev pub invariant-loop-trace : goal.invariant-loop-trace
invariant-loop-trace l = record {
  lines : l.texts ≡ map (text_lines l.t.model) (take l.trace-index l.traces);
  writable : All IsWritableText l.texts;
}
