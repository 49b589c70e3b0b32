use Rattle.std.proofs.Common.{◌≡◌, ◌++◌, drop}
use Rattle.xsap_reports.specs.MefText.{xml_text}
use Rattle.xsap_reports.proofs.escapes.append_characters.Given as goal

abbrev pub invariant-loop-byte : goal.invariant-loop-byte
invariant-loop-byte l = l.text ++ xml_text (drop l.byte-index l.bytes) ≡ l.initial.text ++ xml_text l.bytes
