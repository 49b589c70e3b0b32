-- What a certificate of the code is as one of the definitions.
use Rattle.cert_laws.specs.Certificate.{Certificate}
use Rattle.cert_text.specs.declared.certificate.Certificate.{Certificate as Read}

-- the certificate with the same numbers, sets, traces, clauses and steps
abbrev pub seen : Read → Certificate
seen c = record {
  bits = c.bits;
  faults = c.faults;
  size = c.size;
  sets = c.sets;
  traces = c.traces;
  invariant = c.invariant;
  first = c.first;
  next = c.next;
  bad = c.bad;
}
