-- What one call after another leaves of what a desk tells.
use Rattle.std.proofs.Common.{◌≡◌, ◌∙◌, arith}
use Rattle.base_files.specs.Desk.{Told, OnlyReads, OnlyWrites, OnlySays, IsLater}

pub reads_on : (a b c : Told) → OnlyReads a b → OnlyReads b c → OnlyReads a c
reads_on a b c f s = record {
  files = s.files ∙ f.files;
  said = s.said ∙ f.said;
  later = omega (arith, f.later, s.later);
  quiet = λ q. let m = f.quiet q in let n = s.quiet m.0 in (n.0, n.1 ∙ m.1);
}

pub writes_on : (a b c : Told) → OnlyWrites a b → OnlyWrites b c → OnlyWrites a c
writes_on a b c f s = record {
  said = s.said ∙ f.said;
  later = omega (arith, f.later, s.later);
  quiet = λ q. let m = f.quiet q in let n = s.quiet m.0 in (n.0, n.1 ∙ m.1);
}

pub says_on : (a b c : Told) → OnlySays a b → OnlySays b c → OnlySays a c
says_on a b c f s = record {
  files = s.files ∙ f.files;
  later = omega (arith, f.later, s.later);
  quiet = λ q. let m = f.quiet q in let n = s.quiet m.0 in (n.0, n.1 ∙ m.1);
}

pub later_on : (a b c : Told) → IsLater a b → IsLater b c → IsLater a c
later_on a b c f s = record {
  later = omega (arith, f.later, s.later);
  quiet = λ q. let m = f.quiet q in let n = s.quiet m.0 in (n.0, n.1 ∙ m.1);
}

pub reads_says : (a b : Told) → OnlyReads a b → OnlySays a b
reads_says a b r = record { files = r.files; later = r.later; quiet = r.quiet }

pub reads_later : (a b : Told) → OnlyReads a b → IsLater a b
reads_later a b r = record { later = r.later; quiet = r.quiet }

pub says_later : (a b : Told) → OnlySays a b → IsLater a b
says_later a b s = record { later = s.later; quiet = s.quiet }
