-- What is found at sites, put together from the front on.
use Rattle.std.proofs.Common.{◌≡◌, ℕ, List, [], ◌∷◌, ◌++◌, length, refl, ap, subst, ◌∙◌, append_assoc}
use Rattle.smv_language.specs.Values.{Value}
use Rattle.smv_flat_laws.specs.FlatTrace.{IsFlatTrace}
use Rattle.sat_encoding_laws.specs.FlatTraces.{ReachesTop, HasFailedNumber}
use Rattle.cut_text_laws.specs.TraceOfText.{GivesTrace}
use Rattle.cert_laws.specs.Certificate.{Site, line_of}
use Rattle.cert_laws.specs.Sites.{sites_of, FirstBrokenIsObjection}
use Rattle.cert_laws.proofs.Sites.{first_broken}
use Rattle.cert_check.specs.Matter.{Matter, IsObjectionIn}
use Rattle.cert_check.specs.SiteFindings.{IsKeptAt, IsBrokenAt, AreKept, IsFirstBroken, Finds, IsJudged}
use Rattle.cert_check.specs.declared.judged.Judged.{Judged}
use Rattle.cert_check.specs.declared.judged.Judged.TheVariants.{Yes, No}

module _ (a : Matter) where
  pub kept_none : AreKept a []
  kept_none = record { each = tt }

  pub kept_then : (site : Site) (rest : List Site) → IsKeptAt a site → (j : Judged) → Finds a rest j → Finds a (site ∷ rest) j
  kept_then site rest k Yes f = record { each = (k.all, f.each) }
  kept_then site rest k (No line number) f = record {
    before = site ∷ f.before;
    site = f.site;
    after = f.after;
    lie = ap (λ xs. site ∷ xs) f.lie;
    kept = (k.all, f.kept);
    at_line = f.at_line;
    broken = f.broken;
  }

  pub broken_here : (site : Site) (rest : List Site) (line number : ℕ) → line_of a.certificate site ≡ line → IsBrokenAt a site number → Finds a (site ∷ rest) (No line number)
  broken_here site rest line number e b = record { before = []; site = site; after = rest; lie = refl; kept = tt; at_line = e; broken = b }

  pub kept_both : (xs ys : List Site) → AreKept a xs → (j : Judged) → Finds a ys j → Finds a (xs ++ ys) j
  kept_both [] ys k j f = f
  kept_both (x ∷ xs) ys k j f = kept_then x (xs ++ ys) (record { all = k.each.0 }) j (kept_both xs ys (record { each = k.each.1 }) j f)

  pub broken_front : (xs ys : List Site) (line number : ℕ) → IsFirstBroken a xs line number → IsFirstBroken a (xs ++ ys) line number
  broken_front xs ys line number f = record {
    before = f.before;
    site = f.site;
    after = f.after ++ ys;
    lie = ap (λ zs. zs ++ ys) f.lie ∙ append_assoc f.before (f.site ∷ f.after) ys;
    kept = f.kept;
    at_line = f.at_line;
    broken = f.broken;
  }

  -- what is found at all sites is what is answered
  law : FirstBrokenIsObjection (List (List Value)) (GivesTrace a.model) (IsFlatTrace a.model) (ReachesTop a.model a.top) (HasFailedNumber a.model a.modes) a.subject a.certificate
  law = first_broken (List (List Value)) (GivesTrace a.model) (IsFlatTrace a.model) (ReachesTop a.model a.top) (HasFailedNumber a.model a.modes) a.subject a.certificate

  pub judged_of_all : length a.certificate.traces ≡ length a.certificate.sets → (j : Judged) → Finds a (sites_of a.certificate) j → IsJudged a j
  judged_of_all one Yes f = (law one).0 f.each
  judged_of_all one (No line number) f = record {
    rule = f.broken.rule;
    has_number = f.broken.has_number;
    objection = subst (λ k. IsObjectionIn a k f.broken.rule) f.at_line ((law one).1 f.before f.after f.site f.broken.rule f.lie f.kept f.broken.first);
  }
