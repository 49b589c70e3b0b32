-- What is found at the sites of a certificate: that every rule is kept at all of them, or which is broken first.
use Rattle.std.specs.Prelude.{◌≡◌, ◌≢◌, ◌⊎◌, ◌≤◌, ◌<◌, ℕ, List, [], ◌∷◌, ◌++◌, Option, Some, None}
use Rattle.std.specs.List.{AllByRecursion}
use Rattle.cert_laws.specs.Certificate.{Site, line_of}
use Rattle.cert_laws.specs.Acceptance.{Rule, number_of}
use Rattle.cert_check.specs.Matter.{Matter, IsAcceptedIn, IsObjectionIn, KeepsAllIn, BreaksFirstIn}
use Rattle.cert_check.specs.declared.judged.Judged.{Judged}
use Rattle.cert_check.specs.declared.judged.Judged.TheVariants.{Yes, No}

module _ (a : Matter) where
  -- every rule is kept at the site
  pub record IsKeptAt (site : Site) : Type 0 where
    pub all : KeepsAllIn a site

  -- the rule of this number is the first that is broken there
  pub record IsBrokenAt (site : Site) (number : ℕ) : Type 0 where
    pub rule : Rule
    pub has_number : number_of rule ≡ number
    pub first : BreaksFirstIn a site rule

  -- which rule is broken first at the site, where one is
  abbrev pub FindsAt : Site → Option ℕ → Type 0
  FindsAt site None = IsKeptAt site
  FindsAt site (Some number) = IsBrokenAt site number

  -- which rule is broken first there, where rule 12 is broken last
  pub data FindsUnlisted (site : Site) : ℕ → Type 0 where
    one_before : (number : ℕ) → IsBrokenAt site number → FindsUnlisted site number
    none_before : IsKeptAt site → FindsUnlisted site 12

  -- every rule is kept at all sites
  pub record AreKept (sites : List Site) : Type 0 where
    pub each : AllByRecursion (KeepsAllIn a) sites

  -- a site is the first of them at which a rule is broken, which is the first there
  pub record IsFirstBroken (sites : List Site) (line number : ℕ) : Type 0 where
    pub before : List Site
    pub site : Site
    pub after : List Site
    pub lie : sites ≡ before ++ site ∷ after
    pub kept : AllByRecursion (KeepsAllIn a) before
    pub at_line : line_of a.certificate site ≡ line
    pub broken : IsBrokenAt site number

  -- what is found at sites in their order
  abbrev pub Finds : List Site → Judged → Type 0
  Finds sites Yes = AreKept sites
  Finds sites (No line number) = IsFirstBroken sites line number

  -- the line and the rule of this number are the certificate's objection
  pub record IsObjectionOf (line number : ℕ) : Type 0 where
    pub rule : Rule
    pub has_number : number_of rule ≡ number
    pub objection : IsObjectionIn a line rule

  -- what is answered: yes where the certificate is accepted, and else its objection
  abbrev pub IsJudged : Judged → Type 0
  IsJudged Yes = IsAcceptedIn a
  IsJudged (No line number) = IsObjectionOf line number

  -- The objection where no set may be listed: rule 12 is broken at line 4, that of the first set, where there is one, and comes
  -- after the other rules of that line.
  pub data IsObjectionUnlisted : ℕ → ℕ → Type 0 where
    of_another : (line number : ℕ) → IsObjectionOf line number → (a.certificate.sets ≡ []) ⊎ (line ≤ 4) → IsObjectionUnlisted line number
    of_its_set : a.certificate.sets ≢ [] → ((line number : ℕ) → IsObjectionOf line number → 4 < line) → IsObjectionUnlisted 4 12

  -- what is answered where no set may be listed
  abbrev pub IsJudgedUnlisted : Judged → Type 0
  IsJudgedUnlisted Yes = IsAcceptedIn a × (a.certificate.sets ≡ [])
  IsJudgedUnlisted (No line number) = IsObjectionUnlisted line number

  -- what is found in the rest is found in all: all before the rest is kept
  pub record GoesOn (rest all : List Site) : Type 0 where
    pub on : (j : Judged) → Finds rest j → Finds all j
