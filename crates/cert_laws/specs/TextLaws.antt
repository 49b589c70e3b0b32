-- The laws of certificate texts.
use Rattle.std.specs.Prelude.{◌≡◌, ℕ, List}
use Rattle.cert_laws.specs.Certificate.{Certificate}
use Rattle.cert_laws.specs.CertificateText.{SpellsCertificate, IsBadLine, EndsBefore}

-- bytes spell at most one certificate
abbrev pub OneCertificate : Type 0
OneCertificate = (bytes : List ℕ) (c d : Certificate) → SpellsCertificate bytes c → SpellsCertificate bytes d → c ≡ d

-- at most one line of them is the first that is wrong, or is missing
abbrev pub OneWrongLine : Type 0
OneWrongLine =
    ((bytes : List ℕ) (i j : ℕ) → IsBadLine bytes i → IsBadLine bytes j → i ≡ j)
    × ((bytes : List ℕ) (i j : ℕ) → EndsBefore bytes i → EndsBefore bytes j → i ≡ j)
    × ((bytes : List ℕ) (i j : ℕ) → IsBadLine bytes i → EndsBefore bytes j → ⊥)

-- and none where they spell a certificate
abbrev pub SpelledHasNone : Type 0
SpelledHasNone =
    ((bytes : List ℕ) (c : Certificate) (i : ℕ) → SpellsCertificate bytes c → IsBadLine bytes i → ⊥)
    × ((bytes : List ℕ) (c : Certificate) (i : ℕ) → SpellsCertificate bytes c → EndsBefore bytes i → ⊥)
