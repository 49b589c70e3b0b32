-- What is wrong with bytes that spell no certificate.
use Rattle.std.specs.Prelude.{◌≡◌, ℕ, List, Option, None}
use Rattle.cert_laws.specs.CertificateText.{IsBadLine, EndsBefore}
use Rattle.cert_text.specs.declared.certificate.CertFault.{CertFault}
use Rattle.cert_text.specs.declared.certificate.CertFault.TheVariants as fault
use Rattle.cert_text.specs.declared.reading.LineRefusal.{LineRefusal}
use Rattle.cert_text.specs.declared.reading.LineRefusal.TheVariants as refusal

-- what is wrong first with the bytes, unless memory was wanting
abbrev pub IsFaultOf : List ℕ → CertFault → Type 0
IsFaultOf bytes (fault.BadLine n) = IsBadLine bytes n
IsFaultOf bytes (fault.Ends n) = EndsBefore bytes n
IsFaultOf bytes fault.OutOfMemory = Unit {0}

-- a line is refused where it says nothing, unless memory was wanting
abbrev pub IsRefused : {A : Type 0} → Option A → LineRefusal → Type 0
IsRefused said refusal.BadLine = said ≡ None
IsRefused said refusal.OutOfMemory = Unit {0}

-- the fault of the line of this number
abbrev pub fault_at : LineRefusal → ℕ → CertFault
fault_at refusal.BadLine n = fault.BadLine n
fault_at refusal.OutOfMemory n = fault.OutOfMemory
