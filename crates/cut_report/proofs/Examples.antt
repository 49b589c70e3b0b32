-- Values by number, and a fault's lines, computed.
use Rattle.std.proofs.Common.{◌≡◌, refl, [], ◌∷◌, codes, true, pos}
use Rattle.std.specs.Fmt.{digits}
use Rattle.smv_language.specs.Values.{truth, number, symbol}
use Rattle.base_values.specs.declared.value.Value.TheVariants.{Bool as ABool, Num, Sym}
use Rattle.smv_language.specs.NumberedValues.{told_trace}
use Rattle.cut_report.specs.FaultText.{faults_text}

an_example : told_trace (codes "on" ∷ codes "off" ∷ []) ((Sym 1 ∷ Num (pos 3) ∷ ABool true ∷ []) ∷ []) ≡ (symbol (codes "off") ∷ number (pos 3) ∷ truth true ∷ []) ∷ []
an_example = refl

the_lines : faults_text ((codes "Lamp" ∷ codes "dark" ∷ []) ∷ (codes "a" ∷ codes "Eye" ∷ codes "wild" ∷ []) ∷ []) ≡ codes "faults 2\nfault 1 Lamp.dark\nfault 2 a.Eye.wild\n"
unfolding digits
the_lines = refl
