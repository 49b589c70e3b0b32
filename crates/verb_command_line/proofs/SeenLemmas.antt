-- A fault is known by its rule and its place.
use Rattle.std.proofs.Common.{◌≡◌, ℕ, if◌then◌else◌, sym, ap, ◌∙◌, refl}
use Rattle.std.specs.Prelude.{nat_eq}
use Rattle.verb_command_line.specs.declared.fault.WordFault.{WordFault}
use Rattle.verb_command_line.specs.declared.fault.WordFault.TheVariants as fault
use Rattle.verb_command_line.specs.CommandView.{rule_of, place_of}

-- the fault of a rule and a place
abbrev fault_with : ℕ → ℕ → WordFault
fault_with rule place =
    if nat_eq rule 1 then fault.NoVerb place
    else (if nat_eq rule 2 then fault.UnknownVerb place
    else (if nat_eq rule 3 then fault.UnknownOption place
    else (if nat_eq rule 4 then fault.Twice place
    else (if nat_eq rule 5 then fault.Missing place
    else (if nat_eq rule 6 then fault.NoValue place
    else (if nat_eq rule 7 then fault.BadNumber place
    else (if nat_eq rule 8 then fault.SameName place
    else fault.NotInSet place)))))))

is_with : (f : WordFault) → fault_with (rule_of f) (place_of f) ≡ f
is_with (fault.NoVerb at) = refl
is_with (fault.UnknownVerb at) = refl
is_with (fault.UnknownOption at) = refl
is_with (fault.Twice at) = refl
is_with (fault.Missing at) = refl
is_with (fault.NoValue at) = refl
is_with (fault.BadNumber at) = refl
is_with (fault.SameName at) = refl
is_with (fault.NotInSet at) = refl

pub same_fault : (f g : WordFault) → rule_of f ≡ rule_of g → place_of f ≡ place_of g → f ≡ g
same_fault f g rules places = sym (is_with f) ∙ ap (λ r. fault_with r (place_of f)) rules ∙ ap (λ p. fault_with (rule_of g) p) places ∙ is_with g
