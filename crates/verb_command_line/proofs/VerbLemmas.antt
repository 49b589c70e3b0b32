-- The verb of a name, and the command of a verb or the fault that was found.
use Rattle.std.proofs.Common.{◌≡◌, Bool, true, false, Option, Some, None, Ok, Err, if◌then◌else◌, ap, ◌∙◌, refl}
use Rattle.verb_command_line.specs.declared.fault.WordFault.{WordFault}
use Rattle.verb_command_line.specs.Commands.{Text}
use Rattle.verb_command_line.specs.WordReading.{command_or}

-- where one name after another is tried, the verb that is found has the name
pub verb_if : {V : Type 0} (name_of : V → Text) (name : Text) (t : Bool) (v : V) (next : Option V) → (t ≡ true → name ≡ name_of v) → ((w : V) → next ≡ Some w → name ≡ name_of w) →
    (w : V) → (if t then Some v else next) ≡ Some w → name ≡ name_of w
verb_if name_of name true v next here later w e = let same : v ≡ w = cc in here refl ∙ ap name_of same
verb_if name_of name false v next here later w e = later w e

pub or_err : {C : Type 0} (o : Option WordFault) (c : C) (f : WordFault) → command_or o c ≡ Err f → o ≡ Some f
or_err None c f e = cc
or_err (Some g) c f e = cc

pub or_ok : {C : Type 0} (o : Option WordFault) (c d : C) → command_or o c ≡ Ok d → (o ≡ None) × (c ≡ d)
or_ok None c d e = (refl, cc)
or_ok (Some g) c d e = cc
