-- Members that were met.
use Rattle.std.specs.Prelude.{◌≡◌, ◌||◌, Bool, false, List, [], ◌∷◌}
use Rattle.std.specs.Ordering.{int_eq}
use Rattle.indexmap.specs.IndexSet.{contains}
use Rattle.smv_language.specs.declared.program.Member.{Member}
use Rattle.smv_language.specs.declared.program.Member.TheVariants as member
use Rattle.smv_language.specs.Language.{is_among, texts}
use Rattle.smv_type_laws.specs.DeclaredKinds.{same_member}
use Rattle.smv_types.specs.declared.members.MetMembers.{MetMembers}

-- the member was met
abbrev pub has_met : MetMembers → Member → Bool
has_met met (member.Number n) = contains int_eq met.numbers n
has_met met (member.Symbol x) = is_among (texts met.texts.keys) x

-- one member more was met
abbrev pub AddsMember : MetMembers → Member → MetMembers → Type 0
AddsMember before m after = (n : Member) → has_met after n ≡ (same_member m n || has_met before n)

-- none was met
abbrev pub IsFirstMet : MetMembers → Type 0
IsFirstMet met = (n : Member) → has_met met n ≡ false

-- some member of a list stands before itself in it, or is among those before the list
abbrev pub met_again : (Member → Bool) → List Member → Bool
met_again met [] = false
met_again met (m ∷ ms) = met m || met_again (λ n. same_member m n || met n) ms
