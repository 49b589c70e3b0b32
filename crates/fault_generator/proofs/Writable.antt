-- The generated trees can be written: every name in them is a name.
use Rattle.std.proofs.Common.{◌≡◌, ℕ, zero, suc, ap, ◌+◌, ◌<◌, ◌≤◌, ◌^◌, Bool, true, false, List, [], ◌∷◌, length, Option, Some, None, refl, arith}
use Rattle.std.specs.Prelude.{nat_eq, codes}
use Rattle.std.specs.Char.{is_ascii_digit}
use Rattle.std.specs.Fmt.{decimal}
use Rattle.std.proofs.lemmas.Bool.Decides.{nat_tests}
use Rattle.smv_lexer.specs.Runs.{Runs, takes_digit}
use Rattle.smv_language.specs.Language.{Each, is_reserved, IsName, IsWritable, IsWritableDecl, IsWritableSection, IsWritableModule, IsWritableProgram}
use Rattle.smv_language.proofs.TokenTexts.{decimal_digits}
use Rattle.fault_instructions.specs.WritableInstructions.{IsWritableMode, IsWritableSlice, IsWritableInstructions}
use Rattle.fault_generator.specs.Generator.{next_number, stage_name, output_of, stage, with_stage, with_stages, rails_after, rails_of, Rails, relay_variables, relay_assignments, relay_module, dead_section, main_module, generated_model, off_mode, relay_slice, generated_instructions, generated_top}
use Rattle.smv_language.proofs.EachLaws.{each_end}
use Rattle.smv_lexer.proofs.ByteLaws.{digits_in_word}

no_letter : (d : ℕ) → is_ascii_digit d ≡ true → nat_eq 101 d ≡ false
no_letter d h = grind (arith, nat_tests)

not_reserved : (ds : List ℕ) → Runs takes_digit ds [] → is_reserved (114 ∷ ds) ≡ false
not_reserved [] h = refl
not_reserved (d ∷ ds) h = rw (no_letter d h.0) refl

pub stage_named : (i : ℕ) → i < 2 ^ 64 → IsName (stage_name i)
stage_named i h = let digits = decimal_digits i h in (not_reserved (decimal i) digits.runs, (refl, digits_in_word (decimal i) digits.runs))

out_named : IsName (codes "out")
out_named = (refl, (refl, (refl, (refl, tt))))

relay_named : IsName (codes "Relay")
relay_named = (refl, (refl, (refl, (refl, (refl, (refl, tt))))))

feed_named : IsName (codes "feed")
feed_named = (refl, (refl, (refl, (refl, (refl, tt)))))

dead_named : IsName (codes "dead")
dead_named = (refl, (refl, (refl, (refl, (refl, tt)))))

main_named : IsName (codes "main")
main_named = (refl, (refl, (refl, (refl, (refl, tt)))))

never_empty : {A : Type 0} (x : A) (xs : List A) → x ∷ xs ≡ [] → ⊥
never_empty x xs e = cc

-- the last stage of a rail has a number that is not too large
abbrev IsSmallLast : Option ℕ → Type 0
IsSmallLast None = Unit {0}
IsSmallLast (Some i) = i < 2 ^ 64

output_writable : (last : Option ℕ) → IsSmallLast last → IsWritable (output_of last)
output_writable None h = tt
output_writable (Some i) h = (never_empty (stage_name i) (codes "out" ∷ []), (stage_named i h, (out_named, tt)))

stage_writable : (i : ℕ) (before : Option ℕ) → i < 2 ^ 64 → IsSmallLast before → IsWritableDecl (stage i before)
stage_writable i before h small = (stage_named i h, (relay_named, (output_writable before small, tt)))

record AreWritableRails (rails : Rails) : Type 0 where
  stages : Each IsWritableDecl rails.stages
  last_a : IsSmallLast rails.last_a
  last_b : IsSmallLast rails.last_b

with_writable : (b : Bool) (i : ℕ) (rails : Rails) → i < 2 ^ 64 → AreWritableRails rails → AreWritableRails (with_stage b i rails)
with_writable true i rails h are = record { stages = each_end IsWritableDecl rails.stages (stage i rails.last_a) are.stages (stage_writable i rails.last_a h are.last_a); last_a = h; last_b = are.last_b }
with_writable false i rails h are = record { stages = each_end IsWritableDecl rails.stages (stage i rails.last_b) are.stages (stage_writable i rails.last_b h are.last_b); last_a = are.last_a; last_b = h }

rails_writable : (bs : List Bool) (i : ℕ) (rails : Rails) → i + length bs ≤ 2 ^ 64 → AreWritableRails rails → AreWritableRails (with_stages bs i rails)
rails_writable [] i rails h are = are
rails_writable (b ∷ bs) i rails h are = rails_writable bs (suc i) (with_stage b i rails) (omega (arith, h)) (with_writable b i rails (omega (arith, h)) are)

pub as_many : (n s : ℕ) → length (rails_after n s) ≡ n
as_many zero s = refl
as_many (suc n) s = ap suc (as_many n (next_number s))

relay_variables_writable : IsWritableSection relay_variables
relay_variables_writable = ((out_named, tt), tt)

relay_assignments_writable : IsWritableSection relay_assignments
relay_assignments_writable = ((never_empty (codes "out") [], (out_named, tt), (never_empty (codes "feed") [], (feed_named, tt))), tt)

relay_writable : IsWritableModule relay_module
relay_writable = (relay_named, (feed_named, tt), (relay_variables_writable, (relay_assignments_writable, tt)))

dead_writable : (last_a last_b : Option ℕ) → IsSmallLast last_a → IsSmallLast last_b → IsWritableSection (dead_section last_a last_b)
dead_writable last_a last_b a b = ((dead_named, (output_writable last_a a, output_writable last_b b)), tt)

main_writable : (rails : Rails) → AreWritableRails rails → IsWritableModule (main_module rails)
main_writable rails are = (main_named, tt, (are.stages, (dead_writable rails.last_a rails.last_b are.last_a are.last_b, tt)))

pub model_writable : (number stages : ℕ) → stages < 2 ^ 32 → IsWritableProgram (generated_model number stages)
model_writable number stages h =
    let are : AreWritableRails (rails_of number stages) =
    rails_writable (rails_after stages number) 1 (record { stages = []; last_a = None; last_b = None }) (omega (arith, h, as_many stages number)) (record { stages = tt; last_a = tt; last_b = tt }) in
    (relay_writable, (main_writable (rails_of number stages) are, tt))

off_named : IsName (codes "off")
off_named = (refl, (refl, (refl, (refl, tt))))

slice_named : IsName (codes "R")
slice_named = (refl, (refl, tt))

off_writable : IsWritableMode off_mode
off_writable = (off_named, tt, tt, tt)

slice_writable : IsWritableSlice relay_slice
slice_writable = (slice_named, out_named, never_empty off_mode [], (off_writable, tt))

pub instructions_writable : IsWritableInstructions generated_instructions
instructions_writable = (tt, ((relay_named, (slice_writable, tt)), tt))

pub top_writable : IsWritable generated_top
top_writable = (never_empty (codes "dead") [], (dead_named, tt))
