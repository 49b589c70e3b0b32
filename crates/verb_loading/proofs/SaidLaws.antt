-- What was said is a part of what is to be said, and counts of failed calls rise.
use Rattle.std.proofs.Common.{arith, ◌≡◌, ◌≤◌, ℕ, List, Option, Result, Ok, Err, OnOk, OnErr, length, sym, ap, subst, ◌∙◌}
use Rattle.std.proofs.Math.Seq.{take-length}
use Rattle.base_files.specs.Desk.{Rose, said_more, SaysPrefix}

-- what was said whole, or up to a refusal, is a part of the text
pub says_in_part : {A E : Type 0} (done : Result A E) (old new : Option (List ℕ)) (bytes text : List ℕ) → bytes ≡ text → OnOk done (new ≡ said_more old bytes) → OnErr done (SaysPrefix old new bytes) →
    SaysPrefix old new text
says_in_part (Ok x) old new bytes text same whole part =
    let fits : length text ≤ length text = omega arith in (length text, fits, whole ∙ ap (said_more old) (same ∙ sym (take-length text)))
says_in_part (Err e) old new bytes text same whole part = subst (SaysPrefix old new) same part

-- a count that rose from a later one rose
pub rose_later : (a b c : ℕ) → a ≤ b → Rose b c → Rose a c
rose_later a b c later rose = omega (arith, later, rose)
