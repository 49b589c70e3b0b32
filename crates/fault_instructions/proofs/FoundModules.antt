-- The module that a name finds is one of the program's.
use Rattle.std.proofs.Common.{◌≡◌, inl, inr, Bool, true, false, [], ◌∷◌, Some}
use Rattle.std.specs.Prelude.{if◌then◌else◌}
use Rattle.smv_language.specs.Language.{Text, ModuleTree, ProgramTree, same_text, find_module}
use Rattle.fault_instructions.specs.Weavable.{Among}

pub found_among : (q : ProgramTree) (x : Text) (m : ModuleTree) → find_module q x ≡ Some m → Among q m
found_among [] x m h = cc
found_among (n ∷ q) x m h = go (same_text n.name x) h (found_among q x m)
  where
    go : (b : Bool) → (if b then Some n else find_module q x) ≡ Some m → (find_module q x ≡ Some m → Among q m) → Among (n ∷ q) m
    go true h more = inl cc
    go false h more = inr (more h)
