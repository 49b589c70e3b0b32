-- A file within a limit has one content, or is refused in one way.
use Rattle.std.proofs.Common.{arith, ◌≡◌, inl, inr, ◌<◌, ℕ, List, [], length, Option, Some, None, unwrap_or, sym, ap, subst, ◌∙◌}
use Rattle.base_files.specs.declared.files.NamedFile.{NamedFile}
use Rattle.base_files.specs.Files.{file_of, content_of}
use Rattle.smv_language.specs.ProgramTree.{Text}
use Rattle.verb_loading.specs.declared.status.InputFault.{InputFault}
use Rattle.verb_loading.specs.Inputs.{IsRefusedAbove, HasAtMost}

module _ (limit : ℕ) (files : List NamedFile) (name : Text) where
  pub no_bytes_within : (fault : InputFault) (bytes : List ℕ) → IsRefusedAbove limit files name fault → HasAtMost limit files name bytes → ⊥
  no_bytes_within fault bytes (inl missing) has = let e : Path (Option (List ℕ)) None (Some bytes) = sym missing.1 ∙ has.held in cc
  no_bytes_within fault bytes (inr long) has =
      let content : content_of files name ≡ bytes = ap (λ file. unwrap_or file []) has.held in
      omega (arith, subst (λ b. limit < length b) content long.1, has.short)

  no_content_within : file_of files name ≡ None → limit < length (content_of files name) → ⊥
  no_content_within missing long =
      let content : content_of files name ≡ [] = ap (λ file. unwrap_or file []) missing in omega (arith, subst (λ b. limit < length b) content long)

  pub one_fault_above : (a b : InputFault) → IsRefusedAbove limit files name a → IsRefusedAbove limit files name b → a ≡ b
  one_fault_above a b (inl x) (inl y) = x.0 ∙ sym y.0
  one_fault_above a b (inr x) (inr y) = x.0 ∙ sym y.0
  one_fault_above a b (inl x) (inr y) = absurd (no_content_within x.1 y.1)
  one_fault_above a b (inr x) (inl y) = absurd (no_content_within y.1 x.1)

  pub same_bytes_within : (a b : List ℕ) → HasAtMost limit files name a → HasAtMost limit files name b → a ≡ b
  same_bytes_within a b x y = let e : Path (Option (List ℕ)) (Some a) (Some b) = sym x.held ∙ y.held in cc
