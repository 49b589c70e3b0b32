-- The case over the modes of a slice gives the branch of the mode that stands.
use Rattle.std.proofs.Common.{◌≡◌, inl, inr, Bool, true, false, List, [], ◌∷◌, Some, None, refl, sym, ap, subst}
use Rattle.std.specs.Prelude.{if◌then◌else◌}
use Rattle.smv_language.specs.Language.{Text, Path, Formula, one, same_text, Leaves, evaluate, evaluate_branches, gives_choice, Each}
use Rattle.smv_language.specs.Values.{truth}
use Rattle.smv_language.proofs.ValueLaws.{same_text_refl}
use Rattle.fault_instructions.specs.Instructions.{ModeTree}
use Rattle.fault_instructions.specs.AddedNames.{ModeState}
use Rattle.fault_instructions.specs.Templates.{stands}
use Rattle.fault_weave.specs.WovenProgram.{mode_branches}
use Rattle.fault_instructions.specs.Weavable.{Among}
use Rattle.smv_language.proofs.OneTree.{same_text_equal}
use Rattle.fault_instructions.specs.EffectLaw.{stands_at}

-- the branch that the case takes
abbrev pub chosen : (ModeTree → Formula) → Formula → ModeState → List ModeTree → Formula
chosen f last st [] = last
chosen f last st (m ∷ ms) = if stands_at st m.name then f m else chosen f last st ms

pub case_value : (now next : Leaves Path) (s : Text) (st : ModeState) (f : ModeTree → Formula) (last : Formula) (ms : List ModeTree) →
    Each (λ m. evaluate now next (stands s m.name) ≡ Some (one (truth (stands_at st m.name)))) ms →
    evaluate_branches now next (mode_branches s f last ms) ≡ evaluate now next (chosen f last st ms)
case_value now next s st f last [] h = refl
case_value now next s st f last (m ∷ ms) h = rw (h.0) (go (stands_at st m.name) (case_value now next s st f last ms h.1))
  where
    go : (b : Bool) → evaluate_branches now next (mode_branches s f last ms) ≡ evaluate now next (chosen f last st ms) →
        gives_choice (Some (one (truth b))) (evaluate now next (f m)) (evaluate_branches now next (mode_branches s f last ms)) ≡ evaluate now next (if b then f m else chosen f last st ms)
    go true e = refl
    go false e = e

pub chosen_none : (f : ModeTree → Formula) (last : Formula) (ms : List ModeTree) → chosen f last None ms ≡ last
chosen_none f last [] = refl
chosen_none f last (m ∷ ms) = chosen_none f last ms

pub chosen_some : (f : ModeTree → Formula) (last : Formula) (ms : List ModeTree) (m : ModeTree) → Among ms m → ((b : ModeTree) → Among ms b → m.name ≡ b.name → m ≡ b) →
    chosen f last (Some m.name) ms ≡ f m
chosen_some f last [] m a h = absurd a
chosen_some f last (n ∷ ms) m a h = go (same_text m.name n.name) refl a (λ b. chosen_some f last ms m b (λ c d. h c (inr d)))
  where
    go : (b : Bool) → same_text m.name n.name ≡ b → Among (n ∷ ms) m → (Among ms m → chosen f last (Some m.name) ms ≡ f m) → (if b then f n else chosen f last (Some m.name) ms) ≡ f m
    go true e a more = ap f (sym (h n (inl refl) (same_text_equal _ _ e)))
    go false e (inl is) more = let yes' : same_text m.name n.name ≡ true = subst (λ k. same_text m.name k.name ≡ true) (sym is) (same_text_refl m.name) in cc
    go false e (inr b) more = more b
