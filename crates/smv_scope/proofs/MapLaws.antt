-- A map of texts tells the first entry of a text, and a new entry stands last.
use Rattle.std.proofs.Common.{◌≡◌, ℕ, Bool, true, false, List, [], ◌∷◌, ◌++◌, Option, Some, None, is_some, refl, ap, ◌∙◌, sym, Bor}
use Rattle.std.proofs.lemmas.List.{map-append}
use Rattle.indexmap.specs.IndexMap.{IndexMap, get, insert_entry}
use Rattle.indexmap.proofs.CallerLemmas.{insert_entry-new}
use Rattle.smv_language.specs.Language.{Text, same_text, is_among, first_with, same_borrowed}
use Rattle.smv_scope.specs.ModuleFaults.{texts_of}
use Rattle.smv_scope.specs.SceneTree.{named}
use Rattle.smv_scope.proofs.Tables.{looked_up}

pub is_there : {V : Type 0} (es : List (Text × V)) (x : Text) → is_some (first_with es x) ≡ is_among (texts_of es) x
is_there [] x = refl
is_there (e ∷ es) x = by_test (same_text e.0 x) refl (is_there es x)
  where
    by_test : (b : Bool) → same_text e.0 x ≡ b → is_some (first_with es x) ≡ is_among (texts_of es) x → is_some (first_with (e ∷ es) x) ≡ is_among (texts_of (e ∷ es)) x
    by_test true t rest = rw t refl
    by_test false t rest = rw t rest

not_some : {V : Type 0} (o : Option V) → is_some o ≡ false → o ≡ None
not_some None e = refl
not_some (Some v) e = let bad : true ≡ false = e in cc

module _ {V S : Type 0} (m : IndexMap (Bor (List ℕ)) V S) (k : Bor (List ℕ)) (old : Option V) (is : old ≡ get same_borrowed m k) where
  -- a text has an entry where it is among those that have one
  pub seen : (b : Bool) → is_some old ≡ b → is_among (texts_of (named m.entries)) k.now ≡ b
  seen b e = sym (is_there (named m.entries) k.now) ∙ sym (ap is_some (is ∙ looked_up k.now m.entries)) ∙ e

  pub stands_last : (v : V) (new : List (Bor (List ℕ) × V)) → is_some old ≡ false → new ≡ insert_entry same_borrowed m.entries k v → named new ≡ named m.entries ++ (k.now, v) ∷ []
  stands_last v new e made =
      ap named (made ∙ insert_entry-new same_borrowed m k v (sym is ∙ not_some old e))
      ∙ map-append (λ (e : Bor (List ℕ) × V). (e.0.now, e.1)) m.entries ((k, v) ∷ [])
