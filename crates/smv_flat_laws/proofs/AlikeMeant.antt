-- In two instances of one module without formals a name means the same, each time below its own instance.
use Rattle.std.proofs.Common.{◌≡◌, ℕ, zero, suc, Bool, true, false, [], ◌∷◌, ◌++◌, Option, Some, None, refl, sym, ◌∙◌, ap, subst}
use Rattle.std.specs.Prelude.{flat_map, option_map, if◌then◌else◌}
use Rattle.std.proofs.lemmas.List.{append_cancel_right}
use Rattle.smv_language.specs.Language.{Text, Path, Formula, ProgramTree, Place, Kind, a_formal, a_variable, an_instance, undeclared, Key, define_key, actual_key, Meaning, a_variable_at, an_expression_at, an_instance_at, Means, means_in, by_kind, through_actual, through_plain, plain_name, formal_from, kind_after_formals, kind_in_sections, kind_in, kind_at, module_at, module_of_kind, actual_of_kind, is_symbol}
use Rattle.smv_language.specs.Scope.{a_define, a_symbol}
use Rattle.smv_flat_laws.specs.Items.{items_of_section}
use Rattle.smv_flat_laws.specs.Looks.{Look, at_actual, plain_of, step_kind, step_of, step_on, look_after, ComesBack, MeetsLoop}
use Rattle.smv_flat_laws.specs.Alike.{AreAlike}
use Rattle.smv_flat_laws.proofs.KindLaws.{sections_kind}
use Rattle.smv_flat_laws.proofs.Meant.{declares_no_formal}

-- what is known of an instance, seen from the instance in which that one lies
abbrev pub key_onto : Place → Key → Key
key_onto c (define_key s x) = define_key (s ++ c) x
key_onto c (actual_key s i) = actual_key (s ++ c) i

abbrev pub onto : Place → Meaning → Meaning
onto c (a_variable_at s x) = a_variable_at (s ++ c) x
onto c (an_expression_at key s e) = an_expression_at (key_onto c key) (s ++ c) e
onto c (an_instance_at s) = an_instance_at (s ++ c)
onto c (a_symbol x) = a_symbol x

abbrev pub look_onto : Place → Look → Look
look_onto c l = record { place = l.place ++ c; name = l.name }

-- the definition is no actual of the instance itself
abbrev pub IsInside : Key → Type 0
IsInside (define_key s x) = Unit {0}
IsInside (actual_key [] i) = ⊥
IsInside (actual_key (x ∷ s) i) = Unit {0}

abbrev pub MeansInside : Meaning → Type 0
MeansInside (an_expression_at key s e) = IsInside key
MeansInside (a_variable_at s x) = Unit {0}
MeansInside (an_instance_at s) = Unit {0}
MeansInside (a_symbol x) = Unit {0}

abbrev pub MayMeanInside : Option Meaning → Type 0
MayMeanInside None = Unit {0}
MayMeanInside (Some m) = MeansInside m

-- instances are alike both ways
pub alike_back : (p : ProgramTree) (a b : Place) → AreAlike p a b → AreAlike p b a
alike_back p a b h = record { tree = h.tree; first = h.second; second = h.first; no_formals = h.no_formals }

module _ (p : ProgramTree) (a b : Place) (alike : AreAlike p a b) where
  pub same_module : (r : Place) → module_at p (r ++ b) ≡ module_at p (r ++ a)
  same_module [] = alike.second ∙ sym alike.first
  same_module (x ∷ r) = ap (λ o. module_of_kind p (kind_at o x)) (same_module r)

  pub same_kind : (r : Place) (x : Text) → kind_at (module_at p (r ++ b)) x ≡ kind_at (module_at p (r ++ a)) x
  same_kind r x = ap (λ o. kind_at o x) (same_module r)

  no_formal_here : (x : Text) (i : ℕ) → kind_at (module_at p a) x ≡ a_formal i → ⊥
  no_formal_here x i k =
      let in_tree : kind_in alike.tree x ≡ a_formal i = ap (λ o. kind_at o x) (sym alike.first) ∙ k in
      let in_sections : kind_in_sections alike.tree.sections x ≡ a_formal i =
      ap (λ fs. kind_after_formals (formal_from 0 fs x) (kind_in_sections alike.tree.sections x)) (sym alike.no_formals) ∙ in_tree in
      declares_no_formal (flat_map items_of_section alike.tree.sections) x i (sections_kind alike.tree.sections x ∙ in_sections)

  -- both look-ups find one thing, each in its own instance
  pub record Both (x y : Option Meaning) : Type 0 where
    pub found : Option Meaning
    pub inside : MayMeanInside found
    pub first : x ≡ option_map (onto a) found
    pub second : y ≡ option_map (onto b) found

  nothing : Both None None
  nothing = record { found = None; inside = tt; first = refl; second = refl }

  module _ (n : ℕ) (goes : (r : Place) (name : Path) → Both (means_in n p (r ++ a) name) (means_in n p (r ++ b) name)) where
    both_plain : (own : Text) (s : Place) (i : ℕ) (e : Formula) (o : Option Path) (rest : Path) →
        Both (through_plain (means_in n p) (actual_key (own ∷ (s ++ a)) i) (s ++ a) e o rest) (through_plain (means_in n p) (actual_key (own ∷ (s ++ b)) i) (s ++ b) e o rest)
    both_plain own s i e (Some []) rest = nothing
    both_plain own s i e (Some (x ∷ name)) rest = goes s (x ∷ (name ++ rest))
    both_plain own s i e None [] = record { found = Some (an_expression_at (actual_key (own ∷ s) i) s e); inside = tt; first = refl; second = refl }
    both_plain own s i e None (x ∷ rest) = nothing

    both_actual : (own : Text) (s : Place) (i : ℕ) (o : Option Formula) (rest : Path) →
        Both (through_actual (means_in n p) (actual_key (own ∷ (s ++ a)) i) (s ++ a) o rest) (through_actual (means_in n p) (actual_key (own ∷ (s ++ b)) i) (s ++ b) o rest)
    both_actual own s i None rest = nothing
    both_actual own s i (Some e) rest = both_plain own s i e (plain_name e) rest

    both_symbol : (t : Bool) (x : Text) → Both (if t then Some (a_symbol x) else None) (if t then Some (a_symbol x) else None)
    both_symbol true x = record { found = Some (a_symbol x); inside = tt; first = refl; second = refl }
    both_symbol false x = nothing

    both_kind : (r : Place) (k : Kind) (x : Text) (rest : Path) → kind_at (module_at p (r ++ a)) x ≡ k →
        Both (by_kind (means_in n p) p (r ++ a) k x rest) (by_kind (means_in n p) p (r ++ b) k x rest)
    both_kind [] (a_formal i) x rest e = absurd (no_formal_here x i e)
    both_kind (own ∷ s) (a_formal i) x rest e =
        subst (λ o. Both (through_actual (means_in n p) (actual_key (own ∷ (s ++ a)) i) (s ++ a) (actual_of_kind (kind_at (module_at p (s ++ a)) own) i) rest)
        (through_actual (means_in n p) (actual_key (own ∷ (s ++ b)) i) (s ++ b) (actual_of_kind o i) rest))
        (sym (same_kind s own)) (both_actual own s i (actual_of_kind (kind_at (module_at p (s ++ a)) own) i) rest)
    both_kind r (a_variable role what) x [] e = record { found = Some (a_variable_at r x); inside = tt; first = refl; second = refl }
    both_kind r (a_variable role what) x (y ∷ rest) e = nothing
    both_kind r (a_define d) x [] e = record { found = Some (an_expression_at (define_key r x) r d); inside = tt; first = refl; second = refl }
    both_kind r (a_define d) x (y ∷ rest) e = nothing
    both_kind r (an_instance m actuals) x [] e = record { found = Some (an_instance_at (x ∷ r)); inside = tt; first = refl; second = refl }
    both_kind r (an_instance m actuals) x (y ∷ rest) e = goes (x ∷ r) (y ∷ rest)
    both_kind r undeclared x [] e = both_symbol (is_symbol p x) x
    both_kind r undeclared x (y ∷ rest) e = nothing

  pub both_mean : (n : ℕ) (r : Place) (name : Path) → Both (means_in n p (r ++ a) name) (means_in n p (r ++ b) name)
  both_mean zero r name = nothing
  both_mean (suc n) r [] = nothing
  both_mean (suc n) r (x ∷ rest) =
      subst (λ k. Both (by_kind (means_in n p) p (r ++ a) (kind_at (module_at p (r ++ a)) x) x rest) (by_kind (means_in n p) p (r ++ b) k x rest))
      (sym (same_kind r x)) (both_kind n (both_mean n) r (kind_at (module_at p (r ++ a)) x) x rest refl)

  -- what a name means in the second instance, and what it means in the first
  pub record Moved (r : Place) (name : Path) (meaning : Meaning) : Type 0 where
    pub found : Meaning
    pub inside : MeansInside found
    pub is : meaning ≡ onto b found
    pub means : Means p (r ++ a) name (onto a found)

  pub means_moved : (r : Place) (name : Path) (meaning : Meaning) → Means p (r ++ b) name meaning → Moved r name meaning
  means_moved r name meaning h = let t : Both (means_in h.0 p (r ++ a) name) (means_in h.0 p (r ++ b) name) = both_mean h.0 r name in by_found t.found t.inside t.first t.second
    where
      by_found : (o : Option Meaning) → MayMeanInside o → means_in h.0 p (r ++ a) name ≡ option_map (onto a) o → means_in h.0 p (r ++ b) name ≡ option_map (onto b) o →
          Moved r name meaning
      by_found None inside f s = let bad : None ≡ Some meaning = sym s ∙ h.1 in cc
      by_found (Some found) inside f s =
          let same : Some (onto b found) ≡ Some meaning = sym s ∙ h.1 in
          record { found = found; inside = inside; is = cc; means = (h.0, f) }

  pub nothing_moved : (r : Place) (name : Path) → ((n : ℕ) → means_in n p (r ++ b) name ≡ None) → (n : ℕ) → means_in n p (r ++ a) name ≡ None
  nothing_moved r name h n = let t : Both (means_in n p (r ++ a) name) (means_in n p (r ++ b) name) = both_mean n r name in by_found t.found t.first t.second
    where
      by_found : (o : Option Meaning) → means_in n p (r ++ a) name ≡ option_map (onto a) o → means_in n p (r ++ b) name ≡ option_map (onto b) o → means_in n p (r ++ a) name ≡ None
      by_found None f s = f
      by_found (Some found) f s = let bad : Some (onto b found) ≡ None = sym s ∙ h n in cc

  -- both look-ups go on to one name, each in its own instance
  pub record BothLooks (x y : Option Look) : Type 0 where
    pub found : Option Look
    pub first : x ≡ option_map (look_onto a) found
    pub second : y ≡ option_map (look_onto b) found

  no_look : BothLooks None None
  no_look = record { found = None; first = refl; second = refl }

  both_at : (s : Place) (o : Option Path) (rest : Path) → BothLooks (at_actual (s ++ a) o rest) (at_actual (s ++ b) o rest)
  both_at s None rest = no_look
  both_at s (Some []) rest = no_look
  both_at s (Some (x ∷ name)) rest = record { found = Some (record { place = s; name = x ∷ (name ++ rest) }); first = refl; second = refl }

  both_step_kind : (r : Place) (k : Kind) (x : Text) (rest : Path) → kind_at (module_at p (r ++ a)) x ≡ k → BothLooks (step_kind p (r ++ a) k x rest) (step_kind p (r ++ b) k x rest)
  both_step_kind [] (a_formal i) x rest e = absurd (no_formal_here x i e)
  both_step_kind (own ∷ s) (a_formal i) x rest e =
      subst (λ o. BothLooks (at_actual (s ++ a) (plain_of (actual_of_kind (kind_at (module_at p (s ++ a)) own) i)) rest) (at_actual (s ++ b) (plain_of (actual_of_kind o i)) rest))
      (sym (same_kind s own)) (both_at s (plain_of (actual_of_kind (kind_at (module_at p (s ++ a)) own) i)) rest)
  both_step_kind r (a_variable role what) x rest e = no_look
  both_step_kind r (a_define d) x rest e = no_look
  both_step_kind r (an_instance m actuals) x [] e = no_look
  both_step_kind r (an_instance m actuals) x (y ∷ rest) e = record { found = Some (record { place = x ∷ r; name = y ∷ rest }); first = refl; second = refl }
  both_step_kind r undeclared x rest e = no_look

  both_step : (r : Place) (name : Path) → BothLooks (step_of p (r ++ a) name) (step_of p (r ++ b) name)
  both_step r [] = no_look
  both_step r (x ∷ rest) =
      subst (λ k. BothLooks (step_kind p (r ++ a) (kind_at (module_at p (r ++ a)) x) x rest) (step_kind p (r ++ b) k x rest))
      (sym (same_kind r x)) (both_step_kind r (kind_at (module_at p (r ++ a)) x) x rest refl)

  both_on : (o : Option Look) → BothLooks (step_on p (option_map (look_onto a) o)) (step_on p (option_map (look_onto b) o))
  both_on None = no_look
  both_on (Some l) = both_step l.place l.name

  pub both_look : (n : ℕ) (r : Place) (name : Path) → BothLooks (look_after n p (r ++ a) name) (look_after n p (r ++ b) name)
  both_look zero r name = record { found = Some (record { place = r; name = name }); first = refl; second = refl }
  both_look (suc n) r name =
      let t : BothLooks (look_after n p (r ++ a) name) (look_after n p (r ++ b) name) = both_look n r name in
      let next : BothLooks (step_on p (option_map (look_onto a) t.found)) (step_on p (option_map (look_onto b) t.found)) = both_on t.found in
      record { found = next.found; first = ap (step_on p) t.first ∙ next.first; second = ap (step_on p) t.second ∙ next.second }

  -- a look-up that has come to a name, and where it has come in the other instance
  pub record LookMoved (n : ℕ) (r : Place) (name : Path) (l : Look) : Type 0 where
    pub place : Place
    pub is : l.place ≡ place ++ b
    pub after : look_after n p (r ++ a) name ≡ Some (record { place = place ++ a; name = l.name })

  pub look_moved : (n : ℕ) (r : Place) (name : Path) (l : Look) → look_after n p (r ++ b) name ≡ Some l → LookMoved n r name l
  look_moved n r name l h = let t : BothLooks (look_after n p (r ++ a) name) (look_after n p (r ++ b) name) = both_look n r name in by_found t.found t.first t.second
    where
      by_found : (o : Option Look) → look_after n p (r ++ a) name ≡ option_map (look_onto a) o → look_after n p (r ++ b) name ≡ option_map (look_onto b) o → LookMoved n r name l
      by_found None f s = let bad : None ≡ Some l = sym s ∙ h in cc
      by_found (Some k) f s =
          let same : Some (look_onto b k) ≡ Some l = sym s ∙ h in
          let is : look_onto b k ≡ l = cc in
          record { place = k.place; is = ap (λ (u : Look). u.place) (sym is); after = f ∙ ap (λ (u : Look). Some (record { place = k.place ++ a; name = u.name })) is }

  pub comes_back_moved : (s : Place) (x : Text) → ComesBack p (s ++ b) x → ComesBack p (s ++ a) x
  comes_back_moved s x h =
      let t : LookMoved (suc h.0) s (x ∷ []) (record { place = s ++ b; name = x ∷ h.1 }) = look_moved (suc h.0) s (x ∷ []) (record { place = s ++ b; name = x ∷ h.1 }) h.2 in
      let same : t.place ≡ s = sym (append_cancel_right s t.place b t.is) in
      (h.0, h.1, t.after ∙ ap (λ at. Some (record { place = at ++ a; name = x ∷ h.1 })) same)

  pub meets_moved : (r : Place) (name : Path) → MeetsLoop p (r ++ b) name → MeetsLoop p (r ++ a) name
  meets_moved r name h =
      let t : LookMoved h.0 r name (record { place = h.1; name = h.2 ∷ h.3 }) = look_moved h.0 r name (record { place = h.1; name = h.2 ∷ h.3 }) h.4 in
      (h.0, t.place ++ a, h.2, h.3, t.after, comes_back_moved t.place h.2 (subst (λ at. ComesBack p at h.2) t.is h.5))
