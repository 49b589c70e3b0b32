-- A program's definitions have one order.
use Rattle.std.proofs.Common.{◌≡◌, List, [], ◌∷◌, ◌++◌, Option, Some, None, refl, sym, ◌∙◌, ap, subst}
use Rattle.smv_language.specs.Language.{Formula, ProgramTree, Place, Key}
use Rattle.smv_flat_laws.specs.NameResolution.{leaves_in}
use Rattle.smv_flat_laws.specs.Rules.{expression_of}
use Rattle.smv_flat_laws.specs.Model.{AreNamed, is_key_among, Adds, AddsAll, stands, comes, no_more, one_more}
use Rattle.smv_flat_laws.proofs.OneModel.{named_one}
use Rattle.smv_language.proofs.BoolLaws.{not_both}

abbrev Written : Option (Place × Formula) → Place → Formula → Type 0
Written None at e = ⊥
Written (Some w) at e = (w.0 ≡ at) × (w.1 ≡ e)

pub one_written : (p : ProgramTree) (k : Key) (at bt : Place) (e f : Formula) → expression_of p k ≡ Some (at, e) → expression_of p k ≡ Some (bt, f) → (at ≡ bt) × (e ≡ f)
one_written p k at bt e f g h = subst (λ o. Written o bt f) (sym h ∙ g) (refl, refl)

needs_one : (p : ProgramTree) (k : Key) (at bt : Place) (e f : Formula) (needs needs' : List Key) → expression_of p k ≡ Some (at, e) → expression_of p k ≡ Some (bt, f) →
    AreNamed p at (leaves_in e) needs → AreNamed p bt (leaves_in f) needs' → needs' ≡ needs
needs_one p k at bt e f needs needs' g h a b =
    let same : (at ≡ bt) × (e ≡ f) = one_written p k at bt e f g h in
    named_one p at (leaves_in e) needs' needs (subst (λ c. AreNamed p c (leaves_in e) needs') (sym same.0) (subst (λ d. AreNamed p bt (leaves_in d) needs') (sym same.1) b)) a

mutual
  pub adds_one : {p : ProgramTree} {done a b : List Key} {k : Key} → Adds p done k a → Adds p done k b → a ≡ b
  adds_one (stands among) (stands among') = refl
  adds_one {done = done} {k = k} (stands among) (comes fresh is named all) = absurd (not_both (is_key_among done k) among fresh)
  adds_one {done = done} {k = k} (comes fresh is named all) (stands among) = absurd (not_both (is_key_among done k) among fresh)
  adds_one {p = p} {done = done} {k = k} (comes {after = after} {needs = needs} {at = at} {e = e} fresh is named all) (comes {after = after'} {needs = needs'} {at = bt} {e = f} fresh' is' named' all') =
      ap (λ xs. xs ++ k ∷ []) (all_one all (subst (λ ks. AddsAll p done ks after') (needs_one p k at bt e f needs needs' is is' named named') all'))

  pub all_one : {p : ProgramTree} {done keys a b : List Key} → AddsAll p done keys a → AddsAll p done keys b → a ≡ b
  all_one no_more no_more = refl
  all_one {p = p} {b = b} (one_more {between = between} {more = more} {k = k} one rest) (one_more {between = between'} one' rest') =
      all_one rest (subst (λ xs. AddsAll p xs more b) (sym (adds_one one one')) rest')
