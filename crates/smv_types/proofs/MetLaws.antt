-- A member that was met before stands twice.
use lib.Pointwise.{pointwise}
use Rattle.std.proofs.Common.{◌≡◌, ℕ, ◌+◌, ◌<◌, Bool, true, false, not, ◌||◌, List, [], ◌∷◌, ◌++◌, length, drop, get_or, refl, sym, ap, ◌∙◌, nat_eq, Bor}
use Rattle.std.specs.Prelude.{if◌then◌else◌}
use Rattle.std.specs.List.{list_any}
use Rattle.std.specs.Ordering.{int_eq}
use Rattle.std.proofs.lemmas.List.{drop_more}
use Rattle.smv_language.specs.declared.program.Member.{Member}
use Rattle.smv_language.specs.declared.program.Member.TheVariants as member
use Rattle.smv_language.specs.Language.{same_text, is_among, texts}
use Rattle.smv_language.proofs.BorrowedTexts.{inserted}
use Rattle.smv_type_laws.specs.DeclaredKinds.{same_member, is_member_again, has_double}
use Rattle.indexmap.specs.IndexSet.{contains}
use Rattle.smv_types.specs.declared.members.MetMembers.{MetMembers}
use Rattle.smv_types.specs.MemberTests.{AddsMember, met_again}
use Rattle.smv_language.proofs.OneTree.{same_text_equal}

among_last : (ts : List (List ℕ)) (x y : List ℕ) → is_among (ts ++ x ∷ []) y ≡ (same_text x y || is_among ts y)
among_last [] x y = refl
among_last (t ∷ ts) x y = ap (λ b. same_text t y || b) (among_last ts x y) ∙ swapped (same_text t y) (same_text x y) (is_among ts y)
  where
    swapped : (a b c : Bool) → (a || (b || c)) ≡ (b || (a || c))
    swapped true true c = refl
    swapped true false c = refl
    swapped false b c = refl

-- texts with one more, unless it is among them
pub among_more : (ts : List (List ℕ)) (x y : List ℕ) → is_among (if is_among ts x then ts else ts ++ x ∷ []) y ≡ (same_text x y || is_among ts y)
among_more ts x y = by (is_among ts x) refl
  where
    by : (b : Bool) → is_among ts x ≡ b → is_among (if b then ts else ts ++ x ∷ []) y ≡ (same_text x y || is_among ts y)
    by true e = there (same_text x y) refl
      where
        there : (c : Bool) → same_text x y ≡ c → is_among ts y ≡ (c || is_among ts y)
        there true f = ap (is_among ts) (sym (same_text_equal x y f)) ∙ e
        there false f = refl
    by false e = among_last ts x y

-- an inserted text is met, and others are as before
pub text_added : (ks after : List (Bor (List ℕ))) (k : Bor (List ℕ)) (y : List ℕ) → after ≡ (if list_any (λ (x : Bor (List ℕ)). pointwise nat_eq k.now x.now) ks then ks else ks ++ k ∷ []) →
    is_among (texts after) y ≡ (same_text k.now y || is_among (texts ks) y)
text_added ks after k y e = ap (λ xs. is_among (texts xs) y) e ∙ ap (λ ts. is_among ts y) (inserted ks k) ∙ among_more (texts ks) k.now y

-- a text more was met
pub symbol_added : (before after : MetMembers) (k : Bor (List ℕ)) (x : List ℕ) → k.now ≡ x → after.numbers ≡ before.numbers →
    after.texts.keys ≡ (if list_any (λ (y : Bor (List ℕ)). pointwise nat_eq k.now y.now) before.texts.keys then before.texts.keys else before.texts.keys ++ k ∷ []) → AddsMember before (member.Symbol x) after
symbol_added before after k x is same keys (member.Number n) = ap (λ s. contains int_eq s n) same
symbol_added before after k x is same keys (member.Symbol y) = text_added before.texts.keys after.texts.keys k y keys ∙ ap (λ t. same_text t y || is_among (texts before.texts.keys) y) is

-- Members.
abbrev any_met : (Member → Bool) → List Member → Bool
any_met met [] = false
any_met met (m ∷ ms) = met m || any_met met ms

any_more : (met : Member → Bool) (m : Member) (ms : List Member) → any_met (λ n. same_member m n || met n) ms ≡ (is_member_again m ms || any_met met ms)
any_more met m [] = refl
any_more met m (n ∷ ms) = ap (λ b. (same_member m n || met n) || b) (any_more met m ms) ∙ by (same_member m n) (met n) (is_member_again m ms) (any_met met ms)
  where
    by : (a b c d : Bool) → ((a || b) || (c || d)) ≡ ((a || c) || (b || d))
    by true b c d = refl
    by false true true d = refl
    by false true false d = refl
    by false false true d = refl
    by false false false d = refl

again_is : (met : Member → Bool) (ms : List Member) → met_again met ms ≡ (any_met met ms || has_double ms)
again_is met [] = refl
again_is met (m ∷ ms) =
    ap (λ b. met m || b) (again_is (λ n. same_member m n || met n) ms ∙ ap (λ b. b || has_double ms) (any_more met m ms)) ∙ by (met m) (is_member_again m ms) (any_met met ms) (has_double ms)
  where
    by : (a b c d : Bool) → (a || ((b || c) || d)) ≡ ((a || c) || (b || d))
    by true b c d = refl
    by false true true d = refl
    by false true false d = refl
    by false false true d = refl
    by false false false d = refl

none_met : (ms : List Member) → any_met (λ _. false) ms ≡ false
none_met [] = refl
none_met (m ∷ ms) = none_met ms

-- where none was met before
pub first_again : (met : Member → Bool) (ms : List Member) → ((n : Member) → met n ≡ false) → met_again met ms ≡ has_double ms
first_again met ms none = ap (λ f. met_again f ms) same ∙ again_is (λ _. false) ms ∙ ap (λ b. b || has_double ms) (none_met ms)
  where
    same : met ≡ (λ _. false)
    same = λ j n. none n j

-- one member on
pub again_more : (met met' : Member → Bool) (ms : List Member) (i : ℕ) (d : Member) → i < length ms → met (get_or ms i d) ≡ false → ((n : Member) → met' n ≡ (same_member (get_or ms i d) n || met n)) →
    met_again met' (drop (i + 1) ms) ≡ met_again met (drop i ms)
again_more met met' ms i d h new added =
    ap (λ f. met_again f (drop (i + 1) ms)) same ∙ sym (ap (λ xs. met_again met xs) (drop_more ms i d h) ∙ ap (λ b. b || met_again (λ n. same_member (get_or ms i d) n || met n) (drop (i + 1) ms)) new)
  where
    same : met' ≡ (λ n. same_member (get_or ms i d) n || met n)
    same = λ j n. added n j

is_new : (b r : Bool) → r ≡ not b → r ≡ true → b ≡ false
is_new true r e f = cc
is_new false r e f = refl

pub again_step : (met met' : Member → Bool) (ms : List Member) (i : ℕ) (m : Member) (new : Bool) → i < length ms → m ≡ get_or ms i m → new ≡ not (met m) → new ≡ true → ((n : Member) → met' n ≡ (same_member m n || met n)) →
    met_again met (drop i ms) ≡ has_double ms → met_again met' (drop (i + 1) ms) ≡ has_double ms
again_step met met' ms i m new h item told is added before =
    again_more met met' ms i m h (ap met (sym item) ∙ is_new (met m) new told is) (λ n. added n ∙ ap (λ x. same_member x n || met n) item) ∙ before
