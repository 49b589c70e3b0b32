-- Trees of texts: the texts of places, and that bytes lead to the place of a text and to no other.
use Rattle.std.proofs.Common.{◌≡◌, ℕ, zero, suc, ◌+◌, ◌<◌, ◌≤◌, drop, Bool, true, false, List, [], ◌∷◌, ◌++◌, Option, Some, None, inl, inr, ◌^◌, map, length, get_or, refl, sym, ◌∙◌, ap, subst, nat_eq, eqb-true, eq-eqb, arith, append_assoc, append-nil, length-append}
use Rattle.std.specs.Prelude.{◌||◌, option_map, position, nat_lt, cond, if◌then◌else◌}
use Rattle.std.specs.List.{list_any, AllByRecursion, IsDistinct, position_or_len}
use Rattle.std.proofs.lemmas.List.{get_or_append_left, get_or_push}
use Rattle.std.proofs.lemmas.Bool.{lt-ltb, cases_lt}
use Rattle.std.proofs.lemmas.List.Quantifiers.{position-Some}
use Rattle.std.proofs.lemmas.List.Sums.{position_or_len_is}
use Rattle.std.proofs.lemmas.Map.Keys.{apart_from_distinct}
use Rattle.std.specs.Cmp.{IsEquivalence}
use Rattle.std.proofs.lemmas.Cmp.{and_equiv, on_equiv, nat_eq_equiv}
use Rattle.smv_language.specs.Language.{Text, same_text, is_among}
use Rattle.smv_language.proofs.ValueLaws.{both_true, same_text_equal, same_text_refl}
use Rattle.base_values.proofs.BoolLaws.{bool_same}
use Rattle.base_values.proofs.ListLaws.{all_more}
use Rattle.smv_language.proofs.ListLaws.{drop_here}
use Rattle.fault_instructions.specs.declared.instructions.ModeRule.{ModeRule}
use Rattle.fault_instructions.specs.Instructions.{mode_tree}
use Rattle.fault_rules.specs.KeyedLists.{with_text, with_texts}
use Rattle.fault_rules.proofs.KeyedLaws.{map_push}
use Rattle.fault_rules.specs.Steps.{is_step, step_to, step_from, walk, walk_on, texts_from, text_at, texts_in, texts_after, with_end, is_end_of, AreSteps, IsTree, IsBeginning}

abbrev Steps : Type 0
Steps = List (ℕ × ℕ)

-- the text to which a step leads, from texts of places
abbrev stepped : List Text → ℕ × ℕ → Text
stepped ts s = get_or ts s.0 [] ++ s.1 ∷ []

-- the texts of places stay where steps are added
length_from : (ts : List Text) (ss : Steps) → length (texts_from ts ss) ≡ length ts + length ss
length_from ts [] = omega arith
length_from ts (s ∷ ss) = let e = length_from (ts ++ stepped ts s ∷ []) ss in let l = length-append ts (stepped ts s ∷ []) in omega (arith, e, l)

from_more : (ts : List Text) (ss rs : Steps) → texts_from ts (ss ++ rs) ≡ texts_from (texts_from ts ss) rs
from_more ts [] rs = refl
from_more ts (s ∷ ss) rs = from_more (ts ++ stepped ts s ∷ []) ss rs

stays : (ts : List Text) (ss : Steps) (k : ℕ) → k < length ts → get_or (texts_from ts ss) k [] ≡ get_or ts k []
stays ts [] k h = refl
stays ts (s ∷ ss) k h =
    let l = length-append ts (stepped ts s ∷ []) in
    stays (ts ++ stepped ts s ∷ []) ss k (omega (arith, l, h)) ∙ get_or_append_left ts (stepped ts s ∷ []) [] k h

pub text_kept : (old more : Steps) (k : ℕ) → k ≤ length old → text_at (old ++ more) k ≡ text_at old k
text_kept old more k h =
    let l = length_from ([] ∷ []) old in
    ap (λ ts. get_or ts k []) (from_more ([] ∷ []) old more) ∙ stays (texts_from ([] ∷ []) old) more k (omega (arith, l, h))

-- the text of the place of a step is that of the place before with one more byte
text_stepped : (ts : List Text) (ss : Steps) (i : ℕ) → ((j : ℕ) → j < length ss → (get_or ss j (0, 0)).0 < length ts + j) → i < length ss →
    get_or (texts_from ts ss) (length ts + i) [] ≡ get_or (texts_from ts ss) (get_or ss i (0, 0)).0 [] ++ (get_or ss i (0, 0)).1 ∷ []
text_stepped ts [] i back h = absurd (omega (arith, h))
text_stepped ts (s ∷ ss) zero back h =
    let more = ts ++ stepped ts s ∷ [] in
    let l : length more ≡ length ts + 1 = length-append ts (stepped ts s ∷ []) in
    let from : s.0 < length ts + 0 = back 0 h in
    stays more ss (length ts + 0) (omega (arith, l)) ∙ get_or_push ts (stepped ts s) [] (length ts + 0) (omega arith)
    ∙ ap (λ x. x ++ s.1 ∷ []) (sym (stays more ss s.0 (omega (arith, l, from)) ∙ get_or_append_left ts (stepped ts s ∷ []) [] s.0 (omega (arith, from))))
text_stepped ts (s ∷ ss) (suc i) back h =
    let more = ts ++ stepped ts s ∷ [] in
    let l : length more ≡ length ts + 1 = length-append ts (stepped ts s ∷ []) in
    let at : length ts + suc i ≡ length more + i = omega (arith, l) in
    ap (λ k. get_or (texts_from more ss) k []) at
    ∙ text_stepped more ss i (λ j b. let from : (get_or ss j (0, 0)).0 < length ts + suc j = back (suc j) (omega (arith, b)) in omega (arith, l, from)) (omega (arith, h))

-- bytes after bytes
pub walk_none : (ss : Steps) (t : Text) → walk_on ss None t ≡ None
walk_none ss [] = refl
walk_none ss (b ∷ t) = walk_none ss t

pub walk_more : (ss : Steps) (at : Option ℕ) (t u : Text) → walk_on ss at (t ++ u) ≡ walk_on ss (walk_on ss at t) u
walk_more ss at [] u = refl
walk_more ss at (b ∷ t) u = walk_more ss (step_from ss at b) t u

step_equiv : IsEquivalence is_step
step_equiv = and_equiv (on_equiv (λ (p : ℕ × ℕ). p.0) nat_eq_equiv) (on_equiv (λ (p : ℕ × ℕ). p.1) nat_eq_equiv)

module _ (ss : Steps) (are : AreSteps ss) where
  -- the text of the place after a step
  step_text : (i : ℕ) → i < length ss → text_at ss (i + 1) ≡ text_at ss (get_or ss i (0, 0)).0 ++ (get_or ss i (0, 0)).1 ∷ []
  step_text i h =
      let at : i + 1 ≡ length {A = Text} ([] ∷ []) + i = omega arith in
      ap (λ k. get_or (texts_from ([] ∷ []) ss) k []) at ∙ text_stepped ([] ∷ []) ss i (λ j b. let from = are.back j b in omega (arith, from)) h

  -- a step is found at its index
  pub step_there : (i : ℕ) → i < length ss → step_to ss (get_or ss i (0, 0)).0 (get_or ss i (0, 0)).1 ≡ Some (i + 1)
  step_there i h =
      let s = get_or ss i (0, 0) in
      let first : position_or_len (is_step s) ss ≡ i =
      position_or_len_is (is_step s) ss i (0, 0) (omega (arith, h)) (λ k lt. step_equiv.symm s (get_or ss k (0, 0)) ∙ apart_from_distinct is_step ss k i (0, 0) are.apart lt h) (λ lt. step_equiv.refl s) in
      let found : position (is_step s) ss ≡ Some i =
      ap (λ k. cond (nat_lt k (length ss)) (Some k) None) first ∙ ap (λ t. cond t (Some i) None) (lt-ltb i (length ss) h) in
      ap (option_map (λ k. k + 1)) found

  -- a step that is found leads to its text
  step_found : (p b r : ℕ) → step_to ss p b ≡ Some r → (text_at ss r ≡ text_at ss p ++ b ∷ []) × (r ≤ length ss)
  step_found p b r e = go (position (is_step (p, b)) ss) refl e
    where
      go : (o : Option ℕ) → position (is_step (p, b)) ss ≡ o → option_map (λ k. k + 1) o ≡ Some r → (text_at ss r ≡ text_at ss p ++ b ∷ []) × (r ≤ length ss)
      go None f g = absurd cc
      go (Some i) f g =
          let s = get_or ss i (0, 0) in
          let facts = position-Some (is_step (p, b)) ss i (0, 0) f in
          let same = both_true (nat_eq p s.0) (nat_eq b s.1) facts.1 in
          let place : p ≡ s.0 = eqb-true p s.0 same.0 in
          let byte : b ≡ s.1 = eqb-true b s.1 same.1 in
          let after : i + 1 ≡ r = cc in
          (ap (text_at ss) (sym after) ∙ step_text i facts.0 ∙ sym (λ k. text_at ss (place k) ++ byte k ∷ []), omega (arith, after, facts.0))

  -- bytes lead to the place of each text
  complete_below : (n q : ℕ) → q ≤ n → q ≤ length ss → walk ss 0 (text_at ss q) ≡ Some q
  complete_below n zero h w = ap (walk ss 0) (stays ([] ∷ []) ss 0 (omega arith))
  complete_below zero (suc i) h w = absurd (omega (arith, h))
  complete_below (suc n) (suc i) h w =
      let s = get_or ss i (0, 0) in
      let within : i < length ss = omega (arith, w) in
      let back : s.0 ≤ i = are.back i within in
      let at : suc i ≡ i + 1 = omega arith in
      let before : walk ss 0 (text_at ss s.0) ≡ Some s.0 = complete_below n s.0 (omega (arith, back, h)) (omega (arith, back, within)) in
      ap (λ k. walk ss 0 (text_at ss k)) at ∙ ap (walk ss 0) (step_text i within) ∙ walk_more ss (Some 0) (text_at ss s.0) (s.1 ∷ []) ∙ ap (λ o. walk_on ss o (s.1 ∷ [])) before ∙ step_there i within
      ∙ ap Some (sym at)

  pub complete : (q : ℕ) → q ≤ length ss → walk ss 0 (text_at ss q) ≡ Some q
  complete q w = complete_below q q (omega arith) w

  -- and to no other place
  pub sound : (p : ℕ) (t : Text) (q : ℕ) → p ≤ length ss → walk ss p t ≡ Some q → (text_at ss q ≡ text_at ss p ++ t) × (q ≤ length ss)
  sound p [] q w e = let same : p ≡ q = cc in (ap (text_at ss) (sym same) ∙ sym (append-nil (text_at ss p)), subst (λ k. k ≤ length ss) same w)
  sound p (b ∷ t) q w e = go (step_to ss p b) refl e (λ r h g. sound r t q h g)
    where
      go : (o : Option ℕ) → step_to ss p b ≡ o → walk_on ss o t ≡ Some q →
          ((r : ℕ) → r ≤ length ss → walk ss r t ≡ Some q → (text_at ss q ≡ text_at ss r ++ t) × (q ≤ length ss)) → (text_at ss q ≡ text_at ss p ++ b ∷ t) × (q ≤ length ss)
      go None f g more = let no : None ≡ Some q = sym (walk_none ss t) ∙ g in absurd cc
      go (Some r) f g more =
          let one = step_found p b r f in
          let rest = more r one.1 g in
          (rest.0 ∙ ap (λ x. x ++ t) one.0 ∙ append_assoc (text_at ss p) (b ∷ []) t, rest.1)

  -- the place of a text, where one has it
  text_is : (q : ℕ) → q ≤ length ss → (t : Text) → same_text (text_at ss q) t ≡ true → walk ss 0 t ≡ Some q
  text_is q w t h = ap (walk ss 0) (sym (same_text_equal (text_at ss q) t h)) ∙ complete q w

  -- the text of a place that was found
  pub found_text : (t : Text) (p : ℕ) → walk ss 0 t ≡ Some p → text_at ss p ≡ t
  found_text t p e = (sound 0 t p (omega arith) e).0 ∙ ap (λ x. x ++ t) (stays ([] ∷ []) ss 0 (omega arith))

  -- a place is among the ends just where its text is among theirs
  pub ends_have : (t : Text) (o : Option ℕ) → walk ss 0 t ≡ o → (ends : List ℕ) → AllByRecursion (λ q. q ≤ length ss) ends → is_end_of ends o ≡ is_among (map (text_at ss) ends) t
  ends_have t None e [] w = refl
  ends_have t None e (q ∷ qs) w =
      ends_have t None e qs w.1
      ∙ ap (λ b. b || is_among (map (text_at ss) qs) t) (bool_same false (same_text (text_at ss q) t) (λ f. cc) (λ h. let no : None ≡ Some q = sym e ∙ text_is q w.0 t h in absurd cc))
  ends_have t (Some p) e [] w = refl
  ends_have t (Some p) e (q ∷ qs) w =
      let one : nat_eq p q ≡ same_text (text_at ss q) t =
      bool_same (nat_eq p q) (same_text (text_at ss q) t)
      (λ h. ap (λ k. same_text (text_at ss k) t) (sym (eqb-true p q h)) ∙ ap (λ x. same_text x t) (found_text t p e) ∙ same_text_refl t)
      (λ h. let same : Some p ≡ Some q = sym e ∙ text_is q w.0 t h in let is : p ≡ q = cc in eq-eqb p q is) in
      λ i. one i || ends_have t (Some p) e qs w.1 i

  -- an end that is put goes last, where its text is new
  pub end_put : (t : Text) (q : ℕ) → walk ss 0 t ≡ Some q → (ends : List ℕ) → AllByRecursion (λ p. p ≤ length ss) ends →
      map (text_at ss) (if list_any (nat_eq q) ends then ends else ends ++ q ∷ []) ≡ with_text (map (text_at ss) ends) t
  end_put t q e ends w = go (list_any (nat_eq q) ends) (is_among (map (text_at ss) ends) t) (ends_have t (Some q) e ends w)
    where
      go : (a b : Bool) → a ≡ b → map (text_at ss) (if a then ends else ends ++ q ∷ []) ≡ (if b then map (text_at ss) ends else map (text_at ss) ends ++ t ∷ [])
      go true true f = refl
      go false false f = map_push (text_at ss) ends q ∙ ap (λ x. map (text_at ss) ends ++ x ∷ []) (found_text t q e)
      go true false f = cc
      go false true f = cc

-- the texts of ends stay where steps are added
pub ends_kept : (old more : Steps) (ends : List ℕ) → AllByRecursion (λ p. p ≤ length old) ends → map (text_at (old ++ more)) ends ≡ map (text_at old) ends
ends_kept old more [] w = refl
ends_kept old more (q ∷ qs) w = λ i. text_kept old more q w.0 i ∷ ends_kept old more qs w.1 i

-- a step that was put last leads to the last place
pub put_leads : (old new : Steps) → AreSteps new → (p b : ℕ) → new ≡ old ++ (p, b) ∷ [] → walk new p (b ∷ []) ≡ Some (length new)
put_leads old new are p b is =
    let long : length new ≡ length old + 1 = ap length is ∙ length-append old ((p, b) ∷ []) in
    let last : get_or new (length old) (0, 0) ≡ (p, b) = ap (λ ss. get_or ss (length old) (0, 0)) is ∙ get_or_push old (p, b) (0, 0) (length old) refl in
    sym (ap (λ (s : ℕ × ℕ). step_to new s.0 s.1) last) ∙ step_there new are (length old) (omega (arith, long)) ∙ ap Some (sym long)

-- bytes lead where they led after steps are added
step_kept : (old more : Steps) (p b r : ℕ) → step_to old p b ≡ Some r → step_to (old ++ more) p b ≡ Some r
step_kept old more p b r e = go (position (is_step (p, b)) old) refl e
  where
    go : (o : Option ℕ) → position (is_step (p, b)) old ≡ o → option_map (λ k. k + 1) o ≡ Some r → step_to (old ++ more) p b ≡ Some r
    go None f g = absurd cc
    go (Some i) f g =
        let test = is_step (p, b) in
        let facts = position-Some test old i (0, 0) f in
        let long : length (old ++ more) ≡ length old + length more = length-append old more in
        let within : i < length (old ++ more) = omega (arith, long, facts.0) in
        let first : position_or_len test (old ++ more) ≡ i =
        position_or_len_is test (old ++ more) i (0, 0) (omega (arith, within)) (λ k lt. ap test (get_or_append_left old more (0, 0) k (omega (arith, lt, facts.0))) ∙ facts.2 k lt)
        (λ lt. ap test (get_or_append_left old more (0, 0) i facts.0) ∙ facts.1) in
        let found : position test (old ++ more) ≡ Some i =
        ap (λ k. cond (nat_lt k (length (old ++ more))) (Some k) None) first ∙ ap (λ t. cond t (Some i) None) (lt-ltb i (length (old ++ more)) within) in
        ap (option_map (λ k. k + 1)) found ∙ g

walk_kept : (old more : Steps) (o : Option ℕ) (t : Text) (q : ℕ) → walk_on old o t ≡ Some q → walk_on (old ++ more) o t ≡ Some q
walk_kept old more o [] q e = e
walk_kept old more None (b ∷ t) q e = let no : None ≡ Some q = sym (walk_none old t) ∙ e in absurd cc
walk_kept old more (Some p) (b ∷ t) q e = go (step_to old p b) refl e (λ o h. walk_kept old more o t q h)
  where
    go : (o : Option ℕ) → step_to old p b ≡ o → walk_on old o t ≡ Some q → ((o : Option ℕ) → walk_on old o t ≡ Some q → walk_on (old ++ more) o t ≡ Some q) →
        walk_on (old ++ more) (step_to (old ++ more) p b) t ≡ Some q
    go None f g rest = let no : None ≡ Some q = sym (walk_none old t) ∙ g in absurd cc
    go (Some r) f g rest = ap (λ o. walk_on (old ++ more) o t) (step_kept old more p b r f) ∙ rest (Some r) g

-- one byte more
pub reach_more : (old new : Steps) (from at b there : ℕ) (t : Text) → walk old from t ≡ Some at → IsBeginning old new → walk new at (b ∷ []) ≡ Some there → walk new from (t ++ b ∷ []) ≡ Some there
reach_more old new from at b there t e begins leads =
    walk_more new (Some from) t (b ∷ [])
    ∙ ap (λ o. walk_on new o (b ∷ [])) (subst (λ ss. walk ss from t ≡ Some at) (sym begins.is) (walk_kept old begins.more (Some from) t at e)) ∙ leads

pub begins_more : (a b c : Steps) → IsBeginning a b → IsBeginning b c → IsBeginning a c
begins_more a b c x y = record { more = x.more ++ y.more; is = y.is ∙ ap (λ ss. ss ++ y.more) x.is ∙ append_assoc a x.more y.more }

-- a step that is put last, from a place that is there
pub put_steps : (old new : Steps) → AreSteps old → (p b : ℕ) → p ≤ length old → length new < 2 ^ 32 → IsDistinct is_step new → new ≡ old ++ (p, b) ∷ [] → AreSteps new
put_steps old new are p b there few apart is =
    let long : length new ≡ length old + 1 = ap length is ∙ length-append old ((p, b) ∷ []) in
    let last : get_or new (length old) (0, 0) ≡ (p, b) = ap (λ ss. get_or ss (length old) (0, 0)) is ∙ get_or_push old (p, b) (0, 0) (length old) refl in
    record {
      few = few;
      apart = apart;
      back = λ i h. elim (cases_lt i (length old)) [
        | inl below ↦
            let same : get_or new i (0, 0) ≡ get_or old i (0, 0) = ap (λ ss. get_or ss i (0, 0)) is ∙ get_or_append_left old ((p, b) ∷ []) (0, 0) i below in
            subst (λ (s : ℕ × ℕ). s.0 ≤ i) (sym same) (are.back i below)
        | inr above ↦
            let at : length old ≡ i = omega (arith, above, h, long) in
            subst (λ k. (get_or new k (0, 0)).0 ≤ k) at (subst (λ (s : ℕ × ℕ). s.0 ≤ length old) (sym last) there)
      ];
    }

-- the text of place 0, and those of other places after steps are added
pub text_zero : (ss : Steps) → text_at ss 0 ≡ []
text_zero ss = stays ([] ∷ []) ss 0 (omega arith)

pub place_kept : (old new : Steps) (k : ℕ) → IsBeginning old new → k ≤ length old → k ≤ length new
place_kept old new k begins h =
    let long : length new ≡ length old + length begins.more = ap length begins.is ∙ length-append old begins.more in
    omega (arith, long, h)

pub text_stays : (old new : Steps) (k : ℕ) → IsBeginning old new → k ≤ length old → text_at new k ≡ text_at old k
text_stays old new k begins h = ap (λ ss. text_at ss k) begins.is ∙ text_kept old begins.more k h

-- the text of the place to which bytes lead
pub reached_text : (old new : Steps) (from there : ℕ) (text : Text) → AreSteps new → IsBeginning old new → from ≤ length old → walk new from text ≡ Some there → text_at new there ≡ text_at old from ++ text
reached_text old new from there text are begins h leads =
    (sound new are from text there (place_kept old new from begins h) leads).0 ∙ ap (λ x. x ++ text) (text_stays old new from begins h)

-- a set of texts after steps are added
pub tree_kept : (old new : Steps) (ends : List ℕ) → IsTree old ends → AreSteps new → IsBeginning old new → IsTree new ends
tree_kept old new ends tree are begins =
    record { steps_are = are; ends_are = all_more (λ p. p ≤ length old) (λ p. p ≤ length new) (λ p h. place_kept old new p begins h) ends tree.ends_are }

pub texts_kept : (old new : Steps) (ends : List ℕ) → IsTree old ends → IsBeginning old new → texts_in new ends ≡ texts_in old ends
texts_kept old new ends tree begins = ap (λ ss. texts_in ss ends) begins.is ∙ ends_kept old begins.more ends tree.ends_are

-- a text is added where its place is put among the ends
pub text_added : (old new : Steps) (from there : ℕ) (text : Text) (ends : List ℕ) → IsTree old ends → AreSteps new → IsBeginning old new → from ≤ length old → walk new from text ≡ Some there →
    texts_in new (with_end ends there) ≡ with_text (texts_in old ends) (text_at old from ++ text)
text_added old new from there text ends tree are begins h leads =
    let begin = text_at old from in
    let led : walk new 0 begin ≡ Some from = ap (walk new 0) (sym (text_stays old new from begins h)) ∙ complete new are from (place_kept old new from begins h) in
    let walks : walk new 0 (begin ++ text) ≡ Some there = walk_more new (Some 0) begin text ∙ ap (λ o. walk_on new o text) led ∙ leads in
    let kept = tree_kept old new ends tree are begins in
    end_put new are (begin ++ text) there walks ends kept.ends_are ∙ ap (λ xs. with_text xs (begin ++ text)) (texts_kept old new ends tree begins)

-- and so is the text of each mode
pub each_added : (old ss : Steps) (from : ℕ) (texts texts' : List Text) (ms : List ModeRule) (i : ℕ) (m : ModeRule) → i < length ms → m ≡ get_or ms i m → IsBeginning old ss → from ≤ length old →
    texts' ≡ with_text texts (text_at ss from ++ m.name) →
    with_texts texts' (texts_after (text_at old from) (map mode_tree (drop (i + 1) ms))) ≡ with_texts texts (texts_after (text_at old from) (map mode_tree (drop i ms)))
each_added old ss from texts texts' ms i m below here begins h added =
    ap (λ ts. with_texts ts (texts_after (text_at old from) (map mode_tree (drop (i + 1) ms)))) (added ∙ ap (λ x. with_text texts (x ++ m.name)) (text_stays old ss from begins h))
    ∙ sym (ap (λ xs. with_texts texts (texts_after (text_at old from) (map mode_tree xs))) (drop_here ms i m below here))
