-- Look-ups that wait for one another, and what is known where they come back.
use Rattle.std.proofs.Common.{◌≡◌, ℕ, zero, suc, ◌+◌, ◌-◌, ◌<◌, ◌≤◌, arith, Bool, true, false, ltb, List, [], ◌∷◌, ◌++◌, length, Option, Some, None, refl, sym, ◌∙◌, ap, subst, ◌⊎◌, inl, inr}
use Rattle.std.specs.Prelude.{slice_get}
use Rattle.std.proofs.lemmas.Bool.{ltb-true, ltb-false}
use Rattle.std.proofs.lemmas.List.{length-set}
use Rattle.smv_language.specs.Language.{Text, Path, ProgramTree, Place, FlatInstance, EachBoth}
use Rattle.smv_flat_laws.specs.Items.{instances_of}
use Rattle.smv_flat_laws.specs.Looks.{Look, look_after, ComesBack}
use Rattle.smv_flat_laws.specs.Rules.{IsWalkable}
use Rattle.smv_flat_laws.proofs.LookLaws.{after_longer}
use Rattle.smv_flat_laws.proofs.EndLaws.{steps_more, goes_on}
use Rattle.smv_scope.specs.SceneTree.{IsKnown, formals_of}
use Rattle.smv_scope.specs.TableLookUps.{formal_or}
use Rattle.smv_scope.specs.KnownFormals.{row_or, formal_of, IsHead, IsOpen, IsOpenAt, ShutAt, Shut, IsTold, IsSized, AreTold}
use Rattle.smv_scope.specs.WaitingLookUps.{IsFrame, WaitsFor, LastWaits, IsStack, circled}
use Rattle.smv_scope.specs.declared.names.Formal.{Formal}
use Rattle.smv_scope.specs.declared.names.Formal.TheVariants as known
use Rattle.smv_scope.specs.declared.formals.LookUpFrame.{LookUpFrame}
use Rattle.smv_scope.proofs.LookSplit.{HasPart, with_more, named_look}
use Rattle.smv_scope.proofs.LookFound.{same_part}
use Rattle.smv_scope.proofs.Heads.{head_place, head_numbers}
use Rattle.smv_scope.proofs.Told.{IsNoMoreOpen, IsChanged, changed, shut_on, told_on, still_sized}
use Rattle.smv_flat_laws.proofs.OneOfTwo.{set_own}
use Rattle.std.proofs.lemmas.Option.{same_Some as of_some, slice_get_within as get_less}

module _ (p : ProgramTree) (rs rs' : List (List Formal)) (less : IsNoMoreOpen p rs rs') where
  pub frame_on : (f : LookUpFrame) → IsFrame p rs f → IsFrame p rs' f
  frame_on f is = record {
    at = is.at;
    name = is.name;
    head = is.head;
    here = is.here;
    is_here = is.is_here;
    part = is.part;
    more = is.more;
    rest = is.rest;
    steps = is.steps;
    after = is.after;
    shut = λ n lt. shut_on p rs rs' less (look_after (suc n) p is.at (is.name ∷ [])) (is.shut n lt);
  }

  pub stack_on : (fs : List LookUpFrame) → IsStack p rs fs → IsStack p rs' fs
  stack_on [] h = tt
  stack_on (f ∷ []) h = frame_on f h
  stack_on (f ∷ (g ∷ fs)) h = (frame_on f h.0, h.1, stack_on (g ∷ fs) h.2)

module _ (p : ProgramTree) (rs : List (List Formal)) where
  pub stack_pop : (xs : List LookUpFrame) (f : LookUpFrame) → IsStack p rs (xs ++ f ∷ []) → IsStack p rs xs × IsFrame p rs f × LastWaits p xs f.spot f.formal
  stack_pop [] f h = (tt, h, tt)
  stack_pop (g ∷ []) f h = (h.0, h.2, h.1)
  stack_pop (g ∷ (g' ∷ xs)) f h =
      let r : IsStack p rs (g' ∷ xs) × IsFrame p rs f × LastWaits p (g' ∷ xs) f.spot f.formal = stack_pop (g' ∷ xs) f h.2 in ((h.0, h.1, r.0), r.1, r.2)

  pub stack_push : (xs : List LookUpFrame) (f : LookUpFrame) → IsStack p rs xs → LastWaits p xs f.spot f.formal → IsFrame p rs f → IsStack p rs (xs ++ f ∷ [])
  stack_push [] f h w is = is
  stack_push (g ∷ []) f h w is = (h, w, is)
  stack_push (g ∷ (g' ∷ xs)) f h w is = (h.0, h.1, stack_push (g' ∷ xs) f h.2 w is)

  pub last_waits : (xs : List LookUpFrame) (f : LookUpFrame) (k i : ℕ) → WaitsFor p f k i → LastWaits p (xs ++ f ∷ []) k i
  last_waits [] f k i w = w
  last_waits (g ∷ []) f k i w = w
  last_waits (g ∷ (g' ∷ xs)) f k i w = last_waits (g' ∷ xs) f k i w

  stack_end : (before : List LookUpFrame) (f : LookUpFrame) (fs : List LookUpFrame) → IsStack p rs (before ++ f ∷ fs) → IsStack p rs (f ∷ fs)
  stack_end [] f fs h = h
  stack_end (b ∷ []) f fs h = h.2
  stack_end (b ∷ (b' ∷ before)) f fs h = stack_end (b' ∷ before) f fs h.2

  last_end : (before : List LookUpFrame) (f : LookUpFrame) (fs : List LookUpFrame) (k i : ℕ) → LastWaits p (before ++ f ∷ fs) k i → LastWaits p (f ∷ fs) k i
  last_end [] f fs k i h = h
  last_end (b ∷ []) f fs k i h = h
  last_end (b ∷ (b' ∷ before)) f fs k i h = last_end (b' ∷ before) f fs k i h

-- The formals of look-ups, and how one leads to the next.
abbrev Head : Type 0
Head = Place × Text

abbrev look_at : Head → Path → Look
look_at h rest = record { place = h.0; name = h.1 ∷ rest }

record Link (p : ProgramTree) (rs : List (List Formal)) (h k : Head) : Type 0 where
  pub steps : ℕ
  pub rest : Path
  pub after : look_after (suc steps) p h.0 (h.1 ∷ []) ≡ Some (look_at k rest)
  pub shut : (n : ℕ) → n < steps → ShutAt p rs (look_after (suc n) p h.0 (h.1 ∷ []))

abbrev Linked : ProgramTree → List (List Formal) → List Head → Head → Type 0
Linked p rs [] z = Unit {0}
Linked p rs (h ∷ []) z = Link p rs h z
Linked p rs (h ∷ (k ∷ hs)) z = Link p rs h k × Linked p rs (k ∷ hs) z

abbrev HeadOf : ProgramTree → LookUpFrame → Head → Type 0
HeadOf p f h = IsHead p f.spot f.formal h.0 h.1

part_is : (x y : Text) (xs ys : Path) → x ∷ xs ≡ y ∷ ys → x ≡ y
part_is x y xs ys e = cc

frame_link : (p : ProgramTree) (rs : List (List Formal)) (f : LookUpFrame) (is : IsFrame p rs f) (k i : ℕ) (z : Head) → WaitsFor p f k i → IsHead p k i z.0 z.1 → Link p rs (is.at, is.name) z
frame_link p rs f is k i z w head = record {
  steps = is.steps;
  rest = is.more;
  after = is.after ∙ ap (λ (a : Place). Some (record { place = a; name = is.part ∷ is.more })) place ∙ ap (λ x. Some (record { place = z.0; name = x ∷ is.more })) part;
  shut = is.shut;
}
  where
    same : (w.place ≡ z.0) × (w.part ≡ z.1)
    same = head_place p k i w.place z.0 w.part z.1 w.head head

    here : is.here ≡ w.head.instance
    here = of_some is.here w.head.instance (sym is.is_here ∙ ap (slice_get (instances_of p)) w.spot_is ∙ w.head.is)

    place : is.here.place ≡ z.0
    place = ap (λ (a : FlatInstance). a.place) here ∙ w.head.place ∙ same.0

    part : is.part ≡ z.1
    part = part_is is.part w.part is.more w.more (sym is.rest ∙ w.rest) ∙ same.1

first_frame : (p : ProgramTree) (rs : List (List Formal)) (f : LookUpFrame) (fs : List LookUpFrame) → IsStack p rs (f ∷ fs) → IsFrame p rs f
first_frame p rs f [] h = h
first_frame p rs f (g ∷ fs) h = h.0

record LinkedFrom (p : ProgramTree) (rs : List (List Formal)) (f : LookUpFrame) (fs : List LookUpFrame) (z : Head) : Type 0 where
  pub first : Head
  pub heads : List Head
  pub first_is : HeadOf p f first
  pub are : EachBoth (HeadOf p) fs heads
  pub linked : Linked p rs (first ∷ heads) z

linked_from : (p : ProgramTree) (rs : List (List Formal)) (f : LookUpFrame) (fs : List LookUpFrame) (k i : ℕ) (z : Head) → IsStack p rs (f ∷ fs) → LastWaits p (f ∷ fs) k i → IsHead p k i z.0 z.1 → LinkedFrom p rs f fs z
linked_from p rs f [] k i z h w head = record { first = (h.at, h.name); heads = []; first_is = h.head; are = tt; linked = frame_link p rs f h k i z w head }
linked_from p rs f (g ∷ fs) k i z h w head =
    let r : LinkedFrom p rs g fs z = linked_from p rs g fs k i z h.2 w head in
    record {
      first = (h.0.at, h.0.name);
      heads = r.first ∷ r.heads;
      first_is = h.0.head;
      are = (r.first_is, r.are);
      linked = (frame_link p rs f h.0 g.spot g.formal r.first h.1 r.first_is, r.linked);
    }

-- Membership.
abbrev Member : {A : Type 0} → A → List A → Type 0
Member x [] = ⊥
Member x (y ∷ ys) = (x ≡ y) ⊎ Member x ys

module _ (p : ProgramTree) (rs : List (List Formal)) where
  abbrev Reaches : Head → Head → Type 0
  Reaches h k = (n : ℕ) × (rest : Path) × (look_after (suc n) p h.0 (h.1 ∷ []) ≡ Some (look_at k rest))

  reach_more : (h k l : Head) → Reaches h k → Reaches k l → Reaches h l
  reach_more h k l a b =
      let count : suc (b.0 + suc a.0) ≡ suc b.0 + suc a.0 = omega arith in (
        b.0 + suc a.0,
        b.1 ++ a.1,
        ap (λ n. look_after n p h.0 (h.1 ∷ [])) count
            ∙ steps_more (suc b.0) (suc a.0) p h.0 (h.1 ∷ []) (look_at k a.1) a.2
            ∙ after_longer (suc b.0) a.1 p k.0 (k.1 ∷ []) (look_at l b.1) b.2,
      )

  link_reaches : (h k : Head) → Link p rs h k → Reaches h k
  link_reaches h k l = (l.steps, l.rest, l.after)

  all_reach : (hs : List Head) (z h : Head) → Linked p rs hs z → Member h hs → Reaches h z
  all_reach [] z h l m = absurd m
  all_reach (x ∷ []) z h l (inl e) = subst (λ y. Reaches y z) (sym e) (link_reaches x z l)
  all_reach (x ∷ []) z h l (inr m) = absurd m
  all_reach (x ∷ (y ∷ hs)) z h l (inl e) = subst (λ w. Reaches w z) (sym e) (reach_more x y z (link_reaches x y l.0) (all_reach (y ∷ hs) z y l.1 (inl refl)))
  all_reach (x ∷ (y ∷ hs)) z h l (inr m) = all_reach (y ∷ hs) z h l.1 m

  first_reaches : (x : Head) (hs : List Head) (z h : Head) → Linked p rs (x ∷ hs) z → Member h hs → Reaches x h
  first_reaches x [] z h l m = absurd m
  first_reaches x (y ∷ hs) z h l (inl e) = subst (Reaches x) (sym e) (link_reaches x y l.0)
  first_reaches x (y ∷ hs) z h l (inr m) = reach_more x y h (link_reaches x y l.0) (first_reaches y hs z h l.1 m)

  comes_back : (z : Head) (hs : List Head) (h : Head) → Linked p rs (z ∷ hs) z → Member h (z ∷ hs) → Reaches h h
  comes_back z hs h l (inl e) = subst (λ w. Reaches w w) (sym e) (all_reach (z ∷ hs) z z l (inl refl))
  comes_back z hs h l (inr m) = reach_more h z h (all_reach (z ∷ hs) z h l (inr m)) (first_reaches z hs z h l m)

  record Next (hs : List Head) (z h : Head) : Type 0 where
    pub head : Head
    pub link : Link p rs h head
    pub within : (head ≡ z) ⊎ Member head hs

  more_next : (x : Head) (hs : List Head) (z h : Head) → Next hs z h → Next (x ∷ hs) z h
  more_next x hs z h n = record { head = n.head; link = n.link; within = by_within n.within }
    where
      by_within : (n.head ≡ z) ⊎ Member n.head hs → (n.head ≡ z) ⊎ Member n.head (x ∷ hs)
      by_within (inl e) = inl e
      by_within (inr m) = inr (inr m)

  next_of : (hs : List Head) (z h : Head) → Linked p rs hs z → Member h hs → Next hs z h
  next_of [] z h l m = absurd m
  next_of (x ∷ []) z h l (inl e) = record { head = z; link = subst (λ w. Link p rs w z) (sym e) l; within = inl refl }
  next_of (x ∷ []) z h l (inr m) = absurd m
  next_of (x ∷ (y ∷ hs)) z h l (inl e) = record { head = y; link = subst (λ w. Link p rs w y) (sym e) l.0; within = inr (inr (inl refl)) }
  next_of (x ∷ (y ∷ hs)) z h l (inr m) = more_next x (y ∷ hs) z h (next_of (y ∷ hs) z h l.1 m)

  -- a look-up in a circle meets no formal without an answer but those of the circle
  module _ (z : Head) (hs : List Head) (l : Linked p rs (z ∷ hs) z) where
    next_in : (h : Head) → Member h (z ∷ hs) → (k : Head) × Link p rs h k × Member k (z ∷ hs)
    next_in h m = by_next (next_of (z ∷ hs) z h l m)
      where
        by_within : (k : Head) → (k ≡ z) ⊎ Member k (z ∷ hs) → Member k (z ∷ hs)
        by_within k (inl e) = inl e
        by_within k (inr m) = m

        by_next : Next (z ∷ hs) z h → (k : Head) × Link p rs h k × Member k (z ∷ hs)
        by_next n = (n.head, n.link, by_within n.head n.within)

    abbrev Inner : ℕ → Head → Type 0
    Inner n h = (at : Place) (y : Text) (r : Path) → look_after n p h.0 (h.1 ∷ []) ≡ Some (look_at (at, y) r) → IsOpenAt p rs at y → Member (at, y) (z ∷ hs)

    same_head : (h : Head) (rest : Path) (at : Place) (y : Text) (r : Path) → look_at h rest ≡ look_at (at, y) r → (at, y) ≡ h
    same_head h rest at y r e =
        sym (ap (λ (q : Look). (q.place, y)) e ∙ refl) ∙ ap (λ (x : Text). (h.0, x)) (sym (part_is h.1 y rest r (ap (λ (q : Look). q.name) e)))

    -- after the next formal
    on_from : (k : Head) → Member k (z ∷ hs) → (n : ℕ) (rest : Path) → Inner n k → (at : Place) (y : Text) (r : Path) → look_after n p k.0 (k.1 ∷ rest) ≡ Some (look_at (at, y) r) → IsOpenAt p rs at y → Member (at, y) (z ∷ hs)
    on_from k m n rest inner at y r e is = by_own (look_after n p k.0 (k.1 ∷ [])) refl
      where
        back : ComesBack p k.0 k.1
        back = comes_back z hs k l m

        by_own : (o : Option Look) → look_after n p k.0 (k.1 ∷ []) ≡ o → Member (at, y) (z ∷ hs)
        by_own None none = absurd (goes_on n p k.0 k.1 back [] none)
        by_own (Some q) own =
            let part : HasPart q = named_look n p k.0 k.1 [] q own in
            let same : with_more q rest ≡ look_at (at, y) r = of_some (with_more q rest) (look_at (at, y) r) (sym (after_longer n rest p k.0 (k.1 ∷ []) q own) ∙ e) in
            let parts : (q.place ≡ at) × (part.0 ≡ y) = same_part q rest at y r same part in
            inner at y part.1
            (own ∙ ap (λ ws. Some (record { place = q.place; name = ws })) part.2 ∙ ap (λ (a : Place). Some (record { place = a; name = part.0 ∷ part.1 })) parts.0
            ∙ ap (λ x. Some (record { place = at; name = x ∷ part.1 })) parts.1) is

    inner_all : (fuel n : ℕ) → n ≤ fuel → (h : Head) → Member h (z ∷ hs) → Inner n h
    inner_all fuel zero le h m = λ at y r e is.
        subst (λ w. Member w (z ∷ hs)) (sym (same_head h [] at y r (of_some (look_at h []) (look_at (at, y) r) e))) m
    inner_all zero (suc n) le h m = absurd (omega (arith, le))
    inner_all (suc fuel) (suc n) le h m =
        let k : (k : Head) × Link p rs h k × Member k (z ∷ hs) = next_in h m in
        by_order k.0 k.1 k.2 (ltb n k.1.steps) refl (λ j lt. inner_all fuel j lt k.0 k.2)
      where
        by_order : (k : Head) (link : Link p rs h k) → Member k (z ∷ hs) → (b : Bool) → ltb n link.steps ≡ b → ((j : ℕ) → j ≤ fuel → Inner j k) → Inner (suc n) h
        by_order k link mk true o rest = λ at y r e is. absurd (link.shut n (ltb-true n link.steps o) at y r e is)
        by_order k link mk false o rest = λ at y r e is.
            let after : link.steps ≤ n = ltb-false n link.steps o in
            let count : (n - link.steps) + suc link.steps ≡ suc n = omega (arith, after) in
            let small : n - link.steps ≤ fuel = omega (arith, le) in
            on_from k mk (n - link.steps) link.rest (rest (n - link.steps) small) at y r
            (sym (steps_more (n - link.steps) (suc link.steps) p h.0 (h.1 ∷ []) (look_at k link.rest) link.after) ∙ ap (λ q. look_after q p h.0 (h.1 ∷ [])) count ∙ e) is

-- The formals of a circle are answered.
member_head : (p : ProgramTree) (fs : List LookUpFrame) (hs : List Head) → EachBoth (HeadOf p) fs hs → (f : LookUpFrame) → Member f fs → (h : Head) × Member h hs × HeadOf p f h
member_head p [] hs are f m = absurd m
member_head p (g ∷ fs) [] are f m = absurd are
member_head p (g ∷ fs) (h ∷ hs) are f (inl e) = (h, inl refl, subst (λ (w : LookUpFrame). HeadOf p w h) (sym e) are.0)
member_head p (g ∷ fs) (h ∷ hs) are f (inr m) =
    let r : (h : Head) × Member h hs × HeadOf p f h = member_head p fs hs are.1 f m in (r.0, inr r.1, r.2)

member_frame : (p : ProgramTree) (fs : List LookUpFrame) (hs : List Head) → EachBoth (HeadOf p) fs hs → (h : Head) → Member h hs → (f : LookUpFrame) × Member f fs × HeadOf p f h
member_frame p [] [] are h m = absurd m
member_frame p [] (x ∷ hs) are h m = absurd are
member_frame p (g ∷ fs) [] are h m = absurd m
member_frame p (g ∷ fs) (x ∷ hs) are h (inl e) = (g, inl refl, subst (HeadOf p g) (sym e) are.0)
member_frame p (g ∷ fs) (x ∷ hs) are h (inr m) =
    let r : (f : LookUpFrame) × Member f fs × HeadOf p f h = member_frame p fs hs are.1 h m in (r.0, inr r.1, r.2)

module _ (p : ProgramTree) (rs : List (List Formal)) where
  abbrev pub IsMarked : List LookUpFrame → ℕ → ℕ → Type 0
  IsMarked fs k i = (f : LookUpFrame) × Member f fs × (k ≡ f.spot) × (i ≡ f.formal) × (formal_of (circled rs fs) k i ≡ known.Circle)

  pub marked : (fs : List LookUpFrame) (k i : ℕ) → (formal_of (circled rs fs) k i ≡ formal_of rs k i) ⊎ IsMarked fs k i
  marked [] k i = inl refl
  marked (f ∷ fs) k i = by_change (changed (circled rs fs) f.spot f.formal known.Circle k i) (marked fs k i)
    where
      by_change : IsChanged (circled rs fs) f.spot f.formal known.Circle k i → (formal_of (circled rs fs) k i ≡ formal_of rs k i) ⊎ IsMarked fs k i → (formal_of (circled rs (f ∷ fs)) k i ≡ formal_of rs k i) ⊎ IsMarked (f ∷ fs) k i
      by_change (inl e) (inl d) = inl (e ∙ d)
      by_change (inl e) (inr d) = inr (d.0, inr d.1, d.2, d.3, e ∙ d.4)
      by_change (inr e) d = inr (f, inl refl, e.0, e.1, e.2)

  pub circled_less : (fs : List LookUpFrame) → IsNoMoreOpen p rs (circled rs fs)
  circled_less fs at x is = by_mark (marked fs is.0 is.1)
    where
      by_mark : (formal_of (circled rs fs) is.0 is.1 ≡ formal_of rs is.0 is.1) ⊎ IsMarked fs is.0 is.1 → IsOpenAt p rs at x
      by_mark (inl e) = (is.0, is.1, is.2, subst IsOpen e is.3)
      by_mark (inr m) = absurd (subst IsOpen m.4 is.3)

  module _ (told : AreTold p rs) where
    circled_sized : (fs : List LookUpFrame) (spot : ℕ) (at : FlatInstance) → slice_get (instances_of p) spot ≡ Some at → IsSized p (circled rs fs) spot at
    circled_sized [] spot at e = told.sized spot at e
    circled_sized (f ∷ fs) spot at e = still_sized p (circled rs fs) f.spot f.formal known.Circle spot at (circled_sized fs spot at e)

    circled_many : (fs : List LookUpFrame) → length (circled rs fs) ≡ length rs
    circled_many [] = refl
    circled_many (f ∷ fs) = length-set (circled rs fs) f.spot _ ∙ circled_many fs

    -- a formal that is told stays told
    pub own_circle : (fs : List LookUpFrame) (f : LookUpFrame) (at : Place) (x : Text) → IsHead p f.spot f.formal at x → formal_of (circled rs (f ∷ fs)) f.spot f.formal ≡ known.Circle
    own_circle fs f at x head =
        ap (λ o. formal_or (slice_get (row_or o) f.formal)) (set_own (circled rs fs) f.spot _ (get_less (circled rs fs) f.spot sized.row sized.is))
        ∙ ap formal_or (set_own (row_or (slice_get (circled rs fs) f.spot)) f.formal known.Circle within)
      where
        sized : IsSized p (circled rs fs) f.spot head.instance
        sized = circled_sized fs f.spot head.instance head.is

        below : f.formal < length head.tree.formals
        below = get_less head.tree.formals f.formal x head.formal

        same : length (row_or (slice_get (circled rs fs) f.spot)) ≡ length head.tree.formals
        same = ap (λ o. length (row_or o)) sized.is ∙ sized.size ∙ ap (λ o. length (formals_of o)) head.named

        within : f.formal < length (row_or (slice_get (circled rs fs) f.spot))
        within = omega (arith, same, below)

    all_circle : (fs : List LookUpFrame) (f : LookUpFrame) (at : Place) (x : Text) → Member f fs → IsHead p f.spot f.formal at x → formal_of (circled rs fs) f.spot f.formal ≡ known.Circle
    all_circle [] f at x m head = absurd m
    all_circle (g ∷ fs) f at x (inl e) head = subst (λ (w : LookUpFrame). formal_of (circled rs (w ∷ fs)) f.spot f.formal ≡ known.Circle) e (own_circle fs f at x head)
    all_circle (g ∷ fs) f at x (inr m) head = by_change (changed (circled rs fs) g.spot g.formal known.Circle f.spot f.formal) (all_circle fs f at x m head)
      where
        by_change : IsChanged (circled rs fs) g.spot g.formal known.Circle f.spot f.formal → formal_of (circled rs fs) f.spot f.formal ≡ known.Circle → formal_of (circled rs (g ∷ fs)) f.spot f.formal ≡ known.Circle
        by_change (inl e) d = e ∙ d
        by_change (inr e) d = e.2

    pub circle_told : IsWalkable p → (first : LookUpFrame) (fs before : List LookUpFrame) → IsStack p rs (before ++ first ∷ fs) → LastWaits p (before ++ first ∷ fs) first.spot first.formal → AreTold p (circled rs (first ∷ fs))
    circle_told walkable first fs before stack last = record {
      many = circled_many (first ∷ fs) ∙ told.many;
      sized = circled_sized (first ∷ fs);
      told = λ k i at x head. by_mark k i at x head (marked (first ∷ fs) k i);
    }
      where
        st : IsStack p rs (first ∷ fs)
        st = stack_end p rs before first fs stack

        frame : IsFrame p rs first
        frame = first_frame p rs first fs st

        from : LinkedFrom p rs first fs (frame.at, frame.name)
        from = linked_from p rs first fs first.spot first.formal (frame.at, frame.name) st (last_end p rs before first fs first.spot first.formal last) frame.head

        is_first : (from.first.0 ≡ frame.at) × (from.first.1 ≡ frame.name)
        is_first = head_place p first.spot first.formal from.first.0 frame.at from.first.1 frame.name from.first_is frame.head

        pair_same : (a b : Place) (x y : Text) → a ≡ b → x ≡ y → ◌≡◌ {A = Head} (a, x) (b, y)
        pair_same a b x y e d = cc

        z : Head
        z = from.first

        circle : Linked p rs (from.first ∷ from.heads) from.first
        circle = subst (Linked p rs (from.first ∷ from.heads)) (sym (pair_same from.first.0 frame.at from.first.1 frame.name is_first.0 is_first.1)) from.linked

        are : EachBoth (HeadOf p) (first ∷ fs) (from.first ∷ from.heads)
        are = (from.first_is, from.are)

        rs' : List (List Formal)
        rs' = circled rs (first ∷ fs)

        less : IsNoMoreOpen p rs (circled rs (first ∷ fs))
        less = circled_less (first ∷ fs)

        closed_all : (h : Head) → Member h (from.first ∷ from.heads) → IsOpenAt p (circled rs (first ∷ fs)) h.0 h.1 → ⊥
        closed_all h m is =
            let f : (f : LookUpFrame) × Member f (first ∷ fs) × HeadOf p f h = member_frame p (first ∷ fs) (from.first ∷ from.heads) are h m in
            let same : (is.0 ≡ f.0.spot) × (is.1 ≡ f.0.formal) = head_numbers p walkable is.0 is.1 f.0.spot f.0.formal h.0 h.1 is.2 f.2 in
            subst IsOpen (all_circle (first ∷ fs) f.0 h.0 h.1 f.1 f.2)
            (subst IsOpen (ap (λ n. formal_of (circled rs (first ∷ fs)) n is.1) same.0 ∙ ap (formal_of (circled rs (first ∷ fs)) f.0.spot) same.1) is.3)

        told_head : (h : Head) → Member h (from.first ∷ from.heads) → IsKnown p h.0 h.1 known.Circle × Shut p (circled rs (first ∷ fs)) h.0 (h.1 ∷ [])
        told_head h m = (
          comes_back p rs from.first from.heads h circle m,
          λ n at y r e is. closed_all (at, y) (inner_all p rs from.first from.heads circle n n (omega arith) h m at y r e (less at y is)) is,
        )

        by_mark : (k i : ℕ) (at : Place) (x : Text) → IsHead p k i at x → (formal_of (circled rs (first ∷ fs)) k i ≡ formal_of rs k i) ⊎ IsMarked (first ∷ fs) k i → IsTold p (circled rs (first ∷ fs)) at x (formal_of (circled rs (first ∷ fs)) k i)
        by_mark k i at x head (inl e) = subst (IsTold p (circled rs (first ∷ fs)) at x) (sym e) (told_on p rs (circled rs (first ∷ fs)) less at x (formal_of rs k i) (told.told k i at x head))
        by_mark k i at x head (inr m) =
            let h : (h : Head) × Member h (from.first ∷ from.heads) × HeadOf p m.0 h = member_head p (first ∷ fs) (from.first ∷ from.heads) are m.0 m.1 in
            let head' : IsHead p m.0.spot m.0.formal at x = subst (λ n. IsHead p n m.0.formal at x) m.2 (subst (λ n. IsHead p k n at x) m.3 head) in
            let same : (h.0.0 ≡ at) × (h.0.1 ≡ x) = head_place p m.0.spot m.0.formal h.0.0 at h.0.1 x h.2 head' in
            let t : IsKnown p h.0.0 h.0.1 known.Circle × Shut p (circled rs (first ∷ fs)) h.0.0 (h.0.1 ∷ []) = told_head h.0 h.1 in
            subst (IsTold p (circled rs (first ∷ fs)) at x) (sym m.4)
            (subst (λ a. IsTold p (circled rs (first ∷ fs)) a x known.Circle) same.0 (subst (λ y. IsTold p (circled rs (first ∷ fs)) h.0.0 y known.Circle) same.1 t))
