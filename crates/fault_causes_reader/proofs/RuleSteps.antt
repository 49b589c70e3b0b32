-- The loops over causes, strikes and faults, one on.
use Rattle.std.proofs.Common.{◌≡◌, ℕ, zero, suc, ◌+◌, ◌-◌, ◌<◌, Bool, true, false, ◌||◌, List, [], ◌∷◌, ◌++◌, Option, Some, None, length, map, take, drop, get_or, refl, sym, ap, ◌∙◌, subst, arith}
use Rattle.std.specs.Prelude.{flat_map, slice_get}
use Rattle.std.proofs.lemmas.Grind.{flat_map-append}
use Rattle.std.proofs.lemmas.List.{drop_more, take_more, append-nil, append_assoc, length-map, length-take-le}
use Rattle.smv_language.specs.Language.{Text, Path, same_text, is_among, EachBoth}
use Rattle.smv_language.proofs.ValueLaws.{same_text_equal}
use Rattle.fault_rules.specs.KeyedLists.{with_texts}
use Rattle.fault_cause_laws.specs.CausesText.{WrittenCause}
use Rattle.fault_cause_laws.specs.CauseRules.{CauseRule, hit_names, names_of_cause, own_names, same_path, is_path_among}
use Rattle.fault_cause_laws.specs.StagedModel.{hit_name, own_name, none_name, self_name}
use Rattle.fault_causes_reader.specs.CausesFile.{IsNumberOf}
use Rattle.fault_causes_reader.specs.BrokenRules.{is_any_among, broken_by, told_at, first_broken}
use Rattle.std.proofs.lemmas.Bool.{and_parts as both, or_parts as neither}
use Rattle.fault_rules.proofs.KeyedLaws.{map_push as map_end, texts_more}
use Rattle.smv_flat_laws.proofs.BothLaws.{both_push}

-- ---- lists of members that are related

-- one member more on both sides
pub both_more : {A B : Type 0} (R : A → B → Type 0) (xs : List A) (ys ys' : List B) (i : ℕ) (x : A) (y : B) → i < length xs → x ≡ get_or xs i x → ys' ≡ ys ++ y ∷ [] → R x y → EachBoth R (take i xs) ys →
    EachBoth R (take (i + 1) xs) ys'
both_more R xs ys ys' i x y below is pushed r h =
    subst (λ zs. EachBoth R zs ys') (sym (take_more xs i x below ∙ ap (λ z. take i xs ++ z ∷ []) (sym is)))
    (subst (EachBoth R (take i xs ++ x ∷ [])) (sym pushed) (both_push R (take i xs) ys x y h r))

pub both_more_mapped : {A C D B : Type 0} (R : C → D → Type 0) (g : A → C) (k : B → D) (xs : List A) (ys ys' : List B) (i : ℕ) (x : A) (y : B) → i < length xs → x ≡ get_or xs i x → ys' ≡ ys ++ y ∷ [] →
    R (g x) (k y) → EachBoth R (map g (take i xs)) (map k ys) → EachBoth R (map g (take (i + 1) xs)) (map k ys')
both_more_mapped R g k xs ys ys' i x y below is pushed r h =
    subst (λ zs. EachBoth R (map g zs) (map k ys')) (sym (take_more xs i x below ∙ ap (λ z. take i xs ++ z ∷ []) (sym is)))
    (subst (λ zs. EachBoth R zs (map k ys')) (sym (map_end g (take i xs) x))
    (subst (λ zs. EachBoth R (map g (take i xs) ++ g x ∷ []) (map k zs)) (sym pushed)
    (subst (EachBoth R (map g (take i xs) ++ g x ∷ [])) (sym (map_end k ys y)) (both_push R (map g (take i xs)) (map k ys) (g x) (k y) h r))))

-- ---- causes

module _ {A : Type 0} (paths : List Path) (g : A → WrittenCause) (xs : List A) (i : ℕ) (x : A) (below : i < length xs) (is : x ≡ get_or xs i x) where
  left : map g (drop i xs) ≡ g x ∷ map g (drop (i + 1) xs)
  left = ap (map g) (drop_more xs i x below ∙ ap (λ z. z ∷ drop (i + 1) xs) (sym is))

  done : map g (take (i + 1) xs) ≡ map g (take i xs) ++ g x ∷ []
  done = ap (map g) (take_more xs i x below ∙ ap (λ z. take i xs ++ z ∷ []) (sym is)) ∙ map_end g (take i xs) x

  number : length (map g (take i xs)) ≡ i
  number = length-map (take i xs) g ∙ length-take-le i xs (omega (arith, below))

  opened : (taken : List Text) (all : Option (CauseRule × ℕ)) → first_broken paths taken (map g (take i xs)) (map g (drop i xs)) ≡ all →
      told_at (broken_by paths taken (map g (take i xs)) (g x)) (suc i) (first_broken paths (with_texts taken (names_of_cause (g x))) (map g (take (i + 1) xs)) (map g (drop (i + 1) xs))) ≡ all
  opened taken all rest =
      ap (λ b. told_at (broken_by paths taken (map g (take i xs)) (g x)) (suc i) (first_broken paths (with_texts taken (names_of_cause (g x))) b (map g (drop (i + 1) xs)))) done
      ∙ ap (λ n. told_at (broken_by paths taken (map g (take i xs)) (g x)) (suc n) (first_broken paths (with_texts taken (names_of_cause (g x))) (map g (take i xs) ++ g x ∷ []) (map g (drop (i + 1) xs)))) (sym number)
      ∙ sym (ap (first_broken paths taken (map g (take i xs))) left) ∙ rest

  -- a rule is broken here
  pub broken_here : (taken : List Text) (rule : CauseRule) (n : ℕ) (all : Option (CauseRule × ℕ)) → broken_by paths taken (map g (take i xs)) (g x) ≡ Some rule → n ≡ i + 1 →
      first_broken paths taken (map g (take i xs)) (map g (drop i xs)) ≡ all → all ≡ Some (rule, n)
  broken_here taken rule n all is_broken is_number rest =
      let same : suc i ≡ n = omega (arith, is_number) in
      sym (opened taken all rest)
      ∙ ap (λ o. told_at o (suc i) (first_broken paths (with_texts taken (names_of_cause (g x))) (map g (take (i + 1) xs)) (map g (drop (i + 1) xs)))) is_broken
      ∙ ap (λ k. Some (rule, k)) same

  -- or none
  pub broken_later : (taken taken' : List Text) (all : Option (CauseRule × ℕ)) → broken_by paths taken (map g (take i xs)) (g x) ≡ None → taken' ≡ with_texts taken (names_of_cause (g x)) →
      first_broken paths taken (map g (take i xs)) (map g (drop i xs)) ≡ all → first_broken paths taken' (map g (take (i + 1) xs)) (map g (drop (i + 1) xs)) ≡ all
  broken_later taken taken' all none more rest =
      ap (λ t. first_broken paths t (map g (take (i + 1) xs)) (map g (drop (i + 1) xs))) more
      ∙ sym (ap (λ o. told_at o (suc i) (first_broken paths (with_texts taken (names_of_cause (g x))) (map g (take (i + 1) xs)) (map g (drop (i + 1) xs)))) none)
      ∙ opened taken all rest

  pub names_later : (first taken taken' : List Text) → taken' ≡ with_texts taken (names_of_cause (g x)) → taken ≡ with_texts first (flat_map names_of_cause (map g (take i xs))) →
      taken' ≡ with_texts first (flat_map names_of_cause (map g (take (i + 1) xs)))
  names_later first taken taken' more so_far =
      more ∙ ap (λ t. with_texts t (names_of_cause (g x))) so_far
      ∙ sym (texts_more first (flat_map names_of_cause (map g (take i xs))) (names_of_cause (g x)))
      ∙ ap (λ ns. with_texts first (flat_map names_of_cause (map g (take i xs)) ++ ns)) (sym (append-nil (names_of_cause (g x))))
      ∙ ap (with_texts first) (sym (flat_map-append names_of_cause (map g (take i xs)) (g x ∷ [])))
      ∙ ap (λ ys. with_texts first (flat_map names_of_cause ys)) (sym done)

-- ---- names

-- one strike more
pub hits_more : (x : Text) (names names' all : List Text) (ps : List Path) (i : ℕ) (d : Path) → i < length ps → names' ≡ names ++ hit_name x (i + 1) ∷ [] → names ++ hit_names x (i + 1) (drop i ps) ≡ all →
    names' ++ hit_names x (i + 1 + 1) (drop (i + 1) ps) ≡ all
hits_more x names names' all ps i d below pushed rest =
    let one : i + 1 + 1 ≡ suc (i + 1) = omega arith in
    ap (λ ns. ns ++ hit_names x (i + 1 + 1) (drop (i + 1) ps)) pushed
    ∙ append_assoc names (hit_name x (i + 1) ∷ []) (hit_names x (i + 1 + 1) (drop (i + 1) ps))
    ∙ ap (λ k. names ++ hit_name x (i + 1) ∷ hit_names x k (drop (i + 1) ps)) one
    ∙ sym (ap (λ qs. names ++ hit_names x (i + 1) qs) (drop_more ps i d below)) ∙ rest

-- the names of one fault more
any_join : (taken xs ys : List Text) → is_any_among taken (xs ++ ys) ≡ (is_any_among taken xs || is_any_among taken ys)
any_join taken [] ys = refl
any_join taken (x ∷ xs) ys = ap (λ b. is_among taken x || b) (any_join taken xs ys) ∙ assoc (is_among taken x) (is_any_among taken xs) (is_any_among taken ys)
  where
    assoc : (a b c : Bool) → (a || (b || c)) ≡ ((a || b) || c)
    assoc true b c = refl
    assoc false b c = refl

owns_opened : (taken : List Text) (i faults : ℕ) → i < faults →
    is_any_among taken (own_names (i + 1) (faults - i)) ≡ (is_any_among taken (own_names (i + 1) 1) || is_any_among taken (own_names (i + 1 + 1) (faults - (i + 1))))
owns_opened taken i faults below =
    let more : faults - i ≡ suc (faults - (i + 1)) = omega (arith, below) in
    let one : suc (i + 1) ≡ i + 1 + 1 = omega arith in
    ap (λ n. is_any_among taken (own_names (i + 1) n)) more
    ∙ ap (λ k. is_any_among taken (own_name (i + 1) ∷ none_name (i + 1) ∷ self_name (i + 1) ∷ own_names k (faults - (i + 1)))) one
    ∙ any_join taken (own_name (i + 1) ∷ none_name (i + 1) ∷ self_name (i + 1) ∷ []) (own_names (i + 1 + 1) (faults - (i + 1)))

pub owns_later : (taken : List Text) (i faults : ℕ) (all : Bool) → i < faults → is_any_among taken (own_names (i + 1) 1) ≡ false → is_any_among taken (own_names (i + 1) (faults - i)) ≡ all →
    is_any_among taken (own_names (i + 1 + 1) (faults - (i + 1))) ≡ all
owns_later taken i faults all below here rest =
    sym (owns_opened taken i faults below ∙ ap (λ b. b || is_any_among taken (own_names (i + 1 + 1) (faults - (i + 1)))) here) ∙ rest

-- ---- paths

pub same_path_equal : (x y : Path) → same_path x y ≡ true → x ≡ y
same_path_equal [] [] h = refl
same_path_equal [] (b ∷ y) h = cc
same_path_equal (a ∷ x) [] h = cc
same_path_equal (a ∷ x) (b ∷ y) h =
    let parts = both (same_text a b) (same_path x y) h in
    let first = same_text_equal a b parts.0 in
    let rest = same_path_equal x y parts.1 in
    (λ j. first j ∷ rest j)

-- the path of a place is got there
pub get_place : {A : Type 0} (g : A → Path) (xs : List A) (i : ℕ) (x : A) → i < length xs → x ≡ get_or xs i x → slice_get (map g xs) i ≡ Some (g x)
get_place g [] i x below is = absurd (omega (arith, below))
get_place g (y ∷ xs) zero x below is = ap (λ z. Some (g z)) (sym is)
get_place g (y ∷ xs) (suc i) x below is = get_place g xs i x (omega (arith, below)) is

-- one path more that is another one
pub none_more : {A : Type 0} (g : A → Path) (xs : List A) (i : ℕ) (x : A) (p : Path) → i < length xs → x ≡ get_or xs i x → is_path_among (take i (map g xs)) p ≡ false → same_path (g x) p ≡ false →
    is_path_among (take (suc i) (map g xs)) p ≡ false
none_more g [] i x p below is none other = absurd (omega (arith, below))
none_more g (y ∷ xs) zero x p below is none other = ap (λ b. b || false) (subst (λ z. same_path (g z) p ≡ false) is other)
none_more g (y ∷ xs) (suc i) x p below is none other =
    let parts = neither (same_path (g y) p) (is_path_among (take i (map g xs)) p) none in
    ap (λ b. b || is_path_among (take (suc i) (map g xs)) p) parts.0 ∙ none_more g xs i x p (omega (arith, below)) is parts.1 other

-- the number of a path that stands at a place, and at none before it
pub is_number : (paths : List Path) (p q : Path) (i n : ℕ) → n ≡ i + 1 → same_path q p ≡ true → slice_get paths i ≡ Some q → is_path_among (take i paths) p ≡ false → IsNumberOf paths p n
is_number paths p q i n is same got none =
    let before : n - 1 ≡ i = omega (arith, is) in
    (omega (arith, is), ap (slice_get paths) before ∙ got ∙ ap Some (same_path_equal q p same), ap (λ k. is_path_among (take k paths) p) before ∙ none)

-- no rule, where none is told
pub none_left : {A : Type 0} (o : Option A) → ((r : A) → o ≡ Some r → ⊥) → o ≡ None
none_left None h = refl
none_left (Some r) h = absurd (h r refl)
