-- Setting the bits of values gives the assignment these bits, and keeps all else.
use Rattle.std.proofs.Common.{◌≡◌, ◌⊎◌, inl, inr, ℕ, ◌+◌, ◌<◌, ◌≤◌, Bool, true, false, pos, List, [], ◌∷◌, ◌++◌, length, map, get_or, set, Some, None, refl, sym, ◌∙◌, ap, subst, arith}
use Rattle.std.specs.Prelude.{if◌then◌else◌}
use Rattle.std.proofs.lemmas.List.{get_or-set_same, get_or-set_other, length-set}
use Rattle.std.proofs.lemmas.List.Sums.{sum_by-cons}
use Rattle.smv_language.specs.Language.{Text, declared_tree, Role, state, input, frozen_role, Each, variable_tree, role_of}
use Rattle.smv_language.specs.Values as told
use Rattle.base_values.specs.declared.value.Value.{Value}
use Rattle.base_values.specs.declared.value.Value.TheVariants as value
use Rattle.smv_language.specs.declared.model.Variable.{Variable}
use Rattle.smv_type_laws.specs.Costs.{declared_width, role_width}
use Rattle.smv_types.specs.Types.{StandsFor, variable_domain}
use Rattle.sat_clauses.specs.Assignment.{Assignment}
use Rattle.sat_encoding_laws.specs.Inputs.{is_input}
use Rattle.sat_encoding_laws.specs.Layout.{state_width, input_width, width_as_input, place_of}
use Rattle.sat_encoding_laws.specs.Bits.{number_bits, value_number, value_bits, bits_of}
use Rattle.sat_encoding_laws.proofs.TypeBits.{length-number}
use Rattle.sat_encoding_laws.proofs.Readings.{IsRightType}
use Rattle.sat_encoding.specs.Domains.{domain_width}
use Rattle.sat_encoding.specs.Values.{StandFor, Gives, AreFree, number_of, with_bits, bits_set, state_size, input_size, AreLeft}
use Rattle.sat_encoding.proofs.DomainLaws.{width_is}

-- ---- the bits of one value

pub length_with : (a : Assignment) (n : ℕ) (bs : List Bool) → length (with_bits a n bs) ≡ length a
length_with a n [] = refl
length_with a n (b ∷ bs) = length_with (set a n (Some b)) (n + 1) bs ∙ length-set a n (Some b)

with_below : (a : Assignment) (n : ℕ) (bs : List Bool) (x : ℕ) → x < n → get_or (with_bits a n bs) x None ≡ get_or a x None
with_below a n [] x h = refl
with_below a n (b ∷ bs) x h = with_below (set a n (Some b)) (n + 1) bs x (omega (arith, h)) ∙ get_or-set_other a n x (Some b) None (λ e. omega (arith, h, e))

with_above : (a : Assignment) (n : ℕ) (bs : List Bool) (x : ℕ) → n + length bs ≤ x → get_or (with_bits a n bs) x None ≡ get_or a x None
with_above a n [] x h = refl
with_above a n (b ∷ bs) x h = with_above (set a n (Some b)) (n + 1) bs x (omega (arith, h)) ∙ get_or-set_other a n x (Some b) None (λ e. omega (arith, h, e))

gives_with : (a : Assignment) (n : ℕ) (bs : List Bool) → n + length bs ≤ length a → Gives (with_bits a n bs) n bs
gives_with a n [] h = tt
gives_with a n (b ∷ bs) h = (
  with_below (set a n (Some b)) (n + 1) bs n (omega arith) ∙ get_or-set_same a n (Some b) None (omega (arith, h)),
  gives_with (set a n (Some b)) (n + 1) bs (omega (arith, h, length-set a n (Some b))),
)

-- bits that are the same elsewhere
gives_same : (a c : Assignment) (n : ℕ) (bs : List Bool) → ((x : ℕ) → n ≤ x → x < n + length bs → get_or c x None ≡ get_or a x None) → Gives a n bs → Gives c n bs
gives_same a c n [] same h = tt
gives_same a c n (b ∷ bs) same h = (
  same n (omega arith) (omega arith) ∙ h.0,
  gives_same a c (n + 1) bs (λ x low high. same x (omega (arith, low)) (omega (arith, high))) h.1,
)

gives_join : (a : Assignment) (n k : ℕ) (bs cs : List Bool) → length bs ≡ k → Gives a n bs → Gives a (n + k) cs → Gives a n (bs ++ cs)
gives_join a n k [] cs e h j = let at : n + k ≡ n = omega (arith, e) in subst (λ (i : ℕ). Gives a i cs) at j
gives_join a n k (b ∷ bs) cs e h j =
    let at : n + k ≡ (n + 1) + length bs = omega (arith, e) in (h.0, gives_join a (n + 1) (length bs) bs cs refl h.1 (subst (λ (i : ℕ). Gives a i cs) at j))

-- ---- the bits of all values

module _ (symbols : List Text) where
  same_number : (v : Value) (u : told.Value) → StandsFor symbols v u → number_of v ≡ value_number symbols u
  same_number (value.Bool b) (told.truth c) h = ap (λ x. if x then pos 1 else pos 0) h
  same_number (value.Num n) (told.number k) h = h
  same_number (value.Sym i) (told.symbol x) h = ap pos (sym h.1)
  same_number (value.Bool b) (told.number k) h = absurd h
  same_number (value.Bool b) (told.symbol x) h = absurd h
  same_number (value.Num n) (told.truth c) h = absurd h
  same_number (value.Num n) (told.symbol x) h = absurd h
  same_number (value.Sym i) (told.truth c) h = absurd h
  same_number (value.Sym i) (told.number k) h = absurd h

  -- the widths of the first variable and of those after it
  first_state : (x : Variable) (xs : List Variable) → state_size symbols (x ∷ xs) ≡ role_width (role_of x.role) (declared_width symbols (declared_tree x.declared)) + state_size symbols xs
  first_state x xs = sum_by-cons (state_width symbols) (variable_tree x) (map variable_tree xs)

  first_input : (x : Variable) (xs : List Variable) → input_size symbols (x ∷ xs) ≡ width_as_input (role_of x.role) (declared_width symbols (declared_tree x.declared)) + input_size symbols xs
  first_input x xs = sum_by-cons (input_width symbols) (variable_tree x) (map variable_tree xs)

  abbrev bits_here : Variable → Value → List Bool
  bits_here x v = number_bits (domain_width (variable_domain symbols x)) (number_of v)

  abbrev step : Assignment → ℕ → ℕ → Variable → Value → Assignment
  step a p q x v = with_bits a (place_of (role_of x.role) p q) (bits_here x v)

  size_here : (x : Variable) (v : Value) → IsRightType symbols (variable_tree x) → length (bits_here x v) ≡ declared_width symbols (declared_tree x.declared)
  size_here x v right = length-number (domain_width (variable_domain symbols x)) (number_of v) ∙ width_is symbols (declared_tree x.declared) right.0 right.1

  -- outside its places nothing changes
  abbrev IsOutside : ℕ → ℕ → List Variable → ℕ → Type 0
  IsOutside p q xs x = ((x < p) ⊎ (p + state_size symbols xs ≤ x)) × ((x < q) ⊎ (q + input_size symbols xs ≤ x))

  step_keeps : (r : Role) (a : Assignment) (p q w : ℕ) (bs : List Bool) (y : ℕ) → length bs ≡ w → (y < p) ⊎ (p + role_width r w ≤ y) → (y < q) ⊎ (q + width_as_input r w ≤ y) → get_or (with_bits a (place_of r p q) bs) y None ≡ get_or a y None
  step_keeps state a p q w bs y e (inl h) k = with_below a p bs y h
  step_keeps state a p q w bs y e (inr h) k = with_above a p bs y (omega (arith, h, e))
  step_keeps frozen_role a p q w bs y e (inl h) k = with_below a p bs y h
  step_keeps frozen_role a p q w bs y e (inr h) k = with_above a p bs y (omega (arith, h, e))
  step_keeps input a p q w bs y e h (inl k) = with_below a q bs y k
  step_keeps input a p q w bs y e h (inr k) = with_above a q bs y (omega (arith, k, e))

  front : (p w s t y : ℕ) → t ≡ w + s → (y < p) ⊎ (p + t ≤ y) → (y < p) ⊎ (p + w ≤ y)
  front p w s t y e (inl h) = inl h
  front p w s t y e (inr h) = inr (omega (arith, h, e))

  back : (p w s t y : ℕ) → t ≡ w + s → (y < p) ⊎ (p + t ≤ y) → (y < p + w) ⊎ ((p + w) + s ≤ y)
  back p w s t y e (inl h) = inl (omega (arith, h))
  back p w s t y e (inr h) = inr (omega (arith, h, e))

  pub set_keeps : (xs : List Variable) → Each (IsRightType symbols) (map variable_tree xs) → (vs : List Value) (a : Assignment) (p q y : ℕ) → IsOutside p q xs y → get_or (bits_set symbols a p q xs vs) y None ≡ get_or a y None
  set_keeps [] right vs a p q y out = refl
  set_keeps (x ∷ xs) right [] a p q y out = refl
  set_keeps (x ∷ xs) right (v ∷ vs) a p q y out =
      let r = role_of x.role in
      let w = domain_width (variable_domain symbols x) in
      let d = declared_width symbols (declared_tree x.declared) in
      let wide : w ≡ d = width_is symbols (declared_tree x.declared) right.0.0 right.0.1 in
      let s = first_state x xs ∙ ap (λ k. role_width r k + state_size symbols xs) (sym wide) in
      let t = first_input x xs ∙ ap (λ k. width_as_input r k + input_size symbols xs) (sym wide) in
      set_keeps xs right.1 vs (step a p q x v) (p + role_width r w) (q + width_as_input r w) y
      (back p (role_width r w) (state_size symbols xs) (state_size symbols (x ∷ xs)) y s out.0, back q (width_as_input r w) (input_size symbols xs) (input_size symbols (x ∷ xs)) y t out.1)
      ∙ step_keeps r a p q w (bits_here x v) y (length-number w (number_of v))
      (front p (role_width r w) (state_size symbols xs) (state_size symbols (x ∷ xs)) y s out.0) (front q (width_as_input r w) (input_size symbols xs) (input_size symbols (x ∷ xs)) y t out.1)

  pub set_long : (xs : List Variable) (vs : List Value) (a : Assignment) (p q : ℕ) → length (bits_set symbols a p q xs vs) ≡ length a
  set_long [] vs a p q = refl
  set_long (x ∷ xs) [] a p q = refl
  set_long (x ∷ xs) (v ∷ vs) a p q =
      let w = domain_width (variable_domain symbols x) in
      set_long xs vs (step a p q x v) (p + role_width (role_of x.role) w) (q + width_as_input (role_of x.role) w) ∙ length_with a (place_of (role_of x.role) p q) (bits_here x v)

  -- the bits of the state stand one after another, and so do those of the inputs
  pub record AreSet (xs : List Variable) (vs : List Value) (us : List told.Value) (a : Assignment) (p q : ℕ) : Type 0 where
    pub state : Gives (bits_set symbols a p q xs vs) p (bits_of symbols false (map variable_tree xs) us)
    pub inputs : Gives (bits_set symbols a p q xs vs) q (bits_of symbols true (map variable_tree xs) us)

  abbrev own : Role → Bool → List Bool → List Bool
  own r inputs bs = if is_input r then (if inputs then bs else []) else (if inputs then [] else bs)

  module _ (xs : List Variable) (right : Each (IsRightType symbols) (map variable_tree xs)) (vs : List Value) (a : Assignment) (p q w : ℕ) (bs : List Bool) (long : length bs ≡ w) where
    abbrev after_role : Role → Assignment
    after_role r = bits_set symbols (with_bits a (place_of r p q) bs) (p + role_width r w) (q + width_as_input r w) xs vs

    keeps : (r : Role) (y : ℕ) → IsOutside (p + role_width r w) (q + width_as_input r w) xs y → get_or (after_role r) y None ≡ get_or (with_bits a (place_of r p q) bs) y None
    keeps r y out = set_keeps xs right vs (with_bits a (place_of r p q) bs) (p + role_width r w) (q + width_as_input r w) y out

    state_case : (r : Role) → role_width r w ≡ w → width_as_input r w ≡ 0 → place_of r p q ≡ p → p + (w + state_size symbols xs) ≤ q → q ≤ length a → Gives (after_role r) p bs
    state_case r e f g below within =
        gives_same (with_bits a (place_of r p q) bs) (after_role r) p bs (λ y low high. keeps r y (inl (omega (arith, high, long, e)), inl (omega (arith, high, long, below))))
        (subst (λ (n : ℕ). Gives (with_bits a n bs) p bs) (sym g) (gives_with a p bs (omega (arith, long, below, within))))

    input_case : (r : Role) → role_width r w ≡ 0 → width_as_input r w ≡ w → place_of r p q ≡ q → p + state_size symbols xs ≤ q → q + (w + input_size symbols xs) ≤ length a → Gives (after_role r) q bs
    input_case r e f g below within =
        gives_same (with_bits a (place_of r p q) bs) (after_role r) q bs (λ y low high. keeps r y (inr (omega (arith, low, below, e)), inl (omega (arith, high, long, f))))
        (subst (λ (n : ℕ). Gives (with_bits a n bs) q bs) (sym g) (gives_with a q bs (omega (arith, long, within))))

    by_role : (r : Role) (ss is : List Bool) → p + (role_width r w + state_size symbols xs) ≤ q → q + (width_as_input r w + input_size symbols xs) ≤ length a
        → Gives (after_role r) (p + role_width r w) ss → Gives (after_role r) (q + width_as_input r w) is
        → Gives (after_role r) p (own r false bs ++ ss) × Gives (after_role r) q (own r true bs ++ is)
    by_role state ss is below within hs hi = (
      gives_join (after_role state) p w bs ss long (state_case state refl refl refl below (omega (arith, within))) hs,
      let at : q + 0 ≡ q = omega arith in subst (λ (n : ℕ). Gives (after_role state) n is) at hi,
    )
    by_role frozen_role ss is below within hs hi = (
      gives_join (after_role frozen_role) p w bs ss long (state_case frozen_role refl refl refl below (omega (arith, within))) hs,
      let at : q + 0 ≡ q = omega arith in subst (λ (n : ℕ). Gives (after_role frozen_role) n is) at hi,
    )
    by_role input ss is below within hs hi = (
      let at : p + 0 ≡ p = omega arith in subst (λ (n : ℕ). Gives (after_role input) n ss) at hs,
      gives_join (after_role input) q w bs is long (input_case input refl refl refl (omega (arith, below)) within) hi,
    )

  pub set_gives : (xs : List Variable) → Each (IsRightType symbols) (map variable_tree xs) → (vs : List Value) (us : List told.Value) → StandFor symbols vs us → (a : Assignment) (p q : ℕ) → p + state_size symbols xs ≤ q → q + input_size symbols xs ≤ length a
      → AreSet xs vs us a p q
  set_gives [] right vs us h a p q below within = record { state = tt; inputs = tt }
  set_gives (x ∷ xs) right [] [] h a p q below within = record { state = tt; inputs = tt }
  set_gives (x ∷ xs) right [] (u ∷ us) h a p q below within = absurd h
  set_gives (x ∷ xs) right (v ∷ vs) [] h a p q below within = absurd h
  set_gives (x ∷ xs) right (v ∷ vs) (u ∷ us) h a p q below within =
      let r = role_of x.role in
      let w = domain_width (variable_domain symbols x) in
      let d = declared_tree x.declared in
      let bs = bits_here x v in
      let wide : w ≡ declared_width symbols d = width_is symbols d right.0.0 right.0.1 in
      let same : bs ≡ value_bits symbols d u = ap (λ k. number_bits k (number_of v)) wide ∙ ap (number_bits (declared_width symbols d)) (same_number v u h.0) in
      let s : state_size symbols (x ∷ xs) ≡ role_width r w + state_size symbols xs = first_state x xs ∙ ap (λ k. role_width r k + state_size symbols xs) (sym wide) in
      let t : input_size symbols (x ∷ xs) ≡ width_as_input r w + input_size symbols xs = first_input x xs ∙ ap (λ k. width_as_input r k + input_size symbols xs) (sym wide) in
      let low : p + (role_width r w + state_size symbols xs) ≤ q = omega (arith, below, s) in
      let high : q + (width_as_input r w + input_size symbols xs) ≤ length a = omega (arith, within, t) in
      let more = set_gives xs right.1 vs us h.1 (step a p q x v) (p + role_width r w) (q + width_as_input r w) (before r p q w (state_size symbols xs) low)
      (omega (arith, high, length_with a (place_of r p q) bs)) in
      let both = by_role xs right.1 vs a p q w bs (length-number w (number_of v)) r (bits_of symbols false (map variable_tree xs) us) (bits_of symbols true (map variable_tree xs) us) low high more.state more.inputs in
      record {
        state = subst (λ (cs : List Bool). Gives (bits_set symbols a p q (x ∷ xs) (v ∷ vs)) p (own r false cs ++ bits_of symbols false (map variable_tree xs) us)) same both.0;
        inputs = subst (λ (cs : List Bool). Gives (bits_set symbols a p q (x ∷ xs) (v ∷ vs)) q (own r true cs ++ bits_of symbols true (map variable_tree xs) us)) same both.1;
      }
    where
      before : (r : Role) (p q w n : ℕ) → p + (role_width r w + n) ≤ q → (p + role_width r w) + n ≤ q + width_as_input r w
      before r p q w n h = omega (arith, h)

  -- ---- the loops

  -- what is left stays free when the bits of a variable are set
  pub left_next : (x : Variable) (xs : List Variable) (v : Value) → IsRightType symbols (variable_tree x) → (a : Assignment) (p q ends_p ends_q : ℕ) → AreLeft symbols a p q ends_p ends_q (x ∷ xs)
      → AreLeft symbols (step a p q x v) (p + role_width (role_of x.role) (domain_width (variable_domain symbols x))) (q + width_as_input (role_of x.role) (domain_width (variable_domain symbols x))) ends_p ends_q xs
  left_next x xs v right a p q ends_p ends_q left =
      let w = domain_width (variable_domain symbols x) in
      let wide : w ≡ declared_width symbols (declared_tree x.declared) = width_is symbols (declared_tree x.declared) right.0 right.1 in
      by (role_of x.role) w (bits_here x v) (length-number w (number_of v)) (first_state x xs ∙ ap (λ k. role_width (role_of x.role) k + state_size symbols xs) (sym wide)) (first_input x xs ∙ ap (λ k. width_as_input (role_of x.role) k + input_size symbols xs) (sym wide))
    where
      by : (r : Role) (w : ℕ) (bs : List Bool) → length bs ≡ w → state_size symbols (x ∷ xs) ≡ role_width r w + state_size symbols xs → input_size symbols (x ∷ xs) ≡ width_as_input r w + input_size symbols xs
          → AreLeft symbols (with_bits a (place_of r p q) bs) (p + role_width r w) (q + width_as_input r w) ends_p ends_q xs
      by state w bs e s t = record {
        state = omega (arith, left.state, s);
        inputs = omega (arith, left.inputs, t);
        apart = omega (arith, left.apart);
        free_state = λ y low high. with_above a p bs y (omega (arith, low, e)) ∙ left.free_state y (omega (arith, low)) (omega (arith, high, s));
        free_inputs = λ y low high. with_above a p bs y (omega (arith, low, e, left.state, s, left.apart)) ∙ left.free_inputs y (omega (arith, low)) (omega (arith, high, t));
        least = omega (arith, left.least);
      }
      by frozen_role w bs e s t = record {
        state = omega (arith, left.state, s);
        inputs = omega (arith, left.inputs, t);
        apart = omega (arith, left.apart);
        free_state = λ y low high. with_above a p bs y (omega (arith, low, e)) ∙ left.free_state y (omega (arith, low)) (omega (arith, high, s));
        free_inputs = λ y low high. with_above a p bs y (omega (arith, low, e, left.state, s, left.apart)) ∙ left.free_inputs y (omega (arith, low)) (omega (arith, high, t));
        least = omega (arith, left.least);
      }
      by input w bs e s t = record {
        state = omega (arith, left.state, s);
        inputs = omega (arith, left.inputs, t);
        apart = omega (arith, left.apart);
        free_state = λ y low high. with_below a q bs y (omega (arith, high, left.state, s, left.apart)) ∙ left.free_state y (omega (arith, low)) (omega (arith, high, s));
        free_inputs = λ y low high. with_above a q bs y (omega (arith, low, e)) ∙ left.free_inputs y (omega (arith, low)) (omega (arith, high, t));
        least = omega (arith, left.least);
      }

  -- the places of the variable at hand
  pub own_free : (x : Variable) (xs : List Variable) → IsRightType symbols (variable_tree x) → (a : Assignment) (p q ends_p ends_q : ℕ) → AreLeft symbols a p q ends_p ends_q (x ∷ xs)
      → AreFree a (place_of (role_of x.role) p q) (domain_width (variable_domain symbols x)) × ((place_of (role_of x.role) p q + domain_width (variable_domain symbols x) ≤ ends_q) × (2 ≤ place_of (role_of x.role) p q))
  own_free x xs right a p q ends_p ends_q left =
      let w = domain_width (variable_domain symbols x) in
      let wide : w ≡ declared_width symbols (declared_tree x.declared) = width_is symbols (declared_tree x.declared) right.0 right.1 in
      by (role_of x.role) w (first_state x xs ∙ ap (λ k. role_width (role_of x.role) k + state_size symbols xs) (sym wide)) (first_input x xs ∙ ap (λ k. width_as_input (role_of x.role) k + input_size symbols xs) (sym wide))
    where
      by : (r : Role) (w : ℕ) → state_size symbols (x ∷ xs) ≡ role_width r w + state_size symbols xs → input_size symbols (x ∷ xs) ≡ width_as_input r w + input_size symbols xs
          → AreFree a (place_of r p q) w × ((place_of r p q + w ≤ ends_q) × (2 ≤ place_of r p q))
      by state w s t = ((λ y low high. left.free_state y low (omega (arith, high, s))), (omega (arith, left.state, s, left.apart, left.inputs), left.least))
      by frozen_role w s t = ((λ y low high. left.free_state y low (omega (arith, high, s))), (omega (arith, left.state, s, left.apart, left.inputs), left.least))
      by input w s t = ((λ y low high. left.free_inputs y low (omega (arith, high, t))), (omega (arith, left.inputs, t), omega (arith, left.least, left.apart, left.state)))
