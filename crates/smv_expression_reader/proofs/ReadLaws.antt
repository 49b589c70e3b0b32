-- Parts that are read one after another, and the longest expression of a list.
use Rattle.std.proofs.Common.{◌≡◌, ℕ, zero, suc, ◌+◌, ◌-◌, ◌<◌, ◌≤◌, Bool, true, false, List, [], ◌∷◌, ◌++◌, Option, Some, None, length, map, take, drop, refl, sym, ap, ◌∙◌, arith, append_assoc, append-nil, add-one}
use Rattle.std.specs.Prelude.{nat_lt, ◌||◌, if◌then◌else◌}
use Rattle.std.proofs.Math.Seq.{take-append_seam}
use Rattle.std.proofs.lemmas.List.{map-append}
use Rattle.std.proofs.lemmas.Bool.Decides.{nat_tests}
use Rattle.base_values.specs.declared.limits.TheConstants.{MOST_HEIGHT, MOST_NESTED}
use Rattle.smv_language.specs.Language.{height_of, Formula, Lexeme, nesting_of, SpellsExpr}
use Rattle.smv_expression_reader.specs.Recogniser.{Ended, by_number, by_name, by_other, State, had, stuck, run, role_of, is_stuck, is_whole, start}
use Rattle.smv_expression_reader.specs.Recogniser as machine
use Rattle.smv_expression_reader.specs.TreeBuilder.{built}
use Rattle.smv_expression_reader.specs.Extents.{reach_of, is_deep, ends_whole}
use Rattle.smv_expression_reader.specs.ExpressionDepths.{Spelling, IsWithin, AreWithin, is_too_deep, are_too_deep, spelling}
use Rattle.smv_expression_reader.specs.SecondPass.{Read, got, deep, none, and_then, answer, with_front, made_of, front_read, expr_at, rest_of, each_at}
use Rattle.smv_expression_reader.proofs.Accepted.{spelled_accepted}
use Rattle.smv_expression_reader.proofs.Built.{built_spelled}
use Rattle.smv_expression_reader.proofs.ExpressionLaws.{expression_made}
use Rattle.smv_expression_reader.proofs.ExtentLaws.{Halts, reach_before, whole_before, deep_before, deep_nesting, reached_whole}
use Rattle.smv_expression_reader.specs.declared.machine.TokenRole.{TokenRole as Role}
use Rattle.smv_expression_reader.specs.declared.machine.TokenRole.TheVariants as role

-- one part more, put behind those that stand there
pub front_next : {A : Type 0} (xs : List A) (a : A) (r : Read (List A)) → with_front xs (and_then r (λ more s. got (a ∷ more) s)) ≡ with_front (xs ++ a ∷ []) r
front_next xs a (got more s) = ap (λ z. got z s) (sym (append_assoc xs (a ∷ []) more))
front_next xs a deep = refl
front_next xs a none = refl

each_more : {A : Type 0} (begins : List Lexeme → Bool) (one : List Lexeme → Read A) (n i : ℕ) (ts : List Lexeme) → i < n →
    each_at begins one (n - i) ts ≡ (if begins ts then and_then (one ts) (λ a r. and_then (each_at begins one (n - (i + 1)) r) (λ more s. got (a ∷ more) s)) else got [] ts)
each_more begins one n i ts h = let e : n - i ≡ suc (n - (i + 1)) = omega (arith, h) in ap (λ m. each_at begins one m ts) e

-- another part is read
pub each_next : {A : Type 0} (begins : List Lexeme → Bool) (one : List Lexeme → Read A) (whole : Read (List A)) (xs : List A) (n i : ℕ) (ts r : List Lexeme) (a : A) →
    whole ≡ with_front xs (each_at begins one (n - i) ts) → i < n → begins ts ≡ true → one ts ≡ got a r → whole ≡ with_front (xs ++ a ∷ []) (each_at begins one (n - (i + 1)) r)
each_next begins one whole xs n i ts r a before h go read =
    before ∙ ap (with_front xs) (each_more begins one n i ts h
    ∙ ap (λ b. if b then and_then (one ts) (λ a r. and_then (each_at begins one (n - (i + 1)) r) (λ more s. got (a ∷ more) s)) else got [] ts) go
    ∙ ap (λ z. and_then z (λ a r. and_then (each_at begins one (n - (i + 1)) r) (λ more s. got (a ∷ more) s))) read)
    ∙ front_next xs a (each_at begins one (n - (i + 1)) r)

pub each_pushed : {A : Type 0} (begins : List Lexeme → Bool) (one : List Lexeme → Read A) (whole : Read (List A)) (xs ys : List A) (n i : ℕ) (ts r : List Lexeme) (a : A) →
    whole ≡ with_front xs (each_at begins one (n - i) ts) → i < n → begins ts ≡ true → one ts ≡ got a r → ys ≡ xs ++ a ∷ [] → whole ≡ with_front ys (each_at begins one (n - (i + 1)) r)
each_pushed begins one whole xs ys n i ts r a before h go read more =
    each_next begins one whole xs n i ts r a before h go read ∙ ap (λ zs. with_front zs (each_at begins one (n - (i + 1)) r)) (sym more)

-- the same where the parts are seen through a view
pub each_viewed : {V A : Type 0} (view : V → A) (begins : List Lexeme → Bool) (one : List Lexeme → Read A) (whole : Read (List A)) (xs ys : List V) (n i : ℕ) (ts r : List Lexeme) (v : V) →
    whole ≡ with_front (map view xs) (each_at begins one (n - i) ts) → i < n → begins ts ≡ true → one ts ≡ got (view v) r → ys ≡ xs ++ v ∷ [] →
    whole ≡ with_front (map view ys) (each_at begins one (n - (i + 1)) r)
each_viewed view begins one whole xs ys n i ts r v before h go read more =
    each_pushed begins one whole (map view xs) (map view ys) n i ts r (view v) before h go read (ap (map view) more ∙ map-append view xs (v ∷ []))

-- no other part begins
pub each_end : {A : Type 0} (begins : List Lexeme → Bool) (one : List Lexeme → Read A) (whole : Read (List A)) (xs : List A) (n i : ℕ) (ts : List Lexeme) →
    whole ≡ with_front xs (each_at begins one (n - i) ts) → i < n → begins ts ≡ false → whole ≡ got xs ts
each_end begins one whole xs n i ts before h go =
    before ∙ ap (with_front xs) (each_more begins one n i ts h
    ∙ ap (λ b. if b then and_then (one ts) (λ a r. and_then (each_at begins one (n - (i + 1)) r) (λ more s. got (a ∷ more) s)) else got [] ts) go)
    ∙ ap (λ z. got z ts) (append-nil xs)

-- as many parts are read as may be
pub each_spent : {A : Type 0} (begins : List Lexeme → Bool) (one : List Lexeme → Read A) (whole : Read (List A)) (xs : List A) (n i : ℕ) (ts : List Lexeme) →
    whole ≡ with_front xs (each_at begins one (n - i) ts) → n ≤ i → whole ≡ got xs ts
each_spent begins one whole xs n i ts before h =
    let e : n - i ≡ zero = omega (arith, h) in before ∙ ap (λ m. with_front xs (each_at begins one m ts)) e ∙ ap (λ z. got z ts) (append-nil xs)

each_fails : {A : Type 0} (begins : List Lexeme → Bool) (one : List Lexeme → Read A) (whole : Read (List A)) (xs : List A) (n i : ℕ) (ts : List Lexeme) (z : Read A) →
    whole ≡ with_front xs (each_at begins one (n - i) ts) → i < n → begins ts ≡ true → one ts ≡ z →
    whole ≡ with_front xs (and_then z (λ a r. and_then (each_at begins one (n - (i + 1)) r) (λ more s. got (a ∷ more) s)))
each_fails begins one whole xs n i ts z before h go read =
    before ∙ ap (with_front xs) (each_more begins one n i ts h
    ∙ ap (λ b. if b then and_then (one ts) (λ a r. and_then (each_at begins one (n - (i + 1)) r) (λ more s. got (a ∷ more) s)) else got [] ts) go
    ∙ ap (λ z. and_then z (λ a r. and_then (each_at begins one (n - (i + 1)) r) (λ more s. got (a ∷ more) s))) read)

pub each_deep : {A : Type 0} (begins : List Lexeme → Bool) (one : List Lexeme → Read A) (whole : Read (List A)) (xs : List A) (n i : ℕ) (ts : List Lexeme) →
    whole ≡ with_front xs (each_at begins one (n - i) ts) → i < n → begins ts ≡ true → one ts ≡ deep → whole ≡ deep
each_deep begins one whole xs n i ts before h go read = each_fails begins one whole xs n i ts deep before h go read

pub each_none : {A : Type 0} (begins : List Lexeme → Bool) (one : List Lexeme → Read A) (whole : Read (List A)) (xs : List A) (n i : ℕ) (ts : List Lexeme) →
    whole ≡ with_front xs (each_at begins one (n - i) ts) → i < n → begins ts ≡ true → one ts ≡ none → whole ≡ none
each_none begins one whole xs n i ts before h go read = each_fails begins one whole xs n i ts none before h go read

-- the tree of what is reached, where that is whole
pub reached_made : (ts : List Lexeme) → ends_whole start ts ≡ true → built (take (reach_of start ts) ts) ≡ None → ⊥
reached_made ts whole e = expression_made (take (reach_of start ts) ts) (sym (reached_whole start ts) ∙ whole) e

rest_behind : (i : ℕ) (ts : List Lexeme) → rest_of (drop i ts) ≡ drop (suc i) ts
rest_behind zero [] = refl
rest_behind zero (t ∷ ts) = refl
rest_behind (suc i) [] = refl
rest_behind (suc i) (t ∷ ts) = rest_behind i ts

pub rest_drop : (i : ℕ) (ts : List Lexeme) → rest_of (drop i ts) ≡ drop (i + 1) ts
rest_drop i ts = rw add-one (rest_behind i ts)

-- what the reading of an expression comes to
pub expr_got : (ts r : List Lexeme) (n : ℕ) (t : Formula) → n ≡ reach_of start ts → ends_whole start ts ≡ true → is_deep start ts ≡ false → built (take n ts) ≡ Some t → height_of t ≤ MOST_HEIGHT →
    r ≡ drop n ts → expr_at ts ≡ got t r
expr_got ts r n t len whole flat made low left =
    let small : nat_lt MOST_HEIGHT (height_of t) ≡ false = grind (arith, nat_tests, low) in
    ap (λ b. front_read b (is_deep start ts) (built (take (reach_of start ts) ts)) (drop (reach_of start ts) ts)) whole
    ∙ ap (λ b. front_read true b (built (take (reach_of start ts) ts)) (drop (reach_of start ts) ts)) flat
    ∙ ap (λ m. front_read true false (built (take m ts)) (drop m ts)) (sym len)
    ∙ ap (λ o. front_read true false o (drop n ts)) made ∙ ap (λ b. answer b t (drop n ts)) small ∙ ap (got t) (sym left)

pub expr_nested : (ts : List Lexeme) → ends_whole start ts ≡ true → is_deep start ts ≡ true → expr_at ts ≡ deep
expr_nested ts whole nested =
    ap (λ b. front_read b (is_deep start ts) (built (take (reach_of start ts) ts)) (drop (reach_of start ts) ts)) whole
    ∙ ap (λ b. front_read true b (built (take (reach_of start ts) ts)) (drop (reach_of start ts) ts)) nested

pub expr_partial : (ts : List Lexeme) → ends_whole start ts ≡ false → expr_at ts ≡ none
expr_partial ts part = ap (λ b. front_read b (is_deep start ts) (built (take (reach_of start ts) ts)) (drop (reach_of start ts) ts)) part

pub expr_high : (ts : List Lexeme) (n : ℕ) → n ≡ reach_of start ts → ends_whole start ts ≡ true → ((t : Formula) → built (take n ts) ≡ Some t → MOST_HEIGHT < height_of t) → expr_at ts ≡ deep
expr_high ts n len whole high =
    ap (λ b. front_read b (is_deep start ts) (built (take (reach_of start ts) ts)) (drop (reach_of start ts) ts)) whole ∙ go (is_deep start ts) (built (take (reach_of start ts) ts)) refl
  where
    go : (b : Bool) (o : Option Formula) → built (take (reach_of start ts) ts) ≡ o → (if b then deep else made_of o (drop (reach_of start ts) ts)) ≡ deep
    go true o e = refl
    go false None e = absurd (reached_made ts whole e)
    go false (Some t) e =
        let over = high t (ap (λ m. built (take m ts)) len ∙ e) in
        let large : nat_lt MOST_HEIGHT (height_of t) ≡ true = grind (arith, nat_tests, over) in
        ap (λ b. answer b t (drop (reach_of start ts) ts)) large

pub expr_unmade : (ts : List Lexeme) (n : ℕ) → n ≡ reach_of start ts → ends_whole start ts ≡ true → built (take n ts) ≡ None → expr_at ts ≡ none
expr_unmade ts n len whole e = absurd (reached_made ts whole (ap (λ m. built (take m ts)) (sym len) ∙ e))

-- what may follow
abbrev pub ends_role : Role → Bool
ends_role role.Semicolon = true
ends_role role.Comma = true
ends_role role.Closes = true
ends_role role.Nothing = true
ends_role _ = false

pub whole_stops : (st : State) (c : Role) → is_whole st ≡ true → ends_role c ≡ true → machine.step st c ≡ stuck
whole_stops (had e []) role.Semicolon h f = stops_semicolon e
  where
    stops_semicolon : (e : Ended) → machine.step (had e []) role.Semicolon ≡ stuck
    stops_semicolon by_number = refl
    stops_semicolon by_name = refl
    stops_semicolon by_other = refl
whole_stops (had e []) role.Comma h f = stops_comma e
  where
    stops_comma : (e : Ended) → machine.step (had e []) role.Comma ≡ stuck
    stops_comma by_number = refl
    stops_comma by_name = refl
    stops_comma by_other = refl
whole_stops (had e []) role.Closes h f = stops_closes e
  where
    stops_closes : (e : Ended) → machine.step (had e []) role.Closes ≡ stuck
    stops_closes by_number = refl
    stops_closes by_name = refl
    stops_closes by_other = refl
whole_stops (had e []) role.Nothing h f = stops_none e
  where
    stops_none : (e : Ended) → machine.step (had e []) role.Nothing ≡ stuck
    stops_none by_number = refl
    stops_none by_name = refl
    stops_none by_other = refl
whole_stops st c h f = cc

-- an expression may end before this list
abbrev pub ends_expr : List Lexeme → Bool
ends_expr [] = true
ends_expr (t ∷ ts) = ends_role (role_of t)

whole_on : (st : State) → is_whole st ≡ true → is_stuck st ≡ false
whole_on stuck e = cc
whole_on st e = refl

halts : (st : State) (r : List Lexeme) → is_whole st ≡ true → ends_expr r ≡ true → Halts st r
unfolding Halts
halts st [] w e = tt
halts st (t ∷ ts) w e = ap is_stuck (whole_stops st (role_of t) w e)

drop_seam : (xs r : List Lexeme) → drop (length xs) (xs ++ r) ≡ r
drop_seam [] r = refl
drop_seam (x ∷ xs) r = drop_seam xs r

either : (a b : Bool) (e : Formula) (r : List Lexeme) → (if a then deep else answer b e r) ≡ answer (a || b) e r
either true b e r = refl
either false b e r = refl

-- an expression is read as it is spelled
pub read_expr : {xs : List Lexeme} {e : Formula} (p : SpellsExpr xs e) (r : List Lexeme) → ends_expr r ≡ true → expr_at (xs ++ r) ≡ answer (is_too_deep (spelling p)) e r
read_expr {xs} {e} p r ends =
    let w = spelled_accepted p in
    let on = whole_on (run start xs) w in
    let h = halts (run start xs) r w ends in
    let n : reach_of start (xs ++ r) ≡ length xs = reach_before start xs r on h in
    let whole : ends_whole start (xs ++ r) ≡ true = whole_before start xs r on h ∙ w in
    let low : is_deep start (xs ++ r) ≡ nat_lt MOST_NESTED (nesting_of p) = deep_before start xs r on h ∙ deep_nesting p in
    let tree : built (take (reach_of start (xs ++ r)) (xs ++ r)) ≡ Some e = ap built (ap (λ m. take m (xs ++ r)) n ∙ take-append_seam xs r) ∙ built_spelled p in
    let left : drop (reach_of start (xs ++ r)) (xs ++ r) ≡ r = ap (λ m. drop m (xs ++ r)) n ∙ drop_seam xs r in
    ap (λ b. front_read b (is_deep start (xs ++ r)) (built (take (reach_of start (xs ++ r)) (xs ++ r))) (drop (reach_of start (xs ++ r)) (xs ++ r))) whole
    ∙ ap (λ b. front_read true b (built (take (reach_of start (xs ++ r)) (xs ++ r))) (drop (reach_of start (xs ++ r)) (xs ++ r))) low
    ∙ ap (λ o. front_read true (nat_lt MOST_NESTED (nesting_of p)) o (drop (reach_of start (xs ++ r)) (xs ++ r))) tree
    ∙ ap (λ z. front_read true (nat_lt MOST_NESTED (nesting_of p)) (Some e) z) left
    ∙ either (nat_lt MOST_NESTED (nesting_of p)) (nat_lt MOST_HEIGHT (height_of e)) e r

-- the test says what it tests
within_one : (s : Spelling) → is_too_deep s ≡ false → IsWithin s
within_one s e = go (nat_lt MOST_NESTED (nesting_of s.spelled)) refl e
  where
    go : (b : Bool) → nat_lt MOST_NESTED (nesting_of s.spelled) ≡ b → (b || nat_lt MOST_HEIGHT (height_of s.tree)) ≡ false → IsWithin s
    go true f e = cc
    go false f e = record { low = grind (arith, nat_tests, e); flat = grind (arith, nat_tests, f) }

one_within : (s : Spelling) → IsWithin s → is_too_deep s ≡ false
one_within s w =
    let low = w.low in let flat = w.flat in
    let a : nat_lt MOST_NESTED (nesting_of s.spelled) ≡ false = grind (arith, nat_tests, flat) in
    let b : nat_lt MOST_HEIGHT (height_of s.tree) ≡ false = grind (arith, nat_tests, low) in
    rw (a, b) refl

pub are_within : (ss : List Spelling) → are_too_deep ss ≡ false → AreWithin ss
are_within [] e = tt
are_within (s ∷ ss) e = go (is_too_deep s) refl e (are_within ss)
  where
    go : (b : Bool) → is_too_deep s ≡ b → (b || are_too_deep ss) ≡ false → (are_too_deep ss ≡ false → AreWithin ss) → AreWithin (s ∷ ss)
    go true f e rec = cc
    go false f e rec = (within_one s f, rec e)

pub within_are : (ss : List Spelling) → AreWithin ss → are_too_deep ss ≡ false
within_are [] w = refl
within_are (s ∷ ss) w = rw (one_within s w.0, within_are ss w.1) refl

pub ruleset expr_rules = (expr_got, expr_nested, expr_partial, expr_unmade)
