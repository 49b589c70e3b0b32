-- The names that causes add are words that are not reserved, and those of one cause, or of the events of faults, differ.
use Rattle.std.proofs.Common.{◌≡◌, ◌≢◌, ℕ, suc, ◌+◌, ◌^◌, ◌<◌, ◌≤◌, List, [], ◌∷◌, ◌++◌, length, get_or, codes, refl, sym, ap, arith}
use Rattle.std.specs.Fmt.{decimal}
use Rattle.std.proofs.lemmas.Fmt.{decimal_injective}
use Rattle.smv_lexer.specs.Runs.{Runs, takes_word}
use Rattle.smv_lexer.specs.Tokens.{IsWord}
use Rattle.smv_language.specs.Language.{Text, IsName, Each}
use Rattle.smv_language.proofs.TokenTexts.{decimal_digits}
use Rattle.smv_flat_laws.specs.History.{Mode}
use Rattle.fault_cause_laws.specs.Causes.{CommonCause}
use Rattle.fault_cause_laws.specs.StagedModel.{hit_name, own_name, none_name, self_name}
use Rattle.cut_reach_laws.specs.Names.{AreDistinct, hit_names_of, names_added_by, own_names_from}
use Rattle.smv_lexer.proofs.ByteLaws.{digits_in_word}
use Rattle.smv_language.proofs.WordLaws.{suffixed}

-- ---- words

decimal_runs : (k : ℕ) → k < 2 ^ 64 → Runs takes_word (decimal k) []
decimal_runs k h = let digits = decimal_digits k h in digits_in_word (decimal k) digits.runs

hashed_runs : (k : ℕ) → k < 2 ^ 64 → Runs takes_word (35 ∷ decimal k) []
hashed_runs k h = (refl, decimal_runs k h)

hit_runs : (k : ℕ) → k < 2 ^ 64 → Runs takes_word (codes "#hit#" ++ decimal k) []
hit_runs k h = (refl, (refl, (refl, (refl, hashed_runs k h))))

age_runs : Runs takes_word (codes "#age") []
age_runs = (refl, (refl, (refl, (refl, tt))))

event_runs : Runs takes_word (codes "#event") []
event_runs = (refl, (refl, (refl, (refl, (refl, (refl, tt))))))

quiet_runs : Runs takes_word (codes "#quiet") []
quiet_runs = (refl, (refl, (refl, (refl, (refl, (refl, tt))))))

now_runs : Runs takes_word (codes "#now") []
now_runs = (refl, (refl, (refl, (refl, tt))))

hit_words : (x : Text) → IsWord x [] → (k : ℕ) (is : List ℕ) → k + length is ≤ 2 ^ 64 → Each IsName (hit_names_of x k is)
hit_words x h k [] small = tt
hit_words x h k (i ∷ is) small = (suffixed x (codes "hit#" ++ decimal k) h (hit_runs k (omega (arith, small))), hit_words x h (suc k) is (omega (arith, small)))

pub cause_words : (c : CommonCause) → IsWord c.name [] → length c.strikes < 2 ^ 63 → Each IsName (names_added_by c)
cause_words c h small = (
  suffixed c.name (codes "age") h age_runs,
  (suffixed c.name (codes "event") h event_runs, (suffixed c.name (codes "quiet") h quiet_runs, (suffixed c.name (codes "now") h now_runs, hit_words c.name h 1 c.strikes (omega (arith, small))))),
)

own_word : IsWord (codes "own") []
own_word = (refl, (refl, (refl, tt)))

none_word : IsWord (codes "none") []
none_word = (refl, (refl, (refl, (refl, tt))))

self_word : IsWord (codes "self") []
self_word = (refl, (refl, (refl, (refl, tt))))

pub own_words : (i : ℕ) (fs : List Mode) → i + length fs ≤ 2 ^ 64 → Each IsName (own_names_from i fs)
own_words i [] small = tt
own_words i (f ∷ fs) small =
    let runs : Runs takes_word (35 ∷ decimal i) [] = hashed_runs i (omega (arith, small)) in (
      suffixed (codes "own") (decimal i) own_word runs,
      (suffixed (codes "none") (decimal i) none_word runs, (suffixed (codes "self") (decimal i) self_word runs, own_words (suc i) fs (omega (arith, small)))),
    )

-- ---- different names

same_end : (c s t : Text) → c ++ s ≡ c ++ t → s ≡ t
same_end [] s t e = e
same_end (b ∷ bs) s t e = let rest : bs ++ s ≡ bs ++ t = cc in same_end bs s t rest

ends_differ : (c s t : Text) → s ≢ t → c ++ s ≢ c ++ t
ends_differ c s t h e = h (same_end c s t e)

decimals_differ : (j k : ℕ) → j < k → k < 2 ^ 64 → decimal j ≢ decimal k
decimals_differ j k h small e = let same : j ≡ k = decimal_injective j k (omega (arith, h, small)) small e in absurd (omega (arith, h, same))

hits_other : (x s : Text) → ((k : ℕ) → s ≢ codes "#hit#" ++ decimal k) → (k : ℕ) (is : List ℕ) → Each (λ y. x ++ s ≢ y) (hit_names_of x k is)
hits_other x s h k [] = tt
hits_other x s h k (i ∷ is) = (ends_differ x s (codes "#hit#" ++ decimal k) (h k), hits_other x s h (suc k) is)

hit_later : (x : Text) (j k : ℕ) (is : List ℕ) → j < k → k + length is ≤ 2 ^ 64 → Each (λ y. hit_name x j ≢ y) (hit_names_of x k is)
hit_later x j k [] h small = tt
hit_later x j k (i ∷ is) h small = (
  ends_differ x (codes "#hit#" ++ decimal j) (codes "#hit#" ++ decimal k) (ends_differ (codes "#hit#") (decimal j) (decimal k) (decimals_differ j k h (omega (arith, small)))),
  hit_later x j (suc k) is (omega (arith, h)) (omega (arith, small)),
)

hits_distinct : (x : Text) (k : ℕ) (is : List ℕ) → k + length is ≤ 2 ^ 64 → AreDistinct (hit_names_of x k is)
hits_distinct x k [] small = tt
hits_distinct x k (i ∷ is) small = (hit_later x k (suc k) is (omega arith) (omega (arith, small)), hits_distinct x (suc k) is (omega (arith, small)))

age_event : codes "#age" ≢ codes "#event"
age_event e = let c : 97 ≡ 101 = ap (λ t. get_or t 1 0) e in omega (arith, c)

age_quiet : codes "#age" ≢ codes "#quiet"
age_quiet e = let c : 97 ≡ 113 = ap (λ t. get_or t 1 0) e in omega (arith, c)

age_now : codes "#age" ≢ codes "#now"
age_now e = let c : 97 ≡ 110 = ap (λ t. get_or t 1 0) e in omega (arith, c)

age_hit : (k : ℕ) → codes "#age" ≢ codes "#hit#" ++ decimal k
age_hit k e = let c : 97 ≡ 104 = ap (λ t. get_or t 1 0) e in omega (arith, c)

event_quiet : codes "#event" ≢ codes "#quiet"
event_quiet e = let c : 101 ≡ 113 = ap (λ t. get_or t 1 0) e in omega (arith, c)

event_now : codes "#event" ≢ codes "#now"
event_now e = let c : 101 ≡ 110 = ap (λ t. get_or t 1 0) e in omega (arith, c)

event_hit : (k : ℕ) → codes "#event" ≢ codes "#hit#" ++ decimal k
event_hit k e = let c : 101 ≡ 104 = ap (λ t. get_or t 1 0) e in omega (arith, c)

quiet_now : codes "#quiet" ≢ codes "#now"
quiet_now e = let c : 113 ≡ 110 = ap (λ t. get_or t 1 0) e in omega (arith, c)

quiet_hit : (k : ℕ) → codes "#quiet" ≢ codes "#hit#" ++ decimal k
quiet_hit k e = let c : 113 ≡ 104 = ap (λ t. get_or t 1 0) e in omega (arith, c)

now_hit : (k : ℕ) → codes "#now" ≢ codes "#hit#" ++ decimal k
now_hit k e = let c : 110 ≡ 104 = ap (λ t. get_or t 1 0) e in omega (arith, c)

pub cause_distinct : (c : CommonCause) → length c.strikes < 2 ^ 63 → AreDistinct (names_added_by c)
cause_distinct c small =
    let x : Text = c.name in
    let is : List ℕ = c.strikes in (
      (
        ends_differ x (codes "#age") (codes "#event") age_event,
        (ends_differ x (codes "#age") (codes "#quiet") age_quiet, (ends_differ x (codes "#age") (codes "#now") age_now, hits_other x (codes "#age") age_hit 1 is)),
      ),
      (
        (ends_differ x (codes "#event") (codes "#quiet") event_quiet, (ends_differ x (codes "#event") (codes "#now") event_now, hits_other x (codes "#event") event_hit 1 is)),
        (
          (ends_differ x (codes "#quiet") (codes "#now") quiet_now, hits_other x (codes "#quiet") quiet_hit 1 is),
          (hits_other x (codes "#now") now_hit 1 is, hits_distinct x 1 is (omega (arith, small))),
        ),
      ),
    )

own_none : (i j : ℕ) → own_name i ≢ none_name j
own_none i j e = let c : 111 ≡ 110 = ap (λ t. get_or t 0 0) e in omega (arith, c)

own_self : (i j : ℕ) → own_name i ≢ self_name j
own_self i j e = let c : 111 ≡ 115 = ap (λ t. get_or t 0 0) e in omega (arith, c)

none_self : (i j : ℕ) → none_name i ≢ self_name j
none_self i j e = let c : 110 ≡ 115 = ap (λ t. get_or t 0 0) e in omega (arith, c)

record IsLater (j : ℕ) (names : List Text) : Type 0 where
  own : Each (λ y. own_name j ≢ y) names
  none : Each (λ y. none_name j ≢ y) names
  self : Each (λ y. self_name j ≢ y) names

own_later : (j i : ℕ) (fs : List Mode) → j < i → i + length fs ≤ 2 ^ 64 → IsLater j (own_names_from i fs)
own_later j i [] h small = record { own = tt; none = tt; self = tt }
own_later j i (f ∷ fs) h small =
    let rest = own_later j (suc i) fs (omega (arith, h)) (omega (arith, small)) in
    let other : decimal j ≢ decimal i = decimals_differ j i h (omega (arith, small)) in
    record {
      own = (ends_differ (codes "own#") (decimal j) (decimal i) other, (own_none j i, (own_self j i, rest.own)));
      none = ((λ e. own_none i j (sym e)), (ends_differ (codes "none#") (decimal j) (decimal i) other, (none_self j i, rest.none)));
      self = ((λ e. own_self i j (sym e)), ((λ e. none_self i j (sym e)), (ends_differ (codes "self#") (decimal j) (decimal i) other, rest.self)));
    }

pub owns_distinct : (i : ℕ) (fs : List Mode) → i + length fs ≤ 2 ^ 64 → AreDistinct (own_names_from i fs)
owns_distinct i [] small = tt
owns_distinct i (f ∷ fs) small =
    let rest = own_later i (suc i) fs (omega arith) (omega (arith, small)) in
    ((own_none i i, (own_self i i, rest.own)), ((none_self i i, rest.none), (rest.self, owns_distinct (suc i) fs (omega (arith, small)))))
