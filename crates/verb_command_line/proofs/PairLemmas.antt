-- Words as pairs, and the values of options.
use Rattle.std.proofs.Common.{◌≡◌, ◌≢◌, inl, inr, ℕ, ◌<◌, Bool, true, false, List, [], ◌∷◌, ◌++◌, length, Option, Some, None, Bor, if◌then◌else◌, sym, subst, ap, ◌∙◌, refl, arith}
use Rattle.std.specs.Str.{bytes_eq}
use Rattle.verb_command_line.specs.Commands.{Text, Given, spread}
use Rattle.verb_command_line.specs.Meaning.{Each, EachTwo, Gives, IsNotGiven}
use Rattle.verb_command_line.specs.WordReading.{pairs_of, value_in}
use Rattle.verb_command_line.specs.CommandView.{texts}
use Rattle.verb_command_line.proofs.ListLemmas.{bytes_same, bytes_differ, bytes_apart}
use Rattle.base_values.proofs.ListLaws.{bytes_eq-refl}

-- fewer than two words are no pair
pub no_pair : (words : List (Bor (List ℕ))) → length words < 2 → pairs_of (texts words) ≡ []
no_pair [] few = refl
no_pair (w ∷ []) few = refl
no_pair (w ∷ v ∷ rest) few = absurd (omega (arith, few))

pub pairs_of-spread : (ps : List Given) → pairs_of (spread ps) ≡ ps
pairs_of-spread [] = refl
pairs_of-spread (p ∷ ps) = ap (λ qs. p ∷ qs) (pairs_of-spread ps)

pub spread-append : (ps qs : List Given) → spread (ps ++ qs) ≡ spread ps ++ spread qs
spread-append [] qs = refl
spread-append (p ∷ ps) qs = ap (λ words. p.option ∷ p.value ∷ words) (spread-append ps qs)

value-given_by : (p : Given) (ps : List Given) (option value : Text) (t : Bool) → bytes_eq p.option option ≡ t → (if t then Some p.value else value_in ps option) ≡ Some value →
    (value_in ps option ≡ Some value → Gives ps option value) → Gives (p ∷ ps) option value
value-given_by p ps option value true is e more = inl (bytes_same _ _ is, cc)
value-given_by p ps option value false is e more = inr (more e)

-- the value that was found is given
pub value-given : (ps : List Given) (option value : Text) → value_in ps option ≡ Some value → Gives ps option value
value-given [] option value e = cc
value-given (p ∷ ps) option value e = value-given_by p ps option value (bytes_eq p.option option) refl e (value-given ps option value)

none-not_by : (p : Given) (ps : List Given) (option : Text) (t : Bool) → bytes_eq p.option option ≡ t → (if t then Some p.value else value_in ps option) ≡ None →
    (value_in ps option ≡ None → IsNotGiven ps option) → IsNotGiven (p ∷ ps) option
none-not_by p ps option true is e more = cc
none-not_by p ps option false is e more = (bytes_differ _ _ is, more e)

-- an option whose value was not found is not given
pub none-not : (ps : List Given) (option : Text) → value_in ps option ≡ None → IsNotGiven ps option
none-not [] option e = tt
none-not (p ∷ ps) option e = none-not_by p ps option (bytes_eq p.option option) refl e (none-not ps option)

pub not-none : (ps : List Given) (option : Text) → IsNotGiven ps option → value_in ps option ≡ None
not-none [] option f = refl
not-none (p ∷ ps) option f = ap (λ t. if t then Some p.value else value_in ps option) (bytes_apart p.option option f.0) ∙ not-none ps option f.1

-- what is given is not not given
pub not_given : (ps : List Given) (option value : Text) → IsNotGiven ps option → Gives ps option value → ⊥
not_given [] option value f g = g
not_given (p ∷ ps) option value f (inl here) = f.0 here.0
not_given (p ∷ ps) option value f (inr more) = not_given ps option value f.1 more

gives-differs : (p : Given) (ps : List Given) (option value : Text) → Each (λ q. p.option ≢ q.option) ps → Gives ps option value → p.option ≢ option
gives-differs p [] option value f g = absurd g
gives-differs p (q ∷ qs) option value f (inl here) = λ e. f.0 (e ∙ sym here.0)
gives-differs p (q ∷ qs) option value f (inr more) = gives-differs p qs option value f.1 more

-- where no option comes twice, the value that is given is found
pub given-value : (ps : List Given) (option value : Text) → EachTwo (λ p q. p.option ≢ q.option) ps → Gives ps option value → value_in ps option ≡ Some value
given-value [] option value once g = absurd g
given-value (p ∷ ps) option value once (inl here) =
    let is : bytes_eq p.option option ≡ true = subst (λ (o : Text). bytes_eq p.option o ≡ true) here.0 (bytes_eq-refl p.option) in
    ap (λ t. if t then Some p.value else value_in ps option) is ∙ ap (λ v. Some v) here.1
given-value (p ∷ ps) option value once (inr more) =
    ap (λ t. if t then Some p.value else value_in ps option) (bytes_apart p.option option (gives-differs p ps option value once.0 more)) ∙ given-value ps option value once.1 more

-- a value is found exactly where one is given
some_by : (ps : List Given) (option value : Text) (o : Option Text) → value_in ps option ≡ o → Gives ps option value → (v : Text) × (value_in ps option ≡ Some v)
some_by ps option value None is g = absurd (not_given ps option value (none-not ps option is) g)
some_by ps option value (Some v) is g = (v, is)

pub given-some : (ps : List Given) (option value : Text) → Gives ps option value → (v : Text) × (value_in ps option ≡ Some v)
given-some ps option value g = some_by ps option value (value_in ps option) refl g
