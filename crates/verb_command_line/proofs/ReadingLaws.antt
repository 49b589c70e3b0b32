-- What is read is what the words mean, or the rule that they break first, and each is one.
use Rattle.std.proofs.Common.{◌≡◌, ◌≢◌, ⊎_elim, ℕ, ◌+◌, ◌-◌, ◌≤◌, List, [], ◌∷◌, ◌++◌, length, take, drop, get_or, Option, Some, None, Result, Ok, Err, IfOk, IfErr, codes, Bor, sym, subst, ap, ◌∙◌, refl}
use Rattle.std.specs.Str.{bytes_eq}
use Rattle.verb_command_line.specs.declared.fault.WordFault.{WordFault}
use Rattle.verb_command_line.specs.declared.fault.WordFault.TheVariants as fault
use Rattle.verb_command_line.specs.Commands.{Text, Given, spread, Command}
use Rattle.verb_command_line.specs.Meaning.{Gives, AreLawful, AreThere, AreDifferent, option_place, AreInside, Makes, Means, BreaksFirst, no_verb, unknown_verb, not_in_set, an_option}
use Rattle.verb_command_line.specs.WordReading.{pairs_of, first_of, option_fault, command_or, verb_in, set_fault, fault_after, made, verb_read, reading}
use Rattle.verb_command_line.specs.CommandView.{texts, rule_of, place_of, seen, seen_result}
use Rattle.verb_command_line.proofs.ListLemmas.{bytes_same}
use Rattle.verb_command_line.proofs.PairLemmas.{pairs_of-spread}
use Rattle.verb_command_line.proofs.SoundLemmas.{first_cases, first_none, option_sound, option_holds}
use Rattle.verb_command_line.proofs.CompleteLemmas.{option_complete, option_clear}
use Rattle.verb_command_line.proofs.StepLemmas.{first_word}
use Rattle.verb_command_line.proofs.VerbLemmas.{verb_if, or_err, or_ok}
use Rattle.verb_command_line.specs.declared.verb.Verb.{Verb}
use Rattle.verb_command_line.specs.declared.verb.Verb.TheVariants as verb
use Rattle.verb_command_line.specs.declared.command.Command as code
use Rattle.verb_command_line.specs.Table.{name_of, options_of}
use Rattle.verb_command_line.specs.Laws.{OneCommand, OneFault, CommandsHaveNoFault}
use Rattle.verb_command_line.proofs.InsideLemmas.{inside_sound, inside_complete, outside_found, outside_told}
use Rattle.verb_command_line.proofs.MadeLemmas.{made_makes, makes_made}

-- Verbs.
verb_sound : (name : Text) (v : Verb) → verb_in name ≡ Some v → name ≡ name_of v
verb_sound name =
    verb_if name_of name (bytes_eq name (codes "extend")) verb.Extend _ (bytes_same name (codes "extend"))
    (verb_if name_of name (bytes_eq name (codes "replay")) verb.Replay _ (bytes_same name (codes "replay"))
    (verb_if name_of name (bytes_eq name (codes "analyse")) verb.Analyse _ (bytes_same name (codes "analyse"))
    (verb_if name_of name (bytes_eq name (codes "check")) verb.Check _ (bytes_same name (codes "check"))
    (verb_if name_of name (bytes_eq name (codes "fmea")) verb.Fmea _ (bytes_same name (codes "fmea"))
    (verb_if name_of name (bytes_eq name (codes "make")) verb.Make _ (bytes_same name (codes "make"))
    (verb_if name_of name (bytes_eq name (codes "causes")) verb.Causes _ (bytes_same name (codes "causes"))
    (verb_if name_of name (bytes_eq name (codes "check-causes")) verb.CheckCauses _ (bytes_same name (codes "check-causes"))
    (verb_if name_of name (bytes_eq name (codes "orders")) verb.Orders _ (bytes_same name (codes "orders"))
    (verb_if name_of name (bytes_eq name (codes "check-orders")) verb.CheckOrders _ (bytes_same name (codes "check-orders"))
    (verb_if name_of name (bytes_eq name (codes "odds")) verb.Odds None (bytes_same name (codes "odds")) (λ w e. cc)))))))))))

verb_complete : (v : Verb) → verb_in (name_of v) ≡ Some v
verb_complete verb.Extend = refl
verb_complete verb.Replay = refl
verb_complete verb.Analyse = refl
verb_complete verb.Check = refl
verb_complete verb.Fmea = refl
verb_complete verb.Make = refl
verb_complete verb.Causes = refl
verb_complete verb.CheckCauses = refl
verb_complete verb.Orders = refl
verb_complete verb.CheckOrders = refl
verb_complete verb.Odds = refl

-- The first fault of the words after a verb is broken first.
after_sound : (v : Verb) (words : List Text) (f : WordFault) → fault_after v words ≡ Some f → BreaksFirst (name_of v ∷ words) (rule_of f) (place_of f)
after_sound v words f e =
    ⊎_elim
    (λ here. an_option v words (rule_of f) (place_of f) refl (option_sound (options_of v) words f here))
    (λ later. let holds = option_holds (options_of v) words later.0 in
    let found = outside_found v (pairs_of words) holds.lawful holds.there f later.1 in
    subst (λ (g : WordFault). BreaksFirst (name_of v ∷ words) (rule_of g) (place_of g)) (sym found.is)
    (not_in_set v found.before found.pair found.after found.set found.first (ap (λ ws. name_of v ∷ ws) (holds.spelled ∙ ap spread found.split))
    (subst (AreLawful (options_of v)) found.split holds.lawful) (subst (AreThere (options_of v)) found.split holds.there) (subst (AreDifferent (options_of v)) found.split holds.different)
    (subst (λ ps. Gives ps (codes "--set") found.set) found.split found.given_set) (subst (λ ps. Gives ps (codes "--first") found.first) found.split found.given_first) found.inside found.outside))
    (first_cases (option_fault (options_of v) words) (set_fault (pairs_of words)) f e)

-- What is read stands.
err_by : (name : Text) (words : List Text) (f : WordFault) (o : Option Verb) → verb_in name ≡ o → verb_read o words ≡ Err f → BreaksFirst (name ∷ words) (rule_of f) (place_of f)
err_by name words f None is e =
    let same : fault.UnknownVerb 1 ≡ f = cc in
    subst (λ (g : WordFault). BreaksFirst (name ∷ words) (rule_of g) (place_of g)) same
    (unknown_verb name words refl (λ v named. let found : Some v ≡ None = sym (verb_complete v) ∙ ap verb_in named ∙ is in cc))
err_by name words f (Some v) is e =
    subst (λ (n : Text). BreaksFirst (n ∷ words) (rule_of f) (place_of f)) (sym (verb_sound name v is)) (after_sound v words f (or_err (fault_after v words) (made v (pairs_of words)) f e))

pub read_breaks : (words : List Text) (f : WordFault) → reading words ≡ Err f → BreaksFirst words (rule_of f) (place_of f)
read_breaks [] f e = let same : fault.NoVerb 0 ≡ f = cc in subst (λ (g : WordFault). BreaksFirst [] (rule_of g) (place_of g)) same (no_verb refl)
read_breaks (name ∷ words) f e = err_by name words f (verb_in name) refl e

ok_meant : (v : Verb) (name : Text) (words : List Text) (c : Command) → name ≡ name_of v → command_or (fault_after v words) (made v (pairs_of words)) ≡ Ok c → Means (name ∷ words) c
ok_meant v name words c named e =
    let clear = or_ok (fault_after v words) (made v (pairs_of words)) c e in
    let none = first_none (option_fault (options_of v) words) (set_fault (pairs_of words)) clear.0 in
    let holds = option_holds (options_of v) words none.0 in
    record {
      verb = v;
      pairs = pairs_of words;
      spelled = ap (λ n. n ∷ words) named ∙ ap (λ ws. name_of v ∷ ws) holds.spelled;
      lawful = holds.lawful;
      complete = holds.there;
      different = holds.different;
      inside = inside_sound v (pairs_of words) holds.lawful holds.there none.1;
      makes = subst (λ (d : Command). Makes (pairs_of words) v d) clear.1 (made_makes v (pairs_of words) holds.lawful holds.there);
    }

ok_by : (name : Text) (words : List Text) (c : Command) (o : Option Verb) → verb_in name ≡ o → verb_read o words ≡ Ok c → Means (name ∷ words) c
ok_by name words c None is e = cc
ok_by name words c (Some v) is e = ok_meant v name words c (verb_sound name v is) e

pub read_means : (words : List Text) (c : Command) → reading words ≡ Ok c → Means words c
read_means [] c e = cc
read_means (name ∷ words) c e = ok_by name words c (verb_in name) refl e

-- What stands is read.
after_clear : (v : Verb) (ps : List Given) → AreLawful (options_of v) ps → AreThere (options_of v) ps → AreDifferent (options_of v) ps → AreInside ps → fault_after v (spread ps) ≡ None
after_clear v ps law there different inside =
    ap (λ f. first_of f (set_fault (pairs_of (spread ps)))) (option_clear (options_of v) ps law there different) ∙ ap set_fault (pairs_of-spread ps) ∙ inside_complete v ps law there inside

pub means_read : (words : List Text) (c : Command) → Means words c → reading words ≡ Ok c
means_read words c m =
    ap reading m.spelled ∙ ap (λ o. verb_read o (spread m.pairs)) (verb_complete m.verb)
    ∙ ap (λ o. command_or o (made m.verb (pairs_of (spread m.pairs)))) (after_clear m.verb m.pairs m.lawful m.complete m.different m.inside)
    ∙ ap (λ ps. Ok (made m.verb ps)) (pairs_of-spread m.pairs) ∙ ap (λ d. Ok d) (makes_made m.verb m.pairs c m.lawful m.makes)

pub record Told (words : List Text) (rule place : ℕ) : Type 0 where
  pub fault : WordFault
  pub read : reading words ≡ Err fault
  pub rule_is : rule_of fault ≡ rule
  pub place_is : place_of fault ≡ place

no_such : (o : Option Verb) (name : Text) → verb_in name ≡ o → ((v : Verb) → name_of v ≢ name) → o ≡ None
no_such None name is other = refl
no_such (Some v) name is other = absurd (other v (sym (verb_sound name v is)))

pub breaks_read : (words : List Text) (rule place : ℕ) → BreaksFirst words rule place → Told words rule place
breaks_read words rule place (no_verb none) = record { fault = fault.NoVerb 0; read = ap reading none; rule_is = refl; place_is = refl }
breaks_read words rule place (unknown_verb name rest spelled other) = record {
  fault = fault.UnknownVerb 1;
  read = ap reading spelled ∙ ap (λ o. verb_read o rest) (no_such (verb_in name) name refl other);
  rule_is = refl;
  place_is = refl;
}
breaks_read words rule place (not_in_set v before p after set first spelled law there different given_set given_first inside out) =
    let ps = before ++ p ∷ after in
    let told : fault_after v (spread ps) ≡ Some (fault.NotInSet (option_place before + 1)) =
    ap (λ f. first_of f (set_fault (pairs_of (spread ps)))) (option_clear (options_of v) ps law there different) ∙ ap set_fault (pairs_of-spread ps)
    ∙ outside_told v before p after set first law there given_set given_first inside out in
    record {
      fault = fault.NotInSet (option_place before + 1);
      read = ap reading spelled ∙ ap (λ o. verb_read o (spread ps)) (verb_complete v) ∙ ap (λ o. command_or o (made v (pairs_of (spread ps)))) told;
      rule_is = refl;
      place_is = refl;
    }
breaks_read words rule place (an_option v rest r p spelled broken) =
    let found = option_complete (options_of v) rest r p broken in
    record {
      fault = found.fault;
      read = ap reading spelled ∙ ap (λ o. verb_read o rest) (verb_complete v)
          ∙ ap (λ o. command_or (first_of o (set_fault (pairs_of rest))) (made v (pairs_of rest))) found.found;
      rule_is = found.rule_is;
      place_is = found.place_is;
    }

-- So each is one.
pub one_command : (words : List Text) → OneCommand words
one_command words c d m n = let both : Ok c ≡ Ok d = sym (means_read words c m) ∙ means_read words d n in cc

pub one_fault : (words : List Text) → OneFault words
one_fault words rule place rule' place' b b' =
    let t = breaks_read words rule place b in let t' = breaks_read words rule' place' b' in
    let same : t.fault ≡ t'.fault = let both : Err t.fault ≡ Err t'.fault = sym t.read ∙ t'.read in cc in
    (sym t.rule_is ∙ ap rule_of same ∙ t'.rule_is, sym t.place_is ∙ ap place_of same ∙ t'.place_is)

pub commands_have_no_fault : (words : List Text) → CommandsHaveNoFault words
commands_have_no_fault words c rule place m b =
    let t = breaks_read words rule place b in let both : Ok c ≡ Err t.fault = sym (means_read words c m) ∙ t.read in cc

-- What the code has read.
pub means_seen : (words : List Text) (r : Result code.Command WordFault) → seen_result r ≡ reading words → IfOk r (λ c. Means words (seen c))
means_seen words (Ok c) e = read_means words (seen c) (sym e)
means_seen words (Err f) e = tt

pub breaks_seen : (words : List Text) (r : Result code.Command WordFault) → seen_result r ≡ reading words → IfErr r (λ f. BreaksFirst words (rule_of f) (place_of f))
breaks_seen words (Ok c) e = tt
breaks_seen words (Err f) e = read_breaks words f (sym e)

-- The steps of the code after the verb.
pub verb_then : (words : List (Bor (List ℕ))) (d : Bor (List ℕ)) (v : Verb) (o : Option WordFault) → 1 ≤ length words → verb_in (get_or words 0 d).now ≡ Some v →
    fault_after v (texts (take (length words - 1) (drop 1 words))) ≡ o →
    reading (texts words) ≡ command_or o (made v (pairs_of (texts (take (length words - 1) (drop 1 words)))))
verb_then words d v o some named is =
    ap reading (first_word words d some) ∙ ap (λ u. verb_read u (texts (take (length words - 1) (drop 1 words)))) named
    ∙ ap (λ f. command_or f (made v (pairs_of (texts (take (length words - 1) (drop 1 words)))))) is
