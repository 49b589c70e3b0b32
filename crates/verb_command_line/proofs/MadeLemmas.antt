-- The command that is made of the values is the one that they mean.
use Rattle.std.proofs.Common.{◌≡◌, ◌^◌, ◌<◌, List, codes, refl, arith}
use Rattle.base_values.specs.declared.limits.TheConstants.{MOST_FAULTS, GREATEST_DEPTH, GREATEST_CASE, MOST_STAGES}
use Rattle.verb_command_line.specs.declared.verb.Verb.{Verb}
use Rattle.verb_command_line.specs.declared.verb.Verb.TheVariants as verb
use Rattle.verb_command_line.specs.Commands.{Command, Given}
use Rattle.verb_command_line.specs.Table.{options_of}
use Rattle.verb_command_line.specs.Meaning.{AreLawful, AreThere, Makes, extends, replays, analyses, checks, tabulates, generates, finds_causes, checks_causes, finds_orders, checks_orders, finds_odds}
use Rattle.verb_command_line.specs.WordReading.{text_in, small_number_at, number_at, made}
use Rattle.verb_command_line.proofs.ValueLemmas.{text_given, text_is, number_given, number_is, may_given, may_is, deep, sized, numbered_case}

-- the limits have 32 bits
small : 2 < 2 ^ 32
small = omega arith

staged : MOST_STAGES < 2 ^ 32
staged = omega arith

pub made_makes : (v : Verb) (ps : List Given) → AreLawful (options_of v) ps → AreThere (options_of v) ps → Makes ps v (made v ps)
made_makes verb.Extend ps law there =
    let text = text_given (options_of verb.Extend) ps law in
    extends (text_in ps (codes "--model")) (text_in ps (codes "--faults")) (text_in ps (codes "--extended"))
    (text (codes "--model") (there.0 refl)) (text (codes "--faults") (there.1.0 refl)) (text (codes "--extended") (there.1.1.0 refl))
made_makes verb.Replay ps law there =
    let text = text_given (options_of verb.Replay) ps law in
    replays (text_in ps (codes "--model")) (text_in ps (codes "--faults")) (text_in ps (codes "--trace")) (text_in ps (codes "--top"))
    (text (codes "--model") (there.0 refl)) (text (codes "--faults") (there.1.0 refl)) (text (codes "--trace") (there.1.1.0 refl)) (text (codes "--top") (there.1.1.1.0 refl))
made_makes verb.Analyse ps law there =
    let text = text_given (options_of verb.Analyse) ps law in
    analyses (text_in ps (codes "--model")) (text_in ps (codes "--faults")) (text_in ps (codes "--top")) (number_at ps (codes "--depth")) (text_in ps (codes "--extended"))
    (text_in ps (codes "--cert")) (small_number_at ps (codes "--size"))
    (text (codes "--model") (there.0 refl)) (text (codes "--faults") (there.1.0 refl)) (text (codes "--top") (there.1.1.0 refl))
    (number_given (options_of verb.Analyse) ps law (codes "--depth") 0 GREATEST_DEPTH refl deep (there.1.1.1.0 refl))
    (text (codes "--extended") (there.1.1.1.1.0 refl)) (text (codes "--cert") (there.1.1.1.1.1.0 refl))
    (may_given (options_of verb.Analyse) ps law (codes "--size") 0 MOST_FAULTS refl sized)
made_makes verb.Check ps law there =
    let text = text_given (options_of verb.Check) ps law in
    checks (text_in ps (codes "--model")) (text_in ps (codes "--faults")) (text_in ps (codes "--top")) (text_in ps (codes "--cert"))
    (text (codes "--model") (there.0 refl)) (text (codes "--faults") (there.1.0 refl)) (text (codes "--top") (there.1.1.0 refl)) (text (codes "--cert") (there.1.1.1.0 refl))
made_makes verb.Fmea ps law there =
    let text = text_given (options_of verb.Fmea) ps law in
    tabulates (text_in ps (codes "--model")) (text_in ps (codes "--faults")) (text_in ps (codes "--tops")) (number_at ps (codes "--size")) (number_at ps (codes "--depth"))
    (text (codes "--model") (there.0 refl)) (text (codes "--faults") (there.1.0 refl)) (text (codes "--tops") (there.1.1.0 refl))
    (number_given (options_of verb.Fmea) ps law (codes "--size") 0 2 refl small (there.1.1.1.0 refl))
    (number_given (options_of verb.Fmea) ps law (codes "--depth") 0 GREATEST_DEPTH refl deep (there.1.1.1.1.0 refl))
made_makes verb.Make ps law there =
    let text = text_given (options_of verb.Make) ps law in
    generates (number_at ps (codes "--number")) (number_at ps (codes "--stages")) (number_at ps (codes "--depth")) (text_in ps (codes "--model")) (text_in ps (codes "--faults"))
    (number_given (options_of verb.Make) ps law (codes "--number") 0 GREATEST_CASE refl numbered_case (there.0 refl))
    (number_given (options_of verb.Make) ps law (codes "--stages") 1 MOST_STAGES refl staged (there.1.0 refl))
    (number_given (options_of verb.Make) ps law (codes "--depth") 0 GREATEST_DEPTH refl deep (there.1.1.0 refl))
    (text (codes "--model") (there.1.1.1.0 refl)) (text (codes "--faults") (there.1.1.1.1.0 refl))
made_makes verb.Causes ps law there =
    let text = text_given (options_of verb.Causes) ps law in
    finds_causes (text_in ps (codes "--model")) (text_in ps (codes "--faults")) (text_in ps (codes "--causes")) (text_in ps (codes "--top")) (number_at ps (codes "--depth")) (text_in ps (codes "--cert"))
    (text (codes "--model") (there.0 refl)) (text (codes "--faults") (there.1.0 refl)) (text (codes "--causes") (there.1.1.0 refl)) (text (codes "--top") (there.1.1.1.0 refl))
    (number_given (options_of verb.Causes) ps law (codes "--depth") 0 GREATEST_DEPTH refl deep (there.1.1.1.1.0 refl)) (text (codes "--cert") (there.1.1.1.1.1.0 refl))
made_makes verb.CheckCauses ps law there =
    let text = text_given (options_of verb.CheckCauses) ps law in
    checks_causes (text_in ps (codes "--model")) (text_in ps (codes "--faults")) (text_in ps (codes "--causes")) (text_in ps (codes "--top")) (text_in ps (codes "--cert"))
    (text (codes "--model") (there.0 refl)) (text (codes "--faults") (there.1.0 refl)) (text (codes "--causes") (there.1.1.0 refl)) (text (codes "--top") (there.1.1.1.0 refl)) (text (codes "--cert") (there.1.1.1.1.0 refl))
made_makes verb.Orders ps law there =
    let text = text_given (options_of verb.Orders) ps law in
    finds_orders (text_in ps (codes "--model")) (text_in ps (codes "--faults")) (text_in ps (codes "--top")) (text_in ps (codes "--set")) (number_at ps (codes "--first")) (number_at ps (codes "--second"))
    (number_at ps (codes "--depth")) (text_in ps (codes "--cert"))
    (text (codes "--model") (there.0 refl)) (text (codes "--faults") (there.1.0 refl)) (text (codes "--top") (there.1.1.0 refl)) (text (codes "--set") (there.1.1.1.0 refl))
    (number_given (options_of verb.Orders) ps law (codes "--first") 1 MOST_FAULTS refl sized (there.1.1.1.1.0 refl)) (number_given (options_of verb.Orders) ps law (codes "--second") 1 MOST_FAULTS refl sized (there.1.1.1.1.1.0 refl))
    (number_given (options_of verb.Orders) ps law (codes "--depth") 0 GREATEST_DEPTH refl deep (there.1.1.1.1.1.1.0 refl)) (text (codes "--cert") (there.1.1.1.1.1.1.1.0 refl))
made_makes verb.CheckOrders ps law there =
    let text = text_given (options_of verb.CheckOrders) ps law in
    checks_orders (text_in ps (codes "--model")) (text_in ps (codes "--faults")) (text_in ps (codes "--top")) (text_in ps (codes "--set")) (number_at ps (codes "--first")) (number_at ps (codes "--second"))
    (text_in ps (codes "--claim")) (text_in ps (codes "--cert"))
    (text (codes "--model") (there.0 refl)) (text (codes "--faults") (there.1.0 refl)) (text (codes "--top") (there.1.1.0 refl)) (text (codes "--set") (there.1.1.1.0 refl))
    (number_given (options_of verb.CheckOrders) ps law (codes "--first") 1 MOST_FAULTS refl sized (there.1.1.1.1.0 refl)) (number_given (options_of verb.CheckOrders) ps law (codes "--second") 1 MOST_FAULTS refl sized (there.1.1.1.1.1.0 refl))
    (text (codes "--claim") (there.1.1.1.1.1.1.0 refl)) (text (codes "--cert") (there.1.1.1.1.1.1.1.0 refl))
made_makes verb.Odds ps law there =
    let text = text_given (options_of verb.Odds) ps law in
    finds_odds (text_in ps (codes "--model")) (text_in ps (codes "--faults")) (text_in ps (codes "--top")) (number_at ps (codes "--depth"))
    (text (codes "--model") (there.0 refl)) (text (codes "--faults") (there.1.0 refl)) (text (codes "--top") (there.1.1.0 refl))
    (number_given (options_of verb.Odds) ps law (codes "--depth") 0 GREATEST_DEPTH refl deep (there.1.1.1.0 refl))

pub makes_made : (v : Verb) (ps : List Given) (c : Command) → AreLawful (options_of v) ps → Makes ps v c → made v ps ≡ c
makes_made v ps c law (extends model faults extended m f x) =
    let text = text_is (options_of verb.Extend) ps law in
    let a = text (codes "--model") model m in let b = text (codes "--faults") faults f in let d = text (codes "--extended") extended x in cc
makes_made v ps c law (replays model faults trace top m f x t) =
    let text = text_is (options_of verb.Replay) ps law in
    let a = text (codes "--model") model m in let b = text (codes "--faults") faults f in let d = text (codes "--trace") trace x in let e = text (codes "--top") top t in cc
makes_made v ps c law (analyses model faults top depth extended cert size m f t d x k s) =
    let text = text_is (options_of verb.Analyse) ps law in
    let a = text (codes "--model") model m in let b = text (codes "--faults") faults f in let e = text (codes "--top") top t in
    let g = number_is (options_of verb.Analyse) ps law (codes "--depth") depth 0 GREATEST_DEPTH refl deep d in
    let h = text (codes "--extended") extended x in let i = text (codes "--cert") cert k in
    let j = may_is (options_of verb.Analyse) ps law (codes "--size") size 0 MOST_FAULTS refl sized s in cc
makes_made v ps c law (checks model faults top cert m f t k) =
    let text = text_is (options_of verb.Check) ps law in
    let a = text (codes "--model") model m in let b = text (codes "--faults") faults f in let d = text (codes "--top") top t in let e = text (codes "--cert") cert k in cc
makes_made v ps c law (tabulates model faults tops size depth m f t s d) =
    let text = text_is (options_of verb.Fmea) ps law in
    let a = text (codes "--model") model m in let b = text (codes "--faults") faults f in let e = text (codes "--tops") tops t in
    let g = number_is (options_of verb.Fmea) ps law (codes "--size") size 0 2 refl small s in
    let h = number_is (options_of verb.Fmea) ps law (codes "--depth") depth 0 GREATEST_DEPTH refl deep d in cc
makes_made v ps c law (generates number stages depth model faults n s d m f) =
    let text = text_is (options_of verb.Make) ps law in
    let a = number_is (options_of verb.Make) ps law (codes "--number") number 0 GREATEST_CASE refl numbered_case n in
    let b = number_is (options_of verb.Make) ps law (codes "--stages") stages 1 MOST_STAGES refl staged s in
    let e = number_is (options_of verb.Make) ps law (codes "--depth") depth 0 GREATEST_DEPTH refl deep d in
    let g = text (codes "--model") model m in let h = text (codes "--faults") faults f in cc
makes_made v ps c law (finds_causes model faults file top depth cert m f x t d k) =
    let text = text_is (options_of verb.Causes) ps law in
    let a = text (codes "--model") model m in let b = text (codes "--faults") faults f in let e = text (codes "--causes") file x in let g = text (codes "--top") top t in
    let h = number_is (options_of verb.Causes) ps law (codes "--depth") depth 0 GREATEST_DEPTH refl deep d in let i = text (codes "--cert") cert k in cc
makes_made v ps c law (checks_causes model faults file top cert m f x t k) =
    let text = text_is (options_of verb.CheckCauses) ps law in
    let a = text (codes "--model") model m in let b = text (codes "--faults") faults f in let e = text (codes "--causes") file x in let g = text (codes "--top") top t in
    let i = text (codes "--cert") cert k in cc
makes_made v ps c law (finds_orders model faults top set first second depth cert m f t s i j d k) =
    let text = text_is (options_of verb.Orders) ps law in
    let a = text (codes "--model") model m in let b = text (codes "--faults") faults f in let e = text (codes "--top") top t in let g = text (codes "--set") set s in
    let h = number_is (options_of verb.Orders) ps law (codes "--first") first 1 MOST_FAULTS refl sized i in let l = number_is (options_of verb.Orders) ps law (codes "--second") second 1 MOST_FAULTS refl sized j in
    let n = number_is (options_of verb.Orders) ps law (codes "--depth") depth 0 GREATEST_DEPTH refl deep d in let o = text (codes "--cert") cert k in cc
makes_made v ps c law (checks_orders model faults top set first second claim cert m f t s i j q k) =
    let text = text_is (options_of verb.CheckOrders) ps law in
    let a = text (codes "--model") model m in let b = text (codes "--faults") faults f in let e = text (codes "--top") top t in let g = text (codes "--set") set s in
    let h = number_is (options_of verb.CheckOrders) ps law (codes "--first") first 1 MOST_FAULTS refl sized i in let l = number_is (options_of verb.CheckOrders) ps law (codes "--second") second 1 MOST_FAULTS refl sized j in
    let n = text (codes "--claim") claim q in let o = text (codes "--cert") cert k in cc
makes_made v ps c law (finds_odds model faults top depth m f t d) =
    let text = text_is (options_of verb.Odds) ps law in
    let a = text (codes "--model") model m in let b = text (codes "--faults") faults f in let e = text (codes "--top") top t in
    let g = number_is (options_of verb.Odds) ps law (codes "--depth") depth 0 GREATEST_DEPTH refl deep d in cc
