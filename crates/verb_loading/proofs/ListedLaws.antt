-- The lines of an extension's faults, as they are printed by their names.
use Rattle.std.proofs.Common.{◌≡◌, ℕ, ◌+◌, List, [], ◌∷◌, ◌++◌, map, length, Option, Some, None, refl, sym, ap, ◌∙◌, append_assoc, append-nil}
use Rattle.std.specs.Prelude.{codes}
use Rattle.std.specs.Fmt.{decimal}
use Rattle.std.proofs.lemmas.List.{length-map, reverse-reverse}
use Rattle.smv_language.specs.Language.{Text, Path, each_after, dotted_text, place_of, name_of_fault}
use Rattle.smv_language.specs.declared.model.FlatModel.{FlatModel}
use Rattle.smv_language.specs.declared.model.Fault.{Fault}
use Rattle.fault_extend.specs.declared.faults.WovenFault.{WovenFault}
use Rattle.fault_extend.specs.WovenFaults.{fault_tree}
use Rattle.fault_extend.specs.NumberedFaults.{parts_of, AreNumbered}
use Rattle.cut_report.specs.FaultText as lines
use Rattle.verb_loading.specs.Reports.{parts_text, place_text, fault_lines, report_text}
use Rattle.verb_loading.specs.Inputs.{path_of, AreListed}
use Rattle.verb_loading.specs.CaseAnswers.{faults_text}

pub are_listed : (m : FlatModel) (ws : List WovenFault) (fs : List Fault) → AreNumbered m ws fs → AreListed ws fs
are_listed m [] [] h = refl
are_listed m [] (f ∷ fs) h = absurd h
are_listed m (w ∷ ws) [] h = absurd h
are_listed m (w ∷ ws) (f ∷ fs) h = λ j. h.0.name j ∷ are_listed m ws fs h.1 j

-- Names with dots between, where the names of a slice and a mode come last.
regrouped : (x : Text) (q : Path) (rest : Text) → x ++ (codes "." ++ (parts_text q ++ rest)) ≡ parts_text (x ∷ q) ++ rest
regrouped x q rest = sym (append_assoc x (codes ".") (parts_text q ++ rest)) ∙ sym (append_assoc (x ++ codes ".") (parts_text q) rest)

after_dot : (q : Path) (s m : Text) → each_after (codes ".") (q ++ s ∷ m ∷ []) ≡ codes "." ++ (parts_text q ++ (s ++ (codes "." ++ m)))
after_dot [] s m = ap (λ t. codes "." ++ (s ++ (codes "." ++ t))) (append-nil m)
after_dot (x ∷ q) s m = ap (λ t. codes "." ++ (x ++ t)) (after_dot q s m) ∙ ap (λ t. codes "." ++ t) (regrouped x q (s ++ (codes "." ++ m)))

dotted : (q : Path) (s m : Text) → dotted_text (q ++ s ∷ m ∷ []) ≡ parts_text q ++ (s ++ (codes "." ++ m))
dotted [] s m = ap (λ t. s ++ (codes "." ++ t)) (append-nil m)
dotted (x ∷ q) s m = ap (λ t. x ++ t) (after_dot q s m) ∙ regrouped x q (s ++ (codes "." ++ m))

name_is : (path : Option Path) (s m : Text) → dotted_text (parts_of path ++ (s ∷ m ∷ [])) ≡ place_text (place_of path) ++ (s ++ (codes "." ++ m))
name_is None s m = dotted [] s m
name_is (Some q) s m = dotted q s m ∙ ap (λ r. parts_text r ++ (s ++ (codes "." ++ m))) (sym (reverse-reverse q))

lines_are : (n : ℕ) (ws : List WovenFault) → lines.fault_lines n (map path_of ws) ≡ fault_lines n (map fault_tree ws)
lines_are n [] = refl
lines_are n (w ∷ ws) = λ j. (codes "fault " ++ (decimal n ++ (codes " " ++ (name_is w.path w.slice w.mode j ++ codes "\n")))) ++ lines_are (n + 1) ws j

counts : (ws : List WovenFault) → length (map path_of ws) ≡ length (map fault_tree ws)
counts ws = length-map ws path_of ∙ sym (length-map ws fault_tree)

pieces : (a b c d e : Text) → (a ++ (b ++ (c ++ d))) ++ e ≡ a ++ (b ++ (c ++ (d ++ e)))
pieces a b c d e = append_assoc a (b ++ (c ++ d)) e ∙ ap (λ t. a ++ t) (append_assoc b (c ++ d) e ∙ ap (λ t. b ++ t) (append_assoc c d e))

-- the number and the lines of faults with these names, and the last line, are the report
named_report : (ws : List WovenFault) →
    codes "faults " ++ (decimal (length (map path_of ws)) ++ (codes "\n" ++ (lines.fault_lines 1 (map path_of ws) ++ codes "extended\n"))) ≡ report_text (map fault_tree ws)
named_report ws = λ j. codes "faults " ++ (decimal (counts ws j) ++ (codes "\n" ++ (lines_are 1 ws j ++ codes "extended\n")))

pub report_is : (ws : List WovenFault) (fs : List Fault) → AreListed ws fs → lines.faults_text (map name_of_fault fs) ++ codes "extended\n" ≡ report_text (map fault_tree ws)
report_is ws fs listed =
    ap (λ names. lines.faults_text names ++ codes "extended\n") listed
    ∙ pieces (codes "faults ") (decimal (length (map path_of ws))) (codes "\n") (lines.fault_lines 1 (map path_of ws)) (codes "extended\n") ∙ named_report ws

-- the number and the lines of faults alone
pub named_lines : (ws : List WovenFault) (fs : List Fault) → AreListed ws fs → lines.faults_text (map name_of_fault fs) ≡ faults_text (map fault_tree ws)
named_lines ws fs listed = ap lines.faults_text listed ∙ (λ j. codes "faults " ++ (decimal (counts ws j) ++ (codes "\n" ++ lines_are 1 ws j)))
