-- Items that are added one after another are numbered one after another.
use Rattle.std.proofs.Common.{◌≡◌, ℕ, suc, ◌+◌, ◌<◌, arith, List, [], ◌∷◌, ◌++◌, length, map, drop, get_or, refl, ap, ◌∙◌, sym}
use Rattle.std.specs.List.{flat_map}
use Rattle.std.proofs.lemmas.List.{append-nil, append_assoc, drop_more}
use Rattle.smv_language.specs.declared.program.Section.{Section}
use Rattle.smv_language.specs.ProgramTree.{section_tree}
use Rattle.smv_flat_laws.specs.Items.{Item, items_of_section}
use Rattle.smv_scope.specs.ItemTree.{Counted, with_item, with_items, counted_from, counted_below}

pub with_both : (c : Counted) (is js : List Item) → with_items c (is ++ js) ≡ with_items (with_items c is) js
with_both c [] js = refl
with_both c (i ∷ is) js = with_both (with_item c i) is js

abbrev counted : List (ℕ × Item) → ℕ → Counted
counted is n = record { items = is; last = n }

same_counted : (is js : List (ℕ × Item)) (m n : ℕ) → is ≡ js → m ≡ n → counted is m ≡ counted js n
same_counted is js m n e f = cc

counted_after : (before : List (ℕ × Item)) (n : ℕ) (is : List Item) → with_items (counted before n) is ≡ counted (before ++ counted_from (suc n) is) (n + length is)
counted_after before n [] = same_counted before (before ++ []) n (n + 0) (sym (append-nil before)) (omega arith)
counted_after before n (i ∷ is) =
    counted_after (before ++ (suc n, i) ∷ []) (suc n) is
    ∙ same_counted ((before ++ (suc n, i) ∷ []) ++ counted_from (suc (suc n)) is) (before ++ counted_from (suc n) (i ∷ is)) (suc n + length is) (n + length (i ∷ is))
    (append_assoc before ((suc n, i) ∷ []) (counted_from (suc (suc n)) is)) (omega arith)

pub counted_all : (header : ℕ) (is : List Item) → with_items (record { items = []; last = header }) is ≡ counted_below header is
counted_all header is = counted_after [] header is

pub section_more : (c c' : Counted) (ss : List Section) (k : ℕ) (d : Section) → k < length ss → c' ≡ with_items c (items_of_section (section_tree (get_or ss k d))) →
    with_items c (flat_map items_of_section (map section_tree (drop k ss))) ≡ with_items c' (flat_map items_of_section (map section_tree (drop (k + 1) ss)))
section_more c c' ss k d within e =
    ap (λ xs. with_items c (flat_map items_of_section (map section_tree xs))) (drop_more ss k d within)
    ∙ with_both c (items_of_section (section_tree (get_or ss k d))) (flat_map items_of_section (map section_tree (drop (k + 1) ss)))
    ∙ ap (λ x. with_items x (flat_map items_of_section (map section_tree (drop (k + 1) ss)))) (sym e)
