use Rattle.std.proofs.Common.{◌≡◌, [], ◌∷◌, List, Bool, true, false, arith, map, length, ◌<◌, ◌∙◌, refl, sym, ap, subst, eqb-true}
use Rattle.std.specs.Prelude.{nat_eq}
use Rattle.smv_language.specs.Language.{program_tree, flat_tree, EachBoth}
use Rattle.sat_encoding_laws.specs.Lists.{system_of}
use Rattle.cut_model_search.specs.FaultyModels.{whole_in}
use Rattle.verb_run.specs.Tables.{AreColumns, IsEventOf, tabulated_case, tabulated_events}
use Rattle.verb_run.proofs.TableLemmas.{first_at}
use Rattle.verb_run.proofs.TopEvents.{event_searchable}
use Rattle.verb_run.proofs.Columns.{columns_of_events}
use Rattle.verb_run.proofs.tops.columns_of.Goals as goal

none_there : {A : Type 0} (xs : List A) → length xs ≡ 0 → xs ≡ []
none_there [] none = refl
none_there (x ∷ xs) none = absurd (omega (arith, none))

some_there : {A : Type 0} (xs : List A) (b : Bool) → b ≡ nat_eq (length xs) 0 → b ≡ false → 0 < length xs
some_there [] b e is = absurd (never (sym e ∙ is))
  where
    never : true ≡ false → ⊥
    never e = cc
some_there (x ∷ xs) b e is = omega arith

pub returns-then-is_empty : goal.returns-then-is_empty
returns-then-is_empty g c =
    let a = c.args.asked.now in
    let none : a.tops.over ≡ [] = sym c.as_slice-tops.ensures ∙ none_there c.as_slice-tops.result.now (eqb-true (length c.as_slice-tops.result.now) 0 (sym c.is_empty.ensures ∙ c.if-is_empty.true)) in
    subst (λ columns. AreColumns (tabulated_case a) a.depth (tabulated_events a) columns) (sym c.new.ensures)
    (columns_of_events (tabulated_case a) a.depth flat_tree (tabulated_events a) [] []
    (subst (λ trees. EachBoth (IsEventOf (tabulated_case a)) (tabulated_events a) (map flat_tree trees)) none c.requires.events) tt)

pub of_case-requires-clause-searchable : goal.of_case-requires-clause-searchable
of_case-requires-clause-searchable g c =
    let a = c.args.asked.now in
    let xs = c.as_slice-tops.result.now in
    let some = some_there xs c.is_empty.result c.is_empty.ensures c.if-is_empty.false in
    let event =
    first_at (IsEventOf (tabulated_case a)) flat_tree (tabulated_events a) xs 0 c.index-tops-0.result
    (subst (λ trees. EachBoth (IsEventOf (tabulated_case a)) (tabulated_events a) (map flat_tree trees)) (sym c.as_slice-tops.ensures) c.requires.events) some c.index-tops-0.is in
    event_searchable (program_tree a.model.program) a.case c.requires.extensible event.0 (flat_tree c.index-tops-0.result) event.1

pub columns_in-requires-clause-system : goal.columns_in-requires-clause-system
columns_in-requires-clause-system g c = c.in_ok-frames.ensures ∙ ap (λ v. system_of (whole_in v)) c.in_ok-model.ensures.model
