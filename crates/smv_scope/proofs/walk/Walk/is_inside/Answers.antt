-- One outer module more.
use Rattle.std.proofs.Common.{rules, ◌≡◌, ◌<◌, List, Bor, ℕ, true, false, length, get_or, ap, ◌∙◌, sym, subst}
use Rattle.std.proofs.lemmas.List.{drop_all}
use Rattle.smv_language.specs.Language.{same_text, is_among, texts}
use Rattle.smv_scope.proofs.HeaderLaws.{same_test}
use Rattle.smv_scope.proofs.PathLaws.{among_reverse, outer_same, outer_other}
use Rattle.smv_scope.proofs.walk.Walk.is_inside.Goals as goal

pub returns-then-is_same : goal.returns-then-is_same
returns-then-is_same c =
    let ks : List (Bor (List ℕ)) = c.args.self.now.inside.items in
    let k = c.loop-outer.outer-index in
    let within : k < length ks = search rules in
    let same : c.outer-item.result ≡ get_or ks k c.outer-item.result = search rules in
    let test : same_text (get_or ks k c.outer-item.result).now c.args.name.now ≡ true =
    subst (λ (b : Bor (List ℕ)). same_text b.now c.args.name.now ≡ true) same
    (same_test c.is_same.result c.outer-item.result.now c.args.name.now c.is_same.ensures ∙ c.if-is_same.true) in
    sym (among_reverse (texts ks) c.args.name.now ∙ sym c.loop-outer.invariant ∙ outer_same ks k c.outer-item.result c.args.name.now within test)

pub loop-outer-preserved : goal.loop-outer-preserved
loop-outer-preserved c =
    let ks : List (Bor (List ℕ)) = c.args.self.now.inside.items in
    let k = c.loop-outer.outer-index in
    let within : k < length ks = search rules in
    let same : c.outer-item.result ≡ get_or ks k c.outer-item.result = search rules in
    let test : same_text (get_or ks k c.outer-item.result).now c.args.name.now ≡ false =
    subst (λ (b : Bor (List ℕ)). same_text b.now c.args.name.now ≡ false) same
    (same_test c.is_same.result c.outer-item.result.now c.args.name.now c.is_same.ensures ∙ c.if-is_same.false) in
    outer_other ks k c.outer-item.result c.args.name.now within test ∙ c.loop-outer.invariant

pub returns : goal.returns
returns c =
    let ks : List (Bor (List ℕ)) = c.args.self.now.inside.items in
    let k = c.loop-outer.outer-index in
    sym (among_reverse (texts ks) c.args.name.now ∙ sym c.loop-outer.invariant ∙ ap (λ ys. is_among (texts ys) c.args.name.now) (drop_all k ks (search rules)))
