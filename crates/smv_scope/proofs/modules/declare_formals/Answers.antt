-- One formal more.
use Rattle.std.proofs.Common.{◌≡◌, ◌++◌, ◌∷◌, [], None, get_or, ap, ◌∙◌, sym, subst, List}
use Rattle.smv_language.specs.Language.{Text, is_among}
use Rattle.smv_flat_laws.specs.Rules.{double_name}
use Rattle.smv_scope.specs.declared.modules.Local.{Local}
use Rattle.smv_scope.specs.declared.modules.Local.TheVariants as local
use Rattle.smv_scope.specs.ModuleFaults.{told_if, texts_of}
use Rattle.smv_scope.specs.SceneTree.{named}
use Rattle.smv_scope.proofs.ReadingLaws.{formals_next, formal_entries_next, formal_entries_end, formals_end}
use Rattle.smv_scope.proofs.modules.declare_formals.Goals as goal

pub loop-k-preserved : goal.loop-k-preserved
loop-k-preserved c =
    let xs : List Text = c.args.formals.now in
    let d : Text = c.index-formals-k.result in
    let es : List (Text × Local) = named c.loop-k.locals.entries in
    let same : c.text.result.now ≡ get_or xs c.loop-k.k d = c.text.ensures ∙ c.index-formals-k.is in
    let more : named c.declare.new.locals.entries ≡ es ++ (get_or xs c.loop-k.k d, local.Formal c.loop-k.k) ∷ [] =
    c.in_ok-declare.ensures.entries ∙ ap (λ (x : Text). es ++ (x, local.Formal c.loop-k.k) ∷ []) same in
    let fresh : told_if (is_among (texts_of es) (get_or xs c.loop-k.k d)) double_name c.args.header ≡ None =
    subst (λ (x : Text). told_if (is_among (texts_of es) x) double_name c.args.header ≡ None) same c.in_ok-declare.ensures.kept in
    record {
      entries = formal_entries_next c.args.header c.loop-k.k es xs d c.loop-k-test.true (named c.declare.new.locals.entries) more ∙ c.loop-k.invariant.entries;
      told = formals_next c.args.header c.loop-k.k es xs d c.loop-k-test.true (named c.declare.new.locals.entries) more fresh ∙ c.loop-k.invariant.told;
    }

pub returns : goal.returns
returns c =
    record {
      entries = sym (formal_entries_end c.loop-k.k (named c.loop-k.locals.entries) c.args.formals.now c.loop-k-test.false) ∙ c.loop-k.invariant.entries;
      kept = sym c.loop-k.invariant.told ∙ formals_end c.args.header c.loop-k.k (texts_of (named c.loop-k.locals.entries)) c.args.formals.now c.loop-k-test.false;
      fault = tt;
    }
