-- One item more.
use Rattle.std.proofs.Common.{◌≡◌, ◌++◌, None, List, get_or, ap, ◌∙◌, sym, subst}
use Rattle.smv_language.specs.ProgramTree.{Text}
use Rattle.smv_flat_laws.specs.Rules.{double_name, names_of_item, is_name_again}
use Rattle.smv_scope.specs.declared.items.Numbered.{Numbered}
use Rattle.smv_scope.specs.declared.modules.Local.{Local}
use Rattle.smv_scope.specs.ModuleFaults.{told_if, texts_of, item_of_numbered}
use Rattle.smv_scope.specs.SceneTree.{named, entries_of_item}
use Rattle.smv_scope.proofs.ReadingLaws.{items_next, item_entries_next, item_entries_end, items_end}
use Rattle.smv_scope.proofs.modules.declare_items.Goals as goal

pub loop-k-preserved : goal.loop-k-preserved
loop-k-preserved c =
    let ns : List Numbered = c.args.items.now in
    let d : Numbered = c.index-items-k.result in
    let es : List (Text × Local) = named c.loop-k.locals.entries in
    let same : d ≡ get_or ns c.loop-k.k d = c.index-items-k.is in
    let more : named c.declare_item.new.locals.entries ≡ es ++ entries_of_item c.loop-k.k (item_of_numbered (get_or ns c.loop-k.k d)) =
    c.in_ok-declare_item.ensures.entries ∙ ap (λ (n : Numbered). es ++ entries_of_item c.loop-k.k (item_of_numbered n)) same in
    let fresh : told_if (is_name_again (texts_of es) (names_of_item (item_of_numbered (get_or ns c.loop-k.k d)))) double_name (get_or ns c.loop-k.k d).number ≡ None =
    subst (λ (n : Numbered). told_if (is_name_again (texts_of es) (names_of_item (item_of_numbered n))) double_name n.number ≡ None) same c.in_ok-declare_item.ensures.kept in
    record {
      entries = item_entries_next c.loop-k.k es ns d c.loop-k-test.true (named c.declare_item.new.locals.entries) more ∙ c.loop-k.invariant.entries;
      told = items_next c.loop-k.k es ns d c.loop-k-test.true (named c.declare_item.new.locals.entries) more fresh ∙ c.loop-k.invariant.told;
    }

pub returns : goal.returns
returns c =
    record {
      entries = sym (item_entries_end c.loop-k.k (named c.loop-k.locals.entries) c.args.items.now c.loop-k-test.false) ∙ c.loop-k.invariant.entries;
      kept = sym c.loop-k.invariant.told ∙ items_end c.loop-k.k (texts_of (named c.loop-k.locals.entries)) c.args.items.now c.loop-k-test.false;
      fault = tt;
    }
