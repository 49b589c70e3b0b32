-- One step of the walk after another.
use Rattle.std.proofs.Common.{rules, ◌≡◌, ◌<◌, ◌+◌, ◌-◌, ◌*◌, suc, ◌∙◌, Some, None, length, map, get_or, List, refl, ap, sym, subst, arith}
use Rattle.std.specs.Prelude.{slice_get}
use Rattle.std.proofs.lemmas.List.{length-append, length-map}
use Rattle.std.proofs.lemmas.Option.{slice_get-get_or, slice_get_within as get_less}
use Rattle.smv_language.specs.Language.{Text, Path, instance, declared_tree, tree_of, role_of}
use Rattle.smv_language.specs.declared.expr.Expr.{Expr}
use Rattle.smv_scope.specs.declared.items.Numbered.{Numbered}
use Rattle.smv_scope.specs.declared.modules.Modules.{Modules}
use Rattle.smv_scope.specs.declared.modules.ModuleNames.{ModuleNames}
use Rattle.smv_scope.specs.declared.walk.Spot.{Spot}
use Rattle.smv_scope.specs.declared.walk.Walk.{Walk}
use Rattle.smv_scope.specs.declared.walk.Meaning.{Meaning as Found}
use Rattle.smv_scope.specs.ItemTree.{numbered_tree}
use Rattle.smv_scope.specs.ModuleFaults.{IsTold}
use Rattle.smv_scope.specs.InstanceWalk.{program_in, on_path_of, visits_at, visits_here, visits_within, visits_told, told_from, instance_told, declared_item, HasMet, IsEntry, IsStanding}
use Rattle.smv_scope.proofs.PassedOn.{passed_on}
use Rattle.smv_scope.proofs.ReadingLaws.{told_as, told_later, none_first}
use Rattle.smv_scope.proofs.GoneLaws.{GoneSoFar, gone_none, gone_fault, gone_more}
use Rattle.smv_scope.proofs.EnterLaws.{deeper, name_is, stands_there, told_there, entered_there}
use Rattle.smv_scope.proofs.MetLaws.{may_enter, met_inner, told_inner, met_other, told_other}
use Rattle.smv_scope.proofs.walk.Walk.+walk.Goals as goal

pub add_instance-enter-requires : goal.add_instance-enter-requires
add_instance-enter-requires t c =
    let ms : Modules = c.args.modules.now in
    let w0 : Walk = c.args.self.now in
    let x : Text = c.args.declaring.decl.now.name in
    let m : Text = c.args.name.now in
    let inner : Spot = record { «module» = c.in_ok-module.module; caller = c.args.declaring.spot; path = Some c.in_ok-path.path; actuals = c.as_slice.result; own = c.new.result } in
    let entry : IsEntry ms w0 inner = may_enter ms w0 x m inner c.requires.standing c.in_ok-module.ensures.found c.in_ok-path.ensures in
    (search rules, (c.requires.modules, (entry, c.requires.variables)))

pub add_instance-returns-in_err-enter-clause-fault : goal.add_instance-returns-in_err-enter-clause-fault
add_instance-returns-in_err-enter-clause-fault t c =
    let ms : Modules = c.args.modules.now in
    let w0 : Walk = c.args.self.now in
    let x : Text = c.args.declaring.decl.now.name in
    let m : Text = c.args.name.now in
    let inner : Spot = record { «module» = c.in_ok-module.module; caller = c.args.declaring.spot; path = Some c.in_ok-path.path; actuals = c.as_slice.result; own = c.new.result } in
    let what : declared_tree c.args.declaring.decl.now.what ≡ instance m (map tree_of c.as_slice.result.now) =
    ap declared_tree c.requires.declared ∙ ap (λ (es : List (Expr Path)). instance m (map tree_of es)) (sym c.as_slice.ensures) in
    let count : c.len.result ≡ length (map tree_of c.as_slice.result.now) =
    c.len.ensures ∙ ap length (sym c.as_slice.ensures) ∙ sym (length-map c.as_slice.result.now tree_of) in
    let f = c.in_err-enter.field-0.0 in
    passed_on (IsTold (told_from ms w0 (visits_at ms w0 c.args.declaring.spot (declared_item c.args.declaring)))) c.from_residual-in_err-enter.result f c.from_residual-in_err-enter.ensures.1
    (told_as _ _ f
    (sym (told_inner ms w0 x m inner c.requires.standing c.in_ok-module.ensures.found c.in_ok-path.ensures c.args.declaring.item (role_of c.args.declaring.role) (declared_tree c.args.declaring.decl.now.what) what c.len.result count))
    (told_later (instance_told (program_in ms) (on_path_of w0) (length w0.spots.items) c.args.declaring.item m c.len.result)
    (visits_told (program_in ms) (suc (length w0.spots.items)) (length w0.variables) (visits_within ms w0 inner)) f c.in_ok-module.ensures.kept c.in_err-enter.ensures.fault))

pub add_instance-returns-clause-met : goal.add_instance-returns-clause-met
add_instance-returns-clause-met t c =
    let ms : Modules = c.args.modules.now in
    let w0 : Walk = c.args.self.now in
    let x : Text = c.args.declaring.decl.now.name in
    let m : Text = c.args.name.now in
    let inner : Spot = record { «module» = c.in_ok-module.module; caller = c.args.declaring.spot; path = Some c.in_ok-path.path; actuals = c.as_slice.result; own = c.new.result } in
    let what : declared_tree c.args.declaring.decl.now.what ≡ instance m (map tree_of c.as_slice.result.now) =
    ap declared_tree c.requires.declared ∙ ap (λ (es : List (Expr Path)). instance m (map tree_of es)) (sym c.as_slice.ensures) in
    met_inner ms w0 x m inner c.requires.standing c.in_ok-module.ensures.found c.in_ok-path.ensures c.args.declaring.item (role_of c.args.declaring.role) (declared_tree c.args.declaring.decl.now.what) what
    c.enter.new.self c.in_ok-enter.field-0 c.in_ok-enter.ensures.entered

pub add_instance-returns-clause-kept : goal.add_instance-returns-clause-kept
add_instance-returns-clause-kept t c =
    let ms : Modules = c.args.modules.now in
    let w0 : Walk = c.args.self.now in
    let x : Text = c.args.declaring.decl.now.name in
    let m : Text = c.args.name.now in
    let inner : Spot = record { «module» = c.in_ok-module.module; caller = c.args.declaring.spot; path = Some c.in_ok-path.path; actuals = c.as_slice.result; own = c.new.result } in
    let what : declared_tree c.args.declaring.decl.now.what ≡ instance m (map tree_of c.as_slice.result.now) =
    ap declared_tree c.requires.declared ∙ ap (λ (es : List (Expr Path)). instance m (map tree_of es)) (sym c.as_slice.ensures) in
    let count : c.len.result ≡ length (map tree_of c.as_slice.result.now) =
    c.len.ensures ∙ ap length (sym c.as_slice.ensures) ∙ sym (length-map c.as_slice.result.now tree_of) in
    told_inner ms w0 x m inner c.requires.standing c.in_ok-module.ensures.found c.in_ok-path.ensures c.args.declaring.item (role_of c.args.declaring.role) (declared_tree c.args.declaring.decl.now.what) what c.len.result count
    ∙ none_first (instance_told (program_in ms) (on_path_of w0) (length w0.spots.items) c.args.declaring.item m c.len.result)
    (visits_told (program_in ms) (suc (length w0.spots.items)) (length w0.variables) (visits_within ms w0 inner)) c.in_ok-module.ensures.kept
    ∙ c.in_ok-enter.ensures.kept

pub enter-go_through-requires : goal.enter-go_through-requires
enter-go_through-requires t c =
    let ms : Modules = c.args.modules.now in
    let names : ModuleNames = c.index-names.result.now in
    let w1 : Walk = record { spots = c.push.new.self; variables = c.args.self.now.variables; inside = c.push-2.new.self } in
    let less : c.args.spot.«module» < length ms.list.items = get_less ms.list.items c.args.spot.«module» c.requires.entry.names c.requires.entry.is.listed in
    let listed : slice_get ms.list.items c.args.spot.«module» ≡ Some names = slice_get-get_or ms.list.items c.args.spot.«module» names less ∙ ap Some (sym c.index-names.ensures) in
    let count : c.len-number.result ≡ length c.args.self.now.spots.items = search rules in
    let standing : IsStanding ms w1 c.len-number.result =
    stands_there ms c.requires.modules c.args.self.now c.args.spot c.requires.entry names listed w1 _ c.in_ok-push.ensures.items c.in_ok-push-2.ensures.items
    (name_is ms c.requires.modules c.args.self.now c.args.spot c.requires.entry names listed) refl c.len-number.result count c.as_slice.result.now c.as_slice.ensures.value in
    let deep : length c.args.self.now.inside.items < length ms.list.items = deeper ms c.requires.modules c.args.self.now c.args.spot c.requires.entry names listed in
    let longer : length c.push-2.new.self.items ≡ length c.args.self.now.inside.items + 1 = ap length c.in_ok-push-2.ensures.items ∙ length-append c.args.self.now.inside.items _ in
    let smaller : 5 * (length ms.list.items - length c.push-2.new.self.items) + 4 < 5 * (length ms.list.items - length c.args.self.now.inside.items) = omega (arith, deep, longer) in
    (search rules, (c.requires.modules, (standing, c.requires.variables)))

pub enter-returns-in_err-own-clause-fault : goal.enter-returns-in_err-own-clause-fault
enter-returns-in_err-own-clause-fault t c =
    let ms : Modules = c.args.modules.now in
    let names : ModuleNames = c.index-names.result.now in
    let w1 : Walk = record { spots = c.push.new.self; variables = c.args.self.now.variables; inside = c.push-2.new.self } in
    let less : c.args.spot.«module» < length ms.list.items = get_less ms.list.items c.args.spot.«module» c.requires.entry.names c.requires.entry.is.listed in
    let listed : slice_get ms.list.items c.args.spot.«module» ≡ Some names = slice_get-get_or ms.list.items c.args.spot.«module» names less ∙ ap Some (sym c.index-names.ensures) in
    let count : c.len-number.result ≡ length c.args.self.now.spots.items = search rules in
    let f = c.in_err-own.field-0.0 in
    passed_on (IsTold (visits_told (program_in ms) (suc (length c.args.self.now.spots.items)) (length c.args.self.now.variables) (visits_within ms c.args.self.now c.args.spot)))
    c.from_residual-in_err-own.result f c.from_residual-in_err-own.ensures.1
    (told_as (told_from ms w1 (visits_here ms w1 c.len-number.result (map numbered_tree c.as_slice.result.now))) _ f
    (told_there ms c.requires.modules c.args.self.now c.args.spot c.requires.entry names listed w1 _ c.in_ok-push.ensures.items c.in_ok-push-2.ensures.items
    (name_is ms c.requires.modules c.args.self.now c.args.spot c.requires.entry names listed) refl c.len-number.result count c.as_slice.result.now c.as_slice.ensures.value)
    c.in_err-own.ensures.fault)

pub enter-returns-clause-entered : goal.enter-returns-clause-entered
enter-returns-clause-entered t c =
    let ms : Modules = c.args.modules.now in
    let names : ModuleNames = c.index-names.result.now in
    let w1 : Walk = record { spots = c.push.new.self; variables = c.args.self.now.variables; inside = c.push-2.new.self } in
    let less : c.args.spot.«module» < length ms.list.items = get_less ms.list.items c.args.spot.«module» c.requires.entry.names c.requires.entry.is.listed in
    let listed : slice_get ms.list.items c.args.spot.«module» ≡ Some names = slice_get-get_or ms.list.items c.args.spot.«module» names less ∙ ap Some (sym c.index-names.ensures) in
    let count : c.len-number.result ≡ length c.args.self.now.spots.items = search rules in
    entered_there ms c.requires.modules c.args.self.now c.args.spot c.requires.entry names listed w1 _ c.in_ok-push.ensures.items c.in_ok-push-2.ensures.items
    (name_is ms c.requires.modules c.args.self.now c.args.spot c.requires.entry names listed) refl c.len-number.result count c.as_slice.result.now c.as_slice.ensures.value
    c.go_through.new.self c.in_ok-own.own c.in_ok-own.ensures.gone c.leave.new.self c.leave.ensures.spots c.leave.ensures.variables c.leave.ensures.inside

pub enter-returns-clause-kept : goal.enter-returns-clause-kept
enter-returns-clause-kept t c =
    let ms : Modules = c.args.modules.now in
    let names : ModuleNames = c.index-names.result.now in
    let w1 : Walk = record { spots = c.push.new.self; variables = c.args.self.now.variables; inside = c.push-2.new.self } in
    let less : c.args.spot.«module» < length ms.list.items = get_less ms.list.items c.args.spot.«module» c.requires.entry.names c.requires.entry.is.listed in
    let listed : slice_get ms.list.items c.args.spot.«module» ≡ Some names = slice_get-get_or ms.list.items c.args.spot.«module» names less ∙ ap Some (sym c.index-names.ensures) in
    let count : c.len-number.result ≡ length c.args.self.now.spots.items = search rules in
    sym (told_there ms c.requires.modules c.args.self.now c.args.spot c.requires.entry names listed w1 _ c.in_ok-push.ensures.items c.in_ok-push-2.ensures.items
    (name_is ms c.requires.modules c.args.self.now c.args.spot c.requires.entry names listed) refl c.len-number.result count c.as_slice.result.now c.as_slice.ensures.value)
    ∙ c.in_ok-own.ensures.kept

pub go_through-loop-numbered-init : goal.go_through-loop-numbered-init
go_through-loop-numbered-init t c = record { far = gone_none c.args.modules.now c.args.self.now c.args.spot c.args.items.now c.new-own.result.items c.new-own.ensures.items; variables = c.requires.variables }

pub go_through-returns-in_err-meet-clause-fault : goal.go_through-returns-in_err-meet-clause-fault
go_through-returns-in_err-meet-clause-fault t c =
    let w1 : Walk = c.loop-numbered.self in
    let k = c.loop-numbered.numbered-index in
    let items : List Numbered = c.args.items.now in
    let d : Numbered = c.numbered-item.result in
    let within : k < length items = search rules in
    let same : d ≡ get_or items k d = search rules in
    let f = c.in_err-meet.field-0.0 in
    let told : IsTold (told_from c.args.modules.now w1 (visits_at c.args.modules.now w1 c.args.spot (numbered_tree (get_or items k d)))) f =
    subst (λ (n : Numbered). IsTold (told_from c.args.modules.now w1 (visits_at c.args.modules.now w1 c.args.spot (numbered_tree n))) f) same c.in_err-meet.ensures.fault in
    passed_on (IsTold (told_from c.args.modules.now c.args.self.now (visits_here c.args.modules.now c.args.self.now c.args.spot (map numbered_tree items))))
    c.from_residual.result f c.from_residual.ensures.1
    (gone_fault c.args.modules.now c.args.self.now c.args.spot c.requires.standing items k d within w1 c.loop-numbered.own.items c.loop-numbered.invariant.far f told)

pub go_through-loop-numbered-preserved : goal.go_through-loop-numbered-preserved
go_through-loop-numbered-preserved t c =
    let ms : Modules = c.args.modules.now in
    let w1 : Walk = c.loop-numbered.self in
    let w2 : Walk = c.meet.new.self in
    let k = c.loop-numbered.numbered-index in
    let items : List Numbered = c.args.items.now in
    let d : Numbered = c.numbered-item.result in
    let f : Found = c.in_ok-meet.field-0 in
    let within : k < length items = search rules in
    let same : d ≡ get_or items k d = search rules in
    let met : HasMet ms w1 c.args.spot (numbered_tree (get_or items k d)) w2 f =
    subst (λ (n : Numbered). HasMet ms w1 c.args.spot (numbered_tree n) w2 f) same c.in_ok-meet.ensures.met in
    let none : told_from ms w1 (visits_at ms w1 c.args.spot (numbered_tree (get_or items k d))) ≡ None =
    ap (λ (n : Numbered). told_from ms w1 (visits_at ms w1 c.args.spot (numbered_tree n))) (sym same) ∙ c.in_ok-meet.ensures.kept in
    record {
      far = subst (λ (fs : List Found). GoneSoFar ms c.args.self.now c.args.spot items (k + 1) w2 fs) (sym c.in_ok-push.ensures.items)
          (gone_more ms c.args.self.now c.args.spot c.requires.standing items k d within w1 c.loop-numbered.own.items c.loop-numbered.invariant.far w2 f met none);
      variables = c.in_ok-meet.ensures.variables;
    }

pub meet-returns-in_default : goal.meet-returns-in_default
meet-returns-in_default t c = record {
  variables = c.requires.variables;
  met = met_other c.args.modules.now c.args.self.now c.args.spot c.args.numbered.number c.args.numbered.item c.in_default.not-Declared;
  kept = told_other c.args.modules.now c.args.self.now c.args.spot c.args.numbered.number c.args.numbered.item c.in_default.not-Declared;
  fault = tt;
}
