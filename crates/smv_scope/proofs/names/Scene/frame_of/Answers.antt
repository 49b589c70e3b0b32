-- The look-up of a formal begins at its actual.
use Rattle.std.proofs.Common.{◌≡◌, ◌<◌, ◌≤◌, arith, Some, None, length, get_or, rules, refl, sym, ◌∙◌, ap, subst}
use Rattle.smv_language.specs.Language.{Path, tree_of, plain_name}
use Rattle.smv_scope.proofs.Frames.{frame_made}
use Rattle.smv_scope.proofs.Actuals.{spot_within, own_within, own_plain}
use Rattle.smv_scope.proofs.names.Scene.frame_of.Goals as goal
use Rattle.smv_language.proofs.ListLaws.{get_there}

pub index-own-requires : goal.index-own-requires
index-own-requires c =
    let spot_in : c.args.spot < length c.args.self.now.spots.items = spot_within c.args.self.now c.requires.ready c.args.spot c.args.formal c.requires.unanswered.there in
    search rules

pub unreachable-requires : goal.unreachable-requires
unreachable-requires c =
    let own = c.index-own.result.now in
    let spot_in : c.args.spot < length c.args.self.now.spots.items = spot_within c.args.self.now c.requires.ready c.args.spot c.args.formal c.requires.unanswered.there in
    let spot_is : own ≡ get_or c.args.self.now.spots.items c.args.spot own = search rules in
    let within : c.args.formal < length own.actuals.now =
    own_within c.args.self.now c.requires.ready c.args.spot c.args.formal c.requires.unanswered.there own (get_there c.args.self.now.spots.items c.args.spot own spot_in spot_is) in
    let past : length own.actuals.now ≤ c.args.formal = search rules in
    omega (arith, within, past)

pub unreachable-requires-in_default-plain_name_of : goal.unreachable-requires-in_default-plain_name_of
unreachable-requires-in_default-plain_name_of c =
    let own = c.index-own.result.now in
    let value = c.in-Some.value.now in
    let spot_in : c.args.spot < length c.args.self.now.spots.items = spot_within c.args.self.now c.requires.ready c.args.spot c.args.formal c.requires.unanswered.there in
    let spot_is : own ≡ get_or c.args.self.now.spots.items c.args.spot own = search rules in
    let formal_in : c.args.formal < length own.actuals.now = search rules in
    let formal_is : value ≡ get_or own.actuals.now c.args.formal value = search rules in
    let none : plain_name (tree_of value) ≡ None = search rules in
    own_plain c.args.self.now c.requires.ready c.args.spot c.args.formal c.requires.unanswered.there own (get_there c.args.self.now.spots.items c.args.spot own spot_in spot_is) c.requires.unanswered.no_answer
    value (get_there own.actuals.now c.args.formal value formal_in formal_is) none

pub returns-clause-frame : goal.returns-clause-frame
returns-clause-frame c =
    let own = c.index-own.result.now in
    let value = c.in-Some.value.now in
    let spot_in : c.args.spot < length c.args.self.now.spots.items = spot_within c.args.self.now c.requires.ready c.args.spot c.args.formal c.requires.unanswered.there in
    let spot_is : own ≡ get_or c.args.self.now.spots.items c.args.spot own = search rules in
    let formal_in : c.args.formal < length own.actuals.now = search rules in
    let formal_is : value ≡ get_or own.actuals.now c.args.formal value = search rules in
    let name : Some c.in-Some-plain_name_of.name.now ≡ plain_name (tree_of value) = search rules in
    frame_made c.args.self.now c.requires.ready _ c.requires.unanswered.there own (get_there c.args.self.now.spots.items c.args.spot own spot_in spot_is) refl value (get_there own.actuals.now c.args.formal value formal_in formal_is)
    (sym name ∙ ap Some (sym c.parts.ensures.parts)) (subst (λ (n : Path). 0 < length n) (sym c.parts.ensures.parts) c.parts.ensures.some)
