use Rattle.std.proofs.Common.{◌≡◌, ◌++◌, ◌∷◌, [], Some, sym, ◌∙◌, ap, arith, ◌+◌, ◌<◌, ◌^◌, length, length-append}
use Rattle.smv_language.proofs.BoolLaws.{if_false}
use Rattle.fault_rules.specs.Steps.{AreSteps}
use Rattle.fault_rules.proofs.StepLaws.{put_leads, put_steps}
use Rattle.fault_rules.proofs.texts.made.Goals as goal

pub returns-clause-reaches : goal.returns-clause-reaches
returns-clause-reaches c =
    let old = c.args.steps.now.keys in
    let new = c.insert.new.self.keys in
    let is : new ≡ old ++ (c.args.place, c.args.byte) ∷ [] = c.in_ok-insert.ensures.keys ∙ if_false _ old (old ++ (c.args.place, c.args.byte) ∷ []) c.requires.lacks in
    let long : length new ≡ length old + 1 = ap length is ∙ length-append old ((c.args.place, c.args.byte) ∷ []) in
    let before : c.len.result ≡ length old = c.len.ensures.len in
    let room : c.len.result + 1 < 2 ^ 32 = c.in_ok-check_places.ensures.few in
    let few : length new < 2 ^ 32 = omega (arith, long, before, room) in
    let are : AreSteps new = put_steps old new c.requires.steps c.args.place c.args.byte c.requires.there few c.in_ok-insert.ensures.unique is in
    let many : c.len-2.result ≡ length new = c.len-2.ensures.len in
    record {
      leads = put_leads old new are c.args.place c.args.byte is ∙ ap Some (sym many);
      within = omega (arith, many);
    }
