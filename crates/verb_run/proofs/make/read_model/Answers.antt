use Rattle.verb_loading.specs.Models.{IsWrongModel}
use Rattle.verb_run.proofs.GeneratedLaws.{refuses_none, text_length, text_not_wrong}
use Rattle.verb_run.proofs.make.read_model.Goals as goal

pub model_of-requires : goal.model_of-requires
model_of-requires c = text_length c.args.bytes.now c.requires

pub want_of-requires : goal.want_of-requires
want_of-requires c = refuses_none (IsWrongModel c.args.bytes.now) c.in-Err.wrong (text_not_wrong c.args.bytes.now c.requires) c.in-Err.ensures.wrong
