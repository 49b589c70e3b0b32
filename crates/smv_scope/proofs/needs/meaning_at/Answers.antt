-- What is found is what the name means.
use Rattle.std.proofs.Common.{subst}
use Rattle.smv_scope.specs.SceneTree.{IsFound, program_of}
use Rattle.smv_scope.proofs.needs.meaning_at.Goals as goal

pub returns : goal.returns
returns c =
    record {
      value = c.meaning.ensures.value;
      found = record { found = λ at is. subst (λ f. IsFound (program_of c.args.scene.now) at.place c.args.name.now f) c.meaning.ensures.value (c.meaning.ensures.found c.requires at is) };
    }
