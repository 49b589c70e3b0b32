use Rattle.std.proofs.Common.{map}
use Rattle.verb_loading.specs.declared.status.Status.TheVariants as status
use Rattle.xsap_tops.proofs.EndedLaws.{without_memory}
use Rattle.xsap_tops.proofs.ended.Goals as goal

pub returns-in-Ok : goal.returns-in-Ok
returns-in-Ok g c = record { ending = c.in-Ok.status; is_number = c.exit_number.ensures; has_run = c.in-Ok.ensures }

pub returns-in-Err : goal.returns-in-Err
returns-in-Err g c =
    record {
      ending = status.Memory;
      is_number = c.exit_number-in-Err.ensures;
      has_run = without_memory (map (λ w. w.now) c.args.words.now) (g.D.Desk.told c.args.desk.now).files (g.D.Desk.told c.advised.new.desk).files (g.D.Desk.told c.args.desk.now).said (g.D.Desk.told c.advised.new.desk).said
          (g.D.Desk.told c.args.desk.now).faults (g.D.Desk.told c.advised.new.desk).faults;
    }
