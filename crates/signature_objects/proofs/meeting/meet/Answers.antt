use Rattle.signature_objects.proofs.Gathered.{met_one}
use Rattle.signature_objects.proofs.meeting.meet.Goals as goal

pub returns-in-Ok : goal.returns-in-Ok
returns-in-Ok c = λ all met. met_one c.args.met.now c.insert.new.self c.args.bytes c.in-Ok.field-0 all c.in-Ok.ensures.added c.in-Ok.ensures.updates c.in-Ok.ensures.len met
