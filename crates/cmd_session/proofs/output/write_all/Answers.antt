use Rattle.std.proofs.lemmas.List.{take_rest}
use Rattle.gg_outside.specs.declared.faults.SinkFault.{SinkFault}
use Rattle.cmd_session.proofs.Fronts.{goes_on}
use Rattle.cmd_session.proofs.output.write_all.Goals as goal

pub loop-rest-preserved : goal.loop-rest-preserved
loop-rest-preserved g c =
    goes_on SinkFault (g.K.Sink.told c.args.sink.now) (g.K.Sink.told c.loop-rest.sink) (g.K.Sink.told c.write.new.self) (g.K.Sink.faults c.args.sink.now) (g.K.Sink.faults c.loop-rest.sink)
    (g.K.Sink.faults c.write.new.self) c.in_ok-n.n c.args.bytes.now c.loop-rest.rest.now _
    (take_rest c.loop-rest.rest.now c.in_ok-n.n) c.in_ok-n.ensures.counts c.in_ok-n.ensures.takes c.loop-rest.invariant
