use Rattle.pz_io.specs.Outcomes.{sent_of}
use Rattle.pz_io.proofs.Pieces.{front_of_part}
use Rattle.pz_io.proofs.writing.put.Goals as goal

pub returns-in-Err-clause-wrote : goal.returns-in-Err-clause-wrote
returns-in-Err-clause-wrote g c =
    let sent = sent_of c.in-Err.field-0 in
    record {
      tells = c.in-Err.ensures.told;
      taken = λ told. front_of_part (g.W.Sink.state c.args.out.now) (g.W.Sink.state c.write_all.new.sink) c.args.bytes.now sent (c.in-Err.ensures.front told);
      failed = c.in-Err.ensures.cause;
    }
