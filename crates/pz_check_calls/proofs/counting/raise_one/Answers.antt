use Rattle.pz_check_calls.proofs.Raisings.{raised_sized, raised_reached}
use Rattle.pz_check_calls.proofs.counting.raise_one.Goals as goal

pub returns : goal.returns
returns c = record {
  sized = raised_sized c.args.methods.now c.args.totals.now.items c.raise.new.totals.items c.args.method c.raise.ensures.raised c.requires;
  reached = raised_reached c.args.methods.now c.args.totals.now.items c.raise.new.totals.items c.args.method c.raise.ensures.raised;
}
