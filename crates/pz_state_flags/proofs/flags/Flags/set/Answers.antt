use Rattle.std.proofs.Common.{◌/◌, arith}
use Rattle.pz_state_flags.proofs.Levels.{tells_changed}
use Rattle.pz_state_flags.proofs.flags.Flags.set.Goals as goal

pub invariant_of-self : goal.invariant_of-self
invariant_of-self c = let place = c.args.number / 64 in let word = c.args.number / 64 / 64 in let group = c.args.number / 64 / 64 / 64 in let small = c.self.invariant.small in record {
  words = tells_changed place c.set_flag-full.result c.self.invariant.words c.set_flag-full.ensures.words c.set_flag-full.ensures.full c.set_flag-full.ensures.length c.set_flag-full-2.ensures.flags c.set_flag-full-2.ensures.length;
  groups = tells_changed word c.set_flag-full-2.result c.self.invariant.groups c.set_flag-full-2.ensures.words c.set_flag-full-2.ensures.full c.set_flag-full-2.ensures.length c.set_flag-full-3.ensures.flags c.set_flag-full-3.ensures.length;
  blocks = tells_changed group c.set_flag-full-3.result c.self.invariant.blocks c.set_flag-full-3.ensures.words c.set_flag-full-3.ensures.full c.set_flag-full-3.ensures.length c.set_flag-full-4.ensures.flags c.set_flag-full-4.ensures.length;
  small = omega (arith, c.set_flag-full-4.ensures.length);
}
