use Rattle.std.proofs.Common.{◌^◌, ◌/◌, arith}
use Rattle.pz_state_flags.proofs.Levels.{longer_above, longer_below}
use Rattle.pz_state_flags.proofs.flags.Flags.reserve.Goals as goal

pub invariant_of-self : goal.invariant_of-self
invariant_of-self c = record {
  words = c.self.invariant.words;
  groups = c.self.invariant.groups;
  blocks = longer_above c.self.invariant.blocks c.extend.ensures.words c.extend.ensures.grows;
  small = c.extend.ensures.most (2 ^ 57) c.self.invariant.small (omega arith);
}

pub invariant_of-self-in_err-extend-2 : goal.invariant_of-self-in_err-extend-2
invariant_of-self-in_err-extend-2 c = record {
  words = c.self.invariant.words;
  groups = longer_above c.self.invariant.groups c.extend-2.ensures.words c.extend-2.ensures.grows;
  blocks = longer_below (c.args.number / 64 / 64 / 64) (longer_above c.self.invariant.blocks c.extend.ensures.words c.extend.ensures.grows) (omega arith) c.in_ok-extend.ensures.ok c.extend-2.ensures.words c.extend-2.ensures.most;
  small = c.extend.ensures.most (2 ^ 57) c.self.invariant.small (omega arith);
}

pub invariant_of-self-in_err-extend-3 : goal.invariant_of-self-in_err-extend-3
invariant_of-self-in_err-extend-3 c = record {
  words = longer_above c.self.invariant.words c.extend-3.ensures.words c.extend-3.ensures.grows;
  groups = longer_below (c.args.number / 64 / 64) (longer_above c.self.invariant.groups c.extend-2.ensures.words c.extend-2.ensures.grows) (omega arith) c.in_ok-extend-2.ensures.ok c.extend-3.ensures.words c.extend-3.ensures.most;
  blocks = longer_below (c.args.number / 64 / 64 / 64) (longer_above c.self.invariant.blocks c.extend.ensures.words c.extend.ensures.grows) (omega arith) c.in_ok-extend.ensures.ok c.extend-2.ensures.words c.extend-2.ensures.most;
  small = c.extend.ensures.most (2 ^ 57) c.self.invariant.small (omega arith);
}

pub invariant_of-self-2 : goal.invariant_of-self-2
invariant_of-self-2 c = record {
  words = longer_below (c.args.number / 64) (longer_above c.self.invariant.words c.extend-3.ensures.words c.extend-3.ensures.grows) (omega arith) c.in_ok-extend-3.ensures.ok c.extend-4.ensures.words c.extend-4.ensures.most;
  groups = longer_below (c.args.number / 64 / 64) (longer_above c.self.invariant.groups c.extend-2.ensures.words c.extend-2.ensures.grows) (omega arith) c.in_ok-extend-2.ensures.ok c.extend-3.ensures.words c.extend-3.ensures.most;
  blocks = longer_below (c.args.number / 64 / 64 / 64) (longer_above c.self.invariant.blocks c.extend.ensures.words c.extend.ensures.grows) (omega arith) c.in_ok-extend.ensures.ok c.extend-2.ensures.words c.extend-2.ensures.most;
  small = c.extend.ensures.most (2 ^ 57) c.self.invariant.small (omega arith);
}
