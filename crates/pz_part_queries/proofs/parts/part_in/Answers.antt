use Rattle.std.proofs.Common.{arith}
use Rattle.pz_part_queries.proofs.Inside.{count_is, term_at_is}
use Rattle.pz_part_queries.proofs.parts.part_in.Goals as goal

pub offset_bounds-parts-number : goal.offset_bounds-parts-number
offset_bounds-parts-number c = omega (arith, count_is c.args.parts.now, c.requires)

pub bounds-parts-number : goal.bounds-parts-number
bounds-parts-number c = omega (arith, count_is c.args.parts.now, c.requires)

pub returns : goal.returns
returns c = term_at_is c.args.parts.now c.args.number c.index-parts-number.result (omega (arith, count_is c.args.parts.now, c.requires)) c.index-parts-number.is
