use Rattle.std.proofs.lemmas.Result.{on_ok_weaker}
use Rattle.pz_rules.specs.View.{term_view}
use Rattle.pz_tree_acting.proofs.Frames.{one_also, two_also}
use Rattle.pz_tree_acting.proofs.closing.list_part.Goals as goal

pub returns-in-One : goal.returns-in-One
returns-in-One c = one_also c.args.edition (term_view c.args.part.now) c.args.listed.now.items c.args.listed.now.items c.in-One.is

pub returns-in-Two : goal.returns-in-Two
returns-in-Two c = on_ok_weaker c.list_frames.result (λ is. two_also c.args.edition (term_view c.args.part.now) c.args.listed.now.items c.list_frames.new.frames.items c.in-Two.is is) c.list_frames.ensures
