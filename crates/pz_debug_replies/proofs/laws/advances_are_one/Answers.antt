use Rattle.pz_debug_replies.proofs.OneText.{one_advance}
use Rattle.pz_debug_replies.proofs.laws.advances_are_one.Goals as goal

pub returns : goal.returns
returns c = λ setting wanted n xs ys zs text other.
    one_advance c.sessions_have_one_place.ensures c.simulators_show_one_moment.ensures.one c.simulators_show_one_moment.ensures.same setting wanted n xs ys zs text other
