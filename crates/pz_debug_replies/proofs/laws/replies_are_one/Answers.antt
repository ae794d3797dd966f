use Rattle.pz_debug_replies.proofs.OneReply.{one_reply, one_text}
use Rattle.pz_debug_replies.proofs.laws.replies_are_one.Goals as goal

pub returns-clause-reply : goal.returns-clause-reply
returns-clause-reply c = λ setting line k xs ys zs text other. one_reply (record {
  place = c.sessions_have_one_place.ensures;
  moments = c.simulators_show_one_moment.ensures.one;
  offer = c.simulators_show_one_moment.ensures.same;
  there = c.simulators_show_one_moment.ensures.there;
  counted = c.simulators_show_one_moment.ensures.counted;
  numbered = c.simulators_show_one_moment.ensures.numbered;
  list = c.one_list_of_offers.ensures.one;
  packed = c.walks_list_what_is_active.ensures.parcels;
}) setting line k xs ys zs text other

pub returns-clause-text : goal.returns-clause-text
returns-clause-text c = λ setting line cs xs ys zs text other. one_text (record {
  place = c.sessions_have_one_place.ensures;
  moments = c.simulators_show_one_moment.ensures.one;
  offer = c.simulators_show_one_moment.ensures.same;
  there = c.simulators_show_one_moment.ensures.there;
  counted = c.simulators_show_one_moment.ensures.counted;
  numbered = c.simulators_show_one_moment.ensures.numbered;
  list = c.one_list_of_offers.ensures.one;
  packed = c.walks_list_what_is_active.ensures.parcels;
}) setting line cs xs ys zs text other
