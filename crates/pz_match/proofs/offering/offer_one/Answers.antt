-- The send is kept, with its group.
use Rattle.std.proofs.Common.{refl, sym, subst, List}
use Rattle.std.specs.Prelude.{map, Contains}
use Rattle.pz_match.specs.declared.offers.Sender.{Sender}
use Rattle.pz_match.specs.devices.Kept.{kept}
use Rattle.pz_match.specs.devices.Staying.{stay_part}
use Rattle.pz_match.proofs.Offered.{one_sender, offered_one}
use Rattle.pz_match.proofs.offering.offer_one.Goals as goal

pub join-requires-clause-takes : goal.join-requires-clause-takes
join-requires-clause-takes g c s r sends receives fit conditional =
    c.requires.takes s r (subst (λ (ss : List Sender). Contains ss s) (sym (one_sender c.args.process c.args.offer c.in-Some.wire c.in-Some.is)) sends) receives fit conditional

pub returns-clause-offered : goal.returns-clause-offered
returns-clause-offered g c =
    offered_one (g.J.Judge.verdict c.args.judge.now) (map kept c.args.all.now) c.args.receives.now c.args.groups.now c.join.new.groups (stay_part c.args.stay) c.args.process c.args.offer c.in-Some.wire _ c.in-Some.is refl c.in_ok-joined.ensures.speaks
