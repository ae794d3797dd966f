-- The receives that are gathered are those that are kept.
use Rattle.std.proofs.Common.{subst, List}
use Rattle.std.specs.Prelude.{OnOk}
use Rattle.pz_match.specs.declared.kept.Receiving.{Receiving}
use Rattle.pz_match.specs.devices.Users.{Gathered}
use Rattle.pz_match.proofs.hearing.listen.Goals as goal

pub returns-clause-gathered : goal.returns-clause-gathered
returns-clause-gathered c = subst (λ (rs : List Receiving). OnOk c.gather.result (Gathered c.args.users.now.senders c.gather.new.places rs)) c.as_slice.ensures.value c.gather.ensures.gathered
