-- One offer more.
use Rattle.std.proofs.Common.{subst, ℕ, Option, arith}
use Rattle.std.specs.Prelude.{All, Contains, IfSome}
use Rattle.std.proofs.lemmas.List.{take_all}
use Rattle.pz_match_lists.specs.Increasing.{list_at}
use Rattle.pz_match.specs.devices.Users.{asking_wire}
use Rattle.pz_match.proofs.Noting.{noted, noted_more, keeps_next}
use Rattle.pz_match.proofs.users.note_askers.Goals as goal

pub loop-receive-preserved : goal.loop-receive-preserved
loop-receive-preserved c =
    let inv = c.loop-receive.invariant in
    let now : noted asking_wire c.args.process c.note.new.users c.receive-item.result
    = subst (λ (o : Option ℕ). IfSome o (λ w. Contains (list_at c.note.new.users w) c.args.process)) c.asking_wire.ensures c.in_ok-note.ensures.noted in
    record {
      keeps = keeps_next c.args.askers.now c.loop-receive.askers c.note.new.users inv.keeps c.note.ensures.keeps;
      noted = noted_more asking_wire c.args.process c.loop-receive.askers c.note.new.users c.args.receives.now c.loop-receive.receive-index c.receive-item.result c.note.ensures.keeps c.loop-receive-test.true c.receive-item.is now inv.noted;
    }

pub returns-clause-noted : goal.returns-clause-noted
returns-clause-noted c =
    subst (All (noted asking_wire c.args.process c.loop-receive.askers)) (take_all c.loop-receive.receive-index c.args.receives.now (omega (arith, c.loop-receive-test.false))) c.loop-receive.invariant.noted
