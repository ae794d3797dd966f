use Rattle.std.proofs.Common.{refl}
use Rattle.pz_run_output.proofs.OfJobs.{keeps_run, keeps_menu, keeps_check, keeps_make, keeps_ring}
use Rattle.pz_run_output.proofs.Formatted.{keeps_format}
use Rattle.pz_run.proofs.Replayed.{keeps_replay}
use Rattle.pz_run.proofs.Watched.{keeps_watch}
use Rattle.pz_run.proofs.Driven.{keeps_drive}
use Rattle.pz_run.proofs.doing.do_job.Goals as goal

pub returns-in-Run-clause-kept : goal.returns-in-Run-clause-kept
returns-in-Run-clause-kept g c =
    rw c.in-Run.is
    (keeps_run _ _ _ _ c.run_file.result.status c.in-Run.model c.in-Run.choice c.in-Run.limits c.in-Run.summary
    (rw (c.as_str.ensures, c.when-telling.ensures) at c.run_file.ensures.printed))

pub returns-in-Menu-clause-kept : goal.returns-in-Menu-clause-kept
returns-in-Menu-clause-kept g c =
    rw c.in-Menu.is
    (keeps_menu _ _ _ _ c.run_file-in-Menu.result.status c.in-Menu.model c.in-Menu.choice c.in-Menu.limits (rw c.as_str-in-Menu.ensures at c.run_file-in-Menu.ensures.printed))

pub returns-in-Check-clause-kept : goal.returns-in-Check-clause-kept
returns-in-Check-clause-kept g c =
    rw c.in-Check.is (keeps_check _ _ _ _ c.check_file.result c.in-Check.model (rw c.as_str-in-Check.ensures at c.check_file.ensures))

pub returns-in-Make-clause-kept : goal.returns-in-Make-clause-kept
returns-in-Make-clause-kept g c = rw c.in-Make.is (keeps_make _ _ _ c.make_ring.result c.in-Make.n c.make_ring.ensures)

pub returns-in-Ring-clause-kept : goal.returns-in-Ring-clause-kept
returns-in-Ring-clause-kept g c = rw c.in-Ring.is (keeps_ring _ _ _ c.run_ring.result.status c.in-Ring.n c.in-Ring.choice c.in-Ring.limits c.run_ring.ensures.printed)

pub returns-in-Replay-clause-kept : goal.returns-in-Replay-clause-kept
returns-in-Replay-clause-kept g c =
    rw c.in-Replay.is
    (keeps_replay _ _ _ _ c.replay_file.result.status c.in-Replay.model c.in-Replay.trace c.in-Replay.units
    (rw (c.as_str-in-Replay.ensures, c.as_str-in-Replay-2.ensures) at c.replay_file.ensures.printed))

pub returns-in-Format-clause-kept : goal.returns-in-Format-clause-kept
returns-in-Format-clause-kept g c =
    rw c.in-Format.is (keeps_format _ _ _ _ c.format_file.result c.in-Format.model (rw c.as_str-in-Format.ensures at c.format_file.ensures))

pub returns-in-Watch-clause-kept : goal.returns-in-Watch-clause-kept
returns-in-Watch-clause-kept g c =
    rw c.in-Watch.is
    (keeps_watch _ _ _ _ c.watch_file.result.status c.in-Watch.model c.in-Watch.watches c.in-Watch.choice c.in-Watch.limits
    (rw (c.as_str-in-Watch.ensures, c.as_str-in-Watch-2.ensures) at c.watch_file.ensures.printed))

pub returns-in-Drive-clause-kept : goal.returns-in-Drive-clause-kept
returns-in-Drive-clause-kept g c =
    rw c.in-Drive.is
    (keeps_drive _ _ _ _ c.drive_file.result.status c.in-Drive.model c.in-Drive.script c.in-Drive.choice c.in-Drive.limits
    (rw (c.as_str-in-Drive.ensures, c.as_str-in-Drive-2.ensures) at c.drive_file.ensures.printed))

pub returns-in-Run-clause-simulator : goal.returns-in-Run-clause-simulator
returns-in-Run-clause-simulator g c = rw c.in-Run.is (rw (c.as_str.ensures, c.when-telling.ensures) at c.run_file.ensures.simulator)

pub returns-in-Menu-clause-simulator : goal.returns-in-Menu-clause-simulator
returns-in-Menu-clause-simulator g c = rw c.in-Menu.is (rw c.as_str-in-Menu.ensures at c.run_file-in-Menu.ensures.simulator)

pub returns-in-Check-clause-simulator : goal.returns-in-Check-clause-simulator
returns-in-Check-clause-simulator g c = rw c.in-Check.is (λ told came. refl)

pub returns-in-Make-clause-simulator : goal.returns-in-Make-clause-simulator
returns-in-Make-clause-simulator g c = rw c.in-Make.is (λ told came. refl)

pub returns-in-Ring-clause-simulator : goal.returns-in-Ring-clause-simulator
returns-in-Ring-clause-simulator g c = rw c.in-Ring.is (λ told came. c.run_ring.ensures.simulator came.written came.ample)

pub returns-in-Replay-clause-simulator : goal.returns-in-Replay-clause-simulator
returns-in-Replay-clause-simulator g c = rw c.in-Replay.is (rw (c.as_str-in-Replay.ensures, c.as_str-in-Replay-2.ensures) at c.replay_file.ensures.simulator)

pub returns-in-Format-clause-simulator : goal.returns-in-Format-clause-simulator
returns-in-Format-clause-simulator g c = rw c.in-Format.is (λ told came. refl)

pub returns-in-Watch-clause-simulator : goal.returns-in-Watch-clause-simulator
returns-in-Watch-clause-simulator g c = rw c.in-Watch.is (rw (c.as_str-in-Watch.ensures, c.as_str-in-Watch-2.ensures) at c.watch_file.ensures.simulator)

pub returns-in-Drive-clause-simulator : goal.returns-in-Drive-clause-simulator
returns-in-Drive-clause-simulator g c = rw c.in-Drive.is (rw (c.as_str-in-Drive.ensures, c.as_str-in-Drive-2.ensures) at c.drive_file.ensures.simulator)
