use Rattle.std.proofs.Common.{Some, None, refl, subst, map, string_bytes}
use Rattle.pz_words.specs.Jobs.{IsAsked}
use Rattle.pz_run_output.specs.Files.{files_of}
use Rattle.pz_run_output.specs.declared.status.Status.TheVariants.{NoMemory}
use Rattle.pz_run.proofs.Asked.{keeps_asked, found_sized, found_few, found_units}
use Rattle.pz_run_output.proofs.Keeps.{keeps_usage, keeps_nothing, not_opened, opened_never}
use Rattle.pz_run.proofs.Asked.{hands_asked}
use Rattle.pz_run.proofs.program.run_words.Goals as goal

pub do_job-requires-clause-size : goal.do_job-requires-clause-size
do_job-requires-clause-size g c =
    found_sized (map string_bytes c.args.words.now) c.in-Ok-Some.job
    (subst (IsAsked (map string_bytes c.args.words.now)) c.in-Ok-Some.field-0-is c.in-Ok-Some.ensures.reads)

pub do_job-requires-clause-few : goal.do_job-requires-clause-few
do_job-requires-clause-few g c =
    found_few (map string_bytes c.args.words.now) c.in-Ok-Some.job
    (subst (IsAsked (map string_bytes c.args.words.now)) c.in-Ok-Some.field-0-is c.in-Ok-Some.ensures.reads)

pub do_job-requires-clause-units : goal.do_job-requires-clause-units
do_job-requires-clause-units g c =
    found_units (map string_bytes c.args.words.now) c.in-Ok-Some.job
    (subst (IsAsked (map string_bytes c.args.words.now)) c.in-Ok-Some.field-0-is c.in-Ok-Some.ensures.reads)

pub returns-in-Ok-Some : goal.returns-in-Ok-Some
returns-in-Ok-Some g c = record {
  kept = keeps_asked (map string_bytes c.args.words.now) (Some c.in-Ok-Some.job)
      (subst (IsAsked (map string_bytes c.args.words.now)) c.in-Ok-Some.field-0-is c.in-Ok-Some.ensures.reads)
      _ _ _ _ c.do_job.result.status c.do_job.ensures.kept;
  reading = c.do_job.ensures.kept.reading;
  writing = c.do_job.ensures.kept.writing;
  simulator = hands_asked (map string_bytes c.args.words.now) (Some c.in-Ok-Some.job)
      (subst (IsAsked (map string_bytes c.args.words.now)) c.in-Ok-Some.field-0-is c.in-Ok-Some.ensures.reads)
      (g.F.Files.state c.args.files.now) _ c.do_job.result.status _ c.do_job.ensures.simulator;
  unbegun = c.do_job.ensures.unbegun;
}

pub returns-in-Ok-None : goal.returns-in-Ok-None
returns-in-Ok-None g c =
    let kept = keeps_usage (g.F.Files.state c.args.files.now) _ _ c.say.result (rw c.usage_line.ensures at c.say.ensures) in
    record {
      kept = keeps_asked (map string_bytes c.args.words.now) None
          (subst (IsAsked (map string_bytes c.args.words.now)) c.in-Ok-None.field-0-is c.in-Ok-None.ensures.reads)
          _ _ _ _ c.say.result kept;
      reading = kept.reading;
      writing = kept.writing;
      simulator = hands_asked (map string_bytes c.args.words.now) None
          (subst (IsAsked (map string_bytes c.args.words.now)) c.in-Ok-None.field-0-is c.in-Ok-None.ensures.reads)
          (g.F.Files.state c.args.files.now) _ c.say.result None (λ told came. refl);
      unbegun = λ never. refl;
    }

pub returns-in-Err : goal.returns-in-Err
returns-in-Err g c = record {
  kept = λ a _. keeps_nothing a _ _ _ _ NoMemory (not_opened (files_of a) _) (λ _ many. opened_never _ many) refl (record { unchanged = refl; wanting = refl });
  reading = λ differ. absurd (differ refl);
  writing = record { kept = λ _. refl; last = λ is. cc };
  simulator = λ a asked told came. absurd (came.ample refl);
  unbegun = λ never. refl;
}
