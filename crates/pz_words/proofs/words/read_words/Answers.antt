use Rattle.std.proofs.Common.{◌≡◌, ◌∙◌, ap, subst, Option, map, take, drop, length, ◌-◌, string_bytes, IfOk}
use Rattle.pz_words.specs.declared.jobs.Job.{Job}
use Rattle.pz_words.specs.devices.Reading.{job_of}
use Rattle.pz_words.proofs.Asked.{answered, job_first}
use Rattle.pz_words.proofs.words.read_words.Goals as goal

pub returns : goal.returns
returns c = record {
  reads =
      answered (map string_bytes c.args.words.now) c.read_job.result
      (subst (λ (o : Option Job). IfOk c.read_job.result (λ found. found ≡ o))
      (ap (λ w. job_of w (map string_bytes (take (length c.args.words.now - 1) (drop 1 c.args.words.now)))) c.as_str.ensures.value
      ∙ job_first string_bytes c.args.words.now c.command-item.result c.in-len1-up.len_at_least c.command-item.is)
      c.read_job.ensures);
}
