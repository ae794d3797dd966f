-- What is read of what `format` prints.
use Rattle.std.proofs.Common.{◌≡◌, ℕ, List, Option, Some, refl, subst}
use Rattle.pz_io.specs.Outside.{Entries, lookup}
use Rattle.pz_words.specs.declared.jobs.Job.{Job}
use Rattle.pz_words.specs.declared.jobs.Job.TheVariants.{Format}
use Rattle.pz_run_formatting.specs.Layouts.{IsLayoutOf}
use Rattle.pz_run_formatting.specs.Laws.{LayoutsKeepTrees, LayoutsKeepPieces, LayoutsStay}
use Rattle.pz_run_output.specs.declared.status.Status.{Status}
use Rattle.pz_run_output.specs.declared.status.Status.TheVariants.{Done}
use Rattle.pz_run_output.specs.Files.{JobFile, model_file}
use Rattle.pz_run_output.specs.Output.{PrintsLayout, opens_not, lays_out, PrintsFile, lacks, too_long, reads, PrintsJob, Prints, usage, does}
use Rattle.pz_run_output.specs.Formats.{FormatsReadBack}
use Rattle.pz_run_output.proofs.OneEnd.{some_is}

of_text : (text bytes : List ℕ) (status : Status) → PrintsLayout text bytes status → status ≡ Done → IsLayoutOf text bytes
of_text text _ _ (opens_not r is) done = absurd cc
of_text text _ _ (lays_out bytes is) done = is

of_file : (file : JobFile) (held : Option (List ℕ)) (text bytes : List ℕ) (status : Status) → PrintsFile file PrintsLayout held bytes status → held ≡ Some text → status ≡ Done → IsLayoutOf text bytes
of_file file _ text _ _ lacks is done = absurd cc
of_file file _ text _ _ (too_long other long) is done = absurd cc
of_file file _ text _ _ (reads other bytes status short prints) is done =
    subst (λ (t : List ℕ). IsLayoutOf t bytes) (some_is other text is) (of_text other bytes status prints done)

of_job : (files : Entries) (model text : List ℕ) (a : Option Job) (bytes : List ℕ) (status : Status) → Prints files a bytes status → a ≡ Some (Format model) → lookup files model ≡ Some text → status ≡ Done → IsLayoutOf text bytes
of_job files model text _ _ _ usage is held done = absurd cc
of_job files model text _ _ _ (does job bytes status prints) is held done =
    of_file (model_file model) (lookup files model) text bytes status
    (subst (λ (j : Job). PrintsJob files j bytes status) (some_is job (Format model) is) prints) held done

pub formats_back : LayoutsKeepTrees → LayoutsKeepPieces → LayoutsStay → FormatsReadBack
formats_back tree pieces again files model text out held bytes prints =
    let is = of_job files model text (Some (Format model)) out Done prints refl held refl in
    record { layout = is; tree = tree text out is bytes; pieces = pieces text out is bytes; again = again text out is bytes }
