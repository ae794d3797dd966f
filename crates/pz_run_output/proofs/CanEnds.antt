-- How a call can end.
use Rattle.std.proofs.Common.{◌≡◌, ◌≢◌, Option, None, refl, sym, subst}
use Rattle.pz_words.specs.declared.jobs.Job.{Job}
use Rattle.pz_run_output.specs.declared.status.Status.{Status}
use Rattle.pz_run_output.specs.declared.status.Status.TheVariants.{Usage, WriteFault, NoMemory}
use Rattle.pz_run_output.specs.Promises.{CanEnd}
use Rattle.pz_run_output.specs.Promises as promises

pub only_usage : (a : Option Job) (s : Status) → CanEnd a s → a ≡ None → s ≢ WriteFault → s ≢ NoMemory → s ≡ Usage
only_usage _ _ promises.usage none no_fault no_want = refl
only_usage _ _ (promises.done job) none no_fault no_want = cc
only_usage _ _ (promises.deadlock job has) none no_fault no_want = cc
only_usage _ _ (promises.model_fault job has) none no_fault no_want = cc
only_usage _ _ (promises.choice_refused job p is) none no_fault no_want = cc
only_usage _ _ (promises.trace_refused model trace units) none no_fault no_want = cc
only_usage _ _ (promises.judged_refused model watches choice limits) none no_fault no_want = cc
only_usage _ _ (promises.watch_broken model watches choice limits) none no_fault no_want = cc
only_usage _ _ (promises.watch_refused model watches choice limits) none no_fault no_want = cc
only_usage _ _ (promises.driven_refused model script choice limits) none no_fault no_want = cc
only_usage _ _ (promises.script_refused model script choice limits) none no_fault no_want = cc
only_usage _ _ (promises.model_refused job has) none no_fault no_want = cc
only_usage _ _ (promises.too_long job file among) none no_fault no_want = cc
only_usage _ _ (promises.read_fault job file among) none no_fault no_want = cc
only_usage _ _ (promises.write_fault a) none no_fault no_want = absurd (no_fault refl)
only_usage _ _ (promises.no_memory a) none no_fault no_want = absurd (no_want refl)

pub no_usage : (a : Option Job) (s : Status) → CanEnd a s → s ≡ Usage → a ≡ None
no_usage _ _ promises.usage is = refl
no_usage _ _ (promises.done job) is = cc
no_usage _ _ (promises.deadlock job has) is = cc
no_usage _ _ (promises.model_fault job has) is = cc
no_usage _ _ (promises.choice_refused job p asked) is = cc
no_usage _ _ (promises.trace_refused model trace units) is = cc
no_usage _ _ (promises.judged_refused model watches choice limits) is = cc
no_usage _ _ (promises.watch_broken model watches choice limits) is = cc
no_usage _ _ (promises.watch_refused model watches choice limits) is = cc
no_usage _ _ (promises.driven_refused model script choice limits) is = cc
no_usage _ _ (promises.script_refused model script choice limits) is = cc
no_usage _ _ (promises.model_refused job has) is = cc
no_usage _ _ (promises.too_long job file among) is = cc
no_usage _ _ (promises.read_fault job file among) is = cc
no_usage _ _ (promises.write_fault a) is = cc
no_usage _ _ (promises.no_memory a) is = cc

pub can_end : (a : Option Job) (given wanted : Status) → (given ≢ WriteFault → given ≢ NoMemory → given ≡ wanted) → CanEnd a wanted → CanEnd a given
can_end a WriteFault wanted is can = promises.write_fault a
can_end a NoMemory wanted is can = promises.no_memory a
can_end a given wanted is can = subst (CanEnd a) (sym (is (λ e. cc) (λ e. cc))) can
