-- What the code finds at the front of what is left of a trace.
use Rattle.std.specs.Prelude.{◌≡◌, ◌<◌, ℕ, List, [], ◌∷◌, Option, None, Result, Ok, IfOk, Vec}
use Rattle.std.specs.declared.alloc.Global.{Global}
use Rattle.std.specs.Option.{option_map}
use Rattle.std.specs.Result.{result_err}
use Rattle.pz_io.specs.Outside.{SinkState}
use Rattle.pz_io.specs.declared.writing.Halt.{Halt}
use Rattle.pz_io.specs.Writing.{Wrote}
use Rattle.pz_rules.specs.declared.action.Action.{Action}
use Rattle.pz_rules.specs.declared.moment.Moment.TheVariants.{Actions, Time}
use Rattle.pz_trace.specs.declared.ending.Ending.{Ending}
use Rattle.pz_trace.specs.Lines.{time_line, action_line, end_line}
use Rattle.pz_term_simulator.specs.Simulations.{Simulation, setting_in, IsMomentOf, Chooses, Passes}
use Rattle.pz_run_replaying.specs.declared.judging.Move.{Move}
use Rattle.pz_run_replaying.specs.declared.judging.Move.TheVariants.{Act, Wait}
use Rattle.pz_run_replaying.specs.declared.judging.Judged.{Judged}
use Rattle.pz_run_replaying.specs.declared.judging.Judged.TheVariants as judged
use Rattle.pz_run_replaying.specs.declared.replayed.Replayed.{Replayed}
use Rattle.pz_run_replaying.specs.declared.replayed.Replayed.TheVariants.{Ended, Refused}
use Rattle.pz_run_replaying.specs.Expected.{Expects}
use Rattle.pz_run_replaying.specs.Replays.{refusal_text}
use Rattle.pz_run_replaying.specs.devices.Fronts.{StartsWith}
use Rattle.pz_term_simulator.specs.Simulations.{model_in, clock_in, IsOffer}
use Rattle.pz_run_replaying.specs.devices.Readiness.{stage_of, EndsIn}
use Rattle.pz_run_replaying.specs.devices.Taking.{Differs}

abbrev pub MayMove : Simulation → Move → Type 0
MayMove s (Act offers number) = IsMomentOf s (Actions offers) × (number < offers)
MayMove s (Wait time) = IsMomentOf s (Time time)

abbrev pub Moves : Move → Simulation → Simulation → Type 0
Moves (Act offers number) s t = Chooses number s t
Moves (Wait time) s t = Passes s t

-- its line
abbrev pub IsMoveLine : Simulation → Move → List ℕ → Type 0
IsMoveLine s (Act offers number) line = (a : Action) × IsOffer s number a × (line ≡ action_line (model_in s) (clock_in s) offers number a)
IsMoveLine s (Wait time) line = line ≡ time_line (clock_in s) time

pub data Judges (s : Simulation) (rest : List ℕ) : Judged → Type 0 where
  goes : (step : Move) (len : ℕ) (line : List ℕ) → MayMove s step → IsMoveLine s step line → StartsWith rest line len → Judges s rest (judged.Goes step len)
  ends : (e : Ending) (len : ℕ) → EndsIn s e → StartsWith rest (end_line (model_in s) (clock_in s) e) len → Judges s rest (judged.Ends e len)
  differs : (expected : Option (Vec ℕ Global)) → Differs (setting_in s) (stage_of s) rest
      → Expects (setting_in s) rest (stage_of s) (option_map (λ line. line.items) expected) → Judges s rest (judged.Differs expected)

-- After the last line of a run: if nothing is left, the replay ends so; or the trace is refused.
abbrev pub Concludes : Ending → ℕ → List ℕ → SinkState → SinkState → Result Replayed Halt → Type 0
Concludes e number [] before now result = (result ≡ Ok (Ended e)) × (now ≡ before)
Concludes e number (b ∷ rest) before now result = Wrote before now (refusal_text number None) (result_err result) × IfOk result (λ replayed. replayed ≡ Refused number)
