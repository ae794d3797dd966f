-- A run on its way: where it begins, what each step leaves of it, and where it ends or is cut short.
use Rattle.std.proofs.Common.{◌≡◌, ◌≤◌, ◌<◌, ◌+◌, ◌-◌, ℕ, suc, Bool, true, false, List, [], ◌∷◌, ◌++◌, Option, Some, None, refl, sym, subst, ap, ◌∙◌, arith}
use Rattle.std.proofs.lemmas.List.{append-nil}
use Rattle.pz_io.specs.Outside.{SinkState}
use Rattle.pz_io.specs.declared.writing.Halt.{Halt}
use Rattle.pz_io.specs.Writing.{Wrote}
use Rattle.pz_rules.specs.declared.action.Action.{Action}
use Rattle.pz_rules.specs.declared.moment.Moment.{Moment}
use Rattle.pz_rules.specs.declared.moment.Moment.TheVariants.{Actions, Time}
use Rattle.pz_rules.specs.Settings.{Setting}
use Rattle.pz_term_simulator.specs.Laws.{OneMomentOf}
use Rattle.pz_rules.specs.ChosenRuns.{Policy, stops_with, takes, is_beyond, decided}
use Rattle.pz_rules.specs.Runs.{Event, acted, passed}
use Rattle.pz_term_simulator.specs.Simulations.{Simulation, IsMomentOf, Chooses, Passes, setting_in}
use Rattle.pz_run_playing.specs.declared.playing.Played.{Played}
use Rattle.pz_run_playing.specs.Endings.{ending_of}
use Rattle.pz_run_playing.specs.devices.Known.{Known}
use Rattle.pz_term_simulator.specs.Simulations.{model_in, clock_in, IsOffer}
use Rattle.pz_term_simulator.specs.devices.Room.{HasRoomFor}
use Rattle.pz_run_playing.specs.devices.Rests.{IsReady, IsHeld}
use Rattle.pz_run_playing.specs.Sayings.{Saying, said_after}
use Rattle.pz_run_playing.specs.declared.listening.Listener.{Listener}
use Rattle.pz_run_playing.specs.devices.Hearing.{Manner, saying, HasHeard}
use Rattle.pz_run_playing.specs.devices.Going.{progress, Onward, CutShort, HasGone, Passing, Going, Ended}
use Rattle.pz_run_playing.proofs.Simulated.{time_is}
use Rattle.pz_run_playing.proofs.Heard.{heard_later}
use Rattle.pz_run_playing.proofs.Rests.{some_rest}
use Rattle.pz_run_playing.proofs.Steps.{ready_passed, ready_chosen, clock_passed, clock_chosen, some_passing, some_choosing}
use Rattle.pz_run_playing.proofs.Onwards.{onward_none, onward_then, passes_onward, acts_onward, cut_here, cut_later, ends_here}

-- what was asked of the bound, at the clock of the simulator
pub asked_there : (until : Option ℕ) (s : Simulation) (clock time : ℕ) (b answer : Bool) → clock ≡ clock_in s → b ≡ is_beyond until clock time → b ≡ answer → is_beyond until (clock_in s) time ≡ answer
asked_there until s clock time b answer same asked is = ap (λ (t : ℕ). is_beyond until t time) (sym same) ∙ sym asked ∙ is

pub held_now : OneMomentOf → (until : Option ℕ) (s : Simulation) (time : ℕ) → IsMomentOf s (Time time) → is_beyond until (clock_in s) time ≡ true → IsHeld until s
held_now one until s time at beyond d now = ap (is_beyond until (clock_in s)) (time_is (one s (Time d) (Time time) now at)) ∙ beyond

-- what is known of the simulator itself

pub gone_none : (s : Simulation) (passes : ℕ) → IsReady s → passes ≤ clock_in s → HasGone s passes s
gone_none s passes ready within = record { ready = ready; setting = refl; within = within }

pub gone_passed : Known → (first s t : Simulation) (passes : ℕ) → HasGone first passes s → Passes s t → setting_in t ≡ setting_in s → HasGone first (passes + 1) t
gone_passed known first s t passes x to same = record {
  ready = ready_passed known s t x.ready to;
  setting = same ∙ x.setting;
  within = omega (arith, x.within, clock_passed known s t x.ready to);
}

pub gone_on : (first s t : Simulation) (passes all : ℕ) → HasGone first passes s → HasGone s all t → HasGone first all t
gone_on first s t passes all x y = record { ready = y.ready; setting = y.setting ∙ x.setting; within = y.within }

pub gone_chosen : Known → (first s t : Simulation) (passes k : ℕ) → HasGone first passes s → Chooses k s t → setting_in t ≡ setting_in s → HasGone first passes t
gone_chosen known first s t passes k x to same = record {
  ready = ready_chosen known k s t x.ready to;
  setting = same ∙ x.setting;
  within = omega (arith, x.within, clock_chosen k s t to);
}

-- the room of one more action
pub room_of_one : (steps actions : ℕ) (s : Simulation) → actions < steps → HasRoomFor (steps - actions) s → HasRoomFor (suc (steps - (actions + 1))) s
room_of_one steps actions s more room =
    let same : steps - actions ≡ suc (steps - (actions + 1)) = omega (arith, more) in
    subst (λ (n : ℕ). HasRoomFor n s) same room

-- before the first action
pub room_of_all : (steps : ℕ) (s : Simulation) → HasRoomFor steps s → HasRoomFor (steps - 0) s
room_of_all steps s room =
    let same : steps ≡ steps - 0 = omega arith in
    subst (λ (n : ℕ). HasRoomFor n s) same room

-- what is heard of the model of one is heard of that of the other
heard_in : (first s : Simulation) (manner : Manner) (past : List Event) (clock : ℕ) (listener : Listener) → setting_in s ≡ setting_in first → HasHeard (model_in first) manner past clock listener → HasHeard (model_in s) manner past clock listener
heard_in first s manner past clock listener same heard = subst (λ (setting : Setting). HasHeard setting.model manner past clock listener) (sym same) heard

heard_back : (first s : Simulation) (manner : Manner) (past : List Event) (clock : ℕ) (listener : Listener) → setting_in s ≡ setting_in first → HasHeard (model_in s) manner past clock listener → HasHeard (model_in first) manner past clock listener
heard_back first s manner past clock listener same heard = subst (λ (setting : Setting). HasHeard setting.model manner past clock listener) same heard

wrote_back : (first s : Simulation) (manner : Manner) (past : List Event) (e : Event) (before now : SinkState) (halt : Option Halt) → setting_in s ≡ setting_in first
    → Wrote before now (saying (model_in s) manner past e) halt → Wrote before now (saying (model_in first) manner past e) halt
wrote_back first s manner past e before now halt same wrote = subst (λ (setting : Setting). Wrote before now (saying setting.model manner past e) halt) same wrote

-- a listener that was told of an event
pub record Tells (s : Simulation) (e : Event) (before : Listener) (mid : SinkState) (after : Listener) (now : SinkState) : Type 0 where
  pub wrote : (manner : Manner) (past : List Event) → HasHeard (model_in s) manner past (clock_in s) before → Wrote mid now (saying (model_in s) manner past e) None
  pub heard : (manner : Manner) (past : List Event) → HasHeard (model_in s) manner past (clock_in s) before → HasHeard (model_in s) manner (past ++ e ∷ []) (clock_in s) after

-- .. and something halted
abbrev pub TellsCut : Simulation → Event → Listener → SinkState → SinkState → Halt → Type 0
TellsCut s e before mid now halt = (manner : Manner) (past : List Event) → HasHeard (model_in s) manner past (clock_in s) before → Wrote mid now (saying (model_in s) manner past e) (Some halt)

module _ (known : Known) (until : Option ℕ) (manner : Manner) (behind : List Event) (first : Simulation) (before : SinkState) (begun : ℕ) where
  abbrev say : Saying
  say = saying (model_in first) manner

  pub passing_none : (listener : Listener) → HasHeard (model_in first) manner behind (clock_in first) listener → Passing until manner behind first before begun begun first listener before
  passing_none listener heard = record {
    past = behind;
    heard = heard;
    written = [];
    wrote = known.nothing before;
    onward = λ policy actions same. onward_none policy say (progress actions begun behind first);
  }

  module _ (passes : ℕ) (s : Simulation) (gone : HasGone first passes s) (listener : Listener) (now : SinkState) (x : Passing until manner behind first before begun passes s listener now) (d : ℕ) (at : IsMomentOf s (Time d)) (within : is_beyond until (clock_in s) d ≡ false) where
    abbrev e : Event
    e = passed (clock_in s) d

    within_bound : (policy : Policy) → policy.until ≡ until → is_beyond policy.until (clock_in s) d ≡ false
    within_bound policy same = ap (λ (bound : Option ℕ). is_beyond bound (clock_in s) d) same ∙ within

    there : HasHeard (model_in s) manner x.past (clock_in s) listener
    there = heard_in first s manner x.past (clock_in s) listener gone.setting x.heard

    pub passing_more : (t : Simulation) (after : SinkState) (later : Listener) → Passes s t → Tells s (passed (clock_in s) d) listener now later after → Passing until manner behind first before begun (passes + 1) t later after
    passing_more t after later to tells =
        let wrote = wrote_back first s manner x.past e now after None gone.setting (tells.wrote manner x.past there) in record {
          past = x.past ++ e ∷ [];
          heard = heard_later (model_in first) manner (x.past ++ e ∷ []) (clock_in s) (clock_in t) later (omega (arith, clock_passed known s t gone.ready to))
              (heard_back first s manner (x.past ++ e ∷ []) (clock_in s) later gone.setting (tells.heard manner x.past there));
          written = x.written ++ say x.past e;
          wrote = known.joins before now after x.written (say x.past e) None x.wrote wrote;
          onward = λ policy actions is.
              onward_then policy say (progress actions begun behind first) (progress actions passes x.past s) (progress actions (passes + 1) (x.past ++ e ∷ []) t) x.written (say x.past e)
              (x.onward policy actions is) (passes_onward policy say known actions passes d x.past s t at (within_bound policy is) to);
        }

    pub passing_cut : (after : SinkState) (halt : Halt) → TellsCut s (passed (clock_in s) d) listener now after halt
        → (policy : Policy) (actions : ℕ) → policy.until ≡ until → CutShort policy (saying (model_in first) manner) actions behind first before after halt
    passing_cut after halt cuts policy actions is =
        let t = some_passing known s d gone.ready at in
        let wrote = wrote_back first s manner x.past e now after (Some halt) gone.setting (cuts manner x.past there) in
        let on = passes_onward policy say known actions passes d x.past s t.0 at (within_bound policy is) t.1 in
        let cut = cut_here policy say known (progress actions passes x.past s) (progress actions (passes + 1) (x.past ++ e ∷ []) t.0) (say x.past e) now after halt on
        (some_rest known policy actions t.0 (ready_passed known s t.0 gone.ready t.1)) wrote in
        cut_later policy say known (progress actions begun behind first) (progress actions passes x.past s) x.written before now after halt (x.onward policy actions is) x.wrote cut

module _ (known : Known) (policy : Policy) (manner : Manner) (first : Simulation) (before : SinkState) where
  abbrev say_of : Saying
  say_of = saying (model_in first) manner

  pub going_none : (listener : Listener) → HasHeard (model_in first) manner [] (clock_in first) listener → Going policy manner first before 0 0 first listener before
  going_none listener heard = record {
    past = [];
    heard = heard;
    written = [];
    wrote = known.nothing before;
    onward = onward_none policy say_of (progress 0 0 [] first);
  }

  module _ (actions passes : ℕ) (s : Simulation) (gone : HasGone first passes s) (listener : Listener) (now : SinkState) (x : Going policy manner first before actions passes s listener now) where
    here : HasHeard (model_in s) manner x.past (clock_in s) listener
    here = heard_in first s manner x.past (clock_in s) listener gone.setting x.heard

    pub going_passed : (all : ℕ) (t : Simulation) (later : Listener) (after : SinkState)
        → ((h : Manner) (past : List Event) → HasHeard (model_in s) h past (clock_in s) listener → Passing policy.until h past s now passes all t later after)
        → Going policy manner first before actions all t later after
    going_passed all t later after went =
        let y = went manner x.past here in
        let on = subst (λ (setting : Setting). Onward policy (saying setting.model manner) (progress actions passes x.past s) (progress actions all y.past t) y.written) gone.setting (y.onward policy actions refl) in
        record {
          past = y.past;
          heard = heard_back first s manner y.past (clock_in t) later gone.setting y.heard;
          written = x.written ++ y.written;
          wrote = known.joins before now after x.written y.written None x.wrote y.wrote;
          onward = onward_then policy say_of (progress 0 0 [] first) (progress actions passes x.past s) (progress actions all y.past t) x.written y.written x.onward on;
        }

    going_cut_at : (after : SinkState) (halt : Halt) → CutShort policy say_of actions x.past s now after halt → CutShort policy say_of 0 [] first before after halt
    going_cut_at after halt cut = cut_later policy say_of known (progress 0 0 [] first) (progress actions passes x.past s) x.written before now after halt x.onward x.wrote cut

    pub going_cut : (after : SinkState) (halt : Halt)
        → ((p : Policy) (j : ℕ) (h : Manner) (past : List Event) → p.until ≡ policy.until → HasHeard (model_in s) h past (clock_in s) listener → CutShort p (saying (model_in s) h) j past s now after halt)
        → CutShort policy (saying (model_in first) manner) 0 [] first before after halt
    going_cut after halt cut =
        going_cut_at after halt
        (subst (λ (setting : Setting). CutShort policy (saying setting.model manner) actions x.past s now after halt) gone.setting (cut policy actions manner x.past refl here))

    module _ (n k : ℕ) (at : IsMomentOf s (Actions n)) (decides : decided policy actions (clock_in s) (Actions n) ≡ takes n k) where
      pub going_acted : (t : Simulation) (later : Listener) (after : SinkState) → Chooses k s t → ((a : Action) → IsOffer s k a → Tells s (acted (clock_in s) n k a) listener now later after)
          → Going policy manner first before (actions + 1) passes t later after
      going_acted t later after to tells =
          let y = acts_onward policy say_of known actions passes n k x.past s t at decides to in
          let e = acted (clock_in s) n k y.action in
          let told = tells y.action y.is_offer in
          let wrote = wrote_back first s manner x.past e now after None gone.setting (told.wrote manner x.past here) in
          record {
            past = x.past ++ e ∷ [];
            heard = heard_later (model_in first) manner (x.past ++ e ∷ []) (clock_in s) (clock_in t) later (omega (arith, clock_chosen k s t to))
                (heard_back first s manner (x.past ++ e ∷ []) (clock_in s) later gone.setting (told.heard manner x.past here));
            written = x.written ++ say_of x.past e;
            wrote = known.joins before now after x.written (say_of x.past e) None x.wrote wrote;
            onward = onward_then policy say_of (progress 0 0 [] first) (progress actions passes x.past s) (progress (actions + 1) passes (x.past ++ e ∷ []) t) x.written (say_of x.past e) x.onward y.onward;
          }

      pub acting_cut : k < n → (after : SinkState) (halt : Halt) → ((a : Action) → IsOffer s k a → TellsCut s (acted (clock_in s) n k a) listener now after halt)
          → CutShort policy (saying (model_in first) manner) 0 [] first before after halt
      acting_cut within after halt cuts =
          let t = some_choosing known s n k gone.ready at within in
          let y = acts_onward policy say_of known actions passes n k x.past s t.0 at decides t.1 in
          let e = acted (clock_in s) n k y.action in
          let wrote = wrote_back first s manner x.past e now after (Some halt) gone.setting (cuts y.action y.is_offer manner x.past here) in
          let cut = cut_here policy say_of known (progress actions passes x.past s) (progress (actions + 1) passes (x.past ++ e ∷ []) t.0) (say_of x.past e) now after halt y.onward
          (some_rest known policy (actions + 1) t.0 (ready_chosen known k s t.0 gone.ready t.1)) wrote in
          going_cut_at after halt cut

    pub going_ended : (m : Moment) (played : Played) → played.actions ≡ actions → played.passes ≡ passes → IsMomentOf s m → decided policy actions (clock_in s) m ≡ stops_with (ending_of played.finale) → Ended policy manner first s before now listener played
    going_ended m played same_actions same_passes at decides =
        let y = x.onward.since [] s (ending_of played.finale) (ends_here policy actions s m (ending_of played.finale) gone.ready at decides) in
        let text : said_after say_of [] y.events ≡ x.written = y.text ∙ append-nil x.written in
        let all : y.events ≡ x.past = y.all ∙ append-nil x.past in
        record {
          events = y.events;
          rest_of = y.rest_of;
          wrote = subst (λ (l : List ℕ). Wrote before now l None) (sym text) x.wrote;
          heard = subst (λ (l : List Event). HasHeard (model_in first) manner l (clock_in s) listener) (sym all) x.heard;
          actions = omega (arith, same_actions, y.actions);
          passes = omega (arith, same_passes, y.passes);
        }
