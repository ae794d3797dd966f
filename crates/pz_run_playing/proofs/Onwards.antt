-- What is told and counted of a run, step by step, and what it still comes to.
use Rattle.std.proofs.Common.{◌≡◌, ◌+◌, ℕ, false, List, [], ◌∷◌, ◌++◌, Some, None, Ok, Err, refl, sym, subst, ap, ◌∙◌, arith, append_assoc, add-one}
use Rattle.std.proofs.lemmas.Bool.{cond-false}
use Rattle.pz_io.specs.Outside.{SinkState}
use Rattle.pz_io.specs.declared.writing.Halt.{Halt}
use Rattle.pz_io.specs.Writing.{Wrote}
use Rattle.pz_rules.specs.pz_offer.declared.trouble.Trouble.{Trouble}
use Rattle.pz_rules.specs.declared.action.Action.{Action}
use Rattle.pz_rules.specs.declared.moment.Moment.{Moment}
use Rattle.pz_rules.specs.declared.moment.Moment.TheVariants.{Actions, Time}
use Rattle.pz_rules.specs.Settings.{Setting}
use Rattle.pz_rules.specs.Configurations.{Config}
use Rattle.pz_rules.specs.Moments.{IsMoment}
use Rattle.pz_rules.specs.Steps.{Next, PassesTo}
use Rattle.pz_rules.specs.Runs as runs
use Rattle.pz_rules.specs.Runs.{Event, acted, passed, whole, stopped, IsChoice, Ending, troubled, halted}
use Rattle.pz_rules.specs.ChosenRuns as chosen
use Rattle.pz_rules.specs.ChosenRuns.{Policy, stops_with, takes, waits, is_beyond, decided, IsChosenRun}
use Rattle.pz_term_simulator.specs.Simulations as simulations
use Rattle.pz_term_simulator.specs.Simulations.{Simulation, stands, broken, IsMomentOf, Chooses, Passes}
use Rattle.pz_run_playing.specs.devices.Known.{Known}
use Rattle.pz_term_simulator.specs.Simulations.{clock_in, IsOffer}
use Rattle.pz_run_playing.specs.devices.Rests.{IsReady, RestOf}
use Rattle.pz_run_playing.specs.Sayings.{Saying, said_after}
use Rattle.pz_run_playing.specs.devices.Going.{Progress, progress, Since, Onward, CutShort}
use Rattle.pz_run_playing.proofs.Simulated.{time_is, count_is}
use Rattle.pz_run_playing.proofs.Rests.{HasRest}

module _ (policy : Policy) (say : Saying) where
  -- nothing happens
  pub onward_none : (here : Progress) → Onward policy say here here []
  onward_none here = record { since = λ rest to ending rest_of. record { events = rest; rest_of = rest_of; text = refl; all = refl; actions = refl; passes = refl } }

  -- something, and then more
  pub onward_then : (first mid here : Progress) (written more : List ℕ) → Onward policy say first mid written → Onward policy say mid here more → Onward policy say first here (written ++ more)
  onward_then first mid here written more one other = record { since = joined }
    where
      joined : (rest : List Event) (to : Simulation) (ending : Ending) → RestOf policy here.actions here.at rest to ending → Since policy say first here (written ++ more) rest to ending
      joined rest to ending rest_of =
          let x = other.since rest to ending rest_of in
          let y = one.since x.events to ending x.rest_of in
          record {
            events = y.events;
            rest_of = y.rest_of;
            text = y.text ∙ ap (λ (l : List ℕ). written ++ l) x.text ∙ sym (append_assoc written more (said_after say here.past rest));
            all = y.all ∙ x.all;
            actions = y.actions ∙ x.actions;
            passes = y.passes ∙ x.passes;
          }

  waited : (j p d : ℕ) (past : List Event) (setting : Setting) (c next : Config) → IsMoment setting c (Time d) → is_beyond policy.until c.clock d ≡ false → PassesTo setting c d next
      → (rest : List Event) (to : Simulation) (ending : Ending) → RestOf policy j (stands setting next whole) rest to ending
      → Since policy say (progress j p past (stands setting c whole)) (progress j (p + 1) (past ++ passed c.clock d ∷ []) (stands setting next whole)) (say past (passed c.clock d)) rest to ending
  waited j p d past setting c next is within passes rest to ending r = record {
    events = passed c.clock d ∷ rest;
    rest_of = record {
      end = r.end;
      standing = r.standing;
      is_end = r.is_end;
      run = chosen.passes j c next r.end (Time d) d rest ending is (cond-false (is_beyond policy.until c.clock d) (stops_with halted) (waits d) within) passes r.run;
      reaches = runs.passes c next r.end d rest r.standing is passes r.reaches;
      ends_as = r.ends_as;
    };
    text = refl;
    all = sym (append_assoc past (passed c.clock d ∷ []) rest);
    actions = refl;
    passes = omega arith;
  }

  -- time passes
  pub passes_onward : Known → (j p d : ℕ) (past : List Event) (s t : Simulation) → IsMomentOf s (Time d) → is_beyond policy.until (clock_in s) d ≡ false → Passes s t
      → Onward policy say (progress j p past s) (progress j (p + 1) (past ++ passed (clock_in s) d ∷ []) t) (say past (passed (clock_in s) d))
  passes_onward known j p d past _ _ now within (simulations.passes setting c next e is to) =
      let here : IsMoment setting c (Time d) = now in
      let same : e ≡ d = time_is (known.one_moment setting c (Time e) (Time d) is here) in
      record { since = waited j p d past setting c next here within (subst (λ (f : ℕ). PassesTo setting c f next) same to) }

  -- an action is chosen
  pub record Acting (j p n k : ℕ) (past : List Event) (s t : Simulation) : Type 0 where
    pub action : Action
    pub is_offer : IsOffer s k action
    pub onward : Onward policy say (progress j p past s) (progress (j + 1) p (past ++ acted (clock_in s) n k action ∷ []) t) (say past (acted (clock_in s) n k action))

  acted_on : (j p n k : ℕ) (past : List Event) (setting : Setting) (c next : Config) (a : Action) → IsMoment setting c (Actions n) → decided policy j c.clock (Actions n) ≡ takes n k → IsChoice setting c n k a → Next setting c a (Ok next)
      → (rest : List Event) (to : Simulation) (ending : Ending) → RestOf policy (j + 1) (stands setting next whole) rest to ending
      → Since policy say (progress j p past (stands setting c whole)) (progress (j + 1) p (past ++ acted c.clock n k a ∷ []) (stands setting next whole)) (say past (acted c.clock n k a)) rest to ending
  acted_on j p n k past setting c next a is decides choice leads rest to ending r = record {
    events = acted c.clock n k a ∷ rest;
    rest_of = record {
      end = r.end;
      standing = r.standing;
      is_end = r.is_end;
      run = chosen.acts j c next r.end (Actions n) n k a rest ending is decides choice leads (subst (λ (i : ℕ). IsChosenRun setting policy i next rest r.end ending) (add-one j) r.run);
      reaches = runs.acts c next r.end n k a rest r.standing is choice leads r.reaches;
      ends_as = r.ends_as;
    };
    text = refl;
    all = sym (append_assoc past (acted c.clock n k a ∷ []) rest);
    actions = omega arith;
    passes = refl;
  }

  stopped_in : (j p n k : ℕ) (past : List Event) (setting : Setting) (c : Config) (a : Action) (trouble : Trouble) → IsMoment setting c (Actions n) → decided policy j c.clock (Actions n) ≡ takes n k → IsChoice setting c n k a → Next setting c a (Err trouble)
      → (rest : List Event) (to : Simulation) (ending : Ending) → RestOf policy (j + 1) (stands setting c (stopped trouble)) rest to ending
      → Since policy say (progress j p past (stands setting c whole)) (progress (j + 1) p (past ++ acted c.clock n k a ∷ []) (stands setting c (stopped trouble))) (say past (acted c.clock n k a)) rest to ending
  stopped_in j p n k past setting c a trouble is decides choice fails rest to ending r = record {
    events = acted c.clock n k a ∷ rest;
    rest_of = record {
      end = c;
      standing = stopped trouble;
      is_end = r.stays;
      run = subst (λ (x : Ending). IsChosenRun setting policy j c (acted c.clock n k a ∷ rest) c x) (sym r.is_ending)
          (subst (λ (es : List Event). IsChosenRun setting policy j c (acted c.clock n k a ∷ es) c (troubled trouble)) (sym r.none) (chosen.stops j c (Actions n) n k a trouble is decides choice fails));
      reaches = subst (λ (es : List Event). runs.Reaches setting c (acted c.clock n k a ∷ es) c (stopped trouble)) (sym r.none) (runs.stops c n k a trouble is choice fails);
      ends_as = r.is_ending;
    };
    text = refl;
    all = sym (append_assoc past (acted c.clock n k a ∷ []) rest);
    actions = omega arith;
    passes = refl;
  }

  as_counted : (setting : Setting) (c : Config) (i n k : ℕ) (a : Action) → i ≡ n → IsChoice setting c i k a → IsChoice setting c n k a
  as_counted setting c i n k a same choice = subst (λ (x : ℕ). IsChoice setting c x k a) same choice

  pub acts_onward : Known → (j p n k : ℕ) (past : List Event) (s t : Simulation) → IsMomentOf s (Actions n) → decided policy j (clock_in s) (Actions n) ≡ takes n k → Chooses k s t → Acting j p n k past s t
  acts_onward known j p n k past _ _ now decides (simulations.acts setting c next i a is choice to) =
      let here : IsMoment setting c (Actions n) = now in
      let same : i ≡ n = count_is (known.one_moment setting c (Actions i) (Actions n) is here) in
      record {
        action = a;
        is_offer = record { offers = choice.offers; all = choice.all; chosen = choice.chosen };
        onward = record { since = acted_on j p n k past setting c next a here decides (as_counted setting c i n k a same choice) to };
      }
  acts_onward known j p n k past _ _ now decides (simulations.stops setting c i a trouble is choice to) =
      let here : IsMoment setting c (Actions n) = now in
      let same : i ≡ n = count_is (known.one_moment setting c (Actions i) (Actions n) is here) in
      record {
        action = a;
        is_offer = record { offers = choice.offers; all = choice.all; chosen = choice.chosen };
        onward = record { since = stopped_in j p n k past setting c a trouble here decides (as_counted setting c i n k a same choice) to };
      }

  -- something halts in what comes next
  pub cut_here : Known → (first here : Progress) (written : List ℕ) (before now : SinkState) (halt : Halt) → Onward policy say first here written → HasRest policy here.actions here.at
      → Wrote before now written (Some halt) → CutShort policy say first.actions first.past first.at before now halt
  cut_here known first here written before now halt onward r wrote =
      let x = onward.since r.events r.to r.ending r.rest_of in
      record {
        events = x.events;
        to = r.to;
        ending = r.ending;
        rest_of = x.rest_of;
        wrote = subst (λ (text : List ℕ). Wrote before now text (Some halt)) (sym x.text) (known.halts before now written (said_after say here.past r.events) halt wrote);
      }

  -- or later
  pub cut_later : Known → (first here : Progress) (written : List ℕ) (before mid now : SinkState) (halt : Halt) → Onward policy say first here written → Wrote before mid written None
      → CutShort policy say here.actions here.past here.at mid now halt → CutShort policy say first.actions first.past first.at before now halt
  cut_later known first here written before mid now halt onward wrote cut =
      let x = onward.since cut.events cut.to cut.ending cut.rest_of in
      record {
        events = x.events;
        to = cut.to;
        ending = cut.ending;
        rest_of = x.rest_of;
        wrote = subst (λ (text : List ℕ). Wrote before now text (Some halt)) (sym x.text) (known.joins before mid now written (said_after say here.past cut.events) (Some halt) wrote cut.wrote);
      }

-- the run ends where the simulator stands
ends_by : (policy : Policy) (j : ℕ) (s : Simulation) (m : Moment) (ending : Ending) → IsReady s → IsMomentOf s m → decided policy j (clock_in s) m ≡ stops_with ending → RestOf policy j s [] s ending
ends_by policy j (stands setting c whole) m ending ready is decides = record {
  end = c;
  standing = whole;
  is_end = refl;
  run = chosen.ends j c m ending is decides;
  reaches = runs.here c;
  ends_as = tt;
}
ends_by policy j (stands setting c (stopped trouble)) m ending ready is decides =
    let stops : stops_with (troubled trouble) ≡ stops_with ending = ap (decided policy j c.clock) (sym is) ∙ decides in
    record { none = refl; stays = refl; is_ending = sym (stops_is stops) }
  where
    stops_is : {x y : Ending} → stops_with x ≡ stops_with y → x ≡ y
    stops_is h = cc
ends_by policy j (broken setting) m ending ready is decides = absurd ready

pub ends_here : (policy : Policy) (j : ℕ) (s : Simulation) (m : Moment) (ending : Ending) → IsReady s → IsMomentOf s m → decided policy j (clock_in s) m ≡ stops_with ending → RestOf policy j s [] s ending
ends_here policy j s m ending ready now decides = ends_by policy j s m ending ready now decides
