-- Replies, by what was written of them.
use Rattle.std.proofs.Common.{◌≡◌, ◌-◌, ◌<◌, ◌≤◌, ◌+◌, min, ℕ, suc, true, false, List, [], ◌∷◌, ◌++◌, length, take, Option, Some, None, Result, Ok, Err, refl, sym, ap, subst, ◌∙◌, ◌^◌, append_assoc, arith}
use Rattle.std.specs.Prelude.{OnOk}
use Rattle.std.specs.Result.{result_err}
use Rattle.std.proofs.lemmas.List.{append-nil, length-take}
use Rattle.std.proofs.lemmas.Option.{slice_get_within}
use Rattle.pz_io.specs.Outside.{SinkState}
use Rattle.pz_io.specs.declared.writing.Halt.{Halt}
use Rattle.pz_io.specs.declared.writing.Halt.TheVariants.{NoMemory}
use Rattle.pz_io.specs.Writing.{Wrote}
use Rattle.pz_rules.specs.pz_classes_rules.Soundness.{IsSound}
use Rattle.pz_classes_openings.specs.OpeningRules.{Opens}
use Rattle.pz_rules.specs.declared.limits.Edition.TheVariants.{Two}
use Rattle.pz_rules.specs.declared.action.Action.{Action}
use Rattle.pz_rules.specs.declared.moment.Moment.{Moment}
use Rattle.pz_rules.specs.declared.moment.Moment.TheVariants.{Actions, Time, Finished, Deadlock, Faulty, Stopped, Broken}
use Rattle.pz_rules.specs.Settings.{Setting}
use Rattle.pz_trace.specs.Lines.{action_line, time_line}
use Rattle.pz_rules.specs.pz_copy.Parcels.{ParcelView}
use Rattle.pz_rules.specs.pz_bind_rules.Nest.{processes}
use Rattle.pz_rules.specs.Configurations.{Config}
use Rattle.pz_rules.specs.Runs.{Standing}
use Rattle.pz_term_simulator.specs.Shown.{IsShown, CanShow}
use Rattle.pz_term_simulator.specs.Simulations.{Simulation, stands, IsMomentOf, IsOffer, Chooses, Passes, setting_in, model_in, limits_in, clock_in}
use Rattle.pz_term_simulator.specs.Refusals.{NoActions, NoTime}
use Rattle.pz_debug_commands.specs.Commands.{Command, run, until, back, show}
use Rattle.pz_debug_session.specs.declared.step.Step.{Step}
use Rattle.pz_debug_session.specs.declared.step.Step.TheVariants.{Pick, Pass}
use Rattle.pz_debug_session.specs.Steps.{StandsAfter, StandsLow}
use Rattle.pz_debug_replies.specs.Advancing.{is_wanted, Advances, used_up, held, passes, acts, found}
use Rattle.pz_debug_replies.specs.Replies.{offers_at, Replies, runs, runs_until, goes_back, too_far, shows}
use Rattle.pz_debug_replies.specs.Lines.{back_line, refused_back_line, show_line}
use Rattle.pz_debug_replies.specs.Shown.{IsVariable}
use Rattle.pz_debug_replies.specs.Replying.{IsAt, Replied}
use Rattle.pz_debug_replies.specs.devices.Known.{Known}
use Rattle.pz_debug_replies.specs.devices.Advanced.{GoesOn, Ends, Halts, OnTheWay, Advanced}
use Rattle.pz_debug_replies.proofs.Places.{some_passing}
use Rattle.pz_debug_replies.proofs.Existing.{some_advance, acts_first, some_reply}
use Rattle.pz_debug_replies.proofs.Written.{none_of}

opens_in : (s t : Simulation) → setting_in t ≡ setting_in s → ((limits_in s).edition ≡ Two → Opens (model_in s)) → (limits_in t).edition ≡ Two → Opens (model_in t)
opens_in s t same opens = subst (λ (u : Setting). u.limits.edition ≡ Two → Opens u.model) (sym same) opens

-- after one more step

pub at_choice : Known → (xs : List Step) (k : ℕ) (s t : Simulation) → IsAt xs s → setting_in t ≡ setting_in s → Chooses k s t → IsAt (xs ++ Pick k ∷ []) t
at_choice known xs k s t x same chooses = record {
  sound = subst (λ (u : Setting). IsSound u.model) (sym same) x.sound;
  opens = opens_in s t same x.opens;
  place = subst (λ (u : Setting). StandsLow u (xs ++ Pick k ∷ []) t) (sym same) (known.low_chosen (setting_in s) xs k s t x.place chooses);
}

pub at_passing : Known → (xs : List Step) (s t : Simulation) → IsAt xs s → clock_in t < clock_in s + 2 ^ 64 → setting_in t ≡ setting_in s → Passes s t → IsAt (xs ++ Pass ∷ []) t
at_passing known xs s t x short same passes_on = record {
  sound = subst (λ (u : Setting). IsSound u.model) (sym same) x.sound;
  opens = opens_in s t same x.opens;
  place = subst (λ (u : Setting). StandsLow u (xs ++ Pass ∷ []) t) (sym same) (known.low_passed (setting_in s) xs s t x.place passes_on short);
}

pub at_steps : (xs ys : List Step) (t : Simulation) → ys ≡ xs → IsAt xs t → IsAt ys t
at_steps xs ys t same x = subst (λ (l : List Step). IsAt l t) (sym same) x

-- nothing was written, for want of memory
pub nothing_replied : {A : Type 0} → Known → (line : ℕ) (c : Command) (xs : List Step) (s : Simulation) (ys : List Step) (t : Simulation) (at : SinkState) (r : Result A Halt) → IsAt xs s → setting_in t ≡ setting_in s
    → r ≡ Err NoMemory → Replied line c xs s ys t at at r
nothing_replied known line c xs s ys t at r x same is =
    rw is
    (let y = some_reply known (setting_in s) x.sound line xs s x.place.after c in record {
      text = y.text;
      left = y.steps;
      replies = y.replies;
      wrote = none_of known at y.text;
      steps = tt;
      is_at = tt;
      setting = same;
    })

-- a reply that changes nothing
pub told : {A : Type 0} (line : ℕ) (c : Command) (xs : List Step) (s : Simulation) (before now : SinkState) (r : Result A Halt) (text : List ℕ) → IsAt xs s
    → Replies (setting_in s) line xs c text xs → Wrote before now text (result_err r) → Replied line c xs s xs s before now r
told line c xs s before now (Ok done) text x replies wrote = record { text = text; left = xs; replies = replies; wrote = wrote; steps = refl; is_at = x; setting = refl }
told line c xs s before now (Err halt) text x replies wrote = record { text = text; left = xs; replies = replies; wrote = wrote; steps = tt; is_at = tt; setting = refl }

-- moments without offers and without time

pub never_time : (m : Moment) → ((d : ℕ) → m ≡ Time d → ⊥) → NoTime m
never_time (Actions n) never = tt
never_time (Time d) never = never d refl
never_time Finished never = tt
never_time Deadlock never = tt
never_time (Faulty trouble) never = tt
never_time (Stopped trouble) never = tt
never_time Broken never = tt

pub never_actions : (m : Moment) → ((n : ℕ) → m ≡ Actions n → ⊥) → NoActions m
never_actions (Actions n) never = never n refl
never_actions (Time d) never = tt
never_actions Finished never = tt
never_actions Deadlock never = tt
never_actions (Faulty trouble) never = tt
never_actions (Stopped trouble) never = tt
never_actions Broken never = tt

-- a moment that counts offers is one of them
pub counts_some : (m : Moment) (k : ℕ) → k < offers_at m → m ≡ Actions (offers_at m)
counts_some (Actions n) k below = refl
counts_some (Time d) k below = absurd (omega (arith, below))
counts_some Finished k below = absurd (omega (arith, below))
counts_some Deadlock k below = absurd (omega (arith, below))
counts_some (Faulty trouble) k below = absurd (omega (arith, below))
counts_some (Stopped trouble) k below = absurd (omega (arith, below))
counts_some Broken k below = absurd (omega (arith, below))

-- no passing where time passes, and no offer where there are some

pub no_time : Known → (s : Simulation) (d : ℕ) (m : Moment) → IsMomentOf s (Time d) → IsMomentOf s m → NoTime m → ⊥
no_time known s d m now other none = subst NoTime (known.one_moment_of s m (Time d) other now) none

count_is : {n k : ℕ} → Actions n ≡ Actions k → n ≡ k
count_is e = cc

pub no_such : Known → (s : Simulation) (n k offers : ℕ) → IsMomentOf s (Actions n) → k < n → IsMomentOf s (Actions offers) → offers ≤ k → ⊥
no_such known s n k offers now within other few =
    let same : n ≡ offers = count_is (known.one_moment_of s (Actions n) (Actions offers) now other) in
    omega (arith, same, within, few)

-- steps that a session takes by itself

module _ (known : Known) (message : Option (List ℕ)) (xs : List Step) (s : Simulation) (x : IsAt xs s) where
  -- nothing is possible

  pub no_step : (m : Moment) (before : SinkState) → IsMomentOf s m → NoActions m → NoTime m → Ends message xs s xs s before before
  no_step m before at acts_not waits_not = record { piece = []; wrote = known.nothing before; ends = λ n. held n xs s m x.place.after at acts_not waits_not; is_at = x; setting = refl }

  pub no_memory : (t : Simulation) (before : SinkState) (halt : Halt) → halt ≡ NoMemory → setting_in t ≡ setting_in s → (ys : List Step) → Halts message xs s ys t before before halt
  no_memory t before halt is same ys = rw is (record {
    setting = same;
    halts = λ n. let y = some_advance known (setting_in s) x.sound message (suc n) xs s x.place.after in (y.text, y.steps, y.advances, none_of known before y.text);
  })

  module _ (ys : List Step) (t : Simulation) (before now : SinkState) (same : setting_in t ≡ setting_in s) where
    -- time passes

    pub passing_on : (d : ℕ) → IsMomentOf s (Time d) → ys ≡ xs ++ Pass ∷ [] → IsAt ys t → Wrote before now (time_line (clock_in s) d) None → GoesOn message xs s ys t before now
    passing_on d at left y wrote = record {
      piece = time_line (clock_in s) d;
      wrote = wrote;
      onward = λ n text zs more. passes n d xs zs text s x.place.after at (subst (λ (l : List Step). Advances (setting_in s) message n l text zs) left more);
      is_at = y;
      setting = same;
    }

    pub passing_cut : (d : ℕ) (halt : Halt) → IsMomentOf s (Time d) → Wrote before now (time_line (clock_in s) d) (Some halt) → Halts message xs s ys t before now halt
    passing_cut d halt at wrote = record {
      setting = same;
      halts = λ n.
          let u = some_passing known (setting_in s) x.sound xs s d x.place.after at in
          let y = some_advance known (setting_in s) x.sound message n (xs ++ Pass ∷ []) u.0 (known.passed (setting_in s) xs s u.0 x.place.after u.1) in
          (time_line (clock_in s) d ++ y.text, y.steps, passes n d xs y.steps y.text s x.place.after at y.advances, known.halts before now (time_line (clock_in s) d) y.text halt wrote);
    }

    -- the first offer is taken

    module _ (k : ℕ) (a : Action) (at : IsMomentOf s (Actions k)) (offers : IsOffer s 0 a) where
      abbrev shown_line : List ℕ
      shown_line = action_line (model_in s) (clock_in s) k 0 a

      pub acting_on : ys ≡ xs ++ Pick 0 ∷ [] → IsAt ys t → is_wanted message a ≡ false → Wrote before now shown_line None → GoesOn message xs s ys t before now
      acting_on left y wants wrote = record {
        piece = shown_line;
        wrote = wrote;
        onward = λ n text zs more. acts n k a xs zs text s x.place.after at offers wants (subst (λ (l : List Step). Advances (setting_in s) message n l text zs) left more);
        is_at = y;
        setting = same;
      }

      pub acting_last : ys ≡ xs ++ Pick 0 ∷ [] → IsAt ys t → is_wanted message a ≡ true → Wrote before now shown_line None → Ends message xs s ys t before now
      acting_last left y wants wrote = record {
        piece = shown_line;
        wrote = wrote;
        ends = λ n. subst (λ (l : List Step). Advances (setting_in s) message (suc n) xs shown_line l) (sym left) (found n k a xs s x.place.after at offers wants);
        is_at = y;
        setting = same;
      }

      pub acting_cut : (halt : Halt) → Wrote before now shown_line (Some halt) → Halts message xs s ys t before now halt
      acting_cut halt wrote = record {
        setting = same;
        halts = λ n.
            let y = acts_first known (setting_in s) x.sound message n k a xs s x.place.after at offers in
            (shown_line ++ y.rest, y.steps, y.advances, known.halts before now shown_line y.rest halt wrote);
      }

-- so many of them

module _ (known : Known) (message : Option (List ℕ)) (xs : List Step) (s : Simulation) (most : ℕ) (before : SinkState) where
  pub sets_out : IsAt xs s → OnTheWay message xs s xs s before before most 0
  sets_out x = record { written = []; wrote = known.nothing before; onward = λ text zs more. let all : most - 0 ≡ most = omega arith in subst (λ (n : ℕ). Advances (setting_in s) message n xs text zs) all more; is_at = x; setting = refl }

  module _ (taken : ℕ) (within : taken < most) (ys : List Step) (t : Simulation) (mid : SinkState) (way : OnTheWay message xs s ys t before mid most taken) where
    left : most - taken ≡ suc (most - (taken + 1))
    left = omega (arith, within)

    moved : (n : ℕ) (text : List ℕ) (zs : List Step) → Advances (setting_in t) message n ys text zs → Advances (setting_in s) message n ys text zs
    moved n text zs more = subst (λ (u : Setting). Advances u message n ys text zs) way.setting more

    pub further : (vs : List Step) (u : Simulation) (now : SinkState) → GoesOn message ys t vs u mid now → OnTheWay message xs s vs u before now most (taken + 1)
    further vs u now y = record {
      written = way.written ++ y.piece;
      wrote = known.joins before mid now way.written y.piece None way.wrote y.wrote;
      onward = λ text zs more.
          let here = y.onward (most - (taken + 1)) text zs (subst (λ (v : Setting). Advances v message (most - (taken + 1)) vs text zs) (sym way.setting) more) in
          subst (λ (l : List ℕ). Advances (setting_in s) message most xs l zs) (sym (append_assoc way.written y.piece text))
          (way.onward (y.piece ++ text) zs (subst (λ (n : ℕ). Advances (setting_in s) message n ys (y.piece ++ text) zs) (sym left) (moved (suc (most - (taken + 1))) (y.piece ++ text) zs here)));
      is_at = y.is_at;
      setting = y.setting ∙ way.setting;
    }

    pub ended : {A : Type 0} (vs : List Step) (u : Simulation) (now : SinkState) (r : Result A Halt) (done : A) → r ≡ Ok done → Ends message ys t vs u mid now → Advanced message xs s vs u before now most r
    ended vs u now r done is y = rw is (record {
      text = way.written ++ y.piece;
      left = vs;
      advances = way.onward y.piece vs (subst (λ (n : ℕ). Advances (setting_in s) message n ys y.piece vs) (sym left) (moved (suc (most - (taken + 1))) y.piece vs (y.ends (most - (taken + 1)))));
      wrote = known.joins before mid now way.written y.piece None way.wrote y.wrote;
      steps = refl;
      is_at = y.is_at;
      setting = y.setting ∙ way.setting;
    })

    pub cut : {A : Type 0} (vs : List Step) (u : Simulation) (now : SinkState) (r : Result A Halt) (halt : Halt) → r ≡ Err halt → Halts message ys t vs u mid now halt → Advanced message xs s vs u before now most r
    cut vs u now r halt is y = rw is
        (let z = y.halts (most - (taken + 1)) in record {
          text = way.written ++ z.0;
          left = z.1;
          advances = way.onward z.0 z.1 (subst (λ (n : ℕ). Advances (setting_in s) message n ys z.0 z.1) (sym left) (moved (suc (most - (taken + 1))) z.0 z.1 z.2));
          wrote = known.joins before mid now way.written z.0 (Some halt) way.wrote z.3;
          steps = tt;
          is_at = tt;
          setting = y.setting ∙ way.setting;
        })

  pub all_taken : {A : Type 0} (taken : ℕ) → most ≤ taken → (ys : List Step) (t : Simulation) (now : SinkState) (r : Result A Halt) (done : A) → r ≡ Ok done → OnTheWay message xs s ys t before now most taken
      → Advanced message xs s ys t before now most r
  all_taken taken over ys t now r done is way = rw is (record {
    text = way.written;
    left = ys;
    advances =
        let none : most - taken ≡ 0 = omega (arith, over) in
        subst (λ (l : List ℕ). Advances (setting_in s) message most xs l ys) (append-nil way.written)
        (way.onward [] ys (subst (λ (n : ℕ). Advances (setting_in s) message n ys [] ys) (sym none) (used_up ys)));
    wrote = way.wrote;
    steps = refl;
    is_at = way.is_at;
    setting = way.setting;
  })

-- a step was taken
pub stepped : {A : Type 0} (line : ℕ) (c : Command) (xs : List Step) (s : Simulation) (ys : List Step) (t : Simulation) (before now : SinkState) (r : Result A Halt) (text : List ℕ) (zs : List Step)
    → Replies (setting_in s) line xs c text zs → Wrote before now text (result_err r) → OnOk r (ys ≡ zs) → OnOk r (IsAt ys t) → setting_in t ≡ setting_in s → Replied line c xs s ys t before now r
stepped line c xs s ys t before now r text zs replies wrote left at same = record { text = text; left = zs; replies = replies; wrote = wrote; steps = left; is_at = at; setting = same }

-- going back

pub at_back : (xs : List Step) (s : Simulation) (ys : List Step) (t : Simulation) → IsAt xs s → StandsLow (setting_in s) ys t → setting_in t ≡ setting_in s → IsAt ys t
at_back xs s ys t x at same = record { sound = subst (λ (u : Setting). IsSound u.model) (sym same) x.sound; opens = opens_in s t same x.opens; place = subst (λ (u : Setting). StandsLow u ys t) (sym same) at }

pub went_back : {A : Type 0} (line n : ℕ) (xs : List Step) (s : Simulation) (ys : List Step) (t : Simulation) (before now : SinkState) (r : Result A Halt) → IsAt xs s → n ≤ length xs → ys ≡ take (length xs - n) xs
    → StandsLow (setting_in s) ys t → setting_in t ≡ setting_in s → Wrote before now (back_line (length ys) (clock_in t)) (result_err r) → Replied line (back n) xs s ys t before now r
went_back {A} line n xs s ys t before now r x within left at same wrote =
    let counted : length ys ≡ length xs - n = ap (λ (l : List Step). length l) left ∙ length-take (length xs - n) xs ∙ least in
    record {
      text = back_line (length xs - n) (clock_in t);
      left = take (length xs - n) xs;
      replies = goes_back n xs t within (subst (λ (l : List Step). StandsAfter (setting_in s) l t) left at.after);
      wrote = subst (λ (k : ℕ). Wrote before now (back_line k (clock_in t)) (result_err r)) counted wrote;
      steps = by_result r left;
      is_at = by_result r (at_back xs s ys t x at same);
      setting = same;
    }
  where
    least : min (length xs - n) (length xs) ≡ length xs - n
    least = omega arith

    by_result : {B : Type 0} → (q : Result A Halt) → B → OnOk q B
    by_result (Ok done) b = b
    by_result (Err halt) b = tt

pub too_far_back : {A : Type 0} (line n k : ℕ) (xs : List Step) (s : Simulation) (before now : SinkState) (r : Result A Halt) → IsAt xs s → k ≡ length xs → k < n → Wrote before now (refused_back_line n k) (result_err r)
    → Replied line (back n) xs s xs s before now r
too_far_back line n k xs s before now r x is past wrote =
    told line (back n) xs s before now r (refused_back_line n (length xs)) x (too_far n xs (subst (λ (j : ℕ). j < n) is past)) (subst (λ (j : ℕ). Wrote before now (refused_back_line n j) (result_err r)) is wrote)

-- a row of steps is the reply to `run` and to `until`

pub run_replied : {A : Type 0} (line n : ℕ) (xs : List Step) (s : Simulation) (ys : List Step) (t : Simulation) (before now : SinkState) (r : Result A Halt) → Advanced None xs s ys t before now n r → Replied line (run n) xs s ys t before now r
run_replied line n xs s ys t before now r x =
    record { text = x.text; left = x.left; replies = runs n xs x.left x.text x.advances; wrote = x.wrote; steps = x.steps; is_at = x.is_at; setting = x.setting }

pub until_replied : {A : Type 0} (line n : ℕ) (message : List ℕ) (xs : List Step) (s : Simulation) (ys : List Step) (t : Simulation) (before now : SinkState) (r : Result A Halt) → Advanced (Some message) xs s ys t before now n r
    → Replied line (until message n) xs s ys t before now r
until_replied line n message xs s ys t before now r x =
    record { text = x.text; left = x.left; replies = runs_until message n xs x.left x.text x.advances; wrote = x.wrote; steps = x.steps; is_at = x.is_at; setting = x.setting }

-- what a variable holds

shown_stands : (setting : Setting) (c : Config) (standing : Standing) (word name : List ℕ) (i v : ℕ) → IsVariable setting.model word name i v → CanShow (stands setting c standing) i
shown_stands setting c standing word name i v is = slice_get_within (processes setting.model) i is.place is.is_process

pub can_show : Known → (xs : List Step) (s : Simulation) (word name : List ℕ) (i v : ℕ) → IsAt xs s → IsVariable (model_in s) word name i v → CanShow s i
can_show known xs s word name i v x is =
    subst (λ (t : Simulation). CanShow t i) (sym x.place.after.is_there) (shown_stands (setting_in s) x.place.after.end x.place.after.standing word name i v is)

pub value_told : {A : Type 0} → Known → (line : ℕ) (xs : List Step) (s : Simulation) (word name : List ℕ) (i v : ℕ) (parcel : ParcelView) (before now : SinkState) (r : Result A Halt) → IsAt xs s → IsVariable (model_in s) word name i v → IsShown s i v parcel
    → Wrote before now (show_line (model_in s) word name parcel) (result_err r) → Replied line (show word name) xs s xs s before now r
value_told known line xs s word name i v parcel before now r x is shown wrote =
    let place = x.place.after in
    told line (show word name) xs s before now r (show_line (model_in s) word name parcel) x
    (shows xs place.end place.standing word name i v parcel (subst (λ (t : Simulation). StandsAfter (setting_in s) xs t) place.is_there place) is (subst (λ (t : Simulation). IsShown t i v parcel) place.is_there shown)) wrote
