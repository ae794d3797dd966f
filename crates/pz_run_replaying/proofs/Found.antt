-- What stands first in what is left of a trace, at each moment.
use Rattle.std.proofs.Common.{◌≡◌, ◌≢◌, ◌<◌, ◌^◌, sym, subst, ap, ◌∙◌, ℕ, List, ◌++◌, length, Some, None, Vec, codes, arith, length-append}
use Rattle.std.specs.declared.alloc.Global.{Global}
use Rattle.std.specs.Fmt.{decimal}
use Rattle.pz_rules.specs.pz_syntax.Classes.{ModelTree}
use Rattle.pz_rules.specs.pz_offer.declared.trouble.Trouble.{Trouble as TheTrouble}
use Rattle.pz_rules.specs.declared.action.Action.{Action}
use Rattle.pz_rules.specs.declared.moment.Moment.{Moment}
use Rattle.pz_rules.specs.declared.moment.Moment.TheVariants.{Actions, Time, Finished, Faulty, Stopped}
use Rattle.pz_rules.specs.declared.moment.Moment.TheVariants as moments
use Rattle.pz_rules.specs.Settings.{Setting}
use Rattle.pz_rules.specs.Configurations.{Config}
use Rattle.pz_rules.specs.Runs.{Standing, whole, stopped, IsChoice}
use Rattle.pz_term_simulator.specs.Laws.{OneMomentOf}
use Rattle.pz_trace.specs.declared.ending.Ending.{Ending}
use Rattle.pz_trace.specs.declared.ending.Ending.TheVariants.{Stop}
use Rattle.pz_trace.specs.declared.headings.Heading.TheVariants.{Step}
use Rattle.pz_trace.specs.Headings.{IsHeading}
use Rattle.pz_trace.specs.Lines.{newline, time_line, action_line, end_words, end_line}
use Rattle.pz_trace.specs.Labels.{label}
use Rattle.pz_trace.specs.Laws.{IsLine}
use Rattle.pz_term_simulator.specs.Simulations.{Simulation, stands, broken, IsMomentOf}
use Rattle.pz_run_replaying.specs.declared.judging.Move.{Move}
use Rattle.pz_run_replaying.specs.declared.judging.Move.TheVariants.{Act, Wait}
use Rattle.pz_run_replaying.specs.declared.judging.Judged.TheVariants as judged
use Rattle.pz_run_replaying.specs.Stages.{Stage, underway, concluded}
use Rattle.pz_run_replaying.specs.Expected.{NamesOffer, Expects, the_offer, no_offer, the_passing, the_end}
use Rattle.pz_run_replaying.specs.devices.Known.{Known}
use Rattle.pz_run_replaying.specs.devices.Fronts.{StartsWith}
use Rattle.pz_term_simulator.specs.Simulations.{model_in, clock_in, IsOffer}
use Rattle.pz_run_replaying.specs.devices.Readiness.{IsReady, IsEndAt, IsLast, HasFewOffers}
use Rattle.pz_run_replaying.specs.devices.Taking.{Differs}
use Rattle.pz_run_replaying.specs.devices.Judging.{IsMoveLine, Judges, goes, ends, differs}
use Rattle.pz_run_replaying.proofs.Moments.{MomentAt, one_end, may_end}
use Rattle.pz_run_replaying.proofs.Takings.{TakenAt, an_offer, a_passing, an_end, taken_at, offer_within, one_offer}
use Rattle.pz_run_replaying.proofs.Expectings.{one_named}
use Rattle.pz_run_replaying.proofs.Simulated.{count_is, choice_of, offer_there, ends_in}

actions_stopped : {n : ℕ} {t : TheTrouble} → Actions n ≡ Stopped t → ⊥
actions_stopped h = cc

time_stopped : {d : ℕ} {t : TheTrouble} → Time d ≡ Stopped t → ⊥
time_stopped h = cc

no_conclusion : {c d : Config} {x y : Standing} {e : Ending} → underway c x ≡ concluded d y e → ⊥
no_conclusion h = cc

-- the line of the rules, made by the code
abbrev Made : Vec ℕ Global → List ℕ → Type 0
Made made line = made.items ≡ line

module _ (known : Known) (setting : Setting) (c : Config) (rest : List ℕ) where
  -- no line fits that may be taken
  differs_by : (standing : Standing) (m : Moment) → MomentAt setting c standing m → ((line left : List ℕ) (t : Stage) → IsLine line → rest ≡ line ++ left → TakenAt setting c standing line t m → ⊥)
      → Differs setting (underway c standing) rest
  differs_by standing m at none = record {
    untaken = λ line left t is_line is takes. none line left t is_line is (taken_at known setting c standing line t m at takes);
    unfinished = λ d x e same nothing. no_conclusion same;
  }

  -- where a run ends by itself
  end_alone : (standing : Standing) (m : Moment) (e : Ending) (line : List ℕ) (t : Stage) → IsEndAt m e → e ≢ Stop → TakenAt setting c standing line t m → line ≡ end_line setting.model c.clock e
  end_alone standing _ e line t is no_stop (an_offer n k a next left choice after of to) = absurd (no_stop is)
  end_alone standing _ e line t is no_stop (a_passing d next passes of to) = absurd (no_stop is)
  end_alone standing _ e line t is no_stop (an_end m f so of to) = of ∙ ap (λ (x : Ending). end_line setting.model c.clock x) (one_end m f e so is)

  -- where time passes
  passing_none : (d : ℕ) → ((left : List ℕ) → rest ≡ end_line setting.model c.clock Stop ++ left → ⊥) → ((left : List ℕ) → rest ≡ time_line c.clock d ++ left → ⊥)
      → (line left : List ℕ) (t : Stage) → rest ≡ line ++ left → TakenAt setting c whole line t (Time d) → ⊥
  passing_none d no_stop no_time line left t is (a_passing _ next passes of to) = no_time left (is ∙ ap (λ (l : List ℕ). l ++ left) of)
  passing_none d no_stop no_time line left t is (an_end _ e so of to) = no_stop left (is ∙ ap (λ (l : List ℕ). l ++ left) (of ∙ ap (λ (x : Ending). end_line setting.model c.clock x) so))

  module _ (n : ℕ) (clock_fits : c.clock < 2 ^ 128) (n_fits : n < 2 ^ 64) (no_stop : (left : List ℕ) → rest ≡ end_line setting.model c.clock Stop ++ left → ⊥) where
    -- the line of an offer names it
    offer_named : (line left : List ℕ) (k : ℕ) (a : Action) → IsLine line → rest ≡ line ++ left → IsChoice setting c n k a → line ≡ action_line setting.model c.clock n k a → NamesOffer rest k
    offer_named line left k a is_line is choice of = record {
      line = line;
      is_line = is_line;
      left = left;
      begins = is;
      clock = c.clock;
      n = n;
      heading = subst (λ (l : List ℕ). IsHeading l (Step c.clock n k)) (sym of) (known.headings setting.model c.clock n k a clock_fits n_fits (omega (arith, n_fits, offer_within setting c n k a choice)));
    }

    -- where no offer is named
    acting_none : ((k : ℕ) → k < n → NamesOffer rest k → ⊥) → (line left : List ℕ) (t : Stage) → IsLine line → rest ≡ line ++ left → TakenAt setting c whole line t (Actions n) → ⊥
    acting_none none line left t is_line is (an_offer _ k a next after_it choice after of to) = none k (offer_within setting c n k a choice) (offer_named line left k a is_line is choice of)
    acting_none none line left t is_line is (an_end _ e so of to) = no_stop left (is ∙ ap (λ (l : List ℕ). l ++ left) (of ∙ ap (λ (x : Ending). end_line setting.model c.clock x) so))

    -- where the line of the one that is named does not fit
    acting_other : (k : ℕ) (a : Action) → NamesOffer rest k → IsChoice setting c n k a → ((left : List ℕ) → rest ≡ action_line setting.model c.clock n k a ++ left → ⊥)
        → (line left : List ℕ) (t : Stage) → IsLine line → rest ≡ line ++ left → TakenAt setting c whole line t (Actions n) → ⊥
    acting_other k a named choice unfit line left t is_line is (an_offer _ l b next after_it choice' after of to) =
        let number : l ≡ k = one_named known rest l k (offer_named line left l b is_line is choice' of) named in
        let action : b ≡ a = one_offer known setting c n n l k b a number choice' choice in
        unfit left (is ∙ ap (λ (x : List ℕ). x ++ left) (of ∙ ap (λ (i : ℕ). action_line setting.model c.clock n i b) number ∙ ap (λ (z : Action). action_line setting.model c.clock n k z) action))
    acting_other k a named choice unfit line left t is_line is (an_end _ e so of to) = no_stop left (is ∙ ap (λ (l : List ℕ). l ++ left) (of ∙ ap (λ (x : Ending). end_line setting.model c.clock x) so))

-- At an end

pub judges_end : (s : Simulation) (rest line : List ℕ) (e : Ending) (len : ℕ) → IsReady s → IsLast s e → line ≡ end_line (model_in s) (clock_in s) e → StartsWith rest line len → Judges s rest (judged.Ends e len)
judges_end s rest line e len ready last of begins =
    ends e len (ends_in s last.moment e ready last.is_moment last.ends) (subst (λ (l : List ℕ). StartsWith rest l len) of begins)

pub judges_stop : (s : Simulation) (m : Moment) (rest : List ℕ) (len : ℕ) → IsReady s → IsMomentOf s m → IsEndAt m Stop → StartsWith rest (end_line (model_in s) (clock_in s) Stop) len → Judges s rest (judged.Ends Stop len)
judges_stop s m rest len ready now is begins = ends Stop len (ends_in s m Stop ready now is) begins

pub differs_end : Known → (s : Simulation) (rest : List ℕ) (e : Ending) (made : Vec ℕ Global) → IsReady s → IsLast s e → Made made (end_line (model_in s) (clock_in s) e)
    → ((left : List ℕ) → rest ≡ end_line (model_in s) (clock_in s) e ++ left → ⊥) → Judges s rest (judged.Differs (Some made))
differs_end known (stands setting c standing) rest e made ready last of none =
    let at = last.is_moment in
    differs (Some made)
    (differs_by known setting c rest standing last.moment at
    (λ line left t is_line is taken. none left (is ∙ ap (λ (l : List ℕ). l ++ left) (end_alone known setting c rest standing last.moment e line t last.ends last.no_stop taken))))
    (subst (λ (l : List ℕ). Expects setting rest (underway c standing) (Some l)) (sym of) (the_end c standing e (may_end setting c standing last.moment e at last.ends) last.no_stop))
differs_end known (broken setting) rest e made ready last of none = absurd ready

-- Where time passes

pub judges_passing : (s : Simulation) (rest line : List ℕ) (d len : ℕ) → IsMomentOf s (Time d) → line ≡ time_line (clock_in s) d → StartsWith rest line len → Judges s rest (judged.Goes (Wait d) len)
judges_passing s rest line d len now of begins = goes (Wait d) len line now of begins

pub differs_passing : Known → (s : Simulation) (rest : List ℕ) (d : ℕ) (made : Vec ℕ Global) → IsReady s → IsMomentOf s (Time d) → Made made (time_line (clock_in s) d)
    → ((left : List ℕ) → rest ≡ end_line (model_in s) (clock_in s) Stop ++ left → ⊥) → ((left : List ℕ) → rest ≡ time_line (clock_in s) d ++ left → ⊥) → Judges s rest (judged.Differs (Some made))
differs_passing known (stands setting c whole) rest d made ready now of no_stop none =
    differs (Some made)
    (differs_by known setting c rest whole (Time d) now (λ line left t is_line is taken. passing_none known setting c rest d no_stop none line left t is taken))
    (subst (λ (l : List ℕ). Expects setting rest (underway c whole) (Some l)) (sym of) (the_passing c d now))
differs_passing known (stands setting c (stopped u)) rest d made ready now of no_stop none = absurd (time_stopped now)
differs_passing known (broken setting) rest d made ready now of no_stop none = absurd ready

-- Where there are offers

pub judges_offer : Known → (s : Simulation) (rest line : List ℕ) (n k len : ℕ) → IsMomentOf s (Actions n) → k < n → ((a : Action) → IsOffer s k a → line ≡ action_line (model_in s) (clock_in s) n k a) → StartsWith rest line len
    → Judges s rest (judged.Goes (Act n k) len)
judges_offer known s rest line n k len now within of begins =
    let offer = offer_there known s n k now within in
    goes (Act n k) len line (now, within) (offer.0, offer.1, of offer.0 offer.1) begins

pub differs_none : Known → (s : Simulation) (rest : List ℕ) (n clock : ℕ) → IsReady s → IsMomentOf s (Actions n) → clock ≡ clock_in s → clock < 2 ^ 128 → n < 2 ^ 64
    → ((left : List ℕ) → rest ≡ end_line (model_in s) (clock_in s) Stop ++ left → ⊥) → ((k : ℕ) → k < n → NamesOffer rest k → ⊥) → Judges s rest (judged.Differs None)
differs_none known (stands setting c whole) rest n clock ready now is_clock clock_fits n_fits no_stop none =
    differs None
    (differs_by known setting c rest whole (Actions n) now (acting_none known setting c rest n (subst (λ (i : ℕ). i < 2 ^ 128) is_clock clock_fits) n_fits no_stop none))
    (no_offer c n now none)
differs_none known (stands setting c (stopped u)) rest n clock ready now is_clock clock_fits n_fits no_stop none = absurd (actions_stopped now)
differs_none known (broken setting) rest n clock ready now is_clock clock_fits n_fits no_stop none = absurd ready

pub differs_offer : Known → (s : Simulation) (rest : List ℕ) (n k clock : ℕ) (made : Vec ℕ Global) → IsReady s → IsMomentOf s (Actions n) → clock ≡ clock_in s → clock < 2 ^ 128 → n < 2 ^ 64 → k < n
    → ((left : List ℕ) → rest ≡ end_line (model_in s) (clock_in s) Stop ++ left → ⊥) → NamesOffer rest k → ((a : Action) → IsOffer s k a → Made made (action_line (model_in s) (clock_in s) n k a))
    → ((left : List ℕ) → rest ≡ made.items ++ left → ⊥) → Judges s rest (judged.Differs (Some made))
differs_offer known (stands setting c whole) rest n k clock made ready now is_clock clock_fits n_fits within no_stop named of none =
    let offer = offer_there known (stands setting c whole) n k now within in
    let choice = choice_of known setting c n k offer.0 now offer.1 in
    let line : made.items ≡ action_line setting.model c.clock n k offer.0 = of offer.0 offer.1 in
    differs (Some made)
    (differs_by known setting c rest whole (Actions n) now
    (acting_other known setting c rest n (subst (λ (i : ℕ). i < 2 ^ 128) is_clock clock_fits) n_fits no_stop k offer.0 named choice (λ left is. none left (is ∙ ap (λ (l : List ℕ). l ++ left) (sym line)))))
    (subst (λ (l : List ℕ). Expects setting rest (underway c whole) (Some l)) (sym line) (the_offer c n k offer.0 now named choice))
differs_offer known (stands setting c (stopped u)) rest n k clock made ready now is_clock clock_fits n_fits within no_stop named of none = absurd (actions_stopped now)
differs_offer known (broken setting) rest n k clock made ready now is_clock clock_fits n_fits within no_stop named of none = absurd ready

-- a line is not empty
pub move_some : (s : Simulation) (step : Move) (line : List ℕ) → IsMoveLine s step line → 0 < length line
move_some s (Act n k) line of =
    let more = decimal n ++ (codes " " ++ (decimal k ++ (codes " " ++ (label (model_in s) of.0 ++ newline)))) in
    omega (arith, ap (λ (l : List ℕ). length l) of.2, length-append (decimal (clock_in s)) (codes " " ++ more), length-append (codes " ") more)
move_some s (Wait d) line of =
    let more = decimal d ++ newline in
    omega (arith, ap (λ (l : List ℕ). length l) of, length-append (decimal (clock_in s)) (codes " time " ++ more), length-append (codes " time ") more)

pub end_some : (m : ModelTree) (clock : ℕ) (e : Ending) → 0 < length (end_line m clock e)
end_some m clock e =
    let more = end_words m e ++ newline in
    omega (arith, length-append (decimal clock) (codes " " ++ more), length-append (codes " ") more)

-- few offers

pub few_there : OneMomentOf → (s : Simulation) (n : ℕ) → IsMomentOf s (Actions n) → n < 2 ^ 64 → HasFewOffers s
few_there one s n now fits = λ m other. subst (λ (i : ℕ). i < 2 ^ 64) (count_is (one s (Actions n) (Actions m) now other)) fits

pub few_else : OneMomentOf → (s : Simulation) (m : Moment) → IsMomentOf s m → ((n : ℕ) → m ≡ Actions n → ⊥) → HasFewOffers s
few_else one s m now other_moment = λ n other. absurd (other_moment n (one s m (Actions n) now other))

pub time_no : (d n : ℕ) → Time d ≡ Actions n → ⊥
time_no d n h = cc

pub finished_no : (n : ℕ) → Finished ≡ Actions n → ⊥
finished_no n h = cc

pub deadlock_no : (n : ℕ) → moments.Deadlock ≡ Actions n → ⊥
deadlock_no n h = cc

pub faulty_no : (t : TheTrouble) (n : ℕ) → Faulty t ≡ Actions n → ⊥
faulty_no t n h = cc

pub stopped_no : (t : TheTrouble) (n : ℕ) → Stopped t ≡ Actions n → ⊥
stopped_no t n h = cc
