-- Moments of a run on its way, and how it may end there.
use Rattle.std.proofs.Common.{◌≡◌, refl, sym, subst, ap, ◌∙◌}
use Rattle.pz_rules.specs.pz_offer.declared.trouble.Trouble.{Trouble}
use Rattle.pz_rules.specs.declared.moment.Moment.{Moment}
use Rattle.pz_rules.specs.declared.moment.Moment.TheVariants.{Actions, Time, Finished, Deadlock, Faulty, Stopped, Broken}
use Rattle.pz_rules.specs.Settings.{Setting}
use Rattle.pz_rules.specs.Ports.{HasWires}
use Rattle.pz_rules.specs.Configurations.{Config}
use Rattle.pz_rules.specs.Moments.{Candidate, high, faulty, acting, passing, finished, deadlock}
use Rattle.pz_rules.specs.Runs as runs
use Rattle.pz_rules.specs.Runs.{Standing, whole, stopped, Ending as RunEnding, ended, deadlocked, troubled, halted, Ends}
use Rattle.pz_rules.specs.Laws.{EveryMoment}
use Rattle.pz_term_simulator.specs.Simulations.{stands, IsMomentOf}
use Rattle.pz_term_simulator.specs.Laws.{OneMomentOf}
use Rattle.pz_trace.specs.declared.ending.Ending.{Ending}
use Rattle.pz_trace.specs.declared.ending.Ending.TheVariants as ending
use Rattle.pz_trace.specs.TraceText.{run_ending}
use Rattle.pz_run_replaying.specs.devices.Readiness.{IsEndAt}

-- the moment where a run stands
abbrev pub MomentAt : Setting → Config → Standing → Moment → Type 0
MomentAt setting c standing m = IsMomentOf (stands setting c standing) m

pub some_at : EveryMoment → (setting : Setting) (c : Config) (standing : Standing) → HasWires setting.model → (m : Moment) × MomentAt setting c standing m
some_at some setting c whole wires = some setting c wires
some_at some setting c (stopped trouble) wires = (Stopped trouble, refl)

-- endings

ended_is : (e : Ending) → run_ending e ≡ ended → e ≡ ending.End
ended_is ending.End h = refl
ended_is ending.Deadlock h = cc
ended_is ending.Stop h = cc
ended_is (ending.Trouble t) h = cc

deadlocked_is : (e : Ending) → run_ending e ≡ deadlocked → e ≡ ending.Deadlock
deadlocked_is ending.End h = cc
deadlocked_is ending.Deadlock h = refl
deadlocked_is ending.Stop h = cc
deadlocked_is (ending.Trouble t) h = cc

halted_is : (e : Ending) → run_ending e ≡ halted → e ≡ ending.Stop
halted_is ending.End h = cc
halted_is ending.Deadlock h = cc
halted_is ending.Stop h = refl
halted_is (ending.Trouble t) h = cc

troubled_is : (e : Ending) (t : Trouble) → run_ending e ≡ troubled t → e ≡ ending.Trouble t
troubled_is ending.End t h = cc
troubled_is ending.Deadlock t h = cc
troubled_is ending.Stop t h = cc
troubled_is (ending.Trouble u) t h = cc

record EndMoment (setting : Setting) (c : Config) (standing : Standing) (e : Ending) : Type 0 where
  moment : Moment
  is_moment : MomentAt setting c standing moment
  is_end : IsEndAt moment e

end_moment : (setting : Setting) (c : Config) (standing : Standing) (r : RunEnding) (e : Ending) → run_ending e ≡ r → Ends setting c standing r → EndMoment setting c standing e
end_moment setting _ _ _ e h (runs.ends c is) = record { moment = Finished; is_moment = is; is_end = ended_is e h }
end_moment setting _ _ _ e h (runs.deadlocks c is) = record { moment = Deadlock; is_moment = is; is_end = deadlocked_is e h }
end_moment setting _ _ _ e h (runs.faults c t is) = record { moment = Faulty t; is_moment = is; is_end = troubled_is e t h }
end_moment setting _ _ _ e h (runs.highs c t is) = record { moment = Stopped t; is_moment = is; is_end = troubled_is e t h }
end_moment setting _ _ _ e h (runs.stops c t) = record { moment = Stopped t; is_moment = refl; is_end = troubled_is e t h }
end_moment setting _ _ _ e h (runs.halts_acting c n is) = record { moment = Actions n; is_moment = is; is_end = halted_is e h }
end_moment setting _ _ _ e h (runs.halts_passing c d is) = record { moment = Time d; is_moment = is; is_end = halted_is e h }

-- a run that ends does so as its moment has it
pub ends_at : OneMomentOf → (setting : Setting) (c : Config) (standing : Standing) (m : Moment) (e : Ending) → MomentAt setting c standing m → Ends setting c standing (run_ending e) → IsEndAt m e
ends_at one setting c standing m e at so =
    let x = end_moment setting c standing (run_ending e) e refl so in
    subst (λ (n : Moment). IsEndAt n e) (one (stands setting c standing) x.moment m x.is_moment at) x.is_end

pub one_end : (m : Moment) (e f : Ending) → IsEndAt m e → IsEndAt m f → e ≡ f
one_end (Actions n) e f x y = x ∙ sym y
one_end (Time d) e f x y = x ∙ sym y
one_end Finished e f x y = x ∙ sym y
one_end Deadlock e f x y = x ∙ sym y
one_end (Faulty t) e f x y = x ∙ sym y
one_end (Stopped t) e f x y = x ∙ sym y
one_end Broken e f x y = absurd x

-- what is never said of a configuration

pub never_broken : (setting : Setting) (c : Config) (m : Moment) → m ≡ Broken → Candidate setting c m → ⊥
never_broken setting c _ e (high u first) = cc
never_broken setting c _ e (faulty u least) = cc
never_broken setting c _ e (acting offers are some) = cc
never_broken setting c _ e (passing d least) = cc
never_broken setting c _ e (finished all) = cc
never_broken setting c _ e deadlock = cc

stopped_is : {t u : Trouble} → Stopped t ≡ Stopped u → t ≡ u
stopped_is h = cc

-- as its moment has it, a run may end
pub may_end : (setting : Setting) (c : Config) (standing : Standing) (m : Moment) (e : Ending) → MomentAt setting c standing m → IsEndAt m e → Ends setting c standing (run_ending e)
may_end setting c whole (Actions n) e at is = subst (λ (x : Ending). Ends setting c whole (run_ending x)) (sym is) (runs.halts_acting c n at)
may_end setting c whole (Time d) e at is = subst (λ (x : Ending). Ends setting c whole (run_ending x)) (sym is) (runs.halts_passing c d at)
may_end setting c whole Finished e at is = subst (λ (x : Ending). Ends setting c whole (run_ending x)) (sym is) (runs.ends c at)
may_end setting c whole Deadlock e at is = subst (λ (x : Ending). Ends setting c whole (run_ending x)) (sym is) (runs.deadlocks c at)
may_end setting c whole (Faulty t) e at is = subst (λ (x : Ending). Ends setting c whole (run_ending x)) (sym is) (runs.faults c t at)
may_end setting c whole (Stopped t) e at is = subst (λ (x : Ending). Ends setting c whole (run_ending x)) (sym is) (runs.highs c t at)
may_end setting c whole Broken e at is = absurd is
may_end setting c (stopped u) (Actions n) e at is = cc
may_end setting c (stopped u) (Time d) e at is = cc
may_end setting c (stopped u) Finished e at is = cc
may_end setting c (stopped u) Deadlock e at is = cc
may_end setting c (stopped u) (Faulty t) e at is = cc
may_end setting c (stopped u) (Stopped t) e at is =
    subst (λ (x : Ending). Ends setting c (stopped u) (run_ending x)) (sym (is ∙ ap (λ (v : Trouble). ending.Trouble v) (stopped_is at))) (runs.stops c u)
may_end setting c (stopped u) Broken e at is = absurd is

-- in some way it may end
pub some_end : (setting : Setting) (c : Config) (standing : Standing) (m : Moment) → MomentAt setting c standing m → (e : Ending) × IsEndAt m e
some_end setting c standing (Actions n) at = (ending.Stop, refl)
some_end setting c standing (Time d) at = (ending.Stop, refl)
some_end setting c standing Finished at = (ending.End, refl)
some_end setting c standing Deadlock at = (ending.Deadlock, refl)
some_end setting c standing (Faulty t) at = (ending.Trouble t, refl)
some_end setting c standing (Stopped t) at = (ending.Trouble t, refl)
some_end setting c whole Broken at = absurd (never_broken setting c Broken refl at.applies)
some_end setting c (stopped u) Broken at = absurd (differ at)
  where
    differ : Broken ≡ Stopped u → ⊥
    differ h = cc
