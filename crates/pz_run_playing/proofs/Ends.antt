-- The trouble in which a chosen run ends names a process of the net.
use Rattle.std.proofs.Common.{◌≡◌, ℕ, Bool, true, false, List, Option, Some, None, subst, ap, ◌∙◌}
use Rattle.std.specs.Prelude.{nat_le, nat_lt, if◌then◌else◌}
use Rattle.pz_rules.specs.pz_offer.declared.trouble.Trouble.{Trouble}
use Rattle.pz_bind.specs.declared.net.Net.{Net}
use Rattle.pz_bind.specs.devices.Nets.{IsNet}
use Rattle.pz_rules.specs.declared.moment.Moment.{Moment}
use Rattle.pz_rules.specs.declared.moment.Moment.TheVariants.{Actions, Time, Finished, Deadlock, Faulty, Stopped, Broken}
use Rattle.pz_rules.specs.Settings.{Setting}
use Rattle.pz_rules.specs.Configurations.{Config}
use Rattle.pz_rules.specs.Moments.{IsMoment}
use Rattle.pz_rules.specs.Runs.{Event, Ending, ended, deadlocked, troubled, halted, refused}
use Rattle.pz_rules.specs.ChosenRuns as chosen
use Rattle.pz_rules.specs.ChosenRuns.{Policy, Decision, stops_with, takes, waits, is_beyond, used_up, entry_of, decided, IsChosenRun}
use Rattle.pz_watch_points.specs.pz_trace.Named.{HasTroubled}
use Rattle.pz_run_playing.specs.devices.Known.{Known}
use Rattle.pz_run_playing.specs.devices.Rests.{IsTroubledIn}

trouble_is : {t u : Trouble} → troubled t ≡ troubled u → t ≡ u
trouble_is h = cc

-- it is no decision of a moment at which something can be done
abbrev NoTrouble : Decision → Type 0
NoTrouble (stops_with (troubled t)) = ⊥
NoTrouble (stops_with ended) = Unit {0}
NoTrouble (stops_with deadlocked) = Unit {0}
NoTrouble (stops_with halted) = Unit {0}
NoTrouble (stops_with (refused entry count)) = Unit {0}
NoTrouble (takes n k) = Unit {0}
NoTrouble (waits d) = Unit {0}

either : (b : Bool) (x y : Decision) → NoTrouble x → NoTrouble y → NoTrouble (if b then x else y)
either true x y one other = one
either false x y one other = other

entry_none : (n : ℕ) (o : Option ℕ) → NoTrouble (entry_of n o)
entry_none n None = tt
entry_none n (Some k) = either (nat_lt k n) (takes n k) (stops_with (refused k n)) tt tt

used_none : (ending : Ending) (o : Option ℕ) → NoTrouble (stops_with ending) → NoTrouble (used_up ending o)
used_none ending None none = none
used_none ending (Some entry) none = tt

troubles : (d : Decision) (t : Trouble) → NoTrouble d → d ≡ stops_with (troubled t) → ⊥
troubles d t none is = subst NoTrouble is none

module _ (known : Known) (setting : Setting) (policy : Policy) (net : Net) (is_net : ∥ IsNet setting.model net ∥₁) where
  ending_is : {x y : Ending} → stops_with x ≡ stops_with y → x ≡ y
  ending_is h = cc

  named_at : (j : ℕ) (c : Config) (m : Moment) (t : Trouble) → IsMoment setting c m → decided policy j c.clock m ≡ stops_with (troubled t) → HasTroubled net t
  named_at j c (Actions n) t is decides =
      absurd (troubles (decided policy j c.clock (Actions n)) t (either (nat_le policy.steps j) (stops_with halted) (entry_of n (policy.choose j n)) tt (entry_none n (policy.choose j n))) decides)
  named_at j c (Time d) t is decides = absurd (troubles (decided policy j c.clock (Time d)) t (either (is_beyond policy.until c.clock d) (stops_with halted) (waits d) tt tt) decides)
  named_at j c Finished t is decides = absurd (troubles (used_up ended (policy.ahead j)) t (used_none ended (policy.ahead j) tt) decides)
  named_at j c Deadlock t is decides = absurd (troubles (used_up deadlocked (policy.ahead j)) t (used_none deadlocked (policy.ahead j) tt) decides)
  named_at j c (Faulty u) t is decides = subst (HasTroubled net) (trouble_is (ending_is decides)) (known.faults_named setting c net u is_net is)
  named_at j c (Stopped u) t is decides = subst (HasTroubled net) (trouble_is (ending_is decides)) (known.highs_named setting c net u is_net is)
  named_at j c Broken t is decides = absurd (troubles (stops_with halted) t tt decides)

  named : (j : ℕ) (c end : Config) (events : List Event) (ending : Ending) → IsChosenRun setting policy j c events end ending → (t : Trouble) → ending ≡ troubled t → HasTroubled net t
  named _ _ _ _ _ (chosen.ends j c m ending is decides) t e = named_at j c m t is (decides ∙ ap stops_with e)
  named _ _ _ _ _ (chosen.acts j c next end m n k a events ending is decides choice leads run) t e = named _ next end events ending run t e
  named _ _ _ _ _ (chosen.stops j c m n k a u is decides choice fails) t e = subst (HasTroubled net) (trouble_is e) (known.stops_named setting c net a u is_net fails)
  named _ _ _ _ _ (chosen.passes j c next end m d events ending is decides to run) t e = named j next end events ending run t e

pub run_named : Known → (setting : Setting) (policy : Policy) (j : ℕ) (c end : Config) (events : List Event) (ending : Ending) → IsChosenRun setting policy j c events end ending → IsTroubledIn setting.model ending
run_named known setting policy j c end events ending run = λ net is_net t e. named known setting policy net is_net j c end events ending run t e
