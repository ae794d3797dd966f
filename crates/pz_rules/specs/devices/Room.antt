-- Why the clock stays low: each passing brings a delay of which something is left to nothing, and delays
-- are opened by the start and by actions alone.
use Rattle.std.specs.Prelude.{◌≡◌, ℕ, suc, ◌+◌, ◌*◌, ◌<◌, ◌≤◌, ◌^◌, List, Some, Ok, slice_get}
use Rattle.pz_bind_rules.specs.pz_syntax.Classes.{ModelTree}
use Rattle.pz_bind_rules.specs.pz_syntax.ModelText.{HasFewMarks}
use Rattle.pz_bind_rules.specs.pz_classes_rules.Soundness.{IsSound}
use Rattle.pz_classes_openings.specs.OpeningRules.{Opens}
use Rattle.pz_bind_levels.specs.Places.{Address}
use Rattle.pz_bind_rules.specs.Nest.{processes, class_at}
use Rattle.pz_rules.specs.declared.limits.Edition.{Edition}
use Rattle.pz_rules.specs.declared.limits.Edition.TheVariants.{One, Two}
use Rattle.pz_rules.specs.declared.action.Action.{Action}
use Rattle.pz_rules.specs.declared.moment.Moment.TheVariants.{Time}
use Rattle.pz_rules.specs.Terms.{Steps}
use Rattle.pz_rules.specs.Settings.{Setting, Process}
use Rattle.pz_rules.specs.Configurations.{Config, IsWhole}
use Rattle.pz_rules.specs.Starting.{IsStart}
use Rattle.pz_rules.specs.Steps.{Next, PassesTo}
use Rattle.pz_rules.specs.Moments.{IsMoment}
use Rattle.pz_rules.specs.Clocks.{most_actions}
use Rattle.pz_rules.specs.devices.Pending.{list_pending}
use Rattle.pz_rules.specs.devices.Opened.{delays_in_all, spread_of, Holds}

-- fewer delays than 32 bits number, as in each body of a model whose text has few marks
abbrev pub most_delays : ℕ
most_delays = 2 ^ 32

abbrev pub HasFewDelays : Steps → Type 0
HasFewDelays ts = delays_in_all ts ≤ most_delays

-- What opens out of these statements in a process of this class brings no more delays. In edition One
-- they alone open. In edition Two their plain calls do so too, but no more statements ever open at once.
abbrev pub OpensFew : Edition → ModelTree → ℕ → Steps → Type 0
OpensFew One m class ts = HasFewDelays ts
OpensFew Two m class ts = (depth : ℕ) → spread_of m class depth ts ≤ most_delays

-- of the processes in a list, where each stands
abbrev pub AllOpenFew : Setting → List Process → Type 0
AllOpenFew setting ps = (i : ℕ) (place : Address) (p : Process) → slice_get (processes setting.model) i ≡ Some place → slice_get ps i ≡ Some p
    → Holds (OpensFew setting.limits.edition setting.model (class_at setting.model place)) p.term

-- So many actions may follow. Each of them is at most one of two processes, and brings at most so many
-- delays to either; and each delay lets less than 2^64 clock units pass, once.
pub record HasRoom (setting : Setting) (left : ℕ) (c : Config) : Type 0 where
  pub sound : IsSound setting.model
  pub few : HasFewMarks setting.model
  pub opens : setting.limits.edition ≡ Two → Opens setting.model
  pub whole : IsWhole setting c
  pub holds : AllOpenFew setting c.processes
  pub low : c.clock + 2 ^ 64 * (list_pending c.processes + 2 * most_delays * left) < 2 ^ 127

abbrev pub StartsHaveRoom : Type 0
StartsHaveRoom = (setting : Setting) (c : Config) → IsSound setting.model → HasFewMarks setting.model → (setting.limits.edition ≡ Two → Opens setting.model)
    → IsStart setting c → HasRoom setting most_actions c

abbrev pub ActionsLeaveRoom : Type 0
ActionsLeaveRoom = (setting : Setting) (c next : Config) (a : Action) (left : ℕ) → HasRoom setting (suc left) c → Next setting c a (Ok next) → HasRoom setting left next

abbrev pub PassingsLeaveRoom : Type 0
PassingsLeaveRoom = (setting : Setting) (c next : Config) (d left : ℕ) → HasRoom setting left c → IsMoment setting c (Time d) → PassesTo setting c d next → d < 2 ^ 64 → HasRoom setting left next

-- where some room is left, the clock is low; and room for more is room for fewer

abbrev pub RoomIsLow : Type 0
RoomIsLow = (setting : Setting) (c : Config) (left : ℕ) → HasRoom setting left c → c.clock < 2 ^ 127

abbrev pub LessRoom : Type 0
LessRoom = (setting : Setting) (c : Config) (more left : ℕ) → left ≤ more → HasRoom setting more c → HasRoom setting left c
