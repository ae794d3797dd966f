-- Driven runs of a system that has no process, event by event, with their texts.
use Rattle.std.proofs.Common.{◌≡◌, ◌<◌, ◌≤◌, refl, sym, ap, ◌∙◌, ℕ, List, [], ◌∷◌, length, Some, None, arith, lit<}
use Rattle.std.specs.Prelude.{codes, pos, slice_get}
use Rattle.std.specs.Fmt.{digits}
use Rattle.pz_trace.specs.pz_syntax.Classes.{ModelTree}
use Rattle.pz_trace.specs.pz_value.declared.value.Value.{Value}
use Rattle.pz_trace.specs.pz_value.declared.value.Value.TheVariants.{Int}
use Rattle.pz_trace.specs.pz_offer.declared.trouble.Trouble.TheVariants.{Spent}
use Rattle.pz_trace.specs.pz_rules.declared.action.Kind.TheVariants.{Expire}
use Rattle.pz_trace.specs.pz_rules.declared.action.Action.TheVariants.{Internal}
use Rattle.pz_trace.specs.pz_rules.declared.limits.Limits.{Limits}
use Rattle.pz_trace.specs.pz_rules.Settings.{Process}
use Rattle.pz_trace.specs.pz_rules.Runs.{acted, passed, whole}
use Rattle.pz_trace.specs.declared.ending.Ending.TheVariants as ending
use Rattle.pz_env_script.specs.declared.entry.Transfer.{Transfer}
use Rattle.pz_env_script.specs.declared.entry.Transfer.TheVariants.{Send}
use Rattle.pz_env_rules.specs.Environment.{Line, Doing, waits, offers}
use Rattle.pz_env_rules.specs.Joining.{Driving, driving}
use Rattle.pz_env_rules.specs.Driven.{Driven, environment_end, IsDrivenStart}
use Rattle.pz_env_rules.specs.Steps.{expires}
use Rattle.pz_env_rules.specs.Runs.{DrivenReaches, here, acts, passes, deadlocks, faults}
use Rattle.pz_env_rules.specs.Text.{IsDriveText}
use Rattle.pz_env_rules.proofs.WorkedSystem.{at, entry, system_of, limits}
use Rattle.pz_env_rules.proofs.EnvironmentAlone.{time_passes, wait_is_over, one_offer, nobody_takes_it, too_few_units}

abbrev nothing : ModelTree
nothing = record { decls = system_of [] None ∷ [] }

abbrev with_units : ℕ → Limits
with_units n = record limits { units = n }

abbrev line : ℕ → List Value → Line
line wait values = record { number = 1; entry = entry wait (codes "r") (codes "i") (Send values) }

abbrev drives : ℕ → ℕ → List Value → Driving
drives units wait values = driving nothing (entry wait (codes "r") (codes "i") (Send values) ∷ []) (with_units units)

-- at a clock, with an environment that does this
abbrev stands : ℕ → Doing → Driven
stands clock doing = record {
  system = record { clock = clock; processes = [] };
  environment = record { doing = doing; objects = 0 };
}

nobody : (i : ℕ) (p : Process) → slice_get [] i ≡ Some p → ⊥
nobody i p e = cc

starts : (units wait : ℕ) (values : List Value) → IsDrivenStart (drives units wait values) (stands 0 (waits wait (line wait values) []))
starts units wait values = record {
  system = record { clock = refl; all = refl; each = λ i place p there is. absurd (nobody i p is) };
  environment = refl;
}

same_values : (us vs : List Value) (s t : Transfer) → s ≡ Send us → s ≡ t → t ≡ Send vs → us ≡ vs
same_values us vs s t e same f =
    let all : Send us ≡ Send vs = sym e ∙ same ∙ f in
    cc

same_transfer : (x y : Line) (r s : List Line) → offers x r ≡ offers y s → x.entry.transfer ≡ y.entry.transfer
same_transfer x y r s e = let same : x ≡ y = cc in ap (λ (z : Line). z.entry.transfer) same

-- there are units enough for one value
paid : (d : Driven) (units : ℕ) (x : Line) (values : List Value) → length values ≤ units → x.entry.transfer ≡ Send values → d.environment.doing ≡ offers x []
    → (y : Line) (rest : List Line) (others : List Value) → d.environment.doing ≡ offers y rest → y.entry.transfer ≡ Send others → units < length others → ⊥
paid d units x values few sends is y rest others e sent more =
    let same : values ≡ others = same_values values others x.entry.transfer y.entry.transfer sends (same_transfer x y [] rest (sym is ∙ e)) sent in
    let long : length values ≡ length others = ap (λ (vs : List Value). length vs) same in
    omega (arith, few, more, long)

module _ (units wait : ℕ) (values : List Value) where
  abbrev g : Driving
  g = drives units wait values

  abbrev x : Line
  x = line wait values

  -- the end of the wait, which leads to the offer
  over_then : (clock : ℕ) → DrivenReaches g (stands clock (waits 0 x [])) (acted clock 1 0 (Internal (environment_end g) Expire (at 1 1)) ∷ []) (stands clock (offers x [])) whole
  over_then clock =
      acts (stands clock (waits 0 x [])) (stands clock (offers x [])) (stands clock (offers x [])) 1 0 (Internal (environment_end g) Expire (at 1 1)) [] whole
      (wait_is_over g refl (stands clock (waits 0 x [])) x [] refl)
      (record { offers = Internal (environment_end g) Expire (at 1 1) ∷ []; all = one_offer g refl (stands clock (waits 0 x [])) x [] refl; count = refl; chosen = refl })
      (expires x [] refl)
      (here (stands clock (offers x [])))

-- Nobody is there who could take the message: a wait of 2, its end, and a deadlock.

abbrev three : List Value
three = Int (pos 3) ∷ []

waits_for_ever : IsDriveText (drives 100000 2 three) (codes "poosl-drive 1 100000\n0 time 2\n2 1 0 env expire 1:1\n2 deadlock\n")
unfolding digits
waits_for_ever = record {
  start = stands 0 (waits 2 (line 2 three) []);
  is_start = starts 100000 2 three;
  events = passed 0 2 ∷ acted 2 1 0 (Internal (environment_end (drives 100000 2 three)) Expire (at 1 1)) ∷ [];
  last = stands 2 (offers (line 2 three) []);
  standing = whole;
  reaches =
      passes (stands 0 (waits 2 (line 2 three) [])) (stands 2 (waits 0 (line 2 three) [])) (stands 2 (offers (line 2 three) [])) 2
      (acted 2 1 0 (Internal (environment_end (drives 100000 2 three)) Expire (at 1 1)) ∷ []) whole
      (time_passes (drives 100000 2 three) refl (stands 0 (waits 2 (line 2 three) [])) 1 (line 2 three) [] refl)
      (record { system = record { clock = refl; all = refl; each = λ i p a is. absurd (nobody i p is.is_here) }; environment = refl })
      (over_then 100000 2 three 2);
  ending = ending.Deadlock;
  ends = deadlocks (stands 2 (offers (line 2 three) []))
      (nobody_takes_it (drives 100000 2 three) refl (stands 2 (offers (line 2 three) [])) (line 2 three) [] refl (paid (stands 2 (offers (line 2 three) [])) 100000 (line 2 three) three (omega arith) refl refl));
  is_text = refl;
}

-- Three values, and two units: the environment is in trouble before anybody could take them.

abbrev more_values : List Value
more_values = Int (pos 1) ∷ Int (pos 2) ∷ Int (pos 3) ∷ []

spends_too_much : IsDriveText (drives 2 0 more_values) (codes "poosl-drive 1 2\n0 1 0 env expire 1:1\n0 spent env 1:1\n")
unfolding digits
spends_too_much = record {
  start = stands 0 (waits 0 (line 0 more_values) []);
  is_start = starts 2 0 more_values;
  events = acted 0 1 0 (Internal (environment_end (drives 2 0 more_values)) Expire (at 1 1)) ∷ [];
  last = stands 0 (offers (line 0 more_values) []);
  standing = whole;
  reaches = over_then 2 0 more_values 0;
  ending = ending.Trouble (Spent 0 (at 1 1));
  ends = faults (stands 0 (offers (line 0 more_values) [])) (Spent 0 (at 1 1))
      (too_few_units (drives 2 0 more_values) refl (stands 0 (offers (line 0 more_values) [])) (line 0 more_values) [] more_values refl refl (lit< tt));
  is_text = refl;
}
