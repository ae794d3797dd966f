-- Both start the same.
use Rattle.std.proofs.Common.{◌≡◌, ◌≢◌, ◌≤◌, ℕ, zero, suc, List, [], ◌∷◌, length, Option, Some, slice_get, refl, sym, ap, subst, ◌∙◌, arith}
use Rattle.pz_env_tree.specs.pz_syntax.Expressions.{none}
use Rattle.pz_env_tree.specs.pz_syntax.Statements.{call}
use Rattle.pz_env_tree.specs.pz_syntax.Classes.{ModelTree}
use Rattle.pz_env_tree.specs.pz_classes_rules.Bodies.{BodyTree}
use Rattle.pz_bind_levels.specs.Places.{Address}
use Rattle.pz_env_tree.specs.pz_bind_rules.Nest.{processes}
use Rattle.pz_env_tree.specs.pz_bind_rules.Values.{values_at}
use Rattle.pz_env_tree.specs.pz_state.States.{StateView, initial, opened as with_frame}
use Rattle.pz_env_tree.specs.pz_rules.declared.limits.Edition.{Edition}
use Rattle.pz_env_tree.specs.pz_rules.Terms.{Step, sequence, leaf}
use Rattle.pz_env_tree.specs.pz_rules.Settings.{Process, left_by, Home}
use Rattle.pz_env_tree.specs.pz_rules.Opening.{depth_of, enter_in, entered_to, by_body, opened, steps_opened, in_frame}
use Rattle.pz_env_tree.specs.pz_rules.Framing.{framed}
use Rattle.pz_env_tree.specs.pz_rules.FrameNumbers.{least_free}
use Rattle.pz_env_tree.specs.pz_rules.Leaving.{swept}
use Rattle.pz_env_tree.specs.pz_rules.Configurations.{Config}
use Rattle.pz_env_tree.specs.pz_rules.Starting.{home_at, begins_with, StartsAs, IsStart}
use Rattle.pz_env_tree.specs.pz_env_rules.Environment.{Line, begins, Environment}
use Rattle.pz_env_tree.specs.pz_env_rules.Joining.{Driving}
use Rattle.pz_env_tree.specs.pz_env_rules.Driven.{Driven, IsDrivenStart}
use Rattle.pz_env_same.specs.OneMore.{OneMore, behind}
use Rattle.pz_env_same.specs.SystemLaws.{MoreStarts}
use Rattle.pz_env_mimics.specs.Environments.{statements, waiting}
use Rattle.pz_env_mimics.specs.Closing.{Closes, closed}
use Rattle.pz_env_mimics.proofs.Known.{Known}
use Rattle.pz_env_mimics.proofs.Environment.{IsDoing}
use Rattle.pz_env_mimics.proofs.Environment as environment
use Rattle.pz_env_mimics.proofs.Settling.{whole_then, begins_so}
use Rattle.pz_env_mimics.proofs.Mimics as mimics
use Rattle.pz_env_mimics.proofs.Mimics.{Mimics, Fit, got_last}

some_same : {X : Type 0} (x y : X) → Some x ≡ Some y → x ≡ y
some_same x y e = cc

one_at_least : (k : ℕ) → 1 ≤ k → (j : ℕ) × (k ≡ suc j)
one_at_least zero low = absurd (omega (arith, low))
one_at_least (suc j) low = (j, refl)

-- a plain call of a method with these statements opens as them in frame 1
opens_body : (h : Home) (depth : ℕ) (port : Line → ℕ) (lines : List Line) (s : StateView) → s.frames ≡ [] → lines ≢ []
    → in_frame 0 (steps_opened (entered_to h depth) (statements port lines)) s ≡ left_by (with_frame s 1 0) (whole_then port lines)
opens_body h depth port [] s empty some = absurd (some refl)
opens_body h depth port (y ∷ ys) s empty some =
    ap (λ (k : ℕ). let x = left_by (with_frame s k 0) (sequence (leaf (waiting y)) (environment.behind port y ys)) in left_by x.state (framed k 0 [] x.term)) (ap least_free empty)

module _ (known : Known) (g : Driving) (n : ModelTree) (closes : Closes g n) where
  abbrev env : ℕ
  env = mimics.env known g n closes

  abbrev port : Line → ℕ
  port = mimics.port known g n closes

  abbrev place : Address
  place = closes.environment.place

  abbrev home : Home
  home = home_at (closed g n) place

  abbrev first : Step
  first = call closes.environment.pos closes.environment.method none []

  abbrev state : StateView
  state = initial (values_at n place)

  opens : opened home first state ≡ left_by (with_frame state 1 0) (whole_then port g.lines)
  opens =
      let depth = one_at_least (depth_of n) closes.environment.some_method in
      ap (λ (e : Edition). enter_in e home first state) closes.limits.edition
      ∙ ap (λ (k : ℕ). entered_to home k first state) depth.1
      ∙ ap (λ (b : Option BodyTree). by_body b (steps_opened (entered_to home depth.0)) first state) closes.environment.body
      ∙ opens_body home depth.0 port g.lines state refl closes.lines.some

  abbrev process : Process
  process = begins_with (closed g n) place first

  does_so : IsDoing port (Fit known g n closes) (begins g.lines) process.term
  does_so =
      subst (λ (p : Process). IsDoing port (Fit known g n closes) (begins g.lines) (swept p).term) (sym opens)
      (begins_so port (Fit known g n closes) g.lines (mimics.lines_fit known g n closes))

  has_none : length process.state.objects ≡ 0
  has_none = ap (λ (p : Process). length (swept p).state.objects) opens

  -- the place of the environment is the one behind those of the system
  place_is : (other : Address) → slice_get (processes n) env ≡ Some other → place ≡ other
  place_is other is =
      some_same place other
      (sym (ap (λ (ps : List Address). slice_get ps env) closes.environment.one_more ∙ got_last (processes g.setting.model) place env refl) ∙ is)

  starts_so : StartsAs (closed g n) place process
  starts_so = record { call = first; is_call = closes.environment.starts; stands = refl }

  more_starts : MoreStarts n g.setting process
  more_starts other is = subst (λ (k : Address). StartsAs (closed g n) k process) (place_is other is) starts_so

  pub record StartOn (d : Driven) : Type 0 where
    pub config : Config
    pub is : IsStart (closed g n) config
    pub same : Mimics known g n closes d config

  pub start_on : (d : Driven) → IsDrivenStart g d → StartOn d
  start_on d is =
      let both : OneMore g.setting d.system (behind d.system process) process = record { whole = is.system.all; clock = refl; processes = refl } in
      record {
        config = behind d.system process;
        is = known.starts n g.setting d.system (behind d.system process) process closes.rules both is.system more_starts;
        same = record {
          more = process;
          both = both;
          does = subst (λ (e : Environment). IsDoing port (Fit known g n closes) e.doing process.term) (sym is.environment) does_so;
          has = has_none ∙ ap (λ (e : Environment). e.objects) (sym is.environment);
        };
      }

  -- it starts as nothing else
  only_start : (p : Process) → StartsAs (closed g n) place p → p ≡ process
  only_start p is =
      is.stands
      ∙ ap (λ (k : Step). begins_with (closed g n) place k) (some_same is.call first (sym is.is_call ∙ closes.environment.starts))

  pub record StartBack (c : Config) : Type 0 where
    pub start : Driven
    pub is : IsDrivenStart g start
    pub same : Mimics known g n closes start c

  pub start_back : (c : Config) → IsStart (closed g n) c → StartBack c
  start_back c is =
      let h = known.starts_of n g.setting c closes.rules is in
      let there : slice_get (processes n) env ≡ Some place =
      ap (λ (ps : List Address). slice_get ps env) closes.environment.one_more ∙ got_last (processes g.setting.model) place env refl
      in
      let one : h.more ≡ process = only_start h.more (h.more_starts place there) in
      record {
        start = record { system = h.system; environment = record { doing = begins g.lines; objects = 0 } };
        is = record { system = h.starts; environment = refl };
        same = record {
          more = h.more;
          both = h.both;
          does = subst (λ (p : Process). IsDoing port (Fit known g n closes) (begins g.lines) p.term) (sym one) does_so;
          has = ap (λ (p : Process). length p.state.objects) one ∙ has_none;
        };
      }
