-- A configuration of the closed model that stands where a driven system does.
use Rattle.std.proofs.Common.{◌≡◌, ◌<◌, ◌≤◌, ◌⊎◌, inl, inr, ◌↔◌, ℕ, zero, suc, List, [], ◌∷◌, ◌++◌, length, Some, All, get_or, slice_get, refl, sym, ap, subst, ◌∙◌, arith}
use Rattle.std.proofs.lemmas.Bool.{cases_lt}
use Rattle.std.proofs.lemmas.List.Elements.{Contains-get_or}
use Rattle.pz_env_tree.specs.pz_syntax.Classes.{ModelTree}
use Rattle.pz_bind_levels.specs.Places.{Address}
use Rattle.pz_env_tree.specs.pz_bind_rules.Nest.{processes, class_at}
use Rattle.pz_env_tree.specs.pz_offer.declared.end.End.{End}
use Rattle.pz_env_tree.specs.pz_offer.PlaceOrder.{Place}
use Rattle.pz_env_tree.specs.pz_rules.Terms.{Term}
use Rattle.pz_env_tree.specs.pz_rules.Settings.{Process, Context}
use Rattle.pz_env_tree.specs.pz_rules.Active.{IsActive}
use Rattle.pz_env_tree.specs.pz_rules.Ports.{IsWire}
use Rattle.pz_env_tree.specs.pz_rules.Configurations.{Config, Stands}
use Rattle.pz_env_tree.specs.pz_rules.Offers.{PartAt}
use Rattle.pz_env_tree.specs.pz_env_rules.Environment.{Line}
use Rattle.pz_env_tree.specs.pz_env_rules.Joining.{Driving}
use Rattle.pz_env_tree.specs.pz_env_rules.Driven.{Driven, environment_number, IsWireOf}
use Rattle.pz_env_same.specs.OneMore.{OneMore}
use Rattle.pz_env_mimics.specs.Environments.{IsPlain}
use Rattle.pz_env_mimics.specs.Closing.{Closes, closed}
use Rattle.pz_env_mimics.proofs.Known.{Known}
use Rattle.pz_env_mimics.proofs.Environment.{IsDoing, PartIs, part_is}

pub got_last : {X : Type 0} (xs : List X) (x : X) (i : ℕ) → i ≡ length xs → slice_get (xs ++ x ∷ []) i ≡ Some x
got_last [] x zero e = refl
got_last [] x (suc i) e = absurd (omega (arith, e))
got_last (y ∷ xs) x zero e = absurd (omega (arith, e))
got_last (y ∷ xs) x (suc i) e = got_last xs x i (omega (arith, e))

some_same : {X : Type 0} (x y : X) → Some x ≡ Some y → x ≡ y
some_same x y e = cc

module _ (known : Known) (g : Driving) (n : ModelTree) (closes : Closes g n) where
  abbrev pub env : ℕ
  env = environment_number g

  abbrev pub port : Line → ℕ
  port = closes.environment.port

  -- a line of the script, with the wire of its port
  pub record Fit (x : Line) : Type 0 where
    pub plain : IsPlain x
    pub wires : (w : ℕ) → IsWire n env (port x) w ↔ IsWireOf g x w

  pub fit_plain : (x : Line) → Fit x → IsPlain x
  fit_plain x fit = fit.plain

  pub lines_fit : All Fit g.lines
  lines_fit k d low = record {
    plain = closes.lines.plain k d low;
    wires = λ w. closes.environment.wires (get_or g.lines k d) w (Contains-get_or g.lines k d low);
  }

  -- Of both the clock and the processes are the same. One process more does what the environment does, and has
  -- as many objects.
  pub record Mimics (d : Driven) (c : Config) : Type 0 where
    pub more : Process
    pub both : OneMore g.setting d.system c more
    pub does : IsDoing port Fit d.environment.doing more.term
    pub has : length more.state.objects ≡ d.environment.objects

  module _ (d : Driven) (c : Config) (m : Mimics d c) where
    -- the environment, as its statements see it
    abbrev pub seen : Context
    seen = record {
      setting = closed g n;
      process = env;
      class = class_at n closes.environment.place;
      clock = c.clock;
      state = m.more.state;
    }

    pub stands_there : Stands (closed g n) c env m.more seen
    stands_there = record {
      place = closes.environment.place;
      is_process = ap (λ (ps : List Address). slice_get ps env) closes.environment.one_more ∙ got_last (processes g.setting.model) closes.environment.place env refl;
      is_here = ap (λ (ps : List Process). slice_get ps env) m.both.processes ∙ got_last d.system.processes m.more env (sym m.both.whole);
      seen = refl;
    }

    -- nothing else stands there
    pub record IsEnvironment (i : ℕ) (p : Process) (a : Context) : Type 0 where
      pub number : i ≡ env
      pub process : p ≡ m.more
      pub context : a ≡ seen

    pub of_environment : (i : ℕ) (p : Process) (a : Context) → Stands (closed g n) c i p a → i ≡ env → IsEnvironment i p a
    of_environment i p a is at =
        let same = known.more_stands n g.setting d.system c m.more closes.rules m.both i p a is (λ low. omega (arith, low, at)) in
        let place : is.place ≡ closes.environment.place =
        some_same is.place closes.environment.place
        (sym is.is_process ∙ ap (λ (ps : List Address). slice_get ps i) closes.environment.one_more ∙ got_last (processes g.setting.model) closes.environment.place i at)
        in
        record {
          number = at;
          process = same.1;
          context =
              is.seen
              ∙ ap (λ (k : ℕ). let b : Context = record { setting = closed g n; process = k; class = class_at n is.place; clock = c.clock; state = p.state } in b) at
              ∙ ap (λ (k : Address). let b : Context = record { setting = closed g n; process = env; class = class_at n k; clock = c.clock; state = p.state } in b) place
              ∙ ap (λ (q : Process). let b : Context = record { setting = closed g n; process = env; class = class_at n closes.environment.place; clock = c.clock; state = q.state } in b) same.1;
        }

    -- a process of the system, or the environment
    pub which : (i : ℕ) (p : Process) (a : Context) → Stands (closed g n) c i p a → (i < env) ⊎ (i ≡ env)
    which i p a is = by (cases_lt i env)
      where
        by : (i < env) ⊎ (env ≤ i) → (i < env) ⊎ (i ≡ env)
        by (inl low) = inl low
        by (inr high) = inr (known.more_stands n g.setting d.system c m.more closes.rules m.both i p a is (λ low. omega (arith, low, high))).0

    -- an active part of the environment
    pub record EnvPart (at : End) (a : Context) (f : ℕ) (t : Term) : Type 0 where
      pub context : a ≡ seen
      pub is : PartIs port Fit d.environment.doing m.more.term at.place f t

    pub env_part : (at : End) (a : Context) (f : ℕ) (t : Term) → PartAt (closed g n) c at a f t → at.process ≡ env → EnvPart at a f t
    env_part at a f t is here =
        let e = of_environment at.process is.process a is.stands here in
        let active : IsActive seen m.more.term at.place f t =
        subst (λ (b : Context). IsActive b m.more.term at.place f t) e.context (subst (λ (p : Process). IsActive a p.term at.place f t) e.process is.active)
        in
        record { context = e.context; is = part_is port Fit seen d.environment.doing m.more.term at.place f t m.does active }

    pub part_there : (place : Place) (t : Term) → IsActive seen m.more.term place 1 t → PartAt (closed g n) c (record { process = env; place = place }) seen 1 t
    part_there place t is = record { process = m.more; stands = stands_there; active = is }

    pub which_part : (at : End) (a : Context) (f : ℕ) (t : Term) → PartAt (closed g n) c at a f t → (at.process < env) ⊎ (at.process ≡ env)
    which_part at a f t is = which at.process is.process a is.stands
