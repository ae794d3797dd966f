-- Where a driven system stands next, by an action or after a passing of time.
use Rattle.std.specs.Prelude.{◌≡◌, ℕ, List, Result, Ok}
use Rattle.pz_trace.specs.pz_value.declared.value.Value.{Value}
use Rattle.pz_trace.specs.pz_copy.Parcels.{ParcelView}
use Rattle.pz_trace.specs.pz_offer.declared.end.End.{End}
use Rattle.pz_trace.specs.pz_offer.declared.trouble.Trouble.{Trouble}
use Rattle.pz_trace.specs.pz_rules.declared.action.Kind.TheVariants.{Expire}
use Rattle.pz_trace.specs.pz_rules.declared.action.Action.{Action}
use Rattle.pz_trace.specs.pz_rules.declared.action.Action.TheVariants.{Internal, Comm}
use Rattle.pz_trace.specs.pz_rules.Settings.{Process}
use Rattle.pz_trace.specs.pz_rules.Meanings.{and_then}
use Rattle.pz_trace.specs.pz_rules.Messages.{Hands, Takes}
use Rattle.pz_trace.specs.pz_rules.Configurations.{Config}
use Rattle.pz_trace.specs.pz_rules.Steps.{Acts, with_process, Next, PassesTo}
use Rattle.pz_env_rules.specs.Environment.{Line, at_line, Doing, waits, offers, begins, later, Environment}
use Rattle.pz_env_rules.specs.Joining.{Driving}
use Rattle.pz_env_rules.specs.Driven.{Driven, environment_end, plain, Gives, Gets, stored}

abbrev pub in_system : Driven → Config → Driven
in_system d c = record d { system = c }

abbrev pub doing_next : Driven → Doing → Driven
doing_next d doing = record d { environment = record { doing = doing; objects = d.environment.objects } }

-- process i has become this, and the environment does that
abbrev pub both_next : Driven → ℕ → Process → Environment → Driven
both_next d i p e = record { system = with_process d.system i p; environment = e }

module _ (g : Driving) (d : Driven) where
  -- The next, or a trouble, that of a sender before any of the receiver. As `Next` of the rules of
  -- execution, it says what an action does and not whether it is possible.
  pub data DrivenNext : Action → Result Driven Trouble → Type 0 where
    alone : (a : Action) (result : Result Config Trouble)
        → Next g.setting d.system a result → DrivenNext a (and_then result (λ c. Ok (in_system d c)))
    -- the wait is over, and what the line says is offered
    expires : (x : Line) (rest : List Line)
        → d.environment.doing ≡ waits 0 x rest → DrivenNext (Internal (environment_end g) Expire (at_line x)) (Ok (doing_next d (offers x rest)))
    -- a process has taken what the environment sends, which goes on to its next line
    gives : (wire : ℕ) (receiver : End) (x : Line) (rest : List Line) (values : List Value) (taken : Result Process Trouble)
        → Gives g d x rest values → Acts g.setting d.system (λ a f. Takes a f (plain g values)) receiver taken
        → DrivenNext (Comm wire (environment_end g) receiver x.entry.message (plain g values))
        (and_then taken (λ q. Ok (both_next d receiver.process q (record { doing = begins rest; objects = d.environment.objects }))))
    -- the environment has taken what a process sends, and goes on to its next line
    gets : (wire : ℕ) (sender : End) (x : Line) (rest : List Line) (count : ℕ) (parcel : ParcelView) (sent : Result Process Trouble)
        → Gets g d x rest count → Acts g.setting d.system (λ a f. Hands a f parcel) sender sent
        → DrivenNext (Comm wire sender (environment_end g) x.entry.message parcel)
        (and_then sent (λ p. and_then (stored g d x parcel) (λ n. Ok (both_next d sender.process p (record { doing = begins rest; objects = n })))))

  -- so much time has passed, for the processes and the environment alike
  pub record DrivenPasses (time : ℕ) (next : Driven) : Type 0 where
    pub system : PassesTo g.setting d.system time next.system
    pub environment : next.environment ≡ record { doing = later time d.environment.doing; objects = d.environment.objects }
