-- What is surveyed of the first processes.
use Rattle.std.specs.Prelude.{◌≡◌, ◌<◌, ◌≤◌, ◌^◌, ℕ, Bool, true, false, List, All, AllPairs, Contains, Option, Some, None, Ok, slice_get}
use Rattle.pz_classes_code.specs.pz_syntax.declared.tokens.Pos.{Pos}
use Rattle.pz_classes_code.specs.pz_syntax.Statements.{delay}
use Rattle.pz_rules.specs.pz_offer.declared.end.End.{End}
use Rattle.pz_rules.specs.pz_offer.declared.trouble.Trouble.{Trouble}
use Rattle.pz_rules.specs.pz_offer.PlaceOrder.{EndBefore}
use Rattle.pz_rules.specs.declared.action.Action.{Action}
use Rattle.pz_rules.specs.declared.action.Action.TheVariants.{Internal, Comm}
use Rattle.pz_rules.specs.Terms.{Code, done, leaf}
use Rattle.pz_rules.specs.Settings.{Setting, Process, Context}
use Rattle.pz_rules.specs.Evaluations.{Lasts}
use Rattle.pz_rules.specs.Configurations.{Config}
use Rattle.pz_rules.specs.Offers.{PartAt, Offers}
use Rattle.pz_rules.specs.Moments.{Troubles, part, IsLeft, AllDone}
use Rattle.pz_term_enabled.specs.declared.findings.Survey.{Survey}
use Rattle.pz_term_enabled.specs.Surveyed.{IsInternal, IsSender, IsReceiver, IsFirstAsked}

-- Of things at ends, in some processes: strictly by process and then place, exactly those of which
-- this holds.
pub record Listed {X : Type 0} (end : X → End) (Holds : X → Type 0) (Among : ℕ → Type 0) (xs : List X) : Type 0 where
  pub ordered : AllPairs (λ x y. EndBefore (end x) (end y)) xs
  pub derivable : All Holds xs
  pub among : All (λ x. Among (end x).process) xs
  pub every : (x : X) → Holds x → Among (end x).process → Contains xs x

abbrev pub end_of : Action → End
end_of (Internal at kind pos) = at
end_of (Comm wire sender receiver message parcel) = sender

-- the least number of which this holds, if it holds of some
abbrev pub IsLeastOf : (ℕ → Type 0) → Option ℕ → Type 0
IsLeastOf Holds None = (n : ℕ) → Holds n → ⊥
IsLeastOf Holds (Some d) = Holds d × ((n : ℕ) → Holds n → d ≤ n)

module _ (setting : Setting) (c : Config) where
  abbrev pub IsOffered : Action → Type 0
  IsOffered a = IsInternal a × Offers setting c a

  -- the processes below number i
  module _ (i : ℕ) where
    -- so much is left of an active delay of one of them
    pub record IsLeftBelow (left : ℕ) : Type 0 where
      pub is_left : IsLeft setting c left
      pub below : is_left.at.process < i

    abbrev pub IsAskedBelow : Option Trouble → Type 0
    IsAskedBelow None = (at : End) (t : Trouble) → Troubles setting c (part at) t → at.process < i → ⊥
    IsAskedBelow (Some trouble) = IsFirstAsked setting c trouble

    abbrev pub TellsDoneBelow : Bool → Type 0
    TellsDoneBelow true = (k : ℕ) (p : Process) → k < i → slice_get c.processes k ≡ Some p → p.term ≡ done
    TellsDoneBelow false = AllDone c → ⊥

    -- what active delays that have not begun take
    abbrev pub AreShortBelow : Type 0
    AreShortBelow = (at : End) (a : Context) (f : ℕ) (pos : Pos) (time : Code) (left : ℕ)
        → PartAt setting c at a f (leaf (delay pos time)) → Lasts a f pos time (Ok left) → at.process < i → left < 2 ^ 64

    pub record SurveyedBelow (s : Survey) : Type 0 where
      pub internal : Listed end_of IsOffered (λ k. k < i) s.internal.items
      pub senders : Listed (λ x. x.end) (IsSender setting c) (λ k. k < i) s.senders.items
      pub receivers : Listed (λ x. x.end) (IsReceiver setting c) (λ k. k < i) s.receivers.items
      pub least : IsLeastOf IsLeftBelow s.least
      pub trouble : IsAskedBelow s.trouble
      pub done : TellsDoneBelow s.done
      pub times : AreShortBelow
