-- What is surveyed of no process, and of all.
use Rattle.std.proofs.Common.{◌≡◌, ◌<◌, ℕ, Bool, true, false, List, [], length, Option, Some, None, get_or, sym, subst, arith}
use Rattle.std.proofs.lemmas.Option.{slice_get-get_or}
use Rattle.pz_classes_code.specs.pz_syntax.Statements.{delay}
use Rattle.pz_rules.specs.pz_offer.declared.trouble.Trouble.{Trouble}
use Rattle.pz_rules.specs.pz_offer.PlaceOrder.{EndBefore}
use Rattle.pz_rules.specs.declared.action.Action.{Action}
use Rattle.pz_rules.specs.declared.action.Action.TheVariants.{Internal, Comm}
use Rattle.pz_rules.specs.Terms.{leaf}
use Rattle.pz_rules.specs.Settings.{Setting}
use Rattle.pz_rules.specs.Configurations.{Config}
use Rattle.pz_rules.specs.Offers as offers
use Rattle.pz_rules.specs.Offers.{PartAt, Offers, Before}
use Rattle.pz_term_matching.specs.declared.ends.Sender.{Sender}
use Rattle.pz_term_matching.specs.declared.ends.Receiver.{Receiver}
use Rattle.pz_term_enabled.specs.declared.findings.Survey.{Survey}
use Rattle.pz_term_enabled.specs.Surveyed.{IsInternal, AreInternal, IsSender, IsReceiver, IsLeastLeft, IsAsked, TellsDone, IsSurveyed}
use Rattle.pz_term_enabled.specs.devices.Below.{Listed, end_of, IsLeastOf, IsOffered, IsLeftBelow, IsAskedBelow, TellsDoneBelow, SurveyedBelow}
use Rattle.pz_term_enabled.proofs.Listed.{listed_none}
use Rattle.pz_term_enabled.proofs.Further.{part_within, trouble_within}

before_of : (x y : Action) → IsInternal x → IsInternal y → EndBefore (end_of x) (end_of y) → Before x y
before_of (Internal at kind pos) (Internal other another place) is is_other before = before
before_of (Internal at kind pos) (Comm wire sender receiver message parcel) is is_other before = absurd is_other
before_of (Comm wire sender receiver message parcel) y is is_other before = absurd is

module _ (setting : Setting) (c : Config) where
  pub none_surveyed : (s : Survey) → s.internal.items ≡ [] → s.senders.items ≡ [] → s.receivers.items ≡ [] → s.least ≡ None → s.trouble ≡ None → s.done ≡ true → SurveyedBelow setting c 0 s
  none_surveyed s internal senders receivers least trouble done = record {
    internal = subst (λ (xs : List Action). Listed end_of (IsOffered setting c) (λ k. k < 0) xs) (sym internal) (listed_none end_of (IsOffered setting c));
    senders = subst (λ (xs : List Sender). Listed (λ (x : Sender). x.end) (IsSender setting c) (λ k. k < 0) xs) (sym senders) (listed_none (λ (x : Sender). x.end) (IsSender setting c));
    receivers = subst (λ (xs : List Receiver). Listed (λ (x : Receiver). x.end) (IsReceiver setting c) (λ k. k < 0) xs) (sym receivers) (listed_none (λ (x : Receiver). x.end) (IsReceiver setting c));
    least = subst (λ (o : Option ℕ). IsLeastOf (IsLeftBelow setting c 0) o) (sym least) (λ n x. let below = x.below in absurd (omega (arith, below)));
    trouble = subst (λ (o : Option Trouble). IsAskedBelow setting c 0 o) (sym trouble) (λ at t troubles below. absurd (omega (arith, below)));
    done = subst (λ (b : Bool). TellsDoneBelow setting c 0 b) (sym done) (λ k p below here. absurd (omega (arith, below)));
    times = λ at a f pos time left x lasts below. absurd (omega (arith, below));
  }

  abbrev all : ℕ
  all = length c.processes

  action_within : (x : Action) → IsInternal x → Offers setting c x → (end_of x).process < all
  action_within _ is (offers.internal at a f t kind pos active can) = part_within setting c at a f t active
  action_within _ is (offers.communication number sender receiver message parcel pair judged) = absurd is

  internal_all : (actions : List Action) → Listed end_of (IsOffered setting c) (λ k. k < all) actions → AreInternal setting c actions
  internal_all actions h = record {
    ordered = λ i j d before within.
        let earlier : i < length actions = omega (arith, before, within) in
        before_of (get_or actions i d) (get_or actions j d) (h.derivable i d earlier).0 (h.derivable j d within).0 (h.ordered i j d before within);
    derivable = h.derivable;
    every = λ x is offers. h.every x (is, offers) (action_within x is offers);
  }

  least_all : (o : Option ℕ) → IsLeastOf (IsLeftBelow setting c all) o → IsLeastLeft setting c o
  least_all None h = λ n l. h n (record { is_left = l; below = part_within setting c l.at l.seen l.frame l.part l.active })
  least_all (Some d) h = record {
    is_left = h.0.is_left;
    least = λ n l. h.1 n (record { is_left = l; below = part_within setting c l.at l.seen l.frame l.part l.active });
  }

  trouble_all : (o : Option Trouble) → IsAskedBelow setting c all o → IsAsked setting c o
  trouble_all None h = λ at t troubles. h at t troubles (trouble_within setting c at t troubles)
  trouble_all (Some t) h = h

  done_all : (b : Bool) → TellsDoneBelow setting c all b → TellsDone setting c b
  done_all true h = λ k p within. h k (get_or c.processes k p) within (slice_get-get_or c.processes k p within)
  done_all false h = h

  surveyed_all : (s : Survey) → SurveyedBelow setting c all s → IsSurveyed setting c s
  surveyed_all s h = record {
    internal = internal_all s.internal.items h.internal;
    senders = record {
      ordered = h.senders.ordered;
      derivable = h.senders.derivable;
      every = λ x is. h.senders.every x is (part_within setting c x.end is.seen is.frame is.part is.active);
    };
    receivers = record {
      ordered = h.receivers.ordered;
      derivable = h.receivers.derivable;
      every = λ x is. h.receivers.every x is (part_within setting c x.end is.seen is.frame is.part is.active);
    };
    least = least_all s.least h.least;
    trouble = trouble_all s.trouble h.trouble;
    done = done_all s.done h.done;
    times = λ at a f pos time left x lasts. h.times at a f pos time left x lasts (part_within setting c at a f (leaf (delay pos time)) x);
  }

  -- so many processes, and no more
  pub whole_surveyed : (n : ℕ) (s : Survey) → n ≡ length c.processes → SurveyedBelow setting c n s → IsSurveyed setting c s
  whole_surveyed n s counted h = surveyed_all s (subst (λ (k : ℕ). SurveyedBelow setting c k s) counted h)
