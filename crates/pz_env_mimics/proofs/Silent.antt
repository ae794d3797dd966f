-- What is around another term does nothing of itself, and nor does what is done.
use Rattle.std.proofs.Common.{ℕ, Bool, List, Result}
use Rattle.pz_env_tree.specs.pz_syntax.declared.tokens.Pos.{Pos}
use Rattle.pz_env_tree.specs.pz_copy.Parcels.{ParcelView}
use Rattle.pz_env_tree.specs.pz_offer.declared.trouble.Trouble.{Trouble}
use Rattle.pz_env_tree.specs.pz_rules.declared.action.Kind.{Kind}
use Rattle.pz_env_tree.specs.pz_rules.Terms.{Term, done}
use Rattle.pz_env_tree.specs.pz_rules.Settings.{Context}
use Rattle.pz_env_tree.specs.pz_rules.InternalActions as actions
use Rattle.pz_env_tree.specs.pz_rules.InternalActions.{Can}
use Rattle.pz_env_tree.specs.pz_rules.Messages as messages
use Rattle.pz_env_tree.specs.pz_rules.Messages.{Sends, Receives, Judges}
use Rattle.pz_env_tree.specs.pz_rules.Asking as asking
use Rattle.pz_env_tree.specs.pz_rules.Asking.{Asks}
use Rattle.pz_env_tree.specs.pz_rules.Delays as delays
use Rattle.pz_env_tree.specs.pz_rules.Delays.{Delays}
use Rattle.pz_env_mimics.proofs.Environment.{IsAround}

pub around_cannot : (a : Context) (g : ℕ) (part : Term) (kind : Kind) (at : Pos) → IsAround part → Can a g part kind at → ⊥
around_cannot a g _ _ _ is (actions.skips at) = is
around_cannot a g _ _ _ is (actions.evaluates at e) = is
around_cannot a g _ _ _ is (actions.evaluates_block at es) = is
around_cannot a g _ _ _ is (actions.tests at e ts other) = is
around_cannot a g _ _ _ is (actions.repeats at e ts) = is
around_cannot a g _ _ _ is (actions.elapses at e zero) = is
around_cannot a g _ _ _ is (actions.expires at) = is
around_cannot a g _ _ _ is (actions.calls at method args results) = is

pub around_never_sends : (a : Context) (g : ℕ) (part : Term) (at : Pos) (port : ℕ) (message : List ℕ) (parcel : ParcelView) → IsAround part
    → Sends a g part at port message parcel → ⊥
around_never_sends a g _ _ _ _ _ is (messages.sends at port name args block values s parcel gives packed) = is

pub around_never_receives : (part : Term) (at : Pos) (port : ℕ) (message : List ℕ) (count : ℕ) → IsAround part → Receives part at port message count → ⊥
around_never_receives _ _ _ _ _ is (messages.receives at port name into condition block) = is

pub around_never_judges : (a : Context) (g : ℕ) (parcel : ParcelView) (part : Term) (verdict : Result Bool Trouble) → IsAround part
    → Judges a g parcel part verdict → ⊥
around_never_judges a g parcel _ _ is (messages.free at port name into block) = is
around_never_judges a g parcel _ _ is (messages.asks at port name into condition block r fits tests) = is
around_never_judges a g parcel _ _ is (messages.unfit at port name into condition block unfit) = is

pub around_never_asks : (a : Context) (g : ℕ) (part : Term) (trouble : Trouble) → IsAround part → Asks a g part trouble → ⊥
around_never_asks a g _ _ is (asking.guard test at t trouble tests) = is
around_never_asks a g _ _ is (asking.time at e trouble lasts) = is
around_never_asks a g _ _ is (asking.arguments at port name args block trouble s gives) = is

pub around_never_delays : (a : Context) (g : ℕ) (part : Term) (left : ℕ) → IsAround part → Delays a g part left → ⊥
around_never_delays a g _ _ is (delays.not_begun at e left lasts) = is
around_never_delays a g _ _ is (delays.begun left at) = is

-- Nor does what is done

pub done_cannot : (a : Context) (g : ℕ) (kind : Kind) (at : Pos) → Can a g done kind at → ⊥
done_cannot a g kind at can = elim can [ ]

pub done_never_sends : (a : Context) (g : ℕ) (at : Pos) (port : ℕ) (message : List ℕ) (parcel : ParcelView) → Sends a g done at port message parcel → ⊥
done_never_sends a g at port message parcel is = elim is [ ]

pub done_never_receives : (at : Pos) (port : ℕ) (message : List ℕ) (count : ℕ) → Receives done at port message count → ⊥
done_never_receives at port message count is = elim is [ ]

pub done_never_judges : (a : Context) (g : ℕ) (parcel : ParcelView) (verdict : Result Bool Trouble) → Judges a g parcel done verdict → ⊥
done_never_judges a g parcel verdict is = elim is [ ]

pub done_never_asks : (a : Context) (g : ℕ) (trouble : Trouble) → Asks a g done trouble → ⊥
done_never_asks a g trouble is = elim is [ ]

pub done_never_delays : (a : Context) (g left : ℕ) → Delays a g done left → ⊥
done_never_delays a g left is = elim is [ ]
