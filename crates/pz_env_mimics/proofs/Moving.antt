-- What the environment becomes by what it does, as a process.
use Rattle.std.proofs.Common.{◌≡◌, ◌≤◌, ◌+◌, ℕ, List, [], ◌∷◌, length, Result, Ok, All, refl, ap, subst, ◌∙◌}
use Rattle.pz_env_tree.specs.pz_syntax.declared.tokens.Pos.{Pos}
use Rattle.pz_env_tree.specs.pz_value.declared.value.Value.{Value}
use Rattle.pz_env_tree.specs.pz_state.States.{object_limit}
use Rattle.pz_env_tree.specs.pz_state.declared.fault.FaultKind.TheVariants.{StoreFull}
use Rattle.pz_env_tree.specs.pz_copy.Parcels.{ParcelView}
use Rattle.pz_env_tree.specs.pz_offer.PlaceOrder.{Place}
use Rattle.pz_env_tree.specs.pz_offer.declared.trouble.Trouble.{Trouble}
use Rattle.pz_env_tree.specs.pz_rules.Terms.{Term, leaf, sequence}
use Rattle.pz_env_tree.specs.pz_rules.Settings.{Context, Process, left_by}
use Rattle.pz_env_tree.specs.pz_rules.Meanings.{and_then, fault}
use Rattle.pz_env_tree.specs.pz_rules.Active.{IsActive}
use Rattle.pz_env_tree.specs.pz_rules.Leaving.{around, swept, settled}
use Rattle.pz_env_tree.specs.pz_rules.InternalActions.{done_in, Performs}
use Rattle.pz_env_tree.specs.pz_rules.Messages.{Fits, Hands, Takes}
use Rattle.pz_env_tree.specs.pz_env_script.declared.entry.Transfer.{Transfer}
use Rattle.pz_env_tree.specs.pz_env_script.declared.entry.Transfer.TheVariants.{Send, Receive}
use Rattle.pz_env_tree.specs.pz_env_script.Entries.{values_in}
use Rattle.pz_env_tree.specs.pz_env_rules.Environment.{Line, at_line, Doing, waits, offers, begins}
use Rattle.pz_env_mimics.specs.Environments.{exchange, IsPlain}
use Rattle.pz_env_mimics.specs.Closing.{MayDrive}
use Rattle.pz_env_mimics.proofs.Literals.{IsConstant}
use Rattle.pz_env_mimics.proofs.Environment.{behind, offering, called, IsDoing, waiting_for, offering_it, place_of, active_in_sequence, PartIs, around_it, ended, delayed, exchanges}
use Rattle.pz_env_mimics.proofs.Settling.{whole_then, begins_so, settled_wait, settled_exchange}
use Rattle.pz_env_mimics.proofs.Deeds.{TakenBy, taken, is_full, around_never_performs, around_never_hands, around_never_takes, done_never_performs, done_never_hands, done_never_takes, waiting_performs, waiting_performs_there, waiting_never_hands, waiting_never_takes, exchange_never_performs, exchange_hands, exchange_hands_there, exchange_takes, exchange_takes_there}

-- the environment has become a process that does this, with so many objects
pub record Becomes (port : Line → ℕ) (Fit : Line → Type 0) (doing : Doing) (objects : ℕ) (result : Result Process Trouble) : Type 0 where
  pub process : Process
  pub is : result ≡ Ok process
  pub does : IsDoing port Fit doing process.term
  pub has : length process.state.objects ≡ objects

-- what a receive leaves of the environment
pub data TakenOr (a : Context) (port : Line → ℕ) (Fit : Line → Type 0) (x : Line) (rest : List Line) (parcel : ParcelView) (result : Result Process Trouble) : Type 0 where
  fits_in : length a.state.objects + length parcel.objects ≤ object_limit
      → Becomes port Fit (begins rest) (length a.state.objects + length parcel.objects) result → TakenOr a port Fit x rest parcel result
  too_full : ¬ Fits a parcel → result ≡ fault StoreFull a.process (at_line x) → TakenOr a port Fit x rest parcel result

module _ (a : Context) (may : MayDrive a.setting.limits) (port : Line → ℕ) (Fit : Line → Type 0) (plain : (x : Line) → Fit x → IsPlain x) where
  -- by the end of a wait
  pub record Expired (doing : Doing) (at : Pos) (result : Result Process Trouble) : Type 0 where
    pub left : ℕ
    pub line : Line
    pub rest : List Line
    pub is : doing ≡ waits left line rest
    pub at_it : at ≡ at_line line
    pub becomes : Becomes port Fit (offers line rest) (length a.state.objects) result

  pub performs_only : (doing : Doing) (whole : Term) (place : Place) (g : ℕ) (part : Term) (at : Pos) (r result : Result Process Trouble)
      → PartIs port Fit doing whole place g part → Performs a g part at r
      → result ≡ and_then r (settled a at whole place) → Expired doing at result
  performs_only _ _ _ _ _ at r result (around_it doing whole place g part around) is leaves =
      absurd (around_never_performs a g part at r around is)
  performs_only _ _ _ _ _ at r result (ended whole place g) is leaves = absurd (done_never_performs a g at r is)
  performs_only _ _ _ _ _ at r result (delayed left x rest t fit fits waits_so) is leaves =
      let h = waiting_performs a 1 x left t at r waits_so is in
      record {
        left = left;
        line = x;
        rest = rest;
        is = refl;
        at_it = h.0;
        becomes = record {
          process = swept (left_by a.state (called (offering port x rest)));
          is =
              leaves
              ∙ ap (λ (q : Result Process Trouble). and_then q (settled a at (called (sequence t (behind port x rest))) (0 ∷ 0 ∷ []))) h.1
              ∙ settled_wait port a may.height at t x rest a.state;
          does = offering_it x rest fit fits;
          has = refl;
        };
      }
  performs_only _ _ _ _ _ at r result (exchanges x rest fit fits) is leaves =
      absurd (exchange_never_performs a 1 (port x) x x.entry.transfer at r is)

  pub record Performs_at (whole : Term) (x : Line) : Type 0 where
    pub part : Term
    pub active : IsActive a whole (0 ∷ 0 ∷ []) 1 part
    pub performs : Performs a 1 part (at_line x) (Ok (done_in a.state))

  pub performs_there : (left : ℕ) (x : Line) (rest : List Line) (whole : Term) → IsDoing port Fit (waits left x rest) whole → Performs_at whole x
  performs_there _ _ _ _ (waiting_for left x rest t fit fits is) =
      record { part = t; active = active_in_sequence a t (behind port x rest); performs = waiting_performs_there a 1 x left t is }

  -- by a send
  pub record Gave (doing : Doing) (parcel : ParcelView) (result : Result Process Trouble) : Type 0 where
    pub line : Line
    pub rest : List Line
    pub values : List Value
    pub is : doing ≡ offers line rest
    pub sends : line.entry.transfer ≡ Send values
    pub paid : length values ≤ a.setting.limits.units
    pub parcel_is : parcel ≡ record { values = values; objects = [] }
    pub becomes : Becomes port Fit (begins rest) (length a.state.objects) result

  pub hands_only : (doing : Doing) (whole : Term) (place : Place) (g : ℕ) (part : Term) (parcel : ParcelView) (at : Pos) (r result : Result Process Trouble)
      → PartIs port Fit doing whole place g part → Hands a g parcel part at r
      → result ≡ and_then r (settled a at whole place) → Gave doing parcel result
  hands_only _ _ _ _ _ parcel at r result (around_it doing whole place g part around) is leaves =
      absurd (around_never_hands a g parcel part at r around is)
  hands_only _ _ _ _ _ parcel at r result (ended whole place g) is leaves =
      absurd (done_never_hands a g parcel at r is)
  hands_only _ _ _ _ _ parcel at r result (delayed left x rest t fit fits waits_so) is leaves =
      absurd (waiting_never_hands a 1 parcel x left t at r waits_so is)
  hands_only _ _ _ _ _ parcel at r result (exchanges x rest fit fits) is leaves =
      let h = exchange_hands a may.depth 1 (port x) x parcel x.entry.transfer at r (plain x fit).values is in
      record {
        line = x;
        rest = rest;
        values = h.values;
        is = refl;
        sends = h.sends;
        paid = h.paid;
        parcel_is = h.parcel_is;
        becomes = record {
          process = swept (left_by a.state (whole_then port rest));
          is =
              leaves
              ∙ ap (λ (q : Result Process Trouble). and_then q (settled a at (called (offering port x rest)) (place_of (offers x rest)))) h.leaves
              ∙ settled_exchange port a may.height at x rest a.state;
          does = begins_so port Fit rest fits;
          has = refl;
        };
      }

  pub hands_there : (x : Line) (values : List Value) (parcel : ParcelView) → Fit x → x.entry.transfer ≡ Send values
      → length values ≤ a.setting.limits.units → parcel ≡ record { values = values; objects = [] }
      → Hands a 1 parcel (leaf (exchange (port x) x x.entry.transfer)) (at_line x) (Ok (done_in a.state))
  hands_there x values parcel fit is low parcel_is =
      exchange_hands_there a may.depth 1 (port x) x parcel x.entry.transfer values is (subst (λ (q : Transfer). All IsConstant (values_in q)) is (plain x fit).values) low parcel_is

  -- by a receive
  pub record Took (doing : Doing) (parcel : ParcelView) (result : Result Process Trouble) : Type 0 where
    pub line : Line
    pub rest : List Line
    pub count : ℕ
    pub is : doing ≡ offers line rest
    pub receives : line.entry.transfer ≡ Receive count
    pub taken : TakenOr a port Fit line rest parcel result

  took : (x : Line) (rest : List Line) (at : Pos) (parcel : ParcelView) (r result : Result Process Trouble) → All Fit rest → TakenBy a x parcel r
      → result ≡ and_then r (settled a at (called (offering port x rest)) (place_of (offers x rest))) → TakenOr a port Fit x rest parcel result
  took x rest at parcel _ result fits (taken s room count) leaves =
      fits_in room (record {
        process = swept (left_by s (whole_then port rest));
        is = leaves ∙ settled_exchange port a may.height at x rest s;
        does = begins_so port Fit rest fits;
        has = count;
      })
  took x rest at parcel _ result fits (is_full unfit) leaves = too_full unfit leaves

  pub takes_only : (doing : Doing) (whole : Term) (place : Place) (g : ℕ) (part : Term) (parcel : ParcelView) (at : Pos) (r result : Result Process Trouble)
      → PartIs port Fit doing whole place g part → Takes a g parcel part at r
      → result ≡ and_then r (settled a at whole place) → Took doing parcel result
  takes_only _ _ _ _ _ parcel at r result (around_it doing whole place g part around) is leaves =
      absurd (around_never_takes a g parcel part at r around is)
  takes_only _ _ _ _ _ parcel at r result (ended whole place g) is leaves =
      absurd (done_never_takes a g parcel at r is)
  takes_only _ _ _ _ _ parcel at r result (delayed left x rest t fit fits waits_so) is leaves =
      absurd (waiting_never_takes a 1 parcel x left t at r waits_so is)
  takes_only _ _ _ _ _ parcel at r result (exchanges x rest fit fits) is leaves =
      let h = exchange_takes a 1 (port x) x parcel x.entry.transfer at r is in
      record {
        line = x;
        rest = rest;
        count = h.count;
        is = refl;
        receives = h.receives;
        taken = took x rest at parcel r result fits h.leaves leaves;
      }

  pub takes_there : (x : Line) (count : ℕ) (parcel : ParcelView) → x.entry.transfer ≡ Receive count
      → (r : Result Process Trouble) × Takes a 1 parcel (leaf (exchange (port x) x x.entry.transfer)) (at_line x) r
  takes_there x count parcel is = exchange_takes_there a 1 (port x) x parcel x.entry.transfer count is
