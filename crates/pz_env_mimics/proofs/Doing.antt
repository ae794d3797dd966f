-- What an environment says where it does something, as a process.
use Rattle.std.proofs.Common.{◌≡◌, ◌<◌, ◌≤◌, ℕ, Bool, true, List, [], ◌∷◌, length, Result, Ok, All, refl, sym, ap, subst}
use Rattle.pz_env_tree.specs.pz_syntax.declared.tokens.Pos.{Pos}
use Rattle.pz_env_tree.specs.pz_value.declared.value.Value.{Value}
use Rattle.pz_env_tree.specs.pz_copy.Parcels.{ParcelView}
use Rattle.pz_env_tree.specs.pz_offer.PlaceOrder.{Place}
use Rattle.pz_env_tree.specs.pz_offer.declared.trouble.Trouble.{Trouble}
use Rattle.pz_env_tree.specs.pz_offer.declared.trouble.Trouble.TheVariants.{Spent}
use Rattle.pz_env_tree.specs.pz_rules.declared.action.Kind.{Kind}
use Rattle.pz_env_tree.specs.pz_rules.declared.action.Kind.TheVariants.{Expire}
use Rattle.pz_env_tree.specs.pz_rules.Terms.{Term, leaf}
use Rattle.pz_env_tree.specs.pz_rules.Settings.{Context}
use Rattle.pz_env_tree.specs.pz_rules.Active.{IsActive}
use Rattle.pz_env_tree.specs.pz_rules.InternalActions.{Can}
use Rattle.pz_env_tree.specs.pz_rules.Messages.{Sends, Receives, Judges}
use Rattle.pz_env_tree.specs.pz_rules.Asking.{Asks}
use Rattle.pz_env_tree.specs.pz_rules.Delays.{Delays}
use Rattle.pz_env_tree.specs.pz_env_script.declared.entry.Transfer.{Transfer}
use Rattle.pz_env_tree.specs.pz_env_script.declared.entry.Transfer.TheVariants.{Send, Receive}
use Rattle.pz_env_tree.specs.pz_env_script.Entries.{values_in}
use Rattle.pz_env_tree.specs.pz_env_rules.Environment.{Line, at_line, Doing, waits, offers}
use Rattle.pz_env_mimics.specs.Environments.{exchange, IsPlain}
use Rattle.pz_env_mimics.specs.Closing.{MayDrive}
use Rattle.pz_env_mimics.proofs.Literals.{IsConstant}
use Rattle.pz_env_mimics.proofs.Environment.{behind, IsDoing, waiting_for, offering_it, place_of, active_offering, active_in_sequence, PartIs, around_it, ended, delayed, exchanges}
use Rattle.pz_env_mimics.proofs.Speaking as speaking
use Rattle.pz_env_mimics.proofs.Silent.{around_cannot, around_never_sends, around_never_receives, around_never_judges, around_never_asks, around_never_delays, done_cannot, done_never_sends, done_never_receives, done_never_judges, done_never_asks, done_never_delays}

-- it waits, and nothing is left of it
pub record Expires (doing : Doing) (place : Place) (kind : Kind) (at : Pos) : Type 0 where
  pub line : Line
  pub rest : List Line
  pub is : doing ≡ waits 0 line rest
  pub there : place ≡ place_of doing
  pub expires : kind ≡ Expire
  pub at_it : at ≡ at_line line

-- it sends these values
pub record GivesOut (port : Line → ℕ) (Fit : Line → Type 0) (units : ℕ) (doing : Doing) (place : Place) (at : Pos) (over_port : ℕ) (message : List ℕ) (parcel : ParcelView) : Type 0 where
  pub line : Line
  pub rest : List Line
  pub values : List Value
  pub is : doing ≡ offers line rest
  pub fit : Fit line
  pub there : place ≡ place_of doing
  pub sends : line.entry.transfer ≡ Send values
  pub paid : length values ≤ units
  pub at_it : at ≡ at_line line
  pub over_it : over_port ≡ port line
  pub name : message ≡ line.entry.message
  pub parcel_is : parcel ≡ record { values = values; objects = [] }

-- it receives so many values
pub record TakesIn (port : Line → ℕ) (Fit : Line → Type 0) (doing : Doing) (place : Place) (at : Pos) (over_port : ℕ) (message : List ℕ) (count : ℕ) : Type 0 where
  pub line : Line
  pub rest : List Line
  pub is : doing ≡ offers line rest
  pub fit : Fit line
  pub there : place ≡ place_of doing
  pub receives : line.entry.transfer ≡ Receive count
  pub at_it : at ≡ at_line line
  pub over_it : over_port ≡ port line
  pub name : message ≡ line.entry.message

-- it has more values to send than there are units
pub record LacksUnits (units process : ℕ) (doing : Doing) (place : Place) (trouble : Trouble) : Type 0 where
  pub line : Line
  pub rest : List Line
  pub values : List Value
  pub is : doing ≡ offers line rest
  pub there : place ≡ place_of doing
  pub sends : line.entry.transfer ≡ Send values
  pub more : units < length values
  pub trouble_is : trouble ≡ Spent process (at_line line)

-- it waits, and so much is left
pub record HasLeft (doing : Doing) (left : ℕ) : Type 0 where
  pub line : Line
  pub rest : List Line
  pub is : doing ≡ waits left line rest

module _ (a : Context) (may : MayDrive a.setting.limits) (port : Line → ℕ) (Fit : Line → Type 0) (plain : (x : Line) → Fit x → IsPlain x) where
  constants : (x : Line) → Fit x → All IsConstant (values_in x.entry.transfer)
  constants x fit = (plain x fit).values

  pub sent_constants : (x : Line) (values : List Value) → Fit x → x.entry.transfer ≡ Send values → All IsConstant values
  sent_constants x values fit is =
      subst (λ (r : Transfer). All IsConstant (values_in r)) is (constants x fit)

  -- What it says is what it does

  pub can_only : (doing : Doing) (whole : Term) (place : Place) (g : ℕ) (part : Term) (kind : Kind) (at : Pos)
      → PartIs port Fit doing whole place g part → Can a g part kind at → Expires doing place kind at
  can_only _ _ _ _ _ kind at (around_it doing whole place g part around) can = absurd (around_cannot a g part kind at around can)
  can_only _ _ _ _ _ kind at (ended whole place g) can = absurd (done_cannot a g kind at can)
  can_only _ _ _ _ _ kind at (delayed left x rest t fit fits is) can =
      let h = speaking.waiting_can a may 1 x left t kind at (plain x fit) is can in
      record { line = x; rest = rest; is = ap (λ (n : ℕ). waits n x rest) h.0; there = refl; expires = h.1; at_it = h.2 }
  can_only _ _ _ _ _ kind at (exchanges x rest fit fits) can =
      absurd (speaking.exchange_cannot a may 1 (port x) x x.entry.transfer kind at can)

  pub sends_only : (doing : Doing) (whole : Term) (place : Place) (g : ℕ) (part : Term) (at : Pos) (number : ℕ) (message : List ℕ) (parcel : ParcelView)
      → PartIs port Fit doing whole place g part → Sends a g part at number message parcel
      → GivesOut port Fit a.setting.limits.units doing place at number message parcel
  sends_only _ _ _ _ _ at number message parcel (around_it doing whole place g part around) is =
      absurd (around_never_sends a g part at number message parcel around is)
  sends_only _ _ _ _ _ at number message parcel (ended whole place g) is =
      absurd (done_never_sends a g at number message parcel is)
  sends_only _ _ _ _ _ at number message parcel (delayed left x rest t fit fits waiting_so) is =
      absurd (speaking.waiting_never_sends a may 1 x left t at number message parcel waiting_so is)
  sends_only _ _ _ _ _ at number message parcel (exchanges x rest fit fits) is =
      let h = speaking.exchange_says a may 1 (port x) x x.entry.transfer at number message parcel (constants x fit) is in
      record {
        line = x;
        rest = rest;
        values = h.values;
        is = refl;
        fit = fit;
        there = refl;
        sends = h.sends;
        paid = h.paid;
        at_it = h.at_it;
        over_it = h.over_it;
        name = h.name;
        parcel_is = h.parcel_is;
      }

  pub receives_only : (doing : Doing) (whole : Term) (place : Place) (g : ℕ) (part : Term) (at : Pos) (number : ℕ) (message : List ℕ) (count : ℕ)
      → PartIs port Fit doing whole place g part → Receives part at number message count
      → TakesIn port Fit doing place at number message count
  receives_only _ _ _ _ _ at number message count (around_it doing whole place g part around) is =
      absurd (around_never_receives part at number message count around is)
  receives_only _ _ _ _ _ at number message count (ended whole place g) is =
      absurd (done_never_receives at number message count is)
  receives_only _ _ _ _ _ at number message count (delayed left x rest t fit fits waiting_so) is =
      absurd (speaking.waiting_never_receives a may x left t at number message count waiting_so is)
  receives_only _ _ _ _ _ at number message count (exchanges x rest fit fits) is =
      let h = speaking.exchange_hears a may (port x) x x.entry.transfer at number message count is in
      record {
        line = x;
        rest = rest;
        is = refl;
        fit = fit;
        there = refl;
        receives = h.receives;
        at_it = h.at_it;
        over_it = h.over_it;
        name = h.name;
      }

  pub judges_only : (doing : Doing) (whole : Term) (place : Place) (g : ℕ) (part : Term) (parcel : ParcelView) (verdict : Result Bool Trouble)
      → PartIs port Fit doing whole place g part → Judges a g parcel part verdict → verdict ≡ Ok true
  judges_only _ _ _ _ _ parcel verdict (around_it doing whole place g part around) is =
      absurd (around_never_judges a g parcel part verdict around is)
  judges_only _ _ _ _ _ parcel verdict (ended whole place g) is = absurd (done_never_judges a g parcel verdict is)
  judges_only _ _ _ _ _ parcel verdict (delayed left x rest t fit fits waiting_so) is =
      absurd (speaking.waiting_never_judges a may 1 x left parcel t verdict waiting_so is)
  judges_only _ _ _ _ _ parcel verdict (exchanges x rest fit fits) is =
      speaking.exchange_judged a may 1 (port x) x x.entry.transfer parcel verdict is

  pub asks_only : (doing : Doing) (whole : Term) (place : Place) (g : ℕ) (part : Term) (trouble : Trouble) → PartIs port Fit doing whole place g part
      → Asks a g part trouble → LacksUnits a.setting.limits.units a.process doing place trouble
  asks_only _ _ _ _ _ trouble (around_it doing whole place g part around) is =
      absurd (around_never_asks a g part trouble around is)
  asks_only _ _ _ _ _ trouble (ended whole place g) is = absurd (done_never_asks a g trouble is)
  asks_only _ _ _ _ _ trouble (delayed left x rest t fit fits waiting_so) is =
      absurd (speaking.waiting_never_asks a may 1 x left t trouble (plain x fit) waiting_so is)
  asks_only _ _ _ _ _ trouble (exchanges x rest fit fits) is =
      let h = speaking.exchange_lacks a may 1 (port x) x x.entry.transfer trouble (constants x fit) is in
      record { line = x; rest = rest; values = h.values; is = refl; there = refl; sends = h.sends; more = h.more; trouble_is = h.is }

  pub delays_only : (doing : Doing) (whole : Term) (place : Place) (g : ℕ) (part : Term) (left : ℕ) → PartIs port Fit doing whole place g part
      → Delays a g part left → HasLeft doing left
  delays_only _ _ _ _ _ left (around_it doing whole place g part around) is =
      absurd (around_never_delays a g part left around is)
  delays_only _ _ _ _ _ left (ended whole place g) is = absurd (done_never_delays a g left is)
  delays_only _ _ _ _ _ left (delayed before x rest t fit fits waiting) is =
      record { line = x; rest = rest; is = ap (λ (n : ℕ). waits n x rest) (sym (speaking.waiting_left a may 1 x before t left (plain x fit) waiting is)) }
  delays_only _ _ _ _ _ left (exchanges x rest fit fits) is =
      absurd (speaking.exchange_never_delays a may 1 (port x) x x.entry.transfer left is)

  -- What it does it says

  pub record Can_at (whole : Term) (place : Place) (kind : Kind) (at : Pos) : Type 0 where
    pub part : Term
    pub active : IsActive a whole place 1 part
    pub can : Can a 1 part kind at

  pub expires_there : (x : Line) (rest : List Line) (whole : Term) → IsDoing port Fit (waits 0 x rest) whole → Can_at whole (0 ∷ 0 ∷ []) Expire (at_line x)
  expires_there _ _ _ (waiting_for _ x rest t fit fits is) =
      record { part = t; active = active_in_sequence a t (behind port x rest); can = speaking.waiting_acts a may 1 x 0 t (plain x fit) is refl }

  pub record Delays_at (whole : Term) (left : ℕ) : Type 0 where
    pub part : Term
    pub active : IsActive a whole (0 ∷ 0 ∷ []) 1 part
    pub delays : Delays a 1 part left

  pub delays_there : (left : ℕ) (x : Line) (rest : List Line) (whole : Term) → IsDoing port Fit (waits left x rest) whole → Delays_at whole left
  delays_there _ _ _ _ (waiting_for left x rest t fit fits is) =
      record { part = t; active = active_in_sequence a t (behind port x rest); delays = speaking.waiting_delays a may 1 x left t (plain x fit) is }

  -- a line that is offered, as a part
  pub record Offers_at (x : Line) (rest : List Line) (whole : Term) : Type 0 where
    pub fit : Fit x
    pub fits : All Fit rest
    pub active : IsActive a whole (place_of (offers x rest)) 1 (leaf (exchange (port x) x x.entry.transfer))

  pub offers_there : (x : Line) (rest : List Line) (whole : Term) → IsDoing port Fit (offers x rest) whole → Offers_at x rest whole
  offers_there _ _ _ (offering_it x rest fit fits) =
      record { fit = fit; fits = fits; active = active_offering a port x rest }

  pub sends_there : (x : Line) (values : List Value) → Fit x → x.entry.transfer ≡ Send values → length values ≤ a.setting.limits.units
      → Sends a 1 (leaf (exchange (port x) x x.entry.transfer)) (at_line x) (port x) x.entry.message (record { values = values; objects = [] })
  sends_there x values fit is low =
      speaking.exchange_sends a may 1 (port x) x x.entry.transfer values is (sent_constants x values fit is) low

  pub receives_there : (x : Line) (count : ℕ) → x.entry.transfer ≡ Receive count
      → Receives (leaf (exchange (port x) x x.entry.transfer)) (at_line x) (port x) x.entry.message count
  receives_there x count is = speaking.exchange_receives a may (port x) x x.entry.transfer count is

  pub judges_there : (x : Line) (count : ℕ) (parcel : ParcelView) → x.entry.transfer ≡ Receive count
      → Judges a 1 parcel (leaf (exchange (port x) x x.entry.transfer)) (Ok true)
  judges_there x count parcel is =
      speaking.exchange_judges a may 1 (port x) x x.entry.transfer count parcel is

  pub asks_there : (x : Line) (values : List Value) → Fit x → x.entry.transfer ≡ Send values → a.setting.limits.units < length values
      → Asks a 1 (leaf (exchange (port x) x x.entry.transfer)) (Spent a.process (at_line x))
  asks_there x values fit is more =
      speaking.exchange_asks a may 1 (port x) x x.entry.transfer values is (sent_constants x values fit is) more
