-- A process that stands in two configurations and sees the same there: what the rules say of its parts in the
-- one they say in the other.
use Rattle.std.proofs.Common.{ℕ, Bool, true, List, Result, Ok, Err, ◌∙◌}
use Rattle.pz_rules.specs.pz_syntax.declared.tokens.Pos.{Pos}
use Rattle.pz_rules.specs.pz_syntax.Classes.{ModelTree}
use Rattle.pz_rules.specs.pz_copy.Parcels.{ParcelView}
use Rattle.pz_rules.specs.pz_offer.declared.end.End.{End}
use Rattle.pz_rules.specs.pz_offer.declared.trouble.Trouble.{Trouble}
use Rattle.pz_rules.specs.declared.action.Kind.{Kind}
use Rattle.pz_rules.specs.declared.action.Action.TheVariants.{Internal, Comm}
use Rattle.pz_rules.specs.Terms.{Term}
use Rattle.pz_rules.specs.Settings.{Setting, Process, Context}
use Rattle.pz_rules.specs.InternalActions.{Performs}
use Rattle.pz_rules.specs.Messages.{Hands, Takes}
use Rattle.pz_rules.specs.Leaving.{settled}
use Rattle.pz_rules.specs.Ports.{IsWire}
use Rattle.pz_rules.specs.Configurations.{Config, Stands}
use Rattle.pz_rules.specs.Offers as offers
use Rattle.pz_rules.specs.Offers.{PartAt, IsPair, IsJudged, Offers}
use Rattle.pz_rules.specs.Steps.{Deed, Acts}
use Rattle.pz_rules.specs.Moments as moments
use Rattle.pz_rules.specs.Moments.{part, pair, Troubles, IsLeft}
use Rattle.pz_env_same.specs.SameRules.{seen_in, SeesTheSame}
use Rattle.pz_env_same.proofs.Openings.{settled_same}
use Rattle.pz_env_same.proofs.Parts.{is_active, asks, can, sends, judges, has_left}
use Rattle.pz_env_same.proofs.Deeds.{after_same, performs, hands, takes}

-- process i of the first configuration stands in the second, and sees the same there
pub record Meets (g : Setting) (c : Config) (h : Setting) (e : Config) (i : ℕ) : Type 0 where
  pub stands : (q : Process) (a : Context) → Stands g c i q a → Stands h e i q (seen_in h.model a)
  pub sees : (q : Process) (a : Context) → Stands g c i q a → SeesTheSame h.model a
  pub wires : (port wire : ℕ) → IsWire g.model i port wire → IsWire h.model i port wire

-- what parts leave by this deed in a setting they leave where the same is seen
pub record IsTheSame (does : Deed) : Type 0 where
  pub there : (n : ModelTree) (a : Context) → SeesTheSame n a → (f : ℕ) (t : Term) (pos : Pos) (r : Result Process Trouble) → does a f t pos r → does (seen_in n a) f t pos r

pub performs_same : IsTheSame Performs
performs_same = record { there = performs }

pub hands_same : (parcel : ParcelView) → IsTheSame (λ a f. Hands a f parcel)
hands_same parcel = record { there = λ n a same f t pos r. hands n a same f parcel t pos r }

pub takes_same : (parcel : ParcelView) → IsTheSame (λ a f. Takes a f parcel)
takes_same parcel = record { there = λ n a same f t pos r. takes n a same f parcel t pos r }

module _ (g : Setting) (c : Config) (h : Setting) (e : Config) where
  pub part_meets : (at : End) → Meets g c h e at.process → (a : Context) (f : ℕ) (t : Term) → PartAt g c at a f t → PartAt h e at (seen_in h.model a) f t
  part_meets at meets a f t is = record {
    process = is.process;
    stands = meets.stands is.process a is.stands;
    active = is_active h.model a (meets.sees is.process a is.stands) 0 is.process.term at.place f t is.active;
  }

  sees_at : (at : End) → Meets g c h e at.process → (a : Context) (f : ℕ) (t : Term) → PartAt g c at a f t → SeesTheSame h.model a
  sees_at at meets a f t is = meets.sees is.process a is.stands

  -- Offers

  pub internal_meets : (at : End) (kind : Kind) (pos : Pos) → Meets g c h e at.process → Offers g c (Internal at kind pos) → Offers h e (Internal at kind pos)
  internal_meets _ _ _ meets (offers.internal at a f t kind pos is does) =
      offers.internal at (seen_in h.model a) f t kind pos (part_meets at meets a f t is) (can h.model a (sees_at at meets a f t is) f t kind pos does)

  pub pair_meets : (wire : ℕ) (s r : End) (message : List ℕ) (parcel : ParcelView) → Meets g c h e s.process → Meets g c h e r.process
      → IsPair g c wire s r message parcel → IsPair h e wire s r message parcel
  pair_meets wire s r message parcel meets_s meets_r is = record {
    sends_at = seen_in h.model is.sends_at;
    sends_frame = is.sends_frame;
    sends_part = is.sends_part;
    sender_active = part_meets s meets_s is.sends_at is.sends_frame is.sends_part is.sender_active;
    sends_pos = is.sends_pos;
    sends_port = is.sends_port;
    sends = sends h.model is.sends_at (sees_at s meets_s is.sends_at is.sends_frame is.sends_part is.sender_active) is.sends_frame is.sends_part is.sends_pos is.sends_port message parcel is.sends;
    receives_at = seen_in h.model is.receives_at;
    receives_frame = is.receives_frame;
    receives_part = is.receives_part;
    receiver_active = part_meets r meets_r is.receives_at is.receives_frame is.receives_part is.receiver_active;
    receives_pos = is.receives_pos;
    receives_port = is.receives_port;
    receives = is.receives;
    two = is.two;
    sender_wire = meets_s.wires is.sends_port wire is.sender_wire;
    receiver_wire = meets_r.wires is.receives_port wire is.receiver_wire;
  }

  pub judged_meets : (r : End) (parcel : ParcelView) (verdict : Result Bool Trouble) → Meets g c h e r.process → IsJudged g c r parcel verdict → IsJudged h e r parcel verdict
  judged_meets r parcel verdict meets is = record {
    seen = seen_in h.model is.seen;
    frame = is.frame;
    part = is.part;
    active = part_meets r meets is.seen is.frame is.part is.active;
    judges = judges h.model is.seen (sees_at r meets is.seen is.frame is.part is.active) is.frame parcel is.part verdict is.judges;
  }

  pub communication_meets : (wire : ℕ) (s r : End) (message : List ℕ) (parcel : ParcelView) → Meets g c h e s.process → Meets g c h e r.process
      → Offers g c (Comm wire s r message parcel) → Offers h e (Comm wire s r message parcel)
  communication_meets _ _ _ _ _ meets_s meets_r (offers.communication wire s r message parcel is takes) =
      offers.communication wire s r message parcel (pair_meets wire s r message parcel meets_s meets_r is) (judged_meets r parcel (Ok true) meets_r takes)

  -- Moments

  pub asked_meets : (at : End) (trouble : Trouble) → Meets g c h e at.process → Troubles g c (part at) trouble → Troubles h e (part at) trouble
  asked_meets _ _ meets (moments.asked at a f t trouble is asked) =
      moments.asked at (seen_in h.model a) f t trouble (part_meets at meets a f t is) (asks h.model a (sees_at at meets a f t is) f t trouble asked)

  pub judged_trouble_meets : (wire : ℕ) (s r : End) (trouble : Trouble) → Meets g c h e s.process → Meets g c h e r.process
      → Troubles g c (pair wire s r) trouble → Troubles h e (pair wire s r) trouble
  judged_trouble_meets _ _ _ _ meets_s meets_r (moments.judged wire s r message parcel trouble is wrong) =
      moments.judged wire s r message parcel trouble (pair_meets wire s r message parcel meets_s meets_r is) (judged_meets r parcel (Err trouble) meets_r wrong)

  pub left_meets : (left : ℕ) (is : IsLeft g c left) → Meets g c h e is.at.process → IsLeft h e left
  left_meets left is meets = record {
    at = is.at;
    seen = seen_in h.model is.seen;
    frame = is.frame;
    part = is.part;
    active = part_meets is.at meets is.seen is.frame is.part is.active;
    delays = has_left h.model is.seen (sees_at is.at meets is.seen is.frame is.part is.active) is.frame is.part left is.delays;
  }

  -- Deeds

  pub acts_meets : (does : Deed) → IsTheSame does → (at : End) (r : Result Process Trouble) → Meets g c h e at.process → Acts g c does at r → Acts h e does at r
  acts_meets does same at r meets is =
      let sees = meets.sees is.process is.seen is.stands in
      record {
        process = is.process;
        seen = seen_in h.model is.seen;
        stands = meets.stands is.process is.seen is.stands;
        frame = is.frame;
        part = is.part;
        active = is_active h.model is.seen sees 0 is.process.term at.place is.frame is.part is.active;
        pos = is.pos;
        left = is.left;
        acts = same.there h.model is.seen sees is.frame is.part is.pos is.left is.acts;
        leaves = is.leaves ∙ after_same is.left (settled is.seen is.pos is.process.term at.place) (settled (seen_in h.model is.seen) is.pos is.process.term at.place) (λ x. settled_same h.model is.seen is.pos is.process.term at.place x sees);
      }
