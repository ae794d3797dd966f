-- A part that has acted, while all that it did can still be undone; and what becomes of the process when it stays.
use Rattle.std.specs.Prelude.{◌≡◌, ◌≤◌, ◌+◌, ℕ, List, ◌∷◌, Option, Result, Ok, Err}
use Rattle.pz_rules.specs.pz_copy.Parcels.{ParcelView}
use Rattle.pz_nodes_shapes.specs.Rose.{Map, has_option}
use Rattle.pz_nodes_shapes.specs.Change.{BecomesOption}
use Rattle.pz_rules.specs.pz_offer.PlaceOrder.{Place}
use Rattle.pz_rules.specs.pz_offer.declared.trouble.Trouble.{Trouble}
use Rattle.pz_part_actions.specs.Becoming.{Becomes, process_left}
use Rattle.pz_part_actions.specs.Homes.{seen_home}
use Rattle.pz_part_actions.specs.pz_part_opening.declared.home.Home as opening
use Rattle.pz_part_actions.specs.pz_part_opening.Homes.{home_view}
use Rattle.pz_part_actions.specs.pz_part_queries.declared.standpoint.Standpoint.{Standpoint}
use Rattle.pz_rules.specs.declared.term.Term as code
use Rattle.pz_rules.specs.Acting.{IsActing, IsSend, IsReceive}
use Rattle.pz_rules.specs.declared.limits.Edition.{Edition}
use Rattle.pz_rules.specs.Laws.{part_of}
use Rattle.pz_rules.specs.Leaving.{residual, swept, not_too_high}
use Rattle.pz_rules.specs.Meanings.{and_then}
use Rattle.pz_rules.specs.Messages.{Hands, Takes}
use Rattle.pz_rules.specs.Places.{MayAct}
use Rattle.pz_rules.specs.Settings.{Process, Context, left_by, Home}
use Rattle.pz_rules.specs.Steps.{Deed}
use Rattle.pz_rules.specs.Terms.{Term}
use Rattle.pz_rules.specs.View.{term_view}
use Rattle.pz_rules.specs.pz_state.Marks.{Seen, older}
use Rattle.pz_rules.specs.pz_state.States.{StateView}
use Rattle.pz_classes_code.specs.pz_syntax.declared.tokens.Pos.{Pos}
use Rattle.pz_tree_regrowing.specs.pz_tree_standing.FrameCounts.{count_in, times}
use Rattle.pz_tree_regrowing.specs.pz_tree_standing.Frames.{open_as, FramesStand, HaveOpened}
use Rattle.pz_tree_regrowing.specs.pz_tree_nodes.declared.node.What.{What}
use Rattle.pz_tree_regrowing.specs.pz_tree_nodes.View.{Plant, term_in_option}
use Rattle.pz_tree_regrowing.specs.pz_tree_nodes.Tended.{TendedOption}
use Rattle.pz_tree_regrowing.specs.pz_tree_nodes.Planting.{root_of}
use Rattle.pz_rules.specs.Short.{IsShort}
use Rattle.pz_tree_acting.specs.declared.how.How.{How}
use Rattle.pz_tree_acting.specs.declared.how.How.TheVariants.{Internal, Send, Receive}
use Rattle.pz_tree_acting.specs.declared.beginning.Begun.{Begun}
use Rattle.pz_tree_acting.specs.Deeds.{Ability, CanSend, CanReceive, able, deed, CanDo, Leaves}
use Rattle.pz_tree_regrowing.specs.Regrowing.{steps_for}
use Rattle.pz_tree_acting.specs.Acting.{Rooted}
use Rattle.pz_tree_acting.specs.devices.Closing.{Counts}

-- ------------------------------------------------------------ the deed

-- a part of the sort that acts so
abbrev pub ActsSo : How → Term → Type 0
ActsSo Internal part = IsActing part
ActsSo Send part = IsSend part
ActsSo (Receive taken) part = IsReceive part

-- what it becomes by its deed is answered so
abbrev pub IsAnswered : Ability → Deed → Context → ℕ → Term → Result Process Trouble → Type 0
IsAnswered can does a f y answer = (pos : Pos) → can a f y pos → (left : Result Process Trouble) × does a f y pos left × Becomes a pos left answer

-- so it is of a send, whatever parcel it offers
abbrev pub IsHanded : Standpoint → opening.Home → StateView → ℕ → Term → StateView → Result code.Term Trouble → Type 0
IsHanded here home s f part new left = (parcel : ParcelView) → IsAnswered (CanSend parcel) (λ a g. Hands a g parcel) (seen_home here home s) f part (process_left new left)

-- and of a receive that takes this parcel
abbrev pub IsTaken : Standpoint → opening.Home → StateView → ℕ → Term → ParcelView → StateView → Result code.Term Trouble → Type 0
IsTaken here home s f part parcel new left = IsAnswered CanReceive (λ a g. Takes a g parcel) (seen_home here home s) f part (process_left new left)

abbrev pub DeedRule : Standpoint → opening.Home → How → StateView → ℕ → Term → Result Process Trouble → Type 0
DeedRule here home how s f part answer = (parcel : ParcelView) → IsAnswered (able how parcel) (deed how parcel) (seen_home here home s) f part answer

-- ------------------------------------------------------------ under a mark

-- the whole process at home, when the part at the place has become this
abbrev pub settled_home : Home → Context → Pos → Term → Place → Process → Result Process Trouble
settled_home h a at whole place x = not_too_high a at (swept (residual h 0 whole place x))

-- the process in this state, once the part at the place has become what it is now
abbrev pub begun_process : Home → Term → Place → StateView → Result Begun Trouble → Result Process Trouble
begun_process h t place s (Ok begun) = Ok (swept (residual h 0 t place (left_by s (term_view begun.part))))
begun_process h t place s (Err trouble) = Err trouble

-- the part became what has begun
abbrev pub IsLeftBy : Result Process Trouble → StateView → Result Begun Trouble → Type 0
IsLeftBy left s (Ok begun) = left ≡ Ok (left_by s (term_view begun.part))
IsLeftBy left s (Err trouble) = Unit {0}

-- its mark is open, at the state as it was; at a trouble all is as it was
abbrev pub IsBegun : Seen → Seen → Result Begun Trouble → Type 0
IsBegun old new (Ok begun) = new.marks ≡ (begun.point, old.held) ∷ old.marks
IsBegun old new (Err trouble) = new ≡ old

-- what the part has become stands in frames that have opened since
abbrev pub Opens : Edition → StateView → StateView → Result Begun Trouble → Type 0
Opens e old new (Ok begun) = (n : ℕ) → HaveOpened e (times n (term_view begun.part)) (open_as n old) (open_as n new)
Opens e old new (Err trouble) = Unit {0}

-- by whatever tended nodes stand under the root
abbrev pub HoldRule : Standpoint → opening.Home → Map What → Option ℕ → Place → Pos → StateView → Result code.Term Trouble → Result Begun Trouble → Type 0
HoldRule here home m root place pos held left result =
    (c : ℕ) (p : Option Plant) (s : StateView) → Rooted m root c p → MayAct (term_in_option c p) place
    → begun_process (home_view home) (term_in_option c p) place held result
    ≡ and_then (process_left held left) (settled_home (home_view home) (seen_home here home s) pos (term_in_option c p) place)

abbrev pub BeginRule : Standpoint → opening.Home → How → Map What → Option ℕ → Place → StateView → StateView → Result Begun Trouble → Type 0
BeginRule here home how m root place old new result =
    (p : Option Plant) (parcel : ParcelView)
    → Rooted m root here.clock p
    → CanDo (able how parcel) (seen_home here home old) (term_in_option here.clock p) place
    → (l : Leaves (seen_home here home old) (deed how parcel) (term_in_option here.clock p) place (begun_process (home_view home) (term_in_option here.clock p) place new result))
    × IsLeftBy l.left new result

-- ------------------------------------------------------------ what stays

-- what is left of the process stands under the key that is handed out, its last mark is open no more, and it took so many
-- steps
pub record Stays (h : Home) (m n : Map What) (c : ℕ) (p : Option Plant) (place : Place) (x : Term) (out : Option ℕ) (old new : Seen) (begun ended : ℕ) : Type 0 where
  pub plant : Option Plant
  pub under : root_of plant ≡ out
  pub becomes : BecomesOption m n (has_option p) plant
  pub tended : TendedOption 0 c plant
  pub means : ◌≡◌ {A = Process} (left_by new.held (term_in_option c plant)) (swept (residual h 0 (term_in_option c p) place (left_by old.held x)))
  pub frames : FramesStand (term_in_option c plant) new.held
  pub marks : new.marks ≡ older old.marks
  pub ticks : ended ≤ begun + steps_for h 0 (term_in_option c p) place old x

-- some tended nodes stand under the root, for a term of which a part at the place may act
abbrev pub MayGoOn : Map What → Option ℕ → ℕ → Place → Type 0
MayGoOn m root c place = (p : Option Plant) × Rooted m root c p × MayAct (term_in_option c p) place

-- where just the frames of the term and of what the part has become are open, and none in the part itself, and those of
-- the term are listed; what it has become has short delays
pub record IsReady (e : Edition) (t : Term) (place : Place) (x : Term) (s : StateView) (listed : List ℕ) : Type 0 where
  pub may_act : MayAct t place
  pub opened : (n : ℕ) → HaveOpened e (times n x) (times n t) (open_as n s)
  pub alone : (n : ℕ) → times n (part_of t place) ≡ 0
  pub counted : (n : ℕ) → Counts e (count_in n listed) (times n t)
  pub short : IsShort x

abbrev pub StayRule : Home → Map What → Map What → Option ℕ → ℕ → Place → Term → List ℕ → Option ℕ → Seen → Seen → ℕ → ℕ → Type 0
StayRule h m n root c place x listed out old new begun ended =
    (p : Option Plant) → Rooted m root c p → IsReady h.edition (term_in_option c p) place x old.held listed → Stays h m n c p place x out old new begun ended
