-- A part that is found in the nodes does its deed under a mark.
use Rattle.std.proofs.Common.{◌≡◌, ◌≤◌, ◌+◌, arith, ℕ, List, [], ◌∷◌, length, Option, Result, Ok, Err, sym, subst, ap, ◌∙◌}
use Rattle.std.specs.Prelude.{MatchResult, IfOk}
use Rattle.pz_classes_code.specs.pz_syntax.declared.tokens.Pos.{Pos}
use Rattle.pz_rules.specs.pz_copy.Parcels.{ParcelView}
use Rattle.pz_nodes_shapes.specs.Rose.{Map}
use Rattle.pz_nodes_shapes.specs.Seen.{seen}
use Rattle.pz_rules.specs.pz_offer.PlaceOrder.{Place}
use Rattle.pz_rules.specs.pz_offer.declared.trouble.Trouble.{Trouble}
use Rattle.pz_part_actions.specs.Becoming.{HasPerformed, process_left}
use Rattle.pz_rules.specs.declared.action.Kind.{Kind}
use Rattle.pz_rules.specs.InternalActions.{Can}
use Rattle.pz_part_actions.specs.Homes.{seen_home}
use Rattle.pz_part_actions.specs.pz_part_opening.declared.home.Home.{Home}
use Rattle.pz_part_actions.specs.pz_part_queries.Parts.{IsPartAt}
use Rattle.pz_part_actions.specs.pz_part_queries.declared.standpoint.Standpoint.{Standpoint}
use Rattle.pz_rules.specs.declared.term.Term as code
use Rattle.pz_rules.specs.Laws.{part_of, WhatCanActs, WhatSendsIsASend, WhatReceivesIsAReceive}
use Rattle.pz_rules.specs.Settings.{Context, Process, left_by}
use Rattle.pz_rules.specs.Terms.{Term, child}
use Rattle.pz_rules.specs.View.{term_view}
use Rattle.pz_rules.specs.pz_state.Marks.{Seen, marked, undone, undone_from}
use Rattle.pz_rules.specs.pz_state.States.{StateView}
use Rattle.pz_tree_regrowing.specs.pz_tree_standing.Frames.{open_as, HaveOpened, PartsOpen, PerformedOpens, HandedOpens, TakenOpens}
use Rattle.pz_tree_regrowing.specs.pz_tree_standing.FrameCounts.{times}
use Rattle.pz_tree_regrowing.specs.pz_tree_nodes.declared.node.What.{What}
use Rattle.pz_tree_regrowing.specs.pz_tree_nodes.View.{Plant, what_view, term_in_option}
use Rattle.pz_rules.specs.Short.{IsShort}
use Rattle.pz_tree_regrowing.specs.Costs.{on_way}
use Rattle.pz_tree_regrowing.specs.pz_tree_nodes.Seeking.{SeekRule, ActiveAtPlace, TendedStand}
use Rattle.pz_tree_acting.specs.declared.how.How.{How}
use Rattle.pz_tree_acting.specs.declared.how.How.TheVariants.{Internal, Send, Receive}
use Rattle.pz_tree_acting.specs.declared.beginning.Begun.{Begun}
use Rattle.pz_tree_acting.specs.Deeds.{able, deed, CanDo}
use Rattle.pz_tree_acting.specs.Acting.{Rooted}
use Rattle.pz_tree_acting.specs.devices.Begun.{ActsSo, IsHanded, DeedRule, IsBegun, Opens}
use Rattle.pz_tree_acting.specs.devices.Parts.{IsSimple, PartRule}
use Rattle.pz_tree_acting.proofs.Found.{simple_from, able_place, found_at, rooted_stands}
use Rattle.pz_tree_acting.proofs.Marked.{becomes_ok}
use Rattle.pz_tree_acting.proofs.Calm.{deed_short, answer_short, part_short}

-- ------------------------------------------------------------ the part

pub located : TendedStand → ActiveAtPlace → (m : Map What) (key : Option ℕ) (c : ℕ) (p : Option Plant) → Rooted m key c p
    → (how : How) (parcel : ParcelView) (a : Context) (place : Place) → CanDo (able how parcel) a (term_in_option c p) place
    → (k : Option ℕ) (f d : ℕ) → SeekRule (seen what_view m) key 0 c place k f d → (y : Term) → PartRule (seen what_view m) k d y → IsPartAt 0 (term_in_option c p) place f y
located stand places m key c p rooted how parcel a place can k f d seek y part =
    let t = term_in_option c p in
    let found = seek t (rooted_stands stand m key c p rooted) in
    let at = places a 0 t place can.frame can.part can.active in
    let simple : IsSimple (part_of t place) =
    subst IsSimple at.0 (simple_from can.it_holds.0 can.part (able_place how parcel a can.frame can.part can.it_holds.0 can.it_holds.1)) in
    found_at places t place f y found.in_frame (part (part_of t place) found.part found.bare simple)

pub acts_so : WhatCanActs → WhatSendsIsASend → WhatReceivesIsAReceive → (how : How) (parcel : ParcelView) (a : Context) (g : ℕ) (x : Term) (pos : Pos) → able how parcel a g x pos → ActsSo how x
acts_so acts sends receives Internal parcel a g x pos can = acts a g x can.0 pos can.1
acts_so acts sends receives Send parcel a g x pos can = sends a g x pos can.0 can.1 parcel can.2
acts_so acts sends receives (Receive taken) parcel a g x pos can = receives x pos can.0 can.1 can.2 can.3

-- ------------------------------------------------------------ its mark

pub begun_state : (s0 s1 s2 s3 : Seen) (point : ℕ) (r : Result Begun Trouble) → s1 ≡ marked s0 point → s2.marks ≡ s1.marks
    → MatchResult r (λ b. (s3 ≡ s2) × (b.point ≡ point)) (λ t. s3 ≡ undone s2) → IsBegun s0 s3 r
begun_state s0 s1 s2 s3 point (Ok b) is same held =
    ap (λ (s : Seen). s.marks) held.0 ∙ same ∙ ap (λ (s : Seen). s.marks) is ∙ ap (λ (n : ℕ). let ms : List (ℕ × StateView) = (n, s0.held) ∷ s0.marks in ms) (sym held.1)
begun_state s0 s1 s2 s3 point (Err t) is same held =
    held ∙ ap (λ (ms : List (ℕ × StateView)). undone_from ms s2) (same ∙ ap (λ (s : Seen). s.marks) is)

-- ------------------------------------------------------------ what it becomes

deed_opens : PerformedOpens → HandedOpens → TakenOpens → (how : How) (parcel : ParcelView) (a : Context) (f : ℕ) (t : Term) (pos : Pos) (x : Process) → deed how parcel a f t pos (Ok x) → PartsOpen a x
deed_opens performed handed taken Internal parcel a f t pos x acts = performed a f t pos x acts
deed_opens performed handed taken Send parcel a f t pos x acts = handed a f parcel t pos x acts
deed_opens performed handed taken (Receive parcel2) parcel a f t pos x acts = taken a f parcel2.now t pos x acts

module _ (here : Standpoint) (home : Home) (how : How) (parcel : ParcelView) (s1 s2 : StateView) (f : ℕ) (y : Term) (left : Result code.Term Trouble)
    (rule : DeedRule here home how s1 f y (process_left s2 left)) (pos : Pos) (can : able how parcel (seen_home here home s1) f y pos) where
  pub part_left_short : IfOk left (λ t. IsShort (term_view t))
  part_left_short =
      let a = seen_home here home s1 in
      let done = rule parcel pos can in
      part_short s2 left (answer_short a pos done.0 (process_left s2 left) done.2 (deed_short a how parcel f y pos done.0 done.1))

  pub deed_opened : PerformedOpens → HandedOpens → TakenOpens → (part : code.Term) → left ≡ Ok part → (n : ℕ) → HaveOpened home.edition (times n (term_view part)) (open_as n s1) (open_as n s2)
  deed_opened performed handed taken part is =
      let a = seen_home here home s1 in
      let q : Process = left_by s2 (term_view part) in
      let done = rule parcel pos can in
      let became : done.0 ≡ Ok q = becomes_ok a pos done.0 (process_left s2 left) q done.2 (ap (process_left s2) is) in
      deed_opens performed handed taken how parcel a f y pos q (subst (λ r. deed how parcel a f y pos r) became done.1)

pub begun_short : (left : Result code.Term Trouble) (r : Result Begun Trouble) → IfOk r (λ b. left ≡ Ok b.part) → IfOk left (λ t. IsShort (term_view t)) → IfOk r (λ b. IsShort (term_view b.part))
begun_short left (Ok b) is h = subst (λ l. IfOk l (λ t. IsShort (term_view t))) is h
begun_short left (Err t) is h = tt

pub begun_opens : (e : Rattle.pz_rules.specs.declared.limits.Edition.Edition) (s0 s1 s2 s3 : Seen) (point : ℕ) (left : Result code.Term Trouble) (r : Result Begun Trouble)
    → s1 ≡ marked s0 point → IfOk r (λ b. left ≡ Ok b.part) → MatchResult r (λ b. (s3 ≡ s2) × (b.point ≡ point)) (λ t. s3 ≡ undone s2)
    → ((part : code.Term) → left ≡ Ok part → (n : ℕ) → HaveOpened e (times n (term_view part)) (open_as n s1.held) (open_as n s2.held)) → Opens e s0.held s3.held r
begun_opens e s0 s1 s2 s3 point left (Ok b) is part held opens = λ n.
    subst (λ (s : Seen). HaveOpened e (times n (term_view b.part)) (open_as n s0.held) (open_as n s.held)) (sym held.0)
    (subst (λ (s : Seen). HaveOpened e (times n (term_view b.part)) (open_as n s.held) (open_as n s2.held)) is (opens b.part part n))
begun_opens e s0 s1 s2 s3 point left (Err t) is part held opens = tt

-- the part that is found can do it, also in an equal state
pub deed_can : (here : Standpoint) (home : Home) (how : How) (parcel : ParcelView) (s0 s1 : StateView) (t : Term) (place : Place) (there : CanDo (able how parcel) (seen_home here home s0) t place) (f : ℕ) (y : Term)
    → IsPartAt 0 t place f y → s1 ≡ s0 → able how parcel (seen_home here home s1) f y there.it_holds.0
deed_can here home how parcel s0 s1 t place there f y found same =
    let pos = there.it_holds.0 in
    let is = found (seen_home here home s0) there.frame there.part there.active in
    subst (λ s. able how parcel (seen_home here home s) f y pos) (sym same)
    (subst (λ g. able how parcel (seen_home here home s0) g y pos) (sym is.0)
    (subst (λ x. able how parcel (seen_home here home s0) there.frame x pos) (sym is.1) there.it_holds.1))

-- ------------------------------------------------------------ by each way to act

module _ (here : Standpoint) (home : Home) (how : How) (s new : StateView) (f : ℕ) (part : Term) where
  abbrev IsDone : Result code.Term Trouble → Type 0
  IsDone left = DeedRule here home how s f part (process_left new left)

  pub done_alone : {E : Type 0} (r : Result (Result code.Term Trouble) E) → how ≡ Internal
      → ((kind : Kind) (pos : Pos) → Can (seen_home here home s) f part kind pos → IfOk r (λ left. HasPerformed (seen_home here home s) f part pos (process_left new left))) → IfOk r IsDone
  done_alone (Ok left) is rule =
      subst (λ (h : How). DeedRule here home h s f part (process_left new left)) (sym is)
      (λ parcel pos can. let d = rule can.0 pos can.1 in (d.left, d.performs, d.becomes))
  done_alone (Err e) is rule = tt

  pub done_handing : {E : Type 0} (r : Result (Result code.Term Trouble) E) → how ≡ Send → IfOk r (IsHanded here home s f part new) → IfOk r IsDone
  done_handing (Ok left) is rule = subst (λ (h : How). DeedRule here home h s f part (process_left new left)) (sym is) rule
  done_handing (Err e) is rule = tt

-- ------------------------------------------------------------ its answer, and what it costs

pub answer_is : (s : StateView) (left : Result code.Term Trouble) (r : Result Begun Trouble) → IfOk r (λ b. left ≡ Ok b.part) → IfOk r (λ b. process_left s left ≡ Ok (left_by s (term_view b.part)))
answer_is s left (Ok b) is = ap (process_left s) is
answer_is s left (Err t) is = tt

-- as many parts are on the way to a place as it has numbers, and one
pub numbers_few : (t : Term) (place : Place) → length place + 1 ≤ on_way t place
numbers_few t [] = omega arith
numbers_few t (i ∷ place) = omega (arith, numbers_few (child t i) place)
