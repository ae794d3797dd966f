-- What is left of a process, once what its part did stays or is undone.
use Rattle.std.proofs.Common.{◌≡◌, ◌≤◌, ℕ, Bool, true, List, [], ◌++◌, ◌+◌, ◌*◌, arith, Result, Ok, Err, Option, refl, sym, subst, ap, ◌∙◌}
use Rattle.std.specs.Prelude.{if◌then◌else◌, nat_le, IfOk}
use Rattle.pz_classes_code.specs.pz_syntax.declared.tokens.Pos.{Pos}
use Rattle.pz_rules.specs.pz_state.States.{StateView}
use Rattle.pz_rules.specs.pz_state.Marks.{Seen, IsLatest, point_of_first, undone, undone_from, kept, older}
use Rattle.pz_rules.specs.pz_copy.Parcels.{ParcelView}
use Rattle.pz_nodes_shapes.specs.Rose.{Map}
use Rattle.pz_rules.specs.pz_offer.PlaceOrder.{Place}
use Rattle.pz_rules.specs.pz_offer.declared.trouble.Trouble.{Trouble}
use Rattle.pz_rules.specs.pz_offer.declared.trouble.Trouble.TheVariants.{High}
use Rattle.pz_part_actions.specs.pz_part_opening.declared.home.Home as opening
use Rattle.pz_part_actions.specs.pz_part_opening.Homes.{home_view}
use Rattle.pz_part_actions.specs.Becoming.{process_left}
use Rattle.pz_part_actions.specs.Homes.{seen_home}
use Rattle.pz_part_actions.specs.pz_part_queries.declared.standpoint.Standpoint.{Standpoint}
use Rattle.pz_rules.specs.declared.term.Term as code
use Rattle.pz_rules.specs.Becoming.{Became}
use Rattle.pz_rules.specs.Terms.{Term, height, frames_in}
use Rattle.pz_rules.specs.Settings.{Process, Context, left_by, Home, home_of}
use Rattle.pz_rules.specs.declared.limits.Edition.{Edition}
use Rattle.pz_rules.specs.declared.limits.Edition.TheVariants.{One, Two}
use Rattle.pz_rules.specs.Laws.{part_of}
use Rattle.pz_rules.specs.Terms as terms
use Rattle.pz_rules.specs.Leaving.{residual, swept}
use Rattle.pz_rules.specs.Meanings.{and_then}
use Rattle.pz_rules.specs.Places.{MayAct}
use Rattle.pz_rules.specs.View.{term_view}
use Rattle.pz_tree_regrowing.specs.pz_tree_nodes.declared.node.What.{What}
use Rattle.pz_tree_regrowing.specs.pz_tree_nodes.View.{Plant, term_in_option}
use Rattle.pz_tree_regrowing.specs.pz_tree_standing.FrameCounts.{count_in, times, lost_all, gained_all}
use Rattle.pz_tree_regrowing.specs.pz_tree_standing.Laws.{FramesStandOrAreLost}
use Rattle.pz_tree_regrowing.proofs.pz_tree_standing_proofs.FrameCounts.{count_append}
use Rattle.pz_tree_regrowing.specs.pz_tree_standing.Frames.{open_as, FramesStand, HaveOpened, AroundOpens}
use Rattle.pz_tree_regrowing.specs.pz_tree_nodes.Seeking.{ActiveAtPlace}
use Rattle.pz_term_residual.specs.Laws.{ActivePartsMayAct}
use Rattle.pz_rules.specs.Short.{IsShort}
use Rattle.pz_tree_regrowing.specs.Costs.{on_way, made_all, dropped_all}
use Rattle.pz_tree_regrowing.specs.Regrowing.{at_work, RegrowRule}
use Rattle.pz_tree_regrowing.specs.Heights.{LowRule}
use Rattle.pz_tree_acting.specs.declared.how.How.{How}
use Rattle.pz_tree_acting.specs.declared.beginning.Begun.{Begun}
use Rattle.pz_tree_acting.specs.Deeds.{able, deed, CanDo, Leaves}
use Rattle.pz_tree_acting.specs.Acting.{Rooted, acting_steps, ActRule, TrialRule, TrialSteps}
use Rattle.pz_tree_acting.specs.devices.Begun.{settled_home, begun_process, IsLeftBy, IsBegun, Opens, HoldRule, BeginRule, MayGoOn, StayRule}
use Rattle.pz_tree_acting.specs.devices.Closing.{HasListed, AlsoLists, Counts, StandBy, CloseRule}
use Rattle.pz_tree_acting.specs.devices.Parts.{IsSimple}
use Rattle.pz_tree_acting.proofs.Found.{simple_from, able_place}

-- ------------------------------------------------------------ whether the whole stays low

settled_low : (h : Home) (a : Context) (at : Pos) (t : Term) (place : Place) (x : Process) (b : Bool) → nat_le (height (residual h 0 t place x).term) a.setting.limits.height ≡ b
    → settled_home h a at t place x ≡ (if b then Ok (swept (residual h 0 t place x)) else Err (High a.process at))
settled_low h a at t place x b is =
    ap (λ (z : Bool). let r : Result Process Trouble = if z then Ok (swept (residual h 0 t place x)) else Err (High a.process at) in r) is

module _ (here : Standpoint) (home : opening.Home) (m : Map What) (root : Option ℕ) (place : Place) (pos : Pos) (held : StateView) (left : Result code.Term Trouble) where
  pub held_trouble : (trouble : Trouble) → left ≡ Err trouble → HoldRule here home m root place pos held left (Err trouble)
  held_trouble trouble is c p s rooted may =
      sym (ap (λ (r : Result code.Term Trouble). and_then (process_left held r) (settled_home (home_view home) (seen_home here home s) pos (term_in_option c p) place)) is)

  module _ (part : code.Term) (low : Bool) (is : left ≡ Ok part) (rule : LowRule (home_view home) m root place (term_view part) here.limits.height low) where
    whole : (b : Bool) → low ≡ b → (c : ℕ) (p : Option Plant) (s : StateView) → Rooted m root c p → MayAct (term_in_option c p) place
        → and_then (process_left held left) (settled_home (home_view home) (seen_home here home s) pos (term_in_option c p) place)
        ≡ (if b then Ok (swept (residual (home_view home) 0 (term_in_option c p) place (left_by held (term_view part)))) else Err (High here.process pos))
    whole b is_low c p s rooted may =
        ap (λ (r : Result code.Term Trouble). and_then (process_left held r) (settled_home (home_view home) (seen_home here home s) pos (term_in_option c p) place)) is
        ∙ settled_low (home_view home) (seen_home here home s) pos (term_in_option c p) place (left_by held (term_view part)) b
        (sym (rule 0 c 0 p held rooted.under rooted.stands rooted.tended may) ∙ is_low)

    pub held_low : (begun : Begun) → low ≡ true → begun.part ≡ part → HoldRule here home m root place pos held left (Ok begun)
    held_low begun is_low same c p s rooted may =
        ap (λ (x : code.Term). let r : Result Process Trouble = Ok (swept (residual (home_view home) 0 (term_in_option c p) place (left_by held (term_view x)))) in r) same
        ∙ sym (whole true is_low c p s rooted may)

    pub held_high : low ≡ Rattle.std.specs.Prelude.false → HoldRule here home m root place pos held left (Err (High here.process pos))
    held_high is_low c p s rooted may = sym (whole Rattle.std.specs.Prelude.false is_low c p s rooted may)

-- ------------------------------------------------------------ what stays

became_is : (x : Process) (t : Term) (old new : Seen) → Became x t old new → ◌≡◌ {A = Process} (left_by new.held t) x
became_is x t old new b =
    ap (λ (u : Term). let p : Process = left_by new.held u in p) b.term
    ∙ ap (λ (s : Seen). let p : Process = left_by s.held x.term in p) b.state

-- all that is listed in the end stands, or is lost
counts_settle : (e : Edition) (k : ℕ) (r lost part t gained before after : ℕ) (x : Term) (listed more all fresh : List ℕ) → r + (lost + part) ≡ t + times k x + gained → part ≡ 0
    → HaveOpened e (times k x) t before → HaveOpened e gained before after
    → Counts e (count_in k listed) t → AlsoLists e x listed more → all ≡ more ++ fresh → count_in k fresh ≡ gained
    → StandBy e r lost (count_in k all) after
counts_settle One k r lost part t gained before after x listed more all fresh law none opened around counts also is new = omega (arith, law, none, opened, around)
counts_settle Two k r lost part t gained before after x listed more all fresh law none opened around counts also is new =
    let m : count_in k more ≡ count_in k listed + times k x = ap (count_in k) also ∙ count_append k listed (frames_in x) in
    let a : count_in k all ≡ count_in k more + count_in k fresh = ap (count_in k) is ∙ count_append k more fresh in
    (omega (arith, law, none, counts, m, a, new), omega (arith, opened, around, counts, m, a, new))

pub stays : FramesStandOrAreLost → AroundOpens → (h : Home) (m n : Map What) (root : Option ℕ) (c : ℕ) (place : Place) (x : Term) (out : Option ℕ) (s0 s1 s2 s3 : Seen) (none found listed more all : List ℕ) (old new : ℕ)
    → none ≡ [] → AlsoLists h.edition x listed more → RegrowRule h root 0 c place x out (at_work m s0 none more old) (at_work n s1 found all new)
    → CloseRule h.edition all found s1 s2 → s3 ≡ kept s2 → StayRule h m n root c place x listed out s0 s3 old new
stays counted around h m n root c place x out s0 s1 s2 s3 none found listed more all old new is_none also regrows closes is_kept p rooted ready =
    let g = regrows p rooted.under rooted.stands rooted.tended ready.may_act (record { room = rooted.room; short = rooted.short; part = ready.short }) in
    let t = term_in_option c p in
    let u = term_in_option c g.plant in
    let q = left_by s0.held x in
    let r = residual h 0 t place q in
    let is : left_by s1.held u ≡ r = became_is r u s0 s1 g.means in
    let lost : found ≡ lost_all h 0 t place q = g.lost ∙ ap (λ l. l ++ lost_all h 0 t place q) is_none in
    let counts : (k : ℕ) → StandBy h.edition (times k u) (count_in k found) (count_in k all) (open_as k s1.held) = λ k.
    subst (λ (z : Process). StandBy h.edition (times k z.term) (count_in k found) (count_in k all) (open_as k z.state)) (sym is)
    (subst (λ l. StandBy h.edition (times k r.term) (count_in k l) (count_in k all) (open_as k r.state)) (sym lost)
    (counts_settle h.edition k (times k r.term) (count_in k (lost_all h 0 t place q)) (times k (part_of t place)) (times k t) (count_in k (gained_all h 0 t place q)) (open_as k s0.held) (open_as k r.state)
    x listed more all (gained_all h 0 t place q)
    (counted h k 0 t place q ready.may_act) (ready.alone k) (ready.opened k) (around h k 0 t place q) (ready.counted k) also g.gained refl)) in
    let closed = closes u counts in
    record {
      plant = g.plant;
      under = g.under;
      becomes = g.becomes;
      tended = g.tended;
      means = ap (λ (s : Seen). let z : Process = left_by s.held u in z) (is_kept ∙ ap kept closed.state) ∙ ap swept is;
      frames = subst (λ (s : Seen). FramesStand u s.held) (sym is_kept) closed.stand;
      marks = ap (λ (s : Seen). s.marks) (is_kept ∙ ap kept closed.state) ∙ ap (λ (s : Seen). older s.marks) g.means.state;
      ticks = g.ticks;
    }

pub still_latest : (h : Home) (m n : Map What) (root : Option ℕ) (c : ℕ) (place : Place) (x : Term) (out : Option ℕ) (s0 s1 s2 : Seen) (none found more all : List ℕ) (old new point : ℕ)
    → RegrowRule h root 0 c place x out (at_work m s0 none more old) (at_work n s1 found all new) → MayGoOn m root c place → IsShort x → s2.marks ≡ s1.marks → IsLatest s0 point → IsLatest s2 point
still_latest h m n root c place x out s0 s1 s2 none found more all old new point regrows stands short same latest =
    let rooted = stands.1 in
    let g = regrows stands.0 rooted.under rooted.stands rooted.tended stands.2 (record { room = rooted.room; short = rooted.short; part = short }) in
    ap point_of_first (same ∙ ap (λ (s : Seen). s.marks) g.means.state) ∙ latest

-- ------------------------------------------------------------ of what has begun

pub begun_latest : (old new : Seen) (r : Result Begun Trouble) (begun : Begun) → r ≡ Ok begun → IsBegun old new r → IsLatest new begun.point
begun_latest old new r begun is state = ap point_of_first (subst (IsBegun old new) is state)

pub begun_undone : (old new : Seen) (r : Result Begun Trouble) (begun : Begun) → r ≡ Ok begun → IsBegun old new r → undone new ≡ old
begun_undone old new r begun is state = ap (λ (ms : List (ℕ × StateView)). undone_from ms new) (subst (IsBegun old new) is state)

pub begun_trouble : (old new : Seen) (r : Result Begun Trouble) (trouble : Trouble) → r ≡ Err trouble → IsBegun old new r → new ≡ old
begun_trouble old new r trouble is state = subst (IsBegun old new) is state

pub begun_older : (old new : Seen) (r : Result Begun Trouble) (begun : Begun) → r ≡ Ok begun → IsBegun old new r → older new.marks ≡ old.marks
begun_older old new r begun is state = ap older (subst (IsBegun old new) is state)

module _ (here : Standpoint) (home : opening.Home) (how : How) (m : Map What) (root : Option ℕ) (place : Place) (old mid : Seen) (r : Result Begun Trouble)
    (begins : BeginRule here home how m root place old.held mid.held r) where
  pub acts_trouble : (n : Map What) (new : Seen) (begun ended : ℕ) (trouble : Trouble) → r ≡ Err trouble → ActRule here home how m n root place (Err trouble) old new begun ended
  acts_trouble n new begun ended trouble is p parcel rooted there stand =
      subst (λ (x : Result Begun Trouble). Leaves (seen_home here home old.held) (deed how parcel) (term_in_option here.clock p) place (begun_process (home_view home) (term_in_option here.clock p) place mid.held x)) is
      (begins p parcel rooted there).0

  pub tries_trouble : (trouble : Trouble) → r ≡ Err trouble → TrialRule here home how m root place (Err trouble) old.held
  tries_trouble trouble is p parcel rooted there =
      subst (λ (x : Result Begun Trouble). Leaves (seen_home here home old.held) (deed how parcel) (term_in_option here.clock p) place (begun_process (home_view home) (term_in_option here.clock p) place mid.held x)) is
      (begins p parcel rooted there).0

  so_far : (begun : Begun) → r ≡ Ok begun → (p : Option Plant) (parcel : ParcelView) → Rooted m root here.clock p → CanDo (able how parcel) (seen_home here home old.held) (term_in_option here.clock p) place
      → (l : Leaves (seen_home here home old.held) (deed how parcel) (term_in_option here.clock p) place (Ok (swept (residual (home_view home) 0 (term_in_option here.clock p) place (left_by mid.held (term_view begun.part))))))
      × (l.left ≡ Ok (left_by mid.held (term_view begun.part)))
  so_far begun is p parcel rooted there =
      subst (λ (x : Result Begun Trouble). (l : Leaves (seen_home here home old.held) (deed how parcel) (term_in_option here.clock p) place (begun_process (home_view home) (term_in_option here.clock p) place mid.held x)) × IsLeftBy l.left mid.held x) is
      (begins p parcel rooted there)

  pub tries_well : (begun : Begun) → r ≡ Ok begun → TrialRule here home how m root place (Ok tt) old.held
  tries_well begun is p parcel rooted there = (swept (residual (home_view home) 0 (term_in_option here.clock p) place (left_by mid.held (term_view begun.part))), (so_far begun is p parcel rooted there).0)

  pub acts_well : ActivePartsMayAct → ActiveAtPlace → (begun : Begun) (n : Map What) (new : Seen) (out : Option ℕ) (listed : List ℕ) (first halfway last : ℕ) → r ≡ Ok begun → older mid.marks ≡ old.marks
      → Opens home.edition old.held mid.held (Ok begun) → IsShort (term_view begun.part) → HasListed home.edition old.held listed
      → TrialSteps here home how m root place old.held first halfway
      → StayRule (home_view home) m n root here.clock place (term_view begun.part) listed out mid new halfway last
      → ActRule here home how m n root place (Ok out) old new first last
  acts_well law places begun n new out listed first halfway last is marks opens short has few stays_rule p parcel rooted there stand =
      let a = seen_home here home old.held in
      let t = term_in_option here.clock p in
      let at = places a 0 t place there.frame there.part there.active in
      let s = stays_rule p rooted (record {
        may_act = law a t place there.frame there.part there.active;
        opened = λ k. subst (λ z. HaveOpened home.edition (times k (term_view begun.part)) z (open_as k mid.held)) (sym (stand k)) (opens k);
        short = short;
        alone = λ k. alone k (part_of t place) (subst IsSimple at.0 (simple_from there.it_holds.0 there.part (able_place how parcel a there.frame there.part there.it_holds.0 there.it_holds.1)));
        counted = λ k. listed_counted home.edition old.held listed (times k t) k has (stand k);
      }) in
      let l = so_far begun is p parcel rooted there in
      let x = left_by mid.held (term_view begun.part) in
      let soon : halfway ≤ first + 5 * on_way t place = few p parcel rooted there in
      let later : last ≤ halfway + (11 * on_way t place + made_all (home_of a) 0 t place x + 2 * dropped_all (home_of a) 0 t place x) = s.ticks in
      record {
        plant = s.plant;
        under = s.under;
        becomes = s.becomes;
        tended = s.tended;
        leaves = record { frame = l.0.frame; part = l.0.part; active = l.0.active; pos = l.0.pos; left = l.0.left; acts = l.0.acts; leaves = ap (λ (x : Process). let r : Result Process Trouble = Ok x in r) s.means ∙ l.0.leaves };
        frames = s.frames;
        marks = s.marks ∙ marks;
        ticks = subst (λ (r : Result Process Trouble). IfOk r (λ x. last ≤ first + acting_steps a t place x)) (sym l.1) (let q : last ≤ first + 16 * (on_way t place + made_all (home_of a) 0 t place x + dropped_all (home_of a) 0 t place x) = omega (arith, soon, later) in q);
      }
    where
      listed_counted : (e : Edition) (s : StateView) (listed : List ℕ) (stand k : ℕ) → HasListed e s listed → stand ≡ open_as k s → Counts e (count_in k listed) stand
      listed_counted One s listed stand k has is = tt
      listed_counted Two s listed stand k has is = ap (count_in k) has ∙ sym is

      alone : (k : ℕ) (t : Term) → IsSimple t → times k t ≡ 0
      alone k (terms.leaf s) h = refl
      alone k (terms.wait left at) h = refl
      alone k terms.done h = absurd h
      alone k (terms.sequence t rest) h = absurd h
      alone k (terms.parallel ts) h = absurd h
      alone k (terms.select ts) h = absurd h
      alone k (terms.guarded test at t) h = absurd h
      alone k (terms.frame number inputs results t) h = absurd h
      alone k (terms.abort t u) h = absurd h
      alone k (terms.idle t u again) h = absurd h
      alone k (terms.handling t u again) h = absurd h

pub begun_has_opened : (e : Edition) (old new : StateView) (r : Result Begun Trouble) (begun : Begun) → r ≡ Ok begun → Opens e old new r → Opens e old new (Ok begun)
begun_has_opened e old new r begun is opens = subst (Opens e old new) is opens

pub begun_is_short : (r : Result Begun Trouble) (begun : Begun) → r ≡ Ok begun → IfOk r (λ b. IsShort (term_view b.part)) → IsShort (term_view begun.part)
begun_is_short r begun is short = subst (λ x. IfOk x (λ b. IsShort (term_view b.part))) is short
