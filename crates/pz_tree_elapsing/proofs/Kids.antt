-- Time passes over the children of a node, one after another.
use Rattle.std.proofs.Common.{◌≡◌, ◌≤◌, ◌+◌, ◌*◌, ◌||◌, ℕ, suc, Bool, true, false, List, [], ◌∷◌, length, drop, Option, Some, None, refl, ap, sym, ◌∙◌, subst, arith, inl, inr}
use Rattle.pz_tree_refreshing.specs.pz_eval_rules.Clocks.{DataIsTimeless}
use Rattle.std.specs.Prelude.{IfSome}
use Rattle.pz_nodes_shapes.specs.declared.node.Node.{Node}
use Rattle.pz_nodes_shapes.specs.Rose.{node, none, gone, more, Map, root, roots, payload, has, has_any, Stands, StandAll}
use Rattle.pz_nodes_shapes.specs.Reading.{depth}
use Rattle.pz_nodes_shapes.proofs.Frames.{or_neither, unless, decided, not_both, stands_kept}
use Rattle.pz_tree_refreshing.specs.pz_offer.Summaries.{MayShift}
use Rattle.pz_tree_refreshing.specs.pz_rules.Settings.{Context}
use Rattle.pz_tree_refreshing.specs.pz_rules.Terms.{Term, done, no_terms, and}
use Rattle.pz_tree_refreshing.specs.pz_rules.devices.Passing.{passed}
use Rattle.pz_tree_refreshing.specs.pz_tree_standing.Asked.{asks}
use Rattle.pz_tree_refreshing.specs.pz_tree_standing.Steady.{later}
use Rattle.pz_tree_refreshing.specs.pz_tree_standing.Summaries.{summary_of}
use Rattle.pz_tree_refreshing.specs.pz_tree_standing.Heads.{Head, leaf, wait, sequence, parallel, select, guarded, frame, abort, idle, handling, shifted, inner_clock}
use Rattle.pz_tree_refreshing.specs.pz_tree_standing.Standing.{terms_of, HeadFits}
use Rattle.pz_tree_refreshing.specs.pz_tree_standing.Reached.{reaches, behind_inside}
use Rattle.pz_tree_refreshing.specs.pz_tree_standing.Right.{Right}
use Rattle.pz_tree_refreshing.proofs.pz_tree_standing_proofs.Passing.{clock_goes}
use Rattle.pz_tree_refreshing.specs.pz_tree_nodes.declared.kept.Kept.{Kept}
use Rattle.pz_tree_refreshing.specs.pz_tree_nodes.declared.node.What.{What}
use Rattle.pz_tree_refreshing.specs.pz_tree_nodes.Keeping.{HasFlags, kept_none, joined, kept_later}
use Rattle.pz_tree_refreshing.specs.pz_tree_nodes.View.{Plant, Plants, shape_of, shapes_of, term_in}
use Rattle.pz_tree_refreshing.specs.pz_tree_nodes.Tended.{Tended}
use Rattle.pz_tree_refreshing.specs.pz_tree_nodes.Fresh.{Flagged}
use Rattle.pz_tree_refreshing.proofs.pz_tree_nodes_proofs.Joins.{joined_associative, joined_none, none_joined}
use Rattle.pz_tree_refreshing.proofs.pz_tree_nodes_proofs.Wakings.{or_none}
use Rattle.pz_tree_refreshing.specs.Live.{live_below}
use Rattle.pz_tree_refreshing.specs.pz_rules.Short.{IsShort}
use Rattle.pz_tree_refreshing.specs.pz_tree_standing.Soon.{HasRoom, IsSoon}
use Rattle.pz_tree_refreshing.specs.Refreshing.{Timely, RefreshRule}
use Rattle.pz_tree_refreshing.specs.devices.Reached.{added, reached_sum, Says}
use Rattle.pz_tree_refreshing.specs.devices.Levels.{IsBare, IsLeft}
use Rattle.pz_tree_refreshing.proofs.pz_tree_standing_proofs.Soon.{clock_back, room_inside}
use Rattle.pz_tree_refreshing.proofs.Short.{may_shift}
use Rattle.pz_tree_refreshing.proofs.Sums.{plus_added}
use Rattle.pz_tree_refreshing.proofs.Kids.{says_more, says_gone, says_unreached, says_reached, still_stand, kid_is, rest_is, nothing_left}
use Rattle.pz_tree_elapsing.specs.Waking.{visited, woken_below}
use Rattle.pz_tree_elapsing.specs.Elapsing.{MayElapse}
use Rattle.pz_tree_elapsing.specs.devices.Wakes.{if_reached}
use Rattle.pz_tree_elapsing.specs.devices.Levels.{NodeElapsed, AtRule, KidsElapsed, KidsRule, IsBrought, KidRule, ElapsesOn, ReturnRule}
use Rattle.pz_tree_elapsing.proofs.Goings.{IsNoWait, head_onward}

or_left : (b : Bool) → false || b ≡ b
or_left b = refl

no_wait : (h : Head) (i : ℕ) → reaches h i ≡ true → IsNoWait h
no_wait (leaf s) i r = tt
no_wait (wait due at) i r = absurd cc
no_wait (sequence rest) i r = tt
no_wait parallel i r = tt
no_wait select i r = tt
no_wait (guarded e at s) i r = tt
no_wait (frame number inputs results) i r = tt
no_wait abort i r = tt
no_wait (idle again s) i r = tt
no_wait (handling again s) i r = tt
no_wait (shifted s) i r = tt

-- ---------------------------------------------------------- the first child

record FirstDone (a : Context) (d : ℕ) (m n : Map What) (f : ℕ) (h : Head) (c i : ℕ) (p : Plant) (k : Kept) (old new : ℕ) : Type 0 where
  plant : Plant
  under : root plant ≡ root p
  keys : (j : ℕ) → has plant j ≡ has p j
  stands : Stands n plant
  only : (j : ℕ) → has p j ≡ false → n j ≡ m j
  means : term_in (inner_clock h i (c + d)) plant ≡ if_reached (reaches h i) (passed a d f (term_in (inner_clock h i c) p)) (term_in (inner_clock h i c) p)
  tended : Tended f (inner_clock h i (c + d)) plant
  right : reaches h i ≡ true → Right (later a d) f (inner_clock h i (c + d)) (shape_of plant)
  flagged : reaches h i ≡ true → Flagged (later a d) f (inner_clock h i (c + d)) plant
  timely : reaches h i ≡ true → Timely (inner_clock h i (c + d)) plant
  short : IsShort (term_in (inner_clock h i (c + d)) plant)
  bare : IsBare p → IsBare plant
  says : Says (later a d) (c + d) f h i (and (term_in (inner_clock h i (c + d)) plant) no_terms) k
  asks_so : k.asks ≡ added ◌||◌ (reaches h i) (asks (term_in (inner_clock h i (c + d)) plant)) false
  ticks : new ≤ old + 4 * visited (reaches h i) (reaches h i) (woken_below (inner_clock h i (c + d)) p plant) (live_below plant)

pub right_top : (b : Context) (f c : ℕ) (p : Plant) → Right b f c (shape_of p) → (payload p).kept.summary ≡ summary_of b c f (term_in c p)
right_top b f c (node k x ps) r = r.0

pub flags_top : (b : Context) (f c : ℕ) (p : Plant) → Flagged b f c p → HasFlags b f (term_in c p) (payload p).kept
flags_top b f c (node k x ps) r = r.0

asks_top : (f c : ℕ) (p : Plant) → Tended f c p → (payload p).kept.asks ≡ asks (term_in c p)
asks_top f c (node k x ps) t = (t.marked.0 c).asked

module _ (a : Context) (d : ℕ) (m n : Map What) (f : ℕ) (h : Head) (c i : ℕ) (p : Plant) (k : Kept) (old new : ℕ) where
  abbrev before : ℕ
  before = inner_clock h i c

  abbrev after : ℕ
  after = inner_clock h i (c + d)

  first_left : reaches h i ≡ false → after ≡ before → Stands m p → Tended f before p → IsShort (term_in before p) → IsLeft m n k old new → FirstDone a d m n f h c i p k old new
  first_left e still st t short x = record {
    plant = p;
    under = refl;
    keys = λ j. refl;
    stands = subst (λ (z : Map What). Stands z p) (sym x.same) st;
    only = λ j q. ap (λ (z : Map What). z j) x.same;
    means = ap (λ z. term_in z p) still ∙ sym (ap (λ b. if_reached b (passed a d f (term_in before p)) (term_in before p)) e);
    tended = subst (λ z. Tended f z p) (sym still) t;
    right = λ r. not_both (reaches h i) r e;
    flagged = λ r. not_both (reaches h i) r e;
    timely = λ r. not_both (reaches h i) r e;
    short = subst (λ z. IsShort (term_in z p)) (sym still) short;
    bare = λ q. q;
    says = says_unreached (later a d) (c + d) f h i (term_in after p) k e x.nothing;
    asks_so = ap (λ (z : Kept). z.asks) x.nothing ∙ sym (ap (λ b. added ◌||◌ b (asks (term_in after p)) false) e);
    ticks = omega (arith, x.ticks);
  }

  module _ (b : Context) (now fuel : ℕ) (seen : later a d ≡ b) (clock : c + d ≡ now) (e : reaches h i ≡ true) (fits : HeadFits h c) (room : HasRoom now)
      (st : Stands m p) (deep : depth p ≤ fuel) (methods : DataIsTimeless a.setting.model) (may : MayElapse a d f before p)
      (x : IsBrought b m n f h now i fuel (root p) k old new) where
    goes : after ≡ before + d
    goes = clock_goes h i c d fits e

    onward : HeadFits h (c + d)
    onward = head_onward h c d (no_wait h i e) fits

    room_now : HasRoom (c + d)
    room_now = subst HasRoom (sym clock) room

    back : after + behind_inside h i ≡ c + d
    back = clock_back h (c + d) i onward e

    r : NodeElapsed a d m n f before p x.kept (old + 1) new
    r = x.rule a d before seen (sym goes ∙ ap (inner_clock h i) clock) p st refl deep methods may (subst (λ z. HasRoom (inner_clock h i z)) clock (room_inside h (c + d) i onward e room_now))

    first_brought : FirstDone a d m n f h c i p k old new
    first_brought =
        let tended : Tended f after r.plant = subst (λ z. Tended f z r.plant) (sym goes) r.tended in
        let right : Right (later a d) f after (shape_of r.plant) = subst (λ z. Right (later a d) f z (shape_of r.plant)) (sym goes) r.fresh.right in
        let flagged : Flagged (later a d) f after r.plant = subst (λ z. Flagged (later a d) f z r.plant) (sym goes) r.fresh.flagged in
        let soon = subst (λ z. IsSoon z x.kept.summary.due) (sym goes) r.soon in
        let is : k ≡ kept_later (behind_inside h i) x.kept = x.brought (may_shift (c + d) after (behind_inside h i) x.kept back room_now soon) in
        record {
          plant = r.plant;
          under = r.under;
          keys = r.keys;
          stands = r.stands;
          only = r.only;
          means = ap (λ z. term_in z r.plant) goes ∙ r.means ∙ sym (ap (λ z. if_reached z (passed a d f (term_in before p)) (term_in before p)) e);
          tended = tended;
          right = λ g. right;
          flagged = λ g. flagged;
          timely = λ g. subst (λ z. Timely z r.plant) (sym goes) r.timely;
          short = subst (λ z. IsShort (term_in z r.plant)) (sym goes) r.short;
          bare = r.bare;
          says = says_reached (later a d) (c + d) f h i after (behind_inside h i) (term_in after r.plant) k x.kept e back
              (ap (λ (z : Kept). z.summary) r.kept ∙ right_top (later a d) f after r.plant right)
              (subst (HasFlags (later a d) f (term_in after r.plant)) (sym r.kept) (flags_top (later a d) f after r.plant flagged))
              soon is;
          asks_so = ap (λ (z : Kept). z.asks) (is ∙ ap (kept_later (behind_inside h i)) r.kept) ∙ asks_top f after r.plant tended
              ∙ sym (or_none (asks (term_in after r.plant))) ∙ sym (ap (λ z. added ◌||◌ z (asks (term_in after r.plant)) false) e);
          ticks =
              let cost : visited (reaches h i) (reaches h i) (woken_below after p r.plant) (live_below r.plant) ≡ suc (woken_below (before + d) p r.plant) =
              ap (λ z. visited z z (woken_below after p r.plant) (live_below r.plant)) e ∙ ap (λ z. suc (woken_below z p r.plant)) goes in
              omega (arith, r.ticks, cost);
        }

first_done : (a : Context) (d : ℕ) (m n : Map What) (f : ℕ) (h : Head) (c i : ℕ) (p : Plant) (k : Kept) (old new : ℕ) (b : Context) (now fuel : ℕ) → later a d ≡ b → c + d ≡ now
    → HeadFits h c → HasRoom now → Stands m p → depth p ≤ fuel → DataIsTimeless a.setting.model
    → (reaches h i ≡ true → MayElapse a d f (inner_clock h i c) p) → (reaches h i ≡ false → inner_clock h i (c + d) ≡ inner_clock h i c) → Tended f (inner_clock h i c) p → IsShort (term_in (inner_clock h i c) p)
    → KidRule b m n f h now i fuel (Some (root p)) k old new → FirstDone a d m n f h c i p k old new
first_done a d m n f h c i p k old new b now fuel seen clock fits room st deep methods may still t short x = elim (decided (reaches h i)) [
  | inl e ↦ first_brought a d m n f h c i p k old new b now fuel seen clock e fits room st deep methods (may e) (x.1 e)
  | inr e ↦ first_left a d m n f h c i p k old new e (still e) st t short (x.0 e)
]

-- ---------------------------------------------------------- before others

pub no_kids : (b : Context) (m : Map What) (f : ℕ) (h : Head) (now i fuel old : ℕ) → KidsRule b m m f h now i fuel [] kept_none old old
no_kids b m f h now i fuel old a d c seen clock none st r deep methods may fits room = record {
  plants = none;
  under = refl;
  keys = λ j. refl;
  stand = tt;
  only = λ j e. refl;
  means = refl;
  tended = tt;
  right = tt;
  flagged = tt;
  timely = tt;
  short = tt;
  bare = λ q. q;
  says = record { summary = refl; starts = refl; clocked = refl; soon = tt };
  asks = refl;
  ticks = omega arith;
}
no_kids b m f h now i fuel old a d c seen clock (gone ps) st r deep methods may fits room = absurd cc
no_kids b m f h now i fuel old a d c seen clock (more p ps) st r deep methods may fits room = absurd cc

-- a child that is gone, before others
gone_beside : (a : Context) (d : ℕ) (m n : Map What) (f : ℕ) (h : Head) (c i : ℕ) (ps : Plants) (l : Kept) (old new : ℕ) → KidsElapsed a d m n f h c (suc i) ps l old new → KidsElapsed a d m n f h c i (gone ps) l old new
gone_beside a d m n f h c i ps l old new x = record {
  plants = gone x.plants;
  under = ap (λ z. None ∷ z) x.under;
  keys = x.keys;
  stand = x.stand;
  only = x.only;
  means = λ j. and (sym (same_if (reaches h i) done) j) (x.means j);
  tended = x.tended;
  right = x.right;
  flagged = x.flagged;
  timely = x.timely;
  short = (tt, x.short);
  bare = x.bare;
  says = says_gone (later a d) (c + d) f h i (terms_of h (c + d) (suc i) (shapes_of x.plants)) l x.says;
  asks = x.asks ∙ sym (added_false (reaches h i) (reached_sum false ◌||◌ h asks (suc i) (terms_of h (c + d) (suc i) (shapes_of x.plants))));
  ticks = x.ticks;
}
  where
    same_if : (b : Bool) (t : Term) → if_reached b t t ≡ t
    same_if true t = refl
    same_if false t = refl

    added_false : (b v : Bool) → added ◌||◌ b false v ≡ v
    added_false true v = refl
    added_false false v = refl

module _ (a : Context) (d : ℕ) (m m1 n : Map What) (f : ℕ) (h : Head) (c i : ℕ) (p : Plant) (ps : Plants) (k l : Kept) (old mid new : ℕ)
    (first : FirstDone a d m m1 f h c i p k old mid) (others : KidsElapsed a d m1 n f h c (suc i) ps l mid new) (st : StandAll m (more p ps)) where
  -- no key is both below the first and below another
  outside : (j : ℕ) → has p j ≡ true → has_any ps j ≡ false
  outside j e = unless (has_any ps j) (λ g. st.0 j e g)

  more_beside : KidsElapsed a d m n f h c i (more p ps) (joined k l) old new
  more_beside = record {
    plants = more first.plant others.plants;
    under = λ j. Some (first.under j) ∷ others.under j;
    keys = λ j n. first.keys j n || others.keys j n;
    stand = (
      (λ j e g. st.0 j (sym (first.keys j) ∙ e) (sym (others.keys j) ∙ g)),
      stands_kept m1 n first.plant (λ j e. others.only j (outside j (sym (first.keys j) ∙ e))) first.stands,
      others.stand,
    );
    only = λ j e. let q = or_neither (has p j) (has_any ps j) e in others.only j q.1 ∙ first.only j q.0;
    means = λ j. and (first.means j) (others.means j);
    tended = (first.tended, others.tended);
    right = (first.right, others.right);
    flagged = (first.flagged, others.flagged);
    timely = (first.timely, others.timely);
    short = (first.short, others.short);
    bare = λ q. (first.bare q.0, others.bare q.1);
    says = says_more (later a d) (c + d) f h i (term_in (inner_clock h i (c + d)) first.plant) (terms_of h (c + d) (suc i) (shapes_of others.plants)) k l first.says others.says;
    asks = (λ j. first.asks_so j || others.asks j)
        ∙ plus_added false ◌||◌ or_left or_none (reaches h i) (asks (term_in (inner_clock h i (c + d)) first.plant)) (reached_sum false ◌||◌ h asks (suc i) (terms_of h (c + d) (suc i) (shapes_of others.plants)));
    ticks = omega (arith, first.ticks, others.ticks);
  }

pub kids_beside : (b : Context) (m m1 n : Map What) (f : ℕ) (h : Head) (now i fuel : ℕ) (kid : Option ℕ) (rest : List (Option ℕ)) (k l : Kept) (old mid new : ℕ)
    → KidRule b m m1 f h now i fuel kid k old mid → KidsRule b m1 n f h now (suc i) fuel rest l mid new → KidsRule b m n f h now i fuel (kid ∷ rest) (joined k l) old new
kids_beside b m m1 n f h now i fuel kid rest k l old mid new x rule a d c seen clock none st r deep methods may fits room = absurd cc
kids_beside b m m1 n f h now i fuel kid rest k l old mid new x rule a d c seen clock (gone ps) st r deep methods may fits room =
    let left : IsLeft m m1 k old mid = subst (λ z. KidRule b m m1 f h now i fuel z k old mid) (sym (kid_is None kid (roots ps) rest r)) x in
    let y : KidsElapsed a d m1 n f h c (suc i) ps l mid new = rule a d c seen clock ps (subst (λ (z : Map What). StandAll z ps) (sym left.same) st) (rest_is None kid (roots ps) rest r) deep methods may fits room in
    let z : KidsElapsed a d m n f h c (suc i) ps l mid new = subst (λ (w : Map What). KidsElapsed a d w n f h c (suc i) ps l mid new) left.same y in
    subst (λ w. KidsElapsed a d m n f h c i (gone ps) w old new) (sym (none_joined l) ∙ ap (λ w. joined w l) (sym left.nothing))
    (subst (λ w. KidsElapsed a d m n f h c i (gone ps) l w new) left.ticks (gone_beside a d m n f h c i ps l mid new z))
kids_beside b m m1 n f h now i fuel kid rest k l old mid new x rule a d c seen clock (more p ps) st r deep methods may fits room =
    let first : FirstDone a d m m1 f h c i p k old mid = first_done a d m m1 f h c i p k old mid b now fuel seen clock fits room st.1 (omega (arith, deep)) methods may.0 may.1 may.2 may.3
    (subst (λ z. KidRule b m m1 f h now i fuel z k old mid) (sym (kid_is (Some (root p)) kid (roots ps) rest r)) x) in
    let others = rule a d c seen clock ps (still_stand m m1 p ps st first.only) (rest_is (Some (root p)) kid (roots ps) rest r) (omega (arith, deep)) methods may.4 fits room in
    more_beside a d m m1 n f h c i p ps k l old mid new first others st

-- ---------------------------------------------------------- the loop

pub on_at_first : (b : Context) (m : Map What) (f : ℕ) (h : Head) (now fuel : ℕ) (kids : List (Option ℕ)) (kept : Kept) (old : ℕ) → kept ≡ kept_none → ElapsesOn b m m f h now fuel kids 0 kept old old
on_at_first b m f h now fuel kids kept old e n k new rest = subst (λ z. KidsRule b m n f h now 0 fuel kids z old new) (sym (none_joined k) ∙ ap (λ z. joined z k) (sym e)) rest

pub on_next : (b : Context) (m0 m m1 : Map What) (f : ℕ) (h : Head) (now fuel : ℕ) (kids : List (Option ℕ)) (i : ℕ) (kid : Option ℕ) (kept k after : Kept) (old mid next : ℕ)
    → drop i kids ≡ kid ∷ drop (i + 1) kids → after ≡ joined kept k
    → KidRule b m m1 f h now i fuel kid k mid next → ElapsesOn b m0 m f h now fuel kids i kept old mid → ElapsesOn b m0 m1 f h now fuel kids (i + 1) after old next
on_next b m0 m m1 f h now fuel kids i kid kept k after old mid next e g x on n l new rest =
    let up : i + 1 ≡ suc i = omega arith in
    let rule = kids_beside b m m1 n f h now i fuel kid (drop (i + 1) kids) k l mid next new x (subst (λ z. KidsRule b m1 n f h now z fuel (drop (i + 1) kids) l next new) up rest) in
    let whole = on n (joined k l) new (subst (λ z. KidsRule b m n f h now i fuel z (joined k l) mid new) (sym e) rule) in
    subst (λ z. KidsRule b m0 n f h now 0 fuel kids z old new) (sym (joined_associative kept k l) ∙ ap (λ z. joined z l) (sym g)) whole

pub on_last : (b : Context) (m0 m : Map What) (f : ℕ) (h : Head) (now fuel : ℕ) (kids : List (Option ℕ)) (i : ℕ) (kept : Kept) (old mid : ℕ) → length kids ≤ i → ElapsesOn b m0 m f h now fuel kids i kept old mid → KidsRule b m0 m f h now 0 fuel kids kept old mid
on_last b m0 m f h now fuel kids i kept old mid ended on =
    let whole = on m kept_none mid (subst (λ z. KidsRule b m m f h now i fuel z kept_none mid mid) (sym (nothing_left kids i ended)) (no_kids b m f h now i fuel mid)) in
    subst (λ z. KidsRule b m0 m f h now 0 fuel kids z old mid) (joined_none kept) whole

-- ---------------------------------------------------------- what is done with a child

module _ (b : Context) (m : Map What) (f : ℕ) (h : Head) (now i fuel : ℕ) (kid : Option ℕ) (k : Kept) (old : ℕ) where
  left_so : k ≡ kept_none → IsLeft m m k old old
  left_so e = record { same = refl; nothing = e; ticks = refl }

  pub kid_gone : kid ≡ None → k ≡ kept_none → KidRule b m m f h now i fuel kid k old old
  kid_gone is e = subst (λ z. KidRule b m m f h now i fuel z k old old) (sym is) (left_so e)

  pub kid_left : (key : ℕ) → kid ≡ Some key → reaches h i ≡ false → k ≡ kept_none → KidRule b m m f h now i fuel kid k old old
  kid_left key is r e = subst (λ z. KidRule b m m f h now i fuel z k old old) (sym is) ((λ q. left_so e), (λ q. not_both (reaches h i) q r))

  pub kid_brought : (n : Map What) (key home clock by : ℕ) (kept : Kept) (new : ℕ) → kid ≡ Some key → reaches h i ≡ true → home ≡ f → clock ≡ inner_clock h i now → by ≡ behind_inside h i
      → AtRule b m n home clock fuel key kept old new → (MayShift by kept.summary → k ≡ kept_later by kept) → KidRule b m n f h now i fuel kid k old new
  kid_brought n key home clock by kept new is e homes clocks bys rule brought = subst (λ z. KidRule b m n f h now i fuel z k old new) (sym is) (
    (λ q. not_both (reaches h i) e q),
    (λ q. record {
      kept = kept;
      rule = subst (λ z. AtRule b m n z (inner_clock h i now) fuel key kept old new) homes (subst (λ z. AtRule b m n home z fuel key kept old new) clocks rule);
      brought = subst (λ z. MayShift z kept.summary → k ≡ kept_later z kept) bys brought;
    }),
  )

-- ---------------------------------------------------------- a child that has become active

pub kept_there : (x : Option (Node What)) (was : Node What) (k : Kept) → IfSome x (λ w. k ≡ w.what.kept) → x ≡ Some was → k ≡ was.what.kept
kept_there x was k h e = subst (λ z. IfSome z (λ w. k ≡ w.what.kept)) e h

pub has_returned : (b : Context) (m n : Map What) (f : ℕ) (g : Head) (now key home clock by : ℕ) (kept k : Kept) (kid : Option ℕ) (old mid new : ℕ) → Some key ≡ kid → home ≡ f → clock ≡ inner_clock g 0 now → by ≡ behind_inside g 0
    → RefreshRule b m n key home clock old mid → ((was : Node What) → n key ≡ Some was → kept ≡ was.what.kept) → (MayShift by kept.summary → k ≡ kept_later by kept) → new ≡ mid + 1 → ReturnRule b m n f g now kid k old new
has_returned b m n f g now key home clock by kept k kid old mid new is homes clocks bys rule there brought tick = subst (λ z. ReturnRule b m n f g now z k old new) is (record {
  mid = mid;
  rule = subst (λ z. RefreshRule b m n key z (inner_clock g 0 now) old mid) homes (subst (λ z. RefreshRule b m n key home z old mid) clocks rule);
  brought = λ was e may.
      let same : kept ≡ was.what.kept = there was e in
      brought (subst (λ z. MayShift z kept.summary) (sym bys) (subst (λ (z : Kept). MayShift (behind_inside g 0) z.summary) (sym same) may)) ∙ λ i. kept_later (bys i) (same i);
  ticks = tick;
})
