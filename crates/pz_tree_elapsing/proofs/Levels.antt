-- Time passes over a node: it is taken in hand, time passes over its active children, it becomes what it becomes, what
-- has become active is refreshed, and it is put back.
use Rattle.std.proofs.Common.{◌≡◌, ◌<◌, ◌≤◌, ◌+◌, ◌*◌, ◌||◌, ℕ, suc, eqb, if◌then◌else◌, true, false, List, Option, Some, None, refl, ap, sym, ◌∙◌, subst, arith, inl}
use Rattle.pz_tree_refreshing.specs.pz_eval_rules.Clocks.{DataIsTimeless}
use Rattle.pz_tree_refreshing.specs.pz_eval_rules.Laws.{SoundDataIsTimeless}
use Rattle.pz_nodes_shapes.specs.declared.node.Node.{Node}
use Rattle.pz_nodes_shapes.specs.Rose.{node, none, gone, more, Map, roots, width, payload, has, has_any, Stands}
use Rattle.pz_nodes_shapes.specs.Change.{OnlyAt}
use Rattle.pz_nodes_shapes.specs.Reading.{depth, depths}
use Rattle.pz_nodes_shapes.proofs.Frames.{or_neither, not_both, other_than, below_stand}
use Rattle.pz_tree_refreshing.specs.pz_offer.Summaries.{join}
use Rattle.pz_tree_refreshing.specs.pz_rules.Settings.{Context}
use Rattle.pz_tree_refreshing.specs.pz_rules.Terms.{Terms, term_at, height}
use Rattle.pz_tree_refreshing.specs.pz_rules.devices.Computed.{PassingIsComputed}
use Rattle.pz_tree_refreshing.specs.pz_rules.devices.Passing.{passed}
use Rattle.pz_tree_refreshing.specs.pz_rules.Delays.{Passes}
use Rattle.pz_tree_refreshing.specs.pz_tree_standing.Steady.{later}
use Rattle.pz_tree_refreshing.specs.pz_tree_standing.Summaries.{summary_of}
use Rattle.pz_tree_refreshing.specs.pz_tree_standing.devices.SummaryLaws.{TestIsSteady}
use Rattle.pz_tree_refreshing.proofs.pz_tree_standing_proofs.Unasked.{unasked_is_steady}
use Rattle.pz_tree_refreshing.specs.pz_tree_standing.Heads.{Head, inner_clock, inner_frame, formed}
use Rattle.pz_tree_refreshing.specs.pz_tree_standing.Laws.{NoDeeperThanHigh}
use Rattle.pz_tree_refreshing.specs.pz_tree_standing.Standing.{terms_of, HeadFits, FitAll}
use Rattle.pz_tree_refreshing.specs.pz_tree_standing.Reached.{reaches, behind_inside}
use Rattle.pz_tree_refreshing.specs.pz_tree_standing.Resting.{RestAll}
use Rattle.pz_tree_refreshing.specs.pz_tree_standing.Right.{RightAll}
use Rattle.pz_tree_refreshing.specs.pz_tree_standing.Whole.{AreWhole}
use Rattle.pz_tree_refreshing.specs.pz_tree_standing.devices.Laws.{StillRightComputed, StillSoundComputed}
use Rattle.pz_tree_refreshing.specs.pz_tree_nodes.declared.kept.Kept.{Kept}
use Rattle.pz_tree_refreshing.specs.pz_tree_nodes.declared.node.Head as lying
use Rattle.pz_tree_refreshing.specs.pz_tree_nodes.declared.node.What.{What}
use Rattle.pz_tree_refreshing.specs.pz_tree_nodes.Keeping.{HasFlags, IsMarked, joined}
use Rattle.pz_tree_refreshing.specs.pz_tree_nodes.View.{Plant, Plants, head_view, shape_of, shapes_of, term_in}
use Rattle.pz_tree_refreshing.specs.pz_tree_nodes.Tended.{Tended, AreMarked}
use Rattle.pz_tree_refreshing.specs.pz_tree_nodes.Fresh.{AllFlagged}
use Rattle.pz_tree_refreshing.specs.pz_tree_nodes.Laws.{UnwokenAreCalm, UnwokenAreSteady}
use Rattle.pz_tree_refreshing.proofs.pz_tree_nodes_proofs.Marks.{marked_alike}
use Rattle.pz_tree_refreshing.specs.pz_rules.Short.{IsShort}
use Rattle.pz_tree_refreshing.specs.pz_tree_standing.Soon.{HasRoom, IsSoon}
use Rattle.pz_tree_refreshing.specs.Refreshing.{AllTimely}
use Rattle.pz_tree_refreshing.specs.devices.Reached.{Says}
use Rattle.pz_tree_refreshing.specs.devices.Levels.{IsPutBack, KidsTended}
use Rattle.pz_tree_refreshing.proofs.pz_tree_standing_proofs.Soon.{least_soon, clock_back}
use Rattle.pz_tree_refreshing.proofs.Levels.{kids_whole, kids_fit, kids_rest, kids_marked, some_is_none, same_node, what_in, keys_in, absent, kept_top, high_top, as_deep}
use Rattle.pz_tree_elapsing.specs.Waking.{wakes, woken_below, woken_among}
use Rattle.pz_tree_elapsing.specs.Elapsing.{MayElapse, HasElapsed, ElapseRule}
use Rattle.pz_tree_elapsing.specs.devices.Wakes.{own_asks, turn_of, IsWoken, WakeRule}
use Rattle.pz_tree_elapsing.specs.devices.Levels.{NodeElapsed, NodeRule, AtRule, written, KidsMayElapse, KidsElapsed, KidsRule, TurnRule}
use Rattle.pz_tree_elapsing.proofs.Goings.{stands_still}
use Rattle.pz_tree_elapsing.proofs.Shorts.{kid_short}
use Rattle.pz_tree_elapsing.proofs.Quiet.{IsQuiet, kid_quiet, quiet_inside}
use Rattle.pz_tree_elapsing.proofs.Passing.{height_stays, asks_formed, unasked_flags}
use Rattle.pz_tree_elapsing.proofs.Staying.{nothing_wakes}
use Rattle.pz_tree_elapsing.proofs.Kids.{right_top}
use Rattle.pz_tree_elapsing.proofs.Turns.{KidsTurned, kids_turned}

-- ---------------------------------------------------------- what is so of a node is so of each child

module _ (a : Context) (d f : ℕ) (h : Head) (c : ℕ) (fits : HeadFits h c) where
  abbrev Quiet : ℕ → Plants → Type 0
  Quiet i ps = (j : ℕ) → reaches h (i + j) ≡ true → IsQuiet (c + d) (summary_of a c f (term_at (terms_of h c i (shapes_of ps)) j))

  abbrev Still : ℕ → Plants → Type 0
  Still i ps = (j : ℕ) → j < width (shapes_of ps) → reaches h (i + j) ≡ false → inner_clock h (i + j) (c + d) ≡ inner_clock h (i + j) c

  abbrev Short : ℕ → Plants → Type 0
  Short i ps = (j : ℕ) → j < width (shapes_of ps) → IsShort (term_at (terms_of h c i (shapes_of ps)) j)

  next : (i j : ℕ) → i + suc j ≡ suc i + j
  next i j = omega arith

  first : (i : ℕ) → i + 0 ≡ i
  first i = omega arith

  quiet_next : (i : ℕ) (ps qs : Plants) → ((j : ℕ) → term_at (terms_of h c i (shapes_of ps)) (suc j) ≡ term_at (terms_of h c (suc i) (shapes_of qs)) j) → Quiet i ps → Quiet (suc i) qs
  quiet_next i ps qs e q j r = subst (λ t. IsQuiet (c + d) (summary_of a c f t)) (e j) (q (suc j) (subst (λ z. reaches h z ≡ true) (sym (next i j)) r))

  abbrev StillAt : ℕ → Type 0
  StillAt i = reaches h i ≡ false → inner_clock h i (c + d) ≡ inner_clock h i c

  kids_may : (i : ℕ) (ps : Plants) → Quiet i ps → Still i ps → Short i ps
      → AreWhole (shapes_of ps) → FitAll h c i (shapes_of ps) → RestAll f h c i (shapes_of ps) → AreMarked ps → RightAll a f h c i (shapes_of ps) → AllFlagged a f h c i ps → AllTimely h c i ps → KidsMayElapse a d f h c i ps
  kids_may i none q s l w t r m right flagged timely = tt
  kids_may i (gone ps) q s l w t r m right flagged timely = kids_may (suc i) ps (quiet_next i (gone ps) ps (λ j. refl) q)
      (λ j z. subst StillAt (next i j) (s (suc j) (omega (arith, z)))) (λ j z. l (suc j) (omega (arith, z))) w t r m right flagged timely
  kids_may i (more p ps) q s l w t r m right flagged timely =
      let inner = inner_clock h i c in
      let tended : Tended f inner p = record { sound = record { whole = w.0; fits = t.0; rests = r.0 }; marked = m.0 } in
      let short : IsShort (term_in inner p) = l 0 (let z : 0 < suc (width (shapes_of ps)) = omega arith in z) in (
        (λ e.
            let quiet : IsQuiet (inner + d) (payload p).kept.summary = subst (IsQuiet (inner + d)) (sym (right_top a f inner p (right.0 e)))
            (quiet_inside a d c inner (behind_inside h i) f (term_in inner p) (clock_back h c i fits e) (q 0 (subst (λ z. reaches h z ≡ true) (sym (first i)) e))) in
            record { tended = tended; fresh = record { right = right.0 e; flagged = flagged.0 e }; untroubled = quiet.0; within = quiet.1; timely = timely.0 e; short = short }),
        subst StillAt (first i) (s 0 (let z : 0 < suc (width (shapes_of ps)) = omega arith in z)),
        tended,
        short,
        kids_may (suc i) ps (quiet_next i (more p ps) ps (λ j. refl) q)
            (λ j z. subst StillAt (next i j) (s (suc j) (omega (arith, z)))) (λ j z. l (suc j) (omega (arith, z))) w.1 t.1 r.1 m.1 right.1 flagged.1 timely.1,
      )

-- ---------------------------------------------------------- one level

-- a node in hand, over whose active children time has passed, and which has become another
module _ (a : Context) (d : ℕ) (m m1 n1 n2 : Map What) (f c fuel k : ℕ) (x : What) (ps : Plants) (now : lying.Head) (own all after : Kept) (hollow : Node What) (kids : List (Option ℕ)) (old mid late : ℕ)
    (taken : m1 k ≡ Some hollow) (hides : OnlyAt m m1 k)
    (rule : KidsRule (later a d) m1 n1 (inner_frame (head_view x.head) f) (head_view x.head) (c + d) 0 fuel kids all (old + 1) mid)
    (wake : WakeRule a d f c (head_view x.head) x.kept (head_view now) own)
    (turn : TurnRule (turn_of (reaches (head_view x.head) 0) (head_view now)) (later a d) n1 n2 (inner_frame (head_view now) f) (head_view now) (c + d) kids all after mid late)
    (kids_are : kids ≡ roots ps) (st : Stands m (node k x ps)) (deep : depths ps ≤ fuel) (methods : DataIsTimeless a.setting.model)
    (may : MayElapse a d f c (node k x ps)) (room : HasRoom (c + d)) (woken : wakes (c + d) x.kept ≡ true) where
  abbrev h : Head
  h = head_view x.head

  abbrev g : Head
  g = head_view now

  abbrev before : Terms
  before = terms_of h c 0 (shapes_of ps)

  t : Tended f c (node k x ps)
  t = may.tended

  is : IsWoken a d f c h g own
  is = wake before (record {
    fits = may.tended.sound.fits.0;
    gate = may.fresh.right.1;
    timeless = methods;
    summary = may.fresh.right.0;
    flags = may.fresh.flagged.0;
    untroubled = may.untroubled;
    within = may.within;
    soon = may.timely.0;
    woken = woken;
    short = may.short;
    room = room;
  })

  given : KidsMayElapse a d (inner_frame h f) h c 0 ps
  given = kids_may a d (inner_frame h f) h c may.tended.sound.fits.0 0 ps
      (λ j r. kid_quiet a (c + d) c f h before may.fresh.right.1 (subst (IsQuiet (c + d)) may.fresh.right.0 (may.untroubled, may.within)) j (let z : 0 + j ≡ j = omega arith in subst (λ i. reaches h i ≡ true) z r))
      (λ j l. let z : j ≡ 0 + j = omega arith in subst (λ i. reaches h i ≡ false → inner_clock h i (c + d) ≡ inner_clock h i c) z (stands_still h c d (shapes_of ps) may.tended.sound.fits.0 may.tended.sound.whole.0 j l))
      (λ j l. kid_short h c before (shapes_of ps) may.tended.sound.whole.0 may.short j l)
      may.tended.sound.whole.1 may.tended.sound.fits.1 may.tended.sound.rests.1 may.tended.marked.1 may.fresh.right.2 may.fresh.flagged.1 may.timely.1

  passed_kids : KidsElapsed a d m1 n1 (inner_frame h f) h c 0 ps all (old + 1) mid
  passed_kids = rule a d c refl refl ps (below_stand m m1 k ps st.1 hides st.2) (sym kids_are) deep methods given may.tended.sound.fits.0 room

  below : KidsTurned a d m1 n2 (inner_frame h f) h g c ps after (old + 1) late
  below = kids_turned a d m1 n1 (inner_frame h f) h g c ps all (old + 1) mid passed_kids is.clocks (turn_of (reaches h 0) g) n2 kids after late is.turns is.fits room kids_are
      (subst (λ z. TurnRule (turn_of (reaches h 0) g) (later a d) n1 n2 z g (c + d) kids all after mid late) (is.frame f) turn)

  -- the key of the node that is in hand has a node all the time
  still_there : n2 k ≡ Some hollow
  still_there = below.only k st.1 ∙ taken

  outside : has_any below.plants k ≡ false
  outside = below.keys k ∙ st.1

  -- the frame of the children is the same
  below_tended : KidsTended (inner_frame g f) g (c + d) 0 below.plants
  below_tended = subst (λ z. KidsTended z g (c + d) 0 below.plants) (sym (is.frame f)) below.tended

  abbrev ts : Terms
  ts = terms_of g (c + d) 0 (shapes_of below.plants)

  says : Says (later a d) (c + d) (inner_frame g f) g 0 ts after
  says = subst (λ z. Says (later a d) (c + d) z g 0 ts after) (sym (is.frame f)) below.says

  -- and was put back
  module _ (n : Map What) (kept : Kept) (new : ℕ) (keeps : kept ≡ written x.kept (own_asks g || after.asks) (joined own after))
      (put : IsPutBack n2 n k (record { what = record { head = now; kept = kept }; kids = kids })) (tick : new ≡ late + 1) where
    abbrev y : What
    y = record { head = now; kept = kept }

    abbrev plant : Plant
    plant = node k y below.plants

    is_put : (n k ≡ Some (record { what = y; kids = kids })) × OnlyAt n2 n k
    is_put = put (λ e. some_is_none hollow (sym still_there ∙ e))

    means : term_in (c + d) plant ≡ passed a d f (term_in c (node k x ps))
    means = ap (formed g (c + d)) below.means ∙ is.passes before

    right_summary : kept.summary ≡ summary_of (later a d) (c + d) f (term_in (c + d) plant)
    right_summary = ap (λ (z : Kept). z.summary) keeps ∙ ap (join own.summary) says.summary ∙ sym (is.summary ts)

    right_flags : HasFlags (later a d) f (term_in (c + d) plant) kept
    right_flags = subst (HasFlags (later a d) f (term_in (c + d) plant)) (sym keeps) (record {
      starts = ap (λ b. own.starts || b) says.starts ∙ sym (is.starts ts);
      clocked = ap (λ b. own.clocked || b) says.clocked ∙ sym (is.clocked ts);
    })

    mark : IsMarked (term_in (c + d) plant) kept
    mark = record {
      asked = ap (λ (z : Kept). z.asks) keeps ∙ below.asks_so ∙ sym (asks_formed g (c + d) ts);
      high = ap (λ (z : Kept). z.height) keeps ∙ (may.tended.marked.0 c).high ∙ sym (height_stays a d f (term_in c (node k x ps))) ∙ ap height (sym means);
      flags = λ e b i. unasked_flags (later a d) b f i (term_in (c + d) plant) kept e right_flags;
    }

    tended : Tended f (c + d) plant
    tended = record {
      sound = record {
        whole = (is.parts (shapes_of below.plants) (below.parts may.tended.sound.whole.0), kids_whole (inner_frame g f) g (c + d) 0 below.plants below_tended);
        fits = (is.fits, kids_fit (inner_frame g f) g (c + d) 0 below.plants below_tended);
        rests = ((λ e b. right_summary ∙ unasked_is_steady (later a d) b (c + d) f (term_in (c + d) plant) e), kids_rest (inner_frame g f) g (c + d) 0 below.plants below_tended);
      };
      marked = ((λ e. marked_alike (c + d) e (shape_of plant) kept mark), kids_marked (inner_frame g f) g (c + d) 0 below.plants below_tended);
    }

    cost : woken_below (c + d) (node k x ps) plant ≡ woken_among h g (c + d) 0 ps below.plants
    cost = ap (λ b. if b then woken_among h g (c + d) 0 ps below.plants else 0) woken

    soon : IsSoon (c + d) kept.summary.due
    soon = subst (λ (z : Kept). IsSoon (c + d) z.summary.due) (sym keeps) (least_soon (c + d) own.summary.due after.summary.due is.soon says.soon)

    pub level_elapsed : NodeElapsed a d m n f c (node k x ps) kept old new
    level_elapsed = record {
      plant = plant;
      under = refl;
      keys = λ j. ap (λ b. eqb j k || b) (below.keys j);
      stands = (
        is_put.0 ∙ ap (λ (z : List (Option ℕ)). Some (record { what = y; kids = z })) (kids_are ∙ sym below.under),
        outside,
        below_stand n2 n k below.plants outside is_put.1 below.stand,
      );
      only = λ j e. let q = or_neither (eqb j k) (has_any ps j) e in
          is_put.1 j (other_than j k q.0) ∙ below.only j q.1 ∙ hides j (other_than j k q.0);
      means = means;
      tended = tended;
      fresh = record {
        right = (right_summary, is.gate, subst (λ z. RightAll (later a d) z g (c + d) 0 (shapes_of below.plants)) (sym (is.frame f)) below.right);
        flagged = (right_flags, subst (λ z. AllFlagged (later a d) z g (c + d) 0 below.plants) (sym (is.frame f)) below.flagged);
      };
      short = is.short ts below.short;
      bare = is.bare;
      kept = refl;
      timely = (soon, below.timely);
      soon = soon;
      ticks = omega (arith, below.ticks, tick, cost);
    }

-- ---------------------------------------------------------- whatever stands under the key

pub node_elapsed : (b : Context) (m m1 n1 n2 n : Map What) (f clock fuel less key : ℕ) (was : Node What) (now : lying.Head) (own all after kept : Kept) (hollow : Node What) (old mid late new : ℕ)
    → less + 1 ≡ fuel → m key ≡ Some was → m1 key ≡ Some hollow → OnlyAt m m1 key
    → KidsRule b m1 n1 (inner_frame (head_view was.what.head) f) (head_view was.what.head) clock 0 less was.kids all (old + 1) mid
    → ((a : Context) (d c : ℕ) → later a d ≡ b → c + d ≡ clock → WakeRule a d f c (head_view was.what.head) was.what.kept (head_view now) own)
    → TurnRule (turn_of (reaches (head_view was.what.head) 0) (head_view now)) b n1 n2 (inner_frame (head_view now) f) (head_view now) clock was.kids all after mid late
    → kept ≡ written was.what.kept (own_asks (head_view now) || after.asks) (joined own after) → IsPutBack n2 n key (record { what = record { head = now; kept = kept }; kids = was.kids }) → new ≡ late + 1
    → NodeRule b m n f clock fuel key kept old new
node_elapsed b m m1 n1 n2 n f clock fuel less key was now own all after kept hollow old mid late new less_is e taken hides rule wake turn keeps put tick a d c seen time (node k x ps) st r deep methods may room woken =
    let same = same_node m k key x ps was st r e in
    let what : was.what ≡ x = ap (what_in x) same in
    let keys : was.kids ≡ roots ps = ap (keys_in (roots ps)) same in
    let rule_now = subst (λ z. KidsRule b m1 n1 (inner_frame (head_view was.what.head) f) (head_view was.what.head) z 0 less was.kids all (old + 1) mid) (sym time) rule in
    let turn_now = subst (λ z. TurnRule (turn_of (reaches (head_view was.what.head) 0) (head_view now)) b n1 n2 (inner_frame (head_view now) f) (head_view now) z was.kids all after mid late) (sym time) turn in
    level_elapsed a d m m1 n1 n2 f c less k x ps now own all after hollow was.kids old mid late
    (ap m1 r ∙ taken) (subst (OnlyAt m m1) (sym r) hides)
    (subst (λ (z : Context). KidsRule z m1 n1 (inner_frame (head_view x.head) f) (head_view x.head) (c + d) 0 less was.kids all (old + 1) mid) (sym seen)
    (subst (λ (w : What). KidsRule b m1 n1 (inner_frame (head_view w.head) f) (head_view w.head) (c + d) 0 less was.kids all (old + 1) mid) what rule_now))
    (subst (λ (w : What). WakeRule a d f c (head_view w.head) w.kept (head_view now) own) what (wake a d c seen time))
    (subst (λ (z : Context). TurnRule (turn_of (reaches (head_view x.head) 0) (head_view now)) z n1 n2 (inner_frame (head_view now) f) (head_view now) (c + d) was.kids all after mid late) (sym seen)
    (subst (λ (w : What). TurnRule (turn_of (reaches (head_view w.head) 0) (head_view now)) b n1 n2 (inner_frame (head_view now) f) (head_view now) (c + d) was.kids all after mid late) what turn_now))
    keys st (omega (arith, deep, less_is)) methods may (subst HasRoom (sym time) room) (subst (λ z. wakes z x.kept ≡ true) (sym time) woken)
    n kept new (keeps ∙ ap (λ (w : What). written w.kept (own_asks (head_view now) || after.asks) (joined own after)) what)
    (subst (λ z. IsPutBack n2 n z (record { what = record { head = now; kept = kept }; kids = was.kids })) (sym r) put) tick

pub no_fuel : (b : Context) (m n : Map What) (f clock key : ℕ) (k : Kept) (old new fuel : ℕ) → fuel ≡ 0 → NodeRule b m n f clock fuel key k old new
no_fuel b m n f clock key k old new fuel z a d c seen time (node j x ps) st r deep = absurd (omega (arith, deep, z))

pub no_node : (b : Context) (m n : Map What) (f clock key : ℕ) (k : Kept) (old new fuel : ℕ) → m key ≡ None → NodeRule b m n f clock fuel key k old new
no_node b m n f clock key k old new fuel e a d c seen time p st r deep methods may room woken = absurd (absent m key p e st r)

pub no_node_at : (b : Context) (m n : Map What) (f clock fuel key : ℕ) (k : Kept) (old new : ℕ) → m key ≡ None → AtRule b m n f clock fuel key k old new
no_node_at b m n f clock fuel key k old new e a d c seen time p st r deep methods may room = absurd (absent m key p e st r)

pub sleeps_at : TestIsSteady → StillRightComputed → StillSoundComputed → UnwokenAreCalm → UnwokenAreSteady
    → (b : Context) (m : Map What) (f clock fuel key : ℕ) (k : Kept) (old new : ℕ) (was : Node What) → m key ≡ Some was → k ≡ was.what.kept → wakes clock k ≡ false → new ≡ old + 1 → AtRule b m m f clock fuel key k old new
sleeps_at tests stays_right stays_sound are_calm are_steady b m f clock fuel key k old new was e keeps sleeps tick a d c seen time p st r deep methods may room =
    let kept : k ≡ (payload p).kept = keeps ∙ kept_top m key p was st r e in
    subst (λ z. NodeElapsed a d m m f c p z (old + 1) new) (sym kept)
    (nothing_wakes tests stays_right stays_sound are_calm are_steady a d m f c p old new st methods may ((λ i. wakes (time i) (sym kept i)) ∙ sleeps) tick)

pub woken_at : (b : Context) (m n : Map What) (f clock fuel key : ℕ) (k kept : Kept) (old mid new : ℕ) (was : Node What) → m key ≡ Some was → kept ≡ was.what.kept → wakes clock kept ≡ true → mid ≡ old + 1
    → NodeRule b m n f clock fuel key k mid new → AtRule b m n f clock fuel key k old new
woken_at b m n f clock fuel key k kept old mid new was e keeps woken tick rule a d c seen time p st r deep methods may room =
    subst (λ z. NodeElapsed a d m n f c p k z new) tick
    (rule a d c seen time p st r deep methods may room (ap (wakes clock) (sym (keeps ∙ kept_top m key p was st r e)) ∙ woken))

-- ---------------------------------------------------------- the whole

pub elapsed_absent : (b : Context) (m n : Map What) (f clock key old new : ℕ) → m key ≡ None → ElapseRule b m n key f clock old new
elapsed_absent b m n f clock key old new e a d c seen time p st r sound may room = absurd (absent m key p e st r)

has_elapsed : PassingIsComputed → (a : Context) (d : ℕ) (m n : Map What) (f c : ℕ) (p : Plant) (k : Kept) (old mid new : ℕ) → mid ≡ old + 1 → NodeElapsed a d m n f c p k (mid + 1) new → HasElapsed a d m n f c p old new
has_elapsed law a d m n f c p k old mid new tick x = record {
  plant = x.plant;
  under = x.under;
  keys = x.keys;
  made = record {
    stands = x.stands;
    change = record {
      kept = λ j u v. x.only j u;
      freed = λ j u v. not_both (has p j) u (sym (x.keys j) ∙ v);
      fresh = λ j v. inl (sym (x.keys j) ∙ v);
    };
  };
  passes = λ untroubled. subst (Passes a d f (term_in c p)) (sym x.means) (law a d f (term_in c p) untroubled);
  computed = x.means;
  tended = x.tended;
  fresh = x.fresh;
  short = x.short;
  timely = x.timely;
  soon = subst (λ (z : Kept). IsSoon (c + d) z.summary.due) x.kept x.soon;
  ticks = omega (arith, x.ticks, tick);
}

pub all_elapsed : NoDeeperThanHigh → SoundDataIsTimeless → PassingIsComputed → (b : Context) (m n : Map What) (f clock key fuel : ℕ) (k : Kept) (old mid new : ℕ) (was : Node What)
    → m key ≡ Some was → fuel ≡ 2 * was.what.kept.height → mid ≡ old + 1 → AtRule b m n f clock fuel key k mid new → ElapseRule b m n key f clock old new
all_elapsed deep_law timeless passing b m n f clock key fuel k old mid new was e fuel_is tick rule a d c seen time p st r sound may room =
    let top : was.what.kept ≡ (payload p).kept = kept_top m key p was st r e in
    let high : was.what.kept.height ≡ height (term_in c p) = ap (λ (z : Kept). z.height) top ∙ high_top f c p may.tended in
    let deep : depth p ≤ fuel = omega (arith, deep_law c (shape_of p) may.tended.sound.whole, as_deep p, high, fuel_is) in
    has_elapsed passing a d m n f c p k old mid new tick (rule a d c seen time p st r deep (timeless a.setting.model sound) may room)

-- with fewer steps
pub fewer_steps : (b : Context) (m n : Map What) (key f clock old new less : ℕ) → less ≤ new → ElapseRule b m n key f clock old new → ElapseRule b m n key f clock old less
fewer_steps b m n key f clock old new less few rule a d c seen time p st r sound may room =
    let e = rule a d c seen time p st r sound may room in
    let steps = e.ticks in
    record {
      plant = e.plant;
      under = e.under;
      keys = e.keys;
      made = e.made;
      passes = e.passes;
      computed = e.computed;
      tended = e.tended;
      fresh = e.fresh;
      short = e.short;
      timely = e.timely;
      soon = e.soon;
      ticks = omega (arith, few, steps);
    }
