-- A node is refreshed: it is taken in hand and asked, its active children are refreshed, and it is put back.
use Rattle.std.proofs.Common.{◌≡◌, ◌≤◌, ◌+◌, ◌*◌, ◌||◌, ℕ, suc, max, eqb, if◌then◌else◌, true, false, List, length, Option, Some, None, refl, ap, sym, ◌∙◌, subst, arith, inl}
use Rattle.pz_nodes_shapes.specs.declared.node.Node.{Node}
use Rattle.pz_nodes_shapes.specs.Rose.{node, none, gone, more, Map, root, roots, present, width, payload, has, has_any, Stands}
use Rattle.pz_nodes_shapes.specs.Change.{OnlyAt}
use Rattle.pz_nodes_shapes.specs.Reading.{depth, depths}
use Rattle.pz_nodes_shapes.proofs.Frames.{or_neither, not_both, other_than, below_stand}
use Rattle.pz_tree_nodes.specs.pz_offer.declared.summary.Summary.{Summary}
use Rattle.pz_tree_nodes.specs.pz_offer.Summaries.{join}
use Rattle.pz_tree_nodes.specs.pz_rules.Settings.{Context}
use Rattle.pz_tree_nodes.specs.pz_rules.Terms.{done, Terms, and, term_at, height}
use Rattle.pz_tree_nodes.specs.pz_tree_standing.Asked.{asks}
use Rattle.pz_tree_nodes.specs.pz_tree_standing.Summaries.{summary_of}
use Rattle.pz_tree_nodes.specs.pz_tree_standing.Heads.{Head, leaf, wait, sequence, parallel, select, guarded, frame, abort, idle, handling, shifted, Shapes, inner_clock, inner_frame, formed}
use Rattle.pz_tree_nodes.specs.pz_tree_standing.Laws.{NoDeeperThanHigh}
use Rattle.pz_tree_nodes.specs.pz_tree_standing.Standing.{term_of, terms_of, FitAll}
use Rattle.pz_tree_nodes.specs.pz_tree_standing.Reached.{reaches}
use Rattle.pz_tree_nodes.specs.pz_tree_standing.Resting.{RestAll}
use Rattle.pz_tree_nodes.specs.pz_tree_standing.Right.{Right, RightAll}
use Rattle.pz_tree_nodes.specs.pz_tree_standing.Whole.{OneInside, HasParts, AreWhole}
use Rattle.pz_tree_nodes.proofs.pz_tree_standing_proofs.Resting.{rests_are_right}
use Rattle.pz_tree_nodes.specs.declared.kept.Kept.{Kept}
use Rattle.pz_tree_nodes.specs.declared.node.Head as lying
use Rattle.pz_tree_nodes.specs.declared.node.What.{What}
use Rattle.pz_tree_nodes.specs.Keeping.{HasFlags, IsMarked, joined}
use Rattle.pz_tree_nodes.specs.View.{Plant, Plants, head_view, shape_of, shapes_of, term_in}
use Rattle.pz_tree_nodes.specs.Tended.{Tended, AreMarked}
use Rattle.pz_tree_nodes.proofs.Marks.{marked_alike, unasked_right, unasked_flagged}
use Rattle.pz_tree_refreshing.specs.Live.{live_below, live_among}
use Rattle.pz_tree_nodes.specs.pz_rules.Short.{IsShort}
use Rattle.pz_tree_nodes.specs.pz_tree_standing.Soon.{HasRoom, IsSoon}
use Rattle.pz_tree_refreshing.specs.Refreshing.{IsRefreshed, RefreshRule, Timely, AllTimely}
use Rattle.pz_tree_refreshing.specs.devices.Asked.{IsAsked, AskRule}
use Rattle.pz_tree_refreshing.specs.devices.Levels.{IsPutBack, NodeRefreshed, NodeRule, AtRule, written, KidsTended, KidsShort, AreBare, KidsRefreshed, KidsRule}
use Rattle.pz_tree_refreshing.proofs.Gates.{may_ask}
use Rattle.pz_tree_nodes.proofs.pz_tree_standing_proofs.Soon.{least_soon, short_soon, short_kid, unasked_kid}

-- ---------------------------------------------------------- what is so of a node is so of each child

-- the clocks of two heads show the same
module _ (h g : Head) (c : ℕ) (clocks : (i : ℕ) → inner_clock g i c ≡ inner_clock h i c) where
  pub same_terms : (i : ℕ) (ss : Shapes) → terms_of g c i ss ≡ terms_of h c i ss
  same_terms i none = refl
  same_terms i (gone ss) = ap (and done) (same_terms (suc i) ss)
  same_terms i (more s ss) = λ n. and (term_of (clocks i n) s) (same_terms (suc i) ss n)

  pub kids_tended : (f i : ℕ) (ps : Plants) → AreWhole (shapes_of ps) → FitAll h c i (shapes_of ps) → RestAll f h c i (shapes_of ps) → AreMarked ps → KidsTended f g c i ps
  kids_tended f i none w t r m = tt
  kids_tended f i (gone ps) w t r m = kids_tended f (suc i) ps w t r m
  kids_tended f i (more p ps) w t r m = (
    subst (λ z. Tended f z p) (sym (clocks i)) (record { sound = record { whole = w.0; fits = t.0; rests = r.0 }; marked = m.0 }),
    kids_tended f (suc i) ps w.1 t.1 r.1 m.1,
  )

pub kids_whole : (f : ℕ) (g : Head) (c i : ℕ) (ps : Plants) → KidsTended f g c i ps → AreWhole (shapes_of ps)
kids_whole f g c i none t = tt
kids_whole f g c i (gone ps) t = kids_whole f g c (suc i) ps t
kids_whole f g c i (more p ps) t = (t.0.sound.whole, kids_whole f g c (suc i) ps t.1)

pub kids_fit : (f : ℕ) (g : Head) (c i : ℕ) (ps : Plants) → KidsTended f g c i ps → FitAll g c i (shapes_of ps)
kids_fit f g c i none t = tt
kids_fit f g c i (gone ps) t = kids_fit f g c (suc i) ps t
kids_fit f g c i (more p ps) t = (t.0.sound.fits, kids_fit f g c (suc i) ps t.1)

pub kids_rest : (f : ℕ) (g : Head) (c i : ℕ) (ps : Plants) → KidsTended f g c i ps → RestAll f g c i (shapes_of ps)
kids_rest f g c i none t = tt
kids_rest f g c i (gone ps) t = kids_rest f g c (suc i) ps t
kids_rest f g c i (more p ps) t = (t.0.sound.rests, kids_rest f g c (suc i) ps t.1)

pub kids_marked : (f : ℕ) (g : Head) (c i : ℕ) (ps : Plants) → KidsTended f g c i ps → AreMarked ps
kids_marked f g c i none t = tt
kids_marked f g c i (gone ps) t = kids_marked f g c (suc i) ps t
kids_marked f g c i (more p ps) t = (t.0.marked, kids_marked f g c (suc i) ps t.1)

kids_short : (h : Head) (c i : ℕ) (ps : Plants) → ((j : ℕ) → reaches h (i + j) ≡ true → IsShort (term_at (terms_of h c i (shapes_of ps)) j)) → KidsShort h c i ps
kids_short h c i none e = tt
kids_short h c i (gone ps) e = kids_short h c (suc i) ps (λ j g. e (suc j) (let n : suc i + j ≡ i + suc j = omega arith in subst (λ z. reaches h z ≡ true) n g))
kids_short h c i (more p ps) e = (
  (λ g. e 0 (let n : i ≡ i + 0 = omega arith in subst (λ z. reaches h z ≡ true) n g)),
  kids_short h c (suc i) ps (λ j g. e (suc j) (let n : suc i + j ≡ i + suc j = omega arith in subst (λ z. reaches h z ≡ true) n g)),
)

-- ---------------------------------------------------------- as many children as before

wide : (ps : Plants) → width (shapes_of ps) ≡ length (roots ps)
wide none = refl
wide (gone ps) = ap suc (wide ps)
wide (more p ps) = ap suc (wide ps)

pub same_width : (ps qs : Plants) → roots qs ≡ roots ps → width (shapes_of qs) ≡ width (shapes_of ps)
same_width ps qs e = wide qs ∙ ap (λ (z : List (Option ℕ)). length z) e ∙ sym (wide ps)

one_inside : (ps qs : Plants) → roots qs ≡ roots ps → (AreBare ps → AreBare qs) → OneInside (shapes_of ps) → OneInside (shapes_of qs)
one_inside none qs e b o = absurd o
one_inside (gone ps) qs e b o = absurd o
one_inside (more p (gone ps)) qs e b o = absurd (inner p o)
  where
    inner : (p : Plant) → OneInside (shapes_of (more p (gone ps))) → ⊥
    inner (node k x ts) o = o
one_inside (more p (more r ps)) qs e b o = absurd (inner p o)
  where
    inner : (p : Plant) → OneInside (shapes_of (more p (more r ps))) → ⊥
    inner (node k x ts) o = o
one_inside (more p none) none e b o = absurd cc
one_inside (more p none) (gone qs) e b o = absurd cc
one_inside (more p none) (more q (gone qs)) e b o = absurd cc
one_inside (more p none) (more q (more r qs)) e b o = absurd cc
one_inside (more (node k x ts) none) (more (node j y us) none) e b o = (b (o, tt)).0

pub same_parts : (h : Head) (ps qs : Plants) → roots qs ≡ roots ps → (AreBare ps → AreBare qs) → HasParts h (shapes_of ps) → HasParts h (shapes_of qs)
same_parts (leaf s) ps qs e b p = same_width ps qs e ∙ p
same_parts (wait due at) ps qs e b p = same_width ps qs e ∙ p
same_parts (sequence rest) ps qs e b p = same_width ps qs e ∙ p
same_parts parallel ps qs e b p = tt
same_parts select ps qs e b p = tt
same_parts (guarded test at s) ps qs e b p = same_width ps qs e ∙ p
same_parts (frame number inputs results) ps qs e b p = same_width ps qs e ∙ p
same_parts abort ps qs e b p = same_width ps qs e ∙ p
same_parts (idle again s) ps qs e b p = same_width ps qs e ∙ p
same_parts (handling again s) ps qs e b p = same_width ps qs e ∙ p
same_parts (shifted s) ps qs e b p = one_inside ps qs e b p

-- ---------------------------------------------------------- one level

pub some_is_none : (w : Node What) → ◌≡◌ {A = Option (Node What)} (Some w) None → ⊥
some_is_none w e = absurd cc

-- a node in hand that was asked, and of which the children were refreshed
module _ (a : Context) (m m1 n1 : Map What) (f c fuel k : ℕ) (x : What) (ps : Plants) (now : lying.Head) (own all : Kept) (hollow : Node What) (kids : List (Option ℕ)) (old mid : ℕ)
    (taken : m1 k ≡ Some hollow) (hides : OnlyAt m m1 k) (ask : AskRule a f c (head_view x.head) (head_view now) own)
    (rule : KidsRule a m1 n1 (inner_frame (head_view now) f) (head_view now) c 0 fuel kids all (old + 1) mid) (kids_are : kids ≡ roots ps)
    (st : Stands m (node k x ps)) (deep : depths ps ≤ fuel) (t : Tended f c (node k x ps)) (asked : x.kept.asks ≡ true) (short : IsShort (term_in c (node k x ps))) (room : HasRoom c) where
  abbrev h : Head
  h = head_view x.head

  abbrev g : Head
  g = head_view now

  term_asks : asks (term_in c (node k x ps)) ≡ true
  term_asks = sym (t.marked.0 c).asked ∙ asked

  is : IsAsked a f c h g own
  is = ask t.sound.fits.0 (may_ask h c (terms_of h c 0 (shapes_of ps)) term_asks) room

  kids_short_now : KidsShort g c 0 ps
  kids_short_now = kids_short g c 0 ps (λ j r. short_kid g c (terms_of g c 0 (shapes_of ps))
      (subst IsShort (sym (is.forms (terms_of g c 0 (shapes_of ps)) ∙ ap (formed h c) (same_terms h g c is.clocks 0 (shapes_of ps)))) short)
      j (let z : 0 + j ≡ j = omega arith in subst (λ i. reaches g i ≡ true) z r))

  below : KidsRefreshed a m1 n1 (inner_frame g f) g c 0 ps all (old + 1) mid
  below = rule ps (below_stand m m1 k ps st.1 hides st.2) (sym kids_are) deep
      (kids_tended h g c is.clocks (inner_frame g f) 0 ps t.sound.whole.1 t.sound.fits.1 (subst (λ z. RestAll z h c 0 (shapes_of ps)) (sym (is.frame f)) t.sound.rests.1) t.marked.1)
      kids_short_now is.fits room

  -- the key of the node that is in hand has a node all the time
  still_there : n1 k ≡ Some hollow
  still_there = below.only k st.1 ∙ taken

  outside : has_any below.plants k ≡ false
  outside = below.keys k ∙ st.1

  -- and was put back
  module _ (n : Map What) (kept : Kept) (new : ℕ) (keeps : kept ≡ written x.kept (joined own all))
      (put : IsPutBack n1 n k (record { what = record { head = now; kept = kept }; kids = kids })) (tick : new ≡ mid + 1) where
    abbrev y : What
    y = record { head = now; kept = kept }

    abbrev plant : Plant
    plant = node k y below.plants

    is_put : (n k ≡ Some (record { what = y; kids = kids })) × OnlyAt n1 n k
    is_put = put (λ e. some_is_none hollow (sym still_there ∙ e))

    means : term_in c plant ≡ term_in c (node k x ps)
    means = ap (formed g c) below.means ∙ ap (formed g c) (same_terms h g c is.clocks 0 (shapes_of ps)) ∙ is.forms (terms_of h c 0 (shapes_of ps))

    still_asks : asks (term_in c plant) ≡ true
    still_asks = ap asks means ∙ term_asks

    mark : IsMarked (term_in c plant) kept
    mark = subst (IsMarked (term_in c plant)) (sym keeps) (record {
      asked = (t.marked.0 c).asked ∙ ap asks (sym means);
      high = (t.marked.0 c).high ∙ ap height (sym means);
      flags = λ e b i. not_both (asks (term_in c plant)) still_asks e;
    })

    tended : Tended f c plant
    tended = record {
      sound = record {
        whole = (is.parts (shapes_of below.plants) (same_parts h ps below.plants below.under below.bare t.sound.whole.0), kids_whole (inner_frame g f) g c 0 below.plants below.tended);
        fits = (is.fits, kids_fit (inner_frame g f) g c 0 below.plants below.tended);
        rests = ((λ e b. not_both (asks (term_in c plant)) still_asks e), kids_rest (inner_frame g f) g c 0 below.plants below.tended);
      };
      marked = ((λ d. marked_alike c d (shape_of plant) kept mark), kids_marked (inner_frame g f) g c 0 below.plants below.tended);
    }

    abbrev ts : Terms
    ts = terms_of g c 0 (shapes_of below.plants)

    right_summary : kept.summary ≡ summary_of a c f (term_in c plant)
    right_summary = ap (λ (z : Kept). z.summary) keeps ∙ ap (join own.summary) below.says.summary ∙ sym (is.summary ts)

    right_flags : HasFlags a f (term_in c plant) kept
    right_flags = subst (HasFlags a f (term_in c plant)) (sym keeps) (record {
      starts = ap (λ b. own.starts || b) below.says.starts ∙ sym (is.starts ts);
      clocked = ap (λ b. own.clocked || b) below.says.clocked ∙ sym (is.clocked ts);
    })

    live : live_below plant ≡ present below.plants + live_among g 0 below.plants
    live = ap (λ b. if b then present below.plants + live_among g 0 below.plants else 0) (ap (λ (z : Kept). z.asks) keeps ∙ asked)

    soon : IsSoon c kept.summary.due
    soon = subst (λ (z : Kept). IsSoon c z.summary.due) (sym keeps) (least_soon c own.summary.due all.summary.due is.soon below.says.soon)

    pub level_refreshed : NodeRefreshed a m n f c (node k x ps) kept old new
    level_refreshed = record {
      plant = plant;
      under = refl;
      keys = λ j. ap (λ b. eqb j k || b) (below.keys j);
      stands = (
        is_put.0 ∙ ap (λ (z : List (Option ℕ)). Some (record { what = y; kids = z })) (kids_are ∙ sym below.under),
        outside,
        below_stand n1 n k below.plants outside is_put.1 below.stand,
      );
      only = λ j e. let q = or_neither (eqb j k) (has_any ps j) e in
          is_put.1 j (other_than j k q.0) ∙ below.only j q.1 ∙ hides j (other_than j k q.0);
      means = means;
      tended = tended;
      fresh = record { right = (right_summary, is.gate, below.right); flagged = (right_flags, below.flagged) };
      bare = is.bare;
      kept = refl;
      timely = (soon, below.timely);
      soon = soon;
      ticks = omega (arith, below.ticks, tick, live);
    }

-- ---------------------------------------------------------- whatever stands under the key

abbrev pub what_in : What → Option (Node What) → What
what_in d None = d
what_in d (Some w) = w.what

abbrev pub keys_in : List (Option ℕ) → Option (Node What) → List (Option ℕ)
keys_in d None = d
keys_in d (Some w) = w.kids

-- the node under the key is the topmost of what stands there
pub same_node : (m : Map What) (k key : ℕ) (x : What) (ps : Plants) (was : Node What) → Stands m (node k x ps) → k ≡ key → m key ≡ Some was → ◌≡◌ {A = Option (Node What)} (Some was) (Some (record { what = x; kids = roots ps }))
same_node m k key x ps was st r e = sym e ∙ ap m (sym r) ∙ st.0

pub node_refreshed : (a : Context) (m m1 n1 n : Map What) (f c fuel less key : ℕ) (was : Node What) (now : lying.Head) (own all kept : Kept) (hollow : Node What) (old mid new : ℕ)
    → less + 1 ≡ fuel → m key ≡ Some was → m1 key ≡ Some hollow → OnlyAt m m1 key → AskRule a f c (head_view was.what.head) (head_view now) own
    → KidsRule a m1 n1 (inner_frame (head_view now) f) (head_view now) c 0 less was.kids all (old + 1) mid
    → kept ≡ written was.what.kept (joined own all) → IsPutBack n1 n key (record { what = record { head = now; kept = kept }; kids = was.kids }) → new ≡ mid + 1
    → NodeRule a m n f c fuel key kept old new
node_refreshed a m m1 n1 n f c fuel less key was now own all kept hollow old mid new less_is e taken hides ask rule keeps put tick (node k x ps) st r deep t asked short room =
    let same = same_node m k key x ps was st r e in
    let what : was.what ≡ x = ap (what_in x) same in
    let keys : was.kids ≡ roots ps = ap (keys_in (roots ps)) same in
    level_refreshed a m m1 n1 f c less k x ps now own all hollow was.kids old mid
    (ap m1 r ∙ taken) (subst (OnlyAt m m1) (sym r) hides) (subst (λ (w : What). AskRule a f c (head_view w.head) (head_view now) own) what ask) rule keys
    st (omega (arith, deep, less_is)) t asked short room
    n kept new (keeps ∙ ap (λ (w : What). written w.kept (joined own all)) what)
    (subst (λ z. IsPutBack n1 n z (record { what = record { head = now; kept = kept }; kids = was.kids })) (sym r) put) tick

-- no fuel, or no node
pub no_fuel : (a : Context) (m n : Map What) (f c key : ℕ) (k : Kept) (old new fuel : ℕ) → fuel ≡ 0 → NodeRule a m n f c fuel key k old new
no_fuel a m n f c key k old new fuel z (node j x ps) st r deep = absurd (omega (arith, deep, z))

pub absent : (m : Map What) (key : ℕ) (p : Plant) → m key ≡ None → Stands m p → root p ≡ key → ⊥
absent m key (node k x ps) e st r = some_is_none (record { what = x; kids = roots ps }) (sym st.0 ∙ ap m r ∙ e)

pub no_node : (a : Context) (m n : Map What) (f c key : ℕ) (k : Kept) (old new fuel : ℕ) → m key ≡ None → NodeRule a m n f c fuel key k old new
no_node a m n f c key k old new fuel e p st r deep t asked short room = absurd (absent m key p e st r)

-- ---------------------------------------------------------- what is asked nothing

pub kept_top : (m : Map What) (key : ℕ) (p : Plant) (was : Node What) → Stands m p → root p ≡ key → m key ≡ Some was → was.what.kept ≡ (payload p).kept
kept_top m key (node k x ps) was st r e = ap (λ (w : What). w.kept) (ap (what_in x) (same_node m k key x ps was st r e))

unasked : (f c : ℕ) (p : Plant) → Tended f c p → (payload p).kept.asks ≡ false → asks (term_in c p) ≡ false
unasked f c (node k x ps) t e = sym (t.marked.0 c).asked ∙ e

top_summary : (a : Context) (f c : ℕ) (p : Plant) → Right a f c (shape_of p) → (payload p).kept.summary ≡ summary_of a c f (term_in c p)
top_summary a f c (node k x ps) r = r.0

-- no child is asked anything either, so all that is due is what is left of delays
mutual
  unasked_timely : (a : Context) (f c : ℕ) (p : Plant) → Right a f c (shape_of p) → asks (term_in c p) ≡ false → IsShort (term_in c p) → Timely c p
  unasked_timely a f c (node k x ps) right e short =
      let h = head_view x.head in (
        subst (λ (s : Summary). IsSoon c s.due) (sym right.0) (short_soon a c f (term_in c (node k x ps)) e short),
        unasked_kids a (inner_frame h f) h c 0 ps
            (λ j r. unasked_kid h c (terms_of h c 0 (shapes_of ps)) e j (let z : 0 + j ≡ j = omega arith in subst (λ i. reaches h i ≡ true) z r))
            (λ j r. short_kid h c (terms_of h c 0 (shapes_of ps)) short j (let z : 0 + j ≡ j = omega arith in subst (λ i. reaches h i ≡ true) z r)) right.2,
      )

  unasked_kids : (a : Context) (f : ℕ) (h : Head) (c i : ℕ) (ps : Plants)
      → ((j : ℕ) → reaches h (i + j) ≡ true → asks (term_at (terms_of h c i (shapes_of ps)) j) ≡ false)
      → ((j : ℕ) → reaches h (i + j) ≡ true → IsShort (term_at (terms_of h c i (shapes_of ps)) j)) → RightAll a f h c i (shapes_of ps) → AllTimely h c i ps
  unasked_kids a f h c i none e s r = tt
  unasked_kids a f h c i (gone ps) e s r = unasked_kids a f h c (suc i) ps
      (λ j g. e (suc j) (let n : suc i + j ≡ i + suc j = omega arith in subst (λ z. reaches h z ≡ true) n g))
      (λ j g. s (suc j) (let n : suc i + j ≡ i + suc j = omega arith in subst (λ z. reaches h z ≡ true) n g)) r
  unasked_kids a f h c i (more p ps) e s r = (
    (λ g. unasked_timely a f (inner_clock h i c) p (r.0 g)
        (e 0 (let n : i ≡ i + 0 = omega arith in subst (λ z. reaches h z ≡ true) n g))
        (s 0 (let n : i ≡ i + 0 = omega arith in subst (λ z. reaches h z ≡ true) n g))),
    unasked_kids a f h c (suc i) ps
        (λ j g. e (suc j) (let n : suc i + j ≡ i + suc j = omega arith in subst (λ z. reaches h z ≡ true) n g))
        (λ j g. s (suc j) (let n : suc i + j ≡ i + suc j = omega arith in subst (λ z. reaches h z ≡ true) n g)) r.1,
  )

still : (a : Context) (m : Map What) (f c key : ℕ) (k : Kept) (old new : ℕ) (was : Node What) → m key ≡ Some was → k ≡ was.what.kept → k.asks ≡ false → new ≡ old + 1
    → (p : Plant) → Stands m p → root p ≡ key → Tended f c p → IsShort (term_in c p) → NodeRefreshed a m m f c p k (old + 1) new
still a m f c key k old new was e keeps unasks tick p st r t short =
    let kept : k ≡ (payload p).kept = keeps ∙ kept_top m key p was st r e in
    let none_asked : (payload p).kept.asks ≡ false = ap (λ (z : Kept). z.asks) (sym kept) ∙ unasks in
    let right = unasked_right rests_are_right a f c p t none_asked in
    record {
      plant = p;
      under = refl;
      keys = λ j. refl;
      stands = st;
      only = λ j q. refl;
      means = refl;
      tended = t;
      fresh = record { right = right; flagged = unasked_flagged a f c p t none_asked };
      bare = λ q. q;
      kept = kept;
      timely = unasked_timely a f c p right (unasked f c p t none_asked) short;
      soon = subst (λ z. IsSoon c z.due) (sym (ap (λ (z : Kept). z.summary) kept ∙ top_summary a f c p right)) (short_soon a c f (term_in c p) (unasked f c p t none_asked) short);
      ticks = omega (arith, tick);
    }

pub still_at : (a : Context) (m : Map What) (f c fuel key : ℕ) (k : Kept) (old new : ℕ) (was : Node What) → m key ≡ Some was → k ≡ was.what.kept → k.asks ≡ false → new ≡ old + 1 → AtRule a m m f c fuel key k old new
still_at a m f c fuel key k old new was e keeps unasks tick p st r deep t short room = still a m f c key k old new was e keeps unasks tick p st r t short

pub no_node_at : (a : Context) (m n : Map What) (f c fuel key : ℕ) (k : Kept) (old new : ℕ) → m key ≡ None → AtRule a m n f c fuel key k old new
no_node_at a m n f c fuel key k old new e p st r deep t short room = absurd (absent m key p e st r)

pub asked_at : (a : Context) (m n : Map What) (f c fuel key : ℕ) (k kept : Kept) (old mid new : ℕ) (was : Node What) → m key ≡ Some was → kept ≡ was.what.kept → kept.asks ≡ true → mid ≡ old + 1
    → NodeRule a m n f c fuel key k mid new → AtRule a m n f c fuel key k old new
asked_at a m n f c fuel key k kept old mid new was e keeps asks_so tick rule p st r deep t short room =
    subst (λ z. NodeRefreshed a m n f c p k z new) tick
    (rule p st r deep t (ap (λ (z : Kept). z.asks) (sym (keeps ∙ kept_top m key p was st r e)) ∙ asks_so) short room)

-- ---------------------------------------------------------- the whole

mutual
  pub as_deep : (p : Plant) → depth (shape_of p) ≡ depth p
  as_deep (node k x ps) = ap suc (all_deep ps)

  all_deep : (ps : Plants) → depths (shapes_of ps) ≡ depths ps
  all_deep none = refl
  all_deep (gone ps) = all_deep ps
  all_deep (more p ps) = λ i. max (as_deep p i) (all_deep ps i)

is_refreshed : (a : Context) (m n : Map What) (f c : ℕ) (p : Plant) (k : Kept) (old new : ℕ) → NodeRefreshed a m n f c p k (old + 1) new → IsRefreshed a m n f c p old new
is_refreshed a m n f c p k old new x = record {
  plant = x.plant;
  under = x.under;
  keys = x.keys;
  made = record {
    stands = x.stands;
    change = record {
      kept = λ j u v. x.only j u;
      freed = λ j u v. not_both (has p j) u (sym (x.keys j) ∙ v);
      fresh = λ j v. inl (sym (x.keys j) ∙ v);
    };
  };
  means = x.means;
  tended = x.tended;
  fresh = x.fresh;
  timely = x.timely;
  soon = subst (λ (z : Kept). IsSoon c z.summary.due) x.kept x.soon;
  ticks = omega (arith, x.ticks);
}

pub refreshed_absent : (a : Context) (m n : Map What) (f c key old new : ℕ) → m key ≡ None → RefreshRule a m n key f c old new
refreshed_absent a m n f c key old new e p st r t short room = absurd (absent m key p e st r)

pub refreshed_still : (a : Context) (m : Map What) (f c key : ℕ) (k : Kept) (old new : ℕ) (was : Node What) → m key ≡ Some was → k ≡ was.what.kept → k.asks ≡ false → new ≡ old + 1 → RefreshRule a m m key f c old new
refreshed_still a m f c key k old new was e keeps unasks tick p st r t short room = is_refreshed a m m f c p k old new (still a m f c key k old new was e keeps unasks tick p st r t short)

pub high_top : (f c : ℕ) (p : Plant) → Tended f c p → (payload p).kept.height ≡ height (term_in c p)
high_top f c (node k x ps) t = (t.marked.0 c).high

pub refreshed_asked : NoDeeperThanHigh → (a : Context) (m n : Map What) (f c key fuel : ℕ) (k kept : Kept) (old mid new : ℕ) (was : Node What) → m key ≡ Some was → kept ≡ was.what.kept → kept.asks ≡ true → fuel ≡ 2 * kept.height → mid ≡ old + 1
    → NodeRule a m n f c fuel key k mid new → RefreshRule a m n key f c old new
refreshed_asked law a m n f c key fuel k kept old mid new was e keeps asks_so fuel_is tick rule p st r t short room =
    let top : kept ≡ (payload p).kept = keeps ∙ kept_top m key p was st r e in
    let high : kept.height ≡ height (term_in c p) = ap (λ (z : Kept). z.height) top ∙ high_top f c p t in
    let deep : depth p ≤ fuel = omega (arith, law c (shape_of p) t.sound.whole, as_deep p, high, fuel_is) in
    is_refreshed a m n f c p k old new (asked_at a m n f c fuel key k kept old mid new was e keeps asks_so tick rule p st r deep t short room)
