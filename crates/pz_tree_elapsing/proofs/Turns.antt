-- The gate of a node has turned, or not, when time has passed over its children.
use Rattle.std.proofs.Common.{◌≡◌, ◌≤◌, ◌+◌, ◌*◌, ◌||◌, ℕ, suc, Bool, true, false, List, ◌∷◌, Option, Some, refl, ap, sym, ◌∙◌, subst, arith}
use Rattle.pz_nodes_shapes.specs.Rose.{node, none, gone, more, Map, root, roots, kids, payload, has, has_any, Stands, StandAll}
use Rattle.pz_nodes_shapes.proofs.Frames.{or_neither, unless, not_both}
use Rattle.pz_tree_refreshing.specs.pz_offer.Summaries.{nothing, join}
use Rattle.pz_tree_refreshing.specs.pz_rules.Settings.{Context}
use Rattle.pz_tree_refreshing.specs.pz_rules.Terms.{Term, Terms, no_terms, and}
use Rattle.pz_tree_refreshing.specs.pz_tree_standing.Asked.{asks}
use Rattle.pz_tree_refreshing.specs.pz_tree_standing.Steady.{later}
use Rattle.pz_tree_refreshing.specs.pz_tree_standing.Summaries.{summary_of}
use Rattle.pz_tree_refreshing.specs.pz_tree_standing.Woken.{starts, clocked}
use Rattle.pz_tree_refreshing.specs.pz_tree_standing.Heads.{Head, leaf, wait, sequence, parallel, select, guarded, frame, abort, idle, handling, shifted, Shapes, inner_clock}
use Rattle.pz_tree_refreshing.specs.pz_tree_standing.Standing.{terms_of, HeadFits}
use Rattle.pz_tree_refreshing.specs.pz_tree_standing.Reached.{reaches, behind_inside}
use Rattle.pz_tree_refreshing.specs.pz_tree_standing.Right.{Right, RightAll}
use Rattle.pz_tree_refreshing.specs.pz_tree_standing.Whole.{HasParts}
use Rattle.pz_tree_refreshing.specs.pz_tree_nodes.declared.kept.Kept.{Kept}
use Rattle.pz_tree_refreshing.specs.pz_tree_nodes.declared.node.What.{What}
use Rattle.pz_tree_refreshing.specs.pz_tree_nodes.Keeping.{kept_none, kept_later}
use Rattle.pz_tree_refreshing.specs.pz_tree_nodes.View.{Plant, Plants, shapes_of, term_in}
use Rattle.pz_tree_refreshing.specs.pz_tree_nodes.Tended.{Tended}
use Rattle.pz_tree_refreshing.specs.pz_tree_nodes.Fresh.{Flagged, AllFlagged}
use Rattle.pz_tree_refreshing.proofs.pz_tree_nodes_proofs.Joins.{joined_none}
use Rattle.pz_tree_refreshing.specs.Live.{live_below}
use Rattle.pz_tree_refreshing.specs.pz_rules.Short.{AreShort}
use Rattle.pz_tree_refreshing.specs.pz_tree_standing.Soon.{HasRoom}
use Rattle.pz_tree_refreshing.specs.Refreshing.{Timely, AllTimely, IsRefreshed}
use Rattle.pz_tree_refreshing.specs.devices.Reached.{added, reached_sum, Says}
use Rattle.pz_tree_refreshing.specs.devices.Levels.{IsLeft, KidsTended}
use Rattle.pz_tree_refreshing.proofs.pz_tree_standing_proofs.Soon.{clock_back, room_inside}
use Rattle.pz_tree_refreshing.proofs.Short.{may_shift}
use Rattle.pz_tree_refreshing.proofs.Kids.{says_more, says_gone, says_reached, still_stand}
use Rattle.pz_tree_refreshing.proofs.Levels.{same_terms, same_width, same_parts}
use Rattle.pz_tree_elapsing.specs.declared.turning.Turn.{Turn}
use Rattle.pz_tree_elapsing.specs.declared.turning.Turn.TheVariants.{Same, Shut, Opened}
use Rattle.pz_tree_elapsing.specs.Waking.{visited, woken_below, woken_among}
use Rattle.pz_tree_elapsing.specs.devices.Wakes.{own_asks, Turns, passed_reached}
use Rattle.pz_tree_elapsing.specs.devices.Levels.{KidsElapsed, first_kid, IsReturned, ReturnRule, TurnRule}
use Rattle.pz_tree_elapsing.proofs.Kids.{right_top, flags_top}

or_left : (b : Bool) → false || b ≡ b
or_left b = refl

or_right : (b : Bool) → b || false ≡ b
or_right true = refl
or_right false = refl

-- ---------------------------------------------------------- a node that reaches the same children

module _ (h g : Head) (c : ℕ) (clocks : (i : ℕ) → inner_clock g i c ≡ inner_clock h i c) where
  tended_alike : (f i : ℕ) (ps : Plants) → KidsTended f h c i ps → KidsTended f g c i ps
  tended_alike f i none t = tt
  tended_alike f i (gone ps) t = tended_alike f (suc i) ps t
  tended_alike f i (more p ps) t = (subst (λ z. Tended f z p) (sym (clocks i)) t.0, tended_alike f (suc i) ps t.1)

  module _ (same : (i : ℕ) → reaches g i ≡ reaches h i) where
    right_alike : (b : Context) (f i : ℕ) (ss : Shapes) → RightAll b f h c i ss → RightAll b f g c i ss
    right_alike b f i none r = tt
    right_alike b f i (gone ss) r = right_alike b f (suc i) ss r
    right_alike b f i (more s ss) r = ((λ e. subst (λ z. Right b f z s) (sym (clocks i)) (r.0 (sym (same i) ∙ e))), right_alike b f (suc i) ss r.1)

    flagged_alike : (b : Context) (f i : ℕ) (ps : Plants) → AllFlagged b f h c i ps → AllFlagged b f g c i ps
    flagged_alike b f i none r = tt
    flagged_alike b f i (gone ps) r = flagged_alike b f (suc i) ps r
    flagged_alike b f i (more p ps) r = ((λ e. subst (λ z. Flagged b f z p) (sym (clocks i)) (r.0 (sym (same i) ∙ e))), flagged_alike b f (suc i) ps r.1)

    timely_alike : (i : ℕ) (ps : Plants) → AllTimely h c i ps → AllTimely g c i ps
    timely_alike i none r = tt
    timely_alike i (gone ps) r = timely_alike (suc i) ps r
    timely_alike i (more p ps) r = ((λ e. subst (λ z. Timely z p) (sym (clocks i)) (r.0 (sym (same i) ∙ e))), timely_alike (suc i) ps r.1)

sum_alike : {V : Type 0} (nil : V) (plus : V → V → V) (h g : Head) (v : Term → V) → ((i : ℕ) → reaches g i ≡ reaches h i) → (i : ℕ) (ts : Terms) → reached_sum nil plus g v i ts ≡ reached_sum nil plus h v i ts
sum_alike nil plus h g v same i no_terms = refl
sum_alike nil plus h g v same i (and t ts) = λ n. added plus (same i n) (v t) (sum_alike nil plus h g v same (suc i) ts n)

says_alike : (b : Context) (c f : ℕ) (h g : Head) → ((i : ℕ) → reaches g i ≡ reaches h i) → (i : ℕ) (ts : Terms) (k : Kept) → Says b c f h i ts k → Says b c f g i ts k
says_alike b c f h g same i ts k s = record {
  summary = s.summary ∙ sym (sum_alike nothing join h g (summary_of b c f) same i ts);
  starts = s.starts ∙ sym (sum_alike false ◌||◌ h g (starts b f) same i ts);
  clocked = s.clocked ∙ sym (sum_alike false ◌||◌ h g (clocked b f) same i ts);
  soon = s.soon;
}

-- ---------------------------------------------------------- costs

visited_more : (r s : Bool) (w l : ℕ) → visited r r w l ≤ visited r s w l
visited_more true s w l = omega arith
visited_more false true w l = omega arith
visited_more false false w l = omega arith

cost_more : (h g : Head) (c i : ℕ) (ps qs : Plants) → woken_among h h c i ps qs ≤ woken_among h g c i ps qs
cost_more h g c i none qs = omega arith
cost_more h g c i (gone ps) none = omega arith
cost_more h g c i (gone ps) (gone qs) = cost_more h g c (suc i) ps qs
cost_more h g c i (gone ps) (more q qs) = omega arith
cost_more h g c i (more p ps) none = omega arith
cost_more h g c i (more p ps) (gone qs) = omega arith
cost_more h g c i (more p ps) (more q qs) =
    omega (arith, visited_more (reaches h i) (reaches g i) (woken_below (inner_clock h i c) p q) (live_below q), cost_more h g c (suc i) ps qs)

none_visited : (h : Head) (c i : ℕ) (ps qs : Plants) → ((j : ℕ) → reaches h j ≡ false) → woken_among h h c i ps qs ≡ 0
none_visited h c i none qs e = refl
none_visited h c i (gone ps) none e = refl
none_visited h c i (gone ps) (gone qs) e = none_visited h c (suc i) ps qs e
none_visited h c i (gone ps) (more q qs) e = refl
none_visited h c i (more p ps) none e = refl
none_visited h c i (more p ps) (gone qs) e = refl
none_visited h c i (more p ps) (more q qs) e =
    let z : visited (reaches h i) (reaches h i) (woken_below (inner_clock h i c) p q) (live_below q) ≡ 0 = ap (λ r. visited r r (woken_below (inner_clock h i c) p q) (live_below q)) (e i) in
    omega (arith, z, none_visited h c (suc i) ps qs e)

-- the first child has become active
first_visited : (h g : Head) (c : ℕ) (ps : Plants) (q : Plant) (qs : Plants) → roots ps ≡ Some (root q) ∷ roots qs → reaches h 0 ≡ false → reaches g 0 ≡ true → suc (live_below q) ≤ woken_among h g c 0 ps (more q qs)
first_visited h g c none q qs e r s = absurd cc
first_visited h g c (gone ps) q qs e r s = absurd cc
first_visited h g c (more p ps) q qs e r s =
    let z : visited (reaches h 0) (reaches g 0) (woken_below (inner_clock h 0 c) p q) (live_below q) ≡ suc (live_below q) =
    λ i. visited (r i) (s i) (woken_below (inner_clock h 0 c) p q) (live_below q) in
    omega (arith, z)

-- ---------------------------------------------------------- children that are not active

right_none : (b : Context) (f : ℕ) (g : Head) (c i : ℕ) (ss : Shapes) → ((j : ℕ) → reaches g (i + j) ≡ false) → RightAll b f g c i ss
right_none b f g c i none e = tt
right_none b f g c i (gone ss) e = right_none b f g c (suc i) ss (λ j. let n : i + suc j ≡ suc i + j = omega arith in subst (λ z. reaches g z ≡ false) n (e (suc j)))
right_none b f g c i (more s ss) e = (
  (λ r. not_both (reaches g i) r (let n : i + 0 ≡ i = omega arith in subst (λ z. reaches g z ≡ false) n (e 0))),
  right_none b f g c (suc i) ss (λ j. let n : i + suc j ≡ suc i + j = omega arith in subst (λ z. reaches g z ≡ false) n (e (suc j))),
)

flagged_none : (b : Context) (f : ℕ) (g : Head) (c i : ℕ) (ps : Plants) → ((j : ℕ) → reaches g (i + j) ≡ false) → AllFlagged b f g c i ps
flagged_none b f g c i none e = tt
flagged_none b f g c i (gone ps) e = flagged_none b f g c (suc i) ps (λ j. let n : i + suc j ≡ suc i + j = omega arith in subst (λ z. reaches g z ≡ false) n (e (suc j)))
flagged_none b f g c i (more p ps) e = (
  (λ r. not_both (reaches g i) r (let n : i + 0 ≡ i = omega arith in subst (λ z. reaches g z ≡ false) n (e 0))),
  flagged_none b f g c (suc i) ps (λ j. let n : i + suc j ≡ suc i + j = omega arith in subst (λ z. reaches g z ≡ false) n (e (suc j))),
)

timely_none : (g : Head) (c i : ℕ) (ps : Plants) → ((j : ℕ) → reaches g (i + j) ≡ false) → AllTimely g c i ps
timely_none g c i none e = tt
timely_none g c i (gone ps) e = timely_none g c (suc i) ps (λ j. let n : i + suc j ≡ suc i + j = omega arith in subst (λ z. reaches g z ≡ false) n (e (suc j)))
timely_none g c i (more p ps) e = (
  (λ r. not_both (reaches g i) r (let n : i + 0 ≡ i = omega arith in subst (λ z. reaches g z ≡ false) n (e 0))),
  timely_none g c (suc i) ps (λ j. let n : i + suc j ≡ suc i + j = omega arith in subst (λ z. reaches g z ≡ false) n (e (suc j))),
)

sum_none : {V : Type 0} (nil : V) (plus : V → V → V) (g : Head) (v : Term → V) (i : ℕ) (ts : Terms) → ((j : ℕ) → reaches g (i + j) ≡ false) → reached_sum nil plus g v i ts ≡ nil
sum_none nil plus g v i no_terms e = refl
sum_none nil plus g v i (and t ts) e =
    ap (λ z. added plus z (v t) (reached_sum nil plus g v (suc i) ts)) (let n : i + 0 ≡ i = omega arith in subst (λ z. reaches g z ≡ false) n (e 0))
    ∙ sum_none nil plus g v (suc i) ts (λ j. let n : i + suc j ≡ suc i + j = omega arith in subst (λ z. reaches g z ≡ false) n (e (suc j)))

says_none : (b : Context) (c f : ℕ) (g : Head) (i : ℕ) (ts : Terms) → ((j : ℕ) → reaches g (i + j) ≡ false) → Says b c f g i ts kept_none
says_none b c f g i ts e = record {
  summary = sym (sum_none nothing join g (summary_of b c f) i ts e);
  starts = sym (sum_none false ◌||◌ g (starts b f) i ts e);
  clocked = sym (sum_none false ◌||◌ g (clocked b f) i ts e);
  soon = tt;
}

-- a node that reached no child is no shift node
unreached_parts : (h : Head) (ps qs : Plants) → ((i : ℕ) → reaches h i ≡ false) → roots qs ≡ roots ps → HasParts h (shapes_of ps) → HasParts h (shapes_of qs)
unreached_parts (leaf s) ps qs u e p = same_width ps qs e ∙ p
unreached_parts (wait due at) ps qs u e p = same_width ps qs e ∙ p
unreached_parts (sequence rest) ps qs u e p = same_width ps qs e ∙ p
unreached_parts parallel ps qs u e p = tt
unreached_parts select ps qs u e p = tt
unreached_parts (guarded test at s) ps qs u e p = same_width ps qs e ∙ p
unreached_parts (frame number inputs results) ps qs u e p = same_width ps qs e ∙ p
unreached_parts abort ps qs u e p = same_width ps qs e ∙ p
unreached_parts (idle again s) ps qs u e p = same_width ps qs e ∙ p
unreached_parts (handling again s) ps qs u e p = same_width ps qs e ∙ p
unreached_parts (shifted s) ps qs u e p = absurd (let z = u 0 in cc)

-- ---------------------------------------------------------- the gate has turned

-- the children of a node h that has become g
pub record KidsTurned (a : Context) (d : ℕ) (m n : Map What) (f : ℕ) (h g : Head) (c : ℕ) (ps : Plants) (k : Kept) (old new : ℕ) : Type 0 where
  pub plants : Plants
  pub under : roots plants ≡ roots ps
  pub keys : (j : ℕ) → has_any plants j ≡ has_any ps j
  pub stand : StandAll n plants
  pub only : (j : ℕ) → has_any ps j ≡ false → n j ≡ m j
  pub means : terms_of g (c + d) 0 (shapes_of plants) ≡ passed_reached a d f h 0 (terms_of h c 0 (shapes_of ps))
  pub tended : KidsTended f g (c + d) 0 plants
  pub right : RightAll (later a d) f g (c + d) 0 (shapes_of plants)
  pub flagged : AllFlagged (later a d) f g (c + d) 0 plants
  pub timely : AllTimely g (c + d) 0 plants
  pub short : AreShort (terms_of g (c + d) 0 (shapes_of plants))
  pub parts : HasParts h (shapes_of ps) → HasParts h (shapes_of plants)
  pub says : Says (later a d) (c + d) f g 0 (terms_of g (c + d) 0 (shapes_of plants)) k
  pub asks_so : own_asks g || k.asks ≡ own_asks g || reached_sum false ◌||◌ g asks 0 (terms_of g (c + d) 0 (shapes_of plants))
  pub ticks : new ≤ old + 4 * woken_among h g (c + d) 0 ps plants

node_at : (n : Map What) (p : Plant) → Stands n p → n (root p) ≡ Some (record { what = payload p; kids = roots (kids p) })
node_at n (node k x ps) st = st.0

module _ (a : Context) (d : ℕ) (m n0 : Map What) (f : ℕ) (h g : Head) (c : ℕ) (ps : Plants) (all : Kept) (old mid : ℕ)
    (x : KidsElapsed a d m n0 f h c 0 ps all old mid) (clocks : (i : ℕ) → inner_clock g i (c + d) ≡ inner_clock h i (c + d)) where
  abbrev b : Context
  b = later a d

  abbrev now : ℕ
  now = c + d

  abbrev alike : (i : ℕ) (ss : Shapes) → terms_of g (c + d) i ss ≡ terms_of h (c + d) i ss
  alike i ss = same_terms h g (c + d) clocks i ss

  abbrev here : Terms
  here = terms_of g (c + d) 0 (shapes_of x.plants)

  -- what was active is active
  stays_same : (n : Map What) (k : Kept) (new : ℕ) → ((i : ℕ) → reaches g i ≡ reaches h i) → n ≡ n0 → k ≡ all → new ≡ mid → KidsTurned a d m n f h g c ps k old new
  stays_same n k new same n_is k_is new_is = record {
    plants = x.plants;
    under = x.under;
    keys = x.keys;
    stand = subst (λ (z : Map What). StandAll z x.plants) (sym n_is) x.stand;
    only = λ j e. ap (λ (z : Map What). z j) n_is ∙ x.only j e;
    means = alike 0 (shapes_of x.plants) ∙ x.means;
    tended = tended_alike h g (c + d) clocks f 0 x.plants x.tended;
    right = right_alike h g (c + d) clocks same (later a d) f 0 (shapes_of x.plants) x.right;
    flagged = flagged_alike h g (c + d) clocks same (later a d) f 0 x.plants x.flagged;
    timely = timely_alike h g (c + d) clocks same 0 x.plants x.timely;
    short = subst AreShort (sym (alike 0 (shapes_of x.plants))) x.short;
    parts = same_parts h ps x.plants x.under x.bare;
    says = subst (λ z. Says (later a d) (c + d) f g 0 z k) (sym (alike 0 (shapes_of x.plants)))
        (says_alike (later a d) (c + d) f h g same 0 (terms_of h (c + d) 0 (shapes_of x.plants)) k (subst (Says (later a d) (c + d) f h 0 (terms_of h (c + d) 0 (shapes_of x.plants))) (sym k_is) x.says));
    asks_so = ap (λ z. own_asks g || z) (ap (λ (z : Kept). z.asks) k_is ∙ x.asks ∙ sym (sum_alike false ◌||◌ h g asks same 0 (terms_of h (c + d) 0 (shapes_of x.plants)))
        ∙ ap (reached_sum false ◌||◌ g asks 0) (sym (alike 0 (shapes_of x.plants))));
    ticks = omega (arith, x.ticks, new_is, cost_more h g (c + d) 0 ps x.plants);
  }

  -- nothing is active any longer
  has_shut : (n : Map What) (k : Kept) (new : ℕ) → ((i : ℕ) → reaches g i ≡ false) → own_asks g ≡ true → IsLeft n0 n k mid new → KidsTurned a d m n f h g c ps k old new
  has_shut n k new shut own left = record {
    plants = x.plants;
    under = x.under;
    keys = x.keys;
    stand = subst (λ (z : Map What). StandAll z x.plants) (sym left.same) x.stand;
    only = λ j e. ap (λ (z : Map What). z j) left.same ∙ x.only j e;
    means = alike 0 (shapes_of x.plants) ∙ x.means;
    tended = tended_alike h g (c + d) clocks f 0 x.plants x.tended;
    right = right_none (later a d) f g (c + d) 0 (shapes_of x.plants) (λ j. shut (0 + j));
    flagged = flagged_none (later a d) f g (c + d) 0 x.plants (λ j. shut (0 + j));
    timely = timely_none g (c + d) 0 x.plants (λ j. shut (0 + j));
    short = subst AreShort (sym (alike 0 (shapes_of x.plants))) x.short;
    parts = same_parts h ps x.plants x.under x.bare;
    says = subst (Says (later a d) (c + d) f g 0 here) (sym left.nothing) (says_none (later a d) (c + d) f g 0 here (λ j. shut (0 + j)));
    asks_so = ap (λ z. z || k.asks) own ∙ sym (ap (λ z. z || reached_sum false ◌||◌ g asks 0 here) own);
    ticks = omega (arith, x.ticks, left.ticks, cost_more h g (c + d) 0 ps x.plants);
  }

  -- the first child has become active
  module _ (fits : HeadFits g (c + d)) (room : HasRoom (c + d)) (was : (i : ℕ) → reaches h i ≡ false) (others : (i : ℕ) → reaches g (suc i) ≡ false)
      (first : reaches g 0 ≡ true) (own : own_asks g ≡ true) (n : Map What) (k : Kept) (new : ℕ) where
    none_before : mid ≤ old
    none_before = omega (arith, x.ticks, none_visited h (c + d) 0 ps x.plants was)

    beyond : (j : ℕ) → reaches g (1 + j) ≡ false
    beyond j = let z : suc j ≡ 1 + j = omega arith in subst (λ i. reaches g i ≡ false) z (others j)

    -- there is no first child
    no_first : (qs : Plants) → qs ≡ x.plants → (i : ℕ) → IsLeft n0 n k mid new → RightAll (later a d) f g (c + d) 0 (shapes_of qs) → AllFlagged (later a d) f g (c + d) 0 qs → AllTimely g (c + d) 0 qs
        → Says (later a d) (c + d) f g 0 (terms_of g (c + d) 0 (shapes_of qs)) kept_none → KidsTurned a d m n f h g c ps k old new
    no_first qs e i left right flagged timely says = record {
      plants = x.plants;
      under = x.under;
      keys = x.keys;
      stand = subst (λ (z : Map What). StandAll z x.plants) (sym left.same) x.stand;
      only = λ j q. ap (λ (z : Map What). z j) left.same ∙ x.only j q;
      means = alike 0 (shapes_of x.plants) ∙ x.means;
      tended = tended_alike h g (c + d) clocks f 0 x.plants x.tended;
      right = subst (λ z. RightAll (later a d) f g (c + d) 0 (shapes_of z)) e right;
      flagged = subst (λ z. AllFlagged (later a d) f g (c + d) 0 z) e flagged;
      timely = subst (λ z. AllTimely g (c + d) 0 z) e timely;
      short = subst AreShort (sym (alike 0 (shapes_of x.plants))) x.short;
      parts = unreached_parts h ps x.plants was x.under;
      says = subst (λ z. Says (later a d) (c + d) f g 0 (terms_of g (c + d) 0 (shapes_of z)) k) e (subst (Says (later a d) (c + d) f g 0 (terms_of g (c + d) 0 (shapes_of qs))) (sym left.nothing) says);
      asks_so = ap (λ z. z || k.asks) own ∙ sym (ap (λ z. z || reached_sum false ◌||◌ g asks 0 here) own);
      ticks = omega (arith, none_before, left.ticks);
    }

    module _ (q : Plant) (qs : Plants) (are : more q qs ≡ x.plants) (r : IsReturned (later a d) n0 n f g (c + d) (root q) k mid new) where
      abbrev inner : ℕ
      inner = inner_clock g 0 (c + d)

      stood : StandAll n0 (more q qs)
      stood = subst (StandAll n0) (sym are) x.stand

      tended_now : KidsTended f g (c + d) 0 (more q qs)
      tended_now = tended_alike h g (c + d) clocks f 0 (more q qs) (subst (KidsTended f h (c + d) 0) (sym are) x.tended)

      shorts : AreShort (terms_of g (c + d) 0 (shapes_of (more q qs)))
      shorts = subst AreShort (sym (alike 0 (shapes_of (more q qs)))) (subst (λ z. AreShort (terms_of h (c + d) 0 (shapes_of z))) (sym are) x.short)

      is : IsRefreshed (later a d) n0 n f inner q mid r.mid
      is = r.rule q stood.1 refl tended_now.0 shorts.0 (room_inside g (c + d) 0 fits first room)

      only_first : (j : ℕ) → has q j ≡ false → n j ≡ n0 j
      only_first j e = is.made.change.kept j e (is.keys j ∙ e)

      -- no key is both below the first and below another
      outside : (j : ℕ) → has q j ≡ true → has_any qs j ≡ false
      outside j e = unless (has_any qs j) (λ z. stood.0 j e z)

      back : inner + behind_inside g 0 ≡ c + d
      back = clock_back g (c + d) 0 fits first

      k_is : k ≡ kept_later (behind_inside g 0) (payload is.plant).kept
      k_is = r.brought (record { what = payload is.plant; kids = roots (kids is.plant) })
          (ap n (sym is.under) ∙ node_at n is.plant is.made.stands)
          (may_shift (c + d) inner (behind_inside g 0) (payload is.plant).kept back room is.soon)

      terms_stay : terms_of g (c + d) 0 (shapes_of (more is.plant qs)) ≡ terms_of g (c + d) 0 (shapes_of (more q qs))
      terms_stay = ap (λ z. and z (terms_of g (c + d) 1 (shapes_of qs))) is.means

      has_opened : KidsTurned a d m n f h g c ps k old new
      has_opened = record {
        plants = more is.plant qs;
        under = ap (λ z. Some z ∷ roots qs) is.under ∙ ap roots are ∙ x.under;
        keys = λ j. ap (λ z. z || has_any qs j) (is.keys j) ∙ ap (λ z. has_any z j) are ∙ x.keys j;
        stand = (
          (λ j e z. stood.0 j (sym (is.keys j) ∙ e) z),
          is.made.stands,
          still_stand n0 n q qs stood only_first,
        );
        only = λ j e. only_first j (or_neither (has q j) (has_any qs j) (ap (λ z. has_any z j) are ∙ x.keys j ∙ e)).0 ∙ x.only j e;
        means = terms_stay ∙ alike 0 (shapes_of (more q qs)) ∙ ap (λ z. terms_of h (c + d) 0 (shapes_of z)) are ∙ x.means;
        tended = (is.tended, tended_now.1);
        right = ((λ e. is.fresh.right), right_none (later a d) f g (c + d) 1 (shapes_of qs) beyond);
        flagged = ((λ e. is.fresh.flagged), flagged_none (later a d) f g (c + d) 1 qs beyond);
        timely = ((λ e. is.timely), timely_none g (c + d) 1 qs beyond);
        short = subst AreShort (sym terms_stay) shorts;
        parts = unreached_parts h ps (more is.plant qs) was (ap (λ z. Some z ∷ roots qs) is.under ∙ ap roots are ∙ x.under);
        says = subst (Says (later a d) (c + d) f g 0 (terms_of g (c + d) 0 (shapes_of (more is.plant qs)))) (joined_none k)
            (says_more (later a d) (c + d) f g 0 (term_in inner is.plant) (terms_of g (c + d) 1 (shapes_of qs)) k kept_none
            (says_reached (later a d) (c + d) f g 0 inner (behind_inside g 0) (term_in inner is.plant) k (payload is.plant).kept first back
            (right_top (later a d) f inner is.plant is.fresh.right) (flags_top (later a d) f inner is.plant is.fresh.flagged) is.soon k_is)
            (says_none (later a d) (c + d) f g 1 (terms_of g (c + d) 1 (shapes_of qs)) beyond));
        asks_so = ap (λ z. z || k.asks) own ∙ sym (ap (λ z. z || reached_sum false ◌||◌ g asks 0 (terms_of g (c + d) 0 (shapes_of (more is.plant qs)))) own);
        ticks =
            let roots_are : roots ps ≡ Some (root is.plant) ∷ roots qs = sym (ap (λ z. Some z ∷ roots qs) is.under ∙ ap roots are ∙ x.under) in
            let cost = first_visited h g (c + d) ps is.plant qs roots_are (was 0) first in
            omega (arith, none_before, is.ticks, r.ticks, cost);
      }

    opened_by : (qs : Plants) → qs ≡ x.plants → (keys : List (Option ℕ)) → keys ≡ roots qs → ReturnRule (later a d) n0 n f g (c + d) (first_kid keys) k mid new → KidsTurned a d m n f h g c ps k old new
    opened_by none are keys e rule =
        no_first none are 0 (subst (λ z. ReturnRule (later a d) n0 n f g (c + d) (first_kid z) k mid new) e rule) tt tt tt (record { summary = refl; starts = refl; clocked = refl; soon = tt })
    opened_by (gone qs) are keys e rule =
        no_first (gone qs) are 0 (subst (λ z. ReturnRule (later a d) n0 n f g (c + d) (first_kid z) k mid new) e rule)
        (right_none (later a d) f g (c + d) 1 (shapes_of qs) beyond) (flagged_none (later a d) f g (c + d) 1 qs beyond) (timely_none g (c + d) 1 qs beyond)
        (says_gone (later a d) (c + d) f g 0 (terms_of g (c + d) 1 (shapes_of qs)) kept_none (says_none (later a d) (c + d) f g 1 (terms_of g (c + d) 1 (shapes_of qs)) beyond))
    opened_by (more q qs) are keys e rule = has_opened q qs are (subst (λ z. ReturnRule (later a d) n0 n f g (c + d) (first_kid z) k mid new) e rule)

  pub kids_turned : (t : Turn) (n : Map What) (keys : List (Option ℕ)) (k : Kept) (new : ℕ) → Turns t h g → HeadFits g (c + d) → HasRoom (c + d) → keys ≡ roots ps
      → TurnRule t (later a d) n0 n f g (c + d) keys all k mid new → KidsTurned a d m n f h g c ps k old new
  kids_turned Same n keys k new turns fits room are rule = stays_same n k new turns rule.0 rule.1 rule.2
  kids_turned Shut n keys k new turns fits room are rule = has_shut n k new turns.0 turns.1 rule
  kids_turned Opened n keys k new turns fits room are rule = opened_by fits room turns.0 turns.1 turns.2 turns.3 n k new x.plants refl keys (are ∙ sym x.under) rule
