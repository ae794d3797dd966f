-- The children of a node are refreshed, one after another.
use Rattle.std.proofs.Common.{◌≡◌, ◌≤◌, ◌+◌, ◌*◌, ◌||◌, ℕ, zero, suc, if◌then◌else◌, Bool, true, false, List, [], ◌∷◌, length, drop, Option, Some, None, refl, ap, sym, ◌∙◌, subst, arith, inl, inr}
use Rattle.std.proofs.lemmas.Grind.{common_steps}
use Rattle.pz_nodes_shapes.specs.Rose.{node, none, gone, more, Map, root, roots, payload, has, has_any, Stands, StandAll}
use Rattle.pz_nodes_shapes.specs.Reading.{depth}
use Rattle.pz_nodes_shapes.proofs.Frames.{or_neither, unless, decided, not_both, stands_kept, all_kept}
use Rattle.pz_tree_nodes.specs.pz_offer.Summaries.{nothing, join, shifted, MayShift}
use Rattle.pz_tree_nodes.proofs.pz_offer_proofs.Joins.{join_left, join_right}
use Rattle.pz_tree_nodes.specs.pz_rules.Settings.{Context}
use Rattle.pz_tree_nodes.specs.pz_rules.Terms.{Term, done, Terms, no_terms, and}
use Rattle.pz_tree_nodes.specs.pz_tree_standing.Summaries.{summary_of}
use Rattle.pz_tree_nodes.specs.pz_tree_standing.Woken.{starts, clocked}
use Rattle.pz_tree_nodes.specs.pz_tree_standing.Heads.{Head, inner_clock}
use Rattle.pz_tree_nodes.specs.pz_tree_standing.Standing.{terms_of, HeadFits}
use Rattle.pz_tree_nodes.specs.pz_tree_standing.Reached.{reaches, behind_inside}
use Rattle.pz_tree_nodes.specs.pz_tree_standing.Right.{Right}
use Rattle.pz_tree_nodes.specs.declared.kept.Kept.{Kept}
use Rattle.pz_tree_nodes.specs.declared.node.What.{What}
use Rattle.pz_tree_nodes.specs.Keeping.{HasFlags, kept_none, joined, kept_later}
use Rattle.pz_tree_nodes.specs.View.{Plant, Plants, shape_of, shapes_of, term_in}
use Rattle.pz_tree_nodes.specs.Tended.{Tended}
use Rattle.pz_tree_nodes.specs.Fresh.{Flagged}
use Rattle.pz_tree_nodes.proofs.Joins.{joined_associative, joined_none, none_joined}
use Rattle.pz_tree_nodes.proofs.Wakings.{or_none}
use Rattle.pz_tree_refreshing.specs.Live.{live_below}
use Rattle.pz_tree_nodes.specs.pz_rules.Short.{IsShort}
use Rattle.pz_tree_nodes.specs.pz_tree_standing.Soon.{HasRoom, IsSoon}
use Rattle.pz_tree_refreshing.specs.Refreshing.{Timely}
use Rattle.pz_tree_refreshing.specs.devices.Reached.{added, reached_sum, Says}
use Rattle.pz_tree_refreshing.specs.devices.Levels.{IsBare, NodeRefreshed, KidsRefreshed, IsLeft, IsBrought, AtRule, KidRule, KidsRule, RefreshesOn}
use Rattle.pz_tree_nodes.proofs.pz_tree_standing_proofs.Soon.{least_soon, clock_back, room_inside, here_later}
use Rattle.pz_tree_refreshing.proofs.Short.{may_shift, soon_here}
use Rattle.pz_tree_refreshing.proofs.Sums.{plus_added, added_nil}

or_left : (b : Bool) → false || b ≡ b
or_left b = refl

-- ---------------------------------------------------------- what children keep

-- one, before others
pub says_more : (a : Context) (c f : ℕ) (h : Head) (i : ℕ) (t : Term) (ts : Terms) (k l : Kept) → Says a c f h i (and t no_terms) k → Says a c f h (suc i) ts l → Says a c f h i (and t ts) (joined k l)
says_more a c f h i t ts k l p q = record {
  summary = (λ n. join (p.summary n) (q.summary n))
      ∙ plus_added nothing join join_left join_right (reaches h i) (summary_of a c f t) (reached_sum nothing join h (summary_of a c f) (suc i) ts);
  starts = (λ n. p.starts n || q.starts n)
      ∙ plus_added false ◌||◌ or_left or_none (reaches h i) (starts a f t) (reached_sum false ◌||◌ h (starts a f) (suc i) ts);
  clocked = (λ n. p.clocked n || q.clocked n)
      ∙ plus_added false ◌||◌ or_left or_none (reaches h i) (clocked a f t) (reached_sum false ◌||◌ h (clocked a f) (suc i) ts);
  soon = least_soon c k.summary.due l.summary.due p.soon q.soon;
}

-- a child that is gone adds nothing
pub says_gone : (a : Context) (c f : ℕ) (h : Head) (i : ℕ) (ts : Terms) (l : Kept) → Says a c f h (suc i) ts l → Says a c f h i (and done ts) l
says_gone a c f h i ts l q = record {
  summary = q.summary ∙ sym (added_nil nothing join join_left join_right (reaches h i) (summary_of a c f done) (reached_sum nothing join h (summary_of a c f) (suc i) ts) refl);
  starts = q.starts ∙ sym (added_nil false ◌||◌ or_left or_none (reaches h i) (starts a f done) (reached_sum false ◌||◌ h (starts a f) (suc i) ts) refl);
  clocked = q.clocked ∙ sym (added_nil false ◌||◌ or_left or_none (reaches h i) (clocked a f done) (reached_sum false ◌||◌ h (clocked a f) (suc i) ts) refl);
  soon = q.soon;
}

-- nor does one that is not active
pub says_unreached : (a : Context) (c f : ℕ) (h : Head) (i : ℕ) (t : Term) (k : Kept) → reaches h i ≡ false → k ≡ kept_none → Says a c f h i (and t no_terms) k
says_unreached a c f h i t k e n = subst (Says a c f h i (and t no_terms)) (sym n) (record {
  summary = sym (ap (λ b. added join b (summary_of a c f t) nothing) e);
  starts = sym (ap (λ b. added ◌||◌ b (starts a f t) false) e);
  clocked = sym (ap (λ b. added ◌||◌ b (clocked a f t) false) e);
  soon = tt;
})

-- an active one that keeps what is right
pub says_reached : (a : Context) (c f : ℕ) (h : Head) (i inner by : ℕ) (t : Term) (k kept : Kept) → reaches h i ≡ true → inner + by ≡ c
    → kept.summary ≡ summary_of a inner f t → HasFlags a f t kept → IsSoon inner kept.summary.due → k ≡ kept_later by kept → Says a c f h i (and t no_terms) k
says_reached a c f h i inner by t k kept e back right flags soon is = subst (Says a c f h i (and t no_terms)) (sym is) (record {
  summary = ap (shifted by) right ∙ here_later a c inner by f t back ∙ sym (join_right (summary_of a c f t)) ∙ sym (ap (λ b. added join b (summary_of a c f t) nothing) e);
  starts = flags.starts ∙ sym (or_none (starts a f t)) ∙ sym (ap (λ b. added ◌||◌ b (starts a f t) false) e);
  clocked = flags.clocked ∙ sym (or_none (clocked a f t)) ∙ sym (ap (λ b. added ◌||◌ b (clocked a f t) false) e);
  soon = soon_here c inner by kept back soon;
})

-- ---------------------------------------------------------- the first child

record FirstDone (a : Context) (m n : Map What) (f : ℕ) (h : Head) (c i : ℕ) (p : Plant) (k : Kept) (old new : ℕ) : Type 0 where
  plant : Plant
  under : root plant ≡ root p
  keys : (j : ℕ) → has plant j ≡ has p j
  stands : Stands n plant
  only : (j : ℕ) → has p j ≡ false → n j ≡ m j
  means : term_in (inner_clock h i c) plant ≡ term_in (inner_clock h i c) p
  tended : Tended f (inner_clock h i c) plant
  right : reaches h i ≡ true → Right a f (inner_clock h i c) (shape_of plant)
  flagged : reaches h i ≡ true → Flagged a f (inner_clock h i c) plant
  timely : reaches h i ≡ true → Timely (inner_clock h i c) plant
  bare : IsBare p → IsBare plant
  says : Says a c f h i (and (term_in (inner_clock h i c) plant) no_terms) k
  ticks : new ≤ old + 3 * (1 + (if reaches h i then live_below plant else 0))

first_left : (a : Context) (m n : Map What) (f : ℕ) (h : Head) (c i : ℕ) (p : Plant) (k : Kept) (old new : ℕ) → reaches h i ≡ false → Stands m p → Tended f (inner_clock h i c) p → IsLeft m n k old new → FirstDone a m n f h c i p k old new
first_left a m n f h c i p k old new e st t x = record {
  plant = p;
  under = refl;
  keys = λ j. refl;
  stands = subst (λ (z : Map What). Stands z p) (sym x.same) st;
  only = λ j q. ap (λ (z : Map What). z j) x.same;
  means = refl;
  tended = t;
  right = λ r. not_both (reaches h i) r e;
  flagged = λ r. not_both (reaches h i) r e;
  timely = λ r. not_both (reaches h i) r e;
  bare = λ q. q;
  says = says_unreached a c f h i (term_in (inner_clock h i c) p) k e x.nothing;
  ticks = omega (arith, x.ticks);
}

right_top : (a : Context) (f c : ℕ) (p : Plant) → Right a f c (shape_of p) → (payload p).kept.summary ≡ summary_of a c f (term_in c p)
right_top a f c (node k x ps) r = r.0

flags_top : (a : Context) (f c : ℕ) (p : Plant) → Flagged a f c p → HasFlags a f (term_in c p) (payload p).kept
flags_top a f c (node k x ps) r = r.0

first_brought : (a : Context) (m n : Map What) (f : ℕ) (h : Head) (c i fuel : ℕ) (p : Plant) (k : Kept) (old new : ℕ) → reaches h i ≡ true → HeadFits h c → HasRoom c
    → Stands m p → depth p ≤ fuel → Tended f (inner_clock h i c) p → IsShort (term_in (inner_clock h i c) p) → IsBrought a m n f h c i fuel (root p) k old new → FirstDone a m n f h c i p k old new
first_brought a m n f h c i fuel p k old new e fits room st deep t short x =
    let inner = inner_clock h i c in
    let by = behind_inside h i in
    let back = clock_back h c i fits e in
    let r : NodeRefreshed a m n f inner p x.kept (old + 1) new = x.rule p st refl deep t short (room_inside h c i fits e room) in
    record {
      plant = r.plant;
      under = r.under;
      keys = r.keys;
      stands = r.stands;
      only = r.only;
      means = r.means;
      tended = r.tended;
      right = λ g. r.fresh.right;
      flagged = λ g. r.fresh.flagged;
      timely = λ g. r.timely;
      bare = r.bare;
      says = says_reached a c f h i inner by (term_in inner r.plant) k x.kept e back
          (ap (λ (z : Kept). z.summary) r.kept ∙ right_top a f inner r.plant r.fresh.right)
          (subst (HasFlags a f (term_in inner r.plant)) (sym r.kept) (flags_top a f inner r.plant r.fresh.flagged))
          r.soon (x.brought (may_shift c inner by x.kept back room r.soon));
      ticks =
          let live : (if reaches h i then live_below r.plant else 0) ≡ live_below r.plant = ap (λ b. if b then live_below r.plant else 0) e in
          omega (arith, r.ticks, live);
    }

first_done : (a : Context) (m n : Map What) (f : ℕ) (h : Head) (c i fuel : ℕ) (p : Plant) (k : Kept) (old new : ℕ) → HeadFits h c → HasRoom c
    → Stands m p → depth p ≤ fuel → Tended f (inner_clock h i c) p → (reaches h i ≡ true → IsShort (term_in (inner_clock h i c) p)) → KidRule a m n f h c i fuel (Some (root p)) k old new → FirstDone a m n f h c i p k old new
first_done a m n f h c i fuel p k old new fits room st deep t short x = elim (decided (reaches h i)) [
  | inl e ↦ first_brought a m n f h c i fuel p k old new e fits room st deep t (short e) (x.1 e)
  | inr e ↦ first_left a m n f h c i p k old new e st t (x.0 e)
]

-- ---------------------------------------------------------- before others

pub no_kids : (a : Context) (m : Map What) (f : ℕ) (h : Head) (c i fuel old : ℕ) → KidsRule a m m f h c i fuel [] kept_none old old
no_kids a m f h c i fuel old none st r d t s fits room = record {
  plants = none;
  under = refl;
  keys = λ j. refl;
  stand = tt;
  only = λ j e. refl;
  means = refl;
  tended = tt;
  right = tt;
  flagged = tt;
  timely = tt;
  bare = λ q. q;
  says = record { summary = refl; starts = refl; clocked = refl; soon = tt };
  ticks = omega arith;
}
no_kids a m f h c i fuel old (gone ps) st r d t s fits room = absurd cc
no_kids a m f h c i fuel old (more p ps) st r d t s fits room = absurd cc

-- a child that is gone, before others
gone_beside : (a : Context) (m n : Map What) (f : ℕ) (h : Head) (c i : ℕ) (ps : Plants) (l : Kept) (old new : ℕ) → KidsRefreshed a m n f h c (suc i) ps l old new → KidsRefreshed a m n f h c i (gone ps) l old new
gone_beside a m n f h c i ps l old new x = record {
  plants = gone x.plants;
  under = ap (λ z. None ∷ z) x.under;
  keys = x.keys;
  stand = x.stand;
  only = x.only;
  means = ap (and done) x.means;
  tended = x.tended;
  right = x.right;
  flagged = x.flagged;
  timely = x.timely;
  bare = x.bare;
  says = says_gone a c f h i (terms_of h c (suc i) (shapes_of x.plants)) l x.says;
  ticks = x.ticks;
}

module _ (a : Context) (m m1 n : Map What) (f : ℕ) (h : Head) (c i : ℕ) (p : Plant) (ps : Plants) (k l : Kept) (old mid new : ℕ)
    (first : FirstDone a m m1 f h c i p k old mid) (others : KidsRefreshed a m1 n f h c (suc i) ps l mid new) (st : StandAll m (more p ps)) where
  -- no key is both below the first and below another
  outside : (j : ℕ) → has p j ≡ true → has_any ps j ≡ false
  outside j e = unless (has_any ps j) (λ g. st.0 j e g)

  more_beside : KidsRefreshed a m n f h c i (more p ps) (joined k l) old new
  more_beside = record {
    plants = more first.plant others.plants;
    under = λ j. Some (first.under j) ∷ others.under j;
    keys = λ j n. first.keys j n || others.keys j n;
    stand = (
      (λ j e g. st.0 j (sym (first.keys j) ∙ e) (sym (others.keys j) ∙ g)),
      stands_kept m1 n first.plant (λ j e. others.only j (outside j (sym (first.keys j) ∙ e))) first.stands,
      others.stand,
    );
    only = λ j e. let q = or_neither (has p j) (has_any ps j) e in others.only j q.1 ∙ first.only j q.0;
    means = λ j. and (first.means j) (others.means j);
    tended = (first.tended, others.tended);
    right = (first.right, others.right);
    flagged = (first.flagged, others.flagged);
    timely = (first.timely, others.timely);
    bare = λ q. (first.bare q.0, others.bare q.1);
    says = says_more a c f h i (term_in (inner_clock h i c) first.plant) (terms_of h c (suc i) (shapes_of others.plants)) k l first.says others.says;
    ticks = omega (arith, first.ticks, others.ticks);
  }

-- what stands stays, where only what is apart from it has changed
pub still_stand : (m n : Map What) (p : Plant) (ps : Plants) → StandAll m (more p ps) → ((j : ℕ) → has p j ≡ false → n j ≡ m j) → StandAll n ps
still_stand m n p ps st only = all_kept m n ps (λ j e. only j (unless (has p j) (λ g. st.0 j g e))) st.2

pub kid_is : (x y : Option ℕ) (xs ys : List (Option ℕ)) → ◌≡◌ {A = List (Option ℕ)} (x ∷ xs) (y ∷ ys) → x ≡ y
kid_is x y xs ys e = cc

pub rest_is : (x y : Option ℕ) (xs ys : List (Option ℕ)) → ◌≡◌ {A = List (Option ℕ)} (x ∷ xs) (y ∷ ys) → xs ≡ ys
rest_is x y xs ys e = cc

pub kids_beside : (a : Context) (m m1 n : Map What) (f : ℕ) (h : Head) (c i fuel : ℕ) (kid : Option ℕ) (rest : List (Option ℕ)) (k l : Kept) (old mid new : ℕ)
    → KidRule a m m1 f h c i fuel kid k old mid → KidsRule a m1 n f h c (suc i) fuel rest l mid new → KidsRule a m n f h c i fuel (kid ∷ rest) (joined k l) old new
kids_beside a m m1 n f h c i fuel kid rest k l old mid new x rule none st r d t s fits room = absurd cc
kids_beside a m m1 n f h c i fuel kid rest k l old mid new x rule (gone ps) st r d t s fits room =
    let left : IsLeft m m1 k old mid = subst (λ z. KidRule a m m1 f h c i fuel z k old mid) (sym (kid_is None kid (roots ps) rest r)) x in
    let y : KidsRefreshed a m1 n f h c (suc i) ps l mid new = rule ps (subst (λ (z : Map What). StandAll z ps) (sym left.same) st) (rest_is None kid (roots ps) rest r) d t s fits room in
    let z : KidsRefreshed a m n f h c (suc i) ps l mid new = subst (λ (w : Map What). KidsRefreshed a w n f h c (suc i) ps l mid new) left.same y in
    subst (λ w. KidsRefreshed a m n f h c i (gone ps) w old new) (sym (none_joined l) ∙ ap (λ w. joined w l) (sym left.nothing))
    (subst (λ w. KidsRefreshed a m n f h c i (gone ps) l w new) left.ticks (gone_beside a m n f h c i ps l mid new z))
kids_beside a m m1 n f h c i fuel kid rest k l old mid new x rule (more p ps) st r d t s fits room =
    let first : FirstDone a m m1 f h c i p k old mid = first_done a m m1 f h c i fuel p k old mid fits room st.1 (omega (arith, d)) t.0 s.0
    (subst (λ z. KidRule a m m1 f h c i fuel z k old mid) (sym (kid_is (Some (root p)) kid (roots ps) rest r)) x) in
    let others = rule ps (still_stand m m1 p ps st first.only) (rest_is (Some (root p)) kid (roots ps) rest r) (omega (arith, d)) t.1 s.1 fits room in
    more_beside a m m1 n f h c i p ps k l old mid new first others st

-- ---------------------------------------------------------- the loop

pub on_at_first : (a : Context) (m : Map What) (f : ℕ) (h : Head) (c fuel : ℕ) (kids : List (Option ℕ)) (kept : Kept) (old : ℕ) → kept ≡ kept_none → RefreshesOn a m m f h c fuel kids 0 kept old old
on_at_first a m f h c fuel kids kept old e n k new rest = subst (λ z. KidsRule a m n f h c 0 fuel kids z old new) (sym (none_joined k) ∙ ap (λ z. joined z k) (sym e)) rest

pub on_next : (a : Context) (m0 m m1 : Map What) (f : ℕ) (h : Head) (c fuel : ℕ) (kids : List (Option ℕ)) (i : ℕ) (kid : Option ℕ) (kept k after : Kept) (old now mid : ℕ)
    → drop i kids ≡ kid ∷ drop (i + 1) kids → after ≡ joined kept k
    → KidRule a m m1 f h c i fuel kid k now mid → RefreshesOn a m0 m f h c fuel kids i kept old now → RefreshesOn a m0 m1 f h c fuel kids (i + 1) after old mid
on_next a m0 m m1 f h c fuel kids i kid kept k after old now mid e g x on n l new rest =
    let up : i + 1 ≡ suc i = omega arith in
    let rule = kids_beside a m m1 n f h c i fuel kid (drop (i + 1) kids) k l now mid new x (subst (λ z. KidsRule a m1 n f h c z fuel (drop (i + 1) kids) l mid new) up rest) in
    let whole = on n (joined k l) new (subst (λ z. KidsRule a m n f h c i fuel z (joined k l) now new) (sym e) rule) in
    subst (λ z. KidsRule a m0 n f h c 0 fuel kids z old new) (sym (joined_associative kept k l) ∙ ap (λ z. joined z l) (sym g)) whole

pub nothing_left : {A : Type 0} (xs : List A) (i : ℕ) → length xs ≤ i → drop i xs ≡ []
nothing_left [] i h = grind (arith, common_steps)
nothing_left (x ∷ xs) zero h = absurd (omega arith)
nothing_left (x ∷ xs) (suc i) h = nothing_left xs i (omega arith)

pub on_last : (a : Context) (m0 m : Map What) (f : ℕ) (h : Head) (c fuel : ℕ) (kids : List (Option ℕ)) (i : ℕ) (kept : Kept) (old now : ℕ) → length kids ≤ i → RefreshesOn a m0 m f h c fuel kids i kept old now → KidsRule a m0 m f h c 0 fuel kids kept old now
on_last a m0 m f h c fuel kids i kept old now ended on =
    let whole = on m kept_none now (subst (λ z. KidsRule a m m f h c i fuel z kept_none now now) (sym (nothing_left kids i ended)) (no_kids a m f h c i fuel now)) in
    subst (λ z. KidsRule a m0 m f h c 0 fuel kids z old now) (joined_none kept) whole

-- ---------------------------------------------------------- what is done with a child

module _ (a : Context) (m : Map What) (f : ℕ) (h : Head) (c i fuel : ℕ) (kid : Option ℕ) (k : Kept) (old : ℕ) where
  left_so : k ≡ kept_none → IsLeft m m k old old
  left_so e = record { same = refl; nothing = e; ticks = refl }

  pub kid_gone : kid ≡ None → k ≡ kept_none → KidRule a m m f h c i fuel kid k old old
  kid_gone is e = subst (λ z. KidRule a m m f h c i fuel z k old old) (sym is) (left_so e)

  pub kid_left : (key : ℕ) → kid ≡ Some key → reaches h i ≡ false → k ≡ kept_none → KidRule a m m f h c i fuel kid k old old
  kid_left key is r e = subst (λ z. KidRule a m m f h c i fuel z k old old) (sym is) ((λ q. left_so e), (λ q. not_both (reaches h i) q r))

  pub kid_brought : (n : Map What) (key frame clock by : ℕ) (kept : Kept) (new : ℕ) → kid ≡ Some key → reaches h i ≡ true → frame ≡ f → clock ≡ inner_clock h i c → by ≡ behind_inside h i
      → AtRule a m n frame clock fuel key kept old new → (MayShift by kept.summary → k ≡ kept_later by kept) → KidRule a m n f h c i fuel kid k old new
  kid_brought n key frame clock by kept new is r frames clocks bys rule brought = subst (λ z. KidRule a m n f h c i fuel z k old new) (sym is) (
    (λ q. not_both (reaches h i) r q),
    (λ q. record {
      kept = kept;
      rule = subst (λ z. AtRule a m n z (inner_clock h i c) fuel key kept old new) frames (subst (λ z. AtRule a m n frame z fuel key kept old new) clocks rule);
      brought = subst (λ z. MayShift z kept.summary → k ≡ kept_later z kept) bys brought;
    }),
  )
