-- From a term to its part at a place, and back.
use Rattle.std.proofs.Common.{◌≡◌, ◌≤◌, ◌<◌, ℕ, ◌+◌, ◌^◌, leb, [], ◌∷◌, length, Option, Some, None, refl, sym, ap, ◌∙◌, subst, arith}
use Rattle.std.specs.Prelude.{slice_index_or}
use Rattle.std.proofs.lemmas.Bool.Decides.{nat_tests}
use Rattle.pz_clock.specs.Shifts.{local}
use Rattle.pz_nodes_shapes.specs.declared.node.Node.{Node}
use Rattle.pz_nodes_shapes.specs.Rose.{node, none, gone, more, Map, root, roots, pick, Stands, StandAll}
use Rattle.pz_rules.specs.pz_offer.PlaceOrder.{Place}
use Rattle.pz_rules.specs.Terms.{Term, done, child, frame_in, height}
use Rattle.pz_rules.specs.Settings.{Home, left_by}
use Rattle.pz_rules.specs.Places.{MayAct}
use Rattle.pz_rules.specs.Leaving.{residual}
use Rattle.pz_term_outlines.specs.declared.outline.Outline.{Outline}
use Rattle.pz_term_outlines.specs.Capped.{capped}
use Rattle.pz_term_outlines.specs.Outlines.{outline, IsRound, IsLeft}
use Rattle.pz_tree_regrowing.specs.Heights.{LowRule, FewSteps}
use Rattle.pz_tree_nodes.specs.pz_tree_standing.Heads as heads
use Rattle.pz_tree_nodes.specs.pz_tree_standing.Heads.{inner_clock, formed}
use Rattle.pz_tree_nodes.specs.pz_tree_standing.Standing.{terms_of}
use Rattle.pz_tree_nodes.specs.pz_tree_standing.Whole.{IsNoShift, HasParts, OneInside, AreWhole}
use Rattle.pz_tree_nodes.specs.declared.node.Head.{Head}
use Rattle.pz_tree_nodes.specs.declared.node.Head.TheVariants as kind
use Rattle.pz_tree_nodes.specs.declared.node.What.{What}
use Rattle.pz_tree_nodes.specs.View.{Plant, Plants, head_view, shapes_of, term_in_option}
use Rattle.pz_tree_nodes.specs.Tended.{Tended, TendedOption}
use Rattle.pz_tree_nodes.specs.Planting.{root_of}
use Rattle.pz_tree_regrowing.specs.Costs.{on_way}
use Rattle.pz_tree_regrowing.specs.devices.Levels.{kid_terms}
use Rattle.pz_tree_regrowing.specs.devices.Reading.{IsHigh, IsPast, PastRule, past_key}
use Rattle.pz_tree_regrowing.specs.devices.Outlining.{AreKids, Rounded, HomeRoundRule, OutlineRule, BareOutlineRule}
use Rattle.pz_tree_regrowing.proofs.Children.{form_child}
use Rattle.pz_tree_regrowing.proofs.Kids.{same_node, picked_root, picked_term}
use Rattle.pz_tree_regrowing.proofs.HighKids.{picked_stands, picked_high}

-- ------------------------------------------------------------ past a shift node

pub past_none : (m : Map What) (key : Option ℕ) → key ≡ None → PastRule m key None
past_none m key is c None r st high = record { clock = c; plant = None; under = refl; stands = tt; high = tt; bare = tt; means = refl }
past_none m key is c (Some p) r st high = absurd (let e : Some (root p) ≡ None = r ∙ is in cc)

pub past_vacant : (m : Map What) (key below : Option ℕ) (k : ℕ) → key ≡ Some k → None ≡ m k → PastRule m key below
past_vacant m key below k is v c None r st high = absurd (let e : None ≡ Some k = r ∙ is in cc)
past_vacant m key below k is v c (Some (node j x ps)) r st high = absurd (let e : j ≡ k = (let g : Some j ≡ Some k = r ∙ is in cc) in let w = st.0 in cc)

module _ (m : Map What) (key : Option ℕ) (k : ℕ) (n : Node What) (is : key ≡ Some k) (stood : Some n ≡ m k) where
  node_is : (j : ℕ) (x : What) (ps : Plants) → Some j ≡ key → Stands m (node j x ps) → n ≡ record { what = x; kids = roots ps }
  node_is j x ps r st =
      let e : j ≡ k = (let g : Some j ≡ Some k = r ∙ is in cc) in
      same_node n (record { what = x; kids = roots ps }) (stood ∙ ap m (sym e) ∙ st.0)

  past_bare : IsNoShift (head_view n.what.head) → PastRule m key key
  past_bare bare c None r st high = absurd (let e : None ≡ Some k = r ∙ is in cc)
  past_bare bare c (Some (node j x ps)) r st high = record {
    clock = c;
    plant = Some (node j x ps);
    under = r;
    stands = st;
    high = high;
    bare = subst (λ (o : Node What). IsNoShift (head_view o.what.head)) (node_is j x ps r st) bare;
    means = refl;
  }

  bare : (h : Head) → n.what.head ≡ h → {below : Option ℕ} → below ≡ past_key (head_view n.what.head) n.kids key → IsNoShift (head_view h) → past_key (head_view h) n.kids key ≡ key → PastRule m key below
  bare h same e free is_key =
      subst (PastRule m key) (sym (e ∙ ap (λ (h : Head). past_key (head_view h) n.kids key) same ∙ is_key))
      (past_bare (subst (λ (h : Head). IsNoShift (head_view h)) (sym same) free))

  past_shifted : (shift : Rattle.pz_clock.specs.Shifts.ShiftView) (below : Option ℕ) → n.what.head ≡ kind.Shifted shift → below ≡ slice_index_or n.kids 0 None → PastRule m key below
  past_shifted shift below head is_below c None r st high = absurd (let e : None ≡ Some k = r ∙ is in cc)
  past_shifted shift below head is_below c (Some (node j x ps)) r st high =
      let same = node_is j x ps r st in
      let shifts : head_view x.head ≡ heads.shifted shift = ap (λ (o : Node What). head_view o.what.head) (sym same) ∙ ap head_view head in
      let under : below ≡ slice_index_or (roots ps) 0 None = is_below ∙ ap (λ (o : Node What). slice_index_or o.kids 0 None) same in
      through ps shifts under st.2 (subst (λ h. HasParts h (shapes_of ps)) shifts high.0.0) high.0.1 high.1.1
    where
      through : (qs : Plants) → head_view x.head ≡ heads.shifted shift → below ≡ slice_index_or (roots qs) 0 None → StandAll m qs → OneInside (shapes_of qs) → AreWhole (shapes_of qs)
          → Rattle.pz_tree_nodes.specs.Tended.AreMarked qs → IsPast m c (Some (node j x qs)) below
      through none shifts under s one w k = absurd one
      through (gone qs) shifts under s one w k = absurd one
      through (more (node i y ts) none) shifts under s one w k = record {
        clock = local shift c;
        plant = Some (node i y ts);
        under = sym under;
        stands = s.1;
        high = (w.0, k.0);
        bare = one;
        means = sym (ap (λ h. formed h c (terms_of h c 0 (shapes_of (more (node i y ts) none)))) shifts);
      }
      through (more (node i y ts) (gone qs)) shifts under s one w k = absurd one
      through (more (node i y ts) (more q qs)) shifts under s one w k = absurd one

  pub past_node : (below : Option ℕ) → below ≡ past_key (head_view n.what.head) n.kids key → PastRule m key below
  past_node below e = by n.what.head refl e
    where
      by : (h : Head) → n.what.head ≡ h → below ≡ past_key (head_view n.what.head) n.kids key → PastRule m key below
      by (kind.Shifted s) same e = past_shifted s below same (e ∙ ap (λ (h : Head). past_key (head_view h) n.kids key) same)
      by (kind.Leaf s) same e = bare (kind.Leaf s) same e tt refl
      by (kind.Wait due pos) same e = bare (kind.Wait due pos) same e tt refl
      by (kind.Seq rest) same e = bare (kind.Seq rest) same e tt refl
      by kind.Par same e = bare kind.Par same e tt refl
      by kind.Sel same e = bare kind.Sel same e tt refl
      by (kind.Guard test pos shift) same e = bare (kind.Guard test pos shift) same e tt refl
      by (kind.Frame frame inputs results) same e = bare (kind.Frame frame inputs results) same e tt refl
      by kind.Abort same e = bare kind.Abort same e tt refl
      by (kind.Idle again shift) same e = bare (kind.Idle again shift) same e tt refl
      by (kind.Handling again shift) same e = bare (kind.Handling again shift) same e tt refl

-- ------------------------------------------------------------ level by level

module _ (h : Home) (part result : Outline) where
  seen_left : (t u : Term) (place : Place) → t ≡ u → IsLeft h part u place result → IsLeft h part t place result
  seen_left t u place same left = subst (λ (x : Term). IsLeft h part x place result) (sym same) left

  inside : (middle : Outline) (t : Term) (i : ℕ) (inner : Place) → IsLeft h part (child t i) inner middle → IsRound h middle t i result → IsLeft h part t (i ∷ inner) result
  inside middle t i inner deep round f s x same =
      let p = residual h (frame_in t f) (child t i) inner (left_by s x) in
      round f p.state p.term (deep (frame_in t f) s x same)

pub arrives : (home : Home) (m : Map What) (key : Option ℕ) (place : Place) (part result : Outline) (old new : ℕ) → length place ≡ 0 → result ≡ part → new ≡ old → BareOutlineRule home m key place part result old new
arrives home m key [] part result old new short is tick c p r st high bare may = record { left = λ f s x same. is ∙ same; ticks = omega (arith, tick) }
arrives home m key (i ∷ place) part result old new short is tick c p r st high bare may = absurd (omega (arith, short))

pub nothing_acts : (home : Home) (m : Map What) (key : Option ℕ) (place rest : Place) (i : ℕ) (part result : Outline) (old new : ℕ) → key ≡ None → place ≡ i ∷ rest → BareOutlineRule home m key place part result old new
nothing_acts home m key place rest i part result old new e is c None r st high bare may = absurd (subst (λ z. MayAct done z) is may).0
nothing_acts home m key place rest i part result old new e is c (Some p) r st high bare may = absurd (let q : Some (root p) ≡ None = r ∙ e in cc)

pub nothing_stands : (home : Home) (m : Map What) (key : Option ℕ) (k : ℕ) (place : Place) (part result : Outline) (old new : ℕ) → key ≡ Some k → None ≡ m k → BareOutlineRule home m key place part result old new
nothing_stands home m key k place part result old new is v c None r st high bare may = absurd (let e : None ≡ Some k = r ∙ is in cc)
nothing_stands home m key k place part result old new is v c (Some (node j x ps)) r st high bare may = absurd (let e : j ≡ k = (let g : Some j ≡ Some k = r ∙ is in cc) in let w = st.0 in cc)

module _ (home : Home) (m : Map What) (key : Option ℕ) (k : ℕ) (n : Node What) (is : key ≡ Some k) (stood : Some n ≡ m k) where
  level : (i : ℕ) (rest : Place) (part left result : Outline) (below : Option ℕ) (old begun mid new : ℕ)
      → below ≡ slice_index_or n.kids i None → begun ≡ old + 1
      → OutlineRule home m below rest part left begun mid
      → HomeRoundRule home m (head_view n.what.head) n.kids i left result mid new
      → BareOutlineRule home m key (i ∷ rest) part result old new
  level i rest part left result below old begun mid new is_below tick inner around c None r st high bare may = absurd (let e : None ≡ Some k = r ∙ is in cc)
  level i rest part left result below old begun mid new is_below tick inner around c (Some (node j x ps)) r st high bare may =
      let same = node_is m key k n is stood j x ps r st in
      let h = head_view x.head in
      let ts = kid_terms h c ps in
      let t = formed h c ts in
      let d = inner_clock h (0 + i) c in
      let kid : child t i ≡ term_in_option d (pick ps i) = form_child h c (shapes_of ps) i high.0.0 bare ∙ picked_term h c 0 ps i in
      let under : root_of (pick ps i) ≡ below = sym (is_below ∙ ap (λ (o : Node What). slice_index_or o.kids i None) same ∙ picked_root ps i) in
      let deep = inner d (pick ps i) under (picked_stands m ps i st.2) (picked_high ps i high.0.1 high.1.1) (subst (λ u. MayAct u rest) kid may.1) in
      let kids : AreKids m h (roots ps) ps = record { stand = st.2; under = refl; parts = high.0.0; whole = high.0.1; marked = high.1.1 } in
      let outer : Rounded home h c ps i left result mid new =
      subst (λ (o : Node What). HomeRoundRule home m (head_view o.what.head) o.kids i left result mid new) same around c ps kids bare may.0 in
      let way : on_way (child t i) rest ≡ on_way (term_in_option d (pick ps i)) rest = ap (λ u. on_way u rest) kid in
      record {
        left = inside home part result left t i rest (seen_left home part left (child t i) (term_in_option d (pick ps i)) rest kid deep.left) outer.round;
        ticks = omega (arith, tick, deep.ticks, outer.ticks, way);
      }

  pub level_outlined : (place rest : Place) (i : ℕ) (part left result : Outline) (below : Option ℕ) (old begun mid new : ℕ)
      → place ≡ i ∷ rest → below ≡ slice_index_or n.kids i None → begun ≡ old + 1
      → OutlineRule home m below rest part left begun mid
      → HomeRoundRule home m (head_view n.what.head) n.kids i left result mid new
      → BareOutlineRule home m key place part result old new
  level_outlined place rest i part left result below old begun mid new where_is is_below tick inner around =
      subst (λ z. BareOutlineRule home m key z part result old new) (sym where_is) (level i rest part left result below old begun mid new is_below tick inner around)

pub outlined : (home : Home) (m : Map What) (key below : Option ℕ) (place : Place) (part result : Outline) (old mid new : ℕ)
    → PastRule m key below → mid ≤ old + 1 → BareOutlineRule home m below place part result mid new → OutlineRule home m key place part result old new
outlined home m key below place part result old mid new past tick bare c p r st high may =
    let q = past c p r st high in
    let o = bare q.clock q.plant q.under q.stands q.high q.bare (subst (λ t. MayAct t place) (sym q.means) may) in
    let way : on_way (term_in_option q.clock q.plant) place ≡ on_way (term_in_option c p) place = ap (λ t. on_way t place) q.means in
    record { left = seen_left home part result (term_in_option c p) (term_in_option q.clock q.plant) place (sym q.means) o.left; ticks = omega (arith, tick, o.ticks, way) }

-- ------------------------------------------------------------ the whole

pub tended_high : (f c : ℕ) (p : Option Plant) → TendedOption f c p → IsHigh p
tended_high f c None t = tt
tended_high f c (Some p) t = (t.sound.whole, t.marked)

-- below 32 bits nothing is lost
pub low_as_ever : (n high wide limit : ℕ) → high ≡ capped n → wide ≡ limit → limit < 2 ^ 32 → leb high wide ≡ leb n limit
low_as_ever n high wide limit is same low = grind (arith, nat_tests)

pub low_after : (home : Home) (m : Map What) (root : Option ℕ) (place : Place) (x : Term) (part result : Outline) (old new wide limit : ℕ)
    → part ≡ outline x → OutlineRule home m root place part result old new → wide ≡ limit → limit < 2 ^ 32 → LowRule home m root place x limit (leb result.height wide)
low_after home m root place x part result old new wide limit is rule same low f c g p s r st t may =
    let o = rule c p r st (tended_high f c p t) may in
    low_as_ever (height (residual home g (term_in_option c p) place (left_by s x)).term) result.height wide limit
    (ap (λ (z : Outline). z.height) (o.left g s x is)) same low

pub few_after : (home : Home) (m : Map What) (root : Option ℕ) (place : Place) (part result : Outline) (old new : ℕ) → OutlineRule home m root place part result old new → FewSteps m root place old new
few_after home m root place part result old new rule f c p r st t may =
    let o = rule c p r st (tended_high f c p t) may in
    let ticks = o.ticks in
    omega (arith, ticks)
