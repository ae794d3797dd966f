-- Right nodes, one level down.
use Rattle.std.proofs.Common.{◌≡◌, ◌+◌, ℕ, zero, suc, true, Option, Some, None, refl, ap, sym, ◌∙◌, subst, arith}
use Rattle.std.specs.Prelude.{option_map, slice_index_or}
use Rattle.pz_clock.specs.Shifts.{ShiftView, local}
use Rattle.pz_nodes_shapes.specs.declared.node.Node.{Node}
use Rattle.pz_nodes_shapes.specs.Rose.{node, none, gone, more, Map, root, roots, Stands, StandAll}
use Rattle.pz_nodes_shapes.specs.Seen.{seen, seen_node}
use Rattle.pz_rules.specs.Settings.{Context}
use Rattle.pz_rules.specs.Terms.{Term, Terms, child, term_at, frame_in}
use Rattle.pz_tree_standing.specs.Summaries.{summary_of}
use Rattle.pz_tree_standing.specs.Heads.{Head, shifted, inner_clock, inner_frame, formed}
use Rattle.pz_tree_standing.specs.Standing.{term_of, terms_of, FitAll}
use Rattle.pz_tree_standing.specs.Reached.{reaches}
use Rattle.pz_tree_standing.specs.Resting.{RestAll}
use Rattle.pz_tree_standing.specs.Right.{Right, RightAll}
use Rattle.pz_tree_standing.specs.Whole.{IsNoShift, HasParts, AreWhole, OneInside}
use Rattle.pz_tree_nodes.specs.declared.node.What.{What}
use Rattle.pz_tree_nodes.specs.View.{Plant, Plants, head_view, what_view, shape_of, shapes_of, term_in}
use Rattle.pz_tree_nodes.specs.Tended.{Tended, AreMarked}
use Rattle.pz_tree_nodes.specs.Seeking.{StandsUnder, IsBare, IsBareUnder}
use Rattle.pz_tree_nodes.specs.Standing.{StandsRight, RightUnder}
use Rattle.pz_tree_nodes.specs.devices.Levels.{PastRightRule, HasTop}
use Rattle.pz_tree_nodes.proofs.Levels.{form_child, form_frame}
use Rattle.pz_tree_nodes.proofs.Plants.{tended_stand}

some_same : (n o : Node What) → ◌≡◌ {A = Option (Node What)} (Some n) (Some o) → n ≡ o
some_same n o e = cc

module _ (a : Context) (m : Map What) where
  -- ---------------------------------------------------------- the node on top

  top_of : (f k c : ℕ) (t : Term) (n : Node What) → m k ≡ Some n → (p : Plant) → Stands m p → root p ≡ k → Tended f c p → Right a f c (shape_of p) → t ≡ term_in c p → HasTop a m f c n t
  top_of f k c t n e (node j x ps) st un te ri me =
      let same : n ≡ record { what = x; kids = roots ps } = some_same n (record { what = x; kids = roots ps }) (sym e ∙ ap m (sym un) ∙ st.0) in
      subst (λ z. HasTop a m f c z t) (sym same) (record {
        below = ps;
        keys = refl;
        stand = st.2;
        parts = te.sound.whole.0;
        whole = te.sound.whole.1;
        head_fits = te.sound.fits.0;
        fit = te.sound.fits.1;
        rest = te.sound.rests.1;
        marked = te.marked.1;
        kept = ri.0 ∙ ap (λ z. summary_of a c f z) (sym me);
        gate = ri.1;
        right = ri.2;
        means = me;
      })

  pub has_top : (f k c : ℕ) (t : Term) (n : Node What) → m k ≡ Some n → StandsRight a m f k c t → HasTop a m f c n t
  has_top f k c t n e u = top_of f k c t n e u.plant u.stands u.under u.tended u.right u.means

  -- ---------------------------------------------------------- its children

  kid_right : (f : ℕ) (h : Head) (c i : ℕ) (ps : Plants) (j : ℕ) → StandAll m ps → AreWhole (shapes_of ps) → FitAll h c i (shapes_of ps) → RestAll f h c i (shapes_of ps) → AreMarked ps
      → RightAll a f h c i (shapes_of ps) → reaches h (i + j) ≡ true
      → RightUnder a m f (slice_index_or (roots ps) j None) (inner_clock h (i + j) c) (term_at (terms_of h c i (shapes_of ps)) j)
  kid_right f h c i none j st wh fi re ma ri g = refl
  kid_right f h c i (gone ps) zero st wh fi re ma ri g = refl
  kid_right f h c i (more p ps) zero st wh fi re ma ri g =
      let e : i + 0 ≡ i = omega arith in
      subst (λ z. StandsRight a m f (root p) (inner_clock h z c) (term_of (inner_clock h i c) (shape_of p))) (sym e) (record {
        plant = p;
        stands = st.1;
        under = refl;
        tended = record { sound = record { whole = wh.0; fits = fi.0; rests = re.0 }; marked = ma.0 };
        right = ri.0 (subst (λ z. reaches h z ≡ true) e g);
        means = refl;
      })
  kid_right f h c i (gone ps) (suc j) st wh fi re ma ri g =
      let e : i + suc j ≡ suc i + j = omega arith in
      subst (λ z. RightUnder a m f (slice_index_or (roots ps) j None) (inner_clock h z c) (term_at (terms_of h c (suc i) (shapes_of ps)) j)) (sym e)
      (kid_right f h c (suc i) ps j st wh fi re ma ri (subst (λ z. reaches h z ≡ true) e g))
  kid_right f h c i (more p ps) (suc j) st wh fi re ma ri g =
      let e : i + suc j ≡ suc i + j = omega arith in
      subst (λ z. RightUnder a m f (slice_index_or (roots ps) j None) (inner_clock h z c) (term_at (terms_of h c (suc i) (shapes_of ps)) j)) (sym e)
      (kid_right f h c (suc i) ps j st.2 wh.1 fi.1 re.1 ma.1 ri.1 (subst (λ z. reaches h z ≡ true) e g))

  module _ (f c : ℕ) (n : Node What) (t : Term) (top : HasTop a m f c n t) where
    abbrev pub head : Head
    head = head_view n.what.head

    abbrev pub ts : Terms
    ts = terms_of head c 0 (shapes_of top.below)

    pub child_is : (j : ℕ) → IsNoShift head → child t j ≡ term_at ts j
    child_is j plain = ap (λ z. child z j) top.means ∙ form_child head c (shapes_of top.below) j top.parts plain

    pub frame_is : IsNoShift head → inner_frame head f ≡ frame_in t f
    frame_is plain = form_frame head c ts f plain ∙ ap (λ z. frame_in z f) (sym top.means)

    pub child_right : (j : ℕ) → reaches head j ≡ true → RightUnder a m (inner_frame head f) (slice_index_or n.kids j None) (inner_clock head j c) (term_at ts j)
    child_right j g =
        let e : 0 + j ≡ j = omega arith in
        subst (λ z. RightUnder a m (inner_frame head f) (slice_index_or z j None) (inner_clock head j c) (term_at ts j)) (sym top.keys)
        (subst (λ z. RightUnder a m (inner_frame head f) (slice_index_or (roots top.below) j None) (inner_clock head z c) (term_at ts j)) e
        (kid_right (inner_frame head f) head c 0 top.below j top.stand top.whole top.fit top.rest top.marked top.right (subst (λ z. reaches head z ≡ true) (sym e) g)))

  -- ---------------------------------------------------------- past a shift node

  pub stands_too : (f k c : ℕ) (t : Term) → StandsRight a m f k c t → StandsUnder (seen what_view m) (Some k) c t
  stands_too f k c t u =
      subst (StandsUnder (seen what_view m) (Some k) c) (sym u.means)
      (subst (λ z. StandsUnder (seen what_view m) (Some z) c (term_in c u.plant)) u.under (tended_stand m f c u.plant u.stands u.tended))

  inside_bare : (ps : Plants) → OneInside (shapes_of ps) → StandAll m ps → IsBareUnder (seen what_view m) (slice_index_or (roots ps) 0 None)
  inside_bare none o st = absurd o
  inside_bare (gone ps) o st = absurd o
  inside_bare (more (node k x qs) none) o st = subst IsBare (sym (ap (option_map (seen_node what_view)) st.1.0)) o
  inside_bare (more (node k x qs) (gone ps)) o st = absurd o
  inside_bare (more (node k x qs) (more p ps)) o st = absurd o

-- the child of a shift node stands for the same
past_one : (m : Map What) (f k c : ℕ) (n : Node What) (s : ShiftView) → m k ≡ Some n → head_view n.what.head ≡ shifted s
    → PastRightRule m (Some k) f c (slice_index_or n.kids 0 None) (local s c)
past_one m f k c n s e is a t u =
    let top = has_top a m f k c t n e u in
    let ps = top.below in
    let h = head_view n.what.head in
    let g : reaches h 0 ≡ true = ap (λ z. reaches z 0) is in
    let right : RightUnder a m (inner_frame h f) (slice_index_or n.kids 0 None) (inner_clock h 0 c) (term_at (terms_of h c 0 (shapes_of ps)) 0) = child_right a m f c n t top 0 g in
    let means : t ≡ term_at (terms_of h c 0 (shapes_of ps)) 0 = top.means ∙ ap (λ z. formed z c (terms_of h c 0 (shapes_of ps))) is in
    let inside : OneInside (shapes_of ps) = subst (λ z. HasParts z (shapes_of ps)) is top.parts in (
      subst (RightUnder a m f (slice_index_or n.kids 0 None) (local s c)) (sym means)
          (subst (λ z. RightUnder a m (inner_frame z f) (slice_index_or n.kids 0 None) (inner_clock z 0 c) (term_at (terms_of h c 0 (shapes_of ps)) 0)) is right),
      subst (λ z. IsBareUnder (seen what_view m) (slice_index_or z 0 None)) (sym top.keys) (inside_bare a m ps inside top.stand),
    )

pub past_shifted : (m : Map What) (o : Option ℕ) (f k c : ℕ) (n : Node What) (s : ShiftView) (below : Option ℕ) (clock : ℕ) → o ≡ Some k → m k ≡ Some n → head_view n.what.head ≡ shifted s
    → below ≡ slice_index_or n.kids 0 None → clock ≡ local s c → PastRightRule m o f c below clock
past_shifted m o f k c n s below clock at e is b l =
    subst (λ z. PastRightRule m z f c below clock) (sym at)
    (subst (λ z. PastRightRule m (Some k) f c z clock) (sym b)
    (subst (λ z. PastRightRule m (Some k) f c (slice_index_or n.kids 0 None) z) (sym l) (past_one m f k c n s e is)))
