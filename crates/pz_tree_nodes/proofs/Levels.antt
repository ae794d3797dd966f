-- One level down in the nodes.
use Rattle.std.proofs.Common.{◌≡◌, ◌+◌, ◌<◌, ℕ, zero, suc, Option, Some, None, refl, ap, sym, ◌∙◌, subst, arith}
use Rattle.std.specs.Prelude.{slice_index_or}
use Rattle.pz_nodes_shapes.specs.declared.node.Node.{Node}
use Rattle.pz_nodes_shapes.specs.Rose.{node, none, gone, more, Map, root, roots, width, Stands, StandAll}
use Rattle.pz_rules.specs.Terms.{Term, Terms, child, first_or, term_at, frame_in}
use Rattle.pz_rules.specs.Terms as term
use Rattle.pz_tree_standing.specs.Heads.{Head, What, leaf, wait, sequence, parallel, select, guarded, frame, abort, idle, handling, shifted, Shape, Shapes, inner_clock, inner_frame, formed}
use Rattle.pz_tree_standing.specs.Standing.{term_of, terms_of, Fits, FitAll}
use Rattle.pz_tree_standing.specs.Whole.{IsNoShift, HasParts, Whole, AreWhole}
use Rattle.pz_tree_standing.specs.Meaning.{StandsFor}
use Rattle.pz_tree_nodes.specs.Seeking.{StandsUnder, IsBare}
use Rattle.pz_tree_nodes.specs.devices.Levels.{ChildRule}

-- ---------------------------------------------------------- children

past_the_last : (h : Head) (c i : ℕ) (ss : Shapes) (j : ℕ) → width ss < j + 1 → term_at (terms_of h c i ss) j ≡ term.done
past_the_last h c i none j p = refl
past_the_last h c i (gone ss) zero p = absurd (omega (arith, p))
past_the_last h c i (more s ss) zero p = absurd (omega (arith, p))
past_the_last h c i (gone ss) (suc j) p = past_the_last h c (suc i) ss j (omega (arith, p))
past_the_last h c i (more s ss) (suc j) p = past_the_last h c (suc i) ss j (omega (arith, p))

-- the child of a term is that of its node
pub form_child : (h : Head) (c : ℕ) (ss : Shapes) (j : ℕ) → HasParts h ss → IsNoShift h → child (formed h c (terms_of h c 0 ss)) j ≡ term_at (terms_of h c 0 ss) j
form_child (leaf s) c ss j p n = sym (past_the_last (leaf s) c 0 ss j (omega (arith, p)))
form_child (wait due at) c ss j p n = sym (past_the_last (wait due at) c 0 ss j (omega (arith, p)))
form_child (sequence rest) c ss zero p n = refl
form_child (sequence rest) c ss (suc zero) p n = sym (past_the_last (sequence rest) c 0 ss 1 (omega (arith, p)))
form_child (sequence rest) c ss (suc (suc j)) p n = sym (past_the_last (sequence rest) c 0 ss (suc (suc j)) (omega (arith, p)))
form_child parallel c ss j p n = refl
form_child select c ss j p n = refl
form_child (guarded e at s) c ss zero p n = refl
form_child (guarded e at s) c ss (suc zero) p n = sym (past_the_last (guarded e at s) c 0 ss 1 (omega (arith, p)))
form_child (guarded e at s) c ss (suc (suc j)) p n = sym (past_the_last (guarded e at s) c 0 ss (suc (suc j)) (omega (arith, p)))
form_child (frame number inputs results) c ss zero p n = refl
form_child (frame number inputs results) c ss (suc zero) p n = sym (past_the_last (frame number inputs results) c 0 ss 1 (omega (arith, p)))
form_child (frame number inputs results) c ss (suc (suc j)) p n = sym (past_the_last (frame number inputs results) c 0 ss (suc (suc j)) (omega (arith, p)))
form_child abort c ss zero p n = refl
form_child abort c ss (suc zero) p n = refl
form_child abort c ss (suc (suc j)) p n = sym (past_the_last abort c 0 ss (suc (suc j)) (omega (arith, p)))
form_child (idle again s) c ss zero p n = refl
form_child (idle again s) c ss (suc zero) p n = refl
form_child (idle again s) c ss (suc (suc j)) p n = sym (past_the_last (idle again s) c 0 ss (suc (suc j)) (omega (arith, p)))
form_child (handling again s) c ss zero p n = refl
form_child (handling again s) c ss (suc zero) p n = refl
form_child (handling again s) c ss (suc (suc j)) p n = sym (past_the_last (handling again s) c 0 ss (suc (suc j)) (omega (arith, p)))
form_child (shifted s) c ss j p n = absurd n

pub form_frame : (h : Head) (c : ℕ) (ts : Terms) (f : ℕ) → IsNoShift h → inner_frame h f ≡ frame_in (formed h c ts) f
form_frame (leaf s) c ts f n = refl
form_frame (wait due at) c ts f n = refl
form_frame (sequence rest) c ts f n = refl
form_frame parallel c ts f n = refl
form_frame select c ts f n = refl
form_frame (guarded e at s) c ts f n = refl
form_frame (frame number inputs results) c ts f n = refl
form_frame abort c ts f n = refl
form_frame (idle again s) c ts f n = refl
form_frame (handling again s) c ts f n = refl
form_frame (shifted s) c ts f n = absurd n

-- what stands under the key of a child stands for it
kid_stands : (m : Map What) (h : Head) (c i : ℕ) (ss : Shapes) (j : ℕ) → StandAll m ss → AreWhole ss → FitAll h c i ss
    → StandsUnder m (slice_index_or (roots ss) j None) (inner_clock h (i + j) c) (term_at (terms_of h c i ss) j)
kid_stands m h c i none j st wh fi = refl
kid_stands m h c i (gone ss) zero st wh fi = refl
kid_stands m h c i (more s ss) zero st wh fi = let e : i ≡ i + 0 = omega arith in
    subst (λ z. StandsFor m (root s) (inner_clock h z c) (term_of (inner_clock h i c) s)) e
    (record { shape = s; stands = st.1; under = refl; whole = wh.0; fits = fi.0; means = refl })
kid_stands m h c i (gone ss) (suc j) st wh fi = let e : suc i + j ≡ i + suc j = omega arith in
    subst (λ z. StandsUnder m (slice_index_or (roots ss) j None) (inner_clock h z c) (term_at (terms_of h c (suc i) ss) j)) e (kid_stands m h c (suc i) ss j st wh fi)
kid_stands m h c i (more s ss) (suc j) st wh fi = let e : suc i + j ≡ i + suc j = omega arith in
    subst (λ z. StandsUnder m (slice_index_or (roots ss) j None) (inner_clock h z c) (term_at (terms_of h c (suc i) ss) j)) e (kid_stands m h c (suc i) ss j st.2 wh.1 fi.1)

-- ---------------------------------------------------------- a node

-- what stands for a term has this node on top
record Level (m : Map What) (c : ℕ) (n : Node What) (t : Term) : Type 0 where
  below : Shapes
  keys : n.kids ≡ roots below
  stand : StandAll m below
  parts : HasParts n.what.head below
  whole : AreWhole below
  fit : FitAll n.what.head c 0 below
  means : t ≡ formed n.what.head c (terms_of n.what.head c 0 below)

some_same : (n o : Node What) → ◌≡◌ {A = Option (Node What)} (Some n) (Some o) → n ≡ o
some_same n o e = cc

level_of : (m : Map What) (k c : ℕ) (t : Term) (n : Node What) → m k ≡ Some n → (s : Shape) → Stands m s → root s ≡ k → Whole s → Fits c s → t ≡ term_of c s → Level m c n t
level_of m k c t n e (node j x ss) st un wh fi me =
    let same : n ≡ record { what = x; kids = roots ss } = some_same n (record { what = x; kids = roots ss }) (sym e ∙ ap m (sym un) ∙ st.0) in
    subst (λ z. Level m c z t) (sym same) (record { below = ss; keys = refl; stand = st.2; parts = wh.0; whole = wh.1; fit = fi.1; means = me })

level : (m : Map What) (k c : ℕ) (t : Term) (n : Node What) → m k ≡ Some n → StandsFor m k c t → Level m c n t
level m k c t n e u = level_of m k c t n e u.shape u.stands u.under u.whole u.fits u.means

-- no shift node on top: its children are those of the term
down_one : (m : Map What) (k f c j : ℕ) (n : Node What) → m k ≡ Some n → ChildRule m (Some k) f c j (slice_index_or n.kids j None) (inner_frame n.what.head f) (inner_clock n.what.head j c)
down_one m k f c j n e t u bare =
    let l = level m k c t n e u in
    let h = n.what.head in
    let no : IsNoShift h = subst IsBare e bare in
    let a : term_at (terms_of h c 0 l.below) j ≡ child t j = sym (ap (λ z. child z j) l.means ∙ form_child h c l.below j l.parts no) in
    let b : StandsUnder m (slice_index_or (roots l.below) j None) (inner_clock h j c) (term_at (terms_of h c 0 l.below) j) =
    subst (λ z. StandsUnder m (slice_index_or (roots l.below) j None) (inner_clock h z c) (term_at (terms_of h c 0 l.below) j)) (let q : 0 + j ≡ j = omega arith in q) (kid_stands m h c 0 l.below j l.stand l.whole l.fit) in (
      subst (λ z. StandsUnder m (slice_index_or z j None) (inner_clock h j c) (child t j)) (sym l.keys) (subst (StandsUnder m (slice_index_or (roots l.below) j None) (inner_clock h j c)) a b),
      form_frame h c (terms_of h c 0 l.below) f no ∙ ap (λ z. frame_in z f) (sym l.means),
    )

-- and so is what the code finds below it
pub kid_found : (m : Map What) (o : Option ℕ) (k f c j : ℕ) (n : Node What) (below : Option ℕ) (inner clock : ℕ) → o ≡ Some k → m k ≡ Some n → below ≡ slice_index_or n.kids j None
    → inner ≡ inner_frame n.what.head f → clock ≡ inner_clock n.what.head j c → ChildRule m o f c j below inner clock
kid_found m o k f c j n below inner clock is e b i l =
    subst (λ z. ChildRule m z f c j below inner clock) (sym is)
    (subst (λ z. ChildRule m (Some k) f c j z inner clock) (sym b)
    (subst (λ z. ChildRule m (Some k) f c j (slice_index_or n.kids j None) z clock) (sym i)
    (subst (λ z. ChildRule m (Some k) f c j (slice_index_or n.kids j None) (inner_frame n.what.head f) z) (sym l) (down_one m k f c j n e))))
