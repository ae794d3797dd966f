-- Children of a node: which is where, and what becomes of all when one becomes another.
use Rattle.std.proofs.Common.{◌≡◌, ◌<◌, ℕ, zero, suc, ◌+◌, ◌∷◌, Option, Some, None, refl, ap, ◌∙◌, subst, arith}
use Rattle.std.specs.Prelude.{slice_index_or, slice_set, option_map}
use Rattle.pz_nodes_shapes.specs.declared.node.Node.{Node}
use Rattle.pz_nodes_shapes.specs.Rose.{node, none, gone, more, Map, roots, pick, joined, with_kid, width, StandAll}
use Rattle.pz_nodes_shapes.specs.Rose as rose
use Rattle.pz_rules.specs.Terms.{Term, done, Terms, no_terms, and, term_at, count}
use Rattle.pz_rules.specs.Leaving.{replaced}
use Rattle.pz_tree_nodes.specs.pz_tree_standing.Heads.{Head, leaf, wait, sequence, parallel, select, guarded, frame, abort, idle, handling, shifted, Shapes, inner_clock}
use Rattle.pz_tree_nodes.specs.pz_tree_standing.Standing.{terms_of, term_of_option, FitAll}
use Rattle.pz_tree_nodes.specs.pz_tree_standing.Resting.{RestAll}
use Rattle.pz_tree_nodes.specs.pz_tree_standing.Whole.{IsNoShift, HasParts, AreWhole}
use Rattle.pz_tree_nodes.proofs.pz_tree_standing_proofs.Kids.{with_kid_terms}
use Rattle.pz_tree_nodes.specs.declared.node.What.{What}
use Rattle.pz_tree_nodes.specs.View.{Plant, Plants, shape_of, shapes_of, term_in, term_in_option}
use Rattle.pz_tree_nodes.specs.Tended.{Tended, TendedOption, AreMarked}
use Rattle.pz_tree_nodes.specs.Planting.{root_of}
use Rattle.pz_tree_regrowing.specs.devices.Keeping.{kept_at, kept_all, kept_of_node, kept_in, kept_in_all}
use Rattle.pz_tree_regrowing.specs.devices.Levels.{KidsTended, kid_terms}

-- ------------------------------------------------------------ terms side by side

pub replaced_twice : (ts : Terms) (i : ℕ) (x y : Term) → replaced (replaced ts i x) i y ≡ replaced ts i y
replaced_twice no_terms i x y = refl
replaced_twice (and t ts) zero x y = refl
replaced_twice (and t ts) (suc i) x y = ap (and t) (replaced_twice ts i x y)

pub replaced_same : (ts : Terms) (i : ℕ) → replaced ts i (term_at ts i) ≡ ts
replaced_same no_terms i = refl
replaced_same (and t ts) zero = refl
replaced_same (and t ts) (suc i) = ap (and t) (replaced_same ts i)

pub replaced_there : (ts : Terms) (i : ℕ) (x : Term) → i < count ts → term_at (replaced ts i x) i ≡ x
replaced_there no_terms i x h = absurd (omega (arith, h))
replaced_there (and t ts) zero x h = refl
replaced_there (and t ts) (suc i) x h = replaced_there ts i x (omega (arith, h))

pub replaced_count : (ts : Terms) (i : ℕ) (x : Term) → count (replaced ts i x) ≡ count ts
replaced_count no_terms i x = refl
replaced_count (and t ts) zero x = refl
replaced_count (and t ts) (suc i) x = ap suc (replaced_count ts i x)

-- ------------------------------------------------------------ keys

pub same_node : (n o : Node What) → ◌≡◌ {A = Option (Node What)} (Some n) (Some o) → n ≡ o
same_node n o e = cc

pub picked_root : (ps : Plants) (j : ℕ) → slice_index_or (roots ps) j None ≡ root_of (pick ps j)
picked_root none j = refl
picked_root (gone ps) zero = refl
picked_root (more p ps) zero = refl
picked_root (gone ps) (suc j) = picked_root ps j
picked_root (more p ps) (suc j) = picked_root ps j

roots_joined : (x : Option Plant) (ps : Plants) → roots (joined x ps) ≡ root_of x ∷ roots ps
roots_joined None ps = refl
roots_joined (Some p) ps = refl

pub roots_with_kid : (ps : Plants) (j : ℕ) (x : Option Plant) → roots (with_kid ps j x) ≡ slice_set (roots ps) j (root_of x)
roots_with_kid none j x = refl
roots_with_kid (gone ps) zero x = roots_joined x ps
roots_with_kid (more p ps) zero x = roots_joined x ps
roots_with_kid (gone ps) (suc j) x = ap (λ z. None ∷ z) (roots_with_kid ps j x)
roots_with_kid (more p ps) (suc j) x = ap (λ z. Some (rose.root p) ∷ z) (roots_with_kid ps j x)

width_joined : (x : Option Plant) (ps : Plants) → width (joined x ps) ≡ suc (width ps)
width_joined None ps = refl
width_joined (Some p) ps = refl

pub width_with_kid : (ps : Plants) (j : ℕ) (x : Option Plant) → width (with_kid ps j x) ≡ width ps
width_with_kid none j x = refl
width_with_kid (gone ps) zero x = width_joined x ps
width_with_kid (more p ps) zero x = width_joined x ps
width_with_kid (gone ps) (suc j) x = ap suc (width_with_kid ps j x)
width_with_kid (more p ps) (suc j) x = ap suc (width_with_kid ps j x)

pub width_seen : (ps : Plants) → width (shapes_of ps) ≡ width ps
width_seen none = refl
width_seen (gone ps) = ap suc (width_seen ps)
width_seen (more p ps) = ap suc (width_seen ps)

pub width_terms : (h : Head) (c i : ℕ) (ps : Plants) → count (terms_of h c i (shapes_of ps)) ≡ width ps
width_terms h c i none = refl
width_terms h c i (gone ps) = ap suc (width_terms h c (suc i) ps)
width_terms h c i (more p ps) = ap suc (width_terms h c (suc i) ps)

pub same_parts : (h : Head) (ss us : Shapes) → IsNoShift h → width us ≡ width ss → HasParts h ss → HasParts h us
same_parts (leaf s) ss us n e p = e ∙ p
same_parts (wait due at) ss us n e p = e ∙ p
same_parts (sequence rest) ss us n e p = e ∙ p
same_parts parallel ss us n e p = tt
same_parts select ss us n e p = tt
same_parts (guarded test at s) ss us n e p = e ∙ p
same_parts (frame number inputs results) ss us n e p = e ∙ p
same_parts abort ss us n e p = e ∙ p
same_parts (idle again s) ss us n e p = e ∙ p
same_parts (handling again s) ss us n e p = e ∙ p
same_parts (shifted s) ss us n e p = absurd n

-- ------------------------------------------------------------ what they stand for

pub picked_term : (h : Head) (c i : ℕ) (ps : Plants) (j : ℕ) → term_at (terms_of h c i (shapes_of ps)) j ≡ term_in_option (inner_clock h (i + j) c) (pick ps j)
picked_term h c i none j = refl
picked_term h c i (gone ps) zero = refl
picked_term h c i (more p ps) zero = ap (λ z. term_in (inner_clock h z c) p) (let e : i ≡ i + 0 = omega arith in e)
picked_term h c i (gone ps) (suc j) = picked_term h c (suc i) ps j ∙ ap (λ z. term_in_option (inner_clock h z c) (pick ps j)) (let e : suc i + j ≡ i + suc j = omega arith in e)
picked_term h c i (more p ps) (suc j) = picked_term h c (suc i) ps j ∙ ap (λ z. term_in_option (inner_clock h z c) (pick ps j)) (let e : suc i + j ≡ i + suc j = omega arith in e)

shapes_joined : (x : Option Plant) (ps : Plants) → shapes_of (joined x ps) ≡ joined (option_map shape_of x) (shapes_of ps)
shapes_joined None ps = refl
shapes_joined (Some p) ps = refl

shapes_with_kid : (ps : Plants) (j : ℕ) (x : Option Plant) → shapes_of (with_kid ps j x) ≡ with_kid (shapes_of ps) j (option_map shape_of x)
shapes_with_kid none j x = refl
shapes_with_kid (gone ps) zero x = shapes_joined x ps
shapes_with_kid (more p ps) zero x = shapes_joined x ps
shapes_with_kid (gone ps) (suc j) x = ap gone (shapes_with_kid ps j x)
shapes_with_kid (more p ps) (suc j) x = ap (more (shape_of p)) (shapes_with_kid ps j x)

option_seen : (c : ℕ) (x : Option Plant) → term_of_option c (option_map shape_of x) ≡ term_in_option c x
option_seen c None = refl
option_seen c (Some p) = refl

pub kid_terms_with : (h : Head) (c : ℕ) (ps : Plants) (j : ℕ) (x : Option Plant) → kid_terms h c (with_kid ps j x) ≡ replaced (kid_terms h c ps) j (term_in_option (inner_clock h j c) x)
kid_terms_with h c ps j x =
    ap (terms_of h c 0) (shapes_with_kid ps j x) ∙ with_kid_terms h c 0 (shapes_of ps) j (option_map shape_of x)
    ∙ ap (replaced (kid_terms h c ps) j) (option_seen (inner_clock h (0 + j) c) x ∙ ap (λ z. term_in_option (inner_clock h z c) x) (let e : 0 + j ≡ j = omega arith in e))

-- ------------------------------------------------------------ tended

module _ (f : ℕ) (h : Head) (c : ℕ) where
  pub kids_whole : (i : ℕ) (ps : Plants) → KidsTended f h c i ps → AreWhole (shapes_of ps)
  kids_whole i none t = tt
  kids_whole i (gone ps) t = kids_whole (suc i) ps t
  kids_whole i (more p ps) t = (t.0.sound.whole, kids_whole (suc i) ps t.1)

  pub kids_marked : (i : ℕ) (ps : Plants) → KidsTended f h c i ps → AreMarked ps
  kids_marked i none t = tt
  kids_marked i (gone ps) t = kids_marked (suc i) ps t
  kids_marked i (more p ps) t = (t.0.marked, kids_marked (suc i) ps t.1)

  pub kids_fit : (i : ℕ) (ps : Plants) → KidsTended f h c i ps → FitAll h c i (shapes_of ps)
  kids_fit i none t = tt
  kids_fit i (gone ps) t = kids_fit (suc i) ps t
  kids_fit i (more p ps) t = (t.0.sound.fits, kids_fit (suc i) ps t.1)

  pub kids_rest : (i : ℕ) (ps : Plants) → KidsTended f h c i ps → RestAll f h c i (shapes_of ps)
  kids_rest i none t = tt
  kids_rest i (gone ps) t = kids_rest (suc i) ps t
  kids_rest i (more p ps) t = (t.0.sound.rests, kids_rest (suc i) ps t.1)

  pub kids_tended : (i : ℕ) (ps : Plants) → AreWhole (shapes_of ps) → AreMarked ps → FitAll h c i (shapes_of ps) → RestAll f h c i (shapes_of ps) → KidsTended f h c i ps
  kids_tended i none w m t r = tt
  kids_tended i (gone ps) w m t r = kids_tended (suc i) ps w m t r
  kids_tended i (more p ps) w m t r = (record { sound = record { whole = w.0; fits = t.0; rests = r.0 }; marked = m.0 }, kids_tended (suc i) ps w.1 m.1 t.1 r.1)

  pub picked_tended : (i : ℕ) (ps : Plants) (j : ℕ) → KidsTended f h c i ps → TendedOption f (inner_clock h (i + j) c) (pick ps j)
  picked_tended i none j t = tt
  picked_tended i (gone ps) zero t = tt
  picked_tended i (more p ps) zero t = subst (λ z. Tended f (inner_clock h z c) p) (let e : i ≡ i + 0 = omega arith in e) t.0
  picked_tended i (gone ps) (suc j) t = subst (λ z. TendedOption f (inner_clock h z c) (pick ps j)) (let e : suc i + j ≡ i + suc j = omega arith in e) (picked_tended (suc i) ps j t)
  picked_tended i (more p ps) (suc j) t = subst (λ z. TendedOption f (inner_clock h z c) (pick ps j)) (let e : suc i + j ≡ i + suc j = omega arith in e) (picked_tended (suc i) ps j t.1)

  joined_tended : (i : ℕ) (x : Option Plant) (ps : Plants) → TendedOption f (inner_clock h i c) x → KidsTended f h c (suc i) ps → KidsTended f h c i (joined x ps)
  joined_tended i None ps t r = r
  joined_tended i (Some p) ps t r = (t, r)

  pub with_kid_tended : (i : ℕ) (ps : Plants) (j : ℕ) (x : Option Plant) → KidsTended f h c i ps → TendedOption f (inner_clock h (i + j) c) x → KidsTended f h c i (with_kid ps j x)
  with_kid_tended i none j x t u = tt
  with_kid_tended i (gone ps) zero x t u = joined_tended i x ps (subst (λ z. TendedOption f (inner_clock h z c) x) (let e : i + 0 ≡ i = omega arith in e) u) t
  with_kid_tended i (more p ps) zero x t u = joined_tended i x ps (subst (λ z. TendedOption f (inner_clock h z c) x) (let e : i + 0 ≡ i = omega arith in e) u) t.1
  with_kid_tended i (gone ps) (suc j) x t u = with_kid_tended (suc i) ps j x t (subst (λ z. TendedOption f (inner_clock h z c) x) (let e : i + suc j ≡ suc i + j = omega arith in e) u)
  with_kid_tended i (more p ps) (suc j) x t u = (t.0, with_kid_tended (suc i) ps j x t.1 (subst (λ z. TendedOption f (inner_clock h z c) x) (let e : i + suc j ≡ suc i + j = omega arith in e) u))

-- under clocks that show the same
module _ (f : ℕ) (h g : Head) (c : ℕ) (same : (j : ℕ) → inner_clock h j c ≡ inner_clock g j c) where
  pub same_tended : (i : ℕ) (ps : Plants) → KidsTended f h c i ps → KidsTended f g c i ps
  same_tended i none t = tt
  same_tended i (gone ps) t = same_tended (suc i) ps t
  same_tended i (more p ps) t = (subst (λ z. Tended f z p) (same i) t.0, same_tended (suc i) ps t.1)

pub same_kid_terms : (h g : Head) (c : ℕ) (same : (j : ℕ) → inner_clock h j c ≡ inner_clock g j c) (i : ℕ) (ps : Plants) → terms_of h c i (shapes_of ps) ≡ terms_of g c i (shapes_of ps)
same_kid_terms h g c same i none = refl
same_kid_terms h g c same i (gone ps) = ap (and done) (same_kid_terms h g c same (suc i) ps)
same_kid_terms h g c same i (more p ps) = λ n. and (term_in (same i n) p) (same_kid_terms h g c same (suc i) ps n)

-- ------------------------------------------------------------ what they keep

pub kept_read : (m : Map What) (ps : Plants) (j : ℕ) → StandAll m ps → kept_in m (slice_index_or (roots ps) j None) ≡ kept_at ps j
kept_read m none j s = refl
kept_read m (gone ps) zero s = refl
kept_read m (more (node k x qs) ps) zero s = ap kept_of_node s.1.0
kept_read m (gone ps) (suc j) s = kept_read m ps j s
kept_read m (more p ps) (suc j) s = kept_read m ps j s.2

pub kept_all_read : (m : Map What) (ps : Plants) → StandAll m ps → kept_in_all m (roots ps) ≡ kept_all ps
kept_all_read m none s = refl
kept_all_read m (gone ps) s = ap (Rattle.pz_tree_nodes.specs.Keeping.joined Rattle.pz_tree_nodes.specs.Keeping.kept_done) (kept_all_read m ps s)
kept_all_read m (more (node k x qs) ps) s = λ n. Rattle.pz_tree_nodes.specs.Keeping.joined (kept_of_node (s.1.0 n)) (kept_all_read m ps s.2 n)
