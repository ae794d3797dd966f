-- A node over tended parts is tended, where the clocks of all show the same.
use Rattle.std.proofs.Common.{◌≡◌, ℕ, suc, refl, ap, sym, ◌∙◌, subst}
use Rattle.pz_nodes_shapes.specs.Rose.{node, none, gone, more, width}
use Rattle.pz_rules.specs.Terms.{Term, Terms, and, count}
use Rattle.pz_rules.specs.Terms as term
use Rattle.pz_tree_standing.specs.Summaries.{summary_of}
use Rattle.pz_tree_standing.specs.Asked.{asks}
use Rattle.pz_tree_standing.specs.Heads.{Head, inner_clock, inner_frame, formed}
use Rattle.pz_tree_standing.specs.Standing.{term_of, terms_of, Fits, FitAll}
use Rattle.pz_tree_standing.specs.Resting.{Rests, RestAll}
use Rattle.pz_tree_standing.specs.Whole.{AreWhole}
use Rattle.pz_tree_nodes.specs.declared.node.What.{What}
use Rattle.pz_tree_nodes.specs.Keeping.{IsMarked, IsKept}
use Rattle.pz_tree_nodes.specs.View.{Plants, head_view, shape_of, shapes_of, term_in, terms_in}
use Rattle.pz_tree_nodes.specs.Tended.{Tended, AreTended, AreMarked}
use Rattle.pz_tree_nodes.proofs.Marks.{marked_alike}
use Rattle.pz_tree_nodes.specs.devices.Parts.{Forms}

as_wide : (c : ℕ) (ps : Plants) → width (shapes_of ps) ≡ count (terms_in c ps)
as_wide c none = refl
as_wide c (gone ps) = ap suc (as_wide c ps)
as_wide c (more p ps) = ap suc (as_wide c ps)

whole : (f c : ℕ) (ps : Plants) → AreTended f c ps → AreWhole (shapes_of ps)
whole f c none t = tt
whole f c (gone ps) t = whole f c ps t
whole f c (more p ps) t = (t.0.sound.whole, whole f c ps t.1)

marked : (f c : ℕ) (ps : Plants) → AreTended f c ps → AreMarked ps
marked f c none t = tt
marked f c (gone ps) t = marked f c ps t
marked f c (more p ps) t = (t.0.marked, marked f c ps t.1)

-- children whose clocks show c
module _ (h : Head) (c : ℕ) (clocks : (i : ℕ) → inner_clock h i c ≡ c) where
  same_terms : (i : ℕ) (ps : Plants) → terms_of h c i (shapes_of ps) ≡ terms_in c ps
  same_terms i none = refl
  same_terms i (gone ps) = ap (and term.done) (same_terms (suc i) ps)
  same_terms i (more p ps) = λ n. and (term_of (clocks i n) (shape_of p)) (same_terms (suc i) ps n)

  fit : (f i : ℕ) (ps : Plants) → AreTended f c ps → FitAll h c i (shapes_of ps)
  fit f i none t = tt
  fit f i (gone ps) t = fit f (suc i) ps t
  fit f i (more p ps) t = (subst (λ z. Fits z (shape_of p)) (sym (clocks i)) t.0.sound.fits, fit f (suc i) ps t.1)

  rest : (f i : ℕ) (ps : Plants) → AreTended f c ps → RestAll f h c i (shapes_of ps)
  rest f i none t = tt
  rest f i (gone ps) t = rest f (suc i) ps t
  rest f i (more p ps) t = (subst (λ z. Rests f z (shape_of p)) (sym (clocks i)) t.0.sound.rests, rest f (suc i) ps t.1)

module _ (c k : ℕ) (x : What) (ts : Terms) (t : Term) (ps : Plants) (forms : Forms c (head_view x.head) ts t) (means : ts ≡ terms_in c ps) where
  pub node_means : t ≡ term_in c (node k x ps)
  node_means =
      sym forms.forms ∙ ap (formed (head_view x.head) c) means
      ∙ ap (formed (head_view x.head) c) (sym (same_terms (head_view x.head) c forms.clocks 0 ps))

  pub node_tended : IsKept c t x.kept → ((f : ℕ) → AreTended f c ps) → (f : ℕ) → Tended f c (node k x ps)
  node_tended kept tended f = record {
    sound = record {
      whole = (forms.parts (shapes_of ps) (as_wide c ps ∙ ap count (sym means)), whole f c ps (tended f));
      fits = (forms.fits, fit (head_view x.head) c forms.clocks f 0 ps (tended f));
      rests = (
        (λ e a. kept.rests (ap asks node_means ∙ e) a f ∙ ap (summary_of a c f) node_means),
        rest (head_view x.head) c forms.clocks (inner_frame (head_view x.head) f) 0 ps (tended (inner_frame (head_view x.head) f)),
      );
    };
    marked = ((λ d. marked_alike c d (shape_of (node k x ps)) x.kept (subst (λ z. IsMarked z x.kept) node_means kept.mark)), marked f c ps (tended f));
  }
