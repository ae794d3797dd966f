-- What no clock decides; what is asked nothing, and what nothing wakes.
use Rattle.std.proofs.Common.{◌≡◌, ◌+◌, ℕ, suc, true, false, refl, ap, sym, ◌∙◌, subst, arith}
use Rattle.pz_nodes_shapes.specs.Rose.{node, none, gone, more}
use Rattle.pz_rules.specs.Terms.{Term, done, leaf, wait, sequence, parallel, select, guarded, frame, abort, idle, handling, term_at, height}
use Rattle.pz_rules.specs.Settings.{Context}
use Rattle.pz_tree_standing.specs.Asked.{asks}
use Rattle.pz_tree_standing.specs.Woken.{begins, is_clocked, starts, clocked}
use Rattle.pz_tree_standing.specs.Heads.{Head, Shape, inner_clock, inner_frame}
use Rattle.pz_tree_standing.specs.Standing.{term_of, terms_of}
use Rattle.pz_tree_standing.specs.Reached.{reaches}
use Rattle.pz_tree_standing.specs.Laws.{RestsAreRight, UnwokenIsCalm, UnwokenIsSteadyToo}
use Rattle.pz_tree_standing.proofs.Resting.{kid_unasked}
use Rattle.pz_tree_nodes.specs.declared.kept.Kept.{Kept}
use Rattle.pz_tree_nodes.specs.Keeping.{HasFlags, IsMarked}
use Rattle.pz_tree_nodes.specs.View.{Plant, Plants, head_view, shape_of, shapes_of, term_in}
use Rattle.pz_tree_nodes.specs.Tended.{Marked, AreMarked}
use Rattle.pz_tree_nodes.specs.Fresh.{Flagged, AllFlagged}
use Rattle.pz_tree_nodes.specs.Laws.{UnaskedAreRight, UnaskedAreFlagged, UnwokenAreCalm, UnwokenAreSteady}
use Rattle.pz_tree_nodes.proofs.Blind.{blind, alike, asks_blind, height_blind, parts_blind}

pub asks_alike : (c d : ℕ) (s : Shape) → asks (term_of c s) ≡ asks (term_of d s)
asks_alike c d s = sym (asks_blind (term_of c s)) ∙ ap asks (alike c d s) ∙ asks_blind (term_of d s)

height_alike : (c d : ℕ) (s : Shape) → height (term_of c s) ≡ height (term_of d s)
height_alike c d s = sym (height_blind (term_of c s)) ∙ ap height (alike c d s) ∙ height_blind (term_of d s)

begins_blind : (t : Term) → begins (blind t) ≡ begins t
begins_blind done = refl
begins_blind (leaf s) = refl
begins_blind (wait left at) = refl
begins_blind (sequence t rest) = refl
begins_blind (parallel ts) = refl
begins_blind (select ts) = refl
begins_blind (guarded test at t) = refl
begins_blind (frame number inputs results t) = refl
begins_blind (abort t u) = refl
begins_blind (idle t u again) = refl
begins_blind (handling t u again) = refl

clocked_blind : (t : Term) → is_clocked (blind t) ≡ is_clocked t
clocked_blind done = refl
clocked_blind (leaf s) = refl
clocked_blind (wait left at) = refl
clocked_blind (sequence t rest) = refl
clocked_blind (parallel ts) = refl
clocked_blind (select ts) = refl
clocked_blind (guarded test at t) = refl
clocked_blind (frame number inputs results t) = refl
clocked_blind (abort t u) = refl
clocked_blind (idle t u again) = refl
clocked_blind (handling t u again) = refl

starts_alike : (a : Context) (f c d : ℕ) (s : Shape) → starts a f (term_of c s) ≡ starts a f (term_of d s)
starts_alike a f c d s = sym (parts_blind begins begins_blind a f (term_of c s)) ∙ ap (starts a f) (alike c d s) ∙ parts_blind begins begins_blind a f (term_of d s)

clocked_alike : (a : Context) (f c d : ℕ) (s : Shape) → clocked a f (term_of c s) ≡ clocked a f (term_of d s)
clocked_alike a f c d s = sym (parts_blind is_clocked clocked_blind a f (term_of c s)) ∙ ap (clocked a f) (alike c d s) ∙ parts_blind is_clocked clocked_blind a f (term_of d s)

pub flags_alike : (a : Context) (f c d : ℕ) (s : Shape) (k : Kept) → HasFlags a f (term_of c s) k → HasFlags a f (term_of d s) k
flags_alike a f c d s k h = record { starts = h.starts ∙ starts_alike a f c d s; clocked = h.clocked ∙ clocked_alike a f c d s }

-- what is so at one clock is so at each
pub marked_alike : (c d : ℕ) (s : Shape) (k : Kept) → IsMarked (term_of c s) k → IsMarked (term_of d s) k
marked_alike c d s k h = record {
  asked = h.asked ∙ asks_alike c d s;
  high = h.high ∙ height_alike c d s;
  flags = λ e a f. flags_alike a f c d s k (h.flags (asks_alike c d s ∙ e) a f);
}

-- ---------------------------------------------------------- what is asked nothing

mutual
  flagged : (a : Context) (f c : ℕ) (p : Plant) → asks (term_in c p) ≡ false → Marked p → Flagged a f c p
  flagged a f c (node k x ps) e m =
      let h = head_view x.head in
      ((m.0 c).flags e a f, all_flagged a (inner_frame h f) h c 0 ps (λ j g. kid_unasked h c (terms_of h c 0 (shapes_of ps)) e j (let n : 0 + j ≡ j = omega arith in subst (λ z. reaches h z ≡ true) n g)) m.1)

  all_flagged : (a : Context) (f : ℕ) (h : Head) (c i : ℕ) (ps : Plants) → ((j : ℕ) → reaches h (i + j) ≡ true → asks (term_at (terms_of h c i (shapes_of ps)) j) ≡ false) → AreMarked ps → AllFlagged a f h c i ps
  all_flagged a f h c i none e m = tt
  all_flagged a f h c i (gone ps) e m = all_flagged a f h c (suc i) ps (λ j g. e (suc j) (let n : suc i + j ≡ i + suc j = omega arith in subst (λ z. reaches h z ≡ true) n g)) m
  all_flagged a f h c i (more p ps) e m = (
    (λ g. flagged a f (inner_clock h i c) p (e 0 (let n : i ≡ i + 0 = omega arith in subst (λ z. reaches h z ≡ true) n g)) m.0),
    all_flagged a f h c (suc i) ps (λ j g. e (suc j) (let n : suc i + j ≡ i + suc j = omega arith in subst (λ z. reaches h z ≡ true) n g)) m.1,
  )

pub unasked_right : RestsAreRight → UnaskedAreRight
unasked_right law a f c (node k x ps) t e = law a f c (shape_of (node k x ps)) (sym (t.marked.0 c).asked ∙ e) t.sound.rests

pub unasked_flagged : UnaskedAreFlagged
unasked_flagged a f c (node k x ps) t e = flagged a f c (node k x ps) (sym (t.marked.0 c).asked ∙ e) t.marked

-- ---------------------------------------------------------- what nothing wakes

pub unwoken_calm : UnwokenIsCalm → UnwokenAreCalm
unwoken_calm law a f c (node k x ps) h s = law a f c (shape_of (node k x ps)) h.right (sym h.flagged.0.starts ∙ s)

pub unwoken_steady : UnwokenIsSteadyToo → UnwokenAreSteady
unwoken_steady law a d f c (node k x ps) h s e due = law a d f c (shape_of (node k x ps)) h.right (sym h.flagged.0.starts ∙ s) (sym h.flagged.0.clocked ∙ e) due
