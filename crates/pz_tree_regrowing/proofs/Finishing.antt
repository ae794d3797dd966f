-- What becomes of a node in hand: it is put back, what has acted stands in its place, or it is gone.
use Rattle.std.proofs.Common.{◌≡◌, ◌≤◌, ℕ, zero, suc, ◌+◌, ◌*◌, Bool, false, List, [], ◌∷◌, ◌++◌, Option, Some, None, refl, ap, sym, ◌∙◌, subst, arith}
use Rattle.std.specs.Prelude.{slice_index_or}
use Rattle.pz_nodes_shapes.specs.Rose.{none, gone, more, Map, roots, pick, with_kid, sizes}
use Rattle.pz_nodes_shapes.specs.Rose as rose
use Rattle.pz_nodes_shapes.specs.Change.{Holds}
use Rattle.pz_nodes_shapes.proofs.Frames.{put_back}
use Rattle.pz_rules.specs.pz_state.Marks.{Seen}
use Rattle.pz_rules.specs.Terms.{Term, done, frames_in_all, term_at}
use Rattle.pz_rules.specs.Settings.{Process, left_by, Home}
use Rattle.pz_rules.specs.Leaving.{replaced, is_done, around}
use Rattle.pz_tree_nodes.specs.pz_tree_standing.FrameCounts.{lost, gained}
use Rattle.pz_tree_nodes.specs.pz_tree_standing.Heads as heads
use Rattle.pz_tree_nodes.specs.pz_tree_standing.Heads.{inner_clock, inner_frame, formed}
use Rattle.pz_tree_nodes.specs.pz_tree_standing.Standing.{HeadFits}
use Rattle.pz_tree_nodes.specs.pz_tree_standing.Whole.{HasParts, AreWhole}
use Rattle.pz_tree_nodes.specs.declared.kept.Kept.{Kept}
use Rattle.pz_tree_nodes.specs.declared.node.Head.{Head}
use Rattle.pz_tree_nodes.specs.declared.node.What.{What}
use Rattle.pz_tree_nodes.specs.View.{Plant, Plants, head_view, shapes_of, term_in_option}
use Rattle.pz_tree_nodes.specs.Tended.{TendedOption}
use Rattle.pz_tree_nodes.specs.Planting.{nodes_of_all, root_of}
use Rattle.pz_tree_nodes.specs.Dropping.{DropAllRule}
use Rattle.pz_tree_regrowing.specs.Costs.{beside, dropped}
use Rattle.pz_rules.specs.Short.{IsShort}
use Rattle.pz_tree_regrowing.specs.Regrowing.{InTime, at_work}
use Rattle.pz_tree_regrowing.specs.devices.Keeping.{kept_formed, IsPutBack}
use Rattle.pz_tree_regrowing.specs.devices.Levels.{KidsTended, kid_terms, before, after, Finished, IsWritten, IsFree, LeftAlone, AloneRule}
use Rattle.pz_tree_regrowing.proofs.Kids.{picked_root, picked_term, picked_tended, kid_terms_with}
use Rattle.pz_tree_regrowing.proofs.Leaving.{in_place}
use Rattle.pz_tree_regrowing.proofs.Others.{others_within, others_gone, one_left}
use Rattle.pz_tree_regrowing.proofs.Shorts.{around_short}
use Rattle.pz_tree_regrowing.proofs.Sizes.{few_below}
use Rattle.pz_tree_regrowing.proofs.Tending.{node_tended, some_undone}

pub append_none : {A : Type 0} (xs : List A) → xs ++ [] ≡ xs
append_none [] = refl
append_none (x ∷ xs) = ap (λ l. x ∷ l) (append_none xs)

-- ------------------------------------------------------------ by the keys of the children

pub key_done : (h : heads.Head) (c : ℕ) (ps : Plants) (j : ℕ) → slice_index_or (roots ps) j None ≡ None → term_at (kid_terms h c ps) j ≡ done
key_done h c ps j e = picked_term h c 0 ps j ∙ by (pick ps j) (sym (picked_root ps j) ∙ e)
  where
    by : (x : Option Plant) → root_of x ≡ None → term_in_option (inner_clock h (0 + j) c) x ≡ done
    by None r = refl
    by (Some p) r = absurd cc

pub key_undone : (f : ℕ) (h : heads.Head) (c : ℕ) (ps : Plants) (j : ℕ) → KidsTended f h c 0 ps → (slice_index_or (roots ps) j None ≡ None → ⊥) → is_done (term_at (kid_terms h c ps) j) ≡ false
key_undone f h c ps j t n = ap is_done (picked_term h c 0 ps j) ∙ by (pick ps j) (λ e. n (picked_root ps j ∙ e)) (picked_tended f h c 0 ps j t)
  where
    by : (x : Option Plant) → (root_of x ≡ None → ⊥) → TendedOption f (inner_clock h (0 + j) c) x → is_done (term_in_option (inner_clock h (0 + j) c) x) ≡ false
    by None r u = absurd (r refl)
    by (Some p) r u = some_undone (inner_clock h (0 + j) c) p u.sound.whole

-- ------------------------------------------------------------ put back

pub kept_over : (home : Home) (f c k : ℕ) (h : heads.Head) (i : ℕ) (m n : Map What) (s : Seen) (gathered fresh : List ℕ) (old new : ℕ) (head : Head) (keys : List (Option ℕ)) (kept : Kept)
    (m0 : Map What) (was : ℕ → Bool) (ps : Plants) (t : Term)
    → Holds m0 m was k ps → roots ps ≡ keys
    → HasParts (head_view head) (shapes_of ps) → HeadFits (head_view head) c → KidsTended (inner_frame (head_view head) f) (head_view head) c 0 ps → IsPutBack (head_view head)
    → IsWritten m n k head keys kept → kept ≡ kept_formed (head_view head) ps
    → around home f s.held (before h c ps i t) i (after h c ps i) ≡ left_by s.held (formed (head_view head) c (kid_terms (head_view head) c ps))
    → lost (before h c ps i t) i (after h c ps i) ≡ []
    → gained home s.held (before h c ps i t) i (after h c ps i) ≡ []
    → new ≤ old + (4 + beside (before h c ps i t) i)
    → InTime c (before h c ps i t) (after h c ps i)
    → Finished home f c m0 was h ps i t (Some k) (at_work m s gathered fresh old) (at_work n s gathered fresh new)
kept_over home f c k h i m n s gathered fresh old new head keys kept m0 was ps t holds e parts fits kids back w keeps is none_lost none_gained few time =
    let x : What = record { head = head; kept = kept } in
    let short : IsShort (formed (head_view head) c (kid_terms (head_view head) c ps)) = subst (λ (p : Process). IsShort p.term) is (around_short home s.held f (before h c ps i t) i (after h c ps i) time.short time.part) in
    record {
      plant = Some (rose.node k x ps);
      under = refl;
      becomes = put_back m0 m n was k x ps holds (w.written ∙ ap (λ z. Some (record { what = x; kids = z })) (sym e)) w.others;
      tended = node_tended f c k x ps parts fits kids back keeps time.room short;
      means = in_place (around home f s.held (before h c ps i t) i (after h c ps i)) (formed (head_view head) c (kid_terms (head_view head) c ps)) s is;
      lost = sym (append_none gathered) ∙ ap (λ z. gathered ++ z) (sym none_lost);
      gained = sym (append_none fresh) ∙ ap (λ z. fresh ++ z) (sym none_gained);
      ticks = omega (arith, few);
    }

-- ------------------------------------------------------------ what has acted stands in its place

beside_stand : (m : Map What) (ps : Plants) (i : ℕ) → rose.StandAll m ps → rose.StandAll m (with_kid ps i None)
beside_stand m none i st = tt
beside_stand m (gone ps) zero st = st
beside_stand m (more p ps) zero st = st.2
beside_stand m (gone ps) (suc i) st = beside_stand m ps i st
beside_stand m (more p ps) (suc i) st = ((λ j a b. st.0 j a (others_within ps i j b)), st.1, beside_stand m ps i st.2)

others_are_whole : (ps : Plants) (i : ℕ) → AreWhole (shapes_of ps) → AreWhole (shapes_of (with_kid ps i None))
others_are_whole none i w = tt
others_are_whole (gone ps) zero w = w
others_are_whole (more p ps) zero w = w.1
others_are_whole (gone ps) (suc i) w = others_are_whole ps i w
others_are_whole (more p ps) (suc i) w = (w.0, others_are_whole ps i w.1)

-- the code drops the others and frees the key
pub left_alone : (m m1 n : Map What) (k : ℕ) (keys rest : List (Option ℕ)) (i : ℕ) (lost found : List ℕ) (old mid new : ℕ)
    → ((ps : Plants) → roots ps ≡ keys → roots (with_kid ps i None) ≡ rest)
    → DropAllRule m m1 rest lost found old mid → IsFree m1 n k → new ≡ mid + 1
    → AloneRule m n k keys i (slice_index_or keys i None) lost found old new
left_alone m m1 n k keys rest i lost found old mid new others drops free tick m0 was ps holds e =
    let d = drops (with_kid ps i None) (beside_stand m ps i holds.stand) (others ps e) in
    record {
      under = sym (picked_root ps i) ∙ ap (λ z. slice_index_or z i None) e;
      becomes = one_left m0 m1 n was k (pick ps i) (others_gone m0 m m1 was k ps i holds d.gone) free.vacant free.others;
      frames = λ w h c. d.frames (others_are_whole ps i w) h c 0 ∙ ap (λ z. lost ++ frames_in_all z) (kid_terms_with h c ps i None);
      ticks = omega (arith, d.ticks, tick);
    }

pub alone_finished : (home : Home) (f c k : ℕ) (h : heads.Head) (i : ℕ) (m n : Map What) (s : Seen) (gathered found fresh : List ℕ) (old new : ℕ) (out : Option ℕ)
    (m0 : Map What) (was : ℕ → Bool) (ps : Plants) (t : Term)
    → LeftAlone m0 n was ps i out gathered found old new
    → AreWhole (shapes_of ps) → TendedOption f c (pick ps i)
    → around home f s.held (before h c ps i t) i (after h c ps i) ≡ left_by s.held (term_in_option c (pick ps i))
    → lost (before h c ps i t) i (after h c ps i) ≡ frames_in_all (replaced (kid_terms h c ps) i done)
    → gained home s.held (before h c ps i t) i (after h c ps i) ≡ []
    → nodes_of_all (replaced (kid_terms h c ps) i done) ≤ dropped (before h c ps i t) i (after h c ps i)
    → Finished home f c m0 was h ps i t out (at_work m s gathered fresh old) (at_work n s found fresh new)
alone_finished home f c k h i m n s gathered found fresh old new out m0 was ps t l whole tended is gone_frames none_gained few =
    let fewer : sizes (with_kid ps i None) ≤ 2 * nodes_of_all (replaced (kid_terms h c ps) i done) =
    subst (λ z. sizes (with_kid ps i None) ≤ 2 * nodes_of_all z) (kid_terms_with h c ps i None) (few_below h c 0 (with_kid ps i None) (others_are_whole ps i whole)) in
    record {
      plant = pick ps i;
      under = l.under;
      becomes = l.becomes;
      tended = tended;
      means = in_place (around home f s.held (before h c ps i t) i (after h c ps i)) (term_in_option c (pick ps i)) s is;
      lost = l.frames whole h c ∙ ap (λ z. gathered ++ z) (sym gone_frames);
      gained = sym (append_none fresh) ∙ ap (λ z. fresh ++ z) (sym none_gained);
      ticks = omega (arith, l.ticks, fewer, few);
    }
