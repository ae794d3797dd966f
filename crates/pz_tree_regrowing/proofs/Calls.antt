-- A frame round what a part has become.
use Rattle.std.proofs.Common.{◌≡◌, ◌≤◌, ℕ, ◌+◌, Bool, true, false, List, [], ◌∷◌, ◌++◌, Option, Some, None, refl, ap, sym, ◌∙◌, subst, arith, rules}
use Rattle.std.specs.Prelude.{slice_index_or, if◌then◌else◌}
use Rattle.pz_classes_code.specs.declared.slot.Slot.{Slot}
use Rattle.pz_clock.specs.Shifts.{ShiftView}
use Rattle.pz_nodes_shapes.specs.declared.node.Node.{Node}
use Rattle.pz_nodes_shapes.specs.Rose.{node, none, gone, more, Map, root, roots, pick, joined, Stands, StandAll}
use Rattle.pz_nodes_shapes.specs.Change.{Holds, BecomesOption}
use Rattle.pz_rules.specs.pz_state.Marks.{Seen}
use Rattle.pz_rules.specs.pz_state.declared.state.FrameId.{FrameId}
use Rattle.pz_term_around.specs.pz_part_opening.Bare.{is_bare}
use Rattle.pz_rules.specs.Terms.{Term, done, leaf, wait, sequence, parallel, select, guarded, frame, abort, idle, handling, Terms, term_at}
use Rattle.pz_rules.specs.declared.term.Term.TheVariants as lying
use Rattle.pz_rules.specs.declared.term.Term.TheFolds.{the_lemmas}
use Rattle.pz_rules.specs.View.{term_view}
use Rattle.pz_rules.specs.Settings.{left_by, Home, Context}
use Rattle.pz_rules.specs.Leaving.{replaced, is_done, around}
use Rattle.pz_rules.specs.Becoming.{Became}
use Rattle.pz_tree_nodes.specs.pz_tree_standing.Summaries.{summary_of}
use Rattle.pz_tree_nodes.proofs.pz_tree_standing_proofs.Tallies.{summary_frame}
use Rattle.pz_tree_nodes.specs.pz_tree_standing.FrameCounts.{gives_way}
use Rattle.pz_tree_nodes.specs.pz_tree_standing.Heads as heads
use Rattle.pz_tree_nodes.specs.pz_tree_standing.Heads.{Head, Shape, Shapes, inner_clock, inner_frame, formed}
use Rattle.pz_tree_nodes.specs.pz_tree_standing.Standing.{term_of, terms_of}
use Rattle.pz_tree_nodes.specs.pz_tree_standing.Resting.{Rests, RestAll}
use Rattle.pz_tree_nodes.specs.pz_tree_standing.Whole.{IsNoShift, HasParts, Whole, AreWhole}
use Rattle.pz_tree_nodes.specs.declared.kept.Kept.{Kept}
use Rattle.pz_tree_nodes.specs.declared.node.Head.TheVariants as kind
use Rattle.pz_tree_nodes.specs.declared.node.What.{What}
use Rattle.pz_tree_nodes.specs.Keeping.{raised}
use Rattle.pz_tree_nodes.specs.View.{Plant, Plants, head_view, shape_of, shapes_of, term_in, term_in_option}
use Rattle.pz_tree_nodes.specs.Tended.{Tended, TendedOption}
use Rattle.pz_tree_nodes.specs.Planting.{root_of}
use Rattle.pz_tree_regrowing.specs.Regrowing.{InTime, at_work}
use Rattle.pz_tree_regrowing.specs.devices.Keeping.{kept_in}
use Rattle.pz_tree_regrowing.specs.devices.Levels.{kid_terms, before, after, Finished, FinishRule, LosingRule, IsWritten, IsFree, BareRule, is_bare_head, is_bare_of, is_bare_node}
use Rattle.pz_tree_regrowing.proofs.Kids.{same_node, width_seen, picked_root, picked_term, picked_tended, kept_read}
use Rattle.pz_tree_regrowing.proofs.Leaving.{in_place, frame_stays, frame_gives, frame_keeps}
use Rattle.pz_tree_regrowing.proofs.Others.{one_left}
use Rattle.pz_tree_regrowing.proofs.ByForm.{one_kid}
use Rattle.pz_tree_regrowing.proofs.Finishing.{append_none, key_done, key_undone, kept_over}

-- ------------------------------------------------------------ frames without outputs

head_bare : (h : Head) (c : ℕ) (ts : Terms) → IsNoShift h → is_bare (formed h c ts) ≡ is_bare_head h
head_bare (heads.leaf s) c ts n = refl
head_bare (heads.wait due at) c ts n = refl
head_bare (heads.sequence rest) c ts n = refl
head_bare heads.parallel c ts n = refl
head_bare heads.select c ts n = refl
head_bare (heads.guarded e at s) c ts n = refl
head_bare (heads.frame number inputs []) c ts n = refl
head_bare (heads.frame number inputs (r ∷ rs)) c ts n = refl
head_bare heads.abort c ts n = refl
head_bare (heads.idle again s) c ts n = refl
head_bare (heads.handling again s) c ts n = refl
head_bare (heads.shifted s) c ts n = absurd n

stood : (m : Map What) (k j : ℕ) (x : What) (ps : Plants) (was : Node What) → Stands m (node j x ps) → j ≡ k → m k ≡ Some was → was ≡ record { what = x; kids = roots ps }
stood m k j x ps was st e is = same_node was (record { what = x; kids = roots ps }) (sym is ∙ ap m (sym e) ∙ st.0)

pub no_node_bare : (m : Map What) (k : ℕ) → m k ≡ None → BareRule m k false
no_node_bare m k e c (node j x ps) st r w = absurd (let a = st.0 in let b = ap m r in cc)

pub plain_bare : (m : Map What) (k : ℕ) (was : Node What) (bare : Bool) → m k ≡ Some was → IsNoShift (head_view was.what.head) → bare ≡ is_bare_head (head_view was.what.head) → BareRule m k bare
plain_bare m k was bare is other e c (node j x ps) st r w =
    let same = stood m k j x ps was st r is in
    let no_shift = subst (λ z. IsNoShift (head_view z.what.head)) same other in
    e ∙ ap (λ z. is_bare_head (head_view z.what.head)) same ∙ sym (head_bare (head_view x.head) c (terms_of (head_view x.head) c 0 (shapes_of ps)) no_shift)

pub shift_bare : (m : Map What) (k : ℕ) (was : Node What) (shift : ShiftView) (bare : Bool) → m k ≡ Some was → was.what.head ≡ kind.Shifted shift → bare ≡ is_bare_node m (slice_index_or was.kids 0 None) → BareRule m k bare
shift_bare m k was shift bare is head e c (node j x ps) st r w =
    let same = stood m k j x ps was st r is in
    let shown : head_view x.head ≡ heads.shifted shift = ap (λ z. head_view z.what.head) (sym same) ∙ ap head_view head in
    e ∙ ap (λ z. is_bare_node m (slice_index_or z.kids 0 None)) same ∙ below ps st.2 (subst (λ z. HasParts z (shapes_of ps)) shown w.0)
    ∙ sym (ap (λ z. is_bare (formed z c (terms_of z c 0 (shapes_of ps)))) shown)
  where
    below : (ps : Plants) → StandAll m ps → HasParts (heads.shifted shift) (shapes_of ps) → is_bare_node m (slice_index_or (roots ps) 0 None) ≡ is_bare (term_at (terms_of (heads.shifted shift) c 0 (shapes_of ps)) 0)
    below none s p = absurd p
    below (gone qs) s p = absurd p
    below (more (node i y us) none) s p = ap is_bare_of s.1.0 ∙ sym (head_bare (head_view y.head) (inner_clock (heads.shifted shift) 0 c) (terms_of (head_view y.head) (inner_clock (heads.shifted shift) 0 c) 0 (shapes_of us)) p)
    below (more (node i y us) (gone qs)) s p = absurd p
    below (more (node i y us) (more u qs)) s p = absurd p

-- such a frame is right in whatever frame it stands

bare_summary : (a : Context) (c f g : ℕ) (t : Term) → is_bare t ≡ true → summary_of a c f t ≡ summary_of a c g t
bare_summary a c f g (frame number inputs results t) b = summary_frame a c f number inputs results t ∙ sym (summary_frame a c g number inputs results t)
bare_summary a c f g done b = absurd cc
bare_summary a c f g (leaf s) b = absurd cc
bare_summary a c f g (wait left at) b = absurd cc
bare_summary a c f g (sequence t rest) b = absurd cc
bare_summary a c f g (parallel ts) b = absurd cc
bare_summary a c f g (select ts) b = absurd cc
bare_summary a c f g (guarded test at t) b = absurd cc
bare_summary a c f g (abort t u) b = absurd cc
bare_summary a c f g (idle t u again) b = absurd cc
bare_summary a c f g (handling t u again) b = absurd cc

mutual
  bare_rests : (f g c : ℕ) (s : Shape) → Whole s → is_bare (term_of c s) ≡ true → Rests f c s → Rests g c s
  bare_rests f g c (node k x ss) w b r = ((λ e a. r.0 e a ∙ bare_summary a c f g (term_of c (node k x ss)) b), bare_kids f g c x.head ss w.0 w.1 b r.1)

  bare_kids : (f g c : ℕ) (h : Head) (ss : Shapes) → HasParts h ss → AreWhole ss → is_bare (formed h c (terms_of h c 0 ss)) ≡ true → RestAll (inner_frame h f) h c 0 ss → RestAll (inner_frame h g) h c 0 ss
  bare_kids f g c (heads.frame number inputs results) ss p w b r = r
  bare_kids f g c (heads.shifted s) none p w b r = tt
  bare_kids f g c (heads.shifted s) (gone ss) p w b r = absurd p
  bare_kids f g c (heads.shifted s) (more t none) p w b r = (bare_rests f g (inner_clock (heads.shifted s) 0 c) t w.0 b r.0, tt)
  bare_kids f g c (heads.shifted s) (more (node k y ts) (gone ss)) p w b r = absurd p
  bare_kids f g c (heads.shifted s) (more (node k y ts) (more u ss)) p w b r = absurd p
  bare_kids f g c (heads.leaf s) ss p w b r = absurd cc
  bare_kids f g c (heads.wait due at) ss p w b r = absurd cc
  bare_kids f g c (heads.sequence rest) ss p w b r = absurd cc
  bare_kids f g c heads.parallel ss p w b r = absurd cc
  bare_kids f g c heads.select ss p w b r = absurd cc
  bare_kids f g c (heads.guarded e at s) ss p w b r = absurd cc
  bare_kids f g c heads.abort ss p w b r = absurd cc
  bare_kids f g c (heads.idle again s) ss p w b r = absurd cc
  bare_kids f g c (heads.handling again s) ss p w b r = absurd cc

bare_anywhere : (f g c : ℕ) (p : Plant) → is_bare (term_in c p) ≡ true → Tended f c p → Tended g c p
bare_anywhere f g c p b t = record {
  sound = record { whole = t.sound.whole; fits = t.sound.fits; rests = bare_rests f g c (shape_of p) t.sound.whole b t.sound.rests };
  marked = t.marked;
}

-- ------------------------------------------------------------ the frame is done

pub done_seen : term_view lying.Done ≡ done
done_seen = search (rules, the_lemmas)

pub frame_ends : (home : Home) (f c k i : ℕ) (own : FrameId) (inputs : ℕ) (results : List Slot) (m n : Map What) (s t : Seen) (x ended : Term) (gathered found fresh : List ℕ) (old new : ℕ)
    → ended ≡ done → ((h : Home) (body : Term) (j : ℕ) → Became (around h f s.held (frame own.0 inputs results body) j ended) x s t)
    → IsFree m n k → found ≡ gathered ++ (own.0 ∷ []) → new ≡ old + 1
    → FinishRule home f c k (heads.frame own.0 inputs results) (None ∷ []) i None (at_work m s gathered fresh old) (at_work n t found fresh new)
frame_ends home f c k i own inputs results m n s t x ended gathered found fresh old new is_over became free gives tick m0 was ps u hand e w may time =
    let h = heads.frame own.0 inputs results in
    let first : slice_index_or (roots ps) 0 None ≡ None = ap (λ z. slice_index_or z 0 None) e in
    let over : after h c ps 0 ≡ done = key_done h c ps 0 first in
    let whole = before h c ps 0 u in
    let b = subst (λ z. Became (around home f s.held whole 0 z) x s t) (is_over ∙ sym over) (became home (term_at (replaced (kid_terms h c ps) 0 u) 0) 0) in
    let nothing : pick ps 0 ≡ None = root_none (pick ps 0) (sym (picked_root ps 0) ∙ first) in
    let holds : Holds m0 m was k (joined (pick ps 0) none) = subst (Holds m0 m was k) (one_kid ps (sym (width_seen ps) ∙ hand.parts)) hand.holds in
    subst (λ z. Finished home f c m0 was h ps z u None (at_work m s gathered fresh old) (at_work n t found fresh new)) (sym may)
    (record {
      plant = None;
      under = refl;
      becomes = subst (BecomesOption m0 n was) nothing (one_left m0 m n was k (pick ps 0) holds free.vacant free.others);
      tended = tt;
      means = record { term = sym (ap (λ z. (around home f s.held whole 0 z).term) over); state = b.state };
      lost = gives ∙ ap (λ z. gathered ++ (if is_done z then own.0 ∷ [] else (if gives_way results z then own.0 ∷ [] else []))) (sym over);
      gained = sym (append_none fresh);
      ticks = omega (arith, tick);
    })
  where
    root_none : (y : Option Plant) → root_of y ≡ None → y ≡ None
    root_none None r = refl
    root_none (Some p) r = absurd cc

-- ------------------------------------------------------------ it is round what is not done

pub frame_gives_way : (c k i kid : ℕ) (own : FrameId) (inputs : ℕ) (results : List Slot) (m n : Map What) (gathered found : List ℕ) (old mid new : ℕ)
    → results ≡ [] → BareRule m kid true → IsFree m n k → found ≡ gathered ++ (own.0 ∷ []) → mid ≤ old + 2 → new ≡ mid + 1
    → LosingRule c k (heads.frame own.0 inputs results) (Some kid ∷ []) i (Some kid) m n gathered found old new
frame_gives_way c k i kid own inputs results m n gathered found old mid new plain bare free gives tick tock home f s fresh m0 was ps u hand e w may time =
    let h = heads.frame own.0 inputs results in
    let first : slice_index_or (roots ps) 0 None ≡ Some kid = ap (λ z. slice_index_or z 0 None) e in
    let holds : Holds m0 m was k (joined (pick ps 0) none) = subst (Holds m0 m was k) (one_kid ps (sym (width_seen ps) ∙ hand.parts)) hand.holds in
    let undone = key_undone own.0 h c ps 0 hand.tended (λ q. absurd (let r = first in cc)) in
    let x_is : after h c ps 0 ≡ term_in_option c (pick ps 0) = picked_term h c 0 ps 0 in
    let tended = picked_tended own.0 h c 0 ps 0 hand.tended in
    let x_bare : is_bare (after h c ps 0) ≡ true = ap is_bare x_is ∙ bare_there (pick ps 0) (sym (picked_root ps 0) ∙ first) holds.stand tended in
    let way = frame_gives own.0 inputs results (after h c ps 0) plain x_bare in
    subst (λ z. Finished home f c m0 was h ps z u (Some kid) (at_work m s gathered fresh old) (at_work n s found fresh new)) (sym may)
    (record {
      plant = pick ps 0;
      under = sym (picked_root ps 0) ∙ first;
      becomes = one_left m0 m n was k (pick ps 0) holds free.vacant free.others;
      tended = anywhere (pick ps 0) (ap is_bare (sym x_is) ∙ x_bare) tended;
      means = in_place (around home f s.held (before h c ps 0 u) 0 (after h c ps 0)) (term_in_option c (pick ps 0)) s
          (frame_stays home f s.held own.0 inputs results (term_at (replaced (kid_terms h c ps) 0 u) 0) 0 (after h c ps 0) undone ∙ ap (left_by s.held) (way.0 ∙ x_is));
      lost = gives ∙ (λ j. gathered ++ (if sym undone j then own.0 ∷ [] else (if sym way.1 j then own.0 ∷ [] else [])));
      gained = sym (append_none fresh);
      ticks = omega (arith, tick, tock);
    })
  where
    bare_there : (y : Option Plant) → root_of y ≡ Some kid → StandAll m (joined y none) → TendedOption own.0 c y → is_bare (term_in_option c y) ≡ true
    bare_there None r st t = absurd cc
    bare_there (Some p) r st t = sym (bare c p st.1 (let q : root p ≡ kid = cc in q) t.sound.whole)

    anywhere : (y : Option Plant) → is_bare (term_in_option c y) ≡ true → TendedOption own.0 c y → TendedOption f c y
    anywhere None b t = tt
    anywhere (Some p) b t = bare_anywhere own.0 f c p b t

pub frame_goes_on : (c k i kid : ℕ) (own : FrameId) (inputs : ℕ) (results : List Slot) (bare : Bool) (keys : List (Option ℕ)) (m n : Map What) (kept body : Kept) (gathered : List ℕ) (old mid last new : ℕ)
    → (bare ≡ true → results ≡ [] → ⊥) → BareRule m kid bare → keys ≡ Some kid ∷ [] → body ≡ kept_in m (Some kid) → kept ≡ raised body
    → ((m k ≡ None → ⊥) → IsWritten m n k (kind.Frame own inputs results) keys kept)
    → mid ≤ old + 2 → last ≡ mid + 1 → new ≡ last + 1
    → LosingRule c k (heads.frame own.0 inputs results) (Some kid ∷ []) i (Some k) m n gathered gathered old new
frame_goes_on c k i kid own inputs results bare keys m n kept body gathered old mid last new stays is_bare_there is_keys read keeps written tick tock tack home f s fresh m0 was ps u hand e w may time =
    let h = heads.frame own.0 inputs results in
    let first : slice_index_or (roots ps) 0 None ≡ Some kid = ap (λ z. slice_index_or z 0 None) e in
    let holds : Holds m0 m was k (joined (pick ps 0) none) = subst (Holds m0 m was k) (one_kid ps (sym (width_seen ps) ∙ hand.parts)) hand.holds in
    let undone = key_undone own.0 h c ps 0 hand.tended (λ q. absurd (let r = first in cc)) in
    let x_is : after h c ps 0 ≡ term_in_option c (pick ps 0) = picked_term h c 0 ps 0 in
    let x_bare : bare ≡ is_bare (after h c ps 0) = bare_there (pick ps 0) (sym (picked_root ps 0) ∙ first) holds.stand (picked_tended own.0 h c 0 ps 0 hand.tended) ∙ ap is_bare (sym x_is) in
    let way = frame_keeps own.0 inputs results (after h c ps 0) (λ b. stays (x_bare ∙ b)) in
    subst (λ z. Finished home f c m0 was h ps z u (Some k) (at_work m s gathered fresh old) (at_work n s gathered fresh new)) (sym may)
    (kept_over home f c k h 0 m n s gathered fresh old new (kind.Frame own inputs results) keys kept m0 was ps u hand.holds (e ∙ sym is_keys) hand.parts hand.fits hand.tended tt (written hand.holds.there)
    (keeps ∙ ap raised (read ∙ ap (kept_in m) (sym first) ∙ kept_read m ps 0 hand.holds.stand))
    (frame_stays home f s.held own.0 inputs results (term_at (replaced (kid_terms h c ps) 0 u) 0) 0 (after h c ps 0) undone ∙ ap (left_by s.held) way.0)
    (λ j. if undone j then own.0 ∷ [] else (if way.1 j then own.0 ∷ [] else []))
    refl
    (omega (arith, tick, tock, tack)) (subst (λ z. InTime c (before h c ps z u) (after h c ps z)) may time))
  where
    bare_there : (y : Option Plant) → root_of y ≡ Some kid → StandAll m (joined y none) → TendedOption own.0 c y → bare ≡ is_bare (term_in_option c y)
    bare_there None r st t = absurd cc
    bare_there (Some p) r st t = is_bare_there c p st.1 (let q : root p ≡ kid = cc in q) t.sound.whole
