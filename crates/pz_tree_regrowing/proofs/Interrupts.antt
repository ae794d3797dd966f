-- The second part of an interrupt has acted.
use Rattle.std.proofs.Common.{◌≡◌, ◌<◌, ◌≤◌, ℕ, zero, suc, ◌+◌, ◌*◌, Bool, true, false, List, [], ◌∷◌, ◌++◌, Option, Some, None, refl, ap, sym, ◌∙◌, subst, arith}
use Rattle.std.specs.Prelude.{slice_index_or, slice_set, if◌then◌else◌}
use Rattle.pz_clock.specs.Shifts.{ShiftView, local, frozen, thawed, ShiftFits}
use Rattle.pz_nodes_shapes.specs.Rose.{root, node, none, gone, more, Map, roots, pick, with_kid, width, has_option}
use Rattle.pz_nodes_shapes.specs.Change.{Holds, BecomesOption}
use Rattle.pz_nodes_shapes.proofs.Frames.{worked, put_back}
use Rattle.pz_classes_code.specs.declared.step.Step as lying
use Rattle.pz_classes_code.specs.StepView as step
use Rattle.pz_rules.specs.pz_state.Marks.{Seen, changed}
use Rattle.pz_rules.specs.Terms.{Step, Term, done, idle, handling, frames_in, term_at, count}
use Rattle.pz_rules.specs.Settings.{Process, left_by, Home}
use Rattle.pz_rules.specs.Opening.{opened}
use Rattle.pz_rules.specs.Leaving.{replaced, is_done, around, handled}
use Rattle.pz_rules.specs.Becoming.{Became}
use Rattle.pz_tree_nodes.specs.pz_tree_standing.FrameCounts.{lost, gained}
use Rattle.pz_tree_nodes.specs.pz_tree_standing.Heads as heads
use Rattle.pz_tree_nodes.specs.pz_tree_standing.Heads.{inner_clock, inner_frame}
use Rattle.pz_tree_nodes.specs.pz_tree_standing.Standing.{HeadFits}
use Rattle.pz_tree_nodes.specs.pz_tree_standing.Whole.{HasParts}
use Rattle.pz_tree_nodes.specs.declared.kept.Kept.{Kept}
use Rattle.pz_tree_nodes.specs.declared.node.Head.TheVariants as kind
use Rattle.pz_tree_nodes.specs.declared.node.What.{What}
use Rattle.pz_tree_nodes.specs.Keeping.{joined as kept_joined, raised}
use Rattle.pz_tree_nodes.specs.devices.Leaves.{second_alone}
use Rattle.pz_tree_nodes.specs.View.{Plant, Plants, shapes_of, term_in, term_in_option}
use Rattle.pz_tree_nodes.specs.Planting.{nodes_of, root_of, Planted}
use Rattle.pz_rules.specs.Short.{IsShort}
use Rattle.pz_tree_regrowing.specs.Costs.{beside, made, if_done}
use Rattle.pz_tree_regrowing.specs.devices.Keeping.{kept_at, kept_in, kept_behind}
use Rattle.pz_tree_regrowing.specs.devices.Levels.{KidsTended, kid_terms, before, after, there, IsWritten, interrupt, ResumeRule, SuspendRule, SecondRule, ChangingRule}
use Rattle.pz_tree_regrowing.proofs.LocalClocks.{frozen_fits, frozen_local, thawed_within, thawed_local}
use Rattle.pz_tree_regrowing.proofs.Kids.{replaced_there, width_seen, width_with_kid, width_terms, picked_root, kid_terms_with, same_kid_terms, roots_with_kid, with_kid_tended, same_tended, kept_read}
use Rattle.pz_tree_regrowing.proofs.Leaving.{handled_stays}
use Rattle.pz_tree_regrowing.proofs.Shorts.{around_short}
use Rattle.pz_tree_regrowing.proofs.Tending.{node_tended}
use Rattle.pz_tree_regrowing.proofs.ByForm.{first_stays, few_read}
use Rattle.pz_tree_regrowing.proofs.Finishing.{append_none, key_done, key_undone, kept_over}

-- what is so of an interrupt, whether its first part runs or stands still

fits_of : (runs : Bool) (again : Step) (s : ShiftView) (c : ℕ) → HeadFits (interrupt runs again s) c → ShiftFits s c
fits_of true again s c h = h.0
fits_of false again s c h = h.0

two_of : (runs : Bool) (again : Step) (s : ShiftView) (c : ℕ) (ps : Plants) → HasParts (interrupt runs again s) (shapes_of ps) → width ps ≡ 2
two_of true again s c ps h = sym (width_seen ps) ∙ h
two_of false again s c ps h = sym (width_seen ps) ∙ h

kids_of : (runs : Bool) (again : Step) (s : ShiftView) (f c : ℕ) (ps : Plants) → KidsTended (inner_frame (interrupt runs again s) f) (interrupt runs again s) c 0 ps → KidsTended f (interrupt runs again s) c 0 ps
kids_of true again s f c ps h = h
kids_of false again s f c ps h = h

around_of : (runs : Bool) (again : Step) (s : ShiftView) (home : Home) (f c : ℕ) (state : Rattle.pz_rules.specs.pz_state.States.StateView) (ps : Plants) (t : Term)
    → around home f state (before (interrupt runs again s) c ps 1 t) 1 (after (interrupt runs again s) c ps 1)
    ≡ handled home state (term_at (replaced (kid_terms (interrupt runs again s) c ps) 1 t) 0) again (after (interrupt runs again s) c ps 1)
around_of true again s home f c state ps t = refl
around_of false again s home f c state ps t = refl

lost_of : (runs : Bool) (again : Step) (s : ShiftView) (c : ℕ) (ps : Plants) (t : Term) → lost (before (interrupt runs again s) c ps 1 t) 1 (after (interrupt runs again s) c ps 1) ≡ []
lost_of true again s c ps t = refl
lost_of false again s c ps t = refl

made_of : (runs : Bool) (again : Step) (s : ShiftView) (home : Home) (c : ℕ) (state : Rattle.pz_rules.specs.pz_state.States.StateView) (ps : Plants) (t : Term)
    → made home state (before (interrupt runs again s) c ps 1 t) 1 (after (interrupt runs again s) c ps 1) ≡ if_done (after (interrupt runs again s) c ps 1) (nodes_of (opened home again state).term)
made_of true again s home c state ps t = refl
made_of false again s home c state ps t = refl

gained_of : (runs : Bool) (again : Step) (s : ShiftView) (home : Home) (c : ℕ) (state : Rattle.pz_rules.specs.pz_state.States.StateView) (ps : Plants) (t : Term)
    → gained home state (before (interrupt runs again s) c ps 1 t) 1 (after (interrupt runs again s) c ps 1) ≡ (if is_done (after (interrupt runs again s) c ps 1) then frames_in (opened home again state).term else [])
gained_of true again s home c state ps t = refl
gained_of false again s home c state ps t = refl

-- the clocks below, where that of the first part shows the same
clocks_from : (runs : Bool) (again : Step) (s : ShiftView) (c : ℕ) (g : heads.Head) → inner_clock g 0 c ≡ local s c → ((j : ℕ) → inner_clock g (suc j) c ≡ c) → (j : ℕ) → inner_clock (interrupt runs again s) j c ≡ inner_clock g j c
clocks_from true again s c g first others zero = sym first
clocks_from true again s c g first others (suc j) = sym (others j)
clocks_from false again s c g first others zero = sym first
clocks_from false again s c g first others (suc j) = sym (others j)

-- ------------------------------------------------------------ it is not done

pub suspended : (c k : ℕ) (again : lying.Step) (shift now : ShiftView) (keys : List (Option ℕ)) (m n : Map What) (first second kept : Kept) (old mid last new : ℕ)
    → (ShiftFits shift c → now ≡ frozen shift c)
    → first ≡ kept_in m (slice_index_or keys 0 None) → second ≡ kept_in m (slice_index_or keys 1 None) → kept ≡ raised (second_alone first second)
    → ((m k ≡ None → ⊥) → IsWritten m n k (kind.Handling again now) keys kept)
    → mid ≡ old + there (slice_index_or keys 0 None) → last ≡ mid + there (slice_index_or keys 1 None) → new ≡ last + 1
    → SuspendRule c k (step.view again) shift keys (Some k) m n old new
suspended c k again shift now keys m n first second kept old mid last new freezes begins read keeps written tick tock tack some runs home f s g fresh m0 was ps t hand e w may time =
    let h = interrupt runs (step.view again) shift in
    let new_head = heads.handling (step.view again) now in
    let fits = fits_of runs (step.view again) shift c hand.fits in
    let two = two_of runs (step.view again) shift c ps hand.parts in
    let kids = kids_of runs (step.view again) shift f c ps hand.tended in
    let is_now : frozen shift c ≡ now = sym (freezes fits) in
    let same : (j : ℕ) → inner_clock h j c ≡ inner_clock new_head j c = clocks_from runs (step.view again) shift c new_head (ap (λ z. local z c) (sym is_now) ∙ sym (frozen_local shift c)) (λ j. refl) in
    let undone = key_undone f h c ps 1 kids (λ q. some (ap (λ z. slice_index_or z 1 None) (sym e) ∙ q)) in
    kept_over home f c k h 1 m n s g fresh old new (kind.Handling again now) keys kept m0 was ps t hand.holds e
    (width_seen ps ∙ two) (subst (λ z. HeadFits (heads.handling (step.view again) z) c) is_now (frozen_fits shift c fits, refl)) (same_tended f h new_head c same 0 ps kids) tt
    (written hand.holds.there)
    (keeps ∙ (λ i. raised (second_alone ((begins ∙ ap (λ z. kept_in m (slice_index_or z 0 None)) (sym e) ∙ kept_read m ps 0 hand.holds.stand) i)
    ((read ∙ ap (λ z. kept_in m (slice_index_or z 1 None)) (sym e) ∙ kept_read m ps 1 hand.holds.stand) i))))
    (around_of runs (step.view again) shift home f c s.held ps t
    ∙ handled_stays home s.held (term_at (replaced (kid_terms h c ps) 1 t) 0) (step.view again) (after h c ps 1) undone
    ∙ ap (λ z. left_by s.held (handling z (after h c ps 1) (step.view again))) (first_stays h c ps two t)
    ∙ ap (λ ts. left_by s.held (handling (term_at ts 0) (term_at ts 1) (step.view again))) (same_kid_terms h new_head c same 0 ps))
    (lost_of runs (step.view again) shift c ps t)
    (gained_of runs (step.view again) shift home c s.held ps t ∙ ap (λ b. if b then frames_in (opened home (step.view again) s.held).term else []) undone)
    (more (few_read (slice_index_or keys 0 None) (slice_index_or keys 1 None) old mid last new tick tock tack)) time
  where
    more : new ≤ old + (4 + 0) → new ≤ old + (4 + beside (before (interrupt runs (step.view again) shift) c ps 1 t) 1)
    more q = omega (arith, q)

-- ------------------------------------------------------------ it is done: it stands open afresh

pub resumed : (home : Home) (c k : ℕ) (again : lying.Step) (shift now : ShiftView) (first second : Option ℕ) (keys : List (Option ℕ)) (m m1 n : Map What) (x : Term) (s t : Seen) (fresh grown : List ℕ) (first_kept second_kept kept : Kept) (old mid halfway last new : ℕ)
    → (ShiftFits shift c → now ≡ thawed shift c)
    → Became (opened home (step.view again) s.held) x s t → Planted m m1 c x second → grown ≡ fresh ++ frames_in x → mid ≡ old + nodes_of x
    → keys ≡ first ∷ second ∷ [] → first_kept ≡ kept_in m1 first → second_kept ≡ kept_in m1 second → kept ≡ raised (kept_joined (kept_behind now.behind first_kept) second_kept)
    → ((m1 k ≡ None → ⊥) → IsWritten m1 n k (kind.Idle again now) keys kept)
    → halfway ≡ mid + there first → last ≡ halfway + there second → new ≡ last + 1
    → ResumeRule home c k (step.view again) shift first (Some k) m n s t fresh grown old new
resumed home c k again shift now first second keys m m1 n x s t fresh grown first_kept second_kept kept old mid halfway last new thaws became planted gains made_steps is_keys read further keeps written tick tock tack runs f g m0 was ps u hand e w may time =
    let h = interrupt runs (step.view again) shift in
    let new_head = heads.idle (step.view again) now in
    let fits = fits_of runs (step.view again) shift c hand.fits in
    let two = two_of runs (step.view again) shift c ps hand.parts in
    let kids = kids_of runs (step.view again) shift f c ps hand.tended in
    let is_now : thawed shift c ≡ now = sym (thaws fits) in
    let same : (j : ℕ) → inner_clock h j c ≡ inner_clock new_head j c = clocks_from runs (step.view again) shift c new_head (ap (λ z. local z c) (sym is_now) ∙ sym (thawed_local shift c fits)) (λ j. refl) in
    let over : after h c ps 1 ≡ done = key_done h c ps 1 (ap (λ z. slice_index_or z 1 None) e) in
    let nothing : pick ps 1 ≡ None = root_none (pick ps 1) (sym (picked_root ps 1) ∙ ap (λ z. slice_index_or z 1 None) e) in
    let y = planted.plant in
    let qs = with_kid ps 1 y in
    let held : Holds m0 m1 was k qs = worked m0 m m1 was k ps 1 y w hand.holds (subst (λ z. BecomesOption m m1 (has_option z) y) (sym nothing) planted.made) in
    let roots_are : roots qs ≡ keys = roots_with_kid ps 1 y ∙ (λ i. slice_set (e i) 1 (planted.under i)) ∙ sym is_keys in
    let kids_now : KidsTended f new_head c 0 qs = with_kid_tended f new_head c 0 ps 1 y (same_tended f h new_head c same 0 ps kids) (planted.tended f) in
    let ts = kid_terms new_head c ps in
    let terms_now : kid_terms new_head c qs ≡ replaced ts 1 (term_in_option c y) = kid_terms_with new_head c ps 1 y in
    let same_terms : kid_terms h c ps ≡ ts = same_kid_terms h new_head c same 0 ps in
    let first_term : term_at (kid_terms new_head c qs) 0 ≡ term_at (replaced (kid_terms h c ps) 1 u) 0 =
    ap (λ z. term_at z 0) terms_now ∙ first_stays new_head c ps two (term_in_option c y) ∙ ap (λ z. term_at z 0) (sym same_terms) ∙ sym (first_stays h c ps two u) in
    let second_term : term_at (kid_terms new_head c qs) 1 ≡ (opened home (step.view again) s.held).term =
    ap (λ z. term_at z 1) terms_now ∙ replaced_there ts 1 (term_in_option c y) (let q : 1 < count ts = omega (arith, width_terms new_head c 0 ps, two) in q) ∙ sym planted.means ∙ became.term in
    let opens : around home f s.held (before h c ps 1 u) 1 (after h c ps 1) ≡ handled home s.held (term_at (replaced (kid_terms h c ps) 1 u) 0) (step.view again) done =
    around_of runs (step.view again) shift home f c s.held ps u ∙ ap (handled home s.held (term_at (replaced (kid_terms h c ps) 1 u) 0) (step.view again)) over in
    let z : What = record { head = kind.Idle again now; kept = kept } in
    let put = written held.there in
    let fits_now : HeadFits new_head c = subst (λ v. HeadFits (heads.idle (step.view again) v) c) is_now (thawed_within shift c fits, refl) in
    let kept_is : kept ≡ raised (kept_joined (kept_behind now.behind (kept_at qs 0)) (kept_at qs 1)) =
    keeps ∙ (λ i. raised (kept_joined (kept_behind now.behind ((read ∙ ap (λ v. kept_in m1 (slice_index_or v 0 None)) (sym is_keys ∙ sym roots_are) ∙ kept_read m1 qs 0 held.stand) i)) ((further ∙ ap (λ v. kept_in m1 (slice_index_or v 1 None)) (sym is_keys ∙ sym roots_are) ∙ kept_read m1 qs 1 held.stand) i))) in
    let size : nodes_of x ≡ made home s.held (before h c ps 1 u) 1 (after h c ps 1) =
    ap nodes_of became.term ∙ ap (λ v. if_done v (nodes_of (opened home (step.view again) s.held).term)) (sym over) ∙ sym (made_of runs (step.view again) shift home c s.held ps u) in
    let term_is : idle (term_at (kid_terms new_head c qs) 0) (term_at (kid_terms new_head c qs) 1) (step.view again) ≡ (around home f s.held (before h c ps 1 u) 1 (after h c ps 1)).term =
    (λ i. idle (first_term i) (second_term i) (step.view again)) ∙ ap (λ (q : Process). q.term) (sym opens) in
    let short : IsShort (term_in c (node k z qs)) = subst IsShort (sym term_is) (around_short home s.held f (before h c ps 1 u) 1 (after h c ps 1) time.short time.part) in
    record {
      plant = Some (node k z qs);
      under = refl;
      becomes = put_back m0 m1 n was k z qs held (put.written ∙ ap (λ v. Some (record { what = z; kids = v })) (sym roots_are)) put.others;
      tended = node_tended f c k z qs (width_seen qs ∙ width_with_kid ps 1 y ∙ two) fits_now kids_now tt kept_is time.room short;
      means = record {
        term = term_is;
        state = became.state ∙ ap (λ (q : Process). changed s q.state) (sym opens);
      };
      lost = sym (append_none g) ∙ ap (λ v. g ++ v) (sym (lost_of runs (step.view again) shift c ps u));
      gained = gains ∙ ap (λ v. fresh ++ frames_in v) became.term ∙ ap (λ v. fresh ++ (if is_done v then frames_in (opened home (step.view again) s.held).term else [])) (sym over)
          ∙ ap (λ v. fresh ++ v) (sym (gained_of runs (step.view again) shift home c s.held ps u));
      ticks = few first second tick tock size;
    }
  where
    root_none : (y : Option Plant) → root_of y ≡ None → y ≡ None
    root_none None r = refl
    root_none (Some p) r = absurd cc

    few : (a b : Option ℕ) → halfway ≡ mid + there a → last ≡ halfway + there b → nodes_of x ≡ made home s.held (before (interrupt runs (step.view again) shift) c ps 1 u) 1 (after (interrupt runs (step.view again) shift) c ps 1)
        → new ≤ old + (4 + beside (before (interrupt runs (step.view again) shift) c ps 1 u) 1 + made home s.held (before (interrupt runs (step.view again) shift) c ps 1 u) 1 (after (interrupt runs (step.view again) shift) c ps 1)
        + 2 * Rattle.pz_tree_regrowing.specs.Costs.dropped (before (interrupt runs (step.view again) shift) c ps 1 u) 1 (after (interrupt runs (step.view again) shift) c ps 1))
    few None None p q r = omega (arith, p, q, r, made_steps, tack)
    few None (Some b) p q r = omega (arith, p, q, r, made_steps, tack)
    few (Some a) None p q r = omega (arith, p, q, r, made_steps, tack)
    few (Some a) (Some b) p q r = omega (arith, p, q, r, made_steps, tack)

-- ------------------------------------------------------------ either

two_keys : (ps : Plants) (keys : List (Option ℕ)) → width ps ≡ 2 → roots ps ≡ keys → roots ps ≡ slice_index_or keys 0 None ∷ (slice_index_or keys 1 None ∷ [])
two_keys ps keys p e = by ps p ∙ ap (λ z. slice_index_or z 0 None ∷ (slice_index_or z 1 None ∷ [])) e
  where
    last : (qs : Plants) → width qs ≡ 1 → roots qs ≡ slice_index_or (roots qs) 0 None ∷ []
    last none q = absurd (omega (arith, q))
    last (gone none) q = refl
    last (more s none) q = refl
    last (gone (gone ss)) q = absurd (omega (arith, q))
    last (gone (more t ss)) q = absurd (omega (arith, q))
    last (more s (gone ss)) q = absurd (omega (arith, q))
    last (more s (more t ss)) q = absurd (omega (arith, q))

    by : (qs : Plants) → width qs ≡ 2 → roots qs ≡ slice_index_or (roots qs) 0 None ∷ (slice_index_or (roots qs) 1 None ∷ [])
    by none q = absurd (omega (arith, q))
    by (gone ss) q = ap (λ z. None ∷ z) (last ss (omega (arith, q)))
    by (more s ss) q = ap (λ z. Some (root s) ∷ z) (last ss (omega (arith, q)))

pub second_done : (home : Home) (c k : ℕ) (again : Step) (shift : ShiftView) (keys : List (Option ℕ)) (first out : Option ℕ) (m n : Map What) (s t : Seen) (fresh grown : List ℕ) (old new : ℕ)
    → first ≡ slice_index_or keys 0 None → slice_index_or keys 1 None ≡ None → ResumeRule home c k again shift first out m n s t fresh grown old new → SecondRule home c k again shift keys out m n s t fresh grown old new
second_done home c k again shift keys first out m n s t fresh grown old new is over rule runs f g m0 was ps u hand e w may time =
    rule runs f g m0 was ps u hand (two_keys ps keys (two_of runs again shift c ps hand.parts) e ∙ (λ i. sym is i ∷ (over i ∷ []))) w may time

-- of one whose first part ran
pub idle_second : (home : Home) (c k number : ℕ) (again : Step) (shift : ShiftView) (keys : List (Option ℕ)) (out : Option ℕ) (m n : Map What) (s t : Seen) (fresh grown : List ℕ) (old new : ℕ)
    → (number ≡ 0 → ⊥) → SecondRule home c k again shift keys out m n s t fresh grown old new → ChangingRule home c k (heads.idle again shift) keys number out m n s t fresh grown old new
idle_second home c k zero again shift keys out m n s t fresh grown old new other rule f g m0 was ps u hand e w may time = absurd (other refl)
idle_second home c k (suc zero) again shift keys out m n s t fresh grown old new other rule f g m0 was ps u hand e w may time = rule true f g m0 was ps u hand e w may time
idle_second home c k (suc (suc i)) again shift keys out m n s t fresh grown old new other rule f g m0 was ps u hand e w may time = absurd (omega (arith, may))
