-- Nodes in which nothing wakes: they stay as they are, and are right.
use Rattle.std.proofs.Common.{◌≡◌, ◌+◌, ◌||◌, eqb, ℕ, suc, Bool, true, false, Option, Some, None, Result, Ok, Err, refl, ap, sym, ◌∙◌, subst, arith}
use Rattle.std.specs.Prelude.{map}
use Rattle.pz_classes_code.specs.pz_syntax.Statements as statement
use Rattle.pz_tree_refreshing.specs.pz_eval_rules.Clocks.{DataIsTimeless}
use Rattle.pz_nodes_shapes.specs.Rose.{node, none, gone, more, Map, payload, Stands}
use Rattle.pz_nodes_shapes.proofs.Frames.{not_both}
use Rattle.pz_tree_refreshing.specs.pz_offer.declared.summary.Summary.{Summary}
use Rattle.pz_tree_refreshing.specs.pz_offer.declared.trouble.Trouble.{Trouble}
use Rattle.pz_tree_refreshing.specs.pz_rules.Settings.{Context}
use Rattle.pz_tree_refreshing.specs.pz_rules.Terms.{Step, Term, done, leaf, wait, sequence, parallel, select, guarded, frame, abort, idle, handling, Terms, no_terms, and, term_at}
use Rattle.pz_tree_refreshing.specs.pz_rules.devices.Found.{tested}
use Rattle.pz_tree_refreshing.specs.pz_rules.devices.Passing.{passed, passed_all, if_open}
use Rattle.pz_tree_refreshing.specs.pz_rules.devices.Walk.{under, behind, active_parts}
use Rattle.pz_tree_refreshing.specs.pz_tree_standing.Steady.{later, StatementIsSteady, Steady, AreSteady}
use Rattle.pz_tree_refreshing.specs.pz_tree_standing.Summaries.{summary_of}
use Rattle.pz_tree_refreshing.specs.pz_tree_standing.Woken.{any_part, begins, is_clocked, IsAfter}
use Rattle.pz_tree_refreshing.specs.pz_tree_standing.devices.SummaryLaws.{TestIsSteady}
use Rattle.pz_tree_refreshing.proofs.pz_tree_standing_proofs.Unasked.{or_neither}
use Rattle.pz_tree_refreshing.specs.pz_tree_standing.Heads.{Head, inner_clock, inner_frame}
use Rattle.pz_tree_refreshing.specs.pz_tree_standing.Standing.{terms_of, HeadFits, Fits, FitAll}
use Rattle.pz_tree_refreshing.specs.pz_tree_standing.Reached.{reaches}
use Rattle.pz_tree_refreshing.specs.pz_tree_standing.Right.{Right}
use Rattle.pz_tree_refreshing.specs.pz_tree_standing.Calm.{Calm, CalmAll}
use Rattle.pz_tree_refreshing.specs.pz_tree_standing.devices.Laws.{StillRightComputed, StillSoundComputed}
use Rattle.pz_tree_refreshing.proofs.pz_tree_standing_proofs.Passing.{clock_goes, time_passes}
use Rattle.pz_tree_refreshing.proofs.pz_tree_standing_proofs.Still.{kid_steady}
use Rattle.pz_tree_refreshing.specs.pz_tree_nodes.declared.kept.Kept.{Kept}
use Rattle.pz_tree_refreshing.specs.pz_tree_nodes.declared.node.What.{What}
use Rattle.pz_tree_refreshing.specs.pz_tree_nodes.Keeping.{HasFlags, any_term}
use Rattle.pz_tree_refreshing.specs.pz_tree_nodes.View.{Plant, Plants, head_view, shape_of, shapes_of, term_in}
use Rattle.pz_tree_refreshing.specs.pz_tree_nodes.Fresh.{Flagged, AllFlagged}
use Rattle.pz_tree_refreshing.specs.pz_tree_nodes.Laws.{UnwokenAreCalm, UnwokenAreSteady}
use Rattle.pz_tree_refreshing.proofs.pz_tree_nodes_proofs.Wakings.{in_under, in_two, in_children}
use Rattle.pz_tree_refreshing.specs.pz_rules.Short.{IsShort, AreShort}
use Rattle.pz_tree_refreshing.specs.pz_tree_standing.Soon.{IsSoon}
use Rattle.pz_tree_refreshing.specs.Refreshing.{Timely, AllTimely}
use Rattle.pz_tree_elapsing.specs.Waking.{wakes, is_due}
use Rattle.pz_tree_elapsing.specs.Elapsing.{MayElapse, IsNotBefore}
use Rattle.pz_tree_elapsing.specs.devices.Levels.{NodeElapsed}
use Rattle.pz_tree_elapsing.proofs.Shorts.{unstarted_soon}

-- ---------------------------------------------------------- what may wake in a steady term

statement_stays : (a : Context) (d f : ℕ) (s : Step) → StatementIsSteady s → passed a d f (leaf s) ≡ leaf s
statement_stays a d f (statement.skip at) h = refl
statement_stays a d f (statement.delay at e) h = absurd h
statement_stays a d f (statement.bracketed at ts) h = refl
statement_stays a d f (statement.block at es) h = refl
statement_stays a d f (statement.guarded at e t) h = refl
statement_stays a d f (statement.parallel at bs) h = refl
statement_stays a d f (statement.select at bs) h = refl
statement_stays a d f (statement.conditional at e ts other) h = refl
statement_stays a d f (statement.repeated at e ts) h = refl
statement_stays a d f (statement.abort at ts t) h = refl
statement_stays a d f (statement.interrupt at ts t) h = refl
statement_stays a d f (statement.send at port name args after) h = refl
statement_stays a d f (statement.receive at port name into condition after) h = refl
statement_stays a d f (statement.call at method args results) h = refl
statement_stays a d f (statement.assignment at x e) h = refl
statement_stays a d f (statement.value at e) h = refl

begins_later : (a : Context) (d f : ℕ) (t : Term) → Steady a d f t → begins (passed a d f t) ≡ begins t
begins_later a d f done h = refl
begins_later a d f (leaf s) h = ap begins (statement_stays a d f s h)
begins_later a d f (wait left at) h = refl
begins_later a d f (sequence t rest) h = refl
begins_later a d f (parallel ts) h = refl
begins_later a d f (select ts) h = refl
begins_later a d f (guarded test at t) h = refl
begins_later a d f (frame number inputs results t) h = refl
begins_later a d f (abort t u) h = refl
begins_later a d f (idle t u again) h = refl
begins_later a d f (handling t u again) h = refl

clocked_later : (a : Context) (d f : ℕ) (t : Term) → Steady a d f t → is_clocked (passed a d f t) ≡ is_clocked t
clocked_later a d f done h = refl
clocked_later a d f (leaf s) h = ap is_clocked (statement_stays a d f s h)
clocked_later a d f (wait left at) h = refl
clocked_later a d f (sequence t rest) h = refl
clocked_later a d f (parallel ts) h = refl
clocked_later a d f (select ts) h = refl
clocked_later a d f (guarded test at t) h = refl
clocked_later a d f (frame number inputs results t) h = refl
clocked_later a d f (abort t u) h = refl
clocked_later a d f (idle t u again) h = refl
clocked_later a d f (handling t u again) h = refl

module _ (tests : TestIsSteady) (a : Context) (d : ℕ) (methods : DataIsTimeless a.setting.model) where
  -- active parts of a sort that is the same later
  module _ (q : Term → Bool) (same : (f : ℕ) (t : Term) → Steady a d f t → q (passed a d f t) ≡ q t) where
    abbrev found : Context → ℕ → Term → Bool
    found b f t = any_part q (active_parts b f t)

    under_later : (i f : ℕ) (x t : Term) → found (later a d) f x ≡ found a f t → any_part q (map (under i) (active_parts (later a d) f x)) ≡ any_part q (map (under i) (active_parts a f t))
    under_later i f x t e = in_under q i (active_parts (later a d) f x) ∙ e ∙ sym (in_under q i (active_parts a f t))

    gate_later : (f : ℕ) (r : Result Bool Trouble) (x t : Term) → (r ≡ Ok true → found (later a d) f x ≡ found a f t)
        → any_part q (behind r (map (under 0) (active_parts (later a d) f (if_open r x t)))) ≡ any_part q (behind r (map (under 0) (active_parts a f t)))
    gate_later f (Ok true) x t e = under_later 0 f x t (e refl)
    gate_later f (Ok false) x t e = refl
    gate_later f (Err u) x t e = refl

    mutual
      found_later : (f : ℕ) (t : Term) → Steady a d f t → found (later a d) f (passed a d f t) ≡ found a f t
      found_later f done h = refl
      found_later f (leaf s) h = ap (found (later a d) f) (statement_stays a d f s h)
      found_later f (wait left at) h = ap (λ b. b || false) (same f (wait left at) h)
      found_later f (sequence t rest) h = λ i. same f (sequence t rest) h i || under_later 0 f (passed a d f t) t (found_later f t h) i
      found_later f (parallel ts) h = λ i. same f (parallel ts) h i || (in_children q (later a d) f 0 (passed_all a d f ts) ∙ all_later f ts h ∙ sym (in_children q a f 0 ts)) i
      found_later f (select ts) h = λ i. same f (select ts) h i || (in_children q (later a d) f 0 (passed_all a d f ts) ∙ all_later f ts h ∙ sym (in_children q a f 0 ts)) i
      found_later f (guarded test at t) h = λ i. same f (guarded test at t) h i
          || (ap (λ r. any_part q (behind r (map (under 0) (active_parts (later a d) f (if_open (tested a f at test) (passed a d f t) t))))) (tests a d f at test methods h.0)
          ∙ gate_later f (tested a f at test) (passed a d f t) t (λ e. found_later f t (h.1 e))) i
      found_later f (frame number inputs results t) h = λ i. same f (frame number inputs results t) h i || under_later 0 number (passed a d number t) t (found_later number t h) i
      found_later f (abort t u) h = λ i. same f (abort t u) h i
          || (in_two q (active_parts (later a d) f (passed a d f t)) (active_parts (later a d) f (passed a d f u)) ∙ (λ j. found_later f t h.0 j || found_later f u h.1 j) ∙ sym (in_two q (active_parts a f t) (active_parts a f u))) i
      found_later f (idle t u again) h = λ i. same f (idle t u again) h i
          || (in_two q (active_parts (later a d) f (passed a d f t)) (active_parts (later a d) f (passed a d f u)) ∙ (λ j. found_later f t h.0 j || found_later f u h.1 j) ∙ sym (in_two q (active_parts a f t) (active_parts a f u))) i
      found_later f (handling t u again) h = λ i. same f (handling t u again) h i || under_later 1 f (passed a d f u) u (found_later f u h) i

      all_later : (f : ℕ) (ts : Terms) → AreSteady a d f ts → any_term (found (later a d) f) (passed_all a d f ts) ≡ any_term (found a f) ts
      all_later f no_terms h = refl
      all_later f (and t ts) h = λ i. found_later f t h.0 i || all_later f ts h.1 i

  flags_later : (f : ℕ) (t : Term) (k : Kept) → Steady a d f t → HasFlags a f t k → HasFlags (later a d) f (passed a d f t) k
  flags_later f t k h w = record {
    starts = w.starts ∙ sym (found_later begins (begins_later a d) f t h);
    clocked = w.clocked ∙ sym (found_later is_clocked (clocked_later a d) f t h);
  }

  -- ---------------------------------------------------------- nodes

  abbrev StayingSteady : ℕ → Head → ℕ → ℕ → Plants → Type 0
  StayingSteady f h c i ps = (j : ℕ) → reaches h (i + j) ≡ true → Steady a d f (term_at (terms_of h c i (shapes_of ps)) j)

  next : (f : ℕ) (h : Head) (c i : ℕ) (ps qs : Plants) → ((j : ℕ) → term_at (terms_of h c i (shapes_of ps)) (suc j) ≡ term_at (terms_of h c (suc i) (shapes_of qs)) j) → StayingSteady f h c i ps → StayingSteady f h c (suc i) qs
  next f h c i ps qs e st j r = subst (Steady a d f) (e j) (st (suc j) (let n : suc i + j ≡ i + suc j = omega arith in subst (λ z. reaches h z ≡ true) n r))

  mutual
    flagged_later : (f c : ℕ) (p : Plant) → Fits c (shape_of p) → Calm a f (shape_of p) → Steady a d f (term_in c p) → Flagged a f c p → Flagged (later a d) f (c + d) p
    flagged_later f c (node k x ps) fits calm st w =
        let h = head_view x.head in (
          subst (λ t. HasFlags (later a d) f t x.kept) (sym (time_passes a d f c (shape_of (node k x ps)) fits calm)) (flags_later f (term_in c (node k x ps)) x.kept st w.0),
          flagged_kids (inner_frame h f) h c 0 ps fits.0 fits.1 calm.2
              (λ j r. kid_steady a d f h c (terms_of h c 0 (shapes_of ps)) calm.1 st j (let n : 0 + j ≡ j = omega arith in subst (λ z. reaches h z ≡ true) n r)) w.1,
        )

    flagged_kids : (f : ℕ) (h : Head) (c i : ℕ) (ps : Plants) → HeadFits h c → FitAll h c i (shapes_of ps) → CalmAll a f h i (shapes_of ps) → StayingSteady f h c i ps → AllFlagged a f h c i ps → AllFlagged (later a d) f h (c + d) i ps
    flagged_kids f h c i none head fits calm st w = tt
    flagged_kids f h c i (gone ps) head fits calm st w = flagged_kids f h c (suc i) ps head fits calm (next f h c i (gone ps) ps (λ j. refl) st) w
    flagged_kids f h c i (more p ps) head fits calm st w = (
      (λ r. subst (λ z. Flagged (later a d) f z p) (sym (clock_goes h i c d head r))
          (flagged_later f (inner_clock h i c) p fits.0 (calm.0 r) (st 0 (let n : i ≡ i + 0 = omega arith in subst (λ z. reaches h z ≡ true) n r)) (w.0 r))),
      flagged_kids f h c (suc i) ps head fits.1 calm.1 (next f h c i (more p ps) ps (λ j. refl) st) w.1,
    )

-- ---------------------------------------------------------- nothing wakes

not_equal : (m n : ℕ) → eqb m n ≡ false → m ≡ n → ⊥
not_equal m n e q = let z : eqb m n ≡ true = grind arith in not_both (eqb m n) z e

past : (c : ℕ) (due : Option ℕ) → IsNotBefore c due → is_due c due ≡ false → IsAfter c due
past c None h e = tt
past c (Some due) h e = let g : due ≡ c → ⊥ = not_equal due c e in omega (arith, h, g)

gate_short : (r : Result Bool Trouble) (x t : Term) → (r ≡ Ok true → IsShort x) → IsShort t → IsShort (if_open r x t)
gate_short (Ok true) x t p q = p refl
gate_short (Ok false) x t p q = q
gate_short (Err u) x t p q = q

mutual
  short_later : (a : Context) (d f : ℕ) (t : Term) → Steady a d f t → IsShort t → IsShort (passed a d f t)
  short_later a d f done st h = tt
  short_later a d f (leaf s) st h = subst IsShort (sym (statement_stays a d f s st)) tt
  short_later a d f (wait left at) st h = omega (arith, h)
  short_later a d f (sequence t rest) st h = short_later a d f t st h
  short_later a d f (parallel ts) st h = shorts_later a d f ts st h
  short_later a d f (select ts) st h = shorts_later a d f ts st h
  short_later a d f (guarded test at t) st h = gate_short (tested a f at test) (passed a d f t) t (λ e. short_later a d f t (st.1 e) h) h
  short_later a d f (frame number inputs results t) st h = short_later a d number t st h
  short_later a d f (abort t u) st h = (short_later a d f t st.0 h.0, short_later a d f u st.1 h.1)
  short_later a d f (idle t u again) st h = (short_later a d f t st.0 h.0, short_later a d f u st.1 h.1)
  short_later a d f (handling t u again) st h = (h.0, short_later a d f u st h.1)

  shorts_later : (a : Context) (d f : ℕ) (ts : Terms) → AreSteady a d f ts → AreShort ts → AreShort (passed_all a d f ts)
  shorts_later a d f no_terms st h = tt
  shorts_later a d f (and t ts) st h = (short_later a d f t st.0 h.0, shorts_later a d f ts st.1 h.1)

-- what they keep is due as soon later
soon_later : (c d : ℕ) (due : Option ℕ) → IsSoon c due → IsSoon (c + d) due
soon_later c d None h = tt
soon_later c d (Some due) h = omega (arith, h)

mutual
  timely_later : (a : Context) (d f c : ℕ) (p : Plant) → Fits c (shape_of p) → Calm a f (shape_of p) → Timely c p → Timely (c + d) p
  timely_later a d f c (node k x ps) fits calm w =
      let h = head_view x.head in (soon_later c d x.kept.summary.due w.0, timely_kids a d (inner_frame h f) h c 0 ps fits.0 fits.1 calm.2 w.1)

  timely_kids : (a : Context) (d f : ℕ) (h : Head) (c i : ℕ) (ps : Plants) → HeadFits h c → FitAll h c i (shapes_of ps) → CalmAll a f h i (shapes_of ps) → AllTimely h c i ps → AllTimely h (c + d) i ps
  timely_kids a d f h c i none head fits calm w = tt
  timely_kids a d f h c i (gone ps) head fits calm w = timely_kids a d f h c (suc i) ps head fits calm w
  timely_kids a d f h c i (more p ps) head fits calm w = (
    (λ r. subst (λ z. Timely z p) (sym (clock_goes h i c d head r)) (timely_later a d f (inner_clock h i c) p fits.0 (calm.0 r) (w.0 r))),
    timely_kids a d f h c (suc i) ps head fits.1 calm.1 w.1,
  )

top_summary : (a : Context) (f c : ℕ) (p : Plant) → Right a f c (shape_of p) → (payload p).kept.summary ≡ summary_of a c f (term_in c p)
top_summary a f c (node k x ps) r = r.0

top_flags : (a : Context) (f c : ℕ) (p : Plant) → Flagged a f c p → HasFlags a f (term_in c p) (payload p).kept
top_flags a f c (node k x ps) w = w.0

pub nothing_wakes : TestIsSteady → StillRightComputed → StillSoundComputed → UnwokenAreCalm → UnwokenAreSteady
    → (a : Context) (d : ℕ) (m : Map What) (f c : ℕ) (p : Plant) (old new : ℕ) → Stands m p → DataIsTimeless a.setting.model → MayElapse a d f c p → wakes (c + d) (payload p).kept ≡ false → new ≡ old + 1
    → NodeElapsed a d m m f c p (payload p).kept (old + 1) new
nothing_wakes tests stays_right stays_sound are_calm are_steady a d m f c p old new st methods may none_wakes tick =
    let k = (payload p).kept in
    let e = or_neither (is_due (c + d) k.summary.due) (k.starts || k.clocked) none_wakes in
    let g = or_neither k.starts k.clocked e.1 in
    let calm = are_calm a f c p may.fresh g.0 in
    let steady = are_steady a d f c p may.fresh g.0 g.1 (past (c + d) k.summary.due may.within e.0) in
    let fits = may.tended.sound.fits in
    let means : term_in (c + d) p ≡ passed a d f (term_in c p) = time_passes a d f c (shape_of p) fits calm in
    let right = stays_right a d f c (shape_of p) methods fits calm steady may.fresh.right in
    let flagged = flagged_later tests a d methods f c p fits calm steady may.fresh.flagged in
    let short = subst IsShort (sym means) (short_later a d f (term_in c p) steady may.short) in
    record {
      plant = p;
      under = refl;
      keys = λ j. refl;
      stands = st;
      only = λ j q. refl;
      means = means;
      tended = record { sound = stays_sound a d f c (shape_of p) methods calm steady may.tended.sound; marked = may.tended.marked };
      fresh = record { right = right; flagged = flagged };
      short = short;
      bare = λ q. q;
      kept = refl;
      timely = timely_later a d f c p fits calm may.timely;
      soon = subst (λ (z : Summary). IsSoon (c + d) z.due) (sym (top_summary (later a d) f (c + d) p right))
          (unstarted_soon (later a d) (c + d) f (term_in (c + d) p) (sym (top_flags (later a d) f (c + d) p flagged).starts ∙ g.0) short);
      ticks = omega (arith, tick);
    }
