-- One level, from the part inside to what is around it.
use Rattle.std.proofs.Common.{◌≡◌, ◌<◌, ◌≤◌, ℕ, zero, suc, ◌+◌, ◌-◌, ◌*◌, true, false, List, [], ◌∷◌, ◌++◌, length, append_assoc, Option, Some, None, refl, ap, sym, ◌∙◌, subst, arith}
use Rattle.std.specs.Prelude.{slice_index_or, slice_set}
use Rattle.pz_clock.specs.Shifts.{ShiftView, is_running, local, ShiftFits}
use Rattle.pz_nodes_shapes.specs.declared.node.Node.{Node}
use Rattle.pz_nodes_shapes.specs.Rose.{node, none, gone, more, Map, root, roots, pick, joined, with_kid, width, has, has_option, Stands, StandAll}
use Rattle.pz_nodes_shapes.specs.Change.{Holds}
use Rattle.pz_nodes_shapes.specs.Dropping as plain
use Rattle.pz_nodes_shapes.proofs.Frames.{pick_stands, kids_change, then_becomes, taken_in_hand, worked, touched}
use Rattle.pz_rules.specs.pz_offer.PlaceOrder.{Place}
use Rattle.pz_rules.specs.pz_state.Marks.{Seen, changed}
use Rattle.pz_rules.specs.Terms.{Step, Term, done, leaf, wait, sequence, parallel, select, guarded, frame, abort, idle, handling, Terms, no_terms, and, term_at, child, frame_in, count}
use Rattle.pz_rules.specs.Settings.{Process, left_by, Home}
use Rattle.pz_rules.specs.Leaving.{replaced, around, residual}
use Rattle.pz_rules.specs.Places.{MayActIn, MayAct}
use Rattle.pz_rules.specs.Becoming.{Became}
use Rattle.pz_tree_nodes.specs.pz_tree_standing.FrameCounts.{lost, lost_all, gained, gained_all}
use Rattle.pz_tree_nodes.specs.pz_tree_standing.Heads as heads
use Rattle.pz_tree_nodes.specs.pz_tree_standing.Heads.{inner_clock, inner_frame, formed}
use Rattle.pz_tree_nodes.specs.pz_tree_standing.Standing.{terms_of, HeadFits}
use Rattle.pz_tree_nodes.specs.pz_tree_standing.Whole.{IsNoShift, HasParts, OneInside}
use Rattle.pz_tree_nodes.specs.declared.node.Head.{Head}
use Rattle.pz_tree_nodes.specs.declared.node.What.{What}
use Rattle.pz_tree_nodes.specs.View.{Plant, Plants, head_view, shapes_of, term_in, term_in_option}
use Rattle.pz_tree_nodes.specs.Tended.{Tended, TendedOption}
use Rattle.pz_tree_nodes.specs.Planting.{EndsInTime, EndInTime, nodes_of, root_of, size_of, Planted}
use Rattle.pz_tree_regrowing.proofs.Children.{form_child, form_frame}
use Rattle.pz_tree_regrowing.specs.Costs.{beside, on_way, made, made_all, dropped, dropped_all}
use Rattle.pz_rules.specs.Short.{IsShort}
use Rattle.pz_tree_regrowing.specs.Regrowing.{Work, at_work, StandsOption, steps_for, InTime, Regrown, RegrowRule}
use Rattle.pz_tree_regrowing.specs.devices.Levels.{KidsTended, kid_terms, InHand, before, after, FinishRule, IsTaken, IsChildOf, IsShiftAt, IsNoShiftAt, ShiftRule, SecondRule, ChangingRule}
use Rattle.pz_tree_regrowing.specs.devices.Rounds.{ClearRule, ReplantRule, later_by, BareRegrowRule}
use Rattle.pz_tree_regrowing.proofs.LocalClocks.{thawed_within, thawed_local, runs_as}
use Rattle.pz_tree_regrowing.proofs.Kids.{same_node, replaced_twice, replaced_same, replaced_there, width_seen, width_with_kid, width_terms, picked_root, picked_term, picked_tended, roots_with_kid, kid_terms_with, same_parts, with_kid_tended}
use Rattle.pz_rules.proofs.Opened.{child_short, residual_short}
use Rattle.pz_tree_regrowing.proofs.Sizes.{few_nodes}
use Rattle.pz_tree_regrowing.proofs.Tending.{node_kids}
use Rattle.pz_tree_regrowing.proofs.ByForm.{one_key}
use Rattle.pz_tree_regrowing.proofs.Finishing.{append_none}

-- ------------------------------------------------------------ delays

mutual
  pub sooner_ends : (c d : ℕ) (t : Term) → c ≤ d → EndsInTime d t → EndsInTime c t
  sooner_ends c d done le h = tt
  sooner_ends c d (leaf s) le h = tt
  sooner_ends c d (wait left at) le h = omega (arith, le, h)
  sooner_ends c d (sequence t rest) le h = sooner_ends c d t le h
  sooner_ends c d (parallel ts) le h = sooner_end c d ts le h
  sooner_ends c d (select ts) le h = sooner_end c d ts le h
  sooner_ends c d (guarded test at t) le h = sooner_ends c d t le h
  sooner_ends c d (frame number inputs results t) le h = sooner_ends c d t le h
  sooner_ends c d (abort t u) le h = (sooner_ends c d t le h.0, sooner_ends c d u le h.1)
  sooner_ends c d (idle t u again) le h = (sooner_ends c d t le h.0, sooner_ends c d u le h.1)
  sooner_ends c d (handling t u again) le h = (sooner_ends c d t le h.0, sooner_ends c d u le h.1)

  sooner_end : (c d : ℕ) (ts : Terms) → c ≤ d → EndInTime d ts → EndInTime c ts
  sooner_end c d no_terms le h = tt
  sooner_end c d (and t ts) le h = (sooner_ends c d t le h.0, sooner_end c d ts le h.1)

-- ------------------------------------------------------------ the part itself

pub cleared : (m n : Map What) (key old new : ℕ) → plain.DropRule m n key old new → ClearRule m n (Some key) old new
cleared m n key old new rule None r st = absurd cc
cleared m n key old new rule (Some p) r st = rule p st (let q : root p ≡ key = cc in q)

pub nothing_cleared : (m : Map What) (old : ℕ) → ClearRule m m None old old
nothing_cleared m old None r st = (record { kept = λ j u v. refl; freed = λ j u v. absurd cc; fresh = λ j u. absurd cc }, omega arith)
nothing_cleared m old (Some p) r st = absurd cc

pub replanted : (m m1 n : Map What) (key : Option ℕ) (c : ℕ) (x : Term) (out : Option ℕ) (old mid new : ℕ) → ClearRule m m1 key old mid → Planted m1 n c x out → new ≡ mid + nodes_of x → ReplantRule m n key c x out old new
replanted m m1 n key c x out old mid new clear planted tick p f r st t =
    let a = clear p r st in
    record {
      plant = planted.plant;
      under = planted.under;
      becomes = then_becomes m m1 n (has_option p) planted.plant a.0 planted.made;
      tended = planted.tended;
      means = planted.means;
      ticks = few p t a.1;
    }
  where
    few : (p : Option Plant) → TendedOption f c p → mid ≡ old + size_of p → new ≤ old + (nodes_of x + 2 * nodes_of (term_in_option c p))
    few None t q = omega (arith, q, tick)
    few (Some p) t q = omega (arith, q, tick, few_nodes c p t.sound.whole)

pub regrown_here : (h : Home) (m n : Map What) (key : Option ℕ) (f c : ℕ) (place : Place) (x : Term) (out : Option ℕ) (s : Seen) (gathered fresh : List ℕ) (old new : ℕ) → place ≡ [] → ReplantRule m n key c x out old new
    → BareRegrowRule h key f c place x out (at_work m s gathered fresh old) (at_work n s gathered fresh new)
regrown_here h m n key f c place x out s gathered fresh old new e rule p r st t b may time =
    let o = rule p f r st t in
    subst (λ z. Regrown h f c p z x out (at_work m s gathered fresh old) (later_by 5 (at_work n s gathered fresh new))) (sym e)
    (record {
      plant = o.plant;
      under = o.under;
      becomes = o.becomes;
      tended = o.tended f;
      means = record { term = sym o.means; state = refl };
      lost = sym (append_none gathered);
      gained = sym (append_none fresh);
      ticks = omega (arith, o.ticks);
    })

pub nothing_acts : (h : Home) (m n : Map What) (key : Option ℕ) (f c i : ℕ) (place rest : Place) (x : Term) (out : Option ℕ) (a b : Work) → key ≡ None → place ≡ i ∷ rest → BareRegrowRule h key f c place x out a b
nothing_acts h m n key f c i place rest x out a b e is None r st t bare may time = absurd (subst (λ z. MayAct done z) is may).0
nothing_acts h m n key f c i place rest x out a b e is (Some p) r st t bare may time = absurd (let q : Some (root p) ≡ None = r ∙ e in cc)

-- ------------------------------------------------------------ around it

-- a child that may act is there
child_there : (h : heads.Head) (c : ℕ) (ps : Plants) (i : ℕ) → HasParts h (shapes_of ps) → IsNoShift h → MayActIn (formed h c (kid_terms h c ps)) i → i < width ps
child_there (heads.leaf s) c ps i p n m = absurd m
child_there (heads.wait due at) c ps i p n m = absurd m
child_there (heads.sequence rest) c ps i p n m = omega (arith, p, m, width_seen ps)
child_there heads.parallel c ps i p n m = omega (arith, m, width_terms heads.parallel c 0 ps)
child_there heads.select c ps i p n m = omega (arith, m, width_terms heads.select c 0 ps)
child_there (heads.guarded e at s) c ps i p n m = omega (arith, p, m, width_seen ps)
child_there (heads.frame number inputs results) c ps i p n m = omega (arith, p, m, width_seen ps)
child_there heads.abort c ps i p n m = omega (arith, p, m, width_seen ps)
child_there (heads.idle again s) c ps i p n m = omega (arith, p, m, width_seen ps)
child_there (heads.handling again s) c ps i p n m = omega (arith, p, m, width_seen ps)
child_there (heads.shifted s) c ps i p n m = absurd n

picked_stands : (m : Map What) (ps : Plants) (i : ℕ) (x : Option Plant) → pick ps i ≡ x → StandAll m ps → StandsOption m x
picked_stands m ps i None e st = tt
picked_stands m ps i (Some p) e st = pick_stands m ps i p e st

length_roots : (ps : Plants) → length (roots ps) ≡ width ps
length_roots none = refl
length_roots (gone ps) = ap suc (length_roots ps)
length_roots (more p ps) = ap suc (length_roots ps)

-- what the levels within leave goes through the level around
goes_through : (h : Home) (f : ℕ) (t : Term) (i : ℕ) (inner : Process) (s mid last : Seen) (x y z : Term) (whole : Term)
    → Became inner x s mid → y ≡ x → whole ≡ t → Became (around h f mid.held whole i y) z mid last → Became (around h f inner.state t i inner.term) z s last
goes_through h f t i inner s mid last x y z whole within is same b =
    let held : mid.held ≡ inner.state = ap (λ (v : Seen). v.held) within.state in
    let marks : mid.marks ≡ s.marks = ap (λ (v : Seen). v.marks) within.state in
    let all : around h f mid.held whole i y ≡ around h f inner.state t i inner.term = λ n. around h f (held n) (same n) i ((is ∙ within.term) n) in
    record {
      term = b.term ∙ ap (λ (v : Process). v.term) all;
      state = b.state ∙ (λ n. record { held = (all n).state; marks = marks n });
    }

pub level_regrown : (h : Home) (m m1 m2 n : Map What) (key : ℕ) (spot_key : Option ℕ) (f c i : ℕ) (place rest : Place) (x : Term) (below left out : Option ℕ) (inner_f inner_c : ℕ) (s mid last : Seen) (gathered found all fresh further grown : List ℕ) (old begun back taken new : ℕ) (head : Head) (keys : List (Option ℕ))
    → spot_key ≡ Some key → place ≡ i ∷ rest
    → IsChildOf m spot_key f c i below inner_f inner_c → inner_c ≤ c → begun ≤ old + 1
    → RegrowRule h below inner_f inner_c rest x left (at_work m s gathered fresh begun) (at_work m1 mid found further back)
    → IsTaken m1 m2 key i left head keys → taken ≡ back + 1
    → FinishRule h f c key (head_view head) keys i out (at_work m2 mid found further taken) (at_work n last all grown new)
    → BareRegrowRule h spot_key f c place x out (at_work m s gathered fresh old) (at_work n last all grown new)
level_regrown h m m1 m2 n key spot_key f c i place rest x below left out inner_f inner_c s mid last gathered found all fresh further grown old begun back taken new head keys is_key is_place kid sooner begin rule take tick finish None r st t bare may time = absurd (let q : None ≡ Some key = r ∙ is_key in cc)
level_regrown h m m1 m2 n key spot_key f c i place rest x below left out inner_f inner_c s mid last gathered found all fresh further grown old begun back taken new head keys is_key is_place kid sooner begin rule take tick finish (Some (node k y ps)) r st t bare may time =
    let hv = head_view y.head in
    let p : Plant = node k y ps in
    let ts = kid_terms hv c ps in
    let whole = formed hv c ts in
    let may_act : MayActIn whole i × MayAct (child whole i) rest = subst (λ z. MayAct whole z) is_place may in
    let here : k ≡ key = (let q : Some k ≡ Some key = r ∙ is_key in cc) in
    let was : Node What = record { what = y; kids = roots ps } in
    let stood : m key ≡ Some was = ap m (sym here) ∙ st.0 in
    let found_kid = subst (λ z. IsChildOf m z f c i below inner_f inner_c) is_key kid was stood in
    let fits : HeadFits hv c = t.sound.fits.0 in
    let parts : HasParts hv (shapes_of ps) = t.sound.whole.0 in
    let kids : KidsTended (inner_frame hv f) hv c 0 ps = node_kids f c k y ps t in
    let clocked : inner_c ≡ inner_clock hv i c = found_kid.clocked fits in
    let framed : inner_f ≡ inner_frame hv f = found_kid.framed in
    let within : i < width ps = child_there hv c ps i parts bare may_act.0 in
    let q = pick ps i in
    let at_first : 0 + i ≡ i = omega arith in
    let q_tended : TendedOption inner_f inner_c q =
    subst (λ z. TendedOption z inner_c q) (sym framed) (subst (λ z. TendedOption (inner_frame hv f) z q) (ap (λ z. inner_clock hv z c) at_first ∙ sym clocked) (picked_tended (inner_frame hv f) hv c 0 ps i kids)) in
    let q_term : child whole i ≡ term_in_option inner_c q =
    form_child hv c (shapes_of ps) i parts bare ∙ picked_term hv c 0 ps i ∙ ap (λ z. term_in_option (inner_clock hv z c) q) at_first ∙ ap (λ z. term_in_option z q) (sym clocked) in
    let q_frame : frame_in whole f ≡ inner_f = sym (form_frame hv c ts f bare) ∙ sym framed in
    let below_is : root_of q ≡ below = sym (picked_root ps i) ∙ sym found_kid.key in
    let inner_short : IsShort (child whole i) = child_short whole i time.short in
    let o = rule q below_is (picked_stands m ps i q refl st.2) q_tended (subst (λ z. MayAct z rest) q_term may_act.1)
    (record { room = omega (arith, sooner, time.room); short = subst IsShort q_term inner_short; part = time.part }) in
    -- in hand
    let qs = with_kid ps i o.plant in
    let held1 : Holds m m1 (has p) k qs = worked m m m1 (has p) k ps i o.plant within (taken_in_hand m k y ps st) o.becomes in
    let same_key : m1 k ≡ m k = (kids_change m m1 ps i o.plant within o.becomes).kept k st.1 held1.outside in
    let was_same : take.was ≡ was = same_node take.was was (sym take.stood ∙ ap m1 (sym here) ∙ same_key ∙ st.0) in
    let held : Holds m m2 (has p) key qs = subst (λ z. Holds m m2 (has p) z qs) here (touched m m1 m2 (has p) k qs held1 (λ j ne. take.others j (λ e. ne (e ∙ sym here))) (λ e. take.hollow (ap m2 (sym here) ∙ e))) in
    let head_is : hv ≡ head_view head = ap (λ z. head_view z.what.head) (sym was_same) ∙ ap head_view (sym take.same) in
    let keys_are : roots qs ≡ keys =
    roots_with_kid ps i o.plant ∙ ap (slice_set (roots ps) i) o.under ∙ ap (λ z. slice_set z.kids i left) (sym was_same)
    ∙ sym (take.child (subst (λ z. i < length z.kids) (sym was_same) (let v : i < length (roots ps) = omega (arith, within, length_roots ps) in v))) in
    let o_tended : TendedOption (inner_frame hv f) (inner_clock hv (0 + i) c) o.plant =
    subst (λ z. TendedOption z (inner_clock hv (0 + i) c) o.plant) framed (subst (λ z. TendedOption inner_f z o.plant) (clocked ∙ ap (λ z. inner_clock hv z c) (sym at_first)) o.tended) in
    let in_hand : InHand m m2 (has p) f c key hv qs = record {
      holds = held;
      parts = same_parts hv (shapes_of ps) (shapes_of qs) bare (width_seen qs ∙ width_with_kid ps i o.plant ∙ sym (width_seen ps)) parts;
      fits = fits;
      tended = with_kid_tended (inner_frame hv f) hv c 0 ps i o.plant kids o_tended;
      bare = bare;
    } in
    let xs : Term = term_in_option inner_c o.plant in
    let terms_now : kid_terms hv c qs ≡ replaced ts i xs = kid_terms_with hv c ps i o.plant ∙ ap (λ z. replaced ts i (term_in_option z o.plant)) (sym clocked) in
    let before_is : before hv c qs i (term_at ts i) ≡ whole = ap (λ z. formed hv c (replaced z i (term_at ts i))) terms_now ∙ ap (formed hv c) (replaced_twice ts i xs (term_at ts i) ∙ replaced_same ts i) in
    let after_is : after hv c qs i ≡ xs = ap (λ z. term_at z i) terms_now ∙ replaced_there ts i xs (let v : i < count ts = omega (arith, within, width_terms hv c 0 ps) in v) in
    let rule_here = subst (λ z. FinishRule h f c key z keys i out (at_work m2 mid found further taken) (at_work n last all grown new)) (sym head_is) finish in
    -- all together
    let inner = residual h (frame_in whole f) (child whole i) rest (left_by s.held x) in
    let inner_is : residual h inner_f (term_in_option inner_c q) rest (left_by s.held x) ≡ inner = λ j. residual h (sym q_frame j) (sym q_term j) rest (left_by s.held x) in
    let went : Became inner xs s mid = subst (λ v. Became v xs s mid) inner_is o.means in
    let state_is : mid.held ≡ inner.state = ap (λ (v : Seen). v.held) went.state in
    let term_is : after hv c qs i ≡ inner.term = after_is ∙ went.term in
    let left_short : IsShort inner.term = residual_short h (frame_in whole f) (child whole i) rest (left_by s.held x) inner_short time.part in
    let z = rule_here m (has p) qs (term_at ts i) in_hand keys_are (let v : i < width qs = omega (arith, within, width_with_kid ps i o.plant) in v) (subst (λ v. MayActIn v i) (sym before_is) may_act.0)
    (record { room = time.room; short = subst IsShort (sym before_is) time.short; part = subst IsShort (sym term_is) left_short }) in
    subst (λ v. Regrown h f c (Some p) v x out (at_work m s gathered fresh old) (later_by 5 (at_work n last all grown new))) (sym is_place)
    (record {
      plant = z.plant;
      under = z.under;
      becomes = z.becomes;
      tended = z.tended;
      means = goes_through h f whole i inner s mid last xs (after hv c qs i) (term_in_option c z.plant) (before hv c qs i (term_at ts i)) went after_is before_is z.means;
      lost = z.lost ∙ (λ j. o.lost j ++ lost (before_is j) i (term_is j)) ∙ append_assoc gathered (lost_all h inner_f (term_in_option inner_c q) rest (left_by s.held x)) (lost whole i inner.term)
          ∙ (λ j. gathered ++ (lost_all h (sym q_frame j) (sym q_term j) rest (left_by s.held x) ++ lost whole i inner.term));
      gained = z.gained ∙ (λ j. o.gained j ++ gained h (state_is j) (before_is j) i (term_is j)) ∙ append_assoc fresh (gained_all h inner_f (term_in_option inner_c q) rest (left_by s.held x)) (gained h inner.state whole i inner.term)
          ∙ (λ j. fresh ++ (gained_all h (sym q_frame j) (sym q_term j) rest (left_by s.held x) ++ gained h inner.state whole i inner.term));
      ticks =
          let a : on_way (term_in_option inner_c q) rest ≡ on_way (child whole i) rest = ap (λ v. on_way v rest) (sym q_term) in
          let b : made_all h inner_f (term_in_option inner_c q) rest (left_by s.held x) ≡ made_all h (frame_in whole f) (child whole i) rest (left_by s.held x) = λ j. made_all h (sym q_frame j) (sym q_term j) rest (left_by s.held x) in
          let d : dropped_all h inner_f (term_in_option inner_c q) rest (left_by s.held x) ≡ dropped_all h (frame_in whole f) (child whole i) rest (left_by s.held x) = λ j. dropped_all h (sym q_frame j) (sym q_term j) rest (left_by s.held x) in
          let e : beside (before hv c qs i (term_at ts i)) i ≡ beside whole i = ap (λ v. beside v i) before_is in
          let g : made h mid.held (before hv c qs i (term_at ts i)) i (after hv c qs i) ≡ made h inner.state whole i inner.term = λ j. made h (state_is j) (before_is j) i (term_is j) in
          let k : dropped (before hv c qs i (term_at ts i)) i (after hv c qs i) ≡ dropped whole i inner.term = λ j. dropped (before_is j) i (term_is j) in
          omega (arith, begin, tick, o.ticks, z.ticks, a, b, d, e, g, k);
    })

-- a node stays under its key while a part of it becomes another, so it is found there
pub none_taken : (h : Home) (m m1 n : Map What) (key : ℕ) (spot_key : Option ℕ) (f c i : ℕ) (place rest : Place) (x : Term) (below left out : Option ℕ) (inner_f inner_c : ℕ) (s mid last : Seen) (gathered found all fresh further grown : List ℕ) (old begun back new : ℕ)
    → spot_key ≡ Some key → place ≡ i ∷ rest
    → IsChildOf m spot_key f c i below inner_f inner_c → inner_c ≤ c
    → RegrowRule h below inner_f inner_c rest x left (at_work m s gathered fresh begun) (at_work m1 mid found further back)
    → m1 key ≡ None
    → BareRegrowRule h spot_key f c place x out (at_work m s gathered fresh old) (at_work n last all grown new)
none_taken h m m1 n key spot_key f c i place rest x below left out inner_f inner_c s mid last gathered found all fresh further grown old begun back new is_key is_place kid sooner rule vacant None r st t bare may time = absurd (let q : None ≡ Some key = r ∙ is_key in cc)
none_taken h m m1 n key spot_key f c i place rest x below left out inner_f inner_c s mid last gathered found all fresh further grown old begun back new is_key is_place kid sooner rule vacant (Some (node k y ps)) r st t bare may time =
    let hv = head_view y.head in
    let whole = formed hv c (kid_terms hv c ps) in
    let may_act : MayActIn whole i × MayAct (child whole i) rest = subst (λ z. MayAct whole z) is_place may in
    let here : k ≡ key = (let q : Some k ≡ Some key = r ∙ is_key in cc) in
    let was : Node What = record { what = y; kids = roots ps } in
    let stood : m key ≡ Some was = ap m (sym here) ∙ st.0 in
    let found_kid = subst (λ z. IsChildOf m z f c i below inner_f inner_c) is_key kid was stood in
    let parts : HasParts hv (shapes_of ps) = t.sound.whole.0 in
    let clocked : inner_c ≡ inner_clock hv i c = found_kid.clocked t.sound.fits.0 in
    let within : i < width ps = child_there hv c ps i parts bare may_act.0 in
    let q = pick ps i in
    let at_first : 0 + i ≡ i = omega arith in
    let q_tended : TendedOption inner_f inner_c q =
    subst (λ z. TendedOption z inner_c q) (sym found_kid.framed) (subst (λ z. TendedOption (inner_frame hv f) z q) (ap (λ z. inner_clock hv z c) at_first ∙ sym clocked) (picked_tended (inner_frame hv f) hv c 0 ps i (node_kids f c k y ps t))) in
    let q_term : child whole i ≡ term_in_option inner_c q =
    form_child hv c (shapes_of ps) i parts bare ∙ picked_term hv c 0 ps i ∙ ap (λ z. term_in_option (inner_clock hv z c) q) at_first ∙ ap (λ z. term_in_option z q) (sym clocked) in
    let o = rule q (sym (picked_root ps i) ∙ sym found_kid.key) (picked_stands m ps i q refl st.2) q_tended (subst (λ z. MayAct z rest) q_term may_act.1)
    (record { room = omega (arith, sooner, time.room); short = subst IsShort q_term (child_short whole i time.short); part = time.part }) in
    let held : Holds m m1 (has (node k y ps)) k (with_kid ps i o.plant) = worked m m m1 (has (node k y ps)) k ps i o.plant within (taken_in_hand m k y ps st) o.becomes in
    let same_key : m1 k ≡ m k = (kids_change m m1 ps i o.plant within o.becomes).kept k st.1 held.outside in
    absurd (let e : None ≡ Some was = sym vacant ∙ ap m1 (sym here) ∙ same_key ∙ st.0 in cc)

-- ------------------------------------------------------------ by its head

pub of_form : (home : Home) (f c k : ℕ) (h g : heads.Head) (keys : List (Option ℕ)) (i : ℕ) (out : Option ℕ) (a b : Work) → g ≡ h → FinishRule home f c k h keys i out a b → FinishRule home f c k g keys i out a b
of_form home f c k h g keys i out a b e rule = subst (λ z. FinishRule home f c k z keys i out a b) (sym e) rule

-- of one child
pub one_rule : (home : Home) (f c k : ℕ) (h : heads.Head) (keys : List (Option ℕ)) (i : ℕ) (left out : Option ℕ) (a b : Work) → ((ps : Plants) → HasParts h (shapes_of ps) → width (shapes_of ps) ≡ 1)
    → left ≡ slice_index_or keys 0 None → FinishRule home f c k h (left ∷ []) i out a b → FinishRule home f c k h keys i out a b
one_rule home f c k h keys i left out a b one is rule m0 was ps t hand e w may time =
    rule m0 was ps t hand (one_key ps keys (sym (width_seen ps) ∙ one ps hand.parts) e ∙ ap (λ z. z ∷ []) (sym is)) w may time

-- of an interrupt whose first part stands still
pub handling_second : (home : Home) (c k number : ℕ) (again : Step) (shift : ShiftView) (keys : List (Option ℕ)) (out : Option ℕ) (m n : Map What) (s t : Seen) (fresh grown : List ℕ) (old new : ℕ)
    → SecondRule home c k again shift keys out m n s t fresh grown old new → ChangingRule home c k (heads.handling again shift) keys number out m n s t fresh grown old new
handling_second home c k zero again shift keys out m n s t fresh grown old new rule f g m0 was ps u hand e w may time = absurd (omega (arith, may))
handling_second home c k (suc zero) again shift keys out m n s t fresh grown old new rule f g m0 was ps u hand e w may time = rule false f g m0 was ps u hand e w may time
handling_second home c k (suc (suc i)) again shift keys out m n s t fresh grown old new rule f g m0 was ps u hand e w may time = absurd (omega (arith, may))

-- ------------------------------------------------------------ a shift node on top

soon : (h : Home) (f c : ℕ) (p : Option Plant) (place : Place) (x : Term) (out : Option ℕ) (m n : Map What) (s t : Seen) (lost found fresh grown : List ℕ) (old begun new : ℕ) → begun ≤ old + 1
    → Regrown h f c p place x out (at_work m s lost fresh begun) (later_by 5 (at_work n t found grown new)) → Regrown h f c p place x out (at_work m s lost fresh old) (at_work n t found grown new)
soon h f c p place x out m n s t lost found fresh grown old begun new le r = record {
  plant = r.plant;
  under = r.under;
  becomes = r.becomes;
  tended = r.tended;
  means = r.means;
  lost = r.lost;
  gained = r.gained;
  ticks = omega (arith, le, r.ticks);
}

pub none_regrown : (h : Home) (key : Option ℕ) (f c : ℕ) (place : Place) (x : Term) (out : Option ℕ) (m n : Map What) (s t : Seen) (lost found fresh grown : List ℕ) (old new : ℕ) → key ≡ None
    → BareRegrowRule h key f c place x out (at_work m s lost fresh old) (at_work n t found grown new) → RegrowRule h key f c place x out (at_work m s lost fresh old) (at_work n t found grown new)
none_regrown h key f c place x out m n s t lost found fresh grown old new e rule None r st u may time = soon h f c None place x out m n s t lost found fresh grown old old new (omega arith) (rule None r st u tt may time)
none_regrown h key f c place x out m n s t lost found fresh grown old new e rule (Some p) r st u may time = absurd (let q : Some (root p) ≡ None = r ∙ e in cc)

pub bare_regrown : (h : Home) (spot_key : Option ℕ) (key f c : ℕ) (place : Place) (x : Term) (out : Option ℕ) (m n : Map What) (s t : Seen) (lost found fresh grown : List ℕ) (old begun new : ℕ) → spot_key ≡ Some key → IsNoShiftAt m key → begun ≡ old + 1
    → BareRegrowRule h spot_key f c place x out (at_work m s lost fresh begun) (at_work n t found grown new) → RegrowRule h spot_key f c place x out (at_work m s lost fresh old) (at_work n t found grown new)
bare_regrown h spot_key key f c place x out m n s t gathered found fresh grown old begun new e other tick rule None r st u may time = absurd (let q : None ≡ Some key = r ∙ e in cc)
bare_regrown h spot_key key f c place x out m n s t gathered found fresh grown old begun new e other tick rule (Some (node k y ps)) r st u may time =
    let here : k ≡ key = (let q : Some k ≡ Some key = r ∙ e in cc) in
    let bare : IsNoShift (head_view y.head) = other (record { what = y; kids = roots ps }) (ap m (sym here) ∙ st.0) in
    soon h f c (Some (node k y ps)) place x out m n s t gathered found fresh grown old begun new (omega (arith, tick)) (rule (Some (node k y ps)) r st u bare may time)

one_shift : (h : Home) (m m1 n : Map What) (key f c : ℕ) (place : Place) (x : Term) (left out : Option ℕ) (s t : Seen) (lost found fresh grown : List ℕ) (old begun back new : ℕ) (by : ℕ) (below : Option ℕ) (y : What) (shift : ShiftView) (ps : Plants)
    → head_view y.head ≡ heads.shifted shift → OneInside (shapes_of ps) → ShiftFits shift c × (is_running shift ≡ true) → KidsTended f (heads.shifted shift) c 0 ps
    → by ≡ shift.behind → below ≡ slice_index_or (roots ps) 0 None → begun ≡ old + 1
    → Stands m (node key y ps) → MayAct (term_in c (node key y ps)) place → InTime c (term_in c (node key y ps)) x
    → BareRegrowRule h below f (c - by) place x left (at_work m s lost fresh begun) (at_work m1 t found grown back)
    → ShiftRule m1 n key by c left out back new
    → Regrown h f c (Some (node key y ps)) place x out (at_work m s lost fresh old) (at_work n t found grown new)
one_shift h m m1 n key f c place x left out s t lost found fresh grown old begun back new by below y shift none is parts fits kids b e tick st may time rule over = absurd parts
one_shift h m m1 n key f c place x left out s t lost found fresh grown old begun back new by below y shift (gone ps) is parts fits kids b e tick st may time rule over = absurd parts
one_shift h m m1 n key f c place x left out s t lost found fresh grown old begun back new by below y shift (more (node k z qs) (gone ps)) is parts fits kids b e tick st may time rule over = absurd parts
one_shift h m m1 n key f c place x left out s t lost found fresh grown old begun back new by below y shift (more (node k z qs) (more u ps)) is parts fits kids b e tick st may time rule over = absurd parts
one_shift h m m1 n key f c place x left out s t lost found fresh grown old begun back new by below y shift (more (node k z qs) none) is parts fits kids b e tick st may time rule over =
    let q : Plant = node k z qs in
    let p : Plant = node key y (more q none) in
    let clock : local shift c ≡ c - by = thawed_local shift c fits.0 ∙ ap (λ v. c - v) (runs_as shift c fits.1 ∙ sym b) in
    let within : by ≤ c = subst (λ v. v ≤ c) (runs_as shift c fits.1 ∙ sym b) (thawed_within shift c fits.0) in
    let means : term_in c p ≡ term_in (c - by) q = ap (λ v. formed v c (terms_of v c 0 (shapes_of (more q none)))) is ∙ ap (λ v. term_in v q) clock in
    let inner_short : IsShort (term_in (c - by) q) = subst IsShort means time.short in
    let o = rule (Some q) (sym e) st.2.1 (subst (λ v. Tended f v q) clock kids.0) parts (subst (λ v. MayAct v place) means may)
    (record { room = omega (arith, time.room); short = inner_short; part = time.part }) in
    let held : Holds m m1 (has p) key (joined o.plant none) = worked m m m1 (has p) key (more q none) 0 o.plant (omega arith) (taken_in_hand m key y (more q none) st) o.becomes in
    let left_short : IsShort (term_in_option (c - by) o.plant) = subst IsShort (sym o.means.term) (residual_short h f (term_in (c - by) q) place (left_by s.held x) inner_short time.part) in
    let w = over m (has p) f o.plant held o.under within o.tended time.room left_short in
    let inner : residual h f (term_in (c - by) q) place (left_by s.held x) ≡ residual h f (term_in c p) place (left_by s.held x) = ap (λ v. residual h f v place (left_by s.held x)) (sym means) in
    record {
      plant = w.plant;
      under = w.under;
      becomes = w.becomes;
      tended = w.tended;
      means = record { term = w.means ∙ o.means.term ∙ ap (λ (v : Process). v.term) inner; state = o.means.state ∙ ap (λ (v : Process). changed s v.state) inner };
      lost = o.lost ∙ ap (λ v. lost ++ lost_all h f v place (left_by s.held x)) (sym means);
      gained = o.gained ∙ ap (λ v. fresh ++ gained_all h f v place (left_by s.held x)) (sym means);
      ticks =
          let a : steps_for h f (term_in (c - by) q) place s x ≡ steps_for h f (term_in c p) place s x = ap (λ v. steps_for h f v place s x) (sym means) in
          omega (arith, tick, o.ticks, w.ticks, a);
    }

pub shift_regrown : (h : Home) (m m1 n : Map What) (spot_key : Option ℕ) (key f c : ℕ) (place : Place) (x : Term) (left out : Option ℕ) (s t : Seen) (lost found fresh grown : List ℕ) (old begun back new by inner_c : ℕ) (below : Option ℕ)
    → spot_key ≡ Some key → IsShiftAt m key c by below → begun ≡ old + 1 → inner_c ≡ c - by
    → BareRegrowRule h below f inner_c place x left (at_work m s lost fresh begun) (at_work m1 t found grown back)
    → ShiftRule m1 n key by c left out back new
    → RegrowRule h spot_key f c place x out (at_work m s lost fresh old) (at_work n t found grown new)
shift_regrown h m m1 n spot_key key f c place x left out s t lost found fresh grown old begun back new by inner_c below e at tick clock rule over None r st u may time = absurd (let q : None ≡ Some key = r ∙ e in cc)
shift_regrown h m m1 n spot_key key f c place x left out s t lost found fresh grown old begun back new by inner_c below e at tick clock rule over (Some (node k y ps)) r st u may time =
    let here : key ≡ k = (let q : Some k ≡ Some key = r ∙ e in cc) in
    let same : at.was ≡ record { what = y; kids = roots ps } = same_node at.was (record { what = y; kids = roots ps }) (sym at.stands ∙ ap m here ∙ st.0) in
    let is : head_view y.head ≡ heads.shifted at.shift = ap (λ z. head_view z.what.head) (sym same) ∙ ap head_view at.is in
    let fits : ShiftFits at.shift c × (is_running at.shift ≡ true) = subst (λ v. HeadFits v c) is u.sound.fits.0 in
    one_shift h m m1 n k f c place x left out s t lost found fresh grown old begun back new by below y at.shift ps is
    (subst (λ v. HasParts v (shapes_of ps)) is u.sound.whole.0) fits
    (subst (λ v. KidsTended (inner_frame v f) v c 0 ps) is (node_kids f c k y ps u))
    (at.behind fits.0 ∙ runs_as at.shift c fits.1) (at.child ∙ ap (λ z. slice_index_or z.kids 0 None) same) tick st may time
    (subst (λ v. BareRegrowRule h below f v place x left (at_work m s lost fresh begun) (at_work m1 t found grown back)) clock rule)
    (subst (λ v. ShiftRule m1 n v by c left out back new) here over)
