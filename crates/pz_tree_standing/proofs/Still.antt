-- As time passes, a shape of which nothing changes its answers stays right, with no node touched.
use Rattle.std.proofs.Common.{◌≡◌, ℕ, zero, suc, ◌+◌, Bool, true, false, Result, Ok, Err, refl, ap, sym, ◌∙◌, subst, arith}
use Rattle.pz_rules.specs.pz_eval_rules.Clocks.{DataIsTimeless}
use Rattle.pz_rules.specs.pz_offer.declared.trouble.Trouble.{Trouble}
use Rattle.pz_clock.specs.Shifts.{is_running}
use Rattle.pz_nodes_shapes.specs.Rose.{node, none, gone, more}
use Rattle.pz_rules.specs.Terms.{Terms, no_terms, and, term_at}
use Rattle.pz_rules.specs.Settings.{Context}
use Rattle.pz_rules.specs.devices.Found.{tested}
use Rattle.pz_tree_standing.specs.Summaries.{summary_of}
use Rattle.pz_tree_standing.specs.Steady.{later, Steady, AreSteady}
use Rattle.pz_tree_standing.specs.devices.SummaryLaws.{TestIsSteady, SteadySummaryIsComputed}
use Rattle.pz_tree_standing.specs.Heads.{Head, leaf, wait, sequence, parallel, select, guarded, frame, abort, idle, handling, shifted, Shape, Shapes, inner_clock, inner_frame, formed}
use Rattle.pz_tree_standing.specs.Standing.{term_of, terms_of, HeadFits, Fits, FitAll}
use Rattle.pz_tree_standing.specs.Reached.{reaches, is_true, GateRight}
use Rattle.pz_tree_standing.specs.Right.{Right, RightAll}
use Rattle.pz_tree_standing.specs.Calm.{Calm, CalmAll}
use Rattle.pz_tree_standing.proofs.Passing.{clock_goes, time_passes}

module _ (a : Context) (d : ℕ) where
  pub is_ok : (r : Result Bool Trouble) (run : Bool) → run ≡ is_true r → run ≡ true → r ≡ Ok true
  is_ok (Ok true) run g e = refl
  is_ok (Ok false) run g e = absurd cc
  is_ok (Err t) run g e = absurd cc

  among : (f : ℕ) (ts : Terms) (j : ℕ) → AreSteady a d f ts → Steady a d f (term_at ts j)
  among f no_terms j h = tt
  among f (and t ts) zero h = h.0
  among f (and t ts) (suc j) h = among f ts j h.1

  -- the children that are active are so too
  pub kid_steady : (f : ℕ) (h : Head) (c : ℕ) (ts : Terms) → GateRight a f h → Steady a d f (formed h c ts) → (j : ℕ) → reaches h j ≡ true → Steady a d (inner_frame h f) (term_at ts j)
  kid_steady f (leaf s) c ts g st j r = absurd cc
  kid_steady f (wait due at) c ts g st j r = absurd cc
  kid_steady f (sequence rest) c ts g st zero r = st
  kid_steady f (sequence rest) c ts g st (suc j) r = absurd cc
  kid_steady f parallel c ts g st j r = among f ts j st
  kid_steady f select c ts g st j r = among f ts j st
  kid_steady f (guarded e at s) c ts g st zero r = st.1 (is_ok (tested a f at e) (is_running s) g r)
  kid_steady f (guarded e at s) c ts g st (suc j) r = absurd cc
  kid_steady f (frame number inputs results) c ts g st zero r = st
  kid_steady f (frame number inputs results) c ts g st (suc j) r = absurd cc
  kid_steady f abort c ts g st zero r = st.0
  kid_steady f abort c ts g st (suc zero) r = st.1
  kid_steady f abort c ts g st (suc (suc j)) r = absurd cc
  kid_steady f (idle again s) c ts g st zero r = st.0
  kid_steady f (idle again s) c ts g st (suc zero) r = st.1
  kid_steady f (idle again s) c ts g st (suc (suc j)) r = absurd cc
  kid_steady f (handling again s) c ts g st zero r = absurd cc
  kid_steady f (handling again s) c ts g st (suc zero) r = st
  kid_steady f (handling again s) c ts g st (suc (suc j)) r = absurd cc
  kid_steady f (shifted s) c ts g st zero r = st
  kid_steady f (shifted s) c ts g st (suc j) r = absurd cc

module _ (tests : TestIsSteady) (steady : SteadySummaryIsComputed) (a : Context) (d : ℕ) (methods : DataIsTimeless a.setting.model) where
  gate_later : (f : ℕ) (h : Head) (c : ℕ) (ts : Terms) → GateRight a f h → Steady a d f (formed h c ts) → GateRight (later a d) f h
  gate_later f (leaf s) c ts g st = tt
  gate_later f (wait due at) c ts g st = tt
  gate_later f (sequence rest) c ts g st = tt
  gate_later f parallel c ts g st = tt
  gate_later f select c ts g st = tt
  gate_later f (guarded e at s) c ts g st = g ∙ ap is_true (sym (tests a d f at e methods st.0))
  gate_later f (frame number inputs results) c ts g st = tt
  gate_later f abort c ts g st = tt
  gate_later f (idle again s) c ts g st = tt
  gate_later f (handling again s) c ts g st = tt
  gate_later f (shifted s) c ts g st = tt

  mutual
    pub still_right : (f c : ℕ) (s : Shape) → Fits c s → Calm a f s → Steady a d f (term_of c s) → Right a f c s → Right (later a d) f (c + d) s
    still_right f c (node k x ss) fits calm st r = (
      r.0 ∙ sym (steady a d c f (term_of c (node k x ss)) methods st) ∙ ap (summary_of (later a d) (c + d) f) (sym (time_passes a d f c (node k x ss) fits calm)),
      gate_later f x.head c (terms_of x.head c 0 ss) r.1 st,
      all_still (inner_frame x.head f) x.head c 0 ss fits.0 fits.1 calm.2 (λ j e. kid_steady a d f x.head c (terms_of x.head c 0 ss) r.1 st j (let n : 0 + j ≡ j = omega arith in subst (λ z. reaches x.head z ≡ true) n e)) r.2,
    )

    all_still : (f : ℕ) (h : Head) (c i : ℕ) (ss : Shapes) → HeadFits h c → FitAll h c i ss → CalmAll a f h i ss → ((j : ℕ) → reaches h (i + j) ≡ true → Steady a d f (term_at (terms_of h c i ss) j))
        → RightAll a f h c i ss → RightAll (later a d) f h (c + d) i ss
    all_still f h c i none head fits calm st r = tt
    all_still f h c i (gone ss) head fits calm st r = all_still f h c (suc i) ss head fits calm
        (λ j e. st (suc j) (let n : suc i + j ≡ i + suc j = omega arith in subst (λ z. reaches h z ≡ true) n e)) r
    all_still f h c i (more s ss) head fits calm st r = (
      (λ e. let n : i ≡ i + 0 = omega arith in
          subst (λ z. Right (later a d) f z s) (sym (clock_goes h i c d head e))
          (still_right f (inner_clock h i c) s fits.0 (calm.0 e) (st 0 (subst (λ z. reaches h z ≡ true) n e)) (r.0 e))),
      all_still f h c (suc i) ss head fits.1 calm.1 (λ j e. st (suc j) (let n : suc i + j ≡ i + suc j = omega arith in subst (λ z. reaches h z ≡ true) n e)) r.1,
    )
