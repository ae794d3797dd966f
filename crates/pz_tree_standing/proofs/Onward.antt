-- As time passes, what fits its clock goes on to fit it, and what rests goes on to rest.
use Rattle.std.proofs.Common.{◌≡◌, ℕ, zero, suc, ◌+◌, ◌<◌, ◌⊎◌, inl, inr, true, ◌||◌, refl, ap, sym, ◌∙◌, subst, arith}
use Rattle.pz_rules.specs.pz_eval_rules.Clocks.{DataIsTimeless}
use Rattle.pz_clock.specs.Shifts.{is_running}
use Rattle.pz_clock.specs.Laws.{FitsOnward}
use Rattle.pz_nodes_shapes.specs.Rose.{node, none, gone, more, width}
use Rattle.pz_nodes_shapes.proofs.Frames.{decided}
use Rattle.pz_rules.specs.Terms.{Terms, term_at}
use Rattle.pz_rules.specs.Settings.{Context}
use Rattle.pz_tree_standing.specs.Summaries.{summary_of}
use Rattle.pz_tree_standing.specs.Asked.{asks, any_asks}
use Rattle.pz_tree_standing.specs.Steady.{later, Steady}
use Rattle.pz_tree_standing.specs.SummaryLaws.{UnaskedIsSteady}
use Rattle.pz_tree_standing.specs.devices.SummaryLaws.{SteadySummaryIsComputed}
use Rattle.pz_tree_standing.specs.Heads.{Head, leaf, wait, sequence, parallel, select, guarded, frame, abort, idle, handling, shifted, Shape, Shapes, inner_clock, inner_frame, formed}
use Rattle.pz_tree_standing.specs.Standing.{term_of, terms_of, HeadFits, Fits, FitAll}
use Rattle.pz_tree_standing.specs.Reached.{reaches, GateRight}
use Rattle.pz_tree_standing.specs.Resting.{Rests, RestAll}
use Rattle.pz_tree_standing.specs.Whole.{OneInside, HasParts, Whole, AreWhole}
use Rattle.pz_tree_standing.specs.Calm.{Calm, CalmAll}
use Rattle.pz_tree_standing.specs.Sound.{Sound}
use Rattle.pz_tree_standing.proofs.Passing.{clock_goes, local_stands, time_passes}
use Rattle.pz_tree_standing.proofs.Still.{kid_steady}

-- What is asked does not hang on clocks.

asks_formed : (h : Head) (c e : ℕ) (ts us : Terms) → ((j : ℕ) → asks (term_at ts j) ≡ asks (term_at us j)) → any_asks ts ≡ any_asks us → asks (formed h c ts) ≡ asks (formed h e us)
asks_formed (leaf s) c e ts us p q = refl
asks_formed (wait due at) c e ts us p q = refl
asks_formed (sequence rest) c e ts us p q = p 0
asks_formed parallel c e ts us p q = q
asks_formed select c e ts us p q = q
asks_formed (guarded test at s) c e ts us p q = refl
asks_formed (frame number inputs results) c e ts us p q = p 0
asks_formed abort c e ts us p q = λ i. p 0 i || p 1 i
asks_formed (idle again s) c e ts us p q = λ i. p 0 i || p 1 i
asks_formed (handling again s) c e ts us p q = p 1
asks_formed (shifted s) c e ts us p q = p 0

mutual
  asks_same : (c e : ℕ) (s : Shape) → asks (term_of c s) ≡ asks (term_of e s)
  asks_same c e (node k x ss) = asks_formed x.head c e (terms_of x.head c 0 ss) (terms_of x.head e 0 ss) (λ j. child_asks x.head c e 0 ss j) (all_ask x.head c e 0 ss)

  child_asks : (h : Head) (c e i : ℕ) (ss : Shapes) (j : ℕ) → asks (term_at (terms_of h c i ss) j) ≡ asks (term_at (terms_of h e i ss) j)
  child_asks h c e i none j = refl
  child_asks h c e i (gone ss) zero = refl
  child_asks h c e i (more s ss) zero = asks_same (inner_clock h i c) (inner_clock h i e) s
  child_asks h c e i (gone ss) (suc j) = child_asks h c e (suc i) ss j
  child_asks h c e i (more s ss) (suc j) = child_asks h c e (suc i) ss j

  all_ask : (h : Head) (c e i : ℕ) (ss : Shapes) → any_asks (terms_of h c i ss) ≡ any_asks (terms_of h e i ss)
  all_ask h c e i none = refl
  all_ask h c e i (gone ss) = all_ask h c e (suc i) ss
  all_ask h c e i (more s ss) = λ n. asks_same (inner_clock h i c) (inner_clock h i e) s n || all_ask h c e (suc i) ss n

one_wide : (ss : Shapes) → OneInside ss → width ss ≡ 1
one_wide none p = absurd p
one_wide (gone ss) p = absurd p
one_wide (more s none) p = refl
one_wide (more (node k x ts) (gone ss)) p = absurd p
one_wide (more (node k x ts) (more t ss)) p = absurd p

-- Each child is active, or its clock stands still.
abbrev MovesOrStands : Head → ℕ → ℕ → ℕ → Type 0
MovesOrStands h c d i = (reaches h i ≡ true) ⊎ (inner_clock h i (c + d) ≡ inner_clock h i c)

moves_or_stands : (h : Head) (c d : ℕ) (ss : Shapes) → HeadFits h c → HasParts h ss → (j : ℕ) → j < width ss → MovesOrStands h c d j
moves_or_stands (leaf s) c d ss fits p j l = absurd (omega (arith, p, l))
moves_or_stands (wait due at) c d ss fits p j l = absurd (omega (arith, p, l))
moves_or_stands (sequence rest) c d ss fits p zero l = inl refl
moves_or_stands (sequence rest) c d ss fits p (suc j) l = absurd (omega (arith, p, l))
moves_or_stands parallel c d ss fits p j l = inl refl
moves_or_stands select c d ss fits p j l = inl refl
moves_or_stands (guarded e at s) c d ss fits p zero l = elim (decided (is_running s)) [ inl r ↦ inl r | inr r ↦ inr (local_stands s c d r) ]
moves_or_stands (guarded e at s) c d ss fits p (suc j) l = absurd (omega (arith, p, l))
moves_or_stands (frame number inputs results) c d ss fits p zero l = inl refl
moves_or_stands (frame number inputs results) c d ss fits p (suc j) l = absurd (omega (arith, p, l))
moves_or_stands abort c d ss fits p zero l = inl refl
moves_or_stands abort c d ss fits p (suc zero) l = inl refl
moves_or_stands abort c d ss fits p (suc (suc j)) l = absurd (omega (arith, p, l))
moves_or_stands (idle again s) c d ss fits p zero l = inl refl
moves_or_stands (idle again s) c d ss fits p (suc zero) l = inl refl
moves_or_stands (idle again s) c d ss fits p (suc (suc j)) l = absurd (omega (arith, p, l))
moves_or_stands (handling again s) c d ss fits p zero l = inr (local_stands s c d fits.1)
moves_or_stands (handling again s) c d ss fits p (suc zero) l = inl refl
moves_or_stands (handling again s) c d ss fits p (suc (suc j)) l = absurd (omega (arith, p, l))
moves_or_stands (shifted s) c d ss fits p zero l = inl refl
moves_or_stands (shifted s) c d ss fits p (suc j) l = absurd (omega (arith, one_wide ss p, l))

module _ (onward : FitsOnward) (a : Context) (d : ℕ) where
  head_onward : (f : ℕ) (h : Head) (c : ℕ) (ts : Terms) → HeadFits h c → Steady a d f (formed h c ts) → HeadFits h (c + d)
  head_onward f (leaf s) c ts fits st = tt
  head_onward f (wait due at) c ts fits st = omega (arith, st)
  head_onward f (sequence rest) c ts fits st = tt
  head_onward f parallel c ts fits st = tt
  head_onward f select c ts fits st = tt
  head_onward f (guarded e at s) c ts fits st = onward s c d fits
  head_onward f (frame number inputs results) c ts fits st = tt
  head_onward f abort c ts fits st = tt
  head_onward f (idle again s) c ts fits st = (onward s c d fits.0, fits.1)
  head_onward f (handling again s) c ts fits st = (onward s c d fits.0, fits.1)
  head_onward f (shifted s) c ts fits st = (onward s c d fits.0, fits.1)

  -- what is known of children, of which the first has number i
  abbrev Moving : Head → ℕ → ℕ → Shapes → Type 0
  Moving h c i ss = (j : ℕ) → j < width ss → MovesOrStands h c d (i + j)

  abbrev StayingSteady : ℕ → Head → ℕ → ℕ → Shapes → Type 0
  StayingSteady f h c i ss = (j : ℕ) → reaches h (i + j) ≡ true → Steady a d f (term_at (terms_of h c i ss) j)

  next : (i j : ℕ) → i + suc j ≡ suc i + j
  next i j = omega arith

  first : (i : ℕ) → i + 0 ≡ i
  first i = omega arith

  moving_gone : (h : Head) (c i : ℕ) (ss : Shapes) → Moving h c i (gone ss) → Moving h c (suc i) ss
  moving_gone h c i ss m j l = subst (MovesOrStands h c d) (next i j) (m (suc j) (omega (arith, l)))

  moving_more : (h : Head) (c i : ℕ) (s : Shape) (ss : Shapes) → Moving h c i (more s ss) → Moving h c (suc i) ss
  moving_more h c i s ss m j l = subst (MovesOrStands h c d) (next i j) (m (suc j) (omega (arith, l)))

  moving_first : (h : Head) (c i : ℕ) (s : Shape) (ss : Shapes) → Moving h c i (more s ss) → MovesOrStands h c d i
  moving_first h c i s ss m = subst (MovesOrStands h c d) (first i) (m 0 (let e : 0 < suc (width ss) = omega arith in e))

  steady_later : (f : ℕ) (h : Head) (c i : ℕ) (ts us : Shapes) → ((j : ℕ) → term_at (terms_of h c i ts) (suc j) ≡ term_at (terms_of h c (suc i) us) j) → StayingSteady f h c i ts → StayingSteady f h c (suc i) us
  steady_later f h c i ts us e st j r = subst (Steady a d f) (e j) (st (suc j) (subst (λ z. reaches h z ≡ true) (sym (next i j)) r))

  steady_first : (f : ℕ) (h : Head) (c i : ℕ) (s : Shape) (ss : Shapes) → StayingSteady f h c i (more s ss) → reaches h i ≡ true → Steady a d f (term_of (inner_clock h i c) s)
  steady_first f h c i s ss st r = st 0 (subst (λ z. reaches h z ≡ true) (sym (first i)) r)

  kids_moving : (h : Head) (c : ℕ) (ss : Shapes) → HeadFits h c → HasParts h ss → Moving h c 0 ss
  kids_moving h c ss fits p j l = subst (MovesOrStands h c d) (let e : j ≡ 0 + j = omega arith in e) (moves_or_stands h c d ss fits p j l)

  kids_steady : (f : ℕ) (h : Head) (c : ℕ) (ss : Shapes) → GateRight a f h → Steady a d f (formed h c (terms_of h c 0 ss)) → StayingSteady (inner_frame h f) h c 0 ss
  kids_steady f h c ss g st j r = kid_steady a d f h c (terms_of h c 0 ss) g st j (subst (λ z. reaches h z ≡ true) (let e : 0 + j ≡ j = omega arith in e) r)

  mutual
    pub fits_later : (f c : ℕ) (s : Shape) → Whole s → Fits c s → Calm a f s → Steady a d f (term_of c s) → Fits (c + d) s
    fits_later f c (node k x ss) whole fits calm st = (
      head_onward f x.head c (terms_of x.head c 0 ss) fits.0 st,
      all_fit (inner_frame x.head f) x.head c 0 ss fits.0 whole.1 fits.1 calm.2 (kids_moving x.head c ss fits.0 whole.0) (kids_steady f x.head c ss calm.1 st),
    )

    all_fit : (f : ℕ) (h : Head) (c i : ℕ) (ss : Shapes) → HeadFits h c → AreWhole ss → FitAll h c i ss → CalmAll a f h i ss → Moving h c i ss → StayingSteady f h c i ss → FitAll h (c + d) i ss
    all_fit f h c i none head whole fits calm m st = tt
    all_fit f h c i (gone ss) head whole fits calm m st = all_fit f h c (suc i) ss head whole fits calm (moving_gone h c i ss m) (steady_later f h c i (gone ss) ss (λ j. refl) st)
    all_fit f h c i (more s ss) head whole fits calm m st = (
      elim (moving_first h c i s ss m) [
        | inl r ↦ subst (λ z. Fits z s) (sym (clock_goes h i c d head r)) (fits_later f (inner_clock h i c) s whole.0 fits.0 (calm.0 r) (steady_first f h c i s ss st r))
        | inr e ↦ subst (λ z. Fits z s) (sym e) fits.0
      ],
      all_fit f h c (suc i) ss head whole.1 fits.1 calm.1 (moving_more h c i s ss m) (steady_later f h c i (more s ss) ss (λ j. refl) st),
    )

module _ (unasked : UnaskedIsSteady) (steady : SteadySummaryIsComputed) (onward : FitsOnward) (a : Context) (d : ℕ) (methods : DataIsTimeless a.setting.model) where
  mutual
    pub rests_later : (f c : ℕ) (s : Shape) → Whole s → Fits c s → Calm a f s → Steady a d f (term_of c s) → Rests f c s → Rests f (c + d) s
    rests_later f c (node k x ss) whole fits calm st r =
        let s : Shape = node k x ss in (
          (λ e b. r.0 (asks_same c (c + d) s ∙ e) a
              ∙ sym (steady a d c f (term_of c s) methods st)
              ∙ ap (summary_of (later a d) (c + d) f) (sym (time_passes a d f c s fits calm))
              ∙ unasked (later a d) b (c + d) f (term_of (c + d) s) e),
          all_rest (inner_frame x.head f) x.head c 0 ss fits.0 whole.1 fits.1 calm.2 (kids_moving onward a d x.head c ss fits.0 whole.0) (kids_steady onward a d f x.head c ss calm.1 st) r.1,
        )

    all_rest : (f : ℕ) (h : Head) (c i : ℕ) (ss : Shapes) → HeadFits h c → AreWhole ss → FitAll h c i ss → CalmAll a f h i ss → Moving onward a d h c i ss → StayingSteady onward a d f h c i ss → RestAll f h c i ss → RestAll f h (c + d) i ss
    all_rest f h c i none head whole fits calm m st r = tt
    all_rest f h c i (gone ss) head whole fits calm m st r = all_rest f h c (suc i) ss head whole fits calm (moving_gone onward a d h c i ss m) (steady_later onward a d f h c i (gone ss) ss (λ j. refl) st) r
    all_rest f h c i (more s ss) head whole fits calm m st r = (
      elim (moving_first onward a d h c i s ss m) [
        | inl g ↦ subst (λ z. Rests f z s) (sym (clock_goes h i c d head g)) (rests_later f (inner_clock h i c) s whole.0 fits.0 (calm.0 g) (steady_first onward a d f h c i s ss st g) r.0)
        | inr e ↦ subst (λ z. Rests f z s) (sym e) r.0
      ],
      all_rest f h c (suc i) ss head whole.1 fits.1 calm.1 (moving_more onward a d h c i s ss m) (steady_later onward a d f h c i (more s ss) ss (λ j. refl) st) r.1,
    )

  pub still_sound : (f c : ℕ) (s : Shape) → Calm a f s → Steady a d f (term_of c s) → Sound f c s → Sound f (c + d) s
  still_sound f c s calm st h = record {
    whole = h.whole;
    fits = fits_later onward a d f c s h.whole h.fits calm st;
    rests = rests_later f c s h.whole h.fits calm st h.rests;
  }
