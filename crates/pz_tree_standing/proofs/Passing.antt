-- Time passes: the same shape, its clock so much later, stands for what the passing leaves.
use Rattle.std.proofs.Common.{◌≡◌, ℕ, zero, suc, ◌+◌, ◌-◌, Bool, true, false, Option, Some, None, Result, Ok, Err, refl, ap, sym, ◌∙◌, subst, arith}
use Rattle.pz_rules.specs.pz_syntax.Statements as statement
use Rattle.pz_rules.specs.pz_offer.declared.trouble.Trouble.{Trouble}
use Rattle.pz_clock.specs.Shifts.{ShiftView, is_running, local, local_since, ShiftFits, FitsSince}
use Rattle.pz_nodes_shapes.specs.Rose.{node, none, gone, more}
use Rattle.pz_rules.specs.Terms.{Step, Term, Terms, no_terms, and, term_at}
use Rattle.pz_rules.specs.Terms as term
use Rattle.pz_rules.specs.Settings.{Context}
use Rattle.pz_rules.specs.devices.Found.{tested}
use Rattle.pz_rules.specs.Delays.{Passes}
use Rattle.pz_rules.specs.devices.Computed.{IsUntroubled, PassingIsComputed, OnePassingIsComputed}
use Rattle.pz_rules.specs.devices.Passing.{passed, passed_all, if_open}
use Rattle.pz_tree_standing.specs.Heads.{Head, leaf, wait, sequence, parallel, select, guarded, frame, abort, idle, handling, shifted, Shape, Shapes, inner_clock, inner_frame, formed}
use Rattle.pz_tree_standing.specs.Standing.{term_of, terms_of, HeadFits, Fits, FitAll}
use Rattle.pz_tree_standing.specs.Reached.{reaches, is_true, GateRight}
use Rattle.pz_tree_standing.specs.Calm.{HasBegun, Calm, CalmAll}

-- Clocks

pub local_goes : (s : ShiftView) (c d : ℕ) → ShiftFits s c → is_running s ≡ true → local s (c + d) ≡ local s c + d
local_goes s c d fits run = goes s.behind s.since fits run
  where
    goes : (behind : ℕ) (since : Option ℕ) → FitsSince behind since c → is_running (record { behind = behind; since = since }) ≡ true → local_since behind since (c + d) ≡ local_since behind since c + d
    goes behind None h r = (let e : (c + d) - behind ≡ (c - behind) + d = omega (arith, h) in e)
    goes behind (Some x) h r = absurd cc

pub local_stands : (s : ShiftView) (c d : ℕ) → is_running s ≡ false → local s (c + d) ≡ local s c
local_stands s c d run = stands s.behind s.since run
  where
    stands : (behind : ℕ) (since : Option ℕ) → is_running (record { behind = behind; since = since }) ≡ false → local_since behind since (c + d) ≡ local_since behind since c
    stands behind None r = absurd cc
    stands behind (Some x) r = refl

pub clock_goes : (h : Head) (i c d : ℕ) → HeadFits h c → reaches h i ≡ true → inner_clock h i (c + d) ≡ inner_clock h i c + d
clock_goes (leaf s) i c d fits r = refl
clock_goes (wait due at) i c d fits r = refl
clock_goes (sequence rest) i c d fits r = refl
clock_goes parallel i c d fits r = refl
clock_goes select i c d fits r = refl
clock_goes (guarded e at s) zero c d fits r = local_goes s c d fits r
clock_goes (guarded e at s) (suc i) c d fits r = absurd cc
clock_goes (frame number inputs results) i c d fits r = refl
clock_goes abort i c d fits r = refl
clock_goes (idle again s) zero c d fits r = local_goes s c d fits.0 fits.1
clock_goes (idle again s) (suc i) c d fits r = refl
clock_goes (handling again s) zero c d fits r = absurd cc
clock_goes (handling again s) (suc i) c d fits r = refl
clock_goes (shifted s) i c d fits r = local_goes s c d fits.0 fits.1

-- Children that stand still

pub kids_stand : (h : Head) (c d i : ℕ) (ss : Shapes) (j : ℕ) → inner_clock h (i + j) (c + d) ≡ inner_clock h (i + j) c → term_at (terms_of h (c + d) i ss) j ≡ term_at (terms_of h c i ss) j
kids_stand h c d i none j e = refl
kids_stand h c d i (gone ss) zero e = refl
kids_stand h c d i (more s ss) zero e =
    let n : i + 0 ≡ i = omega arith in ap (λ z. term_of z s) (subst (λ k. inner_clock h k (c + d) ≡ inner_clock h k c) n e)
kids_stand h c d i (gone ss) (suc j) e = let n : i + suc j ≡ suc i + j = omega arith in kids_stand h c d (suc i) ss j (subst (λ k. inner_clock h k (c + d) ≡ inner_clock h k c) n e)
kids_stand h c d i (more s ss) (suc j) e = let n : i + suc j ≡ suc i + j = omega arith in kids_stand h c d (suc i) ss j (subst (λ k. inner_clock h k (c + d) ≡ inner_clock h k c) n e)

module _ (a : Context) (d : ℕ) where
  -- what is known of the children
  abbrev KidsPass : ℕ → Head → ℕ → Shapes → Type 0
  KidsPass f h c ss = (j : ℕ) → reaches h j ≡ true → term_at (terms_of h (c + d) 0 ss) j ≡ passed a d (inner_frame h f) (term_at (terms_of h c 0 ss) j)

  abbrev AllPass : ℕ → Head → ℕ → Shapes → Type 0
  AllPass f h c ss = ((j : ℕ) → reaches h j ≡ true) → terms_of h (c + d) 0 ss ≡ passed_all a d (inner_frame h f) (terms_of h c 0 ss)

  -- an active guard of which the shift runs as its test says
  gate_passes : (r : Result Bool Trouble) (run : Bool) (x t y : Term) → run ≡ is_true r → (run ≡ true → y ≡ x) → (run ≡ false → y ≡ t) → y ≡ if_open r x t
  gate_passes (Ok true) run x t y g p q = p g
  gate_passes (Ok false) run x t y g p q = q g
  gate_passes (Err u) run x t y g p q = q g

  form_passes : (f : ℕ) (h : Head) (c : ℕ) (ss : Shapes) → HeadFits h c → HasBegun h → GateRight a f h → KidsPass f h c ss → AllPass f h c ss
      → formed h (c + d) (terms_of h (c + d) 0 ss) ≡ passed a d f (formed h c (terms_of h c 0 ss))
  form_passes f (leaf s) c ss fits begun gate kids all = still s begun
    where
      still : (s : Step) → HasBegun (leaf s) → term.leaf s ≡ passed a d f (term.leaf s)
      still (statement.skip at) b = refl
      still (statement.delay at e) b = absurd b
      still (statement.bracketed at ts) b = refl
      still (statement.block at es) b = refl
      still (statement.guarded at e t) b = refl
      still (statement.parallel at bs) b = refl
      still (statement.select at bs) b = refl
      still (statement.conditional at e ts other) b = refl
      still (statement.repeated at e ts) b = refl
      still (statement.abort at ts t) b = refl
      still (statement.interrupt at ts t) b = refl
      still (statement.send at port name args after) b = refl
      still (statement.receive at port name into condition after) b = refl
      still (statement.call at method args results) b = refl
      still (statement.assignment at x e) b = refl
      still (statement.value at e) b = refl
  form_passes f (wait due at) c ss fits begun gate kids all = ap (λ n. term.wait n at) (let e : due - (c + d) ≡ (due - c) - d = omega arith in e)
  form_passes f (sequence rest) c ss fits begun gate kids all = ap (λ t. term.sequence t rest) (kids 0 refl)
  form_passes f parallel c ss fits begun gate kids all = ap term.parallel (all (λ j. refl))
  form_passes f select c ss fits begun gate kids all = ap term.select (all (λ j. refl))
  form_passes f (guarded e at s) c ss fits begun gate kids all = ap (term.guarded e at)
      (gate_passes (tested a f at e) (is_running s) (passed a d f (term_at (terms_of (guarded e at s) c 0 ss) 0)) (term_at (terms_of (guarded e at s) c 0 ss) 0) (term_at (terms_of (guarded e at s) (c + d) 0 ss) 0) gate
      (λ r. kids 0 r) (λ r. kids_stand (guarded e at s) c d 0 ss 0 (local_stands s c d r)))
  form_passes f (frame number inputs results) c ss fits begun gate kids all = ap (term.frame number inputs results) (kids 0 refl)
  form_passes f abort c ss fits begun gate kids all = λ i. term.abort (kids 0 refl i) (kids 1 refl i)
  form_passes f (idle again s) c ss fits begun gate kids all = λ i. term.idle (kids 0 refl i) (kids 1 refl i) again
  form_passes f (handling again s) c ss fits begun gate kids all = λ i. term.handling (kids_stand (handling again s) c d 0 ss 0 (local_stands s c d fits.1) i) (kids 1 refl i) again
  form_passes f (shifted s) c ss fits begun gate kids all = kids 0 refl

  mutual
    pub time_passes : (f c : ℕ) (s : Shape) → Fits c s → Calm a f s → term_of (c + d) s ≡ passed a d f (term_of c s)
    time_passes f c (node k x ss) fits calm = form_passes f x.head c ss fits.0 calm.0 calm.1
        (λ j r. kids_pass (inner_frame x.head f) x.head c 0 ss fits.0 fits.1 calm.2 j (let n : j ≡ 0 + j = omega arith in subst (λ z. reaches x.head z ≡ true) n r))
        (λ r. all_pass (inner_frame x.head f) x.head c 0 ss fits.0 fits.1 calm.2 r)

    kids_pass : (f : ℕ) (h : Head) (c i : ℕ) (ss : Shapes) → HeadFits h c → FitAll h c i ss → CalmAll a f h i ss → (j : ℕ) → reaches h (i + j) ≡ true → term_at (terms_of h (c + d) i ss) j ≡ passed a d f (term_at (terms_of h c i ss) j)
    kids_pass f h c i none head fits calm j r = refl
    kids_pass f h c i (gone ss) head fits calm zero r = refl
    kids_pass f h c i (more s ss) head fits calm zero r =
        let n : i + 0 ≡ i = omega arith in
        let r' : reaches h i ≡ true = subst (λ z. reaches h z ≡ true) n r in
        ap (λ z. term_of z s) (clock_goes h i c d head r') ∙ time_passes f (inner_clock h i c) s fits.0 (calm.0 r')
    kids_pass f h c i (gone ss) head fits calm (suc j) r = let n : i + suc j ≡ suc i + j = omega arith in kids_pass f h c (suc i) ss head fits calm j (subst (λ z. reaches h z ≡ true) n r)
    kids_pass f h c i (more s ss) head fits calm (suc j) r = let n : i + suc j ≡ suc i + j = omega arith in kids_pass f h c (suc i) ss head fits.1 calm.1 j (subst (λ z. reaches h z ≡ true) n r)

    all_pass : (f : ℕ) (h : Head) (c i : ℕ) (ss : Shapes) → HeadFits h c → FitAll h c i ss → CalmAll a f h i ss → ((j : ℕ) → reaches h j ≡ true) → terms_of h (c + d) i ss ≡ passed_all a d f (terms_of h c i ss)
    all_pass f h c i none head fits calm r = refl
    all_pass f h c i (gone ss) head fits calm r = ap (and term.done) (all_pass f h c (suc i) ss head fits calm r)
    all_pass f h c i (more s ss) head fits calm r = λ n. and ((ap (λ z. term_of z s) (clock_goes h i c d head (r i)) ∙ time_passes f (inner_clock h i c) s fits.0 (calm.0 (r i))) n) (all_pass f h c (suc i) ss head fits.1 calm.1 r n)

  -- in the words of the rules
  pub is_passing : PassingIsComputed → (f c : ℕ) (s : Shape) → Fits c s → Calm a f s → IsUntroubled a f (term_of c s) → Passes a d f (term_of c s) (term_of (c + d) s)
  is_passing some f c s fits calm untroubled = subst (Passes a d f (term_of c s)) (sym (time_passes f c s fits calm)) (some a d f (term_of c s) untroubled)

  pub only_passing : OnePassingIsComputed → (f c : ℕ) (s : Shape) → Fits c s → Calm a f s → (x : Term) → Passes a d f (term_of c s) x → x ≡ term_of (c + d) s
  only_passing only f c s fits calm x p = only a d f (term_of c s) x p ∙ sym (time_passes f c s fits calm)
