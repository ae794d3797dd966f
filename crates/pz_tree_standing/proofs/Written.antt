-- A node whose children keep the right summaries keeps the right one, if it is made of theirs.
use Rattle.std.proofs.Common.{◌≡◌, ℕ, zero, suc, ◌+◌, ◌-◌, Bool, true, false, Option, Some, None, Result, Ok, Err, refl, ap, sym, ◌∙◌, subst, arith}
use Rattle.pz_rules.specs.pz_offer.declared.trouble.Trouble.{Trouble}
use Rattle.pz_clock.specs.Shifts.{ShiftView, is_running, local, local_since, ShiftFits, FitsSince}
use Rattle.pz_nodes_shapes.specs.Rose.{node, none, gone, more}
use Rattle.pz_rules.specs.Terms.{Term, Terms, no_terms, and, term_at}
use Rattle.pz_rules.specs.Terms as term
use Rattle.pz_rules.specs.Settings.{Context}
use Rattle.pz_rules.specs.devices.Found.{tested}
use Rattle.pz_rules.specs.Terms.{Step}
use Rattle.pz_rules.specs.devices.Walk.{active_parts}
use Rattle.pz_rules.specs.pz_offer.declared.summary.Summary.{Summary}
use Rattle.pz_rules.specs.pz_offer.Summaries.{nothing, join}
use Rattle.pz_rules.specs.pz_offer.Summaries as summaries
use Rattle.pz_rules.proofs.pz_offer_proofs.Joins.{join_right}
use Rattle.pz_tree_standing.specs.Summaries.{summary_of, summaries_of, gated}
use Rattle.pz_tree_standing.specs.devices.Tallies.{own_summary}
use Rattle.pz_tree_standing.proofs.Tallies.{summary_is_tally, summary_sequence, summary_parallel, summary_select, summary_guarded, summary_frame, summary_abort, summary_idle, summary_handling, summary_shifted}
use Rattle.pz_tree_standing.specs.Heads.{Head, What, leaf, wait, sequence, parallel, select, guarded, frame, abort, idle, handling, shifted, Shapes, inner_clock, inner_frame, formed}
use Rattle.pz_tree_standing.specs.Standing.{term_of, terms_of, HeadFits}
use Rattle.pz_tree_standing.specs.Reached.{reaches, is_true, GateRight}
use Rattle.pz_tree_standing.specs.Right.{Right, RightAll}
use Rattle.pz_tree_standing.specs.devices.Written.{kept_at, kept_all, node_summary}

module _ (a : Context) where
  abbrev KidsRight : ℕ → Head → ℕ → Shapes → Type 0
  KidsRight f h c ss = (j : ℕ) → reaches h j ≡ true → kept_at ss j ≡ summary_of a (inner_clock h j c) f (term_at (terms_of h c 0 ss) j)

  right_kids : (f : ℕ) (h : Head) (c i : ℕ) (ss : Shapes) → RightAll a f h c i ss → (j : ℕ) → reaches h (i + j) ≡ true → kept_at ss j ≡ summary_of a (inner_clock h (i + j) c) f (term_at (terms_of h c i ss) j)
  right_kids f h c i none r j e = refl
  right_kids f h c i (gone ss) r zero e = refl
  right_kids f h c i (more (node k x ts) ss) r zero e =
      let n : i + 0 ≡ i = omega arith in
      let e' : reaches h i ≡ true = subst (λ z. reaches h z ≡ true) n e in
      subst (λ z. x.kept ≡ summary_of a (inner_clock h z c) f (term_of (inner_clock h i c) (node k x ts))) (sym n) (r.0 e').0
  right_kids f h c i (gone ss) r (suc j) e =
      let n : i + suc j ≡ suc i + j = omega arith in
      subst (λ z. kept_at ss j ≡ summary_of a (inner_clock h z c) f (term_at (terms_of h c (suc i) ss) j)) (sym n) (right_kids f h c (suc i) ss r j (subst (λ z. reaches h z ≡ true) n e))
  right_kids f h c i (more (node k x ts) ss) r (suc j) e =
      let n : i + suc j ≡ suc i + j = omega arith in
      subst (λ z. kept_at ss j ≡ summary_of a (inner_clock h z c) f (term_at (terms_of h c (suc i) ss) j)) (sym n) (right_kids f h c (suc i) ss r.1 j (subst (λ z. reaches h z ≡ true) n e))

  -- children whose clock is that of the node, all of them active
  right_all : (f : ℕ) (h : Head) (c i : ℕ) (ss : Shapes) → ((j : ℕ) → reaches h j ≡ true) → ((j : ℕ) → inner_clock h j c ≡ c) → RightAll a f h c i ss → kept_all ss ≡ summaries_of a c f (terms_of h c i ss)
  right_all f h c i none g e r = refl
  right_all f h c i (gone ss) g e r = ap (join nothing) (right_all f h c (suc i) ss g e r)
  right_all f h c i (more (node k x ts) ss) g e r =
      λ n. join (((r.0 (g i)).0 ∙ ap (λ z. summary_of a z f (term_of (inner_clock h i c) (node k x ts))) (e i)) n) (right_all f h c (suc i) ss g e r.1 n)

  -- what is due in a clock that runs is due so much later here
  shift_adds : (f c : ℕ) (s : ShiftView) (t : Term) → ShiftFits s c → is_running s ≡ true → summaries.shifted s.behind (summary_of a (local s c) f t) ≡ summary_of a c f t
  shift_adds f c s t fits run = sym (summary_shifted a (local s c) s.behind f t) ∙ ap (λ z. summary_of a z f t) (back s.behind s.since fits run)
    where
      back : (behind : ℕ) (since : Option ℕ) → FitsSince behind since c → is_running (record { behind = behind; since = since }) ≡ true → local_since behind since c + behind ≡ c
      back behind None h r = (let e : (c - behind) + behind ≡ c = omega (arith, h) in e)
      back behind (Some x) h r = absurd cc

  behind_gate : (r : Result Bool Trouble) (run : Bool) (s t : Summary) → run ≡ is_true r → (run ≡ true → s ≡ t) → gated r s ≡ gated r t
  behind_gate (Ok true) run s t g e = e g
  behind_gate (Ok false) run s t g e = refl
  behind_gate (Err u) run s t g e = refl

  pub summary_formed : (f c : ℕ) (h : Head) (ss : Shapes) → HeadFits h c → GateRight a f h → RightAll a (inner_frame h f) h c 0 ss → node_summary a f c h ss ≡ summary_of a c f (formed h c (terms_of h c 0 ss))
  summary_formed f c (leaf s) ss fits gate r = sym (by s)
    where
      by : (s : Step) → summary_of a c f (term.leaf s) ≡ own_summary a c f (term.leaf s)
      by s = summary_is_tally a c (active_parts a f (term.leaf s)) ∙ join_right (own_summary a c f (term.leaf s))
  summary_formed f c (wait due at) ss fits gate r = sym (summary_is_tally a c (active_parts a f (term.wait (due - c) at)) ∙ join_right (own_summary a c f (term.wait (due - c) at)))
  summary_formed f c (sequence rest) ss fits gate r = right_kids f (sequence rest) c 0 ss r 0 refl ∙ sym (summary_sequence a c f (term_at (terms_of (sequence rest) c 0 ss) 0) rest)
  summary_formed f c parallel ss fits gate r = right_all f parallel c 0 ss (λ j. refl) (λ j. refl) r ∙ sym (summary_parallel a c f (terms_of parallel c 0 ss))
  summary_formed f c select ss fits gate r = right_all f select c 0 ss (λ j. refl) (λ j. refl) r ∙ sym (summary_select a c f (terms_of select c 0 ss))
  summary_formed f c (guarded e at s) ss fits gate r =
      behind_gate (tested a f at e) (is_running s) (summaries.shifted s.behind (kept_at ss 0)) (summary_of a c f (term_at (terms_of (guarded e at s) c 0 ss) 0)) gate
      (λ g. ap (summaries.shifted s.behind) (right_kids f (guarded e at s) c 0 ss r 0 g) ∙ shift_adds f c s (term_at (terms_of (guarded e at s) c 0 ss) 0) fits g)
      ∙ sym (summary_guarded a c f e at (term_at (terms_of (guarded e at s) c 0 ss) 0))
  summary_formed f c (frame number inputs results) ss fits gate r = right_kids number (frame number inputs results) c 0 ss r 0 refl ∙ sym (summary_frame a c f number inputs results (term_at (terms_of (frame number inputs results) c 0 ss) 0))
  summary_formed f c abort ss fits gate r = (λ i. join (right_kids f abort c 0 ss r 0 refl i) (right_kids f abort c 0 ss r 1 refl i)) ∙ sym (summary_abort a c f (term_at (terms_of abort c 0 ss) 0) (term_at (terms_of abort c 0 ss) 1))
  summary_formed f c (idle again s) ss fits gate r =
      (λ i. join ((ap (summaries.shifted s.behind) (right_kids f (idle again s) c 0 ss r 0 refl) ∙ shift_adds f c s (term_at (terms_of (idle again s) c 0 ss) 0) fits.0 fits.1) i) (right_kids f (idle again s) c 0 ss r 1 refl i))
      ∙ sym (summary_idle a c f (term_at (terms_of (idle again s) c 0 ss) 0) (term_at (terms_of (idle again s) c 0 ss) 1) again)
  summary_formed f c (handling again s) ss fits gate r = right_kids f (handling again s) c 0 ss r 1 refl ∙ sym (summary_handling a c f (term_at (terms_of (handling again s) c 0 ss) 0) (term_at (terms_of (handling again s) c 0 ss) 1) again)
  summary_formed f c (shifted s) ss fits gate r = ap (summaries.shifted s.behind) (right_kids f (shifted s) c 0 ss r 0 refl) ∙ shift_adds f c s (term_at (terms_of (shifted s) c 0 ss) 0) fits.0 fits.1

-- a node that is written with what its children keep is right, if they are
pub written_right : (a : Context) (f c k : ℕ) (x : What) (ss : Shapes) → HeadFits x.head c → GateRight a f x.head → RightAll a (inner_frame x.head f) x.head c 0 ss → x.kept ≡ node_summary a f c x.head ss → Right a f c (node k x ss)
written_right a f c k x ss fits gate r e = (e ∙ summary_formed a f c x.head ss fits gate r, gate, r)
