-- What becomes of a node in which something wakes, form by form.
use Rattle.std.proofs.Common.{◌≡◌, ◌+◌, ◌||◌, ℕ, zero, suc, Bool, true, false, List, None, Result, Ok, Err, refl, ap, sym, ◌∙◌, subst, inl, inr}
use Rattle.std.specs.Prelude.{map}
use Rattle.pz_classes_code.specs.pz_syntax.declared.tokens.Pos.{Pos}
use Rattle.pz_classes_code.specs.pz_syntax.Statements as statement
use Rattle.pz_clock.specs.Shifts.{ShiftView, is_running}
use Rattle.pz_tree_refreshing.specs.pz_eval_rules.Clocks.{names_clock}
use Rattle.pz_nodes_shapes.proofs.Frames.{decided, not_both}
use Rattle.pz_tree_refreshing.specs.pz_offer.declared.summary.Summary.{Summary}
use Rattle.pz_tree_refreshing.specs.pz_offer.declared.trouble.Trouble.{Trouble}
use Rattle.pz_tree_refreshing.specs.pz_offer.Summaries.{nothing}
use Rattle.pz_tree_refreshing.specs.pz_rules.Settings.{Context}
use Rattle.pz_tree_refreshing.specs.pz_rules.Terms.{Code, Step, Terms, no_terms, term_at}
use Rattle.pz_tree_refreshing.specs.pz_rules.devices.Found.{tested}
use Rattle.pz_tree_refreshing.specs.pz_rules.devices.Passing.{begun}
use Rattle.pz_tree_refreshing.specs.pz_rules.devices.Walk.{ActivePart, under, behind, active_parts}
use Rattle.pz_tree_refreshing.specs.pz_tree_standing.Steady.{later}
use Rattle.pz_tree_refreshing.specs.pz_tree_standing.Summaries.{summary_of, gated}
use Rattle.pz_tree_refreshing.specs.pz_tree_standing.Woken.{any_part, begins, is_clocked}
use Rattle.pz_tree_refreshing.specs.pz_tree_standing.devices.SummaryLaws.{TestIsSteady}
use Rattle.pz_tree_refreshing.proofs.pz_tree_standing_proofs.Tallies.{summary_guarded}
use Rattle.pz_tree_refreshing.specs.pz_tree_standing.Heads.{Head, leaf, wait, sequence, parallel, select, guarded, frame, abort, idle, handling, shifted, inner_frame, formed}
use Rattle.pz_tree_refreshing.specs.pz_tree_standing.Reached.{reaches, is_true, GateRight}
use Rattle.pz_tree_refreshing.specs.pz_tree_standing.Calm.{HasBegun}
use Rattle.pz_tree_refreshing.proofs.pz_tree_standing_proofs.Still.{is_ok}
use Rattle.pz_tree_refreshing.specs.pz_tree_nodes.declared.kept.Kept.{Kept}
use Rattle.pz_tree_refreshing.specs.pz_tree_nodes.declared.node.Head as lying
use Rattle.pz_tree_refreshing.specs.pz_tree_nodes.declared.node.What.{What}
use Rattle.pz_tree_refreshing.specs.pz_tree_nodes.Keeping.{kept_none}
use Rattle.pz_tree_refreshing.specs.pz_tree_nodes.View.{head_view}
use Rattle.pz_tree_refreshing.specs.pz_rules.Short.{IsShort}
use Rattle.pz_tree_refreshing.specs.devices.Asked.{MayAsk, IsAsked, AskRule}
use Rattle.pz_tree_refreshing.proofs.Gates.{plain_asked, guard_asked}
use Rattle.pz_tree_refreshing.proofs.Sums.{IsPlain}
use Rattle.pz_tree_elapsing.specs.Waking.{wakes, is_due}
use Rattle.pz_tree_elapsing.specs.devices.Wakes.{asked_anew, statement_asked_anew, turn_by, turn_of, Turns, passed_reached, IsWoken, WakeRule}
use Rattle.pz_tree_elapsing.proofs.Goings.{IsNoWait, head_onward, form_goes}
use Rattle.pz_tree_elapsing.proofs.Shorts.{formed_short}

or_left : (b : Bool) → false || b ≡ b
or_left b = refl

-- ---------------------------------------------------------- gates

gates_turn : (was run : Bool) (e x : Code) (at z : Pos) (s t : ShiftView) → is_running s ≡ was → is_running t ≡ run → Turns (turn_by was run) (guarded e at s) (guarded x z t)
gates_turn was run e x at z s t p q = of was run p q
  where
    beyond : (s : ShiftView) (i : ℕ) → reaches (guarded e at s) (suc i) ≡ false
    beyond s i = refl

    same : (was : Bool) → is_running s ≡ was → is_running t ≡ was → (i : ℕ) → reaches (guarded x z t) i ≡ reaches (guarded e at s) i
    same was p q zero = q ∙ sym p
    same was p q (suc i) = refl

    shut : (s : ShiftView) (x : Code) (z : Pos) → is_running s ≡ false → (i : ℕ) → reaches (guarded x z s) i ≡ false
    shut s x z q zero = q
    shut s x z q (suc i) = refl

    of : (was run : Bool) → is_running s ≡ was → is_running t ≡ run → Turns (turn_by was run) (guarded e at s) (guarded x z t)
    of true true p q = same true p q
    of true false p q = (shut t x z q, refl)
    of false true p q = (shut s e at p, (λ i. refl), q, refl)
    of false false p q = same false p q

-- a node of which something is asked, and one that has the same form
abbrev IsAskable : Head → Type 0
IsAskable (leaf s) = Unit {0}
IsAskable (guarded e at s) = Unit {0}
IsAskable h = ⊥

turned : (h g : Head) (c : ℕ) → IsAskable h → ((ts : Terms) → formed g c ts ≡ formed h c ts) → Turns (turn_of (reaches h 0) g) h g
turned (leaf s) (leaf x) c p e = λ i. refl
turned (leaf s) (wait due at) c p e = absurd (let q = e no_terms in cc)
turned (leaf s) (sequence rest) c p e = absurd (let q = e no_terms in cc)
turned (leaf s) parallel c p e = absurd (let q = e no_terms in cc)
turned (leaf s) select c p e = absurd (let q = e no_terms in cc)
turned (leaf s) (guarded x at t) c p e = absurd (let q = e no_terms in cc)
turned (leaf s) (frame number inputs results) c p e = absurd (let q = e no_terms in cc)
turned (leaf s) abort c p e = absurd (let q = e no_terms in cc)
turned (leaf s) (idle again t) c p e = absurd (let q = e no_terms in cc)
turned (leaf s) (handling again t) c p e = absurd (let q = e no_terms in cc)
turned (leaf s) (shifted t) c p e = absurd (let q = e no_terms in cc)
turned (guarded x at s) (leaf y) c p e = absurd (let q = e no_terms in cc)
turned (guarded x at s) (wait due z) c p e = absurd (let q = e no_terms in cc)
turned (guarded x at s) (sequence rest) c p e = absurd (let q = e no_terms in cc)
turned (guarded x at s) parallel c p e = absurd (let q = e no_terms in cc)
turned (guarded x at s) select c p e = absurd (let q = e no_terms in cc)
turned (guarded x at s) (guarded y z t) c p e = gates_turn (is_running s) (is_running t) x y at z s t refl refl
turned (guarded x at s) (frame number inputs results) c p e = absurd (let q = e no_terms in cc)
turned (guarded x at s) abort c p e = absurd (let q = e no_terms in cc)
turned (guarded x at s) (idle again t) c p e = absurd (let q = e no_terms in cc)
turned (guarded x at s) (handling again t) c p e = absurd (let q = e no_terms in cc)
turned (guarded x at s) (shifted t) c p e = absurd (let q = e no_terms in cc)
turned (wait due at) g c p e = absurd p
turned (sequence rest) g c p e = absurd p
turned parallel g c p e = absurd p
turned select g c p e = absurd p
turned (frame number inputs results) g c p e = absurd p
turned abort g c p e = absurd p
turned (idle again s) g c p e = absurd p
turned (handling again s) g c p e = absurd p
turned (shifted s) g c p e = absurd p

plain_turns : (h : Head) (was : Bool) → IsPlain h → Turns (turn_of was h) h h
plain_turns (leaf s) was p = absurd p
plain_turns (wait due at) was p = absurd p
plain_turns (sequence rest) was p = λ i. refl
plain_turns parallel was p = λ i. refl
plain_turns select was p = λ i. refl
plain_turns (guarded e at s) was p = absurd p
plain_turns (frame number inputs results) was p = λ i. refl
plain_turns abort was p = λ i. refl
plain_turns (idle again s) was p = λ i. refl
plain_turns (handling again s) was p = λ i. refl
plain_turns (shifted s) was p = λ i. refl

-- ---------------------------------------------------------- what was asked at the later clock

-- a node that stays the same but for what it was asked
asked_wakes : (a : Context) (d f c : ℕ) (h g : Head) (own : Kept) → IsNoWait h → HasBegun h → GateRight a f h → Turns (turn_of (reaches h 0) g) h g
    → IsAsked (later a d) f (c + d) h g own → IsWoken a d f c h g own
asked_wakes a d f c h g own no_wait begun gate turns is = record {
  fits = is.fits;
  gate = is.gate;
  clocks = is.clocks;
  frame = is.frame;
  passes = λ ts. is.forms (passed_reached a d (inner_frame h f) h 0 ts) ∙ form_goes a d f h c ts begun gate;
  parts = is.parts;
  bare = is.bare;
  summary = is.summary;
  starts = is.starts;
  clocked = is.clocked;
  soon = is.soon;
  short = λ ts e. subst IsShort (sym (is.forms ts)) (formed_short h (c + d) ts no_wait e);
  turns = turns;
}

plain_no_wait : (h : Head) → IsPlain h → IsNoWait h
plain_no_wait (leaf s) p = absurd p
plain_no_wait (wait due at) p = absurd p
plain_no_wait (sequence rest) p = tt
plain_no_wait parallel p = tt
plain_no_wait select p = tt
plain_no_wait (guarded e at s) p = absurd p
plain_no_wait (frame number inputs results) p = tt
plain_no_wait abort p = tt
plain_no_wait (idle again s) p = tt
plain_no_wait (handling again s) p = tt
plain_no_wait (shifted s) p = tt

plain_begun : (h : Head) → IsPlain h → HasBegun h
plain_begun (leaf s) p = absurd p
plain_begun (wait due at) p = absurd p
plain_begun (sequence rest) p = tt
plain_begun parallel p = tt
plain_begun select p = tt
plain_begun (guarded e at s) p = absurd p
plain_begun (frame number inputs results) p = tt
plain_begun abort p = tt
plain_begun (idle again s) p = tt
plain_begun (handling again s) p = tt
plain_begun (shifted s) p = tt

plain_may_ask : (h : Head) → IsPlain h → MayAsk h
plain_may_ask (leaf s) p = absurd p
plain_may_ask (wait due at) p = absurd p
plain_may_ask (sequence rest) p = tt
plain_may_ask parallel p = tt
plain_may_ask select p = tt
plain_may_ask (guarded e at s) p = absurd p
plain_may_ask (frame number inputs results) p = tt
plain_may_ask abort p = tt
plain_may_ask (idle again s) p = tt
plain_may_ask (handling again s) p = tt
plain_may_ask (shifted s) p = tt

plain_wakes : (a : Context) (d f c : ℕ) (h : Head) (k : Kept) → IsPlain h → WakeRule a d f c h k h kept_none
plain_wakes a d f c h k p ts w = asked_wakes a d f c h h kept_none (plain_no_wait h p) (plain_begun h p) w.gate (plain_turns h (reaches h 0) p)
    (plain_asked (later a d) f (c + d) h p (head_onward h c d (plain_no_wait h p) w.fits) (plain_may_ask h p) w.room)

-- the same of the code's nodes
pub plain_goes : (a : Context) (d f c : ℕ) (x y : lying.Head) (k : Kept) (w : What) → x ≡ y → w.head ≡ y → w.kept ≡ kept_none → IsPlain (head_view y) → WakeRule a d f c (head_view x) k (head_view w.head) w.kept
plain_goes a d f c x y k w is head_is kept_is p =
    subst (λ (z : lying.Head). WakeRule a d f c (head_view z) k (head_view w.head) w.kept) (sym is)
    (subst (λ (z : lying.Head). WakeRule a d f c (head_view y) k (head_view z) w.kept) (sym head_is)
    (subst (WakeRule a d f c (head_view y) k (head_view y)) (sym kept_is) (plain_wakes a d f c (head_view y) k p)))

-- what names the clock
begun_anew : (s : Step) → statement_asked_anew s ≡ true → HasBegun (leaf s)
begun_anew (statement.skip at) e = absurd cc
begun_anew (statement.delay at x) e = absurd cc
begun_anew (statement.bracketed at ts) e = absurd cc
begun_anew (statement.block at es) e = absurd cc
begun_anew (statement.guarded at x t) e = absurd cc
begun_anew (statement.parallel at bs) e = absurd cc
begun_anew (statement.select at bs) e = absurd cc
begun_anew (statement.conditional at x ts other) e = absurd cc
begun_anew (statement.repeated at x ts) e = absurd cc
begun_anew (statement.abort at ts t) e = absurd cc
begun_anew (statement.interrupt at ts t) e = absurd cc
begun_anew (statement.send at port name args after) e = tt
begun_anew (statement.receive at port name into condition after) e = absurd cc
begun_anew (statement.call at method args results) e = absurd cc
begun_anew (statement.assignment at x t) e = absurd cc
begun_anew (statement.value at x) e = absurd cc

may_ask_anew : (s : Step) → statement_asked_anew s ≡ true → MayAsk (leaf s)
may_ask_anew (statement.skip at) e = absurd cc
may_ask_anew (statement.delay at x) e = absurd cc
may_ask_anew (statement.bracketed at ts) e = absurd cc
may_ask_anew (statement.block at es) e = absurd cc
may_ask_anew (statement.guarded at x t) e = absurd cc
may_ask_anew (statement.parallel at bs) e = absurd cc
may_ask_anew (statement.select at bs) e = absurd cc
may_ask_anew (statement.conditional at x ts other) e = absurd cc
may_ask_anew (statement.repeated at x ts) e = absurd cc
may_ask_anew (statement.abort at ts t) e = absurd cc
may_ask_anew (statement.interrupt at ts t) e = absurd cc
may_ask_anew (statement.send at port name args after) e = refl
may_ask_anew (statement.receive at port name into condition after) e = absurd cc
may_ask_anew (statement.call at method args results) e = absurd cc
may_ask_anew (statement.assignment at x t) e = absurd cc
may_ask_anew (statement.value at x) e = absurd cc

asked_alike : (a : Context) (d f c : ℕ) (h g : Head) (own k : Kept) → IsAskable h → IsNoWait h → HasBegun h → MayAsk h → AskRule (later a d) f (c + d) h g own → WakeRule a d f c h k g own
asked_alike a d f c h g own k askable no_wait begun may ask ts w =
    let is = ask (head_onward h c d no_wait w.fits) may w.room in
    asked_wakes a d f c h g own no_wait begun w.gate (turned h g (c + d) askable is.forms) is

pub anew_wakes : (a : Context) (d f c : ℕ) (h g : Head) (own k : Kept) → asked_anew h ≡ true → AskRule (later a d) f (c + d) h g own → WakeRule a d f c h k g own
anew_wakes a d f c (leaf s) g own k e ask = asked_alike a d f c (leaf s) g own k tt tt (begun_anew s e) (may_ask_anew s e) ask
anew_wakes a d f c (wait due at) g own k e ask = absurd cc
anew_wakes a d f c (sequence rest) g own k e ask = absurd cc
anew_wakes a d f c parallel g own k e ask = absurd cc
anew_wakes a d f c select g own k e ask = absurd cc
anew_wakes a d f c (guarded x at s) g own k e ask = asked_alike a d f c (guarded x at s) g own k tt tt tt tt ask
anew_wakes a d f c (frame number inputs results) g own k e ask = absurd cc
anew_wakes a d f c abort g own k e ask = absurd cc
anew_wakes a d f c (idle again s) g own k e ask = absurd cc
anew_wakes a d f c (handling again s) g own k e ask = absurd cc
anew_wakes a d f c (shifted s) g own k e ask = absurd cc

-- ---------------------------------------------------------- a guard whose test does not name the clock

-- where it is shut nothing wakes in it
shut_sleeps : (now : ℕ) (r : Result Bool Trouble) (run : Bool) (ps : List ActivePart) (s : Summary) (k : Kept) → run ≡ is_true r → run ≡ false
    → k.summary ≡ gated r s → k.starts ≡ any_part begins (behind r ps) → k.clocked ≡ any_part is_clocked (behind r ps) → wakes now k ≡ false
shut_sleeps now (Ok true) run ps s k g e p q v = absurd cc
shut_sleeps now (Ok false) run ps s k g e p q v = λ i. is_due now (ap (λ (z : Summary). z.due) p i) || (q i || v i)
shut_sleeps now (Err t) run ps s k g e p q v = λ i. is_due now (ap (λ (z : Summary). z.due) p i) || (q i || v i)

pub guard_wakes : TestIsSteady → (a : Context) (d f c : ℕ) (e : Code) (at : Pos) (s : ShiftView) (k : Kept) → names_clock e ≡ false → WakeRule a d f c (guarded e at s) k (guarded e at s) kept_none
guard_wakes tests a d f c e at s k unnamed ts w =
    let t = term_at ts 0 in
    let ps = map (under 0) (active_parts a f t) in
    let r = tested a f at e in
    let clocked_is : k.clocked ≡ any_part is_clocked (behind r ps) = w.flags.clocked ∙ ap (λ b. b || any_part is_clocked (behind r ps)) unnamed in
    let run : is_running s ≡ true = elim (decided (is_running s)) [
      | inl p ↦ p
      | inr p ↦ not_both (wakes (c + d) k) w.woken (shut_sleeps (c + d) r (is_running s) ps (summary_of a c f t) k w.gate p (w.summary ∙ summary_guarded a c f e at t) w.flags.starts clocked_is)
    ] in
    let same : tested (later a d) f at e ≡ Ok true = tests a d f at e w.timeless unnamed ∙ is_ok a d r (is_running s) w.gate run in
    asked_wakes a d f c (guarded e at s) (guarded e at s) kept_none tt tt w.gate (gates_turn (is_running s) (is_running s) e e at at s s refl refl)
    (guard_asked (later a d) f (c + d) e at s s (Ok true) true None (sym same) (refl, refl)
    (record { fits = head_onward (guarded e at s) c d tt w.fits; local = refl; runs = run }) kept_none
    (λ i. record kept_none { summary = nothing; clocked = sym unnamed i }))

pub guard_goes : TestIsSteady → (a : Context) (d f c : ℕ) (e : Code) (at : Pos) (s : ShiftView) (h : Head) (k own : Kept) (g : Head) → h ≡ guarded e at s → g ≡ guarded e at s → own ≡ kept_none → asked_anew h ≡ false → WakeRule a d f c h k g own
guard_goes tests a d f c e at s h k own g h_is g_is own_is unnamed =
    subst (λ z. WakeRule a d f c z k g own) (sym h_is)
    (subst (λ z. WakeRule a d f c (guarded e at s) k z own) (sym g_is)
    (subst (WakeRule a d f c (guarded e at s) k (guarded e at s)) (sym own_is) (guard_wakes tests a d f c e at s k (sym (ap asked_anew h_is) ∙ unnamed))))
