-- A node that is asked, form by form.
use Rattle.std.proofs.Common.{◌≡◌, ℕ, ◌||◌, Bool, true, false, List, map, Option, Some, Result, Ok, Err, refl, ap, sym, ◌∙◌, subst}
use Rattle.pz_classes_code.specs.pz_syntax.declared.tokens.Pos.{Pos}
use Rattle.pz_clock.specs.Shifts.{ShiftView, is_running}
use Rattle.pz_tree_nodes.specs.pz_eval_rules.Clocks.{names_clock}
use Rattle.pz_tree_nodes.specs.pz_offer.declared.trouble.Trouble.{Trouble}
use Rattle.pz_tree_nodes.specs.pz_offer.declared.summary.Summary.{Summary}
use Rattle.pz_tree_nodes.specs.pz_offer.Summaries.{nothing, join}
use Rattle.pz_tree_nodes.proofs.pz_offer_proofs.Joins.{join_left, join_right}
use Rattle.pz_tree_nodes.specs.pz_rules.Settings.{Context}
use Rattle.pz_tree_nodes.specs.pz_rules.Terms.{Code, Step, Term, Terms, term_at, leaf}
use Rattle.pz_tree_nodes.specs.pz_rules.devices.Found.{tested}
use Rattle.pz_tree_nodes.specs.pz_rules.devices.Walk.{ActivePart, under, behind, active_parts}
use Rattle.pz_tree_nodes.specs.pz_tree_standing.Asked.{asks}
use Rattle.pz_tree_nodes.specs.pz_tree_standing.Summaries.{summary_of, gated}
use Rattle.pz_tree_nodes.specs.pz_tree_standing.Woken.{any_part, begins, is_clocked, statement_begins, statement_names_clock, starts, clocked}
use Rattle.pz_tree_nodes.proofs.pz_tree_standing_proofs.Tallies.{summary_guarded}
use Rattle.pz_tree_nodes.proofs.pz_tree_standing_proofs.Unasked.{alone}
use Rattle.pz_tree_nodes.specs.pz_tree_standing.Heads.{Head, inner_frame, formed}
use Rattle.pz_tree_nodes.specs.pz_tree_standing.Heads as head
use Rattle.pz_tree_nodes.specs.pz_tree_standing.Reached.{is_true, GateRight}
use Rattle.pz_tree_nodes.specs.declared.kept.Kept.{Kept}
use Rattle.pz_tree_nodes.specs.declared.node.Head as lying
use Rattle.pz_tree_nodes.specs.declared.node.Head.TheVariants as kind
use Rattle.pz_tree_nodes.specs.declared.node.What.{What}
use Rattle.pz_tree_nodes.specs.Keeping.{kept_none}
use Rattle.pz_tree_nodes.specs.View.{head_view}
use Rattle.pz_tree_nodes.proofs.Wakings.{or_none, in_under}
use Rattle.pz_tree_refreshing.specs.devices.Reached.{added, reached_sum}
use Rattle.pz_tree_refreshing.specs.devices.Asked.{MayAsk, SaysItself, IsAsked, AskRule, IsGated, IsAnswer}
use Rattle.pz_tree_refreshing.proofs.Sums.{IsPlain, first_sum, none_sum, plain_summary, plain_starts, plain_clocked}

or_left : (b : Bool) → false || b ≡ b
or_left b = refl

-- ---------------------------------------------------------- what is asked nothing itself

plain_gate : (a : Context) (f : ℕ) (h : Head) → IsPlain h → GateRight a f h
plain_gate a f (head.leaf s) p = absurd p
plain_gate a f (head.wait due at) p = absurd p
plain_gate a f (head.sequence rest) p = tt
plain_gate a f head.parallel p = tt
plain_gate a f head.select p = tt
plain_gate a f (head.guarded e at s) p = absurd p
plain_gate a f (head.frame number inputs results) p = tt
plain_gate a f head.abort p = tt
plain_gate a f (head.idle again s) p = tt
plain_gate a f (head.handling again s) p = tt
plain_gate a f (head.shifted s) p = tt

pub plain_asked : (a : Context) (f c : ℕ) (h : Head) → IsPlain h → AskRule a f c h h kept_none
plain_asked a f c h p fits may room = record {
  fits = fits;
  gate = plain_gate a f h p;
  clocks = λ i. refl;
  frame = λ g. refl;
  forms = λ ts. refl;
  parts = λ ss q. q;
  bare = λ q. q;
  summary = λ ts. plain_summary a h f c ts p ∙ sym (join_left (reached_sum nothing join h (summary_of a c (inner_frame h f)) 0 ts));
  starts = λ ts. plain_starts a h f c ts p;
  clocked = λ ts. plain_clocked a h f c ts p;
  soon = tt;
}

-- the same of the code's nodes
pub plain_what : (a : Context) (f c : ℕ) (x y : lying.Head) (w : What) → x ≡ y → w.head ≡ y → w.kept ≡ kept_none → IsPlain (head_view y) → AskRule a f c (head_view x) (head_view w.head) w.kept
plain_what a f c x y w is head_is kept_is p =
    subst (λ (z : lying.Head). AskRule a f c (head_view z) (head_view w.head) w.kept) (sym is)
    (subst (λ (z : lying.Head). AskRule a f c (head_view y) (head_view z) w.kept) (sym head_is)
    (subst (AskRule a f c (head_view y) (head_view y)) (sym kept_is) (plain_asked a f c (head_view y) p)))

-- a delay that has begun is never asked
pub never_asked : (a : Context) (f c due : ℕ) (at : Pos) (x : lying.Head) (h : Head) (own : Kept) → x ≡ kind.Wait due at → AskRule a f c (head_view x) h own
never_asked a f c due at x h own is fits may room = absurd (subst (λ (z : lying.Head). MayAsk (head_view z)) is may)

-- ---------------------------------------------------------- statements that have not begun

pub leaf_asked : (a : Context) (f c : ℕ) (s : Step) (own : Kept) → SaysItself a f c s own → IsAsked a f c (head.leaf s) (head.leaf s) own
leaf_asked a f c s own says = record {
  fits = tt;
  gate = tt;
  clocks = λ i. refl;
  frame = λ g. refl;
  forms = λ ts. refl;
  parts = λ ss q. q;
  bare = λ q. q;
  summary = λ ts. alone a c f (leaf s) refl ∙ sym says.summary
      ∙ sym (ap (join own.summary) (none_sum nothing join join_left join_right (head.leaf s) (summary_of a c f) (λ i. refl) 0 ts) ∙ join_right own.summary);
  starts = λ ts. or_none (statement_begins s) ∙ sym says.starts
      ∙ sym (ap (λ b. own.starts || b) (none_sum false ◌||◌ or_left or_none (head.leaf s) (starts a f) (λ i. refl) 0 ts) ∙ or_none own.starts);
  clocked = λ ts. or_none (statement_names_clock s) ∙ sym says.clocked
      ∙ sym (ap (λ b. own.clocked || b) (none_sum false ◌||◌ or_left or_none (head.leaf s) (clocked a f) (λ i. refl) 0 ts) ∙ or_none own.clocked);
  soon = says.soon;
}

-- ---------------------------------------------------------- guards

abbrev own_of : Option Trouble → Summary
own_of t = record nothing { trouble = t }

guard_sum : (r : Result Bool Trouble) (gate_open run : Bool) (trouble : Option Trouble) (s : Summary) → IsAnswer r gate_open trouble → run ≡ gate_open → gated r s ≡ join (own_of trouble) (added join run s nothing)
guard_sum (Ok true) gate_open run trouble s h e =
    sym (join_right s) ∙ sym (join_left (join s nothing)) ∙ λ i. join (own_of (sym h.1 i)) (added join (sym (e ∙ h.0) i) s nothing)
guard_sum (Ok false) gate_open run trouble s h e = sym (join_left nothing) ∙ λ i. join (own_of (sym h.1 i)) (added join (sym (e ∙ h.0) i) s nothing)
guard_sum (Err t) gate_open run trouble s h e = sym (join_right (own_of (Some t))) ∙ λ i. join (own_of (sym h.1 i)) (added join (sym (e ∙ h.0) i) s nothing)

guard_flag : (q : Term → Bool) (r : Result Bool Trouble) (gate_open run : Bool) (trouble : Option Trouble) (ps : List ActivePart) → IsAnswer r gate_open trouble → run ≡ gate_open → any_part q (behind r (map (under 0) ps)) ≡ added ◌||◌ run (any_part q ps) false
guard_flag q (Ok true) gate_open run trouble ps h e = in_under q 0 ps ∙ sym (or_none (any_part q ps)) ∙ λ i. added ◌||◌ (sym (e ∙ h.0) i) (any_part q ps) false
guard_flag q (Ok false) gate_open run trouble ps h e = λ i. added ◌||◌ (sym (e ∙ h.0) i) (any_part q ps) false
guard_flag q (Err t) gate_open run trouble ps h e = λ i. added ◌||◌ (sym (e ∙ h.0) i) (any_part q ps) false

opens_by : (r : Result Bool Trouble) (gate_open : Bool) (trouble : Option Trouble) → IsAnswer r gate_open trouble → gate_open ≡ is_true r
opens_by (Ok b) gate_open trouble h = h.0
opens_by (Err t) gate_open trouble h = h.0

module _ (a : Context) (f c : ℕ) (e : Code) (at : Pos) (s t : ShiftView) (r : Result Bool Trouble) (gate_open : Bool) (trouble : Option Trouble)
    (is : r ≡ tested a f at e) (ans : IsAnswer r gate_open trouble) (g : IsGated c s gate_open t) (own : Kept)
    (owns : own ≡ record kept_none { summary = own_of trouble; clocked = names_clock e }) where
  abbrev after : Head
  after = head.guarded e at t

  told : IsAnswer (tested a f at e) gate_open trouble
  told = subst (λ z. IsAnswer z gate_open trouble) is ans

  pub guard_asked : IsAsked a f c (head.guarded e at s) after own
  guard_asked = subst (IsAsked a f c (head.guarded e at s) after) (sym owns) (record {
    fits = g.fits;
    gate = g.runs ∙ opens_by (tested a f at e) gate_open trouble told;
    clocks = λ i. g.local;
    frame = λ n. refl;
    forms = λ ts. refl;
    parts = λ ss q. q;
    bare = λ q. tt;
    summary = λ ts. summary_guarded a c f e at (term_at ts 0)
        ∙ guard_sum (tested a f at e) gate_open (is_running t) trouble (summary_of a c f (term_at ts 0)) told g.runs
        ∙ ap (join (own_of trouble)) (sym (first_sum nothing join join_left join_right after (summary_of a c f) refl (λ i. refl) ts));
    starts = λ ts. guard_flag begins (tested a f at e) gate_open (is_running t) trouble (active_parts a f (term_at ts 0)) told g.runs
        ∙ sym (first_sum false ◌||◌ or_left or_none after (starts a f) refl (λ i. refl) ts);
    clocked = λ ts. ap (λ b. names_clock e || b) (guard_flag is_clocked (tested a f at e) gate_open (is_running t) trouble (active_parts a f (term_at ts 0)) told g.runs
        ∙ sym (first_sum false ◌||◌ or_left or_none after (clocked a f) refl (λ i. refl) ts));
    soon = tt;
  })

-- ---------------------------------------------------------- what is visited may be asked

pub may_ask : (h : Head) (c : ℕ) (ts : Terms) → asks (formed h c ts) ≡ true → MayAsk h
may_ask (head.leaf s) c ts e = e
may_ask (head.wait due at) c ts e = absurd cc
may_ask (head.sequence rest) c ts e = tt
may_ask head.parallel c ts e = tt
may_ask head.select c ts e = tt
may_ask (head.guarded test at s) c ts e = tt
may_ask (head.frame number inputs results) c ts e = tt
may_ask head.abort c ts e = tt
may_ask (head.idle again s) c ts e = tt
may_ask (head.handling again s) c ts e = tt
may_ask (head.shifted s) c ts e = tt
