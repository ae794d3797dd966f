-- A delay that begins, one that goes on, and a statement that stays as it is.
use Rattle.std.proofs.Common.{◌≡◌, ◌<◌, ◌≤◌, ◌+◌, ◌-◌, ◌^◌, ◌||◌, eqb, if◌then◌else◌, ℕ, zero, suc, Bool, true, false, Option, Some, None, Result, Ok, Err, refl, ap, sym, ◌∙◌, subst, arith}
use Rattle.std.specs.Prelude.{option_map}
use Rattle.pz_classes_code.specs.pz_syntax.declared.tokens.Pos.{Pos}
use Rattle.pz_classes_code.specs.pz_syntax.Statements as statement
use Rattle.pz_nodes_shapes.proofs.Frames.{not_both}
use Rattle.pz_tree_refreshing.specs.pz_offer.declared.summary.Summary.{Summary}
use Rattle.pz_tree_refreshing.specs.pz_offer.declared.trouble.Trouble.{Trouble}
use Rattle.pz_tree_refreshing.specs.pz_offer.Summaries.{nothing, join}
use Rattle.pz_tree_refreshing.proofs.pz_offer_proofs.Joins.{join_right}
use Rattle.pz_tree_refreshing.proofs.pz_offer_proofs.Joins.{join_left}
use Rattle.pz_tree_refreshing.specs.pz_rules.Settings.{Context}
use Rattle.pz_tree_refreshing.specs.pz_rules.Terms.{Code, Step, Terms}
use Rattle.pz_tree_refreshing.specs.pz_rules.Terms as term
use Rattle.pz_tree_refreshing.specs.pz_rules.devices.Found.{lasting}
use Rattle.pz_tree_refreshing.specs.pz_rules.devices.Passing.{begun}
use Rattle.pz_tree_refreshing.specs.pz_rules.devices.Walk.{expiry, answered, trouble_of}
use Rattle.pz_tree_refreshing.specs.pz_tree_standing.Steady.{later}
use Rattle.pz_tree_refreshing.specs.pz_tree_standing.Summaries.{summary_of}
use Rattle.pz_tree_refreshing.specs.pz_tree_standing.Woken.{starts, clocked}
use Rattle.pz_tree_refreshing.specs.pz_tree_standing.devices.Tallies.{one, own_summary}
use Rattle.pz_tree_refreshing.proofs.pz_tree_standing_proofs.Unasked.{alone}
use Rattle.pz_tree_refreshing.specs.pz_tree_standing.Heads.{Head, leaf, wait}
use Rattle.pz_tree_refreshing.specs.pz_tree_standing.Calm.{HasBegun}
use Rattle.pz_tree_refreshing.specs.pz_tree_nodes.declared.kept.Kept.{Kept}
use Rattle.pz_tree_refreshing.proofs.pz_tree_nodes_proofs.Wakings.{or_none}
use Rattle.pz_tree_refreshing.specs.pz_tree_standing.Soon.{IsSoon}
use Rattle.pz_tree_refreshing.specs.devices.Reached.{reached_sum}
use Rattle.pz_tree_refreshing.proofs.Sums.{none_sum}
use Rattle.pz_tree_elapsing.specs.Waking.{wakes, is_due}
use Rattle.pz_tree_elapsing.specs.Elapsing.{IsNotBefore}
use Rattle.pz_tree_elapsing.specs.devices.Wakes.{begins_at, statement_asked_anew, kept_of_wait, IsWoken, WakeRule}
use Rattle.pz_tree_elapsing.proofs.Goings.{leaf_stays}

or_left : (b : Bool) → false || b ≡ b
or_left b = refl

-- ---------------------------------------------------------- a delay that has begun

equal : (m n : ℕ) → m ≡ n → eqb m n ≡ true
equal m n e = elim (eqb m n) as (λ b. eqb m n ≡ b → eqb m n ≡ true) [ true ↦ λ q. q | false ↦ λ q. absurd (let z : eqb m n ≡ true = grind arith in cc) ] refl

unequal : (m n : ℕ) → (m ≡ n → ⊥) → eqb m n ≡ false
unequal m n d = elim (eqb m n) as (λ b. eqb m n ≡ b → eqb m n ≡ false) [ true ↦ λ e. absurd (d (grind arith)) | false ↦ λ e. e ] refl

expired : (now due left : ℕ) (at : Pos) → now + left ≡ due → one (expiry at (Ok left)) ≡ (if eqb due now then 1 else 0)
expired now due zero at e = ap (λ b. if b then 1 else 0) (sym (equal due now (omega (arith, e))))
expired now due (suc n) at e = ap (λ b. if b then 1 else 0) (sym (unequal due now (λ q. absurd (omega (arith, e, q)))))

wait_sum : (b : Context) (now f due : ℕ) (at : Pos) → now ≤ due → summary_of b now f (term.wait (due - now) at) ≡ (kept_of_wait now due).summary
wait_sum b now f due at h =
    let n : now + (due - now) ≡ due = omega (arith, h) in
    alone b now f (term.wait (due - now) at) refl ∙ λ i. record {
      internal = expired now due (due - now) at n i;
      sends = 0;
      receives = 0;
      due = Some (n i);
      trouble = None;
    }

module _ (a : Context) (d f c due : ℕ) (at : Pos) (within : c + d ≤ due) (soon : due - (c + d) < 2 ^ 64) where
  abbrev b : Context
  b = later a d

  abbrev w : Head
  w = wait due at

  sum_is : (ts : Terms) → summary_of b (c + d) f (term.wait (due - (c + d)) at) ≡ join (kept_of_wait (c + d) due).summary (reached_sum nothing join w (summary_of b (c + d) f) 0 ts)
  sum_is ts = wait_sum b (c + d) f due at within ∙ sym (ap (join (kept_of_wait (c + d) due).summary) (none_sum nothing join join_left join_right w (summary_of b (c + d) f) (λ i. refl) 0 ts) ∙ join_right (kept_of_wait (c + d) due).summary)

  starts_are : (ts : Terms) → false ≡ false || reached_sum false ◌||◌ w (starts b f) 0 ts
  starts_are ts = sym (none_sum false ◌||◌ or_left or_none w (starts b f) (λ i. refl) 0 ts)

  clocked_are : (ts : Terms) → false ≡ false || reached_sum false ◌||◌ w (clocked b f) 0 ts
  clocked_are ts = sym (none_sum false ◌||◌ or_left or_none w (clocked b f) (λ i. refl) 0 ts)

  is_soon : due < (c + d) + 2 ^ 64
  is_soon = omega (arith, within, soon)

some_is : (x y : ℕ) → ◌≡◌ {A = Option ℕ} (Some x) (Some y) → x ≡ y
some_is x y e = cc

-- one that begins is over when it would have been over
begins_is : (c d due : ℕ) (at : Pos) (e : Code) (r : Result ℕ Trouble) → option_map (λ left. c + left) (answered r) ≡ Some due → term.wait (due - (c + d)) at ≡ begun d at e r
begins_is c d due at e (Ok left) q = let n = some_is (c + left) due q in let m : due - (c + d) ≡ left - d = omega (arith, n) in ap (λ z. term.wait z at) m
begins_is c d due at e (Err t) q = absurd cc

delay_wakes : (a : Context) (d f c due : ℕ) (at : Pos) (e : Code) (k : Kept) → k.summary.due ≡ Some due
    → WakeRule a d f c (leaf (statement.delay at e)) k (wait due at) (kept_of_wait (c + d) due)
delay_wakes a d f c due at e k is ts w =
    let near : due < c + 2 ^ 64 = subst (IsSoon c) is w.soon in
    let soon : due - (c + d) < 2 ^ 64 = omega (arith, near) in
    let told : k.summary ≡ own_summary a c f (term.leaf (statement.delay at e)) = w.summary ∙ alone a c f (term.leaf (statement.delay at e)) refl in
    let left : option_map (λ left. c + left) (answered (lasting a f at e)) ≡ Some due = sym (ap (λ (z : Summary). z.due) told) ∙ is in
    let within : c + d ≤ due = subst (IsNotBefore (c + d)) is w.within in
    record {
      fits = within;
      gate = tt;
      clocks = λ i. refl;
      frame = λ n. refl;
      passes = λ us. begins_is c d due at e (lasting a f at e) left;
      parts = λ ss q. q;
      bare = λ q. tt;
      summary = sum_is a d f c due at within soon;
      starts = starts_are a d f c due at within soon;
      clocked = clocked_are a d f c due at within soon;
      soon = is_soon a d f c due at within soon;
      short = λ us q. soon;
      turns = λ i. refl;
    }

wait_wakes : (a : Context) (d f c due : ℕ) (at : Pos) (k : Kept) → WakeRule a d f c (wait due at) k (wait due at) (kept_of_wait (c + d) due)
wait_wakes a d f c due at k ts w =
    let told : k.summary ≡ (kept_of_wait c due).summary = w.summary ∙ wait_sum a c f due at w.fits in
    let within : c + d ≤ due = subst (IsNotBefore (c + d)) (ap (λ (z : Summary). z.due) told) w.within in
    let soon : due - (c + d) < 2 ^ 64 = omega (arith, w.short) in
    record {
      fits = within;
      gate = tt;
      clocks = λ i. refl;
      frame = λ n. refl;
      passes = λ us. ap (λ n. term.wait n at) (let e : due - (c + d) ≡ (due - c) - d = omega arith in e);
      parts = λ ss q. q;
      bare = λ q. tt;
      summary = sum_is a d f c due at within soon;
      starts = starts_are a d f c due at within soon;
      clocked = clocked_are a d f c due at within soon;
      soon = is_soon a d f c due at within soon;
      short = λ us q. soon;
      turns = λ i. refl;
    }

-- ---------------------------------------------------------- another statement

-- it is due at no moment, and neither begins nor names the clock
send_sleeps : (a : Context) (f c now : ℕ) (s : Step) (k : Kept) → k.summary ≡ own_summary a c f (term.leaf s) → (own_summary a c f (term.leaf s)).due ≡ None
    → k.starts ≡ false → k.clocked ≡ false → wakes now k ≡ false
send_sleeps a f c now s k e n p q = λ i. is_due now ((ap (λ (z : Summary). z.due) e ∙ n) i) || (p i || q i)

module _ (a : Context) (d f c : ℕ) (s : Step) (k : Kept) (told : k.summary ≡ own_summary a c f (term.leaf s)) (begun : HasBegun (leaf s)) where
  stays : own_summary a c f (term.leaf s) ≡ own_summary (later a d) (c + d) f (term.leaf s) → (own_summary a c f (term.leaf s)).due ≡ None
      → k.starts ≡ starts a f (term.leaf s) → k.clocked ≡ clocked a f (term.leaf s) → IsWoken a d f c (leaf s) (leaf s) k
  stays same none_due begins_so names_so = record {
    fits = tt;
    gate = tt;
    clocks = λ i. refl;
    frame = λ n. refl;
    passes = λ us. leaf_stays a d f s begun;
    parts = λ ss q. q;
    bare = λ q. q;
    summary = λ us. alone (later a d) (c + d) f (term.leaf s) refl ∙ sym same ∙ sym told
        ∙ sym (ap (join k.summary) (none_sum nothing join join_left join_right (leaf s) (summary_of (later a d) (c + d) f) (λ i. refl) 0 us) ∙ join_right k.summary);
    starts = λ us. sym begins_so ∙ sym (ap (λ b. k.starts || b) (none_sum false ◌||◌ or_left or_none (leaf s) (starts (later a d) f) (λ i. refl) 0 us) ∙ or_none k.starts);
    clocked = λ us. sym names_so ∙ sym (ap (λ b. k.clocked || b) (none_sum false ◌||◌ or_left or_none (leaf s) (clocked (later a d) f) (λ i. refl) 0 us) ∙ or_none k.clocked);
    soon = subst (IsSoon (c + d)) (sym (ap (λ (z : Summary). z.due) told ∙ none_due)) tt;
    short = λ us q. tt;
    turns = λ i. refl;
  }

still : (a : Context) (d f c : ℕ) (s : Step) (k : Kept) → begins_at s ≡ None → statement_asked_anew s ≡ false → WakeRule a d f c (leaf s) k (leaf s) k
still a d f c (statement.skip at) k e u ts w = stays a d f c (statement.skip at) k (w.summary ∙ alone a c f (term.leaf (statement.skip at)) refl) tt refl refl w.flags.starts w.flags.clocked
still a d f c (statement.delay at x) k e u ts w = absurd cc
still a d f c (statement.bracketed at bs) k e u ts w = stays a d f c (statement.bracketed at bs) k (w.summary ∙ alone a c f (term.leaf (statement.bracketed at bs)) refl) tt refl refl w.flags.starts w.flags.clocked
still a d f c (statement.block at es) k e u ts w = stays a d f c (statement.block at es) k (w.summary ∙ alone a c f (term.leaf (statement.block at es)) refl) tt refl refl w.flags.starts w.flags.clocked
still a d f c (statement.guarded at x t) k e u ts w = stays a d f c (statement.guarded at x t) k (w.summary ∙ alone a c f (term.leaf (statement.guarded at x t)) refl) tt refl refl w.flags.starts w.flags.clocked
still a d f c (statement.parallel at bs) k e u ts w = stays a d f c (statement.parallel at bs) k (w.summary ∙ alone a c f (term.leaf (statement.parallel at bs)) refl) tt refl refl w.flags.starts w.flags.clocked
still a d f c (statement.select at bs) k e u ts w = stays a d f c (statement.select at bs) k (w.summary ∙ alone a c f (term.leaf (statement.select at bs)) refl) tt refl refl w.flags.starts w.flags.clocked
still a d f c (statement.conditional at x bs other) k e u ts w = stays a d f c (statement.conditional at x bs other) k (w.summary ∙ alone a c f (term.leaf (statement.conditional at x bs other)) refl) tt refl refl w.flags.starts w.flags.clocked
still a d f c (statement.repeated at x bs) k e u ts w = stays a d f c (statement.repeated at x bs) k (w.summary ∙ alone a c f (term.leaf (statement.repeated at x bs)) refl) tt refl refl w.flags.starts w.flags.clocked
still a d f c (statement.abort at bs t) k e u ts w = stays a d f c (statement.abort at bs t) k (w.summary ∙ alone a c f (term.leaf (statement.abort at bs t)) refl) tt refl refl w.flags.starts w.flags.clocked
still a d f c (statement.interrupt at bs t) k e u ts w = stays a d f c (statement.interrupt at bs t) k (w.summary ∙ alone a c f (term.leaf (statement.interrupt at bs t)) refl) tt refl refl w.flags.starts w.flags.clocked
still a d f c (statement.send at port name args after) k e u ts w =
    let s : Step = statement.send at port name args after in
    let told = w.summary ∙ alone a c f (term.leaf s) refl in
    absurd (not_both (wakes (c + d) k) w.woken (send_sleeps a f c (c + d) s k told refl w.flags.starts (w.flags.clocked ∙ ap (λ b. b || false) u)))
still a d f c (statement.receive at port name into condition after) k e u ts w = stays a d f c (statement.receive at port name into condition after) k (w.summary ∙ alone a c f (term.leaf (statement.receive at port name into condition after)) refl) tt refl refl w.flags.starts w.flags.clocked
still a d f c (statement.call at method args results) k e u ts w = stays a d f c (statement.call at method args results) k (w.summary ∙ alone a c f (term.leaf (statement.call at method args results)) refl) tt refl refl w.flags.starts w.flags.clocked
still a d f c (statement.assignment at x t) k e u ts w = stays a d f c (statement.assignment at x t) k (w.summary ∙ alone a c f (term.leaf (statement.assignment at x t)) refl) tt refl refl w.flags.starts w.flags.clocked
still a d f c (statement.value at x) k e u ts w = stays a d f c (statement.value at x) k (w.summary ∙ alone a c f (term.leaf (statement.value at x)) refl) tt refl refl w.flags.starts w.flags.clocked

pub statement_stays : (a : Context) (d f c : ℕ) (s : Step) (k own : Kept) (g : Head) → begins_at s ≡ None → statement_asked_anew s ≡ false → g ≡ leaf s → own ≡ k → WakeRule a d f c (leaf s) k g own
statement_stays a d f c s k own g e u g_is own_is = subst (λ z. WakeRule a d f c (leaf s) k z own) (sym g_is) (subst (WakeRule a d f c (leaf s) k (leaf s)) (sym own_is) (still a d f c s k e u))

-- a delay without a moment has a trouble, or is not right
never_due : (c : ℕ) (r : Result ℕ Trouble) → option_map (λ left. c + left) (answered r) ≡ None → trouble_of r ≡ None → ⊥
never_due c (Ok left) e t = absurd cc
never_due c (Err u) e t = absurd cc

pub delay_due : (a : Context) (d f c : ℕ) (s : Step) (at : Pos) (k : Kept) (g : Head) (own : Kept) → begins_at s ≡ Some at → k.summary.due ≡ None → WakeRule a d f c (leaf s) k g own
delay_due a d f c (statement.delay at x) pos k g own e none_due ts w =
    let told = w.summary ∙ alone a c f (term.leaf (statement.delay at x)) refl in
    absurd (never_due c (lasting a f at x) (sym (ap (λ (z : Summary). z.due) told) ∙ none_due) (sym (ap (λ (z : Summary). z.trouble) told) ∙ w.untroubled))
delay_due a d f c (statement.skip at) pos k g own e none_due ts w = absurd cc
delay_due a d f c (statement.bracketed at bs) pos k g own e none_due ts w = absurd cc
delay_due a d f c (statement.block at es) pos k g own e none_due ts w = absurd cc
delay_due a d f c (statement.guarded at x t) pos k g own e none_due ts w = absurd cc
delay_due a d f c (statement.parallel at bs) pos k g own e none_due ts w = absurd cc
delay_due a d f c (statement.select at bs) pos k g own e none_due ts w = absurd cc
delay_due a d f c (statement.conditional at x bs other) pos k g own e none_due ts w = absurd cc
delay_due a d f c (statement.repeated at x bs) pos k g own e none_due ts w = absurd cc
delay_due a d f c (statement.abort at bs t) pos k g own e none_due ts w = absurd cc
delay_due a d f c (statement.interrupt at bs t) pos k g own e none_due ts w = absurd cc
delay_due a d f c (statement.send at port name args after) pos k g own e none_due ts w = absurd cc
delay_due a d f c (statement.receive at port name into condition after) pos k g own e none_due ts w = absurd cc
delay_due a d f c (statement.call at method args results) pos k g own e none_due ts w = absurd cc
delay_due a d f c (statement.assignment at x t) pos k g own e none_due ts w = absurd cc
delay_due a d f c (statement.value at x) pos k g own e none_due ts w = absurd cc

begun_so : (a : Context) (d f c due : ℕ) (s : Step) (at : Pos) (k : Kept) → begins_at s ≡ Some at → k.summary.due ≡ Some due → WakeRule a d f c (leaf s) k (wait due at) (kept_of_wait (c + d) due)
begun_so a d f c due (statement.delay at x) pos k e is = subst (λ z. WakeRule a d f c (leaf (statement.delay at x)) k (wait due z) (kept_of_wait (c + d) due)) (place_is at pos e) (delay_wakes a d f c due at x k is)
  where
    place_is : (x y : Pos) → ◌≡◌ {A = Option Pos} (Some x) (Some y) → x ≡ y
    place_is x y e = cc
begun_so a d f c due (statement.skip at) pos k e is = absurd cc
begun_so a d f c due (statement.bracketed at bs) pos k e is = absurd cc
begun_so a d f c due (statement.block at es) pos k e is = absurd cc
begun_so a d f c due (statement.guarded at x t) pos k e is = absurd cc
begun_so a d f c due (statement.parallel at bs) pos k e is = absurd cc
begun_so a d f c due (statement.select at bs) pos k e is = absurd cc
begun_so a d f c due (statement.conditional at x bs other) pos k e is = absurd cc
begun_so a d f c due (statement.repeated at x bs) pos k e is = absurd cc
begun_so a d f c due (statement.abort at bs t) pos k e is = absurd cc
begun_so a d f c due (statement.interrupt at bs t) pos k e is = absurd cc
begun_so a d f c due (statement.send at port name args after) pos k e is = absurd cc
begun_so a d f c due (statement.receive at port name into condition after) pos k e is = absurd cc
begun_so a d f c due (statement.call at method args results) pos k e is = absurd cc
begun_so a d f c due (statement.assignment at x t) pos k e is = absurd cc
begun_so a d f c due (statement.value at x) pos k e is = absurd cc

pub delay_begins : (a : Context) (d f c now due : ℕ) (s : Step) (at : Pos) (k own : Kept) (g : Head) → c + d ≡ now → begins_at s ≡ Some at → k.summary.due ≡ Some due
    → g ≡ wait due at → own ≡ kept_of_wait now due → WakeRule a d f c (leaf s) k g own
delay_begins a d f c now due s at k own g clock e is g_is own_is =
    subst (λ z. WakeRule a d f c (leaf s) k z own) (sym g_is) (subst (WakeRule a d f c (leaf s) k (wait due at)) (ap (λ z. kept_of_wait z due) clock ∙ sym own_is)
    (begun_so a d f c due s at k e is))

pub delay_goes_on : (a : Context) (d f c now due : ℕ) (at : Pos) (k own : Kept) (g : Head) → c + d ≡ now → g ≡ wait due at → own ≡ kept_of_wait now due → WakeRule a d f c (wait due at) k g own
delay_goes_on a d f c now due at k own g clock g_is own_is =
    subst (λ z. WakeRule a d f c (wait due at) k z own) (sym g_is) (subst (WakeRule a d f c (wait due at) k (wait due at)) (ap (λ z. kept_of_wait z due) clock ∙ sym own_is) (wait_wakes a d f c due at k))
