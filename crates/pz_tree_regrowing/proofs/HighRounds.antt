-- The outline of what is around a part that has become another, form by form.
use Rattle.std.proofs.Common.{◌≡◌, ◌≤◌, ◌<◌, ℕ, zero, suc, ◌+◌, max, Bool, true, false, ◌&&◌, List, ◌∷◌, length, take, drop, Option, None, refl, sym, ap, ◌∙◌, subst, arith}
use Rattle.std.specs.Prelude.{if◌then◌else◌, slice_index_or}
use Rattle.pz_clock.specs.Shifts.{ShiftView}
use Rattle.pz_nodes_shapes.specs.Rose.{Map}
use Rattle.pz_rules.specs.pz_state.States.{StateView}
use Rattle.pz_classes_code.specs.declared.slot.Slot.{Slot}
use Rattle.pz_rules.specs.Terms.{Term, Terms, Step, Steps, done, term_at, height, greatest_height}
use Rattle.pz_rules.specs.Terms as term
use Rattle.pz_rules.specs.Settings.{Home}
use Rattle.pz_rules.specs.Places.{MayActIn}
use Rattle.pz_rules.specs.Leaving.{all_done, replaced, handled}
use Rattle.pz_term_outlines.specs.declared.outline.Outline.{Outline}
use Rattle.pz_term_outlines.specs.Capped.{capped}
use Rattle.pz_term_outlines.specs.Outlines.{outline, IsAbove, IsRound}
use Rattle.pz_tree_nodes.specs.pz_tree_standing.Heads.{Head, formed}
use Rattle.pz_tree_nodes.specs.pz_tree_standing.Heads as heads
use Rattle.pz_tree_nodes.specs.declared.node.What.{What}
use Rattle.pz_tree_nodes.specs.View.{Plants}
use Rattle.pz_tree_regrowing.specs.Costs.{beside}
use Rattle.pz_tree_regrowing.specs.devices.Levels.{there, all_there, are_gone, kid_terms}
use Rattle.pz_tree_regrowing.specs.devices.Reading.{high_at, highest}
use Rattle.pz_tree_regrowing.specs.devices.Outlining.{AreKids, Rounded, HomeRoundRule, RoundRule, SecondRule}
use Rattle.pz_tree_regrowing.proofs.Kids.{width_terms}
use Rattle.pz_tree_regrowing.proofs.HighKids.{few_there, width_keys}
use Rattle.pz_tree_regrowing.proofs.Highs.{Parted, parted, kid_high, cut}

-- ------------------------------------------------------------ parts side by side

module _ (h : Home) (left result : Outline) (m : Map What) (ts : Terms) (i : ℕ) (before behind : List (Option ℕ)) (q : Parted m ts i before behind) where
  all_is : (b : Bool) → (are_gone before && (left.done && are_gone behind)) ≡ b → (x : Term) → left ≡ outline x → all_done (replaced ts i x) ≡ b
  all_is b is x same = q.ended x ∙ ap (λ (o : Outline). are_gone before && (o.done && are_gone behind)) (sym same) ∙ is

  parallel_ended : (are_gone before && (left.done && are_gone behind)) ≡ true → result ≡ outline done → IsRound h left (term.parallel ts) i result
  parallel_ended is_true is f s x same = is ∙ ap (λ (b : Bool). outline (if b then done else term.parallel (replaced ts i x))) (sym (all_is true is_true x same))

  parallel_goes_on : (part : ℕ) → (are_gone before && (left.done && are_gone behind)) ≡ false → part ≡ max (highest m before) (max left.height (highest m behind))
      → ((t : Term) (n : ℕ) → part ≡ capped n → IsAbove t n → result ≡ outline t) → IsRound h left (term.parallel ts) i result
  parallel_goes_on part is_false greatest above f s x same =
      let us = replaced ts i x in
      let high : part ≡ capped (greatest_height us) =
      greatest ∙ ap (λ (o : Outline). max (highest m before) (max o.height (highest m behind))) same ∙ sym (q.high x) in
      above (term.parallel us) (greatest_height us) high (record { one_more = refl; undone = refl; other = refl })
      ∙ ap (λ (b : Bool). outline (if b then done else term.parallel us)) (sym (all_is false is_false x same))

-- a part of that number is there
pub within : (m : Map What) (keys : List (Option ℕ)) (ps : Plants) (c i : ℕ) → AreKids m heads.parallel keys ps → MayActIn (formed heads.parallel c (kid_terms heads.parallel c ps)) i → i < length keys
within m keys ps c i k may = omega (arith, may, width_terms heads.parallel c 0 ps, width_keys ps, ap (λ (l : List (Option ℕ)). length l) k.under)

module _ (m : Map What) (keys before from behind : List (Option ℕ)) (i : ℕ) (acting : Option ℕ) (left result : Outline) (old new : ℕ)
    (front : before ≡ take i keys) (back : from ≡ drop i keys) (first : from ≡ acting ∷ behind) (long : length before ≡ i) where
  parts : (c : ℕ) (ps : Plants) → AreKids m heads.parallel keys ps → Parted m (kid_terms heads.parallel c ps) i before behind
  parts c ps k =
      subst (λ z. Parted m (kid_terms heads.parallel c ps) z before behind) long
      (parted m heads.parallel c 0 ps before acting behind (k.under ∙ sym (cut keys before from behind i acting front back first)) k.stand k.whole k.marked)

  pub parallel_done : (are_gone before && (left.done && are_gone behind)) ≡ true → result ≡ outline done → new ≡ old → RoundRule m heads.parallel keys i left result old new
  parallel_done is_true is tick home c ps k bare may =
      let q = parts c ps k in
      record { round = parallel_ended home left result m (kid_terms heads.parallel c ps) i before behind q is_true is; ticks = omega (arith, tick) }

  pub parallel_stays : (part mid : ℕ) → (are_gone before && (left.done && are_gone behind)) ≡ false → part ≡ max (highest m before) (max left.height (highest m behind))
      → ((t : Term) (n : ℕ) → part ≡ capped n → IsAbove t n → result ≡ outline t)
      → mid ≡ old + all_there before → new ≡ mid + all_there behind → RoundRule m heads.parallel keys i left result old new
  parallel_stays part mid is_false greatest above tick tock home c ps k bare may =
      let q = parts c ps k in
      record { round = parallel_goes_on home left result m (kid_terms heads.parallel c ps) i before behind q part is_false greatest above; ticks = omega (arith, tick, tock, q.live) }

-- where the parts are not as many
pub no_part : (m : Map What) (keys : List (Option ℕ)) (i : ℕ) (left result : Outline) (old new : ℕ) → (i < length keys → ⊥) → RoundRule m heads.parallel keys i left result old new
no_part m keys i left result old new none home c ps k bare may = absurd (none (within m keys ps c i k may))

-- ------------------------------------------------------------ two parts

module _ (m : Map What) (keys : List (Option ℕ)) (left result : Outline) (old new : ℕ) where
  -- of the other part no more is seen than one key
  few : (k : Option ℕ) → new ≡ old + there k → (b : ℕ) → new ≤ old + (1 + b)
  few k tick b = let r = few_there k in omega (arith, tick, r)

  pub abort_second : (i : ℕ) → (i ≡ 0 → ⊥) → result ≡ left → new ≡ old → RoundRule m heads.abort keys i left result old new
  abort_second zero other is tick home c ps k bare may = absurd (other refl)
  abort_second (suc i) other is tick home c ps k bare may = record { round = λ f s x same. is ∙ same; ticks = omega (arith, tick) }

  pub abort_goes_on : (i second : ℕ) (key : Option ℕ) → i ≡ 0 → key ≡ slice_index_or keys 1 None → second ≡ high_at m key → new ≡ old + there key
      → ((home : Home) (t u : Term) → second ≡ capped (height u) → IsRound home left (term.abort t u) 0 result)
      → RoundRule m heads.abort keys i left result old new
  abort_goes_on i second key first is high tick rounds home c ps k bare may =
      let ts = kid_terms heads.abort c ps in
      let so : second ≡ capped (height (term_at ts 1)) = high ∙ ap (high_at m) (is ∙ ap (λ z. slice_index_or z 1 None) (sym k.under)) ∙ kid_high m heads.abort c ps 1 k.stand k.whole k.marked in
      record {
        round = subst (λ z. IsRound home left (formed heads.abort c ts) z result) (sym first) (rounds home (term_at ts 0) (term_at ts 1) so);
        ticks = few key tick (beside (formed heads.abort c ts) i);
      }

  pub idle_goes_on : (home : Home) (again : Step) (shift : ShiftView) (i second : ℕ) (key : Option ℕ) → i ≡ 0 → key ≡ slice_index_or keys 1 None → second ≡ high_at m key → new ≡ old + there key
      → ((home : Home) (t u : Term) (again : Step) → second ≡ capped (height u) → IsRound home left (term.idle t u again) 0 result)
      → HomeRoundRule home m (heads.idle again shift) keys i left result old new
  idle_goes_on home again shift i second key first is high tick rounds c ps k bare may =
      let h = heads.idle again shift in
      let ts = kid_terms h c ps in
      let so : second ≡ capped (height (term_at ts 1)) = high ∙ ap (high_at m) (is ∙ ap (λ z. slice_index_or z 1 None) (sym k.under)) ∙ kid_high m h c ps 1 k.stand k.whole k.marked in
      record {
        round = subst (λ z. IsRound home left (formed h c ts) z result) (sym first) (rounds home (term_at ts 0) (term_at ts 1) again so);
        ticks = few key tick (beside (formed h c ts) i);
      }

  pub second_acts : (home : Home) (again : Step) (first : ℕ) (key : Option ℕ) → key ≡ slice_index_or keys 0 None → first ≡ high_at m key → new ≡ old + there key
      → ((t : Term) (s : StateView) (x : Term) → first ≡ capped (height t) → left ≡ outline x → result ≡ outline (handled home s t again x).term)
      → SecondRule home m again keys left result old new
  second_acts home again first key is high tick rounds shift = (
    (λ c ps k bare may. record {
      round = λ f s x same. rounds (term_at (kid_terms (heads.idle again shift) c ps) 0) s x (so (heads.idle again shift) c ps k) same;
      ticks = few key tick (beside (formed (heads.idle again shift) c (kid_terms (heads.idle again shift) c ps)) 1);
    }),
    (λ c ps k bare may. record {
      round = λ f s x same. rounds (term_at (kid_terms (heads.handling again shift) c ps) 0) s x (so (heads.handling again shift) c ps k) same;
      ticks = few key tick (beside (formed (heads.handling again shift) c (kid_terms (heads.handling again shift) c ps)) 1);
    }),
  )
    where
      so : (h : Head) (c : ℕ) (ps : Plants) → AreKids m h keys ps → first ≡ capped (height (term_at (kid_terms h c ps) 0))
      so h c ps k = high ∙ ap (high_at m) (is ∙ ap (λ z. slice_index_or z 0 None) (sym k.under)) ∙ kid_high m h c ps 0 k.stand k.whole k.marked

  pub idle_second : (home : Home) (again : Step) (shift : ShiftView) (i : ℕ) → (i ≡ 0 → ⊥) → SecondRule home m again keys left result old new → HomeRoundRule home m (heads.idle again shift) keys i left result old new
  idle_second home again shift i other rule c ps k bare may =
      let is : i ≡ 1 = omega (arith, may, other) in
      subst (λ z. Rounded home (heads.idle again shift) c ps z left result old new) (sym is) ((rule shift).0 c ps k bare (omega arith))

  pub handling_second : (home : Home) (again : Step) (shift : ShiftView) (i : ℕ) → SecondRule home m again keys left result old new → HomeRoundRule home m (heads.handling again shift) keys i left result old new
  handling_second home again shift i rule c ps k bare may = subst (λ z. Rounded home (heads.handling again shift) c ps z left result old new) (sym may) ((rule shift).1 c ps k bare refl)

  -- ------------------------------------------------------------ one part

  pub sequence_round : (home : Home) (rest : Steps) (i : ℕ) → new ≡ old → ((t : Term) (j : ℕ) → IsRound home left (term.sequence t rest) j result) → HomeRoundRule home m (heads.sequence rest) keys i left result old new
  sequence_round home rest i tick rounds c ps k bare may = record { round = rounds (term_at (kid_terms (heads.sequence rest) c ps) 0) i; ticks = omega (arith, tick) }

  pub frame_round : (home : Home) (number inputs : ℕ) (results : List Slot) (i : ℕ) → new ≡ old
      → ((home : Home) (number inputs : ℕ) (t : Term) (j : ℕ) → IsRound home left (term.frame number inputs results t) j result) → HomeRoundRule home m (heads.frame number inputs results) keys i left result old new
  frame_round home number inputs results i tick rounds c ps k bare may = record { round = rounds home number inputs (term_at (kid_terms (heads.frame number inputs results) c ps) 0) i; ticks = omega (arith, tick) }

  -- what acts is all that is left
  pub select_round : (home : Home) (i : ℕ) → result ≡ left → new ≡ old → HomeRoundRule home m heads.select keys i left result old new
  select_round home i is tick c ps k bare may = record { round = λ f s x same. is ∙ same; ticks = omega (arith, tick) }

  pub guard_round : (home : Home) (test : term.Code) (at : Rattle.pz_classes_code.specs.pz_syntax.declared.tokens.Pos.Pos) (shift : ShiftView) (i : ℕ) → result ≡ left → new ≡ old → HomeRoundRule home m (heads.guarded test at shift) keys i left result old new
  guard_round home test at shift i is tick c ps k bare may = record { round = λ f s x same. is ∙ same; ticks = omega (arith, tick) }

  pub by_head : (home : Home) (i : ℕ) (h k : Head) → h ≡ k → HomeRoundRule home m k keys i left result old new → HomeRoundRule home m h keys i left result old new
  by_head home i h k same rule = subst (λ (z : Head). HomeRoundRule home m z keys i left result old new) (sym same) rule
