-- What a passing of time does not change of a term, and what is asked nothing.
use Rattle.std.proofs.Common.{◌≡◌, ◌||◌, ℕ, suc, max, Bool, true, false, Result, Ok, Err, refl, ap, sym, ◌∙◌}
use Rattle.pz_classes_code.specs.pz_syntax.Statements as statement
use Rattle.pz_tree_refreshing.specs.pz_offer.declared.trouble.Trouble.{Trouble}
use Rattle.pz_tree_refreshing.specs.pz_rules.Settings.{Context}
use Rattle.pz_tree_refreshing.specs.pz_rules.Terms.{Code, Step, Term, done, leaf, wait, sequence, parallel, select, guarded, frame, abort, idle, handling, Terms, no_terms, and, height, greatest_height}
use Rattle.pz_tree_refreshing.specs.pz_rules.devices.Found.{tested, lasting}
use Rattle.pz_tree_refreshing.specs.pz_rules.devices.Passing.{passed, passed_all, if_open, begun}
use Rattle.pz_tree_refreshing.specs.pz_rules.devices.Walk.{active_parts}
use Rattle.pz_classes_code.specs.pz_syntax.declared.tokens.Pos.{Pos}
use Rattle.pz_tree_refreshing.specs.pz_tree_standing.Asked.{asks, any_asks, statement_asks}
use Rattle.pz_tree_refreshing.specs.pz_tree_standing.Woken.{any_part, begins, is_clocked}
use Rattle.pz_tree_refreshing.proofs.pz_tree_standing_proofs.Unasked.{or_neither}
use Rattle.pz_tree_refreshing.specs.pz_tree_standing.Heads.{Head, formed}
use Rattle.pz_tree_refreshing.specs.pz_tree_standing.Heads as head
use Rattle.pz_tree_refreshing.specs.pz_tree_nodes.declared.kept.Kept.{Kept}
use Rattle.pz_tree_refreshing.specs.pz_tree_nodes.Keeping.{HasFlags, any_term}
use Rattle.pz_tree_refreshing.proofs.pz_tree_nodes_proofs.Wakings.{or_none, in_under, in_two, in_children}
use Rattle.pz_tree_refreshing.specs.devices.Reached.{reached_sum}
use Rattle.pz_tree_refreshing.proofs.Sums.{IsPlain, none_sum, plain_sum}
use Rattle.pz_tree_elapsing.specs.devices.Wakes.{own_asks}

or_left : (b : Bool) → false || b ≡ b
or_left b = refl

-- ---------------------------------------------------------- heights

begun_high : (d : ℕ) (at : Pos) (e : Code) (r : Result ℕ Trouble) → height (begun d at e r) ≡ 1
begun_high d at e (Ok left) = refl
begun_high d at e (Err t) = refl

leaf_high : (a : Context) (d f : ℕ) (s : Step) → height (passed a d f (leaf s)) ≡ 1
leaf_high a d f (statement.skip at) = refl
leaf_high a d f (statement.delay at e) = begun_high d at e (lasting a f at e)
leaf_high a d f (statement.bracketed at ts) = refl
leaf_high a d f (statement.block at es) = refl
leaf_high a d f (statement.guarded at e t) = refl
leaf_high a d f (statement.parallel at bs) = refl
leaf_high a d f (statement.select at bs) = refl
leaf_high a d f (statement.conditional at e ts other) = refl
leaf_high a d f (statement.repeated at e ts) = refl
leaf_high a d f (statement.abort at ts t) = refl
leaf_high a d f (statement.interrupt at ts t) = refl
leaf_high a d f (statement.send at port name args after) = refl
leaf_high a d f (statement.receive at port name into condition after) = refl
leaf_high a d f (statement.call at method args results) = refl
leaf_high a d f (statement.assignment at x e) = refl
leaf_high a d f (statement.value at e) = refl

gate_high : (r : Result Bool Trouble) (x t : Term) → height x ≡ height t → height (if_open r x t) ≡ height t
gate_high (Ok true) x t e = e
gate_high (Ok false) x t e = refl
gate_high (Err u) x t e = refl

mutual
  pub height_stays : (a : Context) (d f : ℕ) (t : Term) → height (passed a d f t) ≡ height t
  height_stays a d f done = refl
  height_stays a d f (leaf s) = leaf_high a d f s
  height_stays a d f (wait left at) = refl
  height_stays a d f (sequence t rest) = ap suc (height_stays a d f t)
  height_stays a d f (parallel ts) = ap suc (heights_stay a d f ts)
  height_stays a d f (select ts) = ap suc (heights_stay a d f ts)
  height_stays a d f (guarded test at t) = ap suc (gate_high (tested a f at test) (passed a d f t) t (height_stays a d f t))
  height_stays a d f (frame number inputs results t) = ap suc (height_stays a d number t)
  height_stays a d f (abort t u) = λ i. suc (max (height_stays a d f t i) (height_stays a d f u i))
  height_stays a d f (idle t u again) = λ i. suc (max (height_stays a d f t i) (height_stays a d f u i))
  height_stays a d f (handling t u again) = λ i. suc (max (height t) (height_stays a d f u i))

  heights_stay : (a : Context) (d f : ℕ) (ts : Terms) → greatest_height (passed_all a d f ts) ≡ greatest_height ts
  heights_stay a d f no_terms = refl
  heights_stay a d f (and t ts) = λ i. max (height_stays a d f t i) (heights_stay a d f ts i)

-- ---------------------------------------------------------- what is asked

plain_asks : (h : Head) (c : ℕ) (ts : Terms) → IsPlain h → asks (formed h c ts) ≡ reached_sum false ◌||◌ h asks 0 ts
plain_asks h c ts p = plain_sum false ◌||◌ or_left or_none (λ f. asks) (λ f. any_asks) (λ g. refl) (λ g t us. refl) (λ g. refl)
    (λ g t rest. refl) (λ g us. refl) (λ g us. refl) (λ g number inputs results t. refl)
    (λ g t u. refl) (λ g t u again. refl) (λ g t u again. refl) h 0 c ts p

pub asks_formed : (h : Head) (c : ℕ) (ts : Terms) → asks (formed h c ts) ≡ own_asks h || reached_sum false ◌||◌ h asks 0 ts
asks_formed (head.leaf s) c ts = sym (ap (λ b. statement_asks s || b) (none_sum false ◌||◌ or_left or_none (head.leaf s) asks (λ i. refl) 0 ts) ∙ or_none (statement_asks s))
asks_formed (head.wait due at) c ts = sym (none_sum false ◌||◌ or_left or_none (head.wait due at) asks (λ i. refl) 0 ts)
asks_formed (head.sequence rest) c ts = plain_asks (head.sequence rest) c ts tt
asks_formed head.parallel c ts = plain_asks head.parallel c ts tt
asks_formed head.select c ts = plain_asks head.select c ts tt
asks_formed (head.guarded e at s) c ts = refl
asks_formed (head.frame number inputs results) c ts = plain_asks (head.frame number inputs results) c ts tt
asks_formed head.abort c ts = plain_asks head.abort c ts tt
asks_formed (head.idle again s) c ts = plain_asks (head.idle again s) c ts tt
asks_formed (head.handling again s) c ts = plain_asks (head.handling again s) c ts tt
asks_formed (head.shifted s) c ts = plain_asks (head.shifted s) c ts tt

-- where nothing is asked, no state and no frame decides what may wake
module _ (q : Term → Bool) (a b : Context) where
  mutual
    any_same : (f g : ℕ) (t : Term) → asks t ≡ false → any_part q (active_parts a f t) ≡ any_part q (active_parts b g t)
    any_same f g done e = refl
    any_same f g (leaf s) e = refl
    any_same f g (wait left at) e = refl
    any_same f g (sequence t rest) e = ap (λ z. q (sequence t rest) || z) (in_under q 0 (active_parts a f t) ∙ any_same f g t e ∙ sym (in_under q 0 (active_parts b g t)))
    any_same f g (parallel ts) e = ap (λ z. q (parallel ts) || z) (in_children q a f 0 ts ∙ all_same f g ts e ∙ sym (in_children q b g 0 ts))
    any_same f g (select ts) e = ap (λ z. q (select ts) || z) (in_children q a f 0 ts ∙ all_same f g ts e ∙ sym (in_children q b g 0 ts))
    any_same f g (guarded test at t) e = absurd cc
    any_same f g (frame number inputs results t) e = ap (λ z. q (frame number inputs results t) || z) (in_under q 0 (active_parts a number t) ∙ any_same number number t e ∙ sym (in_under q 0 (active_parts b number t)))
    any_same f g (abort t u) e = let p = or_neither (asks t) (asks u) e in
        ap (λ z. q (abort t u) || z) (in_two q (active_parts a f t) (active_parts a f u) ∙ (λ i. any_same f g t p.0 i || any_same f g u p.1 i) ∙ sym (in_two q (active_parts b g t) (active_parts b g u)))
    any_same f g (idle t u again) e = let p = or_neither (asks t) (asks u) e in
        ap (λ z. q (idle t u again) || z) (in_two q (active_parts a f t) (active_parts a f u) ∙ (λ i. any_same f g t p.0 i || any_same f g u p.1 i) ∙ sym (in_two q (active_parts b g t) (active_parts b g u)))
    any_same f g (handling t u again) e = ap (λ z. q (handling t u again) || z) (in_under q 1 (active_parts a f u) ∙ any_same f g u e ∙ sym (in_under q 1 (active_parts b g u)))

    all_same : (f g : ℕ) (ts : Terms) → any_asks ts ≡ false → any_term (λ t. any_part q (active_parts a f t)) ts ≡ any_term (λ t. any_part q (active_parts b g t)) ts
    all_same f g no_terms e = refl
    all_same f g (and t ts) e = let p = or_neither (asks t) (any_asks ts) e in λ i. any_same f g t p.0 i || all_same f g ts p.1 i

pub unasked_flags : (a b : Context) (f g : ℕ) (t : Term) (k : Kept) → asks t ≡ false → HasFlags a f t k → HasFlags b g t k
unasked_flags a b f g t k e h = record { starts = h.starts ∙ any_same begins a b f g t e; clocked = h.clocked ∙ any_same is_clocked a b f g t e }
