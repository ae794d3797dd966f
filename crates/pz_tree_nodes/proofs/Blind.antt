-- What no clock decides of nodes is so of their term without what is left of delays.
use Rattle.std.proofs.Common.{◌≡◌, ℕ, zero, suc, Bool, false, ◌||◌, ◌++◌, max, map, refl, ap, sym, ◌∙◌}
use Rattle.pz_nodes_shapes.specs.Rose.{node, none, gone, more}
use Rattle.pz_rules.specs.Terms.{Term, done, leaf, wait, sequence, parallel, select, guarded, frame, abort, idle, handling, Terms, no_terms, and, term_at, height, greatest_height}
use Rattle.pz_rules.specs.Settings.{Context}
use Rattle.pz_rules.specs.devices.Found.{tested}
use Rattle.pz_rules.specs.devices.Walk.{under, active_parts}
use Rattle.pz_tree_standing.specs.Asked.{asks, any_asks}
use Rattle.pz_tree_standing.specs.Woken.{any_part}
use Rattle.pz_tree_standing.specs.Heads.{Head, Shape, Shapes, inner_clock, formed}
use Rattle.pz_tree_standing.specs.Heads as head
use Rattle.pz_tree_standing.specs.Standing.{term_of, terms_of}
use Rattle.pz_tree_nodes.specs.Keeping.{any_term}
use Rattle.pz_tree_nodes.proofs.Wakings.{in_under, in_two, in_behind, in_children}

abbrev mutual
  pub blind : Term → Term
  blind done = done
  blind (leaf s) = leaf s
  blind (wait left at) = wait 0 at
  blind (sequence t rest) = sequence (blind t) rest
  blind (parallel ts) = parallel (blind_all ts)
  blind (select ts) = select (blind_all ts)
  blind (guarded test at t) = guarded test at (blind t)
  blind (frame number inputs results t) = frame number inputs results (blind t)
  blind (abort t u) = abort (blind t) (blind u)
  blind (idle t u again) = idle (blind t) (blind u) again
  blind (handling t u again) = handling (blind t) (blind u) again

  pub blind_all : Terms → Terms
  blind_all no_terms = no_terms
  blind_all (and t ts) = and (blind t) (blind_all ts)

-- ---------------------------------------------------------- the same nodes by two clocks

blind_at : (ts : Terms) (j : ℕ) → blind (term_at ts j) ≡ term_at (blind_all ts) j
blind_at no_terms j = refl
blind_at (and t ts) zero = refl
blind_at (and t ts) (suc j) = blind_at ts j

-- children that are alike
kid : (ts us : Terms) → blind_all ts ≡ blind_all us → (j : ℕ) → blind (term_at ts j) ≡ blind (term_at us j)
kid ts us e j = blind_at ts j ∙ ap (λ z. term_at z j) e ∙ sym (blind_at us j)

form_alike : (h : Head) (c d : ℕ) (ts us : Terms) → blind_all ts ≡ blind_all us → blind (formed h c ts) ≡ blind (formed h d us)
form_alike (head.leaf s) c d ts us e = refl
form_alike (head.wait due at) c d ts us e = refl
form_alike (head.sequence rest) c d ts us e = ap (λ z. sequence z rest) (kid ts us e 0)
form_alike head.parallel c d ts us e = ap parallel e
form_alike head.select c d ts us e = ap select e
form_alike (head.guarded test at s) c d ts us e = ap (guarded test at) (kid ts us e 0)
form_alike (head.frame number inputs results) c d ts us e = ap (frame number inputs results) (kid ts us e 0)
form_alike head.abort c d ts us e = λ i. abort (kid ts us e 0 i) (kid ts us e 1 i)
form_alike (head.idle again s) c d ts us e = λ i. idle (kid ts us e 0 i) (kid ts us e 1 i) again
form_alike (head.handling again s) c d ts us e = λ i. handling (kid ts us e 0 i) (kid ts us e 1 i) again
form_alike (head.shifted s) c d ts us e = kid ts us e 0

mutual
  pub alike : (c d : ℕ) (s : Shape) → blind (term_of c s) ≡ blind (term_of d s)
  alike c d (node k x ss) = form_alike x.head c d (terms_of x.head c 0 ss) (terms_of x.head d 0 ss) (all_alike x.head c d 0 ss)

  all_alike : (h : Head) (c d i : ℕ) (ss : Shapes) → blind_all (terms_of h c i ss) ≡ blind_all (terms_of h d i ss)
  all_alike h c d i none = refl
  all_alike h c d i (gone ss) = ap (and done) (all_alike h c d (suc i) ss)
  all_alike h c d i (more s ss) = λ n. and (alike (inner_clock h i c) (inner_clock h i d) s n) (all_alike h c d (suc i) ss n)

-- ---------------------------------------------------------- what does not see it

mutual
  pub asks_blind : (t : Term) → asks (blind t) ≡ asks t
  asks_blind done = refl
  asks_blind (leaf s) = refl
  asks_blind (wait left at) = refl
  asks_blind (sequence t rest) = asks_blind t
  asks_blind (parallel ts) = all_ask_blind ts
  asks_blind (select ts) = all_ask_blind ts
  asks_blind (guarded test at t) = refl
  asks_blind (frame number inputs results t) = asks_blind t
  asks_blind (abort t u) = λ i. asks_blind t i || asks_blind u i
  asks_blind (idle t u again) = λ i. asks_blind t i || asks_blind u i
  asks_blind (handling t u again) = asks_blind u

  all_ask_blind : (ts : Terms) → any_asks (blind_all ts) ≡ any_asks ts
  all_ask_blind no_terms = refl
  all_ask_blind (and t ts) = λ i. asks_blind t i || all_ask_blind ts i

mutual
  pub height_blind : (t : Term) → height (blind t) ≡ height t
  height_blind done = refl
  height_blind (leaf s) = refl
  height_blind (wait left at) = refl
  height_blind (sequence t rest) = ap suc (height_blind t)
  height_blind (parallel ts) = ap suc (heights_blind ts)
  height_blind (select ts) = ap suc (heights_blind ts)
  height_blind (guarded test at t) = ap suc (height_blind t)
  height_blind (frame number inputs results t) = ap suc (height_blind t)
  height_blind (abort t u) = λ i. suc (max (height_blind t i) (height_blind u i))
  height_blind (idle t u again) = λ i. suc (max (height_blind t i) (height_blind u i))
  height_blind (handling t u again) = λ i. suc (max (height_blind t i) (height_blind u i))

  heights_blind : (ts : Terms) → greatest_height (blind_all ts) ≡ greatest_height ts
  heights_blind no_terms = refl
  heights_blind (and t ts) = λ i. max (height_blind t i) (heights_blind ts i)

-- active parts of a sort that does not see it
module _ (q : Term → Bool) (same : (t : Term) → q (blind t) ≡ q t) (a : Context) where
  abbrev found : ℕ → Term → Bool
  found f t = any_part q (active_parts a f t)

  under_first : (f : ℕ) (t : Term) → found f (blind t) ≡ found f t → any_part q (map (under 0) (active_parts a f (blind t))) ≡ any_part q (map (under 0) (active_parts a f t))
  under_first f t e = in_under q 0 (active_parts a f (blind t)) ∙ e ∙ sym (in_under q 0 (active_parts a f t))

  under_both : (f : ℕ) (t u : Term) → found f (blind t) ≡ found f t → found f (blind u) ≡ found f u
      → any_part q (map (under 0) (active_parts a f (blind t)) ++ map (under 1) (active_parts a f (blind u))) ≡ any_part q (map (under 0) (active_parts a f t) ++ map (under 1) (active_parts a f u))
  under_both f t u d e = in_two q (active_parts a f (blind t)) (active_parts a f (blind u)) ∙ (λ i. d i || e i) ∙ sym (in_two q (active_parts a f t) (active_parts a f u))

  mutual
    pub parts_blind : (f : ℕ) (t : Term) → any_part q (active_parts a f (blind t)) ≡ any_part q (active_parts a f t)
    parts_blind f done = refl
    parts_blind f (leaf s) = refl
    parts_blind f (wait left at) = λ i. same (wait left at) i || false
    parts_blind f (sequence t rest) = λ i. same (sequence t rest) i || under_first f t (parts_blind f t) i
    parts_blind f (parallel ts) = λ i. same (parallel ts) i || (in_children q a f 0 (blind_all ts) ∙ all_blind f ts ∙ sym (in_children q a f 0 ts)) i
    parts_blind f (select ts) = λ i. same (select ts) i || (in_children q a f 0 (blind_all ts) ∙ all_blind f ts ∙ sym (in_children q a f 0 ts)) i
    parts_blind f (guarded test at t) = λ i. same (guarded test at t) i
        || in_behind q (tested a f at test) (map (under 0) (active_parts a f (blind t))) (map (under 0) (active_parts a f t)) (under_first f t (parts_blind f t)) i
    parts_blind f (frame number inputs results t) = λ i. same (frame number inputs results t) i || under_first number t (parts_blind number t) i
    parts_blind f (abort t u) = λ i. same (abort t u) i || under_both f t u (parts_blind f t) (parts_blind f u) i
    parts_blind f (idle t u again) = λ i. same (idle t u again) i || under_both f t u (parts_blind f t) (parts_blind f u) i
    parts_blind f (handling t u again) = λ i. same (handling t u again) i
        || (in_under q 1 (active_parts a f (blind u)) ∙ parts_blind f u ∙ sym (in_under q 1 (active_parts a f u))) i

    all_blind : (f : ℕ) (ts : Terms) → any_term (found f) (blind_all ts) ≡ any_term (found f) ts
    all_blind f no_terms = refl
    all_blind f (and t ts) = λ i. parts_blind f t i || all_blind f ts i
