-- How high what stands under keys is, by what nodes keep.
use Rattle.std.proofs.Common.{◌≡◌, ◌≤◌, ◌<◌, ℕ, suc, ◌+◌, max, Bool, false, ◌&&◌, List, [], ◌∷◌, ◌++◌, length, take, drop, get_or, Option, Some, None, refl, sym, ap, ◌∙◌, subst, arith}
use Rattle.std.specs.Prelude.{if◌then◌else◌, slice_index_or}
use Rattle.std.proofs.lemmas.List.{drop_more, drop_all, take-append-drop}
use Rattle.pz_nodes_shapes.specs.Rose.{node, none, gone, more, Map, root, roots, pick, Stands, StandAll}
use Rattle.pz_rules.specs.Terms.{Term, Terms, done, and, term_at, height, greatest_height}
use Rattle.pz_rules.specs.Leaving.{is_done, all_done, replaced}
use Rattle.pz_term_outlines.specs.Capped.{capped}
use Rattle.pz_tree_nodes.specs.pz_tree_standing.Heads.{Head, inner_clock}
use Rattle.pz_tree_nodes.specs.pz_tree_standing.Standing.{terms_of}
use Rattle.pz_tree_nodes.specs.pz_tree_standing.Whole.{AreWhole}
use Rattle.pz_tree_nodes.specs.declared.node.What.{What}
use Rattle.pz_tree_nodes.specs.View.{Plant, Plants, shapes_of, term_in, term_in_option}
use Rattle.pz_tree_nodes.specs.Tended.{Marked, AreMarked}
use Rattle.pz_tree_nodes.specs.Planting.{root_of}
use Rattle.pz_tree_regrowing.specs.Costs.{living}
use Rattle.pz_tree_regrowing.specs.Regrowing.{StandsOption}
use Rattle.pz_tree_regrowing.specs.devices.Levels.{there, all_there, are_gone, kid_terms}
use Rattle.pz_tree_regrowing.specs.devices.Reading.{high_of, high_at, highest, IsHigh}
use Rattle.pz_tree_regrowing.proofs.Kids.{picked_root, picked_term}
use Rattle.pz_tree_regrowing.proofs.HighKids.{picked_stands, picked_high, some_undone}

pub capped_max : (m n a b : ℕ) → a ≡ capped m → b ≡ capped n → max a b ≡ capped (max m n)
capped_max m n a b first second = omega arith

-- ------------------------------------------------------------ under a key

pub high_is : (m : Map What) (c : ℕ) (p : Plant) → Stands m p → Marked p → high_at m (Some (root p)) ≡ capped (height (term_in c p))
high_is m c (node k x ps) s k_is = ap high_of s.0 ∙ ap capped (k_is.0 c).high

pub high_under : (m : Map What) (c : ℕ) (x : Option Plant) → StandsOption m x → IsHigh x → high_at m (root_of x) ≡ capped (height (term_in_option c x))
high_under m c None s h = let e : 1 ≡ capped 1 = omega arith in e
high_under m c (Some p) s h = high_is m c p s h.1

pub kid_high : (m : Map What) (h : Head) (c : ℕ) (ps : Plants) (j : ℕ) → StandAll m ps → AreWhole (shapes_of ps) → AreMarked ps
    → high_at m (slice_index_or (roots ps) j None) ≡ capped (height (term_at (kid_terms h c ps) j))
kid_high m h c ps j s w k =
    ap (high_at m) (picked_root ps j) ∙ high_under m (inner_clock h (0 + j) c) (pick ps j) (picked_stands m ps j s) (picked_high ps j w k)
    ∙ ap (λ z. capped (height z)) (sym (picked_term h c 0 ps j))

-- ------------------------------------------------------------ under several keys

module _ (m : Map What) (h : Head) (c : ℕ) where
  all_high : (i : ℕ) (ps : Plants) → StandAll m ps → AreMarked ps → highest m (roots ps) ≡ capped (greatest_height (terms_of h c i (shapes_of ps)))
  all_high i none s k = let e : 0 ≡ capped 0 = omega arith in e
  all_high i (gone ps) s k = capped_max 1 (greatest_height (terms_of h c (suc i) (shapes_of ps))) 1 (highest m (roots ps)) (let e : 1 ≡ capped 1 = omega arith in e) (all_high (suc i) ps s k)
  all_high i (more p ps) s k =
      capped_max (height (term_in (inner_clock h i c) p)) (greatest_height (terms_of h c (suc i) (shapes_of ps))) (high_at m (Some (root p))) (highest m (roots ps))
      (high_is m (inner_clock h i c) p s.1 k.0) (all_high (suc i) ps s.2 k.1)

  all_ended : (i : ℕ) (ps : Plants) → AreWhole (shapes_of ps) → all_done (terms_of h c i (shapes_of ps)) ≡ are_gone (roots ps)
  all_ended i none w = refl
  all_ended i (gone ps) w = all_ended (suc i) ps w
  all_ended i (more p ps) w = ap (λ b. b && all_done (terms_of h c (suc i) (shapes_of ps))) (some_undone (inner_clock h i c) p w.0)

  all_live : (i : ℕ) (ps : Plants) → AreWhole (shapes_of ps) → living (terms_of h c i (shapes_of ps)) ≡ all_there (roots ps)
  all_live i none w = refl
  all_live i (gone ps) w = let e = all_live (suc i) ps w in omega (arith, e)
  all_live i (more p ps) w = λ n. (if some_undone (inner_clock h i c) p w.0 n then 0 else 1) + all_live (suc i) ps w.1 n

-- ------------------------------------------------------------ one in the place of another

-- what the parts before one and behind it say of all once that one is another
pub record Parted (m : Map What) (ts : Terms) (i : ℕ) (before behind : List (Option ℕ)) : Type 0 where
  pub ended : (x : Term) → all_done (replaced ts i x) ≡ (are_gone before && (is_done x && are_gone behind))
  pub high : (x : Term) → capped (greatest_height (replaced ts i x)) ≡ max (highest m before) (max (capped (height x)) (highest m behind))
  pub live : living (replaced ts i done) ≡ all_there before + all_there behind

none_before : (n : ℕ) → n ≡ max 0 n
none_before n = omega arith

max_assoc : (a b c : ℕ) → max a (max b c) ≡ max (max a b) c
max_assoc a b c = omega arith

one_gone : (n : ℕ) → capped (max 1 n) ≡ max 1 (capped n)
one_gone n = omega arith

module _ (m : Map What) (h : Head) (c : ℕ) where
  here : (i : ℕ) (t : Term) (ps : Plants) (behind : List (Option ℕ)) → roots ps ≡ behind → StandAll m ps → AreWhole (shapes_of ps) → AreMarked ps
      → Parted m (and t (terms_of h c (suc i) (shapes_of ps))) 0 [] behind
  here i t ps behind e s w k = record {
    ended = λ x. ap (λ b. is_done x && b) (all_ended m h c (suc i) ps w ∙ ap are_gone e);
    high = λ x.
        sym (capped_max (height x) (greatest_height (terms_of h c (suc i) (shapes_of ps))) (capped (height x)) (highest m behind) refl (ap (highest m) (sym e) ∙ all_high m h c (suc i) ps s k))
        ∙ none_before (max (capped (height x)) (highest m behind));
    live = let l = all_live m h c (suc i) ps w ∙ ap all_there e in omega (arith, l);
  }

  past_gone : (ts : Terms) (i : ℕ) (before behind : List (Option ℕ)) → Parted m ts i before behind → Parted m (and done ts) (suc i) (None ∷ before) behind
  past_gone ts i before behind q = record {
    ended = q.ended;
    high = λ x.
        one_gone (greatest_height (replaced ts i x)) ∙ ap (λ z. max 1 z) (q.high x)
        ∙ max_assoc 1 (highest m before) (max (capped (height x)) (highest m behind));
    live = let l = q.live in omega (arith, l);
  }

  past_one : (d : ℕ) (p : Plant) (ts : Terms) (i : ℕ) (before behind : List (Option ℕ)) → Stands m p → Marked p → (is_done (term_in d p) ≡ false) → Parted m ts i before behind
      → Parted m (and (term_in d p) ts) (suc i) (Some (root p) ∷ before) behind
  past_one d p ts i before behind s k undone q = record {
    ended = λ x. ap (λ b. b && all_done (replaced ts i x)) undone;
    high = λ x.
        sym (capped_max (height (term_in d p)) (greatest_height (replaced ts i x)) (high_at m (Some (root p))) (capped (greatest_height (replaced ts i x))) (high_is m d p s k) refl)
        ∙ ap (λ z. max (high_at m (Some (root p))) z) (q.high x)
        ∙ max_assoc (high_at m (Some (root p))) (highest m before) (max (capped (height x)) (highest m behind));
    live = let one : ◌≡◌ {A = ℕ} (if is_done (term_in d p) then 0 else 1) 1 = ap (λ (b : Bool). if b then 0 else 1) undone in let l = q.live in omega (arith, l, one);
  }

  pub parted : (i : ℕ) (ps : Plants) (before : List (Option ℕ)) (acting : Option ℕ) (behind : List (Option ℕ)) → roots ps ≡ before ++ acting ∷ behind
      → StandAll m ps → AreWhole (shapes_of ps) → AreMarked ps → Parted m (terms_of h c i (shapes_of ps)) (length before) before behind
  parted i none [] acting behind e s w k = absurd cc
  parted i none (b ∷ before) acting behind e s w k = absurd cc
  parted i (gone ps) [] acting behind e s w k = here i done ps behind (let q : roots ps ≡ behind = cc in q) s w k
  parted i (more p ps) [] acting behind e s w k = here i (term_in (inner_clock h i c) p) ps behind (let q : roots ps ≡ behind = cc in q) s.2 w.1 k.1
  parted i (gone ps) (b ∷ before) acting behind e s w k =
      let first : None ≡ b = cc in
      let rest : roots ps ≡ before ++ acting ∷ behind = cc in
      let ts = terms_of h c (suc i) (shapes_of ps) in
      subst (λ z. Parted m (and done ts) (suc (length before)) (z ∷ before) behind) first (past_gone ts (length before) before behind (parted (suc i) ps before acting behind rest s w k))
  parted i (more p ps) (b ∷ before) acting behind e s w k =
      let first : Some (root p) ≡ b = cc in
      let rest : roots ps ≡ before ++ acting ∷ behind = cc in
      let d = inner_clock h i c in
      let ts = terms_of h c (suc i) (shapes_of ps) in
      subst (λ z. Parted m (and (term_in d p) ts) (suc (length before)) (z ∷ before) behind) first
      (past_one d p ts (length before) before behind s.1 k.0 (some_undone d p w.0) (parted (suc i) ps before acting behind rest s.2 w.1 k.1))

-- ------------------------------------------------------------ key by key

module _ (m : Map What) (keys : List (Option ℕ)) where
  pub goes_on : (i all high next : ℕ) → i < length keys → high ≡ high_at m (get_or keys i None) → next ≡ max high all
      → max all (highest m (drop i keys)) ≡ highest m keys → max next (highest m (drop (i + 1) keys)) ≡ highest m keys
  goes_on i all high next w is greater so_far =
      let one : highest m (drop i keys) ≡ max (high_at m (get_or keys i None)) (highest m (drop (i + 1) keys)) = ap (highest m) (drop_more keys i None w) in
      omega (arith, is, greater, so_far, one)

  pub counts_on : (i steps next old : ℕ) → i < length keys → next ≡ steps + there (get_or keys i None)
      → steps + all_there (drop i keys) ≡ old + all_there keys → next + all_there (drop (i + 1) keys) ≡ old + all_there keys
  counts_on i steps next old w n so_far =
      let one : all_there (drop i keys) ≡ there (get_or keys i None) + all_there (drop (i + 1) keys) = ap all_there (drop_more keys i None w) in
      omega (arith, n, so_far, one)

  pub at_last : (i all : ℕ) → length keys ≤ i → max all (highest m (drop i keys)) ≡ highest m keys → all ≡ highest m keys
  at_last i all w so_far =
      let none : highest m (drop i keys) ≡ 0 = ap (highest m) (drop_all i keys w) in
      omega (arith, so_far, none)

  pub counted_at_last : (i steps old : ℕ) → length keys ≤ i → steps + all_there (drop i keys) ≡ old + all_there keys → steps ≡ old + all_there keys
  counted_at_last i steps old w so_far =
      let none : all_there (drop i keys) ≡ 0 = ap all_there (drop_all i keys w) in
      omega (arith, so_far, none)

-- a list cut where a part stands
pub cut : (ks before from behind : List (Option ℕ)) (i : ℕ) (k : Option ℕ) → before ≡ take i ks → from ≡ drop i ks → from ≡ k ∷ behind → before ++ k ∷ behind ≡ ks
cut ks before from behind i k front back first =
    ap (λ l. l ++ k ∷ behind) front ∙ ap (λ l. take i ks ++ l) (sym first ∙ back) ∙ take-append-drop i ks
