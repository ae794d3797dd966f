-- What nodes keep counts what is noted of their terms, and leads to the child that has it.
use Rattle.std.proofs.Common.{◌≡◌, ◌<◌, ◌+◌, ℕ, zero, suc, Bool, true, false, cond, List, [], ◌∷◌, ◌++◌, map, length, take, Option, Some, None, refl, ap, sym, ◌∙◌, subst, arith, length-append}
use Rattle.std.specs.Prelude.{option_map, slice_get, slice_index_or}
use Rattle.std.proofs.lemmas.List.{length-map}
use Rattle.std.proofs.lemmas.Option.{slice_get-map}
use Rattle.pz_rules.specs.pz_offer.declared.summary.Summary.{Summary}
use Rattle.pz_nodes_shapes.specs.Rose.{node, none, gone, more, Map, root, roots, Stands, StandAll}
use Rattle.pz_rules.specs.Settings.{Context}
use Rattle.pz_rules.specs.Terms.{Term, done, term_at}
use Rattle.pz_rules.specs.devices.Walk.{Noted, active_parts, noted}
use Rattle.pz_tree_standing.specs.Summaries.{summary_of}
use Rattle.pz_tree_standing.specs.Heads.{Head, inner_clock}
use Rattle.pz_tree_standing.specs.Standing.{terms_of}
use Rattle.pz_tree_standing.specs.Reached.{reaches}
use Rattle.pz_tree_standing.specs.Right.{Right, RightAll}
use Rattle.pz_tree_nodes.specs.declared.node.What.{What}
use Rattle.pz_tree_nodes.specs.View.{Plant, Plants, shape_of, shapes_of, term_in}
use Rattle.pz_tree_nodes.specs.devices.Counts.{count_of, count_under, counts}
use Rattle.pz_tree_nodes.specs.devices.Onward.{further}
use Rattle.pz_tree_nodes.proofs.Cut.{kid_notes, notes_at, noted_none}

-- ---------------------------------------------------------- lists

module _ {X : Type 0} where
  pub get_front : (xs ys : List X) (k : ℕ) → k < length xs → slice_get (xs ++ ys) k ≡ slice_get xs k
  get_front [] ys k l = absurd (omega (arith, l))
  get_front (x ∷ xs) ys zero l = refl
  get_front (x ∷ xs) ys (suc k) l = get_front xs ys k (omega (arith, l))

  pub get_back : (xs ys : List X) (j k : ℕ) → k ≡ length xs + j → slice_get (xs ++ ys) k ≡ slice_get ys j
  get_back [] ys j k e = ap (slice_get ys) (let n : k ≡ j = omega (arith, e) in n)
  get_back (x ∷ xs) ys j zero e = absurd (omega (arith, e))
  get_back (x ∷ xs) ys j (suc k) e = get_back xs ys j k (omega (arith, e))

plus_none : (n k : ℕ) → n + (0 + k) ≡ n + k
plus_none n k = omega arith

none_plus : (k : ℕ) → 0 + k ≡ k
none_plus k = omega arith

plus_zero : (n : ℕ) → n + 0 ≡ n
plus_zero n = omega arith

plus_turn : (n k j : ℕ) → n + (k + j) ≡ k + (n + j)
plus_turn n k j = omega arith

-- ---------------------------------------------------------- what is kept counts

module _ {X : Type 0} (q : ℕ → Term → Option X) (of : Summary → ℕ) (a : Context)
    (counted : (f c : ℕ) (t : Term) → of (summary_of a c f t) ≡ length (noted q (active_parts a f t))) (quiet : (f : ℕ) → q f done ≡ None) (m : Map What) where
  kept_counts : (f c : ℕ) (p : Plant) → Stands m p → Right a f c (shape_of p) → count_under of m (Some (root p)) ≡ length (noted q (active_parts a f (term_in c p)))
  kept_counts f c (node k x ps) st ri = ap (count_of of) st.0 ∙ ap of ri.0 ∙ counted f c (term_in c (node k x ps))

  module _ (f : ℕ) (h : Head) where
    length_at : (b : Bool) (i : ℕ) (ns : List (Noted X)) (n : ℕ) → (b ≡ true → n ≡ length ns) → length (cond b (map (further i) ns) []) ≡ cond b n 0
    length_at true i ns n e = length-map ns (further i) ∙ sym (e refl)
    length_at false i ns n e = refl

    gone_none : (i : ℕ) → notes_at q a f h i done ≡ []
    gone_none i = ap (λ ns. cond (reaches h i) (map (further i) ns) []) (noted_none q f done [] (quiet f)) ∙ by (reaches h i)
      where
        by : (b : Bool) → ◌≡◌ {A = List (Noted X)} (cond b [] []) []
        by true = refl
        by false = refl

    no_count : (i : ℕ) → cond (reaches h i) (count_under of m None) 0 ≡ 0
    no_count i = by (reaches h i)
      where
        by : (b : Bool) → ◌≡◌ {A = ℕ} (cond b 0 0) 0
        by true = refl
        by false = refl

    kid_length : (c i : ℕ) (p : Plant) → Stands m p → (reaches h i ≡ true → Right a f (inner_clock h i c) (shape_of p))
        → length (notes_at q a f h i (term_in (inner_clock h i c) p)) ≡ cond (reaches h i) (count_under of m (Some (root p))) 0
    kid_length c i p st ri =
        length_at (reaches h i) i (noted q (active_parts a f (term_in (inner_clock h i c) p))) (count_under of m (Some (root p))) (λ g. kept_counts f (inner_clock h i c) p st (ri g))

    pub lengths : (c i : ℕ) (ps : Plants) → StandAll m ps → RightAll a f h c i (shapes_of ps) → length (kid_notes q a f h i (terms_of h c i (shapes_of ps))) ≡ counts of m h i (roots ps)
    lengths c i none st ri = refl
    lengths c i (gone ps) st ri =
        length-append (notes_at q a f h i done) (kid_notes q a f h (suc i) (terms_of h c (suc i) (shapes_of ps)))
        ∙ (λ n. (ap length (gone_none i) ∙ sym (no_count i)) n + lengths c (suc i) ps st ri n)
    lengths c i (more p ps) st ri =
        length-append (notes_at q a f h i (term_in (inner_clock h i c) p)) (kid_notes q a f h (suc i) (terms_of h c (suc i) (shapes_of ps)))
        ∙ (λ n. kid_length c i p st.1 ri.0 n + lengths c (suc i) ps st.2 ri.1 n)

    -- the k-th of all is the one of number `left` in this child
    pub found_in : (c i : ℕ) (ps : Plants) (k number left : ℕ) → StandAll m ps → RightAll a f h c i (shapes_of ps) → reaches h (i + number) ≡ true
        → left < count_under of m (slice_index_or (roots ps) number None) → k ≡ left + counts of m h i (take number (roots ps))
        → slice_get (kid_notes q a f h i (terms_of h c i (shapes_of ps))) k
        ≡ option_map (further (i + number)) (slice_get (noted q (active_parts a f (term_at (terms_of h c i (shapes_of ps)) number))) left)
    found_in c i none k number left st ri g l e = absurd (omega (arith, l))
    found_in c i (gone ps) k zero left st ri g l e = absurd (omega (arith, l))
    found_in c i (gone ps) k (suc j) left st ri g l e =
        let n : i + suc j ≡ suc i + j = omega arith in
        let k_is : k ≡ left + counts of m h (suc i) (take j (roots ps)) = e ∙ ap (λ z. left + (z + counts of m h (suc i) (take j (roots ps)))) (no_count i) ∙ plus_none left (counts of m h (suc i) (take j (roots ps))) in
        get_back (notes_at q a f h i done) (kid_notes q a f h (suc i) (terms_of h c (suc i) (shapes_of ps))) k k (sym (ap (λ z. z + k) (ap length (gone_none i)) ∙ none_plus k))
        ∙ found_in c (suc i) ps k j left st ri (subst (λ z. reaches h z ≡ true) n g) l k_is
        ∙ ap (λ z. option_map (further z) (slice_get (noted q (active_parts a f (term_at (terms_of h c (suc i) (shapes_of ps)) j))) left)) (sym n)
    found_in c i (more p ps) k zero left st ri g l e =
        let n : i + 0 ≡ i = omega arith in
        let t = term_in (inner_clock h i c) p in
        let active : reaches h i ≡ true = subst (λ z. reaches h z ≡ true) n g in
        let k_is : k ≡ left = e ∙ plus_zero left in
        let all : length (noted q (active_parts a f t)) ≡ count_under of m (Some (root p)) = sym (kept_counts f (inner_clock h i c) p st.1 (ri.0 active)) in
        let is_first : notes_at q a f h i t ≡ map (further i) (noted q (active_parts a f t)) = ap (λ b. cond b (map (further i) (noted q (active_parts a f t))) []) active in
        let within : k < length (map (further i) (noted q (active_parts a f t))) = subst (λ z. k < z) (sym (length-map (noted q (active_parts a f t)) (further i) ∙ all)) (subst (λ z. z < count_under of m (Some (root p))) (sym k_is) l) in
        ap (λ ns. slice_get (ns ++ kid_notes q a f h (suc i) (terms_of h c (suc i) (shapes_of ps))) k) is_first
        ∙ get_front (map (further i) (noted q (active_parts a f t))) (kid_notes q a f h (suc i) (terms_of h c (suc i) (shapes_of ps))) k within
        ∙ slice_get-map (further i) (noted q (active_parts a f t)) k
        ∙ (λ z. option_map (further (sym n z)) (slice_get (noted q (active_parts a f t)) (k_is z)))
    found_in c i (more p ps) k (suc j) left st ri g l e =
        let n : i + suc j ≡ suc i + j = omega arith in
        let t = term_in (inner_clock h i c) p in
        let here = cond (reaches h i) (count_under of m (Some (root p))) 0 in
        let rest = counts of m h (suc i) (take j (roots ps)) in
        let k_is : k ≡ length (notes_at q a f h i t) + (left + rest) = e ∙ plus_turn left here rest ∙ ap (λ z. z + (left + rest)) (sym (kid_length c i p st.1 ri.0)) in
        get_back (notes_at q a f h i t) (kid_notes q a f h (suc i) (terms_of h c (suc i) (shapes_of ps))) (left + rest) k k_is
        ∙ found_in c (suc i) ps (left + rest) j left st.2 ri.1 (subst (λ z. reaches h z ≡ true) n g) l refl
        ∙ ap (λ z. option_map (further z) (slice_get (noted q (active_parts a f (term_at (terms_of h c (suc i) (shapes_of ps)) j))) left)) (sym n)
