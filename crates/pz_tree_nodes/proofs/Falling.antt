-- Dropping, node by node and part by part.
use Rattle.std.proofs.Common.{◌≡◌, ◌<◌, ◌≤◌, ℕ, zero, suc, ◌+◌, List, [], ◌∷◌, ◌++◌, length, get_or, drop, append_assoc, Option, Some, None, refl, ap, sym, ◌∙◌, subst, arith}
use Rattle.std.proofs.lemmas.Grind.{common_steps}
use Rattle.std.proofs.lemmas.List.{drop_more}
use Rattle.pz_nodes_shapes.specs.declared.node.Node.{Node}
use Rattle.pz_nodes_shapes.specs.Rose.{node, none, gone, more, Map, roots, width, has}
use Rattle.pz_nodes_shapes.specs.Change.{OnlyAt}
use Rattle.pz_nodes_shapes.specs.Dropping as plain
use Rattle.pz_nodes_shapes.proofs.Frames.{unless, all_kept, below_stand}
use Rattle.pz_nodes_shapes.proofs.Drops as plain_drops
use Rattle.pz_rules.specs.Terms.{frames_in, frames_in_all, term_at}
use Rattle.pz_tree_standing.specs.Heads.{Head, leaf, wait, sequence, parallel, select, guarded, frame, abort, idle, handling, shifted, Shapes, inner_clock, formed}
use Rattle.pz_tree_standing.specs.Standing.{terms_of}
use Rattle.pz_tree_standing.specs.Whole.{HasParts}
use Rattle.pz_tree_nodes.specs.declared.node.What.{What}
use Rattle.pz_tree_nodes.specs.View.{head_view, term_in, shapes_of}
use Rattle.pz_tree_nodes.specs.Dropping.{DropRule, DropAllRule}
use Rattle.pz_tree_nodes.specs.devices.Frames.{frames_here, DropsOn}

pub append_none : {A : Type 0} (xs : List A) → xs ++ [] ≡ xs
append_none [] = refl
append_none (x ∷ xs) = ap (λ l. x ∷ l) (append_none xs)

-- ------------------------------------------------------------ the frames of a node

one_part : (h : Head) (c i : ℕ) (ss : Shapes) → width ss ≡ 1 → frames_in (term_at (terms_of h c i ss) 0) ≡ frames_in_all (terms_of h c i ss)
one_part h c i none p = absurd (omega (arith, p))
one_part h c i (gone none) p = refl
one_part h c i (more s none) p = sym (append_none (frames_in (term_at (terms_of h c i (more s none)) 0)))
one_part h c i (gone (gone ss)) p = absurd (omega (arith, p))
one_part h c i (gone (more t ss)) p = absurd (omega (arith, p))
one_part h c i (more s (gone ss)) p = absurd (omega (arith, p))
one_part h c i (more s (more t ss)) p = absurd (omega (arith, p))

two_parts : (h : Head) (c i : ℕ) (ss : Shapes) → width ss ≡ 2 → frames_in (term_at (terms_of h c i ss) 0) ++ frames_in (term_at (terms_of h c i ss) 1) ≡ frames_in_all (terms_of h c i ss)
two_parts h c i none p = absurd (omega (arith, p))
two_parts h c i (gone ss) p = one_part h c (suc i) ss (omega (arith, p))
two_parts h c i (more s ss) p = ap (λ z. frames_in (term_at (terms_of h c i (more s ss)) 0) ++ z) (one_part h c (suc i) ss (omega (arith, p)))

node_frames : (h : Head) (c : ℕ) (ss : Shapes) → HasParts h ss → frames_in (formed h c (terms_of h c 0 ss)) ≡ frames_here h ++ frames_in_all (terms_of h c 0 ss)
node_frames (leaf s) c none p = refl
node_frames (leaf s) c (gone ss) p = absurd (omega (arith, p))
node_frames (leaf s) c (more t ss) p = absurd (omega (arith, p))
node_frames (wait due at) c none p = refl
node_frames (wait due at) c (gone ss) p = absurd (omega (arith, p))
node_frames (wait due at) c (more t ss) p = absurd (omega (arith, p))
node_frames (sequence rest) c ss p = one_part (sequence rest) c 0 ss p
node_frames parallel c ss p = refl
node_frames select c ss p = refl
node_frames (guarded e at s) c ss p = one_part (guarded e at s) c 0 ss p
node_frames (frame number inputs results) c ss p = ap (λ z. number ∷ z) (one_part (frame number inputs results) c 0 ss p)
node_frames abort c ss p = two_parts abort c 0 ss p
node_frames (idle again s) c ss p = two_parts (idle again s) c 0 ss p
node_frames (handling again s) c ss p = two_parts (handling again s) c 0 ss p
node_frames (shifted s) c none p = absurd p
node_frames (shifted s) c (gone ss) p = absurd p
node_frames (shifted s) c (more (node k y ts) none) p = one_part (shifted s) c 0 (more (node k y ts) none) refl
node_frames (shifted s) c (more (node k y ts) (gone ss)) p = absurd p
node_frames (shifted s) c (more (node k y ts) (more u ss)) p = absurd p

-- ------------------------------------------------------------ parts side by side

one_plain : (m n : Map What) (key old new : ℕ) (fs gs : List ℕ) → DropRule m n key fs gs old new → plain.DropRule m n key old new
one_plain m n key old new fs gs d p h r = let a = d p h r in (a.gone, a.ticks)

all_plain : (m n : Map What) (keys : List (Option ℕ)) (old new : ℕ) (fs gs : List ℕ) → DropAllRule m n keys fs gs old new → plain.DropAllRule m n keys old new
all_plain m n keys old new fs gs d ps h r = let a = d ps h r in (a.gone, a.ticks)

none_dropped : (m : Map What) (fs : List ℕ) (old : ℕ) → DropAllRule m m [] fs fs old old
none_dropped m fs old none h r = let g = plain_drops.drop_none m old none h r in record { gone = g.0; frames = λ w a c i. sym (append_none fs); ticks = g.1 }
none_dropped m fs old (gone ss) h r = absurd cc
none_dropped m fs old (more s ss) h r = absurd cc

gone_dropped : (m n : Map What) (keys : List (Option ℕ)) (fs gs : List ℕ) (old new : ℕ) → DropAllRule m n keys fs gs old new → DropAllRule m n (None ∷ keys) fs gs old new
gone_dropped m n keys fs gs old new d none h r = absurd cc
gone_dropped m n keys fs gs old new d (gone ss) h r = let a = d ss h cc in record { gone = a.gone; frames = λ w hd c i. a.frames w hd c (suc i); ticks = a.ticks }
gone_dropped m n keys fs gs old new d (more s ss) h r = absurd cc

more_dropped : (m m1 n : Map What) (key : ℕ) (keys : List (Option ℕ)) (fs gs hs : List ℕ) (old mid new : ℕ) → DropRule m m1 key fs gs old mid → DropAllRule m1 n keys gs hs mid new
    → DropAllRule m n (Some key ∷ keys) fs hs old new
more_dropped m m1 n key keys fs gs hs old mid new d e none h r = absurd cc
more_dropped m m1 n key keys fs gs hs old mid new d e (gone ss) h r = absurd cc
more_dropped m m1 n key keys fs gs hs old mid new d e (more s ss) h r =
    let a = d s h.1 cc in
    let b = e ss (all_kept m m1 ss (λ j p. a.gone.kept j (unless (has s j) (λ q. h.0 j q p)) refl) h.2) cc in
    let g = plain_drops.drop_more m m1 n key keys old mid new (one_plain m m1 key old mid fs gs d) (all_plain m1 n keys mid new gs hs e) (more s ss) h r in
    record {
      gone = g.0;
      frames = λ w hd c i.
          let ts = frames_in_all (terms_of hd c (suc i) (shapes_of ss)) in
          b.frames w.1 hd c (suc i) ∙ ap (λ z. z ++ ts) (a.frames w.0 (inner_clock hd i c)) ∙ append_assoc fs (frames_in (term_in (inner_clock hd i c) s)) ts;
      ticks = g.1;
    }

-- ------------------------------------------------------------ a node

some_same : (n o : Node What) → ◌≡◌ {A = Option (Node What)} (Some n) (Some o) → n ≡ o
some_same n o e = cc

-- the node itself is gone, and then its children
pub node_dropped : (m m1 n : Map What) (key : ℕ) (was : Node What) (fs gs hs : List ℕ) (old mid new : ℕ) → m key ≡ Some was → m1 key ≡ None → OnlyAt m m1 key → mid ≡ old + 1
    → gs ≡ fs ++ frames_here (head_view was.what.head) → DropAllRule m1 n was.kids gs hs mid new → DropRule m n key fs hs old new
node_dropped m m1 n key was fs gs hs old mid new e z only t own d (node k x ss) h r =
    let same : was ≡ record { what = x; kids = roots ss } = some_same was (record { what = x; kids = roots ss }) (sym e ∙ ap m (sym r) ∙ h.0) in
    let b = d ss (below_stand m m1 k ss h.1 (subst (OnlyAt m m1) (sym r) only) h.2) (sym (ap (λ y. y.kids) same)) in
    let g = plain_drops.drop_node m m1 n key was old mid new e z only t (all_plain m1 n was.kids mid new gs hs d) (node k x ss) h r in
    let here = frames_here (head_view x.head) in
    record {
      gone = g.0;
      frames = λ w c.
          let ts = frames_in_all (terms_of (head_view x.head) c 0 (shapes_of ss)) in
          b.frames w.1 (head_view x.head) c 0 ∙ ap (λ z. z ++ ts) (own ∙ ap (λ y. fs ++ frames_here (head_view y.what.head)) same) ∙ append_assoc fs here ts
          ∙ ap (λ z. fs ++ z) (sym (node_frames (head_view x.head) c (shapes_of ss) w.0));
      ticks = g.1;
    }

pub absent_dropped : (m : Map What) (key old : ℕ) (fs gs : List ℕ) → m key ≡ None → DropRule m m key fs gs old (old + 1)
absent_dropped m key old fs gs e (node k x ss) h r = absurd (let f = h.0 in let g = ap m r in cc)

-- ------------------------------------------------------------ the loop

next_key : (keys : List (Option ℕ)) (i : ℕ) → i < length keys → drop i keys ≡ get_or keys i None ∷ drop (i + 1) keys
next_key keys i h = drop_more keys i None h

nothing_left : (keys : List (Option ℕ)) (i : ℕ) → length keys ≤ i → drop i keys ≡ []
nothing_left [] i h = grind (arith, common_steps)
nothing_left (x ∷ xs) zero h = absurd (omega arith)
nothing_left (x ∷ xs) (suc i) h = nothing_left xs i (omega arith)

pub drops_next : (m0 m : Map What) (keys : List (Option ℕ)) (i : ℕ) (fs gs : List ℕ) (old now : ℕ) → i < length keys → get_or keys i None ≡ None → DropsOn m0 m keys i fs gs old now → DropsOn m0 m keys (i + 1) fs gs old now
drops_next m0 m keys i fs gs old now h e on n hs new d =
    on n hs new (subst (λ z. DropAllRule m n z gs hs now new) (sym (next_key keys i h)) (subst (λ z. DropAllRule m n (z ∷ drop (i + 1) keys) gs hs now new) (sym e) (gone_dropped m n (drop (i + 1) keys) gs hs now new d)))

pub drops_one : (m0 m m1 : Map What) (keys : List (Option ℕ)) (i key : ℕ) (fs gs hs : List ℕ) (old now mid : ℕ) → i < length keys → get_or keys i None ≡ Some key → DropRule m m1 key gs hs now mid → DropsOn m0 m keys i fs gs old now
    → DropsOn m0 m1 keys (i + 1) fs hs old mid
drops_one m0 m m1 keys i key fs gs hs old now mid h e r on n ks new d =
    on n ks new (subst (λ z. DropAllRule m n z gs ks now new) (sym (next_key keys i h)) (subst (λ z. DropAllRule m n (z ∷ drop (i + 1) keys) gs ks now new) (sym e) (more_dropped m m1 n key (drop (i + 1) keys) gs hs ks now mid new r d)))

pub all_dropped : (m0 m : Map What) (keys : List (Option ℕ)) (i : ℕ) (fs gs : List ℕ) (old now : ℕ) → length keys ≤ i → DropsOn m0 m keys i fs gs old now → DropAllRule m0 m keys fs gs old now
all_dropped m0 m keys i fs gs old now h on = on m gs now (subst (λ z. DropAllRule m m z gs gs now now) (sym (nothing_left keys i h)) (none_dropped m gs now))

pub drops_at_first : (m : Map What) (keys : List (Option ℕ)) (fs : List ℕ) (old : ℕ) → DropsOn m m keys 0 fs fs old old
drops_at_first m keys fs old n hs new d = d
