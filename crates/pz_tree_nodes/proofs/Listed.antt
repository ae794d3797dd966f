-- What is listed below a node.
use Rattle.std.proofs.Common.{◌≡◌, ◌<◌, ◌≤◌, ◌+◌, ℕ, suc, true, false, cond, List, [], ◌∷◌, ◌++◌, map, length, Option, Some, None, refl, ap, sym, ◌∙◌, subst, arith}
use Rattle.std.specs.Prelude.{option_map, slice_index_or}
use Rattle.std.specs.List.{cons_option}
use Rattle.pz_classes_code.specs.declared.step.Step.{Step}
use Rattle.pz_classes_code.specs.StepView as step
use Rattle.pz_rules.specs.pz_offer.PlaceOrder.{Place}
use Rattle.pz_rules.specs.pz_offer.declared.summary.Summary.{Summary}
use Rattle.pz_rules.specs.pz_state.declared.state.FrameId.{FrameId}
use Rattle.pz_nodes_shapes.specs.declared.node.Node.{Node}
use Rattle.pz_nodes_shapes.specs.Rose.{Map, root, width}
use Rattle.pz_nodes_shapes.specs.Seen.{seen, seen_node}
use Rattle.pz_rules.specs.Laws.{part_of}
use Rattle.pz_rules.specs.Settings.{Context}
use Rattle.pz_rules.specs.Terms.{Term, Terms, done, child, frame_in, term_at, count, height}
use Rattle.pz_rules.specs.Terms as term
use Rattle.pz_rules.specs.devices.Walk.{Noted, noted_at, active_parts, noted, sent_by, received_by}
use Rattle.pz_tree_standing.specs.Summaries.{summary_of}
use Rattle.pz_tree_standing.specs.Heads.{Head, leaf, wait, sequence, parallel, select, guarded, frame, abort, idle, handling, shifted, inner_clock, inner_frame, formed}
use Rattle.pz_tree_standing.specs.Standing.{terms_of}
use Rattle.pz_tree_standing.specs.Reached.{reaches}
use Rattle.pz_tree_standing.specs.Whole.{IsNoShift}
use Rattle.pz_tree_nodes.specs.declared.node.What.{What}
use Rattle.pz_tree_nodes.specs.declared.node.Head as lying
use Rattle.pz_tree_nodes.specs.declared.node.Head.TheVariants as kind
use Rattle.pz_tree_nodes.specs.View.{head_view, what_view, shapes_of}
use Rattle.pz_tree_nodes.specs.declared.found.Part.{Part}
use Rattle.pz_tree_nodes.specs.declared.found.Offering.{Offering}
use Rattle.pz_tree_nodes.specs.declared.found.Offering.TheVariants.{Sends, Receives}
use Rattle.pz_tree_nodes.specs.declared.parts.Spot.{Spot}
use Rattle.pz_tree_nodes.specs.Seeking.{IsBare, IsBareUnder, IsFound}
use Rattle.pz_tree_nodes.specs.Standing.{StandsRight, RightUnder}
use Rattle.pz_tree_nodes.specs.devices.Levels.{PastRightRule, HasTop}
use Rattle.pz_tree_nodes.specs.Listing.{AreOf, ListRule}
use Rattle.pz_tree_nodes.specs.devices.Adding.{count_in, AreBelow, Adds, AddsOffering, AddRule, IsOver, BelowRule}
use Rattle.pz_tree_nodes.specs.devices.Onward.{further}
use Rattle.pz_tree_nodes.proofs.Cut.{notes_at, notes_cut, counted}
use Rattle.pz_tree_nodes.proofs.Tops.{has_top, child_is, frame_is, child_right}
use Rattle.pz_tree_nodes.proofs.Onward.{width_is}
use Rattle.pz_tree_nodes.proofs.Heights.{lower}
use Rattle.pz_tree_nodes.proofs.Added.{adds_none, adds_both, adds_further, front, front_more, front_all, adds_itself}

over_is_bare : (h : Head) → IsOver h → IsNoShift h
over_is_bare (leaf s) o = tt
over_is_bare (wait due at) o = tt
over_is_bare (sequence rest) o = tt
over_is_bare parallel o = tt
over_is_bare select o = tt
over_is_bare (guarded e at s) o = tt
over_is_bare (frame number inputs results) o = tt
over_is_bare abort o = tt
over_is_bare (idle again s) o = tt
over_is_bare (handling again s) o = tt
over_is_bare (shifted s) o = absurd o

-- a part that is over others neither sends nor receives
pub sends_nothing : (a : Context) (f : ℕ) (h : Head) (c : ℕ) (ts : Terms) → IsOver h → sent_by a f (formed h c ts) ≡ None
sends_nothing a f (leaf s) c ts o = absurd o
sends_nothing a f (wait due at) c ts o = refl
sends_nothing a f (sequence rest) c ts o = refl
sends_nothing a f parallel c ts o = refl
sends_nothing a f select c ts o = refl
sends_nothing a f (guarded e at s) c ts o = refl
sends_nothing a f (frame number inputs results) c ts o = refl
sends_nothing a f abort c ts o = refl
sends_nothing a f (idle again s) c ts o = refl
sends_nothing a f (handling again s) c ts o = refl
sends_nothing a f (shifted s) c ts o = absurd o

pub receives_nothing : (h : Head) (c : ℕ) (ts : Terms) → IsOver h → received_by (formed h c ts) ≡ None
receives_nothing (leaf s) c ts o = absurd o
receives_nothing (wait due at) c ts o = refl
receives_nothing (sequence rest) c ts o = refl
receives_nothing parallel c ts o = refl
receives_nothing select c ts o = refl
receives_nothing (guarded e at s) c ts o = refl
receives_nothing (frame number inputs results) c ts o = refl
receives_nothing abort c ts o = refl
receives_nothing (idle again s) c ts o = refl
receives_nothing (handling again s) c ts o = refl
receives_nothing (shifted s) c ts o = absurd o

-- ---------------------------------------------------------- the children of a node

module _ {X : Type 0} (a : Context) (q : ℕ → Term → Option X) (m : Map What) (n : Node What) (f c : ℕ) (t : Term) (top : HasTop a m f c n t) where
  abbrev head : Head
  head = head_view n.what.head

  abbrev ts : Terms
  ts = terms_of head c 0 (shapes_of top.below)

  abbrev first_notes : ℕ → List (Noted X)
  first_notes number = front a m q (inner_frame head f) head number 0 ts

  abbrev AddsFirst : Place → ℕ → List Part → List Part → Type 0
  AddsFirst place number old new = Adds a m q f t place (first_notes number) old new

  counted_kids : (kids : List (Option ℕ)) → kids ≡ n.kids → length kids ≡ count ts
  counted_kids kids same = ap length (same ∙ top.keys) ∙ width_is top.below ∙ sym (counted head c 0 (shapes_of top.below))

  next_notes : (kids : List (Option ℕ)) (i : ℕ) → kids ≡ n.kids → i < length kids → first_notes (i + 1) ≡ first_notes i ++ notes_at q a (inner_frame head f) head i (term_at ts i)
  next_notes kids i same l =
      let more : i + 1 ≡ suc i = omega arith in
      let zero_plus : 0 + i ≡ i = omega arith in
      ap first_notes more
      ∙ front_more a m q (inner_frame head f) head i 0 ts (subst (λ z. i < z) (counted_kids kids same) l)
      ∙ ap (λ z. first_notes i ++ notes_at q a (inner_frame head f) head z (term_at ts i)) zero_plus

  -- child i is not active
  pub skipped : (place : Place) (kids : List (Option ℕ)) (i : ℕ) (old new : List Part) → kids ≡ n.kids → i < length kids → reaches head i ≡ false → AddsFirst place i old new → AddsFirst place (i + 1) old new
  skipped place kids i old new same l shut adds =
      subst (λ ns. Adds a m q f t place ns old new) (sym (next_notes kids i same l))
      (adds_both a m q f t place (first_notes i) (notes_at q a (inner_frame head f) head i (term_at ts i)) old new new adds
      (adds_none a m q f t place (notes_at q a (inner_frame head f) head i (term_at ts i)) new (ap (λ b. cond b (map (further i) (noted q (active_parts a (inner_frame head f) (term_at ts i)))) []) shut)))

  -- child i is, and its parts were added
  pub entered : IsOver head → (place inner : Place) (kids : List (Option ℕ)) (i : ℕ) (old mid new : List Part) → kids ≡ n.kids → i < length kids → reaches head i ≡ true → inner ≡ place ++ i ∷ []
      → Adds a m q (inner_frame head f) (term_at ts i) inner (noted q (active_parts a (inner_frame head f) (term_at ts i))) mid new
      → AddsFirst place i old mid → AddsFirst place (i + 1) old new
  entered over place inner kids i old mid new same l active is kid adds =
      let plain = over_is_bare head over in
      let in_frame : inner_frame head f ≡ frame_in t f = frame_is a m f c n t top plain in
      let part : term_at ts i ≡ child t i = sym (child_is a m f c n t top i plain) in
      let ns = noted q (active_parts a (inner_frame head f) (term_at ts i)) in
      let of_child : Adds a m q (frame_in t f) (child t i) inner ns mid new = subst (λ z. Adds a m q z (child t i) inner ns mid new) in_frame (subst (λ z. Adds a m q (inner_frame head f) z inner ns mid new) part kid) in
      let here : Adds a m q f t place (notes_at q a (inner_frame head f) head i (term_at ts i)) mid new =
      subst (λ b. Adds a m q f t place (cond b (map (further i) ns) []) mid new) (sym active) (adds_further a m q f t place inner i ns mid new is of_child) in
      subst (λ z. Adds a m q f t place z old new) (sym (next_notes kids i same l))
      (adds_both a m q f t place (first_notes i) (notes_at q a (inner_frame head f) head i (term_at ts i)) old mid new adds here)

  -- all were seen
  pub added_all : IsOver head → q f (formed head c ts) ≡ None → (place : Place) (kids : List (Option ℕ)) (i : ℕ) (old new : List Part) → kids ≡ n.kids → length kids ≤ i → AddsFirst place i old new
      → Adds a m q f t place (noted q (active_parts a f t)) old new
  added_all over none place kids i old new same l adds =
      subst (λ ns. Adds a m q f t place ns old new)
      (front_all a m q (inner_frame head f) head i 0 ts (subst (λ z. z ≤ i) (counted_kids kids same) l)
      ∙ sym (notes_cut q a f c head (shapes_of top.below) top.parts (over_is_bare head over) top.gate none)
      ∙ ap (λ z. noted q (active_parts a f z)) (sym top.means)) adds

-- ---------------------------------------------------------- of either sort

module _ (m : Map What) (n : Node What) (f c : ℕ) where
  abbrev AddsFirstOf : Offering → (a : Context) (t : Term) → HasTop a m f c n t → Place → ℕ → List Part → List Part → Type 0
  AddsFirstOf Sends a t top place number old new = AddsFirst a (sent_by a) m n f c t top place number old new
  AddsFirstOf Receives a t top place number old new = AddsFirst a (λ g. received_by) m n f c t top place number old new

  -- the children before this number are seen
  abbrev pub KidsRule : Offering → ℕ → Place → ℕ → List Part → List Part → Type 0
  KidsRule offering levels place number old new = (a : Context) (t : Term) (top : HasTop a m f c n t) → IsOver (head_view n.what.head) → height t ≤ suc levels
      → AddsFirstOf offering a t top place number old new

  pub kids_start : (offering : Offering) (levels : ℕ) (place : Place) (old : List Part) → KidsRule offering levels place 0 old old
  kids_start Sends levels place old a t top over l = adds_none a m (sent_by a) f t place [] old refl
  kids_start Receives levels place old a t top over l = adds_none a m (λ g. received_by) f t place [] old refl

  module _ (kids : List (Option ℕ)) (same : kids ≡ n.kids) (levels : ℕ) (place : Place) (i : ℕ) where
    pub kids_skip : (offering : Offering) (old new : List Part) → i < length kids → reaches (head_view n.what.head) i ≡ false → KidsRule offering levels place i old new → KidsRule offering levels place (i + 1) old new
    kids_skip Sends old new within shut rule a t top over l = skipped a (sent_by a) m n f c t top place kids i old new same within shut (rule a t top over l)
    kids_skip Receives old new within shut rule a t top over l = skipped a (λ g. received_by) m n f c t top place kids i old new same within shut (rule a t top over l)

    pub kids_end : (offering : Offering) (old new : List Part) → length kids ≤ i → KidsRule offering levels place i old new → BelowRule offering m n f c levels place old new
    kids_end Sends old new past rule a t top over l =
        added_all a (sent_by a) m n f c t top over (sends_nothing a f (head_view n.what.head) c (terms_of (head_view n.what.head) c 0 (shapes_of top.below)) over) place kids i old new same past (rule a t top over l)
    kids_end Receives old new past rule a t top over l =
        added_all a (λ g. received_by) m n f c t top over (receives_nothing (head_view n.what.head) c (terms_of (head_view n.what.head) c 0 (shapes_of top.below)) over) place kids i old new same past (rule a t top over l)

    -- the parts of an active child
    kid_added : (offering : Offering) (inner : Place) (mid new : List Part) (kid : Spot) → i < length kids → reaches (head_view n.what.head) i ≡ true
        → kid.key ≡ slice_index_or n.kids i None → kid.frame.0 ≡ inner_frame (head_view n.what.head) f → kid.clock ≡ inner_clock (head_view n.what.head) i c
        → AddRule offering m kid.key kid.frame.0 kid.clock levels inner mid new
        → (a : Context) (t : Term) (top : HasTop a m f c n t) → IsOver (head_view n.what.head) → height t ≤ suc levels
        → AddsOffering offering a m (inner_frame (head_view n.what.head) f) (term_at (terms_of (head_view n.what.head) c 0 (shapes_of top.below)) i) inner mid new
    kid_added offering inner mid new kid within active key_is frame_is_ clock_is rule a t top over l =
        let h = head_view n.what.head in
        let u = term_at (terms_of h c 0 (shapes_of top.below)) i in
        let there : i < width (shapes_of top.below) = subst (λ z. i < z) (ap length (same ∙ top.keys) ∙ width_is top.below) within in
        let lower_kid : height u < height t = subst (λ z. height u < height z) (sym top.means) (lower h c (shapes_of top.below) i (over_is_bare h over) there active) in
        let right : RightUnder a m kid.frame.0 kid.key kid.clock u =
        subst (λ z. RightUnder a m z kid.key kid.clock u) (sym frame_is_)
        (subst (λ z. RightUnder a m (inner_frame h f) z kid.clock u) (sym key_is)
        (subst (λ z. RightUnder a m (inner_frame h f) (slice_index_or n.kids i None) z u) (sym clock_is) (child_right a m f c n t top i active))) in
        subst (λ z. AddsOffering offering a m z u inner mid new) frame_is_ (rule a u right (omega (arith, lower_kid, l)))

    pub kids_enter : (offering : Offering) (inner : Place) (old mid new : List Part) (kid : Spot) → i < length kids → reaches (head_view n.what.head) i ≡ true → inner ≡ place ++ i ∷ []
        → kid.key ≡ slice_index_or n.kids i None → kid.frame.0 ≡ inner_frame (head_view n.what.head) f → kid.clock ≡ inner_clock (head_view n.what.head) i c
        → AddRule offering m kid.key kid.frame.0 kid.clock levels inner mid new → KidsRule offering levels place i old mid → KidsRule offering levels place (i + 1) old new
    kids_enter Sends inner old mid new kid within active is key_is frame_is_ clock_is rule so_far a t top over l =
        entered a (sent_by a) m n f c t top over place inner kids i old mid new same within active is (kid_added Sends inner mid new kid within active key_is frame_is_ clock_is rule a t top over l) (so_far a t top over l)
    kids_enter Receives inner old mid new kid within active is key_is frame_is_ clock_is rule so_far a t top over l =
        entered a (λ g. received_by) m n f c t top over place inner kids i old mid new same within active is (kid_added Receives inner mid new kid within active key_is frame_is_ clock_is rule a t top over l) (so_far a t top over l)

-- ---------------------------------------------------------- a part

length_none : {X : Type 0} (ns : List X) → length ns ≡ 0 → ns ≡ []
length_none [] e = refl
length_none (x ∷ ns) e = absurd (omega (arith, e))

module _ (m : Map What) (offering : Offering) (f : ℕ) (place : Place) (old : List Part) where
  -- of what is kept, none has this
  pub none_kept : (a : Context) (c : ℕ) (t : Term) (s : Summary) → s ≡ summary_of a c f t → count_in offering s ≡ 0 → AddsOffering offering a m f t place old old
  none_kept a c t s e z = by offering z
    where
      by : (o : Offering) → count_in o s ≡ 0 → AddsOffering o a m f t place old old
      by Sends z = adds_none a m (sent_by a) f t place (noted (sent_by a) (active_parts a f t)) old (length_none (noted (sent_by a) (active_parts a f t)) (ap (count_in Sends) (sym e) ∙ z))
      by Receives z = adds_none a m (λ g. received_by) f t place (noted (λ g. received_by) (active_parts a f t)) old (length_none (noted (λ g. received_by) (active_parts a f t)) (ap (count_in Receives) (sym e) ∙ z))

pub over_is : (h : lying.Head) → ((s : Step) → h ≡ kind.Leaf s → ⊥) → IsNoShift (head_view h) → IsOver (head_view h)
over_is (kind.Leaf s) plain bare = absurd (plain s refl)
over_is (kind.Wait due pos) plain bare = tt
over_is (kind.Seq rest) plain bare = tt
over_is kind.Par plain bare = tt
over_is kind.Sel plain bare = tt
over_is (kind.Guard test pos shift) plain bare = tt
over_is (kind.Frame number inputs results) plain bare = tt
over_is kind.Abort plain bare = tt
over_is (kind.Idle again shift) plain bare = tt
over_is (kind.Handling again shift) plain bare = tt
over_is (kind.Shifted shift) plain bare = bare

-- of the part that stands at a spot
abbrev pub SpotRule : Offering → Map What → Spot → ℕ → Place → List Part → List Part → Type 0
SpotRule offering m spot levels place old new = (a : Context) (t : Term) → RightUnder a m spot.frame.0 spot.key spot.clock t → IsBareUnder (seen what_view m) spot.key → height t ≤ levels
    → AddsOffering offering a m spot.frame.0 t place old new

pub past_added : (offering : Offering) (m : Map What) (start spot : Spot) (levels : ℕ) (place : Place) (old new : List Part) → PastRightRule m start.key start.frame.0 start.clock spot.key spot.clock → spot.frame ≡ start.frame
    → SpotRule offering m spot levels place old new → AddRule offering m start.key start.frame.0 start.clock levels place old new
past_added offering m start spot levels place old new past same rule a t u l =
    let p = past a t u in
    let e : spot.frame.0 ≡ start.frame.0 = ap (λ (z : FrameId). z.0) same in
    subst (λ z. AddsOffering offering a m z t place old new) e (rule a t (subst (λ z. RightUnder a m z spot.key spot.clock t) (sym e) p.0) p.1 l)

module _ (offering : Offering) (m : Map What) (spot : Spot) (levels : ℕ) (place : Place) (old : List Part) where
  module _ (k : ℕ) (n : Node What) (is : spot.key ≡ Some k) (there : m k ≡ Some n) where
    right_here : (a : Context) (t : Term) → RightUnder a m spot.frame.0 spot.key spot.clock t → StandsRight a m spot.frame.0 k spot.clock t
    right_here a t u = subst (λ z. RightUnder a m spot.frame.0 z spot.clock t) is u

    top : (a : Context) (t : Term) → RightUnder a m spot.frame.0 spot.key spot.clock t → HasTop a m spot.frame.0 spot.clock n t
    top a t u = has_top a m spot.frame.0 k spot.clock t n there (right_here a t u)

    bare_head : IsBareUnder (seen what_view m) spot.key → IsNoShift (head_view n.what.head)
    bare_head b = subst IsBare (ap (option_map (seen_node what_view)) there) (subst (IsBareUnder (seen what_view m)) is b)

    pub spot_empty : count_in offering n.what.kept.summary ≡ 0 → SpotRule offering m spot levels place old old
    spot_empty z a t u bare l = none_kept m offering spot.frame.0 place old a spot.clock t n.what.kept.summary (top a t u).kept z

    pub spot_leaf : (s : Step) (new : List Part) → n.what.head ≡ kind.Leaf s → (count_in offering n.what.kept.summary ≡ 0 → ⊥)
        → new ≡ old ++ record { place = place; key = k; frame = spot.frame; clock = spot.clock } ∷ [] → SpotRule offering m spot levels place old new
    spot_leaf s new e some grown a t u bare l = by offering some
      where
        x : HasTop a m spot.frame.0 spot.clock n t
        x = top a t u

        one : Part
        one = record { place = place; key = k; frame = spot.frame; clock = spot.clock }

        t_is : t ≡ term.leaf (step.view s)
        t_is = x.means ∙ ap (λ h. formed (head_view h) spot.clock (terms_of (head_view n.what.head) spot.clock 0 (shapes_of x.below))) e

        alone : {X : Type 0} (q : ℕ → Term → Option X) → noted q (active_parts a spot.frame.0 t) ≡ cons_option (noted_at [] (q spot.frame.0 t)) []
        alone q = ap (λ z. noted q (active_parts a spot.frame.0 z)) t_is ∙ ap (λ z. cons_option (noted_at [] (q spot.frame.0 z)) []) (sym t_is)

        bare_here : IsBareUnder (seen what_view m) (Some k)
        bare_here = subst (IsBareUnder (seen what_view m)) is bare

        by : (o : Offering) → (count_in o n.what.kept.summary ≡ 0 → ⊥) → AddsOffering o a m spot.frame.0 t place old new
        by Sends z = adds_itself a m (sent_by a) spot.frame.0 k spot.clock t place old new one (count_in Sends n.what.kept.summary) (alone (sent_by a)) (ap (count_in Sends) x.kept) z (right_here a t u) bare_here refl refl refl refl grown
        by Receives z = adds_itself a m (λ g. received_by) spot.frame.0 k spot.clock t place old new one (count_in Receives n.what.kept.summary) (alone (λ g. received_by)) (ap (count_in Receives) x.kept) z (right_here a t u) bare_here refl refl refl refl grown

-- ---------------------------------------------------------- all

module _ {X : Type 0} (a : Context) (m : Map What) (q : ℕ → Term → Option X) (f : ℕ) (t : Term) where
  are_of : (xs : List Part) (ns : List (Noted X)) → AreBelow a m q f t [] xs ns → AreOf a m q f t xs ns
  are_of [] [] are = tt
  are_of [] (n ∷ ns) are = absurd are
  are_of (x ∷ xs) [] are = absurd are
  are_of (x ∷ xs) (n ∷ ns) are =
      let b = are.0 in
      let e : n.place ≡ x.place = sym b.at_place in (
        record {
          place = b.at_place;
          part = record {
            found = subst (λ p. IsFound (seen what_view m) f t p (Some x.key) x.frame.0 x.clock) e b.found;
            right = subst (λ p. StandsRight a m x.frame.0 x.key x.clock (part_of t p)) e b.right;
          };
          has = subst (λ p. q x.frame.0 (part_of t p) ≡ Some n.what) e b.has;
        },
        are_of xs ns are.1,
      )

  added_of : (place : Place) (ns : List (Noted X)) (old new : List Part) → place ≡ [] → old ≡ [] → Adds a m q f t place ns old new → AreOf a m q f t new ns
  added_of place ns old new at none adds =
      subst (λ l. AreOf a m q f t l ns) (sym (adds.added ∙ ap (λ l. l ++ adds.more) none))
      (are_of adds.more ns (subst (λ p. AreBelow a m q f t p adds.more ns) at adds.are))

pub all_listed : (offering : Offering) (m : Map What) (root : Option ℕ) (f c levels : ℕ) (place : Place) (old new : List Part) → place ≡ [] → old ≡ [] → AddRule offering m root f c levels place old new → ListRule offering m root f c levels new
all_listed Sends m root f c levels place old new at none rule a t u l = added_of a m (sent_by a) f t place (noted (sent_by a) (active_parts a f t)) old new at none (rule a t u l)
all_listed Receives m root f c levels place old new at none rule a t u l = added_of a m (λ g. received_by) f t place (noted (λ g. received_by) (active_parts a f t)) old new at none (rule a t u l)
