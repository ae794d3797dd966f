-- One level towards the internal action of number k.
use Rattle.std.proofs.Common.{get_or, if◌then◌else◌, ◌≡◌, ◌<◌, ◌≤◌, ◌+◌, ◌-◌, ℕ, zero, suc, true, false, List, [], ◌∷◌, length, take, Option, Some, None, Result, Ok, Err, refl, ap, sym, ◌∙◌, subst, arith}
use Rattle.std.specs.Prelude.{option_map, slice_get, slice_index_or}
use Rattle.std.specs.List.{cons_option}
use Rattle.std.proofs.lemmas.Option.{slice_get_past}
use Rattle.pz_classes_code.specs.pz_syntax.declared.tokens.Pos.{Pos}
use Rattle.pz_classes_code.specs.pz_syntax.Statements as statement
use Rattle.pz_rules.specs.pz_offer.declared.trouble.Trouble.{Trouble}
use Rattle.pz_nodes_shapes.specs.declared.node.Node.{Node}
use Rattle.pz_nodes_shapes.specs.Rose.{none, gone, more, Map, roots, width}
use Rattle.pz_nodes_shapes.specs.Seen.{seen, seen_node}
use Rattle.pz_rules.specs.pz_state.declared.state.FrameId.{FrameId}
use Rattle.pz_rules.specs.declared.action.Kind.TheVariants.{Expire}
use Rattle.pz_rules.specs.Settings.{Context}
use Rattle.pz_rules.specs.Terms.{Step, Term, Terms, child, term_at, height}
use Rattle.pz_rules.specs.devices.Found.{lasting}
use Rattle.pz_rules.specs.devices.Walk as walk
use Rattle.pz_rules.specs.devices.Walk.{Noted, noted_at, noted, active_parts, does, statement_does, expiry}
use Rattle.pz_tree_standing.specs.Heads.{Head, leaf, wait, sequence, parallel, select, guarded, frame, abort, idle, handling, shifted, inner_clock, inner_frame, formed}
use Rattle.pz_tree_standing.specs.Standing.{terms_of}
use Rattle.pz_tree_standing.specs.Reached.{reaches}
use Rattle.pz_tree_standing.specs.Whole.{IsNoShift}
use Rattle.pz_tree_nodes.specs.declared.node.What.{What}
use Rattle.pz_tree_nodes.specs.View.{Plants, head_view, what_view, shapes_of}
use Rattle.pz_tree_nodes.specs.declared.kth.Next.TheVariants.{Nowhere, Acts, Into}
use Rattle.pz_tree_nodes.specs.declared.kth.Sought.{Sought}
use Rattle.pz_tree_nodes.specs.declared.heads.Doing.{Doing}
use Rattle.pz_tree_nodes.specs.declared.parts.Spot.{Spot}
use Rattle.pz_tree_nodes.specs.Seeking.{IsBare, IsBareUnder}
use Rattle.pz_tree_nodes.specs.Standing.{RightUnder}
use Rattle.pz_tree_nodes.specs.Choosing.{actions_in}
use Rattle.pz_tree_nodes.specs.devices.Levels.{PastRightRule, HasTop}
use Rattle.pz_tree_nodes.specs.devices.Own.{statement_may_do, may_do}
use Rattle.pz_tree_nodes.specs.devices.Counts.{internal, count_under, counts, IsIn}
use Rattle.pz_tree_nodes.specs.devices.Onward.{further, doing_view, NextRule}
use Rattle.pz_tree_nodes.proofs.Cut.{kid_notes, notes_cut}
use Rattle.pz_tree_nodes.proofs.Tops.{has_top, child_is, frame_is, child_right}
use Rattle.pz_tree_nodes.proofs.Lengths.{lengths, found_in}
use Rattle.pz_tree_nodes.proofs.Heights.{lower}

plus_none : (n : ℕ) → n + 0 ≡ 0 + n
plus_none n = omega arith

plus_zero : (n : ℕ) → n + 0 ≡ n
plus_zero n = omega arith

plus_turn : (n k j : ℕ) → n + (k + j) ≡ n + k + j
plus_turn n k j = omega arith

-- ---------------------------------------------------------- what a part does itself

module _ (a : Context) (f : ℕ) where
  abbrev one : Option walk.Doing → List (Noted walk.Doing)
  one o = cons_option (noted_at [] o) []

  first_of : (o : Option walk.Doing) (d : Doing) (k : ℕ) → (k < length (one o) → o ≡ Some (doing_view d)) → k < length (one o) → slice_get (one o) k ≡ Some (record { place = []; what = doing_view d })
  first_of None d k is l = absurd (omega (arith, l))
  first_of (Some x) d zero is l = let same : x ≡ doing_view d = (let e = is l in cc) in ap (λ y. Some (record { place = []; what = y })) same
  first_of (Some x) d (suc k) is l = absurd (omega (arith, l))

  expires : (at : Pos) (r : Result ℕ Trouble) (d : Doing) (k : ℕ) → ◌≡◌ {A = Option Doing} (Some (record { kind = Expire; pos = at })) (Some d) → k < length (one (expiry at r)) → expiry at r ≡ Some (doing_view d)
  expires at (Ok zero) d k e l = ap (λ o. option_map doing_view o) e
  expires at (Ok (suc n)) d k e l = absurd (omega (arith, l))
  expires at (Err u) d k e l = absurd (omega (arith, l))

  statement_is : (s : Step) (d : Doing) (k : ℕ) → statement_may_do s ≡ Some d → k < length (one (statement_does a f s)) → statement_does a f s ≡ Some (doing_view d)
  statement_is (statement.skip at) d k e l = ap (option_map doing_view) e
  statement_is (statement.delay at x) d k e l = expires at (lasting a f at x) d k e l
  statement_is (statement.bracketed at ts) d k e l = absurd cc
  statement_is (statement.block at es) d k e l = ap (option_map doing_view) e
  statement_is (statement.guarded at x t) d k e l = absurd cc
  statement_is (statement.parallel at bs) d k e l = absurd cc
  statement_is (statement.select at bs) d k e l = absurd cc
  statement_is (statement.conditional at x ts other) d k e l = ap (option_map doing_view) e
  statement_is (statement.repeated at x ts) d k e l = ap (option_map doing_view) e
  statement_is (statement.abort at ts t) d k e l = absurd cc
  statement_is (statement.interrupt at ts t) d k e l = absurd cc
  statement_is (statement.send at port name args after) d k e l = absurd cc
  statement_is (statement.receive at port name into condition after) d k e l = absurd cc
  statement_is (statement.call at method args results) d k e l = ap (option_map doing_view) e
  statement_is (statement.assignment at x t) d k e l = absurd cc
  statement_is (statement.value at x) d k e l = ap (option_map doing_view) e

  statement_quiet : (s : Step) → statement_may_do s ≡ None → statement_does a f s ≡ None
  statement_quiet (statement.skip at) e = absurd cc
  statement_quiet (statement.delay at x) e = absurd cc
  statement_quiet (statement.bracketed at ts) e = refl
  statement_quiet (statement.block at es) e = absurd cc
  statement_quiet (statement.guarded at x t) e = refl
  statement_quiet (statement.parallel at bs) e = refl
  statement_quiet (statement.select at bs) e = refl
  statement_quiet (statement.conditional at x ts other) e = absurd cc
  statement_quiet (statement.repeated at x ts) e = absurd cc
  statement_quiet (statement.abort at ts t) e = refl
  statement_quiet (statement.interrupt at ts t) e = refl
  statement_quiet (statement.send at port name args after) e = refl
  statement_quiet (statement.receive at port name into condition after) e = refl
  statement_quiet (statement.call at method args results) e = absurd cc
  statement_quiet (statement.assignment at x t) e = refl
  statement_quiet (statement.value at x) e = absurd cc

  acts : (h : Head) (c : ℕ) (ts : Terms) (d : Doing) (k : ℕ) → may_do h ≡ Some d → k < length (actions_in a f (formed h c ts))
      → slice_get (actions_in a f (formed h c ts)) k ≡ Some (record { place = []; what = doing_view d })
  acts (leaf s) c ts d k e l = first_of (statement_does a f s) d k (λ w. statement_is s d k e w) l
  acts (wait due at) c ts d k e l = first_of (expiry at (Ok (due - c))) d k (λ w. expires at (Ok (due - c)) d k e w) l
  acts (sequence rest) c ts d k e l = absurd cc
  acts parallel c ts d k e l = absurd cc
  acts select c ts d k e l = absurd cc
  acts (guarded x at s) c ts d k e l = absurd cc
  acts (frame number inputs results) c ts d k e l = absurd cc
  acts abort c ts d k e l = absurd cc
  acts (idle again s) c ts d k e l = absurd cc
  acts (handling again s) c ts d k e l = absurd cc
  acts (shifted s) c ts d k e l = absurd cc

  does_so : (h : Head) (c : ℕ) (ts : Terms) (d : Doing) (k : ℕ) → may_do h ≡ Some d → k < length (actions_in a f (formed h c ts)) → does a f (formed h c ts) ≡ Some (doing_view d)
  does_so (leaf s) c ts d k e l = statement_is s d k e l
  does_so (wait due at) c ts d k e l = expires at (Ok (due - c)) d k e l
  does_so (sequence rest) c ts d k e l = absurd cc
  does_so parallel c ts d k e l = absurd cc
  does_so select c ts d k e l = absurd cc
  does_so (guarded x at s) c ts d k e l = absurd cc
  does_so (frame number inputs results) c ts d k e l = absurd cc
  does_so abort c ts d k e l = absurd cc
  does_so (idle again s) c ts d k e l = absurd cc
  does_so (handling again s) c ts d k e l = absurd cc
  does_so (shifted s) c ts d k e l = absurd cc

  quiet : (h : Head) (c : ℕ) (ts : Terms) → IsNoShift h → may_do h ≡ None → does a f (formed h c ts) ≡ None
  quiet (leaf s) c ts n e = statement_quiet s e
  quiet (wait due at) c ts n e = absurd cc
  quiet (sequence rest) c ts n e = refl
  quiet parallel c ts n e = refl
  quiet select c ts n e = refl
  quiet (guarded x at s) c ts n e = refl
  quiet (frame number inputs results) c ts n e = refl
  quiet abort c ts n e = refl
  quiet (idle again s) c ts n e = refl
  quiet (handling again s) c ts n e = refl
  quiet (shifted s) c ts n e = absurd n

-- ---------------------------------------------------------- children, one after another

pub none_or : {X : Type 0} (o : Option X) → ((x : X) → o ≡ Some x → ⊥) → o ≡ None
none_or None f = refl
none_or (Some x) f = absurd (f x refl)

module _ (m : Map What) (h : Head) where
  counts_more : (i : ℕ) (kids : List (Option ℕ)) (j : ℕ) → j < length kids
      → counts internal m h i (take (suc j) kids) ≡ counts internal m h i (take j kids) + (if reaches h (i + j) then count_under internal m (get_or kids j None) else 0)
  counts_more i [] j l = absurd (omega (arith, l))
  counts_more i (kid ∷ kids) zero l =
      let n : i + 0 ≡ i = omega arith in
      plus_none (if reaches h i then count_under internal m kid else 0) ∙ ap (λ z. 0 + (if reaches h z then count_under internal m kid else 0)) (sym n)
  counts_more i (kid ∷ kids) (suc j) l =
      let n : suc i + j ≡ i + suc j = omega arith in
      let first = if reaches h i then count_under internal m kid else 0 in
      let last = if reaches h (suc i + j) then count_under internal m (get_or kids j None) else 0 in
      ap (λ z. first + z) (counts_more (suc i) kids j (omega (arith, l)))
      ∙ plus_turn first (counts internal m h (suc i) (take j kids)) last
      ∙ ap (λ z. first + counts internal m h (suc i) (take j kids) + (if reaches h z then count_under internal m (get_or kids j None) else 0)) n

  pub counts_next : (kids : List (Option ℕ)) (i : ℕ) → i < length kids → reaches h i ≡ true → counts internal m h 0 (take (i + 1) kids) ≡ counts internal m h 0 (take i kids) + count_under internal m (get_or kids i None)
  counts_next kids i l g =
      let n : i + 1 ≡ suc i = omega arith in
      let z : 0 + i ≡ i = omega arith in
      ap (λ j. counts internal m h 0 (take j kids)) n ∙ counts_more 0 kids i l
      ∙ ap (λ j. counts internal m h 0 (take i kids) + (if reaches h j then count_under internal m (get_or kids i None) else 0)) z
      ∙ ap (λ b. counts internal m h 0 (take i kids) + (if b then count_under internal m (get_or kids i None) else 0)) g

  pub counts_skip : (kids : List (Option ℕ)) (i : ℕ) → i < length kids → reaches h i ≡ false → counts internal m h 0 (take (i + 1) kids) ≡ counts internal m h 0 (take i kids)
  counts_skip kids i l g =
      let n : i + 1 ≡ suc i = omega arith in
      let z : 0 + i ≡ i = omega arith in
      ap (λ j. counts internal m h 0 (take j kids)) n ∙ counts_more 0 kids i l
      ∙ ap (λ j. counts internal m h 0 (take i kids) + (if reaches h j then count_under internal m (get_or kids i None) else 0)) z
      ∙ ap (λ b. counts internal m h 0 (take i kids) + (if b then count_under internal m (get_or kids i None) else 0)) g
      ∙ plus_zero (counts internal m h 0 (take i kids))

-- ---------------------------------------------------------- a node

pub width_is : (ps : Plants) → length (roots ps) ≡ width (shapes_of ps)
width_is none = refl
width_is (gone ps) = ap suc (width_is ps)
width_is (more p ps) = ap suc (width_is ps)

module _ (m : Map What) (key : Option ℕ) (f c k : ℕ) where
  module _ (own : ℕ) (is : key ≡ Some own) where
    module _ (n : Node What) (there : m own ≡ Some n) where
      abbrev head : Head
      head = head_view n.what.head

      top : (a : Context) (t : Term) → RightUnder a m f key c t → HasTop a m f c n t
      top a t u = has_top a m f own c t n there (subst (λ z. RightUnder a m f z c t) is u)

      bare_head : IsBareUnder (seen what_view m) key → IsNoShift head
      bare_head b = subst IsBare (ap (option_map (seen_node what_view)) there) (subst (IsBareUnder (seen what_view m)) is b)

      counts_all : (a : Context) (t : Term) → RightUnder a m f key c t → n.what.kept.summary.internal ≡ length (actions_in a f t)
      counts_all a t u = ap internal (top a t u).kept

      pub next_acts : (d : Doing) → may_do head ≡ Some d → k < n.what.kept.summary.internal → NextRule m key f c k (Acts own d)
      next_acts d e l a t u bare = let x = top a t u in (
        is,
        ap (does a f) x.means
            ∙ does_so a f head c (terms_of head c 0 (shapes_of x.below)) d k e (subst (λ z. k < length (actions_in a f z)) x.means (subst (λ z. k < z) (counts_all a t u) l)),
        ap (λ z. slice_get (actions_in a f z) k) x.means
            ∙ acts a f head c (terms_of head c 0 (shapes_of x.below)) d k e (subst (λ z. k < length (actions_in a f z)) x.means (subst (λ z. k < z) (counts_all a t u) l)),
      )

      -- what it does is what its children do
      cut_is : (a : Context) (t : Term) (u : RightUnder a m f key c t) → IsBareUnder (seen what_view m) key → may_do head ≡ None
          → actions_in a f t ≡ kid_notes (does a) a (inner_frame head f) head 0 (terms_of head c 0 (shapes_of (top a t u).below))
      cut_is a t u bare e = let x = top a t u in let plain = bare_head bare in
          ap (actions_in a f) x.means
          ∙ notes_cut (does a) a f c head (shapes_of x.below) x.parts plain x.gate (quiet a f head c (terms_of head c 0 (shapes_of x.below)) plain e)

      pub next_none : may_do head ≡ None → (kids : List (Option ℕ)) → kids ≡ n.kids → counts internal m head 0 kids ≤ k → NextRule m key f c k Nowhere
      next_none e kids same l a t u bare = let x = top a t u in
          slice_get_past (actions_in a f t) k
          (subst (λ z. z ≤ k) (ap (counts internal m head 0) (same ∙ x.keys) ∙ sym (lengths (does a) internal a (λ g d s. refl) (λ g. refl) m (inner_frame head f) head c 0 x.below x.stand x.right) ∙ ap length (sym (cut_is a t u bare e))) l)

      pub next_into : may_do head ≡ None → (kids : List (Option ℕ)) → kids ≡ n.kids → (s : Sought) → IsIn m head kids k s
          → (kid spot : Spot) → kid.key ≡ slice_index_or n.kids s.number None → kid.frame.0 ≡ inner_frame head f → kid.clock ≡ inner_clock head s.number c
          → PastRightRule m kid.key kid.frame.0 kid.clock spot.key spot.clock → spot.frame ≡ kid.frame → NextRule m key f c k (Into s.number spot s.left)
      next_into e kids same s sought kid spot key_is frame_is_ clock_is past frame_stays a t u bare =
          let x = top a t u in
          let plain = bare_head bare in
          let ts = terms_of head c 0 (shapes_of x.below) in
          let i = s.number in
          let child_term : child t i ≡ term_at ts i = child_is a m f c n t x i plain in
          let in_frame : spot.frame.0 ≡ inner_frame head f = ap (λ (z : FrameId). z.0) frame_stays ∙ frame_is_ in
          let right : RightUnder a m kid.frame.0 kid.key kid.clock (term_at ts i) =
          subst (λ z. RightUnder a m z kid.key kid.clock (term_at ts i)) (sym frame_is_)
          (subst (λ z. RightUnder a m (inner_frame head f) z kid.clock (term_at ts i)) (sym key_is)
          (subst (λ z. RightUnder a m (inner_frame head f) (slice_index_or n.kids i None) z (term_at ts i)) (sym clock_is) (child_right a m f c n t x i sought.active))) in
          let gone_past = past a (term_at ts i) right in
          let kids_are : kids ≡ roots x.below = same ∙ x.keys in
          let there_too : i < width (shapes_of x.below) = subst (λ z. i < z) (ap length kids_are ∙ width_is x.below) sought.there in
          let zero_plus : 0 + i ≡ i = omega arith in
          record {
            right = subst (RightUnder a m spot.frame.0 spot.key spot.clock) (sym child_term) (subst (λ z. RightUnder a m z spot.key spot.clock (term_at ts i)) (sym (ap (λ (z : FrameId). z.0) frame_stays)) gone_past.0);
            bare = gone_past.1;
            in_frame = in_frame ∙ frame_is a m f c n t x plain;
            lower = subst (λ z. height z < height t) (sym child_term) (subst (λ z. height (term_at ts i) < height z) (sym x.means) (lower head c (shapes_of x.below) i plain there_too sought.active));
            same = ap (λ ns. slice_get ns k) (cut_is a t u bare e)
                ∙ found_in (does a) internal a (λ g d y. refl) (λ g. refl) m (inner_frame head f) head c 0 x.below k i s.left x.stand x.right
                (subst (λ z. reaches head z ≡ true) (sym zero_plus) sought.active)
                (subst (λ z. s.left < count_under internal m (slice_index_or z i None)) kids_are sought.within)
                (subst (λ z. k ≡ s.left + counts internal m head 0 (take i z)) kids_are sought.before)
                ∙ (λ w. option_map (further (zero_plus w)) (slice_get (actions_in a (sym in_frame w) (sym child_term w)) s.left));
          }
