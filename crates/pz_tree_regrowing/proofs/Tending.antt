-- A node that is put back over tended children is tended; and what is tended is not done.
use Rattle.std.proofs.Common.{◌≡◌, ◌+◌, ◌-◌, ◌^◌, ℕ, zero, suc, min, false, Option, Some, None, refl, ap, sym, ◌∙◌, subst, arith}
use Rattle.std.specs.Prelude.{option_map}
use Rattle.pz_nodes_shapes.specs.Rose.{node, none, gone, more}
use Rattle.pz_rules.specs.pz_offer.declared.summary.Summary.{Summary}
use Rattle.pz_rules.specs.pz_offer.Summaries.{nothing, join}
use Rattle.pz_rules.specs.pz_offer.Summaries as summaries
use Rattle.pz_rules.specs.Terms.{Terms, term_at}
use Rattle.pz_rules.specs.Settings.{Context}
use Rattle.pz_rules.specs.Leaving.{is_done}
use Rattle.pz_tree_nodes.specs.pz_tree_standing.Asked.{asks}
use Rattle.pz_tree_nodes.specs.pz_tree_standing.Summaries.{summary_of}
use Rattle.pz_tree_nodes.proofs.pz_tree_standing_proofs.Unasked.{or_neither, unasked_is_steady}
use Rattle.pz_tree_nodes.specs.pz_tree_standing.Heads.{Head, leaf, wait, sequence, parallel, select, guarded, frame, abort, idle, handling, shifted, Shapes, inner_clock, inner_frame, formed}
use Rattle.pz_tree_nodes.specs.pz_tree_standing.Heads as heads
use Rattle.pz_tree_nodes.specs.pz_tree_standing.Standing.{terms_of, HeadFits}
use Rattle.pz_tree_nodes.specs.pz_tree_standing.Resting.{RestAll}
use Rattle.pz_tree_nodes.specs.pz_tree_standing.Whole.{IsNoShift, HasParts, Whole}
use Rattle.pz_tree_nodes.specs.pz_tree_standing.devices.Written as written
use Rattle.pz_tree_nodes.specs.pz_tree_standing.devices.Written.{node_summary}
use Rattle.pz_tree_nodes.proofs.pz_tree_standing_proofs.Resting.{rests_are_right}
use Rattle.pz_tree_nodes.proofs.pz_tree_standing_proofs.Written.{summary_formed}
use Rattle.pz_tree_nodes.specs.declared.node.What.{What}
use Rattle.pz_tree_nodes.specs.View.{Plant, Plants, head_view, shape_of, shapes_of, term_in}
use Rattle.pz_tree_nodes.specs.Tended.{Tended}
use Rattle.pz_tree_nodes.specs.Keeping.{IsMarked}
use Rattle.pz_tree_nodes.proofs.Marks.{marked_alike}
use Rattle.pz_rules.specs.Short.{IsShort}
use Rattle.pz_tree_nodes.specs.pz_tree_standing.Soon.{HasRoom, IsSoon}
use Rattle.pz_tree_nodes.proofs.pz_tree_standing_proofs.Soon.{short_soon, clock_back}
use Rattle.pz_tree_regrowing.specs.devices.Keeping.{moved, kept_at, kept_all, kept_formed, IsPutBack}
use Rattle.pz_tree_regrowing.specs.devices.Levels.{KidsTended, kid_terms}
use Rattle.pz_tree_regrowing.proofs.Kids.{kids_whole, kids_marked, kids_fit, kids_rest}
use Rattle.pz_tree_regrowing.proofs.Marking.{form_marked}

-- ------------------------------------------------------------ not done

pub form_undone : (h : Head) (c : ℕ) (ts : Terms) → IsNoShift h → is_done (formed h c ts) ≡ false
form_undone (leaf s) c ts n = refl
form_undone (wait due at) c ts n = refl
form_undone (sequence rest) c ts n = refl
form_undone parallel c ts n = refl
form_undone select c ts n = refl
form_undone (guarded e at s) c ts n = refl
form_undone (frame number inputs results) c ts n = refl
form_undone abort c ts n = refl
form_undone (idle again s) c ts n = refl
form_undone (handling again s) c ts n = refl
form_undone (shifted s) c ts n = absurd n

node_undone : (h : Head) (c : ℕ) (ss : Shapes) → HasParts h ss → is_done (formed h c (terms_of h c 0 ss)) ≡ false
node_undone (leaf s) c ss p = refl
node_undone (wait due at) c ss p = refl
node_undone (sequence rest) c ss p = refl
node_undone parallel c ss p = refl
node_undone select c ss p = refl
node_undone (guarded e at s) c ss p = refl
node_undone (frame number inputs results) c ss p = refl
node_undone abort c ss p = refl
node_undone (idle again s) c ss p = refl
node_undone (handling again s) c ss p = refl
node_undone (shifted s) c none p = absurd p
node_undone (shifted s) c (gone ss) p = absurd p
node_undone (shifted s) c (more (node k y ts) none) p = form_undone y.head (inner_clock (shifted s) 0 c) (terms_of y.head (inner_clock (shifted s) 0 c) 0 ts) p
node_undone (shifted s) c (more (node k y ts) (gone ss)) p = absurd p
node_undone (shifted s) c (more (node k y ts) (more u ss)) p = absurd p

-- what a node stands for is not done
pub some_undone : (c : ℕ) (p : Plant) → Whole (shape_of p) → is_done (term_in c p) ≡ false
some_undone c (node k x ps) w = node_undone (head_view x.head) c (shapes_of ps) w.0

-- ------------------------------------------------------------ what it keeps

at_seen : (ps : Plants) (j : ℕ) → (kept_at ps j).summary ≡ written.kept_at (shapes_of ps) j
at_seen none j = refl
at_seen (gone ps) zero = refl
at_seen (more (node k x qs) ps) zero = refl
at_seen (gone ps) (suc j) = at_seen ps j
at_seen (more p ps) (suc j) = at_seen ps j

all_seen : (ps : Plants) → (kept_all ps).summary ≡ written.kept_all (shapes_of ps)
all_seen none = refl
all_seen (gone ps) = ap (join nothing) (all_seen ps)
all_seen (more (node k x qs) ps) = ap (join x.kept.summary) (all_seen ps)

-- what is due soon there is due at a moment here
moved_due : (by inner c : ℕ) (d : Option ℕ) → inner + by ≡ c → HasRoom c → IsSoon inner d → option_map (λ x. min (x + by) (2 ^ 128 - 1)) d ≡ option_map (λ x. x + by) d
moved_due by inner c None e room soon = refl
moved_due by inner c (Some d) e room soon = ap (λ x. Some x) (let q : min (d + by) (2 ^ 128 - 1) ≡ d + by = omega (arith, e, room, soon) in q)

moved_soon : (by inner c : ℕ) (s : Summary) → inner + by ≡ c → HasRoom c → IsSoon inner s.due → moved by s ≡ summaries.shifted by s
moved_soon by inner c s e room soon = ap (λ d. record s { due = d }) (moved_due by inner c s.due e room soon)

-- so it is of the first child, where that is asked nothing
first_moved : (a : Context) (f c by : ℕ) (h : Head) (ps : Plants) → inner_clock h 0 c + by ≡ c → HasRoom c → RestAll f h c 0 (shapes_of ps)
    → asks (term_at (kid_terms h c ps) 0) ≡ false → IsShort (term_at (kid_terms h c ps) 0) → moved by (kept_at ps 0).summary ≡ summaries.shifted by (kept_at ps 0).summary
first_moved a f c by h none e room rest unasked short = refl
first_moved a f c by h (gone ps) e room rest unasked short = refl
first_moved a f c by h (more (node k x qs) ps) e room rest unasked short =
    let inner = inner_clock h 0 c in
    let t = term_in inner (node k x qs) in
    moved_soon by inner c x.kept.summary e room (subst (λ (s : Summary). IsSoon inner s.due) (sym (rest.0.0 unasked a)) (short_soon a inner f t unasked short))

form_seen : (a : Context) (f c : ℕ) (h : Head) (ps : Plants) → IsPutBack h → HeadFits h c → HasRoom c → RestAll (inner_frame h f) h c 0 (shapes_of ps)
    → asks (formed h c (kid_terms h c ps)) ≡ false → IsShort (formed h c (kid_terms h c ps)) → (kept_formed h ps).summary ≡ node_summary a f c h (shapes_of ps)
form_seen a f c (leaf s) ps b fits room rest e short = absurd b
form_seen a f c (wait due at) ps b fits room rest e short = absurd b
form_seen a f c (sequence rest_steps) ps b fits room rest e short = at_seen ps 0
form_seen a f c parallel ps b fits room rest e short = all_seen ps
form_seen a f c select ps b fits room rest e short = absurd b
form_seen a f c (guarded test at s) ps b fits room rest e short = absurd b
form_seen a f c (frame number inputs results) ps b fits room rest e short = at_seen ps 0
form_seen a f c abort ps b fits room rest e short = λ n. join (at_seen ps 0 n) (at_seen ps 1 n)
form_seen a f c (idle again s) ps b fits room rest e short =
    let h = idle again s in
    let ts = kid_terms h c ps in
    let unasked = or_neither (asks (term_at ts 0)) (asks (term_at ts 1)) e in
    let first = first_moved a f c s.behind h ps (clock_back h c 0 fits refl) room rest unasked.0 short.0 ∙ ap (summaries.shifted s.behind) (at_seen ps 0) in
    λ n. join (first n) (at_seen ps 1 n)
form_seen a f c (handling again s) ps b fits room rest e short = at_seen ps 1
form_seen a f c (shifted s) ps b fits room rest e short =
    let h = shifted s in first_moved a f c s.behind h ps (clock_back h c 0 fits refl) room rest e short ∙ ap (summaries.shifted s.behind) (at_seen ps 0)

-- where nothing is asked, all that is active is right, and so is what is made of it
form_rests : (a : Context) (f c : ℕ) (h : Head) (ss : Shapes) → HeadFits h c → RestAll (inner_frame h f) h c 0 ss → asks (formed h c (terms_of h c 0 ss)) ≡ false
    → node_summary a f c h ss ≡ summary_of a c f (formed h c (terms_of h c 0 ss))
form_rests a f c h ss fits rest e =
    let t = formed h c (terms_of h c 0 ss) in
    let y : heads.What = record { head = h; kept = summary_of a c f t } in
    let r = rests_are_right a f c (node 0 y ss) e ((λ u b. unasked_is_steady a b c f t u), rest) in
    summary_formed a f c h ss fits r.1 r.2

-- ------------------------------------------------------------ a node

module _ (f c k : ℕ) (x : What) (ps : Plants) where
  pub node_tended : HasParts (head_view x.head) (shapes_of ps) → HeadFits (head_view x.head) c → KidsTended (inner_frame (head_view x.head) f) (head_view x.head) c 0 ps
      → IsPutBack (head_view x.head) → x.kept ≡ kept_formed (head_view x.head) ps → HasRoom c → IsShort (term_in c (node k x ps)) → Tended f c (node k x ps)
  node_tended parts fits kids back keeps room short =
      let h = head_view x.head in
      let g = inner_frame h f in
      let marks = kids_marked g h c 0 ps kids in
      record {
        sound = record {
          whole = (parts, kids_whole g h c 0 ps kids);
          fits = (fits, kids_fit g h c 0 ps kids);
          rests = (
            (λ e a. ap (λ z. z.summary) keeps ∙ form_seen a f c h ps back fits room (kids_rest g h c 0 ps kids) e short ∙ form_rests a f c h (shapes_of ps) fits (kids_rest g h c 0 ps kids) e),
            kids_rest g h c 0 ps kids,
          );
        };
        marked = ((λ d. marked_alike c d (shape_of (node k x ps)) x.kept (subst (IsMarked (term_in c (node k x ps))) (sym keeps) (form_marked h c ps back marks))), marks);
      }

-- the topmost node of what is tended, taken apart
pub node_kids : (f c k : ℕ) (x : What) (ps : Plants) → Tended f c (node k x ps) → KidsTended (inner_frame (head_view x.head) f) (head_view x.head) c 0 ps
node_kids f c k x ps t = Rattle.pz_tree_regrowing.proofs.Kids.kids_tended (inner_frame (head_view x.head) f) (head_view x.head) c 0 ps t.sound.whole.1 t.marked.1 t.sound.fits.1 t.sound.rests.1
