-- What no clock decides of a node that is put back, from what none decides of its children.
use Rattle.std.proofs.Common.{◌≡◌, ℕ, zero, suc, max, false, ◌||◌, List, refl, ap, sym, ◌∙◌}
use Rattle.pz_classes_code.specs.declared.slot.Slot.{Slot}
use Rattle.pz_nodes_shapes.specs.Rose.{node, none, gone, more}
use Rattle.pz_rules.specs.Terms.{Step, Steps, Term, done, sequence, frame, abort, idle, handling, term_at, greatest_height}
use Rattle.pz_rules.specs.Settings.{Context}
use Rattle.pz_rules.specs.devices.Walk.{active_parts}
use Rattle.pz_tree_nodes.specs.pz_tree_standing.Asked.{asks, any_asks}
use Rattle.pz_tree_nodes.specs.pz_tree_standing.Woken.{begins, is_clocked, starts, clocked}
use Rattle.pz_tree_nodes.proofs.pz_tree_standing_proofs.Unasked.{or_neither}
use Rattle.pz_tree_nodes.specs.pz_tree_standing.Heads as heads
use Rattle.pz_tree_nodes.specs.pz_tree_standing.Heads.{Head, inner_clock, formed}
use Rattle.pz_tree_nodes.specs.pz_tree_standing.Standing.{terms_of}
use Rattle.pz_tree_nodes.specs.declared.kept.Kept.{Kept}
use Rattle.pz_tree_nodes.specs.Keeping.{HasFlags, IsMarked, any_term, kept_done, joined, raised}
use Rattle.pz_tree_nodes.specs.View.{Plants, shapes_of}
use Rattle.pz_tree_nodes.specs.Tended.{AreMarked}
use Rattle.pz_tree_nodes.proofs.Wakings.{in_under, in_two, in_children}
use Rattle.pz_tree_nodes.specs.devices.Leaves.{second_alone}
use Rattle.pz_tree_regrowing.specs.devices.Keeping.{kept_at, kept_all, kept_behind, kept_formed, IsPutBack}
use Rattle.pz_tree_regrowing.specs.devices.Levels.{kid_terms}

done_marked : IsMarked done kept_done
done_marked = record { asked = refl; high = refl; flags = λ e a f. record { starts = refl; clocked = refl } }

kid_marked : (h : Head) (c i : ℕ) (ps : Plants) (j : ℕ) → AreMarked ps → IsMarked (term_at (terms_of h c i (shapes_of ps)) j) (kept_at ps j)
kid_marked h c i none j m = done_marked
kid_marked h c i (gone ps) zero m = done_marked
kid_marked h c i (more (node k x qs) ps) zero m = m.0.0 (inner_clock h i c)
kid_marked h c i (gone ps) (suc j) m = kid_marked h c (suc i) ps j m
kid_marked h c i (more p ps) (suc j) m = kid_marked h c (suc i) ps j m.1

-- ------------------------------------------------------------ side by side

module _ (h : Head) (c : ℕ) where
  all_asked : (i : ℕ) (ps : Plants) → AreMarked ps → (kept_all ps).asks ≡ any_asks (terms_of h c i (shapes_of ps))
  all_asked i none m = refl
  all_asked i (gone ps) m = all_asked (suc i) ps m
  all_asked i (more (node k x qs) ps) m = λ n. (m.0.0 (inner_clock h i c)).asked n || all_asked (suc i) ps m.1 n

  all_high : (i : ℕ) (ps : Plants) → AreMarked ps → (kept_all ps).height ≡ greatest_height (terms_of h c i (shapes_of ps))
  all_high i none m = refl
  all_high i (gone ps) m = ap (max 1) (all_high (suc i) ps m)
  all_high i (more (node k x qs) ps) m = λ n. max ((m.0.0 (inner_clock h i c)).high n) (all_high (suc i) ps m.1 n)

  all_start : (a : Context) (f i : ℕ) (ps : Plants) → AreMarked ps → any_asks (terms_of h c i (shapes_of ps)) ≡ false → (kept_all ps).starts ≡ any_term (starts a f) (terms_of h c i (shapes_of ps))
  all_start a f i none m e = refl
  all_start a f i (gone ps) m e = all_start a f (suc i) ps m e
  all_start a f i (more (node k x qs) ps) m e =
      let t = Rattle.pz_tree_nodes.specs.View.term_in (inner_clock h i c) (node k x qs) in
      let p = or_neither (asks t) (any_asks (terms_of h c (suc i) (shapes_of ps))) e in
      let w = (m.0.0 (inner_clock h i c)).flags p.0 a f in
      λ n. w.starts n || all_start a f (suc i) ps m.1 p.1 n

  all_clocked : (a : Context) (f i : ℕ) (ps : Plants) → AreMarked ps → any_asks (terms_of h c i (shapes_of ps)) ≡ false → (kept_all ps).clocked ≡ any_term (clocked a f) (terms_of h c i (shapes_of ps))
  all_clocked a f i none m e = refl
  all_clocked a f i (gone ps) m e = all_clocked a f (suc i) ps m e
  all_clocked a f i (more (node k x qs) ps) m e =
      let t = Rattle.pz_tree_nodes.specs.View.term_in (inner_clock h i c) (node k x qs) in
      let p = or_neither (asks t) (any_asks (terms_of h c (suc i) (shapes_of ps))) e in
      let w = (m.0.0 (inner_clock h i c)).flags p.0 a f in
      λ n. w.clocked n || all_clocked a f (suc i) ps m.1 p.1 n

-- ------------------------------------------------------------ form by form

module _ (t : Term) (k : Kept) (h : IsMarked t k) where
  sequence_marked : (rest : Steps) → IsMarked (sequence t rest) (raised k)
  sequence_marked rest = record {
    asked = h.asked;
    high = ap suc h.high;
    flags = λ e a f. let w = h.flags e a f in record {
      starts = w.starts ∙ sym (in_under begins 0 (active_parts a f t));
      clocked = w.clocked ∙ sym (in_under is_clocked 0 (active_parts a f t));
    };
  }

  frame_marked : (number inputs : ℕ) (results : List Slot) → IsMarked (frame number inputs results t) (raised k)
  frame_marked number inputs results = record {
    asked = h.asked;
    high = ap suc h.high;
    flags = λ e a f. let w = h.flags e a number in record {
      starts = w.starts ∙ sym (in_under begins 0 (active_parts a number t));
      clocked = w.clocked ∙ sym (in_under is_clocked 0 (active_parts a number t));
    };
  }

  behind_marked : (by : ℕ) → IsMarked t (kept_behind by k)
  behind_marked by = record {
    asked = h.asked;
    high = h.high;
    flags = λ e a f. let w = h.flags e a f in record { starts = w.starts; clocked = w.clocked };
  }

module _ (t u : Term) (k l : Kept) (h : IsMarked t k) (g : IsMarked u l) where
  both_flags : asks t || asks u ≡ false → (a : Context) (f : ℕ) → HasFlags a f (abort t u) (joined k l)
  both_flags e a f =
      let p = or_neither (asks t) (asks u) e in
      let v = h.flags p.0 a f in
      let w = g.flags p.1 a f in
      record {
        starts = (λ i. v.starts i || w.starts i) ∙ sym (in_two begins (active_parts a f t) (active_parts a f u));
        clocked = (λ i. v.clocked i || w.clocked i) ∙ sym (in_two is_clocked (active_parts a f t) (active_parts a f u));
      }

  abort_marked : IsMarked (abort t u) (raised (joined k l))
  abort_marked = record {
    asked = λ i. h.asked i || g.asked i;
    high = λ i. suc (max (h.high i) (g.high i));
    flags = λ e a f. let w = both_flags e a f in record { starts = w.starts; clocked = w.clocked };
  }

  idle_marked : (again : Step) → IsMarked (idle t u again) (raised (joined k l))
  idle_marked again = record {
    asked = λ i. h.asked i || g.asked i;
    high = λ i. suc (max (h.high i) (g.high i));
    flags = λ e a f. let w = both_flags e a f in record { starts = w.starts; clocked = w.clocked };
  }

  -- the first stands still
  handling_marked : (again : Step) → IsMarked (handling t u again) (raised (second_alone k l))
  handling_marked again = record {
    asked = g.asked;
    high = λ i. suc (max (h.high i) (g.high i));
    flags = λ e a f. let w = g.flags e a f in record {
      starts = w.starts ∙ sym (in_under begins 1 (active_parts a f u));
      clocked = w.clocked ∙ sym (in_under is_clocked 1 (active_parts a f u));
    };
  }

pub form_marked : (h : Head) (c : ℕ) (ps : Plants) → IsPutBack h → AreMarked ps → IsMarked (formed h c (kid_terms h c ps)) (kept_formed h ps)
form_marked (heads.leaf s) c ps b m = absurd b
form_marked (heads.wait due at) c ps b m = absurd b
form_marked (heads.sequence rest) c ps b m = let h = heads.sequence rest in sequence_marked (term_at (kid_terms h c ps) 0) (kept_at ps 0) (kid_marked h c 0 ps 0 m) rest
form_marked heads.parallel c ps b m =
    let ts = kid_terms heads.parallel c ps in
    record {
      asked = all_asked heads.parallel c 0 ps m;
      high = ap suc (all_high heads.parallel c 0 ps m);
      flags = λ e a f. record {
        starts = all_start heads.parallel c a f 0 ps m e ∙ sym (in_children begins a f 0 ts);
        clocked = all_clocked heads.parallel c a f 0 ps m e ∙ sym (in_children is_clocked a f 0 ts);
      };
    }
form_marked heads.select c ps b m = absurd b
form_marked (heads.guarded e at s) c ps b m = absurd b
form_marked (heads.frame number inputs results) c ps b m =
    let h = heads.frame number inputs results in frame_marked (term_at (kid_terms h c ps) 0) (kept_at ps 0) (kid_marked h c 0 ps 0 m) number inputs results
form_marked heads.abort c ps b m =
    let ts = kid_terms heads.abort c ps in abort_marked (term_at ts 0) (term_at ts 1) (kept_at ps 0) (kept_at ps 1) (kid_marked heads.abort c 0 ps 0 m) (kid_marked heads.abort c 0 ps 1 m)
form_marked (heads.idle again s) c ps b m =
    let h = heads.idle again s in
    let ts = kid_terms h c ps in
    idle_marked (term_at ts 0) (term_at ts 1) (kept_behind s.behind (kept_at ps 0)) (kept_at ps 1) (behind_marked (term_at ts 0) (kept_at ps 0) (kid_marked h c 0 ps 0 m) s.behind) (kid_marked h c 0 ps 1 m) again
form_marked (heads.handling again s) c ps b m =
    let h = heads.handling again s in
    let ts = kid_terms h c ps in
    handling_marked (term_at ts 0) (term_at ts 1) (kept_at ps 0) (kept_at ps 1) (kid_marked h c 0 ps 0 m) (kid_marked h c 0 ps 1 m) again
form_marked (heads.shifted s) c ps b m =
    let h = heads.shifted s in behind_marked (term_at (kid_terms h c ps) 0) (kept_at ps 0) (kid_marked h c 0 ps 0 m) s.behind
