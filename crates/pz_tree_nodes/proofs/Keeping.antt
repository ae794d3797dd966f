-- What is kept of each form, from what is kept of its parts.
use Rattle.std.proofs.Common.{◌≡◌, ℕ, zero, suc, ◌+◌, max, eqb, if◌then◌else◌, ◌||◌, true, false, List, Some, refl, ap, sym, ◌∙◌, arith}
use Rattle.pz_classes_code.specs.pz_syntax.declared.tokens.Pos.{Pos}
use Rattle.pz_classes_code.specs.pz_syntax.Statements as statement
use Rattle.pz_classes_code.specs.declared.slot.Slot.{Slot}
use Rattle.pz_rules.specs.pz_offer.Summaries.{nothing, join}
use Rattle.pz_rules.specs.Terms.{Code, Step, Steps, Term, done, leaf, wait, sequence, parallel, select, guarded, frame, abort, idle, handling, Terms, no_terms, and, height}
use Rattle.pz_rules.specs.Settings.{Context}
use Rattle.pz_rules.specs.devices.Walk.{active_parts}
use Rattle.pz_tree_standing.specs.Summaries.{summary_of}
use Rattle.pz_tree_standing.specs.Asked.{asks, any_asks}
use Rattle.pz_tree_standing.specs.Woken.{begins, is_clocked, condition_names_clock}
use Rattle.pz_tree_standing.proofs.Tallies.{summary_sequence, summary_parallel, summary_select, summary_frame, summary_abort, summary_idle, summary_handling}
use Rattle.pz_tree_standing.proofs.Unasked.{or_neither}
use Rattle.pz_tree_nodes.specs.declared.kept.Kept.{Kept}
use Rattle.pz_tree_nodes.specs.Keeping.{HasFlags, IsKept, AreKept, kept_none, kept_done, joined, raised}
use Rattle.pz_tree_nodes.proofs.Wakings.{or_none, in_under, in_two, in_children}
use Rattle.pz_tree_nodes.specs.devices.Leaves.{statement_kept, delay_kept, unasked, second_alone}

-- of what is asked nothing
simply : (c : ℕ) (t : Term) (k : Kept) → k.asks ≡ asks t → k.height ≡ height t → ((a : Context) (f : ℕ) → HasFlags a f t k) → ((a : Context) (f : ℕ) → k.summary ≡ summary_of a c f t) → IsKept c t k
simply c t k e h w s = record { mark = record { asked = e; high = h; flags = λ u. w }; rests = λ u. s }

pub done_kept : (c : ℕ) → IsKept c done kept_done
done_kept c = simply c done kept_done refl refl (λ a f. record { starts = refl; clocked = refl }) (λ a f. refl)

pub leaf_is_kept : (c : ℕ) (s : Step) → IsKept c (leaf s) (statement_kept s)
leaf_is_kept c (statement.skip at) = simply c (leaf (statement.skip at)) (statement_kept (statement.skip at)) refl refl (λ a f. record { starts = refl; clocked = refl }) (λ a f. refl)
leaf_is_kept c (statement.delay at e) = record { mark = record { asked = refl; high = refl; flags = λ e a f. absurd cc }; rests = λ e a f. absurd cc }
leaf_is_kept c (statement.bracketed at ts) = simply c (leaf (statement.bracketed at ts)) (statement_kept (statement.bracketed at ts)) refl refl (λ a f. record { starts = refl; clocked = refl }) (λ a f. refl)
leaf_is_kept c (statement.block at es) = simply c (leaf (statement.block at es)) (statement_kept (statement.block at es)) refl refl (λ a f. record { starts = refl; clocked = refl }) (λ a f. refl)
leaf_is_kept c (statement.guarded at e t) = simply c (leaf (statement.guarded at e t)) (statement_kept (statement.guarded at e t)) refl refl (λ a f. record { starts = refl; clocked = refl }) (λ a f. refl)
leaf_is_kept c (statement.parallel at bs) = simply c (leaf (statement.parallel at bs)) (statement_kept (statement.parallel at bs)) refl refl (λ a f. record { starts = refl; clocked = refl }) (λ a f. refl)
leaf_is_kept c (statement.select at bs) = simply c (leaf (statement.select at bs)) (statement_kept (statement.select at bs)) refl refl (λ a f. record { starts = refl; clocked = refl }) (λ a f. refl)
leaf_is_kept c (statement.conditional at e ts other) = simply c (leaf (statement.conditional at e ts other)) (statement_kept (statement.conditional at e ts other)) refl refl (λ a f. record { starts = refl; clocked = refl }) (λ a f. refl)
leaf_is_kept c (statement.repeated at e ts) = simply c (leaf (statement.repeated at e ts)) (statement_kept (statement.repeated at e ts)) refl refl (λ a f. record { starts = refl; clocked = refl }) (λ a f. refl)
leaf_is_kept c (statement.abort at ts t) = simply c (leaf (statement.abort at ts t)) (statement_kept (statement.abort at ts t)) refl refl (λ a f. record { starts = refl; clocked = refl }) (λ a f. refl)
leaf_is_kept c (statement.interrupt at ts t) = simply c (leaf (statement.interrupt at ts t)) (statement_kept (statement.interrupt at ts t)) refl refl (λ a f. record { starts = refl; clocked = refl }) (λ a f. refl)
leaf_is_kept c (statement.send at port name args after) = record { mark = record { asked = refl; high = refl; flags = λ e a f. absurd cc }; rests = λ e a f. absurd cc }
leaf_is_kept c (statement.receive at port name into condition after) = simply c (leaf (statement.receive at port name into condition after)) (statement_kept (statement.receive at port name into condition after)) refl refl (λ a f. record { starts = refl; clocked = sym (or_none (condition_names_clock condition)) }) (λ a f. refl)
leaf_is_kept c (statement.call at method args results) = simply c (leaf (statement.call at method args results)) (statement_kept (statement.call at method args results)) refl refl (λ a f. record { starts = refl; clocked = refl }) (λ a f. refl)
leaf_is_kept c (statement.assignment at x e) = simply c (leaf (statement.assignment at x e)) (statement_kept (statement.assignment at x e)) refl refl (λ a f. record { starts = refl; clocked = refl }) (λ a f. refl)
leaf_is_kept c (statement.value at e) = simply c (leaf (statement.value at e)) (statement_kept (statement.value at e)) refl refl (λ a f. record { starts = refl; clocked = refl }) (λ a f. refl)

not_over : (n : ℕ) → eqb (suc n) 0 ≡ false
not_over n = elim (eqb (suc n) 0) as (λ b. eqb (suc n) 0 ≡ b → eqb (suc n) 0 ≡ false) [ true ↦ λ e. absurd (let f : suc n ≡ 0 = grind arith in omega (arith, f)) | false ↦ λ e. e ] refl

pub wait_is_kept : (c left due : ℕ) (at : Pos) → due ≡ c + left → IsKept c (wait left at) (delay_kept left due)
wait_is_kept c zero due at d = simply c (wait zero at) (delay_kept zero due) refl refl (λ a f. record { starts = refl; clocked = refl }) (λ a f i. record nothing { internal = 1; due = Some (d i) })
wait_is_kept c (suc left) due at d = simply c (wait (suc left) at) (delay_kept (suc left) due) refl refl (λ a f. record { starts = refl; clocked = refl })
    (λ a f i. record nothing { internal = ap (λ b. if b then 1 else 0) (not_over left) i; due = Some (d i) })

pub none_kept : (c : ℕ) → AreKept c no_terms kept_none
none_kept c = record { asked = refl; high = refl; starts = λ e a f. refl; clocked = λ e a f. refl; rests = λ e a f. refl }

module _ (c : ℕ) (t : Term) (k : Kept) (h : IsKept c t k) where
  pub guarded_kept : (test : Code) (at : Pos) → IsKept c (guarded test at t) (raised (unasked k))
  guarded_kept test at = record { mark = record { asked = refl; high = ap suc h.mark.high; flags = λ e a f. absurd cc }; rests = λ e a f. absurd cc }

  pub sequence_kept : (rest : Steps) → IsKept c (sequence t rest) (raised k)
  sequence_kept rest = record {
    mark = record {
      asked = h.mark.asked;
      high = ap suc h.mark.high;
      flags = λ e a f. let w = h.mark.flags e a f in record {
        starts = w.starts ∙ sym (in_under begins 0 (active_parts a f t));
        clocked = w.clocked ∙ sym (in_under is_clocked 0 (active_parts a f t));
      };
    };
    rests = λ e a f. h.rests e a f ∙ sym (summary_sequence a c f t rest);
  }

  pub frame_kept : (number inputs : ℕ) (results : List Slot) → IsKept c (frame number inputs results t) (raised k)
  frame_kept number inputs results = record {
    mark = record {
      asked = h.mark.asked;
      high = ap suc h.mark.high;
      flags = λ e a f. let w = h.mark.flags e a number in record {
        starts = w.starts ∙ sym (in_under begins 0 (active_parts a number t));
        clocked = w.clocked ∙ sym (in_under is_clocked 0 (active_parts a number t));
      };
    };
    rests = λ e a f. h.rests e a number ∙ sym (summary_frame a c f number inputs results t);
  }

  module _ (u : Term) (l : Kept) (g : IsKept c u l) where
    both_flags : asks t || asks u ≡ false → (a : Context) (f : ℕ) → HasFlags a f (abort t u) (joined k l)
    both_flags e a f =
        let p = or_neither (asks t) (asks u) e in
        let v = h.mark.flags p.0 a f in
        let w = g.mark.flags p.1 a f in
        record {
          starts = (λ i. v.starts i || w.starts i) ∙ sym (in_two begins (active_parts a f t) (active_parts a f u));
          clocked = (λ i. v.clocked i || w.clocked i) ∙ sym (in_two is_clocked (active_parts a f t) (active_parts a f u));
        }

    pub abort_kept : IsKept c (abort t u) (raised (joined k l))
    abort_kept = record {
      mark = record {
        asked = λ i. h.mark.asked i || g.mark.asked i;
        high = λ i. suc (max (h.mark.high i) (g.mark.high i));
        flags = λ e a f. let w = both_flags e a f in record { starts = w.starts; clocked = w.clocked };
      };
      rests = λ e a f. let p = or_neither (asks t) (asks u) e in (λ i. join (h.rests p.0 a f i) (g.rests p.1 a f i)) ∙ sym (summary_abort a c f t u);
    }

    pub idle_kept : (again : Step) → IsKept c (idle t u again) (raised (joined k l))
    idle_kept again = record {
      mark = record {
        asked = λ i. h.mark.asked i || g.mark.asked i;
        high = λ i. suc (max (h.mark.high i) (g.mark.high i));
        flags = λ e a f. let w = both_flags e a f in record { starts = w.starts; clocked = w.clocked };
      };
      rests = λ e a f. let p = or_neither (asks t) (asks u) e in (λ i. join (h.rests p.0 a f i) (g.rests p.1 a f i)) ∙ sym (summary_idle a c f t u again);
    }

    -- the first stands still
    pub handling_kept : (again : Step) → IsKept c (handling t u again) (raised (second_alone k l))
    handling_kept again = record {
      mark = record {
        asked = g.mark.asked;
        high = λ i. suc (max (h.mark.high i) (g.mark.high i));
        flags = λ e a f. let w = g.mark.flags e a f in record {
          starts = w.starts ∙ sym (in_under begins 1 (active_parts a f u));
          clocked = w.clocked ∙ sym (in_under is_clocked 1 (active_parts a f u));
        };
      };
      rests = λ e a f. g.rests e a f ∙ sym (summary_handling a c f t u again);
    }

  pub more_kept : (ts : Terms) (l : Kept) → AreKept c ts l → AreKept c (and t ts) (joined k l)
  more_kept ts l g = record {
    asked = λ i. h.mark.asked i || g.asked i;
    high = λ i. max (h.mark.high i) (g.high i);
    starts = λ e a f. let p = or_neither (asks t) (any_asks ts) e in let w = h.mark.flags p.0 a f in λ i. w.starts i || g.starts p.1 a f i;
    clocked = λ e a f. let p = or_neither (asks t) (any_asks ts) e in let w = h.mark.flags p.0 a f in λ i. w.clocked i || g.clocked p.1 a f i;
    rests = λ e a f. let p = or_neither (asks t) (any_asks ts) e in λ i. join (h.rests p.0 a f i) (g.rests p.1 a f i);
  }

module _ (c : ℕ) (ts : Terms) (k : Kept) (h : AreKept c ts k) where
  all_flags : any_asks ts ≡ false → (a : Context) (f : ℕ) → HasFlags a f (parallel ts) k
  all_flags e a f = record {
    starts = h.starts e a f ∙ sym (in_children begins a f 0 ts);
    clocked = h.clocked e a f ∙ sym (in_children is_clocked a f 0 ts);
  }

  pub parallel_kept : IsKept c (parallel ts) (raised k)
  parallel_kept = record {
    mark = record { asked = h.asked; high = ap suc h.high; flags = λ e a f. let w = all_flags e a f in record { starts = w.starts; clocked = w.clocked } };
    rests = λ e a f. h.rests e a f ∙ sym (summary_parallel a c f ts);
  }

  pub select_kept : IsKept c (select ts) (raised k)
  select_kept = record {
    mark = record { asked = h.asked; high = ap suc h.high; flags = λ e a f. let w = all_flags e a f in record { starts = w.starts; clocked = w.clocked } };
    rests = λ e a f. h.rests e a f ∙ sym (summary_select a c f ts);
  }
