-- The nodes that planting puts over its parts, form by form.
use Rattle.std.proofs.Common.{◌≡◌, ℕ, zero, suc, ◌+◌, ◌-◌, List, refl, ap, arith}
use Rattle.pz_classes_code.specs.pz_syntax.declared.tokens.Pos.{Pos}
use Rattle.pz_classes_code.specs.declared.slot.Slot.{Slot}
use Rattle.pz_clock.specs.Shifts.{new_shift, frozen}
use Rattle.pz_rules.specs.Terms.{Code, Step, Steps, Term, Terms, no_terms, and}
use Rattle.pz_rules.specs.Terms as term
use Rattle.pz_tree_standing.specs.Heads.{inner_clock}
use Rattle.pz_tree_standing.specs.Heads as heads
use Rattle.pz_tree_nodes.specs.Planting.{nodes_of}
use Rattle.pz_tree_nodes.specs.devices.Parts.{Forms}

behind_none : (c : ℕ) → c - 0 ≡ c
behind_none c = omega arith

one_more : (n : ℕ) → suc n ≡ suc (n + 0)
one_more n = omega arith

two_more : (n k : ℕ) → suc (n + k) ≡ suc (n + (k + 0))
two_more n k = omega arith

pub leaf_forms : (c : ℕ) (s : Step) → Forms c (heads.leaf s) no_terms (term.leaf s)
leaf_forms c s = record { clocks = λ i. refl; fits = tt; parts = λ ss w. w; forms = refl; size = refl }

pub wait_forms : (c left due : ℕ) (at : Pos) → due ≡ c + left → Forms c (heads.wait due at) no_terms (term.wait left at)
wait_forms c left due at e = record {
  clocks = λ i. refl;
  fits = omega (arith, e);
  parts = λ ss w. w;
  forms = ap (λ z. term.wait z at) (let d : due - c ≡ left = omega (arith, e) in d);
  size = refl;
}

pub sequence_forms : (c : ℕ) (t : Term) (rest : Steps) → Forms c (heads.sequence rest) (and t no_terms) (term.sequence t rest)
sequence_forms c t rest = record { clocks = λ i. refl; fits = tt; parts = λ ss w. w; forms = refl; size = one_more (nodes_of t) }

pub parallel_forms : (c : ℕ) (ts : Terms) → Forms c heads.parallel ts (term.parallel ts)
parallel_forms c ts = record { clocks = λ i. refl; fits = tt; parts = λ ss w. tt; forms = refl; size = refl }

pub select_forms : (c : ℕ) (ts : Terms) → Forms c heads.select ts (term.select ts)
select_forms c ts = record { clocks = λ i. refl; fits = tt; parts = λ ss w. tt; forms = refl; size = refl }

pub guarded_forms : (c : ℕ) (e : Code) (at : Pos) (t : Term) → Forms c (heads.guarded e at new_shift) (and t no_terms) (term.guarded e at t)
guarded_forms c e at t = record { clocks = λ i. behind_none c; fits = omega arith; parts = λ ss w. w; forms = refl; size = one_more (nodes_of t) }

pub frame_forms : (c number inputs : ℕ) (results : List Slot) (t : Term) → Forms c (heads.frame number inputs results) (and t no_terms) (term.frame number inputs results t)
frame_forms c number inputs results t = record { clocks = λ i. refl; fits = tt; parts = λ ss w. w; forms = refl; size = one_more (nodes_of t) }

pub abort_forms : (c : ℕ) (t u : Term) → Forms c heads.abort (and t (and u no_terms)) (term.abort t u)
abort_forms c t u = record { clocks = λ i. refl; fits = tt; parts = λ ss w. w; forms = refl; size = two_more (nodes_of t) (nodes_of u) }

idle_clocks : (c : ℕ) (again : Step) (i : ℕ) → inner_clock (heads.idle again new_shift) i c ≡ c
idle_clocks c again zero = behind_none c
idle_clocks c again (suc i) = refl

pub idle_forms : (c : ℕ) (t u : Term) (again : Step) → Forms c (heads.idle again new_shift) (and t (and u no_terms)) (term.idle t u again)
idle_forms c t u again = record { clocks = idle_clocks c again; fits = (omega arith, refl); parts = λ ss w. w; forms = refl; size = two_more (nodes_of t) (nodes_of u) }

handling_clocks : (c : ℕ) (again : Step) (i : ℕ) → inner_clock (heads.handling again (frozen new_shift c)) i c ≡ c
handling_clocks c again zero = behind_none c
handling_clocks c again (suc i) = refl

pub handling_forms : (c : ℕ) (t u : Term) (again : Step) → Forms c (heads.handling again (frozen new_shift c)) (and t (and u no_terms)) (term.handling t u again)
handling_forms c t u again = record { clocks = handling_clocks c again; fits = ((omega arith, omega arith), refl); parts = λ ss w. w; forms = refl; size = two_more (nodes_of t) (nodes_of u) }
